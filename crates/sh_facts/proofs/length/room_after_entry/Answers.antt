use Rattle.std.proofs.Common.{◌-◌, ap, arith}
use Rattle.std.specs.Option.{option_copied}
use Rattle.sh_domain.specs.Certificates.{in_byte_order, command_claims}
use Rattle.sh_facts.proofs.LengthLemmas.{command_bytes, head_bytes, no_head_bytes}
use Rattle.sh_facts.proofs.RoomLemmas.{no_room, others}
use Rattle.sh_facts.proofs.length.room_after_entry.Goals as goal

pub returns-in_err-numbered : goal.returns-in_err-numbered
returns-in_err-numbered c =
    let all = command_bytes c.args.number (command_claims (in_byte_order c.args.names.now) c.args.rows.now c.args.entry.now (option_copied c.args.head)) in
    no_room c.args.room _ c.from_residual.result c.from_residual.ensures (omega (arith, all, c.digits_of.ensures.value, c.in_err-numbered.ensures))

pub returns-in_err-before : goal.returns-in_err-before
returns-in_err-before c =
    let all = command_bytes c.args.number (command_claims (in_byte_order c.args.names.now) c.args.rows.now c.args.entry.now (option_copied c.args.head)) in
    no_room c.args.room _ c.from_residual-in_err-before.result c.from_residual-in_err-before.ensures (omega (arith, all, c.digits_of.ensures.value, c.in_ok-numbered.ensures.1, c.in_err-before.ensures))

pub returns-in_err-zero : goal.returns-in_err-zero
returns-in_err-zero c =
    let all = command_bytes c.args.number (command_claims (in_byte_order c.args.names.now) c.args.rows.now c.args.entry.now (option_copied c.args.head)) in
    no_room c.args.room _ c.from_residual-in_err-zero.result c.from_residual-in_err-zero.ensures
    (omega (arith, all, c.digits_of.ensures.value, c.in_ok-numbered.ensures.1, c.in_ok-before.ensures, c.in_err-zero.ensures))

pub returns-in_err-nonzero : goal.returns-in_err-nonzero
returns-in_err-nonzero c =
    let all = command_bytes c.args.number (command_claims (in_byte_order c.args.names.now) c.args.rows.now c.args.entry.now (option_copied c.args.head)) in
    no_room c.args.room _ c.from_residual-in_err-nonzero.result c.from_residual-in_err-nonzero.ensures
    (omega (arith, all, c.digits_of.ensures.value, c.in_ok-numbered.ensures.1, c.in_ok-before.ensures, c.in_ok-zero.ensures, c.in_err-nonzero.ensures))

pub returns-in-Some : goal.returns-in-Some
returns-in-Some c =
    let all = command_bytes c.args.number (command_claims (in_byte_order c.args.names.now) c.args.rows.now c.args.entry.now (option_copied c.args.head)) in
    let head = head_bytes (in_byte_order c.args.names.now) c.args.rows.now (option_copied c.args.head) c.in-Some.head.now (ap option_copied c.in-Some.is) in
    others c.args.room c.in_ok-nonzero.nonzero (c.args.room - c.in_ok-nonzero.nonzero) _ _ c.room_after_fact-in-Some.result
    (omega (arith, c.in_ok-numbered.ensures.0, c.in_ok-numbered.ensures.1, c.in_ok-before.ensures, c.in_ok-zero.ensures, c.in_ok-nonzero.ensures))
    (omega (arith, all, head, c.digits_of.ensures.value, c.in_ok-numbered.ensures.0, c.in_ok-numbered.ensures.1, c.in_ok-before.ensures, c.in_ok-zero.ensures, c.in_ok-nonzero.ensures))
    c.room_after_fact-in-Some.ensures

pub returns-in-None : goal.returns-in-None
returns-in-None c =
    let all = command_bytes c.args.number (command_claims (in_byte_order c.args.names.now) c.args.rows.now c.args.entry.now (option_copied c.args.head)) in
    let head = no_head_bytes (in_byte_order c.args.names.now) c.args.rows.now (option_copied c.args.head) (ap option_copied c.in-None.is) in
    omega (arith, all, head, c.digits_of.ensures.value, c.in_ok-numbered.ensures.0, c.in_ok-numbered.ensures.1, c.in_ok-before.ensures, c.in_ok-zero.ensures, c.in_ok-nonzero.ensures)
