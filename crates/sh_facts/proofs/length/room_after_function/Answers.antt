use Rattle.std.proofs.Common.{◌-◌, arith}
use Rattle.sh_domain.specs.Certificates.{in_byte_order, function_claims}
use Rattle.sh_facts.proofs.LengthLemmas.{function_bytes}
use Rattle.sh_facts.proofs.RoomLemmas.{no_room, others}
use Rattle.sh_facts.proofs.length.room_after_function.Goals as goal

pub returns-in_err-numbered : goal.returns-in_err-numbered
returns-in_err-numbered c =
    let all = function_bytes c.args.number (function_claims (in_byte_order c.args.names.now) c.args.rows.now c.args.entry.now) in
    no_room c.args.room _ c.from_residual.result c.from_residual.ensures (omega (arith, all, c.digits_of.ensures.value, c.in_err-numbered.ensures))

pub returns-in_err-before : goal.returns-in_err-before
returns-in_err-before c =
    let all = function_bytes c.args.number (function_claims (in_byte_order c.args.names.now) c.args.rows.now c.args.entry.now) in
    no_room c.args.room _ c.from_residual-in_err-before.result c.from_residual-in_err-before.ensures (omega (arith, all, c.digits_of.ensures.value, c.in_ok-numbered.ensures.1, c.in_err-before.ensures))

pub returns-in_err-drops : goal.returns-in_err-drops
returns-in_err-drops c =
    let all = function_bytes c.args.number (function_claims (in_byte_order c.args.names.now) c.args.rows.now c.args.entry.now) in
    no_room c.args.room _ c.from_residual-in_err-drops.result c.from_residual-in_err-drops.ensures
    (omega (arith, all, c.digits_of.ensures.value, c.in_ok-numbered.ensures.1, c.in_ok-before.ensures, c.in_err-drops.ensures))

pub returns-in_err-zero : goal.returns-in_err-zero
returns-in_err-zero c =
    let all = function_bytes c.args.number (function_claims (in_byte_order c.args.names.now) c.args.rows.now c.args.entry.now) in
    no_room c.args.room _ c.from_residual-in_err-zero.result c.from_residual-in_err-zero.ensures
    (omega (arith, all, c.digits_of.ensures.value, c.in_ok-numbered.ensures.1, c.in_ok-before.ensures, c.in_ok-drops.ensures, c.in_err-zero.ensures))

pub returns : goal.returns
returns c =
    let all = function_bytes c.args.number (function_claims (in_byte_order c.args.names.now) c.args.rows.now c.args.entry.now) in
    others c.args.room c.in_ok-zero.zero (c.args.room - c.in_ok-zero.zero) _ _ c.room_after_fact-3.result
    (omega (arith, c.in_ok-numbered.ensures.0, c.in_ok-numbered.ensures.1, c.in_ok-before.ensures, c.in_ok-drops.ensures, c.in_ok-zero.ensures))
    (omega (arith, all, c.digits_of.ensures.value, c.in_ok-numbered.ensures.0, c.in_ok-numbered.ensures.1, c.in_ok-before.ensures, c.in_ok-drops.ensures, c.in_ok-zero.ensures))
    c.room_after_fact-3.ensures
