use Rattle.std.proofs.Common.{◌+◌, arith}
use Rattle.sh_domain.specs.Certificates.{in_byte_order}
use Rattle.sh_facts.proofs.LengthLemmas.{known_bytes, skipped_bytes}
use Rattle.sh_facts.proofs.RoomLemmas.{no_room, others, taken}
use Rattle.sh_facts.proofs.length.room_after_fact.Goals as goal

pub returns-in_err-parameters-in-Known : goal.returns-in_err-parameters-in-Known
returns-in_err-parameters-in-Known c =
    let all = known_bytes (in_byte_order c.args.names.now) c.args.rows.now c.args.facts c.in-Known.vars c.in-Known.functions c.in-Known.args c.in-Known.is in
    no_room c.args.room _ c.from_residual.result c.from_residual.ensures (omega (arith, all, c.digits_of.ensures.value, c.in_err-parameters-in-Known.ensures))

pub returns-in_ok-parameters-in-Known : goal.returns-in_ok-parameters-in-Known
returns-in_ok-parameters-in-Known c =
    let all = known_bytes (in_byte_order c.args.names.now) c.args.rows.now c.args.facts c.in-Known.vars c.in-Known.functions c.in-Known.args c.in-Known.is in
    others c.args.room c.in_ok-parameters-in-Known.parameters (c.digits_of.result + 1) _ _ c.room_after_drops.result (omega (arith, c.in_ok-parameters-in-Known.ensures.0, c.in_ok-parameters-in-Known.ensures.1))
    (omega (arith, all, c.digits_of.ensures.value)) c.room_after_drops.ensures

pub returns-in-NotReached : goal.returns-in-NotReached
returns-in-NotReached c =
    let all = skipped_bytes (in_byte_order c.args.names.now) c.args.rows.now c.args.facts c.in-NotReached.is in
    others c.args.room c.args.room 0 2 _ c.checked_sub.result (omega arith) (omega (arith, all)) (taken c.args.room 2 c.checked_sub.result c.checked_sub.ensures)
