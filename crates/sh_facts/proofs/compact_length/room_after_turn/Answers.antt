use Rattle.std.proofs.Common.{◌-◌, arith}
use Rattle.sh_domain.specs.Certificates.{in_byte_order, claim_of}
use Rattle.sh_facts.proofs.CompactTextLemmas.{turn_bytes}
use Rattle.sh_facts.proofs.RoomLemmas.{no_room, others}
use Rattle.sh_facts.proofs.compact_length.room_after_turn.Goals as goal

pub returns-in_err-numbered : goal.returns-in_err-numbered
returns-in_err-numbered c =
    let all = turn_bytes (c.args.number, claim_of (in_byte_order c.args.names.now) c.args.rows.now c.args.facts) in
    no_room c.args.room _ c.from_residual.result c.from_residual.ensures (omega (arith, all, c.digits_of.ensures.value, c.in_err-numbered.ensures))

pub returns : goal.returns
returns c =
    let all = turn_bytes (c.args.number, claim_of (in_byte_order c.args.names.now) c.args.rows.now c.args.facts) in
    others c.args.room c.in_ok-numbered.numbered (c.args.room - c.in_ok-numbered.numbered) _ _ c.room_after_fact.result
    (omega (arith, c.in_ok-numbered.ensures.0, c.in_ok-numbered.ensures.1)) (omega (arith, all, c.digits_of.ensures.value, c.in_ok-numbered.ensures.0, c.in_ok-numbered.ensures.1)) c.room_after_fact.ensures
