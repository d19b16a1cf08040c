use Rattle.std.proofs.Common.{arith}
use Rattle.sh_domain.specs.Certificates.{in_byte_order, drops_of}
use Rattle.sh_facts.proofs.LengthLemmas.{drops_bytes}
use Rattle.sh_facts.proofs.RoomLemmas.{no_room, others}
use Rattle.sh_facts.proofs.length.room_after_drops.Goals as goal

pub returns-in_err-left : goal.returns-in_err-left
returns-in_err-left c =
    let all = drops_bytes (drops_of (in_byte_order c.args.names.now) c.args.rows.now c.args.drops) in
    no_room c.args.room _ c.from_residual.result c.from_residual.ensures (omega (arith, all, c.in_err-left.ensures))

pub returns : goal.returns
returns c =
    others c.args.room c.in_ok-left.left _ _ _ c.room_after_row-2.result c.in_ok-left.ensures (drops_bytes (drops_of (in_byte_order c.args.names.now) c.args.rows.now c.args.drops)) c.room_after_row-2.ensures
