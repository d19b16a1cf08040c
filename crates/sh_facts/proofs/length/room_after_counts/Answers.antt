use Rattle.std.proofs.Common.{◌+◌, arith}
use Rattle.sh_facts.proofs.LengthLemmas.{first_bytes}
use Rattle.sh_facts.proofs.RoomLemmas.{others, taken}
use Rattle.sh_facts.proofs.length.room_after_counts.Goals as goal

pub returns : goal.returns
returns c =
    let n = 41 + c.digits_of.result + c.digits_of-2.result in
    let all = first_bytes c.args.commands c.args.functions in
    others c.args.room c.args.room 0 n _ c.checked_sub.result (omega arith) (omega (arith, all, c.digits_of.ensures.value, c.digits_of-2.ensures.value)) (taken c.args.room n c.checked_sub.result c.checked_sub.ensures)
