use Rattle.std.proofs.Common.{◌-◌, List, length, map, subst, arith, rules}
use Rattle.sh_domain.specs.declared.certificate.FunctionEntry.{FunctionEntry}
use Rattle.sh_domain.specs.Certificates.{in_byte_order, function_claims}
use Rattle.sh_domain.specs.Sheets.{numbered_lines, function_fields}
use Rattle.sh_facts.proofs.LengthLemmas.{text_bytes}
use Rattle.sh_facts.proofs.RoomLemmas.{no_room, others}
use Rattle.sh_facts.specs.Room.{Leaves}
use Rattle.sh_facts.proofs.length.room_after_text.Goals as goal

pub returns-in_err-counted : goal.returns-in_err-counted
returns-in_err-counted c =
    let all = text_bytes (in_byte_order c.args.names.now) c.args.certificate.now c.len.result c.len-2.result (search rules) (search rules) in
    no_room c.args.room _ c.from_residual.result c.from_residual.ensures (omega (arith, all, c.in_err-counted.ensures))

pub returns-in_err-left : goal.returns-in_err-left
returns-in_err-left c =
    let all = text_bytes (in_byte_order c.args.names.now) c.args.certificate.now c.len.result c.len-2.result (search rules) (search rules) in
    no_room c.args.room _ c.from_residual-in_err-left.result c.from_residual-in_err-left.ensures (omega (arith, all, c.in_ok-counted.ensures, c.in_err-left.ensures))

pub returns : goal.returns
returns c =
    let order = in_byte_order c.args.names.now in
    let rows = c.args.certificate.now.rows in
    let all = text_bytes order c.args.certificate.now c.len.result c.len-2.result (search rules) (search rules) in
    let behind : Leaves c.in_ok-left.left (length (numbered_lines function_fields 1 (map (function_claims order rows) c.args.certificate.now.functions.items))) c.room_after_functions.result =
    subst (λ (fs : List FunctionEntry). Leaves c.in_ok-left.left (length (numbered_lines function_fields 1 (map (function_claims order rows) fs))) c.room_after_functions.result) c.deref.ensures.value c.room_after_functions.ensures in
    others c.args.room c.in_ok-left.left (c.args.room - c.in_ok-left.left) _ _ c.room_after_functions.result (omega (arith, c.in_ok-counted.ensures, c.in_ok-left.ensures)) (omega (arith, all, c.in_ok-counted.ensures, c.in_ok-left.ensures)) behind
