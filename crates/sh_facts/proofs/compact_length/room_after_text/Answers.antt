use Rattle.std.proofs.Common.{◌-◌, List, length, map, subst, rules, arith}
use Rattle.sh_domain.specs.declared.certificate.FunctionEntry.{FunctionEntry}
use Rattle.sh_domain.specs.Certificates.{in_byte_order, claim_of, function_claims}
use Rattle.sh_domain.specs.Sheets.{numbered_lines, function_fields}
use Rattle.sh_facts.proofs.CompactTextLemmas.{start_bytes, text_bytes}
use Rattle.sh_facts.proofs.RoomLemmas.{no_room, others}
use Rattle.sh_facts.specs.Room.{Leaves}
use Rattle.sh_facts.proofs.compact_length.room_after_text.Goals as goal

pub returns-in_err-counted : goal.returns-in_err-counted
returns-in_err-counted c =
    let all = text_bytes (in_byte_order c.args.names.now) c.args.compact.now c.len.result c.len-2.result (search rules) (search rules) in
    no_room c.args.room _ c.from_residual.result c.from_residual.ensures (omega (arith, all, c.in_err-counted.ensures))

pub returns-in_err-lettered : goal.returns-in_err-lettered
returns-in_err-lettered c =
    let order = in_byte_order c.args.names.now in
    let all = text_bytes order c.args.compact.now c.len.result c.len-2.result (search rules) (search rules) in
    let first = start_bytes (claim_of order c.args.compact.now.rows c.args.compact.now.start) in
    no_room c.args.room _ c.from_residual-in_err-lettered.result c.from_residual-in_err-lettered.ensures (omega (arith, all, first, c.in_ok-counted.ensures, c.in_err-lettered.ensures))

pub returns-in_err-start : goal.returns-in_err-start
returns-in_err-start c =
    let order = in_byte_order c.args.names.now in
    let all = text_bytes order c.args.compact.now c.len.result c.len-2.result (search rules) (search rules) in
    let first = start_bytes (claim_of order c.args.compact.now.rows c.args.compact.now.start) in
    no_room c.args.room _ c.from_residual-in_err-start.result c.from_residual-in_err-start.ensures (omega (arith, all, first, c.in_ok-counted.ensures, c.in_ok-lettered.ensures.0, c.in_ok-lettered.ensures.1, c.in_err-start.ensures))

pub returns-in_err-left : goal.returns-in_err-left
returns-in_err-left c =
    let order = in_byte_order c.args.names.now in
    let all = text_bytes order c.args.compact.now c.len.result c.len-2.result (search rules) (search rules) in
    let first = start_bytes (claim_of order c.args.compact.now.rows c.args.compact.now.start) in
    no_room c.args.room _ c.from_residual-in_err-left.result c.from_residual-in_err-left.ensures
    (omega (arith, all, first, c.in_ok-counted.ensures, c.in_ok-lettered.ensures.0, c.in_ok-lettered.ensures.1, c.in_ok-start.ensures, c.in_err-left.ensures))

pub returns : goal.returns
returns c =
    let order = in_byte_order c.args.names.now in
    let rows = c.args.compact.now.rows in
    let all = text_bytes order c.args.compact.now c.len.result c.len-2.result (search rules) (search rules) in
    let first = start_bytes (claim_of order rows c.args.compact.now.start) in
    let behind : Leaves c.in_ok-left.left (length (numbered_lines function_fields 1 (map (function_claims order rows) c.args.compact.now.functions.items))) c.room_after_functions.result =
    subst (λ (fs : List FunctionEntry). Leaves c.in_ok-left.left (length (numbered_lines function_fields 1 (map (function_claims order rows) fs))) c.room_after_functions.result) c.deref.ensures.value c.room_after_functions.ensures in
    others c.args.room c.in_ok-left.left (c.args.room - c.in_ok-left.left) _ _ c.room_after_functions.result
    (omega (arith, c.in_ok-counted.ensures, c.in_ok-lettered.ensures.0, c.in_ok-lettered.ensures.1, c.in_ok-start.ensures, c.in_ok-left.ensures))
    (omega (arith, all, first, c.in_ok-counted.ensures, c.in_ok-lettered.ensures.0, c.in_ok-lettered.ensures.1, c.in_ok-start.ensures, c.in_ok-left.ensures)) behind
