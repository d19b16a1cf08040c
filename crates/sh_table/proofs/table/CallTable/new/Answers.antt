use Rattle.std.proofs.Common.{length, ap, ◌∙◌, arith}
use Rattle.sh_tree.specs.standard.program.Trees.{script_of}
use Rattle.sh_runs.specs.Calls.{Functions}
use Rattle.sh_runs.specs.Sites.{sites_of}
use Rattle.sh_table.proofs.TableLemmas.{functions_whole, table_whole, names_few, kept}
use Rattle.sh_table.proofs.table.CallTable.new.Goals as goal

pub returns-then-is_empty-clause-tables : goal.returns-then-is_empty-clause-tables
returns-then-is_empty-clause-tables c = c.empty.ensures c.args.tree.now (c.is_empty.ensures.0 c.if-is_empty.true)

pub returns-then-len-clause-tables : goal.returns-then-len-clause-tables
returns-then-len-clause-tables c =
    let b = c.args.script.now in
    let own = c.in_ok-functions.ensures (sites_of (script_of b c.args.tree.now)) (rw c.as_slice.ensures.value c.in_ok-rows.ensures.definitions) in
    let whole = functions_whole b c.args.tree.now c.in_ok-functions.functions own in
    let size = c.len.ensures ∙ ap (λ (f : Functions). length f.names) whole in
    let more = c.if-len.true in
    rw (← size) (omega (arith, more))

pub returns-then-len-clause-counted : goal.returns-then-len-clause-counted
returns-then-len-clause-counted c counted =
    let b = c.args.script.now in
    let own = c.in_ok-functions.ensures (sites_of (script_of b c.args.tree.now)) (rw c.as_slice.ensures.value c.in_ok-rows.ensures.definitions) in
    let whole = functions_whole b c.args.tree.now c.in_ok-functions.functions own in
    let size = c.len.ensures ∙ ap (λ (f : Functions). length f.names) whole in
    let more = c.if-len.true in
    let few = names_few b c.args.tree.now in
    absurd (omega (arith, size, more, few, counted))

pub invariant_of-result : goal.invariant_of-result
invariant_of-result c =
    let b = c.args.script.now in
    let size = c.len.ensures in
    let few = c.if-len.false in
    let callees = rw c.as_slice-2.ensures.value at c.in_ok-callees.ensures in
    kept b c.args.tree.now c.in_ok-functions.functions _ _ _ (rw size at few) c.in_ok-rows.ensures.rows callees c.in_ok-named.ensures

pub returns-clause-tables : goal.returns-clause-tables
returns-clause-tables c =
    let b = c.args.script.now in
    let own = c.in_ok-functions.ensures (sites_of (script_of b c.args.tree.now)) (rw c.as_slice.ensures.value c.in_ok-rows.ensures.definitions) in
    table_whole b c.args.tree.now c.in_ok-functions.functions _ own c.in_ok-rows.ensures.rows
