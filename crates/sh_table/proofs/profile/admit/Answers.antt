use Rattle.std.proofs.Common.{◌≤◌, ap, ◌∙◌, length, map, rules}
use Rattle.sh_tree.specs.standard.program.Trees.{script_of}
use Rattle.sh_table.specs.Walks.{seen}
use Rattle.sh_table.proofs.AdmitLemmas.{told_whole, refused, not_refused, none_refused, some_rows}
use Rattle.sh_table.proofs.profile.admit.Goals as goal

pub returns-in-Some-clause-admits : goal.returns-in-Some-clause-admits
returns-in-Some-clause-admits c =
    let b = c.args.script.now in
    let all = ap (map (seen b)) c.as_slice.ensures.value ∙ c.in_ok-sites.ensures in
    refused (script_of b c.args.tree.now) _ c.in-Some.refusal (told_whole b c.args.tree.now c.args.table.now c.rows-2.result.now c.as_slice.result.now c.requires c.rows-2.ensures all) c.in-Some.ensures

pub returns-clause-admits : goal.returns-clause-admits
returns-clause-admits c =
    let b = c.args.script.now in
    let all = ap (map (seen b)) c.as_slice.ensures.value ∙ c.in_ok-sites.ensures in
    not_refused (script_of b c.args.tree.now) _ (told_whole b c.args.tree.now c.args.table.now c.rows-2.result.now c.as_slice.result.now c.requires c.rows-2.ensures all) c.in-None.ensures

pub returns-in_default-clause-admits : goal.returns-in_default-clause-admits
returns-in_default-clause-admits c = none_refused c.args.script.now c.args.tree.now c.args.table.now c.rows.result.now c.requires c.rows.ensures c.in_default.len_below

pub returns-in_err-sites-clause-memory : goal.returns-in_err-sites-clause-memory
returns-in_err-sites-clause-memory c =
    let some : 1 ≤ length c.rows.result.now = search rules in
    λ e. some_rows c.args.script.now c.args.tree.now c.args.table.now c.rows.result.now c.requires c.rows.ensures some

pub returns-in-Some-clause-memory : goal.returns-in-Some-clause-memory
returns-in-Some-clause-memory c =
    let some : 1 ≤ length c.rows.result.now = search rules in
    λ e. some_rows c.args.script.now c.args.tree.now c.args.table.now c.rows.result.now c.requires c.rows.ensures some
