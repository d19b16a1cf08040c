use Rattle.std.proofs.Common.{ap, ◌&&◌, get_or, refl}
use Rattle.std.proofs.lemmas.Bool.{and_right}
use Rattle.sh_tree.specs.standard.language.Bytes.{is_tab}
use Rattle.sh_tree.specs.standard.language.Reading.{is_some}
use Rattle.sh_grammar.proofs.KeptLemmas.{tab_is, tab_not, tabbed_ends, tabbed_found, tabbed_goes_on}
use Rattle.sh_grammar.proofs.kept.tabbed_line.Goals.{else-begins-via-then-begins+else-text-at-eq9, else-begins-via-else-begins}
use Rattle.sh_grammar.proofs.kept.tabbed_line.Goals as goal

pub returns-then-text-at-eq9-clause-value : goal.returns-then-text-at-eq9-clause-value
unfolding is_some
returns-then-text-at-eq9-clause-value c =
    let at = c.loop-at in
    tabbed_found c.args.text.now at.begins at.at at.invariant _ c.loop-at-test.true refl c.if-begins.true (tab_is _ c.if-text-at-eq9.true)

pub loop-at-preserved : goal.loop-at-preserved
loop-at-preserved c =
    let at = c.loop-at in
    elim c.else-begins.branch [
      | else-begins-via-then-begins+else-text-at-eq9 w ↦ tabbed_goes_on c.args.text.now at.begins at.at at.invariant _ c.loop-at-test.true refl (and_right at.begins _ (tab_not _ w.if-text-at-eq9.false))
      | else-begins-via-else-begins w ↦ tabbed_goes_on c.args.text.now at.begins at.at at.invariant _ c.loop-at-test.true refl (ap (λ v. v && is_tab (get_or c.args.text.now at.at 0)) w.if-begins.false)
    ]

pub returns-clause-value : goal.returns-clause-value
unfolding is_some
returns-clause-value c =
    let at = c.loop-at in
    tabbed_ends c.args.text.now at.begins at.at at.invariant c.loop-at-test.false
