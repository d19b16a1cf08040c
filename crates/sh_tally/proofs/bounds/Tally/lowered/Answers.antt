use Rattle.std.proofs.Common.{◌++◌, map, refl, ap, ◌∙◌}
use Rattle.std.proofs.lemmas.Result.{IfOk-weaker}
use Rattle.sh_tree.specs.standard.program.Trees.{script_of}
use Rattle.sh_rules.specs.Walks as walks
use Rattle.sh_tally.specs.Tallies.{count_at_first}
use Rattle.sh_tally.proofs.SolvedLemmas.{are_over}
use Rattle.sh_tally.proofs.bounds.Tally.lowered.Goals as goal

pub returns : goal.returns
returns c =
    let s = c.args.self.now in
    let b = s.script.now in
    IfOk-weaker c.solve.result _ _
    (λ counts greatest. are_over s (walks.around b c.alone-outside.result) (script_of b c.args.tree.now) _ c.add_all.new.equations c.list.new.equations counts.items (c.alone-outside.ensures b) refl refl
    (c.in_ok-add_all.ensures.most ∙ ap (λ l. l ++ map count_at_first s.places.counts.now) c.none-equations.ensures.most) (c.add_all.ensures.all ∙ c.none-equations.ensures.all) c.in_ok-list.ensures.adds greatest)
    c.solve.ensures
