use Rattle.std.proofs.Common.{◌≤◌, map, drop, sym, ◌∙◌, subst}
use Rattle.std.proofs.lemmas.Result.{IfOk-weaker}
use Rattle.sh_tree.specs.Lists.{elements_from}
use Rattle.sh_table.specs.WordTexts.{text_in}
use Rattle.sh_domain.specs.Operands.{total}
use Rattle.sh_domain.specs.Views.{counted_by}
use Rattle.sh_counts.specs.Equations.{made}
use Rattle.sh_rules.specs.Walks as walks
use Rattle.sh_tally.specs.Walks.{names}
use Rattle.sh_tally.proofs.SimpleLemmas.{set_none_added, set_some_added}
use Rattle.sh_tally.proofs.bounds.Tally.set.Goals as goal

pub returns-in-None : goal.returns-in-None
returns-in-None c =
    let s = c.args.self.now in
    IfOk-weaker c.leaves.result _ _
    (λ unit adds ws behind same. set_none_added s (walks.around s.script.now c.args.around.now) c.args.number (elements_from s.script.now c.args.elements.now) c.args.left ws (map (text_in s.script.now) c.args.texts.now) c.both.result
    c.args.equations.now c.leaves.new.equations same (sym c.in-None.is ∙ c.positional_at.ensures.same) (c.both.ensures (names s)) adds)
    c.leaves.ensures

pub returns-in_ok-bound-in-Some-3 : goal.returns-in_ok-bound-in-Some-3
returns-in_ok-bound-in-Some-3 c =
    λ ws behind same.
    let s = c.args.self.now in
    let counts = subst (λ vs. (m n : _) → m ≤ n → counted_by (total (drop c.in-Some.skipped vs)) m ≤ made c.words_of-change.result n) (sym behind) c.words_of-change.ensures in
    set_some_added s (walks.around s.script.now c.args.around.now) c.args.number (elements_from s.script.now c.args.elements.now) c.args.left ws (map (text_in s.script.now) c.args.texts.now) c.in-Some.skipped c.words_of-change.result
    c.of.result c.of-in-Some.result c.of-in-Some-2.result c.args.equations.now c.bound.new.equations c.bound-in-Some.new.equations c.bound-in-Some-2.new.equations same (sym c.in-Some.is ∙ c.positional_at.ensures.same) counts
    c.of.ensures c.of-in-Some.ensures c.of-in-Some-2.ensures c.in_ok-bound-in-Some.ensures c.in_ok-bound-in-Some-2.ensures c.in_ok-bound-in-Some-3.ensures
