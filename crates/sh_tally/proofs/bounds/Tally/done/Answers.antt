use Rattle.sh_tree.specs.Lists.{elements_from}
use Rattle.sh_rules.specs.Walks as walks
use Rattle.sh_tally.proofs.SimpleLemmas.{true_added}
use Rattle.sh_tally.proofs.bounds.Tally.done.Goals as goal

pub returns : goal.returns
returns c =
    λ ws.
    let s = c.args.self.now in
    true_added s (walks.around s.script.now c.args.around.now) c.args.number (elements_from s.script.now c.args.elements.now) c.args.left ws c.args.equations.now c.failed.new.equations
    c.bound.new.equations c.of.result c.of.ensures c.in_ok-bound.ensures c.in_ok-failed.ensures
