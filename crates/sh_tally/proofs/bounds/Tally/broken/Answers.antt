use Rattle.sh_tree.specs.Lists.{elements_from}
use Rattle.sh_rules.specs.Walks as walks
use Rattle.sh_tally.proofs.JumpLemmas.{broken_added}
use Rattle.sh_tally.proofs.bounds.Tally.broken.Goals as goal

pub returns : goal.returns
returns c =
    λ ws same.
    let s = c.args.self.now in
    broken_added s (walks.around s.script.now c.args.around.now) c.args.number (elements_from s.script.now c.args.elements.now) c.args.left ws c.in-Some.ended c.of.result c.of-2.result
    c.args.equations.now c.bound.new.equations c.bound-2.new.equations (c.in-Some.ensures ws same) c.of.ensures c.of-2.ensures c.in_ok-bound.ensures c.in_ok-bound-2.ensures
