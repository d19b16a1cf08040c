use Rattle.std.proofs.lemmas.Result.{IfOk-weaker}
use Rattle.sh_tree.specs.Lists.{elements_from}
use Rattle.sh_rules.specs.Walks as walks
use Rattle.sh_tally.proofs.JumpLemmas.{continued_added}
use Rattle.sh_tally.proofs.bounds.Tally.continued.Goals as goal

pub returns-in-Some : goal.returns-in-Some
returns-in-Some c =
    let s = c.args.self.now in
    IfOk-weaker c.bound.result _ _
    (λ unit adds ws same. continued_added s (walks.around s.script.now c.args.around.now) c.args.number (elements_from s.script.now c.args.elements.now) c.args.left ws c.in-Some.turned c.of.result
    c.args.equations.now c.bound.new.equations (c.in-Some.ensures ws same) c.of.ensures adds)
    c.bound.ensures
