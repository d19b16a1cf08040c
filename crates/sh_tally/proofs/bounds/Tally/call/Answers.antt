use Rattle.sh_tree.specs.Lists.{elements_from}
use Rattle.sh_rules.specs.Walks as walks
use Rattle.sh_tally.proofs.SimpleLemmas.{call_added}
use Rattle.sh_tally.proofs.bounds.Tally.call.Goals as goal

pub returns : goal.returns
returns c =
    let s = c.args.self.now in
    call_added s (walks.around s.script.now c.args.around.now) c.args.number (elements_from s.script.now c.args.elements.now) c.args.left c.args.name.now c.words_of-change.result c.of-zero.result c.of-nonzero.result
    c.args.equations.now c.bound_function.new.equations c.returned.new.equations c.returned-2.new.equations c.failed.new.equations c.words_of-change.ensures c.of-zero.ensures c.of-nonzero.ensures c.in_ok-bound_function.ensures c.in_ok-returned.ensures c.in_ok-returned-2.ensures c.in_ok-failed.ensures
