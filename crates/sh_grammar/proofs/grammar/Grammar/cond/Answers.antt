use Rattle.std.proofs.Common.{subst, arith}
use Rattle.sh_grammar.specs.Branches.{BranchesFrom}
use Rattle.sh_grammar.specs.Readers.{One}
use Rattle.sh_grammar.specs.States.{here}
use Rattle.sh_grammar.proofs.BranchLemmas.{cond_read}
use Rattle.sh_grammar.proofs.StateLemmas.{at_depth_stands}
use Rattle.sh_grammar.proofs.grammar.Grammar.cond.Goals as goal

pub returns : goal.returns
returns g c =
    let b = c.args.script.now in
    let s = c.args.from in
    let found = c.in_ok-branches in
    let one = subst (λ v. One (BranchesFrom b v) (here found.end) (found.branches, found.otherwise)) c.enter-first.ensures.value found.ensures.one in
    let further = c.enter-first.ensures.further in
    let after = found.ensures.from in
    rw (c.at_depth.ensures, c.depth-depth.ensures) (record {
      one = cond_read b s c.requires.shallow found.branches found.otherwise found.end one;
      from = omega arith;
      stands = at_depth_stands b s.depth found.end c.requires.stands.shallow found.ensures.stands;
    })
