use Rattle.std.proofs.Common.{◌≡◌, subst, arith}
use Rattle.sh_drafts.specs.Begun.{IsBegunAt, functions_below}
use Rattle.sh_drafts.proofs.begun.state_functions.Goals as goal

pub state_function-requires-clause-working : goal.state_function-requires-clause-working
state_function-requires-clause-working c = let w = c.requires.working in (w.0, w.1, c.loop-index.invariant.working w.0 w.1 w.2)

pub loop-index-preserved : goal.loop-index-preserved
loop-index-preserved c = record {
  begun = c.in_ok-state_function.ensures.begun c.loop-index.invariant.begun;
  working = λ loops m w. c.in_ok-state_function.ensures.working loops m (c.loop-index.invariant.working loops m w);
  probed = c.in_ok-state_function.ensures.probed;
}

pub returns-clause-begun : goal.returns-clause-begun
returns-clause-begun c =
    let k = c.args.subject.now.compact.now in
    let all : c.loop-index.index ≡ c.args.functions = omega (arith, c.loop-index.auto.index-end, c.loop-index-test.false) in
    subst (λ n. IsBegunAt k (functions_below n) n c.loop-index.certificate) all c.loop-index.invariant.begun
