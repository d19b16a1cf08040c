use Rattle.std.proofs.Common.{◌∙◌, arith}
use Rattle.std.proofs.lemmas.Result.{err_from_is_err_and}
use Rattle.sh_grammar.proofs.BranchLemmas.{last_refused, branches_read}
use Rattle.sh_grammar.proofs.grammar.Grammar.branches.Goals as goal

pub returns-in_err-otherwise : goal.returns-in_err-otherwise
returns-in_err-otherwise g c =
    let residual = c.from_residual-in_err-otherwise in
    let p = err_from_is_err_and residual.result residual.ensures.1 in
    let at = c.loop-branches in
    let branch = c.in_ok-branch in
    rw (p.1, p.2) (last_refused c.args.script.now c.args.from at.next at.branches at.invariant.found branch.branch branch.behind branch.ensures.one
    (λ more. c.is_same.ensures.no c.if-not-is_same.true (c.lead-lead.ensures.value ∙ more)) _ c.in_err-otherwise.ensures)

pub returns-then-not-is_same : goal.returns-then-not-is_same
returns-then-not-is_same g c =
    let at = c.loop-branches in
    let b = c.args.script.now in
    let branch = c.in_ok-branch in
    let found = c.in_ok-otherwise in
    let before = at.invariant.from in
    let further = branch.ensures.from in
    let after = found.ensures.from in
    record {
      one = rw c.in_ok-push.ensures.ok (branches_read b c.args.from at.next at.branches at.invariant.found branch.branch branch.behind branch.ensures.one
          (λ more. c.is_same.ensures.no c.if-not-is_same.true (c.lead-lead.ensures.value ∙ more)) found.otherwise found.end found.ensures.one);
      from = omega arith;
      stands = found.ensures.stands;
    }
