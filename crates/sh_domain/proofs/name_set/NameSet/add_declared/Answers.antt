use Rattle.std.proofs.Common.{Vec, Global, ℕ}
use Rattle.std.proofs.lemmas.Result.{err_from_is_err_and}
use Rattle.sh_domain.proofs.NameLemmas.{texts_stop}
use Rattle.sh_domain.proofs.name_set.NameSet.add_declared.Goals as goal

pub returns-in_err-add-clause-refusal : goal.returns-in_err-add-clause-refusal
returns-in_err-add-clause-refusal c =
    let p = err_from_is_err_and c.from_residual.result c.from_residual.ensures.1 in
    rw (p.1, p.2) (texts_stop (λ (v : Vec ℕ Global). v.items) c.args.self.now c.args.texts.now c.loop-text.text-index c.text-item.result c.loop-text.self _ c.loop-text-test.true c.text-item.is c.loop-text.invariant (rw c.deref.ensures.value at c.in_err-add.ensures.refusal))
