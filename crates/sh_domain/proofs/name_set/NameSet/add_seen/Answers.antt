use Rattle.sh_domain.specs.declared.sights.Seen.{Seen}
use Rattle.std.proofs.lemmas.Result.{err_from_is_err_and}
use Rattle.sh_domain.proofs.NameLemmas.{texts_stop}
use Rattle.sh_domain.proofs.name_set.NameSet.add_seen.Goals as goal

pub returns-in_err-add-clause-refusal : goal.returns-in_err-add-clause-refusal
returns-in_err-add-clause-refusal c =
    let p = err_from_is_err_and c.from_residual.result c.from_residual.ensures.1 in
    rw (p.1, p.2) (texts_stop (λ (x : Seen). x.name.items) c.args.self.now c.args.seen.now c.loop-one.one-index c.one-item.result c.loop-one.self _ c.loop-one-test.true c.one-item.is c.loop-one.invariant (rw c.deref.ensures.value at c.in_err-add.ensures.refusal))
