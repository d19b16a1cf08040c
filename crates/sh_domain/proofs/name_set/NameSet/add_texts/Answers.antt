use Rattle.std.proofs.Common.{List, ℕ, Bor, [], get_or}
use Rattle.std.proofs.lemmas.List.{get_or_default}
use Rattle.std.proofs.lemmas.Result.{err_from_is_err_and}
use Rattle.sh_domain.proofs.NameLemmas.{texts_stop}
use Rattle.sh_domain.proofs.name_set.NameSet.add_texts.Goals as goal

pub returns-in_err-add-clause-refusal : goal.returns-in_err-add-clause-refusal
returns-in_err-add-clause-refusal c =
    let p = err_from_is_err_and c.from_residual.result c.from_residual.ensures.1 in
    let none : Bor (List ℕ) = record { ref_ptr = (0, 0); now = [] } in
    let i = c.loop-text.text-index in
    rw (p.1, p.2) (texts_stop (λ (s : Bor (List ℕ)). s.now) c.args.self.now c.args.texts.now i (get_or c.args.texts.now i none) c.loop-text.self _ c.loop-text-test.true (get_or_default c.args.texts.now i none (get_or c.args.texts.now i none) c.loop-text-test.true) c.loop-text.invariant c.in_err-add.ensures.refusal)
