use Rattle.std.proofs.Common.{rules, ◌≡◌, ◌<◌, ◌∙◌, map, length, None, sym, arith}
use Rattle.std.proofs.lemmas.List.{length-map}
use Rattle.std.proofs.lemmas.Result.{err_from_is_err_and}
use Rattle.sh_domain.specs.Policy.{first_bad}
use Rattle.sh_domain.proofs.PolicyLemmas.{first_bad_mapped}
use Rattle.sh_domain.proofs.policy.Policy.new.Goals as goal

pub returns-in_err-names-in-None : goal.returns-in_err-names-in-None
returns-in_err-names-in-None c =
    let p = err_from_is_err_and c.from_residual.result c.from_residual.ensures.1 in
    let none : first_bad (map (λ s. s.now) c.args.names.now) ≡ None = first_bad_mapped c.args.names.now ∙ sym c.in-None.ensures in
    let some : 0 < length c.args.names.now = search rules in
    rw (p.1, p.2) (none, omega (arith, some, length-map c.args.names.now (λ s. s.now)))
