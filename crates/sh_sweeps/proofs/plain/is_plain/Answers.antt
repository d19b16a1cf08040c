use Rattle.std.proofs.Common.{◌≡◌, false, subst}
use Rattle.sh_runs.specs.declared.kind.Kind.TheVariants as kind
use Rattle.sh_runs.specs.standard.Kinds.{kind_of}
use Rattle.sh_runs.specs.standard.runs.Environment.{is_one_of}
use Rattle.sh_domain.specs.Admitted.{functions_in}
use Rattle.sh_sweeps.proofs.PlainLemmas as plain
use Rattle.sh_sweeps.proofs.plain.is_plain.Goals as goal

pub returns-in-Some : goal.returns-in-Some
returns-in-Some c = λ is m simple.
    let s = c.args.subject.now in
    plain.is_plain s m c.args.elements.now c.in-Some.name simple c.in-Some.ensures
    (subst (λ t. kind_of t ≡ kind.Utility) c.text.ensures (c.is_utility.ensures.kind is))
    (subst (λ t. is_one_of (functions_in s.script.now s.tree.now) t ≡ false) c.text.ensures (c.is_utility.ensures.function is))
