-- A pass promises that the script is safe, and so does an exit status of zero.
use Rattle.std.proofs.Common.{◌≡◌, ℕ, Bool, true, List, Result, Ok, Err, refl, sym, ◌∙◌, subst}
use Rattle.std.specs.List.{list_all}
use Rattle.sh_tree.specs.declared.refusal.Refusal.{Refusal}
use Rattle.sh_tree.specs.declared.refusal.Refusal.TheVariants.{TooLong, NulByte, Syntax, LeftOut, TooDeep, TooMany, Memory, Profile, CertSyntax, CertShape}
use Rattle.sh_tree.specs.standard.language.Bytes.{is_name}
use Rattle.sh_tree.specs.standard.program.Syntax.{Text}
use Rattle.sh_domain.specs.Facts.{Declared}
use Rattle.sh_answers.specs.Texts.{status_of}
use Rattle.sh_answers.specs.declared.task.Action.{Action}
use Rattle.sh_answers.specs.declared.task.Action.TheVariants.{Lint, Cert, Check, Print}
use Rattle.sh_answers.specs.declared.verdict.Verdict.{Verdict}
use Rattle.sh_answers.specs.declared.verdict.Verdict.TheVariants.{Pass, Fail, Forged}
use Rattle.sh_accept.specs.Answers.{Checks, Lints}
use Rattle.sh_accept.specs.Theorem.{IsSafe}
use Rattle.sh_accept.proofs.HeadlineLemmas.{headline}
use Rattle.sh_accept.specs.Written.{Tells}

pub checked : (b : List ℕ) (d : Declared) (text : Text) (r : Result Verdict Refusal) → list_all is_name d.names ≡ true → Checks b d text r → r ≡ Ok Pass → IsSafe b d
checked b d text r names checks is = headline.checked b d text names (subst (Checks b d text) is checks)

pub linted : (b : List ℕ) (d : Declared) (r : Result Verdict Refusal) → list_all is_name d.names ≡ true → Lints b d r → r ≡ Ok Pass → IsSafe b d
linted b d r names lints is = headline.linted b d names (subst (Lints b d) is lints)

-- only a pass ends with zero
pub zero_is_pass : (r : Result Verdict Refusal) → status_of r ≡ 0 → r ≡ Ok Pass
zero_is_pass (Ok Pass) e = refl
zero_is_pass (Ok (Fail report)) e = cc
zero_is_pass (Ok (Forged command rule)) e = cc
zero_is_pass (Err TooLong) e = cc
zero_is_pass (Err (NulByte at)) e = cc
zero_is_pass (Err (Syntax fault at)) e = cc
zero_is_pass (Err (LeftOut form at)) e = cc
zero_is_pass (Err (TooDeep at)) e = cc
zero_is_pass (Err TooMany) e = cc
zero_is_pass (Err Memory) e = cc
zero_is_pass (Err (Profile rule at)) e = cc
zero_is_pass (Err (CertSyntax line)) e = cc
zero_is_pass (Err CertShape) e = cc

-- what is reported with zero promises so
pub told_safe : (a : Action) (b certificate : List ℕ) (d : Declared) (text : List ℕ) (status : ℕ) → list_all is_name d.names ≡ true → Tells a b certificate d text status
    → ((full : Bool) → a ≡ Cert full → ⊥) → (a ≡ Print → ⊥) → status ≡ 0 → IsSafe b d
told_safe Lint b certificate d text status names tells shown printed is = linted b d tells.answer names tells.answers (zero_is_pass tells.answer (sym tells.status_is ∙ is))
told_safe (Cert full) b certificate d text status names tells shown printed is = absurd (shown full refl)
told_safe Check b certificate d text status names tells shown printed is = checked b d certificate tells.answer names tells.answers (zero_is_pass tells.answer (sym tells.status_is ∙ is))
told_safe Print b certificate d text status names tells shown printed is = absurd (printed refl)
