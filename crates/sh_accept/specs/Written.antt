-- Which text and which exit status an answer has, for each action.
-- shset's own; the standard has no linter.
use Rattle.std.specs.Prelude.{◌≡◌, ℕ, List, Result, Ok, Err, Vec}
use Rattle.std.specs.declared.alloc.Global.{Global}
use Rattle.sh_tree.specs.Answers.{Parses}
use Rattle.sh_tree.specs.declared.refusal.Refusal.{Refusal}
use Rattle.sh_tree.specs.declared.refusal.Refusal.TheVariants.{Memory}
use Rattle.sh_tree.specs.declared.tree.Script.{Script}
use Rattle.sh_domain.specs.Facts.{Declared}
use Rattle.sh_answers.specs.Texts.{answer_text, refusal_text, status_of}
use Rattle.sh_answers.specs.declared.task.Action.{Action}
use Rattle.sh_answers.specs.declared.task.Action.TheVariants.{Lint, Cert, Check, Print}
use Rattle.sh_answers.specs.declared.verdict.Verdict.{Verdict}
use Rattle.sh_accept.specs.Answers.{Certifies, Checks, Lints, Prints}

-- the text and the status are those of an answer as it should be, other than that memory ran out
pub record TellsVerdict (Should : Result Verdict Refusal → Type 0) (b text : List ℕ) (status : ℕ) : Type 0 where
  pub answer : Result Verdict Refusal
  pub answers : Should answer
  pub memory : answer ≡ Err Memory → ⊥
  pub text_is : text ≡ answer_text b answer
  pub status_is : status ≡ status_of answer

-- what is shown is its text, with the status of what is clean; a refusal as any other
abbrev pub shown_text : List ℕ → Result (Vec ℕ Global) Refusal → List ℕ
shown_text b (Ok v) = v.items
shown_text b (Err r) = refusal_text b r

abbrev pub shown_status : Result (Vec ℕ Global) Refusal → ℕ
shown_status (Ok v) = 0
shown_status (Err r) = status_of (Err r)

-- the text and the status are those of what is to be shown, or of the refusal
pub record TellsText (Should : Result (Vec ℕ Global) Refusal → Type 0) (b text : List ℕ) (status : ℕ) : Type 0 where
  pub answer : Result (Vec ℕ Global) Refusal
  pub answers : Should answer
  pub memory : answer ≡ Err Memory → ⊥
  pub text_is : text ≡ shown_text b answer
  pub status_is : status ≡ shown_status answer

-- the text and the status are those of an answer of the action on the script's bytes and the
-- certificate's
abbrev pub Tells : Action → (b certificate : List ℕ) → Declared → List ℕ → ℕ → Type 0
Tells Lint b certificate d = TellsVerdict (Lints b d) b
Tells (Cert full) b certificate d = TellsText (Certifies full b d) b
Tells Check b certificate d = TellsVerdict (Checks b d certificate) b
Tells Print b certificate d = TellsText (Prints b) b

-- Of a script that is read there is one text and one status for an action, the certificate's
-- bytes and what is declared.
abbrev pub TellsOneAnswer : Type 0
TellsOneAnswer =
    (action : Action) (b certificate : List ℕ) (d : Declared) (t : Script) (text other : List ℕ) (status another : ℕ)
    → Parses b (Ok t) → Tells action b certificate d text status → Tells action b certificate d other another
    → (text ≡ other) × (status ≡ another)
