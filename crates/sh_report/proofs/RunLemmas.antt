-- What is reported of an answer.
use Rattle.std.proofs.Common.{◌≡◌, ℕ, List, Vec, Result, Ok, Err, IfOk, IsErr, sym, true≢false}
use Rattle.std.specs.declared.alloc.AllocError.{AllocError}
use Rattle.std.specs.declared.alloc.Global.{Global}
use Rattle.sh_tree.specs.declared.refusal.Refusal.{Refusal}
use Rattle.sh_tree.specs.declared.refusal.Refusal.TheVariants.{Memory}
use Rattle.sh_answers.specs.Texts.{answer_text, status_of}
use Rattle.sh_answers.specs.declared.verdict.Verdict.{Verdict}
use Rattle.sh_accept.specs.Written.{TellsText, TellsVerdict, shown_status, shown_text}
use Rattle.sh_report.specs.declared.engine.Answer.{Answer}

pub verdict_told : (Should : Result Verdict Refusal → Type 0) (b : List ℕ) (answer : Result Verdict Refusal) (r : Result Answer AllocError) → Should answer
    → IfOk r (λ a. a.text.items ≡ answer_text b answer) → IfOk r (λ a. a.status ≡ status_of answer) → (answer ≡ Err Memory → IsErr r)
    → IfOk r (λ a. TellsVerdict Should b a.text.items a.status)
verdict_told Should b answer (Ok a) should text status memory = record { answer = answer; answers = should; memory = λ e. true≢false (sym (memory e)); text_is = text; status_is = status }
verdict_told Should b answer (Err e) should text status memory = tt

pub text_told : (Should : Result (Vec ℕ Global) Refusal → Type 0) (b : List ℕ) (shown : Result (Vec ℕ Global) Refusal) (r : Result Answer AllocError) → Should shown
    → IfOk r (λ a. a.text.items ≡ shown_text b shown) → IfOk r (λ a. a.status ≡ shown_status shown) → (shown ≡ Err Memory → IsErr r)
    → IfOk r (λ a. TellsText Should b a.text.items a.status)
text_told Should b shown (Ok a) should text status memory = record { answer = shown; answers = should; memory = λ e. true≢false (sym (memory e)); text_is = text; status_is = status }
text_told Should b shown (Err e) should text status memory = tt
