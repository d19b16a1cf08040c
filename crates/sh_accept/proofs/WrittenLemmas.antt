-- What is written of an answer is a function of what it shows; so there is one text and one status.
use Rattle.std.proofs.Common.{◌≡◌, ℕ, ◌<◌, ◌≤◌, ◌⊎◌, inl, inr, Bool, true, List, [], length, Vec, Result, Ok, Err, refl, sym, ◌∙◌, ap, arith}
use Rattle.std.specs.declared.alloc.Global.{Global}
use Rattle.sh_tree.specs.Answers.{Parses}
use Rattle.sh_tree.specs.declared.refusal.Refusal.{Refusal}
use Rattle.sh_tree.specs.declared.refusal.Refusal.TheVariants.{TooLong, NulByte, Syntax, LeftOut, TooDeep, TooMany, Memory, Profile, CertSyntax, CertShape}
use Rattle.sh_tree.specs.declared.tree.Script.{Script}
use Rattle.sh_tree.specs.standard.program.Syntax.{Text}
use Rattle.sh_domain.specs.Facts.{Declared}
use Rattle.sh_domain.specs.declared.limits.TheConstants.{MAX_CERTIFICATE}
use Rattle.sh_answers.specs.Texts.{answer_text, refusal_text, report_text, forged_text, status_of}
use Rattle.sh_answers.specs.declared.task.Action.{Action}
use Rattle.sh_answers.specs.declared.task.Action.TheVariants.{Lint, Cert, Check, Print}
use Rattle.sh_answers.specs.declared.verdict.Verdict.{Verdict}
use Rattle.sh_answers.specs.declared.verdict.Verdict.TheVariants.{Pass, Fail, Forged}
use Rattle.sh_accept.specs.Answers.{Checks, Lints, Certifies, HasBestText, Refuses, RefusesLong, NoRefusal}
use Rattle.sh_accept.specs.Computed.{Answer, Passes, Finds, Breaks, Tells, shown, is_refusal, is_told}
use Rattle.sh_accept.specs.Written as w
use Rattle.sh_accept.specs.Written.{TellsVerdict, TellsOneAnswer, shown_text, shown_status}
use Rattle.sh_accept.proofs.AnswerLemmas.{has_one_answer}
use Rattle.sh_accept.proofs.PrintLemmas.{prints}
use Rattle.sh_accept.proofs.ReadLemmas.{known}
use Rattle.sh_accept.proofs.SingleLemmas.{has_one_greatest, not_both, of_error, one_text, same_refusal}

-- by what is shown

text_of : List ℕ → Answer → List ℕ
text_of b Passes = report_text []
text_of b (Finds fs) = report_text fs
text_of b (Breaks k f) = forged_text k f
text_of b (Tells e) = refusal_text b e

text_shown : (b : List ℕ) (x : Result Verdict Refusal) → answer_text b x ≡ text_of b (shown x)
unfolding text_of shown
text_shown b (Ok Pass) = refl
text_shown b (Ok (Fail r)) = refl
text_shown b (Ok (Forged k f)) = refl
text_shown b (Err e) = refl

status_in : Answer → ℕ
status_in Passes = 0
status_in (Finds fs) = 1
status_in (Breaks k f) = 1
status_in (Tells e) = status_of (Err e)

status_shown : (x : Result Verdict Refusal) → status_of x ≡ status_in (shown x)
unfolding status_in shown
status_shown (Ok Pass) = refl
status_shown (Ok (Fail r)) = refl
status_shown (Ok (Forged k f)) = refl
status_shown (Err e) = refl

refused : (e : Refusal) → (e ≡ Memory → ⊥) → is_refusal e ≡ true
unfolding is_refusal
refused Memory h = absurd (h refl)
refused e h = refl

told : (x : Result Verdict Refusal) → (x ≡ Err Memory → ⊥) → is_told x ≡ true
unfolding is_told
told (Ok v) h = refl
told (Err e) h = refused e (λ is. h (ap Err is))

verdicts : (Should : Result Verdict Refusal → Type 0) (b text other : List ℕ) (status another : ℕ)
    → ((x y : Result Verdict Refusal) → Should x → Should y → is_told x ≡ true → is_told y ≡ true → shown x ≡ shown y)
    → TellsVerdict Should b text status → TellsVerdict Should b other another → (text ≡ other) × (status ≡ another)
verdicts Should b text other status another single h k =
    let same = single h.answer k.answer h.answers k.answers (told h.answer h.memory) (told k.answer k.memory) in (
      h.text_is ∙ text_shown b h.answer ∙ ap (text_of b) same ∙ sym (text_shown b k.answer) ∙ sym k.text_is,
      h.status_is ∙ status_shown h.answer ∙ ap status_in same ∙ sym (status_shown k.answer) ∙ sym k.status_is,
    )

-- When a certificate is shown

-- the text of the greatest certificate is too long
record IsLong (full : Bool) (b : List ℕ) (d : Declared) (e : Refusal) : Type 0 where
  is : e ≡ CertSyntax 0
  text : Text
  best : HasBestText full b d text
  long : MAX_CERTIFICATE < length text

cases_long : (full : Bool) (b : List ℕ) (d : Declared) (e : Refusal) → Refuses b d (RefusesLong full b d) e → Refuses b d NoRefusal e ⊎ IsLong full b d e
cases_long full b d TooLong h = inl h
cases_long full b d (NulByte at) h = inl h
cases_long full b d (Syntax f at) h = inl h
cases_long full b d (LeftOut f at) h = inl h
cases_long full b d (TooDeep at) h = inl h
cases_long full b d TooMany h = inl h
cases_long full b d Memory h = inl h
cases_long full b d (Profile r at) h = inl h
cases_long full b d (CertSyntax n) h = inr (record { is = ap CertSyntax h.3; text = h.0; best = h.1; long = h.2 })
cases_long full b d CertShape h = absurd h

module _ (b : List ℕ) (d : Declared) (t : Script) (reading : Parses b (Ok t)) where
  -- no certificate is shown and refused
  not_refused : (full : Bool) (v : Vec ℕ Global) (e : Refusal) → Certifies full b d (Ok v) → Refuses b d (RefusesLong full b d) e → (e ≡ Memory → ⊥) → ⊥
  not_refused full v e h k apart =
      let x = known b d t reading in
      elim (cases_long full b d e k) [
        | inl r ↦ not_both b d t x.names x.loops x.read e h.0.tree h.0.best.names r (refused e apart) h.0.best.admitted
        | inr l ↦ over v.items l.text (one_text b d t x.names x.loops x.read full v.items l.text h.0 l.best) h.1 l.long
      ]
    where
      over : (xs ys : List ℕ) → xs ≡ ys → length xs ≤ MAX_CERTIFICATE → MAX_CERTIFICATE < length ys → ⊥
      over xs ys is l m = let long = ap length is in omega arith

  -- two refusals are one
  one_refusal : (full : Bool) (e f : Refusal) → Refuses b d (RefusesLong full b d) e → Refuses b d (RefusesLong full b d) f → (e ≡ Memory → ⊥) → (f ≡ Memory → ⊥) → e ≡ f
  one_refusal full e f h k g l =
      let x = known b d t reading in
      elim (cases_long full b d e h) [
        | inl r ↦ elim (cases_long full b d f k) [
          | inl s ↦
              same_refusal b d t x.names x.loops x.read e f
              (sym (of_error b d t x.names x.loops x.read e r (refused e g)) ∙ of_error b d t x.names x.loops x.read f s (refused f l))
          | inr s ↦ absurd (not_both b d t x.names x.loops x.read e s.best.tree s.best.best.names r (refused e g) s.best.best.admitted)
        ]
        | inr r ↦ elim (cases_long full b d f k) [
          | inl s ↦ absurd (not_both b d t x.names x.loops x.read f r.best.tree r.best.best.names s (refused f l) r.best.best.admitted)
          | inr s ↦ r.is ∙ sym s.is
        ]
      ]

  certificates : (full : Bool) (x y : Result (Vec ℕ Global) Refusal) → Certifies full b d x → Certifies full b d y → (x ≡ Err Memory → ⊥) → (y ≡ Err Memory → ⊥)
      → (shown_text b x ≡ shown_text b y) × (shown_status x ≡ shown_status y)
  certificates full (Ok v) (Ok w) h k g l = let x = known b d t reading in (has_one_greatest.certified full b d t x.names x.loops v w x.read h k, refl)
  certificates full (Ok v) (Err f) h k g l = absurd (not_refused full v f h k (λ is. l (ap Err is)))
  certificates full (Err e) (Ok w) h k g l = absurd (not_refused full w e k h (λ is. g (ap Err is)))
  certificates full (Err e) (Err f) h k g l =
      let same = one_refusal full e f h k (λ is. g (ap Err is)) (λ is. l (ap Err is)) in
      (ap (refusal_text b) same, ap (λ (r : Refusal). status_of (Err r)) same)

  -- whatever the action
  tells_one : (action : Action) (certificate text other : List ℕ) (status another : ℕ)
      → w.Tells action b certificate d text status → w.Tells action b certificate d other another → (text ≡ other) × (status ≡ another)
  tells_one Lint certificate text other status another h k =
      let x = known b d t reading in
      verdicts (Lints b d) b text other status another (λ y z. has_one_greatest.linted b d t x.names x.loops y z x.read) h k
  tells_one (Cert full) certificate text other status another h k =
      let same = certificates full h.answer k.answer h.answers k.answers h.memory k.memory in
      (h.text_is ∙ same.0 ∙ sym k.text_is, h.status_is ∙ same.1 ∙ sym k.status_is)
  tells_one Check certificate text other status another h k =
      let x = known b d t reading in
      verdicts (Checks b d certificate) b text other status another (λ y z. has_one_answer.one b d t x.names x.loops certificate y z x.read) h k
  tells_one Print certificate text other status another h k =
      let same = prints b t reading h.answer k.answer h.answers k.answers h.memory k.memory in
      (h.text_is ∙ same.0 ∙ sym k.text_is, h.status_is ∙ same.1 ∙ sym k.status_is)

pub tells_one_answer : TellsOneAnswer
tells_one_answer action b certificate d t text other status another reading h k = tells_one b d t reading action certificate text other status another h k
