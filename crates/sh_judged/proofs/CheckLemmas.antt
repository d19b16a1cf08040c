-- From what is reported of a certificate to what a check answers.
use Rattle.std.proofs.Common.{◌≡◌, ◌<◌, ℕ, true, List, ◌++◌, length, length-append, Result, Ok, Err, IfErr, IfOk, sym, subst, arith}
use Rattle.sh_tree.specs.declared.limits.TheConstants.{MAX_NESTING}
use Rattle.sh_tree.specs.declared.refusal.Refusal.{Refusal}
use Rattle.sh_tree.specs.declared.refusal.Refusal.TheVariants.{Memory}
use Rattle.sh_tree.specs.declared.tree.Script.{Script}
use Rattle.sh_tree.specs.standard.program.Syntax.{Text}
use Rattle.sh_tree.specs.standard.program.Trees.{script_of}
use Rattle.sh_runs.specs.Numbering.{is_numbered}
use Rattle.sh_domain.specs.Facts.{Declared}
use Rattle.sh_domain.specs.Sheets.{Sheet}
use Rattle.sh_domain.proofs.DifferLemmas.{read_is_numbered}
use Rattle.sh_answers.specs.declared.verdict.Verdict.{Verdict}
use Rattle.sh_answers.specs.declared.verdict.Verdict.TheVariants.{Pass, Fail, Forged}
use Rattle.sh_accept.specs.Answers.{Checks, IsCertified, places}
use Rattle.sh_accept.proofs.PartLemmas.{parts_always_answer}
use Rattle.sh_judged.specs.Judged.{Judges, TellsSome}
use Rattle.sh_checks.specs.Flows.{FindsPlaces, Flows, LeavesUnmet, unmet_in}
use Rattle.sh_checks.specs.declared.flow.Flow.TheVariants.{Rule}
use Rattle.sh_domain.specs.declared.rule.FlowRule.{FlowRule}
use Rattle.sh_quote.specs.Places.{unquoted}
use Rattle.sh_tree.specs.declared.place.Place.{Place}
use Rattle.sh_domain.specs.declared.certificate.Certificate.{Certificate}
use Rattle.sh_judged.specs.Prepared.{IsPrepared, AnswersText, sheet_in}
use Rattle.sh_judged.specs.Told.{TellsPlaces}
use Rattle.sh_judged.specs.declared.prepared.Prepared.{Prepared}

module _ (b : List ℕ) (d : Declared) where
  -- each command that is read has a number of its own
  pub numbered_prepared : (p : Prepared) → IsPrepared b d p → is_numbered (script_of b p.tree) ≡ true
  numbered_prepared p i = read_is_numbered b p.tree (MAX_NESTING, i.admitted.reading.1.0, i.admitted.reading.1.1)

  -- a flow rule is broken
  pub forges : (t : Script) (c : Sheet) (k : ℕ) (f : FlowRule) → Flows b d t c (Rule k f) → Judges b d t c (Forged k f)
  forges t c k f h = h

  -- none is, and what is reported of the places
  pub keeps : {E : Type 0} (t : Script) (c : Sheet) (ps : List Place) (r : Result Verdict E) → FindsPlaces b d t c ps → IfOk r (TellsPlaces b (ps ++ unquoted (script_of b t))) → IfOk r (Judges b d t c)
  keeps t c ps (Err e) h k = tt
  keeps t c ps (Ok v) h k = go v (subst (λ qs. TellsPlaces b (qs ++ unquoted (script_of b t)) v) h.1 k)
    where
      go : (v : Verdict) → TellsPlaces b (places b d t c) v → Judges b d t c v
      go Pass k = (h.0, k)
      go (Fail r) k = (h.0, k)
      go (Forged n f) k = absurd k

  -- memory ran out over a place to report
  pub some_told : {E : Type 0} (t : Script) (c : Sheet) (ps : List Place) (r : Result Verdict E) → FindsPlaces b d t c ps → IfErr r (λ _. 0 < length (ps ++ unquoted (script_of b t)))
      → IfErr r (λ _. TellsSome b d t c)
  some_told t c ps (Ok v) h k = tt
  some_told t c ps (Err e) h k = (h.0, subst (λ qs. 0 < length (qs ++ unquoted (script_of b t))) h.1 k)

  pub some_unmet : (t : Script) (c : Sheet) → LeavesUnmet b d t c → TellsSome b d t c
  some_unmet t c h = (h.0, omega (arith, h.1, length-append (unmet_in b d t c) (unquoted (script_of b t))))

  answers : (text : Text) (t : Script) (c : Sheet) (v : Verdict) → IsCertified b d text t c → Judges b d t c v → Checks b d text (Ok v)
  answers text t c Pass h j = (parts_always_answer b d text).passes t c h j.0 j.1
  answers text t c (Fail r) h j = (parts_always_answer b d text).fails t c r h j.0 j.1
  answers text t c (Forged n f) h j = (parts_always_answer b d text).forged t c (record { number = n; rule = f }) h j

  -- out of memory
  pub exhausted : (text : Text) (p : Prepared) (e : Refusal) → IsPrepared b d p → e ≡ Memory → Checks b d text (Err e)
  exhausted text p e i h = subst (λ x. Checks b d text (Err x)) (sym h) i.admitted.reading.0

  -- a certificate that fits
  pub certifies : (text : Text) (p : Prepared) (c : Certificate) (v : Verdict) → AnswersText b d text p (Ok c) → Judges b d p.tree (sheet_in p c) v → Checks b d text (Ok v)
  certifies text p c v h j = answers text p.tree (sheet_in p c) v h j

-- whatever is declared: what holds of these unmet demands and of the unquoted expansions holds of the places to report
pub of_places : (b : List ℕ) (t : Script) (c : Sheet) (unmet : List Place) (P : List Place → Type 0) → ((d : Declared) → unmet ≡ unmet_in b d t c) → P (unmet ++ unquoted (script_of b t))
    → (d : Declared) → P (places b d t c)
of_places b t c unmet P e h d = subst (λ ps. P (ps ++ unquoted (script_of b t))) (e d) h
