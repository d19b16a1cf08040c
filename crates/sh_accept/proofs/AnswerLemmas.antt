-- Whatever a check may answer of a script that is read is the computed answer.
use Rattle.std.proofs.Common.{◌≡◌, ℕ, ◌≤◌, ◌<◌, ◌⊎◌, inl, inr, nat_le, Bool, true, false, List, [], ◌∷◌, ◌++◌, map, length, Some, None, Result, Ok, Err, is_some, refl, sym, ◌∙◌, ap, subst, arith}
use Rattle.std.proofs.lemmas.Bool.{true≢false}
use Rattle.std.proofs.lemmas.Bool.Decides.{nat_tests}
use Rattle.sh_tree.specs.declared.limits.TheConstants.{MAX_NAMES, MAX_NESTING}
use Rattle.sh_tree.specs.declared.place.Place.{Place}
use Rattle.sh_tree.specs.declared.refusal.Refusal.{Refusal}
use Rattle.sh_tree.specs.declared.refusal.Refusal.TheVariants.{TooLong, NulByte, Syntax, LeftOut, TooDeep, TooMany, Memory, Profile, CertSyntax, CertShape}
use Rattle.sh_tree.specs.declared.refusal.Rule.{Rule}
use Rattle.sh_tree.specs.declared.tree.Script.{Script}
use Rattle.sh_tree.specs.standard.program.Syntax.{Text}
use Rattle.sh_tree.specs.standard.program.Trees.{script_of}
use Rattle.sh_table.specs.Admits.{Admits}
use Rattle.sh_runs.specs.Profile.{first_refused}
use Rattle.sh_domain.specs.CompactForms.{GivenSheet, read_given}
use Rattle.sh_domain.specs.CompactReading.{IsOtherGiven, given_fits}
use Rattle.sh_domain.specs.Facts.{Declared, start_facts}
use Rattle.sh_domain.specs.Faults.{Fault, faults, least}
use Rattle.sh_domain.specs.Names.{IsNumbering, HasTooMany}
use Rattle.sh_domain.specs.Reading.{AreLoops}
use Rattle.sh_domain.specs.Sheets.{Sheet}
use Rattle.sh_domain.specs.declared.rule.FlowRule.{FlowRule}
use Rattle.sh_answers.specs.Findings.{AreFindings, contents_at}
use Rattle.sh_answers.specs.Verdicts.{Contents, contents_of}
use Rattle.sh_answers.specs.declared.verdict.Finding.{Finding}
use Rattle.sh_answers.specs.declared.verdict.Verdict.{Verdict}
use Rattle.sh_answers.specs.declared.verdict.Verdict.TheVariants.{Pass, Fail, Forged}
use Rattle.sh_domain.specs.Admitted.{IsAdmitted, claims_in, functions_in}
use Rattle.sh_accept.specs.Accepted.{IsAcceptedText}
use Rattle.sh_accept.specs.Answers.{Checks, Refuses, IsCertified, IsForged, HasFindings, RefusesText, places}
use Rattle.sh_accept.specs.Computed.{Answer, Passes, Finds, Breaks, Tells, shown, in_order, of_findings, of_fault, of_certificate, of_fit, of_claims, of_count, of_profile, filled_to, computed, IsFilledBy, IsRead, is_refusal, is_told, HasOneAnswer}
use Rattle.sh_accept.proofs.FilledLemmas.{tree_is, given_fit_is, filled_by, filled_given}
use Rattle.sh_accept.proofs.FindingLemmas.{found_in_order}
use Rattle.sh_accept.proofs.NumberingLemmas.{same_count}

-- for a text that is not compact
abbrev pub nothing : Sheet
nothing = record { commands = []; functions = [] }

module _ (b : List ℕ) (d : Declared) (t : Script) (names : List Text) (loops : List Bool) (filled : Sheet) (text : Text) (read : IsRead b d t names loops) where
  -- the answer
  abbrev pub answer : Answer
  answer = computed b d (script_of b t) (functions_in b t) names loops filled text

  -- what is answered of a certificate
  abbrev judged : Sheet → Answer
  judged c = of_certificate b d (script_of b t) (functions_in b t) c

  -- the rest of the answer after each step
  abbrev behind_text : Result GivenSheet ℕ → Answer
  behind_text r = of_claims (given_fits names loops (length (functions_in b t))) (λ g. judged (filled_to filled g)) r

  abbrev behind_names : Answer
  behind_names = behind_text (read_given text)

  admitted : first_refused (script_of b t) ≡ None → answer ≡ of_count (nat_le (length names) MAX_NAMES) behind_names
  unfolding of_profile
  admitted h = ap (λ o. of_profile o (of_count (nat_le (length names) MAX_NAMES) behind_names)) h

  few_names : (others : List Text) → IsNumbering b t d others → length others ≤ MAX_NAMES → nat_le (length names) MAX_NAMES ≡ true
  few_names others n few = let same = same_count b t d names others read.numbering n in grind (arith, nat_tests)

  many_names : (others : List Text) → IsNumbering b t d others → MAX_NAMES < length others → nat_le (length names) MAX_NAMES ≡ false
  many_names others n many = let same = same_count b t d names others read.numbering n in grind (arith, nat_tests)

  numbered : (others : List Text) → IsAdmitted b d t others → answer ≡ behind_names
  unfolding of_count
  numbered others a = admitted a.profile ∙ ap (λ c. of_count c behind_names) (few_names others a.numbered.0 a.numbered.1)

  refused : (r : Rule) (at : ℕ) → Admits (script_of b t) (Err (Profile r at)) → answer ≡ Tells (Profile r at)
  unfolding of_profile
  refused r at h = ap (λ o. of_profile o (of_count (nat_le (length names) MAX_NAMES) behind_names)) h.1 ∙ (λ i. Tells (Profile (h.2 i) (h.3 i)))

  unnumbered : first_refused (script_of b t) ≡ None → HasTooMany b t d → answer ≡ Tells TooMany
  unfolding of_count
  unnumbered p h = admitted p ∙ ap (λ c. of_count c behind_names) (many_names h.names h.numbered h.more)

  pub malformed : (others : List Text) (n : ℕ) → IsAdmitted b d t others → read_given text ≡ Err n → answer ≡ Tells (CertSyntax n)
  unfolding of_claims
  malformed others n a h = numbered others a ∙ ap behind_text h

  misfit : (others : List Text) (ls : List Bool) → IsAdmitted b d t others → AreLoops t ls → IsOtherGiven text others ls (length (functions_in b t)) → answer ≡ Tells CertShape
  unfolding of_claims of_fit
  misfit others ls a l h =
      numbered others a
      ∙ ap behind_text h.claims
      ∙ ap (λ k. of_fit k (judged (filled_to filled h.sheet))) (given_fit_is b d t names loops read others a.numbered.0 ls l h.sheet ∙ h.misfit)

  of_many : Refuses b d (RefusesText b d text) TooMany → answer ≡ Tells TooMany
  of_many (inl p) = absurd (p.refused.1 t read.reading.1)
  of_many (inr q) =
      let e : q.0 ≡ t = tree_is b d t names loops read q.0 q.1 in
      unnumbered (subst (λ u. first_refused (script_of b u) ≡ None) e q.2) (subst (λ u. HasTooMany b u d) e q.3)

  pub of_refusal : (x : Refusal) → Refuses b d (RefusesText b d text) x → is_refusal x ≡ true → answer ≡ Tells x
  unfolding is_refusal
  of_refusal TooLong h k = let l = read.reading.0.0 in let m = h.refused in absurd (omega arith)
  of_refusal (NulByte at) h k = absurd (true≢false (sym (ap is_some (sym read.reading.0.1 ∙ h.refused.1))))
  of_refusal (Syntax f at) h k = absurd (h.refused.2 t (MAX_NESTING, read.reading.1.0, read.reading.1.1))
  of_refusal (LeftOut f at) h k = absurd (h.refused.2 t (MAX_NESTING, read.reading.1.0, read.reading.1.1))
  of_refusal (TooDeep at) h k = absurd (h.refused.2 t read.reading.1)
  of_refusal TooMany h k = of_many h
  of_refusal Memory h k = absurd (true≢false (sym k))
  of_refusal (Profile r at) h k = let e : h.0 ≡ t = tree_is b d t names loops read h.0 h.1 in refused r at (subst (λ u. Admits (script_of b u) (Err (Profile r at))) e h.2)
  of_refusal (CertSyntax n) h k = let e : h.0 ≡ t = tree_is b d t names loops read h.0 h.2.reading in malformed h.1 n (subst (λ u. IsAdmitted b d u h.1) e h.2) h.3
  of_refusal CertShape h k =
      let e : h.0 ≡ t = tree_is b d t names loops read h.0 h.2.reading in
      misfit h.1 h.3.0 (subst (λ u. IsAdmitted b d u h.1) e h.2) (subst (λ u. AreLoops u h.3.0) e h.3.1) (subst (λ u. IsOtherGiven text h.1 h.3.0 (length (functions_in b u))) e h.3.2)

-- of a certificate, if a compact one is filled so
module _ (b : List ℕ) (d : Declared) (t : Script) (names : List Text) (loops : List Bool) (filled : Sheet) (text : Text) (read : IsRead b d t names loops) (by : IsFilledBy b t names loops text filled) where
  abbrev told : Answer
  told = answer b d t names loops filled text read

  certified : (c : Sheet) → IsCertified b d text t c → told ≡ of_certificate b d (script_of b t) (functions_in b t) c
  unfolding of_claims of_fit
  certified c h =
      let x = h.claims in
      let fit = given_fit_is b d t names loops read h.names h.admitted.numbered.0 x.fit.loops x.fit.are_loops x.given ∙ x.fit.fit in
      numbered b d t names loops filled text read h.names h.admitted
      ∙ ap (behind_text b d t names loops filled text read) x.reads
      ∙ ap (λ k. of_fit k (of_certificate b d (script_of b t) (functions_in b t) (filled_to filled x.given))) fit
      ∙ ap (of_certificate b d (script_of b t) (functions_in b t)) (filled_given b d t names loops read text filled c by h)

  -- the contents of the findings
  abbrev found : Sheet → List Contents
  found c = in_order (map (contents_at b) (places b d t c))

  none_least : (c : Sheet) → faults (start_facts d) (claims_in b t c) (script_of b t) ≡ [] → least (faults (start_facts d) (claims_in b t c) (script_of b t)) ≡ None
  unfolding least
  none_least c h = ap least h

  keeps : (c : Sheet) → IsCertified b d text t c → faults (start_facts d) (claims_in b t c) (script_of b t) ≡ [] → told ≡ of_findings (found c)
  unfolding of_fault
  keeps c h k = certified c h ∙ ap (λ o. of_fault o (of_findings (found c))) (none_least c k)

  passes : (c : Sheet) → IsCertified b d text t c → faults (start_facts d) (claims_in b t c) (script_of b t) ≡ [] → places b d t c ≡ [] → told ≡ Passes
  unfolding of_findings in_order
  passes c h k e = keeps c h k ∙ ap (λ ps. of_findings (in_order (map (contents_at b) ps))) e

  fails : (c : Sheet) (fs : List Finding) → IsCertified b d text t c → faults (start_facts d) (claims_in b t c) (script_of b t) ≡ [] → 0 < length fs → AreFindings b (places b d t c) fs
      → told ≡ Finds (map contents_of fs)
  unfolding of_findings
  fails c fs h k some f = keeps c h k ∙ ap of_findings (sym (found_in_order b (places b d t c) fs f)) ∙ has_some fs some
    where
      has_some : (fs : List Finding) → 0 < length fs → of_findings (map contents_of fs) ≡ Finds (map contents_of fs)
      has_some [] h = absurd (omega arith)
      has_some (x ∷ xs) h = refl

  forges : (c : Sheet) (f : Fault) → IsCertified b d text t c → least (faults (start_facts d) (claims_in b t c) (script_of b t)) ≡ Some f → told ≡ Breaks f.number f.rule
  unfolding of_fault
  forges c f h k = certified c h ∙ ap (λ o. of_fault o (of_findings (found c))) k

  -- Along the one reading

  of_pass : IsAcceptedText b d text → told ≡ Passes
  of_pass h =
      let a = h.accepted in
      let c = h.certificate in
      let e : a.tree ≡ t = tree_is b d t names loops read a.tree a.admitted.reading in
      let own : IsCertified b d text a.tree c = record { names = a.names; admitted = a.admitted; claims = h.claims } in
      passes c (subst (λ u. IsCertified b d text u c) e own) (subst (λ u. faults (start_facts d) (claims_in b u c) (script_of b u) ≡ []) e a.rules)
      (subst (λ u. places b d u c ≡ []) e (none_left _ _ a.met a.quoted))
    where
      none_left : (xs ys : List Place) → xs ≡ [] → ys ≡ [] → xs ++ ys ≡ []
      none_left xs ys p q = λ i. p i ++ q i

  of_fail : (fs : List Finding) → 0 < length fs → HasFindings b d text fs → told ≡ Finds (map contents_of fs)
  of_fail fs some h =
      let c = h.certificate in
      let e : h.tree ≡ t = tree_is b d t names loops read h.tree h.certified.admitted.reading in
      fails c fs (subst (λ u. IsCertified b d text u c) e h.certified) (subst (λ u. faults (start_facts d) (claims_in b u c) (script_of b u) ≡ []) e h.rules) some
      (subst (λ u. AreFindings b (places b d u c) fs) e h.found)

  of_forgery : (k : ℕ) (r : FlowRule) → IsForged b d text k r → told ≡ Breaks k r
  of_forgery k r h =
      let c = h.certificate in
      let e : h.tree ≡ t = tree_is b d t names loops read h.tree h.certified.admitted.reading in
      forges c (record { number = k; rule = r }) (subst (λ u. IsCertified b d text u c) e h.certified)
      (subst (λ u. least (faults (start_facts d) (claims_in b u c) (script_of b u)) ≡ Some (record { number = k; rule = r })) e h.told)

pub computes : (b : List ℕ) (d : Declared) (t : Script) (names : List Text) (loops : List Bool) (filled : Sheet) (text : Text) (x : Result Verdict Refusal)
    → IsRead b d t names loops → IsFilledBy b t names loops text filled → Checks b d text x → is_told x ≡ true → shown x ≡ computed b d (script_of b t) (functions_in b t) names loops filled text
unfolding shown is_told
computes b d t names loops filled text (Ok Pass) r by h k = sym (of_pass b d t names loops filled text r by h)
computes b d t names loops filled text (Ok (Fail report)) r by h k = sym (of_fail b d t names loops filled text r by report.findings.items report.some h)
computes b d t names loops filled text (Ok (Forged n rule)) r by h k = sym (of_forgery b d t names loops filled text r by n rule h)
computes b d t names loops filled text (Err e) r by h k = sym (of_refusal b d t names loops filled text r e h k)

module _ (b : List ℕ) (d : Declared) (t : Script) (names : List Text) (loops : List Bool) (text : Text) (read : IsRead b d t names loops) where
  abbrev ComputedBy : Result Verdict Refusal → Sheet → Type 0
  ComputedBy x filled = shown x ≡ computed b d (script_of b t) (functions_in b t) names loops filled text

  -- a verdict is on a certificate to which what is given is filled; a refusal is the same whatever
  -- that is
  judged_by : (x : Result Verdict Refusal) → Checks b d text x → is_told x ≡ true → ((c : Sheet) × IsFilledBy b t names loops text c) ⊎ ((filled : Sheet) → ComputedBy x filled)
  unfolding shown is_told
  judged_by (Ok Pass) h k =
      let e : h.accepted.tree ≡ t = tree_is b d t names loops read h.accepted.tree h.accepted.admitted.reading in
      let own : IsCertified b d text h.accepted.tree h.certificate = record { names = h.accepted.names; admitted = h.accepted.admitted; claims = h.claims } in
      inl (h.certificate, filled_by b d t names loops read text h.certificate (subst (λ u. IsCertified b d text u h.certificate) e own))
  judged_by (Ok (Fail r)) h k =
      let e : h.tree ≡ t = tree_is b d t names loops read h.tree h.certified.admitted.reading in
      inl (h.certificate, filled_by b d t names loops read text h.certificate (subst (λ u. IsCertified b d text u h.certificate) e h.certified))
  judged_by (Ok (Forged n rule)) h k =
      let e : h.tree ≡ t = tree_is b d t names loops read h.tree h.certified.admitted.reading in
      inl (h.certificate, filled_by b d t names loops read text h.certificate (subst (λ u. IsCertified b d text u h.certificate) e h.certified))
  judged_by (Err e) h k = inr (λ filled. sym (of_refusal b d t names loops filled text read e h k))

  one : (x y : Result Verdict Refusal) → Checks b d text x → Checks b d text y → is_told x ≡ true → is_told y ≡ true → shown x ≡ shown y
  one x y h g k l = elim (judged_by x h k) [
    | inl p ↦ computes b d t names loops p.0 text x read p.1 h k ∙ sym (computes b d t names loops p.0 text y read p.1 g l)
    | inr e ↦ elim (judged_by y g l) [
      | inl p ↦ e p.0 ∙ sym (computes b d t names loops p.0 text y read p.1 g l)
      | inr f ↦ e nothing ∙ sym (f nothing)
    ]
  ]

pub has_one_answer : HasOneAnswer
has_one_answer = record { computes = computes; one = λ b d t names loops text x y r h g k l. one b d t names loops text r x y h g k l }
