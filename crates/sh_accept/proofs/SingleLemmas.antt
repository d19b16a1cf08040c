-- Two greatest certificates of a script are one, and so are two answers if no certificate is given.
use Rattle.std.proofs.Common.{◌≡◌, ℕ, Bool, true, false, List, [], map, Result, Ok, Err, refl, sym, ◌∙◌, ap, subst}
use Rattle.sh_tree.specs.declared.refusal.Refusal.{Refusal}
use Rattle.sh_tree.specs.declared.refusal.Refusal.TheVariants.{TooLong, NulByte, Syntax, LeftOut, TooDeep, TooMany, Memory, Profile, CertSyntax, CertShape}
use Rattle.sh_tree.specs.declared.tree.Script.{Script}
use Rattle.sh_tree.specs.standard.program.Syntax.{Text}
use Rattle.sh_tree.specs.standard.program.Trees.{script_of}
use Rattle.sh_domain.specs.Compacts.{compact_of_sheet, compact_text}
use Rattle.sh_domain.specs.Facts.{Declared, facts}
use Rattle.sh_domain.specs.CompactForms.{begins_compact, given_as, read_given}
use Rattle.sh_domain.specs.Forms.{read_text}
use Rattle.sh_domain.specs.Sheets.{Sheet}
use Rattle.sh_domain.specs.Order.{IsWithin}
use Rattle.sh_domain.proofs.OrderLemmas.{within_itself}
use Rattle.sh_domain.proofs.TextLemmas.{computes as texts}
use Rattle.sh_answers.specs.Findings.{contents_at}
use Rattle.sh_answers.specs.Verdicts.{contents_of}
use Rattle.sh_answers.specs.declared.verdict.Finding.{Finding}
use Rattle.sh_answers.specs.declared.verdict.Verdict.{Verdict}
use Rattle.sh_answers.specs.declared.verdict.Verdict.TheVariants.{Pass, Fail, Forged}
use Rattle.sh_domain.specs.Admitted.{IsAdmitted, functions_in}
use Rattle.sh_accept.specs.Answers.{Refuses, RefusesText, NoRefusal, IsBest, HasLeastFindings, HasBestText, IsTextOf, Lints, places}
use Rattle.sh_accept.specs.Computed.{Answer, Passes, Finds, Breaks, Tells, shown, in_order, computed, IsRead, is_refusal, is_told}
use Rattle.sh_accept.specs.Single.{HasOneGreatest}
use Rattle.sh_accept.proofs.AnswerLemmas.{malformed, nothing, of_refusal}
use Rattle.sh_accept.proofs.FilledLemmas.{one_sheet, tree_is}
use Rattle.sh_accept.proofs.FindingLemmas.{found_in_order}
use Rattle.sh_accept.proofs.GreatestLemmas.{renamed, failed}
use Rattle.sh_accept.proofs.SheetLemmas.{same_claim}

module _ (b : List ℕ) (d : Declared) (t : Script) (names : List Text) (loops : List Bool) (read : IsRead b d t names loops) where
  pub one : (c e : Sheet) → IsBest b d t c → IsBest b d t e → c ≡ e
  one c e h k =
      one_sheet b d t names loops read h.names k.names h.admitted.numbered.0 k.admitted.numbered.0 c e h.greatest.fit k.greatest.fit h.greatest.spelled k.greatest.spelled
      (k.greatest.above c (renamed b d t h.names k.names c h.admitted.numbered.0 k.admitted.numbered.0 h.greatest.fit) h.greatest.rules)
      (h.greatest.above e (renamed b d t k.names h.names e k.admitted.numbered.0 h.admitted.numbered.0 k.greatest.fit) k.greatest.rules)

  -- along the one reading
  pub best_read : (u : Script) (c : Sheet) → IsBest b d u c → IsBest b d t c
  best_read u c h = subst (λ v. IsBest b d v c) (tree_is b d t names loops read u h.admitted.reading) h

  findings : (fs : List Finding) → HasLeastFindings b d fs → (gs : List Finding) → HasLeastFindings b d gs → map contents_of fs ≡ map contents_of gs
  findings fs h gs k =
      let p = tree_is b d t names loops read h.tree h.best.admitted.reading in
      let q = tree_is b d t names loops read k.tree k.best.admitted.reading in
      let same : h.certificate ≡ k.certificate = one h.certificate k.certificate (best_read h.tree h.certificate h.best) (best_read k.tree k.certificate k.best) in
      found_in_order b (places b d h.tree h.certificate) fs h.found
      ∙ (λ i. in_order (map (contents_at b) (places b d ((p ∙ sym q) i) (same i))))
      ∙ sym (found_in_order b (places b d k.tree k.certificate) gs k.found)

  -- of a certificate there is one text of each version
  text_of : (full : Bool) (c : Sheet) (x y : Text) → IsTextOf full d c x → IsTextOf full d c y → x ≡ y
  unfolding IsTextOf
  text_of true c x y h k = h ∙ sym k
  text_of false c x y h k =
      let known : facts h.0 ≡ facts k.0 = h.1.known ∙ sym k.1.known in
      let start : h.0 ≡ k.0 =
      same_claim h.0 k.0 h.1.written k.1.written (subst (IsWithin (facts h.0)) known (within_itself (facts h.0))) (subst (λ f. IsWithin f (facts h.0)) known (within_itself (facts h.0))) in
      h.2 ∙ ap (λ s. compact_text (compact_of_sheet s c)) start ∙ sym k.2

  pub one_text : (full : Bool) (x y : Text) → HasBestText full b d x → HasBestText full b d y → x ≡ y
  one_text full x y h k =
      let same : h.certificate ≡ k.certificate = one h.certificate k.certificate (best_read h.tree h.certificate h.best) (best_read k.tree k.certificate k.best) in
      text_of full k.certificate x y (subst (λ c. IsTextOf full d c x) same h.spelled) k.spelled

  -- a refusal is that of a check of no text at all, and otherwise this text is malformed
  as_checked : (e : Refusal) → Refuses b d NoRefusal e → Refuses b d (RefusesText b d []) e
  as_checked TooLong h = h
  as_checked (NulByte at) h = h
  as_checked (Syntax f at) h = h
  as_checked (LeftOut f at) h = h
  as_checked (TooDeep at) h = h
  as_checked TooMany h = h
  as_checked Memory h = h
  as_checked (Profile r at) h = h
  as_checked (CertSyntax n) h = absurd h
  as_checked CertShape h = absurd h

  abbrev checked : Answer
  checked = computed b d (script_of b t) (functions_in b t) names loops nothing []

  pub of_error : (e : Refusal) → Refuses b d NoRefusal e → is_refusal e ≡ true → checked ≡ Tells e
  of_error e h k = of_refusal b d t names loops nothing [] read e (as_checked e h) k

  no_text : read_given [] ≡ Err 1
  unfolding texts begins_compact given_as read_text
  no_text = refl

  of_admitted : (u : Script) (others : List Text) → IsAdmitted b d u others → checked ≡ Tells (CertSyntax 1)
  of_admitted u others a =
      malformed b d t names loops nothing [] read others 1 (subst (λ v. IsAdmitted b d v others) (tree_is b d t names loops read u a.reading) a) no_text

  unfoldable refusal_in : Answer → Refusal
  refusal_in (Tells e) = e
  refusal_in Passes = Memory
  refusal_in (Finds fs) = Memory
  refusal_in (Breaks n r) = Memory

  pub same_refusal : (e f : Refusal) → Tells e ≡ Tells f → e ≡ f
  unfolding refusal_in
  same_refusal e f h = ap refusal_in h

  pub not_both : (e : Refusal) (u : Script) (others : List Text) → Refuses b d NoRefusal e → is_refusal e ≡ true → IsAdmitted b d u others → ⊥
  not_both e u others h k a = subst (Refuses b d NoRefusal) (same_refusal e (CertSyntax 1) (sym (of_error e h k) ∙ of_admitted u others a)) h

  linted : (x y : Result Verdict Refusal) → Lints b d x → Lints b d y → is_told x ≡ true → is_told y ≡ true → shown x ≡ shown y
  unfolding shown is_told
  linted (Ok Pass) (Ok Pass) h g k l = refl
  linted (Ok Pass) (Ok (Fail r)) h g k l = absurd (failed b d r h.0 g h.1)
  linted (Ok Pass) (Ok (Forged n r)) h g k l = absurd g
  linted (Ok Pass) (Err e) h g k l = absurd (not_both e h.1.tree h.1.names g l h.1.admitted)
  linted (Ok (Fail r)) (Ok Pass) h g k l = absurd (failed b d r g.0 h g.1)
  linted (Ok (Fail r)) (Ok (Fail q)) h g k l = ap Finds (findings r.findings.items h q.findings.items g)
  linted (Ok (Fail r)) (Ok (Forged n f)) h g k l = absurd g
  linted (Ok (Fail r)) (Err e) h g k l = absurd (not_both e h.tree h.best.names g l h.best.admitted)
  linted (Ok (Forged n f)) y h g k l = absurd h
  linted (Err e) (Ok Pass) h g k l = absurd (not_both e g.1.tree g.1.names h k g.1.admitted)
  linted (Err e) (Ok (Fail r)) h g k l = absurd (not_both e g.tree g.best.names h k g.best.admitted)
  linted (Err e) (Ok (Forged n f)) h g k l = absurd g
  linted (Err e) (Err f) h g k l = sym (of_error e h k) ∙ of_error f g l

pub has_one_greatest : HasOneGreatest
has_one_greatest = record {
  one = λ b d t names loops c other r h k. one b d t names loops r c other h k;
  linted = λ b d t names loops x y r h g k l. linted b d t names loops r x y h g k l;
  certified = λ full b d t names loops v w r h k. one_text b d t names loops r full v.items w.items h.0 k.0;
}
