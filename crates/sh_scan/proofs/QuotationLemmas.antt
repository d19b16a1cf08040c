-- Quotations that begin with `$'`.
use Rattle.std.proofs.Common.{◌≡◌, ℕ, ◌+◌, ◌==◌, List, [], ◌∷◌, drop, refl, sym, ap, ◌∙◌, arith, ⊎_elim}
use Rattle.std.proofs.lemmas.Bool.{cases_Bool, cond-true, cond-false}
use Rattle.std.proofs.lemmas.List.{drop-drop}
use Rattle.sh_tree.specs.declared.token.word.Sign.{Sign}
use Rattle.sh_tree.specs.declared.token.word.Sign.TheVariants as sign
use Rattle.sh_tree.specs.standard.language.Bytes.{is_backslash}
use Rattle.sh_tree.specs.standard.language.Words.{dollar_quoted, is_dollar_escape, told_or}
use Rattle.sh_scan.specs.Quotes.{quotation_end}
use Rattle.sh_scan.specs.Steps.{escape_step, quoted_length}
use Rattle.sh_scan.proofs.StepLemmas.{Unrolls, goes_on, ends, behind, behind_is}

pub quoted_unrolls : (cs : List ℕ) → Unrolls quoted_length escape_step cs
unfolding quoted_length escape_step
quoted_unrolls [] = ends _ _ _ refl refl
quoted_unrolls (c ∷ []) = ends _ _ _ refl refl
quoted_unrolls (c ∷ d ∷ cs) = ⊎_elim
    (λ quote. ends _ _ _ (cond-true _ _ _ quote) (cond-true _ _ _ quote))
    (λ other. ⊎_elim
    (λ escapes. ⊎_elim
    (λ known. goes_on _ _ _ 1 (cond-false _ _ _ other ∙ cond-true _ _ _ escapes ∙ cond-true _ _ _ known) (cond-false _ _ _ other ∙ cond-true _ _ _ escapes ∙ cond-true _ _ _ known))
    (λ unknown. ends _ _ _ (cond-false _ _ _ other ∙ cond-true _ _ _ escapes ∙ cond-false _ _ _ unknown) (cond-false _ _ _ other ∙ cond-true _ _ _ escapes ∙ cond-false _ _ _ unknown))
    (cases_Bool (is_dollar_escape d)))
    (λ plain. goes_on _ _ _ 0 (cond-false _ _ _ other ∙ cond-false _ _ _ plain) (cond-false _ _ _ other ∙ cond-false _ _ _ plain))
    (cases_Bool (is_backslash c)))
    (cases_Bool (c == 39))

told_twice : (n k : ℕ) (found : Sign × ℕ) → told_or n (told_or k found) ≡ told_or (n + k) found
told_twice n k (sign.Single s, m) = ap (λ (i : ℕ). (sign.Single s, i)) (omega arith)
told_twice n k (sign.LeftOut f, m) = ap (λ (i : ℕ). (sign.LeftOut f, i)) (omega arith)
told_twice n k found = refl

told_none : (found : Sign × ℕ) → told_or 0 found ≡ found
told_none (sign.Single s, m) = ap (λ (i : ℕ). (sign.Single s, i)) (omega arith)
told_none (sign.LeftOut f, m) = ap (λ (i : ℕ). (sign.LeftOut f, i)) (omega arith)
told_none found = refl

-- a quotation goes on up to what ends it
module _ (cs : List ℕ) where
  abbrev ended : List ℕ → ℕ → Sign × ℕ
  ended ds n = told_or n (quotation_end (drop n ds))

  ended_here : dollar_quoted cs ≡ quotation_end cs → quoted_length cs ≡ 0 → dollar_quoted cs ≡ ended cs (quoted_length cs)
  ended_here is none = is ∙ sym (told_none (quotation_end cs)) ∙ ap (ended cs) (sym none)

  ended_later : (n : ℕ) (ds : List ℕ) → dollar_quoted cs ≡ told_or n (dollar_quoted ds) → quoted_length cs ≡ n + quoted_length ds → ((k : ℕ) → drop (n + k) cs ≡ drop k ds)
      → dollar_quoted ds ≡ ended ds (quoted_length ds) → dollar_quoted cs ≡ ended cs (quoted_length cs)
  ended_later n ds is more behind later =
      let k = quoted_length ds in
      is ∙ ap (told_or n) later ∙ told_twice n k (quotation_end (drop k ds)) ∙ ap (λ es. told_or (n + k) (quotation_end es)) (sym (behind k)) ∙ ap (ended cs) (sym more)

pub quoted_is : (cs : List ℕ) → dollar_quoted cs ≡ told_or (quoted_length cs) (quotation_end (drop (quoted_length cs) cs))
unfolding dollar_quoted quoted_length quotation_end
quoted_is [] = refl
quoted_is (c ∷ []) = ended_here (c ∷ []) refl refl
quoted_is (c ∷ d ∷ cs) = ⊎_elim
    (λ quote. ended_here (c ∷ d ∷ cs) (cond-true _ _ _ quote ∙ sym (cond-true _ _ _ quote)) (cond-true _ _ _ quote))
    (λ other. ⊎_elim
    (λ escapes. ⊎_elim
    (λ known. ended_later (c ∷ d ∷ cs) 2 cs (cond-false _ _ _ other ∙ cond-true _ _ _ escapes ∙ cond-true _ _ _ known) (cond-false _ _ _ other ∙ cond-true _ _ _ escapes ∙ cond-true _ _ _ known) (λ k. sym (drop-drop k 2 (c ∷ d ∷ cs))) (quoted_is cs))
    (λ unknown. ended_here (c ∷ d ∷ cs) (cond-false _ _ _ other ∙ cond-true _ _ _ escapes ∙ cond-false _ _ _ unknown ∙ sym (cond-false _ _ _ other)) (cond-false _ _ _ other ∙ cond-true _ _ _ escapes ∙ cond-false _ _ _ unknown))
    (cases_Bool (is_dollar_escape d)))
    (λ plain. ended_later (c ∷ d ∷ cs) 1 (d ∷ cs) (cond-false _ _ _ other ∙ cond-false _ _ _ plain) (cond-false _ _ _ other ∙ cond-false _ _ _ plain) (λ k. sym (drop-drop k 1 (c ∷ d ∷ cs))) (quoted_is (d ∷ cs)))
    (cases_Bool (is_backslash c)))
    (cases_Bool (c == 39))

pub quoted_behind : (cs : List ℕ) (n : ℕ) → n ≡ quoted_length cs → told_or (n + 2) (quotation_end (behind cs n)) ≡ told_or 2 (dollar_quoted cs)
quoted_behind cs n e =
    let sum : n + 2 ≡ 2 + n = omega arith in
    ap (λ ds. told_or (n + 2) (quotation_end ds)) (behind_is cs n) ∙ ap (λ (k : ℕ). told_or k (quotation_end (drop n cs))) sum ∙ sym (told_twice 2 n (quotation_end (drop n cs)))
    ∙ ap (λ k. told_or 2 (told_or k (quotation_end (drop k cs)))) e ∙ ap (told_or 2) (sym (quoted_is cs))
