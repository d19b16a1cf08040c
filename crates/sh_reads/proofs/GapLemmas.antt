-- After blanks there are none, wherever they are read.
use Rattle.std.proofs.Common.{◌≡◌, ℕ, suc, ◌+◌, Bool, true, not, ◌&&◌, List, [], ◌∷◌, length, drop, refl, sym, ap, subst, ◌∙◌, ⊎_elim, arith}
use Rattle.std.proofs.lemmas.Bool.{cases_Bool, cond-true, cond-false, eqb-true}
use Rattle.std.proofs.lemmas.List.{drop-drop}
use Rattle.std.proofs.lemmas.List.Sums.{take_while-cons}
use Rattle.sh_tree.specs.standard.language.Bytes.{is_blank, is_newline, is_backslash}
use Rattle.sh_tree.specs.standard.language.Commands.{gap_length, comment_length, is_comment, blank_length, blanks}

pub gap_settles : (cs : List ℕ) → gap_length (drop (gap_length cs) cs) ≡ 0
unfolding gap_length
gap_settles [] = refl
gap_settles (c ∷ []) = ⊎_elim
    (λ blank. ap (λ n. gap_length (drop n (c ∷ []))) (cond-true _ _ _ blank))
    (λ other. ap (λ n. gap_length (drop n (c ∷ []))) (cond-false _ _ _ other) ∙ cond-false _ _ _ other)
    (cases_Bool (is_blank c))
gap_settles (c ∷ d ∷ cs) = ⊎_elim
    (λ blank.
    let more : gap_length (c ∷ d ∷ cs) ≡ suc (gap_length (d ∷ cs)) = cond-true _ _ _ blank ∙ omega arith in
    ap (λ n. gap_length (drop n (c ∷ d ∷ cs))) more ∙ gap_settles (d ∷ cs))
    (λ other. ⊎_elim
    (λ joins.
    let more : gap_length (c ∷ d ∷ cs) ≡ suc (suc (gap_length cs)) = cond-false _ _ _ other ∙ cond-true _ _ _ joins ∙ omega arith in
    ap (λ n. gap_length (drop n (c ∷ d ∷ cs))) more ∙ gap_settles cs)
    (λ last.
    let none : gap_length (c ∷ d ∷ cs) ≡ 0 = cond-false _ _ _ other ∙ cond-false _ _ _ last in
    ap (λ n. gap_length (drop n (c ∷ d ∷ cs))) none ∙ none)
    (cases_Bool (is_backslash c && is_newline d)))
    (cases_Bool (is_blank c))

newline_gap : (c : ℕ) (cs : List ℕ) → is_newline c ≡ true → gap_length (c ∷ cs) ≡ 0
unfolding gap_length
newline_gap c cs is = subst (λ v. gap_length (v ∷ cs) ≡ 0) (sym (eqb-true c 10 is)) (here cs)
  where
    here : (ds : List ℕ) → gap_length (10 ∷ ds) ≡ 0
    here [] = refl
    here (d ∷ ds) = refl

-- a comment ends before a newline
comment_gap : (cs : List ℕ) → gap_length (drop (comment_length cs) cs) ≡ 0
unfolding gap_length
comment_gap [] = refl
comment_gap (c ∷ cs) = ⊎_elim
    (λ line.
    let none : comment_length (c ∷ cs) ≡ 0 = ap length (take_while-cons (λ d. not (is_newline d)) c cs ∙ cond-false _ _ _ (ap not line)) in
    ap (λ n. gap_length (drop n (c ∷ cs))) none ∙ newline_gap c cs line)
    (λ other.
    let more : comment_length (c ∷ cs) ≡ suc (comment_length cs) = ap length (take_while-cons (λ d. not (is_newline d)) c cs ∙ cond-true _ _ _ (ap not other)) in
    ap (λ n. gap_length (drop n (c ∷ cs))) more ∙ comment_gap cs)
    (cases_Bool (is_newline c))

blank_gap : (joins : Bool) (cs : List ℕ) → gap_length (drop (blank_length joins cs) cs) ≡ 0
unfolding blank_length
blank_gap joins cs =
    let rest = drop (gap_length cs) cs in
    ⊎_elim
    (λ comment.
    let whole : blank_length joins cs ≡ gap_length cs + comment_length rest = cond-true _ _ _ comment in
    ap (λ n. gap_length (drop n cs)) whole ∙ ap gap_length (sym (drop-drop (comment_length rest) (gap_length cs) cs)) ∙ comment_gap rest)
    (λ other.
    let whole : blank_length joins cs ≡ gap_length cs = cond-false _ _ _ other in
    ap (λ n. gap_length (drop n cs)) whole ∙ gap_settles cs)
    (cases_Bool (is_comment joins rest))

-- a token is there: no blank and no line continuation
pub blanks_gap : (joins : Bool) (b : List ℕ) (i : ℕ) → gap_length (drop (blanks joins b i) b) ≡ 0
unfolding blanks
blanks_gap joins b i = ap gap_length (sym (drop-drop (blank_length joins (drop i b)) i b)) ∙ blank_gap joins (drop i b)

pub settled_gap : (joins : Bool) (b : List ℕ) (i : ℕ) → blanks joins b i ≡ i → gap_length (drop i b) ≡ 0
settled_gap joins b i h = ap (λ j. gap_length (drop j b)) (sym h) ∙ blanks_gap joins b i
