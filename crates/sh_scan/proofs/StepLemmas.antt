-- Stretches of a text that are gone over piece by piece.
use Rattle.std.proofs.Common.{◌≡◌, ℕ, suc, ◌+◌, ◌-◌, ◌<◌, ◌≤◌, Bool, true, not, ◌&&◌, List, [], ◌∷◌, length, take, drop, refl, sym, ap, ◌∙◌, arith, ⊎_elim, length-drop, take_all}
use Rattle.std.proofs.lemmas.Bool.{cases_Bool, cond-true, cond-false, ne_eqb}
use Rattle.std.proofs.lemmas.List.{drop-drop}
use Rattle.std.specs.Prelude.{◌==◌}
use Rattle.sh_tree.specs.standard.language.Bytes.{is_blank, is_newline, is_backslash, is_joined, joined_length}
use Rattle.sh_tree.specs.standard.language.Commands.{gap_length}
use Rattle.sh_tree.specs.standard.language.HereDocuments.{line_length}
use Rattle.sh_scan.specs.Steps.{joined_step, gap_step, line_step}

-- the whole is a first piece and the whole of what is after it, or there is no piece
pub record Unrolls (f step : List ℕ → ℕ) (cs : List ℕ) : Type 0 where
  pub more : 0 < step cs → f cs ≡ step cs + f (drop (step cs) cs)
  pub none : step cs ≡ 0 → f cs ≡ 0

pub goes_on : (f step : List ℕ → ℕ) (cs : List ℕ) (n : ℕ) → step cs ≡ suc n → f cs ≡ suc n + f (drop (suc n) cs) → Unrolls f step cs
goes_on f step cs n e h = record { more = λ p. h ∙ ap (λ m. m + f (drop m cs)) (sym e); none = λ z. absurd (omega arith) }

pub ends : (f step : List ℕ → ℕ) (cs : List ℕ) → step cs ≡ 0 → f cs ≡ 0 → Unrolls f step cs
ends f step cs e h = record { more = λ p. absurd (omega arith); none = λ z. h }

pub joined_unrolls : (cs : List ℕ) → Unrolls joined_length joined_step cs
unfolding joined_length joined_step
joined_unrolls [] = ends _ _ _ refl refl
joined_unrolls (c ∷ []) = ends _ _ _ refl refl
joined_unrolls (c ∷ d ∷ cs) = ⊎_elim
    (λ yes. goes_on _ _ _ 1 (cond-true _ _ _ yes) (cond-true _ _ _ yes))
    (λ other. ends _ _ _ (cond-false _ _ _ other) (cond-false _ _ _ other))
    (cases_Bool (is_backslash c && is_newline d))

pub gap_unrolls : (cs : List ℕ) → Unrolls gap_length gap_step cs
unfolding gap_length gap_step joined_step
gap_unrolls [] = ends _ _ _ refl refl
gap_unrolls (c ∷ []) = ⊎_elim
    (λ yes. goes_on _ _ _ 0 (cond-true _ _ _ yes) (cond-true _ _ _ yes))
    (λ other. ends _ _ _ (cond-false _ _ _ other) (cond-false _ _ _ other))
    (cases_Bool (is_blank c))
gap_unrolls (c ∷ d ∷ cs) = ⊎_elim
    (λ yes. goes_on _ _ _ 0 (cond-true _ _ _ yes) (cond-true _ _ _ yes))
    (λ other. ⊎_elim
    (λ joins. goes_on _ _ _ 1 (cond-false _ _ _ other ∙ cond-true _ _ _ joins) (cond-false _ _ _ other ∙ cond-true _ _ _ joins))
    (λ last. ends _ _ _ (cond-false _ _ _ other ∙ cond-false _ _ _ last) (cond-false _ _ _ other ∙ cond-false _ _ _ last))
    (cases_Bool (is_backslash c && is_newline d)))
    (cases_Bool (is_blank c))

pub line_unrolls : (joins : Bool) (cs : List ℕ) → Unrolls (line_length joins) (line_step joins) cs
unfolding line_length line_step
line_unrolls joins [] = ends _ _ _ refl refl
line_unrolls joins (c ∷ []) = ⊎_elim
    (λ stop. ends _ _ _ (cond-true _ _ _ stop) (cond-true _ _ _ stop))
    (λ other. goes_on _ _ _ 0 (cond-false _ _ _ other) (cond-false _ _ _ other))
    (cases_Bool (is_newline c))
line_unrolls joins (c ∷ d ∷ cs) = ⊎_elim
    (λ stop. ends _ _ _ (cond-true _ _ _ stop) (cond-true _ _ _ stop))
    (λ other. ⊎_elim
    (λ keeps. goes_on _ _ _ 1 (cond-false _ _ _ other ∙ cond-true _ _ _ keeps) (cond-false _ _ _ other ∙ cond-true _ _ _ keeps))
    (λ one. goes_on _ _ _ 0 (cond-false _ _ _ other ∙ cond-false _ _ _ one) (cond-false _ _ _ other ∙ cond-false _ _ _ one))
    (cases_Bool (joins && is_backslash c)))
    (cases_Bool (is_newline c))

-- the whole is n bytes and the whole of what is after them
pub record Behind (f : List ℕ → ℕ) (cs : List ℕ) (n : ℕ) : Type 0 where
  pub within : n ≤ length cs
  pub whole : f cs ≡ n + f (drop n cs)

-- what the slice from n on holds
abbrev pub behind : List ℕ → ℕ → List ℕ
behind cs n = take (length cs - n) (drop n cs)

pub behind_is : (cs : List ℕ) (n : ℕ) → behind cs n ≡ drop n cs
behind_is cs n = take_all (length cs - n) (drop n cs) (omega (arith, length-drop n cs))

-- one piece further
pub one_more : (f step : List ℕ → ℕ) (cs : List ℕ) (n s : ℕ) → Behind f cs n → s ≡ step (behind cs n) → s ≤ length (behind cs n) → 0 < s
    → Unrolls f step (behind cs n) → Behind f cs (n + s)
one_more f step cs n s so e fits some unrolls =
    let rest = behind cs n in
    let same = behind_is cs n in
    let long : length rest ≡ length cs - n = ap length same ∙ length-drop n cs in
    let more : f rest ≡ s + f (drop s rest) = unrolls.more (omega arith) ∙ ap (λ m. m + f (drop m rest)) (sym e) in
    let later : drop s rest ≡ drop (n + s) cs = ap (drop s) same ∙ drop-drop s n cs in
    let bound = so.within in
    record { within = omega arith; whole = omega (arith, so.whole, ap f same, more, ap f later) }

-- no piece is left
pub no_more : (f step : List ℕ → ℕ) (cs : List ℕ) (n s : ℕ) → Behind f cs n → s ≡ step (behind cs n) → s ≡ 0 → Unrolls f step (behind cs n) → n ≡ f cs
no_more f step cs n s so e z unrolls =
    let last : f (behind cs n) ≡ 0 = unrolls.none (sym e ∙ z) in
    omega (arith, so.whole, ap f (behind_is cs n), last)

-- a line continuation is at the front if one is the first piece
pub is_joined_is : (cs : List ℕ) → not (joined_step cs == 0) ≡ is_joined cs
unfolding joined_length joined_step
is_joined_is [] = refl
is_joined_is (c ∷ []) = refl
is_joined_is (c ∷ d ∷ cs) = ⊎_elim
    (λ yes. ap (λ n. not (n == 0)) (cond-true _ _ _ yes) ∙ sym (ap (λ n. not (n == 0)) (cond-true _ _ _ yes) ∙ some (joined_length cs)))
    (λ other. ap (λ n. not (n == 0)) (cond-false _ _ _ other) ∙ sym (ap (λ n. not (n == 0)) (cond-false _ _ _ other)))
    (cases_Bool (is_backslash c && is_newline d))
  where
    some : (n : ℕ) → not (2 + n == 0) ≡ true
    some n = ap not (ne_eqb (2 + n) 0 (λ e. absurd (omega arith)))
