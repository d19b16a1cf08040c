-- A token of arithmetic before a byte that closes its context is the same wherever it is, whatever
-- follows that byte.
-- POSIX.1-2024, XCU 2.6.4 (arithmetic expansion).
use Rattle.std.proofs.Common.{◌≡◌, ℕ, zero, suc, ◌+◌, ◌≤◌, ◌==◌, Bool, true, false, ◌&&◌, ◌||◌, List, [], ◌∷◌, ◌++◌, length, drop, codes, nat_eq, nat_lt, if◌then◌else◌, inl, inr, refl, sym, ap, ◌∙◌, subst, arith, eqb-true, ⊎_elim}
use Rattle.std.specs.Prelude.{Option, Some, None}
use Rattle.std.specs.List.{starts_with}
use Rattle.std.proofs.Math.Bool.{and-false}
use Rattle.std.proofs.lemmas.Bool.{cond-true, cond-false, cond_both, le-ltb, and_parts, and_right}
use Rattle.std.proofs.lemmas.Bool.Decides.{nat_tests}
use Rattle.std.proofs.lemmas.List.{drop-drop, drop-append-le}
use Rattle.sh_tree.specs.declared.refusal.Form.TheVariants as form
use Rattle.sh_tree.specs.declared.token.arithmetic.Figure.{Figure}
use Rattle.sh_tree.specs.declared.token.arithmetic.Figure.TheVariants as figure
use Rattle.sh_tree.specs.declared.token.arithmetic.Lexeme.{Lexeme}
use Rattle.sh_tree.specs.standard.language.Arithmetic.{space_length, operator_table, constant_length, name_figure, unknown, figure_by, figure_of, is_split, lexeme_from, lexeme_start, lexeme}
use Rattle.sh_tree.specs.standard.language.Bytes.{is_in, is_blank, is_newline, is_backslash, is_digit, is_octal, is_hexadecimal, is_name_byte, is_name_start, is_first, run, name_length, longest, behind_joined, is_joined, joined_at}
use Rattle.sh_copies.proofs.AlikeBytes.{Alike, is_closer, closer_plain, by_bool, joined_alike, lone_alike, some_alike}
use Rattle.sh_copies.proofs.Fronts.{alike_behind, whole, run_behind, first_before, first_same, joined_at_is}
use Rattle.sh_copies.proofs.Tables.{Within, longest_moves, longest_within, settled_moves}

-- Blanks

closer_no_space : (c : ℕ) → is_closer c ≡ true → (is_blank c || is_newline c) ≡ false
closer_no_space c h = grind (arith, nat_tests)

no_space : (c : ℕ) (cs : List ℕ) → is_closer c ≡ true → space_length (c ∷ cs) ≡ 0
unfolding space_length
no_space c [] h = cond-false _ _ _ (closer_no_space c h)
no_space c (d ∷ cs) h = cond-false _ _ _ (closer_no_space c h) ∙ cond-false _ _ _ (ap (λ t. t && is_newline d) (closer_plain c h).backslash)

lone_space : (a c : ℕ) (r : List ℕ) → is_closer c ≡ true → (is_blank a || is_newline a) ≡ false → space_length (a ∷ c ∷ r) ≡ 0
unfolding space_length
lone_space a c r h k = cond-false _ _ _ k ∙ cond-false _ _ _ (and_right (is_backslash a) (is_newline c) (closer_plain c h).newline)

space_moves : (w : List ℕ) (c : ℕ) (r r' : List ℕ) → is_closer c ≡ true → (space_length (w ++ c ∷ r') ≡ space_length (w ++ c ∷ r)) × (space_length (w ++ c ∷ r) ≤ length w)
unfolding space_length
space_moves [] c r r' h = let e = no_space c r h in (no_space c r' h ∙ sym e, omega arith)
space_moves (a ∷ []) c r r' h = by_bool (is_blank a || is_newline a)
    (λ is.
    let e : space_length (a ∷ c ∷ r) ≡ 1 + space_length (c ∷ r) = cond-true _ _ _ is in
    let none = no_space c r h in
    (cond-true _ _ _ is ∙ ap (λ n. 1 + n) (no_space c r' h ∙ sym none) ∙ sym e, omega arith))
    (λ other. let e = lone_space a c r h other in (lone_space a c r' h other ∙ sym e, omega arith))
space_moves (a ∷ d ∷ w) c r r' h = by_bool (is_blank a || is_newline a)
    (λ is.
    let rest = space_moves (d ∷ w) c r r' h in
    let within = rest.1 in
    let e : space_length (a ∷ d ∷ (w ++ c ∷ r)) ≡ 1 + space_length (d ∷ (w ++ c ∷ r)) = cond-true _ _ _ is in
    (cond-true _ _ _ is ∙ ap (λ n. 1 + n) rest.0 ∙ sym e, omega arith))
    (λ other. by_bool (is_backslash a && is_newline d)
    (λ joined.
    let rest = space_moves w c r r' h in
    let within = rest.1 in
    let e : space_length (a ∷ d ∷ (w ++ c ∷ r)) ≡ 2 + space_length (w ++ c ∷ r) = cond-false _ _ _ other ∙ cond-true _ _ _ joined in
    (cond-false _ _ _ other ∙ cond-true _ _ _ joined ∙ ap (λ n. 2 + n) rest.0 ∙ sym e, omega arith))
    (λ last.
    let e : space_length (a ∷ d ∷ (w ++ c ∷ r)) ≡ 0 = cond-false _ _ _ other ∙ cond-false _ _ _ last in
    (cond-false _ _ _ other ∙ cond-false _ _ _ last ∙ sym e, omega arith)))

-- Tokens

no_name : (c : ℕ) → is_closer c ≡ true → is_name_byte c ≡ false
no_name c h = (closer_plain c h).name

no_octal : (c : ℕ) → is_closer c ≡ true → is_octal c ≡ false
no_octal c h = grind (arith, nat_tests)

no_hexadecimal : (c : ℕ) → is_closer c ≡ true → is_hexadecimal c ≡ false
no_hexadecimal c h = grind (arith, nat_tests)

no_digit : (c : ℕ) → is_closer c ≡ true → is_digit c ≡ false
no_digit c h = (closer_plain c h).digit

no_zero : (c : ℕ) → is_closer c ≡ true → (c == 48) ≡ false
no_zero c h = grind (arith, nat_tests)

no_prefix : (c : ℕ) → is_closer c ≡ true → is_in (codes "xX") c ≡ false
no_prefix c h = grind (arith, nat_tests)

constant_moves : (w : List ℕ) (c : ℕ) (r r' : List ℕ) → is_closer c ≡ true
    → (constant_length (w ++ c ∷ r') ≡ constant_length (w ++ c ∷ r)) × (is_first is_digit (w ++ c ∷ r) ≡ true → constant_length (w ++ c ∷ r) ≤ length w)
unfolding constant_length
constant_moves w c r r' h =
    let digits = run_behind is_digit 0 w c r r' h (no_digit c h) (omega arith) in
    let first = first_same (λ d. d == 48) 0 w c r r' h (omega arith) in
    by_bool (is_first (λ d. d == 48) (w ++ c ∷ r))
    (λ zero.
    let one = first_before (λ d. d == 48) 0 w c r (no_zero c h) (omega arith) zero in
    let octal = run_behind is_octal 1 w c r r' h (no_octal c h) (omega arith) in
    let second = first_same (is_in (codes "xX")) 1 w c r r' h (omega arith) in
    by_bool (is_first (is_in (codes "xX")) (drop 1 (w ++ c ∷ r)))
    (λ x.
    let two = first_before (is_in (codes "xX")) 1 w c r (no_prefix c h) (omega arith) x in
    let third = first_same is_hexadecimal 2 w c r r' h (omega arith) in
    let hexadecimal = run_behind is_hexadecimal 2 w c r r' h (no_hexadecimal c h) (omega arith) in
    by_bool (is_first is_hexadecimal (drop 2 (w ++ c ∷ r)))
    (λ some. (rw (first, zero, second, x, third, some) (ap (λ n. n + 2) hexadecimal.0), λ e. rw (zero, x, some) (let k = hexadecimal.1 in omega arith)))
    (λ none. (rw (first, zero, second, x, third, none) (ap (λ n. n + 1) octal.0), λ e. rw (zero, x, none) (let k = octal.1 in omega arith))))
    (λ other. (rw (first, zero, second, other) (ap (λ n. n + 1) octal.0), λ e. rw (zero, other) (let k = octal.1 in omega arith))))
    (λ other. (rw (first, other) digits.0, λ e. rw other (let k = digits.1 in omega arith)))

name_figure_moves : (w : List ℕ) (c : ℕ) (r r' : List ℕ) → is_closer c ≡ true → is_first is_name_start (w ++ c ∷ r) ≡ true
    → (name_figure (w ++ c ∷ r') ≡ name_figure (w ++ c ∷ r)) × ((name_figure (w ++ c ∷ r)).1 ≤ length w)
unfolding name_figure name_length
name_figure_moves w c r r' h is =
    let first = first_same is_name_start 0 w c r r' h (omega arith) in
    let names = run_behind is_name_byte 0 w c r r' h (no_name c h) (omega arith) in
    let text = (settled_moves (codes "sizeof") w c r r' refl h).0 in
    let long = names.1 in (
      rw (first, is, names.0, text) refl,
      rw is (cond_both {A = Figure × ℕ} (run is_name_byte (w ++ c ∷ r) == 6 && starts_with nat_eq (w ++ c ∷ r) (codes "sizeof")) _ _ (λ f. f.1 ≤ length w)
          (λ six. let both : (run is_name_byte (w ++ c ∷ r) == 6) ≡ true = (and_parts _ _ six).0 in let n : run is_name_byte (w ++ c ∷ r) ≡ 6 = eqb-true _ _ both in omega arith)
          (λ other. omega arith)),
    )

unknown_moves : (w : List ℕ) (c : ℕ) (r r' : List ℕ) → is_closer c ≡ true → (unknown (w ++ c ∷ r') ≡ unknown (w ++ c ∷ r)) × ((unknown (w ++ c ∷ r)).1 ≡ 1)
unfolding unknown
unknown_moves w c r r' h = let lone = lone_alike _ _ (whole w c r r' h) in (rw (lone.0, lone.1) refl, rw lone.0 refl)

-- what begins before the closer ends there, or is the closer
pub record Moves (w : List ℕ) (c : ℕ) (r r' : List ℕ) : Type 0 where
  pub same : figure_of (w ++ c ∷ r') ≡ figure_of (w ++ c ∷ r)
  pub within : Within (figure_of (w ++ c ∷ r)).1 w

pub figure_moves : (w : List ℕ) (c : ℕ) (r r' : List ℕ) → is_closer c ≡ true → Moves w c r r'
unfolding figure_of
figure_moves w c r r' h =
    let some = some_alike _ _ (whole w c r r' h) in
    let name = first_same is_name_start 0 w c r r' h (omega arith) in
    let digit = first_same is_digit 0 w c r r' h (omega arith) in
    by_bool (is_first is_name_start (w ++ c ∷ r))
    (λ is. let m = name_figure_moves w c r r' h is in record { same = rw (some.0, some.1, name, is) m.0; within = rw (some.0, is) (inr m.1) })
    (λ unnamed. by_bool (is_first is_digit (w ++ c ∷ r))
    (λ is.
    let m = constant_moves w c r r' h in record {
      same = rw (some.0, some.1, name, unnamed, digit, is) (ap (λ n. (figure.Constant, n)) m.0);
      within = rw (some.0, unnamed, is) (inr (m.1 is));
    })
    (λ other.
    let u = unknown_moves w c r r' h in
    let table = longest_moves operator_table w c r r' refl h in record {
      same = rw (some.0, some.1, name, unnamed, digit, other, table) (either (longest operator_table (w ++ c ∷ r)) u.0);
      within = rw (some.0, unnamed, other) (inside (longest operator_table (w ++ c ∷ r)) refl u.1);
    }))
  where
    either : (o : Option (Figure × ℕ)) → unknown (w ++ c ∷ r') ≡ unknown (w ++ c ∷ r) → figure_by (w ++ c ∷ r') o ≡ figure_by (w ++ c ∷ r) o
    either (Some f) u = refl
    either None u = u

    inside : (o : Option (Figure × ℕ)) → longest operator_table (w ++ c ∷ r) ≡ o → (unknown (w ++ c ∷ r)).1 ≡ 1 → Within (figure_by (w ++ c ∷ r) o).1 w
    inside (Some f) e u = longest_within operator_table w c r f refl h e
    inside None e u = inl (omega arith)

split_inside : (n : ℕ) (w : List ℕ) (c : ℕ) (r r' : List ℕ) → is_closer c ≡ true → n ≤ length w → is_split (w ++ c ∷ r') n ≡ is_split (w ++ c ∷ r) n
split_inside n w c r r' h l =
    let j = joined_at_is n w c r r' h l in
    let f = figure_moves j.0 c r r' h in
    ap (λ t. t && nat_lt n (figure_of (joined_at n (w ++ c ∷ r'))).1) (joined_alike _ _ (alike_behind n w c r r' h l))
    ∙ ap (λ m. is_joined (drop n (w ++ c ∷ r)) && nat_lt n m) (ap (λ t. (figure_of t).1) j.2 ∙ ap (λ t. t.1) f.same ∙ sym (ap (λ t. (figure_of t).1) j.1))

-- the closer itself is no longer token
closer_alone : (c : ℕ) (r : List ℕ) → is_closer c ≡ true → is_split (c ∷ r) 1 ≡ false
closer_alone c r h =
    let x = behind_joined r in
    let most : (figure_of (c ∷ x)).1 ≤ 1 = ⊎_elim (λ k. k) (λ k. omega arith) (figure_moves [] c x x h).within in
    ap (λ t. is_joined (drop 1 (c ∷ r)) && t) (le-ltb 1 (figure_of (joined_at 1 (c ∷ r))).1 most) ∙ and-false (is_joined (drop 1 (c ∷ r)))

split_moves : (n : ℕ) (w : List ℕ) (c : ℕ) (r r' : List ℕ) → is_closer c ≡ true → Within n w → is_split (w ++ c ∷ r') n ≡ is_split (w ++ c ∷ r) n
split_moves n w c r r' h (inr l) = split_inside n w c r r' h l
split_moves n (a ∷ w) c r r' h (inl l) = split_inside n (a ∷ w) c r r' h (omega arith)
split_moves zero [] c r r' h (inl l) = split_inside zero [] c r r' h (omega arith)
split_moves (suc zero) [] c r r' h (inl l) = closer_alone c r' h ∙ sym (closer_alone c r h)
split_moves (suc (suc n)) [] c r r' h (inl l) = absurd (omega arith)

-- Wherever they are

-- the same token, as far from i as from j
pub record SameLexeme (i j : ℕ) (l l' : Lexeme) : Type 0 where
  pub figure : l'.figure ≡ l.figure
  pub before : ℕ
  pub start : l.start ≡ i + before
  pub start' : l'.start ≡ j + before
  pub long : ℕ
  pub end : l.end ≡ i + long
  pub end' : l'.end ≡ j + long

abbrev made : ℕ → Figure × ℕ → Bool → Lexeme
made i found t = if t then record { figure = figure.LeftOut form.Continuation; start = i + found.1; end = i + found.1 } else record { figure = found.0; start = i; end = i + found.1 }

made_same : (i j k : ℕ) (found : Figure × ℕ) (t : Bool) → SameLexeme i j (made (i + k) found t) (made (j + k) found t)
made_same i j k found true = record {
  figure = refl;
  before = k + found.1;
  start = omega arith;
  start' = omega arith;
  long = k + found.1;
  end = omega arith;
  end' = omega arith;
}
made_same i j k found false = record { figure = refl; before = k; start = refl; start' = refl; long = k + found.1; end = omega arith; end' = omega arith }

lexeme_is : (b : List ℕ) (i k : ℕ) (found : Figure × ℕ) (t : Bool) → space_length (drop i b) ≡ k → figure_of (drop k (drop i b)) ≡ found → is_split (drop k (drop i b)) found.1 ≡ t
    → lexeme b i ≡ made (i + k) found t
unfolding lexeme lexeme_start
lexeme_is b i k found t space token split =
    ap (λ n. lexeme_from (drop (i + n) b) (i + n) (figure_of (drop (i + n) b))) space
    ∙ ap (λ cs. lexeme_from cs (i + k) (figure_of cs)) (sym (drop-drop k i b))
    ∙ ap (λ f. lexeme_from (drop k (drop i b)) (i + k) f) token
    ∙ ap (made (i + k) found) split

-- the token at or after a place before the closer
pub lexeme_alike : (b b' : List ℕ) (i j : ℕ) → Alike (drop i b) (drop j b') → SameLexeme i j (lexeme b i) (lexeme b' j)
lexeme_alike b b' i j a =
    let space = space_moves a.w a.c a.r a.r' a.closes in
    let k = space_length (a.w ++ a.c ∷ a.r) in
    let v = drop k a.w in
    let there : drop k (drop i b) ≡ v ++ a.c ∷ a.r = ap (drop k) a.there ∙ drop-append-le k a.w (a.c ∷ a.r) space.1 in
    let here : drop k (drop j b') ≡ v ++ a.c ∷ a.r' = ap (drop k) a.here ∙ drop-append-le k a.w (a.c ∷ a.r') space.1 in
    let m = figure_moves v a.c a.r a.r' a.closes in
    let found = figure_of (v ++ a.c ∷ a.r) in
    let t = is_split (v ++ a.c ∷ a.r) found.1 in
    let first = lexeme_is b i k found t (ap space_length a.there) (ap figure_of there) (ap (λ cs. is_split cs found.1) there) in
    let second = lexeme_is b' j k found t (ap space_length a.here ∙ space.0) (ap figure_of here ∙ m.same) (ap (λ cs. is_split cs found.1) here ∙ split_moves found.1 v a.c a.r a.r' a.closes m.within) in
    subst (λ l. SameLexeme i j l (lexeme b' j)) (sym first) (subst (λ l. SameLexeme i j (made (i + k) found t) l) (sym second) (made_same i j k found t))

-- the token at or after the front of one text
pub lexeme_shifts : (b b' : List ℕ) (i j : ℕ) → drop i b ≡ drop j b' → SameLexeme i j (lexeme b i) (lexeme b' j)
lexeme_shifts b b' i j e =
    let k = space_length (drop i b) in
    let found = figure_of (drop k (drop i b)) in
    let t = is_split (drop k (drop i b)) found.1 in
    let first = lexeme_is b i k found t refl refl refl in
    let second = lexeme_is b' j k found t (ap space_length (sym e)) (ap (λ cs. figure_of (drop k cs)) (sym e)) (ap (λ cs. is_split (drop k cs) found.1) (sym e)) in
    subst (λ l. SameLexeme i j l (lexeme b' j)) (sym first) (subst (λ l. SameLexeme i j (made (i + k) found t) l) (sym second) (made_same i j k found t))
