-- The lines of a text, one after the other.
use Rattle.std.proofs.Common.{◌≡◌, ℕ, suc, ◌+◌, ◌-◌, ◌<◌, ◌≤◌, List, [], ◌∷◌, length, Option, Some, None, option_map, Ok, Err, refl, sym, ap, ◌∙◌, arith}
use Rattle.sh_tree.specs.standard.program.Syntax.{Text}
use Rattle.sh_facts.specs.Fields.{line_of, line_in, left_of, outcome}
use Rattle.sh_domain.specs.Forms.{Reading, formed, whole_line, behind, read_line, read_lines, cut_at, is_first, counts_in, command_in, function_in, ended, read_sheet}
use Rattle.sh_domain.proofs.SpellingLemmas.{err_ok, none_some}

-- One line

formed_ok : {A : Type 0} (k : ℕ) (rest : Text) (o : Option A) (x : A × Text) → option_map {U = A × Text} (λ a. (a, rest)) o ≡ Some x → formed k rest o ≡ Ok x
unfolding formed
formed_ok k rest None x e = absurd (none_some e)
formed_ok k rest (Some a) x e = let same : (a, rest) ≡ x = cc in ap Ok same

formed_err : {A : Type 0} (k : ℕ) (rest : Text) (o : Option A) → option_map {U = A × Text} (λ a. (a, rest)) o ≡ None → formed k rest o ≡ Err k
unfolding formed
formed_err k rest None e = refl
formed_err k rest (Some a) e = absurd (none_some (sym e))

line_ok : {A : Type 0} (f : Text → Option A) (k : ℕ) (o : Option (Text × Text)) (x : A × Text) → line_of f o ≡ Some x → whole_line f k o ≡ Ok x
unfolding line_of whole_line
line_ok f k None x e = absurd (none_some e)
line_ok f k (Some y) x e = formed_ok k y.1 (f y.0) x e

line_err : {A : Type 0} (f : Text → Option A) (k : ℕ) (o : Option (Text × Text)) → line_of f o ≡ None → whole_line f k o ≡ Err k
unfolding line_of whole_line
line_err f k None e = refl
line_err f k (Some y) e = formed_err k y.1 (f y.0) e

pub line_read : {A : Type 0} (f : Text → Option A) (k : ℕ) (t : Text) (x : A × Text) → line_in f t ≡ Some x → read_line f k t ≡ Ok x
line_read f k t x e = line_ok f k (cut_at 10 t) x e

pub line_refused : {A : Type 0} (f : Text → Option A) (k : ℕ) (t : Text) → line_in f t ≡ None → read_line f k t ≡ Err k
line_refused f k t e = line_err f k (cut_at 10 t) e

-- What is left

pub left_ok : {A : Type 0} (r : Reading A) (u : Text) → left_of r ≡ Ok u → (x : A × Text) × (r ≡ Ok x) × (x.1 ≡ u)
unfolding left_of
left_ok (Ok x) u e = (x, refl, cc)
left_ok (Err k) u e = absurd (err_ok e)

ok_err : {A : Type 0} {x : A} {k : ℕ} → Ok x ≡ Err k → ⊥
ok_err e = cc

pub left_err : {A : Type 0} (r : Reading A) (k : ℕ) → left_of r ≡ Err k → r ≡ Err k
unfolding left_of
left_err (Ok x) k e = absurd (ok_err e)
left_err (Err j) k e = let same : j ≡ k = cc in ap Err same

-- Lines

pub left_behind : {A : Type 0} (a : A) (r : Reading (List A)) → left_of (behind r (λ y. Ok (a ∷ y.0, y.1))) ≡ left_of r
unfolding left_of behind
left_behind a (Ok y) = refl
left_behind a (Err k) = refl

one_line : {A : Type 0} (f : ℕ → Text → Option A) (k i n : ℕ) (t : Text) (x : A × Text) → line_in (f i) t ≡ Some x → left_of (read_lines f k i (suc n) t) ≡ left_of (read_lines f (k + 1) (i + 1) n x.1)
unfolding read_lines behind
one_line {A} f k i n t x e = rw (line_read (f i) k t x e) (left_behind x.0 (read_lines f (k + 1) (i + 1) n x.1))

no_line : {A : Type 0} (f : ℕ → Text → Option A) (k i n : ℕ) (t : Text) → line_in (f i) t ≡ None → left_of (read_lines f k i (suc n) t) ≡ Err k
unfolding read_lines behind left_of
no_line f k i n t e = rw (line_refused (f i) k t e) refl

module _ {A : Type 0} (f : ℕ → Text → Option A) (first count done : ℕ) (t left : Text)
    (inv : left_of (read_lines f first 1 count t) ≡ left_of (read_lines f (first + done) (done + 1) (count - done) left)) where
  pub lines_on : done < count → (x : A × Text) → line_in (f (done + 1)) left ≡ Some x → left_of (read_lines f first 1 count t) ≡ left_of (read_lines f (first + (done + 1)) (done + 1 + 1) (count - (done + 1)) x.1)
  lines_on lt x e =
      let more : count - done ≡ suc (count - (done + 1)) = omega arith in
      let next : first + done + 1 ≡ first + (done + 1) = omega arith in
      inv ∙ ap (λ n. left_of (read_lines f (first + done) (done + 1) n left)) more ∙ one_line f (first + done) (done + 1) (count - (done + 1)) left x e
      ∙ ap (λ k. left_of (read_lines f k (done + 1 + 1) (count - (done + 1)) x.1)) next

  pub lines_stop : done < count → line_in (f (done + 1)) left ≡ None → left_of (read_lines f first 1 count t) ≡ Err (first + done)
  lines_stop lt e =
      let more : count - done ≡ suc (count - (done + 1)) = omega arith in
      inv ∙ ap (λ n. left_of (read_lines f (first + done) (done + 1) n left)) more ∙ no_line f (first + done) (done + 1) (count - (done + 1)) left e

  pub lines_end : count ≤ done → left_of (read_lines f first 1 count t) ≡ Ok left
  unfolding read_lines left_of
  lines_end le = let none : count - done ≡ 0 = omega arith in inv ∙ ap (λ n. left_of (read_lines f (first + done) (done + 1) n left)) none

-- The text

pub any_end : {A : Type 0} (k : ℕ) (x : A) (z : Text) → outcome (ended k x z) ≡ outcome (ended k (tt {0}) z)
unfolding ended outcome
any_end k x [] = refl
any_end k x (c ∷ t) = refl

pub more_left : (k : ℕ) (z : Text) → 0 < length z → outcome (ended k (tt {0}) z) ≡ Err k
unfolding ended outcome
more_left k [] l = absurd (omega arith)
more_left k (c ∷ t) l = refl

pub none_left : (k : ℕ) (z : Text) → length z ≡ 0 → outcome (ended k (tt {0}) z) ≡ Ok (tt {0})
unfolding ended outcome
none_left k [] l = refl
none_left k (c ∷ t) l = absurd (omega arith)

pub sheet_first : (t : Text) (k : ℕ) → left_of (read_line is_first 1 t) ≡ Err k → outcome (read_sheet t) ≡ Err k
unfolding read_sheet behind outcome
sheet_first t k e = rw (left_err (read_line is_first 1 t) k e) refl

module _ (t u : Text) (first : left_of (read_line is_first 1 t) ≡ Ok u) where
  pub sheet_counts : (k : ℕ) → read_line counts_in 2 u ≡ Err k → outcome (read_sheet t) ≡ Err k
  unfolding read_sheet behind outcome
  sheet_counts k e =
      let a = left_ok (read_line is_first 1 t) u first in
      let b : read_line counts_in 2 a.0.1 ≡ Err k = ap (read_line counts_in 2) a.2 ∙ e in
      rw (a.1, b) refl

  module _ (v : Text) (n m : ℕ) (counts : read_line counts_in 2 u ≡ Ok ((n, m), v)) where
    pub sheet_commands : (k : ℕ) → left_of (read_lines command_in 3 1 n v) ≡ Err k → outcome (read_sheet t) ≡ Err k
    unfolding read_sheet behind outcome
    sheet_commands k e =
        let a = left_ok (read_line is_first 1 t) u first in
        let b : read_line counts_in 2 a.0.1 ≡ Ok ((n, m), v) = ap (read_line counts_in 2) a.2 ∙ counts in
        rw (a.1, b, left_err (read_lines command_in 3 1 n v) k e) refl

    module _ (w : Text) (commands : left_of (read_lines command_in 3 1 n v) ≡ Ok w) where
      pub sheet_functions : (k : ℕ) → left_of (read_lines function_in (3 + n) 1 m w) ≡ Err k → outcome (read_sheet t) ≡ Err k
      unfolding read_sheet behind outcome
      sheet_functions k e =
          let a = left_ok (read_line is_first 1 t) u first in
          let b : read_line counts_in 2 a.0.1 ≡ Ok ((n, m), v) = ap (read_line counts_in 2) a.2 ∙ counts in
          let c = left_ok (read_lines command_in 3 1 n v) w commands in
          let d : read_lines function_in (3 + n) 1 m c.0.1 ≡ Err k = ap (read_lines function_in (3 + n) 1 m) c.2 ∙ left_err (read_lines function_in (3 + n) 1 m w) k e in
          rw (a.1, b, c.1, d) refl

      module _ (z : Text) (functions : left_of (read_lines function_in (3 + n) 1 m w) ≡ Ok z) where
        sheet_ends : outcome (read_sheet t) ≡ outcome (ended (3 + n + m) (tt {0}) z)
        unfolding read_sheet behind
        sheet_ends =
            let a = left_ok (read_line is_first 1 t) u first in
            let b : read_line counts_in 2 a.0.1 ≡ Ok ((n, m), v) = ap (read_line counts_in 2) a.2 ∙ counts in
            let c = left_ok (read_lines command_in 3 1 n v) w commands in
            let d = left_ok (read_lines function_in (3 + n) 1 m w) z functions in
            let e : read_lines function_in (3 + n) 1 m c.0.1 ≡ Ok d.0 = ap (read_lines function_in (3 + n) 1 m) c.2 ∙ d.1 in
            rw (a.1, b, c.1, e) (any_end (3 + n + m) (record { commands = c.0.0; functions = d.0.0 }) d.0.1 ∙ ap (λ x. outcome (ended (3 + n + m) (tt {0}) x)) d.2)

        pub sheet_more : 0 < length z → outcome (read_sheet t) ≡ Err (3 + n + m)
        sheet_more l = sheet_ends ∙ more_left (3 + n + m) z l

        pub sheet_whole : length z ≡ 0 → outcome (read_sheet t) ≡ Ok (tt {0})
        sheet_whole l = sheet_ends ∙ none_left (3 + n + m) z l
