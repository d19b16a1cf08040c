-- The lines of a compact certificate's text, one after the other.
use Rattle.std.proofs.Common.{◌≡◌, ℕ, suc, ◌+◌, ◌-◌, ◌<◌, ◌≤◌, length, Some, None, Ok, Err, refl, ap, ◌∙◌, arith}
use Rattle.sh_tree.specs.standard.program.Syntax.{Text}
use Rattle.sh_domain.specs.CompactForms.{Counts, is_compact_line, compact_counts_in, start_in, turn_in, read_turns, read_compact_sheet}
use Rattle.sh_domain.specs.Compacts.{CompactSheet}
use Rattle.sh_domain.specs.Facts.{Claim}
use Rattle.sh_domain.specs.Forms.{behind, read_line, read_lines, function_in, ended}
use Rattle.sh_facts.specs.Fields.{line_in, left_of, outcome}
use Rattle.sh_facts.proofs.LineLemmas.{line_read, line_refused, left_ok, left_err, left_behind, any_end, more_left, none_left}

-- The lines of loops

one_turn : (k least n : ℕ) (t : Text) (x : (ℕ × Claim) × Text) → line_in (turn_in least) t ≡ Some x → left_of (read_turns k least (suc n) t) ≡ left_of (read_turns (k + 1) (x.0.0 + 1) n x.1)
unfolding read_turns behind
one_turn k least n t x e = rw (line_read (turn_in least) k t x e) (left_behind x.0 (read_turns (k + 1) (x.0.0 + 1) n x.1))

no_turn : (k least n : ℕ) (t : Text) → line_in (turn_in least) t ≡ None → left_of (read_turns k least (suc n) t) ≡ Err k
unfolding read_turns behind left_of
no_turn k least n t e = rw (line_refused (turn_in least) k t e) refl

module _ (count done least : ℕ) (t left : Text) (inv : left_of (read_turns 4 0 count t) ≡ left_of (read_turns (4 + done) least (count - done) left)) where
  pub turns_on : done < count → (x : (ℕ × Claim) × Text) → line_in (turn_in least) left ≡ Some x → left_of (read_turns 4 0 count t) ≡ left_of (read_turns (4 + (done + 1)) (x.0.0 + 1) (count - (done + 1)) x.1)
  turns_on lt x e =
      let more : count - done ≡ suc (count - (done + 1)) = omega arith in
      let next : 4 + done + 1 ≡ 4 + (done + 1) = omega arith in
      inv ∙ ap (λ n. left_of (read_turns (4 + done) least n left)) more ∙ one_turn (4 + done) least (count - (done + 1)) left x e
      ∙ ap (λ k. left_of (read_turns k (x.0.0 + 1) (count - (done + 1)) x.1)) next

  pub turns_stop : done < count → line_in (turn_in least) left ≡ None → left_of (read_turns 4 0 count t) ≡ Err (4 + done)
  turns_stop lt e =
      let more : count - done ≡ suc (count - (done + 1)) = omega arith in
      inv ∙ ap (λ n. left_of (read_turns (4 + done) least n left)) more ∙ no_turn (4 + done) least (count - (done + 1)) left e

  pub turns_end : count ≤ done → left_of (read_turns 4 0 count t) ≡ Ok left
  unfolding read_turns left_of
  turns_end le = let none : count - done ≡ 0 = omega arith in inv ∙ ap (λ n. left_of (read_turns (4 + done) least n left)) none

-- The text

pub sheet_first : (t : Text) (k : ℕ) → left_of (read_line is_compact_line 1 t) ≡ Err k → outcome (read_compact_sheet t) ≡ Err k
unfolding read_compact_sheet behind outcome
sheet_first t k e = rw (left_err (read_line is_compact_line 1 t) k e) refl

module _ (t u : Text) (first : left_of (read_line is_compact_line 1 t) ≡ Ok u) where
  pub sheet_counts : (k : ℕ) → read_line compact_counts_in 2 u ≡ Err k → outcome (read_compact_sheet t) ≡ Err k
  unfolding read_compact_sheet behind outcome
  sheet_counts k e =
      let a = left_ok (read_line is_compact_line 1 t) u first in
      let b : read_line compact_counts_in 2 a.0.1 ≡ Err k = ap (read_line compact_counts_in 2) a.2 ∙ e in
      rw (a.1, b) refl

  module _ (v : Text) (x : Counts) (counts : read_line compact_counts_in 2 u ≡ Ok (x, v)) where
    pub sheet_start : (k : ℕ) → read_line start_in 3 v ≡ Err k → outcome (read_compact_sheet t) ≡ Err k
    unfolding read_compact_sheet behind outcome
    sheet_start k e =
        let a = left_ok (read_line is_compact_line 1 t) u first in
        let b : read_line compact_counts_in 2 a.0.1 ≡ Ok (x, v) = ap (read_line compact_counts_in 2) a.2 ∙ counts in
        rw (a.1, b, e) refl

    module _ (w : Text) (s : Claim) (start : read_line start_in 3 v ≡ Ok (s, w)) where
      pub sheet_turns : (k : ℕ) → left_of (read_turns 4 0 x.loops w) ≡ Err k → outcome (read_compact_sheet t) ≡ Err k
      unfolding read_compact_sheet behind outcome
      sheet_turns k e =
          let a = left_ok (read_line is_compact_line 1 t) u first in
          let b : read_line compact_counts_in 2 a.0.1 ≡ Ok (x, v) = ap (read_line compact_counts_in 2) a.2 ∙ counts in
          rw (a.1, b, start, left_err (read_turns 4 0 x.loops w) k e) refl

      module _ (y : Text) (turns : left_of (read_turns 4 0 x.loops w) ≡ Ok y) where
        pub sheet_functions : (k : ℕ) → left_of (read_lines function_in (4 + x.loops) 1 x.functions y) ≡ Err k → outcome (read_compact_sheet t) ≡ Err k
        unfolding read_compact_sheet behind outcome
        sheet_functions k e =
            let a = left_ok (read_line is_compact_line 1 t) u first in
            let b : read_line compact_counts_in 2 a.0.1 ≡ Ok (x, v) = ap (read_line compact_counts_in 2) a.2 ∙ counts in
            let d = left_ok (read_turns 4 0 x.loops w) y turns in
            let f : read_lines function_in (4 + x.loops) 1 x.functions d.0.1 ≡ Err k =
            ap (read_lines function_in (4 + x.loops) 1 x.functions) d.2 ∙ left_err (read_lines function_in (4 + x.loops) 1 x.functions y) k e in
            rw (a.1, b, start, d.1, f) refl

        module _ (z : Text) (functions : left_of (read_lines function_in (4 + x.loops) 1 x.functions y) ≡ Ok z) where
          sheet_ends : outcome (read_compact_sheet t) ≡ outcome (ended (4 + x.loops + x.functions) (tt {0}) z)
          unfolding read_compact_sheet behind
          sheet_ends =
              let a = left_ok (read_line is_compact_line 1 t) u first in
              let b : read_line compact_counts_in 2 a.0.1 ≡ Ok (x, v) = ap (read_line compact_counts_in 2) a.2 ∙ counts in
              let d = left_ok (read_turns 4 0 x.loops w) y turns in
              let f = left_ok (read_lines function_in (4 + x.loops) 1 x.functions y) z functions in
              let g : read_lines function_in (4 + x.loops) 1 x.functions d.0.1 ≡ Ok f.0 = ap (read_lines function_in (4 + x.loops) 1 x.functions) d.2 ∙ f.1 in
              let whole : CompactSheet = record { commands = x.commands; start = s; heads = d.0.0; functions = f.0.0 } in
              rw (a.1, b, start, d.1, g) (any_end (4 + x.loops + x.functions) whole f.0.1 ∙ ap (λ r. outcome (ended (4 + x.loops + x.functions) (tt {0}) r)) f.2)

          pub sheet_more : 0 < length z → outcome (read_compact_sheet t) ≡ Err (4 + x.loops + x.functions)
          sheet_more l = sheet_ends ∙ more_left (4 + x.loops + x.functions) z l

          pub sheet_whole : length z ≡ 0 → outcome (read_compact_sheet t) ≡ Ok (tt {0})
          sheet_whole l = sheet_ends ∙ none_left (4 + x.loops + x.functions) z l
