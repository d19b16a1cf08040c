-- The levels of arithmetic that do not have a token as an operator.
use Rattle.std.proofs.Common.{◌≡◌, ℕ, suc, ◌≤◌, Bool, true, false, cond, List, [], ◌∷◌, length, Option, Some, None, Result, Ok, Err, refl, sym, subst, arith}
use Rattle.std.specs.Prelude.{is_none}
use Rattle.std.proofs.lemmas.Bool.{true≢false}
use Rattle.sh_tree.specs.declared.refusal.Refusal.{Refusal}
use Rattle.sh_tree.specs.declared.tree.Binary.{Binary}
use Rattle.sh_tree.specs.declared.tree.Expr.{Expr}
use Rattle.sh_tree.specs.declared.token.arithmetic.Figure.{Figure}
use Rattle.sh_tree.specs.standard.language.Arithmetic.{lexeme, binary_of}
use Rattle.sh_words.specs.declared.frames.Operation.TheVariants as operation
use Rattle.sh_words.specs.declared.frames.Frame.{Frame}
use Rattle.sh_words.specs.declared.frames.Frame.TheVariants as frame
use Rattle.sh_words.specs.declared.frames.Focus.TheVariants as focus
use Rattle.sh_words.specs.declared.builder.WordBuilder.{WordBuilder}
use Rattle.sh_words.specs.declared.builder.Next.{Next}
use Rattle.sh_words.specs.Clauses.{Keeps, Steps}
use Rattle.sh_words.specs.Operations.{is_left, is_level_left, levels_left, leaving}
use Rattle.sh_words.specs.Rest.{Leftover, Left}
use Rattle.sh_words.specs.Sound.{Deep, IsSound, StepMoves, StepWorks}
use Rattle.sh_words.specs.States.{focused}
use Rattle.sh_words.proofs.Exchange.{Alike, steps_alike}
use Rattle.sh_words.proofs.OperationLemmas.{first_keeps}

-- what is left stays so

kept : (b : List ℕ) (w : WordBuilder) → Keeps b (Left b w) w
kept b w = record { forth = λ limit g u ps l. l; back = λ g u ps l. l }

kept_on : (b : List ℕ) (old : Leftover) (mid new : WordBuilder) → Keeps b old mid → Keeps b (Left b mid) new → Keeps b old new
kept_on b old mid new one two = record {
  forth = λ limit g u ps l. two.forth limit g u ps (one.forth limit g u ps l);
  back = λ g u ps l. one.back g u ps (two.back g u ps l);
}

is_nothing : (o : Option Binary) → is_none o ≡ true → o ≡ None
is_nothing None h = refl
is_nothing (Some x) h = absurd (true≢false (sym h))

module _ (b : List ℕ) (w : WordBuilder) (e : Expr) where
  abbrev within : List Frame → WordBuilder
  within fs = focused (record w { frames = fs }) (focus.Have e)

  one_left : (x : Frame) (fs : List Frame) → is_left (lexeme b w.at).figure x ≡ true → Keeps b (Left b (within (x ∷ fs))) (within fs)
  unfolding is_left is_level_left
  one_left (frame.Operation (operation.First level)) fs h = first_keeps b (record w { frames = fs }) e level None (is_nothing (binary_of level (lexeme b w.at).figure) h)
  one_left (frame.Operation (operation.Parenthesis depth)) fs h = absurd (true≢false (sym h))
  one_left (frame.Operation (operation.Unary depth o)) fs h = absurd (true≢false (sym h))
  one_left (frame.Operation (operation.More level first rest o)) fs h = absurd (true≢false (sym h))
  one_left (frame.Operation operation.Condition) fs h = absurd (true≢false (sym h))
  one_left (frame.Operation (operation.Yes depth c)) fs h = absurd (true≢false (sym h))
  one_left (frame.Operation (operation.No depth c y)) fs h = absurd (true≢false (sym h))
  one_left (frame.Operation (operation.Assign depth name o)) fs h = absurd (true≢false (sym h))
  one_left (frame.Opened h depth start inside o) fs is = absurd (true≢false (sym is))

  all_left : (fs : List Frame) → Keeps b (Left b (within fs)) (within (levels_left (lexeme b w.at).figure fs))
  unfolding levels_left
  all_left [] = kept b (within [])
  all_left (x ∷ fs) = go (all_left fs) (is_left (lexeme b w.at).figure x) refl
    where
      go : Keeps b (Left b (within fs)) (within (levels_left (lexeme b w.at).figure fs)) → (t : Bool) → is_left (lexeme b w.at).figure x ≡ t
          → Keeps b (Left b (within (x ∷ fs))) (within (cond t (levels_left (lexeme b w.at).figure fs) (x ∷ fs)))
      go more true h = kept_on b (Left b (within (x ∷ fs))) (within fs) (within (levels_left (lexeme b w.at).figure fs)) (one_left x fs h) more
      go more false h = kept b (within (x ∷ fs))

  alike_left : (f : Figure) → f ≡ (lexeme b w.at).figure → Alike (Left b (focused w (focus.Have e))) (Left b (focused (leaving w f) (focus.Have e)))
  alike_left f is =
      let k = all_left w.frames in
      subst (λ y. Alike (Left b (focused w (focus.Have e))) (Left b (focused (leaving w y) (focus.Have e)))) (sym is)
      (record { forth = λ limit g u ps l. k.forth limit g u ps l; back = λ g u ps l. k.back g u ps l })

  -- a step from there is one from here
  pub left_steps : (f : Figure) (new : WordBuilder) (res : Result (Option Next) Refusal) → f ≡ (lexeme b w.at).figure
      → Steps b (Left b (focused (leaving w f) (focus.Have e))) new res → Steps b (Left b (focused w (focus.Have e))) new res
  left_steps f new res is s = steps_alike b (Left b (focused w (focus.Have e))) (Left b (focused (leaving w f) (focus.Have e))) new res (alike_left f is) s

-- the builder moves, is sound and works as before

module _ (b : List ℕ) (n : ℕ) (f : Figure) where
  tail_deep : (x : Frame) (fs : List Frame) → Deep b n (x ∷ fs) → Deep b n fs
  tail_deep (frame.Opened h depth start inside o) fs d = d.4
  tail_deep (frame.Operation o) fs d = d.1

  deep_left : (fs : List Frame) → Deep b n fs → Deep b n (levels_left f fs)
  unfolding levels_left
  deep_left [] d = d
  deep_left (x ∷ fs) d = go (deep_left fs (tail_deep x fs d)) (is_left f x)
    where
      go : Deep b n (levels_left f fs) → (t : Bool) → Deep b n (cond t (levels_left f fs) (x ∷ fs))
      go more true = more
      go more false = d

fewer_left : (f : Figure) (fs : List Frame) → length (levels_left f fs) ≤ length fs
unfolding levels_left
fewer_left f [] = omega arith
fewer_left f (x ∷ fs) = go (fewer_left f fs) (is_left f x)
  where
    go : length (levels_left f fs) ≤ length fs → (t : Bool) → length (cond t (levels_left f fs) (x ∷ fs)) ≤ suc (length fs)
    go more true = omega (arith, more)
    go more false = omega arith

pub left_sound : (b : List ℕ) (w : WordBuilder) (e : Expr) (f : Figure) → IsSound b (focused w (focus.Have e)) → IsSound b (focused (leaving w f) (focus.Have e))
left_sound b w e f s = (s.0, s.1, tt, s.3, deep_left b w.base f w.frames s.4)

pub left_moves : (b : List ℕ) (w : WordBuilder) (f : Figure) (new : WordBuilder) (res : Result (Option Next) Refusal) → StepMoves b (leaving w f) new res → StepMoves b w new res
left_moves b w f new res m = m

pub left_works : (b : List ℕ) (w : WordBuilder) (e : Expr) (f : Figure) (new : WordBuilder) (res : Result (Option Next) Refusal)
    → StepWorks b (focused (leaving w f) (focus.Have e)) new res → StepWorks b (focused w (focus.Have e)) new res
left_works b w e f new (Ok None) less = let fewer = fewer_left f w.frames in omega (arith, less, fewer)
left_works b w e f new (Ok (Some next)) less = tt
left_works b w e f new (Err r) less = tt
