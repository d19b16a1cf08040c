-- However a word goes on, it ends after no fewer commands than came before.
use Rattle.std.proofs.Common.{ℕ, ◌≤◌, inl, inr, List, [], ◌∷◌, ◌++◌, sym, le_refl, le_trans, subst}
use Rattle.sh_tree.specs.declared.tree.Expr.{Expr}
use Rattle.sh_tree.specs.declared.tree.Part.{Part}
use Rattle.sh_tree.specs.declared.token.word.Context.{Context}
use Rattle.sh_tree.specs.standard.language.States.{Spot}
use Rattle.sh_tree.proofs.Counts.{parts_count, expression_count, conditional_count, level_count, operands_count}
use Rattle.sh_words.specs.declared.mode.Mode.{Mode}
use Rattle.sh_words.specs.declared.frames.Holder.{Holder}
use Rattle.sh_words.specs.declared.frames.Holder.TheVariants as holder
use Rattle.sh_words.specs.declared.frames.Operation.{Operation}
use Rattle.sh_words.specs.declared.frames.Operation.TheVariants as operation
use Rattle.sh_words.specs.declared.frames.Frame.{Frame}
use Rattle.sh_words.specs.declared.frames.Frame.TheVariants as frame
use Rattle.sh_words.specs.declared.frames.Focus.{Focus}
use Rattle.sh_words.specs.declared.frames.Focus.TheVariants as focus
use Rattle.sh_words.specs.declared.builder.WordBuilder.{WordBuilder}
use Rattle.sh_words.specs.Rest.{Around, Read, parts, one, Holds, Operates, After, outer, Then, Rest, Left, placed, here}
use Rattle.sh_words.specs.States.{context_in, found_in}

module _ (b : List ℕ) (limit : ℕ) (g : Around) (n : ℕ) where
  holds_count : (h : Holder) (next : ℕ) (p : Part) (u : Spot) (K : Read → Spot → Type 0) → ((z : Read) (v : Spot) → K z v → v.count ≤ n) → Holds b limit g h next p u K
      → u.count ≤ n
  holds_count (holder.Parts x prior found) next p u K k h = le_trans (parts_count h.2) (k _ h.0 h.3)
  holds_count (holder.Operand x start) next p u K k h = k _ u h

  operates_count : (x : Context) (f : Operation) (e : Expr) (j : Spot) (K : Read → Spot → Type 0) → ((z : Read) (v : Spot) → K z v → v.count ≤ n) → Operates b limit g x f e j K
      → j.count ≤ n
  operates_count x (operation.Parenthesis depth) e j K k h = k _ _ h.1
  operates_count x (operation.Unary depth o) e j K k h = k _ _ h
  operates_count x (operation.First level) e j K k h = le_trans (operands_count h.2) (k _ h.0 h.3)
  operates_count x (operation.More level first rest o) e j K k h = le_trans (operands_count h.2) (k _ h.0 h.3)
  operates_count x operation.Condition e j K k (inl h) = k _ j h.1
  operates_count x operation.Condition e j K k (inr h) = le_trans (expression_count h.4) (le_trans (conditional_count h.8) (k _ _ h.9))
  operates_count x (operation.Yes depth c) e j K k h = le_trans (conditional_count h.3) (k _ _ h.4)
  operates_count x (operation.No depth c y) e j K k h = k _ _ h
  operates_count x (operation.Assign depth name o) e j K k h = k _ _ h

  after_count : (x : Context) (f : Frame) (y : Read) (j : Spot) (K : Read → Spot → Type 0) → ((z : Read) (v : Spot) → K z v → v.count ≤ n) → After b limit g x f y j K → j.count ≤ n
  after_count x (frame.Opened h depth start inside o) (parts ps) j K k a = holds_count h 0 a.0 (placed g depth j.at j) K k a.2
  after_count x (frame.Opened h depth start inside o) (one e) j K k a = holds_count h 0 _ _ K k a.3
  after_count x (frame.Operation f) (parts ps) j K k a = absurd a
  after_count x (frame.Operation f) (one e) j K k a = operates_count x f e j K k a

module _ (b : List ℕ) (limit : ℕ) (g : Around) (u : Spot) (ps : List Part) where
  then_count : (x : Context) (fs : List Frame) (y : Read) (j : Spot) → Then b limit g x fs y j u ps → j.count ≤ u.count
  then_count x [] (parts all) j t = subst (λ v. j.count ≤ v.count) (sym t.1) (le_refl j.count)
  then_count x [] (one e) j t = absurd t
  then_count x (f ∷ fs) y j t =
      after_count b limit g u.count x f y j (λ z v. Then b limit g (outer b limit g x f) fs z v u ps) (λ z v k. then_count (outer b limit g x f) fs z v k) t

  rest_count : (m : Mode) (x : Focus) (h : Holder) (fs : List Frame) (s : Spot) → Rest b limit g m x h fs s u ps → s.count ≤ u.count
  rest_count m focus.Start h fs s r = parts_count r
  rest_count m focus.Parts h fs s r = le_trans (parts_count r.3) (then_count (context_in h) fs (parts (found_in h ++ r.2)) r.1 r.4)
  rest_count m focus.Expression h fs s r = le_trans (expression_count r.3) (then_count (context_in h) fs (one r.2) r.1 r.4)
  rest_count m focus.Conditional h fs s r = le_trans (conditional_count r.3) (then_count (context_in h) fs (one r.2) r.1 r.4)
  rest_count m (focus.Level l) h fs s r = le_trans (level_count r.3) (then_count (context_in h) fs (one r.2) r.1 r.4)
  rest_count m (focus.Have e) h fs s r = then_count (context_in h) fs (one e) s r.1
  rest_count m (focus.Commands start style) h fs s r = absurd r

  -- what is left of a word ends after no fewer commands than came before
  pub left_count : (w : WordBuilder) → Left b w limit g u ps → g.count ≤ u.count
  unfolding Left
  left_count w l = rest_count w.mode w.focus w.holder w.frames (here g w) l
