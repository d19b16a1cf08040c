-- How parts are read, by the sign that they begin with.
use Rattle.std.proofs.Common.{◌≡◌, ℕ, ◌+◌, ◌-◌, ◌<◌, ◌≤◌, Bool, true, false, List, [], ◌∷◌, ◌++◌, length, Option, Some, None, Result, Ok, Err, refl, ap, sym, ◌∙◌, subst, arith}
use mathlib.Core.Path.{fun_ext}
use Rattle.std.proofs.lemmas.Bool.{true≢false}
use Rattle.std.proofs.lemmas.List.{append-nil, append_assoc}
use Rattle.sh_tree.specs.declared.refusal.Refusal.TheVariants.{Syntax, TooDeep, Memory}
use Rattle.sh_tree.specs.declared.tree.CommandStyle.{CommandStyle}
use Rattle.sh_tree.specs.declared.tree.CommandStyle.TheVariants.{Backquote}
use Rattle.sh_tree.specs.declared.tree.Expr.TheVariants as expr
use Rattle.sh_tree.specs.declared.tree.ParameterOperator.TheVariants as operator
use Rattle.sh_tree.specs.declared.tree.Part.{Part}
use Rattle.sh_tree.specs.declared.tree.Part.TheVariants as part
use Rattle.sh_tree.specs.declared.tree.Subject.{Subject}
use Rattle.sh_tree.specs.declared.tree.Action.{Action}
use Rattle.sh_tree.specs.declared.tree.Removal.{Removal}
use Rattle.sh_tree.specs.declared.tree.Word.{Word}
use Rattle.sh_tree.specs.declared.token.word.Context.{Context}
use Rattle.sh_tree.specs.declared.token.word.Sign.{Sign}
use Rattle.sh_tree.specs.declared.token.word.Sign.TheVariants as sign
use Rattle.sh_tree.specs.declared.token.word.Token.{Token}
use Rattle.sh_tree.specs.declared.refusal.Refusal.{Refusal}
use Rattle.sh_tree.specs.standard.language.Reading as r
use Rattle.sh_tree.specs.standard.language.Reading.{ReadsParts, ReadsPart, prior_of, sign_at, after, over}
use Rattle.sh_tree.specs.standard.language.States.{Spot, to, behind}
use Rattle.sh_tree.specs.standard.language.Trees.{span, word, param}
use Rattle.sh_tree.specs.standard.language.Words.{token, is_quoted, in_double, in_use, in_removal, in_arithmetic}
use Rattle.sh_scan.specs.Moves.{reads_bytes}
use Rattle.sh_tree.proofs.Inversions.{PartIs, part_is, stopped, some_one}
use Rattle.sh_words.specs.declared.mode.Mode.{Mode}
use Rattle.sh_words.specs.declared.frames.Holder.{Holder}
use Rattle.sh_words.specs.declared.frames.Holder.TheVariants as holder
use Rattle.sh_words.specs.declared.frames.Opening.{Opening}
use Rattle.sh_words.specs.declared.frames.Opening.TheVariants as opening
use Rattle.sh_words.specs.declared.frames.Operation.{Operation}
use Rattle.sh_words.specs.declared.frames.Operation.TheVariants as operation
use Rattle.sh_words.specs.declared.frames.Frame.{Frame}
use Rattle.sh_words.specs.declared.frames.Frame.TheVariants as frame
use Rattle.sh_words.specs.declared.frames.Focus.TheVariants as focus
use Rattle.sh_words.specs.declared.builder.WordBuilder.{WordBuilder}
use Rattle.sh_words.specs.declared.builder.Next.{Next}
use Rattle.sh_words.specs.declared.builder.Next.TheVariants.{Done, Inner}
use Rattle.sh_words.specs.Clauses.{Keeps, Ends, Asks, Never, Answers, Steps}
use Rattle.sh_words.specs.Modes.{context_of, first_prior}
use Rattle.sh_words.specs.Rest.{Around, spot, placed, Read, parts, one, IsParts, Holds, After, Then, Rest, Left, LeftPart}
use Rattle.sh_words.specs.Signs.{is_part, is_stop, is_substitution}
use Rattle.sh_words.specs.Sound.{Deep, turns_left, work, StepWorks, Takes, TakesParts}
use Rattle.sh_words.specs.States.{context_in, prior_in, found_in, held, holding, whole_part, opening_of, nests, level_start, made, given, focus_in, opened, asking, focused, skipped, ended}
use Rattle.sh_words.specs.Steps.{Opens, Asked, Closes}
use Rattle.sh_words.proofs.EndLemmas.{nothing_closes}
use Rattle.sh_words.proofs.Exchange.{Alike}

-- What is left around a part does not depend on how many commands began before it

module _ (b : List ℕ) (limit : ℕ) (g : Around) (n : ℕ) where
  after_counted : (x : Context) (f : Frame) (y : Read) (j : Spot) (K : Read → Spot → Type 0) → After b limit (record g { count = n }) x f y j K ≡ After b limit g x f y j K
  after_counted x (frame.Opened (holder.Parts z prior found) depth start inside o) (parts ps) j K = refl
  after_counted x (frame.Opened (holder.Operand z begin) depth start inside o) (parts ps) j K = refl
  after_counted x (frame.Opened (holder.Parts z prior found) depth start inside o) (one e) j K = refl
  after_counted x (frame.Opened (holder.Operand z begin) depth start inside o) (one e) j K = refl
  after_counted x (frame.Operation f) (parts ps) j K = refl
  after_counted x (frame.Operation (operation.Parenthesis depth)) (one e) j K = refl
  after_counted x (frame.Operation (operation.Unary depth o)) (one e) j K = refl
  after_counted x (frame.Operation (operation.First level)) (one e) j K = refl
  after_counted x (frame.Operation (operation.More level first rest o)) (one e) j K = refl
  after_counted x (frame.Operation operation.Condition) (one e) j K = refl
  after_counted x (frame.Operation (operation.Yes depth c)) (one e) j K = refl
  after_counted x (frame.Operation (operation.No depth c y)) (one e) j K = refl
  after_counted x (frame.Operation (operation.Assign depth name o)) (one e) j K = refl

  then_counted : (x : Context) (fs : List Frame) (y : Read) (j u : Spot) (ps : List Part) → Then b limit (record g { count = n }) x fs y j u ps ≡ Then b limit g x fs y j u ps
  then_counted x [] (parts all) j u ps = refl
  then_counted x [] (one e) j u ps = refl
  then_counted x (frame.Opened h depth start inside o ∷ fs) y j u ps =
      after_counted x (frame.Opened h depth start inside o) y j (λ z v. Then b limit (record g { count = n }) (context_in h) fs z v u ps)
      ∙ ap (λ K. After b limit g x (frame.Opened h depth start inside o) y j K) (fun_ext (λ z. fun_ext (λ v. then_counted (context_in h) fs z v u ps)))
  then_counted x (frame.Operation f ∷ fs) y j u ps =
      after_counted x (frame.Operation f) y j (λ z v. Then b limit (record g { count = n }) x fs z v u ps)
      ∙ ap (λ K. After b limit g x (frame.Operation f) y j K) (fun_ext (λ z. fun_ext (λ v. then_counted x fs z v u ps)))

  -- a part that was given to the holder is what is left with it
  pub held_left : (m : Mode) (h : Holder) (next : ℕ) (p : Part) (fs : List Frame) (s u : Spot) (ps : List Part)
      → Holds b limit g h next p s (λ y j. Then b limit g (context_in h) fs y j u ps) → Rest b limit (record g { count = n }) m (holding h p) (held h next p) fs s u ps
  held_left m (holder.Parts x prior found) next p fs s u ps l =
      (tt, l.0, l.1, l.2, subst (λ t. t) (sym (then_counted x fs (parts ((found ++ p ∷ []) ++ l.1)) l.0 u ps)) l.3)
  held_left m (holder.Operand x start) next p fs s u ps l = (tt, subst (λ t. t) (sym (then_counted x fs (one (expr.Expansion p)) s u ps)) l)

  pub left_held : (m : Mode) (h : Holder) (next : ℕ) (p : Part) (fs : List Frame) (s u : Spot) (ps : List Part)
      → Rest b limit (record g { count = n }) m (holding h p) (held h next p) fs s u ps → Holds b limit g h next p s (λ y j. Then b limit g (context_in h) fs y j u ps)
  left_held m (holder.Parts x prior found) next p fs s u ps l =
      (l.1, l.2, l.3, subst (λ t. t) (then_counted x fs (parts ((found ++ p ∷ []) ++ l.2)) l.1 u ps) l.4)
  left_held m (holder.Operand x start) next p fs s u ps l = subst (λ t. t) (then_counted x fs (one (expr.Expansion p)) s u ps) l.1

moved : (b : List ℕ) (limit : ℕ) (g : Around) (h : Holder) (K : Read → Spot → Type 0) {next next' : ℕ} {p p' : Part} {u u' : Spot} → next ≡ next' → p ≡ p' → u ≡ u'
    → Holds b limit g h next p u K → Holds b limit g h next' p' u' K
moved b limit g h K {next' = next'} {p = p} {p' = p'} {u = u} e f d l =
    subst (λ i. Holds b limit g h next' p' i K) d (subst (λ q. Holds b limit g h next' q u K) f (subst (λ i. Holds b limit g h i p u K) e l))

-- Whole parts

whole_is : (limit : ℕ) (b : List ℕ) (x : Context) (s : Sign) (i v : Spot) (e : ℕ) (p q : Part) → whole_part s i.at e ≡ Some p → PartIs limit b x s i e v q → (v ≡ to e i) × (q ≡ p)
unfolding whole_part
whole_is limit b x sign.Plain i v e p q h is = (is.0, is.1 ∙ some_one h)
whole_is limit b x sign.Escaped i v e p q h is = (is.0, is.1 ∙ some_one h)
whole_is limit b x sign.Joined i v e p q h is = (is.0, is.1 ∙ some_one h)
whole_is limit b x (sign.Single style) i v e p q h is = (is.0, is.1 ∙ some_one h)
whole_is limit b x sign.Tilde i v e p q h is = (is.0, is.1 ∙ some_one h)
whole_is limit b x (sign.Value f) i v e p q h is = (is.0, is.1 ∙ some_one h)
whole_is limit b x (sign.Length f) i v e p q h is = (is.0, is.1 ∙ some_one h)
whole_is limit b x _ i v e p q h is = cc

whole_reads : (limit : ℕ) (b : List ℕ) (x : Context) (s : Sign) (i : Spot) (e : ℕ) (p : Part) → whole_part s i.at e ≡ Some p → ReadsPart limit b x s i e (to e i) p
unfolding whole_part
whole_reads limit b x sign.Plain i e p h = subst (λ q. ReadsPart limit b x sign.Plain i e (to e i) q) (some_one h) r.plain
whole_reads limit b x sign.Escaped i e p h = subst (λ q. ReadsPart limit b x sign.Escaped i e (to e i) q) (some_one h) r.escaped
whole_reads limit b x sign.Joined i e p h = subst (λ q. ReadsPart limit b x sign.Joined i e (to e i) q) (some_one h) r.joined
whole_reads limit b x (sign.Single style) i e p h = subst (λ q. ReadsPart limit b x (sign.Single style) i e (to e i) q) (some_one h) r.single_quoted
whole_reads limit b x sign.Tilde i e p h = subst (λ q. ReadsPart limit b x sign.Tilde i e (to e i) q) (some_one h) r.tilde
whole_reads limit b x (sign.Value f) i e p h = subst (λ q. ReadsPart limit b x (sign.Value f) i e (to e i) q) (some_one h) r.value
whole_reads limit b x (sign.Length f) i e p h = subst (λ q. ReadsPart limit b x (sign.Length f) i e (to e i) q) (some_one h) r.length_value
whole_reads limit b x _ i e p h = cc

pub whole_keeps : (b : List ℕ) (w : WordBuilder) (s : Sign) (start end : ℕ) (p : Part) → whole_part s start end ≡ Some p
    → Keeps b (LeftPart b w s start end) (given w (prior_of b s end) p end)
unfolding Left LeftPart
whole_keeps b w s start end p h = record {
  forth = λ limit g u ps l.
      let is = whole_is limit b (context_in w.holder) s (spot g w.depth start) l.0 end p l.1 h (part_is l.2) in
      let K = λ (y : Read) (j : Spot). Then b limit g (context_in w.holder) w.frames y j u ps in
      held_left b limit g g.count w.mode w.holder (prior_of b s end) p w.frames (spot g w.depth end) u ps
      (moved b limit g w.holder K (ap (λ v. prior_of b s v.at) is.0) is.1 is.0 l.3);
  back = λ g u ps l. (
    spot g w.depth end,
    p,
    whole_reads 64 b (context_in w.holder) s (spot g w.depth start) end p h,
    left_held b 64 g g.count w.mode w.holder (prior_of b s end) p w.frames (spot g w.depth end) u ps l,
  );
}

whole_moves : (s : Sign) (start end : ℕ) (p : Part) → whole_part s start end ≡ Some p → reads_bytes s ≡ true
unfolding whole_part
whole_moves sign.Plain start end p h = refl
whole_moves sign.Escaped start end p h = refl
whole_moves sign.Joined start end p h = refl
whole_moves (sign.Single style) start end p h = refl
whole_moves sign.Tilde start end p h = refl
whole_moves (sign.Value f) start end p h = refl
whole_moves (sign.Length f) start end p h = refl
whole_moves _ start end p h = cc

holding_turns : (b : List ℕ) (h : Holder) (p : Part) → turns_left b (holding h p) ≡ 0
holding_turns b (holder.Parts x prior found) p = refl
holding_turns b (holder.Operand x start) p = refl

pub whole_works : (b : List ℕ) (w : WordBuilder) (s : Sign) (start end next : ℕ) (p : Part) → w.at ≤ start → end ≤ length b → (reads_bytes s ≡ true → start < end)
    → whole_part s start end ≡ Some p → work b (given w next p end) < work b (focused w focus.Parts)
whole_works b w s start end next p behind within moves h =
    let beyond : start < end = moves (whole_moves s start end p h) in
    let turns = holding_turns b w.holder p in
    omega arith

pub whole_takes : (s : Sign) (start end : ℕ) (p : Part) → (reads_bytes s ≡ true → start < end) → whole_part s start end ≡ Some p → start < end
whole_takes s start end p moves h = moves (whole_moves s start end p h)

-- Openings

double_keeps : (b : List ℕ) (w : WordBuilder) (start end : ℕ) → Keeps b (LeftPart b w sign.Double start end) (opened w opening.Double (in_double (context_in w.holder)) start end)
unfolding Left LeftPart made
double_keeps b w start end = record {
  forth = λ limit g u ps l.
      let is = part_is l.2 in
      let K = λ (y : Read) (j : Spot). Then b limit g (context_in w.holder) w.frames y j u ps in
      (tt, is.0, is.1, is.4, (part.Double (span start is.0.at) is.1, refl, moved b limit g w.holder K refl is.3 is.2 l.3));
  back = λ g u ps l.
      let K = λ (y : Read) (j : Spot). Then b 64 g (context_in w.holder) w.frames y j u ps in
      (behind l.1.at l.1 (spot g w.depth start), part.Double (span start l.1.at) l.2, r.double_quoted l.3, moved b 64 g w.holder K refl (sym (some_one l.4.1)) refl l.4.2);
}

use_keeps : (b : List ℕ) (w : WordBuilder) (q : Subject) (a : Action) (colon : Bool) (start end : ℕ) → w.depth < 64
    → Keeps b (LeftPart b w (sign.Use q a colon) start end) (opened w (opening.Use q a colon) (in_use (context_in w.holder) a end) start end)
unfolding Left LeftPart made
use_keeps b w q a colon start end below = record {
  forth = λ limit g u ps l.
      let is = part_is l.2 in
      let K = λ (y : Read) (j : Spot). Then b limit g (context_in w.holder) w.frames y j u ps in
      (tt, is.0, is.1, is.5, (param start is.0.at q (operator.Use a colon (word end (is.0.at - 1) is.1)), refl, moved b limit g w.holder K refl is.3 is.2 l.3));
  back = λ g u ps l.
      let K = λ (y : Read) (j : Spot). Then b 64 g (context_in w.holder) w.frames y j u ps in (
        behind l.1.at l.1 (spot g w.depth start),
        param start l.1.at q (operator.Use a colon (word end (l.1.at - 1) l.2)),
        r.use_word below l.3,
        moved b 64 g w.holder K refl (sym (some_one l.4.1)) refl l.4.2,
      );
}

removal_keeps : (b : List ℕ) (w : WordBuilder) (q : Subject) (m : Removal) (start end : ℕ) → w.depth < 64
    → Keeps b (LeftPart b w (sign.Remove q m) start end) (opened w (opening.Remove q m) (in_removal (context_in w.holder) end) start end)
unfolding Left LeftPart made
removal_keeps b w q m start end below = record {
  forth = λ limit g u ps l.
      let is = part_is l.2 in
      let K = λ (y : Read) (j : Spot). Then b limit g (context_in w.holder) w.frames y j u ps in
      (tt, is.0, is.1, is.5, (param start is.0.at q (operator.Remove m (word end (is.0.at - 1) is.1)), refl, moved b limit g w.holder K refl is.3 is.2 l.3));
  back = λ g u ps l.
      let K = λ (y : Read) (j : Spot). Then b 64 g (context_in w.holder) w.frames y j u ps in (
        behind l.1.at l.1 (spot g w.depth start),
        param start l.1.at q (operator.Remove m (word end (l.1.at - 1) l.2)),
        r.removal below l.3,
        moved b 64 g w.holder K refl (sym (some_one l.4.1)) refl l.4.2,
      );
}

arithmetic_keeps : (b : List ℕ) (w : WordBuilder) (start end : ℕ) → w.depth < 64
    → Keeps b (LeftPart b w sign.Arith start end) (opened w opening.Arith (in_arithmetic (context_in w.holder)) start end)
unfolding Left LeftPart
arithmetic_keeps b w start end below = record {
  forth = λ limit g u ps l.
      let is = part_is l.2 in
      let K = λ (y : Read) (j : Spot). Then b limit g (context_in w.holder) w.frames y j u ps in
      (tt, is.0, is.1, is.5, (refl, is.6, is.7, moved b limit g w.holder K refl is.3 is.2 l.3));
  back = λ g u ps l.
      (behind ((over b l.1).at + 1) l.1 (spot g w.depth start), part.Arith (span start ((over b l.1).at + 1)) l.2, r.arithmetic below l.3 l.4.1 l.4.2, l.4.3);
}

-- the sign opens this, and the words left are those that go on in it
abbrev OpenKeeps : List ℕ → WordBuilder → Sign → ℕ → ℕ → Opening × Context → Type 0
OpenKeeps b w s start end q = (nests q.0 ≡ true → w.depth < 64) → Keeps b (LeftPart b w s start end) (opened w q.0 q.1 start end)

opening_keeps : (b : List ℕ) (w : WordBuilder) (s : Sign) (start end : ℕ) (o : Opening) (x : Context) → opening_of (context_in w.holder) s end ≡ Some (o, x)
    → OpenKeeps b w s start end (o, x)
unfolding opening_of
opening_keeps b w sign.Double start end o x h = subst (OpenKeeps b w sign.Double start end) (some_one h) (λ below. double_keeps b w start end)
opening_keeps b w (sign.Use q a colon) start end o x h =
    subst (OpenKeeps b w (sign.Use q a colon) start end) (some_one h) (λ below. use_keeps b w q a colon start end (below refl))
opening_keeps b w (sign.Remove q m) start end o x h = subst (OpenKeeps b w (sign.Remove q m) start end) (some_one h) (λ below. removal_keeps b w q m start end (below refl))
opening_keeps b w sign.Arith start end o x h = subst (OpenKeeps b w sign.Arith start end) (some_one h) (λ below. arithmetic_keeps b w start end (below refl))
opening_keeps b w _ start end o x h = cc

-- a level is open in what the sign opens
opening_nests : (limit : ℕ) (b : List ℕ) (x y : Context) (s : Sign) (i v : Spot) (e : ℕ) (p : Part) (o : Opening) → opening_of x s e ≡ Some (o, y) → nests o ≡ true
    → PartIs limit b x s i e v p → i.depth < limit
unfolding opening_of
opening_nests limit b x y sign.Double i v e p o h deep is =
    let q = some_one h in absurd (true≢false (sym deep ∙ ap (λ z. nests z.0) (sym q)))
opening_nests limit b x y (sign.Use q a colon) i v e p o h deep is = is.4
opening_nests limit b x y (sign.Remove q m) i v e p o h deep is = is.4
opening_nests limit b x y sign.Arith i v e p o h deep is = is.4
opening_nests limit b x y _ i v e p o h deep is = cc

level_inside : (b : List ℕ) (o : Opening) (start inside : ℕ) → start ≤ length b → inside ≤ length b → level_start o start inside ≤ length b
level_inside b opening.Arith start inside h k = h
level_inside b _ start inside h k = k

pub opening_steps : (b : List ℕ) (w new : WordBuilder) (s : Sign) (start end : ℕ) (o : Opening) (x : Context) (res : Result (Option Next) Refusal) → start ≤ length b
    → end ≤ length b → opening_of (context_in w.holder) s end ≡ Some (o, x) → Opens w o x start end new res → Steps b (LeftPart b w s start end) new res
unfolding LeftPart
opening_steps b w new s start end o x (Ok None) inside within h a = subst (λ v. Keeps b (LeftPart b w s start end) v) (sym a.1) (opening_keeps b w s start end o x h a.0)
opening_steps b w new s start end o x (Err (TooDeep at)) inside within h a = (
  subst (λ i. i ≤ length b) (sym a.2) (level_inside b o start end inside within),
  λ g u ps l. let below = opening_nests 64 b (context_in w.holder) x s (spot g w.depth start) l.0 end l.1 o h a.0 (part_is l.2) in
      let depth : w.depth < 64 = below in let deep : 64 ≤ w.depth = a.1 in absurd (omega arith),
)
opening_steps b w new s start end o x (Err Memory) inside within h a = tt
opening_steps b w new s start end o x _ inside within h a = absurd a

opening_moves : (x y : Context) (s : Sign) (end : ℕ) (o : Opening) → opening_of x s end ≡ Some (o, y) → reads_bytes s ≡ true
unfolding opening_of
opening_moves x y sign.Double end o h = refl
opening_moves x y (sign.Use q a colon) end o h = refl
opening_moves x y (sign.Remove q m) end o h = refl
opening_moves x y sign.Arith end o h = refl
opening_moves x y _ end o h = cc

opening_turns : (b : List ℕ) (o : Opening) → turns_left b (focus_in o) ≤ 28
opening_turns b opening.Arith = omega arith
opening_turns b _ = omega arith

pub opening_works : (b : List ℕ) (w new : WordBuilder) (s : Sign) (start end : ℕ) (o : Opening) (x : Context) (res : Result (Option Next) Refusal) → w.at ≤ start → end ≤ length b
    → (reads_bytes s ≡ true → start < end) → opening_of (context_in w.holder) s end ≡ Some (o, x) → Opens w o x start end new res
    → StepWorks b (focused w focus.Parts) new res
opening_works b w new s start end o x (Ok None) behind within moves h a =
    let beyond : start < end = moves (opening_moves (context_in w.holder) x s end o h) in
    let turns = opening_turns b o in
    let less : work b (opened w o x start end) < work b (focused w focus.Parts) = omega arith in
    subst (λ v. work b v < work b (focused w focus.Parts)) (sym a.1) less
opening_works b w new s start end o x (Ok (Some n)) behind within moves h a = tt
opening_works b w new s start end o x (Err e) behind within moves h a = tt

pub opening_takes : (b : List ℕ) (w new : WordBuilder) (s : Sign) (start end : ℕ) (o : Opening) (x : Context) (res : Result (Option Next) Refusal)
    → (reads_bytes s ≡ true → start < end) → opening_of (context_in w.holder) s end ≡ Some (o, x) → Opens w o x start end new res → Takes b start new res
opening_takes b w new s start end o x (Ok None) moves h a =
    subst (λ v. start < v.at) (sym a.1) (moves (opening_moves (context_in w.holder) x s end o h))
opening_takes b w new s start end o x (Ok (Some (Done t))) moves h a = a
opening_takes b w new s start end o x (Ok (Some (Inner at depth style quoted))) moves h a = tt
opening_takes b w new s start end o x (Err e) moves h a = tt

-- Commands

asks : (b : List ℕ) (w : WordBuilder) (style : CommandStyle) (start end : ℕ) → w.depth < 64
    → Asks b (LeftPart b w (sign.Substitution style) start end) (asking w style start end) start end (w.depth + 1) style (is_quoted (context_in w.holder).site)
unfolding Left LeftPart
asks b w style start end below = record {
  forth = λ limit g u ps l.
      let is = part_is l.2 in
      let K = λ (y : Read) (j : Spot). Then b limit g (context_in w.holder) w.frames y j u ps in
      let depth : w.depth < limit = is.4 in (
        is.0,
        is.1,
        omega arith,
        is.5,
        is.6,
        is.7,
        held_left b limit g is.0.count w.mode w.holder 0 (part.Command style (span start (is.0.at + 1)) is.1) w.frames (placed g w.depth (is.0.at + 1) is.0) u ps
            (moved b limit g w.holder K refl is.3 is.2 l.3),
      );
  back = λ g u ps v t reads closed keeps l. (
    behind (v.at + 1) v (spot g w.depth start),
    part.Command style (span start (v.at + 1)) t,
    r.substitution below keeps reads closed,
    left_held b 64 g v.count w.mode w.holder 0 (part.Command style (span start (v.at + 1)) t) w.frames (placed g w.depth (v.at + 1) v) u ps l,
  );
}

pub ask_steps : (b : List ℕ) (w new : WordBuilder) (style : CommandStyle) (start end : ℕ) (res : Result (Option Next) Refusal) → start ≤ length b → Asked w style start end new res
    → Steps b (LeftPart b w (sign.Substitution style) start end) new res
unfolding LeftPart
ask_steps b w new style start end (Ok (Some (Inner at depth kind quoted))) inside a =
    let old = LeftPart b w (sign.Substitution style) start end in
    let q = is_quoted (context_in w.holder).site in
    let asked = asks b w style start end a.0 in
    let here = subst (λ i. Asks b old (asking w style start end) start i (w.depth + 1) style q) (sym a.1) asked in
    let deep = subst (λ n. Asks b old (asking w style start end) start at n style q) (sym a.2) here in
    let kinds = subst (λ k. Asks b old (asking w style start end) start at depth k q) (sym a.3) deep in
    let said = subst (λ k. Asks b old (asking w style start end) start at depth kind k) (sym a.4) kinds in
    (start, ap (λ v. v.focus) a.5 ∙ ap (focus.Commands start) (sym a.3), subst (λ v. Asks b old v start at depth kind quoted) (sym a.5) said)
ask_steps b w new style start end (Err (TooDeep at)) inside a = (
  subst (λ i. i ≤ length b) (sym a.1) inside,
  λ g u ps l. let is = part_is l.2 in let below : w.depth < 64 = is.4 in let deep : 64 ≤ w.depth = a.0 in absurd (omega arith),
)
ask_steps b w new style start end _ inside a = absurd a

-- no commands begin after the last byte of a text and end with a backquote of it
pub unclosed_left : (b : List ℕ) (w : WordBuilder) (start end : ℕ) → length b ≤ end → Never (LeftPart b w (sign.Substitution Backquote) start end)
unfolding LeftPart
unclosed_left b w start end beyond limit g u ps l = let is = part_is l.2 in nothing_closes limit b g.body (spot g w.depth start) is.0 is.1 end beyond is.5 is.6

-- No part

not_read : (limit : ℕ) (b : List ℕ) (x : Context) (s : Sign) (i v : Spot) (e : ℕ) (p : Part) → whole_part s i.at e ≡ None → opening_of x s e ≡ None → is_substitution s ≡ false
    → PartIs limit b x s i e v p → ⊥
unfolding whole_part opening_of
not_read limit b x sign.Stop i v e p h k n is = is
not_read limit b x sign.Tabs i v e p h k n is = is
not_read limit b x sign.Open i v e p h k n is = is
not_read limit b x (sign.Fault f) i v e p h k n is = is
not_read limit b x (sign.LeftOut f) i v e p h k n is = is
not_read limit b x (sign.Substitution style) i v e p h k n is = true≢false n
not_read limit b x _ i v e p h k n is = cc

pub no_part_left : (b : List ℕ) (w : WordBuilder) (s : Sign) (start end : ℕ) → whole_part s start end ≡ None → opening_of (context_in w.holder) s end ≡ None
    → is_substitution s ≡ false → Never (LeftPart b w s start end)
unfolding LeftPart
no_part_left b w s start end h k n limit g u ps l = not_read limit b (context_in w.holder) s (spot g w.depth start) l.0 end l.1 h k n (part_is l.2)

-- The end of a context

-- the parts of the holder end at `at`, and what ends them ends at `end`
abbrev Stops : List ℕ → Holder → ℕ → ℕ → Type 0
Stops b h at end = token b (context_in h) (prior_in h) at ≡ record { sign = sign.Stop; end = end }

stop_forth : (b : List ℕ) (limit : ℕ) (g : Around) (w : WordBuilder) (fs : List Frame) (end : ℕ) (u : Spot) (ps : List Part) → w.frames ≡ fs → Stops b w.holder w.at end
    → Left b (focused w focus.Parts) limit g u ps → Then b limit g (context_in w.holder) fs (parts (found_in w.holder)) (spot g w.depth end) u ps
unfolding Left
stop_forth b limit g w fs end u ps frames stops l =
    let x = context_in w.holder in
    let e = stopped (ap (λ t. t.sign) stops) l.3 in
    let at : l.1 ≡ spot g w.depth end = e.0 ∙ ap (λ t. spot g w.depth t.end) stops in
    let all : found_in w.holder ++ l.2 ≡ found_in w.holder = ap (λ qs. found_in w.holder ++ qs) e.1 ∙ append-nil (found_in w.holder) in
    let here = subst (λ v. Then b limit g x w.frames (parts (found_in w.holder ++ l.2)) v u ps) at l.4 in
    let whole = subst (λ qs. Then b limit g x w.frames (parts qs) (spot g w.depth end) u ps) all here in
    subst (λ v. Then b limit g x v (parts (found_in w.holder)) (spot g w.depth end) u ps) frames whole

stop_back : (b : List ℕ) (limit : ℕ) (g : Around) (w : WordBuilder) (fs : List Frame) (end : ℕ) (u : Spot) (ps : List Part) → w.frames ≡ fs → Stops b w.holder w.at end
    → IsParts w.holder → Then b limit g (context_in w.holder) fs (parts (found_in w.holder)) (spot g w.depth end) u ps → Left b (focused w focus.Parts) limit g u ps
unfolding Left
stop_back b limit g w fs end u ps frames stops are l =
    let x = context_in w.holder in
    let read : ReadsParts limit b x (prior_in w.holder) (spot g w.depth w.at) (spot g w.depth end) [] =
    subst (λ t. ReadsParts limit b x (prior_in w.holder) (spot g w.depth w.at) (spot g w.depth t.end) []) stops (r.stop (ap (λ t. t.sign) stops)) in
    let whole = subst (λ v. Then b limit g x v (parts (found_in w.holder)) (spot g w.depth end) u ps) (sym frames) l in
    (are, spot g w.depth end, [], read, subst (λ qs. Then b limit g x w.frames (parts qs) (spot g w.depth end) u ps) (sym (append-nil (found_in w.holder))) whole)

pub stop_done : (b : List ℕ) (w new : WordBuilder) (fs : List Frame) (end : ℕ) (d : Word) → w.frames ≡ [] → IsParts w.holder → Stops b w.holder w.at end
    → new ≡ ended (record w { frames = fs }) end → d ≡ word w.begin end (found_in w.holder) → Answers b (Left b (focused w focus.Parts)) new (Done d)
stop_done b w new fs end d frames are stops e whole =
    let ends : Ends (Left b (focused w focus.Parts)) w.depth end (found_in w.holder) = record {
      forth = λ limit g u ps l. let t = stop_forth b limit g w [] end u ps frames stops l in (t.1, t.0);
      back = λ g. stop_back b 64 g w [] end (spot g w.depth end) (found_in w.holder) frames stops are (refl, refl);
    } in
    subst (λ v. Answers b (Left b (focused w focus.Parts)) v (Done d)) (sym e) (found_in w.holder, whole, ends)

pub close_steps : (b : List ℕ) (w new : WordBuilder) (fs : List Frame) (h : Holder) (depth start inside : ℕ) (o : Opening) (end : ℕ) (res : Result (Option Next) Refusal)
    → w.frames ≡ frame.Opened h depth start inside o ∷ fs → Deep b w.base w.frames → IsParts w.holder → Stops b w.holder w.at end
    → Closes (record w { frames = fs }) h depth start inside o end new res → Steps b (Left b (focused w focus.Parts)) new res
unfolding Left
close_steps b w new fs h depth start inside o end (Ok None) frames deep are stops a =
    let p = a.0 in
    let v : WordBuilder = given (record w { frames = fs; holder = h; depth = depth }) 0 p end in
    let keeps : Keeps b (Left b (focused w focus.Parts)) v = record {
      forth = λ limit g u ps l.
          let t = stop_forth b limit g w (frame.Opened h depth start inside o ∷ fs) end u ps frames stops l in
          let K = λ (y : Read) (j : Spot). Then b limit g (context_in h) fs y j u ps in
          held_left b limit g g.count w.mode h 0 p fs (spot g depth end) u ps (moved b limit g h K refl (some_one (sym t.1 ∙ a.1)) refl t.2);
      back = λ g u ps l. stop_back b 64 g w (frame.Opened h depth start inside o ∷ fs) end u ps frames stops are
          (p, a.1, left_held b 64 g g.count w.mode h 0 p fs (spot g depth end) u ps l);
    } in
    subst (λ v. Keeps b (Left b (focused w focus.Parts)) v) (sym a.2) keeps
close_steps b w new fs h depth start inside o end (Err (Syntax f at)) frames deep are stops a = (
  subst (λ i. i ≤ length b) (sym a.2) (subst (λ v. Deep b w.base v) frames deep).2,
  λ limit g u ps l.
      let t = stop_forth b limit g w (frame.Opened h depth start inside o ∷ fs) end u ps frames stops l in
      let some = t.1 in let none = a.0 in cc,
)
close_steps b w new fs h depth start inside o end (Err Memory) frames deep are stops a = tt
close_steps b w new fs h depth start inside o end _ frames deep are stops a = absurd a

-- a context does not end in an operation
pub operation_stops : (b : List ℕ) (w : WordBuilder) (fs : List Frame) (f : Operation) (end : ℕ) → w.frames ≡ frame.Operation f ∷ fs → Stops b w.holder w.at end
    → Never (Left b (focused w focus.Parts))
operation_stops b w fs f end frames stops limit g u ps l = stop_forth b limit g w (frame.Operation f ∷ fs) end u ps frames stops l

-- The parts of a context

-- no part is left for an operand
pub no_parts_left : (b : List ℕ) (w : WordBuilder) (x : Context) (start : ℕ) → w.holder ≡ holder.Operand x start → Never (Left b (focused w focus.Parts))
unfolding Left
no_parts_left b w x start e limit g u ps l = subst IsParts e l.0

behind_tabs : {limit : ℕ} {b : List ℕ} {x : Context} {prior : ℕ} {s u : Spot} {ps : List Part} → sign_at b x prior s ≡ sign.Tabs → ReadsParts limit b x prior s u ps
    → ReadsParts limit b x 0 (to (after b x prior s) s) u ps
behind_tabs is (r.stop h) = cc
behind_tabs is (r.tabs h rest) = rest
behind_tabs {limit = limit} {b = b} {x = x} {prior = prior} {s = s} is (r.more {v = v} {p = p} h q rest) =
    absurd (subst (λ k. PartIs limit b x k s (after b x prior s) v p) (sym h ∙ is) (part_is q))

tabs_of : (s : Sign) → is_part s ≡ false → is_stop s ≡ false → s ≡ sign.Tabs
tabs_of sign.Tabs h k = refl
tabs_of sign.Stop h k = absurd (true≢false k)
tabs_of _ h k = absurd (true≢false h)

pub tabs_keep : (b : List ℕ) (w new : WordBuilder) (x : Context) (prior : ℕ) (found : List Part) (t : Token) → w.holder ≡ holder.Parts x prior found → t ≡ token b x prior w.at
    → is_part t.sign ≡ false → is_stop t.sign ≡ false → new ≡ skipped w t.end → Keeps b (Left b (focused w focus.Parts)) new
unfolding Left
tabs_keep b w new x prior found t holds e h k so =
    let v : WordBuilder = record w { holder = holder.Parts x prior found } in
    let is : (token b x prior w.at).sign ≡ sign.Tabs = sym (ap (λ i. i.sign) e) ∙ tabs_of t.sign h k in
    let keeps : Keeps b (Left b (focused v focus.Parts)) (skipped v (token b x prior w.at).end) = record {
      forth = λ limit g u ps l. (tt, l.1, l.2, behind_tabs is l.3, l.4);
      back = λ g u ps l. (tt, l.1, l.2, r.tabs is l.3, l.4);
    } in
    let there = subst (λ i. Keeps b (Left b (focused v focus.Parts)) (skipped v i)) (sym (ap (λ i. i.end) e)) keeps in
    let here = subst (λ i. Keeps b (Left b (focused (record w { holder = i }) focus.Parts)) (skipped (record w { holder = i }) t.end)) (sym holds) there in
    subst (λ v. Keeps b (Left b (focused w focus.Parts)) v) (sym so) here

-- the first part of a list, and the others
abbrev FirstRead : ℕ → List ℕ → Context → ℕ → Sign → Spot → Spot → List Part → Type 0
FirstRead limit b x prior f s u ps =
    (v : Spot) × (p : Part) × (qs : List Part) × (ps ≡ p ∷ qs) × ReadsPart limit b x f s (after b x prior s) v p × ReadsParts limit b x (prior_of b f v.at) v u qs

first_read : {limit : ℕ} {b : List ℕ} {x : Context} {prior : ℕ} {s u : Spot} {ps : List Part} → is_part (sign_at b x prior s) ≡ true → ReadsParts limit b x prior s u ps
    → FirstRead limit b x prior (sign_at b x prior s) s u ps
first_read is (r.stop h) = absurd (true≢false (sym is ∙ ap is_part h))
first_read is (r.tabs h rest) = absurd (true≢false (sym is ∙ ap is_part h))
first_read {limit = limit} {b = b} {x = x} {prior = prior} {s = s} {u = u} is (r.more {v = v} {p = p} {ps = qs} h q rest) =
    (v, p, qs, refl, subst (λ k. ReadsPart limit b x k s (after b x prior s) v p) (sym h) q, subst (λ k. ReadsParts limit b x (prior_of b k v.at) v u qs) (sym h) rest)

-- where a part may begin, that part is what is left
pub part_alike : (b : List ℕ) (w : WordBuilder) (x : Context) (prior : ℕ) (found : List Part) (t : Token) → w.holder ≡ holder.Parts x prior found → t ≡ token b x prior w.at
    → is_part t.sign ≡ true → Alike (Left b (focused w focus.Parts)) (LeftPart b w t.sign w.at t.end)
unfolding Left LeftPart
part_alike b w x prior found t holds e is =
    let v : WordBuilder = record w { holder = holder.Parts x prior found } in
    let k : Token = token b x prior w.at in
    let alike : Alike (Left b (focused v focus.Parts)) (LeftPart b v k.sign w.at k.end) = record {
      forth = λ limit g u ps l.
          let f = first_read (sym (ap (λ i. is_part i.sign) e) ∙ is) l.3 in
          let regrouped : found ++ l.2 ≡ (found ++ f.1 ∷ []) ++ f.2 = ap (λ qs. found ++ qs) f.3 ∙ sym (append_assoc found (f.1 ∷ []) f.2) in
          (f.0, f.1, f.4, (l.1, f.2, f.5, subst (λ qs. Then b limit g x w.frames (parts qs) l.1 u ps) regrouped l.4));
      back = λ g u ps l.
          (tt, l.3.0, l.1 ∷ l.3.1, r.more refl l.2 l.3.2, subst (λ qs. Then b 64 g x w.frames (parts qs) l.3.0 u ps) (append_assoc found (l.1 ∷ []) l.3.1) l.3.3);
    } in
    let there = subst (λ i. Alike (Left b (focused v focus.Parts)) (LeftPart b v i.sign w.at i.end)) (sym e) alike in
    subst (λ i. Alike (Left b (focused (record w { holder = i }) focus.Parts)) (LeftPart b (record w { holder = i }) t.sign w.at t.end)) (sym holds) there

-- The beginning of a word

pub start_keeps : (b : List ℕ) (w : WordBuilder) → w.frames ≡ []
    → Keeps b (Left b (focused w focus.Start)) (record w { holder = holder.Parts (context_of b w.mode w.at) (first_prior w.mode) []; focus = focus.Parts })
unfolding Left
start_keeps b w frames =
    let x = context_of b w.mode w.at in
    record {
      forth = λ limit g u ps l. (tt, u, ps, l, subst (λ fs. Then b limit g x fs (parts ps) u u ps) (sym frames) (refl, refl));
      back = λ g u ps l.
          let t = subst (λ fs. Then b 64 g x fs (parts l.2) l.1 u ps) frames l.4 in
          let here = subst (λ v. ReadsParts 64 b x (first_prior w.mode) (spot g w.depth w.at) v l.2) (sym t.1) l.3 in
          subst (λ qs. ReadsParts 64 b x (first_prior w.mode) (spot g w.depth w.at) u qs) (sym t.0) here;
    }

-- a part that is not the last is read from the parts' place on
pub part_takes : (b : List ℕ) (w new : WordBuilder) (res : Result (Option Next) Refusal) → Takes b w.at new res → TakesParts b w new res
part_takes b w new (Ok None) t = λ e. t
part_takes b w new (Ok (Some (Done v))) t = absurd t
part_takes b w new (Ok (Some (Inner at depth style quoted))) t = tt
part_takes b w new (Err e) t = tt
