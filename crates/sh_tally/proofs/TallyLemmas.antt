-- Numbers at the places of a script that solve equations solve one more.
use Rattle.std.proofs.Common.{◌≡◌, ℕ, ◌+◌, ◌<◌, ◌≤◌, ⊎_elim, max, if◌then◌else◌, nat_eq, [], ◌∷◌, ◌++◌, Some, None, is_some, length, refl, sym, ap, ◌∙◌, subst, arith, true≢false}
use Rattle.std.specs.List.{All}
use Rattle.std.proofs.lemmas.List.Elements.{All-push}
use Rattle.std.proofs.lemmas.Bool.{cases_eq, cases_lt, eq-eqb, ne_eqb}
use Rattle.std.proofs.lemmas.List.{get_or_past, get_or_append_left, length-append}
use Rattle.std.proofs.Math.Seq.{get_or-append_seam}
use Rattle.sh_counts.specs.declared.equations.Change.{Change}
use Rattle.sh_counts.specs.declared.equations.Change.TheVariants.{Raise}
use Rattle.sh_counts.specs.declared.equations.Count.{Count}
use Rattle.sh_counts.specs.declared.equations.Equation.{Equation}
use Rattle.sh_counts.specs.declared.equations.Equations.{Equations}
use Rattle.sh_counts.specs.Equations.{Holds, made, worth}
use Rattle.sh_counts.specs.Changes.{Changes, IsFresh, Same, equation}
use Rattle.sh_tally.specs.declared.places.Places.{Places}
use Rattle.sh_tally.specs.Tallies.{IsTallied, claimed}

-- an equation between counts that there are
equation_tallied : (places : Places) (u : ℕ → ℕ) (old new : Equations) (e : Equation) (t : IsTallied places u old) → new.most.items ≡ old.most.items → new.all.items ≡ old.all.items ++ e ∷ []
    → e.count < length old.most.items → e.source < length old.most.items → Holds t.v e → IsTallied places u new
equation_tallied places u old new e t most all count source holds = record {
  v = t.v;
  few = t.few;
  below = λ i. subst (λ m. t.v i ≤ worth m i) (sym most) (t.below i);
  holds = λ w agrees.
      let here : (i : ℕ) → i < length old.most.items → w i ≡ t.v i = λ i lt. agrees i (subst (λ m. i < length m) (sym most) lt) in
      let one : Holds w e =
      subst (λ a. a ≤ made e.change (w e.source)) (sym (here e.count count))
      (subst (λ a. t.v e.count ≤ made e.change a) (sym (here e.source source)) holds) in
      subst (All (Holds w)) (sym all) (All-push (Holds w) old.all.items e (t.holds w here) one);
  same = t.same;
  sized = subst (λ m. length places.counts.now ≤ length m) (sym most) t.sized;
}

-- a run comes to what is a place
pub place_there : (places : Places) (i a : ℕ) → claimed places i ≡ Some a → i < length places.counts.now
place_there places i a is =
    ⊎_elim
    (λ (lt : i < length places.counts.now). lt)
    (λ (past : length places.counts.now ≤ i).
    let none : claimed places i ≡ None = get_or_past places.counts.now i None past in
    absurd (true≢false (ap is_some (sym is ∙ none))))
    (cases_lt i (length places.counts.now))

-- numbers with another one at a place
abbrev put : ℕ → ℕ → (ℕ → ℕ) → ℕ → ℕ
put k x v i = if nat_eq i k then x else v i

put_same : (k x : ℕ) (v : ℕ → ℕ) (i : ℕ) → i ≡ k → put k x v i ≡ x
put_same k x v i e = ap (λ b. if b then x else v i) (eq-eqb i k e)

put_other : (k x : ℕ) (v : ℕ → ℕ) (i : ℕ) → (i ≡ k → ⊥) → put k x v i ≡ v i
put_other k x v i ne = ap (λ b. if b then x else v i) (ne_eqb i k ne)

-- an equation with a count that is there already
kept_tallied : (places : Places) (u : ℕ → ℕ) (old mid new : Equations) (place source count : Count) (least : ℕ) (change : Change) → place.index < length places.counts.now → source.index < length places.counts.now
    → Raise least ≡ Raise 0 → count ≡ source → Same old mid → new.most.items ≡ mid.most.items → new.all.items ≡ mid.all.items ++ equation place count change ∷ []
    → u place.index ≤ made change (max (u source.index) least) → IsTallied places u old → IsTallied places u new
unfolding made
kept_tallied places u old mid new place source count least change low there none is same most all le t =
    let zero_least : max 0 least ≡ max 0 0 = ap (λ h. made h 0) none in
    let plain : max (u source.index) least ≡ u source.index = omega (arith, zero_least) in
    let here : u place.index ≤ made change (u source.index) = subst (λ x. u place.index ≤ made change x) plain le in
    let at_place = t.same place.index low in
    let at_source : t.v count.index ≡ u source.index = ap (λ (c : Count). t.v c.index) is ∙ t.same source.index there in
    let sized = t.sized in
    let below : count.index < length old.most.items = subst (λ (c : Count). c.index < length old.most.items) (sym is) (omega (arith, there, sized)) in
    equation_tallied places u old new (equation place count change) t (most ∙ same.most) (all ∙ ap (λ es. es ++ equation place count change ∷ []) same.all) (omega (arith, low, sized)) below
    (subst (λ x. x ≤ made change (t.v count.index)) (sym at_place) (subst (λ x. u place.index ≤ made change x) (sym at_source) here))

-- an equation with a new count
fresh_tallied : (places : Places) (u : ℕ → ℕ) (old mid new : Equations) (place source count : Count) (least : ℕ) (change : Change) → place.index < length places.counts.now → source.index < length places.counts.now
    → least ≤ 65535 → IsFresh old mid count → mid.all.items ≡ old.all.items ++ equation count source (Raise least) ∷ [] → new.most.items ≡ mid.most.items → new.all.items ≡ mid.all.items ++ equation place count change ∷ []
    → u place.index ≤ made change (max (u source.index) least) → IsTallied places u old → IsTallied places u new
unfolding made
fresh_tallied places u old mid new place source count least change low there small fresh one most all le t = record {
  v = v;
  few = few;
  below = below;
  holds = holds;
  same = λ i lt. let sized = t.sized in let ne : i ≡ n → ⊥ = λ e. omega (arith, e, lt, sized) in put_other n x t.v i ne ∙ t.same i lt;
  sized = let sized = t.sized in let long = length_new in omega (arith, sized, long);
}
  where
    n : ℕ
    n = length old.most.items

    x : ℕ
    x = max (u source.index) least

    v : ℕ → ℕ
    v = put n x t.v

    new_most : new.most.items ≡ old.most.items ++ 65535 ∷ []
    new_most = most ∙ fresh.most

    length_new : length new.most.items ≡ n + 1
    length_new = ap length new_most ∙ length-append old.most.items (65535 ∷ [])

    few : (i : ℕ) → v i ≤ 65535
    few i =
        ⊎_elim
        (λ (e : i ≡ n).
        let source_few = t.few source.index in
        let at_source = t.same source.index there in
        let is = put_same n x t.v i e in
        omega (arith, is, source_few, at_source, small))
        (λ (ne : i ≡ n → ⊥). subst (λ y. y ≤ 65535) (sym (put_other n x t.v i ne)) (t.few i))
        (cases_eq i n)

    greatest : (i : ℕ) → n ≤ i → worth new.most.items i ≡ 65535
    greatest i past =
        ⊎_elim
        (λ (e : i ≡ n). ap (λ m. worth m i) new_most ∙ ap (λ k. worth (old.most.items ++ 65535 ∷ []) k) e ∙ get_or-append_seam old.most.items 65535 [] 65535)
        (λ (ne : i ≡ n → ⊥). get_or_past new.most.items i 65535 (let long = length_new in omega (arith, long, past, ne)))
        (cases_eq i n)

    below : (i : ℕ) → v i ≤ worth new.most.items i
    below i =
        ⊎_elim
        (λ (lt : i < n).
        let ne : i ≡ n → ⊥ = λ e. omega (arith, e, lt) in
        subst (λ y. y ≤ worth new.most.items i) (sym (put_other n x t.v i ne))
        (subst (λ m. t.v i ≤ m) (sym (ap (λ m. worth m i) new_most ∙ get_or_append_left old.most.items (65535 ∷ []) 65535 i lt)) (t.below i)))
        (λ (past : n ≤ i).
        subst (λ m. v i ≤ m) (sym (greatest i past)) (few i))
        (cases_lt i n)

    holds : (w : ℕ → ℕ) → ((i : ℕ) → i < length new.most.items → w i ≡ v i) → All (Holds w) new.all.items
    holds w agrees =
        let sized = t.sized in
        let long = length_new in
        let here : (i : ℕ) → i < n → w i ≡ t.v i = λ i lt. agrees i (omega (arith, long, lt)) ∙ put_other n x t.v i (λ e. omega (arith, e, lt)) in
        let at_count : w count.index ≡ x = ap w fresh.index ∙ agrees n (omega (arith, long)) ∙ put_same n x t.v n refl in
        let at_source : w source.index ≡ u source.index = here source.index (omega (arith, there, sized)) ∙ t.same source.index there in
        let at_place : w place.index ≡ u place.index = here place.index (omega (arith, low, sized)) ∙ t.same place.index low in
        let raised : Holds w (equation count source (Raise least)) = omega (arith, at_count, at_source) in
        let changed : Holds w (equation place count change) =
        subst (λ y. y ≤ made change (w count.index)) (sym at_place) (subst (λ y. u place.index ≤ made change y) (sym at_count) le) in
        subst (All (Holds w)) (sym (all ∙ ap (λ es. es ++ equation place count change ∷ []) one))
        (All-push (Holds w) (old.all.items ++ equation count source (Raise least) ∷ []) (equation place count change)
        (All-push (Holds w) old.all.items (equation count source (Raise least)) (t.holds w here) raised) changed)

-- A place is bounded by what a change makes of another one, raised to a least count.
pub bound_tallied : (places : Places) (u : ℕ → ℕ) (old mid new : Equations) (place source count : Count) (least a b : ℕ) (change : Change) → claimed places place.index ≡ Some a → claimed places source.index ≡ Some b
    → least ≤ 65535 → Changes old mid source (Raise least) count → new.most.items ≡ mid.most.items → new.all.items ≡ mid.all.items ++ equation place count change ∷ []
    → u place.index ≤ made change (max (u source.index) least) → IsTallied places u old → IsTallied places u new
bound_tallied places u old mid new place source count least a b change at_place at_source small changes most all le t =
    let low = place_there places place.index a at_place in
    let there = place_there places source.index b at_source in
    ⊎_elim
    (λ p. kept_tallied places u old mid new place source count least change low there p.0 p.1 p.2 most all le t)
    (λ q. fresh_tallied places u old mid new place source count least change low there small q.0 q.1 most all le t)
    changes
