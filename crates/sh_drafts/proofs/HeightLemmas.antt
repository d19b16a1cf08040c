-- A certificate that is lowered has a lesser height.
use Rattle.std.proofs.Common.{◌≡◌, ℕ, zero, suc, ◌<◌, ◌≤◌, eqb, nat_lt, Bool, true, false, not, ◌&&◌, ◌||◌, Option, Some, None, option_map, List, length, slice_get, is_some, refl, sym, ap, ◌∙◌, subst, arith, inl, inr, ◌⊎◌, true≢false, rules}
use Rattle.std.specs.Prelude.{unwrap_or}
use Rattle.std.proofs.lemmas.Bool.{cases_Bool, cases_lt, and_parts, and_from, eqb-true}
use Rattle.std.proofs.lemmas.Option.{slice_get_within}
use Rattle.sh_tree.specs.standard.program.Syntax.{Text}
use Rattle.sh_domain.specs.declared.certificate.Certificate.{Certificate}
use Rattle.sh_domain.specs.declared.certificate.Drops.{Drops}
use Rattle.sh_domain.specs.declared.certificate.Facts as value
use Rattle.sh_domain.specs.declared.certificate.Facts.TheVariants as value_kind
use Rattle.sh_drafts.specs.Facts.{Facts, IsWithin, meet}
use Rattle.sh_drafts.specs.Kept.{fact_of}
use Rattle.sh_drafts.specs.Ranks.{IsNumbered, rank}
use Rattle.sh_drafts.proofs.FactLemmas.{rank_less, known_within, known_parts, within_through, meet_first, meet_second}
use Rattle.sh_drafts.specs.declared.place.Part.{Part}
use Rattle.sh_drafts.specs.declared.place.Part.TheVariants.{Before, Zero, Nonzero, Head, Entered, ReturnZero, ReturnNonzero}
use Rattle.sh_drafts.specs.declared.place.Place.{Place}
use Rattle.sh_drafts.specs.Places.{same, at, is_of_command, is_of_function, kept_at, drops_at}
use Rattle.sh_drafts.specs.Working.{Sets, sets_of, joined, claims, dropped, AreWithin, AreBelow, IsWorking, IsLowered, IsCounted, claim_rank, drops_rank, left_of, command_rank, function_rank, total, height}
use Rattle.sh_drafts.proofs.KeptLemmas.{place_same, command_needs, function_needs, drops_within}
use Rattle.sh_drafts.proofs.LowerLemmas.{heads_at}

-- Sums

total_le : (f g : ℕ → ℕ) (n : ℕ) → ((i : ℕ) → f i ≤ g i) → total f n ≤ total g n
unfolding total
total_le f g zero h = omega arith
total_le f g (suc n) h = let a : total f n ≤ total g n = total_le f g n h in let b = h n in omega arith

less_than : (i n : ℕ) → i < suc n → (i ≡ n) ⊎ (i < n)
less_than i n h = elim (cases_lt i n) [ inl l ↦ inr l | inr l ↦ inl (omega arith) ]

total_less : (f g : ℕ → ℕ) (n i : ℕ) → ((j : ℕ) → f j ≤ g j) → i < n → f i < g i → total f n < total g n
unfolding total
total_less f g zero i h l m = absurd (omega (arith, l))
total_less f g (suc n) i h l m = elim (less_than i n l) [
  | inl e ↦ let a : total f n ≤ total g n = total_le f g n h in let b : f n < g n = subst (λ j. f j < g j) e m in omega arith
  | inr k ↦ let a : total f n < total g n = total_less f g n i h k m in let b = h n in omega arith
]

-- what is there has an index below the counts

module _ (names : List Text) (loops : List Bool) (m : ℕ) (c : Certificate) (working : IsWorking names loops m c) where
  there : (p : Place) → is_some (claims c p) ≡ true → is_some (kept_at c p) ≡ true
  unfolding claims
  there p h = go (kept_at c p) h
    where
      go : (o : Option value.Facts) → is_some (option_map (fact_of c.rows.rows) o) ≡ true → is_some o ≡ true
      go None h = h
      go (Some f) h = refl

  command_below : (part : Part) (i : ℕ) → is_of_command part ≡ true → is_some (claims c (at part i)) ≡ true → i < length loops
  command_below part i k h = subst (λ n. i < n) working.commands (command_needs (at part i) value_kind.NotReached c k (there (at part i) h))

  function_below : (part : Part) (i : ℕ) → is_of_command part ≡ false → is_of_function part ≡ true → is_some (claims c (at part i)) ≡ true → i < m
  function_below part i k l h = subst (λ n. i < n) working.defined (function_needs (at part i) value_kind.NotReached c k l (there (at part i) h))

  head_below : (i : ℕ) → is_some (claims c (at Head i)) ≡ true → i < length loops
  head_below i h = within (slice_get loops i) refl (sym (working.heads i) ∙ ap is_some (sym (heads_at c i)) ∙ there (at Head i) h)
    where
      within : (o : Option Bool) → slice_get loops i ≡ o → unwrap_or (slice_get loops i) false ≡ true → i < length loops
      within None e b = absurd (true≢false (sym b ∙ ap (λ o. unwrap_or o false) e))
      within (Some l) e b = slice_get_within loops i l e

  drops_below : (i : ℕ) → is_some (dropped c i) ≡ true → i < m
  unfolding dropped
  drops_below i h = subst (λ n. i < n) working.defined (drops_within c i (go (drops_at c i) h))
    where
      go : (o : Option Drops) → is_some (option_map (sets_of c.rows) o) ≡ true → is_some o ≡ true
      go None h = h
      go (Some d) h = refl

  -- what is claimed is of numbered names
  claim_numbered : (p : Place) (f : Facts) → claims c p ≡ Some f → IsNumbered (length names) f
  unfolding claims
  claim_numbered p f e = go (kept_at c p) refl e
    where
      go : (o : Option value.Facts) → kept_at c p ≡ o → option_map (fact_of c.rows.rows) o ≡ Some f → IsNumbered (length names) f
      go None k e = cc
      go (Some g) k e = let s : fact_of c.rows.rows g ≡ f = cc in subst (IsNumbered (length names)) s (working.facts p g k).numbered

-- A claim that is lowered

module _ (names : List Text) (loops : List Bool) (m : ℕ) (old new : Certificate) (p : Place) (known : Facts)
    (before : IsWorking names loops m old) (after : IsWorking names loops m new) (low : IsLowered old new p known true) where
  abbrev n : ℕ
  n = length names

  pub strict : claim_rank n (claims new p) < claim_rank n (claims old p)
  unfolding claim_rank
  strict = go (claims old p) refl (low.there refl)
    where
      go : (o : Option Facts) → claims old p ≡ o → is_some (claims old p) ≡ true → claim_rank n (claims new p) < claim_rank n (claims old p)
      go None e h = absurd (true≢false (sym h ∙ ap is_some e))
      go (Some f) e h =
          let now : claims new p ≡ Some (meet f known) = low.here refl ∙ ap (option_map (λ g. meet g known)) e in
          let less : rank n (meet f known) < rank n f =
          rank_less n (meet f known) f (meet_first f known) (λ w. low.fails refl f e (within_through _ _ _ w (meet_second f known))) (claim_numbered names loops m new after p (meet f known) now)
          (claim_numbered names loops m old before p f e) in
          subst (λ o. claim_rank n o < claim_rank n (claims old p)) (sym now) (subst (λ o. rank n (meet f known) < claim_rank n o) (sym e) less)

  le : (q : Place) → claim_rank n (claims new q) ≤ claim_rank n (claims old q)
  le q = elim (cases_Bool (same q p)) [
    | inl s ↦ subst (λ r. claim_rank n (claims new r) ≤ claim_rank n (claims old r)) (sym (place_same q p s)) (let l = strict in omega (arith, l))
    | inr s ↦ let e : claim_rank n (claims new q) ≡ claim_rank n (claims old q) = ap (claim_rank n) (low.elsewhere q s) in omega (arith, e)
  ]

  command_le : (i : ℕ) → command_rank n new i ≤ command_rank n old i
  unfolding command_rank
  command_le i = let a = le (at Before i) in let b = le (at Zero i) in let c = le (at Nonzero i) in let d = le (at Head i) in omega (arith, a, b, c, d)

  drops_same : (i : ℕ) → drops_rank n (dropped new i) ≡ drops_rank n (dropped old i)
  drops_same i = ap (drops_rank n) (low.drops i)

  function_le : (i : ℕ) → function_rank n new i ≤ function_rank n old i
  unfolding function_rank
  function_le i = let a = le (at Entered i) in let b = le (at ReturnZero i) in let c = le (at ReturnNonzero i) in let d = drops_same i in omega (arith, a, b, c, d)

  by_command : (i : ℕ) → i < length loops → command_rank n new i < command_rank n old i → height n (length loops) m new < height n (length loops) m old
  by_command i l s =
      let a = total_less (command_rank n new) (command_rank n old) (length loops) i command_le l s in
      let b = total_le (function_rank n new) (function_rank n old) m function_le in
      omega (arith, a, b)

  by_function : (i : ℕ) → i < m → function_rank n new i < function_rank n old i → height n (length loops) m new < height n (length loops) m old
  by_function i l s =
      let a = total_le (command_rank n new) (command_rank n old) (length loops) command_le in
      let b = total_less (function_rank n new) (function_rank n old) m i function_le l s in
      omega (arith, a, b)

  at_part : (part : Part) (i : ℕ) → is_some (claims old (at part i)) ≡ true → claim_rank n (claims new (at part i)) < claim_rank n (claims old (at part i))
      → height n (length loops) m new < height n (length loops) m old
  unfolding is_of_command is_of_function command_rank function_rank
  at_part Before i h s =
      let b = le (at Zero i) in let c = le (at Nonzero i) in let d = le (at Head i) in by_command i (command_below names loops m old before Before i refl h) (omega (arith, s, b, c, d))
  at_part Zero i h s =
      let b = le (at Before i) in let c = le (at Nonzero i) in let d = le (at Head i) in by_command i (command_below names loops m old before Zero i refl h) (omega (arith, s, b, c, d))
  at_part Nonzero i h s =
      let b = le (at Before i) in let c = le (at Zero i) in let d = le (at Head i) in by_command i (command_below names loops m old before Nonzero i refl h) (omega (arith, s, b, c, d))
  at_part Head i h s =
      let b = le (at Before i) in let c = le (at Zero i) in let d = le (at Nonzero i) in by_command i (head_below names loops m old before i h) (omega (arith, s, b, c, d))
  at_part Entered i h s =
      let b = le (at ReturnZero i) in let c = le (at ReturnNonzero i) in let d = drops_same i in by_function i (function_below names loops m old before Entered i refl refl h) (omega (arith, s, b, c, d))
  at_part ReturnZero i h s =
      let b = le (at Entered i) in let c = le (at ReturnNonzero i) in let d = drops_same i in by_function i (function_below names loops m old before ReturnZero i refl refl h) (omega (arith, s, b, c, d))
  at_part ReturnNonzero i h s =
      let b = le (at Entered i) in let c = le (at ReturnZero i) in let d = drops_same i in by_function i (function_below names loops m old before ReturnNonzero i refl refl h) (omega (arith, s, b, c, d))

  pub lowered_less : height n (length loops) m new < height n (length loops) m old
  lowered_less = at_part p.part p.index (low.there refl) strict

-- Drops that are added to

module _ (names : List Text) (loops : List Bool) (m : ℕ) (old new : Certificate) (i : ℕ) (sets : Sets) (before : IsWorking names loops m old) (below : AreBelow (length names) sets)
    (low : IsCounted old new i sets true) where
  abbrev k : ℕ
  k = length names

  fewer : (s z : ℕ → Bool) → (x : ℕ) → (nat_lt x k && not (s x || z x)) ≡ true → (nat_lt x k && not (s x)) ≡ true
  fewer s z x e = let both = and_parts (nat_lt x k) (not (s x || z x)) e in and_from _ _ both.0 (neither (s x) (z x) both.1)
    where
      neither : (a b : Bool) → not (a || b) ≡ true → not a ≡ true
      neither true b h = h
      neither false b h = refl

  within_there : (s z : ℕ → Bool) → ((x : ℕ) → z x ≡ true → x < k) → ((x : ℕ) → (nat_lt x k && not (s x)) ≡ true → (nat_lt x k && not (s x || z x)) ≡ true) → (x : ℕ) → z x ≡ true → s x ≡ true
  within_there s z low h x e = elim (cases_Bool (s x)) [
    | inl y ↦ y
    | inr y ↦
        let here : (nat_lt x k && not (s x)) ≡ true = and_from _ _ (is_less x (low x e)) (ap not y) in
        let gone : not (s x || z x) ≡ true = (and_parts (nat_lt x k) (not (s x || z x)) (h x here)).1 in
        absurd (clash (s x) (z x) y e gone)
  ]
    where
      is_less : (x : ℕ) → x < k → nat_lt x k ≡ true
      is_less x l = search (rules, l)

      clash : (a b : Bool) → a ≡ false → b ≡ true → not (a || b) ≡ true → ⊥
      clash true b e f g = true≢false e
      clash false true e f g = true≢false (sym g)
      clash false false e f g = true≢false (sym f)

  numbered : (s : Sets) → IsNumbered k (left_of k s)
  unfolding IsNumbered left_of
  numbered s = record { vars = λ x e. less x (and_parts (nat_lt x k) (not (s.vars x)) e).0; functions = λ x e. less x (and_parts (nat_lt x k) (not (s.functions x)) e).0; args = omega arith }
    where
      less : (x : ℕ) → nat_lt x k ≡ true → x < k
      less x e = search (rules, e)

  smaller : (s : Sets) → IsWithin (left_of k (joined sets s)) (left_of k s)
  unfolding left_of
  smaller s = known_within _ _ _ _ 0 0 (fewer s.vars sets.vars) (fewer s.functions sets.functions) (omega arith)

  larger : (s : Sets) → IsWithin (left_of k s) (left_of k (joined sets s)) → AreWithin sets s
  unfolding left_of
  larger s w = let parts = known_parts _ _ _ _ 0 0 w in record {
    vars = within_there s.vars sets.vars below.vars parts.vars;
    functions = within_there s.functions sets.functions below.functions parts.functions;
  }

  drops_strict : drops_rank k (dropped new i) < drops_rank k (dropped old i)
  unfolding drops_rank
  drops_strict = go (dropped old i) refl (low.there refl)
    where
      go : (o : Option Sets) → dropped old i ≡ o → is_some (dropped old i) ≡ true → drops_rank k (dropped new i) < drops_rank k (dropped old i)
      go None e h = absurd (true≢false (sym h ∙ ap is_some e))
      go (Some s) e h =
          let now : dropped new i ≡ Some (joined sets s) = low.here refl ∙ ap (option_map (joined sets)) e in
          let less : rank k (left_of k (joined sets s)) < rank k (left_of k s) =
          rank_less k (left_of k (joined sets s)) (left_of k s) (smaller s) (λ w. low.fails refl s e (larger s w)) (numbered (joined sets s)) (numbered s) in
          subst (λ o. drops_rank k o < drops_rank k (dropped old i)) (sym now) (subst (λ o. rank k (left_of k (joined sets s)) < drops_rank k o) (sym e) less)

  drops_le : (j : ℕ) → drops_rank k (dropped new j) ≤ drops_rank k (dropped old j)
  drops_le j = elim (cases_Bool (eqb j i)) [
    | inl e ↦ subst (λ x. drops_rank k (dropped new x) ≤ drops_rank k (dropped old x)) (sym (eqb-true j i e)) (let l = drops_strict in omega (arith, l))
    | inr e ↦ let s : drops_rank k (dropped new j) ≡ drops_rank k (dropped old j) = ap (drops_rank k) (low.elsewhere j e) in omega (arith, s)
  ]

  same_claim : (q : Place) → claim_rank k (claims new q) ≡ claim_rank k (claims old q)
  same_claim q = ap (claim_rank k) (low.claims q)

  functions_le : (j : ℕ) → function_rank k new j ≤ function_rank k old j
  unfolding function_rank
  functions_le j = let a = same_claim (at Entered j) in let b = same_claim (at ReturnZero j) in let c = same_claim (at ReturnNonzero j) in let d = drops_le j in omega (arith, a, b, c, d)

  commands_le : (j : ℕ) → command_rank k new j ≤ command_rank k old j
  unfolding command_rank
  commands_le j = let a = same_claim (at Before j) in let b = same_claim (at Zero j) in let c = same_claim (at Nonzero j) in let d = same_claim (at Head j) in omega (arith, a, b, c, d)

  strictly : function_rank k new i < function_rank k old i
  unfolding function_rank
  strictly = let a = same_claim (at Entered i) in let b = same_claim (at ReturnZero i) in let c = same_claim (at ReturnNonzero i) in let d = drops_strict in omega (arith, a, b, c, d)

  pub counted_less : height k (length loops) m new < height k (length loops) m old
  counted_less =
      let a = total_le (command_rank k new) (command_rank k old) (length loops) commands_le in
      let b = total_less (function_rank k new) (function_rank k old) m i functions_le (drops_below names loops m old before i (low.there refl)) strictly in
      omega (arith, a, b)

-- A certificate that claims the same

module _ (n : ℕ) (old new : Certificate) (claim : (p : Place) → claims new p ≡ claims old p) (drop : (i : ℕ) → dropped new i ≡ dropped old i) where
  at_place : (p : Place) → claim_rank n (claims new p) ≡ claim_rank n (claims old p)
  at_place p = ap (claim_rank n) (claim p)

  at_command : (i : ℕ) → command_rank n new i ≤ command_rank n old i
  unfolding command_rank
  at_command i = let a = at_place (at Before i) in let b = at_place (at Zero i) in let c = at_place (at Nonzero i) in let d = at_place (at Head i) in omega (arith, a, b, c, d)

  at_function : (i : ℕ) → function_rank n new i ≤ function_rank n old i
  unfolding function_rank
  at_function i =
      let a = at_place (at Entered i) in let b = at_place (at ReturnZero i) in let c = at_place (at ReturnNonzero i) in let d = ap (drops_rank n) (drop i) in omega (arith, a, b, c, d)

  pub same_height : (commands functions : ℕ) → height n commands functions new ≤ height n commands functions old
  same_height commands functions =
      let a = total_le (command_rank n new) (command_rank n old) commands at_command in
      let b = total_le (function_rank n new) (function_rank n old) functions at_function in
      omega (arith, a, b)
