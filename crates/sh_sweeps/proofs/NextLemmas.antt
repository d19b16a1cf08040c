-- If not all is kept, a constraint is broken at the place or the function that is sought, or at
-- those that are next.
use Rattle.std.proofs.Common.{◌≡◌, ℕ, ◌<◌, ◌≤◌, Bool, true, false, ◌&&◌, ◌||◌, Option, Some, None, option_map, is_some, unwrap_or, List, [], ◌∷◌, length, slice_get, refl, sym, ap, ◌∙◌, subst, arith, inl, inr, ◌⊎◌, true≢false, eq-eqb}
use Rattle.std.specs.Prelude.{option_and_then}
use Rattle.std.proofs.lemmas.Bool.{cases_Bool, lt-ltb}
use Rattle.std.proofs.lemmas.List.{length-map}
use Rattle.std.proofs.lemmas.Option.{slice_get_within}
use Rattle.sh_tree.specs.declared.tree.Script.{Script}
use Rattle.sh_tree.specs.standard.program.Syntax.{Text}
use Rattle.sh_tree.specs.standard.program.Trees.{script_of}
use Rattle.sh_runs.specs.Calls.{table_of}
use Rattle.sh_table.proofs.TableLemmas.{names_few}
use Rattle.sh_domain.specs.declared.certificate.Certificate as kept
use Rattle.sh_domain.specs.declared.certificate.Facts.TheVariants as value_kind
use Rattle.sh_domain.specs.declared.rule.FlowRule.{FlowRule}
use Rattle.sh_domain.specs.declared.rule.FlowRule.TheVariants.{F13}
use Rattle.sh_domain.specs.Facts.{Facts, Declared, within}
use Rattle.sh_domain.specs.Faults.{are_among, broken, told}
use Rattle.sh_domain.specs.Inclusions.{Each}
use Rattle.sh_domain.specs.Names.{number_of}
use Rattle.sh_domain.specs.Reading.{AreLoops}
use Rattle.sh_domain.specs.Rules.{Constraint, Within, Counted, script_bounds}
use Rattle.sh_domain.specs.Views.{Certificate, view_facts, lost}
use Rattle.sh_domain.proofs.EachLemmas.{each_parts}
use Rattle.sh_drafts.specs.Kept.{fact_of}
use Rattle.sh_domain.specs.Admitted.{IsAdmitted, functions_in}
use Rattle.sh_sweeps.specs.declared.gather.Gather.{Gather}
use Rattle.sh_drafts.specs.declared.target.Target.{Target}
use Rattle.sh_drafts.specs.declared.place.Place.{Place}
use Rattle.sh_drafts.specs.Gathered.{Gathered, all_gathered, bounded, counted, fitting, fitting_place, gathered, is_at, is_number, next_of}
use Rattle.sh_drafts.specs.Gathering.{and_true}
use Rattle.sh_sweeps.specs.Next.{BrokenAt, IsKeptAt, stands_at}
use Rattle.sh_drafts.specs.Places.{place_of, drops_at, kept_at, is_of_command, is_of_function}
use Rattle.sh_drafts.specs.Stated.{asked_bounds, is_asked}
use Rattle.sh_sweeps.specs.There.{AsksThere}
use Rattle.sh_sweeps.specs.Asked.{gathered_of, IsNew}
use Rattle.sh_drafts.specs.Working.{IsWorking, claims, dropped, sets_of}
use Rattle.sh_sweeps.proofs.AskingLemmas.{few_commands}
use Rattle.sh_sweeps.proofs.LoopsLemmas.{few_listed}
use Rattle.sh_drafts.proofs.KeptLemmas.{command_needs, drops_within, function_needs, kept_head}
use Rattle.sh_sweeps.proofs.StatedLemmas.{each_passing}
use Rattle.sh_sweeps.proofs.ThereLemmas.{rules_ask_there}

-- Constraints that are broken

module _ (functions : List Text) (d : Facts) (c : Certificate) (p : Place) (i : ℕ) where
  broken_first : (k : Constraint) (ks : List Constraint) → stands_at functions p i k ≡ true → ¬ (broken d c k ≡ []) → BrokenAt functions d c (k ∷ ks) p i
  broken_first k ks s b = record { constraint = k; front = []; back = ks; one = refl; there = s; breaks = b }

  broken_later : (k : Constraint) (ks : List Constraint) → BrokenAt functions d c ks p i → BrokenAt functions d c (k ∷ ks) p i
  broken_later k ks b = record { constraint = b.constraint; front = k ∷ b.front; back = b.back; one = ap (λ ls. k ∷ ls) b.one; there = b.there; breaks = b.breaks }

  first_kept : (k : Constraint) (ks : List Constraint) → Each (IsKeptAt functions d c p i) (k ∷ ks) → stands_at functions p i k ≡ true → broken d c k ≡ []
  unfolding Each
  first_kept k ks all s = all.0.kept s

  -- none is, if each one that requires something there is kept
  pub none_broken : (ks : List Constraint) → Each (IsKeptAt functions d c p i) ks → BrokenAt functions d c ks p i → ⊥
  none_broken ks all b =
      b.breaks (first_kept b.constraint b.back (each_parts (IsKeptAt functions d c p i) b.front (b.constraint ∷ b.back) (subst (Each (IsKeptAt functions d c p i)) b.one all)).1 b.there)

-- Indices

index_fits : (i : ℕ) → i < 65536 → fitting i ≡ Some i
unfolding fitting
index_fits i l = rw (lt-ltb i 65536 l) refl

place_fits : (p : Place) → p.index < 65536 → fitting_place p ≡ Some p
unfolding fitting_place
place_fits p l = rw (index_fits p.index l) refl

pub same_itself : (p : Place) → is_at (Some p) p ≡ true
unfolding is_at
same_itself p = go _ _ (eq-eqb p.index p.index refl) (eq-eqb _ _ refl)
  where
    go : (a b : Bool) → a ≡ true → b ≡ true → (a && b) ≡ true
    go true b e h = h
    go false b e h = e

own_number : (i : ℕ) → is_number (Some i) i ≡ true
unfolding is_number
own_number i = eq-eqb i i refl

-- a constraint requires something of a place, or of a function, of an index that may be
unfoldable pub AsksFitting : List Text → Constraint → Type 0
AsksFitting functions (Within slot n rule v) = (p : Place) × (place_of functions slot ≡ Some p) × (p.index < 65536)
AsksFitting functions (Counted f n loss) = (i : ℕ) × (number_of functions f ≡ Some i) × (i < 65536)

-- what is next is there

at_next : (o : Option Place) (p n : Place) → o ≡ Some p → p.index < 65536 → is_at o (next_of false (option_and_then fitting_place o) n) ≡ true
unfolding next_of
at_next o p n is low = subst (λ x. is_at x (unwrap_or (option_and_then fitting_place x) n) ≡ true) (sym is) (ap (λ x. is_at (Some p) (unwrap_or x n)) (place_fits p low) ∙ same_itself p)

number_next : (o : Option ℕ) (i n : ℕ) → o ≡ Some i → i < 65536 → is_number o (next_of false (option_and_then fitting o) n) ≡ true
unfolding next_of
number_next o i n is low = subst (λ x. is_number x (unwrap_or (option_and_then fitting x) n) ≡ true) (sym is) (ap (λ x. is_number (Some i) (unwrap_or x n)) (index_fits i low) ∙ own_number i)

-- One constraint

-- Something is not kept here, or at what is next; or it was so before, and what is next stays.
abbrev Falls : {A : Type 0} → Bool → (A → Bool) → A → A → A → Bool → Type 0
Falls x at now next last before = ((x ≡ false) × (at now ≡ true)) ⊎ (((x ≡ false) × (at next ≡ true)) ⊎ ((before ≡ false) × (next ≡ last)))

falls : {A : Type 0} (x : Bool) (at : A → Bool) (o : Option A) (now last : A) (before : Bool) → at (next_of false o last) ≡ true → (before && x) ≡ false
    → Falls x at now (next_of (x || at now) o last) last before
unfolding next_of
falls true at o now last before there e = inr (inr (sym (and_true before) ∙ e, refl))
falls false at o now last before there e = go (at now) refl
  where
    go : (t : Bool) → at now ≡ t → Falls false at now (next_of t o last) last before
    go true h = inl (refl, h)
    go false h = inr (inl (refl, there))

not_told : (b : Bool) (n : ℕ) (r : FlowRule) → b ≡ false → ¬ (told b n r ≡ [])
unfolding told
not_told true n r e = λ h. true≢false e
not_told false n r e = λ h. cc

-- What is gathered

module _ (names functions : List Text) (d : Facts) (c : Certificate) where
  abbrev after : Gathered → Constraint → Gathered
  after g k = gathered names functions d c g k

  abbrev all_after : Gathered → List Constraint → Gathered
  all_after g ks = all_gathered names functions d c g ks

  abbrev Breaks : Constraint → Place → ℕ → Type 0
  Breaks k p i = (stands_at functions p i k ≡ true) × ¬ (broken d c k ≡ [])

  abbrev Step : Constraint → Gathered → Gathered → Type 0
  Step k old new =
      (Breaks k old.place old.function ⊎ Breaks k new.next_place new.next_function) ⊎ ((old.kept ≡ false) × (new.next_place ≡ old.next_place) × (new.next_function ≡ old.next_function))

  step : (k : Constraint) (g : Gathered) → AsksFitting functions k → (after g k).kept ≡ false → Step k g (after g k)
  unfolding gathered bounded counted stands_at AsksFitting broken
  step (Within slot n rule v) g q e = elim (falls (within (c.claim slot) (view_facts d c v)) (is_at o) (option_and_then fitting_place o) g.place g.next_place g.kept (at_next o q.0 g.next_place q.1 q.2) e) [
    | inl h ↦ inl (inl (h.1, not_told _ n rule h.0))
    | inr h ↦ elim h [
      | inl m ↦ inl (inr (m.1, not_told _ n rule m.0))
      | inr m ↦ inr (m.0, m.1, refl)
    ]
  ]
    where
      o : Option Place
      o = place_of functions slot
  step (Counted f n loss) g q e = elim (falls (are_among (lost d c n loss) (c.drops f)) (is_number o) (option_and_then fitting o) g.function g.next_function g.kept (number_next o q.0 g.next_function q.1 q.2) e) [
    | inl h ↦ inl (inl (h.1, not_told _ n F13 h.0))
    | inr h ↦ elim h [
      | inl m ↦ inl (inr (m.1, not_told _ n F13 m.0))
      | inr m ↦ inr (m.0, refl, m.1)
    ]
  ]
    where
      o : Option ℕ
      o = number_of functions f

  abbrev Ends : List Constraint → Gathered → Gathered → Type 0
  Ends ks old new =
      (BrokenAt functions d c ks old.place old.function ⊎ BrokenAt functions d c ks new.next_place new.next_function)
      ⊎ ((old.kept ≡ false) × (new.next_place ≡ old.next_place) × (new.next_function ≡ old.next_function))

  -- the place and the function that are sought stay
  sought : (k : Constraint) (g : Gathered) (P : Place → ℕ → Type 0) → P (after g k).place (after g k).function → P g.place g.function
  unfolding gathered bounded counted
  sought (Within slot n rule v) g P x = x
  sought (Counted f n loss) g P x = x

  ends : (ks : List Constraint) (g : Gathered) → Each (AsksFitting functions) ks → (all_after g ks).kept ≡ false → Ends ks g (all_after g ks)
  unfolding Each
  ends [] g all e = inr (e, refl, refl)
  ends (k ∷ ks) g all e = later (ends ks (after g k) all.1 e)
    where
      here : (x : Gathered) → x.next_place ≡ (after g k).next_place → x.next_function ≡ (after g k).next_function → Step k g (after g k) → Ends (k ∷ ks) g x
      here x a b s = elim s [
        | inl h ↦ elim h [
          | inl m ↦ inl (inl (broken_first functions d c g.place g.function k ks m.0 m.1))
          | inr m ↦ inl (inr (subst (λ p. BrokenAt functions d c (k ∷ ks) p x.next_function) (sym a)
              (subst (λ i. BrokenAt functions d c (k ∷ ks) (after g k).next_place i) (sym b) (broken_first functions d c (after g k).next_place (after g k).next_function k ks m.0 m.1))))
        ]
        | inr m ↦ inr (m.0, a ∙ m.1, b ∙ m.2)
      ]

      later : Ends ks (after g k) (all_after (after g k) ks) → Ends (k ∷ ks) g (all_after (after g k) ks)
      later r = elim r [
        | inl h ↦ elim h [
          | inl b ↦ inl (inl (sought k g (λ p i. BrokenAt functions d c (k ∷ ks) p i) (broken_later functions d c (after g k).place (after g k).function k ks b)))
          | inr b ↦ inl (inr (broken_later functions d c (all_after (after g k) ks).next_place (all_after (after g k) ks).next_function k ks b))
        ]
        | inr s ↦ here (all_after (after g k) ks) s.1 s.2 (step k g all.0 s.0)
      ]

  -- from nothing
  pub next_broken : (ks : List Constraint) → Each (AsksFitting functions) ks → (target : Target) (g new : Gather) → IsNew target g → gathered_of new ≡ all_after (gathered_of g) ks → new.kept ≡ false
      → BrokenAt functions d c ks target.place target.function ⊎ BrokenAt functions d c ks new.next.place new.next.function
  unfolding gathered_of
  next_broken ks all target g new first is e = elim (ends ks (gathered_of g) all (sym (ap (λ (x : Gathered). x.kept) is) ∙ e)) [
    | inl h ↦ elim h [
      | inl b ↦ inl (subst (λ (t : Target). BrokenAt functions d c ks t.place t.function) first.at b)
      | inr b ↦ inr (subst (λ (x : Gathered). BrokenAt functions d c ks x.next_place x.next_function) (sym is) b)
    ]
    | inr s ↦ absurd (true≢false (sym first.kept ∙ s.0))
  ]

-- Each index is that of a command or of a function

some_under : {A B : Type 0} (f : A → B) (o : Option A) → is_some (option_map f o) ≡ true → is_some o ≡ true
some_under f None e = e
some_under f (Some x) e = refl

module _ (names : List Text) (loops : List Bool) (functions : List Text) (c : kept.Certificate) (w : IsWorking names loops (length functions) c) (few : length loops ≤ 65535) (some : length functions ≤ 65535) where
  looped : (i : ℕ) → unwrap_or (slice_get loops i) false ≡ true → i < length loops
  looped i e = go (slice_get loops i) refl e
    where
      go : (o : Option Bool) → slice_get loops i ≡ o → unwrap_or o false ≡ true → i < length loops
      go None is e = absurd (true≢false (sym e))
      go (Some x) is e = slice_get_within loops i x is

  place_low : (p : Place) → is_some (claims c p) ≡ true → p.index < 65536
  unfolding claims
  place_low p e =
      let there = some_under (fact_of c.rows.rows) (kept_at c p) e in
      elim (cases_Bool (is_of_command p.part)) [
        | inl a ↦ let low = command_needs p value_kind.NotReached c a there in let long = w.commands in omega (arith, low, long, few)
        | inr a ↦ elim (cases_Bool (is_of_function p.part)) [
          | inl b ↦ let low = function_needs p value_kind.NotReached c a b there in let long = w.defined in omega (arith, low, long, some)
          | inr b ↦ let low = looped p.index (sym (w.heads p.index) ∙ subst (λ o. is_some o ≡ true) (kept_head c p a b) there) in omega (arith, low, few)
        ]
      ]

  index_low : (i : ℕ) → is_some (dropped c i) ≡ true → i < 65536
  unfolding dropped
  index_low i e = let low = drops_within c i (some_under (sets_of c.rows) (drops_at c i) e) in let long = w.defined in omega (arith, low, long, some)

  fitting_there : (ks : List Constraint) → Each (AsksThere functions c) ks → Each (AsksFitting functions) ks
  unfolding Each AsksThere AsksFitting
  fitting_there [] h = tt
  fitting_there (Within slot n rule v ∷ ks) h = ((h.0.place, h.0.at, place_low h.0.place h.0.there), fitting_there ks h.1)
  fitting_there (Counted f n loss ∷ ks) h = ((h.0.index, h.0.at, index_low h.0.index h.0.there), fitting_there ks h.1)

-- each constraint of a script that is admitted requires something of an index that may be
all_of_script : (b : List ℕ) (d : Declared) (t : Script) (names : List Text) (loops : List Bool) (c : kept.Certificate) → IsAdmitted b d t names → AreLoops t loops
    → IsWorking names loops (length (functions_in b t)) c → Each (AsksFitting (functions_in b t)) (script_bounds (script_of b t))
all_of_script b d t names loops c a are w =
    let long : length loops ≡ length are.commands = ap length are.each ∙ length-map are.commands _ in
    let few = few_listed b d t names a are.commands are.all in
    let rows : length (table_of b t).rows ≤ 65535 = few_commands b d t names a in
    let functions = names_few b t in
    fitting_there names loops (functions_in b t) c w (omega (arith, long, few)) (omega (arith, functions, rows)) (script_bounds (script_of b t)) (rules_ask_there b d t names loops c a are w)

pub all_fitting : (b : List ℕ) (d : Declared) (t : Script) (names : List Text) (loops : List Bool) (c : kept.Certificate) (stated : Bool) → IsAdmitted b d t names → AreLoops t loops
    → IsWorking names loops (length (functions_in b t)) c → Each (AsksFitting (functions_in b t)) (asked_bounds stated (script_bounds (script_of b t)))
all_fitting b d t names loops c stated a are w = each_passing (AsksFitting (functions_in b t)) (is_asked stated) (script_bounds (script_of b t)) (all_of_script b d t names loops c a are w)
