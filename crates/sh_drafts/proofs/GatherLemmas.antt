-- What is gathered of all that the flow rules ask.
use Rattle.std.proofs.Common.{◌≡◌, ℕ, ◌<◌, ◌≤◌, Bool, true, false, ◌&&◌, ◌||◌, if◌then◌else◌, Option, Some, None, List, [], ◌∷◌, ◌++◌, length, flat_map, slice_get, refl, sym, ap, ap₂, ◌∙◌, subst, arith, inl, inr, ◌⊎◌, true≢false}
use Rattle.std.specs.List.{list_all}
use Rattle.std.proofs.Math.Path.{fun_ext}
use Rattle.std.proofs.lemmas.Bool.{cases_Bool, and_parts, and_from, or_cases, eqb-true}
use Rattle.std.proofs.lemmas.Option.{slice_get_within}
use Rattle.sh_tree.specs.standard.program.Syntax.{Text}
use Rattle.sh_runs.specs.standard.runs.Environment.{is_one_of}
use Rattle.sh_domain.specs.Facts.{Facts, NotReached, Known, Claim, Unreached, Claimed, facts, within}
use Rattle.sh_domain.specs.Faults.{Fault, are_among, told, broken}
use Rattle.sh_domain.specs.Knowledge.{among, at_number}
use Rattle.sh_domain.specs.Names.{number_of}
use Rattle.sh_domain.specs.Operands.{Names}
use Rattle.sh_domain.specs.Order.{IsWithin, IsBelow, AreAmong, Fits}
use Rattle.sh_domain.specs.Reading.{claim_fits}
use Rattle.sh_domain.specs.Rules.{Constraint, Within, Counted}
use Rattle.sh_domain.specs.Sheets.{Sheet, certificate_of, claim_at, function_at}
use Rattle.sh_domain.specs.Views.{Certificate, Slot, view_facts, lost}
use Rattle.sh_domain.proofs.KnowledgeLemmas.{same_tests, stands_there}
use Rattle.sh_domain.proofs.MonotoneLemmas.{fits_below}
use Rattle.sh_domain.proofs.OrderLemmas.{known_parts, known_within, within_itself, within_nowhere, nowhere_known, meet_greatest, among_all}
use Rattle.sh_drafts.specs.Facts as number
use Rattle.sh_drafts.specs.Kept.{IsNamed}
use Rattle.sh_drafts.specs.declared.place.Place.{Place}
use Rattle.sh_drafts.specs.Gathered.{Gathered, is_at, is_number, bounded, counted, gathered, all_gathered}
use Rattle.sh_drafts.specs.Numbers.{name_passes, by_number, by_name, numbers_in}
use Rattle.sh_drafts.specs.Places.{place_of, claim_there, drops_there}
use Rattle.sh_drafts.specs.Turns.{AreNumbers, Stands}
use Rattle.sh_drafts.specs.Working.{Sets, joined, AreBelow}
use Rattle.sh_drafts.proofs.KeptLemmas.{place_same}
use Rattle.sh_drafts.proofs.NumberLemmas.{back, meet_named}
use Rattle.sh_drafts.proofs.SheetLemmas.{placed, drops_placed}

-- Facts of numbered names

pub among_less : (names : List Text) (f : Facts) → IsWithin (among names f) f
unfolding among
among_less names NotReached = within_itself NotReached
among_less names (Known v f a) =
    known_within _ _ _ _ a a (λ t e. (and_parts (is_one_of names t) (v t) e).1) (λ t e. (and_parts (is_one_of names t) (f t) e).1) (le_self a)
  where
    le_self : (a : ℕ) → a ≤ a
    le_self a = omega arith

only_known : (names vs : List Text) → list_all (is_one_of names) vs ≡ true → (t : Text) → (is_one_of names t && is_one_of vs t) ≡ is_one_of vs t
only_known names vs e t = same_tests _ _ (λ h. (and_parts (is_one_of names t) (is_one_of vs t) h).1) (λ h. and_from _ _ (among_all (is_one_of names) vs e t h) h)

pub claim_among : (names : List Text) (c : Claim) → claim_fits names c ≡ true → among names (facts c) ≡ facts c
unfolding claim_fits facts among
claim_among names Unreached e = refl
claim_among names (Claimed vs fs n) e =
    let both = and_parts (list_all (is_one_of names) vs) (list_all (is_one_of names) fs) e in
    ap₂ (λ (v f : Text → Bool). Known v f n) (fun_ext (only_known names vs both.0)) (fun_ext (only_known names fs both.1))

-- a claim of numbered names is within what is known of these
pub within_among : (names : List Text) (c : Claim) (f : Facts) → claim_fits names c ≡ true → IsWithin (facts c) f → IsWithin (facts c) (among names f)
unfolding claim_fits facts among
within_among names Unreached NotReached e w = w
within_among names Unreached (Known v g b) e w = absurd (nowhere_known v g b w)
within_among names (Claimed vs fs n) NotReached e w = within_nowhere _
within_among names (Claimed vs fs n) (Known v g b) e w =
    let both = and_parts (list_all (is_one_of names) vs) (list_all (is_one_of names) fs) e in
    let s = known_parts _ v _ g n b w in
    known_within _ _ _ _ n b
    (λ t m. and_from _ _ (among_all (is_one_of names) vs both.0 t m) (s.vars t m))
    (λ t m. and_from _ _ (among_all (is_one_of names) fs both.1 t m) (s.functions t m))
    s.args

-- Lists without faults

first_none : (xs ys : List Fault) → xs ++ ys ≡ [] → xs ≡ []
first_none [] ys e = refl
first_none (x ∷ xs) ys e = cc

rest_none : (xs ys : List Fault) → xs ++ ys ≡ [] → ys ≡ []
rest_none [] ys e = e
rest_none (x ∷ xs) ys e = cc

module _ (names functions : List Text) (d : Facts) where
  -- where all is kept, no constraint is broken
  pub all_kept : (c : Certificate) (ks : List Constraint) (g : Gathered) → (all_gathered names functions d c g ks).kept ≡ true → (g.kept ≡ true) × (flat_map (broken d c) ks ≡ [])
  unfolding gathered bounded counted broken told
  all_kept c [] g e = (e, refl)
  all_kept c (Within slot n rule v ∷ ks) g e =
      let rest = all_kept c ks (gathered names functions d c g (Within slot n rule v)) e in
      let both = and_parts g.kept (within (c.claim slot) (view_facts d c v)) rest.0 in
      (both.0, ap (λ b. told b n rule ++ flat_map (broken d c) ks) both.1 ∙ rest.1)
  all_kept c (Counted f n loss ∷ ks) g e =
      let rest = all_kept c ks (gathered names functions d c g (Counted f n loss)) e in
      let both = and_parts g.kept (are_among (lost d c n loss) (c.drops f)) rest.0 in
      (both.0, rw both.1 rest.1)

  pub place_stays : (c : Certificate) (ks : List Constraint) (g : Gathered) → (all_gathered names functions d c g ks).place ≡ g.place
  unfolding gathered bounded counted
  place_stays c [] g = refl
  place_stays c (Within slot n rule v ∷ ks) g = place_stays c ks (gathered names functions d c g (Within slot n rule v))
  place_stays c (Counted f n loss ∷ ks) g = place_stays c ks (gathered names functions d c g (Counted f n loss))

  pub function_stays : (c : Certificate) (ks : List Constraint) (g : Gathered) → (all_gathered names functions d c g ks).function ≡ g.function
  unfolding gathered bounded counted
  function_stays c [] g = refl
  function_stays c (Within slot n rule v ∷ ks) g = function_stays c ks (gathered names functions d c g (Within slot n rule v))
  function_stays c (Counted f n loss ∷ ks) g = function_stays c ks (gathered names functions d c g (Counted f n loss))

  -- Only numbered names are gathered

  passes_below : (v : Text → Bool) (k : ℕ) → name_passes v (slice_get names k) ≡ true → k < length names
  unfolding name_passes
  passes_below v k e = go (slice_get names k) refl e
    where
      go : (o : Option Text) → slice_get names k ≡ o → name_passes v o ≡ true → k < length names
      go None is e = absurd (true≢false (sym e))
      go (Some t) is e = slice_get_within names k t is

  pub number_named : (f : Facts) → IsNamed (length names) (by_number names f)
  unfolding IsNamed by_number
  number_named NotReached = tt
  number_named (Known v f a) = record { vars = passes_below v; functions = passes_below f }

  met_named : (f g : number.Facts) → IsNamed (length names) f → IsNamed (length names) g → IsNamed (length names) (number.meet f g)
  unfolding IsNamed number.meet
  met_named number.NotReached g a b = b
  met_named (number.Known v f n) number.NotReached a b = a
  met_named (number.Known v f n) (number.Known w g k) a b = record { vars = λ x e. a.vars x (and_parts (v x) (w x) e).0; functions = λ x e. a.functions x (and_parts (f x) (g x) e).0 }

  joined_below : (lost : Names) (s : Sets) → AreBelow (length names) s → AreBelow (length names) (joined (numbers_in names lost) s)
  joined_below lost s a = record {
    vars = λ k e. elim (or_cases (s.vars k) (name_passes (is_one_of lost.vars) (slice_get names k)) e) [ inl h ↦ a.vars k h | inr h ↦ passes_below (is_one_of lost.vars) k h ];
    functions = λ k e. elim (or_cases (s.functions k) (name_passes (is_one_of lost.functions) (slice_get names k)) e) [ inl h ↦ a.functions k h | inr h ↦ passes_below (is_one_of lost.functions) k h ];
  }

  if_named : (b : Bool) (f g : number.Facts) → IsNamed (length names) f → IsNamed (length names) g → IsNamed (length names) (if b then f else g)
  if_named true f g a b = a
  if_named false f g a b = b

  if_below : (b : Bool) (s z : Sets) → AreBelow (length names) s → AreBelow (length names) z → AreBelow (length names) (if b then s else z)
  if_below true s z a b = a
  if_below false s z a b = b

  pub place_numbered : (slot : Slot) (c : Claim) (k : Facts) (g : Gathered) → AreNumbers (length names) g → AreNumbers (length names) (bounded names functions slot c k g)
  unfolding bounded
  place_numbered slot c k g a = record {
    known = if_named (is_at (place_of functions slot) g.place) _ _ (met_named g.known (by_number names k) a.known (number_named k)) a.known;
    sets = a.sets;
  }

  pub drop_numbered : (f : Text) (may lost : Names) (g : Gathered) → AreNumbers (length names) g → AreNumbers (length names) (counted names functions f may lost g)
  unfolding counted
  drop_numbered f may lost g a = record { known = a.known; sets = if_below (is_number (number_of functions f) g.function) _ _ (joined_below lost g.sets a.sets) a.sets }

  pub numbered_only : (c : Certificate) (ks : List Constraint) (g : Gathered) → AreNumbers (length names) g → AreNumbers (length names) (all_gathered names functions d c g ks)
  unfolding gathered
  numbered_only c [] g a = a
  numbered_only c (Within slot n rule v ∷ ks) g a = numbered_only c ks (gathered names functions d c g (Within slot n rule v)) (place_numbered slot (c.claim slot) (view_facts d c v) g a)
  numbered_only c (Counted f n loss ∷ ks) g a = numbered_only c ks (gathered names functions d c g (Counted f n loss)) (drop_numbered f (c.drops f) (lost d c n loss) g a)

  -- What keeps the rules claims no more than is gathered, and drops no less

  module _ (other : Sheet) (fit : (o : Option Place) → claim_fits names (claim_there other o) ≡ true) where
    is_there : (o : Option Place) (p : Place) → is_at o p ≡ true → o ≡ Some p
    unfolding is_at
    is_there None p e = absurd (true≢false (sym e))
    is_there (Some q) p e = ap Some (place_same q p e)

    is_its : (o : Option ℕ) (i : ℕ) → is_number o i ≡ true → o ≡ Some i
    unfolding is_number
    is_its None i e = absurd (true≢false (sym e))
    is_its (Some k) i e = ap Some (eqb-true k i e)

    -- the claim at a place that is asked for
    asked : (slot : Slot) (f : Facts) (g : Gathered) → IsWithin (facts ((certificate_of functions other).claim slot)) f → Stands names other g → is_at (place_of functions slot) g.place ≡ true
        → IsWithin (facts (claim_there other (Some g.place))) (by_name names (number.meet g.known (by_number names f)))
    asked slot f g w s e =
        let here : claim_at functions other slot ≡ claim_there other (Some g.place) = placed functions other slot ∙ ap (claim_there other) (is_there (place_of functions slot) g.place e) in
        subst (IsWithin (facts (claim_there other (Some g.place)))) (sym (meet_named names g.known (by_number names f)))
        (meet_greatest (by_name names g.known) (by_name names (by_number names f)) _ s.place
        (subst (IsWithin (facts (claim_there other (Some g.place)))) (sym (back names f))
        (within_among names (claim_there other (Some g.place)) f (fit (Some g.place)) (subst (λ k. IsWithin (facts k) f) here w))))

    -- a name that is lost by its number
    lost_name : (v : ℕ → Bool) (ts : List Text) (x : Text) → at_number (λ k. v k || name_passes (is_one_of ts) (slice_get names k)) (number_of names x) ≡ true
        → (at_number v (number_of names x) ≡ true) ⊎ (is_one_of ts x ≡ true)
    unfolding at_number name_passes
    lost_name v ts x e = go (number_of names x) refl e
      where
        go : (o : Option ℕ) → number_of names x ≡ o → at_number (λ k. v k || name_passes (is_one_of ts) (slice_get names k)) o ≡ true → (at_number v o ≡ true) ⊎ (is_one_of ts x ≡ true)
        go None is e = absurd (true≢false (sym e))
        go (Some k) is e = elim (or_cases (v k) (name_passes (is_one_of ts) (slice_get names k)) e) [
          | inl h ↦ inl h
          | inr h ↦ inr (sym (ap (name_passes (is_one_of ts)) (stands_there names k x is)) ∙ h)
        ]

    -- where it claims no more at a place, and drops no less

    pub place_stands : (slot : Slot) (c : Claim) (f : Facts) (g : Gathered) → IsWithin (facts ((certificate_of functions other).claim slot)) f → Stands names other g
        → Stands names other (bounded names functions slot c f g)
    unfolding bounded
    place_stands slot c f g w s = record {
      place = elim (cases_Bool (is_at (place_of functions slot) g.place)) [
        | inl e ↦ rw e (asked slot f g w s e)
        | inr e ↦ rw e s.place
      ];
      vars = s.vars;
      functions = s.functions;
    }

    pub drop_stands : (f : Text) (may dropped : Names) (g : Gathered) → AreAmong dropped ((certificate_of functions other).drops f) → Stands names other g
        → Stands names other (counted names functions f may dropped g)
    unfolding counted
    drop_stands f may dropped g a s = elim (cases_Bool (is_number (number_of functions f) g.function)) [
      | inl e ↦
          let here : (function_at functions other.functions f).drops ≡ drops_there other (Some g.function) = drops_placed functions other f ∙ ap (drops_there other) (is_its (number_of functions f) g.function e) in
          rw e (record {
            place = s.place;
            vars = λ x t. elim (lost_name g.sets.vars dropped.vars x t) [ inl h ↦ s.vars x h | inr h ↦ subst (λ k. is_one_of k.vars x ≡ true) here (a.vars x h) ];
            functions = λ x t. elim (lost_name g.sets.functions dropped.functions x t) [ inl h ↦ s.functions x h | inr h ↦ subst (λ k. is_one_of k.functions x ≡ true) here (a.functions x h) ];
          })
      | inr e ↦ rw e (record { place = s.place; vars = s.vars; functions = s.functions })
    ]

  module _ (c : Certificate) (other : Sheet) (below : IsBelow (certificate_of functions other) c) (fit : (o : Option Place) → claim_fits names (claim_there other o) ≡ true) where
    stands_on : (k : Constraint) (g : Gathered) → broken d (certificate_of functions other) k ≡ [] → Stands names other g → Stands names other (gathered names functions d c g k)
    unfolding gathered Fits
    stands_on (Within slot n rule v) g none s = place_stands other fit slot (c.claim slot) (view_facts d c v) g (fits_below d (certificate_of functions other) c (Within slot n rule v) below none) s
    stands_on (Counted f n loss) g none s = drop_stands other fit f (c.drops f) (lost d c n loss) g (fits_below d (certificate_of functions other) c (Counted f n loss) below none) s

    pub stands_all : (ks : List Constraint) (g : Gathered) → flat_map (broken d (certificate_of functions other)) ks ≡ [] → Stands names other g → Stands names other (all_gathered names functions d c g ks)
    stands_all [] g none s = s
    stands_all (k ∷ ks) g none s =
        stands_all ks (gathered names functions d c g k) (rest_none (broken d (certificate_of functions other) k) (flat_map (broken d (certificate_of functions other)) ks) none)
        (stands_on k g (first_none (broken d (certificate_of functions other) k) (flat_map (broken d (certificate_of functions other)) ks) none) s)
