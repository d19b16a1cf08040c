-- Turns of the search.
use Rattle.std.proofs.Common.{◌≡◌, ℕ, ◌-◌, ◌<◌, Bool, true, false, ◌||◌, if◌then◌else◌, Option, Some, None, option_map, is_some, List, [], ◌∷◌, length, flat_map, refl, sym, ap, ◌∙◌, subst, arith, inl, inr, true≢false}
use Rattle.std.proofs.lemmas.Bool.{cases_Bool}
use Rattle.sh_tree.specs.standard.program.Syntax.{Text}
use Rattle.sh_domain.specs.Filled.{is_stated}
use Rattle.sh_domain.specs.declared.certificate.Certificate as kept
use Rattle.sh_domain.specs.Facts.{Facts, Claim, facts}
use Rattle.sh_domain.specs.Faults.{broken}
use Rattle.sh_domain.specs.Knowledge.{AreNumbered, at_number}
use Rattle.sh_domain.specs.Names.{number_of}
use Rattle.sh_domain.specs.NumberSets.{numbers_of}
use Rattle.sh_domain.specs.Order.{IsWithin, IsBelow}
use Rattle.sh_domain.specs.Reading.{claim_fits}
use Rattle.sh_domain.specs.Inclusions.{Each}
use Rattle.sh_domain.specs.Rules.{Constraint, Within, Counted}
use Rattle.sh_domain.specs.Views as views
use Rattle.sh_domain.specs.Views.{Certificate, Slot, view_facts}
use Rattle.sh_domain.specs.Sheets.{Sheet, certificate_of}
use Rattle.sh_domain.proofs.OrderLemmas.{within_nowhere}
use Rattle.sh_drafts.specs.Kept.{IsNamed}
use Rattle.sh_sweeps.specs.declared.gather.Gather.{Gather}
use Rattle.sh_drafts.specs.declared.target.Target.{Target}
use Rattle.sh_drafts.specs.declared.place.Place.{Place}
use Rattle.sh_drafts.specs.Facts as number
use Rattle.sh_drafts.specs.declared.place.Part.{Part}
use Rattle.sh_drafts.specs.declared.place.Part.TheVariants.{Before, Zero, Nonzero, Head, Entered, ReturnZero, ReturnNonzero}
use Rattle.sh_drafts.specs.Gathered.{Gathered, all_gathered, bounded, gathered, is_at}
use Rattle.sh_drafts.specs.Numbers.{by_name, by_number}
use Rattle.sh_drafts.specs.Places.{at, place_of, claim_there, is_stated_part}
use Rattle.sh_drafts.specs.Stated.{asked_bounds, is_asked, is_free}
use Rattle.sh_sweeps.specs.Asked.{gathered_of, IsNew}
use Rattle.sh_drafts.specs.Turns.{AreNumbers, IsQuiet, Stands, StatedStays, sheet_by, IsSunk, IsTurn}
use Rattle.sh_drafts.specs.Working.{Sets, dropped, IsWorking, IsLowered, IsCounted, height}
use Rattle.sh_drafts.proofs.AboveLemmas.{lowered_above, counted_above}
use Rattle.sh_drafts.proofs.GatherLemmas.{all_kept, numbered_only, stands_all}
use Rattle.sh_drafts.proofs.ReadyLemmas.{lowered_stays}
use Rattle.sh_drafts.proofs.HeightLemmas.{lowered_less, counted_less}
use Rattle.sh_drafts.proofs.KeptLemmas.{place_same}
use Rattle.sh_sweeps.proofs.StatedLemmas.{all_pass, not_true}

kept_of : (g : Gather) → (gathered_of g).kept ≡ g.kept
unfolding gathered_of
kept_of g = refl

-- What is gathered from nothing

module _ (target : Target) (g : Gather) (new : IsNew target g) where
  pub new_numbers : (names : ℕ) → AreNumbers names (gathered_of g)
  unfolding gathered_of IsNamed
  new_numbers names = record {
    known = subst (IsNamed names) (sym new.known) tt;
    sets = record { vars = λ k e. absurd (true≢false (sym e ∙ new.vars k)); functions = λ k e. absurd (true≢false (sym e ∙ new.functions k)) };
  }

  none_at : (v : ℕ → Bool) → ((k : ℕ) → v k ≡ false) → (o : Option ℕ) → at_number v o ≡ false
  unfolding at_number
  none_at v h None = refl
  none_at v h (Some k) = h k

  pub new_stands : (names : List Text) (d : Sheet) → Stands names d (gathered_of g)
  unfolding gathered_of by_name
  new_stands names d = record {
    place = subst (IsWithin (facts (claim_there d (Some g.target.place)))) (sym (ap (by_name names) new.known)) (within_nowhere _);
    vars = λ x e. absurd (true≢false (sym e ∙ none_at (numbers_of g.vars) new.vars (number_of names x)));
    functions = λ x e. absurd (true≢false (sym e ∙ none_at (numbers_of g.functions) new.functions (number_of names x)));
  }

  module _ (names defined : List Text) (start : Facts) (c : Sheet) (ks : List Constraint) (after : Gather)
      (is : gathered_of after ≡ all_gathered names defined start (certificate_of defined c) (gathered_of g) ks) where
    pub asked_numbers : AreNumbers (length names) (gathered_of after)
    asked_numbers = subst (AreNumbers (length names)) (sym is) (numbered_only names defined start (certificate_of defined c) ks (gathered_of g) (new_numbers (length names)))

    pub asked_rules : after.kept ≡ true → flat_map (broken start (certificate_of defined c)) ks ≡ []
    asked_rules e = (all_kept names defined start (certificate_of defined c) ks (gathered_of g) (sym (ap (λ (x : Gathered). x.kept) is) ∙ kept_is ∙ e)).1
      where
        kept_is : (gathered_of after).kept ≡ after.kept
        kept_is = kept_of after

    pub asked_stands : (d : Sheet) → ((o : Option Place) → claim_fits names (claim_there d o) ≡ true) → flat_map (broken start (certificate_of defined d)) ks ≡ []
        → IsBelow (certificate_of defined d) (certificate_of defined c) → Stands names d (gathered_of after)
    asked_stands d fit none below =
        subst (Stands names d) (sym is) (stands_all names defined start (certificate_of defined c) d below fit ks (gathered_of g) none (new_stands names d))

-- Claims that are stated

-- what functions drop stays where nothing more is to be dropped
counted_stays : (old new : kept.Certificate) (i : ℕ) (sets : Sets) (changed : Bool) → IsCounted old new i sets changed → ((k : ℕ) → sets.vars k ≡ false) → ((k : ℕ) → sets.functions k ≡ false) → StatedStays old new
counted_stays old new i sets false c vars functions = record { claims = λ q e. c.claims q; drops = λ j. ap (λ x. dropped x j) (c.stays refl) }
counted_stays old new i sets true c vars functions = absurd (never (dropped old i) refl (c.there refl))
  where
    never : (o : Option Sets) → dropped old i ≡ o → is_some o ≡ true → ⊥
    never None is there = true≢false (sym there)
    never (Some s) is there = c.fails refl s is (record { vars = λ k e. absurd (true≢false (sym e ∙ vars k)); functions = λ k e. absurd (true≢false (sym e ∙ functions k)) })

-- nothing is gathered of them if nothing is required of them
of_function : (part : Part) {b : Bool} → is_stated_part part ≡ b → (p : Place) (o : Option ℕ) → is_at (option_map (at part) o) p ≡ true → is_stated_part p.part ≡ b
unfolding is_at
of_function part is p None e = absurd (true≢false (sym e))
of_function part is p (Some i) e = ap (λ (r : Place). is_stated_part r.part) (sym (place_same (at part i) p e)) ∙ is

module _ (names functions : List Text) where
  pub stated_place : (slot : Slot) (p : Place) → is_at (place_of functions slot) p ≡ true → is_stated_part p.part ≡ is_stated slot
  unfolding place_of is_at is_stated is_stated_part
  stated_place (views.Before n) p e = ap (λ (r : Place). is_stated_part r.part) (sym (place_same (at Before (n - 1)) p e))
  stated_place (views.AfterZero n) p e = ap (λ (r : Place). is_stated_part r.part) (sym (place_same (at Zero (n - 1)) p e))
  stated_place (views.AfterNonzero n) p e = ap (λ (r : Place). is_stated_part r.part) (sym (place_same (at Nonzero (n - 1)) p e))
  stated_place (views.Head n) p e = ap (λ (r : Place). is_stated_part r.part) (sym (place_same (at Head (n - 1)) p e))
  stated_place (views.Entry f) p e = of_function Entered refl p (number_of functions f) e
  stated_place (views.ReturnsZero f) p e = of_function ReturnZero refl p (number_of functions f) e
  stated_place (views.ReturnsNonzero f) p e = of_function ReturnNonzero refl p (number_of functions f) e

  pub met_quiet : (slot : Slot) (p : Place) (k f : number.Facts) → is_stated slot ≡ false → (is_stated_part p.part ≡ true → f ≡ number.NotReached)
      → is_stated_part p.part ≡ true → (if is_at (place_of functions slot) p then number.meet f k else f) ≡ number.NotReached
  met_quiet slot p k f free quiet e = by (is_at (place_of functions slot) p) refl
    where
      by : (b : Bool) → is_at (place_of functions slot) p ≡ b → (if b then number.meet f k else f) ≡ number.NotReached
      by true here = absurd (true≢false (sym e ∙ stated_place slot p here ∙ free))
      by false away = quiet e

  pub bounded_quiet : (slot : Slot) (c : Claim) (k : Facts) (g : Gathered) → is_stated slot ≡ false → IsQuiet g → IsQuiet (bounded names functions slot c k g)
  unfolding bounded
  bounded_quiet slot c k g free q = record { known = met_quiet slot g.place (by_number names k) g.known free q.known; vars = q.vars; functions = q.functions }

  module _ (d : Facts) (c : Certificate) where
    all_quiet : (ks : List Constraint) (g : Gathered) → Each (λ k. is_asked true k ≡ true) ks → IsQuiet g → IsQuiet (all_gathered names functions d c g ks)
    unfolding Each is_asked is_free gathered
    all_quiet [] g h q = q
    all_quiet (Within slot n rule v ∷ ks) g h q =
        all_quiet ks (gathered names functions d c g (Within slot n rule v)) h.1 (bounded_quiet slot (c.claim slot) (view_facts d c v) g (not_true (is_stated slot) h.0) q)
    all_quiet (Counted f n loss ∷ ks) g h q = absurd (true≢false (sym h.0))

module _ (target : Target) (g : Gather) (new : IsNew target g) where
  pub new_quiet : IsQuiet (gathered_of g)
  unfolding gathered_of
  new_quiet = record { known = λ e. new.known; vars = new.vars; functions = new.functions }

  pub asked_quiet : (names defined : List Text) (start : Facts) (c : Sheet) (ks : List Constraint) (after : Gather)
      → gathered_of after ≡ all_gathered names defined start (certificate_of defined c) (gathered_of g) (asked_bounds true ks) → IsQuiet (gathered_of after)
  asked_quiet names defined start c ks after is =
      subst IsQuiet (sym is) (all_quiet names defined start (certificate_of defined c) (asked_bounds true ks) (gathered_of g) (all_pass (is_asked true) ks) new_quiet)

-- A certificate that is lowered twice

module _ (names : List Text) (loops : List Bool) (m : ℕ) (old mid new : kept.Certificate) (g : Gathered) (x y : Bool) (before : IsWorking names loops m old) (between : IsWorking names loops m mid)
    (after : IsWorking names loops m new) (first : IsLowered old mid g.place g.known x) (second : IsCounted mid new g.function g.sets y) (numbers : AreNumbers (length names) g) where
  abbrev tall : kept.Certificate → ℕ
  tall c = height (length names) (length loops) m c

  first_less : x ≡ true → tall mid < tall old
  first_less e = lowered_less names loops m old mid g.place g.known before between (subst (IsLowered old mid g.place g.known) e first)

  second_less : y ≡ true → tall new < tall mid
  second_less e = counted_less names loops m mid new g.function g.sets between numbers.sets (subst (IsCounted mid new g.function g.sets) e second)

  either : (a b : Bool) → (a || b) ≡ false → (a ≡ false) × (b ≡ false)
  either true b e = absurd (true≢false e)
  either false b e = (refl, e)

  less_by : (a b : Bool) → x ≡ a → y ≡ b → (a || b) ≡ true → tall new < tall old
  less_by true true e f h = let p = first_less e in let q = second_less f in omega (arith, p, q)
  less_by true false e f h = subst (λ c. tall c < tall old) (sym (second.stays f)) (first_less e)
  less_by false true e f h = subst (λ c. tall new < tall c) (first.stays e) (second_less f)
  less_by false false e f h = absurd (true≢false (sym h))

  pub sunk_both : IsSunk names loops m old new g (x || y)
  sunk_both = record {
    stays = λ e. let both = either x y e in second.stays both.1 ∙ first.stays both.0;
    working = after;
    stated = λ q.
        let one = lowered_stays old mid g.place g.known x first q.known in
        let two = counted_stays mid new g.function g.sets y second q.vars q.functions in
        record { claims = λ p e. two.claims p e ∙ one.claims p e; drops = λ i. two.drops i ∙ one.drops i };
    less = λ e. less_by x y refl refl e;
    above = λ h defined d s below. by_second h defined d s (by_first h defined d s below);
  }
    where
      by_first : AreNumbered names → (defined : List Text) (d : Sheet) → Stands names d g → IsBelow (certificate_of defined d) (certificate_of defined (sheet_by names old))
          → IsBelow (certificate_of defined d) (certificate_of defined (sheet_by names mid))
      by_first h defined d s below = elim (cases_Bool x) [
        | inl e ↦ lowered_above names h defined loops m old mid before between d below g.place g.known (subst (IsLowered old mid g.place g.known) e first) (λ slot placed. s.place)
        | inr e ↦ subst (λ c. IsBelow (certificate_of defined d) (certificate_of defined (sheet_by names c))) (sym (first.stays e)) below
      ]

      by_second : AreNumbered names → (defined : List Text) (d : Sheet) → Stands names d g → IsBelow (certificate_of defined d) (certificate_of defined (sheet_by names mid))
          → IsBelow (certificate_of defined d) (certificate_of defined (sheet_by names new))
      by_second h defined d s below = elim (cases_Bool y) [
        | inl e ↦ counted_above names h defined loops m mid new between after d below g.function g.sets (subst (IsCounted mid new g.function g.sets) e second) s.vars s.functions
        | inr e ↦ subst (λ c. IsBelow (certificate_of defined d) (certificate_of defined (sheet_by names c))) (sym (second.stays e)) below
      ]

pub sunk_then : (names : List Text) (loops : List Bool) (m : ℕ) (old new : kept.Certificate) (g : Gathered) (x y : Bool) → x ≡ true → IsSunk names loops m old new g (x || y) → IsSunk names loops m old new g x
sunk_then names loops m old new g true y e s = s
sunk_then names loops m old new g false y e s = absurd (true≢false (sym e))

pub sunk_else : (names : List Text) (loops : List Bool) (m : ℕ) (old new : kept.Certificate) (g : Gathered) (x y : Bool) → x ≡ false → IsSunk names loops m old new g (x || y) → IsSunk names loops m old new g y
sunk_else names loops m old new g true y e s = absurd (true≢false e)
sunk_else names loops m old new g false y e s = s

-- Turns

module _ (names : List Text) (loops : List Bool) (m : ℕ) (start : Facts) (defined : List Text) (stated : Bool) (ks : List Constraint) where
  pub sunk_turn : AreNumbered names → (old new : kept.Certificate) (g : Gathered)
      → ((d : Sheet) → ((o : Option Place) → claim_fits names (claim_there d o) ≡ true) → flat_map (broken start (certificate_of defined d)) ks ≡ []
      → IsBelow (certificate_of defined d) (certificate_of defined (sheet_by names old)) → Stands names d g)
      → (stated ≡ true → IsQuiet g) → (changed : Bool) → (changed ≡ false → ⊥) → IsSunk names loops m old new g changed → IsTurn names loops m start defined stated ks old new false
  sunk_turn h old new g stands quiet false none sunk = absurd (none refl)
  sunk_turn h old new g stands quiet true none sunk = record {
    working = sunk.working;
    stays = λ e. sunk.stated (quiet e);
    rules = λ e. absurd (true≢false (sym e));
    less = λ e. sunk.less refl;
    above = λ d fit kept below. sunk.above h defined d (stands d fit kept below) below;
  }
