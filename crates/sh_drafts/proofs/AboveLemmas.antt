-- A certificate that is lowered stays above those that keep the rules.
use Rattle.std.proofs.Common.{◌≡◌, ℕ, eqb, Bool, true, false, ◌||◌, Option, Some, None, option_map, List, refl, sym, ap, ◌∙◌, subst, inl, inr, ◌⊎◌, true≢false}
use Rattle.std.proofs.lemmas.Bool.{cases_Bool, or_cases, eqb-true}
use Rattle.sh_tree.specs.standard.program.Syntax.{Text}
use Rattle.sh_runs.specs.standard.runs.Environment.{is_one_of}
use Rattle.sh_domain.specs.declared.certificate.Certificate as kept
use Rattle.sh_domain.specs.Facts.{Facts, NotReached, facts}
use Rattle.sh_domain.specs.Knowledge.{AreNumbered, at_number}
use Rattle.sh_domain.specs.Names.{number_of}
use Rattle.sh_domain.specs.Order.{IsWithin, IsBelow, AreAmong}
use Rattle.sh_domain.specs.Sheets.{Sheet, certificate_of, claim_at, function_at}
use Rattle.sh_domain.specs.Views.{Slot}
use Rattle.sh_domain.proofs.OrderLemmas.{within_nowhere, meet_greatest}
use Rattle.sh_drafts.specs.Facts as number
use Rattle.sh_drafts.specs.declared.place.Place.{Place}
use Rattle.sh_drafts.specs.First.{ClaimsAll, DropsNothing}
use Rattle.sh_drafts.specs.Numbers.{by_name, named, is_dropped}
use Rattle.sh_drafts.specs.Places.{same, place_of, claim_there, drops_there}
use Rattle.sh_drafts.specs.Working.{Sets, joined, claims, dropped, IsWorking, IsLowered, IsCounted}
use Rattle.sh_drafts.proofs.KeptLemmas.{place_same}
use Rattle.sh_drafts.proofs.NumberLemmas.{meet_named}
use Rattle.sh_drafts.proofs.SheetLemmas.{placed, drops_placed, sheet, claimed, drops_vars, drops_functions}

module _ (names : List Text) (h : AreNumbered names) (functions : List Text) (loops : List Bool) (m : ℕ) where
  -- below at each place is below
  from_places : (d e : Sheet) → ((o : Option Place) → IsWithin (facts (claim_there d o)) (facts (claim_there e o)))
      → ((o : Option ℕ) → AreAmong (drops_there e o) (drops_there d o)) → IsBelow (certificate_of functions d) (certificate_of functions e)
  from_places d e claim drop = record {
    claimed = λ slot.
        subst (λ c. IsWithin (facts c) (facts (claim_at functions e slot))) (sym (placed functions d slot))
        (subst (λ c. IsWithin (facts (claim_there d (place_of functions slot))) (facts c)) (sym (placed functions e slot)) (claim (place_of functions slot)));
    dropped = λ f.
        subst (λ a. AreAmong a (function_at functions d.functions f).drops) (sym (drops_placed functions e f))
        (subst (λ a. AreAmong (drops_there e (number_of functions f)) a) (sym (drops_placed functions d f)) (drop (number_of functions f)));
  }

  -- what is below at the places that slots and functions have
  record Below (d e : Sheet) : Type 0 where
    claim : (slot : Slot) → IsWithin (facts (claim_there d (place_of functions slot))) (facts (claim_there e (place_of functions slot)))
    drop : (f : Text) → AreAmong (drops_there e (number_of functions f)) (drops_there d (number_of functions f))

  to_places : (d e : Sheet) → IsBelow (certificate_of functions d) (certificate_of functions e) → Below d e
  to_places d e b = record {
    claim = λ slot.
        subst (λ c. IsWithin (facts c) (facts (claim_there e (place_of functions slot)))) (placed functions d slot)
        (subst (λ c. IsWithin (facts (claim_at functions d slot)) (facts c)) (placed functions e slot) (b.claimed slot));
    drop = λ f.
        subst (λ a. AreAmong a (drops_there d (number_of functions f))) (drops_placed functions e f)
        (subst (λ a. AreAmong (function_at functions e.functions f).drops a) (drops_placed functions d f) (b.dropped f));
  }

  back_from : (d e : Sheet) → Below d e → IsBelow (certificate_of functions d) (certificate_of functions e)
  back_from d e b = record {
    claimed = λ slot.
        subst (λ c. IsWithin (facts c) (facts (claim_at functions e slot))) (sym (placed functions d slot))
        (subst (λ c. IsWithin (facts (claim_there d (place_of functions slot))) (facts c)) (sym (placed functions e slot)) (b.claim slot));
    dropped = λ f.
        subst (λ a. AreAmong a (function_at functions d.functions f).drops) (sym (drops_placed functions e f))
        (subst (λ a. AreAmong (drops_there e (number_of functions f)) a) (sym (drops_placed functions d f)) (b.drop f));
  }

  -- a meet that is lowered to
  met : (o : Option number.Facts) (f : Facts) (known : number.Facts) → IsWithin f (named names o) → IsWithin f (by_name names known) → IsWithin f (named names (option_map (λ g. number.meet g known) o))
  unfolding named
  met None f known a b = a
  met (Some g) f known a b = subst (IsWithin f) (sym (meet_named names g known)) (meet_greatest (by_name names g) (by_name names known) f a b)

  module _ (old new : kept.Certificate) (before : IsWorking names loops m old) (after : IsWorking names loops m new) (d : Sheet)
      (below : IsBelow (certificate_of functions d) (certificate_of functions (sheet names h loops m old before))) where
    abbrev old_sheet : Sheet
    old_sheet = sheet names h loops m old before

    abbrev new_sheet : Sheet
    new_sheet = sheet names h loops m new after

    -- the drops are as they were
    same_drops : ((i : ℕ) → dropped new i ≡ dropped old i) → (o : Option ℕ) → AreAmong (drops_there old_sheet o) (drops_there d o) → AreAmong (drops_there new_sheet o) (drops_there d o)
    unfolding drops_there
    same_drops e None a = a
    same_drops e (Some i) a = record {
      vars = λ x t. a.vars x (drops_vars names h loops m old before i x ∙ sym (ap (λ o. is_dropped (λ s. s.vars) names o x) (e i)) ∙ sym (drops_vars names h loops m new after i x) ∙ t);
      functions = λ x t. a.functions x (drops_functions names h loops m old before i x ∙ sym (ap (λ o. is_dropped (λ s. s.functions) names o x) (e i)) ∙ sym (drops_functions names h loops m new after i x) ∙ t);
    }

    same_claim : (p : Place) → claims new p ≡ claims old p → facts (claim_there old_sheet (Some p)) ≡ facts (claim_there new_sheet (Some p))
    same_claim p e = claimed names h loops m old before p ∙ sym (ap (named names) e) ∙ sym (claimed names h loops m new after p)

    pub lowered_above : (p : Place) (known : number.Facts) → IsLowered old new p known true
        → ((slot : Slot) → place_of functions slot ≡ Some p → IsWithin (facts (claim_there d (Some p))) (by_name names known)) → IsBelow (certificate_of functions d) (certificate_of functions new_sheet)
    unfolding claim_there facts
    lowered_above p known low within =
        let b = to_places d old_sheet below in
        back_from d new_sheet (record {
          claim = λ slot. at_place (place_of functions slot) (within slot) (b.claim slot);
          drop = λ f. same_drops low.drops (number_of functions f) (b.drop f);
        })
      where
        at_place : (o : Option Place) → (o ≡ Some p → IsWithin (facts (claim_there d (Some p))) (by_name names known)) → IsWithin (facts (claim_there d o)) (facts (claim_there old_sheet o)) → IsWithin (facts (claim_there d o)) (facts (claim_there new_sheet o))
        at_place None given w = w
        at_place (Some q) given w = elim (cases_Bool (same q p)) [
          | inl s ↦ subst (λ r. IsWithin (facts (claim_there d (Some r))) (facts (claim_there old_sheet (Some r))) → IsWithin (facts (claim_there d (Some r))) (facts (claim_there new_sheet (Some r)))) (sym (place_same q p s)) (here (given (ap Some (place_same q p s)))) w
          | inr s ↦ subst (IsWithin (facts (claim_there d (Some q)))) (same_claim q (low.elsewhere q s)) w
        ]
          where
            here : IsWithin (facts (claim_there d (Some p))) (by_name names known) → IsWithin (facts (claim_there d (Some p))) (facts (claim_there old_sheet (Some p))) → IsWithin (facts (claim_there d (Some p))) (facts (claim_there new_sheet (Some p)))
            here known_there v =
                subst (IsWithin (facts (claim_there d (Some p)))) (sym (claimed names h loops m new after p ∙ ap (named names) (low.here refl)))
                (met (claims old p) (facts (claim_there d (Some p))) known (subst (IsWithin (facts (claim_there d (Some p)))) (claimed names h loops m old before p) v) known_there)

    pub same_above : ((p : Place) → claims new p ≡ claims old p) → ((i : ℕ) → dropped new i ≡ dropped old i) → IsBelow (certificate_of functions d) (certificate_of functions new_sheet)
    unfolding claim_there facts
    same_above claim drop =
        let b = to_places d old_sheet below in
        back_from d new_sheet (record { claim = λ slot. at_place (place_of functions slot) (b.claim slot); drop = λ f. same_drops drop (number_of functions f) (b.drop f) })
      where
        at_place : (o : Option Place) → IsWithin (facts (claim_there d o)) (facts (claim_there old_sheet o)) → IsWithin (facts (claim_there d o)) (facts (claim_there new_sheet o))
        at_place None w = w
        at_place (Some q) w = subst (IsWithin (facts (claim_there d (Some q)))) (same_claim q (claim q)) w

    -- what is dropped by both
    either : (part : Sets → ℕ → Bool) (both : (s z : Sets) (k : ℕ) → part (joined s z) k ≡ (part z k || part s k)) (sets : Sets) (o : Option Sets) (x : Text)
        → is_dropped part names (option_map (joined sets) o) x ≡ true → (at_number (part sets) (number_of names x) ≡ true) ⊎ (is_dropped part names o x ≡ true)
    unfolding is_dropped at_number
    either part both sets None x e = absurd (true≢false (sym e))
    either part both sets (Some s) x e = go (number_of names x) e
      where
        go : (k : Option ℕ) → at_number (part (joined sets s)) k ≡ true → (at_number (part sets) k ≡ true) ⊎ (at_number (part s) k ≡ true)
        go None e = absurd (true≢false (sym e))
        go (Some k) e = elim (or_cases (part s k) (part sets k) (sym (both sets s k) ∙ e)) [ inl a ↦ inr a | inr a ↦ inl a ]

    pub counted_above : (i : ℕ) (sets : Sets) → IsCounted old new i sets true
        → ((x : Text) → at_number sets.vars (number_of names x) ≡ true → is_one_of (drops_there d (Some i)).vars x ≡ true)
        → ((x : Text) → at_number sets.functions (number_of names x) ≡ true → is_one_of (drops_there d (Some i)).functions x ≡ true)
        → IsBelow (certificate_of functions d) (certificate_of functions new_sheet)
    unfolding claim_there facts drops_there
    counted_above i sets low vars fns =
        let b = to_places d old_sheet below in
        back_from d new_sheet (record { claim = λ slot. at_place (place_of functions slot) (b.claim slot); drop = λ f. at_index (number_of functions f) (b.drop f) })
      where
        at_place : (o : Option Place) → IsWithin (facts (claim_there d o)) (facts (claim_there old_sheet o)) → IsWithin (facts (claim_there d o)) (facts (claim_there new_sheet o))
        at_place None w = w
        at_place (Some q) w = subst (IsWithin (facts (claim_there d (Some q)))) (same_claim q (low.claims q)) w

        at_index : (o : Option ℕ) → AreAmong (drops_there old_sheet o) (drops_there d o) → AreAmong (drops_there new_sheet o) (drops_there d o)
        at_index None a = a
        at_index (Some j) a = elim (cases_Bool (eqb j i)) [
          | inl s ↦ let e : j ≡ i = eqb-true j i s in subst (λ k. AreAmong (drops_there old_sheet (Some k)) (drops_there d (Some k)) → AreAmong (drops_there new_sheet (Some k)) (drops_there d (Some k))) (sym e) here a
          | inr s ↦ record {
            vars = λ x t. a.vars x (drops_vars names h loops m old before j x ∙ sym (ap (λ o. is_dropped (λ s. s.vars) names o x) (low.elsewhere j s)) ∙ sym (drops_vars names h loops m new after j x) ∙ t);
            functions = λ x t. a.functions x (drops_functions names h loops m old before j x ∙ sym (ap (λ o. is_dropped (λ s. s.functions) names o x) (low.elsewhere j s)) ∙ sym (drops_functions names h loops m new after j x) ∙ t);
          }
        ]
          where
            here : AreAmong (drops_there old_sheet (Some i)) (drops_there d (Some i)) → AreAmong (drops_there new_sheet (Some i)) (drops_there d (Some i))
            here a = record {
              vars = λ x t.
                  elim (either (λ s. s.vars) (λ s z k. refl) sets (dropped old i) x (sym (ap (λ o. is_dropped (λ s. s.vars) names o x) (low.here refl)) ∙ sym (drops_vars names h loops m new after i x) ∙ t)) [
                    | inl y ↦ vars x y
                    | inr y ↦ a.vars x (drops_vars names h loops m old before i x ∙ y)
                  ];
              functions = λ x t.
                  elim (either (λ s. s.functions) (λ s z k. refl) sets (dropped old i) x (sym (ap (λ o. is_dropped (λ s. s.functions) names o x) (low.here refl)) ∙ sym (drops_functions names h loops m new after i x) ∙ t)) [
                    | inl y ↦ fns x y
                    | inr y ↦ a.functions x (drops_functions names h loops m old before i x ∙ y)
                  ];
            }

  -- what claims everything is above all

  pub first_above : (c : kept.Certificate) (working : IsWorking names loops m c) → ClaimsAll c → DropsNothing c → (d : Sheet)
      → IsBelow (certificate_of functions d) (certificate_of functions (sheet names h loops m c working))
  unfolding named by_name claim_there facts is_dropped at_number drops_there
  first_above c working all none d = from_places d (sheet names h loops m c working) at_place at_index
    where
      everything : (o : Option number.Facts) → ((f : number.Facts) → o ≡ Some f → f ≡ number.NotReached) → named names o ≡ NotReached
      everything None e = refl
      everything (Some f) e = ap (by_name names) (e f refl)

      at_place : (o : Option Place) → IsWithin (facts (claim_there d o)) (facts (claim_there (sheet names h loops m c working) o))
      at_place None = within_nowhere _
      at_place (Some p) = subst (IsWithin (facts (claim_there d (Some p)))) (sym (claimed names h loops m c working p ∙ everything (claims c p) (all.each p))) (within_nowhere _)

      nothing : (part : Sets → ℕ → Bool) (o : Option Sets) (x : Text) → ((s : Sets) → o ≡ Some s → (k : ℕ) → part s k ≡ false) → is_dropped part names o x ≡ false
      nothing part None x e = refl
      nothing part (Some s) x e = go (number_of names x)
        where
          go : (k : Option ℕ) → at_number (part s) k ≡ false
          go None = refl
          go (Some k) = e s refl k

      at_index : (o : Option ℕ) → AreAmong (drops_there (sheet names h loops m c working) o) (drops_there d o)
      at_index None = record { vars = λ x e. e; functions = λ x e. e }
      at_index (Some i) = record {
        vars = λ x e. absurd (true≢false (sym e ∙ drops_vars names h loops m c working i x ∙ nothing (λ s. s.vars) (dropped c i) x (none.vars i)));
        functions = λ x e. absurd (true≢false (sym e ∙ drops_functions names h loops m c working i x ∙ nothing (λ s. s.functions) (dropped c i) x (none.functions i)));
      }
