-- A certificate that is lowered stays above each one that keeps the rules.
use Rattle.std.proofs.Common.{◌≡◌, ℕ, ◌≤◌, Bool, true, false, Option, List, [], length, refl, sym, subst, arith, Some, None, is_some, ap, ◌∙◌, true≢false}
use Rattle.sh_tree.specs.declared.tree.Script.{Script}
use Rattle.sh_tree.specs.standard.program.Syntax.{Text}
use Rattle.sh_domain.specs.declared.certificate.Certificate as kept
use Rattle.sh_domain.specs.Facts.{Declared, Facts, facts}
use Rattle.sh_domain.specs.Knowledge.{AreNumbered}
use Rattle.sh_domain.specs.Order.{IsBelow, IsWithin}
use Rattle.sh_domain.specs.Reading.{claim_fits}
use Rattle.sh_domain.specs.Sheets.{Sheet}
use Rattle.sh_domain.proofs.KnownNameLemmas.{names_suffice}
use Rattle.sh_domain.specs.Admitted.{IsAdmitted, claims_in, functions_in}
use Rattle.sh_drafts.specs.declared.place.Place.{Place}
use Rattle.sh_drafts.specs.Places.{claim_there, same, place_of, is_stated_part}
use Rattle.sh_drafts.specs.Turns.{sheet_by, StatedStays}
use Rattle.sh_drafts.specs.Working.{IsWorking, height, claims, IsLowered}
use Rattle.sh_domain.specs.Views.{Slot}
use Rattle.sh_drafts.specs.Kept.{IsNamed}
use Rattle.sh_drafts.specs.Facts as number
use Rattle.sh_drafts.specs.Numbers.{by_name, by_number}
use Rattle.sh_drafts.specs.Used.{IsSame}
use Rattle.sh_drafts.proofs.AboveLemmas.{lowered_above, same_above}
use Rattle.sh_drafts.proofs.HeightLemmas.{lowered_less, same_height}
use Rattle.sh_drafts.proofs.KeptLemmas.{place_same}
use Rattle.sh_drafts.specs.declared.subject.Subject.{Subject}
use Rattle.sh_drafts.specs.Ready.{Keeps, IsReady, IsSwept}
use Rattle.sh_drafts.proofs.GatherLemmas.{number_named, within_among}
use Rattle.sh_drafts.proofs.NumberLemmas.{back}

-- the names of a script that is admitted are numbered
pub numbered : (b : List ℕ) (d : Declared) (t : Script) (names : List Text) → IsAdmitted b d t names → AreNumbered names
numbered b d t names a = names_suffice.numbered b t d names a.numbered.0 a.numbered.1

-- claims that are stated stay if no other claim is lowered
pub lowered_stays : (old new : kept.Certificate) (p : Place) (known : number.Facts) (changed : Bool) → IsLowered old new p known changed → (is_stated_part p.part ≡ true → known ≡ number.NotReached) → StatedStays old new
unfolding number.claims
lowered_stays old new p known false l quiet = record { claims = λ q e. ap (λ c. claims c q) (l.stays refl); drops = λ i. l.drops i }
lowered_stays old new p known true l quiet = record { claims = λ q e. by q e (same q p) refl; drops = λ i. l.drops i }
  where
    all : (f : number.Facts) → number.IsWithin f number.NotReached
    all f = record { claimed = λ x e. refl }

    never : known ≡ number.NotReached → (o : Option number.Facts) → claims old p ≡ o → is_some o ≡ true → ⊥
    never nothing None is there = true≢false (sym there)
    never nothing (Some f) is there = l.fails refl f is (subst (number.IsWithin f) (sym nothing) (all f))

    by : (q : Place) → is_stated_part q.part ≡ true → (b : Bool) → same q p ≡ b → claims new q ≡ claims old q
    by q e false away = l.elsewhere q away
    by q e true here = absurd (never (quiet (subst (λ (r : Place). is_stated_part r.part ≡ true) (place_same q p here) e)) (claims old p) refl (l.there refl))

module _ (s : Subject) where
  -- One after the other

  as_high : (n : ℕ) → n ≤ n
  as_high n = omega arith

  pub stays_none : (c : kept.Certificate) → StatedStays c c
  stays_none c = record { claims = λ p e. refl; drops = λ i. refl }

  pub stays_more : (old mid new : kept.Certificate) → StatedStays old mid → StatedStays mid new → StatedStays old new
  stays_more old mid new a z = record { claims = λ p e. z.claims p e ∙ a.claims p e; drops = λ i. z.drops i ∙ a.drops i }

  pub swept_none : (c : kept.Certificate) (n : ℕ) → IsReady s c n → IsSwept s c c n
  swept_none c n r = record { working = λ loops m w. w; no_more = λ loops m w. as_high _; over = r.over; stays = λ e. stays_none c; probe = r.probe }

  pub swept_more : (old mid new : kept.Certificate) (n k : ℕ) → IsSwept s old mid n → IsSwept s mid new k → IsSwept s old new k
  swept_more old mid new n k a z = record {
    working = λ loops m w. z.working loops m (a.working loops m w);
    no_more = λ loops m w. let x = a.no_more loops m w in let y = z.no_more loops m (a.working loops m w) in omega (arith, x, y);
    over = z.over;
    stays = λ e. stays_more old mid new (a.stays e) (z.stays e);
    probe = z.probe;
  }

  -- of a certificate that is the same afterwards
  pub swept_same : (old new later : kept.Certificate) (n m : ℕ) → IsSwept s old new n → later ≡ new → m ≡ n → IsSwept s old later m
  swept_same old new later n m w same count = subst (IsSwept s old later) (sym count) (subst (λ d. IsSwept s old d n) (sym same) w)

  pub ready_again : (old new : kept.Certificate) (n k : ℕ) → IsReady s old n → IsSwept s old new k → IsReady s new k
  ready_again old new n k r w = record {
    admitted = r.admitted;
    loops = r.loops;
    functions = r.functions;
    working = w.working r.loops r.functions r.working;
    over = w.over;
    probe = w.probe;
    commands = r.commands;
  }

  pub names_numbered : (c : kept.Certificate) (n : ℕ) → IsReady s c n → AreNumbered s.names.now
  names_numbered c n r = numbered s.script.now s.policy.now s.tree.now s.names.now r.admitted

-- a place that is lowered to what is known there
pub lowered_swept : (s : Subject) (old new : kept.Certificate) (p : Place) (known : number.Facts) (changed : Bool) (n k : ℕ) → IsReady s old n
    → ((loops : List Bool) (m : ℕ) → IsWorking s.names.now loops m old → IsLowered old new p known changed)
    → ((loops : List Bool) (m : ℕ) → IsWorking s.names.now loops m old → IsWorking s.names.now loops m new)
    → ((other : Sheet) → Keeps s other → (slot : Slot) → place_of (functions_in s.script.now s.tree.now) slot ≡ Some p → IsWithin (facts (claim_there other (Some p))) (by_name s.names.now known)) → (s.stated ≡ true → is_stated_part p.part ≡ false) → k ≡ length s.names.now → IsSwept s old new k
lowered_swept s old new p known changed n k r low works stand free probe =
    record {
      working = works;
      no_more = λ loops m w. lower loops m w (low loops m w) changed refl;
      over = λ other keeps. above other keeps changed refl;
      stays = λ e. lowered_stays old new p known changed (low r.loops r.functions r.working) (λ s. absurd (true≢false (sym s ∙ free e)));
      probe = probe;
    }
  where
    same : (h : ℕ) → h ≤ h
    same h = omega arith

    lower : (loops : List Bool) (m : ℕ) → IsWorking s.names.now loops m old → IsLowered old new p known changed → (x : Bool) → changed ≡ x
        → height (length s.names.now) (length loops) m new ≤ height (length s.names.now) (length loops) m old
    lower loops m w i true e = let l = lowered_less s.names.now loops m old new p known w (works loops m w) (subst (IsLowered old new p known) e i) in omega (arith, l)
    lower loops m w i false e = subst (λ c. height (length s.names.now) (length loops) m new ≤ height (length s.names.now) (length loops) m c) (i.stays e) (same _)

    above : (other : Sheet) → Keeps s other → (x : Bool) → changed ≡ x → IsBelow (claims_in s.script.now s.tree.now other) (claims_in s.script.now s.tree.now (sheet_by s.names.now new))
    above other keeps true e =
        lowered_above s.names.now (names_numbered s old n r) (functions_in s.script.now s.tree.now) r.loops r.functions old new r.working (works r.loops r.functions r.working) other (r.over other keeps) p known
        (subst (IsLowered old new p known) e (low r.loops r.functions r.working)) (stand other keeps)
    above other keeps false e =
        subst (λ c. IsBelow (claims_in s.script.now s.tree.now other) (claims_in s.script.now s.tree.now (sheet_by s.names.now c))) (sym ((low r.loops r.functions r.working).stays e)) (r.over other keeps)

-- a certificate that claims the same
pub moved_swept : (s : Subject) (old new : kept.Certificate) (n k : ℕ) → IsReady s old n → IsSame old new → k ≡ n → IsSwept s old new k
moved_swept s old new n k r same probe =
    record {
      working = same.working s.names.now;
      no_more = λ loops m w. same_height (length s.names.now) old new same.claims same.drops (length loops) m;
      over = λ other keeps.
          same_above s.names.now (names_numbered s old n r) (functions_in s.script.now s.tree.now) r.loops r.functions old new r.working (same.working s.names.now r.loops r.functions r.working) other (r.over other keeps)
          same.claims same.drops;
      stays = λ e. record { claims = λ p f. same.claims p; drops = same.drops };
      probe = probe ∙ r.probe;
    }

-- By numbers

pub named_at : (d : Facts) (names : List Text) (f : Facts) (g : number.Facts) → g ≡ by_number names f → IsNamed (length names) g
named_at d names f g is = subst (IsNamed (length names)) (sym is) (number_named names [] d f)

pub within_place : (names : List Text) (other : Sheet) (p q : Place) (f : Facts) (g : number.Facts) → claim_fits names (claim_there other (Some p)) ≡ true → q ≡ p → g ≡ by_number names f
    → IsWithin (facts (claim_there other (Some q))) f → IsWithin (facts (claim_there other (Some p))) (by_name names g)
within_place names other p q f g fit same is w =
    subst (λ h. IsWithin (facts (claim_there other (Some p))) h) (sym (ap (by_name names) is ∙ back names f))
    (within_among names (claim_there other (Some p)) f fit (subst (λ r. IsWithin (facts (claim_there other (Some r))) f) same w))
