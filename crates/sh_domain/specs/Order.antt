-- The order of facts, and what a certificate that claims more makes of what the rules allow.
-- The standard has no such order: facts are compared by the single things that they claim.
use Rattle.std.specs.Prelude.{◌≡◌, ◌↔◌, ℕ, true, [], ◌∷◌}
use Rattle.sh_tree.specs.standard.program.Syntax.{Text}
use Rattle.sh_runs.specs.standard.runs.Environment.{is_one_of}
use Rattle.sh_domain.specs.Facts.{Facts, NotReached, Claim, facts, within, meet, Atom, claims}
use Rattle.sh_domain.specs.Operands.{Names}
use Rattle.sh_domain.specs.Views.{Slot, Certificate, Step, step, View, Seen, view_facts, Loss, lost}
use Rattle.sh_domain.specs.Rules.{Constraint, Within, Counted}
use Rattle.sh_domain.specs.Faults.{are_among, broken}

-- all that the first claims the second claims
pub record IsWithin (f g : Facts) : Type 0 where
  pub claimed : (x : Atom) → claims f x ≡ true → claims g x ≡ true

-- all names of the first are names of the second
pub record AreAmong (a b : Names) : Type 0 where
  pub vars : (x : Text) → is_one_of a.vars x ≡ true → is_one_of b.vars x ≡ true
  pub functions : (x : Text) → is_one_of a.functions x ≡ true → is_one_of b.functions x ≡ true

-- what all views of a list claim
unfoldable pub seen_facts : Facts → Certificate → Seen → Facts
seen_facts start c [] = NotReached
seen_facts start c (v ∷ s) = meet (view_facts start c v) (seen_facts start c s)

-- Facts are ordered: NotReached claims most, and a meet is the greatest of what is within both. The
-- tests of claims and of drops are this order.
pub record Ordered : Type 0 where
  pub itself : (f : Facts) → IsWithin f f
  pub through : (f g h : Facts) → IsWithin f g → IsWithin g h → IsWithin f h
  pub same : (f g : Facts) → IsWithin f g → IsWithin g f → f ≡ g
  pub greatest : (f : Facts) → IsWithin f NotReached
  pub meet_first : (f g : Facts) → IsWithin (meet f g) f
  pub meet_second : (f g : Facts) → IsWithin (meet f g) g
  pub meet_greatest : (f g h : Facts) → IsWithin h f → IsWithin h g → IsWithin h (meet f g)
  pub test : (c : Claim) (f : Facts) → (within c f ≡ true) ↔ IsWithin (facts c) f
  pub names_test : (a b : Names) → (are_among a b ≡ true) ↔ AreAmong a b

-- The first certificate claims no more than the second, and has each function drop no less.
pub record IsBelow (c d : Certificate) : Type 0 where
  pub claimed : (s : Slot) → IsWithin (facts (c.claim s)) (facts (d.claim s))
  pub dropped : (function : Text) → AreAmong (d.drops function) (c.drops function)

-- what the first claims, or has a function drop, fits what a constraint requires by the claims of
-- the second
unfoldable pub Fits : Facts → Certificate → Certificate → Constraint → Type 0
Fits start c d (Within slot n rule v) = IsWithin (facts (c.claim slot)) (view_facts start d v)
Fits start c d (Counted function n loss) = AreAmong (lost start d n loss) (c.drops function)

-- If more is claimed and less dropped, each step leaves more, each view and what is seen claim
-- more, and each command drops less. So a certificate without a fault that is below another fits
-- all that the other requires. If the other is lowered to what it requires, it stays above.
pub record Monotone : Type 0 where
  pub step : (c d : Certificate) (x : Step) (f g : Facts) → IsBelow c d → IsWithin f g → IsWithin (step c x f) (step d x g)
  pub view : (start : Facts) (c d : Certificate) (v : View) → IsBelow c d → IsWithin (view_facts start c v) (view_facts start d v)
  pub seen : (start : Facts) (c d : Certificate) (s : Seen) → IsBelow c d → IsWithin (seen_facts start c s) (seen_facts start d s)
  pub loss : (start : Facts) (c d : Certificate) (n : ℕ) (l : Loss) → IsBelow c d → AreAmong (lost start d n l) (lost start c n l)
  pub fits : (start : Facts) (c d : Certificate) (k : Constraint) → IsBelow c d → broken start c k ≡ [] → Fits start c d k
