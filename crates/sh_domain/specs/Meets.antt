-- What is seen at several places, as one fact: the meet of what each view claims.
-- The standard has no such thing: if a command may be entered from several places, only what is
-- known at each of them is known.
use Rattle.std.specs.Prelude.{◌≡◌, ◌↔◌, Bool, true, false, ◌++◌}
use Rattle.sh_domain.specs.Facts.{Facts, meet}
use Rattle.sh_domain.specs.Inclusions.{Each}
use Rattle.sh_domain.specs.Order.{IsWithin, seen_facts}
use Rattle.sh_domain.specs.Views.{Certificate, Step, Call, step, Seen, stepped, view_facts}

unfoldable pub is_call : Step → Bool
is_call (Call function return prefixes) = true
is_call x = false

-- A fact is within what is seen exactly if it is within each view. Lists that are joined meet. A
-- step, unless it is a call, may be taken after the meet.
-- (A call may not: if the function is surely defined at one place only, what it leaves set counts
-- from there.)
pub record SeenIsMeet : Type 0 where
  pub each : (start : Facts) (c : Certificate) (f : Facts) (s : Seen) → IsWithin f (seen_facts start c s) ↔ Each (λ v. IsWithin f (view_facts start c v)) s
  pub joined : (start : Facts) (c : Certificate) (s t : Seen) → seen_facts start c (s ++ t) ≡ meet (seen_facts start c s) (seen_facts start c t)
  pub behind : (start : Facts) (c : Certificate) (x : Step) (s : Seen) → is_call x ≡ false → seen_facts start c (stepped x s) ≡ step c x (seen_facts start c s)
