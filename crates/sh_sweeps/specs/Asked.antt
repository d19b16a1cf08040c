-- What is gathered of one thing that the flow rules ask, and of what they ask of claims that are stated.
-- The standard has no such rules: what is claimed of a place has to be known there in every run.
use Rattle.std.specs.Prelude.{◌≡◌, ℕ, Bool, true, false, not, if◌then◌else◌}
use Rattle.std.proofs.Common.{refl}
use Rattle.sh_domain.specs.Filled.{is_stated}
use Rattle.sh_domain.specs.NumberSets.{numbers_of}
use Rattle.sh_rules.specs.Above.{Ask, OfPlace, OfFunction}
use Rattle.sh_rules.specs.Asking.{Asking}
use Rattle.sh_rules.specs.Settings.{certificate, claimed_at}
use Rattle.sh_sweeps.specs.declared.gather.Gather.{Gather}
use Rattle.sh_drafts.specs.declared.target.Target.{Target}
use Rattle.sh_drafts.specs.Facts as number
use Rattle.sh_drafts.specs.Gathered.{Gathered, bounded, counted}
use Rattle.sh_drafts.specs.Gathering.{drops_both, drops_nothing}
use Rattle.sh_drafts.specs.Kept.{seen_of}
use Rattle.sh_drafts.specs.Stated.{is_free}
use Rattle.sh_drafts.specs.Writable.{sets_in}

-- what is gathered, by numbers
unfoldable pub gathered_of : Gather → Gathered
gathered_of g = record {
  kept = g.kept;
  place = g.target.place;
  known = seen_of g.known;
  function = g.target.function;
  sets = sets_in g.vars g.functions;
  next_place = g.next.place;
  next_function = g.next.function;
}

-- nothing was required
pub record IsNew (target : Target) (g : Gather) : Type 0 where
  pub kept : g.kept ≡ true
  pub at : g.target ≡ target
  pub next : g.next ≡ target
  pub known : seen_of g.known ≡ number.NotReached
  pub vars : (k : ℕ) → numbers_of g.vars k ≡ false
  pub functions : (k : ℕ) → numbers_of g.functions k ≡ false

-- what is gathered of a place and of a function
abbrev pub gathering : Asking Gathered
gathering = record {
  bound = λ x slot f k g. bounded x.names x.functions slot (claimed_at x slot) k g;
  drop = λ x function f lost g. counted x.names x.functions function ((certificate x).drops function) lost g;
  drops_nothing = λ x function f g. drops_nothing x.names x.functions function ((certificate x).drops function) g;
  drops_both = λ x function f a b g. drops_both x.names x.functions function ((certificate x).drops function) a.vars b.vars a.functions b.functions g;
}

-- if claims are stated, nothing is required of them, nor of what functions drop
unfoldable pub is_asked_of : Bool → Ask → Bool
is_asked_of stated (OfPlace slot f k) = is_free stated slot
is_asked_of stated (OfFunction function f names) = not stated

abbrev pub unstated : {K : Type 0} → Asking K → Asking K
unstated a = record {
  bound = λ x slot f k g. if is_stated slot then g else a.bound x slot f k g;
  drop = λ x function f lost g. g;
  drops_nothing = λ x function f g. refl;
  drops_both = λ x function f m n g. refl;
}

unfoldable pub asking_by : {K : Type 0} → Bool → Asking K → Asking K
asking_by false a = a
asking_by true a = unstated a
