-- The walk over facts keeps what is kept of the commands as they are entered, if what is known
-- there represents what is seen.
use Rattle.std.proofs.Common.{◌≡◌, List, [], ◌++◌, map, fold, refl, sym, ap, ap₂, ◌∙◌}
use Rattle.std.proofs.lemmas.List.{map-append}
use Rattle.std.proofs.lemmas.List.Sums.{fold-append}
use Rattle.sh_tree.specs.declared.tree.ClauseEnd.{ClauseEnd}
use Rattle.sh_tree.specs.declared.tree.LoopKind.{LoopKind}
use Rattle.sh_tree.specs.standard.program.Syntax as p
use Rattle.sh_domain.specs.declared.rule.FlowRule.TheVariants.{F1}
use Rattle.sh_domain.specs.Entries as e
use Rattle.sh_domain.specs.Entries.{Entered}
use Rattle.sh_domain.specs.Facts.{Facts, NotReached, meet}
use Rattle.sh_domain.specs.Gains.{Gains, and_gains}
use Rattle.sh_domain.specs.Views.{Slot, Seen, After, Both, Each, if_zero, if_nonzero, at, gaining}
use Rattle.sh_domain.specs.Views as views
use Rattle.sh_rules.specs.Settings.{Setting, known_at, gained, without_job}
use Rattle.sh_rules.specs.Behind.{Behind, both, either, in_any_case, turns, falls, items_behind}
use Rattle.sh_rules.specs.Walked.{Met, script_walked}
use Rattle.sh_rules.specs.Meaning.{met_at}
use Rattle.sh_rules.proofs.GainLemmas.{both_gained}
use Rattle.sh_rules.proofs.LedLemmas.{Follows, Stands, Leads, both_stand, any_led, turns_led, falls_led, items_stand, items_led}

pub record Interprets (x : Setting) (knows : Seen → Facts) : Type 0 where
  pub slot : (s : Slot) → knows (at s) ≡ known_at x s
  pub gain : (g : Gains) (s : Seen) → knows (gaining g s) ≡ gained x g (knows s)
  pub job : (s : Seen) → knows (views.without_job s) ≡ without_job x (knows s)
  pub joined : (s t : Seen) → knows (s ++ t) ≡ meet (knows s) (knows t)
  pub nothing : knows [] ≡ NotReached
  pub twice : (s : Seen) → meet (knows s) (knows s) ≡ knows s

module _ (x : Setting) (knows : Seen → Facts) (i : Interprets x knows) where
  -- what is known is what represents what is seen
  abbrev Exact : Seen → Facts → Type 0
  Exact s k = k ≡ knows s

  gains_same : (g h : Gains) (s : Seen) → knows (gaining h (gaining g s)) ≡ knows (gaining (and_gains g h) s)
  gains_same g h s = i.gain h (gaining g s) ∙ ap (gained x h) (i.gain g s) ∙ sym (both_gained x g h (knows s)) ∙ sym (i.gain (and_gains g h) s)

  exact : Follows x Exact
  exact = record {
    slot = λ s. sym (i.slot s);
    gain = λ g s k h. ap (gained x g) h ∙ sym (i.gain g s);
    gains = λ g h s k e. e ∙ gains_same g h s;
    job = λ s k h. ap (without_job x) h ∙ sym (i.job s);
    joined = λ s t k l h j. ap₂ meet h j ∙ sym (i.joined s t);
    twice = λ s k l h j. ap₂ meet h j ∙ i.twice s;
    nothing = sym i.nothing;
  }

  -- After lists

  unfoldable pub behind_of : After → Behind
  behind_of (Both s) = both (knows s)
  behind_of (Each z n) = either (knows z) (knows n)

  pub zero_same : (o : After) → (behind_of o).zero ≡ knows (if_zero o)
  unfolding behind_of if_zero
  zero_same (Both s) = refl
  zero_same (Each z n) = refl

  pub nonzero_same : (o : After) → (behind_of o).nonzero ≡ knows (if_nonzero o)
  unfolding behind_of if_nonzero
  nonzero_same (Both s) = refl
  nonzero_same (Each z n) = refl

  stands : (o : After) → Stands Exact o (behind_of o)
  stands o = record { zero = zero_same o; nonzero = nonzero_same o }

  only : (o : After) (b : Behind) → Stands Exact o b → b ≡ behind_of o
  unfolding behind_of if_zero if_nonzero
  only (Both s) b h = ap₂ either h.zero h.nonzero
  only (Each z n) b h = ap₂ either h.zero h.nonzero

  pub any_same : (o : After) → in_any_case (behind_of o) ≡ knows (views.in_any_case o)
  any_same o = any_led x Exact exact o (behind_of o) (stands o)

  pub items_same : (o : After) (t : p.Items) → items_behind x (behind_of o) t ≡ behind_of (e.items_after o t)
  items_same o t = only (e.items_after o t) _ (items_stand x Exact exact o (behind_of o) (stands o) t)

  pub turns_same : (k : LoopKind) (o : After) → turns k (behind_of o) ≡ knows (e.turns k o)
  turns_same k o = turns_led x Exact exact k o (behind_of o) (stands o)

  pub falls_same : (end : ClauseEnd) (o : After) → falls end (behind_of o) ≡ knows (e.falls end o)
  falls_same end o = falls_led x Exact exact end o (behind_of o) (stands o)

  -- The walk

  module _ {K : Type 0} (w : K → Met → K) where
    abbrev met_there : Entered → Met
    met_there y = met_at y (knows y.seen)

    abbrev kept : K → List Entered → K
    kept s es = fold w s (map met_there es)

    more : (s : K) (es fs : List Entered) → kept (kept s es) fs ≡ kept s (es ++ fs)
    more s es fs = sym (ap (fold w s) (map-append met_there es fs) ∙ fold-append w s (map met_there es) (map met_there fs))

    folds : Leads Exact w (λ es s t. t ≡ kept s es)
    folds = record {
      none = λ s. refl;
      one = λ y k s h. ap (λ f. w s (met_at y f)) h;
      more = λ es fs s t u h j. j ∙ ap (λ k. kept k fs) h ∙ more s es fs;
    }

    pub script_same : (f : Facts) (s : K) (t : p.Items) → f ≡ knows views.at_start → script_walked x w f s t ≡ kept s (e.script_entered t)
    unfolding e.script_entered
    script_same f s t h = (items_led x Exact exact w (λ es s t. t ≡ kept s es) folds F1 e.alone (Both views.at_start) (both f) (both_stand x Exact exact views.at_start f h) s t).kept
