use Rattle.sh_rules.specs.Walks.{facts_in, setting}
use Rattle.sh_sweeps.proofs.AskingLemmas.{bound_here, bound_away}
use Rattle.sh_sweeps.proofs.gather.Gather.bound_at.Goals as goal

pub returns-then-see_place : goal.returns-then-see_place
unfolding facts_in setting
returns-then-see_place c =
    bound_here (setting c.args.claims.now) _ _ _ _ _ _ _ _ c.facts_at-facts.ensures c.is_known-is_kept.ensures c.requires c.see_place.ensures.here c.see_place.ensures.kept _ c.if-see_place.true c.meet.ensures

pub returns-else-see_place : goal.returns-else-see_place
returns-else-see_place c =
    bound_away (setting c.args.claims.now) _ _ _ _ _ _ _ _ c.facts_at-facts.ensures c.is_known-is_kept.ensures c.requires c.see_place.ensures.here c.see_place.ensures.kept c.if-see_place.false
