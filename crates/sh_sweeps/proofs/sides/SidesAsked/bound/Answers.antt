use Rattle.sh_rules.specs.Walks.{facts_in, setting}
use Rattle.sh_sweeps.specs.Sides.{sided_of}
use Rattle.sh_sweeps.specs.Asked.{gathered_of}
use Rattle.sh_sweeps.proofs.SideLemmas.{side_here, side_away}
use Rattle.sh_sweeps.proofs.sides.SidesAsked.bound.Goals as goal

pub returns-then-is_place : goal.returns-then-is_place
unfolding facts_in setting sided_of gathered_of
returns-then-is_place c =
    let x = setting c.args.claims.now in
    side_here x.names x.functions _ _ _ _ _ _ _ _ _ c.bound_at.ensures c.spot_of-spot.ensures c.is_place.ensures _ c.if-is_place.true c.meet_known.ensures

pub returns-else-is_place : goal.returns-else-is_place
unfolding facts_in setting sided_of gathered_of
returns-else-is_place c =
    let x = setting c.args.claims.now in
    side_away x.names x.functions _ _ _ _ _ _ _ _ _ c.bound_at.ensures c.spot_of-spot.ensures c.is_place.ensures c.if-is_place.false
