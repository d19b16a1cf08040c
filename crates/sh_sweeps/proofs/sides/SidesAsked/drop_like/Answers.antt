use Rattle.sh_rules.specs.Walks.{setting}
use Rattle.sh_sweeps.specs.Sides.{sided_of}
use Rattle.sh_sweeps.proofs.SideLemmas.{side_counted}
use Rattle.sh_sweeps.proofs.sides.SidesAsked.drop_like.Goals as goal

pub returns : goal.returns
unfolding sided_of
returns c =
    let x = setting c.args.claims.now in
    side_counted x.names x.functions _ _ _ _ _ _ _ c.drop_like.ensures
