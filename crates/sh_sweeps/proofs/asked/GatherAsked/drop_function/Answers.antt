use Rattle.sh_rules.specs.Walks.{setting}
use Rattle.sh_sweeps.proofs.AskingLemmas.{drop_here, drop_away}
use Rattle.sh_sweeps.proofs.asked.GatherAsked.drop_function.Goals as goal

pub returns-then-see_function : goal.returns-then-see_function
unfolding setting
returns-then-see_function c =
    drop_here (setting c.args.claims.now) _ _ _ _ _ _ _ c.drops_function-is_kept.ensures c.index_at-index.ensures c.see_function.ensures.here c.see_function.ensures.kept _ c.if-see_function.true c.lose_function.ensures

pub returns-else-see_function : goal.returns-else-see_function
returns-else-see_function c =
    drop_away (setting c.args.claims.now) _ _ _ _ _ _ _ c.drops_function-is_kept.ensures c.index_at-index.ensures c.see_function.ensures.here c.see_function.ensures.kept c.if-see_function.false
