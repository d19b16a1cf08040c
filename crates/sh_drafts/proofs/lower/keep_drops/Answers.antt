use Rattle.sh_drafts.proofs.LowerLemmas.{drops_named, drops_known, vars_placed, functions_placed, drops_kept}
use Rattle.sh_drafts.proofs.lower.keep_drops.Goals as goal

pub keep-requires-clause-named : goal.keep-requires-clause-named
keep-requires-clause-named c = drops_named _ c.args.vars c.args.functions _ c.requires.below

pub unreachable-requires : goal.unreachable-requires
unreachable-requires c = drops_known c.keep.new.rows c.args.vars c.args.functions _ _ c.in-NotReached.is c.in_ok-keep.ensures.facts

pub returns-clause-vars : goal.returns-clause-vars
returns-clause-vars c = vars_placed _ _ _ _ _ c.in-Known.is c.in_ok-keep.ensures.placed

pub returns-clause-functions : goal.returns-clause-functions
returns-clause-functions c = functions_placed _ _ _ _ _ c.in-Known.is c.in_ok-keep.ensures.placed

pub returns-clause-sets : goal.returns-clause-sets
returns-clause-sets c = drops_kept c.keep.new.rows c.args.vars c.args.functions _ _ _ _ _ c.in-Known.is c.in_ok-keep.ensures.facts
