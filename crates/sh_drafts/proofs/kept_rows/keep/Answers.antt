use Rattle.std.proofs.Common.{◌<◌, sym, subst}
use Rattle.sh_drafts.proofs.FactLemmas.{vars_named, functions_named, stay_through, placed_both, facts_both}
use Rattle.sh_drafts.proofs.kept_rows.keep.Goals as goal

pub returns-clause-placed : goal.returns-clause-placed
returns-clause-placed c = placed_both c.intern.new.rows.rows c.intern-2.new.rows.rows _ _ _ c.in_ok-functions.ensures.stay c.in_ok-vars.ensures.known c.in_ok-functions.ensures.known

pub returns-clause-facts : goal.returns-clause-facts
returns-clause-facts c = facts_both c.intern.new.rows.rows c.intern-2.new.rows.rows _ _ c.args.sight.now c.in_ok-functions.ensures.stay c.in_ok-vars.ensures.known c.in_ok-vars.ensures.found c.in_ok-functions.ensures.found

pub intern-requires-clause-below : goal.intern-requires-clause-below
intern-requires-clause-below c = vars_named _ c.args.sight.now c.requires.named

pub intern-requires-2-clause-below : goal.intern-requires-2-clause-below
intern-requires-2-clause-below c = λ k e. subst (λ n. k < n) (sym c.in_ok-vars.ensures.count) (functions_named _ c.args.sight.now c.requires.named k e)

pub returns-in_err-functions-clause-stay : goal.returns-in_err-functions-clause-stay
returns-in_err-functions-clause-stay c = stay_through _ _ _ c.in_ok-vars.ensures.stay c.in_err-functions.ensures.stay

pub returns-clause-stay : goal.returns-clause-stay
returns-clause-stay c = stay_through _ _ _ c.in_ok-vars.ensures.stay c.in_ok-functions.ensures.stay
