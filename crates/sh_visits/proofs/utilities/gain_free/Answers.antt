use Rattle.std.proofs.Common.{sym, ◌∙◌}
use Rattle.sh_rules.specs.Walks.{facts_in, setting}
use Rattle.sh_rules.proofs.UtilityLemmas.{free_passed, free_taken}
use Rattle.sh_visits.proofs.utilities.gain_free.Goals as goal

pub returns-then-not-has_name : goal.returns-then-not-has_name
unfolding setting
returns-then-not-has_name c = λ es set.
    let x = setting c.args.claims.now in
    free_taken x es c.args.prefixes.now (facts_in x c.args.known.now) (facts_in x c.gain_variable.new.known) c.args.name.now set (sym c.has_name.ensures ∙ c.if-not-has_name.true) c.gain_variable.ensures

pub returns-else-not-has_name : goal.returns-else-not-has_name
unfolding setting
returns-else-not-has_name c = λ es set.
    let x = setting c.args.claims.now in
    free_passed x es c.args.prefixes.now (facts_in x c.args.known.now) c.args.name.now set (sym c.has_name.ensures ∙ c.if-not-has_name.false)
