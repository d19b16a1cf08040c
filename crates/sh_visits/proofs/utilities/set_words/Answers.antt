use Rattle.sh_rules.specs.Walks.{facts_in, setting}
use Rattle.std.proofs.Common.{ap, ◌∙◌}
use Rattle.sh_rules.specs.Behind.{either}
use Rattle.sh_rules.proofs.UtilityLemmas.{words_taken}
use Rattle.sh_visits.proofs.utilities.set_words.Goals as goal

pub returns : goal.returns
returns c =
    let x = setting c.args.claims.now in
    ap (either (facts_in x c.take_parameters.new.known)) (c.met.ensures x)
    ∙ words_taken x (facts_in x c.args.known.now) (facts_in x c.count_words.new.known) (facts_in x c.take_parameters.new.known) (facts_in x c.settled-all.result)
    c.args.elements.now c.behind_name.result.now c.args.skipped c.behind_name.ensures c.count_words.ensures c.settled-all.ensures (c.take_parameters.ensures x)
