use Rattle.sh_rules.specs.Walks.{setting}
use Rattle.sh_rules.proofs.StepLemmas.{words_counted}
use Rattle.sh_visits.proofs.steps.count_words.Goals as goal

pub returns : goal.returns
unfolding setting
returns c =
    words_counted c.args.claims.now c.args.skipped c.args.elements.now c.count_behind-total.result c.args.known.now c.count.new.self c.count_behind-total.ensures c.count.ensures
