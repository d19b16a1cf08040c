use Rattle.sh_rules.specs.Walks.{facts_in, setting}
use Rattle.sh_rules.proofs.CallLemmas.{entered}
use Rattle.sh_visits.proofs.calls.enter.Goals as goal

pub returns : goal.returns
returns c =
    let x = setting c.args.claims.now in
    entered x c.args.elements.now c.behind_name.result.now (facts_in x c.args.known.now) (facts_in x c.count_words.new.known) (facts_in x c.gain_prefixes.new.known)
    c.behind_name.ensures c.count_words.ensures c.gain_prefixes.ensures
