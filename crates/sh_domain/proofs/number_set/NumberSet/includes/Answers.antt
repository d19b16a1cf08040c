use Rattle.std.proofs.Common.{◌∙◌}
use Rattle.sh_domain.specs.NumberSets.{numbers_of}
use Rattle.sh_domain.proofs.KnowledgeLemmas.{names_within}
use Rattle.sh_domain.proofs.NumberSetLemmas.{row_below, row_within, none_below, none_within}
use Rattle.sh_domain.proofs.number_set.NumberSet.includes.Goals as goal

pub returns-in-Some-clause-numbers : goal.returns-in-Some-clause-numbers
returns-in-Some-clause-numbers c =
    row_within c.args.rows.now.rows c.args.id.index c.in-Some.row.now c.in-Some.ensures.row c.within_words.result (numbers_of c.args.self.now) _ c.words.ensures c.within_words.ensures.bits

pub returns-in-Some-clause-names : goal.returns-in-Some-clause-names
returns-in-Some-clause-names c names h count =
    names_within names h c.args.rows.now c.args.id (numbers_of c.args.self.now) c.within_words.result
    (row_within c.args.rows.now.rows c.args.id.index c.in-Some.row.now c.in-Some.ensures.row c.within_words.result (numbers_of c.args.self.now) _ c.words.ensures c.within_words.ensures.bits)
    (row_below c.args.rows.now.rows c.args.id.index c.in-Some.row.now c.in-Some.ensures.row _ (c.in-Some.ensures.sized ∙ count))

pub returns-in-None-clause-numbers : goal.returns-in-None-clause-numbers
returns-in-None-clause-numbers c = none_within c.args.rows.now.rows c.args.id.index c.in-None.ensures.row (numbers_of c.args.self.now)

pub returns-in-None-clause-names : goal.returns-in-None-clause-names
returns-in-None-clause-names c names h count =
    names_within names h c.args.rows.now c.args.id (numbers_of c.args.self.now) _ (none_within c.args.rows.now.rows c.args.id.index c.in-None.ensures.row (numbers_of c.args.self.now))
    (none_below c.args.rows.now.rows c.args.id.index c.in-None.ensures.row _)
