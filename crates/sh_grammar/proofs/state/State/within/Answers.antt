use Rattle.sh_grammar.proofs.SubstitutionLemmas.{substituted_stands}
use Rattle.sh_grammar.proofs.state.State.within.Goals as goal

pub returns-clause-stands : goal.returns-clause-stands
returns-clause-stands c =
    substituted_stands c.args.script.now c.args.at c.args.depth c.blanks_at-first.result c.args.ticks c.args.self.now c.first_waiting.result c.new.result c.new-2.result c.requires.lies
    c.blanks_at-first.ensures.value c.requires.ordered c.blanks_at-first.ensures.after c.blanks_at-first.ensures.within c.requires.shallow c.first_waiting.ensures c.new.ensures c.new-2.ensures
