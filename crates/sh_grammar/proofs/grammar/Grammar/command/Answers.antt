use Rattle.std.proofs.Common.{sym, ◌∙◌}
use Rattle.sh_grammar.proofs.CommandLemmas.{not_ended}
use Rattle.sh_grammar.proofs.grammar.Grammar.command.Goals as goal

pub compound_command-requires-clause-some : goal.compound_command-requires-clause-some
compound_command-requires-clause-some g c =
    c.lead-lead.ensures.within (not_ended c.lead-lead.result (sym c.begins_command.ensures ∙ c.if-not-begins_command.false))
