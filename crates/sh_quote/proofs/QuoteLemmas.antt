-- The unquoted places of known scripts, computed.
use Rattle.std.proofs.Common.{refl}
use Rattle.sh_domain.specs.Operands.{read_names}
use Rattle.sh_quote.specs.Places.{told_at, part_places, parts_places, word_places, split_operands, split_words, unquoted}
use Rattle.sh_quote.specs.examples.Quotes.{QuotesAsExpected}
use Rattle.sh_quote.specs.Steady.{redirect_words, value_words, for_words, pattern_words, kind_words, steady_value, steady_assignment, steady_definition, steady_text, steady_declared, steady_operand, steady_getopts, steady_operands, steady_words, steady_kind, steady_command, steady}
use Rattle.sh_runs.specs.standard.Kinds.{look_up, kind_of, is_declaration}
use Rattle.sh_runs.specs.Surroundings.{in_part, in_item, items_located}
use Rattle.sh_runs.specs.Quoting.{is_numeric, gives_number, is_quotation, are_quotations, is_quoted_alternative, part_begins_pattern, word_begins_pattern, part_mentions, word_mentions, part_assigns, word_assigns, operator_assigns, expression_assigns, operands_assign, is_at, is_steady}
use Rattle.sh_runs.specs.standard.runs.Operands.{definition_in, is_dashed, read_option, read_from}
use Rattle.sh_runs.specs.standard.runs.Steps.{opened}
use Rattle.sh_tree.specs.standard.language.Bytes.{is_first, name_length}
use Rattle.sh_tree.specs.standard.language.Commands.{is_assignment}
use Rattle.sh_tree.specs.standard.program.Words.{part_text, word_text, part_has, word_has, is_plainly, is_pattern, static_of, words_in, before_word, assignment_in, operands_in, redirects_in, assignments_in}

-- what the places of a known script compute
unfoldable pub computes : Unit {0}
unfolding part_assigns word_assigns operator_assigns expression_assigns operands_assign redirect_words value_words for_words pattern_words kind_words steady_value steady_assignment steady_definition steady_text steady_declared is_at steady_operand steady_getopts steady_operands steady_words steady_kind steady_command steady told_at part_places parts_places word_places split_operands split_words unquoted part_text word_text part_has word_has is_plainly is_pattern static_of words_in before_word assignment_in is_assignment is_first name_length look_up kind_of is_declaration in_part in_item items_located is_numeric gives_number is_quotation are_quotations is_quoted_alternative part_begins_pattern word_begins_pattern part_mentions word_mentions is_steady definition_in is_dashed read_option read_from operands_in redirects_in assignments_in opened read_names
computes = tt

pub quotes_as_expected : QuotesAsExpected
unfolding computes
quotes_as_expected = record {
  in_short_scripts = refl;
  in_more_short_scripts = refl;
  in_scripts = refl;
  in_longer_scripts = refl;
  steady_scripts = refl;
  unsteady_scripts = refl;
}
