use Rattle.sh_tree.proofs.LanguageLemmas.{quoted_reads, dollar_reads, double_reads, bare_reads, assigned_reads, passed_reads, home_reads, braces_reads, braced_reads, parameters_reads, arithmetic_reads, choice_reads, substituted_reads, ticked_reads, substituted_case_reads, document_reads, stripped_reads, branch_reads, elif_reads, until_reads, every_reads, loop_reads, case_reads, through_reads, defined_reads, unset_first_reads, unset_last_reads, closed_reads, separated_reads, empty_reads, comment_reads}
use Rattle.sh_tree.proofs.UnreadLemmas.{open_quote_unread, open_braced_unread, split_name_unread, no_expression_unread, lone_bar_unread, split_operator_unread, clause_end_unread, open_document_unread, split_document_unread, tabbed_document_unread, unclosed_unread}
use Rattle.sh_tree.proofs.WordReadings.{removed_prefix_reads, octal_reads, status_reads, quoted_default_reads, all_fields_reads, exported_reads, colon_in_double_reads, colon_in_arithmetic_reads, colon_in_pattern_reads}
use Rattle.sh_tree.proofs.CommandReadings.{while_reads, for_ended_reads, for_none_reads, for_two_reads, case_lines_reads, patterns_reads, pattern_esac_reads, redirected_reads, numbered_reads, behind_assignment_reads}
use Rattle.sh_tree.proofs.DocumentReadings.{verbatim_reads, two_documents_reads, group_document_reads, inner_document_reads, piped_document_reads, counted_document_reads, joined_end_reads, unended_line_reads, quiet_reads, paired_comment_reads, paired_quotes_reads, paired_document_reads, tabs_in_pattern_reads, tabs_in_quotes_reads}
use Rattle.sh_tree.proofs.UnreadForms.{double_parenthesis_unread, negated_parenthesis_unread, double_bracket_unread, location_unread, dollar_single_unread, backquoted_unread, backslash_unread, quoted_backslash_unread, default_backquotes_unread, other_braced_unread, unsplit_unread, expanded_delimiter_unread, tilde_delimiter_unread, dollar_delimiter_unread, across_unread, joined_tab_unread, late_end_unread, tabbed_end_unread, split_comment_unread, split_quotes_unread, split_end_unread}
use Rattle.sh_tree.proofs.LimitLemmas.{defaults_within, defaults_beyond, complements_within, complements_beyond, body_depth_reads}
use Rattle.sh_tree.proofs.laws.reads_language.Goals as goal

pub returns-clause-texts : goal.returns-clause-texts
returns-clause-texts c = record {
  quoted = quoted_reads;
  dollar = dollar_reads;
  double = double_reads;
  bare_value = bare_reads;
  assigned = assigned_reads;
  passed = passed_reads;
  home = home_reads;
  braces = braces_reads;
  braced = braced_reads;
  parameters = parameters_reads;
  arithmetic = arithmetic_reads;
  choice = choice_reads;
  substituted = substituted_reads;
  ticked = ticked_reads;
  substituted_case = substituted_case_reads;
  document = document_reads;
  stripped = stripped_reads;
  branches = branch_reads;
  elif = elif_reads;
  until = until_reads;
  every = every_reads;
  loop = loop_reads;
  cases = case_reads;
  through = through_reads;
  defined = defined_reads;
  unset_first = unset_first_reads;
  unset_last = unset_last_reads;
  closed = closed_reads;
  separated = separated_reads;
  empty = empty_reads;
  comment = comment_reads;
  open_quote = open_quote_unread;
  open_braced = open_braced_unread;
  split_name = split_name_unread;
  no_expression = no_expression_unread;
  split_operator = split_operator_unread;
  lone_bar = lone_bar_unread;
  clause_end = clause_end_unread;
  open_document = open_document_unread;
  split_document = split_document_unread;
  tabbed_document = tabbed_document_unread;
  unclosed = unclosed_unread;
}

pub returns-clause-words : goal.returns-clause-words
returns-clause-words c = record {
  removed_prefix_read = removed_prefix_reads;
  octal_read = octal_reads;
  status_read = status_reads;
  quoted_default_read = quoted_default_reads;
  all_fields_read = all_fields_reads;
  exported_read = exported_reads;
  colon_in_double_read = colon_in_double_reads;
  colon_in_arithmetic_read = colon_in_arithmetic_reads;
  colon_in_pattern_read = colon_in_pattern_reads;
}

pub returns-clause-commands : goal.returns-clause-commands
returns-clause-commands c = record {
  while_read = while_reads;
  for_ended_read = for_ended_reads;
  for_none_read = for_none_reads;
  for_two_read = for_two_reads;
  case_lines_read = case_lines_reads;
  patterns_read = patterns_reads;
  pattern_esac_read = pattern_esac_reads;
  redirected_read = redirected_reads;
  numbered_read = numbered_reads;
  behind_assignment_read = behind_assignment_reads;
}

pub returns-clause-documents : goal.returns-clause-documents
returns-clause-documents c = record {
  verbatim_read = verbatim_reads;
  two_documents_read = two_documents_reads;
  group_document_read = group_document_reads;
  inner_document_read = inner_document_reads;
  piped_document_read = piped_document_reads;
  counted_document_read = counted_document_reads;
  joined_end_read = joined_end_reads;
  unended_line_read = unended_line_reads;
  quiet_read = quiet_reads;
  paired_comment_read = paired_comment_reads;
  paired_quotes_read = paired_quotes_reads;
  paired_document_read = paired_document_reads;
  tabs_in_pattern_read = tabs_in_pattern_reads;
  tabs_in_quotes_read = tabs_in_quotes_reads;
}

pub returns-clause-nothing : goal.returns-clause-nothing
returns-clause-nothing c = record {
  double_parenthesis = double_parenthesis_unread;
  negated_parenthesis = negated_parenthesis_unread;
  double_bracket = double_bracket_unread;
  location = location_unread;
  dollar_single = dollar_single_unread;
  backquoted = backquoted_unread;
  backslash = backslash_unread;
  quoted_backslash = quoted_backslash_unread;
  default_backquotes = default_backquotes_unread;
  other_braced = other_braced_unread;
  unsplit = unsplit_unread;
  expanded_delimiter = expanded_delimiter_unread;
  tilde_delimiter = tilde_delimiter_unread;
  dollar_delimiter = dollar_delimiter_unread;
  across = across_unread;
  joined_tab = joined_tab_unread;
  late_end = late_end_unread;
  tabbed_end = tabbed_end_unread;
  split_comment = split_comment_unread;
  split_quotes = split_quotes_unread;
  split_end = split_end_unread;
}

pub returns-clause-limits : goal.returns-clause-limits
returns-clause-limits c = record {
  defaults = defaults_within;
  more_defaults = defaults_beyond;
  complements = complements_within;
  more_complements = complements_beyond;
  body_depth = body_depth_reads;
}
