-- The answers to known certificates, computed.
use Rattle.std.proofs.Common.{refl}
use Rattle.sh_domain.specs.examples.Answers.{AnswersAsExpected}
use Rattle.sh_domain.specs.Demands.{elements_unmet, clauses_unmet, for_words_unmet, kind_unmet, with_text, kind_moves, moves, command_moves, move_at, is_reached, shared_unmet, unmet, demands}
use Rattle.sh_domain.specs.Entries.{parts_after, pipeline_after, link_seen, linked, links_after, list_after, item_after, items_after, otherwise_seen, turns, ends, behind_list, falls, operand_seen, is_long, item_rule, item_around, item_seen, part_rule, part_around, items_entered, list_entered, links_entered, pipeline_entered, commands_entered, command_entered, kind_entered, elements_entered, redirect_entered, redirects_entered, branches_entered, otherwise_entered, for_words_entered, words_entered, clauses_entered, patterns_entered, word_entered, part_entered, operator_entered, expression_entered, operands_entered, script_entered}
use Rattle.sh_domain.specs.examples.Programs.{names_from, names_in, head_in, function_in, claim_in, is_slot, changed, told_of, answer, answers}
use Rattle.sh_domain.specs.Facts.{facts, within, claims, start_facts}
use Rattle.sh_domain.specs.Faults.{are_among, told, broken, faults, rank, precedes, lesser, least}
use Rattle.sh_domain.specs.examples.ForgedScripts.{ForgedScriptsAsExpected}
use Rattle.sh_domain.specs.Gains.{with_gains, sure, operator_gains, surely, assigned_in, operands_assigned, part_gains, word_gains, expanded_gains, operands_gains, words_gains, redirect_gains, redirects_gains}
use Rattle.sh_domain.specs.examples.LongerScripts.{LongerScriptsAsExpected}
use Rattle.sh_domain.specs.examples.MoreShortScripts.{MoreShortScriptsAsExpected}
use Rattle.sh_domain.specs.Needs.{wanted, covers, parameter_text, name_needed, target_needed, reads_unmet, operands_read, part_unmet, word_unmet, operator_unmet, expanded_unmet, operands_expanded, words_unmet, patterns_unmet, redirect_unmet, redirects_unmet}
use Rattle.sh_domain.specs.Operands.{removed, unset_names, read_names, getopts_names, words_from, total, first_number, runs_command, return_status}
use Rattle.sh_domain.specs.Rules.{defined_by, loop_at, breaks, continues, jump_loop, returns_with, returns, jumps, utility_losses, losses_by, losses, counted, where_redirected, call_bounds, simple_bounds, branches_bounds, otherwise_bounds, is_last, clauses_bounds, matches_always, body_bounds, kind_bounds, redirects_bounds, bounds, script_bounds}
use Rattle.sh_domain.specs.examples.Scripts.{ScriptsAsExpected}
use Rattle.sh_domain.specs.examples.ShortScripts.{ShortScriptsAsExpected}
use Rattle.sh_domain.specs.Table.{is_special, manner_of_name, manner_of_words, values_gains, is_redirected, after_set, after_shift, after_utility, after_nameless}
use Rattle.sh_domain.specs.Views.{if_zero, if_nonzero, in_any_case, swapped, where_known, passes, returned, called, step, steps, source_facts, where_reached, lost}
use Rattle.sh_runs.specs.Counts.{is_all, part_has_all, gives_field, some_gives_field, is_parameters, count_of}
use Rattle.sh_runs.specs.standard.Kinds.{look_up, kind_of}
use Rattle.sh_runs.specs.standard.runs.Numbers.{is_number, number_in, last_digits}
use Rattle.sh_runs.specs.standard.runs.Operands.{is_dashed, removal_of, unset_from, is_set_option, ends_in_o, has_command, read_option, read_from}
use Rattle.sh_tree.specs.standard.language.Bytes.{is_first, name_length, decimal}
use Rattle.sh_tree.specs.standard.language.Commands.{is_assignment}
use Rattle.sh_tree.specs.standard.program.Words.{part_text, word_text, part_has, word_has, is_plainly, is_pattern, static_of, words_in, before_word, assignment_in, operands_in, redirects_in, assignments_in}

-- what the check of a known certificate computes
unfoldable pub computes : Unit {0}
unfolding facts within claims start_facts with_gains sure operator_gains surely assigned_in operands_assigned part_gains word_gains expanded_gains operands_gains words_gains redirect_gains redirects_gains removed unset_names read_names getopts_names words_from total first_number runs_command return_status if_zero if_nonzero in_any_case swapped where_known passes returned called step steps source_facts where_reached lost manner_of_name manner_of_words values_gains is_redirected after_set after_shift after_utility after_nameless parts_after pipeline_after link_seen linked links_after list_after item_after items_after otherwise_seen turns ends behind_list falls operand_seen is_long item_rule item_around item_seen part_rule part_around items_entered list_entered links_entered pipeline_entered commands_entered command_entered kind_entered elements_entered redirect_entered redirects_entered branches_entered otherwise_entered for_words_entered words_entered clauses_entered patterns_entered word_entered part_entered operator_entered expression_entered operands_entered script_entered defined_by loop_at breaks continues jump_loop returns_with returns jumps utility_losses losses_by losses counted where_redirected call_bounds simple_bounds branches_bounds otherwise_bounds is_last clauses_bounds matches_always body_bounds kind_bounds redirects_bounds bounds script_bounds are_among told broken faults rank precedes lesser least wanted covers parameter_text name_needed target_needed reads_unmet operands_read part_unmet word_unmet operator_unmet expanded_unmet operands_expanded words_unmet patterns_unmet redirect_unmet redirects_unmet elements_unmet clauses_unmet for_words_unmet kind_unmet with_text kind_moves moves command_moves move_at is_reached shared_unmet unmet demands names_from names_in head_in function_in claim_in is_slot changed told_of answer answers part_text word_text part_has word_has is_plainly is_pattern static_of words_in before_word assignment_in is_assignment is_first name_length decimal look_up kind_of is_special is_all part_has_all gives_field some_gives_field is_parameters count_of is_number number_in last_digits is_dashed removal_of unset_from is_set_option ends_in_o has_command read_option read_from operands_in redirects_in assignments_in
computes = tt

pub short_scripts_as_expected : ShortScriptsAsExpected
unfolding computes
short_scripts_as_expected = record {
  script_1 = refl;
  script_2 = refl;
  script_3 = refl;
  script_4 = refl;
  script_5 = refl;
  script_6 = refl;
  script_7 = refl;
  script_8 = refl;
  script_9 = refl;
  script_10 = refl;
  script_11 = refl;
  script_12 = refl;
  script_13 = refl;
  script_14 = refl;
  script_15 = refl;
  script_16 = refl;
  script_17 = refl;
  script_18 = refl;
  script_19 = refl;
  script_20 = refl;
  script_21 = refl;
  script_22 = refl;
  script_23 = refl;
  script_24 = refl;
  script_25 = refl;
  script_26 = refl;
  script_27 = refl;
  script_28 = refl;
  script_29 = refl;
  script_30 = refl;
}

pub more_short_scripts_as_expected : MoreShortScriptsAsExpected
unfolding computes
more_short_scripts_as_expected = record {
  script_31 = refl;
  script_32 = refl;
  script_33 = refl;
  script_34 = refl;
  script_35 = refl;
  script_36 = refl;
  script_37 = refl;
  script_38 = refl;
  script_39 = refl;
  script_40 = refl;
  script_41 = refl;
  script_42 = refl;
  script_43 = refl;
  script_44 = refl;
  script_45 = refl;
  script_46 = refl;
  script_47 = refl;
  script_48 = refl;
  script_49 = refl;
  script_50 = refl;
  script_51 = refl;
  script_52 = refl;
  script_53 = refl;
  script_54 = refl;
  script_55 = refl;
  script_56 = refl;
  script_57 = refl;
  script_58 = refl;
  script_59 = refl;
  script_60 = refl;
  script_61 = refl;
}

pub scripts_as_expected : ScriptsAsExpected
unfolding computes
scripts_as_expected = record {
  script_1 = refl;
  script_2 = refl;
  script_3 = refl;
  script_4 = refl;
  script_5 = refl;
  script_6 = refl;
  script_7 = refl;
  script_8 = refl;
  script_9 = refl;
  script_10 = refl;
  script_11 = refl;
  script_12 = refl;
  script_13 = refl;
  script_14 = refl;
  script_15 = refl;
  script_16 = refl;
  script_17 = refl;
  script_18 = refl;
  script_19 = refl;
  script_20 = refl;
  script_21 = refl;
  script_22 = refl;
  script_23 = refl;
  script_24 = refl;
  script_25 = refl;
  script_26 = refl;
  script_27 = refl;
  script_28 = refl;
  script_29 = refl;
  script_30 = refl;
  script_31 = refl;
  script_32 = refl;
  script_33 = refl;
  script_34 = refl;
  script_35 = refl;
  script_36 = refl;
  script_37 = refl;
  script_38 = refl;
  script_39 = refl;
  script_40 = refl;
}

pub longer_scripts_as_expected : LongerScriptsAsExpected
unfolding computes
longer_scripts_as_expected = record {
  script_41 = refl;
  script_42 = refl;
  script_43 = refl;
  script_44 = refl;
  script_45 = refl;
  script_46 = refl;
  script_47 = refl;
  script_48 = refl;
  script_49 = refl;
  script_50 = refl;
  script_51 = refl;
  script_52 = refl;
  script_53 = refl;
  script_54 = refl;
  script_55 = refl;
  script_56 = refl;
  script_57 = refl;
  script_58 = refl;
  script_59 = refl;
  script_60 = refl;
  script_61 = refl;
  script_62 = refl;
  script_63 = refl;
  script_64 = refl;
  script_65 = refl;
  script_66 = refl;
}

pub forged_scripts_as_expected : ForgedScriptsAsExpected
unfolding computes
forged_scripts_as_expected = record {
  loop_gains = refl;
  loop_gains_again = refl;
  failed_read = refl;
  failed_read_again = refl;
  prefix_kept = refl;
  prefix_kept_again = refl;
  maybe_defined = refl;
  maybe_defined_again = refl;
  substitution_gains = refl;
  break_forgotten = refl;
  break_forgotten_again = refl;
  function_kept = refl;
  function_kept_again = refl;
  never_entered = refl;
  subshell_changes = refl;
  subshell_changes_again = refl;
  parameters_of_callee = refl;
  parameters_of_callee_again = refl;
  redirection_counted = refl;
  empty_clause = refl;
  empty_clause_again = refl;
  job_in_process = refl;
  job_in_process_again = refl;
  failed_redirection = refl;
  failed_call = refl;
  failed_redirection_again = refl;
  drops_forgotten = refl;
  drops_forgotten_again = refl;
}

pub answers_as_expected : AnswersAsExpected
answers_as_expected = record {
  short_scripts = short_scripts_as_expected;
  more_short_scripts = more_short_scripts_as_expected;
  scripts = scripts_as_expected;
  longer_scripts = longer_scripts_as_expected;
  forged_scripts = forged_scripts_as_expected;
}
