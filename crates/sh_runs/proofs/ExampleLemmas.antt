-- The runs of small programs, computed.
use Rattle.std.proofs.Common.{refl}
use Rattle.sh_runs.specs.standard.Kinds as kinds
use Rattle.sh_runs.specs.standard.runs.Environment as environment
use Rattle.sh_runs.specs.standard.runs.Numbers as numbers
use Rattle.sh_runs.specs.standard.runs.Arithmetic as arithmetic
use Rattle.sh_runs.specs.standard.runs.Expansion as expansion
use Rattle.sh_runs.specs.standard.runs.Fields as fields
use Rattle.sh_runs.specs.standard.runs.Operands as operands
use Rattle.sh_runs.specs.standard.runs.Work as work
use Rattle.sh_runs.specs.standard.runs.Builtins as builtins
use Rattle.sh_runs.specs.standard.runs.Steps as steps
use Rattle.sh_runs.specs.standard.runs.Worlds as worlds
use Rattle.sh_tree.specs.standard.language.Commands as commands
use Rattle.sh_tree.specs.standard.language.Bytes as bytes
use Rattle.sh_tree.specs.standard.program.Words as program
use Rattle.sh_runs.specs.examples.Runs as examples
use Rattle.sh_runs.specs.examples.Runs.{RunsAsExpected}

-- what a run of a known program computes
unfoldable pub computes : Unit {0}
unfolding kinds.look_up kinds.kind_of kinds.is_declaration environment.put_text environment.showing environment.hiding numbers.last_digits numbers.integer_text numbers.is_zero numbers.is_number numbers.number_in numbers.is_behind_zero numbers.is_constant numbers.is_integer numbers.behind_blanks numbers.before_blanks arithmetic.operated arithmetic.then_computed arithmetic.read_name arithmetic.skips arithmetic.read_where arithmetic.operated_assignment arithmetic.evaluate expansion.value_origin expansion.piece_text expansion.followed expansion.joined_by expansion.broken expansion.star_pieces expansion.at_pieces expansion.is_every expansion.has_every expansion.quote_pieces expansion.is_empty_value expansion.special_value expansion.value_of expansion.needed expansion.value_pieces expansion.default_assigned expansion.used expansion.constant_in expansion.behind expansion.tilde_pieces expansion.computed_pieces expansion.expand_part fields.unquoted_sign fields.piece_signs fields.scan fields.is_bracket fields.is_pattern fields.names_or fields.field_names fields.is_expanded fields.is_split fields.holds_pattern fields.splits operands.definition_in operands.is_dashed operands.removal_of operands.unset_from operands.is_set_option operands.ends_in_o operands.set_from operands.count_operand operands.status_operand operands.has_command operands.read_option operands.read_from operands.second_name operands.getopts_name work.or_nearer work.nth_mark work.loop_mark work.broken_off work.continued work.return_mark builtins.nonzero builtins.removed_either builtins.removed_any builtins.removed builtins.removed_all builtins.unset_names builtins.set_frame builtins.shifted builtins.restored builtins.returned builtins.special builtins.special_or_end builtins.given_to builtins.read_into builtins.reads builtins.gets_option builtins.changes_directory builtins.utility program.operands_in program.redirects_in program.assignments_in steps.opened steps.named_manner steps.manner steps.is_declared steps.word_fields steps.word_splits steps.status_behind steps.in_order steps.in_any_order steps.next_preparation steps.may_copy steps.picked steps.takes_link steps.takes_turn steps.and_or_work steps.command_work steps.unless_ended steps.negated_work steps.parts steps.piped steps.items steps.links steps.words steps.failed_in steps.redirected steps.assignment steps.invoked steps.prepared steps.prepare steps.utility_step steps.call steps.is_started_first steps.in_process steps.failed_before steps.redirected_before steps.over_fields steps.over_words steps.begun steps.compound steps.branch steps.test steps.for_words steps.for_fields steps.fall steps.clause_list steps.falls steps.clauses steps.matched steps.patterns steps.act_on steps.act worlds.put worlds.innermost worlds.is_part_of worlds.any_below worlds.waits worlds.outer worlds.frames_after worlds.with_frames worlds.stepped worlds.first_frame worlds.start worlds.start_all worlds.apply worlds.effect_of worlds.may_step worlds.step worlds.run worlds.has_unset_event worlds.has_split_event worlds.start_world bytes.is_first bytes.name_length bytes.decimal program.part_text program.part_has program.word_has program.is_pattern program.static_of program.is_plainly program.before_word commands.is_assignment program.assignment_in examples.elements_of examples.words_of examples.list examples.bare_start examples.start_with examples.quiet
computes = tt

pub runs_as_expected : RunsAsExpected
unfolding computes
runs_as_expected = record {
  star_joins = refl;
  star_joins_by_colons = refl;
  parameters_count = refl;
  first_parameter = refl;
  third_parameter = refl;
  default_is_given = refl;
  default_is_no_event = refl;
  empty_is_set = refl;
  colon_counts_empty = refl;
  alternative_where_set = refl;
  nothing_where_unset = refl;
  length_is_counted = refl;
  quotes_go = refl;
  dollar_quotes_hold_theirs = refl;
  home_is_given = refl;
  home_is_unset = refl;
  substitution_gives = refl;
  substitution_starts = refl;
  substitution_ends = refl;
  substitution_outlives = refl;
  function_calls_itself = refl;
  inner_call_returns = refl;
  outer_call_returns = refl;
  function_ends = refl;
  operand_is_parameter = refl;
  function_is_defined = refl;
  unset_leaves_function = refl;
  unset_takes_function = refl;
  unset_of_functions = refl;
  prefix_is_set = refl;
  prefix_outlives = refl;
  prefix_is_put_back = refl;
  prefix_is_removed = refl;
  prefix_stays = refl;
  prefix_is_passed = refl;
  alternative_is_taken = refl;
  loop_breaks = refl;
  loop_takes_no_turn = refl;
  loop_is_over = refl;
  break_leaves_two = refl;
  until_has_last_status = refl;
  for_first = refl;
  for_second = refl;
  for_ends = refl;
  continue_takes_next_turn = refl;
  continue_skips = refl;
  for_parameters = refl;
  for_every_first = refl;
  for_every_second = refl;
  case_matches = refl;
  case_falls_through = refl;
  case_any = refl;
  case_before = refl;
  case_without_match = refl;
  case_empty_list = refl;
  pipeline_waits = refl;
  pipeline_goes_on = refl;
  shared_left_first = refl;
  shared_left_first_too = refl;
  shared_right_first = refl;
  shared_right_first_too = refl;
  copied_left = refl;
  copied_right = refl;
  copied_right_first = refl;
  copied_right_first_too = refl;
  copied_own = refl;
  subshell_own = refl;
  subshell_sets_nothing = refl;
  special_redirection_ends = refl;
  other_redirection_goes_on = refl;
  redirection_sets = refl;
  redirection_copies = refl;
  set_gives_parameters = refl;
  shift_removes_one = refl;
  shift_fails = refl;
  every_stands = refl;
  every_of_none = refl;
  blanks_split = refl;
  colons_split = refl;
  empty_gives_none = refl;
  quoted_gives_one = refl;
  read_first = refl;
  read_second = refl;
  read_fails_first = refl;
  read_fails_second = refl;
  getopts_gives = refl;
  cd_gives = refl;
  default_is_assigned = refl;
  default_is_not_needed = refl;
  fault_ends = refl;
  fault_sets_nothing = refl;
  no_fault = refl;
  bare_splits = refl;
  quoted_stays_whole = refl;
  quoted_is_unset = refl;
  quoted_is_set = refl;
  assignment_word_splits = refl;
  declaration_stays_whole = refl;
  declaration_sets = refl;
  sum_is_unset = refl;
  sum_is_set = refl;
  sum_goes_on = refl;
  sum_is_over = refl;
  arithmetic_assigns = refl;
  unset_removes = refl;
  exec_goes_on = refl;
  exec_fails = refl;
  exit_ends = refl;
  asynchronous_starts = refl;
  job_is_set = refl;
  job_is_unset = refl;
  negation_inside = refl;
  negation_behind = refl;
}
