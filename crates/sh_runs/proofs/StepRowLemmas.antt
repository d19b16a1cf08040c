-- The runs of small programs to their end, computed.
use Rattle.std.proofs.Common.{refl}
use Rattle.sh_runs.specs.examples.Steps as examples
use Rattle.sh_runs.specs.examples.Steps.{JumpsAsExpected, RedirectsAsExpected, AssignmentsAsExpected, BuiltinsAsExpected, CallsAsExpected, StepsAsExpected}
use Rattle.sh_runs.proofs.ExampleLemmas.{computes}

pub jumps_as_expected : JumpsAsExpected
unfolding computes examples.far examples.comes_to examples.behind
jumps_as_expected = record {
  break_inner = refl;
  break_outer = refl;
  break_outermost = refl;
  continue_inner = refl;
  continue_outer = refl;
  continue_outermost = refl;
  break_in_function = refl;
  break_inside_function = refl;
  continue_in_for = refl;
  until_false = refl;
  until_true = refl;
  while_false = refl;
  for_status = refl;
  for_nothing = refl;
  false_and = refl;
  true_and = refl;
  false_or = refl;
  true_or = refl;
  and_or_else = refl;
  or_and_then = refl;
  if_first = refl;
  if_second = refl;
  if_else = refl;
  if_nothing = refl;
  if_status = refl;
}

pub redirects_as_expected : RedirectsAsExpected
unfolding computes examples.far examples.comes_to examples.behind
redirects_as_expected = record {
  nameless_here = refl;
  nameless_copied = refl;
  utility_here = refl;
  utility_copied = refl;
  function_here = refl;
  function_copied = refl;
  subshell_here = refl;
  subshell_copied = refl;
  subshell_sees = refl;
  subshell_sees_own = refl;
  subshell_sets = refl;
  subshell_sets_own = refl;
  subshell_meets = refl;
  subshell_meets_own = refl;
  special_not_copied = refl;
  group_not_copied = refl;
  fault_here = refl;
  fault_copied = refl;
  nameless_fails = refl;
  assignment_behind = refl;
  assignment_left_out = refl;
  assignment_done = refl;
  utility_fails = refl;
  special_fails = refl;
  group_fails = refl;
  group_ends = refl;
  group_fault_ends = refl;
  group_fault_fails = refl;
  function_fails = refl;
  function_ends = refl;
  redirection_first = refl;
  assignment_first = refl;
  assignment_first_meets = refl;
  special_meets = refl;
  utility_meets = refl;
  value_before_meets = refl;
  value_before_call_meets = refl;
  redirection_sees_no_value = refl;
  call_behind_values = refl;
  call_fails_behind_values = refl;
}

pub assignments_as_expected : AssignmentsAsExpected
unfolding computes examples.far examples.comes_to examples.behind
assignments_as_expected = record {
  one_after_another = refl;
  value_stays_whole = refl;
  value_is_not_split = refl;
  parameters_joined = refl;
  assignment_ends = refl;
  before_special = refl;
  before_utility = refl;
  before_function = refl;
  before_function_restored = refl;
  before_function_seen = refl;
  before_function_twice = refl;
  value_meets = refl;
  value_meets_nothing = refl;
  value_sets = refl;
  value_copied = refl;
  value_ends = refl;
  seen_goes_on = refl;
  seen_sets_nothing = refl;
  seen_is_set = refl;
  seen_before = refl;
  seen_own = refl;
  export_sets = refl;
  readonly_sets = refl;
  export_name = refl;
  export_value = refl;
  export_stays_whole = refl;
  export_is_not_split = refl;
  operand_is_split = refl;
  operand_splits = refl;
}

pub builtins_as_expected : BuiltinsAsExpected
unfolding computes examples.far examples.comes_to examples.behind
builtins_as_expected = record {
  unset_both = refl;
  unset_second = refl;
  unset_variable = refl;
  unset_behind_dashes = refl;
  unset_function = refl;
  unset_no_function = refl;
  unset_either = refl;
  unset_variable_first = refl;
  unset_function_alone = refl;
  unset_letters = refl;
  unset_ends = refl;
  set_one = refl;
  set_fails = refl;
  set_fails_behind = refl;
  set_option_word = refl;
  set_option = refl;
  set_alone = refl;
  set_options_and_word = refl;
  set_behind_dashes = refl;
  set_nothing = refl;
  set_plus = refl;
  shift_one = refl;
  shift_two = refl;
  shift_none = refl;
  shift_too_many = refl;
  shift_status = refl;
  shift_ends = refl;
  shift_word = refl;
  getopts_option = refl;
  getopts_argument = refl;
  getopts_sets = refl;
  getopts_end = refl;
  getopts_dashes = refl;
  getopts_no_name = refl;
  read_stays = refl;
  read_sets = refl;
  read_other = refl;
  read_delimited = refl;
  read_delimiter_behind = refl;
  read_behind_dashes = refl;
  read_timed = refl;
  cd_sets = refl;
  cd_stays = refl;
  exec_fails = refl;
  exec_ends = refl;
  exec_alone = refl;
  exit_ends = refl;
  statuses = refl;
}

pub calls_as_expected : CallsAsExpected
unfolding computes examples.far examples.comes_to examples.behind examples.numbered
calls_as_expected = record {
  return_in_function = refl;
  return_alone = refl;
  return_beyond = refl;
  return_computed = refl;
  work_is_numbered = refl;
  return_outside = refl;
  return_ends = refl;
  return_in_loop = refl;
  inner_definition = refl;
  no_inner_definition = refl;
  definition_again = refl;
  definition_opens_nothing = refl;
  call_opens = refl;
  calls_have_parameters = refl;
  own_parameters = refl;
  subshell_apart = refl;
  subshell_own = refl;
  subshell_parameters = refl;
  job_is_carried = refl;
  job_is_lost = refl;
  pattern_first = refl;
  pattern_second = refl;
  pattern_none = refl;
  shift_shared = refl;
  shift_copied = refl;
  interleaved = refl;
  interleaved_end = refl;
  interleaved_meets = refl;
  copied_apart = refl;
  copied_own = refl;
  copied_meets = refl;
  asynchronous_apart = refl;
  asynchronous_own = refl;
  asynchronous_status = refl;
  any_status = refl;
}

pub steps_as_expected : StepsAsExpected
steps_as_expected = record {
  jumps = jumps_as_expected;
  redirects = redirects_as_expected;
  assignments = assignments_as_expected;
  builtins = builtins_as_expected;
  calls = calls_as_expected;
}
