-- What small words expand to, computed.
use Rattle.std.proofs.Common.{refl}
use Rattle.sh_runs.specs.examples.Fields.{SplittingAsExpected, ParametersAsExpected, UsesAsExpected, ComputedAsExpected, NamesAsExpected, NumbersAsExpected, FieldsAsExpected}
use Rattle.sh_runs.proofs.ExampleLemmas.{computes}

pub splitting_as_expected : SplittingAsExpected
unfolding computes
splitting_as_expected = record {
  blank = refl;
  blank_without_ifs = refl;
  blank_empty_ifs = refl;
  blank_other_ifs = refl;
  blanks_around = refl;
  empty_between = refl;
  empty_first = refl;
  separator_last = refl;
  separators_last = refl;
  separator_alone = refl;
  blanks_of_separator = refl;
  blanks_between_separators = refl;
  blanks_of_separator_alone = refl;
  empty = refl;
  empty_quoted = refl;
  blank_alone = refl;
  blank_quoted = refl;
  empty_and_quotes = refl;
  behind_literal = refl;
  behind_literal_blank = refl;
  behind_quotes = refl;
  quoted_before_bare = refl;
  bare_before_bare = refl;
  blanks_meet = refl;
  separators_meet = refl;
}

pub parameters_as_expected : ParametersAsExpected
unfolding computes
parameters_as_expected = record {
  star_none = refl;
  star_one = refl;
  star_three = refl;
  star_unsplit = refl;
  quoted_star_none = refl;
  quoted_star_one = refl;
  quoted_star_three = refl;
  quoted_star_ifs = refl;
  quoted_star_empty_ifs = refl;
  quoted_star_without_ifs = refl;
  at_none = refl;
  at_one = refl;
  at_three = refl;
  every_none = refl;
  every_one = refl;
  every_three = refl;
  every_empty = refl;
  every_empty_ifs = refl;
  between_none = refl;
  between_one = refl;
  between_three = refl;
  every_and_quotes = refl;
  first_and_every = refl;
  number_of_parameters = refl;
  length_of_x = refl;
  length_of_unset = refl;
  last_status = refl;
  process = refl;
  job = refl;
  job_is_set = refl;
  job_is_unset = refl;
  job_is_nothing = refl;
  second = refl;
  second_is_unset = refl;
}

pub uses_as_expected : UsesAsExpected
unfolding computes
uses_as_expected = record {
  default = refl;
  default_colon = refl;
  alternative = refl;
  alternative_colon = refl;
  not_met = refl;
  not_assigned = refl;
  word_is_met = refl;
  word_is_not_met = refl;
  assigned = refl;
  assigned_x = refl;
  assigned_colon = refl;
  assigned_colon_x = refl;
  assigned_then_read = refl;
  positional_ends = refl;
  assignment_fails = refl;
  fault = refl;
  fault_colon = refl;
  no_fault = refl;
  default_splits = refl;
  quoted_default = refl;
  default_quoted = refl;
  assigned_splits = refl;
  assigned_quoted_splits = refl;
  assigned_whole = refl;
  quoted_alternative = refl;
  removed = refl;
  removed_unset = refl;
  home = refl;
  home_and_path = refl;
  home_stays_whole = refl;
  home_is_set = refl;
  home_is_unset = refl;
  user = refl;
  user_without_home = refl;
}

pub computed_as_expected : ComputedAsExpected
unfolding computes
computed_as_expected = record {
  assigned = refl;
  assigned_text = refl;
  assigned_unmet = refl;
  added_met = refl;
  added_to_assigned = refl;
  added_value = refl;
  and_zero = refl;
  and_one = refl;
  or_zero = refl;
  or_one = refl;
  choice_one = refl;
  choice_zero = refl;
  expanded_number = refl;
  expanded_text = refl;
  expanded_nothing = refl;
  expanded_unset = refl;
  expanded_blanks = refl;
  named_value = refl;
  division = refl;
  division_fails = refl;
}

pub names_as_expected : NamesAsExpected
unfolding computes
names_as_expected = record {
  star = refl;
  star_without_names = refl;
  star_quoted = refl;
  star_escaped = refl;
  bracket = refl;
  brackets = refl;
  question_mark = refl;
  value = refl;
  value_quoted = refl;
  value_splits_first = refl;
}

pub numbers_as_expected : NumbersAsExpected
unfolding computes
numbers_as_expected = record {
  numerals = refl;
  integers = refl;
  constants = refl;
  others = refl;
}

pub fields_as_expected : FieldsAsExpected
fields_as_expected = record {
  splitting = splitting_as_expected;
  parameters = parameters_as_expected;
  uses = uses_as_expected;
  computed = computed_as_expected;
  names = names_as_expected;
  numbers = numbers_as_expected;
}
