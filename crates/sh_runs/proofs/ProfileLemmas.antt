-- The examples of the profile, computed.
use Rattle.std.proofs.Common.{refl}
use Rattle.sh_tree.specs.standard.program.Words.{part_text, word_text, part_has, word_has, is_plainly, is_pattern, static_of, words_in, operands_in}
use Rattle.sh_tree.specs.standard.language.Bytes.{is_first, name_length, decimal}
use Rattle.sh_runs.specs.standard.Kinds.{look_up, kind_of}
use Rattle.sh_runs.specs.Surroundings.{in_part, in_item, items_located}
use Rattle.sh_runs.specs.Profile.{has_inner_o, sets_known, unless, or_rule, is_at_most, are_enough, kind_rule, named_rule, words_rule, told_name, function_rule, command_rule, refused_at, least_refused, first_refused}
use Rattle.sh_runs.specs.examples.Runs.{elements_of, list}
use Rattle.sh_runs.specs.examples.Profile.{words_from, word, NamesAsExpected, RulesAsExpected, PlacesAsExpected, ProfileAsExpected}
use Rattle.sh_runs.specs.standard.runs.Numbers.{is_number, number_in}
use Rattle.sh_runs.specs.standard.runs.Operands.{is_dashed, is_set_option, ends_in_o}
use Rattle.sh_runs.specs.standard.runs.Rows.{is_no_action, traps_nothing, may_run, runs_utility, commands_utility, is_count, is_reserved_elsewhere}

-- what the profile of a known program computes
unfoldable pub computes : Unit {0}
unfolding part_text word_text part_has word_has is_plainly is_pattern static_of words_in is_first name_length decimal look_up kind_of in_part in_item items_located is_no_action traps_nothing may_run runs_utility commands_utility has_inner_o sets_known is_count is_reserved_elsewhere unless or_rule is_at_most are_enough kind_rule named_rule words_rule told_name function_rule command_rule refused_at least_refused first_refused elements_of list words_from word is_number number_in is_dashed is_set_option ends_in_o operands_in
computes = tt

pub names_as_expected : NamesAsExpected
unfolding computes
names_as_expected = record {
  special = refl;
  analysed = refl;
  refused = refl;
  utilities = refl;
}

pub rules_as_expected : RulesAsExpected
unfolding computes
rules_as_expected = record {
  computed_name = refl;
  refused_name = refl;
  append = refl;
  reserved_elsewhere = refl;
  utilities = refl;
  functions = refl;
  quoted_name = refl;
  traps = refl;
  trap_resets = refl;
  commands = refl;
  command_runs = refl;
  unsets = refl;
  sets = refl;
  set_words = refl;
  break_operands = refl;
  break_outside = refl;
  continue_operands = refl;
}

pub places_as_expected : PlacesAsExpected
unfolding computes
places_as_expected = record {
  in_words = refl;
  in_commands = refl;
  in_kinds = refl;
  in_lists = refl;
  in_loop = refl;
  out_of_loop = refl;
  past_part = refl;
  in_part = refl;
  past_part_in_part = refl;
  part_alone = refl;
  in_function_in_loop = refl;
  behind_loop = refl;
  in_function = refl;
  out_of_function = refl;
  outside = refl;
  least = refl;
  none = refl;
}

pub profile_as_expected : ProfileAsExpected
profile_as_expected = record {
  names = names_as_expected;
  rules = rules_as_expected;
  places = places_as_expected;
}
