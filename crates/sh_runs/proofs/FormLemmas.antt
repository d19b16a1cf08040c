-- The examples of forms, computed.
use Rattle.std.proofs.Common.{refl}
use Rattle.sh_runs.specs.Counts.{is_all, part_has_all, gives_field, some_gives_field, is_parameters, count_of}
use Rattle.sh_runs.specs.examples.Forms.{CountsAsExpected, QuotingAsExpected, FormsAsExpected}
use Rattle.sh_runs.specs.Quoting.{is_numeric, gives_number, is_quotation, are_quotations, is_quoted_alternative, is_whole, are_whole, part_begins_pattern, part_mentions, is_about_separators, is_steady}

pub counts_as_expected : CountsAsExpected
unfolding is_all part_has_all gives_field some_gives_field is_parameters count_of
counts_as_expected = record {
  parameters = refl;
  at_least_one = refl;
  one_by_quotes = refl;
  perhaps_no_parameters = refl;
  perhaps_no_default = refl;
}

pub quoting_as_expected : QuotingAsExpected
unfolding is_numeric gives_number is_quotation are_quotations is_quoted_alternative is_whole are_whole part_begins_pattern part_mentions is_about_separators is_steady
quoting_as_expected = record {
  whole = refl;
  perhaps_split = refl;
  patterns = refl;
  no_patterns = refl;
  separators = refl;
  no_separators = refl;
  steady = refl;
  unsteady = refl;
}

pub forms_as_expected : FormsAsExpected
forms_as_expected = record {
  counts = counts_as_expected;
  quoting = quoting_as_expected;
}
