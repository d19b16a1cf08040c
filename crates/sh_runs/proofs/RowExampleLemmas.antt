-- The examples of rows, computed.
use Rattle.std.proofs.Common.{refl}
use Rattle.sh_runs.specs.Admitted.{items_admitted}
use Rattle.sh_runs.specs.Counts.{gives_field, some_gives_field}
use Rattle.sh_runs.specs.Rows.{text_gives_field, kind_gives_fields, command_gives_fields}
use Rattle.sh_runs.specs.examples.Steps.{far, comes_to}
use Rattle.sh_runs.specs.examples.Rows.{lacks_row, RowsAsExpected}
use Rattle.sh_runs.specs.standard.runs.Rows.{is_marked, special_has_row, utility_has_row, manner_has_row, has_row}
use Rattle.sh_runs.proofs.ExampleLemmas as example
use Rattle.sh_runs.proofs.ProfileLemmas as profile

pub rows_as_expected : RowsAsExpected
unfolding example.computes profile.computes far comes_to items_admitted gives_field some_gives_field is_marked special_has_row utility_has_row manner_has_row has_row text_gives_field kind_gives_fields command_gives_fields lacks_row
rows_as_expected = record {
  without_mark = refl;
  in_another_process = refl;
  without_meaning = refl;
  computed = refl;
  with_mark = refl;
  in_its_process = refl;
  with_meaning = refl;
  hidden = refl;
}
