-- Known certificates and their texts, computed.
use Rattle.std.proofs.Common.{refl}
use Rattle.std.specs.Fmt.{digits}
use Rattle.sh_domain.specs.examples.Programs.{names_from, names_in}
use Rattle.sh_domain.specs.Forms as form
use Rattle.sh_domain.specs.Forms.{onto_first, pieces, leads_no_zero, number_in, is_rising, both, drops_of, known_of, claim_in, claims_of, head_of, command_of, function_claims_of, function_of, counts_of, onto_front, cut_at, formed, whole_line, behind, read_lines, ended, read_sheet}
use Rattle.sh_domain.specs.Sheets.{joined, claim_text, head_fields, numbered_lines, certificate_text}
use Rattle.sh_domain.specs.examples.Texts.{WrittenAsExpected, ReadAsExpected, FaultsAsExpected}
use Rattle.sh_tree.specs.standard.language.Bytes.{is_first}

-- what these texts compute
unfoldable pub computes : Unit {0}
unfolding digits names_from names_in onto_first pieces leads_no_zero number_in is_rising form.names_in both drops_of known_of claim_in claims_of head_of command_of function_claims_of function_of counts_of onto_front cut_at formed whole_line behind read_lines ended read_sheet joined claim_text head_fields numbered_lines certificate_text is_first
computes = tt

pub written_as_expected : WrittenAsExpected
unfolding computes
written_as_expected = record {
  empty = refl;
  skipped = refl;
  function = refl;
  loop = refl;
}

pub read_as_expected : ReadAsExpected
unfolding computes
read_as_expected = record {
  empty = refl;
  skipped = refl;
  function = refl;
  loop = refl;
}

pub faults_as_expected : FaultsAsExpected
unfolding computes
faults_as_expected = record {
  nothing = refl;
  open_line = refl;
  other_version = refl;
  no_counts = refl;
  two_blanks = refl;
  leading_zero = refl;
  line_missing = refl;
  line_more = refl;
  other_number = refl;
  unsorted = refl;
  twice = refl;
  zero_before = refl;
  too_many = refl;
  job_is_no_function = refl;
  comma_at_end = refl;
  blank_at_end = refl;
}
