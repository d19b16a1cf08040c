-- Known compact certificates and their texts, computed.
use Rattle.std.proofs.Common.{refl}
use Rattle.sh_domain.specs.Compacts.{stated_commands, with_turn, turns_from, turn_lines, compact_text}
use Rattle.sh_domain.specs.CompactForms as form
use Rattle.sh_domain.specs.CompactForms.{three_counts, start_of, at_least, turn_of, read_turns, read_compact_sheet, read_compact_text, begins_compact, given_as}
use Rattle.sh_domain.specs.Forms.{read_text}
use Rattle.sh_domain.specs.Sheets.{function_at, claim_at}
use Rattle.sh_domain.specs.examples.CompactTexts.{CompactedAsExpected, StatedAsExpected, CompactsWritten, CompactsRead, CompactFaultsAsExpected, VersionsAsExpected}
use Rattle.sh_domain.proofs.TextLemmas.{computes}

-- what these texts compute
unfoldable compact : Unit {0}
unfolding computes stated_commands with_turn turns_from turn_lines compact_text three_counts form.counts_of start_of at_least turn_of read_turns read_compact_sheet read_compact_text begins_compact given_as read_text function_at claim_at
compact = tt

pub compacted_as_expected : CompactedAsExpected
unfolding compact
compacted_as_expected = record { empty = refl; skipped = refl; function = refl; loop = refl }

pub stated_as_expected : StatedAsExpected
unfolding compact
stated_as_expected = record {
  before = refl;
  zero = refl;
  nonzero = refl;
  head = refl;
  no_head = refl;
  second_head = refl;
  entry = refl;
  returns_zero = refl;
  returns_nonzero = refl;
  drops = refl;
  other_function = refl;
}

pub compacts_written : CompactsWritten
unfolding compact
compacts_written = record { empty = refl; skipped = refl; function = refl; loop = refl; nested = refl; dropping = refl }

pub compacts_read : CompactsRead
unfolding compact
compacts_read = record { empty = refl; skipped = refl; function = refl; loop = refl; nested = refl; dropping = refl }

pub compact_faults_as_expected : CompactFaultsAsExpected
unfolding compact
compact_faults_as_expected = record {
  nothing = refl;
  no_counts = refl;
  two_counts = refl;
  no_start = refl;
  unsorted = refl;
  line_missing = refl;
  line_more = refl;
  twice = refl;
  falling = refl;
  zero_before = refl;
  no_function = refl;
  other_function = refl;
}

pub versions_as_expected : VersionsAsExpected
unfolding compact
versions_as_expected = record {
  full = refl;
  compact = refl;
  nothing = refl;
  other_version = refl;
  open_line = refl;
  counts_of_full = refl;
  counts_of_compact = refl;
}
