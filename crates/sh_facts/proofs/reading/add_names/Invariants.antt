use Rattle.std.proofs.Common.{◌≡◌, ℕ, ◌||◌}
use Rattle.sh_facts.specs.Fields.{pieces_left}
use Rattle.sh_domain.specs.Forms.{pieces}
use Rattle.sh_domain.specs.KeptRows.{bits_of}
use Rattle.sh_domain.specs.Names.{is_among}
use Rattle.sh_domain.specs.Reading.{are_known}
use Rattle.sh_facts.proofs.FormLemmas.{room}
use Rattle.sh_facts.proofs.reading.add_names.Given as goal

-- the numbers so far and those of the names that are left are all; what is left is known if all is
abbrev pub invariant-loop-left : goal.invariant-loop-left
invariant-loop-left l = record {
  numbers : (k : ℕ) → (bits_of l.row k || is_among l.names (pieces_left 44 l.left) k) ≡ (bits_of l.initial.row k || is_among l.names (pieces 44 l.text) k);
  known : are_known l.names (pieces_left 44 l.left) ≡ are_known l.names (pieces 44 l.text);
  count : l.row.count ≡ l.initial.row.count;
}

abbrev pub decreases-loop-left : goal.decreases-loop-left
decreases-loop-left l = room l.left
