use Rattle.std.proofs.Common.{◌≡◌, ◌+◌, ◌-◌, ◌≤◌, length}
use Rattle.sh_facts.specs.Room.{bytes_from}
use Rattle.sh_facts.proofs.row_length.room_after_names.Given as goal

abbrev pub invariant-loop-from : goal.invariant-loop-from
invariant-loop-from l = record {
  within : l.from ≤ length l.names;
  left : l.left + bytes_from l.rows l.row l.names 0 ≡ l.fn.room + bytes_from l.rows l.row l.names l.from;
}

abbrev pub decreases-loop-from : goal.decreases-loop-from
decreases-loop-from l = length l.names - l.from
