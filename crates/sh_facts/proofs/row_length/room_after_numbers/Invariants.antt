use Rattle.std.proofs.Common.{◌≡◌, ◌+◌}
use Rattle.sh_facts.specs.Room.{bytes_from}
use Rattle.sh_facts.proofs.row_length.room_after_numbers.Given as goal

abbrev pub invariant-loop-number : goal.invariant-loop-number
invariant-loop-number l = l.left + bytes_from l.rows l.row l.names l.fn.from ≡ l.fn.room + bytes_from l.rows l.row l.names l.number
