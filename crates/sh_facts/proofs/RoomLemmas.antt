-- Room after each piece, one piece after another.
use Rattle.std.proofs.Common.{◌≡◌, ℕ, ◌+◌, ◌-◌, ◌<◌, ◌≤◌, List, Option, Some, None, arith}
use Rattle.std.specs.Option.{SomeIff}
use Rattle.sh_domain.specs.KeptRows.{KeptRows}
use Rattle.sh_domain.specs.declared.rows.RowId.{RowId}
use Rattle.sh_tree.specs.standard.program.Syntax.{Text}
use Rattle.sh_facts.specs.Room.{Leaves, LeavesNames, bytes_from}

-- so many bytes taken at once
pub taken : (room n : ℕ) (r : Option ℕ) → SomeIff r (n ≤ room) (room - n) → Leaves room n r
taken room n None h = omega (arith, h)
taken room n (Some l) h = omega (arith, h.0, h.1)

-- a first piece that has no room
pub no_room : (room n : ℕ) (r : Option ℕ) → r ≡ None → room < n → Leaves room n r
no_room room n None e l = l
no_room room n (Some x) e l = absurd cc

-- and the others after the first
pub others : (room left first behind n : ℕ) (r : Option ℕ) → left + first ≡ room → n ≡ first + behind → Leaves left behind r → Leaves room n r
others room left first behind n None e s h = omega (arith, h)
others room left first behind n (Some l) e s h = omega (arith, h)

-- names of a row that have no room, and a last byte after the others
pub no_room_for_names : (rows : KeptRows) (id : RowId) (names : List Text) (from to room : ℕ) (r : Option ℕ) → r ≡ None → room < bytes_from rows id names from → LeavesNames rows id names from to room r
no_room_for_names rows id names from to room None e l = l
no_room_for_names rows id names from to room (Some x) e l = absurd cc

pub last_byte : (rows : KeptRows) (id : RowId) (names : List Text) (from to room left long : ℕ) (r : Option ℕ) → left + long ≡ room → bytes_from rows id names from ≡ (long + 1) + bytes_from rows id names to
    → SomeIff r (1 ≤ left) (left - 1) → LeavesNames rows id names from to room r
last_byte rows id names from to room left long None e s h = omega (arith, h)
last_byte rows id names from to room left long (Some l) e s h = omega (arith, h.0, h.1)
