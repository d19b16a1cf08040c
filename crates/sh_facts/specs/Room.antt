-- Room for the text of a certificate, taken by a piece at a time.
-- The standard has no such thing: the lengths of what `sh_domain.specs.Sheets` puts together.
use Rattle.std.specs.Prelude.{◌≡◌, ℕ, ◌+◌, ◌<◌, Bool, if◌then◌else◌, List, [], ◌∷◌, length, drop, Option, MatchOption}
use Rattle.sh_tree.specs.standard.program.Syntax.{Text}
use Rattle.sh_domain.specs.declared.rows.RowId.{RowId}
use Rattle.sh_domain.specs.KeptRows.{KeptRows, holds_at}

-- the room that is left after so many bytes, or nothing if they have no room
abbrev pub Leaves : (room bytes : ℕ) → Option ℕ → Type 0
Leaves room bytes left = MatchOption left (room < bytes) (λ l. l + bytes ≡ room)

-- the bytes of the names whose numbers, from k on, are held, each with one byte after it
unfoldable pub held_bytes : (ℕ → Bool) → ℕ → List Text → ℕ
held_bytes held k [] = 0
held_bytes held k (t ∷ ts) = (if held k then length t + 1 else 0) + held_bytes held (k + 1) ts

-- of the names of a row, those from the number k on
unfoldable pub bytes_from : KeptRows → RowId → List Text → ℕ → ℕ
bytes_from rows id names k = held_bytes (λ n. holds_at rows.rows id.index n) k (drop k names)

-- The room that is left after the names of a row from one number up to another. It is nothing if
-- the names from the first number on do not all fit.
abbrev pub LeavesNames : KeptRows → RowId → List Text → (from to room : ℕ) → Option ℕ → Type 0
LeavesNames rows id names from to room left = MatchOption left (room < bytes_from rows id names from) (λ l. l + bytes_from rows id names from ≡ room + bytes_from rows id names to)
