-- Clauses of private functions: pending here-documents as they are printed, each after a newline
-- and up to the newline of its end line.
-- POSIX.1-2024, XCU 2.7.4 (here-document).
use Rattle.std.specs.Prelude.{ℕ, Bool, true, false, List, [], ◌∷◌, ◌++◌}
use Rattle.std.specs.List.{flat_map}
use Rattle.sh_print.specs.Bare.{Text, Document}
use Rattle.sh_print.specs.Layout.{tabs}

abbrev pub lines_of : Document → Text
lines_of d = 10 ∷ (d.body ++ d.end)

abbrev pub pending_text : List Document → Text
pending_text documents = flat_map lines_of documents

-- what comes after them, or if there are none
abbrev pub gap : (depth : ℕ) → (none : Bool) → Text
gap depth true = 32 ∷ []
gap depth false = 10 ∷ tabs depth
