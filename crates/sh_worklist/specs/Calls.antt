-- The commands of a script that call each function.
-- POSIX.1-2024, XCU 2.9.1.4 (command search and execution).
use Rattle.std.specs.Prelude.{ℕ, suc, ◌==◌, Bool, false, List, [], ◌∷◌, ◌++◌, map, get_or, slice_set, Option, Some, None}
use Rattle.std.specs.List.{filter}
use Rattle.sh_runs.specs.Calls.{Table, callee_at}
use Rattle.sh_worklist.specs.declared.calls.Calls.{Calls}

-- the lists that are kept, by the indices of the functions
abbrev pub lists_in : Calls → List (List ℕ)
lists_in calls = map (λ v. v.items) calls.callers.items

abbrev pub callers_in : Calls → ℕ → List ℕ
callers_in calls f = get_or (lists_in calls) f []

-- the list of a function with one more command
abbrev pub with_call : List (List ℕ) → ℕ → ℕ → List (List ℕ)
with_call lists f n = slice_set lists f (get_or lists f [] ++ n ∷ [])

abbrev pub is_number : ℕ → Option ℕ → Bool
is_number f None = false
is_number f (Some g) = f == g

-- the command calls the function of this index
unfoldable pub does_call : Table → ℕ → ℕ → Bool
does_call t f n = is_number (suc f) (callee_at t n)

-- the commands that call the function of this index, by rising numbers
abbrev pub callers_of : Table → ℕ → List ℕ
callers_of t f = filter (does_call t f) (map (λ r. r.0) t.rows)
