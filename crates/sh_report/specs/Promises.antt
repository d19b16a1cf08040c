-- What an exit status of zero promises of the bytes that were read.
-- POSIX.1-2024, XCU 2.3 (token recognition), 2.10 (shell grammar), 2.6.2 (parameter expansion),
-- 2.6.5 (field splitting), 2.6.6 (pathname expansion).
use Rattle.std.specs.Prelude.{◌≡◌, ℕ, Bool, List}
use Rattle.sh_answers.specs.declared.task.Action.TheVariants.{Cert, Print}
use Rattle.sh_answers.specs.declared.task.Task.{Task}
use Rattle.sh_accept.specs.Theorem.{IsSafe}

-- If a lint or a check ends with zero, the text has one reading, and no run of that has an event.
abbrev pub EndsSafe : Task → List ℕ → ℕ → Type 0
EndsSafe task b status = ((full : Bool) → task.action ≡ Cert full → ⊥) → (task.action ≡ Print → ⊥) → status ≡ 0 → IsSafe b task.policy
