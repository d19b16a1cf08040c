-- What the counts of an end say.
-- shset's own reading and writing; the standard says nothing of it.
use Rattle.std.specs.Prelude.{◌≡◌, ◌≢◌, ℕ, ◌+◌, ◌-◌, ◌<◌, ◌≤◌, ◌^◌, ◌⊎◌, Result, Ok, Err, if◌then◌else◌, ◌==◌}
use Rattle.std.specs.IoError.{error_kind}
use Rattle.std.specs.declared.io.ErrorKind.TheVariants as kind
use Rattle.std.specs.declared.io.Error.{Error}
use Rattle.sh_answers.specs.declared.ends.Counts.{Counts}
use Rattle.sh_answers.specs.declared.ends.Broken.{Broken}
use Rattle.sh_answers.specs.declared.ends.Broken.TheVariants.{Interrupted, Failed}

-- nothing went wrong yet
abbrev pub no_counts : Counts
no_counts = record { errors = 0; interruptions = 0; empty = 0 }

-- each count can rise by one
abbrev pub CanCount : Counts → Type 0
CanCount c = (c.errors < 2 ^ 64 - 1) × (c.interruptions < 2 ^ 64 - 1) × (c.empty < 2 ^ 64 - 1)

-- each count can rise as far as one run raises it
abbrev pub HasRoom : Counts → Type 0
HasRoom c = (c.errors ≤ 2 ^ 64 - 2049) × (c.interruptions ≤ 2 ^ 64 - 2049) × (c.empty ≤ 2 ^ 64 - 2049)

-- the counts after a call that moved n bytes and had room for so many
abbrev pub with_moved : ℕ → ℕ → Counts → Counts
with_moved n room c = if n == 0 then (if room == 0 then c else record c { empty = c.empty + 1 }) else c

-- the counts after a call that answered r and had room for so many bytes
abbrev pub counts_after : Result ℕ Broken → ℕ → Counts → Counts
counts_after (Ok n) room c = with_moved n room c
counts_after (Err Interrupted) room c = record c { interruptions = c.interruptions + 1 }
counts_after (Err Failed) room c = record c { errors = c.errors + 1 }

-- what an end answers for what its reader or writer answered: an interruption if the error is one
-- that may be tried again, and a failure if it is any other
abbrev pub Tells : Result ℕ Error → Result ℕ Broken → Type 0
Tells (Ok n) r = r ≡ Ok n
Tells (Err e) r = ((error_kind e ≡ kind.Interrupted) × (r ≡ Err Interrupted)) ⊎ ((error_kind e ≢ kind.Interrupted) × (r ≡ Err Failed))

-- the end was interrupted between the two counts, and so seldom that it is borne
abbrev pub Borne : Counts → Counts → Type 0
Borne old new = (old.interruptions ≤ new.interruptions) × (new.interruptions ≤ old.interruptions + 1024)

-- nothing else went wrong
abbrev pub BoreOnly : Counts → Counts → Type 0
BoreOnly old new = (new.errors ≡ old.errors) × Borne old new × (new.empty ≡ old.empty)

-- nothing else went wrong, except for one call that moved nothing
abbrev pub MovedNothing : Counts → Counts → Type 0
MovedNothing old new = (new.errors ≡ old.errors) × Borne old new × (new.empty ≡ old.empty + 1)

-- the end failed between the two counts: it gave one error, or was interrupted once more than is
-- borne
abbrev pub FailedBetween : Counts → Counts → Type 0
FailedBetween old new =
    ((new.errors ≡ old.errors + 1) × Borne old new × (new.empty ≡ old.empty))
    ⊎ ((new.errors ≡ old.errors) × (new.interruptions ≡ old.interruptions + 1025) × (new.empty ≡ old.empty))

-- or, as a writer, it took nothing of a piece
abbrev pub RefusedBetween : Counts → Counts → Type 0
RefusedBetween old new = FailedBetween old new ⊎ MovedNothing old new
