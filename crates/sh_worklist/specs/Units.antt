-- Which units wait, by the numbers of definitions, and by 0 what is outside all definitions.
-- The standard has no such thing: the order in which a search goes over a script.
use Rattle.std.specs.Prelude.{ℕ, Bool, true, false, Option, Some, Result, Ok}
use Rattle.std.specs.declared.alloc.AllocError.{AllocError}
use Rattle.sh_worklist.specs.Flags.{is_in, limit_of}
use Rattle.sh_worklist.specs.declared.units.Unit.{Unit}
use Rattle.sh_worklist.specs.declared.units.Unit.TheVariants.{Outside, Body}
use Rattle.sh_worklist.specs.declared.units.Units.{Units}

abbrev pub number_of : Unit → ℕ
number_of Outside = 0
number_of (Body definition) = definition

-- the unit of this number waits
abbrev pub does_wait : Units → ℕ → Bool
does_wait units = is_in units.waiting

-- no pass over the body of this definition has begun
abbrev pub is_unseen : Units → ℕ → Bool
is_unseen units = is_in units.unseen

-- the number that those of all units are below
abbrev pub limit : Units → ℕ
limit units = limit_of units.waiting

-- what is next is the commands outside all definitions
abbrev pub gives_outside : Result (Option Unit) AllocError → Bool
gives_outside (Ok (Some Outside)) = true
gives_outside _ = false
