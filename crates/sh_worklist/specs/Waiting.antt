-- Which commands wait, and which commands have a waiting one inside.
-- The standard has no such thing: the order in which a search goes over a script.
use Rattle.std.specs.Prelude.{ℕ, Bool, ◌||◌}
use Rattle.sh_worklist.specs.Flags.{is_in, limit_of}
use Rattle.sh_worklist.specs.declared.waiting.Waiting.{Waiting}

-- the command waits
abbrev pub waits : Waiting → ℕ → Bool
waits waiting = is_in waiting.commands.own

-- a command inside of this one waits
abbrev pub waits_inside : Waiting → ℕ → Bool
waits_inside waiting = is_in waiting.commands.inner

-- the command waits, or one inside of it
abbrev pub waits_in : Waiting → ℕ → Bool
waits_in waiting n = waits waiting n || waits_inside waiting n

-- the number that those of all commands are below
abbrev pub limit : Waiting → ℕ
limit waiting = limit_of waiting.commands.own
