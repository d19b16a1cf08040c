-- Where commands are.
-- The standard has no such thing: the order in which a search goes over a script.
use Rattle.std.specs.Prelude.{ℕ, List, None, get_or}
use Rattle.sh_worklist.specs.declared.commands.Inside.{Inside}
use Rattle.sh_worklist.specs.declared.units.Unit.TheVariants.{Outside}

-- where a command was seen; one that was not seen is outside
abbrev pub place_in : List Inside → ℕ → Inside
place_in places n = get_or places n (record { command = None; unit = Outside })
