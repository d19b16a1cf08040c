use Rattle.std.proofs.Common.{◌≡◌, ◌++◌, drop}
use Rattle.std.specs.List.{flat_map}
use Rattle.sh_quote.specs.Unquoted.{part_told}
use Rattle.sh_quote.proofs.unquoted.add_parts.Given as goal

-- the places so far and those that are left are all
abbrev pub invariant-loop-part : goal.invariant-loop-part
invariant-loop-part l = l.places.items ++ flat_map (part_told l.script l.numbers) (drop l.part-index l.parts) ≡ l.initial.places.items ++ flat_map (part_told l.script l.numbers) l.parts
