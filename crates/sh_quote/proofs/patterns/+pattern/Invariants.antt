use Rattle.std.proofs.Common.{◌≡◌, drop}
use Rattle.std.specs.List.{list_any}
use Rattle.sh_quote.specs.Patterns as spec
use Rattle.sh_quote.proofs.patterns.+pattern.Given as goal

-- None of those before begins one.

abbrev pub invariant-parts_begin-loop-part : goal.invariant-parts_begin-loop-part
invariant-parts_begin-loop-part l = list_any (spec.part_begins l.script) (drop l.part-index l.parts) ≡ list_any (spec.part_begins l.script) l.parts
