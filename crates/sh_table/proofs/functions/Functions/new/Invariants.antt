use Rattle.std.proofs.Common.{◌≡◌, map, fold, drop}
use Rattle.sh_table.specs.Found.{definition_in, with_defined}
use Rattle.sh_table.proofs.functions.Functions.new.Given as goal

-- the functions so far with those that are left are all
abbrev pub invariant-loop-definition : goal.invariant-loop-definition
invariant-loop-definition l =
    fold with_defined l.functions (map (definition_in l.script) (drop l.definition-index l.definitions)) ≡ fold with_defined l.initial.functions (map (definition_in l.script) l.definitions)
