use Rattle.std.proofs.Common.{◌≡◌, map, take}
use Rattle.sh_domain.specs.declared.numbered.Numbered.{Numbered}
use Rattle.sh_domain.proofs.numbered.numbers_of.Given as goal

-- the numbers so far
abbrev pub invariant-loop-numbered : goal.invariant-loop-numbered
invariant-loop-numbered l = l.numbers.items ≡ map (λ (n : Numbered). n.number) (take l.numbered-index l.order)
