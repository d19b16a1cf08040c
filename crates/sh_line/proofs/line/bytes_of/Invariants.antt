use Rattle.std.proofs.Common.{◌≡◌, map, take}
use Rattle.sh_line.proofs.line.bytes_of.Given as goal

abbrev pub invariant-loop-text : goal.invariant-loop-text
invariant-loop-text l = map (λ s. s.now) l.bytes.items ≡ map (λ s. s.now) (take l.text-index l.texts)
