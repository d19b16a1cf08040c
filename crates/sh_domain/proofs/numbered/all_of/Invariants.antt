use Rattle.std.proofs.Common.{◌≡◌, take, map}
use Rattle.sh_domain.specs.Certificates.{numbered}
use Rattle.sh_domain.specs.Numbered.{pair_of}
use Rattle.sh_domain.proofs.numbered.all_of.Given as goal

-- the names so far
abbrev pub invariant-loop-number : goal.invariant-loop-number
invariant-loop-number l = map pair_of l.all.items ≡ take l.number (numbered 0 l.fn.names)
