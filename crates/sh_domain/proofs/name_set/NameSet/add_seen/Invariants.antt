use Rattle.std.proofs.Common.{◌≡◌, map, fold, take}
use Rattle.sh_domain.specs.declared.sights.Seen.{Seen}
use Rattle.sh_domain.specs.Names.{with_text}
use Rattle.sh_domain.proofs.name_set.NameSet.add_seen.Given as goal

-- the names so far are those at the start and the texts so far
abbrev pub invariant-loop-one : goal.invariant-loop-one
invariant-loop-one l = l.self ≡ fold with_text l.initial.self (map (λ (x : Seen). x.name.items) (take l.one-index l.seen))
