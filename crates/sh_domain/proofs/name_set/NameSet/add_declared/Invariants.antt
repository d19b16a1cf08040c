use Rattle.std.proofs.Common.{◌≡◌, ℕ, Vec, Global, map, fold, take}
use Rattle.sh_domain.specs.Names.{with_text}
use Rattle.sh_domain.proofs.name_set.NameSet.add_declared.Given as goal

-- the names so far are those at the start and the texts so far
abbrev pub invariant-loop-text : goal.invariant-loop-text
invariant-loop-text l = l.self ≡ fold with_text l.initial.self (map (λ (t : Vec ℕ Global). t.items) (take l.text-index l.texts))
