use Rattle.std.proofs.Common.{◌≡◌, ℕ, List, Vec, Global, Bor, map, take}
use Rattle.sh_domain.proofs.policy.copies_of.Given as goal

-- the texts so far are copied
abbrev pub invariant-loop-text : goal.invariant-loop-text
invariant-loop-text l = map (λ (t : Vec ℕ Global). t.items) l.copies.items ≡ map (λ (s : Bor (List ℕ)). s.now) (take l.text-index l.texts)
