use Rattle.std.proofs.Common.{◌≡◌, ℕ, Vec, Global, map, fold, take}
use Rattle.std.specs.Hash.DefaultHasher as whole
use Rattle.sh_hash.proofs.name_hash.write_names.Given as goal

-- the names so far were written
abbrev pub invariant-loop-name : goal.invariant-loop-name
invariant-loop-name l = l.texts ≡ fold whole.write l.initial.texts (map (λ (t : Vec ℕ Global). t.items) (take l.name-index l.names))
