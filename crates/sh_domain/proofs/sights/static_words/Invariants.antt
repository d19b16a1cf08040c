use Rattle.std.proofs.Common.{◌≡◌, ◌++◌, drop}
use Rattle.std.specs.List.{flat_map}
use Rattle.sh_domain.specs.Sights as spec
use Rattle.sh_domain.specs.SightWalks.{seen_in}
use Rattle.sh_domain.proofs.sights.static_words.Given as goal

-- the static words so far and those of what is left are all
abbrev pub invariant-loop-word : goal.invariant-loop-word
invariant-loop-word l = seen_in l.seen.items ++ flat_map (λ w. spec.static_sight l.script w.now) (drop l.word-index l.words) ≡ flat_map (λ w. spec.static_sight l.script w.now) l.words
