use Rattle.std.proofs.Common.{◌≡◌, fold, take}
use Rattle.sh_gains.specs.Knowing.{known_of}
use Rattle.sh_gains.specs.Walks as walks
use Rattle.sh_gains.proofs.gains.+assigned.Given as goal

-- what is known so far is what the pieces so far leave known
abbrev pub invariant-gain_steps-loop-link : goal.invariant-gain_steps-loop-link
invariant-gain_steps-loop-link l = known_of l.names l.known ≡ fold (walks.step_assigned l.script) (known_of l.names l.initial.known) (take l.link-index l.rest)
