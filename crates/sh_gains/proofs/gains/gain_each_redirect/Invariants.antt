use Rattle.std.proofs.Common.{◌≡◌, fold, take}
use Rattle.sh_gains.specs.Knowing.{known_of}
use Rattle.sh_gains.specs.Walks as walks
use Rattle.sh_gains.proofs.gains.gain_each_redirect.Given as goal

-- what is known so far is what the pieces so far leave known
abbrev pub invariant-loop-redirect : goal.invariant-loop-redirect
invariant-loop-redirect l = known_of l.names l.known ≡ fold (walks.redirect_gained l.script) (known_of l.names l.initial.known) (take l.redirect-index l.redirects)
