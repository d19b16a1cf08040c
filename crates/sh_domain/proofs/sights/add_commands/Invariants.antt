use Rattle.std.proofs.Common.{◌≡◌, ◌++◌, drop}
use Rattle.std.specs.List.{flat_map}
use Rattle.sh_domain.specs.Sights as spec
use Rattle.sh_domain.specs.SightWalks.{seen_in}
use Rattle.sh_domain.proofs.sights.add_commands.Given as goal

-- what is found and what is left are the whole
abbrev pub invariant-loop-command : goal.invariant-loop-command
invariant-loop-command l = seen_in l.found.items ++ flat_map (λ c. spec.in_command l.script c.now) (drop l.command-index l.commands) ≡ seen_in l.initial.found.items ++ flat_map (λ c. spec.in_command l.script c.now) l.commands
