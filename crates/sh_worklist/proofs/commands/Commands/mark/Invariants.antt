use Rattle.std.proofs.Common.{◌≡◌}
use Rattle.sh_worklist.proofs.commands.Commands.mark.Given as goal

abbrev pub invariant-loop : goal.invariant-loop
invariant-loop l = record { own : l.self.own ≡ l.initial.self.own; places : l.self.places ≡ l.initial.self.places }
