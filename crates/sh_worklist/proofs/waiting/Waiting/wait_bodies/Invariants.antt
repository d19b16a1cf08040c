use Rattle.std.proofs.Common.{◌≡◌, take}
use Rattle.sh_worklist.specs.Units.{does_wait, limit}
use Rattle.sh_worklist.proofs.WaitLemmas.{AreAdded}
use Rattle.sh_worklist.proofs.waiting.Waiting.wait_bodies.Given as goal

abbrev pub invariant-loop-number : goal.invariant-loop-number
invariant-loop-number l = record {
  rest : l.self ≡ record l.initial.self { units = l.self.units };
  bodies : AreAdded (does_wait l.initial.self.units) (does_wait l.self.units) (limit l.initial.self.units) (limit l.self.units) (take l.number-index l.definitions);
}
