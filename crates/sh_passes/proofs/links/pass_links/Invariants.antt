use Rattle.std.proofs.Common.{drop, ◌-◌, ◌≤◌}
use Rattle.sh_domain.specs.Entries.{Around}
use Rattle.sh_sweeps.specs.Sweeps.{AreLinks, known_behind}
use Rattle.sh_passes.proofs.links.pass_links.Given as goal

abbrev pub invariant-loop-next : goal.invariant-loop-next
invariant-loop-next l = record {
  from : l.place ≤ l.next;
  there : l.next ≤ l.end;
  left : (y : Around) → AreLinks l.subject y (known_behind l.subject l.behind) (drop l.place l.links) → AreLinks l.subject y (known_behind l.subject l.behind) (drop l.next l.links);
}

abbrev pub decreases-loop-next : goal.decreases-loop-next
decreases-loop-next l = l.end - l.next
