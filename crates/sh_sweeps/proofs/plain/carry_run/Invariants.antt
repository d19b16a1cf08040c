use Rattle.std.proofs.Common.{length, ◌-◌, ◌<◌, ◌≤◌, drop, take}
use Rattle.sh_domain.specs.declared.rule.FlowRule as rule
use Rattle.sh_domain.specs.Entries as entries
use Rattle.sh_domain.specs.Knowledge.{knowledge_facts}
use Rattle.sh_rules.specs.Behind.{both}
use Rattle.sh_sweeps.specs.Plain.{joined}
use Rattle.sh_sweeps.specs.Sweeps.{AreItems, ArePassed}
use Rattle.sh_sweeps.proofs.plain.carry_run.Given as goal

-- What is known was carried over the items up to the next one.
abbrev pub invariant-loop-next : goal.invariant-loop-next
invariant-loop-next l = record {
  from : l.place ≤ l.next;
  there : l.next < length l.items;
  placed : (by : rule.FlowRule) × (y : entries.Around) × AreItems l.subject by y (both (knowledge_facts l.subject.names.now l.known)) (drop l.next l.items);
  run : ArePassed l.subject (joined l.initial.known) (joined l.known) (take (l.next - l.place) (drop l.place l.items));
}

abbrev pub decreases-loop-next : goal.decreases-loop-next
decreases-loop-next l = length l.items - l.next
