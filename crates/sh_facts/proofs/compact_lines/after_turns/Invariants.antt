use Rattle.std.proofs.Common.{◌≡◌, ◌+◌, ◌-◌}
use Rattle.sh_facts.specs.Fields.{left_of}
use Rattle.sh_domain.specs.CompactForms.{read_turns}
use Rattle.sh_facts.proofs.compact_lines.after_turns.Given as goal

-- what is after the lines that are left is what is after all
abbrev pub invariant-loop-done : goal.invariant-loop-done
invariant-loop-done l = left_of (read_turns 4 0 l.count l.text) ≡ left_of (read_turns (4 + l.done) l.least (l.count - l.done) l.left)
