use Rattle.std.proofs.Common.{◌≡◌, ◌+◌, ◌-◌}
use Rattle.sh_facts.specs.Fields.{left_of}
use Rattle.sh_domain.specs.Forms.{read_lines, function_in}
use Rattle.sh_facts.proofs.lines.after_functions.Given as goal

-- what is after the lines that are left is what is after all
abbrev pub invariant-loop-done : goal.invariant-loop-done
invariant-loop-done l = left_of (read_lines function_in (l.first) 1 l.count l.text) ≡ left_of (read_lines function_in (l.first + l.done) (l.done + 1) (l.count - l.done) l.left)
