use Rattle.std.proofs.Common.{◌≡◌}
use Rattle.sh_facts.specs.Fields.{test_of, pieces_left}
use Rattle.sh_domain.specs.Forms.{pieces, are_rising}
use Rattle.sh_facts.proofs.FormLemmas.{rises_behind, room}
use Rattle.sh_facts.proofs.forms.are_rising.Given as goal

-- whether what is left rises after the last name is whether all rise
abbrev pub invariant-loop-left : goal.invariant-loop-left
invariant-loop-left l = rises_behind (test_of l.held) l.last (pieces_left 44 l.left) ≡ are_rising (test_of l.held) (pieces 44 l.text)

abbrev pub decreases-loop-left : goal.decreases-loop-left
decreases-loop-left l = room l.left
