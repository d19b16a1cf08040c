use Rattle.sh_scan.proofs.PieceLemmas.{begins_later, begins_not}
use Rattle.sh_scan.proofs.pieces.begins_so.Goals as goal

pub returns-then-first : goal.returns-then-first
returns-then-first c =
    begins_later c.args.front.now c.args.rest.now c.args.text.now c.min-shared.result _ _ c.min-shared.ensures c.starts_with-first.ensures.value c.if-first.true
    c.starts_with.ensures.value

pub returns-else-first : goal.returns-else-first
returns-else-first c =
    begins_not c.args.front.now c.args.rest.now c.args.text.now c.min-shared.result _ c.min-shared.ensures c.starts_with-first.ensures.value c.if-first.false
