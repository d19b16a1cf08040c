use Rattle.std.proofs.Common.{true, sym}
use Rattle.sh_rules.proofs.DropLemmas.{all_there, all_empty, all_short, all_away}
use Rattle.sh_rules.proofs.claims.Claims.drops_like.Goals as goal

pub returns-in-Some-function_at : goal.returns-in-Some-function_at
returns-in-Some-function_at c =
    let s = c.args.self.now in
    all_there s _ c.args.callee.now c.in-Some.called.now c.in-Some-function_at.entry.now c.includes.result s.numbered s.sized
    (sym c.in-Some.ensures) (sym c.in-Some-function_at.ensures) c.includes.ensures

pub returns-then-is_row_empty : goal.returns-then-is_row_empty
returns-then-is_row_empty c =
    let s = c.args.self.now in
    all_empty s _ c.args.callee.now c.in-Some.called.now true c.is_row_empty-then-is_row_empty.result s.numbered s.sized
    (sym c.in-Some.ensures) (sym c.in-None-function_at.ensures) c.if-is_row_empty.ensures c.is_row_empty-then-is_row_empty.ensures

pub returns-else-is_row_empty : goal.returns-else-is_row_empty
returns-else-is_row_empty c =
    let s = c.args.self.now in
    all_short s _ c.args.callee.now c.in-Some.called.now c.is_row_empty.result c.if-is_row_empty.false s.numbered s.sized
    (sym c.in-Some.ensures) (sym c.in-None-function_at.ensures) c.is_row_empty.ensures

pub returns-in-None : goal.returns-in-None
returns-in-None c =
    let s = c.args.self.now in
    all_away s _ c.args.callee.now (sym c.in-None.ensures)
