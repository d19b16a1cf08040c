use Rattle.std.proofs.Common.{◌≡◌, ◌<◌, length, sym, rules}
use Rattle.std.proofs.lemmas.Result.{err_from_is_err_and}
use Rattle.sh_facts.specs.CompactFields.{counts_of, counts_left, start_left}
use Rattle.sh_facts.specs.Fields.{claim_of, text_left, outcome}
use Rattle.sh_facts.proofs.CompactLineLemmas.{sheet_first, sheet_counts, sheet_start, sheet_turns, sheet_functions, sheet_more, sheet_whole}
use Rattle.sh_facts.proofs.compact_lines.test_compact.Goals as goal

pub returns-in_err-left : goal.returns-in_err-left
unfolding text_left outcome
returns-in_err-left c =
    let p = err_from_is_err_and c.from_residual.result c.from_residual.ensures.1 in
    rw (p.1, p.2) (sym (sheet_first c.args.text.now _ (sym c.in_err-left.ensures)))

pub returns-in_err-counts : goal.returns-in_err-counts
unfolding text_left counts_left outcome
returns-in_err-counts c =
    let p = err_from_is_err_and c.from_residual-in_err-counts.result c.from_residual-in_err-counts.ensures.1 in
    rw (p.1, p.2) (sym (sheet_counts c.args.text.now c.in_ok-left.left.now (sym c.in_ok-left.ensures) _ (sym c.in_err-counts.ensures)))

pub returns-in_err-left-2 : goal.returns-in_err-left-2
unfolding text_left counts_left start_left outcome
returns-in_err-left-2 c =
    let p = err_from_is_err_and c.from_residual-in_err-left-2.result c.from_residual-in_err-left-2.ensures.1 in
    rw (p.1, p.2) (sym (sheet_start c.args.text.now c.in_ok-left.left.now (sym c.in_ok-left.ensures) c.in_ok-counts.left.now (counts_of c.in_ok-counts.counts) (sym c.in_ok-counts.ensures) _ (sym c.in_err-left-2.ensures)))

pub returns-in_err-left-3 : goal.returns-in_err-left-3
unfolding text_left counts_left start_left outcome
returns-in_err-left-3 c =
    let p = err_from_is_err_and c.from_residual-in_err-left-3.result c.from_residual-in_err-left-3.ensures.1 in
    rw (p.1, p.2) (sym (sheet_turns c.args.text.now c.in_ok-left.left.now (sym c.in_ok-left.ensures) c.in_ok-counts.left.now (counts_of c.in_ok-counts.counts) (sym c.in_ok-counts.ensures)
    c.in_ok-left-2.left.now (claim_of c.in_ok-left-2.field-0-0) (sym c.in_ok-left-2.ensures) _ (sym c.in_err-left-3.ensures)))

pub returns-in_err-left-4 : goal.returns-in_err-left-4
unfolding text_left counts_left start_left outcome
returns-in_err-left-4 c =
    let p = err_from_is_err_and c.from_residual-in_err-left-4.result c.from_residual-in_err-left-4.ensures.1 in
    rw (p.1, p.2) (sym (sheet_functions c.args.text.now c.in_ok-left.left.now (sym c.in_ok-left.ensures) c.in_ok-counts.left.now (counts_of c.in_ok-counts.counts) (sym c.in_ok-counts.ensures)
    c.in_ok-left-2.left.now (claim_of c.in_ok-left-2.field-0-0) (sym c.in_ok-left-2.ensures) c.in_ok-left-3.left.now (sym c.in_ok-left-3.ensures) _ (sym c.in_err-left-4.ensures)))

pub returns-then-is_empty : goal.returns-then-is_empty
unfolding text_left counts_left start_left outcome
returns-then-is_empty c =
    let none : length c.in_ok-left-4.left.now ≡ 0 = search rules in
    sym (sheet_whole c.args.text.now c.in_ok-left.left.now (sym c.in_ok-left.ensures) c.in_ok-counts.left.now (counts_of c.in_ok-counts.counts) (sym c.in_ok-counts.ensures)
    c.in_ok-left-2.left.now (claim_of c.in_ok-left-2.field-0-0) (sym c.in_ok-left-2.ensures) c.in_ok-left-3.left.now (sym c.in_ok-left-3.ensures) c.in_ok-left-4.left.now (sym c.in_ok-left-4.ensures) none)

pub returns-else-is_empty : goal.returns-else-is_empty
unfolding text_left counts_left start_left outcome
returns-else-is_empty c =
    let more : 0 < length c.in_ok-left-4.left.now = search rules in
    sym (sheet_more c.args.text.now c.in_ok-left.left.now (sym c.in_ok-left.ensures) c.in_ok-counts.left.now (counts_of c.in_ok-counts.counts) (sym c.in_ok-counts.ensures)
    c.in_ok-left-2.left.now (claim_of c.in_ok-left-2.field-0-0) (sym c.in_ok-left-2.ensures) c.in_ok-left-3.left.now (sym c.in_ok-left-3.ensures) c.in_ok-left-4.left.now (sym c.in_ok-left-4.ensures) more)
