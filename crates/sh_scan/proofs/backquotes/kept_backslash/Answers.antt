use Rattle.std.proofs.Common.{arith}
use Rattle.sh_scan.proofs.BackquoteLemmas.{kept_found, kept_first, kept_goes, kept_none}
use Rattle.sh_scan.proofs.backquotes.kept_backslash.Goals as goal

pub returns-then-is_kept_first-clause-value : goal.returns-then-is_kept_first-clause-value
returns-then-is_kept_first-clause-value c =
    kept_found c.args.quoted c.args.text.now c.loop-place.place c.loop-place.invariant (omega arith) c.is_kept_first.result c.is_kept_first.ensures.value c.if-is_kept_first.true

pub returns-then-is_kept_first-clause-first : goal.returns-then-is_kept_first-clause-first
returns-then-is_kept_first-clause-first c =
    kept_first c.args.quoted c.args.text.now c.loop-place.place c.loop-place.invariant (omega arith) c.is_kept_first.result c.is_kept_first.ensures.value c.if-is_kept_first.true

pub loop-place-preserved : goal.loop-place-preserved
loop-place-preserved c =
    kept_goes c.args.quoted c.args.text.now c.loop-place.place c.loop-place.invariant (omega arith) c.is_kept_first.result c.is_kept_first.ensures.value c.if-is_kept_first.false

pub returns-clause-value : goal.returns-clause-value
returns-clause-value c = kept_none c.args.quoted c.args.text.now c.loop-place.place c.loop-place.invariant (omega arith)
