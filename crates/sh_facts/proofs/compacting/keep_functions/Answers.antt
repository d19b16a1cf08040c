use Rattle.std.proofs.Common.{◌≡◌, ◌+◌, ◌<◌, List, length, get_or, sym, ap, subst}
use Rattle.sh_domain.specs.declared.certificate.Facts.TheVariants.{NotReached}
use Rattle.sh_domain.specs.declared.certificate.FunctionEntry.{FunctionEntry}
use Rattle.sh_facts.proofs.CompactingLemmas.{KeepsFunctions, functions_on}
use Rattle.sh_facts.proofs.compacting.keep_functions.Goals as goal

abbrev default : FunctionEntry
default = record { before = NotReached; drops = record { vars = record { index = 0 }; functions = record { index = 0 } }; zero = NotReached; nonzero = NotReached }

pub loop-entry-preserved : goal.loop-entry-preserved
loop-entry-preserved c =
    let fs = c.args.certificate.now.functions.items in
    let i = c.loop-entry.entry-index in
    let lt : i < length fs = subst (λ (xs : List FunctionEntry). i < length xs) c.deref-entry-items.ensures.value c.loop-entry-test.true in
    let e : FunctionEntry = get_or c.deref-entry-items.result.now i default in
    let is : e ≡ get_or fs i default = ap (λ (xs : List FunctionEntry). get_or xs i default) c.deref-entry-items.ensures.value in
    subst (λ (es : List FunctionEntry). KeepsFunctions c.args.certificate.now.rows fs c.args.rows.now c.keep_function.new.rows (i + 1) es) (sym c.in_ok-push.ensures.items)
    (functions_on c.args.certificate.now.rows fs c.args.rows.now c.loop-entry.rows c.keep_function.new.rows i e c.in_ok-keep_function.field-0 default c.loop-entry.entries.items lt is c.loop-entry.invariant c.in_ok-keep_function.ensures)
