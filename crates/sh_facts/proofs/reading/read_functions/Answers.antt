use Rattle.std.proofs.Common.{◌+◌, List, sym, subst, arith}
use Rattle.std.proofs.lemmas.Result.{err_from_is_err_and}
use Rattle.sh_domain.specs.declared.certificate.FunctionEntry.{FunctionEntry}
use Rattle.sh_facts.specs.Fields.{function_of}
use Rattle.sh_domain.specs.Reading.{function_fits}
use Rattle.sh_facts.specs.ReadParts.{NoFunctionsFit}
use Rattle.sh_facts.proofs.CertificateLemmas.{InFunctions, functions_begin, functions_on, function_misfits, no_function, functions_end, missing}
use Rattle.sh_facts.proofs.reading.read_functions.Goals as goal

pub loop-done-init : goal.loop-done-init
loop-done-init c = rw c.new-entries.ensures.items (functions_begin c.args.names.now c.args.first c.args.functions c.args.text.now c.args.rows.now c.requires.count)

pub returns-in_default-clause-refusal : goal.returns-in_default-clause-refusal
returns-in_default-clause-refusal c =
    no_function c.args.names.now c.args.first c.args.functions c.args.text.now c.loop-done.done c.loop-done.left.now c.args.rows.now c.loop-done.rows c.loop-done.entries.items c.loop-done.invariant c.loop-done-test.true
    c.in_default.ensures

pub read_function-requires : goal.read_function-requires
read_function-requires c = record { count = c.loop-done.invariant.same }

pub returns-in_err-read_function-clause-refusal : goal.returns-in_err-read_function-clause-refusal
returns-in_err-read_function-clause-refusal c =
    let p = err_from_is_err_and c.from_residual.result c.from_residual.ensures.1 in
    rw (p.1, p.2)
    (missing (function_fits c.args.names.now (function_of c.in-Some.texts)) (NoFunctionsFit c.args.names.now c.args.first c.args.functions c.args.text.now) _
    (λ none.
    function_misfits c.args.names.now c.args.first c.args.functions c.args.text.now c.loop-done.done c.loop-done.left.now c.args.rows.now c.loop-done.rows c.loop-done.entries.items c.in-Some.texts c.in-Some.behind.now
    c.loop-done.invariant c.loop-done-test.true (sym c.in-Some.ensures) none)
    c.in_err-read_function.ensures.refusal)

pub loop-done-preserved : goal.loop-done-preserved
loop-done-preserved c =
    subst (λ (es : List FunctionEntry). InFunctions c.args.names.now c.args.first c.args.functions c.args.text.now (c.loop-done.done + 1) c.in-Some.behind.now c.args.rows.now c.read_function.new.rows es)
    (sym c.in_ok-push.ensures.items)
    (functions_on c.args.names.now c.args.first c.args.functions c.args.text.now c.loop-done.done c.loop-done.left.now c.args.rows.now c.loop-done.rows c.loop-done.entries.items c.in-Some.texts c.in-Some.behind.now
    c.loop-done.invariant c.loop-done-test.true (sym c.in-Some.ensures) c.read_function.new.rows c.in_ok-read_function.field-0 c.in_ok-read_function.ensures.ok)

pub returns-clause-ok : goal.returns-clause-ok
returns-clause-ok c =
    functions_end c.args.names.now c.args.first c.args.functions c.args.text.now c.loop-done.done c.loop-done.left.now c.args.rows.now c.loop-done.rows c.loop-done.entries.items c.loop-done.invariant
    (omega (arith, c.loop-done-test.false))
