use Rattle.std.proofs.Common.{◌≡◌, None, Some, rules, sym, ap, ◌∙◌, arith}
use Rattle.sh_drafts.proofs.LowerLemmas.{args_lowered, args_work, nothing_more, nowhere_more, no_more}
use Rattle.sh_drafts.proofs.lower.lower_args.Goals as goal

pub returns-in_default-clause-fits : goal.returns-in_default-clause-fits
returns-in_default-clause-fits c =
    let none : c.facts_at.result ≡ None = search rules in
    nothing_more c.args.certificate.now c.args.place c.args.args (sym c.facts_at.ensures ∙ none)

pub returns-in-NotReached-clause-fits : goal.returns-in-NotReached-clause-fits
returns-in-NotReached-clause-fits c = nowhere_more c.args.certificate.now c.args.place c.args.args (sym c.facts_at.ensures ∙ c.in-Some.is ∙ ap Some c.in-NotReached.is)

pub returns-then-claimed-args-clause-fits : goal.returns-then-claimed-args-clause-fits
returns-then-claimed-args-clause-fits c =
    no_more c.args.certificate.now c.args.place c.in-Known.vars c.in-Known.functions c.in-Known.claimed c.args.args (sym c.facts_at.ensures ∙ c.in-Some.is ∙ ap Some c.in-Known.is) c.if-claimed-args.true

pub returns-in_ok-put-in-Known-clause-lowered : goal.returns-in_ok-put-in-Known-clause-lowered
returns-in_ok-put-in-Known-clause-lowered c =
    args_lowered c.args.certificate.now c.put.new.certificate c.args.place c.in-Known.vars c.in-Known.functions c.in-Known.claimed c.args.args (sym c.facts_at.ensures ∙ c.in-Some.is ∙ ap Some c.in-Known.is)
    c.if-claimed-args.false c.in_ok-put-in-Known.ensures

pub returns-in_ok-put-in-Known-clause-working : goal.returns-in_ok-put-in-Known-clause-working
returns-in_ok-put-in-Known-clause-working c =
    args_work c.args.certificate.now c.put.new.certificate c.args.place c.in-Known.vars c.in-Known.functions c.in-Known.claimed c.args.args (sym c.facts_at.ensures ∙ c.in-Some.is ∙ ap Some c.in-Known.is)
    c.if-claimed-args.false c.in_ok-put-in-Known.ensures

pub returns-in_ok-put-in-Known-clause-fits : goal.returns-in_ok-put-in-Known-clause-fits
returns-in_ok-put-in-Known-clause-fits c =
    no_more c.put.new.certificate c.args.place c.in-Known.vars c.in-Known.functions c.args.args c.args.args c.in_ok-put-in-Known.ensures.here (omega arith)
