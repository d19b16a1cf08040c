use Rattle.std.proofs.Common.{true, sym, ap, ◌∙◌}
use Rattle.std.proofs.lemmas.List.{take_rest}
use Rattle.sh_grammar.specs.Lines.{first_joined}
use Rattle.sh_grammar.proofs.FaultLemmas.{continuation_at, no_continuation}
use Rattle.sh_grammar.proofs.faults.place_of.Goals as goal

pub returns-in-None-clause-which : goal.returns-in-None-clause-which
returns-in-None-clause-which c =
    let b = c.args.script.now in
    let none = sym c.in-None.is ∙ c.joined_in.ensures.first ∙ ap (λ cs. first_joined (λ rest. true) cs) (take_rest b c.args.at) in
    no_continuation b c.args.form c.args.at c.in-Continuation.is none

pub returns-in-Some-clause-which : goal.returns-in-Some-clause-which
returns-in-Some-clause-which c =
    let b = c.args.script.now in
    let some = sym c.in-Some.is ∙ c.joined_in.ensures.first ∙ ap (λ cs. first_joined (λ rest. true) cs) (take_rest b c.args.at) in
    continuation_at b c.args.form c.args.at c.in-Some.further c.in-Continuation.is some
