use Rattle.std.proofs.Common.{sym, ap, ◌∙◌, arith, length-drop}
use Rattle.std.proofs.lemmas.List.{take_rest}
use Rattle.sh_tree.specs.standard.language.Reading.{is_some}
use Rattle.sh_grammar.specs.Lines.{joined_step, is_joined}
use Rattle.sh_grammar.proofs.KeptLemmas.{joined_ends, joined_first, joined_found, joined_nowhere, joined_on, joined_room}
use Rattle.sh_grammar.proofs.kept.joined_in.Goals as goal

pub returns-then-step-eq0-clause-value : goal.returns-then-step-eq0-clause-value
unfolding is_some
returns-then-step-eq0-clause-value c =
    let at = c.loop-rest in
    let text = c.args.text.now in
    let none = sym (c.joined_step-step.ensures.value ∙ ap joined_step (take_rest text at.at)) ∙ c.if-step-eq0.true in
    joined_ends c.args.tabbed text at.at at.invariant none

pub returns-then-is_joined-clause-value : goal.returns-then-is_joined-clause-value
unfolding is_some
returns-then-is_joined-clause-value c =
    let at = c.loop-rest in
    let text = c.args.text.now in
    let so = sym (c.is_joined.ensures ∙ ap (λ cs. is_joined c.args.tabbed cs) (take_rest text at.at)) ∙ c.if-is_joined.true in
    joined_found c.args.tabbed text at.at at.invariant so

pub returns-then-is_joined-clause-here : goal.returns-then-is_joined-clause-here
returns-then-is_joined-clause-here c =
    let at = c.loop-rest in
    sym (c.is_joined.ensures ∙ ap (λ cs. is_joined c.args.tabbed cs) (take_rest c.args.text.now at.at)) ∙ c.if-is_joined.true

pub returns-then-is_joined-clause-within : goal.returns-then-is_joined-clause-within
returns-then-is_joined-clause-within c =
    let at = c.loop-rest in
    let text = c.args.text.now in
    let so = sym (c.is_joined.ensures ∙ ap (λ cs. is_joined c.args.tabbed cs) (take_rest text at.at)) ∙ c.if-is_joined.true in
    joined_room c.args.tabbed text at.at so

pub loop-rest-preserved : goal.loop-rest-preserved
loop-rest-preserved c =
    let at = c.loop-rest in
    let text = c.args.text.now in
    let step = c.joined_step-step.ensures.value ∙ ap joined_step (take_rest text at.at) in
    let other = sym (c.is_joined.ensures ∙ ap (λ cs. is_joined c.args.tabbed cs) (take_rest text at.at)) ∙ c.if-is_joined.false in
    let some = c.if-step-eq0.false in
    let long = c.joined_step-step.ensures.within in
    let within = at.invariant.within in
    joined_on c.args.tabbed text at.at c.joined_step-step.result at.invariant step (omega arith) other (let l = rw (take_rest text at.at) at long in omega (arith, length-drop at.at text))

pub returns-then-step-eq0-clause-first : goal.returns-then-step-eq0-clause-first
returns-then-step-eq0-clause-first c =
    let at = c.loop-rest in
    let text = c.args.text.now in
    let none = sym (c.joined_step-step.ensures.value ∙ ap joined_step (take_rest text at.at)) ∙ c.if-step-eq0.true in
    joined_nowhere c.args.tabbed text at.at at.invariant none

pub returns-then-is_joined-clause-first : goal.returns-then-is_joined-clause-first
returns-then-is_joined-clause-first c =
    let at = c.loop-rest in
    let text = c.args.text.now in
    let so = sym (c.is_joined.ensures ∙ ap (λ cs. is_joined c.args.tabbed cs) (take_rest text at.at)) ∙ c.if-is_joined.true in
    joined_first c.args.tabbed text at.at at.invariant so
