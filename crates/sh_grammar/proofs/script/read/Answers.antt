use Rattle.std.proofs.Common.{Err, Ok, None, ◌<◌, ◌≤◌, length, sym, ap, ◌∙◌, subst, arith}
use Rattle.std.proofs.lemmas.Bool.Decides.{nat_tests}
use Rattle.sh_tree.specs.declared.refusal.Fault.TheVariants as fault
use Rattle.sh_tree.specs.declared.refusal.Refusal.TheVariants.{Syntax}
use Rattle.sh_tree.specs.Answers.{Parses}
use Rattle.sh_bodies.specs.Fill.{fill}
use Rattle.sh_grammar.specs.declared.state.State.{State}
use Rattle.sh_grammar.specs.Readers.{One, SequenceFrom}
use Rattle.sh_grammar.specs.States.{here, waiting}
use Rattle.sh_grammar.proofs.ScriptLemmas.{text_read, text_waits, none_behind, pending_before, pending_none, pending_told}
use Rattle.sh_grammar.proofs.script.read.Goals as goal

pub returns-in-Some-clause-reads : goal.returns-in-Some-clause-reads
returns-in-Some-clause-reads c =
    let b = c.args.script.now in
    let found = c.in_ok-found in
    let one = subst (λ s. One (SequenceFrom b s) (here found.end) found.found) (c.in_ok-first.ensures ∙ c.first_state.ensures.value) found.ensures.one in
    text_waits b c.requires found.found found.end one c.in-Some.at (c.in-Some.ensures ∙ ap (λ (v : State). waiting None v.pending) c.get.ensures) found.ensures.stands

pub returns-in-Some-clause-behind : goal.returns-in-Some-clause-behind
returns-in-Some-clause-behind c =
    let b = c.args.script.now in
    let found = c.in_ok-found in
    let one = subst (λ s. One (SequenceFrom b s) (here found.end) found.found) (c.in_ok-first.ensures ∙ c.first_state.ensures.value) found.ensures.one in
    let at = c.at.ensures in
    let over : length b ≤ found.end.at = grind (arith, nat_tests) in
    none_behind b found.found found.end one over (Err (Syntax fault.OpenHereDoc c.in-Some.at))

pub returns-clause-reads : goal.returns-clause-reads
returns-clause-reads c =
    let b = c.args.script.now in
    let found = c.in_ok-found in
    let one = subst (λ s. One (SequenceFrom b s) (here found.end) found.found) (c.in_ok-first.ensures ∙ c.first_state.ensures.value) found.ensures.one in
    let at = c.at.ensures in
    let over : length b ≤ found.end.at = grind (arith, nat_tests) in
    subst (λ t. Parses b (Ok t)) (sym (c.in_ok-filled.ensures ∙ ap (λ ds. fill ds found.found) c.ended-bodies.ensures.bodies)) (text_read b c.requires found.found found.end one over (c.in_default.ensures ∙ ap (λ (v : State). waiting None v.pending) c.get.ensures) found.ensures.stands.inside found.ensures.stands.few)

pub returns-clause-behind : goal.returns-clause-behind
returns-clause-behind c =
    let b = c.args.script.now in
    let found = c.in_ok-found in
    let one = subst (λ s. One (SequenceFrom b s) (here found.end) found.found) (c.in_ok-first.ensures ∙ c.first_state.ensures.value) found.ensures.one in
    let at = c.at.ensures in
    let over : length b ≤ found.end.at = grind (arith, nat_tests) in
    none_behind b found.found found.end one over (Ok c.in_ok-filled.field-0)

pub returns-in-Some-clause-open : goal.returns-in-Some-clause-open
returns-in-Some-clause-open c =
    let b = c.args.script.now in
    let found = c.in_ok-found in
    let one = subst (λ s. One (SequenceFrom b s) (here found.end) found.found) (c.in_ok-first.ensures ∙ c.first_state.ensures.value) found.ensures.one in
    pending_told b found.found found.end one c.in-Some.at (c.in-Some.ensures ∙ ap (λ (v : State). waiting None v.pending) c.get.ensures) found.ensures.stands

pub returns-clause-open : goal.returns-clause-open
returns-clause-open c =
    let b = c.args.script.now in
    let found = c.in_ok-found in
    let one = subst (λ s. One (SequenceFrom b s) (here found.end) found.found) (c.in_ok-first.ensures ∙ c.first_state.ensures.value) found.ensures.one in
    pending_none b found.found found.end one (c.in_default.ensures ∙ ap (λ (v : State). waiting None v.pending) c.get.ensures) (Ok c.in_ok-filled.field-0)

pub returns-then-at-script-clause-open : goal.returns-then-at-script-clause-open
returns-then-at-script-clause-open c =
    let b = c.args.script.now in
    let found = c.in_ok-found in
    let one = subst (λ s. One (SequenceFrom b s) (here found.end) found.found) (c.in_ok-first.ensures ∙ c.first_state.ensures.value) found.ensures.one in
    let at = c.at.ensures in
    let inside : found.end.at < length b = grind (arith, nat_tests) in
    pending_before b found.found found.end one inside (Err c.unexpected.result)
