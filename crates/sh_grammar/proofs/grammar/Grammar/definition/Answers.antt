use Rattle.std.proofs.Common.{sym, ap, subst, ◌∙◌, arith}
use Rattle.std.proofs.lemmas.Result.{err_from_is_err_and}
use Rattle.sh_tree.specs.standard.language.Commands.{name_end, begins_compound}
use Rattle.sh_grammar.specs.Definitions.{HasParentheses, over}
use Rattle.sh_grammar.specs.Readers.{CommandFrom, Refused}
use Rattle.sh_grammar.specs.States.{moved}
use Rattle.sh_grammar.proofs.CommandLemmas.{compound_some}
use Rattle.sh_grammar.proofs.DefinitionLemmas.{definition_bare, definition_stopped, definition_empty, definition_refused, definition_read}
use Rattle.sh_grammar.proofs.ReaderLemmas.{refused_none}
use Rattle.sh_grammar.specs.Breaks.{BreaksFrom, BreaksTo}
use Rattle.sh_grammar.proofs.grammar.Grammar.definition.Goals as goal

pub returns-in_err-behind : goal.returns-in_err-behind
returns-in_err-behind g c =
    let b = c.args.script.now in
    let s = c.args.from in
    let p = err_from_is_err_and c.from_residual.result c.from_residual.ensures.1 in
    let same = c.next_from.ensures.value ∙ ap (λ i. moved b i c.counted.result) (c.name_at.ensures.value ∙ ap (name_end b) c.at-at.ensures) ∙ ap (λ t. moved b (name_end b s.at) t) c.counted.ensures in
    let none = c.in_err-behind.ensures in
    rw (p.1, p.2) (refused_none b (CommandFrom b s) _ none.0 (definition_bare b s c.requires.begins (λ two. none.1 (subst (HasParentheses b) (sym same) two))))

pub compound_command-requires-clause-some : goal.compound_command-requires-clause-some
compound_command-requires-clause-some g c =
    c.lead-lead.ensures.within (compound_some c.lead-lead.result (sym c.begins_compound.ensures ∙ c.if-not-begins_compound.false))

pub returns-in_err-first : goal.returns-in_err-first
returns-in_err-first g c =
    let b = c.args.script.now in
    let s = c.args.from in
    let same = c.next_from.ensures.value ∙ ap (λ i. moved b i c.counted.result) (c.name_at.ensures.value ∙ ap (name_end b) c.at-at.ensures) ∙ ap (λ t. moved b (name_end b s.at) t) c.counted.ensures in
    let two = c.in_ok-behind.ensures in
    let there = two.1 ∙ ap (λ v. over b (over b v)) same in
    let residual = c.from_residual-in_err-first in
    let p = err_from_is_err_and residual.result residual.ensures.1 in
    let none = subst (λ v. Refused b (BreaksFrom b v) c.in_err-first.field-0.0) there c.in_err-first.ensures in
    rw (p.1, p.2) (definition_stopped b s c.requires.begins _ none)

pub returns-then-not-begins_compound : goal.returns-then-not-begins_compound
returns-then-not-begins_compound g c =
    let b = c.args.script.now in
    let s = c.args.from in
    let same = c.next_from.ensures.value ∙ ap (λ i. moved b i c.counted.result) (c.name_at.ensures.value ∙ ap (name_end b) c.at-at.ensures) ∙ ap (λ t. moved b (name_end b s.at) t) c.counted.ensures in
    let two = c.in_ok-behind.ensures in
    let there = two.1 ∙ ap (λ v. over b (over b v)) same in
    let first = c.in_ok-first in
    let breaks = subst (λ v. BreaksTo b v first.first) there first.ensures in
    let none = sym (c.begins_compound.ensures ∙ ap begins_compound c.lead-lead.ensures.value) ∙ c.if-not-begins_compound.true in
    refused_none b (CommandFrom b s) c.unexpected.result c.unexpected.ensures.fault (definition_empty b s c.requires.begins first.first breaks none)

pub returns-in_err-body : goal.returns-in_err-body
returns-in_err-body g c =
    let b = c.args.script.now in
    let s = c.args.from in
    let same = c.next_from.ensures.value ∙ ap (λ i. moved b i c.counted.result) (c.name_at.ensures.value ∙ ap (name_end b) c.at-at.ensures) ∙ ap (λ t. moved b (name_end b s.at) t) c.counted.ensures in
    let two = c.in_ok-behind.ensures in
    let there = two.1 ∙ ap (λ v. over b (over b v)) same in
    let first = c.in_ok-first in
    let breaks = subst (λ v. BreaksTo b v first.first) there first.ensures in
    let residual = c.from_residual-in_err-body in
    let p = err_from_is_err_and residual.result residual.ensures.1 in
    rw (p.1, p.2) (definition_refused b s c.requires.begins first.first breaks _ c.in_err-body.ensures)

pub returns : goal.returns
returns g c =
    let b = c.args.script.now in
    let s = c.args.from in
    let same = c.next_from.ensures.value ∙ ap (λ i. moved b i c.counted.result) (c.name_at.ensures.value ∙ ap (name_end b) c.at-at.ensures) ∙ ap (λ t. moved b (name_end b s.at) t) c.counted.ensures in
    let two = c.in_ok-behind.ensures in
    let first = c.in_ok-first in
    let breaks = subst (λ v. BreaksTo b v first.first) (two.1 ∙ ap (λ v. over b (over b v)) same) first.ensures in
    let begins = sym (c.begins_compound.ensures ∙ ap begins_compound c.lead-lead.ensures.value) ∙ c.if-not-begins_compound.false in
    let found = c.in_ok-body in
    let start = c.at-at.ensures in
    let named = c.name_at.ensures.after in
    let behind = c.next_from.ensures.after in
    let closed = two.2 in
    let before = first.ensures.from in
    let after = found.ensures.from in
    rw (c.in_ok-new.ensures, c.new-2.ensures, c.name_at.ensures.value, c.count-count.ensures, c.at-at.ensures) (record {
      one = definition_read b s c.requires.begins first.first breaks (subst (HasParentheses b) same two.0) begins found.body found.end found.ensures.one;
      from = omega arith;
      stands = found.ensures.stands;
    })
