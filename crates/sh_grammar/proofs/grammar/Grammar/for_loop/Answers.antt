use Rattle.std.proofs.Common.{true, sym, ap, subst, ◌∙◌, arith, ◌≡◌}
use Rattle.std.proofs.lemmas.Result.{err_from_is_err_and}
use Rattle.sh_tree.specs.declared.token.command.Reserved.TheVariants as word
use Rattle.sh_tree.specs.standard.language.Commands.{name_end, is_bare_name}
use Rattle.sh_grammar.specs.Fors.{ForWordsFrom}
use Rattle.sh_grammar.specs.Readers.{One, Refused, CompoundFrom}
use Rattle.sh_grammar.specs.States.{here, moved}
use Rattle.sh_grammar.proofs.ForLemmas.{for_refused, for_body_refused, for_read, for_name}
use Rattle.sh_grammar.proofs.StateLemmas.{at_depth_stands}
use Rattle.sh_tree.specs.declared.token.command.Lead.TheVariants as lead
use Rattle.sh_tree.specs.declared.tree.Kind.TheVariants as kind
use Rattle.sh_tree.specs.standard.language.States.{as_deep}
use Rattle.sh_tree.specs.standard.language.Trees.{span}
use Rattle.sh_grammar.proofs.grammar.Grammar.for_loop.Goals as goal

pub returns-in_err-words : goal.returns-in_err-words
returns-in_err-words g c =
    let b = c.args.script.now in
    let s = c.args.from in
    let at = c.next_from.ensures.value ∙ ap (λ i. moved b i c.enter-first.result) (c.name_at.ensures.value ∙ ap (name_end b) c.at-at.ensures) ∙ ap (λ t. moved b (name_end b t.at) t) c.enter-first.ensures.value in
    let residual = c.from_residual in
    let p = err_from_is_err_and residual.result residual.ensures.1 in
    rw (p.1, p.2) (for_refused b s _ (subst (λ v. Refused b (ForWordsFrom b v) c.in_err-words.field-0.0) at c.in_err-words.ensures))

pub returns-in_err-body : goal.returns-in_err-body
returns-in_err-body g c =
    let b = c.args.script.now in
    let s = c.args.from in
    let at = c.next_from.ensures.value ∙ ap (λ i. moved b i c.enter-first.result) (c.name_at.ensures.value ∙ ap (name_end b) c.at-at.ensures) ∙ ap (λ t. moved b (name_end b t.at) t) c.enter-first.ensures.value in
    let residual = c.from_residual-in_err-body in
    let p = err_from_is_err_and residual.result residual.ensures.1 in
    let words = c.in_ok-words in
    let one = subst (λ v. One (ForWordsFrom b v) (here words.behind) words.words) at words.ensures.one in
    rw (p.1, p.2) (for_body_refused b s words.words words.behind one _ c.in_err-body.ensures)

pub returns : goal.returns
returns g c =
    let b = c.args.script.now in
    let s = c.args.from in
    let first = c.enter-first.ensures.value in
    let at = c.next_from.ensures.value ∙ ap (λ i. moved b i c.enter-first.result) (c.name_at.ensures.value ∙ ap (name_end b) c.at-at.ensures) ∙ ap (λ t. moved b (name_end b t.at) t) first in
    let words = c.in_ok-words in
    let found = c.in_ok-body in
    let one = subst (λ v. One (ForWordsFrom b v) (here words.behind) words.words) at words.ensures.one in
    let bare = subst (λ i. is_bare_name b i ≡ true) c.at-at.ensures (sym c.is_bare_name_at.ensures ∙ c.if-not-is_bare_name_at.false) in
    let some = subst (λ t. is_bare_name b t.at ≡ true) first bare in
    let start = c.at-at.ensures ∙ ap (λ t. t.at) first in
    let end = c.name_at.ensures.value ∙ ap (name_end b) c.at-at.ensures ∙ ap (λ t. name_end b t.at) first in
    let name : span c.at-at.result c.name_at.result ≡ span (for_name b s) (name_end b (for_name b s)) =
    ap (λ i. span i c.name_at.result) start ∙ ap (λ j. span (for_name b s) j) end in
    let loop = for_read b s words.words words.behind one c.requires.shallow some found.body found.end found.ensures.one in
    let further = c.enter-first.ensures.further in
    let same = c.at-at.ensures in
    let named = c.name_at.ensures.after in
    let behind = c.next_from.ensures.after in
    let before = words.ensures.from in
    let after = found.ensures.from in
    rw (c.at_depth.ensures, c.depth-depth.ensures) (record {
      one = subst (λ z. One (CompoundFrom b (lead.Reserved word.For) s) (as_deep (here s) (here found.end)) (kind.For z words.words found.body)) (sym name) loop;
      from = omega arith;
      stands = at_depth_stands b s.depth found.end c.requires.stands.shallow found.ensures.stands;
    })
