use Rattle.std.proofs.Common.{Ok, ◌+◌, ◌<◌, ◌≤◌, sym, ap, subst, lt_of_lt_of_le, arith}
use Rattle.std.proofs.lemmas.Result.{err_from_is_err_and}
use Rattle.sh_tree.specs.declared.limits.TheConstants.{MAX_NESTING}
use Rattle.sh_tree.specs.declared.tree.HereDoc.{HereDoc}
use Rattle.sh_tree.specs.declared.tree.Target.TheVariants.{Here}
use Rattle.sh_tree.specs.standard.language.HereDocuments as documents
use Rattle.sh_tree.specs.standard.language.States.{no_document}
use Rattle.sh_tree.specs.standard.language.Trees as tree
use Rattle.sh_grammar.specs.declared.state.State.{State}
use Rattle.sh_grammar.specs.Delimiters.{Awaits}
use Rattle.sh_grammar.specs.Readers.{To, RedirectFrom}
use Rattle.sh_grammar.proofs.RedirectLemmas.{awaiting_stands, document_read, document_refused}
use Rattle.sh_grammar.proofs.grammar.Grammar.here_document.Goals as goal

pub returns-in_err-mark-clause-reads : goal.returns-in_err-mark-clause-reads
returns-in_err-mark-clause-reads g c =
    let found = c.in_ok-word in
    let p = err_from_is_err_and c.from_residual-in_err-mark.result c.from_residual-in_err-mark.ensures.1 in
    rw (p.1, p.2)
    (document_refused c.args.script.now c.args.from c.args.front c.requires.begins c.args.strip c.requires.way found.word found.behind found.ensures.reads.one c.in_err-mark.field-0.0
    c.in_err-mark.ensures.marks)

pub returns-clause-reads : goal.returns-clause-reads
returns-clause-reads g c =
    let b = c.args.script.now in
    let s = c.args.from in
    let at = c.args.front in
    let found = c.in_ok-word in
    let mark = c.in_ok-mark in
    let ready = subst (λ n. Awaits b at.at c.args.strip found.word n (Ok mark.mark)) c.depth-depth.ensures mark.ensures.marks in
    let before = subst (λ i. i < found.behind.at) (sym mark.ensures.marks.0) (lt_of_lt_of_le c.requires.operator found.ensures.reads.from) in
    let shallow = subst (λ n. n ≤ MAX_NESTING) (sym (ap (λ (m : documents.Mark). m.depth) ready.2)) c.requires.stands.shallow in
    let moves = c.requires.moves in
    let further = found.ensures.reads.from in
    let last = tree.here_doc c.args.strip found.word no_document.text no_document.end in
    subst (λ (d : HereDoc). To b (RedirectFrom b s) (s.at + 1) (tree.redirect at.at at.number (Here d)) c.in_ok-behind.behind) (sym c.awaited.ensures)
    (subst (λ (v : State). To b (RedirectFrom b s) (s.at + 1) (tree.redirect at.at at.number (Here last)) v) (sym c.in_ok-behind.ensures) (record {
      one = document_read b s at c.requires.begins c.args.strip c.requires.way found.word found.behind found.ensures.reads.one mark.mark ready.1 ready.2;
      from = omega arith;
      stands = awaiting_stands b found.behind mark.mark found.ensures.reads.stands before shallow;
    }))

pub returns-clause-marked : goal.returns-clause-marked
returns-clause-marked g c =
    let mark = c.in_ok-mark in
    record { others = c.in_ok-word.behind.pending; last = mark.mark; is = ap (λ (v : State). v.pending) c.in_ok-behind.ensures; operator = mark.ensures.marks.0 }
