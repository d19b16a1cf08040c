use Rattle.std.proofs.Common.{◌≡◌, true, ap, sym, ◌∙◌, rules}
use Rattle.sh_tree.specs.standard.Words.{words_of}
use Rattle.sh_quote.specs.Operands.{parts_declared}
use Rattle.sh_quote.proofs.OperandLemmas.{no_texts, declared_on}
use Rattle.sh_quote.proofs.operands.are_declared.Goals as goal

pub returns-in_default-later : goal.returns-in_default-later
returns-in_default-later c = no_texts c.args.script.now (words_of c.loop-word.left.now) c.loop-word.later.now c.in_default-later.len_below ∙ c.loop-word.invariant

pub loop-word-preserved : goal.loop-word-preserved
loop-word-preserved c =
    let held : c.is_declared.result ≡ true = search rules in
    declared_on c.args.script.now (words_of c.loop-word.left.now) (words_of c.in-Some.rest.now) c.in-Some.word.now c.loop-word.later.now c.text-item.result c.in-Some.ensures
    c.in-len1-up.len_at_least c.text-item.is (ap (parts_declared c.args.script.now c.in-Some.word.now.parts) (sym c.get.ensures) ∙ sym c.is_declared.ensures ∙ held)
    ∙ c.loop-word.invariant
