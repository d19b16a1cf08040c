use Rattle.std.proofs.Common.{◌∙◌, sym, ap, slice_get}
use Rattle.sh_tree.proofs.NameLemmas.{name_at_word, name_past}
use Rattle.sh_tree.proofs.words.command_name.Goals as goal

pub returns-in-Some : goal.returns-in-Some
returns-in-Some c =
    sym (name_at_word c.args.elements.now c.loop-element.element-index c.element-item.result c.in-Some.word.now c.loop-element-test.true c.element-item.is c.in-Some.ensures)
    ∙ ap (λ ws. slice_get ws 0) c.loop-element.invariant

pub loop-element-preserved : goal.loop-element-preserved
loop-element-preserved c =
    sym (name_past c.args.elements.now c.loop-element.element-index c.element-item.result c.loop-element-test.true c.element-item.is c.in_default.ensures)
    ∙ c.loop-element.invariant
