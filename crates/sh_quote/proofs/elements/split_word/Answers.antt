use Rattle.std.proofs.Common.{ap, ◌∙◌}
use Rattle.sh_quote.specs.Elements.{split}
use Rattle.sh_quote.proofs.OperandLemmas.{at_word, no_word}
use Rattle.sh_quote.proofs.elements.split_word.Goals as goal

pub returns-in-Some : goal.returns-in-Some
returns-in-Some c =
    at_word c.loop-left.left.now c.element-item.result c.in-Some.word.now c.in-len1-up.len_at_least c.element-item.is c.in-Some.ensures ∙ ap split c.loop-left.invariant

pub returns : goal.returns
returns c = no_word c.loop-left.left.now c.in_default.len_below ∙ ap split c.loop-left.invariant
