use Rattle.std.proofs.Common.{refl, sym, ◌∙◌}
use Rattle.sh_facts.specs.Fields.{function_behind}
use Rattle.sh_facts.proofs.FormLemmas.{function_sole}
use Rattle.sh_facts.proofs.forms.function_facts.Goals as goal

pub returns-in_err-before : goal.returns-in_err-before
unfolding function_behind
returns-in_err-before c = rw (c.from_residual.ensures, c.in_err-before.ensures.one) refl

pub returns-in_err-drops : goal.returns-in_err-drops
unfolding function_behind
returns-in_err-drops c = rw (c.from_residual-in_err-drops.ensures, c.in_ok-before.ensures.two, c.in_err-drops.ensures.one) refl

pub returns-in_err-zero : goal.returns-in_err-zero
unfolding function_behind
returns-in_err-zero c = rw (c.from_residual-in_err-zero.ensures, c.in_ok-before.ensures.two, c.in_ok-drops.ensures.two, c.in_err-zero.ensures.one) refl

pub returns : goal.returns
returns c =
    rw (c.in_ok-before.ensures.two, c.in_ok-drops.ensures.two, c.in_ok-zero.ensures.two)
    (c.function_texts.ensures ∙ sym (function_sole c.in_ok-before.before.now c.in_ok-drops.drops.now c.in_ok-zero.zero.now c.in_ok-zero.nonzero.now))
