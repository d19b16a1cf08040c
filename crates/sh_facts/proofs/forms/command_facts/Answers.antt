use Rattle.std.proofs.Common.{refl}
use Rattle.sh_facts.specs.Fields.{command_behind}
use Rattle.sh_facts.proofs.forms.command_facts.Goals as goal

pub returns-in_err-before : goal.returns-in_err-before
unfolding command_behind
returns-in_err-before c = rw (c.from_residual.ensures, c.in_err-before.ensures.one) refl

pub returns-in_err-zero : goal.returns-in_err-zero
unfolding command_behind
returns-in_err-zero c = rw (c.from_residual-in_err-zero.ensures, c.in_ok-before.ensures.two, c.in_err-zero.ensures.one) refl

pub returns : goal.returns
unfolding command_behind
returns c = rw (c.in_ok-before.ensures.two, c.in_ok-zero.ensures.two, c.first_piece.ensures.pieces) c.command_texts.ensures
