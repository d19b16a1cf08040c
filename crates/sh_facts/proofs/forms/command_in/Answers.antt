use Rattle.std.proofs.Common.{sym, ap, ◌∙◌}
use Rattle.sh_facts.specs.Fields.{command_behind}
use Rattle.sh_domain.specs.Forms.{pieces}
use Rattle.sh_facts.proofs.FormLemmas.{then_behind, command_by_parts}
use Rattle.sh_facts.proofs.forms.command_in.Goals as goal

pub returns-in_err-behind_number : goal.returns-in_err-behind_number
unfolding then_behind
returns-in_err-behind_number c =
    rw c.from_residual.ensures (sym (command_by_parts c.args.number (pieces 32 c.args.line.now) ∙ ap (λ o. then_behind o command_behind) (sym c.in_err-behind_number.ensures)))

pub returns : goal.returns
unfolding then_behind
returns c =
    c.command_facts.ensures ∙ sym (command_by_parts c.args.number (pieces 32 c.args.line.now) ∙ ap (λ o. then_behind o command_behind) (sym c.in_ok-behind_number.ensures))
