use Rattle.std.proofs.Common.{◌≡◌, true, false, is_some, refl, rules}
use Rattle.sh_facts.specs.declared.forms.Held.TheVariants as held
use Rattle.sh_facts.specs.Fields.{test_of}
use Rattle.sh_domain.specs.Forms.{names_in, drops_of}
use Rattle.sh_facts.proofs.FormLemmas.{sets_named, no_variables, no_functions}
use Rattle.sh_facts.proofs.forms.sets_in.Goals as goal
use Rattle.sh_facts.proofs.forms.sets_in.Goals.{else-are_names-via-then-are_names+else-are_names-2, else-are_names-via-else-are_names}

pub returns-in_err-vars : goal.returns-in_err-vars
unfolding drops_of
returns-in_err-vars c = rw (c.from_residual.ensures, c.in_err-vars.ensures.one) refl

pub returns-then-are_names-2 : goal.returns-then-are_names-2
returns-then-are_names-2 c =
    let v = c.in_ok-vars.vars.now in
    let f = c.in_ok-vars.functions.now in
    let variables : is_some (names_in (test_of held.Variables) v) ≡ true = search rules in
    let functions : is_some (names_in (test_of held.Functions) f) ≡ true = search rules in
    sets_named v f c.args.text.now c.in_ok-vars.ensures.two variables functions

pub returns-else-are_names : goal.returns-else-are_names
returns-else-are_names c =
    let v = c.in_ok-vars.vars.now in
    let f = c.in_ok-vars.functions.now in
    elim c.else-are_names.branch [
      | else-are_names-via-then-are_names+else-are_names-2 w ↦
          let no : is_some (names_in (test_of held.Functions) f) ≡ false = search rules in
          no_functions v f c.args.text.now c.in_ok-vars.ensures.two no
      | else-are_names-via-else-are_names w ↦
          let no : is_some (names_in (test_of held.Variables) v) ≡ false = search rules in
          no_variables v f c.args.text.now c.in_ok-vars.ensures.two no
    ]
