use Rattle.std.proofs.Common.{◌≡◌, true, false, ◌&&◌, codes, refl, rules}
use Rattle.std.specs.Str.{bytes_eq}
use Rattle.sh_domain.specs.Forms.{counts_of}
use Rattle.sh_facts.proofs.FormLemmas.{counts_sole}
use Rattle.sh_facts.proofs.forms.counts_in.Goals as goal

pub returns-in_err-commands_word : goal.returns-in_err-commands_word
unfolding counts_of
returns-in_err-commands_word c = rw (c.from_residual.ensures, c.in_err-commands_word.ensures.one) refl

pub returns-in_err-commands : goal.returns-in_err-commands
unfolding counts_of
returns-in_err-commands c = rw (c.from_residual-in_err-commands.ensures, c.in_ok-commands_word.ensures.two, c.in_err-commands.ensures.one) refl

pub returns-in_err-functions_word : goal.returns-in_err-functions_word
unfolding counts_of
returns-in_err-functions_word c =
    rw (c.from_residual-in_err-functions_word.ensures, c.in_ok-commands_word.ensures.two, c.in_ok-commands.ensures.two, c.in_err-functions_word.ensures.one) refl

pub returns-then-is_counts : goal.returns-then-is_counts
returns-then-is_counts c =
    let first = c.in_ok-commands_word.commands_word.now in
    let second = c.in_ok-functions_word.functions_word.now in
    let test : (bytes_eq (codes "commands") first && bytes_eq (codes "functions") second) ≡ true = search rules in
    rw (c.in_ok-commands_word.ensures.two, c.in_ok-commands.ensures.two, c.in_ok-functions_word.ensures.two, counts_sole first c.in_ok-commands.commands.now second c.in_ok-functions_word.functions.now, test) c.counts_of.ensures

pub returns-else-is_counts : goal.returns-else-is_counts
returns-else-is_counts c =
    let first = c.in_ok-commands_word.commands_word.now in
    let second = c.in_ok-functions_word.functions_word.now in
    let test : (bytes_eq (codes "commands") first && bytes_eq (codes "functions") second) ≡ false = search rules in
    rw (c.in_ok-commands_word.ensures.two, c.in_ok-commands.ensures.two, c.in_ok-functions_word.ensures.two, counts_sole first c.in_ok-commands.commands.now second c.in_ok-functions_word.functions.now, test) refl
