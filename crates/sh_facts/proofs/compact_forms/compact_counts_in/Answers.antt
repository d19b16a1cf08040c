use Rattle.std.proofs.Common.{◌≡◌, true, false, refl, rules}
use Rattle.sh_domain.specs.CompactForms.{counts_of}
use Rattle.sh_facts.proofs.CompactFormLemmas.{are_words, counts_sole}
use Rattle.sh_facts.proofs.compact_forms.compact_counts_in.Goals as goal

pub returns-in_err-commands_word : goal.returns-in_err-commands_word
unfolding counts_of
returns-in_err-commands_word c = rw (c.from_residual.ensures, c.in_err-commands_word.ensures.one) refl

pub returns-in_err-commands : goal.returns-in_err-commands
unfolding counts_of
returns-in_err-commands c = rw (c.from_residual-in_err-commands.ensures, c.in_ok-commands_word.ensures.two, c.in_err-commands.ensures.one) refl

pub returns-in_err-functions_word : goal.returns-in_err-functions_word
unfolding counts_of
returns-in_err-functions_word c =
    rw (c.from_residual-in_err-functions_word.ensures, c.in_ok-commands_word.ensures.two, c.in_ok-commands.ensures.two, c.in_err-functions_word.ensures.one) refl

pub returns-in_err-functions : goal.returns-in_err-functions
unfolding counts_of
returns-in_err-functions c =
    rw (c.from_residual-in_err-functions.ensures, c.in_ok-commands_word.ensures.two, c.in_ok-commands.ensures.two, c.in_ok-functions_word.ensures.two, c.in_err-functions.ensures.one) refl

pub returns-in_err-loops_word : goal.returns-in_err-loops_word
unfolding counts_of
returns-in_err-loops_word c =
    rw (c.from_residual-in_err-loops_word.ensures, c.in_ok-commands_word.ensures.two, c.in_ok-commands.ensures.two, c.in_ok-functions_word.ensures.two, c.in_ok-functions.ensures.two, c.in_err-loops_word.ensures.one) refl

pub returns-then-are_counts : goal.returns-then-are_counts
returns-then-are_counts c =
    let first = c.in_ok-commands_word.commands_word.now in
    let second = c.in_ok-functions_word.functions_word.now in
    let third = c.in_ok-loops_word.loops_word.now in
    let test : are_words first second third ≡ true = search rules in
    rw (
      c.in_ok-commands_word.ensures.two,
      c.in_ok-commands.ensures.two,
      c.in_ok-functions_word.ensures.two,
      c.in_ok-functions.ensures.two,
      c.in_ok-loops_word.ensures.two,
      counts_sole first c.in_ok-commands.commands.now second c.in_ok-functions.functions.now third c.in_ok-loops_word.loops.now,
      test,
    ) c.counts_of.ensures

pub returns-else-are_counts : goal.returns-else-are_counts
returns-else-are_counts c =
    let first = c.in_ok-commands_word.commands_word.now in
    let second = c.in_ok-functions_word.functions_word.now in
    let third = c.in_ok-loops_word.loops_word.now in
    let test : are_words first second third ≡ false = search rules in
    rw (
      c.in_ok-commands_word.ensures.two,
      c.in_ok-commands.ensures.two,
      c.in_ok-functions_word.ensures.two,
      c.in_ok-functions.ensures.two,
      c.in_ok-loops_word.ensures.two,
      counts_sole first c.in_ok-commands.commands.now second c.in_ok-functions.functions.now third c.in_ok-loops_word.loops.now,
      test,
    ) refl
