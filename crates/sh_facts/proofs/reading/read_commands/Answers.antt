use Rattle.std.proofs.Common.{◌≡◌, ℕ, ◌+◌, nat_eq, false, List, Option, Some, None, refl, sym, ap, ◌∙◌, subst, arith}
use Rattle.std.proofs.lemmas.Result.{err_from_is_err_and}
use Rattle.indexmap.specs.IndexMap.{get}
use Rattle.sh_domain.specs.declared.certificate.Entry.{Entry}
use Rattle.sh_domain.specs.declared.certificate.Facts as value
use Rattle.sh_facts.specs.Fields.{command_of, line_in}
use Rattle.sh_domain.specs.Forms.{command_in}
use Rattle.sh_domain.specs.Reading.{command_fits}
use Rattle.sh_facts.specs.ReadParts.{ReadsCommand, NoneFit}
use Rattle.sh_domain.specs.Reading.{loops_of}
use Rattle.sh_facts.proofs.CertificateLemmas.{InCommands, commands_begin, commands_on, command_misfits, no_command, commands_end, missing}
use Rattle.sh_facts.proofs.reading.read_commands.Goals as goal

pub loop-command-init : goal.loop-command-init
loop-command-init c = record {
  number = refl;
  read = rw c.new-entries.ensures.items (commands_begin c.args.names.now c.args.commands.now c.args.text.now c.args.rows.now (get nat_eq c.new-heads.result) c.requires.count (λ k. rw c.new-heads.ensures.empty refl));
}

pub returns-in_default-clause-refusal : goal.returns-in_default-clause-refusal
returns-in_default-clause-refusal c =
    let none : None ≡ line_in (command_in (c.loop-command.command-index + 1)) c.loop-command.left.now =
    c.in_default.ensures ∙ ap (λ n. line_in (command_in (n + 1)) c.loop-command.left.now) c.loop-command.invariant.number in
    no_command c.args.names.now c.args.commands.now c.args.text.now c.loop-command.command-index c.loop-command.left.now c.loop-command.rows c.loop-command.entries.items (get nat_eq c.loop-command.heads) c.loop-command.invariant.read
    c.loop-command-test.true none

pub returns-in_err-entry-clause-refusal : goal.returns-in_err-entry-clause-refusal
returns-in_err-entry-clause-refusal c =
    let p = err_from_is_err_and c.from_residual.result c.from_residual.ensures.1 in
    let line : line_in (command_in (c.loop-command.command-index + 1)) c.loop-command.left.now ≡ Some (command_of c.in-Some.texts, c.in-Some.behind.now) =
    sym (ap (λ n. line_in (command_in (n + 1)) c.loop-command.left.now) c.loop-command.invariant.number) ∙ sym c.in-Some.ensures in
    rw (p.1, p.2)
    (missing (command_fits c.args.names.now c.is_loop.result (command_of c.in-Some.texts)) (NoneFit c.args.names.now (loops_of c.args.commands.now) c.args.text.now) _
    (λ none.
    command_misfits c.args.names.now c.args.commands.now c.args.text.now c.loop-command.command-index c.loop-command.left.now c.loop-command.rows c.loop-command.entries.items (get nat_eq c.loop-command.heads)
    c.command-item.result c.in-Some.texts c.in-Some.behind.now c.loop-command.invariant.read c.loop-command-test.true c.command-item.is line
    (ap (λ l. command_fits c.args.names.now l (command_of c.in-Some.texts)) (sym c.is_loop.ensures) ∙ none))
    c.in_err-entry.ensures.refusal)

pub loop-command-preserved : goal.loop-command-preserved
loop-command-preserved c =
    let j = c.loop-command.command-index in
    let same : c.loop-command.number ≡ j = c.loop-command.invariant.number in
    let old : ℕ → Option value.Facts = get nat_eq c.loop-command.heads in
    let after : ℕ → Option value.Facts = get nat_eq c.put_head.new.heads in
    let line : line_in (command_in (j + 1)) c.loop-command.left.now ≡ Some (command_of c.in-Some.texts, c.in-Some.behind.now) =
    sym (ap (λ n. line_in (command_in (n + 1)) c.loop-command.left.now) same) ∙ sym c.in-Some.ensures in
    let read = subst (λ l. ReadsCommand c.args.names.now c.in-Some.texts l c.loop-command.rows c.in_ok-entry.entry c.in_ok-entry.head c.read_command.new.rows) c.is_loop.ensures c.in_ok-entry.ensures.ok in
    let put = subst (λ (m : ℕ). old (m + 1) ≡ None → after (m + 1) ≡ c.in_ok-entry.head) same c.in_ok-put_head.ensures.put in
    let others = subst (λ (m : ℕ). (k : ℕ) → nat_eq (m + 1) k ≡ false → after k ≡ old k) same c.in_ok-put_head.ensures.others in
    record {
      number = ap (λ n. n + 1) same;
      read =
          subst (λ (es : List Entry). InCommands c.args.names.now c.args.commands.now c.args.text.now (j + 1) c.in-Some.behind.now c.read_command.new.rows es after) (sym c.in_ok-push.ensures.items)
          (commands_on c.args.names.now c.args.commands.now c.args.text.now j c.loop-command.left.now c.loop-command.rows c.loop-command.entries.items old c.command-item.result c.in-Some.texts c.in-Some.behind.now
          c.loop-command.invariant.read c.loop-command-test.true c.command-item.is line c.read_command.new.rows c.in_ok-entry.entry c.in_ok-entry.head after read put others);
    }

pub returns-clause-ok : goal.returns-clause-ok
returns-clause-ok c =
    commands_end c.args.names.now c.args.commands.now c.args.text.now c.loop-command.command-index c.loop-command.left.now c.loop-command.rows c.loop-command.entries.items (get nat_eq c.loop-command.heads) c.loop-command.invariant.read
    (omega (arith, c.loop-command-test.false))
