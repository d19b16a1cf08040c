use Rattle.std.proofs.Common.{◌≡◌, ◌+◌, nat_eq, false, length, refl, sym, ap, ◌∙◌, rules}
use Rattle.std.proofs.lemmas.List.{length-map}
use Rattle.std.proofs.lemmas.Result.{err_from_is_err_and}
use Rattle.std.specs.Borrow.{Bor}
use Rattle.indexmap.specs.IndexMap.{get}
use Rattle.sh_tree.specs.declared.tree.Command.{Command}
use Rattle.sh_facts.specs.Fields.{text_left, counts_left}
use Rattle.sh_domain.specs.Reading.{is_loop}
use Rattle.sh_domain.specs.Reading.{loops_of}
use Rattle.sh_facts.specs.ReadParts.{NoneFit, NoFunctionsFit}
use Rattle.sh_facts.proofs.WholeLemmas.{has_first, has_counts, other_commands, other_functions, no_commands, no_functions, whole, missed}
use Rattle.sh_facts.proofs.reading.read_lines.Goals as goal

pub unreachable-requires : goal.unreachable-requires
unfolding text_left
unreachable-requires c = has_first c.args.text.now c.args.names.now (loops_of c.args.commands.now) c.args.functions c.requires.form c.in_default.field-0 (sym c.in_default.ensures)

pub unreachable-requires-in_default-after_counts : goal.unreachable-requires-in_default-after_counts
unfolding text_left counts_left
unreachable-requires-in_default-after_counts c =
    has_counts c.args.text.now c.args.names.now (loops_of c.args.commands.now) c.args.functions c.requires.form c.in-Ok.left.now c.in_default-after_counts.field-0 (sym c.in-Ok.ensures) (sym c.in_default-after_counts.ensures)

pub returns-then-counts-commands-clause-reads : goal.returns-then-counts-commands-clause-reads
unfolding text_left counts_left
returns-then-counts-commands-clause-reads c =
    let n = c.in-Ok-after_counts.counts.commands in
    let apart : nat_eq n (length c.args.commands.now) ≡ false = search rules in
    let long : length (loops_of c.args.commands.now) ≡ length c.args.commands.now = length-map c.args.commands.now (λ (x : Bor Command). is_loop x.now) in
    other_commands c.args.text.now c.args.names.now (loops_of c.args.commands.now) c.args.functions c.requires.form c.in-Ok.left.now c.in-Ok-after_counts.left.now n c.in-Ok-after_counts.counts.functions (sym c.in-Ok.ensures)
    (sym c.in-Ok-after_counts.ensures) (ap (nat_eq n) long ∙ apart)

pub returns-then-counts-functions-clause-reads : goal.returns-then-counts-functions-clause-reads
unfolding text_left counts_left
returns-then-counts-functions-clause-reads c =
    let apart : nat_eq c.in-Ok-after_counts.counts.functions c.args.functions ≡ false = search rules in
    other_functions c.args.text.now c.args.names.now (loops_of c.args.commands.now) c.args.functions c.requires.form c.in-Ok.left.now c.in-Ok-after_counts.left.now c.in-Ok-after_counts.counts.commands
    c.in-Ok-after_counts.counts.functions (sym c.in-Ok.ensures) (sym c.in-Ok-after_counts.ensures) apart

pub returns-in_err-read-clause-reads : goal.returns-in_err-read-clause-reads
unfolding text_left counts_left
returns-in_err-read-clause-reads c =
    let p = err_from_is_err_and c.from_residual.result c.from_residual.ensures.1 in
    let n = c.in-Ok-after_counts.counts.commands in
    let same : n ≡ length c.args.commands.now = search rules in
    let long : length (loops_of c.args.commands.now) ≡ length c.args.commands.now = length-map c.args.commands.now (λ (x : Bor Command). is_loop x.now) in
    rw (p.1, p.2)
    (missed c.args.text.now c.args.names.now (loops_of c.args.commands.now) c.args.functions (NoneFit c.args.names.now (loops_of c.args.commands.now) c.in-Ok-after_counts.left.now) _
    (no_commands c.args.text.now c.args.names.now (loops_of c.args.commands.now) c.args.functions c.requires.form c.in-Ok.left.now c.in-Ok-after_counts.left.now n c.in-Ok-after_counts.counts.functions (sym c.in-Ok.ensures)
    (sym c.in-Ok-after_counts.ensures) (same ∙ sym long))
    c.in_err-read.ensures.refusal)

pub returns-in_err-entries-clause-reads : goal.returns-in_err-entries-clause-reads
unfolding text_left counts_left
returns-in_err-entries-clause-reads c =
    let p = err_from_is_err_and c.from_residual-in_err-entries.result c.from_residual-in_err-entries.ensures.1 in
    let n = c.in-Ok-after_counts.counts.commands in
    let m = c.in-Ok-after_counts.counts.functions in
    let same : n ≡ length c.args.commands.now = search rules in
    let long : length (loops_of c.args.commands.now) ≡ length c.args.commands.now = length-map c.args.commands.now (λ (x : Bor Command). is_loop x.now) in
    rw (p.1, p.2)
    (missed c.args.text.now c.args.names.now (loops_of c.args.commands.now) c.args.functions (NoFunctionsFit c.args.names.now (3 + n) m c.in_ok-read.read.left.now) _
    (no_functions c.args.text.now c.args.names.now (loops_of c.args.commands.now) c.args.functions c.requires.form c.in-Ok.left.now c.in-Ok-after_counts.left.now n m (sym c.in-Ok.ensures)
    (sym c.in-Ok-after_counts.ensures) (same ∙ sym long) c.in_ok-read.read.left.now c.in_ok-read.read.entries.items (get nat_eq c.in_ok-read.read.heads) c.read_commands.new.rows c.in_ok-read.ensures.ok)
    c.in_err-entries.ensures.refusal)

pub returns-clause-reads : goal.returns-clause-reads
unfolding text_left counts_left
returns-clause-reads c =
    let n = c.in-Ok-after_counts.counts.commands in
    let m = c.in-Ok-after_counts.counts.functions in
    let same : n ≡ length c.args.commands.now = search rules in
    let count : m ≡ c.args.functions = search rules in
    let long : length (loops_of c.args.commands.now) ≡ length c.args.commands.now = length-map c.args.commands.now (λ (x : Bor Command). is_loop x.now) in
    whole c.args.text.now c.args.names.now (loops_of c.args.commands.now) c.args.functions c.requires.form c.in-Ok.left.now c.in-Ok-after_counts.left.now n m (sym c.in-Ok.ensures) (sym c.in-Ok-after_counts.ensures) (same ∙ sym long)
    c.in_ok-read.read.left.now c.in_ok-read.read.entries.items (get nat_eq c.in_ok-read.read.heads) c.read_commands.new.rows c.in_ok-read.ensures.ok
    (record { rows = c.read_functions.new.rows; entries = c.in_ok-read.read.entries; heads = c.in_ok-read.read.heads; functions = c.in_ok-entries.entries }) count refl (λ k. refl) c.in_ok-entries.ensures.ok
