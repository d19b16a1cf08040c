use Rattle.std.proofs.Common.{◌≡◌, ℕ, ◌+◌, nat_eq, true, false, ◌&&◌, List, length, refl, sym, ap, ◌∙◌, subst, arith, rules}
use Rattle.std.specs.Borrow.{Bor}
use Rattle.std.proofs.lemmas.Bool.{and_parts}
use Rattle.std.proofs.lemmas.Bool.Decides.{nat_tests}
use Rattle.std.proofs.lemmas.List.{length-map}
use Rattle.std.proofs.lemmas.Result.{err_from_is_err_and}
use Rattle.sh_tree.specs.declared.tree.Command.{Command}
use Rattle.sh_domain.specs.CompactReading.{loop_numbers}
use Rattle.sh_domain.specs.Reading.{claim_fits, is_loop, loops_of}
use Rattle.sh_facts.specs.CompactFields.{counts_of, counts_left, start_left}
use Rattle.sh_facts.specs.CompactParts.{NoTurnsFit, ReadsTurns}
use Rattle.sh_facts.specs.Fields.{claim_of, text_left}
use Rattle.sh_facts.specs.ReadParts.{Misses, NoFunctionsFit}
use Rattle.sh_facts.proofs.CertificateLemmas.{missing}
use Rattle.sh_facts.proofs.CompactWholeLemmas.{has_first, has_counts, has_start, other_counts, other_loops, no_start, no_turns, no_functions, whole, missed}
use Rattle.sh_facts.proofs.compact_reading.read_lines.Goals as goal

pub unreachable-requires : goal.unreachable-requires
unfolding text_left
unreachable-requires c = has_first c.args.text.now c.args.names.now (loops_of c.args.commands.now) c.args.functions c.requires.form c.in_default.field-0 (sym c.in_default.ensures)

pub unreachable-requires-in_default-after_compact_counts : goal.unreachable-requires-in_default-after_compact_counts
unfolding text_left counts_left
unreachable-requires-in_default-after_compact_counts c =
    has_counts c.args.text.now c.args.names.now (loops_of c.args.commands.now) c.args.functions c.requires.form c.in-Ok.left.now c.in_default-after_compact_counts.field-0 (sym c.in-Ok.ensures) (sym c.in_default-after_compact_counts.ensures)

pub unreachable-requires-in_default-after_start : goal.unreachable-requires-in_default-after_start
unfolding text_left counts_left start_left
unreachable-requires-in_default-after_start c =
    has_start c.args.text.now c.args.names.now (loops_of c.args.commands.now) c.args.functions c.requires.form c.in-Ok.left.now c.in-Ok-after_compact_counts.left.now (counts_of c.in-Ok-after_compact_counts.counts) c.in_default-after_start.field-0
    (sym c.in-Ok.ensures) (sym c.in-Ok-after_compact_counts.ensures) (sym c.in_default-after_start.ensures)

pub returns-then-not-has-clause-reads : goal.returns-then-not-has-clause-reads
unfolding text_left counts_left start_left
returns-then-not-has-clause-reads c =
    let n = c.in-Ok-after_compact_counts.counts in
    let m = c.args.functions in
    let apart : (nat_eq n.commands (length c.args.commands.now) && nat_eq n.functions m) ≡ false = search rules in
    let long : length (loops_of c.args.commands.now) ≡ length c.args.commands.now = length-map c.args.commands.now (λ (x : Bor Command). is_loop x.now) in
    other_counts c.args.text.now c.args.names.now (loops_of c.args.commands.now) m c.requires.form c.in-Ok.left.now c.in-Ok-after_compact_counts.left.now c.in-Ok-after_start.left.now (counts_of n)
    (claim_of c.in-Ok-after_start.start) (sym c.in-Ok.ensures) (sym c.in-Ok-after_compact_counts.ensures) (sym c.in-Ok-after_start.ensures) (ap (λ k. nat_eq n.commands k && nat_eq n.functions m) long ∙ apart)

pub returns-then-counts-len-clause-reads : goal.returns-then-counts-len-clause-reads
unfolding text_left counts_left start_left
returns-then-counts-len-clause-reads c =
    let l = c.in-Ok-after_compact_counts.counts.loops in
    let apart : nat_eq l (length c.in_ok-numbers.numbers.items) ≡ false = search rules in
    other_loops c.args.text.now c.args.names.now (loops_of c.args.commands.now) c.args.functions c.requires.form c.in-Ok.left.now c.in-Ok-after_compact_counts.left.now c.in-Ok-after_start.left.now (counts_of c.in-Ok-after_compact_counts.counts)
    (claim_of c.in-Ok-after_start.start) (sym c.in-Ok.ensures) (sym c.in-Ok-after_compact_counts.ensures) (sym c.in-Ok-after_start.ensures) (sym (ap (λ (ks : List ℕ). nat_eq l (length ks)) c.in_ok-numbers.ensures) ∙ apart)

pub returns-in_err-start-clause-reads : goal.returns-in_err-start-clause-reads
unfolding text_left counts_left start_left
returns-in_err-start-clause-reads c =
    let p = err_from_is_err_and c.from_residual-in_err-start.result c.from_residual-in_err-start.ensures.1 in
    rw (p.1, p.2)
    (missed c.args.text.now c.args.names.now (loops_of c.args.commands.now) c.args.functions (claim_fits c.args.names.now (claim_of c.in-Ok-after_start.start) ≡ false) _
    (no_start c.args.text.now c.args.names.now (loops_of c.args.commands.now) c.args.functions c.requires.form c.in-Ok.left.now c.in-Ok-after_compact_counts.left.now c.in-Ok-after_start.left.now (counts_of c.in-Ok-after_compact_counts.counts)
    (claim_of c.in-Ok-after_start.start) (sym c.in-Ok.ensures) (sym c.in-Ok-after_compact_counts.ensures) (sym c.in-Ok-after_start.ensures))
    (missing (claim_fits c.args.names.now (claim_of c.in-Ok-after_start.start)) (claim_fits c.args.names.now (claim_of c.in-Ok-after_start.start) ≡ false) _ (λ h. h) c.in_err-start.ensures.refusal))

pub returns-in_err-read-clause-reads : goal.returns-in_err-read-clause-reads
unfolding text_left counts_left start_left
returns-in_err-read-clause-reads c =
    let p = err_from_is_err_and c.from_residual-in_err-read.result c.from_residual-in_err-read.ensures.1 in
    let l = c.in-Ok-after_compact_counts.counts.loops in
    let numbers_are : c.deref.result.now ≡ loop_numbers 1 (loops_of c.args.commands.now) = c.deref.ensures.value ∙ c.in_ok-numbers.ensures in
    let same : l ≡ length c.in_ok-numbers.numbers.items = search rules in
    let refusal = subst (λ (ks : List ℕ). Misses (NoTurnsFit c.args.names.now ks c.in-Ok-after_start.left.now) c.in_err-read.field-0.0) numbers_are c.in_err-read.ensures.refusal in
    rw (p.1, p.2)
    (missed c.args.text.now c.args.names.now (loops_of c.args.commands.now) c.args.functions (NoTurnsFit c.args.names.now (loop_numbers 1 (loops_of c.args.commands.now)) c.in-Ok-after_start.left.now) _
    (no_turns c.args.text.now c.args.names.now (loops_of c.args.commands.now) c.args.functions c.requires.form c.in-Ok.left.now c.in-Ok-after_compact_counts.left.now c.in-Ok-after_start.left.now (counts_of c.in-Ok-after_compact_counts.counts)
    (claim_of c.in-Ok-after_start.start) (sym c.in-Ok.ensures) (sym c.in-Ok-after_compact_counts.ensures) (sym c.in-Ok-after_start.ensures) (same ∙ ap (λ (ks : List ℕ). length ks) c.in_ok-numbers.ensures))
    refusal)

pub returns-in_err-entries-clause-reads : goal.returns-in_err-entries-clause-reads
unfolding text_left counts_left start_left
returns-in_err-entries-clause-reads c =
    let p = err_from_is_err_and c.from_residual-in_err-entries.result c.from_residual-in_err-entries.ensures.1 in
    let l = c.in-Ok-after_compact_counts.counts.loops in
    let m = c.in-Ok-after_compact_counts.counts.functions in
    let numbers_are : c.deref.result.now ≡ loop_numbers 1 (loops_of c.args.commands.now) = c.deref.ensures.value ∙ c.in_ok-numbers.ensures in
    let same : l ≡ length c.in_ok-numbers.numbers.items = search rules in
    let turns = subst (λ (ks : List ℕ). ReadsTurns c.args.names.now ks c.in-Ok-after_start.left.now c.read_facts.new.rows c.in_ok-read.read.heads.entries c.in_ok-read.read.left.now c.read_turns.new.rows) numbers_are c.in_ok-read.ensures.ok in
    rw (p.1, p.2)
    (missed c.args.text.now c.args.names.now (loops_of c.args.commands.now) c.args.functions (NoFunctionsFit c.args.names.now (4 + l) m c.in_ok-read.read.left.now) _
    (no_functions c.args.text.now c.args.names.now (loops_of c.args.commands.now) c.args.functions c.requires.form c.in-Ok.left.now c.in-Ok-after_compact_counts.left.now c.in-Ok-after_start.left.now (counts_of c.in-Ok-after_compact_counts.counts)
    (claim_of c.in-Ok-after_start.start) (sym c.in-Ok.ensures) (sym c.in-Ok-after_compact_counts.ensures) (sym c.in-Ok-after_start.ensures) (same ∙ ap (λ (ks : List ℕ). length ks) c.in_ok-numbers.ensures)
    c.in_ok-read.read.left.now c.read_facts.new.rows c.read_turns.new.rows c.in_ok-read.read.heads.entries turns)
    c.in_err-entries.ensures.refusal)

pub returns-clause-reads : goal.returns-clause-reads
unfolding text_left counts_left start_left
returns-clause-reads c =
    let n = c.in-Ok-after_compact_counts.counts.commands in
    let l = c.in-Ok-after_compact_counts.counts.loops in
    let m = c.in-Ok-after_compact_counts.counts.functions in
    let numbers_are : c.deref.result.now ≡ loop_numbers 1 (loops_of c.args.commands.now) = c.deref.ensures.value ∙ c.in_ok-numbers.ensures in
    let same : l ≡ length c.in_ok-numbers.numbers.items = search rules in
    let both : (nat_eq n (length c.args.commands.now) && nat_eq m c.args.functions) ≡ true = search rules in
    let parts = and_parts (nat_eq n (length c.args.commands.now)) (nat_eq m c.args.functions) both in
    let all : n ≡ length c.args.commands.now = grind (arith, nat_tests, parts) in
    let count : m ≡ c.args.functions = grind (arith, nat_tests, parts) in
    let long : length (loops_of c.args.commands.now) ≡ length c.args.commands.now = length-map c.args.commands.now (λ (x : Bor Command). is_loop x.now) in
    let turns = subst (λ (ks : List ℕ). ReadsTurns c.args.names.now ks c.in-Ok-after_start.left.now c.read_facts.new.rows c.in_ok-read.read.heads.entries c.in_ok-read.read.left.now c.read_turns.new.rows) numbers_are c.in_ok-read.ensures.ok in
    whole c.args.text.now c.args.names.now (loops_of c.args.commands.now) c.args.functions c.requires.form c.in-Ok.left.now c.in-Ok-after_compact_counts.left.now c.in-Ok-after_start.left.now (counts_of c.in-Ok-after_compact_counts.counts)
    (claim_of c.in-Ok-after_start.start) (sym c.in-Ok.ensures) (sym c.in-Ok-after_compact_counts.ensures) (sym c.in-Ok-after_start.ensures) (same ∙ ap (λ (ks : List ℕ). length ks) c.in_ok-numbers.ensures)
    c.in_ok-read.read.left.now c.read_facts.new.rows c.read_turns.new.rows c.in_ok-read.read.heads.entries turns
    (record { commands = n; start = c.in_ok-start.start; rows = c.read_functions.new.rows; heads = c.in_ok-read.read.heads; functions = c.in_ok-entries.entries })
    c.in-Ok-after_start.start c.new-rows.result (all ∙ sym long) count refl refl refl c.in_ok-start.ensures.ok c.in_ok-entries.ensures.ok
