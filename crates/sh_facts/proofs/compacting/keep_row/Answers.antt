use Rattle.std.proofs.Common.{sym, ◌∙◌}
use Rattle.sh_domain.proofs.RowLemmas.{bits_at, no_bits}
use Rattle.sh_facts.proofs.CompactingLemmas.{row_kept}
use Rattle.sh_facts.proofs.compacting.keep_row.Goals as goal

pub returns-in_ok-kept-in-Some : goal.returns-in_ok-kept-in-Some
returns-in_ok-kept-in-Some c =
    row_kept c.args.rows.now c.intern.new.self c.args.from.now c.in_ok-kept-in-Some.kept c.args.id c.in_ok-kept-in-Some.ensures.count c.in_ok-kept-in-Some.ensures.kept
    (λ k. c.in_ok-kept-in-Some.ensures.found k ∙ sym (bits_at c.args.from.now.rows c.args.id.index c.in-Some.row.now (sym c.in-Some.ensures.row) k)) c.in_ok-kept-in-Some.ensures.known

pub returns-in_ok-kept-in-None : goal.returns-in_ok-kept-in-None
returns-in_ok-kept-in-None c =
    row_kept c.args.rows.now c.intern-in-None.new.self c.args.from.now c.in_ok-kept-in-None.kept c.args.id c.in_ok-kept-in-None.ensures.count c.in_ok-kept-in-None.ensures.kept
    (λ k. c.in_ok-kept-in-None.ensures.found k ∙ c.in_ok-none-in-None.ensures.numbers k ∙ sym (no_bits c.args.from.now.rows c.args.id.index (sym c.in-None.ensures.row) k)) c.in_ok-kept-in-None.ensures.known
