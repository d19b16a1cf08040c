use Rattle.std.proofs.Common.{ap, ◌∙◌}
use Rattle.sh_rows.specs.Numbers.{has_bit}
use Rattle.sh_domain.proofs.RowLemmas.{has_bits, is_there}
use Rattle.sh_drafts.proofs.kept_rows.intern.Goals as goal

pub returns-then-is_at-clause-found : goal.returns-then-is_at-clause-found
returns-then-is_at-clause-found c k =
    has_bits c.args.rows.now.rows c.copy_from.new.self c.args.first.index (c.is_at.ensures.0 c.if-is_at.true) k ∙ c.copy_from.ensures.numbers k ∙ ap (has_bit k) c.words.ensures

pub returns-then-is_at-2-clause-found : goal.returns-then-is_at-2-clause-found
returns-then-is_at-2-clause-found c k =
    has_bits c.args.rows.now.rows c.copy_from.new.self c.args.second.index (c.is_at-2.ensures.0 c.if-is_at-2.true) k ∙ c.copy_from.ensures.numbers k ∙ ap (has_bit k) c.words.ensures

pub returns-then-is_at-clause-known : goal.returns-then-is_at-clause-known
returns-then-is_at-clause-known c = is_there c.args.rows.now.rows c.copy_from.new.self c.args.first.index (c.is_at.ensures.0 c.if-is_at.true)

pub returns-then-is_at-2-clause-known : goal.returns-then-is_at-2-clause-known
returns-then-is_at-2-clause-known c = is_there c.args.rows.now.rows c.copy_from.new.self c.args.second.index (c.is_at-2.ensures.0 c.if-is_at-2.true)
