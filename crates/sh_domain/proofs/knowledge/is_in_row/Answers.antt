use Rattle.std.proofs.Common.{sym, ◌∙◌, ap}
use Rattle.sh_domain.specs.KeptRows.{holds_at}
use Rattle.sh_domain.specs.Knowledge.{at_number}
use Rattle.sh_domain.proofs.KnowledgeLemmas.{in_row}
use Rattle.sh_domain.proofs.knowledge.is_in_row.Goals as goal

pub returns-in-Some : goal.returns-in-Some
unfolding at_number
returns-in-Some c h =
    c.has.ensures ∙ ap (at_number (λ k. holds_at c.args.rows.now.rows c.args.id.index k)) c.in-Some.ensures.number ∙ sym (in_row c.args.names.now h c.args.rows.now c.args.id c.args.name.now)

pub returns-in-None : goal.returns-in-None
unfolding at_number
returns-in-None c h =
    ap (at_number (λ k. holds_at c.args.rows.now.rows c.args.id.index k)) c.in-None.ensures.number ∙ sym (in_row c.args.names.now h c.args.rows.now c.args.id c.args.name.now)
