use Rattle.std.proofs.Common.{◌≡◌, sym, ◌∙◌, ap}
use Rattle.std.specs.List.{list_all}
use Rattle.std.proofs.Math.Path.{fun_ext}
use Rattle.sh_runs.specs.standard.runs.Environment.{is_one_of}
use Rattle.sh_domain.specs.Certificates.{in_byte_order, names_at}
use Rattle.sh_domain.specs.Knowledge.{contains}
use Rattle.sh_domain.specs.NumberSets.{numbers_of}
use Rattle.sh_domain.proofs.KnowledgeLemmas.{row_set, same_row}
use Rattle.sh_domain.proofs.knowledge.is_row_within.Goals as goal

pub returns-then-part-whole : goal.returns-then-part-whole
returns-then-part-whole c names h count = sym (same_row (in_byte_order names) c.args.rows.now c.args.part c.args.whole c.if-part-whole.true)

pub returns : goal.returns
returns c names h count =
    let rows = c.args.rows.now in
    let order = in_byte_order names in
    let same : contains names c.set_row.new.self ≡ is_one_of (names_at order rows c.args.whole) =
    fun_ext (λ t. row_set names h rows c.args.whole (numbers_of c.set_row.new.self) c.set_row.ensures t) in
    c.includes.ensures.names names h count ∙ ap (λ p. list_all p (names_at order rows c.args.part)) same
