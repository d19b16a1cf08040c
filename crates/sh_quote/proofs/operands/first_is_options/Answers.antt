use Rattle.std.proofs.Common.{ap, sym, ◌∙◌}
use Rattle.sh_quote.specs.Operands.{is_one_field}
use Rattle.sh_quote.proofs.OperandLemmas.{options_at}
use Rattle.sh_quote.proofs.operands.first_is_options.Goals as goal

pub returns-then-is_one_field : goal.returns-then-is_one_field
returns-then-is_one_field c =
    options_at c.args.script.now c.args.word.now c.args.texts.now c.first-item.result c.all_name_other.result c.in-len1-up.len_at_least c.first-item.is
    (ap (is_one_field c.args.script.now c.args.word.now) (sym c.get.ensures) ∙ sym c.is_one_field.ensures ∙ c.if-is_one_field.true) c.all_name_other.ensures
