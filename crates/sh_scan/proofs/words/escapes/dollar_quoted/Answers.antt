use Rattle.std.proofs.Common.{◌∙◌}
use Rattle.sh_scan.proofs.QuotationLemmas.{quoted_behind}
use Rattle.sh_scan.proofs.words.escapes.dollar_quoted.Goals as goal

pub returns-clause-value : goal.returns-clause-value
returns-clause-value c = c.quotation_end.ensures.value ∙ quoted_behind c.args.rest.now c.quoted_length-length.result c.quoted_length-length.ensures.value
