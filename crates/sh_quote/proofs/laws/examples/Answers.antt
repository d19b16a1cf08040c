use Rattle.sh_quote.proofs.QuoteLemmas.{quotes_as_expected}
use Rattle.sh_quote.proofs.laws.examples.Goals as goal

pub returns : goal.returns
returns c = quotes_as_expected
