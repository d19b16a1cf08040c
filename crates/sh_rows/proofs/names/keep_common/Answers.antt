use Rattle.std.proofs.Common.{ℕ, rules}
use Rattle.std.proofs.lemmas.Fn.{filter_same}
use Rattle.sh_rows.specs.Numbers.{has_number}
use Rattle.sh_rows.proofs.names.keep_common.Goals as goal

pub returns : goal.returns
returns c = filter_same _ (λ (n : ℕ). has_number n c.args.others.now) _ (λ x b f' k. search rules) _ _ c.retain.ensures.filtered
