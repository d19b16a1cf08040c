use Rattle.std.proofs.Common.{ℕ, rules, not}
use Rattle.std.proofs.lemmas.Fn.{filter_same}
use Rattle.sh_rows.specs.Numbers.{has_number}
use Rattle.sh_rows.proofs.names.keep_rest.Goals as goal

pub returns : goal.returns
returns c = filter_same _ (λ (n : ℕ). not (has_number n c.args.others.now)) _ (λ x b f' k. search rules) _ _ c.retain.ensures.filtered
