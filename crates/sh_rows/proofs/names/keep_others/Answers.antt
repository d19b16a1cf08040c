use Rattle.std.proofs.Common.{ℕ, rules, not, eqb}
use Rattle.std.proofs.lemmas.Fn.{filter_same}
use Rattle.sh_rows.proofs.names.keep_others.Goals as goal

pub returns : goal.returns
returns c = filter_same _ (λ (k : ℕ). not (eqb k c.args.n)) _ (λ x b f' k. search rules) _ _ c.retain.ensures.filtered
