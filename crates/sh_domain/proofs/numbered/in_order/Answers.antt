use Rattle.std.proofs.Common.{◌≡◌, rules}
use Rattle.std.proofs.lemmas.Fn.{always_returns_same}
use Rattle.sh_domain.specs.declared.numbered.Numbered.{Numbered}
use Rattle.sh_domain.proofs.ByteOrderLemmas.{sorted_order}
use Rattle.sh_domain.proofs.numbered.in_order.Goals as goal

pub returns : goal.returns
returns c =
    sorted_order c.args.names.now c.in_ok-order.order.items c.sort_by_key.new.self.items c.all_of.ensures.distinct c.in_ok-order.ensures.all c.sort_by_key.ensures.permutation
    (c.in_ok-sort_by_key.ensures.sorted (λ (n : Numbered). n.name) (always_returns_same _ (λ a r. r ≡ a.0.now.name) _ (λ a r q k. search rules)))
