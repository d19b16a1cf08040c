use Rattle.std.proofs.Common.{rules}
use Rattle.std.proofs.lemmas.List.Sorted.{IsNonDecreasingBy-from_sort_by_key, answers_always}
use Rattle.sh_table.specs.declared.site.Site as declared
use Rattle.sh_table.proofs.SiteLemmas.{sites_in_order}
use Rattle.sh_table.proofs.sites.sort_sites.Goals as goal

pub returns : goal.returns
returns c =
    λ b ss e. sites_in_order b _ _ ss (IsNonDecreasingBy-from_sort_by_key (λ (x : declared.Site). x.number) _ c.in_ok-sort_by_key.ensures.sorted (λ a r q k. search rules))
    (c.in_ok-sort_by_key.ensures.stable (λ (x : declared.Site). x.number) (answers_always _ _ _ (λ f a r g h. search rules))) e
