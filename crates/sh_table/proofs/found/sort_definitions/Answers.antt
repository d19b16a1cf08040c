use Rattle.std.proofs.Common.{rules}
use Rattle.std.proofs.lemmas.List.Sorted.{IsNonDecreasingBy-from_sort_by_key, answers_always}
use Rattle.sh_table.specs.declared.functions.Definition as declared
use Rattle.sh_table.proofs.FoundLemmas.{definitions_in_order}
use Rattle.sh_table.proofs.found.sort_definitions.Goals as goal

pub returns : goal.returns
returns c =
    λ b ss e. definitions_in_order b _ _ ss (IsNonDecreasingBy-from_sort_by_key (λ (x : declared.Definition). x.number) _ c.in_ok-sort_by_key.ensures.sorted (λ a r q k. search rules))
    (c.in_ok-sort_by_key.ensures.stable (λ (x : declared.Definition). x.number) (answers_always _ _ _ (λ f a r g h. search rules))) e
