use Rattle.std.proofs.Common.{◌<◌, ◌≤◌, ltb, ltb-true, rules}
use Rattle.std.specs.List.Sorted.{IsPartitionPoint}
use Rattle.std.proofs.lemmas.Bool.{ltb-false}
use Rattle.std.proofs.lemmas.List.Sorted.{IsPartitionPoint-from_clause, IsPartitionedBy-ltb}
use Rattle.sh_scan.proofs.PlaceLemmas.{few_below, not_falling}
use Rattle.sh_scan.proofs.lines.count_below.Goals as goal

pub returns : goal.returns
returns c =
    let xs = c.args.rising.now in
    let bound = c.args.bound in
    let n = c.partition_point.result in
    let ordered = IsPartitionedBy-ltb (λ k. k) xs bound (not_falling xs c.requires) in
    let point = IsPartitionPoint-from_clause (λ k. ltb k bound) xs n c.partition_point.ensures.partitioned ordered (λ a r q k. search rules) in
    let parted : IsPartitionPoint (λ k. k < bound) (λ k. bound ≤ k) xs n =
    (λ k d low high. ltb-true _ _ (point.0 k d low high), λ k d low high. ltb-false _ _ (point.1 k d low high)) in
    let below = few_below xs bound n c.requires c.partition_point.ensures.bound parted in
    record { within = c.partition_point.ensures.bound; few = below.few; last = below.last; parted = parted }
