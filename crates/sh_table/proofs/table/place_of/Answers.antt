use Rattle.std.proofs.Common.{◌≡◌, ◌<◌, ◌≤◌, ◌==◌, false, length, get_or, ◌∙◌, arith, rules}
use Rattle.std.proofs.Math.Dec.{ltb}
use Rattle.std.proofs.lemmas.List.Sorted.{IsPartitionPoint-from_clause, IsPartitionedBy-ltb}
use Rattle.sh_table.specs.declared.table.Row as declared
use Rattle.sh_table.proofs.TableLemmas.{place_there, no_place, all_below, all_above, number_there}
use Rattle.sh_table.proofs.table.place_of.Goals as goal

pub returns-then-is_first_at-clause-place : goal.returns-then-is_first_at-clause-place
returns-then-is_first_at-clause-place c =
    let yes = c.if-is_first_at.true in
    let within = c.is_first_at.ensures.within yes in
    let at = c.saturating_sub-place.result in
    place_there c.args.command at c.args.rows.now within (all_below c.args.command at c.args.rows.now c.requires within (c.is_first_at.ensures.before yes)) (c.is_first_at.ensures.here yes)

pub returns-in_err-row-clause-place : goal.returns-in_err-row-clause-place
returns-in_err-row-clause-place c =
    let at = c.partition_point-at.result in
    let parted = IsPartitionedBy-ltb (λ (r : declared.Row). r.number) c.args.rows.now c.args.command c.requires in
    let point = IsPartitionPoint-from_clause (λ (r : declared.Row). ltb r.number c.args.command) _ _ c.partition_point-at.ensures.partitioned parted (λ a r q k. search rules) in
    let outside : length c.args.rows.now ≤ at = search rules in
    rw c.from_residual.ensures (no_place c.args.command at c.args.rows.now point.0 (λ k d m h. absurd (omega (arith, outside, m, h))))

pub returns-then-row-command-clause-place : goal.returns-then-row-command-clause-place
returns-then-row-command-clause-place c =
    let at = c.partition_point-at.result in
    let parted = IsPartitionedBy-ltb (λ (r : declared.Row). r.number) c.args.rows.now c.args.command c.requires in
    let point = IsPartitionPoint-from_clause (λ (r : declared.Row). ltb r.number c.args.command) _ _ c.partition_point-at.ensures.partitioned parted (λ a r q k. search rules) in
    let row = c.in_ok-row.row.now in
    let within : at < length c.args.rows.now = search rules in
    let here : row ≡ get_or c.args.rows.now at row = search rules in
    let same : row.number ≡ c.args.command = search rules in
    place_there c.args.command at c.args.rows.now within point.0 (λ d. number_there c.args.rows.now at row within here d ∙ same)

pub returns-else-row-command-clause-place : goal.returns-else-row-command-clause-place
returns-else-row-command-clause-place c =
    let at = c.partition_point-at.result in
    let parted = IsPartitionedBy-ltb (λ (r : declared.Row). r.number) c.args.rows.now c.args.command c.requires in
    let point = IsPartitionPoint-from_clause (λ (r : declared.Row). ltb r.number c.args.command) _ _ c.partition_point-at.ensures.partitioned parted (λ a r q k. search rules) in
    let row = c.in_ok-row.row.now in
    let within : at < length c.args.rows.now = search rules in
    let here : row ≡ get_or c.args.rows.now at row = search rules in
    let other : (row.number == c.args.command) ≡ false = search rules in
    no_place c.args.command at c.args.rows.now point.0 (all_above c.args.command at c.args.rows.now row c.requires here within point.1 other)
