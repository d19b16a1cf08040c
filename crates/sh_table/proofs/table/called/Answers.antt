use Rattle.std.proofs.Common.{◌≡◌, ℕ, suc, ◌+◌, Some, ap, rules, arith, ◌∙◌}
use Rattle.sh_table.proofs.TableLemmas.{special_named, place_named, no_place_named}
use Rattle.sh_table.proofs.table.called.Goals as goal

pub returns-in_err-place : goal.returns-in_err-place
returns-in_err-place c = rw c.from_residual.ensures (no_place_named c.args.functions.now.names c.args.name.now c.in_err-place.ensures.place)

pub returns-then-is_special : goal.returns-then-is_special
returns-then-is_special c = special_named c.args.functions.now.names c.args.name.now (search rules)

pub returns : goal.returns
returns c =
    let place = c.in_ok-place.place in
    let next : place + 1 ≡ suc place = omega arith in
    ap (λ (n : ℕ). Some n) next ∙ place_named c.args.functions.now.names c.args.name.now (Some place) (search rules) c.in_ok-place.ensures.place
