use Rattle.std.proofs.Common.{◌<◌, ◌-◌, fold, length, sym, ap, ◌∙◌, arith}
use Rattle.std.proofs.lemmas.List.{take_rest}
use Rattle.sh_rules.specs.Walks.{item_left}
use Rattle.sh_rules.proofs.BehindLemmas.{settled_there}
use Rattle.sh_rules.proofs.behind.settled_from.Goals as goal

pub returns-then-is_settled : goal.returns-then-is_settled
returns-then-is_settled c =
    λ x o p.
    let is = c.args.items.now in
    let at = c.loop-from.from - 1 in
    let some = c.loop-from-test.true in
    let bound = c.loop-from.invariant in
    let within : at < length is = omega (arith, some, bound) in
    ap (fold (item_left x) o) (take_rest is at) ∙ settled_there x o p at is c.index-items-from.result within c.index-items-from.is (sym c.is_settled.ensures ∙ c.if-is_settled.true)
