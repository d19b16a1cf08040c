use Rattle.std.proofs.Common.{◌≡◌, true, fold, take}
use Rattle.sh_rules.specs.Behind.{IsSame}
use Rattle.sh_rules.specs.Walks as walks
use Rattle.sh_rules.proofs.behind.Behind.pass_items.Given as goal

-- what is known so far is what the items so far leave
abbrev pub invariant-loop-item : goal.invariant-loop-item
invariant-loop-item l = record {
  folded : walks.behind_in (walks.setting l.claims) l.self ≡ fold (walks.item_left (walks.setting l.claims)) (walks.behind_in (walks.setting l.claims) l.initial.self) (take l.item-index l.items);
  same : l.is_same ≡ true → IsSame (walks.behind_in (walks.setting l.claims) l.self);
}
