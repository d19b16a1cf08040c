-- What is known after an item that settles it, whatever is known before the item.
use Rattle.std.proofs.Common.{◌≡◌, [], ◌∷◌, true, refl, ◌∙◌, arith}
use Rattle.sh_tree.specs.declared.tree.Item.{Item}
use Rattle.sh_domain.specs.Facts.{Facts, NotReached, meet}
use Rattle.sh_rules.specs.Behind.{Behind, either}
use Rattle.sh_rules.specs.Settings.{Setting}
use Rattle.sh_rules.specs.Walks.{behind_item, is_settled, item_left}
use Rattle.sh_rules.proofs.BehindLemmas.{settled_there}

pub settled_left : (x : Setting) (before left : Behind) (k : Facts) (i : Item) → is_settled i ≡ true → left ≡ item_left x before i → left ≡ behind_item x k i
unfolding meet item_left behind_item
settled_left x before left k i e is = is ∙ settled_there x before (either NotReached k) 0 (i ∷ []) i (omega arith) refl e
