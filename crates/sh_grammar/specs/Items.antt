-- What is left of a list of items.
-- POSIX.1-2024, XCU 2.9.3 (lists), 2.10 (shell grammar).
use Rattle.std.specs.Prelude.{◌≡◌, ◌⊎◌, ℕ, Bool, false, true, not, ◌||◌, List, [], ◌∷◌, None, Some}
use Rattle.sh_tree.specs.declared.tree.AndOr.{AndOr}
use Rattle.sh_tree.specs.declared.tree.Item.{Item}
use Rattle.sh_tree.specs.standard.language.Commands.{begins_pipeline, separator, is_reserved}
use Rattle.sh_tree.specs.standard.language.Reading.{ReadsItems, ReadsBreaks, lead_here, parted}
use Rattle.sh_tree.specs.standard.language.States as states
use Rattle.sh_tree.specs.standard.language.States.{Document}
use Rattle.sh_tree.specs.standard.language.Trees.{item}
use Rattle.sh_grammar.specs.declared.state.State.{State}
use Rattle.sh_grammar.specs.States.{here}
use Rattle.sh_grammar.specs.Readers.{Reading, unread}

-- what is left of a sequence at a place without a newline: items that begin here, or none
abbrev pub ReadsRest : ℕ → List ℕ → (ℕ → Document) → states.State → states.State → List Item → Type 0
ReadsRest limit b body s v is =
    ((begins_pipeline (lead_here b s) ≡ false) × (v ≡ s) × (is ≡ [])) ⊎ ((begins_pipeline (lead_here b s) ≡ true) × ReadsItems limit b body s v is)

-- what is left of items after their first and-or list, which ends at u
abbrev pub ReadsTail : ℕ → List ℕ → (ℕ → Document) → AndOr → states.State → states.State → List Item → Type 0
ReadsTail limit b body l u v is =
    ((separator (lead_here b u) ≡ None) × (not (is_reserved (lead_here b u)) || u.closed ≡ true) × (v ≡ u) × (is ≡ item l false ∷ []))
    ⊎ ((g : Bool) × (w : states.State) × (js : List Item) × (separator (lead_here b u) ≡ Some g) × ReadsBreaks limit b (parted b u) w × ReadsRest limit b body w v js
    × (is ≡ item l g ∷ js))

abbrev pub RestFrom : List ℕ → State → Reading (List Item)
RestFrom b s limit v is = ReadsRest limit b unread (here s) v is
