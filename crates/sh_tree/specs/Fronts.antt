-- The text of a word up to its first expansion, which is what is made of it before that is met.
-- POSIX.1-2024, XCU 2.2 (quoting), 2.6 (word expansions).
use Rattle.std.specs.Prelude.{◌≡◌, ℕ, List, [], ◌∷◌, ◌++◌, Option, Some, None, refl}
use Rattle.std.proofs.Common.{◌∙◌, ap}
use Rattle.sh_tree.specs.declared.tree.Span.{Span}
use Rattle.sh_tree.specs.declared.tree.Part.{Part, Double, Double', Row_of-Part, end_of-Part, more_of-Part, items-the_row-Part}
use Rattle.sh_tree.specs.declared.tree.Element.TheBlock.{hidden-the_row-Part-0, items_hidden-the_row-Part-0}
use Rattle.sh_tree.specs.standard.Words.{part_text}

abbrev get_or_empty : Option (List ℕ) → List ℕ
get_or_empty None = []
get_or_empty (Some t) = t

-- a front, and after it the others if it is of a part that is static
abbrev pub front_with : (front : List ℕ) → (text : Option (List ℕ)) → (others : List ℕ) → List ℕ
front_with front None others = front
front_with front (Some t) others = front ++ others

-- the text of a part up to the first expansion or tilde-prefix in it
unfoldable mutual
  pub part_front : List ℕ → Part → List ℕ
  part_front b (Double' s shape row) = row_front b row
  part_front b part = get_or_empty (part_text b part)

  pub row_front : {m : _} → List ℕ → Row_of-Part m → List ℕ
  row_front b end_of-Part = []
  row_front b (more_of-Part x rest) = front_with (part_front b x) (part_text b x) (row_front b rest)

-- the text of parts up to the first expansion or tilde-prefix in them
unfoldable pub parts_front : List ℕ → List Part → List ℕ
parts_front b [] = []
parts_front b (x ∷ xs) = front_with (part_front b x) (part_text b x) (parts_front b xs)

row_front-items : (m : _) (b : List ℕ) (row : Row_of-Part m) → row_front b row ≡ parts_front b (items-the_row-Part m row)
unfolding row_front parts_front
row_front-items m b end_of-Part = refl
row_front-items m b (more_of-Part x rest) = ap (front_with (part_front b x) (part_text b x)) (row_front-items _ b rest)

pub part_front-Double : (b : List ℕ) (s : Span) (ps : List Part) → part_front b (Double s ps) ≡ parts_front b ps
unfolding part_front
part_front-Double b s ps = row_front-items _ b (hidden-the_row-Part-0 ps) ∙ ap (parts_front b) (items_hidden-the_row-Part-0 ps)
