-- What the code holds of names in a text, in the words of the definitions.
-- POSIX.1-2024, XCU 2.9.1 (simple commands): their names and words.
use Rattle.std.specs.Prelude.{List, [], ◌∷◌, map, Option, Some, None}
use Rattle.sh_tree.specs.standard.program.Syntax.{Text}
use Rattle.sh_tree.specs.declared.tree.Element.{Element}
use Rattle.sh_tree.specs.declared.tree.Word.{Word}
use Rattle.sh_tree.specs.standard.Words.{word_of}
use Rattle.sh_domain.specs.declared.sights.Seen.{Seen}
use Rattle.sh_domain.specs.Sights.{Sight}

abbrev pub as_sight : Seen → Sight
as_sight x = record { at = x.at; name = x.name.items }

abbrev pub seen_in : List Seen → List Sight
seen_in xs = map as_sight xs

abbrev pub texts_seen : List Seen → List Text
texts_seen xs = map (λ x. x.name.items) xs

-- the word that an element is, if it is one
abbrev pub listed : Option Word → List Word
listed None = []
listed (Some w) = w ∷ []

abbrev pub listed_word : Element → List Word
listed_word e = listed (word_of e)
