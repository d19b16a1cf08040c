-- That each unmet place is reported once.
-- POSIX.1-2024, XCU 2.6 (word expansions), 2.9 (shell commands).
use Rattle.std.specs.Prelude.{ℕ, List}
use Rattle.sh_tree.specs.declared.tree.Script.{Script}
use Rattle.sh_tree.specs.standard.language.Reading.{Reads}
use Rattle.sh_tree.specs.standard.program.Syntax as p
use Rattle.sh_tree.specs.standard.program.Trees.{script_of}
use Rattle.sh_reads.specs.Spots.{EachOnce, items_spots}
use Rattle.sh_domain.specs.Demands.{demands}
use Rattle.sh_domain.specs.Facts.{Facts}
use Rattle.sh_domain.specs.Views.{Certificate}

-- if each spot occurs once, so does each unmet place
abbrev pub PlacesStandOnce : Type 0
PlacesStandOnce = (start : Facts) (c : Certificate) (t : p.Items) → EachOnce (items_spots t) → EachOnce (demands start c t)

-- so of what is read, no place of an unmet demand is reported twice
abbrev pub ReadPlacesStandOnce : Type 0
ReadPlacesStandOnce = (start : Facts) (c : Certificate) (b : List ℕ) (t : Script) → Reads b t → EachOnce (demands start c (script_of b t))
