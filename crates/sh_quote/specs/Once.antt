-- That each expansion outside quotes is reported once.
-- POSIX.1-2024, XCU 2.6.5 (field splitting), 2.6.6 (pathname expansion).
use Rattle.std.specs.Prelude.{ℕ, List}
use Rattle.sh_tree.specs.declared.tree.Script.{Script}
use Rattle.sh_tree.specs.standard.language.Reading.{Reads}
use Rattle.sh_tree.specs.standard.program.Syntax as p
use Rattle.sh_tree.specs.standard.program.Trees.{script_of}
use Rattle.sh_reads.specs.Spots.{EachOnce, items_spots}
use Rattle.sh_quote.specs.Places.{unquoted}

-- if each spot occurs once, so does each place outside quotes
abbrev pub UnquotedStandOnce : Type 0
UnquotedStandOnce = (t : p.Items) → EachOnce (items_spots t) → EachOnce (unquoted t)

-- so of what is read none is reported twice
abbrev pub ReadUnquotedStandOnce : Type 0
ReadUnquotedStandOnce = (b : List ℕ) (t : Script) → Reads b t → EachOnce (unquoted (script_of b t))
