-- The static texts among those of words.
-- POSIX.1-2024, XCU 2.9.1 (simple commands).
use Rattle.std.specs.Prelude.{List}
use Rattle.std.specs.List.{filter_map}
use Rattle.sh_tree.specs.standard.program.Syntax.{Text}
use Rattle.sh_runs.specs.Profile.{Static}

-- the texts of the words that are static
abbrev pub listed : List Static → List Text
listed ts = filter_map (λ t. t) ts
