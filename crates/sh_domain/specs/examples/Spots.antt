-- The spots of known programs, against which their definition is held.
-- POSIX.1-2024, XCU 2.6 (word expansions), 2.7.4 (here-documents), 2.9 (shell commands).
use Rattle.std.specs.Prelude.{◌≡◌, [], ◌∷◌, codes}
use Rattle.sh_tree.specs.declared.place.Code.TheVariants.{U1}
use Rattle.sh_tree.specs.examples.Program.{only, simple, lone}
use Rattle.sh_tree.specs.standard.program.Syntax.{Items, Variable, Expansion, Value, more_parts, no_elements, operand}
use Rattle.sh_domain.specs.Demands.{demands}
use Rattle.sh_domain.specs.Facts.{start_facts}
use Rattle.sh_domain.specs.examples.Programs.{text, certificate, declared, place}
use Rattle.sh_domain.specs.examples.LongerScripts.{script_44_program, script_49_program}
use Rattle.sh_domain.specs.examples.ShortScripts.{script_4_sheet}
use Rattle.sh_reads.specs.Spots.{OfCommand, OfWord, items_spots}

-- `echo $x$x`, were both expansions at one offset
abbrev pub doubled : Items
doubled =
    let x = Expansion 5 (Variable (codes "x")) Value in
    lone (simple 1 0 (text (codes "echo") (operand (more_parts x (only x)) no_elements)))

pub record SpotsAsExpected : Type 0 where
  -- `OPTARG= f a "${x:?${x:=1}}" && x="${x:=$((OPTARG && (x=2)))}" f NL echo "$OPTARG"`
  pub nested :
      items_spots script_44_program
      ≡ OfCommand 0 ∷ OfWord 13 ∷ OfWord 18 ∷ OfCommand 31 ∷ OfWord 34 ∷ OfWord 39 ∷ OfWord 42 ∷ OfWord 53 ∷ OfCommand 64 ∷ OfWord 70 ∷ []
  -- `f() ( NL cat <<E >"$x" NL $x NL E NL ) NL g() { NL unset -v x NL } NL ! case "$x" in NL
  -- (* | "$x") NL ;; NL esac && unset y NL echo "$x"`: the body of a here-document is after the
  -- line of its operator
  pub here_document :
      items_spots script_49_program
      ≡ OfCommand 0 ∷ OfCommand 4 ∷ OfCommand 6 ∷ OfWord 20 ∷ OfWord 16 ∷ OfCommand 27 ∷ OfCommand 31 ∷ OfCommand 33 ∷ OfCommand 48 ∷ OfWord 54 ∷ OfWord 67
      ∷ OfCommand 83 ∷ OfCommand 91 ∷ OfWord 97 ∷ []
  -- if a spot occurs twice, a place may be reported twice
  pub twice : demands (start_facts (declared [] 0)) (certificate script_4_sheet) doubled ≡ place 5 U1 (codes "x") ∷ place 5 U1 (codes "x") ∷ []
