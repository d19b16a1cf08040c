-- Whether a simple command changes the positional parameters, by the static texts of its words.
-- POSIX.1-2024, XCU 2.15 (set, shift).
use Rattle.std.specs.Prelude.{◌≡◌, Bool, true, false, List, [], ◌∷◌, map, Some, None, is_some}
use Rattle.sh_tree.specs.declared.known.KnownName.TheVariants as known
use Rattle.sh_tree.specs.standard.program.Syntax as p
use Rattle.sh_tree.specs.standard.program.Syntax.{Text}
use Rattle.sh_tree.specs.standard.program.Words.{static_of}
use Rattle.sh_runs.specs.declared.kind.Kind.{Kind}
use Rattle.sh_runs.specs.declared.kind.Kind.TheVariants as kind
use Rattle.sh_runs.specs.standard.Kinds.{kind_of}
use Rattle.sh_runs.specs.Profile.{Static}
use Rattle.sh_operands.specs.Texts.{positional_at}
use Rattle.sh_domain.specs.Demands.{command_moves}
use Rattle.sh_domain.specs.Table.{operands}

-- `shift`, and `set` with positional words or `--`
unfoldable pub kind_moves_by : Kind → List Static → Bool
kind_moves_by (kind.Special known.Shift) ts = true
kind_moves_by (kind.Special known.Set) ts = is_some (positional_at false ts)
kind_moves_by _ ts = false

-- the command name first, then the operands
unfoldable pub moves_by : List Static → Bool
moves_by [] = false
moves_by (None ∷ ts) = false
moves_by (Some t ∷ ts) = kind_moves_by (kind_of t) ts

-- It is what the demands ask, whatever functions there are.
pub record MovesTell : Type 0 where
  pub moves : (functions : List Text) (es : p.Elements) → moves_by (map static_of (operands es)) ≡ command_moves functions (p.Simple es)
