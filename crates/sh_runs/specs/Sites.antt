-- The commands of a program by their numbers: what is round each, and the words of a simple one or
-- the name that one defines.
-- POSIX.1-2024, XCU 2.9.1 (simple commands), 2.9.5 (function definitions).
use Rattle.std.specs.Prelude.{ℕ, nat_lt, if◌then◌else◌, List, [], ◌∷◌, map}
use Rattle.sh_tree.specs.standard.program.Syntax as p
use Rattle.sh_tree.specs.standard.program.Syntax.{Text}
use Rattle.sh_tree.specs.standard.program.Words.{operands_in, static_of, words_in}
use Rattle.sh_runs.specs.Profile.{Static}
use Rattle.sh_runs.specs.Surroundings.{Surroundings, Located, outside, items_located}

-- the words of a simple command, the name that a definition defines, or another command
pub data Form : Type 0 where
  Simple : p.Words → Form
  Defines : Text → Form
  Other : Form

pub record Site : Type 0 where
  pub number : ℕ
  pub at : ℕ
  pub surroundings : Surroundings
  pub form : Form

-- the static texts of its words
unfoldable pub statics : Form → List Static
statics (Simple ws) = map static_of (words_in ws)
statics _ = []

unfoldable pub form_of : p.Kind → Form
form_of (p.Simple es) = Simple (operands_in es)
form_of (p.Define name body) = Defines name
form_of _ = Other

unfoldable pub site_of : Located → Site
site_of l = at_command l.command
  where
    at_command : p.Command → Site
    at_command (p.command number at kind rs) = record { number = number; at = at; surroundings = l.surroundings; form = form_of kind }

-- a command among others, before those with its number or a greater one
unfoldable pub placed : Site → List Site → List Site
placed s [] = s ∷ []
placed s (x ∷ xs) = if nat_lt x.number s.number then x ∷ placed s xs else s ∷ x ∷ xs

unfoldable pub by_number : List Site → List Site
by_number [] = []
by_number (s ∷ ss) = placed s (by_number ss)

-- the commands of a program, by their numbers
unfoldable pub sites_of : p.Items → List Site
sites_of t = by_number (map site_of (items_located outside t))
