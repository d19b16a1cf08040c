-- The places that are reported of each command of a script, by what a certificate claims before it.
-- POSIX.1-2024, XCU 2.6 (word expansions), 2.9 (shell commands), 2.13 (shell execution
-- environment).
use Rattle.std.specs.Prelude.{◌≡◌, ℕ, ◌-◌, Bool, true, false, if◌then◌else◌, List, [], ◌∷◌, ◌++◌, length, map, Option, Some, None, slice_get, unwrap_or}
use Rattle.sh_tree.specs.declared.place.Place.{Place}
use Rattle.sh_tree.specs.standard.program.Syntax as p
use Rattle.sh_tree.specs.standard.program.Syntax.{Text}
use Rattle.sh_tree.specs.standard.program.Words.{operands_in}
use Rattle.sh_runs.specs.Calls.{Table, texts_with, callee_at}
use Rattle.sh_runs.specs.standard.Kinds.{kind_of}
use Rattle.sh_runs.specs.Profile.{Static}
use Rattle.sh_domain.specs.declared.certificate.Certificate.{Certificate}
use Rattle.sh_domain.specs.Certificates.{claim_of, drops_of, in_byte_order}
use Rattle.sh_domain.specs.Demands.{is_reached, move_at}
use Rattle.sh_domain.specs.Facts.{Claim, Unreached, facts}
use Rattle.sh_domain.specs.Gains.{words_gains}
use Rattle.sh_domain.specs.Knowledge.{AreNumbered}
use Rattle.sh_domain.specs.Operands.{Names, no_names}
use Rattle.sh_demands.specs.Drops.{all_told, utility_drops, call_drops}
use Rattle.sh_gains.specs.Knowing.{Knowing, gained}
use Rattle.sh_demands.specs.Moves.{moves_by}
use Rattle.sh_demands.specs.Own.{own_places}

-- the names of a script by their numbers, what is claimed before each command, what each function
-- may drop, and the texts of its words
pub record Source : Type 0 where
  pub names : List Text
  pub before : List Claim
  pub drops : List Names
  pub table : Table

abbrev pub source_of : List Text → Certificate → Table → Source
source_of names c x = record {
  names = names;
  before = map (λ e. claim_of (in_byte_order names) c.rows e.before) c.entries.items;
  drops = map (λ e. drops_of (in_byte_order names) c.rows e.drops) c.functions.items;
  table = x;
}

-- The names are numbered, and the table is that of the script.
pub record IsSource (names : List Text) (x : Table) (script : Text) : Type 0 where
  pub numbered : AreNumbered names
  pub text : x.script ≡ script

-- of a command that there is not, that it is never reached
abbrev pub known_before : Source → ℕ → Knowing
known_before s n = record { names = s.names; facts = facts (unwrap_or (slice_get s.before (n - 1)) Unreached) }

-- of the function of a number, from 1
abbrev pub function_drops : Source → ℕ → Names
function_drops s k = unwrap_or (slice_get s.drops (k - 1)) no_names

-- after the words of a simple command
abbrev pub known_behind : Source → ℕ → p.Elements → Knowing
known_behind s n es = gained (words_gains (operands_in es)) (known_before s n)

-- what a command may drop: by the function that it calls, or as a utility
unfoldable pub called_drops : Source → ℕ → p.Elements → Text → List Static → Option ℕ → List Text
called_drops s n es t ts (Some k) = call_drops (function_drops s k) t (known_behind s n es).facts es
called_drops s n es t ts None = utility_drops s.table.functions.names (kind_of t) ts

-- by the texts of its words, the command name first
unfoldable pub texts_drops : Source → ℕ → p.Elements → List Static → List Text
texts_drops s n es [] = []
texts_drops s n es (None ∷ ts) = []
texts_drops s n es (Some t ∷ ts) = called_drops s n es t ts (callee_at s.table n)

-- the places of the names that it may drop, and that of a change of the positional parameters
unfoldable pub sharing : Source → (n at : ℕ) → List Place → p.Elements → List Place
sharing s n at ps es =
    all_told (length ps) at ps (texts_drops s n es (texts_with n s.table.rows)) ++ move_at at (moves_by (texts_with n s.table.rows))

-- where some run comes to it
unfoldable pub reached_sharing : Source → (n at : ℕ) → List Place → p.Kind → List Place
reached_sharing s n at ps (p.Simple es) = if is_reached (known_before s n).facts then sharing s n at ps es else ps
reached_sharing s n at ps _ = ps

-- in a part of a pipeline
unfoldable pub shared : Source → Bool → (n at : ℕ) → List Place → p.Kind → List Place
shared s true n at ps k = reached_sharing s n at ps k
shared s false n at ps k = ps

unfoldable pub command_places : Source → Bool → List Place → p.Command → List Place
command_places s shares ps (p.command n at kind rs) = shared s shares n at (own_places (known_before s n) ps kind rs) kind
