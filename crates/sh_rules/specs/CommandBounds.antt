-- What is kept so far, with what a command requires: what it claims by its kind, and if its
-- redirections fail, and what a function drops by it.
-- POSIX.1-2024, XCU 2.9.1 (simple commands), 2.9.5 (function definitions), 2.15 (unset), 3
-- (getopts).
use Rattle.std.specs.Prelude.{ℕ, Bool, true, false, not, List, [], ◌∷◌, filter, codes, Option, Some, None}
use Rattle.std.specs.Str.{bytes_eq}
use Rattle.sh_tree.specs.declared.known.KnownName.TheVariants as known
use Rattle.sh_tree.specs.standard.program.Syntax as p
use Rattle.sh_tree.specs.standard.program.Syntax.{Text, Word}
use Rattle.sh_runs.specs.declared.kind.Kind.{Kind}
use Rattle.sh_runs.specs.declared.kind.Kind.TheVariants as kind
use Rattle.sh_runs.specs.standard.runs.Environment.{is_one_of}
use Rattle.sh_domain.specs.declared.rule.FlowRule.TheVariants.{F13}
use Rattle.sh_domain.specs.Entries.{Around}
use Rattle.sh_domain.specs.Facts.{Facts, Variable, claims}
use Rattle.sh_domain.specs.Gains.{redirects_gains}
use Rattle.sh_domain.specs.Operands.{Names, unset_names}
use Rattle.sh_domain.specs.Table as table
use Rattle.sh_domain.specs.Table.{Manner, Nameless, Utility, manner, prefixes, is_redirected}
use Rattle.sh_domain.specs.Views.{Before, where_reached}
use Rattle.sh_rules.specs.Asking.{Asking}
use Rattle.sh_rules.specs.Settings.{Setting, certificate, known_at, gained}
use Rattle.sh_rules.specs.Walked.{Met}
use Rattle.sh_rules.specs.Bounds.{fault, compound_told, redirects_told}
use Rattle.sh_rules.specs.SimpleBounds.{behind, simple_told}

-- Drops: what a command of this function drops the function drops

-- OPTARG, which `getopts` may unset
abbrev pub option_argument : Names
option_argument = record { vars = codes "OPTARG" ∷ []; functions = [] }

-- those of these variables that are not known to be set
unfoldable pub unknown : Facts → List Text → Names
unknown k names = record { vars = filter (λ t. not (claims k (Variable t))) names; functions = [] }

module _ {K : Type 0} (a : Asking K) (x : Setting) (n : ℕ) (function : Text) where
  -- what a command drops, the function has to drop
  abbrev pub drops_told : Names → K → K
  drops_told names kept = a.drop x function (fault n F13) names kept

  -- if it is reached
  unfoldable pub loses_told : Names → K → K
  loses_told names kept = drops_told (where_reached (known_at x (Before n)) names) kept

  -- by `unset`, functions only that the script defines, and by `getopts`
  unfoldable pub utility_drops_told : List Text → Kind → List Word → K → K
  utility_drops_told functions (kind.Special known.Unset) ws kept =
      loses_told (record { vars = (unset_names ws).vars; functions = filter (is_one_of functions) (unset_names ws).functions }) kept
  utility_drops_told functions kind.Getopts ws kept = loses_told option_argument kept
  utility_drops_told functions _ ws kept = kept

  -- the built-in utility `getopts` runs if no function of the name is defined
  unfoldable pub builtin_drops_told : Bool → K → K
  builtin_drops_told true kept = loses_told option_argument kept
  builtin_drops_told false kept = kept

  -- a call may drop what its function does, and the names of its prefix assignments that are not
  -- set before
  unfoldable pub simple_drops_told : List Text → p.Elements → Manner → K → K
  simple_drops_told functions es Nameless kept = kept
  simple_drops_told functions es (Utility kind ws) kept = utility_drops_told functions kind ws kept
  simple_drops_told functions es (table.Call f ws) kept =
      drops_told (unknown (behind x n es) (prefixes es)) (builtin_drops_told (bytes_eq f (codes "getopts")) (loses_told ((certificate x).drops f) kept))

  unfoldable pub kind_drops_told : List Text → p.Kind → K → K
  kind_drops_told functions (p.Simple es) kept = simple_drops_told functions es (manner functions es) kept
  kind_drops_told functions _ kept = kept

-- of a command that is in no function, or in this one
unfoldable pub counted_told : {K : Type 0} → Asking K → Setting → ℕ → Option Text → List Text → p.Kind → K → K
counted_told a x n None functions kind kept = kept
counted_told a x n (Some f) functions kind kept = kind_drops_told a x n f functions kind kept

-- The whole command

-- after its redirections
abbrev pub redirected : Setting → ℕ → p.Redirects → Facts
redirected x n rs = gained x (redirects_gains rs) (known_at x (Before n))

-- what it claims by its kind
unfoldable pub claims_told : {K : Type 0} → Asking K → Setting → List Text → Around → ℕ → Facts → p.Kind → K → K
claims_told a x functions y n k (p.Simple es) kept = simple_told a x n y es (manner functions es) kept
claims_told a x functions y n k kind kept = compound_told a x n k kind kept

unfoldable pub command_told : {K : Type 0} → Asking K → Setting → List Text → K → Met → K
command_told {K} a x functions kept m = of_command m.command
  where
    of_command : p.Command → K
    of_command (p.command n offset kind rs) =
        counted_told a x n m.around.drops functions kind
        (redirects_told a x n (is_redirected rs)
        (claims_told a x functions m.around n (redirected x n rs) kind
        (a.bound x (Before n) (fault n m.rule) m.known kept)))

-- the names of the prefix assignments of a command, or of those that it is made of
unfoldable pub prefixes_in : p.Command → List Text
prefixes_in (p.command n offset (p.Simple es) rs) = prefixes es
prefixes_in _ = []
