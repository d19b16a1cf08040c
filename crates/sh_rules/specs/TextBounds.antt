-- What is known after a utility, by the static texts of its operands.
-- POSIX.1-2024, XCU 2.9.1 (simple commands), 2.15 (special built-in utilities), 3 (false, getopts,
-- read, true).
use Rattle.std.specs.Prelude.{ℕ, Bool, if◌then◌else◌, List, [], drop, codes, Option, Some, None}
use Rattle.sh_tree.specs.declared.known.KnownName.{KnownName}
use Rattle.sh_tree.specs.declared.known.KnownName.TheVariants as known
use Rattle.sh_tree.specs.standard.program.Syntax as p
use Rattle.sh_tree.specs.standard.program.Syntax.{Word}
use Rattle.sh_tree.specs.standard.program.Words.{redirects_in}
use Rattle.sh_runs.specs.Profile.{Static}
use Rattle.sh_runs.specs.declared.kind.Kind.{Kind}
use Rattle.sh_runs.specs.declared.kind.Kind.TheVariants as kind
use Rattle.sh_domain.specs.Facts.{Facts, NotReached, meet}
use Rattle.sh_domain.specs.Gains.{named}
use Rattle.sh_domain.specs.Operands.{declared_names, total}
use Rattle.sh_domain.specs.Table.{operands, assignments_gains, is_redirected}
use Rattle.sh_domain.specs.Views.{Lose, Count, Shift}
use Rattle.sh_rules.specs.Settings.{Setting, gained}
use Rattle.sh_rules.specs.Behind.{Behind, either, both}
use Rattle.sh_rules.specs.SimpleBounds.{stepped, left}
use Rattle.sh_rules.specs.Losses.{variable_lost, free_names}
use Rattle.sh_rules.specs.Texts.{unset_by, read_by, getopts_name, and_optind, positional_by, first_by, runs_by}

-- the operands after the command name
abbrev pub behind_name : p.Elements → List Word
behind_name es = drop 1 (operands es)

abbrev pub redirected : p.Elements → Bool
redirected es = is_redirected (redirects_in es)

-- if a redirection may have failed, assignments may not be done
unfoldable pub unless_failed : Bool → Facts → Facts → Facts
unless_failed redirected k settled = if redirected then k else settled

-- over what is known after the words, and the elements

module _ (x : Setting) (k : Facts) (es : p.Elements) where
  -- after the assignments and redirections too
  abbrev pub settled : Facts
  settled = gained x (left es) k

  -- the words are the positional parameters, and the assignments and redirections leave what they
  -- set
  abbrev pub counted : List Word → Facts
  counted ws = gained x (named (left es).names) (stepped x (Count (total ws)) k)

  unfoldable pub words_set : List Word → Behind
  words_set ws = either (counted ws) (meet (counted ws) settled)

  unfoldable pub set_by : Option (List Word) → Behind
  set_by None = both settled
  set_by (Some ws) = words_set ws

  unfoldable pub nameless_by : Behind
  nameless_by = either (gained x (assignments_gains es) k) (unless_failed (redirected es) k (gained x (assignments_gains es) k))

-- `shift` by a number that is not known may leave none
unfoldable pub shifted_by : Setting → Option ℕ → Facts → Facts
shifted_by x None f = stepped x (Count (total [])) f
shifted_by x (Some n) f = stepped x (Shift n) f

unfoldable pub exec_by : Bool → Facts → Behind
exec_by sure f = either (if sure then NotReached else f) f

unfoldable pub true_by : Facts → Bool → Behind
true_by k redirected = either k (if redirected then k else NotReached)

abbrev pub options_by : Setting → Facts → Facts → Behind
options_by x z n = either (variable_lost x z (codes "OPTARG")) (variable_lost x n (codes "OPTARG"))

-- over the static texts of the operands too

module _ (x : Setting) (k : Facts) (ts : List Static) (es : p.Elements) where
  unfoldable pub special_by : KnownName → Behind
  special_by known.Colon = either (settled x k es) NotReached
  special_by known.Export = both (gained x (named (declared_names (behind_name es))) (settled x k es))
  special_by known.Readonly = both (gained x (named (declared_names (behind_name es))) (settled x k es))
  special_by known.Unset = both (stepped x (Lose (unset_by ts)) (settled x k es))
  special_by known.Set = set_by x k es (positional_by ts (behind_name es))
  special_by known.Shift = both (shifted_by x (first_by ts) (settled x k es))
  special_by known.Exit = both NotReached
  special_by known.Break = both NotReached
  special_by known.Continue = both NotReached
  special_by known.Return = both NotReached
  special_by known.Exec = exec_by (runs_by ts) (settled x k es)
  special_by known.Times = both (settled x k es)
  special_by known.Trap = both (settled x k es)
  special_by _ = both k

  unfoldable pub utility_by : Kind → Behind
  utility_by (kind.Special name) = special_by name
  utility_by kind.True = true_by k (redirected es)
  utility_by kind.False = either NotReached k
  utility_by kind.Read = either (free_names x es (read_by ts) k) k
  utility_by kind.Getopts = options_by x (free_names x es (and_optind (getopts_name ts)) k) k
  utility_by _ = both k
