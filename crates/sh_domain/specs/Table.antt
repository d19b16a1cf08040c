-- What holds after a simple command, by what its name means: a row for each utility.
-- POSIX.1-2024, XCU 2.9.1 (simple commands), 2.15 (special built-in utilities), 3 (false, getopts,
-- read, true).
use Rattle.std.specs.Prelude.{ℕ, Bool, true, false, not, ◌&&◌, if◌then◌else◌, List, [], ◌∷◌, ◌++◌, map, filter, codes, Option, Some, None}
use Rattle.sh_tree.specs.standard.program.Syntax as p
use Rattle.sh_tree.specs.standard.program.Syntax.{Text, Word}
use Rattle.sh_tree.specs.standard.program.Words.{static_of, words_in, operands_in, redirects_in, assignments_in}
use Rattle.sh_runs.specs.standard.Kinds.{kind_of}
use Rattle.sh_runs.specs.declared.kind.Kind.{Kind}
use Rattle.sh_tree.specs.declared.known.KnownName.TheVariants as known
use Rattle.sh_runs.specs.declared.kind.Kind.TheVariants as kind
use Rattle.sh_runs.specs.standard.runs.Environment.{is_one_of}
use Rattle.sh_domain.specs.Gains.{Gains, no_gains, named, and_gains, word_gains, words_gains, redirects_gains}
use Rattle.sh_domain.specs.Operands.{unset_names, declared_names, read_names, getopts_names, positional_words, total, first_number, runs_command}
use Rattle.sh_domain.specs.Views.{Seen, After, Both, Each, anything, gaining, gaining_names, stepped, Lose, Count, Shift}

-- The pieces of a simple command

abbrev pub operands : p.Elements → List Word
operands es = words_in (operands_in es)

-- how a simple command goes on: without a name, or by its name, as a utility of a kind or as a call
-- of a function of the script
pub data Manner : Type 0 where
  Nameless : Manner
  Utility : Kind → List Word → Manner
  Call : (function : Text) → List Word → Manner

unfoldable pub is_special : Kind → Bool
is_special (kind.Special name) = true
is_special _ = false

-- a function of the script is called, unless a special built-in utility has its name
unfoldable pub manner_of_name : List Text → Option Text → List Word → Manner
manner_of_name functions None ws = Utility kind.Utility ws
manner_of_name functions (Some t) ws = if is_one_of functions t && not (is_special (kind_of t)) then Call t ws else Utility (kind_of t) ws

unfoldable pub manner_of_words : List Text → List Word → Manner
manner_of_words functions [] = Nameless
manner_of_words functions (w ∷ ws) = manner_of_name functions (static_of w) ws

abbrev pub manner : List Text → p.Elements → Manner
manner functions es = manner_of_words functions (operands es)

-- the names of its prefix assignments, or of those that it is made of
abbrev pub prefixes : p.Elements → List Text
prefixes es = map (λ x. x.0) (assignments_in es)

unfoldable pub values_gains : List (Text × Word) → Gains
values_gains [] = no_gains
values_gains (x ∷ xs) = and_gains (word_gains x.1) (values_gains xs)

-- what the assignments leave set: what their values do, and their names
abbrev pub assignments_gains : p.Elements → Gains
assignments_gains es = and_gains (values_gains (assignments_in es)) (named (prefixes es))

abbrev pub redirections_gains : p.Elements → Gains
redirections_gains es = redirects_gains (redirects_in es)

unfoldable pub is_redirected : p.Redirects → Bool
is_redirected p.no_redirects = false
is_redirected (p.more_redirects r rs) = true

-- after the command name and the operands; redirections and values are judged there
abbrev pub behind_words : p.Elements → Seen → Seen
behind_words es s = gaining (words_gains (operands_in es)) s

-- The table. It starts from what is seen after the words, the operands, and what assignments and
-- redirections leave set. It also takes the names of the prefix assignments, and whether there are
-- redirections.

module _ (behind : Seen) (ws : List Word) (left : Gains) (names : List Text) (redirected : Bool) where
  -- after the assignments and redirections too, which stay at a special built-in utility
  abbrev pub settled : Seen
  settled = gaining left behind

  abbrev pub unless_prefixed : List Text → List Text
  unless_prefixed xs = filter (λ x. not (is_one_of names x)) xs

  abbrev pub without_optarg : Seen → Seen
  without_optarg s = stepped (Lose (record { vars = codes "OPTARG" ∷ []; functions = [] })) s

  -- `set` with positional words: as many as are counted; if it fails, no more than there were
  unfoldable pub after_set : Option (List Word) → After
  after_set None = Both settled
  after_set (Some vs) =
      Each (gaining_names left.names (stepped (Count (total vs)) behind)) (gaining_names left.names (stepped (Count (total vs)) behind) ++ settled)

  -- `shift` by a number that is not known may leave none
  unfoldable pub after_shift : Option ℕ → After
  after_shift None = Both (stepped (Count (total [])) settled)
  after_shift (Some n) = Both (stepped (Shift n) settled)

  unfoldable pub after_utility : Kind → After
  after_utility (kind.Special known.Colon) = Each settled anything
  after_utility (kind.Special known.Export) = Both (gaining_names (declared_names ws) settled)
  after_utility (kind.Special known.Readonly) = Both (gaining_names (declared_names ws) settled)
  after_utility (kind.Special known.Unset) = Both (stepped (Lose (unset_names ws)) settled)
  after_utility (kind.Special known.Set) = after_set (positional_words ws)
  after_utility (kind.Special known.Shift) = after_shift (first_number ws)
  after_utility (kind.Special known.Exit) = Both anything
  after_utility (kind.Special known.Break) = Both anything
  after_utility (kind.Special known.Continue) = Both anything
  after_utility (kind.Special known.Return) = Both anything
  after_utility (kind.Special known.Exec) = Each (if runs_command ws then anything else settled) settled
  after_utility (kind.Special known.Times) = Both settled
  after_utility (kind.Special known.Trap) = Both settled
  after_utility kind.True = Each behind (if redirected then behind else anything)
  after_utility kind.False = Each anything behind
  after_utility kind.Read = Each (gaining_names (unless_prefixed (read_names ws)) behind) behind
  after_utility kind.Getopts = Each (without_optarg (gaining_names (unless_prefixed (getopts_names ws)) behind)) (without_optarg behind)
  after_utility _ = Both behind

  -- without a name: if it fails, redirections may have failed, and assignments may not be done
  unfoldable pub after_nameless : After
  after_nameless = Each settled (if redirected then behind else settled)
