-- What is kept so far, with what a simple command requires: what the flow rules of `sh_domain`
-- require of views, they require of facts here.
-- POSIX.1-2024, XCU 2.9.1 (simple commands), 2.15 (special built-in utilities), 3 (false, getopts,
-- read, true).
use Rattle.std.specs.Prelude.{ℕ, ◌==◌, Bool, true, false, not, if◌then◌else◌, List, [], ◌∷◌, filter, codes, Option, Some, None}
use Rattle.sh_tree.specs.declared.known.KnownName.TheVariants as known
use Rattle.sh_tree.specs.standard.program.Syntax as p
use Rattle.sh_tree.specs.standard.program.Syntax.{Text, Word}
use Rattle.sh_tree.specs.standard.program.Words.{operands_in, redirects_in}
use Rattle.sh_runs.specs.declared.kind.Kind.{Kind}
use Rattle.sh_runs.specs.declared.kind.Kind.TheVariants as kind
use Rattle.sh_runs.specs.standard.runs.Environment.{is_one_of}
use Rattle.sh_domain.specs.declared.rule.FlowRule.TheVariants.{F4, F5, F14, F15}
use Rattle.sh_domain.specs.Entries.{Around}
use Rattle.sh_domain.specs.Facts.{Facts, NotReached, meet}
use Rattle.sh_domain.specs.Gains.{Gains, named, and_gains, words_gains}
use Rattle.sh_domain.specs.Knowledge.{among}
use Rattle.sh_domain.specs.Operands.{unset_names, declared_names, read_names, getopts_names, positional_words, total, first_number, return_status, runs_command}
use Rattle.sh_domain.specs.Rules.{jump_loop}
use Rattle.sh_domain.specs.Table as table
use Rattle.sh_domain.specs.Table.{Manner, Nameless, Utility, prefixes, assignments_gains, redirections_gains, is_redirected}
use Rattle.sh_domain.specs.Views as views
use Rattle.sh_domain.specs.Views.{Slot, Before, AfterZero, AfterNonzero, Head, Entry, ReturnsZero, ReturnsNonzero, Step, Lose, Count, Shift, step}
use Rattle.sh_rules.specs.Asking.{Asking}
use Rattle.sh_rules.specs.Settings.{Setting, certificate, known_at, gained}
use Rattle.sh_rules.specs.Behind.{Behind, either, both}
use Rattle.sh_rules.specs.Bounds.{fault, leaves_told}

-- after one more step, which names nothing that is not known
unfoldable pub stepped : Setting → Step → Facts → Facts
stepped x s k = step (certificate x) s k

-- the function was called and returned there, of the names that are numbered
unfoldable pub called : Setting → Text → Slot → List Text → Facts → Facts
called x f return names k = among x.names (step (certificate x) (views.Call f return names) k)

-- The table. It starts from what is known after the words, the operands, and what assignments and
-- redirections leave set. It also takes the names of the prefix assignments, and whether there are
-- redirections.

module _ (x : Setting) (k : Facts) (ws : List Word) (left : Gains) (names : List Text) (redirected : Bool) where
  -- after the assignments and redirections too, which stay at a special built-in utility
  abbrev pub settled : Facts
  settled = gained x left k

  abbrev pub gained_names : List Text → Facts → Facts
  gained_names ts f = gained x (named ts) f

  abbrev pub unless_prefixed : List Text → List Text
  unless_prefixed ts = filter (λ t. not (is_one_of names t)) ts

  abbrev pub without_optarg : Facts → Facts
  without_optarg f = stepped x (Lose (record { vars = codes "OPTARG" ∷ []; functions = [] })) f

  -- `set` with positional words: as many as are counted; if it fails, no more than there were
  unfoldable pub set_behind : Option (List Word) → Behind
  set_behind None = both settled
  set_behind (Some vs) =
      either (gained_names left.names (stepped x (Count (total vs)) k)) (meet (gained_names left.names (stepped x (Count (total vs)) k)) settled)

  -- `shift` by a number that is not known may leave none
  unfoldable pub shift_behind : Option ℕ → Behind
  shift_behind None = both (stepped x (Count (total [])) settled)
  shift_behind (Some n) = both (stepped x (Shift n) settled)

  unfoldable pub utility_behind : Kind → Behind
  utility_behind (kind.Special known.Colon) = either settled NotReached
  utility_behind (kind.Special known.Export) = both (gained_names (declared_names ws) settled)
  utility_behind (kind.Special known.Readonly) = both (gained_names (declared_names ws) settled)
  utility_behind (kind.Special known.Unset) = both (stepped x (Lose (unset_names ws)) settled)
  utility_behind (kind.Special known.Set) = set_behind (positional_words ws)
  utility_behind (kind.Special known.Shift) = shift_behind (first_number ws)
  utility_behind (kind.Special known.Exit) = both NotReached
  utility_behind (kind.Special known.Break) = both NotReached
  utility_behind (kind.Special known.Continue) = both NotReached
  utility_behind (kind.Special known.Return) = both NotReached
  utility_behind (kind.Special known.Exec) = either (if runs_command ws then NotReached else settled) settled
  utility_behind (kind.Special known.Times) = both settled
  utility_behind (kind.Special known.Trap) = both settled
  utility_behind kind.True = either k (if redirected then k else NotReached)
  utility_behind kind.False = either NotReached k
  utility_behind kind.Read = either (gained_names (unless_prefixed (read_names ws)) k) k
  utility_behind kind.Getopts = either (without_optarg (gained_names (unless_prefixed (getopts_names ws)) k)) (without_optarg k)
  utility_behind _ = both k

  -- without a name: if it fails, redirections may have failed, and assignments may not be done
  unfoldable pub nameless_behind : Behind
  nameless_behind = either settled (if redirected then k else settled)

-- Jumps

module _ {K : Type 0} (a : Asking K) (x : Setting) (n : ℕ) (k : Facts) where
  -- `break` goes on after the loop, `continue` with its next turn
  unfoldable pub breaks_told : Option ℕ → K → K
  breaks_told None kept = kept
  breaks_told (Some l) kept = a.bound x (AfterNonzero l) (fault n F15) k (a.bound x (AfterZero l) (fault n F15) k kept)

  unfoldable pub continues_told : Option ℕ → K → K
  continues_told None kept = kept
  continues_told (Some l) kept = a.bound x (Head l) (fault n F15) k kept

  -- `return` with a status that is not static returns with any
  unfoldable pub returns_with_told : Option ℕ → Text → K → K
  returns_with_told None f kept = a.bound x (ReturnsNonzero f) (fault n F15) k (a.bound x (ReturnsZero f) (fault n F15) k kept)
  returns_with_told (Some status) f kept =
      if status == 0 then a.bound x (ReturnsZero f) (fault n F15) k kept else a.bound x (ReturnsNonzero f) (fault n F15) k kept

  unfoldable pub returns_told : Option ℕ → Option Text → K → K
  returns_told status None kept = kept
  returns_told status (Some f) kept = returns_with_told status f kept

  unfoldable pub jumps_told : Around → Kind → List Word → K → K
  jumps_told y (kind.Special known.Break) ws kept = breaks_told (jump_loop (first_number ws) y.loops) kept
  jumps_told y (kind.Special known.Continue) ws kept = continues_told (jump_loop (first_number ws) y.loops) kept
  jumps_told y (kind.Special known.Return) ws kept = returns_told (return_status ws) y.function kept
  jumps_told y _ ws kept = kept

-- Simple commands

-- after the words, where redirections and values are judged
abbrev pub behind : Setting → ℕ → p.Elements → Facts
behind x n es = gained x (words_gains (operands_in es)) (known_at x (Before n))

-- what assignments and redirections leave set
abbrev pub left : p.Elements → Gains
left es = and_gains (assignments_gains es) (redirections_gains es)

module _ {K : Type 0} (a : Asking K) (x : Setting) (n : ℕ) where
  -- a failed redirection of a call leaves what was known before it
  unfoldable pub redirection_told : Bool → Facts → K → K
  redirection_told true k kept = a.bound x (AfterNonzero n) (fault n F14) k kept
  redirection_told false k kept = kept

  -- a call: the function is entered with the names of the prefix assignments, and with the operands
  unfoldable pub call_told : p.Elements → Text → List Word → K → K
  call_told es f ws kept =
      redirection_told (is_redirected (redirects_in es)) (behind x n es)
      (a.bound x (AfterNonzero n) (fault n F14) (called x f (ReturnsNonzero f) (prefixes es) (behind x n es))
      (a.bound x (AfterZero n) (fault n F14) (called x f (ReturnsZero f) (prefixes es) (behind x n es))
      (a.bound x (Entry f) (fault n F14) (gained x (named (prefixes es)) (stepped x (Count (total ws)) (behind x n es))) kept)))

  -- by what its name means
  unfoldable pub simple_told : Around → p.Elements → Manner → K → K
  simple_told y es Nameless kept =
      leaves_told a x (fault n F5) (nameless_behind x (behind x n es) [] (assignments_gains es) (prefixes es) (is_redirected (redirects_in es))) kept
  simple_told y es (Utility kind ws) kept =
      jumps_told a x n (gained x (left es) (behind x n es)) y kind ws
      (leaves_told a x (fault n F4) (utility_behind x (behind x n es) ws (left es) (prefixes es) (is_redirected (redirects_in es)) kind) kept)
  simple_told y es (table.Call f ws) kept = call_told es f ws kept
