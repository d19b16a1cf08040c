-- The flow rules, as the list of what each fact has to be within. Each line is a rule, at the
-- command that breaks it if the fact is not.
-- POSIX.1-2024, XCU 2.9 (shell commands), 2.15 (break, continue, return).
use Rattle.std.specs.Prelude.{ℕ, ◌-◌, ◌==◌, nat_le, Bool, true, false, ◌||◌, if◌then◌else◌, List, [], ◌∷◌, ◌++◌, map, codes, flat_map, filter, filter_map, Option, Some, None}
use Rattle.std.specs.List.{list_any}
use Rattle.std.specs.Str.{bytes_eq}
use Rattle.sh_tree.specs.declared.tree.ClauseEnd.{ClauseEnd}
use Rattle.sh_tree.specs.declared.tree.ClauseEnd.TheVariants as clause
use Rattle.sh_tree.specs.standard.program.Syntax as p
use Rattle.sh_tree.specs.standard.program.Syntax.{Text, Word}
use Rattle.sh_tree.specs.standard.program.Words.{is_plainly, words_in, redirects_in}
use Rattle.sh_runs.specs.declared.kind.Kind.{Kind}
use Rattle.sh_tree.specs.declared.known.KnownName.TheVariants as known
use Rattle.sh_runs.specs.declared.kind.Kind.TheVariants as kind
use Rattle.sh_runs.specs.standard.runs.Environment.{is_one_of}
use Rattle.sh_domain.specs.declared.rule.FlowRule.{FlowRule}
use Rattle.sh_domain.specs.declared.rule.FlowRule.TheVariants.{F4, F5, F6, F7, F8, F9, F10, F11, F13, F14, F15}
use Rattle.sh_domain.specs.Entries.{Around, Entered, items_after, behind_redirects, otherwise_seen, turns, ends, behind_list, falls, script_entered}
use Rattle.sh_domain.specs.Gains.{and_gains, word_gains}
use Rattle.sh_domain.specs.Operands.{unset_names, total, first_number, return_status}
use Rattle.sh_domain.specs.Table.{Manner, Nameless, Utility, manner, prefixes, assignments_gains, redirections_gains, is_redirected, behind_words, after_utility, after_nameless}
use Rattle.sh_domain.specs.Table as table
use Rattle.sh_domain.specs.Views.{Slot, Before, AfterZero, AfterNonzero, Head, Entry, ReturnsZero, ReturnsNonzero, View, Seen, After, Both, if_zero, if_nonzero, in_any_case, at, gaining, gaining_names, stepped, Count, Define, Call, Loss, OfNames, OfFunction, OfUnseen}

-- What has to hold, and the command that breaks the rule if it does not.
pub data Constraint : Type 0 where
  -- the fact of this slot is within what the view claims
  Within : (slot : Slot) (number : ℕ) (rule : FlowRule) → View → Constraint
  -- what the command may drop the function may drop (F13)
  Counted : (function : Text) (number : ℕ) → Loss → Constraint

-- the fact is within all that is seen
abbrev pub bound : Slot → ℕ → FlowRule → Seen → List Constraint
bound slot n rule s = map (Within slot n rule) s

-- what is claimed after the command n
abbrev pub leaves : ℕ → FlowRule → After → List Constraint
leaves n rule o = bound (AfterZero n) n rule (if_zero o) ++ bound (AfterNonzero n) n rule (if_nonzero o)

-- The functions that a script defines

unfoldable pub defined_by : p.Command → Option Text
defined_by (p.command n offset (p.Define name body) rs) = Some name
defined_by _ = None

abbrev pub functions_of : List Entered → List Text
functions_of es = filter_map (λ e. defined_by e.command) es

-- F15: jumps

-- the loop of a jump over n loops: the n-th from inside, or the outermost
unfoldable pub loop_at : ℕ → List ℕ → Option ℕ
loop_at n [] = None
loop_at n (l ∷ []) = Some l
loop_at n (l ∷ m ∷ ls) = if nat_le n 1 then Some l else loop_at (n - 1) (m ∷ ls)

-- `break` goes on after the loop, `continue` with its next turn
unfoldable pub breaks : Option ℕ → ℕ → Seen → List Constraint
breaks None n s = []
breaks (Some l) n s = bound (AfterZero l) n F15 s ++ bound (AfterNonzero l) n F15 s

unfoldable pub continues : Option ℕ → ℕ → Seen → List Constraint
continues None n s = []
continues (Some l) n s = bound (Head l) n F15 s

unfoldable pub jump_loop : Option ℕ → List ℕ → Option ℕ
jump_loop None ls = None
jump_loop (Some n) ls = loop_at n ls

-- `return` with a status that is not static returns with any
unfoldable pub returns_with : Option ℕ → Text → ℕ → Seen → List Constraint
returns_with None f n s = bound (ReturnsZero f) n F15 s ++ bound (ReturnsNonzero f) n F15 s
returns_with (Some status) f n s = if status == 0 then bound (ReturnsZero f) n F15 s else bound (ReturnsNonzero f) n F15 s

unfoldable pub returns : Option ℕ → Option Text → ℕ → Seen → List Constraint
returns status None n s = []
returns status (Some f) n s = returns_with status f n s

unfoldable pub jumps : Around → ℕ → Kind → List Word → Seen → List Constraint
jumps x n (kind.Special known.Break) ws s = breaks (jump_loop (first_number ws) x.loops) n s
jumps x n (kind.Special known.Continue) ws s = continues (jump_loop (first_number ws) x.loops) n s
jumps x n (kind.Special known.Return) ws s = returns (return_status ws) x.function n s
jumps x n _ ws s = []

-- Drops

-- what a utility may drop: the names of `unset`, as functions only those that the script defines,
-- and OPTARG
unfoldable pub utility_losses : List Text → Kind → List Word → List Loss
utility_losses functions (kind.Special known.Unset) ws =
    OfNames (record { vars = (unset_names ws).vars; functions = filter (is_one_of functions) (unset_names ws).functions }) ∷ []
utility_losses functions kind.Getopts ws = OfNames (record { vars = codes "OPTARG" ∷ []; functions = [] }) ∷ []
utility_losses functions _ ws = []

-- the built-in utility `getopts` runs if no function of the name is defined
abbrev pub builtin_losses : Text → List Loss
builtin_losses f = if bytes_eq f (codes "getopts") then OfNames (record { vars = codes "OPTARG" ∷ []; functions = [] }) ∷ [] else []

-- a call may drop what its function does, and the names of its prefix assignments that are not set
-- before
unfoldable pub losses_by : List Text → p.Elements → Seen → Manner → List Loss
losses_by functions es s Nameless = []
losses_by functions es s (Utility kind ws) = utility_losses functions kind ws
losses_by functions es s (table.Call f ws) = OfFunction f ∷ (builtin_losses f ++ map (OfUnseen (prefixes es)) s)

unfoldable pub losses : List Text → Entered → List Loss
losses functions e = of_command e.command
  where
    of_command : p.Command → List Loss
    of_command (p.command n offset (p.Simple es) rs) = losses_by functions es (behind_words es (at (Before n))) (manner functions es)
    of_command _ = []

-- F13: a function drops what the commands of its body drop
unfoldable pub counted : Option Text → ℕ → List Loss → List Constraint
counted None n ls = []
counted (Some f) n ls = map (Counted f n) ls

-- F4, F5, F14, F15: simple commands

module _ (x : Around) (n : ℕ) (es : p.Elements) where
  -- after the words, where redirections and values are judged
  abbrev pub behind : Seen
  behind = behind_words es (at (Before n))

  abbrev pub redirected : Bool
  redirected = is_redirected (redirects_in es)

  -- a failed redirection of a call leaves what was known before it
  unfoldable pub where_redirected : List Constraint → List Constraint
  where_redirected ks = if redirected then ks else []

  -- a call: the function is entered with the names of the prefix assignments, and with the operands
  unfoldable pub call_bounds : Text → List Word → List Constraint
  call_bounds f ws =
      bound (Entry f) n F14 (gaining_names (prefixes es) (stepped (Count (total ws)) behind))
      ++ bound (AfterZero n) n F14 (stepped (Call f (ReturnsZero f) (prefixes es)) behind)
      ++ bound (AfterNonzero n) n F14 (stepped (Call f (ReturnsNonzero f) (prefixes es)) behind)
      ++ where_redirected (bound (AfterNonzero n) n F14 behind)

  unfoldable pub simple_bounds : Manner → List Constraint
  simple_bounds Nameless = leaves n F5 (after_nameless behind [] (assignments_gains es) (prefixes es) redirected)
  simple_bounds (Utility kind ws) =
      leaves n F4 (after_utility behind ws (and_gains (assignments_gains es) (redirections_gains es)) (prefixes es) redirected kind)
      ++ jumps x n kind ws (gaining (and_gains (assignments_gains es) (redirections_gains es)) behind)
  simple_bounds (table.Call f ws) = call_bounds f ws

-- F6: `if` leaves what its branches leave, and without `else` what is known if no condition is zero

unfoldable pub branches_bounds : ℕ → Seen → p.Branches → List Constraint
branches_bounds n s p.no_branches = []
branches_bounds n s (p.more_branches condition body rest) =
    leaves n F6 (items_after (Both (if_zero (items_after (Both s) condition))) body)
    ++ branches_bounds n (if_nonzero (items_after (Both s) condition)) rest

unfoldable pub otherwise_bounds : ℕ → Seen → p.Otherwise → List Constraint
otherwise_bounds n s p.no_else = bound (AfterZero n) n F6 s
otherwise_bounds n s (p.else_of list) = leaves n F6 (items_after (Both s) list)

-- F9: `case` leaves what each clause leaves that does not go on with the next. Unless some pattern
-- is `*`, it leaves what is known after the word too.

unfoldable pub is_last : ClauseEnd → p.Clauses → Bool
is_last clause.Break cs = true
is_last clause.FallThrough p.no_clauses = true
is_last clause.FallThrough (p.more_clauses patterns body end rest) = false

unfoldable pub clauses_bounds : ℕ → Seen → Seen → p.Clauses → List Constraint
clauses_bounds n s fallen p.no_clauses = []
clauses_bounds n s fallen (p.more_clauses patterns body end rest) =
    (if is_last end rest then leaves n F9 (items_after (Both (s ++ fallen)) body) else [])
    ++ clauses_bounds n s (falls end (items_after (Both (s ++ fallen)) body)) rest

unfoldable pub matches_always : p.Clauses → Bool
matches_always p.no_clauses = false
matches_always (p.more_clauses patterns body end rest) = list_any (is_plainly (codes "*")) (words_in patterns) || matches_always rest

-- F13: the body of a function is where it returns
unfoldable pub body_bounds : Text → p.Command → List Constraint
body_bounds f (p.command m offset kind rs) = bound (ReturnsZero f) m F13 (at (AfterZero m)) ++ bound (ReturnsNonzero f) m F13 (at (AfterNonzero m))

-- what the command n claims, after whose redirections this is seen
unfoldable pub kind_bounds : List Text → Around → ℕ → Seen → p.Kind → List Constraint
kind_bounds functions x n s (p.Simple es) = simple_bounds x n es (manner functions es)
kind_bounds functions x n s (p.Group list) = leaves n F10 (items_after (Both s) list)
kind_bounds functions x n s (p.Subshell list) = leaves n F11 (Both (at (Before n)))
kind_bounds functions x n s (p.Conditional branches otherwise) =
    branches_bounds n s branches ++ otherwise_bounds n (otherwise_seen s branches) otherwise
kind_bounds functions x n s (p.Loop kind condition body) =
    bound (Head n) n F7 s
    ++ bound (Head n) n F7 (in_any_case (items_after (Both (turns kind (items_after (Both (at (Head n))) condition))) body))
    ++ leaves n F7 (Both (ends kind (items_after (Both (at (Head n))) condition)))
kind_bounds functions x n s (p.For name ws body) =
    bound (Head n) n F8 (behind_list ws s)
    ++ bound (Head n) n F8 (in_any_case (items_after (Both (gaining_names (name ∷ []) (at (Head n)))) body))
    ++ leaves n F8 (Both (at (Head n)))
kind_bounds functions x n s (p.Case w cs) =
    clauses_bounds n (gaining (word_gains w) s) [] cs
    ++ (if matches_always cs then [] else bound (AfterZero n) n F9 (gaining (word_gains w) s))
kind_bounds functions x n s (p.Define name body) =
    bound (AfterZero n) n F13 (stepped (Define name) (at (Before n))) ++ body_bounds name body

-- F10: if a redirection of a compound command fails, what was known before it is known
unfoldable pub redirects_bounds : ℕ → p.Redirects → List Constraint
redirects_bounds n rs = if is_redirected rs then bound (AfterNonzero n) n F10 (at (Before n)) else []

-- the constraints of a command: it is entered within what is seen there, and it claims no more than
-- its rule gives
unfoldable pub bounds : List Text → Entered → List Constraint
bounds functions e = of_command e.command
  where
    of_command : p.Command → List Constraint
    of_command (p.command n offset kind rs) =
        bound (Before n) n e.rule e.seen
        ++ kind_bounds functions e.around n (behind_redirects n rs) kind
        ++ redirects_bounds n rs
        ++ counted e.around.drops n (losses functions e)

-- of a script
unfoldable pub script_bounds : p.Items → List Constraint
script_bounds t = flat_map (bounds (functions_of (script_entered t))) (script_entered t)
