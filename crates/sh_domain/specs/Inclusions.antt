-- What rules and demands that hold give at each command of a script: a line for each part.
-- POSIX.1-2024, XCU 2.9 (shell commands), 2.15 (break, continue, return).
use Rattle.std.specs.Prelude.{◌≡◌, ℕ, nat_lt, min, ◌==◌, Bool, true, false, not, ◌&&◌, ◌||◌, if◌then◌else◌, List, [], ◌∷◌, ◌++◌, length, Option, Some, None, is_some}
use Rattle.std.specs.List.{list_all}
use Rattle.sh_tree.specs.declared.tree.LoopKind.{LoopKind}
use Rattle.sh_tree.specs.standard.language.Bytes.{is_name}
use Rattle.sh_tree.specs.standard.program.Syntax as p
use Rattle.sh_tree.specs.standard.program.Syntax.{Text, Word}
use Rattle.sh_tree.specs.standard.program.Words.{redirects_in, word_text}
use Rattle.sh_tree.specs.declared.known.KnownName.TheVariants as known
use Rattle.sh_runs.specs.declared.kind.Kind.{Kind}
use Rattle.sh_runs.specs.declared.kind.Kind.TheVariants as kind
use Rattle.sh_runs.specs.Counts.{some_gives_field}
use Rattle.sh_runs.specs.Profile.{command_rule}
use Rattle.sh_runs.specs.Surroundings.{Surroundings, Located, outside, items_located}
use Rattle.sh_runs.specs.Admitted.{is_admitted}
use Rattle.sh_domain.specs.Demands.{kind_unmet, command_moves, is_reached, demands}
use Rattle.sh_domain.specs.Entries.{Around, Entered, items_after, behind_redirects, otherwise_seen, turns, ends, behind_list, falls, script_entered}
use Rattle.sh_domain.specs.Facts.{Facts, facts, within}
use Rattle.sh_domain.specs.Faults.{are_among, faults}
use Rattle.sh_domain.specs.Gains.{and_gains, word_gains, with_gains, redirects_gains}
use Rattle.sh_domain.specs.Needs.{redirects_unmet}
use Rattle.sh_domain.specs.Operands.{Names, total, first_number, return_status}
use Rattle.sh_domain.specs.Rules.{jump_loop, is_last, matches_always, functions_of, losses}
use Rattle.sh_domain.specs.Table.{Manner, Nameless, Utility, Call, manner, prefixes, assignments_gains, redirections_gains, is_redirected, behind_words, after_utility, after_nameless}
use Rattle.sh_domain.specs.Views.{Certificate, Slot, Before, AfterZero, AfterNonzero, Head, Entry, ReturnsZero, ReturnsNonzero, Seen, After, Both, if_zero, if_nonzero, in_any_case, at, gaining, gaining_names, stepped, Count, Define, view_facts, lost}
use Rattle.sh_domain.specs.Views as views

-- P holds of each
unfoldable pub Each : {A : Type 0} → (A → Type 0) → List A → Type 0
Each P [] = Unit {0}
Each P (x ∷ xs) = P x × Each P xs

-- The form of programs that are read

-- what a program has as a name is one, a positional parameter has a number from 1, and plain text
-- is not empty
unfoldable pub parameter_formed : p.Parameter → Bool
parameter_formed (p.Variable name) = is_name name
parameter_formed (p.Positional n) = nat_lt 0 n
parameter_formed (p.Special special) = true

unfoldable mutual
  pub part_formed : p.Part → Bool
  part_formed (p.Plain t) = not (length t == 0)
  part_formed (p.Double w) = word_formed w
  part_formed (p.Expansion offset parameter operator) = parameter_formed parameter && operator_formed operator
  part_formed (p.Arithmetic offset e) = expression_formed e
  part_formed _ = true

  pub word_formed : p.Word → Bool
  word_formed p.no_parts = true
  word_formed (p.more_parts x w) = part_formed x && word_formed w

  pub operator_formed : p.Operator → Bool
  operator_formed (p.Use action colon w) = word_formed w
  operator_formed (p.Remove removal w) = word_formed w
  operator_formed _ = true

  pub expression_formed : p.Expression → Bool
  expression_formed (p.Constant t) = true
  expression_formed (p.Name offset name) = is_name name
  expression_formed (p.Expanded x) = part_formed x
  expression_formed (p.Parenthesis e) = expression_formed e
  expression_formed (p.Signed operator e) = expression_formed e
  expression_formed (p.Chain e rest) = expression_formed e && operands_formed rest
  expression_formed (p.Choice e then_one else_one) = expression_formed e && expression_formed then_one && expression_formed else_one
  expression_formed (p.Assigned offset name operator e) = is_name name && expression_formed e

  pub operands_formed : p.Operands → Bool
  operands_formed p.no_operands = true
  operands_formed (p.more_operands operator e rest) = expression_formed e && operands_formed rest

-- a word that is split: if its text is static it gives a field
abbrev pub field_formed : p.Word → Bool
field_formed w = word_formed w && (not (is_some (word_text w)) || some_gives_field w)

unfoldable pub fields_formed : p.Words → Bool
fields_formed p.no_words = true
fields_formed (p.more_words w ws) = field_formed w && fields_formed ws

unfoldable pub words_formed : p.Words → Bool
words_formed p.no_words = true
words_formed (p.more_words w ws) = word_formed w && words_formed ws

unfoldable pub redirect_formed : p.Redirect → Bool
redirect_formed (p.File w) = word_formed w
redirect_formed (p.Here w) = word_formed w

unfoldable pub redirects_formed : p.Redirects → Bool
redirects_formed p.no_redirects = true
redirects_formed (p.more_redirects r rs) = redirect_formed r && redirects_formed rs

unfoldable pub elements_formed : p.Elements → Bool
elements_formed p.no_elements = true
elements_formed (p.assignment name value es) = is_name name && word_formed value && elements_formed es
elements_formed (p.operand w es) = field_formed w && elements_formed es
elements_formed (p.redirection r es) = redirect_formed r && elements_formed es

unfoldable pub for_words_formed : p.ForWords → Bool
for_words_formed p.every_parameter = true
for_words_formed (p.listed ws) = fields_formed ws

unfoldable pub clauses_formed : p.Clauses → Bool
clauses_formed p.no_clauses = true
clauses_formed (p.more_clauses patterns body end rest) = words_formed patterns && clauses_formed rest

-- a simple command has its redirections among its elements; the commands in it have forms of their
-- own
unfoldable pub kind_formed : p.Kind → p.Redirects → Bool
kind_formed (p.Simple es) rs = elements_formed es && not (is_redirected rs)
kind_formed (p.For name ws body) rs = is_name name && for_words_formed ws
kind_formed (p.Case w cs) rs = word_formed w && clauses_formed cs
kind_formed (p.Define name body) rs = is_name name
kind_formed _ rs = true

unfoldable pub command_formed : p.Command → Bool
command_formed (p.command n offset kind rs) = kind_formed kind rs && redirects_formed rs

-- each command of the program is formed
abbrev pub is_formed : p.Items → Bool
is_formed t = list_all (λ (l : Located). command_formed l.command) (items_located outside t)

-- what may be left from within: as the profile requires it in a process of its own
abbrev pub surroundings_of : Around → Surroundings
surroundings_of x = record { loops = min (length x.loops) 255; function = is_some x.function; beyond = false }

-- Inclusions

module _ (start : Facts) (c : Certificate) where
  -- what is claimed there is no more than each of these views claims
  abbrev pub Covers : Slot → Seen → Type 0
  Covers slot s = Each (λ v. within (c.claim slot) (view_facts start c v) ≡ true) s

  -- and so after the command n, by its status
  pub record Leaves (n : ℕ) (o : After) : Type 0 where
    pub zero : Covers (AfterZero n) (if_zero o)
    pub nonzero : Covers (AfterNonzero n) (if_nonzero o)

  -- names that may be dropped there: no other part of a pipeline loses one, and the function round
  -- the place is known to drop them
  pub record MayDrop (x : Around) (names : Names) : Type 0 where
    pub shared_vars : x.shares ≡ true → names.vars ≡ []
    pub shared_functions : x.shares ≡ true → names.functions ≡ []
    pub counted : (f : Text) → x.drops ≡ Some f → are_among names (c.drops f) ≡ true

  -- F15
  unfoldable pub BreakRules : Option ℕ → Seen → Type 0
  BreakRules None s = Unit {0}
  BreakRules (Some l) s = Leaves l (Both s)

  unfoldable pub ContinueRules : Option ℕ → Seen → Type 0
  ContinueRules None s = Unit {0}
  ContinueRules (Some l) s = Covers (Head l) s

  unfoldable pub StatusRules : Option ℕ → Text → Seen → Type 0
  StatusRules None f s = Covers (ReturnsZero f) s × Covers (ReturnsNonzero f) s
  StatusRules (Some status) f s = Covers (if status == 0 then ReturnsZero f else ReturnsNonzero f) s

  unfoldable pub ReturnRules : Option ℕ → Option Text → Seen → Type 0
  ReturnRules status None s = Unit {0}
  ReturnRules status (Some f) s = StatusRules status f s

  unfoldable pub JumpRules : Around → Kind → List Word → Seen → Type 0
  JumpRules x (kind.Special known.Break) ws s = BreakRules (jump_loop (first_number ws) x.loops) s
  JumpRules x (kind.Special known.Continue) ws s = ContinueRules (jump_loop (first_number ws) x.loops) s
  JumpRules x (kind.Special known.Return) ws s = ReturnRules (return_status ws) x.function s
  JumpRules x _ ws s = Unit {0}

  -- F4, F5, F14
  abbrev pub behind : ℕ → p.Elements → Seen
  behind n es = behind_words es (at (Before n))

  pub record UtilityRules (x : Around) (n : ℕ) (es : p.Elements) (k : Kind) (ws : List Word) : Type 0 where
    pub leaves : Leaves n (after_utility (behind n es) ws (and_gains (assignments_gains es) (redirections_gains es)) (prefixes es) (is_redirected (redirects_in es)) k)
    pub jumps : JumpRules x k ws (gaining (and_gains (assignments_gains es) (redirections_gains es)) (behind n es))

  pub record CallRules (n : ℕ) (es : p.Elements) (f : Text) (ws : List Word) : Type 0 where
    pub entry : Covers (Entry f) (gaining_names (prefixes es) (stepped (Count (total ws)) (behind n es)))
    pub zero : Covers (AfterZero n) (stepped (views.Call f (ReturnsZero f) (prefixes es)) (behind n es))
    pub nonzero : Covers (AfterNonzero n) (stepped (views.Call f (ReturnsNonzero f) (prefixes es)) (behind n es))
    pub redirected : is_redirected (redirects_in es) ≡ true → Covers (AfterNonzero n) (behind n es)

  unfoldable pub SimpleRules : Around → ℕ → p.Elements → Manner → Type 0
  SimpleRules x n es Nameless = Leaves n (after_nameless (behind n es) [] (assignments_gains es) (prefixes es) (is_redirected (redirects_in es)))
  SimpleRules x n es (Utility k ws) = UtilityRules x n es k ws
  SimpleRules x n es (Call f ws) = CallRules n es f ws

  -- F6
  unfoldable pub BranchesLeave : ℕ → Seen → p.Branches → Type 0
  BranchesLeave n s p.no_branches = Unit {0}
  BranchesLeave n s (p.more_branches condition body rest) =
      Leaves n (items_after (Both (if_zero (items_after (Both s) condition))) body) × BranchesLeave n (if_nonzero (items_after (Both s) condition)) rest

  unfoldable pub OtherwiseLeaves : ℕ → Seen → p.Otherwise → Type 0
  OtherwiseLeaves n s p.no_else = Covers (AfterZero n) s
  OtherwiseLeaves n s (p.else_of list) = Leaves n (items_after (Both s) list)

  -- F7, except for the entry of the loop
  pub record LoopRules (n : ℕ) (k : LoopKind) (condition body : p.Items) : Type 0 where
    pub again : Covers (Head n) (in_any_case (items_after (Both (turns k (items_after (Both (at (Head n))) condition))) body))
    pub leaves : Leaves n (Both (ends k (items_after (Both (at (Head n))) condition)))

  -- F8, except for the entry
  pub record ForRules (n : ℕ) (name : Text) (body : p.Items) : Type 0 where
    pub again : Covers (Head n) (in_any_case (items_after (Both (gaining_names (name ∷ []) (at (Head n)))) body))
    pub leaves : Leaves n (Both (at (Head n)))

  -- F9
  unfoldable pub ClausesLeave : ℕ → Seen → Seen → p.Clauses → Type 0
  ClausesLeave n s fallen p.no_clauses = Unit {0}
  ClausesLeave n s fallen (p.more_clauses patterns body end rest) =
      (is_last end rest ≡ true → Leaves n (items_after (Both (s ++ fallen)) body)) × ClausesLeave n s (falls end (items_after (Both (s ++ fallen)) body)) rest

  -- F13: the body of a function is where it returns
  unfoldable pub BodyRules : Text → p.Command → Type 0
  BodyRules f (p.command m offset k rs) = Covers (ReturnsZero f) (at (AfterZero m)) × Covers (ReturnsNonzero f) (at (AfterNonzero m))

  -- what the command n claims, after whose redirections this is seen
  unfoldable pub KindRules : List Text → Around → ℕ → Seen → p.Kind → Type 0
  KindRules functions x n s (p.Simple es) = SimpleRules x n es (manner functions es)
  KindRules functions x n s (p.Group list) = Leaves n (items_after (Both s) list)
  KindRules functions x n s (p.Subshell list) = Leaves n (Both (at (Before n)))
  KindRules functions x n s (p.Conditional branches otherwise) = BranchesLeave n s branches × OtherwiseLeaves n (otherwise_seen s branches) otherwise
  KindRules functions x n s (p.Loop k condition body) = Covers (Head n) s × LoopRules n k condition body
  KindRules functions x n s (p.For name ws body) = Covers (Head n) (behind_list ws s) × ForRules n name body
  KindRules functions x n s (p.Case w cs) =
      ClausesLeave n (gaining (word_gains w) s) [] cs × (matches_always cs ≡ false → Covers (AfterZero n) (gaining (word_gains w) s))
  KindRules functions x n s (p.Define name body) = Covers (AfterZero n) (stepped (Define name) (at (Before n))) × BodyRules name body

  -- all of a command that is there: it claims no more than its rules give, its words need no more
  -- than is known, and it is admitted
  pub record CommandRules (functions : List Text) (x : Around) (s : Seen) (n : ℕ) (offset : ℕ) (k : p.Kind) (rs : p.Redirects) (ls : List views.Loss) : Type 0 where
    pub before : Covers (Before n) s
    pub kind : KindRules functions x n (behind_redirects n rs) k
    pub redirected : is_redirected rs ≡ true → Covers (AfterNonzero n) (at (Before n))
    pub losses : Each (λ l. MayDrop x (lost start c n l)) ls
    pub stays : x.shares ≡ true → (command_moves functions k && is_reached (facts (c.claim (Before n)))) ≡ false
    pub redirects_met : redirects_unmet (facts (c.claim (Before n))) rs ≡ []
    pub words_met : kind_unmet (with_gains (redirects_gains rs) (facts (c.claim (Before n)))) k ≡ []
    pub admitted : command_rule (surroundings_of x) k ≡ None
    pub formed : command_formed (p.command n offset k rs) ≡ true

  unfoldable pub EnteredRules : List Text → Entered → Type 0
  EnteredRules functions e = of_command e.command
    where
      of_command : p.Command → Type 0
      of_command (p.command n offset k rs) = CommandRules functions e.around e.seen n offset k rs (losses functions e)

-- If no rule fails, no demand is unmet, and the program is admitted and formed, all of that holds
-- of each of its commands.
abbrev pub RulesGive : Type 0
RulesGive =
    (start : Facts) (c : Certificate) (t : p.Items)
    → is_admitted t ≡ true → is_formed t ≡ true → faults start c t ≡ [] → demands start c t ≡ []
    → Each (EnteredRules start c (functions_of (script_entered t))) (script_entered t)
