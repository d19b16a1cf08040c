-- What a process does in one step.
-- POSIX.1-2024, XCU 2.6 (word expansions), 2.7 (redirection), 2.8 (exit status and errors), 2.9
-- (shell commands), 2.13 (shell execution environment).
use Rattle.std.specs.Prelude.{ℕ, zero, suc, ◌==◌, Bool, true, false, not, ◌&&◌, ◌||◌, if◌then◌else◌, List, [], ◌∷◌, ◌++◌, map, Option, Some, None, is_some}
use Rattle.sh_tree.specs.declared.known.KnownName.{KnownName}
use Rattle.sh_tree.specs.declared.tree.ClauseEnd.{ClauseEnd}
use Rattle.sh_tree.specs.declared.tree.ClauseEnd.TheVariants as clause
use Rattle.sh_tree.specs.declared.tree.Link.{Link}
use Rattle.sh_tree.specs.declared.tree.Link.TheVariants as link
use Rattle.sh_tree.specs.declared.tree.LoopKind.{LoopKind}
use Rattle.sh_tree.specs.declared.tree.LoopKind.TheVariants as loop
use Rattle.sh_tree.specs.standard.program.Syntax as p
use Rattle.sh_tree.specs.standard.program.Syntax.{Text}
use Rattle.sh_tree.specs.standard.program.Words.{Assignments, operands_in, redirects_in, assignments_in, assignment_in, is_plainly}
use Rattle.sh_runs.specs.declared.kind.Kind.{Kind}
use Rattle.sh_runs.specs.declared.kind.Kind.TheVariants as kind
use Rattle.sh_runs.specs.standard.Kinds.{kind_of, is_declaration}
use Rattle.sh_runs.specs.standard.runs.Environment.{Environment, Frame, with_variable, with_function, showing, hiding, copied, separators}
use Rattle.sh_runs.specs.standard.runs.Answers.{Answer}
use Rattle.sh_runs.specs.standard.runs.States.{State, fresh}
use Rattle.sh_runs.specs.standard.runs.Expansion.{Context, in_fields, in_one, Outcome, pieces_text, expand}
use Rattle.sh_runs.specs.standard.runs.Fields.{fields, splits}
use Rattle.sh_runs.specs.standard.runs.Work.{Simple, Work, Items, Links, Pipeline, Negation, Command, Words, Prepare, Utility, Call, Return, Compound, If, Then, Test, Again, ForWords, ForFields, Clauses, Patterns, Fall, Saved, Start, Shares, Copies, Effect, Pushes, goes, ends, after_expansion}
use Rattle.sh_runs.specs.standard.runs.Builtins.{nonzero, special_or_end, utility, restored, returned}

-- the word that a redirection expands (XCU 2.7)
unfoldable pub opened : p.Redirect → p.Word
opened (p.File w) = w
opened (p.Here w) = w

-- How a simple command goes on, by its fields (XCU 2.9.1.4): without a name, as a special built-in
-- utility, or as another utility or function.
pub data Manner : Type 0 where
  Nameless : Manner
  Special : (name : KnownName) (operands : List Text) → Manner
  Named : (name : Text) (operands : List Text) → Manner

unfoldable pub named_manner : Kind → Text → List Text → Manner
named_manner (kind.Special name) t ts = Special name ts
named_manner _ t ts = Named t ts

unfoldable pub manner : List Text → Manner
manner [] = Nameless
manner (t ∷ ts) = named_manner (kind_of t) t ts

-- an operand of a declaration utility that is an assignment in form is not split (XCU 2.9.1.1)
unfoldable pub is_declared : List Text → p.Word → Bool
is_declared [] w = false
is_declared (t ∷ ts) w = is_declaration (kind_of t) && is_some (assignment_in w)

-- how an operand is expanded, after these fields (XCU 2.9.1.1)
abbrev pub word_context : List Text → p.Word → Context
word_context ts w = if is_declared ts w then in_one else in_fields

-- the fields of a word that is expanded so (XCU 2.6.5, 2.6.6)
unfoldable pub word_fields : Context → Answer → Outcome → List Text
word_fields c a o = if c.split then fields (separators o.state.environment) a.directory o.pieces else pieces_text o.pieces ∷ []

-- a Split event
unfoldable pub word_splits : Context → Outcome → Bool
word_splits c o = c.split && not o.state.ended && splits (separators o.state.environment) o.pieces

-- the status after substitutions is theirs (XCU 2.9.1.3)
unfoldable pub status_behind : State → ℕ → Answer → ℕ
status_behind s status a = substituted s.copies
  where
    substituted : {A : Type 0} → List A → ℕ
    substituted [] = status
    substituted (c ∷ cs) = a.status

-- Which of what is left of a simple command comes next (XCU 2.9.1.1). Without a name and before a
-- special built-in utility, any order is possible. Otherwise the redirections come first, unless
-- all assignments come before those that are left.
pub data Preparation : Type 0 where
  ready : Preparation
  next_redirect : p.Redirect → p.Redirects → Preparation
  next_assignment : (name : Text) (value : p.Word) → Assignments → Preparation

unfoldable pub in_order : p.Redirects → Preparation
in_order p.no_redirects = ready
in_order (p.more_redirects r rs) = next_redirect r rs

unfoldable pub in_any_order : Bool → p.Redirects → Assignments → Preparation
in_any_order first rs [] = in_order rs
in_any_order first p.no_redirects (x ∷ xs) = next_assignment x.0 x.1 xs
in_any_order true (p.more_redirects r rs) (x ∷ xs) = next_assignment x.0 x.1 xs
in_any_order false (p.more_redirects r rs) (x ∷ xs) = next_redirect r rs

-- what comes next of these redirections and assignments; `first` is the answer's choice
unfoldable pub next_preparation : Manner → Bool → p.Redirects → Assignments → Preparation
next_preparation (Named t ts) first rs [] = in_order rs
next_preparation (Named t ts) first rs (x ∷ xs) = if first then ready else in_order rs
next_preparation Nameless first rs xs = in_any_order first rs xs
next_preparation (Special t ts) first rs xs = in_any_order first rs xs

-- Whether a redirection may be expanded in a copy. The standard says so without a command name
-- (XCU 2.9.1.3), and is silent on others. At special built-in utilities none is.
unfoldable pub may_copy : Manner → Bool
may_copy (Special t ts) = false
may_copy _ = true

-- what is left of a pattern's clause when one pattern is picked: their order is open (XCU 2.9.4.3)
unfoldable pub picked : ℕ → p.Word → p.Words → p.Word × p.Words
picked n w p.no_words = (w, p.no_words)
picked zero w (p.more_words v vs) = (w, p.more_words v vs)
picked (suc n) w (p.more_words v vs) = ((picked n v vs).0, p.more_words w (picked n v vs).1)

-- `&&` goes on after zero, `||` after another status (XCU 2.9.3)
unfoldable pub takes_link : Link → ℕ → Bool
takes_link link.AndThen status = status == 0
takes_link link.OrElse status = not (status == 0)

-- `while` takes a turn after zero, `until` after another status (XCU 2.9.4.5, 2.9.4.6)
unfoldable pub takes_turn : LoopKind → ℕ → Bool
takes_turn loop.While status = status == 0
takes_turn loop.Until status = not (status == 0)

-- an and-or list (XCU 2.9.3)
unfoldable pub and_or_work : p.AndOr → List Work
and_or_work (p.and_or first rest) = Pipeline first ∷ Links rest ∷ []

-- a simple command, before its words are expanded (XCU 2.9.1)
abbrev pub simple_work : Simple → Work
simple_work c = Words c (operands_in c.elements) [] (redirects_in c.elements) (assignments_in c.elements)

-- a simple command, or another one with its redirections (XCU 2.9.1, 2.9.4)
unfoldable pub command_work : p.Command → Work
command_work (p.command number at (p.Simple es) rs) = simple_work (record { number = number; elements = es })
command_work (p.command number at kind rs) = Compound number rs kind

module _ (e : Environment) (f : Frame) (status : ℕ) (ws : List Work) (a : Answer) where
  -- a word is expanded in the environment (XCU 2.6)
  abbrev pub expanded : Context → p.Word → Outcome
  expanded c w = expand f status c w (fresh e a.given)

  -- the process ends if the expansion ends it (XCU 2.8.1); otherwise the step goes on
  unfoldable pub unless_ended : State → Effect → Effect
  unless_ended s x = if s.ended then ends s.environment f else x

  -- Lists, and-or lists and pipelines (XCU 2.9.2, 2.9.3)

  unfoldable pub negated_work : Bool → List Work
  negated_work true = Negation ∷ ws
  negated_work false = ws

  -- the parts of a pipeline, each sharing or with copies (XCU 2.13)
  unfoldable pub parts : ℕ → p.Commands → List Start
  parts n p.no_commands = []
  parts n (p.more_commands c cs) = (if a.shares n then Shares (Command c ∷ []) else Copies (copied (a.carries n) e) (Command c ∷ [])) ∷ parts (suc n) cs

  -- a pipeline (XCU 2.9.2): one command is done here, and more are processes
  unfoldable pub piped : List Work → p.Commands → Effect
  piped behind p.no_commands = goes e f status behind
  piped behind (p.more_commands c p.no_commands) = goes e f status (Command c ∷ behind)
  piped behind (p.more_commands c (p.more_commands d cs)) = record (goes e f a.status behind) { starts = parts 0 (p.more_commands c (p.more_commands d cs)) }

  -- a list (XCU 2.9.3): an asynchronous item is a process with a copy, and sets `!` (XCU 2.9.3.1)
  unfoldable pub items : p.Items → Effect
  items p.no_items = goes e f status ws
  items (p.more_items (p.and_or first links) false rest) = goes e f status (Pipeline first ∷ Links links ∷ Items rest ∷ ws)
  items (p.more_items list true rest) =
      record (goes (record e { job = true }) f 0 (Items rest ∷ ws)) { starts = Copies (copied (a.carries 0) e) (and_or_work list) ∷ [] }

  -- the further pipelines of an and-or list (XCU 2.9.3)
  unfoldable pub links : p.Links → Effect
  links p.no_links = goes e f status ws
  links (p.more_links l q rest) = goes e f status (if takes_link l status then Pipeline q ∷ Links rest ∷ ws else Links rest ∷ ws)

  -- Simple commands (XCU 2.9.1)

  -- the words are expanded first, in their order (XCU 2.9.1.1)
  unfoldable pub words : Simple → p.Words → List Text → p.Redirects → Assignments → Effect
  words k p.no_words ts rs xs = goes e f status (Prepare k ts rs xs false ∷ ws)
  words k (p.more_words w left) ts rs xs =
      let c = word_context ts w in
      let o = expanded c w in
      after_expansion o.state (word_splits c o)
      (unless_ended o.state (goes o.state.environment f (status_behind o.state status a) (Words k left (ts ++ word_fields c a o) rs xs ∷ ws)))

  -- A redirection failed: a special built-in utility ends the process, and a function may
  -- (XCU 2.8.1). What follows the redirection is not done. Without a name the redirections and
  -- assignments that are left may be done all the same.
  unfoldable pub failed_in : Manner → Environment → List Work → Effect
  failed_in Nameless d next = if a.redirection_leaves_out then goes d f (nonzero a.status) ws else goes d f status next
  failed_in (Special t ts) d next = ends d f
  failed_in (Named t ts) d next = if a.redirection_ends && is_some (d.functions t) then ends d f else goes d f (nonzero a.status) ws

  -- A redirection (XCU 2.7), and what comes if it failed. If a copy expands it, its early end is a
  -- failure, and nothing else stays of it.
  unfoldable pub redirected : Bool → State → List Work → (Environment → Effect) → Effect
  redirected copied s next failed =
      if copied then (if s.ended || a.redirection_fails then failed e else goes e f (status_behind s status a) next)
      else unless_ended s (if a.redirection_fails then failed s.environment else goes s.environment f (status_behind s status a) next)

  -- an assignment (XCU 2.9.1.2), unless it fails and ends the process (XCU 2.8.1)
  unfoldable pub assignment : Text → Outcome → List Work → Effect
  assignment name o next =
      if a.assignment_fails then ends o.state.environment f
      else goes (with_variable o.state.environment name (Some (pieces_text o.pieces))) f (status_behind o.state status a) next

  -- a function, or a utility (XCU 2.9.1.4)
  unfoldable pub invoked : Simple → Text → List Text → p.Redirects → Assignments → Option p.Command → Work
  invoked k t ts rs xs None = Utility k t ts rs xs (map (λ x. x.0) xs) []
  invoked k t ts rs xs (Some body) = Call k.number t ts body rs xs []

  -- the redirections and assignments are done, except for those that a function or a utility has
  -- left (XCU 2.9.1.3, 2.9.1.4)
  unfoldable pub prepared : Simple → Manner → p.Redirects → Assignments → Bool → Effect
  prepared k Nameless rs xs failed = goes e f (if failed then nonzero a.status else a.status) ws
  prepared k (Special name ts) rs xs failed = special_or_end e f status ws a (operands_in k.elements) name ts
  prepared k (Named t ts) rs xs failed = goes e f status (invoked k t ts rs xs (e.functions t) ∷ ws)

  -- the next redirection or assignment (XCU 2.9.1.1)
  unfoldable pub prepare : Simple → List Text → p.Redirects → Assignments → Bool → Preparation → Effect
  prepare k ts rs xs failed ready = prepared k (manner ts) rs xs failed
  prepare k ts rs xs failed (next_redirect r rest) =
      let s = (expanded in_one (opened r)).state in
      after_expansion s false (redirected (a.redirection_in_copy && may_copy (manner ts)) s (Prepare k ts rest xs failed ∷ ws) (λ d. failed_in (manner ts) d (Prepare k ts rest xs true ∷ ws)))
  prepare k ts rs xs failed (next_assignment name value rest) =
      let o = expanded in_one value in
      after_expansion o.state false (unless_ended o.state (assignment name o (Prepare k ts rs rest failed ∷ ws)))

  -- the value of a prefix assignment: a copy may expand it, and nothing of the copy stays; if an
  -- expansion ends it early, the process ends (XCU 2.9.1.2)
  abbrev pub kept : State → State
  kept s = record s { environment = if a.value_in_copy then e else s.environment }

  -- what a value may see of the assignments before it (XCU 2.9.1.2)
  abbrev pub seen : List (Text × Text) → List (Text × Text)
  seen values = if a.sees then values else []

  -- A utility's environment gets the values, and the shell's own does not (XCU 2.9.1.2).
  -- Redirections after the values do not see them.
  unfoldable pub utility_step : Simple → Text → List Text → p.Redirects → Assignments → List Text → List (Text × Text) → Effect
  utility_step k t ts p.no_redirects [] prefixes values = utility prefixes e f ws a (kind_of t) ts
  utility_step k t ts (p.more_redirects r rest) [] prefixes values =
      let s = (expanded in_one (opened r)).state in
      after_expansion s false (redirected a.redirection_in_copy s (Utility k t ts rest [] prefixes values ∷ ws) (λ d. failed_in (Named t ts) d ws))
  utility_step k t ts rs (x ∷ xs) prefixes values =
      let o = expand f status in_one x.1 (fresh (showing e (seen values)) a.given) in
      let s = kept (record o.state { environment = hiding e (seen values) o.state.environment }) in
      let left = Utility k t ts rs xs prefixes (values ++ (x.0, pieces_text o.pieces) ∷ []) in
      after_expansion s false (unless_ended s (if a.assignment_fails then ends s.environment f else goes s.environment f (status_behind s status a) (left ∷ ws)))

  -- what a redirection after the prefix assignments of a function does, as in bash: it does not see
  -- them
  abbrev pub unseen : Saved → p.Redirect → State
  unseen saved r =
      let s = (expand f status in_one (opened r) (fresh (restored (λ n. true) 0 e saved) a.given)).state in
      record s { environment = hiding e saved s.environment }

  -- a function (XCU 2.9.5): prefix assignments are done outside it, and its operands are its frame
  unfoldable pub call : ℕ → Text → List Text → p.Command → p.Redirects → Assignments → Saved → Effect
  call n t ts body p.no_redirects [] saved = record (goes e f status (Command body ∷ Return n t saved ∷ ws)) { frames = Pushes ts }
  call n t ts body (p.more_redirects r rest) [] saved =
      let s = unseen saved r in
      after_expansion s false
      (redirected a.redirection_in_copy s (Call n t ts body rest [] saved ∷ ws) (λ d. failed_in (Named t ts) (restored a.restores 0 d saved) ws))
  call n t ts body rs (x ∷ xs) saved =
      let o = expanded in_one x.1 in
      let kept_outcome = record o { state = kept o.state } in
      after_expansion o.state false
      (unless_ended (kept o.state) (assignment x.0 kept_outcome (Call n t ts body rs xs ((x.0, (kept o.state).environment.variables x.0) ∷ saved) ∷ ws)))

  -- Compound commands (XCU 2.9.4)

  -- a redirection failed: the command is not done, and the process may end (XCU 2.8.1)
  unfoldable pub failed_before : Environment → Effect
  failed_before d = if a.redirection_ends then ends d f else goes d f (nonzero a.status) ws

  -- A redirection of a compound command comes before it (XCU 2.9.4). It may fail, also if its
  -- expansion ends (XCU 2.8.1).
  unfoldable pub redirected_before : State → List Work → Effect
  redirected_before s next =
      after_expansion s false
      (if a.redirection_fails then failed_before s.environment else unless_ended s (goes s.environment f (status_behind s status a) next))

  -- `for` over these fields; without one its status is zero (XCU 2.9.4.2)
  unfoldable pub over_fields : ℕ → Text → List Text → p.Items → Effect
  over_fields n name [] body = goes e f 0 ws
  over_fields n name (t ∷ ts) body = goes e f status (ForFields n name (t ∷ ts) body ∷ ws)

  unfoldable pub over_words : ℕ → Text → p.ForWords → p.Items → Effect
  over_words n name p.every_parameter body = over_fields n name f body
  over_words n name (p.listed left) body = goes e f status (ForWords n name left [] body ∷ ws)

  -- a compound command begins (XCU 2.9.4): a subshell is a process with a copy (XCU 2.9.4.1), and a
  -- definition defines its function (XCU 2.9.5)
  unfoldable pub begun : ℕ → p.Kind → Effect
  begun n (p.Simple es) = goes e f status (simple_work (record { number = n; elements = es }) ∷ ws)
  begun n (p.Group list) = goes e f status (Items list ∷ ws)
  begun n (p.Subshell list) = record (goes e f a.status ws) { starts = Copies (copied (a.carries 0) e) (Items list ∷ []) ∷ [] }
  begun n (p.Conditional branches otherwise) = goes e f status (If n branches otherwise ∷ ws)
  begun n (p.Loop kind condition body) = goes e f status (Items condition ∷ Test n kind condition body 0 ∷ ws)
  begun n (p.For name left body) = over_words n name left body
  begun n (p.Case w clauses) =
      let s = (expanded in_one w).state in
      after_expansion s false (unless_ended s (goes s.environment f (status_behind s status a) (Clauses n clauses ∷ ws)))
  begun n (p.Define name body) = goes (with_function e name (Some body)) f 0 ws

  -- a subshell may expand its redirections in the process that it starts, which then does its list
  -- (XCU 2.9.4.1)
  unfoldable pub is_started_first : p.Kind → Bool
  is_started_first (p.Subshell list) = a.redirections_in_process
  is_started_first _ = false

  unfoldable pub in_process : p.Kind → p.Kind
  in_process (p.Subshell list) = p.Group list
  in_process kind = kind

  -- the redirections of a compound command, and then it (XCU 2.9.4)
  unfoldable pub compound : ℕ → p.Redirects → p.Kind → Effect
  compound n p.no_redirects kind = begun n kind
  compound n (p.more_redirects r rest) kind =
      if is_started_first kind then record (goes e f a.status ws) { starts = Copies e (Compound n (p.more_redirects r rest) (in_process kind) ∷ []) ∷ [] }
      else redirected_before (expanded in_one (opened r)).state (Compound n rest kind ∷ ws)

  -- `if` (XCU 2.9.4.4): without a branch and without `else` its status is zero
  unfoldable pub branch : ℕ → p.Branches → p.Otherwise → Effect
  branch n p.no_branches p.no_else = goes e f 0 ws
  branch n p.no_branches (p.else_of list) = goes e f status (Items list ∷ ws)
  branch n (p.more_branches condition body rest) otherwise = goes e f status (Items condition ∷ Then n body rest otherwise ∷ ws)

  -- a condition of `while` or `until` was done (XCU 2.9.4.5, 2.9.4.6)
  unfoldable pub test : ℕ → LoopKind → p.Items → p.Items → ℕ → Effect
  test n kind condition body last = if takes_turn kind status then goes e f status (Items body ∷ Again n kind condition body ∷ ws) else goes e f last ws

  -- the words of `for` are expanded in their order (XCU 2.9.4.2)
  unfoldable pub for_words : ℕ → Text → p.Words → List Text → p.Items → Effect
  for_words n name p.no_words ts body = over_fields n name ts body
  for_words n name (p.more_words w left) ts body =
      let o = expanded in_fields w in
      after_expansion o.state (word_splits in_fields o)
      (unless_ended o.state (goes o.state.environment f (status_behind o.state status a) (ForWords n name left (ts ++ word_fields in_fields a o) body ∷ ws)))

  -- the name gets the next field, unless that fails (XCU 2.9.4.2)
  unfoldable pub for_fields : ℕ → Text → List Text → p.Items → Effect
  for_fields n name [] body = goes e f status ws
  for_fields n name (t ∷ ts) body = if a.assignment_fails then ends e f else goes (with_variable e name (Some t)) f status (Items body ∷ ForFields n name ts body ∷ ws)

  -- the list of a clause, and after `;&` that of the next one; a list that is empty has any status
  -- (XCU 2.9.4.3)
  unfoldable pub fall : ℕ → ClauseEnd → p.Clauses → List Work
  fall n clause.Break rest = ws
  fall n clause.FallThrough rest = Fall n rest ∷ ws

  unfoldable pub clause_list : ℕ → p.Items → ClauseEnd → p.Clauses → Environment → ℕ → Effect
  clause_list n p.no_items end rest d last = goes d f a.status (fall n end rest)
  clause_list n body end rest d last = goes d f last (Items body ∷ fall n end rest)

  -- the list of the next clause, after `;&` (XCU 2.9.4.3)
  unfoldable pub falls : ℕ → p.Clauses → Effect
  falls n p.no_clauses = goes e f status ws
  falls n (p.more_clauses patterns body end rest) = clause_list n body end rest e status

  -- the next clause of `case`; if none is left, the status is zero (XCU 2.9.4.3)
  unfoldable pub clauses : ℕ → p.Clauses → Effect
  clauses n p.no_clauses = goes e f 0 ws
  clauses n (p.more_clauses patterns body end rest) = goes e f status (Patterns n patterns body end rest ∷ ws)

  -- `*` alone, unquoted, matches; for another pattern the answer says so (XCU 2.9.4.3)
  unfoldable pub matched : ℕ → p.Word → p.Words → p.Items → ClauseEnd → p.Clauses → Effect
  matched n w others body end rest =
      let s = (expanded in_one w).state in
      after_expansion s false
      (unless_ended s
      (if is_plainly (42 ∷ []) w || a.matches then clause_list n body end rest s.environment (status_behind s status a)
      else goes s.environment f (status_behind s status a) (Patterns n others body end rest ∷ ws)))

  unfoldable pub patterns : ℕ → p.Words → p.Items → ClauseEnd → p.Clauses → Effect
  patterns n p.no_words body end rest = goes e f status (Clauses n rest ∷ ws)
  patterns n (p.more_words w vs) body end rest = matched n (picked a.pattern w vs).0 (picked a.pattern w vs).1 body end rest

  -- what the front of the work does (XCU 2.9), with `ws` after it
  unfoldable pub act_on : Work → Effect
  act_on (Items is) = items is
  act_on (Links ls) = links ls
  act_on (Pipeline (p.pipeline negated cs)) = piped (negated_work negated) cs
  act_on Negation = goes e f (if status == 0 then 1 else 0) ws
  act_on (Command c) = goes e f status (command_work c ∷ ws)
  act_on (Words k left ts rs xs) = words k left ts rs xs
  act_on (Prepare k ts rs xs failed) = prepare k ts rs xs failed (next_preparation (manner ts) a.assignment_first rs xs)
  act_on (Utility k t ts rs xs prefixes values) = utility_step k t ts rs xs prefixes values
  act_on (Call n t ts body rs xs saved) = call n t ts body rs xs saved
  act_on (Return n t saved) = returned e f status ws a (Some (saved, ws))
  act_on (Compound n rs kind) = compound n rs kind
  act_on (If n branches otherwise) = branch n branches otherwise
  act_on (Then n body branches otherwise) = goes e f status (if status == 0 then Items body ∷ ws else If n branches otherwise ∷ ws)
  act_on (Test n kind condition body last) = test n kind condition body last
  act_on (Again n kind condition body) = goes e f status (Items condition ∷ Test n kind condition body status ∷ ws)
  act_on (ForWords n name left ts body) = for_words n name left ts body
  act_on (ForFields n name ts body) = for_fields n name ts body
  act_on (Clauses n cs) = clauses n cs
  act_on (Patterns n left body end rest) = patterns n left body end rest
  act_on (Fall n cs) = falls n cs

-- what a process with this environment, innermost frame, last status and work does (XCU 2.9);
-- without work it ends
unfoldable pub act : Environment → Frame → ℕ → List Work → Answer → Effect
act e f status [] a = ends e f
act e f status (w ∷ ws) a = act_on e f status ws a w
