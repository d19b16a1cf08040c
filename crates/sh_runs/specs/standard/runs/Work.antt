-- What a process has left to do, and what one step of it does.
-- POSIX.1-2024, XCU 2.6.3 (command substitution), 2.9 (shell commands), 2.13 (shell execution
-- environment), 2.15 (break, continue, return).
use Rattle.std.specs.Prelude.{ℕ, ◌-◌, nat_le, Bool, false, if◌then◌else◌, List, [], ◌∷◌, ◌++◌, map, Option, Some, None}
use Rattle.sh_tree.specs.declared.tree.LoopKind.{LoopKind}
use Rattle.sh_tree.specs.declared.tree.ClauseEnd.{ClauseEnd}
use Rattle.sh_tree.specs.standard.program.Syntax as p
use Rattle.sh_tree.specs.standard.program.Syntax.{Text}
use Rattle.sh_tree.specs.standard.program.Words.{Assignments}
use Rattle.sh_runs.specs.standard.runs.Environment.{Environment, Frame}
use Rattle.sh_runs.specs.standard.runs.States.{State, Copy}

-- names, each with the value that it had, if it was set (XCU 2.9.1.2)
abbrev pub Saved : Type 0
Saved = List (Text × Option Text)

-- a simple command that is being done (XCU 2.9.1): its number, and what is in it
pub record Simple : Type 0 where
  pub number : ℕ
  pub elements : p.Elements

-- What is left to do: a piece for each place at which a command of the syntax can pause. A piece
-- that belongs to one command has its number, that of a simple command the command itself.
pub data Work : Type 0 where
  -- the items of a list that are left (XCU 2.9.3)
  Items : p.Items → Work
  -- the pipelines of an and-or list that are left (XCU 2.9.3)
  Links : p.Links → Work
  Pipeline : p.Pipeline → Work
  -- the `!` before the pipeline that was done (XCU 2.9.2)
  Negation : Work
  Command : p.Command → Work
  -- a simple command (XCU 2.9.1.1): the words that are left, and the fields so far
  Words : (command : Simple) (left : p.Words) (fields : List Text) (redirects : p.Redirects) (assignments : Assignments) → Work
  -- its redirections and assignments that are left; whether a redirection failed
  Prepare : (command : Simple) (fields : List Text) (redirects : p.Redirects) (assignments : Assignments) (failed : Bool) → Work
  -- a utility (XCU 2.9.1.4), its redirections and prefix assignments that are left, the names of
  -- all assignments, and the values so far
  Utility : (command : Simple) (name : Text) (operands : List Text) (redirects : p.Redirects) (assignments : Assignments) (prefixes : List Text) (values : List (Text × Text)) → Work
  -- A function by its name (XCU 2.9.5), with the redirections and prefix assignments that are left.
  -- `saved`: what the names of the other assignments had before, the last one first.
  Call : (number : ℕ) (function : Text) (operands : List Text) (body : p.Command) (redirects : p.Redirects) (assignments : Assignments) (saved : Saved) → Work
  -- the return mark of a call: the function, and what the names of prefix assignments had before
  Return : (number : ℕ) (function : Text) (saved : Saved) → Work
  -- a compound command, its redirections that are left before it (XCU 2.9.4)
  Compound : (number : ℕ) (redirects : p.Redirects) (kind : p.Kind) → Work
  -- the branches of `if` that are left, and one whose condition was done (XCU 2.9.4.4)
  If : (number : ℕ) (branches : p.Branches) (otherwise : p.Otherwise) → Work
  Then : (number : ℕ) (body : p.Items) (branches : p.Branches) (otherwise : p.Otherwise) → Work
  -- The mark of a loop under its condition, and under its body (XCU 2.9.4.5, 2.9.4.6). `last`: the
  -- status that the loop has if no other turn comes.
  Test : (number : ℕ) (kind : LoopKind) (condition body : p.Items) (last : ℕ) → Work
  Again : (number : ℕ) (kind : LoopKind) (condition body : p.Items) → Work
  -- the words of `for` that are left, and the fields so far (XCU 2.9.4.2)
  ForWords : (number : ℕ) (name : Text) (left : p.Words) (fields : List Text) (body : p.Items) → Work
  -- the mark of `for`, with the fields that are left
  ForFields : (number : ℕ) (name : Text) (fields : List Text) (body : p.Items) → Work
  -- the clauses of `case` that are left (XCU 2.9.4.3)
  Clauses : (number : ℕ) (clauses : p.Clauses) → Work
  -- the patterns of a clause that are left, its list and its end, and the clauses after it
  Patterns : (number : ℕ) (left : p.Words) (body : p.Items) (end : ClauseEnd) (rest : p.Clauses) → Work
  -- `;&`: the list of the next clause
  Fall : (number : ℕ) (clauses : p.Clauses) → Work

-- a process that is started (XCU 2.13): it shares the environment and the innermost frame, or has
-- copies
pub data Start : Type 0 where
  Shares : List Work → Start
  Copies : Environment → List Work → Start

-- what becomes of the frames (XCU 2.9.5): the innermost is this one now, a new one comes, or the
-- innermost goes
pub data Frames : Type 0 where
  Keeps : Frame → Frames
  Pushes : Frame → Frames
  Pops : Frames

-- what a process does in a step
pub record Effect : Type 0 where
  -- the environment afterwards
  pub environment : Environment
  pub frames : Frames
  -- its status and its work, unless it ends
  pub next : Option (ℕ × List Work)
  -- the processes that it starts
  pub starts : List Start
  -- it expands an unset parameter without a default
  pub unset : Bool
  -- it gives an expansion's value to splitting or pathname expansion that could change it
  pub split : Bool
  -- it meets a value in arithmetic that is no integer constant. An empty or blank value of a name
  -- is zero.
  pub strays : Bool

-- a step without expansions: the process goes on
abbrev pub goes : Environment → Frame → ℕ → List Work → Effect
goes e f status ws = record { environment = e; frames = Keeps f; next = Some (status, ws); starts = []; unset = false; split = false; strays = false }

-- and the process ends
abbrev pub ends : Environment → Frame → Effect
ends e f = record { environment = e; frames = Keeps f; next = None; starts = []; unset = false; split = false; strays = false }

-- what expansions did comes to what the step does; the substitutions of it are processes
-- (XCU 2.6.3)
abbrev pub of_copies : List Copy → List Start
of_copies cs = map (λ (c : Copy). Copies c.environment (Items c.list ∷ [])) cs

abbrev pub after_expansion : State → Bool → Effect → Effect
after_expansion s split x = record x { starts = of_copies s.copies ++ x.starts; unset = s.unset; split = split; strays = s.strays }

-- Jumps (XCU 2.15)

-- What comes up to the mark of the n-th loop round a place: the mark, and the work after it. If
-- there are not so many, it is the outermost loop of the function and process.
pub data Mark : Type 0 where
  no_loop : Mark
  marked : (turn : Work) (behind : List Work) → Mark

-- the n-th mark, unless there are not so many
unfoldable pub or_nearer : Mark → Work → List Work → Mark
or_nearer no_loop turn behind = marked turn behind
or_nearer (marked t b) turn behind = marked t b

unfoldable pub nth_mark : ℕ → Mark → Work → List Work → Mark
nth_mark n further turn behind = if nat_le n 1 then marked turn behind else or_nearer further turn behind

-- The mark of the n-th loop. A loop round a call is none of the function's: the standard leaves
-- that open (XCU 2.15, break).
unfoldable pub loop_mark : ℕ → List Work → Mark
loop_mark n [] = no_loop
loop_mark n (Return number function saved ∷ ws) = no_loop
loop_mark n (Test number kind condition body last ∷ ws) = nth_mark n (loop_mark (n - 1) ws) (Again number kind condition body) ws
loop_mark n (Again number kind condition body ∷ ws) = nth_mark n (loop_mark (n - 1) ws) (Again number kind condition body) ws
loop_mark n (ForFields number name fields body ∷ ws) = nth_mark n (loop_mark (n - 1) ws) (ForFields number name fields body) ws
loop_mark n (w ∷ ws) = loop_mark n ws

-- `break` goes on after the loop, `continue` with its next turn; outside loops both change nothing
-- (XCU 2.15)
unfoldable pub broken_off : Mark → List Work → List Work
broken_off no_loop ws = ws
broken_off (marked turn behind) ws = behind

unfoldable pub continued : Mark → List Work → List Work
continued no_loop ws = ws
continued (marked turn behind) ws = turn ∷ behind

-- the innermost return mark, and the work after it (XCU 2.15, return)
unfoldable pub return_mark : List Work → Option (Saved × List Work)
return_mark [] = None
return_mark (Return number function saved ∷ ws) = Some (saved, ws)
return_mark (w ∷ ws) = return_mark ws
