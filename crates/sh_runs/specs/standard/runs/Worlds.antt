-- Processes, what they share, and runs.
-- POSIX.1-2024, XCU 2.5.3 (shell variables), 2.6 (word expansions), 2.9 (shell commands), 2.13
-- (shell execution environment), 3 (getopts).
use Rattle.std.specs.Prelude.{◌≡◌, ℕ, zero, suc, ◌≤◌, Bool, true, false, ◌||◌, ◌==◌, if◌then◌else◌, List, [], ◌∷◌, length, codes, Option, Some, None, is_some, unwrap_or, option_map, option_and_then}
use Rattle.sh_tree.specs.standard.program.Syntax.{Text}
use Rattle.sh_tree.specs.standard.program.Syntax as p
use Rattle.sh_runs.specs.standard.runs.Environment.{Environment, Frame, is_one_of, blanks}
use Rattle.sh_runs.specs.standard.runs.Answers.{Answer}
use Rattle.sh_runs.specs.standard.runs.Work.{Work, Items, Start, Shares, Copies, Frames, Keeps, Pushes, Pops, Effect}
use Rattle.sh_runs.specs.standard.runs.Steps.{act}

-- the map with the value of one number changed
unfoldable pub put : {A : Type 0} → (ℕ → A) → ℕ → A → ℕ → A
put f n v k = if k == n then v else f k

-- A process (XCU 2.13) has the numbers of its environment and of its frames, the innermost first,
-- its last status, and its work. `parent`: the process whose environment it shares, which waits for
-- it.
pub record Process : Type 0 where
  pub environment : ℕ
  pub frames : List ℕ
  pub parent : Option ℕ
  pub status : ℕ
  pub work : List Work

-- environments, frames and live processes, by number
pub record World : Type 0 where
  pub environments : ℕ → Environment
  pub frames : ℕ → Frame
  pub processes : ℕ → Option Process
  -- numbers from these on are free
  pub next_environment : ℕ
  pub next_frame : ℕ
  pub next_process : ℕ
  -- arithmetic met a value that it cannot compute with: nothing is said of what comes then
  pub over : Bool

-- the innermost frame
unfoldable pub innermost : (ℕ → Frame) → List ℕ → Frame
innermost frames [] = []
innermost frames (n ∷ ns) = frames n

-- Waiting: a shell goes on when the parts that share its environment have ended, which is a choice.
-- By XCU 2.9.2 it waits for the last command, which no run relies on.

-- the process is a part of p
unfoldable pub is_part_of : ℕ → Option Process → Bool
is_part_of p None = false
is_part_of p (Some r) = unwrap_or (option_map (λ q. q == p) r.parent) false

-- f is true of a number below this one
unfoldable pub any_below : ℕ → (ℕ → Bool) → Bool
any_below zero f = false
any_below (suc n) f = f n || any_below n f

-- some live process is a part of p
unfoldable pub waits : World → ℕ → Bool
waits w p = any_below w.next_process (λ q. is_part_of p (w.processes q))

-- What a step makes of the world (XCU 2.13)

-- without the innermost frame
unfoldable pub outer : List ℕ → List ℕ
outer [] = []
outer (n ∷ ns) = ns

-- the frames of the process afterwards
unfoldable pub frames_after : World → List ℕ → Frames → List ℕ
frames_after w ns (Keeps f) = ns
frames_after w ns (Pushes f) = w.next_frame ∷ ns
frames_after w ns Pops = outer ns

-- the innermost frame gets other parameters, or a new one comes (XCU 2.9.5)
unfoldable pub with_frames : World → List ℕ → Frames → World
with_frames w [] (Keeps f) = w
with_frames w (n ∷ ns) (Keeps f) = record w { frames = put w.frames n f }
with_frames w ns (Pushes f) = record w { frames = put w.frames w.next_frame f; next_frame = suc w.next_frame }
with_frames w ns Pops = w

abbrev pub with_environment : World → ℕ → Environment → World
with_environment w n e = record w { environments = put w.environments n e }

abbrev pub with_process : World → ℕ → Option Process → World
with_process w p r = record w { processes = put w.processes p r }

-- the process with its new status and work, or none
unfoldable pub stepped : World → Process → Frames → Option (ℕ × List Work) → Option Process
stepped w r fs None = None
stepped w r fs (Some x) = Some (record r { frames = frames_after w r.frames fs; status = x.0; work = x.1 })

-- the first of the frames alone
unfoldable pub first_frame : List ℕ → List ℕ
first_frame [] = []
first_frame (n ∷ ns) = n ∷ []

-- a process is started by p, whose environment and frames are these: it shares them, or has copies
-- (XCU 2.13)
unfoldable pub start : World → ℕ → Process → Start → World
start w p r (Shares ws) =
    record (with_process w w.next_process (Some (record { environment = r.environment; frames = first_frame r.frames; parent = Some p; status = r.status; work = ws })))
    { next_process = suc w.next_process }
start w p r (Copies e ws) =
    record w {
      environments = put w.environments w.next_environment e;
      next_environment = suc w.next_environment;
      frames = put w.frames w.next_frame (innermost w.frames r.frames);
      next_frame = suc w.next_frame;
      processes = put w.processes w.next_process (Some (record { environment = w.next_environment; frames = w.next_frame ∷ []; parent = None; status = r.status; work = ws }));
      next_process = suc w.next_process;
    }

unfoldable pub start_all : World → ℕ → Process → List Start → World
start_all w p r [] = w
start_all w p r (x ∷ xs) = start_all (start w p r x) p r xs

-- the environment and the frame change, the processes are started, and the process goes on or ends
unfoldable pub apply : World → ℕ → Process → Effect → World
apply w p r x =
    let changed = with_frames (with_environment w r.environment x.environment) r.frames x.frames in
    record (start_all (with_process changed p (stepped w r x.frames x.next)) p r x.starts) { over = x.strays }

-- who steps, and how (XCU 2.13)
pub record Move : Type 0 where
  pub process : ℕ
  pub answer : Answer

-- what the process does with this answer
unfoldable pub effect_of : World → Move → Process → Effect
effect_of w m r = act (w.environments r.environment) (innermost w.frames r.frames) r.status r.work m.answer

-- the process may step, if it waits for nobody and the run is not over
unfoldable pub may_step : World → Move → Option Process → Option Process
may_step w m None = None
may_step w m (Some r) = if w.over || waits w m.process then None else Some r

-- the process of a move, if it lives, waits for nobody, and the run is not over
abbrev pub stepping : World → Move → Option Process
stepping w m = may_step w m (w.processes m.process)

-- the world after a move, if there is one
unfoldable pub step : World → Move → Option World
step w m = option_map (λ r. apply w m.process r (effect_of w m r)) (stepping w m)

-- the world after these moves, if each is one
unfoldable pub run : List Move → World → Option World
run [] w = Some w
run (m ∷ ms) w = option_and_then (run ms) (step w m)

-- Events: parameters that are unset (XCU 2.6.2), and values that are split (XCU 2.6.5, 2.6.6)

-- the step expands an unset parameter without a default
unfoldable pub has_unset_event : World → Move → Bool
has_unset_event w m = unwrap_or (option_map (λ r. (effect_of w m r).unset) (stepping w m)) false

-- the step gives the value of an expansion to splitting or pathname expansion that could change it
unfoldable pub has_split_event : World → Move → Bool
has_split_event w m = unwrap_or (option_map (λ r. (effect_of w m r).split) (stepping w m)) false

-- Starts (XCU 2.5.3, 2.13)

-- one process, with the program to run
unfoldable pub start_world : Environment → Frame → p.Items → World
start_world e f t =
    record {
      environments = λ n. e;
      frames = λ n. f;
      processes = put (λ n. None) 0 (Some (record { environment = 0; frames = 0 ∷ []; parent = None; status = 0; work = Items t ∷ [] }));
      next_environment = 1;
      next_frame = 1;
      next_process = 1;
      over = false;
    }

-- set at the start of every run (XCU 2.5.3, 3 getopts)
abbrev pub start_names : List Text
start_names = codes "IFS" ∷ codes "OPTIND" ∷ codes "PPID" ∷ []

-- What is allowed at the start. The declared names and those of every start are set,
-- IFS to space, tab and newline. No function is defined. There are at least so many positional
-- parameters.
pub record IsStart (names : List Text) (args : ℕ) (e : Environment) (f : Frame) : Type 0 where
  pub always : (t : Text) → is_one_of start_names t ≡ true → is_some (e.variables t) ≡ true
  pub declared : (t : Text) → is_one_of names t ≡ true → is_some (e.variables t) ≡ true
  pub ifs : e.variables (codes "IFS") ≡ Some blanks
  pub functions : (t : Text) → e.functions t ≡ None
  pub parameters : args ≤ length f
