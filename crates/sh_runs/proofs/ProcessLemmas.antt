-- What each environment and the work of each process keep in every run, if each step of a process
-- keeps it.
use Rattle.std.proofs.Common.{◌≡◌, ℕ, Option, Some, None, List, [], ◌∷◌, sym, subst}
use Rattle.sh_tree.specs.standard.program.Syntax as p
use Rattle.sh_runs.specs.standard.runs.Environment.{Environment, Frame}
use Rattle.sh_runs.specs.standard.runs.Answers.{Answer}
use Rattle.sh_runs.specs.standard.runs.Work.{Work, Items, Start, Shares, Copies, Frames, Keeps, Pushes, Pops, Effect, goes, ends}
use Rattle.sh_runs.specs.standard.runs.Steps.{act}
use Rattle.sh_runs.specs.standard.runs.Worlds.{Process, World, Move, innermost, with_frames, with_environment, with_process, stepped, start, start_all, apply, effect_of, step, run, start_world}
use Rattle.sh_runs.proofs.WorldLemmas.{put_each, Made, step_made, run_keeps}

-- E of environments, L of work
module _ (E : Environment → Type 0) (L : List Work → Type 0) where
  -- Effects

  unfoldable pub StartHolds : Start → Type 0
  StartHolds (Shares ws) = L ws
  StartHolds (Copies e ws) = E e × L ws

  unfoldable pub StartsHold : List Start → Type 0
  StartsHold [] = Unit {0}
  StartsHold (x ∷ xs) = StartHolds x × StartsHold xs

  unfoldable pub NextHolds : Option (ℕ × List Work) → Type 0
  NextHolds None = Unit {0}
  NextHolds (Some x) = L x.1

  pub record EffectHolds (x : Effect) : Type 0 where
    pub environment : E x.environment
    pub next : NextHolds x.next
    pub starts : StartsHold x.starts

  pub goes_holds : (e : Environment) (f : Frame) (status : ℕ) (ws : List Work) → E e → L ws → EffectHolds (goes e f status ws)
  unfolding NextHolds StartsHold
  goes_holds e f status ws h k = record { environment = h; next = k; starts = tt }

  pub ends_holds : (e : Environment) (f : Frame) → E e → EffectHolds (ends e f)
  unfolding NextHolds StartsHold
  ends_holds e f h = record { environment = h; next = tt; starts = tt }

  -- Worlds

  unfoldable pub ProcessHolds : Option Process → Type 0
  ProcessHolds None = Unit {0}
  ProcessHolds (Some r) = L r.work

  pub record WorldHolds (w : World) : Type 0 where
    pub environments : (n : ℕ) → E (w.environments n)
    pub processes : (n : ℕ) → ProcessHolds (w.processes n)

  frames_hold : (w : World) (ns : List ℕ) (fs : Frames) → WorldHolds w → WorldHolds (with_frames w ns fs)
  unfolding with_frames
  frames_hold w [] (Keeps f) h = h
  frames_hold w (n ∷ ns) (Keeps f) h = record { environments = h.environments; processes = h.processes }
  frames_hold w ns (Pushes f) h = record { environments = h.environments; processes = h.processes }
  frames_hold w ns Pops h = h

  process_holds : (w : World) (n : ℕ) (o : Option Process) → ProcessHolds o → WorldHolds w → WorldHolds (with_process w n o)
  process_holds w n o h k = record { environments = k.environments; processes = λ q. put_each (λ j p. ProcessHolds p) w.processes n o h q (k.processes q) }

  start_holds : (w : World) (n : ℕ) (r : Process) (x : Start) → StartHolds x → WorldHolds w → WorldHolds (start w n r x)
  unfolding start StartHolds ProcessHolds
  start_holds w n r (Shares ws) h k = record {
    environments = k.environments;
    processes = λ q. put_each (λ j o. ProcessHolds o) w.processes w.next_process _ h q (k.processes q);
  }
  start_holds w n r (Copies e ws) h k = record {
    environments = λ q. put_each (λ j d. E d) w.environments w.next_environment e h.0 q (k.environments q);
    processes = λ q. put_each (λ j o. ProcessHolds o) w.processes w.next_process _ h.1 q (k.processes q);
  }

  starts_hold : (w : World) (n : ℕ) (r : Process) (xs : List Start) → StartsHold xs → WorldHolds w → WorldHolds (start_all w n r xs)
  unfolding start_all StartsHold
  starts_hold w n r [] h k = k
  starts_hold w n r (x ∷ xs) h k = starts_hold (start w n r x) n r xs h.1 (start_holds w n r x h.0 k)

  stepped_holds : (w : World) (r : Process) (fs : Frames) (x : Option (ℕ × List Work)) → NextHolds x → ProcessHolds (stepped w r fs x)
  unfolding stepped NextHolds ProcessHolds
  stepped_holds w r fs None h = tt
  stepped_holds w r fs (Some x) h = h

  apply_holds : (w : World) (n : ℕ) (r : Process) (x : Effect) → EffectHolds x → WorldHolds w → WorldHolds (apply w n r x)
  unfolding apply
  apply_holds w n r x h k =
      let v : World = with_environment w r.environment x.environment in
      let changed : WorldHolds v = record {
        environments = λ q. put_each (λ j d. E d) w.environments r.environment x.environment h.environment q (k.environments q);
        processes = k.processes;
      } in
      let u : World = with_frames v r.frames x.frames in
      let o : Option Process = stepped w r x.frames x.next in
      let moved : WorldHolds (with_process u n o) = process_holds u n o (stepped_holds w r x.frames x.next h.next) (frames_hold v r.frames x.frames changed) in
      let all : WorldHolds (start_all (with_process u n o) n r x.starts) = starts_hold (with_process u n o) n r x.starts h.starts moved in
      record { environments = all.environments; processes = all.processes }

  -- the work of a live process
  pub work_holds : (w : World) (n : ℕ) (r : Process) → WorldHolds w → w.processes n ≡ Some r → L r.work
  unfolding ProcessHolds
  work_holds w n r h lives = subst ProcessHolds lives (h.processes n)

  -- each step keeps it
  abbrev pub Kept : Type 0
  Kept = (e : Environment) (f : Frame) (status : ℕ) (ws : List Work) (a : Answer) → E e → L ws → EffectHolds (act e f status ws a)

  step_holds : Kept → (w w' : World) (m : Move) → WorldHolds w → step w m ≡ Some w' → WorldHolds w'
  unfolding effect_of
  step_holds kept w w' m h d =
      let made : Made w m w' = step_made w w' m d in
      let r : Process = made.process in
      subst WorldHolds (sym made.after)
      (apply_holds w m.process r (effect_of w m r)
      (kept (w.environments r.environment) (innermost w.frames r.frames) r.status r.work m.answer (h.environments r.environment) (work_holds w m.process r h made.lives))
      h)

  start_world_holds : (e : Environment) (f : Frame) (t : p.Items) → E e → L (Items t ∷ []) → WorldHolds (start_world e f t)
  unfolding start_world ProcessHolds
  start_world_holds e f t h k = record { environments = λ n. h; processes = λ n. put_each (λ j o. ProcessHolds o) (λ n. None) 0 _ k n tt }

  pub run_holds : Kept → (e : Environment) (f : Frame) (t : p.Items) (moves : List Move) (w : World) → E e → L (Items t ∷ []) → run moves (start_world e f t) ≡ Some w → WorldHolds w
  run_holds kept e f t moves w h k d = run_keeps WorldHolds (step_holds kept) moves (start_world e f t) w (start_world_holds e f t h k) d
