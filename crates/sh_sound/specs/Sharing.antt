-- Which environments and frames the live processes of a run have together.
-- POSIX.1-2024, XCU 2.9.2 (pipelines), 2.13 (shell execution environment).
use Rattle.std.specs.Prelude.{◌≡◌, ℕ, ◌<◌, true, List, [], ◌∷◌, ◌⊎◌, Option, Some, None, is_some}
use Rattle.sh_runs.specs.standard.runs.Worlds.{Process}

-- the number is among these
unfoldable pub Among : ℕ → List ℕ → Type 0
Among k [] = ⊥
Among k (n ∷ ns) = (k ≡ n) ⊎ Among k ns

-- each number occurs there once
unfoldable pub Distinct : List ℕ → Type 0
Distinct [] = Unit {0}
Distinct (n ∷ ns) = (Among n ns → ⊥) × Distinct ns

-- the innermost frame's number, which is first, and the outermost one's
unfoldable pub innermost_of : List ℕ → Option ℕ
innermost_of [] = None
innermost_of (n ∷ ns) = Some n

unfoldable pub outermost_of : List ℕ → Option ℕ
outermost_of [] = None
outermost_of (n ∷ []) = Some n
outermost_of (n ∷ m ∷ ns) = outermost_of (m ∷ ns)

unfoldable pub but_outermost : List ℕ → List ℕ
but_outermost [] = []
but_outermost (n ∷ []) = []
but_outermost (n ∷ m ∷ ns) = n ∷ but_outermost (m ∷ ns)

-- the frames that a process has for itself: a part of a pipeline has its outermost one from the
-- process that waits for it
unfoldable pub own_frames : Option ℕ → List ℕ → List ℕ
own_frames None ns = ns
own_frames (Some q) ns = but_outermost ns

-- the process p is a part of q, which lives and is older: it has the environment of q, and its
-- outermost frame is the innermost of q
pub record IsPart (processes : ℕ → Option Process) (p : ℕ) (r : Process) (q : ℕ) : Type 0 where
  pub whole : Process
  pub lives : processes q ≡ Some whole
  pub older : q < p
  pub environment : whole.environment ≡ r.environment
  pub frame : outermost_of r.frames ≡ innermost_of whole.frames

-- the numbers of a live process are below the next ones, it has frames, each once, and it is a part
-- of its parent
pub record IsPlaced (processes : ℕ → Option Process) (next_environment next_frame next_process : ℕ) (p : ℕ) (r : Process) : Type 0 where
  pub process : p < next_process
  pub environment : r.environment < next_environment
  pub frames : (k : ℕ) → Among k r.frames → k < next_frame
  pub framed : is_some (innermost_of r.frames) ≡ true
  pub distinct : Distinct r.frames
  pub part : (q : ℕ) → r.parent ≡ Some q → IsPart processes p r q

-- Whatever is shared is shared with a parent: an environment has one process that is no part, and a
-- frame is one process's own.
pub record Sharing (processes : ℕ → Option Process) (next_environment next_frame next_process : ℕ) : Type 0 where
  pub placed : (p : ℕ) (r : Process) → processes p ≡ Some r → IsPlaced processes next_environment next_frame next_process p r
  pub environment : (p q : ℕ) (r s : Process) → processes p ≡ Some r → processes q ≡ Some s → r.parent ≡ None → s.parent ≡ None → r.environment ≡ s.environment → p ≡ q
  pub frame : (p q : ℕ) (r s : Process) → processes p ≡ Some r → processes q ≡ Some s → (k : ℕ) → Among k (own_frames r.parent r.frames) → Among k (own_frames s.parent s.frames) → p ≡ q
