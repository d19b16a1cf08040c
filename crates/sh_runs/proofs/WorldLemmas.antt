-- What holds of worlds, whatever their processes do.
use Rattle.std.proofs.Common.{◌≡◌, ◌≢◌, ℕ, zero, suc, ◌==◌, ◌<◌, ◌≤◌, Bool, true, false, ◌||◌, Option, Some, None, is_some, if◌then◌else◌, List, [], ◌∷◌, ◌⊎◌, inl, inr, refl, sym, ◌∙◌, ap, subst, le_refl, arith, eqb-true, eq-eqb, ne_eqb, option_map, option_and_then, unwrap_or, true≢false}
use Rattle.std.proofs.lemmas.Option.{same_Some, none-some, option_and_then_some}
use Rattle.sh_tree.specs.standard.program.Syntax as p
use Rattle.sh_runs.specs.standard.runs.Environment.{Environment, Frame}
use Rattle.sh_runs.specs.standard.runs.Work.{Work, Start, Shares, Copies, Frames, Keeps, Pushes, Pops, Effect}
use Rattle.sh_runs.specs.standard.runs.Worlds.{Process, World, Move, put, is_part_of, any_below, waits, with_frames, with_environment, with_process, stepped, start, start_all, apply, effect_of, may_step, step, run, start_world}

-- Changed maps

pub put_same : {A : Type 0} (f : ℕ → A) (n : ℕ) (v : A) → put f n v n ≡ v
unfolding put
put_same f n v = rw (eq-eqb n n refl) refl

pub put_other : {A : Type 0} (f : ℕ → A) (n : ℕ) (v : A) (k : ℕ) → (k == n) ≡ false → put f n v k ≡ f k
unfolding put
put_other f n v k h = rw h refl

-- where a changed map has a value
pub put_cases : {A : Type 0} (f : ℕ → A) (n : ℕ) (v : A) (k : ℕ) (x : A) → put f n v k ≡ x → ((k ≡ n) × (v ≡ x)) ⊎ ((k ≢ n) × (f k ≡ x))
put_cases f n v k x h = go (k == n) refl
  where
    go : (b : Bool) → (k == n) ≡ b → ((k ≡ n) × (v ≡ x)) ⊎ ((k ≢ n) × (f k ≡ x))
    go true e = inl (eqb-true k n e, sym (put_same f n v) ∙ ap (put f n v) (sym (eqb-true k n e)) ∙ h)
    go false e = inr (λ d. cc (eq-eqb k n d), sym (put_other f n v k e) ∙ h)

-- what holds of the new value at its number, and of the others at theirs
pub put_each : {A : Type 0} (Q : ℕ → A → Type 0) (f : ℕ → A) (n : ℕ) (v : A) → Q n v → (k : ℕ) → Q k (f k) → Q k (put f n v k)
unfolding put
put_each Q f n v own k other = go (k == n) refl
  where
    go : (b : Bool) → (k == n) ≡ b → Q k (if b then v else f k)
    go true e = subst (λ j. Q j v) (sym (eqb-true k n e)) own
    go false e = other

-- Steps and runs

-- a step that was made: its process lives and waits for nobody, the run was not over, and the
-- effect was applied
pub record Made (w : World) (m : Move) (w' : World) : Type 0 where
  pub process : Process
  pub lives : w.processes m.process ≡ Some process
  pub on : w.over ≡ false
  pub awake : waits w m.process ≡ false
  pub after : w' ≡ apply w m.process process (effect_of w m process)

pub step_made : (w w' : World) (m : Move) → step w m ≡ Some w' → Made w m w'
unfolding step may_step
step_made w w' m h = go (w.processes m.process) refl h
  where
    next : Process → World
    next r = apply w m.process r (effect_of w m r)

    go_on : (r : Process) → w.processes m.process ≡ Some r → (o s : Bool) → w.over ≡ o → waits w m.process ≡ s
        → option_map next (if o || s then None else Some r) ≡ Some w' → Made w m w'
    go_on r d true s a b g = absurd (none-some w' g)
    go_on r d false true a b g = absurd (none-some w' g)
    go_on r d false false a b g = record { process = r; lives = d; on = a; awake = b; after = sym (same_Some (next r) w' g) }

    go : (x : Option Process) → w.processes m.process ≡ x → option_map next (may_step w m x) ≡ Some w' → Made w m w'
    go None d g = absurd (none-some w' g)
    go (Some r) d g = go_on r d w.over (waits w m.process) refl refl g

-- a run keeps what each step keeps
pub run_keeps : (P : World → Type 0) → ((w w' : World) (m : Move) → P w → step w m ≡ Some w' → P w') → (moves : List Move) (w w' : World) → P w → run moves w ≡ Some w' → P w'
unfolding run
run_keeps P kept [] w w' ok h = subst P (same_Some w w' h) ok
run_keeps P kept (m ∷ ms) w w' ok h = option_and_then_some (run ms) (step w m) w' h (λ v d g. run_keeps P kept ms v w' (kept w v m ok d) g)

-- a live process that waits for nobody steps
pub has_step : (w : World) (m : Move) → w.over ≡ false → is_some (w.processes m.process) ≡ true → waits w m.process ≡ false → is_some (step w m) ≡ true
unfolding step may_step
has_step w m on lives awake = go (w.processes m.process) lives
  where
    go : (x : Option Process) → is_some x ≡ true → is_some (option_map (λ r. apply w m.process r (effect_of w m r)) (may_step w m x)) ≡ true
    go None h = cc
    go (Some r) h = rw (awake, on) refl

-- The order of processes

-- the process that waits for this one
unfoldable pub parent_of : Option Process → Option ℕ
parent_of o = option_and_then (λ r. r.parent) o

-- live processes have numbers below `next`, and their parents lower ones
pub record InOrder (processes : ℕ → Option Process) (next : ℕ) : Type 0 where
  pub below : (p : ℕ) → is_some (processes p) ≡ true → p < next
  pub parents : (p q : ℕ) → parent_of (processes p) ≡ Some q → q < p

abbrev pub Ordered : World → Type 0
Ordered w = InOrder w.processes w.next_process

put_ordered : (f : ℕ → Option Process) (n p next : ℕ) (o : Option Process) → InOrder f n → n ≤ next → p < next → ((q : ℕ) → parent_of o ≡ Some q → q < p) → InOrder (put f p o) next
put_ordered f n p next o h a b own =
    record {
      below = λ k. put_each (λ j v. is_some v ≡ true → j < next) f p o (λ s. b) k (λ s. let c : k < n = h.below k s in omega arith);
      parents = λ k q. put_each (λ j v. parent_of v ≡ Some q → q < j) f p o (own q) k (h.parents k q);
    }

stepped_parent : (w : World) (r : Process) (fs : Frames) (x : Option (ℕ × List Work)) (q : ℕ) → parent_of (stepped w r fs x) ≡ Some q → r.parent ≡ Some q
unfolding stepped parent_of
stepped_parent w r fs None q h = absurd (none-some q h)
stepped_parent w r fs (Some x) q h = h

-- frames are apart from processes
frames_apart : (P : (ℕ → Option Process) → ℕ → Type 0) (w : World) (ns : List ℕ) (fs : Frames)
    → P w.processes w.next_process → P (with_frames w ns fs).processes (with_frames w ns fs).next_process
unfolding with_frames
frames_apart P w [] (Keeps f) h = h
frames_apart P w (n ∷ ns) (Keeps f) h = h
frames_apart P w ns (Pushes f) h = h
frames_apart P w ns Pops h = h

start_ordered : (w : World) (p : ℕ) (r : Process) (x : Start) → p < w.next_process → Ordered w → Ordered (start w p r x)
unfolding start parent_of
start_ordered w p r (Shares ws) a h =
    put_ordered w.processes w.next_process w.next_process (suc w.next_process) _ h (omega arith) (omega arith) (λ q e. subst (λ k. k < w.next_process) (same_Some p q e) a)
start_ordered w p r (Copies e ws) a h =
    put_ordered w.processes w.next_process w.next_process (suc w.next_process) _ h (omega arith) (omega arith) (λ q e. absurd (none-some q e))

start_later : (w : World) (p : ℕ) (r : Process) (x : Start) → p < w.next_process → p < (start w p r x).next_process
unfolding start
start_later w p r (Shares ws) a = omega arith
start_later w p r (Copies e ws) a = omega arith

starts_ordered : (w : World) (p : ℕ) (r : Process) (xs : List Start) → p < w.next_process → Ordered w → Ordered (start_all w p r xs)
unfolding start_all
starts_ordered w p r [] a h = h
starts_ordered w p r (x ∷ xs) a h = starts_ordered (start w p r x) p r xs (start_later w p r x a) (start_ordered w p r x a h)

apply_ordered : (w : World) (p : ℕ) (r : Process) (x : Effect) → w.processes p ≡ Some r → Ordered w → Ordered (apply w p r x)
unfolding apply parent_of
apply_ordered w p r x d h =
    let v : World = with_environment w r.environment x.environment in
    let o : Option Process = stepped w r x.frames x.next in
    let a : p < w.next_process = h.below p (ap is_some d) in
    let own : (q : ℕ) → parent_of o ≡ Some q → q < p = λ q e. h.parents p q (ap parent_of d ∙ stepped_parent w r x.frames x.next q e) in
    starts_ordered (with_process (with_frames v r.frames x.frames) p o) p r x.starts
    (frames_apart (λ f n. p < n) v r.frames x.frames a)
    (frames_apart (λ f n. InOrder (put f p o) n) v r.frames x.frames (put_ordered w.processes w.next_process p w.next_process o h (le_refl w.next_process) a own))

step_ordered : (w w' : World) (m : Move) → Ordered w → step w m ≡ Some w' → Ordered w'
step_ordered w w' m h e =
    let s : Made w m w' = step_made w w' m e in
    subst Ordered (sym s.after) (apply_ordered w m.process s.process (effect_of w m s.process) s.lives h)

start_world_ordered : (e : Environment) (f : Frame) (t : p.Items) → Ordered (start_world e f t)
unfolding start_world parent_of
start_world_ordered e f t =
    put_ordered (λ n. None) 0 0 1 _ (record { below = λ p h. cc; parents = λ p q h. absurd (none-some q h) }) (omega arith) (omega arith) (λ q h. absurd (none-some q h))

-- in every world that a run comes to
pub run_ordered : (e : Environment) (f : Frame) (t : p.Items) (moves : List Move) (w : World) → run moves (start_world e f t) ≡ Some w → Ordered w
run_ordered e f t moves w h = run_keeps Ordered step_ordered moves (start_world e f t) w (start_world_ordered e f t) h

-- Who waits

none_below : (n : ℕ) (f : ℕ → Bool) → ((k : ℕ) → f k ≡ false) → any_below n f ≡ false
unfolding any_below
none_below zero f h = refl
none_below (suc n) f h = rw (h n) (none_below n f h)

parent_lives : (o : Option Process) (q : ℕ) → parent_of o ≡ Some q → is_some o ≡ true
unfolding parent_of
parent_lives None q h = absurd (none-some q h)
parent_lives (Some r) q h = refl

no_part : (o : Option Process) (p : ℕ) → ((q : ℕ) → parent_of o ≡ Some q → q ≢ p) → is_part_of p o ≡ false
unfolding is_part_of parent_of
no_part None p h = refl
no_part (Some r) p h = go r.parent h
  where
    go : (x : Option ℕ) → ((q : ℕ) → x ≡ Some q → q ≢ p) → unwrap_or (option_map (λ q. q == p) x) false ≡ false
    go None k = refl
    go (Some q) k = ne_eqb q p (k q refl)

-- a process that is the parent of no live process waits for nobody
pub nobody_waited : (w : World) (p : ℕ) → ((q : ℕ) (r : Process) → w.processes q ≡ Some r → r.parent ≡ Some p → ⊥) → waits w p ≡ false
unfolding waits parent_of
nobody_waited w p h = none_below w.next_process _ (λ k. no_part (w.processes k) p (λ q e d. go k (w.processes k) refl (e ∙ ap Some d)))
  where
    go : (k : ℕ) (o : Option Process) → w.processes k ≡ o → parent_of o ≡ Some p → ⊥
    go k None s e = none-some p e
    go k (Some r) s e = h k r s e

-- the process with the greatest number is nobody's parent
greatest_awake : (w : World) (n : ℕ) → Ordered w → ((p : ℕ) → is_some (w.processes p) ≡ true → p < suc n) → waits w n ≡ false
unfolding waits
greatest_awake w n h above = none_below w.next_process _ (λ k. no_part (w.processes k) n (λ q e d.
    let a : q < k = h.parents k q e in
    let b : k < suc n = above k (parent_lives (w.processes k) q e) in
    omega arith))

-- if a process lives, one lives that waits for nobody
pub some_awake : (w : World) (n : ℕ) → Ordered w → ((p : ℕ) → is_some (w.processes p) ≡ true → p < n) → (p : ℕ) → is_some (w.processes p) ≡ true
    → (q : ℕ) × (is_some (w.processes q) ≡ true) × (waits w q ≡ false)
some_awake w zero h above p lives = let a : p < 0 = above p lives in absurd (omega arith)
some_awake w (suc n) h above p lives = go (is_some (w.processes n)) refl (λ fewer. some_awake w n h fewer p lives)
  where
    Found : Type 0
    Found = (q : ℕ) × (is_some (w.processes q) ≡ true) × (waits w q ≡ false)

    go : (b : Bool) → is_some (w.processes n) ≡ b → (((q : ℕ) → is_some (w.processes q) ≡ true → q < n) → Found) → Found
    go true d less = (n, d, greatest_awake w n h above)
    go false d less = less (λ q s.
        let a : q < suc n = above q s in
        let b : q ≢ n = λ i. true≢false (sym s ∙ ap (λ k. is_some (w.processes k)) i ∙ d) in
        omega arith)
