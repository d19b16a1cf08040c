-- What holds of all live processes at once, up to the first event.
use Rattle.std.proofs.Common.{◌≡◌, ◌≢◌, ℕ, suc, ◌<◌, ◌≤◌, ◌==◌, ◌||◌, Bool, true, false, Option, Some, None, is_some, if◌then◌else◌, List, [], ◌∷◌, map, ◌⊎◌, inl, inr, refl, sym, ◌∙◌, ap, subst, arith, eqb-true, unwrap_or, option_map, option_and_then}
use Rattle.std.proofs.lemmas.Option.{same_Some, none-some}
use Rattle.sh_tree.specs.standard.program.Syntax.{Text}
use Rattle.sh_runs.specs.standard.runs.Answers.{Answer}
use Rattle.sh_runs.specs.standard.runs.Environment.{Environment, Frame}
use Rattle.sh_runs.specs.standard.runs.Steps.{act}
use Rattle.sh_runs.specs.standard.runs.Work.{Work, Start, Shares, Copies, Frames, Keeps, Pushes, Pops, Effect}
use Rattle.sh_runs.specs.standard.runs.Worlds.{Process, World, Move, put, innermost, waits, outer, frames_after, first_frame, with_frames, with_environment, with_process, stepped, start, start_all, apply, effect_of, may_step, step, run, has_unset_event, has_split_event}
use Rattle.sh_runs.proofs.WorldLemmas.{put_same, put_other, put_cases, Made, step_made}
use Rattle.sh_domain.specs.Entries.{Around}
use Rattle.sh_domain.specs.Facts.{Facts}
use Rattle.sh_domain.specs.Inclusions.{Each}
use Rattle.sh_domain.specs.Views.{Certificate, Seen}
use Rattle.sh_sound.specs.Holding.{Grows}
use Rattle.sh_sound.specs.Going.{front, frames_behind, FrameStays, Bodies, Stays, ProcessOk, StartOk, StartsOk, NextOk, StepOk}
use Rattle.sh_sound.specs.Sharing.{Among, Distinct, innermost_of, but_outermost, own_frames, IsPlaced, Sharing}
use Rattle.sh_sound.specs.Theorem.{splits}
use Rattle.sh_sound.proofs.HoldLemmas.{after_grows}
use Rattle.sh_sound.proofs.ListLemmas.{stays_grow}
use Rattle.sh_sound.proofs.SharingLemmas.{SharingOf, environment_alone, frame_alone, moves_shares, ends_shares, part_shares, copy_shares, put_apart, or_none}

-- Frames

front_innermost : (frames : ℕ → Frame) (ns : List ℕ) → innermost frames ns ≡ front (map frames ns)
unfolding innermost front
front_innermost frames [] = refl
front_innermost frames (n ∷ ns) = refl

-- what agrees on these numbers
same_on : (f g : ℕ → Frame) (ns : List ℕ) → ((k : ℕ) → Among k ns → f k ≡ g k) → map f ns ≡ map g ns
unfolding Among
same_on f g [] h = refl
same_on f g (n ∷ ns) h = let first : f n ≡ g n = h n (inl refl) in let rest : map f ns ≡ map g ns = same_on f g ns (λ k a. h k (inr a)) in rw (first, rest) refl

-- the frames of the process that steps
frames_match : (w : World) (ns : List ℕ) (fs : Frames) → Distinct ns → ((k : ℕ) → Among k ns → k < w.next_frame)
    → map (with_frames w ns fs).frames (frames_after w ns fs) ≡ frames_behind (map w.frames ns) fs
unfolding with_frames frames_after frames_behind Distinct outer
frames_match w [] (Keeps f) distinct below = refl
frames_match w (n ∷ ns) (Keeps f) distinct below =
    let rest : map (put w.frames n f) ns ≡ map w.frames ns = same_on (put w.frames n f) w.frames ns (λ k a. put_apart w.frames n f k (λ e. distinct.0 (subst (λ j. Among j ns) e a))) in
    rw (put_same w.frames n f, rest) refl
frames_match w [] (Pushes f) distinct below = rw (put_same w.frames w.next_frame f) refl
frames_match w (n ∷ ns) (Pushes f) distinct below =
    let rest : map (put w.frames w.next_frame f) (n ∷ ns) ≡ map w.frames (n ∷ ns) =
    same_on (put w.frames w.next_frame f) w.frames (n ∷ ns) (λ k a. put_apart w.frames w.next_frame f k (λ e. let l : k < w.next_frame = below k a in omega arith)) in
    rw (put_same w.frames w.next_frame f, rest) refl
frames_match w [] Pops distinct below = refl
frames_match w (n ∷ ns) Pops distinct below = refl

-- a frame that is not the process's own
lent_frame : (w : World) (ns : List ℕ) (fs : Frames) (parent : Option ℕ) (k : ℕ) → k < w.next_frame → (Among k (own_frames parent ns) → ⊥)
    → (is_some parent ≡ true → FrameStays (map w.frames ns) fs) → (with_frames w ns fs).frames k ≡ w.frames k
unfolding with_frames FrameStays Among own_frames but_outermost
lent_frame w [] (Keeps f) parent k l own stays = refl
lent_frame w (n ∷ []) (Keeps f) None k l own stays = put_apart w.frames n f k (λ e. own (inl e))
lent_frame w (n ∷ []) (Keeps f) (Some q) k l own stays = go (k == n) refl
  where
    go : (b : Bool) → (k == n) ≡ b → put w.frames n f k ≡ w.frames k
    go true e = let same : k ≡ n = eqb-true k n e in rw same (put_same w.frames n f ∙ stays refl)
    go false e = put_other w.frames n f k e
lent_frame w (n ∷ m ∷ ns) (Keeps f) None k l own stays = put_apart w.frames n f k (λ e. own (inl e))
lent_frame w (n ∷ m ∷ ns) (Keeps f) (Some q) k l own stays = put_apart w.frames n f k (λ e. own (inl e))
lent_frame w [] (Pushes f) parent k l own stays = put_apart w.frames w.next_frame f k (λ e. omega arith)
lent_frame w (n ∷ ns) (Pushes f) parent k l own stays = put_apart w.frames w.next_frame f k (λ e. omega arith)
lent_frame w [] Pops parent k l own stays = refl
lent_frame w (n ∷ ns) Pops parent k l own stays = refl

frames_more : (w : World) (ns : List ℕ) (fs : Frames) → w.next_frame ≤ (with_frames w ns fs).next_frame
unfolding with_frames
frames_more w [] (Keeps f) = omega arith
frames_more w (n ∷ ns) (Keeps f) = omega arith
frames_more w [] (Pushes f) = omega arith
frames_more w (n ∷ ns) (Pushes f) = omega arith
frames_more w [] Pops = omega arith
frames_more w (n ∷ ns) Pops = omega arith

-- frames are apart from environments and processes
processes_apart : (w : World) (ns : List ℕ) (fs : Frames) → (with_frames w ns fs).processes ≡ w.processes
unfolding with_frames
processes_apart w [] (Keeps f) = refl
processes_apart w (n ∷ ns) (Keeps f) = refl
processes_apart w [] (Pushes f) = refl
processes_apart w (n ∷ ns) (Pushes f) = refl
processes_apart w [] Pops = refl
processes_apart w (n ∷ ns) Pops = refl

environments_apart : (w : World) (ns : List ℕ) (fs : Frames) → (with_frames w ns fs).environments ≡ w.environments
unfolding with_frames
environments_apart w [] (Keeps f) = refl
environments_apart w (n ∷ ns) (Keeps f) = refl
environments_apart w [] (Pushes f) = refl
environments_apart w (n ∷ ns) (Pushes f) = refl
environments_apart w [] Pops = refl
environments_apart w (n ∷ ns) Pops = refl

numbers_apart : (w : World) (ns : List ℕ) (fs : Frames) → ((with_frames w ns fs).next_environment ≡ w.next_environment) × ((with_frames w ns fs).next_process ≡ w.next_process)
unfolding with_frames
numbers_apart w [] (Keeps f) = (refl, refl)
numbers_apart w (n ∷ ns) (Keeps f) = (refl, refl)
numbers_apart w [] (Pushes f) = (refl, refl)
numbers_apart w (n ∷ ns) (Pushes f) = (refl, refl)
numbers_apart w [] Pops = (refl, refl)
numbers_apart w (n ∷ ns) Pops = (refl, refl)

-- a frame or none
unfoldable has_front : List Frame → Bool
has_front [] = false
has_front (f ∷ fs) = true

front_numbered : (frames : ℕ → Frame) (ns : List ℕ) → has_front (map frames ns) ≡ is_some (innermost_of ns)
unfolding has_front innermost_of
front_numbered frames [] = refl
front_numbered frames (n ∷ ns) = refl

module _ (d : Facts) (c : Certificate) (defined : List Text) (SimpleAt : Around → Work → Seen → Type 0) where
  abbrev Well : Around → Environment → List Frame → ℕ → List Work → Type 0
  Well base e fs status ws = ProcessOk d c defined SimpleAt base e fs status ws

  abbrev Ok : Around → Environment → List Frame → ℕ → Effect → Type 0
  Ok base e fs status x = StepOk d c defined SimpleAt base e fs status x

  -- a live process is well, and drops nothing if it is a part
  pub record LivesWell (environments : ℕ → Environment) (frames : ℕ → Frame) (r : Process) : Type 0 where
    pub base : Around
    pub shares : is_some r.parent ≡ true → base.shares ≡ true
    pub well : Well base (environments r.environment) (map frames r.frames) r.status r.work

  pub record WorldWell (w : World) : Type 0 where
    pub sharing : SharingOf w
    pub lives : (p : ℕ) (r : Process) → w.processes p ≡ Some r → LivesWell w.environments w.frames r

  -- One process

  stays_framed : (callers : List Facts) (e : Environment) (fs : List Frame) → Stays d c defined SimpleAt callers e fs → has_front fs ≡ true
  unfolding Stays has_front
  stays_framed [] e [] h = cc
  stays_framed [] e (f ∷ fs) h = refl
  stays_framed (kept ∷ callers) e [] h = absurd h
  stays_framed (kept ∷ callers) e (f ∷ fs) h = refl

  well_grows : (base : Around) (e e' : Environment) (fs : List Frame) (status : ℕ) (ws : List Work) → Grows e e' → Bodies d c defined e'.functions → Well base e fs status ws → Well base e' fs status ws
  well_grows base e e' fs status ws g bodies h = record {
    known = h.known;
    callers = h.callers;
    good = h.good;
    holds = after_grows d c status h.known e e' (front fs) g h.holds;
    stays = stays_grow d c defined SimpleAt h.callers e e' fs g h.stays;
    bodies = bodies;
  }

  -- where its environment and its frames are the same
  lives_on : (environments environments' : ℕ → Environment) (frames frames' : ℕ → Frame) (r : Process) → environments' r.environment ≡ environments r.environment
      → ((k : ℕ) → Among k r.frames → frames' k ≡ frames k) → LivesWell environments frames r → LivesWell environments' frames' r
  lives_on environments environments' frames frames' r same same_frames h = record {
    base = h.base;
    shares = h.shares;
    well =
        subst (λ e. Well h.base e (map frames' r.frames) r.status r.work) (sym same)
        (subst (λ fs. Well h.base (environments r.environment) fs r.status r.work) (sym (same_on frames' frames r.frames same_frames)) h.well);
  }

  next_bodies : (base : Around) (e : Environment) (fs : List Frame) (next : Option (ℕ × List Work)) → NextOk d c defined SimpleAt base e fs next → Bodies d c defined e.functions
  unfolding NextOk
  next_bodies base e fs None h = h
  next_bodies base e fs (Some x) h = h.bodies

  -- The process steps

  module _ (w : World) (ok : WorldWell w) (p : ℕ) (r : Process) (lives : w.processes p ≡ Some r) (awake : waits w p ≡ false) (x : Effect) where
    abbrev it : LivesWell w.environments w.frames r
    it = ok.lives p r lives

    abbrev changed : World
    changed = with_environment w r.environment x.environment

    abbrev now : World
    now = with_frames changed r.frames x.frames

    abbrev Steps : Type 0
    Steps = Ok it.base (w.environments r.environment) (map w.frames r.frames) r.status x

    abbrev Next : Option (ℕ × List Work) → Type 0
    Next next = NextOk d c defined SimpleAt it.base x.environment (frames_behind (map w.frames r.frames) x.frames) next

    now_environments : (k : ℕ) → now.environments k ≡ put w.environments r.environment x.environment k
    now_environments k = ap (λ f. f k) (environments_apart changed r.frames x.frames)

    -- another process: its environment grows or is the same, and its frames are
    other_lives : Steps → Bodies d c defined x.environment.functions → (q : ℕ) (s : Process) → q ≢ p → w.processes q ≡ Some s → LivesWell now.environments now.frames s
    other_lives steps bodies q s apart f = go (s.environment == r.environment) refl
      where
        v : LivesWell w.environments w.frames s
        v = ok.lives q s f

        placed : IsPlaced w.processes w.next_environment w.next_frame w.next_process q s
        placed = ok.sharing.placed q s f

        same_frames : (k : ℕ) → Among k s.frames → now.frames k ≡ w.frames k
        same_frames k a =
            lent_frame changed r.frames x.frames r.parent k (placed.frames k a)
            (λ own. apart (frame_alone w ok.sharing p r lives awake k own (suc q) q s (omega arith) f a))
            (λ h. steps.frame (it.shares h))

        grows : s.environment ≡ r.environment → (parent : Option ℕ) → r.parent ≡ parent → Grows (w.environments r.environment) x.environment
        grows same None h = absurd (apart (environment_alone w ok.sharing p r lives awake h (suc q) q s (omega arith) f same))
        grows same (Some k) h = steps.grows (it.shares (ap is_some h))

        go : (b : Bool) → (s.environment == r.environment) ≡ b → LivesWell now.environments now.frames s
        go true h =
            let same : s.environment ≡ r.environment = eqb-true s.environment r.environment h in
            let new : now.environments s.environment ≡ x.environment = now_environments s.environment ∙ ap (put w.environments r.environment x.environment) same ∙ put_same w.environments r.environment x.environment in
            let old : w.environments s.environment ≡ w.environments r.environment = ap w.environments same in
            let here = subst (λ e. Well v.base e (map w.frames s.frames) s.status s.work) old v.well in
            let grown = well_grows v.base (w.environments r.environment) x.environment (map w.frames s.frames) s.status s.work (grows same r.parent refl) bodies here in
            record {
              base = v.base;
              shares = v.shares;
              well =
                  subst (λ e. Well v.base e (map now.frames s.frames) s.status s.work) (sym new)
                  (subst (λ fs. Well v.base x.environment fs s.status s.work) (sym (same_on now.frames w.frames s.frames same_frames)) grown);
            }
        go false h = lives_on w.environments now.environments w.frames now.frames s (now_environments s.environment ∙ put_other w.environments r.environment x.environment s.environment h) same_frames v

    others_live : Steps → Bodies d c defined x.environment.functions → (o : Option Process) → ((s : Process) → o ≡ Some s → LivesWell now.environments now.frames s)
        → (q : ℕ) (s : Process) → put now.processes p o q ≡ Some s → LivesWell now.environments now.frames s
    others_live steps bodies o own q s h = go (put_cases now.processes p o q (Some s) h)
      where
        go : ((q ≡ p) × (o ≡ Some s)) ⊎ ((q ≢ p) × (now.processes q ≡ Some s)) → LivesWell now.environments now.frames s
        go (inl a) = own s a.1
        go (inr a) = other_lives steps bodies q s a.0 (sym (ap (λ f. f q) (processes_apart changed r.frames x.frames)) ∙ a.1)

    shared_now : (o : Option Process) → Sharing (put w.processes p o) w.next_environment now.next_frame w.next_process → SharingOf (with_process now p o)
    shared_now o h = rw (processes_apart changed r.frames x.frames, (numbers_apart changed r.frames x.frames).0, (numbers_apart changed r.frames x.frames).1) h

    -- it goes on, or ends
    moved_well : Steps → (next : Option (ℕ × List Work)) → Next next → WorldWell (with_process now p (stepped w r x.frames next))
    unfolding NextOk stepped waits frames_after
    moved_well steps None bodies = record {
      sharing = shared_now None (ends_shares changed p x.frames r.frames ok.sharing awake (frames_more changed r.frames x.frames));
      lives = others_live steps bodies None (λ s e. absurd (none-some s e));
    }
    moved_well steps (Some y) well =
        let placed : IsPlaced w.processes w.next_environment w.next_frame w.next_process p r = ok.sharing.placed p r lives in
        let o : Option Process = stepped w r x.frames (Some y) in
        let match : map now.frames (frames_after w r.frames x.frames) ≡ frames_behind (map w.frames r.frames) x.frames = frames_match changed r.frames x.frames placed.distinct placed.frames in
        let framed : is_some (innermost_of (frames_after w r.frames x.frames)) ≡ true =
        sym (front_numbered now.frames (frames_after w r.frames x.frames)) ∙ ap has_front match ∙ stays_framed well.callers x.environment (frames_behind (map w.frames r.frames) x.frames) well.stays in
        let new : now.environments r.environment ≡ x.environment = now_environments r.environment ∙ put_same w.environments r.environment x.environment in
        let mine : LivesWell now.environments now.frames (record r { frames = frames_after w r.frames x.frames; status = y.0; work = y.1 }) = record {
          base = it.base;
          shares = it.shares;
          well =
              subst (λ e. Well it.base e (map now.frames (frames_after w r.frames x.frames)) y.0 y.1) (sym new)
              (subst (λ fs. Well it.base x.environment fs y.0 y.1) (sym match) well);
        } in
        record {
          sharing = shared_now o (moves_shares changed p r ok.sharing lives awake x.frames y.0 y.1 framed);
          lives = others_live steps well.bodies o (λ s e. subst (LivesWell now.environments now.frames) (same_Some _ s e) mine);
        }

  -- Processes are started

  -- who starts them, with this environment and innermost frame, and lives where it goes on
  record Starter (w : World) (p : ℕ) (r : Process) (e : Environment) (f : Frame) (next : Option (ℕ × List Work)) : Type 0 where
    lives : is_some next ≡ true → (s : Process) × (w.processes p ≡ Some s) × (s.environment ≡ r.environment) × (s.frames ≡ r.frames)
    process : p < w.next_process
    environment : r.environment < w.next_environment
    frames : (k : ℕ) → Among k r.frames → k < w.next_frame
    framed : is_some (innermost_of r.frames) ≡ true
    in_environment : w.environments r.environment ≡ e
    in_frame : innermost w.frames r.frames ≡ f

  first_mapped : (frames : ℕ → Frame) (ns : List ℕ) → is_some (innermost_of ns) ≡ true → map frames (first_frame ns) ≡ innermost frames ns ∷ []
  unfolding first_frame innermost innermost_of
  first_mapped frames [] h = cc
  first_mapped frames (n ∷ ns) h = refl

  innermost_same : (f g : ℕ → Frame) (ns : List ℕ) → ((k : ℕ) → Among k ns → f k ≡ g k) → innermost f ns ≡ innermost g ns
  unfolding innermost Among
  innermost_same f g [] h = refl
  innermost_same f g (n ∷ ns) h = h n (inl refl)

  -- a process comes
  pub put_lives : (processes : ℕ → Option Process) (environments : ℕ → Environment) (frames : ℕ → Frame) (n : ℕ) (new : Process) → LivesWell environments frames new
      → ((q : ℕ) (s : Process) → processes q ≡ Some s → LivesWell environments frames s) → (q : ℕ) (s : Process) → put processes n (Some new) q ≡ Some s → LivesWell environments frames s
  put_lives processes environments frames n new own others q s h = go (put_cases processes n (Some new) q (Some s) h)
    where
      go : ((q ≡ n) × (Some new ≡ Some s)) ⊎ ((q ≢ n) × (processes q ≡ Some s)) → LivesWell environments frames s
      go (inl a) = subst (LivesWell environments frames) (same_Some new s a.1) own
      go (inr a) = others q s a.1

  start_well : (w : World) (p : ℕ) (r : Process) (e : Environment) (f : Frame) (next : Option (ℕ × List Work)) (x : Start) → WorldWell w → Starter w p r e f next
      → StartOk d c defined SimpleAt e f r.status next x → WorldWell (start w p r x)
  unfolding start StartOk
  start_well w p r e f next (Shares ws) ok by h =
      let whole = by.lives h.0 in
      let new : Process = record { environment = r.environment; frames = first_frame r.frames; parent = Some p; status = r.status; work = ws } in
      let own : LivesWell w.environments w.frames new = record {
        base = h.1.0;
        shares = λ k. h.1.1;
        well =
            subst (λ v. Well h.1.0 v (map w.frames (first_frame r.frames)) r.status ws) (sym by.in_environment)
            (subst (λ fs. Well h.1.0 e fs r.status ws) (sym (first_mapped w.frames r.frames by.framed ∙ ap (λ g. g ∷ []) by.in_frame)) h.1.2);
      } in
      record {
        sharing = part_shares w p whole.0 r.environment r.frames r.status ws ok.sharing whole.1 whole.2 whole.3;
        lives = put_lives w.processes w.environments w.frames w.next_process new own ok.lives;
      }
  start_well w p r e f next (Copies v ws) ok by h =
      let new : Process = record { environment = w.next_environment; frames = w.next_frame ∷ []; parent = None; status = r.status; work = ws } in
      let g : Frame = innermost w.frames r.frames in
      let environments : ℕ → Environment = put w.environments w.next_environment v in
      let frames : ℕ → Frame = put w.frames w.next_frame g in
      let own : LivesWell environments frames new = record {
        base = h.0;
        shares = λ k. cc;
        well =
            subst (λ u. Well h.0 u (frames w.next_frame ∷ []) r.status ws) (sym (put_same w.environments w.next_environment v))
            (subst (λ u. Well h.0 v (u ∷ []) r.status ws) (sym (put_same w.frames w.next_frame g ∙ by.in_frame)) h.1);
      } in
      record {
        sharing = copy_shares w r.status ws ok.sharing;
        lives = put_lives w.processes environments frames w.next_process new own (λ q s k.
            let placed : IsPlaced w.processes w.next_environment w.next_frame w.next_process q s = ok.sharing.placed q s k in
            let l : s.environment < w.next_environment = placed.environment in
            lives_on w.environments environments w.frames frames s
            (put_apart w.environments w.next_environment v s.environment (omega arith))
            (λ n a. let m : n < w.next_frame = placed.frames n a in put_apart w.frames w.next_frame g n (omega arith))
            (ok.lives q s k));
      }

  starter_stays : (w : World) (p : ℕ) (r : Process) (e : Environment) (f : Frame) (next : Option (ℕ × List Work)) (x : Start) → Starter w p r e f next → Starter (start w p r x) p r e f next
  unfolding start
  starter_stays w p r e f next (Shares ws) by =
      let below : p < w.next_process = by.process in
      record {
        lives = λ h. let s = by.lives h in (s.0, put_apart w.processes w.next_process _ p (omega arith) ∙ s.1, s.2, s.3);
        process = omega arith;
        environment = by.environment;
        frames = by.frames;
        framed = by.framed;
        in_environment = by.in_environment;
        in_frame = by.in_frame;
      }
  starter_stays w p r e f next (Copies v ws) by =
      let below : p < w.next_process = by.process in
      let placed : r.environment < w.next_environment = by.environment in
      let g : Frame = innermost w.frames r.frames in
      record {
        lives = λ h. let s = by.lives h in (s.0, put_apart w.processes w.next_process _ p (omega arith) ∙ s.1, s.2, s.3);
        process = omega arith;
        environment = omega arith;
        frames = λ k a. let m : k < w.next_frame = by.frames k a in omega arith;
        framed = by.framed;
        in_environment = put_apart w.environments w.next_environment v r.environment (omega arith) ∙ by.in_environment;
        in_frame = innermost_same (put w.frames w.next_frame g) w.frames r.frames (λ k a. let m : k < w.next_frame = by.frames k a in put_apart w.frames w.next_frame g k (omega arith)) ∙ by.in_frame;
      }

  starts_well : (w : World) (p : ℕ) (r : Process) (e : Environment) (f : Frame) (next : Option (ℕ × List Work)) (xs : List Start) → WorldWell w → Starter w p r e f next
      → Each (StartOk d c defined SimpleAt e f r.status next) xs → WorldWell (start_all w p r xs)
  unfolding start_all Each
  starts_well w p r e f next [] ok by h = ok
  starts_well w p r e f next (x ∷ xs) ok by h =
      starts_well (start w p r x) p r e f next xs (start_well w p r e f next x ok by h.0) (starter_stays w p r e f next x by) h.1

  -- A step

  kept_frame : (w : World) (ns : List ℕ) (f : Frame) → is_some (innermost_of ns) ≡ true → innermost (with_frames w ns (Keeps f)).frames ns ≡ f
  unfolding with_frames innermost innermost_of
  kept_frame w [] f h = cc
  kept_frame w (n ∷ ns) f h = put_same w.frames n f

  effect_well : (w : World) (ok : WorldWell w) (p : ℕ) (r : Process) (lives : w.processes p ≡ Some r) → waits w p ≡ false → (x : Effect)
      → Ok (ok.lives p r lives).base (w.environments r.environment) (map w.frames r.frames) r.status x → x.split ≡ false → WorldWell (apply w p r x)
  unfolding apply start_all stepped frames_after StartsOk
  effect_well w ok p r lives awake x steps split =
      let all : WorldWell (start_all behind p r x.starts) = go x.frames refl steps.starts in
      record { sharing = all.sharing; lives = all.lives }
    where
      changed : World
      changed = with_environment w r.environment x.environment

      now : World
      now = with_frames changed r.frames x.frames

      behind : World
      behind = with_process now p (stepped w r x.frames x.next)

      well : WorldWell behind
      well = moved_well w ok p r lives awake x steps x.next (steps.next split)

      placed : IsPlaced w.processes w.next_environment w.next_frame w.next_process p r
      placed = ok.sharing.placed p r lives

      none : x.starts ≡ [] → WorldWell (start_all behind p r x.starts)
      none h = subst (λ xs. WorldWell (start_all behind p r xs)) (sym h) well

      starter : (f : Frame) → x.frames ≡ Keeps f → Starter behind p r x.environment f x.next
      starter f same = record {
        lives = λ h. goes_on x.next refl h;
        process = subst (λ n. p < n) (sym (numbers_apart changed r.frames x.frames).1) placed.process;
        environment = subst (λ n. r.environment < n) (sym (numbers_apart changed r.frames x.frames).0) placed.environment;
        frames = λ k a. let l : k < w.next_frame = placed.frames k a in let m : w.next_frame ≤ now.next_frame = frames_more changed r.frames x.frames in omega arith;
        framed = placed.framed;
        in_environment = now_environments w ok p r lives awake x r.environment ∙ put_same w.environments r.environment x.environment;
        in_frame = ap (λ k. innermost (with_frames changed r.frames k).frames r.frames) same ∙ kept_frame changed r.frames f placed.framed;
      }
        where
          goes_on : (next : Option (ℕ × List Work)) → x.next ≡ next → is_some x.next ≡ true → (s : Process) × (behind.processes p ≡ Some s) × (s.environment ≡ r.environment) × (s.frames ≡ r.frames)
          goes_on None e h = cc
          goes_on (Some y) e h = (
            record r { frames = frames_after w r.frames x.frames; status = y.0; work = y.1 },
            put_same now.processes p (stepped w r x.frames x.next) ∙ ap (stepped w r x.frames) e,
            refl,
            ap (frames_after w r.frames) same,
          )

      go : (fs : Frames) → x.frames ≡ fs → StartsOk d c defined SimpleAt x.environment fs r.status x.next x.starts → WorldWell (start_all behind p r x.starts)
      go (Keeps f) same h = starts_well behind p r x.environment f x.next x.starts well (starter f same) h
      go (Pushes f) same h = none h
      go Pops same h = none h

  -- Runs, if every step of a process keeps what `StepOk` says

  abbrev pub Kept : Type 0
  Kept = (base : Around) (e : Environment) (fs : List Frame) (status : ℕ) (ws : List Work) (a : Answer) → Well base e fs status ws → Ok base e fs status (act e (front fs) status ws a)

  module _ (kept : Kept) where
    effect_ok : (w : World) (ok : WorldWell w) (m : Move) (r : Process) (lives : w.processes m.process ≡ Some r)
        → Ok (ok.lives m.process r lives).base (w.environments r.environment) (map w.frames r.frames) r.status (effect_of w m r)
    unfolding effect_of
    effect_ok w ok m r lives =
        let it = ok.lives m.process r lives in
        subst (λ f. Ok it.base (w.environments r.environment) (map w.frames r.frames) r.status (act (w.environments r.environment) f r.status r.work m.answer)) (sym (front_innermost w.frames r.frames))
        (kept it.base (w.environments r.environment) (map w.frames r.frames) r.status r.work m.answer it.well)

    -- a step that is made and has no Split event
    whole_move : (w w' : World) (m : Move) (made : Made w m w') → has_split_event w m ≡ false → (effect_of w m made.process).split ≡ false
    unfolding has_split_event may_step
    whole_move w w' m made h = go (w.processes m.process) made.lives h
      where
        go : (o : Option Process) → o ≡ Some made.process → unwrap_or (option_map (λ r. (effect_of w m r).split) (may_step w m o)) false ≡ false → (effect_of w m made.process).split ≡ false
        go None e k = absurd (none-some made.process e)
        go (Some r) e k = let same : r ≡ made.process = same_Some r made.process e in on_move r same (w.over || waits w m.process) (rw (made.awake, made.on) refl) k
          where
            on_move : (r : Process) → r ≡ made.process → (b : Bool) → b ≡ false → unwrap_or (option_map (λ r. (effect_of w m r).split) (if b then None else Some r)) false ≡ false
                → (effect_of w m made.process).split ≡ false
            on_move r same true l k = cc
            on_move r same false l k = ap (λ s. (effect_of w m s).split) (sym same) ∙ k

    step_well : (w w' : World) (m : Move) → WorldWell w → has_split_event w m ≡ false → step w m ≡ Some w' → WorldWell w'
    step_well w w' m ok whole h =
        let made : Made w m w' = step_made w w' m h in
        subst WorldWell (sym made.after)
        (effect_well w ok m.process made.process made.lives made.awake (effect_of w m made.process) (effect_ok w ok m made.process made.lives) (whole_move w w' m made whole))

    pub run_well : (moves : List Move) (w w' : World) → WorldWell w → splits moves w ≡ false → run moves w ≡ Some w' → WorldWell w'
    unfolding run splits
    run_well [] w w' ok whole h = subst WorldWell (same_Some w w' h) ok
    run_well (m ∷ ms) w w' ok whole h = go (step w m) refl whole h (λ v good rest gone. run_well ms v w' good rest gone)
      where
        go : (o : Option World) → step w m ≡ o → (has_split_event w m || unwrap_or (option_map (splits ms) o) false) ≡ false → option_and_then (run ms) o ≡ Some w'
            → ((v : World) → WorldWell v → splits ms v ≡ false → run ms v ≡ Some w' → WorldWell w') → WorldWell w'
        go None e k g later = absurd (none-some w' g)
        go (Some v) e k g later =
            let parts = or_none (has_split_event w m) (splits ms v) k in
            later v (step_well w v m ok parts.0 e) parts.1 g

    pub no_unset_event : (w : World) (m : Move) → WorldWell w → has_unset_event w m ≡ false
    unfolding has_unset_event may_step
    no_unset_event w m ok = go (w.processes m.process) refl
      where
        on_move : (r : Process) → w.processes m.process ≡ Some r → (b : Bool) → unwrap_or (option_map (λ r. (effect_of w m r).unset) (if b then None else Some r)) false ≡ false
        on_move r e true = refl
        on_move r e false = (effect_ok w ok m r e).quiet

        go : (o : Option Process) → w.processes m.process ≡ o → unwrap_or (option_map (λ r. (effect_of w m r).unset) (may_step w m o)) false ≡ false
        go None e = refl
        go (Some r) e = on_move r e (w.over || waits w m.process)
