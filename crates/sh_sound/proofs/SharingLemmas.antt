-- Who shares what, in every world that a run comes to.
use Rattle.std.proofs.Common.{◌≡◌, ◌≢◌, ℕ, zero, suc, ◌<◌, ◌≤◌, ◌==◌, ◌||◌, Bool, true, false, Option, Some, None, is_some, List, [], ◌∷◌, ◌⊎◌, inl, inr, refl, sym, ◌∙◌, ap, subst, arith, eqb-true, eq-eqb}
use Rattle.std.proofs.lemmas.Option.{same_Some, none-some}
use Rattle.sh_runs.specs.standard.runs.Work.{Work, Frames, Keeps, Pushes, Pops}
use Rattle.sh_runs.specs.standard.runs.Worlds.{Process, World, put, is_part_of, any_below, waits, outer, frames_after, with_frames, first_frame}
use Rattle.sh_runs.proofs.WorldLemmas.{put_other, put_cases}
use Rattle.sh_sound.specs.Sharing.{Among, Distinct, innermost_of, outermost_of, but_outermost, own_frames, IsPart, IsPlaced, Sharing}

-- Numbers of frames

among_but : (k : ℕ) (ns : List ℕ) → Among k (but_outermost ns) → Among k ns
unfolding Among but_outermost
among_but k [] h = h
among_but k (n ∷ []) h = absurd h
among_but k (n ∷ m ∷ ns) (inl e) = inl e
among_but k (n ∷ m ∷ ns) (inr h) = inr (among_but k (m ∷ ns) h)

but_or_outermost : (k : ℕ) (ns : List ℕ) → Among k ns → Among k (but_outermost ns) ⊎ (outermost_of ns ≡ Some k)
unfolding Among but_outermost outermost_of
but_or_outermost k [] h = absurd h
but_or_outermost k (n ∷ []) (inl e) = inr (ap Some (sym e))
but_or_outermost k (n ∷ []) (inr h) = absurd h
but_or_outermost k (n ∷ m ∷ ns) (inl e) = inl (inl e)
but_or_outermost k (n ∷ m ∷ ns) (inr h) = elim (but_or_outermost k (m ∷ ns) h) [ inl a ↦ inl (inr a) | inr b ↦ inr b ]

own_among : (parent : Option ℕ) (ns : List ℕ) (k : ℕ) → Among k (own_frames parent ns) → Among k ns
unfolding own_frames
own_among None ns k h = h
own_among (Some q) ns k h = among_but k ns h

innermost_among : (k : ℕ) (ns : List ℕ) → innermost_of ns ≡ Some k → Among k ns
unfolding Among innermost_of
innermost_among k [] h = absurd (none-some k h)
innermost_among k (n ∷ ns) h = inl (sym (same_Some n k h))

-- the frame is the outermost one, which the process has from its parent
record Borrowed (parent : Option ℕ) (ns : List ℕ) (k : ℕ) : Type 0 where
  whole : ℕ
  part : parent ≡ Some whole
  outermost : outermost_of ns ≡ Some k

own_or_borrowed : (parent : Option ℕ) (ns : List ℕ) (k : ℕ) → Among k ns → Among k (own_frames parent ns) ⊎ Borrowed parent ns k
unfolding own_frames
own_or_borrowed None ns k h = inl h
own_or_borrowed (Some q) ns k h = elim (but_or_outermost k ns h) [ inl a ↦ inl a | inr b ↦ inr (record { whole = q; part = refl; outermost = b }) ]

-- Who waits

pub or_none : (a b : Bool) → (a || b) ≡ false → (a ≡ false) × (b ≡ false)
or_none true b h = cc
or_none false b h = (refl, h)

below_none : (n : ℕ) (f : ℕ → Bool) → any_below n f ≡ false → (k : ℕ) → k < n → f k ≡ false
unfolding any_below
below_none zero f h k l = absurd (omega arith)
below_none (suc n) f h k l = go (k == n) refl (below_none n f (or_none (f n) (any_below n f) h).1 k)
  where
    go : (b : Bool) → (k == n) ≡ b → (k < n → f k ≡ false) → f k ≡ false
    go true e ih = ap f (eqb-true k n e) ∙ (or_none (f n) (any_below n f) h).0
    go false e ih = let apart : k ≢ n = λ d. cc (eq-eqb k n d) in ih (omega arith)

part_waits : (w : World) (p q : ℕ) (r : Process) → q < w.next_process → w.processes q ≡ Some r → r.parent ≡ Some p → waits w p ≡ false → ⊥
unfolding waits is_part_of
part_waits w p q r l e h n = cc (below_none w.next_process (λ q. is_part_of p (w.processes q)) n q l, is_it)
  where
    is_it : is_part_of p (w.processes q) ≡ true
    is_it = rw (e, h, eq-eqb p p refl) refl

abbrev pub SharingOf : World → Type 0
SharingOf w = Sharing w.processes w.next_environment w.next_frame w.next_process

-- Who does not wait shares what is its own with nobody

module _ (w : World) (ok : SharingOf w) (p : ℕ) (r : Process) (lives : w.processes p ≡ Some r) (awake : waits w p ≡ false) where
  pub environment_alone : r.parent ≡ None → (m q : ℕ) (s : Process) → q < m → w.processes q ≡ Some s → s.environment ≡ r.environment → q ≡ p
  environment_alone o zero q s l f g = absurd (omega arith)
  environment_alone o (suc m) q s l f g = go s.parent refl (λ q' s' l' f' g'. environment_alone o m q' s' l' f' g')
    where
      go : (x : Option ℕ) → s.parent ≡ x → ((q' : ℕ) (s' : Process) → q' < m → w.processes q' ≡ Some s' → s'.environment ≡ r.environment → q' ≡ p) → q ≡ p
      go None d ih = ok.environment q p s r f lives d o g
      go (Some q') d ih =
          let v : IsPart w.processes q s q' = (ok.placed q s f).part q' d in
          let same : q' ≡ p = ih q' v.whole (let h : q' < q = v.older in omega arith) v.lives (v.environment ∙ g) in
          absurd (part_waits w p q s (ok.placed q s f).process f (d ∙ ap Some same) awake)

  pub frame_alone : (k : ℕ) → Among k (own_frames r.parent r.frames) → (m q : ℕ) (s : Process) → q < m → w.processes q ≡ Some s → Among k s.frames → q ≡ p
  frame_alone k own zero q s l f g = absurd (omega arith)
  frame_alone k own (suc m) q s l f g = go (own_or_borrowed s.parent s.frames k g) (λ q' s' l' f' g'. frame_alone k own m q' s' l' f' g')
    where
      go : Among k (own_frames s.parent s.frames) ⊎ Borrowed s.parent s.frames k → ((q' : ℕ) (s' : Process) → q' < m → w.processes q' ≡ Some s' → Among k s'.frames → q' ≡ p) → q ≡ p
      go (inl a) ih = ok.frame q p s r f lives k a own
      go (inr b) ih =
          let v : IsPart w.processes q s b.whole = (ok.placed q s f).part b.whole b.part in
          let same : b.whole ≡ p = ih b.whole v.whole (let h : b.whole < q = v.older in omega arith) v.lives (innermost_among k v.whole.frames (sym v.frame ∙ b.outermost)) in
          absurd (part_waits w p q s (ok.placed q s f).process f (b.part ∙ ap Some same) awake)

-- A process changes, ends or comes

-- what a new process at p needs beside the others
record Fits (processes : ℕ → Option Process) (p : ℕ) (r : Process) : Type 0 where
  environment : (q : ℕ) (s : Process) → q ≢ p → processes q ≡ Some s → r.parent ≡ None → s.parent ≡ None → r.environment ≡ s.environment → ⊥
  frame : (q : ℕ) (s : Process) → q ≢ p → processes q ≡ Some s → (k : ℕ) → Among k (own_frames r.parent r.frames) → Among k (own_frames s.parent s.frames) → ⊥

pub put_apart : {A : Type 0} (f : ℕ → A) (n : ℕ) (v : A) (k : ℕ) → k ≢ n → put f n v k ≡ f k
put_apart f n v k h = put_other f n v k (go (k == n) refl)
  where
    go : (b : Bool) → (k == n) ≡ b → (k == n) ≡ false
    go true e = absurd (h (eqb-true k n e))
    go false e = e

module _ (processes : ℕ → Option Process) (environments frames next environments' frames' next' : ℕ) (more_environments : environments ≤ environments') (more_frames : frames ≤ frames') (more : next ≤ next') where
  -- a part stays one where its whole is another process than the one that changes
  part_stays : (p q : ℕ) (o : Option Process) (s : Process) (q' : ℕ) → q' ≢ p → IsPart processes q s q' → IsPart (put processes p o) q s q'
  part_stays p q o s q' n h = record { whole = h.whole; lives = put_apart processes p o q' n ∙ h.lives; older = h.older; environment = h.environment; frame = h.frame }

  put_shares : (p : ℕ) (o : Option Process) → Sharing processes environments frames next
      → ((q : ℕ) (s : Process) → processes q ≡ Some s → s.parent ≡ Some p → ⊥)
      → ((r : Process) → o ≡ Some r → IsPlaced (put processes p o) environments' frames' next' p r)
      → ((r : Process) → o ≡ Some r → Fits processes p r)
      → Sharing (put processes p o) environments' frames' next'
  put_shares p o ok free own fits = record { placed = placed; environment = environment; frame = frame }
    where
      Cases : ℕ → Process → Type 0
      Cases q s = ((q ≡ p) × (o ≡ Some s)) ⊎ ((q ≢ p) × (processes q ≡ Some s))

      cases : (q : ℕ) (s : Process) → put processes p o q ≡ Some s → Cases q s
      cases q s h = put_cases processes p o q (Some s) h

      placed : (q : ℕ) (s : Process) → put processes p o q ≡ Some s → IsPlaced (put processes p o) environments' frames' next' q s
      placed q s h = go (cases q s h)
        where
          go : Cases q s → IsPlaced (put processes p o) environments' frames' next' q s
          go (inl a) = subst (λ k. IsPlaced (put processes p o) environments' frames' next' k s) (sym a.0) (own s a.1)
          go (inr a) =
              let v : IsPlaced processes environments frames next q s = ok.placed q s a.1 in
              let l : q < next = v.process in
              let m : s.environment < environments = v.environment in
              record {
                process = omega arith;
                environment = omega arith;
                frames = λ k b. let g : k < frames = v.frames k b in omega arith;
                framed = v.framed;
                distinct = v.distinct;
                part = λ q' b. part_stays p q o s q' (λ d. free q s a.1 (b ∙ ap Some d)) (v.part q' b);
              }

      environment : (q q' : ℕ) (s s' : Process) → put processes p o q ≡ Some s → put processes p o q' ≡ Some s' → s.parent ≡ None → s'.parent ≡ None → s.environment ≡ s'.environment → q ≡ q'
      environment q q' s s' h h' d d' g = go (cases q s h) (cases q' s' h')
        where
          go : Cases q s → Cases q' s' → q ≡ q'
          go (inl a) (inl b) = a.0 ∙ sym b.0
          go (inl a) (inr b) = absurd ((fits s a.1).environment q' s' b.0 b.1 d d' g)
          go (inr a) (inl b) = absurd ((fits s' b.1).environment q s a.0 a.1 d' d (sym g))
          go (inr a) (inr b) = ok.environment q q' s s' a.1 b.1 d d' g

      frame : (q q' : ℕ) (s s' : Process) → put processes p o q ≡ Some s → put processes p o q' ≡ Some s' → (k : ℕ) → Among k (own_frames s.parent s.frames) → Among k (own_frames s'.parent s'.frames) → q ≡ q'
      frame q q' s s' h h' k d d' = go (cases q s h) (cases q' s' h')
        where
          go : Cases q s → Cases q' s' → q ≡ q'
          go (inl a) (inl b) = a.0 ∙ sym b.0
          go (inl a) (inr b) = absurd ((fits s a.1).frame q' s' b.0 b.1 k d d')
          go (inr a) (inl b) = absurd ((fits s' b.1).frame q s a.0 a.1 k d' d)
          go (inr a) (inr b) = ok.frame q q' s s' a.1 b.1 k d d'

-- What a step makes of the frames of its process: the outermost one stays, and what is new is new

record Follows (next next' : ℕ) (ns ms : List ℕ) : Type 0 where
  known : (k : ℕ) → Among k ms → Among k ns ⊎ ((next ≤ k) × (k < next'))
  framed : is_some (innermost_of ms) ≡ true
  distinct : Distinct ms
  outermost : outermost_of ms ≡ outermost_of ns
  own : (parent : Option ℕ) (k : ℕ) → Among k (own_frames parent ms) → Among k (own_frames parent ns) ⊎ (next ≤ k)
  more : next ≤ next'

follows_same : (next : ℕ) (ns : List ℕ) → is_some (innermost_of ns) ≡ true → Distinct ns → Follows next next ns ns
follows_same next ns framed distinct =
    record { known = λ k h. inl h; framed = framed; distinct = distinct; outermost = refl; own = λ parent k h. inl h; more = omega arith }

follows_pushed : (next n : ℕ) (ns : List ℕ) → ((k : ℕ) → Among k (n ∷ ns) → k < next) → Distinct (n ∷ ns) → Follows next (suc next) (n ∷ ns) (next ∷ n ∷ ns)
unfolding Among Distinct innermost_of outermost_of but_outermost own_frames
follows_pushed next n ns below distinct = record { known = known; framed = refl; distinct = ((λ h. let l : next < next = below next h in omega arith), distinct); outermost = refl; own = own; more = omega arith }
  where
    known : (k : ℕ) → Among k (next ∷ n ∷ ns) → Among k (n ∷ ns) ⊎ ((next ≤ k) × (k < suc next))
    known k (inl e) = inr (omega arith, omega arith)
    known k (inr h) = inl h

    own : (parent : Option ℕ) (k : ℕ) → Among k (own_frames parent (next ∷ n ∷ ns)) → Among k (own_frames parent (n ∷ ns)) ⊎ (next ≤ k)
    own None k (inl e) = inr (omega arith)
    own None k (inr h) = inl h
    own (Some q) k (inl e) = inr (omega arith)
    own (Some q) k (inr h) = inl h

follows_popped : (next n m : ℕ) (ns : List ℕ) → Distinct (n ∷ m ∷ ns) → Follows next next (n ∷ m ∷ ns) (m ∷ ns)
unfolding Among Distinct innermost_of outermost_of but_outermost own_frames
follows_popped next n m ns distinct = record { known = λ k h. inl (inr h); framed = refl; distinct = distinct.1; outermost = refl; own = own; more = omega arith }
  where
    own : (parent : Option ℕ) (k : ℕ) → Among k (own_frames parent (m ∷ ns)) → Among k (own_frames parent (n ∷ m ∷ ns)) ⊎ (next ≤ k)
    own None k h = inl (inr h)
    own (Some q) k h = inl (inr h)

frames_follow : (w : World) (ns : List ℕ) (fs : Frames) → ((k : ℕ) → Among k ns → k < w.next_frame) → is_some (innermost_of ns) ≡ true → Distinct ns
    → is_some (innermost_of (frames_after w ns fs)) ≡ true → Follows w.next_frame (with_frames w ns fs).next_frame ns (frames_after w ns fs)
unfolding frames_after with_frames innermost_of outer
frames_follow w [] fs below framed distinct after = cc
frames_follow w (n ∷ ns) (Keeps f) below framed distinct after = follows_same w.next_frame (n ∷ ns) framed distinct
frames_follow w (n ∷ ns) (Pushes f) below framed distinct after = follows_pushed w.next_frame n ns below distinct
frames_follow w (n ∷ []) Pops below framed distinct after = cc
frames_follow w (n ∷ m ∷ ns) Pops below framed distinct after = follows_popped w.next_frame n m ns distinct

-- The four ways in which processes change

abbrev moved : World → Process → Frames → ℕ → List Work → Process
moved w r fs status ws = record r { frames = frames_after w r.frames fs; status = status; work = ws }

pub moves_shares : (w : World) (p : ℕ) (r : Process) → SharingOf w → w.processes p ≡ Some r → waits w p ≡ false → (fs : Frames) (status : ℕ) (ws : List Work)
    → is_some (innermost_of (frames_after w r.frames fs)) ≡ true
    → Sharing (put w.processes p (Some (moved w r fs status ws))) w.next_environment (with_frames w r.frames fs).next_frame w.next_process
moves_shares w p r ok lives awake fs status ws framed =
    put_shares w.processes w.next_environment w.next_frame w.next_process w.next_environment (with_frames w r.frames fs).next_frame w.next_process
    (omega arith) follows.more (omega arith) p (Some now) ok
    (λ q s f d. part_waits w p q s (ok.placed q s f).process f d awake)
    (λ s e. subst (IsPlaced (put w.processes p (Some now)) w.next_environment (with_frames w r.frames fs).next_frame w.next_process p) (same_Some now s e) here)
    (λ s e. subst (Fits w.processes p) (same_Some now s e) fits)
  where
    now : Process
    now = moved w r fs status ws

    it : IsPlaced w.processes w.next_environment w.next_frame w.next_process p r
    it = ok.placed p r lives

    follows : Follows w.next_frame (with_frames w r.frames fs).next_frame r.frames now.frames
    follows = frames_follow w r.frames fs it.frames it.framed it.distinct framed

    below : (k : ℕ) → Among k now.frames → k < (with_frames w r.frames fs).next_frame
    below k h = elim (follows.known k h) [
      | inl a ↦ let b : k < w.next_frame = it.frames k a in let c : w.next_frame ≤ (with_frames w r.frames fs).next_frame = follows.more in omega arith
      | inr a ↦ a.1
    ]

    here : IsPlaced (put w.processes p (Some now)) w.next_environment (with_frames w r.frames fs).next_frame w.next_process p now
    here = record {
      process = it.process;
      environment = it.environment;
      frames = below;
      framed = framed;
      distinct = follows.distinct;
      part = λ q d.
          let v : IsPart w.processes p r q = it.part q d in
          let older : q < p = v.older in
          record { whole = v.whole; lives = put_apart w.processes p (Some now) q (omega arith) ∙ v.lives; older = v.older; environment = v.environment; frame = follows.outermost ∙ v.frame };
    }

    fits : Fits w.processes p now
    fits = record {
      environment = λ q s n f d d' g. n (sym (ok.environment p q r s lives f d d' g));
      frame = λ q s n f k a b. elim (follows.own r.parent k a) [
        | inl c ↦ n (sym (ok.frame p q r s lives f k c b))
        | inr c ↦ let l : k < w.next_frame = (ok.placed q s f).frames k (own_among s.parent s.frames k b) in absurd (omega arith)
      ];
    }

pub ends_shares : (w : World) (p : ℕ) (fs : Frames) (ns : List ℕ) → SharingOf w → waits w p ≡ false → w.next_frame ≤ (with_frames w ns fs).next_frame
    → Sharing (put w.processes p None) w.next_environment (with_frames w ns fs).next_frame w.next_process
ends_shares w p fs ns ok awake more =
    put_shares w.processes w.next_environment w.next_frame w.next_process w.next_environment (with_frames w ns fs).next_frame w.next_process
    (omega arith) more (omega arith) p None ok
    (λ q s f d. part_waits w p q s (ok.placed q s f).process f d awake)
    (λ s e. absurd (none-some s e))
    (λ s e. absurd (none-some s e))

-- nobody is a part of a process to come
none_yet : (w : World) → SharingOf w → (q : ℕ) (s : Process) → w.processes q ≡ Some s → s.parent ≡ Some w.next_process → ⊥
none_yet w ok q s f d =
    let v = ok.placed q s f in
    let a : w.next_process < q = (v.part w.next_process d).older in
    let b : q < w.next_process = v.process in
    omega arith

first_outermost : (ns : List ℕ) → outermost_of (first_frame ns) ≡ innermost_of ns
unfolding outermost_of first_frame innermost_of
first_outermost [] = refl
first_outermost (n ∷ ns) = refl

first_framed : (ns : List ℕ) → is_some (innermost_of ns) ≡ true → is_some (innermost_of (first_frame ns)) ≡ true
unfolding first_frame innermost_of
first_framed [] h = h
first_framed (n ∷ ns) h = refl

first_distinct : (ns : List ℕ) → Distinct (first_frame ns)
unfolding first_frame Distinct Among
first_distinct [] = tt
first_distinct (n ∷ ns) = (λ h. h, tt)

first_among : (ns : List ℕ) (k : ℕ) → Among k (first_frame ns) → Among k ns
unfolding first_frame Among
first_among [] k h = h
first_among (n ∷ ns) k (inl e) = inl e
first_among (n ∷ ns) k (inr h) = absurd h

first_lent : (ns : List ℕ) (k : ℕ) → Among k (but_outermost (first_frame ns)) → ⊥
unfolding first_frame Among but_outermost
first_lent [] k h = h
first_lent (n ∷ ns) k h = h

pub part_shares : (w : World) (p : ℕ) (r : Process) (environment : ℕ) (frames : List ℕ) (status : ℕ) (ws : List Work) → SharingOf w → w.processes p ≡ Some r
    → r.environment ≡ environment → r.frames ≡ frames
    → Sharing (put w.processes w.next_process (Some (record { environment = environment; frames = first_frame frames; parent = Some p; status = status; work = ws }))) w.next_environment w.next_frame (suc w.next_process)
unfolding own_frames
part_shares w p r environment frames status ws ok lives same_environment same_frames =
    put_shares w.processes w.next_environment w.next_frame w.next_process w.next_environment w.next_frame (suc w.next_process)
    (omega arith) (omega arith) (omega arith) w.next_process (Some new) ok (none_yet w ok)
    (λ s e. subst (IsPlaced (put w.processes w.next_process (Some new)) w.next_environment w.next_frame (suc w.next_process) w.next_process) (same_Some new s e) here)
    (λ s e. subst (Fits w.processes w.next_process) (same_Some new s e) fits)
  where
    new : Process
    new = record { environment = environment; frames = first_frame frames; parent = Some p; status = status; work = ws }

    it : IsPlaced w.processes w.next_environment w.next_frame w.next_process p r
    it = ok.placed p r lives

    here : IsPlaced (put w.processes w.next_process (Some new)) w.next_environment w.next_frame (suc w.next_process) w.next_process new
    here = record {
      process = omega arith;
      environment = subst (λ n. n < w.next_environment) same_environment it.environment;
      frames = λ k h. it.frames k (subst (Among k) (sym same_frames) (first_among frames k h));
      framed = first_framed frames (subst (λ ns. is_some (innermost_of ns) ≡ true) same_frames it.framed);
      distinct = first_distinct frames;
      part = λ q d.
          let older : p < w.next_process = it.process in
          let whole : IsPart (put w.processes w.next_process (Some new)) w.next_process new p = record {
            whole = r;
            lives = put_apart w.processes w.next_process (Some new) p (omega arith) ∙ lives;
            older = older;
            environment = same_environment;
            frame = first_outermost frames ∙ ap innermost_of (sym same_frames);
          } in
          subst (IsPart (put w.processes w.next_process (Some new)) w.next_process new) (same_Some p q d) whole;
    }

    fits : Fits w.processes w.next_process new
    fits = record { environment = λ q s n f d d' g. absurd (none-some p (sym d)); frame = λ q s n f k a b. first_lent frames k a }

pub copy_shares : (w : World) (status : ℕ) (ws : List Work) → SharingOf w
    → Sharing (put w.processes w.next_process (Some (record { environment = w.next_environment; frames = w.next_frame ∷ []; parent = None; status = status; work = ws })))
    (suc w.next_environment) (suc w.next_frame) (suc w.next_process)
unfolding own_frames Among Distinct innermost_of
copy_shares w status ws ok =
    put_shares w.processes w.next_environment w.next_frame w.next_process (suc w.next_environment) (suc w.next_frame) (suc w.next_process)
    (omega arith) (omega arith) (omega arith) w.next_process (Some new) ok (none_yet w ok)
    (λ s e. subst (IsPlaced (put w.processes w.next_process (Some new)) (suc w.next_environment) (suc w.next_frame) (suc w.next_process) w.next_process) (same_Some new s e) here)
    (λ s e. subst (Fits w.processes w.next_process) (same_Some new s e) fits)
  where
    new : Process
    new = record { environment = w.next_environment; frames = w.next_frame ∷ []; parent = None; status = status; work = ws }

    below : (k : ℕ) → Among k (w.next_frame ∷ []) → k < suc w.next_frame
    below k (inl e) = omega arith
    below k (inr h) = absurd h

    here : IsPlaced (put w.processes w.next_process (Some new)) (suc w.next_environment) (suc w.next_frame) (suc w.next_process) w.next_process new
    here = record {
      process = omega arith;
      environment = omega arith;
      frames = below;
      framed = refl;
      distinct = (λ h. h, tt);
      part = λ q d. absurd (none-some q d);
    }

    other : (q : ℕ) (s : Process) → w.processes q ≡ Some s → (k : ℕ) → Among k (w.next_frame ∷ []) → Among k (own_frames s.parent s.frames) → ⊥
    other q s f k (inl e) b = let l : k < w.next_frame = (ok.placed q s f).frames k (own_among s.parent s.frames k b) in omega arith
    other q s f k (inr h) b = h

    fits : Fits w.processes w.next_process new
    fits = record {
      environment = λ q s n f d d' g. let l : s.environment < w.next_environment = (ok.placed q s f).environment in omega arith;
      frame = λ q s n f k a b. other q s f k a b;
    }
