-- Steps of a call: its redirections, its prefix assignments, and the entry of the function.
use Rattle.std.proofs.Common.{◌≡◌, ℕ, ◌&&◌, ◌||◌, Bool, true, false, if◌then◌else◌, List, [], ◌∷◌, Option, Some, None, is_some, bytes_eq, ◌⊎◌, inl, inr, refl, sym, ap, ◌∙◌, subst, true≢false}
use Rattle.std.proofs.lemmas.Bool.{or_cases, or_left, or_right}
use Rattle.std.proofs.lemmas.Slice.Eq.{bytes_eq-Decides}
use Rattle.sh_tree.specs.standard.language.Bytes.{is_name}
use Rattle.sh_tree.proofs.ListLemmas.{text_same}
use Rattle.sh_runs.proofs.PositionLemmas.{bytes_eq_swap}
use Rattle.sh_tree.specs.standard.program.Syntax as p
use Rattle.sh_tree.specs.standard.program.Syntax.{Text}
use Rattle.sh_tree.specs.standard.program.Words.{Assignments}
use Rattle.sh_runs.specs.standard.runs.Answers.{Answer}
use Rattle.sh_runs.specs.standard.runs.Builtins.{nonzero, restored}
use Rattle.sh_runs.specs.standard.runs.Environment.{Environment, Frame, is_one_of, put_text, with_variable, hiding}
use Rattle.sh_runs.specs.standard.runs.Expansion.{in_one, Outcome, pieces_text, expand}
use Rattle.sh_runs.specs.standard.runs.States.{State, fresh}
use Rattle.sh_runs.specs.standard.runs.Steps.{Named, opened, status_behind, failed_in, redirected, unless_ended, assignment, call, act_on}
use Rattle.sh_runs.specs.standard.runs.Steps as steps
use Rattle.sh_runs.specs.standard.runs.Work.{Saved, Work, Command, Call, Return, Pushes, Effect, goes, ends, after_expansion}
use Rattle.sh_runs.proofs.EnvironmentLemmas.{if_either, hiding_kept}
use Rattle.sh_domain.specs.Entries.{Around}
use Rattle.sh_domain.specs.Facts.{Facts, NotReached, Known, Variable, claims}
use Rattle.sh_domain.specs.Gains.{no_gains, named, word_gains}
use Rattle.sh_domain.specs.Inclusions as i
use Rattle.sh_domain.specs.Inclusions.{MayDrop, behind}
use Rattle.sh_domain.specs.Table.{is_redirected, prefixes}
use Rattle.sh_domain.specs.Views.{Certificate, AfterNonzero, Entry, Seen, After, Both, if_nonzero, in_any_case, after_command, at, gaining_names}
use Rattle.sh_sound.specs.Holding.{Holds, Grows, OneHolds, Expanded, AfterHolds}
use Rattle.sh_sound.specs.Going.{around, unset_before, front, frames_behind, FrameStays, OfFirst, Bodies, FrontGood, Good, GoodIn, Stays, ProcessOk, NextOk, StartsOk, StepOk}
use Rattle.sh_sound.specs.Doing.{names_of, behind_facts, EachOpened, EachValue, CallStage, SimpleAt}
use Rattle.sh_sound.proofs.HoldLemmas.{grows_refl, grows_trans, holds_grow, has_nothing, one_grows, covers_at, gain_holds, holds_gain, any_holds, both_holds}
use Rattle.sh_sound.proofs.ExpansionLemmas.{has_name, assigned_grows, assigned_set}
use Rattle.sh_sound.proofs.ListLemmas.{frame_stays, step_goes, step_ends, leads_same, nonzero_holds}
use Rattle.sh_sound.proofs.StepLemmas.{Plain, goes_plain, ends_plain, word_expands, expanded_ok, unless_ok, grown}
use Rattle.sh_sound.proofs.CompoundLemmas.{is_nonzero}
use Rattle.sh_sound.proofs.CaseLemmas.{gain_two}
use Rattle.sh_sound.proofs.ChangeLemmas.{grows_spares}
use Rattle.sh_sound.proofs.SpecialLemmas.{drops_ok}
use Rattle.sh_sound.proofs.DropLemmas.{Spares, unset_names, spares_grow, apart_holds, restored_spares, restored_functions, quiet_drop}
use Rattle.sh_sound.proofs.CallLemmas.{kept_facts, lose_holds, unclaimed_apart, behind_known, known_behind, call_rules, unset_drop, call_returns, call_enters, body_returns}

-- Environments

-- what a redirection after the prefix assignments does, except for the names of these
hidden_stay : (e : Environment) (saved : Saved) (x : Environment) → ((t : Text) → is_name t ≡ true → is_one_of (unset_before saved) t ≡ false → is_some (e.variables t) ≡ true → is_some (x.variables t) ≡ true)
    → (t : Text) → is_name t ≡ true → is_some (e.variables t) ≡ true → is_some ((hiding e saved x).variables t) ≡ true
unfolding hiding put_text unset_before
hidden_stay e [] x h t i s = h t i refl s
hidden_stay e ((name, Some v) ∷ xs) x h t i s = hidden_stay e xs (with_variable x name (e.variables name)) (λ u j n k. go u j n k (bytes_eq u name) refl) t i s
  where
    go : (u : Text) → is_name u ≡ true → is_one_of (unset_before xs) u ≡ false → is_some (e.variables u) ≡ true → (b : Bool) → bytes_eq u name ≡ b
        → is_some (if b then e.variables name else x.variables u) ≡ true
    go u j n k true same = subst (λ v. is_some (e.variables v) ≡ true) ((bytes_eq-Decides u name).0 same) k
    go u j n k false same = h u j n k
hidden_stay e ((name, None) ∷ xs) x h t i s = hidden_stay e xs (with_variable x name (e.variables name)) (λ u j n k. go u j n k (bytes_eq u name) refl) t i s
  where
    go : (u : Text) → is_name u ≡ true → is_one_of (unset_before xs) u ≡ false → is_some (e.variables u) ≡ true → (b : Bool) → bytes_eq u name ≡ b
        → is_some (if b then e.variables name else x.variables u) ≡ true
    go u j n k true same = subst (λ v. is_some (e.variables v) ≡ true) ((bytes_eq-Decides u name).0 same) k
    go u j n k false same = h u j (rw (bytes_eq_swap name u ∙ same) n) k

hidden_grows : (e : Environment) (saved : Saved) (x : Environment) → Grows (restored (λ n. true) 0 e saved) x → Grows e (hiding e saved x)
hidden_grows e saved x g =
    let spares = restored_spares (λ n. true) 0 e saved in
    record {
      variables = hidden_stay e saved x (λ t i n s. g.variables t i (spares.variables t i n s));
      functions = λ t i s.
          subst (λ m. is_some (m t) ≡ true) (sym (hiding_kept (λ (y : Environment). y.functions ≡ x.functions) (λ y name v h. h) e saved x refl)) (g.functions t i (spares.functions t i refl s));
      job = λ s. hiding_kept (λ (y : Environment). y.job ≡ true) (λ y name v h. h) e saved x (g.job (spares.job s));
    }

hidden_functions : (e : Environment) (saved : Saved) (x : Environment) → x.functions ≡ (restored (λ n. true) 0 e saved).functions → (hiding e saved x).functions ≡ e.functions
hidden_functions e saved x h =
    hiding_kept (λ (y : Environment). y.functions ≡ x.functions) (λ y name v h. h) e saved x refl ∙ h ∙ restored_functions (λ n. true) 0 e saved

-- The names of assignments

-- one more assignment: its name is new among those that were not set, if it was not
one_more : (name : Text) (o : Option Text) (saved : Saved) (t : Text) → is_one_of (unset_before ((name, o) ∷ saved)) t ≡ true → (is_one_of (unset_before saved) t ≡ true) ⊎ ((name ≡ t) × (o ≡ None))
unfolding unset_before
one_more name (Some v) saved t h = inl h
one_more name None saved t h = elim (or_cases (bytes_eq name t) (is_one_of (unset_before saved) t) h) [ inl l ↦ inr ((bytes_eq-Decides name t).0 l, refl) | inr r ↦ inl r ]

-- a name that is not set is not claimed
unset_unclaimed : (x : Facts) (e : Environment) (f : Frame) (name : Text) → is_name name ≡ true → Holds x e f → e.variables name ≡ None → claims x (Variable name) ≡ false
unfolding Holds claims
unset_unclaimed NotReached e f name i h n = absurd h
unset_unclaimed (Known v g m) e f name i h n = go (v name) refl
  where
    go : (b : Bool) → v name ≡ b → v name ≡ false
    go true s = absurd (true≢false (sym (h.variables name i s) ∙ ap is_some n))
    go false s = s

-- Frames

pushed : (fs : List Frame) (g : Frame) → frames_behind fs (Pushes g) ≡ g ∷ fs
unfolding frames_behind
pushed [] g = refl
pushed (f ∷ fs) g = refl

pushed_stays : (fs : List Frame) (g : Frame) → FrameStays fs (Pushes g)
unfolding FrameStays
pushed_stays [] g = tt
pushed_stays (f ∷ []) g = tt
pushed_stays (f ∷ k ∷ fs) g = tt

module _ (d : Facts) (c : Certificate) (defined : List Text) where
  abbrev Well : Around → Environment → List Frame → ℕ → List Work → Type 0
  Well base e fs status ws = ProcessOk d c defined (SimpleAt d c defined) base e fs status ws

  abbrev Ok : Around → Environment → List Frame → ℕ → Effect → Type 0
  Ok base e fs status x = StepOk d c defined (SimpleAt d c defined) base e fs status x

  abbrev GoesOn : Around → List Facts → List Work → After → Type 0
  GoesOn base callers ws o = Good d c defined (SimpleAt d c defined) base callers ws o

  -- one caller more
  caller_stays : (kept : Facts) (callers : List Facts) (e : Environment) (fs : List Frame) (g : Frame) → Holds kept e (front fs) → Stays d c defined (SimpleAt d c defined) callers e fs
      → Stays d c defined (SimpleAt d c defined) (kept ∷ callers) e (g ∷ fs)
  unfolding Stays front
  caller_stays kept [] e [] g h stays = cc
  caller_stays kept (k ∷ callers) e [] g h stays = absurd stays
  caller_stays kept callers e (f ∷ fs) g h stays = (h, stays)

  module _ (base : Around) (e : Environment) (fs : List Frame) (status : ℕ) (ws : List Work) (a : Answer) (n : ℕ) (t : Text) (ts : List Text) (body : p.Command) where
    abbrev x : Around
    x = around base ws

    abbrev Stage : p.Redirects → Assignments → Saved → Seen → Type 0
    Stage rs xs saved s = CallStage d c defined x n t ts body rs xs saved s

    -- The function is entered.
    enter_ok : (saved : Saved) (s : Seen) (vs : List Work) (live : Well base e fs status vs) (stage : Stage p.no_redirects [] saved s) → OneHolds d c s e (front fs) → GoesOn base live.callers ws (after_command n)
        → Ok base e fs status (record (goes e (front fs) status (Command body ∷ Return n t saved ∷ ws)) { frames = Pushes ts })
    unfolding NextOk StartsOk GoodIn Good FrontGood OfFirst around in_any_case front
    enter_ok saved s vs live stage h behind_it =
        let es = stage.elements in
        let known = behind_known d c defined n es e (front fs) (stage.left.behind_words e (front fs) h) in
        let kept = kept_facts c t (behind_facts c n es) in
        let entry : OneHolds d c (at (Entry t)) e ts =
        call_enters d c defined x n es t stage.words stage.rules stage.calls e (front fs) ts
        (stage.prefixed e (front fs) (gain_holds d c (named []) s e (front fs) (has_nothing e (front fs)) h)) stage.counted in
        let well : Well base e (ts ∷ fs) status (Command body ∷ Return n t saved ∷ ws) = record {
          known = Both (at (Entry t));
          callers = kept ∷ live.callers;
          good = record {
            after = Both (at (Entry t));
            leads = leads_same d c defined (SimpleAt d c defined) (Both (at (Entry t)));
            goes = (
              stage.entered.entered,
              (
                body_returns d c defined t body stage.entered.rules,
                call_returns d c defined x n es t stage.words stage.rules stage.calls saved stage.unset_among stage.unclaimed e (front fs) known,
                behind_it,
              ),
            );
          };
          holds = both_holds d c status (at (Entry t)) e ts entry;
          stays = caller_stays kept live.callers e fs ts (lose_holds c (c.drops t) (behind_facts c n es) e (front fs) known) live.stays;
          bodies = live.bodies;
        } in
        record {
          quiet = refl;
          next = λ k. subst (λ gs. Well base e gs status (Command body ∷ Return n t saved ∷ ws)) (sym (pushed fs ts)) well;
          starts = refl;
          grows = λ k. grows_refl e;
          frame = λ k. pushed_stays fs ts;
        }

    -- A redirection failed: the names of the assignments that are done stay as they are, or are put
    -- back.
    failed_ok : (rs : p.Redirects) (xs : Assignments) (saved : Saved) (s : Seen) (vs : List Work) (live : Well base e fs status vs) (stage : Stage rs xs saved s) → is_redirected rs ≡ true → OneHolds d c s e (front fs)
        → GoesOn base live.callers ws (after_command n) → (y : Environment) → Grows e y → y.functions ≡ e.functions
        → Ok base e fs status (failed_in e (front fs) status ws a (Named t ts) (restored a.restores 0 y saved) ws)
    unfolding failed_in NextOk StartsOk i.Each if_nonzero
    failed_ok rs xs saved s vs live stage was h behind_it y grows same = go (a.redirection_ends && is_some (z.functions t))
      where
        z : Environment
        z = restored a.restores 0 y saved

        spares : Spares (unset_names saved) e z
        spares = grows_spares (unset_names saved) e y z grows (restored_spares a.restores 0 y saved)

        bodies : Bodies d c defined z.functions
        bodies = subst (Bodies d c defined) (sym (restored_functions a.restores 0 y saved ∙ same)) live.bodies

        may : MayDrop d c x (unset_names saved)
        may = unset_drop d c defined x n stage.elements t stage.words stage.rules stage.calls saved stage.unset_among stage.unclaimed

        quiet : base.shares ≡ true → Grows e z
        quiet shares =
            let none = quiet_drop d c defined (SimpleAt d c defined) base live.callers ws (after_command n) behind_it shares (unset_names saved) may in
            spares_grow (unset_names saved) e z none.0 none.1 spares

        known : OneHolds d c (behind d c n stage.elements) z (front fs)
        known =
            known_behind d c defined n stage.elements z (front fs)
            (apart_holds (behind_facts c n stage.elements) (unset_names saved) e z (front fs) (unclaimed_apart (behind_facts c n stage.elements) saved stage.unclaimed) spares
            (behind_known d c defined n stage.elements e (front fs) (stage.left.behind_words e (front fs) h)))

        after : AfterHolds d c (nonzero a.status) (after_command n) z (front fs)
        after =
            nonzero_holds d c defined (SimpleAt d c defined) (nonzero a.status) (after_command n) z (front fs) (is_nonzero a.status)
            (covers_at d c (AfterNonzero n) (behind d c n stage.elements) ((call_rules d c defined x n stage.elements t stage.words stage.rules stage.calls).redirected (stage.left.redirected was)) z (front fs) known)

        go : (b : Bool) → Ok base e fs status (if b then ends z (front fs) else goes z (front fs) (nonzero a.status) ws)
        go true = record { quiet = refl; next = λ k. bodies; starts = tt; grows = quiet; frame = λ k. frame_stays d c defined (SimpleAt d c defined) fs }
        go false = drops_ok d c defined (SimpleAt d c defined) base e fs status ws (unset_names saved) (after_command n) (nonzero a.status) z vs live behind_it may spares bodies after

    failed_plain : (z : Environment) → Plain d c defined (SimpleAt d c defined) fs (failed_in e (front fs) status ws a (Named t ts) z ws)
    unfolding failed_in
    failed_plain z = go (a.redirection_ends && is_some (z.functions t))
      where
        go : (b : Bool) → Plain d c defined (SimpleAt d c defined) fs (if b then ends z (front fs) else goes z (front fs) (nonzero a.status) ws)
        go true = ends_plain d c defined (SimpleAt d c defined) fs z
        go false = goes_plain d c defined (SimpleAt d c defined) fs z (nonzero a.status) ws

    -- The next redirection is done, without the assignments that are done.
    redirect_ok : (r : p.Redirect) (rest : p.Redirects) (saved : Saved) (s : Seen) (vs : List Work) (live : Well base e fs status vs) (stage : Stage (p.more_redirects r rest) [] saved s) → OneHolds d c s e (front fs)
        → GoesOn base live.callers ws (after_command n) → Ok base e fs status (call e (front fs) status ws a n t ts body (p.more_redirects r rest) [] saved)
    unfolding call redirected EachOpened EachValue SimpleAt Good FrontGood in_any_case is_redirected
    redirect_ok r rest saved s vs live stage h behind_it = go a.redirection_in_copy
      where
        before : Environment
        before = restored (λ n. true) 0 e saved

        first : State
        first = (expand (front fs) status in_one (opened r) (fresh before a.given)).state

        state : State
        state = steps.unseen e (front fs) status ws a saved r

        next : List Work
        next = Call n t ts body rest [] saved ∷ ws

        known : Holds (behind_facts c n stage.elements) before (front fs)
        known =
            apart_holds (behind_facts c n stage.elements) (unset_names saved) e before (front fs) (unclaimed_apart (behind_facts c n stage.elements) saved stage.unclaimed) (restored_spares (λ n. true) 0 e saved)
            (behind_known d c defined n stage.elements e (front fs) (stage.left.behind_words e (front fs) h))

        did : Expanded d c defined (front fs) (word_gains (opened r)) (fresh before a.given) first
        did =
            word_expands d c defined (SimpleAt d c defined) base before fs status ws a (behind d c n stage.elements) in_one (opened r) stage.left.opened.0
            (known_behind d c defined n stage.elements before (front fs) known)

        does : Expanded d c defined (front fs) no_gains (fresh e a.given) state
        does = record {
          unset = did.unset;
          grows = hidden_grows e saved first.environment did.grows;
          functions = hidden_functions e saved first.environment did.functions;
          copies = λ bodies l k. did.copies bodies (restored_functions (λ n. true) 0 e saved ∙ l) k;
          gains = λ l. has_nothing state.environment (front fs);
        }

        stage_next : Stage rest [] saved s
        stage_next = record {
          elements = stage.elements;
          words = stage.words;
          rules = stage.rules;
          calls = stage.calls;
          entered = stage.entered;
          left = record { behind_words = stage.left.behind_words; opened = stage.left.opened.1; values = tt; redirected = λ k. stage.left.redirected refl };
          counted = stage.counted;
          prefixed = stage.prefixed;
          among = stage.among;
          unset_among = stage.unset_among;
          unclaimed = stage.unclaimed;
        }

        goes_on : (y : Environment) (now : ℕ) → Grows e y → y.functions ≡ e.functions → Ok base e fs status (goes y (front fs) now next)
        goes_on y now grows same =
            step_goes d c defined (SimpleAt d c defined) base e y fs status now next grows
            (grown d c defined (SimpleAt d c defined) base e fs status ws a y now vs next live (Both s) grows same
            (record { after = Both s; leads = leads_same d c defined (SimpleAt d c defined) (Both s); goes = (stage_next, behind_it) })
            (both_holds d c now s y (front fs) (one_grows d c s e y (front fs) grows h)))

        fails : (y : Environment) → Grows e y → y.functions ≡ e.functions → Ok base e fs status (failed_in e (front fs) status ws a (Named t ts) (restored a.restores 0 y saved) ws)
        fails y grows same = failed_ok (p.more_redirects r rest) [] saved s vs live stage refl h behind_it y grows same

        in_copy : (b : Bool) → Ok base e fs status (after_expansion state false
            (if b then failed_in e (front fs) status ws a (Named t ts) (restored a.restores 0 e saved) ws else goes e (front fs) (status_behind state status a) next))
        in_copy true =
            let ok = fails e (grows_refl e) refl in
            expanded_ok d c defined (SimpleAt d c defined) base e fs status ws a state false _ live.bodies does (failed_plain (restored a.restores 0 e saved)) (λ k. ok) ok.grows
        in_copy false =
            let ok = goes_on e (status_behind state status a) (grows_refl e) refl in
            expanded_ok d c defined (SimpleAt d c defined) base e fs status ws a state false _ live.bodies does (goes_plain d c defined (SimpleAt d c defined) fs e (status_behind state status a) next) (λ k. ok) ok.grows

        here : (b : Bool) → Ok base e fs status (after_expansion state false (unless_ended e (front fs) status ws a state
            (if b then failed_in e (front fs) status ws a (Named t ts) (restored a.restores 0 state.environment saved) ws else goes state.environment (front fs) (status_behind state status a) next)))
        here true =
            let ok = fails state.environment does.grows does.functions in
            unless_ok d c defined (SimpleAt d c defined) base e fs status ws a state false _ live.bodies does (failed_plain (restored a.restores 0 state.environment saved)) (λ k l. ok) (λ k l. ok.grows k)
        here false =
            let ok = goes_on state.environment (status_behind state status a) does.grows does.functions in
            unless_ok d c defined (SimpleAt d c defined) base e fs status ws a state false _ live.bodies does (goes_plain d c defined (SimpleAt d c defined) fs state.environment (status_behind state status a) next) (λ k l. ok) (λ k l. ok.grows k)

        go : (b : Bool) → Ok base e fs status (after_expansion state false (redirected e (front fs) status ws a b state next (λ y. failed_in e (front fs) status ws a (Named t ts) (restored a.restores 0 y saved) ws)))
        go true = in_copy (state.ended || a.redirection_fails)
        go false = here a.redirection_fails

    -- The next assignment is done.
    assignment_ok : (rs : p.Redirects) (v : Text × p.Word) (xs : Assignments) (saved : Saved) (s : Seen) (vs : List Work) (live : Well base e fs status vs) (stage : Stage rs (v ∷ xs) saved s) → OneHolds d c s e (front fs)
        → GoesOn base live.callers ws (after_command n)
        → let o = expand (front fs) status in_one v.1 (fresh e a.given) in
        let k = steps.kept e (front fs) status ws a o.state in
        Ok base e fs status (after_expansion o.state false (unless_ended e (front fs) status ws a k
        (assignment e (front fs) status ws a v.0 (record o { state = k }) (Call n t ts body rs xs ((v.0, k.environment.variables v.0) ∷ saved) ∷ ws))))
    unfolding assignment EachValue SimpleAt Good FrontGood in_any_case
    assignment_ok rs v xs saved s vs live stage h behind_it = go a.assignment_fails
      where
        o : Outcome
        o = expand (front fs) status in_one v.1 (fresh e a.given)

        k : State
        k = steps.kept e (front fs) status ws a o.state

        did : Expanded d c defined (front fs) (word_gains v.1) (fresh e a.given) o.state
        did = word_expands d c defined (SimpleAt d c defined) base e fs status ws a (behind d c n stage.elements) in_one v.1 stage.left.values.1 (stage.left.behind_words e (front fs) h)

        does : Expanded d c defined (front fs) no_gains (fresh e a.given) k
        does = record {
          unset = did.unset;
          grows = if_either (Grows e) a.value_in_copy e o.state.environment (grows_refl e) did.grows;
          functions = if_either (λ (y : Environment). y.functions ≡ e.functions) a.value_in_copy e o.state.environment refl did.functions;
          copies = did.copies;
          gains = λ l. has_nothing k.environment (front fs);
        }

        now : Environment
        now = with_variable k.environment v.0 (Some (pieces_text o.pieces))

        grows : Grows e now
        grows = grows_trans e k.environment now does.grows (assigned_grows k.environment v.0 (pieces_text o.pieces))

        seen : Seen
        seen = gaining_names (v.0 ∷ []) s

        left : Saved
        left = (v.0, k.environment.variables v.0) ∷ saved

        next : List Work
        next = Call n t ts body rs xs left ∷ ws

        known : Holds (behind_facts c n stage.elements) k.environment (front fs)
        known = holds_grow (behind_facts c n stage.elements) e k.environment (front fs) does.grows (behind_known d c defined n stage.elements e (front fs) (stage.left.behind_words e (front fs) h))

        among : (u : Text) → is_one_of (unset_before left) u ≡ true → is_one_of (prefixes stage.elements) u ≡ true
        among u l = elim (one_more v.0 (k.environment.variables v.0) saved u l) [
          | inl m ↦ stage.unset_among u m
          | inr m ↦ subst (λ w. is_one_of (prefixes stage.elements) w ≡ true) m.0 (stage.among v.0 (or_left (bytes_eq v.0 v.0) (is_one_of (names_of xs) v.0) (text_same v.0)))
        ]

        unclaimed : (u : Text) → is_one_of (unset_before left) u ≡ true → claims (behind_facts c n stage.elements) (Variable u) ≡ false
        unclaimed u l = elim (one_more v.0 (k.environment.variables v.0) saved u l) [
          | inl m ↦ stage.unclaimed u m
          | inr m ↦ subst (λ w. claims (behind_facts c n stage.elements) (Variable w) ≡ false) m.0
              (unset_unclaimed (behind_facts c n stage.elements) k.environment (front fs) v.0 stage.left.values.0 known m.1)
        ]

        stage_next : Stage rs xs left seen
        stage_next = record {
          elements = stage.elements;
          words = stage.words;
          rules = stage.rules;
          calls = stage.calls;
          entered = stage.entered;
          left = record {
            behind_words = λ y f l. stage.left.behind_words y f (holds_gain d c (named (v.0 ∷ [])) s y f l);
            opened = stage.left.opened;
            values = stage.left.values.2;
            redirected = stage.left.redirected;
          };
          counted = stage.counted;
          prefixed = λ y f l. stage.prefixed y f (gain_two d c defined (named (v.0 ∷ [])) (named (names_of xs)) s y f l);
          among = λ u l. stage.among u (or_right (bytes_eq v.0 u) (is_one_of (names_of xs) u) l);
          unset_among = among;
          unclaimed = unclaimed;
        }

        goes_on : Ok base e fs status (goes now (front fs) (status_behind k status a) next)
        goes_on =
            step_goes d c defined (SimpleAt d c defined) base e now fs status (status_behind k status a) next grows
            (grown d c defined (SimpleAt d c defined) base e fs status ws a now (status_behind k status a) vs next live (Both seen) grows does.functions
            (record { after = Both seen; leads = leads_same d c defined (SimpleAt d c defined) (Both seen); goes = (stage_next, behind_it) })
            (both_holds d c (status_behind k status a) seen now (front fs)
            (gain_holds d c (named (v.0 ∷ [])) s now (front fs) (has_name v.0 now (front fs) stage.left.values.0 (assigned_set k.environment v.0 (pieces_text o.pieces)))
            (one_grows d c s e now (front fs) grows h))))

        go : (b : Bool) → Ok base e fs status (after_expansion k false (unless_ended e (front fs) status ws a k (if b then ends k.environment (front fs) else goes now (front fs) (status_behind k status a) next)))
        go true =
            unless_ok d c defined (SimpleAt d c defined) base e fs status ws a k false (ends k.environment (front fs)) live.bodies does (ends_plain d c defined (SimpleAt d c defined) fs k.environment)
            (λ m l. step_ends d c defined (SimpleAt d c defined) base e k.environment fs status does.grows (subst (Bodies d c defined) (sym does.functions) live.bodies)) (λ m l. does.grows)
        go false =
            unless_ok d c defined (SimpleAt d c defined) base e fs status ws a k false (goes now (front fs) (status_behind k status a) next) live.bodies does
            (goes_plain d c defined (SimpleAt d c defined) fs now (status_behind k status a) next) (λ m l. goes_on) (λ m l. grows)

    pub call_ok : (rs : p.Redirects) (xs : Assignments) (saved : Saved) → Well base e fs status (Call n t ts body rs xs saved ∷ ws) → Ok base e fs status (act_on e (front fs) status ws a (Call n t ts body rs xs saved))
    unfolding act_on call GoodIn Good FrontGood SimpleAt
    call_ok p.no_redirects [] saved live =
        let q = live.good.after in
        enter_ok saved (in_any_case q) _ live live.good.goes.0 (any_holds d c status q e (front fs) (live.good.leads status e (front fs) live.holds)) live.good.goes.1
    call_ok (p.more_redirects r rest) [] saved live =
        let q = live.good.after in
        redirect_ok r rest saved (in_any_case q) _ live live.good.goes.0 (any_holds d c status q e (front fs) (live.good.leads status e (front fs) live.holds)) live.good.goes.1
    call_ok rs (v ∷ xs) saved live =
        let q = live.good.after in
        assignment_ok rs v xs saved (in_any_case q) _ live live.good.goes.0 (any_holds d c status q e (front fs) (live.good.leads status e (front fs) live.holds)) live.good.goes.1
