-- Steps that expand a word.
use Rattle.std.proofs.Common.{◌≡◌, ℕ, Bool, true, false, if◌then◌else◌, List, [], ◌∷◌, ◌++◌, Option, refl, sym, subst}
use Rattle.sh_tree.specs.standard.program.Syntax as p
use Rattle.sh_tree.specs.standard.program.Syntax.{Text}
use Rattle.sh_runs.specs.standard.runs.Environment.{Environment, Frame}
use Rattle.sh_runs.specs.standard.runs.Answers.{Answer}
use Rattle.sh_runs.specs.standard.runs.States.{State, Copy, fresh}
use Rattle.sh_runs.specs.standard.runs.Expansion.{Context, expand}
use Rattle.sh_runs.specs.standard.runs.Steps.{unless_ended}
use Rattle.sh_runs.specs.standard.runs.Work.{Work, Items, Keeps, Effect, goes, ends, of_copies, after_expansion}
use Rattle.sh_domain.specs.Entries.{Around, alone}
use Rattle.sh_domain.specs.Facts.{Facts}
use Rattle.sh_domain.specs.Gains.{Gains, word_gains}
use Rattle.sh_domain.specs.Views.{Certificate, Seen, After, Both, gaining}
use Rattle.sh_sound.specs.Holding.{Grows, OneHolds, AfterHolds, CopyWell, Expanded}
use Rattle.sh_domain.specs.Inclusions as i
use Rattle.sh_sound.specs.Going.{around, Bodies, front, FrameStays, WordAt, FrontGood, Good, GoodIn, Stays, ProcessOk, StartOk, StartsOk, StepOk}
use Rattle.sh_sound.proofs.HoldLemmas.{each_both, one_grows, gain_holds, both_holds}
use Rattle.sh_sound.proofs.ExpansionLemmas.{word_does}
use Rattle.sh_sound.proofs.ListLemmas.{began_alone, good_in, frame_stays, step_goes, step_ends, stays_grow, leads_same}

module _ (d : Facts) (c : Certificate) (defined : List Text) (SimpleAt : Around → Work → Seen → Type 0) where
  abbrev Well : Around → Environment → List Frame → ℕ → List Work → Type 0
  Well base e fs status ws = ProcessOk d c defined SimpleAt base e fs status ws

  abbrev Ok : Around → Environment → List Frame → ℕ → Effect → Type 0
  Ok base e fs status x = StepOk d c defined SimpleAt base e fs status x

  -- the process of a substitution is well
  pub copy_begins : (bodies : Text → Option p.Command) (f : Frame) (status : ℕ) (x : Copy) → Bodies d c defined bodies
      → CopyWell d c defined f bodies x → Well alone x.environment (f ∷ []) status (Items x.list ∷ [])
  unfolding GoodIn Good FrontGood Stays front around
  copy_begins bodies f status x ok h = record {
    known = Both h.seen;
    callers = [];
    good = record { after = Both h.seen; leads = leads_same d c defined SimpleAt (Both h.seen); goes = ((h.rule, h.rules), began_alone) };
    holds = both_holds d c status h.seen x.environment f h.holds;
    stays = (f, refl);
    bodies = subst (Bodies d c defined) (sym h.functions) ok;
  }

  pub copies_begin : (bodies : Text → Option p.Command) (e : Environment) (f : Frame) (status : ℕ) (next : Option (ℕ × List Work)) (xs : List Copy) → Bodies d c defined bodies
      → i.Each (CopyWell d c defined f bodies) xs → i.Each (StartOk d c defined SimpleAt e f status next) (of_copies xs)
  unfolding i.Each StartOk
  copies_begin bodies e f status next [] ok h = tt
  copies_begin bodies e f status next (x ∷ xs) ok h = ((alone, copy_begins bodies f status x ok h.0), copies_begin bodies e f status next xs ok h.1)

  -- a step that starts nothing, keeps the frame and splits nothing by itself
  pub record Plain (fs : List Frame) (x : Effect) : Type 0 where
    pub starts : x.starts ≡ []
    pub frames : x.frames ≡ Keeps (front fs)
    pub split : x.split ≡ false

  pub goes_plain : (fs : List Frame) (e : Environment) (now : ℕ) (ws : List Work) → Plain fs (goes e (front fs) now ws)
  goes_plain fs e now ws = record { starts = refl; frames = refl; split = refl }

  pub ends_plain : (fs : List Frame) (e : Environment) → Plain fs (ends e (front fs))
  ends_plain fs e = record { starts = refl; frames = refl; split = refl }

  module _ (base : Around) (e : Environment) (fs : List Frame) (status : ℕ) (ws : List Work) (a : Answer) where
    abbrev Does : Gains → State → Type 0
    Does g s = Expanded d c defined (front fs) g (fresh e a.given) s

    -- a word that may be expanded here
    pub word_expands : (b : Seen) (k : Context) (w : p.Word) → WordAt d c defined b w → OneHolds d c b e (front fs) → Does (word_gains w) (expand (front fs) status k w (fresh e a.given)).state
    word_expands b k w at h =
        word_does d c defined (front fs) status k w (fresh e a.given) at.seen at.facts
        (record { one = at.entails e (front fs) h; facts = at.knows e (front fs) h }) at.rules at.met at.formed

    -- what is known after it
    pub behind_word : (b : Seen) (w : p.Word) (s : State) → OneHolds d c b e (front fs) → Does (word_gains w) s → s.ended ≡ false → OneHolds d c (gaining (word_gains w) b) s.environment (front fs)
    behind_word b w s h does l = gain_holds d c (word_gains w) b s.environment (front fs) (does.gains l) (one_grows d c b e s.environment (front fs) does.grows h)

    -- a step after an expansion
    pub expanded_ok : {g : Gains} (s : State) (split : Bool) (x : Effect) → Bodies d c defined e.functions → Does g s → Plain fs x
        → (split ≡ false → Ok base e fs status x) → (base.shares ≡ true → Grows e x.environment) → Ok base e fs status (after_expansion s split x)
    unfolding i.Each StartsOk
    expanded_ok s split x ok does plain next grows = record {
      quiet = does.unset;
      next = λ h. (next h).next plain.split;
      starts =
          subst (λ ys. StartsOk d c defined SimpleAt x.environment x.frames status x.next (of_copies s.copies ++ ys)) (sym plain.starts)
          (subst (λ k. StartsOk d c defined SimpleAt x.environment k status x.next (of_copies s.copies ++ [])) (sym plain.frames)
          (each_both (StartOk d c defined SimpleAt x.environment (front fs) status x.next) (of_copies s.copies) []
          (copies_begin e.functions x.environment (front fs) status x.next s.copies ok (does.copies e.functions refl tt))
          tt));
      grows = grows;
      frame = λ h. subst (FrameStays fs) (sym plain.frames) (frame_stays d c defined SimpleAt fs);
    }

    -- the process ends where the expansion does so, and otherwise the step goes on
    pub unless_ok : {g : Gains} (s : State) (split : Bool) (x : Effect) → Bodies d c defined e.functions → Does g s → Plain fs x
        → (split ≡ false → s.ended ≡ false → Ok base e fs status x) → (base.shares ≡ true → s.ended ≡ false → Grows e x.environment)
        → Ok base e fs status (after_expansion s split (unless_ended e (front fs) status ws a s x))
    unfolding unless_ended
    unless_ok s split x ok does plain next grows = go s.ended refl
      where
        go : (b : Bool) → s.ended ≡ b → Ok base e fs status (after_expansion s split (if b then ends s.environment (front fs) else x))
        go true l =
            expanded_ok s split (ends s.environment (front fs)) ok does (ends_plain fs s.environment)
            (λ h. step_ends d c defined SimpleAt base e s.environment fs status does.grows (subst (Bodies d c defined) (sym does.functions) ok)) (λ h. does.grows)
        go false l = expanded_ok s split x ok does plain (λ h. next h l) (λ h. grows h l)

    -- what is left of a process in a grown environment
    pub grown_in : (e' : Environment) (now : ℕ) (vs us : List Work) (live : Well base e fs status vs) (o : After) → Grows e e' → e'.functions ≡ e.functions
        → GoodIn d c defined SimpleAt (front fs) base live.callers us o → AfterHolds d c now o e' (front fs) → Well base e' fs now us
    grown_in e' now vs us live o g same good h = record {
      known = o;
      callers = live.callers;
      good = good;
      holds = h;
      stays = stays_grow d c defined SimpleAt live.callers e e' fs g live.stays;
      bodies = subst (Bodies d c defined) (sym same) live.bodies;
    }

    pub grown : (e' : Environment) (now : ℕ) (vs us : List Work) (live : Well base e fs status vs) (o : After) → Grows e e' → e'.functions ≡ e.functions
        → Good d c defined SimpleAt base live.callers us o → AfterHolds d c now o e' (front fs) → Well base e' fs now us
    grown e' now vs us live o g same good h = grown_in e' now vs us live o g same (good_in d c defined SimpleAt (front fs) base live.callers us o good) h

    -- a word is expanded, and other work comes
    pub word_step_in : (b : Seen) (k : Context) (w : p.Word) (split : Bool) (now : State → ℕ) (vs us : List Work) (live : Well base e fs status vs) → WordAt d c defined b w → OneHolds d c b e (front fs)
        → (o : After) → let s = (expand (front fs) status k w (fresh e a.given)).state in
        (split ≡ false → s.ended ≡ false → GoodIn d c defined SimpleAt (front fs) base live.callers us o)
        → ((e' : Environment) (n : ℕ) → OneHolds d c (gaining (word_gains w) b) e' (front fs) → AfterHolds d c n o e' (front fs))
        → Ok base e fs status (after_expansion s split (unless_ended e (front fs) status ws a s (goes s.environment (front fs) (now s) us)))
    word_step_in b k w split now vs us live at h o good lead =
        let s = (expand (front fs) status k w (fresh e a.given)).state in
        let does : Does (word_gains w) s = word_expands b k w at h in
        unless_ok s split (goes s.environment (front fs) (now s) us) live.bodies does (goes_plain fs s.environment (now s) us)
        (λ n l. step_goes d c defined SimpleAt base e s.environment fs status (now s) us does.grows
        (grown_in s.environment (now s) vs us live o does.grows does.functions (good n l) (lead s.environment (now s) (behind_word b w s h does l))))
        (λ n l. does.grows)

    pub word_step : (b : Seen) (k : Context) (w : p.Word) (split : Bool) (now : State → ℕ) (vs us : List Work) (live : Well base e fs status vs) → WordAt d c defined b w → OneHolds d c b e (front fs)
        → (o : After) → (split ≡ false → Good d c defined SimpleAt base live.callers us o)
        → ((e' : Environment) (n : ℕ) → OneHolds d c (gaining (word_gains w) b) e' (front fs) → AfterHolds d c n o e' (front fs))
        → let s = (expand (front fs) status k w (fresh e a.given)).state in
        Ok base e fs status (after_expansion s split (unless_ended e (front fs) status ws a s (goes s.environment (front fs) (now s) us)))
    word_step b k w split now vs us live at h o good lead =
        word_step_in b k w split now vs us live at h o (λ n l. good_in d c defined SimpleAt (front fs) base live.callers us o (good n)) lead
