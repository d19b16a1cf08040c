-- Steps of the redirections of simple commands, of utilities and of functions.
use Rattle.std.proofs.Common.{◌≡◌, ℕ, Bool, true, false, ◌&&◌, ◌||◌, if◌then◌else◌, is_some, List, refl, sym, subst}
use Rattle.sh_tree.specs.standard.program.Syntax.{Text}
use Rattle.sh_runs.specs.standard.runs.Environment.{Environment, Frame}
use Rattle.sh_runs.specs.standard.runs.Answers.{Answer}
use Rattle.sh_runs.specs.standard.runs.Builtins.{nonzero}
use Rattle.sh_runs.specs.standard.runs.States.{State, fresh}
use Rattle.sh_runs.specs.standard.runs.Steps.{Manner, Nameless, Special, Named, status_behind, unless_ended, failed_in, redirected}
use Rattle.sh_runs.specs.standard.runs.Work.{Work, Effect, goes, ends, after_expansion}
use Rattle.sh_domain.specs.Entries.{Around}
use Rattle.sh_domain.specs.Facts.{Facts}
use Rattle.sh_domain.specs.Gains.{Gains}
use Rattle.sh_domain.specs.Views.{Certificate, AfterNonzero, Seen, after_command, at, if_nonzero}
use Rattle.sh_sound.specs.Holding.{Grows, OneHolds, Expanded}
use Rattle.sh_sound.specs.Going.{Bodies, front, Good, ProcessOk, StepOk}
use Rattle.sh_sound.proofs.HoldLemmas.{grows_refl}
use Rattle.sh_sound.proofs.ListLemmas.{step_goes, step_ends, nonzero_holds}
use Rattle.sh_sound.proofs.StepLemmas.{Plain, goes_plain, ends_plain, expanded_ok, grown}
use Rattle.sh_sound.proofs.CompoundLemmas.{is_nonzero}

module _ (d : Facts) (c : Certificate) (defined : List Text) (SimpleAt : Around → Work → Seen → Type 0) where
  abbrev Well : Around → Environment → List Frame → ℕ → List Work → Type 0
  Well base e fs status ws = ProcessOk d c defined SimpleAt base e fs status ws

  abbrev Ok : Around → Environment → List Frame → ℕ → Effect → Type 0
  Ok base e fs status x = StepOk d c defined SimpleAt base e fs status x

  module _ (base : Around) (e : Environment) (fs : List Frame) (status : ℕ) (ws : List Work) (a : Answer) where
    abbrev f : Frame
    f = front fs

    -- a step that goes well, and keeps the frame
    pub record Fine (x : Effect) : Type 0 where
      pub ok : Ok base e fs status x
      pub plain : Plain d c defined SimpleAt fs x

    pub either_fine : (b : Bool) (x y : Effect) → (b ≡ true → Fine x) → (b ≡ false → Fine y) → Fine (if b then x else y)
    either_fine true x y h k = h refl
    either_fine false x y h k = k refl

    pub ends_fine : (e' : Environment) → Grows e e' → Bodies d c defined e'.functions → Fine (ends e' f)
    ends_fine e' g b = record { ok = step_ends d c defined SimpleAt base e e' fs status g b; plain = ends_plain d c defined SimpleAt fs e' }

    pub goes_fine : (e' : Environment) (now : ℕ) (us : List Work) → Grows e e' → Well base e' fs now us → Fine (goes e' f now us)
    goes_fine e' now us g well = record { ok = step_goes d c defined SimpleAt base e e' fs status now us g well; plain = goes_plain d c defined SimpleAt fs e' now us }

    -- after an expansion that is not split
    pub behind_fine : {g : Gains} (s : State) (x : Effect) → Bodies d c defined e.functions → Expanded d c defined f g (fresh e a.given) s → Fine x → Ok base e fs status (after_expansion s false x)
    behind_fine s x bodies does fine = expanded_ok d c defined SimpleAt base e fs status ws a s false x bodies does fine.plain (λ h. fine.ok) fine.ok.grows

    pub unless_fine : (s : State) (x : Effect) → Grows e s.environment → Bodies d c defined s.environment.functions → (s.ended ≡ false → Fine x) → Fine (unless_ended e f status ws a s x)
    unfolding unless_ended
    unless_fine s x g b h = either_fine s.ended (ends s.environment f) x (λ k. ends_fine s.environment g b) h

    -- where the command is left with a status that is not zero
    pub fails_fine : (n : ℕ) (vs : List Work) (live : Well base e fs status vs) (e' : Environment) → Grows e e' → e'.functions ≡ e.functions
        → Good d c defined SimpleAt base live.callers ws (after_command n) → OneHolds d c (at (AfterNonzero n)) e' f → Fine (goes e' f (nonzero a.status) ws)
    unfolding if_nonzero
    fails_fine n vs live e' g same good h =
        goes_fine e' (nonzero a.status) ws g
        (grown d c defined SimpleAt base e fs status ws a e' (nonzero a.status) vs ws live (after_command n) g same good
        (nonzero_holds d c defined SimpleAt (nonzero a.status) (after_command n) e' f (is_nonzero a.status) h))

    -- A redirection: in a copy nothing stays of it. If it fails the command goes on in its own way.
    pub redirected_fine : (copied : Bool) (s : State) (next : List Work) (failed : Environment → Effect) → Bodies d c defined e.functions → Grows e s.environment → s.environment.functions ≡ e.functions
        → ((e' : Environment) → Grows e e' → e'.functions ≡ e.functions → Fine (failed e'))
        → (copied ≡ true → Fine (goes e f (status_behind s status a) next))
        → (copied ≡ false → s.ended ≡ false → Fine (goes s.environment f (status_behind s status a) next))
        → Fine (redirected e f status ws a copied s next failed)
    unfolding redirected
    redirected_fine true s next failed bodies g same fails here there = either_fine (s.ended || a.redirection_fails) _ _ (λ h. fails e (grows_refl e) refl) (λ h. here refl)
    redirected_fine false s next failed bodies g same fails here there =
        unless_fine s _ g (subst (Bodies d c defined) (sym same) bodies)
        (λ l. either_fine a.redirection_fails _ _ (λ h. fails s.environment g same) (λ h. there refl l))

    -- what is claimed where a redirection fails; a special built-in utility ends the process
    unfoldable pub Fails : Manner → ℕ → Environment → Type 0
    Fails (Special t ts) n e' = Unit {0}
    Fails m n e' = OneHolds d c (at (AfterNonzero n)) e' f

    pub failed_fine : (m : Manner) (n : ℕ) (vs : List Work) (live : Well base e fs status vs) (e' : Environment) (next : List Work) → Grows e e' → e'.functions ≡ e.functions
        → Good d c defined SimpleAt base live.callers ws (after_command n) → Fails m n e' → (m ≡ Nameless → Fine (goes e' f status next)) → Fine (failed_in e f status ws a m e' next)
    unfolding failed_in Fails
    failed_fine Nameless n vs live e' next g same good h k = either_fine a.redirection_leaves_out _ _ (λ b. fails_fine n vs live e' g same good h) (λ b. k refl)
    failed_fine (Special t ts) n vs live e' next g same good h k = ends_fine e' g (subst (Bodies d c defined) (sym same) live.bodies)
    failed_fine (Named t ts) n vs live e' next g same good h k =
        either_fine (a.redirection_ends && is_some (e'.functions t)) _ _ (λ b. ends_fine e' g (subst (Bodies d c defined) (sym same) live.bodies)) (λ b. fails_fine n vs live e' g same good h)
