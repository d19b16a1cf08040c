-- Steps that return from a function: at its end, and by `return`.
use Rattle.std.proofs.Common.{◌≡◌, ℕ, ◌==◌, Bool, true, false, if◌then◌else◌, List, [], ◌∷◌, Option, Some, None, is_some, unwrap_or, refl, sym, subst}
use Rattle.sh_tree.specs.standard.program.Syntax as p
use Rattle.sh_tree.specs.standard.program.Syntax.{Text, Word}
use Rattle.sh_tree.specs.standard.program.Words.{words_in}
use Rattle.sh_runs.specs.standard.runs.Answers.{Answer}
use Rattle.sh_runs.specs.standard.runs.Builtins.{restored, returned}
use Rattle.sh_runs.specs.standard.runs.Environment.{Environment, Frame}
use Rattle.sh_runs.specs.standard.runs.Operands.{status_operand}
use Rattle.sh_runs.specs.standard.runs.Steps.{act_on}
use Rattle.sh_runs.specs.standard.runs.Work.{Saved, Work, Return, return_mark, Pops, Effect, goes}
use Rattle.sh_domain.specs.Entries.{Around}
use Rattle.sh_domain.specs.Facts.{Facts}
use Rattle.sh_domain.specs.Inclusions.{Covers, StatusRules, ReturnRules}
use Rattle.sh_domain.specs.Operands.{status, return_status}
use Rattle.sh_domain.specs.Views.{Certificate, ReturnsZero, ReturnsNonzero, Seen, After, if_zero, if_nonzero, after_command}
use Rattle.sh_sound.specs.Holding.{OneHolds, AfterHolds}
use Rattle.sh_sound.specs.Going.{around, front, frames_behind, FrameStays, OfFirst, after_function, Bodies, Good, GoodIn, Stays, ProcessOk, NextOk, StartsOk, StepOk}
use Rattle.sh_sound.proofs.HoldLemmas.{covers_at}
use Rattle.sh_sound.proofs.ListLemmas.{good_in, zero_holds, nonzero_holds}
use Rattle.sh_sound.proofs.DropLemmas.{unset_names, spares_grow, restored_spares, restored_functions, quiet_drop, drop_stays}
use Rattle.sh_sound.proofs.JumpLemmas.{BackGood, back_good}

-- the status that `return` names is the one that the rules read
pub same_status : (vs : p.Words) (w : Word) (ws : List Word) → words_in vs ≡ w ∷ ws → return_status ws ≡ status_operand vs
unfolding words_in return_status status_operand
same_status p.no_words w ws h = cc
same_status (p.more_words v p.no_words) w ws h = cc
same_status (p.more_words v (p.more_words u vs)) w ws h = cc

module _ (d : Facts) (c : Certificate) (defined : List Text) (SimpleAt : Around → Work → Seen → Type 0) where
  abbrev Well : Around → Environment → List Frame → ℕ → List Work → Type 0
  Well base e fs status ws = ProcessOk d c defined SimpleAt base e fs status ws

  abbrev Ok : Around → Environment → List Frame → ℕ → Effect → Type 0
  Ok base e fs status x = StepOk d c defined SimpleAt base e fs status x

  -- The mark is met: the frame goes, and the caller goes on with what it keeps.
  pops : (base : Around) (callers : List Facts) (e : Environment) (fs : List Frame) (status now : ℕ) (restores : ℕ → Bool) (n : ℕ) (f : Text) (saved : Saved) (ws : List Work) (o : After)
      → Good d c defined SimpleAt base callers (Return n f saved ∷ ws) o → Stays d c defined SimpleAt callers e fs → Bodies d c defined e.functions
      → AfterHolds d c now o e (front fs) → Ok base e fs status (record (goes (restored restores 0 e saved) (front fs) now ws) { frames = Pops })
  unfolding Good OfFirst Stays front frames_behind FrameStays NextOk StartsOk
  pops base [] e fs status now restores n f saved ws o good stays bodies h = absurd good
  pops base (kept ∷ callers) e [] status now restores n f saved ws o good stays bodies h = absurd stays
  pops base (kept ∷ callers) e (g ∷ []) status now restores n f saved ws o good stays bodies h = absurd stays
  pops base (kept ∷ callers) e (g ∷ outer ∷ fs) status now restores n f saved ws o good stays bodies h = record {
    quiet = refl;
    next = λ k. record {
      known = after_command n;
      callers = callers;
      good = good_in d c defined SimpleAt outer base callers ws (after_command n) good.2;
      holds = good.1.comes restores now e g outer (good.0 now e g h) stays.0;
      stays = drop_stays d c defined SimpleAt base callers ws (after_command n) good.2 (unset_names saved) good.1.unset e _ (outer ∷ fs) (restored_spares restores 0 e saved) stays.1;
      bodies = subst (Bodies d c defined) (sym (restored_functions restores 0 e saved)) bodies;
    };
    starts = refl;
    grows = λ shares.
        let none = quiet_drop d c defined SimpleAt base callers ws (after_command n) good.2 shares (unset_names saved) good.1.unset in
        spares_grow (unset_names saved) e _ none.0 none.1 (restored_spares restores 0 e saved);
    frame = λ shares. tt;
  }

  -- the end of the body
  pub return_ok : (base : Around) (e : Environment) (fs : List Frame) (status : ℕ) (ws : List Work) (a : Answer) (n : ℕ) (t : Text) (saved : Saved) → Well base e fs status (Return n t saved ∷ ws)
      → Ok base e fs status (act_on e (front fs) status ws a (Return n t saved))
  unfolding act_on returned GoodIn
  return_ok base e fs status ws a n t saved live = pops base live.callers e fs status status a.restores n t saved ws live.known live.good live.stays live.bodies live.holds

  -- what F15 says of the status is known where the function returns
  returns_known : (status : Option ℕ) (now : ℕ) (f : Text) (s : Seen) (e : Environment) (g : Frame) → StatusRules d c status f s → OneHolds d c s e g → AfterHolds d c (unwrap_or status now) (after_function f) e g
  unfolding StatusRules if_zero if_nonzero
  returns_known None now f s e g rules h = go (now == 0) refl
    where
      go : (b : Bool) → (now == 0) ≡ b → AfterHolds d c now (after_function f) e g
      go true z = zero_holds d c defined SimpleAt now (after_function f) e g z (covers_at d c (ReturnsZero f) s rules.0 e g h)
      go false z = nonzero_holds d c defined SimpleAt now (after_function f) e g z (covers_at d c (ReturnsNonzero f) s rules.1 e g h)
  returns_known (Some n) now f s e g rules h = go (n == 0) refl rules
    where
      go : (b : Bool) → (n == 0) ≡ b → Covers d c (if b then ReturnsZero f else ReturnsNonzero f) s → AfterHolds d c n (after_function f) e g
      go true z r = zero_holds d c defined SimpleAt n (after_function f) e g z (covers_at d c (ReturnsZero f) s r e g h)
      go false z r = nonzero_holds d c defined SimpleAt n (after_function f) e g z (covers_at d c (ReturnsNonzero f) s r e g h)

  -- `return` with this status, or with any
  pub returned_ok : (base : Around) (e : Environment) (fs : List Frame) (status : ℕ) (ws : List Work) (a : Answer) (named : Option ℕ) (s : Seen) (o : After) (vs : List Work) (live : Well base e fs status vs)
      → Good d c defined SimpleAt base live.callers ws o → is_some (around base ws).function ≡ true → ReturnRules d c named (around base ws).function s → OneHolds d c s e (front fs)
      → Ok base e fs status (returned e (front fs) (unwrap_or named a.status) ws a (return_mark ws))
  unfolding BackGood ReturnRules returned
  returned_ok base e fs status ws a named s o vs live good found rules h = go (return_mark ws) (around base ws).function (back_good d c defined SimpleAt base live.callers ws o good) found rules
    where
      go : (k : Option (Saved × List Work)) (f : Option Text) → BackGood d c defined SimpleAt base live.callers k f → is_some f ≡ true → ReturnRules d c named f s
          → Ok base e fs status (returned e (front fs) (unwrap_or named a.status) ws a k)
      go None None g i r = cc
      go None (Some f) g i r = absurd g
      go (Some x) None g i r = absurd g
      go (Some x) (Some f) g i r =
          pops base live.callers e fs status (unwrap_or named a.status) a.restores g.0 f x.0 x.1 (after_function f) g.1 live.stays live.bodies (returns_known named a.status f s e (front fs) r h)
