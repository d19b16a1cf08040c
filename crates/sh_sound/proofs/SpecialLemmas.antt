-- Special built-in utilities, by what the table says of each.
use Rattle.std.proofs.Common.{◌≡◌, ℕ, ◌-◌, ◌≤◌, true, List, [], ◌∷◌, length, refl, sym, subst, ◌∙◌, arith}
use Rattle.sh_tree.specs.standard.program.Syntax.{Text}
use Rattle.sh_runs.specs.standard.runs.Environment.{Environment, Frame}
use Rattle.sh_runs.specs.standard.runs.Work.{Work, Return, Keeps, Effect, goes}
use Rattle.sh_domain.specs.Entries.{Around}
use Rattle.sh_domain.specs.Facts.{Facts, NotReached, Known}
use Rattle.sh_domain.specs.Gains.{Gains, named}
use Rattle.sh_domain.specs.Inclusions as i
use Rattle.sh_domain.specs.Inclusions.{MayDrop}
use Rattle.sh_domain.specs.Operands.{Names, total}
use Rattle.sh_domain.specs.Views.{Certificate, Count, Shift, Seen, After, stepped, where_known, step}
use Rattle.sh_sound.specs.Holding.{Holds, Has, OneHolds, AfterHolds}
use Rattle.sh_sound.specs.Going.{around, front, frames_behind, FrameStays, OfFirst, Bodies, Good, Stays, NextOk, StartsOk, ProcessOk, StepOk}
use Rattle.sh_sound.proofs.HoldLemmas.{grows_refl, one_stepped}
use Rattle.sh_sound.proofs.ListLemmas.{good_in, same_frames, frame_stays}
use Rattle.sh_sound.proofs.DropLemmas.{Spares, spares_grow, front_goes, quiet_drop, drop_stays}
use Rattle.sh_sound.proofs.CallLemmas.{counted_holds}

-- the frame of the caller is not looked at
stays_front : (d : Facts) (c : Certificate) (defined : List Text) (SimpleAt : Around → Work → Seen → Type 0) (callers : List Facts) (e : Environment) (fs : List Frame) (g : Frame)
    → Stays d c defined SimpleAt callers e fs → Stays d c defined SimpleAt callers e (frames_behind fs (Keeps g))
unfolding Stays frames_behind
stays_front d c defined SimpleAt [] e [] g h = cc
stays_front d c defined SimpleAt [] e (f ∷ []) g h = (g, refl)
stays_front d c defined SimpleAt [] e (f ∷ k ∷ fs) g h = cc
stays_front d c defined SimpleAt (kept ∷ callers) e [] g h = h
stays_front d c defined SimpleAt (kept ∷ callers) e (f ∷ []) g h = h
stays_front d c defined SimpleAt (kept ∷ callers) e (f ∷ k ∷ fs) g h = h

front_moved : (d : Facts) (c : Certificate) (defined : List Text) (SimpleAt : Around → Work → Seen → Type 0) (callers : List Facts) (e : Environment) (fs : List Frame) (g : Frame)
    → Stays d c defined SimpleAt callers e fs → front (frames_behind fs (Keeps g)) ≡ g
unfolding Stays frames_behind front
front_moved d c defined SimpleAt [] e [] g h = cc
front_moved d c defined SimpleAt (kept ∷ callers) e [] g h = absurd h
front_moved d c defined SimpleAt callers e (f ∷ fs) g h = refl

-- the frame that the process began with is at the front where nobody waits
frame_of : (d : Facts) (c : Certificate) (defined : List Text) (SimpleAt : Around → Work → Seen → Type 0) (callers : List Facts) (e : Environment) (fs : List Frame) (g : Frame)
    → Stays d c defined SimpleAt callers e fs → (callers ≡ [] → ⊥) → FrameStays fs (Keeps g)
unfolding Stays FrameStays
frame_of d c defined SimpleAt [] e fs g h k = absurd (k refl)
frame_of d c defined SimpleAt (kept ∷ callers) e [] g h k = tt
frame_of d c defined SimpleAt (kept ∷ callers) e (f ∷ []) g h k = absurd h
frame_of d c defined SimpleAt (kept ∷ callers) e (f ∷ j ∷ fs) g h k = tt

-- where nobody waits, the place shares what its process does
module _ (d : Facts) (c : Certificate) (defined : List Text) (SimpleAt : Around → Work → Seen → Type 0) where
  same_shares : (base : Around) (callers : List Facts) (ws : List Work) (o : After) → callers ≡ [] → Good d c defined SimpleAt base callers ws o → (around base ws).shares ≡ base.shares
  unfolding Good around OfFirst
  same_shares base callers [] o none good = refl
  same_shares base [] (Return n f saved ∷ ws) o none good = absurd good
  same_shares base (kept ∷ callers) (Return n f saved ∷ ws) o none good = cc
  same_shares base callers (w ∷ ws) o none good =
      let next = front_goes d c defined SimpleAt (around base ws) w (λ r. Good d c defined SimpleAt base callers ws r) good.after good.goes in
      same_shares base callers ws next.0 none next.1

  abbrev Well : Around → Environment → List Frame → ℕ → List Work → Type 0
  Well base e fs status ws = ProcessOk d c defined SimpleAt base e fs status ws

  abbrev Ok : Around → Environment → List Frame → ℕ → Effect → Type 0
  Ok base e fs status x = StepOk d c defined SimpleAt base e fs status x

  module _ (base : Around) (e : Environment) (fs : List Frame) (status : ℕ) (ws : List Work) where
    -- what may be dropped is gone
    pub drops_ok : (names : Names) (o : After) (now : ℕ) (e' : Environment) (vs : List Work) (live : Well base e fs status vs) → Good d c defined SimpleAt base live.callers ws o
        → MayDrop d c (around base ws) names → Spares names e e' → Bodies d c defined e'.functions → AfterHolds d c now o e' (front fs) → Ok base e fs status (goes e' (front fs) now ws)
    unfolding NextOk StartsOk i.Each
    drops_ok names o now e' vs live good may spares bodies h = record {
      quiet = refl;
      next = λ k. subst (λ gs. Well base e' gs now ws) (sym (same_frames d c defined SimpleAt fs)) (record {
        known = o;
        callers = live.callers;
        good = good_in d c defined SimpleAt (front fs) base live.callers ws o good;
        holds = h;
        stays = drop_stays d c defined SimpleAt base live.callers ws o good names may e e' fs spares live.stays;
        bodies = bodies;
      });
      starts = tt;
      grows = λ shares. let none = quiet_drop d c defined SimpleAt base live.callers ws o good shares names may in spares_grow names e e' none.0 none.1 spares;
      frame = λ shares. frame_stays d c defined SimpleAt fs;
    }

    -- other parameters: not in a part of a pipeline
    pub moves_ok : (g : Frame) (o : After) (now : ℕ) (vs : List Work) (live : Well base e fs status vs) → Good d c defined SimpleAt base live.callers ws o
        → ((around base ws).shares ≡ true → ⊥) → AfterHolds d c now o e g → Ok base e fs status (goes e g now ws)
    unfolding NextOk StartsOk i.Each
    moves_ok g o now vs live good alone h = record {
      quiet = refl;
      next = λ k. record {
        known = o;
        callers = live.callers;
        good = good_in d c defined SimpleAt (front (frames_behind fs (Keeps g))) base live.callers ws o good;
        holds = subst (λ k. AfterHolds d c now o e k) (sym (front_moved d c defined SimpleAt live.callers e fs g live.stays)) h;
        stays = stays_front d c defined SimpleAt live.callers e fs g live.stays;
        bodies = live.bodies;
      };
      starts = tt;
      grows = λ shares. grows_refl e;
      frame = λ shares. frame_of d c defined SimpleAt live.callers e fs g live.stays (λ none. alone (same_shares base live.callers ws o none good ∙ shares));
    }

-- Steps over what is known after the words

module _ (d : Facts) (c : Certificate) where
  pub shift_holds : (n : ℕ) (s : Seen) (e : Environment) (f g : Frame) → length f - n ≤ length g → OneHolds d c s e f → OneHolds d c (stepped (Shift n) s) e g
  unfolding Holds step where_known
  shift_holds n s e f g l h = one_stepped d c (Shift n) s e e f g go h
    where
      go : (y : Facts) → Holds y e f → Holds (step c (Shift n) y) e g
      go NotReached h = h
      go (Known v q m) h = record { variables = h.variables; job = h.job; functions = h.functions; parameters = let k : m ≤ length f = h.parameters in omega (arith, k, l) }

  pub none_counted : (s : Seen) (e : Environment) (f g : Frame) → OneHolds d c s e f → OneHolds d c (stepped (Count (total [])) s) e g
  unfolding total
  none_counted s e f g h = one_stepped d c (Count (total [])) s e e f g (λ y k. counted_holds c (total []) y e f g k (omega arith)) h

  pub has_names : (g : Gains) (e : Environment) (f k : Frame) → Has g e f → Has (named g.names) e k
  has_names g e f k h = record { variables = h.variables; job = h.job; functions = λ t i s. cc; parameters = omega arith }
