-- Steps of `break`, `continue` and `return`: the marks that they go to, and what is claimed there.
use Rattle.std.proofs.Common.{◌≡◌, ℕ, ◌-◌, nat_le, Bool, true, false, if◌then◌else◌, List, [], ◌∷◌, Option, Some, None, is_some, refl, sym, subst}
use Rattle.sh_tree.specs.standard.program.Syntax.{Text}
use Rattle.sh_runs.specs.standard.runs.Environment.{Environment, Frame}
use Rattle.sh_runs.specs.standard.runs.Work.{Saved, Work, Return, Test, Again, ForFields, Mark, no_loop, marked, or_nearer, nth_mark, loop_mark, broken_off, continued, return_mark, Effect, goes}
use Rattle.sh_domain.specs.Entries.{Around}
use Rattle.sh_domain.specs.Facts.{Facts}
use Rattle.sh_domain.specs.Inclusions.{BreakRules, ContinueRules}
use Rattle.sh_domain.specs.Rules.{loop_at}
use Rattle.sh_domain.specs.Views.{Certificate, Head, Seen, After, Both, in_any_case, after_command, at}
use Rattle.sh_sound.specs.Holding.{OneHolds}
use Rattle.sh_sound.specs.Going.{around, front, OfFirst, after_function, FrontGood, Good, ProcessOk, StepOk}
use Rattle.sh_sound.proofs.HoldLemmas.{covers_at, both_holds, leaves_lead}
use Rattle.sh_sound.proofs.ListLemmas.{leads_same, turns_to}
use Rattle.sh_sound.proofs.DropLemmas.{front_goes}

-- in loops a jump has a loop
pub loop_found : (n l : ℕ) (ls : List ℕ) → is_some (loop_at n (l ∷ ls)) ≡ true
unfolding loop_at
loop_found n l [] = refl
loop_found n l (m ∷ ls) = go (nat_le n 1) (loop_found (n - 1) m ls)
  where
    go : (b : Bool) → is_some (loop_at (n - 1) (m ∷ ls)) ≡ true → is_some (if b then Some l else loop_at (n - 1) (m ∷ ls)) ≡ true
    go true ih = refl
    go false ih = ih

module _ (d : Facts) (c : Certificate) (defined : List Text) (SimpleAt : Around → Work → Seen → Type 0) where
  abbrev Well : Around → Environment → List Frame → ℕ → List Work → Type 0
  Well base e fs status ws = ProcessOk d c defined SimpleAt base e fs status ws

  abbrev Ok : Around → Environment → List Frame → ℕ → Effect → Type 0
  Ok base e fs status x = StepOk d c defined SimpleAt base e fs status x

  -- Loops

  -- after the loop of the mark its claims are known, and at its next turn what is claimed of its
  -- head
  unfoldable MarkGood : Around → List Facts → Mark → Option ℕ → Type 0
  MarkGood base callers no_loop None = Unit {0}
  MarkGood base callers no_loop (Some l) = ⊥
  MarkGood base callers (marked turn behind) None = ⊥
  MarkGood base callers (marked turn behind) (Some l) =
      Good d c defined SimpleAt base callers behind (after_command l) × Good d c defined SimpleAt base callers (turn ∷ behind) (Both (at (Head l)))

  nth_good : (base : Around) (callers : List Facts) (n l : ℕ) (ls : List ℕ) (further : Mark) (turn : Work) (behind : List Work) → MarkGood base callers further (loop_at (n - 1) ls)
      → MarkGood base callers (marked turn behind) (Some l) → MarkGood base callers (nth_mark n further turn behind) (loop_at n (l ∷ ls))
  unfolding nth_mark loop_at or_nearer MarkGood
  nth_good base callers n l [] further turn behind more here = go (nat_le n 1) further more
    where
      go : (b : Bool) (k : Mark) → MarkGood base callers k None → MarkGood base callers (if b then marked turn behind else or_nearer k turn behind) (Some l)
      go true k h = here
      go false no_loop h = here
      go false (marked t u) h = absurd h
  nth_good base callers n l (m ∷ ls) further turn behind more here = go (nat_le n 1) further (loop_at (n - 1) (m ∷ ls)) (loop_found (n - 1) m ls) more
    where
      go : (b : Bool) (k : Mark) (o : Option ℕ) → is_some o ≡ true → MarkGood base callers k o
          → MarkGood base callers (if b then marked turn behind else or_nearer k turn behind) (if b then Some l else o)
      go true k o s h = here
      go false no_loop None s h = cc
      go false no_loop (Some i) s h = absurd h
      go false (marked t u) o s h = h

  mark_good : (base : Around) (callers : List Facts) (n : ℕ) (ws : List Work) (o : After) → Good d c defined SimpleAt base callers ws o → MarkGood base callers (loop_mark n ws) (loop_at n (around base ws).loops)
  unfolding Good FrontGood around loop_mark loop_at MarkGood in_any_case
  mark_good base callers n [] o good = subst (λ ls. MarkGood base callers no_loop (loop_at n ls)) (sym good.no_loop) tt
  mark_good base callers n (Return m f saved ∷ ws) o good = tt
  mark_good base callers n (Test m kind condition body last ∷ ws) o good =
      nth_good base callers n m (around base ws).loops (loop_mark (n - 1) ws) (Again m kind condition body) ws
      (mark_good base callers (n - 1) ws (after_command m) good.goes.2)
      (good.goes.2, record { after = Both (at (Head m)); leads = leads_same d c defined SimpleAt (Both (at (Head m))); goes = (leads_same d c defined SimpleAt (Both (at (Head m))), good.goes.1, good.goes.2) })
  mark_good base callers n (Again m kind condition body ∷ ws) o good =
      nth_good base callers n m (around base ws).loops (loop_mark (n - 1) ws) (Again m kind condition body) ws
      (mark_good base callers (n - 1) ws (after_command m) good.goes.2)
      (good.goes.2, record { after = Both (at (Head m)); leads = leads_same d c defined SimpleAt (Both (at (Head m))); goes = (leads_same d c defined SimpleAt (Both (at (Head m))), good.goes.1, good.goes.2) })
  mark_good base callers n (ForFields m name fields body ∷ ws) o good =
      nth_good base callers n m (around base ws).loops (loop_mark (n - 1) ws) (ForFields m name fields body) ws
      (mark_good base callers (n - 1) ws (after_command m) good.goes.2)
      (good.goes.2, record { after = Both (at (Head m)); leads = leads_same d c defined SimpleAt (Both (at (Head m))); goes = (leads_same d c defined SimpleAt (Both (at (Head m))), good.goes.1, good.goes.2) })
  mark_good base callers n (w ∷ ws) o good =
      let next = front_goes d c defined SimpleAt (around base ws) w (λ r. Good d c defined SimpleAt base callers ws r) good.after good.goes in
      mark_good base callers n ws next.0 next.1

  -- Functions

  -- where the function of the mark returns, its claims are known
  unfoldable pub BackGood : Around → List Facts → Option (Saved × List Work) → Option Text → Type 0
  BackGood base callers None None = Unit {0}
  BackGood base callers None (Some f) = ⊥
  BackGood base callers (Some x) None = ⊥
  BackGood base callers (Some x) (Some f) = (n : ℕ) × Good d c defined SimpleAt base callers (Return n f x.0 ∷ x.1) (after_function f)

  -- at a return mark no more has to be known than what the function claims
  at_mark : (base : Around) (callers : List Facts) (n : ℕ) (f : Text) (saved : Saved) (ws : List Work) (o : After) → Good d c defined SimpleAt base callers (Return n f saved ∷ ws) o
      → Good d c defined SimpleAt base callers (Return n f saved ∷ ws) (after_function f)
  unfolding Good OfFirst
  at_mark base [] n f saved ws o good = absurd good
  at_mark base (kept ∷ callers) n f saved ws o good = (leads_same d c defined SimpleAt (after_function f), good.1, good.2)

  pub back_good : (base : Around) (callers : List Facts) (ws : List Work) (o : After) → Good d c defined SimpleAt base callers ws o → BackGood base callers (return_mark ws) (around base ws).function
  unfolding Good around return_mark BackGood
  back_good base callers [] o good = subst (λ x. BackGood base callers None x) (sym good.no_function) tt
  back_good base callers (Return n f saved ∷ ws) o good = (n, at_mark base callers n f saved ws o good)
  back_good base callers (w ∷ ws) o good =
      let next = front_goes d c defined SimpleAt (around base ws) w (λ r. Good d c defined SimpleAt base callers ws r) good.after good.goes in
      back_good base callers ws next.0 next.1

  module _ (base : Around) (e : Environment) (fs : List Frame) (status : ℕ) (ws : List Work) where
    -- `break` goes on after its loop
    pub break_ok : (n now : ℕ) (s : Seen) (o : After) (vs : List Work) (live : Well base e fs status vs) → Good d c defined SimpleAt base live.callers ws o
        → is_some (loop_at n (around base ws).loops) ≡ true → BreakRules d c (loop_at n (around base ws).loops) s → OneHolds d c s e (front fs)
        → Ok base e fs status (goes e (front fs) now (broken_off (loop_mark n ws) ws))
    unfolding MarkGood BreakRules broken_off
    break_ok n now s o vs live good found rules h = go (loop_mark n ws) (loop_at n (around base ws).loops) (mark_good base live.callers n ws o good) found rules
      where
        go : (k : Mark) (l : Option ℕ) → MarkGood base live.callers k l → is_some l ≡ true → BreakRules d c l s → Ok base e fs status (goes e (front fs) now (broken_off k ws))
        go no_loop None g i r = cc
        go no_loop (Some l) g i r = absurd g
        go (marked turn behind) None g i r = absurd g
        go (marked turn behind) (Some l) g i r =
            turns_to d c defined SimpleAt base e fs status now vs behind live (after_command l) g.0 (leaves_lead d c l (Both s) r now e (front fs) (both_holds d c now s e (front fs) h))

    -- `continue` goes on with the next turn of its loop
    pub continue_ok : (n now : ℕ) (s : Seen) (o : After) (vs : List Work) (live : Well base e fs status vs) → Good d c defined SimpleAt base live.callers ws o
        → is_some (loop_at n (around base ws).loops) ≡ true → ContinueRules d c (loop_at n (around base ws).loops) s → OneHolds d c s e (front fs)
        → Ok base e fs status (goes e (front fs) now (continued (loop_mark n ws) ws))
    unfolding MarkGood ContinueRules continued
    continue_ok n now s o vs live good found rules h = go (loop_mark n ws) (loop_at n (around base ws).loops) (mark_good base live.callers n ws o good) found rules
      where
        go : (k : Mark) (l : Option ℕ) → MarkGood base live.callers k l → is_some l ≡ true → ContinueRules d c l s → Ok base e fs status (goes e (front fs) now (continued k ws))
        go no_loop None g i r = cc
        go no_loop (Some l) g i r = absurd g
        go (marked turn behind) None g i r = absurd g
        go (marked turn behind) (Some l) g i r =
            turns_to d c defined SimpleAt base e fs status now vs (turn ∷ behind) live (Both (at (Head l))) g.1
            (both_holds d c now (at (Head l)) e (front fs) (covers_at d c (Head l) s r e (front fs) h))
