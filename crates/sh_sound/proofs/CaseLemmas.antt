-- Steps of `case` and of the words of `for`.
use Rattle.std.proofs.Common.{◌≡◌, ℕ, zero, suc, Bool, true, false, ◌||◌, if◌then◌else◌, List, [], ◌∷◌, ◌++◌, codes, refl, sym, subst}
use Rattle.std.specs.List.{list_any}
use Rattle.std.proofs.lemmas.Bool.{or_parts}
use Rattle.sh_tree.specs.declared.tree.ClauseEnd.{ClauseEnd}
use Rattle.sh_tree.specs.declared.tree.ClauseEnd.TheVariants as clause
use Rattle.sh_tree.specs.standard.program.Syntax as p
use Rattle.sh_tree.specs.standard.program.Syntax.{Text}
use Rattle.sh_tree.specs.standard.program.Words.{is_plainly, words_in}
use Rattle.sh_runs.specs.standard.runs.Environment.{Environment, Frame}
use Rattle.sh_runs.specs.standard.runs.Answers.{Answer}
use Rattle.sh_runs.specs.standard.runs.States.{State, fresh}
use Rattle.sh_runs.specs.standard.runs.Expansion.{in_one, in_fields, expand}
use Rattle.sh_runs.specs.standard.runs.Steps.{picked, clauses, falls, fall, clause_list, matched, patterns, over_fields, for_words, unless_ended, status_behind, word_fields, word_splits, act_on}
use Rattle.sh_runs.specs.standard.runs.Work.{Work, Items, ForWords, ForFields, Clauses, Patterns, Fall, Effect, goes, after_expansion}
use Rattle.sh_domain.specs.declared.rule.FlowRule.TheVariants.{F9}
use Rattle.sh_domain.specs.Entries as entries
use Rattle.sh_domain.specs.Entries.{Around, items_after}
use Rattle.sh_domain.specs.Facts.{Facts}
use Rattle.sh_domain.specs.Gains.{Gains, and_gains, no_gains, word_gains, words_gains}
use Rattle.sh_domain.specs.Rules.{is_last, matches_always}
use Rattle.sh_domain.specs.Views.{Certificate, AfterZero, Head, Seen, After, Both, if_zero, in_any_case, after_command, at, gaining}
use Rattle.sh_sound.specs.Holding.{Stands, Grows, OneHolds, Entails, Expanded}
use Rattle.sh_domain.specs.Inclusions as i
use Rattle.sh_domain.specs.Inclusions.{Covers, Leaves}
use Rattle.sh_sound.specs.Going.{around, front, WordAt, WordsAt, PatternsAt, PatternsOf, ItemsAt, ClausesAt, ClauseAt, ForAt, FallAt, FrontGood, Good, GoodIn, ProcessOk, StepOk}
use Rattle.sh_sound.proofs.HoldLemmas.{each_left, each_right, grows_refl, has_nothing, has_both, one_left, one_right, covers_at, gain_holds, holds_gain, has_gain, any_holds, both_holds, leads_any, leaves_lead}
use Rattle.sh_sound.proofs.ListLemmas.{good_weaker, step_goes, turns_to, leads_same}
use Rattle.sh_sound.proofs.StepLemmas.{Plain, goes_plain, word_expands, behind_word, unless_ok, grown, word_step}

-- one of the patterns, and the others
module _ (test : p.Word → Bool) where
  picked_none : (k : ℕ) (w : p.Word) (vs : p.Words) → test (picked k w vs).0 ≡ false → list_any test (words_in (picked k w vs).1) ≡ false → (test w || list_any test (words_in vs)) ≡ false
  unfolding picked words_in
  picked_none k w p.no_words h n = rw h refl
  picked_none zero w (p.more_words v vs) h n = rw h n
  picked_none (suc k) w (p.more_words v vs) h n =
      let both = or_parts (test w) (list_any test (words_in (picked k v vs).1)) n in
      rw (both.0) (picked_none k v vs h both.1)

module _ (d : Facts) (c : Certificate) (defined : List Text) where
  picked_at : (s : Seen) (k : ℕ) (w : p.Word) (vs : p.Words) → WordAt d c defined s w → PatternsAt d c defined s vs
      → WordAt d c defined s (picked k w vs).0 × PatternsAt d c defined s (picked k w vs).1
  unfolding picked PatternsAt
  picked_at s k w p.no_words h hs = (h, tt)
  picked_at s zero w (p.more_words v vs) h hs = (h, hs)
  picked_at s (suc k) w (p.more_words v vs) h hs = let both = picked_at s k v vs hs.0 hs.1 in (both.0, (h, both.1))

  -- gains one after the other
  pub gain_two : (g h : Gains) (s : Seen) → Entails d c (gaining h (gaining g s)) (gaining (and_gains g h) s)
  gain_two g h s e f k =
      let first = holds_gain d c h (gaining g s) e f k in
      gain_holds d c (and_gains g h) s e f (has_both g h e f (has_gain d c g s e f first) (has_gain d c h (gaining g s) e f k)) (holds_gain d c g s e f first)

  module _ (SimpleAt : Around → Work → Seen → Type 0) where
    abbrev Well : Around → Environment → List Frame → ℕ → List Work → Type 0
    Well base e fs status ws = ProcessOk d c defined SimpleAt base e fs status ws

    abbrev Ok : Around → Environment → List Frame → ℕ → Effect → Type 0
    Ok base e fs status x = StepOk d c defined SimpleAt base e fs status x

    module _ (base : Around) (e : Environment) (fs : List Frame) (status : ℕ) (ws : List Work) (a : Answer) where
      abbrev x : Around
      x = around base ws

      abbrev Behind : List Facts → List Work → After → Type 0
      Behind callers us o = Good d c defined SimpleAt base callers us o

      -- the next clause, from those that are left
      clause_of : (n : ℕ) (s fallen : Seen) (ps : p.Words) (body : p.Items) (end : ClauseEnd) (rest : p.Clauses)
          → ClausesAt d c defined x n s fallen (p.more_clauses ps body end rest) → (matches_always (p.more_clauses ps body end rest) ≡ false → Covers d c (AfterZero n) s)
          → ClauseAt d c defined x n s fallen ps body end rest
      unfolding i.ClausesLeave PatternsOf entries.clauses_entered matches_always
      clause_of n s fallen ps body end rest h unmatched =
          let patterns = entries.patterns_entered s ps in
          let list = entries.items_entered F9 x (Both (s ++ fallen)) body in
          let two = each_left (Stands d c defined) (patterns ++ list) _ h.entered in
          record {
            patterns = h.patterns.0;
            entered = (F9, each_right (Stands d c defined) patterns list two);
            leaves = h.leave.0;
            behind = record { entered = each_right (Stands d c defined) (patterns ++ list) _ h.entered; leave = h.leave.1; patterns = h.patterns.1 };
            unmatched = unmatched;
          }

      pub clauses_ok : (n : ℕ) (cs : p.Clauses) → Well base e fs status (Clauses n cs ∷ ws) → Ok base e fs status (act_on e (front fs) status ws a (Clauses n cs))
      unfolding act_on clauses GoodIn Good FrontGood around in_any_case matches_always if_zero
      clauses_ok n p.no_clauses live =
          let q = live.good.after in
          let known = any_holds d c status q e (front fs) (live.good.leads status e (front fs) live.holds) in
          turns_to d c defined SimpleAt base e fs status 0 _ ws live (after_command n) live.good.goes.2 (covers_at d c (AfterZero n) (in_any_case q) (live.good.goes.1 refl) e (front fs) known)
      clauses_ok n (p.more_clauses ps body end rest) live =
          let s = in_any_case live.good.after in
          let known = any_holds d c status live.good.after e (front fs) (live.good.leads status e (front fs) live.holds) in
          turns_to d c defined SimpleAt base e fs status status _ (Patterns n ps body end rest ∷ ws) live (Both s)
          (record {
            after = Both s;
            leads = leads_same d c defined SimpleAt (Both s);
            goes = ((live.good.goes.0.0, clause_of n s live.good.goes.0.0 ps body end rest live.good.goes.0.1 live.good.goes.1), live.good.goes.2);
          })
          (both_holds d c status s e (front fs) known)

      -- after the list of a clause
      fall_good : (callers : List Facts) (n : ℕ) (s : Seen) (o : After) (end : ClauseEnd) (rest : p.Clauses) → (is_last end rest ≡ true → Leaves d c n o)
          → ClausesAt d c defined x n s (entries.falls end o) rest → Behind callers ws (after_command n) → Behind callers (fall e (front fs) status ws a n end rest) o
      unfolding fall is_last entries.falls GoodIn Good FrontGood FallAt
      fall_good callers n s o clause.Break rest leaves behind goes = good_weaker d c defined SimpleAt base callers ws o (after_command n) (leaves_lead d c n o (leaves refl)) goes
      fall_good callers n s o clause.FallThrough p.no_clauses leaves behind goes = record { after = o; leads = leads_same d c defined SimpleAt o; goes = (leaves_lead d c n o (leaves refl), goes) }
      fall_good callers n s o clause.FallThrough (p.more_clauses ps body end rest) leaves behind goes =
          record { after = o; leads = leads_same d c defined SimpleAt o; goes = ((s, in_any_case o, leads_any d c o, behind), goes) }

      fall_around : (n : ℕ) (end : ClauseEnd) (rest : p.Clauses) → around base (fall e (front fs) status ws a n end rest) ≡ x
      unfolding fall around
      fall_around n clause.Break rest = refl
      fall_around n clause.FallThrough rest = refl

      -- the list of a clause, in a grown environment
      list_good : (callers : List Facts) (n : ℕ) (s fallen : Seen) (body : p.Items) (end : ClauseEnd) (rest : p.Clauses) → ItemsAt d c defined x (Both (s ++ fallen)) body
          → Behind callers (fall e (front fs) status ws a n end rest) (items_after (Both (s ++ fallen)) body) → Behind callers (Items body ∷ fall e (front fs) status ws a n end rest) (Both (s ++ fallen))
      unfolding GoodIn Good FrontGood
      list_good callers n s fallen body end rest entered behind =
          record { after = Both (s ++ fallen); leads = leads_same d c defined SimpleAt (Both (s ++ fallen)); goes = (subst (λ y. ItemsAt d c defined y (Both (s ++ fallen)) body) (sym (fall_around n end rest)) entered, behind) }

      clause_ok : (now : Environment) (last n : ℕ) (s fallen : Seen) (left : p.Words) (body : p.Items) (end : ClauseEnd) (rest : p.Clauses) (vs : List Work) (live : Well base e fs status vs)
          → Grows e now → now.functions ≡ e.functions → OneHolds d c (s ++ fallen) now (front fs) → ItemsAt d c defined x (Both (s ++ fallen)) body
          → (is_last end rest ≡ true → Leaves d c n (items_after (Both (s ++ fallen)) body)) → ClausesAt d c defined x n s (entries.falls end (items_after (Both (s ++ fallen)) body)) rest
          → Behind live.callers ws (after_command n) → Ok base e fs status (clause_list e (front fs) status ws a n body end rest now last)
      unfolding clause_list items_after
      clause_ok now last n s fallen left p.no_items end rest vs live g same h entered leaves behind goes =
          step_goes d c defined SimpleAt base e now fs status a.status (fall e (front fs) status ws a n end rest) g
          (grown d c defined SimpleAt base e fs status ws a now a.status vs (fall e (front fs) status ws a n end rest) live (Both (s ++ fallen)) g same
          (fall_good live.callers n s (Both (s ++ fallen)) end rest leaves behind goes) (both_holds d c a.status (s ++ fallen) now (front fs) h))
      clause_ok now last n s fallen left (p.more_items list background is) end rest vs live g same h entered leaves behind goes =
          let body = p.more_items list background is in
          step_goes d c defined SimpleAt base e now fs status last (Items body ∷ fall e (front fs) status ws a n end rest) g
          (grown d c defined SimpleAt base e fs status ws a now last vs (Items body ∷ fall e (front fs) status ws a n end rest) live (Both (s ++ fallen)) g same
          (list_good live.callers n s fallen body end rest entered (fall_good live.callers n s (items_after (Both (s ++ fallen)) body) end rest leaves behind goes))
          (both_holds d c last (s ++ fallen) now (front fs) h))

      clause_plain : (now : Environment) (last n : ℕ) (body : p.Items) (end : ClauseEnd) (rest : p.Clauses) → Plain d c defined SimpleAt fs (clause_list e (front fs) status ws a n body end rest now last)
      unfolding clause_list
      clause_plain now last n p.no_items end rest = goes_plain d c defined SimpleAt fs now a.status (fall e (front fs) status ws a n end rest)
      clause_plain now last n (p.more_items list background is) end rest = goes_plain d c defined SimpleAt fs now last (Items (p.more_items list background is) ∷ fall e (front fs) status ws a n end rest)

      clause_environment : (now : Environment) (last n : ℕ) (body : p.Items) (end : ClauseEnd) (rest : p.Clauses) → (clause_list e (front fs) status ws a n body end rest now last).environment ≡ now
      unfolding clause_list
      clause_environment now last n p.no_items end rest = refl
      clause_environment now last n (p.more_items list background is) end rest = refl

      -- `;&`
      pub fall_ok : (n : ℕ) (cs : p.Clauses) → Well base e fs status (Fall n cs ∷ ws) → Ok base e fs status (act_on e (front fs) status ws a (Fall n cs))
      unfolding act_on falls GoodIn Good FrontGood FallAt around i.ClausesLeave PatternsOf entries.clauses_entered in_any_case
      fall_ok n p.no_clauses live =
          turns_to d c defined SimpleAt base e fs status status _ ws live (after_command n) live.good.goes.1
          (live.good.goes.0 status e (front fs) (live.good.leads status e (front fs) live.holds))
      fall_ok n (p.more_clauses ps body end rest) live =
          let it = live.good.goes.0 in
          let s = it.0 in
          let fallen = it.1 in
          let at_clauses = it.3 in
          let patterns = entries.patterns_entered s ps in
          let list = entries.items_entered F9 x (Both (s ++ fallen)) body in
          let two = each_left (Stands d c defined) (patterns ++ list) _ at_clauses.entered in
          let known = any_holds d c status (Both fallen) e (front fs) (it.2 status e (front fs) (live.good.leads status e (front fs) live.holds)) in
          clause_ok e status n s fallen ps body end rest _ live (grows_refl e) refl (one_right d c s fallen e (front fs) known)
          (F9, each_right (Stands d c defined) patterns list two) at_clauses.leave.0
          (record { entered = each_right (Stands d c defined) (patterns ++ list) _ at_clauses.entered; leave = at_clauses.leave.1; patterns = at_clauses.patterns.1 })
          live.good.goes.1

      pub patterns_ok : (n : ℕ) (left : p.Words) (body : p.Items) (end : ClauseEnd) (rest : p.Clauses) → Well base e fs status (Patterns n left body end rest ∷ ws)
          → Ok base e fs status (act_on e (front fs) status ws a (Patterns n left body end rest))
      unfolding act_on patterns matched GoodIn Good FrontGood around PatternsAt in_any_case words_in
      patterns_ok n p.no_words body end rest live =
          let s = in_any_case live.good.after in
          let known = any_holds d c status live.good.after e (front fs) (live.good.leads status e (front fs) live.holds) in
          let clause_here = live.good.goes.0.1 in
          turns_to d c defined SimpleAt base e fs status status _ (Clauses n rest ∷ ws) live (Both s)
          (record { after = Both s; leads = leads_same d c defined SimpleAt (Both s); goes = ((_, clause_here.behind), clause_here.unmatched, live.good.goes.1) })
          (both_holds d c status s e (front fs) known)
      patterns_ok n (p.more_words w vs) body end rest live = go (is_plainly (42 ∷ []) v || a.matches) refl
        where
          s : Seen
          s = in_any_case live.good.after

          fallen : Seen
          fallen = live.good.goes.0.0

          known : OneHolds d c s e (front fs)
          known = any_holds d c status live.good.after e (front fs) (live.good.leads status e (front fs) live.holds)

          here : ClauseAt d c defined x n s fallen (p.more_words w vs) body end rest
          here = live.good.goes.0.1

          v : p.Word
          v = (picked a.pattern w vs).0

          others : p.Words
          others = (picked a.pattern w vs).1

          at_both : WordAt d c defined s v × PatternsAt d c defined s others
          at_both = picked_at s a.pattern w vs here.patterns.0 here.patterns.1

          t : State
          t = (expand (front fs) status in_one v (fresh e a.given)).state

          does : Expanded d c defined (front fs) (word_gains v) (fresh e a.given) t
          does = word_expands d c defined SimpleAt base e fs status ws a s in_one v at_both.0 known

          later : t.ended ≡ false → OneHolds d c s t.environment (front fs)
          later l = holds_gain d c (word_gains v) s t.environment (front fs) (behind_word d c defined SimpleAt base e fs status ws a s v t known does l)

          now : ℕ
          now = status_behind t status a

          list : Effect
          list = clause_list e (front fs) status ws a n body end rest t.environment now

          more : Effect
          more = goes t.environment (front fs) now (Patterns n others body end rest ∷ ws)

          left_good : (is_plainly (42 ∷ []) v || a.matches) ≡ false → Behind live.callers (Patterns n others body end rest ∷ ws) (Both s)
          left_good other = record {
            after = Both s;
            leads = leads_same d c defined SimpleAt (Both s);
            goes = (
              (
                fallen,
                record {
                  patterns = at_both.1;
                  entered = here.entered;
                  leaves = here.leaves;
                  behind = here.behind;
                  unmatched = λ u.
                      let both = or_parts (list_any (is_plainly (codes "*")) (words_in others)) (matches_always rest) u in
                      here.unmatched (rw (picked_none (is_plainly (codes "*")) a.pattern w vs (or_parts (is_plainly (42 ∷ []) v) a.matches other).0 both.0) both.1);
                },
              ),
              live.good.goes.1,
            );
          }

          go : (b : Bool) → (is_plainly (42 ∷ []) v || a.matches) ≡ b → Ok base e fs status (after_expansion t false (unless_ended e (front fs) status ws a t (if b then list else more)))
          go true hit =
              unless_ok d c defined SimpleAt base e fs status ws a t false list live.bodies does (clause_plain t.environment now n body end rest)
              (λ h l. clause_ok t.environment now n s fallen (p.more_words w vs) body end rest (Patterns n (p.more_words w vs) body end rest ∷ ws) live does.grows does.functions
              (one_left d c s fallen t.environment (front fs) (later l)) here.entered here.leaves here.behind live.good.goes.1)
              (λ h l. subst (Grows e) (sym (clause_environment t.environment now n body end rest)) does.grows)
          go false other =
              unless_ok d c defined SimpleAt base e fs status ws a t false more live.bodies does (goes_plain d c defined SimpleAt fs t.environment now (Patterns n others body end rest ∷ ws))
              (λ h l. step_goes d c defined SimpleAt base e t.environment fs status now (Patterns n others body end rest ∷ ws) does.grows
              (grown d c defined SimpleAt base e fs status ws a t.environment now (Patterns n (p.more_words w vs) body end rest ∷ ws) (Patterns n others body end rest ∷ ws) live (Both s) does.grows does.functions
              (left_good other) (both_holds d c now s t.environment (front fs) (later l))))
              (λ h l. does.grows)

      -- `for` over these fields
      pub fields_ok : (n : ℕ) (name : Text) (ts : List Text) (body : p.Items) (vs : List Work) (live : Well base e fs status vs) → ForAt d c defined x n name body
          → Behind live.callers ws (after_command n) → OneHolds d c (at (Head n)) e (front fs) → Ok base e fs status (over_fields e (front fs) status ws a n name ts body)
      unfolding over_fields GoodIn Good FrontGood
      fields_ok n name [] body vs live rules behind h =
          turns_to d c defined SimpleAt base e fs status 0 vs ws live (after_command n) behind
          (leaves_lead d c n (Both (at (Head n))) rules.rules.leaves 0 e (front fs) (both_holds d c 0 (at (Head n)) e (front fs) h))
      fields_ok n name (t ∷ ts) body vs live rules behind h =
          turns_to d c defined SimpleAt base e fs status status vs (ForFields n name (t ∷ ts) body ∷ ws) live (Both (at (Head n)))
          (record { after = Both (at (Head n)); leads = leads_same d c defined SimpleAt (Both (at (Head n))); goes = (leads_same d c defined SimpleAt (Both (at (Head n))), rules, behind) })
          (both_holds d c status (at (Head n)) e (front fs) h)

      pub for_words_ok : (n : ℕ) (name : Text) (left : p.Words) (ts : List Text) (body : p.Items) → Well base e fs status (ForWords n name left ts body ∷ ws)
          → Ok base e fs status (act_on e (front fs) status ws a (ForWords n name left ts body))
      unfolding act_on for_words GoodIn Good FrontGood around WordsAt in_any_case words_gains
      for_words_ok n name p.no_words ts body live =
          let s = in_any_case live.good.after in
          let known = any_holds d c status live.good.after e (front fs) (live.good.leads status e (front fs) live.holds) in
          fields_ok n name ts body _ live live.good.goes.2 live.good.goes.3 (live.good.goes.1 e (front fs) (gain_holds d c no_gains s e (front fs) (has_nothing e (front fs)) known))
      for_words_ok n name (p.more_words w left) ts body live =
          let s = in_any_case live.good.after in
          let known = any_holds d c status live.good.after e (front fs) (live.good.leads status e (front fs) live.holds) in
          let o = expand (front fs) status in_fields w (fresh e a.given) in
          let b = gaining (word_gains w) s in
          word_step d c defined SimpleAt base e fs status ws a s in_fields w (word_splits in_fields o) (λ t. status_behind t status a) _
          (ForWords n name left (ts ++ word_fields in_fields a o) body ∷ ws) live live.good.goes.0.0 known (Both b)
          (λ h. record {
            after = Both b;
            leads = leads_same d c defined SimpleAt (Both b);
            goes = (
              live.good.goes.0.1,
              (λ e' f' k. live.good.goes.1 e' f' (gain_two (word_gains w) (words_gains left) s e' f' k)),
              live.good.goes.2,
              live.good.goes.3,
            );
          })
          (λ e' m k. both_holds d c m b e' (front fs) k)
