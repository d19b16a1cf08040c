-- How a command begins.
use Rattle.std.proofs.Common.{◌≡◌, ℕ, true, false, ◌&&◌, Some, List, [], ◌∷◌, refl, ap, inl, inr, ◌⊎◌}
use Rattle.std.proofs.lemmas.Bool.{and_parts, false≢true}
use Rattle.sh_tree.specs.standard.language.Bytes.{is_name}
use Rattle.sh_tree.specs.standard.program.Syntax as p
use Rattle.sh_tree.specs.standard.program.Syntax.{Text}
use Rattle.sh_tree.specs.standard.program.Words.{operands_in, redirects_in, assignments_in}
use Rattle.sh_runs.specs.standard.runs.Environment.{Environment, Frame, is_one_of}
use Rattle.sh_runs.specs.standard.runs.Answers.{Answer}
use Rattle.sh_runs.specs.standard.runs.Steps.{simple_work, command_work, act_on}
use Rattle.sh_runs.specs.standard.runs.Work.{Work, Command, Compound, Effect, goes}
use Rattle.sh_domain.specs.declared.rule.FlowRule.{FlowRule}
use Rattle.sh_domain.specs.Demands.{kind_unmet, elements_unmet}
use Rattle.sh_domain.specs.Entries as entries
use Rattle.sh_domain.specs.Entries.{Around, behind_redirects}
use Rattle.sh_domain.specs.Facts.{Facts, facts}
use Rattle.sh_domain.specs.Gains.{no_gains, with_gains, word_gains, words_gains, redirects_gains}
use Rattle.sh_domain.specs.Inclusions as i
use Rattle.sh_domain.specs.Inclusions.{behind, EnteredRules, elements_formed, field_formed, word_formed, redirect_formed, redirects_formed, kind_formed, command_formed}
use Rattle.sh_domain.specs.Needs.{word_unmet, redirect_unmet}
use Rattle.sh_domain.specs.Rules.{defined_by, losses}
use Rattle.sh_domain.specs.Table.{is_redirected}
use Rattle.sh_domain.specs.Views.{Certificate, Before, AfterNonzero, Seen, Both, in_any_case, at, gaining}
use Rattle.sh_sound.specs.Fields.{FieldsFit}
use Rattle.sh_sound.specs.Holding.{Stands, OneHolds, Entails}
use Rattle.sh_sound.specs.Going.{around, front, number_of, WordsAt, CompoundAt, FrontGood, Good, GoodIn, ProcessOk, StepOk}
use Rattle.sh_sound.specs.Doing.{EachOpened, EachValue, WordsStage, SimpleAt}
use Rattle.sh_sound.proofs.HoldLemmas.{each_left, each_right, has_nothing, holds_with, gain_holds, covers_at, holds_at, any_holds, both_holds, grows_refl}
use Rattle.sh_sound.proofs.ExpansionLemmas.{none_both}
use Rattle.sh_sound.proofs.ListLemmas.{step_goes, leads_same}
use Rattle.sh_sound.proofs.StepLemmas.{grown_in}
use Rattle.sh_sound.proofs.EnterLemmas.{Known, known_gain, word_at, redirect_at, redirects_at, is_compound, kind_at}

module _ (d : Facts) (c : Certificate) (defined : List Text) where
  -- the words, redirections and values of a simple command may be expanded
  pub record ElementsAt (b behind : Seen) (es : p.Elements) : Type 0 where
    pub words : WordsAt d c defined b (operands_in es)
    pub opened : EachOpened d c defined behind (redirects_in es)
    pub values : EachValue d c defined behind (assignments_in es)

  elements_at : (b seen : Seen) (x : Facts) (bb seenb : Seen) (xb : Facts) (es : p.Elements) → Known d c defined b seen x → Known d c defined bb seenb xb
      → i.Each (Stands d c defined) (entries.elements_entered seen seenb es) → elements_unmet x xb es ≡ [] → elements_formed es ≡ true → ElementsAt b bb es
  unfolding WordsAt EachOpened EachValue operands_in redirects_in assignments_in elements_unmet elements_formed entries.elements_entered
  elements_at b seen x bb seenb xb p.no_elements k kb r m formed = record { words = tt; opened = tt; values = tt }
  elements_at b seen x bb seenb xb (p.assignment name value es) k kb r m formed =
      let met = none_both (word_unmet xb value) (elements_unmet x xb es) m in
      let form = and_parts (is_name name && word_formed value) (elements_formed es) formed in
      let both = and_parts (is_name name) (word_formed value) form.0 in
      let rest = elements_at b seen x bb seenb xb es k kb (each_right (Stands d c defined) (entries.word_entered seenb value) _ r) met.1 form.1 in
      record {
        words = rest.words;
        opened = rest.opened;
        values = (both.0, word_at d c defined bb seenb xb value kb (each_left (Stands d c defined) (entries.word_entered seenb value) _ r) met.0 both.1, rest.values);
      }
  elements_at b seen x bb seenb xb (p.operand w es) k kb r m formed =
      let met = none_both (word_unmet x w) (elements_unmet (with_gains (word_gains w) x) xb es) m in
      let form = and_parts (field_formed w) (elements_formed es) formed in
      let rest =
      elements_at (gaining (word_gains w) b) (gaining (word_gains w) seen) (with_gains (word_gains w) x) bb seenb xb es (known_gain d c defined (word_gains w) b seen x k) kb
      (each_right (Stands d c defined) (entries.word_entered seen w) _ r) met.1 form.1 in
      record {
        words = (word_at d c defined b seen x w k (each_left (Stands d c defined) (entries.word_entered seen w) _ r) met.0 (and_parts (word_formed w) _ form.0).0, rest.words);
        opened = rest.opened;
        values = rest.values;
      }
  elements_at b seen x bb seenb xb (p.redirection r es) k kb q m formed =
      let met = none_both (redirect_unmet xb r) (elements_unmet x xb es) m in
      let form = and_parts (redirect_formed r) (elements_formed es) formed in
      let rest = elements_at b seen x bb seenb xb es k kb (each_right (Stands d c defined) (entries.redirect_entered seenb r) _ q) met.1 form.1 in
      record {
        words = rest.words;
        opened = (redirect_at d c defined bb seenb xb r kb (each_left (Stands d c defined) (entries.redirect_entered seenb r) _ q) met.0 form.0, rest.opened);
        values = rest.values;
      }

  known_before : (n : ℕ) → Known d c defined (at (Before n)) (at (Before n)) (facts (c.claim (Before n)))
  known_before n = record { entails = λ e f h. h; knows = λ e f h. holds_at d c (Before n) e f h }

  -- a simple command has no redirections after it
  unredirected : (n : ℕ) (es : p.Elements) (rs : p.Redirects) → kind_formed (p.Simple es) rs ≡ true → Known d c defined (at (Before n)) (behind_redirects n rs) (with_gains (redirects_gains rs) (facts (c.claim (Before n))))
  unfolding kind_formed is_redirected redirects_gains
  unredirected n es p.no_redirects h = record {
    entails = λ e f k. gain_holds d c no_gains (at (Before n)) e f (has_nothing e f) k;
    knows = λ e f k. holds_with no_gains (facts (c.claim (Before n))) e f (has_nothing e f) (holds_at d c (Before n) e f k);
  }
  unredirected n es (p.more_redirects r rs) h = absurd (false≢true (and_parts (elements_formed es) false h).1)

  abbrev Well : Around → Environment → List Frame → ℕ → List Work → Type 0
  Well base e fs status ws = ProcessOk d c defined (SimpleAt d c defined) base e fs status ws

  abbrev Ok : Around → Environment → List Frame → ℕ → Effect → Type 0
  Ok base e fs status x = StepOk d c defined (SimpleAt d c defined) base e fs status x

  -- what a simple command that is entered gives to its words
  words_stage : (x : Around) (s : Seen) (rule : FlowRule) (n offset : ℕ) (es : p.Elements) (rs : p.Redirects)
      → i.Each (Stands d c defined) (entries.command_entered rule x s (p.command n offset (p.Simple es) rs))
      → WordsStage d c defined x (record { number = n; elements = es }) (operands_in es) (redirects_in es) (assignments_in es) (at (Before n))
  unfolding entries.command_entered entries.kind_entered kind_unmet command_formed kind_formed i.Each EnteredRules losses
  words_stage x s rule n offset es rs h =
      let first : Stands d c defined (record { command = p.command n offset (p.Simple es) rs; rule = rule; around = x; seen = s }) = h.0 in
      let formed = (and_parts (kind_formed (p.Simple es) rs) (redirects_formed rs) first.rules.formed).0 in
      let known = unredirected n es rs formed in
      let inside = each_right (Stands d c defined) (entries.redirects_entered (at (Before n)) rs) _ h.1 in
      let parts = elements_at (at (Before n)) (behind_redirects n rs) _ (behind d c n es) _ _ es known (known_gain d c defined (words_gains (operands_in es)) _ _ _ known) inside first.rules.words_met
      (form es rs formed) in
      record {
        rules = record { seen = s; offset = offset; redirects = rs; rules = first.rules; named = first.named };
        words = parts.words;
        behind_words = λ e f k. k;
        redirects = refl;
        assignments = refl;
        opened = parts.opened;
        values = parts.values;
      }
    where
      form : (es : p.Elements) (rs : p.Redirects) → kind_formed (p.Simple es) rs ≡ true → elements_formed es ≡ true
      form es rs h = (and_parts (elements_formed es) _ h).0

  -- from the redirections of a compound command to what is in it
  failed_before : (n : ℕ) (rs : p.Redirects) → (is_redirected rs ≡ true → i.Covers d c (AfterNonzero n) (at (Before n))) → Entails d c (at (Before n)) (at (AfterNonzero n)) ⊎ (rs ≡ p.no_redirects)
  unfolding is_redirected
  failed_before n p.no_redirects h = inr refl
  failed_before n (p.more_redirects r rs) h = inl (covers_at d c (AfterNonzero n) (at (Before n)) (h refl))

  defines : (n offset : ℕ) (kind : p.Kind) (rs : p.Redirects) → ((f : Text) → defined_by (p.command n offset kind rs) ≡ Some f → is_one_of defined f ≡ true)
      → (name : Text) (body : p.Command) → kind ≡ p.Define name body → is_one_of defined name ≡ true
  unfolding defined_by
  defines n offset kind rs h name body same = h name (ap (λ k. defined_by (p.command n offset k rs)) same)

  module _ (base : Around) (e : Environment) (fs : List Frame) (status : ℕ) (ws : List Work) (a : Answer) where
    abbrev f : Frame
    f = front fs

    begins_ok : (k : p.Command) (w : Work) (n : ℕ) (s : Seen) (live : Well base e fs status (Command k ∷ ws)) → i.Covers d c (Before n) s → OneHolds d c s e f
        → GoodIn d c defined (SimpleAt d c defined) f base live.callers (w ∷ ws) (Both (at (Before n))) → Ok base e fs status (goes e f status (w ∷ ws))
    begins_ok k w n s live covers known good =
        step_goes d c defined (SimpleAt d c defined) base e e fs status status (w ∷ ws) (grows_refl e)
        (grown_in d c defined (SimpleAt d c defined) base e fs status ws a e status (Command k ∷ ws) (w ∷ ws) live (Both (at (Before n))) (grows_refl e) refl good
        (both_holds d c status (at (Before n)) e f (covers_at d c (Before n) s covers e f known)))

    simple_ok : (n offset : ℕ) (es : p.Elements) (rs : p.Redirects) → Well base e fs status (Command (p.command n offset (p.Simple es) rs) ∷ ws)
        → Ok base e fs status (goes e f status (simple_work (record { number = n; elements = es }) ∷ ws))
    unfolding GoodIn Good FrontGood SimpleAt FieldsFit number_of in_any_case entries.command_entered i.Each EnteredRules
    simple_ok n offset es rs live =
        let q = live.good.after in
        let s = in_any_case q in
        let all = live.good.goes.0 in
        begins_ok (p.command n offset (p.Simple es) rs) (simple_work (record { number = n; elements = es })) n s live all.1.0.rules.before
        (any_holds d c status q e f (live.good.leads status e f live.holds)) (
          refl,
          record {
            after = Both (at (Before n));
            leads = leads_same d c defined (SimpleAt d c defined) (Both (at (Before n)));
            goes = (words_stage (around base ws) s all.0 n offset es rs all.1, live.good.goes.1);
          },
        )

    compound_begins_ok : (n offset : ℕ) (kind : p.Kind) (rs : p.Redirects) → is_compound d c defined kind ≡ true → Well base e fs status (Command (p.command n offset kind rs) ∷ ws)
        → Ok base e fs status (goes e f status (Compound n rs kind ∷ ws))
    unfolding GoodIn Good FrontGood number_of in_any_case entries.command_entered command_formed i.Each EnteredRules
    compound_begins_ok n offset kind rs is live =
        let q = live.good.after in
        let s = in_any_case q in
        let x = around base ws in
        let all = live.good.goes.0 in
        let first : Stands d c defined (record { command = p.command n offset kind rs; rule = all.0; around = x; seen = s }) = all.1.0 in
        let before = at (Before n) in
        let b = behind_redirects n rs in
        let known = known_gain d c defined (redirects_gains rs) before before (facts (c.claim (Before n))) (known_before n) in
        let formed = and_parts (kind_formed kind rs) (redirects_formed rs) first.rules.formed in
        let redirects = entries.redirects_entered before rs in
        let needs : CompoundAt d c defined x n rs kind before (λ r. Good d c defined (SimpleAt d c defined) base live.callers ws r) = record {
          redirects = redirects_at d c defined before before (facts (c.claim (Before n))) rs (known_before n) (each_left (Stands d c defined) redirects _ all.1.1) first.rules.redirects_met formed.1;
          failed = failed_before n rs first.rules.redirected;
          first = λ e' f' h. h;
          behind = b;
          through = λ e' f' h. h;
          needs =
              kind_at d c defined (SimpleAt d c defined) base live.callers ws n kind rs b (with_gains (redirects_gains rs) (facts (c.claim (Before n)))) is
              (record { entails = λ e' f' h. h; knows = known.knows })
              first.rules.kind (each_right (Stands d c defined) redirects _ all.1.1) first.rules.words_met formed.0 (defines n offset kind rs first.listed) live.good.goes.1;
        } in
        begins_ok (p.command n offset kind rs) (Compound n rs kind) n s live first.rules.before
        (any_holds d c status q e f (live.good.leads status e f live.holds))
        (record { after = Both before; leads = leads_same d c defined (SimpleAt d c defined) (Both before); goes = (needs, live.good.goes.1) })

    -- a command, of whatever kind
    pub command_ok : (k : p.Command) → Well base e fs status (Command k ∷ ws) → Ok base e fs status (act_on e f status ws a (Command k))
    unfolding act_on command_work is_compound
    command_ok (p.command n offset (p.Simple es) rs) live = simple_ok n offset es rs live
    command_ok (p.command n offset kind rs) live = compound_begins_ok n offset kind rs refl live
