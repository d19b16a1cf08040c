-- Steps of the words of a simple command.
use Rattle.std.proofs.Common.{◌≡◌, ℕ, ◌≤◌, true, false, Some, None, List, [], ◌∷◌, ◌++◌, map, length, refl, sym, subst}
use Rattle.std.proofs.lemmas.Option.{none-some}
use Rattle.std.proofs.lemmas.Bool.{and_parts}
use Rattle.sh_tree.specs.standard.program.Syntax as p
use Rattle.sh_tree.specs.standard.program.Syntax.{Text}
use Rattle.sh_tree.specs.standard.program.Words.{Assignments, operands_in, redirects_in, assignments_in, static_of, words_in}
use Rattle.sh_runs.specs.standard.Kinds.{kind_of, is_declaration}
use Rattle.sh_runs.specs.Profile.{Static, named_rule, words_rule, command_rule}
use Rattle.sh_runs.specs.Surroundings.{Surroundings}
use Rattle.sh_runs.specs.standard.runs.Environment.{Environment, Frame}
use Rattle.sh_runs.specs.standard.runs.Answers.{Answer}
use Rattle.sh_runs.specs.standard.runs.Expansion.{Outcome, expand}
use Rattle.sh_runs.specs.standard.runs.States.{fresh}
use Rattle.sh_runs.specs.standard.runs.Steps.{Manner, Nameless, Special, Named, manner, is_declared, word_context, word_fields, word_splits, status_behind, unless_ended, words, act_on}
use Rattle.sh_runs.specs.standard.runs.Work.{Simple, Work, Words, Prepare, Effect, goes, after_expansion}
use Rattle.sh_domain.specs.Entries.{Around}
use Rattle.sh_domain.specs.Facts.{Facts, NotReached, Known}
use Rattle.sh_domain.specs.Gains.{Gains, no_gains, word_gains, words_gains}
use Rattle.sh_domain.specs.Inclusions.{behind, elements_formed, kind_formed, command_formed, redirects_formed, surroundings_of}
use Rattle.sh_domain.specs.Table.{is_redirected}
use Rattle.sh_domain.specs.Views.{Certificate, Seen, Both, in_any_case, gaining}
use Rattle.sh_sound.specs.Holding.{Holds, OneHolds, Entails}
use Rattle.sh_sound.specs.Fields.{FieldsFit}
use Rattle.sh_sound.specs.Going.{around, front, WordsAt, FrontGood, Good, GoodIn, ProcessOk, StepOk}
use Rattle.sh_sound.specs.Doing.{behind_facts, parameters, RulesAt, Settles, WordsStage, PrepareStage, SimpleAt}
use Rattle.sh_sound.proofs.CallLemmas.{behind_known}
use Rattle.sh_sound.proofs.FieldsLemmas.{fit_less, name_fits, operand_fits, static_one, operand_gives, left_formed}
use Rattle.sh_sound.proofs.HoldLemmas.{has_nothing, gain_holds, holds_gain, has_gain, any_holds, both_holds}
use Rattle.sh_sound.proofs.CaseLemmas.{gain_two}
use Rattle.sh_sound.proofs.ListLemmas.{turns_to, leads_same}
use Rattle.sh_sound.proofs.StepLemmas.{word_step_in}

-- The name of an admitted command is static

named_static : (x : Surroundings) (w : p.Word) (s : Static) (ss : List Static) → named_rule x w s ss ≡ None → (t : Text) × (s ≡ Some t)
unfolding named_rule
named_static x w None ss h = absurd (none-some _ (sym h))
named_static x w (Some t) ss h = (t, refl)

pub name_static : (x : Surroundings) (ws : p.Words) (w : p.Word) (left : List p.Word) → words_in ws ≡ w ∷ left → words_rule x ws ≡ None → (t : Text) × (static_of w ≡ Some t)
unfolding words_in words_rule
name_static x p.no_words w left h k = cc
name_static x (p.more_words v vs) w left h k = let same : v ≡ w = cc in subst (λ v. (t : Text) × (static_of v ≡ Some t)) same (named_static x v (static_of v) (map static_of (words_in vs)) k)

module _ (d : Facts) (c : Certificate) (defined : List Text) where
  pub enough : (y : Facts) (e : Environment) (f : Frame) → Holds y e f → parameters y ≤ length f
  unfolding Holds parameters
  enough NotReached e f h = absurd h
  enough (Known v g n) e f h = h.parameters

  pub gaining_entails : (g : Gains) (s b : Seen) → Entails d c s b → Entails d c (gaining g s) (gaining g b)
  gaining_entails g s b k e f h = gain_holds d c g b e f (has_gain d c g s e f h) (k e f (holds_gain d c g s e f h))

  -- the command's form
  pub elements_are_formed : (x : Around) (n : ℕ) (es : p.Elements) → RulesAt d c defined x n es → elements_formed es ≡ true
  unfolding command_formed kind_formed
  elements_are_formed x n es r = (and_parts (elements_formed es) _ (and_parts _ (redirects_formed r.redirects) r.rules.formed).0).0

  settles_first : (m : Manner) (n : ℕ) (es : p.Elements) (s : Seen) → Entails d c s (behind d c n es) → Settles d c defined m n es (redirects_in es) (assignments_in es) s
  unfolding Settles
  settles_first Nameless n es s k = gaining_entails _ s (behind d c n es) k
  settles_first (Special name ts) n es s k = gaining_entails _ s (behind d c n es) k
  settles_first (Named name ts) n es s k = refl

  abbrev Well : Around → Environment → List Frame → ℕ → List Work → Type 0
  Well base e fs status ws = ProcessOk d c defined (SimpleAt d c defined) base e fs status ws

  abbrev Ok : Around → Environment → List Frame → ℕ → Effect → Type 0
  Ok base e fs status x = StepOk d c defined (SimpleAt d c defined) base e fs status x

  module _ (base : Around) (e : Environment) (fs : List Frame) (status : ℕ) (ws : List Work) (a : Answer) where
    abbrev f : Frame
    f = front fs

    words_end_ok : (k : Simple) (fields : List Text) (rs : p.Redirects) (xs : Assignments) → Well base e fs status (Words k p.no_words fields rs xs ∷ ws)
        → Ok base e fs status (goes e f status (Prepare k fields rs xs false ∷ ws))
    unfolding GoodIn Good FrontGood SimpleAt words_gains words_in in_any_case
    words_end_ok k fields rs xs live =
        let good = live.good.1 in
        let q = good.after in
        let s = in_any_case q in
        let known : OneHolds d c s e f = any_holds d c status q e f (good.leads status e f live.holds) in
        let needs : WordsStage d c defined (around base ws) k p.no_words rs xs s = good.goes.0 in
        let through : Entails d c s (behind d c k.number k.elements) = λ e' f' h. needs.behind_words e' f' (gain_holds d c no_gains s e' f' (has_nothing e' f') h) in
        let stage : PrepareStage d c defined (around base ws) k fields rs xs false s = record {
          rules = needs.rules;
          fits =
              fit_less (parameters (behind_facts c k.number k.elements)) (length f) k.elements [] fields
              (enough (behind_facts c k.number k.elements) e f (behind_known d c defined k.number k.elements e f (through e f known)))
              live.good.0;
          left = record { behind_words = through; opened = needs.opened; values = needs.values; redirected = λ h. subst (λ r. is_redirected r ≡ true) needs.redirects h };
          settles =
              subst (λ r. Settles d c defined (manner fields) k.number k.elements r xs s) (sym needs.redirects)
              (subst (λ y. Settles d c defined (manner fields) k.number k.elements (redirects_in k.elements) y s) (sym needs.assignments) (settles_first (manner fields) k.number k.elements s through));
          was_redirected = λ h. cc;
        } in
        turns_to d c defined (SimpleAt d c defined) base e fs status status (Words k p.no_words fields rs xs ∷ ws) (Prepare k fields rs xs false ∷ ws) live (Both s)
        (record { after = Both s; leads = leads_same d c defined (SimpleAt d c defined) (Both s); goes = (stage, good.goes.1) })
        (both_holds d c status s e f known)

    -- no word is expanded yet
    fits_none : (m : ℕ) (es : p.Elements) (w : p.Word) (left : p.Words) → FieldsFit m es (words_in (p.more_words w left)) [] → words_in (operands_in es) ≡ w ∷ words_in left
    unfolding FieldsFit words_in
    fits_none m es w left h = h

    -- the fields with those of the next word
    next_fits : (k : Simple) (w : p.Word) (left : p.Words) (fields : List Text) → RulesAt d c defined (around base ws) k.number k.elements
        → FieldsFit (length f) k.elements (words_in (p.more_words w left)) fields
        → let m = word_context fields w in let o = expand f status m w (fresh e a.given) in
        word_splits m o ≡ false → o.state.ended ≡ false → FieldsFit (length f) k.elements (words_in left) (fields ++ word_fields m a o)
    unfolding is_declared command_rule words_in
    next_fits k w left [] r h split l =
        let formed = elements_are_formed (around base ws) k.number k.elements r in
        let named = name_static (surroundings_of (around base ws)) (operands_in k.elements) w (words_in left) (fits_none (length f) k.elements w left h) r.rules.admitted in
        subst (FieldsFit (length f) k.elements (words_in left))
        (sym (static_one f status a e w named.0 (left_formed (length f) k.elements w (words_in left) [] formed h) named.1))
        (name_fits (length f) k.elements w (words_in left) named.0 named.1 h)
    next_fits k w left (t ∷ ts) r h split l =
        let formed = elements_are_formed (around base ws) k.number k.elements r in
        operand_fits (length f) k.elements w (words_in left) t ts _
        (operand_gives f status a e w (left_formed (length f) k.elements w (words_in left) (t ∷ ts) formed h) (is_declaration (kind_of t)) l split)
        h

    words_more_ok : (k : Simple) (w : p.Word) (left : p.Words) (fields : List Text) (rs : p.Redirects) (xs : Assignments) → Well base e fs status (Words k (p.more_words w left) fields rs xs ∷ ws)
        → let m = word_context fields w in let o = expand f status m w (fresh e a.given) in
        Ok base e fs status
        (after_expansion o.state (word_splits m o)
        (unless_ended e f status ws a o.state (goes o.state.environment f (status_behind o.state status a) (Words k left (fields ++ word_fields m a o) rs xs ∷ ws))))
    unfolding GoodIn SimpleAt WordsAt words_gains in_any_case
    words_more_ok k w left fields rs xs live =
        let good = live.good.1 in
        let q = good.after in
        let s = in_any_case q in
        let known : OneHolds d c s e f = any_holds d c status q e f (good.leads status e f live.holds) in
        let needs : WordsStage d c defined (around base ws) k (p.more_words w left) rs xs s = good.goes.0 in
        let m = word_context fields w in
        let o : Outcome = expand f status m w (fresh e a.given) in
        let b = gaining (word_gains w) s in
        let stage : WordsStage d c defined (around base ws) k left rs xs b = record {
          rules = needs.rules;
          words = needs.words.1;
          behind_words = λ e' f' h. needs.behind_words e' f' (gain_two d c defined (word_gains w) (words_gains left) s e' f' h);
          redirects = needs.redirects;
          assignments = needs.assignments;
          opened = needs.opened;
          values = needs.values;
        } in
        word_step_in d c defined (SimpleAt d c defined) base e fs status ws a s m w (word_splits m o) (λ t. status_behind t status a) (Words k (p.more_words w left) fields rs xs ∷ ws)
        (Words k left (fields ++ word_fields m a o) rs xs ∷ ws) live needs.words.0 known (Both b)
        (λ n l. (
          next_fits k w left fields needs.rules live.good.0 n l,
          record { after = Both b; leads = leads_same d c defined (SimpleAt d c defined) (Both b); goes = (stage, good.goes.1) },
        ))
        (λ e' n h. both_holds d c n b e' f h)

    -- the words of a simple command
    pub words_ok : (k : Simple) (left : p.Words) (fields : List Text) (rs : p.Redirects) (xs : Assignments) → Well base e fs status (Words k left fields rs xs ∷ ws)
        → Ok base e fs status (act_on e f status ws a (Words k left fields rs xs))
    unfolding act_on words
    words_ok k p.no_words fields rs xs live = words_end_ok k fields rs xs live
    words_ok k (p.more_words w left) fields rs xs live = words_more_ok k w left fields rs xs live
