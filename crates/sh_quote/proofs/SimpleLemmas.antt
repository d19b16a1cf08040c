-- The steps of a simple command leave all good: its words, its redirections and assignments,
-- functions and utilities.
use Rattle.std.proofs.Common.{◌≡◌, ◌⊎◌, inl, inr, option_map, ℕ, ◌==◌, ◌+◌, Bool, true, false, not, ◌&&◌, ◌||◌, if◌then◌else◌, Option, Some, None, is_some, unwrap_or, List, [], ◌∷◌, ◌++◌, length, codes, append_assoc, append-nil, nat_le, ◌-◌, refl, sym, ap, subst, ◌∙◌}
use Rattle.std.specs.List.{list_any, list_all, cons_option}
use Rattle.std.proofs.lemmas.Bool.{and_parts, and_from, or_parts, or_from, cond_both, false≢true, not-true}
use Rattle.std.proofs.lemmas.List.Folds.{list_any-append, list_all-append}
use Rattle.std.proofs.Math.Bool.{and-false}
use Rattle.std.proofs.lemmas.Option.{same_Some, none-some}
use Rattle.sh_tree.specs.declared.known.KnownName.{KnownName}
use Rattle.sh_tree.specs.declared.known.KnownName.TheVariants as known
use Rattle.sh_tree.specs.standard.program.Syntax as p
use Rattle.sh_tree.specs.standard.program.Syntax.{Text}
use Rattle.sh_tree.specs.standard.Words.{is_wildcard}
use Rattle.sh_tree.specs.standard.language.Bytes.{is_name}
use Rattle.sh_tree.specs.standard.program.Words.{Assignments, part_has, word_has, is_pattern, static_of, word_text, assignment_in, words_in}
use Rattle.sh_runs.specs.declared.kind.Kind.{Kind}
use Rattle.sh_runs.specs.declared.kind.Kind.TheVariants as kind
use Rattle.sh_runs.specs.Counts.{some_gives_field}
use Rattle.sh_runs.specs.standard.Kinds.{kind_of, is_declaration}
use Rattle.sh_runs.specs.Quoting.{is_quotation, are_quotations, word_mentions, is_at, is_whole, are_whole, word_begins_pattern, is_ifs, is_steady}
use Rattle.sh_runs.specs.Rows.{text_gives_field}
use Rattle.sh_runs.specs.standard.runs.Environment.{Environment, Frame, showing, hiding, separators}
use Rattle.sh_runs.specs.standard.runs.Answers.{Given, Answer}
use Rattle.sh_runs.specs.standard.runs.Builtins.{nonzero, given_to, read_into, shifted, restored, returned, special, special_or_end, reads, gets_option, changes_directory, utility}
use Rattle.sh_runs.specs.standard.runs.Expansion.{Context, in_fields, in_one, Outcome, pieces_text, expand}
use Rattle.sh_runs.specs.standard.runs.Fields.{fields, splits}
use Rattle.sh_runs.specs.standard.runs.Operands as o
use Rattle.sh_runs.specs.standard.runs.States.{State, fresh}
use Rattle.sh_runs.specs.standard.runs.Steps.{Manner, Nameless, Special, Named, named_manner, manner, opened, is_declared, word_context, word_fields, word_splits, status_behind, Preparation, ready, next_redirect, next_assignment, in_order, in_any_order, next_preparation, unless_ended, words, failed_in, redirected, assignment, invoked, prepared, prepare, kept, seen, utility_step, unseen, call}
use Rattle.sh_runs.specs.standard.runs.Work.{Simple, Work, Command, Words, Prepare, Utility, Call, Return, Test, Again, ForFields, Saved, Effect, goes, after_expansion, Mark, no_loop, marked, or_nearer, nth_mark, loop_mark, broken_off, continued, return_mark}
use Rattle.sh_runs.proofs.StaticLemmas.{static_fields}
use Rattle.sh_runs.proofs.SteadyLemmas.{steady_separators}
use Rattle.sh_runs.proofs.TextLemmas.{quotations_one}
use Rattle.sh_runs.proofs.UnsplitLemmas.{is_still_part, are_still, still_never_splits, whole_never_splits}
use Rattle.sh_domain.specs.Operands.{statics}
use Rattle.sh_quote.specs.Places.{told_at, part_places, parts_places, word_places}
use Rattle.sh_quote.specs.Steady.{is_static, steady_assignment, steady_field, steady_text, steady_declared, steady_operand, steady_getopts}
use Rattle.sh_quote.specs.Invariant.{watched, WordGood, RedirectsGood, ValueGood, ValuesGood, SplitGood, OperandsGood, SteadyGetopts, Steady, FieldsGood, LeftGood, CommandGood, SavedGood, ShownGood, WorkGood, AllWorkGood, EnvironmentGood}
use Rattle.sh_quote.proofs.EffectLemmas.{set_good, showing_good, hiding_good, restored_good, had_fits, definitions_good, unset_good, read_good, option_good, directory_good, StateGood, expands, EffectGood, goes_good, ends_good, expanded_good, either_good, unless_good}
use Rattle.sh_quote.proofs.GoodLemmas.{nil_parts}
use Rattle.sh_quote.proofs.SteadyLemmas.{assignment_steady, declared_steady}

-- A word whose places are none

told_none : (b : Bool) (at : ℕ) → told_at b at ≡ [] → b ≡ true
unfolding told_at
told_none true at h = refl
told_none false at h = cc

places_still : (w : p.Word) → parts_places false w ≡ [] → are_still w ≡ true
unfolding parts_places part_places are_still is_still_part
places_still p.no_parts h = refl
places_still (p.more_parts x w) h = let q = nil_parts (part_places false x) (parts_places false w) h in and_from _ _ (part x q.0) (places_still w q.1)
  where
    part : (y : p.Part) → part_places false y ≡ [] → is_still_part y ≡ true
    part (p.Expansion at x operator) k = told_none _ at k
    part (p.Arithmetic at e) k = absurd (false≢true (told_none false at k))
    part (p.Substitution at list) k = absurd (false≢true (told_none false at k))
    part (p.Plain t) k = refl
    part (p.Escaped t) k = refl
    part (p.Single style t) k = refl
    part (p.Double v) k = refl
    part (p.Tilde at login) k = refl
    part p.Joined k = refl

places_whole : (w : p.Word) → parts_places true w ≡ [] → are_whole w ≡ true
unfolding parts_places part_places are_whole is_whole
places_whole p.no_parts h = refl
places_whole (p.more_parts x w) h = let q = nil_parts (part_places true x) (parts_places true w) h in and_from _ _ (part x q.0) (places_whole w q.1)
  where
    part : (y : p.Part) → part_places true y ≡ [] → is_whole y ≡ true
    part (p.Expansion at x operator) k = told_none _ at k
    part (p.Arithmetic at e) k = refl
    part (p.Substitution at list) k = absurd (false≢true (told_none false at k))
    part (p.Plain t) k = refl
    part (p.Escaped t) k = refl
    part (p.Single style t) k = refl
    part (p.Double v) k = refl
    part (p.Tilde at login) k = refl
    part p.Joined k = refl

module _ (numbers : Bool) where
  -- such a word is not split, unless it meets a parameter that is not set
  pub never_splits : (f : Frame) (status : ℕ) (w : p.Word) (e : Environment) (given : ℕ → Given) → SplitGood numbers w → EnvironmentGood numbers e
      → (expand f status in_fields w (fresh e given)).state.unset ≡ false → word_splits in_fields (expand f status in_fields w (fresh e given)) ≡ false
  unfolding word_splits word_places
  never_splits f status w e given h k u =
      let oc : Outcome = expand f status in_fields w (fresh e given) in
      let ends : StateGood numbers oc.state = expands numbers f status in_fields w e given h.word k in
      rw (cases numbers (word_begins_pattern w) refl refl h.quoted ends) (and-false (not oc.state.ended))
    where
      cases : (n b : Bool) → numbers ≡ n → word_begins_pattern w ≡ b → parts_places (n && not b) w ≡ [] → StateGood numbers (expand f status in_fields w (fresh e given)).state
          → splits (separators (expand f status in_fields w (fresh e given)).state.environment) (expand f status in_fields w (fresh e given)).pieces ≡ false
      cases true false n b q g =
          whole_never_splits f status w (fresh e given) (separators (expand f status in_fields w (fresh e given)).state.environment) (places_whole w q) b (steady_separators _ _ refl (g.environment.ifs n)) u
      cases true true n b q g = still_never_splits f status w (fresh e given) _ (places_still w q)
      cases false b n c q g = still_never_splits f status w (fresh e given) _ (places_still w q)

  -- The fields of a word after the name of a command

  -- a static word that gives a field is that field
  static_field : (w : p.Word) (t : Text) → static_of w ≡ Some t → some_gives_field w ≡ true → (f : Frame) (status : ℕ) (a : Answer) (e : Environment)
      → word_fields in_fields a (expand f status in_fields w (fresh e a.given)) ≡ t ∷ []
  unfolding word_fields
  static_field w t h g f status a e = static_fields w t h g _ a.directory f status (fresh e a.given) refl

  or_true : (b c : Bool) → (b || c) ≡ true → (b ≡ true) ⊎ (c ≡ true)
  or_true true c h = inl refl
  or_true false c h = inr h

  stands_static : (w : p.Word) (t : Text) → static_of w ≡ Some t → text_gives_field w ≡ true → some_gives_field w ≡ true
  unfolding text_gives_field
  stands_static w t e h = subst (λ (v : Option Text). (not (is_some v) || some_gives_field w) ≡ true) e h

  some_static : (v : Option Text) → is_some v ≡ true → (t : Text) × (v ≡ Some t)
  some_static None h = absurd (false≢true h)
  some_static (Some t) h = (t, refl)

  quotations_have : (test : ℕ → Bool) (w : p.Word) → are_quotations w ≡ true → word_has test w ≡ false
  unfolding word_has part_has are_quotations is_quotation
  quotations_have test p.no_parts h = refl
  quotations_have test (p.more_parts (p.Escaped t) w) h = quotations_have test w h
  quotations_have test (p.more_parts (p.Single style t) w) h = quotations_have test w h
  quotations_have test (p.more_parts (p.Double v) w) h = quotations_have test w h
  quotations_have test (p.more_parts x w) h = absurd (false≢true h)

  quotations_no_pattern : (w : p.Word) → are_quotations w ≡ true → is_pattern w ≡ false
  unfolding is_pattern
  quotations_no_pattern w h = rw (quotations_have is_wildcard w h, quotations_have (λ c. c == 91) w h) refl

  -- a word of quotations with an empty text is static
  empty_static : (w : p.Word) → are_quotations w ≡ true → word_text w ≡ Some [] → is_static w ≡ false → ⊥
  unfolding static_of
  empty_static w q h n = false≢true (sym n ∙ rw (quotations_no_pattern w q, h) refl)

  -- the fields of a word after these, and the words that are left after it, keep IFS steady
  module _ (f : Frame) (status : ℕ) (a : Answer) (e : Environment) (w : p.Word) (left : List p.Word) (stands : text_gives_field w ≡ true) where
    abbrev FieldsIn : Context → List Text
    FieldsIn c = word_fields c a (expand f status c w (fresh e a.given))

    -- a field that a static word gives
    one_static : (t : Text) → static_of w ≡ Some t → FieldsIn in_fields ≡ t ∷ []
    one_static t h = static_field w t h (stands_static w t h stands) f status a e

    one_steady : (t : Text) → steady_field t ≡ true → list_all steady_field (t ∷ []) ≡ true
    one_steady t h = and_from (steady_field t) true h refl

    -- of `export` and `readonly`, an assignment in form or static
    form_declared : (x : Text × p.Word) → assignment_in w ≡ Some x → steady_declared w ≡ true → steady_assignment x ≡ true
    unfolding steady_declared
    form_declared x q h = cc

    text_declared : assignment_in w ≡ None → steady_declared w ≡ true → steady_text (static_of w) ≡ true
    unfolding steady_declared
    text_declared q h = cc

    some_text : (v : Option Text) → steady_text v ≡ true → (t : Text) × (v ≡ Some t) × (steady_field t ≡ true)
    unfolding steady_text
    some_text None h = absurd (false≢true h)
    some_text (Some t) h = (t, refl, h)

    form_steady : (v : Option (Text × p.Word)) → assignment_in w ≡ v → steady_declared w ≡ true → list_all steady_field (FieldsIn (if is_some v then in_one else in_fields)) ≡ true
    unfolding word_fields
    form_steady (Some x) q h = one_steady _ (declared_steady w x q (form_declared x q h) f status (fresh e a.given) refl)
    form_steady None q h =
        let t = some_text (static_of w) (text_declared q h) in
        subst (λ ts. list_all steady_field ts ≡ true) (sym (one_static t.0 t.1)) (one_steady t.0 t.2)

    -- the operands of `getopts`: a static one that is not IFS
    operand_static : steady_operand w ≡ true → (t : Text) × (static_of w ≡ Some t) × (is_ifs t ≡ false)
    unfolding steady_operand
    operand_static h = go (static_of w) refl h
      where
        go : (v : Option Text) → static_of w ≡ v → unwrap_or (option_map (λ t. not (is_ifs t)) v) false ≡ true → (t : Text) × (static_of w ≡ Some t) × (is_ifs t ≡ false)
        go None q k = absurd (false≢true k)
        go (Some t) q k = (t, q, not-true (is_ifs t) k)

    -- a quoted word that is not static is one field
    quoted_one : is_static w ≡ false → are_quotations w ≡ true → word_mentions is_at w ≡ false → (t : Text) × (FieldsIn in_fields ≡ t ∷ [])
    unfolding word_fields static_of
    quoted_one n q m = quotations_one f status w (fresh e a.given) _ a.directory q m (λ k. no_text k)
      where
        no_text : word_text w ≡ Some [] → ⊥
        no_text k = empty_static w q k n

    declared_on : (ts : List Text) → (list_all steady_field ts ≡ true) × (list_all steady_declared (w ∷ left) ≡ true)
        → (list_all steady_field (ts ++ FieldsIn (if is_some (assignment_in w) then in_one else in_fields)) ≡ true) × (list_all steady_declared left ≡ true)
    declared_on ts h =
        let q = and_parts (steady_declared w) (list_all steady_declared left) h.1 in
        (list_all-append steady_field ts _ ∙ and_from (list_all steady_field ts) _ h.0 (form_steady (assignment_in w) refl q.0), q.1)

    read_on : (ts : List Text) → (list_all is_static (w ∷ left) ≡ true) × (list_any is_ifs (unwrap_or (o.read_names (ts ++ statics (w ∷ left))) []) ≡ false)
        → (list_all is_static left ≡ true) × (list_any is_ifs (unwrap_or (o.read_names ((ts ++ FieldsIn in_fields) ++ statics left)) []) ≡ false)
    read_on ts h =
        let q = and_parts (is_static w) (list_all is_static left) h.0 in
        let t = some_static (static_of w) q.0 in
        let same : (ts ++ FieldsIn in_fields) ++ statics left ≡ ts ++ statics (w ∷ left) =
        ap (λ us. (ts ++ us) ++ statics left) (one_static t.0 t.1) ∙ append_assoc ts (t.0 ∷ []) (statics left) ∙ ap (λ v. ts ++ cons_option v (statics left)) (sym t.1) in
        (q.1, subst (λ us. list_any is_ifs (unwrap_or (o.read_names us) []) ≡ false) (sym same) h.1)

    getopts_on : (ts : List Text) → SteadyGetopts numbers ts (w ∷ left) → SteadyGetopts numbers (ts ++ FieldsIn in_fields) left
    unfolding SteadyGetopts steady_getopts
    getopts_on [] h = go (or_true (steady_operand w) _ (and_parts (steady_operand w || (not (is_static w) && are_quotations w && not (word_mentions is_at w))) (list_all steady_operand left) h).0)
      where
        rest : list_all steady_operand left ≡ true
        rest = (and_parts (steady_operand w || (not (is_static w) && are_quotations w && not (word_mentions is_at w))) (list_all steady_operand left) h).1

        one : (t : Text) → FieldsIn in_fields ≡ t ∷ [] → SteadyGetopts numbers (FieldsIn in_fields) left
        one t q = subst (λ ts. SteadyGetopts numbers ts left) (sym q) (refl, rest)

        go : (steady_operand w ≡ true) ⊎ ((not (is_static w) && are_quotations w && not (word_mentions is_at w)) ≡ true) → SteadyGetopts numbers (FieldsIn in_fields) left
        go (inl k) = let t = operand_static k in one t.0 (one_static t.0 t.1)
        go (inr k) =
            let q = and_parts (not (is_static w) && are_quotations w) (not (word_mentions is_at w)) k in
            let r = and_parts (not (is_static w)) (are_quotations w) q.0 in
            let t = quoted_one (not-true (is_static w) r.0) r.1 (not-true (word_mentions is_at w) q.1) in
            one t.0 t.1
    getopts_on (t ∷ ts) h =
        let q = and_parts (steady_operand w) (list_all steady_operand left) h.1 in
        let u = operand_static q.0 in (
          list_any-append is_ifs ts _
              ∙ or_from (list_any is_ifs ts) _ h.0 (subst (λ us. list_any is_ifs us ≡ false) (sym (one_static u.0 u.1)) (or_from (is_ifs u.0) false u.2 refl)),
          q.1,
        )

    -- what is steady with the word left is steady with its fields
    steady_on : (k : Kind) (ts : List Text) → Steady numbers k ts (w ∷ left)
        → Steady numbers k (ts ++ FieldsIn (if is_declaration k && is_some (assignment_in w) then in_one else in_fields)) left
    unfolding Steady is_declaration
    steady_on (kind.Special known.Export) ts h = declared_on ts h
    steady_on (kind.Special known.Readonly) ts h = declared_on ts h
    steady_on kind.Read ts h = read_on ts h
    steady_on kind.Getopts ts h = getopts_on ts h
    steady_on k ts h = tt

-- Steps

module _ (numbers : Bool) (e : Environment) (f : Frame) (status : ℕ) (ws : List Work) (a : Answer) (env : EnvironmentGood numbers e) (rest : AllWorkGood numbers ws) where
  -- a word, and what comes where its expansion does not end the process
  word_good : (c : Context) (w : p.Word) (left : Work) → WordGood numbers w → ((expand f status c w (fresh e a.given)).state.unset ≡ false → word_splits c (expand f status c w (fresh e a.given)) ≡ false)
      → WorkGood numbers left
      → let o = expand f status c w (fresh e a.given) in
      EffectGood numbers
      (after_expansion o.state (word_splits c o) (unless_ended e f status ws a o.state (goes o.state.environment f (status_behind o.state status a) (left ∷ ws))))
  unfolding AllWorkGood
  word_good c w left h q k =
      let o : Outcome = expand f status c w (fresh e a.given) in
      let s : StateGood numbers o.state = expands numbers f status c w e a.given h env in
      expanded_good numbers o.state (word_splits c o) _ s q
      (unless_good numbers e f status ws a o.state _ s.environment (λ b. goes_good numbers o.state.environment f (status_behind o.state status a) (left ∷ ws) s.environment (k, rest)))

  one_splits : (o : Outcome) → word_splits in_one o ≡ false
  unfolding word_splits
  one_splits o = refl

  pub words_good : (k : Simple) (left : p.Words) (ts : List Text) (rs : p.Redirects) (xs : Assignments) → LeftGood numbers ts left → RedirectsGood numbers rs → ValuesGood numbers xs
      → EffectGood numbers (words e f status ws a k left ts rs xs)
  unfolding words LeftGood AllWorkGood WorkGood FieldsGood is_declared OperandsGood words_in
  words_good k p.no_words [] rs xs h r v = goes_good numbers e f status (Prepare k [] rs xs false ∷ ws) env ((tt, r, v), rest)
  words_good k p.no_words (t ∷ ts) rs xs h r v = goes_good numbers e f status (Prepare k (t ∷ ts) rs xs false ∷ ws) env ((h.steady, r, v), rest)
  words_good k (p.more_words w left) [] rs xs h r v =
      word_good in_fields w (Words k left (word_fields in_fields a (expand f status in_fields w (fresh e a.given))) rs xs) h.word.word
      (never_splits numbers f status w e a.given h.word env)
      (subst (λ ts. WorkGood numbers (Words k left ts rs xs)) (sym (static_field numbers w h.name h.static h.field f status a e)) (h.behind, r, v))
  words_good k (p.more_words w left) (t ∷ ts) rs xs h r v =
      let c : Context = word_context (t ∷ ts) w in
      word_good c w (Words k left ((t ∷ ts) ++ word_fields c a (expand f status c w (fresh e a.given))) rs xs) h.operands.0.word
      (quiet (is_declaration (kind_of t) && is_some (assignment_in w)) refl)
      (record { operands = h.operands.1; steady = λ n. steady_on numbers f status a e w (words_in left) h.operands.0.stands (kind_of t) ts (h.steady n) }, r, v)
    where
      quiet : (b : Bool) → (is_declaration (kind_of t) && is_some (assignment_in w)) ≡ b
          → (expand f status (if b then in_one else in_fields) w (fresh e a.given)).state.unset ≡ false → word_splits (if b then in_one else in_fields) (expand f status (if b then in_one else in_fields) w (fresh e a.given)) ≡ false
      quiet true q u = one_splits _
      quiet false q u = never_splits numbers f status w e a.given (record { word = h.operands.0.word; quoted = h.operands.0.quoted q }) env u

  -- Redirections and assignments

  unfoldable PreparationGood : Preparation → Type 0
  PreparationGood ready = Unit {0}
  PreparationGood (next_redirect r rs) = WordGood numbers (opened r) × RedirectsGood numbers rs
  PreparationGood (next_assignment name value xs) = ValueGood numbers (name, value) × ValuesGood numbers xs

  in_order_good : (rs : p.Redirects) → RedirectsGood numbers rs → PreparationGood (in_order rs)
  unfolding in_order PreparationGood RedirectsGood
  in_order_good p.no_redirects h = tt
  in_order_good (p.more_redirects r rs) h = h

  any_order_good : (first : Bool) (rs : p.Redirects) (xs : Assignments) → RedirectsGood numbers rs → ValuesGood numbers xs → PreparationGood (in_any_order first rs xs)
  unfolding in_any_order PreparationGood RedirectsGood ValuesGood
  any_order_good first rs [] h k = in_order_good rs h
  any_order_good first p.no_redirects (x ∷ xs) h k = k
  any_order_good true (p.more_redirects r rs) (x ∷ xs) h k = k
  any_order_good false (p.more_redirects r rs) (x ∷ xs) h k = h

  next_good : (m : Manner) (first : Bool) (rs : p.Redirects) (xs : Assignments) → RedirectsGood numbers rs → ValuesGood numbers xs → PreparationGood (next_preparation m first rs xs)
  unfolding next_preparation PreparationGood
  next_good (Named t ts) first rs [] h k = in_order_good rs h
  next_good (Named t ts) first rs (x ∷ xs) h k = cond_both first ready (in_order rs) PreparationGood (λ b. tt) (λ b. in_order_good rs h)
  next_good Nameless first rs xs h k = any_order_good first rs xs h k
  next_good (Special t ts) first rs xs h k = any_order_good first rs xs h k

  -- a redirection failed
  failed_good : (m : Manner) (d : Environment) (next : List Work) → EnvironmentGood numbers d → AllWorkGood numbers next → EffectGood numbers (failed_in e f status ws a m d next)
  unfolding failed_in
  failed_good Nameless d next h k =
      either_good numbers a.redirection_leaves_out _ _ (λ b. goes_good numbers d f (nonzero a.status) ws h rest) (λ b. goes_good numbers d f status next h k)
  failed_good (Special t ts) d next h k = ends_good numbers d f h
  failed_good (Named t ts) d next h k =
      either_good numbers (a.redirection_ends && is_some (d.functions t)) _ _ (λ b. ends_good numbers d f h) (λ b. goes_good numbers d f (nonzero a.status) ws h rest)

  redirected_good : (copied : Bool) (s : State) (next : List Work) (failed : Environment → Effect) → EnvironmentGood numbers s.environment → AllWorkGood numbers next
      → ((d : Environment) → EnvironmentGood numbers d → EffectGood numbers (failed d)) → EffectGood numbers (redirected e f status ws a copied s next failed)
  unfolding redirected
  redirected_good copied s next failed h k l =
      either_good numbers copied _ _
      (λ b. either_good numbers (s.ended || a.redirection_fails) _ _ (λ b. l e env) (λ b. goes_good numbers e f (status_behind s status a) next env k))
      (λ b. unless_good numbers e f status ws a s _ h
      (λ b. either_good numbers a.redirection_fails _ _ (λ b. l s.environment h) (λ b. goes_good numbers s.environment f (status_behind s status a) next h k)))

  -- what an assignment gives its name
  assigned_fits : (x : Text × p.Word) (s : State) (status' : ℕ) → ValueGood numbers x → s.ended ≡ false → watched numbers x.0 ≡ true → is_steady (Some (pieces_text (expand f status' in_one x.1 s).pieces)) ≡ true
  assigned_fits x s status' h l q =
      let r = and_parts numbers (is_ifs x.0) q in
      assignment_steady x (h.steady r.0) r.1 f status' s l

  assignment_good : (name : Text) (o : Outcome) (next : List Work) → EnvironmentGood numbers o.state.environment → (watched numbers name ≡ true → is_steady (Some (pieces_text o.pieces)) ≡ true)
      → AllWorkGood numbers next → EffectGood numbers (assignment e f status ws a name o next)
  unfolding assignment
  assignment_good name o next h q k =
      either_good numbers a.assignment_fails _ _ (λ b. ends_good numbers o.state.environment f h)
      (λ b. goes_good numbers _ f (status_behind o.state status a) next (set_good numbers o.state.environment name (Some (pieces_text o.pieces)) h q) k)

  -- Jumps: the work after a mark is good

  unfoldable MarkGood : Mark → Type 0
  MarkGood no_loop = Unit {0}
  MarkGood (marked turn behind) = WorkGood numbers turn × AllWorkGood numbers behind

  nearer_good : (n : ℕ) (further : Mark) (turn : Work) (behind : List Work) → MarkGood further → WorkGood numbers turn → AllWorkGood numbers behind → MarkGood (nth_mark n further turn behind)
  unfolding nth_mark or_nearer MarkGood
  nearer_good n no_loop turn behind h k l = cond_both (nat_le n 1) (marked turn behind) (marked turn behind) MarkGood (λ b. (k, l)) (λ b. (k, l))
  nearer_good n (marked t b) turn behind h k l = cond_both (nat_le n 1) (marked turn behind) (marked t b) MarkGood (λ q. (k, l)) (λ q. h)

  mark_good : (n : ℕ) (vs : List Work) → AllWorkGood numbers vs → MarkGood (loop_mark n vs)
  unfolding loop_mark MarkGood AllWorkGood WorkGood
  mark_good n [] h = tt
  mark_good n (Return number function saved ∷ vs) h = tt
  mark_good n (Test number kind condition body last ∷ vs) h = nearer_good n (loop_mark (n - 1) vs) (Again number kind condition body) vs (mark_good (n - 1) vs h.1) h.0 h.1
  mark_good n (Again number kind condition body ∷ vs) h = nearer_good n (loop_mark (n - 1) vs) (Again number kind condition body) vs (mark_good (n - 1) vs h.1) h.0 h.1
  mark_good n (ForFields number name fields body ∷ vs) h = nearer_good n (loop_mark (n - 1) vs) (ForFields number name fields body) vs (mark_good (n - 1) vs h.1) h.0 h.1
  mark_good n (w ∷ vs) h = mark_good n vs h.1

  broken_good : (m : Mark) → MarkGood m → AllWorkGood numbers (broken_off m ws)
  unfolding broken_off MarkGood
  broken_good no_loop h = rest
  broken_good (marked turn behind) h = h.1

  continued_good : (m : Mark) → MarkGood m → AllWorkGood numbers (continued m ws)
  unfolding continued MarkGood AllWorkGood
  continued_good no_loop h = rest
  continued_good (marked turn behind) h = h

  unfoldable ReturnGood : Option (Saved × List Work) → Type 0
  ReturnGood None = Unit {0}
  ReturnGood (Some x) = SavedGood numbers x.0 × AllWorkGood numbers x.1

  return_mark_good : (vs : List Work) → AllWorkGood numbers vs → ReturnGood (return_mark vs)
  unfolding return_mark ReturnGood AllWorkGood WorkGood
  return_mark_good [] h = tt
  return_mark_good (Return number function saved ∷ vs) h = h
  return_mark_good (w ∷ vs) h = return_mark_good vs h.1

  returned_good : (status' : ℕ) (o : Option (Saved × List Work)) → ReturnGood o → EffectGood numbers (returned e f status' ws a o)
  unfolding returned ReturnGood
  returned_good status' None h = goes_good numbers e f status' ws env rest
  returned_good status' (Some x) h =
      let k : EffectGood numbers (goes (restored a.restores 0 e x.0) f status' x.1) = goes_good numbers _ f status' x.1 (restored_good numbers a.restores 0 e x.0 h.0 env) h.1 in
      record { environment = k.environment; next = k.next; starts = k.starts; quiet = k.quiet }

  pub back_good : (number : ℕ) (name : Text) (saved : Saved) → SavedGood numbers saved → EffectGood numbers (returned e f status ws a (Some (saved, ws)))
  unfolding ReturnGood
  back_good number name saved h = returned_good status (Some (saved, ws)) (h, rest)

  -- Utilities

  here : (d : Environment) (g : Frame) (status' : ℕ) → EnvironmentGood numbers d → EffectGood numbers (goes d g status' ws)
  here d g status' h = goes_good numbers d g status' ws h rest

  shifted_good : (o : Option ℕ) → EffectGood numbers (shifted e f ws a o)
  unfolding shifted
  shifted_good None = here e _ a.status env
  shifted_good (Some n) = either_good numbers (nat_le n (length f)) _ _ (λ b. here e _ 0 env) (λ b. here e f (nonzero a.status) env)

  -- what the fields of a special built-in utility keep
  abbrev Operands : Kind → List Text → Type 0
  Operands k ts = numbers ≡ true → Steady numbers k ts []

  -- if no numbers are counted on, nothing is watched
  unshown : numbers ≡ false → (xs : List (Text × Text)) → ShownGood numbers xs
  unfolding ShownGood
  unshown q [] = tt
  unshown q (x ∷ xs) = ((λ w. absurd (false≢true (sym q ∙ (and_parts numbers (is_ifs x.0) w).0))), unshown q xs)

  shown : (ts : List Text) → ((numbers ≡ true) → list_all steady_field ts ≡ true) → ShownGood numbers (o.definitions_in ts)
  shown ts h = go numbers refl
    where
      go : (b : Bool) → numbers ≡ b → ShownGood numbers (o.definitions_in ts)
      go true q = definitions_good numbers ts (h q)
      go false q = unshown q (o.definitions_in ts)

  special_good : (vs : p.Words) (name : KnownName) (ts : List Text) → Operands (kind.Special name) ts → EffectGood numbers (special e f status ws a vs name ts)
  unfolding special Steady
  special_good vs known.Colon ts h = here e f 0 env
  special_good vs known.Break ts h = goes_good numbers e f a.status _ env (broken_good _ (mark_good _ ws rest))
  special_good vs known.Continue ts h = goes_good numbers e f a.status _ env (continued_good _ (mark_good _ ws rest))
  special_good vs known.Exec ts h = here e f _ env
  special_good vs known.Exit ts h = ends_good numbers e f env
  special_good vs known.Export ts h = here (showing e (o.definitions_in ts)) f a.status (showing_good numbers e (o.definitions_in ts) (shown ts (λ n. (h n).0)) env)
  special_good vs known.Readonly ts h = here (showing e (o.definitions_in ts)) f a.status (showing_good numbers e (o.definitions_in ts) (shown ts (λ n. (h n).0)) env)
  special_good vs known.Return ts h = returned_good _ (return_mark ws) (return_mark_good ws rest)
  special_good vs known.Set ts h = here e _ a.status env
  special_good vs known.Shift ts h = shifted_good (o.count_operand ts)
  special_good vs known.Unset ts h = here _ f a.status (unset_good numbers e a (o.unset_operands ts) env)
  special_good vs name ts h = here e f a.status env

  or_end_good : (vs : p.Words) (name : KnownName) (ts : List Text) → Operands (kind.Special name) ts → EffectGood numbers (special_or_end e f status ws a vs name ts)
  unfolding special_or_end
  or_end_good vs name ts h = either_good numbers a.special_ends _ _ (λ b. ends_good numbers e f env) (λ b. special_good vs name ts h)

  -- the name of `getopts` is one of the operands after the first
  second_good : (t : Text) (ts : List Text) (name : Text) → list_any is_ifs ts ≡ false → o.second_name (t ∷ ts) ≡ Some name → is_ifs name ≡ false
  unfolding o.second_name
  second_good t [] name h q = absurd (none-some name q)
  second_good t (u ∷ us) name h q = go (is_name u) q
    where
      go : (b : Bool) → (if b then Some u else None) ≡ Some name → is_ifs name ≡ false
      go true k = subst (λ v. is_ifs v ≡ false) (same_Some u name k) (or_parts (is_ifs u) (list_any is_ifs us) h).0
      go false k = absurd (none-some name k)

  third_good : (ts : List Text) (name : Text) → list_any is_ifs ts ≡ false → o.second_name ts ≡ Some name → is_ifs name ≡ false
  unfolding o.second_name
  third_good [] name h q = absurd (none-some name q)
  third_good (t ∷ ts) name h q = second_good t ts name (or_parts (is_ifs t) (list_any is_ifs ts) h).1 q

  option_name : (ts : List Text) (name : Text) → SteadyGetopts numbers ts [] → o.getopts_name ts ≡ Some name → is_ifs name ≡ false
  unfolding SteadyGetopts o.getopts_name
  option_name [] name h q = absurd (none-some name q)
  option_name (t ∷ ts) name h q = go (o.ends_options t) q
    where
      go : (b : Bool) → (if b then o.second_name ts else o.second_name (t ∷ ts)) ≡ Some name → is_ifs name ≡ false
      go true k = third_good ts name h.0 k
      go false k = second_good t ts name h.0 k

  -- if no numbers are counted on, any environment of good functions is good
  uncounted : numbers ≡ false → (d : Environment) → ((t : Text) (c : p.Command) → d.functions t ≡ Some c → CommandGood numbers c) → EnvironmentGood numbers d
  uncounted q d h = record { ifs = λ n. absurd (false≢true (sym q ∙ n)); functions = h }

  given_functions : (may_stay : Bool) (d : Environment) (name : Text) (v : Option Text) → (given_to may_stay d name v).functions ≡ d.functions
  unfolding given_to
  given_functions may_stay d name (Some t) = refl
  given_functions true d name None = refl
  given_functions false d name None = refl

  read_functions : (prefixes : List Text) (n : ℕ) (d : Environment) (names : List Text) → (read_into prefixes a n d names).functions ≡ d.functions
  unfolding read_into
  read_functions prefixes n d [] = refl
  read_functions prefixes n d (name ∷ names) = read_functions prefixes (n + 1) _ names ∙ given_functions _ d name (a.values n)

  option_functions : (prefixes : List Text) (o : Option Text) → (gets_option prefixes e a o).functions ≡ e.functions
  unfolding gets_option
  option_functions prefixes None = given_functions true e (codes "OPTIND") (a.values 1)
  option_functions prefixes (Some name) = read_functions prefixes 0 e (name ∷ codes "OPTIND" ∷ [])

  -- an environment that differs in variables alone
  same_functions : (d : Environment) → d.functions ≡ e.functions → (t : Text) (c : p.Command) → d.functions t ≡ Some c → CommandGood numbers c
  same_functions d q t c k = env.functions t c (sym (ap (λ g. g t) q) ∙ k)

  read_environment : (prefixes : List Text) (names : List Text) → (numbers ≡ true → list_any is_ifs names ≡ false) → EnvironmentGood numbers (read_into prefixes a 0 e names)
  read_environment prefixes names h = go numbers refl
    where
      go : (b : Bool) → numbers ≡ b → EnvironmentGood numbers (read_into prefixes a 0 e names)
      go true q = read_good numbers prefixes a 0 e names (h q) env
      go false q = uncounted q (read_into prefixes a 0 e names) (same_functions (read_into prefixes a 0 e names) (read_functions prefixes 0 e names))

  option_environment : (prefixes : List Text) (o : Option Text) → (numbers ≡ true → (name : Text) → o ≡ Some name → is_ifs name ≡ false) → EnvironmentGood numbers (gets_option prefixes e a o)
  option_environment prefixes o h = go numbers refl
    where
      go : (b : Bool) → numbers ≡ b → EnvironmentGood numbers (gets_option prefixes e a o)
      go true q = option_good numbers prefixes e a o (h q) env
      go false q = uncounted q (gets_option prefixes e a o) (same_functions (gets_option prefixes e a o) (option_functions prefixes o))

  reads_good : (prefixes : List Text) (o : Option (List Text)) → (numbers ≡ true → list_any is_ifs (unwrap_or o []) ≡ false) → EffectGood numbers (reads prefixes e f ws a o)
  unfolding reads
  reads_good prefixes None h = here e f (nonzero a.status) env
  reads_good prefixes (Some names) h = here _ f a.status (read_environment prefixes names h)

  utility_good : (prefixes : List Text) (k : Kind) (ts : List Text) → Operands k ts → EffectGood numbers (utility prefixes e f ws a k ts)
  unfolding utility Steady
  utility_good prefixes kind.True ts h = here e f 0 env
  utility_good prefixes kind.False ts h = here e f (nonzero a.status) env
  utility_good prefixes kind.Read ts h =
      reads_good prefixes (o.read_names ts) (λ n. subst (λ us. list_any is_ifs (unwrap_or (o.read_names us) []) ≡ false) (append-nil ts) (h n).1)
  utility_good prefixes kind.Getopts ts h = here _ f a.status (option_environment prefixes (o.getopts_name ts) (λ n name q. option_name ts name (h n) q))
  utility_good prefixes kind.Cd ts h = here (changes_directory e a) f a.status (directory_good numbers e a env)
  utility_good prefixes k ts h = here e f a.status env

  -- A simple command after its words

  unfoldable MannerGood : Manner → Type 0
  MannerGood Nameless = Unit {0}
  MannerGood (Special name ts) = Operands (kind.Special name) ts
  MannerGood (Named t ts) = FieldsGood numbers (t ∷ ts)

  by_kind : (k : Kind) (t : Text) (ts : List Text) → kind_of t ≡ k → Operands (kind_of t) ts → MannerGood (named_manner k t ts)
  unfolding named_manner MannerGood FieldsGood
  by_kind (kind.Special name) t ts q h = subst (λ k. Operands k ts) q h
  by_kind k t ts q h = h

  manner_good : (ts : List Text) → FieldsGood numbers ts → MannerGood (manner ts)
  unfolding manner MannerGood FieldsGood
  manner_good [] h = tt
  manner_good (t ∷ ts) h = go (kind_of t) refl
    where
      go : (k : Kind) → kind_of t ≡ k → MannerGood (named_manner k t ts)
      go k q = by_kind k t ts q h

  invoked_by : (k : Simple) (t : Text) (ts : List Text) (rs : p.Redirects) (xs : Assignments) (o : Option p.Command) → e.functions t ≡ o → FieldsGood numbers (t ∷ ts)
      → RedirectsGood numbers rs → ValuesGood numbers xs → WorkGood numbers (invoked e f status ws a k t ts rs xs o)
  unfolding invoked WorkGood ShownGood SavedGood
  invoked_by k t ts rs xs None q h r v = (h, r, v, tt)
  invoked_by k t ts rs xs (Some body) q h r v = (env.functions t body q, r, v, tt)

  prepared_good : (k : Simple) (m : Manner) (rs : p.Redirects) (xs : Assignments) (failed : Bool) → MannerGood m → RedirectsGood numbers rs → ValuesGood numbers xs
      → EffectGood numbers (prepared e f status ws a k m rs xs failed)
  unfolding prepared MannerGood AllWorkGood
  prepared_good k Nameless rs xs failed h r v = here e f _ env
  prepared_good k (Special name ts) rs xs failed h r v = or_end_good _ name ts h
  prepared_good k (Named t ts) rs xs failed h r v = goes_good numbers e f status _ env (invoked_good (e.functions t) refl, rest)
    where
      invoked_good : (o : Option p.Command) → e.functions t ≡ o → WorkGood numbers (invoked e f status ws a k t ts rs xs o)
      invoked_good o q = invoked_by k t ts rs xs o q h r v

  prepare_by : (k : Simple) (ts : List Text) (rs : p.Redirects) (xs : Assignments) (failed : Bool) (x : Preparation) → PreparationGood x → FieldsGood numbers ts → RedirectsGood numbers rs
      → ValuesGood numbers xs → EffectGood numbers (prepare e f status ws a k ts rs xs failed x)
  unfolding prepare PreparationGood AllWorkGood WorkGood
  prepare_by k ts rs xs failed ready q h r v = prepared_good k (manner ts) rs xs failed (manner_good ts h) r v
  prepare_by k ts rs xs failed (next_redirect x left) q h r v =
      let s : StateGood numbers (expand f status in_one (opened x) (fresh e a.given)).state = expands numbers f status in_one (opened x) e a.given q.0 env in
      expanded_good numbers _ false _ s (λ u. refl)
      (redirected_good _ _ (Prepare k ts left xs failed ∷ ws) _ s.environment ((h, q.1, v), rest) (λ d g. failed_good (manner ts) d _ g ((h, q.1, v), rest)))
  prepare_by k ts rs xs failed (next_assignment name value left) q h r v =
      let s : StateGood numbers (expand f status in_one value (fresh e a.given)).state = expands numbers f status in_one value e a.given q.0.word env in
      expanded_good numbers _ false _ s (λ u. refl)
      (unless_good numbers e f status ws a _ _ s.environment
      (λ b. assignment_good name _ (Prepare k ts rs left failed ∷ ws) s.environment (assigned_fits (name, value) (fresh e a.given) status q.0 refl) ((h, r, q.1), rest)))

  pub prepare_good : (k : Simple) (ts : List Text) (rs : p.Redirects) (xs : Assignments) (failed first : Bool) → FieldsGood numbers ts → RedirectsGood numbers rs → ValuesGood numbers xs
      → EffectGood numbers (prepare e f status ws a k ts rs xs failed (next_preparation (manner ts) first rs xs))
  prepare_good k ts rs xs failed first h r v = go (next_preparation (manner ts) first rs xs) (next_good (manner ts) first rs xs r v)
    where
      go : (x : Preparation) → PreparationGood x → EffectGood numbers (prepare e f status ws a k ts rs xs failed x)
      go x q = prepare_by k ts rs xs failed x q h r v

  -- Utilities and functions with their redirections and prefix assignments

  shown_more : (xs : List (Text × Text)) (x : Text × Text) → ShownGood numbers xs → (watched numbers x.0 ≡ true → is_steady (Some x.1) ≡ true) → ShownGood numbers (xs ++ x ∷ [])
  unfolding ShownGood
  shown_more [] x h k = (k, tt)
  shown_more (y ∷ ys) x h k = (h.0, shown_more ys x h.1 k)

  seen_good : (values : List (Text × Text)) → ShownGood numbers values → ShownGood numbers (seen e f status ws a values)
  unfolding ShownGood
  seen_good values h = cond_both a.sees values [] (ShownGood numbers) (λ b. h) (λ b. tt)

  kept_good : (s : State) → EnvironmentGood numbers s.environment → EnvironmentGood numbers (kept e f status ws a s).environment
  kept_good s h = cond_both a.value_in_copy e s.environment (EnvironmentGood numbers) (λ b. env) (λ b. h)

  pub utility_step_good : (k : Simple) (t : Text) (ts : List Text) (rs : p.Redirects) (xs : Assignments) (prefixes : List Text) (values : List (Text × Text)) → FieldsGood numbers (t ∷ ts)
      → RedirectsGood numbers rs → ValuesGood numbers xs → ShownGood numbers values → EffectGood numbers (utility_step e f status ws a k t ts rs xs prefixes values)
  unfolding utility_step FieldsGood RedirectsGood ValuesGood AllWorkGood WorkGood
  utility_step_good k t ts p.no_redirects [] prefixes values h r v n = utility_good prefixes (kind_of t) ts h
  utility_step_good k t ts (p.more_redirects x left) [] prefixes values h r v n =
      let s : StateGood numbers (expand f status in_one (opened x) (fresh e a.given)).state = expands numbers f status in_one (opened x) e a.given r.0 env in
      expanded_good numbers _ false _ s (λ u. refl)
      (redirected_good _ _ (Utility k t ts left [] prefixes values ∷ ws) _ s.environment ((h, r.1, v, n), rest) (λ d g. failed_good (Named t ts) d ws g rest))
  utility_step_good k t ts rs (x ∷ xs) prefixes values h r v n =
      let vs : List (Text × Text) = seen e f status ws a values in
      let first : State = fresh (showing e vs) a.given in
      let oc : Outcome = expand f status in_one x.1 first in
      let s : StateGood numbers oc.state = expands numbers f status in_one x.1 (showing e vs) a.given v.0.word (showing_good numbers e vs (seen_good values n) env) in
      let hidden : EnvironmentGood numbers (hiding e vs oc.state.environment) = hiding_good numbers e vs oc.state.environment env s.environment in
      let after : State = kept e f status ws a (record oc.state { environment = hiding e vs oc.state.environment }) in
      let good : EnvironmentGood numbers after.environment = kept_good (record oc.state { environment = hiding e vs oc.state.environment }) hidden in
      expanded_good numbers after false _ (record { environment = good; copies = s.copies }) (λ u. refl)
      (unless_good numbers e f status ws a after _ good
      (λ b.
      either_good numbers a.assignment_fails _ _ (λ q. ends_good numbers after.environment f good)
      (λ q.
      goes_good numbers after.environment f (status_behind after status a) (Utility k t ts rs xs prefixes (values ++ (x.0, pieces_text oc.pieces) ∷ []) ∷ ws) good
      ((h, r, v.1, shown_more values (x.0, pieces_text oc.pieces) n (assigned_fits x first status v.0 refl)), rest))))

  unseen_good : (saved : Saved) (x : p.Redirect) → SavedGood numbers saved → WordGood numbers (opened x) → StateGood numbers (unseen e f status ws a saved x)
  unseen_good saved x h k =
      let before : Environment = restored (λ n. true) 0 e saved in
      let s : StateGood numbers (expand f status in_one (opened x) (fresh before a.given)).state =
      expands numbers f status in_one (opened x) before a.given k (restored_good numbers (λ n. true) 0 e saved h env) in
      record { environment = hiding_good numbers e saved _ env s.environment; copies = s.copies }

  pub call_good : (n : ℕ) (t : Text) (ts : List Text) (body : p.Command) (rs : p.Redirects) (xs : Assignments) (saved : Saved) → CommandGood numbers body → RedirectsGood numbers rs
      → ValuesGood numbers xs → SavedGood numbers saved → EffectGood numbers (call e f status ws a n t ts body rs xs saved)
  unfolding call RedirectsGood ValuesGood SavedGood AllWorkGood WorkGood
  call_good n t ts body p.no_redirects [] saved h r v g =
      let k : EffectGood numbers (goes e f status (Command body ∷ Return n t saved ∷ ws)) = goes_good numbers e f status (Command body ∷ Return n t saved ∷ ws) env (h, (g, rest)) in
      record { environment = k.environment; next = k.next; starts = k.starts; quiet = k.quiet }
  call_good n t ts body (p.more_redirects x left) [] saved h r v g =
      let s : StateGood numbers (unseen e f status ws a saved x) = unseen_good saved x g r.0 in
      expanded_good numbers _ false _ s (λ u. refl)
      (redirected_good _ _ (Call n t ts body left [] saved ∷ ws) _ s.environment ((h, r.1, v, g), rest)
      (λ d q. failed_good (Named t ts) _ ws (restored_good numbers a.restores 0 d saved g q) rest))
  call_good n t ts body rs (x ∷ xs) saved h r v g =
      let oc : Outcome = expand f status in_one x.1 (fresh e a.given) in
      let s : StateGood numbers oc.state = expands numbers f status in_one x.1 e a.given v.0.word env in
      let after : State = kept e f status ws a oc.state in
      let good : EnvironmentGood numbers after.environment = kept_good oc.state s.environment in
      expanded_good numbers oc.state false _ s (λ u. refl)
      (unless_good numbers e f status ws a after _ good
      (λ b.
      assignment_good x.0 (record oc { state = after }) (Call n t ts body rs xs ((x.0, after.environment.variables x.0) ∷ saved) ∷ ws) good (assigned_fits x (fresh e a.given) status v.0 refl)
      ((h, r, v.1, (had_fits numbers after.environment x.0 good, g)), rest)))
