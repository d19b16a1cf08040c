-- Command substitutions: the commands and the parenthesis after them.
use Rattle.std.proofs.Common.{◌≡◌, ℕ, zero, suc, ◌+◌, ◌-◌, ◌<◌, ◌≤◌, Bool, true, false, not, cond, List, [], ◌∷◌, length, map, take, drop, Option, Some, None, Result, Ok, Err, IfErr, refl, sym, ap, subst, ◌∙◌, ⊎_elim, le_refl, le_trans, lt_of_lt_of_le, not-le_of_lt, length-drop, length-take, take_all, arith}
use Rattle.std.proofs.lemmas.Bool.{true≢false, cases_Bool, cond-true, cond-false}
use Rattle.std.proofs.lemmas.List.{drop-drop}
use Rattle.std.proofs.lemmas.List.Sums.{take_while-cons}
use Rattle.sh_tree.specs.declared.limits.TheConstants.{MAX_NESTING}
use Rattle.sh_tree.specs.declared.refusal.Form.TheVariants as form
use Rattle.sh_tree.specs.declared.refusal.Refusal.{Refusal}
use Rattle.sh_tree.specs.declared.refusal.Refusal.TheVariants.{LeftOut}
use Rattle.sh_tree.specs.declared.tree.CommandStyle.{CommandStyle}
use Rattle.sh_tree.specs.declared.tree.CommandStyle.TheVariants.{Paren, Backquote}
use Rattle.sh_tree.specs.declared.tree.Script.{Script}
use Rattle.sh_tree.specs.standard.language.Bytes.{is_last_backquote, run}
use Rattle.sh_tree.specs.standard.language.Commands.{blanks}
use Rattle.sh_tree.specs.standard.language.Reading as r
use Rattle.sh_tree.specs.standard.language.Reading.{ReadsSequence}
use Rattle.sh_tree.specs.standard.language.States as states
use Rattle.sh_tree.specs.standard.language.States.{Spot, document_count, nth, waits, within}
use Rattle.sh_tree.specs.standard.language.Substitutions.{backquote_end, closes, commands_text, has_removed_backslash, removes_no_backslash, no_backquote}
use Rattle.sh_scan.specs.Backquotes.{IsFirstKept}
use Rattle.sh_words.proofs.EndLemmas.{closes_inside}
use Rattle.sh_words.proofs.OperationLemmas.{closed_inside}
use Rattle.sh_bodies.specs.declared.Document.{Document}
use Rattle.sh_bodies.specs.Fill.{Filled, document_of, fill, fill_script}
use Rattle.sh_bodies.proofs.ReadingLemmas.{bodies, sequence_from}
use Rattle.sh_grammar.specs.declared.mark.Mark.{Mark}
use Rattle.sh_grammar.specs.declared.state.State.{State}
use Rattle.sh_grammar.specs.declared.ticks.Ticks.{Ticks}
use Rattle.sh_grammar.specs.declared.ticks.Ticks.TheVariants.{Here}
use Rattle.sh_grammar.specs.Marks.{mark_of}
use Rattle.sh_grammar.specs.States.{AreBefore, IsBefore, Lies, here, substituted, Stands, waiting}
use Rattle.sh_grammar.specs.Readers.{Answers, One, Nothing, Reading, Refused, SequenceFrom, unread}
use Rattle.sh_grammar.specs.Substitutions.{AnswersLevel, AskedFrom, ClosedFrom, Hands, IsLevel, TellsBackquoted, TellsClosed, TellsHanded, first_told, is_told_before, opened}
use Rattle.sh_grammar.specs.Ticks.{deeper}
use Rattle.sh_grammar.proofs.BodyLemmas.{Level, level_of, sequence_with}
use Rattle.sh_grammar.proofs.BreakLemmas.{blanks_settle}
use Rattle.sh_grammar.proofs.ReaderLemmas.{refused_by, refused_in}
use Rattle.sh_grammar.proofs.StateLemmas.{before_later}

first_of_all : (n : ℕ) (o : Option ℕ) (ms : List Mark) → IsBefore n o → AreBefore n ms → IsBefore n (waiting o ms)
first_of_all n (Some i) ms around behind = around
first_of_all n None [] around behind = tt
first_of_all n None (m ∷ ms) around behind = behind.0

pub substituted_stands : (b : List ℕ) (i n at : ℕ) (ticks : Ticks) (s : State) (o : Option ℕ) (ms : List Mark) (ds : List Document) → Lies b s → at ≡ blanks s.joins b i → s.at ≤ i → i ≤ at → at ≤ length b → n ≤ MAX_NESTING
    → o ≡ waiting s.outer s.pending → ms ≡ [] → ds ≡ []
    → Stands b (record { at = at; count = s.count; depth = n; closed = false; fresh = true; outer = o; joins = s.joins; tabs = s.tabs; ticks = ticks; pending = ms; bodies = ds })
substituted_stands b i n at ticks s o ms ds lies is before after inside shallow first none bare = record {
  inside = inside;
  settled = ap (blanks s.joins b) is ∙ blanks_settle s.joins b i ∙ sym is;
  few = lies.few;
  shallow = shallow;
  around = subst (IsBefore at) (sym first) (before_later s.at at _ (le_trans before after) (first_of_all s.at s.outer s.pending lies.around lies.behind));
  behind = subst (AreBefore at) (sym none) tt;
}

-- none waits
pub none_waits : (ms : List Mark) → None ≡ waiting None ms → waits (map mark_of ms) ≡ false
unfolding waits
none_waits [] h = refl
none_waits (m ∷ ms) h = cc

-- one waits
pub some_wait : (ms : List Mark) (i : ℕ) → Some i ≡ waiting None ms → waits (map mark_of ms) ≡ true
unfolding waits
some_wait [] i h = cc
some_wait (m ∷ ms) i h = refl

none_pending : (ms : List Mark) → None ≡ waiting None ms → map mark_of ms ≡ []
none_pending [] h = refl
none_pending (m ∷ ms) h = cc

-- The bodies of a level

-- what is read with the bodies is what is read without them, filled
pub filled_once : {limit : ℕ} {b : List ℕ} {s v : states.State} (ds : List Document) (t y : Script) → document_count s ≡ 0 → ((u : Script) → ReadsSequence limit b unread s v u → u ≡ t)
    → ReadsSequence limit b (bodies ds) s v y → y ≡ fill ds t
unfolding fill nth
filled_once [] t y first only l = only y l
filled_once {s = s} (d ∷ ds) t y first only l =
    let f = sequence_from (d ∷ ds) refl l in
    sym (ap (λ (r : Filled Script). r.0) f.fills) ∙ ap (λ n. (fill_script (drop n (d ∷ ds)) f.bare).0) first ∙ ap (λ u. (fill_script (d ∷ ds) u).0) (only f.bare f.reads)

pub filled_reads : {limit : ℕ} {b : List ℕ} {s v : states.State} (ds : List Document) (t : Script) → document_count s ≡ 0 → ((u : Script) → ReadsSequence limit b unread s v u → u ≡ t)
    → ReadsSequence limit b unread s v t → ReadsSequence limit b (bodies ds) s v (fill ds t)
filled_reads {limit = limit} {b = b} {s = s} {v = v} ds t first only l =
    let f = sequence_with (bodies ds) l in
    subst (λ y. ReadsSequence limit b (bodies ds) s v y) (filled_once ds t f.0 first only f.1) f.1

module _ (style : CommandStyle) (b : List ℕ) (s : State) (level : IsLevel s) where
  level_here : {limit : ℕ} {u : Spot} {t : Script} (l : Level limit b (here s).spot u t) → SequenceFrom b s limit l.end l.tree
  level_here {limit = limit} l = subst (λ x. ReadsSequence limit b unread x l.end l.tree) (sym level) l.reads

  pub closed_refused : (e : Refusal) → Refused b (SequenceFrom b s) e → Refused b (ClosedFrom style b s) e
  closed_refused e h = refused_by b (SequenceFrom b s) (ClosedFrom style b s) e
      (λ limit k y q. let l = level_of q.0 in (l.end, l.tree, level_here l, subst (λ u. l.end.spot.count ≤ u.count) (sym l.is) (le_refl l.end.spot.count))) h

  module _ (v : State) (t : Script) (one : One (SequenceFrom b s) (here v) t) where
    -- where a reading of it ends
    level_end : {limit : ℕ} {u : Spot} {y : Script} (l : Level limit b (here s).spot u y) → l.end ≡ here v
    level_end {limit = limit} l = (one.only limit l.end l.tree (level_here l)).0

    pub closed_open : closes style b v.at ≡ false → Nothing (ClosedFrom style b s)
    closed_open shut limit k y q =
        let l = level_of q.0 in
        let there : k.spot ≡ (here v).spot = l.is ∙ ap (λ u. u.spot) (level_end l) in
        true≢false (sym q.1 ∙ ap (λ u. closes style b u.at) there ∙ shut)

    -- the body of a here-document in it is outside
    pub closed_across : (i : ℕ) → Some i ≡ waiting None v.pending → Nothing (ClosedFrom style b s)
    closed_across i some limit k y q =
        let l = level_of q.0 in
        true≢false (sym (some_wait v.pending i some) ∙ sym (ap (λ (u : states.State). waits u.pending) (level_end l)) ∙ l.over)

    module _ (close : closes style b v.at ≡ true) (none : None ≡ waiting None v.pending) where
      -- the level ends where v is
      ends_level : within (here v).spot ≡ here (record v { closed = false; bodies = [] })
      ends_level = sym (ap (λ ms. record (within (here v).spot) { pending = ms }) (none_pending v.pending none))

      -- read without bodies
      bare_read : {limit : ℕ} {end : states.State} {y : Script} → ReadsSequence limit b unread (within (here s).spot) end y → SequenceFrom b s limit end y
      bare_read {limit = limit} {end = end} {y = y} l = subst (λ x. ReadsSequence limit b unread x end y) (sym level) l

      pub closed_read : One (ClosedFrom style b s) (here (record v { closed = false; bodies = [] })) (fill v.bodies t)
      closed_read = record {
        reads = (
          r.script {u = here v}
              (filled_reads v.bodies t refl (λ u l. (one.only 64 (here v) u (bare_read l)).1) (subst (λ x. ReadsSequence 64 b unread x (here v) t) level one.reads)) (none_waits v.pending none),
          close,
          sym ends_level,
        );
        only = λ limit k y q.
            let l = level_of q.0 in
            let end = level_end l in
            let all : l.end.bodies ≡ map document_of v.bodies = ap (λ (u : states.State). u.bodies) end in
            let whole : ReadsSequence limit b (bodies v.bodies) (within (here s).spot) l.end y = subst (λ ds. ReadsSequence limit b (nth ds) (within (here s).spot) l.end y) all l.whole in
            (q.2 ∙ ap within (l.is ∙ ap (λ u. u.spot) end) ∙ ends_level, filled_once v.bodies t y refl (λ u m. (one.only limit l.end u (bare_read m)).1) whole);
      }

-- The commands that a word asks for

-- what is answered from a place on is answered from an earlier one
pub answers_earlier : {A : Type 0} (b : List ℕ) (R : Reading A) (m n : ℕ) (r : Result (A × State) Refusal) → n ≤ m → Answers b R m r → Answers b R n r
answers_earlier b R m n (Ok r) before h = record { one = h.one; from = le_trans before h.from; stands = h.stands }
answers_earlier b R m n (Err e) before h = h

front_within : (k : ℕ) (b : List ℕ) → length (take k b) ≤ length b
front_within k b = omega (arith, length-take k b)

-- the last backquote of a text is found from any place before it
last_after : (cs : List ℕ) (k : ℕ) → is_last_backquote (drop k cs) ≡ true → run no_backquote cs + 1 ≤ length cs
unfolding is_last_backquote
last_after [] zero last = absurd (true≢false (sym last))
last_after [] (suc k) last = absurd (true≢false (sym last))
last_after (c ∷ []) zero last = omega (arith, ap length (take_while-cons no_backquote c [] ∙ cond-false _ _ _ (ap not last)))
last_after (c ∷ d ∷ cs) zero last = absurd (true≢false (sym last))
last_after (c ∷ cs) (suc k) last =
    let rest = last_after cs k last in
    ⊎_elim
    (λ plain. omega (arith, ap length (take_while-cons no_backquote c cs ∙ cond-true _ _ _ plain)))
    (λ other. omega (arith, ap length (take_while-cons no_backquote c cs ∙ cond-false _ _ _ other)))
    (cases_Bool (no_backquote c))

closed_after : (b : List ℕ) (i j : ℕ) → i ≤ j → closes Backquote b j ≡ true → backquote_end b i ≤ length b
unfolding closes
closed_after b i j after close =
    let whole : i + (j - i) ≡ j = omega arith in
    let there : is_last_backquote (drop (j - i) (drop i b)) ≡ true = ap is_last_backquote (drop-drop (j - i) i b ∙ ap (λ k. drop k b) whole) ∙ close in
    let some = last_after (drop i b) (j - i) there in
    omega (arith, length-drop i b)

module _ (b : List ℕ) (quoted : Bool) (i n : ℕ) (ticks : Ticks) (s : State) where
  -- the commands of `$(`
  pub paren_hands : (r : Result (Script × State) Refusal) → Answers b (ClosedFrom Paren b (substituted b i n ticks s)) i r → Hands b Paren quoted i n s r
  unfolding commands_text removes_no_backslash closes
  paren_hands (Ok r) h = record {
    one = record { reads = (refl, h.one.reads); only = λ limit k y l. h.one.only limit k y l.1 };
    from = h.from;
    within = closed_inside b r.1.at h.one.reads.1;
    few = h.stands.few;
  }
  paren_hands (Err e) h = refused_by b (ClosedFrom Paren b (substituted b i n ticks s)) (AskedFrom b Paren quoted i n s) e (λ limit k y l. (k, y, l.1, le_refl k.spot.count)) h

  -- commands that no backquote closes
  pub open_hands : (r : Result (Script × State) Refusal) → length b < backquote_end b i → Answers b (ClosedFrom Backquote b (substituted b i n ticks s)) i r
      → Hands b Backquote quoted i n s r
  unfolding commands_text
  open_hands (Ok r) none h = let some = closed_after b i r.1.at h.from h.one.reads.1 in absurd (omega arith)
  open_hands (Err e) none h =
      let whole : take (backquote_end b i) b ≡ b = take_all (backquote_end b i) b (omega arith) in
      refused_by b (ClosedFrom Backquote b (substituted b i n ticks s)) (AskedFrom b Backquote quoted i n s) e
      (λ limit k y l. (k, y, subst (λ t. ClosedFrom Backquote t (substituted t i n s.ticks s) limit k y) whole l.1, le_refl k.spot.count)) h

  module _ (end : ℕ) (is : end ≡ backquote_end b i) (within : end ≤ length b) where
    abbrev front : List ℕ
    front = take end b

    abbrev closed_front : Reading Script
    closed_front = ClosedFrom Backquote front (substituted front i n ticks s)

    -- the commands of the front are those that are asked for
    in_front : (limit : ℕ) (k : states.State) (y : Script) → AskedFrom b Backquote quoted i n s limit k y → closed_front limit k y
    unfolding commands_text
    in_front limit k y l = subst (λ j. ClosedFrom Backquote (take j b) (substituted (take j b) i n s.ticks s) limit k y) (sym is) l.1

    front_refused : (e : Refusal) → Refused front closed_front e → Refused b (AskedFrom b Backquote quoted i n s) e
    front_refused e h = refused_by b closed_front (AskedFrom b Backquote quoted i n s) e (λ limit k y l. (k, y, in_front limit k y l, le_refl k.spot.count))
        (refused_in closed_front front b e (front_within end b) h)

    -- no backslash goes before they are read
    pub front_hands : (r : Result (Script × State) Refusal) → has_removed_backslash quoted (drop i front) ≡ false → Answers front closed_front i r → Hands b Backquote quoted i n s r
    unfolding commands_text removes_no_backslash
    front_hands (Ok r) none h = record {
      one = record {
        reads = (
          ap (λ j. not (has_removed_backslash quoted (drop i (take j b)))) (sym is) ∙ ap not none,
          subst (λ j. ClosedFrom Backquote (take j b) (substituted (take j b) i n s.ticks s) 64 (here r.1) r.0) is h.one.reads,
        );
        only = λ limit k y l. h.one.only limit k y (in_front limit k y l);
      };
      from = h.from;
      within = lt_of_lt_of_le (closes_inside front r.1.at h.one.reads.1) (front_within end b);
      few = h.stands.few;
    }
    front_hands (Err e) none h = front_refused e h

    -- one does
    kept_nothing : has_removed_backslash quoted (drop i front) ≡ true → Nothing (AskedFrom b Backquote quoted i n s)
    unfolding commands_text removes_no_backslash
    kept_nothing some limit k y l = true≢false (sym l.0 ∙ ap (λ j. not (has_removed_backslash quoted (drop i (take j b)))) (sym is) ∙ ap not some)

    pub kept_hands : (r : Result (Script × State) Refusal) (at : ℕ) → has_removed_backslash quoted (drop i front) ≡ true → at < length b → Answers front closed_front i r
        → Hands b Backquote quoted i n s (Err (first_told r at))
    unfolding first_told
    kept_hands (Ok r) at some inside h = (inside, kept_nothing some)
    kept_hands (Err e) at some inside h = go (is_told_before e at)
      where
        go : (t : Bool) → Refused b (AskedFrom b Backquote quoted i n s) (cond t e (LeftOut form.BackslashInBackquotes at))
        go true = front_refused e h
        go false = (inside, kept_nothing some)

-- What is reported of them

told_by : {A : Type 0} {P Q : Refusal → Type 0} (r : Result A Refusal) → IfErr r P → ((e : Refusal) → P e → Q e) → IfErr r Q
told_by (Ok x) h f = tt
told_by (Err e) h f = f e h

module _ (b : List ℕ) (quoted : Bool) (i n : ℕ) (s : State) (r : Result (Script × State) Refusal) where
  pub paren_told : IfErr r (TellsClosed b Paren (opened Paren i) (substituted b i n (deeper s.ticks) s)) → IfErr r (TellsHanded b Paren quoted i n s)
  paren_told h = told_by r h (λ e t. t)

  -- no backquote closes them
  pub open_told : length b < backquote_end b i → IfErr r (TellsClosed b Backquote (opened Backquote i) (substituted b i n s.ticks s)) → IfErr r (TellsHanded b Backquote quoted i n s)
  open_told none h = told_by r h (λ e t. (λ far. t, λ near. absurd (not-le_of_lt none near)))

  -- the backquote that ends at `end` does
  pub closed_told : (end : ℕ) → end ≡ backquote_end b i → end ≤ length b → IfErr r (TellsBackquoted (take end b) quoted i n s) → IfErr r (TellsHanded b Backquote quoted i n s)
  closed_told end is within h =
      told_by r h (λ e t. (λ far. absurd (not-le_of_lt far (subst (λ k. k ≤ length b) is within)), λ near. subst (λ k. TellsBackquoted (take k b) quoted i n s e) is t))

  -- no backslash goes before they are read, in the text that ends with what closes them
  pub plain_told : has_removed_backslash quoted (drop i b) ≡ false → IfErr r (TellsClosed b Backquote (opened Backquote i) (substituted b i n (Here quoted) s))
      → IfErr r (TellsBackquoted b quoted i n s)
  plain_told none h = told_by r h (λ e t. record { plain = λ _. t; kept = λ some. absurd (true≢false (sym some ∙ none)) })

  -- one does
  pub kept_told : (k : ℕ) → has_removed_backslash quoted (drop i b) ≡ true → IsFirstKept quoted (drop i b) k → AnswersLevel b Backquote i n (Here quoted) s r
      → TellsBackquoted b quoted i n s (first_told r (i + k))
  kept_told k some first h = record {
    plain = λ none. absurd (true≢false (sym some ∙ none));
    kept = λ _. record { further = k; first = first; found = r; answers = h; is = refl };
  }
