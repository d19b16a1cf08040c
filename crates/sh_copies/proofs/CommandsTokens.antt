-- The same tokens and states among the commands of a copy.
-- POSIX.1-2024, XCU 2.3 (token recognition), 2.10 (shell grammar).
use Rattle.std.proofs.Common.{◌≡◌, ℕ, ◌+◌, ◌≤◌, ◌==◌, Bool, true, false, ◌||◌, if◌then◌else◌, List, [], ◌∷◌, ◌++◌, length, drop, Option, Some, None, ◌⊎◌, refl, sym, ap, ◌∙◌, subst, arith, length-append, ⊎_elim}
use Rattle.std.proofs.lemmas.Bool.{cond-true, cond-false, true≢false}
use Rattle.std.proofs.lemmas.List.{drop-drop}
use Rattle.std.proofs.lemmas.Option.{same_Some}
use Rattle.sh_tree.specs.declared.token.command.Operator.{Operator}
use Rattle.sh_tree.specs.declared.token.command.Redirection.{Redirection}
use Rattle.sh_tree.specs.declared.token.command.Stage.{Stage}
use Rattle.sh_tree.specs.declared.token.command.Stage.TheVariants.{First, Prefixed, Named}
use Rattle.sh_tree.specs.declared.token.word.Context.{Context}
use Rattle.sh_tree.specs.standard.language.Bytes.{is_first, run, is_digit, name_length}
use Rattle.sh_tree.specs.standard.language.Commands.{blanks, blank_length, lead_at, bare_word, declares, name_end, is_assignment, operator, operator_of, further, redirection, redirection_by, redirects, digits_end, number_of, is_bare_name, is_newline_lead, is_open}
use Rattle.sh_tree.specs.standard.language.Contexts.{in_word, in_value, in_operand, in_stage}
use Rattle.sh_tree.specs.standard.language.HereDocuments.{Mark}
use Rattle.sh_tree.specs.standard.language.Reading.{lead_of, lead_here, skip, behind_name, parted, unopened, stage_behind}
use Rattle.sh_tree.specs.standard.language.States.{Spot, State, Document, next, past, begun, lower, as_deep, closing, with_mark, on_line, with_document, facing, waits}
use Rattle.sh_copies.proofs.AlikeBytes.{by_bool}
use Rattle.sh_copies.proofs.Blanks.{is_number_sign, blank_moves}
use Rattle.sh_copies.proofs.Copies.{Copied, Place, Counts, Moved, Turns, turned, limit_of}
use Rattle.sh_copies.proofs.Leads.{lead_front, lead_moves, bare_front, bare_moves, name_moves, assignment_moves, behind_digits, digits_move, behind_digits_moves}
use Rattle.sh_copies.proofs.WordsMove.{equal_far}
use Rattle.sh_copies.proofs.Places.{left, further as further_on, as_far, moved_to, moved_behind}

-- a closing parenthesis follows the copy in both texts
pub record Closing (rest rest' : List ℕ) : Type 0 where
  pub r : List ℕ
  pub r' : List ℕ
  pub there : rest ≡ 41 ∷ r
  pub here : rest' ≡ 41 ∷ r'

abbrev pub Ahead : {b b' : List ℕ} → Copied b b' → Type 0
Ahead c = (c.rest' ≡ c.rest) ⊎ Closing c.rest c.rest'

module _ {b b' : List ℕ} (c : Copied b b') where
  -- a context that begins at the same place
  pub turns_at : {i i' : ℕ} → Place c i i' → (x : Context) → x.origin ≡ i → Turns c x i'
  turns_at p x e quoted n =
      ap (λ k. c.into + n == k) p.at' ∙ equal_far c.from c.into p.by n ∙ sym (ap (λ k. c.from + n == k) (e ∙ p.at))

module _ {b b' : List ℕ} (c : Copied b b') (ahead : Ahead c) where
  -- what depends on no byte after a closing parenthesis
  pub text_same : {A : Type 0} (f : List ℕ → A) → ((w r r' : List ℕ) → f (w ++ 41 ∷ r') ≡ f (w ++ 41 ∷ r)) → {i i' : ℕ} → Place c i i' → i ≤ limit_of c → f (drop i' b') ≡ f (drop i b)
  text_same f moves p h =
      let l = left c p h in
      ⊎_elim
      (λ same. ap f (l.here ∙ ap (λ r. l.w ++ r) same ∙ sym l.there))
      (λ k. ap f (l.here ∙ ap (λ r. l.w ++ r) k.here) ∙ moves l.w k.r k.r' ∙ sym (ap f (l.there ∙ ap (λ r. l.w ++ r) k.there)))
      ahead

  pub lead_same : {i i' : ℕ} → Place c i i' → i ≤ limit_of c → (g : Stage) → lead_at b' g i' ≡ lead_at b g i
  lead_same {i = i} {i' = i'} p h g = lead_front b' g i' ∙ text_same (λ cs. lead_at cs g 0) (lead_moves g) p h ∙ sym (lead_front b g i)

  pub bare_same : {i i' : ℕ} → Place c i i' → i ≤ limit_of c → bare_word b' i' ≡ bare_word b i
  bare_same {i = i} {i' = i'} p h = bare_front b' i' ∙ text_same (λ cs. bare_word cs 0) (λ w r r'. (bare_moves w r r').0) p h ∙ sym (bare_front b i)

  pub declares_same : {i i' : ℕ} → Place c i i' → i ≤ limit_of c → declares b' i' ≡ declares b i
  unfolding declares
  declares_same p h = rw (bare_same p h) refl

  pub bare_name_same : {i i' : ℕ} → Place c i i' → i ≤ limit_of c → is_bare_name b' i' ≡ is_bare_name b i
  unfolding is_bare_name
  bare_name_same p h = rw (bare_same p h) refl

  pub name_same : {i i' : ℕ} → Place c i i' → i ≤ limit_of c → Place c (name_end b i) (name_end b' i')
  unfolding name_end
  name_same {i = i} {i' = i'} p h = as_far c (name_length (drop i b)) p refl (ap (λ n. i' + n) (text_same name_length (λ w r r'. (name_moves w r r').0) p h))

  -- the context of a word of a simple command
  pub record SameContext (g : Stage) (i i' : ℕ) : Type 0 where
    pub origin : ℕ
    pub turns : Turns c (in_stage b g i) origin
    pub is : turned origin (in_stage b g i) ≡ in_stage b' g i'

  operand_same : {i i' : ℕ} → Place c i i' → i ≤ limit_of c → (o : ℕ) × Turns c (in_operand b i) o × (turned o (in_operand b i) ≡ in_operand b' i')
  unfolding in_operand
  operand_same {i = i} {i' = i'} p h =
      let same = text_same is_assignment assignment_moves p h in
      let name = further_on c 1 (name_same p h) in
      by_bool (is_assignment (drop i b))
      (λ is.
      let here : (if is_assignment (drop i b) then in_value (name_end b i + 1) else in_word i) ≡ in_value (name_end b i + 1) = cond-true _ _ _ is in
      let there : (if is_assignment (drop i' b') then in_value (name_end b' i' + 1) else in_word i') ≡ in_value (name_end b' i' + 1) = cond-true _ _ _ (same ∙ is) in
      (name_end b' i' + 1, turns_at c name (in_operand b i) (ap (λ x. x.origin) here), ap (turned (name_end b' i' + 1)) here ∙ sym there))
      (λ other.
      let here : (if is_assignment (drop i b) then in_value (name_end b i + 1) else in_word i) ≡ in_word i = cond-false _ _ _ other in
      let there : (if is_assignment (drop i' b') then in_value (name_end b' i' + 1) else in_word i') ≡ in_word i' = cond-false _ _ _ (same ∙ other) in
      (i', turns_at c p (in_operand b i) (ap (λ x. x.origin) here), ap (turned i') here ∙ sym there))

  pub context_same : (g : Stage) {i i' : ℕ} → Place c i i' → i ≤ limit_of c → SameContext g i i'
  unfolding in_stage
  context_same First {i} {i'} p h = record { origin = i'; turns = turns_at c p (in_word i) refl; is = refl }
  context_same Prefixed {i} {i'} p h = record { origin = i'; turns = turns_at c p (in_word i) refl; is = refl }
  context_same (Named true) p h = let o = operand_same p h in record { origin = o.0; turns = o.1; is = o.2 }
  context_same (Named false) {i} {i'} p h = record { origin = i'; turns = turns_at c p (in_word i) refl; is = refl }

  -- the same redirection's first tokens
  pub record SameRedirection (i' : ℕ) (o : Redirection) : Type 0 where
    pub to : Redirection
    pub is : redirection b' i' ≡ Some to
    pub operator : to.operator ≡ o.operator
    pub end : Place c o.end to.end

  redirection_is : (x : List ℕ) (i n : ℕ) (o : Option (Operator × ℕ)) → run is_digit (drop i x) ≡ n → behind_digits (drop i x) ≡ o → redirection x i ≡ redirection_by i (i + n) (further (i + n) o)
  unfolding redirection operator
  redirection_is x i n o e f =
      ap (λ t. redirection_by i (digits_end x i) (further (digits_end x i) (operator_of t))) (sym (drop-drop (run is_digit (drop i x)) i x))
      ∙ ap (λ t. redirection_by i (digits_end x i) (further (digits_end x i) t)) f ∙ ap (λ k. redirection_by i (i + k) (further (i + k) o)) e

  pub redirection_same : {i i' : ℕ} {o : Redirection} → Place c i i' → i ≤ limit_of c → redirection b i ≡ Some o → SameRedirection i' o
  redirection_same {i = i} {i' = i'} {o = o} p h is =
      let n = run is_digit (drop i b) in
      let found = behind_digits (drop i b) in
      let here = redirection_is b i n found refl refl in
      let there = redirection_is b' i' n found (text_same (run is_digit) digits_move p h) (text_same behind_digits behind_digits_moves p h) in
      go n found (sym here ∙ is) there
    where
      tested : (n : ℕ) (x : Operator × ℕ) (t : Bool) → (if t then Some (record { number = number_of i (i + n); operator = x.0; at = i + n; end = i + n + x.1 }) else None) ≡ Some o
          → redirection b' i' ≡ (if t then Some (record { number = number_of i' (i' + n); operator = x.0; at = i' + n; end = i' + n + x.1 }) else None) → SameRedirection i' o
      tested n x true e f =
          let same = same_Some _ o e in
          record {
            to = record { number = number_of i' (i' + n); operator = x.0; at = i' + n; end = i' + n + x.1 };
            is = f;
            operator = ap (λ (z : Redirection). z.operator) same;
            end = (let last : i + n + x.1 ≡ o.end = ap (λ (z : Redirection). z.end) same in as_far c (n + x.1) p (omega arith) (omega arith));
          }
      tested n x false e f = cc

      go : (n : ℕ) (found : Option (Operator × ℕ)) → redirection_by i (i + n) (further (i + n) found) ≡ Some o → redirection b' i' ≡ redirection_by i' (i' + n) (further (i' + n) found) → SameRedirection i' o
      go n None e f = cc
      go n (Some x) e f = tested n x (redirects x.0) e f

  -- Blanks

  -- no number sign is there, or the copy is followed by the same
  abbrev pub Ready : ℕ → Type 0
  Ready i = (c.rest' ≡ c.rest) ⊎ (is_first is_number_sign (drop i b) ≡ false)

  pub blanks_same : (joins : Bool) {i i' : ℕ} → Place c i i' → blanks joins b i ≤ limit_of c → Ready (blanks joins b i) → Place c (blanks joins b i) (blanks joins b' i')
  unfolding blanks
  blanks_same joins {i} {i'} p h ready =
      let l = left c p (omega arith) in
      let long = l.long in
      let whole : (c.rest' ≡ c.rest) → blank_length joins (drop i' b') ≡ blank_length joins (drop i b) = λ same. ap (blank_length joins) (l.here ∙ ap (λ r. l.w ++ r) same ∙ sym l.there) in
      let part : Closing c.rest c.rest' → (is_first is_number_sign (drop (i + blank_length joins (drop i b)) b) ≡ false) → blank_length joins (drop i' b') ≡ blank_length joins (drop i b) =
      (λ k token.
      let there : drop i b ≡ l.w ++ 41 ∷ k.r = l.there ∙ ap (λ r. l.w ++ r) k.there in
      let here : drop i' b' ≡ l.w ++ 41 ∷ k.r' = l.here ∙ ap (λ r. l.w ++ r) k.here in
      let size : blank_length joins (drop i b) ≡ blank_length joins (l.w ++ 41 ∷ k.r) = ap (blank_length joins) there in
      let first : is_first is_number_sign (drop (blank_length joins (l.w ++ 41 ∷ k.r)) (l.w ++ 41 ∷ k.r)) ≡ false =
      ap (λ t. is_first is_number_sign (drop (blank_length joins t) t)) (sym there) ∙ ap (is_first is_number_sign) (drop-drop (blank_length joins (drop i b)) i b) ∙ token in
      ap (blank_length joins) here ∙ blank_moves joins l.w k.r k.r' (omega arith) first ∙ sym size) in
      as_far c (blank_length joins (drop i b)) p refl
      (ap (λ n. i' + n) (⊎_elim whole (λ k. ⊎_elim whole (part k) ready) ahead))

  -- States

  pub record MovedState (s s' : State) : Type 0 where
    pub spot : Moved c s.spot s'.spot
    pub closed : s'.closed ≡ s.closed
    pub pending : s'.pending ≡ s.pending
    pub count : length s'.bodies ≡ length s.bodies

  -- at the token at or after a place
  pub moved_next : {i i' : ℕ} {s s' : State} → MovedState s s' → Place c i i' → (next b i s).spot.at ≤ limit_of c → Ready (next b i s).spot.at → MovedState (next b i s) (next b' i' s')
  moved_next {i} {i'} {s} {s'} m p h ready = record {
    spot = moved_to c m.spot (subst (λ j. Place c (blanks s.spot.joins b i) (blanks j b' i')) (sym m.spot.joins) (blanks_same s.spot.joins p h ready));
    closed = m.closed;
    pending = m.pending;
    count = m.count;
  }

  pub moved_past : {s s' : State} {u u' : Spot} → MovedState s s' → Moved c u u' → (past b u s).spot.at ≤ limit_of c → Ready (past b u s).spot.at → MovedState (past b u s) (past b' u' s')
  moved_past {s} {s'} {u} {u'} m k h ready = record {
    spot = moved_behind c u u' k.counts m.spot (subst (λ j. Place c (blanks s.spot.joins b u.at) (blanks j b' u'.at)) (sym m.spot.joins) (blanks_same s.spot.joins k.place h ready));
    closed = m.closed;
    pending = m.pending;
    count = m.count;
  }

  pub moved_skip : (n : ℕ) {s s' : State} → MovedState s s' → (skip b n s).spot.at ≤ limit_of c → Ready (skip b n s).spot.at → MovedState (skip b n s) (skip b' n s')
  moved_skip n m h ready = moved_next m (further_on c n m.spot.place) h ready

  pub moved_name : {s s' : State} → MovedState s s' → s.spot.at ≤ limit_of c → (behind_name b s).spot.at ≤ limit_of c → Ready (behind_name b s).spot.at → MovedState (behind_name b s) (behind_name b' s')
  moved_name m l h ready = moved_next m (name_same m.spot.place l) h ready

  pub moved_begun : {s s' : State} → MovedState s s' → MovedState (begun s) (begun s')
  moved_begun m = record {
    spot = record { place = m.spot.place; depth = m.spot.depth; joins = m.spot.joins; tabs = m.spot.tabs; quiet = m.spot.quiet; counts = (let k = m.spot.counts in omega arith) };
    closed = m.closed;
    pending = m.pending;
    count = m.count;
  }

  pub moved_lower : {s s' : State} → MovedState s s' → MovedState (lower s) (lower s')
  moved_lower m = record {
    spot = record { place = m.spot.place; depth = ap (λ n. n + 1) m.spot.depth; joins = m.spot.joins; tabs = m.spot.tabs; quiet = m.spot.quiet; counts = m.spot.counts };
    closed = m.closed;
    pending = m.pending;
    count = m.count;
  }

  pub moved_as_deep : {r r' s s' : State} → MovedState r r' → MovedState s s' → MovedState (as_deep r s) (as_deep r' s')
  moved_as_deep k m = record {
    spot = record { place = m.spot.place; depth = k.spot.depth; joins = m.spot.joins; tabs = m.spot.tabs; quiet = m.spot.quiet; counts = m.spot.counts };
    closed = m.closed;
    pending = m.pending;
    count = m.count;
  }

  pub moved_closing : (t : Bool) {s s' : State} → MovedState s s' → MovedState (closing t s) (closing t s')
  moved_closing t m = record { spot = m.spot; closed = refl; pending = m.pending; count = m.count }

  pub moved_mark : (k : Mark) {s s' : State} → MovedState s s' → MovedState (with_mark k s) (with_mark k s')
  moved_mark k m = record { spot = m.spot; closed = m.closed; pending = ap (λ ms. ms ++ k ∷ []) m.pending; count = m.count }

  pub moved_line : {i i' : ℕ} {s s' : State} → MovedState s s' → Place c i i' → MovedState (on_line i s) (on_line i' s')
  moved_line m p = record { spot = moved_to c m.spot p; closed = m.closed; pending = refl; count = m.count }

  pub moved_document : {i i' : ℕ} (d d' : Document) (u u' : Spot) {s s' : State} → Counts c u u' → MovedState s s' → Place c i i' → MovedState (with_document i d u s) (with_document i' d' u' s')
  moved_document d d' u u' {s} {s'} k m p = record {
    spot = moved_behind c u u' k m.spot p;
    closed = m.closed;
    pending = m.pending;
    count = length-append s'.bodies (d' ∷ []) ∙ ap (λ n. n + 1) m.count ∙ sym (length-append s.bodies (d ∷ []));
  }

  pub moved_facing : {s s' : State} → MovedState s s' → Moved c (facing s) (facing s')
  moved_facing {s} {s'} m = record {
    place = m.spot.place;
    depth = m.spot.depth;
    joins = m.spot.joins;
    tabs = m.spot.tabs;
    quiet = λ h. still s.spot.quiet s'.spot.quiet (waits s.pending) m.spot.quiet (sym (ap (λ ms. s'.spot.quiet || waits ms) m.pending) ∙ h);
    counts = m.spot.counts;
  }
    where
      still : (t t' k : Bool) → (t' ≡ true → t ≡ true) → (t' || k) ≡ true → (t || k) ≡ true
      still true t' k f h = refl
      still false true k f h = absurd (true≢false (sym (f refl)))
      still false false k f h = h

  either_moved : (t : Bool) (s u s' u' : State) → (t ≡ true → MovedState s s') → (t ≡ false → MovedState u u') → MovedState (if t then s else u) (if t then s' else u')
  either_moved true s u s' u' h k = h refl
  either_moved false s u s' u' h k = k refl

  pub lead_of_same : {s s' : State} → MovedState s s' → s.spot.at ≤ limit_of c → (g : Stage) → lead_of b' g s' ≡ lead_of b g s
  lead_of_same m h g = lead_same m.spot.place h g

  pub moved_parted : {s s' : State} → MovedState s s' → s.spot.at ≤ limit_of c → (parted b s).spot.at ≤ limit_of c → Ready (parted b s).spot.at → MovedState (parted b s) (parted b' s')
  moved_parted {s} {s'} m l h ready =
      let t = is_newline_lead (lead_here b s) in
      subst (λ k. MovedState (parted b s) (if is_newline_lead k then s' else skip b' 1 s')) (sym (lead_of_same m l First))
      (either_moved t s (skip b 1 s) s' (skip b' 1 s') (λ e. m)
      (λ e. let same : parted b s ≡ skip b 1 s = cond-false _ _ _ e in moved_skip 1 m (subst (λ (z : State). z.spot.at ≤ limit_of c) same h) (subst (λ (z : State). Ready z.spot.at) same ready)))

  pub moved_unopened : {s s' : State} → MovedState s s' → s.spot.at ≤ limit_of c → (unopened b s).spot.at ≤ limit_of c → Ready (unopened b s).spot.at → MovedState (unopened b s) (unopened b' s')
  moved_unopened {s} {s'} m l h ready =
      let t = is_open (lead_of b (Named false) s) in
      subst (λ k. MovedState (unopened b s) (if is_open k then skip b' 1 s' else s')) (sym (lead_of_same m l (Named false)))
      (either_moved t (skip b 1 s) s (skip b' 1 s') s'
      (λ e. let same : unopened b s ≡ skip b 1 s = cond-true _ _ _ e in moved_skip 1 m (subst (λ (z : State). z.spot.at ≤ limit_of c) same h) (subst (λ (z : State). Ready z.spot.at) same ready))
      (λ e. m))

  pub stage_same : (g : Stage) {i i' : ℕ} → Place c i i' → i ≤ limit_of c → stage_behind b' g i' ≡ stage_behind b g i
  stage_same First p h = ap Named (declares_same p h)
  stage_same Prefixed p h = ap Named (declares_same p h)
  stage_same (Named d) p h = refl
