-- The texts that words write: static words in every context, quoted words as one field, operands as
-- an assignment.
use Rattle.std.proofs.Common.{◌≡◌, ◌≢◌, ℕ, zero, suc, ◌+◌, ◌==◌, ◌<◌, cond, arith, Bool, true, false, not, ◌&&◌, ◌||◌, if◌then◌else◌, Some, List, [], ◌∷◌, ◌++◌, map, length, take, drop, append-nil, true≢false, refl, sym, ap, ap₂, subst, ◌∙◌}
use Rattle.std.specs.List.{list_any, list_all, prefix_len}
use Rattle.std.proofs.lemmas.Bool.{ne_eqb, and_parts, and_from, or_parts, cond_both, false≢true, or_left}
use Rattle.std.proofs.lemmas.List.Concat.{flat_map-append}
use Rattle.std.proofs.lemmas.List.Folds.{list_any-append}
use Rattle.std.proofs.lemmas.List.Folds.{length-prefix_len, prefix_len-append}
use Rattle.std.proofs.lemmas.List.{take-append-le, drop-append-le}
use Rattle.std.proofs.lemmas.Option.{same_Some, none-some}
use Rattle.sh_tree.specs.declared.tree.Special.TheVariants as special
use Rattle.sh_tree.specs.standard.language.Bytes.{run, is_first, is_name_start, is_name_byte, name_length}
use Rattle.sh_tree.specs.standard.language.Commands.{is_assignment}
use Rattle.sh_tree.specs.standard.program.Syntax as p
use Rattle.sh_tree.specs.standard.program.Syntax.{Text}
use Rattle.sh_tree.specs.standard.program.Words as words
use Rattle.sh_runs.specs.Quoting.{is_quotation, are_quotations, part_mentions, word_mentions, is_at}
use Rattle.sh_runs.specs.standard.runs.Answers.{Marked, Directory}
use Rattle.sh_runs.specs.standard.runs.Environment.{Frame}
use Rattle.sh_runs.specs.standard.runs.Expansion.{Piece, Bytes, Break, Literal, Quoted, Unquoted, piece_text, pieces_text, Context, in_fields, in_quotes, Outcome, gives, followed, is_every, has_every, quote_pieces, expand_part, expand}
use Rattle.sh_runs.specs.standard.runs.Fields.{is_unquoted, is_pattern, field_text, field_names, fields}
use Rattle.sh_runs.specs.standard.runs.States.{State}
use Rattle.sh_runs.proofs.QuotedLemmas.{is_held, Held, quotations_held}
use Rattle.sh_runs.proofs.StaticLemmas.{is_standing, begins, mark, marks_of, marks, scan_before, Joins, joined_some}

-- Static words

-- the outcome writes the text, and does not end the process
pub record Writes (t : Text) (o : Outcome) : Type 0 where
  pub ended : o.state.ended ≡ false
  pub text : pieces_text o.pieces ≡ t

behind_write : (t u : Text) (o q : Outcome) (x : Bool) → x ≡ false → Writes t o → Writes u q → Writes (t ++ u) (if x then o else gives (o.pieces ++ q.pieces) q.state)
unfolding piece_text
behind_write t u o q true e h k = absurd (true≢false e)
behind_write t u o q false e h k = record { ended = k.ended; text = flat_map-append piece_text o.pieces q.pieces ∙ ap₂ (λ a b. a ++ b) h.text k.text }

both_write : (t u : Text) (o : Outcome) (next : State → Outcome) → Writes t o → ((s : State) → s.ended ≡ false → Writes u (next s)) → Writes (t ++ u) (followed o next)
unfolding followed
both_write t u o next h k = behind_write t u o (next o.state) o.state.ended h.ended h (k o.state h.ended)

quotes_write : (b : Bool) (s : State) → s.ended ≡ false → Writes [] (gives (quote_pieces b) s)
unfolding quote_pieces piece_text
quotes_write true s h = record { ended = h; text = refl }
quotes_write false s h = record { ended = h; text = refl }

module _ (f : Frame) (status : ℕ) where
  mutual
    unfolding words.part_text expand_part expand piece_text

    part_writes : (c : Context) (x : p.Part) (t : Text) (s : State) → words.part_text x ≡ Some t → s.ended ≡ false → Writes t (expand_part f status c x s)
    part_writes c (p.Plain u) t s h l = record { ended = l; text = append-nil u ∙ same_Some u t h }
    part_writes c (p.Escaped u) t s h l = record { ended = l; text = append-nil u ∙ same_Some u t h }
    part_writes c (p.Single style u) t s h l = record { ended = l; text = append-nil u ∙ same_Some u t h }
    part_writes c (p.Double w) t s h l =
        both_write [] t (gives (quote_pieces (c.split && has_every w)) s) (expand f status (in_quotes c) w) (quotes_write (c.split && has_every w) s l)
        (λ s k. word_writes (in_quotes c) w t s h k)
    part_writes c (p.Expansion at x operator) t s h l = absurd (none-some t h)
    part_writes c (p.Arithmetic at e) t s h l = absurd (none-some t h)
    part_writes c (p.Substitution at list) t s h l = absurd (none-some t h)
    part_writes c (p.Tilde at login) t s h l = absurd (none-some t h)
    part_writes c p.Joined t s h l = record { ended = l; text = same_Some [] t h }

    -- a word of static text writes it
    pub word_writes : (c : Context) (w : p.Word) (t : Text) (s : State) → words.word_text w ≡ Some t → s.ended ≡ false → Writes t (expand f status c w s)
    word_writes c p.no_parts t s h l = record { ended = l; text = same_Some [] t h }
    word_writes c (p.more_parts x w) t s h l =
        let parts : Joins (words.part_text x) (words.word_text w) t = joined_some (words.part_text x) (words.word_text w) t h in
        subst (λ u. Writes u (expand f status c (p.more_parts x w) s)) parts.4
        (both_write parts.0 parts.1 (expand_part f status c x s) (expand f status c w) (part_writes c x parts.0 s parts.2 l) (λ s k. word_writes c w parts.1 s parts.3 k))

-- Quoted words

held_standing : (ps : List Piece) → Held false ps → list_all is_standing ps ≡ true
unfolding is_held is_standing
held_standing [] h = refl
held_standing (Bytes Quoted t ∷ ps) h = held_standing ps h
held_standing (Break ∷ ps) h = absurd (false≢true h)
held_standing (Bytes Literal t ∷ ps) h = absurd (false≢true h)
held_standing (Bytes Unquoted t ∷ ps) h = absurd (false≢true h)

quoted_marks : (test : Marked → Bool) → ((c : ℕ) → test (mark true c) ≡ false) → (t : Text) (ms : List Marked) → list_any test ms ≡ false → list_any test (map (mark true) t ++ ms) ≡ false
quoted_marks test none [] ms h = h
quoted_marks test none (c ∷ cs) ms h = rw (none c) (quoted_marks test none cs ms h)

held_unquoted : (test : Marked → Bool) → ((c : ℕ) → test (mark true c) ≡ false) → (ps : List Piece) → Held false ps → list_any test (marks ps) ≡ false
unfolding is_held marks_of
held_unquoted test none [] h = refl
held_unquoted test none (Bytes Quoted t ∷ ps) h = quoted_marks test none t (marks ps) (held_unquoted test none ps h)
held_unquoted test none (Break ∷ ps) h = absurd (false≢true h)
held_unquoted test none (Bytes Literal t ∷ ps) h = absurd (false≢true h)
held_unquoted test none (Bytes Unquoted t ∷ ps) h = absurd (false≢true h)

held_no_pattern : (ps : List Piece) → Held false ps → is_pattern (marks ps) ≡ false
unfolding is_pattern
held_no_pattern ps h = rw (held_unquoted (λ m. is_unquoted 42 m || is_unquoted 63 m) (λ c. refl) ps h, held_unquoted (is_unquoted 91) (λ c. refl) ps h) refl

-- some piece of what comes first begins a field
followed_begins : (o : Outcome) (next : State → Outcome) → list_any begins o.pieces ≡ true → list_any begins (followed o next).pieces ≡ true
unfolding followed
followed_begins o next h =
    cond_both o.state.ended o (gives (o.pieces ++ (next o.state).pieces) (next o.state).state) (λ (x : Outcome). list_any begins x.pieces ≡ true)
    (λ b. h) (λ b. list_any-append begins o.pieces (next o.state).pieces ∙ or_left (list_any begins o.pieces) (list_any begins (next o.state).pieces) h)

at_alone : (x : p.Part) → part_mentions is_at x ≡ false → is_every x ≡ false
unfolding is_every part_mentions is_at
at_alone (p.Expansion at y operator) h = go y operator h
  where
    go : (y : p.Parameter) (operator : p.Operator) → part_mentions is_at (p.Expansion at y operator) ≡ false → is_every (p.Expansion at y operator) ≡ false
    go (p.Special special.At) p.Value k = absurd (true≢false k)
    go y operator k = refl
at_alone x h = refl

no_every : (w : p.Word) → word_mentions is_at w ≡ false → has_every w ≡ false
unfolding has_every word_mentions
no_every p.no_parts h = refl
no_every (p.more_parts x w) h =
    let q = or_parts (part_mentions is_at x) (word_mentions is_at w) h in rw (at_alone x q.0, no_every w q.1) refl

module _ (f : Frame) (status : ℕ) where
  quotation_begins : (x : p.Part) (s : State) → is_quotation x ≡ true → part_mentions is_at x ≡ false → list_any begins (expand_part f status in_fields x s).pieces ≡ true
  unfolding expand_part is_quotation begins part_mentions quote_pieces
  quotation_begins (p.Escaped t) s h k = refl
  quotation_begins (p.Single style t) s h k = refl
  quotation_begins (p.Double w) s h k = rw (no_every w k) (followed_begins (gives (Bytes Quoted [] ∷ []) s) (expand f status (in_quotes in_fields) w) refl)
  quotation_begins x s h k = absurd (false≢true h)

  -- a word of quotations, without `$@`, is one field
  pub quotations_one : (w : p.Word) (s : State) (separators : Text) (directory : Directory) → are_quotations w ≡ true → word_mentions is_at w ≡ false → words.word_text w ≢ Some []
      → (t : Text) × (fields separators directory (expand f status in_fields w s).pieces ≡ t ∷ [])
  unfolding field_names words.word_text expand are_quotations word_mentions
  quotations_one p.no_parts s separators directory h k l = absurd (l refl)
  quotations_one (p.more_parts x w) s separators directory h k l =
      let a = and_parts (is_quotation x) (are_quotations w) h in
      let b = or_parts (part_mentions is_at x) (word_mentions is_at w) k in
      let ps : List Piece = (expand f status in_fields (p.more_parts x w) s).pieces in
      let held : Held false ps = quotations_held f status false in_fields (p.more_parts x w) s h k in
      let front : list_any begins ps ≡ true = followed_begins (expand_part f status in_fields x s) (expand f status in_fields w) (quotation_begins x s a.0 b.0) in
      (field_text (marks ps), rw (scan_before separators ps (held_standing ps held) front, held_no_pattern ps held) refl)

-- Texts that are an assignment in form

-- there is a byte after as many
pub first_below : (other : ℕ → Bool) (n : ℕ) (t : Text) → is_first other (drop n t) ≡ true → n < length t
unfolding is_first
first_below other n [] h = absurd (false≢true (sym (ap (is_first other) (drop_none n)) ∙ h))
  where
    drop_none : (k : ℕ) → drop {A = ℕ} k [] ≡ []
    drop_none zero = refl
    drop_none (suc k) = refl
first_below other zero (c ∷ cs) h = omega arith
first_below other (suc n) (c ∷ cs) h = let below : n < length cs = first_below other n cs h in omega arith

first_stays : (other : ℕ → Bool) (t r : Text) → is_first other t ≡ true → is_first other (t ++ r) ≡ true
unfolding is_first
first_stays other [] r h = absurd (false≢true h)
first_stays other (c ∷ cs) r h = h

-- a stretch of a class that ends in the first text
run_front : (test : ℕ → Bool) (t r : Text) → run test t < length t → run test (t ++ r) ≡ run test t
run_front test t r h =
    let ends : prefix_len test t < length t = subst (λ n. n < length t) (length-prefix_len test t) h in
    length-prefix_len test (t ++ r) ∙ prefix_len-append test t r
    ∙ ap (λ b. cond b (length t + prefix_len test r) (prefix_len test t)) (ne_eqb (prefix_len test t) (length t) (λ e. absurd (omega arith)))
    ∙ sym (length-prefix_len test t)

-- the name, `=` and the value of an assignment in form, with more after it
pub record Assigns (t r : Text) : Type 0 where
  pub still : is_assignment (t ++ r) ≡ true
  pub name : take (name_length (t ++ r)) (t ++ r) ≡ take (name_length t) t
  pub value : drop (name_length (t ++ r) + 1) (t ++ r) ≡ drop (name_length t + 1) t ++ r

pub assignment_front : (t r : Text) → is_assignment t ≡ true → Assigns t r
unfolding is_assignment name_length
assignment_front t r h = go (is_first is_name_start t) refl h
  where
    go : (b : Bool) → is_first is_name_start t ≡ b
        → (not ((if b then run is_name_byte t else 0) == 0) && is_first (λ c. c == 61) (drop (if b then run is_name_byte t else 0) t)) ≡ true → Assigns t r
    go false e k = absurd (false≢true k)
    go true e k =
        let q = and_parts (not (run is_name_byte t == 0)) (is_first (λ c. c == 61) (drop (run is_name_byte t) t)) k in
        let below : run is_name_byte t < length t = first_below (λ c. c == 61) (run is_name_byte t) t q.1 in
        let same : run is_name_byte (t ++ r) ≡ run is_name_byte t = run_front is_name_byte t r below in
        let starts : is_first is_name_start (t ++ r) ≡ true = first_stays is_name_start t r e in
        record {
          still = rw (starts, same, drop-append-le (run is_name_byte t) t r (omega arith)) (and_from _ _ q.0 (first_stays (λ c. c == 61) (drop (run is_name_byte t) t) r q.1));
          name = rw (starts, e, same) (take-append-le (run is_name_byte t) t r (omega arith));
          value = rw (starts, e, same) (drop-append-le (run is_name_byte t + 1) t r (omega arith));
        }
