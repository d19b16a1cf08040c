-- Words whose form keeps splitting and pathname expansion from changing what they expand to: a step
-- that expands one has no Split event.
use Rattle.std.proofs.Common.{◌≡◌, ℕ, zero, suc, ◌==◌, nat_lt, Bool, true, false, not, ◌&&◌, ◌||◌, Option, Some, None, List, [], ◌∷◌, ◌++◌, length, ℤ, pos, negsuc, ◌/◌, ◌%◌, refl, sym, ap, ◌∙◌, true≢false, ◌+◌}
use Rattle.std.specs.List.{list_any, list_all}
use Rattle.std.proofs.Math.Bool.{or-false, and-false}
use Rattle.std.proofs.lemmas.Bool.{ne_eqb, and_parts, and_from, or_from, cond_both, false≢true, not-true}
use Rattle.std.proofs.lemmas.List.Folds.{list_all-append}
use Rattle.sh_tree.specs.declared.tree.Action.{Action}
use Rattle.sh_tree.specs.declared.tree.Action.TheVariants as action
use Rattle.sh_tree.specs.declared.tree.Special as tree
use Rattle.sh_tree.specs.declared.tree.Special.TheVariants as special
use Rattle.sh_tree.specs.standard.language.Bytes.{is_in}
use Rattle.sh_tree.specs.standard.program.Syntax.{Text, Parameter, Variable, Positional, Special, Part, Plain, Escaped, Single, Double, Expansion, Arithmetic, Substitution, Tilde, Joined, Word, no_parts, more_parts, Operator, Value, Length, Use, Remove}
use Rattle.sh_runs.specs.Quoting.{is_numeric, gives_number, is_quoted_alternative, is_whole, are_whole, word_begins_pattern}
use Rattle.sh_runs.specs.standard.runs.Answers.{Given}
use Rattle.sh_runs.specs.standard.runs.Arithmetic.{evaluate}
use Rattle.sh_runs.specs.standard.runs.Environment.{Environment, Frame}
use Rattle.sh_runs.specs.standard.runs.Expansion.{Literal, Quoted, Unquoted, Piece, Bytes, Break, in_fields, in_default, value_origin, Outcome, gives, followed, special_value, value_of, needed, value_pieces, used, computed_pieces, expand_part, expand, expand_operator, expand_inside}
use Rattle.sh_runs.specs.standard.runs.Fields.{is_expanded, is_split, begins_pattern, holds_pattern, splits}
use Rattle.sh_runs.specs.standard.runs.Numbers.{last_digits, digits, integer_text}
use Rattle.sh_runs.specs.standard.runs.States.{State, taken}
use Rattle.sh_runs.proofs.ExpansionLemmas.{word_tells}
use Rattle.sh_runs.proofs.QuotedLemmas.{is_held, Held, followed_all, tilde_held, double_held, quotations_held}
use Rattle.sh_runs.proofs.SteadyLemmas.{is_numeral, is_firm, Firm, word_firm, numeral_stands, numeral_kept, or_second, use_no_number, removal_no_number}

-- Pieces

-- an expansion outside quotes that gives bytes
is_full : Piece → Bool
is_full (Bytes Unquoted t) = not (length t == 0)
is_full _ = true

-- no expansion outside quotes
is_still : Piece → Bool
is_still x = not (is_expanded x)

held_full : (ps : List Piece) → Held true ps → list_all is_full ps ≡ true
unfolding is_held is_full
held_full [] h = refl
held_full (Bytes Quoted t ∷ ps) h = held_full ps h
held_full (Break ∷ ps) h = held_full ps h
held_full (Bytes Literal t ∷ ps) h = absurd (false≢true h)
held_full (Bytes Unquoted t ∷ ps) h = absurd (false≢true h)

held_still : (ps : List Piece) → Held true ps → list_all is_still ps ≡ true
unfolding is_held is_still is_expanded
held_still [] h = refl
held_still (Bytes Quoted t ∷ ps) h = held_still ps h
held_still (Break ∷ ps) h = held_still ps h
held_still (Bytes Literal t ∷ ps) h = absurd (false≢true h)
held_still (Bytes Unquoted t ∷ ps) h = absurd (false≢true h)

still_unsplit : (ifs : Text) (ps : List Piece) → list_all is_still ps ≡ true → (list_any (is_split ifs) ps ≡ false) × (list_any is_expanded ps ≡ false)
unfolding is_still is_expanded is_split
still_unsplit ifs [] h = (refl, refl)
still_unsplit ifs (Bytes Literal t ∷ ps) h = still_unsplit ifs ps h
still_unsplit ifs (Bytes Quoted t ∷ ps) h = still_unsplit ifs ps h
still_unsplit ifs (Bytes Unquoted t ∷ ps) h = absurd (false≢true h)
still_unsplit ifs (Break ∷ ps) h = still_unsplit ifs ps h

-- a numeral is no backslash
no_escape : (c : ℕ) → is_numeral c ≡ true → (c == 92) ≡ false
no_escape c h = ne_eqb c 92 (λ q. false≢true (sym (ap is_numeral q) ∙ h))

numerals_unsplit : (ifs t : Text) → list_any is_numeral ifs ≡ false → list_all is_numeral t ≡ true → list_any (λ c. is_in ifs c || c == 92) t ≡ false
numerals_unsplit ifs [] h k = refl
numerals_unsplit ifs (c ∷ cs) h k =
    let p = and_parts (is_numeral c) (list_all is_numeral cs) k in
    or_from (is_in ifs c || c == 92) (list_any (λ d. is_in ifs d || d == 92) cs)
    (or_from (is_in ifs c) (c == 92) (numeral_stands ifs c h p.0) (no_escape c p.0)) (numerals_unsplit ifs cs h p.1)

numerals_no_pattern : (t : Text) → list_all is_numeral t ≡ true → list_any begins_pattern t ≡ false
numerals_no_pattern [] k = refl
numerals_no_pattern (c ∷ cs) k =
    let p = and_parts (is_numeral c) (list_all is_numeral cs) k in
    or_from (begins_pattern c) (list_any begins_pattern cs) (not-true (begins_pattern c) (numeral_kept c p.0)) (numerals_no_pattern cs p.1)

firm_unsplit : (ifs : Text) (ps : List Piece) → list_any is_numeral ifs ≡ false → Firm ps → list_all is_full ps ≡ true
    → (list_any (is_split ifs) ps ≡ false) × (list_any holds_pattern ps ≡ false)
unfolding is_firm is_full is_split holds_pattern
firm_unsplit ifs [] h k l = (refl, refl)
firm_unsplit ifs (Bytes Literal t ∷ ps) h k l =
    let p = and_parts (not (list_any begins_pattern t)) (list_all is_firm ps) k in
    let q = firm_unsplit ifs ps h p.1 l in
    (q.0, or_from (list_any begins_pattern t) (list_any holds_pattern ps) (not-true (list_any begins_pattern t) p.0) q.1)
firm_unsplit ifs (Bytes Quoted t ∷ ps) h k l = firm_unsplit ifs ps h k l
firm_unsplit ifs (Bytes Unquoted t ∷ ps) h k l =
    let p = and_parts (list_all is_numeral t) (list_all is_firm ps) k in
    let r = and_parts (not (length t == 0)) (list_all is_full ps) l in
    let q = firm_unsplit ifs ps h p.1 r.1 in (
      or_from (length t == 0 || list_any (λ c. is_in ifs c || c == 92) t) (list_any (is_split ifs) ps)
          (or_from (length t == 0) (list_any (λ c. is_in ifs c || c == 92) t) (not-true (length t == 0) r.0) (numerals_unsplit ifs t h p.0)) q.0,
      or_from (list_any begins_pattern t) (list_any holds_pattern ps) (numerals_no_pattern t p.0) q.1,
    )
firm_unsplit ifs (Break ∷ ps) h k l = firm_unsplit ifs ps h k l

-- Numbers have digits

some_full : (n : ℕ) → (suc n == 0) ≡ false
some_full n = ne_eqb (suc n) 0 (λ q. cc)

append_full : (t : Text) (c : ℕ) → (length (t ++ c ∷ []) == 0) ≡ false
append_full [] c = some_full 0
append_full (d ∷ ds) c = some_full (length (ds ++ c ∷ []))

last_digits_full : (k n : ℕ) → (length (last_digits k n) == 0) ≡ false
unfolding last_digits
last_digits_full zero n = some_full 0
last_digits_full (suc k) n =
    cond_both (nat_lt n 10) ((48 + n) ∷ []) (last_digits k (n / 10) ++ (48 + n % 10) ∷ []) (λ t. (length t == 0) ≡ false) (λ b. some_full 0) (λ b. append_full (last_digits k (n / 10)) (48 + n % 10))

integer_full : (n : ℤ) → (length (integer_text n) == 0) ≡ false
unfolding integer_text
integer_full (pos n) = last_digits_full n n
integer_full (negsuc n) = some_full _

one_full : (t : Text) → (length t == 0) ≡ false → list_all is_full (Bytes Unquoted t ∷ []) ≡ true
unfolding is_full
one_full t h = rw h refl

-- Words

-- an outcome whose expansions outside quotes give bytes, unless a parameter was met that is not set
abbrev Full : Outcome → Type 0
Full o = o.state.unset ≡ false → list_all is_full o.pieces ≡ true

not_told : (b c : Bool) → (b ≡ true → c ≡ true) → c ≡ false → b ≡ false
not_told true c h k = absurd (true≢false (sym (h refl) ∙ k))
not_told false c h k = refl

followed_full : (o : Outcome) (next : State → Outcome) → Full o → ((s : State) → s.unset ≡ true → (next s).state.unset ≡ true) → ((s : State) → Full (next s)) → Full (followed o next)
unfolding followed
followed_full o next h m k =
    cond_both o.state.ended o (gives (o.pieces ++ (next o.state).pieces) (next o.state).state) Full (λ b. h)
    (λ b u.
    list_all-append is_full o.pieces (next o.state).pieces
    ∙ and_from (list_all is_full o.pieces) (list_all is_full (next o.state).pieces) (h (not_told o.state.unset (next o.state).state.unset (m o.state) u)) (k o.state u))

-- an expansion of the word outside quotes, if there is one, is a quoted alternative
unfoldable pub is_still_part : Part → Bool
is_still_part (Expansion at p operator) = is_quoted_alternative operator
is_still_part (Arithmetic at e) = false
is_still_part (Substitution at list) = false
is_still_part _ = true

unfoldable pub are_still : Word → Bool
are_still no_parts = true
are_still (more_parts x w) = is_still_part x && are_still w

module _ (f : Frame) (status : ℕ) where
  alternative_held : (p : Parameter) (g : Given) (x : Action) (v : Option Text) (set colon : Bool) (w : Word) (text : State → Outcome) (s : State)
      → is_quoted_alternative (Use x colon w) ≡ true → Held true (used f status in_fields p g x v set (expand f status (in_default in_fields) w) text s).pieces
  unfolding used is_quoted_alternative is_held
  alternative_held p g action.Alternative v set colon no_parts text s h = absurd (false≢true h)
  alternative_held p g action.Alternative v true colon (more_parts x w) text s h = quotations_held f status true (in_default in_fields) (more_parts x w) s h refl
  alternative_held p g action.Alternative v false colon (more_parts x w) text s h = refl
  alternative_held p g action.Default v set colon w text s h = absurd (false≢true h)
  alternative_held p g action.Assign v set colon w text s h = absurd (false≢true h)
  alternative_held p g action.Fault v set colon w text s h = absurd (false≢true h)

  operator_held : (p : Parameter) (operator : Operator) (g : Given) (v : Option Text) (s : State) → is_quoted_alternative operator ≡ true
      → Held true (expand_operator f status in_fields p operator g v s).pieces
  unfolding expand_operator is_quoted_alternative
  operator_held p (Use x colon w) g v s h = alternative_held p g x v _ colon w _ s h
  operator_held p Value g v s h = absurd (false≢true h)
  operator_held p Length g v s h = absurd (false≢true h)
  operator_held p (Remove removal w) g v s h = absurd (false≢true h)

  part_still : (x : Part) (s : State) → is_still_part x ≡ true → list_all is_still (expand_part f status in_fields x s).pieces ≡ true
  unfolding expand_part is_still_part is_still is_expanded
  part_still (Plain t) s h = refl
  part_still (Escaped t) s h = refl
  part_still (Single style t) s h = refl
  part_still (Double w) s h = held_still _ (double_held f status true in_fields w s refl)
  part_still (Expansion at p operator) s h = held_still _ (operator_held p operator (s.given 0) (value_of f status p s.environment (s.given 0)) (taken s) h)
  part_still (Arithmetic at e) s h = absurd (false≢true h)
  part_still (Substitution at list) s h = absurd (false≢true h)
  part_still (Tilde at login) s h = held_still _ (tilde_held f status true login (s.given 0) (taken s))
  part_still Joined s h = refl

  word_still : (w : Word) (s : State) → are_still w ≡ true → list_all is_still (expand f status in_fields w s).pieces ≡ true
  unfolding expand are_still
  word_still no_parts s h = refl
  word_still (more_parts x w) s h =
      let q = and_parts (is_still_part x) (are_still w) h in
      followed_all is_still (expand_part f status in_fields x s) _ (part_still x s q.0) (λ t. word_still w t q.1)

  -- such a word is never split
  pub still_never_splits : (w : Word) (s : State) (ifs : Text) → are_still w ≡ true → splits ifs (expand f status in_fields w s).pieces ≡ false
  unfolding splits
  still_never_splits w s ifs h =
      let q = still_unsplit ifs (expand f status in_fields w s).pieces (word_still w s h) in
      rw (q.0, q.1) refl

  -- whole words

  counter_full : (x : tree.Special) (e : Environment) (g : Given) (s : State) → is_numeric x ≡ true
      → Full (value_pieces f status in_fields (Special x) (special_value f status x e g) s)
  unfolding is_numeric special_value value_pieces needed value_origin
  counter_full special.NumberSign e g s h u = one_full (digits (length f)) (last_digits_full (length f) (length f))
  counter_full special.QuestionMark e g s h u = one_full (digits status) (last_digits_full status status)
  counter_full special.Dollar e g s h u = one_full (digits g.number) (last_digits_full g.number g.number)
  counter_full special.Exclamation e g s h u =
      cond_both e.job (Some (digits g.number)) None (λ v. Full (needed f status in_fields v s)) (λ b t. one_full (digits g.number) (last_digits_full g.number g.number)) (λ b t. absurd (true≢false t)) u
  counter_full special.At e g s h u = absurd (false≢true h)
  counter_full special.Asterisk e g s h u = absurd (false≢true h)
  counter_full special.Hyphen e g s h u = absurd (false≢true h)
  counter_full special.Zero e g s h u = absurd (false≢true h)

  length_full : (p : Parameter) (g : Given) (v : Option Text) (s : State) → Full (expand_operator f status in_fields p Length g v s)
  unfolding expand_operator value_origin
  length_full p g None s u = one_full (digits 0) (last_digits_full 0 0)
  length_full p g (Some t) s u = one_full (digits (length t)) (last_digits_full (length t) (length t))

  expansion_full : (p : Parameter) (operator : Operator) (e : Environment) (g : Given) (s : State)
      → (gives_number p operator || is_quoted_alternative operator) ≡ true → Full (expand_operator f status in_fields p operator g (value_of f status p e g) s)
  unfolding expand_operator gives_number is_quoted_alternative value_of
  expansion_full (Special x) Value e g s h u = counter_full x e g s (sym (or-false (is_numeric x)) ∙ h) u
  expansion_full (Variable name) Value e g s h u = absurd (false≢true h)
  expansion_full (Positional n) Value e g s h u = absurd (false≢true h)
  expansion_full p Length e g s h u = length_full p g (value_of f status p e g) s u
  expansion_full p (Use x colon w) e g s h u =
      held_full _ (operator_held p (Use x colon w) g (value_of f status p e g) s (or_second (gives_number p (Use x colon w)) _ (use_no_number p x colon w) h))
  expansion_full p (Remove removal w) e g s h u = absurd (false≢true (or_second (gives_number p (Remove removal w)) false (removal_no_number p removal w) h))

  part_full : (x : Part) (s : State) → is_whole x ≡ true → Full (expand_part f status in_fields x s)
  unfolding expand_part is_whole computed_pieces value_origin is_full
  part_full (Plain t) s h u = refl
  part_full (Escaped t) s h u = refl
  part_full (Single style t) s h u = refl
  part_full (Double w) s h u = held_full _ (double_held f status true in_fields w s refl)
  part_full (Expansion at p operator) s h u = expansion_full p operator s.environment (s.given 0) (taken s) h u
  part_full (Arithmetic at e) s h u =
      followed_all is_full (gives [] (expand_inside f status e s)) (λ t. computed_pieces f status in_fields (evaluate e t)) refl (λ t. one_full (integer_text (evaluate e t).value) (integer_full (evaluate e t).value))
  part_full (Substitution at list) s h u = absurd (false≢true h)
  part_full (Tilde at login) s h u = held_full _ (tilde_held f status true login (s.given 0) (taken s))
  part_full Joined s h u = refl

  word_full : (w : Word) (s : State) → are_whole w ≡ true → Full (expand f status in_fields w s)
  unfolding expand are_whole
  word_full no_parts s h u = refl
  word_full (more_parts x w) s h u =
      let q = and_parts (is_whole x) (are_whole w) h in
      followed_full (expand_part f status in_fields x s) (expand f status in_fields w) (part_full x s q.0) (λ t. word_tells f status in_fields w t) (λ t. word_full w t q.1) u

  -- a whole word without a pattern is not split if IFS separates no numbers, unless it meets a
  -- parameter that is not set
  pub whole_never_splits : (w : Word) (s : State) (ifs : Text) → are_whole w ≡ true → word_begins_pattern w ≡ false → list_any is_numeral ifs ≡ false
      → (expand f status in_fields w s).state.unset ≡ false → splits ifs (expand f status in_fields w s).pieces ≡ false
  unfolding splits
  whole_never_splits w s ifs h k n u =
      let ps : List Piece = (expand f status in_fields w s).pieces in
      let q = firm_unsplit ifs ps n (word_firm f status w s h k) (word_full w s h u) in
      rw (q.0, q.1) (and-false (list_any is_expanded ps))
