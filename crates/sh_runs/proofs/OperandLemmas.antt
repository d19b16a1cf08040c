-- How many fields a word gives at least, by its form.
use Rattle.std.proofs.Common.{◌≡◌, ◌==◌, ℕ, ◌≤◌, Bool, true, false, not, ◌&&◌, ◌||◌, if◌then◌else◌, List, [], ◌∷◌, ◌++◌, length, map, flat_map, codes, Option, Some, None, is_some, inl, inr, refl, sym, ap, ◌∙◌, arith, length-append, append-nil}
use Rattle.std.specs.List.{list_any}
use Rattle.std.proofs.lemmas.Bool.{or_parts, or_left, or_right, or_from, or_cases, not-true, not-false}
use Rattle.std.proofs.lemmas.List.Folds.{list_any-append}
use Rattle.sh_tree.specs.declared.tree.Action.TheVariants as action
use Rattle.sh_tree.specs.declared.tree.Special.TheVariants as special
use Rattle.sh_tree.specs.standard.language.Bytes.{is_in}
use Rattle.sh_tree.specs.standard.program.Syntax.{Text, Parameter, Variable, Special, Part, Plain, Escaped, Single, Double, Expansion, Arithmetic, Substitution, Tilde, Joined, Word, no_parts, more_parts, Operator, Value, Length, Use, Remove}
use Rattle.sh_runs.specs.standard.runs.Environment.{Frame, separators}
use Rattle.sh_runs.specs.standard.runs.Answers.{Given, Marked, Directory}
use Rattle.sh_runs.specs.standard.runs.States.{State, taken}
use Rattle.sh_runs.specs.standard.runs.Arithmetic.{evaluate}
use Rattle.sh_runs.specs.standard.runs.Expansion.{Origin, Literal, Quoted, Unquoted, Piece, Bytes, Break, Context, in_fields, in_one, in_quotes, in_default, pieces_text, Outcome, gives, followed, value_origin, broken, at_pieces, is_every, has_every, quote_pieces, is_empty_value, value_of, needed, value_pieces, default_assigned, used, tilde_pieces, computed_pieces, expand_part, expand, expand_operator, expand_inside}
use Rattle.sh_runs.specs.standard.runs.Fields.{Sign, Stands, Blank, Separates, Quote, Breaks, stands, unquoted_sign, piece_signs, Before, Inside, scan, is_pattern, field_text, field_names, names_or, split_fields, is_expanded, is_split, holds_pattern, splits}
use Rattle.sh_runs.specs.Counts.{is_all, part_has_all, word_has_all, operator_has_all, gives_field, some_gives_field, is_parameters, Parameters, One, Nothing, count_of, least_fields}
use Rattle.sh_runs.specs.Theorem.{fields_of, OperandsCount}
use Rattle.sh_runs.proofs.FieldLemmas.{row_inside}

-- Fields of signs

-- if a field has begun, there is one
inside_gives : (field : List Marked) (xs : List Sign) → 1 ≤ length (scan (Inside field) xs)
unfolding scan
inside_gives field [] = omega arith
inside_gives field (Stands c ∷ xs) = inside_gives (field ++ c ∷ []) xs
inside_gives field (Quote ∷ xs) = inside_gives field xs
inside_gives field (Blank ∷ xs) = omega arith
inside_gives field (Separates ∷ xs) = omega arith
inside_gives field (Breaks ∷ xs) = omega arith

-- a sign with which a field begins
begins : Sign → Bool
begins (Stands c) = true
begins Quote = true
begins _ = false

begun_gives : (xs : List Sign) → list_any begins xs ≡ true → 1 ≤ length (scan Before xs)
unfolding scan begins
begun_gives [] h = cc
begun_gives (Stands c ∷ xs) h = inside_gives (c ∷ []) xs
begun_gives (Quote ∷ xs) h = inside_gives [] xs
begun_gives (Blank ∷ xs) h = begun_gives xs h
begun_gives (Separates ∷ xs) h = omega arith
begun_gives (Breaks ∷ xs) h = begun_gives xs h

-- pathname expansion keeps at least one name for each field
names_left : (directory : Directory) (field : List Marked) → 1 ≤ length (field_names directory field)
unfolding field_names names_or
names_left directory field = go (is_pattern field) (directory field)
  where
    go : (b : Bool) (ns : List Text) → 1 ≤ length (if b then names_or (field_text field) ns else field_text field ∷ [])
    go true [] = omega arith
    go true (n ∷ ns) = omega arith
    go false ns = omega arith

fields_left : (directory : Directory) (fs : List (List Marked)) → length fs ≤ length (flat_map (field_names directory) fs)
fields_left directory [] = omega arith
fields_left directory (field ∷ fs) = rw length-append (omega (arith, names_left directory field, fields_left directory fs))

-- Pieces that give a field

-- what gives a field unless it is split
holds_field : Piece → Bool
holds_field (Bytes Literal t) = not (length t == 0)
holds_field (Bytes Quoted t) = true
holds_field (Bytes Unquoted t) = true
holds_field Break = false

begun : (t : Text) → (length t == 0) ≡ false → list_any begins (map (stands false) t) ≡ true
unfolding begins
begun [] h = cc
begun (c ∷ t) h = refl

begun_unquoted : (ifs t : Text) → (length t == 0) ≡ false → list_any (λ c. is_in ifs c || c == 92) t ≡ false → list_any begins (map (unquoted_sign ifs) t) ≡ true
unfolding begins unquoted_sign
begun_unquoted ifs [] n h = cc
begun_unquoted ifs (c ∷ t) n h = rw (or_parts (is_in ifs c) (c == 92) (or_parts (is_in ifs c || c == 92) (list_any (λ c. is_in ifs c || c == 92) t) h).0).0 refl

piece_begins : (ifs : Text) (p : Piece) → is_split ifs p ≡ false → holds_field p ≡ true → list_any begins (piece_signs ifs p) ≡ true
unfolding piece_signs is_split holds_field begins
piece_begins ifs (Bytes Literal t) h k = begun t (not-true (length t == 0) k)
piece_begins ifs (Bytes Quoted t) h k = refl
piece_begins ifs (Bytes Unquoted t) h k = let parts = or_parts (length t == 0) (list_any (λ c. is_in ifs c || c == 92) t) h in begun_unquoted ifs t parts.0 parts.1
piece_begins ifs Break h k = cc

pieces_begin : (ifs : Text) (ps : List Piece) → list_any (is_split ifs) ps ≡ false → list_any holds_field ps ≡ true → list_any begins (flat_map (piece_signs ifs) ps) ≡ true
pieces_begin ifs [] h k = cc
pieces_begin ifs (p ∷ ps) h k =
    let whole = or_parts (is_split ifs p) (list_any (is_split ifs) ps) h in
    list_any-append begins (piece_signs ifs p) (flat_map (piece_signs ifs) ps) ∙ elim (or_cases (holds_field p) (list_any holds_field ps) k) [
      | inl here ↦ or_left (list_any begins (piece_signs ifs p)) (list_any begins (flat_map (piece_signs ifs) ps)) (piece_begins ifs p whole.0 here)
      | inr there ↦ or_right (list_any begins (piece_signs ifs p)) (list_any begins (flat_map (piece_signs ifs) ps)) (pieces_begin ifs ps whole.1 there)
    ]

-- Outcomes one after the other

-- an end of the process lasts
first_goes_on : (o : Outcome) (next : State → Outcome) → (followed o next).state.ended ≡ false → o.state.ended ≡ false
unfolding followed
first_goes_on o next h = go o.state.ended refl h
  where
    go : (b : Bool) → o.state.ended ≡ b → (if b then o else gives (o.pieces ++ (next o.state).pieces) (next o.state).state).state.ended ≡ false → o.state.ended ≡ false
    go true e h = h
    go false e h = e

-- where the process does not end, both come
both_come : (o : Outcome) (next : State → Outcome) → (followed o next).state.ended ≡ false → followed o next ≡ gives (o.pieces ++ (next o.state).pieces) (next o.state).state
unfolding followed
both_come o next h = rw (first_goes_on o next h) refl

second_goes_on : (o : Outcome) (next : State → Outcome) → (followed o next).state.ended ≡ false → (next o.state).state.ended ≡ false
second_goes_on o next h = ap (λ (r : Outcome). r.state.ended) (sym (both_come o next h)) ∙ h

first_holds : (o : Outcome) (next : State → Outcome) → (followed o next).state.ended ≡ false → list_any holds_field o.pieces ≡ true → list_any holds_field (followed o next).pieces ≡ true
first_holds o next h k =
    ap (λ (r : Outcome). list_any holds_field r.pieces) (both_come o next h) ∙ list_any-append holds_field o.pieces (next o.state).pieces
    ∙ or_left (list_any holds_field o.pieces) (list_any holds_field (next o.state).pieces) k

second_holds : (o : Outcome) (next : State → Outcome) → (followed o next).state.ended ≡ false → list_any holds_field (next o.state).pieces ≡ true
    → list_any holds_field (followed o next).pieces ≡ true
second_holds o next h k =
    ap (λ (r : Outcome). list_any holds_field r.pieces) (both_come o next h) ∙ list_any-append holds_field o.pieces (next o.state).pieces
    ∙ or_right (list_any holds_field o.pieces) (list_any holds_field (next o.state).pieces) k

-- Words

-- the word of double quotes without `$@`
no_every : (x : Part) → part_has_all true x ≡ false → is_every x ≡ false
unfolding is_every part_has_all is_all
no_every (Expansion at (Special special.At) Value) h = cc
no_every x h = refl

none_every : (w : Word) → word_has_all true w ≡ false → has_every w ≡ false
unfolding has_every word_has_all
none_every no_parts h = refl
none_every (more_parts x w) h =
    let parts = or_parts (part_has_all true x) (word_has_all true w) h in
    or_from (is_every x) (has_every w) (no_every x parts.0) (none_every w parts.1)

value_holds : (o : Origin) (t : Text) → holds_field (Bytes (value_origin o) t) ≡ true
unfolding holds_field value_origin
value_holds Literal t = refl
value_holds Quoted t = refl
value_holds Unquoted t = refl

module _ (f : Frame) (status : ℕ) where
  needed_holds : (c : Context) (v : Option Text) (s : State) → list_any holds_field (needed f status c v s).pieces ≡ true
  unfolding needed
  needed_holds c None s = ap (λ b. b || false) (value_holds c.plain [])
  needed_holds c (Some v) s = ap (λ b. b || false) (value_holds c.plain v)

  parameter_holds : (p : Parameter) (v : Option Text) (s : State) → is_all false p ≡ false → list_any holds_field (value_pieces f status in_fields p v s).pieces ≡ true
  unfolding value_pieces is_all
  parameter_holds (Special special.At) v s h = cc
  parameter_holds (Special special.Asterisk) v s h = cc
  parameter_holds p v s h = needed_holds in_fields v s

  assigned_holds : (p : Parameter) (t : Text) (fails : Bool) (s : State) → (default_assigned f status in_fields p t fails s).state.ended ≡ false
      → list_any holds_field (default_assigned f status in_fields p t fails s).pieces ≡ true
  unfolding default_assigned holds_field value_origin
  assigned_holds (Variable name) t false s h = refl
  assigned_holds p t fails s h = cc

  assign_holds : (p : Parameter) (g : Given) (v : Option Text) (b : Bool) (word text : State → Outcome) (s : State)
      → (used f status in_fields p g action.Assign v b word text s).state.ended ≡ false → list_any holds_field (used f status in_fields p g action.Assign v b word text s).pieces ≡ true
  unfolding used
  assign_holds p g v true word text s h = needed_holds in_fields v s
  assign_holds p g v false word text s h =
      let next = default_assigned f status in_fields p (pieces_text (text s).pieces) g.fails in
      second_holds (gives [] (text s).state) next h (assigned_holds p (pieces_text (text s).pieces) g.fails (text s).state (second_goes_on (gives [] (text s).state) next h))

  fault_holds : (p : Parameter) (g : Given) (v : Option Text) (b : Bool) (word text : State → Outcome) (s : State)
      → (used f status in_fields p g action.Fault v b word text s).state.ended ≡ false → list_any holds_field (used f status in_fields p g action.Fault v b word text s).pieces ≡ true
  unfolding used
  fault_holds p g v true word text s h = needed_holds in_fields v s
  fault_holds p g v false word text s h = cc

  operator_holds : (at : ℕ) (p : Parameter) (operator : Operator) (g : Given) (v : Option Text) (s : State) → is_all false p ≡ false → gives_field (Expansion at p operator) ≡ true
      → (expand_operator f status in_fields p operator g v s).state.ended ≡ false → list_any holds_field (expand_operator f status in_fields p operator g v s).pieces ≡ true
  unfolding expand_operator gives_field holds_field value_origin
  operator_holds at p Value g v s a k h = parameter_holds p v s a
  operator_holds at p Length g None s a k h = refl
  operator_holds at p Length g (Some t) s a k h = refl
  operator_holds at p (Use action.Default colon w) g v s a k h = cc
  operator_holds at p (Use action.Assign colon w) g v s a k h =
      assign_holds p g v (is_some v && not (colon && is_empty_value v)) (expand f status (in_default in_fields) w) (expand f status in_one w) s h
  operator_holds at p (Use action.Fault colon w) g v s a k h =
      fault_holds p g v (is_some v && not (colon && is_empty_value v)) (expand f status (in_default in_fields) w) (expand f status in_one w) s h
  operator_holds at p (Use action.Alternative colon w) g v s a k h = cc
  operator_holds at p (Remove removal w) g v s a k h =
      let last = gives (Bytes Unquoted g.text ∷ []) in
      let next = λ (t : State). followed (gives [] (expand f status in_one w t).state) last in
      let o = gives [] (needed f status in_fields v s).state in
      second_holds o next h (second_holds (gives [] (expand f status in_one w o.state).state) last (second_goes_on o next h) refl)

  part_holds : (x : Part) (s : State) → part_has_all false x ≡ false → gives_field x ≡ true → (expand_part f status in_fields x s).state.ended ≡ false
      → list_any holds_field (expand_part f status in_fields x s).pieces ≡ true
  unfolding expand_part tilde_pieces computed_pieces quote_pieces gives_field part_has_all holds_field value_origin
  part_holds (Plain t) s a k h = ap (λ b. b || false) k
  part_holds (Escaped t) s a k h = refl
  part_holds (Single style t) s a k h = refl
  part_holds (Double w) s a k h = first_holds (gives (quote_pieces (has_every w)) s) (expand f status (in_quotes in_fields) w) h (rw (none_every w a) refl)
  part_holds (Expansion at p operator) s a k h =
      operator_holds at p operator (s.given 0) (value_of f status p s.environment (s.given 0)) (taken s) (or_parts (is_all false p) (operator_has_all false operator) a).0 k h
  part_holds (Arithmetic at e) s a k h = second_holds (gives [] (expand_inside f status e s)) (λ t. computed_pieces f status in_fields (evaluate e t)) h refl
  part_holds (Substitution at list) s a k h = refl
  part_holds (Tilde at []) s a k h = needed_holds (in_quotes in_one) (s.environment.variables (codes "HOME")) (taken s)
  part_holds (Tilde at (c ∷ cs)) s a k h = refl
  part_holds Joined s a k h = cc

  word_holds : (w : Word) (s : State) → word_has_all false w ≡ false → some_gives_field w ≡ true → (expand f status in_fields w s).state.ended ≡ false
      → list_any holds_field (expand f status in_fields w s).pieces ≡ true
  unfolding expand word_has_all some_gives_field
  word_holds no_parts s a k h = cc
  word_holds (more_parts x w) s a k h =
      let none = or_parts (part_has_all false x) (word_has_all false w) a in
      let o = expand_part f status in_fields x s in
      let next = expand f status in_fields w in
      elim (or_cases (gives_field x) (some_gives_field w) k) [
        | inl here ↦ first_holds o next h (part_holds x s none.0 here (first_goes_on o next h))
        | inr there ↦ second_holds o next h (word_holds w o.state none.1 there (second_goes_on o next h))
      ]

  -- `"$@"` gives each parameter as a quoted piece, with breaks between them
  all_come : (at : ℕ) (s : State) → let w = more_parts (Double (more_parts (Expansion at (Special special.At) Value) no_parts)) no_parts in
      (expand f status in_fields w s).state.ended ≡ false → (expand f status in_fields w s).pieces ≡ broken Quoted f
  unfolding expand expand_part expand_operator value_pieces at_pieces has_every is_every quote_pieces value_origin followed
  all_come at s h =
      let inside = more_parts (Expansion at (Special special.At) Value) no_parts in
      let first = first_goes_on (expand_part f status in_fields (Double inside) s) (expand f status in_fields no_parts) h in
      rw (first_goes_on (gives [] s) (expand f status (in_quotes in_fields) inside) first) (append-nil (broken Quoted f ++ []) ∙ append-nil (broken Quoted f))

-- as many fields as parameters
each_gives : (ifs : Text) (f : Frame) → length f ≤ length (split_fields ifs (broken Quoted f))
unfolding broken piece_signs scan
each_gives ifs [] = omega arith
each_gives ifs (t ∷ []) = inside_gives [] (map (stands true) t ++ [])
each_gives ifs (t ∷ u ∷ ts) =
    rw (row_inside true [] t (Breaks ∷ flat_map (piece_signs ifs) (broken Quoted (u ∷ ts)))) (omega (arith, each_gives ifs (u ∷ ts)))

parameters_give : (f : Frame) (status : ℕ) (w : Word) (s : State) (ifs : Text) → is_parameters w ≡ true → (expand f status in_fields w s).state.ended ≡ false
    → length f ≤ length (split_fields ifs (expand f status in_fields w s).pieces)
unfolding is_parameters
parameters_give f status (more_parts (Double (more_parts (Expansion at (Special special.At) Value) no_parts)) no_parts) s ifs e h = rw (all_come f status at s h) (each_gives ifs f)
parameters_give f status w s ifs e h = cc

-- a word without a Split event gives as many fields as its form counts
pub operands_count : OperandsCount
unfolding count_of least_fields splits
operands_count f status w s directory h k = go (is_parameters w) (word_has_all false w || not (some_gives_field w)) refl refl
  where
    o : Outcome
    o = expand f status in_fields w s

    ifs : Text
    ifs = separators o.state.environment

    go : (b c : Bool) → is_parameters w ≡ b → (word_has_all false w || not (some_gives_field w)) ≡ c
        → least_fields f (if b then Parameters else (if c then Nothing else One)) ≤ length (fields_of directory o)
    go true c e d = omega (arith, parameters_give f status w s ifs e h, fields_left directory (split_fields ifs o.pieces))
    go false true e d = omega arith
    go false false e d =
        let parts = or_parts (word_has_all false w) (not (some_gives_field w)) d in
        let begin = pieces_begin ifs o.pieces (or_parts (list_any (is_split ifs) o.pieces) (list_any is_expanded o.pieces && list_any holds_pattern o.pieces) k).0
        (word_holds f status w s parts.0 (not-false (some_gives_field w) parts.1) h) in
        omega (arith, begun_gives (flat_map (piece_signs ifs) o.pieces) begin, fields_left directory (split_fields ifs o.pieces))
