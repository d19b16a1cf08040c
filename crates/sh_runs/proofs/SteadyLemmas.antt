-- What a word gives that mentions neither IFS nor `$*`, if environments differ in IFS alone; and
-- fields that depend on no separator.
use Rattle.std.proofs.Common.{◌≡◌, ℕ, zero, suc, ◌+◌, ◌/◌, ◌%◌, ◌<◌, ◌==◌, nat_lt, nat_le, arith, mod-lt, ltb-true, le-leb, pos, negsuc, length, Bool, true, false, ◌&&◌, ◌||◌, if◌then◌else◌, Option, Some, None, unwrap_or, is_some, not, List, [], ◌∷◌, ◌++◌, map, codes, bytes_eq, refl, sym, ap, ap₂, ◌∙◌, subst, ℤ, true≢false}
use Rattle.std.specs.List.{list_any, list_all, flat_map}
use Rattle.std.proofs.Math.Bool.{or-false}
use Rattle.std.proofs.lemmas.Bool.{or_parts, or_from, and_parts, and_from, and_left, ne_eqb, not-true, or_left, not_from_false, false≢true, cond_both, false_from_ne_true}
use Rattle.std.proofs.lemmas.List.Folds.{list_all-append}
use Rattle.std.proofs.lemmas.Slice.Eq.{bytes_eq-Decides}
use Rattle.sh_tree.specs.declared.tree.Action.{Action}
use Rattle.sh_tree.specs.declared.tree.Action.TheVariants as action
use Rattle.sh_tree.specs.declared.tree.Binary.{Binary}
use Rattle.sh_tree.specs.declared.tree.Removal.{Removal}
use Rattle.sh_tree.specs.declared.tree.Special as tree
use Rattle.sh_tree.specs.declared.tree.Special.TheVariants as special
use Rattle.sh_tree.specs.standard.language.Bytes.{is_digit, is_in}
use Rattle.sh_tree.specs.standard.program.Syntax.{Text, Parameter, Variable, Positional, Special, Part, Plain, Escaped, Single, Double, Expansion, Arithmetic, Substitution, Tilde, Joined, Word, no_parts, more_parts, Operator, Value, Length, Use, Remove, Expression, Constant, Name, Expanded, Parenthesis, Signed, Chain, Choice, Assigned, Operands, no_operands, more_operands}
use Rattle.sh_runs.specs.Quoting.{is_numeric, gives_number, is_quoted_alternative, is_whole, are_whole, part_begins_pattern, word_begins_pattern, part_mentions, word_mentions, operator_mentions, expression_mentions, operands_mention, is_ifs, is_about_separators, is_steady}
use Rattle.sh_runs.specs.Theorem.{DifferInIfs, FieldsStandSteady}
use Rattle.sh_runs.proofs.QuotedLemmas.{is_held, Held, followed_all, tilde_held, double_held, quotations_held}
use Rattle.sh_runs.specs.standard.runs.Answers.{Given, Marked, Directory}
use Rattle.sh_runs.specs.standard.runs.Arithmetic.{Computed, computes, answered, operated, then_computed, read_name, named, skips, read_where, stored, operated_assignment, evaluate, evaluate_rest}
use Rattle.sh_runs.specs.standard.runs.Environment.{Environment, Frame, with_variable, put_text, blanks, separators}
use Rattle.sh_runs.specs.standard.runs.Expansion.{Literal, Quoted, Unquoted, Piece, Bytes, Break, Context, in_fields, in_quotes, in_one, in_default, value_origin, pieces_text, quote_pieces, has_every, is_empty_value, Outcome, gives, followed, special_value, value_of, needed, value_pieces, default_assigned, used, constant_in, behind, tilde_pieces, computed_pieces, expand_part, expand, expand_operator, expand_inside, expand_operands}
use Rattle.sh_runs.specs.standard.runs.Fields.{begins_pattern, Sign, Stands, Blank, Separates, Quote, Breaks, stands, unquoted_sign, piece_signs, Scan, Before, Behind, Inside, scan, split_fields, is_unquoted, is_bracket, is_pattern, field_text, names_or, field_names, fields}
use Rattle.sh_runs.specs.standard.runs.Numbers.{last_digits, digits, integer_text, is_operand, is_computed, is_zero}
use Rattle.sh_runs.specs.standard.runs.States.{State, fresh, taken, ending, stray, with_environment}

-- Environments and states that are alike except for IFS

-- what two states share: all that an expansion depends on, except for the values of IFS, which are
-- these
record Shared (i j : Option Text) (e d : Environment) (g h : ℕ → Given) (b c : Bool) : Type 0 where
  differ : DifferInIfs e d
  first : e.variables (codes "IFS") ≡ i
  second : d.variables (codes "IFS") ≡ j
  given : (n : ℕ) → g n ≡ h n
  ended : b ≡ c

set_differs : (e d : Environment) (name : Text) (v u : Option Text) → v ≡ u → DifferInIfs e d → DifferInIfs (with_variable e name v) (with_variable d name u)
unfolding put_text
set_differs e d name v u q h =
    record { variables = λ t k. ap₂ (λ x y. if bytes_eq t name then x else y) q (h.variables t k); functions = h.functions; job = h.job }

-- another name keeps IFS
set_keeps : (e : Environment) (name : Text) (v : Option Text) → is_ifs name ≡ false → (with_variable e name v).variables (codes "IFS") ≡ e.variables (codes "IFS")
unfolding put_text
set_keeps e name v h =
    ap (λ b. if b then v else e.variables (codes "IFS"))
    (false_from_ne_true (bytes_eq (codes "IFS") name) (λ k. true≢false (sym ((bytes_eq-Decides name (codes "IFS")).1 (sym ((bytes_eq-Decides (codes "IFS") name).0 k))) ∙ h)))

module _ (i j : Option Text) where
  abbrev Alike : State → State → Type 0
  Alike s t = Shared i j s.environment t.environment s.given t.given s.ended t.ended

  record SameOutcome (o p : Outcome) : Type 0 where
    pieces : o.pieces ≡ p.pieces
    state : Alike o.state p.state

  record SameComputed (o p : Computed) : Type 0 where
    value : o.value ≡ p.value
    state : Alike o.state p.state

  alike_taken : (s t : State) → Alike s t → Alike (taken s) (taken t)
  alike_taken s t a = record { differ = a.differ; first = a.first; second = a.second; given = λ n. a.given (suc n); ended = a.ended }

  alike_ending : (s t : State) → Alike s t → Alike (ending s) (ending t)
  alike_ending s t a = record { differ = a.differ; first = a.first; second = a.second; given = a.given; ended = refl }

  alike_set : (s t : State) (name : Text) (v u : Text) → is_ifs name ≡ false → v ≡ u → Alike s t
      → Alike (with_environment s (with_variable s.environment name (Some v))) (with_environment t (with_variable t.environment name (Some u)))
  alike_set s t name v u h q a = record {
    differ = set_differs s.environment t.environment name (Some v) (Some u) (ap Some q) a.differ;
    first = set_keeps s.environment name (Some v) h ∙ a.first;
    second = set_keeps t.environment name (Some u) h ∙ a.second;
    given = a.given;
    ended = a.ended;
  }

  either_alike : (b c : Bool) → b ≡ c → (o p q r : State) → Alike o p → Alike q r → Alike (if b then o else q) (if c then p else r)
  either_alike b c e o p q r h k = subst (λ x. Alike (if b then o else q) (if x then p else r)) e (go b)
    where
      go : (x : Bool) → Alike (if x then o else q) (if x then p else r)
      go true = h
      go false = k

  -- Arithmetic

  either_computed : (b c : Bool) → b ≡ c → (o p q r : Computed) → SameComputed o p → SameComputed q r → SameComputed (if b then o else q) (if c then p else r)
  either_computed b c e o p q r h k = subst (λ x. SameComputed (if b then o else q) (if x then p else r)) e (go b)
    where
      go : (x : Bool) → SameComputed (if x then o else q) (if x then p else r)
      go true = h
      go false = k

  abbrev KeepsComputed : (ℤ → State → Computed) → Type 0
  KeepsComputed next = (n : ℤ) (s t : State) → Alike s t → SameComputed (next n s) (next n t)

  then_same : (o p : Computed) (next : ℤ → State → Computed) → SameComputed o p → KeepsComputed next → SameComputed (then_computed o next) (then_computed p next)
  unfolding then_computed
  then_same o p next h k =
      let later : SameComputed (next o.value o.state) (next p.value p.state) =
      subst (λ n. SameComputed (next o.value o.state) (next n p.state)) h.value (k o.value o.state p.state h.state) in
      either_computed o.state.ended p.state.ended h.state.ended o p (next o.value o.state) (next p.value p.state) h later

  answered_same : (s t : State) → Alike s t → SameComputed (answered s) (answered t)
  answered_same s t a = record { value = ap (λ (g : Given). g.integer) (a.given 0); state = alike_taken s t a }

  operated_same : (s t : State) → Alike s t → SameComputed (operated s) (operated t)
  unfolding operated
  operated_same s t a =
      let fails : SameComputed (computes (s.given 0).integer (ending (taken s))) (computes (t.given 0).integer (ending (taken t))) =
      record { value = ap (λ (g : Given). g.integer) (a.given 0); state = alike_ending (taken s) (taken t) (alike_taken s t a) } in
      either_computed (s.given 0).fails (t.given 0).fails (ap (λ (g : Given). g.fails) (a.given 0)) _ _ _ _ fails (answered_same s t a)

  read_same : (v : Option Text) (s t : State) → Alike s t → Alike (read_name v s) (read_name v t)
  unfolding read_name
  read_same None s t a = a
  read_same (Some v) s t a = either_alike (is_computed v) (is_computed v) refl s t (stray s) (stray t) a a

  named_same : (name : Text) (s t : State) → is_ifs name ≡ false → Alike s t → Alike (named name s) (named name t)
  named_same name s t h a = rw (a.differ.variables name h) (read_same (t.environment.variables name) s t a)

  read_where_same : (reads : Bool) (o : Option Binary) (name : Text) (s t : State) → is_ifs name ≡ false → Alike s t → Alike (read_where reads o name s) (read_where reads o name t)
  unfolding read_where
  read_where_same reads None name s t h a = a
  read_where_same true (Some operator) name s t h a = named_same name s t h a
  read_where_same false (Some operator) name s t h a = a

  stored_same : (name : Text) (n : ℤ) (s t : State) → is_ifs name ≡ false → Alike s t → SameComputed (stored name (computes n s)) (stored name (computes n t))
  stored_same name n s t h a = record { value = refl; state = alike_set s t name (integer_text n) (integer_text n) h refl a }

  assign_same : (first : Bool) (name : Text) (operator : Option Binary) (value : State → Computed) (s t : State) → is_ifs name ≡ false
      → ((u v : State) → Alike u v → SameComputed (value u) (value v)) → Alike s t → SameComputed (operated_assignment first name operator value s) (operated_assignment first name operator value t)
  unfolding operated_assignment
  assign_same first name operator value s t i k a =
      let last = λ (u : State). operated (read_where (not first) operator name u) in
      then_same (value (read_where first operator name s)) (value (read_where first operator name t)) (λ n u. then_computed (last u) (λ m v. stored name (computes m v)))
      (k (read_where first operator name s) (read_where first operator name t) (read_where_same first operator name s t i a))
      (λ n u v b.
      then_same (last u) (last v) (λ m x. stored name (computes m x))
      (operated_same (read_where (not first) operator name u) (read_where (not first) operator name v) (read_where_same (not first) operator name u v i b))
      (λ m x y d. stored_same name m x y i d))

  mutual
    unfolding evaluate expression_mentions operands_mention is_about_separators

    evaluate_same : (e : Expression) (s t : State) → expression_mentions is_about_separators e ≡ false → Alike s t → SameComputed (evaluate e s) (evaluate e t)
    evaluate_same (Constant c) s t h a = answered_same s t a
    evaluate_same (Name at name) s t h a = answered_same (named name s) (named name t) (named_same name s t h a)
    evaluate_same (Expanded x) s t h a = answered_same s t a
    evaluate_same (Parenthesis e) s t h a = evaluate_same e s t h a
    evaluate_same (Signed operator e) s t h a = then_same (evaluate e s) (evaluate e t) (λ n u. operated u) (evaluate_same e s t h a) (λ n u v b. operated_same u v b)
    evaluate_same (Chain e rest) s t h a =
        let p = or_parts (expression_mentions is_about_separators e) (operands_mention is_about_separators rest) h in
        then_same (evaluate e s) (evaluate e t) (evaluate_rest rest) (evaluate_same e s t p.0 a) (λ n u v b. evaluate_rest_same rest n u v p.1 b)
    evaluate_same (Choice e then_one else_one) s t h a =
        let p = or_parts (expression_mentions is_about_separators e || expression_mentions is_about_separators then_one) (expression_mentions is_about_separators else_one) h in
        let q = or_parts (expression_mentions is_about_separators e) (expression_mentions is_about_separators then_one) p.0 in
        then_same (evaluate e s) (evaluate e t) (λ n u. if is_zero n then evaluate else_one u else evaluate then_one u) (evaluate_same e s t q.0 a)
        (λ n u v b. either_computed (is_zero n) (is_zero n) refl _ _ _ _ (evaluate_same else_one u v p.1 b) (evaluate_same then_one u v q.1 b))
    evaluate_same (Assigned at name operator e) s t h a =
        let p = or_parts (is_ifs name) (expression_mentions is_about_separators e) h in
        rw (ap (λ (g : Given). g.reads_first) (a.given 0)) (assign_same (t.given 0).reads_first name operator (evaluate e) (taken s) (taken t) p.0 (λ u v b. evaluate_same e u v p.1 b) (alike_taken s t a))

    evaluate_rest_same : (es : Operands) (n : ℤ) (s t : State) → operands_mention is_about_separators es ≡ false → Alike s t
        → SameComputed (evaluate_rest es n s) (evaluate_rest es n t)
    evaluate_rest_same no_operands n s t h a = record { value = refl; state = a }
    evaluate_rest_same (more_operands operator e rest) n s t h a =
        let p = or_parts (expression_mentions is_about_separators e) (operands_mention is_about_separators rest) h in
        either_computed (skips operator (is_zero n)) (skips operator (is_zero n)) refl _ _ _ _ (evaluate_rest_same rest n s t p.1 a)
        (then_same (then_computed (evaluate e s) (λ m u. operated u)) (then_computed (evaluate e t) (λ m u. operated u)) (evaluate_rest rest)
        (then_same (evaluate e s) (evaluate e t) (λ m u. operated u) (evaluate_same e s t p.0 a) (λ m u v b. operated_same u v b))
        (λ m u v b. evaluate_rest_same rest m u v p.1 b))

  -- Expansions

  either_outcome : (b c : Bool) → b ≡ c → (o p q r : Outcome) → SameOutcome o p → SameOutcome q r → SameOutcome (if b then o else q) (if c then p else r)
  either_outcome b c e o p q r h k = subst (λ x. SameOutcome (if b then o else q) (if x then p else r)) e (go b)
    where
      go : (x : Bool) → SameOutcome (if x then o else q) (if x then p else r)
      go true = h
      go false = k

  -- two ways to go on from alike states that stay alike
  abbrev Keep : (State → Outcome) → (State → Outcome) → Type 0
  Keep next after = (s t : State) → Alike s t → SameOutcome (next s) (after t)

  followed_same : (o p : Outcome) (next after : State → Outcome) → SameOutcome o p → Keep next after → SameOutcome (followed o next) (followed p after)
  unfolding followed
  followed_same o p next after h k =
      let later : SameOutcome (next o.state) (after p.state) = k o.state p.state h.state in
      either_outcome o.state.ended p.state.ended h.state.ended o p
      (gives (o.pieces ++ (next o.state).pieces) (next o.state).state) (gives (p.pieces ++ (after p.state).pieces) (after p.state).state)
      h (record { pieces = ap₂ (λ x y. x ++ y) h.pieces later.pieces; state = later.state })

  module _ (f : Frame) (status : ℕ) where
    behind_same : (s t : State) (next : State → State) → Alike s t → ((u v : State) → Alike u v → Alike (next u) (next v)) → Alike (behind f status s next) (behind f status t next)
    unfolding behind
    behind_same s t next a k = either_alike s.ended t.ended a.ended s t (next s) (next t) a (k s t a)

    constant_same : (o p : Outcome) → SameOutcome o p → Alike (constant_in f status o) (constant_in f status p)
    unfolding constant_in
    constant_same o p h =
        either_alike (o.state.ended || is_operand (pieces_text o.pieces)) (p.state.ended || is_operand (pieces_text p.pieces))
        (ap₂ (λ ends ps. ends || is_operand (pieces_text ps)) h.state.ended h.pieces) o.state p.state (stray o.state) (stray p.state) h.state h.state

    needed_same : (c : Context) (v : Option Text) (s t : State) → Alike s t → SameOutcome (needed f status c v s) (needed f status c v t)
    unfolding needed
    needed_same c None s t a = record { pieces = refl; state = a }
    needed_same c (Some v) s t a = record { pieces = refl; state = a }

    value_same : (p : Parameter) (e d : Environment) (g : Given) → is_about_separators p ≡ false → DifferInIfs e d → value_of f status p e g ≡ value_of f status p d g
    unfolding value_of special_value is_about_separators
    value_same (Variable name) e d g h q = q.variables name h
    value_same (Positional n) e d g h q = refl
    value_same (Special special.At) e d g h q = refl
    value_same (Special special.Asterisk) e d g h q = cc
    value_same (Special special.NumberSign) e d g h q = refl
    value_same (Special special.QuestionMark) e d g h q = refl
    value_same (Special special.Hyphen) e d g h q = refl
    value_same (Special special.Dollar) e d g h q = refl
    value_same (Special special.Exclamation) e d g h q = ap (λ b. if b then Some (digits g.number) else None) q.job
    value_same (Special special.Zero) e d g h q = refl

    value_pieces_same : (c : Context) (p : Parameter) (v : Option Text) (s t : State) → is_about_separators p ≡ false → Alike s t
        → SameOutcome (value_pieces f status c p v s) (value_pieces f status c p v t)
    unfolding value_pieces is_about_separators
    value_pieces_same c (Special special.At) v s t h a = record { pieces = refl; state = a }
    value_pieces_same c (Special special.Asterisk) v s t h a = cc
    value_pieces_same c p v s t h a = needed_same c v s t a

    assigned_by_same : (c : Context) (p : Parameter) (v u : Text) (fails : Bool) (s t : State) → is_about_separators p ≡ false → v ≡ u → Alike s t
        → SameOutcome (default_assigned f status c p v fails s) (default_assigned f status c p u fails t)
    unfolding default_assigned is_about_separators
    assigned_by_same c (Variable name) v u false s t h q a = record { pieces = ap (λ x. Bytes (value_origin c.plain) x ∷ []) q; state = alike_set s t name v u h q a }
    assigned_by_same c p v u fails s t h q a = record { pieces = refl; state = alike_ending s t a }

    used_same : (c : Context) (p : Parameter) (g : Given) (x : Action) (v : Option Text) (set : Bool) (word text : State → Outcome) (s t : State)
        → is_about_separators p ≡ false → Keep word word → Keep text text → Alike s t
        → SameOutcome (used f status c p g x v set word text s) (used f status c p g x v set word text t)
    unfolding used
    used_same c p g action.Default v true word text s t h j k a = needed_same c v s t a
    used_same c p g action.Default v false word text s t h j k a = j s t a
    used_same c p g action.Assign v true word text s t h j k a = needed_same c v s t a
    used_same c p g action.Assign v false word text s t h j k a =
        let o : SameOutcome (text s) (text t) = k s t a in
        followed_same (gives [] (text s).state) (gives [] (text t).state) (default_assigned f status c p (pieces_text (text s).pieces) g.fails)
        (default_assigned f status c p (pieces_text (text t).pieces) g.fails) (record { pieces = refl; state = o.state })
        (λ u w b. assigned_by_same c p _ _ g.fails u w h (ap pieces_text o.pieces) b)
    used_same c p g action.Fault v true word text s t h j k a = needed_same c v s t a
    used_same c p g action.Fault v false word text s t h j k a =
        let o : SameOutcome (text s) (text t) = k s t a in
        record { pieces = refl; state = alike_ending (text s).state (text t).state o.state }
    used_same c p g action.Alternative v true word text s t h j k a = j s t a
    used_same c p g action.Alternative v false word text s t h j k a = record { pieces = refl; state = a }

    tilde_same : (login : Text) (g : Given) (s t : State) → Alike s t → SameOutcome (tilde_pieces f status login g s) (tilde_pieces f status login g t)
    unfolding tilde_pieces
    tilde_same [] g s t a = rw (a.differ.variables (codes "HOME") refl) (needed_same (in_quotes in_one) (t.environment.variables (codes "HOME")) s t a)
    tilde_same (c ∷ cs) g s t a = record { pieces = refl; state = a }

    mutual
      unfolding expand_part expand expand_operator expand_inside expand_operands part_mentions word_mentions operator_mentions expression_mentions operands_mention computed_pieces

      part_same : (c : Context) (x : Part) (s t : State) → part_mentions is_about_separators x ≡ false → Alike s t
          → SameOutcome (expand_part f status c x s) (expand_part f status c x t)
      part_same c (Plain v) s t h a = record { pieces = refl; state = a }
      part_same c (Escaped v) s t h a = record { pieces = refl; state = a }
      part_same c (Single style v) s t h a = record { pieces = refl; state = a }
      part_same c (Double w) s t h a =
          followed_same (gives (quote_pieces (c.split && has_every w)) s) (gives (quote_pieces (c.split && has_every w)) t)
          (expand f status (in_quotes c) w) (expand f status (in_quotes c) w)
          (record { pieces = refl; state = a }) (λ u v b. word_same (in_quotes c) w u v h b)
      part_same c (Expansion at p operator) s t h a =
          let q = or_parts (is_about_separators p) (operator_mentions is_about_separators operator) h in
          rw (a.given 0, value_same p s.environment t.environment (t.given 0) q.0 a.differ)
          (operator_same c p operator (t.given 0) (value_of f status p t.environment (t.given 0)) (taken s) (taken t) q.0 q.1 (alike_taken s t a))
      part_same c (Arithmetic at e) s t h a =
          followed_same (gives [] (expand_inside f status e s)) (gives [] (expand_inside f status e t))
          (λ u. computed_pieces f status c (evaluate e u)) (λ u. computed_pieces f status c (evaluate e u))
          (record { pieces = refl; state = inside_same e s t h a })
          (λ u v b.
          let o : SameComputed (evaluate e u) (evaluate e v) = evaluate_same e u v h b in
          record { pieces = ap (λ n. Bytes (value_origin c.plain) (integer_text n) ∷ []) o.value; state = o.state })
      part_same c (Substitution at list) s t h a =
          record { pieces = ap (λ (g : Given). Bytes (value_origin c.plain) g.text ∷ []) (a.given 0); state = alike_taken s t a }
      part_same c (Tilde at login) s t h a = rw (a.given 0) (tilde_same login (t.given 0) (taken s) (taken t) (alike_taken s t a))
      part_same c Joined s t h a = record { pieces = refl; state = a }

      word_same : (c : Context) (w : Word) (s t : State) → word_mentions is_about_separators w ≡ false → Alike s t
          → SameOutcome (expand f status c w s) (expand f status c w t)
      word_same c no_parts s t h a = record { pieces = refl; state = a }
      word_same c (more_parts x w) s t h a =
          let q = or_parts (part_mentions is_about_separators x) (word_mentions is_about_separators w) h in
          followed_same (expand_part f status c x s) (expand_part f status c x t) (expand f status c w) (expand f status c w)
          (part_same c x s t q.0 a) (λ u v b. word_same c w u v q.1 b)

      operator_same : (c : Context) (p : Parameter) (operator : Operator) (g : Given) (v : Option Text) (s t : State)
          → is_about_separators p ≡ false → operator_mentions is_about_separators operator ≡ false → Alike s t
          → SameOutcome (expand_operator f status c p operator g v s) (expand_operator f status c p operator g v t)
      operator_same c p Value g v s t h k a = value_pieces_same c p v s t h a
      operator_same c p Length g None s t h k a = record { pieces = refl; state = a }
      operator_same c p Length g (Some v) s t h k a = record { pieces = refl; state = a }
      operator_same c p (Use x colon w) g v s t h k a =
          used_same c p g x v (is_some v && not (colon && is_empty_value v)) (expand f status (in_default c) w) (expand f status in_one w) s t h
          (λ u z b. word_same (in_default c) w u z k b) (λ u z b. word_same in_one w u z k b) a
      operator_same c p (Remove removal w) g v s t h k a =
          let n : SameOutcome (needed f status c v s) (needed f status c v t) = needed_same c v s t a in
          let next : State → Outcome = λ u. followed (gives [] (expand f status in_one w u).state) (gives (Bytes (value_origin c.plain) g.text ∷ [])) in
          followed_same (gives [] (needed f status c v s).state) (gives [] (needed f status c v t).state) next next (record { pieces = refl; state = n.state })
          (λ u z b.
          let o : SameOutcome (expand f status in_one w u) (expand f status in_one w z) = word_same in_one w u z k b in
          followed_same (gives [] (expand f status in_one w u).state) (gives [] (expand f status in_one w z).state)
          (gives (Bytes (value_origin c.plain) g.text ∷ [])) (gives (Bytes (value_origin c.plain) g.text ∷ [])) (record { pieces = refl; state = o.state })
          (λ x y d. record { pieces = refl; state = d }))

      inside_same : (e : Expression) (s t : State) → expression_mentions is_about_separators e ≡ false → Alike s t
          → Alike (expand_inside f status e s) (expand_inside f status e t)
      inside_same (Constant v) s t h a = a
      inside_same (Name at name) s t h a = a
      inside_same (Expanded x) s t h a =
          constant_same (expand_part f status (in_quotes in_one) x s) (expand_part f status (in_quotes in_one) x t) (part_same (in_quotes in_one) x s t h a)
      inside_same (Parenthesis e) s t h a = inside_same e s t h a
      inside_same (Signed operator e) s t h a = inside_same e s t h a
      inside_same (Chain e rest) s t h a =
          let q = or_parts (expression_mentions is_about_separators e) (operands_mention is_about_separators rest) h in
          behind_same (expand_inside f status e s) (expand_inside f status e t) (expand_operands f status rest) (inside_same e s t q.0 a)
          (λ u v b. operands_same rest u v q.1 b)
      inside_same (Choice e then_one else_one) s t h a =
          let p = or_parts (expression_mentions is_about_separators e || expression_mentions is_about_separators then_one) (expression_mentions is_about_separators else_one) h in
          let q = or_parts (expression_mentions is_about_separators e) (expression_mentions is_about_separators then_one) p.0 in
          behind_same
          (behind f status (expand_inside f status e s) (expand_inside f status then_one)) (behind f status (expand_inside f status e t) (expand_inside f status then_one))
          (expand_inside f status else_one)
          (behind_same (expand_inside f status e s) (expand_inside f status e t) (expand_inside f status then_one) (inside_same e s t q.0 a)
          (λ u v b. inside_same then_one u v q.1 b))
          (λ u v b. inside_same else_one u v p.1 b)
      inside_same (Assigned at name operator e) s t h a =
          let q = or_parts (is_about_separators (Variable name)) (expression_mentions is_about_separators e) h in inside_same e s t q.1 a

      operands_same : (es : Operands) (s t : State) → operands_mention is_about_separators es ≡ false → Alike s t
          → Alike (expand_operands f status es s) (expand_operands f status es t)
      operands_same no_operands s t h a = a
      operands_same (more_operands operator e rest) s t h a =
          let q = or_parts (expression_mentions is_about_separators e) (operands_mention is_about_separators rest) h in
          behind_same (expand_inside f status e s) (expand_inside f status e t) (expand_operands f status rest) (inside_same e s t q.0 a)
          (λ u v b. operands_same rest u v q.1 b)

-- Pieces that depend on no separator

-- a digit or `-`
abbrev pub is_numeral : ℕ → Bool
is_numeral c = is_digit c || c == 45

-- a piece without an unquoted byte of a pattern, that only digits and `-` could divide
unfoldable pub is_firm : Piece → Bool
is_firm (Bytes Literal t) = not (list_any begins_pattern t)
is_firm (Bytes Quoted t) = true
is_firm (Bytes Unquoted t) = list_all is_numeral t
is_firm Break = true

abbrev pub Firm : List Piece → Type 0
Firm ps = list_all is_firm ps ≡ true

pub or_second : (b c : Bool) → b ≡ false → (b || c) ≡ true → c ≡ true
or_second true c k h = absurd (false≢true (sym k))
or_second false c k h = h

-- such an operator gives no number, whatever the parameter is
pub use_no_number : (p : Parameter) (x : Action) (colon : Bool) (w : Word) → gives_number p (Use x colon w) ≡ false
unfolding gives_number
use_no_number (Variable name) x colon w = refl
use_no_number (Positional n) x colon w = refl
use_no_number (Special c) x colon w = refl

pub removal_no_number : (p : Parameter) (removal : Removal) (w : Word) → gives_number p (Remove removal w) ≡ false
unfolding gives_number
removal_no_number (Variable name) removal w = refl
removal_no_number (Positional n) removal w = refl
removal_no_number (Special c) removal w = refl

-- numbers

digit_is_numeral : (m : ℕ) → m < 10 → is_numeral (48 + m) ≡ true
digit_is_numeral m h = or_left (is_digit (48 + m)) _ (and_from (nat_le 48 (48 + m)) (nat_le (48 + m) 57) (le-leb 48 (48 + m) (omega arith)) (le-leb (48 + m) 57 (omega arith)))

last_digits_firm : (k n : ℕ) → list_all is_numeral (last_digits k n) ≡ true
unfolding last_digits
last_digits_firm zero n = and_from _ true (digit_is_numeral (n % 10) (mod-lt n (omega arith))) refl
last_digits_firm (suc k) n =
    cond_both (nat_lt n 10) ((48 + n) ∷ []) (last_digits k (n / 10) ++ (48 + n % 10) ∷ []) (λ t. list_all is_numeral t ≡ true)
    (λ b. and_from _ true (digit_is_numeral n (ltb-true n 10 b)) refl)
    (λ b.
    list_all-append is_numeral (last_digits k (n / 10)) ((48 + n % 10) ∷ [])
    ∙ and_from _ _ (last_digits_firm k (n / 10)) (and_from _ true (digit_is_numeral (n % 10) (mod-lt n (omega arith))) refl))

integer_firm : (n : ℤ) → list_all is_numeral (integer_text n) ≡ true
unfolding integer_text
integer_firm (pos n) = last_digits_firm n n
integer_firm (negsuc n) = last_digits_firm (suc n) (suc n)

-- what quotes hold is firm
held_firm : (ps : List Piece) → Held true ps → Firm ps
unfolding is_held is_firm
held_firm [] h = refl
held_firm (Bytes Quoted t ∷ ps) h = held_firm ps h
held_firm (Break ∷ ps) h = held_firm ps h
held_firm (Bytes Literal t ∷ ps) h = absurd (false≢true h)
held_firm (Bytes Unquoted t ∷ ps) h = absurd (false≢true h)

module _ (f : Frame) (status : ℕ) where
  counter_firm : (x : tree.Special) (e : Environment) (g : Given) (s : State) → is_numeric x ≡ true
      → Firm (value_pieces f status in_fields (Special x) (special_value f status x e g) s).pieces
  unfolding is_numeric special_value value_pieces needed value_origin is_firm
  counter_firm special.NumberSign e g s h = and_from _ true (last_digits_firm (length f) (length f)) refl
  counter_firm special.QuestionMark e g s h = and_from _ true (last_digits_firm status status) refl
  counter_firm special.Dollar e g s h = and_from _ true (last_digits_firm g.number g.number) refl
  counter_firm special.Exclamation e g s h =
      cond_both e.job (Some (digits g.number)) None (λ v. Firm (needed f status in_fields v s).pieces) (λ b. and_from _ true (last_digits_firm g.number g.number) refl) (λ b. refl)
  counter_firm special.At e g s h = absurd (false≢true h)
  counter_firm special.Asterisk e g s h = absurd (false≢true h)
  counter_firm special.Hyphen e g s h = absurd (false≢true h)
  counter_firm special.Zero e g s h = absurd (false≢true h)

  use_firm : (p : Parameter) (g : Given) (x : Action) (v : Option Text) (set colon : Bool) (w : Word) (text : State → Outcome) (s : State)
      → is_quoted_alternative (Use x colon w) ≡ true → Firm (used f status in_fields p g x v set (expand f status (in_default in_fields) w) text s).pieces
  unfolding used is_quoted_alternative
  use_firm p g action.Alternative v set colon no_parts text s h = absurd (false≢true h)
  use_firm p g action.Alternative v true colon (more_parts x w) text s h = held_firm _ (quotations_held f status true (in_default in_fields) (more_parts x w) s h refl)
  use_firm p g action.Alternative v false colon (more_parts x w) text s h = refl
  use_firm p g action.Default v set colon w text s h = absurd (false≢true h)
  use_firm p g action.Assign v set colon w text s h = absurd (false≢true h)
  use_firm p g action.Fault v set colon w text s h = absurd (false≢true h)

  length_firm : (p : Parameter) (g : Given) (v : Option Text) (s : State) → Firm (expand_operator f status in_fields p Length g v s).pieces
  unfolding expand_operator value_origin is_firm
  length_firm p g None s = and_from _ true (last_digits_firm 0 0) refl
  length_firm p g (Some t) s = and_from _ true (last_digits_firm (length t) (length t)) refl

  expansion_firm : (p : Parameter) (operator : Operator) (e : Environment) (g : Given) (s : State)
      → (gives_number p operator || is_quoted_alternative operator) ≡ true → Firm (expand_operator f status in_fields p operator g (value_of f status p e g) s).pieces
  unfolding expand_operator gives_number is_quoted_alternative value_of value_origin is_firm
  expansion_firm (Special x) Value e g s h = counter_firm x e g s (sym (or-false (is_numeric x)) ∙ h)
  expansion_firm (Variable name) Value e g s h = absurd (false≢true h)
  expansion_firm (Positional n) Value e g s h = absurd (false≢true h)
  expansion_firm p Length e g s h = length_firm p g (value_of f status p e g) s
  expansion_firm p (Use x colon w) e g s h = use_firm p g x (value_of f status p e g) _ colon w _ s (or_second (gives_number p (Use x colon w)) _ (use_no_number p x colon w) h)
  expansion_firm p (Remove removal w) e g s h = absurd (false≢true (or_second (gives_number p (Remove removal w)) false (removal_no_number p removal w) h))

  part_firm : (x : Part) (s : State) → is_whole x ≡ true → part_begins_pattern x ≡ false → Firm (expand_part f status in_fields x s).pieces
  unfolding expand_part is_whole part_begins_pattern computed_pieces value_origin is_firm
  part_firm (Plain t) s h k = and_from _ true (not_from_false (list_any begins_pattern t) k) refl
  part_firm (Escaped t) s h k = refl
  part_firm (Single style t) s h k = refl
  part_firm (Double w) s h k = held_firm _ (double_held f status true in_fields w s refl)
  part_firm (Expansion at p operator) s h k = expansion_firm p operator s.environment (s.given 0) (taken s) h
  part_firm (Arithmetic at e) s h k =
      followed_all is_firm (gives [] (expand_inside f status e s)) _ refl (λ t. and_from _ true (integer_firm (evaluate e t).value) refl)
  part_firm (Substitution at list) s h k = absurd (false≢true h)
  part_firm (Tilde at login) s h k = held_firm _ (tilde_held f status true login (s.given 0) (taken s))
  part_firm Joined s h k = refl

  pub word_firm : (w : Word) (s : State) → are_whole w ≡ true → word_begins_pattern w ≡ false → Firm (expand f status in_fields w s).pieces
  unfolding expand are_whole word_begins_pattern
  word_firm no_parts s h k = refl
  word_firm (more_parts x w) s h k =
      let p = and_parts (is_whole x) (are_whole w) h in
      let q = or_parts (part_begins_pattern x) (word_begins_pattern w) k in
      followed_all is_firm (expand_part f status in_fields x s) _ (part_firm x s p.0 q.0) (λ t. word_firm w t p.1 q.1)

-- Fields of firm pieces

-- a byte that begins no pattern, or is quoted
abbrev is_kept : Marked → Bool
is_kept m = m.quoted || not (begins_pattern m.byte)

is_kept_sign : Sign → Bool
is_kept_sign (Stands m) = is_kept m
is_kept_sign _ = true

is_kept_scan : Scan → Bool
is_kept_scan (Inside field) = list_all is_kept field
is_kept_scan _ = true

-- a numeral is no separator, if these are none
pub numeral_stands : (ifs : Text) (c : ℕ) → list_any is_numeral ifs ≡ false → is_numeral c ≡ true → is_in ifs c ≡ false
numeral_stands [] c h n = refl
numeral_stands (d ∷ ds) c h n =
    let p = or_parts (is_numeral d) (list_any is_numeral ds) h in
    or_from (d == c) (is_in ds c) (ne_eqb d c (λ q. false≢true (sym p.0 ∙ ap is_numeral q ∙ n))) (numeral_stands ds c p.1 n)

numeral_sign : (ifs : Text) (c : ℕ) → list_any is_numeral ifs ≡ false → is_numeral c ≡ true → unquoted_sign ifs c ≡ stands false c
unfolding unquoted_sign
numeral_sign ifs c h n = ap (λ b. if b then (if is_in blanks c then Blank else Separates) else stands false c) (numeral_stands ifs c h n)

numeral_signs : (ifs t : Text) → list_any is_numeral ifs ≡ false → list_all is_numeral t ≡ true → map (unquoted_sign ifs) t ≡ map (stands false) t
numeral_signs ifs [] h n = refl
numeral_signs ifs (c ∷ cs) h n =
    let p = and_parts (is_numeral c) (list_all is_numeral cs) n in ap₂ (λ x xs. x ∷ xs) (numeral_sign ifs c h p.0) (numeral_signs ifs cs h p.1)

-- the signs are those without separators
signs_same : (ifs : Text) (x : Piece) → list_any is_numeral ifs ≡ false → is_firm x ≡ true → piece_signs ifs x ≡ piece_signs [] x
unfolding piece_signs is_firm
signs_same ifs (Bytes Literal t) h k = refl
signs_same ifs (Bytes Quoted t) h k = refl
signs_same ifs (Bytes Unquoted t) h k = numeral_signs ifs t h k ∙ sym (numeral_signs [] t refl k)
signs_same ifs Break h k = refl

all_signs_same : (ifs : Text) (ps : List Piece) → list_any is_numeral ifs ≡ false → Firm ps → flat_map (piece_signs ifs) ps ≡ flat_map (piece_signs []) ps
all_signs_same ifs [] h k = refl
all_signs_same ifs (x ∷ ps) h k =
    let p = and_parts (is_firm x) (list_all is_firm ps) k in ap₂ (λ xs ys. xs ++ ys) (signs_same ifs x h p.0) (all_signs_same ifs ps h p.1)

-- and none of them begins a pattern
pub numeral_kept : (c : ℕ) → is_numeral c ≡ true → not (begins_pattern c) ≡ true
numeral_kept c h = not_from_false (begins_pattern c) (or_from (c == 42 || c == 63) (c == 91) (or_from (c == 42) (c == 63) (other 42 refl) (other 63 refl)) (other 91 refl))
  where
    other : (d : ℕ) → is_numeral d ≡ false → (c == d) ≡ false
    other d k = ne_eqb c d (λ q. false≢true (sym k ∙ ap is_numeral (sym q) ∙ h))

literal_kept : (t : Text) → list_any begins_pattern t ≡ false → list_all is_kept_sign (map (stands false) t) ≡ true
unfolding is_kept_sign
literal_kept [] h = refl
literal_kept (c ∷ cs) h =
    let p = or_parts (begins_pattern c) (list_any begins_pattern cs) h in and_from _ _ (not_from_false (begins_pattern c) p.0) (literal_kept cs p.1)

quoted_kept : (t : Text) → list_all is_kept_sign (map (stands true) t) ≡ true
unfolding is_kept_sign
quoted_kept [] = refl
quoted_kept (c ∷ cs) = quoted_kept cs

numerals_kept : (t : Text) → list_all is_numeral t ≡ true → list_all is_kept_sign (map (unquoted_sign []) t) ≡ true
unfolding is_kept_sign unquoted_sign
numerals_kept [] h = refl
numerals_kept (c ∷ cs) h =
    let p = and_parts (is_numeral c) (list_all is_numeral cs) h in and_from _ _ (numeral_kept c p.0) (numerals_kept cs p.1)

piece_kept : (x : Piece) → is_firm x ≡ true → list_all is_kept_sign (piece_signs [] x) ≡ true
unfolding piece_signs is_firm is_kept_sign
piece_kept (Bytes Literal t) h = literal_kept t (not-true (list_any begins_pattern t) h)
piece_kept (Bytes Quoted t) h = quoted_kept t
piece_kept (Bytes Unquoted t) h = numerals_kept t h
piece_kept Break h = refl

pieces_kept : (ps : List Piece) → Firm ps → list_all is_kept_sign (flat_map (piece_signs []) ps) ≡ true
pieces_kept [] h = refl
pieces_kept (x ∷ ps) h =
    let p = and_parts (is_firm x) (list_all is_firm ps) h in
    list_all-append is_kept_sign (piece_signs [] x) (flat_map (piece_signs []) ps) ∙ and_from _ _ (piece_kept x p.0) (pieces_kept ps p.1)

one_more_kept : (field : List Marked) (m : Marked) → list_all is_kept field ≡ true → is_kept m ≡ true → list_all is_kept (field ++ m ∷ []) ≡ true
one_more_kept field m h k = list_all-append is_kept field (m ∷ []) ∙ and_from (list_all is_kept field) (is_kept m && true) h (and_from (is_kept m) true k refl)

-- so that no field has one
scan_kept : (xs : List Sign) (p : Scan) → is_kept_scan p ≡ true → list_all is_kept_sign xs ≡ true → list_all (list_all is_kept) (scan p xs) ≡ true
unfolding scan is_kept_scan is_kept_sign
scan_kept [] Before h k = refl
scan_kept [] Behind h k = refl
scan_kept [] (Inside field) h k = and_from (list_all is_kept field) true h refl
scan_kept (Stands m ∷ xs) Before h k = let q = and_parts (is_kept m) (list_all is_kept_sign xs) k in scan_kept xs (Inside (m ∷ [])) (and_from (is_kept m) true q.0 refl) q.1
scan_kept (Stands m ∷ xs) Behind h k = let q = and_parts (is_kept m) (list_all is_kept_sign xs) k in scan_kept xs (Inside (m ∷ [])) (and_from (is_kept m) true q.0 refl) q.1
scan_kept (Stands m ∷ xs) (Inside field) h k =
    let q = and_parts (is_kept m) (list_all is_kept_sign xs) k in scan_kept xs (Inside (field ++ m ∷ [])) (one_more_kept field m h q.0) q.1
scan_kept (Quote ∷ xs) Before h k = scan_kept xs (Inside []) refl k
scan_kept (Quote ∷ xs) Behind h k = scan_kept xs (Inside []) refl k
scan_kept (Quote ∷ xs) (Inside field) h k = scan_kept xs (Inside field) h k
scan_kept (Blank ∷ xs) Before h k = scan_kept xs Before refl k
scan_kept (Blank ∷ xs) Behind h k = scan_kept xs Behind refl k
scan_kept (Blank ∷ xs) (Inside field) h k = and_from (list_all is_kept field) _ h (scan_kept xs Behind refl k)
scan_kept (Separates ∷ xs) Before h k = scan_kept xs Before refl k
scan_kept (Separates ∷ xs) Behind h k = scan_kept xs Before refl k
scan_kept (Separates ∷ xs) (Inside field) h k = and_from (list_all is_kept field) _ h (scan_kept xs Before refl k)
scan_kept (Breaks ∷ xs) Before h k = scan_kept xs Before refl k
scan_kept (Breaks ∷ xs) Behind h k = scan_kept xs Before refl k
scan_kept (Breaks ∷ xs) (Inside field) h k = and_from (list_all is_kept field) _ h (scan_kept xs Before refl k)

-- and the directory is not asked
none_unquoted : (test : Marked → Bool) → ((m : Marked) → is_kept m ≡ true → test m ≡ false) → (field : List Marked) → list_all is_kept field ≡ true → list_any test field ≡ false
none_unquoted test never [] h = refl
none_unquoted test never (m ∷ ms) h = let p = and_parts (is_kept m) (list_all is_kept ms) h in or_from (test m) (list_any test ms) (never m p.0) (none_unquoted test never ms p.1)

wild_kept : (quoted : Bool) (c : ℕ) → (quoted || not (begins_pattern c)) ≡ true → ((not quoted && c == 42) || (not quoted && c == 63)) ≡ false
wild_kept true c h = refl
wild_kept false c h = (or_parts (c == 42 || c == 63) (c == 91) (not-true (begins_pattern c) h)).0

bracket_kept : (quoted : Bool) (c : ℕ) → (quoted || not (begins_pattern c)) ≡ true → (not quoted && c == 91) ≡ false
bracket_kept true c h = refl
bracket_kept false c h = (or_parts (c == 42 || c == 63) (c == 91) (not-true (begins_pattern c) h)).1

kept_no_pattern : (field : List Marked) → list_all is_kept field ≡ true → is_pattern field ≡ false
unfolding is_pattern
kept_no_pattern field h =
    or_from _ _ (none_unquoted (λ m. is_unquoted 42 m || is_unquoted 63 m) (λ m k. wild_kept m.quoted m.byte k) field h)
    (and_left _ (not (is_bracket field)) (none_unquoted (is_unquoted 91) (λ m k. bracket_kept m.quoted m.byte k) field h))

names_kept : (directory : Directory) (fields : List (List Marked)) → list_all (list_all is_kept) fields ≡ true → flat_map (field_names directory) fields ≡ map field_text fields
unfolding field_names
names_kept directory [] h = refl
names_kept directory (x ∷ xs) h =
    let p = and_parts (list_all is_kept x) (list_all (list_all is_kept) xs) h in
    ap₂ (λ b ts. (if b then names_or (field_text x) (directory x) else field_text x ∷ []) ++ ts) (kept_no_pattern x p.0) (names_kept directory xs p.1)

-- the fields of firm pieces are those without separators, as they are
firm_fields : (ifs : Text) (directory : Directory) (ps : List Piece) → list_any is_numeral ifs ≡ false → Firm ps → fields ifs directory ps ≡ map field_text (split_fields [] ps)
unfolding is_kept_scan
firm_fields ifs directory ps h k =
    ap (λ xs. flat_map (field_names directory) (scan Before xs)) (all_signs_same ifs ps h k)
    ∙ names_kept directory (split_fields [] ps) (scan_kept (flat_map (piece_signs []) ps) Before refl (pieces_kept ps k))

pub steady_separators : (v i : Option Text) → v ≡ i → is_steady i ≡ true → list_any is_numeral (unwrap_or v blanks) ≡ false
unfolding is_steady
steady_separators v i q h = ap (λ u. list_any is_numeral (unwrap_or u blanks)) q ∙ go i h
  where
    go : (u : Option Text) → is_steady u ≡ true → list_any is_numeral (unwrap_or u blanks) ≡ false
    go None k = refl
    go (Some t) k = not-true (list_any is_numeral t) k

pub fields_stand_steady : FieldsStandSteady
fields_stand_steady f status w e d given here there whole patterns mentions differ first second =
    let i : Option Text = e.variables (codes "IFS") in
    let j : Option Text = d.variables (codes "IFS") in
    let o : Outcome = expand f status in_fields w (fresh e given) in
    let p : Outcome = expand f status in_fields w (fresh d given) in
    let same : SameOutcome i j o p =
    word_same i j f status in_fields w (fresh e given) (fresh d given) mentions (record { differ = differ; first = refl; second = refl; given = λ n. refl; ended = refl }) in
    firm_fields (separators o.state.environment) here o.pieces (steady_separators _ i same.state.first first) (word_firm f status w (fresh e given) whole patterns)
    ∙ ap (λ ps. map field_text (split_fields [] ps)) same.pieces
    ∙ sym (firm_fields (separators p.state.environment) there p.pieces (steady_separators _ j same.state.second second) (word_firm f status w (fresh d given) whole patterns))
