-- What an expansion keeps of a state, whatever its answers are. It stays if an answer is taken, if
-- a variable of those that the word may assign is set, and if a process is started for a list in
-- the word.
use Rattle.std.proofs.Common.{◌≡◌, ℕ, Bool, true, false, not, ◌&&◌, ◌||◌, Option, Some, None, is_some, codes, List, [], ◌∷◌, ◌++◌, ℤ, refl, sym, ◌∙◌}
use Rattle.std.specs.List.{list_all}
use Rattle.std.proofs.lemmas.Bool.{or_parts, or_from, cond_both, and_parts}
use Rattle.std.proofs.lemmas.List.Folds.{list_all-append}
use Rattle.sh_tree.specs.declared.tree.Action.{Action}
use Rattle.sh_tree.specs.declared.tree.Action.TheVariants as action
use Rattle.sh_tree.specs.declared.tree.Binary.{Binary}
use Rattle.sh_tree.specs.declared.tree.Removal.{Removal}
use Rattle.sh_tree.specs.declared.tree.Special.TheVariants as special
use Rattle.sh_tree.specs.standard.program.Syntax as p
use Rattle.sh_tree.specs.standard.program.Syntax.{Text, Parameter, Variable, Special, Part, Plain, Escaped, Single, Double, Expansion, Arithmetic, Substitution, Tilde, Joined, Word, no_parts, more_parts, Operator, Value, Length, Use, Remove, Expression, Constant, Name, Expanded, Parenthesis, Signed, Chain, Choice, Assigned, Operands, no_operands, more_operands}
use Rattle.sh_runs.specs.Surroundings.{Located, outside, items_located, word_located, part_located, operator_located, expression_located, operands_located}
use Rattle.sh_runs.specs.Quoting.{part_assigns, word_assigns, operator_assigns, expression_assigns, operands_assign}
use Rattle.sh_runs.specs.standard.runs.Answers.{Given}
use Rattle.sh_runs.specs.standard.runs.Arithmetic.{Computed, computes, answered, operated, then_computed, read_name, named, skips, read_where, operated_assignment, evaluate, evaluate_rest}
use Rattle.sh_runs.specs.standard.runs.Environment.{Frame, with_variable, copied}
use Rattle.sh_runs.specs.standard.runs.Expansion.{Context, in_quotes, in_one, in_default, pieces_text, is_empty_value, Outcome, gives, followed, value_of, needed, value_pieces, default_assigned, used, constant_in, behind, tilde_pieces, computed_pieces, expand_part, expand, expand_operator, expand_inside, expand_operands}
use Rattle.sh_runs.specs.standard.runs.Numbers.{integer_text, is_operand, is_computed, is_zero}
use Rattle.sh_runs.specs.standard.runs.States.{State, met, taken, ending, stray, with_environment, started}

-- each of these commands passes the test
abbrev pub Each : (Located → Bool) → List Located → Type 0
Each ok ls = list_all ok ls ≡ true

pub each_parts : (ok : Located → Bool) (xs ys : List Located) → Each ok (xs ++ ys) → Each ok xs × Each ok ys
each_parts ok xs ys h = and_parts (list_all ok xs) (list_all ok ys) (sym (list_all-append ok xs ys) ∙ h)

pub each_joined : (ok : Located → Bool) (xs ys : List Located) → Each ok xs → Each ok ys → Each ok (xs ++ ys)
each_joined ok xs ys h k = rw (list_all-append ok xs ys, h, k) refl

module _ (is_one : Text → Bool) (ok : Located → Bool) (Stays : State → Type 0) where
  -- what stays at each change of a state: no variable of these is set, and each list that is
  -- started has these commands alone
  pub record Closed : Type 0 where
    pub takes : (s : State) → Stays s → Stays (taken s)
    pub meets : (s : State) → Stays s → Stays (met s)
    pub ends : (s : State) → Stays s → Stays (ending s)
    pub strays : (s : State) → Stays s → Stays (stray s)
    pub sets : (s : State) (name v : Text) → is_one name ≡ false → Stays s → Stays (with_environment s (with_variable s.environment name (Some v)))
    pub starts : (s : State) (carries : Bool) (list : p.Items) → Each ok (items_located outside list) → Stays s
        → Stays (started (record { environment = copied carries s.environment; list = list }) s)

  module _ (closed : Closed) where
    -- Arithmetic

    operated_stays : (s : State) → Stays s → Stays (operated s).state
    unfolding operated
    operated_stays s h =
        cond_both (s.given 0).fails (computes (s.given 0).integer (ending (taken s))) (answered s) (λ (r : Computed). Stays r.state)
        (λ b. closed.ends (taken s) (closed.takes s h)) (λ b. closed.takes s h)

    then_stays : (r : Computed) (next : ℤ → State → Computed) → Stays r.state → ((n : ℤ) (s : State) → Stays s → Stays (next n s).state) → Stays (then_computed r next).state
    unfolding then_computed
    then_stays r next h k = cond_both r.state.ended r (next r.value r.state) (λ (q : Computed). Stays q.state) (λ b. h) (λ b. k r.value r.state h)

    read_stays : (v : Option Text) (s : State) → Stays s → Stays (read_name v s)
    unfolding read_name
    read_stays None s h = closed.meets s h
    read_stays (Some t) s h = cond_both (is_computed t) s (stray s) Stays (λ b. h) (λ b. closed.strays s h)

    read_where_stays : (reads : Bool) (operator : Option Binary) (name : Text) (s : State) → Stays s → Stays (read_where reads operator name s)
    unfolding read_where
    read_where_stays reads None name s h = h
    read_where_stays true (Some operator) name s h = read_stays (s.environment.variables name) s h
    read_where_stays false (Some operator) name s h = h

    assigned_stays : (first : Bool) (name : Text) (operator : Option Binary) (value : State → Computed) (s : State) → is_one name ≡ false
        → ((t : State) → Stays t → Stays (value t).state) → Stays s → Stays (operated_assignment first name operator value s).state
    unfolding operated_assignment
    assigned_stays first name operator value s i k h =
        then_stays (value (read_where first operator name s)) _ (k (read_where first operator name s) (read_where_stays first operator name s h))
        (λ n t q.
        then_stays (operated (read_where (not first) operator name t)) _ (operated_stays (read_where (not first) operator name t) (read_where_stays (not first) operator name t q))
        (λ m u r. closed.sets u name (integer_text m) i r))

    mutual
      unfolding evaluate evaluate_rest expression_assigns operands_assign

      evaluate_stays : (e : Expression) (s : State) → expression_assigns is_one e ≡ false → Stays s → Stays (evaluate e s).state
      evaluate_stays (Constant c) s i h = closed.takes s h
      evaluate_stays (Name at name) s i h = closed.takes (named name s) (read_stays (s.environment.variables name) s h)
      evaluate_stays (Expanded x) s i h = closed.takes s h
      evaluate_stays (Parenthesis e) s i h = evaluate_stays e s i h
      evaluate_stays (Signed operator e) s i h = then_stays (evaluate e s) _ (evaluate_stays e s i h) (λ n t k. operated_stays t k)
      evaluate_stays (Chain e rest) s i h =
          let q = or_parts (expression_assigns is_one e) (operands_assign is_one rest) i in
          then_stays (evaluate e s) (evaluate_rest rest) (evaluate_stays e s q.0 h) (λ n t k. rest_stays rest n t q.1 k)
      evaluate_stays (Choice e then_one else_one) s i h =
          let q = or_parts (expression_assigns is_one e || expression_assigns is_one then_one) (expression_assigns is_one else_one) i in
          let r = or_parts (expression_assigns is_one e) (expression_assigns is_one then_one) q.0 in
          then_stays (evaluate e s) _ (evaluate_stays e s r.0 h)
          (λ n t k.
          cond_both (is_zero n) (evaluate else_one t) (evaluate then_one t) (λ (c : Computed). Stays c.state)
          (λ b. evaluate_stays else_one t q.1 k) (λ b. evaluate_stays then_one t r.1 k))
      evaluate_stays (Assigned at name operator e) s i h =
          let q = or_parts (is_one name) (expression_assigns is_one e) i in
          assigned_stays (s.given 0).reads_first name operator (evaluate e) (taken s) q.0 (λ t k. evaluate_stays e t q.1 k) (closed.takes s h)

      rest_stays : (es : Operands) (n : ℤ) (s : State) → operands_assign is_one es ≡ false → Stays s → Stays (evaluate_rest es n s).state
      rest_stays no_operands n s i h = h
      rest_stays (more_operands operator e rest) n s i h =
          let q = or_parts (expression_assigns is_one e) (operands_assign is_one rest) i in
          cond_both (skips operator (is_zero n)) (evaluate_rest rest n s) (then_computed (then_computed (evaluate e s) (λ m t. operated t)) (evaluate_rest rest)) (λ (c : Computed). Stays c.state)
          (λ b. rest_stays rest n s q.1 h)
          (λ b.
          then_stays (then_computed (evaluate e s) (λ m t. operated t)) (evaluate_rest rest)
          (then_stays (evaluate e s) _ (evaluate_stays e s q.0 h) (λ m t k. operated_stays t k)) (λ m t k. rest_stays rest m t q.1 k))

    -- Expansions

    followed_stays : (o : Outcome) (next : State → Outcome) → Stays o.state → ((s : State) → Stays s → Stays (next s).state) → Stays (followed o next).state
    unfolding followed
    followed_stays o next h k =
        cond_both o.state.ended o (gives (o.pieces ++ (next o.state).pieces) (next o.state).state) (λ (q : Outcome). Stays q.state) (λ b. h) (λ b. k o.state h)

    module _ (f : Frame) (status : ℕ) where
      behind_stays : (s : State) (next : State → State) → Stays s → ((t : State) → Stays t → Stays (next t)) → Stays (behind f status s next)
      unfolding behind
      behind_stays s next h k = cond_both s.ended s (next s) Stays (λ b. h) (λ b. k s h)

      constant_stays : (o : Outcome) → Stays o.state → Stays (constant_in f status o)
      unfolding constant_in
      constant_stays o h = cond_both (o.state.ended || is_operand (pieces_text o.pieces)) o.state (stray o.state) Stays (λ b. h) (λ b. closed.strays o.state h)

      needed_stays : (c : Context) (v : Option Text) (s : State) → Stays s → Stays (needed f status c v s).state
      unfolding needed
      needed_stays c None s h = closed.meets s h
      needed_stays c (Some v) s h = h

      value_stays : (c : Context) (x : Parameter) (v : Option Text) (s : State) → Stays s → Stays (value_pieces f status c x v s).state
      unfolding value_pieces
      value_stays c (Special special.At) v s h = h
      value_stays c (Special special.Asterisk) v s h = h
      value_stays c x v s h = needed_stays c v s h

      default_stays : (c : Context) (x : Parameter) (w : Word) (colon : Bool) (t : Text) (fails : Bool) (s : State) → operator_assigns is_one x (Use action.Assign colon w) ≡ false → Stays s
          → Stays (default_assigned f status c x t fails s).state
      unfolding default_assigned operator_assigns
      default_stays c (Variable name) w colon t false s i h = closed.sets s name t (or_parts (is_one name) (word_assigns is_one w) i).0 h
      default_stays c x w colon t fails s i h = closed.ends s h

      -- whatever the operator is, its word may assign none of these
      in_word : (x : Parameter) (y : Action) (colon : Bool) (w : Word) → operator_assigns is_one x (Use y colon w) ≡ false → word_assigns is_one w ≡ false
      unfolding operator_assigns
      in_word (Variable name) action.Assign colon w i = (or_parts (is_one name) (word_assigns is_one w) i).1
      in_word x y colon w i = i

      in_removal : (x : Parameter) (y : Removal) (w : Word) → operator_assigns is_one x (Remove y w) ≡ false → word_assigns is_one w ≡ false
      unfolding operator_assigns
      in_removal (Variable name) y w i = i
      in_removal x y w i = i

      used_stays : (c : Context) (x : Parameter) (g : Given) (y : Action) (colon : Bool) (w : Word) (v : Option Text) (set : Bool) (word text : State → Outcome) (s : State)
          → operator_assigns is_one x (Use y colon w) ≡ false → ((t : State) → Stays t → Stays (word t).state) → ((t : State) → Stays t → Stays (text t).state) → Stays s
          → Stays (used f status c x g y v set word text s).state
      unfolding used
      used_stays c x g action.Default colon w v true word text s i j k h = needed_stays c v s h
      used_stays c x g action.Default colon w v false word text s i j k h = j s h
      used_stays c x g action.Assign colon w v true word text s i j k h = needed_stays c v s h
      used_stays c x g action.Assign colon w v false word text s i j k h =
          followed_stays (gives [] (text s).state) _ (k s h) (λ t q. default_stays c x w colon (pieces_text (text s).pieces) g.fails t i q)
      used_stays c x g action.Fault colon w v true word text s i j k h = needed_stays c v s h
      used_stays c x g action.Fault colon w v false word text s i j k h = closed.ends (text s).state (k s h)
      used_stays c x g action.Alternative colon w v true word text s i j k h = j s h
      used_stays c x g action.Alternative colon w v false word text s i j k h = h

      tilde_stays : (login : Text) (g : Given) (s : State) → Stays s → Stays (tilde_pieces f status login g s).state
      unfolding tilde_pieces
      tilde_stays [] g s h = needed_stays (in_quotes in_one) (s.environment.variables (codes "HOME")) s h
      tilde_stays (c ∷ cs) g s h = h

      mutual
        unfolding expand_part expand expand_operator expand_inside expand_operands part_assigns word_assigns operator_assigns expression_assigns operands_assign computed_pieces part_located word_located operator_located expression_located operands_located

        pub part_stays : (c : Context) (x : Part) (s : State) → part_assigns is_one x ≡ false → Each ok (part_located x) → Stays s → Stays (expand_part f status c x s).state
        part_stays c (Plain t) s i l h = h
        part_stays c (Escaped t) s i l h = h
        part_stays c (Single style t) s i l h = h
        part_stays c (Double w) s i l h = followed_stays (gives _ s) _ h (λ t k. word_stays (in_quotes c) w t i l k)
        part_stays c (Expansion at x operator) s i l h =
            operator_stays c x operator (s.given 0) (value_of f status x s.environment (s.given 0)) (taken s) i l (closed.takes s h)
        part_stays c (Arithmetic at e) s i l h =
            followed_stays (gives [] (expand_inside f status e s)) _ (inside_stays e s i l h) (λ t k. evaluate_stays e t i k)
        part_stays c (Substitution at list) s i l h = closed.starts (taken s) (s.given 0).carries list l (closed.takes s h)
        part_stays c (Tilde at login) s i l h = tilde_stays login (s.given 0) (taken s) (closed.takes s h)
        part_stays c Joined s i l h = h

        pub word_stays : (c : Context) (w : Word) (s : State) → word_assigns is_one w ≡ false → Each ok (word_located w) → Stays s → Stays (expand f status c w s).state
        word_stays c no_parts s i l h = h
        word_stays c (more_parts x w) s i l h =
            let q = or_parts (part_assigns is_one x) (word_assigns is_one w) i in
            let r = each_parts ok (part_located x) (word_located w) l in
            followed_stays (expand_part f status c x s) (expand f status c w) (part_stays c x s q.0 r.0 h) (λ t k. word_stays c w t q.1 r.1 k)

        operator_stays : (c : Context) (x : Parameter) (operator : Operator) (g : Given) (v : Option Text) (s : State) → operator_assigns is_one x operator ≡ false
            → Each ok (operator_located operator) → Stays s → Stays (expand_operator f status c x operator g v s).state
        operator_stays c x Value g v s i l h = value_stays c x v s h
        operator_stays c x Length g None s i l h = closed.meets s h
        operator_stays c x Length g (Some t) s i l h = h
        operator_stays c x (Use y colon w) g v s i l h =
            used_stays c x g y colon w v (is_some v && not (colon && is_empty_value v)) (expand f status (in_default c) w) (expand f status in_one w) s i
            (λ t k. word_stays (in_default c) w t (in_word x y colon w i) l k) (λ t k. word_stays in_one w t (in_word x y colon w i) l k) h
        operator_stays c x (Remove removal w) g v s i l h =
            followed_stays (gives [] (needed f status c v s).state) _ (needed_stays c v s h)
            (λ t k. followed_stays (gives [] (expand f status in_one w t).state) _ (word_stays in_one w t (in_removal x removal w i) l k) (λ u q. q))

        inside_stays : (e : Expression) (s : State) → expression_assigns is_one e ≡ false → Each ok (expression_located e) → Stays s → Stays (expand_inside f status e s)
        inside_stays (Constant c) s i l h = h
        inside_stays (Name at name) s i l h = h
        inside_stays (Expanded x) s i l h = constant_stays (expand_part f status (in_quotes in_one) x s) (part_stays (in_quotes in_one) x s i l h)
        inside_stays (Parenthesis e) s i l h = inside_stays e s i l h
        inside_stays (Signed operator e) s i l h = inside_stays e s i l h
        inside_stays (Chain e rest) s i l h =
            let q = or_parts (expression_assigns is_one e) (operands_assign is_one rest) i in
            let r = each_parts ok (expression_located e) (operands_located rest) l in
            behind_stays (expand_inside f status e s) (expand_operands f status rest) (inside_stays e s q.0 r.0 h) (λ t k. operands_stay rest t q.1 r.1 k)
        inside_stays (Choice e then_one else_one) s i l h =
            let q = or_parts (expression_assigns is_one e || expression_assigns is_one then_one) (expression_assigns is_one else_one) i in
            let r = or_parts (expression_assigns is_one e) (expression_assigns is_one then_one) q.0 in
            let m = each_parts ok (expression_located e ++ expression_located then_one) (expression_located else_one) l in
            let n = each_parts ok (expression_located e) (expression_located then_one) m.0 in
            behind_stays (behind f status (expand_inside f status e s) (expand_inside f status then_one)) (expand_inside f status else_one)
            (behind_stays (expand_inside f status e s) (expand_inside f status then_one) (inside_stays e s r.0 n.0 h) (λ t k. inside_stays then_one t r.1 n.1 k))
            (λ t k. inside_stays else_one t q.1 m.1 k)
        inside_stays (Assigned at name operator e) s i l h = inside_stays e s (or_parts (is_one name) (expression_assigns is_one e) i).1 l h

        operands_stay : (es : Operands) (s : State) → operands_assign is_one es ≡ false → Each ok (operands_located es) → Stays s → Stays (expand_operands f status es s)
        operands_stay no_operands s i l h = h
        operands_stay (more_operands operator e rest) s i l h =
            let q = or_parts (expression_assigns is_one e) (operands_assign is_one rest) i in
            let r = each_parts ok (expression_located e) (operands_located rest) l in
            behind_stays (expand_inside f status e s) (expand_operands f status rest) (inside_stays e s q.0 r.0 h) (λ t k. operands_stay rest t q.1 r.1 k)

-- No name, and no command, is asked for

mutual
  unfolding part_assigns word_assigns operator_assigns expression_assigns operands_assign

  part_assigns_none : (x : Part) → part_assigns (λ n. false) x ≡ false
  part_assigns_none (Double w) = word_assigns_none w
  part_assigns_none (Expansion at x operator) = operator_assigns_none x operator
  part_assigns_none (Arithmetic at e) = expression_assigns_none e
  part_assigns_none x = refl

  pub word_assigns_none : (w : Word) → word_assigns (λ n. false) w ≡ false
  word_assigns_none no_parts = refl
  word_assigns_none (more_parts x w) = or_from (part_assigns (λ n. false) x) (word_assigns (λ n. false) w) (part_assigns_none x) (word_assigns_none w)

  operator_assigns_none : (x : Parameter) (operator : Operator) → operator_assigns (λ n. false) x operator ≡ false
  operator_assigns_none (Variable name) (Use action.Assign colon w) = word_assigns_none w
  operator_assigns_none x (Use y colon w) = word_assigns_none w
  operator_assigns_none x (Remove removal w) = word_assigns_none w
  operator_assigns_none x operator = refl

  expression_assigns_none : (e : Expression) → expression_assigns (λ n. false) e ≡ false
  expression_assigns_none (Expanded x) = part_assigns_none x
  expression_assigns_none (Parenthesis e) = expression_assigns_none e
  expression_assigns_none (Signed operator e) = expression_assigns_none e
  expression_assigns_none (Chain e rest) = or_from (expression_assigns (λ n. false) e) (operands_assign (λ n. false) rest) (expression_assigns_none e) (operands_assign_none rest)
  expression_assigns_none (Choice e then_one else_one) =
      or_from (expression_assigns (λ n. false) e || expression_assigns (λ n. false) then_one) (expression_assigns (λ n. false) else_one)
      (or_from (expression_assigns (λ n. false) e) (expression_assigns (λ n. false) then_one) (expression_assigns_none e) (expression_assigns_none then_one)) (expression_assigns_none else_one)
  expression_assigns_none (Assigned at name operator e) = expression_assigns_none e
  expression_assigns_none e = refl

  operands_assign_none : (es : Operands) → operands_assign (λ n. false) es ≡ false
  operands_assign_none no_operands = refl
  operands_assign_none (more_operands operator e rest) =
      or_from (expression_assigns (λ n. false) e) (operands_assign (λ n. false) rest) (expression_assigns_none e) (operands_assign_none rest)

pub all_so : (ls : List Located) → list_all (λ (l : Located). true) ls ≡ true
all_so [] = refl
all_so (l ∷ ls) = all_so ls

module _ (ok : Located → Bool) (Stays : State → Type 0) where
  -- and whatever is assigned
  pub record Keeps : Type 0 where
    pub met : (s : State) → Stays s → Stays (met s)
    pub taken : (s : State) → Stays s → Stays (taken s)
    pub ending : (s : State) → Stays s → Stays (ending s)
    pub stray : (s : State) → Stays s → Stays (stray s)
    pub assigned : (s : State) (name : Text) (v : Option Text) → Stays s → Stays (with_environment s (with_variable s.environment name v))
    pub started : (s : State) (carries : Bool) (list : p.Items) → Each ok (items_located outside list) → Stays s
        → Stays (started (record { environment = copied carries s.environment; list = list }) s)

  any_assigned : Keeps → Closed (λ n. false) ok Stays
  any_assigned kept = record {
    takes = kept.taken;
    meets = kept.met;
    ends = kept.ending;
    strays = kept.stray;
    sets = λ s name v i h. kept.assigned s name (Some v) h;
    starts = kept.started;
  }

  pub word_kept : Keeps → (f : Frame) (status : ℕ) (c : Context) (w : Word) (s : State) → Each ok (word_located w) → Stays s → Stays (expand f status c w s).state
  word_kept kept f status c w s k h = word_stays (λ n. false) ok Stays (any_assigned kept) f status c w s (word_assigns_none w) k h

-- once a parameter that is not set was met, this stays reported
met_closed : Closed (λ n. false) (λ l. true) (λ s. s.unset ≡ true)
met_closed = record {
  takes = λ s h. h;
  meets = λ s h. refl;
  ends = λ s h. h;
  strays = λ s h. h;
  sets = λ s name v i h. h;
  starts = λ s carries list l h. h;
}

module _ (f : Frame) (status : ℕ) where
  pub part_tells : (c : Context) (x : Part) (s : State) → s.unset ≡ true → (expand_part f status c x s).state.unset ≡ true
  part_tells c x s h = part_stays (λ n. false) (λ l. true) (λ t. t.unset ≡ true) met_closed f status c x s (part_assigns_none x) (all_so (part_located x)) h

  pub word_tells : (c : Context) (w : Word) (s : State) → s.unset ≡ true → (expand f status c w s).state.unset ≡ true
  word_tells c w s h = word_stays (λ n. false) (λ l. true) (λ t. t.unset ≡ true) met_closed f status c w s (word_assigns_none w) (all_so (word_located w)) h
