-- If its needs are met, the expansion of a word meets no parameter that is not set, and leaves what
-- it gains.
use Rattle.std.proofs.Common.{◌≡◌, ℕ, zero, suc, ◌-◌, ◌≤◌, ◌<◌, Bool, true, false, not, ◌&&◌, ◌||◌, if◌then◌else◌, List, [], ◌∷◌, ◌++◌, length, slice_get, codes, Option, Some, None, is_some, bytes_eq, ◌⊎◌, inl, inr, refl, sym, ap, ◌∙◌, subst, arith, leb-true, ltb-true, true≢false, ℤ}
use Rattle.std.proofs.lemmas.Bool.{and_parts}
use Rattle.std.proofs.lemmas.Slice.Eq.{bytes_eq-Decides}
use Rattle.sh_tree.specs.declared.place.Code.{Code}
use Rattle.sh_tree.specs.declared.place.Code.TheVariants.{U1, U2, U3}
use Rattle.sh_tree.specs.declared.tree.Action.{Action}
use Rattle.sh_tree.specs.declared.tree.Action.TheVariants as action
use Rattle.sh_tree.specs.declared.tree.Binary.{Binary}
use Rattle.sh_tree.specs.declared.tree.Binary.TheVariants as binary
use Rattle.sh_tree.specs.declared.tree.Special.TheVariants as special
use Rattle.sh_tree.specs.standard.language.Bytes.{is_first, is_name}
use Rattle.sh_tree.specs.standard.program.Syntax as p
use Rattle.sh_tree.specs.standard.program.Syntax.{Text}
use Rattle.sh_runs.specs.standard.runs.Answers.{Given}
use Rattle.sh_runs.specs.standard.runs.Arithmetic.{Computed, computes, answered, operated, then_computed, read_name, skips, read_where, stored, operated_assignment, evaluate, evaluate_rest}
use Rattle.sh_runs.specs.standard.runs.Environment.{Environment, Frame, is_one_of, put_text, with_variable, copied}
use Rattle.sh_runs.specs.standard.runs.Expansion.{Context, in_one, in_quotes, in_default, Outcome, gives, followed, pieces_text, has_every, quote_pieces, is_empty_value, special_value, value_of, needed, value_pieces, default_assigned, used, constant_in, behind, tilde_pieces, computed_pieces, expand_part, expand, expand_operator, expand_inside, expand_operands}
use Rattle.sh_runs.specs.standard.runs.Numbers.{is_zero, is_computed, is_operand, digits, integer_text}
use Rattle.sh_runs.specs.standard.runs.States.{State, taken, ending, stray}
use Rattle.sh_domain.specs.declared.rule.FlowRule.TheVariants.{F11}
use Rattle.sh_domain.specs.Entries.{word_entered, part_entered, operator_entered, expression_entered, operands_entered, operand_seen}
use Rattle.sh_domain.specs.Facts.{Facts, NotReached, Known, claims}
use Rattle.sh_domain.specs.Gains.{Gains, no_gains, named, and_gains, with_gains, job, sure, operator_gains, surely, assigned_in, operands_assigned, part_gains, word_gains, expanded_gains, operands_gains}
use Rattle.sh_domain.specs.Needs.{wanted, covers, parameter_text, needed as needs, name_needed, target_needed, reads_unmet, operands_read, part_unmet, word_unmet, operator_unmet, expanded_unmet, operands_expanded}
use Rattle.sh_domain.specs.Views.{Certificate, Seen, Lose, gaining, without_job, kept, where_known, step}
use Rattle.sh_sound.specs.Holding.{Stands, HoldKnown, Holds, Has, Grows, OneHolds, CopyWell, Expanded}
use Rattle.sh_domain.specs.Inclusions.{Each, parameter_formed, part_formed, word_formed, operator_formed, expression_formed, operands_formed}
use Rattle.sh_sound.proofs.HoldLemmas.{each_left, each_right, each_both, grows_refl, grows_trans, holds_grow, has_nothing, has_grows, has_both, has_first, has_second, holds_with, one_grows, one_stepped, gain_holds}

-- Lists of places

-- nothing in both is nothing in each
pub none_both : {A : Type 0} (xs ys : List A) → xs ++ ys ≡ [] → (xs ≡ []) × (ys ≡ [])
none_both [] ys h = (refl, h)
none_both (x ∷ xs) ys h = cc

pub wanted_met : (b : Bool) (n : ℕ) (code : Code) (t : Text) → wanted b n code t ≡ [] → b ≡ true
unfolding wanted
wanted_met true n code t h = refl
wanted_met false n code t h = cc

-- Names

-- `!` is no name
pub job_no_name : (t : Text) → is_name t ≡ true → t ≡ job → ⊥
unfolding is_first
job_no_name t h e = let k : is_name job ≡ true = subst (λ u. is_name u ≡ true) e h in true≢false (sym k)

-- one name
pub one_name : (n t : Text) → is_one_of (n ∷ []) t ≡ true → n ≡ t
one_name n t h = go (bytes_eq n t) refl h
  where
    go : (b : Bool) → bytes_eq n t ≡ b → (b || false) ≡ true → n ≡ t
    go true e k = (bytes_eq-Decides n t).0 e
    go false e k = cc

pub has_name : (n : Text) (e : Environment) (f : Frame) → is_name n ≡ true → is_some (e.variables n) ≡ true → Has (named (n ∷ [])) e f
has_name n e f i h = record {
  variables = λ t j s. subst (λ u. is_some (e.variables u) ≡ true) (one_name n t s) h;
  job = λ s. absurd (job_no_name n i (one_name n job s));
  functions = λ t j s. cc;
  parameters = omega arith;
}

put_some : (b : Bool) (v : Text) (o : Option Text) → (b ≡ true) ⊎ (is_some o ≡ true) → is_some (if b then Some v else o) ≡ true
put_some true v o h = refl
put_some false v o (inl h) = cc
put_some false v o (inr h) = h

-- an assignment unsets nothing, and sets its name
pub assigned_grows : (e : Environment) (name v : Text) → Grows e (with_variable e name (Some v))
unfolding put_text
assigned_grows e name v = record { variables = λ t i h. put_some (bytes_eq t name) v (e.variables t) (inr h); functions = λ t i h. h; job = λ h. h }

pub assigned_set : (e : Environment) (name v : Text) → is_some ((with_variable e name (Some v)).variables name) ≡ true
unfolding put_text
assigned_set e name v = put_some (bytes_eq name name) v (e.variables name) (inl ((bytes_eq-Decides name name).1 refl))

-- Positional parameters

slice_some : (f : Frame) (n : ℕ) → n < length f → is_some (slice_get f n) ≡ true
slice_some [] n h = absurd (omega arith)
slice_some (x ∷ f) zero h = refl
slice_some (x ∷ f) (suc n) h = slice_some f n (omega arith)

some_slice : (f : Frame) (n : ℕ) → is_some (slice_get f n) ≡ true → n < length f
some_slice [] n h = cc
some_slice (x ∷ f) zero h = omega arith
some_slice (x ∷ f) (suc n) h = let k = some_slice f n h in omega arith

-- a process that is started may lose `!`, and nothing else
copied_holds : (x : Facts) (b : Bool) (e : Environment) (f : Frame) (v : Text → Bool) (g : Text → Bool) (n : ℕ)
    → HoldKnown v g n e f → HoldKnown (kept (job ∷ []) v) (kept [] g) n (copied b e) f
copied_holds x b e f v g n h = record {
  variables = λ t i s. h.variables t i (and_parts (v t) (not (is_one_of (job ∷ []) t)) s).0;
  job = λ s. absurd (true≢false (sym (and_parts (v job) (not (is_one_of (job ∷ []) job)) s).1));
  functions = λ t i s. h.functions t i (and_parts (g t) (not (is_one_of [] t)) s).0;
  parameters = h.parameters;
}

module _ (d : Facts) (c : Certificate) (defined : List Text) where
  pub without_job_holds : (s : Seen) (b : Bool) (e : Environment) (f : Frame) → OneHolds d c s e f → OneHolds d c (without_job s) (copied b e) f
  unfolding Holds step where_known
  without_job_holds s b e f h = one_stepped d c (Lose (record { vars = job ∷ []; functions = [] })) s e (copied b e) f f go h
    where
      go : (y : Facts) → Holds y e f → Holds (step c (Lose (record { vars = job ∷ []; functions = [] })) y) (copied b e) f
      go NotReached k = k
      go (Known v g n) k = copied_holds (Known v g n) b e f v g n k

  module _ (f : Frame) (status : ℕ) where
    abbrev Does : Gains → State → State → Type 0
    Does g s t = Expanded d c defined f g s t

    -- what is true where a word is expanded
    pub record Here (s : Seen) (x : Facts) (e : Environment) : Type 0 where
      pub one : OneHolds d c s e f
      pub facts : Holds x e f

    pub here_grows : (s : Seen) (x : Facts) (e e' : Environment) → Grows e e' → Here s x e → Here s x e'
    here_grows s x e e' g h = record { one = one_grows d c s e e' f g h.one; facts = holds_grow x e e' f g h.facts }

    pub here_gains : (g : Gains) (s : Seen) (x : Facts) (e : Environment) → Has g e f → Here s x e → Here (gaining g s) (with_gains g x) e
    here_gains g s x e h k = record { one = gain_holds d c g s e f h k.one; facts = holds_with g x e f h k.facts }

    -- States

    pub does_nothing : (s : State) → Does no_gains s s
    does_nothing s = record { unset = refl; grows = grows_refl s.environment; functions = refl; copies = λ b l h. h; gains = λ e. has_nothing s.environment f }

    -- an answer was taken, or the process ends, or arithmetic stops the run
    pub does_alike : (s t : State) → t.unset ≡ s.unset → t.environment ≡ s.environment → t.copies ≡ s.copies → Does no_gains s t
    does_alike s t u e k = record {
      unset = u;
      grows = subst (Grows s.environment) (sym e) (grows_refl s.environment);
      functions = ap (λ (v : Environment). v.functions) e;
      copies = λ b l h. subst (Each (CopyWell d c defined f b)) (sym k) h;
      gains = λ l. has_nothing t.environment f;
    }

    pub does_and : {g h : Gains} (s t u : State) → Does g s t → Does h t u → (u.ended ≡ false → t.ended ≡ false) → Does (and_gains g h) s u
    does_and {g = g} {h = h} s t u x y on = record {
      unset = y.unset ∙ x.unset;
      grows = grows_trans s.environment t.environment u.environment x.grows y.grows;
      functions = y.functions ∙ x.functions;
      copies = λ b l k. y.copies b (x.functions ∙ l) (x.copies b l k);
      gains = λ l. has_both g h u.environment f (has_grows g t.environment u.environment f y.grows (x.gains (on l))) (y.gains l);
    }

    pub does_less : {g : Gains} (h : Gains) (s t : State) → ((e : Environment) → Has g e f → Has h e f) → Does g s t → Does h s t
    does_less h s t k x = record { unset = x.unset; grows = x.grows; functions = x.functions; copies = x.copies; gains = λ l. k t.environment (x.gains l) }

    pub does_with : {g : Gains} (h : Gains) (s t : State) → (t.ended ≡ false → Has h t.environment f) → Does g s t → Does h s t
    does_with h s t k x = record { unset = x.unset; grows = x.grows; functions = x.functions; copies = x.copies; gains = k }

    -- the second where the first is passed
    pub does_second : {g h : Gains} (s t u : State) → Does g s t → Does h t u → Does h s u
    does_second s t u x y = record {
      unset = y.unset ∙ x.unset;
      grows = grows_trans s.environment t.environment u.environment x.grows y.grows;
      functions = y.functions ∙ x.functions;
      copies = λ b l k. y.copies b (x.functions ∙ l) (x.copies b l k);
      gains = y.gains;
    }

    -- one after the other, unless the first ends the process
    pub followed_does : {g h : Gains} (s : State) (o : Outcome) (next : State → Outcome)
        → Does g s o.state → (o.state.ended ≡ false → Does h o.state (next o.state).state) → Does (and_gains g h) s (followed o next).state
    unfolding followed
    followed_does {g = g} {h = h} s o next x y = go o.state.ended refl
      where
        go : (b : Bool) → o.state.ended ≡ b → Does (and_gains g h) s (if b then o else gives (o.pieces ++ (next o.state).pieces) (next o.state).state).state
        go true e = does_with (and_gains g h) s o.state (λ l. absurd (true≢false (sym e ∙ l))) x
        go false e = does_and s o.state (next o.state).state x (y e) (λ l. e)

    pub behind_does : {g h : Gains} (s t : State) (next : State → State)
        → Does g s t → (t.ended ≡ false → Does h t (next t)) → Does (and_gains g h) s (behind f status t next)
    unfolding behind
    behind_does {g = g} {h = h} s t next x y = go t.ended refl
      where
        go : (b : Bool) → t.ended ≡ b → Does (and_gains g h) s (if b then t else next t)
        go true e = does_with (and_gains g h) s t (λ l. absurd (true≢false (sym e ∙ l))) x
        go false e = does_and s t (next t) x (y e) (λ l. e)

    pub then_does : {g h : Gains} (s : State) (r : Computed) (next : ℤ → State → Computed)
        → Does g s r.state → (r.state.ended ≡ false → Does h r.state (next r.value r.state).state) → Does (and_gains g h) s (then_computed r next).state
    unfolding then_computed
    then_does {g = g} {h = h} s r next x y = go r.state.ended refl
      where
        go : (b : Bool) → r.state.ended ≡ b → Does (and_gains g h) s (if b then r else next r.value r.state).state
        go true e = does_with (and_gains g h) s r.state (λ l. absurd (true≢false (sym e ∙ l))) x
        go false e = does_and s r.state (next r.value r.state).state x (y e) (λ l. e)

    -- Parameters

    -- one that is covered has a value
    pub covered_value : (x : Facts) (q : p.Parameter) (e : Environment) (g : Given) → parameter_formed q ≡ true → covers x q ≡ true → Holds x e f → is_some (value_of f status q e g) ≡ true
    unfolding covers value_of special_value parameter_formed claims Holds
    covered_value NotReached q e g i k h = absurd h
    covered_value (Known v fs n) (p.Variable name) e g i k h = h.variables name i k
    covered_value (Known v fs n) (p.Positional m) e g i k h =
        let l : m ≤ n = leb-true m n k in let u : n ≤ length f = h.parameters in let z : 0 < m = ltb-true 0 m i in slice_some f (m - 1) (omega arith)
    covered_value (Known v fs n) (p.Special special.Exclamation) e g i k h = rw (h.job k) refl
    covered_value (Known v fs n) (p.Special special.At) e g i k h = refl
    covered_value (Known v fs n) (p.Special special.Asterisk) e g i k h = refl
    covered_value (Known v fs n) (p.Special special.NumberSign) e g i k h = refl
    covered_value (Known v fs n) (p.Special special.QuestionMark) e g i k h = refl
    covered_value (Known v fs n) (p.Special special.Hyphen) e g i k h = refl
    covered_value (Known v fs n) (p.Special special.Dollar) e g i k h = refl
    covered_value (Known v fs n) (p.Special special.Zero) e g i k h = refl

    -- and one that has a value is sure
    pub value_sure : (q : p.Parameter) (e : Environment) (g : Given) → parameter_formed q ≡ true → is_some (value_of f status q e g) ≡ true → Has (sure q) e f
    unfolding sure value_of special_value parameter_formed
    value_sure (p.Variable name) e g i h = has_name name e f i h
    value_sure (p.Positional m) e g i h =
        let l : m - 1 < length f = some_slice f (m - 1) h in
        record { variables = λ t j s. cc; job = λ s. cc; functions = λ t j s. cc; parameters = omega arith }
    value_sure (p.Special special.Exclamation) e g i h = go e.job refl h
      where
        go : (b : Bool) → e.job ≡ b → is_some (if b then Some (digits g.number) else None) ≡ true → Has (named (job ∷ [])) e f
        go true d k = record { variables = λ t j s. absurd (job_no_name t j (sym (one_name job t s))); job = λ s. d; functions = λ t j s. cc; parameters = omega arith }
        go false d k = cc
    value_sure (p.Special special.At) e g i h = has_nothing e f
    value_sure (p.Special special.Asterisk) e g i h = has_nothing e f
    value_sure (p.Special special.NumberSign) e g i h = has_nothing e f
    value_sure (p.Special special.QuestionMark) e g i h = has_nothing e f
    value_sure (p.Special special.Hyphen) e g i h = has_nothing e f
    value_sure (p.Special special.Dollar) e g i h = has_nothing e f
    value_sure (p.Special special.Zero) e g i h = has_nothing e f

    -- a value that is there is no event
    pub needed_does : (k : Context) (v : Option Text) (s : State) → is_some v ≡ true → Does no_gains s (needed f status k v s).state
    unfolding needed
    needed_does k None s h = cc
    needed_does k (Some t) s h = does_nothing s

    pieces_do : (k : Context) (q : p.Parameter) (v : Option Text) (s : State) → is_some v ≡ true → Does no_gains s (value_pieces f status k q v s).state
    unfolding value_pieces
    pieces_do k (p.Special special.At) v s h = does_nothing s
    pieces_do k (p.Special special.Asterisk) v s h = does_nothing s
    pieces_do k (p.Special special.NumberSign) v s h = needed_does k v s h
    pieces_do k (p.Special special.QuestionMark) v s h = needed_does k v s h
    pieces_do k (p.Special special.Hyphen) v s h = needed_does k v s h
    pieces_do k (p.Special special.Dollar) v s h = needed_does k v s h
    pieces_do k (p.Special special.Exclamation) v s h = needed_does k v s h
    pieces_do k (p.Special special.Zero) v s h = needed_does k v s h
    pieces_do k (p.Variable name) v s h = needed_does k v s h
    pieces_do k (p.Positional n) v s h = needed_does k v s h

    length_does : (k : Context) (q : p.Parameter) (g : Given) (v : Option Text) (s : State) → is_some v ≡ true → Does no_gains s (expand_operator f status k q p.Length g v s).state
    unfolding expand_operator
    length_does k q g None s h = cc
    length_does k q g (Some t) s h = does_nothing s

    -- `=`: a variable is set, and for another parameter the process ends
    default_does : (k : Context) (q : p.Parameter) (t : Text) (b : Bool) (s : State) → parameter_formed q ≡ true → Does (sure q) s (default_assigned f status k q t b s).state
    unfolding default_assigned sure parameter_formed
    default_does k (p.Variable name) t false s i = record {
      unset = refl;
      grows = assigned_grows s.environment name t;
      functions = refl;
      copies = λ b l h. h;
      gains = λ l. has_name name (with_variable s.environment name (Some t)) f i (assigned_set s.environment name t);
    }
    default_does k (p.Variable name) t true s i = does_with (sure (p.Variable name)) s (ending s) (λ l. absurd (true≢false l)) (does_alike s (ending s) refl refl refl)
    default_does k (p.Positional n) t b s i = does_with (sure (p.Positional n)) s (ending s) (λ l. absurd (true≢false l)) (does_alike s (ending s) refl refl refl)
    default_does k (p.Special x) t b s i = does_with (sure (p.Special x)) s (ending s) (λ l. absurd (true≢false l)) (does_alike s (ending s) refl refl refl)

    -- Arithmetic

    read_does : (v : Option Text) (s : State) → is_some v ≡ true → Does no_gains s (read_name v s)
    unfolding read_name
    read_does None s h = cc
    read_does (Some t) s h = go (is_computed t)
      where
        go : (b : Bool) → Does no_gains s (if b then s else stray s)
        go true = does_nothing s
        go false = does_alike s (stray s) refl refl refl

    operated_does : (s : State) → Does no_gains s (operated s).state
    unfolding operated
    operated_does s = go (s.given 0).fails
      where
        go : (b : Bool) → Does no_gains s (if b then computes (s.given 0).integer (ending (taken s)) else answered s).state
        go true = does_alike s (ending (taken s)) refl refl refl
        go false = does_alike s (taken s) refl refl refl

    -- a name that is needed and met is set
    name_set : (x : Facts) (code : Code) (n : ℕ) (name : Text) (e : Environment) → is_name name ≡ true → name_needed x code n name ≡ [] → Holds x e f → is_some (e.variables name) ≡ true
    unfolding name_needed claims Holds
    name_set NotReached code n name e i m h = absurd h
    name_set (Known v fs k) code n name e i m h = h.variables name i (wanted_met (v name) n code name m)

    where_does : (b : Bool) (x : Facts) (operator : Option Binary) (n : ℕ) (name : Text) (s : State) → is_name name ≡ true → target_needed x operator n name ≡ [] → Holds x s.environment f
        → Does no_gains s (read_where b operator name s)
    unfolding read_where target_needed
    where_does b x None n name s i m h = does_nothing s
    where_does true x (Some operator) n name s i m h = read_does (s.environment.variables name) s (name_set x U3 n name s.environment i m h)
    where_does false x (Some operator) n name s i m h = does_nothing s

    stored_does : (name : Text) (r : Computed) → is_name name ≡ true → Does (named (name ∷ [])) r.state (stored name r).state
    stored_does name r i =
        let v = integer_text r.value in
        record {
          unset = refl;
          grows = assigned_grows r.state.environment name v;
          functions = refl;
          copies = λ b l h. h;
          gains = λ l. has_name name (with_variable r.state.environment name (Some v)) f i (assigned_set r.state.environment name v);
        }

    -- first what gains nothing
    next_does : {h : Gains} (s : State) (o : Outcome) (next : State → Outcome)
        → Does no_gains s o.state → (o.state.ended ≡ false → Does h o.state (next o.state).state) → Does h s (followed o next).state
    next_does {h = h} s o next x y = does_less h s (followed o next).state (λ e. has_second no_gains h e f) (followed_does s o next x y)

    sure_does : (k : Context) (q : p.Parameter) (v : Option Text) (s : State) → is_some v ≡ true → Has (sure q) s.environment f → Does (sure q) s (needed f status k v s).state
    unfolding needed
    sure_does k q None s h i = cc
    sure_does k q (Some t) s h i = does_with (sure q) s s (λ l. i) (does_nothing s)

    constant_does : {g : Gains} (s : State) (o : Outcome) → Does g s o.state → Does g s (constant_in f status o)
    unfolding constant_in
    constant_does {g = g} s o x = go (o.state.ended || is_operand (pieces_text o.pieces))
      where
        go : (b : Bool) → Does g s (if b then o.state else stray o.state)
        go true = x
        go false = record { unset = x.unset; grows = x.grows; functions = x.functions; copies = x.copies; gains = x.gains }

    branch_does : {g : Gains} (b : Bool) (r q : Computed) (s : State) → Does g s r.state → Does g s q.state → Does g s (if b then r else q).state
    branch_does true r q s x y = x
    branch_does false r q s x y = y

    -- an operand that is skipped, or computed
    operand_does : (operator : Binary) (nought : Bool) (xs ys : List Text) (s : State) (over : Computed) (r : Computed) (next : ℤ → State → Computed)
        → Does (named ys) s over.state → Does (named xs) s r.state → (r.state.ended ≡ false → Does (named ys) r.state (next r.value r.state).state)
        → Does (named (surely operator xs ++ ys)) s (if skips operator nought then over else then_computed r next).state
    unfolding surely skips
    operand_does binary.And nought xs ys s over r next a b k =
        branch_does nought over (then_computed r next) s a (does_less (named ys) s _ (λ d. has_second (named xs) (named ys) d f) (then_does s r next b k))
    operand_does binary.Or nought xs ys s over r next a b k =
        branch_does (not nought) over (then_computed r next) s a (does_less (named ys) s _ (λ d. has_second (named xs) (named ys) d f) (then_does s r next b k))
    operand_does operator nought xs ys s over r next a b k = then_does s r next b k

    -- what is computed, once the expansions are done
    mutual
      unfolding evaluate operated_assignment reads_unmet assigned_in expression_formed surely

      pub value_does : (e : p.Expression) (s : State) (x : Facts) → Holds x s.environment f → reads_unmet x e ≡ [] → expression_formed e ≡ true
          → Does (named (assigned_in e)) s (evaluate e s).state
      value_does (p.Constant t) s x h m i = does_alike s (taken s) refl refl refl
      value_does (p.Name n name) s x h m i =
          let first : Does no_gains s (read_name (s.environment.variables name) s) = read_does (s.environment.variables name) s (name_set x U3 n name s.environment i m h) in
          does_second s (read_name (s.environment.variables name) s) _ first (does_alike _ (taken (read_name (s.environment.variables name) s)) refl refl refl)
      value_does (p.Expanded y) s x h m i = does_alike s (taken s) refl refl refl
      value_does (p.Parenthesis e) s x h m i = value_does e s x h m i
      value_does (p.Signed operator e) s x h m i =
          does_less (named (assigned_in e)) s _ (λ d. has_first (named (assigned_in e)) no_gains d f)
          (then_does s (evaluate e s) (λ n t. operated t) (value_does e s x h m i) (λ l. operated_does (evaluate e s).state))
      value_does (p.Chain e rest) s x h m i =
          let met = none_both (reads_unmet x e) (operands_read x rest) m in
          let formed = and_parts (expression_formed e) (operands_formed rest) i in
          let first : Does (named (assigned_in e)) s (evaluate e s).state = value_does e s x h met.0 formed.0 in
          then_does s (evaluate e s) (evaluate_rest rest) first
          (λ l. rest_does rest (evaluate e s).value (evaluate e s).state x (holds_grow x s.environment (evaluate e s).state.environment f first.grows h) met.1 formed.1)
      value_does (p.Choice e then_one else_one) s x h m i =
          let met = none_both (reads_unmet x e ++ reads_unmet x then_one) (reads_unmet x else_one) m in
          let two = none_both (reads_unmet x e) (reads_unmet x then_one) met.0 in
          let formed = and_parts (expression_formed e && expression_formed then_one) (expression_formed else_one) i in
          let both = and_parts (expression_formed e) (expression_formed then_one) formed.0 in
          let first : Does (named (assigned_in e)) s (evaluate e s).state = value_does e s x h two.0 both.0 in
          let later : Holds x (evaluate e s).state.environment f = holds_grow x s.environment (evaluate e s).state.environment f first.grows h in
          does_less (named (assigned_in e)) s _ (λ d. has_first (named (assigned_in e)) no_gains d f)
          (then_does s (evaluate e s) (λ n t. if is_zero n then evaluate else_one t else evaluate then_one t) first
          (λ l. branch_does (is_zero (evaluate e s).value) (evaluate else_one (evaluate e s).state) (evaluate then_one (evaluate e s).state) (evaluate e s).state
          (does_less no_gains _ _ (λ d k. has_nothing d f) (value_does else_one (evaluate e s).state x later met.1 formed.1))
          (does_less no_gains _ _ (λ d k. has_nothing d f) (value_does then_one (evaluate e s).state x later two.1 both.1))))
      value_does (p.Assigned n name operator e) s x h m i =
          let met = none_both (target_needed x operator n name) (reads_unmet x e) m in
          let formed = and_parts (is_name name) (expression_formed e) i in
          let b = (s.given 0).reads_first in
          let t = read_where b operator name (taken s) in
          let first : Does no_gains (taken s) t = where_does b x operator n name (taken s) formed.0 met.0 h in
          let value : Does (named (assigned_in e)) t (evaluate e t).state =
          value_does e t x (holds_grow x s.environment t.environment f first.grows h) met.1 formed.1 in
          let behind_value : Holds x (evaluate e t).state.environment f = holds_grow x s.environment (evaluate e t).state.environment f (grows_trans _ _ _ first.grows value.grows) h in
          let last : (u : State) → Holds x u.environment f → Does (named (name ∷ [])) u
          (then_computed (operated (read_where (not b) operator name u)) (λ k v. stored name (computes k v))).state =
          λ u g.
          let again : Does no_gains u (read_where (not b) operator name u) = where_does (not b) x operator n name u formed.0 met.0 g in
          does_second u (read_where (not b) operator name u) _ again
          (does_less (named (name ∷ [])) _ _ (λ d. has_second no_gains (named (name ∷ [])) d f)
          (then_does (read_where (not b) operator name u) (operated (read_where (not b) operator name u)) (λ k v. stored name (computes k v)) (operated_does (read_where (not b) operator name u))
          (λ l. stored_does name (operated (read_where (not b) operator name u)) formed.0))) in
          does_second s (taken s) _ (does_alike s (taken s) refl refl refl)
          (does_second (taken s) t _ first
          (does_less (named (name ∷ assigned_in e)) t _ (λ d k. has_both (named (name ∷ [])) (named (assigned_in e)) d f (has_second (named (assigned_in e)) (named (name ∷ [])) d f k) (has_first (named (assigned_in e)) (named (name ∷ [])) d f k))
          (then_does t (evaluate e t) (λ k u. then_computed (operated (read_where (not b) operator name u)) (λ k v. stored name (computes k v))) value
          (λ l. last (evaluate e t).state behind_value))))

      rest_does : (rest : p.Operands) (v : ℤ) (s : State) (x : Facts) → Holds x s.environment f → operands_read x rest ≡ [] → operands_formed rest ≡ true
          → Does (named (operands_assigned rest)) s (evaluate_rest rest v s).state
      rest_does p.no_operands v s x h m i = does_nothing s
      rest_does (p.more_operands operator e rest) v s x h m i =
          let met = none_both (reads_unmet x e) (operands_read x rest) m in
          let formed = and_parts (expression_formed e) (operands_formed rest) i in
          let first : Does (named (assigned_in e)) s (evaluate e s).state = value_does e s x h met.0 formed.0 in
          let r = then_computed (evaluate e s) (λ m t. operated t) in
          let done : Does (named (assigned_in e)) s r.state =
          does_less (named (assigned_in e)) s r.state (λ d. has_first (named (assigned_in e)) no_gains d f)
          (then_does s (evaluate e s) (λ m t. operated t) first (λ l. operated_does (evaluate e s).state)) in
          operand_does operator (is_zero v) (assigned_in e) (operands_assigned rest) s (evaluate_rest rest v s) r (evaluate_rest rest)
          (rest_does rest v s x h met.1 formed.1) done
          (λ l. rest_does rest r.value r.state x (holds_grow x s.environment r.state.environment f done.grows h) met.1 formed.1)

    has_grouped : (g h k : Gains) (e : Environment) → Has (and_gains (and_gains g h) k) e f → Has (and_gains g (and_gains h k)) e f
    has_grouped g h k e x =
        let two = has_first (and_gains g h) k e f x in
        has_both g (and_gains h k) e f (has_first g h e f two) (has_both h k e f (has_second g h e f two) (has_second (and_gains g h) k e f x))

    home_named : is_name (codes "HOME") ≡ true
    unfolding is_first
    home_named = refl

    -- what an operator needs does not depend on its place
    use_alike : (y : Facts) (offset : ℕ) (q : p.Parameter) (act : Action) (colon : Bool) (w : p.Word) → operator_unmet y offset q (p.Use act colon w) ≡ [] → operator_unmet y 0 q (p.Use act colon w) ≡ []
    unfolding operator_unmet
    use_alike y offset q action.Default colon w m = m
    use_alike y offset q action.Assign colon w m = m
    use_alike y offset q action.Fault colon w m = m
    use_alike y offset q action.Alternative colon w m = m

    -- the words after `-`, `=`, `?` and `+`
    used_does : (k : Context) (q : p.Parameter) (g : Given) (act : Action) (colon : Bool) (w : p.Word) (v : Option Text) (s : State) (n : Seen) (y : Facts)
        → parameter_formed q ≡ true → (is_some v ≡ true → Has (sure q) s.environment f) → Here n y s.environment
        → Each (Stands d c defined) (word_entered (operand_seen act q n) w) → operator_unmet y 0 q (p.Use act colon w) ≡ []
        → ((j : Context) (m : Seen) (z : Facts) → Here m z s.environment → Each (Stands d c defined) (word_entered m w) → word_unmet z w ≡ [] → Does (word_gains w) s (expand f status j w s).state)
        → (b : Bool) → (b ≡ true → is_some v ≡ true)
        → Does (operator_gains q (p.Use act colon w)) s (used f status k q g act v b (expand f status (in_default k) w) (expand f status in_one w) s).state
    unfolding used operator_gains operator_unmet operand_seen
    used_does k q g action.Default colon w v s n y i has h r m word true t = needed_does k v s (t refl)
    used_does k q g action.Default colon w v s n y i has h r m word false t = does_less no_gains s _ (λ e x. has_nothing e f) (word (in_default k) n y h r m)
    used_does k q g action.Assign colon w v s n y i has h r m word true t = sure_does k q v s (t refl) (has (t refl))
    used_does k q g action.Assign colon w v s n y i has h r m word false t =
        let o = expand f status in_one w s in
        does_less (sure q) s _ (λ e. has_second (word_gains w) (sure q) e f)
        (followed_does s (gives [] o.state) (default_assigned f status k q (pieces_text o.pieces) g.fails) (word in_one n y h r m)
        (λ l. default_does k q (pieces_text o.pieces) g.fails o.state i))
    used_does k q g action.Fault colon w v s n y i has h r m word true t = sure_does k q v s (t refl) (has (t refl))
    used_does k q g action.Fault colon w v s n y i has h r m word false t =
        let o = expand f status in_one w s in
        does_with (sure q) s (ending o.state) (λ l. absurd (true≢false l)) (does_second s o.state (ending o.state) (word in_one n y h r m) (does_alike o.state (ending o.state) refl refl refl))
    used_does k q g action.Alternative colon w v s n y i has h r m word true t =
        does_less no_gains s _ (λ e x. has_nothing e f) (word (in_default k) (gaining (sure q) n) (with_gains (sure q) y) (here_gains (sure q) n y s.environment (has (t refl)) h) r m)
    used_does k q g action.Alternative colon w v s n y i has h r m word false t = does_nothing s

    mutual
      unfolding expand_part expand_operator tilde_pieces computed_pieces part_unmet operator_unmet part_gains operator_gains part_entered operator_entered part_formed operator_formed Each name_needed

      pub part_does : (k : Context) (x : p.Part) (s : State) (n : Seen) (y : Facts) → Here n y s.environment
          → Each (Stands d c defined) (part_entered n x) → part_unmet y x ≡ [] → part_formed x ≡ true → Does (part_gains x) s (expand_part f status k x s).state
      part_does k (p.Plain t) s n y h r m i = does_nothing s
      part_does k (p.Escaped t) s n y h r m i = does_nothing s
      part_does k (p.Single style t) s n y h r m i = does_nothing s
      part_does k (p.Double w) s n y h r m i =
          next_does s (gives (quote_pieces (k.split && has_every w)) s) (expand f status (in_quotes k) w) (does_nothing s) (λ l. word_does (in_quotes k) w s n y h r m i)
      part_does k (p.Expansion offset q operator) s n y h r m i =
          let formed = and_parts (parameter_formed q) (operator_formed operator) i in
          does_second s (taken s) _ (does_alike s (taken s) refl refl refl)
          (operator_does k offset q operator (s.given 0) (taken s) n y h r m formed.0 formed.1)
      part_does k (p.Arithmetic offset e) s n y h r m i =
          let met = none_both (expanded_unmet y e) (reads_unmet (with_gains (expanded_gains e) y) e) m in
          let t = expand_inside f status e s in
          let first : Does (expanded_gains e) s t = inside_does e s n y h r met.0 i in
          followed_does s (gives [] t) (λ u. computed_pieces f status k (evaluate e u)) first
          (λ l. value_does e t (with_gains (expanded_gains e) y) (holds_with (expanded_gains e) y t.environment f (first.gains l) (holds_grow y s.environment t.environment f first.grows h.facts)) met.1 i)
      part_does k (p.Substitution offset list) s n y h r m i = record {
        unset = refl;
        grows = grows_refl s.environment;
        functions = refl;
        copies = λ b l a.
            each_both (CopyWell d c defined f b) s.copies _ a
            (record { functions = l; seen = without_job n; holds = without_job_holds n (s.given 0).carries s.environment f h.one; rule = F11; rules = r }, tt);
        gains = λ l. has_nothing s.environment f;
      }
      part_does k (p.Tilde offset []) s n y h r m i =
          does_second s (taken s) _ (does_alike s (taken s) refl refl refl)
          (needed_does (in_quotes in_one) (s.environment.variables (codes "HOME")) (taken s) (name_set y U2 offset (codes "HOME") s.environment home_named m h.facts))
      part_does k (p.Tilde offset (z ∷ zs)) s n y h r m i = does_alike s (taken s) refl refl refl
      part_does k p.Joined s n y h r m i = does_nothing s

      pub word_does : (k : Context) (w : p.Word) (s : State) (n : Seen) (y : Facts) → Here n y s.environment
          → Each (Stands d c defined) (word_entered n w) → word_unmet y w ≡ [] → word_formed w ≡ true → Does (word_gains w) s (expand f status k w s).state
      word_does k p.no_parts s n y h r m i = does_nothing s
      word_does k (p.more_parts x w) s n y h r m i =
          let met = none_both (part_unmet y x) (word_unmet (with_gains (part_gains x) y) w) m in
          let formed = and_parts (part_formed x) (word_formed w) i in
          let o = expand_part f status k x s in
          let first : Does (part_gains x) s o.state = part_does k x s n y h (each_left _ (part_entered n x) _ r) met.0 formed.0 in
          followed_does s o (expand f status k w) first
          (λ l. word_does k w o.state (gaining (part_gains x) n) (with_gains (part_gains x) y)
          (here_gains (part_gains x) n y o.state.environment (first.gains l) (here_grows n y s.environment o.state.environment first.grows h))
          (each_right _ (part_entered n x) _ r) met.1 formed.1)

      operator_does : (k : Context) (offset : ℕ) (q : p.Parameter) (operator : p.Operator) (g : Given) (s : State) (n : Seen) (y : Facts) → Here n y s.environment
          → Each (Stands d c defined) (operator_entered n q operator) → operator_unmet y offset q operator ≡ [] → parameter_formed q ≡ true → operator_formed operator ≡ true
          → Does (operator_gains q operator) s (expand_operator f status k q operator g (value_of f status q s.environment g) s).state
      operator_does k offset q p.Value g s n y h r m i j =
          pieces_do k q (value_of f status q s.environment g) s (covered_value y q s.environment g i (wanted_met (covers y q) offset U1 (parameter_text q) m) h.facts)
      operator_does k offset q p.Length g s n y h r m i j =
          length_does k q g (value_of f status q s.environment g) s (covered_value y q s.environment g i (wanted_met (covers y q) offset U1 (parameter_text q) m) h.facts)
      operator_does k offset q (p.Remove removal w) g s n y h r m i j =
          let met = none_both (needs y offset q) (word_unmet y w) m in
          let v = value_of f status q s.environment g in
          let t = (needed f status k v s).state in
          let first : Does no_gains s t = needed_does k v s (covered_value y q s.environment g i (wanted_met (covers y q) offset U1 (parameter_text q) met.0) h.facts) in
          next_does s (gives [] t) _ first
          (λ l. does_less no_gains t _ (λ e x. has_nothing e f)
          (followed_does t (gives [] (expand f status in_one w t).state) _ (word_does in_one w t n y (here_grows n y s.environment t.environment first.grows h) r met.1 j)
          (λ l. does_nothing (expand f status in_one w t).state)))
      operator_does k offset q (p.Use act colon w) g s n y h r m i j =
          let v = value_of f status q s.environment g in
          used_does k q g act colon w v s n y i (λ a. value_sure q s.environment g i a) h r (use_alike y offset q act colon w m)
          (λ e z u h r m. word_does e w s z u h r m j) (is_some v && not (colon && is_empty_value v)) (λ b. (and_parts (is_some v) _ b).0)

      inside_does : (e : p.Expression) (s : State) (n : Seen) (y : Facts) → Here n y s.environment
          → Each (Stands d c defined) (expression_entered n e) → expanded_unmet y e ≡ [] → expression_formed e ≡ true → Does (expanded_gains e) s (expand_inside f status e s)
      inside_does (p.Constant t) s n y h r m i = does_nothing s
      inside_does (p.Name offset name) s n y h r m i = does_nothing s
      inside_does (p.Expanded x) s n y h r m i = constant_does s (expand_part f status (in_quotes in_one) x s) (part_does (in_quotes in_one) x s n y h r m i)
      inside_does (p.Parenthesis e) s n y h r m i = inside_does e s n y h r m i
      inside_does (p.Signed operator e) s n y h r m i = inside_does e s n y h r m i
      inside_does (p.Chain e rest) s n y h r m i =
          let met = none_both (expanded_unmet y e) (operands_expanded (with_gains (expanded_gains e) y) rest) m in
          let formed = and_parts (expression_formed e) (operands_formed rest) i in
          let t = expand_inside f status e s in
          let first : Does (expanded_gains e) s t = inside_does e s n y h (each_left _ (expression_entered n e) _ r) met.0 formed.0 in
          behind_does s t (expand_operands f status rest) first
          (λ l. operands_do rest t (gaining (expanded_gains e) n) (with_gains (expanded_gains e) y)
          (here_gains (expanded_gains e) n y t.environment (first.gains l) (here_grows n y s.environment t.environment first.grows h))
          (each_right _ (expression_entered n e) _ r) met.1 formed.1)
      inside_does (p.Choice e then_one else_one) s n y h r m i =
          let y1 = with_gains (expanded_gains e) y in
          let n1 = gaining (expanded_gains e) n in
          let met = none_both (expanded_unmet y e ++ expanded_unmet y1 then_one) (expanded_unmet (with_gains (expanded_gains then_one) y1) else_one) m in
          let two = none_both (expanded_unmet y e) (expanded_unmet y1 then_one) met.0 in
          let formed = and_parts (expression_formed e && expression_formed then_one) (expression_formed else_one) i in
          let both = and_parts (expression_formed e) (expression_formed then_one) formed.0 in
          let rs = each_left _ (expression_entered n e ++ expression_entered n1 then_one) _ r in
          let t = expand_inside f status e s in
          let first : Does (expanded_gains e) s t = inside_does e s n y h (each_left _ (expression_entered n e) _ rs) two.0 both.0 in
          let here_t : t.ended ≡ false → Here n1 y1 t.environment =
          λ l. here_gains (expanded_gains e) n y t.environment (first.gains l) (here_grows n y s.environment t.environment first.grows h) in
          let u = behind f status t (expand_inside f status then_one) in
          let second : Does (and_gains (expanded_gains e) (expanded_gains then_one)) s u =
          behind_does s t (expand_inside f status then_one) first
          (λ l. inside_does then_one t n1 y1 (here_t l) (each_right _ (expression_entered n e) _ rs) two.1 both.1) in
          let here_u : u.ended ≡ false → Here (gaining (expanded_gains then_one) n1) (with_gains (expanded_gains then_one) y1) u.environment =
          λ l.
          let all = second.gains l in
          here_gains (expanded_gains then_one) n1 y1 u.environment (has_second (expanded_gains e) (expanded_gains then_one) u.environment f all)
          (here_gains (expanded_gains e) n y u.environment (has_first (expanded_gains e) (expanded_gains then_one) u.environment f all)
          (here_grows n y s.environment u.environment second.grows h)) in
          does_less (and_gains (expanded_gains e) (and_gains (expanded_gains then_one) (expanded_gains else_one))) s _
          (λ v k. has_grouped (expanded_gains e) (expanded_gains then_one) (expanded_gains else_one) v k)
          (behind_does s u (expand_inside f status else_one) second
          (λ l. inside_does else_one u (gaining (expanded_gains then_one) n1) (with_gains (expanded_gains then_one) y1) (here_u l)
          (each_right _ (expression_entered n e ++ expression_entered n1 then_one) _ r) met.1 formed.1))
      inside_does (p.Assigned offset name operator e) s n y h r m i = inside_does e s n y h r m (and_parts (is_name name) (expression_formed e) i).1

      operands_do : (rest : p.Operands) (s : State) (n : Seen) (y : Facts) → Here n y s.environment
          → Each (Stands d c defined) (operands_entered n rest) → operands_expanded y rest ≡ [] → operands_formed rest ≡ true → Does (operands_gains rest) s (expand_operands f status rest s)
      operands_do p.no_operands s n y h r m i = does_nothing s
      operands_do (p.more_operands operator e rest) s n y h r m i =
          let met = none_both (expanded_unmet y e) (operands_expanded (with_gains (expanded_gains e) y) rest) m in
          let formed = and_parts (expression_formed e) (operands_formed rest) i in
          let t = expand_inside f status e s in
          let first : Does (expanded_gains e) s t = inside_does e s n y h (each_left _ (expression_entered n e) _ r) met.0 formed.0 in
          behind_does s t (expand_operands f status rest) first
          (λ l. operands_do rest t (gaining (expanded_gains e) n) (with_gains (expanded_gains e) y)
          (here_gains (expanded_gains e) n y t.environment (first.gains l) (here_grows n y s.environment t.environment first.grows h))
          (each_right _ (expression_entered n e) _ r) met.1 formed.1)
