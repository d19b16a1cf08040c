-- What a walk over words for their counts adds, and what it leaves.
use Rattle.std.proofs.Common.{◌≡◌, ℕ, ◌≤◌, max, Bool, false, true≢false, List, [], ◌∷◌, ◌++◌, append_assoc, Option, sym, ap, ◌∙◌, subst, arith}
use Rattle.sh_tree.specs.declared.tree.Action.{Action}
use Rattle.sh_tree.specs.declared.tree.Action.TheVariants as action
use Rattle.sh_tree.specs.declared.tree.Binary.{Binary}
use Rattle.sh_tree.specs.declared.tree.Element.{Element}
use Rattle.sh_tree.specs.declared.tree.Expr.{Expr}
use Rattle.sh_tree.specs.declared.tree.ParameterOperator.{ParameterOperator}
use Rattle.sh_tree.specs.declared.tree.Removal.{Removal}
use Rattle.sh_tree.specs.declared.tree.Span.{Span}
use Rattle.sh_tree.specs.declared.tree.Special.{Special}
use Rattle.sh_tree.specs.declared.tree.Special.TheVariants as special
use Rattle.sh_tree.specs.declared.tree.Subject.{Subject}
use Rattle.sh_tree.specs.declared.tree.Subject.TheVariants as subject
use Rattle.sh_tree.specs.declared.tree.Unary.{Unary}
use Rattle.sh_tree.specs.declared.tree.Part.{Part}
use Rattle.sh_tree.specs.declared.tree.Target.{Target}
use Rattle.sh_tree.specs.Lists.{element_from, elements_from, operands_from, parts_from}
use Rattle.sh_tree.specs.standard.language.Words.{is_alternative}
use Rattle.sh_tree.specs.standard.program.Syntax as p
use Rattle.sh_tree.specs.standard.program.Syntax.{Text}
use Rattle.sh_tree.specs.standard.program.Trees as trees
use Rattle.sh_tree.specs.standard.program.Words.{assignments_in, operands_in, redirects_in}
use Rattle.sh_domain.specs.declared.rule.FlowRule.{FlowRule}
use Rattle.sh_domain.specs.declared.rule.FlowRule.TheVariants.{F11}
use Rattle.sh_domain.specs.Entries as e
use Rattle.sh_domain.specs.Entries.{Around, Entered}
use Rattle.sh_domain.specs.Gains.{Gains, and_gains, expanded_gains, no_gains, operands_gains, operator_gains, part_gains, redirect_gains, redirects_gains, sure, word_gains, words_gains}
use Rattle.sh_domain.specs.Rules as r
use Rattle.sh_domain.specs.Table.{behind_words, values_gains}
use Rattle.sh_domain.specs.Views as views
use Rattle.sh_domain.specs.Views.{Before, Seen, gaining}
use Rattle.sh_counts.specs.declared.equations.Equations.{Equations}
use Rattle.sh_tally.specs.declared.bounds.Tally.{Tally}
use Rattle.sh_tally.specs.declared.views.Views.{Views}
use Rattle.sh_tally.specs.Views.{Raised, See}
use Rattle.sh_tally.specs.Walks.{AddsCommand, AddsFrom, AddsSimple, ElementsAt, HasTexts, IsBehind, IsPart, Keeps, Passes, PassesValues, PassesWords, Sight, names, settled_gains}
use Rattle.sh_tally.proofs.ViewLemmas.{raised_less, raised_none, raised_see, raised_then, see_started, weaker_see}
use Rattle.sh_tally.proofs.WalkLemmas.{first_part, last_part}

-- What an expansion sets

action_args : (x : p.Parameter) (n : ℕ) → (sure x).args ≤ n → (a : Action) (colon : Bool) (w : p.Word) → (operator_gains x (p.Use a colon w)).args ≤ n
unfolding operator_gains
action_args x n few action.Default colon w = omega arith
action_args x n few action.Assign colon w = few
action_args x n few action.Fault colon w = few
action_args x n few action.Alternative colon w = omega arith

special_args : (x : Special) → (sure (p.Special x)).args ≤ 0
unfolding sure
special_args special.At = omega arith
special_args special.Asterisk = omega arith
special_args special.NumberSign = omega arith
special_args special.QuestionMark = omega arith
special_args special.Hyphen = omega arith
special_args special.Dollar = omega arith
special_args special.Exclamation = omega arith
special_args special.Zero = omega arith

pub name_set : (x : Subject) (sp : Span) (known : Views) → x ≡ subject.Name sp → (b : Text) → Raised (sure (trees.parameter_of b x)).args known known
unfolding trees.parameter_of sure
name_set x sp known is b = subst (λ z. Raised (sure (trees.parameter_of b z)).args known known) (sym is) (raised_none known)

pub special_set : (x : Subject) (c : Special) (sp : Span) (known : Views) → x ≡ subject.Special c sp → (b : Text) → Raised (sure (trees.parameter_of b x)).args known known
unfolding trees.parameter_of
special_set x c sp known is b =
    subst (λ z. Raised (sure (trees.parameter_of b z)).args known known) (sym is) (raised_less 0 (sure (p.Special c)).args known known (special_args c) (raised_none known))

pub positional_set : (x : Subject) (n : ℕ) (sp : Span) (known left : Views) → x ≡ subject.Positional n sp → Raised n known left → (b : Text) → Raised (sure (trees.parameter_of b x)).args known left
unfolding trees.parameter_of sure
positional_set x n sp known left is h b = subst (λ z. Raised (sure (trees.parameter_of b z)).args known left) (sym is) h

pub set_used : (x : p.Parameter) (a : Action) (known left : Views) → Raised (sure x).args known left → (colon : Bool) (w : p.Word) → Raised (operator_gains x (p.Use a colon w)).args known left
set_used x a known left h colon w = raised_less (sure x).args (operator_gains x (p.Use a colon w)).args known left (action_args x (sure x).args (omega arith) a colon w) h

pub none_set : (x : Subject) (a : Action) (known : Views) → ((y : p.Parameter) (colon : Bool) (w : p.Word) → operator_gains y (p.Use a colon w) ≡ no_gains) → (b : Text) (colon : Bool) (w : p.Word)
    → Raised (operator_gains (trees.parameter_of b x) (p.Use a colon w)).args known known
none_set x a known none b colon w = subst (λ (g : Gains). Raised g.args known known) (sym (none (trees.parameter_of b x) colon w)) (raised_none known)

-- What is known in the word after an operator

pub seen_set : (functions : List Text) (a : Action) (y : p.Parameter) (q : Seen) (known left : Views) → Raised (sure y).args known left → See functions q known → See functions (e.operand_seen a y q) left
unfolding e.operand_seen
seen_set functions action.Default y q known left h sees = weaker_see functions q (sure y).args known left h sees
seen_set functions action.Assign y q known left h sees = weaker_see functions q (sure y).args known left h sees
seen_set functions action.Fault y q known left h sees = weaker_see functions q (sure y).args known left h sees
seen_set functions action.Alternative y q known left h sees = raised_see functions q (sure y) known left h sees

pub seen_kept : (functions : List Text) (a : Action) → is_alternative a ≡ false → (y : p.Parameter) (q : Seen) (known : Views) → See functions q known → See functions (e.operand_seen a y q) known
unfolding e.operand_seen
seen_kept functions action.Default is y q known sees = sees
seen_kept functions action.Assign is y q known sees = sees
seen_kept functions action.Fault is y q known sees = sees
seen_kept functions action.Alternative is y q known sees = absurd (true≢false is)

module _ (s : Tally) where
  -- The parts of a word

  -- these before others
  pub record PartsPassed (all rest : p.Word) (known left : Views) (old new : Equations) : Type 0 where
    pub adds : (t : p.Items) (u : ℕ → ℕ) (q : Seen) → Keeps s t u → Sight s q known → IsPart t (e.word_entered q all) → ElementsAt s t u (λ z. e.word_entered z rest) left old new
    pub gained : (end : Views) → Raised (word_gains rest).args left end → Raised (word_gains all).args known end

  pub pieces_begun : (w : p.Word) (known : Views) (old : Equations) → PartsPassed w w known known old old
  pieces_begun w known old = record { adds = λ t u q k sight part. record { seen = q; sight = sight; part = part; tallies = λ x. x }; gained = λ end h. h }

  pub pieces_next : (b : Text) (all : p.Word) (x : Part) (xs : List Part) (known now left : Views) (old mid new : Equations) → PartsPassed all (parts_from b (x ∷ xs)) known now old mid
      → Passes s (λ q. e.part_entered q (trees.part_of b x)) (part_gains (trees.part_of b x)) now left mid new → PartsPassed all (parts_from b xs) known left old new
  unfolding e.items_entered parts_from part_gains
  pieces_next b all x xs known now left old mid new before one = record {
    adds = λ t u q k sight part.
        let at = before.adds t u q k sight part in
        let first = e.part_entered at.seen (trees.part_of b x) in
        record {
          seen = gaining (part_gains (trees.part_of b x)) at.seen;
          sight = raised_see (names s) at.seen (part_gains (trees.part_of b x)) now left one.gained at.sight;
          part = last_part t first (e.word_entered (gaining (part_gains (trees.part_of b x)) at.seen) (parts_from b xs)) at.part;
          tallies = λ tallied. one.adds t u at.seen k at.sight (first_part t first (e.word_entered (gaining (part_gains (trees.part_of b x)) at.seen) (parts_from b xs)) at.part) (at.tallies tallied);
        };
    gained = λ end h. before.gained end (raised_then (part_gains (trees.part_of b x)).args (word_gains (parts_from b xs)).args now left end one.gained h);
  }

  pub parts_passed : (b : Text) (all : p.Word) (known left : Views) (old new : Equations) → PartsPassed all (parts_from b []) known left old new → Passes s (λ q. e.word_entered q all) (word_gains all) known left old new
  unfolding parts_from part_gains
  parts_passed b all known left old new before = record { adds = λ t u q k sight part. (before.adds t u q k sight part).tallies; gained = before.gained left (raised_none left) }

  -- what a part is
  pub part_as : (b : Text) (x v : Part) (z : p.Part) (known left : Views) (old new : Equations) → x ≡ v → trees.part_of b v ≡ z → Passes s (λ q. e.part_entered q z) (part_gains z) known left old new
      → Passes s (λ q. e.part_entered q (trees.part_of b x)) (part_gains (trees.part_of b x)) known left old new
  part_as b x v z known left old new is same h = subst (λ y. Passes s (λ q. e.part_entered q y) (part_gains y) known left old new) (sym (ap (trees.part_of b) is ∙ same)) h

  module _ (known : Views) (old : Equations) where
    pub idle_part : (z : p.Part) → (part_gains z).args ≡ 0 → Passes s (λ q. e.part_entered q z) (part_gains z) known known old old
    idle_part z none = record { adds = λ t u q k sight part tallied. tallied; gained = subst (λ m. Raised m known known) (sym none) (raised_none known) }

    pub expansion_part : (n : ℕ) (v : p.Parameter) (o : p.Operator) (left : Views) (new : Equations) → Passes s (λ q. e.operator_entered q v o) (operator_gains v o) known left old new
        → Passes s (λ q. e.part_entered q (p.Expansion n v o)) (part_gains (p.Expansion n v o)) known left old new
    unfolding e.items_entered part_gains
    expansion_part n v o left new h = record { adds = h.adds; gained = h.gained }

    pub arithmetic_part : (n : ℕ) (x : p.Expression) (left : Views) (new : Equations) → Passes s (λ q. e.expression_entered q x) (expanded_gains x) known left old new
        → Passes s (λ q. e.part_entered q (p.Arithmetic n x)) (part_gains (p.Arithmetic n x)) known left old new
    unfolding e.items_entered part_gains
    arithmetic_part n x left new h = record { adds = h.adds; gained = raised_less (expanded_gains x).args (part_gains (p.Arithmetic n x)).args known left (omega arith) h.gained }

    pub double_part : (w : p.Word) (left : Views) (new : Equations) → Passes s (λ q. e.word_entered q w) (word_gains w) known left old new → Passes s (λ q. e.part_entered q (p.Double w)) (part_gains (p.Double w)) known left old new
    unfolding e.items_entered part_gains
    double_part w left new h = record { adds = h.adds; gained = h.gained }

    pub substitution_part : (n : ℕ) (list : p.Items) (y : Around) (new : Equations) → y ≡ e.alone → ((by : FlowRule) → AddsFrom s (λ q. e.items_entered by y (views.Both q) list) known old new)
        → Passes s (λ q. e.part_entered q (p.Substitution n list)) (part_gains (p.Substitution n list)) known known old new
    unfolding e.items_entered part_gains
    substitution_part n list y new outside adds = record {
      adds = λ t u q k sight part.
          adds F11 t u (views.without_job q) k (see_started (names s) q known sight)
          (subst (λ a. IsPart t (e.items_entered F11 a (views.Both (views.without_job q)) list)) (sym outside) part);
      gained = raised_none known;
    }

  -- The words of operators

  pub operator_as : (b : Text) (y : p.Parameter) (o v : ParameterOperator) (z : p.Operator) (known left : Views) (old new : Equations) → o ≡ v → trees.operator_of b v ≡ z
      → Passes s (λ q. e.operator_entered q y z) (operator_gains y z) known left old new → Passes s (λ q. e.operator_entered q y (trees.operator_of b o)) (operator_gains y (trees.operator_of b o)) known left old new
  operator_as b y o v z known left old new is same h = subst (λ x. Passes s (λ q. e.operator_entered q y x) (operator_gains y x) known left old new) (sym (ap (trees.operator_of b) is ∙ same)) h

  module _ (known : Views) (old : Equations) where
    pub idle_operator : (y : p.Parameter) (z : p.Operator) → (operator_gains y z).args ≡ 0 → Passes s (λ q. e.operator_entered q y z) (operator_gains y z) known known old old
    idle_operator y z none = record { adds = λ t u q k sight part tallied. tallied; gained = subst (λ m. Raised m known known) (sym none) (raised_none known) }

    pub remove_operator : (y : p.Parameter) (r : Removal) (w : p.Word) (left : Views) (new : Equations) → Passes s (λ q. e.word_entered q w) (word_gains w) known left old new
        → Passes s (λ q. e.operator_entered q y (p.Remove r w)) (operator_gains y (p.Remove r w)) known known old new
    unfolding e.items_entered operator_gains
    remove_operator y r w left new h = record { adds = h.adds; gained = raised_none known }

    pub use_operator : (y : p.Parameter) (a : Action) (colon : Bool) (w : p.Word) (inside left after : Views) (new : Equations) → ((q : Seen) → Sight s q known → Sight s (e.operand_seen a y q) inside)
        → Passes s (λ q. e.word_entered q w) (word_gains w) inside left old new → Raised (operator_gains y (p.Use a colon w)).args known after
        → Passes s (λ q. e.operator_entered q y (p.Use a colon w)) (operator_gains y (p.Use a colon w)) known after old new
    unfolding e.items_entered
    use_operator y a colon w inside left after new sees h gained = record { adds = λ t u q k sight part. h.adds t u (e.operand_seen a y q) k (sees q sight) part; gained = gained }

  -- Arithmetic

  pub expression_as : (b : Text) (x v : Expr) (z : p.Expression) (known left : Views) (old new : Equations) → x ≡ v → trees.expression_of b v ≡ z → Passes s (λ q. e.expression_entered q z) (expanded_gains z) known left old new
      → Passes s (λ q. e.expression_entered q (trees.expression_of b x)) (expanded_gains (trees.expression_of b x)) known left old new
  expression_as b x v z known left old new is same h = subst (λ y. Passes s (λ q. e.expression_entered q y) (expanded_gains y) known left old new) (sym (ap (trees.expression_of b) is ∙ same)) h

  -- of an expression, or of operands, that are the same
  pub held : (b : Text) (x v : Expr) (known left : Views) (old new : Equations) → x ≡ v → Passes s (λ q. e.expression_entered q (trees.expression_of b x)) (expanded_gains (trees.expression_of b x)) known left old new
      → Passes s (λ q. e.expression_entered q (trees.expression_of b v)) (expanded_gains (trees.expression_of b v)) known left old new
  held b x v known left old new is h = subst (λ y. Passes s (λ q. e.expression_entered q (trees.expression_of b y)) (expanded_gains (trees.expression_of b y)) known left old new) is h

  pub held_operands : (b : Text) (xs ys : List (Binary × Expr)) (known left : Views) (old new : Equations) → xs ≡ ys → Passes s (λ q. e.operands_entered q (operands_from b xs)) (operands_gains (operands_from b xs)) known left old new
      → Passes s (λ q. e.operands_entered q (operands_from b ys)) (operands_gains (operands_from b ys)) known left old new
  held_operands b xs ys known left old new is h = subst (λ zs. Passes s (λ q. e.operands_entered q (operands_from b zs)) (operands_gains (operands_from b zs)) known left old new) is h

  pub passes_then : (first second : Seen → List Entered) (g h : Gains) (known mid left : Views) (old one new : Equations) → Passes s first g known mid old one → Passes s second h mid left one new
      → Passes s (λ q. first q ++ second (gaining g q)) (and_gains g h) known left old new
  passes_then first second g h known mid left old one new a c = record {
    adds = λ t u q k sight part tallied.
        c.adds t u (gaining g q) k (raised_see (names s) q g known mid a.gained sight) (last_part t (first q) (second (gaining g q)) part)
        (a.adds t u q k sight (first_part t (first q) (second (gaining g q)) part) tallied);
    gained = raised_then g.args h.args known mid left a.gained c.gained;
  }

  module _ (known : Views) (old : Equations) where
    pub idle_expression : (z : p.Expression) → (expanded_gains z).args ≡ 0 → Passes s (λ q. e.expression_entered q z) (expanded_gains z) known known old old
    idle_expression z none = record { adds = λ t u q k sight part tallied. tallied; gained = subst (λ m. Raised m known known) (sym none) (raised_none known) }

    module _ (left : Views) (new : Equations) where
      pub expanded_expression : (x : p.Part) → Passes s (λ q. e.part_entered q x) (part_gains x) known left old new → Passes s (λ q. e.expression_entered q (p.Expanded x)) (expanded_gains (p.Expanded x)) known left old new
      unfolding e.items_entered part_gains
      expanded_expression x h = record { adds = h.adds; gained = h.gained }

      pub inner_expression : (x : p.Expression) → Passes s (λ q. e.expression_entered q x) (expanded_gains x) known left old new
          → Passes s (λ q. e.expression_entered q (p.Parenthesis x)) (expanded_gains (p.Parenthesis x)) known left old new
      unfolding e.items_entered part_gains
      inner_expression x h = record { adds = h.adds; gained = h.gained }

      pub signed_expression : (o : Unary) (x : p.Expression) → Passes s (λ q. e.expression_entered q x) (expanded_gains x) known left old new
          → Passes s (λ q. e.expression_entered q (p.Signed o x)) (expanded_gains (p.Signed o x)) known left old new
      unfolding e.items_entered part_gains
      signed_expression o x h = record { adds = h.adds; gained = h.gained }

      pub assigned_expression : (n : ℕ) (f : Text) (o : Option Binary) (x : p.Expression) → Passes s (λ q. e.expression_entered q x) (expanded_gains x) known left old new
          → Passes s (λ q. e.expression_entered q (p.Assigned n f o x)) (expanded_gains (p.Assigned n f o x)) known left old new
      unfolding e.items_entered part_gains
      assigned_expression n f o x h = record { adds = h.adds; gained = h.gained }

      pub chain_expression : (x : p.Expression) (rest : p.Operands) (mid : Views) (one : Equations) → Passes s (λ q. e.expression_entered q x) (expanded_gains x) known mid old one
          → Passes s (λ q. e.operands_entered q rest) (operands_gains rest) mid left one new → Passes s (λ q. e.expression_entered q (p.Chain x rest)) (expanded_gains (p.Chain x rest)) known left old new
      unfolding e.items_entered part_gains
      chain_expression x rest mid one a c = passes_then (λ q. e.expression_entered q x) (λ q. e.operands_entered q rest) (expanded_gains x) (operands_gains rest) known mid left old one new a c

      pub choice_expression : (x y z : p.Expression) (mid tested : Views) (one two : Equations) → Passes s (λ q. e.expression_entered q x) (expanded_gains x) known tested old one
          → Passes s (λ q. e.expression_entered q y) (expanded_gains y) tested mid one two → Passes s (λ q. e.expression_entered q z) (expanded_gains z) mid left two new
          → Passes s (λ q. e.expression_entered q (p.Choice x y z)) (expanded_gains (p.Choice x y z)) known left old new
      unfolding e.items_entered part_gains
      choice_expression x y z mid tested one two a c d =
          let branches = passes_then (λ q. e.expression_entered q y) (λ q. e.expression_entered q z) (expanded_gains y) (expanded_gains z) tested mid left one two new c d in
          let all = passes_then (λ q. e.expression_entered q x) (λ q. e.expression_entered q y ++ e.expression_entered (gaining (expanded_gains y) q) z) (expanded_gains x) (and_gains (expanded_gains y) (expanded_gains z)) known tested left old one new a branches in
          record {
            adds = λ t u q k sight part.
                all.adds t u q k sight
                (subst (λ es. IsPart t es) (append_assoc (e.expression_entered q x) (e.expression_entered (gaining (expanded_gains x) q) y) (e.expression_entered (gaining (expanded_gains y) (gaining (expanded_gains x) q)) z)) part);
            gained = all.gained;
          }

  -- the operands before others
  pub record OperandsPassed (all rest : p.Operands) (known left : Views) (old new : Equations) : Type 0 where
    pub passes : (end : Views) (newest : Equations) → Passes s (λ q. e.operands_entered q rest) (operands_gains rest) left end new newest → Passes s (λ q. e.operands_entered q all) (operands_gains all) known end old newest

  pub operands_begun : (rest : p.Operands) (known : Views) (old : Equations) → OperandsPassed rest rest known known old old
  operands_begun rest known old = record { passes = λ end newest h. h }

  pub operands_next : (b : Text) (all : p.Operands) (x : Binary × Expr) (xs : List (Binary × Expr)) (known now left : Views) (old mid new : Equations) → OperandsPassed all (operands_from b (x ∷ xs)) known now old mid
      → Passes s (λ q. e.expression_entered q (trees.expression_of b x.1)) (expanded_gains (trees.expression_of b x.1)) now left mid new → OperandsPassed all (operands_from b xs) known left old new
  unfolding e.items_entered operands_from part_gains
  operands_next b all x xs known now left old mid new before one = record {
    passes = λ end newest h.
        before.passes end newest
        (passes_then (λ q. e.expression_entered q (trees.expression_of b x.1)) (λ q. e.operands_entered q (operands_from b xs)) (expanded_gains (trees.expression_of b x.1)) (operands_gains (operands_from b xs)) now left end mid new newest one h);
  }

  pub operands_passed : (b : Text) (all : p.Operands) (known left : Views) (old new : Equations) → OperandsPassed all (operands_from b []) known left old new → Passes s (λ q. e.operands_entered q all) (operands_gains all) known left old new
  unfolding e.items_entered operands_from part_gains
  operands_passed b all known left old new before = before.passes left new (record { adds = λ t u q k sight part tallied. tallied; gained = raised_none left })

  -- What is opened

  pub target_as : (b : Text) (x v : Target) (z : p.Redirect) (known left : Views) (old new : Equations) → x ≡ v → trees.target_of b v ≡ z → Passes s (λ q. e.redirect_entered q z) (redirect_gains z) known left old new
      → Passes s (λ q. e.redirect_entered q (trees.target_of b x)) (redirect_gains (trees.target_of b x)) known left old new
  target_as b x v z known left old new is same h = subst (λ y. Passes s (λ q. e.redirect_entered q y) (redirect_gains y) known left old new) (sym (ap (trees.target_of b) is ∙ same)) h

  pub file_target : (w : p.Word) (known left : Views) (old new : Equations) → Passes s (λ q. e.word_entered q w) (word_gains w) known left old new → Passes s (λ q. e.redirect_entered q (p.File w)) (redirect_gains (p.File w)) known left old new
  unfolding e.items_entered redirect_gains
  file_target w known left old new h = record { adds = h.adds; gained = h.gained }

  pub here_target : (w : p.Word) (known left : Views) (old new : Equations) → Passes s (λ q. e.word_entered q w) (word_gains w) known left old new → Passes s (λ q. e.redirect_entered q (p.Here w)) (redirect_gains (p.Here w)) known left old new
  unfolding e.items_entered redirect_gains
  here_target w known left old new h = record { adds = h.adds; gained = h.gained }

  -- The words of elements

  pub words_begun : (es : p.Elements) (known : Views) (old : Equations) → PassesWords s es es known known old old
  words_begun es known old = record { adds = λ t u q last k sight part. record { seen = q; sight = sight; part = part; tallies = λ x. x }; gained = λ end h. h }

  pub words_then : (es mid rest : p.Elements) (known now left : Views) (old one new : Equations) → PassesWords s es mid known now old one → PassesWords s mid rest now left one new → PassesWords s es rest known left old new
  words_then es mid rest known now left old one new a c = record {
    adds = λ t u q last k sight part.
        let x = a.adds t u q last k sight part in
        let z = c.adds t u x.seen last k x.sight x.part in
        record { seen = z.seen; sight = z.sight; part = z.part; tallies = λ tallied. z.tallies (x.tallies tallied) };
    gained = λ end h. a.gained end (c.gained end h);
  }

  pub words_next : (b : Text) (all : p.Elements) (x : Element) (xs : List Element) (known now left : Views) (old one new : Equations) → PassesWords s all (elements_from b (x ∷ xs)) known now old one
      → ((rest : p.Elements) → PassesWords s (element_from b x rest) rest now left one new) → PassesWords s all (elements_from b xs) known left old new
  unfolding elements_from
  words_next b all x xs known now left old one new a c = words_then all (element_from b x (elements_from b xs)) (elements_from b xs) known now left old one new a (c (elements_from b xs))

  pub words_ended : (b : Text) (all : p.Elements) (known left : Views) (old new : Equations) → PassesWords s all (elements_from b []) known left old new → PassesWords s all p.no_elements known left old new
  unfolding elements_from
  words_ended b all known left old new a = a

  pub operand_words : (w : p.Word) (rest : p.Elements) (known left : Views) (old new : Equations) → Passes s (λ q. e.word_entered q w) (word_gains w) known left old new → PassesWords s (p.operand w rest) rest known left old new
  unfolding e.items_entered operands_in words_gains
  operand_words w rest known left old new one = record {
    adds = λ t u q last k sight part. record {
      seen = gaining (word_gains w) q;
      sight = raised_see (names s) q (word_gains w) known left one.gained sight;
      part = last_part t (e.word_entered q w) (e.elements_entered (gaining (word_gains w) q) last rest) part;
      tallies = one.adds t u q k sight (first_part t (e.word_entered q w) (e.elements_entered (gaining (word_gains w) q) last rest) part);
    };
    gained = λ end h. raised_then (word_gains w).args (words_gains (operands_in rest)).args known left end one.gained h;
  }

  pub assignment_words : (f : Text) (w : p.Word) (rest : p.Elements) (known : Views) (old : Equations) → PassesWords s (p.assignment f w rest) rest known known old old
  unfolding e.items_entered operands_in
  assignment_words f w rest known old = record {
    adds = λ t u q last k sight part. record { seen = q; sight = sight; part = last_part t (e.word_entered last w) (e.elements_entered q last rest) part; tallies = λ x. x };
    gained = λ end h. h;
  }

  pub redirection_words : (d : p.Redirect) (rest : p.Elements) (known : Views) (old : Equations) → PassesWords s (p.redirection d rest) rest known known old old
  unfolding e.items_entered operands_in
  redirection_words d rest known old = record {
    adds = λ t u q last k sight part. record { seen = q; sight = sight; part = last_part t (e.redirect_entered last d) (e.elements_entered q last rest) part; tallies = λ x. x };
    gained = λ end h. h;
  }

  -- what an element is
  pub words_as : (b : Text) (x v : Element) (known left : Views) (old new : Equations) (z : p.Elements → p.Elements) → x ≡ v → ((rest : p.Elements) → element_from b v rest ≡ z rest)
      → ((rest : p.Elements) → PassesWords s (z rest) rest known left old new) → (rest : p.Elements) → PassesWords s (element_from b x rest) rest known left old new
  words_as b x v known left old new z is same h rest = subst (λ es. PassesWords s es rest known left old new) (sym (ap (λ y. element_from b y rest) is ∙ same rest)) (h rest)

  -- The values and redirections of elements

  pub values_begun : (es : p.Elements) (known : Views) (old : Equations) → PassesValues s es es known known old old
  values_begun es known old = record { adds = λ t u q last k sight part. ((q, part), λ x. x); gained = λ end h. h; kept = raised_none known }

  pub values_then : (es mid rest : p.Elements) (known now left : Views) (old one new : Equations) → PassesValues s es mid known now old one → PassesValues s mid rest now left one new → PassesValues s es rest known left old new
  values_then es mid rest known now left old one new a c = record {
    adds = λ t u q last k sight part.
        let x = a.adds t u q last k sight part in
        let z = c.adds t u x.0.0 last k (weaker_see (names s) last 0 known now a.kept sight) x.0.1 in
        (z.0, λ tallied. z.1 (x.1 tallied));
    gained = λ end h. a.gained end (c.gained end h);
    kept = raised_then 0 0 known now left a.kept c.kept;
  }

  pub values_next : (b : Text) (all : p.Elements) (x : Element) (xs : List Element) (known now left : Views) (old one new : Equations) → PassesValues s all (elements_from b (x ∷ xs)) known now old one
      → ((rest : p.Elements) → PassesValues s (element_from b x rest) rest now left one new) → PassesValues s all (elements_from b xs) known left old new
  unfolding elements_from
  values_next b all x xs known now left old one new a c = values_then all (element_from b x (elements_from b xs)) (elements_from b xs) known now left old one new a (c (elements_from b xs))

  pub values_ended : (b : Text) (all : p.Elements) (known left : Views) (old new : Equations) → PassesValues s all (elements_from b []) known left old new → PassesValues s all p.no_elements known left old new
  unfolding elements_from
  values_ended b all known left old new a = a

  pub operand_values : (w : p.Word) (rest : p.Elements) (known : Views) (old : Equations) → PassesValues s (p.operand w rest) rest known known old old
  unfolding e.items_entered assignments_in redirects_in
  operand_values w rest known old = record {
    adds = λ t u q last k sight part. ((gaining (word_gains w) q, last_part t (e.word_entered q w) (e.elements_entered (gaining (word_gains w) q) last rest) part), λ x. x);
    gained = λ end h. h;
    kept = raised_none known;
  }

  pub assignment_values : (f : Text) (w : p.Word) (rest : p.Elements) (known left : Views) (old new : Equations) → Passes s (λ q. e.word_entered q w) (word_gains w) known left old new → PassesValues s (p.assignment f w rest) rest known left old new
  unfolding e.items_entered assignments_in redirects_in values_gains
  assignment_values f w rest known left old new one = record {
    adds = λ t u q last k sight part.
        ((q, last_part t (e.word_entered last w) (e.elements_entered q last rest) part), one.adds t u last k sight (first_part t (e.word_entered last w) (e.elements_entered q last rest) part));
    gained = λ end h.
        raised_less (max (word_gains w).args (settled_gains s rest)) (max (max (word_gains w).args (values_gains (assignments_in rest)).args) (redirects_gains (redirects_in rest)).args) known end (omega arith)
        (raised_then (word_gains w).args (settled_gains s rest) known left end one.gained h);
    kept = raised_less (word_gains w).args 0 known left (omega arith) one.gained;
  }

  pub redirection_values : (d : p.Redirect) (rest : p.Elements) (known left : Views) (old new : Equations) → Passes s (λ q. e.redirect_entered q d) (redirect_gains d) known left old new → PassesValues s (p.redirection d rest) rest known left old new
  unfolding e.items_entered assignments_in redirects_in redirects_gains
  redirection_values d rest known left old new one = record {
    adds = λ t u q last k sight part.
        ((q, last_part t (e.redirect_entered last d) (e.elements_entered q last rest) part), one.adds t u last k sight (first_part t (e.redirect_entered last d) (e.elements_entered q last rest) part));
    gained = λ end h.
        raised_less (max (redirect_gains d).args (settled_gains s rest)) (max (values_gains (assignments_in rest)).args (max (redirect_gains d).args (redirects_gains (redirects_in rest)).args)) known end (omega arith)
        (raised_then (redirect_gains d).args (settled_gains s rest) known left end one.gained h);
    kept = raised_less (redirect_gains d).args 0 known left (omega arith) one.gained;
  }

  pub values_as : (b : Text) (x v : Element) (known left : Views) (old new : Equations) (z : p.Elements → p.Elements) → x ≡ v → ((rest : p.Elements) → element_from b v rest ≡ z rest)
      → ((rest : p.Elements) → PassesValues s (z rest) rest known left old new) → (rest : p.Elements) → PassesValues s (element_from b x rest) rest known left old new
  values_as b x v known left old new z is same h rest = subst (λ es. PassesValues s es rest known left old new) (sym (ap (λ y. element_from b y rest) is ∙ same rest)) (h rest)

  -- A simple command

  behind_left : (n : ℕ) (es : p.Elements) (inside words left : Views) (old one two : Equations) → Sight s (views.at (Before n)) inside
      → PassesWords s es p.no_elements inside words old one → PassesValues s es p.no_elements words left one two → IsBehind s n es left
  unfolding operands_in words_gains assignments_in redirects_in values_gains redirects_gains
  behind_left n es inside words left old one two own first second =
      let gained : Raised (words_gains (operands_in es)).args inside words = first.gained words (raised_none words) in
      let all : Raised (settled_gains s es) words left = second.gained left (raised_none left) in
      let sight : Sight s (behind_words es (views.at (Before n))) words = raised_see (names s) (views.at (Before n)) (words_gains (operands_in es)) inside words gained own in
      record {
        words = weaker_see (names s) (behind_words es (views.at (Before n))) 0 words left second.kept sight;
        settled = λ g few. raised_see (names s) (behind_words es (views.at (Before n))) g words left (raised_less (settled_gains s es) g.args words left few all) sight;
      }

  words_sight : (es : p.Elements) (q : Seen) (inside words : Views) (old one : Equations) → PassesWords s es p.no_elements inside words old one → Sight s q inside → Sight s (behind_words es q) words
  unfolding operands_in words_gains
  words_sight es q inside words old one first sight =
      raised_see (names s) q (words_gains (operands_in es)) inside words (first.gained words (raised_none words)) sight

  pub simple_added : (y : Around) (n : ℕ) (es : p.Elements) (inside words left : Views) (old one two new : Equations)
      → PassesWords s es p.no_elements inside words old one → PassesValues s es p.no_elements words left one two → AddsSimple s y n es left two new → AddsCommand s y n (p.Simple es) inside old new
  unfolding e.items_entered HasTexts r.kind_bounds
  simple_added y n es inside words left old one two new first second third offset rs own texts t u q k sight part kept tallied =
      let a = first.adds t u q (behind_words es q) k sight part in
      let c = second.adds t u q (behind_words es q) k (words_sight es q inside words old one first sight) part in
      third texts t u k (behind_left n es inside words left old one two own first second) kept (c.1 (a.tallies tallied))
