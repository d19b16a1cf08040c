-- An expression is read wherever its bytes are.
-- POSIX.1-2024, XCU 2.6.4 (arithmetic expansion).
use Rattle.std.proofs.Common.{◌≡◌, ℕ, ◌+◌, ◌<◌, ◌≤◌, true, ◌&&◌, List, [], ◌∷◌, ◌++◌, map, refl, sym, ap, ◌∙◌, le_refl, le_trans, arith, ⊎_elim}
use Rattle.std.proofs.lemmas.Bool.{true≢false}
use Rattle.std.proofs.lemmas.List.{map-append}
use Rattle.sh_tree.specs.declared.tree.Binary.{Binary}
use Rattle.sh_tree.specs.declared.tree.Expr.{Expr}
use Rattle.sh_tree.specs.declared.tree.Expr.TheVariants as expr
use Rattle.sh_tree.specs.declared.tree.Span.{Span}
use Rattle.sh_tree.specs.declared.token.arithmetic.Figure.{Figure}
use Rattle.sh_tree.specs.declared.token.word.Context.{Context}
use Rattle.sh_tree.specs.standard.Tree.{text_of}
use Rattle.sh_tree.specs.standard.language.Arithmetic.{lexeme, binary_of, assignment_of}
use Rattle.sh_tree.specs.standard.language.Parts.{expression_singles}
use Rattle.sh_tree.specs.standard.language.Reading as r
use Rattle.sh_tree.specs.standard.language.Reading.{figure_at, figure_span, over, assigns, is_question, is_some, is_figure_name, ReadsExpression, ReadsConditional, ReadsLevel, ReadsOperands, ReadsUnary}
use Rattle.sh_tree.specs.standard.language.States.{Spot, to, behind}
use Rattle.sh_tree.specs.standard.language.Trees as tree
use Rattle.sh_reads.proofs.FigureLemmas.{figure_moves}
use Rattle.sh_reads.proofs.TakeLemmas.{token_moves}
use Rattle.sh_copies.proofs.AlikeBytes.{by_bool}
use Rattle.sh_copies.proofs.Copies.{Copied, Place, Moved, Found, Turns, turned, limit_of, KeptExpression, ExpansionsMove, ExpressionsMove}
use Rattle.sh_copies.proofs.Forward.{over_forward, expression_forward, conditional_forward, level_forward, operands_forward, unary_forward, part_forward}
use Rattle.sh_copies.proofs.Lexemes.{SameLexeme, lexeme_alike, lexeme_shifts}
use Rattle.sh_copies.proofs.Places.{less_deep, near, as_far, moved_to, moved_deeper, moved_behind}
use Rattle.sh_bodies.specs.Singles.{chained}
use Rattle.sh_bodies.proofs.SingleLemmas.{of_constant, of_variable, of_expansion, of_parenthesis, of_unary, of_choice, of_assign, of_operands}

-- Tokens

module _ {b b' : List ℕ} (c : Copied b b') where
  lexemes : {i i' : ℕ} → Place c i i' → i ≤ limit_of c → SameLexeme i i' (lexeme b i) (lexeme b' i')
  lexemes {i = i} {i' = i'} p h = ⊎_elim (λ same. lexeme_shifts b b' i i' (sym same)) (λ alike. lexeme_alike b b' i i' alike) (near c p h)

  -- the token at the same spot: where it begins and what is after it
  pub record SameFigure (s s' : Spot) : Type 0 where
    pub is : figure_at b' s' ≡ figure_at b s
    pub start : Moved c (to (lexeme b s.at).start s) (to (lexeme b' s'.at).start s')
    pub behind : Moved c (over b s) (over b' s')

  pub same_figure : {s s' : Spot} → Moved c s s' → s.at ≤ limit_of c → SameFigure s s'
  same_figure m h =
      let l = lexemes m.place h in
      record { is = l.figure; start = moved_to c m (as_far c l.before m.place l.start l.start'); behind = moved_to c m (as_far c l.long m.place l.end l.end') }

-- a name is passed
module _ {limit : ℕ} {b : List ℕ} {x : Context} where
  unary_passes : {g : Figure} {s u : Spot} {e : Expr} → ReadsUnary limit b x g s u e → is_figure_name g ≡ true → (over b s).at ≤ u.at
  unary_passes (r.constant {s = s}) h = le_refl _
  unary_passes (r.variable {s = s}) h = le_refl _
  unary_passes (r.signed k d i) h = level_forward i
  unary_passes (r.parenthesis {u = u} d i k) h = le_trans (expression_forward i) (over_forward b u)
  unary_passes (r.expansion k j i) h = absurd (true≢false (sym h))

  level_passes : {l : ℕ} {s u : Spot} {e : Expr} → ReadsLevel limit b x l s u e → is_figure_name (figure_at b s) ≡ true → (over b s).at ≤ u.at
  level_passes (r.chain l i j) h = le_trans (level_passes i h) (operands_forward j)
  level_passes (r.operand l k i) h = unary_passes i (ap is_figure_name (sym k) ∙ h)

  conditional_passes : {s u : Spot} {e : Expr} → ReadsConditional limit b x s u e → is_figure_name (figure_at b s) ≡ true → (over b s).at ≤ u.at
  conditional_passes (r.one_level i k) h = level_passes i h
  conditional_passes (r.choice {u = u} {v = v} i k d j l n) h =
      le_trans (level_passes i h) (le_trans (over_forward b u) (le_trans (expression_forward j) (le_trans (over_forward b v) (conditional_forward n))))

-- What is kept

module _ (b b' : List ℕ) where
  abbrev Keeps : List Span → List Span → Type 0
  Keeps ss ss' = map (text_of b') ss' ≡ map (text_of b) ss

  keeps_both : (ss ts ss' ts' : List Span) → Keeps ss ss' → Keeps ts ts' → Keeps (ss ++ ts) (ss' ++ ts')
  keeps_both ss ts ss' ts' h k =
      map-append (text_of b') ss' ts' ∙ ap (λ z. z ++ map (text_of b') ts') h ∙ ap (λ z. map (text_of b) ss ++ z) k ∙ sym (map-append (text_of b) ss ts)

  keeps_as : (ss ts ss' ts' : List Span) → ss ≡ ts → ss' ≡ ts' → Keeps ts ts' → Keeps ss ss'
  keeps_as ss ts ss' ts' e e' h = ap (map (text_of b')) e' ∙ h ∙ sym (ap (map (text_of b)) e)

  abbrev KeptOperands : List (Binary × Expr) → List (Binary × Expr) → Type 0
  KeptOperands es es' = Keeps (chained es) (chained es')

  keeps_chain : (e e' : Expr) (es es' : List (Binary × Expr)) → KeptExpression b b' e e' → KeptOperands es es' → KeptExpression b b' (tree.chain_of e es) (tree.chain_of e' es')
  keeps_chain e e' es es' h k = keeps_as _ _ _ _ (of_operands e es) (of_operands e' es') (keeps_both (expression_singles e) (chained es) (expression_singles e') (chained es') h k)

  keeps_choice : (c y n c' y' n' : Expr) → KeptExpression b b' c c' → KeptExpression b b' y y' → KeptExpression b b' n n' → KeptExpression b b' (expr.Choice c y n) (expr.Choice c' y' n')
  keeps_choice c y n c' y' n' h i j =
      keeps_as _ _ _ _ (of_choice c y n) (of_choice c' y' n')
      (keeps_both (expression_singles c ++ expression_singles y) (expression_singles n) (expression_singles c' ++ expression_singles y') (expression_singles n')
      (keeps_both (expression_singles c) (expression_singles y) (expression_singles c') (expression_singles y') h i) j)

  keeps_none : KeptOperands [] []
  unfolding chained
  keeps_none = refl

  keeps_operands : (o : Binary) (e e' : Expr) (es es' : List (Binary × Expr)) → KeptExpression b b' e e' → KeptOperands es es' → KeptOperands ((o, e) ∷ es) ((o, e') ∷ es')
  unfolding chained
  keeps_operands o e e' es es' h k = keeps_both (expression_singles e) (chained es) (expression_singles e') (chained es') h k

-- Readings

module _ {limit n : ℕ} (expansions : ExpansionsMove limit n) {b b' : List ℕ} (c : Copied b b') (x : Context) (o' : ℕ) (turns : Turns c x o') where
  abbrev y : Context
  y = turned o' x

  assigns_same : {s s' u : Spot} {e : Expr} → Moved c s s' → ReadsConditional limit b x s u e → u.at ≤ limit_of c → assigns b' s' ≡ assigns b s
  assigns_same {s = s} {s' = s'} m i within =
      let f = conditional_forward i in
      let t = same_figure c m (omega arith) in
      by_bool (is_figure_name (figure_at b s))
      (λ named.
      let passes = conditional_passes i named in
      let k = same_figure c t.behind (omega arith) in
      ap (λ g. is_figure_name g && is_some (assignment_of (figure_at b' (over b' s')))) t.is ∙ ap (λ g. is_figure_name (figure_at b s) && is_some (assignment_of g)) k.is)
      (λ other.
      ap (λ g. is_figure_name g && is_some (assignment_of (figure_at b' (over b' s')))) t.is
      ∙ ap (λ g. g && is_some (assignment_of (figure_at b' (over b' s')))) other
      ∙ sym (ap (λ g. g && is_some (assignment_of (figure_at b (over b s)))) other))

  mutual
    expression_moves : {s s' u : Spot} {e : Expr} → Moved c s s' → ReadsExpression limit b x s u e → u.at < s.at + n → u.at ≤ limit_of c
        → Found c u (KeptExpression b b' e) (λ u' e'. ReadsExpression limit b' y s' u' e')
    expression_moves {s' = s'} m (r.assignment {s = s} {u = u} {o = o} {e = e} name a d i) size within =
        let first = over_forward b s in
        let second = over_forward b (over b s) in
        let third = expression_forward i in
        let t = same_figure c m (omega arith) in
        let k = same_figure c t.behind (omega arith) in
        let inside = expression_moves (moved_deeper c m k.behind.place) i (omega arith) within in
        record {
          to = behind inside.to.at inside.to s';
          tree = expr.Assign (figure_span b' s') o inside.tree;
          moved = moved_behind c u inside.to inside.moved.counts m inside.moved.place;
          keeps = keeps_as b b' _ _ _ _ (of_assign (figure_span b s) o e) (of_assign (figure_span b' s') o inside.tree) inside.keeps;
          reads = r.assignment (t.is ∙ name) (ap assignment_of k.is ∙ a) (less_deep s.depth s'.depth limit m.depth d) inside.reads;
        }
    expression_moves m (r.no_assignment h i) size within =
        let inside = conditional_moves m i size within in
        record { to = inside.to; tree = inside.tree; moved = inside.moved; keeps = inside.keeps; reads = r.no_assignment (assigns_same m i within ∙ h) inside.reads }

    conditional_moves : {s s' u : Spot} {e : Expr} → Moved c s s' → ReadsConditional limit b x s u e → u.at < s.at + n → u.at ≤ limit_of c
        → Found c u (KeptExpression b b' e) (λ u' e'. ReadsConditional limit b' y s' u' e')
    conditional_moves m (r.one_level i h) size within =
        let inside = level_moves m i size within in
        let t = same_figure c inside.moved within in
        record { to = inside.to; tree = inside.tree; moved = inside.moved; keeps = inside.keeps; reads = r.one_level inside.reads (ap is_question t.is ∙ h) }
    conditional_moves {s = s} m (r.choice {u = u} {v = v} {w = w} {c = condition} {y = whole} {n = other} i h d j k l) size within =
        let a = level_forward i in
        let f = over_forward b u in
        let g = expression_forward j in
        let h' = over_forward b v in
        let z = conditional_forward l in
        let first = level_moves m i (omega arith) (omega arith) in
        let t = same_figure c first.moved (omega arith) in
        let second = expression_moves (moved_deeper c first.moved t.behind.place) j (omega arith) (omega arith) in
        let q = same_figure c second.moved (omega arith) in
        let third = conditional_moves q.behind l (omega arith) within in
        record {
          to = behind third.to.at third.to first.to;
          tree = expr.Choice first.tree second.tree third.tree;
          moved = moved_behind c w third.to third.moved.counts first.moved third.moved.place;
          keeps = keeps_choice b b' condition whole other first.tree second.tree third.tree first.keeps second.keeps third.keeps;
          reads = r.choice first.reads (t.is ∙ h) (less_deep u.depth first.to.depth limit first.moved.depth d) second.reads (q.is ∙ k) third.reads;
        }

    level_moves : {l : ℕ} {s s' u : Spot} {e : Expr} → Moved c s s' → ReadsLevel limit b x l s u e → u.at < s.at + n → u.at ≤ limit_of c
        → Found c u (KeptExpression b b' e) (λ u' e'. ReadsLevel limit b' y l s' u' e')
    level_moves {s = s} m (r.chain {u = u} {e = e} {es = es} l i j) size within =
        let a = level_forward i in
        let f = operands_forward j in
        let first = level_moves m i (omega arith) (omega arith) in
        let rest = operands_moves first.moved j (omega arith) within in
        record {
          to = rest.to;
          tree = tree.chain_of first.tree rest.tree;
          moved = rest.moved;
          keeps = keeps_chain b b' e first.tree es rest.tree first.keeps rest.keeps;
          reads = r.chain l first.reads rest.reads;
        }
    level_moves m (r.operand l h i) size within =
        let f = unary_forward i in
        let t = same_figure c m (omega arith) in
        let inside = unary_moves m i size within in
        record { to = inside.to; tree = inside.tree; moved = inside.moved; keeps = inside.keeps; reads = r.operand l (t.is ∙ h) inside.reads }

    operands_moves : {l : ℕ} {s s' u : Spot} {es : List (Binary × Expr)} → Moved c s s' → ReadsOperands limit b x l s u es → u.at < s.at + n → u.at ≤ limit_of c
        → Found c u (KeptOperands b b' es) (λ u' es'. ReadsOperands limit b' y l s' u' es')
    operands_moves {l = l} {s' = s'} m (r.no_operand h) size within =
        let t = same_figure c m within in record { to = s'; tree = []; moved = m; keeps = keeps_none b b'; reads = r.no_operand (ap (binary_of l) t.is ∙ h) }
    operands_moves {l = l} m (r.more_operands {s = s} {u = u} {o = o} {e = e} {es = es} h i j) size within =
        let a = over_forward b s in
        let f = level_forward i in
        let g = operands_forward j in
        let t = same_figure c m (omega arith) in
        let first = level_moves t.behind i (omega arith) (omega arith) in
        let rest = operands_moves first.moved j (omega arith) within in
        record {
          to = rest.to;
          tree = (o, first.tree) ∷ rest.tree;
          moved = rest.moved;
          keeps = keeps_operands b b' o e first.tree es rest.tree first.keeps rest.keeps;
          reads = r.more_operands (ap (binary_of l) t.is ∙ h) first.reads rest.reads;
        }

    unary_moves : {g : Figure} {s s' u : Spot} {e : Expr} → Moved c s s' → ReadsUnary limit b x g s u e → u.at < s.at + n → u.at ≤ limit_of c
        → Found c u (KeptExpression b b' e) (λ u' e'. ReadsUnary limit b' y g s' u' e')
    unary_moves {s' = s'} m (r.constant {s = s}) size within =
        let a = over_forward b s in
        let t = same_figure c m (omega arith) in
        record {
          to = over b' s';
          tree = expr.Constant (figure_span b' s');
          moved = t.behind;
          keeps = keeps_as b b' _ _ _ _ (of_constant (figure_span b s)) (of_constant (figure_span b' s')) refl;
          reads = r.constant;
        }
    unary_moves {s' = s'} m (r.variable {s = s}) size within =
        let a = over_forward b s in
        let t = same_figure c m (omega arith) in
        record {
          to = over b' s';
          tree = expr.Variable (figure_span b' s');
          moved = t.behind;
          keeps = keeps_as b b' _ _ _ _ (of_variable (figure_span b s)) (of_variable (figure_span b' s')) refl;
          reads = r.variable;
        }
    unary_moves {s' = s'} m (r.signed {s = s} {u = u} {o = o} {e = e} h d i) size within =
        let a = over_forward b s in
        let f = level_forward i in
        let t = same_figure c m (omega arith) in
        let inside = level_moves (moved_deeper c m t.behind.place) i (omega arith) within in
        record {
          to = behind inside.to.at inside.to s';
          tree = expr.Unary o inside.tree;
          moved = moved_behind c u inside.to inside.moved.counts m inside.moved.place;
          keeps = keeps_as b b' _ _ _ _ (of_unary o e) (of_unary o inside.tree) inside.keeps;
          reads = r.signed h (less_deep s.depth s'.depth limit m.depth d) inside.reads;
        }
    unary_moves {s' = s'} m (r.parenthesis {s = s} {u = u} {e = e} d i h) size within =
        let a = over_forward b s in
        let f = expression_forward i in
        let z = over_forward b u in
        let t = same_figure c m (omega arith) in
        let inside = expression_moves (moved_deeper c m t.behind.place) i (omega arith) (omega arith) in
        let q = same_figure c inside.moved (omega arith) in
        record {
          to = behind (over b' inside.to).at inside.to s';
          tree = expr.Parenthesis inside.tree;
          moved = moved_behind c u inside.to inside.moved.counts m q.behind.place;
          keeps = keeps_as b b' _ _ _ _ (of_parenthesis e) (of_parenthesis inside.tree) inside.keeps;
          reads = r.parenthesis (less_deep s.depth s'.depth limit m.depth d) inside.reads (q.is ∙ h);
        }
    unary_moves m (r.expansion {s = s} {p = p} h k i) size within =
        let a = (figure_moves b s).0 in
        let z = token_moves b x 0 (lexeme b s.at).start in
        let f = part_forward i in
        let t = same_figure c m (omega arith) in
        let inside = expansions.expansion c t.start turns h k i (omega arith) within in
        record {
          to = inside.to;
          tree = expr.Expansion inside.tree;
          moved = inside.moved;
          keeps = keeps_as b b' _ _ _ _ (of_expansion p) (of_expansion inside.tree) inside.keeps.lines;
          reads = r.expansion inside.reads.1 inside.reads.2 inside.reads.3;
        }

pub expressions_move : {limit n : ℕ} → ExpansionsMove limit n → ExpressionsMove limit n
expressions_move expansions = record {
  expression = λ {b} {b'} c {x} {o'} {s} {s'} {u} {e} m turns i size close within.
      expression_moves expansions c x o' turns m i size (let f = over_forward b u in omega arith);
}
