-- The single quotes in parts and expressions, by their kinds.
use Rattle.std.proofs.Common.{◌≡◌, Bool, List, [], ◌∷◌, ◌++◌, Option, refl, sym, ap, ◌∙◌}
use Rattle.std.proofs.lemmas.List.{append-nil}
use Rattle.sh_tree.specs.declared.tree.Action.{Action}
use Rattle.sh_tree.specs.declared.tree.Binary.{Binary}
use Rattle.sh_tree.specs.declared.tree.Element.TheBlock.{items_hidden-the_row-Part-0, hidden-the_row-Part-0, shape-the_row-Expr-1, hidden-the_row-Expr-1, items_hidden-the_row-Expr-Chain-1-2-2, hidden-the_row-Expr-Chain-1-2-2}
use Rattle.sh_tree.specs.declared.tree.Expr.{Expr, Row_of-Expr-Chain-1-2, end_of-Expr-Chain-1-2, more_of-Expr-Chain-1-2, items-the_row-Expr-Chain-1-2}
use Rattle.sh_tree.specs.declared.tree.Expr.TheVariants as expression
use Rattle.sh_tree.specs.declared.tree.Param.{Param}
use Rattle.sh_tree.specs.declared.tree.ParameterOperator.TheVariants as operator
use Rattle.sh_tree.specs.declared.tree.Part.{Part, Row_of-Part, end_of-Part, more_of-Part, items-the_row-Part}
use Rattle.sh_tree.specs.declared.tree.Part.TheVariants as part
use Rattle.sh_tree.specs.declared.tree.Removal.{Removal}
use Rattle.sh_tree.specs.declared.tree.Span.{Span}
use Rattle.sh_tree.specs.declared.tree.Unary.{Unary}
use Rattle.sh_tree.specs.declared.tree.Word.{Word}
use Rattle.sh_tree.specs.standard.language.Trees as tree
use Rattle.sh_tree.specs.standard.language.Parts.{singles, singles_in, row_singles, operator_singles, expression_singles, row_expression_singles, chain_singles}
use Rattle.sh_bodies.specs.Singles.{chained}

-- Lists

parts_listed : {m : _} (k : Row_of-Part m) → row_singles k ≡ singles (items-the_row-Part m k)
unfolding singles_in singles
parts_listed end_of-Part = refl
parts_listed (more_of-Part x rest) = ap (λ xs. singles_in x ++ xs) (parts_listed rest)

chain_listed : {m : _} (k : Row_of-Expr-Chain-1-2 m) → chain_singles k ≡ chained (items-the_row-Expr-Chain-1-2 m k)
unfolding singles_in chained
chain_listed end_of-Expr-Chain-1-2 = refl
chain_listed (more_of-Expr-Chain-1-2 o x rest) = ap (λ xs. expression_singles x ++ xs) (chain_listed rest)

row_hidden : (ps : List Part) → row_singles (hidden-the_row-Part-0 ps) ≡ singles ps
row_hidden ps = parts_listed (hidden-the_row-Part-0 ps) ∙ ap singles (items_hidden-the_row-Part-0 ps)

boxed_row : (e : Expr) → row_expression_singles (hidden-the_row-Expr-1 e) ≡ expression_singles e
unfolding singles_in shape-the_row-Expr-1 hidden-the_row-Expr-1 denote.Hole.Carrier.hidden
boxed_row e = append-nil (expression_singles e)

-- Parts

pub of_single : (style : _) (s : Span) → singles_in (part.Single style s) ≡ s ∷ []
unfolding singles_in
of_single style s = refl

pub of_double : (s : Span) (ps : List Part) → singles_in (part.Double s ps) ≡ singles ps
unfolding singles_in
of_double s ps = row_hidden ps

pub of_param : (p : Param) → singles_in (part.Param p) ≡ operator_singles p.operator
unfolding singles_in
of_param p = refl

pub of_arith : (s : Span) (e : Expr) → singles_in (part.Arith s e) ≡ expression_singles e
unfolding singles_in
of_arith s e = boxed_row e

pub of_plain : (s : Span) → singles_in (part.Plain s) ≡ []
unfolding singles_in
of_plain s = refl

pub of_escaped : (s : Span) → singles_in (part.Escaped s) ≡ []
unfolding singles_in
of_escaped s = refl

pub of_command : (style : _) (s : Span) (t : _) → singles_in (part.Command style s t) ≡ []
unfolding singles_in
of_command style s t = refl

pub of_tilde : (s : Span) → singles_in (part.Tilde s) ≡ []
unfolding singles_in
of_tilde s = refl

pub of_joined : (s : Span) → singles_in (part.Joined s) ≡ []
unfolding singles_in
of_joined s = refl

-- Operators

pub of_use : (a : Action) (colon : Bool) (w : Word) → operator_singles (operator.Use a colon w) ≡ singles w.parts
unfolding singles_in
of_use a colon w = row_hidden w.parts

pub of_remove : (r : Removal) (w : Word) → operator_singles (operator.Remove r w) ≡ singles w.parts
unfolding singles_in
of_remove r w = row_hidden w.parts

pub of_value : operator_singles operator.Value ≡ []
unfolding singles_in
of_value = refl

pub of_length : operator_singles operator.Length ≡ []
unfolding singles_in
of_length = refl

-- Expressions

pub of_constant : (s : Span) → expression_singles (expression.Constant s) ≡ []
unfolding singles_in
of_constant s = refl

pub of_variable : (s : Span) → expression_singles (expression.Variable s) ≡ []
unfolding singles_in
of_variable s = refl

pub of_expansion : (p : Part) → expression_singles (expression.Expansion p) ≡ singles_in p
unfolding singles_in
of_expansion p = refl

pub of_parenthesis : (e : Expr) → expression_singles (expression.Parenthesis e) ≡ expression_singles e
unfolding singles_in
of_parenthesis e = boxed_row e

pub of_unary : (u : Unary) (e : Expr) → expression_singles (expression.Unary u e) ≡ expression_singles e
unfolding singles_in
of_unary u e = boxed_row e

pub of_chain : (e : Expr) (es : List (Binary × Expr)) → expression_singles (expression.Chain e es) ≡ expression_singles e ++ chained es
unfolding singles_in
of_chain e es =
    ap (λ xs. xs ++ chain_singles (hidden-the_row-Expr-Chain-1-2-2 es)) (boxed_row e)
    ∙ ap (λ xs. expression_singles e ++ xs) (chain_listed (hidden-the_row-Expr-Chain-1-2-2 es) ∙ ap chained (items_hidden-the_row-Expr-Chain-1-2-2 es))

pub of_choice : (c y n : Expr) → expression_singles (expression.Choice c y n) ≡ expression_singles c ++ expression_singles y ++ expression_singles n
unfolding singles_in
of_choice c y n = rw (boxed_row c, boxed_row y, boxed_row n) refl

pub of_assign : (s : Span) (o : Option Binary) (e : Expr) → expression_singles (expression.Assign s o e) ≡ expression_singles e
unfolding singles_in
of_assign s o e = boxed_row e

-- an operand, and the operators of one level with theirs
pub of_operands : (e : Expr) (es : List (Binary × Expr)) → expression_singles (tree.chain_of e es) ≡ expression_singles e ++ chained es
unfolding chained
of_operands e [] = sym (append-nil (expression_singles e))
of_operands e (x ∷ xs) = of_chain e (x ∷ xs)
