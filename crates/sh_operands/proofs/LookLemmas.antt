-- What is looked for in a piece of a word, by the pieces one level below it.
use Rattle.std.proofs.Common.{◌≡◌, ℕ, Bool, true, false, ◌&&◌, ◌||◌, List, [], ◌∷◌, Option, refl, ap, ap₂, ◌∙◌}
use Rattle.std.specs.List.{list_any}
use Rattle.sh_tree.specs.declared.tree.Action.{Action}
use Rattle.sh_tree.specs.declared.tree.Action.TheVariants as action
use Rattle.sh_tree.specs.declared.tree.Binary.{Binary}
use Rattle.sh_tree.specs.declared.tree.CommandStyle.{CommandStyle}
use Rattle.sh_tree.specs.declared.tree.Expr.{Expr}
use Rattle.sh_tree.specs.declared.tree.Expr.TheVariants as expression
use Rattle.sh_tree.specs.declared.tree.ParameterOperator.TheVariants as operator
use Rattle.sh_tree.specs.declared.tree.Param.{Param}
use Rattle.sh_tree.specs.declared.tree.Part.{Part}
use Rattle.sh_tree.specs.declared.tree.Part.TheVariants as part
use Rattle.sh_tree.specs.declared.tree.Removal.{Removal}
use Rattle.sh_tree.specs.declared.tree.Script.{Script}
use Rattle.sh_tree.specs.declared.tree.SingleStyle.{SingleStyle}
use Rattle.sh_tree.specs.declared.tree.Span.{Span}
use Rattle.sh_tree.specs.declared.tree.Special.TheVariants as special
use Rattle.sh_tree.specs.declared.tree.Subject.{Subject}
use Rattle.sh_tree.specs.declared.tree.Subject.TheVariants as subject
use Rattle.sh_tree.specs.declared.tree.Unary.{Unary}
use Rattle.sh_tree.specs.declared.tree.Word.{Word}
use Rattle.sh_tree.specs.standard.Tree.{text_of}
use Rattle.sh_tree.specs.Lists.{parts_from, operands_from}
use Rattle.sh_tree.specs.standard.program.Syntax as p
use Rattle.sh_tree.specs.standard.program.Trees as trees
use Rattle.sh_tree.proofs.ProgramRules as rules
use Rattle.sh_runs.specs.Counts.{is_all, word_has_all, operator_has_all}
use Rattle.sh_runs.specs.Quoting.{is_at, is_ifs, word_mentions, word_assigns, operator_assigns, operator_mentions}
use Rattle.sh_operands.specs.declared.looks.Look.{Look}
use Rattle.sh_operands.specs.declared.looks.Look.TheVariants.{SetsIfs, At, Parameters}
use Rattle.sh_operands.specs.Looks as spec
use Rattle.sh_operands.specs.Looks.{in_word, in_part, in_operator, in_expression, in_operands, is_assign, assigns, at_name, at_expansion, has_in_part, has_in_parts, has_in_operator, has_in_expression, has_in_step}

-- lists

pub parts_listed : (look : Look) (quoted : Bool) (b : List ℕ) (ps : List Part) → in_word look quoted (parts_from b ps) ≡ has_in_parts look quoted b ps
unfolding in_word in_part has_in_part parts_from word_mentions word_assigns word_has_all
parts_listed SetsIfs quoted b [] = refl
parts_listed At quoted b [] = refl
parts_listed Parameters quoted b [] = refl
parts_listed SetsIfs quoted b (x ∷ xs) = ap (λ t. has_in_part SetsIfs quoted b x || t) (parts_listed SetsIfs quoted b xs)
parts_listed At quoted b (x ∷ xs) = ap (λ t. has_in_part At quoted b x || t) (parts_listed At quoted b xs)
parts_listed Parameters quoted b (x ∷ xs) = ap (λ t. has_in_part Parameters quoted b x || t) (parts_listed Parameters quoted b xs)

chain_listed : (look : Look) (b : List ℕ) (es : List (Binary × Expr)) → in_operands look (operands_from b es) ≡ list_any (has_in_step look b) es
unfolding in_operands in_expression has_in_expression operands_from word_mentions word_assigns word_has_all
chain_listed SetsIfs b [] = refl
chain_listed At b [] = refl
chain_listed Parameters b [] = refl
chain_listed SetsIfs b (e ∷ es) = ap (λ t. has_in_expression SetsIfs b e.1 || t) (chain_listed SetsIfs b es)
chain_listed At b (e ∷ es) = ap (λ t. has_in_expression At b e.1 || t) (chain_listed At b es)
chain_listed Parameters b (e ∷ es) = ap (λ t. has_in_expression Parameters b e.1 || t) (chain_listed Parameters b es)

-- operators

pub assigns-Use : (b : List ℕ) (a : Action) (colon : Bool) (w : Word) → assigns b (operator.Use a colon w) ≡ is_assign a
unfolding assigns spec.operator_assigns
assigns-Use b a colon w = ap spec.operator_assigns (rules.operator_of-Use b a colon w)

pub assigns-Remove : (b : List ℕ) (r : Removal) (w : Word) → assigns b (operator.Remove r w) ≡ false
unfolding assigns spec.operator_assigns
assigns-Remove b r w = ap spec.operator_assigns (rules.operator_of-Remove b r w)

pub assigns-Value : (b : List ℕ) → assigns b operator.Value ≡ false
unfolding assigns spec.operator_assigns
assigns-Value b = ap spec.operator_assigns (rules.operator_of-Value b)

pub assigns-Length : (b : List ℕ) → assigns b operator.Length ≡ false
unfolding assigns spec.operator_assigns
assigns-Length b = ap spec.operator_assigns (rules.operator_of-Length b)

pub ruleset assigning = (assigns-Use, assigns-Remove, assigns-Value, assigns-Length)

pub has_in_operator-Use : (look : Look) (quoted : Bool) (b : List ℕ) (a : Action) (colon : Bool) (w : Word) → has_in_operator look quoted b (operator.Use a colon w) ≡ has_in_parts look quoted b w.parts
unfolding has_in_operator in_operator
has_in_operator-Use look quoted b a colon w = ap (in_operator look quoted) (rules.operator_of-Use b a colon w) ∙ parts_listed look quoted b w.parts

pub has_in_operator-Remove : (look : Look) (quoted : Bool) (b : List ℕ) (r : Removal) (w : Word) → has_in_operator look quoted b (operator.Remove r w) ≡ has_in_parts look false b w.parts
unfolding has_in_operator in_operator
has_in_operator-Remove look quoted b r w = ap (in_operator look quoted) (rules.operator_of-Remove b r w) ∙ parts_listed look false b w.parts

pub has_in_operator-Value : (look : Look) (quoted : Bool) (b : List ℕ) → has_in_operator look quoted b operator.Value ≡ false
unfolding has_in_operator in_operator
has_in_operator-Value look quoted b = ap (in_operator look quoted) (rules.operator_of-Value b)

pub has_in_operator-Length : (look : Look) (quoted : Bool) (b : List ℕ) → has_in_operator look quoted b operator.Length ≡ false
unfolding has_in_operator in_operator
has_in_operator-Length look quoted b = ap (in_operator look quoted) (rules.operator_of-Length b)

pub ruleset operators = (has_in_operator-Use, has_in_operator-Remove, has_in_operator-Value, has_in_operator-Length)

-- an expansion: itself, and the word after its operator

expansion_assigns : (quoted : Bool) (parameter : p.Parameter) (o : p.Operator) → operator_assigns is_ifs parameter o ≡ ((spec.operator_assigns o && spec.is_variable_ifs parameter) || in_operator SetsIfs quoted o)
unfolding word_assigns spec.operator_assigns spec.is_variable_ifs is_assign in_operator in_word
expansion_assigns quoted (p.Variable name) (p.Use action.Assign colon w) = refl
expansion_assigns quoted (p.Variable name) (p.Use action.Default colon w) = refl
expansion_assigns quoted (p.Variable name) (p.Use action.Fault colon w) = refl
expansion_assigns quoted (p.Variable name) (p.Use action.Alternative colon w) = refl
expansion_assigns quoted (p.Variable name) (p.Remove removal w) = refl
expansion_assigns quoted (p.Variable name) p.Value = refl
expansion_assigns quoted (p.Variable name) p.Length = refl
expansion_assigns quoted (p.Positional n) (p.Use action.Assign colon w) = refl
expansion_assigns quoted (p.Positional n) (p.Use action.Default colon w) = refl
expansion_assigns quoted (p.Positional n) (p.Use action.Fault colon w) = refl
expansion_assigns quoted (p.Positional n) (p.Use action.Alternative colon w) = refl
expansion_assigns quoted (p.Positional n) (p.Remove removal w) = refl
expansion_assigns quoted (p.Positional n) p.Value = refl
expansion_assigns quoted (p.Positional n) p.Length = refl
expansion_assigns quoted (p.Special c) (p.Use action.Assign colon w) = refl
expansion_assigns quoted (p.Special c) (p.Use action.Default colon w) = refl
expansion_assigns quoted (p.Special c) (p.Use action.Fault colon w) = refl
expansion_assigns quoted (p.Special c) (p.Use action.Alternative colon w) = refl
expansion_assigns quoted (p.Special c) (p.Remove removal w) = refl
expansion_assigns quoted (p.Special c) p.Value = refl
expansion_assigns quoted (p.Special c) p.Length = refl

expansion_mentions : (quoted : Bool) (o : p.Operator) → operator_mentions is_at o ≡ in_operator At quoted o
unfolding word_mentions in_operator in_word
expansion_mentions quoted (p.Use a colon w) = refl
expansion_mentions quoted (p.Remove removal w) = refl
expansion_mentions quoted p.Value = refl
expansion_mentions quoted p.Length = refl

expansion_has_all : (quoted : Bool) (o : p.Operator) → operator_has_all quoted o ≡ in_operator Parameters quoted o
unfolding word_has_all in_operator in_word
expansion_has_all quoted (p.Use a colon w) = refl
expansion_has_all quoted (p.Remove removal w) = refl
expansion_has_all quoted p.Value = refl
expansion_has_all quoted p.Length = refl

pub subject_all : (b : List ℕ) (quoted : Bool) (s : Subject) → is_all quoted (trees.parameter_of b s) ≡ spec.subject_is_all quoted s
unfolding is_all trees.parameter_of spec.subject_is_all spec.special_is_all
subject_all b quoted (subject.Name s) = refl
subject_all b quoted (subject.Positional n s) = refl
subject_all b quoted (subject.Special special.At s) = refl
subject_all b quoted (subject.Special special.Asterisk s) = refl
subject_all b quoted (subject.Special special.NumberSign s) = refl
subject_all b quoted (subject.Special special.QuestionMark s) = refl
subject_all b quoted (subject.Special special.Hyphen s) = refl
subject_all b quoted (subject.Special special.Dollar s) = refl
subject_all b quoted (subject.Special special.Exclamation s) = refl
subject_all b quoted (subject.Special special.Zero s) = refl

subject_at : (b : List ℕ) (s : Subject) → is_at (trees.parameter_of b s) ≡ spec.subject_is_all true s
unfolding is_at trees.parameter_of spec.subject_is_all spec.special_is_all
subject_at b (subject.Name s) = refl
subject_at b (subject.Positional n s) = refl
subject_at b (subject.Special special.At s) = refl
subject_at b (subject.Special special.Asterisk s) = refl
subject_at b (subject.Special special.NumberSign s) = refl
subject_at b (subject.Special special.QuestionMark s) = refl
subject_at b (subject.Special special.Hyphen s) = refl
subject_at b (subject.Special special.Dollar s) = refl
subject_at b (subject.Special special.Exclamation s) = refl
subject_at b (subject.Special special.Zero s) = refl

-- parts

pub has_in_part-Param : (look : Look) (quoted : Bool) (b : List ℕ) (x : Param)
    → has_in_part look quoted b (part.Param x) ≡ (at_expansion look quoted b x.subject x.operator || has_in_operator look quoted b x.operator)
unfolding has_in_part in_part at_expansion spec.subject_is_ifs assigns has_in_operator word_assigns word_mentions word_has_all
has_in_part-Param SetsIfs quoted b x = ap (in_part SetsIfs quoted) (rules.part_of-Param b x) ∙ expansion_assigns quoted (trees.parameter_of b x.subject) (trees.operator_of b x.operator)
has_in_part-Param At quoted b x =
    ap (in_part At quoted) (rules.part_of-Param b x) ∙ ap₂ (λ s t. s || t) (subject_at b x.subject) (expansion_mentions quoted (trees.operator_of b x.operator))
has_in_part-Param Parameters quoted b x =
    ap (in_part Parameters quoted) (rules.part_of-Param b x) ∙ ap₂ (λ s t. s || t) (subject_all b quoted x.subject) (expansion_has_all quoted (trees.operator_of b x.operator))

pub has_in_part-Double : (look : Look) (quoted : Bool) (b : List ℕ) (s : Span) (ps : List Part) → has_in_part look quoted b (part.Double s ps) ≡ has_in_parts look true b ps
unfolding has_in_part in_part in_word word_assigns word_mentions word_has_all
has_in_part-Double SetsIfs quoted b s ps = ap (in_part SetsIfs quoted) (rules.part_of-Double b s ps) ∙ parts_listed SetsIfs true b ps
has_in_part-Double At quoted b s ps = ap (in_part At quoted) (rules.part_of-Double b s ps) ∙ parts_listed At true b ps
has_in_part-Double Parameters quoted b s ps = ap (in_part Parameters quoted) (rules.part_of-Double b s ps) ∙ parts_listed Parameters true b ps

pub has_in_part-Arith : (look : Look) (quoted : Bool) (b : List ℕ) (s : Span) (e : Expr) → has_in_part look quoted b (part.Arith s e) ≡ has_in_expression look b e
unfolding has_in_part in_part has_in_expression in_expression word_assigns word_mentions word_has_all
has_in_part-Arith SetsIfs quoted b s e = ap (in_part SetsIfs quoted) (rules.part_of-Arith b s e)
has_in_part-Arith At quoted b s e = ap (in_part At quoted) (rules.part_of-Arith b s e)
has_in_part-Arith Parameters quoted b s e = ap (in_part Parameters quoted) (rules.part_of-Arith b s e)

pub has_in_part-Plain : (look : Look) (quoted : Bool) (b : List ℕ) (s : Span) → has_in_part look quoted b (part.Plain s) ≡ false
unfolding has_in_part in_part word_assigns word_mentions word_has_all
has_in_part-Plain SetsIfs quoted b s = ap (in_part SetsIfs quoted) (rules.part_of-Plain b s)
has_in_part-Plain At quoted b s = ap (in_part At quoted) (rules.part_of-Plain b s)
has_in_part-Plain Parameters quoted b s = ap (in_part Parameters quoted) (rules.part_of-Plain b s)

pub has_in_part-Escaped : (look : Look) (quoted : Bool) (b : List ℕ) (s : Span) → has_in_part look quoted b (part.Escaped s) ≡ false
unfolding has_in_part in_part word_assigns word_mentions word_has_all
has_in_part-Escaped SetsIfs quoted b s = ap (in_part SetsIfs quoted) (rules.part_of-Escaped b s)
has_in_part-Escaped At quoted b s = ap (in_part At quoted) (rules.part_of-Escaped b s)
has_in_part-Escaped Parameters quoted b s = ap (in_part Parameters quoted) (rules.part_of-Escaped b s)

pub has_in_part-Single : (look : Look) (quoted : Bool) (b : List ℕ) (style : SingleStyle) (s : Span) → has_in_part look quoted b (part.Single style s) ≡ false
unfolding has_in_part in_part word_assigns word_mentions word_has_all
has_in_part-Single SetsIfs quoted b style s = ap (in_part SetsIfs quoted) (rules.part_of-Single b style s)
has_in_part-Single At quoted b style s = ap (in_part At quoted) (rules.part_of-Single b style s)
has_in_part-Single Parameters quoted b style s = ap (in_part Parameters quoted) (rules.part_of-Single b style s)

pub has_in_part-Command : (look : Look) (quoted : Bool) (b : List ℕ) (style : CommandStyle) (s : Span) (t : Script) → has_in_part look quoted b (part.Command style s t) ≡ false
unfolding has_in_part in_part word_assigns word_mentions word_has_all
has_in_part-Command SetsIfs quoted b style s t = ap (in_part SetsIfs quoted) (rules.part_of-Command b style s t)
has_in_part-Command At quoted b style s t = ap (in_part At quoted) (rules.part_of-Command b style s t)
has_in_part-Command Parameters quoted b style s t = ap (in_part Parameters quoted) (rules.part_of-Command b style s t)

pub has_in_part-Tilde : (look : Look) (quoted : Bool) (b : List ℕ) (s : Span) → has_in_part look quoted b (part.Tilde s) ≡ false
unfolding has_in_part in_part word_assigns word_mentions word_has_all
has_in_part-Tilde SetsIfs quoted b s = ap (in_part SetsIfs quoted) (rules.part_of-Tilde b s)
has_in_part-Tilde At quoted b s = ap (in_part At quoted) (rules.part_of-Tilde b s)
has_in_part-Tilde Parameters quoted b s = ap (in_part Parameters quoted) (rules.part_of-Tilde b s)

pub has_in_part-Joined : (look : Look) (quoted : Bool) (b : List ℕ) (s : Span) → has_in_part look quoted b (part.Joined s) ≡ false
unfolding has_in_part in_part word_assigns word_mentions word_has_all
has_in_part-Joined SetsIfs quoted b s = ap (in_part SetsIfs quoted) (rules.part_of-Joined b s)
has_in_part-Joined At quoted b s = ap (in_part At quoted) (rules.part_of-Joined b s)
has_in_part-Joined Parameters quoted b s = ap (in_part Parameters quoted) (rules.part_of-Joined b s)

pub ruleset parts = (has_in_part-Double, has_in_part-Param, has_in_part-Arith, has_in_part-Plain, has_in_part-Escaped, has_in_part-Single, has_in_part-Command, has_in_part-Tilde, has_in_part-Joined)

-- expressions

pub has_in_expression-Constant : (look : Look) (b : List ℕ) (s : Span) → has_in_expression look b (expression.Constant s) ≡ false
unfolding has_in_expression in_expression has_in_part in_part in_operands at_name word_assigns word_mentions word_has_all is_at
has_in_expression-Constant SetsIfs b s = ap (in_expression SetsIfs) (rules.expression_of-Constant b s)
has_in_expression-Constant At b s = ap (in_expression At) (rules.expression_of-Constant b s)
has_in_expression-Constant Parameters b s = ap (in_expression Parameters) (rules.expression_of-Constant b s)

pub has_in_expression-Variable : (look : Look) (b : List ℕ) (s : Span) → has_in_expression look b (expression.Variable s) ≡ false
unfolding has_in_expression in_expression has_in_part in_part in_operands at_name word_assigns word_mentions word_has_all is_at
has_in_expression-Variable SetsIfs b s = ap (in_expression SetsIfs) (rules.expression_of-Variable b s)
has_in_expression-Variable At b s = ap (in_expression At) (rules.expression_of-Variable b s)
has_in_expression-Variable Parameters b s = ap (in_expression Parameters) (rules.expression_of-Variable b s)

pub has_in_expression-Expansion : (look : Look) (b : List ℕ) (y : Part) → has_in_expression look b (expression.Expansion y) ≡ has_in_part look true b y
unfolding has_in_expression in_expression has_in_part in_part in_operands at_name word_assigns word_mentions word_has_all is_at
has_in_expression-Expansion SetsIfs b y = ap (in_expression SetsIfs) (rules.expression_of-Expansion b y)
has_in_expression-Expansion At b y = ap (in_expression At) (rules.expression_of-Expansion b y)
has_in_expression-Expansion Parameters b y = ap (in_expression Parameters) (rules.expression_of-Expansion b y)

pub has_in_expression-Parenthesis : (look : Look) (b : List ℕ) (e : Expr) → has_in_expression look b (expression.Parenthesis e) ≡ has_in_expression look b e
unfolding has_in_expression in_expression has_in_part in_part in_operands at_name word_assigns word_mentions word_has_all is_at
has_in_expression-Parenthesis SetsIfs b e = ap (in_expression SetsIfs) (rules.expression_of-Parenthesis b e)
has_in_expression-Parenthesis At b e = ap (in_expression At) (rules.expression_of-Parenthesis b e)
has_in_expression-Parenthesis Parameters b e = ap (in_expression Parameters) (rules.expression_of-Parenthesis b e)

pub has_in_expression-Unary : (look : Look) (b : List ℕ) (u : Unary) (e : Expr) → has_in_expression look b (expression.Unary u e) ≡ has_in_expression look b e
unfolding has_in_expression in_expression has_in_part in_part in_operands at_name word_assigns word_mentions word_has_all is_at
has_in_expression-Unary SetsIfs b u e = ap (in_expression SetsIfs) (rules.expression_of-Unary b u e)
has_in_expression-Unary At b u e = ap (in_expression At) (rules.expression_of-Unary b u e)
has_in_expression-Unary Parameters b u e = ap (in_expression Parameters) (rules.expression_of-Unary b u e)

pub has_in_expression-Chain : (look : Look) (b : List ℕ) (e : Expr) (es : List (Binary × Expr)) → has_in_expression look b (expression.Chain e es) ≡ (has_in_expression look b e || list_any (has_in_step look b) es)
unfolding has_in_expression in_expression has_in_part in_part in_operands at_name word_assigns word_mentions word_has_all is_at
has_in_expression-Chain SetsIfs b e es = ap (in_expression SetsIfs) (rules.expression_of-Chain b e es) ∙ ap (λ t. has_in_expression SetsIfs b e || t) (chain_listed SetsIfs b es)
has_in_expression-Chain At b e es = ap (in_expression At) (rules.expression_of-Chain b e es) ∙ ap (λ t. has_in_expression At b e || t) (chain_listed At b es)
has_in_expression-Chain Parameters b e es = ap (in_expression Parameters) (rules.expression_of-Chain b e es) ∙ ap (λ t. has_in_expression Parameters b e || t) (chain_listed Parameters b es)

pub has_in_expression-Choice : (look : Look) (b : List ℕ) (c y n : Expr) → has_in_expression look b (expression.Choice c y n) ≡ (has_in_expression look b c || has_in_expression look b y || has_in_expression look b n)
unfolding has_in_expression in_expression has_in_part in_part in_operands at_name word_assigns word_mentions word_has_all is_at
has_in_expression-Choice SetsIfs b c y n = ap (in_expression SetsIfs) (rules.expression_of-Choice b c y n)
has_in_expression-Choice At b c y n = ap (in_expression At) (rules.expression_of-Choice b c y n)
has_in_expression-Choice Parameters b c y n = ap (in_expression Parameters) (rules.expression_of-Choice b c y n)

pub has_in_expression-Assign : (look : Look) (b : List ℕ) (s : Span) (o : Option Binary) (e : Expr) → has_in_expression look b (expression.Assign s o e) ≡ (at_name look (text_of b s) || has_in_expression look b e)
unfolding has_in_expression in_expression has_in_part in_part in_operands at_name word_assigns word_mentions word_has_all is_at
has_in_expression-Assign SetsIfs b s o e = ap (in_expression SetsIfs) (rules.expression_of-Assign b s o e)
has_in_expression-Assign At b s o e = ap (in_expression At) (rules.expression_of-Assign b s o e)
has_in_expression-Assign Parameters b s o e = ap (in_expression Parameters) (rules.expression_of-Assign b s o e)

pub ruleset expressions = (has_in_expression-Constant, has_in_expression-Variable, has_in_expression-Expansion, has_in_expression-Parenthesis, has_in_expression-Unary, has_in_expression-Chain, has_in_expression-Choice, has_in_expression-Assign)
