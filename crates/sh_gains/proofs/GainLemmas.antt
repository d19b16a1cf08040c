-- What is known after a piece of a tree, by the pieces one level below it.
use Rattle.std.proofs.Common.{◌≡◌, ℕ, Bool, true, false, Option, List, [], ◌∷◌, fold, refl, ap, ◌∙◌, sym}
use Rattle.sh_tree.specs.declared.tree.Action.{Action}
use Rattle.sh_tree.specs.declared.tree.Action.TheVariants as action
use Rattle.sh_tree.specs.declared.tree.Binary.{Binary}
use Rattle.sh_tree.specs.declared.tree.Binary.TheVariants as binary
use Rattle.sh_tree.specs.declared.tree.CommandStyle.{CommandStyle}
use Rattle.sh_tree.specs.declared.tree.Direction.{Direction}
use Rattle.sh_tree.specs.declared.tree.Expr.{Expr}
use Rattle.sh_tree.specs.declared.tree.Expr.TheVariants as expression
use Rattle.sh_tree.specs.declared.tree.HereDoc.{HereDoc}
use Rattle.sh_tree.specs.declared.tree.ParameterOperator.TheVariants as operator
use Rattle.sh_tree.specs.declared.tree.Param.{Param}
use Rattle.sh_tree.specs.declared.tree.Part.{Part}
use Rattle.sh_tree.specs.declared.tree.Part.TheVariants as part
use Rattle.sh_tree.specs.declared.tree.Redirect.{Redirect}
use Rattle.sh_tree.specs.declared.tree.Removal.{Removal}
use Rattle.sh_tree.specs.declared.tree.Script.{Script}
use Rattle.sh_tree.specs.declared.tree.SingleStyle.{SingleStyle}
use Rattle.sh_tree.specs.declared.tree.Span.{Span}
use Rattle.sh_tree.specs.declared.tree.Special.{Special}
use Rattle.sh_tree.specs.declared.tree.Special.TheVariants as special
use Rattle.sh_tree.specs.declared.tree.Subject.{Subject}
use Rattle.sh_tree.specs.declared.tree.Subject.TheVariants as subject
use Rattle.sh_tree.specs.declared.tree.Target.TheVariants as target
use Rattle.sh_tree.specs.declared.tree.Unary.{Unary}
use Rattle.sh_tree.specs.declared.tree.Word.{Word}
use Rattle.sh_tree.specs.standard.Tree.{text_of}
use Rattle.sh_tree.specs.Lists.{parts_from, words_from, operands_from, redirects_from, element_from, elements_from}
use Rattle.sh_tree.specs.standard.program.Syntax as p
use Rattle.sh_tree.specs.standard.program.Syntax.{Text}
use Rattle.sh_tree.specs.standard.program.Trees as trees
use Rattle.sh_tree.proofs.ProgramRules as rules
use Rattle.sh_domain.specs.Gains.{Gains, no_gains, named, job, and_gains, sure, surely, operator_gains, assigned_in, operands_assigned, part_gains, word_gains, expanded_gains, operands_gains, words_gains, redirect_gains, redirects_gains}
use Rattle.sh_gains.specs.Knowing.{Knowing, gained, action_gains, may_stop, inner_gains}
use Rattle.sh_gains.specs.Walks.{special_gained, subject_gained, action_gained, operator_gained, part_gained, word_gained, redirect_gained, expression_gained, step_gained, expression_assigned, step_assigned, element_gained, inner_gained}
use Rattle.sh_gains.proofs.KnowingLemmas.{gained_none, gained_both, named_both}
use Rattle.sh_tree.specs.declared.tree.Element.{Element, Assignment', Word', Redirection'}
use Rattle.sh_tree.specs.declared.tree.Element.TheVariants as element
use Rattle.sh_tree.specs.standard.program.Words.{operands_in}

-- what is gained is known by an equation
same : {g h : Gains} (k : Knowing) → g ≡ h → gained g k ≡ gained h k
same k e = ap (λ (x : Gains). gained x k) e

nothing : {g : Gains} (k : Knowing) → g ≡ no_gains → gained g k ≡ k
nothing k e = same k e ∙ gained_none k

-- parameters

pub special_gained-Exclamation : (k : Knowing) → special_gained k special.Exclamation ≡ gained (named (job ∷ [])) k
unfolding special_gained sure
special_gained-Exclamation k = refl

pub special_gained-At : (k : Knowing) → special_gained k special.At ≡ k
unfolding special_gained sure
special_gained-At k = gained_none k

pub special_gained-Asterisk : (k : Knowing) → special_gained k special.Asterisk ≡ k
unfolding special_gained sure
special_gained-Asterisk k = gained_none k

pub special_gained-NumberSign : (k : Knowing) → special_gained k special.NumberSign ≡ k
unfolding special_gained sure
special_gained-NumberSign k = gained_none k

pub special_gained-QuestionMark : (k : Knowing) → special_gained k special.QuestionMark ≡ k
unfolding special_gained sure
special_gained-QuestionMark k = gained_none k

pub special_gained-Hyphen : (k : Knowing) → special_gained k special.Hyphen ≡ k
unfolding special_gained sure
special_gained-Hyphen k = gained_none k

pub special_gained-Dollar : (k : Knowing) → special_gained k special.Dollar ≡ k
unfolding special_gained sure
special_gained-Dollar k = gained_none k

pub special_gained-Zero : (k : Knowing) → special_gained k special.Zero ≡ k
unfolding special_gained sure
special_gained-Zero k = gained_none k

pub ruleset specials = (special_gained-Exclamation, special_gained-At, special_gained-Asterisk, special_gained-NumberSign, special_gained-QuestionMark, special_gained-Hyphen, special_gained-Dollar, special_gained-Zero)

pub subject_gained-Name : (b : List ℕ) (k : Knowing) (s : Span) → subject_gained b k (subject.Name s) ≡ gained (named (text_of b s ∷ [])) k
unfolding subject_gained trees.parameter_of sure
subject_gained-Name b k s = refl

pub subject_gained-Positional : (b : List ℕ) (k : Knowing) (n : ℕ) (s : Span) → subject_gained b k (subject.Positional n s) ≡ gained (record { names = []; args = n }) k
unfolding subject_gained trees.parameter_of sure
subject_gained-Positional b k n s = refl

pub subject_gained-Special : (b : List ℕ) (k : Knowing) (c : Special) (s : Span) → subject_gained b k (subject.Special c s) ≡ special_gained k c
unfolding subject_gained special_gained trees.parameter_of
subject_gained-Special b k c s = refl

pub ruleset subjects = (subject_gained-Name, subject_gained-Positional, subject_gained-Special)

pub action_gained-Default : (b : List ℕ) (k : Knowing) (s : Subject) → action_gained b k s action.Default ≡ k
unfolding action_gained action_gains
action_gained-Default b k s = gained_none k

pub action_gained-Assign : (b : List ℕ) (k : Knowing) (s : Subject) → action_gained b k s action.Assign ≡ subject_gained b k s
unfolding action_gained action_gains subject_gained
action_gained-Assign b k s = refl

pub action_gained-Fault : (b : List ℕ) (k : Knowing) (s : Subject) → action_gained b k s action.Fault ≡ subject_gained b k s
unfolding action_gained action_gains subject_gained
action_gained-Fault b k s = refl

pub action_gained-Alternative : (b : List ℕ) (k : Knowing) (s : Subject) → action_gained b k s action.Alternative ≡ k
unfolding action_gained action_gains
action_gained-Alternative b k s = gained_none k

pub ruleset actions = (action_gained-Default, action_gained-Assign, action_gained-Fault, action_gained-Alternative)

pub inner_gained-Default : (b : List ℕ) (k : Knowing) (s : Subject) → inner_gained b k s action.Default ≡ k
unfolding inner_gained inner_gains
inner_gained-Default b k s = gained_none k

pub inner_gained-Assign : (b : List ℕ) (k : Knowing) (s : Subject) → inner_gained b k s action.Assign ≡ k
unfolding inner_gained inner_gains
inner_gained-Assign b k s = gained_none k

pub inner_gained-Fault : (b : List ℕ) (k : Knowing) (s : Subject) → inner_gained b k s action.Fault ≡ k
unfolding inner_gained inner_gains
inner_gained-Fault b k s = gained_none k

pub inner_gained-Alternative : (b : List ℕ) (k : Knowing) (s : Subject) → inner_gained b k s action.Alternative ≡ subject_gained b k s
unfolding inner_gained inner_gains subject_gained
inner_gained-Alternative b k s = refl

pub ruleset entered = (inner_gained-Default, inner_gained-Assign, inner_gained-Fault, inner_gained-Alternative)

use_gains : (q : p.Parameter) (a : Action) (colon : Bool) (w : p.Word) → operator_gains q (p.Use a colon w) ≡ action_gains q a
unfolding operator_gains action_gains
use_gains q action.Default colon w = refl
use_gains q action.Assign colon w = refl
use_gains q action.Fault colon w = refl
use_gains q action.Alternative colon w = refl

pub operator_gained-Value : (b : List ℕ) (k : Knowing) (s : Subject) → operator_gained b k s operator.Value ≡ k
unfolding operator_gained operator_gains
operator_gained-Value b k s = nothing k (ap (operator_gains (trees.parameter_of b s)) (rules.operator_of-Value b))

pub operator_gained-Length : (b : List ℕ) (k : Knowing) (s : Subject) → operator_gained b k s operator.Length ≡ k
unfolding operator_gained operator_gains
operator_gained-Length b k s = nothing k (ap (operator_gains (trees.parameter_of b s)) (rules.operator_of-Length b))

pub operator_gained-Use : (b : List ℕ) (k : Knowing) (s : Subject) (a : Action) (colon : Bool) (w : Word) → operator_gained b k s (operator.Use a colon w) ≡ action_gained b k s a
unfolding operator_gained action_gained
operator_gained-Use b k s a colon w =
    same k (ap (operator_gains (trees.parameter_of b s)) (rules.operator_of-Use b a colon w) ∙ use_gains (trees.parameter_of b s) a colon (parts_from b w.parts))

pub operator_gained-Remove : (b : List ℕ) (k : Knowing) (s : Subject) (r : Removal) (w : Word) → operator_gained b k s (operator.Remove r w) ≡ k
unfolding operator_gained operator_gains
operator_gained-Remove b k s r w = nothing k (ap (operator_gains (trees.parameter_of b s)) (rules.operator_of-Remove b r w))

pub ruleset operators = (operator_gained-Value, operator_gained-Length, operator_gained-Use, operator_gained-Remove)

-- names that arithmetic assigns

surely_none : (o : Binary) (names : List Text) → may_stop o ≡ true → surely o names ≡ []
unfolding surely may_stop
surely_none binary.And names e = refl
surely_none binary.Or names e = refl
surely_none _ names e = cc

surely_all : (o : Binary) (names : List Text) → may_stop o ≡ false → surely o names ≡ names
unfolding surely may_stop
surely_all binary.And names e = cc
surely_all binary.Or names e = cc
surely_all _ names e = refl

pub step_left_out : (b : List ℕ) (k : Knowing) (x : Binary × Expr) → may_stop x.0 ≡ true → step_assigned b k x ≡ k
unfolding step_assigned
step_left_out b k x e = nothing k (ap named (surely_none x.0 (assigned_in (trees.expression_of b x.1)) e))

pub step_done : (b : List ℕ) (k : Knowing) (x : Binary × Expr) → may_stop x.0 ≡ false → step_assigned b k x ≡ expression_assigned b k x.1
unfolding step_assigned expression_assigned
step_done b k x e = same k (ap named (surely_all x.0 (assigned_in (trees.expression_of b x.1)) e))

pub ruleset steps = (step_left_out, step_done)

steps_folded : (b : List ℕ) (k : Knowing) (es : List (Binary × Expr)) → gained (named (operands_assigned (operands_from b es))) k ≡ fold (step_assigned b) k es
unfolding assigned_in operands_from step_assigned
steps_folded b k [] = gained_none k
steps_folded b k (x ∷ xs) =
    named_both (surely x.0 (assigned_in (trees.expression_of b x.1))) (operands_assigned (operands_from b xs)) k ∙ steps_folded b (step_assigned b k x) xs

pub expression_assigned-Constant : (b : List ℕ) (k : Knowing) (s : Span) → expression_assigned b k (expression.Constant s) ≡ k
unfolding expression_assigned assigned_in
expression_assigned-Constant b k s = nothing k (ap (λ e. named (assigned_in e)) (rules.expression_of-Constant b s))

pub expression_assigned-Variable : (b : List ℕ) (k : Knowing) (s : Span) → expression_assigned b k (expression.Variable s) ≡ k
unfolding expression_assigned assigned_in
expression_assigned-Variable b k s = nothing k (ap (λ e. named (assigned_in e)) (rules.expression_of-Variable b s))

pub expression_assigned-Expansion : (b : List ℕ) (k : Knowing) (x : Part) → expression_assigned b k (expression.Expansion x) ≡ k
unfolding expression_assigned assigned_in
expression_assigned-Expansion b k x = nothing k (ap (λ e. named (assigned_in e)) (rules.expression_of-Expansion b x))

pub expression_assigned-Parenthesis : (b : List ℕ) (k : Knowing) (e : Expr) → expression_assigned b k (expression.Parenthesis e) ≡ expression_assigned b k e
unfolding expression_assigned assigned_in
expression_assigned-Parenthesis b k e = same k (ap (λ x. named (assigned_in x)) (rules.expression_of-Parenthesis b e))

pub expression_assigned-Unary : (b : List ℕ) (k : Knowing) (u : Unary) (e : Expr) → expression_assigned b k (expression.Unary u e) ≡ expression_assigned b k e
unfolding expression_assigned assigned_in
expression_assigned-Unary b k u e = same k (ap (λ x. named (assigned_in x)) (rules.expression_of-Unary b u e))

pub expression_assigned-Chain : (b : List ℕ) (k : Knowing) (e : Expr) (es : List (Binary × Expr))
    → expression_assigned b k (expression.Chain e es) ≡ fold (step_assigned b) (expression_assigned b k e) es
unfolding expression_assigned assigned_in
expression_assigned-Chain b k e es =
    same k (ap (λ x. named (assigned_in x)) (rules.expression_of-Chain b e es))
    ∙ named_both (assigned_in (trees.expression_of b e)) (operands_assigned (operands_from b es)) k
    ∙ steps_folded b (gained (named (assigned_in (trees.expression_of b e))) k) es

pub expression_assigned-Choice : (b : List ℕ) (k : Knowing) (c y n : Expr) → expression_assigned b k (expression.Choice c y n) ≡ expression_assigned b k c
unfolding expression_assigned assigned_in
expression_assigned-Choice b k c y n = same k (ap (λ x. named (assigned_in x)) (rules.expression_of-Choice b c y n))

pub expression_assigned-Assign : (b : List ℕ) (k : Knowing) (s : Span) (o : Option Binary) (e : Expr)
    → expression_assigned b k (expression.Assign s o e) ≡ expression_assigned b (gained (named (text_of b s ∷ [])) k) e
unfolding expression_assigned assigned_in
expression_assigned-Assign b k s o e =
    same k (ap (λ x. named (assigned_in x)) (rules.expression_of-Assign b s o e)) ∙ named_both (text_of b s ∷ []) (assigned_in (trees.expression_of b e)) k

pub ruleset assigned = (expression_assigned-Constant, expression_assigned-Variable, expression_assigned-Expansion, expression_assigned-Parenthesis, expression_assigned-Unary, expression_assigned-Chain, expression_assigned-Choice, expression_assigned-Assign)

-- expansions in arithmetic

operands_folded : (b : List ℕ) (k : Knowing) (es : List (Binary × Expr)) → gained (operands_gains (operands_from b es)) k ≡ fold (step_gained b) k es
unfolding part_gains operands_from expression_gained
operands_folded b k [] = gained_none k
operands_folded b k (x ∷ xs) =
    gained_both (expanded_gains (trees.expression_of b x.1)) (operands_gains (operands_from b xs)) k ∙ operands_folded b (step_gained b k x) xs

pub expression_gained-Constant : (b : List ℕ) (k : Knowing) (s : Span) → expression_gained b k (expression.Constant s) ≡ k
unfolding expression_gained part_gains
expression_gained-Constant b k s = nothing k (ap expanded_gains (rules.expression_of-Constant b s))

pub expression_gained-Variable : (b : List ℕ) (k : Knowing) (s : Span) → expression_gained b k (expression.Variable s) ≡ k
unfolding expression_gained part_gains
expression_gained-Variable b k s = nothing k (ap expanded_gains (rules.expression_of-Variable b s))

pub expression_gained-Expansion : (b : List ℕ) (k : Knowing) (x : Part) → expression_gained b k (expression.Expansion x) ≡ part_gained b k x
unfolding expression_gained part_gained part_gains
expression_gained-Expansion b k x = same k (ap expanded_gains (rules.expression_of-Expansion b x))

pub expression_gained-Parenthesis : (b : List ℕ) (k : Knowing) (e : Expr) → expression_gained b k (expression.Parenthesis e) ≡ expression_gained b k e
unfolding expression_gained part_gains
expression_gained-Parenthesis b k e = same k (ap expanded_gains (rules.expression_of-Parenthesis b e))

pub expression_gained-Unary : (b : List ℕ) (k : Knowing) (u : Unary) (e : Expr) → expression_gained b k (expression.Unary u e) ≡ expression_gained b k e
unfolding expression_gained part_gains
expression_gained-Unary b k u e = same k (ap expanded_gains (rules.expression_of-Unary b u e))

pub expression_gained-Chain : (b : List ℕ) (k : Knowing) (e : Expr) (es : List (Binary × Expr))
    → expression_gained b k (expression.Chain e es) ≡ fold (step_gained b) (expression_gained b k e) es
unfolding expression_gained part_gains
expression_gained-Chain b k e es =
    same k (ap expanded_gains (rules.expression_of-Chain b e es))
    ∙ gained_both (expanded_gains (trees.expression_of b e)) (operands_gains (operands_from b es)) k
    ∙ operands_folded b (gained (expanded_gains (trees.expression_of b e)) k) es

pub expression_gained-Choice : (b : List ℕ) (k : Knowing) (c y n : Expr)
    → expression_gained b k (expression.Choice c y n) ≡ expression_gained b (expression_gained b (expression_gained b k c) y) n
unfolding expression_gained part_gains
expression_gained-Choice b k c y n =
    same k (ap expanded_gains (rules.expression_of-Choice b c y n))
    ∙ gained_both (expanded_gains (trees.expression_of b c)) (and_gains (expanded_gains (trees.expression_of b y)) (expanded_gains (trees.expression_of b n))) k
    ∙ gained_both (expanded_gains (trees.expression_of b y)) (expanded_gains (trees.expression_of b n)) (gained (expanded_gains (trees.expression_of b c)) k)

pub expression_gained-Assign : (b : List ℕ) (k : Knowing) (s : Span) (o : Option Binary) (e : Expr) → expression_gained b k (expression.Assign s o e) ≡ expression_gained b k e
unfolding expression_gained part_gains
expression_gained-Assign b k s o e = same k (ap expanded_gains (rules.expression_of-Assign b s o e))

pub ruleset expressions = (expression_gained-Constant, expression_gained-Variable, expression_gained-Expansion, expression_gained-Parenthesis, expression_gained-Unary, expression_gained-Chain, expression_gained-Choice, expression_gained-Assign)

-- parts

pub parts_folded : (b : List ℕ) (k : Knowing) (ps : List Part) → gained (word_gains (parts_from b ps)) k ≡ fold (part_gained b) k ps
unfolding part_gains parts_from part_gained
parts_folded b k [] = gained_none k
parts_folded b k (x ∷ xs) = gained_both (part_gains (trees.part_of b x)) (word_gains (parts_from b xs)) k ∙ parts_folded b (part_gained b k x) xs

pub part_gained-Double : (b : List ℕ) (k : Knowing) (s : Span) (ps : List Part) → part_gained b k (part.Double s ps) ≡ fold (part_gained b) k ps
unfolding part_gained part_gains
part_gained-Double b k s ps = same k (ap part_gains (rules.part_of-Double b s ps)) ∙ parts_folded b k ps

pub part_gained-Param : (b : List ℕ) (k : Knowing) (x : Param) → part_gained b k (part.Param x) ≡ operator_gained b k x.subject x.operator
unfolding part_gained part_gains operator_gained
part_gained-Param b k x = same k (ap part_gains (rules.part_of-Param b x))

pub part_gained-Arith : (b : List ℕ) (k : Knowing) (s : Span) (e : Expr) → part_gained b k (part.Arith s e) ≡ expression_assigned b (expression_gained b k e) e
unfolding part_gained part_gains expression_gained expression_assigned
part_gained-Arith b k s e =
    same k (ap part_gains (rules.part_of-Arith b s e)) ∙ gained_both (expanded_gains (trees.expression_of b e)) (named (assigned_in (trees.expression_of b e))) k

pub part_gained-Plain : (b : List ℕ) (k : Knowing) (s : Span) → part_gained b k (part.Plain s) ≡ k
unfolding part_gained part_gains
part_gained-Plain b k s = nothing k (ap part_gains (rules.part_of-Plain b s))

pub part_gained-Escaped : (b : List ℕ) (k : Knowing) (s : Span) → part_gained b k (part.Escaped s) ≡ k
unfolding part_gained part_gains
part_gained-Escaped b k s = nothing k (ap part_gains (rules.part_of-Escaped b s))

pub part_gained-Single : (b : List ℕ) (k : Knowing) (style : SingleStyle) (s : Span) → part_gained b k (part.Single style s) ≡ k
unfolding part_gained part_gains
part_gained-Single b k style s = nothing k (ap part_gains (rules.part_of-Single b style s))

pub part_gained-Command : (b : List ℕ) (k : Knowing) (style : CommandStyle) (s : Span) (t : Script) → part_gained b k (part.Command style s t) ≡ k
unfolding part_gained part_gains
part_gained-Command b k style s t = nothing k (ap part_gains (rules.part_of-Command b style s t))

pub part_gained-Tilde : (b : List ℕ) (k : Knowing) (s : Span) → part_gained b k (part.Tilde s) ≡ k
unfolding part_gained part_gains
part_gained-Tilde b k s = nothing k (ap part_gains (rules.part_of-Tilde b s))

pub part_gained-Joined : (b : List ℕ) (k : Knowing) (s : Span) → part_gained b k (part.Joined s) ≡ k
unfolding part_gained part_gains
part_gained-Joined b k s = nothing k (ap part_gains (rules.part_of-Joined b s))

pub ruleset parts = (part_gained-Double, part_gained-Param, part_gained-Arith, part_gained-Plain, part_gained-Escaped, part_gained-Single, part_gained-Command, part_gained-Tilde, part_gained-Joined)

-- words and redirections

pub words_folded : (b : List ℕ) (k : Knowing) (ws : List Word) → gained (words_gains (words_from b ws)) k ≡ fold (word_gained b) k ws
unfolding words_gains words_from
words_folded b k [] = gained_none k
words_folded b k (w ∷ ws) = gained_both (word_gains (parts_from b w.parts)) (words_gains (words_from b ws)) k ∙ words_folded b (word_gained b k w) ws

pub redirects_folded : (b : List ℕ) (k : Knowing) (rs : List Redirect) → gained (redirects_gains (redirects_from b rs)) k ≡ fold (redirect_gained b) k rs
unfolding redirects_gains redirects_from
redirects_folded b k [] = gained_none k
redirects_folded b k (r ∷ rs) = gained_both (redirect_gains (trees.target_of b r.target)) (redirects_gains (redirects_from b rs)) k ∙ redirects_folded b (redirect_gained b k r) rs

pub redirect_gains-File : (b : List ℕ) (d : Direction) (w : Word) → redirect_gains (trees.target_of b (target.File d w)) ≡ word_gains (parts_from b w.parts)
unfolding redirect_gains
redirect_gains-File b d w = ap redirect_gains (rules.target_of-File b d w)

pub redirect_gains-Here : (b : List ℕ) (h : HereDoc) → redirect_gains (trees.target_of b (target.Here h)) ≡ word_gains (parts_from b h.body.parts)
unfolding redirect_gains
redirect_gains-Here b h = ap redirect_gains (rules.target_of-Here b h)

pub ruleset targets = (redirect_gains-File, redirect_gains-Here)

-- operands

lone : (k : Knowing) (w : p.Word) → gained (words_gains (p.more_words w p.no_words)) k ≡ gained (word_gains w) k
unfolding words_gains
lone k w = gained_both (word_gains w) no_gains k ∙ gained_none (gained (word_gains w) k)

pub element_gained-Assignment : (b : List ℕ) (k : Knowing) (s : Span) (w : Word) → element_gained b k (element.Assignment s w) ≡ k
unfolding element_gained operands_in words_gains
element_gained-Assignment b k s w = ap (λ es. gained (words_gains (operands_in es)) k) (rules.element_from-Assignment b s w p.no_elements) ∙ gained_none k

pub element_gained-Word : (b : List ℕ) (k : Knowing) (w : Word) → element_gained b k (element.Word w) ≡ gained (word_gains (parts_from b w.parts)) k
unfolding element_gained operands_in
element_gained-Word b k w = ap (λ es. gained (words_gains (operands_in es)) k) (rules.element_from-Word b w p.no_elements) ∙ lone k (parts_from b w.parts)

pub element_gained-Redirection : (b : List ℕ) (k : Knowing) (r : Redirect) → element_gained b k (element.Redirection r) ≡ k
unfolding element_gained operands_in words_gains
element_gained-Redirection b k r = ap (λ es. gained (words_gains (operands_in es)) k) (rules.element_from-Redirection b r p.no_elements) ∙ gained_none k

pub ruleset elements = (element_gained-Assignment, element_gained-Word, element_gained-Redirection)

gained_behind : (b : List ℕ) (k : Knowing) (e : Element) (rest : p.Elements)
    → gained (words_gains (operands_in (element_from b e rest))) k ≡ gained (words_gains (operands_in rest)) (element_gained b k e)
unfolding element_gained operands_in element_from words_gains
gained_behind b k (Assignment' name s shape row) rest = ap (gained (words_gains (operands_in rest))) (sym (gained_none k))
gained_behind b k (Word' s shape row) rest =
    gained_both (word_gains (trees.word_of b row)) (words_gains (operands_in rest)) k
    ∙ ap (gained (words_gains (operands_in rest))) (sym (lone k (trees.word_of b row)))
gained_behind b k (Redirection' at number target) rest = ap (gained (words_gains (operands_in rest))) (sym (gained_none k))

pub operands_gained : (b : List ℕ) (k : Knowing) (es : List Element) → gained (words_gains (operands_in (elements_from b es))) k ≡ fold (element_gained b) k es
unfolding operands_in elements_from words_gains
operands_gained b k [] = gained_none k
operands_gained b k (e ∷ es) = gained_behind b k e (elements_from b es) ∙ operands_gained b (element_gained b k e) es
