-- The commands of a piece of a tree, by the pieces one level below it, and what a walk keeps of
-- them.
use Rattle.std.proofs.Common.{◌≡◌, ℕ, ◌<◌, ◌≤◌, ◌+◌, Bool, true, false, Option, Some, None, List, [], ◌∷◌, ◌++◌, length, take, get_or, refl, sym, ap, ◌∙◌, subst, Result, OnOk, fold, nat_lt, arith}
use Rattle.std.specs.List.{flat_map}
use Rattle.std.proofs.lemmas.Bool.Decides.{nat_tests}
use Rattle.std.proofs.lemmas.List.{append-nil, take_more, take_all, flat_map_more}
use Rattle.std.proofs.lemmas.List.Sums.{fold-append}
use Rattle.sh_tree.specs.declared.tree.Action.{Action}
use Rattle.sh_tree.specs.declared.tree.AndOr.{AndOr, out-AndOr}
use Rattle.sh_tree.specs.declared.tree.Binary.{Binary}
use Rattle.sh_tree.specs.declared.tree.Branch.{Branch, out-Branch}
use Rattle.sh_tree.specs.declared.tree.Clause.{Clause, out-Clause}
use Rattle.sh_tree.specs.declared.tree.Command.{Command, out-Command}
use Rattle.sh_tree.specs.declared.tree.CommandStyle.{CommandStyle}
use Rattle.sh_tree.specs.declared.tree.Direction.{Direction}
use Rattle.sh_tree.specs.declared.tree.Element.{Element, Assignment', Word', Redirection'}
use Rattle.sh_tree.specs.declared.tree.Element.TheVariants as element
use Rattle.sh_tree.specs.declared.tree.Expr.{Expr}
use Rattle.sh_tree.specs.declared.tree.Expr.TheVariants as expression
use Rattle.sh_tree.specs.declared.tree.HereDoc.{HereDoc}
use Rattle.sh_tree.specs.declared.tree.Item.{Item, out-Item}
use Rattle.sh_tree.specs.declared.tree.Kind.{Kind}
use Rattle.sh_tree.specs.declared.tree.Kind.TheVariants as kind
use Rattle.sh_tree.specs.declared.tree.Link.{Link}
use Rattle.sh_tree.specs.declared.tree.LoopKind.{LoopKind}
use Rattle.sh_tree.specs.declared.tree.ParameterOperator.TheVariants as operator
use Rattle.sh_tree.specs.declared.tree.Param.{Param}
use Rattle.sh_tree.specs.declared.tree.Part.{Part}
use Rattle.sh_tree.specs.declared.tree.Part.TheVariants as part
use Rattle.sh_tree.specs.declared.tree.Pipe.{Pipe, out-Pipe}
use Rattle.sh_tree.specs.declared.tree.Redirect.{Redirect}
use Rattle.sh_tree.specs.declared.tree.Removal.{Removal}
use Rattle.sh_tree.specs.declared.tree.Script.{Script, out-Script}
use Rattle.sh_tree.specs.declared.tree.SingleStyle.{SingleStyle}
use Rattle.sh_tree.specs.declared.tree.Span.{Span}
use Rattle.sh_tree.specs.declared.tree.Target.TheVariants as target
use Rattle.sh_tree.specs.declared.tree.Unary.{Unary}
use Rattle.sh_tree.specs.declared.tree.Word.{Word}
use Rattle.sh_tree.specs.Lists.{parts_from, words_from, operands_from, items_from, links_from, commands_from, element_from, elements_from, redirects_from, branches_from, otherwise_from, for_words_from, clauses_from}
use Rattle.sh_tree.specs.standard.program.Syntax as p
use Rattle.sh_tree.specs.standard.program.Trees as trees
use Rattle.sh_tree.proofs.ProgramRules as rules
use Rattle.sh_table.specs.declared.site.Around.{Around}
use Rattle.sh_runs.specs.Surroundings.{Located, in_part, in_item, items_located, list_located, links_located, pipeline_located, commands_located, command_located, kind_located, elements_located, redirect_located, redirects_located, branches_located, otherwise_located, for_words_located, words_located, clauses_located, word_located, part_located, operator_located, expression_located, operands_located}
use Rattle.sh_table.specs.Walks.{around, outer, inside_loop, inside_function, round_parts, round_item, of_script, of_item, of_and_or, of_link, of_pipe, of_command, of_kind, of_element, of_target, of_redirect, of_part, of_word, of_operator, of_expression, of_step, of_branch, of_clause, of_option, located}

-- round items and parts

item_around : (x : Around) (background : Bool) → in_item (around x) background ≡ around (round_item x background)
unfolding in_item
item_around x true = refl
item_around x false = refl

parts_around : (b : List ℕ) (x : Around) (cs : List Command) → in_part (around x) (commands_from b cs) ≡ around (round_parts x (length cs))
unfolding in_part commands_from
parts_around b x [] = refl
parts_around b x (c ∷ []) = refl
parts_around b x (c ∷ d ∷ cs) = let more : nat_lt 1 (length (c ∷ d ∷ cs)) ≡ true = grind (arith, nat_tests) in rw more refl

-- lists

items_listed : (b : List ℕ) (x : Around) (is : List Item) → items_located (around x) (items_from b is) ≡ flat_map (of_item b x) is
unfolding items_located items_from of_item of_and_or
items_listed b x [] = refl
items_listed b x (i ∷ is) =
    rw (item_around x (out-Item i).background, items_listed b x is) refl

links_listed : (b : List ℕ) (x : Around) (ls : List (Link × Pipe)) → links_located (around x) (links_from b ls) ≡ flat_map (of_link b x) ls
unfolding items_located links_from of_pipe
links_listed b x [] = refl
links_listed b x (l ∷ ls) = rw (links_listed b x ls) refl

commands_listed : (b : List ℕ) (x : Around) (cs : List Command) → commands_located (around x) (commands_from b cs) ≡ flat_map (of_command b x) cs
unfolding items_located commands_from of_command
commands_listed b x [] = refl
commands_listed b x (c ∷ cs) = rw (commands_listed b x cs) refl

redirects_listed : (b : List ℕ) (rs : List Redirect) → redirects_located (redirects_from b rs) ≡ flat_map (of_redirect b) rs
unfolding items_located redirects_from of_target
redirects_listed b [] = refl
redirects_listed b (r ∷ rs) = rw (redirects_listed b rs) refl

parts_listed : (b : List ℕ) (ps : List Part) → word_located (parts_from b ps) ≡ flat_map (of_part b) ps
unfolding items_located parts_from of_part
parts_listed b [] = refl
parts_listed b (y ∷ ps) = rw (parts_listed b ps) refl

words_listed : (b : List ℕ) (ws : List Word) → words_located (words_from b ws) ≡ flat_map (of_word b) ws
unfolding items_located words_from
words_listed b [] = refl
words_listed b (w ∷ ws) = rw (parts_listed b w.parts, words_listed b ws) refl

element_split : (b : List ℕ) (e : Element) (rest : p.Elements)
    → elements_located (element_from b e rest) ≡ elements_located (element_from b e p.no_elements) ++ elements_located rest
unfolding items_located element_from
element_split b (Assignment' name s shape row) rest = ap (λ l. l ++ elements_located rest) (sym (append-nil (word_located (trees.word_of b row))))
element_split b (Word' s shape row) rest = ap (λ l. l ++ elements_located rest) (sym (append-nil (word_located (trees.word_of b row))))
element_split b (Redirection' at number target) rest = ap (λ l. l ++ elements_located rest) (sym (append-nil (redirect_located (trees.target_of b target))))

elements_listed : (b : List ℕ) (es : List Element) → elements_located (elements_from b es) ≡ flat_map (of_element b) es
unfolding items_located elements_from of_element
elements_listed b [] = refl
elements_listed b (e ∷ es) =
    (element_split b e (elements_from b es)) ∙ rw (elements_listed b es) refl

branches_listed : (b : List ℕ) (x : Around) (cs : List Branch) → branches_located (around x) (branches_from b cs) ≡ flat_map (of_branch b x) cs
unfolding items_located branches_from of_branch of_script
branches_listed b x [] = refl
branches_listed b x (c ∷ cs) =
    rw (branches_listed b x cs) refl

clauses_listed : (b : List ℕ) (x : Around) (cs : List Clause) → clauses_located (around x) (clauses_from b cs) ≡ flat_map (of_clause b x) cs
unfolding items_located clauses_from of_clause of_script
clauses_listed b x [] = refl
clauses_listed b x (c ∷ cs) =
    rw (words_listed b (out-Clause c).patterns, clauses_listed b x cs) refl

chain_listed : (b : List ℕ) (es : List (Binary × Expr)) → operands_located (operands_from b es) ≡ flat_map (of_step b) es
unfolding items_located operands_from of_expression
chain_listed b [] = refl
chain_listed b (e ∷ es) = rw (chain_listed b es) refl

-- structs

pub script_out : (b : List ℕ) (x : Around) (t : Script) → of_script b x t ≡ flat_map (of_item b x) (out-Script t).items
unfolding of_script
script_out b x t = ap (λ l. items_located (around x) l) (rules.script_of-out b t) ∙ items_listed b x (out-Script t).items

pub item_out : (b : List ℕ) (x : Around) (i : Item) → of_item b x i ≡ of_and_or b (round_item x (out-Item i).background) (out-Item i).list
unfolding of_item
item_out b x i = refl

pub and_or_out : (b : List ℕ) (x : Around) (l : AndOr) → of_and_or b x l ≡ of_pipe b x (out-AndOr l).first ++ flat_map (of_link b x) (out-AndOr l).rest
unfolding of_and_or of_pipe items_located
and_or_out b x l =
    ap (λ t. list_located (around x) t) (rules.and_or_of-out b l)
    ∙ ap (λ t. pipeline_located (around x) (trees.pipeline_of b (out-AndOr l).first) ++ t) (links_listed b x (out-AndOr l).rest)

pub pipe_out : (b : List ℕ) (x : Around) (q : Pipe) → of_pipe b x q ≡ flat_map (of_command b (round_parts x (length (out-Pipe q).parts))) (out-Pipe q).parts
unfolding of_pipe items_located
pipe_out b x q =
    ap (λ t. pipeline_located (around x) t) (rules.pipeline_of-out b q)
    ∙ ap (λ y. commands_located y (commands_from b (out-Pipe q).parts)) (parts_around b x (out-Pipe q).parts)
    ∙ commands_listed b (round_parts x (length (out-Pipe q).parts)) (out-Pipe q).parts

pub command_out : (b : List ℕ) (x : Around) (c : Command)
    → of_command b x c ≡ located b x c ∷ (of_kind b x (out-Command c).kind ++ flat_map (of_redirect b) (out-Command c).redirects)
unfolding of_command of_kind items_located
command_out b x c =
    let inner = kind_located (around x) (trees.kind_of b (out-Command c).kind) in
    ap (λ t. command_located (around x) t) (rules.command_of-out b c)
    ∙ ap (λ t. record { command = t; surroundings = around x } ∷ (inner ++ redirects_located (redirects_from b (out-Command c).redirects))) (sym (rules.command_of-out b c))
    ∙ ap (λ l. located b x c ∷ (inner ++ l)) (redirects_listed b (out-Command c).redirects)

pub branch_out : (b : List ℕ) (x : Around) (c : Branch) → of_branch b x c ≡ of_script b x (out-Branch c).condition ++ of_script b x (out-Branch c).body
unfolding of_branch
branch_out b x c = refl

pub clause_out : (b : List ℕ) (x : Around) (c : Clause) → of_clause b x c ≡ flat_map (of_word b) (out-Clause c).patterns ++ of_script b x (out-Clause c).body
unfolding of_clause
clause_out b x c = refl

-- kinds

pub of_kind-Simple : (b : List ℕ) (x : Around) (es : List Element) → of_kind b x (kind.Simple es) ≡ flat_map (of_element b) es
unfolding of_kind items_located
of_kind-Simple b x es = ap (λ k. kind_located (around x) k) (rules.kind_of-Simple b es) ∙ elements_listed b es

pub of_kind-Group : (b : List ℕ) (x : Around) (t : Script) → of_kind b x (kind.Group t) ≡ of_script b x t
unfolding of_kind of_script items_located
of_kind-Group b x t = ap (λ k. kind_located (around x) k) (rules.kind_of-Group b t)

pub of_kind-Subshell : (b : List ℕ) (x : Around) (t : Script) → of_kind b x (kind.Subshell t) ≡ of_script b outer t
unfolding of_kind of_script items_located
of_kind-Subshell b x t = ap (λ k. kind_located (around x) k) (rules.kind_of-Subshell b t)

otherwise_listed : (b : List ℕ) (x : Around) (o : Option Script) → otherwise_located (around x) (otherwise_from b o) ≡ of_option (of_script b x) o
unfolding otherwise_from items_located of_script
otherwise_listed b x None = refl
otherwise_listed b x (Some t) = refl

pub of_kind-Cond : (b : List ℕ) (x : Around) (cs : List Branch) (o : Option Script)
    → of_kind b x (kind.Cond cs o) ≡ flat_map (of_branch b x) cs ++ of_option (of_script b x) o
unfolding of_kind items_located
of_kind-Cond b x cs o =
    ap (λ k. kind_located (around x) k) (rules.kind_of-Cond b cs o)
    ∙ rw (branches_listed b x cs, otherwise_listed b x o) refl

pub of_kind-Loop : (b : List ℕ) (x : Around) (k : LoopKind) (c t : Script) → of_kind b x (kind.Loop k c t) ≡ of_script b (inside_loop x) c ++ of_script b (inside_loop x) t
unfolding of_kind of_script items_located
of_kind-Loop b x k c t =
    ap (λ y. kind_located (around x) y) (rules.kind_of-Loop b k c t)

for_words_listed : (b : List ℕ) (o : Option (List Word)) → for_words_located (for_words_from b o) ≡ of_option (flat_map (of_word b)) o
unfolding for_words_from items_located
for_words_listed b None = refl
for_words_listed b (Some ws) = words_listed b ws

pub of_kind-For : (b : List ℕ) (x : Around) (s : Span) (o : Option (List Word)) (t : Script)
    → of_kind b x (kind.For s o t) ≡ of_option (flat_map (of_word b)) o ++ of_script b (inside_loop x) t
unfolding of_kind of_script items_located
of_kind-For b x s o t =
    ap (λ y. kind_located (around x) y) (rules.kind_of-For b s o t)
    ∙ ap (λ l. l ++ items_located (around (inside_loop x)) (trees.script_of b t)) (for_words_listed b o)

pub of_kind-Branches : (b : List ℕ) (x : Around) (w : Word) (cs : List Clause) → of_kind b x (kind.Branches w cs) ≡ of_word b w ++ flat_map (of_clause b x) cs
unfolding of_kind items_located
of_kind-Branches b x w cs =
    ap (λ y. kind_located (around x) y) (rules.kind_of-Branches b w cs)
    ∙ rw (parts_listed b w.parts, clauses_listed b x cs) refl

pub of_kind-Define : (b : List ℕ) (x : Around) (s : Span) (c : Command) → of_kind b x (kind.Define s c) ≡ of_command b inside_function c
unfolding of_kind of_command items_located
of_kind-Define b x s c = ap (λ y. kind_located (around x) y) (rules.kind_of-Define b s c)

pub of_kind-For-None : (b : List ℕ) (x : Around) (k : Kind) (s : Span) (o : Option (List Word)) (t : Script) → k ≡ kind.For s o t → o ≡ None → of_kind b x k ≡ of_script b (inside_loop x) t
of_kind-For-None b x k s o t e n = ap (of_kind b x) e ∙ of_kind-For b x s o t ∙ ap (λ w. of_option (flat_map (of_word b)) w ++ of_script b (inside_loop x) t) n

pub of_kind-For-Some : (b : List ℕ) (x : Around) (k : Kind) (s : Span) (o : Option (List Word)) (ws : List Word) (t : Script) → k ≡ kind.For s o t → o ≡ Some ws
    → of_kind b x k ≡ flat_map (of_word b) ws ++ of_script b (inside_loop x) t
of_kind-For-Some b x k s o ws t e n = ap (of_kind b x) e ∙ of_kind-For b x s o t ∙ ap (λ w. of_option (flat_map (of_word b)) w ++ of_script b (inside_loop x) t) n

pub ruleset kinds = (of_kind-Simple, of_kind-Group, of_kind-Subshell, of_kind-Cond, of_kind-Loop, of_kind-For, of_kind-Branches, of_kind-Define)

-- elements, targets, parts

pub of_element-Assignment : (b : List ℕ) (s : Span) (w : Word) → of_element b (element.Assignment s w) ≡ of_word b w
unfolding of_element items_located
of_element-Assignment b s w =
    ap (λ e. elements_located e) (rules.element_from-Assignment b s w p.no_elements)
    ∙ (append-nil (word_located (parts_from b w.parts))) ∙ parts_listed b w.parts

pub of_element-Word : (b : List ℕ) (w : Word) → of_element b (element.Word w) ≡ of_word b w
unfolding of_element items_located
of_element-Word b w =
    ap (λ e. elements_located e) (rules.element_from-Word b w p.no_elements)
    ∙ (append-nil (word_located (parts_from b w.parts))) ∙ parts_listed b w.parts

pub of_element-Redirection : (b : List ℕ) (r : Redirect) → of_element b (element.Redirection r) ≡ of_target b r.target
unfolding of_element of_target items_located
of_element-Redirection b r =
    ap (λ e. elements_located e) (rules.element_from-Redirection b r p.no_elements)
    ∙ (append-nil (redirect_located (trees.target_of b r.target)))

pub ruleset elements = (of_element-Assignment, of_element-Word, of_element-Redirection)

pub of_target-File : (b : List ℕ) (d : Direction) (w : Word) → of_target b (target.File d w) ≡ of_word b w
unfolding of_target items_located
of_target-File b d w = ap (λ t. redirect_located t) (rules.target_of-File b d w) ∙ parts_listed b w.parts

pub of_target-Here : (b : List ℕ) (h : HereDoc) → of_target b (target.Here h) ≡ of_word b h.body
unfolding of_target items_located
of_target-Here b h = ap (λ t. redirect_located t) (rules.target_of-Here b h) ∙ parts_listed b h.body.parts

pub ruleset targets = (of_target-File, of_target-Here)

pub of_part-Plain : (b : List ℕ) (s : Span) → of_part b (part.Plain s) ≡ []
unfolding of_part items_located
of_part-Plain b s = ap (λ y. part_located y) (rules.part_of-Plain b s)

pub of_part-Escaped : (b : List ℕ) (s : Span) → of_part b (part.Escaped s) ≡ []
unfolding of_part items_located
of_part-Escaped b s = ap (λ y. part_located y) (rules.part_of-Escaped b s)

pub of_part-Single : (b : List ℕ) (style : SingleStyle) (s : Span) → of_part b (part.Single style s) ≡ []
unfolding of_part items_located
of_part-Single b style s = ap (λ y. part_located y) (rules.part_of-Single b style s)

pub of_part-Tilde : (b : List ℕ) (s : Span) → of_part b (part.Tilde s) ≡ []
unfolding of_part items_located
of_part-Tilde b s = ap (λ y. part_located y) (rules.part_of-Tilde b s)

pub of_part-Joined : (b : List ℕ) (s : Span) → of_part b (part.Joined s) ≡ []
unfolding of_part items_located
of_part-Joined b s = ap (λ y. part_located y) (rules.part_of-Joined b s)

pub of_part-Double : (b : List ℕ) (s : Span) (ps : List Part) → of_part b (part.Double s ps) ≡ flat_map (of_part b) ps
unfolding of_part items_located
of_part-Double b s ps = ap (λ y. part_located y) (rules.part_of-Double b s ps) ∙ parts_listed b ps

pub of_part-Param : (b : List ℕ) (x : Param) → of_part b (part.Param x) ≡ of_operator b x.operator
unfolding of_part of_operator items_located
of_part-Param b x = ap (λ y. part_located y) (rules.part_of-Param b x)

pub of_part-Arith : (b : List ℕ) (s : Span) (e : Expr) → of_part b (part.Arith s e) ≡ of_expression b e
unfolding of_part of_expression items_located
of_part-Arith b s e = ap (λ y. part_located y) (rules.part_of-Arith b s e)

pub of_part-Command : (b : List ℕ) (style : CommandStyle) (s : Span) (t : Script) → of_part b (part.Command style s t) ≡ of_script b outer t
unfolding of_part of_script items_located
of_part-Command b style s t = ap (λ y. part_located y) (rules.part_of-Command b style s t)

pub ruleset parts = (of_part-Double, of_part-Param, of_part-Arith, of_part-Command)

-- operators and expressions

pub of_operator-Value : (b : List ℕ) → of_operator b operator.Value ≡ []
unfolding of_operator items_located
of_operator-Value b = ap (λ y. operator_located y) (rules.operator_of-Value b)

pub of_operator-Length : (b : List ℕ) → of_operator b operator.Length ≡ []
unfolding of_operator items_located
of_operator-Length b = ap (λ y. operator_located y) (rules.operator_of-Length b)

pub of_operator-Use : (b : List ℕ) (a : Action) (colon : Bool) (w : Word) → of_operator b (operator.Use a colon w) ≡ of_word b w
unfolding of_operator items_located
of_operator-Use b a colon w = ap (λ y. operator_located y) (rules.operator_of-Use b a colon w) ∙ parts_listed b w.parts

pub of_operator-Remove : (b : List ℕ) (r : Removal) (w : Word) → of_operator b (operator.Remove r w) ≡ of_word b w
unfolding of_operator items_located
of_operator-Remove b r w = ap (λ y. operator_located y) (rules.operator_of-Remove b r w) ∙ parts_listed b w.parts

pub ruleset operators = (of_operator-Use, of_operator-Remove)

pub of_expression-Constant : (b : List ℕ) (s : Span) → of_expression b (expression.Constant s) ≡ []
unfolding of_expression items_located
of_expression-Constant b s = ap (λ y. expression_located y) (rules.expression_of-Constant b s)

pub of_expression-Variable : (b : List ℕ) (s : Span) → of_expression b (expression.Variable s) ≡ []
unfolding of_expression items_located
of_expression-Variable b s = ap (λ y. expression_located y) (rules.expression_of-Variable b s)

pub of_expression-Expansion : (b : List ℕ) (y : Part) → of_expression b (expression.Expansion y) ≡ of_part b y
unfolding of_expression of_part items_located
of_expression-Expansion b y = ap (λ e. expression_located e) (rules.expression_of-Expansion b y)

pub of_expression-Parenthesis : (b : List ℕ) (e : Expr) → of_expression b (expression.Parenthesis e) ≡ of_expression b e
unfolding of_expression items_located
of_expression-Parenthesis b e = ap (λ y. expression_located y) (rules.expression_of-Parenthesis b e)

pub of_expression-Unary : (b : List ℕ) (u : Unary) (e : Expr) → of_expression b (expression.Unary u e) ≡ of_expression b e
unfolding of_expression items_located
of_expression-Unary b u e = ap (λ y. expression_located y) (rules.expression_of-Unary b u e)

pub of_expression-Chain : (b : List ℕ) (e : Expr) (es : List (Binary × Expr)) → of_expression b (expression.Chain e es) ≡ of_expression b e ++ flat_map (of_step b) es
unfolding of_expression items_located
of_expression-Chain b e es =
    ap (λ y. expression_located y) (rules.expression_of-Chain b e es) ∙ rw (chain_listed b es) refl

pub of_expression-Choice : (b : List ℕ) (c y n : Expr) → of_expression b (expression.Choice c y n) ≡ of_expression b c ++ of_expression b y ++ of_expression b n
unfolding of_expression items_located
of_expression-Choice b c y n =
    ap (λ z. expression_located z) (rules.expression_of-Choice b c y n)

pub of_expression-Assign : (b : List ℕ) (s : Span) (o : Option Binary) (e : Expr) → of_expression b (expression.Assign s o e) ≡ of_expression b e
unfolding of_expression items_located
of_expression-Assign b s o e = ap (λ y. expression_located y) (rules.expression_of-Assign b s o e)

pub ruleset expressions = (of_expression-Expansion, of_expression-Parenthesis, of_expression-Unary, of_expression-Chain, of_expression-Choice, of_expression-Assign)

-- what the walk keeps

-- nothing is visited
pub nothing_visited : {K : Type 0} (P : K → Type 0) (f : K → Located → K) (k : K) (more : List Located) → more ≡ [] → P k → P (fold f k more)
nothing_visited P f k more e h = subst (λ ls. P (fold f k ls)) (sym e) h

-- one piece after another
pub joined : {K : Type 0} (P : K → Type 0) (f : K → Located → K) (k : K) (a b whole : List Located) → whole ≡ a ++ b → P (fold f (fold f k a) b) → P (fold f k whole)
joined P f k a b whole w h = subst P (sym (ap (fold f k) w ∙ fold-append f k a b)) h

pub both : {X E K : Type 0} (P : K → Type 0) (r : Result X E) (f : K → Located → K) (k : K) (a b whole : List Located) → whole ≡ a ++ b
    → OnOk r (P (fold f (fold f k a) b)) → OnOk r (P (fold f k whole))
both P r f k a b whole w h = joined (λ z. OnOk r (P z)) f k a b whole w h

-- three pieces
pub thrice : {X E K : Type 0} (P : K → Type 0) (r : Result X E) (f : K → Located → K) (k : K) (a b d whole : List Located) → whole ≡ a ++ b ++ d
    → OnOk r (P (fold f (fold f (fold f k a) b) d)) → OnOk r (P (fold f k whole))
thrice P r f k a b d whole w h = both P r f k (a ++ b) d whole w (subst (λ z. OnOk r (P (fold f z d))) (sym (fold-append f k a b)) h)

-- a turn of a loop over a list, of which a number are done
pub turned : {X K : Type 0} (P : K → Type 0) (f : K → Located → K) (g : X → List Located) (n : ℕ) (xs : List X) (x : X) (k : K) (a : List Located) → n < length xs → x ≡ get_or xs n x
    → g x ≡ a → P (fold f (fold f k (flat_map g (take n xs))) a) → P (fold f k (flat_map g (take (n + 1) xs)))
turned P f g n xs x k a lt is w h =
    let more : take (n + 1) xs ≡ take n xs ++ x ∷ [] = take_more xs n x lt ∙ ap (λ y. take n xs ++ y ∷ []) (sym is) in
    joined P f k (flat_map g (take n xs)) a (flat_map g (take (n + 1) xs))
    (ap (flat_map g) more ∙ sym (flat_map_more g [] (take n xs) x) ∙ ap (λ ys. flat_map g (take n xs) ++ ys) w) h

-- its end
pub ended : {X K : Type 0} (P : K → Type 0) (f : K → Located → K) (g : X → List Located) (n : ℕ) (xs : List X) (k : K) (whole : List Located) → length xs ≤ n → whole ≡ flat_map g xs
    → P (fold f k (flat_map g (take n xs))) → P (fold f k whole)
ended P f g n xs k whole le w h = subst (λ ys. P (fold f k ys)) (ap (flat_map g) (take_all n xs le) ∙ sym w) h
