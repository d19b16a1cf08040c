-- What is reported of a piece of a tree, by the pieces one level below it.
use Rattle.std.proofs.Common.{◌≡◌, ℕ, nat_lt, Bool, true, false, Option, Some, None, List, [], ◌∷◌, fold, length, refl, sym, ap, ◌∙◌, arith}
use Rattle.std.proofs.lemmas.Bool.Decides.{nat_tests}
use Rattle.sh_tree.specs.declared.place.Place.{Place}
use Rattle.sh_tree.specs.declared.tree.Action.{Action}
use Rattle.sh_tree.specs.declared.tree.AndOr.{AndOr, out-AndOr}
use Rattle.sh_tree.specs.declared.tree.Binary.{Binary}
use Rattle.sh_tree.specs.declared.tree.Branch.{Branch}
use Rattle.sh_tree.specs.declared.tree.Clause.{Clause, out-Clause}
use Rattle.sh_tree.specs.declared.tree.Command.{Command, out-Command}
use Rattle.sh_tree.specs.declared.tree.CommandStyle.{CommandStyle}
use Rattle.sh_tree.specs.declared.tree.Direction.{Direction}
use Rattle.sh_tree.specs.declared.tree.Element.{Element, Assignment', Word', Redirection'}
use Rattle.sh_tree.specs.declared.tree.Element.TheVariants as element
use Rattle.sh_tree.specs.declared.tree.Expr.{Expr}
use Rattle.sh_tree.specs.declared.tree.Expr.TheVariants as expression
use Rattle.sh_tree.specs.declared.tree.HereDoc.{HereDoc}
use Rattle.sh_tree.specs.declared.tree.Item.{Item}
use Rattle.sh_tree.specs.declared.tree.Kind.TheVariants as kind
use Rattle.sh_tree.specs.declared.tree.Link.{Link}
use Rattle.sh_tree.specs.declared.tree.LoopKind.{LoopKind}
use Rattle.sh_tree.specs.declared.tree.ParameterOperator.TheVariants as operator
use Rattle.sh_tree.specs.declared.tree.Param.{Param}
use Rattle.sh_tree.specs.declared.tree.Part.{Part}
use Rattle.sh_tree.specs.declared.tree.Part.TheVariants as part
use Rattle.sh_tree.specs.declared.tree.Pipe.{Pipe, out-Pipe}
use Rattle.sh_tree.specs.declared.tree.Redirect.{Redirect}
use Rattle.sh_tree.specs.declared.tree.Removal.{Removal}
use Rattle.sh_tree.specs.declared.tree.Script.{Script, out-Script}
use Rattle.sh_tree.specs.declared.tree.SingleStyle.{SingleStyle}
use Rattle.sh_tree.specs.declared.tree.Span.{Span}
use Rattle.sh_tree.specs.declared.tree.Target.TheVariants as target
use Rattle.sh_tree.specs.declared.tree.Unary.{Unary}
use Rattle.sh_tree.specs.declared.tree.Word.{Word}
use Rattle.sh_tree.specs.Lists.{parts_from, words_from, operands_from, items_from, links_from, commands_from, element_from, elements_from, redirects_from, branches_from, otherwise_from, for_words_from, clauses_from}
use Rattle.sh_tree.specs.standard.program.Syntax as p
use Rattle.sh_tree.specs.standard.program.Trees as trees
use Rattle.sh_tree.proofs.ProgramRules as rules
use Rattle.sh_domain.specs.Entries.{is_long}
use Rattle.sh_demands.specs.DropWalks.{shared_step}
use Rattle.sh_demands.specs.Own.{own_places}
use Rattle.sh_demands.specs.Places.{Source, known_before, command_places}
use Rattle.sh_demands.specs.Told.{Teller, part_shares, items_told, list_told, links_told, pipeline_told, commands_told, command_told, kind_told, elements_told, redirect_told, redirects_told, branches_told, otherwise_told, for_words_told, words_told, clauses_told, word_told, part_told, operator_told, expression_told, operands_told}
use Rattle.sh_demands.specs.ToldWalks.{parts_share, script_step, item_step, list_step, link_step, pipe_step, command_step, kind_step, element_step, target_step, redirect_step, part_step, word_step, operator_step, expression_step, operand_step, branch_step, clause_step, otherwise_step, listed_step}

parts_shared : (b : List ℕ) (s : Bool) (cs : List Command) → part_shares (is_long (commands_from b cs)) s ≡ parts_share (length cs) s
unfolding is_long commands_from
parts_shared b s [] = refl
parts_shared b s (c ∷ []) = refl
parts_shared b s (c ∷ d ∷ cs) = let more : nat_lt 1 (length (c ∷ d ∷ cs)) ≡ true = grind (arith, nat_tests) in rw more refl

-- lists

items_folded : (f : Teller) (b : List ℕ) (s : Bool) (ps : List Place) (xs : List Item) → items_told f s ps (items_from b xs) ≡ fold (item_step f b s) ps xs
unfolding items_told items_from item_step list_step
items_folded f b s ps [] = refl
items_folded f b s ps (x ∷ xs) = items_folded f b s (item_step f b s ps x) xs

links_folded : (f : Teller) (b : List ℕ) (s : Bool) (ps : List Place) (xs : List (Link × Pipe)) → links_told f s ps (links_from b xs) ≡ fold (link_step f b s) ps xs
unfolding items_told links_from pipe_step
links_folded f b s ps [] = refl
links_folded f b s ps (x ∷ xs) = links_folded f b s (link_step f b s ps x) xs

commands_folded : (f : Teller) (b : List ℕ) (s : Bool) (ps : List Place) (xs : List Command) → commands_told f s ps (commands_from b xs) ≡ fold (command_step f b s) ps xs
unfolding items_told commands_from command_step
commands_folded f b s ps [] = refl
commands_folded f b s ps (x ∷ xs) = commands_folded f b s (command_step f b s ps x) xs

redirects_folded : (f : Teller) (b : List ℕ) (ps : List Place) (xs : List Redirect) → redirects_told f ps (redirects_from b xs) ≡ fold (redirect_step f b) ps xs
unfolding items_told redirects_from target_step
redirects_folded f b ps [] = refl
redirects_folded f b ps (x ∷ xs) = redirects_folded f b (redirect_step f b ps x) xs

parts_folded : (f : Teller) (b : List ℕ) (ps : List Place) (xs : List Part) → word_told f ps (parts_from b xs) ≡ fold (part_step f b) ps xs
unfolding items_told parts_from part_step
parts_folded f b ps [] = refl
parts_folded f b ps (x ∷ xs) = parts_folded f b (part_step f b ps x) xs

words_folded : (f : Teller) (b : List ℕ) (ps : List Place) (xs : List Word) → words_told f ps (words_from b xs) ≡ fold (word_step f b) ps xs
unfolding items_told words_from
words_folded f b ps [] = refl
words_folded f b ps (w ∷ ws) = ap (λ qs. words_told f qs (words_from b ws)) (parts_folded f b ps w.parts) ∙ words_folded f b (word_step f b ps w) ws

told_behind : (f : Teller) (b : List ℕ) (ps : List Place) (e : Element) (rest : p.Elements) → elements_told f ps (element_from b e rest) ≡ elements_told f (element_step f b ps e) rest
unfolding items_told element_from element_step
told_behind f b ps (Assignment' name span shape row) rest = refl
told_behind f b ps (Word' span shape row) rest = refl
told_behind f b ps (Redirection' at number target) rest = refl

elements_folded : (f : Teller) (b : List ℕ) (ps : List Place) (xs : List Element) → elements_told f ps (elements_from b xs) ≡ fold (element_step f b) ps xs
unfolding items_told elements_from
elements_folded f b ps [] = refl
elements_folded f b ps (e ∷ es) = told_behind f b ps e (elements_from b es) ∙ elements_folded f b (element_step f b ps e) es

branches_folded : (f : Teller) (b : List ℕ) (s : Bool) (ps : List Place) (xs : List Branch) → branches_told f s ps (branches_from b xs) ≡ fold (branch_step f b s) ps xs
unfolding items_told branches_from branch_step script_step
branches_folded f b s ps [] = refl
branches_folded f b s ps (x ∷ xs) = branches_folded f b s (branch_step f b s ps x) xs

clauses_folded : (f : Teller) (b : List ℕ) (s : Bool) (ps : List Place) (xs : List Clause) → clauses_told f s ps (clauses_from b xs) ≡ fold (clause_step f b s) ps xs
unfolding items_told clauses_from clause_step script_step
clauses_folded f b s ps [] = refl
clauses_folded f b s ps (c ∷ cs) =
    ap (λ qs. clauses_told f s (items_told f s qs (trees.script_of b (out-Clause c).body)) (clauses_from b cs)) (words_folded f b ps (out-Clause c).patterns)
    ∙ clauses_folded f b s (clause_step f b s ps c) cs

operands_folded : (f : Teller) (b : List ℕ) (ps : List Place) (xs : List (Binary × Expr)) → operands_told f ps (operands_from b xs) ≡ fold (operand_step f b) ps xs
unfolding items_told operands_from expression_step
operands_folded f b ps [] = refl
operands_folded f b ps (x ∷ xs) = operands_folded f b (operand_step f b ps x) xs

otherwise_listed : (f : Teller) (b : List ℕ) (s : Bool) (ps : List Place) (o : Option Script) → otherwise_told f s ps (otherwise_from b o) ≡ otherwise_step f b s ps o
unfolding items_told otherwise_from otherwise_step script_step
otherwise_listed f b s ps None = refl
otherwise_listed f b s ps (Some t) = refl

for_words_listed : (f : Teller) (b : List ℕ) (ps : List Place) (o : Option (List Word)) → for_words_told f ps (for_words_from b o) ≡ listed_step f b ps o
unfolding items_told for_words_from listed_step
for_words_listed f b ps None = refl
for_words_listed f b ps (Some ws) = words_folded f b ps ws

-- structs

pub script_out : (f : Teller) (b : List ℕ) (s : Bool) (ps : List Place) (t : Script) → script_step f b s ps t ≡ fold (item_step f b s) ps (out-Script t).items
unfolding script_step
script_out f b s ps t = ap (items_told f s ps) (rules.script_of-out b t) ∙ items_folded f b s ps (out-Script t).items

pub list_out : (f : Teller) (b : List ℕ) (s : Bool) (ps : List Place) (l : AndOr) → list_step f b s ps l ≡ fold (link_step f b s) (pipe_step f b s ps (out-AndOr l).first) (out-AndOr l).rest
unfolding list_step pipe_step items_told
list_out f b s ps l = ap (list_told f s ps) (rules.and_or_of-out b l) ∙ links_folded f b s (pipe_step f b s ps (out-AndOr l).first) (out-AndOr l).rest

pub pipe_out : (f : Teller) (b : List ℕ) (s : Bool) (ps : List Place) (q : Pipe) → pipe_step f b s ps q ≡ fold (command_step f b (parts_share (length (out-Pipe q).parts) s)) ps (out-Pipe q).parts
unfolding pipe_step items_told
pipe_out f b s ps q =
    ap (pipeline_told f s ps) (rules.pipeline_of-out b q)
    ∙ ap (λ x. commands_told f x ps (commands_from b (out-Pipe q).parts)) (parts_shared b s (out-Pipe q).parts)
    ∙ commands_folded f b (parts_share (length (out-Pipe q).parts) s) ps (out-Pipe q).parts

pub command_out : (f : Teller) (b : List ℕ) (s : Bool) (ps : List Place) (c : Command)
    → command_step f b s ps c ≡ kind_step f b s (fold (redirect_step f b) (f s ps (trees.command_of b c)) (out-Command c).redirects) (out-Command c).kind
unfolding command_step kind_step items_told
command_out f b s ps c =
    ap (command_told f s ps) (rules.command_of-out b c)
    ∙ ap (λ x. kind_told f s (redirects_told f (f s ps x) (redirects_from b (out-Command c).redirects)) (trees.kind_of b (out-Command c).kind)) (sym (rules.command_of-out b c))
    ∙ ap (λ qs. kind_told f s qs (trees.kind_of b (out-Command c).kind)) (redirects_folded f b (f s ps (trees.command_of b c)) (out-Command c).redirects)

pub own_out : (b : List ℕ) (x : Source) (s : Bool) (ps : List Place) (c : Command)
    → command_places x s ps (trees.command_of b c)
    ≡ shared_step b x s (out-Command c).number (out-Command c).at
    (own_places (known_before x (out-Command c).number) ps (trees.kind_of b (out-Command c).kind) (redirects_from b (out-Command c).redirects))
    (out-Command c).kind
unfolding command_places shared_step
own_out b x s ps c = ap (command_places x s ps) (rules.command_of-out b c)

-- kinds

pub kind_step-Simple : (f : Teller) (b : List ℕ) (s : Bool) (ps : List Place) (es : List Element) → kind_step f b s ps (kind.Simple es) ≡ fold (element_step f b) ps es
unfolding kind_step script_step items_told
kind_step-Simple f b s ps es = ap (kind_told f s ps) (rules.kind_of-Simple b es) ∙ elements_folded f b ps es

pub kind_step-Group : (f : Teller) (b : List ℕ) (s : Bool) (ps : List Place) (t : Script) → kind_step f b s ps (kind.Group t) ≡ script_step f b s ps t
unfolding kind_step script_step items_told
kind_step-Group f b s ps t = ap (kind_told f s ps) (rules.kind_of-Group b t)

pub kind_step-Subshell : (f : Teller) (b : List ℕ) (s : Bool) (ps : List Place) (t : Script) → kind_step f b s ps (kind.Subshell t) ≡ script_step f b false ps t
unfolding kind_step script_step items_told
kind_step-Subshell f b s ps t = ap (kind_told f s ps) (rules.kind_of-Subshell b t)

pub kind_step-Cond : (f : Teller) (b : List ℕ) (s : Bool) (ps : List Place) (xs : List Branch) (o : Option Script) → kind_step f b s ps (kind.Cond xs o) ≡ otherwise_step f b s (fold (branch_step f b s) ps xs) o
unfolding kind_step script_step items_told
kind_step-Cond f b s ps xs o =
    ap (kind_told f s ps) (rules.kind_of-Cond b xs o)
    ∙ ap (λ qs. otherwise_told f s qs (otherwise_from b o)) (branches_folded f b s ps xs)
    ∙ otherwise_listed f b s (fold (branch_step f b s) ps xs) o

pub kind_step-Loop : (f : Teller) (b : List ℕ) (s : Bool) (ps : List Place) (k : LoopKind) (c t : Script) → kind_step f b s ps (kind.Loop k c t) ≡ script_step f b s (script_step f b s ps c) t
unfolding kind_step script_step items_told
kind_step-Loop f b s ps k c t = ap (kind_told f s ps) (rules.kind_of-Loop b k c t)

pub kind_step-For : (f : Teller) (b : List ℕ) (s : Bool) (ps : List Place) (at : Span) (o : Option (List Word)) (t : Script) → kind_step f b s ps (kind.For at o t) ≡ script_step f b s (listed_step f b ps o) t
unfolding kind_step script_step items_told
kind_step-For f b s ps at o t = ap (kind_told f s ps) (rules.kind_of-For b at o t) ∙ ap (λ qs. items_told f s qs (trees.script_of b t)) (for_words_listed f b ps o)

pub kind_step-Branches : (f : Teller) (b : List ℕ) (s : Bool) (ps : List Place) (w : Word) (cs : List Clause) → kind_step f b s ps (kind.Branches w cs) ≡ fold (clause_step f b s) (word_step f b ps w) cs
unfolding kind_step script_step items_told
kind_step-Branches f b s ps w cs =
    ap (kind_told f s ps) (rules.kind_of-Branches b w cs)
    ∙ ap (λ qs. clauses_told f s qs (clauses_from b cs)) (parts_folded f b ps w.parts)
    ∙ clauses_folded f b s (word_step f b ps w) cs

pub kind_step-Define : (f : Teller) (b : List ℕ) (s : Bool) (ps : List Place) (at : Span) (c : Command) → kind_step f b s ps (kind.Define at c) ≡ command_step f b false ps c
unfolding kind_step command_step items_told
kind_step-Define f b s ps at c = ap (kind_told f s ps) (rules.kind_of-Define b at c)

pub ruleset kinds = (kind_step-Simple, kind_step-Group, kind_step-Subshell, kind_step-Cond, kind_step-Loop, kind_step-For, kind_step-Branches, kind_step-Define)

-- elements, targets and parts

pub element_step-Assignment : (f : Teller) (b : List ℕ) (ps : List Place) (at : Span) (w : Word) → element_step f b ps (element.Assignment at w) ≡ word_step f b ps w
unfolding element_step items_told
element_step-Assignment f b ps at w = ap (elements_told f ps) (rules.element_from-Assignment b at w p.no_elements) ∙ parts_folded f b ps w.parts

pub element_step-Word : (f : Teller) (b : List ℕ) (ps : List Place) (w : Word) → element_step f b ps (element.Word w) ≡ word_step f b ps w
unfolding element_step items_told
element_step-Word f b ps w = ap (elements_told f ps) (rules.element_from-Word b w p.no_elements) ∙ parts_folded f b ps w.parts

pub element_step-Redirection : (f : Teller) (b : List ℕ) (ps : List Place) (r : Redirect) → element_step f b ps (element.Redirection r) ≡ target_step f b ps r.target
unfolding element_step target_step items_told
element_step-Redirection f b ps r = ap (elements_told f ps) (rules.element_from-Redirection b r p.no_elements)

pub ruleset elements = (element_step-Assignment, element_step-Word, element_step-Redirection)

pub target_step-File : (f : Teller) (b : List ℕ) (ps : List Place) (d : Direction) (w : Word) → target_step f b ps (target.File d w) ≡ word_step f b ps w
unfolding target_step items_told
target_step-File f b ps d w = ap (redirect_told f ps) (rules.target_of-File b d w) ∙ parts_folded f b ps w.parts

pub target_step-Here : (f : Teller) (b : List ℕ) (ps : List Place) (h : HereDoc) → target_step f b ps (target.Here h) ≡ word_step f b ps h.body
unfolding target_step items_told
target_step-Here f b ps h = ap (redirect_told f ps) (rules.target_of-Here b h) ∙ parts_folded f b ps h.body.parts

pub ruleset targets = (target_step-File, target_step-Here)

pub part_step-Double : (f : Teller) (b : List ℕ) (ps : List Place) (at : Span) (xs : List Part) → part_step f b ps (part.Double at xs) ≡ fold (part_step f b) ps xs
unfolding part_step items_told
part_step-Double f b ps at xs = ap (part_told f ps) (rules.part_of-Double b at xs) ∙ parts_folded f b ps xs

pub part_step-Param : (f : Teller) (b : List ℕ) (ps : List Place) (x : Param) → part_step f b ps (part.Param x) ≡ operator_step f b ps x.operator
unfolding part_step operator_step items_told
part_step-Param f b ps x = ap (part_told f ps) (rules.part_of-Param b x)

pub part_step-Arith : (f : Teller) (b : List ℕ) (ps : List Place) (at : Span) (e : Expr) → part_step f b ps (part.Arith at e) ≡ expression_step f b ps e
unfolding part_step expression_step items_told
part_step-Arith f b ps at e = ap (part_told f ps) (rules.part_of-Arith b at e)

pub part_step-Command : (f : Teller) (b : List ℕ) (ps : List Place) (style : CommandStyle) (at : Span) (t : Script) → part_step f b ps (part.Command style at t) ≡ script_step f b false ps t
unfolding part_step script_step items_told
part_step-Command f b ps style at t = ap (part_told f ps) (rules.part_of-Command b style at t)

pub part_step-Plain : (f : Teller) (b : List ℕ) (ps : List Place) (at : Span) → part_step f b ps (part.Plain at) ≡ ps
unfolding part_step items_told
part_step-Plain f b ps at = ap (part_told f ps) (rules.part_of-Plain b at)

pub part_step-Escaped : (f : Teller) (b : List ℕ) (ps : List Place) (at : Span) → part_step f b ps (part.Escaped at) ≡ ps
unfolding part_step items_told
part_step-Escaped f b ps at = ap (part_told f ps) (rules.part_of-Escaped b at)

pub part_step-Single : (f : Teller) (b : List ℕ) (ps : List Place) (style : SingleStyle) (at : Span) → part_step f b ps (part.Single style at) ≡ ps
unfolding part_step items_told
part_step-Single f b ps style at = ap (part_told f ps) (rules.part_of-Single b style at)

pub part_step-Tilde : (f : Teller) (b : List ℕ) (ps : List Place) (at : Span) → part_step f b ps (part.Tilde at) ≡ ps
unfolding part_step items_told
part_step-Tilde f b ps at = ap (part_told f ps) (rules.part_of-Tilde b at)

pub part_step-Joined : (f : Teller) (b : List ℕ) (ps : List Place) (at : Span) → part_step f b ps (part.Joined at) ≡ ps
unfolding part_step items_told
part_step-Joined f b ps at = ap (part_told f ps) (rules.part_of-Joined b at)

pub ruleset parts = (part_step-Double, part_step-Param, part_step-Arith, part_step-Command, part_step-Plain, part_step-Escaped, part_step-Single, part_step-Tilde, part_step-Joined)

-- operators and arithmetic

pub operator_step-Value : (f : Teller) (b : List ℕ) (ps : List Place) → operator_step f b ps (operator.Value) ≡ ps
unfolding operator_step items_told
operator_step-Value f b ps = ap (operator_told f ps) (rules.operator_of-Value b)

pub operator_step-Length : (f : Teller) (b : List ℕ) (ps : List Place) → operator_step f b ps (operator.Length) ≡ ps
unfolding operator_step items_told
operator_step-Length f b ps = ap (operator_told f ps) (rules.operator_of-Length b)

pub operator_step-Use : (f : Teller) (b : List ℕ) (ps : List Place) (by : Action) (colon : Bool) (w : Word) → operator_step f b ps (operator.Use by colon w) ≡ word_step f b ps w
unfolding operator_step items_told
operator_step-Use f b ps by colon w = ap (operator_told f ps) (rules.operator_of-Use b by colon w) ∙ parts_folded f b ps w.parts

pub operator_step-Remove : (f : Teller) (b : List ℕ) (ps : List Place) (by : Removal) (w : Word) → operator_step f b ps (operator.Remove by w) ≡ word_step f b ps w
unfolding operator_step items_told
operator_step-Remove f b ps by w = ap (operator_told f ps) (rules.operator_of-Remove b by w) ∙ parts_folded f b ps w.parts

pub ruleset operators = (operator_step-Value, operator_step-Length, operator_step-Use, operator_step-Remove)

pub expression_step-Constant : (f : Teller) (b : List ℕ) (ps : List Place) (at : Span) → expression_step f b ps (expression.Constant at) ≡ ps
unfolding expression_step items_told
expression_step-Constant f b ps at = ap (expression_told f ps) (rules.expression_of-Constant b at)

pub expression_step-Variable : (f : Teller) (b : List ℕ) (ps : List Place) (at : Span) → expression_step f b ps (expression.Variable at) ≡ ps
unfolding expression_step items_told
expression_step-Variable f b ps at = ap (expression_told f ps) (rules.expression_of-Variable b at)

pub expression_step-Expansion : (f : Teller) (b : List ℕ) (ps : List Place) (x : Part) → expression_step f b ps (expression.Expansion x) ≡ part_step f b ps x
unfolding expression_step part_step items_told
expression_step-Expansion f b ps x = ap (expression_told f ps) (rules.expression_of-Expansion b x)

pub expression_step-Parenthesis : (f : Teller) (b : List ℕ) (ps : List Place) (e : Expr) → expression_step f b ps (expression.Parenthesis e) ≡ expression_step f b ps e
unfolding expression_step items_told
expression_step-Parenthesis f b ps e = ap (expression_told f ps) (rules.expression_of-Parenthesis b e)

pub expression_step-Unary : (f : Teller) (b : List ℕ) (ps : List Place) (u : Unary) (e : Expr) → expression_step f b ps (expression.Unary u e) ≡ expression_step f b ps e
unfolding expression_step items_told
expression_step-Unary f b ps u e = ap (expression_told f ps) (rules.expression_of-Unary b u e)

pub expression_step-Chain : (f : Teller) (b : List ℕ) (ps : List Place) (e : Expr) (es : List (Binary × Expr)) → expression_step f b ps (expression.Chain e es) ≡ fold (operand_step f b) (expression_step f b ps e) es
unfolding expression_step items_told
expression_step-Chain f b ps e es = ap (expression_told f ps) (rules.expression_of-Chain b e es) ∙ operands_folded f b (expression_told f ps (trees.expression_of b e)) es

pub expression_step-Choice : (f : Teller) (b : List ℕ) (ps : List Place) (c y n : Expr) → expression_step f b ps (expression.Choice c y n) ≡ expression_step f b (expression_step f b (expression_step f b ps c) y) n
unfolding expression_step items_told
expression_step-Choice f b ps c y n = ap (expression_told f ps) (rules.expression_of-Choice b c y n)

pub expression_step-Assign : (f : Teller) (b : List ℕ) (ps : List Place) (at : Span) (o : Option Binary) (e : Expr) → expression_step f b ps (expression.Assign at o e) ≡ expression_step f b ps e
unfolding expression_step items_told
expression_step-Assign f b ps at o e = ap (expression_told f ps) (rules.expression_of-Assign b at o e)

pub ruleset expressions = (expression_step-Constant, expression_step-Variable, expression_step-Expansion, expression_step-Parenthesis, expression_step-Unary, expression_step-Chain, expression_step-Choice, expression_step-Assign)
