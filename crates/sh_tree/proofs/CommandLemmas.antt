-- The commands of a piece of a tree, by the pieces one level below it.
use Rattle.std.proofs.Common.{◌≡◌, ℕ, ◌<◌, ◌≤◌, ◌+◌, Bool, Option, Some, None, List, [], ◌∷◌, ◌++◌, refl, sym, ap, ◌∙◌, Result, Ok, Err, OnOk, append_assoc, map, length, drop, get_or, Bor, Vec, Global, IfOk, subst}
use Rattle.std.specs.List.{flat_map}
use Rattle.std.specs.Option.{option_map_or}
use Rattle.std.specs.List.Sorted.{IsPermutation}
use Rattle.std.proofs.lemmas.List.{append-nil, map-append, drop_more, drop_all}
use Rattle.std.proofs.lemmas.List.Sorted.{IsPermutation-map, IsPermutation-refl}
use Rattle.sh_tree.specs.declared.tree.Binary.{Binary}
use Rattle.sh_tree.specs.declared.tree.Span.{Span}
use Rattle.sh_tree.specs.declared.tree.Script.{Script, Script', out-Script, Row_of-Item, end_of-Item, more_of-Item, items-the_row-Item}
use Rattle.sh_tree.specs.declared.tree.Item.{Item, Item', out-Item}
use Rattle.sh_tree.specs.declared.tree.AndOr.{AndOr, AndOr', out-AndOr, Row_of-AndOr-rest-2, end_of-AndOr-rest-2, more_of-AndOr-rest-2, items-the_row-AndOr-rest-2}
use Rattle.sh_tree.specs.declared.tree.Pipe.{Pipe, Pipe', out-Pipe, Row_of-Command, end_of-Command, more_of-Command, items-the_row-Command}
use Rattle.sh_tree.specs.declared.tree.Command.{Command, Command', out-Command, Row_of-Redirect, end_of-Redirect, more_of-Redirect, items-the_row-Redirect}
use Rattle.sh_tree.specs.declared.tree.Kind.{Kind, Row_of-Element, end_of-Element, more_of-Element, items-the_row-Element, Row_of-Branch, end_of-Branch, more_of-Branch, items-the_row-Branch, Row_of-Word, end_of-Word, more_of-Word, items-the_row-Word, Row_of-Clause, end_of-Clause, more_of-Clause, items-the_row-Clause}
use Rattle.sh_tree.specs.declared.tree.Kind.TheVariants as kind
use Rattle.sh_tree.specs.declared.tree.LoopKind.{LoopKind}
use Rattle.sh_tree.specs.declared.tree.CommandStyle.{CommandStyle}
use Rattle.sh_tree.specs.declared.tree.Redirect.{Redirect}
use Rattle.sh_tree.specs.declared.tree.HereDoc.{HereDoc}
use Rattle.sh_tree.specs.declared.tree.Target.TheVariants as target
use Rattle.sh_tree.specs.declared.tree.Direction.{Direction}
use Rattle.sh_tree.specs.declared.tree.Word.{Word}
use Rattle.sh_tree.specs.declared.tree.Branch.{Branch, Branch', out-Branch}
use Rattle.sh_tree.specs.declared.tree.Clause.{Clause, Clause', out-Clause}
use Rattle.sh_tree.specs.declared.tree.Element.{Element}
use Rattle.sh_tree.specs.declared.tree.Element.TheVariants as element
use Rattle.sh_tree.specs.declared.tree.Param.{Param}
use Rattle.sh_tree.specs.declared.tree.Part.{Part, Row_of-Part, end_of-Part, more_of-Part, items-the_row-Part}
use Rattle.sh_tree.specs.declared.tree.Part.TheVariants as part
use Rattle.sh_tree.specs.declared.tree.ParameterOperator.TheVariants as operator
use Rattle.sh_tree.specs.declared.tree.Action.{Action}
use Rattle.sh_tree.specs.declared.tree.Removal.{Removal}
use Rattle.sh_tree.specs.declared.tree.Unary.{Unary}
use Rattle.sh_tree.specs.declared.tree.Expr.{Expr, Row_of-Expr-Chain-1-2, end_of-Expr-Chain-1-2, more_of-Expr-Chain-1-2, items-the_row-Expr-Chain-1-2}
use Rattle.sh_tree.specs.declared.tree.Expr.TheVariants as expression
use Rattle.sh_tree.specs.declared.tree.Element.TheBlock.{items_shown-the_row-Part-0, items_hidden-the_row-Part-0, shown-the_row-Part-0, hidden-the_row-Part-0, items_hidden-the_row-Element-3, hidden-the_row-Element-3, items_hidden-the_row-Branch-4, hidden-the_row-Branch-4, back-Kind-Cond-1, back-Kind-For-1, items_shown-the_row-Word-5, items_hidden-the_row-Word-5, hidden-the_row-Word-5, items_hidden-the_row-Clause-6, hidden-the_row-Clause-6, shape-the_row-Command-7, hidden-the_row-Command-7, shape-the_row-Expr-1, hidden-the_row-Expr-1, items_hidden-the_row-Expr-Chain-1-2-2, hidden-the_row-Expr-Chain-1-2-2, items_shown-the_row-AndOr-rest-2-8, items_shown-the_row-Redirect-9, items_shown-the_row-Command-10, items_shown-the_row-Item-11}
use Rattle.sh_tree.specs.Commands.{of_script, of_items, of_item, of_and_or, of_links, of_pipe, of_commands, of_command, of_redirects, of_redirect, of_link, of_step, of_kind, of_elements, of_element, of_branches, of_branch, of_otherwise, of_list, of_words, of_word, of_clauses, of_clause, of_target, of_parts, of_part, of_operator, of_expressions, of_chain, of_expression}

-- lists
items_listed : {m : _} (k : Row_of-Item m) → of_items k ≡ flat_map of_item (items-the_row-Item m k)
unfolding of_items
items_listed end_of-Item = refl
items_listed (more_of-Item x rest) = ap (λ xs. of_item x ++ xs) (items_listed rest)

links_listed : {m : _} (k : Row_of-AndOr-rest-2 m) → of_links k ≡ flat_map of_link (items-the_row-AndOr-rest-2 m k)
unfolding of_items
links_listed end_of-AndOr-rest-2 = refl
links_listed (more_of-AndOr-rest-2 link x rest) = ap (λ xs. of_pipe x ++ xs) (links_listed rest)

commands_listed : {m : _} (k : Row_of-Command m) → of_commands k ≡ flat_map of_command (items-the_row-Command m k)
unfolding of_items
commands_listed end_of-Command = refl
commands_listed (more_of-Command x rest) = ap (λ xs. of_command x ++ xs) (commands_listed rest)

redirects_listed : {m : _} (k : Row_of-Redirect m) → of_redirects k ≡ flat_map of_redirect (items-the_row-Redirect m k)
unfolding of_items
redirects_listed end_of-Redirect = refl
redirects_listed (more_of-Redirect at number target rest) = ap (λ xs. of_target target ++ xs) (redirects_listed rest)

elements_listed : {m : _} (k : Row_of-Element m) → of_elements k ≡ flat_map of_element (items-the_row-Element m k)
unfolding of_items
elements_listed end_of-Element = refl
elements_listed (more_of-Element x rest) = ap (λ xs. of_element x ++ xs) (elements_listed rest)

branches_listed : {m : _} (k : Row_of-Branch m) → of_branches k ≡ flat_map of_branch (items-the_row-Branch m k)
unfolding of_items
branches_listed end_of-Branch = refl
branches_listed (more_of-Branch x rest) = ap (λ xs. of_branch x ++ xs) (branches_listed rest)

clauses_listed : {m : _} (k : Row_of-Clause m) → of_clauses k ≡ flat_map of_clause (items-the_row-Clause m k)
unfolding of_items
clauses_listed end_of-Clause = refl
clauses_listed (more_of-Clause x rest) = ap (λ xs. of_clause x ++ xs) (clauses_listed rest)

parts_listed : {m : _} (k : Row_of-Part m) → of_parts k ≡ flat_map of_part (items-the_row-Part m k)
unfolding of_items
parts_listed end_of-Part = refl
parts_listed (more_of-Part x rest) = ap (λ xs. of_part x ++ xs) (parts_listed rest)

words_listed : {m : _} (k : Row_of-Word m) → of_words k ≡ flat_map of_word (items-the_row-Word m k)
unfolding of_items
words_listed end_of-Word = refl
words_listed (more_of-Word span shape parts rest) =
    ap (λ xs. xs ++ of_words rest) (parts_listed parts ∙ ap (flat_map of_part) (sym (items_shown-the_row-Part-0 shape parts)))
    ∙ ap (λ xs. flat_map of_part (shown-the_row-Part-0 shape parts) ++ xs) (words_listed rest)

chain_listed : {m : _} (k : Row_of-Expr-Chain-1-2 m) → of_chain k ≡ flat_map of_step (items-the_row-Expr-Chain-1-2 m k)
unfolding of_items
chain_listed end_of-Expr-Chain-1-2 = refl
chain_listed (more_of-Expr-Chain-1-2 operator x rest) = ap (λ xs. of_expression x ++ xs) (chain_listed rest)

-- structs

pub script_out : (x : Script) → of_script x ≡ flat_map of_item (out-Script x).items
unfolding of_script out-Script denote.Hole.Carrier.out
script_out (Script' shape items) = items_listed items ∙ ap (flat_map of_item) (sym (items_shown-the_row-Item-11 shape items))

pub item_out : (x : Item) → of_item x ≡ of_and_or (out-Item x).list
unfolding of_script out-Item denote.Hole.Carrier.out
item_out (Item' list background) = refl

pub and_or_out : (x : AndOr) → of_and_or x ≡ of_pipe (out-AndOr x).first ++ flat_map of_link (out-AndOr x).rest
unfolding of_script out-AndOr denote.Hole.Carrier.out
and_or_out (AndOr' first shape rest) =
    ap (λ xs. of_pipe first ++ xs) (links_listed rest ∙ ap (flat_map of_link) (sym (items_shown-the_row-AndOr-rest-2-8 shape rest)))

pub pipe_out : (x : Pipe) → of_pipe x ≡ flat_map of_command (out-Pipe x).parts
unfolding of_script out-Pipe denote.Hole.Carrier.out
pipe_out (Pipe' negated shape parts) = commands_listed parts ∙ ap (flat_map of_command) (sym (items_shown-the_row-Command-10 shape parts))

pub command_out : (x : Command) → of_command x ≡ x ∷ (of_kind (out-Command x).kind ++ flat_map of_redirect (out-Command x).redirects)
unfolding of_script out-Command denote.Hole.Carrier.out
command_out (Command' number at kind shape redirects) =
    ap (λ xs. Command' number at kind shape redirects ∷ (of_kind kind ++ xs)) (redirects_listed redirects ∙ ap (flat_map of_redirect) (sym (items_shown-the_row-Redirect-9 shape redirects)))

pub branch_out : (x : Branch) → of_branch x ≡ of_script (out-Branch x).condition ++ of_script (out-Branch x).body
unfolding of_script out-Branch denote.Hole.Carrier.out
branch_out (Branch' condition body) = refl

pub clause_out : (x : Clause) → of_clause x ≡ flat_map of_word (out-Clause x).patterns ++ of_script (out-Clause x).body
unfolding of_script out-Clause denote.Hole.Carrier.out
clause_out (Clause' shape patterns body end) =
    ap (λ xs. xs ++ of_script body) (words_listed patterns ∙ ap (flat_map of_word) (sym (items_shown-the_row-Word-5 shape patterns)))

-- words by their rows

word_row : (w : Word) → of_parts (hidden-the_row-Part-0 w.parts) ≡ of_word w
word_row w = parts_listed (hidden-the_row-Part-0 w.parts) ∙ ap (flat_map of_part) (items_hidden-the_row-Part-0 w.parts)

body_row : (c : Command) → of_commands (hidden-the_row-Command-7 c) ≡ of_command c
unfolding of_script shape-the_row-Command-7 hidden-the_row-Command-7 denote.Hole.Carrier.hidden
body_row c = append-nil (of_command c)

boxed_row : (e : Expr) → of_expressions (hidden-the_row-Expr-1 e) ≡ of_expression e
unfolding of_script shape-the_row-Expr-1 hidden-the_row-Expr-1 denote.Hole.Carrier.hidden
boxed_row e = append-nil (of_expression e)

-- kinds

pub of_kind-Simple : (es : List Element) → of_kind (kind.Simple es) ≡ flat_map of_element es
unfolding of_script
of_kind-Simple es = elements_listed (hidden-the_row-Element-3 es) ∙ ap (flat_map of_element) (items_hidden-the_row-Element-3 es)

pub of_kind-Group : (t : Script) → of_kind (kind.Group t) ≡ of_script t
unfolding of_script
of_kind-Group t = refl

pub of_kind-Subshell : (t : Script) → of_kind (kind.Subshell t) ≡ of_script t
unfolding of_script
of_kind-Subshell t = refl

otherwise_row : (o : Option Script) → of_otherwise (back-Kind-Cond-1 o) ≡ option_map_or of_script o []
unfolding of_script
otherwise_row None = refl
otherwise_row (Some t) = refl

pub of_kind-Cond : (bs : List Branch) (o : Option Script) → of_kind (kind.Cond bs o) ≡ flat_map of_branch bs ++ option_map_or of_script o []
unfolding of_script
of_kind-Cond bs o =
    ap (λ xs. xs ++ of_otherwise (back-Kind-Cond-1 o)) (branches_listed (hidden-the_row-Branch-4 bs) ∙ ap (flat_map of_branch) (items_hidden-the_row-Branch-4 bs))
    ∙ ap (λ xs. flat_map of_branch bs ++ xs) (otherwise_row o)

list_row : (o : Option (List Word)) → of_list (back-Kind-For-1 o) ≡ option_map_or (flat_map of_word) o []
unfolding of_script
list_row None = refl
list_row (Some ws) = words_listed (hidden-the_row-Word-5 ws) ∙ ap (flat_map of_word) (items_hidden-the_row-Word-5 ws)

pub of_kind-For : (s : Span) (o : Option (List Word)) (t : Script) → of_kind (kind.For s o t) ≡ option_map_or (flat_map of_word) o [] ++ of_script t
unfolding of_script
of_kind-For s o t = ap (λ xs. xs ++ of_script t) (list_row o)

pub of_kind-For-None : (k : Kind) (s : Span) (o : Option (List Word)) (t : Script) → k ≡ kind.For s o t → o ≡ None → of_kind k ≡ of_script t
of_kind-For-None k s o t e n = ap of_kind e ∙ of_kind-For s o t ∙ ap (λ w. option_map_or (flat_map of_word) w [] ++ of_script t) n

pub of_kind-For-Some : (k : Kind) (s : Span) (o : Option (List Word)) (ws : List Word) (t : Script) → k ≡ kind.For s o t → o ≡ Some ws → of_kind k ≡ flat_map of_word ws ++ of_script t
of_kind-For-Some k s o ws t e n = ap of_kind e ∙ of_kind-For s o t ∙ ap (λ w. option_map_or (flat_map of_word) w [] ++ of_script t) n

pub of_kind-Branches : (w : Word) (cs : List Clause) → of_kind (kind.Branches w cs) ≡ of_word w ++ flat_map of_clause cs
unfolding of_script
of_kind-Branches w cs =
    ap (λ xs. xs ++ of_clauses (hidden-the_row-Clause-6 cs)) (word_row w) ∙ ap (λ xs. of_word w ++ xs) (clauses_listed (hidden-the_row-Clause-6 cs) ∙ ap (flat_map of_clause) (items_hidden-the_row-Clause-6 cs))

pub of_kind-Define : (s : Span) (c : Command) → of_kind (kind.Define s c) ≡ of_command c
unfolding of_script
of_kind-Define s c = body_row c

-- elements, targets, parts

pub of_element-Assignment : (s : Span) (w : Word) → of_element (element.Assignment s w) ≡ of_word w
unfolding of_script
of_element-Assignment s w = word_row w

pub of_element-Word : (w : Word) → of_element (element.Word w) ≡ of_word w
unfolding of_script
of_element-Word w = word_row w

pub of_element-Redirection : (r : Redirect) → of_element (element.Redirection r) ≡ of_target r.target
unfolding of_script
of_element-Redirection r = refl

pub of_target-File : (d : Direction) (w : Word) → of_target (target.File d w) ≡ of_word w
unfolding of_script
of_target-File d w = word_row w

pub of_target-Here : (h : HereDoc) → of_target (target.Here h) ≡ of_word h.delimiter ++ of_word h.body
unfolding of_script
of_target-Here h = ap (λ xs. xs ++ of_parts (hidden-the_row-Part-0 h.body.parts)) (word_row h.delimiter) ∙ ap (λ xs. of_word h.delimiter ++ xs) (word_row h.body)

pub of_part-Double : (s : Span) (ps : List Part) → of_part (part.Double s ps) ≡ flat_map of_part ps
unfolding of_script
of_part-Double s ps = parts_listed (hidden-the_row-Part-0 ps) ∙ ap (flat_map of_part) (items_hidden-the_row-Part-0 ps)

pub of_part-Arith : (s : Span) (e : Expr) → of_part (part.Arith s e) ≡ of_expression e
unfolding of_script
of_part-Arith s e = boxed_row e

pub of_operator-Use : (a : Action) (colon : Bool) (w : Word) → of_operator (operator.Use a colon w) ≡ of_word w
unfolding of_script
of_operator-Use a colon w = word_row w

pub of_operator-Remove : (r : Removal) (w : Word) → of_operator (operator.Remove r w) ≡ of_word w
unfolding of_script
of_operator-Remove r w = word_row w

pub of_expression-Parenthesis : (e : Expr) → of_expression (expression.Parenthesis e) ≡ of_expression e
unfolding of_script
of_expression-Parenthesis e = boxed_row e

pub of_expression-Unary : (u : Unary) (e : Expr) → of_expression (expression.Unary u e) ≡ of_expression e
unfolding of_script
of_expression-Unary u e = boxed_row e

pub of_expression-Chain : (e : Expr) (es : List (Binary × Expr)) → of_expression (expression.Chain e es) ≡ of_expression e ++ flat_map of_step es
unfolding of_script
of_expression-Chain e es =
    ap (λ xs. xs ++ of_chain (hidden-the_row-Expr-Chain-1-2-2 es)) (boxed_row e)
    ∙ ap (λ xs. of_expression e ++ xs) (chain_listed (hidden-the_row-Expr-Chain-1-2-2 es) ∙ ap (flat_map of_step) (items_hidden-the_row-Expr-Chain-1-2-2 es))

pub of_expression-Choice : (c y n : Expr) → of_expression (expression.Choice c y n) ≡ of_expression c ++ of_expression y ++ of_expression n
unfolding of_script
of_expression-Choice c y n = rw (boxed_row c, boxed_row y, boxed_row n) refl

pub of_expression-Assign : (s : Span) (o : Option Binary) (e : Expr) → of_expression (expression.Assign s o e) ≡ of_expression e
unfolding of_script
of_expression-Assign s o e = boxed_row e

pub of_kind-Loop : (k : LoopKind) (c t : Script) → of_kind (kind.Loop k c t) ≡ of_script c ++ of_script t
unfolding of_script
of_kind-Loop k c t = refl

pub of_part-Param : (p : Param) → of_part (part.Param p) ≡ of_operator p.operator
unfolding of_script
of_part-Param p = refl

pub of_part-Command : (style : CommandStyle) (s : Span) (t : Script) → of_part (part.Command style s t) ≡ of_script t
unfolding of_script
of_part-Command style s t = refl

pub of_expression-Expansion : (p : Part) → of_expression (expression.Expansion p) ≡ of_part p
unfolding of_script
of_expression-Expansion p = refl

pub ruleset kinds = (of_kind-Simple, of_kind-Group, of_kind-Subshell, of_kind-Cond, of_kind-Loop, of_kind-For, of_kind-Branches, of_kind-Define)

pub ruleset elements = (of_element-Assignment, of_element-Word, of_element-Redirection)

pub ruleset targets = (of_target-File, of_target-Here)

pub ruleset parts = (of_part-Double, of_part-Param, of_part-Arith, of_part-Command)

pub of_operator-Value : of_operator operator.Value ≡ []
unfolding of_script
of_operator-Value = refl

pub of_operator-Length : of_operator operator.Length ≡ []
unfolding of_script
of_operator-Length = refl

-- nothing is added
pub nothing_added : (found more : List Command) → more ≡ [] → found ≡ found ++ more
nothing_added found more e = sym (append-nil found) ∙ ap (λ xs. found ++ xs) (sym e)

-- one piece after another
pub joined : (old mid new a b whole : List Command) → mid ≡ old ++ a → whole ≡ a ++ b → new ≡ mid ++ b → new ≡ old ++ whole
joined old mid new a b whole m w n = n ∙ ap (λ xs. xs ++ b) m ∙ append_assoc old a b ∙ ap (λ xs. old ++ xs) (sym w)

pub both : {X E : Type 0} (r : Result X E) (old mid new a b whole : List Command) → mid ≡ old ++ a → whole ≡ a ++ b → OnOk r (new ≡ mid ++ b) → OnOk r (new ≡ old ++ whole)
both (Ok x) old mid new a b whole m w n = joined old mid new a b whole m w n
both (Err e) old mid new a b whole m w n = tt

-- three pieces
pub thrice : {X E : Type 0} (r : Result X E) (old first mid new a b d whole : List Command) → first ≡ old ++ a → mid ≡ first ++ b → whole ≡ a ++ b ++ d
    → OnOk r (new ≡ mid ++ d) → OnOk r (new ≡ old ++ whole)
thrice r old first mid new a b d whole f m w n = both r old mid new (a ++ b) d whole (m ∙ ap (λ xs. xs ++ b) f ∙ append_assoc old a b) w n

-- a command, its kind and its redirections
pub pushed : (found : List (Bor Command)) (c : Bor Command) (more : List (Bor Command)) (mid new a b : List Command) → more ≡ found ++ c ∷ []
    → mid ≡ map (λ x. x.now) more ++ a → of_command c.now ≡ c.now ∷ (a ++ b) → new ≡ mid ++ b → new ≡ map (λ x. x.now) found ++ of_command c.now
pushed found c more mid new a b p m w n =
    let first : map (λ (x : Bor Command). x.now) more ≡ map (λ (x : Bor Command). x.now) found ++ c.now ∷ [] = ap (map (λ (x : Bor Command). x.now)) p ∙ map-append (λ (x : Bor Command). x.now) found (c ∷ []) in
    let both_first : mid ≡ map (λ (x : Bor Command). x.now) found ++ (c.now ∷ [] ++ a) = m ∙ ap (λ xs. xs ++ a) first ∙ append_assoc (map (λ (x : Bor Command). x.now) found) (c.now ∷ []) a in
    joined (map (λ (x : Bor Command). x.now) found) mid new (c.now ∷ [] ++ a) b (of_command c.now) both_first w n

-- a turn of a loop over a list, of which a number are done
pub turned : {X : Type 0} (f : X → List Command) (n : ℕ) (xs : List X) (x : X) (old mid new a : List Command) → n < length xs → x ≡ get_or xs n x
    → mid ++ flat_map f (drop n xs) ≡ old ++ flat_map f xs → f x ≡ a → new ≡ mid ++ a → new ++ flat_map f (drop (n + 1) xs) ≡ old ++ flat_map f xs
turned f n xs x old mid new a lt is inv w e =
    let here : drop n xs ≡ x ∷ drop (n + 1) xs = drop_more xs n x lt ∙ ap (λ y. y ∷ drop (n + 1) xs) (sym is) in
    ap (λ ys. ys ++ flat_map f (drop (n + 1) xs)) e ∙ append_assoc mid a (flat_map f (drop (n + 1) xs)) ∙ ap (λ ys. mid ++ (ys ++ flat_map f (drop (n + 1) xs))) (sym w)
    ∙ ap (λ ys. mid ++ flat_map f ys) (sym here) ∙ inv

-- its end
pub ended : {X : Type 0} (f : X → List Command) (n : ℕ) (xs : List X) (old new whole : List Command) → length xs ≤ n
    → new ++ flat_map f (drop n xs) ≡ old ++ flat_map f xs → whole ≡ flat_map f xs → new ≡ old ++ whole
ended f n xs old new whole le inv w = sym (append-nil new) ∙ ap (λ ys. new ++ flat_map f ys) (sym (drop_all n xs le)) ∙ inv ∙ ap (λ ys. old ++ ys) (sym w)

-- what is found, in another order
pub all_in_order : {E : Type 0} (r : Result (Vec (Bor Command) Global) E) (found : List (Bor Command)) (all : List Command) → map (λ x. x.now) found ≡ all
    → IfOk r (λ v. IsPermutation found v.items) → IfOk r (λ v. IsPermutation all (map (λ x. x.now) v.items))
all_in_order (Ok v) found all e p = subst (λ xs. IsPermutation xs (map (λ (x : Bor Command). x.now) v.items)) e (IsPermutation-map (λ (x : Bor Command). x.now) found v.items p)
all_in_order (Err x) found all e p = tt

-- a script without an item has none
pub none_found : (t : Script) (found : List (Bor Command)) → (out-Script t).items ≡ [] → found ≡ [] → IsPermutation (of_script t) (map (λ x. x.now) found)
none_found t found e n = rw (script_out t, e, n) (IsPermutation-refl [])

pub ruleset operators = (of_operator-Use, of_operator-Remove)

pub ruleset expressions = (of_expression-Expansion, of_expression-Parenthesis, of_expression-Unary, of_expression-Chain, of_expression-Choice, of_expression-Assign)
