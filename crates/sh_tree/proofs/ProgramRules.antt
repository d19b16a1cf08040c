-- The program of a piece of a tree, by the pieces one level below it.
use Rattle.std.proofs.Common.{◌≡◌, ℕ, Bool, List, [], ◌∷◌, Option, Some, None, refl, sym, ap, ◌∙◌}
use Rattle.sh_tree.specs.declared.tree.Action.{Action}
use Rattle.sh_tree.specs.declared.tree.AndOr.{AndOr, AndOr', out-AndOr, Row_of-AndOr-rest-2, end_of-AndOr-rest-2, more_of-AndOr-rest-2, items-the_row-AndOr-rest-2}
use Rattle.sh_tree.specs.declared.tree.Binary.{Binary}
use Rattle.sh_tree.specs.declared.tree.Branch.{Branch, Branch', out-Branch}
use Rattle.sh_tree.specs.declared.tree.Clause.{Clause, Clause', out-Clause}
use Rattle.sh_tree.specs.declared.tree.Command.{Command, Command', out-Command, Row_of-Redirect, end_of-Redirect, more_of-Redirect, items-the_row-Redirect}
use Rattle.sh_tree.specs.declared.tree.CommandStyle.{CommandStyle}
use Rattle.sh_tree.specs.declared.tree.Direction.{Direction}
use Rattle.sh_tree.specs.declared.tree.Element.{Element, Assignment', Word', Redirection'}
use Rattle.sh_tree.specs.declared.tree.Element.TheVariants as element
use Rattle.sh_tree.specs.declared.tree.Element.TheBlock.{items_shown-the_row-Part-0, items_hidden-the_row-Part-0, shown-the_row-Part-0, hidden-the_row-Part-0, items_hidden-the_row-Element-3, hidden-the_row-Element-3, items_hidden-the_row-Branch-4, hidden-the_row-Branch-4, back-Kind-Cond-1, back-Kind-For-1, items_shown-the_row-Word-5, items_hidden-the_row-Word-5, hidden-the_row-Word-5, items_hidden-the_row-Clause-6, hidden-the_row-Clause-6, shape-the_row-Command-7, hidden-the_row-Command-7, shape-the_row-Expr-1, hidden-the_row-Expr-1, items_hidden-the_row-Expr-Chain-1-2-2, hidden-the_row-Expr-Chain-1-2-2, items_shown-the_row-AndOr-rest-2-8, items_shown-the_row-Redirect-9, items_shown-the_row-Command-10, items_shown-the_row-Item-11}
use Rattle.sh_tree.specs.declared.tree.Expr.{Expr, Row_of-Expr-Chain-1-2, end_of-Expr-Chain-1-2, more_of-Expr-Chain-1-2, items-the_row-Expr-Chain-1-2}
use Rattle.sh_tree.specs.declared.tree.Expr.TheVariants as expression
use Rattle.sh_tree.specs.declared.tree.HereDoc.{HereDoc}
use Rattle.sh_tree.specs.declared.tree.Item.{Item, Item', out-Item}
use Rattle.sh_tree.specs.declared.tree.Kind.{Row_of-Element, end_of-Element, more_of-Element, items-the_row-Element, Row_of-Branch, end_of-Branch, more_of-Branch, items-the_row-Branch, Row_of-Word, end_of-Word, more_of-Word, items-the_row-Word, Row_of-Clause, end_of-Clause, more_of-Clause, items-the_row-Clause}
use Rattle.sh_tree.specs.declared.tree.Kind.TheVariants as kind
use Rattle.sh_tree.specs.declared.tree.Link.{Link}
use Rattle.sh_tree.specs.declared.tree.LoopKind.{LoopKind}
use Rattle.sh_tree.specs.declared.tree.ParameterOperator.TheVariants as operator
use Rattle.sh_tree.specs.declared.tree.Param.{Param}
use Rattle.sh_tree.specs.declared.tree.Part.{Part, Row_of-Part, end_of-Part, more_of-Part, items-the_row-Part}
use Rattle.sh_tree.specs.declared.tree.Part.TheVariants as part
use Rattle.sh_tree.specs.declared.tree.Pipe.{Pipe, Pipe', out-Pipe, Row_of-Command, end_of-Command, more_of-Command, items-the_row-Command}
use Rattle.sh_tree.specs.declared.tree.Redirect.{Redirect}
use Rattle.sh_tree.specs.declared.tree.Removal.{Removal}
use Rattle.sh_tree.specs.declared.tree.Script.{Script, Script', out-Script, Row_of-Item, end_of-Item, more_of-Item, items-the_row-Item}
use Rattle.sh_tree.specs.declared.tree.SingleStyle.{SingleStyle}
use Rattle.sh_tree.specs.declared.tree.Span.{Span}
use Rattle.sh_tree.specs.declared.tree.Target.TheVariants as target
use Rattle.sh_tree.specs.declared.tree.Unary.{Unary}
use Rattle.sh_tree.specs.declared.tree.Word.{Word}
use Rattle.sh_tree.specs.standard.Tree.{text_of}
use Rattle.sh_tree.specs.standard.Words.{behind_first, single_text}
use Rattle.sh_tree.specs.standard.program.Syntax as p
use Rattle.sh_tree.specs.Lists.{parts_from, words_from, operands_from, items_from, links_from, commands_from, element_from, elements_from, redirects_from, branches_from, otherwise_from, for_words_from, clauses_from}
use Rattle.sh_tree.specs.standard.program.Trees.{parameter_of, part_of, word_of, operator_of, held_of, operands_of, expression_of, script_of, items_of, and_or_of, links_of, pipeline_of, commands_of, command_of, kind_of, body_of, elements_of, target_of, redirects_of, branches_of, otherwise_of, for_words_of, words_of, clauses_of}

-- rows are their lists

pub parts_listed : {m : _} (b : List ℕ) (k : Row_of-Part m) → word_of b k ≡ parts_from b (items-the_row-Part m k)
unfolding part_of parts_from
parts_listed b end_of-Part = refl
parts_listed b (more_of-Part x rest) = ap (p.more_parts (part_of b x)) (parts_listed b rest)

pub operands_listed : {m : _} (b : List ℕ) (k : Row_of-Expr-Chain-1-2 m) → operands_of b k ≡ operands_from b (items-the_row-Expr-Chain-1-2 m k)
unfolding part_of operands_from
operands_listed b end_of-Expr-Chain-1-2 = refl
operands_listed b (more_of-Expr-Chain-1-2 operator x rest) = ap (p.more_operands operator (expression_of b x)) (operands_listed b rest)

pub items_listed : {m : _} (b : List ℕ) (k : Row_of-Item m) → items_of b k ≡ items_from b (items-the_row-Item m k)
unfolding part_of items_from out-Item denote.Hole.Carrier.out
items_listed b end_of-Item = refl
items_listed b (more_of-Item (Item' list background) rest) = ap (p.more_items (and_or_of b list) background) (items_listed b rest)

pub links_listed : {m : _} (b : List ℕ) (k : Row_of-AndOr-rest-2 m) → links_of b k ≡ links_from b (items-the_row-AndOr-rest-2 m k)
unfolding part_of links_from
links_listed b end_of-AndOr-rest-2 = refl
links_listed b (more_of-AndOr-rest-2 link x rest) = ap (p.more_links link (pipeline_of b x)) (links_listed b rest)

pub commands_listed : {m : _} (b : List ℕ) (k : Row_of-Command m) → commands_of b k ≡ commands_from b (items-the_row-Command m k)
unfolding part_of commands_from
commands_listed b end_of-Command = refl
commands_listed b (more_of-Command x rest) = ap (p.more_commands (command_of b x)) (commands_listed b rest)

pub elements_listed : {m : _} (b : List ℕ) (k : Row_of-Element m) → elements_of b k ≡ elements_from b (items-the_row-Element m k)
unfolding part_of element_from elements_from
elements_listed b end_of-Element = refl
elements_listed b (more_of-Element (Assignment' name s shape row) rest) = ap (p.assignment (text_of b name) (word_of b row)) (elements_listed b rest)
elements_listed b (more_of-Element (Word' s shape row) rest) = ap (p.operand (word_of b row)) (elements_listed b rest)
elements_listed b (more_of-Element (Redirection' at number target) rest) = ap (p.redirection (target_of b target)) (elements_listed b rest)

pub redirects_listed : {m : _} (b : List ℕ) (k : Row_of-Redirect m) → redirects_of b k ≡ redirects_from b (items-the_row-Redirect m k)
unfolding part_of redirects_from
redirects_listed b end_of-Redirect = refl
redirects_listed b (more_of-Redirect at number target rest) = ap (p.more_redirects (target_of b target)) (redirects_listed b rest)

pub branches_listed : {m : _} (b : List ℕ) (k : Row_of-Branch m) → branches_of b k ≡ branches_from b (items-the_row-Branch m k)
unfolding part_of branches_from out-Branch denote.Hole.Carrier.out
branches_listed b end_of-Branch = refl
branches_listed b (more_of-Branch (Branch' condition body) rest) = ap (p.more_branches (script_of b condition) (script_of b body)) (branches_listed b rest)

pub words_listed : {m : _} (b : List ℕ) (k : Row_of-Word m) → words_of b k ≡ words_from b (items-the_row-Word m k)
unfolding part_of words_from
words_listed b end_of-Word = refl
words_listed b (more_of-Word s shape row rest) =
    ap (λ w. p.more_words w (words_of b rest)) (parts_listed b row ∙ ap (parts_from b) (sym (items_shown-the_row-Part-0 shape row)))
    ∙ ap (p.more_words (parts_from b (shown-the_row-Part-0 shape row))) (words_listed b rest)

pub clauses_listed : {m : _} (b : List ℕ) (k : Row_of-Clause m) → clauses_of b k ≡ clauses_from b (items-the_row-Clause m k)
unfolding part_of clauses_from out-Clause denote.Hole.Carrier.out
clauses_listed b end_of-Clause = refl
clauses_listed b (more_of-Clause (Clause' shape patterns body end) rest) =
    ap (λ ws. p.more_clauses ws (script_of b body) end (clauses_of b rest)) (words_listed b patterns ∙ ap (words_from b) (sym (items_shown-the_row-Word-5 shape patterns)))
    ∙ ap (p.more_clauses (words_from b (out-Clause (Clause' shape patterns body end)).patterns) (script_of b body) end) (clauses_listed b rest)

-- lists by their rows

pub word_row : (b : List ℕ) (ps : List Part) → word_of b (hidden-the_row-Part-0 ps) ≡ parts_from b ps
word_row b ps = parts_listed b (hidden-the_row-Part-0 ps) ∙ ap (parts_from b) (items_hidden-the_row-Part-0 ps)

held_row : (b : List ℕ) (e : Expr) → held_of b (hidden-the_row-Expr-1 e) ≡ expression_of b e
unfolding part_of shape-the_row-Expr-1 hidden-the_row-Expr-1 denote.Hole.Carrier.hidden
held_row b e = refl

body_row : (b : List ℕ) (c : Command) → body_of b (hidden-the_row-Command-7 c) ≡ command_of b c
unfolding part_of shape-the_row-Command-7 hidden-the_row-Command-7 denote.Hole.Carrier.hidden
body_row b c = refl

otherwise_row : (b : List ℕ) (o : Option Script) → otherwise_of b (back-Kind-Cond-1 o) ≡ otherwise_from b o
unfolding part_of otherwise_from
otherwise_row b None = refl
otherwise_row b (Some t) = refl

for_words_row : (b : List ℕ) (o : Option (List Word)) → for_words_of b (back-Kind-For-1 o) ≡ for_words_from b o
unfolding part_of for_words_from
for_words_row b None = refl
for_words_row b (Some ws) = ap p.listed (words_listed b (hidden-the_row-Word-5 ws) ∙ ap (words_from b) (items_hidden-the_row-Word-5 ws))

-- structs

pub script_of-out : (b : List ℕ) (t : Script) → script_of b t ≡ items_from b (out-Script t).items
unfolding part_of out-Script denote.Hole.Carrier.out
script_of-out b (Script' shape row) = items_listed b row ∙ ap (items_from b) (sym (items_shown-the_row-Item-11 shape row))

pub and_or_of-out : (b : List ℕ) (x : AndOr) → and_or_of b x ≡ p.and_or (pipeline_of b (out-AndOr x).first) (links_from b (out-AndOr x).rest)
unfolding part_of out-AndOr denote.Hole.Carrier.out
and_or_of-out b (AndOr' first shape row) = ap (p.and_or (pipeline_of b first)) (links_listed b row ∙ ap (links_from b) (sym (items_shown-the_row-AndOr-rest-2-8 shape row)))

pub pipeline_of-out : (b : List ℕ) (x : Pipe) → pipeline_of b x ≡ p.pipeline (out-Pipe x).negated (commands_from b (out-Pipe x).parts)
unfolding part_of out-Pipe denote.Hole.Carrier.out
pipeline_of-out b (Pipe' negated shape row) = ap (p.pipeline negated) (commands_listed b row ∙ ap (commands_from b) (sym (items_shown-the_row-Command-10 shape row)))

pub command_of-out : (b : List ℕ) (c : Command)
    → command_of b c ≡ p.command (out-Command c).number (out-Command c).at (kind_of b (out-Command c).kind) (redirects_from b (out-Command c).redirects)
unfolding part_of out-Command denote.Hole.Carrier.out
command_of-out b (Command' number at kind shape row) =
    ap (p.command number at (kind_of b kind)) (redirects_listed b row ∙ ap (redirects_from b) (sym (items_shown-the_row-Redirect-9 shape row)))

pub ruleset program_structs = (script_of-out, and_or_of-out, pipeline_of-out, command_of-out)

-- lists

pub parts_from-empty : (b : List ℕ) → parts_from b [] ≡ p.no_parts
unfolding parts_from
parts_from-empty b = refl

pub parts_from-more : (b : List ℕ) (x : Part) (xs : List Part) → parts_from b (x ∷ xs) ≡ p.more_parts (part_of b x) (parts_from b xs)
unfolding parts_from
parts_from-more b x xs = refl

pub words_from-empty : (b : List ℕ) → words_from b [] ≡ p.no_words
unfolding words_from
words_from-empty b = refl

pub words_from-more : (b : List ℕ) (x : Word) (xs : List Word) → words_from b (x ∷ xs) ≡ p.more_words (parts_from b x.parts) (words_from b xs)
unfolding words_from
words_from-more b x xs = refl

pub operands_from-empty : (b : List ℕ) → operands_from b [] ≡ p.no_operands
unfolding operands_from
operands_from-empty b = refl

pub operands_from-more : (b : List ℕ) (x : Binary × Expr) (xs : List (Binary × Expr)) → operands_from b (x ∷ xs) ≡ p.more_operands x.0 (expression_of b x.1) (operands_from b xs)
unfolding operands_from
operands_from-more b x xs = refl

pub items_from-empty : (b : List ℕ) → items_from b [] ≡ p.no_items
unfolding items_from
items_from-empty b = refl

pub items_from-more : (b : List ℕ) (x : Item) (xs : List Item) → items_from b (x ∷ xs) ≡ p.more_items (and_or_of b (out-Item x).list) (out-Item x).background (items_from b xs)
unfolding items_from
items_from-more b x xs = refl

pub links_from-empty : (b : List ℕ) → links_from b [] ≡ p.no_links
unfolding links_from
links_from-empty b = refl

pub links_from-more : (b : List ℕ) (x : Link × Pipe) (xs : List (Link × Pipe)) → links_from b (x ∷ xs) ≡ p.more_links x.0 (pipeline_of b x.1) (links_from b xs)
unfolding links_from
links_from-more b x xs = refl

pub commands_from-empty : (b : List ℕ) → commands_from b [] ≡ p.no_commands
unfolding commands_from
commands_from-empty b = refl

pub commands_from-more : (b : List ℕ) (x : Command) (xs : List Command) → commands_from b (x ∷ xs) ≡ p.more_commands (command_of b x) (commands_from b xs)
unfolding commands_from
commands_from-more b x xs = refl

pub elements_from-empty : (b : List ℕ) → elements_from b [] ≡ p.no_elements
unfolding elements_from
elements_from-empty b = refl

pub elements_from-more : (b : List ℕ) (x : Element) (xs : List Element) → elements_from b (x ∷ xs) ≡ element_from b x (elements_from b xs)
unfolding elements_from
elements_from-more b x xs = refl

pub redirects_from-empty : (b : List ℕ) → redirects_from b [] ≡ p.no_redirects
unfolding redirects_from
redirects_from-empty b = refl

pub redirects_from-more : (b : List ℕ) (x : Redirect) (xs : List Redirect) → redirects_from b (x ∷ xs) ≡ p.more_redirects (target_of b x.target) (redirects_from b xs)
unfolding redirects_from
redirects_from-more b x xs = refl

pub branches_from-empty : (b : List ℕ) → branches_from b [] ≡ p.no_branches
unfolding branches_from
branches_from-empty b = refl

pub branches_from-more : (b : List ℕ) (x : Branch) (xs : List Branch)
    → branches_from b (x ∷ xs) ≡ p.more_branches (script_of b (out-Branch x).condition) (script_of b (out-Branch x).body) (branches_from b xs)
unfolding branches_from
branches_from-more b x xs = refl

pub clauses_from-empty : (b : List ℕ) → clauses_from b [] ≡ p.no_clauses
unfolding clauses_from
clauses_from-empty b = refl

pub clauses_from-more : (b : List ℕ) (x : Clause) (xs : List Clause)
    → clauses_from b (x ∷ xs) ≡ p.more_clauses (words_from b (out-Clause x).patterns) (script_of b (out-Clause x).body) (out-Clause x).end (clauses_from b xs)
unfolding clauses_from
clauses_from-more b x xs = refl

pub otherwise_from-None : (b : List ℕ) → otherwise_from b None ≡ p.no_else
unfolding otherwise_from
otherwise_from-None b = refl

pub otherwise_from-Some : (b : List ℕ) (t : Script) → otherwise_from b (Some t) ≡ p.else_of (script_of b t)
unfolding otherwise_from
otherwise_from-Some b t = refl

pub for_words_from-None : (b : List ℕ) → for_words_from b None ≡ p.every_parameter
unfolding for_words_from
for_words_from-None b = refl

pub for_words_from-Some : (b : List ℕ) (ws : List Word) → for_words_from b (Some ws) ≡ p.listed (words_from b ws)
unfolding for_words_from
for_words_from-Some b ws = refl

pub ruleset program_lists = (parts_from-empty, parts_from-more, words_from-empty, words_from-more, operands_from-empty, operands_from-more, items_from-empty, items_from-more, links_from-empty, links_from-more, commands_from-empty, commands_from-more, elements_from-empty, elements_from-more, redirects_from-empty, redirects_from-more, branches_from-empty, branches_from-more, clauses_from-empty, clauses_from-more, otherwise_from-None, otherwise_from-Some, for_words_from-None, for_words_from-Some)

-- kinds

pub kind_of-Simple : (b : List ℕ) (es : List Element) → kind_of b (kind.Simple es) ≡ p.Simple (elements_from b es)
unfolding part_of
kind_of-Simple b es = ap p.Simple (elements_listed b (hidden-the_row-Element-3 es) ∙ ap (elements_from b) (items_hidden-the_row-Element-3 es))

pub kind_of-Group : (b : List ℕ) (t : Script) → kind_of b (kind.Group t) ≡ p.Group (script_of b t)
unfolding part_of
kind_of-Group b t = refl

pub kind_of-Subshell : (b : List ℕ) (t : Script) → kind_of b (kind.Subshell t) ≡ p.Subshell (script_of b t)
unfolding part_of
kind_of-Subshell b t = refl

pub kind_of-Cond : (b : List ℕ) (bs : List Branch) (o : Option Script) → kind_of b (kind.Cond bs o) ≡ p.Conditional (branches_from b bs) (otherwise_from b o)
unfolding part_of
kind_of-Cond b bs o =
    ap (λ x. p.Conditional x (otherwise_of b (back-Kind-Cond-1 o))) (branches_listed b (hidden-the_row-Branch-4 bs) ∙ ap (branches_from b) (items_hidden-the_row-Branch-4 bs))
    ∙ ap (p.Conditional (branches_from b bs)) (otherwise_row b o)

pub kind_of-Loop : (b : List ℕ) (k : LoopKind) (c t : Script) → kind_of b (kind.Loop k c t) ≡ p.Loop k (script_of b c) (script_of b t)
unfolding part_of
kind_of-Loop b k c t = refl

pub kind_of-For : (b : List ℕ) (s : Span) (o : Option (List Word)) (t : Script) → kind_of b (kind.For s o t) ≡ p.For (text_of b s) (for_words_from b o) (script_of b t)
unfolding part_of
kind_of-For b s o t = ap (λ ws. p.For (text_of b s) ws (script_of b t)) (for_words_row b o)

pub kind_of-Branches : (b : List ℕ) (w : Word) (cs : List Clause) → kind_of b (kind.Branches w cs) ≡ p.Case (parts_from b w.parts) (clauses_from b cs)
unfolding part_of
kind_of-Branches b w cs =
    ap (λ x. p.Case x (clauses_of b (hidden-the_row-Clause-6 cs))) (word_row b w.parts)
    ∙ ap (p.Case (parts_from b w.parts)) (clauses_listed b (hidden-the_row-Clause-6 cs) ∙ ap (clauses_from b) (items_hidden-the_row-Clause-6 cs))

pub kind_of-Define : (b : List ℕ) (s : Span) (c : Command) → kind_of b (kind.Define s c) ≡ p.Define (text_of b s) (command_of b c)
unfolding part_of
kind_of-Define b s c = ap (p.Define (text_of b s)) (body_row b c)

pub ruleset program_kinds = (kind_of-Simple, kind_of-Group, kind_of-Subshell, kind_of-Cond, kind_of-Loop, kind_of-For, kind_of-Branches, kind_of-Define)

-- elements and targets

pub element_from-Assignment : (b : List ℕ) (s : Span) (w : Word) (rest : p.Elements) → element_from b (element.Assignment s w) rest ≡ p.assignment (text_of b s) (parts_from b w.parts) rest
unfolding element_from
element_from-Assignment b s w rest = ap (λ x. p.assignment (text_of b s) x rest) (word_row b w.parts)

pub element_from-Word : (b : List ℕ) (w : Word) (rest : p.Elements) → element_from b (element.Word w) rest ≡ p.operand (parts_from b w.parts) rest
unfolding element_from
element_from-Word b w rest = ap (λ x. p.operand x rest) (word_row b w.parts)

pub element_from-Redirection : (b : List ℕ) (r : Redirect) (rest : p.Elements) → element_from b (element.Redirection r) rest ≡ p.redirection (target_of b r.target) rest
unfolding element_from
element_from-Redirection b r rest = refl

pub elements_from-Assignment : (b : List ℕ) (s : Span) (w : Word) (es : List Element)
    → elements_from b (element.Assignment s w ∷ es) ≡ p.assignment (text_of b s) (parts_from b w.parts) (elements_from b es)
elements_from-Assignment b s w es = elements_from-more b (element.Assignment s w) es ∙ element_from-Assignment b s w (elements_from b es)

pub elements_from-Word : (b : List ℕ) (w : Word) (es : List Element) → elements_from b (element.Word w ∷ es) ≡ p.operand (parts_from b w.parts) (elements_from b es)
elements_from-Word b w es = elements_from-more b (element.Word w) es ∙ element_from-Word b w (elements_from b es)

pub elements_from-Redirection : (b : List ℕ) (r : Redirect) (es : List Element)
    → elements_from b (element.Redirection r ∷ es) ≡ p.redirection (target_of b r.target) (elements_from b es)
elements_from-Redirection b r es = elements_from-more b (element.Redirection r) es ∙ element_from-Redirection b r (elements_from b es)

pub ruleset program_elements = (element_from-Assignment, element_from-Word, element_from-Redirection, elements_from-Assignment, elements_from-Word, elements_from-Redirection)

pub target_of-File : (b : List ℕ) (d : Direction) (w : Word) → target_of b (target.File d w) ≡ p.File (parts_from b w.parts)
unfolding part_of
target_of-File b d w = ap p.File (word_row b w.parts)

pub target_of-Here : (b : List ℕ) (h : HereDoc) → target_of b (target.Here h) ≡ p.Here (parts_from b h.body.parts)
unfolding part_of
target_of-Here b h = ap p.Here (word_row b h.body.parts)

pub ruleset program_targets = (target_of-File, target_of-Here)

-- parts

pub part_of-Plain : (b : List ℕ) (s : Span) → part_of b (part.Plain s) ≡ p.Plain (text_of b s)
unfolding part_of
part_of-Plain b s = refl

pub part_of-Escaped : (b : List ℕ) (s : Span) → part_of b (part.Escaped s) ≡ p.Escaped (behind_first (text_of b s))
unfolding part_of
part_of-Escaped b s = refl

pub part_of-Single : (b : List ℕ) (style : SingleStyle) (s : Span) → part_of b (part.Single style s) ≡ p.Single style (single_text style (text_of b s))
unfolding part_of
part_of-Single b style s = refl

pub part_of-Double : (b : List ℕ) (s : Span) (ps : List Part) → part_of b (part.Double s ps) ≡ p.Double (parts_from b ps)
unfolding part_of
part_of-Double b s ps = ap p.Double (word_row b ps)

pub part_of-Param : (b : List ℕ) (x : Param) → part_of b (part.Param x) ≡ p.Expansion x.span.start (parameter_of b x.subject) (operator_of b x.operator)
unfolding part_of
part_of-Param b x = refl

pub part_of-Arith : (b : List ℕ) (s : Span) (e : Expr) → part_of b (part.Arith s e) ≡ p.Arithmetic s.start (expression_of b e)
unfolding part_of
part_of-Arith b s e = ap (p.Arithmetic s.start) (held_row b e)

pub part_of-Command : (b : List ℕ) (style : CommandStyle) (s : Span) (t : Script) → part_of b (part.Command style s t) ≡ p.Substitution s.start (script_of b t)
unfolding part_of
part_of-Command b style s t = refl

pub part_of-Tilde : (b : List ℕ) (s : Span) → part_of b (part.Tilde s) ≡ p.Tilde s.start (behind_first (text_of b s))
unfolding part_of
part_of-Tilde b s = refl

pub part_of-Joined : (b : List ℕ) (s : Span) → part_of b (part.Joined s) ≡ p.Joined
unfolding part_of
part_of-Joined b s = refl

pub ruleset program_parts = (part_of-Plain, part_of-Escaped, part_of-Single, part_of-Double, part_of-Param, part_of-Arith, part_of-Command, part_of-Tilde, part_of-Joined)

-- operators of expansions

pub operator_of-Value : (b : List ℕ) → operator_of b operator.Value ≡ p.Value
unfolding part_of
operator_of-Value b = refl

pub operator_of-Length : (b : List ℕ) → operator_of b operator.Length ≡ p.Length
unfolding part_of
operator_of-Length b = refl

pub operator_of-Use : (b : List ℕ) (a : Action) (colon : Bool) (w : Word) → operator_of b (operator.Use a colon w) ≡ p.Use a colon (parts_from b w.parts)
unfolding part_of
operator_of-Use b a colon w = ap (p.Use a colon) (word_row b w.parts)

pub operator_of-Remove : (b : List ℕ) (r : Removal) (w : Word) → operator_of b (operator.Remove r w) ≡ p.Remove r (parts_from b w.parts)
unfolding part_of
operator_of-Remove b r w = ap (p.Remove r) (word_row b w.parts)

pub ruleset program_operators = (operator_of-Value, operator_of-Length, operator_of-Use, operator_of-Remove)

-- expressions

pub expression_of-Constant : (b : List ℕ) (s : Span) → expression_of b (expression.Constant s) ≡ p.Constant (text_of b s)
unfolding part_of
expression_of-Constant b s = refl

pub expression_of-Variable : (b : List ℕ) (s : Span) → expression_of b (expression.Variable s) ≡ p.Name s.start (text_of b s)
unfolding part_of
expression_of-Variable b s = refl

pub expression_of-Expansion : (b : List ℕ) (x : Part) → expression_of b (expression.Expansion x) ≡ p.Expanded (part_of b x)
unfolding part_of
expression_of-Expansion b x = refl

pub expression_of-Parenthesis : (b : List ℕ) (e : Expr) → expression_of b (expression.Parenthesis e) ≡ p.Parenthesis (expression_of b e)
unfolding part_of
expression_of-Parenthesis b e = ap p.Parenthesis (held_row b e)

pub expression_of-Unary : (b : List ℕ) (u : Unary) (e : Expr) → expression_of b (expression.Unary u e) ≡ p.Signed u (expression_of b e)
unfolding part_of
expression_of-Unary b u e = ap (p.Signed u) (held_row b e)

pub expression_of-Chain : (b : List ℕ) (e : Expr) (es : List (Binary × Expr)) → expression_of b (expression.Chain e es) ≡ p.Chain (expression_of b e) (operands_from b es)
unfolding part_of
expression_of-Chain b e es =
    ap (λ x. p.Chain x (operands_of b (hidden-the_row-Expr-Chain-1-2-2 es))) (held_row b e)
    ∙ ap (p.Chain (expression_of b e)) (operands_listed b (hidden-the_row-Expr-Chain-1-2-2 es) ∙ ap (operands_from b) (items_hidden-the_row-Expr-Chain-1-2-2 es))

pub expression_of-Choice : (b : List ℕ) (c y n : Expr) → expression_of b (expression.Choice c y n) ≡ p.Choice (expression_of b c) (expression_of b y) (expression_of b n)
unfolding part_of
expression_of-Choice b c y n = rw (held_row b c, held_row b y, held_row b n) refl

pub expression_of-Assign : (b : List ℕ) (s : Span) (o : Option Binary) (e : Expr) → expression_of b (expression.Assign s o e) ≡ p.Assigned s.start (text_of b s) o (expression_of b e)
unfolding part_of
expression_of-Assign b s o e = ap (p.Assigned s.start (text_of b s) o) (held_row b e)

pub ruleset program_expressions = (expression_of-Constant, expression_of-Variable, expression_of-Expansion, expression_of-Parenthesis, expression_of-Unary, expression_of-Chain, expression_of-Choice, expression_of-Assign)
