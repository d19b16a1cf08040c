-- The bare tree of a piece of a tree, by the pieces one level below it.
use Rattle.std.proofs.Common.{◌≡◌, ℕ, List, map, Option, Some, None, refl, sym, ap, ◌∙◌}
use Rattle.sh_tree.specs.declared.tree.AndOr.{AndOr', out-AndOr, Row_of-AndOr-rest-2, end_of-AndOr-rest-2, more_of-AndOr-rest-2, items-the_row-AndOr-rest-2}
use Rattle.sh_tree.specs.declared.tree.Branch.{Branch, Branch', out-Branch}
use Rattle.sh_tree.specs.declared.tree.Clause.{Clause, Clause', out-Clause}
use Rattle.sh_tree.specs.declared.tree.Command.{Command, Command', out-Command}
use Rattle.sh_tree.specs.declared.tree.Direction.{Direction}
use Rattle.sh_tree.specs.declared.tree.Element.{Element}
use Rattle.sh_tree.specs.declared.tree.Element.TheVariants as element
use Rattle.sh_tree.specs.declared.tree.Element.TheBlock.{items_hidden-the_row-Element-3, items_hidden-the_row-Branch-4, hidden-the_row-Branch-4, back-Kind-Cond-1, back-Kind-For-1, items_shown-the_row-Word-5, items_hidden-the_row-Word-5, items_hidden-the_row-Clause-6, hidden-the_row-Clause-6, shape-the_row-Command-7, hidden-the_row-Command-7, items_shown-the_row-AndOr-rest-2-8, items_shown-the_row-Redirect-9, items_shown-the_row-Command-10, items_shown-the_row-Item-11}
use Rattle.sh_tree.specs.declared.tree.HereDoc.{HereDoc}
use Rattle.sh_tree.specs.declared.tree.Item.{Item', out-Item}
use Rattle.sh_tree.specs.declared.tree.Kind.{Row_of-Branch, end_of-Branch, more_of-Branch, items-the_row-Branch, Row_of-Clause, end_of-Clause, more_of-Clause, items-the_row-Clause}
use Rattle.sh_tree.specs.declared.tree.Kind.TheVariants as kind
use Rattle.sh_tree.specs.declared.tree.LoopKind.{LoopKind}
use Rattle.sh_tree.specs.declared.tree.Pipe.{Pipe, Pipe', out-Pipe, Row_of-Command, end_of-Command, more_of-Command, items-the_row-Command}
use Rattle.sh_tree.specs.declared.tree.Redirect.{Redirect}
use Rattle.sh_tree.specs.declared.tree.Script.{Script, Script', out-Script, Row_of-Item, end_of-Item, more_of-Item, items-the_row-Item}
use Rattle.sh_tree.specs.declared.tree.Span.{Span}
use Rattle.sh_tree.specs.declared.tree.Target.TheVariants as target
use Rattle.sh_tree.specs.declared.tree.Word.{Word}
use Rattle.sh_tree.specs.standard.Tree.{text_of}
use Rattle.sh_print.specs.Bare as bare
use Rattle.sh_print.specs.Lists.{links_from, items_from, commands_from, branches_from, clauses_from, words_from}
use Rattle.sh_print.specs.Trees.{word_of, opens_of, opened_of, redirect_of, element_of, for_words_of, script_of, items_of, links_of, pipeline_of, commands_of, command_of, kind_of, branches_of, otherwise_of, clauses_of}

-- rows are their lists

links_listed : {m : _} (b : List ℕ) (k : Row_of-AndOr-rest-2 m) → links_of b k ≡ links_from b (items-the_row-AndOr-rest-2 m k)
unfolding script_of links_from
links_listed b end_of-AndOr-rest-2 = refl
links_listed b (more_of-AndOr-rest-2 link x rest) = ap (bare.more_links link (pipeline_of b x)) (links_listed b rest)

items_listed : {m : _} (b : List ℕ) (k : Row_of-Item m) → items_of b k ≡ items_from b (items-the_row-Item m k)
unfolding script_of items_from out-Item out-AndOr denote.Hole.Carrier.out
items_listed b end_of-Item = refl
items_listed b (more_of-Item (Item' (AndOr' first shape links) background) rest) =
    ap (λ ls. bare.more_items (pipeline_of b first) ls background (items_of b rest)) (links_listed b links ∙ ap (links_from b) (sym (items_shown-the_row-AndOr-rest-2-8 shape links)))
    ∙ ap (bare.more_items (pipeline_of b first) (links_from b (out-AndOr (AndOr' first shape links)).rest) background) (items_listed b rest)

commands_listed : {m : _} (b : List ℕ) (k : Row_of-Command m) → commands_of b k ≡ commands_from b (items-the_row-Command m k)
unfolding script_of commands_from
commands_listed b end_of-Command = refl
commands_listed b (more_of-Command x rest) = ap (bare.more_commands (command_of b x)) (commands_listed b rest)

branches_listed : {m : _} (b : List ℕ) (k : Row_of-Branch m) → branches_of b k ≡ branches_from b (items-the_row-Branch m k)
unfolding script_of branches_from out-Branch denote.Hole.Carrier.out
branches_listed b end_of-Branch = refl
branches_listed b (more_of-Branch (Branch' condition body) rest) = ap (bare.more_branches (script_of b condition) (script_of b body)) (branches_listed b rest)

clauses_listed : {m : _} (b : List ℕ) (k : Row_of-Clause m) → clauses_of b k ≡ clauses_from b (items-the_row-Clause m k)
unfolding script_of clauses_from out-Clause denote.Hole.Carrier.out
clauses_listed b end_of-Clause = refl
clauses_listed b (more_of-Clause (Clause' shape patterns body end) rest) =
    ap (λ ws. bare.more_clauses (map (word_of b) ws) (script_of b body) end (clauses_of b rest)) (sym (items_shown-the_row-Word-5 shape patterns))
    ∙ ap (bare.more_clauses (map (word_of b) (out-Clause (Clause' shape patterns body end)).patterns) (script_of b body) end) (clauses_listed b rest)

-- structs

pub script_out : (b : List ℕ) (t : Script) → script_of b t ≡ items_from b (out-Script t).items
unfolding script_of out-Script denote.Hole.Carrier.out
script_out b (Script' shape row) = items_listed b row ∙ ap (items_from b) (sym (items_shown-the_row-Item-11 shape row))

pub pipeline_out : (b : List ℕ) (x : Pipe) → pipeline_of b x ≡ bare.pipeline (out-Pipe x).negated (commands_from b (out-Pipe x).parts)
unfolding script_of out-Pipe denote.Hole.Carrier.out
pipeline_out b (Pipe' negated shape row) = ap (bare.pipeline negated) (commands_listed b row ∙ ap (commands_from b) (sym (items_shown-the_row-Command-10 shape row)))

pub command_out : (b : List ℕ) (c : Command) → command_of b c ≡ bare.command (kind_of b (out-Command c).kind) (map (redirect_of b) (out-Command c).redirects)
unfolding script_of out-Command denote.Hole.Carrier.out
command_out b (Command' number at kind shape row) = ap (λ rs. bare.command (kind_of b kind) (map (redirect_of b) rs)) (sym (items_shown-the_row-Redirect-9 shape row))

-- kinds

pub kind_of-Simple : (b : List ℕ) (es : List Element) → kind_of b (kind.Simple es) ≡ bare.Simple (map (element_of b) es)
unfolding script_of
kind_of-Simple b es = ap (λ xs. bare.Simple (map (element_of b) xs)) (items_hidden-the_row-Element-3 es)

pub kind_of-Group : (b : List ℕ) (t : Script) → kind_of b (kind.Group t) ≡ bare.Group (script_of b t)
unfolding script_of
kind_of-Group b t = refl

pub kind_of-Subshell : (b : List ℕ) (t : Script) → kind_of b (kind.Subshell t) ≡ bare.Subshell (script_of b t)
unfolding script_of
kind_of-Subshell b t = refl

abbrev pub otherwise_from : List ℕ → Option Script → bare.Otherwise
otherwise_from b None = bare.no_else
otherwise_from b (Some t) = bare.else_of (script_of b t)

otherwise_row : (b : List ℕ) (o : Option Script) → otherwise_of b (back-Kind-Cond-1 o) ≡ otherwise_from b o
unfolding script_of
otherwise_row b None = refl
otherwise_row b (Some t) = refl

pub kind_of-Cond : (b : List ℕ) (bs : List Branch) (o : Option Script) → kind_of b (kind.Cond bs o) ≡ bare.Conditional (branches_from b bs) (otherwise_from b o)
unfolding script_of
kind_of-Cond b bs o =
    ap (λ x. bare.Conditional x (otherwise_of b (back-Kind-Cond-1 o))) (branches_listed b (hidden-the_row-Branch-4 bs) ∙ ap (branches_from b) (items_hidden-the_row-Branch-4 bs))
    ∙ ap (bare.Conditional (branches_from b bs)) (otherwise_row b o)

pub kind_of-if : (b : List ℕ) (bs : List Branch) → kind_of b (kind.Cond bs None) ≡ bare.Conditional (branches_from b bs) bare.no_else
kind_of-if b bs = kind_of-Cond b bs None

pub kind_of-else : (b : List ℕ) (bs : List Branch) (t : Script) → kind_of b (kind.Cond bs (Some t)) ≡ bare.Conditional (branches_from b bs) (bare.else_of (script_of b t))
kind_of-else b bs t = kind_of-Cond b bs (Some t)

pub kind_of-Loop : (b : List ℕ) (k : LoopKind) (c t : Script) → kind_of b (kind.Loop k c t) ≡ bare.Loop k (script_of b c) (script_of b t)
unfolding script_of
kind_of-Loop b k c t = refl

for_words_row : (b : List ℕ) (o : Option (List Word)) → for_words_of b (back-Kind-For-1 o) ≡ words_from b o
unfolding for_words_of
for_words_row b None = refl
for_words_row b (Some ws) = ap (λ xs. Some (map (word_of b) xs)) (items_hidden-the_row-Word-5 ws)

pub kind_of-For : (b : List ℕ) (s : Span) (o : Option (List Word)) (t : Script) → kind_of b (kind.For s o t) ≡ bare.For (text_of b s) (words_from b o) (script_of b t)
unfolding script_of
kind_of-For b s o t = ap (λ ws. bare.For (text_of b s) ws (script_of b t)) (for_words_row b o)

pub kind_of-Branches : (b : List ℕ) (w : Word) (cs : List Clause) → kind_of b (kind.Branches w cs) ≡ bare.Case (word_of b w) (clauses_from b cs)
unfolding script_of
kind_of-Branches b w cs = ap (bare.Case (word_of b w)) (clauses_listed b (hidden-the_row-Clause-6 cs) ∙ ap (clauses_from b) (items_hidden-the_row-Clause-6 cs))

pub kind_of-Define : (b : List ℕ) (s : Span) (c : Command) → kind_of b (kind.Define s c) ≡ bare.Define (text_of b s) (command_of b c)
unfolding script_of shape-the_row-Command-7 hidden-the_row-Command-7 denote.Hole.Carrier.hidden
kind_of-Define b s c = refl

-- elements and targets

pub element_of-Assignment : (b : List ℕ) (s : Span) (w : Word) → element_of b (element.Assignment s w) ≡ bare.Assigns (text_of b s) (word_of b w)
unfolding element_of
element_of-Assignment b s w = refl

pub element_of-Word : (b : List ℕ) (w : Word) → element_of b (element.Word w) ≡ bare.Operand (word_of b w)
unfolding element_of
element_of-Word b w = refl

pub element_of-Redirection : (b : List ℕ) (r : Redirect) → element_of b (element.Redirection r) ≡ bare.Redirects (redirect_of b r)
unfolding element_of
element_of-Redirection b r = refl

pub opens_of-File : (b : List ℕ) (d : Direction) (w : Word) → opens_of b (target.File d w) ≡ bare.File d
unfolding opens_of
opens_of-File b d w = refl

pub opens_of-Here : (b : List ℕ) (h : HereDoc) → opens_of b (target.Here h) ≡ bare.Here h.strip (record { body = word_of b h.body; end = text_of b h.end })
unfolding opens_of
opens_of-Here b h = refl

pub opened_of-File : (b : List ℕ) (d : Direction) (w : Word) → opened_of b (target.File d w) ≡ word_of b w
unfolding opened_of
opened_of-File b d w = refl

pub opened_of-Here : (b : List ℕ) (h : HereDoc) → opened_of b (target.Here h) ≡ word_of b h.delimiter
unfolding opened_of
opened_of-Here b h = refl

pub ruleset kinds = (kind_of-Simple, kind_of-Group, kind_of-Subshell, kind_of-if, kind_of-else, kind_of-Loop, kind_of-For, kind_of-Branches, kind_of-Define)

pub ruleset elements = (element_of-Assignment, element_of-Word, element_of-Redirection)

pub ruleset targets = (opens_of-File, opens_of-Here, opened_of-File, opened_of-Here)
