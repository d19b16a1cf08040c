-- The bare tree of what the reading makes.
use Rattle.std.proofs.Common.{◌≡◌, ℕ, Bool, List, ◌∷◌, map, ap, ◌∙◌}
use Rattle.sh_tree.specs.declared.tree.AndOr.{AndOr, out-AndOr, out-roll-AndOr}
use Rattle.sh_tree.specs.declared.tree.Branch.{Branch, out-roll-Branch}
use Rattle.sh_tree.specs.declared.tree.Clause.{Clause, out-roll-Clause}
use Rattle.sh_tree.specs.declared.tree.ClauseEnd.{ClauseEnd}
use Rattle.sh_tree.specs.declared.tree.Command.{Command, out-roll-Command}
use Rattle.sh_tree.specs.declared.tree.Item.{Item, out-roll-Item}
use Rattle.sh_tree.specs.declared.tree.Kind.{Kind}
use Rattle.sh_tree.specs.declared.tree.Link.{Link}
use Rattle.sh_tree.specs.declared.tree.Pipe.{Pipe, out-roll-Pipe}
use Rattle.sh_tree.specs.declared.tree.Redirect.{Redirect}
use Rattle.sh_tree.specs.declared.tree.Script.{Script, out-roll-Script}
use Rattle.sh_tree.specs.declared.tree.Word.{Word}
use Rattle.sh_tree.specs.standard.language.Trees as tree
use Rattle.sh_print.specs.Bare as bare
use Rattle.sh_print.specs.Lists.{links_from, items_from, commands_from, branches_from, clauses_from}
use Rattle.sh_print.specs.Trees.{word_of, redirect_of, script_of, pipeline_of, command_of, kind_of}
use Rattle.sh_print.proofs.TreeLemmas.{script_out, pipeline_out, command_out}

pub script_made : (b : List ℕ) (is : List Item) → script_of b (tree.script is) ≡ items_from b is
script_made b is = script_out b (tree.script is) ∙ ap (λ x. items_from b x.items) (out-roll-Script (record { items = is }))

pub item_listed : (b : List ℕ) (l : AndOr) (g : Bool) (is : List Item)
    → items_from b (tree.item l g ∷ is) ≡ bare.more_items (pipeline_of b (out-AndOr l).first) (links_from b (out-AndOr l).rest) g (items_from b is)
unfolding items_from
item_listed b l g is =
    ap (λ x. bare.more_items (pipeline_of b (out-AndOr x.list).first) (links_from b (out-AndOr x.list).rest) x.background (items_from b is)) (out-roll-Item (record { list = l; background = g }))

pub item_made : (b : List ℕ) (p : Pipe) (ps : List (Link × Pipe)) (g : Bool) (is : List Item)
    → items_from b (tree.item (tree.and_or p ps) g ∷ is) ≡ bare.more_items (pipeline_of b p) (links_from b ps) g (items_from b is)
item_made b p ps g is =
    item_listed b (tree.and_or p ps) g is ∙ ap (λ x. bare.more_items (pipeline_of b x.first) (links_from b x.rest) g (items_from b is)) (out-roll-AndOr (record { first = p; rest = ps }))

pub pipe_made : (b : List ℕ) (negated : Bool) (cs : List Command) → pipeline_of b (tree.pipe negated cs) ≡ bare.pipeline negated (commands_from b cs)
pipe_made b negated cs = pipeline_out b (tree.pipe negated cs) ∙ ap (λ x. bare.pipeline x.negated (commands_from b x.parts)) (out-roll-Pipe (record { negated = negated; parts = cs }))

pub command_made : (b : List ℕ) (number at : ℕ) (k : Kind) (rs : List Redirect) → command_of b (tree.command number at k rs) ≡ bare.command (kind_of b k) (map (redirect_of b) rs)
command_made b number at k rs =
    command_out b (tree.command number at k rs)
    ∙ ap (λ x. bare.command (kind_of b x.kind) (map (redirect_of b) x.redirects)) (out-roll-Command (record { number = number; at = at; kind = k; redirects = rs }))

pub branch_made : (b : List ℕ) (c t : Script) (bs : List Branch) → branches_from b (tree.branch c t ∷ bs) ≡ bare.more_branches (script_of b c) (script_of b t) (branches_from b bs)
unfolding branches_from
branch_made b c t bs = ap (λ x. bare.more_branches (script_of b x.condition) (script_of b x.body) (branches_from b bs)) (out-roll-Branch (record { condition = c; body = t }))

pub clause_made : (b : List ℕ) (ws : List Word) (t : Script) (e : ClauseEnd) (cs : List Clause)
    → clauses_from b (tree.clause ws t e ∷ cs) ≡ bare.more_clauses (map (word_of b) ws) (script_of b t) e (clauses_from b cs)
unfolding clauses_from
clause_made b ws t e cs =
    ap (λ x. bare.more_clauses (map (word_of b) x.patterns) (script_of b x.body) x.end (clauses_from b cs)) (out-roll-Clause (record { patterns = ws; body = t; end = e }))
