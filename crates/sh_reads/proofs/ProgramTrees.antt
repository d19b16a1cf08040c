-- The program of a piece of a tree, as the reading writes it.
use Rattle.std.proofs.Common.{◌≡◌, ℕ, Bool, List, ◌∷◌, ap, ◌∙◌}
use Rattle.sh_tree.specs.declared.tree.AndOr.{AndOr, out-roll-AndOr}
use Rattle.sh_tree.specs.declared.tree.Branch.{Branch, out-roll-Branch}
use Rattle.sh_tree.specs.declared.tree.Clause.{Clause, out-roll-Clause}
use Rattle.sh_tree.specs.declared.tree.ClauseEnd.{ClauseEnd}
use Rattle.sh_tree.specs.declared.tree.Command.{Command, out-roll-Command}
use Rattle.sh_tree.specs.declared.tree.Item.{Item, out-roll-Item}
use Rattle.sh_tree.specs.declared.tree.Kind.{Kind}
use Rattle.sh_tree.specs.declared.tree.Link.{Link}
use Rattle.sh_tree.specs.declared.tree.Pipe.{Pipe, out-roll-Pipe}
use Rattle.sh_tree.specs.declared.tree.Redirect.{Redirect}
use Rattle.sh_tree.specs.declared.tree.Script.{Script, out-roll-Script}
use Rattle.sh_tree.specs.declared.tree.Word.{Word}
use Rattle.sh_tree.specs.standard.language.Trees as tree
use Rattle.sh_tree.specs.standard.program.Syntax as p
use Rattle.sh_tree.specs.Lists.{words_from, items_from, links_from, commands_from, redirects_from, branches_from, clauses_from}
use Rattle.sh_tree.specs.standard.program.Trees.{script_of, and_or_of, pipeline_of, command_of, kind_of}
use Rattle.sh_tree.proofs.ProgramRules.{script_of-out, and_or_of-out, pipeline_of-out, command_of-out, items_from-more, branches_from-more, clauses_from-more}

pub script_made : (b : List ℕ) (is : List Item) → script_of b (tree.script is) ≡ items_from b is
script_made b is = script_of-out b (tree.script is) ∙ ap (λ t. items_from b t.items) (out-roll-Script (record { items = is }))

pub items_made : (b : List ℕ) (l : AndOr) (g : Bool) (is : List Item) → items_from b (tree.item l g ∷ is) ≡ p.more_items (and_or_of b l) g (items_from b is)
items_made b l g is =
    items_from-more b (tree.item l g) is ∙ ap (λ i. p.more_items (and_or_of b i.list) i.background (items_from b is)) (out-roll-Item (record { list = l; background = g }))

pub and_or_made : (b : List ℕ) (q : Pipe) (ps : List (Link × Pipe)) → and_or_of b (tree.and_or q ps) ≡ p.and_or (pipeline_of b q) (links_from b ps)
and_or_made b q ps = and_or_of-out b (tree.and_or q ps) ∙ ap (λ l. p.and_or (pipeline_of b l.first) (links_from b l.rest)) (out-roll-AndOr (record { first = q; rest = ps }))

pub pipe_made : (b : List ℕ) (negated : Bool) (cs : List Command) → pipeline_of b (tree.pipe negated cs) ≡ p.pipeline negated (commands_from b cs)
pipe_made b negated cs = pipeline_of-out b (tree.pipe negated cs) ∙ ap (λ q. p.pipeline q.negated (commands_from b q.parts)) (out-roll-Pipe (record { negated = negated; parts = cs }))

pub command_made : (b : List ℕ) (number at : ℕ) (k : Kind) (rs : List Redirect)
    → command_of b (tree.command number at k rs) ≡ p.command number at (kind_of b k) (redirects_from b rs)
command_made b number at k rs =
    command_of-out b (tree.command number at k rs)
    ∙ ap (λ c. p.command c.number c.at (kind_of b c.kind) (redirects_from b c.redirects)) (out-roll-Command (record { number = number; at = at; kind = k; redirects = rs }))

pub branches_made : (b : List ℕ) (c t : Script) (bs : List Branch)
    → branches_from b (tree.branch c t ∷ bs) ≡ p.more_branches (script_of b c) (script_of b t) (branches_from b bs)
branches_made b c t bs =
    branches_from-more b (tree.branch c t) bs
    ∙ ap (λ x. p.more_branches (script_of b x.condition) (script_of b x.body) (branches_from b bs)) (out-roll-Branch (record { condition = c; body = t }))

pub clauses_made : (b : List ℕ) (ws : List Word) (t : Script) (e : ClauseEnd) (cs : List Clause)
    → clauses_from b (tree.clause ws t e ∷ cs) ≡ p.more_clauses (words_from b ws) (script_of b t) e (clauses_from b cs)
clauses_made b ws t e cs =
    clauses_from-more b (tree.clause ws t e) cs
    ∙ ap (λ x. p.more_clauses (words_from b x.patterns) (script_of b x.body) x.end (clauses_from b cs)) (out-roll-Clause (record { patterns = ws; body = t; end = e }))
