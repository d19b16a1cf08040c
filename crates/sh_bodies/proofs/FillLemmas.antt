-- What filling does to each piece of a tree, by the pieces one level below it.
use Rattle.std.proofs.Common.{◌≡◌, ℕ, Bool, Result, Ok, Err, IfOk, Option, Some, None, List, [], ◌∷◌, ◌++◌, refl, sym, ap, subst, ◌∙◌}
use Rattle.std.proofs.lemmas.List.{append-nil, append_assoc}
use Rattle.sh_bodies.specs.declared.Document.{Document}
use Rattle.sh_tree.specs.declared.tree.Span.{Span}
use Rattle.sh_tree.specs.declared.tree.Script.{Script, Script', out-Script, out-roll-Script, Row_of-Item, end_of-Item, more_of-Item, items-the_row-Item}
use Rattle.sh_tree.specs.declared.tree.Item.{Item, Item', out-Item, out-roll-Item}
use Rattle.sh_tree.specs.declared.tree.AndOr.{AndOr, AndOr', out-AndOr, out-roll-AndOr, Row_of-AndOr-rest-2, end_of-AndOr-rest-2, more_of-AndOr-rest-2, items-the_row-AndOr-rest-2}
use Rattle.sh_tree.specs.declared.tree.Pipe.{Pipe, Pipe', out-Pipe, out-roll-Pipe, Row_of-Command, end_of-Command, more_of-Command, items-the_row-Command}
use Rattle.sh_tree.specs.declared.tree.Command.{Command, Command', out-Command, out-roll-Command}
use Rattle.sh_tree.specs.declared.tree.Kind.{Kind, Row_of-Branch, end_of-Branch, more_of-Branch, items-the_row-Branch, Row_of-Clause, end_of-Clause, more_of-Clause, items-the_row-Clause}
use Rattle.sh_tree.specs.declared.tree.Kind.TheVariants as kind
use Rattle.sh_tree.specs.declared.tree.Link.{Link}
use Rattle.sh_tree.specs.declared.tree.LoopKind.{LoopKind}
use Rattle.sh_tree.specs.declared.tree.Redirect.{Redirect}
use Rattle.sh_tree.specs.declared.tree.HereDoc.{HereDoc}
use Rattle.sh_tree.specs.declared.tree.Target.TheVariants as target
use Rattle.sh_tree.specs.declared.tree.Direction.{Direction}
use Rattle.sh_tree.specs.declared.tree.Word.{Word}
use Rattle.sh_tree.specs.declared.tree.Branch.{Branch, Branch', out-Branch, out-roll-Branch}
use Rattle.sh_tree.specs.declared.tree.Clause.{Clause, Clause', out-Clause, out-roll-Clause}
use Rattle.sh_tree.specs.declared.tree.ClauseEnd.{ClauseEnd}
use Rattle.sh_tree.specs.declared.tree.Element.{Element}
use Rattle.sh_tree.specs.declared.tree.Element.TheVariants as element
use Rattle.sh_tree.specs.declared.tree.Element.TheBlock.{items_hidden-the_row-Part-0, items_hidden-the_row-Element-3, items_hidden-the_row-Branch-4, hidden-the_row-Branch-4, back-Kind-Cond-1, items_shown-the_row-Word-5, items_hidden-the_row-Clause-6, hidden-the_row-Clause-6, shape-the_row-Command-7, hidden-the_row-Command-7, items_shown-the_row-AndOr-rest-2-8, items_shown-the_row-Redirect-9, items_shown-the_row-Command-10, items_shown-the_row-Item-11}
use Rattle.sh_tree.specs.standard.language.Trees as tree
use Rattle.sh_bodies.specs.Fill.{Filled, thread, fill, fill_target, fill_redirect, fill_element, fill_script, fill_items, fill_item, fill_and_or, fill_links, fill_link, fill_pipe, fill_commands, fill_command, fill_kind, fill_branches, fill_branch, fill_held, fill_otherwise, fill_clauses, fill_clause}

-- lists

-- what comes of a list, after what came of the list before it
abbrev pub behind : {A : Type 0} → List A → Filled (List A) → Filled (List A)
behind found r = (found ++ r.0, r.1)

pub thread_none : {A : Type 0} (f : List Document → A → Filled A) (ds : List Document) (found : List A) → behind found (thread f ds []) ≡ (found, ds)
unfolding thread
thread_none f ds found = ap (λ xs. (xs, ds)) (append-nil found)

pub thread_one : {A : Type 0} (f : List Document → A → Filled A) (found : List A) (ds rest : List Document) (x made : A) (xs : List A) → (made, rest) ≡ f ds x
    → behind found (thread f ds (x ∷ xs)) ≡ behind (found ++ made ∷ []) (thread f rest xs)
unfolding thread
thread_one f found ds rest x made xs e =
    subst (λ y. (found ++ y.0 ∷ (thread f y.1 xs).0, (thread f y.1 xs).1) ≡ behind (found ++ made ∷ []) (thread f rest xs)) e
    (ap (λ ys. (ys, (thread f rest xs).1)) (sym (append_assoc found (made ∷ []) (thread f rest xs).0)))

items_threaded : {m : _} (ds : List Document) (k : Row_of-Item m) → fill_items ds k ≡ thread fill_item ds (items-the_row-Item m k)
unfolding fill_items thread
items_threaded ds end_of-Item = refl
items_threaded ds (more_of-Item x rest) = ap (λ r. ((fill_item ds x).0 ∷ r.0, r.1)) (items_threaded (fill_item ds x).1 rest)

links_threaded : {m : _} (ds : List Document) (k : Row_of-AndOr-rest-2 m) → fill_links ds k ≡ thread fill_link ds (items-the_row-AndOr-rest-2 m k)
unfolding fill_items thread
links_threaded ds end_of-AndOr-rest-2 = refl
links_threaded ds (more_of-AndOr-rest-2 link x rest) = ap (λ r. ((link, (fill_pipe ds x).0) ∷ r.0, r.1)) (links_threaded (fill_pipe ds x).1 rest)

commands_threaded : {m : _} (ds : List Document) (k : Row_of-Command m) → fill_commands ds k ≡ thread fill_command ds (items-the_row-Command m k)
unfolding fill_items thread
commands_threaded ds end_of-Command = refl
commands_threaded ds (more_of-Command x rest) = ap (λ r. ((fill_command ds x).0 ∷ r.0, r.1)) (commands_threaded (fill_command ds x).1 rest)

branches_threaded : {m : _} (ds : List Document) (k : Row_of-Branch m) → fill_branches ds k ≡ thread fill_branch ds (items-the_row-Branch m k)
unfolding fill_items thread
branches_threaded ds end_of-Branch = refl
branches_threaded ds (more_of-Branch x rest) = ap (λ r. ((fill_branch ds x).0 ∷ r.0, r.1)) (branches_threaded (fill_branch ds x).1 rest)

clauses_threaded : {m : _} (ds : List Document) (k : Row_of-Clause m) → fill_clauses ds k ≡ thread fill_clause ds (items-the_row-Clause m k)
unfolding fill_items thread
clauses_threaded ds end_of-Clause = refl
clauses_threaded ds (more_of-Clause x rest) = ap (λ r. ((fill_clause ds x).0 ∷ r.0, r.1)) (clauses_threaded (fill_clause ds x).1 rest)

-- structs

scripted : Filled (List Item) → Filled Script
scripted r = (tree.script r.0, r.1)

script_out : (ds : List Document) (t : Script) → fill_script ds t ≡ scripted (thread fill_item ds (out-Script t).items)
unfolding fill_script out-Script denote.Hole.Carrier.out scripted
script_out ds (Script' shape row) = ap scripted (items_threaded ds row ∙ ap (thread fill_item ds) (sym (items_shown-the_row-Item-11 shape row)))

item_out : (ds : List Document) (x : Item) → fill_item ds x ≡ (tree.item (fill_and_or ds (out-Item x).list).0 (out-Item x).background, (fill_and_or ds (out-Item x).list).1)
unfolding fill_script out-Item denote.Hole.Carrier.out
item_out ds (Item' list background) = refl

linked : Pipe → Filled (List (Link × Pipe)) → Filled AndOr
linked p r = (tree.and_or p r.0, r.1)

and_or_out : (ds : List Document) (x : AndOr)
    → fill_and_or ds x ≡ linked (fill_pipe ds (out-AndOr x).first).0 (thread fill_link (fill_pipe ds (out-AndOr x).first).1 (out-AndOr x).rest)
unfolding fill_script out-AndOr denote.Hole.Carrier.out linked
and_or_out ds (AndOr' first shape row) =
    ap (linked (fill_pipe ds first).0) (links_threaded (fill_pipe ds first).1 row ∙ ap (thread fill_link (fill_pipe ds first).1) (sym (items_shown-the_row-AndOr-rest-2-8 shape row)))

piped : Bool → Filled (List Command) → Filled Pipe
piped negated r = (tree.pipe negated r.0, r.1)

pipe_out : (ds : List Document) (x : Pipe) → fill_pipe ds x ≡ piped (out-Pipe x).negated (thread fill_command ds (out-Pipe x).parts)
unfolding fill_script out-Pipe denote.Hole.Carrier.out piped
pipe_out ds (Pipe' negated shape row) = ap (piped negated) (commands_threaded ds row ∙ ap (thread fill_command ds) (sym (items_shown-the_row-Command-10 shape row)))

commanded : ℕ → ℕ → Kind → Filled (List Redirect) → Filled Command
commanded number at k r = (tree.command number at k r.0, r.1)

command_out : (ds : List Document) (x : Command)
    → fill_command ds x ≡ commanded (out-Command x).number (out-Command x).at (fill_kind ds (out-Command x).kind).0 (thread fill_redirect (fill_kind ds (out-Command x).kind).1 (out-Command x).redirects)
unfolding fill_script out-Command denote.Hole.Carrier.out commanded
command_out ds (Command' number at k shape row) =
    ap (λ xs. commanded number at (fill_kind ds k).0 (thread fill_redirect (fill_kind ds k).1 xs)) (sym (items_shown-the_row-Redirect-9 shape row))

branch_out : (ds : List Document) (x : Branch)
    → fill_branch ds x ≡ (tree.branch (fill_script ds (out-Branch x).condition).0 (fill_script (fill_script ds (out-Branch x).condition).1 (out-Branch x).body).0, (fill_script (fill_script ds (out-Branch x).condition).1 (out-Branch x).body).1)
unfolding fill_script out-Branch denote.Hole.Carrier.out
branch_out ds (Branch' condition body) = refl

clause_out : (ds : List Document) (x : Clause) → fill_clause ds x ≡ (tree.clause (out-Clause x).patterns (fill_script ds (out-Clause x).body).0 (out-Clause x).end, (fill_script ds (out-Clause x).body).1)
unfolding fill_script out-Clause denote.Hole.Carrier.out
clause_out ds (Clause' shape patterns body end) = ap (λ ws. (tree.clause ws (fill_script ds body).0 end, (fill_script ds body).1)) (sym (items_shown-the_row-Word-5 shape patterns))

-- what the tree's own words give

pub script_filled : (ds : List Document) (is : List Item) → fill_script ds (tree.script is) ≡ (tree.script (thread fill_item ds is).0, (thread fill_item ds is).1)
unfolding scripted
script_filled ds is = script_out ds (tree.script is) ∙ ap (λ x. scripted (thread fill_item ds x.items)) (out-roll-Script (record { items = is }))

pub item_filled : (ds : List Document) (l : AndOr) (g : Bool) → fill_item ds (tree.item l g) ≡ (tree.item (fill_and_or ds l).0 g, (fill_and_or ds l).1)
item_filled ds l g = item_out ds (tree.item l g) ∙ ap (λ x. (tree.item (fill_and_or ds x.list).0 x.background, (fill_and_or ds x.list).1)) (out-roll-Item (record { list = l; background = g }))

pub and_or_filled : (ds : List Document) (p : Pipe) (ps : List (Link × Pipe))
    → fill_and_or ds (tree.and_or p ps) ≡ (tree.and_or (fill_pipe ds p).0 (thread fill_link (fill_pipe ds p).1 ps).0, (thread fill_link (fill_pipe ds p).1 ps).1)
unfolding linked
and_or_filled ds p ps =
    and_or_out ds (tree.and_or p ps) ∙ ap (λ x. linked (fill_pipe ds x.first).0 (thread fill_link (fill_pipe ds x.first).1 x.rest)) (out-roll-AndOr (record { first = p; rest = ps }))

pub pipe_filled : (ds : List Document) (negated : Bool) (cs : List Command) → fill_pipe ds (tree.pipe negated cs) ≡ (tree.pipe negated (thread fill_command ds cs).0, (thread fill_command ds cs).1)
unfolding piped
pipe_filled ds negated cs = pipe_out ds (tree.pipe negated cs) ∙ ap (λ x. piped x.negated (thread fill_command ds x.parts)) (out-roll-Pipe (record { negated = negated; parts = cs }))

pub command_filled : (ds : List Document) (number at : ℕ) (k : Kind) (rs : List Redirect)
    → fill_command ds (tree.command number at k rs) ≡ (tree.command number at (fill_kind ds k).0 (thread fill_redirect (fill_kind ds k).1 rs).0, (thread fill_redirect (fill_kind ds k).1 rs).1)
unfolding commanded
command_filled ds number at k rs =
    command_out ds (tree.command number at k rs)
    ∙ ap (λ x. commanded x.number x.at (fill_kind ds x.kind).0 (thread fill_redirect (fill_kind ds x.kind).1 x.redirects)) (out-roll-Command (record { number = number; at = at; kind = k; redirects = rs }))

pub branch_filled : (ds : List Document) (c t : Script)
    → fill_branch ds (tree.branch c t) ≡ (tree.branch (fill_script ds c).0 (fill_script (fill_script ds c).1 t).0, (fill_script (fill_script ds c).1 t).1)
branch_filled ds c t =
    branch_out ds (tree.branch c t)
    ∙ ap (λ x. (tree.branch (fill_script ds x.condition).0 (fill_script (fill_script ds x.condition).1 x.body).0, (fill_script (fill_script ds x.condition).1 x.body).1)) (out-roll-Branch (record { condition = c; body = t }))

pub clause_filled : (ds : List Document) (ws : List Word) (t : Script) (e : ClauseEnd) → fill_clause ds (tree.clause ws t e) ≡ (tree.clause ws (fill_script ds t).0 e, (fill_script ds t).1)
clause_filled ds ws t e =
    clause_out ds (tree.clause ws t e) ∙ ap (λ x. (tree.clause x.patterns (fill_script ds x.body).0 x.end, (fill_script ds x.body).1)) (out-roll-Clause (record { patterns = ws; body = t; end = e }))

-- kinds

pub fill_Simple : (ds : List Document) (es : List Element) → fill_kind ds (kind.Simple es) ≡ (kind.Simple (thread fill_element ds es).0, (thread fill_element ds es).1)
unfolding fill_script
fill_Simple ds es = ap (λ xs. (kind.Simple (thread fill_element ds xs).0, (thread fill_element ds xs).1)) (items_hidden-the_row-Element-3 es)

pub fill_Group : (ds : List Document) (t : Script) → fill_kind ds (kind.Group t) ≡ (kind.Group (fill_script ds t).0, (fill_script ds t).1)
unfolding fill_script
fill_Group ds t = refl

pub fill_Subshell : (ds : List Document) (t : Script) → fill_kind ds (kind.Subshell t) ≡ (kind.Subshell (fill_script ds t).0, (fill_script ds t).1)
unfolding fill_script
fill_Subshell ds t = refl

otherwise_held : (ds : List Document) (o : Option Script) → fill_held ds (back-Kind-Cond-1 o) ≡ fill_otherwise ds o
unfolding fill_script
otherwise_held ds None = refl
otherwise_held ds (Some t) = refl

conditioned : List Branch → Filled (Option Script) → Filled Kind
conditioned bs r = (kind.Cond bs r.0, r.1)

pub fill_Cond : (ds : List Document) (bs : List Branch) (o : Option Script)
    → fill_kind ds (kind.Cond bs o) ≡ (kind.Cond (thread fill_branch ds bs).0 (fill_otherwise (thread fill_branch ds bs).1 o).0, (fill_otherwise (thread fill_branch ds bs).1 o).1)
unfolding fill_script conditioned
fill_Cond ds bs o =
    ap (λ (r : Filled (List Branch)). conditioned r.0 (fill_held r.1 (back-Kind-Cond-1 o))) (branches_threaded ds (hidden-the_row-Branch-4 bs) ∙ ap (thread fill_branch ds) (items_hidden-the_row-Branch-4 bs))
    ∙ ap (conditioned (thread fill_branch ds bs).0) (otherwise_held (thread fill_branch ds bs).1 o)

pub fill_Loop : (ds : List Document) (k : LoopKind) (c t : Script)
    → fill_kind ds (kind.Loop k c t) ≡ (kind.Loop k (fill_script ds c).0 (fill_script (fill_script ds c).1 t).0, (fill_script (fill_script ds c).1 t).1)
unfolding fill_script
fill_Loop ds k c t = refl

pub fill_For : (ds : List Document) (s : Span) (o : Option (List Word)) (t : Script) → fill_kind ds (kind.For s o t) ≡ (kind.For s o (fill_script ds t).0, (fill_script ds t).1)
unfolding fill_script
fill_For ds s o t = refl

pub fill_Branches : (ds : List Document) (w : Word) (cs : List Clause) → fill_kind ds (kind.Branches w cs) ≡ (kind.Branches w (thread fill_clause ds cs).0, (thread fill_clause ds cs).1)
unfolding fill_script
fill_Branches ds w cs =
    ap (λ ps. (kind.Branches (record { span = w.span; parts = ps }) (fill_clauses ds (hidden-the_row-Clause-6 cs)).0, (fill_clauses ds (hidden-the_row-Clause-6 cs)).1)) (items_hidden-the_row-Part-0 w.parts)
    ∙ ap (λ (r : Filled (List Clause)). (kind.Branches w r.0, r.1)) (clauses_threaded ds (hidden-the_row-Clause-6 cs) ∙ ap (thread fill_clause ds) (items_hidden-the_row-Clause-6 cs))

pub fill_Define : (ds : List Document) (s : Span) (c : Command) → fill_kind ds (kind.Define s c) ≡ (kind.Define s (fill_command ds c).0, (fill_command ds c).1)
unfolding fill_script shape-the_row-Command-7 hidden-the_row-Command-7 denote.Hole.Carrier.hidden
fill_Define ds s c = refl

-- elements and targets

pub fill_File : (ds : List Document) (d : Direction) (w : Word) → fill_target ds (target.File d w) ≡ (target.File d w, ds)
unfolding fill_target
fill_File [] d w = refl
fill_File (e ∷ ds) d w = refl

pub fill_Here : (d : Document) (ds : List Document) (h : HereDoc) → fill_target (d ∷ ds) (target.Here h) ≡ (target.Here (tree.here_doc h.strip h.delimiter d.text d.end), ds)
unfolding fill_target
fill_Here d ds h = ap (λ ps. (target.Here (tree.here_doc h.strip (record { span = h.delimiter.span; parts = ps }) d.text d.end), ds)) (items_hidden-the_row-Part-0 h.delimiter.parts)

pub fill_none : (h : HereDoc) → fill_target [] (target.Here h) ≡ (target.Here h, [])
unfolding fill_target
fill_none h = refl

pub fill_Assignment : (ds : List Document) (s : Span) (w : Word) → fill_element ds (element.Assignment s w) ≡ (element.Assignment s w, ds)
unfolding fill_element
fill_Assignment ds s w = refl

pub fill_Word : (ds : List Document) (w : Word) → fill_element ds (element.Word w) ≡ (element.Word w, ds)
unfolding fill_element
fill_Word ds w = refl

pub fill_Redirection : (ds : List Document) (r : Redirect) → fill_element ds (element.Redirection r) ≡ (element.Redirection (fill_redirect ds r).0, (fill_redirect ds r).1)
unfolding fill_element
fill_Redirection ds r = refl

pub ruleset targets = (fill_File, fill_Here, fill_none)

pub ruleset elements = (fill_Assignment, fill_Word, fill_Redirection)

-- What is made of the pieces one level below

pub script_made : (ds rest : List Document) (t : Script) (is : List Item) → (is, rest) ≡ thread fill_item ds (out-Script t).items → (tree.script is, rest) ≡ fill_script ds t
unfolding scripted
script_made ds rest t is e = ap scripted e ∙ sym (script_out ds t)

pub item_made : (ds rest : List Document) (x : Item) (l : AndOr) → (l, rest) ≡ fill_and_or ds (out-Item x).list → (tree.item l (out-Item x).background, rest) ≡ fill_item ds x
item_made ds rest x l e = ap (λ (r : Filled AndOr). (tree.item r.0 (out-Item x).background, r.1)) e ∙ sym (item_out ds x)

pub and_or_made : (ds mid rest : List Document) (x : AndOr) (p : Pipe) (ps : List (Link × Pipe)) → (p, mid) ≡ fill_pipe ds (out-AndOr x).first → (ps, rest) ≡ thread fill_link mid (out-AndOr x).rest
    → (tree.and_or p ps, rest) ≡ fill_and_or ds x
unfolding linked
and_or_made ds mid rest x p ps first links =
    ap (linked p) links ∙ ap (λ (r : Filled Pipe). linked r.0 (thread fill_link r.1 (out-AndOr x).rest)) first ∙ sym (and_or_out ds x)

pub pipe_made : (ds rest : List Document) (x : Pipe) (cs : List Command) → (cs, rest) ≡ thread fill_command ds (out-Pipe x).parts → (tree.pipe (out-Pipe x).negated cs, rest) ≡ fill_pipe ds x
unfolding piped
pipe_made ds rest x cs e = ap (piped (out-Pipe x).negated) e ∙ sym (pipe_out ds x)

pub command_made : (ds mid rest : List Document) (x : Command) (k : Kind) (rs : List Redirect) → (k, mid) ≡ fill_kind ds (out-Command x).kind → (rs, rest) ≡ thread fill_redirect mid (out-Command x).redirects
    → (tree.command (out-Command x).number (out-Command x).at k rs, rest) ≡ fill_command ds x
unfolding commanded
command_made ds mid rest x k rs first more =
    ap (commanded (out-Command x).number (out-Command x).at k) more
    ∙ ap (λ (r : Filled Kind). commanded (out-Command x).number (out-Command x).at r.0 (thread fill_redirect r.1 (out-Command x).redirects)) first ∙ sym (command_out ds x)

pub branch_made : (ds mid rest : List Document) (x : Branch) (c t : Script) → (c, mid) ≡ fill_script ds (out-Branch x).condition → (t, rest) ≡ fill_script mid (out-Branch x).body
    → (tree.branch c t, rest) ≡ fill_branch ds x
branch_made ds mid rest x c t first more =
    ap (λ (r : Filled Script). (tree.branch c r.0, r.1)) more
    ∙ ap (λ (r : Filled Script). (tree.branch r.0 (fill_script r.1 (out-Branch x).body).0, (fill_script r.1 (out-Branch x).body).1)) first ∙ sym (branch_out ds x)

pub clause_made : (ds rest : List Document) (x : Clause) (t : Script) → (t, rest) ≡ fill_script ds (out-Clause x).body → (tree.clause (out-Clause x).patterns t (out-Clause x).end, rest) ≡ fill_clause ds x
clause_made ds rest x t e = ap (λ (r : Filled Script). (tree.clause (out-Clause x).patterns r.0 (out-Clause x).end, r.1)) e ∙ sym (clause_out ds x)

-- kinds; k is the kind as it is matched

module _ (ds rest : List Document) (k : Kind) where
  pub Simple_made : (es fs : List Element) → k ≡ kind.Simple es → (fs, rest) ≡ thread fill_element ds es → (kind.Simple fs, rest) ≡ fill_kind ds k
  Simple_made es fs is e = ap (λ (r : Filled (List Element)). (kind.Simple r.0, r.1)) e ∙ sym (ap (fill_kind ds) is ∙ fill_Simple ds es)

  pub Group_made : (t u : Script) → k ≡ kind.Group t → (u, rest) ≡ fill_script ds t → (kind.Group u, rest) ≡ fill_kind ds k
  Group_made t u is e = ap (λ (r : Filled Script). (kind.Group r.0, r.1)) e ∙ sym (ap (fill_kind ds) is ∙ fill_Group ds t)

  pub Subshell_made : (t u : Script) → k ≡ kind.Subshell t → (u, rest) ≡ fill_script ds t → (kind.Subshell u, rest) ≡ fill_kind ds k
  Subshell_made t u is e = ap (λ (r : Filled Script). (kind.Subshell r.0, r.1)) e ∙ sym (ap (fill_kind ds) is ∙ fill_Subshell ds t)

  pub Cond_made : (mid : List Document) (bs cs : List Branch) (o p : Option Script) → k ≡ kind.Cond bs o → (cs, mid) ≡ thread fill_branch ds bs → (p, rest) ≡ fill_otherwise mid o
      → (kind.Cond cs p, rest) ≡ fill_kind ds k
  unfolding conditioned
  Cond_made mid bs cs o p is first more =
      ap (conditioned cs) more ∙ ap (λ (r : Filled (List Branch)). conditioned r.0 (fill_otherwise r.1 o)) first ∙ sym (ap (fill_kind ds) is ∙ fill_Cond ds bs o)

  pub Loop_made : (mid : List Document) (l : LoopKind) (c d t u : Script) → k ≡ kind.Loop l c t → (d, mid) ≡ fill_script ds c → (u, rest) ≡ fill_script mid t → (kind.Loop l d u, rest) ≡ fill_kind ds k
  Loop_made mid l c d t u is first more =
      ap (λ (r : Filled Script). (kind.Loop l d r.0, r.1)) more ∙ ap (λ (r : Filled Script). (kind.Loop l r.0 (fill_script r.1 t).0, (fill_script r.1 t).1)) first
      ∙ sym (ap (fill_kind ds) is ∙ fill_Loop ds l c t)

  pub For_made : (s : Span) (o : Option (List Word)) (t u : Script) → k ≡ kind.For s o t → (u, rest) ≡ fill_script ds t → (kind.For s o u, rest) ≡ fill_kind ds k
  For_made s o t u is e = ap (λ (r : Filled Script). (kind.For s o r.0, r.1)) e ∙ sym (ap (fill_kind ds) is ∙ fill_For ds s o t)

  pub Branches_made : (w : Word) (cs es : List Clause) → k ≡ kind.Branches w cs → (es, rest) ≡ thread fill_clause ds cs → (kind.Branches w es, rest) ≡ fill_kind ds k
  Branches_made w cs es is e = ap (λ (r : Filled (List Clause)). (kind.Branches w r.0, r.1)) e ∙ sym (ap (fill_kind ds) is ∙ fill_Branches ds w cs)

  pub Define_made : (s : Span) (c d : Command) → k ≡ kind.Define s c → (d, rest) ≡ fill_command ds c → (kind.Define s d, rest) ≡ fill_kind ds k
  Define_made s c d is e = ap (λ (r : Filled Command). (kind.Define s r.0, r.1)) e ∙ sym (ap (fill_kind ds) is ∙ fill_Define ds s c)

-- The whole script

pub none_filled : (ds : List Document) (t : Script) → ds ≡ [] → t ≡ fill ds t
unfolding fill
none_filled [] t none = refl
none_filled (d ∷ ds) t none = cc

pub all_filled : {E : Type 0} (r : Result Script E) (ds queue rest : List Document) (t : Script) → queue ≡ ds → (ds ≡ [] → ⊥) → IfOk r (λ u. (u, rest) ≡ fill_script queue t) → IfOk r (λ u. u ≡ fill ds t)
unfolding fill
all_filled (Ok u) [] queue rest t is some h = absurd (some refl)
all_filled (Ok u) (d ∷ ds) queue rest t is some h = ap (λ (x : Filled Script). x.0) (h ∙ ap (λ q. fill_script q t) is)
all_filled (Err e) ds queue rest t is some h = tt
