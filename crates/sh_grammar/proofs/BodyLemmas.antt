-- The bytes are read in the same way, up to the same state, whatever the bodies of the level's
-- here-documents are.
use Rattle.std.proofs.Common.{◌≡◌, ℕ, ◌+◌, false, List, [], ◌∷◌, Option, None, refl, subst}
use Rattle.sh_tree.specs.declared.token.command.Lead.{Lead}
use Rattle.sh_tree.specs.declared.token.command.Stage.{Stage}
use Rattle.sh_tree.specs.declared.tree.AndOr.{AndOr}
use Rattle.sh_tree.specs.declared.tree.Branch.{Branch}
use Rattle.sh_tree.specs.declared.tree.Clause.{Clause}
use Rattle.sh_tree.specs.declared.tree.Command.{Command}
use Rattle.sh_tree.specs.declared.tree.Element.{Element}
use Rattle.sh_tree.specs.declared.tree.Item.{Item}
use Rattle.sh_tree.specs.declared.tree.Kind.{Kind}
use Rattle.sh_tree.specs.declared.tree.Link.{Link}
use Rattle.sh_tree.specs.declared.tree.Pipe.{Pipe}
use Rattle.sh_tree.specs.declared.tree.Redirect.{Redirect}
use Rattle.sh_tree.specs.declared.tree.Script.{Script}
use Rattle.sh_tree.specs.standard.language.Reading as r
use Rattle.sh_tree.specs.standard.language.Reading.{ReadsRedirect, ReadsRedirects, ReadsElements, ReadsCommand, ReadsCompound, ReadsDo, ReadsBranches, ReadsElse, ReadsClauses, ReadsPipeline, ReadsCommands, ReadsAndOr, ReadsLinks, ReadsItems, ReadsList, ReadsSequence, ReadsScript, is_empty}
use Rattle.sh_tree.specs.standard.language.States.{Spot, State, Document, closing, nth, waits, within}
use Rattle.sh_tree.specs.standard.language.Trees as tree
use Rattle.sh_tree.proofs.Inversions.{script_is}
use Rattle.sh_grammar.specs.Readers.{unread}

mutual
  unfolding is_empty

  redirect_with : {limit : ℕ} {b : List ℕ} {body : ℕ → Document} {s v : State} {q : Redirect} (other : ℕ → Document) → ReadsRedirect limit b body s v q
      → (p : Redirect) × ReadsRedirect limit b other s v p
  redirect_with other (r.file h o l w) = (_, r.file h o l w)
  redirect_with other (r.here_document h o l w d) = (_, r.here_document h o l w d)

  redirects_with : {limit : ℕ} {b : List ℕ} {body : ℕ → Document} {s v : State} {qs : List Redirect} (other : ℕ → Document) → ReadsRedirects limit b body s v qs
      → (ps : List Redirect) × ReadsRedirects limit b other s v ps × (is_empty ps ≡ is_empty qs)
  redirects_with other (r.no_redirect h) = ([], r.no_redirect h, refl)
  redirects_with other (r.more_redirects h q l) = let f = redirect_with other q in let g = redirects_with other l in (f.0 ∷ g.0, r.more_redirects h f.1 g.1, refl)

  elements_with : {limit : ℕ} {b : List ℕ} {body : ℕ → Document} {g : Stage} {s v : State} {es : List Element} (other : ℕ → Document) → ReadsElements limit b body g s v es
      → (fs : List Element) × ReadsElements limit b other g s v fs
  elements_with other (r.no_element h) = ([], r.no_element h)
  elements_with other (r.assigned_element h w l) = let f = elements_with other l in (_, r.assigned_element h w f.1)
  elements_with other (r.word_element h w l) = let f = elements_with other l in (_, r.word_element h w f.1)
  elements_with other (r.redirect_element h q l) = let f = redirect_with other q in let g = elements_with other l in (_, r.redirect_element h f.1 g.1)

  command_with : {limit : ℕ} {b : List ℕ} {body : ℕ → Document} {s v : State} {c : Command} (other : ℕ → Document) → ReadsCommand limit b body s v c
      → (d : Command) × ReadsCommand limit b other s v d
  command_with other (r.simple_command h l) = let f = elements_with other l in (_, r.simple_command h f.1)
  command_with {limit = limit} {b = b} {s = s} other (r.compound_command {v = w} h k l) =
      let f = compound_with other k in
      let g = redirects_with other l in
      let d = tree.command (s.spot.count + 1) s.spot.at f.0 g.0 in
      (d, subst (λ e. ReadsCommand limit b other s (closing e w) d) g.2 (r.compound_command h f.1 g.1))
  command_with other (r.definition h o p k i c) = let f = command_with other c in (_, r.definition h o p k i f.1)

  compound_with : {limit : ℕ} {b : List ℕ} {body : ℕ → Document} {l : Lead} {s v : State} {k : Kind} (other : ℕ → Document) → ReadsCompound limit b body l s v k
      → (j : Kind) × ReadsCompound limit b other l s v j
  compound_with other (r.group d h e) = let f = list_with other h in (_, r.group d f.1 e)
  compound_with other (r.subshell d h e) = let f = list_with other h in (_, r.subshell d f.1 e)
  compound_with other (r.cond d h) = let f = branches_with other h in (_, r.cond d f.2)
  compound_with other (r.while_loop d h g) = let f = list_with other h in let e = do_with other g in (_, r.while_loop d f.1 e.1)
  compound_with other (r.until_loop d h g) = let f = list_with other h in let e = do_with other g in (_, r.until_loop d f.1 e.1)
  compound_with other (r.for_loop d n h g) = let e = do_with other g in (_, r.for_loop d n h e.1)
  compound_with other (r.case_of d i w h k g c) = let f = clauses_with other c in (_, r.case_of d i w h k g f.1)

  do_with : {limit : ℕ} {b : List ℕ} {body : ℕ → Document} {s v : State} {t : Script} (other : ℕ → Document) → ReadsDo limit b body s v t
      → (u : Script) × ReadsDo limit b other s v u
  do_with other (r.do_group h l d) = let f = list_with other l in (_, r.do_group h f.1 d)

  branches_with : {limit : ℕ} {b : List ℕ} {body : ℕ → Document} {s v : State} {bs : List Branch} {o : Option Script} (other : ℕ → Document)
      → ReadsBranches limit b body s v bs o → (cs : List Branch) × (p : Option Script) × ReadsBranches limit b other s v cs p
  branches_with other (r.branch h k l e) = let f = list_with other h in let g = list_with other l in let i = else_with other e in (_, _, r.branch f.1 k g.1 i.2)

  else_with : {limit : ℕ} {b : List ℕ} {body : ℕ → Document} {s v : State} {bs : List Branch} {o : Option Script} (other : ℕ → Document)
      → ReadsElse limit b body s v bs o → (cs : List Branch) × (p : Option Script) × ReadsElse limit b other s v cs p
  else_with other (r.fi h) = ([], None, r.fi h)
  else_with other (r.otherwise h l k) = let f = list_with other l in (_, _, r.otherwise h f.1 k)
  else_with other (r.elif h l) = let f = branches_with other l in (_, _, r.elif h f.2)

  clauses_with : {limit : ℕ} {b : List ℕ} {body : ℕ → Document} {s v : State} {cs : List Clause} (other : ℕ → Document) → ReadsClauses limit b body s v cs
      → (ds : List Clause) × ReadsClauses limit b other s v ds
  clauses_with other (r.esac h) = ([], r.esac h)
  clauses_with other (r.last_clause h ps l e) = let f = sequence_with other l in (_, r.last_clause h ps f.1 e)
  clauses_with other (r.more_clauses h ps l i k cs) = let f = sequence_with other l in let g = clauses_with other cs in (_, r.more_clauses h ps f.1 i k g.1)

  pipeline_with : {limit : ℕ} {b : List ℕ} {body : ℕ → Document} {s v : State} {p : Pipe} (other : ℕ → Document) → ReadsPipeline limit b body s v p
      → (q : Pipe) × ReadsPipeline limit b other s v q
  pipeline_with other (r.negated h l) = let f = commands_with other l in (_, r.negated h f.1)
  pipeline_with other (r.straight h l) = let f = commands_with other l in (_, r.straight h f.1)

  commands_with : {limit : ℕ} {b : List ℕ} {body : ℕ → Document} {s v : State} {cs : List Command} (other : ℕ → Document) → ReadsCommands limit b body s v cs
      → (ds : List Command) × ReadsCommands limit b other s v ds
  commands_with other (r.last_command h bar) = let f = command_with other h in (_, r.last_command f.1 bar)
  commands_with other (r.more_commands h bar k l) = let f = command_with other h in let g = commands_with other l in (_, r.more_commands f.1 bar k g.1)

  and_or_with : {limit : ℕ} {b : List ℕ} {body : ℕ → Document} {s v : State} {l : AndOr} (other : ℕ → Document) → ReadsAndOr limit b body s v l
      → (m : AndOr) × ReadsAndOr limit b other s v m
  and_or_with other (r.linked p l) = let f = pipeline_with other p in let g = links_with other l in (_, r.linked f.1 g.1)

  links_with : {limit : ℕ} {b : List ℕ} {body : ℕ → Document} {s v : State} {ps : List (Link × Pipe)} (other : ℕ → Document) → ReadsLinks limit b body s v ps
      → (qs : List (Link × Pipe)) × ReadsLinks limit b other s v qs
  links_with other (r.no_link h) = ([], r.no_link h)
  links_with other (r.more_links h k p l) = let f = pipeline_with other p in let g = links_with other l in (_, r.more_links h k f.1 g.1)

  items_with : {limit : ℕ} {b : List ℕ} {body : ℕ → Document} {s v : State} {is : List Item} (other : ℕ → Document) → ReadsItems limit b body s v is
      → (js : List Item) × ReadsItems limit b other s v js
  items_with other (r.last_item l n k) = let f = and_or_with other l in (_, r.last_item f.1 n k)
  items_with other (r.ended_item l n k e) = let f = and_or_with other l in (_, r.ended_item f.1 n k e)
  items_with other (r.more_items l n k e i) = let f = and_or_with other l in let g = items_with other i in (_, r.more_items f.1 n k e g.1)

  list_with : {limit : ℕ} {b : List ℕ} {body : ℕ → Document} {s v : State} {t : Script} (other : ℕ → Document) → ReadsList limit b body s v t
      → (u : Script) × ReadsList limit b other s v u
  list_with other (r.list k h i) = let f = items_with other i in (_, r.list k h f.1)

  pub sequence_with : {limit : ℕ} {b : List ℕ} {body : ℕ → Document} {s v : State} {t : Script} (other : ℕ → Document) → ReadsSequence limit b body s v t
      → (u : Script) × ReadsSequence limit b other s v u
  sequence_with other (r.nothing k h) = (_, r.nothing k h)
  sequence_with other (r.sequence l) = let f = list_with other l in (_, r.sequence f.1)

-- a level, read without its bodies
pub record Level (limit : ℕ) (b : List ℕ) (s u : Spot) (t : Script) : Type 0 where
  pub end : State
  pub tree : Script
  pub reads : ReadsSequence limit b unread (within s) end tree
  pub is : u ≡ end.spot
  pub over : waits end.pending ≡ false
  -- and with them
  pub whole : ReadsSequence limit b (nth end.bodies) (within s) end t

pub level_of : {limit : ℕ} {b : List ℕ} {s u : Spot} {t : Script} → ReadsScript limit b s u t → Level limit b s u t
level_of {limit = limit} {b = b} {s = s} {t = t} l =
    let f = script_is l in
    let g = sequence_with unread f.3 in
    record {
      end = f.0;
      tree = g.0;
      reads = g.1;
      is = f.1;
      over = f.2;
      whole = f.3;
    }
