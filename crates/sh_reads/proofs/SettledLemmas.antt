-- Among commands every state is at a token.
use Rattle.std.proofs.Common.{◌≡◌, ℕ, ◌+◌, Bool, true, false, if◌then◌else◌, List, Option, drop}
use Rattle.sh_tree.specs.declared.tree.AndOr.{AndOr}
use Rattle.sh_tree.specs.declared.tree.Branch.{Branch}
use Rattle.sh_tree.specs.declared.tree.Clause.{Clause}
use Rattle.sh_tree.specs.declared.tree.Command.{Command}
use Rattle.sh_tree.specs.declared.tree.Element.{Element}
use Rattle.sh_tree.specs.declared.tree.Item.{Item}
use Rattle.sh_tree.specs.declared.tree.Kind.{Kind}
use Rattle.sh_tree.specs.declared.tree.Link.{Link}
use Rattle.sh_tree.specs.declared.tree.Pipe.{Pipe}
use Rattle.sh_tree.specs.declared.tree.Redirect.{Redirect}
use Rattle.sh_tree.specs.declared.tree.Script.{Script}
use Rattle.sh_tree.specs.declared.tree.Word.{Word}
use Rattle.sh_tree.specs.declared.token.command.Lead.{Lead}
use Rattle.sh_tree.specs.declared.token.command.Stage.{Stage}
use Rattle.sh_tree.specs.standard.language.Commands.{gap_length, is_newline_lead}
use Rattle.sh_tree.specs.standard.language.States.{Spot, State, Document, next, past, begun}
use Rattle.sh_tree.specs.standard.language.Reading as r
use Rattle.sh_tree.specs.standard.language.Reading.{lead_here, skip, behind_name, parted, ReadsRedirect, ReadsRedirects, ReadsBreaks, ReadsElements, ReadsCommand, ReadsCompound, ReadsDo, ReadsBranches, ReadsElse, ReadsForWords, ReadsWords, ReadsClauses, ReadsPipeline, ReadsCommands, ReadsAndOr, ReadsLinks, ReadsItems, ReadsList}
use Rattle.sh_reads.proofs.GapLemmas.{blanks_gap}

-- neither a blank nor a line continuation is there
abbrev pub IsSettled : List ℕ → Spot → Type 0
IsSettled b s = gap_length (drop s.at b) ≡ 0

pub settled_next : (b : List ℕ) (i : ℕ) (s : State) → IsSettled b (next b i s).spot
settled_next b i s = blanks_gap s.spot.joins b i

pub settled_past : (b : List ℕ) (u : Spot) (s : State) → IsSettled b (past b u s).spot
settled_past b u s = blanks_gap s.spot.joins b u.at

either_settled : (b : List ℕ) (c : Bool) (s u : State) → IsSettled b s.spot → IsSettled b u.spot → IsSettled b (if c then s else u).spot
either_settled b true s u h k = h
either_settled b false s u h k = k

pub settled_parted : (b : List ℕ) (s : State) → IsSettled b s.spot → IsSettled b (parted b s).spot
settled_parted b s h = either_settled b (is_newline_lead (lead_here b s)) s (skip b 1 s) h (settled_next b (s.spot.at + 1) s)

pub redirect_settled : {limit : ℕ} {b : List ℕ} {body : ℕ → Document} {s u : State} {q : Redirect} → ReadsRedirect limit b body s u q → IsSettled b u.spot
redirect_settled {b = b} {s = s} (r.file {u = u} {r = o} h d k w) = settled_past b u (next b o.end s)
redirect_settled {b = b} {s = s} (r.here_document {u = u} {r = o} h t k w d) = settled_past b u (next b o.end s)

pub redirects_settled : {limit : ℕ} {b : List ℕ} {body : ℕ → Document} {s u : State} {qs : List Redirect} → IsSettled b s.spot → ReadsRedirects limit b body s u qs → IsSettled b u.spot
redirects_settled here (r.no_redirect h) = here
redirects_settled here (r.more_redirects h q qs) = redirects_settled (redirect_settled q) qs

pub breaks_settled : {limit : ℕ} {b : List ℕ} {s u : State} → IsSettled b s.spot → ReadsBreaks limit b s u → IsSettled b u.spot
breaks_settled here (r.no_break h) = here
breaks_settled {b = b} here (r.more_breaks {u = u} h q ds k) = breaks_settled (settled_next b u.spot.at u) k

pub elements_settled : {limit : ℕ} {b : List ℕ} {body : ℕ → Document} {g : Stage} {s u : State} {es : List Element} → IsSettled b s.spot → ReadsElements limit b body g s u es
    → IsSettled b u.spot
elements_settled here (r.no_element h) = here
elements_settled {b = b} {s = s} here (r.assigned_element {u = u} h w es) = elements_settled (settled_past b u s) es
elements_settled {b = b} {s = s} here (r.word_element {u = u} h w es) = elements_settled (settled_past b u s) es
elements_settled here (r.redirect_element h q es) = elements_settled (redirect_settled q) es

pub words_settled : {limit : ℕ} {b : List ℕ} {s u : State} {ws : List Word} → IsSettled b s.spot → ReadsWords limit b s u ws → IsSettled b u.spot
words_settled here (r.no_word h) = here
words_settled {b = b} {s = s} here (r.more_words {u = u} h w ws) = words_settled (settled_past b u s) ws

pub for_words_settled : {limit : ℕ} {b : List ℕ} {s u : State} {o : Option (List Word)} → IsSettled b s.spot → ReadsForWords limit b s u o → IsSettled b u.spot
for_words_settled {b = b} {s = s} here (r.arguments_ended h k) = breaks_settled (settled_next b (s.spot.at + 1) s) k
for_words_settled here (r.arguments k h) = breaks_settled here k
for_words_settled {b = b} here (r.listed {u = u} {v = v} k h ws i l) =
    breaks_settled (settled_parted b v (words_settled (settled_next b (u.spot.at + 2) u) ws)) l

pub do_settled : {limit : ℕ} {b : List ℕ} {body : ℕ → Document} {s u : State} {t : Script} → ReadsDo limit b body s u t → IsSettled b u.spot
do_settled {b = b} (r.do_group {u = u} h t k) = settled_next b (u.spot.at + 4) u

mutual
  branches_settled : {limit : ℕ} {b : List ℕ} {body : ℕ → Document} {s u : State} {bs : List Branch} {o : Option Script} → ReadsBranches limit b body s u bs o → IsSettled b u.spot
  branches_settled (r.branch c h t e) = else_settled e

  else_settled : {limit : ℕ} {b : List ℕ} {body : ℕ → Document} {s u : State} {bs : List Branch} {o : Option Script} → ReadsElse limit b body s u bs o → IsSettled b u.spot
  else_settled {b = b} {s = s} (r.fi h) = settled_next b (s.spot.at + 2) s
  else_settled {b = b} (r.otherwise {u = u} h t k) = settled_next b (u.spot.at + 2) u
  else_settled (r.elif h bs) = branches_settled bs

clauses_settled : {limit : ℕ} {b : List ℕ} {body : ℕ → Document} {s u : State} {cs : List Clause} → ReadsClauses limit b body s u cs → IsSettled b u.spot
clauses_settled {b = b} {s = s} (r.esac h) = settled_next b (s.spot.at + 4) s
clauses_settled {b = b} (r.last_clause {v = v} h ps t k) = settled_next b (v.spot.at + 4) v
clauses_settled (r.more_clauses h ps t i k cs) = clauses_settled cs

pub compound_settled : {limit : ℕ} {b : List ℕ} {body : ℕ → Document} {l : Lead} {s u : State} {k : Kind} → ReadsCompound limit b body l s u k → IsSettled b u.spot
compound_settled {b = b} (r.group {u = u} d t h) = settled_next b (u.spot.at + 1) u
compound_settled {b = b} (r.subshell {u = u} d t h) = settled_next b (u.spot.at + 1) u
compound_settled (r.cond d bs) = branches_settled bs
compound_settled (r.while_loop d c t) = do_settled t
compound_settled (r.until_loop d c t) = do_settled t
compound_settled (r.for_loop d n ws t) = do_settled t
compound_settled (r.case_of d h w k i j cs) = clauses_settled cs

pub command_settled : {limit : ℕ} {b : List ℕ} {body : ℕ → Document} {s u : State} {c : Command} → IsSettled b s.spot → ReadsCommand limit b body s u c → IsSettled b u.spot
command_settled here (r.simple_command h es) = elements_settled here es
command_settled here (r.compound_command l k qs) = redirects_settled (compound_settled k) qs
command_settled {b = b} {s = s} here (r.definition h o p k i c) =
    let inside = skip b 1 (behind_name b (begun s)) in
    command_settled (breaks_settled (settled_next b (inside.spot.at + 1) inside) k) c

pub commands_settled : {limit : ℕ} {b : List ℕ} {body : ℕ → Document} {s u : State} {cs : List Command} → IsSettled b s.spot → ReadsCommands limit b body s u cs → IsSettled b u.spot
commands_settled here (r.last_command c h) = command_settled here c
commands_settled {b = b} here (r.more_commands {u = u} c h k cs) = commands_settled (breaks_settled (settled_next b (u.spot.at + 1) u) k) cs

pub pipeline_settled : {limit : ℕ} {b : List ℕ} {body : ℕ → Document} {s u : State} {p : Pipe} → IsSettled b s.spot → ReadsPipeline limit b body s u p → IsSettled b u.spot
pipeline_settled {b = b} {s = s} here (r.negated h cs) = commands_settled (settled_next b (s.spot.at + 1) s) cs
pipeline_settled here (r.straight h cs) = commands_settled here cs

pub links_settled : {limit : ℕ} {b : List ℕ} {body : ℕ → Document} {s u : State} {ps : List (Link × Pipe)} → IsSettled b s.spot → ReadsLinks limit b body s u ps → IsSettled b u.spot
links_settled here (r.no_link h) = here
links_settled {b = b} {s = s} here (r.more_links h k p ps) = links_settled (pipeline_settled (breaks_settled (settled_next b (s.spot.at + 2) s) k) p) ps

pub and_or_settled : {limit : ℕ} {b : List ℕ} {body : ℕ → Document} {s u : State} {l : AndOr} → IsSettled b s.spot → ReadsAndOr limit b body s u l → IsSettled b u.spot
and_or_settled here (r.linked p ps) = links_settled (pipeline_settled here p) ps

pub items_settled : {limit : ℕ} {b : List ℕ} {body : ℕ → Document} {s u : State} {is : List Item} → IsSettled b s.spot → ReadsItems limit b body s u is → IsSettled b u.spot
items_settled here (r.last_item l h k) = and_or_settled here l
items_settled {b = b} here (r.ended_item {u = u} l h k e) = breaks_settled (settled_parted b u (and_or_settled here l)) k
items_settled {b = b} here (r.more_items {u = u} l h k e is) = items_settled (breaks_settled (settled_parted b u (and_or_settled here l)) k) is

pub list_settled : {limit : ℕ} {b : List ℕ} {body : ℕ → Document} {s u : State} {t : Script} → IsSettled b s.spot → ReadsList limit b body s u t → IsSettled b u.spot
list_settled here (r.list k h is) = items_settled (breaks_settled here k) is
