-- The number of commands never goes down in a reading, and goes up where a command is read.
use Rattle.std.proofs.Common.{ℕ, ◌+◌, ◌<◌, ◌≤◌, Bool, true, false, if◌then◌else◌, List, Option, le_refl, le_trans, arith}
use Rattle.sh_tree.specs.declared.tree.AndOr.{AndOr}
use Rattle.sh_tree.specs.declared.tree.Binary.{Binary}
use Rattle.sh_tree.specs.declared.tree.Branch.{Branch}
use Rattle.sh_tree.specs.declared.tree.Clause.{Clause}
use Rattle.sh_tree.specs.declared.tree.Command.{Command}
use Rattle.sh_tree.specs.declared.tree.Element.{Element}
use Rattle.sh_tree.specs.declared.tree.Expr.{Expr}
use Rattle.sh_tree.specs.declared.tree.Item.{Item}
use Rattle.sh_tree.specs.declared.tree.Kind.{Kind}
use Rattle.sh_tree.specs.declared.tree.Link.{Link}
use Rattle.sh_tree.specs.declared.tree.Part.{Part}
use Rattle.sh_tree.specs.declared.tree.Pipe.{Pipe}
use Rattle.sh_tree.specs.declared.tree.Redirect.{Redirect}
use Rattle.sh_tree.specs.declared.tree.Script.{Script}
use Rattle.sh_tree.specs.declared.tree.Word.{Word}
use Rattle.sh_tree.specs.declared.token.word.Context.{Context}
use Rattle.sh_tree.specs.declared.token.word.Sign.{Sign}
use Rattle.sh_tree.specs.declared.token.arithmetic.Figure.{Figure}
use Rattle.sh_tree.specs.declared.token.command.Lead.{Lead}
use Rattle.sh_tree.specs.declared.token.command.Stage.{Stage}
use Rattle.sh_tree.specs.declared.token.command.Stage.TheVariants.{Named}
use Rattle.sh_tree.specs.standard.language.Commands.{is_newline_lead, is_open}
use Rattle.sh_tree.specs.standard.language.HereDocuments.{Mark}
use Rattle.sh_tree.specs.standard.language.States.{Spot, State, Document}
use Rattle.sh_tree.specs.standard.language.Reading as r
use Rattle.sh_tree.specs.standard.language.Reading.{lead_of, lead_here, skip, parted, unopened, ReadsParts, ReadsPart, ReadsExpression, ReadsConditional, ReadsLevel, ReadsOperands, ReadsUnary, ReadsWord, ReadsRedirect, ReadsRedirects, ReadsDocuments, ReadsBreaks, ReadsElements, ReadsCommand, ReadsCompound, ReadsDo, ReadsBranches, ReadsElse, ReadsForWords, ReadsWords, ReadsClauses, ReadsPatterns, ReadsPipeline, ReadsCommands, ReadsAndOr, ReadsLinks, ReadsItems, ReadsList, ReadsSequence, ReadsScript}

one_more : {m n : ℕ} → m + 1 ≤ n → m < n
one_more h = omega arith

from_more : {m n : ℕ} → m + 1 ≤ n → m ≤ n
from_more h = omega arith

either_count : {n : ℕ} (c : Bool) (s u : State) → n ≤ s.spot.count → n ≤ u.spot.count → n ≤ (if c then s else u).spot.count
either_count true s u h k = h
either_count false s u h k = k

parted_count : (b : List ℕ) (s : State) → s.spot.count ≤ (parted b s).spot.count
parted_count b s = either_count (is_newline_lead (lead_here b s)) s (skip b 1 s) (le_refl _) (le_refl _)

unopened_count : (b : List ℕ) (s : State) → s.spot.count ≤ (unopened b s).spot.count
unopened_count b s = either_count (is_open (lead_of b (Named false) s)) (skip b 1 s) s (le_refl _) (le_refl _)

mutual
  pub parts_count : {limit : ℕ} {b : List ℕ} {x : Context} {prior : ℕ} {s u : Spot} {ps : List Part} → ReadsParts limit b x prior s u ps → s.count ≤ u.count
  parts_count (r.stop h) = le_refl _
  parts_count (r.tabs h ps) = parts_count ps
  parts_count (r.more h p ps) = le_trans (part_count p) (parts_count ps)

  pub part_count : {limit : ℕ} {b : List ℕ} {x : Context} {g : Sign} {s u : Spot} {e : ℕ} {p : Part} → ReadsPart limit b x g s e u p → s.count ≤ u.count
  part_count r.plain = le_refl _
  part_count r.escaped = le_refl _
  part_count r.joined = le_refl _
  part_count r.single_quoted = le_refl _
  part_count r.tilde = le_refl _
  part_count (r.double_quoted ps) = parts_count ps
  part_count r.value = le_refl _
  part_count r.length_value = le_refl _
  part_count (r.use_word d ps) = parts_count ps
  part_count (r.removal d ps) = parts_count ps
  part_count (r.arithmetic d e h k) = expression_count e
  part_count (r.substitution d k t h) = script_count t

  pub expression_count : {limit : ℕ} {b : List ℕ} {x : Context} {s u : Spot} {e : Expr} → ReadsExpression limit b x s u e → s.count ≤ u.count
  expression_count (r.assignment n o d e) = expression_count e
  expression_count (r.no_assignment h e) = conditional_count e

  pub conditional_count : {limit : ℕ} {b : List ℕ} {x : Context} {s u : Spot} {e : Expr} → ReadsConditional limit b x s u e → s.count ≤ u.count
  conditional_count (r.one_level e h) = level_count e
  conditional_count (r.choice c h d y k n) = le_trans (level_count c) (le_trans (expression_count y) (conditional_count n))

  pub level_count : {limit : ℕ} {b : List ℕ} {x : Context} {l : ℕ} {s u : Spot} {e : Expr} → ReadsLevel limit b x l s u e → s.count ≤ u.count
  level_count (r.chain h e es) = le_trans (level_count e) (operands_count es)
  level_count (r.operand h k e) = unary_count e

  pub operands_count : {limit : ℕ} {b : List ℕ} {x : Context} {l : ℕ} {s u : Spot} {es : List (Binary × Expr)} → ReadsOperands limit b x l s u es → s.count ≤ u.count
  operands_count (r.no_operand h) = le_refl _
  operands_count (r.more_operands h e es) = le_trans (level_count e) (operands_count es)

  pub unary_count : {limit : ℕ} {b : List ℕ} {x : Context} {g : Figure} {s u : Spot} {e : Expr} → ReadsUnary limit b x g s u e → s.count ≤ u.count
  unary_count r.constant = le_refl _
  unary_count r.variable = le_refl _
  unary_count (r.signed o d e) = level_count e
  unary_count (r.parenthesis d e h) = expression_count e
  unary_count (r.expansion h k p) = part_count p

  pub word_count : {limit : ℕ} {b : List ℕ} {x : Context} {s u : Spot} {w : Word} → ReadsWord limit b x s u w → s.count ≤ u.count
  word_count (r.whole_word ps h k) = parts_count ps

  pub redirect_count : {limit : ℕ} {b : List ℕ} {body : ℕ → Document} {s u : State} {q : Redirect} → ReadsRedirect limit b body s u q → s.spot.count ≤ u.spot.count
  redirect_count (r.file h d k w) = word_count w
  redirect_count (r.here_document h t k w d) = word_count w

  pub redirects_count : {limit : ℕ} {b : List ℕ} {body : ℕ → Document} {s u : State} {qs : List Redirect} → ReadsRedirects limit b body s u qs → s.spot.count ≤ u.spot.count
  redirects_count (r.no_redirect h) = le_refl _
  redirects_count (r.more_redirects h q qs) = le_trans (redirect_count q) (redirects_count qs)

  pub documents_count : {limit : ℕ} {b : List ℕ} {ms : List Mark} {s u : State} → ReadsDocuments limit b ms s u → s.spot.count ≤ u.spot.count
  documents_count r.no_body = le_refl _
  documents_count (r.more_bodies h a k ps l ds) = le_trans (parts_count ps) (documents_count ds)

  pub breaks_count : {limit : ℕ} {b : List ℕ} {s u : State} → ReadsBreaks limit b s u → s.spot.count ≤ u.spot.count
  breaks_count (r.no_break h) = le_refl _
  breaks_count (r.more_breaks h q ds k) = le_trans (documents_count ds) (breaks_count k)

  pub elements_count : {limit : ℕ} {b : List ℕ} {body : ℕ → Document} {g : Stage} {s u : State} {es : List Element} → ReadsElements limit b body g s u es
      → s.spot.count ≤ u.spot.count
  elements_count (r.no_element h) = le_refl _
  elements_count (r.assigned_element h w es) = le_trans (word_count w) (elements_count es)
  elements_count (r.word_element h w es) = le_trans (word_count w) (elements_count es)
  elements_count (r.redirect_element h q es) = le_trans (redirect_count q) (elements_count es)

  pub command_count : {limit : ℕ} {b : List ℕ} {body : ℕ → Document} {s u : State} {c : Command} → ReadsCommand limit b body s u c → s.spot.count ≤ u.spot.count
  command_count (r.simple_command h es) = from_more (elements_count es)
  command_count (r.compound_command l k qs) = from_more (le_trans (compound_count k) (redirects_count qs))
  command_count (r.definition h o p k i c) = from_more (le_trans (breaks_count k) (command_count c))

  pub compound_count : {limit : ℕ} {b : List ℕ} {body : ℕ → Document} {l : Lead} {s u : State} {k : Kind} → ReadsCompound limit b body l s u k → s.spot.count ≤ u.spot.count
  compound_count (r.group d t h) = list_count t
  compound_count (r.subshell d t h) = list_count t
  compound_count (r.cond d bs) = branches_count bs
  compound_count (r.while_loop d c t) = le_trans (list_count c) (do_count t)
  compound_count (r.until_loop d c t) = le_trans (list_count c) (do_count t)
  compound_count (r.for_loop d n ws t) = le_trans (for_words_count ws) (do_count t)
  compound_count (r.case_of d h w k i j cs) = le_trans (word_count w) (le_trans (breaks_count k) (le_trans (breaks_count j) (clauses_count cs)))

  pub do_count : {limit : ℕ} {b : List ℕ} {body : ℕ → Document} {s u : State} {t : Script} → ReadsDo limit b body s u t → s.spot.count ≤ u.spot.count
  do_count (r.do_group h t k) = list_count t

  pub branches_count : {limit : ℕ} {b : List ℕ} {body : ℕ → Document} {s u : State} {bs : List Branch} {o : Option Script} → ReadsBranches limit b body s u bs o
      → s.spot.count ≤ u.spot.count
  branches_count (r.branch c h t e) = le_trans (list_count c) (le_trans (list_count t) (else_count e))

  pub else_count : {limit : ℕ} {b : List ℕ} {body : ℕ → Document} {s u : State} {bs : List Branch} {o : Option Script} → ReadsElse limit b body s u bs o
      → s.spot.count ≤ u.spot.count
  else_count (r.fi h) = le_refl _
  else_count (r.otherwise h t k) = list_count t
  else_count (r.elif h bs) = branches_count bs

  pub for_words_count : {limit : ℕ} {b : List ℕ} {s u : State} {o : Option (List Word)} → ReadsForWords limit b s u o → s.spot.count ≤ u.spot.count
  for_words_count (r.arguments_ended h k) = breaks_count k
  for_words_count (r.arguments k h) = breaks_count k
  for_words_count (r.listed {v = v} k h ws i l) = le_trans (breaks_count k) (le_trans (words_count ws) (le_trans (parted_count _ v) (breaks_count l)))

  pub words_count : {limit : ℕ} {b : List ℕ} {s u : State} {ws : List Word} → ReadsWords limit b s u ws → s.spot.count ≤ u.spot.count
  words_count (r.no_word h) = le_refl _
  words_count (r.more_words h w ws) = le_trans (word_count w) (words_count ws)

  pub clauses_count : {limit : ℕ} {b : List ℕ} {body : ℕ → Document} {s u : State} {cs : List Clause} → ReadsClauses limit b body s u cs → s.spot.count ≤ u.spot.count
  clauses_count (r.esac h) = le_refl _
  clauses_count {b = b} {s = s} (r.last_clause h ps t k) = le_trans (unopened_count b s) (le_trans (patterns_count ps) (sequence_count t))
  clauses_count {b = b} {s = s} (r.more_clauses h ps t i k cs) =
      le_trans (unopened_count b s) (le_trans (patterns_count ps) (le_trans (sequence_count t) (le_trans (breaks_count k) (clauses_count cs))))

  pub patterns_count : {limit : ℕ} {b : List ℕ} {s u : State} {ws : List Word} → ReadsPatterns limit b s u ws → s.spot.count ≤ u.spot.count
  patterns_count (r.last_pattern h w k) = word_count w
  patterns_count (r.more_patterns h w k ws) = le_trans (word_count w) (patterns_count ws)

  pub pipeline_count : {limit : ℕ} {b : List ℕ} {body : ℕ → Document} {s u : State} {p : Pipe} → ReadsPipeline limit b body s u p → s.spot.count ≤ u.spot.count
  pipeline_count (r.negated h cs) = commands_count cs
  pipeline_count (r.straight h cs) = commands_count cs

  pub commands_count : {limit : ℕ} {b : List ℕ} {body : ℕ → Document} {s u : State} {cs : List Command} → ReadsCommands limit b body s u cs → s.spot.count ≤ u.spot.count
  commands_count (r.last_command c h) = command_count c
  commands_count (r.more_commands c h k cs) = le_trans (command_count c) (le_trans (breaks_count k) (commands_count cs))

  pub and_or_count : {limit : ℕ} {b : List ℕ} {body : ℕ → Document} {s u : State} {l : AndOr} → ReadsAndOr limit b body s u l → s.spot.count ≤ u.spot.count
  and_or_count (r.linked p ps) = le_trans (pipeline_count p) (links_count ps)

  pub links_count : {limit : ℕ} {b : List ℕ} {body : ℕ → Document} {s u : State} {ps : List (Link × Pipe)} → ReadsLinks limit b body s u ps → s.spot.count ≤ u.spot.count
  links_count (r.no_link h) = le_refl _
  links_count (r.more_links h k p ps) = le_trans (breaks_count k) (le_trans (pipeline_count p) (links_count ps))

  pub items_count : {limit : ℕ} {b : List ℕ} {body : ℕ → Document} {s u : State} {is : List Item} → ReadsItems limit b body s u is → s.spot.count ≤ u.spot.count
  items_count (r.last_item l h k) = and_or_count l
  items_count {b = b} (r.ended_item {u = u} l h k e) = le_trans (and_or_count l) (le_trans (parted_count b u) (breaks_count k))
  items_count {b = b} (r.more_items {u = u} l h k e is) = le_trans (and_or_count l) (le_trans (parted_count b u) (le_trans (breaks_count k) (items_count is)))

  pub list_count : {limit : ℕ} {b : List ℕ} {body : ℕ → Document} {s u : State} {t : Script} → ReadsList limit b body s u t → s.spot.count ≤ u.spot.count
  list_count (r.list k h is) = le_trans (breaks_count k) (items_count is)

  pub sequence_count : {limit : ℕ} {b : List ℕ} {body : ℕ → Document} {s u : State} {t : Script} → ReadsSequence limit b body s u t → s.spot.count ≤ u.spot.count
  sequence_count (r.nothing k h) = breaks_count k
  sequence_count (r.sequence t) = list_count t

  pub script_count : {limit : ℕ} {b : List ℕ} {s u : Spot} {t : Script} → ReadsScript limit b s u t → s.count ≤ u.count
  script_count (r.script t h) = sequence_count t

-- Where a command is read

pub command_count_more : {limit : ℕ} {b : List ℕ} {body : ℕ → Document} {s u : State} {c : Command} → ReadsCommand limit b body s u c → s.spot.count < u.spot.count
command_count_more (r.simple_command h es) = one_more (elements_count es)
command_count_more (r.compound_command l k qs) = one_more (le_trans (compound_count k) (redirects_count qs))
command_count_more (r.definition h o p k i c) = one_more (le_trans (breaks_count k) (command_count c))
