-- If no number sign is where commands end, none is where they begin: a comment that a here-document
-- must not hold is no token.
-- POSIX.1-2024, XCU 2.3 (token recognition), 2.7.4 (here-document).
use Rattle.std.proofs.Common.{◌≡◌, ℕ, Bool, true, false, List, [], ◌∷◌, ◌==◌, Option, drop, refl, ap, ◌∙◌, subst, eqb-true}
use Rattle.std.proofs.lemmas.Bool.{cond-false}
use Rattle.sh_tree.specs.declared.tree.AndOr.{AndOr}
use Rattle.sh_tree.specs.declared.tree.Branch.{Branch}
use Rattle.sh_tree.specs.declared.tree.Clause.{Clause}
use Rattle.sh_tree.specs.declared.tree.Command.{Command}
use Rattle.sh_tree.specs.declared.tree.Element.{Element}
use Rattle.sh_tree.specs.declared.tree.Item.{Item}
use Rattle.sh_tree.specs.declared.tree.Kind.{Kind}
use Rattle.sh_tree.specs.declared.tree.Link.{Link}
use Rattle.sh_tree.specs.declared.tree.Pipe.{Pipe}
use Rattle.sh_tree.specs.declared.tree.Redirect.{Redirect}
use Rattle.sh_tree.specs.declared.tree.Script.{Script}
use Rattle.sh_tree.specs.declared.tree.Word.{Word}
use Rattle.sh_tree.specs.declared.refusal.Form.TheVariants as form
use Rattle.sh_tree.specs.declared.token.command.Lead.{Lead}
use Rattle.sh_tree.specs.declared.token.command.Lead.TheVariants as lead
use Rattle.sh_tree.specs.declared.token.command.Stage.{Stage}
use Rattle.sh_tree.specs.declared.token.command.Stage.TheVariants.{First, Named}
use Rattle.sh_tree.specs.standard.language.Arithmetic.{is_closed}
use Rattle.sh_tree.specs.standard.language.Bytes.{is_first}
use Rattle.sh_tree.specs.standard.language.Commands.{is_redirection, is_newline_lead, is_word, is_open, begins_simple, begins_command, begins_compound, begins_pipeline, link_of}
use Rattle.sh_tree.specs.standard.language.Reading as r
use Rattle.sh_tree.specs.standard.language.Reading.{lead_of, unopened, is_some, ReadsRedirects, ReadsBreaks, ReadsElements, ReadsCommand, ReadsCompound, ReadsDo, ReadsBranches, ReadsElse, ReadsForWords, ReadsWords, ReadsClauses, ReadsPatterns, ReadsPipeline, ReadsCommands, ReadsAndOr, ReadsLinks, ReadsItems, ReadsList, ReadsSequence}
use Rattle.sh_tree.specs.standard.language.States.{State, Document}
use Rattle.sh_copies.proofs.AlikeBytes.{by_bool}
use Rattle.sh_copies.proofs.Blanks.{is_number_sign}
use Rattle.sh_copies.proofs.Leads.{lead_is_no_sign}

-- no number sign is there
abbrev pub NoSign : List ℕ → State → Type 0
NoSign b s = is_first is_number_sign (drop s.spot.at b) ≡ false

-- a token of the language
abbrev is_whole : Lead → Bool
is_whole (lead.LeftOut f) = false
is_whole _ = true

pub closed_no_sign : (b : List ℕ) (i : ℕ) → is_closed b i ≡ true → is_first is_number_sign (drop i b) ≡ false
unfolding is_closed is_first
closed_no_sign b i h = go (drop i b) h
  where
    go : (cs : List ℕ) → is_first (λ c. c == 41) cs ≡ true → is_first is_number_sign cs ≡ false
    go [] k = refl
    go (c ∷ cs) k = let is : c ≡ 41 = eqb-true c 41 k in ap is_number_sign is

module _ (b : List ℕ) where
  pub by_test : (f : Lead → Bool) (g : Stage) (s : State) → f (lead.LeftOut form.Continuation) ≡ false → f (lead_of b g s) ≡ true → NoSign b s
  by_test f g s none h = lead_is_no_sign f b g s.spot.at none h

  pub by_lead : (g : Stage) (s : State) (l : Lead) → lead_of b g s ≡ l → is_whole l ≡ true → NoSign b s
  by_lead g s l h k = by_test is_whole g s refl (ap is_whole h ∙ k)

  unopened_sign : (s : State) → NoSign b (unopened b s) → NoSign b s
  unopened_sign s n = by_bool (is_open (lead_of b (Named false) s))
      (λ is. by_test is_open (Named false) s refl is)
      (λ other. let same : unopened b s ≡ s = cond-false _ _ _ other in subst (NoSign b) same n)

module _ {limit : ℕ} {b : List ℕ} where
  pub redirects_sign : {body : ℕ → Document} {s u : State} {ys : List Redirect} → ReadsRedirects limit b body s u ys → NoSign b u → NoSign b s
  unfolding is_redirection
  redirects_sign (r.no_redirect h) n = n
  redirects_sign {s = s} (r.more_redirects h i j) n = by_test b is_redirection (Named false) s refl h

  pub breaks_sign : {s u : State} → ReadsBreaks limit b s u → NoSign b u → NoSign b s
  breaks_sign (r.no_break h) n = n
  breaks_sign {s = s} (r.more_breaks h q ds k) n = by_test b is_newline_lead First s refl h

  pub elements_sign : {body : ℕ → Document} {g : Stage} {s u : State} {es : List Element} → ReadsElements limit b body g s u es → NoSign b u → NoSign b s
  unfolding is_redirection
  elements_sign (r.no_element h) n = n
  elements_sign {g = g} {s = s} (r.assigned_element h w es) n = by_lead b g s lead.Assignment h refl
  elements_sign {g = g} {s = s} (r.word_element h w es) n = by_lead b g s lead.Word h refl
  elements_sign {g = g} {s = s} (r.redirect_element h i es) n = by_test b is_redirection g s refl h

  compound_whole : {body : ℕ → Document} {l : Lead} {s u : State} {k : Kind} → ReadsCompound limit b body l s u k → is_whole l ≡ true
  compound_whole (r.group d t h) = refl
  compound_whole (r.subshell d t h) = refl
  compound_whole (r.cond d bs) = refl
  compound_whole (r.while_loop d c t) = refl
  compound_whole (r.until_loop d c t) = refl
  compound_whole (r.for_loop d n ws t) = refl
  compound_whole (r.case_of d h w k i j cs) = refl

  pub command_sign : {body : ℕ → Document} {s u : State} {c : Command} → ReadsCommand limit b body s u c → NoSign b s
  unfolding begins_simple is_redirection
  command_sign {s = s} (r.simple_command h es) = by_test b begins_simple First s refl h
  command_sign {s = s} (r.compound_command h k rs) = by_lead b First s _ h (compound_whole k)
  command_sign {s = s} (r.definition h o p k i c) = by_lead b First s lead.Definition h refl

  pub words_sign : {s u : State} {ws : List Word} → ReadsWords limit b s u ws → NoSign b u → NoSign b s
  words_sign (r.no_word h) n = n
  words_sign {s = s} (r.more_words h w ws) n = by_test b is_word (Named false) s refl h

  pub for_words_sign : {s u : State} {o : Option (List Word)} → ReadsForWords limit b s u o → NoSign b s
  for_words_sign {s = s} (r.arguments_ended h k) = by_lead b First s _ h refl
  for_words_sign (r.arguments {u = u} k h) = breaks_sign k (by_lead b First u _ h refl)
  for_words_sign (r.listed {u = u} k h ws i l) = breaks_sign k (by_lead b First u _ h refl)

  pub do_sign : {body : ℕ → Document} {s u : State} {t : Script} → ReadsDo limit b body s u t → NoSign b s
  do_sign {s = s} (r.do_group h t k) = by_lead b First s _ h refl

  pub list_sign : {body : ℕ → Document} {s u : State} {t : Script} → ReadsList limit b body s u t → NoSign b s
  unfolding begins_pipeline begins_command begins_simple is_redirection begins_compound
  list_sign (r.list {u = u} k h is) = breaks_sign k (by_test b begins_pipeline First u refl h)

  pub branches_sign : {body : ℕ → Document} {s u : State} {bs : List Branch} {o : Option Script} → ReadsBranches limit b body s u bs o → NoSign b s
  branches_sign (r.branch c h t e) = list_sign c

  pub else_sign : {body : ℕ → Document} {s u : State} {bs : List Branch} {o : Option Script} → ReadsElse limit b body s u bs o → NoSign b s
  else_sign {s = s} (r.fi h) = by_lead b First s _ h refl
  else_sign {s = s} (r.otherwise h t k) = by_lead b First s _ h refl
  else_sign {s = s} (r.elif h bs) = by_lead b First s _ h refl

  pub patterns_sign : {s u : State} {ws : List Word} → ReadsPatterns limit b s u ws → NoSign b s
  patterns_sign {s = s} (r.last_pattern h w k) = by_test b is_word (Named false) s refl h
  patterns_sign {s = s} (r.more_patterns h w k ws) = by_test b is_word (Named false) s refl h

  pub clauses_sign : {body : ℕ → Document} {s u : State} {cs : List Clause} → ReadsClauses limit b body s u cs → NoSign b s
  clauses_sign {s = s} (r.esac h) = by_lead b First s _ h refl
  clauses_sign {s = s} (r.last_clause h ps t k) = unopened_sign b s (patterns_sign ps)
  clauses_sign {s = s} (r.more_clauses h ps t i k cs) = unopened_sign b s (patterns_sign ps)

  pub commands_sign : {body : ℕ → Document} {s u : State} {cs : List Command} → ReadsCommands limit b body s u cs → NoSign b s
  commands_sign (r.last_command c h) = command_sign c
  commands_sign (r.more_commands c h k cs) = command_sign c

  pub pipeline_sign : {body : ℕ → Document} {s u : State} {p : Pipe} → ReadsPipeline limit b body s u p → NoSign b s
  unfolding begins_command begins_simple is_redirection begins_compound
  pipeline_sign {s = s} (r.negated h cs) = by_lead b First s _ h refl
  pipeline_sign {s = s} (r.straight h cs) = by_test b begins_command First s refl h

  pub links_sign : {body : ℕ → Document} {s u : State} {ps : List (Link × Pipe)} → ReadsLinks limit b body s u ps → NoSign b u → NoSign b s
  unfolding is_some link_of
  links_sign (r.no_link h) n = n
  links_sign {s = s} (r.more_links h k p ps) n = by_test b (λ l. is_some (link_of l)) First s refl (ap is_some h)

  pub and_or_sign : {body : ℕ → Document} {s u : State} {l : AndOr} → ReadsAndOr limit b body s u l → NoSign b s
  and_or_sign (r.linked p ps) = pipeline_sign p

  pub items_sign : {body : ℕ → Document} {s u : State} {is : List Item} → ReadsItems limit b body s u is → NoSign b s
  items_sign (r.last_item l h k) = and_or_sign l
  items_sign (r.ended_item l h k e) = and_or_sign l
  items_sign (r.more_items l h k e is) = and_or_sign l

  pub sequence_sign : {body : ℕ → Document} {s u : State} {t : Script} → ReadsSequence limit b body s u t → NoSign b u → NoSign b s
  sequence_sign (r.nothing k h) n = breaks_sign k n
  sequence_sign (r.sequence t) n = list_sign t
