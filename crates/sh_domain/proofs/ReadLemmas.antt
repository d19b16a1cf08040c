-- Every program that is read is formed: a case for each production.
use Rattle.std.proofs.Common.{◌≡◌, ℕ, zero, suc, ◌+◌, ◌-◌, Bool, true, false, if◌then◌else◌, Option, List, [], ◌∷◌, ◌++◌, drop, refl, subst}
use Rattle.std.proofs.lemmas.Bool.{and_from}
use Rattle.sh_tree.specs.declared.tree.AndOr.{AndOr}
use Rattle.sh_tree.specs.declared.tree.Binary.{Binary}
use Rattle.sh_tree.specs.declared.tree.Branch.{Branch}
use Rattle.sh_tree.specs.declared.tree.Clause.{Clause}
use Rattle.sh_tree.specs.declared.tree.ClauseEnd.TheVariants.{Break}
use Rattle.sh_tree.specs.declared.tree.Command.{Command}
use Rattle.sh_tree.specs.declared.tree.CommandStyle.{CommandStyle}
use Rattle.sh_tree.specs.declared.tree.CommandStyle.TheVariants.{Paren, Backquote}
use Rattle.sh_tree.specs.declared.tree.Element.{Element}
use Rattle.sh_tree.specs.declared.tree.Expr.{Expr}
use Rattle.sh_tree.specs.declared.tree.Item.{Item}
use Rattle.sh_tree.specs.declared.tree.Kind.{Kind}
use Rattle.sh_tree.specs.declared.tree.Kind.TheVariants as kind
use Rattle.sh_tree.specs.declared.tree.Link.{Link}
use Rattle.sh_tree.specs.declared.tree.LoopKind.TheVariants as loop
use Rattle.sh_tree.specs.declared.tree.ParameterOperator.TheVariants as operator
use Rattle.sh_tree.specs.declared.tree.Part.{Part}
use Rattle.sh_tree.specs.declared.tree.Pipe.{Pipe}
use Rattle.sh_tree.specs.declared.tree.Redirect.{Redirect}
use Rattle.sh_tree.specs.declared.tree.Script.{Script}
use Rattle.sh_tree.specs.declared.tree.Word.{Word}
use Rattle.sh_tree.specs.declared.token.word.Context.{Context}
use Rattle.sh_tree.specs.declared.token.word.Sign.{Sign}
use Rattle.sh_tree.specs.declared.token.word.Sign.TheVariants as sign
use Rattle.sh_tree.specs.declared.token.arithmetic.Figure.{Figure}
use Rattle.sh_tree.specs.declared.token.command.Lead.{Lead}
use Rattle.sh_tree.specs.declared.token.command.Lead.TheVariants as lead
use Rattle.sh_tree.specs.declared.token.command.Stage.{Stage}
use Rattle.sh_tree.specs.declared.token.command.Stage.TheVariants.{Named}
use Rattle.sh_tree.specs.standard.language.Arithmetic.{lexeme}
use Rattle.sh_tree.specs.standard.language.Bytes.{is_name, is_name_start, is_first}
use Rattle.sh_tree.specs.standard.language.Commands.{name_end, is_word, is_bare_name, bare_word, is_newline_lead, is_open}
use Rattle.sh_tree.specs.standard.language.HereDocuments.{Mark}
use Rattle.sh_tree.specs.standard.language.Substitutions.{backquote_end, commands_text}
use Rattle.sh_tree.specs.standard.language.Reading as r
use Rattle.sh_tree.specs.standard.language.Reading.{after, figure_at, figure_span, over, lead_of, lead_here, skip, behind_name, parted, unopened, ReadsParts, ReadsPart, ReadsExpression, ReadsConditional, ReadsLevel, ReadsOperands, ReadsUnary, ReadsWord, ReadsRedirect, ReadsRedirects, ReadsDocuments, ReadsBreaks, ReadsElements, ReadsCommand, ReadsCompound, ReadsDo, ReadsBranches, ReadsElse, ReadsForWords, ReadsWords, ReadsClauses, ReadsPatterns, ReadsPipeline, ReadsCommands, ReadsAndOr, ReadsLinks, ReadsItems, ReadsList, ReadsSequence, ReadsScript, Reads}
use Rattle.sh_tree.specs.standard.language.States.{Spot, State, Document, nth, to, facing, begun, document_count}
use Rattle.sh_tree.specs.standard.language.Trees as tree
use Rattle.sh_tree.specs.standard.language.Trees.{span}
use Rattle.sh_tree.specs.Lists.{parts_from, words_from, operands_from, items_from, links_from, commands_from, elements_from, redirects_from, branches_from, otherwise_from, for_words_from, clauses_from}
use Rattle.sh_tree.specs.standard.program.Syntax as p
use Rattle.sh_tree.specs.standard.program.Trees.{part_of, expression_of, script_of, and_or_of, pipeline_of, command_of, kind_of, target_of}
use Rattle.sh_tree.specs.standard.Tree.{text_of}
use Rattle.sh_tree.proofs.ProgramRules.{parts_from-empty, parts_from-more, words_from-empty, words_from-more, operands_from-empty, operands_from-more, items_from-empty, links_from-empty, links_from-more, commands_from-empty, commands_from-more, elements_from-empty, redirects_from-empty, redirects_from-more, branches_from-empty, clauses_from-empty, otherwise_from-None, otherwise_from-Some, for_words_from-None, for_words_from-Some, kind_of-Simple, kind_of-Group, kind_of-Subshell, kind_of-Cond, kind_of-Loop, kind_of-For, kind_of-Branches, kind_of-Define, elements_from-Assignment, elements_from-Word, elements_from-Redirection, target_of-File, target_of-Here, part_of-Plain, part_of-Escaped, part_of-Single, part_of-Double, part_of-Param, part_of-Arith, part_of-Command, part_of-Tilde, part_of-Joined, operator_of-Value, operator_of-Length, operator_of-Use, operator_of-Remove, expression_of-Constant, expression_of-Variable, expression_of-Expansion, expression_of-Parenthesis, expression_of-Unary, expression_of-Chain, expression_of-Choice, expression_of-Assign}
use Rattle.sh_runs.specs.Surroundings.{outside}
use Rattle.sh_domain.specs.Inclusions.{part_formed, field_formed, is_formed}
use Rattle.sh_reads.proofs.BeginningLemmas.{bare_begins, assignment_begins, definition_begins}
use Rattle.sh_domain.proofs.FieldLemmas.{GivesField, word_gives, item_gives}
use Rattle.sh_reads.proofs.FigureLemmas.{figure_is_name}
use Rattle.sh_domain.proofs.FormedLemmas.{GoodPart, GoodWord, GoodExpression, GoodOperands, GoodItems, GoodList, GoodLinks, GoodPipeline, GoodCommands, GoodCommand, GoodKind, GoodElements, GoodRedirect, GoodRedirects, GoodBranches, GoodOtherwise, GoodForWords, GoodFields, GoodWords, GoodClauses, good_plain, good_escaped, good_single, good_joined, good_tilde, good_double, good_expansion, good_arithmetic, good_substitution, good_empty, good_parts, good_value, good_length, good_use, good_remove, good_constant, good_name, good_expanded, good_parenthesis, good_signed, good_chain, good_choice, good_assigned, good_no_operands, good_operands, good_no_words, good_words, good_no_fields, good_fields, good_every, good_listed, good_file, good_here, good_no_redirects, good_redirects, good_no_elements, good_assignment, good_operand, good_redirection, good_simple, good_command, good_group, good_subshell, good_conditional, good_loop, good_for, good_case, good_define, good_no_branches, good_branches, good_no_else, good_else, good_no_clauses, good_clauses, good_no_commands, good_commands, good_pipeline, good_no_links, good_links, good_list, good_no_items, good_items}
use Rattle.sh_reads.proofs.FrontLemmas.{Front, front_whole, front_less, stands_at, name_stands}
use Rattle.sh_reads.proofs.GapLemmas.{blanks_gap}
use Rattle.sh_reads.proofs.ProgramTrees.{script_made, items_made, and_or_made, pipe_made, command_made, branches_made, clauses_made}
use Rattle.sh_reads.proofs.SettledLemmas.{IsSettled, settled_next, settled_past, settled_parted, redirect_settled, breaks_settled, for_words_settled, pipeline_settled, and_or_settled, list_settled}
use Rattle.sh_domain.proofs.SignLemmas.{token_formed, token_is_formed}

module _ (whole : List ℕ) where
  -- Here-documents

  abbrev GoodBody : Document → Type 0
  GoodBody d = GoodWord (parts_from whole d.text.parts)

  GoodBodies : List Document → Type 0
  GoodBodies [] = Unit {0}
  GoodBodies (d ∷ ds) = GoodBody d × GoodBodies ds

  -- each body of a level
  AreGood : (ℕ → Document) → Type 0
  AreGood body = (n : ℕ) → GoodBody (body n)

  no_bodies : GoodBodies []
  unfolding GoodBodies
  no_bodies = tt

  bodies_push : (ds : List Document) (d : Document) → GoodBodies ds → GoodBody d → GoodBodies (ds ++ d ∷ [])
  unfolding GoodBodies
  bodies_push [] d h k = (k, tt)
  bodies_push (c ∷ ds) d h k = (h.0, bodies_push ds d h.1 k)

  nth_good : (ds : List Document) → GoodBodies ds → AreGood (nth ds)
  unfolding GoodBodies AreGood nth
  nth_good [] h n = rw (parts_from-empty whole) good_empty
  nth_good (d ∷ ds) h zero = h.0
  nth_good (d ∷ ds) h (suc n) = nth_good ds h.1 n

  body_good : (body : ℕ → Document) (n : ℕ) → AreGood body → GoodWord (parts_from whole (body n).text.parts)
  unfolding AreGood
  body_good body n h = h n

  -- Leaves

  plain_formed : (i e : ℕ) → token_formed whole sign.Plain i e ≡ true → part_formed (p.Plain (text_of whole (span i e))) ≡ true
  unfolding part_formed
  plain_formed i e h = h

  good_field : (w : p.Word) → GoodWord w → GivesField w → field_formed w ≡ true
  good_field w h k = and_from _ _ h.0 k

  name_here : (b : List ℕ) (i : ℕ) → Front whole b → is_first is_name_start (drop i b) ≡ true → is_name (text_of whole (span i (name_end b i))) ≡ true
  unfolding name_end
  name_here b i f h = name_stands whole i (drop i b) (stands_at whole b i f) h

  is_name_bare : (b : List ℕ) (i : ℕ) → is_bare_name b i ≡ true → is_name (bare_word b i) ≡ true
  unfolding is_bare_name
  is_name_bare b i h = h

  good_chain_of : (e : Expr) (es : List (Binary × Expr)) → GoodExpression (expression_of whole e) → GoodOperands (operands_from whole es)
      → GoodExpression (expression_of whole (tree.chain_of e es))
  good_chain_of e [] h k = h
  good_chain_of e (x ∷ xs) h k = rw (expression_of-Chain whole e (x ∷ xs)) (good_chain _ _ h k)

  -- the text of commands in a substitution
  commands_front : (b : List ℕ) (style : CommandStyle) (e : ℕ) → Front whole b → Front whole (commands_text style b e)
  unfolding commands_text
  commands_front b Paren e f = f
  commands_front b Backquote e f = front_less whole b (backquote_end b e) f

  is_word_lead : (l : Lead) → is_word l ≡ true → l ≡ lead.Word
  is_word_lead lead.Word h = refl
  is_word_lead l h = cc

  -- what a reading from s to u gives: the bodies that it reads are good, and so is its tree
  record Walks (b : List ℕ) (body : ℕ → Document) (s u : State) (T : Type 0) : Type 0 where
    bodies : GoodBodies s.bodies → GoodBodies u.bodies
    tree : IsSettled b s.spot → AreGood body → T

  -- What reads no body

  redirect_bodies : {limit : ℕ} {b : List ℕ} {body : ℕ → Document} {s u : State} {q : Redirect} → ReadsRedirect limit b body s u q → GoodBodies s.bodies → GoodBodies u.bodies
  redirect_bodies (r.file h d k w) g = g
  redirect_bodies (r.here_document h t k w d) g = g

  redirects_bodies : {limit : ℕ} {b : List ℕ} {body : ℕ → Document} {s u : State} {qs : List Redirect} → ReadsRedirects limit b body s u qs → GoodBodies s.bodies
      → GoodBodies u.bodies
  redirects_bodies (r.no_redirect h) g = g
  redirects_bodies (r.more_redirects h q qs) g = redirects_bodies qs (redirect_bodies q g)

  elements_bodies : {limit : ℕ} {b : List ℕ} {body : ℕ → Document} {g : Stage} {s u : State} {es : List Element} → ReadsElements limit b body g s u es → GoodBodies s.bodies
      → GoodBodies u.bodies
  elements_bodies (r.no_element h) k = k
  elements_bodies (r.assigned_element h w es) k = elements_bodies es k
  elements_bodies (r.word_element h w es) k = elements_bodies es k
  elements_bodies (r.redirect_element h q es) k = elements_bodies es (redirect_bodies q k)

  words_bodies : {limit : ℕ} {b : List ℕ} {s u : State} {ws : List Word} → ReadsWords limit b s u ws → GoodBodies s.bodies → GoodBodies u.bodies
  words_bodies (r.no_word h) g = g
  words_bodies (r.more_words h w ws) g = words_bodies ws g

  patterns_bodies : {limit : ℕ} {b : List ℕ} {s u : State} {ws : List Word} → ReadsPatterns limit b s u ws → GoodBodies s.bodies → GoodBodies u.bodies
  patterns_bodies (r.last_pattern h w k) g = g
  patterns_bodies (r.more_patterns h w k ws) g = patterns_bodies ws g

  either_bodies : (c : Bool) (s u : State) → GoodBodies s.bodies → GoodBodies u.bodies → GoodBodies (if c then s else u).bodies
  either_bodies true s u h k = h
  either_bodies false s u h k = k

  parted_bodies : (b : List ℕ) (s : State) → GoodBodies s.bodies → GoodBodies (parted b s).bodies
  parted_bodies b s h = either_bodies (is_newline_lead (lead_here b s)) s (skip b 1 s) h h

  unopened_bodies : (b : List ℕ) (s : State) → GoodBodies s.bodies → GoodBodies (unopened b s).bodies
  unopened_bodies b s h = either_bodies (is_open (lead_of b (Named false) s)) (skip b 1 s) s h h

  mutual
    -- Words

    parts_good : {limit : ℕ} {b : List ℕ} {x : Context} {prior : ℕ} {s u : Spot} {ps : List Part} → Front whole b → ReadsParts limit b x prior s u ps → GoodWord (parts_from whole ps)
    parts_good f (r.stop h) = rw (parts_from-empty whole) good_empty
    parts_good f (r.tabs h ps) = parts_good f ps
    parts_good {b = b} f (r.more {x = x} {prior = prior} {s = s} {p = y} {ps = ps} h q rest) =
        let formed = subst (λ g. token_formed whole g s.at (after b x prior s) ≡ true) h (token_is_formed whole b x prior s.at f) in
        rw (parts_from-more whole y ps) (good_parts _ _ (part_good f formed q) (parts_good f rest))

    part_good : {limit : ℕ} {b : List ℕ} {x : Context} {g : Sign} {s u : Spot} {e : ℕ} {p : Part} → Front whole b → token_formed whole g s.at e ≡ true → ReadsPart limit b x g s e u p
        → GoodPart (part_of whole p)
    part_good f t (r.plain {s = s} {e = e}) = rw (part_of-Plain whole (span s.at e)) (good_plain _ (plain_formed s.at e t))
    part_good f t (r.escaped {s = s} {e = e}) = rw (part_of-Escaped whole (span s.at e)) (good_escaped _)
    part_good f t (r.joined {s = s} {e = e}) = rw (part_of-Joined whole (span s.at e)) good_joined
    part_good f t (r.single_quoted {s = s} {e = e} {style = style}) = rw (part_of-Single whole style (span s.at e)) (good_single _ _)
    part_good f t (r.tilde {s = s} {e = e}) = rw (part_of-Tilde whole (span s.at e)) (good_tilde _ _)
    part_good f t (r.double_quoted {s = s} {u = u} {ps = ps} q) = rw (part_of-Double whole (span s.at u.at) ps) (good_double _ (parts_good f q))
    part_good f t (r.value {s = s} {e = e} {p = q}) =
        rw (part_of-Param whole (record { span = span s.at e; subject = q; operator = operator.Value }), operator_of-Value whole) (good_expansion _ _ _ t good_value)
    part_good f t (r.length_value {s = s} {e = e} {p = q}) =
        rw (part_of-Param whole (record { span = span s.at e; subject = q; operator = operator.Length }), operator_of-Length whole) (good_expansion _ _ _ t good_length)
    part_good f t (r.use_word {s = s} {u = u} {e = e} {p = q} {a = a} {colon = colon} {ps = ps} d k) =
        rw (
          part_of-Param whole (record { span = span s.at u.at; subject = q; operator = operator.Use a colon (tree.word e (u.at - 1) ps) }),
          operator_of-Use whole a colon (tree.word e (u.at - 1) ps),
        ) (good_expansion _ _ _ t (good_use a colon _ (parts_good f k)))
    part_good f t (r.removal {s = s} {u = u} {e = e} {p = q} {r = removal} {ps = ps} d k) =
        rw (
          part_of-Param whole (record { span = span s.at u.at; subject = q; operator = operator.Remove removal (tree.word e (u.at - 1) ps) }),
          operator_of-Remove whole removal (tree.word e (u.at - 1) ps),
        ) (good_expansion _ _ _ t (good_remove removal _ (parts_good f k)))
    part_good f t (r.arithmetic {b = b} {s = s} {u = u} {a = a} d e h c) = rw (part_of-Arith whole (span s.at ((over b u).at + 1)) a) (good_arithmetic _ _ (expression_good f e))
    part_good {b = b} f t (r.substitution {s = s} {u = u} {e = e} {style = style} {t = list} d k h c) =
        let inner = commands_text style b e in
        rw (part_of-Command whole style (span s.at (u.at + 1)) list) (good_substitution _ _ (script_good (commands_front b style e f) (blanks_gap s.joins inner e) h))

    -- Arithmetic

    expression_good : {limit : ℕ} {b : List ℕ} {x : Context} {s u : Spot} {e : Expr} → Front whole b → ReadsExpression limit b x s u e → GoodExpression (expression_of whole e)
    expression_good {b = b} f (r.assignment {s = s} {o = o} {e = e} n a d k) =
        rw (expression_of-Assign whole (figure_span b s) o e) (good_assigned _ _ _ _ (figure_is_name whole b s f n) (expression_good f k))
    expression_good f (r.no_assignment h e) = conditional_good f e

    conditional_good : {limit : ℕ} {b : List ℕ} {x : Context} {s u : Spot} {e : Expr} → Front whole b → ReadsConditional limit b x s u e → GoodExpression (expression_of whole e)
    conditional_good f (r.one_level e h) = level_good f e
    conditional_good f (r.choice {c = c} {y = y} {n = n} i h d j k l) =
        rw (expression_of-Choice whole c y n) (good_choice _ _ _ (level_good f i) (expression_good f j) (conditional_good f l))

    level_good : {limit : ℕ} {b : List ℕ} {x : Context} {l : ℕ} {s u : Spot} {e : Expr} → Front whole b → ReadsLevel limit b x l s u e → GoodExpression (expression_of whole e)
    level_good f (r.chain {e = e} {es = es} h i j) = good_chain_of e es (level_good f i) (operands_good f j)
    level_good f (r.operand h k e) = unary_good f k e

    operands_good : {limit : ℕ} {b : List ℕ} {x : Context} {l : ℕ} {s u : Spot} {es : List (Binary × Expr)} → Front whole b → ReadsOperands limit b x l s u es
        → GoodOperands (operands_from whole es)
    operands_good f (r.no_operand h) = rw (operands_from-empty whole) good_no_operands
    operands_good f (r.more_operands {o = o} {e = e} {es = es} h i j) = rw (operands_from-more whole (o, e) es) (good_operands o _ _ (level_good f i) (operands_good f j))

    unary_good : {limit : ℕ} {b : List ℕ} {x : Context} {g : Figure} {s u : Spot} {e : Expr} → Front whole b → figure_at b s ≡ g → ReadsUnary limit b x g s u e
        → GoodExpression (expression_of whole e)
    unary_good {b = b} f is (r.constant {s = s}) = rw (expression_of-Constant whole (figure_span b s)) (good_constant _)
    unary_good {b = b} f is (r.variable {s = s}) = rw (expression_of-Variable whole (figure_span b s)) (good_name _ _ (figure_is_name whole b s f is))
    unary_good f is (r.signed {o = o} {e = e} h d i) = rw (expression_of-Unary whole o e) (good_signed o _ (level_good f i))
    unary_good f is (r.parenthesis {e = e} d i h) = rw (expression_of-Parenthesis whole e) (good_parenthesis _ (expression_good f i))
    unary_good {b = b} f is (r.expansion {x = x} {s = s} {p = y} h k q) =
        let at = (lexeme b s.at).start in
        let formed = subst (λ g. token_formed whole g at (after b x 0 (to at s)) ≡ true) h (token_is_formed whole b x 0 at f) in
        rw (expression_of-Expansion whole y) (good_expanded _ (part_good f formed q))

    word_good : {limit : ℕ} {b : List ℕ} {x : Context} {s u : Spot} {w : Word} → Front whole b → ReadsWord limit b x s u w → GoodWord (parts_from whole w.parts)
    word_good f (r.whole_word q l k) = parts_good f q

    -- Redirections and here-documents

    redirect_good : {limit : ℕ} {b : List ℕ} {body : ℕ → Document} {s u : State} {q : Redirect} → Front whole b → AreGood body → ReadsRedirect limit b body s u q
        → GoodRedirect (target_of whole q.target)
    redirect_good f bodies (r.file {d = d} {w = w} h e k i) = rw (target_of-File whole d w) (good_file _ (word_good f i))
    redirect_good {body = body} f bodies (r.here_document {s = s} {strip = strip} {w = w} h t k i d) =
        rw (target_of-Here whole (tree.here_doc strip w (body (document_count s)).text (body (document_count s)).end)) (good_here _ (body_good body (document_count s) bodies))

    redirects_good : {limit : ℕ} {b : List ℕ} {body : ℕ → Document} {s u : State} {qs : List Redirect} → Front whole b → AreGood body → ReadsRedirects limit b body s u qs
        → GoodRedirects (redirects_from whole qs)
    redirects_good f bodies (r.no_redirect h) = rw (redirects_from-empty whole) good_no_redirects
    redirects_good f bodies (r.more_redirects {r = q} {rs = qs} h i j) =
        rw (redirects_from-more whole q qs) (good_redirects _ _ (redirect_good f bodies i) (redirects_good f bodies j))

    documents_good : {limit : ℕ} {b : List ℕ} {ms : List Mark} {s u : State} → Front whole b → ReadsDocuments limit b ms s u → GoodBodies s.bodies → GoodBodies u.bodies
    documents_good f r.no_body g = g
    documents_good {b = b} f (r.more_bodies {s = s} {l = l} {ps = ps} h a k i c j) g =
        documents_good f j (bodies_push s.bodies (record { text = tree.word s.spot.at l.start ps; end = l }) g (parts_good (front_less whole b l.start f) i))

    breaks_good : {limit : ℕ} {b : List ℕ} {s u : State} → Front whole b → ReadsBreaks limit b s u → GoodBodies s.bodies → GoodBodies u.bodies
    breaks_good f (r.no_break h) g = g
    breaks_good f (r.more_breaks h q i j) g = breaks_good f j (documents_good f i g)

    -- Commands

    elements_good : {limit : ℕ} {b : List ℕ} {body : ℕ → Document} {g : Stage} {s u : State} {es : List Element} → Front whole b → IsSettled b s.spot → AreGood body
        → ReadsElements limit b body g s u es → GoodElements (elements_from whole es)
    elements_good f here bodies (r.no_element h) = rw (elements_from-empty whole) good_no_elements
    elements_good {b = b} f here bodies (r.assigned_element {g = g} {s = s} {u = u} {w = w} {es = es} h i j) =
        rw (elements_from-Assignment whole (span s.spot.at (name_end b s.spot.at)) w es)
        (good_assignment _ _ _ (name_here b s.spot.at f (assignment_begins b g s.spot.at h)) (word_good f i) (elements_good f (settled_past b u s) bodies j))
    elements_good {b = b} f here bodies (r.word_element {g = g} {s = s} {u = u} {w = w} {es = es} h i j) =
        let good = word_good f i in
        rw (elements_from-Word whole w es)
        (good_operand _ _ good (good_field _ good (word_gives whole {s = facing s} g f here h i)) (elements_good f (settled_past b u s) bodies j))
    elements_good f here bodies (r.redirect_element {r = q} {es = es} h i j) =
        rw (elements_from-Redirection whole q es) (good_redirection _ _ (redirect_good f bodies i) (elements_good f (redirect_settled i) bodies j))

    command_walks : {limit : ℕ} {b : List ℕ} {body : ℕ → Document} {s u : State} {c : Command} → Front whole b → ReadsCommand limit b body s u c
        → Walks b body s u (GoodCommand (command_of whole c))
    command_walks f (r.simple_command {s = s} {es = es} h i) = record {
      bodies = elements_bodies i;
      tree = λ here bodies.
          rw (command_made whole (s.spot.count + 1) s.spot.at (kind.Simple es) [], kind_of-Simple whole es, redirects_from-empty whole)
          (good_simple _ _ _ (elements_good f here bodies i));
    }
    command_walks f (r.compound_command {s = s} {k = k} {rs = qs} l i j) =
        let inside = compound_walks f i in
        record {
          bodies = λ g. redirects_bodies j (inside.bodies g);
          tree = λ here bodies.
              rw (command_made whole (s.spot.count + 1) s.spot.at k qs) (good_command _ _ _ _ (inside.tree here bodies) (redirects_good f bodies j));
        }
    command_walks {b = b} f (r.definition {s = s} {c = c} h o p k i j) =
        let inside = command_walks f j in
        let opened = skip b 1 (behind_name b (begun s)) in
        let name = span s.spot.at (name_end b s.spot.at) in
        record {
          bodies = λ g. inside.bodies (breaks_good f k g);
          tree = λ here bodies.
              rw (command_made whole (s.spot.count + 1) s.spot.at (kind.Define name c) [], kind_of-Define whole name c, redirects_from-empty whole)
              (good_command _ _ _ _ (good_define _ _ (name_here b s.spot.at f (definition_begins b s.spot.at h)) (inside.tree (breaks_settled (settled_next b (opened.spot.at + 1) opened) k) bodies))
              good_no_redirects);
        }

    compound_walks : {limit : ℕ} {b : List ℕ} {body : ℕ → Document} {l : Lead} {s u : State} {k : Kind} → Front whole b → ReadsCompound limit b body l s u k
        → Walks b body s u (GoodKind (kind_of whole k))
    compound_walks {b = b} f (r.group {s = s} {t = t} d i h) =
        let inside = list_walks f i in
        record {
          bodies = inside.bodies;
          tree = λ here bodies. rw (kind_of-Group whole t) (good_group _ (inside.tree (settled_next b (s.spot.at + 1) s) bodies));
        }
    compound_walks {b = b} f (r.subshell {s = s} {t = t} d i h) =
        let inside = list_walks f i in
        record {
          bodies = inside.bodies;
          tree = λ here bodies. rw (kind_of-Subshell whole t) (good_subshell _ (inside.tree (settled_next b (s.spot.at + 1) s) bodies));
        }
    compound_walks {b = b} f (r.cond {s = s} {bs = bs} {o = o} d i) =
        let inside = branches_walks f i in
        record {
          bodies = inside.bodies;
          tree = λ here bodies.
              let both = inside.tree (settled_next b (s.spot.at + 2) s) bodies in
              rw (kind_of-Cond whole bs o) (good_conditional _ _ both.0 both.1);
        }
    compound_walks {b = b} f (r.while_loop {s = s} {c = c} {t = t} d i j) =
        let first = list_walks f i in
        let second = do_walks f j in
        record {
          bodies = λ g. second.bodies (first.bodies g);
          tree = λ here bodies.
              rw (kind_of-Loop whole loop.While c t)
              (good_loop _ _ _ (first.tree (settled_next b (s.spot.at + 5) s) bodies) (second.tree (list_settled (settled_next b (s.spot.at + 5) s) i) bodies));
        }
    compound_walks {b = b} f (r.until_loop {s = s} {c = c} {t = t} d i j) =
        let first = list_walks f i in
        let second = do_walks f j in
        record {
          bodies = λ g. second.bodies (first.bodies g);
          tree = λ here bodies.
              rw (kind_of-Loop whole loop.Until c t)
              (good_loop _ _ _ (first.tree (settled_next b (s.spot.at + 5) s) bodies) (second.tree (list_settled (settled_next b (s.spot.at + 5) s) i) bodies));
        }
    compound_walks {b = b} f (r.for_loop {s = s} {o = o} {t = t} d n i j) =
        let first = for_words_walks f i in
        let second = do_walks f j in
        let opened = skip b 3 s in
        let settled = settled_next b (name_end b opened.spot.at) opened in
        let name = span opened.spot.at (name_end b opened.spot.at) in
        record {
          bodies = λ g. second.bodies (first.bodies g);
          tree = λ here bodies.
              rw (kind_of-For whole name o t)
              (good_for _ _ _ (name_here b opened.spot.at f (bare_begins b opened.spot.at (is_name_bare b opened.spot.at n))) (first.tree settled bodies) (second.tree (for_words_settled settled i) bodies));
        }
    compound_walks {b = b} f (r.case_of {s = s} {p = p} {q = q} {u = u} {w = w} {cs = cs} d h i k e j l) =
        let inside = clauses_walks f l in
        record {
          bodies = λ g. inside.bodies (breaks_good f j (breaks_good f k g));
          tree = λ here bodies.
              let settled = breaks_settled (settled_next b (p.spot.at + 2) p) j in
              rw (kind_of-Branches whole w cs) (good_case _ _ (word_good f i) (inside.tree settled bodies));
        }

    do_walks : {limit : ℕ} {b : List ℕ} {body : ℕ → Document} {s u : State} {t : Script} → Front whole b → ReadsDo limit b body s u t → Walks b body s u (GoodItems (script_of whole t))
    do_walks {b = b} f (r.do_group {s = s} h i k) =
        let inside = list_walks f i in
        record { bodies = inside.bodies; tree = λ here bodies. inside.tree (settled_next b (s.spot.at + 2) s) bodies }

    branches_walks : {limit : ℕ} {b : List ℕ} {body : ℕ → Document} {s u : State} {bs : List Branch} {o : Option Script} → Front whole b → ReadsBranches limit b body s u bs o
        → Walks b body s u (GoodBranches (branches_from whole bs) × GoodOtherwise (otherwise_from whole o))
    branches_walks {b = b} f (r.branch {u = u} {v = v} {c = c} {t = t} {bs = bs} i h j k) =
        let first = list_walks f i in
        let second = list_walks f j in
        let rest = else_walks f k in
        record {
          bodies = λ g. rest.bodies (second.bodies (first.bodies g));
          tree = λ here bodies.
              let settled = settled_next b (u.spot.at + 4) u in
              let behind = rest.tree (list_settled settled j) bodies in
              (rw (branches_made whole c t bs) (good_branches _ _ _ (first.tree here bodies) (second.tree settled bodies) behind.0), behind.1);
        }

    else_walks : {limit : ℕ} {b : List ℕ} {body : ℕ → Document} {s u : State} {bs : List Branch} {o : Option Script} → Front whole b → ReadsElse limit b body s u bs o
        → Walks b body s u (GoodBranches (branches_from whole bs) × GoodOtherwise (otherwise_from whole o))
    else_walks f (r.fi h) = record {
      bodies = λ g. g;
      tree = λ here bodies. (rw (branches_from-empty whole) good_no_branches, rw (otherwise_from-None whole) good_no_else);
    }
    else_walks {b = b} f (r.otherwise {s = s} {t = t} h i k) =
        let inside = list_walks f i in
        record {
          bodies = inside.bodies;
          tree = λ here bodies. (
            rw (branches_from-empty whole) good_no_branches,
            rw (otherwise_from-Some whole t) (good_else _ (inside.tree (settled_next b (s.spot.at + 4) s) bodies)),
          );
        }
    else_walks {b = b} f (r.elif {s = s} h i) =
        let inside = branches_walks f i in
        record { bodies = inside.bodies; tree = λ here bodies. inside.tree (settled_next b (s.spot.at + 4) s) bodies }

    for_words_walks : {limit : ℕ} {b : List ℕ} {body : ℕ → Document} {s u : State} {o : Option (List Word)} → Front whole b → ReadsForWords limit b s u o
        → Walks b body s u (GoodForWords (for_words_from whole o))
    for_words_walks f (r.arguments_ended h k) = record { bodies = breaks_good f k; tree = λ here bodies. rw (for_words_from-None whole) good_every }
    for_words_walks f (r.arguments k h) = record { bodies = breaks_good f k; tree = λ here bodies. rw (for_words_from-None whole) good_every }
    for_words_walks {b = b} f (r.listed {u = u} {v = v} {ws = ws} k h i j l) = record {
      bodies = λ g. breaks_good f l (parted_bodies b v (words_bodies i (breaks_good f k g)));
      tree = λ here bodies. rw (for_words_from-Some whole ws) (good_listed _ (words_good f (settled_next b (u.spot.at + 2) u) i));
    }

    words_good : {limit : ℕ} {b : List ℕ} {s u : State} {ws : List Word} → Front whole b → IsSettled b s.spot → ReadsWords limit b s u ws → GoodFields (words_from whole ws)
    words_good f here (r.no_word h) = rw (words_from-empty whole) good_no_fields
    words_good {b = b} f here (r.more_words {s = s} {u = u} {w = w} {ws = ws} h i j) =
        let good = word_good f i in
        let is = is_word_lead (lead_of b (Named false) s) h in
        rw (words_from-more whole w ws) (good_fields _ _ good (good_field _ good (item_gives whole {s = facing s} f here is i)) (words_good f (settled_past b u s) j))

    clauses_walks : {limit : ℕ} {b : List ℕ} {body : ℕ → Document} {s u : State} {cs : List Clause} → Front whole b → ReadsClauses limit b body s u cs
        → Walks b body s u (GoodClauses (clauses_from whole cs))
    clauses_walks f (r.esac h) = record { bodies = λ g. g; tree = λ here bodies. rw (clauses_from-empty whole) good_no_clauses }
    clauses_walks {b = b} f (r.last_clause {s = s} {u = u} {ws = ws} {t = t} h i j k) =
        let inside = sequence_walks f j in
        record {
          bodies = λ g. inside.bodies (patterns_bodies i (unopened_bodies b s g));
          tree = λ here bodies.
              rw (clauses_made whole ws t Break [], clauses_from-empty whole)
              (good_clauses _ _ _ _ (patterns_good f i) (inside.tree (settled_next b (u.spot.at + 1) u) bodies) good_no_clauses);
        }
    clauses_walks {b = b} f (r.more_clauses {s = s} {u = u} {v = v} {ws = ws} {t = t} {e = e} {cs = cs} h i j k l m) =
        let inside = sequence_walks f j in
        let rest = clauses_walks f m in
        record {
          bodies = λ g. rest.bodies (breaks_good f l (inside.bodies (patterns_bodies i (unopened_bodies b s g))));
          tree = λ here bodies.
              let behind = rest.tree (breaks_settled (settled_next b (v.spot.at + 2) v) l) bodies in
              rw (clauses_made whole ws t e cs) (good_clauses _ _ _ _ (patterns_good f i) (inside.tree (settled_next b (u.spot.at + 1) u) bodies) behind);
        }

    patterns_good : {limit : ℕ} {b : List ℕ} {s u : State} {ws : List Word} → Front whole b → ReadsPatterns limit b s u ws → GoodWords (words_from whole ws)
    patterns_good f (r.last_pattern {w = w} h i k) = rw (words_from-more whole w [], words_from-empty whole) (good_words _ _ (word_good f i) good_no_words)
    patterns_good f (r.more_patterns {w = w} {ws = ws} h i k j) = rw (words_from-more whole w ws) (good_words _ _ (word_good f i) (patterns_good f j))

    -- Pipelines and lists

    pipeline_walks : {limit : ℕ} {b : List ℕ} {body : ℕ → Document} {s u : State} {p : Pipe} → Front whole b → ReadsPipeline limit b body s u p
        → Walks b body s u (GoodPipeline (pipeline_of whole p))
    pipeline_walks {b = b} f (r.negated {s = s} {cs = cs} h i) =
        let inside = commands_walks f i in
        record { bodies = inside.bodies; tree = λ here bodies. rw (pipe_made whole true cs) (good_pipeline _ _ (inside.tree (settled_next b (s.spot.at + 1) s) bodies)) }
    pipeline_walks f (r.straight {cs = cs} h i) =
        let inside = commands_walks f i in
        record { bodies = inside.bodies; tree = λ here bodies. rw (pipe_made whole false cs) (good_pipeline _ _ (inside.tree here bodies)) }

    commands_walks : {limit : ℕ} {b : List ℕ} {body : ℕ → Document} {s u : State} {cs : List Command} → Front whole b → ReadsCommands limit b body s u cs
        → Walks b body s u (GoodCommands (commands_from whole cs))
    commands_walks f (r.last_command {c = c} i h) =
        let inside = command_walks f i in
        record {
          bodies = inside.bodies;
          tree = λ here bodies. rw (commands_from-more whole c [], commands_from-empty whole) (good_commands _ _ (inside.tree here bodies) good_no_commands);
        }
    commands_walks {b = b} f (r.more_commands {u = u} {c = c} {cs = cs} i h k j) =
        let inside = command_walks f i in
        let rest = commands_walks f j in
        record {
          bodies = λ g. rest.bodies (breaks_good f k (inside.bodies g));
          tree = λ here bodies.
              let behind = rest.tree (breaks_settled (settled_next b (u.spot.at + 1) u) k) bodies in
              rw (commands_from-more whole c cs) (good_commands _ _ (inside.tree here bodies) behind);
        }

    and_or_walks : {limit : ℕ} {b : List ℕ} {body : ℕ → Document} {s u : State} {l : AndOr} → Front whole b → ReadsAndOr limit b body s u l
        → Walks b body s u (GoodList (and_or_of whole l))
    and_or_walks f (r.linked {p = p} {ps = ps} i j) =
        let inside = pipeline_walks f i in
        let rest = links_walks f j in
        record {
          bodies = λ g. rest.bodies (inside.bodies g);
          tree = λ here bodies. rw (and_or_made whole p ps) (good_list _ _ (inside.tree here bodies) (rest.tree (pipeline_settled here i) bodies));
        }

    links_walks : {limit : ℕ} {b : List ℕ} {body : ℕ → Document} {s u : State} {ps : List (Link × Pipe)} → Front whole b → ReadsLinks limit b body s u ps
        → Walks b body s u (GoodLinks (links_from whole ps))
    links_walks f (r.no_link h) = record { bodies = λ g. g; tree = λ here bodies. rw (links_from-empty whole) good_no_links }
    links_walks {b = b} f (r.more_links {s = s} {l = l} {p = p} {ps = ps} h k i j) =
        let inside = pipeline_walks f i in
        let rest = links_walks f j in
        record {
          bodies = λ g. rest.bodies (inside.bodies (breaks_good f k g));
          tree = λ here bodies.
              let settled = breaks_settled (settled_next b (s.spot.at + 2) s) k in
              rw (links_from-more whole (l, p) ps) (good_links l _ _ (inside.tree settled bodies) (rest.tree (pipeline_settled settled i) bodies));
        }

    items_walks : {limit : ℕ} {b : List ℕ} {body : ℕ → Document} {s u : State} {is : List Item} → Front whole b → ReadsItems limit b body s u is
        → Walks b body s u (GoodItems (items_from whole is))
    items_walks f (r.last_item {l = l} i h k) =
        let inside = and_or_walks f i in
        record {
          bodies = inside.bodies;
          tree = λ here bodies. rw (items_made whole l false [], items_from-empty whole) (good_items _ _ _ (inside.tree here bodies) good_no_items);
        }
    items_walks {b = b} f (r.ended_item {u = u} {l = l} {g = g} i h k e) =
        let inside = and_or_walks f i in
        record {
          bodies = λ d. breaks_good f k (parted_bodies b u (inside.bodies d));
          tree = λ here bodies. rw (items_made whole l g [], items_from-empty whole) (good_items _ _ _ (inside.tree here bodies) good_no_items);
        }
    items_walks {b = b} f (r.more_items {u = u} {l = l} {g = g} {is = is} i h k e j) =
        let inside = and_or_walks f i in
        let rest = items_walks f j in
        record {
          bodies = λ d. rest.bodies (breaks_good f k (parted_bodies b u (inside.bodies d)));
          tree = λ here bodies.
              let behind = rest.tree (breaks_settled (settled_parted b u (and_or_settled here i)) k) bodies in
              rw (items_made whole l g is) (good_items _ _ _ (inside.tree here bodies) behind);
        }

    list_walks : {limit : ℕ} {b : List ℕ} {body : ℕ → Document} {s u : State} {t : Script} → Front whole b → ReadsList limit b body s u t
        → Walks b body s u (GoodItems (script_of whole t))
    list_walks f (r.list {is = is} k h i) =
        let inside = items_walks f i in
        record {
          bodies = λ g. inside.bodies (breaks_good f k g);
          tree = λ here bodies. rw (script_made whole is) (inside.tree (breaks_settled here k) bodies);
        }

    sequence_walks : {limit : ℕ} {b : List ℕ} {body : ℕ → Document} {s u : State} {t : Script} → Front whole b → ReadsSequence limit b body s u t
        → Walks b body s u (GoodItems (script_of whole t))
    sequence_walks f (r.nothing k h) = record { bodies = breaks_good f k; tree = λ here bodies. rw (script_made whole [], items_from-empty whole) good_no_items }
    sequence_walks f (r.sequence i) = list_walks f i

    script_good : {limit : ℕ} {b : List ℕ} {s u : Spot} {t : Script} → Front whole b → IsSettled b s → ReadsScript limit b s u t → GoodItems (script_of whole t)
    script_good f here (r.script {u = u} i h) =
        let inside = sequence_walks f i in
        inside.tree here (nth_good u.bodies (inside.bodies no_bodies))

-- The text of a script has no byte before its first token, and each of its commands is formed.
pub read_formed : (b : List ℕ) (t : Script) → Reads b t → is_formed (script_of b t) ≡ true
read_formed b t reads = script_good b (front_whole b) (blanks_gap false b 0) reads.2.script outside
