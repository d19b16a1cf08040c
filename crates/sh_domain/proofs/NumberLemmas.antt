-- Each number up to their count occurs once among the commands of a script that is read: a case for
-- each production.
--
-- Numbers do not rise along a program either, so they are counted as spots are (OnceLemmas); what
-- passes them is the count of commands.
use Rattle.std.proofs.Common.{◌≡◌, ℕ, ◌+◌, ◌-◌, ◌==◌, Bool, true, false, if◌then◌else◌, Option, List, [], ◌∷◌, ◌++◌, refl, ap, subst, ◌∙◌, ◌≤◌, length, arith, length-append, cond, nat_le}
use Rattle.sh_tree.specs.declared.tree.AndOr.{AndOr}
use Rattle.sh_tree.specs.declared.tree.Binary.{Binary}
use Rattle.sh_tree.specs.declared.tree.Branch.{Branch}
use Rattle.sh_tree.specs.declared.tree.Clause.{Clause}
use Rattle.sh_tree.specs.declared.tree.ClauseEnd.TheVariants.{Break}
use Rattle.sh_tree.specs.declared.tree.Command.{Command}
use Rattle.sh_tree.specs.declared.tree.Element.{Element}
use Rattle.sh_tree.specs.declared.tree.Expr.{Expr}
use Rattle.sh_tree.specs.declared.tree.Item.{Item}
use Rattle.sh_tree.specs.declared.tree.Kind.{Kind}
use Rattle.sh_tree.specs.declared.tree.Kind.TheVariants as kind
use Rattle.sh_tree.specs.declared.tree.Link.{Link}
use Rattle.sh_tree.specs.declared.tree.LoopKind.TheVariants as loop
use Rattle.sh_tree.specs.declared.tree.ParameterOperator.TheVariants as operator
use Rattle.sh_tree.specs.declared.tree.Part.{Part}
use Rattle.sh_tree.specs.declared.tree.Pipe.{Pipe}
use Rattle.sh_tree.specs.declared.tree.Redirect.{Redirect}
use Rattle.sh_tree.specs.declared.tree.Script.{Script}
use Rattle.sh_tree.specs.declared.tree.Word.{Word}
use Rattle.sh_tree.specs.declared.token.word.Context.{Context}
use Rattle.sh_tree.specs.declared.token.word.Sign.{Sign}
use Rattle.sh_tree.specs.declared.token.arithmetic.Figure.{Figure}
use Rattle.sh_tree.specs.declared.token.command.Lead.{Lead}
use Rattle.sh_tree.specs.declared.token.command.Stage.{Stage}
use Rattle.sh_tree.specs.declared.token.command.Stage.TheVariants.{Named}
use Rattle.sh_tree.specs.standard.language.Commands.{name_end, is_newline_lead, is_open}
use Rattle.sh_tree.specs.standard.language.HereDocuments.{Mark, delimiter_of}
use Rattle.sh_tree.specs.standard.language.Reading as r
use Rattle.sh_tree.specs.standard.language.Reading.{figure_span, over, lead_of, lead_here, skip, parted, unopened, ReadsParts, ReadsPart, ReadsExpression, ReadsConditional, ReadsLevel, ReadsOperands, ReadsUnary, ReadsWord, ReadsRedirect, ReadsRedirects, ReadsDocuments, ReadsBreaks, ReadsElements, ReadsCommand, ReadsCompound, ReadsDo, ReadsBranches, ReadsElse, ReadsForWords, ReadsWords, ReadsClauses, ReadsPatterns, ReadsPipeline, ReadsCommands, ReadsAndOr, ReadsLinks, ReadsItems, ReadsList, ReadsSequence, ReadsScript, ReadsTo, Reads}
use Rattle.sh_tree.specs.standard.language.States.{Spot, State, Document, nth, document_count}
use Rattle.sh_tree.specs.standard.language.Trees as tree
use Rattle.sh_tree.specs.standard.language.Trees.{span}
use Rattle.sh_tree.specs.Lists.{parts_from, words_from, operands_from, items_from, links_from, commands_from, elements_from, redirects_from, branches_from, otherwise_from, for_words_from, clauses_from}
use Rattle.sh_tree.specs.standard.program.Syntax as p
use Rattle.sh_tree.specs.standard.program.Trees.{part_of, expression_of, script_of, and_or_of, pipeline_of, command_of, kind_of, target_of}
use Rattle.sh_tree.specs.standard.Tree.{text_of}
use Rattle.sh_tree.proofs.ProgramRules.{parts_from-empty, parts_from-more, words_from-empty, words_from-more, operands_from-empty, operands_from-more, items_from-empty, links_from-empty, links_from-more, commands_from-empty, commands_from-more, elements_from-empty, redirects_from-empty, redirects_from-more, branches_from-empty, clauses_from-empty, otherwise_from-None, otherwise_from-Some, for_words_from-None, for_words_from-Some, kind_of-Simple, kind_of-Group, kind_of-Subshell, kind_of-Cond, kind_of-Loop, kind_of-For, kind_of-Branches, kind_of-Define, elements_from-Assignment, elements_from-Word, elements_from-Redirection, target_of-File, target_of-Here, part_of-Plain, part_of-Escaped, part_of-Single, part_of-Double, part_of-Param, part_of-Arith, part_of-Command, part_of-Tilde, part_of-Joined, operator_of-Value, operator_of-Length, operator_of-Use, operator_of-Remove, expression_of-Constant, expression_of-Variable, expression_of-Expansion, expression_of-Parenthesis, expression_of-Unary, expression_of-Chain, expression_of-Choice, expression_of-Assign}
use Rattle.sh_reads.proofs.ProgramTrees.{script_made, items_made, and_or_made, pipe_made, command_made, branches_made, clauses_made}
use Rattle.sh_reads.proofs.DocumentLemmas as documents
use Rattle.sh_reads.proofs.DocumentLemmas.{none_wait}
use Rattle.sh_tree.specs.standard.language.Parts.{is_quoted_word}
use Rattle.sh_runs.specs.Surroundings.{Surroundings, outside, in_loop, in_function, in_part, in_item, items_located, list_located, links_located, pipeline_located, commands_located, command_located, kind_located, elements_located, redirect_located, redirects_located, branches_located, otherwise_located, for_words_located, words_located, clauses_located, word_located, part_located, expression_located, operands_located}
use Rattle.sh_domain.specs.Readings.{ReadNumbersDiffer}
use Rattle.sh_domain.proofs.DelimiterLemmas.{delimiter_bare}
use Rattle.sh_domain.proofs.NumberCounts.{next_given, numbers_from_held, held, held_command, held_no_parts, held_parts, held_plain, held_escaped, held_single, held_joined, held_tilde, held_double, held_expansion, held_arithmetic, held_substitution, held_value, held_length, held_use, held_remove, held_constant, held_name, held_expanded, held_parenthesis, held_signed, held_chain, held_choice, held_assigned, held_no_operands, held_operands, held_no_words, held_words, held_every, held_listed, held_file, held_here, held_no_redirects, held_redirects, held_no_elements, held_assignment, held_operand, held_redirection, held_simple, held_group, held_subshell, held_conditional, held_loop, held_for, held_case, held_define, held_no_branches, held_branches, held_no_else, held_else, held_no_clauses, held_clauses, held_no_commands, held_commands, held_pipeline, held_no_links, held_links, held_list, held_no_items, held_items}

module _ (whole : List ℕ) (n : ℕ) where
  -- Here-documents

  -- how many commands with the number are in a body
  abbrev in_body : Document → ℕ
  in_body d = held n (word_located (parts_from whole d.text.parts))

  abbrev in_bodies : List Document → ℕ
  in_bodies = documents.in_bodies in_body

  abbrev of_operators : (ℕ → Document) → ℕ → ℕ
  of_operators = documents.of_operators in_body

  -- one where the number is given among so many commands
  given : ℕ → ℕ
  given count = cond (nat_le n count) 1 0

  given_most : (count : ℕ) → given count ≤ 1
  unfolding given
  given_most count = go (nat_le n count)
    where
      go : (t : Bool) → cond t 1 0 ≤ 1
      go true = omega arith
      go false = omega arith

  given_next : (count : ℕ) → cond (count + 1 == n) 1 0 + given count ≡ given (count + 1)
  unfolding given
  given_next count = next_given n count

  -- what is read where the count goes from i to j has the number h times; the bodies that come
  -- meanwhile ku - ks times, and those of the operators cu - cs times
  record Gives (i j h ks cs ku cu : ℕ) : Type 0 where
    exact : h + ku + cs + given i ≡ ks + cu + given j

  gives_is : {i j h h' ks cs ku cu : ℕ} → h' ≡ h → Gives i j h ks cs ku cu → Gives i j h' ks cs ku cu
  gives_is e s = record { exact = (let b = s.exact in omega arith) }

  gives_none : {i ks cs : ℕ} → Gives i i 0 ks cs ks cs
  gives_none = record { exact = omega arith }

  gives_then : {i j l h h' ks cs kv cv ku cu : ℕ} → Gives i j h ks cs kv cv → Gives j l h' kv cv ku cu → Gives i l (h + h') ks cs ku cu
  gives_then s t = record { exact = (let a = s.exact in let b = t.exact in omega arith) }

  gives_among : {i j h : ℕ} (k c : ℕ) → Gives i j h 0 0 0 0 → Gives i j h k c k c
  gives_among k c s = record { exact = (let b = s.exact in omega arith) }

  gives_own : {i j h ks cs ku cu : ℕ} → Gives (i + 1) j h ks cs ku cu → Gives i j (cond (i + 1 == n) 1 0 + h) ks cs ku cu
  gives_own {i = i} s = record { exact = (let b = s.exact in let own = given_next i in omega arith) }

  abbrev Passes : Spot → Spot → ℕ → Type 0
  Passes s u h = Gives s.count u.count h 0 0 0 0

  abbrev Goes : (ℕ → Document) → State → State → ℕ → Type 0
  Goes body s u h = Gives s.spot.count u.spot.count h (in_bodies s.bodies) (of_operators body (document_count s)) (in_bodies u.bodies) (of_operators body (document_count u))

  chain_held : (e : Expr) (es : List (Binary × Expr))
      → held n (expression_located (expression_of whole (tree.chain_of e es))) ≡ held n (expression_located (expression_of whole e)) + held n (operands_located (operands_from whole es))
  chain_held e [] = rw (operands_from-empty whole, held_no_operands n) (omega arith)
  chain_held e (x ∷ xs) = rw (expression_of-Chain whole e (x ∷ xs)) (held_chain n _ _)

  either_goes : (body : ℕ → Document) (t : Bool) (r s u : State) → Goes body r s 0 → Goes body r u 0 → Goes body r (if t then s else u) 0
  either_goes body true r s u h k = h
  either_goes body false r s u h k = k

  goes_parted : (b : List ℕ) (body : ℕ → Document) (s : State) → Goes body s (parted b s) 0
  goes_parted b body s = either_goes body (is_newline_lead (lead_here b s)) s s (skip b 1 s) gives_none gives_none

  goes_unopened : (b : List ℕ) (body : ℕ → Document) (s : State) → Goes body s (unopened b s) 0
  goes_unopened b body s = either_goes body (is_open (lead_of b (Named false) s)) s (skip b 1 s) s gives_none gives_none

  mutual
    -- Words

    parts_give : {limit : ℕ} {b : List ℕ} {x : Context} {prior : ℕ} {s u : Spot} {ps : List Part} → ReadsParts limit b x prior s u ps → Passes s u (held n (word_located (parts_from whole ps)))
    parts_give (r.stop h) = rw (parts_from-empty whole) (gives_is (held_no_parts n) gives_none)
    parts_give (r.tabs h i) = parts_give i
    parts_give (r.more {p = y} {ps = ps} h i j) = rw (parts_from-more whole y ps) (gives_is (held_parts n _ _) (gives_then (part_gives i) (parts_give j)))

    part_gives : {limit : ℕ} {b : List ℕ} {x : Context} {g : Sign} {s u : Spot} {e : ℕ} {p : Part} → ReadsPart limit b x g s e u p → Passes s u (held n (part_located (part_of whole p)))
    part_gives (r.plain {s = s} {e = e}) = rw (part_of-Plain whole (span s.at e)) (gives_is (held_plain n _) gives_none)
    part_gives (r.escaped {s = s} {e = e}) = rw (part_of-Escaped whole (span s.at e)) (gives_is (held_escaped n _) gives_none)
    part_gives (r.joined {s = s} {e = e}) = rw (part_of-Joined whole (span s.at e)) (gives_is (held_joined n) gives_none)
    part_gives (r.single_quoted {s = s} {e = e} {style = style}) = rw (part_of-Single whole style (span s.at e)) (gives_is (held_single n _ _) gives_none)
    part_gives (r.tilde {s = s} {e = e}) = rw (part_of-Tilde whole (span s.at e)) (gives_is (held_tilde n _ _) gives_none)
    part_gives (r.double_quoted {s = s} {u = u} {ps = ps} i) = rw (part_of-Double whole (span s.at u.at) ps) (gives_is (held_double n _) (parts_give i))
    part_gives (r.value {s = s} {e = e} {p = y}) =
        rw (part_of-Param whole (record { span = span s.at e; subject = y; operator = operator.Value }), operator_of-Value whole)
        (gives_is (held_expansion n _ _ _ ∙ held_value n) gives_none)
    part_gives (r.length_value {s = s} {e = e} {p = y}) =
        rw (part_of-Param whole (record { span = span s.at e; subject = y; operator = operator.Length }), operator_of-Length whole)
        (gives_is (held_expansion n _ _ _ ∙ held_length n) gives_none)
    part_gives (r.use_word {s = s} {u = u} {e = e} {p = y} {a = a} {colon = colon} {ps = ps} d i) =
        rw (
          part_of-Param whole (record { span = span s.at u.at; subject = y; operator = operator.Use a colon (tree.word e (u.at - 1) ps) }),
          operator_of-Use whole a colon (tree.word e (u.at - 1) ps),
        ) (gives_is (held_expansion n _ _ _ ∙ held_use n a colon _) (parts_give i))
    part_gives (r.removal {s = s} {u = u} {e = e} {p = y} {r = removal} {ps = ps} d i) =
        rw (
          part_of-Param whole (record { span = span s.at u.at; subject = y; operator = operator.Remove removal (tree.word e (u.at - 1) ps) }),
          operator_of-Remove whole removal (tree.word e (u.at - 1) ps),
        ) (gives_is (held_expansion n _ _ _ ∙ held_remove n removal _) (parts_give i))
    part_gives {b = b} (r.arithmetic {s = s} {u = u} {a = a} d i h c) = rw (part_of-Arith whole (span s.at ((over b u).at + 1)) a) (gives_is (held_arithmetic n _ _) (expression_gives i))
    part_gives (r.substitution {s = s} {u = u} {style = style} {t = list} d k h c) =
        rw (part_of-Command whole style (span s.at (u.at + 1)) list) (gives_is (held_substitution n _ _) (script_gives outside h))

    -- Arithmetic

    expression_gives : {limit : ℕ} {b : List ℕ} {x : Context} {s u : Spot} {e : Expr} → ReadsExpression limit b x s u e → Passes s u (held n (expression_located (expression_of whole e)))
    expression_gives {b = b} (r.assignment {s = s} {o = o} {e = e} k a d i) = rw (expression_of-Assign whole (figure_span b s) o e) (gives_is (held_assigned n _ _ _ _) (expression_gives i))
    expression_gives (r.no_assignment h i) = conditional_gives i

    conditional_gives : {limit : ℕ} {b : List ℕ} {x : Context} {s u : Spot} {e : Expr} → ReadsConditional limit b x s u e → Passes s u (held n (expression_located (expression_of whole e)))
    conditional_gives (r.one_level i h) = level_gives i
    conditional_gives (r.choice {c = c} {y = y} {n = z} i h d j k l) =
        rw (expression_of-Choice whole c y z) (gives_is (held_choice n _ _ _) (gives_then (gives_then (level_gives i) (expression_gives j)) (conditional_gives l)))

    level_gives : {limit : ℕ} {b : List ℕ} {x : Context} {l : ℕ} {s u : Spot} {e : Expr} → ReadsLevel limit b x l s u e → Passes s u (held n (expression_located (expression_of whole e)))
    level_gives (r.chain {e = e} {es = es} h i j) = gives_is (chain_held e es) (gives_then (level_gives i) (operands_give j))
    level_gives (r.operand h k i) = unary_gives i

    operands_give : {limit : ℕ} {b : List ℕ} {x : Context} {l : ℕ} {s u : Spot} {es : List (Binary × Expr)} → ReadsOperands limit b x l s u es
        → Passes s u (held n (operands_located (operands_from whole es)))
    operands_give (r.no_operand h) = rw (operands_from-empty whole) (gives_is (held_no_operands n) gives_none)
    operands_give (r.more_operands {o = o} {e = e} {es = es} h i j) =
        rw (operands_from-more whole (o, e) es) (gives_is (held_operands n o _ _) (gives_then (level_gives i) (operands_give j)))

    unary_gives : {limit : ℕ} {b : List ℕ} {x : Context} {g : Figure} {s u : Spot} {e : Expr} → ReadsUnary limit b x g s u e → Passes s u (held n (expression_located (expression_of whole e)))
    unary_gives {b = b} (r.constant {s = s}) = rw (expression_of-Constant whole (figure_span b s)) (gives_is (held_constant n _) gives_none)
    unary_gives {b = b} (r.variable {s = s}) = rw (expression_of-Variable whole (figure_span b s)) (gives_is (held_name n _ _) gives_none)
    unary_gives (r.signed {o = o} {e = e} h d i) = rw (expression_of-Unary whole o e) (gives_is (held_signed n o _) (level_gives i))
    unary_gives (r.parenthesis {e = e} d i h) = rw (expression_of-Parenthesis whole e) (gives_is (held_parenthesis n _) (expression_gives i))
    unary_gives (r.expansion {p = y} h k i) = rw (expression_of-Expansion whole y) (gives_is (held_expanded n _) (part_gives i))

    word_gives : {limit : ℕ} {b : List ℕ} {x : Context} {s u : Spot} {w : Word} → ReadsWord limit b x s u w → Passes s u (held n (word_located (parts_from whole w.parts)))
    word_gives (r.whole_word i l k) = parts_give i

    -- Redirections and here-documents

    redirect_gives : {limit : ℕ} {b : List ℕ} {body : ℕ → Document} {s u : State} {y : Redirect} → ReadsRedirect limit b body s u y
        → Goes body s u (held n (redirect_located (target_of whole y.target)))
    redirect_gives {body = body} (r.file {s = s} {d = d} {w = w} h e k i) =
        rw (target_of-File whole d w) (gives_is (held_file n _) (gives_among (in_bodies s.bodies) (of_operators body (document_count s)) (word_gives i)))
    redirect_gives {b = b} {body = body} (r.here_document {s = s} {u = u} {strip = strip} {w = w} h t k i d) =
        let inside = word_gives i in
        let exact = inside.exact in
        let bare = delimiter_bare whole b w n d in
        let mark : Mark = record { strip = strip; quoted = is_quoted_word w; delimiter = delimiter_of b w; depth = s.spot.depth } in
        let more = documents.operators_push in_body body (document_count s) (length s.bodies + length (s.pending ++ mark ∷ [])) (omega (arith, length-append s.pending (mark ∷ []))) in
        rw (target_of-Here whole (tree.here_doc strip w (body (document_count s)).text (body (document_count s)).end)) (gives_is (held_here n _) (record { exact = omega arith }))

    redirects_give : {limit : ℕ} {b : List ℕ} {body : ℕ → Document} {s u : State} {ys : List Redirect} → ReadsRedirects limit b body s u ys
        → Goes body s u (held n (redirects_located (redirects_from whole ys)))
    redirects_give (r.no_redirect h) = rw (redirects_from-empty whole) (gives_is (held_no_redirects n) gives_none)
    redirects_give (r.more_redirects {r = y} {rs = ys} h i j) =
        rw (redirects_from-more whole y ys) (gives_is (held_redirects n _ _) (gives_then (redirect_gives i) (redirects_give j)))

    documents_give : {limit : ℕ} {b : List ℕ} {ms : List Mark} {s u : State} → ReadsDocuments limit b ms s u → (c : ℕ)
        → Gives s.spot.count u.spot.count 0 (in_bodies s.bodies) c (in_bodies u.bodies) c × (length u.bodies ≡ length s.bodies + length ms) × (u.pending ≡ s.pending)
    documents_give r.no_body c = (gives_none, omega arith, refl)
    documents_give (r.more_bodies {s = s} {l = l} {ps = ps} h a k i e j) c =
        let d : Document = record { text = tree.word s.spot.at l.start ps; end = l } in
        let inside = parts_give i in
        let exact = inside.exact in
        let rest = documents_give j c in
        let behind = rest.0.exact in
        let push = documents.bodies_push in_body s.bodies d in
        let pushed = length-append s.bodies (d ∷ []) in
        let count = rest.1 in
        (record { exact = omega arith }, omega arith, rest.2)

    breaks_give : {limit : ℕ} {b : List ℕ} {s u : State} → (body : ℕ → Document) → ReadsBreaks limit b s u → Goes body s u 0
    breaks_give body (r.no_break h) = gives_none
    breaks_give body (r.more_breaks {s = s} {u = u} h e i j) =
        let documents = documents_give i (of_operators body (document_count s)) in
        let count = documents.1 in
        let none = ap length documents.2 in
        let same : of_operators body (document_count u) ≡ of_operators body (document_count s) = ap (of_operators body) (omega arith) in
        let first = documents.0.exact in
        let rest = breaks_give body j in
        let second = rest.exact in
        record { exact = omega arith }

    -- Commands

    elements_give : {limit : ℕ} {b : List ℕ} {body : ℕ → Document} {g : Stage} {s u : State} {es : List Element} → ReadsElements limit b body g s u es
        → Goes body s u (held n (elements_located (elements_from whole es)))
    elements_give (r.no_element h) = rw (elements_from-empty whole) (gives_is (held_no_elements n) gives_none)
    elements_give {b = b} {body = body} (r.assigned_element {s = s} {w = w} {es = es} h i j) =
        let first = gives_among (in_bodies s.bodies) (of_operators body (document_count s)) (word_gives i) in
        rw (elements_from-Assignment whole (span s.spot.at (name_end b s.spot.at)) w es) (gives_is (held_assignment n _ _ _) (gives_then first (elements_give j)))
    elements_give {body = body} (r.word_element {s = s} {w = w} {es = es} h i j) =
        let first = gives_among (in_bodies s.bodies) (of_operators body (document_count s)) (word_gives i) in
        rw (elements_from-Word whole w es) (gives_is (held_operand n _ _) (gives_then first (elements_give j)))
    elements_give (r.redirect_element {r = y} {es = es} h i j) =
        rw (elements_from-Redirection whole y es) (gives_is (held_redirection n _ _) (gives_then (redirect_gives i) (elements_give j)))

    command_gives : {limit : ℕ} {b : List ℕ} {body : ℕ → Document} {s u : State} {c : Command} → (y : Surroundings) → ReadsCommand limit b body s u c
        → Goes body s u (held n (command_located y (command_of whole c)))
    command_gives y (r.simple_command {s = s} {es = es} h i) =
        let own = gives_own (elements_give i) in
        let command = held_command n y (s.spot.count + 1) s.spot.at (p.Simple (elements_from whole es)) p.no_redirects in
        let simple = held_simple n y (elements_from whole es) in
        let none = held_no_redirects n in
        rw (command_made whole (s.spot.count + 1) s.spot.at (kind.Simple es) [], kind_of-Simple whole es, redirects_from-empty whole) (gives_is (omega arith) own)
    command_gives y (r.compound_command {s = s} {k = k} {rs = ys} is i j) =
        rw (command_made whole (s.spot.count + 1) s.spot.at k ys) (gives_is (held_command n y _ _ _ _) (gives_own (gives_then (compound_gives y i) (redirects_give j))))
    command_gives {b = b} {body = body} y (r.definition {s = s} {c = c} h o e k i j) =
        let name = span s.spot.at (name_end b s.spot.at) in
        let own = gives_own (gives_then (breaks_give body k) (command_gives in_function j)) in
        let command = held_command n y (s.spot.count + 1) s.spot.at (p.Define (text_of whole name) (command_of whole c)) p.no_redirects in
        let define = held_define n y (text_of whole name) (command_of whole c) in
        let none = held_no_redirects n in
        rw (command_made whole (s.spot.count + 1) s.spot.at (kind.Define name c) [], kind_of-Define whole name c, redirects_from-empty whole) (gives_is (omega arith) own)

    compound_gives : {limit : ℕ} {b : List ℕ} {body : ℕ → Document} {l : Lead} {s u : State} {k : Kind} → (y : Surroundings) → ReadsCompound limit b body l s u k
        → Goes body s u (held n (kind_located y (kind_of whole k)))
    compound_gives y (r.group {t = t} d i h) = rw (kind_of-Group whole t) (gives_is (held_group n y _) (list_gives y i))
    compound_gives y (r.subshell {t = t} d i h) = rw (kind_of-Subshell whole t) (gives_is (held_subshell n y _) (list_gives outside i))
    compound_gives y (r.cond {bs = bs} {o = o} d i) = rw (kind_of-Cond whole bs o) (gives_is (held_conditional n y _ _) (branches_give y i))
    compound_gives y (r.while_loop {c = c} {t = t} d i j) =
        rw (kind_of-Loop whole loop.While c t) (gives_is (held_loop n y _ _ _) (gives_then (list_gives (in_loop y) i) (do_gives (in_loop y) j)))
    compound_gives y (r.until_loop {c = c} {t = t} d i j) =
        rw (kind_of-Loop whole loop.Until c t) (gives_is (held_loop n y _ _ _) (gives_then (list_gives (in_loop y) i) (do_gives (in_loop y) j)))
    compound_gives {b = b} {body = body} y (r.for_loop {s = s} {o = o} {t = t} d k i j) =
        let opened = skip b 3 s in
        let name = span opened.spot.at (name_end b opened.spot.at) in
        rw (kind_of-For whole name o t) (gives_is (held_for n y _ _ _) (gives_then (for_words_give body i) (do_gives (in_loop y) j)))
    compound_gives {body = body} y (r.case_of {s = s} {w = w} {cs = cs} d h i k e j l) =
        let word = gives_among (in_bodies s.bodies) (of_operators body (document_count s)) (word_gives i) in
        let three = gives_then (gives_then (gives_then word (breaks_give body k)) (breaks_give body j)) (clauses_give y l) in
        rw (kind_of-Branches whole w cs) (gives_is (let m = held_case n y (parts_from whole w.parts) (clauses_from whole cs) in omega arith) three)

    do_gives : {limit : ℕ} {b : List ℕ} {body : ℕ → Document} {s u : State} {t : Script} → (y : Surroundings) → ReadsDo limit b body s u t
        → Goes body s u (held n (items_located y (script_of whole t)))
    do_gives y (r.do_group h i k) = list_gives y i

    branches_give : {limit : ℕ} {b : List ℕ} {body : ℕ → Document} {s u : State} {bs : List Branch} {o : Option Script} → (y : Surroundings) → ReadsBranches limit b body s u bs o
        → Goes body s u (held n (branches_located y (branches_from whole bs)) + held n (otherwise_located y (otherwise_from whole o)))
    branches_give y (r.branch {c = c} {t = t} {bs = bs} i h j k) =
        let all = gives_then (gives_then (list_gives y i) (list_gives y j)) (else_gives y k) in
        let counted = held_branches n y (script_of whole c) (script_of whole t) (branches_from whole bs) in
        rw (branches_made whole c t bs) (gives_is (omega arith) all)

    else_gives : {limit : ℕ} {b : List ℕ} {body : ℕ → Document} {s u : State} {bs : List Branch} {o : Option Script} → (y : Surroundings) → ReadsElse limit b body s u bs o
        → Goes body s u (held n (branches_located y (branches_from whole bs)) + held n (otherwise_located y (otherwise_from whole o)))
    else_gives y (r.fi h) =
        let one = held_no_branches n y in
        let two = held_no_else n y in
        rw (branches_from-empty whole, otherwise_from-None whole) (gives_is (omega arith) gives_none)
    else_gives y (r.otherwise {t = t} h i k) =
        let one = held_no_branches n y in
        let two = held_else n y (script_of whole t) in
        rw (branches_from-empty whole, otherwise_from-Some whole t) (gives_is (omega arith) (list_gives y i))
    else_gives y (r.elif h i) = branches_give y i

    for_words_give : {limit : ℕ} {b : List ℕ} {s u : State} {o : Option (List Word)} → (body : ℕ → Document) → ReadsForWords limit b s u o
        → Goes body s u (held n (for_words_located (for_words_from whole o)))
    for_words_give body (r.arguments_ended h k) = rw (for_words_from-None whole) (gives_is (held_every n) (breaks_give body k))
    for_words_give body (r.arguments k h) = rw (for_words_from-None whole) (gives_is (held_every n) (breaks_give body k))
    for_words_give {b = b} body (r.listed {v = v} {ws = ws} k h i j l) =
        let all = gives_then (gives_then (gives_then (breaks_give body k) (words_give body i)) (goes_parted b body v)) (breaks_give body l) in
        let listed = held_listed n (words_from whole ws) in
        rw (for_words_from-Some whole ws) (gives_is (omega arith) all)

    words_give : {limit : ℕ} {b : List ℕ} {s u : State} {ws : List Word} → (body : ℕ → Document) → ReadsWords limit b s u ws → Goes body s u (held n (words_located (words_from whole ws)))
    words_give body (r.no_word h) = rw (words_from-empty whole) (gives_is (held_no_words n) gives_none)
    words_give body (r.more_words {s = s} {w = w} {ws = ws} h i j) =
        let first = gives_among (in_bodies s.bodies) (of_operators body (document_count s)) (word_gives i) in
        rw (words_from-more whole w ws) (gives_is (held_words n _ _) (gives_then first (words_give body j)))

    clauses_give : {limit : ℕ} {b : List ℕ} {body : ℕ → Document} {s u : State} {cs : List Clause} → (y : Surroundings) → ReadsClauses limit b body s u cs
        → Goes body s u (held n (clauses_located y (clauses_from whole cs)))
    clauses_give y (r.esac h) = rw (clauses_from-empty whole) (gives_is (held_no_clauses n y) gives_none)
    clauses_give {b = b} {body = body} y (r.last_clause {s = s} {ws = ws} {t = t} h i j k) =
        let all = gives_then (gives_then (goes_unopened b body s) (patterns_give body i)) (sequence_gives y j) in
        let counted = held_clauses n y (words_from whole ws) (script_of whole t) Break p.no_clauses in
        let none = held_no_clauses n y in
        rw (clauses_made whole ws t Break [], clauses_from-empty whole) (gives_is (omega arith) all)
    clauses_give {b = b} {body = body} y (r.more_clauses {s = s} {ws = ws} {t = t} {e = e} {cs = cs} h i j k l m) =
        let first = gives_then (gives_then (goes_unopened b body s) (patterns_give body i)) (sequence_gives y j) in
        let all = gives_then (gives_then first (breaks_give body l)) (clauses_give y m) in
        let counted = held_clauses n y (words_from whole ws) (script_of whole t) e (clauses_from whole cs) in
        rw (clauses_made whole ws t e cs) (gives_is (omega arith) all)

    patterns_give : {limit : ℕ} {b : List ℕ} {s u : State} {ws : List Word} → (body : ℕ → Document) → ReadsPatterns limit b s u ws → Goes body s u (held n (words_located (words_from whole ws)))
    patterns_give body (r.last_pattern {s = s} {w = w} h i k) =
        let first = gives_among (in_bodies s.bodies) (of_operators body (document_count s)) (word_gives i) in
        let counted = held_words n (parts_from whole w.parts) p.no_words in
        let none = held_no_words n in
        rw (words_from-more whole w [], words_from-empty whole) (gives_is (omega arith) first)
    patterns_give body (r.more_patterns {s = s} {w = w} {ws = ws} h i k j) =
        let first = gives_among (in_bodies s.bodies) (of_operators body (document_count s)) (word_gives i) in
        rw (words_from-more whole w ws) (gives_is (held_words n _ _) (gives_then first (patterns_give body j)))

    -- Pipelines and lists

    pipeline_gives : {limit : ℕ} {b : List ℕ} {body : ℕ → Document} {s u : State} {p : Pipe} → (y : Surroundings) → ReadsPipeline limit b body s u p
        → Goes body s u (held n (pipeline_located y (pipeline_of whole p)))
    pipeline_gives y (r.negated {cs = cs} h i) = rw (pipe_made whole true cs) (gives_is (held_pipeline n y _ _) (commands_give (in_part y (commands_from whole cs)) i))
    pipeline_gives y (r.straight {cs = cs} h i) = rw (pipe_made whole false cs) (gives_is (held_pipeline n y _ _) (commands_give (in_part y (commands_from whole cs)) i))

    commands_give : {limit : ℕ} {b : List ℕ} {body : ℕ → Document} {s u : State} {cs : List Command} → (y : Surroundings) → ReadsCommands limit b body s u cs
        → Goes body s u (held n (commands_located y (commands_from whole cs)))
    commands_give y (r.last_command {c = c} i h) =
        let counted = held_commands n y (command_of whole c) p.no_commands in
        let none = held_no_commands n y in
        rw (commands_from-more whole c [], commands_from-empty whole) (gives_is (omega arith) (command_gives y i))
    commands_give {body = body} y (r.more_commands {c = c} {cs = cs} i h k j) =
        let all = gives_then (gives_then (command_gives y i) (breaks_give body k)) (commands_give y j) in
        let counted = held_commands n y (command_of whole c) (commands_from whole cs) in
        rw (commands_from-more whole c cs) (gives_is (omega arith) all)

    and_or_gives : {limit : ℕ} {b : List ℕ} {body : ℕ → Document} {s u : State} {l : AndOr} → (y : Surroundings) → ReadsAndOr limit b body s u l
        → Goes body s u (held n (list_located y (and_or_of whole l)))
    and_or_gives y (r.linked {p = z} {ps = ps} i j) = rw (and_or_made whole z ps) (gives_is (held_list n y _ _) (gives_then (pipeline_gives y i) (links_give y j)))

    links_give : {limit : ℕ} {b : List ℕ} {body : ℕ → Document} {s u : State} {ps : List (Link × Pipe)} → (y : Surroundings) → ReadsLinks limit b body s u ps
        → Goes body s u (held n (links_located y (links_from whole ps)))
    links_give y (r.no_link h) = rw (links_from-empty whole) (gives_is (held_no_links n y) gives_none)
    links_give {body = body} y (r.more_links {l = l} {p = z} {ps = ps} h k i j) =
        let all = gives_then (gives_then (breaks_give body k) (pipeline_gives y i)) (links_give y j) in
        let counted = held_links n y l (pipeline_of whole z) (links_from whole ps) in
        rw (links_from-more whole (l, z) ps) (gives_is (omega arith) all)

    items_give : {limit : ℕ} {b : List ℕ} {body : ℕ → Document} {s u : State} {is : List Item} → (y : Surroundings) → ReadsItems limit b body s u is
        → Goes body s u (held n (items_located y (items_from whole is)))
    items_give y (r.last_item {l = l} i h k) =
        let counted = held_items n y (and_or_of whole l) false p.no_items in
        let none = held_no_items n y in
        rw (items_made whole l false [], items_from-empty whole) (gives_is (omega arith) (and_or_gives (in_item y false) i))
    items_give {b = b} {body = body} y (r.ended_item {u = u} {l = l} {g = g} i h k e) =
        let all = gives_then (gives_then (and_or_gives (in_item y g) i) (goes_parted b body u)) (breaks_give body k) in
        let counted = held_items n y (and_or_of whole l) g p.no_items in
        let none = held_no_items n y in
        rw (items_made whole l g [], items_from-empty whole) (gives_is (omega arith) all)
    items_give {b = b} {body = body} y (r.more_items {u = u} {l = l} {g = g} {is = is} i h k e j) =
        let first = gives_then (gives_then (and_or_gives (in_item y g) i) (goes_parted b body u)) (breaks_give body k) in
        let all = gives_then first (items_give y j) in
        let counted = held_items n y (and_or_of whole l) g (items_from whole is) in
        rw (items_made whole l g is) (gives_is (omega arith) all)

    list_gives : {limit : ℕ} {b : List ℕ} {body : ℕ → Document} {s u : State} {t : Script} → (y : Surroundings) → ReadsList limit b body s u t
        → Goes body s u (held n (items_located y (script_of whole t)))
    list_gives {body = body} y (r.list {is = is} k h i) = rw (script_made whole is) (gives_is (omega arith) (gives_then (breaks_give body k) (items_give y i)))

    sequence_gives : {limit : ℕ} {b : List ℕ} {body : ℕ → Document} {s u : State} {t : Script} → (y : Surroundings) → ReadsSequence limit b body s u t
        → Goes body s u (held n (items_located y (script_of whole t)))
    sequence_gives {body = body} y (r.nothing k h) = rw (script_made whole [], items_from-empty whole) (gives_is (held_no_items n y) (breaks_give body k))
    sequence_gives y (r.sequence i) = list_gives y i

    script_gives : {limit : ℕ} {b : List ℕ} {s u : Spot} {t : Script} → (y : Surroundings) → ReadsScript limit b s u t → Passes s u (held n (items_located y (script_of whole t)))
    script_gives y (r.script {u = u} i h) =
        let inside = sequence_gives y i in
        let none = none_wait u.pending h in
        let all = documents.all_operators in_body u.bodies in
        let same : of_operators (nth u.bodies) (document_count u) ≡ of_operators (nth u.bodies) (length u.bodies) = ap (of_operators (nth u.bodies)) (omega arith) in
        let first = documents.no_operators in_body (nth u.bodies) in
        let before = documents.no_bodies in_body in
        let exact = inside.exact in
        record { exact = omega arith }

-- where so many commands are read, each number from 1 to that count is held once, and no other
pub read_given : (b : List ℕ) (t : Script) (limit count : ℕ) → ReadsTo b limit count t → (n : ℕ)
    → held n (items_located outside (script_of b t)) + cond (nat_le n 0) 1 0 ≡ cond (nat_le n count) 1 0
unfolding given
read_given b t limit count h n =
    let found = script_gives b n outside h.script in
    let exact = found.exact in
    subst (λ k. held n (items_located outside (script_of b t)) + cond (nat_le n 0) 1 0 ≡ cond (nat_le n k) 1 0) h.commands (omega arith)

pub read_held : (b : List ℕ) (t : Script) → Reads b t → (n : ℕ) → held n (items_located outside (script_of b t)) ≤ 1
read_held b t reads n =
    let found = script_gives b n outside reads.2.script in
    let exact = found.exact in
    let most = given_most b n reads.2.end.count in
    omega arith

pub read_numbers_differ : ReadNumbersDiffer
read_numbers_differ b t reads = numbers_from_held (items_located outside (script_of b t)) (read_held b t reads)
