-- Each spot of a program that is read occurs once: a case for each production.
--
-- Offsets do not rise along a program, since the body of a here-document is after the line of its
-- operator. So a spot is counted. In what is read it occurs at most as often as the reading passes
-- it and the bodies of its operators have it. What the bodies have that come meanwhile is taken
-- off.
use Rattle.std.proofs.Common.{◌≡◌, ℕ, ◌+◌, ◌-◌, Bool, true, false, if◌then◌else◌, Option, List, [], ◌∷◌, ◌++◌, drop, refl, sym, ap, subst, ◌∙◌, ◌<◌, ◌≤◌, min, max, length, take, le_refl, le_trans, arith, length-append, length-take}
use Rattle.sh_tree.specs.declared.tree.AndOr.{AndOr}
use Rattle.sh_tree.specs.declared.tree.Binary.{Binary}
use Rattle.sh_tree.specs.declared.tree.Branch.{Branch}
use Rattle.sh_tree.specs.declared.tree.Clause.{Clause}
use Rattle.sh_tree.specs.declared.tree.ClauseEnd.TheVariants.{Break}
use Rattle.sh_tree.specs.declared.tree.Command.{Command}
use Rattle.sh_tree.specs.declared.tree.CommandStyle.{CommandStyle}
use Rattle.sh_tree.specs.declared.tree.CommandStyle.TheVariants.{Paren, Backquote}
use Rattle.sh_tree.specs.declared.tree.Element.{Element}
use Rattle.sh_tree.specs.declared.tree.Expr.{Expr}
use Rattle.sh_tree.specs.declared.tree.Item.{Item}
use Rattle.sh_tree.specs.declared.tree.Kind.{Kind}
use Rattle.sh_tree.specs.declared.tree.Kind.TheVariants as kind
use Rattle.sh_tree.specs.declared.tree.Link.{Link}
use Rattle.sh_tree.specs.declared.tree.LoopKind.TheVariants as loop
use Rattle.sh_tree.specs.declared.tree.ParameterOperator.TheVariants as operator
use Rattle.sh_tree.specs.declared.tree.Part.{Part}
use Rattle.sh_tree.specs.declared.tree.Pipe.{Pipe}
use Rattle.sh_tree.specs.declared.tree.Redirect.{Redirect}
use Rattle.sh_tree.specs.declared.tree.Script.{Script}
use Rattle.sh_tree.specs.declared.tree.Word.{Word}
use Rattle.sh_tree.specs.declared.token.word.Context.{Context}
use Rattle.sh_tree.specs.declared.token.word.Sign.{Sign}
use Rattle.sh_tree.specs.declared.token.word.Sign.TheVariants as sign
use Rattle.sh_tree.specs.declared.token.arithmetic.Figure.{Figure}
use Rattle.sh_tree.specs.declared.token.command.Lead.{Lead}
use Rattle.sh_tree.specs.declared.token.command.Lead.TheVariants as lead
use Rattle.sh_tree.specs.declared.token.command.Stage.{Stage}
use Rattle.sh_tree.specs.declared.token.command.Stage.TheVariants.{First, Named}
use Rattle.sh_tree.specs.standard.language.Arithmetic.{lexeme}
use Rattle.sh_tree.specs.standard.language.Commands.{blanks, name_end, lead_at, is_newline_lead, is_open, begins_simple, gap_length}
use Rattle.sh_tree.specs.standard.language.Contexts.{in_stage}
use Rattle.sh_tree.specs.standard.language.HereDocuments.{Mark, behind_line, delimiter_of}
use Rattle.sh_tree.specs.standard.language.Substitutions.{backquote_end, commands_text}
use Rattle.sh_tree.specs.standard.language.Reading as r
use Rattle.sh_tree.specs.standard.language.Reading.{figure_at, figure_span, over, lead_of, lead_here, skip, behind_name, parted, unopened, ReadsParts, ReadsPart, ReadsExpression, ReadsConditional, ReadsLevel, ReadsOperands, ReadsUnary, ReadsWord, ReadsRedirect, ReadsRedirects, ReadsDocuments, ReadsBreaks, ReadsElements, ReadsCommand, ReadsCompound, ReadsDo, ReadsBranches, ReadsElse, ReadsForWords, ReadsWords, ReadsClauses, ReadsPatterns, ReadsPipeline, ReadsCommands, ReadsAndOr, ReadsLinks, ReadsItems, ReadsList, ReadsSequence, ReadsScript, Reads, sign_at}
use Rattle.sh_tree.specs.standard.language.States.{Spot, State, Document, nth, to, next, facing, begun, document_count}
use Rattle.sh_tree.specs.standard.language.Trees as tree
use Rattle.sh_tree.specs.standard.language.Trees.{span}
use Rattle.sh_tree.specs.Lists.{parts_from, words_from, operands_from, items_from, links_from, commands_from, elements_from, redirects_from, branches_from, otherwise_from, for_words_from, clauses_from}
use Rattle.sh_tree.specs.standard.program.Syntax as p
use Rattle.sh_tree.specs.standard.program.Trees.{part_of, expression_of, script_of, and_or_of, pipeline_of, command_of, kind_of, target_of}
use Rattle.sh_tree.specs.standard.Tree.{text_of}
use Rattle.sh_tree.proofs.ProgramRules.{parts_from-empty, parts_from-more, words_from-empty, words_from-more, operands_from-empty, operands_from-more, items_from-empty, links_from-empty, links_from-more, commands_from-empty, commands_from-more, elements_from-empty, redirects_from-empty, redirects_from-more, branches_from-empty, clauses_from-empty, otherwise_from-None, otherwise_from-Some, for_words_from-None, for_words_from-Some, kind_of-Simple, kind_of-Group, kind_of-Subshell, kind_of-Cond, kind_of-Loop, kind_of-For, kind_of-Branches, kind_of-Define, elements_from-Assignment, elements_from-Word, elements_from-Redirection, target_of-File, target_of-Here, part_of-Plain, part_of-Escaped, part_of-Single, part_of-Double, part_of-Param, part_of-Arith, part_of-Command, part_of-Tilde, part_of-Joined, operator_of-Value, operator_of-Length, operator_of-Use, operator_of-Remove, expression_of-Constant, expression_of-Variable, expression_of-Expansion, expression_of-Parenthesis, expression_of-Unary, expression_of-Chain, expression_of-Choice, expression_of-Assign}
use Rattle.sh_reads.proofs.GapLemmas.{blanks_gap}
use Rattle.sh_reads.proofs.DocumentLemmas as documents
use Rattle.sh_reads.proofs.DocumentLemmas.{none_wait}
use Rattle.sh_reads.proofs.ProgramTrees.{script_made, items_made, and_or_made, pipe_made, command_made, branches_made, clauses_made}
use Rattle.sh_reads.proofs.SettledLemmas.{IsSettled, settled_next, settled_past, settled_parted, redirect_settled, breaks_settled, for_words_settled, pipeline_settled, and_or_settled, list_settled}
use Rattle.std.proofs.lemmas.Bool.{true≢false}
use Rattle.sh_tree.specs.declared.place.Place.{Place}
use Rattle.sh_tree.specs.standard.language.Parts.{is_quoted_word}
use Rattle.sh_tree.specs.standard.language.Words.{token}
use Rattle.sh_reads.specs.Spots.{ReadSpotsStandInside, ReadSpotsStandOnce, word_spots, part_spots, expression_spots, operands_spots, words_spots, for_words_spots, redirect_spots, redirects_spots, elements_spots, kind_spots, command_spots, commands_spots, pipeline_spots, links_spots, list_spots, items_spots, branches_spots, otherwise_spots, clauses_spots}
use Rattle.sh_reads.proofs.BeginningLemmas.{takes_none, word_takes}
use Rattle.sh_reads.proofs.HitLemmas.{hits, spots_from_hits, spots_inside}
use Rattle.sh_reads.proofs.FigureLemmas.{figure_takes, figure_moves}
use Rattle.sh_reads.proofs.MoveLemmas.{blanks_move, name_moves, redirection_moves, is_end, lead_inside, simple_inside, compound_inside, line_behind, end_line_moves}
use Rattle.sh_reads.proofs.TakeLemmas.{is_part, token_takes, token_moves, part_begins}
use Rattle.sh_reads.proofs.BelowLemmas.{below, Spans, spans_is, spans_none, spans_wider, spans_then, spans_own, spans_inner, Step, step_is, step_none, step_wider, step_then, step_spans, step_own, step_simple, below_grows, below_front, below_short, below_same, below_most, below_inside}
use Rattle.sh_reads.proofs.SpotCounts.{count_no_parts, count_parts, count_plain, count_escaped, count_single, count_joined, count_tilde, count_double, count_expansion, count_arithmetic, count_substitution, count_value, count_length, count_use, count_remove, count_constant, count_name, count_expanded, count_parenthesis, count_signed, count_chain, count_choice, count_assigned, count_no_operands, count_operands, count_no_words, count_words, count_every, count_listed, count_file, count_here, count_no_redirects, count_redirects, count_no_elements, count_assignment, count_operand, count_redirection, count_simple, count_group, count_subshell, count_conditional, count_loop, count_for, count_case, count_define, count_no_branches, count_branches, count_no_else, count_else, count_no_clauses, count_clauses, count_no_commands, count_commands, count_command, count_pipeline, count_no_links, count_links, count_list, count_no_items, count_items}

-- What reads no body

redirect_keeps : {limit : ℕ} {b : List ℕ} {body : ℕ → Document} {s u : State} {y : Redirect} → ReadsRedirect limit b body s u y → u.bodies ≡ s.bodies
redirect_keeps (r.file h d k w) = refl
redirect_keeps (r.here_document h t k w d) = refl

redirects_keep : {limit : ℕ} {b : List ℕ} {body : ℕ → Document} {s u : State} {ys : List Redirect} → ReadsRedirects limit b body s u ys → u.bodies ≡ s.bodies
redirects_keep (r.no_redirect h) = refl
redirects_keep (r.more_redirects h i j) = redirects_keep j ∙ redirect_keeps i

elements_keep : {limit : ℕ} {b : List ℕ} {body : ℕ → Document} {g : Stage} {s u : State} {es : List Element} → ReadsElements limit b body g s u es → u.bodies ≡ s.bodies
elements_keep (r.no_element h) = refl
elements_keep (r.assigned_element h w es) = elements_keep es
elements_keep (r.word_element h w es) = elements_keep es
elements_keep (r.redirect_element h i es) = elements_keep es ∙ redirect_keeps i

words_keep : {limit : ℕ} {b : List ℕ} {s u : State} {ws : List Word} → ReadsWords limit b s u ws → u.bodies ≡ s.bodies
words_keep (r.no_word h) = refl
words_keep (r.more_words h w ws) = words_keep ws

patterns_keep : {limit : ℕ} {b : List ℕ} {s u : State} {ws : List Word} → ReadsPatterns limit b s u ws → u.bodies ≡ s.bodies
patterns_keep (r.last_pattern h w k) = refl
patterns_keep (r.more_patterns h w k ws) = patterns_keep ws

module _ (whole : List ℕ) (q : Place) where
  -- Here-documents

  -- how often the spot occurs in a body
  abbrev in_body : Document → ℕ
  in_body d = hits q (word_spots (parts_from whole d.text.parts))

  abbrev in_bodies : List Document → ℕ
  in_bodies = documents.in_bodies in_body

  abbrev of_operators : (ℕ → Document) → ℕ → ℕ
  of_operators = documents.of_operators in_body

  -- what a reading from s to u passes
  abbrev Passes : List ℕ → Spot → Spot → ℕ → Type 0
  Passes b s u h = Spans q (length b) s.at u.at h 0 0

  abbrev Runs : List ℕ → (ℕ → Document) → State → State → ℕ → Type 0
  Runs b body s u h = Spans q (length b) s.spot.at u.spot.at h (of_operators body (document_count s)) (of_operators body (document_count u))

  abbrev Goes : List ℕ → (ℕ → Document) → State → State → ℕ → Type 0
  Goes b body s u h =
      Step q (length b) s.spot.at u.spot.at h (in_bodies s.bodies) (of_operators body (document_count s)) (in_bodies u.bodies) (of_operators body (document_count u))

  -- words go on among any operators
  among : {long i j h : ℕ} (c : ℕ) → Spans q long i j h 0 0 → Spans q long i j h c c
  among c s = record { moves = s.moves; bound = λ m k. let b = s.bound m k in omega arith }

  either_goes : (b : List ℕ) (body : ℕ → Document) (t : Bool) (r s u : State) → Goes b body r s 0 → Goes b body r u 0 → Goes b body r (if t then s else u) 0
  either_goes b body true r s u h k = h
  either_goes b body false r s u h k = k

  -- to the token at or after i
  goes_next : (b : List ℕ) (body : ℕ → Document) (i : ℕ) (s : State) → s.spot.at ≤ i → Goes b body s (next b i s) 0
  goes_next b body i s h = step_none q (le_trans h (blanks_move s.spot.joins b i))

  goes_parted : (b : List ℕ) (body : ℕ → Document) (s : State) → Goes b body s (parted b s) 0
  goes_parted b body s = either_goes b body (is_newline_lead (lead_here b s)) s s (skip b 1 s) (step_none q (le_refl _)) (goes_next b body (s.spot.at + 1) s (omega arith))

  goes_unopened : (b : List ℕ) (body : ℕ → Document) (s : State) → Goes b body s (unopened b s) 0
  goes_unopened b body s = either_goes b body (is_open (lead_of b (Named false) s)) s (skip b 1 s) s (goes_next b body (s.spot.at + 1) s (omega arith)) (step_none q (le_refl _))

  -- the sign is none of a part
  stays : Sign → Bool
  stays sign.Stop = true
  stays sign.Tabs = true
  stays g = false

  takes_on : (g : Sign) (n : ℕ) → takes_none g n ≡ false → stays g ≡ false
  unfolding stays
  takes_on sign.Stop n h = absurd (true≢false h)
  takes_on sign.Tabs n h = absurd (true≢false h)
  takes_on g n h = refl

  word_on : (b : List ℕ) (g : Stage) (i : ℕ) (s : Spot) → s.at ≡ i → lead_at b g i ≡ lead.Word → IsSettled b s → stays (sign_at b (in_stage b g i) 0 s) ≡ false
  unfolding token
  word_on b g i s at is here =
      subst (λ j. stays (sign_at b (in_stage b g i) 0 (to j s)) ≡ false) (sym at)
      (takes_on _ _ (word_takes b g i is (subst (λ j. gap_length (drop j b) ≡ 0) at here)).1)

  stop_stays : (g : Sign) → g ≡ sign.Stop → stays g ≡ false → ⊥
  unfolding stays
  stop_stays g e h = true≢false (sym (ap stays e) ∙ h)

  tabs_stays : (g : Sign) → g ≡ sign.Tabs → stays g ≡ false → ⊥
  unfolding stays
  tabs_stays g e h = true≢false (sym (ap stays e) ∙ h)

  chain_counts : (e : Expr) (es : List (Binary × Expr))
      → hits q (expression_spots (expression_of whole (tree.chain_of e es))) ≡ hits q (expression_spots (expression_of whole e)) + hits q (operands_spots (operands_from whole es))
  chain_counts e [] = rw (operands_from-empty whole, count_no_operands q) (omega arith)
  chain_counts e (x ∷ xs) = rw (expression_of-Chain whole e (x ∷ xs)) (count_chain q _ _)

  no_simple : (l : Lead) → begins_simple l ≡ false → begins_simple l ≡ true → ⊥
  no_simple l h k = true≢false (sym k ∙ h)

  -- a body and the line that ends it
  document_goes : (b : List ℕ) (k i j n h c ks ku : ℕ) → i ≤ k → k ≤ n → ku ≡ ks + h → Spans q (length (take k b)) i j h 0 0 → Step q (length b) i n 0 ks c ku c
  document_goes b k i j n h c ks ku less more bodies inner =
      let long : length (take k b) ≡ min k (length b) = length-take k b in
      let bound : h + below q (min k (length b)) i ≤ below q (min k (length b)) (max i j) =
      subst (λ m. h + below q m i ≤ below q m (max i j)) long (let found = inner.bound i (omega arith) in omega arith) in
      let same = below_same q (length b) k i less in
      let front = below_front q (length b) k (max i j) n more in
      record { moves = le_trans less more; bound = omega arith }

  -- commands in the text of their substitution
  commands_pass : (b : List ℕ) (style : CommandStyle) (e j n h : ℕ) → e ≤ j → h + below q (length (commands_text style b e)) j ≤ below q (length (commands_text style b e)) n
      → h + below q (length b) e ≤ below q (length b) n
  unfolding commands_text
  commands_pass b Paren e j n h moves found = let grows = below_grows q (length b) e j moves in omega arith
  commands_pass b Backquote e j n h moves found =
      let k : ℕ = backquote_end b e in
      let long : length (take k b) ≡ min k (length b) = length-take k b in
      let bound : h + below q (min k (length b)) j ≤ below q (min k (length b)) n = subst (λ m. h + below q m j ≤ below q m n) long found in
      let same = below_same q (length b) k e (omega arith) in
      let grows = below_grows q (min k (length b)) e j moves in
      let short = below_short q (length b) k n in
      omega arith

  step_ops : {long i j h ks cs ku c c' : ℕ} → c' ≡ c → Step q long i j h ks cs ku c → Step q long i j h ks cs ku c'
  step_ops e s = record { moves = s.moves; bound = (let b = s.bound in omega arith) }

  step_kept : {long i j h ks cs ku ku' cu : ℕ} → ku' ≡ ku → Step q long i j h ks cs ku cu → Step q long i j h ks cs ku' cu
  step_kept e s = record { moves = s.moves; bound = (let b = s.bound in omega arith) }

  -- here_document: its body is that of the next operator
  operator_runs : (body : ℕ → Document) (long i j n m : ℕ) → i ≤ j → m ≡ n + 1 → Spans q long i j (in_body (body n)) (of_operators body n) (of_operators body m)
  operator_runs body long i j n m moves more = record {
    moves = moves;
    bound = λ k l. let push = documents.operators_push in_body body n m more in let grows = below_grows q long k (max k j) (omega arith) in omega arith;
  }

  mutual
    -- Words

    parts_pass : {limit : ℕ} {b : List ℕ} {x : Context} {prior : ℕ} {s u : Spot} {ps : List Part} → ReadsParts limit b x prior s u ps
        → Passes b s u (hits q (word_spots (parts_from whole ps))) × (stays (sign_at b x prior s) ≡ false → s.at < u.at)
    parts_pass {b = b} (r.stop {x = x} {prior = prior} {s = s} h) = (
      rw (parts_from-empty whole) (spans_is q (count_no_parts q) (spans_none q (token_moves b x prior s.at))),
      (λ k. absurd (stop_stays _ h k)),
    )
    parts_pass {b = b} (r.tabs {x = x} {prior = prior} {s = s} h i) =
        let rest = parts_pass i in
        (spans_wider q (token_moves b x prior s.at) (le_refl _) rest.0, (λ k. absurd (tabs_stays _ h k)))
    parts_pass {b = b} (r.more {x = x} {prior = prior} {s = s} {p = y} {ps = ps} h i j) =
        let takes = token_takes b x prior s.at (subst (λ g. is_part g ≡ true) (sym h) (part_begins i)) in
        let piece = part_pass takes.0 takes.1 i in
        let rest = parts_pass j in (
          rw (parts_from-more whole y ps) (spans_is q (count_parts q _ _) (spans_then q piece.0 rest.0)),
          (λ k. let first = takes.0 in let second = piece.1 in let third = rest.0.moves in omega arith),
        )

    part_pass : {limit : ℕ} {b : List ℕ} {x : Context} {g : Sign} {s u : Spot} {e : ℕ} {p : Part} → s.at < e → s.at < length b → ReadsPart limit b x g s e u p
        → Passes b s u (hits q (part_spots (part_of whole p))) × (e ≤ u.at)
    part_pass more inside (r.plain {s = s} {e = e}) = (
      rw (part_of-Plain whole (span s.at e)) (spans_is q (count_plain q _) (spans_none q (omega arith))),
      le_refl _,
    )
    part_pass more inside (r.escaped {s = s} {e = e}) = (rw (part_of-Escaped whole (span s.at e)) (spans_is q (count_escaped q _) (spans_none q (omega arith))), le_refl _)
    part_pass more inside (r.joined {s = s} {e = e}) = (rw (part_of-Joined whole (span s.at e)) (spans_is q (count_joined q) (spans_none q (omega arith))), le_refl _)
    part_pass more inside (r.single_quoted {s = s} {e = e} {style = style}) = (
      rw (part_of-Single whole style (span s.at e)) (spans_is q (count_single q _ _) (spans_none q (omega arith))),
      le_refl _,
    )
    part_pass more inside (r.tilde {s = s} {e = e}) = (rw (part_of-Tilde whole (span s.at e)) (spans_is q (count_tilde q _ _) (spans_own q inside more)), le_refl _)
    part_pass more inside (r.double_quoted {s = s} {u = u} {ps = ps} i) =
        let rest = parts_pass i in
        (rw (part_of-Double whole (span s.at u.at) ps) (spans_is q (count_double q _) (spans_wider q (omega arith) (le_refl _) rest.0)), rest.0.moves)
    part_pass more inside (r.value {s = s} {e = e} {p = y}) = (
      rw (part_of-Param whole (record { span = span s.at e; subject = y; operator = operator.Value }), operator_of-Value whole)
          (spans_is q (count_expansion q _ _ _) (spans_then q (spans_own q inside more) (spans_is q (count_value q) (spans_none q (le_refl _))))),
      le_refl _,
    )
    part_pass more inside (r.length_value {s = s} {e = e} {p = y}) = (
      rw (part_of-Param whole (record { span = span s.at e; subject = y; operator = operator.Length }), operator_of-Length whole)
          (spans_is q (count_expansion q _ _ _) (spans_then q (spans_own q inside more) (spans_is q (count_length q) (spans_none q (le_refl _))))),
      le_refl _,
    )
    part_pass more inside (r.use_word {s = s} {u = u} {e = e} {p = y} {a = a} {colon = colon} {ps = ps} d i) =
        let rest = parts_pass i in (
          rw (
            part_of-Param whole (record { span = span s.at u.at; subject = y; operator = operator.Use a colon (tree.word e (u.at - 1) ps) }),
            operator_of-Use whole a colon (tree.word e (u.at - 1) ps),
          )
              (spans_is q (count_expansion q _ _ _) (spans_then q (spans_own q inside more) (spans_is q (count_use q a colon _) rest.0))),
          rest.0.moves,
        )
    part_pass more inside (r.removal {s = s} {u = u} {e = e} {p = y} {r = removal} {ps = ps} d i) =
        let rest = parts_pass i in (
          rw (
            part_of-Param whole (record { span = span s.at u.at; subject = y; operator = operator.Remove removal (tree.word e (u.at - 1) ps) }),
            operator_of-Remove whole removal (tree.word e (u.at - 1) ps),
          )
              (spans_is q (count_expansion q _ _ _) (spans_then q (spans_own q inside more) (spans_is q (count_remove q removal _) rest.0))),
          rest.0.moves,
        )
    part_pass {b = b} more inside (r.arithmetic {s = s} {u = u} {a = a} d i h c) =
        let rest = expression_pass i in
        let moved = figure_moves b u in
        let first = moved.0 in
        let second = moved.1 in
        let third = rest.moves in (
          rw (part_of-Arith whole (span s.at ((over b u).at + 1)) a) (spans_is q (count_arithmetic q _ _) (spans_wider q (le_refl _) (omega arith) (spans_then q (spans_own q inside more) rest))),
          omega arith,
        )
    part_pass {b = b} more inside (r.substitution {s = s} {u = u} {e = e} {style = style} {t = list} d k h c) =
        let rest = script_pass (blanks_gap s.joins (commands_text style b e) e) h in
        let moved = blanks_move s.joins (commands_text style b e) e in
        let moves = rest.0 in (
          rw (part_of-Command whole style (span s.at (u.at + 1)) list)
              (spans_is q (count_substitution q _ _)
              (spans_inner q (hits q (items_spots (script_of whole list))) inside more (omega arith) (commands_pass b style e _ u.at _ moved rest.1))),
          omega arith,
        )

    -- Arithmetic

    expression_pass : {limit : ℕ} {b : List ℕ} {x : Context} {s u : Spot} {e : Expr} → ReadsExpression limit b x s u e → Passes b s u (hits q (expression_spots (expression_of whole e)))
    expression_pass {b = b} (r.assignment {s = s} {o = o} {e = e} n a d i) =
        let takes = figure_takes b s n in
        let here = figure_moves b s in
        let there = figure_moves b (over b s) in
        let own = spans_own q {c = 0} takes.1 takes.0 in
        let before = spans_wider q here.0 (le_trans there.0 there.1) own in
        rw (expression_of-Assign whole (figure_span b s) o e) (spans_is q (count_assigned q _ _ _ _) (spans_then q before (expression_pass i)))
    expression_pass (r.no_assignment h i) = conditional_pass i

    conditional_pass : {limit : ℕ} {b : List ℕ} {x : Context} {s u : Spot} {e : Expr} → ReadsConditional limit b x s u e → Passes b s u (hits q (expression_spots (expression_of whole e)))
    conditional_pass (r.one_level i h) = level_pass i
    conditional_pass {b = b} (r.choice {u = u} {v = v} {c = c} {y = y} {n = n} i h d j k l) =
        let mark = figure_moves b u in
        let colon = figure_moves b v in
        let first = spans_wider q (le_refl _) (le_trans mark.0 mark.1) (level_pass i) in
        let second = spans_wider q (le_refl _) (le_trans colon.0 colon.1) (expression_pass j) in
        rw (expression_of-Choice whole c y n) (spans_is q (count_choice q _ _ _) (spans_then q (spans_then q first second) (conditional_pass l)))

    level_pass : {limit : ℕ} {b : List ℕ} {x : Context} {l : ℕ} {s u : Spot} {e : Expr} → ReadsLevel limit b x l s u e → Passes b s u (hits q (expression_spots (expression_of whole e)))
    level_pass (r.chain {e = e} {es = es} h i j) = spans_is q (chain_counts e es) (spans_then q (level_pass i) (operands_pass j))
    level_pass (r.operand h k i) = unary_pass k i

    operands_pass : {limit : ℕ} {b : List ℕ} {x : Context} {l : ℕ} {s u : Spot} {es : List (Binary × Expr)} → ReadsOperands limit b x l s u es
        → Passes b s u (hits q (operands_spots (operands_from whole es)))
    operands_pass (r.no_operand h) = rw (operands_from-empty whole) (spans_is q (count_no_operands q) (spans_none q (le_refl _)))
    operands_pass {b = b} (r.more_operands {s = s} {o = o} {e = e} {es = es} h i j) =
        let moved = figure_moves b s in
        let first = spans_wider q (le_trans moved.0 moved.1) (le_refl _) (level_pass i) in
        rw (operands_from-more whole (o, e) es) (spans_is q (count_operands q o _ _) (spans_then q first (operands_pass j)))

    unary_pass : {limit : ℕ} {b : List ℕ} {x : Context} {g : Figure} {s u : Spot} {e : Expr} → figure_at b s ≡ g → ReadsUnary limit b x g s u e
        → Passes b s u (hits q (expression_spots (expression_of whole e)))
    unary_pass {b = b} is (r.constant {s = s}) =
        let moved = figure_moves b s in
        rw (expression_of-Constant whole (figure_span b s)) (spans_is q (count_constant q _) (spans_none q (le_trans moved.0 moved.1)))
    unary_pass {b = b} is (r.variable {s = s}) =
        let takes = figure_takes b s is in
        let moved = figure_moves b s in
        rw (expression_of-Variable whole (figure_span b s)) (spans_is q (count_name q _ _) (spans_wider q moved.0 (le_refl _) (spans_own q takes.1 takes.0)))
    unary_pass {b = b} is (r.signed {s = s} {o = o} {e = e} h d i) =
        let moved = figure_moves b s in
        rw (expression_of-Unary whole o e) (spans_is q (count_signed q o _) (spans_wider q (le_trans moved.0 moved.1) (le_refl _) (level_pass i)))
    unary_pass {b = b} is (r.parenthesis {s = s} {u = u} {e = e} d i h) =
        let moved = figure_moves b s in
        let close = figure_moves b u in
        rw (expression_of-Parenthesis whole e) (spans_is q (count_parenthesis q _) (spans_wider q (le_trans moved.0 moved.1) (le_trans close.0 close.1) (expression_pass i)))
    unary_pass {b = b} is (r.expansion {x = x} {s = s} {p = y} h k i) =
        let at = (lexeme b s.at).start in
        let takes = token_takes b x 0 at (subst (λ g. is_part g ≡ true) (sym h) (part_begins i)) in
        let piece = part_pass takes.0 takes.1 i in
        rw (expression_of-Expansion whole y) (spans_is q (count_expanded q _) (spans_wider q (figure_moves b s).0 (le_refl _) piece.0))

    word_pass : {limit : ℕ} {b : List ℕ} {x : Context} {s u : Spot} {w : Word} → ReadsWord limit b x s u w
        → Passes b s u (hits q (word_spots (parts_from whole w.parts))) × (stays (sign_at b x 0 s) ≡ false → s.at < u.at)
    word_pass (r.whole_word i l k) = parts_pass i

    -- Redirections and here-documents

    redirect_runs : {limit : ℕ} {b : List ℕ} {body : ℕ → Document} {s u : State} {y : Redirect} → ReadsRedirect limit b body s u y
        → Runs b body s u (hits q (redirect_spots (target_of whole y.target))) × (s.spot.at < u.spot.at)
    redirect_runs {b = b} {body = body} (r.file {s = s} {u = u} {r = o} {d = d} {w = w} h e k i) =
        let inside = (word_pass i).0 in
        let operator = redirection_moves b s.spot.at o h in
        let before = blanks_move s.spot.joins b o.end in
        let behind = blanks_move s.spot.joins b u.at in
        let moves = inside.moves in (
          rw (target_of-File whole d w)
              (spans_is q (count_file q _) (among (of_operators body (document_count s)) (spans_wider q (omega arith) behind inside))),
          omega arith,
        )
    redirect_runs {b = b} {body = body} (r.here_document {s = s} {u = u} {r = o} {strip = strip} {w = w} h t k i d) =
        let inside = (word_pass i).0 in
        let operator = redirection_moves b s.spot.at o h in
        let before = blanks_move s.spot.joins b o.end in
        let behind = blanks_move s.spot.joins b u.at in
        let moves = inside.moves in
        let mark : Mark = record { strip = strip; quoted = is_quoted_word w; delimiter = delimiter_of b w; depth = s.spot.depth } in (
          rw (target_of-Here whole (tree.here_doc strip w (body (document_count s)).text (body (document_count s)).end))
              (spans_is q (count_here q _)
              (operator_runs body (length b) s.spot.at (blanks s.spot.joins b u.at) (document_count s) (length s.bodies + length (s.pending ++ mark ∷ [])) (omega arith)
              (omega (arith, length-append s.pending (mark ∷ []))))),
          omega arith,
        )

    redirects_run : {limit : ℕ} {b : List ℕ} {body : ℕ → Document} {s u : State} {ys : List Redirect} → ReadsRedirects limit b body s u ys
        → Runs b body s u (hits q (redirects_spots (redirects_from whole ys)))
    redirects_run (r.no_redirect h) = rw (redirects_from-empty whole) (spans_is q (count_no_redirects q) (spans_none q (le_refl _)))
    redirects_run (r.more_redirects {r = y} {rs = ys} h i j) =
        rw (redirects_from-more whole y ys) (spans_is q (count_redirects q _ _) (spans_then q (redirect_runs i).0 (redirects_run j)))

    documents_go : {limit : ℕ} {b : List ℕ} {ms : List Mark} {s u : State} → ReadsDocuments limit b ms s u → (c : ℕ)
        → Step q (length b) s.spot.at u.spot.at 0 (in_bodies s.bodies) c (in_bodies u.bodies) c × (length u.bodies ≡ length s.bodies + length ms) × (u.pending ≡ s.pending)
    documents_go r.no_body c = (step_none q (le_refl _), omega arith, refl)
    documents_go {b = b} (r.more_bodies {s = s} {l = l} {ps = ps} h a k i e j) c =
        let line = end_line_moves _ b s.spot.at l h in
        let more = line_behind b l.end in
        let d : Document = record { text = tree.word s.spot.at l.start ps; end = l } in
        let first = document_goes b l.start s.spot.at _ (behind_line b l.end) _ c (in_bodies s.bodies) _ line.0 (le_trans line.1 more) (documents.bodies_push in_body s.bodies d) (parts_pass i).0 in
        let rest = documents_go j c in
        let pushed = length-append s.bodies (d ∷ []) in
        let count = rest.1 in
        (step_is q (omega arith) (step_then q first (le_refl _) rest.0), omega arith, rest.2)

    breaks_go : {limit : ℕ} {b : List ℕ} {s u : State} → (body : ℕ → Document) → ReadsBreaks limit b s u → Goes b body s u 0
    breaks_go body (r.no_break h) = step_none q (le_refl _)
    breaks_go {b = b} body (r.more_breaks {s = s} {u = u} h e i j) =
        let documents = documents_go i (of_operators body (document_count s)) in
        let count = documents.1 in
        let none = ap length documents.2 in
        let same : of_operators body (document_count u) ≡ of_operators body (document_count s) = ap (of_operators body) (omega arith) in
        let first = step_wider q {i' = s.spot.at} (omega arith) (le_refl _) (step_ops same documents.0) in
        let rest = step_then q first (blanks_move u.spot.joins b u.spot.at) (breaks_go body j) in
        step_is q (omega arith) rest

    -- Commands

    elements_run : {limit : ℕ} {b : List ℕ} {body : ℕ → Document} {g : Stage} {s u : State} {es : List Element} → IsSettled b s.spot → ReadsElements limit b body g s u es
        → Runs b body s u (hits q (elements_spots (elements_from whole es))) × (begins_simple (lead_of b g s) ≡ true → s.spot.at < u.spot.at)
    elements_run here (r.no_element h) = (
      rw (elements_from-empty whole) (spans_is q (count_no_elements q) (spans_none q (le_refl _))),
      (λ k. absurd (no_simple _ h k)),
    )
    elements_run {b = b} {body = body} here (r.assigned_element {s = s} {u = u} {w = w} {es = es} h i j) =
        let inside = (word_pass i).0 in
        let rest = (elements_run (settled_past b u s) j).0 in
        let name = name_moves b s.spot.at in
        let behind = blanks_move s.spot.joins b u.at in
        let moves = inside.moves in
        let on = rest.moves in (
          rw (elements_from-Assignment whole (span s.spot.at (name_end b s.spot.at)) w es)
              (spans_is q (count_assignment q _ _ _) (spans_then q (among (of_operators body (document_count s)) (spans_wider q (omega arith) behind inside)) rest)),
          (λ k. omega arith),
        )
    elements_run {b = b} {body = body} here (r.word_element {g = g} {s = s} {u = u} {w = w} {es = es} h i j) =
        let both = word_pass i in
        let inside = both.0 in
        let strict = both.1 (word_on b g s.spot.at (facing s) refl h here) in
        let rest = (elements_run (settled_past b u s) j).0 in
        let behind = blanks_move s.spot.joins b u.at in
        let on = rest.moves in (
          rw (elements_from-Word whole w es)
              (spans_is q (count_operand q _ _) (spans_then q (among (of_operators body (document_count s)) (spans_wider q (le_refl _) behind inside)) rest)),
          (λ k. omega arith),
        )
    elements_run here (r.redirect_element {r = y} {es = es} h i j) =
        let first = redirect_runs i in
        let rest = (elements_run (redirect_settled i) j).0 in
        let strict = first.1 in
        let on = rest.moves in
        (rw (elements_from-Redirection whole y es) (spans_is q (count_redirection q _ _) (spans_then q first.0 rest)), (λ k. omega arith))

    command_goes : {limit : ℕ} {b : List ℕ} {body : ℕ → Document} {s u : State} {c : Command} → IsSettled b s.spot → ReadsCommand limit b body s u c
        → Goes b body s u (hits q (command_spots (command_of whole c)))
    command_goes {b = b} here (r.simple_command {s = s} {es = es} h i) =
        let inside = elements_run here i in
        let first = step_simple q {ks = in_bodies s.bodies} (lead_inside b First s.spot.at (simple_inside _ h)) (inside.1 h) inside.0 in
        let command = count_command q (s.spot.count + 1) s.spot.at (p.Simple (elements_from whole es)) p.no_redirects in
        let simple = count_simple q (elements_from whole es) in
        let none = count_no_redirects q in
        rw (command_made whole (s.spot.count + 1) s.spot.at (kind.Simple es) [], kind_of-Simple whole es, redirects_from-empty whole)
        (step_is q (omega arith) (step_kept (ap in_bodies (elements_keep i)) first))
    command_goes {b = b} here (r.compound_command {s = s} {u = u} {l = l} {k = k} {rs = ys} is i j) =
        let behind = step_kept (ap in_bodies (redirects_keep j)) (step_spans q {ks = in_bodies u.bodies} (redirects_run j)) in
        let inside = step_then q (compound_goes i) (le_refl _) behind in
        let end : is_end (lead_here b s) ≡ false = ap is_end is ∙ compound_inside i in
        let own = step_own q (lead_inside b First s.spot.at end) (omega arith) inside in
        rw (command_made whole (s.spot.count + 1) s.spot.at k ys) (step_is q (count_command q _ _ _ _) own)
    command_goes {b = b} {body = body} here (r.definition {s = s} {c = c} h o e k i j) =
        let opened = skip b 1 (behind_name b (begun s)) in
        let name = span s.spot.at (name_end b s.spot.at) in
        let first = name_moves b s.spot.at in
        let second = blanks_move s.spot.joins b (name_end b s.spot.at) in
        let third = blanks_move s.spot.joins b ((behind_name b (begun s)).spot.at + 1) in
        let fourth = blanks_move s.spot.joins b (opened.spot.at + 1) in
        let rest = step_then q (breaks_go body k) (le_refl _) (command_goes (breaks_settled (settled_next b (opened.spot.at + 1) opened) k) j) in
        let end : is_end (lead_here b s) ≡ false = ap is_end h in
        let own = step_own q (lead_inside b First s.spot.at end) (omega arith) rest in
        let command = count_command q (s.spot.count + 1) s.spot.at (p.Define (text_of whole name) (command_of whole c)) p.no_redirects in
        let define = count_define q (text_of whole name) (command_of whole c) in
        let none = count_no_redirects q in
        rw (command_made whole (s.spot.count + 1) s.spot.at (kind.Define name c) [], kind_of-Define whole name c, redirects_from-empty whole) (step_is q (omega arith) own)

    -- after the first byte of the command
    compound_goes : {limit : ℕ} {b : List ℕ} {body : ℕ → Document} {l : Lead} {s u : State} {k : Kind} → ReadsCompound limit b body l s u k
        → Step q (length b) (s.spot.at + 1) u.spot.at (hits q (kind_spots (kind_of whole k))) (in_bodies s.bodies) (of_operators body (document_count s)) (in_bodies u.bodies) (of_operators body (document_count u))
    compound_goes {b = b} (r.group {s = s} {u = u} {t = t} d i h) =
        let before = blanks_move s.spot.joins b (s.spot.at + 1) in
        let behind = blanks_move u.spot.joins b (u.spot.at + 1) in
        rw (kind_of-Group whole t) (step_is q (count_group q _) (step_wider q before (omega arith) (list_goes (settled_next b (s.spot.at + 1) s) i)))
    compound_goes {b = b} (r.subshell {s = s} {u = u} {t = t} d i h) =
        let before = blanks_move s.spot.joins b (s.spot.at + 1) in
        let behind = blanks_move u.spot.joins b (u.spot.at + 1) in
        rw (kind_of-Subshell whole t) (step_is q (count_subshell q _) (step_wider q before (omega arith) (list_goes (settled_next b (s.spot.at + 1) s) i)))
    compound_goes {b = b} (r.cond {s = s} {bs = bs} {o = o} d i) =
        let before = blanks_move s.spot.joins b (s.spot.at + 2) in
        rw (kind_of-Cond whole bs o) (step_is q (count_conditional q _ _) (step_wider q (omega arith) (le_refl _) (branches_go (settled_next b (s.spot.at + 2) s) i)))
    compound_goes {b = b} (r.while_loop {s = s} {c = c} {t = t} d i j) =
        let before = blanks_move s.spot.joins b (s.spot.at + 5) in
        let settled = settled_next b (s.spot.at + 5) s in
        rw (kind_of-Loop whole loop.While c t)
        (step_is q (count_loop q _ _ _) (step_wider q (omega arith) (le_refl _) (step_then q (list_goes settled i) (le_refl _) (do_goes (list_settled settled i) j))))
    compound_goes {b = b} (r.until_loop {s = s} {c = c} {t = t} d i j) =
        let before = blanks_move s.spot.joins b (s.spot.at + 5) in
        let settled = settled_next b (s.spot.at + 5) s in
        rw (kind_of-Loop whole loop.Until c t)
        (step_is q (count_loop q _ _ _) (step_wider q (omega arith) (le_refl _) (step_then q (list_goes settled i) (le_refl _) (do_goes (list_settled settled i) j))))
    compound_goes {b = b} {body = body} (r.for_loop {s = s} {o = o} {t = t} d n i j) =
        let opened = skip b 3 s in
        let settled = settled_next b (name_end b opened.spot.at) opened in
        let name = span opened.spot.at (name_end b opened.spot.at) in
        let first = blanks_move s.spot.joins b (s.spot.at + 3) in
        let second = name_moves b opened.spot.at in
        let third = blanks_move s.spot.joins b (name_end b opened.spot.at) in
        rw (kind_of-For whole name o t)
        (step_is q (count_for q _ _ _) (step_wider q (omega arith) (le_refl _) (step_then q (for_words_go body settled i) (le_refl _) (do_goes (for_words_settled settled i) j))))
    compound_goes {b = b} {body = body} (r.case_of {s = s} {p = y} {q = z} {u = u} {w = w} {cs = cs} d h i k e j l) =
        let first = blanks_move s.spot.joins b (s.spot.at + 4) in
        let second = blanks_move s.spot.joins b u.at in
        let third = blanks_move y.spot.joins b (y.spot.at + 2) in
        let word = step_spans q {ks = in_bodies s.bodies} (among (of_operators body (document_count s)) (word_pass i).0) in
        let one = step_then q word second (breaks_go body k) in
        let two = step_then q one (omega arith) (breaks_go body j) in
        let three = step_then q two (le_refl _) (clauses_go (breaks_settled (settled_next b (y.spot.at + 2) y) j) l) in
        rw (kind_of-Branches whole w cs) (step_is q (let n = count_case q (parts_from whole w.parts) (clauses_from whole cs) in omega arith) (step_wider q (omega arith) (le_refl _) three))

    do_goes : {limit : ℕ} {b : List ℕ} {body : ℕ → Document} {s u : State} {t : Script} → IsSettled b s.spot → ReadsDo limit b body s u t
        → Goes b body s u (hits q (items_spots (script_of whole t)))
    do_goes {b = b} here (r.do_group {s = s} {u = u} h i k) =
        let before = blanks_move s.spot.joins b (s.spot.at + 2) in
        let behind = blanks_move u.spot.joins b (u.spot.at + 4) in
        step_wider q (omega arith) (omega arith) (list_goes (settled_next b (s.spot.at + 2) s) i)

    branches_go : {limit : ℕ} {b : List ℕ} {body : ℕ → Document} {s u : State} {bs : List Branch} {o : Option Script} → IsSettled b s.spot → ReadsBranches limit b body s u bs o
        → Goes b body s u (hits q (branches_spots (branches_from whole bs)) + hits q (otherwise_spots (otherwise_from whole o)))
    branches_go {b = b} here (r.branch {u = u} {v = v} {c = c} {t = t} {bs = bs} i h j k) =
        let settled = settled_next b (u.spot.at + 4) u in
        let before = blanks_move u.spot.joins b (u.spot.at + 4) in
        let both = step_then q (list_goes here i) (omega arith) (list_goes settled j) in
        let rest = step_then q both (le_refl _) (else_go (list_settled settled j) k) in
        let counted = count_branches q (script_of whole c) (script_of whole t) (branches_from whole bs) in
        rw (branches_made whole c t bs) (step_is q (omega arith) rest)

    else_go : {limit : ℕ} {b : List ℕ} {body : ℕ → Document} {s u : State} {bs : List Branch} {o : Option Script} → IsSettled b s.spot → ReadsElse limit b body s u bs o
        → Goes b body s u (hits q (branches_spots (branches_from whole bs)) + hits q (otherwise_spots (otherwise_from whole o)))
    else_go {b = b} here (r.fi {s = s} h) =
        let before = blanks_move s.spot.joins b (s.spot.at + 2) in
        let one = count_no_branches q in
        let two = count_no_else q in
        rw (branches_from-empty whole, otherwise_from-None whole) (step_is q (omega arith) (step_none q (omega arith)))
    else_go {b = b} here (r.otherwise {s = s} {u = u} {t = t} h i k) =
        let before = blanks_move s.spot.joins b (s.spot.at + 4) in
        let behind = blanks_move u.spot.joins b (u.spot.at + 2) in
        let one = count_no_branches q in
        let two = count_else q (script_of whole t) in
        let inside = step_wider q {i' = s.spot.at} {j' = blanks u.spot.joins b (u.spot.at + 2)} (omega arith) (omega arith) (list_goes (settled_next b (s.spot.at + 4) s) i) in
        rw (branches_from-empty whole, otherwise_from-Some whole t) (step_is q (omega arith) inside)
    else_go {b = b} here (r.elif {s = s} h i) =
        let before = blanks_move s.spot.joins b (s.spot.at + 4) in
        step_wider q (omega arith) (le_refl _) (branches_go (settled_next b (s.spot.at + 4) s) i)

    for_words_go : {limit : ℕ} {b : List ℕ} {s u : State} {o : Option (List Word)} → (body : ℕ → Document) → IsSettled b s.spot → ReadsForWords limit b s u o
        → Goes b body s u (hits q (for_words_spots (for_words_from whole o)))
    for_words_go {b = b} body here (r.arguments_ended {s = s} h k) =
        let before = blanks_move s.spot.joins b (s.spot.at + 1) in
        rw (for_words_from-None whole) (step_is q (count_every q) (step_wider q (omega arith) (le_refl _) (breaks_go body k)))
    for_words_go body here (r.arguments k h) = rw (for_words_from-None whole) (step_is q (count_every q) (breaks_go body k))
    for_words_go {b = b} body here (r.listed {u = u} {v = v} {ws = ws} k h i j l) =
        let before = blanks_move u.spot.joins b (u.spot.at + 2) in
        let one = step_then q (breaks_go body k) (omega arith) (step_kept (ap in_bodies (words_keep i)) (step_spans q {ks = in_bodies u.bodies} (words_run body i))) in
        let two = step_then q (step_then q one (le_refl _) (goes_parted b body v)) (le_refl _) (breaks_go body l) in
        let listed = count_listed q (words_from whole ws) in
        rw (for_words_from-Some whole ws) (step_is q (omega arith) two)

    words_run : {limit : ℕ} {b : List ℕ} {s u : State} {ws : List Word} → (body : ℕ → Document) → ReadsWords limit b s u ws → Runs b body s u (hits q (words_spots (words_from whole ws)))
    words_run body (r.no_word h) = rw (words_from-empty whole) (spans_is q (count_no_words q) (spans_none q (le_refl _)))
    words_run {b = b} body (r.more_words {s = s} {u = u} {w = w} {ws = ws} h i j) =
        let behind = blanks_move s.spot.joins b u.at in
        let first = among (of_operators body (document_count s)) (spans_wider q (le_refl _) behind (word_pass i).0) in
        rw (words_from-more whole w ws) (spans_is q (count_words q _ _) (spans_then q first (words_run body j)))

    clauses_go : {limit : ℕ} {b : List ℕ} {body : ℕ → Document} {s u : State} {cs : List Clause} → IsSettled b s.spot → ReadsClauses limit b body s u cs
        → Goes b body s u (hits q (clauses_spots (clauses_from whole cs)))
    clauses_go {b = b} here (r.esac {s = s} h) =
        let before = blanks_move s.spot.joins b (s.spot.at + 4) in
        rw (clauses_from-empty whole) (step_is q (count_no_clauses q) (step_none q (omega arith)))
    clauses_go {b = b} {body = body} here (r.last_clause {s = s} {u = u} {v = v} {ws = ws} {t = t} h i j k) =
        let before = blanks_move u.spot.joins b (u.spot.at + 1) in
        let behind = blanks_move v.spot.joins b (v.spot.at + 4) in
        let opened = goes_unopened b body s in
        let one = step_then q opened (le_refl _) (step_kept (ap in_bodies (patterns_keep i)) (step_spans q {ks = in_bodies (unopened b s).bodies} (patterns_run body i))) in
        let two = step_then q one (omega arith) (sequence_goes (settled_next b (u.spot.at + 1) u) j) in
        let three = step_wider q {j' = blanks v.spot.joins b (v.spot.at + 4)} (le_refl _) (omega arith) two in
        let counted = count_clauses q (words_from whole ws) (script_of whole t) Break p.no_clauses in
        let none = count_no_clauses q in
        rw (clauses_made whole ws t Break [], clauses_from-empty whole) (step_is q (omega arith) three)
    clauses_go {b = b} {body = body} here (r.more_clauses {s = s} {u = u} {v = v} {ws = ws} {t = t} {e = e} {cs = cs} h i j k l m) =
        let before = blanks_move u.spot.joins b (u.spot.at + 1) in
        let behind = blanks_move v.spot.joins b (v.spot.at + 2) in
        let opened = goes_unopened b body s in
        let one = step_then q opened (le_refl _) (step_kept (ap in_bodies (patterns_keep i)) (step_spans q {ks = in_bodies (unopened b s).bodies} (patterns_run body i))) in
        let two = step_then q one (omega arith) (sequence_goes (settled_next b (u.spot.at + 1) u) j) in
        let three = step_then q two (omega arith) (breaks_go body l) in
        let four = step_then q three (le_refl _) (clauses_go (breaks_settled (settled_next b (v.spot.at + 2) v) l) m) in
        let counted = count_clauses q (words_from whole ws) (script_of whole t) e (clauses_from whole cs) in
        rw (clauses_made whole ws t e cs) (step_is q (omega arith) four)

    patterns_run : {limit : ℕ} {b : List ℕ} {s u : State} {ws : List Word} → (body : ℕ → Document) → ReadsPatterns limit b s u ws → Runs b body s u (hits q (words_spots (words_from whole ws)))
    patterns_run {b = b} body (r.last_pattern {s = s} {u = u} {w = w} h i k) =
        let behind = blanks_move s.spot.joins b u.at in
        let first = among (of_operators body (document_count s)) (spans_wider q (le_refl _) behind (word_pass i).0) in
        let counted = count_words q (parts_from whole w.parts) p.no_words in
        let none = count_no_words q in
        rw (words_from-more whole w [], words_from-empty whole) (spans_is q (omega arith) first)
    patterns_run {b = b} body (r.more_patterns {s = s} {u = u} {w = w} {ws = ws} h i k j) =
        let behind = blanks_move s.spot.joins b u.at in
        let bar = blanks_move s.spot.joins b (blanks s.spot.joins b u.at + 1) in
        let first = among (of_operators body (document_count s)) (spans_wider q (le_refl _) (le_trans behind (omega arith)) (word_pass i).0) in
        rw (words_from-more whole w ws) (spans_is q (count_words q _ _) (spans_then q first (patterns_run body j)))

    -- Pipelines and lists

    pipeline_goes : {limit : ℕ} {b : List ℕ} {body : ℕ → Document} {s u : State} {p : Pipe} → IsSettled b s.spot → ReadsPipeline limit b body s u p
        → Goes b body s u (hits q (pipeline_spots (pipeline_of whole p)))
    pipeline_goes {b = b} here (r.negated {s = s} {cs = cs} h i) =
        let before = blanks_move s.spot.joins b (s.spot.at + 1) in
        rw (pipe_made whole true cs) (step_is q (count_pipeline q _ _) (step_wider q (omega arith) (le_refl _) (commands_go (settled_next b (s.spot.at + 1) s) i)))
    pipeline_goes here (r.straight {cs = cs} h i) = rw (pipe_made whole false cs) (step_is q (count_pipeline q _ _) (commands_go here i))

    commands_go : {limit : ℕ} {b : List ℕ} {body : ℕ → Document} {s u : State} {cs : List Command} → IsSettled b s.spot → ReadsCommands limit b body s u cs
        → Goes b body s u (hits q (commands_spots (commands_from whole cs)))
    commands_go here (r.last_command {c = c} i h) =
        let counted = count_commands q (command_of whole c) p.no_commands in
        let none = count_no_commands q in
        rw (commands_from-more whole c [], commands_from-empty whole) (step_is q (omega arith) (command_goes here i))
    commands_go {b = b} {body = body} here (r.more_commands {u = u} {c = c} {cs = cs} i h k j) =
        let before = blanks_move u.spot.joins b (u.spot.at + 1) in
        let one = step_then q (command_goes here i) (omega arith) (breaks_go body k) in
        let two = step_then q one (le_refl _) (commands_go (breaks_settled (settled_next b (u.spot.at + 1) u) k) j) in
        let counted = count_commands q (command_of whole c) (commands_from whole cs) in
        rw (commands_from-more whole c cs) (step_is q (omega arith) two)

    and_or_goes : {limit : ℕ} {b : List ℕ} {body : ℕ → Document} {s u : State} {l : AndOr} → IsSettled b s.spot → ReadsAndOr limit b body s u l
        → Goes b body s u (hits q (list_spots (and_or_of whole l)))
    and_or_goes here (r.linked {p = y} {ps = ps} i j) =
        rw (and_or_made whole y ps) (step_is q (count_list q _ _) (step_then q (pipeline_goes here i) (le_refl _) (links_go (pipeline_settled here i) j)))

    links_go : {limit : ℕ} {b : List ℕ} {body : ℕ → Document} {s u : State} {ps : List (Link × Pipe)} → IsSettled b s.spot → ReadsLinks limit b body s u ps
        → Goes b body s u (hits q (links_spots (links_from whole ps)))
    links_go here (r.no_link h) = rw (links_from-empty whole) (step_is q (count_no_links q) (step_none q (le_refl _)))
    links_go {b = b} {body = body} here (r.more_links {s = s} {l = l} {p = y} {ps = ps} h k i j) =
        let before = blanks_move s.spot.joins b (s.spot.at + 2) in
        let settled = breaks_settled (settled_next b (s.spot.at + 2) s) k in
        let one = step_wider q {i' = s.spot.at} (omega arith) (le_refl _) (breaks_go body k) in
        let two = step_then q (step_then q one (le_refl _) (pipeline_goes settled i)) (le_refl _) (links_go (pipeline_settled settled i) j) in
        let counted = count_links q l (pipeline_of whole y) (links_from whole ps) in
        rw (links_from-more whole (l, y) ps) (step_is q (omega arith) two)

    items_go : {limit : ℕ} {b : List ℕ} {body : ℕ → Document} {s u : State} {is : List Item} → IsSettled b s.spot → ReadsItems limit b body s u is
        → Goes b body s u (hits q (items_spots (items_from whole is)))
    items_go here (r.last_item {l = l} i h k) =
        let counted = count_items q (and_or_of whole l) false p.no_items in
        let none = count_no_items q in
        rw (items_made whole l false [], items_from-empty whole) (step_is q (omega arith) (and_or_goes here i))
    items_go {b = b} {body = body} here (r.ended_item {u = u} {l = l} {g = g} i h k e) =
        let two = step_then q (step_then q (and_or_goes here i) (le_refl _) (goes_parted b body u)) (le_refl _) (breaks_go body k) in
        let counted = count_items q (and_or_of whole l) g p.no_items in
        let none = count_no_items q in
        rw (items_made whole l g [], items_from-empty whole) (step_is q (omega arith) two)
    items_go {b = b} {body = body} here (r.more_items {u = u} {l = l} {g = g} {is = is} i h k e j) =
        let two = step_then q (step_then q (and_or_goes here i) (le_refl _) (goes_parted b body u)) (le_refl _) (breaks_go body k) in
        let three = step_then q two (le_refl _) (items_go (breaks_settled (settled_parted b u (and_or_settled here i)) k) j) in
        let counted = count_items q (and_or_of whole l) g (items_from whole is) in
        rw (items_made whole l g is) (step_is q (omega arith) three)

    list_goes : {limit : ℕ} {b : List ℕ} {body : ℕ → Document} {s u : State} {t : Script} → IsSettled b s.spot → ReadsList limit b body s u t
        → Goes b body s u (hits q (items_spots (script_of whole t)))
    list_goes {body = body} here (r.list {is = is} k h i) =
        rw (script_made whole is) (step_is q (omega arith) (step_then q (breaks_go body k) (le_refl _) (items_go (breaks_settled here k) i)))

    sequence_goes : {limit : ℕ} {b : List ℕ} {body : ℕ → Document} {s u : State} {t : Script} → IsSettled b s.spot → ReadsSequence limit b body s u t
        → Goes b body s u (hits q (items_spots (script_of whole t)))
    sequence_goes {body = body} here (r.nothing k h) = rw (script_made whole [], items_from-empty whole) (step_is q (count_no_items q) (breaks_go body k))
    sequence_goes here (r.sequence i) = list_goes here i

    script_pass : {limit : ℕ} {b : List ℕ} {s u : Spot} {t : Script} → IsSettled b s → ReadsScript limit b s u t
        → (s.at ≤ u.at) × (hits q (items_spots (script_of whole t)) + below q (length b) s.at ≤ below q (length b) u.at)
    script_pass {b = b} here (r.script {u = u} i h) =
        let inside = sequence_goes here i in
        let none = none_wait u.pending h in
        let all = documents.all_operators in_body u.bodies in
        let same : of_operators (nth u.bodies) (document_count u) ≡ of_operators (nth u.bodies) (length u.bodies) = ap (of_operators (nth u.bodies)) (omega arith) in
        let first = documents.no_operators in_body (nth u.bodies) in
        let before = documents.no_bodies in_body in
        let bound = inside.bound in
        (inside.moves, omega arith)

-- a spot is counted no more often than the reading passes it
passed : (b : List ℕ) (t : Script) (reads : Reads b t) (q : Place) → hits q (items_spots (script_of b t)) ≤ below q (length b) reads.2.end.at
passed b t reads q = let found = script_pass b q (blanks_gap false b 0) reads.2.script in let bound = found.1 in omega arith

-- so none is counted twice
pub read_hits : (b : List ℕ) (t : Script) → Reads b t → (q : Place) → hits q (items_spots (script_of b t)) ≤ 1
read_hits b t reads q = let few = passed b t reads q in let most = below_most q (length b) reads.2.end.at in omega arith

pub read_spots_once : ReadSpotsStandOnce
read_spots_once b t reads = spots_from_hits (items_spots (script_of b t)) (read_hits b t reads)

-- and what is counted is inside
pub hits_inside : (b : List ℕ) (t : Script) → Reads b t → (q : Place) → 0 < hits q (items_spots (script_of b t)) → q.at < length b
hits_inside b t reads q some = let few = passed b t reads q in below_inside q (length b) reads.2.end.at (omega arith)

pub read_spots_inside : ReadSpotsStandInside
read_spots_inside b t reads = spots_inside (length b) (items_spots (script_of b t)) (hits_inside b t reads)
