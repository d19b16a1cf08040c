-- The commands of a script that is read have the numbers from 1 to their count, each once: a case
-- for each production.
--
-- Numbers do not rise along a tree, since the bodies of here-documents come after their operators;
-- so what commands weigh by their numbers is summed, and what passes the sum is the weight of all
-- numbers that were given.
use Rattle.std.proofs.Common.{◌≡◌, ℕ, ◌+◌, ◌-◌, ◌==◌, cond, nat_le, Bool, true, false, if◌then◌else◌, Option, List, [], ◌∷◌, ◌++◌, flat_map, refl, ap, ◌∙◌, subst, length, arith, length-append}
use Rattle.std.specs.List.{sum_by}
use Rattle.std.specs.Option.{option_map_or}
use Rattle.std.proofs.lemmas.List.Sums.{sum_by-append, sum_by-cons}
use Rattle.sh_tree.specs.declared.tree.AndOr.{AndOr, out-roll-AndOr}
use Rattle.sh_tree.specs.declared.tree.Binary.{Binary}
use Rattle.sh_tree.specs.declared.tree.Branch.{Branch, out-roll-Branch}
use Rattle.sh_tree.specs.declared.tree.Clause.{Clause, out-roll-Clause}
use Rattle.sh_tree.specs.declared.tree.ClauseEnd.{ClauseEnd}
use Rattle.sh_tree.specs.declared.tree.ClauseEnd.TheVariants.{Break}
use Rattle.sh_tree.specs.declared.tree.Command.{Command, out-Command, out-roll-Command}
use Rattle.sh_tree.specs.declared.tree.Element.{Element}
use Rattle.sh_tree.specs.declared.tree.Element.TheVariants as element
use Rattle.sh_tree.specs.declared.tree.Expr.{Expr}
use Rattle.sh_tree.specs.declared.tree.Expr.TheVariants as expression
use Rattle.sh_tree.specs.declared.tree.Item.{Item, out-roll-Item}
use Rattle.sh_tree.specs.declared.tree.Kind.{Kind}
use Rattle.sh_tree.specs.declared.tree.Kind.TheVariants as kind
use Rattle.sh_tree.specs.declared.tree.Link.{Link}
use Rattle.sh_tree.specs.declared.tree.LoopKind.TheVariants as loop
use Rattle.sh_tree.specs.declared.tree.ParameterOperator.TheVariants as operator
use Rattle.sh_tree.specs.declared.tree.Part.{Part}
use Rattle.sh_tree.specs.declared.tree.Part.TheVariants as part
use Rattle.sh_tree.specs.declared.tree.Pipe.{Pipe, out-roll-Pipe}
use Rattle.sh_tree.specs.declared.tree.Redirect.{Redirect}
use Rattle.sh_tree.specs.declared.tree.Script.{Script, out-roll-Script}
use Rattle.sh_tree.specs.declared.tree.SingleStyle.{SingleStyle}
use Rattle.sh_tree.specs.declared.tree.Span.{Span}
use Rattle.sh_tree.specs.declared.tree.Word.{Word}
use Rattle.sh_tree.specs.declared.token.word.Context.{Context}
use Rattle.sh_tree.specs.declared.token.word.Sign.{Sign}
use Rattle.sh_tree.specs.declared.token.arithmetic.Figure.{Figure}
use Rattle.sh_tree.specs.declared.token.command.Lead.{Lead}
use Rattle.sh_tree.specs.declared.token.command.Stage.{Stage}
use Rattle.sh_tree.specs.declared.token.command.Stage.TheVariants.{Named}
use Rattle.sh_tree.specs.standard.language.Commands.{name_end, is_newline_lead, is_open}
use Rattle.sh_tree.specs.standard.language.HereDocuments.{Mark, delimiter_of}
use Rattle.sh_tree.specs.standard.language.Parts.{is_quoted_word}
use Rattle.sh_tree.specs.standard.language.Reading as r
use Rattle.sh_tree.specs.standard.language.Reading.{figure_span, over, lead_of, lead_here, skip, parted, unopened, ReadsParts, ReadsPart, ReadsExpression, ReadsConditional, ReadsLevel, ReadsOperands, ReadsUnary, ReadsWord, ReadsRedirect, ReadsRedirects, ReadsDocuments, ReadsBreaks, ReadsElements, ReadsCommand, ReadsCompound, ReadsDo, ReadsBranches, ReadsElse, ReadsForWords, ReadsWords, ReadsClauses, ReadsPatterns, ReadsPipeline, ReadsCommands, ReadsAndOr, ReadsLinks, ReadsItems, ReadsList, ReadsSequence, ReadsScript, ReadsTo}
use Rattle.sh_tree.specs.standard.language.States.{Spot, State, Document, nth, document_count}
use Rattle.sh_tree.specs.standard.language.Trees as tree
use Rattle.sh_tree.specs.standard.language.Trees.{span}
use Rattle.sh_tree.specs.Commands.{commands_of, of_script, of_item, of_and_or, of_link, of_pipe, of_command, of_redirect, of_step, of_kind, of_element, of_branch, of_word, of_clause, of_part, of_expression}
use Rattle.sh_reads.proofs.DocumentLemmas as documents
use Rattle.sh_reads.proofs.DocumentLemmas.{none_wait}
use Rattle.sh_domain.proofs.NumberCounts.{next_given}
use Rattle.sh_tree.proofs.CommandLemmas.{script_out, item_out, and_or_out, pipe_out, command_out, branch_out, clause_out, of_kind-Simple, of_kind-Group, of_kind-Subshell, of_kind-Cond, of_kind-Loop, of_kind-For, of_kind-Branches, of_kind-Define, of_element-Assignment, of_element-Word, of_element-Redirection, of_target-File, of_target-Here, of_part-Double, of_part-Param, of_part-Arith, of_part-Command, of_operator-Value, of_operator-Length, of_operator-Use, of_operator-Remove, of_expression-Expansion, of_expression-Parenthesis, of_expression-Unary, of_expression-Chain, of_expression-Choice, of_expression-Assign}

-- Pieces without commands

plain_none : (s : Span) → of_part (part.Plain s) ≡ []
unfolding of_script
plain_none s = refl

escaped_none : (s : Span) → of_part (part.Escaped s) ≡ []
unfolding of_script
escaped_none s = refl

joined_none : (s : Span) → of_part (part.Joined s) ≡ []
unfolding of_script
joined_none s = refl

single_none : (style : SingleStyle) (s : Span) → of_part (part.Single style s) ≡ []
unfolding of_script
single_none style s = refl

tilde_none : (s : Span) → of_part (part.Tilde s) ≡ []
unfolding of_script
tilde_none s = refl

constant_none : (s : Span) → of_expression (expression.Constant s) ≡ []
unfolding of_script
constant_none s = refl

variable_none : (s : Span) → of_expression (expression.Variable s) ≡ []
unfolding of_script
variable_none s = refl

-- As the reading writes pieces

script_made : (is : List Item) → of_script (tree.script is) ≡ flat_map of_item is
script_made is = script_out (tree.script is) ∙ ap (λ t. flat_map of_item t.items) (out-roll-Script (record { items = is }))

item_made : (l : AndOr) (g : Bool) → of_item (tree.item l g) ≡ of_and_or l
item_made l g = item_out (tree.item l g) ∙ ap (λ i. of_and_or i.list) (out-roll-Item (record { list = l; background = g }))

and_or_made : (q : Pipe) (ps : List (Link × Pipe)) → of_and_or (tree.and_or q ps) ≡ of_pipe q ++ flat_map of_link ps
and_or_made q ps = and_or_out (tree.and_or q ps) ∙ ap (λ l. of_pipe l.first ++ flat_map of_link l.rest) (out-roll-AndOr (record { first = q; rest = ps }))

pipe_made : (negated : Bool) (cs : List Command) → of_pipe (tree.pipe negated cs) ≡ flat_map of_command cs
pipe_made negated cs = pipe_out (tree.pipe negated cs) ∙ ap (λ q. flat_map of_command q.parts) (out-roll-Pipe (record { negated = negated; parts = cs }))

branch_made : (c t : Script) → of_branch (tree.branch c t) ≡ of_script c ++ of_script t
branch_made c t = branch_out (tree.branch c t) ∙ ap (λ x. of_script x.condition ++ of_script x.body) (out-roll-Branch (record { condition = c; body = t }))

clause_made : (ws : List Word) (t : Script) (e : ClauseEnd) → of_clause (tree.clause ws t e) ≡ flat_map of_word ws ++ of_script t
clause_made ws t e = clause_out (tree.clause ws t e) ∙ ap (λ x. flat_map of_word x.patterns ++ of_script x.body) (out-roll-Clause (record { patterns = ws; body = t; end = e }))

-- what a number weighs
module _ (w : ℕ → ℕ) where
  abbrev own : Command → ℕ
  own c = w (out-Command c).number

  abbrev weight : List Command → ℕ
  weight cs = sum_by own cs

  none : weight [] ≡ 0
  none = refl

  both : (xs ys : List Command) → weight (xs ++ ys) ≡ weight xs + weight ys
  both xs ys = sum_by-append own xs ys

  of_none : (xs : List Command) → xs ≡ [] → weight xs ≡ 0
  of_none xs e = ap weight e ∙ none

  of_one : (xs ys : List Command) → xs ≡ ys → weight xs ≡ weight ys
  of_one xs ys e = ap weight e

  of_both : (xs ys zs : List Command) → xs ≡ ys ++ zs → weight xs ≡ weight ys + weight zs
  of_both xs ys zs e = ap weight e ∙ both ys zs

  first_of : {A : Type 0} (f : A → List Command) (x : A) (xs : List A) (ys : List Command) → f x ≡ ys → weight (flat_map f (x ∷ xs)) ≡ weight ys + weight (flat_map f xs)
  first_of f x xs ys e = both (f x) (flat_map f xs) ∙ ap (λ zs. weight zs + weight (flat_map f xs)) e

  command_weighs : (n at : ℕ) (k : Kind) (rs : List Redirect) → weight (of_command (tree.command n at k rs)) ≡ w n + (weight (of_kind k) + weight (flat_map of_redirect rs))
  command_weighs n at k rs =
      let c = tree.command n at k rs in
      ap weight (command_out c)
      ∙ sum_by-cons own c (of_kind (out-Command c).kind ++ flat_map of_redirect (out-Command c).redirects)
      ∙ ap (λ c. w c.number + weight (of_kind c.kind ++ flat_map of_redirect c.redirects)) (out-roll-Command (record { number = n; at = at; kind = k; redirects = rs }))
      ∙ ap (λ m. w n + m) (both (of_kind k) (flat_map of_redirect rs))

  chain_weighs : (e : Expr) (es : List (Binary × Expr)) → weight (of_expression (tree.chain_of e es)) ≡ weight (of_expression e) + weight (flat_map of_step es)
  chain_weighs e [] = let n = none in omega arith
  chain_weighs e (x ∷ xs) = of_both _ (of_expression e) (flat_map of_step (x ∷ xs)) (of_expression-Chain e (x ∷ xs))

  choice_weighs : (c y n : Expr) → weight (of_expression (expression.Choice c y n)) ≡ weight (of_expression c) + weight (of_expression y) + weight (of_expression n)
  choice_weighs c y n = of_both _ (of_expression c ++ of_expression y) (of_expression n) (of_expression-Choice c y n) ∙ ap (λ k. k + weight (of_expression n)) (both (of_expression c) (of_expression y))

  -- Here-documents

  -- what the commands in a body weigh
  abbrev in_body : Document → ℕ
  in_body d = weight (of_word d.text)

  abbrev in_bodies : List Document → ℕ
  in_bodies = documents.in_bodies in_body

  abbrev of_operators : (ℕ → Document) → ℕ → ℕ
  of_operators = documents.of_operators in_body

  -- what the numbers from 1 to a count weigh together
  module _ (given : ℕ → ℕ) (next : (i : ℕ) → w (i + 1) + given i ≡ given (i + 1)) where
    -- what is read where the count goes from i to j weighs h; the bodies that come meanwhile ku -
    -- ks, and those of the operators cu - cs
    record Gives (i j h ks cs ku cu : ℕ) : Type 0 where
      exact : h + ku + cs + given i ≡ ks + cu + given j

    gives_is : {i j h h' ks cs ku cu : ℕ} → h' ≡ h → Gives i j h ks cs ku cu → Gives i j h' ks cs ku cu
    gives_is e s = record { exact = (let b = s.exact in omega arith) }

    gives_none : {i ks cs : ℕ} → Gives i i 0 ks cs ks cs
    gives_none = record { exact = omega arith }

    gives_then : {i j l h h' ks cs kv cv ku cu : ℕ} → Gives i j h ks cs kv cv → Gives j l h' kv cv ku cu → Gives i l (h + h') ks cs ku cu
    gives_then s t = record { exact = (let a = s.exact in let b = t.exact in omega arith) }

    gives_among : {i j h : ℕ} (k c : ℕ) → Gives i j h 0 0 0 0 → Gives i j h k c k c
    gives_among k c s = record { exact = (let b = s.exact in omega arith) }

    gives_own : {i j h ks cs ku cu : ℕ} → Gives (i + 1) j h ks cs ku cu → Gives i j (w (i + 1) + h) ks cs ku cu
    gives_own {i = i} s = record { exact = (let b = s.exact in let own = next i in omega arith) }

    abbrev Passes : Spot → Spot → ℕ → Type 0
    Passes s u h = Gives s.count u.count h 0 0 0 0

    abbrev Goes : (ℕ → Document) → State → State → ℕ → Type 0
    Goes body s u h = Gives s.spot.count u.spot.count h (in_bodies s.bodies) (of_operators body (document_count s)) (in_bodies u.bodies) (of_operators body (document_count u))

    either_goes : (body : ℕ → Document) (t : Bool) (r s u : State) → Goes body r s 0 → Goes body r u 0 → Goes body r (if t then s else u) 0
    either_goes body true r s u h k = h
    either_goes body false r s u h k = k

    goes_parted : (b : List ℕ) (body : ℕ → Document) (s : State) → Goes body s (parted b s) 0
    goes_parted b body s = either_goes body (is_newline_lead (lead_here b s)) s s (skip b 1 s) gives_none gives_none

    goes_unopened : (b : List ℕ) (body : ℕ → Document) (s : State) → Goes body s (unopened b s) 0
    goes_unopened b body s = either_goes body (is_open (lead_of b (Named false) s)) s (skip b 1 s) s gives_none gives_none

    mutual
      -- Words

      parts_give : {limit : ℕ} {b : List ℕ} {x : Context} {prior : ℕ} {s u : Spot} {ps : List Part} → ReadsParts limit b x prior s u ps → Passes s u (weight (flat_map of_part ps))
      parts_give (r.stop h) = gives_is none gives_none
      parts_give (r.tabs h i) = parts_give i
      parts_give (r.more {p = y} {ps = ps} h i j) = gives_is (both (of_part y) (flat_map of_part ps)) (gives_then (part_gives i) (parts_give j))

      part_gives : {limit : ℕ} {b : List ℕ} {x : Context} {g : Sign} {s u : Spot} {e : ℕ} {p : Part} → ReadsPart limit b x g s e u p → Passes s u (weight (of_part p))
      part_gives (r.plain {s = s} {e = e}) = gives_is (of_none _ (plain_none (span s.at e))) gives_none
      part_gives (r.escaped {s = s} {e = e}) = gives_is (of_none _ (escaped_none (span s.at e))) gives_none
      part_gives (r.joined {s = s} {e = e}) = gives_is (of_none _ (joined_none (span s.at e))) gives_none
      part_gives (r.single_quoted {s = s} {e = e} {style = style}) = gives_is (of_none _ (single_none style (span s.at e))) gives_none
      part_gives (r.tilde {s = s} {e = e}) = gives_is (of_none _ (tilde_none (span s.at e))) gives_none
      part_gives (r.double_quoted {s = s} {u = u} {ps = ps} i) = gives_is (of_one _ _ (of_part-Double (span s.at u.at) ps)) (parts_give i)
      part_gives (r.value {s = s} {e = e} {p = y}) =
          gives_is (of_none _ (of_part-Param (record { span = span s.at e; subject = y; operator = operator.Value }) ∙ of_operator-Value)) gives_none
      part_gives (r.length_value {s = s} {e = e} {p = y}) =
          gives_is (of_none _ (of_part-Param (record { span = span s.at e; subject = y; operator = operator.Length }) ∙ of_operator-Length)) gives_none
      part_gives (r.use_word {s = s} {u = u} {e = e} {p = y} {a = a} {colon = colon} {ps = ps} d i) =
          let text = tree.word e (u.at - 1) ps in
          gives_is (of_one _ _ (of_part-Param (record { span = span s.at u.at; subject = y; operator = operator.Use a colon text }) ∙ of_operator-Use a colon text)) (parts_give i)
      part_gives (r.removal {s = s} {u = u} {e = e} {p = y} {r = removal} {ps = ps} d i) =
          let text = tree.word e (u.at - 1) ps in
          gives_is (of_one _ _ (of_part-Param (record { span = span s.at u.at; subject = y; operator = operator.Remove removal text }) ∙ of_operator-Remove removal text)) (parts_give i)
      part_gives {b = b} (r.arithmetic {s = s} {u = u} {a = a} d i h c) = gives_is (of_one _ _ (of_part-Arith (span s.at ((over b u).at + 1)) a)) (expression_gives i)
      part_gives (r.substitution {s = s} {u = u} {style = style} {t = list} d k h c) = gives_is (of_one _ _ (of_part-Command style (span s.at (u.at + 1)) list)) (script_gives h)

      -- Arithmetic

      expression_gives : {limit : ℕ} {b : List ℕ} {x : Context} {s u : Spot} {e : Expr} → ReadsExpression limit b x s u e → Passes s u (weight (of_expression e))
      expression_gives {b = b} (r.assignment {s = s} {o = o} {e = e} k a d i) = gives_is (of_one _ _ (of_expression-Assign (figure_span b s) o e)) (expression_gives i)
      expression_gives (r.no_assignment h i) = conditional_gives i

      conditional_gives : {limit : ℕ} {b : List ℕ} {x : Context} {s u : Spot} {e : Expr} → ReadsConditional limit b x s u e → Passes s u (weight (of_expression e))
      conditional_gives (r.one_level i h) = level_gives i
      conditional_gives (r.choice {c = c} {y = y} {n = z} i h d j k l) =
          gives_is (choice_weighs c y z) (gives_then (gives_then (level_gives i) (expression_gives j)) (conditional_gives l))

      level_gives : {limit : ℕ} {b : List ℕ} {x : Context} {l : ℕ} {s u : Spot} {e : Expr} → ReadsLevel limit b x l s u e → Passes s u (weight (of_expression e))
      level_gives (r.chain {e = e} {es = es} h i j) = gives_is (chain_weighs e es) (gives_then (level_gives i) (operands_give j))
      level_gives (r.operand h k i) = unary_gives i

      operands_give : {limit : ℕ} {b : List ℕ} {x : Context} {l : ℕ} {s u : Spot} {es : List (Binary × Expr)} → ReadsOperands limit b x l s u es → Passes s u (weight (flat_map of_step es))
      operands_give (r.no_operand h) = gives_is none gives_none
      operands_give (r.more_operands {o = o} {e = e} {es = es} h i j) = gives_is (both (of_expression e) (flat_map of_step es)) (gives_then (level_gives i) (operands_give j))

      unary_gives : {limit : ℕ} {b : List ℕ} {x : Context} {g : Figure} {s u : Spot} {e : Expr} → ReadsUnary limit b x g s u e → Passes s u (weight (of_expression e))
      unary_gives {b = b} (r.constant {s = s}) = gives_is (of_none _ (constant_none (figure_span b s))) gives_none
      unary_gives {b = b} (r.variable {s = s}) = gives_is (of_none _ (variable_none (figure_span b s))) gives_none
      unary_gives (r.signed {o = o} {e = e} h d i) = gives_is (of_one _ _ (of_expression-Unary o e)) (level_gives i)
      unary_gives (r.parenthesis {e = e} d i h) = gives_is (of_one _ _ (of_expression-Parenthesis e)) (expression_gives i)
      unary_gives (r.expansion {p = y} h k i) = gives_is (of_one _ _ (of_expression-Expansion y)) (part_gives i)

      word_gives : {limit : ℕ} {b : List ℕ} {x : Context} {s u : Spot} {w : Word} → ReadsWord limit b x s u w → Passes s u (weight (of_word w))
      word_gives (r.whole_word i l k) = parts_give i

      -- Redirections and here-documents

      redirect_gives : {limit : ℕ} {b : List ℕ} {body : ℕ → Document} {s u : State} {y : Redirect} → ReadsRedirect limit b body s u y → Goes body s u (weight (of_redirect y))
      redirect_gives {body = body} (r.file {s = s} {d = d} {w = v} h e k i) =
          gives_is (of_one _ _ (of_target-File d v)) (gives_among (in_bodies s.bodies) (of_operators body (document_count s)) (word_gives i))
      redirect_gives {b = b} {body = body} (r.here_document {s = s} {u = u} {strip = strip} {w = v} h t k i d) =
          let inside = word_gives i in
          let exact = inside.exact in
          let mark : Mark = record { strip = strip; quoted = is_quoted_word v; delimiter = delimiter_of b v; depth = s.spot.depth } in
          let more = documents.operators_push in_body body (document_count s) (length s.bodies + length (s.pending ++ mark ∷ [])) (omega (arith, length-append s.pending (mark ∷ []))) in
          let text = (body (document_count s)).text in
          gives_is (of_both _ (of_word v) (of_word text) (of_target-Here (tree.here_doc strip v text (body (document_count s)).end))) (record { exact = omega arith })

      redirects_give : {limit : ℕ} {b : List ℕ} {body : ℕ → Document} {s u : State} {ys : List Redirect} → ReadsRedirects limit b body s u ys → Goes body s u (weight (flat_map of_redirect ys))
      redirects_give (r.no_redirect h) = gives_is none gives_none
      redirects_give (r.more_redirects {r = y} {rs = ys} h i j) = gives_is (both (of_redirect y) (flat_map of_redirect ys)) (gives_then (redirect_gives i) (redirects_give j))

      documents_give : {limit : ℕ} {b : List ℕ} {ms : List Mark} {s u : State} → ReadsDocuments limit b ms s u → (c : ℕ)
          → Gives s.spot.count u.spot.count 0 (in_bodies s.bodies) c (in_bodies u.bodies) c × (length u.bodies ≡ length s.bodies + length ms) × (u.pending ≡ s.pending)
      documents_give r.no_body c = (gives_none, omega arith, refl)
      documents_give (r.more_bodies {s = s} {l = l} {ps = ps} h a k i e j) c =
          let d : Document = record { text = tree.word s.spot.at l.start ps; end = l } in
          let inside = parts_give i in
          let exact = inside.exact in
          let rest = documents_give j c in
          let behind = rest.0.exact in
          let push = documents.bodies_push in_body s.bodies d in
          let pushed = length-append s.bodies (d ∷ []) in
          let count = rest.1 in
          (record { exact = omega arith }, omega arith, rest.2)

      breaks_give : {limit : ℕ} {b : List ℕ} {s u : State} → (body : ℕ → Document) → ReadsBreaks limit b s u → Goes body s u 0
      breaks_give body (r.no_break h) = gives_none
      breaks_give body (r.more_breaks {s = s} {u = u} h e i j) =
          let documents = documents_give i (of_operators body (document_count s)) in
          let count = documents.1 in
          let none = ap length documents.2 in
          let same : of_operators body (document_count u) ≡ of_operators body (document_count s) = ap (of_operators body) (omega arith) in
          let first = documents.0.exact in
          let rest = breaks_give body j in
          let second = rest.exact in
          record { exact = omega arith }

      -- Commands

      elements_give : {limit : ℕ} {b : List ℕ} {body : ℕ → Document} {g : Stage} {s u : State} {es : List Element} → ReadsElements limit b body g s u es
          → Goes body s u (weight (flat_map of_element es))
      elements_give (r.no_element h) = gives_is none gives_none
      elements_give {b = b} {body = body} (r.assigned_element {s = s} {w = v} {es = es} h i j) =
          let name = span s.spot.at (name_end b s.spot.at) in
          let first = gives_among (in_bodies s.bodies) (of_operators body (document_count s)) (word_gives i) in
          gives_is (first_of of_element (element.Assignment name v) es (of_word v) (of_element-Assignment name v)) (gives_then first (elements_give j))
      elements_give {body = body} (r.word_element {s = s} {w = v} {es = es} h i j) =
          let first = gives_among (in_bodies s.bodies) (of_operators body (document_count s)) (word_gives i) in
          gives_is (first_of of_element (element.Word v) es (of_word v) (of_element-Word v)) (gives_then first (elements_give j))
      elements_give (r.redirect_element {r = y} {es = es} h i j) =
          gives_is (first_of of_element (element.Redirection y) es (of_redirect y) (of_element-Redirection y)) (gives_then (redirect_gives i) (elements_give j))

      command_gives : {limit : ℕ} {b : List ℕ} {body : ℕ → Document} {s u : State} {c : Command} → ReadsCommand limit b body s u c → Goes body s u (weight (of_command c))
      command_gives (r.simple_command {s = s} {es = es} h i) =
          let command = command_weighs (s.spot.count + 1) s.spot.at (kind.Simple es) [] in
          let simple = of_one _ _ (of_kind-Simple es) in
          let no_more = none in
          gives_is (omega arith) (gives_own (elements_give i))
      command_gives (r.compound_command {s = s} {k = k} {rs = ys} is i j) =
          gives_is (command_weighs (s.spot.count + 1) s.spot.at k ys) (gives_own (gives_then (compound_gives i) (redirects_give j)))
      command_gives {b = b} {body = body} (r.definition {s = s} {c = c} h o e k i j) =
          let name = span s.spot.at (name_end b s.spot.at) in
          let command = command_weighs (s.spot.count + 1) s.spot.at (kind.Define name c) [] in
          let define = of_one _ _ (of_kind-Define name c) in
          let no_more = none in
          gives_is (omega arith) (gives_own (gives_then (breaks_give body k) (command_gives j)))

      compound_gives : {limit : ℕ} {b : List ℕ} {body : ℕ → Document} {l : Lead} {s u : State} {k : Kind} → ReadsCompound limit b body l s u k → Goes body s u (weight (of_kind k))
      compound_gives (r.group {t = t} d i h) = gives_is (of_one _ _ (of_kind-Group t)) (list_gives i)
      compound_gives (r.subshell {t = t} d i h) = gives_is (of_one _ _ (of_kind-Subshell t)) (list_gives i)
      compound_gives (r.cond {bs = bs} {o = o} d i) = gives_is (of_both _ (flat_map of_branch bs) (option_map_or of_script o []) (of_kind-Cond bs o)) (branches_give i)
      compound_gives (r.while_loop {c = c} {t = t} d i j) = gives_is (of_both _ (of_script c) (of_script t) (of_kind-Loop loop.While c t)) (gives_then (list_gives i) (do_gives j))
      compound_gives (r.until_loop {c = c} {t = t} d i j) = gives_is (of_both _ (of_script c) (of_script t) (of_kind-Loop loop.Until c t)) (gives_then (list_gives i) (do_gives j))
      compound_gives {b = b} {body = body} (r.for_loop {s = s} {o = o} {t = t} d k i j) =
          let opened = skip b 3 s in
          let name = span opened.spot.at (name_end b opened.spot.at) in
          gives_is (of_both _ (option_map_or (flat_map of_word) o []) (of_script t) (of_kind-For name o t)) (gives_then (for_words_give body i) (do_gives j))
      compound_gives {body = body} (r.case_of {s = s} {w = v} {cs = cs} d h i k e j l) =
          let word = gives_among (in_bodies s.bodies) (of_operators body (document_count s)) (word_gives i) in
          let three = gives_then (gives_then (gives_then word (breaks_give body k)) (breaks_give body j)) (clauses_give l) in
          gives_is (let m = of_both _ (of_word v) (flat_map of_clause cs) (of_kind-Branches v cs) in omega arith) three

      do_gives : {limit : ℕ} {b : List ℕ} {body : ℕ → Document} {s u : State} {t : Script} → ReadsDo limit b body s u t → Goes body s u (weight (of_script t))
      do_gives (r.do_group h i k) = list_gives i

      branches_give : {limit : ℕ} {b : List ℕ} {body : ℕ → Document} {s u : State} {bs : List Branch} {o : Option Script} → ReadsBranches limit b body s u bs o
          → Goes body s u (weight (flat_map of_branch bs) + weight (option_map_or of_script o []))
      branches_give (r.branch {c = c} {t = t} {bs = bs} i h j k) =
          let all = gives_then (gives_then (list_gives i) (list_gives j)) (else_gives k) in
          let one = first_of of_branch (tree.branch c t) bs (of_script c ++ of_script t) (branch_made c t) in
          let two = both (of_script c) (of_script t) in
          gives_is (omega arith) all

      else_gives : {limit : ℕ} {b : List ℕ} {body : ℕ → Document} {s u : State} {bs : List Branch} {o : Option Script} → ReadsElse limit b body s u bs o
          → Goes body s u (weight (flat_map of_branch bs) + weight (option_map_or of_script o []))
      else_gives (r.fi h) = gives_is (let n = none in omega arith) gives_none
      else_gives (r.otherwise {t = t} h i k) = gives_is (let n = none in omega arith) (list_gives i)
      else_gives (r.elif h i) = branches_give i

      for_words_give : {limit : ℕ} {b : List ℕ} {s u : State} {o : Option (List Word)} → (body : ℕ → Document) → ReadsForWords limit b s u o
          → Goes body s u (weight (option_map_or (flat_map of_word) o []))
      for_words_give body (r.arguments_ended h k) = gives_is none (breaks_give body k)
      for_words_give body (r.arguments k h) = gives_is none (breaks_give body k)
      for_words_give {b = b} body (r.listed {v = v} {ws = ws} k h i j l) =
          let all = gives_then (gives_then (gives_then (breaks_give body k) (words_give body i)) (goes_parted b body v)) (breaks_give body l) in
          gives_is (omega arith) all

      words_give : {limit : ℕ} {b : List ℕ} {s u : State} {ws : List Word} → (body : ℕ → Document) → ReadsWords limit b s u ws → Goes body s u (weight (flat_map of_word ws))
      words_give body (r.no_word h) = gives_is none gives_none
      words_give body (r.more_words {s = s} {w = v} {ws = ws} h i j) =
          let first = gives_among (in_bodies s.bodies) (of_operators body (document_count s)) (word_gives i) in
          gives_is (first_of of_word v ws (of_word v) refl) (gives_then first (words_give body j))

      clauses_give : {limit : ℕ} {b : List ℕ} {body : ℕ → Document} {s u : State} {cs : List Clause} → ReadsClauses limit b body s u cs → Goes body s u (weight (flat_map of_clause cs))
      clauses_give (r.esac h) = gives_is none gives_none
      clauses_give {b = b} {body = body} (r.last_clause {s = s} {ws = ws} {t = t} h i j k) =
          let all = gives_then (gives_then (goes_unopened b body s) (patterns_give body i)) (sequence_gives j) in
          let one = first_of of_clause (tree.clause ws t Break) [] (flat_map of_word ws ++ of_script t) (clause_made ws t Break) in
          let two = both (flat_map of_word ws) (of_script t) in
          let no_more = none in
          gives_is (omega arith) all
      clauses_give {b = b} {body = body} (r.more_clauses {s = s} {ws = ws} {t = t} {e = e} {cs = cs} h i j k l m) =
          let first = gives_then (gives_then (goes_unopened b body s) (patterns_give body i)) (sequence_gives j) in
          let all = gives_then (gives_then first (breaks_give body l)) (clauses_give m) in
          let one = first_of of_clause (tree.clause ws t e) cs (flat_map of_word ws ++ of_script t) (clause_made ws t e) in
          let two = both (flat_map of_word ws) (of_script t) in
          gives_is (omega arith) all

      patterns_give : {limit : ℕ} {b : List ℕ} {s u : State} {ws : List Word} → (body : ℕ → Document) → ReadsPatterns limit b s u ws → Goes body s u (weight (flat_map of_word ws))
      patterns_give body (r.last_pattern {s = s} {w = v} h i k) =
          let first = gives_among (in_bodies s.bodies) (of_operators body (document_count s)) (word_gives i) in
          let one = first_of of_word v [] (of_word v) refl in
          let no_more = none in
          gives_is (omega arith) first
      patterns_give body (r.more_patterns {s = s} {w = v} {ws = ws} h i k j) =
          let first = gives_among (in_bodies s.bodies) (of_operators body (document_count s)) (word_gives i) in
          gives_is (first_of of_word v ws (of_word v) refl) (gives_then first (patterns_give body j))

      -- Pipelines and lists

      pipeline_gives : {limit : ℕ} {b : List ℕ} {body : ℕ → Document} {s u : State} {p : Pipe} → ReadsPipeline limit b body s u p → Goes body s u (weight (of_pipe p))
      pipeline_gives (r.negated {cs = cs} h i) = gives_is (of_one _ _ (pipe_made true cs)) (commands_give i)
      pipeline_gives (r.straight {cs = cs} h i) = gives_is (of_one _ _ (pipe_made false cs)) (commands_give i)

      commands_give : {limit : ℕ} {b : List ℕ} {body : ℕ → Document} {s u : State} {cs : List Command} → ReadsCommands limit b body s u cs → Goes body s u (weight (flat_map of_command cs))
      commands_give (r.last_command {c = c} i h) =
          let one = first_of of_command c [] (of_command c) refl in
          let no_more = none in
          gives_is (omega arith) (command_gives i)
      commands_give {body = body} (r.more_commands {c = c} {cs = cs} i h k j) =
          let all = gives_then (gives_then (command_gives i) (breaks_give body k)) (commands_give j) in
          let one = first_of of_command c cs (of_command c) refl in
          gives_is (omega arith) all

      and_or_gives : {limit : ℕ} {b : List ℕ} {body : ℕ → Document} {s u : State} {l : AndOr} → ReadsAndOr limit b body s u l → Goes body s u (weight (of_and_or l))
      and_or_gives (r.linked {p = z} {ps = ps} i j) = gives_is (of_both _ (of_pipe z) (flat_map of_link ps) (and_or_made z ps)) (gives_then (pipeline_gives i) (links_give j))

      links_give : {limit : ℕ} {b : List ℕ} {body : ℕ → Document} {s u : State} {ps : List (Link × Pipe)} → ReadsLinks limit b body s u ps → Goes body s u (weight (flat_map of_link ps))
      links_give (r.no_link h) = gives_is none gives_none
      links_give {body = body} (r.more_links {l = l} {p = z} {ps = ps} h k i j) =
          let all = gives_then (gives_then (breaks_give body k) (pipeline_gives i)) (links_give j) in
          let one = first_of of_link (l, z) ps (of_pipe z) refl in
          gives_is (omega arith) all

      items_give : {limit : ℕ} {b : List ℕ} {body : ℕ → Document} {s u : State} {is : List Item} → ReadsItems limit b body s u is → Goes body s u (weight (flat_map of_item is))
      items_give (r.last_item {l = l} i h k) =
          let one = first_of of_item (tree.item l false) [] (of_and_or l) (item_made l false) in
          let no_more = none in
          gives_is (omega arith) (and_or_gives i)
      items_give {b = b} {body = body} (r.ended_item {u = u} {l = l} {g = g} i h k e) =
          let all = gives_then (gives_then (and_or_gives i) (goes_parted b body u)) (breaks_give body k) in
          let one = first_of of_item (tree.item l g) [] (of_and_or l) (item_made l g) in
          let no_more = none in
          gives_is (omega arith) all
      items_give {b = b} {body = body} (r.more_items {u = u} {l = l} {g = g} {is = is} i h k e j) =
          let first = gives_then (gives_then (and_or_gives i) (goes_parted b body u)) (breaks_give body k) in
          let all = gives_then first (items_give j) in
          let one = first_of of_item (tree.item l g) is (of_and_or l) (item_made l g) in
          gives_is (omega arith) all

      list_gives : {limit : ℕ} {b : List ℕ} {body : ℕ → Document} {s u : State} {t : Script} → ReadsList limit b body s u t → Goes body s u (weight (of_script t))
      list_gives {body = body} (r.list {is = is} k h i) = gives_is (let made = of_one _ _ (script_made is) in omega arith) (gives_then (breaks_give body k) (items_give i))

      sequence_gives : {limit : ℕ} {b : List ℕ} {body : ℕ → Document} {s u : State} {t : Script} → ReadsSequence limit b body s u t → Goes body s u (weight (of_script t))
      sequence_gives {body = body} (r.nothing k h) = gives_is (of_one _ _ (script_made []) ∙ none) (breaks_give body k)
      sequence_gives (r.sequence i) = list_gives i

      script_gives : {limit : ℕ} {b : List ℕ} {s u : Spot} {t : Script} → ReadsScript limit b s u t → Passes s u (weight (of_script t))
      script_gives (r.script {u = u} i h) =
          let inside = sequence_gives i in
          let no_more = none_wait u.pending h in
          let all = documents.all_operators in_body u.bodies in
          let same : of_operators (nth u.bodies) (document_count u) ≡ of_operators (nth u.bodies) (length u.bodies) = ap (of_operators (nth u.bodies)) (omega arith) in
          let first = documents.no_operators in_body (nth u.bodies) in
          let before = documents.no_bodies in_body in
          let exact = inside.exact in
          record { exact = omega arith }

    -- all commands together weigh what the numbers from 1 to their count do
    all_weigh : (b : List ℕ) (t : Script) (limit count : ℕ) → ReadsTo b limit count t → weight (commands_of t) + given 0 ≡ given count
    all_weigh b t limit count h =
        let found = script_gives h.script in
        let exact = found.exact in
        subst (λ k. weight (commands_of t) + given 0 ≡ given k) h.commands (omega arith)

-- each number from 1 to their count occurs once among them, and no other
pub tree_given : (b : List ℕ) (t : Script) (limit count : ℕ) → ReadsTo b limit count t → (n : ℕ)
    → sum_by (λ c. cond ((out-Command c).number == n) 1 0) (commands_of t) + cond (nat_le n 0) 1 0 ≡ cond (nat_le n count) 1 0
tree_given b t limit count h n = all_weigh (λ m. cond (m == n) 1 0) (λ k. cond (nat_le n k) 1 0) (next_given n) b t limit count h

-- so there are as many as were counted
pub as_many : (b : List ℕ) (t : Script) (limit count : ℕ) → ReadsTo b limit count t → length (commands_of t) ≡ count
as_many b t limit count h =
    let all = all_weigh (λ n. 1) (λ n. n) (λ i. omega arith) b t limit count h in
    let long = ones (commands_of t) in
    omega arith
  where
    ones : (cs : List Command) → sum_by (λ c. 1) cs ≡ length cs
    ones [] = refl
    ones (c ∷ cs) = let one = sum_by-cons (λ (d : Command). 1) c cs in let rest = ones cs in omega arith
