-- A command that is refused is one of the program, so its place is that of a spot: a case for each
-- piece of a program.
use Rattle.std.proofs.Common.{◌≡◌, ℕ, Bool, true, false, nat_lt, if◌then◌else◌, Option, Some, None, option_map, List, [], ◌∷◌, ◌++◌, filter_map, refl, sym, ◌∙◌, subst}
use Rattle.std.specs.List.{list_all, cons_option}
use Rattle.std.proofs.lemmas.Bool.{and_from, and_parts}
use Rattle.std.proofs.lemmas.List.Folds.{list_all-append}
use Rattle.sh_tree.specs.declared.refusal.Rule.{Rule}
use Rattle.sh_tree.specs.standard.program.Syntax as p
use Rattle.sh_runs.specs.Profile.{Refused, command_rule, refused_at, least_refused, first_refused}
use Rattle.sh_runs.specs.Surroundings.{Surroundings, Located, outside, items_located, list_located, links_located, pipeline_located, commands_located, command_located, kind_located, elements_located, redirect_located, redirects_located, branches_located, otherwise_located, for_words_located, words_located, clauses_located, word_located, part_located, operator_located, expression_located, operands_located}
use Rattle.sh_reads.specs.Spots.{Spot, OfCommand, items_spots, list_spots, links_spots, pipeline_spots, commands_spots, command_spots, kind_spots, elements_spots, redirect_spots, redirects_spots, branches_spots, otherwise_spots, for_words_spots, words_spots, clauses_spots, word_spots, part_spots, operator_spots, expression_spots, operands_spots}

module _ (test : Spot → Bool) where
  -- the command's spot passes
  at_start : p.Command → Bool
  at_start (p.command n at k rs) = test (OfCommand at)

  starts : Located → Bool
  starts l = at_start l.command

  -- where each of the spots passes, so does that of each command
  record Covers (ss : List Spot) (ls : List Located) : Type 0 where
    covered : list_all test ss ≡ true → list_all starts ls ≡ true

  nothing : (ss : List Spot) → Covers ss []
  nothing ss = record { covered = λ h. refl }

  two : {e f : List Spot} {c d : List Located} → Covers e c → Covers f d → Covers (e ++ f) (c ++ d)
  two {e = e} {f = f} {c = c} {d = d} h k = record {
    covered = λ all.
        let halves = and_parts (list_all test e) (list_all test f) (sym (list_all-append test e f) ∙ all) in
        list_all-append starts c d ∙ and_from (list_all starts c) (list_all starts d) (h.covered halves.0) (k.covered halves.1);
  }

  skipped : (s : Spot) {e : List Spot} {c : List Located} → Covers e c → Covers (s ∷ e) c
  skipped s {e = e} h = record { covered = λ all. h.covered (and_parts (test s) (list_all test e) all).1 }

  mutual
    unfolding at_start starts items_located items_spots

    items_covered : (x : Surroundings) (t : p.Items) → Covers (items_spots t) (items_located x t)
    items_covered x p.no_items = nothing _
    items_covered x (p.more_items list background rest) = two (list_covered _ list) (items_covered x rest)

    list_covered : (x : Surroundings) (t : p.AndOr) → Covers (list_spots t) (list_located x t)
    list_covered x (p.and_or first rest) = two (pipeline_covered x first) (links_covered x rest)

    links_covered : (x : Surroundings) (t : p.Links) → Covers (links_spots t) (links_located x t)
    links_covered x p.no_links = nothing _
    links_covered x (p.more_links l r rest) = two (pipeline_covered x r) (links_covered x rest)

    pipeline_covered : (x : Surroundings) (t : p.Pipeline) → Covers (pipeline_spots t) (pipeline_located x t)
    pipeline_covered x (p.pipeline negated cs) = commands_covered _ cs

    commands_covered : (x : Surroundings) (t : p.Commands) → Covers (commands_spots t) (commands_located x t)
    commands_covered x p.no_commands = nothing _
    commands_covered x (p.more_commands c cs) = two (command_covered x c) (commands_covered x cs)

    command_covered : (x : Surroundings) (t : p.Command) → Covers (command_spots t) (command_located x t)
    command_covered x (p.command n at k rs) =
        let inner : Covers (kind_spots k ++ redirects_spots rs) (kind_located x k ++ redirects_located rs) = two (kind_covered x k) (redirects_covered rs) in
        record {
          covered = λ all.
              let parts = and_parts (test (OfCommand at)) (list_all test (kind_spots k ++ redirects_spots rs)) all in
              and_from (test (OfCommand at)) (list_all starts (kind_located x k ++ redirects_located rs)) parts.0 (inner.covered parts.1);
        }

    kind_covered : (x : Surroundings) (t : p.Kind) → Covers (kind_spots t) (kind_located x t)
    kind_covered x (p.Simple es) = elements_covered es
    kind_covered x (p.Group list) = items_covered x list
    kind_covered x (p.Subshell list) = items_covered _ list
    kind_covered x (p.Conditional branches otherwise) = two (branches_covered x branches) (otherwise_covered x otherwise)
    kind_covered x (p.Loop k condition body) = two (items_covered _ condition) (items_covered _ body)
    kind_covered x (p.For name ws body) = two (for_words_covered ws) (items_covered _ body)
    kind_covered x (p.Case w cs) = two (word_covered w) (clauses_covered x cs)
    kind_covered x (p.Define name body) = command_covered _ body

    elements_covered : (t : p.Elements) → Covers (elements_spots t) (elements_located t)
    elements_covered p.no_elements = nothing _
    elements_covered (p.assignment name value es) = two (word_covered value) (elements_covered es)
    elements_covered (p.operand w es) = two (word_covered w) (elements_covered es)
    elements_covered (p.redirection r es) = two (redirect_covered r) (elements_covered es)

    redirect_covered : (t : p.Redirect) → Covers (redirect_spots t) (redirect_located t)
    redirect_covered (p.File w) = word_covered w
    redirect_covered (p.Here w) = word_covered w

    redirects_covered : (t : p.Redirects) → Covers (redirects_spots t) (redirects_located t)
    redirects_covered p.no_redirects = nothing _
    redirects_covered (p.more_redirects r rs) = two (redirect_covered r) (redirects_covered rs)

    branches_covered : (x : Surroundings) (t : p.Branches) → Covers (branches_spots t) (branches_located x t)
    branches_covered x p.no_branches = nothing _
    branches_covered x (p.more_branches condition body rest) = two (two (items_covered x condition) (items_covered x body)) (branches_covered x rest)

    otherwise_covered : (x : Surroundings) (t : p.Otherwise) → Covers (otherwise_spots t) (otherwise_located x t)
    otherwise_covered x p.no_else = nothing _
    otherwise_covered x (p.else_of list) = items_covered x list

    for_words_covered : (t : p.ForWords) → Covers (for_words_spots t) (for_words_located t)
    for_words_covered p.every_parameter = nothing _
    for_words_covered (p.listed ws) = words_covered ws

    words_covered : (t : p.Words) → Covers (words_spots t) (words_located t)
    words_covered p.no_words = nothing _
    words_covered (p.more_words w ws) = two (word_covered w) (words_covered ws)

    clauses_covered : (x : Surroundings) (t : p.Clauses) → Covers (clauses_spots t) (clauses_located x t)
    clauses_covered x p.no_clauses = nothing _
    clauses_covered x (p.more_clauses patterns body end rest) = two (two (words_covered patterns) (items_covered x body)) (clauses_covered x rest)

    word_covered : (t : p.Word) → Covers (word_spots t) (word_located t)
    word_covered p.no_parts = nothing _
    word_covered (p.more_parts y w) = two (part_covered y) (word_covered w)

    part_covered : (t : p.Part) → Covers (part_spots t) (part_located t)
    part_covered (p.Double w) = word_covered w
    part_covered (p.Expansion at parameter operator) = skipped _ (operator_covered operator)
    part_covered (p.Arithmetic at e) = skipped _ (expression_covered e)
    part_covered (p.Substitution at list) = skipped _ (items_covered _ list)
    part_covered t = nothing _

    operator_covered : (t : p.Operator) → Covers (operator_spots t) (operator_located t)
    operator_covered (p.Use action colon w) = word_covered w
    operator_covered (p.Remove removal w) = word_covered w
    operator_covered t = nothing _

    expression_covered : (t : p.Expression) → Covers (expression_spots t) (expression_located t)
    expression_covered (p.Constant text) = nothing _
    expression_covered (p.Name at name) = nothing _
    expression_covered (p.Expanded y) = part_covered y
    expression_covered (p.Parenthesis e) = expression_covered e
    expression_covered (p.Signed operator e) = expression_covered e
    expression_covered (p.Chain e rest) = two (expression_covered e) (operands_covered rest)
    expression_covered (p.Choice e then_one else_one) = two (two (expression_covered e) (expression_covered then_one)) (expression_covered else_one)
    expression_covered (p.Assigned at name operator e) = skipped _ (expression_covered e)

    operands_covered : (t : p.Operands) → Covers (operands_spots t) (operands_located t)
    operands_covered p.no_operands = nothing _
    operands_covered (p.more_operands operator e rest) = two (expression_covered e) (operands_covered rest)

  -- What is refused

  passes : Refused → Bool
  passes r = test (OfCommand r.at)

  unless_none : Option Refused → Bool
  unless_none None = true
  unless_none (Some r) = passes r

  one_refused : (l : Located) → starts l ≡ true → unless_none (refused_at l) ≡ true
  unfolding refused_at starts at_start unless_none passes
  one_refused l = go l.command
    where
      broken : (n at : ℕ) (o : Option Rule) → test (OfCommand at) ≡ true
          → unless_none (option_map (λ (r : Rule). let q : Refused = record { number = n; at = at; rule = r } in q) o) ≡ true
      broken n at None h = refl
      broken n at (Some r) h = h

      go : (c : p.Command) → starts (record l { command = c }) ≡ true → unless_none (refused_at (record l { command = c })) ≡ true
      go (p.command n at k rs) h = broken n at (command_rule l.surroundings k) h

  all_refused : (ls : List Located) → list_all starts ls ≡ true → list_all passes (filter_map refused_at ls) ≡ true
  unfolding unless_none
  all_refused [] h = refl
  all_refused (l ∷ ls) h =
      let parts = and_parts (starts l) (list_all starts ls) h in
      go (refused_at l) (one_refused l parts.0) (all_refused ls parts.1)
    where
      go : (o : Option Refused) → unless_none o ≡ true → list_all passes (filter_map refused_at ls) ≡ true → list_all passes (cons_option o (filter_map refused_at ls)) ≡ true
      go None e k = k
      go (Some r) e k = and_from (passes r) (list_all passes (filter_map refused_at ls)) e k

  least_passes : (rs : List Refused) → list_all passes rs ≡ true → unless_none (least_refused rs) ≡ true
  unfolding least_refused unless_none
  least_passes [] h = refl
  least_passes (r ∷ rs) h =
      let parts = and_parts (passes r) (list_all passes rs) h in
      go (least_refused rs) refl (least_passes rs parts.1) parts.0
    where
      lesser : (b : Bool) (q : Refused) → passes q ≡ true → passes r ≡ true → unless_none (if b then Some q else Some r) ≡ true
      lesser true q e f = e
      lesser false q e f = f

      go : (o : Option Refused) → least_refused rs ≡ o → unless_none o ≡ true → passes r ≡ true → unless_none (least_refused (r ∷ rs)) ≡ true
      go None e k f = rw e f
      go (Some q) e k f = rw e (lesser (nat_lt q.number r.number) q k f)

  -- where each spot of a program passes, so does that of the command that is refused
  pub refused_passes : (t : p.Items) (q : Refused) → first_refused t ≡ Some q → list_all test (items_spots t) ≡ true → test (OfCommand q.at) ≡ true
  unfolding first_refused unless_none passes
  refused_passes t q e h =
      let cover = items_covered outside t in
      let all = cover.covered h in
      subst (λ o. unless_none o ≡ true) e (least_passes (filter_map refused_at (items_located outside t)) (all_refused (items_located outside t) all))
