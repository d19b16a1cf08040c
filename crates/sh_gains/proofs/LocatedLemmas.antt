-- The commands of a program are entered as they are, in whatever order.
use Rattle.std.proofs.Common.{◌≡◌, ℕ, Bool, true, false, ◌&&◌, List, [], ◌∷◌, ◌++◌, refl, sym, ◌∙◌, ap, ap₂}
use Rattle.std.specs.List.{list_all}
use Rattle.std.proofs.lemmas.List.Folds.{list_all-append}
use Rattle.sh_tree.specs.standard.program.Syntax as p
use Rattle.sh_runs.specs.Surroundings.{Surroundings, Located, outside, items_located, list_located, links_located, pipeline_located, commands_located, command_located, kind_located, elements_located, redirect_located, redirects_located, branches_located, otherwise_located, for_words_located, words_located, clauses_located, word_located, part_located, operator_located, expression_located, operands_located}
use Rattle.sh_domain.specs.declared.rule.FlowRule.{FlowRule}
use Rattle.sh_domain.specs.declared.rule.FlowRule.TheVariants.{F7, F8}
use Rattle.sh_domain.specs.Entries.{Around, Entered, alone, in_loop, in_function, is_long, item_rule, item_around, item_seen, part_around, turns, items_after, items_entered, list_entered, links_entered, pipeline_entered, commands_entered, command_entered, kind_entered, elements_entered, redirect_entered, redirects_entered, branches_entered, otherwise_entered, for_words_entered, words_entered, clauses_entered, patterns_entered, word_entered, part_entered, operator_entered, expression_entered, operands_entered, script_entered}
use Rattle.sh_domain.specs.Views.{Seen, After, Both, Head, at, in_any_case, gaining_names}

swapped : (a b : Bool) → (a && b) ≡ (b && a)
swapped true true = refl
swapped true false = refl
swapped false true = refl
swapped false false = refl

-- of any test of a command
module _ (test : p.Command → Bool) where
  abbrev of_located : Located → Bool
  of_located l = test l.command

  abbrev of_entered : Entered → Bool
  of_entered e = test e.command

  abbrev Same : List Located → List Entered → Type 0
  Same ls es = list_all of_located ls ≡ list_all of_entered es

  both : (ls ms : List Located) (xs ys : List Entered) → Same ls xs → Same ms ys → Same (ls ++ ms) (xs ++ ys)
  both ls ms xs ys h k = list_all-append of_located ls ms ∙ ap₂ (λ a b. a && b) h k ∙ sym (list_all-append of_entered xs ys)

  -- if the second is first
  turned : (ls ms : List Located) (xs ys : List Entered) → Same ls xs → Same ms ys → Same (ms ++ ls) (xs ++ ys)
  turned ls ms xs ys h k =
      list_all-append of_located ms ls
      ∙ ap₂ (λ a b. a && b) k h
      ∙ swapped (list_all of_entered ys) (list_all of_entered xs)
      ∙ sym (list_all-append of_entered xs ys)

  mutual
    unfolding items_located items_entered

    items_listed : (y : Surroundings) (by : FlowRule) (x : Around) (o : After) (t : p.Items) → Same (items_located y t) (items_entered by x o t)
    items_listed y by x o p.no_items = refl
    items_listed y by x o (p.more_items list background rest) =
        both _ _ _ _ (list_listed _ (item_rule background by) (item_around background x) (item_seen background (in_any_case o)) list) (items_listed _ _ x _ rest)

    list_listed : (y : Surroundings) (by : FlowRule) (x : Around) (s : Seen) (t : p.AndOr) → Same (list_located y t) (list_entered by x s t)
    list_listed y by x s (p.and_or first rest) = both _ _ _ _ (pipeline_listed _ by x s first) (links_listed _ x _ rest)

    links_listed : (y : Surroundings) (x : Around) (o : After) (t : p.Links) → Same (links_located y t) (links_entered x o t)
    links_listed y x o p.no_links = refl
    links_listed y x o (p.more_links l q rest) = both _ _ _ _ (pipeline_listed _ _ x _ q) (links_listed _ x _ rest)

    pipeline_listed : (y : Surroundings) (by : FlowRule) (x : Around) (s : Seen) (t : p.Pipeline) → Same (pipeline_located y t) (pipeline_entered by x s t)
    pipeline_listed y by x s (p.pipeline negated cs) =
        commands_listed _ _ (part_around (is_long cs) x) _ cs

    commands_listed : (y : Surroundings) (by : FlowRule) (x : Around) (s : Seen) (t : p.Commands) → Same (commands_located y t) (commands_entered by x s t)
    commands_listed y by x s p.no_commands = refl
    commands_listed y by x s (p.more_commands c cs) = both _ _ _ _ (command_listed _ by x s c) (commands_listed _ by x s cs)

    command_listed : (y : Surroundings) (by : FlowRule) (x : Around) (s : Seen) (t : p.Command) → Same (command_located y t) (command_entered by x s t)
    command_listed y by x s (p.command n offset k rs) =
        ap (λ b. test (p.command n offset k rs) && b) (turned _ _ _ _ (redirects_listed _ rs) (kind_listed _ x n _ k))

    kind_listed : (y : Surroundings) (x : Around) (n : ℕ) (s : Seen) (t : p.Kind) → Same (kind_located y t) (kind_entered x n s t)
    kind_listed y x n s (p.Simple es) = elements_listed _ _ es
    kind_listed y x n s (p.Group list) = items_listed _ _ x _ list
    kind_listed y x n s (p.Subshell list) = items_listed _ _ alone _ list
    kind_listed y x n s (p.Conditional branches otherwise) = both _ _ _ _ (branches_listed _ x s branches) (otherwise_listed _ x _ otherwise)
    kind_listed y x n s (p.Loop k condition body) =
        both _ _ _ _ (items_listed _ F7 (in_loop n x) (Both (at (Head n))) condition)
        (items_listed _ F7 (in_loop n x) (Both (turns k (items_after (Both (at (Head n))) condition))) body)
    kind_listed y x n s (p.For name ws body) =
        both _ _ _ _ (for_words_listed s ws) (items_listed _ F8 (in_loop n x) (Both (gaining_names (name ∷ []) (at (Head n)))) body)
    kind_listed y x n s (p.Case w cs) = both _ _ _ _ (word_listed s w) (clauses_listed _ x _ _ cs)
    kind_listed y x n s (p.Define name body) = command_listed _ _ (in_function name) _ body

    elements_listed : (s behind : Seen) (t : p.Elements) → Same (elements_located t) (elements_entered s behind t)
    elements_listed s behind p.no_elements = refl
    elements_listed s behind (p.assignment name value es) = both _ _ _ _ (word_listed behind value) (elements_listed s behind es)
    elements_listed s behind (p.operand w es) = both _ _ _ _ (word_listed s w) (elements_listed _ behind es)
    elements_listed s behind (p.redirection r es) = both _ _ _ _ (redirect_listed behind r) (elements_listed s behind es)

    redirect_listed : (s : Seen) (t : p.Redirect) → Same (redirect_located t) (redirect_entered s t)
    redirect_listed s (p.File w) = word_listed s w
    redirect_listed s (p.Here w) = word_listed s w

    redirects_listed : (s : Seen) (t : p.Redirects) → Same (redirects_located t) (redirects_entered s t)
    redirects_listed s p.no_redirects = refl
    redirects_listed s (p.more_redirects r rs) = both _ _ _ _ (redirect_listed s r) (redirects_listed _ rs)

    branches_listed : (y : Surroundings) (x : Around) (s : Seen) (t : p.Branches) → Same (branches_located y t) (branches_entered x s t)
    branches_listed y x s p.no_branches = refl
    branches_listed y x s (p.more_branches condition body rest) =
        both _ _ _ _ (both _ _ _ _ (items_listed _ _ x _ condition) (items_listed _ _ x _ body)) (branches_listed _ x _ rest)

    otherwise_listed : (y : Surroundings) (x : Around) (s : Seen) (t : p.Otherwise) → Same (otherwise_located y t) (otherwise_entered x s t)
    otherwise_listed y x s p.no_else = refl
    otherwise_listed y x s (p.else_of list) = items_listed _ _ x _ list

    for_words_listed : (s : Seen) (t : p.ForWords) → Same (for_words_located t) (for_words_entered s t)
    for_words_listed s p.every_parameter = refl
    for_words_listed s (p.listed ws) = words_listed s ws

    words_listed : (s : Seen) (t : p.Words) → Same (words_located t) (words_entered s t)
    words_listed s p.no_words = refl
    words_listed s (p.more_words w ws) = both _ _ _ _ (word_listed s w) (words_listed _ ws)

    clauses_listed : (y : Surroundings) (x : Around) (s fallen : Seen) (t : p.Clauses) → Same (clauses_located y t) (clauses_entered x s fallen t)
    clauses_listed y x s fallen p.no_clauses = refl
    clauses_listed y x s fallen (p.more_clauses patterns body end rest) =
        both _ _ _ _ (both _ _ _ _ (patterns_listed s patterns) (items_listed _ _ x _ body)) (clauses_listed _ x s _ rest)

    patterns_listed : (s : Seen) (t : p.Words) → Same (words_located t) (patterns_entered s t)
    patterns_listed s p.no_words = refl
    patterns_listed s (p.more_words w ws) = both _ _ _ _ (word_listed s w) (patterns_listed s ws)

    word_listed : (s : Seen) (t : p.Word) → Same (word_located t) (word_entered s t)
    word_listed s p.no_parts = refl
    word_listed s (p.more_parts z w) = both _ _ _ _ (part_listed s z) (word_listed _ w)

    part_listed : (s : Seen) (t : p.Part) → Same (part_located t) (part_entered s t)
    part_listed s (p.Double w) = word_listed s w
    part_listed s (p.Expansion offset parameter operator) = operator_listed s parameter operator
    part_listed s (p.Arithmetic offset x) = expression_listed s x
    part_listed s (p.Substitution offset list) = items_listed _ _ alone _ list
    part_listed s t = refl

    operator_listed : (s : Seen) (parameter : p.Parameter) (t : p.Operator) → Same (operator_located t) (operator_entered s parameter t)
    operator_listed s parameter (p.Use action colon w) = word_listed _ w
    operator_listed s parameter (p.Remove removal w) = word_listed s w
    operator_listed s parameter t = refl

    expression_listed : (s : Seen) (t : p.Expression) → Same (expression_located t) (expression_entered s t)
    expression_listed s (p.Expanded z) = part_listed s z
    expression_listed s (p.Parenthesis t) = expression_listed s t
    expression_listed s (p.Signed operator t) = expression_listed s t
    expression_listed s (p.Chain t rest) = both _ _ _ _ (expression_listed s t) (operands_listed _ rest)
    expression_listed s (p.Choice t then_one else_one) =
        both _ _ _ _ (both _ _ _ _ (expression_listed s t) (expression_listed _ then_one)) (expression_listed _ else_one)
    expression_listed s (p.Assigned offset name operator t) = expression_listed s t
    expression_listed s t = refl

    operands_listed : (s : Seen) (t : p.Operands) → Same (operands_located t) (operands_entered s t)
    operands_listed s p.no_operands = refl
    operands_listed s (p.more_operands operator t rest) = both _ _ _ _ (expression_listed s t) (operands_listed _ rest)

  pub script_listed : (t : p.Items) → Same (items_located outside t) (script_entered t)
  unfolding script_entered
  script_listed t = items_listed _ _ alone _ t
