-- What is round the commands of a script is of the script.
use Rattle.std.proofs.Common.{◌≡◌, ℕ, ◌-◌, nat_le, nat_lt, Bool, true, false, ◌&&◌, length, slice_get, unwrap_or, Option, Some, None, List, ◌++◌, refl, sym, ◌∙◌}
use Rattle.std.specs.List.{list_all}
use Rattle.std.proofs.lemmas.Bool.{and_from, and_parts}
use Rattle.std.proofs.lemmas.List.Folds.{list_all-append}
use Rattle.sh_tree.specs.standard.program.Syntax as p
use Rattle.sh_tree.specs.standard.program.Syntax.{Text}
use Rattle.sh_runs.specs.standard.runs.Environment.{is_one_of}
use Rattle.sh_domain.specs.declared.rule.FlowRule.{FlowRule}
use Rattle.sh_domain.specs.Entries.{Around, Entered, alone, in_loop, in_function, is_long, item_around, part_around, items_entered, list_entered, links_entered, pipeline_entered, commands_entered, command_entered, kind_entered, elements_entered, redirect_entered, redirects_entered, branches_entered, otherwise_entered, for_words_entered, words_entered, clauses_entered, patterns_entered, word_entered, part_entered, operator_entered, expression_entered, operands_entered, script_entered}
use Rattle.sh_domain.specs.Views.{Seen, After}

-- a command, and a loop, by its number from 1, if it is known of each command whether it is a loop
unfoldable pub is_command : List Bool → ℕ → Bool
is_command loops n = nat_lt 0 n && nat_le n (length loops)

unfoldable pub is_head : List Bool → ℕ → Bool
is_head loops n = is_command loops n && unwrap_or (slice_get loops (n - 1)) false

module _ (loops : List Bool) (functions : List Text) where
  unfoldable pub kind_there : ℕ → p.Kind → Bool
  kind_there n (p.Loop k condition body) = is_head loops n
  kind_there n (p.For name ws body) = is_head loops n
  kind_there n (p.Define name body) = is_one_of functions name
  kind_there n _ = true

  -- a command of the script, a loop of it, or a definition of one of its functions
  unfoldable pub command_there : p.Command → Bool
  command_there (p.command n at k rs) = is_command loops n && kind_there n k

  unfoldable pub name_there : Option Text → Bool
  name_there None = true
  name_there (Some f) = is_one_of functions f

  abbrev around_there : Around → Bool
  around_there x = list_all (is_head loops) x.loops && (name_there x.function && name_there x.drops)

  abbrev Commands : List Entered → Type 0
  Commands es = list_all (λ (e : Entered). command_there e.command) es ≡ true

  abbrev AreRound : List Entered → Type 0
  AreRound es = list_all (λ (e : Entered). around_there e.around) es ≡ true

  abbrev Is : Around → Type 0
  Is x = around_there x ≡ true

  joined : (xs ys : List Entered) → AreRound xs → AreRound ys → AreRound (xs ++ ys)
  joined xs ys h k = list_all-append (λ (e : Entered). around_there e.around) xs ys ∙ and_from _ _ h k

  both : (xs ys : List Entered) → (Commands xs → AreRound xs) → (Commands ys → AreRound ys) → Commands (xs ++ ys) → AreRound (xs ++ ys)
  both xs ys h k e =
      let parts = and_parts (list_all (λ (c : Entered). command_there c.command) xs) (list_all (λ (c : Entered). command_there c.command) ys) (sym (list_all-append (λ (c : Entered). command_there c.command) xs ys) ∙ e) in
      joined xs ys (h parts.0) (k parts.1)

  is_alone : Is alone
  unfolding name_there
  is_alone = refl

  item_is : (background : Bool) (x : Around) → Is x → Is (item_around background x)
  unfolding item_around
  item_is true x h = is_alone
  item_is false x h = h

  part_is : (long : Bool) (x : Around) → Is x → Is (part_around long x)
  unfolding part_around name_there
  part_is true x h = let parts = and_parts (list_all (is_head loops) x.loops) _ h in (and_parts (name_there x.function) (name_there x.drops) parts.1).1
  part_is false x h = h

  loop_is : (n : ℕ) (x : Around) → is_head loops n ≡ true → Is x → Is (in_loop n x)
  loop_is n x e h = let parts = and_parts (list_all (is_head loops) x.loops) _ h in and_from _ _ (and_from (is_head loops n) (list_all (is_head loops) x.loops) e parts.0) parts.1

  function_is : (f : Text) → is_one_of functions f ≡ true → Is (in_function f)
  unfolding name_there
  function_is f e = and_from (is_one_of functions f) (is_one_of functions f) e e

  mutual
    unfolding items_entered command_there kind_there

    items_round : (by : FlowRule) (x : Around) (o : After) (t : p.Items) → Is x → Commands (items_entered by x o t) → AreRound (items_entered by x o t)
    items_round by x o p.no_items i e = refl
    items_round by x o (p.more_items list background rest) i e =
        both _ _ (list_round _ (item_around background x) _ list (item_is background x i)) (items_round _ x _ rest i) e

    list_round : (by : FlowRule) (x : Around) (s : Seen) (t : p.AndOr) → Is x → Commands (list_entered by x s t) → AreRound (list_entered by x s t)
    list_round by x s (p.and_or first rest) i e = both _ _ (pipeline_round by x s first i) (links_round x _ rest i) e

    links_round : (x : Around) (o : After) (t : p.Links) → Is x → Commands (links_entered x o t) → AreRound (links_entered x o t)
    links_round x o p.no_links i e = refl
    links_round x o (p.more_links l q rest) i e = both _ _ (pipeline_round _ x _ q i) (links_round x _ rest i) e

    pipeline_round : (by : FlowRule) (x : Around) (s : Seen) (t : p.Pipeline) → Is x → Commands (pipeline_entered by x s t) → AreRound (pipeline_entered by x s t)
    pipeline_round by x s (p.pipeline negated cs) i e = commands_round _ (part_around (is_long cs) x) _ cs (part_is (is_long cs) x i) e

    commands_round : (by : FlowRule) (x : Around) (s : Seen) (t : p.Commands) → Is x → Commands (commands_entered by x s t) → AreRound (commands_entered by x s t)
    commands_round by x s p.no_commands i e = refl
    commands_round by x s (p.more_commands c cs) i e = both _ _ (command_round by x s c i) (commands_round by x s cs i) e

    command_round : (by : FlowRule) (x : Around) (s : Seen) (t : p.Command) → Is x → Commands (command_entered by x s t) → AreRound (command_entered by x s t)
    command_round by x s (p.command n offset k rs) i e =
        let parts = and_parts (command_there (p.command n offset k rs)) _ e in
        let own = and_parts (is_command loops n) (kind_there n k) parts.0 in
        and_from (around_there x) _ i (both _ _ (redirects_round _ rs) (kind_round x n _ k i own.1) parts.1)

    kind_round : (x : Around) (n : ℕ) (s : Seen) (t : p.Kind) → Is x → kind_there n t ≡ true → Commands (kind_entered x n s t) → AreRound (kind_entered x n s t)
    kind_round x n s (p.Simple es) i h e = elements_round _ _ es e
    kind_round x n s (p.Group list) i h e = items_round _ x _ list i e
    kind_round x n s (p.Subshell list) i h e = items_round _ alone _ list is_alone e
    kind_round x n s (p.Conditional branches otherwise) i h e = both _ _ (branches_round x s branches i) (otherwise_round x _ otherwise i) e
    kind_round x n s (p.Loop k condition body) i h e = both _ _ (items_round _ (in_loop n x) _ condition (loop_is n x h i)) (items_round _ (in_loop n x) _ body (loop_is n x h i)) e
    kind_round x n s (p.For name ws body) i h e = both _ _ (for_words_round s ws) (items_round _ (in_loop n x) _ body (loop_is n x h i)) e
    kind_round x n s (p.Case w cs) i h e = both _ _ (word_round s w) (clauses_round x _ _ cs i) e
    kind_round x n s (p.Define name body) i h e = command_round _ (in_function name) _ body (function_is name h) e

    elements_round : (s behind : Seen) (t : p.Elements) → Commands (elements_entered s behind t) → AreRound (elements_entered s behind t)
    elements_round s behind p.no_elements e = refl
    elements_round s behind (p.assignment name value es) e = both _ _ (word_round behind value) (elements_round s behind es) e
    elements_round s behind (p.operand w es) e = both _ _ (word_round s w) (elements_round _ behind es) e
    elements_round s behind (p.redirection r es) e = both _ _ (redirect_round behind r) (elements_round s behind es) e

    redirect_round : (s : Seen) (t : p.Redirect) → Commands (redirect_entered s t) → AreRound (redirect_entered s t)
    redirect_round s (p.File w) e = word_round s w e
    redirect_round s (p.Here w) e = word_round s w e

    redirects_round : (s : Seen) (t : p.Redirects) → Commands (redirects_entered s t) → AreRound (redirects_entered s t)
    redirects_round s p.no_redirects e = refl
    redirects_round s (p.more_redirects r rs) e = both _ _ (redirect_round s r) (redirects_round _ rs) e

    branches_round : (x : Around) (s : Seen) (t : p.Branches) → Is x → Commands (branches_entered x s t) → AreRound (branches_entered x s t)
    branches_round x s p.no_branches i e = refl
    branches_round x s (p.more_branches condition body rest) i e =
        both _ _ (both _ _ (items_round _ x _ condition i) (items_round _ x _ body i)) (branches_round x _ rest i) e

    otherwise_round : (x : Around) (s : Seen) (t : p.Otherwise) → Is x → Commands (otherwise_entered x s t) → AreRound (otherwise_entered x s t)
    otherwise_round x s p.no_else i e = refl
    otherwise_round x s (p.else_of list) i e = items_round _ x _ list i e

    for_words_round : (s : Seen) (t : p.ForWords) → Commands (for_words_entered s t) → AreRound (for_words_entered s t)
    for_words_round s p.every_parameter e = refl
    for_words_round s (p.listed ws) e = words_round s ws e

    words_round : (s : Seen) (t : p.Words) → Commands (words_entered s t) → AreRound (words_entered s t)
    words_round s p.no_words e = refl
    words_round s (p.more_words w ws) e = both _ _ (word_round s w) (words_round _ ws) e

    clauses_round : (x : Around) (s fallen : Seen) (t : p.Clauses) → Is x → Commands (clauses_entered x s fallen t) → AreRound (clauses_entered x s fallen t)
    clauses_round x s fallen p.no_clauses i e = refl
    clauses_round x s fallen (p.more_clauses patterns body end rest) i e =
        both _ _ (both _ _ (patterns_round s patterns) (items_round _ x _ body i)) (clauses_round x s _ rest i) e

    patterns_round : (s : Seen) (t : p.Words) → Commands (patterns_entered s t) → AreRound (patterns_entered s t)
    patterns_round s p.no_words e = refl
    patterns_round s (p.more_words w ws) e = both _ _ (word_round s w) (patterns_round s ws) e

    word_round : (s : Seen) (t : p.Word) → Commands (word_entered s t) → AreRound (word_entered s t)
    word_round s p.no_parts e = refl
    word_round s (p.more_parts y w) e = both _ _ (part_round s y) (word_round _ w) e

    part_round : (s : Seen) (t : p.Part) → Commands (part_entered s t) → AreRound (part_entered s t)
    part_round s (p.Double w) e = word_round s w e
    part_round s (p.Expansion offset parameter operator) e = operator_round s parameter operator e
    part_round s (p.Arithmetic offset x) e = expression_round s x e
    part_round s (p.Substitution offset list) e = items_round _ alone _ list is_alone e
    part_round s t e = refl

    operator_round : (s : Seen) (parameter : p.Parameter) (t : p.Operator) → Commands (operator_entered s parameter t) → AreRound (operator_entered s parameter t)
    operator_round s parameter (p.Use action colon w) e = word_round _ w e
    operator_round s parameter (p.Remove removal w) e = word_round s w e
    operator_round s parameter t e = refl

    expression_round : (s : Seen) (t : p.Expression) → Commands (expression_entered s t) → AreRound (expression_entered s t)
    expression_round s (p.Expanded y) e = part_round s y e
    expression_round s (p.Parenthesis t) e = expression_round s t e
    expression_round s (p.Signed operator t) e = expression_round s t e
    expression_round s (p.Chain t rest) e = both _ _ (expression_round s t) (operands_round _ rest) e
    expression_round s (p.Choice t then_one else_one) e =
        both _ _ (both _ _ (expression_round s t) (expression_round _ then_one)) (expression_round _ else_one) e
    expression_round s (p.Assigned offset name operator t) e = expression_round s t e
    expression_round s t e = refl

    operands_round : (s : Seen) (t : p.Operands) → Commands (operands_entered s t) → AreRound (operands_entered s t)
    operands_round s p.no_operands e = refl
    operands_round s (p.more_operands operator t rest) e = both _ _ (expression_round s t) (operands_round _ rest) e

  pub all_round : (t : p.Items) → Commands (script_entered t) → AreRound (script_entered t)
  unfolding script_entered
  all_round t e = items_round _ alone _ t is_alone e
