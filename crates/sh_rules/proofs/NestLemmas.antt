-- A command is in no more loops than a script has commands.
use Rattle.std.proofs.Common.{◌≡◌, ℕ, suc, ◌+◌, ◌≤◌, Bool, true, false, nat_le, List, ◌∷◌, ◌++◌, length, refl, ◌∙◌, arith}
use Rattle.std.specs.List.{list_all}
use Rattle.std.proofs.lemmas.Bool.{and_from}
use Rattle.std.proofs.lemmas.Bool.Decides.{nat_tests}
use Rattle.std.proofs.lemmas.List.{length-append}
use Rattle.std.proofs.lemmas.List.Folds.{list_all-append}
use Rattle.sh_tree.specs.standard.program.Syntax as p
use Rattle.sh_runs.specs.Surroundings.{Surroundings, Located, outside, items_located, list_located, links_located, pipeline_located, commands_located, command_located, kind_located, elements_located, redirect_located, redirects_located, branches_located, otherwise_located, for_words_located, words_located, clauses_located, word_located, part_located, operator_located, expression_located, operands_located}
use Rattle.sh_domain.specs.declared.rule.FlowRule.{FlowRule}
use Rattle.sh_domain.specs.Entries.{Around, Entered, alone, in_loop, in_function, is_long, item_around, part_around, items_entered, list_entered, links_entered, pipeline_entered, commands_entered, command_entered, kind_entered, elements_entered, redirect_entered, redirects_entered, branches_entered, otherwise_entered, for_words_entered, words_entered, clauses_entered, patterns_entered, word_entered, part_entered, operator_entered, expression_entered, operands_entered, script_entered}
use Rattle.sh_domain.specs.Views.{Seen, After}

-- after so many there are no more than that
record IsShort (most before : ℕ) (ls : List Located) : Type 0 where
  pub short : before + length ls ≤ most

module _ (most : ℕ) where
  abbrev is_shallow : Entered → Bool
  is_shallow e = nat_le (length e.around.loops) most

  abbrev Shallow : List Entered → Type 0
  Shallow es = list_all is_shallow es ≡ true

  sooner : (k n : ℕ) (ls : List Located) → k ≤ n → IsShort most n ls → IsShort most k ls
  sooner k n ls h e = let it = e.short in record { short = omega (arith, h, it) }

  front : (n : ℕ) (ls ms : List Located) → IsShort most n (ls ++ ms) → IsShort most n ls
  front n ls ms e = let it = e.short in let both = length-append ls ms in record { short = omega (arith, it, both) }

  rest_of : (n : ℕ) (ls ms : List Located) → IsShort most n (ls ++ ms) → IsShort most n ms
  rest_of n ls ms e = let it = e.short in let both = length-append ls ms in record { short = omega (arith, it, both) }

  joined : (xs ys : List Entered) → Shallow xs → Shallow ys → Shallow (xs ++ ys)
  joined xs ys h k = list_all-append is_shallow xs ys ∙ and_from (list_all is_shallow xs) (list_all is_shallow ys) h k

  both : (n : ℕ) (ls ms : List Located) (xs ys : List Entered) → (IsShort most n ls → Shallow xs) → (IsShort most n ms → Shallow ys) → IsShort most n (ls ++ ms) → Shallow (xs ++ ys)
  both n ls ms xs ys h k e = joined xs ys (h (front n ls ms e)) (k (rest_of n ls ms e))

  turned : (n : ℕ) (ls ms : List Located) (xs ys : List Entered) → (IsShort most n ls → Shallow xs) → (IsShort most n ms → Shallow ys) → IsShort most n (ms ++ ls) → Shallow (xs ++ ys)
  turned n ls ms xs ys h k e = joined xs ys (h (rest_of n ms ls e)) (k (front n ms ls e))

  own : (n : ℕ) (l : Located) (ls : List Located) → IsShort most n (l ∷ ls) → nat_le n most ≡ true
  own n l ls e = let it : n + suc (length ls) ≤ most = e.short in grind (arith, nat_tests, it)

  inner : (n : ℕ) (l : Located) (ls : List Located) → IsShort most n (l ∷ ls) → IsShort most (suc n) ls
  inner n l ls e = let it : n + suc (length ls) ≤ most = e.short in record { short = omega (arith, it) }

  item_sooner : (background : Bool) (x : Around) (ls : List Located) → IsShort most (length x.loops) ls → IsShort most (length (item_around background x).loops) ls
  unfolding item_around
  item_sooner true x ls e = sooner 0 (length x.loops) ls (omega arith) e
  item_sooner false x ls e = e

  part_sooner : (long : Bool) (x : Around) (ls : List Located) → IsShort most (length x.loops) ls → IsShort most (length (part_around long x).loops) ls
  unfolding part_around
  part_sooner true x ls e = sooner 0 (length x.loops) ls (omega arith) e
  part_sooner false x ls e = e

  outer : (x : Around) (ls : List Located) → IsShort most (suc (length x.loops)) ls → IsShort most (length x.loops) ls
  outer x ls e = sooner (length x.loops) (suc (length x.loops)) ls (omega arith) e

  first : (n : ℕ) (ls : List Located) → IsShort most n ls → IsShort most 0 ls
  first n ls e = sooner 0 n ls (omega arith) e

  mutual
    unfolding items_located items_entered

    items_walked : (by : FlowRule) (x : Around) (z : Surroundings) (o : After) (t : p.Items) → IsShort most (length x.loops) (items_located z t) → Shallow (items_entered by x o t)
    items_walked by x z o p.no_items e = refl
    items_walked by x z o (p.more_items list background rest) e =
        both _ _ _ _ _ (λ h. list_walked _ (item_around background x) _ _ list (item_sooner background x _ h)) (items_walked _ x z _ rest) e

    list_walked : (by : FlowRule) (x : Around) (z : Surroundings) (s : Seen) (t : p.AndOr) → IsShort most (length x.loops) (list_located z t) → Shallow (list_entered by x s t)
    list_walked by x z s (p.and_or first rest) e = both _ _ _ _ _ (pipeline_walked by x z s first) (links_walked x z _ rest) e

    links_walked : (x : Around) (z : Surroundings) (o : After) (t : p.Links) → IsShort most (length x.loops) (links_located z t) → Shallow (links_entered x o t)
    links_walked x z o p.no_links e = refl
    links_walked x z o (p.more_links l q rest) e = both _ _ _ _ _ (pipeline_walked _ x z _ q) (links_walked x z _ rest) e

    pipeline_walked : (by : FlowRule) (x : Around) (z : Surroundings) (s : Seen) (t : p.Pipeline) → IsShort most (length x.loops) (pipeline_located z t) → Shallow (pipeline_entered by x s t)
    pipeline_walked by x z s (p.pipeline negated cs) e = commands_walked _ (part_around (is_long cs) x) _ _ cs (part_sooner (is_long cs) x _ e)

    commands_walked : (by : FlowRule) (x : Around) (z : Surroundings) (s : Seen) (t : p.Commands) → IsShort most (length x.loops) (commands_located z t) → Shallow (commands_entered by x s t)
    commands_walked by x z s p.no_commands e = refl
    commands_walked by x z s (p.more_commands c cs) e = both _ _ _ _ _ (command_walked by x z s c) (commands_walked by x z s cs) e

    command_walked : (by : FlowRule) (x : Around) (z : Surroundings) (s : Seen) (t : p.Command) → IsShort most (length x.loops) (command_located z t) → Shallow (command_entered by x s t)
    command_walked by x z s (p.command n offset k rs) e =
        and_from (nat_le (length x.loops) most) _ (own (length x.loops) _ _ e) (turned _ _ _ _ _ (redirects_walked _ _ rs) (kind_walked x z n _ k) (inner (length x.loops) _ _ e))

    kind_walked : (x : Around) (z : Surroundings) (n : ℕ) (s : Seen) (t : p.Kind) → IsShort most (suc (length x.loops)) (kind_located z t) → Shallow (kind_entered x n s t)
    kind_walked x z n s (p.Simple es) e = elements_walked _ _ _ es e
    kind_walked x z n s (p.Group list) e = items_walked _ x _ _ list (outer x _ e)
    kind_walked x z n s (p.Subshell list) e = items_walked _ alone _ _ list (first _ _ e)
    kind_walked x z n s (p.Conditional branches otherwise) e =
        both (suc (length x.loops)) (branches_located z branches) (otherwise_located z otherwise) _ _ (λ h. branches_walked x z s branches (outer x (branches_located z branches) h)) (λ h. otherwise_walked x z _ otherwise (outer x (otherwise_located z otherwise) h)) e
    kind_walked x z n s (p.Loop k condition body) e = both _ _ _ _ _ (items_walked _ (in_loop n x) _ _ condition) (items_walked _ (in_loop n x) _ _ body) e
    kind_walked x z n s (p.For name ws body) e = both _ _ _ _ _ (for_words_walked _ s ws) (items_walked _ (in_loop n x) _ _ body) e
    kind_walked x z n s (p.Case w cs) e = both _ _ _ _ _ (word_walked _ s w) (λ h. clauses_walked x _ _ _ cs (outer x _ h)) e
    kind_walked x z n s (p.Define name body) e = command_walked _ (in_function name) _ _ body (first _ _ e)

    elements_walked : (n : ℕ) (s behind : Seen) (t : p.Elements) → IsShort most n (elements_located t) → Shallow (elements_entered s behind t)
    elements_walked n s behind p.no_elements e = refl
    elements_walked n s behind (p.assignment name value es) e = both _ _ _ _ _ (word_walked n behind value) (elements_walked n s behind es) e
    elements_walked n s behind (p.operand w es) e = both _ _ _ _ _ (word_walked n s w) (elements_walked n _ behind es) e
    elements_walked n s behind (p.redirection r es) e = both _ _ _ _ _ (redirect_walked n behind r) (elements_walked n s behind es) e

    redirect_walked : (n : ℕ) (s : Seen) (t : p.Redirect) → IsShort most n (redirect_located t) → Shallow (redirect_entered s t)
    redirect_walked n s (p.File w) e = word_walked n s w e
    redirect_walked n s (p.Here w) e = word_walked n s w e

    redirects_walked : (n : ℕ) (s : Seen) (t : p.Redirects) → IsShort most n (redirects_located t) → Shallow (redirects_entered s t)
    redirects_walked n s p.no_redirects e = refl
    redirects_walked n s (p.more_redirects r rs) e = both _ _ _ _ _ (redirect_walked n s r) (redirects_walked n _ rs) e

    branches_walked : (x : Around) (z : Surroundings) (s : Seen) (t : p.Branches) → IsShort most (length x.loops) (branches_located z t) → Shallow (branches_entered x s t)
    branches_walked x z s p.no_branches e = refl
    branches_walked x z s (p.more_branches condition body rest) e =
        both _ _ _ _ _ (both _ _ _ _ _ (items_walked _ x z _ condition) (items_walked _ x z _ body)) (branches_walked x z _ rest) e

    otherwise_walked : (x : Around) (z : Surroundings) (s : Seen) (t : p.Otherwise) → IsShort most (length x.loops) (otherwise_located z t) → Shallow (otherwise_entered x s t)
    otherwise_walked x z s p.no_else e = refl
    otherwise_walked x z s (p.else_of list) e = items_walked _ x z _ list e

    for_words_walked : (n : ℕ) (s : Seen) (t : p.ForWords) → IsShort most n (for_words_located t) → Shallow (for_words_entered s t)
    for_words_walked n s p.every_parameter e = refl
    for_words_walked n s (p.listed ws) e = words_walked n s ws e

    words_walked : (n : ℕ) (s : Seen) (t : p.Words) → IsShort most n (words_located t) → Shallow (words_entered s t)
    words_walked n s p.no_words e = refl
    words_walked n s (p.more_words w ws) e = both _ _ _ _ _ (word_walked n s w) (words_walked n _ ws) e

    clauses_walked : (x : Around) (z : Surroundings) (s fallen : Seen) (t : p.Clauses) → IsShort most (length x.loops) (clauses_located z t) → Shallow (clauses_entered x s fallen t)
    clauses_walked x z s fallen p.no_clauses e = refl
    clauses_walked x z s fallen (p.more_clauses patterns body end rest) e =
        both _ _ _ _ _ (both _ _ _ _ _ (patterns_walked _ s patterns) (items_walked _ x z _ body)) (clauses_walked x z s _ rest) e

    patterns_walked : (n : ℕ) (s : Seen) (t : p.Words) → IsShort most n (words_located t) → Shallow (patterns_entered s t)
    patterns_walked n s p.no_words e = refl
    patterns_walked n s (p.more_words w ws) e = both _ _ _ _ _ (word_walked n s w) (patterns_walked n s ws) e

    word_walked : (n : ℕ) (s : Seen) (t : p.Word) → IsShort most n (word_located t) → Shallow (word_entered s t)
    word_walked n s p.no_parts e = refl
    word_walked n s (p.more_parts y w) e = both _ _ _ _ _ (part_walked n s y) (word_walked n _ w) e

    part_walked : (n : ℕ) (s : Seen) (t : p.Part) → IsShort most n (part_located t) → Shallow (part_entered s t)
    part_walked n s (p.Double w) e = word_walked n s w e
    part_walked n s (p.Expansion offset parameter operator) e = operator_walked n s parameter operator e
    part_walked n s (p.Arithmetic offset x) e = expression_walked n s x e
    part_walked n s (p.Substitution offset list) e = items_walked _ alone _ _ list (first n _ e)
    part_walked n s t e = refl

    operator_walked : (n : ℕ) (s : Seen) (parameter : p.Parameter) (t : p.Operator) → IsShort most n (operator_located t) → Shallow (operator_entered s parameter t)
    operator_walked n s parameter (p.Use action colon w) e = word_walked n _ w e
    operator_walked n s parameter (p.Remove removal w) e = word_walked n s w e
    operator_walked n s parameter t e = refl

    expression_walked : (n : ℕ) (s : Seen) (t : p.Expression) → IsShort most n (expression_located t) → Shallow (expression_entered s t)
    expression_walked n s (p.Expanded y) e = part_walked n s y e
    expression_walked n s (p.Parenthesis t) e = expression_walked n s t e
    expression_walked n s (p.Signed operator t) e = expression_walked n s t e
    expression_walked n s (p.Chain t rest) e = both _ _ _ _ _ (expression_walked n s t) (operands_walked n _ rest) e
    expression_walked n s (p.Choice t then_one else_one) e =
        both _ _ _ _ _ (both _ _ _ _ _ (expression_walked n s t) (expression_walked n _ then_one)) (expression_walked n _ else_one) e
    expression_walked n s (p.Assigned offset name operator t) e = expression_walked n s t e
    expression_walked n s t e = refl

    operands_walked : (n : ℕ) (s : Seen) (t : p.Operands) → IsShort most n (operands_located t) → Shallow (operands_entered s t)
    operands_walked n s p.no_operands e = refl
    operands_walked n s (p.more_operands operator t rest) e = both _ _ _ _ _ (expression_walked n s t) (operands_walked n _ rest) e

  pub script_shallow : (t : p.Items) → length (items_located outside t) ≤ most → Shallow (script_entered t)
  unfolding script_entered
  script_shallow t h = items_walked _ alone outside _ t (record { short = omega (arith, h) })
