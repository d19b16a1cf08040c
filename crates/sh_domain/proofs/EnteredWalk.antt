-- What holds of each command where it is, holds of each as it is entered.
use Rattle.std.proofs.Common.{◌≡◌, ℕ, suc, ◌+◌, min, Bool, true, false, not, Option, Some, None, is_some, List, [], ◌∷◌, ◌++◌, length, refl, sym, ◌∙◌, ap, subst, arith, true≢false}
use Rattle.std.specs.List.{list_all}
use Rattle.std.proofs.lemmas.Bool.{and_parts, and_from}
use Rattle.std.proofs.lemmas.List.Folds.{list_all-append}
use Rattle.sh_tree.specs.standard.program.Syntax as p
use Rattle.sh_runs.specs.Admitted.{is_admitted}
use Rattle.sh_runs.specs.Profile.{command_rule, refused_at}
use Rattle.sh_runs.specs.Surroundings.{Surroundings, Located, outside, in_part, in_item, items_located, list_located, links_located, pipeline_located, commands_located, command_located, kind_located, elements_located, redirect_located, redirects_located, branches_located, otherwise_located, for_words_located, words_located, clauses_located, word_located, part_located, operator_located, expression_located, operands_located}
use Rattle.sh_runs.specs.Surroundings as s
use Rattle.sh_domain.specs.declared.rule.FlowRule.{FlowRule}
use Rattle.sh_domain.specs.declared.rule.FlowRule.TheVariants.{F7, F8}
use Rattle.sh_domain.specs.Entries.{Around, Entered, alone, in_loop, in_function, is_long, item_rule, item_around, item_seen, part_around, turns, items_after, items_entered, list_entered, links_entered, pipeline_entered, commands_entered, command_entered, kind_entered, elements_entered, redirect_entered, redirects_entered, branches_entered, otherwise_entered, for_words_entered, words_entered, clauses_entered, patterns_entered, word_entered, part_entered, operator_entered, expression_entered, operands_entered, script_entered}
use Rattle.sh_domain.specs.Inclusions.{Each, surroundings_of, command_formed, is_formed}
use Rattle.sh_domain.specs.Views.{Seen, After, Both, Head, at, in_any_case, gaining_names}
use Rattle.sh_domain.proofs.EachLemmas.{each_passes, each_weaker}
use Rattle.sh_runs.proofs.AdmittedLemmas.{is_free, mapped, items_listed}
use Rattle.sh_runs.proofs.PartLemmas.{commands_freed, freed}
use Rattle.sh_runs.proofs.RowLemmas.{free_freed}

-- What is round a command, as the profile has it

abbrev surroundings : ℕ → Bool → Surroundings
surroundings loops function = record { loops = loops; function = function; beyond = false }

one_more : (k : ℕ) → min (min k 255 + 1) 255 ≡ min (suc k) 255
one_more k = omega arith

loop_same : (n : ℕ) (x : Around) → s.in_loop (surroundings_of x) ≡ surroundings_of (in_loop n x)
loop_same n x = ap (λ k. surroundings k (is_some x.function)) (one_more (length x.loops))

item_same : (x : Around) (background : Bool) → in_item (surroundings_of x) background ≡ surroundings_of (item_around background x)
unfolding in_item item_around
item_same x true = refl
item_same x false = refl

-- The walk, of any test of a command and of what is round it, that asks no more in a process of its
-- own than in a part of a pipeline

module _ (test : Surroundings → p.Command → Bool) (freer : (b : Bool) (x : Surroundings) (c : p.Command) → test x c ≡ true → test (freed b x) c ≡ true) where
  abbrev of_located : Located → Bool
  of_located l = test l.surroundings l.command

  abbrev of_entered : Entered → Bool
  of_entered e = test (surroundings_of e.around) e.command

  abbrev Holds : List Located → Type 0
  Holds ls = list_all of_located ls ≡ true

  abbrev HoldsEntered : List Entered → Type 0
  HoldsEntered es = list_all of_entered es ≡ true

  joined : (xs ys : List Entered) → HoldsEntered xs → HoldsEntered ys → HoldsEntered (xs ++ ys)
  joined xs ys h k = list_all-append of_entered xs ys ∙ and_from (list_all of_entered xs) (list_all of_entered ys) h k

  both : (ls ms : List Located) (xs ys : List Entered) → (Holds ls → HoldsEntered xs) → (Holds ms → HoldsEntered ys) → Holds (ls ++ ms) → HoldsEntered (xs ++ ys)
  both ls ms xs ys h k e =
      let parts = and_parts (list_all of_located ls) (list_all of_located ms) (sym (list_all-append of_located ls ms) ∙ e) in
      joined xs ys (h parts.0) (k parts.1)

  -- if the second is first
  turned : (ls ms : List Located) (xs ys : List Entered) → (Holds ls → HoldsEntered xs) → (Holds ms → HoldsEntered ys) → Holds (ms ++ ls) → HoldsEntered (xs ++ ys)
  turned ls ms xs ys h k e =
      let parts = and_parts (list_all of_located ms) (list_all of_located ls) (sym (list_all-append of_located ms ls) ∙ e) in
      joined xs ys (h parts.1) (k parts.0)

  part_holds : (x : Around) (cs : p.Commands) → Holds (commands_located (in_part (surroundings_of x) cs) cs) → Holds (commands_located (surroundings_of (part_around (is_long cs) x)) cs)
  unfolding in_part is_long part_around
  part_holds x p.no_commands h = h
  part_holds x (p.more_commands c p.no_commands) h = h
  part_holds x (p.more_commands c (p.more_commands d cs)) h =
      commands_freed of_located freer false (in_part (surroundings_of x) (p.more_commands c (p.more_commands d cs))) (p.more_commands c (p.more_commands d cs)) h

  mutual
    unfolding items_located items_entered

    items_walked : (by : FlowRule) (x : Around) (o : After) (t : p.Items) → Holds (items_located (surroundings_of x) t) → HoldsEntered (items_entered by x o t)
    items_walked by x o p.no_items e = refl
    items_walked by x o (p.more_items list background rest) e =
        both _ _ _ _ (λ h. list_walked (item_rule background by) (item_around background x) (item_seen background (in_any_case o)) list (subst (λ y. Holds (list_located y list)) (item_same x background) h)) (items_walked _ x _ rest) e

    list_walked : (by : FlowRule) (x : Around) (s : Seen) (t : p.AndOr) → Holds (list_located (surroundings_of x) t) → HoldsEntered (list_entered by x s t)
    list_walked by x s (p.and_or first rest) e = both _ _ _ _ (pipeline_walked by x s first) (links_walked x _ rest) e

    links_walked : (x : Around) (o : After) (t : p.Links) → Holds (links_located (surroundings_of x) t) → HoldsEntered (links_entered x o t)
    links_walked x o p.no_links e = refl
    links_walked x o (p.more_links l q rest) e = both _ _ _ _ (pipeline_walked _ x _ q) (links_walked x _ rest) e

    pipeline_walked : (by : FlowRule) (x : Around) (s : Seen) (t : p.Pipeline) → Holds (pipeline_located (surroundings_of x) t) → HoldsEntered (pipeline_entered by x s t)
    pipeline_walked by x s (p.pipeline negated cs) e =
        commands_walked _ (part_around (is_long cs) x) _ cs (part_holds x cs e)

    commands_walked : (by : FlowRule) (x : Around) (s : Seen) (t : p.Commands) → Holds (commands_located (surroundings_of x) t) → HoldsEntered (commands_entered by x s t)
    commands_walked by x s p.no_commands e = refl
    commands_walked by x s (p.more_commands c cs) e = both _ _ _ _ (command_walked by x s c) (commands_walked by x s cs) e

    command_walked : (by : FlowRule) (x : Around) (s : Seen) (t : p.Command) → Holds (command_located (surroundings_of x) t) → HoldsEntered (command_entered by x s t)
    command_walked by x s (p.command n offset k rs) e =
        let parts = and_parts (test (surroundings_of x) (p.command n offset k rs)) (list_all of_located (kind_located (surroundings_of x) k ++ redirects_located rs)) e in
        and_from (test (surroundings_of x) (p.command n offset k rs)) _ parts.0 (turned _ _ _ _ (redirects_walked _ rs) (kind_walked x n _ k) parts.1)

    kind_walked : (x : Around) (n : ℕ) (s : Seen) (t : p.Kind) → Holds (kind_located (surroundings_of x) t) → HoldsEntered (kind_entered x n s t)
    kind_walked x n s (p.Simple es) e = elements_walked _ _ es e
    kind_walked x n s (p.Group list) e = items_walked _ x _ list e
    kind_walked x n s (p.Subshell list) e = items_walked _ alone _ list e
    kind_walked x n s (p.Conditional branches otherwise) e = both _ _ _ _ (branches_walked x s branches) (otherwise_walked x _ otherwise) e
    kind_walked x n s (p.Loop k condition body) e =
        both _ _ _ _ (λ h. items_walked F7 (in_loop n x) (Both (at (Head n))) condition (subst (λ y. Holds (items_located y condition)) (loop_same n x) h))
        (λ h. items_walked F7 (in_loop n x) (Both (turns k (items_after (Both (at (Head n))) condition))) body (subst (λ y. Holds (items_located y body)) (loop_same n x) h)) e
    kind_walked x n s (p.For name ws body) e =
        both _ _ _ _ (for_words_walked s ws) (λ h. items_walked F8 (in_loop n x) (Both (gaining_names (name ∷ []) (at (Head n)))) body (subst (λ y. Holds (items_located y body)) (loop_same n x) h)) e
    kind_walked x n s (p.Case w cs) e = both _ _ _ _ (word_walked s w) (clauses_walked x _ _ cs) e
    kind_walked x n s (p.Define name body) e = command_walked _ (in_function name) _ body e

    elements_walked : (s behind : Seen) (t : p.Elements) → Holds (elements_located t) → HoldsEntered (elements_entered s behind t)
    elements_walked s behind p.no_elements e = refl
    elements_walked s behind (p.assignment name value es) e = both _ _ _ _ (word_walked behind value) (elements_walked s behind es) e
    elements_walked s behind (p.operand w es) e = both _ _ _ _ (word_walked s w) (elements_walked _ behind es) e
    elements_walked s behind (p.redirection r es) e = both _ _ _ _ (redirect_walked behind r) (elements_walked s behind es) e

    redirect_walked : (s : Seen) (t : p.Redirect) → Holds (redirect_located t) → HoldsEntered (redirect_entered s t)
    redirect_walked s (p.File w) e = word_walked s w e
    redirect_walked s (p.Here w) e = word_walked s w e

    redirects_walked : (s : Seen) (t : p.Redirects) → Holds (redirects_located t) → HoldsEntered (redirects_entered s t)
    redirects_walked s p.no_redirects e = refl
    redirects_walked s (p.more_redirects r rs) e = both _ _ _ _ (redirect_walked s r) (redirects_walked _ rs) e

    branches_walked : (x : Around) (s : Seen) (t : p.Branches) → Holds (branches_located (surroundings_of x) t) → HoldsEntered (branches_entered x s t)
    branches_walked x s p.no_branches e = refl
    branches_walked x s (p.more_branches condition body rest) e =
        both _ _ _ _ (both _ _ _ _ (items_walked _ x _ condition) (items_walked _ x _ body)) (branches_walked x _ rest) e

    otherwise_walked : (x : Around) (s : Seen) (t : p.Otherwise) → Holds (otherwise_located (surroundings_of x) t) → HoldsEntered (otherwise_entered x s t)
    otherwise_walked x s p.no_else e = refl
    otherwise_walked x s (p.else_of list) e = items_walked _ x _ list e

    for_words_walked : (s : Seen) (t : p.ForWords) → Holds (for_words_located t) → HoldsEntered (for_words_entered s t)
    for_words_walked s p.every_parameter e = refl
    for_words_walked s (p.listed ws) e = words_walked s ws e

    words_walked : (s : Seen) (t : p.Words) → Holds (words_located t) → HoldsEntered (words_entered s t)
    words_walked s p.no_words e = refl
    words_walked s (p.more_words w ws) e = both _ _ _ _ (word_walked s w) (words_walked _ ws) e

    clauses_walked : (x : Around) (s fallen : Seen) (t : p.Clauses) → Holds (clauses_located (surroundings_of x) t) → HoldsEntered (clauses_entered x s fallen t)
    clauses_walked x s fallen p.no_clauses e = refl
    clauses_walked x s fallen (p.more_clauses patterns body end rest) e =
        both _ _ _ _ (both _ _ _ _ (patterns_walked s patterns) (items_walked _ x _ body)) (clauses_walked x s _ rest) e

    patterns_walked : (s : Seen) (t : p.Words) → Holds (words_located t) → HoldsEntered (patterns_entered s t)
    patterns_walked s p.no_words e = refl
    patterns_walked s (p.more_words w ws) e = both _ _ _ _ (word_walked s w) (patterns_walked s ws) e

    word_walked : (s : Seen) (t : p.Word) → Holds (word_located t) → HoldsEntered (word_entered s t)
    word_walked s p.no_parts e = refl
    word_walked s (p.more_parts y w) e = both _ _ _ _ (part_walked s y) (word_walked _ w) e

    part_walked : (s : Seen) (t : p.Part) → Holds (part_located t) → HoldsEntered (part_entered s t)
    part_walked s (p.Double w) e = word_walked s w e
    part_walked s (p.Expansion offset parameter operator) e = operator_walked s parameter operator e
    part_walked s (p.Arithmetic offset x) e = expression_walked s x e
    part_walked s (p.Substitution offset list) e = items_walked _ alone _ list e
    part_walked s t e = refl

    operator_walked : (s : Seen) (parameter : p.Parameter) (t : p.Operator) → Holds (operator_located t) → HoldsEntered (operator_entered s parameter t)
    operator_walked s parameter (p.Use action colon w) e = word_walked _ w e
    operator_walked s parameter (p.Remove removal w) e = word_walked s w e
    operator_walked s parameter t e = refl

    expression_walked : (s : Seen) (t : p.Expression) → Holds (expression_located t) → HoldsEntered (expression_entered s t)
    expression_walked s (p.Expanded y) e = part_walked s y e
    expression_walked s (p.Parenthesis t) e = expression_walked s t e
    expression_walked s (p.Signed operator t) e = expression_walked s t e
    expression_walked s (p.Chain t rest) e = both _ _ _ _ (expression_walked s t) (operands_walked _ rest) e
    expression_walked s (p.Choice t then_one else_one) e =
        both _ _ _ _ (both _ _ _ _ (expression_walked s t) (expression_walked _ then_one)) (expression_walked _ else_one) e
    expression_walked s (p.Assigned offset name operator t) e = expression_walked s t e
    expression_walked s t e = refl

    operands_walked : (s : Seen) (t : p.Operands) → Holds (operands_located t) → HoldsEntered (operands_entered s t)
    operands_walked s p.no_operands e = refl
    operands_walked s (p.more_operands operator t rest) e = both _ _ _ _ (expression_walked s t) (operands_walked _ rest) e

  pub script_walked : (t : p.Items) → Holds (items_located outside t) → HoldsEntered (script_entered t)
  unfolding script_entered
  script_walked t h = items_walked _ alone _ t h

-- Admission

-- the profile refuses nothing of the command
unfoldable pub AdmitsAt : Surroundings → p.Command → Type 0
AdmitsAt x (p.command n offset k rs) = command_rule x k ≡ None

abbrev pub Admits : Entered → Type 0
Admits e = AdmitsAt (surroundings_of e.around) e.command

none_told : {A : Type 0} (o : Option A) → not (is_some o) ≡ true → o ≡ None
none_told None e = refl
none_told (Some x) e = absurd (true≢false (sym e))

free_at : Surroundings → p.Command → Bool
free_at x c = is_free (record { command = c; surroundings = x })

free_admits : (x : Surroundings) (c : p.Command) → free_at x c ≡ true → AdmitsAt x c
unfolding free_at refused_at AdmitsAt
free_admits x (p.command n offset k rs) h = none_told (command_rule x k) (sym (ap not (mapped _ (command_rule x k))) ∙ h)

pub script_admits : (t : p.Items) → is_admitted t ≡ true → Each Admits (script_entered t)
unfolding free_at
script_admits t h =
    each_weaker (λ e k. free_admits (surroundings_of e.around) e.command k) (script_entered t)
    (each_passes (of_entered free_at free_freed) (script_entered t) (script_walked free_at free_freed t (sym (items_listed outside t) ∙ h)))

-- Form

-- each command is formed, as it is entered
pub script_formed : (t : p.Items) → is_formed t ≡ true → list_all (λ (e : Entered). command_formed e.command) (script_entered t) ≡ true
script_formed t h = script_walked (λ x c. command_formed c) (λ b x c k. k) t h
