-- Each step of a process leaves all good: lists, pipelines and compound commands, and with them
-- every piece of work.
use Rattle.std.proofs.Common.{◌≡◌, ℕ, zero, suc, ◌==◌, Bool, true, false, ◌||◌, if◌then◌else◌, Some, List, [], ◌∷◌, ◌++◌, refl, subst}
use Rattle.std.proofs.lemmas.Bool.{cond_both}
use Rattle.std.proofs.lemmas.Option.{same_Some}
use Rattle.sh_tree.specs.declared.tree.ClauseEnd.{ClauseEnd}
use Rattle.sh_tree.specs.declared.tree.ClauseEnd.TheVariants as clause
use Rattle.sh_tree.specs.declared.tree.LoopKind.{LoopKind}
use Rattle.sh_tree.specs.standard.program.Syntax as p
use Rattle.sh_tree.specs.standard.program.Syntax.{Text}
use Rattle.sh_tree.specs.standard.program.Words.{is_plainly}
use Rattle.sh_runs.specs.Surroundings.{Surroundings, outside, in_part, in_item, items_located, list_located, links_located, pipeline_located, commands_located, command_located, branches_located, otherwise_located}
use Rattle.sh_runs.specs.standard.runs.Environment.{Environment, Frame, copied}
use Rattle.sh_runs.specs.standard.runs.Answers.{Answer}
use Rattle.sh_runs.specs.standard.runs.Builtins.{nonzero}
use Rattle.sh_runs.specs.standard.runs.Expansion.{in_fields, in_one, Outcome, expand}
use Rattle.sh_runs.specs.standard.runs.States.{fresh}
use Rattle.sh_runs.specs.standard.runs.Steps.{opened, word_fields, word_splits, status_behind, picked, takes_link, takes_turn, and_or_work, simple_work, command_work, unless_ended, negated_work, parts, piped, items, links, failed_before, redirected_before, over_fields, over_words, begun, is_started_first, in_process, compound, branch, test, for_words, for_fields, fall, clause_list, falls, clauses, matched, patterns, act_on}
use Rattle.sh_runs.specs.standard.runs.Work.{Work, Items, Links, Pipeline, Negation, Command, Words, Prepare, Utility, Call, Return, Compound, If, Then, Test, Again, ForWords, ForFields, Clauses, Patterns, Fall, Start, Shares, Copies, Effect, goes, after_expansion}
use Rattle.sh_runs.proofs.ExpansionLemmas.{each_parts}
use Rattle.sh_runs.proofs.ProcessLemmas.{StartHolds, StartsHold}
use Rattle.sh_quote.specs.Invariant.{watched, is_good, AllGood, WordGood, WordsGood, RedirectsGood, SplitWordsGood, ItemsGood, CommandGood, BranchesGood, ClausesGood, ForWordsGood, KindGood, WorkGood, AllWorkGood, EnvironmentGood}
use Rattle.sh_quote.proofs.EffectLemmas.{set_good, unwatched_fits, function_good, copied_good, StateGood, expands, StartsGood, EffectGood, goes_good, ends_good, expanded_good, either_good, unless_good}
use Rattle.sh_quote.proofs.GoodLemmas.{command_good}
use Rattle.sh_quote.proofs.SimpleLemmas.{never_splits, words_good, prepare_good, back_good, utility_step_good, call_good}

module _ (numbers : Bool) (e : Environment) (f : Frame) (status : ℕ) (ws : List Work) (a : Answer) (env : EnvironmentGood numbers e) (rest : AllWorkGood numbers ws) where
  go_on : (status' : ℕ) (w : Work) → WorkGood numbers w → EffectGood numbers (goes e f status' (w ∷ ws))
  unfolding AllWorkGood
  go_on status' w h = goes_good numbers e f status' (w ∷ ws) env (h, rest)

  stay : (status' : ℕ) → EffectGood numbers (goes e f status' ws)
  stay status' = goes_good numbers e f status' ws env rest

  -- a step that starts processes too
  starting : (x : Effect) (xs : List Start) → EffectGood numbers x → StartsGood numbers xs → EffectGood numbers (record x { starts = xs })
  starting x xs h k = record { environment = h.environment; next = h.next; starts = k; quiet = h.quiet }

  -- Lists and pipelines

  items_good : (is : p.Items) → ItemsGood numbers is → EffectGood numbers (items e f status ws a is)
  unfolding items ItemsGood items_located list_located in_item AllWorkGood WorkGood StartsHold StartHolds and_or_work
  items_good p.no_items h = stay status
  items_good (p.more_items (p.and_or first ls) false left) h =
      let b = each_parts (is_good numbers) (pipeline_located h.0 first ++ links_located h.0 ls) (items_located h.0 left) h.1 in
      let c = each_parts (is_good numbers) (pipeline_located h.0 first) (links_located h.0 ls) b.0 in
      goes_good numbers e f status (Pipeline first ∷ Links ls ∷ Items left ∷ ws) env ((h.0, c.0), ((h.0, c.1), ((h.0, b.1), rest)))
  items_good (p.more_items (p.and_or first ls) true left) h =
      let b = each_parts (is_good numbers) (pipeline_located outside first ++ links_located outside ls) (items_located h.0 left) h.1 in
      let c = each_parts (is_good numbers) (pipeline_located outside first) (links_located outside ls) b.0 in
      let d : Environment = record e { job = true } in
      starting (goes d f 0 (Items left ∷ ws)) _
      (goes_good numbers d f 0 (Items left ∷ ws) (record { ifs = env.ifs; functions = env.functions }) ((h.0, b.1), rest))
      ((copied_good numbers (a.carries 0) e env, ((outside, c.0), ((outside, c.1), tt))), tt)

  links_good : (ls : p.Links) → WorkGood numbers (Links ls) → EffectGood numbers (links e f status ws a ls)
  unfolding links links_located WorkGood AllWorkGood
  links_good p.no_links h = stay status
  links_good (p.more_links l q left) h =
      let b = each_parts (is_good numbers) (pipeline_located h.0 q) (links_located h.0 left) h.1 in
      goes_good numbers e f status _ env (cond_both (takes_link l status) (Pipeline q ∷ Links left ∷ ws) (Links left ∷ ws) (AllWorkGood numbers) (λ k. ((h.0, b.0), ((h.0, b.1), rest))) (λ k. ((h.0, b.1), rest)))

  parts_good : (x : Surroundings) (n : ℕ) (cs : p.Commands) → AllGood numbers (commands_located x cs) → StartsGood numbers (parts e f status ws a n cs)
  unfolding parts commands_located StartsHold StartHolds WorkGood AllWorkGood CommandGood
  parts_good x n p.no_commands h = tt
  parts_good x n (p.more_commands c cs) h =
      let b = each_parts (is_good numbers) (command_located x c) (commands_located x cs) h in
      start_good (a.shares n) c (x, b.0) (copied (a.carries n) e) _ (copied_good numbers (a.carries n) e env) (parts_good x (suc n) cs b.1)
    where
      start_good : (s : Bool) (c : p.Command) → CommandGood numbers c → (d : Environment) (xs : List Start) → EnvironmentGood numbers d → StartsGood numbers xs
          → StartsGood numbers ((if s then Shares (Command c ∷ []) else Copies d (Command c ∷ [])) ∷ xs)
      start_good true c h d xs k l = ((h, tt), l)
      start_good false c h d xs k l = ((k, (h, tt)), l)

  piped_good : (behind : List Work) (x : Surroundings) (cs : p.Commands) → AllWorkGood numbers behind → AllGood numbers (commands_located x cs) → EffectGood numbers (piped e f status ws a behind cs)
  unfolding piped commands_located AllWorkGood WorkGood CommandGood
  piped_good behind x p.no_commands k h = goes_good numbers e f status behind env k
  piped_good behind x (p.more_commands c p.no_commands) k h =
      goes_good numbers e f status (Command c ∷ behind) env ((x, (each_parts (is_good numbers) (command_located x c) [] h).0), k)
  piped_good behind x (p.more_commands c (p.more_commands d cs)) k h =
      starting (goes e f a.status behind) _ (goes_good numbers e f a.status behind env k) (parts_good x 0 (p.more_commands c (p.more_commands d cs)) h)

  negated_good : (negated : Bool) → AllWorkGood numbers (negated_work e f status ws a negated)
  unfolding negated_work AllWorkGood WorkGood
  negated_good true = (tt, rest)
  negated_good false = rest

  -- Commands

  command_work_good : (c : p.Command) → CommandGood numbers c → WorkGood numbers (command_work c)
  unfolding command_work WorkGood CommandGood KindGood
  command_work_good (p.command number at kind rs) h = by_kind number at kind rs (command_good numbers h.0 number at kind rs h.1)
    where
      by_kind : (number at : ℕ) (kind : p.Kind) (rs : p.Redirects) → RedirectsGood numbers rs × KindGood numbers kind → WorkGood numbers (command_work (p.command number at kind rs))
      by_kind number at (p.Simple es) rs k = k.1
      by_kind number at (p.Group list) rs k = k
      by_kind number at (p.Subshell list) rs k = k
      by_kind number at (p.Conditional bs otherwise) rs k = k
      by_kind number at (p.Loop kind condition body) rs k = k
      by_kind number at (p.For name left body) rs k = k
      by_kind number at (p.Case w cs) rs k = k
      by_kind number at (p.Define name body) rs k = k

  -- a word that is one field, and what comes where its expansion does not end the process
  one_word : (w : p.Word) (x : Effect) → WordGood numbers w → (StateGood numbers (expand f status in_one w (fresh e a.given)).state → EffectGood numbers x)
      → EffectGood numbers (after_expansion (expand f status in_one w (fresh e a.given)).state false (unless_ended e f status ws a (expand f status in_one w (fresh e a.given)).state x))
  one_word w x h k =
      let s : StateGood numbers (expand f status in_one w (fresh e a.given)).state = expands numbers f status in_one w e a.given h env in
      expanded_good numbers _ false _ s (λ u. refl) (unless_good numbers e f status ws a _ x s.environment (λ b. k s))

  failed_good : (d : Environment) → EnvironmentGood numbers d → EffectGood numbers (failed_before e f status ws a d)
  unfolding failed_before
  failed_good d h = either_good numbers a.redirection_ends _ _ (λ b. ends_good numbers d f h) (λ b. goes_good numbers d f (nonzero a.status) ws h rest)

  over_fields_good : (n : ℕ) (name : Text) (ts : List Text) (body : p.Items) → watched numbers name ≡ false → ItemsGood numbers body → EffectGood numbers (over_fields e f status ws a n name ts body)
  unfolding over_fields WorkGood
  over_fields_good n name [] body h k = stay 0
  over_fields_good n name (t ∷ ts) body h k = go_on status (ForFields n name (t ∷ ts) body) (h, k)

  over_words_good : (n : ℕ) (name : Text) (left : p.ForWords) (body : p.Items) → watched numbers name ≡ false → ForWordsGood numbers left → ItemsGood numbers body
      → EffectGood numbers (over_words e f status ws a n name left body)
  unfolding over_words WorkGood ForWordsGood
  over_words_good n name p.every_parameter body h k l = over_fields_good n name f body h l
  over_words_good n name (p.listed left) body h k l = go_on status (ForWords n name left [] body) (h, k, l)

  begun_good : (n : ℕ) (kind : p.Kind) → KindGood numbers kind → EffectGood numbers (begun e f status ws a n kind)
  unfolding begun KindGood WorkGood AllWorkGood StartsHold StartHolds
  begun_good n (p.Simple es) h = go_on status (simple_work (record { number = n; elements = es })) h
  begun_good n (p.Group list) h = go_on status (Items list) h
  begun_good n (p.Subshell list) h = starting (goes e f a.status ws) _ (stay a.status) ((copied_good numbers (a.carries 0) e env, (h, tt)), tt)
  begun_good n (p.Conditional branches otherwise) h = go_on status (If n branches otherwise) h
  begun_good n (p.Loop kind condition body) h = goes_good numbers e f status (Items condition ∷ Test n kind condition body 0 ∷ ws) env (h.0, (h, rest))
  begun_good n (p.For name left body) h = over_words_good n name left body h.0 h.1 h.2
  begun_good n (p.Case w cs) h =
      one_word w _ h.0 (λ s. goes_good numbers _ f (status_behind (expand f status in_one w (fresh e a.given)).state status a) (Clauses n cs ∷ ws) s.environment (h.1, rest))
  begun_good n (p.Define name body) h = goes_good numbers _ f 0 ws (function_good numbers e name (Some body) env (λ c q. subst (CommandGood numbers) (same_Some body c q) h)) rest

  in_process_good : (kind : p.Kind) → KindGood numbers kind → KindGood numbers (in_process e f status ws a kind)
  unfolding in_process KindGood
  in_process_good (p.Subshell list) h = h
  in_process_good kind h = h

  compound_good : (n : ℕ) (rs : p.Redirects) (kind : p.Kind) → RedirectsGood numbers rs → KindGood numbers kind → EffectGood numbers (compound e f status ws a n rs kind)
  unfolding compound RedirectsGood StartsHold StartHolds AllWorkGood WorkGood redirected_before
  compound_good n p.no_redirects kind h k = begun_good n kind k
  compound_good n (p.more_redirects r left) kind h k =
      either_good numbers (is_started_first e f status ws a kind) _ _
      (λ b. starting (goes e f a.status ws) _ (stay a.status) ((env, ((h, in_process_good kind k), tt)), tt))
      (λ b.
      let t = (expand f status in_one (opened r) (fresh e a.given)).state in
      let s : StateGood numbers t = expands numbers f status in_one (opened r) e a.given h.0 env in
      expanded_good numbers _ false _ s (λ u. refl)
      (either_good numbers a.redirection_fails _ _ (λ q. failed_good _ s.environment)
      (λ q. unless_good numbers e f status ws a t _ s.environment (λ u. goes_good numbers _ f (status_behind t status a) (Compound n left kind ∷ ws) s.environment ((h.1, k), rest)))))

  branch_good : (n : ℕ) (branches : p.Branches) (otherwise : p.Otherwise) → BranchesGood numbers branches otherwise → EffectGood numbers (branch e f status ws a n branches otherwise)
  unfolding branch BranchesGood branches_located otherwise_located WorkGood AllWorkGood ItemsGood
  branch_good n p.no_branches p.no_else h = stay 0
  branch_good n p.no_branches (p.else_of list) h = go_on status (Items list) (h.0, h.2)
  branch_good n (p.more_branches condition body left) otherwise h =
      let b = each_parts (is_good numbers) (items_located h.0 condition ++ items_located h.0 body) (branches_located h.0 left) h.1 in
      let c = each_parts (is_good numbers) (items_located h.0 condition) (items_located h.0 body) b.0 in
      goes_good numbers e f status (Items condition ∷ Then n body left otherwise ∷ ws) env ((h.0, c.0), (((h.0, c.1), (h.0, b.1, h.2)), rest))

  test_good : (n : ℕ) (kind : LoopKind) (condition body : p.Items) (last : ℕ) → ItemsGood numbers condition × ItemsGood numbers body → EffectGood numbers (test e f status ws a n kind condition body last)
  unfolding test WorkGood AllWorkGood
  test_good n kind condition body last h =
      either_good numbers (takes_turn kind status) _ _ (λ b. goes_good numbers e f status (Items body ∷ Again n kind condition body ∷ ws) env (h.1, (h, rest))) (λ b. stay last)

  for_words_good : (n : ℕ) (name : Text) (left : p.Words) (ts : List Text) (body : p.Items) → watched numbers name ≡ false → SplitWordsGood numbers left → ItemsGood numbers body
      → EffectGood numbers (for_words e f status ws a n name left ts body)
  unfolding for_words SplitWordsGood WorkGood AllWorkGood
  for_words_good n name p.no_words ts body h k l = over_fields_good n name ts body h l
  for_words_good n name (p.more_words w left) ts body h k l =
      let oc : Outcome = expand f status in_fields w (fresh e a.given) in
      let s : StateGood numbers oc.state = expands numbers f status in_fields w e a.given k.0.word env in
      expanded_good numbers oc.state (word_splits in_fields oc) _ s (never_splits numbers f status w e a.given k.0 env)
      (unless_good numbers e f status ws a oc.state _ s.environment
      (λ b. goes_good numbers oc.state.environment f (status_behind oc.state status a) (ForWords n name left (ts ++ word_fields in_fields a oc) body ∷ ws) s.environment ((h, k.1, l), rest)))

  for_fields_good : (n : ℕ) (name : Text) (ts : List Text) (body : p.Items) → watched numbers name ≡ false → ItemsGood numbers body → EffectGood numbers (for_fields e f status ws a n name ts body)
  unfolding for_fields WorkGood AllWorkGood
  for_fields_good n name [] body h k = stay status
  for_fields_good n name (t ∷ ts) body h k =
      either_good numbers a.assignment_fails _ _ (λ b. ends_good numbers e f env)
      (λ b. goes_good numbers _ f status (Items body ∷ ForFields n name ts body ∷ ws) (set_good numbers e name (Some t) env (unwatched_fits numbers name (Some t) h)) (k, ((h, k), rest)))

  -- Clauses

  fall_good : (n : ℕ) (end : ClauseEnd) (left : p.Clauses) → ClausesGood numbers left → AllWorkGood numbers (fall e f status ws a n end left)
  unfolding fall WorkGood AllWorkGood
  fall_good n clause.Break left h = rest
  fall_good n clause.FallThrough left h = (h, rest)

  clause_list_good : (n : ℕ) (body : p.Items) (end : ClauseEnd) (left : p.Clauses) (d : Environment) (last : ℕ) → ItemsGood numbers body → ClausesGood numbers left → EnvironmentGood numbers d
      → EffectGood numbers (clause_list e f status ws a n body end left d last)
  unfolding clause_list AllWorkGood WorkGood
  clause_list_good n p.no_items end left d last h k g = goes_good numbers d f a.status _ g (fall_good n end left k)
  clause_list_good n (p.more_items list background is) end left d last h k g =
      goes_good numbers d f last (Items (p.more_items list background is) ∷ fall e f status ws a n end left) g (h, fall_good n end left k)

  falls_good : (n : ℕ) (cs : p.Clauses) → ClausesGood numbers cs → EffectGood numbers (falls e f status ws a n cs)
  unfolding falls ClausesGood
  falls_good n p.no_clauses h = stay status
  falls_good n (p.more_clauses patterns body end left) h = clause_list_good n body end left e status h.1 h.2 env

  clauses_good : (n : ℕ) (cs : p.Clauses) → ClausesGood numbers cs → EffectGood numbers (clauses e f status ws a n cs)
  unfolding clauses ClausesGood WorkGood
  clauses_good n p.no_clauses h = stay 0
  clauses_good n (p.more_clauses patterns body end left) h = go_on status (Patterns n patterns body end left) h

  picked_good : (n : ℕ) (w : p.Word) (vs : p.Words) → WordGood numbers w → WordsGood numbers vs → WordGood numbers (picked n w vs).0 × WordsGood numbers (picked n w vs).1
  unfolding picked WordsGood
  picked_good n w p.no_words h k = (h, tt)
  picked_good zero w (p.more_words v vs) h k = (h, k)
  picked_good (suc n) w (p.more_words v vs) h k = let q = picked_good n v vs k.0 k.1 in (q.0, (h, q.1))

  matched_good : (n : ℕ) (w : p.Word) (others : p.Words) (body : p.Items) (end : ClauseEnd) (left : p.Clauses) → WordGood numbers w → WordsGood numbers others → ItemsGood numbers body
      → ClausesGood numbers left → EffectGood numbers (matched e f status ws a n w others body end left)
  unfolding matched WorkGood AllWorkGood
  matched_good n w others body end left h o k l =
      one_word w _ h
      (λ s.
      either_good numbers (is_plainly (42 ∷ []) w || a.matches) _ _
      (λ b. clause_list_good n body end left _ _ k l s.environment)
      (λ b. goes_good numbers _ f (status_behind (expand f status in_one w (fresh e a.given)).state status a) (Patterns n others body end left ∷ ws) s.environment ((o, k, l), rest)))

  patterns_good : (n : ℕ) (vs : p.Words) (body : p.Items) (end : ClauseEnd) (left : p.Clauses) → WordsGood numbers vs → ItemsGood numbers body → ClausesGood numbers left
      → EffectGood numbers (patterns e f status ws a n vs body end left)
  unfolding patterns WordsGood WorkGood
  patterns_good n p.no_words body end left h k l = go_on status (Clauses n left) l
  patterns_good n (p.more_words w vs) body end left h k l =
      let q = picked_good a.pattern w vs h.0 h.1 in matched_good n _ _ body end left q.0 q.1 k l

  in_pipeline : (x : Surroundings) (negated : Bool) (cs : p.Commands) → AllGood numbers (pipeline_located x (p.pipeline negated cs)) → AllGood numbers (commands_located (in_part x cs) cs)
  unfolding pipeline_located
  in_pipeline x negated cs h = h

  -- All work

  pub act_on_good : (w : Work) → WorkGood numbers w → EffectGood numbers (act_on e f status ws a w)
  unfolding act_on WorkGood AllWorkGood
  act_on_good (Items is) h = items_good is h
  act_on_good (Links ls) h = links_good ls h
  act_on_good (Pipeline (p.pipeline negated cs)) h = pipeline_good negated cs h
    where
      pipeline_good : (negated : Bool) (cs : p.Commands) → WorkGood numbers (Pipeline (p.pipeline negated cs)) → EffectGood numbers (piped e f status ws a (negated_work e f status ws a negated) cs)
      pipeline_good negated cs h = piped_good (negated_work e f status ws a negated) (in_part h.0 cs) cs (negated_good negated) (in_pipeline h.0 negated cs h.1)
  act_on_good Negation h = stay _
  act_on_good (Command c) h = go_on status (command_work c) (command_work_good c h)
  act_on_good (Words k left ts rs xs) h = words_good numbers e f status ws a env rest k left ts rs xs h.0 h.1 h.2
  act_on_good (Prepare k ts rs xs failed) h = prepare_good numbers e f status ws a env rest k ts rs xs failed a.assignment_first h.0 h.1 h.2
  act_on_good (Utility k t ts rs xs prefixes values) h = utility_step_good numbers e f status ws a env rest k t ts rs xs prefixes values h.0 h.1 h.2 h.3
  act_on_good (Call n t ts body rs xs saved) h = call_good numbers e f status ws a env rest n t ts body rs xs saved h.0 h.1 h.2 h.3
  act_on_good (Return n t saved) h = back_good numbers e f status ws a env rest n t saved h
  act_on_good (Compound n rs kind) h = compound_good n rs kind h.0 h.1
  act_on_good (If n branches otherwise) h = branch_good n branches otherwise h
  act_on_good (Then n body branches otherwise) h =
      goes_good numbers e f status _ env (cond_both (status == 0) (Items body ∷ ws) (If n branches otherwise ∷ ws) (AllWorkGood numbers) (λ b. (h.0, rest)) (λ b. (h.1, rest)))
  act_on_good (Test n kind condition body last) h = test_good n kind condition body last h
  act_on_good (Again n kind condition body) h = goes_good numbers e f status (Items condition ∷ Test n kind condition body status ∷ ws) env (h.0, (h, rest))
  act_on_good (ForWords n name left ts body) h = for_words_good n name left ts body h.0 h.1 h.2
  act_on_good (ForFields n name ts body) h = for_fields_good n name ts body h.0 h.1
  act_on_good (Clauses n cs) h = clauses_good n cs h
  act_on_good (Patterns n left body end others) h = patterns_good n left body end others h.0 h.1 h.2
  act_on_good (Fall n cs) h = falls_good n cs h
