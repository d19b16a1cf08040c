-- In every run, what processes have left to do is in the program. Take a test that each command of
-- the program passes with what is round it there. Each command that is left passes it, and the
-- marks after it say the same of it.
use Rattle.std.proofs.Common.{◌≡◌, ℕ, zero, suc, ◌-◌, ◌==◌, nat_le, ◌&&◌, ◌||◌, Bool, true, false, if◌then◌else◌, Option, Some, None, is_some, List, [], ◌∷◌, ◌++◌, length, unwrap_or, bytes_eq, refl, sym, ap, subst, ◌∙◌}
use Rattle.std.proofs.lemmas.Bool.{and_parts}
use Rattle.std.proofs.lemmas.Option.{same_Some, none-some}
use Rattle.sh_tree.specs.declared.known.KnownName.{KnownName}
use Rattle.sh_tree.specs.declared.known.KnownName.TheVariants as known
use Rattle.sh_tree.specs.declared.tree.ClauseEnd.{ClauseEnd}
use Rattle.sh_tree.specs.declared.tree.ClauseEnd.TheVariants as clause
use Rattle.sh_tree.specs.declared.tree.LoopKind.{LoopKind}
use Rattle.sh_tree.specs.standard.program.Syntax as p
use Rattle.sh_tree.specs.standard.program.Syntax.{Text}
use Rattle.sh_tree.specs.standard.program.Words.{Assignments, operands_in, redirects_in, assignments_in, is_plainly}
use Rattle.sh_runs.specs.declared.kind.Kind.{Kind}
use Rattle.sh_runs.specs.declared.kind.Kind.TheVariants as kind
use Rattle.sh_runs.specs.standard.Kinds.{kind_of}
use Rattle.sh_runs.specs.Surroundings.{Surroundings, Located, outside, in_loop, in_function, in_part, in_item, items_located, list_located, links_located, pipeline_located, commands_located, command_located, kind_located, elements_located, redirect_located, redirects_located, branches_located, otherwise_located, for_words_located, words_located, clauses_located, word_located}
use Rattle.sh_runs.specs.standard.runs.Environment.{Environment, Frame, put_text, with_function, showing, hiding}
use Rattle.sh_runs.specs.standard.runs.Answers.{Given, Answer}
use Rattle.sh_runs.specs.standard.runs.States.{State, Copy, fresh}
use Rattle.sh_runs.specs.standard.runs.Expansion.{Context, in_fields, in_one, Outcome, pieces_text, expand}
use Rattle.sh_runs.specs.standard.runs.Operands.{unset_operands, definitions_in, count_operand, read_names, getopts_name}
use Rattle.sh_runs.specs.standard.runs.Work.{Simple, Work, Items, Links, Pipeline, Negation, Command, Words, Prepare, Utility, Call, Return, Compound, If, Then, Test, Again, ForWords, ForFields, Clauses, Patterns, Fall, Saved, Start, Shares, Copies, Effect, goes, ends, of_copies, after_expansion, Mark, no_loop, marked, or_nearer, nth_mark, loop_mark, broken_off, continued, return_mark}
use Rattle.sh_runs.specs.standard.runs.Builtins.{nonzero, unset_names, shifted, restored, returned, special, special_or_end, reads, utility}
use Rattle.sh_runs.specs.standard.runs.Steps.{opened, Manner, Nameless, Special, Named, named_manner, manner, word_context, word_fields, word_splits, status_behind, Preparation, ready, next_redirect, next_assignment, in_order, in_any_order, next_preparation, may_copy, picked, takes_link, takes_turn, and_or_work, simple_work, command_work, expanded, unless_ended, negated_work, parts, piped, items, links, words, failed_in, redirected, assignment, invoked, prepared, prepare, kept, seen, utility_step, unseen, call, failed_before, redirected_before, over_fields, over_words, begun, is_started_first, in_process, compound, branch, test, for_words, for_fields, fall, clause_list, falls, clauses, matched, patterns, act_on, act}
use Rattle.sh_runs.specs.standard.runs.Worlds.{Process, World, Move, run, start_world}
use Rattle.sh_runs.proofs.EnvironmentLemmas.{if_either, showing_kept, hiding_kept, restored_kept, read_kept, option_kept, directory_kept, all_removed_kept}
use Rattle.sh_runs.proofs.ExpansionLemmas as expansion
use Rattle.sh_runs.proofs.ExpansionLemmas.{Each, each_parts, each_joined, word_kept}
use Rattle.sh_runs.proofs.MarkLemmas.{around}
use Rattle.sh_runs.proofs.PartLemmas.{commands_freed, freed}
use Rattle.sh_runs.proofs.ProcessLemmas.{StartHolds, StartsHold, EffectHolds, goes_holds, ends_holds, work_holds, run_holds}

-- What is known of a simple command while its words are expanded: by what is round it, the words
-- that are left and the fields so far.
abbrev pub Known : Type 1
Known = Surroundings → Simple → p.Words → List Text → Type 0

-- The test asks no more of a command in a process of its own than in a part of a pipeline. What is
-- known holds of each simple command that passes it, and goes on holding.
pub record Follows (ok : Located → Bool) (Q : Known) : Type 0 where
  pub freer : (b : Bool) (x : Surroundings) (c : p.Command) → ok (record { command = c; surroundings = x }) ≡ true → ok (record { command = c; surroundings = freed b x }) ≡ true
  pub begins : (x : Surroundings) (number at : ℕ) (es : p.Elements) (rs : p.Redirects)
      → ok (record { command = p.command number at (p.Simple es) rs; surroundings = x }) ≡ true → Q x (record { number = number; elements = es }) (operands_in es) []
  pub goes : (x : Surroundings) (k : Simple) (w : p.Word) (left : p.Words) (ts : List Text) (e : Environment) (f : Frame) (status : ℕ) (a : Answer)
      → let c = word_context ts w in
      let o = expand f status c w (fresh e a.given) in
      Q x k (p.more_words w left) ts → o.state.ended ≡ false → Q x k left (ts ++ word_fields c a o)

module _ (ok : Located → Bool) (Q : Known) where
  -- Environments, and what expansions do

  -- the bodies of functions
  abbrev pub FunctionsStand : Environment → Type 0
  FunctionsStand e = (name : Text) (body : p.Command) → e.functions name ≡ Some body → Each ok (command_located in_function body)

  function_stands : (e : Environment) (name : Text) (body : Option p.Command) → ((c : p.Command) → body ≡ Some c → Each ok (command_located in_function c))
      → FunctionsStand e → FunctionsStand (with_function e name body)
  unfolding put_text
  function_stands e name body h k t c = go (bytes_eq t name)
    where
      go : (b : Bool) → (if b then body else e.functions t) ≡ Some c → Each ok (command_located in_function c)
      go true i = h c i
      go false i = k t c i

  unfoldable pub CopiesStand : List Copy → Type 0
  CopiesStand [] = Unit {0}
  CopiesStand (c ∷ cs) = FunctionsStand c.environment × Each ok (items_located outside c.list) × CopiesStand cs

  copy_stands : (cs : List Copy) (c : Copy) → CopiesStand cs → FunctionsStand c.environment → Each ok (items_located outside c.list) → CopiesStand (cs ++ c ∷ [])
  unfolding CopiesStand
  copy_stands [] c h f k = (f, k, tt)
  copy_stands (d ∷ cs) c h f k = (h.0, h.1, copy_stands cs c h.2 f k)

  pub record StateStands (s : State) : Type 0 where
    pub functions : FunctionsStand s.environment
    pub copies : CopiesStand s.copies

  states_kept : expansion.Keeps ok StateStands
  states_kept = record {
    met = λ s h. record { functions = h.functions; copies = h.copies };
    taken = λ s h. record { functions = h.functions; copies = h.copies };
    ending = λ s h. record { functions = h.functions; copies = h.copies };
    stray = λ s h. record { functions = h.functions; copies = h.copies };
    assigned = λ s name v h. record { functions = h.functions; copies = h.copies };
    started = λ s carries list k h. record { functions = h.functions; copies = copy_stands s.copies _ h.copies h.functions k };
  }

  expanded_stands : (c : Context) (f : Frame) (status : ℕ) (w : p.Word) (e : Environment) (given : ℕ → Given) → FunctionsStand e → Each ok (word_located w)
      → StateStands (expand f status c w (fresh e given)).state
  unfolding CopiesStand
  expanded_stands c f status w e given h k = word_kept ok StateStands states_kept f status c w (fresh e given) k (record { functions = h; copies = tt })

  shown_stands : (e : Environment) (xs : List (Text × Text)) → FunctionsStand e → FunctionsStand (showing e xs)
  shown_stands e xs h = showing_kept FunctionsStand (λ d name v k. k) e xs h

  hidden_stands : {A : Type 0} (e : Environment) (xs : List (Text × A)) (d : Environment) → FunctionsStand d → FunctionsStand (hiding e xs d)
  hidden_stands e xs d h = hiding_kept FunctionsStand (λ d name v k. k) e xs d h

  restored_stands : (restores : ℕ → Bool) (n : ℕ) (e : Environment) (xs : Saved) → FunctionsStand e → FunctionsStand (restored restores n e xs)
  restored_stands restores n e xs h = restored_kept FunctionsStand (λ d name v k. k) restores n e xs h

  -- Work

  unfoldable pub AssignmentsStand : Assignments → Type 0
  AssignmentsStand [] = Unit {0}
  AssignmentsStand (x ∷ xs) = Each ok (word_located x.1) × AssignmentsStand xs

  -- a simple command that no word of is expanded
  unfoldable pub Begins : Surroundings → ℕ → p.Kind → Type 0
  Begins x n (p.Simple es) = Q x (record { number = n; elements = es }) (operands_in es) []
  Begins x n _ = Unit {0}

  -- a piece of work, by what is round it
  unfoldable pub WorkStands : Surroundings → Work → Type 0
  WorkStands x (Items t) = Each ok (items_located x t)
  WorkStands x (Links ls) = Each ok (links_located x ls)
  WorkStands x (Pipeline q) = Each ok (pipeline_located x q)
  WorkStands x Negation = Unit {0}
  WorkStands x (Command c) = Each ok (command_located x c)
  WorkStands x (Words k left ts rs xs) = Q x k left ts × Each ok (words_located left) × Each ok (redirects_located rs) × AssignmentsStand xs
  WorkStands x (Prepare k ts rs xs failed) = Q x k p.no_words ts × Each ok (redirects_located rs) × AssignmentsStand xs
  WorkStands x (Utility k t ts rs xs prefixes values) =
      Q x k p.no_words (t ∷ ts) × (manner (t ∷ ts) ≡ Named t ts) × Each ok (redirects_located rs) × AssignmentsStand xs
  WorkStands x (Call n t ts body rs xs saved) = Each ok (command_located in_function body) × Each ok (redirects_located rs) × AssignmentsStand xs
  WorkStands x (Return n t saved) = Unit {0}
  WorkStands x (Compound n rs kind) = Begins x n kind × Each ok (kind_located x kind) × Each ok (redirects_located rs)
  WorkStands x (If n branches otherwise) = Each ok (branches_located x branches) × Each ok (otherwise_located x otherwise)
  WorkStands x (Then n body branches otherwise) = Each ok (items_located x body) × Each ok (branches_located x branches) × Each ok (otherwise_located x otherwise)
  WorkStands x (Test n kind condition body last) = Each ok (items_located (in_loop x) condition) × Each ok (items_located (in_loop x) body)
  WorkStands x (Again n kind condition body) = Each ok (items_located (in_loop x) condition) × Each ok (items_located (in_loop x) body)
  WorkStands x (ForWords n name left ts body) = Each ok (words_located left) × Each ok (items_located (in_loop x) body)
  WorkStands x (ForFields n name ts body) = Each ok (items_located (in_loop x) body)
  WorkStands x (Clauses n cs) = Each ok (clauses_located x cs)
  WorkStands x (Patterns n left body end rest) = Each ok (words_located left) × Each ok (items_located x body) × Each ok (clauses_located x rest)
  WorkStands x (Fall n cs) = Each ok (clauses_located x cs)

  -- the work of a process
  unfoldable pub LeftStands : List Work → Type 0
  LeftStands [] = Unit {0}
  LeftStands (w ∷ ws) = WorkStands (around ws) w × LeftStands ws

  -- Effects

  abbrev StartStands : Start → Type 0
  StartStands x = StartHolds FunctionsStand LeftStands x

  abbrev StartsStand : List Start → Type 0
  StartsStand xs = StartsHold FunctionsStand LeftStands xs

  abbrev pub EffectStands : Effect → Type 0
  EffectStands x = EffectHolds FunctionsStand LeftStands x

  goes_stands : (e : Environment) (f : Frame) (status : ℕ) (ws : List Work) → FunctionsStand e → LeftStands ws → EffectStands (goes e f status ws)
  goes_stands e f status ws h k = goes_holds FunctionsStand LeftStands e f status ws h k

  ends_stands : (e : Environment) (f : Frame) → FunctionsStand e → EffectStands (ends e f)
  ends_stands e f h = ends_holds FunctionsStand LeftStands e f h

  copies_start : (cs : List Copy) (xs : List Start) → CopiesStand cs → StartsStand xs → StartsStand (of_copies cs ++ xs)
  unfolding CopiesStand StartsHold StartHolds LeftStands WorkStands around
  copies_start [] xs h k = k
  copies_start (c ∷ cs) xs h k = ((h.0, (h.1, tt)), copies_start cs xs h.2 k)

  after_stands : (s : State) (split : Bool) (x : Effect) → StateStands s → EffectStands x → EffectStands (after_expansion s split x)
  after_stands s split x h k = record { environment = k.environment; next = k.next; starts = copies_start s.copies x.starts h.copies k.starts }

  starting_stands : (x : Effect) (starts : List Start) → EffectStands x → StartsStand starts → EffectStands (record x { starts = starts })
  starting_stands x starts h k = record { environment = h.environment; next = h.next; starts = k }

  -- Jumps go to what is in the program

  unfoldable MarkStands : Mark → Type 0
  MarkStands no_loop = Unit {0}
  MarkStands (marked turn behind) = WorkStands (around behind) turn × LeftStands behind

  nth_stands : (n : ℕ) (further : Mark) (turn : Work) (behind : List Work) → MarkStands further → WorkStands (around behind) turn → LeftStands behind
      → MarkStands (nth_mark n further turn behind)
  unfolding nth_mark or_nearer MarkStands
  nth_stands n no_loop turn behind h k l = if_either MarkStands (nat_le n 1) _ _ (k, l) (k, l)
  nth_stands n (marked t b) turn behind h k l = if_either MarkStands (nat_le n 1) _ _ (k, l) h

  mark_stands : (n : ℕ) (ws : List Work) → LeftStands ws → MarkStands (loop_mark n ws)
  unfolding loop_mark MarkStands LeftStands WorkStands
  mark_stands n [] h = tt
  mark_stands n (Return number function saved ∷ ws) h = tt
  mark_stands n (Test number kind condition body last ∷ ws) h = nth_stands n _ (Again number kind condition body) ws (mark_stands (n - 1) ws h.1) h.0 h.1
  mark_stands n (Again number kind condition body ∷ ws) h = nth_stands n _ (Again number kind condition body) ws (mark_stands (n - 1) ws h.1) h.0 h.1
  mark_stands n (ForFields number name fields body ∷ ws) h = nth_stands n _ (ForFields number name fields body) ws (mark_stands (n - 1) ws h.1) h.0 h.1
  mark_stands n (w ∷ ws) h = mark_stands n ws h.1

  broken_stands : (m : Mark) (ws : List Work) → MarkStands m → LeftStands ws → LeftStands (broken_off m ws)
  unfolding broken_off MarkStands
  broken_stands no_loop ws h k = k
  broken_stands (marked turn behind) ws h k = h.1

  continued_stands : (m : Mark) (ws : List Work) → MarkStands m → LeftStands ws → LeftStands (continued m ws)
  unfolding continued MarkStands LeftStands
  continued_stands no_loop ws h k = k
  continued_stands (marked turn behind) ws h k = h

  unfoldable ReturnStands : Option (Saved × List Work) → Type 0
  ReturnStands None = Unit {0}
  ReturnStands (Some x) = LeftStands x.1

  return_stands : (ws : List Work) → LeftStands ws → ReturnStands (return_mark ws)
  unfolding return_mark ReturnStands LeftStands
  return_stands [] h = tt
  return_stands (Return number function saved ∷ ws) h = h.1
  return_stands (w ∷ ws) h = return_stands ws h.1

  -- The rows

  -- the elements of a simple command
  operands_stand : (es : p.Elements) → Each ok (elements_located es) → Each ok (words_located (operands_in es))
  unfolding items_located operands_in
  operands_stand p.no_elements h = refl
  operands_stand (p.assignment name value es) h = operands_stand es (each_parts ok (word_located value) _ h).1
  operands_stand (p.operand w es) h =
      let both = each_parts ok (word_located w) _ h in
      each_joined ok (word_located w) _ both.0 (operands_stand es both.1)
  operands_stand (p.redirection r es) h = operands_stand es (each_parts ok (redirect_located r) _ h).1

  redirects_stand : (es : p.Elements) → Each ok (elements_located es) → Each ok (redirects_located (redirects_in es))
  unfolding items_located redirects_in
  redirects_stand p.no_elements h = refl
  redirects_stand (p.assignment name value es) h = redirects_stand es (each_parts ok (word_located value) _ h).1
  redirects_stand (p.operand w es) h = redirects_stand es (each_parts ok (word_located w) _ h).1
  redirects_stand (p.redirection r es) h =
      let both = each_parts ok (redirect_located r) _ h in
      each_joined ok (redirect_located r) _ both.0 (redirects_stand es both.1)

  assignments_stand : (es : p.Elements) → Each ok (elements_located es) → AssignmentsStand (assignments_in es)
  unfolding items_located assignments_in AssignmentsStand
  assignments_stand p.no_elements h = tt
  assignments_stand (p.assignment name value es) h =
      let both = each_parts ok (word_located value) _ h in
      (both.0, assignments_stand es both.1)
  assignments_stand (p.operand w es) h = assignments_stand es (each_parts ok (word_located w) _ h).1
  assignments_stand (p.redirection r es) h = assignments_stand es (each_parts ok (redirect_located r) _ h).1

  opened_stands : (r : p.Redirect) → Each ok (redirect_located r) → Each ok (word_located (opened r))
  unfolding items_located opened
  opened_stands (p.File w) h = h
  opened_stands (p.Here w) h = h

  simple_stands : (x : Surroundings) (k : Simple) → Q x k (operands_in k.elements) [] → Each ok (elements_located k.elements) → WorkStands x (simple_work k)
  unfolding WorkStands
  simple_stands x k q h = (q, operands_stand k.elements h, redirects_stand k.elements h, assignments_stand k.elements h)

  picked_stand : (n : ℕ) (w : p.Word) (ws : p.Words) → Each ok (word_located w) → Each ok (words_located ws)
      → Each ok (word_located (picked n w ws).0) × Each ok (words_located (picked n w ws).1)
  unfolding items_located picked
  picked_stand n w p.no_words h k = (h, k)
  picked_stand zero w (p.more_words v vs) h k = (h, k)
  picked_stand (suc n) w (p.more_words v vs) h k =
      let both = each_parts ok (word_located v) (words_located vs) k in
      let rest = picked_stand n v vs both.0 both.1 in
      (rest.0, each_joined ok (word_located w) _ h rest.1)

  named_fields : (ts : List Text) (t : Text) (us : List Text) → manner ts ≡ Named t us → ts ≡ t ∷ us
  unfolding manner named_manner
  named_fields [] t us h = cc
  named_fields (s ∷ ss) t us h = go (kind_of s) h
    where
      go : (k : Kind) → named_manner k s ss ≡ Named t us → s ∷ ss ≡ t ∷ us
      go (kind.Special name) h = cc
      go kind.Cd h = cc
      go kind.Command h = cc
      go kind.False h = cc
      go kind.Getopts h = cc
      go kind.Read h = cc
      go kind.True h = cc
      go (kind.Refused name) h = cc
      go kind.Utility h = cc

  -- what comes next of the redirections and assignments that are left
  unfoldable NextPrepares : Preparation → Type 0
  NextPrepares ready = Unit {0}
  NextPrepares (next_redirect r rest) = Each ok (redirect_located r) × Each ok (redirects_located rest)
  NextPrepares (next_assignment name value rest) = Each ok (word_located value) × AssignmentsStand rest

  order_stands : (rs : p.Redirects) → Each ok (redirects_located rs) → NextPrepares (in_order rs)
  unfolding items_located in_order NextPrepares
  order_stands p.no_redirects h = tt
  order_stands (p.more_redirects r rs) h = each_parts ok (redirect_located r) _ h

  any_order_stands : (first : Bool) (rs : p.Redirects) (xs : Assignments) → Each ok (redirects_located rs) → AssignmentsStand xs → NextPrepares (in_any_order first rs xs)
  unfolding items_located in_any_order NextPrepares AssignmentsStand
  any_order_stands first rs [] h k = order_stands rs h
  any_order_stands first p.no_redirects (x ∷ xs) h k = k
  any_order_stands true (p.more_redirects r rs) (x ∷ xs) h k = k
  any_order_stands false (p.more_redirects r rs) (x ∷ xs) h k = each_parts ok (redirect_located r) _ h

  next_stands : (m : Manner) (first : Bool) (rs : p.Redirects) (xs : Assignments) → Each ok (redirects_located rs) → AssignmentsStand xs
      → NextPrepares (next_preparation m first rs xs)
  unfolding next_preparation NextPrepares
  next_stands (Named t ts) first rs [] h k = order_stands rs h
  next_stands (Named t ts) true rs (x ∷ xs) h k = tt
  next_stands (Named t ts) false rs (x ∷ xs) h k = order_stands rs h
  next_stands Nameless first rs xs h k = any_order_stands first rs xs h k
  next_stands (Special t ts) first rs xs h k = any_order_stands first rs xs h k

  module _ (follows : Follows ok Q) (e : Environment) (f : Frame) (status : ℕ) (ws : List Work) (a : Answer) (functions : FunctionsStand e) (left : LeftStands ws) where
    on : (s : ℕ) (next : List Work) → LeftStands next → EffectStands (goes e f s next)
    on s next h = goes_stands e f s next functions h

    stand : (c : Context) (w : p.Word) → Each ok (word_located w) → StateStands (expanded e f status ws a c w).state
    stand c w h = expanded_stands c f status w e a.given functions h

    unless_stands : (s : State) (x : Effect) → FunctionsStand s.environment → (s.ended ≡ false → EffectStands x) → EffectStands (unless_ended e f status ws a s x)
    unfolding unless_ended
    unless_stands s x h k = go s.ended refl
      where
        go : (b : Bool) → s.ended ≡ b → EffectStands (if b then ends s.environment f else x)
        go true i = ends_stands s.environment f h
        go false i = k i

    -- Lists, and-or lists and pipelines

    parts_stand : (n : ℕ) (cs : p.Commands) → Each ok (commands_located outside cs) → StartsStand (parts e f status ws a n cs)
    unfolding items_located parts StartsHold StartHolds LeftStands WorkStands around
    parts_stand n p.no_commands h = tt
    parts_stand n (p.more_commands c cs) h =
        let both = each_parts ok (command_located outside c) _ h in
        (if_either StartStands (a.shares n) (Shares (Command c ∷ [])) _ (both.0, tt) (functions, (both.0, tt)), parts_stand (suc n) cs both.1)

    piped_stands : (behind : List Work) (cs : p.Commands) → LeftStands behind → Each ok (commands_located (in_part (around behind) cs) cs) → EffectStands (piped e f status ws a behind cs)
    unfolding items_located in_part piped LeftStands WorkStands
    piped_stands behind p.no_commands k h = on status behind k
    piped_stands behind (p.more_commands c p.no_commands) k h =
        on status (Command c ∷ behind) ((each_parts ok (command_located (around behind) c) _ h).0, k)
    piped_stands behind (p.more_commands c (p.more_commands d cs)) k h =
        starting_stands _ _ (on a.status behind k)
        (parts_stand 0 (p.more_commands c (p.more_commands d cs)) (commands_freed ok follows.freer false (in_part (around behind) (p.more_commands c (p.more_commands d cs))) (p.more_commands c (p.more_commands d cs)) h))

    pipeline_stands : (q : p.Pipeline) → Each ok (pipeline_located (around ws) q) → EffectStands (act_on e f status ws a (Pipeline q))
    unfolding items_located act_on negated_work LeftStands WorkStands around
    pipeline_stands (p.pipeline true cs) h = piped_stands (Negation ∷ ws) cs (tt, left) h
    pipeline_stands (p.pipeline false cs) h = piped_stands ws cs left h

    items_stand : (t : p.Items) → Each ok (items_located (around ws) t) → EffectStands (items e f status ws a t)
    unfolding items_located in_item items and_or_work LeftStands WorkStands around StartsHold StartHolds
    items_stand p.no_items h = on status ws left
    items_stand (p.more_items (p.and_or first rest) false behind) h =
        let both = each_parts ok (list_located (around ws) (p.and_or first rest)) _ h in
        let list = each_parts ok (pipeline_located (around ws) first) _ both.0 in
        on status _ (list.0, (list.1, (both.1, left)))
    items_stand (p.more_items (p.and_or first rest) true behind) h =
        let both = each_parts ok (list_located outside (p.and_or first rest)) _ h in
        let list = each_parts ok (pipeline_located outside first) _ both.0 in
        starting_stands _ _ (goes_stands (record e { job = true }) f 0 (Items behind ∷ ws) functions (both.1, left)) ((functions, (list.0, (list.1, tt))), tt)

    links_stand : (ls : p.Links) → Each ok (links_located (around ws) ls) → EffectStands (links e f status ws a ls)
    unfolding items_located links LeftStands WorkStands around
    links_stand p.no_links h = on status ws left
    links_stand (p.more_links l q rest) h =
        let both = each_parts ok (pipeline_located (around ws) q) _ h in
        on status _ (if_either LeftStands (takes_link l status) _ _ (both.0, (both.1, left)) (both.1, left))

    -- Simple commands

    words_stand : (k : Simple) (vs : p.Words) (ts : List Text) (rs : p.Redirects) (xs : Assignments) → WorkStands (around ws) (Words k vs ts rs xs)
        → EffectStands (words e f status ws a k vs ts rs xs)
    unfolding items_located words LeftStands WorkStands
    words_stand k p.no_words ts rs xs h = on status _ ((h.0, h.2, h.3), left)
    words_stand k (p.more_words w vs) ts rs xs h =
        let both = each_parts ok (word_located w) _ h.1 in
        let c : Context = word_context ts w in
        let o : Outcome = expanded e f status ws a c w in
        let there : StateStands o.state = stand c w both.0 in
        after_stands o.state (word_splits c o) _ there
        (unless_stands o.state _ there.functions
        (λ on. goes_stands o.state.environment f _ _ there.functions ((follows.goes (around ws) k w vs ts e f status a h.0 on, both.1, h.2, h.3), left)))

    failed_stands : (m : Manner) (d : Environment) (next : List Work) → FunctionsStand d → LeftStands next → EffectStands (failed_in e f status ws a m d next)
    unfolding failed_in
    failed_stands Nameless d next h k =
        if_either EffectStands a.redirection_leaves_out _ _ (goes_stands d f (nonzero a.status) ws h left) (goes_stands d f status next h k)
    failed_stands (Special t ts) d next h k = ends_stands d f h
    failed_stands (Named t ts) d next h k =
        if_either EffectStands (a.redirection_ends && is_some (d.functions t)) _ _ (ends_stands d f h) (goes_stands d f (nonzero a.status) ws h left)

    redirected_stands : (copied : Bool) (s : State) (next : List Work) (failed : Environment → Effect) → StateStands s → LeftStands next
        → ((d : Environment) → FunctionsStand d → EffectStands (failed d)) → EffectStands (redirected e f status ws a copied s next failed)
    unfolding redirected
    redirected_stands true s next failed h k l =
        if_either EffectStands (s.ended || a.redirection_fails) (failed e) _ (l e functions) (on (status_behind s status a) next k)
    redirected_stands false s next failed h k l = unless_stands s _ h.functions
        (λ on. if_either EffectStands a.redirection_fails (failed s.environment) _ (l s.environment h.functions)
        (goes_stands s.environment f (status_behind s status a) next h.functions k))

    assignment_stands : (name : Text) (o : Outcome) (next : List Work) → FunctionsStand o.state.environment → LeftStands next
        → EffectStands (assignment e f status ws a name o next)
    unfolding assignment
    assignment_stands name o next h k =
        if_either EffectStands a.assignment_fails _ _ (ends_stands o.state.environment f h) (goes_stands _ f (status_behind o.state status a) next h k)

    returned_stands : (o : Option (Saved × List Work)) (s : ℕ) → ReturnStands o → EffectStands (returned e f s ws a o)
    unfolding returned ReturnStands
    returned_stands None s h = on s ws left
    returned_stands (Some x) s h =
        let there : EffectStands (goes (restored a.restores 0 e x.0) f s x.1) = goes_stands _ f s x.1 (restored_stands a.restores 0 e x.0 functions) h in
        record { environment = there.environment; next = there.next; starts = there.starts }

    shifted_stands : (n : Option ℕ) → EffectStands (shifted e f ws a n)
    unfolding shifted
    shifted_stands None = goes_stands e _ a.status ws functions left
    shifted_stands (Some n) = if_either EffectStands (nat_le n (length f)) _ _ (goes_stands e _ 0 ws functions left) (on _ ws left)

    special_stands : (vs : p.Words) (name : KnownName) (ts : List Text) → EffectStands (special e f status ws a vs name ts)
    unfolding special unset_names
    special_stands vs known.Colon ts = on 0 ws left
    special_stands vs known.Break ts = on a.status _ (broken_stands _ ws (mark_stands (unwrap_or (count_operand ts) 1) ws left) left)
    special_stands vs known.Continue ts = on a.status _ (continued_stands _ ws (mark_stands (unwrap_or (count_operand ts) 1) ws left) left)
    special_stands vs known.Exec ts = on _ ws left
    special_stands vs known.Exit ts = ends_stands e f functions
    special_stands vs known.Export ts = goes_stands _ f a.status ws (shown_stands e (definitions_in ts) functions) left
    special_stands vs known.Readonly ts = goes_stands _ f a.status ws (shown_stands e (definitions_in ts) functions) left
    special_stands vs known.Return ts = returned_stands (return_mark ws) _ (return_stands ws left)
    special_stands vs known.Set ts = goes_stands e _ a.status ws functions left
    special_stands vs known.Shift ts = shifted_stands (count_operand ts)
    special_stands vs known.Unset ts =
        goes_stands _ f a.status ws
        (all_removed_kept FunctionsStand (λ d name k. k) (λ d name k. function_stands d name None (λ c h. absurd (none-some c h)) k) (unset_operands ts).0 a 0 e (unset_operands ts).1 functions)
        left
    special_stands vs known.Times ts = on a.status ws left
    special_stands vs known.Trap ts = on a.status ws left
    special_stands vs name ts = on a.status ws left

    reads_stands : (prefixes : List Text) (o : Option (List Text)) → EffectStands (reads prefixes e f ws a o)
    unfolding reads
    reads_stands prefixes None = on _ ws left
    reads_stands prefixes (Some names) = goes_stands _ f a.status ws (read_kept FunctionsStand (λ d name v k. k) prefixes a 0 e names functions) left

    utility_stands : (prefixes : List Text) (k : Kind) (ts : List Text) → EffectStands (utility prefixes e f ws a k ts)
    unfolding utility
    utility_stands prefixes kind.True ts = on 0 ws left
    utility_stands prefixes kind.False ts = on _ ws left
    utility_stands prefixes kind.Read ts = reads_stands prefixes (read_names ts)
    utility_stands prefixes kind.Getopts ts = goes_stands _ f a.status ws (option_kept FunctionsStand (λ d name v k. k) prefixes e a (getopts_name ts) functions) left
    utility_stands prefixes kind.Cd ts = goes_stands _ f a.status ws (directory_kept FunctionsStand (λ d name v k. k) e a functions) left
    utility_stands prefixes k ts = on a.status ws left

    invoked_stands : (k : Simple) (t : Text) (ts : List Text) (rs : p.Redirects) (xs : Assignments) (o : Option p.Command) → e.functions t ≡ o
        → Q (around ws) k p.no_words (t ∷ ts) → manner (t ∷ ts) ≡ Named t ts → Each ok (redirects_located rs) → AssignmentsStand xs
        → WorkStands (around ws) (invoked e f status ws a k t ts rs xs o)
    unfolding invoked WorkStands
    invoked_stands k t ts rs xs None d q m h l = (q, m, h, l)
    invoked_stands k t ts rs xs (Some body) d q m h l = (functions t body d, h, l)

    prepared_stands : (k : Simple) (ts : List Text) (rs : p.Redirects) (xs : Assignments) (failed : Bool) (m : Manner) → manner ts ≡ m
        → Q (around ws) k p.no_words ts → Each ok (redirects_located rs) → AssignmentsStand xs → EffectStands (prepared e f status ws a k m rs xs failed)
    unfolding prepared special_or_end LeftStands
    prepared_stands k ts rs xs failed Nameless d q h l = on _ ws left
    prepared_stands k ts rs xs failed (Special name us) d q h l =
        if_either EffectStands a.special_ends _ _ (ends_stands e f functions) (special_stands (operands_in k.elements) name us)
    prepared_stands k ts rs xs failed (Named t us) d q h l =
        let same : ts ≡ t ∷ us = named_fields ts t us d in
        on status _ (invoked_stands k t us rs xs (e.functions t) refl (subst (Q (around ws) k p.no_words) same q) (ap manner (sym same) ∙ d) h l, left)

    prepare_stands : (k : Simple) (ts : List Text) (rs : p.Redirects) (xs : Assignments) (failed : Bool) (q : Preparation)
        → WorkStands (around ws) (Prepare k ts rs xs failed) → NextPrepares q → EffectStands (prepare e f status ws a k ts rs xs failed q)
    unfolding prepare NextPrepares LeftStands WorkStands
    prepare_stands k ts rs xs failed ready h n = prepared_stands k ts rs xs failed (manner ts) refl h.0 h.1 h.2
    prepare_stands k ts rs xs failed (next_redirect r rest) h n =
        let there : StateStands (expanded e f status ws a in_one (opened r)).state = stand in_one (opened r) (opened_stands r n.0) in
        after_stands _ false _ there
        (redirected_stands (a.redirection_in_copy && may_copy (manner ts)) _ _ _ there ((h.0, n.1, h.2), left)
        (λ d g. failed_stands (manner ts) d _ g ((h.0, n.1, h.2), left)))
    prepare_stands k ts rs xs failed (next_assignment name value rest) h n =
        let there : StateStands (expanded e f status ws a in_one value).state = stand in_one value n.0 in
        after_stands _ false _ there
        (unless_stands _ _ there.functions (λ on. assignment_stands name _ _ there.functions ((h.0, h.1, n.1), left)))

    kept_stands : (s : State) → FunctionsStand s.environment → FunctionsStand (kept e f status ws a s).environment
    kept_stands s h = if_either FunctionsStand a.value_in_copy e s.environment functions h

    value_stands : (k : Simple) (t : Text) (ts : List Text) (rs : p.Redirects) (x : Text × p.Word) (xs : Assignments) (prefixes : List Text) (values : List (Text × Text))
        → WorkStands (around ws) (Utility k t ts rs (x ∷ xs) prefixes values)
        → let o = expand f status in_one x.1 (fresh (showing e (seen e f status ws a values)) a.given) in
        let s = kept e f status ws a (record o.state { environment = hiding e (seen e f status ws a values) o.state.environment }) in
        let next = Utility k t ts rs xs prefixes (values ++ (x.0, pieces_text o.pieces) ∷ []) in
        EffectStands
        (after_expansion s false (unless_ended e f status ws a s (if a.assignment_fails then ends s.environment f else goes s.environment f (status_behind s status a) (next ∷ ws))))
    unfolding LeftStands WorkStands AssignmentsStand
    value_stands k t ts rs x xs prefixes values h =
        let d : Environment = showing e (seen e f status ws a values) in
        let o : Outcome = expand f status in_one x.1 (fresh d a.given) in
        let there : StateStands o.state = expanded_stands in_one f status x.1 d a.given (shown_stands e (seen e f status ws a values) functions) h.3.0 in
        let u : State = record o.state { environment = hiding e (seen e f status ws a values) o.state.environment } in
        let s : State = kept e f status ws a u in
        let here : FunctionsStand s.environment = kept_stands u (hidden_stands e (seen e f status ws a values) o.state.environment there.functions) in
        after_stands s false _ (record { functions = here; copies = there.copies })
        (unless_stands s _ here
        (λ on. if_either EffectStands a.assignment_fails _ _ (ends_stands s.environment f here)
        (goes_stands s.environment f (status_behind s status a) _ here ((h.0, h.1, h.2, h.3.1), left))))

    utility_step_stands : (k : Simple) (t : Text) (ts : List Text) (rs : p.Redirects) (xs : Assignments) (prefixes : List Text) (values : List (Text × Text))
        → WorkStands (around ws) (Utility k t ts rs xs prefixes values) → EffectStands (utility_step e f status ws a k t ts rs xs prefixes values)
    unfolding items_located utility_step LeftStands WorkStands
    utility_step_stands k t ts p.no_redirects [] prefixes values h = utility_stands prefixes (kind_of t) ts
    utility_step_stands k t ts (p.more_redirects r rest) [] prefixes values h =
        let both = each_parts ok (redirect_located r) _ h.2 in
        let there : StateStands (expanded e f status ws a in_one (opened r)).state = stand in_one (opened r) (opened_stands r both.0) in
        after_stands _ false _ there
        (redirected_stands a.redirection_in_copy _ _ _ there ((h.0, h.1, both.1, h.3), left) (λ d g. failed_stands (Named t ts) d ws g left))
    utility_step_stands k t ts rs (x ∷ xs) prefixes values h = value_stands k t ts rs x xs prefixes values h

    unseen_stands : (saved : Saved) (r : p.Redirect) → Each ok (redirect_located r) → StateStands (unseen e f status ws a saved r)
    unseen_stands saved r h =
        let d : Environment = restored (λ n. true) 0 e saved in
        let there : StateStands (expand f status in_one (opened r) (fresh d a.given)).state =
        expanded_stands in_one f status (opened r) d a.given (restored_stands (λ n. true) 0 e saved functions) (opened_stands r h) in
        record { functions = hidden_stands e saved _ there.functions; copies = there.copies }

    prefix_stands : (n : ℕ) (t : Text) (ts : List Text) (body : p.Command) (rs : p.Redirects) (x : Text × p.Word) (xs : Assignments) (saved : Saved)
        → WorkStands (around ws) (Call n t ts body rs (x ∷ xs) saved)
        → let o = expanded e f status ws a in_one x.1 in
        let kept_outcome = record o { state = kept e f status ws a o.state } in
        EffectStands
        (after_expansion o.state false
        (unless_ended e f status ws a (kept e f status ws a o.state)
        (assignment e f status ws a x.0 kept_outcome (Call n t ts body rs xs ((x.0, (kept e f status ws a o.state).environment.variables x.0) ∷ saved) ∷ ws))))
    unfolding LeftStands WorkStands AssignmentsStand
    prefix_stands n t ts body rs x xs saved h =
        let o : Outcome = expanded e f status ws a in_one x.1 in
        let there : StateStands o.state = stand in_one x.1 h.2.0 in
        let s : State = kept e f status ws a o.state in
        let here : FunctionsStand s.environment = kept_stands o.state there.functions in
        after_stands o.state false _ there (unless_stands s _ here (λ on. assignment_stands x.0 (record o { state = s }) _ here ((h.0, h.1, h.2.1), left)))

    call_stands : (n : ℕ) (t : Text) (ts : List Text) (body : p.Command) (rs : p.Redirects) (xs : Assignments) (saved : Saved)
        → WorkStands (around ws) (Call n t ts body rs xs saved) → EffectStands (call e f status ws a n t ts body rs xs saved)
    unfolding items_located call LeftStands WorkStands around
    call_stands n t ts body p.no_redirects [] saved h =
        let there : EffectStands (goes e f status (Command body ∷ Return n t saved ∷ ws)) = on status _ (h.0, (tt, left)) in
        record { environment = there.environment; next = there.next; starts = there.starts }
    call_stands n t ts body (p.more_redirects r rest) [] saved h =
        let both = each_parts ok (redirect_located r) _ h.1 in
        let there : StateStands (unseen e f status ws a saved r) = unseen_stands saved r both.0 in
        after_stands _ false _ there
        (redirected_stands a.redirection_in_copy _ _ _ there ((h.0, both.1, h.2), left)
        (λ d g. failed_stands (Named t ts) _ ws (restored_stands a.restores 0 d saved g) left))
    call_stands n t ts body rs (x ∷ xs) saved h = prefix_stands n t ts body rs x xs saved h

    -- Compound commands

    before_stands : (s : State) (next : List Work) → StateStands s → LeftStands next → EffectStands (redirected_before e f status ws a s next)
    unfolding redirected_before failed_before
    before_stands s next h k =
        after_stands s false _ h
        (if_either EffectStands a.redirection_fails _ _
        (if_either EffectStands a.redirection_ends _ _ (ends_stands s.environment f h.functions) (goes_stands s.environment f (nonzero a.status) ws h.functions left))
        (unless_stands s _ h.functions (λ on. goes_stands s.environment f (status_behind s status a) next h.functions k)))

    over_stands : (n : ℕ) (name : Text) (ts : List Text) (body : p.Items) → Each ok (items_located (in_loop (around ws)) body)
        → EffectStands (over_fields e f status ws a n name ts body)
    unfolding over_fields LeftStands WorkStands
    over_stands n name [] body h = on 0 ws left
    over_stands n name (t ∷ ts) body h = on status _ (h, left)

    words_over_stand : (n : ℕ) (name : Text) (vs : p.ForWords) (body : p.Items) → Each ok (for_words_located vs) → Each ok (items_located (in_loop (around ws)) body)
        → EffectStands (over_words e f status ws a n name vs body)
    unfolding items_located over_words LeftStands WorkStands
    words_over_stand n name p.every_parameter body h k = over_stands n name f body k
    words_over_stand n name (p.listed vs) body h k = on status _ ((h, k), left)

    begun_stands : (n : ℕ) (kind : p.Kind) → Begins (around ws) n kind → Each ok (kind_located (around ws) kind) → EffectStands (begun e f status ws a n kind)
    unfolding items_located begun Begins LeftStands WorkStands around StartsHold StartHolds
    begun_stands n (p.Simple es) b h = on status _ (simple_stands (around ws) (record { number = n; elements = es }) b h, left)
    begun_stands n (p.Group list) b h = on status _ (h, left)
    begun_stands n (p.Subshell list) b h = starting_stands _ _ (on a.status ws left) ((functions, (h, tt)), tt)
    begun_stands n (p.Conditional branches otherwise) b h = on status _ (each_parts ok (branches_located (around ws) branches) _ h, left)
    begun_stands n (p.Loop kind condition body) b h =
        let both = each_parts ok (items_located (in_loop (around ws)) condition) _ h in
        on status _ (both.0, (both, left))
    begun_stands n (p.For name vs body) b h =
        let both = each_parts ok (for_words_located vs) _ h in
        words_over_stand n name vs body both.0 both.1
    begun_stands n (p.Case w cs) b h =
        let both = each_parts ok (word_located w) _ h in
        let there : StateStands (expanded e f status ws a in_one w).state = stand in_one w both.0 in
        after_stands _ false _ there (unless_stands _ _ there.functions (λ on. goes_stands _ f _ _ there.functions (both.1, left)))
    begun_stands n (p.Define name body) b h =
        goes_stands _ f 0 ws (function_stands e name (Some body) (λ c i. subst (λ d. Each ok (command_located in_function d)) (same_Some body c i) h) functions) left

    -- a subshell that is expanded in the process that it starts, and otherwise another step
    compound_starts : (n : ℕ) (rs : p.Redirects) (kind : p.Kind) (x : Effect) → Each ok (kind_located (around ws) kind) → Each ok (redirects_located rs) → EffectStands x
        → EffectStands (if is_started_first e f status ws a kind then record (goes e f a.status ws) { starts = Copies e (Compound n rs (in_process e f status ws a kind) ∷ []) ∷ [] } else x)
    unfolding items_located is_started_first in_process LeftStands WorkStands Begins around StartsHold StartHolds
    compound_starts n rs (p.Subshell list) x h k l =
        if_either EffectStands a.redirections_in_process _ x (starting_stands _ _ (on a.status ws left) ((functions, ((tt, h, k), tt)), tt)) l
    compound_starts n rs kind x h k l = l

    compound_stands : (n : ℕ) (rs : p.Redirects) (kind : p.Kind) → WorkStands (around ws) (Compound n rs kind) → EffectStands (compound e f status ws a n rs kind)
    unfolding items_located compound LeftStands WorkStands
    compound_stands n p.no_redirects kind h = begun_stands n kind h.0 h.1
    compound_stands n (p.more_redirects r rest) kind h =
        let both = each_parts ok (redirect_located r) _ h.2 in
        compound_starts n (p.more_redirects r rest) kind _ h.1 h.2
        (before_stands _ _ (stand in_one (opened r) (opened_stands r both.0)) ((h.0, h.1, both.1), left))

    branch_stands : (n : ℕ) (branches : p.Branches) (otherwise : p.Otherwise) → WorkStands (around ws) (If n branches otherwise) → EffectStands (branch e f status ws a n branches otherwise)
    unfolding items_located branch LeftStands WorkStands around
    branch_stands n p.no_branches p.no_else h = on 0 ws left
    branch_stands n p.no_branches (p.else_of list) h = on status _ (h.1, left)
    branch_stands n (p.more_branches condition body rest) otherwise h =
        let both = each_parts ok (items_located (around ws) condition ++ items_located (around ws) body) _ h.0 in
        let front = each_parts ok (items_located (around ws) condition) _ both.0 in
        on status _ (front.0, ((front.1, both.1, h.1), left))

    then_stands : (n : ℕ) (body : p.Items) (bs : p.Branches) (otherwise : p.Otherwise) → WorkStands (around ws) (Then n body bs otherwise)
        → EffectStands (act_on e f status ws a (Then n body bs otherwise))
    unfolding act_on LeftStands WorkStands
    then_stands n body bs otherwise h = on status _ (if_either LeftStands (status == 0) _ _ (h.0, left) ((h.1, h.2), left))

    test_stands : (n : ℕ) (kind : LoopKind) (condition body : p.Items) (last : ℕ) → WorkStands (around ws) (Test n kind condition body last)
        → EffectStands (test e f status ws a n kind condition body last)
    unfolding test LeftStands WorkStands around
    test_stands n kind condition body last h =
        if_either EffectStands (takes_turn kind status) _ _ (on status _ (h.1, (h, left))) (on last ws left)

    for_words_stand : (n : ℕ) (name : Text) (vs : p.Words) (ts : List Text) (body : p.Items) → WorkStands (around ws) (ForWords n name vs ts body)
        → EffectStands (for_words e f status ws a n name vs ts body)
    unfolding items_located for_words LeftStands WorkStands
    for_words_stand n name p.no_words ts body h = over_stands n name ts body h.1
    for_words_stand n name (p.more_words w vs) ts body h =
        let both = each_parts ok (word_located w) _ h.0 in
        let there : StateStands (expanded e f status ws a in_fields w).state = stand in_fields w both.0 in
        after_stands _ _ _ there (unless_stands _ _ there.functions (λ on. goes_stands _ f _ _ there.functions ((both.1, h.1), left)))

    for_fields_stand : (n : ℕ) (name : Text) (ts : List Text) (body : p.Items) → Each ok (items_located (in_loop (around ws)) body)
        → EffectStands (for_fields e f status ws a n name ts body)
    unfolding for_fields LeftStands WorkStands around
    for_fields_stand n name [] body h = on status ws left
    for_fields_stand n name (t ∷ ts) body h =
        if_either EffectStands a.assignment_fails _ _ (ends_stands e f functions) (goes_stands _ f status _ functions (h, (h, left)))

    list_stands : (n : ℕ) (body : p.Items) (end : ClauseEnd) (rest : p.Clauses) (d : Environment) (last : ℕ) → Each ok (items_located (around ws) body)
        → Each ok (clauses_located (around ws) rest) → FunctionsStand d → EffectStands (clause_list e f status ws a n body end rest d last)
    unfolding items_located clause_list fall LeftStands WorkStands around
    list_stands n p.no_items clause.Break rest d last h k l = goes_stands d f a.status ws l left
    list_stands n p.no_items clause.FallThrough rest d last h k l = goes_stands d f a.status _ l (k, left)
    list_stands n (p.more_items list background more) clause.Break rest d last h k l = goes_stands d f last _ l (h, left)
    list_stands n (p.more_items list background more) clause.FallThrough rest d last h k l = goes_stands d f last _ l (h, (k, left))

    falls_stand : (n : ℕ) (cs : p.Clauses) → Each ok (clauses_located (around ws) cs) → EffectStands (falls e f status ws a n cs)
    unfolding items_located falls
    falls_stand n p.no_clauses h = on status ws left
    falls_stand n (p.more_clauses patterns body end rest) h =
        let both = each_parts ok (words_located patterns ++ items_located (around ws) body) _ h in
        let front = each_parts ok (words_located patterns) _ both.0 in
        list_stands n body end rest e status front.1 both.1 functions

    clauses_stand : (n : ℕ) (cs : p.Clauses) → Each ok (clauses_located (around ws) cs) → EffectStands (clauses e f status ws a n cs)
    unfolding items_located clauses LeftStands WorkStands
    clauses_stand n p.no_clauses h = on 0 ws left
    clauses_stand n (p.more_clauses patterns body end rest) h =
        let both = each_parts ok (words_located patterns ++ items_located (around ws) body) _ h in
        let front = each_parts ok (words_located patterns) _ both.0 in
        on status _ ((front.0, front.1, both.1), left)

    matched_stands : (n : ℕ) (w : p.Word) (others : p.Words) (body : p.Items) (end : ClauseEnd) (rest : p.Clauses) → Each ok (word_located w) → Each ok (words_located others)
        → Each ok (items_located (around ws) body) → Each ok (clauses_located (around ws) rest) → EffectStands (matched e f status ws a n w others body end rest)
    unfolding matched LeftStands WorkStands
    matched_stands n w others body end rest h k l m =
        let there : StateStands (expanded e f status ws a in_one w).state = stand in_one w h in
        after_stands _ false _ there
        (unless_stands _ _ there.functions
        (λ on. if_either EffectStands (is_plainly (42 ∷ []) w || a.matches) _ _ (list_stands n body end rest _ _ l m there.functions)
        (goes_stands _ f _ _ there.functions ((k, l, m), left))))

    patterns_stand : (n : ℕ) (vs : p.Words) (body : p.Items) (end : ClauseEnd) (rest : p.Clauses) → WorkStands (around ws) (Patterns n vs body end rest)
        → EffectStands (patterns e f status ws a n vs body end rest)
    unfolding items_located patterns LeftStands WorkStands
    patterns_stand n p.no_words body end rest h = on status _ (h.2, left)
    patterns_stand n (p.more_words w vs) body end rest h =
        let both = each_parts ok (word_located w) _ h.0 in
        let next = picked_stand a.pattern w vs both.0 both.1 in
        matched_stands n _ _ body end rest next.0 next.1 h.1 h.2

    -- the command itself, and what is in it
    command_apart : (number at : ℕ) (kind : p.Kind) (rs : p.Redirects) → Each ok (command_located (around ws) (p.command number at kind rs))
        → (ok (record { command = p.command number at kind rs; surroundings = around ws }) ≡ true) × Each ok (kind_located (around ws) kind) × Each ok (redirects_located rs)
    unfolding items_located
    command_apart number at kind rs h =
        let both = and_parts (ok (record { command = p.command number at kind rs; surroundings = around ws })) _ h in
        let inside = each_parts ok (kind_located (around ws) kind) _ both.1 in
        (both.0, inside.0, inside.1)

    compound_work_stands : (number at : ℕ) (kind : p.Kind) (rs : p.Redirects) → Begins (around ws) number kind → Each ok (command_located (around ws) (p.command number at kind rs))
        → WorkStands (around ws) (Compound number rs kind)
    unfolding WorkStands
    compound_work_stands number at kind rs b h = let inside = command_apart number at kind rs h in (b, inside.1, inside.2)

    command_stands : (c : p.Command) → Each ok (command_located (around ws) c) → WorkStands (around ws) (command_work c)
    unfolding items_located command_work Begins
    command_stands (p.command number at (p.Simple es) rs) h =
        let inside = command_apart number at (p.Simple es) rs h in
        simple_stands (around ws) (record { number = number; elements = es }) (follows.begins (around ws) number at es rs inside.0) inside.1
    command_stands (p.command number at (p.Group list) rs) h = compound_work_stands number at (p.Group list) rs tt h
    command_stands (p.command number at (p.Subshell list) rs) h = compound_work_stands number at (p.Subshell list) rs tt h
    command_stands (p.command number at (p.Conditional branches otherwise) rs) h = compound_work_stands number at (p.Conditional branches otherwise) rs tt h
    command_stands (p.command number at (p.Loop kind condition body) rs) h = compound_work_stands number at (p.Loop kind condition body) rs tt h
    command_stands (p.command number at (p.For name vs body) rs) h = compound_work_stands number at (p.For name vs body) rs tt h
    command_stands (p.command number at (p.Case w cs) rs) h = compound_work_stands number at (p.Case w cs) rs tt h
    command_stands (p.command number at (p.Define name body) rs) h = compound_work_stands number at (p.Define name body) rs tt h

    front_stands : (w : Work) → WorkStands (around ws) w → EffectStands (act_on e f status ws a w)
    unfolding act_on LeftStands WorkStands around ReturnStands
    front_stands (Items t) h = items_stand t h
    front_stands (Links ls) h = links_stand ls h
    front_stands (Pipeline q) h = pipeline_stands q h
    front_stands Negation h = on _ ws left
    front_stands (Command c) h = on status _ (command_stands c h, left)
    front_stands (Words k vs ts rs xs) h = words_stand k vs ts rs xs h
    front_stands (Prepare k ts rs xs failed) h = prepare_stands k ts rs xs failed _ h (next_stands (manner ts) a.assignment_first rs xs h.1 h.2)
    front_stands (Utility k t ts rs xs prefixes values) h = utility_step_stands k t ts rs xs prefixes values h
    front_stands (Call n t ts body rs xs saved) h = call_stands n t ts body rs xs saved h
    front_stands (Return n t saved) h = returned_stands (Some (saved, ws)) status left
    front_stands (Compound n rs kind) h = compound_stands n rs kind h
    front_stands (If n branches otherwise) h = branch_stands n branches otherwise h
    front_stands (Then n body branches otherwise) h = then_stands n body branches otherwise h
    front_stands (Test n kind condition body last) h = test_stands n kind condition body last h
    front_stands (Again n kind condition body) h = on status _ (h.0, (h, left))
    front_stands (ForWords n name vs ts body) h = for_words_stand n name vs ts body h
    front_stands (ForFields n name ts body) h = for_fields_stand n name ts body h
    front_stands (Clauses n cs) h = clauses_stand n cs h
    front_stands (Patterns n vs body end rest) h = patterns_stand n vs body end rest h
    front_stands (Fall n cs) h = falls_stand n cs h

  -- a step leaves what is in the program
  act_stands : Follows ok Q → (e : Environment) (f : Frame) (status : ℕ) (ws : List Work) (a : Answer) → FunctionsStand e → LeftStands ws → EffectStands (act e f status ws a)
  unfolding act LeftStands
  act_stands follows e f status [] a h k = ends_stands e f h
  act_stands follows e f status (w ∷ ws) a h k = front_stands follows e f status ws a h k.1 w k.0

  -- in every run, from a program whose commands pass the test
  pub run_stands : Follows ok Q → (e : Environment) (f : Frame) (t : p.Items) (moves : List Move) (w : World) → FunctionsStand e → Each ok (items_located outside t)
      → run moves (start_world e f t) ≡ Some w → (n : ℕ) (r : Process) → w.processes n ≡ Some r → LeftStands r.work
  unfolding LeftStands WorkStands around
  run_stands follows e f t moves w h k d n r lives =
      work_holds FunctionsStand LeftStands w n r (run_holds FunctionsStand LeftStands (act_stands follows) e f t moves w h (k, tt) d) lives
