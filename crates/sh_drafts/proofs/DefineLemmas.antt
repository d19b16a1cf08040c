-- The flow rules of a formed program define, and list to be lost, only functions that have names.
use Rattle.std.proofs.Common.{◌≡◌, ℕ, ◌==◌, Bool, true, false, if◌then◌else◌, List, [], ◌∷◌, ◌++◌, map, flat_map, codes, Option, Some, None, refl, ◌∙◌}
use Rattle.std.specs.List.{filter, list_all}
use Rattle.std.specs.Str.{bytes_eq}
use Rattle.std.proofs.lemmas.Bool.{and_from, and_parts}
use Rattle.std.proofs.lemmas.List.Elements.{All-filter, filter_passes}
use Rattle.std.proofs.lemmas.List.Folds.{list_all-append}
use Rattle.std.proofs.lemmas.List.Sums.{AllPass-from_list_all, list_all-from_AllPass}
use Rattle.sh_tree.specs.declared.known.KnownName.TheVariants as known
use Rattle.sh_tree.specs.declared.limits.TheConstants.{MAX_NESTING}
use Rattle.sh_tree.specs.standard.language.Bytes.{is_name}
use Rattle.sh_tree.specs.standard.program.Syntax as p
use Rattle.sh_tree.specs.standard.program.Syntax.{Text, Word}
use Rattle.sh_tree.specs.standard.program.Trees.{script_of}
use Rattle.sh_tree.specs.standard.program.Words.{redirects_in}
use Rattle.sh_runs.specs.declared.kind.Kind.{Kind}
use Rattle.sh_runs.specs.declared.kind.Kind.TheVariants as kind
use Rattle.sh_runs.specs.standard.runs.Environment.{is_one_of}
use Rattle.sh_runs.specs.standard.runs.Operands.{Removal, OfVariables, OfFunctions, OfEither, OfAny, unset_operands}
use Rattle.sh_domain.specs.declared.rule.FlowRule.{FlowRule}
use Rattle.sh_domain.specs.declared.rule.FlowRule.TheVariants.{F4, F5, F6, F7, F8, F9, F10, F11, F13, F14, F15}
use Rattle.sh_domain.specs.Entries.{Around, Entered, behind_redirects, falls, items_after, otherwise_seen, script_entered, turns}
use Rattle.sh_domain.specs.Gains.{Gains, and_gains, named, word_gains}
use Rattle.sh_domain.specs.Inclusions.{kind_formed, command_formed, is_formed}
use Rattle.sh_domain.specs.Operands.{Names, Total, first_number, positional_words, removed, return_status, runs_command, statics, total, unset_names}
use Rattle.sh_domain.specs.Rules as r
use Rattle.sh_domain.specs.Rules.{Constraint, Within, Counted, bound, bounds, leaves, functions_of, losses, losses_by, script_bounds}
use Rattle.sh_domain.specs.Table.{Manner, Nameless, Utility, after_nameless, after_set, after_shift, after_utility, assignments_gains, behind_words, is_redirected, manner, prefixes, redirections_gains}
use Rattle.sh_domain.specs.Table as table
use Rattle.sh_domain.specs.Views.{Slot, Before, AfterZero, AfterNonzero, Head, Entry, ReturnsZero, ReturnsNonzero, Seen, After, Both, Loss, OfNames, OfUnseen, View, at, gaining, gaining_names, if_nonzero, if_zero, stepped, Call, Count, Define, Lose, Shift}
use Rattle.sh_domain.proofs.EnteredWalk.{script_formed}
use Rattle.sh_domain.proofs.ReadLemmas.{read_formed}
use Rattle.sh_drafts.specs.Functions.{step_names, loss_names, bound_names, RulesDefineNames}
use Rattle.sh_drafts.proofs.SeenLemmas.{SeenNames, AfterNames, view_names, none_seen, both_seen, at_seen, step_seen, gain_seen, either_seen, both_after, each_after, any_after, after_items, after_conditions, turn_seen, end_seen, list_seen, fallen_seen, all_seen}

-- Constraints

record BoundNames (ks : List Constraint) : Type 0 where
  all : list_all bound_names ks ≡ true

none_bound : BoundNames []
none_bound = record { all = refl }

more : {ks ls : List Constraint} → BoundNames ks → BoundNames ls → BoundNames (ks ++ ls)
more {ks = ks} {ls = ls} h k = record { all = list_all-append bound_names ks ls ∙ and_from (list_all bound_names ks) (list_all bound_names ls) h.all k.all }

if_bound : {ks : List Constraint} (t : Bool) → BoundNames ks → BoundNames (if t then ks else [])
if_bound true h = h
if_bound false h = none_bound

unless_bound : {ks : List Constraint} (t : Bool) → BoundNames ks → BoundNames (if t then [] else ks)
unless_bound true h = none_bound
unless_bound false h = h

within_names : (slot : Slot) (n : ℕ) (rule : FlowRule) (v : View) → view_names v ≡ true → bound_names (Within slot n rule v) ≡ true
unfolding bound_names
within_names slot n rule v h = h

counted_names : (f : Text) (n : ℕ) (l : Loss) → loss_names l ≡ true → bound_names (Counted f n l) ≡ true
unfolding bound_names
counted_names f n l h = h

seen_bound : {s : Seen} (slot : Slot) (n : ℕ) (rule : FlowRule) → SeenNames s → BoundNames (bound slot n rule s)
seen_bound {s = s} slot n rule h = record { all = go s h.all }
  where
    go : (s : Seen) → list_all view_names s ≡ true → list_all bound_names (bound slot n rule s) ≡ true
    go [] k = refl
    go (v ∷ s) k =
        let parts = and_parts (view_names v) (list_all view_names s) k in
        and_from (bound_names (Within slot n rule v)) (list_all bound_names (bound slot n rule s)) (within_names slot n rule v parts.0) (go s parts.1)

leaves_bound : {o : After} (n : ℕ) (rule : FlowRule) → AfterNames o → BoundNames (leaves n rule o)
leaves_bound n rule h = more (seen_bound (AfterZero n) n rule h.zero) (seen_bound (AfterNonzero n) n rule h.nonzero)

-- Jumps

breaks_bound : {s : Seen} (o : Option ℕ) (n : ℕ) → SeenNames s → BoundNames (r.breaks o n s)
unfolding r.breaks
breaks_bound None n h = none_bound
breaks_bound (Some l) n h = more (seen_bound (AfterZero l) n F15 h) (seen_bound (AfterNonzero l) n F15 h)

continues_bound : {s : Seen} (o : Option ℕ) (n : ℕ) → SeenNames s → BoundNames (r.continues o n s)
unfolding r.continues
continues_bound None n h = none_bound
continues_bound (Some l) n h = seen_bound (Head l) n F15 h

returns_with_bound : {s : Seen} (status : Option ℕ) (f : Text) (n : ℕ) → SeenNames s → BoundNames (r.returns_with status f n s)
unfolding r.returns_with
returns_with_bound None f n h = more (seen_bound (ReturnsZero f) n F15 h) (seen_bound (ReturnsNonzero f) n F15 h)
returns_with_bound {s = s} (Some status) f n h = go (status == 0)
  where
    go : (t : Bool) → BoundNames (if t then bound (ReturnsZero f) n F15 s else bound (ReturnsNonzero f) n F15 s)
    go true = seen_bound (ReturnsZero f) n F15 h
    go false = seen_bound (ReturnsNonzero f) n F15 h

returns_bound : {s : Seen} (status : Option ℕ) (o : Option Text) (n : ℕ) → SeenNames s → BoundNames (r.returns status o n s)
unfolding r.returns
returns_bound status None n h = none_bound
returns_bound status (Some f) n h = returns_with_bound status f n h

jumps_bound : (x : Around) (n : ℕ) (k : Kind) (ws : List Word) (s : Seen) → SeenNames s → BoundNames (r.jumps x n k ws s)
unfolding r.jumps
jumps_bound x n (kind.Special known.Break) ws s h = breaks_bound (r.jump_loop (first_number ws) x.loops) n h
jumps_bound x n (kind.Special known.Continue) ws s h = continues_bound (r.jump_loop (first_number ws) x.loops) n h
jumps_bound x n (kind.Special known.Return) ws s h = returns_bound (return_status ws) x.function n h
jumps_bound x n k ws s h = none_bound

-- Simple commands

lose_seen : {s : Seen} (names : Names) → SeenNames s → SeenNames (stepped (Lose names) s)
unfolding step_names
lose_seen names h = step_seen (Lose names) refl h

count_seen : {s : Seen} (n : Total) → SeenNames s → SeenNames (stepped (Count n) s)
unfolding step_names
count_seen n h = step_seen (Count n) refl h

shift_seen : {s : Seen} (n : ℕ) → SeenNames s → SeenNames (stepped (Shift n) s)
unfolding step_names
shift_seen n h = step_seen (Shift n) refl h

call_seen : {s : Seen} (f : Text) (slot : Slot) (names : List Text) → SeenNames s → SeenNames (stepped (Call f slot names) s)
unfolding step_names
call_seen f slot names h = step_seen (Call f slot names) refl h

define_seen : {s : Seen} (f : Text) → is_name f ≡ true → SeenNames s → SeenNames (stepped (Define f) s)
unfolding step_names
define_seen f e h = step_seen (Define f) e h

module _ (behind : Seen) (ws : List Word) (left : Gains) (names : List Text) (redirected : Bool) (h : SeenNames behind) where
  set_after : (o : Option (List Word)) → AfterNames (after_set behind ws left names redirected o)
  unfolding after_set
  set_after None = both_after (gain_seen left h)
  set_after (Some vs) =
      let counted = gain_seen (named left.names) (count_seen (total vs) h) in
      each_after counted (both_seen counted (gain_seen left h))

  shift_after : (o : Option ℕ) → AfterNames (after_shift behind ws left names redirected o)
  unfolding after_shift
  shift_after None = both_after (count_seen (total []) (gain_seen left h))
  shift_after (Some n) = both_after (shift_seen n (gain_seen left h))

  utility_after : (k : Kind) → AfterNames (after_utility behind ws left names redirected k)
  unfolding after_utility
  utility_after (kind.Special known.Colon) = each_after (gain_seen left h) none_seen
  utility_after (kind.Special known.Export) = both_after (gain_seen _ (gain_seen left h))
  utility_after (kind.Special known.Readonly) = both_after (gain_seen _ (gain_seen left h))
  utility_after (kind.Special known.Unset) = both_after (lose_seen (unset_names ws) (gain_seen left h))
  utility_after (kind.Special known.Set) = set_after (positional_words ws)
  utility_after (kind.Special known.Shift) = shift_after (first_number ws)
  utility_after (kind.Special known.Exit) = both_after none_seen
  utility_after (kind.Special known.Break) = both_after none_seen
  utility_after (kind.Special known.Continue) = both_after none_seen
  utility_after (kind.Special known.Return) = both_after none_seen
  utility_after (kind.Special known.Exec) = each_after (either_seen (runs_command ws) none_seen (gain_seen left h)) (gain_seen left h)
  utility_after (kind.Special known.Times) = both_after (gain_seen left h)
  utility_after (kind.Special known.Trap) = both_after (gain_seen left h)
  utility_after kind.True = each_after h (either_seen redirected h none_seen)
  utility_after kind.False = each_after none_seen h
  utility_after kind.Read = each_after (gain_seen _ h) h
  utility_after kind.Getopts = each_after (lose_seen _ (gain_seen _ h)) (lose_seen _ h)
  utility_after k = both_after h

  nameless_after : AfterNames (after_nameless behind ws left names redirected)
  unfolding after_nameless
  nameless_after = each_after (gain_seen left h) (either_seen redirected h (gain_seen left h))

words_seen : (es : p.Elements) (n : ℕ) → SeenNames (behind_words es (at (Before n)))
words_seen es n = gain_seen _ (at_seen (Before n))

call_bound : (x : Around) (n : ℕ) (es : p.Elements) (f : Text) (ws : List Word) → BoundNames (r.call_bounds x n es f ws)
unfolding r.call_bounds r.where_redirected
call_bound x n es f ws =
    let behind = words_seen es n in
    more (more (more (seen_bound (Entry f) n F14 (gain_seen (named (prefixes es)) (count_seen (total ws) behind))) (seen_bound (AfterZero n) n F14 (call_seen f (ReturnsZero f) (prefixes es) behind)))
    (seen_bound (AfterNonzero n) n F14 (call_seen f (ReturnsNonzero f) (prefixes es) behind))) (if_bound (is_redirected (redirects_in es)) (seen_bound (AfterNonzero n) n F14 behind))

simple_bound : (x : Around) (n : ℕ) (es : p.Elements) (m : Manner) → BoundNames (r.simple_bounds x n es m)
unfolding r.simple_bounds
simple_bound x n es Nameless =
    leaves_bound n F5 (nameless_after (behind_words es (at (Before n))) [] (assignments_gains es) (prefixes es) (is_redirected (redirects_in es)) (words_seen es n))
simple_bound x n es (Utility k ws) =
    let left = and_gains (assignments_gains es) (redirections_gains es) in
    more (leaves_bound n F4 (utility_after (behind_words es (at (Before n))) ws left (prefixes es) (is_redirected (redirects_in es)) (words_seen es n) k))
    (jumps_bound x n k ws (gaining left (behind_words es (at (Before n)))) (gain_seen left (words_seen es n)))
simple_bound x n es (table.Call f ws) = call_bound x n es f ws

-- Compound commands

branches_bound : (n : ℕ) (s : Seen) (bs : p.Branches) → SeenNames s → BoundNames (r.branches_bounds n s bs)
unfolding r.branches_bounds
branches_bound n s p.no_branches h = none_bound
branches_bound n s (p.more_branches condition body rest) h =
    let tested = after_items (Both s) condition (both_after h) in
    more (leaves_bound n F6 (after_items (Both (if_zero (items_after (Both s) condition))) body (both_after tested.zero))) (branches_bound n (if_nonzero (items_after (Both s) condition)) rest tested.nonzero)

otherwise_bound : (n : ℕ) (s : Seen) (o : p.Otherwise) → SeenNames s → BoundNames (r.otherwise_bounds n s o)
unfolding r.otherwise_bounds
otherwise_bound n s p.no_else h = seen_bound (AfterZero n) n F6 h
otherwise_bound n s (p.else_of list) h = leaves_bound n F6 (after_items (Both s) list (both_after h))

clauses_bound : (n : ℕ) (s fallen : Seen) (cs : p.Clauses) → SeenNames s → SeenNames fallen → BoundNames (r.clauses_bounds n s fallen cs)
unfolding r.clauses_bounds
clauses_bound n s fallen p.no_clauses h k = none_bound
clauses_bound n s fallen (p.more_clauses patterns body end rest) h k =
    let left = after_items (Both (s ++ fallen)) body (both_after (both_seen h k)) in
    more (if_bound (r.is_last end rest) (leaves_bound n F9 left)) (clauses_bound n s (falls end (items_after (Both (s ++ fallen)) body)) rest h (fallen_seen end (items_after (Both (s ++ fallen)) body) left))

body_bound : (f : Text) (c : p.Command) → BoundNames (r.body_bounds f c)
unfolding r.body_bounds
body_bound f (p.command m offset k rs) = more (seen_bound (ReturnsZero f) m F13 (at_seen (AfterZero m))) (seen_bound (ReturnsNonzero f) m F13 (at_seen (AfterNonzero m)))

kind_bound : (functions : List Text) (x : Around) (n : ℕ) (s : Seen) (k : p.Kind) (rs : p.Redirects) → kind_formed k rs ≡ true → SeenNames s → BoundNames (r.kind_bounds functions x n s k)
unfolding r.kind_bounds kind_formed
kind_bound functions x n s (p.Simple es) rs e h = simple_bound x n es (manner functions es)
kind_bound functions x n s (p.Group list) rs e h = leaves_bound n F10 (after_items (Both s) list (both_after h))
kind_bound functions x n s (p.Subshell list) rs e h = leaves_bound n F11 (both_after (at_seen (Before n)))
kind_bound functions x n s (p.Conditional branches otherwise) rs e h = more (branches_bound n s branches h) (otherwise_bound n (otherwise_seen s branches) otherwise (after_conditions s branches h))
kind_bound functions x n s (p.Loop k condition body) rs e h =
    let tested = after_items (Both (at (Head n))) condition (both_after (at_seen (Head n))) in
    let turn = turns k (items_after (Both (at (Head n))) condition) in
    let turned = after_items (Both turn) body (both_after (turn_seen k (items_after (Both (at (Head n))) condition) tested)) in
    more (more (seen_bound (Head n) n F7 h) (seen_bound (Head n) n F7 (any_after (items_after (Both turn) body) turned)))
    (leaves_bound n F7 (both_after (end_seen k (items_after (Both (at (Head n))) condition) tested)))
kind_bound functions x n s (p.For name ws body) rs e h =
    let turn = gaining_names (name ∷ []) (at (Head n)) in
    let turned = after_items (Both turn) body (both_after (gain_seen (named (name ∷ [])) (at_seen (Head n)))) in
    more (more (seen_bound (Head n) n F8 (list_seen ws s h)) (seen_bound (Head n) n F8 (any_after (items_after (Both turn) body) turned))) (leaves_bound n F8 (both_after (at_seen (Head n))))
kind_bound functions x n s (p.Case w cs) rs e h =
    let behind = gain_seen (word_gains w) h in
    more (clauses_bound n (gaining (word_gains w) s) [] cs behind none_seen) (unless_bound (r.matches_always cs) (seen_bound (AfterZero n) n F9 behind))
kind_bound functions x n s (p.Define name body) rs e h = more (seen_bound (AfterZero n) n F13 (define_seen name e (at_seen (Before n)))) (body_bound name body)

redirects_bound : (n : ℕ) (rs : p.Redirects) → BoundNames (r.redirects_bounds n rs)
unfolding r.redirects_bounds
redirects_bound n rs = if_bound (is_redirected rs) (seen_bound (AfterNonzero n) n F10 (at_seen (Before n)))

-- Losses

record LossNames (ls : List Loss) : Type 0 where
  all : list_all loss_names ls ≡ true

none_lost : LossNames []
none_lost = record { all = refl }

both_lost : {ls ms : List Loss} → LossNames ls → LossNames ms → LossNames (ls ++ ms)
both_lost {ls = ls} {ms = ms} h k = record { all = list_all-append loss_names ls ms ∙ and_from (list_all loss_names ls) (list_all loss_names ms) h.all k.all }

-- `unset` takes names alone
unset_names_are : (ws : List Word) → list_all is_name (unset_names ws).functions ≡ true
unfolding unset_names removed
unset_names_are ws = go (unset_operands (statics ws)).0 (filter is_name (unset_operands (statics ws)).1) (list_all-from_AllPass is_name _ (filter_passes is_name (unset_operands (statics ws)).1))
  where
    go : (o : Removal) (names : List Text) → list_all is_name names ≡ true → list_all is_name (removed o names).functions ≡ true
    go OfVariables names h = refl
    go OfFunctions names h = h
    go OfEither names h = h
    go OfAny names h = h

utility_lost : (functions : List Text) (k : Kind) (ws : List Word) → LossNames (r.utility_losses functions k ws)
unfolding r.utility_losses loss_names
utility_lost functions (kind.Special known.Unset) ws =
    let names = (unset_names ws).functions in
    let all = All-filter (is_one_of functions) (λ x. is_name x ≡ true) names (AllPass-from_list_all is_name names (unset_names_are ws)) in
    record { all = and_from _ true (list_all-from_AllPass is_name (filter (is_one_of functions) names) all) refl }
utility_lost functions kind.Getopts ws = record { all = refl }
utility_lost functions k ws = none_lost

builtin_lost : (f : Text) → LossNames (r.builtin_losses f)
unfolding loss_names
builtin_lost f = go (bytes_eq f (codes "getopts"))
  where
    go : (t : Bool) → LossNames (if t then OfNames (record { vars = codes "OPTARG" ∷ []; functions = [] }) ∷ [] else [])
    go true = record { all = refl }
    go false = none_lost

unseen_lost : (vars : List Text) (s : Seen) → LossNames (map (OfUnseen vars) s)
unfolding loss_names
unseen_lost vars s = record { all = go s }
  where
    go : (s : Seen) → list_all loss_names (map (OfUnseen vars) s) ≡ true
    go [] = refl
    go (v ∷ s) = go s

manner_lost : (functions : List Text) (es : p.Elements) (s : Seen) (m : Manner) → LossNames (losses_by functions es s m)
unfolding losses_by loss_names
manner_lost functions es s Nameless = none_lost
manner_lost functions es s (Utility k ws) = utility_lost functions k ws
manner_lost functions es s (table.Call f ws) = let rest = both_lost (builtin_lost f) (unseen_lost (prefixes es) s) in record { all = rest.all }

counted_bound : (o : Option Text) (n : ℕ) (ls : List Loss) → LossNames ls → BoundNames (r.counted o n ls)
unfolding r.counted
counted_bound None n ls h = none_bound
counted_bound (Some f) n ls h = record { all = go ls h.all }
  where
    go : (ls : List Loss) → list_all loss_names ls ≡ true → list_all bound_names (map (Counted f n) ls) ≡ true
    go [] k = refl
    go (l ∷ ls) k =
        let parts = and_parts (loss_names l) (list_all loss_names ls) k in
        and_from (bound_names (Counted f n l)) (list_all bound_names (map (Counted f n) ls)) (counted_names f n l parts.0) (go ls parts.1)

-- Commands

command_lost : (functions : List Text) (by : FlowRule) (x : Around) (s : Seen) (c : p.Command) → LossNames (losses functions (record { command = c; rule = by; around = x; seen = s }))
unfolding losses
command_lost functions by x s (p.command n offset (p.Simple es) rs) = manner_lost functions es (behind_words es (at (Before n))) (manner functions es)
command_lost functions by x s (p.command n offset k rs) = none_lost

command_bound : (functions : List Text) (by : FlowRule) (x : Around) (s : Seen) (c : p.Command) → command_formed c ≡ true → SeenNames s → BoundNames (bounds functions (record { command = c; rule = by; around = x; seen = s }))
unfolding bounds command_formed
command_bound functions by x s (p.command n offset k rs) e h =
    let formed = (and_parts (kind_formed k rs) _ e).0 in
    more (more (more (seen_bound (Before n) n by h) (kind_bound functions x n (behind_redirects n rs) k rs formed (gain_seen _ (at_seen (Before n))))) (redirects_bound n rs))
    (counted_bound x.drops n _ (command_lost functions by x s (p.command n offset k rs)))

all_bound : (functions : List Text) (es : List Entered) → list_all (λ (e : Entered). command_formed e.command) es ≡ true → list_all (λ (e : Entered). list_all view_names e.seen) es ≡ true → BoundNames (flat_map (bounds functions) es)
all_bound functions [] h k = none_bound
all_bound functions (e ∷ es) h k =
    let formed = and_parts (command_formed e.command) _ h in
    let seen = and_parts (list_all view_names e.seen) _ k in
    more (command_bound functions e.rule e.around e.seen e.command formed.0 (record { all = seen.0 })) (all_bound functions es formed.1 seen.1)

formed_define : (t : p.Items) → is_formed t ≡ true → list_all bound_names (script_bounds t) ≡ true
unfolding script_bounds
formed_define t h = (all_bound (functions_of (script_entered t)) (script_entered t) (script_formed t h) (all_seen t)).all

pub rules_define_names : RulesDefineNames
rules_define_names b d t names a = formed_define (script_of b t) (read_formed b t (MAX_NESTING, a.reading.1.0, a.reading.1.1))
