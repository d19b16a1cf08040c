-- The names that a rule requires a function to drop are numbered: those of `unset`, of prefix
-- assignments, and OPTARG.
use Rattle.std.proofs.Common.{◌≡◌, ◌==◌, ℕ, Bool, true, false, not, ◌&&◌, ◌||◌, if◌then◌else◌, cond, Option, Some, None, List, [], ◌∷◌, ◌++◌, fold, flat_map, map, refl, sym, ap, ◌∙◌, true≢false}
use Rattle.std.specs.Prelude.{codes, drop, filter}
use Rattle.std.specs.List.{list_all, cons_option}
use Rattle.std.specs.Str.{bytes_eq}
use Rattle.std.proofs.lemmas.Bool.{and_from, and_parts}
use Rattle.std.proofs.lemmas.List.{append_assoc}
use Rattle.std.proofs.lemmas.List.Folds.{list_all-append}
use Rattle.std.proofs.lemmas.List.Sums.{fold-append}
use Rattle.std.proofs.lemmas.Slice.Eq.{bytes_eq-Decides}
use Rattle.sh_tree.specs.declared.known.KnownName.TheVariants as known
use Rattle.sh_tree.specs.declared.tree.Command.{Command, out-Command}
use Rattle.sh_tree.specs.declared.tree.Kind as tree
use Rattle.sh_tree.specs.declared.tree.Kind.{Simple', items-the_row-Element}
use Rattle.sh_tree.specs.declared.tree.Script.{Script}
use Rattle.sh_tree.specs.declared.tree.Word as tree_word
use Rattle.sh_tree.specs.standard.language.Bytes.{is_name}
use Rattle.sh_tree.specs.Lists.{parts_from, redirects_from, words_from}
use Rattle.sh_tree.specs.standard.program.Syntax as p
use Rattle.sh_tree.specs.standard.program.Syntax.{Text, Word}
use Rattle.sh_tree.specs.standard.program.Trees as trees
use Rattle.sh_tree.specs.standard.program.Words.{operands_in, redirects_in, static_of, words_in}
use Rattle.sh_tree.specs.standard.Words.{static_text, words_of}
use Rattle.sh_tree.proofs.ProgramForms.{operands_of_elements}
use Rattle.sh_tree.proofs.ProgramRules as rules
use Rattle.sh_tree.proofs.ProgramWords.{static_of_parts}
use Rattle.sh_runs.specs.declared.kind.Kind.{Kind}
use Rattle.sh_runs.specs.declared.kind.Kind.TheVariants as kind
use Rattle.sh_runs.specs.standard.Kinds.{Table, all_names, kind_of, look_up}
use Rattle.sh_runs.specs.Surroundings.{outside}
use Rattle.sh_runs.specs.standard.runs.Environment.{is_one_of}
use Rattle.sh_runs.specs.standard.runs.Operands.{Removal, OfVariables, OfFunctions, OfEither, OfAny, ends_options, is_dashed, removal_of, unset_from, unset_operands}
use Rattle.sh_domain.specs.declared.rule.FlowRule.{FlowRule}
use Rattle.sh_domain.specs.declared.rule.FlowRule.TheVariants.{F5, F6, F7, F8, F9, F10, F11, F13, F14, F15}
use Rattle.sh_domain.specs.declared.rule.FlowRule.TheVariants as flow
use Rattle.sh_domain.specs.Entries.{Around, Entered, behind_list, behind_redirects, ends, falls, items_after, otherwise_seen, script_entered, turns}
use Rattle.sh_domain.specs.Facts.{Declared}
use Rattle.sh_domain.specs.Gains.{word_gains}
use Rattle.sh_domain.specs.Names.{IsNumbering, first_names, with_text}
use Rattle.sh_domain.specs.Operands.{Names, removed, statics, total, unset_names}
use Rattle.sh_domain.specs.Rules as r
use Rattle.sh_domain.specs.Rules.{Constraint, Within, Counted, bound, bounds, builtin_losses, leaves, losses, losses_by, script_bounds, utility_losses}
use Rattle.sh_domain.specs.Sights as sights
use Rattle.sh_domain.specs.Sights.{Sight, behind_options, in_command, in_element, in_kind, in_redirect, named_sights, operand_sights, placed, static_sights, that_are_names, unset_sights}
use Rattle.sh_domain.specs.Table.{Manner, Nameless, Utility, behind_words, is_redirected, is_special, manner, manner_of_name, manner_of_words, operands, prefixes}
use Rattle.sh_domain.specs.Table as table
use Rattle.sh_domain.specs.Views.{Slot, Before, AfterZero, AfterNonzero, Head, Entry, ReturnsZero, ReturnsNonzero, Seen, After, Both, Loss, OfNames, OfFunction, OfUnseen, at, gaining, gaining_names, if_nonzero, if_zero, in_any_case, stepped, Call, Count, Define}
use Rattle.sh_domain.proofs.EnteredWalk.{script_walked}
use Rattle.sh_gains.proofs.SightLemmas.{all_stay, seen_reach, Seen as Seen_by, front, rest_of}
use Rattle.sh_domain.proofs.StandLemmas.{all_stand}
use Rattle.sh_rules.specs.Asked.{has_numbered_prefixes}
use Rattle.sh_rules.specs.CommandBounds.{prefixes_in}
use Rattle.sh_rules.proofs.PrefixLemmas.{prefixes_are_numbered}

-- Which names `unset` is asked to remove

unset_texts : List Text → List Text
unset_texts ts = filter is_name (unset_operands ts).1

unset_by : Option Text → List Word → List Text
unset_by None ws = []
unset_by (Some t) ws = if bytes_eq (codes "unset") t then unset_texts (statics ws) else []

unset_of : List Word → List Text
unset_of [] = []
unset_of (w ∷ ws) = unset_by (static_of w) ws

unset_in : p.Command → List Text
unset_in (p.command n at (p.Simple es) rs) = unset_of (operands es)
unset_in (p.command n at k rs) = []

-- a utility of this kind has this name
is_unset : Kind → Bool
is_unset (kind.Special known.Unset) = true
is_unset k = false

row_unset : Text × Kind → Bool
row_unset x = not (is_unset x.1) || bytes_eq (codes "unset") x.0

rows_unset : list_all row_unset all_names ≡ true
unfolding row_unset is_unset
rows_unset = refl

found_unset : (xs : Table) (t : Text) → list_all row_unset xs ≡ true → is_unset (look_up xs t) ≡ true → bytes_eq (codes "unset") t ≡ true
unfolding look_up is_unset row_unset
found_unset [] t all e = absurd (true≢false (sym e))
found_unset (x ∷ xs) t all e = go (found_unset xs t (and_parts (row_unset x) (list_all row_unset xs) all).1) (bytes_eq x.0 t) refl e
  where
    own : (a b : Bool) → (not a || b) ≡ true → a ≡ true → b ≡ true
    own true b h e = h
    own false b h e = absurd (true≢false (sym e))

    go : (is_unset (look_up xs t) ≡ true → bytes_eq (codes "unset") t ≡ true) → (b : Bool) → bytes_eq x.0 t ≡ b → is_unset (if b then x.1 else look_up xs t) ≡ true → bytes_eq (codes "unset") t ≡ true
    go later true is h =
        let same : x.0 ≡ t = (bytes_eq-Decides x.0 t).0 is in
        ap (bytes_eq (codes "unset")) (sym same) ∙ own (is_unset x.1) (bytes_eq (codes "unset") x.0) (and_parts (row_unset x) (list_all row_unset xs) all).0 h
    go later false is h = later h

unset_named : (t : Text) → is_unset (kind_of t) ≡ true → bytes_eq (codes "unset") t ≡ true
unfolding kind_of
unset_named t e = found_unset all_names t rows_unset e

pub filter_all : (q v : Text → Bool) (ts : List Text) → list_all q ts ≡ true → list_all q (filter v ts) ≡ true
filter_all q v [] h = refl
filter_all q v (t ∷ ts) h = go (filter_all q v ts (and_parts (q t) (list_all q ts) h).1) (v t)
  where
    go : list_all q (filter v ts) ≡ true → (b : Bool) → list_all q (cond b (t ∷ filter v ts) (filter v ts)) ≡ true
    go rest true = and_from (q t) _ (and_parts (q t) (list_all q ts) h).0 rest
    go rest false = rest

module _ (q : Text → Bool) where
  -- the names of a loss pass the test, except for those that a function drops
  unfoldable pub loss_passes : Loss → Bool
  loss_passes (OfNames names) = list_all q names.vars && list_all q names.functions
  loss_passes (OfFunction f) = true
  loss_passes (OfUnseen vars v) = list_all q vars

  unfoldable pub asked_passes : Constraint → Bool
  asked_passes (Within slot n rule v) = true
  asked_passes (Counted f n loss) = loss_passes loss

  record Pass (ks : List Constraint) : Type 0 where
    all : list_all asked_passes ks ≡ true

  record Lose (ls : List Loss) : Type 0 where
    all : list_all loss_passes ls ≡ true

  -- What a command loses

  none_lost : Lose []
  none_lost = record { all = refl }

  more_lost : {ks ls : List Loss} → Lose ks → Lose ls → Lose (ks ++ ls)
  more_lost {ks = ks} {ls = ls} h k = record { all = list_all-append loss_passes ks ls ∙ and_from (list_all loss_passes ks) (list_all loss_passes ls) h.all k.all }

  one_lost : (names : Names) → list_all q names.vars ≡ true → list_all q names.functions ≡ true → Lose (OfNames names ∷ [])
  unfolding loss_passes
  one_lost names v f = record { all = and_from (list_all q names.vars && list_all q names.functions) true (and_from (list_all q names.vars) (list_all q names.functions) v f) refl }

  removed_vars : (m : Removal) (ts : List Text) → list_all q ts ≡ true → list_all q (removed m ts).vars ≡ true
  unfolding removed
  removed_vars OfVariables ts h = h
  removed_vars OfFunctions ts h = refl
  removed_vars OfEither ts h = h
  removed_vars OfAny ts h = h

  removed_functions : (m : Removal) (ts : List Text) → list_all q ts ≡ true → list_all q (removed m ts).functions ≡ true
  unfolding removed
  removed_functions OfVariables ts h = refl
  removed_functions OfFunctions ts h = h
  removed_functions OfEither ts h = h
  removed_functions OfAny ts h = h

  module _ (optarg : q (codes "OPTARG") ≡ true) (functions : List Text) where
    optarg_lost : Lose (OfNames (record { vars = codes "OPTARG" ∷ []; functions = [] }) ∷ [])
    optarg_lost = one_lost (record { vars = codes "OPTARG" ∷ []; functions = [] }) (and_from (q (codes "OPTARG")) true optarg refl) refl

    utility_loses : (k : Kind) (ws : List Word) → (is_unset k ≡ true → list_all q (unset_texts (statics ws)) ≡ true) → Lose (utility_losses functions k ws)
    unfolding utility_losses is_unset unset_names unset_texts
    utility_loses (kind.Special known.Unset) ws h =
        let all : list_all q (filter is_name (unset_operands (statics ws)).1) ≡ true = h refl in
        let m = (unset_operands (statics ws)).0 in
        one_lost _ (removed_vars m _ all) (filter_all q (is_one_of functions) (removed m (filter is_name (unset_operands (statics ws)).1)).functions (removed_functions m _ all))
    utility_loses kind.Getopts ws h = optarg_lost
    utility_loses k ws h = none_lost

    builtin_loses : (f : Text) → Lose (builtin_losses f)
    builtin_loses f = go (bytes_eq f (codes "getopts"))
      where
        go : (b : Bool) → Lose (if b then OfNames (record { vars = codes "OPTARG" ∷ []; functions = [] }) ∷ [] else [])
        go true = optarg_lost
        go false = none_lost

    unseen_lost : (vars : List Text) (s : Seen) → list_all q vars ≡ true → Lose (map (OfUnseen vars) s)
    unfolding loss_passes
    unseen_lost vars s h = record { all = go s }
      where
        go : (s : Seen) → list_all loss_passes (map (OfUnseen vars) s) ≡ true
        go [] = refl
        go (v ∷ s) = and_from (list_all q vars) _ h (go s)

    function_lost : (f : Text) → Lose (OfFunction f ∷ [])
    unfolding loss_passes
    function_lost f = record { all = refl }

    named_loses : (es : p.Elements) (s : Seen) (o : Option Text) (ws : List Word) → list_all q (prefixes es) ≡ true → list_all q (unset_by o ws) ≡ true → Lose (losses_by functions es s (manner_of_name functions o ws))
    unfolding losses_by manner_of_name unset_by is_unset
    named_loses es s None ws pre h = utility_loses kind.Utility ws (λ e. absurd (true≢false (sym e)))
    named_loses es s (Some t) ws pre h = go (is_one_of functions t && not (is_special (kind_of t)))
      where
        named : (b : Bool) → bytes_eq (codes "unset") t ≡ b → list_all q (if b then unset_texts (statics ws) else []) ≡ true → is_unset (kind_of t) ≡ true → list_all q (unset_texts (statics ws)) ≡ true
        named true e k u = k
        named false e k u = absurd (true≢false (sym (unset_named t u) ∙ e))

        go : (b : Bool) → Lose (losses_by functions es s (if b then table.Call t ws else Utility (kind_of t) ws))
        go true = more_lost (function_lost t) (more_lost (builtin_loses t) (unseen_lost (prefixes es) s pre))
        go false = utility_loses (kind_of t) ws (named (bytes_eq (codes "unset") t) refl h)

    words_lose : (es : p.Elements) (s : Seen) (ws : List Word) → list_all q (prefixes es) ≡ true → list_all q (unset_of ws) ≡ true → Lose (losses_by functions es s (manner_of_words functions ws))
    unfolding losses_by manner_of_words unset_of
    words_lose es s [] pre h = none_lost
    words_lose es s (w ∷ ws) pre h = named_loses es s (static_of w) ws pre h

    command_loses : (by : FlowRule) (x : Around) (s : Seen) (c : p.Command) → list_all q (prefixes_in c) ≡ true → list_all q (unset_in c) ≡ true
        → Lose (losses functions (record { command = c; rule = by; around = x; seen = s }))
    unfolding losses prefixes_in unset_in
    command_loses by x s (p.command n offset (p.Simple es) rs) pre h = words_lose es _ (operands es) pre h
    command_loses by x s (p.command n offset k rs) pre h = none_lost

    -- What rules ask

    none_asked : Pass []
    none_asked = record { all = refl }

    more : {ks ls : List Constraint} → Pass ks → Pass ls → Pass (ks ++ ls)
    more {ks = ks} {ls = ls} h k = record { all = list_all-append asked_passes ks ls ∙ and_from (list_all asked_passes ks) (list_all asked_passes ls) h.all k.all }

    if_asked : {ks : List Constraint} (t : Bool) → Pass ks → Pass (if t then ks else [])
    if_asked true h = h
    if_asked false h = none_asked

    unless_asked : {ks : List Constraint} (t : Bool) → Pass ks → Pass (if t then [] else ks)
    unless_asked true h = none_asked
    unless_asked false h = h

    bound_asks : (slot : Slot) (n : ℕ) (rule : FlowRule) (s : Seen) → Pass (bound slot n rule s)
    unfolding asked_passes
    bound_asks slot n rule s = record { all = go s }
      where
        go : (s : Seen) → list_all asked_passes (bound slot n rule s) ≡ true
        go [] = refl
        go (v ∷ s) = go s

    leaves_ask : (n : ℕ) (rule : FlowRule) (o : After) → Pass (leaves n rule o)
    leaves_ask n rule o = more (bound_asks (AfterZero n) n rule (if_zero o)) (bound_asks (AfterNonzero n) n rule (if_nonzero o))

    breaks_ask : (o : Option ℕ) (n : ℕ) (s : Seen) → Pass (r.breaks o n s)
    unfolding r.breaks
    breaks_ask None n s = none_asked
    breaks_ask (Some l) n s = more (bound_asks (AfterZero l) n F15 s) (bound_asks (AfterNonzero l) n F15 s)

    continues_ask : (o : Option ℕ) (n : ℕ) (s : Seen) → Pass (r.continues o n s)
    unfolding r.continues
    continues_ask None n s = none_asked
    continues_ask (Some l) n s = bound_asks (Head l) n F15 s

    returns_with_ask : (status : Option ℕ) (f : Text) (n : ℕ) (s : Seen) → Pass (r.returns_with status f n s)
    unfolding r.returns_with
    returns_with_ask None f n s = more (bound_asks (ReturnsZero f) n F15 s) (bound_asks (ReturnsNonzero f) n F15 s)
    returns_with_ask (Some status) f n s = go (status == 0)
      where
        go : (t : Bool) → Pass (if t then bound (ReturnsZero f) n F15 s else bound (ReturnsNonzero f) n F15 s)
        go true = bound_asks (ReturnsZero f) n F15 s
        go false = bound_asks (ReturnsNonzero f) n F15 s

    returns_ask : (status : Option ℕ) (o : Option Text) (n : ℕ) (s : Seen) → Pass (r.returns status o n s)
    unfolding r.returns
    returns_ask status None n s = none_asked
    returns_ask status (Some f) n s = returns_with_ask status f n s

    jumps_ask : (x : Around) (n : ℕ) (k : Kind) (ws : List Word) (s : Seen) → Pass (r.jumps x n k ws s)
    unfolding r.jumps
    jumps_ask x n (kind.Special known.Break) ws s = breaks_ask _ n s
    jumps_ask x n (kind.Special known.Continue) ws s = continues_ask _ n s
    jumps_ask x n (kind.Special known.Return) ws s = returns_ask _ x.function n s
    jumps_ask x n k ws s = none_asked

    simple_asks : (x : Around) (n : ℕ) (es : p.Elements) (m : Manner) → Pass (r.simple_bounds x n es m)
    unfolding r.simple_bounds r.call_bounds r.where_redirected
    simple_asks x n es Nameless = leaves_ask n F5 _
    simple_asks x n es (Utility k ws) = more (leaves_ask n flow.F4 _) (jumps_ask x n k ws _)
    simple_asks x n es (table.Call f ws) =
        let behind : Seen = behind_words es (at (Before n)) in
        more (more (more (bound_asks (Entry f) n F14 (gaining_names (prefixes es) (stepped (Count (total ws)) behind))) (bound_asks (AfterZero n) n F14 (stepped (Call f (ReturnsZero f) (prefixes es)) behind)))
        (bound_asks (AfterNonzero n) n F14 (stepped (Call f (ReturnsNonzero f) (prefixes es)) behind))) (if_asked (is_redirected (redirects_in es)) (bound_asks (AfterNonzero n) n F14 behind))

    branches_ask : (n : ℕ) (s : Seen) (bs : p.Branches) → Pass (r.branches_bounds n s bs)
    unfolding r.branches_bounds
    branches_ask n s p.no_branches = none_asked
    branches_ask n s (p.more_branches condition body rest) = more (leaves_ask n F6 _) (branches_ask n (if_nonzero (items_after (Both s) condition)) rest)

    otherwise_asks : (n : ℕ) (s : Seen) (o : p.Otherwise) → Pass (r.otherwise_bounds n s o)
    unfolding r.otherwise_bounds
    otherwise_asks n s p.no_else = bound_asks (AfterZero n) n F6 s
    otherwise_asks n s (p.else_of list) = leaves_ask n F6 _

    clauses_ask : (n : ℕ) (s fallen : Seen) (cs : p.Clauses) → Pass (r.clauses_bounds n s fallen cs)
    unfolding r.clauses_bounds
    clauses_ask n s fallen p.no_clauses = none_asked
    clauses_ask n s fallen (p.more_clauses patterns body end rest) =
        more (if_asked (r.is_last end rest) (leaves_ask n F9 _)) (clauses_ask n s (falls end (items_after (Both (s ++ fallen)) body)) rest)

    body_asks : (f : Text) (c : p.Command) → Pass (r.body_bounds f c)
    unfolding r.body_bounds
    body_asks f (p.command m offset k rs) = more (bound_asks (ReturnsZero f) m F13 (at (AfterZero m))) (bound_asks (ReturnsNonzero f) m F13 (at (AfterNonzero m)))

    kind_asks : (x : Around) (n : ℕ) (s : Seen) (k : p.Kind) → Pass (r.kind_bounds functions x n s k)
    unfolding r.kind_bounds
    kind_asks x n s (p.Simple es) = simple_asks x n es (manner functions es)
    kind_asks x n s (p.Group list) = leaves_ask n F10 _
    kind_asks x n s (p.Subshell list) = leaves_ask n F11 _
    kind_asks x n s (p.Conditional branches otherwise) = more (branches_ask n s branches) (otherwise_asks n (otherwise_seen s branches) otherwise)
    kind_asks x n s (p.Loop k condition body) =
        more (more (bound_asks (Head n) n F7 s) (bound_asks (Head n) n F7 (in_any_case (items_after (Both (turns k (items_after (Both (at (Head n))) condition))) body))))
        (leaves_ask n F7 (Both (ends k (items_after (Both (at (Head n))) condition))))
    kind_asks x n s (p.For name ws body) =
        more (more (bound_asks (Head n) n F8 (behind_list ws s)) (bound_asks (Head n) n F8 (in_any_case (items_after (Both (gaining_names (name ∷ []) (at (Head n)))) body)))) (leaves_ask n F8 (Both (at (Head n))))
    kind_asks x n s (p.Case w cs) = more (clauses_ask n (gaining (word_gains w) s) [] cs) (unless_asked (r.matches_always cs) (bound_asks (AfterZero n) n F9 (gaining (word_gains w) s)))
    kind_asks x n s (p.Define name body) = more (bound_asks (AfterZero n) n F13 (stepped (Define name) (at (Before n)))) (body_asks name body)

    redirects_ask : (n : ℕ) (rs : p.Redirects) → Pass (r.redirects_bounds n rs)
    unfolding r.redirects_bounds
    redirects_ask n rs = if_asked (is_redirected rs) (bound_asks (AfterNonzero n) n F10 (at (Before n)))

    each_counted : (f : Text) (n : ℕ) (ls : List Loss) → list_all loss_passes ls ≡ true → list_all asked_passes (map (Counted f n) ls) ≡ true
    unfolding asked_passes
    each_counted f n [] h = refl
    each_counted f n (l ∷ ls) h = let both = and_parts (loss_passes l) (list_all loss_passes ls) h in and_from (loss_passes l) _ both.0 (each_counted f n ls both.1)

    counted_ask : (o : Option Text) (n : ℕ) (ls : List Loss) → Lose ls → Pass (r.counted o n ls)
    unfolding r.counted
    counted_ask None n ls h = none_asked
    counted_ask (Some f) n ls h = record { all = each_counted f n ls h.all }

    command_asks : (by : FlowRule) (x : Around) (s : Seen) (c : p.Command) → list_all q (prefixes_in c) ≡ true → list_all q (unset_in c) ≡ true
        → Pass (bounds functions (record { command = c; rule = by; around = x; seen = s }))
    unfolding bounds
    command_asks by x s (p.command n offset k rs) pre h =
        more (more (more (bound_asks (Before n) n by s) (kind_asks x n (behind_redirects n rs) k)) (redirects_ask n rs)) (counted_ask x.drops n _ (command_loses by x s (p.command n offset k rs) pre h))

    all_ask : (es : List Entered) → list_all (λ (e : Entered). list_all q (prefixes_in e.command)) es ≡ true → list_all (λ (e : Entered). list_all q (unset_in e.command)) es ≡ true → Pass (flat_map (bounds functions) es)
    all_ask [] pre h = none_asked
    all_ask (e ∷ es) pre h =
        let ours = and_parts (list_all q (prefixes_in e.command)) _ pre in
        let own = and_parts (list_all q (unset_in e.command)) _ h in
        more (command_asks e.rule e.around e.seen e.command ours.0 own.0) (all_ask es ours.1 own.1)

-- What `unset` names is in the text

abbrev names_in : List Sight → List Text
names_in ss = map (λ (s : Sight). s.name) ss

seen_names : (q : Text → Bool) (ss : List Sight) → list_all (λ (s : Sight). q s.name) ss ≡ true → list_all q (names_in ss) ≡ true
seen_names q [] h = refl
seen_names q (s ∷ ss) h = let both = and_parts (q s.name) _ h in and_from (q s.name) _ both.0 (seen_names q ss both.1)

names_filtered : (ss : List Sight) → names_in (that_are_names ss) ≡ filter is_name (names_in ss)
names_filtered [] = refl
names_filtered (s ∷ ss) = go (names_filtered ss) (is_name s.name)
  where
    go : names_in (that_are_names ss) ≡ filter is_name (names_in ss) → (b : Bool)
        → names_in ((if b then s ∷ [] else []) ++ that_are_names ss) ≡ cond b (s.name ∷ filter is_name (names_in ss)) (filter is_name (names_in ss))
    go rest true = ap (λ ts. s.name ∷ ts) rest
    go rest false = rest

behind_same : (letters : Text) (ss : List Sight) → names_in (behind_options ss) ≡ (unset_from letters (names_in ss)).1
unfolding behind_options unset_from
behind_same letters [] = refl
behind_same letters (s ∷ ss) = go (behind_same (letters ++ drop 1 s.name) ss) (ends_options s.name) (is_dashed s.name)
  where
    go : names_in (behind_options ss) ≡ (unset_from (letters ++ drop 1 s.name) (names_in ss)).1 → (e d : Bool) → names_in (if e then ss else (if d then behind_options ss else s ∷ ss))
        ≡ (if e then (removal_of letters, names_in ss) else (if d then unset_from (letters ++ drop 1 s.name) (names_in ss) else (removal_of letters, s.name ∷ names_in ss))).1
    go rest true d = refl
    go rest false true = rest
    go rest false false = refl

module _ (b : List ℕ) where
  statics_same : (ws : List tree_word.Word) → names_in (static_sights b ws) ≡ statics (words_in (words_from b ws))
  unfolding words_in words_from placed
  statics_same [] = refl
  statics_same (w ∷ ws) = ap (λ o. names_in (placed w.span.start o ++ static_sights b ws)) (sym (static_of_parts b w.parts)) ∙ go (statics_same ws) (static_of (parts_from b w.parts))
    where
      go : names_in (static_sights b ws) ≡ statics (words_in (words_from b ws)) → (o : Option Text) → names_in (placed w.span.start o ++ static_sights b ws) ≡ cons_option o (statics (words_in (words_from b ws)))
      go rest None = rest
      go rest (Some t) = ap (λ ts. t ∷ ts) rest

  unset_same : (ws : List tree_word.Word) → names_in (unset_sights b ws) ≡ unset_texts (statics (words_in (words_from b ws)))
  unfolding unset_texts
  unset_same ws =
      names_filtered (behind_options (static_sights b ws))
      ∙ ap (filter is_name) (behind_same [] (static_sights b ws) ∙ ap (λ ts. (unset_from [] ts).1) (statics_same ws))

  module _ (q : Text → Bool) where
    unset_seen : (rest : List Sight) (ws : List tree_word.Word) (c : Bool) → Seen_by q (if c then unset_sights b ws else rest) → list_all q (if c then unset_texts (statics (words_in (words_from b ws))) else []) ≡ true
    unset_seen rest ws true h = ap (list_all q) (sym (unset_same ws)) ∙ seen_names q (unset_sights b ws) h
    unset_seen rest ws false h = refl

    named_seen : (o : Option Text) (ws : List tree_word.Word) → Seen_by q (sights.by_name b o ws) → list_all q (unset_by o (words_in (words_from b ws))) ≡ true
    unfolding sights.by_name named_sights unset_by
    named_seen None ws h = refl
    named_seen (Some t) ws h = unset_seen _ ws (bytes_eq (codes "unset") t) h

    words_seen : (ws : List tree_word.Word) → Seen_by q (operand_sights b ws) → list_all q (unset_of (words_in (words_from b ws))) ≡ true
    unfolding operand_sights words_in words_from unset_of
    words_seen [] h = refl
    words_seen (w ∷ ws) h = ap (λ o. list_all q (unset_by o (words_in (words_from b ws)))) (static_of_parts b w.parts) ∙ named_seen (static_text b w.parts) ws h

    kind_seen : (n offset : ℕ) (rs : p.Redirects) (k : tree.Kind) → Seen_by q (in_kind b k) → list_all q (unset_in (p.command n offset (trees.kind_of b k) rs)) ≡ true
    unfolding in_kind trees.part_of unset_in
    kind_seen n offset rs (Simple' shape row) h =
        let es = items-the_row-Element _ row in
        ap (λ x. list_all q (unset_of (words_in (operands_in x)))) (rules.elements_listed b row)
        ∙ ap (λ x. list_all q (unset_of (words_in x))) (operands_of_elements b es)
        ∙ words_seen (words_of es) (rest_of q (flat_map (in_element b) es) (operand_sights b (words_of es)) h)
    kind_seen n offset rs _ h = refl

    command_seen : (c : Command) → Seen_by q (in_command b c) → list_all q (unset_in (trees.command_of b c)) ≡ true
    command_seen c h =
        ap (λ m. list_all q (unset_in m)) (rules.command_of-out b c)
        ∙ kind_seen _ _ (redirects_from b (out-Command c).redirects) (out-Command c).kind (front q (in_kind b (out-Command c).kind) (flat_map (in_redirect b) (out-Command c).redirects) h)

empty_seen : (q : Text → Bool) → list_all q (unset_in (p.command 0 0 (p.Group p.no_items) p.no_redirects)) ≡ true
unfolding unset_in
empty_seen q = refl

unset_numbered : (b : List ℕ) (d : Declared) (t : Script) (names : List Text) → IsNumbering b t d names
    → list_all (λ (e : Entered). list_all (is_one_of names) (unset_in e.command)) (script_entered (trees.script_of b t)) ≡ true
unset_numbered b d t names n =
    let q = is_one_of names in
    script_walked (λ x c. list_all q (unset_in c)) (λ e x c k. k) (trees.script_of b t)
    (all_stand b (λ (c : Command). list_all (λ (s : Sight). q s.name) (in_command b c)) (λ c. list_all q (unset_in c)) (command_seen b q) (empty_seen q) outside t (seen_reach b t d names n))

-- OPTARG is one of the first names

first_optarg : is_one_of (fold with_text [] first_names) (codes "OPTARG") ≡ true
first_optarg = refl

optarg_numbered : (b : List ℕ) (d : Declared) (t : Script) (names : List Text) → IsNumbering b t d names → is_one_of names (codes "OPTARG") ≡ true
optarg_numbered b d t names n =
    let others = d.names ++ names_in n.seen in
    ap (λ ns. is_one_of ns (codes "OPTARG")) n.each_once
    ∙ ap (λ xs. is_one_of (fold with_text [] xs) (codes "OPTARG")) (append_assoc first_names d.names (names_in n.seen))
    ∙ ap (λ ns. is_one_of ns (codes "OPTARG")) (fold-append with_text [] first_names others)
    ∙ all_stay (fold with_text [] first_names) others (codes "OPTARG") first_optarg

-- each name that a rule of a script requires a function to drop is numbered
pub all_lost : (b : List ℕ) (d : Declared) (t : Script) (names : List Text) → IsNumbering b t d names → list_all (asked_passes (is_one_of names)) (script_bounds (trees.script_of b t)) ≡ true
unfolding script_bounds has_numbered_prefixes
all_lost b d t names n =
    (all_ask (is_one_of names) (optarg_numbered b d t names n) _ (script_entered (trees.script_of b t)) (prefixes_are_numbered b t d names n) (unset_numbered b d t names n)).all
