-- The flow rules speak of nothing but the commands, the loops and the functions of the script.
use Rattle.std.proofs.Common.{◌≡◌, ℕ, zero, suc, ◌-◌, ◌<◌, ◌==◌, arith, is_some, option_map, nat_le, nat_lt, Bool, true, false, not, ◌&&◌, if◌then◌else◌, List, [], ◌∷◌, ◌++◌, map, flat_map, length, slice_get, unwrap_or, Option, Some, None, refl, sym, ap, ◌∙◌, subst, true≢false}
use Rattle.std.specs.List.{cons_option, filter_map, list_all}
use Rattle.std.specs.Str.{bytes_eq}
use Rattle.std.proofs.lemmas.Bool.{and_from, and_parts, or_left, or_right}
use Rattle.std.proofs.lemmas.Bool.Decides.{nat_tests}
use Rattle.std.proofs.lemmas.Option.{slice_get_within}
use Rattle.std.specs.Prelude.{option_and_then}
use Rattle.std.proofs.lemmas.List.{length-map}
use Rattle.std.proofs.lemmas.List.Folds.{list_all-append}
use Rattle.std.proofs.lemmas.Slice.Eq.{bytes_eq-Decides}
use Rattle.sh_tree.specs.declared.known.KnownName.TheVariants as known
use Rattle.sh_tree.specs.standard.program.Syntax as p
use Rattle.sh_tree.specs.standard.program.Syntax.{Text, Word}
use Rattle.sh_tree.specs.standard.program.Trees.{script_of}
use Rattle.sh_tree.specs.standard.program.Words.{redirects_in, static_of}
use Rattle.sh_runs.specs.declared.kind.Kind.{Kind}
use Rattle.sh_runs.specs.declared.kind.Kind.TheVariants as kind
use Rattle.sh_runs.specs.standard.Kinds.{kind_of}
use Rattle.sh_runs.specs.standard.runs.Environment.{is_one_of}
use Rattle.sh_domain.specs.declared.rule.FlowRule.{FlowRule}
use Rattle.sh_domain.specs.declared.rule.FlowRule.TheVariants.{F4, F5, F6, F7, F8, F9, F10, F11, F13, F14, F15}
use Rattle.sh_domain.specs.declared.certificate.Certificate.{Certificate}
use Rattle.sh_domain.specs.declared.certificate.Entry as claimed
use Rattle.sh_domain.specs.declared.certificate.FunctionEntry.{FunctionEntry}
use Rattle.sh_domain.specs.Entries.{Around, Entered, behind_list, behind_redirects, ends, falls, items_after, otherwise_seen, script_entered, turns}
use Rattle.sh_domain.specs.Gains.{word_gains}
use Rattle.sh_domain.specs.Inclusions.{Each}
use Rattle.sh_domain.specs.Names.{number_of}
use Rattle.sh_domain.specs.Operands.{first_number, return_status, total}
use Rattle.sh_domain.specs.Rules as r
use Rattle.sh_domain.specs.Rules.{Constraint, Within, Counted, bound, bounds, leaves, defined_by, script_bounds}
use Rattle.sh_domain.specs.Table.{Utility, is_special, manner_of_name, behind_words, operands, prefixes, is_redirected}
use Rattle.sh_domain.specs.Table as table
use Rattle.sh_domain.specs.Views.{Slot, Before, AfterZero, AfterNonzero, Head, Entry, ReturnsZero, ReturnsNonzero, Seen, After, Both, Loss, View, at, gaining, gaining_names, if_nonzero, if_zero, in_any_case, stepped, Call, Count, Define}
use Rattle.sh_domain.proofs.KnowledgeLemmas.{has_number, stands_there}
use Rattle.sh_drafts.specs.Kept.{fact_of}
use Rattle.sh_rules.proofs.PrefixLemmas.{table_defines}
use Rattle.sh_rules.proofs.ScriptLemmas.{script_asks}
use Rattle.sh_domain.specs.Admitted.{functions_in}
use Rattle.sh_drafts.specs.declared.place.Part.{Part}
use Rattle.sh_drafts.specs.declared.place.Part.TheVariants as place
use Rattle.sh_drafts.specs.declared.place.Place.{Place}
use Rattle.sh_drafts.specs.Places.{at as placed_at, place_of, kept_at, drops_at, entry_part, function_part, is_of_command, is_of_function}
use Rattle.sh_drafts.specs.Working.{IsWorking, claims, dropped, sets_of}
use Rattle.sh_drafts.proofs.KeptLemmas.{kept_command, kept_function, kept_head}
use Rattle.sh_sweeps.specs.There.{HasPlace, HasDrops, AsksThere, RulesAskThere}
use Rattle.sh_sweeps.proofs.AroundLemmas.{is_command, is_head, kind_there, command_there, name_there, all_round}
use Rattle.sh_sweeps.proofs.LoopsLemmas.{all_counted, numbered, numbers_there, looped, told_loop, loops_again, loops_there}

module _ (loops : List Bool) (functions : List Text) where
  slot_there : Slot → Bool
  slot_there (Before n) = is_command loops n
  slot_there (AfterZero n) = is_command loops n
  slot_there (AfterNonzero n) = is_command loops n
  slot_there (Head n) = is_head loops n
  slot_there (Entry f) = is_one_of functions f
  slot_there (ReturnsZero f) = is_one_of functions f
  slot_there (ReturnsNonzero f) = is_one_of functions f

  -- what it speaks of is there
  asks_there : Constraint → Bool
  asks_there (Within slot n rule v) = slot_there slot
  asks_there (Counted function n loss) = is_one_of functions function

  record AskThere (ks : List Constraint) : Type 0 where
    all : list_all (asks_there) ks ≡ true

  within_asks : (slot : Slot) (n : ℕ) (rule : FlowRule) (v : View) → slot_there slot ≡ true → asks_there (Within slot n rule v) ≡ true
  unfolding asks_there
  within_asks slot n rule v h = h

  counted_asks : (f : Text) (n : ℕ) (l : Loss) → is_one_of functions f ≡ true → asks_there (Counted f n l) ≡ true
  unfolding asks_there
  counted_asks f n l h = h

  none_ask : AskThere []
  none_ask = record { all = refl }

  more : {ks ls : List Constraint} → AskThere ks → AskThere ls → AskThere (ks ++ ls)
  more {ks = ks} {ls = ls} h k = record { all = list_all-append (asks_there) ks ls ∙ and_from (list_all (asks_there) ks) (list_all (asks_there) ls) h.all k.all }

  if_asked : {ks : List Constraint} (t : Bool) → AskThere ks → AskThere (if t then ks else [])
  if_asked true h = h
  if_asked false h = none_ask

  unless_asked : {ks : List Constraint} (t : Bool) → AskThere ks → AskThere (if t then [] else ks)
  unless_asked true h = none_ask
  unless_asked false h = h

  bound_asks : (slot : Slot) (n : ℕ) (rule : FlowRule) (s : Seen) → slot_there slot ≡ true → AskThere (bound slot n rule s)
  bound_asks slot n rule s h = record { all = go s }
    where
      go : (s : Seen) → list_all (asks_there) (bound slot n rule s) ≡ true
      go [] = refl
      go (v ∷ s) = and_from (asks_there (Within slot n rule v)) _ (within_asks slot n rule v h) (go s)

  head_command : (n : ℕ) → is_head loops n ≡ true → is_command loops n ≡ true
  unfolding is_head
  head_command n h = (and_parts (is_command loops n) (unwrap_or (slice_get loops (n - 1)) false) h).0

  before_asks : (n m : ℕ) (rule : FlowRule) (s : Seen) → is_command loops n ≡ true → AskThere (bound (Before n) m rule s)
  unfolding slot_there
  before_asks n m rule s h = bound_asks (Before n) m rule s h

  zero_asks : (n m : ℕ) (rule : FlowRule) (s : Seen) → is_command loops n ≡ true → AskThere (bound (AfterZero n) m rule s)
  unfolding slot_there
  zero_asks n m rule s h = bound_asks (AfterZero n) m rule s h

  nonzero_asks : (n m : ℕ) (rule : FlowRule) (s : Seen) → is_command loops n ≡ true → AskThere (bound (AfterNonzero n) m rule s)
  unfolding slot_there
  nonzero_asks n m rule s h = bound_asks (AfterNonzero n) m rule s h

  head_asks : (n m : ℕ) (rule : FlowRule) (s : Seen) → is_head loops n ≡ true → AskThere (bound (Head n) m rule s)
  unfolding slot_there
  head_asks n m rule s h = bound_asks (Head n) m rule s h

  entry_asks : (f : Text) (m : ℕ) (rule : FlowRule) (s : Seen) → is_one_of functions f ≡ true → AskThere (bound (Entry f) m rule s)
  unfolding slot_there
  entry_asks f m rule s h = bound_asks (Entry f) m rule s h

  returns_zero_asks : (f : Text) (m : ℕ) (rule : FlowRule) (s : Seen) → is_one_of functions f ≡ true → AskThere (bound (ReturnsZero f) m rule s)
  unfolding slot_there
  returns_zero_asks f m rule s h = bound_asks (ReturnsZero f) m rule s h

  returns_nonzero_asks : (f : Text) (m : ℕ) (rule : FlowRule) (s : Seen) → is_one_of functions f ≡ true → AskThere (bound (ReturnsNonzero f) m rule s)
  unfolding slot_there
  returns_nonzero_asks f m rule s h = bound_asks (ReturnsNonzero f) m rule s h

  leaves_ask : (n : ℕ) (rule : FlowRule) (o : After) → is_command loops n ≡ true → AskThere (leaves n rule o)
  leaves_ask n rule o h = more (zero_asks n n rule (if_zero o) h) (nonzero_asks n n rule (if_nonzero o) h)

  -- Jumps

  loop_there : Option ℕ → Bool
  loop_there None = true
  loop_there (Some l) = is_head loops l

  loop_at_there : (n : ℕ) (ls : List ℕ) → list_all (is_head loops) ls ≡ true → loop_there (r.loop_at n ls) ≡ true
  unfolding r.loop_at loop_there
  loop_at_there n [] h = refl
  loop_at_there n (l ∷ []) h = (and_parts (is_head loops l) true h).0
  loop_at_there n (l ∷ m ∷ ls) h =
      let parts = and_parts (is_head loops l) (list_all (is_head loops) (m ∷ ls)) h in
      go (nat_le n 1) parts.0 (loop_at_there (n - 1) (m ∷ ls) parts.1)
    where
      go : (t : Bool) → is_head loops l ≡ true → loop_there (r.loop_at (n - 1) (m ∷ ls)) ≡ true → loop_there (if t then Some l else r.loop_at (n - 1) (m ∷ ls)) ≡ true
      go true a e = a
      go false a e = e

  jump_there : (o : Option ℕ) (ls : List ℕ) → list_all (is_head loops) ls ≡ true → loop_there (r.jump_loop o ls) ≡ true
  unfolding r.jump_loop loop_there
  jump_there None ls h = refl
  jump_there (Some n) ls h = loop_at_there n ls h

  breaks_ask : (o : Option ℕ) (n : ℕ) (s : Seen) → loop_there o ≡ true → AskThere (r.breaks o n s)
  unfolding r.breaks loop_there
  breaks_ask None n s h = none_ask
  breaks_ask (Some l) n s h = more (zero_asks l n F15 s (head_command l h)) (nonzero_asks l n F15 s (head_command l h))

  continues_ask : (o : Option ℕ) (n : ℕ) (s : Seen) → loop_there o ≡ true → AskThere (r.continues o n s)
  unfolding r.continues loop_there
  continues_ask None n s h = none_ask
  continues_ask (Some l) n s h = head_asks l n F15 s h

  returns_with_ask : (status : Option ℕ) (f : Text) (n : ℕ) (s : Seen) → is_one_of functions f ≡ true → AskThere (r.returns_with status f n s)
  unfolding r.returns_with
  returns_with_ask None f n s h = more (returns_zero_asks f n F15 s h) (returns_nonzero_asks f n F15 s h)
  returns_with_ask (Some status) f n s h = go (status == 0)
    where
      go : (t : Bool) → AskThere (if t then bound (ReturnsZero f) n F15 s else bound (ReturnsNonzero f) n F15 s)
      go true = returns_zero_asks f n F15 s h
      go false = returns_nonzero_asks f n F15 s h

  returns_ask : (status : Option ℕ) (o : Option Text) (n : ℕ) (s : Seen) → name_there loops functions o ≡ true → AskThere (r.returns status o n s)
  unfolding r.returns name_there
  returns_ask status None n s h = none_ask
  returns_ask status (Some f) n s h = returns_with_ask status f n s h

  module _ (x : Around) (inside : list_all (is_head loops) x.loops ≡ true) (leaving : name_there loops functions x.function ≡ true) (dropping : name_there loops functions x.drops ≡ true) where
    jumps_ask : (n : ℕ) (k : Kind) (ws : List Word) (s : Seen) → AskThere (r.jumps x n k ws s)
    unfolding r.jumps
    jumps_ask n (kind.Special known.Break) ws s = breaks_ask (r.jump_loop (first_number ws) x.loops) n s (jump_there (first_number ws) x.loops inside)
    jumps_ask n (kind.Special known.Continue) ws s = continues_ask (r.jump_loop (first_number ws) x.loops) n s (jump_there (first_number ws) x.loops inside)
    jumps_ask n (kind.Special known.Return) ws s = returns_ask (return_status ws) x.function n s leaving
    jumps_ask n k ws s = none_ask

    -- Commands

    module _ (n : ℕ) (own : is_command loops n ≡ true) where
      call_asks : (es : p.Elements) (f : Text) (ws : List Word) → is_one_of functions f ≡ true → AskThere (r.call_bounds x n es f ws)
      unfolding r.call_bounds r.where_redirected
      call_asks es f ws h =
          let behind : Seen = behind_words es (at (Before n)) in
          more (more (more (entry_asks f n F14 (gaining_names (prefixes es) (stepped (Count (total ws)) behind)) h) (zero_asks n n F14 (stepped (Call f (ReturnsZero f) (prefixes es)) behind) own))
          (nonzero_asks n n F14 (stepped (Call f (ReturnsNonzero f) (prefixes es)) behind) own)) (if_asked (is_redirected (redirects_in es)) (nonzero_asks n n F14 behind own))

      called_asks : (es : p.Elements) (f : Text) (ws : List Word) → is_one_of functions f ≡ true → AskThere (r.simple_bounds x n es (table.Call f ws))
      unfolding r.simple_bounds
      called_asks es f ws h = call_asks es f ws h

      utility_asks : (es : p.Elements) (k : Kind) (ws : List Word) → AskThere (r.simple_bounds x n es (Utility k ws))
      unfolding r.simple_bounds
      utility_asks es k ws = more (leaves_ask n F4 _ own) (jumps_ask n k ws _)

      named_asks : (es : p.Elements) (o : Option Text) (ws : List Word) → AskThere (r.simple_bounds x n es (manner_of_name functions o ws))
      unfolding manner_of_name
      named_asks es None ws = utility_asks es kind.Utility ws
      named_asks es (Some t) ws = go (is_one_of functions t && not (is_special (kind_of t))) refl
        where
          go : (c : Bool) → (is_one_of functions t && not (is_special (kind_of t))) ≡ c → AskThere (r.simple_bounds x n es (if c then table.Call t ws else Utility (kind_of t) ws))
          go true e = called_asks es t ws (and_parts (is_one_of functions t) (not (is_special (kind_of t))) e).0
          go false e = utility_asks es (kind_of t) ws

      words_ask : (es : p.Elements) (ws : List Word) → AskThere (r.simple_bounds x n es (table.manner_of_words functions ws))
      unfolding r.simple_bounds table.manner_of_words
      words_ask es [] = leaves_ask n F5 _ own
      words_ask es (w ∷ ws) = named_asks es (static_of w) ws

      branches_ask : (s : Seen) (bs : p.Branches) → AskThere (r.branches_bounds n s bs)
      unfolding r.branches_bounds
      branches_ask s p.no_branches = none_ask
      branches_ask s (p.more_branches condition body rest) = more (leaves_ask n F6 _ own) (branches_ask (if_nonzero (items_after (Both s) condition)) rest)

      otherwise_asks : (s : Seen) (o : p.Otherwise) → AskThere (r.otherwise_bounds n s o)
      unfolding r.otherwise_bounds
      otherwise_asks s p.no_else = zero_asks n n F6 s own
      otherwise_asks s (p.else_of list) = leaves_ask n F6 _ own

      clauses_ask : (s fallen : Seen) (cs : p.Clauses) → AskThere (r.clauses_bounds n s fallen cs)
      unfolding r.clauses_bounds
      clauses_ask s fallen p.no_clauses = none_ask
      clauses_ask s fallen (p.more_clauses patterns body end rest) =
          more (if_asked (r.is_last end rest) (leaves_ask n F9 _ own)) (clauses_ask s (falls end (items_after (Both (s ++ fallen)) body)) rest)

      body_asks : (f : Text) (c : p.Command) → is_one_of functions f ≡ true → AskThere (r.body_bounds f c)
      unfolding r.body_bounds
      body_asks f (p.command m offset k rs) h = more (returns_zero_asks f m F13 (at (AfterZero m)) h) (returns_nonzero_asks f m F13 (at (AfterNonzero m)) h)

      kind_asks : (s : Seen) (k : p.Kind) → kind_there loops functions n k ≡ true → AskThere (r.kind_bounds functions x n s k)
      unfolding r.kind_bounds kind_there
      kind_asks s (p.Simple es) h = words_ask es (operands es)
      kind_asks s (p.Group list) h = leaves_ask n F10 _ own
      kind_asks s (p.Subshell list) h = leaves_ask n F11 _ own
      kind_asks s (p.Conditional branches otherwise) h = more (branches_ask s branches) (otherwise_asks (otherwise_seen s branches) otherwise)
      kind_asks s (p.Loop k condition body) h =
          more (more (head_asks n n F7 s h) (head_asks n n F7 (in_any_case (items_after (Both (turns k (items_after (Both (at (Head n))) condition))) body)) h))
          (leaves_ask n F7 (Both (ends k (items_after (Both (at (Head n))) condition))) own)
      kind_asks s (p.For name ws body) h =
          more (more (head_asks n n F8 (behind_list ws s) h) (head_asks n n F8 (in_any_case (items_after (Both (gaining_names (name ∷ []) (at (Head n)))) body)) h)) (leaves_ask n F8 (Both (at (Head n))) own)
      kind_asks s (p.Case w cs) h = more (clauses_ask (gaining (word_gains w) s) [] cs) (unless_asked (r.matches_always cs) (zero_asks n n F9 (gaining (word_gains w) s) own))
      kind_asks s (p.Define name body) h = more (zero_asks n n F13 (stepped (Define name) (at (Before n))) own) (body_asks name body h)

      redirects_ask : (rs : p.Redirects) → AskThere (r.redirects_bounds n rs)
      unfolding r.redirects_bounds
      redirects_ask rs = if_asked (is_redirected rs) (nonzero_asks n n F10 (at (Before n)) own)

      each_counted : (f : Text) (ls : List Loss) → is_one_of functions f ≡ true → AskThere (map (Counted f n) ls)
      each_counted f ls h = record { all = go ls }
        where
          go : (ls : List Loss) → list_all (asks_there) (map (Counted f n) ls) ≡ true
          go [] = refl
          go (l ∷ ls) = and_from (asks_there (Counted f n l)) _ (counted_asks f n l h) (go ls)

      counted_ask : (o : Option Text) (ls : List Loss) → name_there loops functions o ≡ true → AskThere (r.counted o n ls)
      unfolding r.counted name_there
      counted_ask None ls h = none_ask
      counted_ask (Some f) ls h = each_counted f ls h

    command_asks : (by : FlowRule) (s : Seen) (c : p.Command) → command_there loops functions c ≡ true → AskThere (bounds functions (record { command = c; rule = by; around = x; seen = s }))
    unfolding bounds command_there
    command_asks by s (p.command n offset k rs) h =
        let own = and_parts (is_command loops n) (kind_there loops functions n k) h in
        more (more (more (before_asks n n by s own.0) (kind_asks n own.0 (behind_redirects n rs) k own.1)) (redirects_ask n own.0 rs)) (counted_ask n own.0 x.drops _ dropping)

  all_ask : (es : List Entered) → list_all (λ (e : Entered). command_there loops functions e.command) es ≡ true
      → list_all (λ (e : Entered). list_all (is_head loops) e.around.loops && (name_there loops functions e.around.function && name_there loops functions e.around.drops)) es ≡ true → AskThere (flat_map (bounds functions) es)
  all_ask [] h k = none_ask
  all_ask (e ∷ es) h k =
      let commands = and_parts (command_there loops functions e.command) _ h in
      let around = and_parts (list_all (is_head loops) e.around.loops && (name_there loops functions e.around.function && name_there loops functions e.around.drops)) _ k in
      let parts = and_parts (list_all (is_head loops) e.around.loops) (name_there loops functions e.around.function && name_there loops functions e.around.drops) around.0 in
      let names = and_parts (name_there loops functions e.around.function) (name_there loops functions e.around.drops) parts.1 in
      more (command_asks e.around parts.0 names.0 names.1 e.rule e.seen e.command commands.0) (all_ask es commands.1 around.1)

  -- The commands of the script

  all_defined : {A : Type 0} (f : A → Option Text) (xs : List A) → ((t : Text) → is_one_of (filter_map f xs) t ≡ true → is_one_of functions t ≡ true) → list_all (λ x. name_there loops functions (f x)) xs ≡ true
  unfolding name_there
  all_defined f [] h = refl
  all_defined f (x ∷ xs) h = and_from (name_there loops functions (f x)) _ (first (f x) h) (all_defined f xs (λ t e. rest (f x) t e h))
    where
      first : (o : Option Text) → ((t : Text) → is_one_of (cons_option o (filter_map f xs)) t ≡ true → is_one_of functions t ≡ true) → name_there loops functions o ≡ true
      first None h = refl
      first (Some u) h = h u (or_left (bytes_eq u u) _ ((bytes_eq-Decides u u).1 refl))

      rest : (o : Option Text) (t : Text) → is_one_of (filter_map f xs) t ≡ true → ((t : Text) → is_one_of (cons_option o (filter_map f xs)) t ≡ true → is_one_of functions t ≡ true) → is_one_of functions t ≡ true
      rest None t e h = h t e
      rest (Some u) t e h = h t (or_right (bytes_eq u t) _ e)

  own_number : (n : ℕ) → (nat_lt 0 n && nat_le n (length loops)) ≡ true → is_command loops n ≡ true
  unfolding is_command
  own_number n e = e

  kind_is : (k : p.Kind) (n at : ℕ) (rs : p.Redirects) → is_command loops n ≡ true → told_loop loops n (loops_again k) ≡ true → name_there loops functions (defined_by (p.command n at k rs)) ≡ true
      → kind_there loops functions n k ≡ true
  unfolding kind_there told_loop loops_again defined_by name_there is_head
  kind_is (p.Simple es) n at rs c l d = refl
  kind_is (p.Group list) n at rs c l d = refl
  kind_is (p.Subshell list) n at rs c l d = refl
  kind_is (p.Conditional bs otherwise) n at rs c l d = refl
  kind_is (p.Loop k condition body) n at rs c l d = and_from (is_command loops n) _ c l
  kind_is (p.For name ws body) n at rs c l d = and_from (is_command loops n) _ c l
  kind_is (p.Case w cs) n at rs c l d = refl
  kind_is (p.Define name body) n at rs c l d = d

  command_is : (c : p.Command) → numbered (length loops) c ≡ true → looped loops c ≡ true → name_there loops functions (defined_by c) ≡ true → command_there loops functions c ≡ true
  unfolding numbered looped command_there
  command_is (p.command n at k rs) e l d = let own = own_number n e in and_from (is_command loops n) (kind_there loops functions n k) own (kind_is k n at rs own l d)

  all_commands : (es : List Entered) → list_all (λ (e : Entered). numbered (length loops) e.command) es ≡ true → list_all (λ (e : Entered). looped loops e.command) es ≡ true
      → list_all (λ (e : Entered). name_there loops functions (defined_by e.command)) es ≡ true → list_all (λ (e : Entered). command_there loops functions e.command) es ≡ true
  all_commands [] a b c = refl
  all_commands (e ∷ es) a b c =
      let one = and_parts (numbered (length loops) e.command) _ a in
      let two = and_parts (looped loops e.command) _ b in
      let three = and_parts (name_there loops functions (defined_by e.command)) _ c in
      and_from (command_there loops functions e.command) _ (command_is e.command one.0 two.0 three.0) (all_commands es one.1 two.1 three.1)

-- What a certificate has there

some_at : {A : Type 0} (xs : List A) (i : ℕ) → i < length xs → is_some (slice_get xs i) ≡ true
some_at [] i l = absurd (omega arith)
some_at (x ∷ xs) zero l = refl
some_at (x ∷ xs) (suc i) l = some_at xs i (omega arith)

then_some : {A B : Type 0} (g : A → Option B) → ((x : A) → is_some (g x) ≡ true) → (o : Option A) → is_some o ≡ true → is_some (option_and_then g o) ≡ true
then_some g h None e = absurd (true≢false (sym e))
then_some g h (Some x) e = h x

map_some : {A B : Type 0} (g : A → B) (o : Option A) → is_some o ≡ true → is_some (option_map g o) ≡ true
map_some g None e = absurd (true≢false (sym e))
map_some g (Some x) e = refl

module _ (names : List Text) (loops : List Bool) (functions : List Text) (c : Certificate) (w : IsWorking names loops (length functions) c) where
  claimed_there : (q : Place) → is_some (kept_at c q) ≡ true → is_some (claims c q) ≡ true
  unfolding claims
  claimed_there q e = map_some (fact_of c.rows.rows) (kept_at c q) e

  below : (n : ℕ) → is_command loops n ≡ true → n - 1 < length c.entries.items
  unfolding is_command
  below n e =
      let parts = and_parts (nat_lt 0 n) (nat_le n (length loops)) e in
      let low = parts.0 in
      let high = parts.1 in
      let long = w.commands in
      grind (arith, nat_tests, low, high, long)

  entry_there : (part : Part) → is_of_command part ≡ true → ((e : claimed.Entry) → is_some (entry_part e part) ≡ true) → (n : ℕ) → is_command loops n ≡ true → is_some (claims c (placed_at part (n - 1))) ≡ true
  entry_there part a h n e =
      claimed_there (placed_at part (n - 1)) (ap is_some (kept_command c (placed_at part (n - 1)) a) ∙ then_some (λ x. entry_part x part) h (slice_get c.entries.items (n - 1)) (some_at c.entries.items (n - 1) (below n e)))

  function_there : (part : Part) → is_of_command part ≡ false → is_of_function part ≡ true → ((e : FunctionEntry) → is_some (function_part e part) ≡ true) → (i : ℕ) → i < length functions
      → is_some (claims c (placed_at part i)) ≡ true
  function_there part a b h i l =
      let long = w.defined in
      claimed_there (placed_at part i) (ap is_some (kept_function c (placed_at part i) a b) ∙ then_some (λ x. function_part x part) h (slice_get c.functions.items i) (some_at c.functions.items i (omega (arith, l, long))))

  -- a function of the script has an index
  found : (f : Text) → is_one_of functions f ≡ true → (i : ℕ) × (number_of functions f ≡ Some i) × (i < length functions)
  found f e = go (number_of functions f) refl (sym (has_number functions f) ∙ e)
    where
      go : (o : Option ℕ) → number_of functions f ≡ o → is_some o ≡ true → (i : ℕ) × (number_of functions f ≡ Some i) × (i < length functions)
      go None is e = absurd (true≢false (sym e))
      go (Some i) is e = (i, is, slice_get_within functions i f (stands_there functions i f is))

  head_there : (n : ℕ) → is_head loops n ≡ true → unwrap_or (slice_get loops (n - 1)) false ≡ true
  unfolding is_head
  head_there n e = (and_parts (is_command loops n) (unwrap_or (slice_get loops (n - 1)) false) e).1

  has_place : (slot : Slot) → slot_there loops functions slot ≡ true → HasPlace functions c slot
  unfolding slot_there place_of entry_part function_part is_of_command is_of_function
  has_place (Before n) e = record { place = placed_at place.Before (n - 1); at = refl; there = entry_there place.Before refl (λ x. refl) n e }
  has_place (AfterZero n) e = record { place = placed_at place.Zero (n - 1); at = refl; there = entry_there place.Zero refl (λ x. refl) n e }
  has_place (AfterNonzero n) e = record { place = placed_at place.Nonzero (n - 1); at = refl; there = entry_there place.Nonzero refl (λ x. refl) n e }
  has_place (Head n) e = record { place = placed_at place.Head (n - 1); at = refl; there = claimed_there (placed_at place.Head (n - 1)) (ap is_some (kept_head c (placed_at place.Head (n - 1)) refl refl) ∙ w.heads (n - 1) ∙ head_there n e) }
  has_place (Entry f) e = let i = found f e in record { place = placed_at place.Entered i.0; at = ap (option_map (placed_at place.Entered)) i.1; there = function_there place.Entered refl refl (λ x. refl) i.0 i.2 }
  has_place (ReturnsZero f) e = let i = found f e in record { place = placed_at place.ReturnZero i.0; at = ap (option_map (placed_at place.ReturnZero)) i.1; there = function_there place.ReturnZero refl refl (λ x. refl) i.0 i.2 }
  has_place (ReturnsNonzero f) e = let i = found f e in record { place = placed_at place.ReturnNonzero i.0; at = ap (option_map (placed_at place.ReturnNonzero)) i.1; there = function_there place.ReturnNonzero refl refl (λ x. refl) i.0 i.2 }

  has_drops : (f : Text) → is_one_of functions f ≡ true → HasDrops functions c f
  unfolding dropped
  has_drops f e =
      let i = found f e in
      let long = w.defined in
      let low = i.2 in
      record { index = i.0; at = i.1; there = map_some (sets_of c.rows) (drops_at c i.0) (map_some (λ (x : FunctionEntry). x.drops) (slice_get c.functions.items i.0) (some_at c.functions.items i.0 (omega (arith, low, long)))) }

  each_there : (ks : List Constraint) → list_all (asks_there loops functions) ks ≡ true → Each (AsksThere functions c) ks
  unfolding Each asks_there AsksThere
  each_there [] h = tt
  each_there (Within slot n rule v ∷ ks) h = let parts = and_parts (slot_there loops functions slot) _ h in (has_place slot parts.0, each_there ks parts.1)
  each_there (Counted f n l ∷ ks) h = let parts = and_parts (is_one_of functions f) _ h in (has_drops f parts.0, each_there ks parts.1)

pub rules_ask_there : RulesAskThere
rules_ask_there b d t names loops c a are w =
    let functions = functions_in b t in
    let es = script_entered (script_of b t) in
    let count = a.reading.1.0 in
    let read = a.reading.1.1 in
    let long : length loops ≡ count = ap length are.each ∙ length-map are.commands _ ∙ all_counted b t count read are.commands are.all in
    let numbers : list_all (λ (e : Entered). numbered (length loops) e.command) es ≡ true = subst (λ n. list_all (λ (e : Entered). numbered n e.command) es ≡ true) (sym long) (numbers_there b t count read) in
    let defines = all_defined loops functions (λ (e : Entered). defined_by e.command) es (λ f h. table_defines b t f ∙ h) in
    let commands = all_commands loops functions es numbers (loops_there loops b t count read are) defines in
    let asked : list_all (asks_there loops functions) (script_bounds (script_of b t)) ≡ true =
    subst (λ ks. list_all (asks_there loops functions) ks ≡ true) (script_asks functions (script_of b t) (table_defines b t)) (all_ask loops functions es commands (all_round loops functions (script_of b t) commands)).all in
    each_there names loops functions c w (script_bounds (script_of b t)) asked
