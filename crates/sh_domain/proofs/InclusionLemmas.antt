-- From no faults and no unmet demands to what holds at each command.
use Rattle.std.proofs.Common.{◌≡◌, ℕ, ◌==◌, Bool, true, false, ◌&&◌, if◌then◌else◌, Option, Some, None, List, [], ◌∷◌, ◌++◌, map, refl, sym, subst, true≢false}
use Rattle.std.specs.List.{flat_map, fold}
use Rattle.sh_tree.specs.standard.program.Syntax as p
use Rattle.sh_tree.specs.standard.program.Syntax.{Text, Word}
use Rattle.sh_tree.specs.standard.program.Words.{redirects_in}
use Rattle.sh_runs.specs.declared.kind.Kind.{Kind}
use Rattle.sh_tree.specs.declared.known.KnownName.TheVariants as known
use Rattle.sh_runs.specs.declared.kind.Kind.TheVariants as kind
use Rattle.sh_runs.specs.standard.runs.Environment.{is_one_of}
use Rattle.sh_domain.specs.declared.rule.FlowRule.{FlowRule}
use Rattle.sh_domain.specs.declared.rule.FlowRule.TheVariants.{F15}
use Rattle.sh_domain.specs.Demands.{with_text, dropped, command_moves, move_at, drop_at, is_reached, shared_unmet, unmet, demands}
use Rattle.sh_domain.specs.Entries.{Around, Entered, items_after, falls, script_entered}
use Rattle.sh_domain.specs.Facts.{Facts, facts, within}
use Rattle.sh_domain.specs.Faults.{are_among, broken, faults}
use Rattle.sh_domain.specs.Inclusions.{Each, Covers, Leaves, MayDrop, BreakRules, ContinueRules, StatusRules, ReturnRules, JumpRules, SimpleRules, BranchesLeave, OtherwiseLeaves, ClausesLeave, BodyRules, KindRules, EnteredRules, command_formed, RulesGive}
use Rattle.sh_domain.specs.Needs.{redirects_unmet}
use Rattle.sh_domain.specs.Operands.{Names}
use Rattle.sh_domain.specs.Rules.{Constraint, Within, Counted, bound, leaves, breaks, continues, returns_with, returns, jumps, losses, counted, where_redirected, call_bounds, simple_bounds, branches_bounds, otherwise_bounds, is_last, clauses_bounds, body_bounds, matches_always, kind_bounds, redirects_bounds, bounds, script_bounds, functions_of}
use Rattle.sh_domain.specs.Table.{Manner, Nameless, Utility, Call, manner, is_redirected}
use Rattle.sh_domain.specs.Views.{Certificate, Slot, Before, AfterZero, AfterNonzero, ReturnsZero, ReturnsNonzero, Seen, After, Both, if_zero, if_nonzero, Loss, view_facts, lost}
use Rattle.sh_domain.proofs.EnteredWalk.{AdmitsAt, Admits, script_admits, script_formed}
use Rattle.sh_domain.proofs.EachLemmas.{none_both, each_parts, each_none, each_inside, each_mapped, each_of_all, each_weaker, each_with, each_passes, each_under, each_where, each_unless}
use Rattle.sh_domain.proofs.MonotoneLemmas.{told_none}

-- Names that are dropped

-- a list in which each text occurs once is empty if there are no texts
once_none : (names ts : List Text) → fold with_text names ts ≡ [] → (names ≡ []) × (ts ≡ [])
unfolding with_text
once_none names [] e = (e, refl)
once_none names (t ∷ ts) e = let rest = once_none (with_text names t) ts e in absurd (go (is_one_of names t) names refl rest.0)
  where
    go : (b : Bool) (names : List Text) → is_one_of names t ≡ b → (if b then names else names ++ t ∷ []) ≡ [] → ⊥
    go true [] h e = true≢false (sym h)
    go true (n ∷ names) h e = cc
    go false [] h e = cc
    go false (n ∷ names) h e = cc

drops_none : (start : Facts) (c : Certificate) (n : ℕ) (ls : List Loss) → dropped start c n ls ≡ [] → Each (λ l. ((lost start c n l).vars ≡ []) × ((lost start c n l).functions ≡ [])) ls
drops_none start c n ls e =
    let f = λ (l : Names). l.vars ++ l.functions in
    each_weaker (λ l h. none_both (lost start c n l).vars (lost start c n l).functions h) ls
    (each_mapped (λ l. l.vars ++ l.functions ≡ []) (lost start c n) ls (each_none f (map (lost start c n) ls) (once_none [] (flat_map f (map (lost start c n) ls)) e).1))

map_none : {A B : Type 0} (f : A → B) (xs : List A) → map f xs ≡ [] → xs ≡ []
map_none f [] e = refl
map_none f (x ∷ xs) e = cc

stays_none : (at : ℕ) (b : Bool) → move_at at b ≡ [] → b ≡ false
unfolding move_at
stays_none at false e = refl
stays_none at true e = cc

where_none : {A : Type 0} (b : Bool) (xs : List A) → (if b then xs else []) ≡ [] → b ≡ true → xs ≡ []
where_none true xs h e = h
where_none false xs h e = absurd (true≢false (sym e))

module _ (start : Facts) (c : Certificate) where
  -- the constraint holds
  abbrev Holds : Constraint → Type 0
  Holds k = broken start c k ≡ []

  covered : (slot : Slot) (n : ℕ) (rule : FlowRule) (s : Seen) → Each Holds (bound slot n rule s) → Covers start c slot s
  unfolding broken
  covered slot n rule s h = each_weaker (λ v e. told_none (within (c.claim slot) (view_facts start c v)) n rule e) s (each_mapped Holds (Within slot n rule) s h)

  left : (n : ℕ) (rule : FlowRule) (o : After) → Each Holds (leaves n rule o) → Leaves start c n o
  left n rule o h =
      let both = each_parts Holds (bound (AfterZero n) n rule (if_zero o)) (bound (AfterNonzero n) n rule (if_nonzero o)) h in
      record { zero = covered _ n rule _ both.0; nonzero = covered _ n rule _ both.1 }

  counted_each : (o : Option Text) (n : ℕ) (ls : List Loss) → Each Holds (counted o n ls) → Each (λ l. (f : Text) → o ≡ Some f → are_among (lost start c n l) (c.drops f) ≡ true) ls
  unfolding counted broken
  counted_each None n ls h = each_of_all (λ l f e. cc) ls
  counted_each (Some g) n ls h =
      each_weaker (λ l k f e. let same : g ≡ f = cc in subst (λ y. are_among (lost start c n l) (c.drops y) ≡ true) same (told_none _ n _ k)) ls (each_mapped Holds (Counted g n) ls h)

  may_drop : (x : Around) (n : ℕ) (ls : List Loss) → Each Holds (counted x.drops n ls) → (x.shares ≡ true → dropped start c n ls ≡ []) → Each (λ l. MayDrop start c x (lost start c n l)) ls
  may_drop x n ls h k =
      each_with ls (each_under (λ l. ((lost start c n l).vars ≡ []) × ((lost start c n l).functions ≡ [])) x.shares ls (λ e. drops_none start c n ls (k e))) (counted_each x.drops n ls h)
      (λ l none among. record { shared_vars = λ e. (none e).0; shared_functions = λ e. (none e).1; counted = among })

  -- Jumps

  break_rules : (o : Option ℕ) (n : ℕ) (s : Seen) → Each Holds (breaks o n s) → BreakRules start c o s
  unfolding breaks BreakRules if_zero if_nonzero
  break_rules None n s h = tt
  break_rules (Some l) n s h = let both = each_parts Holds _ _ h in record { zero = covered _ n _ s both.0; nonzero = covered _ n _ s both.1 }

  continue_rules : (o : Option ℕ) (n : ℕ) (s : Seen) → Each Holds (continues o n s) → ContinueRules start c o s
  unfolding continues ContinueRules
  continue_rules None n s h = tt
  continue_rules (Some l) n s h = covered _ n _ s h

  status_rules : (o : Option ℕ) (f : Text) (n : ℕ) (s : Seen) → Each Holds (returns_with o f n s) → StatusRules start c o f s
  unfolding returns_with StatusRules
  status_rules None f n s h = let both = each_parts Holds _ _ h in (covered _ n _ s both.0, covered _ n _ s both.1)
  status_rules (Some status) f n s h = go (status == 0) h
    where
      go : (b : Bool) → Each Holds (if b then bound (ReturnsZero f) n F15 s else bound (ReturnsNonzero f) n F15 s) → Covers start c (if b then ReturnsZero f else ReturnsNonzero f) s
      go true k = covered _ n _ s k
      go false k = covered _ n _ s k

  return_rules : (o : Option ℕ) (g : Option Text) (n : ℕ) (s : Seen) → Each Holds (returns o g n s) → ReturnRules start c o g s
  unfolding returns ReturnRules
  return_rules o None n s h = tt
  return_rules o (Some f) n s h = status_rules o f n s h

  jump_rules : (x : Around) (n : ℕ) (k : Kind) (ws : List Word) (s : Seen) → Each Holds (jumps x n k ws s) → JumpRules start c x k ws s
  unfolding jumps JumpRules
  jump_rules x n (kind.Special known.Break) ws s h = break_rules _ n s h
  jump_rules x n (kind.Special known.Continue) ws s h = continue_rules _ n s h
  jump_rules x n (kind.Special known.Return) ws s h = return_rules _ _ n s h
  jump_rules x n _ ws s h = tt

  -- Simple commands

  simple_rules : (x : Around) (n : ℕ) (es : p.Elements) (m : Manner) → Each Holds (simple_bounds x n es m) → SimpleRules start c x n es m
  unfolding simple_bounds call_bounds where_redirected SimpleRules
  simple_rules x n es Nameless h = left n _ _ h
  simple_rules x n es (Utility k ws) h = let both = each_parts Holds _ _ h in record { leaves = left n _ _ both.0; jumps = jump_rules x n k ws _ both.1 }
  simple_rules x n es (Call f ws) h =
      let last = each_parts Holds _ _ h in
      let second = each_parts Holds _ _ last.0 in
      let first = each_parts Holds _ _ second.0 in
      record {
        entry = covered _ n _ _ first.0;
        zero = covered _ n _ _ first.1;
        nonzero = covered _ n _ _ second.1;
        redirected = λ e. covered _ n _ _ (each_where Holds (is_redirected (redirects_in es)) _ last.1 e);
      }

  -- Compound commands

  branch_rules : (n : ℕ) (s : Seen) (t : p.Branches) → Each Holds (branches_bounds n s t) → BranchesLeave start c n s t
  unfolding branches_bounds BranchesLeave
  branch_rules n s p.no_branches h = tt
  branch_rules n s (p.more_branches condition body rest) h = let both = each_parts Holds _ _ h in (left n _ _ both.0, branch_rules n (if_nonzero (items_after (Both s) condition)) rest both.1)

  otherwise_rules : (n : ℕ) (s : Seen) (t : p.Otherwise) → Each Holds (otherwise_bounds n s t) → OtherwiseLeaves start c n s t
  unfolding otherwise_bounds OtherwiseLeaves
  otherwise_rules n s p.no_else h = covered _ n _ s h
  otherwise_rules n s (p.else_of list) h = left n _ _ h

  clause_rules : (n : ℕ) (s fallen : Seen) (t : p.Clauses) → Each Holds (clauses_bounds n s fallen t) → ClausesLeave start c n s fallen t
  unfolding clauses_bounds ClausesLeave
  clause_rules n s fallen p.no_clauses h = tt
  clause_rules n s fallen (p.more_clauses patterns body end rest) h =
      let both = each_parts Holds _ _ h in (λ e. left n _ _ (each_where Holds (is_last end rest) _ both.0 e), clause_rules n s (falls end (items_after (Both (s ++ fallen)) body)) rest both.1)

  body_rules : (f : Text) (t : p.Command) → Each Holds (body_bounds f t) → BodyRules start c f t
  unfolding body_bounds BodyRules
  body_rules f (p.command m offset k rs) h = let both = each_parts Holds _ _ h in (covered _ m _ _ both.0, covered _ m _ _ both.1)

  kind_rules : (functions : List Text) (x : Around) (n : ℕ) (s : Seen) (t : p.Kind) → Each Holds (kind_bounds functions x n s t) → KindRules start c functions x n s t
  unfolding kind_bounds KindRules
  kind_rules functions x n s (p.Simple es) h = simple_rules x n es (manner functions es) h
  kind_rules functions x n s (p.Group list) h = left n _ _ h
  kind_rules functions x n s (p.Subshell list) h = left n _ _ h
  kind_rules functions x n s (p.Conditional branches otherwise) h = let both = each_parts Holds _ _ h in (branch_rules n s branches both.0, otherwise_rules n _ otherwise both.1)
  kind_rules functions x n s (p.Loop k condition body) h =
      let last = each_parts Holds _ _ h in
      let first = each_parts Holds _ _ last.0 in
      (covered _ n _ _ first.0, record { again = covered _ n _ _ first.1; leaves = left n _ _ last.1 })
  kind_rules functions x n s (p.For name ws body) h =
      let last = each_parts Holds _ _ h in
      let first = each_parts Holds _ _ last.0 in
      (covered _ n _ _ first.0, record { again = covered _ n _ _ first.1; leaves = left n _ _ last.1 })
  kind_rules functions x n s (p.Case w cs) h = let both = each_parts Holds _ _ h in (clause_rules n _ _ cs both.0, λ e. covered _ n _ _ (each_unless Holds (matches_always cs) _ both.1 e))
  kind_rules functions x n s (p.Define name body) h = let both = each_parts Holds _ _ h in (covered _ n _ _ both.0, body_rules name body both.1)

  -- Commands

  -- what the rules, the demands, the profile and the form of a command give
  entered_rules : (functions : List Text) (t : p.Command) (rule : FlowRule) (x : Around) (s : Seen)
      → let e : Entered = record { command = t; rule = rule; around = x; seen = s } in
      Each Holds (bounds functions e) → unmet start c functions e ≡ [] → Admits e → command_formed t ≡ true → EnteredRules start c functions e
  unfolding bounds redirects_bounds unmet shared_unmet AdmitsAt EnteredRules
  entered_rules functions (p.command n offset k rs) rule x s h e admits formed =
      let last = each_parts Holds _ _ h in
      let third = each_parts Holds _ _ last.0 in
      let first = each_parts Holds _ _ third.0 in
      let outer = none_both _ (if x.shares then _ else []) e in
      let inner = none_both (redirects_unmet (facts (c.claim (Before n))) rs) _ outer.0 in
      let ls = losses functions (record { command = p.command n offset k rs; rule = rule; around = x; seen = s }) in
      let shared : x.shares ≡ true → (map (drop_at offset) (dropped start c n ls) ≡ []) × (move_at offset (command_moves functions k && is_reached (facts (c.claim (Before n)))) ≡ []) =
      λ on. none_both _ _ (where_none x.shares _ outer.1 on) in
      record {
        before = covered _ n _ s first.0;
        kind = kind_rules functions x n _ k first.1;
        redirected = λ on. covered _ n _ _ (each_where Holds (is_redirected rs) _ third.1 on);
        losses = may_drop x n ls last.1 (λ on. map_none _ _ (shared on).0);
        stays = λ on. stays_none offset _ (shared on).1;
        redirects_met = inner.0;
        words_met = inner.1;
        admitted = admits;
        formed = formed;
      }

pub rules_give : RulesGive
unfolding faults script_bounds demands
rules_give start c t admitted formed rules met =
    let functions = functions_of (script_entered t) in
    let entered = script_entered t in
    let held = each_inside (Holds start c) (bounds functions) entered (each_none (broken start c) (flat_map (bounds functions) entered) rules) in
    let needs = each_none (unmet start c functions) entered met in
    let stated : Each (λ e. Each (Holds start c) (bounds functions e) × (unmet start c functions e ≡ [])) entered = each_with entered held needs (λ e a b. (a, b)) in
    let asked : Each (λ e. Admits e × (command_formed e.command ≡ true)) entered =
    each_with entered (script_admits t admitted) (each_passes (λ e. command_formed e.command) entered (script_formed t formed)) (λ e a b. (a, b)) in
    each_with entered stated asked (λ e a b. entered_rules start c functions e.command e.rule e.around e.seen a.0 a.1 b.0 b.1)
