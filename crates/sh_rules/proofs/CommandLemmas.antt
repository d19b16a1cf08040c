-- What the flow rules require of a command over views is what they require over facts.
use Rattle.std.proofs.Common.{◌≡◌, ℕ, Bool, true, false, not, ◌&&◌, Option, Some, None, List, [], ◌∷◌, ◌++◌, if◌then◌else◌, map, filter, codes, refl, sym, ap, ap₂, ◌∙◌}
use Rattle.std.specs.List.{list_all}
use Rattle.std.specs.Str.{bytes_eq}
use Rattle.std.proofs.lemmas.Bool.{and_parts}
use Rattle.sh_tree.specs.declared.known.KnownName.TheVariants as known'
use Rattle.sh_tree.specs.standard.program.Syntax as p
use Rattle.sh_tree.specs.standard.program.Syntax.{Text, Word}
use Rattle.sh_tree.specs.standard.program.Words.{operands_in}
use Rattle.sh_runs.specs.declared.kind.Kind.{Kind}
use Rattle.sh_runs.specs.declared.kind.Kind.TheVariants as kind
use Rattle.sh_runs.specs.standard.runs.Environment.{is_one_of}
use Rattle.sh_domain.specs.declared.rule.FlowRule.{FlowRule}
use Rattle.sh_domain.specs.Entries as e
use Rattle.sh_domain.specs.Entries.{Entered, behind_redirects}
use Rattle.sh_domain.specs.Facts.{Facts, NotReached, Known, Variable, claims, facts}
use Rattle.sh_domain.specs.Gains.{Gains, with_gains, words_gains, redirects_gains}
use Rattle.sh_domain.specs.Knowledge.{AreNumbered, among}
use Rattle.sh_domain.specs.Operands.{Names, unset_names}
use Rattle.sh_domain.specs.Order.{seen_facts}
use Rattle.sh_domain.specs.Rules as r
use Rattle.sh_domain.specs.Rules.{bound, builtin_losses, losses}
use Rattle.sh_domain.specs.Table as table
use Rattle.sh_domain.specs.Table.{Manner, Nameless, Utility, manner, prefixes}
use Rattle.sh_domain.specs.Views.{Slot, Before, Seen, View, Loss, OfNames, OfFunction, OfUnseen, Gain, At, at, gaining, step, steps, source_facts, lost}
use Rattle.sh_rules.specs.Asking.{Asking}
use Rattle.sh_rules.specs.Settings.{Setting, certificate, known_at}
use Rattle.sh_rules.specs.Meaning.{knows, met_of}
use Rattle.sh_rules.specs.Bounds.{compound_told}
use Rattle.sh_rules.specs.Asked.{ByConstraints, is_compound, has_numbered_prefixes}
use Rattle.sh_rules.specs.SimpleBounds.{behind}
use Rattle.sh_rules.specs.CommandBounds.{option_argument, unknown, drops_told, loses_told, utility_drops_told, builtin_drops_told, simple_drops_told, kind_drops_told, counted_told, redirected, claims_told, command_told, prefixes_in}
use Rattle.sh_rules.proofs.MeaningLemmas.{meet_last}
use Rattle.sh_rules.proofs.BoundLemmas.{joined, bound_at, slot_at, kind_same, redirects_same}
use Rattle.sh_rules.proofs.SimpleLemmas.{behind_same, gained_same, simple_same}

-- Tests of names that are numbered

same_filter : (ns : List Text) (p q : Text → Bool) (ts : List Text) → ((t : Text) → is_one_of ns t ≡ true → p t ≡ q t) → list_all (is_one_of ns) ts ≡ true
    → filter p ts ≡ filter q ts
same_filter ns p q [] f all_named = refl
same_filter ns p q (t ∷ ts) f all_named =
    let both = and_parts (is_one_of ns t) (list_all (is_one_of ns) ts) all_named in
    ap₂ (λ b rest. if b then t ∷ rest else rest) (f t both.0) (same_filter ns p q ts f both.1)

claimed_once : (ns : List Text) (k : Facts) (t : Text) → is_one_of ns t ≡ true → claims (among ns k) (Variable t) ≡ claims k (Variable t)
unfolding among claims
claimed_once ns NotReached t named = refl
claimed_once ns (Known v f a) t named = ap (λ b. b && v t) named

-- what is known after the words is what is seen there
known_same_at : (x : Setting) (d : Facts) (g : Gains) (s : Slot) (k : Facts) (t : Text) → k ≡ knows x d (gaining g (at s)) → is_one_of x.names t ≡ true
    → claims k (Variable t) ≡ claims (with_gains g (facts ((certificate x).claim s))) (Variable t)
unfolding knows seen_facts steps source_facts step
known_same_at x d g s k t same named =
    ap (λ m. claims m (Variable t)) (same ∙ ap (among x.names) (meet_last (with_gains g (facts ((certificate x).claim s)))))
    ∙ claimed_once x.names (with_gains g (facts ((certificate x).claim s))) t named

module _ {K : Type 0} (a : Asking K) (x : Setting) (h : AreNumbered x.names) (d : Facts) (g : ByConstraints K a x d) where
  -- Drops

  module _ (n : ℕ) (f : Text) where
    abbrev all_counted : K → List Loss → K
    all_counted kept ls = g.all kept (map (r.Counted f n) ls)

    -- one loss after the others
    lost_same : (kept : K) (l : Loss) (ls : List Loss) → all_counted kept (l ∷ ls) ≡ all_counted (drops_told a x n f (lost d (certificate x) n l) kept) ls
    lost_same kept l ls = g.joined kept (r.Counted f n l ∷ []) (map (r.Counted f n) ls) ∙ ap (λ b. all_counted b ls) (g.counted f n l kept)

    names_same : (kept : K) (names : Names) (ls : List Loss) → all_counted kept (OfNames names ∷ ls) ≡ all_counted (loses_told a x n f names kept) ls
    unfolding lost loses_told known_at
    names_same kept names ls = lost_same kept (OfNames names) ls

    names_alone : (kept : K) (names : Names) → all_counted kept (OfNames names ∷ []) ≡ loses_told a x n f names kept
    names_alone kept names = names_same kept names [] ∙ g.none (loses_told a x n f names kept)

    function_same : (kept : K) (callee : Text) (ls : List Loss)
        → all_counted kept (OfFunction callee ∷ ls) ≡ all_counted (loses_told a x n f ((certificate x).drops callee) kept) ls
    unfolding lost loses_told known_at
    function_same kept callee ls = lost_same kept (OfFunction callee) ls

    unseen_same : (es : p.Elements) (kept : K) → list_all (is_one_of x.names) (prefixes es) ≡ true
        → all_counted kept (map (OfUnseen (prefixes es)) (table.behind_words es (at (Before n)))) ≡ drops_told a x n f (unknown (behind x n es) (prefixes es)) kept
    unfolding lost steps source_facts step unknown
    unseen_same es kept named =
        let gains = words_gains (operands_in es) in
        let k : Facts = with_gains gains (facts ((certificate x).claim (Before n))) in
        let v : View = record { source = At (Before n); steps = Gain gains ∷ [] } in
        lost_same kept (OfUnseen (prefixes es) v) []
        ∙ g.none _
        ∙ ap (λ ts. drops_told a x n f (record { vars = ts; functions = [] }) kept)
        (sym (same_filter x.names (λ t. not (claims (behind x n es) (Variable t))) (λ t. not (claims k (Variable t))) (prefixes es)
        (λ t one. ap not (known_same_at x d gains (Before n) (behind x n es) t (behind_same x h d n es) one)) named))

    utility_same : (functions : List Text) (u : Kind) (ws : List Word) (kept : K)
        → all_counted kept (r.utility_losses functions u ws) ≡ utility_drops_told a x n f functions u ws kept
    unfolding utility_drops_told r.utility_losses
    utility_same functions (kind.Special known'.Unset) ws kept =
        names_alone kept (record { vars = (unset_names ws).vars; functions = filter (is_one_of functions) (unset_names ws).functions })
    utility_same functions kind.Getopts ws kept = names_alone kept option_argument
    utility_same functions kind.Cd ws kept = g.none kept
    utility_same functions kind.Command ws kept = g.none kept
    utility_same functions kind.False ws kept = g.none kept
    utility_same functions kind.Read ws kept = g.none kept
    utility_same functions kind.True ws kept = g.none kept
    utility_same functions kind.Utility ws kept = g.none kept
    utility_same functions (kind.Refused name) ws kept = g.none kept
    utility_same functions (kind.Special known'.Break) ws kept = g.none kept
    utility_same functions (kind.Special known'.Continue) ws kept = g.none kept
    utility_same functions (kind.Special known'.Return) ws kept = g.none kept
    utility_same functions (kind.Special known'.Colon) ws kept = g.none kept
    utility_same functions (kind.Special known'.Exec) ws kept = g.none kept
    utility_same functions (kind.Special known'.Exit) ws kept = g.none kept
    utility_same functions (kind.Special known'.Export) ws kept = g.none kept
    utility_same functions (kind.Special known'.Readonly) ws kept = g.none kept
    utility_same functions (kind.Special known'.Set) ws kept = g.none kept
    utility_same functions (kind.Special known'.Shift) ws kept = g.none kept
    utility_same functions (kind.Special known'.Times) ws kept = g.none kept
    utility_same functions (kind.Special known'.Trap) ws kept = g.none kept
    utility_same functions (kind.Special known'.Dot) ws kept = g.none kept
    utility_same functions (kind.Special known'.Eval) ws kept = g.none kept
    utility_same functions (kind.Special known'.Alias) ws kept = g.none kept
    utility_same functions (kind.Special known'.Unalias) ws kept = g.none kept
    utility_same functions (kind.Special known'.Fc) ws kept = g.none kept
    utility_same functions (kind.Special known'.Local) ws kept = g.none kept
    utility_same functions (kind.Special known'.Typeset) ws kept = g.none kept
    utility_same functions (kind.Special known'.Declare) ws kept = g.none kept
    utility_same functions (kind.Special known'.Source) ws kept = g.none kept
    utility_same functions (kind.Special known'.Let) ws kept = g.none kept
    utility_same functions (kind.Special known'.Builtin) ws kept = g.none kept
    utility_same functions (kind.Special known'.Nameref) ws kept = g.none kept
    utility_same functions (kind.Special known'.Integer) ws kept = g.none kept
    utility_same functions (kind.Special known'.Float) ws kept = g.none kept
    utility_same functions (kind.Special known'.Mapfile) ws kept = g.none kept
    utility_same functions (kind.Special known'.Readarray) ws kept = g.none kept
    utility_same functions (kind.Special known'.Shopt) ws kept = g.none kept
    utility_same functions (kind.Special known'.LeftBrackets) ws kept = g.none kept
    utility_same functions (kind.Special known'.RightBrackets) ws kept = g.none kept
    utility_same functions (kind.Special known'.Function) ws kept = g.none kept
    utility_same functions (kind.Special known'.Select) ws kept = g.none kept
    utility_same functions (kind.Special known'.Time) ws kept = g.none kept
    utility_same functions (kind.Special known'.Namespace) ws kept = g.none kept

    builtin_same : (b : Bool) (kept : K) (ls : List Loss)
        → all_counted kept ((if b then OfNames option_argument ∷ [] else []) ++ ls) ≡ all_counted (builtin_drops_told a x n f b kept) ls
    unfolding builtin_drops_told
    builtin_same true kept ls = names_same kept option_argument ls
    builtin_same false kept ls = refl

    simple_drops_same : (functions : List Text) (es : p.Elements) (m : Manner) (kept : K) → list_all (is_one_of x.names) (prefixes es) ≡ true
        → all_counted kept (r.losses_by functions es (table.behind_words es (at (Before n))) m) ≡ simple_drops_told a x n f functions es m kept
    unfolding simple_drops_told r.losses_by
    simple_drops_same functions es Nameless kept named = g.none kept
    simple_drops_same functions es (Utility u ws) kept named = utility_same functions u ws kept
    simple_drops_same functions es (table.Call callee ws) kept named =
        let unseen = map (OfUnseen (prefixes es)) (table.behind_words es (at (Before n))) in
        let its = loses_told a x n f ((certificate x).drops callee) kept in
        function_same kept callee (builtin_losses callee ++ unseen)
        ∙ builtin_same (bytes_eq callee (codes "getopts")) its unseen
        ∙ unseen_same es (builtin_drops_told a x n f (bytes_eq callee (codes "getopts")) its) named

  -- The whole command

  by_compound : (functions : List Text) (y : e.Around) (n : ℕ) (s : Seen) (m : Facts) (k : p.Kind) (kept : K) → m ≡ knows x d s → is_compound k ≡ true
      → g.all kept (r.kind_bounds functions y n s k) ≡ compound_told a x n m k kept
  by_compound functions y n s m k kept same it = kind_same a x h d g functions y n s k kept it ∙ ap (λ f. compound_told a x n f k kept) (sym same)

  module _ (functions : List Text) (by : FlowRule) (y : e.Around) (seen : Seen) (n offset : ℕ) (rs : p.Redirects) where
    abbrev entered : p.Kind → Entered
    entered k = record { command = p.command n offset k rs; rule = by; around = y; seen = seen }

    drops_same : (f : Text) (k : p.Kind) (kept : K) → list_all (is_one_of x.names) (prefixes_in (p.command n offset k rs)) ≡ true
        → all_counted n f kept (losses functions (entered k)) ≡ kind_drops_told a x n f functions k kept
    unfolding kind_drops_told losses prefixes_in
    drops_same f (p.Simple es) kept named = simple_drops_same n f functions es (manner functions es) kept named
    drops_same f (p.Group list) kept named = g.none kept
    drops_same f (p.Subshell list) kept named = g.none kept
    drops_same f (p.Conditional bs t) kept named = g.none kept
    drops_same f (p.Loop kind condition body) kept named = g.none kept
    drops_same f (p.For name ws body) kept named = g.none kept
    drops_same f (p.Case w cs) kept named = g.none kept
    drops_same f (p.Define name body) kept named = g.none kept

    pub counted_same : (o : Option Text) (k : p.Kind) (kept : K) → list_all (is_one_of x.names) (prefixes_in (p.command n offset k rs)) ≡ true
        → g.all kept (r.counted o n (losses functions (entered k))) ≡ counted_told a x n o functions k kept
    unfolding counted_told r.counted
    counted_same None k kept named = g.none kept
    counted_same (Some f) k kept named = drops_same f k kept named

    claims_same : (s : Seen) (m : Facts) (k : p.Kind) (kept : K) → m ≡ knows x d s
        → g.all kept (r.kind_bounds functions y n s k) ≡ claims_told a x functions y n m k kept
    unfolding claims_told is_compound
    claims_same s m (p.Simple es) kept same = simple_same a x h d g functions y n s es kept
    claims_same s m (p.Group list) kept same = by_compound functions y n s m (p.Group list) kept same refl
    claims_same s m (p.Subshell list) kept same = by_compound functions y n s m (p.Subshell list) kept same refl
    claims_same s m (p.Conditional bs t) kept same = by_compound functions y n s m (p.Conditional bs t) kept same refl
    claims_same s m (p.Loop kind condition body) kept same = by_compound functions y n s m (p.Loop kind condition body) kept same refl
    claims_same s m (p.For name ws body) kept same = by_compound functions y n s m (p.For name ws body) kept same refl
    claims_same s m (p.Case w cs) kept same = by_compound functions y n s m (p.Case w cs) kept same refl
    claims_same s m (p.Define name body) kept same = by_compound functions y n s m (p.Define name body) kept same refl

    pub claims_behind : (k : p.Kind) (kept : K) → g.all kept (r.kind_bounds functions y n (behind_redirects n rs) k) ≡ claims_told a x functions y n (redirected x n rs) k kept
    claims_behind k kept =
        claims_same (behind_redirects n rs) (redirected x n rs) k kept (gained_same x h d (redirects_gains rs) (at (Before n)) (known_at x (Before n)) (slot_at x h d (Before n)))

    bounds_same : (k : p.Kind) (kept : K) → list_all (is_one_of x.names) (prefixes_in (p.command n offset k rs)) ≡ true
        → g.all kept (r.bounds functions (entered k)) ≡ command_told a x functions kept (met_of x d (entered k))
    unfolding r.bounds command_told
    bounds_same k kept named =
        let before = bound (Before n) n by seen in
        let its = r.kind_bounds functions y n (behind_redirects n rs) k in
        joined a x h d g kept _ _ (before ++ its ++ r.redirects_bounds n rs) (r.counted y.drops n (losses functions (entered k)))
        (joined a x h d g kept _ _ (before ++ its) (r.redirects_bounds n rs)
        (joined a x h d g kept _ _ before its
        (bound_at a x h d g (Before n) n by seen (knows x d seen) kept refl)
        (claims_behind k _))
        (redirects_same a x h d g n rs _))
        (counted_same y.drops k _ named)

  pub command_same : (functions : List Text) (c : Entered) (kept : K) → has_numbered_prefixes x.names c ≡ true
      → g.all kept (r.bounds functions c) ≡ command_told a x functions kept (met_of x d c)
  unfolding has_numbered_prefixes
  command_same functions c kept named = by_command c.command c.rule c.around c.seen named
    where
      by_command : (m : p.Command) (by : FlowRule) (y : e.Around) (s : Seen)
          → list_all (is_one_of x.names) (prefixes_in m) ≡ true
          → g.all kept (r.bounds functions (record { command = m; rule = by; around = y; seen = s }))
          ≡ command_told a x functions kept (met_of x d (record { command = m; rule = by; around = y; seen = s }))
      by_command (p.command n offset k rs) by y s named = bounds_same functions by y s n offset rs k kept named
