-- What the flow rules require of a simple command over views is what they require over facts.
use Rattle.std.proofs.Common.{◌≡◌, ℕ, ◌==◌, Bool, true, false, not, ◌&&◌, ◌||◌, Option, Some, None, List, [], ◌∷◌, ◌++◌, if◌then◌else◌, filter, codes, refl, sym, ap, ap₂, ◌∙◌}
use Rattle.sh_tree.specs.declared.known.KnownName.TheVariants as known'
use Rattle.sh_tree.specs.standard.program.Syntax as p
use Rattle.sh_tree.specs.standard.program.Syntax.{Text, Word}
use Rattle.sh_tree.specs.standard.program.Words.{operands_in, redirects_in}
use Rattle.sh_runs.specs.declared.kind.Kind.{Kind}
use Rattle.sh_runs.specs.declared.kind.Kind.TheVariants as kind
use Rattle.sh_runs.specs.standard.runs.Environment.{is_one_of}
use Rattle.sh_domain.specs.declared.rule.FlowRule.TheVariants.{F4, F5, F14, F15}
use Rattle.sh_domain.specs.Entries as e
use Rattle.sh_domain.specs.Facts.{Facts, NotReached, Known, Function, claims, facts, meet}
use Rattle.sh_domain.specs.Gains.{Gains, named, with_gains, words_gains}
use Rattle.sh_domain.specs.Knowledge.{AreNumbered, among}
use Rattle.sh_domain.specs.Meets.{is_call}
use Rattle.sh_domain.specs.Operands.{Names, Total, total, first_number, positional_words, return_status, declared_names, read_names, getopts_names, unset_names, runs_command}
use Rattle.sh_domain.specs.Order.{seen_facts}
use Rattle.sh_domain.specs.Rules as r
use Rattle.sh_domain.specs.Rules.{bound, leaves}
use Rattle.sh_domain.specs.Table as table
use Rattle.sh_domain.specs.Table.{Manner, Nameless, Utility, manner, prefixes, assignments_gains, is_redirected}
use Rattle.sh_domain.specs.Views as views
use Rattle.sh_domain.specs.Views.{Certificate, Slot, Before, AfterZero, AfterNonzero, Head, Entry, ReturnsZero, ReturnsNonzero, Seen, After, Lose, Count, Shift, at, gaining, gaining_names, step, steps, where_known, source_facts, kept, passes, returned}
use Rattle.sh_domain.proofs.MeetLemmas.{known_same, seen_is_meet}
use Rattle.sh_rules.specs.Asking.{Asking}
use Rattle.sh_rules.specs.Settings.{Setting, certificate, known_at, gained}
use Rattle.sh_rules.specs.Behind.{Behind, both, either}
use Rattle.sh_rules.specs.Meaning.{knows}
use Rattle.sh_rules.specs.Asked.{ByConstraints}
use Rattle.sh_rules.specs.Bounds.{fault}
use Rattle.sh_rules.specs.SimpleBounds.{stepped, called, set_behind, shift_behind, utility_behind, nameless_behind, breaks_told, continues_told, returns_with_told, returns_told, jumps_told, behind, left, redirection_told, call_told, simple_told}
use Rattle.sh_rules.proofs.EnteredLemmas.{Interprets, behind_of}
use Rattle.sh_rules.proofs.MeaningLemmas.{interprets, meet_last, among_lost, slot_named}
use Rattle.sh_rules.proofs.BoundLemmas.{joined, bound_at, leaves_at, slot_at}

-- Steps of facts about some names

among_counted : (ns : List Text) (c : Certificate) (n : Total) (f : Facts) → among ns (step c (Count n) f) ≡ step c (Count n) (among ns f)
unfolding among step where_known
among_counted ns c n NotReached = refl
among_counted ns c n (Known v f a) = refl

among_shifted : (ns : List Text) (c : Certificate) (n : ℕ) (f : Facts) → among ns (step c (Shift n) f) ≡ step c (Shift n) (among ns f)
unfolding among step where_known
among_shifted ns c n NotReached = refl
among_shifted ns c n (Known v f a) = refl

-- a call depends on whether the function is defined; what it leaves known of the numbered names
-- depends on what was known of these

dropped : (n v k : Bool) → (n && (v && k)) ≡ (n && ((n && v) && k))
dropped true v k = refl
dropped false v k = refl

defined_once : (n v k w : Bool) → (n && ((v && k) || w)) ≡ (n && (((n && v) && k) || w))
defined_once true v k w = refl
defined_once false v k w = refl

set_once : (n v k w q : Bool) → (n && (((v && k) || w) && (v || q))) ≡ (n && ((((n && v) && k) || w) && ((n && v) || q)))
set_once true v k w q = refl
set_once false v k w q = refl

passed_once : (n v k q : Bool) → (n && ((v && k) && q)) ≡ (n && (((n && v) && k) && q))
passed_once true v k q = refl
passed_once false v k q = refl

-- the functions that are known are numbered, whatever is gained
function_named : (ns : List Text) (g : Gains) (f : Text) (k : Facts) → among ns k ≡ k → claims (among ns (with_gains g k)) (Function f) ≡ claims (with_gains g k) (Function f)
unfolding among with_gains claims
function_named ns g f NotReached e = refl
function_named ns g f (Known v w a) e = ap (λ z. claims z (Function f)) e

module _ (ns : List Text) (d : Names) (f : Text) (prefixes : List Text) where
  abbrev of_names : (Text → Bool) → Text → Bool
  of_names v t = is_one_of ns t && v t

  among_returned : (r : Facts) (v g : Text → Bool) (a : ℕ) → among ns (returned d prefixes r v g a) ≡ among ns (returned d prefixes r (of_names v) (of_names g) a)
  unfolding among returned
  among_returned NotReached v g a = refl
  among_returned (Known w h b) v g a =
      known_same _ _ _ _ a a
      (λ t. set_once (is_one_of ns t) (v t) (not (is_one_of d.vars t)) (w t) (not (is_one_of prefixes t)))
      (λ t. defined_once (is_one_of ns t) (g t) (not (is_one_of d.functions t)) (h t)) refl

  among_left : (v g : Text → Bool) (a : ℕ) → among ns (views.left d f v g a) ≡ among ns (views.left d f (of_names v) (of_names g) a)
  unfolding among
  among_left v g a =
      known_same _ _ _ _ a a
      (λ t. passed_once (is_one_of ns t) (v t) (not (is_one_of d.vars t)) (passes f t))
      (λ t. dropped (is_one_of ns t) (g t) (not (is_one_of d.functions t))) refl

  among_where : (r : Facts) (b : Bool) (v g : Text → Bool) (a : ℕ)
      → among ns (if b then returned d prefixes r v g a else views.left d f v g a)
      ≡ among ns (if b then returned d prefixes r (of_names v) (of_names g) a else views.left d f (of_names v) (of_names g) a)
  among_where r true v g a = among_returned r v g a
  among_where r false v g a = among_left v g a

  among_called : (r k : Facts) → claims (among ns k) (Function f) ≡ claims k (Function f)
      → among ns (views.called d r f prefixes k) ≡ among ns (views.called d r f prefixes (among ns k))
  unfolding views.called where_known among claims
  among_called r NotReached e = refl
  among_called r (Known v g a) e =
      among_where r (g f) v g a
      ∙ ap (λ b. among ns (if b then returned d prefixes r (of_names v) (of_names g) a else views.left d f (of_names v) (of_names g) a)) (sym e)

module _ (x : Setting) (h : AreNumbered x.names) (d : Facts) where
  abbrev known : Seen → Facts
  known s = knows x d s

  abbrev i : Interprets x (knows x d)
  i = interprets x h d

  abbrev left_behind : After → Behind
  left_behind o = behind_of x (knows x d) (interprets x h d) o

  -- Steps over what is seen

  counted_same : (n : Total) (s : Seen) → stepped x (Count n) (known s) ≡ known (views.stepped (Count n) s)
  unfolding stepped knows is_call
  counted_same n s =
      sym (ap (among x.names) (seen_is_meet.behind d (certificate x) (Count n) s refl) ∙ among_counted x.names (certificate x) n (seen_facts d (certificate x) s))

  shifted_same : (n : ℕ) (s : Seen) → stepped x (Shift n) (known s) ≡ known (views.stepped (Shift n) s)
  unfolding stepped knows is_call
  shifted_same n s =
      sym (ap (among x.names) (seen_is_meet.behind d (certificate x) (Shift n) s refl) ∙ among_shifted x.names (certificate x) n (seen_facts d (certificate x) s))

  lost_same : (names : Names) (s : Seen) → stepped x (Lose names) (known s) ≡ known (views.stepped (Lose names) s)
  unfolding stepped knows is_call
  lost_same names s =
      sym (ap (among x.names) (seen_is_meet.behind d (certificate x) (Lose names) s refl) ∙ among_lost x.names (certificate x) names (seen_facts d (certificate x) s))

  pub gained_same : (g : Gains) (s : Seen) (k : Facts) → k ≡ known s → gained x g k ≡ known (gaining g s)
  gained_same g s k same = ap (gained x g) same ∙ sym (i.gain g s)

  -- after the words
  pub behind_same : (n : ℕ) (es : p.Elements) → behind x n es ≡ known (table.behind_words es (at (Before n)))
  behind_same n es = gained_same (words_gains (operands_in es)) (at (Before n)) (known_at x (Before n)) (slot_at x h d (Before n))

  -- a call, of what is seen at one place
  called_same : (g : Gains) (s : Slot) (f : Text) (return : Slot) (names : List Text)
      → called x f return names (known (gaining g (at s))) ≡ known (views.stepped (views.Call f return names) (gaining g (at s)))
  unfolding called knows seen_facts steps source_facts step known_at
  called_same g s f return names =
      let c = certificate x in
      let k : Facts = with_gains g (facts (c.claim s)) in
      let one : among x.names (meet k NotReached) ≡ among x.names k = ap (among x.names) (meet_last k) in
      let call : Facts → Facts = λ m. views.called (c.drops f) (facts (c.claim return)) f names m in
      ap (λ m. among x.names (call m)) one
      ∙ sym (ap (among x.names) (meet_last (call k))
      ∙ among_called x.names (c.drops f) f names (facts (c.claim return)) k (function_named x.names g f (facts (c.claim s)) (slot_named x h s)))

  -- The table

  module _ (s : Seen) (ws : List Word) (left : Gains) (names : List Text) (redirected : Bool) where
    abbrev settled : Seen
    settled = table.settled s ws left names redirected

    settled_same : gained x left (known s) ≡ known settled
    settled_same = sym (i.gain left s)

    set_same : (o : Option (List Word)) → set_behind x (known s) ws left names redirected o ≡ left_behind (table.after_set s ws left names redirected o)
    unfolding set_behind table.after_set behind_of
    set_same None = ap both settled_same
    set_same (Some vs) =
        let one = gained_same (named left.names) (views.stepped (Count (total vs)) s) (stepped x (Count (total vs)) (known s)) (counted_same (total vs) s) in
        ap₂ either one (ap₂ meet one settled_same ∙ sym (i.joined (gaining_names left.names (views.stepped (Count (total vs)) s)) settled))

    shift_same : (o : Option ℕ) → shift_behind x (known s) ws left names redirected o ≡ left_behind (table.after_shift s ws left names redirected o)
    unfolding shift_behind table.after_shift behind_of
    shift_same None = ap both (ap (stepped x (Count (total []))) settled_same ∙ counted_same (total []) settled)
    shift_same (Some n) = ap both (ap (stepped x (Shift n)) settled_same ∙ shifted_same n settled)

    declared_same : (ts : List Text) → both (gained x (named ts) (gained x left (known s))) ≡ both (known (gaining_names ts settled))
    declared_same ts = ap both (gained_same (named ts) settled (gained x left (known s)) settled_same)

    run_same : (b : Bool) → (if b then NotReached else gained x left (known s)) ≡ known (if b then views.anything else settled)
    run_same true = sym i.nothing
    run_same false = settled_same

    true_same : (b : Bool) → (if b then known s else NotReached) ≡ known (if b then s else views.anything)
    true_same true = refl
    true_same false = sym i.nothing

    abbrev optarg : Names
    optarg = record { vars = codes "OPTARG" ∷ []; functions = [] }

    utility_same : (k : Kind) → utility_behind x (known s) ws left names redirected k ≡ left_behind (table.after_utility s ws left names redirected k)
    unfolding utility_behind table.after_utility behind_of
    utility_same (kind.Special known'.Colon) = ap₂ either settled_same (sym i.nothing)
    utility_same (kind.Special known'.Export) = declared_same (declared_names ws)
    utility_same (kind.Special known'.Readonly) = declared_same (declared_names ws)
    utility_same (kind.Special known'.Unset) = ap both (ap (stepped x (Lose (unset_names ws))) settled_same ∙ lost_same (unset_names ws) settled)
    utility_same (kind.Special known'.Set) = set_same (positional_words ws)
    utility_same (kind.Special known'.Shift) = shift_same (first_number ws)
    utility_same (kind.Special known'.Exit) = ap both (sym i.nothing)
    utility_same (kind.Special known'.Break) = ap both (sym i.nothing)
    utility_same (kind.Special known'.Continue) = ap both (sym i.nothing)
    utility_same (kind.Special known'.Return) = ap both (sym i.nothing)
    utility_same (kind.Special known'.Exec) = ap₂ either (run_same (runs_command ws)) settled_same
    utility_same (kind.Special known'.Times) = ap both settled_same
    utility_same (kind.Special known'.Trap) = ap both settled_same
    utility_same kind.True = ap (either (known s)) (true_same redirected)
    utility_same kind.False = ap (λ k. either k (known s)) (sym i.nothing)
    utility_same kind.Read = ap (λ k. either k (known s)) (gained_same (named (filter (λ t. not (is_one_of names t)) (read_names ws))) s (known s) refl)
    utility_same kind.Getopts =
        let ts = filter (λ t. not (is_one_of names t)) (getopts_names ws) in
        ap₂ either
        (ap (stepped x (Lose optarg)) (gained_same (named ts) s (known s) refl) ∙ lost_same optarg (gaining_names ts s))
        (lost_same optarg s)
    utility_same kind.Cd = refl
    utility_same kind.Command = refl
    utility_same kind.Utility = refl
    utility_same (kind.Refused name) = refl
    utility_same (kind.Special known'.Dot) = refl
    utility_same (kind.Special known'.Eval) = refl
    utility_same (kind.Special known'.Alias) = refl
    utility_same (kind.Special known'.Unalias) = refl
    utility_same (kind.Special known'.Fc) = refl
    utility_same (kind.Special known'.Local) = refl
    utility_same (kind.Special known'.Typeset) = refl
    utility_same (kind.Special known'.Declare) = refl
    utility_same (kind.Special known'.Source) = refl
    utility_same (kind.Special known'.Let) = refl
    utility_same (kind.Special known'.Builtin) = refl
    utility_same (kind.Special known'.Nameref) = refl
    utility_same (kind.Special known'.Integer) = refl
    utility_same (kind.Special known'.Float) = refl
    utility_same (kind.Special known'.Mapfile) = refl
    utility_same (kind.Special known'.Readarray) = refl
    utility_same (kind.Special known'.Shopt) = refl
    utility_same (kind.Special known'.LeftBrackets) = refl
    utility_same (kind.Special known'.RightBrackets) = refl
    utility_same (kind.Special known'.Function) = refl
    utility_same (kind.Special known'.Select) = refl
    utility_same (kind.Special known'.Time) = refl
    utility_same (kind.Special known'.Namespace) = refl

    nameless_same : nameless_behind x (known s) ws left names redirected ≡ left_behind (table.after_nameless s ws left names redirected)
    unfolding nameless_behind table.after_nameless behind_of
    nameless_same = ap₂ either settled_same (or_settled redirected)
      where
        or_settled : (b : Bool) → (if b then known s else gained x left (known s)) ≡ known (if b then s else settled)
        or_settled true = refl
        or_settled false = settled_same

module _ {K : Type 0} (a : Asking K) (x : Setting) (h : AreNumbered x.names) (d : Facts) (g : ByConstraints K a x d) where
  -- Jumps

  module _ (n : ℕ) (s : Seen) (k : Facts) (same : k ≡ knows x d s) where
    twice_bound : (one two : Slot) (kept : K)
        → g.all kept (bound one n F15 s ++ bound two n F15 s) ≡ a.bound x two (fault n F15) k (a.bound x one (fault n F15) k kept)
    twice_bound one two kept =
        joined a x h d g kept _ _ (bound one n F15 s) (bound two n F15 s) (bound_at a x h d g one n F15 s k kept same) (bound_at a x h d g two n F15 s k _ same)

    breaks_same : (o : Option ℕ) (kept : K) → g.all kept (r.breaks o n s) ≡ breaks_told a x n k o kept
    unfolding breaks_told r.breaks
    breaks_same None kept = g.none kept
    breaks_same (Some l) kept = twice_bound (AfterZero l) (AfterNonzero l) kept

    continues_same : (o : Option ℕ) (kept : K) → g.all kept (r.continues o n s) ≡ continues_told a x n k o kept
    unfolding continues_told r.continues
    continues_same None kept = g.none kept
    continues_same (Some l) kept = bound_at a x h d g (Head l) n F15 s k kept same

    by_status : (b : Bool) (f : Text) (kept : K)
        → g.all kept (if b then bound (ReturnsZero f) n F15 s else bound (ReturnsNonzero f) n F15 s)
        ≡ (if b then a.bound x (ReturnsZero f) (fault n F15) k kept else a.bound x (ReturnsNonzero f) (fault n F15) k kept)
    by_status true f kept = bound_at a x h d g (ReturnsZero f) n F15 s k kept same
    by_status false f kept = bound_at a x h d g (ReturnsNonzero f) n F15 s k kept same

    returns_with_same : (o : Option ℕ) (f : Text) (kept : K) → g.all kept (r.returns_with o f n s) ≡ returns_with_told a x n k o f kept
    unfolding returns_with_told r.returns_with
    returns_with_same None f kept = twice_bound (ReturnsZero f) (ReturnsNonzero f) kept
    returns_with_same (Some status) f kept = by_status (status == 0) f kept

    returns_same : (o : Option ℕ) (f : Option Text) (kept : K) → g.all kept (r.returns o f n s) ≡ returns_told a x n k o f kept
    unfolding returns_told r.returns
    returns_same o None kept = g.none kept
    returns_same o (Some f) kept = returns_with_same o f kept

    jumps_same : (y : e.Around) (u : Kind) (ws : List Word) (kept : K) → g.all kept (r.jumps y n u ws s) ≡ jumps_told a x n k y u ws kept
    unfolding jumps_told r.jumps
    jumps_same y (kind.Special known'.Break) ws kept = breaks_same (r.jump_loop (first_number ws) y.loops) kept
    jumps_same y (kind.Special known'.Continue) ws kept = continues_same (r.jump_loop (first_number ws) y.loops) kept
    jumps_same y (kind.Special known'.Return) ws kept = returns_same (return_status ws) y.function kept
    jumps_same y kind.Cd ws kept = g.none kept
    jumps_same y kind.Command ws kept = g.none kept
    jumps_same y kind.False ws kept = g.none kept
    jumps_same y kind.Getopts ws kept = g.none kept
    jumps_same y kind.Read ws kept = g.none kept
    jumps_same y kind.True ws kept = g.none kept
    jumps_same y kind.Utility ws kept = g.none kept
    jumps_same y (kind.Refused name) ws kept = g.none kept
    jumps_same y (kind.Special known'.Colon) ws kept = g.none kept
    jumps_same y (kind.Special known'.Exec) ws kept = g.none kept
    jumps_same y (kind.Special known'.Exit) ws kept = g.none kept
    jumps_same y (kind.Special known'.Export) ws kept = g.none kept
    jumps_same y (kind.Special known'.Readonly) ws kept = g.none kept
    jumps_same y (kind.Special known'.Set) ws kept = g.none kept
    jumps_same y (kind.Special known'.Shift) ws kept = g.none kept
    jumps_same y (kind.Special known'.Times) ws kept = g.none kept
    jumps_same y (kind.Special known'.Trap) ws kept = g.none kept
    jumps_same y (kind.Special known'.Unset) ws kept = g.none kept
    jumps_same y (kind.Special known'.Dot) ws kept = g.none kept
    jumps_same y (kind.Special known'.Eval) ws kept = g.none kept
    jumps_same y (kind.Special known'.Alias) ws kept = g.none kept
    jumps_same y (kind.Special known'.Unalias) ws kept = g.none kept
    jumps_same y (kind.Special known'.Fc) ws kept = g.none kept
    jumps_same y (kind.Special known'.Local) ws kept = g.none kept
    jumps_same y (kind.Special known'.Typeset) ws kept = g.none kept
    jumps_same y (kind.Special known'.Declare) ws kept = g.none kept
    jumps_same y (kind.Special known'.Source) ws kept = g.none kept
    jumps_same y (kind.Special known'.Let) ws kept = g.none kept
    jumps_same y (kind.Special known'.Builtin) ws kept = g.none kept
    jumps_same y (kind.Special known'.Nameref) ws kept = g.none kept
    jumps_same y (kind.Special known'.Integer) ws kept = g.none kept
    jumps_same y (kind.Special known'.Float) ws kept = g.none kept
    jumps_same y (kind.Special known'.Mapfile) ws kept = g.none kept
    jumps_same y (kind.Special known'.Readarray) ws kept = g.none kept
    jumps_same y (kind.Special known'.Shopt) ws kept = g.none kept
    jumps_same y (kind.Special known'.LeftBrackets) ws kept = g.none kept
    jumps_same y (kind.Special known'.RightBrackets) ws kept = g.none kept
    jumps_same y (kind.Special known'.Function) ws kept = g.none kept
    jumps_same y (kind.Special known'.Select) ws kept = g.none kept
    jumps_same y (kind.Special known'.Time) ws kept = g.none kept
    jumps_same y (kind.Special known'.Namespace) ws kept = g.none kept

  -- Simple commands

  redirection_same : (n : ℕ) (b : Bool) (s : Seen) (k : Facts) (kept : K) → k ≡ knows x d s
      → g.all kept (if b then bound (AfterNonzero n) n F14 s else []) ≡ redirection_told a x n b k kept
  unfolding redirection_told
  redirection_same n true s k kept same = bound_at a x h d g (AfterNonzero n) n F14 s k kept same
  redirection_same n false s k kept same = g.none kept

  call_same : (y : e.Around) (n : ℕ) (es : p.Elements) (f : Text) (ws : List Word) (kept : K)
      → g.all kept (r.call_bounds y n es f ws) ≡ call_told a x n es f ws kept
  unfolding call_told r.call_bounds r.where_redirected
  call_same y n es f ws kept =
      let s = table.behind_words es (at (Before n)) in
      let k = behind x n es in
      let same : k ≡ knows x d s = behind_same x h d n es in
      let names = prefixes es in
      let entered = gaining_names names (views.stepped (Count (total ws)) s) in
      let zero = views.stepped (views.Call f (ReturnsZero f) names) s in
      let nonzero = views.stepped (views.Call f (ReturnsNonzero f) names) s in
      let back : (return : Slot) → called x f return names k ≡ knows x d (views.stepped (views.Call f return names) s) =
      λ return. ap (called x f return names) same ∙ called_same x h d (words_gains (operands_in es)) (Before n) f return names in
      joined a x h d g kept _ _ (bound (Entry f) n F14 entered ++ bound (AfterZero n) n F14 zero ++ bound (AfterNonzero n) n F14 nonzero)
      (if is_redirected (redirects_in es) then bound (AfterNonzero n) n F14 s else [])
      (joined a x h d g kept _ _ (bound (Entry f) n F14 entered ++ bound (AfterZero n) n F14 zero) (bound (AfterNonzero n) n F14 nonzero)
      (joined a x h d g kept _ _ (bound (Entry f) n F14 entered) (bound (AfterZero n) n F14 zero)
      (bound_at a x h d g (Entry f) n F14 entered (gained x (named names) (stepped x (Count (total ws)) k)) kept
      (gained_same x h d (named names) (views.stepped (Count (total ws)) s) _ (ap (stepped x (Count (total ws))) same ∙ counted_same x h d (total ws) s)))
      (bound_at a x h d g (AfterZero n) n F14 zero (called x f (ReturnsZero f) names k) _ (back (ReturnsZero f))))
      (bound_at a x h d g (AfterNonzero n) n F14 nonzero (called x f (ReturnsNonzero f) names k) _ (back (ReturnsNonzero f))))
      (redirection_same n (is_redirected (redirects_in es)) s k _ same)

  manner_same : (y : e.Around) (n : ℕ) (es : p.Elements) (m : Manner) (kept : K) → g.all kept (r.simple_bounds y n es m) ≡ simple_told a x n y es m kept
  unfolding simple_told r.simple_bounds
  manner_same y n es Nameless kept =
      let s = table.behind_words es (at (Before n)) in
      let redirected = is_redirected (redirects_in es) in
      leaves_at a x h d g n F5 (table.after_nameless s [] (assignments_gains es) (prefixes es) redirected)
      (nameless_behind x (behind x n es) [] (assignments_gains es) (prefixes es) redirected) kept
      (ap (λ k. nameless_behind x k [] (assignments_gains es) (prefixes es) redirected) (behind_same x h d n es)
      ∙ nameless_same x h d s [] (assignments_gains es) (prefixes es) redirected)
  manner_same y n es (Utility u ws) kept =
      let s = table.behind_words es (at (Before n)) in
      let redirected = is_redirected (redirects_in es) in
      joined a x h d g kept _ _ (leaves n F4 (table.after_utility s ws (left es) (prefixes es) redirected u)) (r.jumps y n u ws (gaining (left es) s))
      (leaves_at a x h d g n F4 (table.after_utility s ws (left es) (prefixes es) redirected u)
      (utility_behind x (behind x n es) ws (left es) (prefixes es) redirected u) kept
      (ap (λ k. utility_behind x k ws (left es) (prefixes es) redirected u) (behind_same x h d n es) ∙ utility_same x h d s ws (left es) (prefixes es) redirected u))
      (jumps_same n (gaining (left es) s) (gained x (left es) (behind x n es)) (gained_same x h d (left es) s (behind x n es) (behind_same x h d n es)) y u ws _)
  manner_same y n es (table.Call f ws) kept = call_same y n es f ws kept

  pub simple_same : (functions : List Text) (y : e.Around) (n : ℕ) (s : Seen) (es : p.Elements) (kept : K)
      → g.all kept (r.kind_bounds functions y n s (p.Simple es)) ≡ simple_told a x n y es (manner functions es) kept
  unfolding r.kind_bounds
  simple_same functions y n s es kept = manner_same y n es (manner functions es) kept
