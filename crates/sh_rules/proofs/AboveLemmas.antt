-- More than is seen requires no less of a certificate below.
use Rattle.std.proofs.Common.{◌≡◌, ℕ, true, List, [], ◌∷◌, ◌++◌, append-nil, fold, refl, sym, ap, ◌∙◌, subst}
use Rattle.std.specs.List.{list_all}
use Rattle.std.proofs.lemmas.Bool.{and_parts, and_from}
use Rattle.std.proofs.lemmas.List.Sums.{fold-append}
use Rattle.sh_tree.specs.standard.program.Syntax as p
use Rattle.sh_tree.specs.standard.program.Syntax.{Text}
use Rattle.sh_runs.specs.standard.runs.Environment.{is_one_of}
use Rattle.sh_domain.specs.declared.rule.FlowRule.{FlowRule}
use Rattle.sh_domain.specs.declared.rule.FlowRule.TheVariants.{F13}
use Rattle.sh_domain.specs.Entries.{Around, Entered, behind_redirects}
use Rattle.sh_domain.specs.Facts.{Facts, NotReached, Known, facts, meet}
use Rattle.sh_domain.specs.Faults.{Fault, broken}
use Rattle.sh_domain.specs.Gains.{Gains, and_gains, job}
use Rattle.sh_domain.specs.Inclusions.{Each}
use Rattle.sh_domain.specs.Knowledge.{AreNumbered, among}
use Rattle.sh_domain.specs.Operands.{Names}
use Rattle.sh_domain.specs.Order.{IsWithin, IsBelow, seen_facts, Fits}
use Rattle.sh_domain.specs.Rules as r
use Rattle.sh_domain.specs.Rules.{Constraint, Within, Counted, bound, bounds, losses}
use Rattle.sh_domain.specs.Table.{is_redirected}
use Rattle.sh_domain.specs.Views.{Certificate, Slot, Before, Seen, Both, if_zero, if_nonzero, at, at_start, gaining, step, Lose, Gain, View, view_facts, Loss, lost}
use Rattle.sh_domain.specs.Views as views
use Rattle.sh_domain.proofs.EachLemmas.{each_join, each_parts, each_none, each_of_all}
use Rattle.sh_domain.proofs.MonotoneLemmas.{step_grows, seen_grows, meet_grows, told_none, fits_below}
use Rattle.sh_domain.proofs.OrderLemmas.{known_within, known_parts, within_nowhere, nowhere_known, within_itself, within_through, within_test, meet_greatest}
use Rattle.sh_gains.specs.Knowing as knowing
use Rattle.sh_rules.specs.Settings.{Setting, certificate, known_at, gained, without_job}
use Rattle.sh_rules.specs.Asking.{Asking}
use Rattle.sh_rules.specs.Asked.{ByConstraints, has_numbered_prefixes}
use Rattle.sh_rules.specs.Behind.{both}
use Rattle.sh_rules.specs.Bounds.{fault, redirects_told}
use Rattle.sh_rules.specs.CommandBounds as commands
use Rattle.sh_rules.specs.CommandBounds.{claims_told, command_told, prefixes_in}
use Rattle.sh_rules.specs.Meaning.{sees, knows, met_at}
use Rattle.sh_rules.specs.Above.{Ask, OfPlace, OfFunction, ask, Asks, Anything, Allows, SeesWithin, KeepsThere, StaysAbove}
use Rattle.sh_rules.proofs.GainLemmas.{both_gained}
use Rattle.sh_rules.proofs.LedLemmas.{Follows}
use Rattle.sh_rules.proofs.MeaningLemmas.{meet_last, start_sees, gain_seen, job_seen, joined_seen, interprets}
use Rattle.sh_rules.proofs.BoundLemmas.{redirects_same}
use Rattle.sh_rules.proofs.CommandLemmas.{claims_behind, counted_same}

-- Facts of numbered names

pub among_grows : (names : List Text) (f g : Facts) → IsWithin f g → IsWithin (among names f) (among names g)
unfolding among
among_grows names f NotReached h = within_nowhere _
among_grows names NotReached (Known w g b) h = absurd (nowhere_known w g b h)
among_grows names (Known v f a) (Known w g b) h =
    let s = known_parts v w f g a b h in
    known_within _ _ _ _ a b
    (λ t m. let both = and_parts (is_one_of names t) (v t) m in and_from _ _ both.0 (s.vars t both.1))
    (λ t m. let both = and_parts (is_one_of names t) (f t) m in and_from _ _ both.0 (s.functions t both.1))
    s.args

below_itself : (c : Certificate) → IsBelow c c
below_itself c = record { claimed = λ s. within_itself _; dropped = λ f. record { vars = λ t m. m; functions = λ t m. m } }

-- What is known follows what a certificate below sees

module _ (x : Setting) (h : AreNumbered x.names) (d : Facts) (c : Certificate) (below : IsBelow c (certificate x)) where
  abbrev seen : Seen → Facts
  seen s = sees x.names d c s

  abbrev pub Above : Seen → Facts → Type 0
  Above s k = IsWithin (seen s) k

  slot_above : (s : Slot) → Above (at s) (known_at x s)
  unfolding knows
  slot_above s = subst (Above (at s)) ((interprets x h d).slot s) (among_grows x.names _ _ (seen_grows d c (certificate x) (at s) below))

  gain_above : (g : Gains) (s : Seen) (k : Facts) → Above s k → Above (gaining g s) (gained x g k)
  unfolding gained step
  gain_above g s k w = subst (λ f. IsWithin f (gained x g k)) (sym (gain_seen x d c g s)) (step_grows c c (Gain (knowing.among x.names g)) (seen s) k (below_itself c) w)

  gains_above : (g j : Gains) (s : Seen) (k : Facts) → Above (gaining j (gaining g s)) k → Above (gaining (and_gains g j) s) k
  gains_above g j s k w =
      subst (λ f. IsWithin f k)
      (gain_seen x d c j (gaining g s) ∙ ap (gained x j) (gain_seen x d c g s) ∙ sym (both_gained x g j (seen s)) ∙ sym (gain_seen x d c (and_gains g j) s)) w

  job_above : (s : Seen) (k : Facts) → Above s k → Above (views.without_job s) (without_job x k)
  unfolding without_job
  job_above s k w =
      subst (λ f. IsWithin f (without_job x k)) (sym (job_seen x d c s)) (step_grows (certificate x) (certificate x) (Lose (record { vars = job ∷ []; functions = [] })) (seen s) k (below_itself (certificate x)) w)

  joined_above : (s t : Seen) (k l : Facts) → Above s k → Above t l → Above (s ++ t) (meet k l)
  joined_above s t k l w v = subst (λ f. IsWithin f (meet k l)) (sym (joined_seen x d c s t)) (meet_grows (seen s) (seen t) k l w v)

  pub above : Follows x Above
  above = record {
    slot = slot_above;
    gain = gain_above;
    gains = gains_above;
    job = job_above;
    joined = joined_above;
    twice = λ s k l w v. meet_greatest k l (seen s) w v;
    nothing = within_nowhere _;
  }

-- What is required, one thing after the other

module _ {K : Type 0} (a : Asking K) (x : Setting) (Q : Ask → Type 0) where
  nothing_asked : (kept : K) → Asks a x Q kept kept
  unfolding Each
  nothing_asked kept = record { asks = []; each = tt; reached = refl }

  asked_then : (first mid last : K) → Asks a x Q first mid → Asks a x Q mid last → Asks a x Q first last
  asked_then first mid last s t = record {
    asks = s.asks ++ t.asks;
    each = each_join Q s.asks t.asks s.each t.each;
    reached = t.reached ∙ ap (λ k. fold (ask a x) k t.asks) s.reached ∙ sym (fold-append (ask a x) first s.asks t.asks);
  }

  place_asked : (slot : Slot) (f : Fault) (k : Facts) (kept : K) → Q (OfPlace slot f k) → Asks a x Q kept (a.bound x slot f k kept)
  unfolding Each ask
  place_asked slot f k kept q = record { asks = OfPlace slot f k ∷ []; each = (q, tt); reached = refl }

  function_asked : (function : Text) (f : Fault) (names : Names) (kept : K) → Q (OfFunction function f names) → Asks a x Q kept (a.drop x function f names kept)
  unfolding Each ask
  function_asked function f names kept q = record { asks = OfFunction function f names ∷ []; each = (q, tt); reached = refl }

-- what holds of all that is required, if this holds of each constraint and of what is known where
-- something is seen
pub record Judges (x : Setting) (d : Facts) (R : Seen → Facts → Type 0) (E : Constraint → Type 0) (Q : Ask → Type 0) : Type 0 where
  pub place : (slot : Slot) (n : ℕ) (rule : FlowRule) (s : Seen) (k : Facts) → R s k → Each E (bound slot n rule s) → Q (OfPlace slot (fault n rule) k)
  pub view : (slot : Slot) (n : ℕ) (rule : FlowRule) (v : View) → E (Within slot n rule v) → Q (OfPlace slot (fault n rule) (knows x d (v ∷ [])))
  pub loss : (function : Text) (n : ℕ) (l : Loss) → E (Counted function n l) → Q (OfFunction function (fault n F13) (lost d (certificate x) n l))

module _ {K : Type 0} (a : Asking K) (x : Setting) (h : AreNumbered x.names) (d : Facts) (i : ByConstraints K a x d)
    (R : Seen → Facts → Type 0) (E : Constraint → Type 0) (Q : Ask → Type 0) (j : Judges x d R E Q) where
  constraint_asked : (k : Constraint) (kept : K) → E k → Asks a x Q kept (i.all kept (k ∷ []))
  constraint_asked (Within slot n rule v) kept q = subst (Asks a x Q kept) (sym (i.bounded slot n rule (v ∷ []) kept)) (place_asked a x Q slot (fault n rule) (knows x d (v ∷ [])) kept (j.view slot n rule v q))
  constraint_asked (Counted function n l) kept q =
      subst (Asks a x Q kept) (sym (i.counted function n l kept)) (function_asked a x Q function (fault n F13) (lost d (certificate x) n l) kept (j.loss function n l q))

  constraints_asked : (ks : List Constraint) (kept : K) → Each E ks → Asks a x Q kept (i.all kept ks)
  unfolding Each
  constraints_asked [] kept q = subst (Asks a x Q kept) (sym (i.none kept)) (nothing_asked a x Q kept)
  constraints_asked (k ∷ ks) kept q =
      subst (Asks a x Q kept) (sym (i.joined kept (k ∷ []) ks))
      (asked_then a x Q kept (i.all kept (k ∷ [])) _ (constraint_asked k kept q.0) (constraints_asked ks (i.all kept (k ∷ [])) q.1))

  module _ (functions : List Text) where
    parts_asked : (n offset : ℕ) (kind : p.Kind) (rs : p.Redirects) (by : FlowRule) (z : Around) (s : Seen) (k : Facts) (kept : K) → R s k
        → list_all (is_one_of x.names) (prefixes_in (p.command n offset kind rs)) ≡ true
        → Each E (bounds functions (record { command = p.command n offset kind rs; rule = by; around = z; seen = s }))
        → Asks a x Q kept (command_told a x functions kept (met_at (record { command = p.command n offset kind rs; rule = by; around = z; seen = s }) k))
    unfolding bounds command_told
    parts_asked n offset kind rs by z s k kept w named all =
        let y : Entered = record { command = p.command n offset kind rs; rule = by; around = z; seen = s } in
        let before : List Constraint = bound (Before n) n by s in
        let its : List Constraint = r.kind_bounds functions z n (behind_redirects n rs) kind in
        let redirected : List Constraint = r.redirects_bounds n rs in
        let counted : List Constraint = r.counted z.drops n (losses functions y) in
        let last = each_parts E (before ++ its ++ redirected) counted all in
        let third = each_parts E (before ++ its) redirected last.0 in
        let second = each_parts E before its third.0 in
        let one : K = a.bound x (Before n) (fault n by) k kept in
        let two : K = claims_told a x functions z n (commands.redirected x n rs) kind one in
        let three : K = redirects_told a x n (is_redirected rs) two in
        asked_then a x Q kept three _
        (asked_then a x Q kept two three
        (asked_then a x Q kept one two (place_asked a x Q (Before n) (fault n by) k kept (j.place (Before n) n by s k w second.0))
        (subst (Asks a x Q one) (claims_behind a x h d i functions by z s n offset rs kind one) (constraints_asked its one second.1)))
        (subst (Asks a x Q two) (redirects_same a x h d i n rs two) (constraints_asked redirected two third.1)))
        (subst (Asks a x Q three) (counted_same a x h d i functions by z s n offset rs z.drops kind three named) (constraints_asked counted three last.1))

    -- a whole command
    pub command_asked : (y : Entered) (k : Facts) (kept : K) → R y.seen k → has_numbered_prefixes x.names y ≡ true → Each E (bounds functions y)
        → Asks a x Q kept (command_told a x functions kept (met_at y k))
    unfolding has_numbered_prefixes
    command_asked y k kept w named all = by_command y.command y.rule y.around y.seen w named all
      where
        by_command : (m : p.Command) (by : FlowRule) (z : Around) (s : Seen) → R s k → list_all (is_one_of x.names) (prefixes_in m) ≡ true
            → Each E (bounds functions (record { command = m; rule = by; around = z; seen = s }))
            → Asks a x Q kept (command_told a x functions kept (met_at (record { command = m; rule = by; around = z; seen = s }) k))
        by_command (p.command n offset kind rs) by z s w named all = parts_asked n offset kind rs by z s k kept w named all

-- Whatever is known

abbrev Whatever : Seen → Facts → Type 0
Whatever s k = Unit {0}

abbrev Any : Constraint → Type 0
Any k = Unit {0}

anything : (x : Setting) (d : Facts) → Judges x d Whatever Any Anything
anything x d = record { place = λ slot n rule s k w all. tt; view = λ slot n rule v q. tt; loss = λ function n l q. tt }

command_asks : {K : Type 0} (a : Asking K) (x : Setting) (d : Facts) (i : ByConstraints K a x d) (functions : List Text) → AreNumbered x.names
    → (y : Entered) (k : Facts) (kept : K) → has_numbered_prefixes x.names y ≡ true → Asks a x Anything kept (command_told a x functions kept (met_at y k))
command_asks a x d i functions h y k kept named =
    command_asked a x h d i Whatever Any Anything (anything x d) functions y k kept tt named (each_of_all (λ k. tt) _)

-- What a certificate below allows

module _ (x : Setting) (h : AreNumbered x.names) (d : Facts) (c : Certificate) (below : IsBelow c (certificate x)) where
  abbrev Unbroken : Constraint → Type 0
  Unbroken k = broken d c k ≡ []

  -- what is claimed where it is entered is within all that is seen there
  entered_within : (slot : Slot) (n : ℕ) (rule : FlowRule) (s : Seen) → Each Unbroken (bound slot n rule s) → IsWithin (facts (c.claim slot)) (seen_facts d c s)
  unfolding seen_facts broken Each
  entered_within slot n rule [] all = within_nowhere _
  entered_within slot n rule (v ∷ s) all =
      meet_greatest _ _ _ ((within_test (c.claim slot) (view_facts d c v)).0 (told_none _ n rule all.0)) (entered_within slot n rule s all.1)

  pub place_allowed : (slot : Slot) (n : ℕ) (rule : FlowRule) (s : Seen) (k : Facts) → Above x h d c below s k → Each Unbroken (bound slot n rule s) → Allows x.names c (OfPlace slot (fault n rule) k)
  unfolding Allows
  place_allowed slot n rule s k w all = within_through _ (sees x.names d c s) _ (among_grows x.names _ _ (entered_within slot n rule s all)) w

  pub view_allowed : (slot : Slot) (n : ℕ) (rule : FlowRule) (v : View) → Unbroken (Within slot n rule v) → Allows x.names c (OfPlace slot (fault n rule) (knows x d (v ∷ [])))
  unfolding Allows Fits knows seen_facts
  view_allowed slot n rule v none =
      let fits : IsWithin (facts (c.claim slot)) (view_facts d (certificate x) v) = fits_below d c (certificate x) (Within slot n rule v) below none in
      subst (IsWithin (among x.names (facts (c.claim slot)))) (ap (among x.names) (sym (meet_last (view_facts d (certificate x) v)))) (among_grows x.names _ _ fits)

  pub loss_allowed : (function : Text) (n : ℕ) (l : Loss) → Unbroken (Counted function n l) → Allows x.names c (OfFunction function (fault n F13) (lost d (certificate x) n l))
  unfolding Allows Fits
  loss_allowed function n l none = fits_below d c (certificate x) (Counted function n l) below none

  allowed : Judges x d (Above x h d c below) Unbroken (Allows x.names c)
  allowed = record { place = place_allowed; view = view_allowed; loss = loss_allowed }

  command_allowed : {K : Type 0} (a : Asking K) (i : ByConstraints K a x d) (functions : List Text) (y : Entered) (k : Facts) (kept : K)
      → has_numbered_prefixes x.names y ≡ true → Above x h d c below y.seen k → KeepsThere d c functions (y ∷ [])
      → Asks a x (Allows x.names c) kept (command_told a x functions kept (met_at y k))
  command_allowed a i functions y k kept named w none =
      command_asked a x h d i (Above x h d c below) Unbroken (Allows x.names c) allowed functions y k kept w named
      (subst (Each Unbroken) (append-nil (bounds functions y)) (each_none (broken d c) _ none))

sees_start : (names : List Text) (d : Facts) (c : Certificate) → SeesWithin names d c (Both at_start) (both (among names d))
unfolding if_zero if_nonzero
sees_start names d c =
    let same = subst (λ f. IsWithin f (among names d)) (start_sees names d c) (within_itself (among names d)) in
    record { zero = same; nonzero = same }

pub stays_above : {K : Type 0} (a : Asking K) → StaysAbove K a
stays_above a = record {
  start = sees_start;
  asks = λ x d i functions h y k kept named. command_asks a x d i functions h y k kept named;
  allows = λ x d i functions c h below y k kept named w none. command_allowed x h d c below a i functions y k kept named w none;
}
