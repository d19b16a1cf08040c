-- What a call needs and leaves: where the function is entered, what its caller keeps, and what is
-- claimed after it.
use Rattle.std.proofs.Common.{◌≡◌, ℕ, ◌≤◌, ◌==◌, Bool, true, false, not, ◌&&◌, ◌||◌, if◌then◌else◌, List, [], ◌∷◌, length, filter, bytes_eq, inl, inr, refl, sym, ap, ◌∙◌, subst, arith, true≢false}
use Rattle.std.specs.List.{list_all}
use Rattle.std.proofs.lemmas.Bool.{and_from, and_parts, or_cases, or_left, or_right}
use Rattle.std.proofs.lemmas.Map.Views.{any-filter_same}
use Rattle.std.proofs.lemmas.Slice.Eq.{bytes_eq-Decides}
use Rattle.sh_tree.specs.standard.program.Syntax as p
use Rattle.sh_tree.specs.standard.program.Syntax.{Text, Word}
use Rattle.sh_tree.specs.standard.program.Words.{operands_in}
use Rattle.sh_tree.proofs.ListLemmas.{text_same}
use Rattle.sh_runs.specs.standard.runs.Builtins.{restored}
use Rattle.sh_runs.specs.standard.runs.Environment.{Environment, Frame, is_one_of}
use Rattle.sh_runs.specs.standard.runs.Work.{Saved}
use Rattle.sh_domain.specs.Entries.{Around}
use Rattle.sh_domain.specs.Facts.{Facts, NotReached, Known, Variable, claims, facts}
use Rattle.sh_domain.specs.Faults.{are_among}
use Rattle.sh_domain.specs.Gains.{Gains, named, with_gains, words_gains, job}
use Rattle.sh_domain.specs.Inclusions as i
use Rattle.sh_domain.specs.Inclusions.{MayDrop, BodyRules, CallRules, behind}
use Rattle.sh_domain.specs.Operands.{Names, Total, total}
use Rattle.sh_domain.specs.Rules.{losses_by, builtin_losses}
use Rattle.sh_domain.specs.Table as table
use Rattle.sh_domain.specs.Table.{prefixes}
use Rattle.sh_domain.specs.Views as views
use Rattle.sh_domain.specs.Views.{Certificate, Slot, Before, AfterZero, AfterNonzero, Entry, ReturnsZero, ReturnsNonzero, Lose, Count, Call, After, if_zero, if_nonzero, after_command, at, gaining_names, stepped, where_known, counted_by, passes, returned, called, step, steps, source_facts, where_reached, lost}
use Rattle.sh_sound.specs.Holding.{Holds, Has, OneHolds, Leads}
use Rattle.sh_sound.specs.Going.{number_of, unset_before, Apart, after_function, ReturnAt}
use Rattle.sh_sound.specs.Doing.{behind_facts, parameters, RulesAt}
use Rattle.sh_sound.proofs.HoldLemmas.{each_right, covers_at, holds_at, gain_holds, holds_gain, has_gain, leads_each}
use Rattle.sh_sound.proofs.MannerLemmas.{rules_by, losses_at}
use Rattle.sh_sound.proofs.DropLemmas.{Spares, unset_names, restored_spares, drops_fewer}

-- a test that holds at each of these holds of all
all_of : (test : Text → Bool) (xs : List Text) → ((t : Text) → is_one_of xs t ≡ true → test t ≡ true) → list_all test xs ≡ true
all_of test [] h = refl
all_of test (x ∷ xs) h =
    and_from (test x) (list_all test xs) (h x (or_left (bytes_eq x x) (is_one_of xs x) (text_same x))) (all_of test xs (λ t k. h t (or_right (bytes_eq x t) (is_one_of xs t) k)))

-- one of these that passes a test is one of those that pass it
pub passing_one : (test : Text → Bool) (xs : List Text) (t : Text) → is_one_of xs t ≡ true → test t ≡ true → is_one_of (filter test xs) t ≡ true
passing_one test xs t h k =
    any-filter_same (λ n. bytes_eq n t) test (test t) (λ n same. ap test ((bytes_eq-Decides n t).0 same)) xs ∙ and_from (test t) (is_one_of xs t) k h

-- What the caller keeps

-- facts without the names that the function may drop
abbrev pub kept_facts : Certificate → Text → Facts → Facts
kept_facts c f x = step c (Lose (c.drops f)) x

pub lose_holds : (c : Certificate) (names : Names) (x : Facts) (e : Environment) (f : Frame) → Holds x e f → Holds (step c (Lose names) x) e f
unfolding Holds step where_known
lose_holds c names NotReached e f h = h
lose_holds c names (Known v g n) e f h = record {
  variables = λ t i s. h.variables t i (and_parts (v t) (not (is_one_of names.vars t)) s).0;
  job = λ s. h.job (and_parts (v job) (not (is_one_of names.vars job)) s).0;
  functions = λ t i s. h.functions t i (and_parts (g t) (not (is_one_of names.functions t)) s).0;
  parameters = h.parameters;
}

without : (a b : Bool) → b ≡ true → (a && not b) ≡ false
without true b h = rw h refl
without false b h = refl

lose_apart : (c : Certificate) (names : Names) (x : Facts) → Apart (step c (Lose names) x) names
unfolding Apart step where_known
lose_apart c names NotReached = tt
lose_apart c names (Known v g n) = (λ t h. without (v t) (is_one_of names.vars t) h, λ t h. without (g t) (is_one_of names.functions t) h)

-- the names that were not set before the assignments are not claimed
pub unclaimed_apart : (x : Facts) (saved : Saved) → ((t : Text) → is_one_of (unset_before saved) t ≡ true → claims x (Variable t) ≡ false) → Apart x (unset_names saved)
unfolding Apart claims
unclaimed_apart NotReached saved h = tt
unclaimed_apart (Known v g n) saved h = (h, λ t k. cc)

-- After the call

not_both : (a : Bool) → a ≡ true → a ≡ false → ⊥
not_both a h k = true≢false (sym h ∙ k)

-- what the function leaves and what the caller keeps, whichever of the prefix assignments are put
-- back
called_holds : (drops : Names) (names : List Text) (f : Text) (b r : Facts) (saved : Saved)
    → ((t : Text) → is_one_of (unset_before saved) t ≡ true → is_one_of names t ≡ true) → ((t : Text) → is_one_of (unset_before saved) t ≡ true → claims b (Variable t) ≡ false)
    → (restores : ℕ → Bool) (e : Environment) (inner outer : Frame) (c : Certificate) → Holds r e inner → Holds (step c (Lose drops) b) e outer → Holds (called drops r f names b) (restored restores 0 e saved) outer
unfolding Holds step where_known claims returned called
called_holds drops names f NotReached r saved among unclaimed restores e inner outer c h k = absurd k
called_holds drops names f (Known v g n) r saved among unclaimed restores e inner outer c h k = go (g f) r h
  where
    now : Environment
    now = restored restores 0 e saved

    spares : Spares (unset_names saved) e now
    spares = restored_spares restores 0 e saved

    -- a name that was claimed, or that is no prefix, was set before
    stays : (t : Text) → (v t || not (is_one_of names t)) ≡ true → is_one_of (unset_before saved) t ≡ false
    stays t s = by (is_one_of (unset_before saved) t) refl
      where
        by : (x : Bool) → is_one_of (unset_before saved) t ≡ x → is_one_of (unset_before saved) t ≡ false
        by false e = e
        by true e = elim (or_cases (v t) (not (is_one_of names t)) s) [
          | inl l ↦ absurd (not_both (v t) l (unclaimed t e))
          | inr r ↦ absurd (not_both (not (is_one_of names t)) r (rw (among t e) refl))
        ]

    go : (x : Bool) (r : Facts) → Holds r e inner
        → Holds (if x then returned drops names r v g n else Known (λ t. views.kept drops.vars v t && passes f t) (λ t. views.kept drops.functions g t) n) now outer
    go true NotReached h = absurd h
    go true (Known w q m) h = record {
      variables = λ t i s.
          let both = and_parts (views.kept drops.vars v t || w t) (v t || not (is_one_of names t)) s in
          spares.variables t i (stays t both.1) (elim (or_cases (views.kept drops.vars v t) (w t) both.0) [ inl l ↦ k.variables t i l | inr r ↦ h.variables t i r ]);
      job = λ s.
          let both = and_parts (views.kept drops.vars v job || w job) (v job || not (is_one_of names job)) s in
          spares.job (elim (or_cases (views.kept drops.vars v job) (w job) both.0) [ inl l ↦ k.job l | inr r ↦ h.job r ]);
      functions = λ t i s. spares.functions t i refl (elim (or_cases (views.kept drops.functions g t) (q t) s) [ inl l ↦ k.functions t i l | inr r ↦ h.functions t i r ]);
      parameters = k.parameters;
    }
    go false r h = record {
      variables = λ t i s.
          let l = (and_parts (views.kept drops.vars v t) (passes f t) s).0 in
          spares.variables t i (stays t (or_left (v t) (not (is_one_of names t)) (and_parts (v t) (not (is_one_of drops.vars t)) l).0)) (k.variables t i l);
      job = λ s. spares.job (k.job (and_parts (views.kept drops.vars v job) (passes f job) s).0);
      functions = λ t i s. spares.functions t i refl (k.functions t i s);
      parameters = k.parameters;
    }

-- Where the function is entered

pub counted_holds : (c : Certificate) (n : Total) (x : Facts) (e : Environment) (f g : Frame) → Holds x e f → counted_by n (parameters x) ≤ length g → Holds (step c (Count n) x) e g
unfolding Holds step where_known parameters
counted_holds c n NotReached e f g h l = absurd h
counted_holds c n (Known v q a) e f g h l = record { variables = h.variables; job = h.job; functions = h.functions; parameters = l }

-- a run comes there
pub reached_same : (g : Gains) (x : Facts) (names : Names) (e : Environment) (f : Frame) → Holds (with_gains g x) e f → where_reached x names ≡ names
unfolding Holds with_gains where_reached
reached_same g NotReached names e f h = absurd h
reached_same g (Known v q a) names e f h = refl

module _ (d : Facts) (c : Certificate) (defined : List Text) where
  -- after the words one view is seen
  pub behind_known : (n : ℕ) (es : p.Elements) (e : Environment) (f : Frame) → OneHolds d c (behind d c n es) e f → Holds (behind_facts c n es) e f
  unfolding OneHolds steps step source_facts
  behind_known n es e f (inl h) = h
  behind_known n es e f (inr h) = absurd h

  pub known_behind : (n : ℕ) (es : p.Elements) (e : Environment) (f : Frame) → Holds (behind_facts c n es) e f → OneHolds d c (behind d c n es) e f
  unfolding OneHolds steps step source_facts
  known_behind n es e f h = inl h

  pub known_stepped : (x : views.Step) (n : ℕ) (es : p.Elements) (e : Environment) (f : Frame) → Holds (step c x (behind_facts c n es)) e f → OneHolds d c (stepped x (behind d c n es)) e f
  unfolding OneHolds steps step source_facts
  known_stepped x n es e f h = inl h

  module _ (x : Around) (n : ℕ) (es : p.Elements) (t : Text) (words : List Word) (rules : RulesAt d c defined x n es) (calls : table.manner defined es ≡ table.Call t words) where
    pub call_rules : CallRules d c n es t words
    unfolding i.SimpleRules
    call_rules = rules_by d c defined x n es (table.Call t words) rules calls

    losses : i.Each (λ l. MayDrop d c x (lost d c n l)) (losses_by defined es (behind d c n es) (table.Call t words))
    losses = losses_at d c defined x n es (table.Call t words) rules calls

    -- what the function drops
    function_drops : (e : Environment) (f : Frame) → Holds (behind_facts c n es) e f → MayDrop d c x (c.drops t)
    unfolding losses_by lost i.Each
    function_drops e f h = subst (MayDrop d c x) (reached_same (words_gains (operands_in es)) (facts (c.claim (Before n))) (c.drops t) e f h) losses.0

    -- the names that are not claimed after the words
    abbrev unseen : List Text
    unseen = filter (λ u. not (claims (behind_facts c n es) (Variable u))) (prefixes es)

    prefixes_drop : MayDrop d c x (record { vars = unseen; functions = [] })
    unfolding losses_by lost i.Each steps step source_facts
    prefixes_drop = (each_right (λ l. MayDrop d c x (lost d c n l)) (builtin_losses t) _ losses.1).0

    pub unset_drop : (saved : Saved) → ((u : Text) → is_one_of (unset_before saved) u ≡ true → is_one_of (prefixes es) u ≡ true)
        → ((u : Text) → is_one_of (unset_before saved) u ≡ true → claims (behind_facts c n es) (Variable u) ≡ false) → MayDrop d c x (unset_names saved)
    unfolding are_among
    unset_drop saved among unclaimed =
        drops_fewer d c x (unset_names saved) (record { vars = unseen; functions = [] })
        (and_from (list_all (is_one_of unseen) (unset_before saved)) true
        (all_of (is_one_of unseen) (unset_before saved) (λ u k. passing_one (λ v. not (claims (behind_facts c n es) (Variable v))) (prefixes es) u (among u k) (rw (unclaimed u k) refl)))
        refl)
        prefixes_drop

    -- what is claimed after the call
    pub call_returns : (saved : Saved) → ((u : Text) → is_one_of (unset_before saved) u ≡ true → is_one_of (prefixes es) u ≡ true)
        → ((u : Text) → is_one_of (unset_before saved) u ≡ true → claims (behind_facts c n es) (Variable u) ≡ false) → (e : Environment) (f : Frame) → Holds (behind_facts c n es) e f
        → ReturnAt d c defined x n t saved (kept_facts c t (behind_facts c n es))
    unfolding step if_zero if_nonzero
    call_returns saved among unclaimed e f h = record {
      comes = λ restores status now inner outer k l. comes restores now inner outer l (status == 0) k;
      apart = lose_apart c (c.drops t) (behind_facts c n es);
      dropped = function_drops e f h;
      unset = unset_drop saved among unclaimed;
    }
      where
        holds : (restores : ℕ → Bool) (now : Environment) (inner outer : Frame) → Holds (kept_facts c t (behind_facts c n es)) now outer → (slot : Slot) → OneHolds d c (at slot) now inner
            → OneHolds d c (stepped (Call t slot (prefixes es)) (behind d c n es)) (restored restores 0 now saved) outer
        holds restores now inner outer l slot k =
            known_stepped (Call t slot (prefixes es)) n es (restored restores 0 now saved) outer
            (called_holds (c.drops t) (prefixes es) t (behind_facts c n es) (facts (c.claim slot)) saved among unclaimed restores now inner outer c (holds_at d c slot now inner k) l)

        comes : (restores : ℕ → Bool) (now : Environment) (inner outer : Frame) → Holds (kept_facts c t (behind_facts c n es)) now outer → (b : Bool)
            → OneHolds d c (if b then at (ReturnsZero t) else at (ReturnsNonzero t)) now inner → OneHolds d c (if b then at (AfterZero n) else at (AfterNonzero n)) (restored restores 0 now saved) outer
        comes restores now inner outer l true k = covers_at d c (AfterZero n) _ call_rules.zero (restored restores 0 now saved) outer (holds restores now inner outer l (ReturnsZero t) k)
        comes restores now inner outer l false k = covers_at d c (AfterNonzero n) _ call_rules.nonzero (restored restores 0 now saved) outer (holds restores now inner outer l (ReturnsNonzero t) k)

    -- the function is entered with the operands as its frame
    pub call_enters : (e : Environment) (f ts : Frame) → OneHolds d c (gaining_names (prefixes es) (behind d c n es)) e f → counted_by (total words) (parameters (behind_facts c n es)) ≤ length ts → OneHolds d c (at (Entry t)) e ts
    call_enters e f ts h l =
        let has : Has (named (prefixes es)) e f = has_gain d c (named (prefixes es)) (behind d c n es) e f h in
        let known = behind_known n es e f (holds_gain d c (named (prefixes es)) (behind d c n es) e f h) in
        covers_at d c (Entry t) _ call_rules.entry e ts
        (gain_holds d c (named (prefixes es)) (stepped (Count (total words)) (behind d c n es)) e ts
        (record { variables = has.variables; job = has.job; functions = λ u i s. cc; parameters = omega arith })
        (known_stepped (Count (total words)) n es e ts (counted_holds c (total words) (behind_facts c n es) e f ts known l)))

  -- the body of a function is where it returns
  pub body_returns : (t : Text) (body : p.Command) → BodyRules d c t body → Leads d c (after_command (number_of body)) (after_function t)
  unfolding i.BodyRules number_of if_zero if_nonzero
  body_returns t (p.command m offset kind rs) h =
      leads_each d c (after_command m) (after_function t) (covers_at d c (ReturnsZero t) (at (AfterZero m)) h.0) (covers_at d c (ReturnsNonzero t) (at (AfterNonzero m)) h.1)
