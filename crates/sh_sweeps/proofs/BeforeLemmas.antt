-- Where a command is entered, a certificate that keeps the rules claims no more than is known
-- there.
use Rattle.std.proofs.Common.{◌≡◌, ℕ, ◌-◌, Option, Some, None, List, [], ◌∷◌, ◌++◌, nat_lt, Bool, true, false, if◌then◌else◌, sym, ap, ◌∙◌, subst, true≢false, is_some, option_map, unwrap_or, refl, IfSome}
use Rattle.sh_tree.specs.declared.tree.Command.{Command, out-Command}
use Rattle.sh_tree.specs.declared.tree.Script.{Script}
use Rattle.sh_tree.specs.standard.program.Syntax as p
use Rattle.sh_tree.specs.standard.program.Syntax.{Text}
use Rattle.sh_tree.specs.standard.program.Trees as trees
use Rattle.sh_tree.proofs.ProgramRules as rules
use Rattle.sh_domain.specs.Filled.{is_stated}
use Rattle.sh_domain.specs.declared.rule.FlowRule.{FlowRule}
use Rattle.sh_domain.specs.declared.rule.FlowRule.TheVariants.{F4, F5, F6, F13}
use Rattle.sh_domain.specs.Entries.{Around, Entered, behind_redirects, command_entered, items_after, otherwise_seen}
use Rattle.sh_domain.specs.Facts.{Facts, facts}
use Rattle.sh_domain.specs.Faults.{broken}
use Rattle.sh_domain.specs.Inclusions.{Each}
use Rattle.sh_domain.specs.Knowledge.{among}
use Rattle.sh_domain.specs.Order.{IsWithin, seen_facts}
use Rattle.sh_domain.specs.Reading.{claim_fits}
use Rattle.sh_domain.specs.Rules as r
use Rattle.sh_domain.specs.Rules.{Constraint, bound, bounds, losses}
use Rattle.sh_domain.specs.Sheets.{Sheet}
use Rattle.sh_domain.specs.Table.{Nameless, Utility, after_nameless, after_utility, assignments_gains, behind_words, is_redirected, manner}
use Rattle.sh_runs.specs.declared.kind.Kind.TheVariants as kind
use Rattle.sh_tree.specs.Lists.{branches_from, elements_from, otherwise_from, redirects_from}
use Rattle.sh_tree.specs.standard.Words.{elements_of}
use Rattle.sh_tree.specs.standard.program.Words.{redirects_in}
use Rattle.sh_domain.specs.Views as views
use Rattle.sh_domain.specs.Views.{After, AfterNonzero, AfterZero, Certificate, ReturnsNonzero, ReturnsZero, Seen, Slot, gaining, view_facts}
use Rattle.sh_domain.proofs.EachLemmas.{each_parts}
use Rattle.sh_domain.proofs.MonotoneLemmas.{told_none}
use Rattle.sh_domain.proofs.OrderLemmas.{meet_first, meet_greatest, within_nowhere, within_test, within_through}
use Rattle.sh_rules.specs.Behind.{Behind}
use Rattle.sh_rules.specs.Meaning.{sees}
use Rattle.sh_rules.proofs.AboveLemmas.{among_grows}
use Rattle.sh_domain.specs.Admitted.{IsAdmitted, claims_in, functions_in}
use Rattle.sh_drafts.specs.declared.place.Part.TheVariants.{Before, Nonzero, Zero}
use Rattle.sh_drafts.specs.declared.place.Place.{Place}
use Rattle.sh_drafts.specs.declared.spot.Spot.{Spot}
use Rattle.sh_drafts.specs.declared.subject.Subject.{Subject}
use Rattle.sh_drafts.specs.Gathered.{fitting, fitting_place}
use Rattle.sh_drafts.specs.Places.{at, claim_there, place_of}
use Rattle.sh_drafts.specs.Spots.{place_at}
use Rattle.sh_drafts.specs.Stated.{is_asked, is_free}
use Rattle.sh_sweeps.specs.Plain.{IsAssigning, IsPlain}
use Rattle.sh_sweeps.specs.Sweeps.{AreBranches, AreKept, ClaimsWithin, IsCommand, IsInside, IsLeft, IsPart, Knows, KnowsBehind}
use Rattle.sh_drafts.specs.Ready.{Keeps}
use Rattle.sh_drafts.specs.Starts.{start_of}
use Rattle.sh_drafts.proofs.GatherLemmas.{claim_among}
use Rattle.sh_sweeps.proofs.MetLemmas.{KeepsAsked, keeps_here}
use Rattle.sh_sweeps.proofs.PlacedLemmas.{own_of}
use Rattle.sh_drafts.proofs.SheetLemmas.{placed}

-- By the rules of a command

free_before : (stated : Bool) (n : ℕ) → is_free stated (views.Before n) ≡ true
unfolding is_free is_stated
free_before true n = refl
free_before false n = refl

free_slot : (stated : Bool) (slot : Slot) → stated ≡ false → is_free stated slot ≡ true
unfolding is_free
free_slot true slot e = absurd (true≢false e)
free_slot false slot e = refl

module _ (stated : Bool) (d : Facts) (c : Certificate) where
  abbrev Unbroken : Constraint → Type 0
  Unbroken k = is_asked stated k ≡ true → broken d c k ≡ []

  entered_within : (slot : Slot) (n : ℕ) (rule : FlowRule) (q : Seen) → is_free stated slot ≡ true → Each Unbroken (bound slot n rule q) → IsWithin (facts (c.claim slot)) (seen_facts d c q)
  unfolding seen_facts broken Each is_asked
  entered_within slot n rule [] free all = within_nowhere _
  entered_within slot n rule (v ∷ q) free all =
      meet_greatest _ _ _ ((within_test (c.claim slot) (view_facts d c v)).0 (told_none _ n rule (all.0 free))) (entered_within slot n rule q free all.1)

  -- where it is entered, and by its kind
  parts_of : (functions : List Text) (n offset : ℕ) (kind : p.Kind) (rs : p.Redirects) (by : FlowRule) (y : Around) (q : Seen)
      → Each Unbroken (bounds functions (record { command = p.command n offset kind rs; rule = by; around = y; seen = q }))
      → Each Unbroken (bound (views.Before n) n by q) × Each Unbroken (r.kind_bounds functions y n (behind_redirects n rs) kind)
  unfolding bounds
  parts_of functions n offset kind rs by y q all =
      let e : Entered = record { command = p.command n offset kind rs; rule = by; around = y; seen = q } in
      let before : List Constraint = bound (views.Before n) n by q in
      let its : List Constraint = r.kind_bounds functions y n (behind_redirects n rs) kind in
      let redirected : List Constraint = r.redirects_bounds n rs in
      let counted : List Constraint = r.counted y.drops n (losses functions e) in
      let last = each_parts Unbroken (before ++ its ++ redirected) counted all in
      let third = each_parts Unbroken (before ++ its) redirected last.0 in
      each_parts Unbroken before its third.0

  own_within : (functions : List Text) (n offset : ℕ) (kind : p.Kind) (rs : p.Redirects) (by : FlowRule) (y : Around) (q : Seen)
      → Each Unbroken (bounds functions (record { command = p.command n offset kind rs; rule = by; around = y; seen = q }))
      → IsWithin (facts (c.claim (views.Before n))) (seen_facts d c q)
  own_within functions n offset kind rs by y q none = entered_within (views.Before n) n by q (free_before stated n) (parts_of functions n offset kind rs by y q none).0

  -- after a utility that leaves what is known after its words
  free_after : (n : ℕ) → (is_free stated (AfterZero n) ≡ true) × (is_free stated (AfterNonzero n) ≡ true)
  unfolding is_free is_stated
  free_after n = go stated
    where
      go : (b : Bool) → (is_free b (AfterZero n) ≡ true) × (is_free b (AfterNonzero n) ≡ true)
      go true = (refl, refl)
      go false = (refl, refl)

  utility_within : (functions : List Text) (y : Around) (n : ℕ) (q : Seen) (es : p.Elements) (ws : List p.Word) → manner functions es ≡ Utility kind.Utility ws
      → Each Unbroken (r.kind_bounds functions y n q (p.Simple es))
      → IsWithin (facts (c.claim (AfterZero n))) (seen_facts d c (behind_words es (views.at (views.Before n)))) × IsWithin (facts (c.claim (AfterNonzero n))) (seen_facts d c (behind_words es (views.at (views.Before n))))
  unfolding r.kind_bounds r.simple_bounds after_utility r.jumps views.if_zero views.if_nonzero
  utility_within functions y n q es ws named all =
      let seen : Seen = behind_words es (views.at (views.Before n)) in
      let zero : List Constraint = bound (AfterZero n) n F4 seen in
      let nonzero : List Constraint = bound (AfterNonzero n) n F4 seen in
      let told : Each Unbroken ((zero ++ nonzero) ++ []) = subst (λ m. Each Unbroken (r.simple_bounds y n es m)) named all in
      let both = each_parts Unbroken zero nonzero (each_parts Unbroken (zero ++ nonzero) [] told).0 in
      (entered_within (AfterZero n) n F4 seen (free_after n).0 both.0, entered_within (AfterNonzero n) n F4 seen (free_after n).1 both.1)

  assigned_within : (functions : List Text) (y : Around) (n : ℕ) (q : Seen) (es : p.Elements) → manner functions es ≡ Nameless → is_redirected (redirects_in es) ≡ false
      → Each Unbroken (r.kind_bounds functions y n q (p.Simple es))
      → IsWithin (facts (c.claim (AfterZero n))) (seen_facts d c (gaining (assignments_gains es) (behind_words es (views.at (views.Before n)))))
      × IsWithin (facts (c.claim (AfterNonzero n))) (seen_facts d c (gaining (assignments_gains es) (behind_words es (views.at (views.Before n)))))
  unfolding r.kind_bounds r.simple_bounds after_nameless views.if_zero views.if_nonzero
  assigned_within functions y n q es named redirected all =
      let behind : Seen = behind_words es (views.at (views.Before n)) in
      let settled : Seen = gaining (assignments_gains es) behind in
      let told : Each Unbroken (bound (AfterZero n) n F5 settled ++ bound (AfterNonzero n) n F5 (if is_redirected (redirects_in es) then behind else settled)) =
      subst (λ m. Each Unbroken (r.simple_bounds y n es m)) named all in
      let both =
      each_parts Unbroken (bound (AfterZero n) n F5 settled) (bound (AfterNonzero n) n F5 settled)
      (subst (λ b. Each Unbroken (bound (AfterZero n) n F5 settled ++ bound (AfterNonzero n) n F5 (if b then behind else settled))) redirected told) in
      (entered_within (AfterZero n) n F5 settled (free_after n).0 both.0, entered_within (AfterNonzero n) n F5 settled (free_after n).1 both.1)

  -- where a function returns, after its body
  body_within : (f : Text) (m offset : ℕ) (kind : p.Kind) (rs : p.Redirects) → stated ≡ false → Each Unbroken (r.body_bounds f (p.command m offset kind rs))
      → IsWithin (facts (c.claim (ReturnsZero f))) (seen_facts d c (views.at (AfterZero m))) × IsWithin (facts (c.claim (ReturnsNonzero f))) (seen_facts d c (views.at (AfterNonzero m)))
  unfolding r.body_bounds
  body_within f m offset kind rs unstated all =
      let both = each_parts Unbroken (bound (ReturnsZero f) m F13 (views.at (AfterZero m))) (bound (ReturnsNonzero f) m F13 (views.at (AfterNonzero m))) all in
      (entered_within (ReturnsZero f) m F13 (views.at (AfterZero m)) (free_slot stated (ReturnsZero f) unstated) both.0, entered_within (ReturnsNonzero f) m F13 (views.at (AfterNonzero m)) (free_slot stated (ReturnsNonzero f) unstated) both.1)

  defined_within : (functions : List Text) (y : Around) (n : ℕ) (q : Seen) (f : Text) (m offset : ℕ) (kind : p.Kind) (rs : p.Redirects)
      → stated ≡ false → Each Unbroken (r.kind_bounds functions y n q (p.Define f (p.command m offset kind rs)))
      → IsWithin (facts (c.claim (ReturnsZero f))) (seen_facts d c (views.at (AfterZero m))) × IsWithin (facts (c.claim (ReturnsNonzero f))) (seen_facts d c (views.at (AfterNonzero m)))
  unfolding r.kind_bounds
  defined_within functions y n q f m offset kind rs unstated all = body_within f m offset kind rs unstated (each_parts Unbroken (bound (AfterZero n) n F13 (views.stepped (views.Define f) (views.at (views.Before n)))) (r.body_bounds f (p.command m offset kind rs)) all).1

-- Of a script that is admitted

module _ (s : Subject) (admitted : IsAdmitted s.script.now s.policy.now s.tree.now s.names.now) (other : Sheet) (keeps : Keeps s other) where
  abbrev claims : Certificate
  claims = claims_in s.script.now s.tree.now other

  abbrev functions : List Text
  functions = functions_in s.script.now s.tree.now

  slot_within : (slot : Slot) (q : Seen) (k : Facts) → IsWithin (facts (claims.claim slot)) (seen_facts (start_of s) claims q) → Knows s q k → IsWithin (facts (claim_there other (place_of functions slot))) k
  slot_within slot q k within knows =
      let there : claims.claim slot ≡ claim_there other (place_of functions slot) = placed functions other slot in
      let named : among s.names.now (facts (claims.claim slot)) ≡ facts (claims.claim slot) =
      claim_among s.names.now _ (ap (claim_fits s.names.now) there ∙ keeps.fit (place_of functions slot)) in
      subst (λ a. IsWithin (facts a) k) there
      (within_through _ (sees s.names.now (start_of s) claims q) _
      (subst (λ f. IsWithin f (sees s.names.now (start_of s) claims q)) named (among_grows s.names.now _ _ within))
      (knows other keeps))

  kept_there : (by : FlowRule) (y : Around) (q : Seen) (m : p.Command) → IsPart s (command_entered by y q m) → KeepsAsked s admitted other (record { command = m; rule = by; around = y; seen = q })
  unfolding Each
  kept_there by y q m part = (keeps_here s admitted (record { command = m; rule = by; around = y; seen = q } ∷ []) (own_of s by y q m part) other keeps).0

module _ (s : Subject) (admitted : IsAdmitted s.script.now s.policy.now s.tree.now s.names.now) where
  pub before_within : (by : FlowRule) (y : Around) (k : Facts) (c : Command) (here : IsCommand s by y k c) → ClaimsWithin s Before (out-Command c).number k
  unfolding place_of
  before_within by y k c here other keeps =
      slot_within s admitted other keeps (views.Before (out-Command c).number) here.seen k
      (own_within s.stated (start_of s) (claims s admitted other keeps) (functions s admitted other keeps) _ _ _ _ by y here.seen
      (subst (λ m. KeepsAsked s admitted other (record { command = m; rule = by; around = y; seen = here.seen })) (rules.command_of-out s.script.now c)
      (kept_there s admitted other keeps by y here.seen (trees.command_of s.script.now c) here.part)))
      here.knows

  -- what is known there
  slot_knows : (slot : Slot) (q : Seen) (k : Facts) → ((other : Sheet) (keeps : Keeps s other) → IsWithin (facts ((claims s admitted other keeps).claim slot)) (seen_facts (start_of s) (claims s admitted other keeps) q))
      → Knows s q k → Knows s (views.at slot) k
  unfolding seen_facts views.steps views.source_facts
  slot_knows slot q k within knows other keeps =
      let c : Certificate = claims s admitted other keeps in
      within_through (sees s.names.now (start_of s) c (views.at slot)) (sees s.names.now (start_of s) c q) k
      (among_grows s.names.now (seen_facts (start_of s) c (views.at slot)) (seen_facts (start_of s) c q) (within_through _ (facts (c.claim slot)) _ (meet_first (facts (c.claim slot)) _) (within other keeps)))
      (knows other keeps)

  -- after a simple command that leaves what is known after its words, or assignments alone
  module _ (by : FlowRule) (y : Around) (k : Facts) (c : Command) (here : IsCommand s by y k c) where
    abbrev n : ℕ
    n = (out-Command c).number

    abbrev es : p.Elements
    es = elements_from s.script.now (elements_of (out-Command c).kind)

    abbrev rs : p.Redirects
    rs = redirects_from s.script.now (out-Command c).redirects

    abbrev Left : Seen → Type 0
    Left q =
        (other : Sheet) (keeps : Keeps s other)
        → IsWithin (facts ((claims s admitted other keeps).claim (AfterZero n))) (seen_facts (start_of s) (claims s admitted other keeps) q)
        × IsWithin (facts ((claims s admitted other keeps).claim (AfterNonzero n))) (seen_facts (start_of s) (claims s admitted other keeps) q)

    module _ (simple : trees.kind_of s.script.now (out-Command c).kind ≡ p.Simple es) where
      simple_rules : (other : Sheet) (keeps : Keeps s other)
          → Each (Unbroken s.stated (start_of s) (claims s admitted other keeps)) (bounds (functions s admitted other keeps) (record { command = p.command n (out-Command c).at (p.Simple es) rs; rule = by; around = y; seen = here.seen }))
      simple_rules other keeps =
          let same : trees.command_of s.script.now c ≡ p.command n (out-Command c).at (p.Simple es) rs =
          rules.command_of-out s.script.now c ∙ ap (λ m. p.command n (out-Command c).at m rs) simple in
          subst (λ m. KeepsAsked s admitted other (record { command = m; rule = by; around = y; seen = here.seen })) same
          (kept_there s admitted other keeps by y here.seen (trees.command_of s.script.now c) here.part)

      kind_rules : (other : Sheet) (keeps : Keeps s other)
          → Each (Unbroken s.stated (start_of s) (claims s admitted other keeps)) (r.kind_bounds (functions s admitted other keeps) y n (behind_redirects n rs) (p.Simple es))
      kind_rules other keeps =
          (parts_of s.stated (start_of s) (claims s admitted other keeps) (functions s admitted other keeps) n (out-Command c).at (p.Simple es) rs by y here.seen (simple_rules other keeps)).1

      simple_entered : Knows s (views.at (views.Before n)) k
      simple_entered =
          slot_knows (views.Before n) here.seen k
          (λ other keeps. own_within s.stated (start_of s) (claims s admitted other keeps) (functions s admitted other keeps) n (out-Command c).at (p.Simple es) rs by y here.seen (simple_rules other keeps))
          here.knows

      known_left : (q : Seen) (l : Facts) → Left q → Knows s q l → Knows s (views.at (AfterZero n)) l × Knows s (views.at (AfterNonzero n)) l
      known_left q l left knows = (
        slot_knows (AfterZero n) q l (λ other keeps. (left other keeps).0) knows,
        slot_knows (AfterNonzero n) q l (λ other keeps. (left other keeps).1) knows,
      )

    pub utility_known : IsPlain s c → (l : Facts) → ((q : Seen) → Knows s q k → Knows s (behind_words es q) l) → Knows s (views.at (AfterZero n)) l × Knows s (views.at (AfterNonzero n)) l
    utility_known plain l gained =
        let left : Left (behind_words es (views.at (views.Before n))) =
        λ other keeps. utility_within s.stated (start_of s) (claims s admitted other keeps) (functions s admitted other keeps) y n (behind_redirects n rs) es plain.words plain.named (kind_rules plain.simple other keeps) in
        known_left plain.simple (behind_words es (views.at (views.Before n))) l left (gained (views.at (views.Before n)) (simple_entered plain.simple))

    pub assigned_known : IsAssigning s c → (m l : Facts) → ((q : Seen) → Knows s q k → Knows s (behind_words es q) m) → ((q : Seen) → Knows s q m → Knows s (gaining (assignments_gains es) q) l)
        → Knows s (views.at (AfterZero n)) l × Knows s (views.at (AfterNonzero n)) l
    assigned_known assigning m l gained settled =
        let behind : Seen = behind_words es (views.at (views.Before n)) in
        let left : Left (gaining (assignments_gains es) behind) =
        λ other keeps. assigned_within s.stated (start_of s) (claims s admitted other keeps) (functions s admitted other keeps) y n (behind_redirects n rs) es assigning.named assigning.redirected (kind_rules assigning.simple other keeps) in
        known_left assigning.simple (gaining (assignments_gains es) behind) l left (settled behind (gained (views.at (views.Before n)) (simple_entered assigning.simple)))

  -- what a command asks by its kind
  pub kind_kept : (y : Around) (c : Command) (here : IsInside s y c)
      → AreKept s (r.kind_bounds (functions_in s.script.now s.tree.now) y (out-Command c).number (behind_redirects (out-Command c).number (redirects_from s.script.now (out-Command c).redirects)) (trees.kind_of s.script.now (out-Command c).kind))
  kind_kept y c here other keeps =
      (parts_of s.stated (start_of s) (claims s admitted other keeps) (functions s admitted other keeps) _ _ _ _ here.by y here.seen
      (subst (λ m. KeepsAsked s admitted other (record { command = m; rule = here.by; around = y; seen = here.seen })) (rules.command_of-out s.script.now c)
      (kept_there s admitted other keeps here.by y here.seen (trees.command_of s.script.now c) here.part))).1

  -- after a command whose rules ask this
  pub zero_within : (n : ℕ) (by : FlowRule) (q : Seen) (k : Facts) → AreKept s (bound (AfterZero n) n by q) → Knows s q k → ClaimsWithin s Zero n k
  unfolding place_of
  zero_within n by q k asked knows other keeps =
      slot_within s admitted other keeps (AfterZero n) q k
      (entered_within s.stated (start_of s) (claims s admitted other keeps) (AfterZero n) n by q (free_after s.stated (start_of s) (claims s admitted other keeps) n).0 (asked other keeps)) knows

  pub nonzero_within : (n : ℕ) (by : FlowRule) (q : Seen) (k : Facts) → AreKept s (bound (AfterNonzero n) n by q) → Knows s q k → ClaimsWithin s Nonzero n k
  unfolding place_of
  nonzero_within n by q k asked knows other keeps =
      slot_within s admitted other keeps (AfterNonzero n) q k
      (entered_within s.stated (start_of s) (claims s admitted other keeps) (AfterNonzero n) n by q (free_after s.stated (start_of s) (claims s admitted other keeps) n).1 (asked other keeps)) knows

  -- after one that leaves what a list does
  module _ (y : Around) (n : ℕ) (by : FlowRule) (k : Facts) (t : p.Items) (here : IsLeft s y n by k t) (b : Behind)
      (after : (q : Seen) → Knows s q k → KnowsBehind s (items_after (views.Both q) t) b) where
    abbrev listed : After
    listed = items_after (views.Both here.inside.seen) t

    pub left_zero : ClaimsWithin s Zero n b.zero
    left_zero =
        zero_within n by (views.if_zero listed) b.zero (λ other keeps. (each_parts _ (bound (AfterZero n) n by (views.if_zero listed)) (bound (AfterNonzero n) n by (views.if_nonzero listed)) (here.asked other keeps)).0)
        (λ other keeps. (after here.inside.seen here.inside.knows other keeps).zero)

    pub left_nonzero : ClaimsWithin s Nonzero n b.nonzero
    left_nonzero =
        nonzero_within n by (views.if_nonzero listed) b.nonzero (λ other keeps. (each_parts _ (bound (AfterZero n) n by (views.if_zero listed)) (bound (AfterNonzero n) n by (views.if_nonzero listed)) (here.asked other keeps)).1)
        (λ other keeps. (after here.inside.seen here.inside.knows other keeps).nonzero)

  -- after an `if` without `else`
  none_asked : (y : Around) (n : ℕ) (k : Facts) (here : AreBranches s y n k p.no_branches p.no_else) → AreKept s (bound (AfterZero n) n F6 here.seen)
  unfolding r.otherwise_bounds otherwise_seen
  none_asked y n k here = here.asked_last

  pub unmatched_zero : (y : Around) (n : ℕ) (k : Facts) (o : Option Script) → o ≡ None → AreBranches s y n k (branches_from s.script.now []) (otherwise_from s.script.now o) → ClaimsWithin s Zero n k
  unmatched_zero y n k o is here =
      let there : AreBranches s y n k p.no_branches p.no_else =
      subst (λ bs. AreBranches s y n k bs p.no_else) (rules.branches_from-empty s.script.now)
      (subst (AreBranches s y n k (branches_from s.script.now [])) (ap (otherwise_from s.script.now) is ∙ rules.otherwise_from-None s.script.now) here) in
      zero_within n F6 there.seen k (none_asked y n k there) there.knows

  -- after the body of a definition
  module _ (by : FlowRule) (y : Around) (q : Seen) (n offset : ℕ) (name : Text) (body : Command) (rs : p.Redirects)
      (part : IsPart s (command_entered by y q (p.command n offset (p.Define name (trees.command_of s.script.now body)) rs))) (unstated : s.stated ≡ false) where
    returned : (other : Sheet) (keeps : Keeps s other)
        → IsWithin (facts ((claims s admitted other keeps).claim (ReturnsZero name))) (seen_facts (start_of s) (claims s admitted other keeps) (views.at (AfterZero (out-Command body).number)))
        × IsWithin (facts ((claims s admitted other keeps).claim (ReturnsNonzero name))) (seen_facts (start_of s) (claims s admitted other keeps) (views.at (AfterNonzero (out-Command body).number)))
    returned other keeps =
        let c : Certificate = claims s admitted other keeps in
        let fs : List Text = functions s admitted other keeps in
        defined_within s.stated (start_of s) c fs y n (behind_redirects n rs) name _ _ _ _ unstated
        (subst (λ m. Each (Unbroken s.stated (start_of s) c) (r.kind_bounds fs y n (behind_redirects n rs) (p.Define name m))) (rules.command_of-out s.script.now body)
        (parts_of s.stated (start_of s) c fs n offset (p.Define name (trees.command_of s.script.now body)) rs by y q (kept_there s admitted other keeps by y q _ part)).1)

    pub returns_zero : (k : Facts) → Knows s (views.at (AfterZero (out-Command body).number)) k → (other : Sheet) → Keeps s other
        → IsWithin (facts (claim_there other (place_of (functions_in s.script.now s.tree.now) (ReturnsZero name)))) k
    returns_zero k knows other keeps = slot_within s admitted other keeps (ReturnsZero name) _ k (returned other keeps).0 knows

    pub returns_nonzero : (k : Facts) → Knows s (views.at (AfterNonzero (out-Command body).number)) k → (other : Sheet) → Keeps s other
        → IsWithin (facts (claim_there other (place_of (functions_in s.script.now s.tree.now) (ReturnsNonzero name)))) k
    returns_nonzero k knows other keeps = slot_within s admitted other keeps (ReturnsNonzero name) _ k (returned other keeps).1 knows

-- By numbers

pub fits_place : (o : Option Place) (p q : Place) → o ≡ Some p → o ≡ fitting_place q → q ≡ p
unfolding fitting_place fitting
fits_place o p q some fits = go (nat_lt q.index 65536) (sym some ∙ fits)
  where
    go : (b : Bool) → Some p ≡ option_map (at q.part) (if b then Some q.index else None) → q ≡ p
    go true e = sym (ap (λ r. unwrap_or r q) e)
    go false e = absurd (true≢false (ap is_some e))

-- a place that the rules speak of, if it is there
pub spot_place : (functions : List Text) (slot : Slot) (spot : Spot) → Some (place_at spot) ≡ place_of functions slot → (r : Option Place) → r ≡ fitting_place (place_at spot) → IfSome r (λ p. Some p ≡ place_of functions slot)
spot_place fs slot spot same None fits = tt
spot_place fs slot spot same (Some p) fits = ap Some (sym (fits_place (Some p) p (place_at spot) refl fits)) ∙ same

pub there_if : (s : Subject) (functions : List Text) (slot : Slot) (k : Facts) (o : Option Place) → IfSome o (λ p. Some p ≡ place_of functions slot)
    → ((other : Sheet) → Keeps s other → IsWithin (facts (claim_there other (place_of functions slot))) k) → IfSome o (λ p. (other : Sheet) → Keeps s other → IsWithin (facts (claim_there other (Some p))) k)
there_if s fs slot k None same w = tt
there_if s fs slot k (Some p) same w = λ other keeps. subst (λ z. IsWithin (facts (claim_there other z)) k) (sym same) (w other keeps)
