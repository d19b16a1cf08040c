-- What is required at a command no certificate that keeps the rules breaks.
use Rattle.std.proofs.Common.{◌≡◌, Bool, true, List, [], ◌∷◌, ◌++◌, length, fold, refl, sym, ap, ◌∙◌, subst, true≢false}
use Rattle.std.specs.List.{list_all}
use Rattle.std.proofs.lemmas.Bool.{and_parts}
use Rattle.std.proofs.lemmas.List.Folds.{list_all-append}
use Rattle.sh_tree.specs.standard.program.Syntax as p
use Rattle.sh_tree.specs.standard.program.Trees.{script_of}
use Rattle.sh_domain.specs.Filled.{is_stated}
use Rattle.sh_domain.specs.declared.certificate.Certificate as kept
use Rattle.sh_domain.specs.Entries.{Entered, script_entered}
use Rattle.sh_domain.specs.Facts.{Facts, facts}
use Rattle.sh_domain.specs.Faults.{broken}
use Rattle.sh_domain.specs.Inclusions.{Each}
use Rattle.sh_domain.specs.Knowledge.{AreNumbered, among}
use Rattle.sh_domain.specs.Order.{IsWithin}
use Rattle.sh_domain.specs.Reading.{claim_fits}
use Rattle.sh_domain.specs.Rules.{Constraint, bounds, script_bounds}
use Rattle.sh_domain.specs.Sheets.{Sheet}
use Rattle.sh_domain.specs.Views.{Slot}
use Rattle.sh_domain.proofs.EachLemmas.{each_inside, each_none, each_of_all, each_parts, each_weaker}
use Rattle.sh_rules.specs.Above.{Allows, Anything, Ask, Asks, DoesAsked, OfFunction, OfPlace, ask}
use Rattle.sh_rules.specs.Asked.{ByConstraints, has_numbered_prefixes}
use Rattle.sh_rules.specs.Asking.{Asking}
use Rattle.sh_rules.specs.CommandBounds.{command_told}
use Rattle.sh_rules.specs.Meaning.{met_at}
use Rattle.sh_rules.specs.Settings.{claimed_at}
use Rattle.sh_rules.specs.Visits.{command_by}
use Rattle.sh_rules.proofs.AboveLemmas.{Above, command_asked, stays_above}
use Rattle.sh_rules.proofs.PrefixLemmas.{prefixes_are_numbered, table_defines}
use Rattle.sh_rules.proofs.RuleLemmas.{visits_do_asked}
use Rattle.sh_rules.proofs.ScriptLemmas.{script_asks}
use Rattle.sh_domain.specs.Admitted.{IsAdmitted, claims_in, functions_in}
use Rattle.sh_drafts.specs.declared.subject.Subject.{Subject}
use Rattle.sh_drafts.specs.Gathered.{Gathered}
use Rattle.sh_sweeps.specs.Asked.{gathering, asking_by, is_asked_of}
use Rattle.sh_drafts.specs.Places.{place_of}
use Rattle.sh_drafts.specs.Ready.{IsOver, Keeps}
use Rattle.sh_sweeps.specs.Sweeps.{IsPart, Knows, setting_by}
use Rattle.sh_drafts.specs.Stated.{asked_bounds, is_asked, is_free}
use Rattle.sh_drafts.specs.Turns.{AreNumbers, IsQuiet, Stands}
use Rattle.sh_drafts.specs.Starts.{start_of}
use Rattle.sh_sweeps.proofs.AskingLemmas.{by_constraints, commands_numbered, few_commands}
use Rattle.sh_drafts.proofs.GatherLemmas.{claim_among, drop_numbered, drop_stands, place_numbered, place_stands}
use Rattle.sh_drafts.proofs.ReadyLemmas.{numbered}
use Rattle.sh_drafts.proofs.SheetLemmas.{placed}
use Rattle.sh_sweeps.proofs.StatedLemmas.{Left, asked_allowed, by_asked, each_if_passing, left_asks, not_true}
use Rattle.sh_sweeps.proofs.TurnLemmas.{bounded_quiet}

-- What is gathered of all that is required

module _ (s : Subject) (c : kept.Certificate) where
  asks_numbered : (qs : List Ask) (g : Gathered) → AreNumbers (length s.names.now) g → AreNumbers (length s.names.now) (fold (ask gathering (setting_by s c)) g qs)
  unfolding ask
  asks_numbered [] g a = a
  asks_numbered (OfPlace slot f k ∷ qs) g a = asks_numbered qs _ (place_numbered s.names.now (functions_in s.script.now s.tree.now) (start_of s) slot (claimed_at (setting_by s c) slot) k g a)
  asks_numbered (OfFunction function f lost ∷ qs) g a = asks_numbered qs _ (drop_numbered s.names.now (functions_in s.script.now s.tree.now) (start_of s) function _ lost g a)

  asks_quiet : (qs : List Ask) (g : Gathered) → Each (λ q. is_asked_of true q ≡ true) qs → IsQuiet g → IsQuiet (fold (ask gathering (setting_by s c)) g qs)
  unfolding Each ask is_asked_of is_free
  asks_quiet [] g h q = q
  asks_quiet (OfPlace slot f k ∷ qs) g h q =
      asks_quiet qs _ h.1 (bounded_quiet s.names.now (functions_in s.script.now s.tree.now) slot (claimed_at (setting_by s c) slot) k g (not_true (is_stated slot) h.0) q)
  asks_quiet (OfFunction function f lost ∷ qs) g h q = absurd (true≢false (sym h.0))

  module _ (other : Sheet) (keeps : Keeps s other) where
    pub named_claim : (slot : Slot) → among s.names.now (facts ((claims_in s.script.now s.tree.now other).claim slot)) ≡ facts ((claims_in s.script.now s.tree.now other).claim slot)
    named_claim slot =
        claim_among s.names.now _
        (ap (claim_fits s.names.now) (placed (functions_in s.script.now s.tree.now) other slot) ∙ keeps.fit (place_of (functions_in s.script.now s.tree.now) slot))

    asks_stand : (qs : List Ask) (g : Gathered) → Each (Allows s.names.now (claims_in s.script.now s.tree.now other)) qs → Stands s.names.now other g
        → Stands s.names.now other (fold (ask gathering (setting_by s c)) g qs)
    unfolding Each ask Allows
    asks_stand [] g all st = st
    asks_stand (OfPlace slot f k ∷ qs) g all st =
        asks_stand qs _ all.1
        (place_stands s.names.now (functions_in s.script.now s.tree.now) (start_of s) other keeps.fit slot (claimed_at (setting_by s c) slot) k g (subst (λ m. IsWithin m k) (named_claim slot) all.0) st)
    asks_stand (OfFunction function f lost ∷ qs) g all st =
        asks_stand qs _ all.1 (drop_stands s.names.now (functions_in s.script.now s.tree.now) (start_of s) other keeps.fit function _ lost g all.0 st)

-- Commands of a script that is admitted

module _ (s : Subject) (admitted : IsAdmitted s.script.now s.policy.now s.tree.now s.names.now) where
  abbrev commands : List Entered
  commands = script_entered (script_of s.script.now s.tree.now)

  abbrev functions : List p.Text
  functions = functions_in s.script.now s.tree.now

  abbrev by_table : {K : Type 0} → Asking K → kept.Certificate → Entered → Type 0
  by_table a c e = DoesAsked a (setting_by s c) functions (command_by a (setting_by s c)) e

  pub names_numbered : AreNumbered s.names.now
  names_numbered = numbered s.script.now s.policy.now s.tree.now s.names.now admitted

  all_does : {K : Type 0} (a : Asking K) (c : kept.Certificate) → Each (by_table a c) commands
  all_does a c =
      visits_do_asked a (setting_by s c) s.script.now s.tree.now refl (commands_numbered s.script.now s.policy.now s.tree.now s.names.now admitted)
      (few_commands s.script.now s.policy.now s.tree.now s.names.now admitted)

  all_numbered : list_all (has_numbered_prefixes s.names.now) commands ≡ true
  all_numbered = prefixes_are_numbered s.script.now s.tree.now s.policy.now s.names.now admitted.numbered.0

  abbrev pub stated : Bool
  stated = s.stated

  -- a constraint is kept, if it is required
  abbrev pub KeptIfAsked : Sheet → Constraint → Type 0
  KeptIfAsked other k = is_asked stated k ≡ true → broken (start_of s) (claims_in s.script.now s.tree.now other) k ≡ []

  abbrev pub KeepsAsked : Sheet → Entered → Type 0
  KeepsAsked other e = Each (KeptIfAsked other) (bounds functions e)

  all_kept : (other : Sheet) → Keeps s other → Each (KeepsAsked other) commands
  all_kept other keeps =
      let f = broken (start_of s) (claims_in s.script.now s.tree.now other) in
      let ks = script_bounds (script_of s.script.now s.tree.now) in
      each_inside (KeptIfAsked other) (bounds functions) commands
      (subst (Each (KeptIfAsked other)) (sym (script_asks functions (script_of s.script.now s.tree.now) (table_defines s.script.now s.tree.now)))
      (each_if_passing (λ k. f k ≡ []) (is_asked stated) ks (each_none f (asked_bounds stated ks) keeps.rules)))

  module _ (es : List Entered) (part : IsPart s es) where
    does_here : {K : Type 0} (a : Asking K) (c : kept.Certificate) → Each (by_table a c) es
    does_here a c = (each_parts (by_table a c) es part.back (each_parts (by_table a c) part.front (es ++ part.back) (subst (Each (by_table a c)) part.whole (all_does a c))).1).0

    prefixes_here : list_all (has_numbered_prefixes s.names.now) es ≡ true
    prefixes_here =
        let f = has_numbered_prefixes s.names.now in
        let whole = subst (λ fs. list_all f fs ≡ true) part.whole all_numbered in
        let behind = (and_parts (list_all f part.front) (list_all f (es ++ part.back)) (sym (list_all-append f part.front (es ++ part.back)) ∙ whole)).1 in
        (and_parts (list_all f es) (list_all f part.back) (sym (list_all-append f es part.back) ∙ behind)).0

    pub keeps_here : (other : Sheet) → Keeps s other → Each (KeepsAsked other) es
    keeps_here other keeps =
        (each_parts (KeepsAsked other) es part.back (each_parts (KeepsAsked other) part.front (es ++ part.back) (subst (Each (KeepsAsked other)) part.whole (all_kept other keeps))).1).0

  -- one command by itself, whatever is done with what it requires

  module _ {K : Type 0} (a : Asking K) (e : Entered) (part : IsPart s (e ∷ [])) (c : kept.Certificate) (by : ByConstraints K a (setting_by s c) (start_of s)) (k : Facts) (old : K) where
    abbrev asking : Asking K
    asking = asking_by stated a

    abbrev asked_by : ByConstraints K asking (setting_by s c) (start_of s)
    asked_by = by_asked a (setting_by s c) stated (start_of s) by

    abbrev visited : K
    visited = command_by asking (setting_by s c) old (met_at e k)

    same_told : visited ≡ command_told asking (setting_by s c) functions old (met_at e k)
    unfolding Each
    same_told = (does_here (e ∷ []) part asking c).0 k old

    prefixed : has_numbered_prefixes s.names.now e ≡ true
    prefixed = (and_parts (has_numbered_prefixes s.names.now e) true (prefixes_here (e ∷ []) part)).0

    kept_here : (other : Sheet) → Keeps s other → KeepsAsked other e
    unfolding Each
    kept_here other keeps = (keeps_here (e ∷ []) part other keeps).0

    pub one_asks : Asks a (setting_by s c) (Left stated Anything) old visited
    one_asks =
        let all = (stays_above asking).asks (setting_by s c) (start_of s) asked_by functions names_numbered e k old prefixed in
        left_asks a (setting_by s c) Anything stated old visited (record { asks = all.asks; each = each_of_all (λ q asked. tt) all.asks; reached = same_told ∙ all.reached })

    pub one_allows : IsOver s c → Knows s e.seen k → (other : Sheet) → Keeps s other → Asks a (setting_by s c) (Left stated (Allows s.names.now (claims_in s.script.now s.tree.now other))) old visited
    one_allows over knows other keeps =
        let x = setting_by s c in
        let d = (start_of s) in
        let claims = claims_in s.script.now s.tree.now other in
        let below = over other keeps in
        left_asks a x (Allows s.names.now claims) stated old visited
        (subst (Asks asking x (λ q. is_asked_of stated q ≡ true → Allows s.names.now claims q) old) (sym same_told)
        (command_asked asking x names_numbered d asked_by (Above x names_numbered d claims below) (KeptIfAsked other) (λ q. is_asked_of stated q ≡ true → Allows s.names.now claims q)
        (asked_allowed x names_numbered d claims below stated) functions e k old (knows other keeps) prefixed (kept_here other keeps)))

  -- what is gathered of it

  module _ (e : Entered) (part : IsPart s (e ∷ [])) (c : kept.Certificate) (k : Facts) (old : Gathered) where
    abbrev new : Gathered
    new = command_by (asking_by stated gathering) (setting_by s c) old (met_at e k)

    abbrev constraints : ByConstraints Gathered gathering (setting_by s c) (start_of s)
    constraints = by_constraints (setting_by s c) names_numbered (start_of s)

    pub one_numbers : AreNumbers (length s.names.now) old → AreNumbers (length s.names.now) new
    one_numbers a =
        let asks = one_asks gathering e part c constraints k old in
        subst (AreNumbers (length s.names.now)) (sym asks.reached) (asks_numbered s c asks.asks old a)

    pub one_stands : IsOver s c → Knows s e.seen k → (other : Sheet) → Keeps s other → Stands s.names.now other old → Stands s.names.now other new
    one_stands over knows other keeps st =
        let asks = one_allows gathering e part c constraints k old over knows other keeps in
        subst (Stands s.names.now other) (sym asks.reached) (asks_stand s c other keeps asks.asks old (each_weaker (λ q p. p.1) asks.asks asks.each) st)

    pub one_quiet : stated ≡ true → IsQuiet old → IsQuiet new
    one_quiet is q =
        let asks = one_asks gathering e part c constraints k old in
        subst IsQuiet (sym asks.reached) (asks_quiet s c asks.asks old (each_weaker (λ r p. subst (λ b. is_asked_of b r ≡ true) is p.0) asks.asks asks.each) q)
