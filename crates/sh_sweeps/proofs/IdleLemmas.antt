-- If nothing is lowered at a place and a function, each constraint is kept that requires something
-- there.
use Rattle.std.proofs.Common.{◌≡◌, ℕ, ◌≤◌, Bool, true, false, if◌then◌else◌, Option, Some, None, option_map, List, [], ◌∷◌, length, slice_get, unwrap_or, is_some, refl, sym, ap, ◌∙◌, subst, inl, inr, true≢false}
use Rattle.std.specs.List.{list_all}
use Rattle.std.specs.Prelude.{filter, not}
use Rattle.std.proofs.lemmas.Bool.{and_parts, or_cases, or_left, or_right, eqb-true}
use Rattle.sh_tree.specs.declared.limits.TheConstants.{MAX_NAMES}
use Rattle.sh_tree.specs.standard.language.Bytes.{is_name}
use Rattle.sh_tree.specs.declared.tree.Script.{Script}
use Rattle.sh_tree.specs.standard.program.Syntax.{Text}
use Rattle.sh_tree.specs.standard.program.Trees.{script_of}
use Rattle.sh_runs.specs.standard.runs.Environment.{is_one_of}
use Rattle.sh_domain.specs.declared.certificate.Certificate as kept
use Rattle.sh_domain.specs.declared.certificate.Drops.{Drops}
use Rattle.sh_domain.specs.declared.certificate.Facts as value
use Rattle.sh_domain.specs.declared.certificate.Facts.TheVariants as value_kind
use Rattle.sh_domain.specs.declared.rule.FlowRule.TheVariants.{F13}
use Rattle.sh_domain.specs.Facts.{Claim, Facts, NotReached, Known, Variable, facts, within, claims as holds, Declared}
use Rattle.sh_domain.specs.Faults.{are_among, broken, told}
use Rattle.sh_domain.specs.Forms.{is_variable}
use Rattle.sh_domain.specs.Inclusions.{Each}
use Rattle.sh_domain.specs.KeptRows.{KeptRows}
use Rattle.sh_domain.specs.Knowledge.{AreNumbered, at_number}
use Rattle.sh_domain.specs.Names.{number_of}
use Rattle.sh_domain.specs.Operands.{Names}
use Rattle.sh_domain.specs.Order.{IsWithin}
use Rattle.sh_domain.specs.RoundTrips.{FactsPass, SetsPass}
use Rattle.sh_domain.specs.Reading.{AreLoops}
use Rattle.sh_domain.specs.Rules.{Constraint, Within, Counted, script_bounds}
use Rattle.sh_domain.specs.Sheets.{certificate_of, claim_at}
use Rattle.sh_domain.specs.Views.{Certificate, Slot, Before, Loss, OfNames, OfFunction, OfUnseen, view_facts, lost, where_reached}
use Rattle.sh_domain.proofs.KnowledgeLemmas.{has_number, stands_there}
use Rattle.sh_domain.proofs.OrderLemmas.{within_through, within_nowhere, within_test, among_test, among_all, known_within}
use Rattle.sh_domain.specs.Admitted.{IsAdmitted, claims_in, functions_in}
use Rattle.sh_drafts.specs.Facts as number
use Rattle.sh_drafts.specs.Kept.{fact_of}
use Rattle.sh_drafts.specs.Ranks.{IsNumbered}
use Rattle.sh_drafts.specs.Stated.{asked_bounds, is_asked}
use Rattle.sh_drafts.proofs.FactLemmas as order
use Rattle.sh_sweeps.specs.declared.gather.Gather.{Gather}
use Rattle.sh_drafts.specs.declared.target.Target.{Target}
use Rattle.sh_drafts.specs.declared.place.Place.{Place}
use Rattle.sh_drafts.specs.Gathered.{Gathered, is_at, is_number, bounded, counted, gathered, all_gathered}
use Rattle.sh_drafts.specs.Functions.{ClaimsNames, KnowsNames, LosesNames, BoundsNames}
use Rattle.sh_drafts.specs.Idle.{IsIdle}
use Rattle.sh_sweeps.specs.Next.{stands_at, IsKeptAt}
use Rattle.sh_drafts.specs.Numbers.{name_passes, by_number, by_name, named, is_dropped, numbers_in}
use Rattle.sh_drafts.specs.Places.{same, place_of, kept_at, drops_at, claim_there, drops_there}
use Rattle.sh_sweeps.specs.There.{HasPlace, HasDrops, AsksThere}
use Rattle.sh_drafts.specs.Turns.{AreNumbers, sheet_by}
use Rattle.sh_sweeps.specs.Asked.{IsNew, gathered_of}
use Rattle.sh_drafts.specs.Working.{Sets, sets_of, names_of, joined, claims, dropped, AreWithin, AreBelow, IsFine, IsWorking}
use Rattle.sh_drafts.specs.Writable.{IsWritten, HasWritable}
use Rattle.sh_drafts.proofs.FunctionLemmas.{rules_know_names}
use Rattle.sh_drafts.proofs.GatherLemmas.{among_less, place_stays, function_stays, numbered_only}
use Rattle.sh_drafts.proofs.ReadyLemmas.{numbered}
use Rattle.sh_drafts.proofs.WrittenLemmas.{named_below, no_sets, none_below, written_within}
use Rattle.sh_drafts.proofs.KeptLemmas.{place_same}
use Rattle.sh_sweeps.proofs.LostLemmas.{all_lost, asked_passes, filter_all, loss_passes}
use Rattle.sh_drafts.proofs.NumberLemmas.{back}
use Rattle.sh_drafts.proofs.SheetLemmas.{placed, drops_placed, claimed, drops_vars, drops_functions}
use Rattle.sh_sweeps.proofs.ThereLemmas.{rules_ask_there}
use Rattle.sh_sweeps.proofs.TurnLemmas.{new_numbers}
use Rattle.sh_sweeps.proofs.StatedLemmas.{all_passing, each_passing}

-- Names that may be written

module _ (names : List Text) where
  none_written : IsWritten names no_sets
  none_written = record { vars = λ k t is e. absurd (true≢false (sym e)); functions = λ k t is e. absurd (true≢false (sym e)) }

  joined_written : (s z : Sets) → IsWritten names s → IsWritten names z → IsWritten names (joined s z)
  joined_written s z a b = record {
    vars = λ k t is e. elim (or_cases (z.vars k) (s.vars k) e) [ inl h ↦ b.vars k t is h | inr h ↦ a.vars k t is h ];
    functions = λ k t is e. elim (or_cases (z.functions k) (s.functions k) e) [ inl h ↦ b.functions k t is h | inr h ↦ a.functions k t is h ];
  }

  joined_below : (s z : Sets) → AreBelow (length names) s → AreBelow (length names) z → AreBelow (length names) (joined s z)
  joined_below s z a b = record {
    vars = λ k e. elim (or_cases (z.vars k) (s.vars k) e) [ inl h ↦ b.vars k h | inr h ↦ a.vars k h ];
    functions = λ k e. elim (or_cases (z.functions k) (s.functions k) e) [ inl h ↦ b.functions k h | inr h ↦ a.functions k h ];
  }

  met_written : (f g : number.Facts) → IsWritten names (names_of f) → IsWritten names (names_of g) → IsWritten names (names_of (number.meet f g))
  unfolding names_of number.meet
  met_written number.NotReached g a b = b
  met_written (number.Known v f n) number.NotReached a b = a
  met_written (number.Known v f n) (number.Known w g m) a b =
      record { vars = λ k t is e. a.vars k t is (and_parts (v k) (w k) e).0; functions = λ k t is e. a.functions k t is (and_parts (f k) (g k) e).0 }

  met_below : (f g : number.Facts) → AreBelow (length names) (names_of f) → AreBelow (length names) (names_of g) → AreBelow (length names) (names_of (number.meet f g))
  unfolding names_of number.meet
  met_below number.NotReached g a b = b
  met_below (number.Known v f n) number.NotReached a b = a
  met_below (number.Known v f n) (number.Known w g m) a b = record { vars = λ k e. a.vars k (and_parts (v k) (w k) e).0; functions = λ k e. a.functions k (and_parts (f k) (g k) e).0 }

  -- What a certificate claims, and has a function drop, is such

  fine_written : (rows : KeptRows) (f : value.Facts) → IsFine names rows f → IsWritten names (names_of (fact_of rows.rows f))
  unfolding fact_of names_of FactsPass
  fine_written rows value_kind.NotReached fine = none_written
  fine_written rows (value_kind.Known v f a) fine =
      let passes : SetsPass names rows v f × (a ≤ 65535) = fine.passes in
      record { vars = passes.0.vars; functions = passes.0.functions }

  fine_below : (rows : KeptRows) (f : value.Facts) → IsFine names rows f → AreBelow (length names) (names_of (fact_of rows.rows f))
  unfolding fact_of names_of IsNumbered
  fine_below rows value_kind.NotReached fine = none_below names
  fine_below rows (value_kind.Known v f a) fine = let h = fine.numbered in record { vars = h.vars; functions = h.functions }

  module _ (loops : List Bool) (m : ℕ) (c : kept.Certificate) (w : IsWorking names loops m c) where
    claim_of_kept : (p : Place) (f : number.Facts) → claims c p ≡ Some f → (x : value.Facts) × (kept_at c p ≡ Some x) × (fact_of c.rows.rows x ≡ f)
    unfolding claims
    claim_of_kept p f e = go (kept_at c p) refl e
      where
        go : (o : Option value.Facts) → kept_at c p ≡ o → option_map (fact_of c.rows.rows) o ≡ Some f → (x : value.Facts) × (kept_at c p ≡ Some x) × (fact_of c.rows.rows x ≡ f)
        go None is e = absurd (true≢false (sym (ap is_some e)))
        go (Some x) is e = (x, is, ap (λ o. unwrap_or o f) e)

    claim_written : (p : Place) (f : number.Facts) → claims c p ≡ Some f → IsWritten names (names_of f) × AreBelow (length names) (names_of f)
    claim_written p f e =
        let x = claim_of_kept p f e in
        let fine = w.facts p x.0 x.1 in
        subst (λ (g : number.Facts). IsWritten names (names_of g) × AreBelow (length names) (names_of g)) x.2 (fine_written c.rows x.0 fine, fine_below c.rows x.0 fine)

    drops_of_kept : (i : ℕ) (s : Sets) → dropped c i ≡ Some s → (x : Drops) × (drops_at c i ≡ Some x) × (sets_of c.rows x ≡ s)
    unfolding dropped
    drops_of_kept i s e = go (drops_at c i) refl e
      where
        go : (o : Option Drops) → drops_at c i ≡ o → option_map (sets_of c.rows) o ≡ Some s → (x : Drops) × (drops_at c i ≡ Some x) × (sets_of c.rows x ≡ s)
        go None is e = absurd (true≢false (sym (ap is_some e)))
        go (Some x) is e = (x, is, ap (λ o. unwrap_or o s) e)

    drops_written : (i : ℕ) (s : Sets) → dropped c i ≡ Some s → IsWritten names s × AreBelow (length names) s
    drops_written i s e =
        let x = drops_of_kept i s e in
        let fine = w.drops i x.0 x.1 in
        subst (λ (z : Sets). IsWritten names z × AreBelow (length names) z) x.2 (record { vars = fine.passes.vars; functions = fine.passes.functions }, fine.below)

  -- What is gathered is such

  module _ (h : AreNumbered names) (variables : list_all is_variable names ≡ true) where
    variable : (k : ℕ) (t : Text) → slice_get names k ≡ Some t → is_variable t ≡ true
    variable k t is = among_all is_variable names variables t (has_number names t ∙ ap is_some (h.own k t is))

    known_written : (f : Facts) → KnowsNames f → IsWritten names (names_of (by_number names f))
    unfolding names_of by_number KnowsNames name_passes
    known_written NotReached k = none_written
    known_written (Known v f a) k = record { vars = λ n t is e. variable n t is; functions = λ n t is e. k t (sym (ap (name_passes f) is) ∙ e) }

    lost_written : (lost : Names) → LosesNames lost → IsWritten names (numbers_in names lost)
    unfolding name_passes
    lost_written lost k = record { vars = λ n t is e. variable n t is; functions = λ n t is e. k t (sym (ap (name_passes (is_one_of lost.functions)) is) ∙ e) }

    record Written (g : Gathered) : Type 0 where
      known : IsWritten names (names_of g.known)
      sets : IsWritten names g.sets

    if_known : (b : Bool) (f g : number.Facts) → IsWritten names (names_of f) → IsWritten names (names_of g) → IsWritten names (names_of (if b then f else g))
    if_known true f g a b = a
    if_known false f g a b = b

    if_sets : (b : Bool) (s z : Sets) → IsWritten names s → IsWritten names z → IsWritten names (if b then s else z)
    if_sets true s z a b = a
    if_sets false s z a b = b

    module _ (functions : List Text) (d : Facts) (c : Certificate) where
      one_written : (k : Constraint) (g : Gathered) → BoundsNames d c k → Written g → Written (gathered names functions d c g k)
      unfolding gathered bounded counted BoundsNames
      one_written (Within slot n rule v) g asks w = record {
        known = if_known (is_at (place_of functions slot) g.place) _ _ (met_written g.known (by_number names (view_facts d c v)) w.known (known_written (view_facts d c v) asks)) w.known;
        sets = w.sets;
      }
      one_written (Counted f n loss) g asks w = record {
        known = w.known;
        sets = if_sets (is_number (number_of functions f) g.function) _ _ (joined_written (numbers_in names (lost d c n loss)) g.sets (lost_written (lost d c n loss) asks) w.sets) w.sets;
      }

      all_written : (ks : List Constraint) (g : Gathered) → Each (BoundsNames d c) ks → Written g → Written (all_gathered names functions d c g ks)
      unfolding Each
      all_written [] g asks w = w
      all_written (k ∷ ks) g asks w = all_written ks (gathered names functions d c g k) asks.1 (one_written k g asks.0 w)

-- All that is required there is gathered

module _ (names functions : List Text) (d : Facts) (c : Certificate) where
  if_less : (b : Bool) (f g : number.Facts) → number.IsWithin f g → number.IsWithin (if b then f else g) g
  if_less true f g w = w
  if_less false f g w = order.within_itself g

  if_more : (b : Bool) (s z : Sets) → AreWithin z s → AreWithin z (if b then s else z)
  if_more true s z w = w
  if_more false s z w = record { vars = λ k e. e; functions = λ k e. e }

  sets_through : (s y z : Sets) → AreWithin s y → AreWithin y z → AreWithin s z
  sets_through s y z a b = record { vars = λ k e. b.vars k (a.vars k e); functions = λ k e. b.functions k (a.functions k e) }

  -- one more constraint leaves less known, and more to drop
  one_less : (k : Constraint) (g : Gathered) → number.IsWithin (gathered names functions d c g k).known g.known
  unfolding gathered bounded counted
  one_less (Within slot n rule v) g = if_less (is_at (place_of functions slot) g.place) _ g.known (order.meet_first g.known (by_number names (view_facts d c v)))
  one_less (Counted f n loss) g = order.within_itself g.known

  one_more : (k : Constraint) (g : Gathered) → AreWithin g.sets (gathered names functions d c g k).sets
  unfolding gathered bounded counted
  one_more (Within slot n rule v) g = record { vars = λ k e. e; functions = λ k e. e }
  one_more (Counted f n loss) g =
      if_more (is_number (number_of functions f) g.function) _ g.sets
      (record { vars = λ k e. or_left (g.sets.vars k) _ e; functions = λ k e. or_left (g.sets.functions k) _ e })

  all_less : (ks : List Constraint) (g : Gathered) → number.IsWithin (all_gathered names functions d c g ks).known g.known
  all_less [] g = order.within_itself g.known
  all_less (k ∷ ks) g = order.within_through _ _ _ (all_less ks (gathered names functions d c g k)) (one_less k g)

  all_more : (ks : List Constraint) (g : Gathered) → AreWithin g.sets (all_gathered names functions d c g ks).sets
  all_more [] g = record { vars = λ k e. e; functions = λ k e. e }
  all_more (k ∷ ks) g = sets_through _ _ _ (one_more k g) (all_more ks (gathered names functions d c g k))

  -- what a constraint requires there is among that
  unfoldable IsTaken : Gathered → Constraint → Type 0
  IsTaken g (Within slot n rule v) = is_at (place_of functions slot) g.place ≡ true → number.IsWithin g.known (by_number names (view_facts d c v))
  IsTaken g (Counted f n loss) = is_number (number_of functions f) g.function ≡ true → AreWithin (numbers_in names (lost d c n loss)) g.sets

  one_taken : (k : Constraint) (old new : Gathered) → new.place ≡ old.place → new.function ≡ old.function → number.IsWithin new.known (gathered names functions d c old k).known
      → AreWithin (gathered names functions d c old k).sets new.sets → IsTaken new k
  unfolding gathered bounded counted IsTaken
  one_taken (Within slot n rule v) old new place function less more = λ e.
      let at : is_at (place_of functions slot) old.place ≡ true = ap (is_at (place_of functions slot)) (sym place) ∙ e in
      let met : number.IsWithin new.known (number.meet old.known (by_number names (view_facts d c v))) =
      subst (λ b. number.IsWithin new.known (if b then number.meet old.known (by_number names (view_facts d c v)) else old.known)) at less in
      order.within_through _ _ _ met (order.meet_second old.known (by_number names (view_facts d c v)))
  one_taken (Counted f n loss) old new place function less more = λ e.
      let at : is_number (number_of functions f) old.function ≡ true = ap (is_number (number_of functions f)) (sym function) ∙ e in
      let all : AreWithin (joined (numbers_in names (lost d c n loss)) old.sets) new.sets =
      subst (λ b. AreWithin (if b then joined (numbers_in names (lost d c n loss)) old.sets else old.sets) new.sets) at more in
      record { vars = λ k e. all.vars k (or_right (old.sets.vars k) _ e); functions = λ k e. all.functions k (or_right (old.sets.functions k) _ e) }

  all_taken : (ks : List Constraint) (g : Gathered) → Each (IsTaken (all_gathered names functions d c g ks)) ks
  unfolding Each
  all_taken [] g = tt
  all_taken (k ∷ ks) g =
      let next = gathered names functions d c g k in (
        one_taken k g (all_gathered names functions d c g (k ∷ ks)) (place_stays names functions d c (k ∷ ks) g) (function_stays names functions d c (k ∷ ks) g) (all_less ks next) (all_more ks next),
        all_taken ks next,
      )

-- Facts by names

at_more : (v w : ℕ → Bool) → ((k : ℕ) → v k ≡ true → w k ≡ true) → (o : Option ℕ) → at_number v o ≡ true → at_number w o ≡ true
unfolding at_number
at_more v w h None e = e
at_more v w h (Some k) e = h k e

named_within : (names : List Text) (f g : number.Facts) → number.IsWithin f g → IsWithin (by_name names f) (by_name names g)
unfolding by_name
named_within names f number.NotReached w = within_nowhere _
named_within names number.NotReached (number.Known v p a) w = absurd (order.nowhere_known v p a w)
named_within names (number.Known v p a) (number.Known x q b) w =
    let parts = order.known_parts v x p q a b w in
    known_within _ _ _ _ a b (λ t e. at_more v x parts.vars (number_of names t) e) (λ t e. at_more p q parts.functions (number_of names t) e) parts.args

some_there : {A : Type 0} (o : Option A) → is_some o ≡ true → (x : A) × (o ≡ Some x)
some_there None e = absurd (true≢false (sym e))
some_there (Some x) e = (x, refl)

-- a name that is lost is dropped by its number
lost_number : (names ts : List Text) (s : ℕ → Bool) → ((k : ℕ) → name_passes (is_one_of ts) (slice_get names k) ≡ true → s k ≡ true) → (x : Text) → is_one_of ts x ≡ true → is_one_of names x ≡ true
    → at_number s (number_of names x) ≡ true
unfolding at_number name_passes
lost_number names ts s h x e known = go (number_of names x) refl (sym (has_number names x) ∙ known)
  where
    go : (o : Option ℕ) → number_of names x ≡ o → is_some o ≡ true → at_number s o ≡ true
    go None is some = absurd (true≢false (sym some))
    go (Some k) is some = h k (ap (name_passes (is_one_of ts)) (stands_there names k x is) ∙ e)

-- Each constraint there is kept

-- these names are numbered
record AreNamesOf (names : List Text) (lost : Names) : Type 0 where
  vars : (x : Text) → is_one_of lost.vars x ≡ true → is_one_of names x ≡ true
  functions : (x : Text) → is_one_of lost.functions x ≡ true → is_one_of names x ≡ true

module _ (names functions : List Text) (h : AreNumbered names) (loops : List Bool) (m : ℕ) (c : kept.Certificate) (w : IsWorking names loops m c) (d : Facts) where
  abbrev own : Certificate
  own = certificate_of functions (sheet_by names c)

  -- what is lost is numbered, as what the certificate lets a function drop is

  at_some : (v : ℕ → Bool) (x : Text) → at_number v (number_of names x) ≡ true → is_one_of names x ≡ true
  unfolding at_number
  at_some v x e = has_number names x ∙ go (number_of names x) e
    where
      go : (o : Option ℕ) → at_number v o ≡ true → is_some o ≡ true
      go None e = absurd (true≢false (sym e))
      go (Some k) e = refl

  dropped_known : (part : Sets → ℕ → Bool) (o : Option Sets) (x : Text) → is_dropped part names o x ≡ true → is_one_of names x ≡ true
  unfolding is_dropped
  dropped_known part None x e = absurd (true≢false (sym e))
  dropped_known part (Some s) x e = at_some (part s) x e

  drops_there_known : (o : Option ℕ) → AreNamesOf names (drops_there (sheet_by names c) o)
  unfolding drops_there
  drops_there_known None = record { vars = λ x e. absurd (true≢false (sym e)); functions = λ x e. absurd (true≢false (sym e)) }
  drops_there_known (Some i) = record {
    vars = λ x e. dropped_known (λ s. s.vars) (dropped c i) x (sym (drops_vars names h loops m c w i x) ∙ e);
    functions = λ x e. dropped_known (λ s. s.functions) (dropped c i) x (sym (drops_functions names h loops m c w i x) ∙ e);
  }

  where_known : (f : Facts) (ns : Names) → AreNamesOf names ns → AreNamesOf names (where_reached f ns)
  unfolding where_reached
  where_known NotReached ns k = record { vars = λ x e. absurd (true≢false (sym e)); functions = λ x e. absurd (true≢false (sym e)) }
  where_known (Known v f a) ns k = k

  lost_known : (n : ℕ) (loss : Loss) → loss_passes (is_one_of names) loss ≡ true → AreNamesOf names (lost d own n loss)
  unfolding lost loss_passes
  lost_known n (OfNames ns) numbered =
      let both = and_parts (list_all (is_one_of names) ns.vars) (list_all (is_one_of names) ns.functions) numbered in
      where_known (facts (own.claim (Before n))) ns (record { vars = among_all (is_one_of names) ns.vars both.0; functions = among_all (is_one_of names) ns.functions both.1 })
  lost_known n (OfFunction f) numbered =
      where_known (facts (own.claim (Before n))) (own.drops f) (subst (AreNamesOf names) (sym (drops_placed functions (sheet_by names c) f)) (drops_there_known (number_of functions f)))
  lost_known n (OfUnseen vars v) numbered = record {
    vars = λ x e. among_all (is_one_of names) (filter (λ y. not (holds (view_facts d own v) (Variable y))) vars) (filter_all (is_one_of names) (λ y. not (holds (view_facts d own v) (Variable y))) vars numbered) x e;
    functions = λ x e. absurd (true≢false (sym e));
  }

  -- the functions that it claims, and lets a function drop, are names

  at_named : (v : ℕ → Bool) (x : Text) → ((k : ℕ) (t : Text) → slice_get names k ≡ Some t → v k ≡ true → is_name t ≡ true) → at_number v (number_of names x) ≡ true → is_name x ≡ true
  unfolding at_number
  at_named v x each e = go (number_of names x) refl e
    where
      go : (o : Option ℕ) → number_of names x ≡ o → at_number v o ≡ true → is_name x ≡ true
      go None is e = absurd (true≢false (sym e))
      go (Some k) is e = each k x (stands_there names k x is) e

  named_names : (f : number.Facts) → IsWritten names (names_of f) → KnowsNames (by_name names f)
  unfolding names_of by_name KnowsNames
  named_names number.NotReached written = tt
  named_names (number.Known v p a) written = λ x e. at_named p x written.functions e

  claimed_names : (p : Place) (o : Option number.Facts) → claims c p ≡ o → KnowsNames (named names o)
  unfolding named KnowsNames
  claimed_names p None is = tt
  claimed_names p (Some f) is = named_names f (claim_written names loops m c w p f is).0

  there_names : (o : Option Place) → KnowsNames (facts (claim_there (sheet_by names c) o))
  unfolding claim_there facts KnowsNames
  there_names None = tt
  there_names (Some p) = subst KnowsNames (sym (claimed names h loops m c w p)) (claimed_names p (claims c p) refl)

  dropped_names : (i : ℕ) (o : Option Sets) (x : Text) → dropped c i ≡ o → is_dropped (λ s. s.functions) names o x ≡ true → is_name x ≡ true
  unfolding is_dropped
  dropped_names i None x is e = absurd (true≢false (sym e))
  dropped_names i (Some s) x is e = at_named s.functions x (drops_written names loops m c w i s is).0.functions e

  lost_names : (o : Option ℕ) (x : Text) → is_one_of (drops_there (sheet_by names c) o).functions x ≡ true → is_name x ≡ true
  unfolding drops_there
  lost_names None x e = absurd (true≢false (sym e))
  lost_names (Some i) x e = dropped_names i (dropped c i) x refl (sym (drops_functions names h loops m c w i x) ∙ e)

  pub claims_names : ClaimsNames own
  claims_names = record {
    known = λ slot. subst (λ (x : Claim). KnowsNames (facts x)) (sym (placed functions (sheet_by names c) slot)) (there_names (place_of functions slot));
    lost = λ f x e. lost_names (number_of functions f) x (sym (ap (λ (n : Names). is_one_of n.functions x) (drops_placed functions (sheet_by names c) f)) ∙ e);
  }

  module _ (may : Sets) (all : HasWritable names MAX_NAMES may) (g : Gathered) (numbers : AreNumbers (length names) g) (known : IsWritten names (names_of g.known)) (sets : IsWritten names g.sets) (idle : IsIdle c may g) where
    claim_within : (f : number.Facts) → claims c g.place ≡ Some f → number.IsWithin f g.known
    claim_within f e =
        let mine = claim_written names loops m c w g.place f e in
        idle.claim.within f e
        (written_within names (names_of (number.meet f g.known)) may h.few (met_written names f g.known mine.0 known) (met_below names f g.known mine.1 (named_below names g.known numbers.known)) all)

    drops_within : (s : Sets) → dropped c g.function ≡ Some s → AreWithin g.sets s
    drops_within s e =
        let mine = drops_written names loops m c w g.function s e in
        idle.drops.within s e (written_within names (joined g.sets s) may h.few (joined_written names g.sets s sets mine.0) (joined_below names g.sets s numbers.sets mine.1) all)

    place_kept : (slot : Slot) (f : Facts) → HasPlace functions c slot → (is_at (place_of functions slot) g.place ≡ true → number.IsWithin g.known (by_number names f)) → is_at (place_of functions slot) g.place ≡ true
        → within (own.claim slot) f ≡ true
    unfolding is_at named
    place_kept slot f there taken e =
        let at : same there.place g.place ≡ true = sym (ap (λ o. is_at o g.place) there.at) ∙ e in
        let here : there.place ≡ g.place = place_same there.place g.place at in
        let claim = some_there (claims c g.place) (sym (ap (λ p. is_some (claims c p)) here) ∙ there.there) in
        let less : IsWithin (by_name names claim.0) (by_name names (by_number names f)) = named_within names claim.0 (by_number names f) (order.within_through _ _ _ (claim_within claim.0 claim.1) (taken e)) in
        let own_claim : claim_at functions (sheet_by names c) slot ≡ claim_there (sheet_by names c) (Some g.place) =
        placed functions (sheet_by names c) slot ∙ ap (claim_there (sheet_by names c)) (there.at ∙ ap Some here) in
        let claims_it : facts (own.claim slot) ≡ by_name names claim.0 = ap facts own_claim ∙ claimed names h loops m c w g.place ∙ ap (named names) claim.1 in
        (within_test (own.claim slot) f).1
        (within_through _ _ _ (subst (λ (x : Facts). IsWithin x (by_name names (by_number names f))) (sym claims_it) less) (subst (λ (x : Facts). IsWithin x f) (sym (back names f)) (among_less names f)))

    drops_kept : (function : Text) (lost : Names) → AreNamesOf names lost → HasDrops functions c function → (is_number (number_of functions function) g.function ≡ true → AreWithin (numbers_in names lost) g.sets)
        → is_number (number_of functions function) g.function ≡ true → are_among lost (own.drops function) ≡ true
    unfolding is_number is_dropped
    drops_kept function lost known there taken e =
        let here : there.index ≡ g.function = eqb-true there.index g.function (sym (ap (λ o. is_number o g.function) there.at) ∙ e) in
        let drops = some_there (dropped c g.function) (sym (ap (λ i. is_some (dropped c i)) here) ∙ there.there) in
        let less = drops_within drops.0 drops.1 in
        let taken_all = taken e in
        let own_drops : own.drops function ≡ drops_there (sheet_by names c) (Some g.function) =
        drops_placed functions (sheet_by names c) function ∙ ap (drops_there (sheet_by names c)) (there.at ∙ ap Some here) in
        (among_test lost (own.drops function)).1 (record {
          vars = λ x there.
              let number = lost_number names lost.vars drops.0.vars (λ k t. less.vars k (taken_all.vars k t)) x there (known.vars x there) in
              ap (λ (n : Names). is_one_of n.vars x) own_drops ∙ drops_vars names h loops m c w g.function x ∙ ap (λ o. is_dropped (λ s. s.vars) names o x) drops.1 ∙ number;
          functions = λ x there.
              let number = lost_number names lost.functions drops.0.functions (λ k t. less.functions k (taken_all.functions k t)) x there (known.functions x there) in
              ap (λ (n : Names). is_one_of n.functions x) own_drops ∙ drops_functions names h loops m c w g.function x ∙ ap (λ o. is_dropped (λ s. s.functions) names o x) drops.1 ∙ number;
        })

    one_kept : (k : Constraint) → AsksThere functions c k → asked_passes (is_one_of names) k ≡ true → IsTaken names functions d own g k → IsKeptAt functions d own g.place g.function k
    unfolding AsksThere asked_passes IsTaken stands_at broken told
    one_kept (Within slot n rule v) there numbered taken = record { kept = λ e. ap (λ b. told b n rule) (place_kept slot (view_facts d own v) there taken e) }
    one_kept (Counted function n loss) there numbered taken =
        record { kept = λ e. ap (λ b. told b n F13) (drops_kept function (lost d own n loss) (lost_known n loss numbered) there taken e) }

    all_kept : (ks : List Constraint) → Each (AsksThere functions c) ks → list_all (asked_passes (is_one_of names)) ks ≡ true → Each (IsTaken names functions d own g) ks → Each (IsKeptAt functions d own g.place g.function) ks
    unfolding Each
    all_kept [] there numbered taken = tt
    all_kept (k ∷ ks) there numbered taken =
        let both = and_parts (asked_passes (is_one_of names) k) (list_all (asked_passes (is_one_of names)) ks) numbered in
        (one_kept k there.0 both.0 taken.0, all_kept ks there.1 both.1 taken.1)

  -- where nothing is lowered of all that was gathered from nothing
  module _ (target : Target) (first : Gather) (new : IsNew target first) (variables : list_all is_variable names ≡ true) where
    first_written : Written names h variables (gathered_of first)
    unfolding gathered_of names_of
    first_written = record {
      known = subst (λ (f : number.Facts). IsWritten names (names_of f)) (sym new.known) (none_written names);
      sets = record { vars = λ k t is e. absurd (true≢false (sym e ∙ new.vars k)); functions = λ k t is e. absurd (true≢false (sym e ∙ new.functions k)) };
    }

    pub all_idle : (ks : List Constraint) (g : Gathered) → g ≡ all_gathered names functions d own (gathered_of first) ks → list_all (asked_passes (is_one_of names)) ks ≡ true → Each (AsksThere functions c) ks
        → Each (BoundsNames d own) ks → (may : Sets) → HasWritable names MAX_NAMES may → IsIdle c may g → Each (IsKeptAt functions d own g.place g.function) ks
    all_idle ks g is numbered there asks may all idle =
        let written = all_written names h variables functions d own ks (gathered_of first) asks first_written in
        let numbers = numbered_only names functions d own ks (gathered_of first) (new_numbers target first new (length names)) in
        all_kept may all g (subst (AreNumbers (length names)) (sym is) numbers) (subst (λ (x : Gathered). IsWritten names (names_of x.known)) (sym is) written.known)
        (subst (λ (x : Gathered). IsWritten names x.sets) (sym is) written.sets) idle ks there numbered
        (subst (λ (x : Gathered). Each (IsTaken names functions d own x) ks) (sym is) (all_taken names functions d own ks (gathered_of first)))

-- of a script that is admitted
pub idle_keeps : (b : List ℕ) (d : Declared) (t : Script) (names : List Text) (start : Facts) → KnowsNames start → IsAdmitted b d t names → list_all is_variable names ≡ true → (loops : List Bool) → AreLoops t loops
    → (c : kept.Certificate) → IsWorking names loops (length (functions_in b t)) c
    → (target : Target) (first : Gather) → IsNew target first → (g : Gathered) (stated : Bool) → g ≡ all_gathered names (functions_in b t) start (claims_in b t (sheet_by names c)) (gathered_of first) (asked_bounds stated (script_bounds (script_of b t)))
    → (may : Sets) → HasWritable names MAX_NAMES may → IsIdle c may g → Each (IsKeptAt (functions_in b t) start (claims_in b t (sheet_by names c)) g.place g.function) (asked_bounds stated (script_bounds (script_of b t)))
idle_keeps b d t names start knows a variables loops are c w target first new g stated is may all idle =
    let functions = functions_in b t in
    let h = numbered b d t names a in
    let ks = script_bounds (script_of b t) in
    all_idle names functions h loops (length functions) c w start target first new variables (asked_bounds stated ks) g is (all_passing (asked_passes (is_one_of names)) (is_asked stated) ks (all_lost b d t names a.numbered.0))
    (each_passing (AsksThere functions c) (is_asked stated) ks (rules_ask_there b d t names loops c a are w))
    (each_passing (BoundsNames start (claims_in b t (sheet_by names c))) (is_asked stated) ks
    (rules_know_names b d t names start (claims_in b t (sheet_by names c)) a knows (claims_names names functions h loops (length functions) c w start))) may all idle
