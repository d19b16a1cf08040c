-- What is gathered of two places in one visit is numbered, and holds for each certificate that
-- keeps the rules.
use Rattle.std.proofs.Common.{◌≡◌, ℕ, Bool, true, false, if◌then◌else◌, Option, None, Some, List, [], ◌∷◌, length, fold, refl, sym, ap, ap₂, ◌∙◌, subst, true≢false}
use Rattle.std.proofs.lemmas.Bool.{false_from_ne_true}
use Rattle.std.proofs.lemmas.List.Sums.{fold-append}
use Rattle.sh_tree.specs.standard.program.Syntax.{Text}
use Rattle.sh_domain.specs.Filled.{is_stated}
use Rattle.sh_domain.specs.declared.certificate.Certificate as kept
use Rattle.sh_domain.specs.declared.rule.FlowRule.{FlowRule}
use Rattle.sh_domain.specs.Entries.{Entered}
use Rattle.sh_domain.specs.Facts.{Facts, Claim, facts, meet}
use Rattle.sh_domain.specs.Inclusions.{Each}
use Rattle.sh_domain.specs.Knowledge.{AreNumbered, among}
use Rattle.sh_domain.specs.Operands.{Names}
use Rattle.sh_domain.specs.Order.{IsWithin, seen_facts}
use Rattle.sh_domain.specs.Rules.{Constraint, Within, Counted, bound}
use Rattle.sh_domain.specs.Sheets.{Sheet}
use Rattle.sh_domain.specs.Views as views
use Rattle.sh_domain.specs.Views.{Certificate, Slot, Seen, view_facts}
use Rattle.sh_domain.proofs.EachLemmas.{each_weaker}
use Rattle.sh_domain.proofs.OrderLemmas.{within_nowhere}
use Rattle.sh_drafts.specs.Facts as number
use Rattle.sh_drafts.specs.Kept.{IsNamed, seen_of}
use Rattle.sh_rules.specs.Above.{Allows, Ask, OfFunction, OfPlace, ask}
use Rattle.sh_rules.specs.Asked.{ByConstraints}
use Rattle.sh_rules.specs.Meaning.{knows, met_at}
use Rattle.sh_rules.specs.Settings.{Setting, certificate, claimed_at}
use Rattle.sh_rules.specs.Visits.{command_by}
use Rattle.sh_domain.specs.Admitted.{IsAdmitted, claims_in, functions_in}
use Rattle.sh_sweeps.specs.declared.gather.Gather.{Gather}
use Rattle.sh_drafts.specs.declared.target.Target.{Target}
use Rattle.sh_drafts.specs.declared.place.Place.{Place}
use Rattle.sh_sweeps.specs.declared.sides.Sides.{Sides}
use Rattle.sh_drafts.specs.declared.subject.Subject.{Subject}
use Rattle.sh_drafts.specs.Gathered.{Gathered, bounded, counted, is_at}
use Rattle.sh_drafts.specs.Numbers.{by_name, by_number}
use Rattle.sh_drafts.specs.Places.{claim_there, is_stated_part, place_of}
use Rattle.sh_sweeps.specs.Sides.{Sided, AreNumbersBeside, IsQuietBeside, StandsBeside, bounded_at, counted_of, first_of, second_of, known_at, sided_of, siding, with_beside}
use Rattle.sh_drafts.specs.declared.sight.Sight.{Sight}
use Rattle.sh_sweeps.specs.Asked.{asking_by, is_asked_of, IsNew, gathered_of}
use Rattle.sh_drafts.specs.Stated.{is_free}
use Rattle.sh_drafts.specs.Ready.{IsOver, Keeps}
use Rattle.sh_sweeps.specs.Sweeps.{IsPart, Knows, setting_by}
use Rattle.sh_drafts.specs.Turns.{AreNumbers, IsQuiet, Stands}
use Rattle.sh_drafts.specs.Starts.{start_of}
use Rattle.sh_drafts.proofs.GatherLemmas.{drop_numbered, drop_stands, place_numbered, place_stands}
use Rattle.sh_sweeps.proofs.MetLemmas.{names_numbered, named_claim, one_allows, one_asks}
use Rattle.sh_drafts.proofs.NumberLemmas.{among_numbered, meet_numbered}
use Rattle.sh_drafts.proofs.TogetherLemmas.{if_meet, meets_grouped, nothing_met}
use Rattle.sh_sweeps.proofs.StatedLemmas.{not_true}
use Rattle.sh_sweeps.proofs.TurnLemmas.{met_quiet, new_numbers, new_quiet, new_stands}

-- One thing more, beside what is gathered for a place

module _ (names functions : List Text) where
  module _ (slot : Slot) (c : Claim) (k : Facts) (g mid : Gathered) (p : Place) (o : Option Place) (here : Bool) (f : number.Facts)
      (first : mid ≡ bounded names functions slot c k g) (found : o ≡ place_of functions slot) (is : here ≡ is_at o p) where
    bounds : (b : Bool) → here ≡ b → (if b then number.meet f (by_number names k) else f) ≡ known_at names functions (place_of functions slot) p k f
    bounds b e = ap (λ (t : Bool). if t then number.meet f (by_number names k) else f) (sym e ∙ is ∙ ap (λ (q : Option Place). is_at q p) found)

    sides : (h : number.Facts) → h ≡ known_at names functions (place_of functions slot) p k f → with_beside mid p h ≡ bounded_at names functions slot k (with_beside g p f)
    unfolding bounded bounded_at
    sides h e = ap₂ (λ (m : Gathered) (h : number.Facts). with_beside m p h) first e

    pub side_here : (new : number.Facts) → here ≡ true → new ≡ number.meet f (by_number names k) → with_beside mid p new ≡ bounded_at names functions slot k (with_beside g p f)
    side_here new e met = sides new (met ∙ bounds true e)

    pub side_away : here ≡ false → with_beside mid p f ≡ bounded_at names functions slot k (with_beside g p f)
    side_away e = sides f (bounds false e)

  pub side_counted : (f : Text) (may lost : Names) (g mid : Gathered) (p : Place) (h : number.Facts) → mid ≡ counted names functions f may lost g
      → with_beside mid p h ≡ counted_of names functions f lost (with_beside g p h)
  unfolding counted counted_of
  side_counted f may lost g mid p h is = ap (λ (m : Gathered). with_beside m p h) is

-- Nothing was required

module _ (target : Target) (g : Gather) (new : IsNew target g) (p : Place) where
  abbrev begun : Sides
  begun = record { gather = g; place = p; known = None }

  pub begun_numbers : (names : ℕ) → AreNumbersBeside names (sided_of begun)
  unfolding sided_of gathered_of seen_of IsNamed
  begun_numbers names =
      let one = new_numbers target g new names in
      record { first = record { known = one.known; sets = one.sets }; second = record { known = tt; sets = one.sets } }

  pub begun_stands : (names : List Text) (other : Sheet) → StandsBeside names other (sided_of begun)
  unfolding sided_of gathered_of seen_of by_name
  begun_stands names other =
      let one = new_stands target g new names other in
      record {
        first = record { place = one.place; vars = one.vars; functions = one.functions };
        second = record { place = within_nowhere _; vars = one.vars; functions = one.functions };
      }

  pub begun_quiet : IsQuietBeside (sided_of begun)
  unfolding sided_of gathered_of seen_of
  begun_quiet =
      let one = new_quiet target g new in
      record { first = record { known = one.known; vars = one.vars; functions = one.functions }; second = record { known = λ e. refl; vars = one.vars; functions = one.functions } }

-- What is gathered follows the constraints

module _ (names functions : List Text) (d : Facts) (c : Certificate) where
  unfoldable one : Sided → Constraint → Sided
  one g (Within slot n rule v) = bounded_at names functions slot (view_facts d c v) g
  one g (Counted f n loss) = counted_of names functions f (views.lost d c n loss) g

  module _ (h : AreNumbered names) (slot : Slot) (n : ℕ) (rule : FlowRule) where
    met_both : (b : Bool) (f : number.Facts) (v : Facts) (w : Facts)
        → (if b then number.meet (if b then number.meet f (by_number names v) else f) (by_number names (among names w)) else (if b then number.meet f (by_number names v) else f))
        ≡ (if b then number.meet f (by_number names (among names (meet v w))) else f)
    met_both b f v w =
        if_meet names functions b f (by_number names v) (by_number names (among names w)) (by_number names (among names (meet v w)))
        (ap (number.meet (number.meet f (by_number names v))) (among_numbered names h w)
        ∙ meets_grouped names functions f (by_number names v) (by_number names w)
        ∙ ap (number.meet f) (sym (among_numbered names h (meet v w) ∙ meet_numbered names v w)))

    seen_at : (s : Seen) (g : Sided) → fold one g (bound slot n rule s) ≡ bounded_at names functions slot (among names (seen_facts d c s)) g
    unfolding one bounded_at seen_facts among by_number
    seen_at [] g =
        ap₂ (λ (f h : number.Facts). record g { known = f; beside = h })
        (nothing_met names functions (is_at (place_of functions slot) g.place) g.known)
        (nothing_met names functions (is_at (place_of functions slot) g.other) g.beside)
    seen_at (v ∷ s) g =
        seen_at s (bounded_at names functions slot (view_facts d c v) g)
        ∙ ap₂ (λ (f h : number.Facts). record g { known = f; beside = h })
        (met_both (is_at (place_of functions slot) g.place) g.known (view_facts d c v) (seen_facts d c s))
        (met_both (is_at (place_of functions slot) g.other) g.beside (view_facts d c v) (seen_facts d c s))

pub sides_by : (x : Setting) (d : Facts) → AreNumbered x.names → ByConstraints Sided siding x d
unfolding knows one
sides_by x d h = record {
  all = λ g ks. fold (one x.names x.functions d (certificate x)) g ks;
  none = λ g. refl;
  joined = λ g ks ls. fold-append (one x.names x.functions d (certificate x)) g ks ls;
  bounded = λ slot n rule s g. seen_at x.names x.functions d (certificate x) h slot n rule s g;
  counted = λ f n l g. refl;
}

-- All that is required

module _ (s : Subject) (c : kept.Certificate) where
  abbrev functions : List Text
  functions = functions_in s.script.now s.tree.now

  asks_numbered : (qs : List Ask) (g : Sided) → AreNumbersBeside (length s.names.now) g → AreNumbersBeside (length s.names.now) (fold (ask siding (setting_by s c)) g qs)
  unfolding ask bounded bounded_at counted counted_of
  asks_numbered [] g a = a
  asks_numbered (OfPlace slot f k ∷ qs) g a =
      let one = place_numbered s.names.now functions (start_of s) slot (claimed_at (setting_by s c) slot) k (first_of g) a.first in
      let two = place_numbered s.names.now functions (start_of s) slot (claimed_at (setting_by s c) slot) k (second_of g) a.second in
      asks_numbered qs _ (record { first = record { known = one.known; sets = one.sets }; second = record { known = two.known; sets = two.sets } })
  asks_numbered (OfFunction function f lost ∷ qs) g a =
      let one = drop_numbered s.names.now functions (start_of s) function lost lost (first_of g) a.first in
      let two = drop_numbered s.names.now functions (start_of s) function lost lost (second_of g) a.second in
      asks_numbered qs _ (record { first = record { known = one.known; sets = one.sets }; second = record { known = two.known; sets = two.sets } })

  asks_quiet : (qs : List Ask) (g : Sided) → Each (λ q. is_asked_of true q ≡ true) qs → IsQuietBeside g → IsQuietBeside (fold (ask siding (setting_by s c)) g qs)
  unfolding Each ask is_asked_of is_free bounded_at
  asks_quiet [] g h q = q
  asks_quiet (OfPlace slot f k ∷ qs) g h q =
      let free = not_true (is_stated slot) h.0 in
      asks_quiet qs _ h.1 (record {
        first = record { known = met_quiet s.names.now functions slot g.place (by_number s.names.now k) g.known free q.first.known; vars = q.first.vars; functions = q.first.functions };
        second = record { known = met_quiet s.names.now functions slot g.other (by_number s.names.now k) g.beside free q.second.known; vars = q.second.vars; functions = q.second.functions };
      })
  asks_quiet (OfFunction function f lost ∷ qs) g h q = absurd (true≢false (sym h.0))

  module _ (other : Sheet) (keeps : Keeps s other) where
    asks_stand : (qs : List Ask) (g : Sided) → Each (Allows s.names.now (claims_in s.script.now s.tree.now other)) qs → StandsBeside s.names.now other g
        → StandsBeside s.names.now other (fold (ask siding (setting_by s c)) g qs)
    unfolding Each ask Allows bounded bounded_at counted counted_of
    asks_stand [] g all st = st
    asks_stand (OfPlace slot f k ∷ qs) g all st =
        let within : IsWithin (facts ((claims_in s.script.now s.tree.now other).claim slot)) k = subst (λ m. IsWithin m k) (named_claim s c other keeps slot) all.0 in
        let one = place_stands s.names.now functions (start_of s) other keeps.fit slot (claimed_at (setting_by s c) slot) k (first_of g) within st.first in
        let two = place_stands s.names.now functions (start_of s) other keeps.fit slot (claimed_at (setting_by s c) slot) k (second_of g) within st.second in
        asks_stand qs _ all.1
        (record {
          first = record { place = one.place; vars = one.vars; functions = one.functions };
          second = record { place = two.place; vars = two.vars; functions = two.functions };
        })
    asks_stand (OfFunction function f lost ∷ qs) g all st =
        let one = drop_stands s.names.now functions (start_of s) other keeps.fit function lost lost (first_of g) all.0 st.first in
        let two = drop_stands s.names.now functions (start_of s) other keeps.fit function lost lost (second_of g) all.0 st.second in
        asks_stand qs _ all.1
        (record {
          first = record { place = one.place; vars = one.vars; functions = one.functions };
          second = record { place = two.place; vars = two.vars; functions = two.functions };
        })

-- at one command

module _ (s : Subject) (admitted : IsAdmitted s.script.now s.policy.now s.tree.now s.names.now) (e : Entered) (part : IsPart s (e ∷ [])) (c : kept.Certificate) (k : Facts) (old : Sided) where
  abbrev new : Sided
  new = command_by (asking_by s.stated siding) (setting_by s c) old (met_at e k)

  abbrev by : ByConstraints Sided siding (setting_by s c) (start_of s)
  by = sides_by (setting_by s c) (start_of s) (names_numbered s admitted)

  pub sides_numbers : AreNumbersBeside (length s.names.now) old → AreNumbersBeside (length s.names.now) new
  sides_numbers a =
      let asks = one_asks s admitted siding e part c by k old in
      subst (AreNumbersBeside (length s.names.now)) (sym asks.reached) (asks_numbered s c asks.asks old a)

  pub sides_stand : IsOver s c → Knows s e.seen k → (other : Sheet) → Keeps s other → StandsBeside s.names.now other old → StandsBeside s.names.now other new
  sides_stand over knows other keeps st =
      let asks = one_allows s admitted siding e part c by k old over knows other keeps in
      subst (StandsBeside s.names.now other) (sym asks.reached) (asks_stand s c other keeps asks.asks old (each_weaker (λ q p. p.1) asks.asks asks.each) st)

  pub sides_quiet : s.stated ≡ true → IsQuietBeside old → IsQuietBeside new
  sides_quiet is q =
      let asks = one_asks s admitted siding e part c by k old in
      subst IsQuietBeside (sym asks.reached) (asks_quiet s c asks.asks old (each_weaker (λ r p. subst (λ b. is_asked_of b r ≡ true) is p.0) asks.asks asks.each) q)

-- The first place as it was gathered

apart_known : (v f : ℕ → Bool) (a : ℕ) → number.Known v f a ≡ number.NotReached → ⊥
apart_known v f a e = cc

module _ (g : Sides) where
  pub first_numbers : (names : ℕ) → AreNumbersBeside names (sided_of g) → AreNumbers names (gathered_of g.gather)
  unfolding sided_of
  first_numbers names a = record { known = a.first.known; sets = a.first.sets }

  pub first_stands : (names : List Text) (other : Sheet) → StandsBeside names other (sided_of g) → Stands names other (gathered_of g.gather)
  unfolding sided_of
  first_stands names other st = record { place = st.first.place; vars = st.first.vars; functions = st.first.functions }

  pub first_quiet : IsQuietBeside (sided_of g) → IsQuiet (gathered_of g.gather)
  unfolding sided_of
  first_quiet q = record { known = q.first.known; vars = q.first.vars; functions = q.first.functions }

  -- where something is known at the second place, its claim is not stated
  pub second_free : IsQuietBeside (sided_of g) → (sight : Sight) → g.known ≡ Some sight → is_stated_part g.place.part ≡ false
  unfolding sided_of seen_of
  second_free q sight is = false_from_ne_true (is_stated_part g.place.part) (λ e. apart_known _ _ _ (sym (ap seen_of is) ∙ q.second.known e))

  pub second_named : (names : ℕ) → AreNumbersBeside names (sided_of g) → IsNamed names (seen_of g.known)
  unfolding sided_of
  second_named names a = a.second.known

  pub second_stands : (names : List Text) (other : Sheet) → StandsBeside names other (sided_of g) → IsWithin (facts (claim_there other (Some g.place))) (by_name names (seen_of g.known))
  unfolding sided_of
  second_stands names other st = st.second.place
