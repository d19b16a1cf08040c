-- A claim that is lowered, and drops that are added to.
use Rattle.std.proofs.Common.{◌≡◌, ℕ, min, ◌+◌, ◌<◌, ◌≤◌, ◌==◌, eqb, nat_eq, Bool, true, false, ◌&&◌, ◌||◌, Option, Some, None, option_map, List, length, slice_get, unwrap_or, is_some, refl, sym, ap, ap₂, ◌∙◌, subst, arith, inl, inr, true≢false}
use Rattle.std.proofs.Math.Bool.{or-false}
use Rattle.std.proofs.Math.Path.{fun_ext}
use Rattle.std.proofs.lemmas.Bool.{cases_Bool, cases_lt, and_from, or_cases, or_left, or_right, eqb-true, eq-eqb}
use Rattle.std.proofs.lemmas.Option.{slice_get_within}
use Rattle.indexmap.specs.IndexMap.{get}
use Rattle.sh_tree.specs.standard.program.Syntax.{Text}
use Rattle.sh_tree.specs.standard.language.Bytes.{is_name}
use Rattle.sh_rows.specs.declared.bits.BitRow.{BitRow}
use Rattle.sh_domain.specs.declared.certificate.Certificate.{Certificate}
use Rattle.sh_domain.specs.declared.certificate.Drops.{Drops}
use Rattle.sh_domain.specs.declared.certificate.Facts as value
use Rattle.sh_domain.specs.declared.certificate.Facts.TheVariants as value_kind
use Rattle.sh_domain.specs.declared.rows.RowId.{RowId}
use Rattle.sh_domain.specs.Forms.{is_variable}
use Rattle.sh_domain.specs.KeptRows.{KeptRows, Stay, bits_in, holds_at}
use Rattle.sh_domain.specs.declared.number_set.NumberSet.{NumberSet}
use Rattle.sh_domain.specs.NumberSets.{numbers_of}
use Rattle.sh_domain.specs.RoundTrips.{FactsPass, SetsPass}
use Rattle.sh_drafts.specs.declared.sight.Sight.{Sight}
use Rattle.sh_drafts.specs.Facts.{Facts, NotReached, Known, IsWithin, meet, with_args}
use Rattle.sh_drafts.specs.Kept.{sight_facts, seen_of, fact_of, IsNamed, IsPlaced}
use Rattle.sh_drafts.proofs.FactLemmas.{known_parts, stays_there, stays_placed, stays_same, meet_numbered, met_named, meet_second, within_nowhere}
use Rattle.sh_drafts.specs.Ranks.{IsNumbered}
use Rattle.sh_domain.specs.declared.certificate.FunctionEntry.{FunctionEntry}
use Rattle.sh_drafts.specs.declared.place.Part.TheVariants.{Head}
use Rattle.sh_drafts.specs.declared.place.Place.{Place}
use Rattle.sh_drafts.specs.Gathered.{Gathered}
use Rattle.sh_drafts.specs.Idle.{ClaimStays, CountStays, DropsStay, IsIdle}
use Rattle.sh_drafts.specs.Places.{same, at, is_of_command, is_of_function, kept_at, drops_at, IsPut, IsDropped}
use Rattle.sh_drafts.specs.Working.{Sets, sets_of, names_of, joined, claims, dropped, AreWithin, AreBelow, IsFine, AreFine, IsWorking, IsLowered, IsCounted}
use Rattle.sh_drafts.specs.Writable.{sets_in, HasWritable, IsWritten}
use Rattle.sh_drafts.proofs.KeptLemmas.{place_same}

-- Rows of drops

pub rows_few : {m n : ℕ} → m ≡ n → n ≤ 4096 → m ≤ 4096
rows_few same few = omega (arith, same, few)

pub drops_named : (names : ℕ) (vars functions : NumberSet) (a : ℕ) → AreBelow names (sets_in vars functions) → IsNamed names (Known (numbers_of vars) (numbers_of functions) a)
unfolding IsNamed
drops_named names vars functions a below = record { vars = below.vars; functions = below.functions }

pub vars_placed : (n : ℕ) (f : value.Facts) (v g : RowId) (a : ℕ) → f ≡ value_kind.Known v g a → IsPlaced n f → v.index < n
unfolding IsPlaced
vars_placed n f v g a is p = (subst (IsPlaced n) is p).0

pub functions_placed : (n : ℕ) (f : value.Facts) (v g : RowId) (a : ℕ) → f ≡ value_kind.Known v g a → IsPlaced n f → g.index < n
unfolding IsPlaced
functions_placed n f v g a is p = (subst (IsPlaced n) is p).1

-- facts that are equal know the same
pub vars_of : Facts → ℕ → Bool
vars_of NotReached k = false
vars_of (Known v f a) k = v k

pub functions_of : Facts → ℕ → Bool
functions_of NotReached k = false
functions_of (Known v f a) k = f k

pub args_of : Facts → ℕ
args_of NotReached = 0
args_of (Known v f a) = a

pub is_reached : Facts → Bool
is_reached NotReached = false
is_reached (Known v f a) = true

pub drops_kept : (rows : KeptRows) (vars functions : NumberSet) (f : value.Facts) (v g : RowId) (a b : ℕ) → f ≡ value_kind.Known v g a
    → fact_of rows.rows f ≡ Known (numbers_of vars) (numbers_of functions) b → sets_of rows (record { vars = v; functions = g }) ≡ sets_in vars functions
unfolding fact_of vars_of functions_of
drops_kept rows vars functions f v g a b is same =
    let e : fact_of rows.rows (value_kind.Known v g a) ≡ Known (numbers_of vars) (numbers_of functions) b = ap (fact_of rows.rows) (sym is) ∙ same in
    let left : holds_at rows.rows v.index ≡ numbers_of vars = ap vars_of e in
    let right : holds_at rows.rows g.index ≡ numbers_of functions = ap functions_of e in
    ap₂ (λ (x y : ℕ → Bool). record { vars = x; functions = y }) left right

pub drops_known : (rows : KeptRows) (vars functions : NumberSet) (f : value.Facts) (b : ℕ) → f ≡ value_kind.NotReached → fact_of rows.rows f ≡ Known (numbers_of vars) (numbers_of functions) b → ⊥
unfolding fact_of is_reached
drops_known rows vars functions f b is same =
    let e : fact_of rows.rows value_kind.NotReached ≡ Known (numbers_of vars) (numbers_of functions) b = ap (fact_of rows.rows) (sym is) ∙ same in
    let wrong : NotReached ≡ Known (numbers_of vars) (numbers_of functions) b = e in
    true≢false (sym (ap is_reached wrong))

-- Names that may be there

-- with the name of one more number, if it may be there
pub written_more : (names : List Text) (old new : Sets) (n : ℕ) (t : Text) (v f : Bool) → slice_get names n ≡ Some t → v ≡ is_variable t → f ≡ is_name t
    → ((k : ℕ) → new.vars k ≡ ((v && (k == n)) || old.vars k)) → ((k : ℕ) → new.functions k ≡ ((f && (k == n)) || old.functions k)) → IsWritten names old → IsWritten names new
written_more names old new n t v f at is_v is_f vars functions w = record {
  vars = λ k u is e. one k u is (is_variable u) v (old.vars k) (λ same. is_v ∙ ap is_variable same) (w.vars k u is) (sym (vars k) ∙ e);
  functions = λ k u is e. one k u is (is_name u) f (old.functions k) (λ same. is_f ∙ ap is_name same) (w.functions k u is) (sym (functions k) ∙ e);
}
  where
    same_text : (k : ℕ) (u : Text) → slice_get names k ≡ Some u → k ≡ n → t ≡ u
    same_text k u is e = ap (λ o. unwrap_or o t) (sym at ∙ ap (slice_get names) (sym e) ∙ is)

    one : (k : ℕ) (u : Text) → slice_get names k ≡ Some u → (passes is_one before : Bool) → (t ≡ u → is_one ≡ passes) → (before ≡ true → passes ≡ true) → ((is_one && (k == n)) || before) ≡ true → passes ≡ true
    one k u is passes is_one true same was e = was refl
    one k u is passes true false same was e = sym (same (same_text k u is (eqb-true k n (sym (or-false (k == n)) ∙ e))))
    one k u is passes false false same was e = absurd (true≢false (sym e))

-- all names that may be there

pub has_more : (names : List Text) (old new : Sets) (n : ℕ) (t : Text) (v f : Bool) → slice_get names n ≡ Some t → v ≡ is_variable t → f ≡ is_name t
    → ((k : ℕ) → new.vars k ≡ ((v && (k == n)) || old.vars k)) → ((k : ℕ) → new.functions k ≡ ((f && (k == n)) || old.functions k)) → HasWritable names n old → HasWritable names (n + 1) new
has_more names old new n t v f at is_v is_f vars functions h = record {
  vars = λ k u l is e. vars k ∙ one k u l is (is_variable u) v (old.vars k) (λ same. is_v ∙ ap is_variable same) (λ m. h.vars k u m is e) e;
  functions = λ k u l is e. functions k ∙ one k u l is (is_name u) f (old.functions k) (λ same. is_f ∙ ap is_name same) (λ m. h.functions k u m is e) e;
}
  where
    same_text : (k : ℕ) (u : Text) → slice_get names k ≡ Some u → k ≡ n → t ≡ u
    same_text k u is e = ap (λ o. unwrap_or o t) (sym at ∙ ap (slice_get names) (sym e) ∙ is)

    one : (k : ℕ) (u : Text) → k < n + 1 → slice_get names k ≡ Some u → (passes is_one before : Bool) → (t ≡ u → is_one ≡ passes) → (k < n → before ≡ true) → passes ≡ true → ((is_one && (k == n)) || before) ≡ true
    one k u l is passes is_one before same was e = elim (cases_lt k n) [
      | inl less ↦ or_right (is_one && (k == n)) before (was less)
      | inr far ↦
          let own : k ≡ n = omega (arith, l, far) in
          or_left (is_one && (k == n)) before (and_from is_one (k == n) (same (same_text k u is own) ∙ e) (eq-eqb k n own))
    ]

-- there are none after the last name
pub has_all : (names : List Text) (most n : ℕ) (s : Sets) → min (length names) most ≤ n → HasWritable names n s → HasWritable names most s
has_all names most n s all h = record {
  vars = λ k t low is e. h.vars k t (let l = slice_get_within names k t is in omega (arith, l, low, all)) is e;
  functions = λ k t low is e. h.functions k t (let l = slice_get_within names k t is in omega (arith, l, low, all)) is e;
}

-- Rows that grow

holds_still : (old new : List BitRow) (i : ℕ) → Stay old new → i < length old → (k : ℕ) → holds_at new i k ≡ holds_at old i k
holds_still old new i stay l k = ap (λ o. bits_in o k) (stay i l)

sets_still : (old new : KeptRows) (d : Drops) → Stay old.rows new.rows → d.vars.index < length old.rows → d.functions.index < length old.rows → sets_of new d ≡ sets_of old d
sets_still old new d stay v f =
    ap₂ (λ (x y : ℕ → Bool). record { vars = x; functions = y }) (ap bits_in (stay d.vars.index v)) (ap bits_in (stay d.functions.index f))

passes_still : (names : List Text) (old new : KeptRows) (v f : RowId) → Stay old.rows new.rows → v.index < length old.rows → f.index < length old.rows → SetsPass names old v f → SetsPass names new v f
passes_still names old new v f stay l m p = record {
  vars = λ k t is h. p.vars k t is (sym (holds_still old.rows new.rows v.index stay l k) ∙ h);
  functions = λ k t is h. p.functions k t is (sym (holds_still old.rows new.rows f.index stay m k) ∙ h);
}

facts_still : (names : List Text) (old new : KeptRows) (f : value.Facts) → Stay old.rows new.rows → IsPlaced (length old.rows) f → FactsPass names old f → FactsPass names new f
unfolding IsPlaced FactsPass
facts_still names old new value_kind.NotReached stay l p = tt
facts_still names old new (value_kind.Known v f a) stay l p = (passes_still names old new v f stay l.0 l.1 p.0, p.1)

fine_still : (names : List Text) (old new : KeptRows) (f : value.Facts) → Stay old.rows new.rows → IsFine names old f → IsFine names new f
fine_still names old new f stay fine = record {
  placed = stays_placed old.rows new.rows f stay fine.placed;
  numbered = subst (IsNumbered (length names)) (sym (stays_same old.rows new.rows f stay fine.placed)) fine.numbered;
  passes = facts_still names old new f stay fine.placed fine.passes;
}

drops_still : (names : List Text) (old new : KeptRows) (d : Drops) → Stay old.rows new.rows → AreFine names old d → AreFine names new d
drops_still names old new d stay fine = record {
  vars = stays_there old.rows new.rows d.vars.index stay fine.vars;
  functions = stays_there old.rows new.rows d.functions.index stay fine.functions;
  below = subst (AreBelow (length names)) (sym (sets_still old new d stay fine.vars fine.functions)) fine.below;
  passes = passes_still names old new d.vars d.functions stay fine.vars fine.functions fine.passes;
}

claims_still : (names : List Text) (old new : KeptRows) → Stay old.rows new.rows → (o : Option value.Facts) → ((f : value.Facts) → o ≡ Some f → IsFine names old f)
    → option_map (fact_of new.rows) o ≡ option_map (fact_of old.rows) o
claims_still names old new stay None h = refl
claims_still names old new stay (Some f) h = ap Some (stays_same old.rows new.rows f stay (h f refl).placed)

dropped_still : (names : List Text) (old new : KeptRows) → Stay old.rows new.rows → (o : Option Drops) → ((d : Drops) → o ≡ Some d → AreFine names old d)
    → option_map (sets_of new) o ≡ option_map (sets_of old) o
dropped_still names old new stay None h = refl
dropped_still names old new stay (Some d) h = ap Some (sets_still old new d stay (h d refl).vars (h d refl).functions)

-- What is kept depends on no rows

pub kept_still : (c d : Certificate) (q : Place) → d.entries ≡ c.entries → d.heads ≡ c.heads → d.functions ≡ c.functions → kept_at d q ≡ kept_at c q
unfolding kept_at
kept_still c d q entries heads functions = rw (entries, heads, functions) refl

pub is_there : {A B : Type 0} (g : A → B) (o : Option A) (x : A) → o ≡ Some x → is_some (option_map g o) ≡ true
is_there g o x e = ap (λ p. is_some (option_map g p)) e

pub heads_at : (c : Certificate) (i : ℕ) → kept_at c (at Head i) ≡ get nat_eq c.heads (i + 1)
unfolding kept_at is_of_command is_of_function
heads_at c i = refl

-- the facts of a sight that may be written
pub sight_passes : (names : List Text) (rows : KeptRows) (f : value.Facts) (s : Sight) → fact_of rows.rows f ≡ sight_facts s → IsWritten names (sets_in s.vars s.functions) → FactsPass names rows f
unfolding fact_of FactsPass vars_of functions_of args_of
sight_passes names rows value_kind.NotReached s e w = tt
sight_passes names rows (value_kind.Known v f a) s e w =
    let left : holds_at rows.rows v.index ≡ numbers_of s.vars = ap vars_of e in
    let right : holds_at rows.rows f.index ≡ numbers_of s.functions = ap functions_of e in
    let args : a ≡ s.args = ap args_of e in
    let few = s.bounded in (
      record {
        vars = λ k t is h. w.vars k t is (sym (ap (λ (g : ℕ → Bool). g k) left) ∙ h);
        functions = λ k t is h. w.functions k t is (sym (ap (λ (g : ℕ → Bool). g k) right) ∙ h);
      },
      omega (arith, args, few),
    )

-- A claim that is lowered

module _ (names : List Text) (loops : List Bool) (m : ℕ) (old mid new : Certificate) (p : Place) (f kept : value.Facts) (known : Facts)
    (is : kept_at old p ≡ Some f) (stay : Stay old.rows.rows mid.rows.rows) (count : mid.rows.count ≡ old.rows.count)
    (entries : mid.entries ≡ old.entries) (heads : mid.heads ≡ old.heads) (functions : mid.functions ≡ old.functions) (put : IsPut mid new p kept)
    (met : fact_of mid.rows.rows kept ≡ meet (fact_of old.rows.rows f) known) (working : IsWorking names loops m old) where
  same_rows : new.rows ≡ mid.rows
  same_rows = put.rows

  grown : Stay old.rows.rows new.rows.rows
  grown = subst (λ (r : KeptRows). Stay old.rows.rows r.rows) (sym same_rows) stay

  elsewhere : (q : Place) → same q p ≡ false → kept_at new q ≡ kept_at old q
  elsewhere q n = put.elsewhere q n ∙ kept_still old mid q entries heads functions

  drops_same : (i : ℕ) → drops_at new i ≡ drops_at old i
  drops_same i = put.drops i ∙ ap (λ v. option_map (λ (e : FunctionEntry). e.drops) (slice_get v.items i)) functions

  pub is_lowered : ¬ (IsWithin (fact_of old.rows.rows f) known) → IsLowered old new p known true
  unfolding claims dropped
  is_lowered fails = record {
    stays = λ e. absurd (true≢false e);
    there = λ e. is_there (fact_of old.rows.rows) (kept_at old p) f is;
    fails = λ e g at_p. λ w. fails (subst (λ h. IsWithin h known) (some_same _ _ (sym at_p ∙ ap (option_map (fact_of old.rows.rows)) is)) w);
    here = λ e. ap (option_map (fact_of new.rows.rows)) put.here ∙ ap (λ (r : KeptRows). Some (fact_of r.rows kept)) same_rows ∙ ap Some met ∙ sym (ap (λ o. option_map (λ g. meet g known) (option_map (fact_of old.rows.rows) o)) is);
    elsewhere = λ q n. ap (option_map (fact_of new.rows.rows)) (elsewhere q n) ∙ claims_still names old.rows new.rows grown (kept_at old q) (working.facts q);
    drops = λ i. ap (option_map (sets_of new.rows)) (drops_same i) ∙ dropped_still names old.rows new.rows grown (drops_at old i) (working.drops i);
  }
    where
      some_same : (x y : Facts) → Some x ≡ Some y → x ≡ y
      some_same x y e = cc

  fine_here : IsPlaced (length mid.rows.rows) kept → IsNumbered (length names) known → FactsPass names mid.rows kept → IsFine names new.rows kept
  fine_here placed numbered passes = subst (λ (r : KeptRows). IsFine names r kept) (sym same_rows) (record {
    placed = placed;
    numbered = subst (IsNumbered (length names)) (sym met) (meet_numbered (length names) (fact_of old.rows.rows f) known (working.facts p f is).numbered numbered);
    passes = passes;
  })

  pub works_with : IsFine names new.rows kept → IsWorking names loops m new
  works_with fine = record {
    count = ap (λ (r : KeptRows). r.count) same_rows ∙ count ∙ working.count;
    commands = put.entries ∙ ap (λ v. length v.items) entries ∙ working.commands;
    defined = put.functions ∙ ap (λ v. length v.items) functions ∙ working.defined;
    heads = λ i. ap is_some (sym (heads_at new i)) ∙ elim (cases_Bool (same (at Head i) p)) [
      | inl e ↦
          let q : at Head i ≡ p = place_same (at Head i) p e in
          ap (λ x. is_some (kept_at new x)) q ∙ ap is_some put.here ∙ sym (ap is_some is) ∙ ap (λ x. is_some (kept_at old x)) (sym q)
      | inr e ↦ ap is_some (elsewhere (at Head i) e)
    ] ∙ ap is_some (heads_at old i) ∙ working.heads i;
    low = put.low ∙ ap (λ h. get nat_eq h 0) heads ∙ working.low;
    facts = λ q g e. elim (cases_Bool (same q p)) [
      | inl s ↦ subst (IsFine names new.rows) (some_facts _ _ (sym put.here ∙ ap (kept_at new) (sym (place_same q p s)) ∙ e)) fine
      | inr s ↦ fine_still names old.rows new.rows g grown (working.facts q g (sym (elsewhere q s) ∙ e))
    ];
    drops = λ i d e. drops_still names old.rows new.rows d grown (working.drops i d (sym (drops_same i) ∙ e));
  }
    where
      some_facts : (x y : value.Facts) → Some x ≡ Some y → x ≡ y
      some_facts x y e = cc

  pub still_works : IsPlaced (length mid.rows.rows) kept → IsNumbered (length names) known → FactsPass names mid.rows kept → IsWorking names loops m new
  still_works placed numbered passes = works_with (fine_here placed numbered passes)

-- If nothing is lowered

pub nothing_claimed : (c : Certificate) (p : Place) (o : Option value.Facts) → o ≡ kept_at c p → o ≡ None → (f : Facts) → claims c p ≡ Some f → ⊥
unfolding claims
nothing_claimed c p o at none f e = true≢false (ap is_some (sym e ∙ ap (option_map (fact_of c.rows.rows)) (sym at ∙ none)))

pub claimed_is : (c : Certificate) (p : Place) (g : value.Facts) → kept_at c p ≡ Some g → (f : Facts) → claims c p ≡ Some f → fact_of c.rows.rows g ≡ f
unfolding claims
claimed_is c p g at f e = let same : Some (fact_of c.rows.rows g) ≡ Some f = sym (ap (option_map (fact_of c.rows.rows)) at) ∙ e in cc

pub names_within : (s : Sight) (f : Facts) (z : Sets) → sight_facts s ≡ f → AreWithin (names_of f) z → AreWithin (sets_in s.vars s.functions) z
unfolding names_of
names_within s f z e w = subst (λ (g : Facts). AreWithin (names_of g) z) (sym e) w

pub nothing_dropped : (c : Certificate) (i : ℕ) (o : Option Drops) → o ≡ drops_at c i → o ≡ None → (s : Sets) → dropped c i ≡ Some s → ⊥
unfolding dropped
nothing_dropped c i o at none s e = true≢false (ap is_some (sym e ∙ ap (option_map (sets_of c.rows)) (sym at ∙ none)))

pub dropped_is : (c : Certificate) (i : ℕ) (d : Drops) → drops_at c i ≡ Some d → (s : Sets) → dropped c i ≡ Some s → sets_of c.rows d ≡ s
unfolding dropped
dropped_is c i d at s e = let same : Some (sets_of c.rows d) ≡ Some s = sym (ap (option_map (sets_of c.rows)) at) ∙ e in cc

pub union_within : (rows : KeptRows) (d : Drops) (old new z : Sets) → ((k : ℕ) → new.vars k ≡ (holds_at rows.rows d.vars.index k || old.vars k))
    → ((k : ℕ) → new.functions k ≡ (holds_at rows.rows d.functions.index k || old.functions k)) → AreWithin (joined old (sets_of rows d)) z → AreWithin new z
union_within rows d old new z v f w = record { vars = λ k e. w.vars k (sym (v k) ∙ e); functions = λ k e. w.functions k (sym (f k) ∙ e) }

-- where no run comes, anything may be claimed
pub nowhere_stays : (c : Certificate) (p : Place) (known : Option Sight) (may : Sets) → known ≡ None → ClaimStays c p (seen_of known) may
unfolding seen_of
nowhere_stays c p known may none = subst (λ o. ClaimStays c p (seen_of o) may) (sym none) (record { within = λ f e w. within_nowhere f })

pub idle_both : (old mid : Certificate) (may : Sets) (g : Gathered) → mid ≡ old → ClaimStays old g.place g.known may → DropsStay mid g.function g.sets may → IsIdle old may g
idle_both old mid may g same claim drops = record { claim = claim; drops = subst (λ c. DropsStay c g.function g.sets may) same drops }

-- What is left fits

-- what a claim and what is known both claim
pub met_fits_known : (mid new : Certificate) (p : Place) (kept : value.Facts) (before known : Facts) (may : Sets) → IsPut mid new p kept → fact_of mid.rows.rows kept ≡ meet before known → ClaimStays new p known may
met_fits_known mid new p kept before known may put met = record {
  within = λ f e w.
      let left : meet before known ≡ f = sym met ∙ ap (λ (r : KeptRows). fact_of r.rows kept) (sym put.rows) ∙ claimed_is new p kept put.here f e in
      subst (λ (g : Facts). IsWithin g known) left (meet_second before known);
}

-- what may be dropped, with these too
pub union_has_both : (mid new : Certificate) (i : ℕ) (kept : Drops) (sets before may : Sets) → IsDropped mid new i kept → sets_of mid.rows kept ≡ joined sets before → DropsStay new i sets may
union_has_both mid new i kept sets before may put union = record {
  within = λ s e w.
      let left : joined sets before ≡ s = sym union ∙ ap (λ (r : KeptRows). sets_of r kept) (sym put.rows) ∙ dropped_is new i kept put.here s e in
      subst (AreWithin sets) left (record { vars = λ k h. or_right (before.vars k) (sets.vars k) h; functions = λ k h. or_right (before.functions k) (sets.functions k) h });
}

-- a claim that is lowered, and then drops that are added to
pub both_fit : (mid new : Certificate) (may : Sets) (g : Gathered) → claims new g.place ≡ claims mid g.place → ClaimStays mid g.place g.known may → DropsStay new g.function g.sets may → IsIdle new may g
both_fit mid new may g same claim drops = record { claim = record { within = λ f e w. claim.within f (sym same ∙ e) w }; drops = drops }

-- A count that is lowered

-- what a count leaves of facts that claim more
met_args : (rows : List BitRow) (v f : RowId) (a n : ℕ) → n < a → fact_of rows (value_kind.Known v f n) ≡ meet (fact_of rows (value_kind.Known v f a)) (with_args n)
unfolding fact_of meet
met_args rows v f a n less =
    let vars : holds_at rows v.index ≡ (λ k. holds_at rows v.index k && true) = fun_ext (λ k. both (holds_at rows v.index k)) in
    let functions : holds_at rows f.index ≡ (λ k. holds_at rows f.index k && true) = fun_ext (λ k. both (holds_at rows f.index k)) in
    let count : n ≡ min a n = omega (arith, less) in
    ap₂ (λ (x y : ℕ → Bool). Known x y n) vars functions ∙ ap (Known (λ k. holds_at rows v.index k && true) (λ k. holds_at rows f.index k && true)) count
  where
    both : (b : Bool) → b ≡ (b && true)
    both true = refl
    both false = refl

more_args : (rows : List BitRow) (v f : RowId) (a n : ℕ) → n < a → ¬ (IsWithin (fact_of rows (value_kind.Known v f a)) (with_args n))
unfolding fact_of
more_args rows v f a n less = λ w. let few = (known_parts _ _ _ _ _ _ w).args in omega (arith, less, few)

fine_args : (names : List Text) (rows : KeptRows) (v f : RowId) (a n : ℕ) → n < a → IsFine names rows (value_kind.Known v f a) → IsFine names rows (value_kind.Known v f n)
unfolding IsPlaced fact_of IsNumbered FactsPass
fine_args names rows v f a n less fine =
    let most = fine.numbered.args in
    let written = fine.passes.1 in
    record {
      placed = fine.placed;
      numbered = record { vars = fine.numbered.vars; functions = fine.numbered.functions; args = omega (arith, less, most) };
      passes = (fine.passes.0, omega (arith, less, written));
    }

module _ (old new : Certificate) (p : Place) (v f : RowId) (a n : ℕ) (is : kept_at old p ≡ Some (value_kind.Known v f a)) (less : n < a) (put : IsPut old new p (value_kind.Known v f n)) where
  pub args_lowered : (names : List Text) (loops : List Bool) (m : ℕ) → IsWorking names loops m old → IsLowered old new p (with_args n) true
  args_lowered names loops m working =
      is_lowered names loops m old old new p (value_kind.Known v f a) (value_kind.Known v f n) (with_args n) is (λ i l. refl) refl refl refl refl put (met_args old.rows.rows v f a n less) working (more_args old.rows.rows v f a n less)

  pub args_work : (names : List Text) (loops : List Bool) (m : ℕ) → IsWorking names loops m old → IsWorking names loops m new
  args_work names loops m working =
      works_with names loops m old old new p (value_kind.Known v f a) (value_kind.Known v f n) (with_args n) is (λ i l. refl) refl refl refl refl put (met_args old.rows.rows v f a n less) working
      (subst (λ (r : KeptRows). IsFine names r (value_kind.Known v f n)) (sym put.rows) (fine_args names old.rows v f a n less (working.facts p (value_kind.Known v f a) is)))

-- no more than a count

pub nothing_more : (c : Certificate) (p : Place) (n : ℕ) → kept_at c p ≡ None → CountStays c p n
nothing_more c p n is = record { few = λ v f a e. absurd (nothing_claimed c p None (sym is) refl (Known v f a) e) }

pub nowhere_more : (c : Certificate) (p : Place) (n : ℕ) → kept_at c p ≡ Some value_kind.NotReached → CountStays c p n
unfolding fact_of is_reached
nowhere_more c p n is = record { few = λ v f a e. absurd (true≢false (sym (ap is_reached (claimed_is c p value_kind.NotReached is (Known v f a) e)))) }

pub no_more : (c : Certificate) (p : Place) (v f : RowId) (a n : ℕ) → kept_at c p ≡ Some (value_kind.Known v f a) → a ≤ n → CountStays c p n
unfolding fact_of args_of
no_more c p v f a n is few = record { few = λ w g b e. let same : a ≡ b = ap args_of (claimed_is c p (value_kind.Known v f a) is (Known w g b) e) in omega (arith, few, same) }

-- Drops that are added to

pub union_below : (names : List Text) (rows : KeptRows) (d : Drops) (old : Sets) (new : Sets) → AreBelow (length names) (sets_of rows d) → AreBelow (length names) old
    → ((k : ℕ) → new.vars k ≡ (holds_at rows.rows d.vars.index k || old.vars k)) → ((k : ℕ) → new.functions k ≡ (holds_at rows.rows d.functions.index k || old.functions k)) → AreBelow (length names) new
union_below names rows d old new a b v f = record {
  vars = λ k e. elim (or_cases (holds_at rows.rows d.vars.index k) (old.vars k) (sym (v k) ∙ e)) [ inl h ↦ a.vars k h | inr h ↦ b.vars k h ];
  functions = λ k e. elim (or_cases (holds_at rows.rows d.functions.index k) (old.functions k) (sym (f k) ∙ e)) [ inl h ↦ a.functions k h | inr h ↦ b.functions k h ];
}

module _ (names : List Text) (loops : List Bool) (m : ℕ) (old mid new : Certificate) (i : ℕ) (d kept : Drops) (sets : Sets)
    (is : drops_at old i ≡ Some d) (stay : Stay old.rows.rows mid.rows.rows) (count : mid.rows.count ≡ old.rows.count)
    (entries : mid.entries ≡ old.entries) (heads : mid.heads ≡ old.heads) (functions : mid.functions ≡ old.functions) (put : IsDropped mid new i kept)
    (union : sets_of mid.rows kept ≡ joined sets (sets_of old.rows d)) (working : IsWorking names loops m old) where
  rows_same : new.rows ≡ mid.rows
  rows_same = put.rows

  rows_grown : Stay old.rows.rows new.rows.rows
  rows_grown = subst (λ (r : KeptRows). Stay old.rows.rows r.rows) (sym rows_same) stay

  others : (j : ℕ) → (j == i) ≡ false → drops_at new j ≡ drops_at old j
  others j n = put.elsewhere j n ∙ ap (λ v. option_map (λ (e : FunctionEntry). e.drops) (slice_get v.items j)) functions

  facts_same : (q : Place) → kept_at new q ≡ kept_at old q
  facts_same q = put.facts q ∙ kept_still old mid q entries heads functions

  pub is_counted : ¬ (AreWithin sets (sets_of old.rows d)) → IsCounted old new i sets true
  unfolding claims dropped
  is_counted fails = record {
    stays = λ e. absurd (true≢false e);
    there = λ e. is_there (sets_of old.rows) (drops_at old i) d is;
    fails = λ e s at_i. λ w. fails (subst (AreWithin sets) (some_sets _ _ (sym at_i ∙ ap (option_map (sets_of old.rows)) is)) w);
    here = λ e. ap (option_map (sets_of new.rows)) put.here ∙ ap (λ (r : KeptRows). Some (sets_of r kept)) rows_same ∙ ap Some union ∙ sym (ap (λ o. option_map (joined sets) (option_map (sets_of old.rows) o)) is);
    elsewhere = λ j n. ap (option_map (sets_of new.rows)) (others j n) ∙ dropped_still names old.rows new.rows rows_grown (drops_at old j) (working.drops j);
    claims = λ q. ap (option_map (fact_of new.rows.rows)) (facts_same q) ∙ claims_still names old.rows new.rows rows_grown (kept_at old q) (working.facts q);
  }
    where
      some_sets : (x y : Sets) → Some x ≡ Some y → x ≡ y
      some_sets x y e = cc

  pub counting_works : AreFine names mid.rows kept → IsWorking names loops m new
  counting_works fine = record {
    count = ap (λ (r : KeptRows). r.count) rows_same ∙ count ∙ working.count;
    commands = put.entries ∙ ap (λ v. length v.items) entries ∙ working.commands;
    defined = put.functions ∙ ap (λ v. length v.items) functions ∙ working.defined;
    heads = λ j. ap is_some (put.heads (j + 1)) ∙ ap (λ h. is_some (get nat_eq h (j + 1))) heads ∙ working.heads j;
    low = put.heads 0 ∙ ap (λ h. get nat_eq h 0) heads ∙ working.low;
    facts = λ q g e. fine_still names old.rows new.rows g rows_grown (working.facts q g (sym (facts_same q) ∙ e));
    drops = λ j x e. elim (cases_Bool (eqb j i)) [
      | inl s ↦ subst (AreFine names new.rows) (some_drops _ _ (sym put.here ∙ ap (drops_at new) (sym (eqb-true j i s)) ∙ e)) (subst (λ (r : KeptRows). AreFine names r kept) (sym rows_same) fine)
      | inr s ↦ drops_still names old.rows new.rows x rows_grown (working.drops j x (sym (others j s) ∙ e))
    ];
  }
    where
      some_drops : (x y : Drops) → Some x ≡ Some y → x ≡ y
      some_drops x y e = cc

-- What calls require

pub met_fits : (names n : ℕ) (f met : Facts) (s : Sight) → n ≡ names → met ≡ meet f (sight_facts s) → IsNamed names (sight_facts s) → IsNamed n met
met_fits names n f met s e is h = subst (λ k. IsNamed k met) (sym e) (subst (IsNamed names) (sym is) (met_named names f s h))

pub there_still : (c d : Certificate) (p : Place) (o : Option value.Facts) (f : value.Facts) → d.entries ≡ c.entries → d.heads ≡ c.heads → d.functions ≡ c.functions
    → o ≡ kept_at c p → o ≡ Some f → is_some (kept_at d p) ≡ true
there_still c d p o f entries heads functions e is = ap is_some (kept_still c d p entries heads functions ∙ sym e ∙ is)

pub drops_there : (fs : List FunctionEntry) (i : ℕ) (o : Option Drops) (d : Drops) → o ≡ option_map (λ (e : FunctionEntry). e.drops) (slice_get fs i) → o ≡ Some d
    → is_some (option_map (λ (e : FunctionEntry). e.drops) (slice_get fs i)) ≡ true
drops_there fs i o d e is = ap is_some (sym e ∙ is)

-- the drops with those that are added, as they are kept
pub union_kept : (rows mid : KeptRows) (d kept : Drops) (old new : Sets) → sets_of mid kept ≡ new → ((k : ℕ) → new.vars k ≡ (holds_at rows.rows d.vars.index k || old.vars k))
    → ((k : ℕ) → new.functions k ≡ (holds_at rows.rows d.functions.index k || old.functions k)) → sets_of mid kept ≡ joined old (sets_of rows d)
union_kept rows mid d kept old new e v f = e ∙ ap₂ (λ (x y : ℕ → Bool). record { vars = x; functions = y }) (fun_ext v) (fun_ext f)

pub fine_drops : (names : List Text) (rows : KeptRows) (d : Drops) (s : Sets) → sets_of rows d ≡ s → d.vars.index < length rows.rows → d.functions.index < length rows.rows → AreBelow (length names) s
    → IsWritten names s → AreFine names rows d
fine_drops names rows d s e v f below w = record {
  vars = v;
  functions = f;
  below = subst (AreBelow (length names)) (sym e) below;
  passes = record {
    vars = λ k t is h. w.vars k t is (sym (ap (λ (z : Sets). z.vars k) e) ∙ h);
    functions = λ k t is h. w.functions k t is (sym (ap (λ (z : Sets). z.functions k) e) ∙ h);
  };
}
