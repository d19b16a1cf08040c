-- The certificate that claims what is stated, and everything elsewhere.
use Rattle.std.proofs.Common.{◌≡◌, ℕ, ◌+◌, ◌<◌, ◌≤◌, ◌==◌, nat_lt, Bool, true, false, ◌&&◌, ◌||◌, if◌then◌else◌, Option, Some, None, option_map, is_some, List, length, slice_get, refl, sym, ap, ap₂, ◌∙◌, subst, arith, inl, inr, true≢false, eq-eqb}
use Rattle.std.specs.Prelude.{nat_eq, option_and_then}
use Rattle.std.proofs.Math.Path.{fun_ext}
use Rattle.std.proofs.lemmas.Bool.{cases_Bool, cases_lt, eqb-true, le-ltb, lt-ltb, or_cases}
use Rattle.std.proofs.lemmas.Option.{slice_get_past}
use Rattle.indexmap.specs.IndexMap.{get}
use Rattle.sh_domain.specs.declared.certificate.Certificate.{Certificate}
use Rattle.sh_domain.specs.declared.certificate.FunctionEntry.{FunctionEntry}
use Rattle.sh_rows.specs.declared.bits.BitRow.{BitRow}
use Rattle.sh_tree.specs.declared.limits.TheConstants.{MAX_NAMES}
use Rattle.sh_tree.specs.standard.program.Syntax.{Text}
use Rattle.sh_domain.specs.declared.rows.RowId.{RowId}
use Rattle.sh_domain.specs.KeptRows.{KeptRows, holds_at}
use Rattle.sh_domain.specs.Knowledge.{AreNumbered}
use Rattle.sh_domain.proofs.RowLemmas.{bits_at}
use Rattle.sh_domain.specs.declared.compact.Compact.{Compact}
use Rattle.sh_drafts.specs.declared.place.Part.{Part}
use Rattle.sh_drafts.specs.declared.place.Part.TheVariants.{Before, Zero, Nonzero, Head, Entered, ReturnZero, ReturnNonzero}
use Rattle.sh_drafts.specs.declared.place.Place.{Place}
use Rattle.sh_drafts.specs.Begun.{HasStated, IsStateable, IsBegun, IsBegunAt, drops_stated, functions_below, heads_below, stated_at, states}
use Rattle.sh_drafts.specs.Facts as number
use Rattle.sh_drafts.specs.First.{ClaimsAll, DropsNothing}
use Rattle.sh_drafts.specs.Idle.{ClaimStays, DropsStay}
use Rattle.sh_drafts.specs.Kept.{IsNamed, fact_of}
use Rattle.sh_drafts.specs.Places.{at, function_part, is_of_command, is_of_function, is_stated_part, rank, same}
use Rattle.sh_drafts.specs.Working.{AreBelow, AreWithin, IsCounted, IsLowered, Sets, claims, dropped, joined, names_of, sets_of}
use Rattle.sh_drafts.specs.Writable.{HasWritable}
use Rattle.sh_drafts.proofs.WrittenLemmas.{named_below, written_within}
use Rattle.sh_drafts.proofs.KeptLemmas.{place_same}

-- Places that are done

less_next : (x i : ℕ) → ((x == i) || nat_lt x i) ≡ nat_lt x (i + 1)
less_next x i = elim (cases_Bool (x == i)) [
  | inl e ↦ let same : x ≡ i = eqb-true x i e in ap (λ b. b || nat_lt x i) e ∙ sym (lt-ltb x (i + 1) (omega (arith, same)))
  | inr e ↦ ap (λ b. b || nat_lt x i) e ∙ elim (cases_lt x i) [
    | inl l ↦ lt-ltb x i l ∙ sym (lt-ltb x (i + 1) (omega (arith, l)))
    | inr l ↦ le-ltb x i l ∙ sym (le-ltb x (i + 1) (far e l))
  ]
]
  where
    far : (x == i) ≡ false → i ≤ x → i + 1 ≤ x
    far e l = elim (cases_lt i x) [
      | inl m ↦ omega (arith, m)
      | inr m ↦ let same : x ≡ i = omega (arith, l, m) in absurd (true≢false (sym (eq-eqb x i same) ∙ e))
    ]

none_here : (b : Bool) → ((b && false) || false) ≡ false
none_here true = refl
none_here false = refl

one_here : (b l m : Bool) → (b || l) ≡ m → ((b && true) || l) ≡ m
one_here true l m e = e
one_here false l m e = e

pub heads_next : (i : ℕ) (p : Place) → (same p (at Head i) || heads_below i p) ≡ heads_below (i + 1) p
unfolding heads_below is_stated_part is_of_function rank
heads_next i p = of_part p.part p.index
  where
    of_part : (part : Part) (x : ℕ) → (same (at part x) (at Head i) || heads_below i (at part x)) ≡ heads_below (i + 1) (at part x)
    of_part Before x = none_here (x == i)
    of_part Zero x = none_here (x == i)
    of_part Nonzero x = none_here (x == i)
    of_part Head x = one_here (x == i) _ _ (less_next x i)
    of_part Entered x = none_here (x == i)
    of_part ReturnZero x = none_here (x == i)
    of_part ReturnNonzero x = none_here (x == i)

never_less : (i : ℕ) → nat_lt i i ≡ false
never_less i = le-ltb i i (omega arith)

pub head_left : (i : ℕ) → heads_below i (at Head i) ≡ false
unfolding heads_below is_stated_part is_of_function
head_left i = never_less i

abbrev pub entered_too : ℕ → Place → Bool
entered_too i q = same q (at Entered i) || functions_below i q

abbrev pub zero_too : ℕ → Place → Bool
zero_too i q = same q (at ReturnZero i) || entered_too i q

pub entered_left : (i : ℕ) → functions_below i (at Entered i) ≡ false
unfolding functions_below is_stated_part is_of_function
entered_left i = never_less i

and_false : (b c : Bool) → c ≡ false → ((b && false) || c) ≡ false
and_false true c e = e
and_false false c e = e

pub zero_left : (i : ℕ) → entered_too i (at ReturnZero i) ≡ false
unfolding functions_below is_stated_part is_of_function rank
zero_left i = and_false (i == i) _ (never_less i)

pub nonzero_left : (i : ℕ) → zero_too i (at ReturnNonzero i) ≡ false
unfolding functions_below is_stated_part is_of_function rank
nonzero_left i = and_false (i == i) _ (and_false (i == i) _ (never_less i))

three_none : (b c : Bool) → ((b && false) || ((b && false) || ((b && false) || c))) ≡ c
three_none true c = refl
three_none false c = refl

first_one : (b l m : Bool) → (b || l) ≡ m → ((b && false) || ((b && false) || ((b && true) || l))) ≡ m
first_one true l m e = e
first_one false l m e = e

second_one : (b l m : Bool) → (b || l) ≡ m → ((b && false) || ((b && true) || ((b && false) || l))) ≡ m
second_one true l m e = e
second_one false l m e = e

third_one : (b l m : Bool) → (b || l) ≡ m → ((b && true) || ((b && false) || ((b && false) || l))) ≡ m
third_one true l m e = e
third_one false l m e = e

pub functions_next : (i : ℕ) (p : Place) → (same p (at ReturnNonzero i) || zero_too i p) ≡ functions_below (i + 1) p
unfolding functions_below is_stated_part is_of_function rank
functions_next i p = of_part p.part p.index
  where
    of_part : (part : Part) (x : ℕ) → (same (at part x) (at ReturnNonzero i) || zero_too i (at part x)) ≡ functions_below (i + 1) (at part x)
    of_part Before x = three_none (x == i) false
    of_part Zero x = three_none (x == i) false
    of_part Nonzero x = three_none (x == i) false
    of_part Head x = three_none (x == i) true
    of_part Entered x = first_one (x == i) _ _ (less_next x i)
    of_part ReturnZero x = second_one (x == i) _ _ (less_next x i)
    of_part ReturnNonzero x = third_one (x == i) _ _ (less_next x i)

-- One place more

either_false : (a b : Bool) → (a || b) ≡ false → (a ≡ false) × (b ≡ false)
either_false true b e = absurd (true≢false e)
either_false false b e = (refl, e)

none_there : {A : Type 0} (o : Option A) → is_some o ≡ false → o ≡ None
none_there None e = refl
none_there (Some x) e = absurd (true≢false e)

there_so : {A : Type 0} (o : Option A) → is_some o ≡ true → (x : A) × (o ≡ Some x)
there_so None e = absurd (true≢false (sym e))
there_so (Some x) e = (x, refl)

module _ (k : Compact) (done : Place → Bool) (first : ℕ) where
  -- the places that are done may be said otherwise
  pub begun_so : (other : Place → Bool) (c : Certificate) → ((p : Place) → done p ≡ other p) → IsBegunAt k done first c → IsBegunAt k other first c
  begun_so other c e b = subst (λ d. IsBegunAt k d first c) (fun_ext e) b

  -- where nothing is stated at a place
  pub begun_none : (c : Certificate) (p : Place) → is_stated_part p.part ≡ true → states k p ≡ None → IsBegunAt k done first c → IsBegunAt k (λ q. same q p || done q) first c
  begun_none c p stated none b = record {
    there = λ q e. elim (or_cases (same q p) (done q) e) [
      | inl s ↦ subst (λ r. claims c r ≡ states k r) (sym (place_same q p s)) (none_there (claims c p) (b.has.claims p stated ∙ ap is_some none) ∙ sym none)
      | inr d ↦ b.there q d
    ];
    left = λ q f e is. b.left q f (either_false (same q p) (done q) e).1 is;
    drops = b.drops;
    dropless = b.dropless;
    has = b.has;
  }

  module _ (old new : Certificate) (p : Place) (known : number.Facts) (may : Sets) (changed : Bool) (stated : is_stated_part p.part ≡ true) (away : done p ≡ false) (is : states k p ≡ Some known)
      (low : IsLowered old new p known changed) (idle : changed ≡ false → ClaimStays old p known may) (within : AreWithin (names_of known) may) (b : IsBegunAt k done first old) where
    before : claims old p ≡ Some number.NotReached
    before =
        let there = there_so (claims old p) (b.has.claims p stated ∙ ap is_some is) in
        there.1 ∙ ap Some (b.left p there.0 away there.1)

    all_left : (f : number.Facts) → AreWithin (names_of f) may → number.IsWithin number.NotReached f → f ≡ number.NotReached
    unfolding number.claims
    all_left number.NotReached w i = refl
    all_left (number.Known v g a) w i = absurd (true≢false (sym (i.claimed number.Nowhere refl)))

    meets : (f : number.Facts) → number.meet number.NotReached f ≡ f
    unfolding number.meet
    meets number.NotReached = refl
    meets (number.Known v g a) = refl

    here : claims new p ≡ Some known
    here = by changed refl
      where
        by : (x : Bool) → changed ≡ x → claims new p ≡ Some known
        by true e = low.here e ∙ ap (option_map (λ f. number.meet f known)) before ∙ ap Some (meets known)
        by false e =
            let none = all_left known within ((idle e).within number.NotReached before (subst (λ f. AreWithin (names_of f) may) (sym (meets known)) within)) in
            ap (λ c. claims c p) (low.stays e) ∙ before ∙ sym (ap Some none)

    pub begun_more : IsBegunAt k (λ q. same q p || done q) first new
    begun_more = record {
      there = λ q e. elim (cases_Bool (same q p)) [
        | inl s ↦ subst (λ r. claims new r ≡ states k r) (sym (place_same q p s)) (here ∙ sym is)
        | inr s ↦ low.elsewhere q s ∙ b.there q (sym (ap (λ x. x || done q) s) ∙ e)
      ];
      left = λ q f e at. let both = either_false (same q p) (done q) e in b.left q f both.1 (sym (low.elsewhere q both.0) ∙ at);
      drops = λ i l. low.drops i ∙ b.drops i l;
      dropless = λ i s l at. b.dropless i s l (sym (low.drops i) ∙ at);
      has = record {
        claims = λ q e. elim (cases_Bool (same q p)) [
          | inl s ↦ subst (λ r. is_some (claims new r) ≡ is_some (states k r)) (sym (place_same q p s)) (ap is_some here ∙ sym (ap is_some is))
          | inr s ↦ ap is_some (low.elsewhere q s) ∙ b.has.claims q e
        ];
        drops = λ i. ap is_some (low.drops i) ∙ b.has.drops i;
      };
    }

-- One function more

upto : (i n : ℕ) → i < n + 1 → (i == n) ≡ false → i < n
upto i n l e = elim (cases_lt i n) [
  | inl m ↦ m
  | inr m ↦ let same : i ≡ n = omega (arith, l, m) in absurd (true≢false (sym (eq-eqb i n same) ∙ e))
]

module _ (k : Compact) (done : Place → Bool) (n : ℕ) where
  pub drops_none : (c : Certificate) → drops_stated k n ≡ None → IsBegunAt k done n c → IsBegunAt k done (n + 1) c
  drops_none c none b = record {
    there = b.there;
    left = b.left;
    drops = λ i l. elim (cases_Bool (i == n)) [
      | inl e ↦ subst (λ j. dropped c j ≡ drops_stated k j) (sym (eqb-true i n e)) (none_there (dropped c n) (b.has.drops n ∙ ap is_some none) ∙ sym none)
      | inr e ↦ b.drops i (upto i n l e)
    ];
    dropless = λ i s l at. b.dropless i s (omega (arith, l)) at;
    has = b.has;
  }

  module _ (old new : Certificate) (sets : Sets) (may : Sets) (changed : Bool) (is : drops_stated k n ≡ Some sets) (count : IsCounted old new n sets changed)
      (idle : changed ≡ false → DropsStay old n sets may) (within : AreWithin sets may) (b : IsBegunAt k done n old) where
    own : (s : Sets) × (dropped old n ≡ Some s)
    own = there_so (dropped old n) (b.has.drops n ∙ ap is_some is)

    nothing : (j : ℕ) → (own.0.vars j ≡ false) × (own.0.functions j ≡ false)
    nothing = b.dropless n own.0 (omega arith) own.1

    both : joined sets own.0 ≡ sets
    both = ap₂ (λ (v f : ℕ → Bool). record { vars = v; functions = f }) (fun_ext (λ j. ap (λ x. x || sets.vars j) (nothing j).0)) (fun_ext (λ j. ap (λ x. x || sets.functions j) (nothing j).1))

    no_more : (v w : ℕ → Bool) → ((j : ℕ) → v j ≡ true → w j ≡ true) → ((j : ℕ) → w j ≡ false) → w ≡ v
    no_more v w less none = fun_ext (λ j. elim (cases_Bool (v j)) [
      | inl e ↦ less j e ∙ sym e
      | inr e ↦ none j ∙ sym e
    ])

    put : dropped new n ≡ Some sets
    put = by changed refl
      where
        by : (x : Bool) → changed ≡ x → dropped new n ≡ Some sets
        by true e = count.here e ∙ ap (option_map (joined sets)) own.1 ∙ ap Some both
        by false e =
            let all = (idle e).within own.0 own.1 (subst (λ z. AreWithin z may) (sym both) within) in
            ap (λ c. dropped c n) (count.stays e) ∙ own.1
            ∙ ap Some (ap₂ (λ (v f : ℕ → Bool). record { vars = v; functions = f }) (no_more sets.vars own.0.vars all.vars (λ j. (nothing j).0)) (no_more sets.functions own.0.functions all.functions (λ j. (nothing j).1)))

    pub drops_more : IsBegunAt k done (n + 1) new
    drops_more = record {
      there = λ p e. count.claims p ∙ b.there p e;
      left = λ p f e at. b.left p f e (sym (count.claims p) ∙ at);
      drops = λ i l. elim (cases_Bool (i == n)) [
        | inl e ↦ subst (λ j. dropped new j ≡ drops_stated k j) (sym (eqb-true i n e)) (put ∙ sym is)
        | inr e ↦ count.elsewhere i e ∙ b.drops i (upto i n l e)
      ];
      dropless = λ i s l at. b.dropless i s (omega (arith, l)) (sym (count.elsewhere i (past i l)) ∙ at);
      has = record {
        claims = λ p e. ap is_some (count.claims p) ∙ b.has.claims p e;
        drops = λ i. elim (cases_Bool (i == n)) [
          | inl e ↦ subst (λ j. is_some (dropped new j) ≡ is_some (drops_stated k j)) (sym (eqb-true i n e)) (ap is_some put ∙ sym (ap is_some is))
          | inr e ↦ ap is_some (count.elsewhere i e) ∙ b.has.drops i
        ];
      };
    }
      where
        past : (i : ℕ) → n + 1 ≤ i → (i == n) ≡ false
        past i l = elim (cases_Bool (i == n)) [
          | inl e ↦ let same : i ≡ n = eqb-true i n e in absurd (omega (arith, l, same))
          | inr e ↦ e
        ]

-- First and last

module _ (k : Compact) (c : Certificate) where
  pub begun_first : ClaimsAll c → DropsNothing c → HasStated k c → IsBegunAt k (heads_below 0) 0 c
  unfolding heads_below is_stated_part is_of_function
  begun_first all none has = record {
    there = λ p e. absurd (true≢false (sym e ∙ no_head p.part p.index));
    left = λ p f e is. all.each p f is;
    drops = λ i l. absurd (omega (arith, l));
    dropless = λ i s l is j. (none.vars i s is j, none.functions i s is j);
    has = has;
  }
    where
      no_head : (part : Part) (x : ℕ) → heads_below 0 (at part x) ≡ false
      no_head Before x = refl
      no_head Zero x = refl
      no_head Nonzero x = refl
      no_head Head x = le-ltb x 0 (omega arith)
      no_head Entered x = refl
      no_head ReturnZero x = refl
      no_head ReturnNonzero x = refl

  no_head : (x : ℕ) → k.commands ≤ x → states k (at Head x) ≡ None
  unfolding stated_at is_of_function is_of_command
  no_head x far = ap (λ b. option_map (fact_of k.rows.rows) (if b then get nat_eq k.heads (x + 1) else None)) (le-ltb x k.commands far)

  no_function : (part : Part) (x : ℕ) → is_of_function part ≡ true → length k.functions.items ≤ x → states k (at part x) ≡ None
  unfolding stated_at
  no_function part x of far =
      ap (λ b. option_map (fact_of k.rows.rows)
      (if b then option_and_then (λ e. function_part e part) (slice_get k.functions.items x) else if is_of_command part then None else if nat_lt x k.commands then get nat_eq k.heads (x + 1) else None)) of
      ∙ ap (λ o. option_map (fact_of k.rows.rows) (option_and_then (λ e. function_part e part) o)) (slice_get_past k.functions.items x far)

  away : HasStated k c → (p : Place) → is_stated_part p.part ≡ true → states k p ≡ None → claims c p ≡ states k p
  away has p stated none = none_there (claims c p) (has.claims p stated ∙ ap is_some none) ∙ sym none

  pub begun_functions : (n : ℕ) → k.commands ≡ n → IsBegunAt k (heads_below n) 0 c → IsBegunAt k (functions_below 0) 0 c
  unfolding heads_below functions_below is_stated_part is_of_function
  begun_functions n counted b = record {
    there = λ p e. done p.part p.index e;
    left = λ p f e is. left p.part p.index f e is;
    drops = b.drops;
    dropless = b.dropless;
    has = b.has;
  }
    where
      done : (part : Part) (x : ℕ) → functions_below 0 (at part x) ≡ true → claims c (at part x) ≡ states k (at part x)
      done Before x e = absurd (true≢false (sym e))
      done Zero x e = absurd (true≢false (sym e))
      done Nonzero x e = absurd (true≢false (sym e))
      done Head x e = elim (cases_lt x n) [
        | inl l ↦ b.there (at Head x) (lt-ltb x n l)
        | inr l ↦ away b.has (at Head x) refl (no_head x (omega (arith, counted, l)))
      ]
      done Entered x e = absurd (true≢false (sym e ∙ le-ltb x 0 (omega arith)))
      done ReturnZero x e = absurd (true≢false (sym e ∙ le-ltb x 0 (omega arith)))
      done ReturnNonzero x e = absurd (true≢false (sym e ∙ le-ltb x 0 (omega arith)))

      left : (part : Part) (x : ℕ) (f : number.Facts) → functions_below 0 (at part x) ≡ false → claims c (at part x) ≡ Some f → f ≡ number.NotReached
      left Before x f e is = b.left (at Before x) f refl is
      left Zero x f e is = b.left (at Zero x) f refl is
      left Nonzero x f e is = b.left (at Nonzero x) f refl is
      left Head x f e is = absurd (true≢false e)
      left Entered x f e is = b.left (at Entered x) f refl is
      left ReturnZero x f e is = b.left (at ReturnZero x) f refl is
      left ReturnNonzero x f e is = b.left (at ReturnNonzero x) f refl is

  pub begun_last : (m : ℕ) → length k.functions.items ≡ m → IsBegunAt k (functions_below m) m c → IsBegun k c
  unfolding functions_below is_stated_part is_of_function
  begun_last m counted b = record {
    there = λ p e. done p.part p.index e;
    others = λ p f e is. left p.part p.index f e is;
    drops = λ i. elim (cases_lt i m) [
      | inl l ↦ b.drops i l
      | inr l ↦
          let none : drops_stated k i ≡ None = ap (option_map (λ (e : FunctionEntry). sets_of k.rows e.drops)) (slice_get_past k.functions.items i (omega (arith, counted, l))) in
          none_there (dropped c i) (b.has.drops i ∙ ap is_some none) ∙ sym none
    ];
  }
    where
      of_function : (part : Part) (x : ℕ) → is_stated_part part ≡ true → is_of_function part ≡ true → ((x < m) → claims c (at part x) ≡ states k (at part x)) → claims c (at part x) ≡ states k (at part x)
      of_function part x stated of near = elim (cases_lt x m) [
        | inl l ↦ near l
        | inr l ↦ away b.has (at part x) stated (no_function part x of (omega (arith, counted, l)))
      ]

      done : (part : Part) (x : ℕ) → is_stated_part part ≡ true → claims c (at part x) ≡ states k (at part x)
      done Before x e = absurd (true≢false (sym e))
      done Zero x e = absurd (true≢false (sym e))
      done Nonzero x e = absurd (true≢false (sym e))
      done Head x e = b.there (at Head x) refl
      done Entered x e = of_function Entered x refl refl (λ l. b.there (at Entered x) (lt-ltb x m l))
      done ReturnZero x e = of_function ReturnZero x refl refl (λ l. b.there (at ReturnZero x) (lt-ltb x m l))
      done ReturnNonzero x e = of_function ReturnNonzero x refl refl (λ l. b.there (at ReturnNonzero x) (lt-ltb x m l))

      left : (part : Part) (x : ℕ) (f : number.Facts) → is_stated_part part ≡ false → claims c (at part x) ≡ Some f → f ≡ number.NotReached
      left Before x f e is = b.left (at Before x) f refl is
      left Zero x f e is = b.left (at Zero x) f refl is
      left Nonzero x f e is = b.left (at Nonzero x) f refl is
      left Head x f e is = absurd (true≢false e)
      left Entered x f e is = absurd (true≢false e)
      left ReturnZero x f e is = absurd (true≢false e)
      left ReturnNonzero x f e is = absurd (true≢false e)

-- The rows of what is stated

pub row_same : (a : Bool) (old : ℕ → Bool) (n : ℕ) → ((k : ℕ) → old k ≡ false) → (a || old n) ≡ a
row_same true old n none = refl
row_same false old n none = none n

pub row_below : (rows : KeptRows) (id : RowId) (row : BitRow) → slice_get rows.rows id.index ≡ Some row → row.count ≡ rows.count → (k : ℕ) → holds_at rows.rows id.index k ≡ true → k < rows.count
row_below rows id row is sized k e = let low : k < row.count = row.below k (sym (bits_at rows.rows id.index row is k) ∙ e) in omega (arith, low, sized)

pub stated_within : (names : List Text) → AreNumbered names → (k : Compact) (p : Place) (known : number.Facts) (may : Sets) → IsStateable names k → states k p ≡ Some known → IsNamed k.rows.count known
    → k.rows.count ≡ length names → HasWritable names MAX_NAMES may → AreWithin (names_of known) may
stated_within names h k p known may able is named sized all =
    written_within names (names_of known) may h.few (able.facts p known is) (named_below names known (subst (λ n. IsNamed n known) sized named)) all

pub drops_within : (names : List Text) → AreNumbered names → (k : Compact) (i : ℕ) (sets may : Sets) → IsStateable names k → drops_stated k i ≡ Some sets → AreBelow (length names) sets → HasWritable names MAX_NAMES may → AreWithin sets may
drops_within names h k i sets may able is below all = written_within names sets may h.few (able.drops i sets is) below all

-- sets by their numbers
pub sets_same : (s z : Sets) → ((j : ℕ) → s.vars j ≡ z.vars j) → ((j : ℕ) → s.functions j ≡ z.functions j) → s ≡ z
sets_same s z v f = ap₂ (λ (p q : ℕ → Bool). record { vars = p; functions = q }) (fun_ext v) (fun_ext f)
