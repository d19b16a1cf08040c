-- The certificate that claims everything.
use Rattle.std.proofs.Common.{◌≡◌, ℕ, ◌+◌, ◌<◌, ◌≤◌, nat_eq, Bool, true, false, Option, Some, None, option_map, List, length, get_or, slice_get, is_some, replicate, refl, sym, ap, ◌∙◌, subst, arith, inl, inr, true≢false}
use Rattle.std.specs.Prelude.{option_and_then, unwrap_or}
use Rattle.std.specs.Borrow.{Bor}
use Rattle.std.proofs.lemmas.Bool.{cases_Bool, cases_lt, eqb-true}
use Rattle.std.proofs.lemmas.List.{length-replicate, get_or-replicate}
use Rattle.std.proofs.lemmas.Option.{slice_get-map, slice_get-get_or, slice_get_past, slice_get_within}
use Rattle.indexmap.specs.IndexMap.{get}
use Rattle.sh_tree.specs.declared.tree.Command.{Command}
use Rattle.sh_tree.specs.standard.program.Syntax.{Text}
use Rattle.sh_domain.specs.declared.certificate.Certificate.{Certificate}
use Rattle.sh_domain.specs.declared.certificate.Drops.{Drops}
use Rattle.sh_domain.specs.declared.certificate.Entry.{Entry}
use Rattle.sh_domain.specs.declared.certificate.Facts as value
use Rattle.sh_domain.specs.declared.certificate.Facts.TheVariants as value_kind
use Rattle.sh_domain.specs.declared.certificate.FunctionEntry.{FunctionEntry}
use Rattle.sh_domain.specs.declared.rows.RowId.{RowId}
use Rattle.sh_domain.specs.KeptRows.{holds_at}
use Rattle.sh_domain.specs.Reading.{is_loop}
use Rattle.sh_domain.specs.Reading.{loops_of}
use Rattle.sh_domain.specs.RoundTrips.{FactsPass}
use Rattle.sh_drafts.specs.Facts.{Facts, NotReached}
use Rattle.sh_drafts.specs.Kept.{fact_of, IsPlaced}
use Rattle.sh_drafts.specs.Ranks.{IsNumbered}
use Rattle.sh_drafts.specs.declared.place.Part.{Part}
use Rattle.sh_drafts.specs.declared.place.Part.TheVariants.{Before, Zero, Nonzero, Head, Entered, ReturnZero, ReturnNonzero}
use Rattle.sh_drafts.specs.declared.place.Place.{Place}
use Rattle.sh_drafts.specs.First.{head_if, AreHeads, ClaimsAll, DropsNothing}
use Rattle.sh_drafts.specs.Places.{is_of_command, is_of_function, entry_part, function_part, kept_at, drops_at}
use Rattle.sh_drafts.specs.Working.{Sets, sets_of, claims, dropped, IsFine, AreFine, IsWorking}
use Rattle.sh_drafts.proofs.KeptLemmas.{kept_command, kept_function, kept_head}

-- Heads

-- the command that comes next
pub heads_on : (commands : List (Bor Command)) (j : ℕ) (old new : ℕ → Option value.Facts) (c : Bor Command) (l : Bool) → j < length commands → c ≡ get_or commands j c → l ≡ is_loop c.now
    → AreHeads (loops_of commands) j old → (old (j + 1) ≡ None → new (j + 1) ≡ head_if l) → ((k : ℕ) → nat_eq (j + 1) k ≡ false → new k ≡ old k) → AreHeads (loops_of commands) (j + 1) new
heads_on commands j old new c l low is loop heads here others = record {
  none = others 0 (apart 0 (λ e. omega (arith, e))) ∙ heads.none;
  far = λ i m. elim (cases_lt i j) [
    | inl n ↦ others (i + 1) (apart (i + 1) (λ e. omega (arith, e, n))) ∙ heads.far i n
    | inr n ↦
        let same : i ≡ j = omega arith in
        subst (λ x. new (x + 1) ≡ head_if (unwrap_or (slice_get (loops_of commands) x) false)) (sym same)
        (here (heads.past j (omega arith)) ∙ ap head_if (loop ∙ sym (ap (λ o. unwrap_or o false) at_j)))
  ];
  past = λ i m. others (i + 1) (apart (i + 1) (λ e. omega (arith, e, m))) ∙ heads.past i (omega (arith, m));
}
  where
    apart : (k : ℕ) → ¬ (j + 1 ≡ k) → nat_eq (j + 1) k ≡ false
    apart k n = elim (cases_Bool (nat_eq (j + 1) k)) [ inl e ↦ absurd (n (eqb-true (j + 1) k e)) | inr e ↦ e ]

    at_j : slice_get (loops_of commands) j ≡ Some (is_loop c.now)
    at_j = slice_get-map (λ (x : Bor Command). is_loop x.now) commands j ∙ ap (option_map (λ (x : Bor Command). is_loop x.now)) (slice_get-get_or commands j c low ∙ ap Some (sym is))

-- Entries

some_one : {A : Type 0} (x y : A) → Some x ≡ Some y → x ≡ y
some_one x y e = cc

pub repeated : {A : Type 0} (n i : ℕ) (a x : A) → slice_get (replicate n a) i ≡ Some x → x ≡ a
repeated n i a x e =
    let l : i < length (replicate n a) = slice_get_within (replicate n a) i x e in
    let m : i < n = subst (λ k. i < k) (length-replicate n a) l in
    some_one x a (sym e ∙ slice_get-get_or (replicate n a) i a l ∙ ap Some (get_or-replicate n i a a m))

module _ (id : RowId) where
  abbrev nowhere : Entry
  nowhere = record { before = value_kind.NotReached; zero = value_kind.NotReached; nonzero = value_kind.NotReached }

  abbrev uncalled : FunctionEntry
  uncalled = record { before = value_kind.NotReached; drops = record { vars = id; functions = id }; zero = value_kind.NotReached; nonzero = value_kind.NotReached }

  entry_nowhere : (part : Part) (f : value.Facts) → entry_part nowhere part ≡ Some f → f ≡ value_kind.NotReached
  unfolding entry_part
  entry_nowhere Before f e = cc
  entry_nowhere Zero f e = cc
  entry_nowhere Nonzero f e = cc
  entry_nowhere Head f e = cc
  entry_nowhere Entered f e = cc
  entry_nowhere ReturnZero f e = cc
  entry_nowhere ReturnNonzero f e = cc

  function_nowhere : (part : Part) (f : value.Facts) → function_part uncalled part ≡ Some f → f ≡ value_kind.NotReached
  unfolding function_part
  function_nowhere Before f e = cc
  function_nowhere Zero f e = cc
  function_nowhere Nonzero f e = cc
  function_nowhere Head f e = cc
  function_nowhere Entered f e = cc
  function_nowhere ReturnZero f e = cc
  function_nowhere ReturnNonzero f e = cc

  if_nowhere : (b : Bool) (f : value.Facts) → head_if b ≡ Some f → f ≡ value_kind.NotReached
  unfolding head_if
  if_nowhere true f e = cc
  if_nowhere false f e = cc

  -- the certificate whose entries are all these, with a head for each loop
  module _ (loops : List Bool) (n m : ℕ) (c : Certificate) (long : length loops ≡ n) (entries : c.entries.items ≡ replicate n nowhere) (heads : AreHeads loops n (get nat_eq c.heads))
      (functions : c.functions.items ≡ replicate m uncalled) (low : id.index + 1 ≤ length c.rows.rows) (empty : (k : ℕ) → holds_at c.rows.rows id.index k ≡ false) where
    all_nowhere : (p : Place) (f : value.Facts) → kept_at c p ≡ Some f → f ≡ value_kind.NotReached
    all_nowhere p f e = elim (cases_Bool (is_of_command p.part)) [
      | inl a ↦ commands (slice_get c.entries.items p.index) refl (sym (kept_command c p a) ∙ e)
      | inr a ↦ elim (cases_Bool (is_of_function p.part)) [
        | inl b ↦ defined (slice_get c.functions.items p.index) refl (sym (kept_function c p a b) ∙ e)
        | inr b ↦ elim (cases_lt p.index n) [
          | inl l ↦ if_nowhere _ f (sym (heads.far p.index l) ∙ sym (kept_head c p a b) ∙ e)
          | inr l ↦ absurd (true≢false (sym (ap is_some (sym (kept_head c p a b) ∙ e)) ∙ ap is_some (heads.past p.index l)))
        ]
      ]
    ]
      where
        commands : (o : Option Entry) → slice_get c.entries.items p.index ≡ o → option_and_then (λ x. entry_part x p.part) o ≡ Some f → f ≡ value_kind.NotReached
        commands None is e = cc
        commands (Some x) is e =
            let same : x ≡ nowhere = repeated n p.index nowhere x (sym (ap (λ xs. slice_get xs p.index) entries) ∙ is) in
            entry_nowhere p.part f (ap (λ y. entry_part y p.part) (sym same) ∙ e)

        defined : (o : Option FunctionEntry) → slice_get c.functions.items p.index ≡ o → option_and_then (λ x. function_part x p.part) o ≡ Some f → f ≡ value_kind.NotReached
        defined None is e = cc
        defined (Some x) is e =
            let same : x ≡ uncalled = repeated m p.index uncalled x (sym (ap (λ xs. slice_get xs p.index) functions) ∙ is) in
            function_nowhere p.part f (ap (λ y. function_part y p.part) (sym same) ∙ e)

    all_empty : (i : ℕ) (d : Drops) → drops_at c i ≡ Some d → d ≡ record { vars = id; functions = id }
    all_empty i d e = go (slice_get c.functions.items i) refl e
      where
        go : (o : Option FunctionEntry) → slice_get c.functions.items i ≡ o → option_map (λ (x : FunctionEntry). x.drops) o ≡ Some d → d ≡ record { vars = id; functions = id }
        go None is e = cc
        go (Some x) is e =
            let same : x ≡ uncalled = repeated m i uncalled x (sym (ap (λ xs. slice_get xs i) functions) ∙ is) in
            let drops : x.drops ≡ record { vars = id; functions = id } = ap (λ (y : FunctionEntry). y.drops) same in
            cc

    fine : (names : List Text) → IsFine names c.rows value_kind.NotReached
    unfolding IsPlaced IsNumbered FactsPass fact_of
    fine names = record { placed = tt; numbered = tt; passes = tt }

    empty_fine : (names : List Text) → AreFine names c.rows (record { vars = id; functions = id })
    empty_fine names = record {
      vars = omega (arith, low);
      functions = omega (arith, low);
      below = record { vars = λ k e. absurd (true≢false (sym e ∙ empty k)); functions = λ k e. absurd (true≢false (sym e ∙ empty k)) };
      passes = record { vars = λ k t is e. absurd (true≢false (sym e ∙ empty k)); functions = λ k t is e. absurd (true≢false (sym e ∙ empty k)) };
    }

    head_is : (b : Bool) → is_some (head_if b) ≡ b
    unfolding head_if
    head_is true = refl
    head_is false = refl

    pub first_works : (names : List Text) → c.rows.count ≡ length names → IsWorking names loops m c
    first_works names count = record {
      count = count;
      commands = ap length entries ∙ length-replicate n nowhere ∙ sym long;
      defined = ap length functions ∙ length-replicate m uncalled;
      heads = λ i. elim (cases_lt i n) [
        | inl l ↦ ap is_some (heads.far i l) ∙ head_is _
        | inr l ↦ ap is_some (heads.past i l) ∙ sym (ap (λ o. unwrap_or o false) (slice_get_past loops i (subst (λ k. k ≤ i) (sym long) l)))
      ];
      low = heads.none;
      facts = λ p f e. subst (IsFine names c.rows) (sym (all_nowhere p f e)) (fine names);
      drops = λ i d e. subst (AreFine names c.rows) (sym (all_empty i d e)) (empty_fine names);
    }

    pub claims_all : ClaimsAll c
    unfolding claims fact_of
    claims_all = record { each = λ p f e. go (kept_at c p) f refl p refl e }
      where
        go : (o : Option value.Facts) (f : Facts) → o ≡ o → (p : Place) → kept_at c p ≡ o → option_map (fact_of c.rows.rows) o ≡ Some f → f ≡ NotReached
        go None f r p is e = cc
        go (Some g) f r p is e = let none : g ≡ value_kind.NotReached = all_nowhere p g is in let same : fact_of c.rows.rows g ≡ NotReached = ap (fact_of c.rows.rows) none in cc

    no_drops : (i : ℕ) (s : Sets) → dropped c i ≡ Some s → s ≡ sets_of c.rows (record { vars = id; functions = id })
    unfolding dropped
    no_drops i s e = go (drops_at c i) refl e
      where
        go : (o : Option Drops) → drops_at c i ≡ o → option_map (sets_of c.rows) o ≡ Some s → s ≡ sets_of c.rows (record { vars = id; functions = id })
        go None is e = cc
        go (Some d) is e = let same : d ≡ record { vars = id; functions = id } = all_empty i d is in some_one s (sets_of c.rows d) (sym e) ∙ ap (sets_of c.rows) same

    pub drops_nothing : DropsNothing c
    drops_nothing = record {
      vars = λ i s e k. ap (λ (z : Sets). z.vars k) (no_drops i s e) ∙ empty k;
      functions = λ i s e k. ap (λ (z : Sets). z.functions k) (no_drops i s e) ∙ empty k;
    }
