-- Rows in use, and a certificate whose facts are moved to these.
use Rattle.std.proofs.Common.{◌≡◌, ℕ, zero, suc, ◌+◌, ◌<◌, ◌≤◌, nat_eq, eqb, Bool, true, false, cond, Option, Some, None, option_map, List, [], ◌∷◌, length, get_or, slice_get, is_some, replicate, refl, sym, ap, ap₂, ◌∙◌, subst, arith, inl, inr, ◌⊎◌, le-leb, leb-true, true≢false}
use Rattle.std.specs.Prelude.{option_and_then, map}
use Rattle.std.proofs.Math.ListN.{set}
use Rattle.std.proofs.Math.Path.{fun_ext}
use Rattle.std.proofs.lemmas.Bool.{cases_Bool, cases_lt, eqb-true, eqb-false}
use Rattle.std.proofs.lemmas.List.{length-set, length-replicate}
use Rattle.std.proofs.lemmas.Option.{none-some, same_Some, slice_get-get_or, slice_get-map, slice_get_past}
use Rattle.std.specs.Map.{lookup}
use Rattle.indexmap.specs.IndexMap.{IndexMap, get, set_value_at, values, with_value_at}
use Rattle.indexmap.proofs.CallerLemmas.{index_map_len-with_value_at}
use Rattle.sh_rows.specs.declared.bits.BitRow.{BitRow}
use Rattle.sh_tree.specs.standard.program.Syntax.{Text}
use Rattle.sh_domain.specs.declared.certificate.Certificate.{Certificate}
use Rattle.sh_domain.specs.declared.certificate.Drops.{Drops}
use Rattle.sh_domain.specs.declared.certificate.Entry.{Entry}
use Rattle.sh_domain.specs.declared.certificate.Facts as value
use Rattle.sh_domain.specs.declared.certificate.Facts.TheVariants as value_kind
use Rattle.sh_domain.specs.declared.certificate.FunctionEntry.{FunctionEntry}
use Rattle.sh_domain.specs.declared.rows.RowId.{RowId}
use Rattle.sh_domain.specs.KeptRows.{KeptRows, Stay, bits_in, bits_of, holds_at}
use Rattle.sh_domain.specs.RoundTrips.{FactsPass}
use Rattle.sh_domain.proofs.RowLemmas.{bits_at, no_bits}
use Rattle.sh_drafts.specs.declared.place.Part.{Part}
use Rattle.sh_drafts.specs.declared.place.Part.TheVariants.{Before, Zero, Nonzero, Head, Entered, ReturnZero, ReturnNonzero}
use Rattle.sh_drafts.specs.declared.place.Place.{Place}
use Rattle.sh_drafts.specs.declared.used.Used.{Used}
use Rattle.sh_drafts.specs.Facts.{Known}
use Rattle.sh_drafts.specs.Facts as number
use Rattle.sh_drafts.specs.Kept.{fact_of, IsPlaced}
use Rattle.sh_drafts.specs.Places.{is_of_command, is_of_function, entry_part, function_part, kept_at, drops_at}
use Rattle.sh_drafts.specs.Ranks.{IsNumbered}
use Rattle.sh_drafts.specs.Used.{Agree, AreDone, DropsMoved, EntryMoved, FunctionMoved, HeadMoved, IsMoved, IsNoted, IsRow, IsSame, IsUsed}
use Rattle.sh_drafts.specs.Working.{sets_of, claims, dropped, AreBelow, IsFine, AreFine, IsWorking}
use Rattle.sh_drafts.proofs.FactLemmas.{stay_through, stays_there, stays_placed, stays_same}
use Rattle.sh_drafts.proofs.FirstLemmas.{repeated}
use Rattle.sh_drafts.proofs.KeptLemmas.{kept_command, kept_function, kept_head, some_at, else_at}

-- What two options have

module _ {A : Type 0} where
  agree_none : (R : A → A → Type 0) → Agree R None None
  agree_none R = record { there = refl; each = λ x y e f. absurd (none-some x e) }

  agree_some : (R : A → A → Type 0) (x y : A) → R x y → Agree R (Some x) (Some y)
  agree_some R x y r = record {
    there = refl;
    each = λ a b e f. subst (λ c. R c b) (same_Some x a e) (subst (R x) (same_Some y b f) r);
  }

  agree_up : (R S : A → A → Type 0) → ((x y : A) → R x y → S x y) → (o p : Option A) → Agree R o p → Agree S o p
  agree_up R S up o p a = record { there = a.there; each = λ x y e f. up x y (a.each x y e f) }

-- through a part of each
agree_part : {A B : Type 0} (R : A → A → Type 0) (S : B → B → Type 0) (g : A → Option B) → ((x y : A) → R x y → Agree S (g x) (g y)) → (o p : Option A) → Agree R o p
    → Agree S (option_and_then g o) (option_and_then g p)
agree_part R S g up None None a = agree_none S
agree_part R S g up None (Some y) a = absurd (true≢false a.there)
agree_part R S g up (Some x) None a = absurd (true≢false (sym a.there))
agree_part R S g up (Some x) (Some y) a = up x y (a.each x y refl refl)

agree_map : {A B : Type 0} (R : A → A → Type 0) (S : B → B → Type 0) (g : A → B) → ((x y : A) → R x y → S (g x) (g y)) → (o p : Option A) → Agree R o p → Agree S (option_map g o) (option_map g p)
agree_map R S g up None None a = agree_none S
agree_map R S g up None (Some y) a = absurd (true≢false a.there)
agree_map R S g up (Some x) None a = absurd (true≢false (sym a.there))
agree_map R S g up (Some x) (Some y) a = agree_some S (g x) (g y) (up x y (a.each x y refl refl))

-- what both are is the same
agree_same : {A B : Type 0} (R : A → A → Type 0) (g h : A → B) → ((x y : A) → R x y → h y ≡ g x) → (o p : Option A) → Agree R o p → option_map h p ≡ option_map g o
agree_same R g h up None None a = refl
agree_same R g h up None (Some y) a = absurd (true≢false a.there)
agree_same R g h up (Some x) None a = absurd (true≢false (sym a.there))
agree_same R g h up (Some x) (Some y) a = ap Some (up x y (a.each x y refl refl))

-- what the second has is of something that the first has
agree_back : {A : Type 0} (R : A → A → Type 0) (o p : Option A) → Agree R o p → (y : A) → p ≡ Some y → (P : Type 0) → ((x : A) → o ≡ Some x → R x y → P) → P
agree_back R None p a y e P by = absurd (true≢false (sym (ap is_some e) ∙ a.there))
agree_back R (Some x) p a y e P by = by x refl (a.each x y refl e)

-- Lists that are gone over

module _ {A : Type 0} where
  pub none_done : (R : A → A → Type 0) (xs : List A) → AreDone R 0 xs xs
  none_done R xs = record { count = refl; done = λ i l. absurd (omega (arith, l)); rest = λ i l. refl }

  done_more : (R S : A → A → Type 0) → ((x y : A) → R x y → S x y) → (n : ℕ) (old now new : List A) → AreDone R n old now → length new ≡ length now
      → Agree S (slice_get old n) (slice_get new n) → ((j : ℕ) → ¬ (j ≡ n) → slice_get new j ≡ slice_get now j) → AreDone S (n + 1) old new
  done_more R S up n old now new d long here others = record {
    count = long ∙ d.count;
    done = λ i l. elim (cases_lt i n) [
      | inl m ↦ subst (Agree S (slice_get old i)) (sym (others i (λ e. omega (arith, e, m)))) (agree_up R S up _ _ (d.done i m))
      | inr m ↦ let e : i ≡ n = omega (arith, l, m) in subst (λ j. Agree S (slice_get old j) (slice_get new j)) (sym e) here
    ];
    rest = λ i l. others i (λ e. omega (arith, e, l)) ∙ d.rest i (omega (arith, l));
  }

  -- with one more item that is put
  pub set_done : (R S : A → A → Type 0) → ((x y : A) → R x y → S x y) → (n : ℕ) (old now : List A) (x y : A) → n < length now → x ≡ get_or now n x → AreDone R n old now → S x y → AreDone S (n + 1) old (set now n y)
  set_done R S up n old now x y l is d s =
      let at_old : slice_get old n ≡ Some x = sym (d.rest n (omega arith)) ∙ slice_get-get_or now n x l ∙ ap Some (sym is) in
      let here : Agree S (slice_get old n) (slice_get (set now n y) n) =
      subst (λ o. Agree S o (slice_get (set now n y) n)) (sym at_old) (subst (Agree S (Some x)) (sym (some_at now n x y l)) (agree_some S x y s)) in
      done_more R S up n old now (set now n y) d (length-set now n y) here (λ j. else_at now n j y)

  -- all of them
  pub all_done : (R : A → A → Type 0) (n : ℕ) (old new : List A) → length old ≤ n → AreDone R n old new → AreDone R (length old) old new
  all_done R n old new l d = record {
    count = d.count;
    done = λ i m. d.done i (omega (arith, l, m));
    rest = λ i m. slice_get_past new i (let c = d.count in omega (arith, c, m)) ∙ sym (slice_get_past old i m);
  }

  pub done_up : (R S : A → A → Type 0) → ((x y : A) → R x y → S x y) → (n : ℕ) (old new : List A) → AreDone R n old new → AreDone S n old new
  done_up R S up n old new d = record { count = d.count; done = λ i l. agree_up R S up _ _ (d.done i l); rest = d.rest }

  each_done : (R : A → A → Type 0) (old new : List A) → AreDone R (length old) old new → (i : ℕ) → Agree R (slice_get old i) (slice_get new i)
  each_done R old new d i = elim (cases_lt i (length old)) [
    | inl l ↦ d.done i l
    | inr l ↦
        let past : slice_get old i ≡ None = slice_get_past old i l in
        subst (λ o. Agree R o (slice_get new i)) (sym past) (subst (Agree R None) (sym (d.rest i l ∙ past)) (agree_none R))
  ]

-- Heads of loops, by the entries of their map

value_at : {K X : Type 0} (es : List (K × X)) (n : ℕ) (w : X) → slice_get (set_value_at es n w) n ≡ option_map (λ (e : K × X). (e.0, w)) (slice_get es n)
value_at [] zero w = refl
value_at [] (suc n) w = refl
value_at (e ∷ es) zero w = refl
value_at (e ∷ es) (suc n) w = value_at es n w

value_else : {K X : Type 0} (es : List (K × X)) (n j : ℕ) (w : X) → ¬ (j ≡ n) → slice_get (set_value_at es n w) j ≡ slice_get es j
value_else [] n j w away = refl
value_else (e ∷ es) zero zero w away = absurd (away refl)
value_else (e ∷ es) zero (suc j) w away = refl
value_else (e ∷ es) (suc n) zero w away = refl
value_else (e ∷ es) (suc n) (suc j) w away = value_else es n j w (λ e. away (ap suc e))

value_of : {K X : Type 0} (es : List (K × X)) (n : ℕ) (x : X) → slice_get (map (λ (e : K × X). e.1) es) n ≡ Some x → (P : Type 0) → ((k : K) → slice_get es n ≡ Some (k, x) → P) → P
value_of {K} {X} es n x is P by = go (slice_get es n) refl (sym (slice_get-map (λ (e : K × X). e.1) es n) ∙ is)
  where
    go : (o : Option (K × X)) → slice_get es n ≡ o → option_map (λ (e : K × X). e.1) o ≡ Some x → P
    go None e f = absurd (none-some x f)
    go (Some p) e f = by p.0 (e ∙ ap (λ y. Some (p.0, y)) (same_Some p.1 x f))

-- Rows that are added to those in use

module _ (rows mid new : List BitRow) (stay : Stay mid new) where
  row_grows : (i j : RowId) → IsRow rows mid i j → IsRow rows new i j
  row_grows i j r = record {
    there = stays_there mid new j.index stay r.there;
    numbers = λ k. ap (λ o. bits_in o k) (stay j.index r.there) ∙ r.numbers k;
  }

  moved_grows : (f g : value.Facts) → IsMoved rows mid f g → IsMoved rows new f g
  moved_grows f g m = record { placed = stays_placed mid new g stay m.placed; same = stays_same mid new g stay m.placed ∙ m.same }

  pub entry_grows : (e f : Entry) → EntryMoved rows mid e f → EntryMoved rows new e f
  entry_grows e f m = record { before = moved_grows _ _ m.before; zero = moved_grows _ _ m.zero; nonzero = moved_grows _ _ m.nonzero }

  drops_grows : (d e : Drops) → DropsMoved rows mid d e → DropsMoved rows new d e
  drops_grows d e m = record { vars = row_grows _ _ m.vars; functions = row_grows _ _ m.functions }

  pub function_grows : (e f : FunctionEntry) → FunctionMoved rows mid e f → FunctionMoved rows new e f
  function_grows e f m = record { before = moved_grows _ _ m.before; drops = drops_grows _ _ m.drops; zero = moved_grows _ _ m.zero; nonzero = moved_grows _ _ m.nonzero }

  pub head_grows : (e f : ℕ × value.Facts) → HeadMoved rows mid e f → HeadMoved rows new e f
  head_grows e f m = record { number = m.number; facts = moved_grows _ _ m.facts }

  -- one more head
  pub head_done : {H : Type 0} (n : ℕ) (old : List (ℕ × value.Facts)) (now : IndexMap ℕ value.Facts H) (x y : value.Facts) → slice_get (values now) n ≡ Some x → AreDone (HeadMoved rows mid) n old now.entries
      → IsMoved rows new x y → AreDone (HeadMoved rows new) (n + 1) old (with_value_at now n y).entries
  head_done n old now x y is d m =
      value_of now.entries n x is _ (λ k at.
      let at_old : slice_get old n ≡ Some (k, x) = sym (d.rest n (omega arith)) ∙ at in
      let at_new : slice_get (set_value_at now.entries n y) n ≡ Some (k, y) = value_at now.entries n y ∙ ap (option_map (λ (e : ℕ × value.Facts). (e.0, y))) at in
      let here : Agree (HeadMoved rows new) (slice_get old n) (slice_get (set_value_at now.entries n y) n) =
      subst (λ o. Agree (HeadMoved rows new) o (slice_get (set_value_at now.entries n y) n)) (sym at_old)
      (subst (Agree (HeadMoved rows new) (Some (k, x))) (sym at_new) (agree_some (HeadMoved rows new) (k, x) (k, y) (record { number = refl; facts = m }))) in
      done_more (HeadMoved rows mid) (HeadMoved rows new) head_grows n old now.entries (set_value_at now.entries n y) d (index_map_len-with_value_at now n y) here (λ j. value_else now.entries n j y))

-- what is kept of a row, of facts and of a function whose parts are moved one after the other

module _ (rows : List BitRow) where
  pub known_moved : (mid new : List BitRow) (f : value.Facts) (v w g h : RowId) (a : ℕ) → f ≡ value_kind.Known v g a → Stay mid new → IsRow rows mid v w → IsRow rows new g h → IsMoved rows new f (value_kind.Known w h a)
  unfolding fact_of IsPlaced
  known_moved mid new f v w g h a is stay r t =
      let vars : holds_at new w.index ≡ holds_at rows v.index = fun_ext (row_grows rows mid new stay v w r).numbers in
      let functions : holds_at new h.index ≡ holds_at rows g.index = fun_ext t.numbers in
      record {
        placed = (stays_there mid new w.index stay r.there, t.there);
        same = ap₂ (λ (x y : ℕ → Bool). Known x y a) vars functions ∙ sym (ap (fact_of rows) is);
      }

  pub nowhere_moved : (new : List BitRow) (f : value.Facts) → f ≡ value_kind.NotReached → IsMoved rows new f value_kind.NotReached
  unfolding fact_of IsPlaced
  nowhere_moved new f is = record { placed = tt; same = sym (ap (fact_of rows) is) }

  pub entry_moved : (first second third : List BitRow) (e f : Entry) → Stay first second → Stay second third → IsMoved rows first e.before f.before → IsMoved rows second e.zero f.zero → IsMoved rows third e.nonzero f.nonzero → EntryMoved rows third e f
  entry_moved first second third e f s t a b c = record {
    before = moved_grows rows second third t _ _ (moved_grows rows first second s _ _ a);
    zero = moved_grows rows second third t _ _ b;
    nonzero = c;
  }

  pub drops_moved : (mid new : List BitRow) (d e : Drops) → Stay mid new → IsRow rows mid d.vars e.vars → IsRow rows new d.functions e.functions → DropsMoved rows new d e
  drops_moved mid new d e s a b = record { vars = row_grows rows mid new s _ _ a; functions = b }

  pub function_moved : (first second third fourth : List BitRow) (e f : FunctionEntry) → Stay first second → Stay second third → Stay third fourth
      → IsMoved rows first e.before f.before → DropsMoved rows second e.drops f.drops → IsMoved rows third e.zero f.zero → IsMoved rows fourth e.nonzero f.nonzero → FunctionMoved rows fourth e f
  function_moved first second third fourth e f s t u a b c d = record {
    before = moved_grows rows third fourth u _ _ (moved_grows rows second third t _ _ (moved_grows rows first second s _ _ a));
    drops = drops_grows rows third fourth u _ _ (drops_grows rows second third t _ _ b);
    zero = moved_grows rows third fourth u _ _ c;
    nonzero = d;
  }

-- What is noted

pub none_or_some : {A : Type 0} (o : Option A) → (o ≡ None) ⊎ ((x : A) × (o ≡ Some x))
none_or_some None = inl refl
none_or_some (Some x) = inr (x, refl)

module _ (rows : KeptRows) where
  pub used_none : (u : Used) → IsNoted rows u → IsUsed rows u u
  used_none u n = record { noted = n; stay = λ i l. refl }

  pub used_more : (a b c : Used) → IsUsed rows a b → IsUsed rows b c → IsUsed rows a c
  used_more a b c x y = record { noted = y.noted; stay = stay_through a.rows.rows b.rows.rows c.rows.rows x.stay y.stay }

  pub noted_first : (u : Used) → u.rows.count ≡ rows.count → u.places.items ≡ replicate (length rows.rows) None → IsNoted rows u
  noted_first u count none = record {
    count = count;
    places = ap length none ∙ length-replicate (length rows.rows) None;
    each = λ i j e. absurd (none-some j (sym (repeated (length rows.rows) i None (Some j) (sym (ap (λ xs. slice_get xs i) none) ∙ e))));
  }

  -- a row is added, and its place not noted
  pub row_added : (u w : Used) → IsNoted rows u → Stay u.rows.rows w.rows.rows → w.rows.count ≡ u.rows.count → w.places ≡ u.places → IsUsed rows u w
  row_added u w n stay count places = record {
    noted = record {
      count = count ∙ n.count;
      places = ap (λ v. length v.items) places ∙ n.places;
      each = λ i j e. row_grows rows.rows u.rows.rows w.rows.rows stay _ j (n.each i j (sym (ap (λ v. slice_get v.items i) places) ∙ e));
    };
    stay = stay;
  }

  pub no_row : (new : List BitRow) (i j : RowId) → slice_get rows.rows i.index ≡ None → j.index < length new → ((k : ℕ) → holds_at new j.index k ≡ false) → IsRow rows.rows new i j
  no_row new i j none there empty = record { there = there; numbers = λ k. empty k ∙ sym (no_bits rows.rows i.index none k) }

  pub same_row : (new : List BitRow) (i j : RowId) (r : BitRow) → slice_get rows.rows i.index ≡ Some r → j.index < length new → ((k : ℕ) → holds_at new j.index k ≡ bits_of r k) → IsRow rows.rows new i j
  same_row new i j r is there found = record { there = there; numbers = λ k. found k ∙ sym (bits_at rows.rows i.index r is k) }

  -- and its place is noted
  pub row_noted : (u w : Used) (i j : RowId) → IsNoted rows u → Stay u.rows.rows w.rows.rows → w.rows.count ≡ u.rows.count → w.places.items ≡ set u.places.items i.index (Some j) → i.index < length u.places.items
      → IsRow rows.rows w.rows.rows i j → IsUsed rows u w
  row_noted u w i j n stay count places low is = record {
    noted = record {
      count = count ∙ n.count;
      places = ap length places ∙ length-set u.places.items i.index (Some j) ∙ n.places;
      each = λ x y e. noted x y (sym (ap (λ xs. slice_get xs x) places) ∙ e);
    };
    stay = stay;
  }
    where
      noted : (x : ℕ) (y : RowId) → slice_get (set u.places.items i.index (Some j)) x ≡ Some (Some y) → IsRow rows.rows w.rows.rows (record { index = x }) y
      noted x y e = elim (cases_Bool (eqb x i.index)) [
        | inl s ↦
            let at : x ≡ i.index = eqb-true x i.index s in
            let own : j ≡ y = same_Some j y (same_Some (Some j) (Some y) (sym (some_at u.places.items i.index None (Some j) low) ∙ ap (slice_get (set u.places.items i.index (Some j))) (sym at) ∙ e)) in
            subst (λ (k : ℕ). IsRow rows.rows w.rows.rows (record { index = k }) y) (sym at) (subst (IsRow rows.rows w.rows.rows i) own is)
        | inr s ↦ row_grows rows.rows u.rows.rows w.rows.rows stay _ y (n.each x y (sym (else_at u.places.items i.index x (Some j) (eqb-false x i.index s)) ∙ e))
      ]

-- A certificate whose rows are those in use

heads_agree : (old new : List BitRow) (t : ℕ → Bool) (es fs : List (ℕ × value.Facts)) → ((i : ℕ) → Agree (HeadMoved old new) (slice_get es i) (slice_get fs i)) → Agree (IsMoved old new) (lookup t es) (lookup t fs)
heads_agree old new t [] [] all = agree_none (IsMoved old new)
heads_agree old new t [] (f ∷ fs) all = absurd (true≢false (all 0).there)
heads_agree old new t (e ∷ es) [] all = absurd (true≢false (sym (all 0).there))
heads_agree old new t (e ∷ es) (f ∷ fs) all =
    let here = (all 0).each e f refl refl in
    either (t e.0) (t f.0) (ap t (sym here.number)) (agree_some (IsMoved old new) e.1 f.1 here.facts) (heads_agree old new t es fs (λ i. all (suc i)))
  where
    either : (b c : Bool) → b ≡ c → Agree (IsMoved old new) (Some e.1) (Some f.1) → Agree (IsMoved old new) (lookup t es) (lookup t fs) → Agree (IsMoved old new) (cond b (Some e.1) (lookup t es)) (cond c (Some f.1) (lookup t fs))
    either true true same a z = a
    either false false same a z = z
    either true false same a z = absurd (true≢false same)
    either false true same a z = absurd (true≢false (sym same))

module _ (old new : List BitRow) where
  entry_agree : (part : Part) (e f : Entry) → EntryMoved old new e f → Agree (IsMoved old new) (entry_part e part) (entry_part f part)
  unfolding entry_part
  entry_agree Before e f m = agree_some (IsMoved old new) e.before f.before m.before
  entry_agree Zero e f m = agree_some (IsMoved old new) e.zero f.zero m.zero
  entry_agree Nonzero e f m = agree_some (IsMoved old new) e.nonzero f.nonzero m.nonzero
  entry_agree Head e f m = agree_none (IsMoved old new)
  entry_agree Entered e f m = agree_none (IsMoved old new)
  entry_agree ReturnZero e f m = agree_none (IsMoved old new)
  entry_agree ReturnNonzero e f m = agree_none (IsMoved old new)

  function_agree : (part : Part) (e f : FunctionEntry) → FunctionMoved old new e f → Agree (IsMoved old new) (function_part e part) (function_part f part)
  unfolding function_part
  function_agree Before e f m = agree_none (IsMoved old new)
  function_agree Zero e f m = agree_none (IsMoved old new)
  function_agree Nonzero e f m = agree_none (IsMoved old new)
  function_agree Head e f m = agree_none (IsMoved old new)
  function_agree Entered e f m = agree_some (IsMoved old new) e.before f.before m.before
  function_agree ReturnZero e f m = agree_some (IsMoved old new) e.zero f.zero m.zero
  function_agree ReturnNonzero e f m = agree_some (IsMoved old new) e.nonzero f.nonzero m.nonzero

  -- facts that claim the same have a text if the others have
  passes_moved : (names : List Text) (a b : KeptRows) (f g : value.Facts) → fact_of b.rows g ≡ fact_of a.rows f → FactsPass names a f → FactsPass names b g
  unfolding fact_of FactsPass number.claims
  passes_moved names a b value_kind.NotReached value_kind.NotReached e p = tt
  passes_moved names a b value_kind.NotReached (value_kind.Known w h y) e p = absurd (true≢false (sym (ap (λ x. number.claims x number.Nowhere) e)))
  passes_moved names a b (value_kind.Known v g x) value_kind.NotReached e p = tt
  passes_moved names a b (value_kind.Known v g x) (value_kind.Known w h y) e p =
      let few : y ≤ x = leb-true y x (sym (ap (λ z. number.claims z (number.Parameters y)) e) ∙ le-leb y y (omega arith)) in
      let most = p.1 in (
        record {
          vars = λ k t is r. p.0.vars k t is (sym (ap (λ z. number.claims z (number.Variable k)) e) ∙ r);
          functions = λ k t is r. p.0.functions k t is (sym (ap (λ z. number.claims z (number.Function k)) e) ∙ r);
        },
        omega (arith, few, most),
      )

module _ (old new : Certificate) (count : new.rows.count ≡ old.rows.count)
    (entries : AreDone (EntryMoved old.rows.rows new.rows.rows) (length old.entries.items) old.entries.items new.entries.items)
    (heads : AreDone (HeadMoved old.rows.rows new.rows.rows) (length old.heads.entries) old.heads.entries new.heads.entries)
    (functions : AreDone (FunctionMoved old.rows.rows new.rows.rows) (length old.functions.items) old.functions.items new.functions.items) where
  heads_moved : (k : ℕ) → Agree (IsMoved old.rows.rows new.rows.rows) (get nat_eq old.heads k) (get nat_eq new.heads k)
  heads_moved k = heads_agree old.rows.rows new.rows.rows (nat_eq k) old.heads.entries new.heads.entries (each_done (HeadMoved old.rows.rows new.rows.rows) old.heads.entries new.heads.entries heads)

  facts_moved : (p : Place) → Agree (IsMoved old.rows.rows new.rows.rows) (kept_at old p) (kept_at new p)
  facts_moved p = elim (cases_Bool (is_of_command p.part)) [
    | inl a ↦
        both (kept_command old p a) (kept_command new p a)
        (agree_part (EntryMoved old.rows.rows new.rows.rows) (IsMoved old.rows.rows new.rows.rows) (λ e. entry_part e p.part) (entry_agree old.rows.rows new.rows.rows p.part) _ _
        (each_done (EntryMoved old.rows.rows new.rows.rows) old.entries.items new.entries.items entries p.index))
    | inr a ↦ elim (cases_Bool (is_of_function p.part)) [
      | inl b ↦
          both (kept_function old p a b) (kept_function new p a b)
          (agree_part (FunctionMoved old.rows.rows new.rows.rows) (IsMoved old.rows.rows new.rows.rows) (λ e. function_part e p.part) (function_agree old.rows.rows new.rows.rows p.part) _ _
          (each_done (FunctionMoved old.rows.rows new.rows.rows) old.functions.items new.functions.items functions p.index))
      | inr b ↦ both (kept_head old p a b) (kept_head new p a b) (heads_moved (p.index + 1))
    ]
  ]
    where
      both : {o q : Option value.Facts} → kept_at old p ≡ o → kept_at new p ≡ q → Agree (IsMoved old.rows.rows new.rows.rows) o q → Agree (IsMoved old.rows.rows new.rows.rows) (kept_at old p) (kept_at new p)
      both {o} e f a = subst (λ x. Agree (IsMoved old.rows.rows new.rows.rows) x (kept_at new p)) (sym e) (subst (Agree (IsMoved old.rows.rows new.rows.rows) o) (sym f) a)

  all_drops_moved : (i : ℕ) → Agree (DropsMoved old.rows.rows new.rows.rows) (drops_at old i) (drops_at new i)
  all_drops_moved i =
      agree_map (FunctionMoved old.rows.rows new.rows.rows) (DropsMoved old.rows.rows new.rows.rows) (λ (e : FunctionEntry). e.drops) (λ e f m. m.drops) _ _
      (each_done (FunctionMoved old.rows.rows new.rows.rows) old.functions.items new.functions.items functions i)

  same_sets : (d e : Drops) → DropsMoved old.rows.rows new.rows.rows d e → sets_of new.rows e ≡ sets_of old.rows d
  same_sets d e m = ap₂ (λ (x y : ℕ → Bool). record { vars = x; functions = y }) (fun_ext m.vars.numbers) (fun_ext m.functions.numbers)

  fine_facts : (names : List Text) (f g : value.Facts) → IsMoved old.rows.rows new.rows.rows f g → IsFine names old.rows f → IsFine names new.rows g
  fine_facts names f g m fine = record {
    placed = m.placed;
    numbered = subst (IsNumbered (length names)) (sym m.same) fine.numbered;
    passes = passes_moved old.rows.rows new.rows.rows names old.rows new.rows f g m.same fine.passes;
  }

  fine_drops : (names : List Text) (d e : Drops) → DropsMoved old.rows.rows new.rows.rows d e → AreFine names old.rows d → AreFine names new.rows e
  fine_drops names d e m fine = record {
    vars = m.vars.there;
    functions = m.functions.there;
    below = subst (AreBelow (length names)) (sym (same_sets d e m)) fine.below;
    passes = record {
      vars = λ k t is h. fine.passes.vars k t is (sym (m.vars.numbers k) ∙ h);
      functions = λ k t is h. fine.passes.functions k t is (sym (m.functions.numbers k) ∙ h);
    };
  }

  none_left : (o : Option value.Facts) → is_some o ≡ false → o ≡ None
  none_left None e = refl
  none_left (Some f) e = absurd (true≢false e)

  still_works : (names : List Text) (loops : List Bool) (m : ℕ) → IsWorking names loops m old → IsWorking names loops m new
  still_works names loops m w = record {
    count = count ∙ w.count;
    commands = entries.count ∙ w.commands;
    defined = functions.count ∙ w.defined;
    heads = λ i. (heads_moved (i + 1)).there ∙ w.heads i;
    low = none_left (get nat_eq new.heads 0) ((heads_moved 0).there ∙ ap is_some w.low);
    facts = λ p g e. agree_back (IsMoved old.rows.rows new.rows.rows) (kept_at old p) (kept_at new p) (facts_moved p) g e (IsFine names new.rows g) (λ f at moved. fine_facts names f g moved (w.facts p f at));
    drops = λ i d e. agree_back (DropsMoved old.rows.rows new.rows.rows) (drops_at old i) (drops_at new i) (all_drops_moved i) d e (AreFine names new.rows d) (λ x at moved. fine_drops names x d moved (w.drops i x at));
  }

  pub moved_same : IsSame old new
  unfolding claims dropped
  moved_same = record {
    claims = λ p. agree_same (IsMoved old.rows.rows new.rows.rows) (fact_of old.rows.rows) (fact_of new.rows.rows) (λ f g m. m.same) (kept_at old p) (kept_at new p) (facts_moved p);
    drops = λ i. agree_same (DropsMoved old.rows.rows new.rows.rows) (sets_of old.rows) (sets_of new.rows) same_sets (drops_at old i) (drops_at new i) (all_drops_moved i);
    working = still_works;
  }

pub same_again : (c : Certificate) → IsSame c c
same_again c = record { claims = λ p. refl; drops = λ i. refl; working = λ names loops m w. w }
