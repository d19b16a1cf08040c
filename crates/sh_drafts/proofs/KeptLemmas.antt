-- What a certificate has at its places where something is put at one of them.
use Rattle.std.proofs.Common.{◌≡◌, ℕ, zero, suc, ◌+◌, ◌<◌, nat_eq, eqb, Bool, true, false, ◌&&◌, Option, Some, None, option_map, List, [], ◌∷◌, length, slice_get, is_some, refl, sym, ap, ap₂, ◌∙◌, subst, arith, inl, inr, true≢false}
use Rattle.std.specs.Prelude.{option_and_then}
use Rattle.std.proofs.lemmas.Bool.{cases_Bool, and_parts, eqb-true, eqb-false, eq-eqb}
use Rattle.std.proofs.Math.ListN.{set}
use Rattle.std.proofs.lemmas.List.{length-set, get_or-set_same}
use Rattle.std.proofs.lemmas.Option.{slice_get_within, slice_get-get_or}
use Rattle.indexmap.specs.IndexMap.{get}
use Rattle.sh_domain.specs.declared.certificate.Certificate.{Certificate}
use Rattle.sh_domain.specs.declared.certificate.Drops.{Drops}
use Rattle.sh_domain.specs.declared.certificate.Entry.{Entry}
use Rattle.sh_domain.specs.declared.certificate.Facts as value
use Rattle.sh_domain.specs.declared.certificate.FunctionEntry.{FunctionEntry}
use Rattle.sh_drafts.specs.declared.place.Part.{Part}
use Rattle.sh_drafts.specs.declared.place.Part.TheVariants.{Before, Zero, Nonzero, Head, Entered, ReturnZero, ReturnNonzero}
use Rattle.sh_drafts.specs.declared.place.Place.{Place}
use Rattle.sh_drafts.specs.Places.{at, rank, same, is_of_command, is_of_function, entry_part, function_part, entry_with, function_with, kept_at, drops_at, IsPut, IsDropped, EntryPut, FunctionPut}

-- Parts

-- the part of a rank
by_rank : ℕ → Part
by_rank zero = Before
by_rank (suc zero) = Zero
by_rank (suc (suc zero)) = Nonzero
by_rank (suc (suc (suc zero))) = Head
by_rank (suc (suc (suc (suc zero)))) = Entered
by_rank (suc (suc (suc (suc (suc zero))))) = ReturnZero
by_rank (suc (suc (suc (suc (suc (suc n)))))) = ReturnNonzero

ranked : (p : Part) → by_rank (rank p) ≡ p
unfolding rank by_rank
ranked Before = refl
ranked Zero = refl
ranked Nonzero = refl
ranked Head = refl
ranked Entered = refl
ranked ReturnZero = refl
ranked ReturnNonzero = refl

pub part_same : (p q : Part) → eqb (rank p) (rank q) ≡ true → p ≡ q
part_same p q e = sym (ranked p) ∙ ap by_rank (eqb-true (rank p) (rank q) e) ∙ ranked q

-- places that pass the test are one
pub place_same : (p q : Place) → same p q ≡ true → p ≡ q
place_same p q e =
    let both = and_parts (eqb p.index q.index) (eqb (rank p.part) (rank q.part)) e in
    let i : p.index ≡ q.index = eqb-true p.index q.index both.0 in
    let s : p.part ≡ q.part = part_same p.part q.part both.1 in
    ap₂ at s i

-- Entries

entry_put : (p : Part) (f : value.Facts) (e : Entry) → is_of_command p ≡ true → entry_part (entry_with p f e) p ≡ Some f
unfolding is_of_command entry_part entry_with
entry_put Before f e h = refl
entry_put Zero f e h = refl
entry_put Nonzero f e h = refl
entry_put Head f e h = absurd (true≢false (sym h))
entry_put Entered f e h = absurd (true≢false (sym h))
entry_put ReturnZero f e h = absurd (true≢false (sym h))
entry_put ReturnNonzero f e h = absurd (true≢false (sym h))

entry_others : (p q : Part) (f : value.Facts) (e : Entry) → eqb (rank q) (rank p) ≡ false → entry_part (entry_with p f e) q ≡ entry_part e q
unfolding entry_part entry_with
entry_others Before Before f e h = absurd (eqb-false (rank Before) (rank Before) h refl)
entry_others Zero Zero f e h = absurd (eqb-false (rank Zero) (rank Zero) h refl)
entry_others Nonzero Nonzero f e h = absurd (eqb-false (rank Nonzero) (rank Nonzero) h refl)
entry_others _ _ f e h = refl

function_put : (p : Part) (f : value.Facts) (e : FunctionEntry) → is_of_function p ≡ true → function_part (function_with p f e) p ≡ Some f
unfolding is_of_function function_part function_with
function_put Before f e h = absurd (true≢false (sym h))
function_put Zero f e h = absurd (true≢false (sym h))
function_put Nonzero f e h = absurd (true≢false (sym h))
function_put Head f e h = absurd (true≢false (sym h))
function_put Entered f e h = refl
function_put ReturnZero f e h = refl
function_put ReturnNonzero f e h = refl

function_others : (p q : Part) (f : value.Facts) (e : FunctionEntry) → eqb (rank q) (rank p) ≡ false → function_part (function_with p f e) q ≡ function_part e q
unfolding function_part function_with
function_others Entered Entered f e h = absurd (eqb-false (rank Entered) (rank Entered) h refl)
function_others ReturnZero ReturnZero f e h = absurd (eqb-false (rank ReturnZero) (rank ReturnZero) h refl)
function_others ReturnNonzero ReturnNonzero f e h = absurd (eqb-false (rank ReturnNonzero) (rank ReturnNonzero) h refl)
function_others _ _ f e h = refl

-- what a function drops is no part
function_drops : (p : Part) (f : value.Facts) (e : FunctionEntry) → (function_with p f e).drops ≡ e.drops
unfolding function_with
function_drops Before f e = refl
function_drops Zero f e = refl
function_drops Nonzero f e = refl
function_drops Head f e = refl
function_drops Entered f e = refl
function_drops ReturnZero f e = refl
function_drops ReturnNonzero f e = refl

-- Options

there : {A B : Type 0} (g : A → Option B) (o : Option A) → is_some (option_and_then g o) ≡ true → (x : A) × (o ≡ Some x)
there g None h = absurd (true≢false (sym h))
there g (Some x) h = (x, refl)

pub within_there : {A B : Type 0} (g : A → Option B) (xs : List A) (i : ℕ) → is_some (option_and_then g (slice_get xs i)) ≡ true → i < length xs
within_there g xs i h = let x = there g (slice_get xs i) h in slice_get_within xs i x.0 x.1

-- Facts that are put

-- which kind of part it is decides where it is kept
pub kept_command : (c : Certificate) (q : Place) → is_of_command q.part ≡ true → kept_at c q ≡ option_and_then (λ e. entry_part e q.part) (slice_get c.entries.items q.index)
unfolding kept_at
kept_command c q h = rw h refl

pub kept_function : (c : Certificate) (q : Place) → is_of_command q.part ≡ false → is_of_function q.part ≡ true
    → kept_at c q ≡ option_and_then (λ e. function_part e q.part) (slice_get c.functions.items q.index)
unfolding kept_at
kept_function c q h k = rw (h, k) refl

pub kept_head : (c : Certificate) (q : Place) → is_of_command q.part ≡ false → is_of_function q.part ≡ false → kept_at c q ≡ get nat_eq c.heads (q.index + 1)
unfolding kept_at
kept_head c q h k = rw (h, k) refl

-- another place is another part, or that of another index
other_part : (q p : Place) → same q p ≡ false → eqb q.index p.index ≡ true → eqb (rank q.part) (rank p.part) ≡ false
other_part q p h e = go (eqb q.index p.index) (eqb (rank q.part) (rank p.part)) h e
  where
    go : (a b : Bool) → (a && b) ≡ false → a ≡ true → b ≡ false
    go true b h e = h
    go false b h e = absurd (true≢false (sym e))

module _ (p : Place) (f : value.Facts) where
  pub command_needs : (c : Certificate) → is_of_command p.part ≡ true → is_some (kept_at c p) ≡ true → p.index < length c.entries.items
  command_needs c h s = within_there (λ e. entry_part e p.part) c.entries.items p.index (subst (λ o. is_some o ≡ true) (kept_command c p h) s)

  pub function_needs : (c : Certificate) → is_of_command p.part ≡ false → is_of_function p.part ≡ true → is_some (kept_at c p) ≡ true → p.index < length c.functions.items
  function_needs c h k s = within_there (λ e. function_part e p.part) c.functions.items p.index (subst (λ o. is_some o ≡ true) (kept_function c p h k) s)

  pub put_command : (old new : Certificate) → is_of_command p.part ≡ true → is_some (kept_at old p) ≡ true → EntryPut old.entries.items new.entries.items p.index p.part f
      → new.rows ≡ old.rows → new.heads ≡ old.heads → new.functions ≡ old.functions → IsPut old new p f
  put_command old new h s put rows heads functions = record {
    here = kept_command new p h ∙ ap (option_and_then (λ e. entry_part e p.part)) put.here
        ∙ (let x = there (λ e. entry_part e p.part) (slice_get old.entries.items p.index) (subst (λ o. is_some o ≡ true) (kept_command old p h) s) in
        ap (λ o. option_and_then (λ (e : Entry). entry_part e p.part) (option_map (entry_with p.part f) o)) x.1 ∙ entry_put p.part f x.0 h);
    elsewhere = λ q n. elim (cases_Bool (is_of_command q.part)) [
      | inl a ↦ kept_command new q a ∙ elim (cases_Bool (eqb q.index p.index)) [
        | inl e ↦
            let i : q.index ≡ p.index = eqb-true q.index p.index e in
            ap (λ j. option_and_then (λ (d : Entry). entry_part d q.part) (slice_get new.entries.items j)) i
            ∙ ap (option_and_then (λ (d : Entry). entry_part d q.part)) put.here
            ∙ changed q.part (slice_get old.entries.items p.index) (other_part q p n e)
            ∙ ap (λ j. option_and_then (λ (d : Entry). entry_part d q.part) (slice_get old.entries.items j)) (sym i)
        | inr e ↦ ap (option_and_then (λ (d : Entry). entry_part d q.part)) (put.elsewhere q.index e)
      ] ∙ sym (kept_command old q a)
      | inr a ↦ elim (cases_Bool (is_of_function q.part)) [
        | inl b ↦ kept_function new q a b ∙ ap (λ v. option_and_then (λ (d : FunctionEntry). function_part d q.part) (slice_get v.items q.index)) functions ∙ sym (kept_function old q a b)
        | inr b ↦ kept_head new q a b ∙ ap (λ m. get nat_eq m (q.index + 1)) heads ∙ sym (kept_head old q a b)
      ]
    ];
    drops = λ i. ap (λ v. option_map (λ (e : FunctionEntry). e.drops) (slice_get v.items i)) functions;
    rows = rows;
    entries = put.entries;
    functions = ap (λ v. length v.items) functions;
    low = ap (λ m. get nat_eq m 0) heads;
  }
    where
      changed : (q : Part) (o : Option Entry) → eqb (rank q) (rank p.part) ≡ false
          → option_and_then (λ (d : Entry). entry_part d q) (option_map (entry_with p.part f) o) ≡ option_and_then (λ (d : Entry). entry_part d q) o
      changed q None n = refl
      changed q (Some e) n = entry_others p.part q f e n

  pub put_function : (old new : Certificate) → is_of_command p.part ≡ false → is_of_function p.part ≡ true → is_some (kept_at old p) ≡ true
      → FunctionPut old.functions.items new.functions.items p.index p.part f → new.rows ≡ old.rows → new.heads ≡ old.heads → new.entries ≡ old.entries → IsPut old new p f
  put_function old new h k s put rows heads entries = record {
    here = kept_function new p h k ∙ ap (option_and_then (λ e. function_part e p.part)) put.here
        ∙ (let x = there (λ e. function_part e p.part) (slice_get old.functions.items p.index) (subst (λ o. is_some o ≡ true) (kept_function old p h k) s) in
        ap (λ o. option_and_then (λ (e : FunctionEntry). function_part e p.part) (option_map (function_with p.part f) o)) x.1 ∙ function_put p.part f x.0 k);
    elsewhere = λ q n. elim (cases_Bool (is_of_command q.part)) [
      | inl a ↦ kept_command new q a ∙ ap (λ v. option_and_then (λ (d : Entry). entry_part d q.part) (slice_get v.items q.index)) entries ∙ sym (kept_command old q a)
      | inr a ↦ elim (cases_Bool (is_of_function q.part)) [
        | inl b ↦ kept_function new q a b ∙ elim (cases_Bool (eqb q.index p.index)) [
          | inl e ↦
              let i : q.index ≡ p.index = eqb-true q.index p.index e in
              ap (λ j. option_and_then (λ (d : FunctionEntry). function_part d q.part) (slice_get new.functions.items j)) i
              ∙ ap (option_and_then (λ (d : FunctionEntry). function_part d q.part)) put.here
              ∙ changed q.part (slice_get old.functions.items p.index) (other_part q p n e)
              ∙ ap (λ j. option_and_then (λ (d : FunctionEntry). function_part d q.part) (slice_get old.functions.items j)) (sym i)
          | inr e ↦ ap (option_and_then (λ (d : FunctionEntry). function_part d q.part)) (put.elsewhere q.index e)
        ] ∙ sym (kept_function old q a b)
        | inr b ↦ kept_head new q a b ∙ ap (λ m. get nat_eq m (q.index + 1)) heads ∙ sym (kept_head old q a b)
      ]
    ];
    drops = λ i. elim (cases_Bool (eqb i p.index)) [
      | inl e ↦
          let j : i ≡ p.index = eqb-true i p.index e in
          ap (λ k. option_map (λ (d : FunctionEntry). d.drops) (slice_get new.functions.items k)) j
          ∙ ap (option_map (λ (d : FunctionEntry). d.drops)) put.here
          ∙ kept_drops (slice_get old.functions.items p.index)
          ∙ ap (λ k. option_map (λ (d : FunctionEntry). d.drops) (slice_get old.functions.items k)) (sym j)
      | inr e ↦ ap (option_map (λ (d : FunctionEntry). d.drops)) (put.elsewhere i e)
    ];
    rows = rows;
    entries = ap (λ v. length v.items) entries;
    functions = put.entries;
    low = ap (λ m. get nat_eq m 0) heads;
  }
    where
      changed : (q : Part) (o : Option FunctionEntry) → eqb (rank q) (rank p.part) ≡ false
          → option_and_then (λ (d : FunctionEntry). function_part d q) (option_map (function_with p.part f) o) ≡ option_and_then (λ (d : FunctionEntry). function_part d q) o
      changed q None n = refl
      changed q (Some e) n = function_others p.part q f e n

      kept_drops : (o : Option FunctionEntry) → option_map (λ (d : FunctionEntry). d.drops) (option_map (function_with p.part f) o) ≡ option_map (λ (d : FunctionEntry). d.drops) o
      kept_drops None = refl
      kept_drops (Some e) = ap Some (function_drops p.part f e)

  -- a place that is of no command and of no function is a loop's
  loop_rank : (q r : Part) → is_of_command q ≡ false → is_of_function q ≡ false → is_of_command r ≡ false → is_of_function r ≡ false → q ≡ r
  unfolding is_of_command is_of_function
  loop_rank Head Head a b c d = refl
  loop_rank Before r a b c d = absurd (true≢false a)
  loop_rank Zero r a b c d = absurd (true≢false a)
  loop_rank Nonzero r a b c d = absurd (true≢false a)
  loop_rank Entered r a b c d = absurd (true≢false b)
  loop_rank ReturnZero r a b c d = absurd (true≢false b)
  loop_rank ReturnNonzero r a b c d = absurd (true≢false b)
  loop_rank Head Before a b c d = absurd (true≢false c)
  loop_rank Head Zero a b c d = absurd (true≢false c)
  loop_rank Head Nonzero a b c d = absurd (true≢false c)
  loop_rank Head Entered a b c d = absurd (true≢false d)
  loop_rank Head ReturnZero a b c d = absurd (true≢false d)
  loop_rank Head ReturnNonzero a b c d = absurd (true≢false d)

  pub put_head : (old new : Certificate) → is_of_command p.part ≡ false → is_of_function p.part ≡ false
      → get nat_eq new.heads (p.index + 1) ≡ Some f → ((k : ℕ) → nat_eq (p.index + 1) k ≡ false → get nat_eq new.heads k ≡ get nat_eq old.heads k)
      → new.rows ≡ old.rows → new.entries ≡ old.entries → new.functions ≡ old.functions → IsPut old new p f
  put_head old new h k here others rows entries functions = record {
    here = kept_head new p h k ∙ here;
    elsewhere = λ q n. elim (cases_Bool (is_of_command q.part)) [
      | inl a ↦ kept_command new q a ∙ ap (λ v. option_and_then (λ (d : Entry). entry_part d q.part) (slice_get v.items q.index)) entries ∙ sym (kept_command old q a)
      | inr a ↦ elim (cases_Bool (is_of_function q.part)) [
        | inl b ↦ kept_function new q a b ∙ ap (λ v. option_and_then (λ (d : FunctionEntry). function_part d q.part) (slice_get v.items q.index)) functions ∙ sym (kept_function old q a b)
        | inr b ↦ kept_head new q a b ∙ others (q.index + 1) (apart q n a b) ∙ sym (kept_head old q a b)
      ]
    ];
    drops = λ i. ap (λ v. option_map (λ (e : FunctionEntry). e.drops) (slice_get v.items i)) functions;
    rows = rows;
    entries = ap (λ v. length v.items) entries;
    functions = ap (λ v. length v.items) functions;
    low = others 0 (not_same (p.index + 1) 0 (λ e. omega (arith, e)));
  }
    where
      not_same : (a b : ℕ) → ¬ (a ≡ b) → nat_eq a b ≡ false
      not_same a b n = elim (cases_Bool (nat_eq a b)) [ inl e ↦ absurd (n (eqb-true a b e)) | inr e ↦ e ]

      apart : (q : Place) → same q p ≡ false → is_of_command q.part ≡ false → is_of_function q.part ≡ false → nat_eq (p.index + 1) (q.index + 1) ≡ false
      apart q n a b = not_same (p.index + 1) (q.index + 1) (λ e.
          let i : q.index ≡ p.index = omega (arith, e) in
          let r : eqb (rank q.part) (rank p.part) ≡ true = eq-eqb _ _ (ap rank (loop_rank q.part p.part a b h k)) in
          true≢false (sym r ∙ other_part q p n (eq-eqb _ _ i)))

-- Drops that are put

pub some_at : {A : Type 0} (xs : List A) (i : ℕ) (x y : A) → i < length xs → slice_get (set xs i y) i ≡ Some y
some_at xs i x y l = slice_get-get_or (set xs i y) i y (subst (λ n. i < n) (sym (length-set xs i y)) l) ∙ ap Some (get_or-set_same xs i y y l)

pub else_at : {A : Type 0} (xs : List A) (i j : ℕ) (y : A) → ¬ (j ≡ i) → slice_get (set xs i y) j ≡ slice_get xs j
else_at [] i j y n = refl
else_at (x ∷ xs) zero zero y n = absurd (n refl)
else_at (x ∷ xs) zero (suc j) y n = refl
else_at (x ∷ xs) (suc i) zero y n = refl
else_at (x ∷ xs) (suc i) (suc j) y n = else_at xs i j y (λ e. n (ap suc e))

-- parts do not say what is dropped
parts_stay : (e : FunctionEntry) (d : Drops) (p : Part) → function_part (record e { drops = d }) p ≡ function_part e p
unfolding function_part
parts_stay e d Before = refl
parts_stay e d Zero = refl
parts_stay e d Nonzero = refl
parts_stay e d Head = refl
parts_stay e d Entered = refl
parts_stay e d ReturnZero = refl
parts_stay e d ReturnNonzero = refl

module _ (old new : Certificate) (i : ℕ) (e : FunctionEntry) (d : Drops) (is : slice_get old.functions.items i ≡ Some e) (put : new.functions.items ≡ set old.functions.items i (record e { drops = d })) where
  low : i < length old.functions.items
  low = slice_get_within old.functions.items i e is

  here : slice_get new.functions.items i ≡ Some (record e { drops = d })
  here = ap (λ xs. slice_get xs i) put ∙ some_at old.functions.items i e (record e { drops = d }) low

  others : (j : ℕ) → eqb j i ≡ false → slice_get new.functions.items j ≡ slice_get old.functions.items j
  others j n = ap (λ xs. slice_get xs j) put ∙ else_at old.functions.items i j (record e { drops = d }) (eqb-false j i n)

  stay : (q : Place) → option_and_then (λ (x : FunctionEntry). function_part x q.part) (slice_get new.functions.items q.index)
      ≡ option_and_then (λ (x : FunctionEntry). function_part x q.part) (slice_get old.functions.items q.index)
  stay q = elim (cases_Bool (eqb q.index i)) [
    | inl s ↦
        let j : q.index ≡ i = eqb-true q.index i s in
        ap (λ k. option_and_then (λ (x : FunctionEntry). function_part x q.part) (slice_get new.functions.items k)) j
        ∙ ap (option_and_then (λ (x : FunctionEntry). function_part x q.part)) here
        ∙ parts_stay e d q.part
        ∙ ap (option_and_then (λ (x : FunctionEntry). function_part x q.part)) (sym is)
        ∙ ap (λ k. option_and_then (λ (x : FunctionEntry). function_part x q.part) (slice_get old.functions.items k)) (sym j)
    | inr s ↦ ap (option_and_then (λ (x : FunctionEntry). function_part x q.part)) (others q.index s)
  ]

  pub put_dropped : new.rows ≡ old.rows → new.heads ≡ old.heads → new.entries ≡ old.entries → IsDropped old new i d
  put_dropped rows heads entries = record {
    here = ap (option_map (λ (x : FunctionEntry). x.drops)) here;
    elsewhere = λ j n. ap (option_map (λ (x : FunctionEntry). x.drops)) (others j n);
    facts = λ q. elim (cases_Bool (is_of_command q.part)) [
      | inl a ↦ kept_command new q a ∙ ap (λ v. option_and_then (λ (x : Entry). entry_part x q.part) (slice_get v.items q.index)) entries ∙ sym (kept_command old q a)
      | inr a ↦ elim (cases_Bool (is_of_function q.part)) [
        | inl b ↦ kept_function new q a b ∙ stay q ∙ sym (kept_function old q a b)
        | inr b ↦ kept_head new q a b ∙ ap (λ m. get nat_eq m (q.index + 1)) heads ∙ sym (kept_head old q a b)
      ]
    ];
    heads = λ k. ap (λ m. get nat_eq m k) heads;
    rows = rows;
    entries = ap (λ v. length v.items) entries;
    functions = ap length put ∙ length-set old.functions.items i (record e { drops = d });
  }

pub drops_within : (c : Certificate) (i : ℕ) → is_some (drops_at c i) ≡ true → i < length c.functions.items
drops_within c i h = go (slice_get c.functions.items i) refl h
  where
    go : (o : Option FunctionEntry) → slice_get c.functions.items i ≡ o → is_some (option_map (λ (x : FunctionEntry). x.drops) o) ≡ true → i < length c.functions.items
    go None e h = absurd (true≢false (sym h))
    go (Some x) e h = slice_get_within c.functions.items i x e
