-- What is read of the parts of a text, one after the other.
use Rattle.std.proofs.Common.{◌≡◌, ℕ, zero, suc, ◌+◌, ◌<◌, ◌==◌, nat_le, Bool, true, false, ◌&&◌, ◌||◌, if◌then◌else◌, List, [], ◌∷◌, length, Option, Some, None, slice_get, option_map, refl, sym, ap, ◌∙◌, arith}
use Rattle.std.specs.Borrow.{Bor}
use Rattle.std.specs.List.{list_any, position_from}
use Rattle.std.specs.Str.{bytes_eq}
use Rattle.std.proofs.lemmas.Bool.{and_parts}
use Rattle.std.proofs.lemmas.Option.{slice_get_within}
use Rattle.sh_rows.specs.declared.bits.BitRow.{BitRow}
use Rattle.sh_tree.specs.standard.program.Syntax.{Text}
use Rattle.sh_runs.specs.standard.runs.Environment.{is_one_of}
use Rattle.sh_domain.specs.declared.rows.RowId.{RowId}
use Rattle.sh_domain.specs.declared.certificate.Drops.{Drops}
use Rattle.sh_domain.specs.declared.certificate.Facts as value
use Rattle.sh_domain.specs.declared.certificate.Facts.TheVariants as value_kind
use Rattle.sh_facts.specs.declared.forms.SetTexts.{SetTexts}
use Rattle.sh_facts.specs.declared.forms.FactText.{FactText}
use Rattle.sh_facts.specs.declared.forms.FactText.TheVariants as fact
use Rattle.sh_facts.specs.declared.forms.CommandTexts.{CommandTexts}
use Rattle.sh_facts.specs.declared.forms.FunctionTexts.{FunctionTexts}
use Rattle.sh_domain.specs.Certificates as claims
use Rattle.sh_domain.specs.Certificates.{in_byte_order, names_at}
use Rattle.sh_domain.specs.Facts.{Claimed}
use Rattle.sh_facts.specs.Fields as field
use Rattle.sh_facts.specs.Fields.{pieces_left, split}
use Rattle.sh_domain.specs.Operands.{Names}
use Rattle.sh_domain.specs.Spelling.{is_writable, is_writable_head, are_writable}
use Rattle.sh_domain.specs.Forms.{pieces, is_rising}
use Rattle.sh_domain.specs.KeptRows.{KeptRows, Stay, bits_of, bits_in, holds_at}
use Rattle.sh_domain.specs.Names.{are_distinct, number_of}
use Rattle.sh_domain.specs.Reading.{are_known, claim_fits, head_fits}
use Rattle.sh_domain.specs.Names.{is_name_of, is_among}
use Rattle.sh_facts.specs.ReadParts.{IsRowOf, IsRead, ReadsSets, ReadsFacts, ReadsHead, ReadsCommand, ReadsFunction}
use Rattle.sh_domain.proofs.SpellingLemmas.{none_some}
use Rattle.sh_domain.proofs.RowReadLemmas.{or_shuffle, placed_number, named_row}

-- The names of a set

known_at : (p : Text → Bool) (j n : ℕ) (names : List Text) → position_from p j names ≡ Some n → (list_any p names ≡ true) × (n < j + length names)
known_at p j n [] e = absurd (none_some e)
known_at p j n (m ∷ ms) e = step (p m) e (known_at p (j + 1) n ms)
  where
    step : (b : Bool) → (if b then Some j else position_from p (j + 1) ms) ≡ Some n → (position_from p (j + 1) ms ≡ Some n → (list_any p ms ≡ true) × (n < j + 1 + length ms))
        → ((b || list_any p ms) ≡ true) × (n < j + suc (length ms))
    step true h go = let same : j ≡ n = cc in (refl, omega (arith, same))
    step false h go = let r = go h in let l : n < j + 1 + length ms = r.1 in (r.0, omega (arith, l))

unknown_at : (p : Text → Bool) (j : ℕ) (names : List Text) → position_from p j names ≡ None → list_any p names ≡ false
unknown_at p j [] e = refl
unknown_at p j (m ∷ ms) e = step (p m) e (unknown_at p (j + 1) ms)
  where
    step : (b : Bool) → (if b then Some j else position_from p (j + 1) ms) ≡ None → (position_from p (j + 1) ms ≡ None → list_any p ms ≡ false) → (b || list_any p ms) ≡ false
    step true h go = absurd (none_some (sym h))
    step false h go = go h

pub number_below : (names : List Text) (t : Text) (n : ℕ) → Some n ≡ number_of names t → n < length names
number_below names t n e = let l : n < 0 + length names = (known_at (λ m. bytes_eq m t) 0 n names (sym e)).1 in omega (arith, l)

module _ (names : List Text) (row : BitRow) (first : ℕ → Bool) (all : List Text) (left behind : Option (Bor (List ℕ))) (rest name : Bor (List ℕ)) (is : left ≡ Some rest)
    (cut : pieces 44 rest.now ≡ name.now ∷ pieces_left 44 behind) where
  left_pieces : pieces_left 44 left ≡ name.now ∷ pieces_left 44 behind
  unfolding pieces_left
  left_pieces = ap (pieces_left 44) is ∙ cut

  pub numbers_on : (new : BitRow) (n : ℕ) → are_distinct names ≡ true → Some n ≡ number_of names name.now → ((k : ℕ) → bits_of new k ≡ (k == n || bits_of row k))
      → ((k : ℕ) → (bits_of row k || is_among names (pieces_left 44 left) k) ≡ (first k || is_among names all k)) → (k : ℕ) → (bits_of new k || is_among names (pieces_left 44 behind) k) ≡ (first k || is_among names all k)
  numbers_on new n d e more inv k =
      let here : is_name_of (slice_get names k) name.now ≡ (0 + k == n) = (placed_number names 0 k n name.now d (sym e)).1 in
      let same : 0 + k ≡ k = omega arith in
      ap (λ b. b || is_among names (pieces_left 44 behind) k) (more k) ∙ or_shuffle (bits_of row k) (k == n) (is_among names (pieces_left 44 behind) k)
      ∙ ap (λ b. bits_of row k || (b || is_among names (pieces_left 44 behind) k)) (sym (here ∙ ap (λ i. i == n) same))
      ∙ ap (λ ts. bits_of row k || is_among names ts k) (sym left_pieces) ∙ inv k

  pub known_on : (n : ℕ) → Some n ≡ number_of names name.now → are_known names (pieces_left 44 left) ≡ are_known names all → are_known names (pieces_left 44 behind) ≡ are_known names all
  known_on n e inv =
      let here : is_one_of names name.now ≡ true = (known_at (λ m. bytes_eq m name.now) 0 n names (sym e)).0 in
      sym (ap (λ b. b && are_known names (pieces_left 44 behind)) here) ∙ ap (are_known names) (sym left_pieces) ∙ inv

  pub not_known : None ≡ number_of names name.now → are_known names (pieces_left 44 left) ≡ are_known names all → are_known names all ≡ false
  not_known e inv =
      let here : is_one_of names name.now ≡ false = unknown_at (λ m. bytes_eq m name.now) 0 names (sym e) in
      sym inv ∙ ap (are_known names) left_pieces ∙ ap (λ b. b && are_known names (pieces_left 44 behind)) here

or_nothing : (a : Bool) → (a || false) ≡ a
or_nothing true = refl
or_nothing false = refl

pub numbers_end : (names : List Text) (row : BitRow) (first : ℕ → Bool) (all : List Text) (left : Option (Bor (List ℕ))) → left ≡ None
    → ((k : ℕ) → (bits_of row k || is_among names (pieces_left 44 left) k) ≡ (first k || is_among names all k)) → (k : ℕ) → bits_of row k ≡ (first k || is_among names all k)
unfolding pieces_left
numbers_end names row first all left e inv k = sym (or_nothing (bits_of row k)) ∙ ap (λ o. bits_of row k || is_among names (pieces_left 44 o) k) (sym e) ∙ inv k

pub known_end : (names all : List Text) (left : Option (Bor (List ℕ))) → left ≡ None → are_known names (pieces_left 44 left) ≡ are_known names all → are_known names all ≡ true
unfolding pieces_left
known_end names all left e inv = sym inv ∙ ap (λ o. are_known names (pieces_left 44 o)) e

pub split_pieces : (t : Text) → 0 < length t → split t ≡ pieces 44 t
unfolding split
split_pieces [] l = absurd (omega arith)
split_pieces (c ∷ t) l = refl

pub split_nothing : (t : Text) → length t ≡ 0 → split t ≡ []
unfolding split
split_nothing [] l = refl
split_nothing (c ∷ t) l = absurd (omega arith)

-- What is read, and what stays

some_at : {A : Type 0} (xs : List A) (i : ℕ) → i < length xs → (x : A) × (slice_get xs i ≡ Some x)
some_at [] i l = absurd (omega arith)
some_at (x ∷ xs) zero l = (x, refl)
some_at (x ∷ xs) (suc i) l = some_at xs i (omega arith)

pub stay_on : (a b c : List BitRow) → Stay a b → Stay b c → Stay a c
stay_on a b c f g i l =
    let x = some_at a i l in
    let there : i < length b = slice_get_within b i x.0 (f i l ∙ x.1) in
    g i there ∙ f i l

pub row_lasts : (names : List Text) (t : Text) (rows new later : KeptRows) (row : BitRow) (id : RowId) → IsRowOf names t row → ((k : ℕ) → holds_at new.rows id.index k ≡ bits_of row k) → id.index < length new.rows → Stay new.rows later.rows
    → is_rising (split t) ≡ true → names_at (in_byte_order names) later id ≡ split t
unfolding bits_in
row_lasts names t rows new later row id r found lt stay rising =
    named_row names (split t) (λ k. holds_at later.rows id.index k) r.distinct r.fit rising (λ k. ap (λ o. bits_in o k) (stay id.index lt) ∙ found k ∙ r.numbers k)

pub both_read : {a b c : KeptRows} {f g : Bool} {P Q : KeptRows → Type 0} → IsRead a b f P → IsRead b c g Q → IsRead a c (f && g) (λ r. P r × Q r)
both_read {a} {b} {c} x y = record {
  count = y.count ∙ x.count;
  stay = stay_on a.rows b.rows c.rows x.stay y.stay;
  fit = rw (x.fit, y.fit) refl;
  lasting = λ later s. (x.lasting later (stay_on b.rows c.rows later.rows y.stay s), y.lasting later s);
}

pub read_says : {a b : KeptRows} {f g : Bool} {P Q : KeptRows → Type 0} → f ≡ g → ((r : KeptRows) → P r → Q r) → IsRead a b f P → IsRead a b g Q
read_says e h x = record { count = x.count; stay = x.stay; fit = sym e ∙ x.fit; lasting = λ later s. h later (x.lasting later s) }

pub nothing_read : (a : KeptRows) (Q : KeptRows → Type 0) → ((r : KeptRows) → Q r) → IsRead a a true Q
nothing_read a Q h = record { count = refl; stay = λ i l. refl; fit = refl; lasting = λ later s. h later }

-- Facts, commands, functions

module _ (names : List Text) where
  pub known_read : (args : ℕ) (t : SetTexts) (old new : KeptRows) (d : Drops) → ReadsSets names t old d new → ReadsFacts names (fact.Known args t) old (value_kind.Known d.vars d.functions args) new
  unfolding claim_fits field.claim_of is_writable claims.claim_of
  known_read args t old new d x =
      read_says refl (λ r h w. ap (λ (n : Names). Claimed n.vars n.functions args) (h (and_parts (are_writable (field.sets_of t)) (nat_le args 65535) w).0)) x

  pub unreached_read : (old : KeptRows) → ReadsFacts names fact.NotReached old value_kind.NotReached old
  unfolding claim_fits field.claim_of claims.claim_of
  unreached_read old = nothing_read old _ (λ r w. refl)

  pub head_read : (t : FactText) (old new : KeptRows) (f : value.Facts) → ReadsFacts names t old f new → ReadsHead names (Some t) true old (Some f) new
  unfolding head_fits is_writable_head
  head_read t old new f x = read_says refl (λ r h w. ap Some (h w)) x

  pub no_head_read : (old : KeptRows) → ReadsHead names None false old None old
  unfolding head_fits
  no_head_read old = nothing_read old _ (λ r w. refl)

  pub command_read : (t : CommandTexts) (l : Bool) (a b c d e : KeptRows) (f g h : value.Facts) (head : Option value.Facts) → ReadsFacts names t.before a f b → ReadsFacts names t.zero b g c → ReadsFacts names t.nonzero c h d
      → ReadsHead names t.head l d head e → ReadsCommand names t l a (record { before = f; zero = g; nonzero = h }) head e
  command_read t l a b c d e f g h head x y z u =
      read_says refl (λ r p w.
      let q = and_parts (is_writable (field.claim_of t.before) && is_writable (field.claim_of t.zero) && is_writable (field.claim_of t.nonzero)) (is_writable_head (option_map field.claim_of t.head)) w in
      let s = and_parts (is_writable (field.claim_of t.before) && is_writable (field.claim_of t.zero)) (is_writable (field.claim_of t.nonzero)) q.0 in
      let v = and_parts (is_writable (field.claim_of t.before)) (is_writable (field.claim_of t.zero)) s.0 in
      rw (p.0.0.0 v.0, p.0.0.1 v.1, p.0.1 s.1, p.1 q.1) refl)
      (both_read (both_read (both_read x y) z) u)

  pub function_read : (t : FunctionTexts) (a b c d e : KeptRows) (f g h : value.Facts) (drops : Drops) → ReadsFacts names t.before a f b → ReadsSets names t.drops b drops c → ReadsFacts names t.zero c g d
      → ReadsFacts names t.nonzero d h e → ReadsFunction names t a (record { before = f; drops = drops; zero = g; nonzero = h }) e
  function_read t a b c d e f g h drops x y z u =
      read_says refl (λ r p w.
      let q = and_parts (is_writable (field.claim_of t.before) && are_writable (field.sets_of t.drops) && is_writable (field.claim_of t.zero)) (is_writable (field.claim_of t.nonzero)) w in
      let s = and_parts (is_writable (field.claim_of t.before) && are_writable (field.sets_of t.drops)) (is_writable (field.claim_of t.zero)) q.0 in
      let v = and_parts (is_writable (field.claim_of t.before)) (are_writable (field.sets_of t.drops)) s.0 in
      rw (p.0.0.0 v.0, p.0.0.1 v.1, p.0.1 s.1, p.1 q.1) refl)
      (both_read (both_read (both_read x y) z) u)
