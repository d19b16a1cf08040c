-- Facts by numbers and by names.
use Rattle.std.proofs.Common.{◌≡◌, ℕ, Bool, true, false, ◌&&◌, min, Option, Some, None, List, slice_get, is_some, refl, sym, ap, ap₂, ◌∙◌, true≢false, ◌<◌, ◌≤◌, nat_lt, eqb, ◌||◌, [], ◌∷◌, length, arith, inl, inr}
use Rattle.std.proofs.Math.Path.{fun_ext}
use Rattle.std.proofs.lemmas.Bool.{and_from, lt-ltb, le-ltb, eqb-true, false_from_ne_true}
use Rattle.sh_tree.specs.standard.program.Syntax.{Text}
use Rattle.sh_runs.specs.standard.runs.Environment.{is_one_of}
use Rattle.sh_domain.specs.declared.certificate.Facts as value
use Rattle.sh_domain.specs.declared.certificate.Facts.TheVariants as value_kind
use Rattle.sh_domain.specs.declared.rows.RowId.{RowId}
use Rattle.sh_domain.specs.Certificates.{claim_of, in_byte_order, names_at}
use Rattle.sh_domain.specs.Facts.{Facts, NotReached, Known, facts, meet}
use Rattle.sh_domain.specs.KeptRows.{KeptRows, holds_at, bits_of}
use Rattle.sh_domain.specs.Knowledge.{AreNumbered, among, at_number, assured_facts}
use Rattle.sh_domain.specs.Names.{number_of}
use Rattle.sh_domain.specs.Reading.{are_known, claim_fits}
use Rattle.sh_domain.proofs.KnowledgeLemmas.{has_number, in_row, stands_there, number_is_name, and_none}
use Rattle.sh_domain.proofs.OrderLemmas.{all_among}
use Rattle.sh_drafts.specs.Facts as number
use Rattle.sh_drafts.specs.Kept.{fact_of}
use Rattle.sh_drafts.specs.Numbers.{name_passes, by_number, by_name}
use Rattle.std.proofs.lemmas.Option.{slice_get_within, slice_get_cases}
use Rattle.std.specs.Str.{bytes_eq}
use Rattle.std.proofs.lemmas.Slice.Eq.{bytes_eq-Decides}
use Rattle.sh_rows.specs.Numbers.{has_bit}
use Rattle.sh_rows.specs.declared.bits.BitRow.{BitRow}
use Rattle.sh_domain.specs.declared.knowledge.Assured.{Assured}
use Rattle.sh_domain.proofs.RowLemmas.{bits_at, no_bits}
use Rattle.sh_drafts.specs.Gathered.{counted}
use Rattle.sh_drafts.specs.Gathering.{and_true, or_false}

known_of : (v w f g : Text → Bool) (a : ℕ) → ((t : Text) → v t ≡ w t) → ((t : Text) → f t ≡ g t) → Known v f a ≡ Known w g a
known_of v w f g a h k = ap₂ (λ x y. Known x y a) (fun_ext h) (fun_ext k)

-- what is claimed by rows
pub claim_named : (names : List Text) → AreNumbered names → (rows : KeptRows) (f : value.Facts) → facts (claim_of (in_byte_order names) rows f) ≡ by_name names (fact_of rows.rows f)
unfolding facts claim_of fact_of by_name
claim_named names h rows value_kind.NotReached = refl
claim_named names h rows (value_kind.Known v f a) = known_of _ _ _ _ a (in_row names h rows v) (in_row names h rows f)

-- there and back only numbered names are left
test_back : (names : List Text) (v : Text → Bool) (t : Text) → at_number (λ k. name_passes v (slice_get names k)) (number_of names t) ≡ (is_one_of names t && v t)
unfolding at_number name_passes
test_back names v t = by (number_of names t) refl
  where
    by : (o : Option ℕ) → number_of names t ≡ o → at_number (λ k. name_passes v (slice_get names k)) o ≡ (is_one_of names t && v t)
    by None e = let none : is_one_of names t ≡ false = has_number names t ∙ ap is_some e in rw none refl
    by (Some k) e =
        let some : is_one_of names t ≡ true = has_number names t ∙ ap is_some e in
        rw some (ap (name_passes v) (stands_there names k t e))

pub back : (names : List Text) (f : Facts) → by_name names (by_number names f) ≡ among names f
unfolding by_name by_number among
back names NotReached = refl
back names (Known v f a) = known_of _ _ _ _ a (test_back names v) (test_back names f)

-- meets
pub number_both : (v w : ℕ → Bool) (o : Option ℕ) → at_number (λ k. v k && w k) o ≡ (at_number v o && at_number w o)
unfolding at_number
number_both v w None = refl
number_both v w (Some k) = refl

pub name_both : (v w : Text → Bool) (o : Option Text) → name_passes (λ t. v t && w t) o ≡ (name_passes v o && name_passes w o)
unfolding name_passes
name_both v w None = refl
name_both v w (Some t) = refl

pub meet_named : (names : List Text) (f g : number.Facts) → by_name names (number.meet f g) ≡ meet (by_name names f) (by_name names g)
unfolding by_name number.meet meet
meet_named names number.NotReached g = refl
meet_named names (number.Known v f a) number.NotReached = refl
meet_named names (number.Known v f a) (number.Known w g b) =
    known_of _ _ _ _ (min a b) (λ t. number_both v w (number_of names t)) (λ t. number_both f g (number_of names t))

pub meet_numbered : (names : List Text) (f g : Facts) → by_number names (meet f g) ≡ number.meet (by_number names f) (by_number names g)
unfolding by_number number.meet meet
meet_numbered names NotReached g = refl
meet_numbered names (Known v f a) NotReached = refl
meet_numbered names (Known v f a) (Known w g b) =
    ap₂ (λ (x y : ℕ → Bool). number.Known x y (min a b)) (fun_ext (λ k. name_both v w (slice_get names k))) (fun_ext (λ k. name_both f g (slice_get names k)))

-- only numbered names have numbers
pub among_numbered : (names : List Text) → AreNumbered names → (f : Facts) → by_number names (among names f) ≡ by_number names f
unfolding by_number among name_passes
among_numbered names h NotReached = refl
among_numbered names h (Known v f a) = ap₂ (λ (x y : ℕ → Bool). number.Known x y a) (fun_ext (λ k. only v (slice_get names k) k refl)) (fun_ext (λ k. only f (slice_get names k) k refl))
  where
    only : (w : Text → Bool) (o : Option Text) (k : ℕ) → slice_get names k ≡ o → name_passes (λ t. is_one_of names t && w t) o ≡ name_passes w o
    only w None k e = refl
    only w (Some t) k e = let some : is_one_of names t ≡ true = has_number names t ∙ ap is_some (h.own k t e) in rw some refl

-- claims of rows name numbered names alone

row_known : (names : List Text) → AreNumbered names → (rows : KeptRows) (id : RowId) → are_known names (names_at (in_byte_order names) rows id) ≡ true
unfolding at_number
row_known names h rows id = all_among (is_one_of names) (names_at (in_byte_order names) rows id) (λ t e. by t (number_of names t) refl (sym (in_row names h rows id t) ∙ e))
  where
    by : (t : Text) (o : Option ℕ) → number_of names t ≡ o → at_number (λ k. holds_at rows.rows id.index k) (number_of names t) ≡ true → is_one_of names t ≡ true
    by t None e a = absurd (true≢false (sym a ∙ ap (at_number (λ k. holds_at rows.rows id.index k)) e))
    by t (Some k) e a = has_number names t ∙ ap is_some e

pub sets_known : (names : List Text) → AreNumbered names → (rows : KeptRows) (v f : RowId)
    → (are_known names (names_at (in_byte_order names) rows v) && are_known names (names_at (in_byte_order names) rows f)) ≡ true
sets_known names h rows v f = and_from _ _ (row_known names h rows v) (row_known names h rows f)

pub claim_known : (names : List Text) → AreNumbered names → (rows : KeptRows) (f : value.Facts) → claim_fits names (claim_of (in_byte_order names) rows f) ≡ true
unfolding claim_fits claim_of
claim_known names h rows value_kind.NotReached = refl
claim_known names h rows (value_kind.Known v f a) = sets_known names h rows v f

-- Tests of names, by their numbers

past : (names : List Text) (k : ℕ) → slice_get names k ≡ None → length names ≤ k
past names k e = elim (slice_get_cases names k).1 [
  | inl w ↦ absurd (true≢false (sym (ap is_some w.2) ∙ ap is_some e))
  | inr w ↦ w.0
]

module _ (names : List Text) (h : AreNumbered names) where
  numbered_test : (p : ℕ → Bool) (k : ℕ) → (p k && nat_lt k (length names)) ≡ name_passes (λ t. at_number p (number_of names t)) (slice_get names k)
  unfolding name_passes at_number
  numbered_test p k = go (slice_get names k) refl
    where
      go : (o : Option Text) → slice_get names k ≡ o → (p k && nat_lt k (length names)) ≡ name_passes (λ t. at_number p (number_of names t)) o
      go None e = ap (λ b. p k && b) (le-ltb k (length names) (past names k e)) ∙ and_none (p k)
      go (Some t) e = ap (λ b. p k && b) (lt-ltb k (length names) (slice_get_within names k t e)) ∙ and_true (p k) ∙ sym (ap (at_number p) (h.own k t e))

  same_numbers : (v u f g : ℕ → Bool) (m n : ℕ) → v ≡ u → f ≡ g → m ≡ n → number.Known v f m ≡ number.Known u g n
  same_numbers v u f g m n x y z = cc

  pub assured_numbers : (s : Assured) (v f : ℕ → Bool) (a : ℕ) → ((k : ℕ) → v k ≡ (has_bit k s.vars.words && nat_lt k (length names)))
      → ((k : ℕ) → f k ≡ (has_bit k s.functions.words && nat_lt k (length names))) → a ≡ s.args → number.Known v f a ≡ by_number names (assured_facts names s)
  unfolding by_number
  assured_numbers s v f a vars functions args =
      same_numbers _ _ _ _ _ _ (fun_ext (λ k. vars k ∙ numbered_test (λ j. has_bit j s.vars.words) k)) (fun_ext (λ k. functions k ∙ numbered_test (λ j. has_bit j s.functions.words) k)) args

  -- a name that is added

  swapped : (a b : Bool) → (a || b) ≡ (b || (a || false))
  swapped true true = refl
  swapped true false = refl
  swapped false b = sym (or_false b)

  pub name_added : (name : Text) (n : ℕ) (old new : ℕ → Bool) → number_of names name ≡ Some n → ((k : ℕ) → new k ≡ (eqb k n || old k))
      → (k : ℕ) → new k ≡ (old k || name_passes (is_one_of (name ∷ [])) (slice_get names k))
  unfolding name_passes
  name_added name n old new is added k = go (slice_get names k) refl
    where
      go : (o : Option Text) → slice_get names k ≡ o → new k ≡ (old k || name_passes (is_one_of (name ∷ [])) o)
      go None e =
          let other : eqb k n ≡ false = false_from_ne_true (eqb k n) (λ s. let same : k ≡ n = eqb-true k n s in true≢false (sym (ap is_some (stands_there names n name is)) ∙ ap (λ j. is_some (slice_get names j)) (sym same) ∙ ap is_some e)) in
          added k ∙ ap (λ b. b || old k) other ∙ sym (or_false (old k))
      go (Some t) e = added k ∙ ap (λ b. b || old k) (number_is_name names n k name t is (h.own k t e)) ∙ swapped (bytes_eq name t) (old k)

  pub name_unknown : (name : Text) (old : ℕ → Bool) → number_of names name ≡ None → (k : ℕ) → old k ≡ (old k || name_passes (is_one_of (name ∷ [])) (slice_get names k))
  unfolding name_passes
  name_unknown name old is k = go (slice_get names k) refl
    where
      go : (o : Option Text) → slice_get names k ≡ o → old k ≡ (old k || name_passes (is_one_of (name ∷ [])) o)
      go None e = sym (or_false (old k))
      go (Some t) e =
          let other : bytes_eq name t ≡ false = false_from_ne_true (bytes_eq name t) (λ s. let same : name ≡ t = (bytes_eq-Decides name t).0 s in true≢false (sym (ap is_some (h.own k t e)) ∙ ap (λ u. is_some (number_of names u)) (sym same) ∙ ap is_some is)) in
          sym (ap (λ b. old k || (b || false)) other ∙ or_false (old k))

  -- a row that is added

  row_test : (rows : KeptRows) (id : RowId) → ((k : ℕ) → length names ≤ k → holds_at rows.rows id.index k ≡ false)
      → (k : ℕ) → holds_at rows.rows id.index k ≡ name_passes (is_one_of (names_at (in_byte_order names) rows id)) (slice_get names k)
  unfolding name_passes at_number
  row_test rows id none k = go (slice_get names k) refl
    where
      go : (o : Option Text) → slice_get names k ≡ o → holds_at rows.rows id.index k ≡ name_passes (is_one_of (names_at (in_byte_order names) rows id)) o
      go None e = none k (past names k e)
      go (Some t) e = sym (in_row names h rows id t ∙ ap (at_number (λ j. holds_at rows.rows id.index j)) (h.own k t e))

  or_swapped : (a b : Bool) → (a || b) ≡ (b || a)
  or_swapped true true = refl
  or_swapped true false = refl
  or_swapped false b = sym (or_false b)

  pub row_added : (rows : KeptRows) (id : RowId) (row : BitRow) (old new : ℕ → Bool) → slice_get rows.rows id.index ≡ Some row → row.count ≡ rows.count → rows.count ≡ length names
      → ((k : ℕ) → new k ≡ (holds_at rows.rows id.index k || old k)) → (k : ℕ) → new k ≡ (old k || name_passes (is_one_of (names_at (in_byte_order names) rows id)) (slice_get names k))
  row_added rows id row old new is counted sized added k =
      added k ∙ or_swapped (holds_at rows.rows id.index k) (old k) ∙ ap (λ b. old k || b) (row_test rows id none k)
    where
      none : (j : ℕ) → length names ≤ j → holds_at rows.rows id.index j ≡ false
      none j far = bits_at rows.rows id.index row is j ∙ false_from_ne_true (bits_of row j) (λ s. let low : j < row.count = row.below j s in absurd (omega (arith, low, counted, sized, far)))

  pub row_unknown : (rows : KeptRows) (id : RowId) (old : ℕ → Bool) → slice_get rows.rows id.index ≡ None
      → (k : ℕ) → old k ≡ (old k || name_passes (is_one_of (names_at (in_byte_order names) rows id)) (slice_get names k))
  row_unknown rows id old is k =
      sym (ap (λ b. old k || b) (sym (row_test rows id (λ j far. no_bits rows.rows id.index is j) k) ∙ no_bits rows.rows id.index is k) ∙ or_false (old k))
