-- A text cut at a byte, and its pieces.
use Rattle.std.proofs.Common.{◌≡◌, ℕ, zero, suc, ◌+◌, ◌-◌, ◌<◌, option_map, IfSome, IfNone, length-drop, ◌==◌, nat_le, ◌&&◌, Bool, true, false, if◌then◌else◌, List, [], ◌∷◌, length, take, drop, Option, Some, None, refl, sym, ap, ◌∙◌, arith, slice_index}
use Rattle.std.specs.Str.{bytes_eq}
use Rattle.std.proofs.lemmas.Bool.{eqb-true, eq-eqb, le-leb, leb-true, and_from, and_parts}
use Rattle.std.proofs.lemmas.Slice.Eq.{bytes_eq-Decides}
use Rattle.std.specs.Borrow.{Bor}
use Rattle.bstr.specs.Find.{first_of, occurs_at, matches, matches_from}
use Rattle.bstr.specs.Text.{SplitsOnce}
use Rattle.sh_tree.specs.standard.program.Syntax.{Text}
use Rattle.sh_domain.specs.Forms.{onto_first, pieces, onto_front, cut_at}
use Rattle.sh_domain.specs.Sheets.{joined}
use Rattle.sh_domain.proofs.SpellingLemmas.{none_some, joined_pieces, some_pieces}
use Rattle.sh_facts.specs.Fields.{sides_of}

-- The first match of a needle of one byte is where that byte first occurs

bool_same : (a b : Bool) → (a ≡ true → b ≡ true) → (b ≡ true → a ≡ true) → a ≡ b
bool_same true true f g = refl
bool_same true false f g = sym (f refl)
bool_same false true f g = g refl
bool_same false false f g = refl

occurs_first : (c d : ℕ) (t : Text) → occurs_at (d ∷ t) (c ∷ []) 0 ≡ (d == c)
occurs_first c d t =
    bool_same _ _
    (λ e.
    let same : (d ∷ []) ≡ (c ∷ []) = (bytes_eq-Decides (d ∷ []) (c ∷ [])).0 (and_parts (nat_le 1 (length (d ∷ t))) (bytes_eq (d ∷ []) (c ∷ [])) e).1 in
    eq-eqb d c (ap (λ (l : Text). slice_index l 0) same))
    (λ e. and_from (nat_le 1 (length (d ∷ t))) (bytes_eq (d ∷ []) (c ∷ [])) (le-leb _ _ (omega arith)) ((bytes_eq-Decides (d ∷ []) (c ∷ [])).1 (ap (λ x. x ∷ []) (eqb-true d c e))))

le_later : (a b : ℕ) → nat_le (suc a + 1) (suc b) ≡ nat_le (a + 1) b
le_later a b = bool_same _ _ (λ e. le-leb _ _ (omega (arith, leb-true _ _ e))) (λ e. le-leb _ _ (omega (arith, leb-true _ _ e)))

occurs_later : (c d : ℕ) (t : Text) (k : ℕ) → occurs_at (d ∷ t) (c ∷ []) (suc k) ≡ occurs_at t (c ∷ []) k
occurs_later c d t k = ap (λ b. b && bytes_eq (take 1 (drop k t)) (c ∷ [])) (le_later k (length t))

later_step : (a b : Bool) (i j : ℕ) (ks ls ms ns : List ℕ) → a ≡ b → j ≡ suc i → first_of ms ≡ option_map suc (first_of ns)
    → first_of (if a then j ∷ ks else ms) ≡ option_map suc (first_of (if b then i ∷ ls else ns))
unfolding first_of
later_step true true i j ks ls ms ns e f h = ap Some f
later_step true false i j ks ls ms ns e f h = absurd (cc)
later_step false true i j ks ls ms ns e f h = absurd (cc)
later_step false false i j ks ls ms ns e f h = h

-- after the first byte the matches are those of the rest, one place later
later : (c d : ℕ) (t : Text) (i j n : ℕ) → j ≡ suc i → first_of (matches_from (d ∷ t) (c ∷ []) 0 j n) ≡ option_map suc (first_of (matches_from t (c ∷ []) 0 i n))
unfolding matches_from first_of
later c d t i j zero e = refl
later c d t i j (suc n) e =
    let same : occurs_at (d ∷ t) (c ∷ []) j ≡ occurs_at t (c ∷ []) i = ap (λ k. occurs_at (d ∷ t) (c ∷ []) k) e ∙ occurs_later c d t i in
    later_step _ _ i j _ _ _ _ same e (later c d t (i + 1) (j + 1) n (omega (arith, e)))

-- what is before the place, and what is after it
abbrev sides_at : Text → Option ℕ → Option (Text × Text)
sides_at t r = option_map (λ k. (take k t, drop (suc k) t)) r

first_step : (a b : Bool) (d : ℕ) (t : Text) (r : Option ℕ) (ks ms : List ℕ) → a ≡ b → first_of ms ≡ option_map suc r → sides_at (d ∷ t) (first_of (if a then 0 ∷ ks else ms)) ≡ (if b then Some ([], t) else onto_front d (sides_at t r))
unfolding first_of onto_front
first_step true true d t r ks ms e h = refl
first_step true false d t r ks ms e h = absurd (cc)
first_step false true d t r ks ms e h = absurd (cc)
first_step false false d t None ks ms e h = ap (sides_at (d ∷ t)) h
first_step false false d t (Some k) ks ms e h = ap (sides_at (d ∷ t)) h

-- a text is cut at the first match
first_cut : (c : ℕ) (t : Text) (n : ℕ) → n ≡ length t + 1 → sides_at t (first_of (matches_from t (c ∷ []) 0 0 n)) ≡ cut_at c t
unfolding matches_from first_of cut_at
first_cut c t zero e = absurd (omega (arith, e))
first_cut c [] (suc zero) e = refl
first_cut c [] (suc (suc n)) e = absurd (omega (arith, e))
first_cut c (d ∷ t) (suc n) e =
    first_step _ _ d t (first_of (matches_from t (c ∷ []) 0 0 n)) _ _ (occurs_first c d t) (later c d t 0 1 n refl)
    ∙ ap (λ o. if d == c then Some ([], t) else onto_front d o) (first_cut c t n (omega (arith, e)))

pub split_cut : (c : ℕ) (t : Text) (o : Option (Bor (List ℕ) × Bor (List ℕ))) → SplitsOnce t (c ∷ []) (first_of (matches t (c ∷ []) 0)) o → option_map sides_of o ≡ cut_at c t
split_cut c t None none = ap (sides_at t) (sym none) ∙ first_cut c t (length t + 1 - 0) (omega arith)
split_cut c t (Some x) (k, at, before, behind) =
    let next : k + 1 ≡ suc k = omega arith in
    let rest : x.1.now ≡ drop (suc k) t = behind ∙ ap (λ n. drop n t) next in
    rw (before, rest) (ap (sides_at t) (sym at) ∙ first_cut c t (length t + 1 - 0) (omega arith))

-- The pieces of a text that is cut

pieces_step : (c d : ℕ) (t : Text) (b : Bool) (o : Option (Text × Text)) (x : Text × Text) → ((y : Text × Text) → o ≡ Some y → pieces c t ≡ y.0 ∷ pieces c y.1)
    → (if b then Some ([], t) else onto_front d o) ≡ Some x → (if b then [] ∷ pieces c t else onto_first d (pieces c t)) ≡ x.0 ∷ pieces c x.1
unfolding onto_front onto_first
pieces_step c d t true o x h e = let same : ([], t) ≡ x = cc in ap (λ (y : Text × Text). y.0 ∷ pieces c y.1) same
pieces_step c d t false None x h e = absurd (none_some e)
pieces_step c d t false (Some y) x h e =
    let same : (d ∷ y.0, y.1) ≡ x = cc in
    rw (h y refl) (ap (λ (z : Text × Text). z.0 ∷ pieces c z.1) same)

pub cut_pieces : (c : ℕ) (t : Text) (x : Text × Text) → cut_at c t ≡ Some x → pieces c t ≡ x.0 ∷ pieces c x.1
unfolding cut_at pieces
cut_pieces c [] x e = absurd (none_some e)
cut_pieces c (d ∷ t) x e = pieces_step c d t (d == c) (cut_at c t) x (cut_pieces c t) e

some_none : {A : Type 0} {x : A} → Some x ≡ None → ⊥
some_none e = cc

whole_step : (c d : ℕ) (t : Text) (b : Bool) (o : Option (Text × Text)) → (o ≡ None → pieces c t ≡ t ∷ []) → (if b then Some ([], t) else onto_front d o) ≡ None
    → (if b then [] ∷ pieces c t else onto_first d (pieces c t)) ≡ (d ∷ t) ∷ []
unfolding onto_front onto_first
whole_step c d t true o h e = absurd (some_none e)
whole_step c d t false (Some y) h e = absurd (some_none e)
whole_step c d t false None h e = rw (h refl) refl

pub whole_piece : (c : ℕ) (t : Text) → cut_at c t ≡ None → pieces c t ≡ t ∷ []
unfolding cut_at pieces
whole_piece c [] e = refl
whole_piece c (d ∷ t) e = whole_step c d t (d == c) (cut_at c t) (whole_piece c t) e

-- What a cut gives

pub two_pieces : (c : ℕ) (t : Text) (o : Option (Bor (List ℕ) × Bor (List ℕ))) → option_map sides_of o ≡ cut_at c t → IfSome o (λ x. pieces c t ≡ x.0.now ∷ pieces c x.1.now)
two_pieces c t None e = tt
two_pieces c t (Some x) e = cut_pieces c t (sides_of x) (sym e)

pub one_piece : (c : ℕ) (t : Text) (o : Option (Bor (List ℕ) × Bor (List ℕ))) → option_map sides_of o ≡ cut_at c t → IfNone o (pieces c t ≡ t ∷ [])
one_piece c t None e = whole_piece c t (sym e)
one_piece c t (Some x) e = tt

less_left : (k : ℕ) (d : ℕ) (t : Text) → length (drop (k + 1) (d ∷ t)) < length (d ∷ t)
less_left k d t = omega (arith, length-drop (k + 1) (d ∷ t))

pub less : (c : ℕ) (t : Text) (o : Option (Bor (List ℕ) × Bor (List ℕ))) → SplitsOnce t (c ∷ []) (first_of (matches t (c ∷ []) 0)) o → IfSome o (λ x. length x.1.now < length t)
unfolding cut_at
less c t None s = tt
less c [] (Some x) s = absurd (some_none (split_cut c [] (Some x) s))
less c (d ∷ t) (Some x) (k, at, before, behind) = rw behind (less_left k d t)

-- A form that only a text of one piece has is the form of its one piece
pub sole : {A : Type 0} (c : ℕ) (f : Text → Option A) (g : List Text → Option A) → ((t : Text) → g (t ∷ []) ≡ f t) → ((t u : Text) (ts : List Text) → g (t ∷ u ∷ ts) ≡ None)
    → ((t : Text) (x : A) → f t ≡ Some x → pieces c t ≡ t ∷ []) → (t : Text) → g (pieces c t) ≡ f t
unfolding joined
sole {A} c f g one more whole t = go (f t) refl
  where
    by : (ts : List Text) → pieces c t ≡ ts → f t ≡ None → g (pieces c t) ≡ f t
    by [] e n = absurd (let l : 0 < length (pieces c t) = some_pieces c t in let z : length (pieces c t) ≡ 0 = ap length e in omega (arith, l, z))
    by (u ∷ []) e n = let same : u ≡ t = sym (ap (joined c) e) ∙ joined_pieces c t in ap g e ∙ one u ∙ ap f same
    by (u ∷ v ∷ ts) e n = ap g e ∙ more u v ts ∙ sym n

    go : (o : Option A) → f t ≡ o → g (pieces c t) ≡ f t
    go (Some x) e = ap g (whole t x e) ∙ one t
    go None e = by (pieces c t) refl e
