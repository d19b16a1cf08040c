-- Texts that references lead to, and names among texts.
use Rattle.std.proofs.Common.{◌≡◌, ℕ, ◌+◌, Bool, true, false, cond, not, ◌&&◌, List, [], ◌∷◌, map, Option, Some, None, Bor, Vec, Global, refl, ap, sym, ◌∙◌}
use Rattle.std.specs.List.{list_all, position, position_from}
use Rattle.std.proofs.lemmas.Iterator.Adapters.{position_from-zero}
use Rattle.sh_tree.specs.standard.language.Bytes.{is_name}
use Rattle.sh_tree.specs.standard.program.Syntax.{Text}
use Rattle.sh_domain.specs.Policy.{first_bad}

position_from-map : {A B : Type 0} (p : B → Bool) (f : A → B) (i : ℕ) (xs : List A) → position_from p i (map f xs) ≡ position_from (λ x. p (f x)) i xs
position_from-map p f i [] = refl
position_from-map p f i (x ∷ xs) = ap (cond (p (f x)) (Some i)) (position_from-map p f (i + 1) xs)

pub position-map : {A B : Type 0} (p : B → Bool) (f : A → B) (xs : List A) → position p (map f xs) ≡ position (λ x. p (f x)) xs
position-map p f xs = position_from-zero p (map f xs) ∙ position_from-map p f 0 xs ∙ sym (position_from-zero (λ x. p (f x)) xs)

pub first_bad_mapped : (texts : List (Bor (List ℕ))) → first_bad (map (λ (s : Bor (List ℕ)). s.now) texts) ≡ position (λ (s : Bor (List ℕ)). not (is_name s.now)) texts
first_bad_mapped texts = position-map (λ t. not (is_name t)) (λ (s : Bor (List ℕ)). s.now) texts

none_bad : (i : ℕ) (ts : List Text) → position_from (λ t. not (is_name t)) i ts ≡ None → list_all is_name ts ≡ true
none_bad i [] h = refl
none_bad i (t ∷ ts) h = go (is_name t) (position_from (λ t. not (is_name t)) (i + 1) ts) (none_bad (i + 1) ts) h
  where
    go : (q : Bool) (o : Option ℕ) → (o ≡ None → list_all is_name ts ≡ true) → cond (not q) (Some i) o ≡ None → (q && list_all is_name ts) ≡ true
    go true o rest h = rest h
    go false o rest h = cc

-- copies of texts of which none is bad are names
pub copies_named : (texts : List (Bor (List ℕ))) (copies : List (Vec ℕ Global)) → position (λ (s : Bor (List ℕ)). not (is_name s.now)) texts ≡ None
    → map (λ (v : Vec ℕ Global). v.items) copies ≡ map (λ (s : Bor (List ℕ)). s.now) texts → list_all is_name (map (λ (v : Vec ℕ Global). v.items) copies) ≡ true
copies_named texts copies none same =
    let ts = map (λ (s : Bor (List ℕ)). s.now) texts in
    ap (list_all is_name) same ∙ none_bad 0 ts (sym (position_from-zero (λ t. not (is_name t)) ts) ∙ first_bad_mapped texts ∙ none)
