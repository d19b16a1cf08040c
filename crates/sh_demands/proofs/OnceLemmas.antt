-- Names that are reported once occur once each.
use Rattle.std.proofs.Common.{◌≡◌, ℕ, Bool, true, false, ◌||◌, if◌then◌else◌, List, [], ◌∷◌, ◌++◌, append_assoc, append-nil, drop, fold, length, map, refl, sym, ap, ◌∙◌}
use Rattle.std.specs.List.{list_any}
use Rattle.std.specs.Str.{bytes_eq}
use Rattle.std.proofs.lemmas.List.{map-append}
use Rattle.sh_tree.specs.declared.place.Place.{Place}
use Rattle.sh_tree.specs.standard.program.Syntax.{Text}
use Rattle.sh_runs.specs.standard.runs.Environment.{is_one_of}
use Rattle.sh_domain.specs.Demands.{drop_at, with_text}
use Rattle.sh_demands.specs.Drops.{once_told, all_told}

behind_front : {A : Type 0} (xs ys : List A) → drop (length xs) (xs ++ ys) ≡ ys
behind_front [] ys = refl
behind_front (x ∷ xs) ys = behind_front xs ys

about : (at : ℕ) (ns : List Text) (t : Text) → list_any (λ (x : Place). bytes_eq x.subject t) (map (drop_at at) ns) ≡ is_one_of ns t
about at [] t = refl
about at (n ∷ ns) t = ap (λ b. bytes_eq n t || b) (about at ns t)

-- one name more
one_once : (at : ℕ) (ps : List Place) (ns : List Text) (t : Text) → once_told (length ps) at (ps ++ map (drop_at at) ns) t ≡ ps ++ map (drop_at at) (with_text ns t)
unfolding once_told with_text
one_once at ps ns t =
    ap (λ b. if b then ps ++ map (drop_at at) ns else (ps ++ map (drop_at at) ns) ++ drop_at at t ∷ [])
    (ap (list_any (λ (x : Place). bytes_eq x.subject t)) (behind_front ps (map (drop_at at) ns)) ∙ about at ns t)
    ∙ go (is_one_of ns t)
  where
    go : (b : Bool) → (if b then ps ++ map (drop_at at) ns else (ps ++ map (drop_at at) ns) ++ drop_at at t ∷ []) ≡ ps ++ map (drop_at at) (if b then ns else ns ++ t ∷ [])
    go true = refl
    go false = append_assoc ps (map (drop_at at) ns) (drop_at at t ∷ []) ∙ ap (λ xs. ps ++ xs) (sym (map-append (drop_at at) ns (t ∷ [])))

more_once : (at : ℕ) (ps : List Place) (told ns : List Text) → all_told (length ps) at (ps ++ map (drop_at at) told) ns ≡ ps ++ map (drop_at at) (fold with_text told ns)
more_once at ps told [] = refl
more_once at ps told (t ∷ ns) = ap (λ qs. all_told (length ps) at qs ns) (one_once at ps told t) ∙ more_once at ps (with_text told t) ns

pub all_once : (at : ℕ) (ps : List Place) (ns : List Text) → all_told (length ps) at ps ns ≡ ps ++ map (drop_at at) (fold with_text [] ns)
all_once at ps ns = ap (λ qs. all_told (length ps) at qs ns) (sym (append-nil ps)) ∙ more_once at ps [] ns
