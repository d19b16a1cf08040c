-- From the findings in order to what is reported of places.
use Rattle.std.proofs.Common.{◌≡◌, ℕ, ◌<◌, List, [], ◌∷◌, length, map, Result, Ok, Err, Vec, refl, subst, arith, IfOk}
use Rattle.std.specs.declared.alloc.Global.{Global}
use Rattle.std.proofs.lemmas.List.Sorted.{IsPermutation-map, length_permutation}
use Rattle.std.proofs.lemmas.List.{length-map}
use Rattle.std.specs.List.Sorted.{IsPermutation, IsSortedByKey}
use Rattle.sh_tree.specs.declared.place.Place.{Place}
use Rattle.sh_answers.specs.Findings.{AreFindings, contents_at}
use Rattle.sh_answers.specs.Verdicts.{contents_of, contents_cmp}
use Rattle.sh_answers.specs.declared.verdict.Finding.{Finding}

-- sorted findings of the same contents, if the sort was not refused memory
pub sorted_findings : {E : Type 0} (b : List ℕ) (ps : List Place) (fs : List Finding) (r : Result (Vec Finding Global) E) → map contents_of fs ≡ map (contents_at b) ps
    → IfOk r (λ v. IsPermutation fs v.items) → IfOk r (λ v. IsSortedByKey contents_of contents_cmp v.items) → IfOk r (λ v. AreFindings b ps v.items)
sorted_findings b ps fs (Ok v) e p s = record {
  same = subst (λ l. IsPermutation l (map contents_of v.items)) e (IsPermutation-map contents_of fs v.items p);
  sorted = s;
}
sorted_findings b ps fs (Err x) e p s = tt

-- where there are none
pub none_there : (ps : List Place) → length ps < 1 → ps ≡ []
none_there [] h = refl
none_there (x ∷ xs) h = absurd (omega arith)

-- where there is a place there is a finding
pub some_found : (b : List ℕ) (ps : List Place) (fs : List Finding) → 0 < length ps → AreFindings b ps fs → 0 < length fs
some_found b ps fs some f =
    let same : length (map contents_of fs) ≡ length (map (contents_at b) ps) = length_permutation _ _ f.same in
    let own : length (map contents_of fs) ≡ length fs = length-map fs contents_of in
    let others : length (map (contents_at b) ps) ≡ length ps = length-map ps (contents_at b) in
    omega arith
