-- Texts that are put together piece by piece.
use Rattle.std.proofs.Common.{◌≡◌, ℕ, List, ◌++◌, length, map, take, ◌≤◌, sym, ap, ◌∙◌, append_assoc, take_all}
use Rattle.std.specs.List.{flat_map}
use Rattle.std.proofs.lemmas.List.{length-map}
use Rattle.std.proofs.lemmas.List.Folds.{flat_map-map}
use Rattle.sh_answers.specs.declared.verdict.Finding.{Finding}
use Rattle.sh_answers.specs.Verdicts.{contents_of}
use Rattle.sh_answers.specs.Texts.{finding_text, report_text, last_line}

-- the findings and the last line
pub report_done : (out mid new : List ℕ) (fs : List Finding) (n : ℕ) → length fs ≤ n
    → mid ≡ out ++ flat_map (λ f. finding_text (contents_of f)) (take n fs) → new ≡ mid ++ last_line (length fs) → new ≡ out ++ report_text (map contents_of fs)
report_done out mid new fs n le findings last =
    let all : take n fs ≡ fs = take_all n fs le in
    let lines : flat_map finding_text (map contents_of fs) ≡ flat_map (λ f. finding_text (contents_of f)) fs = flat_map-map finding_text contents_of fs in
    let count : length (map contents_of fs) ≡ length fs = length-map fs contents_of in
    last ∙ ap (λ l. l ++ last_line (length fs)) (findings ∙ ap (λ l. out ++ flat_map (λ f. finding_text (contents_of f)) l) all ∙ ap (λ l. out ++ l) (sym lines))
    ∙ ap (λ k. (out ++ flat_map finding_text (map contents_of fs)) ++ last_line k) (sym count)
    ∙ append_assoc out (flat_map finding_text (map contents_of fs)) (last_line (length (map contents_of fs)))
