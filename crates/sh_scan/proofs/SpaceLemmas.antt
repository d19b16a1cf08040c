-- What is between the tokens of arithmetic, piece by piece.
use Rattle.std.proofs.Common.{ℕ, ◌||◌, ◌&&◌, List, [], ◌∷◌, refl, ◌∙◌, ⊎_elim}
use Rattle.std.proofs.lemmas.Bool.{cases_Bool, cond-true, cond-false}
use Rattle.sh_tree.specs.standard.language.Bytes.{is_blank, is_newline, is_backslash}
use Rattle.sh_tree.specs.standard.language.Arithmetic.{space_length}
use Rattle.sh_scan.specs.Steps.{joined_step}
use Rattle.sh_scan.specs.Spaces.{space_step}
use Rattle.sh_scan.proofs.StepLemmas.{Unrolls, goes_on, ends}

pub space_unrolls : (cs : List ℕ) → Unrolls space_length space_step cs
unfolding space_length space_step joined_step
space_unrolls [] = ends _ _ _ refl refl
space_unrolls (c ∷ []) = ⊎_elim
    (λ yes. goes_on _ _ _ 0 (cond-true _ _ _ yes) (cond-true _ _ _ yes))
    (λ other. ends _ _ _ (cond-false _ _ _ other) (cond-false _ _ _ other))
    (cases_Bool (is_blank c || is_newline c))
space_unrolls (c ∷ d ∷ cs) = ⊎_elim
    (λ yes. goes_on _ _ _ 0 (cond-true _ _ _ yes) (cond-true _ _ _ yes))
    (λ other. ⊎_elim
    (λ joins. goes_on _ _ _ 1 (cond-false _ _ _ other ∙ cond-true _ _ _ joins) (cond-false _ _ _ other ∙ cond-true _ _ _ joins))
    (λ last. ends _ _ _ (cond-false _ _ _ other ∙ cond-false _ _ _ last) (cond-false _ _ _ other ∙ cond-false _ _ _ last))
    (cases_Bool (is_backslash c && is_newline d)))
    (cases_Bool (is_blank c || is_newline c))
