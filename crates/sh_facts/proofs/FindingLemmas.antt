-- The number of a name that stands at a place.
use Rattle.std.proofs.Common.{◌≡◌, ℕ, ◌+◌, ◌==◌, true, true≢false, List, Option, Some, None, is_some, slice_get, refl, sym, ap, ◌∙◌, arith}
use Rattle.std.specs.Str.{bytes_eq}
use Rattle.std.proofs.lemmas.Bool.{eqb-true}
use Rattle.std.proofs.lemmas.List.Folds.{list_any_at}
use Rattle.std.proofs.lemmas.Option.{slice_get_within, get_or_from_slice_get}
use Rattle.sh_tree.specs.standard.program.Syntax.{Text}
use Rattle.sh_tree.proofs.ListLemmas.{text_same}
use Rattle.sh_runs.specs.standard.runs.Environment.{is_one_of}
use Rattle.sh_domain.specs.Names.{are_distinct, is_name_of, number_of}
use Rattle.sh_domain.proofs.KnowledgeLemmas.{has_number}
use Rattle.sh_domain.proofs.RowReadLemmas.{placed_number}

only : (names : List Text) (k : ℕ) (t : Text) (o : Option ℕ) → are_distinct names ≡ true → slice_get names k ≡ Some t → number_of names t ≡ o → is_some o ≡ true → o ≡ Some k
unfolding is_name_of
only names k t None d at e there = absurd (true≢false (sym there))
only names k t (Some n) d at e there =
    let here : is_name_of (slice_get names k) t ≡ (0 + k == n) = (placed_number names 0 k n t d e).1 in
    let named : is_name_of (slice_get names k) t ≡ true = rw at (text_same t) in
    let numbered : 0 + k ≡ n = eqb-true (0 + k) n (sym here ∙ named) in
    let same : n ≡ k = omega (arith, numbered) in
    ap Some same

pub own_number : (names : List Text) (k : ℕ) (t : Text) → are_distinct names ≡ true → slice_get names k ≡ Some t → number_of names t ≡ Some k
own_number names k t d at =
    let there : is_one_of names t ≡ true =
    list_any_at (λ n. bytes_eq n t) names k t (slice_get_within names k t at) (ap (λ n. bytes_eq n t) (get_or_from_slice_get names k t t at) ∙ text_same t) in
    only names k t (number_of names t) d at refl (sym (has_number names t) ∙ there)
