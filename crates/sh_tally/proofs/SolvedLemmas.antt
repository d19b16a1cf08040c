-- The counts that solve the equations of a script are over those of each certificate that keeps the
-- rules.
use Rattle.std.proofs.Common.{◌≡◌, ℕ, zero, suc, ◌+◌, ◌<◌, ◌≤◌, get_or, length, map, take, append_assoc, List, [], ◌∷◌, ◌++◌, Option, Some, None, IfSome, refl, sym, ap, ◌∙◌, subst, arith}
use Rattle.std.specs.List.{All}
use Rattle.std.proofs.lemmas.List.{append-nil, length-map, map_more}
use Rattle.std.proofs.lemmas.List.Elements.{All-nil}
use Rattle.sh_tree.specs.standard.program.Syntax as p
use Rattle.sh_domain.specs.declared.rule.FlowRule.{FlowRule}
use Rattle.sh_domain.specs.declared.rule.FlowRule.TheVariants.{F1}
use Rattle.sh_domain.specs.Entries as e
use Rattle.sh_domain.specs.Entries.{Around, script_entered}
use Rattle.sh_domain.specs.Views as views
use Rattle.sh_counts.specs.declared.equations.Equations.{Equations}
use Rattle.sh_counts.specs.Equations.{Holds, IsGreatest, Solution, worth}
use Rattle.sh_tally.specs.declared.bounds.Tally.{Tally}
use Rattle.sh_tally.specs.declared.views.Views.{Views}
use Rattle.sh_tally.specs.Tallies.{IsTallied, claimed, count_at_first}
use Rattle.sh_tally.specs.Walks.{AddsFrom, AreOver, IsPart, Keeps, Sight, names}
use Rattle.sh_tally.specs.Views.{Sees}
use Rattle.sh_tally.proofs.TallyLemmas.{place_there}

-- what each count is at first
at_first : (os : List (Option ℕ)) (x i : ℕ) → x ≤ 65535 → ((a : ℕ) → get_or os i None ≡ Some a → x ≤ a) → x ≤ worth (map count_at_first os) i
unfolding count_at_first
at_first [] x i few below = few
at_first (None ∷ os) x zero few below = few
at_first (Some a ∷ os) x zero few below = below a refl
at_first (o ∷ os) x (suc i) few below = at_first os x i few below

-- one more unknown count
pub unknown_next : (os : List (Option ℕ)) (i : ℕ) (d : Option ℕ) (x : ℕ) (first old new : List ℕ) → i < length os → x ≡ count_at_first (get_or os i d) → old ≡ first ++ map count_at_first (take i os) → new ≡ old ++ x ∷ []
    → new ≡ first ++ map count_at_first (take (i + 1) os)
unknown_next os i d x first old new below value before more =
    more ∙ ap (λ l. l ++ x ∷ []) before ∙ append_assoc first (map count_at_first (take i os)) (x ∷ [])
    ∙ ap (λ l. first ++ l) (ap (λ z. map count_at_first (take i os) ++ z ∷ []) value ∙ sym (map_more count_at_first os i d below))

module _ (s : Tally) (t : p.Items) (u : ℕ → ℕ) (k : Keeps s t u) where
  begun : (es : Equations) → es.most.items ≡ map count_at_first s.places.counts.now → es.all.items ≡ [] → IsTallied s.places u es
  begun es most none = record {
    v = u;
    few = k.few;
    below = λ i. subst (λ m. u i ≤ worth m i) (sym most) (at_first s.places.counts.now (u i) i (k.few i) (k.below i));
    holds = λ w agrees. subst (All (Holds w)) (sym none) (All-nil (Holds w));
    same = λ i lt. refl;
    sized = subst (λ m. length s.places.counts.now ≤ m) (sym (ap length most ∙ length-map s.places.counts.now count_at_first)) (omega arith);
  }

  whole : IsPart t (e.items_entered F1 e.alone (views.Both views.at_start) t)
  unfolding script_entered
  whole = record { front = []; back = []; whole = sym (append-nil (e.items_entered F1 e.alone (views.Both views.at_start) t)) }

  solved : (es : Equations) (counts : List ℕ) → IsTallied s.places u es → IsGreatest es counts → (i a : ℕ) → claimed s.places i ≡ Some a → u i ≤ worth counts i
  solved es counts tallied greatest i a at =
      let all : Solution es tallied.v = record { few = tallied.few; below = tallied.below; solves = tallied.holds tallied.v (λ i lt. refl) } in
      subst (λ x. x ≤ worth counts i) (tallied.same i (place_there s.places i a at)) (greatest.above tallied.v all i)

pub are_over : (s : Tally) (y : Around) (t : p.Items) (known : Views) (first last : Equations) (counts : List ℕ) → y ≡ e.alone → known.first ≡ None → known.second ≡ None
    → first.most.items ≡ map count_at_first s.places.counts.now → first.all.items ≡ [] → ((by : FlowRule) → AddsFrom s (λ q. e.items_entered by y (views.Both q) t) known first last) → IsGreatest last counts → AreOver s t counts
are_over s y t known first last counts outside none_first none_second most none adds greatest u k i a at =
    let sight : Sight s views.at_start known = record {
      first = subst (λ o. IfSome o (Sees (names s) views.at_start)) (sym none_first) tt;
      second = subst (λ o. IfSome o (Sees (names s) views.at_start)) (sym none_second) tt;
    } in
    solved s t u k last counts (adds F1 t u views.at_start k sight (subst (λ x. IsPart t (e.items_entered F1 x (views.Both views.at_start) t)) (sym outside) (whole s t u k)) (begun s t u k first most none)) greatest i a at
