-- What is required of several views is what is required of their meet.
use Rattle.std.proofs.Common.{◌≡◌, ℕ, Bool, true, false, ◌&&◌, Option, List, [], ◌∷◌, ◌++◌, flat_map, fold, refl, sym, ap, ◌∙◌, subst, arith}
use Rattle.std.proofs.lemmas.Bool.{and_parts, and_from}
use Rattle.std.proofs.lemmas.List.{append-nil}
use Rattle.std.proofs.lemmas.Grind.{flat_map-append}
use Rattle.std.proofs.lemmas.List.Sums.{fold-append}
use Rattle.sh_tree.specs.standard.program.Syntax.{Text}
use Rattle.sh_runs.specs.standard.runs.Environment.{is_one_of}
use Rattle.sh_domain.specs.declared.rule.FlowRule.{FlowRule}
use Rattle.sh_domain.specs.declared.rule.FlowRule.TheVariants.{F13}
use Rattle.sh_domain.specs.Facts.{Facts, NotReached, Known, Claim, facts, meet, within}
use Rattle.sh_domain.specs.Faults.{Fault, lesser, told, broken, are_among}
use Rattle.sh_domain.specs.Knowledge.{AreNumbered, among}
use Rattle.sh_domain.specs.Order.{IsWithin, seen_facts}
use Rattle.sh_domain.specs.Rules.{Constraint, Counted, bound}
use Rattle.sh_domain.specs.Views.{Slot, Seen, Loss, view_facts, lost}
use Rattle.sh_domain.proofs.KnowledgeLemmas.{same_tests}
use Rattle.sh_domain.proofs.OrderLemmas.{known_within, within_itself, within_through, within_test, meet_first, meet_second, meet_greatest}
use Rattle.sh_rules.specs.Settings.{Setting, certificate, claimed_at, known_at}
use Rattle.sh_rules.specs.Meaning.{knows}
use Rattle.sh_rules.specs.Bounds.{fault}
use Rattle.sh_rules.specs.LeastFault.{with_test, is_within, tests_joined, least_told}
use Rattle.sh_rules.specs.Asked.{ByConstraints, LeastOfConstraints, with_all}
use Rattle.sh_rules.proofs.MeaningLemmas.{slot_named}
use Rattle.sh_rules.proofs.AboveLemmas.{among_grows}

-- Tests of claims

within_both : (c : Claim) (f g : Facts) → within c (meet f g) ≡ (within c f && within c g)
within_both c f g = same_tests _ _
    (λ e.
    let h = (within_test c (meet f g)).0 e in
    and_from _ _ ((within_test c f).1 (within_through _ _ _ h (meet_first f g))) ((within_test c g).1 (within_through _ _ _ h (meet_second f g))))
    (λ e.
    let h = and_parts (within c f) (within c g) e in
    (within_test c (meet f g)).1 (meet_greatest f g (facts c) ((within_test c f).0 h.0) ((within_test c g).0 h.1)))

among_less : (ns : List Text) (f : Facts) → IsWithin (among ns f) f
unfolding among
among_less ns NotReached = within_itself NotReached
among_less ns (Known v f a) =
    known_within _ _ _ _ a a (λ t e. (and_parts (is_one_of ns t) (v t) e).1) (λ t e. (and_parts (is_one_of ns t) (f t) e).1) (omega arith)

within_among : (ns : List Text) (c : Claim) (f : Facts) → among ns (facts c) ≡ facts c → within c (among ns f) ≡ within c f
within_among ns c f named = same_tests _ _
    (λ e. (within_test c f).1 (within_through _ _ _ ((within_test c (among ns f)).0 e) (among_less ns f)))
    (λ e. (within_test c (among ns f)).1 (subst (λ h. IsWithin h (among ns f)) named (among_grows ns (facts c) f ((within_test c f).0 e))))

-- Constraints

pub test_told : (b : Bool) (n : ℕ) (rule : FlowRule) (least : Option Fault) → fold lesser least (told b n rule) ≡ with_test b (fault n rule) least
unfolding with_test told
test_told true n rule least = refl
test_told false n rule least = refl

module _ (x : Setting) (d : Facts) where
  pub all_split : (least : Option Fault) (ks ls : List Constraint) → with_all x d least (ks ++ ls) ≡ with_all x d (with_all x d least ks) ls
  all_split least ks ls =
      ap (fold lesser least) (flat_map-append (broken d (certificate x)) ks ls)
      ∙ fold-append lesser least (flat_map (broken d (certificate x)) ks) (flat_map (broken d (certificate x)) ls)

  loss_told : (f : Text) (n : ℕ) (l : Loss) (least : Option Fault)
      → with_all x d least (Counted f n l ∷ []) ≡ least_told.drop x f (fault n F13) (lost d (certificate x) n l) least
  unfolding broken
  loss_told f n l least =
      let one : Bool = are_among (lost d (certificate x) n l) ((certificate x).drops f) in
      ap (fold lesser least) (append-nil (told one n F13)) ∙ test_told one n F13 least

module _ (x : Setting) (h : AreNumbered x.names) (d : Facts) where
  is_within_seen : (slot : Slot) (s : Seen) → is_within x slot (knows x d s) ≡ within ((certificate x).claim slot) (seen_facts d (certificate x) s)
  unfolding claimed_at knows known_at
  is_within_seen slot s = within_among x.names ((certificate x).claim slot) (seen_facts d (certificate x) s) (slot_named x h slot)

  bound_told : (slot : Slot) (n : ℕ) (rule : FlowRule) (s : Seen) (least : Option Fault)
      → with_all x d least (bound slot n rule s) ≡ least_told.bound x slot (fault n rule) (knows x d s) least
  unfolding broken knows claimed_at seen_facts among with_test within
  bound_told slot n rule [] least = refl
  bound_told slot n rule (v ∷ s) least =
      let c = (certificate x).claim slot in
      let f = fault n rule in
      let one : Bool = within c (view_facts d (certificate x) v) in
      let rest : Bool = within c (seen_facts d (certificate x) s) in
      fold-append lesser least (told one n rule) (flat_map (broken d (certificate x)) (bound slot n rule s))
      ∙ ap (λ b. with_all x d b (bound slot n rule s)) (test_told one n rule least)
      ∙ bound_told slot n rule s (with_test one f least)
      ∙ ap (λ b. with_test b f (with_test one f least)) (is_within_seen slot s)
      ∙ tests_joined one rest f least
      ∙ ap (λ b. with_test b f least) (sym (is_within_seen slot (v ∷ s) ∙ within_both c (view_facts d (certificate x) v) (seen_facts d (certificate x) s)))

  -- the least fault follows the constraints
  least_by : ByConstraints (Option Fault) least_told x d
  least_by = record { all = with_all x d; none = λ least. refl; joined = all_split x d; bounded = bound_told; counted = loss_told x d }

pub least_of_constraints : LeastOfConstraints
unfolding least_by
least_of_constraints x d h = (least_by x h d, λ least ks. refl)
