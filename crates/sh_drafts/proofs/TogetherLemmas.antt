-- What is gathered follows the constraints: several views at a place require what is known there,
-- and names together what they require one after the other.
use Rattle.std.proofs.Common.{◌≡◌, ℕ, Bool, true, false, ◌&&◌, ◌||◌, if◌then◌else◌, min, List, [], ◌∷◌, ◌++◌, refl, sym, ap, ap₂, ◌∙◌, arith}
use Rattle.std.specs.Prelude.{option_and_then}
use Rattle.std.proofs.Math.Path.{fun_ext}
use Rattle.std.proofs.lemmas.Bool.{and_parts, and_from}
use Rattle.std.proofs.lemmas.List.Sums.{fold-append}
use Rattle.sh_tree.specs.standard.program.Syntax.{Text}
use Rattle.sh_domain.specs.declared.rule.FlowRule.{FlowRule}
use Rattle.sh_domain.specs.Facts.{Facts, Claim, facts, within, meet}
use Rattle.sh_domain.specs.Knowledge.{AreNumbered, among}
use Rattle.sh_domain.specs.Order.{seen_facts}
use Rattle.sh_domain.specs.Reading.{claim_fits}
use Rattle.sh_domain.specs.Rules.{Constraint, bound}
use Rattle.sh_domain.specs.Views.{Certificate, Slot, Seen, view_facts}
use Rattle.sh_domain.proofs.KnowledgeLemmas.{same_tests}
use Rattle.sh_domain.proofs.OrderLemmas.{within_through, within_test, meet_first, meet_second, meet_greatest}
use Rattle.sh_drafts.specs.Facts as number
use Rattle.sh_drafts.specs.declared.place.Place.{Place}
use Rattle.sh_drafts.specs.Gathered.{Gathered, fitting_place, is_at, next_of, bounded, gathered, all_gathered}
use Rattle.sh_drafts.specs.Gathering.{and_over, and_true, three, next_twice, drops_nothing, drops_both}
use Rattle.sh_drafts.specs.Numbers.{by_number}
use Rattle.sh_drafts.specs.Places.{place_of}
use Rattle.sh_drafts.specs.Together.{GatheredTogether}
use Rattle.sh_drafts.proofs.GatherLemmas.{among_less, within_among}
use Rattle.sh_drafts.proofs.NumberLemmas.{meet_numbered, among_numbered}

module _ (names functions : List Text) where
  -- Views of a place

  within_both : (c : Claim) (f g : Facts) → within c (meet f g) ≡ (within c f && within c g)
  within_both c f g = same_tests _ _
      (λ e.
      let h = (within_test c (meet f g)).0 e in
      and_from _ _ ((within_test c f).1 (within_through _ _ _ h (meet_first f g))) ((within_test c g).1 (within_through _ _ _ h (meet_second f g))))
      (λ e.
      let h = and_parts (within c f) (within c g) e in
      (within_test c (meet f g)).1 (meet_greatest f g (facts c) ((within_test c f).0 h.0) ((within_test c g).0 h.1)))

  -- a claim of numbered names is within what is known of these if it is within what is known
  within_same : (c : Claim) (f : Facts) → claim_fits names c ≡ true → within c (among names f) ≡ within c f
  within_same c f fit = same_tests _ _
      (λ e. (within_test c f).1 (within_through _ _ _ ((within_test c (among names f)).0 e) (among_less names f)))
      (λ e. (within_test c (among names f)).1 (within_among names c f fit ((within_test c f).0 e)))

  known_of : (v w f g : ℕ → Bool) (a b : ℕ) → a ≡ b → v ≡ w → f ≡ g → number.Known v f a ≡ number.Known w g b
  known_of v w f g a b e h k = cc

  min_over : (a b c : ℕ) → min (min a b) c ≡ min a (min b c)
  min_over a b c = omega arith

  pub meets_grouped : (f g h : number.Facts) → number.meet (number.meet f g) h ≡ number.meet f (number.meet g h)
  unfolding number.meet
  meets_grouped number.NotReached g h = refl
  meets_grouped (number.Known v f a) number.NotReached h = refl
  meets_grouped (number.Known v f a) (number.Known w g b) number.NotReached = refl
  meets_grouped (number.Known v f a) (number.Known w g b) (number.Known x h c) = known_of _ _ _ _ _ _ (min_over a b c) (fun_ext (λ k. and_over (v k) (w k) (x k))) (fun_ext (λ k. and_over (f k) (g k) (h k)))

  pub if_meet : (b : Bool) (g f k fk : number.Facts) → number.meet (number.meet g f) k ≡ number.meet g fk → (if b then number.meet (if b then number.meet g f else g) k else (if b then number.meet g f else g)) ≡ (if b then number.meet g fk else g)
  if_meet true g f k fk e = e
  if_meet false g f k fk e = refl

  pub nothing_met : (b : Bool) (g : number.Facts) → g ≡ (if b then number.meet g number.NotReached else g)
  unfolding number.meet
  nothing_met true number.NotReached = refl
  nothing_met true (number.Known v f a) = refl
  nothing_met false g = refl

  module _ (h : AreNumbered names) (d : Facts) (c : Certificate) (slot : Slot) (fit : claim_fits names (c.claim slot) ≡ true) where
    -- the views of a place together ask what is known where all are seen
    pub seen_together : (n : ℕ) (rule : FlowRule) (s : Seen) (g : Gathered) → all_gathered names functions d c g (bound slot n rule s) ≡ bounded names functions slot (c.claim slot) (among names (seen_facts d c s)) g
    unfolding gathered bounded next_of seen_facts within among by_number
    seen_together n rule [] g =
        ap₂ (λ (k : Bool) (f : number.Facts). record g { kept = k; known = f }) (sym (and_true g.kept)) (nothing_met (is_at (place_of functions slot) g.place) g.known)
    seen_together n rule (v ∷ s) g =
        let first = within (c.claim slot) (view_facts d c v) in
        let last = within (c.claim slot) (among names (seen_facts d c s)) in
        let both : within (c.claim slot) (among names (meet (view_facts d c v) (seen_facts d c s))) ≡ (first && last) =
        within_same (c.claim slot) (meet (view_facts d c v) (seen_facts d c s)) fit
        ∙ within_both (c.claim slot) (view_facts d c v) (seen_facts d c s)
        ∙ ap (λ b. first && b) (sym (within_same (c.claim slot) (seen_facts d c s) fit)) in
        let t = is_at (place_of functions slot) g.place in
        seen_together n rule s (bounded names functions slot (c.claim slot) (view_facts d c v) g)
        ∙ three (λ (k : Bool) (f : number.Facts) (p : Place). record g { kept = k; known = f; next_place = p })
        (and_over g.kept first last ∙ ap (λ b. g.kept && b) (sym both))
        (if_meet t g.known (by_number names (view_facts d c v)) (by_number names (among names (seen_facts d c s))) (by_number names (among names (meet (view_facts d c v) (seen_facts d c s))))
        (ap (number.meet (number.meet g.known (by_number names (view_facts d c v)))) (among_numbered names h (seen_facts d c s))
        ∙ meets_grouped g.known (by_number names (view_facts d c v)) (by_number names (seen_facts d c s))
        ∙ ap (number.meet g.known) (sym (among_numbered names h (meet (view_facts d c v) (seen_facts d c s)) ∙ meet_numbered names (view_facts d c v) (seen_facts d c s)))))
        (sym
        (ap (λ b. next_of (b || t) (option_and_then fitting_place (place_of functions slot)) g.next_place) both
        ∙ next_twice t first last (option_and_then fitting_place (place_of functions slot)) g.next_place))

-- lists of constraints ask what they ask one after the other
lists : (names functions : List Text) (d : Facts) (c : Certificate) (g : Gathered) (ks ls : List Constraint)
    → all_gathered names functions d c g (ks ++ ls) ≡ all_gathered names functions d c (all_gathered names functions d c g ks) ls
lists names functions d c g ks ls = fold-append (gathered names functions d c) g ks ls

pub gathered_together : GatheredTogether
gathered_together = record {
  nothing = drops_nothing;
  names = λ names functions f may a b g. drops_both names functions f may a.vars b.vars a.functions b.functions g;
  views = λ names functions h d c slot fit n rule s g. seen_together names functions h d c slot fit n rule s g;
  lists = lists;
}
