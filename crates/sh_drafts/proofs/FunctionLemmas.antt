-- If a certificate claims only functions that have names, so do the views that bound it, and so it
-- is with what commands drop.
use Rattle.std.proofs.Common.{◌≡◌, ℕ, Bool, true, false, not, if◌then◌else◌, List, [], ◌∷◌, inl, inr, sym, subst, true≢false}
use Rattle.std.specs.List.{list_all}
use Rattle.std.specs.Str.{bytes_eq}
use Rattle.std.proofs.lemmas.Bool.{and_parts, or_cases}
use Rattle.std.proofs.lemmas.Slice.Eq.{bytes_eq-Decides}
use Rattle.sh_tree.specs.standard.language.Bytes.{is_name}
use Rattle.sh_tree.specs.standard.program.Syntax.{Text}
use Rattle.sh_tree.specs.standard.program.Trees.{script_of}
use Rattle.sh_runs.specs.standard.runs.Environment.{is_one_of}
use Rattle.sh_domain.specs.Facts.{Facts, NotReached, Known, facts}
use Rattle.sh_domain.specs.Gains.{with_gains}
use Rattle.sh_domain.specs.Operands.{Names}
use Rattle.sh_domain.specs.Rules.{Constraint, Within, Counted, script_bounds}
use Rattle.sh_domain.specs.Views.{Certificate, Before, Step, Gain, Define, Lose, Count, Shift, Call, Source, Start, At, View, where_known, kept, returned, left, called, step, steps, source_facts, view_facts, Loss, OfNames, OfFunction, OfUnseen, where_reached, lost}
use Rattle.sh_domain.proofs.EachLemmas.{each_passes, each_weaker}
use Rattle.sh_domain.proofs.OrderLemmas.{among_all}
use Rattle.sh_drafts.specs.Functions.{step_names, loss_names, bound_names, KnowsNames, LosesNames, ClaimsNames, BoundsNames, RulesKnowNames}
use Rattle.sh_drafts.proofs.DefineLemmas.{rules_define_names}

-- no name is one of none
none_there : (x : Text) → is_one_of [] x ≡ true → is_name x ≡ true
none_there x e = absurd (true≢false (sym e))

-- Steps

call_returns : (d : Names) (prefixes : List Text) (r : Facts) (v f : Text → Bool) (a : ℕ) → KnowsNames r → ((x : Text) → f x ≡ true → is_name x ≡ true) → KnowsNames (returned d prefixes r v f a)
unfolding returned KnowsNames
call_returns d prefixes NotReached v f a k h = tt
call_returns d prefixes (Known w g b) v f a k h = λ x e. elim (or_cases (kept d.functions f x) (g x) e) [
  | inl own ↦ h x (and_parts (f x) (not (is_one_of d.functions x)) own).0
  | inr there ↦ k x there
]

module _ (c : Certificate) (n : ClaimsNames c) where
  step_knows : (x : Step) (f : Facts) → step_names x ≡ true → KnowsNames f → KnowsNames (step c x f)
  unfolding step step_names with_gains where_known called KnowsNames
  step_knows (Gain g) NotReached e h = tt
  step_knows (Gain g) (Known v f a) e h = h
  step_knows (Define name) NotReached e h = tt
  step_knows (Define name) (Known v f a) e h = λ x there. elim (or_cases (bytes_eq name x) (f x) there) [
    | inl same ↦ subst (λ t. is_name t ≡ true) ((bytes_eq-Decides name x).0 same) e
    | inr known ↦ h x known
  ]
  step_knows (Lose names) NotReached e h = tt
  step_knows (Lose names) (Known v f a) e h = λ x there. h x (and_parts (f x) (not (is_one_of names.functions x)) there).0
  step_knows (Count total) NotReached e h = tt
  step_knows (Count total) (Known v f a) e h = h
  step_knows (Shift count) NotReached e h = tt
  step_knows (Shift count) (Known v f a) e h = h
  step_knows (Call function slot prefixes) NotReached e h = tt
  step_knows (Call function slot prefixes) (Known v f a) e h = go (f function)
    where
      go : (t : Bool) → KnowsNames (if t then returned (c.drops function) prefixes (facts (c.claim slot)) v f a else left (c.drops function) function v f a)
      go true = call_returns (c.drops function) prefixes (facts (c.claim slot)) v f a (n.known slot) h
      go false = λ x there. h x (and_parts (f x) (not (is_one_of (c.drops function).functions x)) there).0

  steps_know : (xs : List Step) (f : Facts) → list_all step_names xs ≡ true → KnowsNames f → KnowsNames (steps c xs f)
  unfolding steps
  steps_know [] f e h = h
  steps_know (x ∷ xs) f e h = let parts = and_parts (step_names x) (list_all step_names xs) e in steps_know xs (step c x f) parts.1 (step_knows x f parts.0 h)

  module _ (d : Facts) (known : KnowsNames d) where
    source_knows : (s : Source) → KnowsNames (source_facts d c s)
    unfolding source_facts
    source_knows Start = known
    source_knows (At slot) = n.known slot

    view_knows : (v : View) → list_all step_names v.steps ≡ true → KnowsNames (view_facts d c v)
    view_knows v e = steps_know v.steps (source_facts d c v.source) e (source_knows v.source)

    -- Losses

    reached_loses : (f : Facts) (names : Names) → LosesNames names → LosesNames (where_reached f names)
    unfolding where_reached
    reached_loses NotReached names h = none_there
    reached_loses (Known v f a) names h = h

    loss_loses : (number : ℕ) (l : Loss) → loss_names l ≡ true → LosesNames (lost d c number l)
    unfolding lost loss_names
    loss_loses number (OfNames names) e = reached_loses (facts (c.claim (Before number))) names (among_all is_name names.functions e)
    loss_loses number (OfFunction function) e = reached_loses (facts (c.claim (Before number))) (c.drops function) (n.lost function)
    loss_loses number (OfUnseen vars v) e = none_there

    bound_knows : (k : Constraint) → bound_names k ≡ true → BoundsNames d c k
    unfolding bound_names BoundsNames
    bound_knows (Within slot number rule v) e = view_knows v e
    bound_knows (Counted function number loss) e = loss_loses number loss e

pub rules_know_names : RulesKnowNames
rules_know_names b d t names start c a known n =
    let ks = script_bounds (script_of b t) in
    each_weaker (bound_knows c n start known) ks (each_passes bound_names ks (rules_define_names b d t names a))
