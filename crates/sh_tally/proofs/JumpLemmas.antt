-- What `break` and `continue` require of counts at the loops that they go to.
use Rattle.std.proofs.Common.{◌≡◌, ℕ, ◌-◌, ◌<◌, ◌≤◌, nat_le, map, Bool, true, false, if◌then◌else◌, List, [], ◌∷◌, ◌++◌, Option, Some, None, is_some, unwrap_or, option_map, IfSome, ⊎_elim, refl, sym, ap, ◌∙◌, subst, arith, le-leb, leb-true, true≢false}
use Rattle.std.proofs.lemmas.Bool.{cases_lt}
use Rattle.sh_tree.specs.declared.known.KnownName.TheVariants as known
use Rattle.sh_tree.specs.standard.program.Syntax as p
use Rattle.sh_tree.specs.standard.program.Syntax.{Word}
use Rattle.sh_tree.specs.standard.program.Words.{static_of}
use Rattle.sh_runs.specs.Profile.{Static}
use Rattle.sh_runs.specs.declared.kind.Kind.{Kind}
use Rattle.sh_runs.specs.declared.kind.Kind.TheVariants as kind
use Rattle.sh_table.specs.Numerals.{most, capped}
use Rattle.sh_domain.specs.declared.rule.FlowRule.TheVariants.{F4, F15}
use Rattle.sh_domain.specs.Entries.{Around}
use Rattle.sh_domain.specs.Operands.{first_number}
use Rattle.sh_domain.specs.Rules as r
use Rattle.sh_domain.specs.Rules.{bound, leaves, simple_bounds}
use Rattle.sh_domain.specs.Table.{Utility}
use Rattle.sh_domain.specs.Views as views
use Rattle.sh_domain.proofs.EachLemmas.{each_parts}
use Rattle.sh_counts.specs.declared.equations.Change.TheVariants.{Raise}
use Rattle.sh_counts.specs.declared.equations.Count as count
use Rattle.sh_counts.specs.declared.equations.Equations.{Equations}
use Rattle.sh_rules.specs.Texts.{first_by}
use Rattle.sh_rules.proofs.OperandLemmas.{first_words}
use Rattle.sh_tally.specs.declared.bounds.Tally.{Tally}
use Rattle.sh_tally.specs.declared.places.Part.TheVariants as part
use Rattle.sh_tally.specs.declared.views.Views.{Views}
use Rattle.sh_tally.specs.Tallies.{AreBounds, Tallies}
use Rattle.sh_tally.specs.Views.{command_index, index_of}
use Rattle.sh_tally.specs.Walks.{AddsManner, AreKept, Keeps, names, outermost}
use Rattle.sh_tally.proofs.SimpleLemmas.{Unbroken, left_by, settled, settled_sight}
use Rattle.sh_tally.proofs.WalkLemmas.{place_bounds}

-- The number of loops

number_read : (m : ℕ) (o : Option ℕ) → Some m ≡ option_map capped o → m < most → o ≡ Some m
number_read m None is few = absurd (true≢false (ap is_some is))
number_read m (Some x) is few =
    let same : m ≡ capped x = ap (λ z. unwrap_or z 0) is in
    let e : x ≡ m = omega (arith, same, few) in
    ap Some e

loop_known : (m l : ℕ) (ls : List ℕ) (ts : List Static) → Some m ≡ option_map capped (first_by ts) → m < most → Some l ≡ r.jump_loop (Some m) ls
    → (ws : List Word) → map static_of ws ≡ ts → r.jump_loop (first_number ws) ls ≡ Some l
loop_known m l ls ts is few goes ws same =
    let known : first_number ws ≡ Some m = number_read m (first_number ws) (is ∙ ap (option_map capped) (ap first_by (sym same) ∙ first_words ws)) few in
    ap (λ o. r.jump_loop o ls) known ∙ sym goes

pub loop_read : (m : ℕ) (o : Option ℕ) (ls : List ℕ) (ts : List Static) → Some m ≡ option_map capped (first_by ts) → m < most → o ≡ r.jump_loop (Some m) ls
    → IfSome o (λ l. (ws : List Word) → map static_of ws ≡ ts → r.jump_loop (first_number ws) ls ≡ Some l)
loop_read m None ls ts is few goes = tt
loop_read m (Some l) ls ts is few goes = loop_known m l ls ts is few goes

-- a jump over more loops than there are goes to the outermost one

more_than_one : (c n : ℕ) → nat_le c 1 ≡ false → c ≤ n → (b : Bool) → nat_le n 1 ≡ b → b ≡ false
more_than_one c n few le false is = refl
more_than_one c n few le true is =
    let low : n ≤ 1 = leb-true n 1 is in
    let one : nat_le c 1 ≡ true = le-leb c 1 (omega (arith, low, le)) in
    absurd (true≢false (sym one ∙ few))

outer_more : (c n l : ℕ) (ls : List ℕ) (b : Bool) → nat_le c 1 ≡ b → c ≤ n → (1 < c → IfSome (outermost (c - 1) ls) (λ m. r.loop_at (n - 1) ls ≡ Some m))
    → IfSome (if b then None else outermost (c - 1) ls) (λ m. (if nat_le n 1 then Some l else r.loop_at (n - 1) ls) ≡ Some m)
outer_more c n l ls true is le goes = tt
outer_more c n l ls false is le goes =
    let many : nat_le n 1 ≡ false = more_than_one c n is le (nat_le n 1) refl in
    subst (λ b. IfSome (outermost (c - 1) ls) (λ m. (if b then Some l else r.loop_at (n - 1) ls) ≡ Some m)) (sym many)
    (goes (above c is))
  where
    above : (k : ℕ) → nat_le k 1 ≡ false → 1 < k
    above k few =
        ⊎_elim
        (λ (lt : 1 < k). lt)
        (λ (low : k ≤ 1). absurd (true≢false (sym (le-leb k 1 low) ∙ few)))
        (cases_lt 1 k)

outer_goes : (c n : ℕ) (ls : List ℕ) → c ≤ n → IfSome (outermost c ls) (λ m. r.loop_at n ls ≡ Some m)
unfolding outermost r.loop_at
outer_goes c n [] le = tt
outer_goes c n (l ∷ []) le = refl
outer_goes c n (l ∷ m ∷ ls) le = outer_more c n l (m ∷ ls) (nat_le c 1) refl le (λ many. outer_goes (c - 1) (n - 1) (m ∷ ls) (omega (arith, le)))

outer_known : (m l : ℕ) (o : Option ℕ) (ls : List ℕ) → Some m ≡ option_map capped o → ((x : ℕ) → m ≤ x → r.loop_at x ls ≡ Some l) → r.jump_loop o ls ≡ Some l
unfolding r.jump_loop
outer_known m l None ls is goes = absurd (true≢false (ap is_some is))
outer_known m l (Some x) ls is goes =
    let same : m ≡ capped x = ap (λ z. unwrap_or z 0) is in
    goes x (omega (arith, same))

some_goes : (m : ℕ) (o : Option ℕ) (ls : List ℕ) → o ≡ outermost m ls → IfSome o (λ l. (x : ℕ) → m ≤ x → r.loop_at x ls ≡ Some l)
some_goes m None ls is = tt
some_goes m (Some l) ls is = λ x le. subst (λ o. IfSome o (λ l. r.loop_at x ls ≡ Some l)) (sym is) (outer_goes m x ls le)

pub outer_read : (m : ℕ) (o : Option ℕ) (ls : List ℕ) (ts : List Static) → Some m ≡ option_map capped (first_by ts) → o ≡ outermost m ls
    → IfSome o (λ l. (ws : List Word) → map static_of ws ≡ ts → r.jump_loop (first_number ws) ls ≡ Some l)
outer_read m None ls ts is goes = tt
outer_read m (Some l) ls ts is goes = λ ws same.
    outer_known m l (first_number ws) ls (is ∙ ap (option_map capped) (ap first_by (sym same) ∙ first_words ws)) (some_goes m (Some l) ls goes)

-- Jumps

module _ (s : Tally) (y : Around) (n : ℕ) (es : p.Elements) (left : Views) where
  jumps_kept : (t : p.Items) (u : ℕ → ℕ) (k : Keeps s t u) (of : Kind) (ws : List Word) → AreKept s t u k (simple_bounds y n es (Utility of ws)) → AreKept s t u k (r.jumps y n of ws (settled s y n es left))
  unfolding simple_bounds
  jumps_kept t u k of ws kept = (each_parts (Unbroken s t u k) (leaves n F4 (left_by s y n es left of ws)) (r.jumps y n of ws (settled s y n es left)) kept).1

  index_at : (l : ℕ) (place : count.Count) → place.index ≡ command_index part.Head l → index_of (names s) (views.Head l) ≡ Some place.index
  unfolding index_of
  index_at l place is = ap Some (sym is)

  zero_at : (l : ℕ) (place : count.Count) → place.index ≡ command_index part.Zero l → index_of (names s) (views.AfterZero l) ≡ Some place.index
  unfolding index_of
  zero_at l place is = ap Some (sym is)

  nonzero_at : (l : ℕ) (place : count.Count) → place.index ≡ command_index part.Nonzero l → index_of (names s) (views.AfterNonzero l) ≡ Some place.index
  unfolding index_of
  nonzero_at l place is = ap Some (sym is)

  continues_to : (ws : List Word) (l : ℕ) → r.jump_loop (first_number ws) y.loops ≡ Some l → r.jumps y n (kind.Special known.Continue) ws (settled s y n es left) ≡ bound (views.Head l) n F15 (settled s y n es left)
  unfolding r.jumps r.continues
  continues_to ws l is = ap (λ o. r.continues o n (settled s y n es left)) is

  breaks_to : (ws : List Word) (l : ℕ) → r.jump_loop (first_number ws) y.loops ≡ Some l
      → r.jumps y n (kind.Special known.Break) ws (settled s y n es left) ≡ bound (views.AfterZero l) n F15 (settled s y n es left) ++ bound (views.AfterNonzero l) n F15 (settled s y n es left)
  unfolding r.jumps r.breaks
  breaks_to ws l is = ap (λ o. r.breaks o n (settled s y n es left)) is

  pub continued_added : (ws : List Word) (l : ℕ) (place : count.Count) (old new : Equations) → r.jump_loop (first_number ws) y.loops ≡ Some l → place.index ≡ command_index part.Head l
      → ((u : ℕ → ℕ) → AreBounds s.places u place (Raise 0) left → Tallies s.places u old new) → AddsManner s y n es left (Utility (kind.Special known.Continue) ws) old new
  continued_added ws l place old new is at adds t u k here kept =
      let all : AreKept s t u k (bound (views.Head l) n F15 (settled s y n es left)) =
      subst (AreKept s t u k) (continues_to ws l is) (jumps_kept t u k (kind.Special known.Continue) ws kept) in
      adds u (place_bounds s t u k (views.Head l) place n F15 (settled s y n es left) left (index_at l place at) all (settled_sight s y n es left here))

  pub broken_added : (ws : List Word) (l : ℕ) (success failure : count.Count) (old one new : Equations) → r.jump_loop (first_number ws) y.loops ≡ Some l
      → success.index ≡ command_index part.Zero l → failure.index ≡ command_index part.Nonzero l
      → ((u : ℕ → ℕ) → AreBounds s.places u success (Raise 0) left → Tallies s.places u old one) → ((u : ℕ → ℕ) → AreBounds s.places u failure (Raise 0) left → Tallies s.places u one new)
      → AddsManner s y n es left (Utility (kind.Special known.Break) ws) old new
  broken_added ws l success failure old one new is at_zero at_nonzero first second t u k here kept =
      let zero = bound (views.AfterZero l) n F15 (settled s y n es left) in
      let nonzero = bound (views.AfterNonzero l) n F15 (settled s y n es left) in
      let all : AreKept s t u k (zero ++ nonzero) = subst (AreKept s t u k) (breaks_to ws l is) (jumps_kept t u k (kind.Special known.Break) ws kept) in
      let both = each_parts (Unbroken s t u k) zero nonzero all in
      let sight = settled_sight s y n es left here in
      λ tallied.
      second u (place_bounds s t u k (views.AfterNonzero l) failure n F15 (settled s y n es left) left (nonzero_at l failure at_nonzero) both.1 sight)
      (first u (place_bounds s t u k (views.AfterZero l) success n F15 (settled s y n es left) left (zero_at l success at_zero) both.0 sight) tallied)
