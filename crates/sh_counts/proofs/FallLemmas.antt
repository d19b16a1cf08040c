-- Counts that fall stay above every solution.
use Rattle.std.proofs.Common.{◌≡◌, ℕ, zero, suc, ◌+◌, ◌*◌, ◌<◌, ◌≤◌, Bool, true, false, ◌||◌, List, [], ◌∷◌, ◌++◌, length, get_or, set, take, sum, refl, sym, ap, subst, ◌∙◌, arith, ⊎_elim, max, le_refl, le_trans, get_or-set_same, get_or-set_other, length-set}
use Rattle.std.specs.List.{All}
use Rattle.std.proofs.lemmas.Bool.{cases_eq}
use Rattle.std.proofs.lemmas.List.{take_more}
use Rattle.std.proofs.lemmas.List.Elements.{All-append, All-nil}
use Rattle.std.proofs.lemmas.List.Sums.{sum_by-cons}
use Rattle.std.proofs.Math.Nat.{mul-le-mul_left}
use Rattle.sh_counts.specs.declared.bounded.Reach.{Reach}
use Rattle.sh_counts.specs.declared.circles.Way.{Way}
use Rattle.sh_counts.specs.declared.equations.Change.{Change}
use Rattle.sh_counts.specs.declared.equations.Change.TheVariants.{Raise, Shift, Words}
use Rattle.sh_counts.specs.declared.equations.Equation.{Equation}
use Rattle.sh_counts.specs.declared.equations.Equations.{Equations}
use Rattle.sh_counts.specs.Equations.{Holds, IsGreatest, Solution, made, worth}
use Rattle.sh_counts.specs.Falls.{Fell, Follows, IsSettled, IsSound, Leads}
use Rattle.sh_counts.specs.Ways.{made_by}
use Rattle.sh_counts.proofs.WayLemmas.{way_grows}

-- more of more
made_grows : (h : Change) (a b : ℕ) → a ≤ b → made h a ≤ made h b
unfolding made
made_grows (Raise least) a b le = omega arith
made_grows (Shift gone) a b le = omega arith
made_grows (Words ones parameters) a b le = let more : parameters * a ≤ parameters * b = mul-le-mul_left parameters le in omega arith

-- ---- one count
-- a count that is put
put_there : (counts : List ℕ) (k to i : ℕ) (P : ℕ → Type 0) → k < length counts → (i ≡ k → P to) → ((i ≡ k → ⊥) → P (worth counts i)) → P (worth (set counts k to) i)
put_there counts k to i P lt here other =
    ⊎_elim
    (λ (e : i ≡ k). subst P (sym (ap (worth (set counts k to)) e ∙ get_or-set_same counts k to 65535 lt)) (here e))
    (λ (ne : i ≡ k → ⊥). subst P (sym (get_or-set_other counts k i to 65535 ne)) (other ne))
    (cases_eq i k)

-- a count is lowered to a bound of all solutions
pub put_sound : (es : Equations) (counts now : List ℕ) (index to : ℕ) → IsSound es counts → index < length counts
    → ((v : ℕ → ℕ) → Solution es v → v index ≤ to) → now ≡ set counts index to → IsSound es now
put_sound es counts now index to sound lt bound put =
    subst (IsSound es) (sym put) (record {
      above = λ v s i. put_there counts index to i (λ n. v i ≤ n) lt (λ same. let one : v i ≡ v index = ap v same in let most = bound v s in omega arith) (λ ne. sound.above v s i);
    })

-- a count is lowered to what an equation gives
pub lowered_sound : (es : Equations) (e : Equation) (counts now : List ℕ) (to : ℕ) → Follows es e → IsSound es counts
    → e.count < length counts → to ≡ made e.change (worth counts e.source) → now ≡ set counts e.count to → IsSound es now
lowered_sound es e counts now to follows sound lt given put =
    put_sound es counts now e.count to sound lt
    (λ v s.
    let step = follows v s in
    let more = made_grows e.change (v e.source) (worth counts e.source) (sound.above v s e.source) in
    omega arith)
    put

-- a lesser count
pub put_fell : (counts now : List ℕ) (index to : ℕ) → index < length counts → to < worth counts index → now ≡ set counts index to → Fell counts now
put_fell counts now index to lt less put =
    subst (Fell counts) (sym put) (record {
      sized = length-set counts index to;
      below = λ i. put_there counts index to i (λ n. n ≤ worth counts i) lt (λ same. let one : worth counts i ≡ worth counts index = ap (worth counts) same in omega arith) (λ ne. le_refl (worth counts i));
    })

pub fell_none : (counts : List ℕ) → Fell counts counts
fell_none counts = record { sized = refl; below = λ i. le_refl (worth counts i) }

pub fell_more : (a b c : List ℕ) → Fell a b → Fell b c → Fell a c
fell_more a b c one two = record { sized = two.sized ∙ one.sized; below = λ i. le_trans (two.below i) (one.below i) }

sum-cons : (x : ℕ) (xs : List ℕ) → sum (x ∷ xs) ≡ x + sum xs
sum-cons x xs = sum_by-cons (λ n. n) x xs

pub sum_fell : (old new : List ℕ) → Fell old new → sum new ≤ sum old
sum_fell old new fell = below old new fell.sized fell.below
  where
    below : (xs ys : List ℕ) → length ys ≡ length xs → ((i : ℕ) → worth ys i ≤ worth xs i) → sum ys ≤ sum xs
    below [] [] same less = le_refl 0
    below [] (y ∷ ys) same less = absurd (omega arith)
    below (x ∷ xs) [] same less = absurd (omega arith)
    below (x ∷ xs) (y ∷ ys) same less =
        let first : y ≤ x = less 0 in
        let others : sum ys ≤ sum xs = below xs ys (omega arith) (λ i. less (suc i)) in
        let one = sum-cons x xs in
        let other = sum-cons y ys in
        omega arith

-- ---- equations one after another
pub all_one : {X : Type 0} (P : X → Type 0) (x : X) → P x → All P (x ∷ [])
all_one P x h zero d lt = h
all_one P x h (suc k) d lt = absurd (omega arith)

pub all_more : {X : Type 0} (P : X → Type 0) (xs ys : List X) (x : X) → ys ≡ xs ++ x ∷ [] → All P xs → P x → All P ys
all_more P xs ys x e front last = subst (All P) (sym e) (All-append P xs (x ∷ []) front (all_one P x last))

-- how far a loop over equations is
pub record Went (old now : List ℕ) (has_fallen : Bool) (done : List Equation) : Type 0 where
  pub fell : Fell old now
  pub less : has_fallen ≡ true → sum now < sum old
  pub same : has_fallen ≡ false → now ≡ old
  pub settled : has_fallen ≡ false → IsSettled old done

pub went_none : (old : List ℕ) → Went old old false []
went_none old = record { fell = fell_none old; less = λ e. cc; same = λ e. refl; settled = λ e. All-nil _ }

pub went_more : (old now next : List ℕ) (a b : Bool) (equations : List Equation) (i : ℕ) (d : Equation) → Went old now a (take i equations) → i < length equations
    → Fell now next → (b ≡ true → sum next < sum now) → (b ≡ false → next ≡ now)
    → (b ≡ false → (get_or equations i d).count < length now → Holds (worth now) (get_or equations i d))
    → Went old next (a || b) (take (i + 1) equations)
went_more old now next a b equations i d went lt fell less same holds = record {
  fell = fell_more old now next went.fell fell;
  less = falls a b went.less less went.same;
  same = λ none. let both = parts a b none in same both.1 ∙ went.same both.0;
  settled = λ none.
      let both = parts a b none in
      let here = subst (λ (c : List ℕ). (get_or equations i d).count < length c → Holds (worth c) (get_or equations i d)) (went.same both.0) (holds both.1) in
      all_more (λ f. f.count < length old → Holds (worth old) f) (take i equations) (take (i + 1) equations) (get_or equations i d) (take_more equations i d lt) (went.settled both.0) here;
}
  where
    parts : (x y : Bool) → x || y ≡ false → (x ≡ false) × (y ≡ false)
    parts true y h = cc
    parts false y h = (refl, h)

    falls : (x y : Bool) → (x ≡ true → sum now < sum old) → (y ≡ true → sum next < sum now) → (x ≡ false → now ≡ old) → x || y ≡ true → sum next < sum old
    falls true y first second same_as h = let one = first refl in let more = sum_fell now next fell in omega arith
    falls false true first second same_as h = let one = second refl in let sums = ap sum (same_as refl) in omega arith
    falls false false first second same_as h = cc

-- ---- ways
-- a count bounds itself
pub led_self : (es : Equations) (way : Way) (head : ℕ) → ((n : ℕ) → n ≤ 65535 → made_by way.times way.plus way.minus way.least way.most n ≡ made (Raise 0) n) → Leads es way head head
unfolding made
led_self es way head is v s =
    let few = s.few head in
    let same : made_by way.times way.plus way.minus way.least way.most (v head) ≡ max (v head) 0 = is (v head) few in
    omega arith

-- nothing was met
pub none_led : (es : Equations) (head : ℕ) (reached : List Reach) → reached ≡ [] → All (λ r. Leads es r.way r.index head) reached
none_led es head reached none = subst (All (λ (r : Reach). Leads es r.way r.index head)) (sym none) (All-nil _)

-- what is bounded bounds the count of an equation
pub led_on : (es : Equations) (way next : Way) (head from : ℕ) (e : Equation) → e.source ≡ from → Leads es way from head → Follows es e
    → ((n : ℕ) → made_by next.times next.plus next.minus next.least next.most n ≡ made e.change (made_by way.times way.plus way.minus way.least way.most n))
    → Leads es next e.count head
led_on es way next head from e same before follows is v s =
    let far : v e.source ≤ made_by way.times way.plus way.minus way.least way.most (v head) = subst (λ n. v n ≤ made_by way.times way.plus way.minus way.least way.most (v head)) (sym same) (before v s) in
    let step = follows v s in
    let more = made_grows e.change (v e.source) (made_by way.times way.plus way.minus way.least way.most (v head)) far in
    let equal = is (v head) in
    omega arith

-- what bounds its head closes a circle
pub led_round : (es : Equations) (way : Way) (index head : ℕ) → index ≡ head → Leads es way index head → Leads es way index index
led_round es way index head same leads = subst (Leads es way index) (sym same) leads

-- in each solution a count is at most what its way makes of its head
pub reach_bound : (es : Equations) (way : Way) (index head : ℕ) (counts : List ℕ) (count to : ℕ) → IsSound es counts → Leads es way index head → count ≡ worth counts head
    → to ≡ made_by way.times way.plus way.minus way.least way.most count → (v : ℕ → ℕ) → Solution es v → v index ≤ to
reach_bound es way index head counts count to sound leads same is v s =
    let far = leads v s in
    let above = sound.above v s head in
    let few : v head ≤ count = omega arith in
    let more = way_grows way.times way.plus way.minus way.least way.most (v head) count few in
    omega arith

-- ---- the first counts
pub all_follow : (es : Equations) → All (Follows es) es.all.items
all_follow es k e lt v s = s.solves k e lt

-- what is found is the greatest
pub greatest_found : (es : Equations) (counts now : List ℕ) (all : List Equation) → all ≡ es.all.items
    → Fell es.most.items counts → IsSound es counts → (All (Follows es) all → IsSound es counts → IsSound es now) → Fell counts now → IsSettled now all
    → IsGreatest es now
greatest_found es counts now all same before sound more fell settled =
    let whole = fell_more es.most.items counts now before fell in
    record {
      sized = whole.sized;
      above = (more (subst (All (Follows es)) (sym same) (all_follow es)) sound).above;
      below = whole.below;
      solves = subst (IsSettled now) same settled;
    }
