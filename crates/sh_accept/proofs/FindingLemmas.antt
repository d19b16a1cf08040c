-- The findings of places, in the one order that they have.
use Rattle.std.proofs.Common.{◌≡◌, ℕ, ◌+◌, ◌==◌, Bool, true, false, cond, if◌then◌else◌, List, [], ◌∷◌, map, refl, sym, ◌∙◌, ap, arith}
use Rattle.std.specs.Cmp.{IsTotalOrder}
use Rattle.std.specs.Cmp.Lexicographic.{on_texts}
use Rattle.std.specs.Ordering.{is_lt, is_eq, ordering_then, ordering_reverse, nat_cmp}
use Rattle.std.specs.declared.cmp.Ordering.{Ordering}
use Rattle.std.specs.declared.cmp.Ordering.TheVariants.{Less, Equal, Greater}
use Rattle.std.proofs.lemmas.Bool.{true≢false}
use Rattle.std.proofs.lemmas.Cmp.{then_total, on_total, nat_cmp_total}
use Rattle.std.proofs.lemmas.List.Sorted.{sum_by-IsPermutation}
use Rattle.std.proofs.lemmas.List.Sums.{sum_by-cons}
use Rattle.std.proofs.lemmas.Map.Lookups.{CmpEqualImpliesEq, exact_unsigned, exact_bytes}
use Rattle.sh_tree.specs.declared.place.Code.{Code}
use Rattle.sh_tree.specs.declared.place.Code.TheVariants.{P1, P2, Q1, U1, U2, U3}
use Rattle.sh_tree.specs.declared.place.Place.{Place}
use Rattle.sh_answers.specs.Findings.{AreFindings, contents_at}
use Rattle.sh_answers.specs.Verdicts.{Contents, contents_of, contents_cmp, code_index}
use Rattle.sh_answers.specs.declared.verdict.Finding.{Finding}
use Rattle.sh_accept.specs.Computed.{placed, in_order}
use Rattle.sh_accept.proofs.SortLemmas.{Least, Rises, times, one_order, rises_sorted}

-- The order separates all findings

pub contents_total : IsTotalOrder contents_cmp
contents_total =
    then_total (on_total (λ (f : Contents). f.line) nat_cmp_total) (then_total (on_total (λ (f : Contents). f.column) nat_cmp_total)
    (then_total (on_total (λ (f : Contents). code_index f.code) nat_cmp_total) (on_texts (λ (f : Contents). f.subject))))

first_equal : (a c : Ordering) → ordering_then a c ≡ Equal → a ≡ Equal
first_equal Less c e = e
first_equal Equal c e = refl
first_equal Greater c e = e

second_equal : (a c : Ordering) → ordering_then a c ≡ Equal → c ≡ Equal
second_equal Less c e = absurd (true≢false (ap is_lt e))
second_equal Equal c e = e
second_equal Greater c e = absurd (true≢false (sym (ap is_eq e)))

code_at : ℕ → Code
code_at n = if n == 0 then P1 else if n == 1 then P2 else if n == 2 then Q1 else if n == 3 then U1 else if n == 4 then U2 else U3

code_back : (c : Code) → code_at (code_index c) ≡ c
unfolding code_at
code_back P1 = refl
code_back P2 = refl
code_back Q1 = refl
code_back U1 = refl
code_back U2 = refl
code_back U3 = refl

same_code : (c e : Code) → code_index c ≡ code_index e → c ≡ e
same_code c e h = sym (code_back c) ∙ ap code_at h ∙ code_back e

same_contents : (x y : Contents) → x.line ≡ y.line → x.column ≡ y.column → x.code ≡ y.code → x.subject ≡ y.subject → x ≡ y
same_contents x y l c k s = λ i. record { line = l i; column = c i; code = k i; subject = s i }

pub contents_exact : CmpEqualImpliesEq contents_cmp
contents_exact x y e =
    let a = second_equal (nat_cmp x.line y.line) _ e in
    let c = second_equal (nat_cmp x.column y.column) _ a in
    same_contents x y
    (exact_unsigned x.line y.line (first_equal (nat_cmp x.line y.line) _ e))
    (exact_unsigned x.column y.column (first_equal (nat_cmp x.column y.column) _ a))
    (same_code x.code y.code (exact_unsigned (code_index x.code) (code_index y.code) (first_equal (nat_cmp (code_index x.code) (code_index y.code)) _ c)))
    (exact_bytes x.subject y.subject (second_equal (nat_cmp (code_index x.code) (code_index y.code)) _ c))

-- Putting in order

one : Contents → Contents → ℕ
one z w = cond (is_eq (contents_cmp z w)) 1 0

placed_times : (z x : Contents) (ys : List Contents) → times contents_cmp contents_total contents_exact z (placed x ys) ≡ one z x + times contents_cmp contents_total contents_exact z ys
unfolding placed one
placed_times z x [] = sum_by-cons (one z) x []
placed_times z x (y ∷ ys) = go (is_lt (contents_cmp y x)) refl (placed_times z x ys)
  where
    swapped : (n m k r s : ℕ) → r ≡ n + k → s ≡ m + k → n + s ≡ m + r
    swapped n m k r s h g = omega arith

    go : (c : Bool) → is_lt (contents_cmp y x) ≡ c → times contents_cmp contents_total contents_exact z (placed x ys) ≡ one z x + times contents_cmp contents_total contents_exact z ys
        → times contents_cmp contents_total contents_exact z (if c then y ∷ placed x ys else x ∷ y ∷ ys) ≡ one z x + times contents_cmp contents_total contents_exact z (y ∷ ys)
    go true e h = sum_by-cons (one z) y (placed x ys) ∙ swapped (one z y) (one z x) (times contents_cmp contents_total contents_exact z ys) (times contents_cmp contents_total contents_exact z (y ∷ ys)) (times contents_cmp contents_total contents_exact z (placed x ys)) (sum_by-cons (one z) y ys) h
    go false e h = sum_by-cons (one z) x (y ∷ ys)

in_order_times : (z : Contents) (xs : List Contents) → times contents_cmp contents_total contents_exact z (in_order xs) ≡ times contents_cmp contents_total contents_exact z xs
unfolding in_order one
in_order_times z [] = refl
in_order_times z (x ∷ xs) = placed_times z x (in_order xs) ∙ ap (λ n. one z x + n) (in_order_times z xs) ∙ sym (sum_by-cons (one z) x xs)

-- what is least of a row and no greater than one more is least of both
least_placed : (y x : Contents) (ys : List Contents) → is_lt (contents_cmp x y) ≡ false → Least contents_cmp contents_total contents_exact y ys → Least contents_cmp contents_total contents_exact y (placed x ys)
unfolding placed Least
least_placed y x [] h l = (h, tt)
least_placed y x (z ∷ zs) h l = go (is_lt (contents_cmp z x)) (least_placed y x zs h l.1)
  where
    go : (c : Bool) → Least contents_cmp contents_total contents_exact y (placed x zs) → Least contents_cmp contents_total contents_exact y (if c then z ∷ placed x zs else x ∷ z ∷ zs)
    go true k = (l.0, k)
    go false k = (h, l)

no_less : (x y z : Contents) → is_lt (contents_cmp y x) ≡ false → is_lt (contents_cmp z y) ≡ false → is_lt (contents_cmp z x) ≡ false
no_less x y z h k = go (contents_cmp z x) (contents_cmp y x) refl refl
  where
    go : (o r : Ordering) → contents_cmp z x ≡ o → contents_cmp y x ≡ r → is_lt o ≡ false
    go Equal r e g = refl
    go Greater r e g = refl
    go Less Less e g = sym (ap is_lt g) ∙ h
    go Less Equal e g = sym (ap is_lt (ap (contents_cmp z) (contents_exact y x g) ∙ e)) ∙ k
    go Less Greater e g = sym (ap is_lt (contents_total.trans z x y e (contents_total.antisymm x y ∙ ap ordering_reverse g))) ∙ k

least_behind : (x y : Contents) (zs : List Contents) → is_lt (contents_cmp y x) ≡ false → Least contents_cmp contents_total contents_exact y zs → Least contents_cmp contents_total contents_exact x zs
unfolding Least
least_behind x y [] h l = tt
least_behind x y (z ∷ zs) h l = (no_less x y z h l.0, least_behind x y zs h l.1)

after : (x y : Contents) → is_lt (contents_cmp y x) ≡ true → is_lt (contents_cmp x y) ≡ false
after x y h = go (contents_cmp y x) refl h
  where
    go : (o : Ordering) → contents_cmp y x ≡ o → is_lt o ≡ true → is_lt (contents_cmp x y) ≡ false
    go Less e k = ap is_lt (contents_total.antisymm x y ∙ ap ordering_reverse e)
    go Equal e k = absurd (true≢false (sym k))
    go Greater e k = absurd (true≢false (sym k))

placed_rises : (x : Contents) (ys : List Contents) → Rises contents_cmp contents_total contents_exact ys → Rises contents_cmp contents_total contents_exact (placed x ys)
unfolding placed Rises Least
placed_rises x [] h = (tt, tt)
placed_rises x (y ∷ ys) h = go (is_lt (contents_cmp y x)) refl (placed_rises x ys h.1)
  where
    go : (c : Bool) → is_lt (contents_cmp y x) ≡ c → Rises contents_cmp contents_total contents_exact (placed x ys) → Rises contents_cmp contents_total contents_exact (if c then y ∷ placed x ys else x ∷ y ∷ ys)
    go true e k = (least_placed y x ys (after x y e) h.0, k)
    go false e k = ((e, least_behind x y ys e h.0), h)

in_order_rises : (xs : List Contents) → Rises contents_cmp contents_total contents_exact (in_order xs)
unfolding in_order Rises
in_order_rises [] = tt
in_order_rises (x ∷ xs) = placed_rises x (in_order xs) (in_order_rises xs)

-- the findings of places are those of the places put in order
pub found_in_order : (b : List ℕ) (ps : List Place) (fs : List Finding) → AreFindings b ps fs → map contents_of fs ≡ in_order (map (contents_at b) ps)
found_in_order b ps fs f =
    one_order contents_cmp contents_total contents_exact (map contents_of fs) (in_order (map (contents_at b) ps))
    (rises_sorted contents_cmp contents_total contents_exact contents_of fs f.sorted)
    (in_order_rises (map (contents_at b) ps))
    (λ z. sum_by-IsPermutation (λ w. cond (is_eq (contents_cmp z w)) 1 0) (map (contents_at b) ps) (map contents_of fs) f.same ∙ sym (in_order_times z (map (contents_at b) ps)))
