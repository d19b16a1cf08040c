-- Two certificates that claim the same, both as their texts have them, are one.
use Rattle.std.proofs.Common.{◌≡◌, ℕ, ◌≤◌, nat_le, Bool, true, false, ◌&&◌, ◌||◌, List, [], ◌∷◌, refl, sym, ◌∙◌, ap, arith}
use Rattle.std.specs.List.{list_all}
use Rattle.std.specs.Str.{bytes_eq}
use Rattle.std.proofs.lemmas.Bool.{true≢false, and_parts}
use Rattle.std.proofs.lemmas.Slice.Eq.{bytes_eq-Decides}
use Rattle.sh_tree.specs.standard.language.Bytes.{is_name}
use Rattle.sh_tree.specs.standard.program.Syntax.{Text}
use Rattle.sh_runs.specs.standard.runs.Environment.{is_one_of}
use Rattle.sh_domain.specs.Facts.{Claim, Unreached, Claimed, facts}
use Rattle.sh_domain.specs.Forms.{is_rising, is_variable, are_rising}
use Rattle.sh_domain.specs.Operands.{Names}
use Rattle.sh_domain.specs.Order.{IsWithin, AreAmong}
use Rattle.sh_domain.specs.Sheets.{precedes}
use Rattle.sh_domain.specs.Spelling.{is_writable, are_writable}
use Rattle.sh_domain.proofs.OrderLemmas.{known_parts, nowhere_known}
use Rattle.sh_domain.proofs.RowReadLemmas.{precedes_trans, precedes_self, precedes_other}

-- Rising names

-- the text precedes each of them
unfoldable pub Leads : Text → List Text → Type 0
Leads t [] = Unit {0}
Leads t (u ∷ us) = (precedes t u ≡ true) × Leads t us

leads_behind : (t u : Text) (us : List Text) → precedes t u ≡ true → Leads u us → Leads t us
unfolding Leads
leads_behind t u [] h l = tt
leads_behind t u (v ∷ us) h l = (precedes_trans t u v h l.0, leads_behind t u us h l.1)

unfoldable pub Rising : List Text → Type 0
Rising [] = Unit {0}
Rising (t ∷ ts) = Leads t ts × Rising ts

rising : (ts : List Text) → is_rising ts ≡ true → Rising ts
unfolding is_rising Rising Leads
rising [] h = tt
rising (t ∷ []) h = (tt, tt)
rising (t ∷ u ∷ ts) h =
    let both = and_parts (precedes t u) (is_rising (u ∷ ts)) h in
    let rest = rising (u ∷ ts) both.1 in
    ((both.0, leads_behind t u ts both.0 rest.0), rest)

same_text : (t u : Text) → bytes_eq t u ≡ true → t ≡ u
same_text t u h = (bytes_eq-Decides t u).0 h

itself : (t : Text) (ts : List Text) → is_one_of (t ∷ ts) t ≡ true
itself t ts = ap (λ b. b || is_one_of ts t) ((bytes_eq-Decides t t).1 refl)

-- what is led comes after
led : (t u : Text) (us : List Text) → Leads t us → is_one_of us u ≡ true → precedes t u ≡ true
unfolding Leads
led t u [] l h = absurd (true≢false (sym h))
led t u (v ∷ us) l h = go (bytes_eq v u) refl h (λ k. led t u us l.1 k)
  where
    go : (b : Bool) → bytes_eq v u ≡ b → (b || is_one_of us u) ≡ true → (is_one_of us u ≡ true → precedes t u ≡ true) → precedes t u ≡ true
    go true e k more = ap (precedes t) (sym (same_text v u e)) ∙ l.0
    go false e k more = more k

not_behind_itself : (t : Text) (ts : List Text) → Leads t ts → is_one_of ts t ≡ true → ⊥
not_behind_itself t ts l h = true≢false (sym (led t t ts l h) ∙ precedes_self t)

later : (b c : Bool) → b ≡ false → (b || c) ≡ true → c ≡ true
later true c e h = absurd (true≢false e)
later false c e h = h

later_too : (b c : Bool) → c ≡ true → (b || c) ≡ true
later_too true c h = refl
later_too false c h = h

pub same_names : (xs ys : List Text) → Rising xs → Rising ys → ((t : Text) → is_one_of xs t ≡ true → is_one_of ys t ≡ true) → ((t : Text) → is_one_of ys t ≡ true → is_one_of xs t ≡ true) → xs ≡ ys
unfolding Rising
same_names [] [] r s h k = refl
same_names [] (y ∷ ys) r s h k = absurd (true≢false (sym (k y (itself y ys))))
same_names (x ∷ xs) [] r s h k = absurd (true≢false (sym (h x (itself x xs))))
same_names (x ∷ xs) (y ∷ ys) r s h k = go (bytes_eq x y) refl (λ e. same_names xs ys r.1 s.1 (tail x y xs ys e r.0 h) (tail y x ys xs (sym e) s.0 k))
  where
    tail : (u v : Text) (us vs : List Text) → u ≡ v → Leads u us → ((t : Text) → is_one_of (u ∷ us) t ≡ true → is_one_of (v ∷ vs) t ≡ true)
        → (t : Text) → is_one_of us t ≡ true → is_one_of vs t ≡ true
    tail u v us vs e l f t m = split (bytes_eq v t) refl
      where
        split : (b : Bool) → bytes_eq v t ≡ b → is_one_of vs t ≡ true
        split true q = absurd (not_behind_itself u us l (ap (is_one_of us) (e ∙ same_text v t q) ∙ m))
        split false q = later (bytes_eq v t) (is_one_of vs t) q (f t (later_too (bytes_eq u t) (is_one_of us t) m))

    stands : (u v : Text) (us vs : List Text) → bytes_eq v u ≡ false → precedes u v ≡ true → Leads v vs → ((t : Text) → is_one_of (u ∷ us) t ≡ true → is_one_of (v ∷ vs) t ≡ true) → ⊥
    stands u v us vs e p l f =
        true≢false (sym (precedes_trans u v u p (led v u vs l (later (bytes_eq v u) (is_one_of vs u) e (f u (itself u us))))) ∙ precedes_self u)

    turned : (u v : Text) → bytes_eq u v ≡ false → bytes_eq v u ≡ false
    turned u v e = back (bytes_eq v u) refl
      where
        back : (b : Bool) → bytes_eq v u ≡ b → b ≡ false
        back true q = absurd (true≢false (sym ((bytes_eq-Decides u v).1 (sym (same_text v u q))) ∙ e))
        back false q = refl

    order : (b : Bool) → precedes x y ≡ b → bytes_eq x y ≡ false → ⊥
    order true p e = stands x y xs ys (turned x y e) p s.0 h
    order false p e = stands y x ys xs e (precedes_other x y p e) r.0 k

    go : (b : Bool) → bytes_eq x y ≡ b → (x ≡ y → xs ≡ ys) → x ∷ xs ≡ y ∷ ys
    go true e rest = let first = same_text x y e in λ i. first i ∷ rest first i
    go false e rest = absurd (order (precedes x y) refl e)

-- Claims

pub same_claim : (x y : Claim) → is_writable x ≡ true → is_writable y ≡ true → IsWithin (facts x) (facts y) → IsWithin (facts y) (facts x) → x ≡ y
unfolding is_writable facts
same_claim Unreached Unreached w v h k = refl
same_claim Unreached (Claimed vs fs a) w v h k = absurd (nowhere_known _ _ _ h)
same_claim (Claimed vs fs a) Unreached w v h k = absurd (nowhere_known _ _ _ k)
same_claim (Claimed vs fs a) (Claimed us gs b) w v h k =
    let p = known_parts _ _ _ _ _ _ h in
    let q = known_parts _ _ _ _ _ _ k in
    let one = rows vs fs a w in
    let other = rows us gs b v in
    let vars : vs ≡ us = same_names vs us one.0 other.0 p.vars q.vars in
    let functions : fs ≡ gs = same_names fs gs one.1 other.1 p.functions q.functions in
    let args : a ≡ b = same_count a b p.args q.args in
    λ i. Claimed (vars i) (functions i) (args i)
  where
    same_count : (a b : ℕ) → a ≤ b → b ≤ a → a ≡ b
    same_count a b h k = omega arith

    rows : (us gs : List Text) (b : ℕ) → (are_rising is_variable us && are_rising is_name gs && nat_le b 65535) ≡ true → Rising us × Rising gs
    rows us gs b h =
        let first = and_parts (are_rising is_variable us && are_rising is_name gs) (nat_le b 65535) h in
        let both = and_parts (are_rising is_variable us) (are_rising is_name gs) first.0 in
        (rising us (and_parts (list_all is_variable us) (is_rising us) both.0).1, rising gs (and_parts (list_all is_name gs) (is_rising gs) both.1).1)

pub same_drops : (x y : Names) → are_writable x ≡ true → are_writable y ≡ true → AreAmong x y → AreAmong y x → x ≡ y
same_drops x y w v h k =
    let one = and_parts (are_rising is_variable x.vars) (are_rising is_name x.functions) w in
    let other = and_parts (are_rising is_variable y.vars) (are_rising is_name y.functions) v in
    let vars : x.vars ≡ y.vars =
    same_names x.vars y.vars (rising x.vars (and_parts (list_all is_variable x.vars) (is_rising x.vars) one.0).1)
    (rising y.vars (and_parts (list_all is_variable y.vars) (is_rising y.vars) other.0).1) h.vars k.vars in
    let functions : x.functions ≡ y.functions =
    same_names x.functions y.functions (rising x.functions (and_parts (list_all is_name x.functions) (is_rising x.functions) one.1).1)
    (rising y.functions (and_parts (list_all is_name y.functions) (is_rising y.functions) other.1).1) h.functions k.functions in
    λ i. record { vars = vars i; functions = functions i }
