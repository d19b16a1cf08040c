-- What a `$` begins before a byte that closes its context is the same whatever follows that byte.
-- POSIX.1-2024, XCU 2.6.2 (parameter expansion), 2.6.3, 2.6.4.
use Rattle.std.proofs.Common.{◌≡◌, ℕ, ◌+◌, ◌≤◌, ◌==◌, Bool, true, false, ◌&&◌, List, ◌∷◌, length, drop, take, Option, Some, None, ◌⊎◌, inl, inr, refl, sym, ap, subst, ◌∙◌, if◌then◌else◌, arith, length-take, nat_le}
use Rattle.std.proofs.lemmas.Bool.{cond-true, cond-false, true≢false, eqb-true}
use Rattle.std.proofs.lemmas.Bool.Decides.{nat_tests}
use Rattle.std.proofs.lemmas.Option.{same_Some}
use Rattle.sh_reads.proofs.FrontLemmas.{run_within}
use Rattle.sh_tree.specs.standard.language.Trees.{span}
use Rattle.sh_tree.specs.declared.tree.Subject.{Subject}
use Rattle.sh_tree.specs.declared.tree.Subject.TheVariants.{Name, Positional, Special}
use Rattle.sh_tree.specs.declared.tree.Action.{Action}
use Rattle.sh_tree.specs.declared.tree.Special.{Special as SpecialParameter}
use Rattle.sh_tree.specs.declared.tree.Special.TheVariants as special
use Rattle.sh_tree.specs.standard.language.Bytes.{is_digit, is_name_byte, is_name_start, is_first, name_length, run, decimal}
use Rattle.sh_tree.specs.standard.language.Words as words
use Rattle.sh_copies.proofs.AlikeBytes.{is_closer, closer_plain, by_bool, Alike, first_alike, behind_alike, joined_alike, run_alike, behind_run, taken_run, some_alike, lone_alike, by_first, behind_first}

-- Expansions

pub named_alike : (i n : ℕ) (rest rest' : List ℕ) → Alike rest rest' → words.named_value i n rest' ≡ words.named_value i n rest
unfolding words.named_value
named_alike i n rest rest' a = rw (joined_alike rest rest' a, behind_alike is_name_byte rest rest' a) refl

pub parenthesis_alike : (rest rest' : List ℕ) → Alike rest rest' → words.parenthesis rest' ≡ words.parenthesis rest
unfolding words.parenthesis
parenthesis_alike rest rest' a = rw (first_alike (λ c. c == 40) rest rest' a, behind_alike (λ c. c == 40) rest rest' a) refl

pub name_alike : (cs cs' : List ℕ) → Alike cs cs' → name_length cs' ≡ name_length cs
unfolding name_length
name_alike cs cs' a = rw (first_alike is_name_start cs cs' a, run_alike is_name_byte cs cs' a (λ c h. (closer_plain c h).name)) refl

pub parameter_alike : (i : ℕ) (cs cs' : List ℕ) → Alike cs cs' → words.parameter i cs' ≡ words.parameter i cs
unfolding words.parameter
parameter_alike i cs cs' a = rw (name_alike cs cs' a, taken_run is_digit cs cs' a (λ c h. (closer_plain c h).digit)) refl

-- Braced expansions

pub misfit_alike : (k : ℕ) (cs cs' : List ℕ) → Alike cs cs' → words.misfit k cs' ≡ words.misfit k cs
unfolding words.misfit
misfit_alike k cs cs' a =
    let some = some_alike cs cs' a in
    let lone = lone_alike cs cs' a in
    rw (some.0, some.1, joined_alike cs cs' a, lone.0, lone.1) refl

closer_operator : (c : ℕ) → is_closer c ≡ true → ((c == 37) ≡ false) × ((c == 35) ≡ false) × ((c == 58) ≡ false)
closer_operator c h = (grind (arith, nat_tests), grind (arith, nat_tests), grind (arith, nat_tests))

removal_first : (p : Subject) (k d : ℕ) (ds ds' : List ℕ) → (is_closer d ≡ true) ⊎ Alike ds ds' → words.misfit k (d ∷ ds') ≡ words.misfit k (d ∷ ds)
    → words.pattern_removal p k (d ∷ ds') ≡ words.pattern_removal p k (d ∷ ds)
unfolding words.pattern_removal
removal_first p k d ds ds' (inl h) m = let o = closer_operator d h in rw (o.0, o.1, m) refl
removal_first p k d ds ds' (inr b) m = rw (first_alike (λ d. d == 37) ds ds' b, first_alike (λ d. d == 35) ds ds' b, m) refl

removal_alike : (p : Subject) (k : ℕ) (cs cs' : List ℕ) → Alike cs cs' → words.pattern_removal p k cs' ≡ words.pattern_removal p k cs
removal_alike p k cs cs' a = by_first (words.pattern_removal p k) cs cs' a (λ d ds ds' r b. removal_first p k d ds ds' r (misfit_alike k (d ∷ ds) (d ∷ ds') b))

action_either : (colon : Bool) (p : Subject) (k : ℕ) (cs cs' : List ℕ) (o : Option Action) → words.misfit k cs' ≡ words.misfit k cs → words.pattern_removal p k cs' ≡ words.pattern_removal p k cs
    → words.action_by colon p k cs' o ≡ words.action_by colon p k cs o
action_either colon p k cs cs' (Some o) m n = refl
action_either colon p k cs cs' None m n = rw (m, n) refl

action_first : (colon : Bool) (p : Subject) (k d : ℕ) (ds ds' : List ℕ) → Alike (d ∷ ds) (d ∷ ds') → words.parameter_action colon p k (d ∷ ds') ≡ words.parameter_action colon p k (d ∷ ds)
unfolding words.parameter_action
action_first colon p k d ds ds' b = action_either colon p k (d ∷ ds) (d ∷ ds') (words.action_of d) (misfit_alike k (d ∷ ds) (d ∷ ds') b) (removal_alike p k (d ∷ ds) (d ∷ ds') b)

pub action_alike : (colon : Bool) (p : Subject) (k : ℕ) (cs cs' : List ℕ) → Alike cs cs' → words.parameter_action colon p k cs' ≡ words.parameter_action colon p k cs
action_alike colon p k cs cs' a = by_first (words.parameter_action colon p k) cs cs' a (λ d ds ds' r b. action_first colon p k d ds ds' b)

pub operator_alike : (p : Subject) (k : ℕ) (cs cs' : List ℕ) → Alike cs cs' → words.parameter_operator p k cs' ≡ words.parameter_operator p k cs
unfolding words.parameter_operator
operator_alike p k cs cs' a = by_bool (is_first (λ c. c == 58) cs)
    (λ yes.
    let b = behind_first (λ c. c == 58) cs cs' a (λ c h. (closer_operator c h).2) yes in
    rw (first_alike (λ c. c == 125) cs cs' a, first_alike (λ c. c == 58) cs cs' a, yes, action_alike true p (k + 1) (drop 1 cs) (drop 1 cs') b) refl)
    (λ other. rw (first_alike (λ c. c == 125) cs cs' a, first_alike (λ c. c == 58) cs cs' a, other, action_alike false p k cs cs' a) refl)

numeric_size : (i : ℕ) (ds : List ℕ) (p : Subject × ℕ) → words.numeric_parameter i ds ≡ Some p → p.1 ≡ length ds
unfolding words.numeric_parameter
numeric_size i ds p h = go (length ds == 0) (is_first (λ c. c == 48) ds) (length ds == 1) (nat_le (length ds) 5 && nat_le (decimal 0 ds) 65535) refl h
  where
    size : (s : Subject) (n : ℕ) → Some (s, n) ≡ Some p → p.1 ≡ n
    size s n k = sym (ap (λ q. q.1) (same_Some (s, n) p k))

    go : (e z o m : Bool) → (length ds == 1) ≡ o
        → (if e then None else (if z then (if o then Some (Special special.Zero (span i (i + 1)), 1) else None) else (if m then Some (Positional (decimal 0 ds) (span i (i + length ds)), length ds) else None))) ≡ Some p
        → p.1 ≡ length ds
    go true z o m k h = cc
    go false true true m k h = size _ _ h ∙ sym (eqb-true (length ds) 1 k)
    go false true false m k h = cc
    go false false o true k h = size _ _ h
    go false false o false k h = cc

-- a parameter is a run of bytes that no closer is in
behind_parameter : (i : ℕ) (cs cs' : List ℕ) → Alike cs cs' → (p : Subject × ℕ) → words.parameter i cs ≡ Some p → Alike (drop p.1 cs) (drop p.1 cs')
unfolding words.parameter name_length
behind_parameter i cs cs' a p h = by_bool (name_length cs == 0)
    (λ none.
    let ds = take (run is_digit cs) cs in
    let found : words.numeric_parameter i ds ≡ Some p = sym (cond-true _ _ _ none) ∙ h in
    let size : p.1 ≡ run is_digit cs = numeric_size i ds p found ∙ taken (run is_digit cs) cs (run_within is_digit cs) in
    along is_digit size (λ c h. (closer_plain c h).digit))
    (λ some.
    let found : Some (Name (span i (i + name_length cs)), name_length cs) ≡ Some p = sym (cond-false _ _ _ some) ∙ h in
    let size : p.1 ≡ name_length cs = sym (ap (λ q. q.1) (same_Some _ p found)) in
    let first = by_name (is_first is_name_start cs) refl some in
    along is_name_byte (size ∙ first) (λ c h. (closer_plain c h).name))
  where
    along : (q : ℕ → Bool) → p.1 ≡ run q cs → ((c : ℕ) → is_closer c ≡ true → q c ≡ false) → Alike (drop p.1 cs) (drop p.1 cs')
    along q e none = subst (λ n. Alike (drop n cs) (drop n cs')) (sym e) (subst (λ n. Alike (drop (run q cs) cs) (drop n cs')) (run_alike q cs cs' a none) (behind_run q cs cs' a none))

    by_name : (t : Bool) → is_first is_name_start cs ≡ t → ((if t then run is_name_byte cs else 0) == 0) ≡ false → (if t then run is_name_byte cs else 0) ≡ run is_name_byte cs
    by_name true e h = refl
    by_name false e h = absurd (true≢false h)

    taken : (n : ℕ) (xs : List ℕ) → n ≤ length xs → length (take n xs) ≡ n
    taken n xs h = omega (arith, length-take n xs)

length_alike : (i : ℕ) (cs cs' : List ℕ) → Alike cs cs' → words.parameter_length i cs' ≡ words.parameter_length i cs
unfolding words.parameter_length
length_alike i cs cs' a = ap (words.length_by cs') (parameter_alike (i + 3) cs cs' a) ∙ go (words.parameter (i + 3) cs) refl
  where
    go : (found : Option (Subject × ℕ)) → words.parameter (i + 3) cs ≡ found → words.length_by cs' found ≡ words.length_by cs found
    go None e = misfit_alike 3 cs cs' a
    go (Some p) e =
        let b = behind_parameter (i + 3) cs cs' a p e in
        rw (first_alike (λ c. c == 125) (drop p.1 cs) (drop p.1 cs') b, misfit_alike (p.1 + 3) (drop p.1 cs) (drop p.1 cs') b) refl

specially_alike : (i d : ℕ) (ds ds' : List ℕ) (found : Option SpecialParameter) → Alike ds ds' → Alike (d ∷ ds) (d ∷ ds') → words.specially i (d ∷ ds') found ≡ words.specially i (d ∷ ds) found
specially_alike i d ds ds' None a b = misfit_alike 2 (d ∷ ds) (d ∷ ds') b
specially_alike i d ds ds' (Some p) a b = rw (first_alike (λ c. c == 125) ds ds' a, misfit_alike 3 ds ds' a) refl

closer_special : (c : ℕ) → is_closer c ≡ true → (words.special_of c ≡ None) × ((c == 35) ≡ false)
unfolding words.special_of
closer_special c h = (grind (arith, nat_tests), grind (arith, nat_tests))

special_first : (i d : ℕ) (ds ds' : List ℕ) → (is_closer d ≡ true) ⊎ Alike ds ds' → Alike (d ∷ ds) (d ∷ ds') → words.special_or_length i (d ∷ ds') ≡ words.special_or_length i (d ∷ ds)
unfolding words.special_or_length
special_first i d ds ds' (inl h) b = let k = closer_special d h in rw (k.0, k.1, misfit_alike 2 (d ∷ ds) (d ∷ ds') b) refl
special_first i d ds ds' (inr a) b = rw (first_alike (λ c. c == 125) ds ds' a, length_alike i ds ds' a, specially_alike (i + 2) d ds ds' (words.special_of d) a b) refl

pub braced_alike : (i : ℕ) (cs cs' : List ℕ) → Alike cs cs' → words.braced_expansion i cs' ≡ words.braced_expansion i cs
unfolding words.braced_expansion
braced_alike i cs cs' a = ap (words.braced_expansion_by i cs') (parameter_alike (i + 2) cs cs' a) ∙ go (words.parameter (i + 2) cs) refl
  where
    go : (found : Option (Subject × ℕ)) → words.parameter (i + 2) cs ≡ found → words.braced_expansion_by i cs' found ≡ words.braced_expansion_by i cs found
    go None e = by_first (words.special_or_length i) cs cs' a (λ d ds ds' r b. special_first i d ds ds' r b)
    go (Some p) e = operator_alike p.0 (p.1 + 2) (drop p.1 cs) (drop p.1 cs') (behind_parameter (i + 2) cs cs' a p e)
