-- A script that is read within the limits has no more commands than it may, so no more rows of its
-- call table.
use Rattle.std.proofs.Common.{◌≡◌, ℕ, zero, suc, ◌+◌, ◌<◌, ◌≤◌, ◌==◌, Bool, true, false, cond, nat_le, nat_lt, if◌then◌else◌, List, [], ◌∷◌, map, length, refl, sym, ap, ◌∙◌, arith, eq-eqb, subst, le_trans}
use Rattle.std.proofs.lemmas.Bool.Decides.{nat_tests}
use Rattle.std.proofs.lemmas.List.{length-map}
use Rattle.sh_tree.specs.declared.limits.TheConstants.{MAX_COMMANDS, MAX_NESTING}
use Rattle.sh_tree.specs.declared.tree.Script.{Script}
use Rattle.sh_tree.specs.standard.program.Trees.{script_of}
use Rattle.sh_runs.specs.Calls.{row_of, table_of}
use Rattle.sh_runs.specs.Sites.{Site, site_of, placed, by_number, sites_of}
use Rattle.sh_runs.specs.Surroundings.{Located, outside, items_located}
use Rattle.sh_domain.specs.Readings.{command_number, ReadHasFewCommands}
use Rattle.sh_domain.proofs.NumberCounts.{held}
use Rattle.sh_domain.proofs.NumberLemmas.{read_given}

-- how many of the commands have a number from 1 to n
among : ℕ → List Located → ℕ
among zero ls = 0
among (suc n) ls = held (suc n) ls + among n ls

-- and whether this number is one of them
own : ℕ → ℕ → ℕ
own zero k = 0
own (suc n) k = cond (k == suc n) 1 0 + own n k

among_more : (n : ℕ) (l : Located) (ls : List Located) → among n (l ∷ ls) ≡ own n (command_number l) + among n ls
unfolding among own held
among_more zero l ls = refl
among_more (suc n) l ls = let rest = among_more n l ls in omega arith

is_own : (n k : ℕ) → 0 < k → k ≤ n → 1 ≤ own n k
unfolding own
is_own zero k some most = absurd (omega arith)
is_own (suc n) k some most = go (k == suc n) refl (is_own n k some)
  where
    go : (t : Bool) → (k == suc n) ≡ t → (k ≤ n → 1 ≤ own n k) → 1 ≤ cond t 1 0 + own n k
    go true e rest = omega arith
    go false e rest = let more = rest (grind (arith, nat_tests, e, most)) in omega arith

-- each of the commands has a number from 1 to n
abbrev AreWithin : ℕ → List Located → Type 0
AreWithin n ls = (k : ℕ) → 0 < held k ls → (0 < k) × (k ≤ n)

first_held : (l : Located) (ls : List Located) → 0 < held (command_number l) (l ∷ ls)
unfolding held
first_held l ls = go (command_number l == command_number l) (eq-eqb (command_number l) (command_number l) refl)
  where
    go : (t : Bool) → t ≡ true → 0 < cond t 1 0 + held (command_number l) ls
    go true e = omega arith
    go false e = cc

next_held : (k : ℕ) (l : Located) (ls : List Located) → 0 < held k ls → 0 < held k (l ∷ ls)
unfolding held
next_held k l ls h = omega arith

all_among : (n : ℕ) (ls : List Located) → AreWithin n ls → length ls ≤ among n ls
all_among n [] h = omega arith
all_among n (l ∷ ls) h =
    let first = h (command_number l) (first_held l ls) in
    let one = is_own n (command_number l) first.0 first.1 in
    let rest = all_among n ls (λ k held_there. h k (next_held k l ls held_there)) in
    let more = among_more n l ls in
    omega arith

among_most : (n : ℕ) (ls : List Located) → ((k : ℕ) → held k ls ≤ 1) → among n ls ≤ n
unfolding among
among_most zero ls h = omega arith
among_most (suc n) ls h = let one = h (suc n) in let rest = among_most n ls h in omega arith

given_once : (x : ℕ) (s t : Bool) → x + cond s 1 0 ≤ cond t 1 0 → x ≤ 1
given_once x true true h = omega arith
given_once x true false h = omega arith
given_once x false true h = omega arith
given_once x false false h = omega arith

given_within : (x k n : ℕ) → x + cond (nat_le k 0) 1 0 ≤ cond (nat_le k n) 1 0 → 0 < x → (0 < k) × (k ≤ n)
given_within x k n h some = (grind (arith, nat_tests, h, some), grind (arith, nat_tests, h, some))

few_given : (n : ℕ) (ls : List Located) → ((k : ℕ) → held k ls + cond (nat_le k 0) 1 0 ≤ cond (nat_le k n) 1 0) → length ls ≤ n
few_given n ls h =
    le_trans
    (all_among n ls (λ k. given_within (held k ls) k n (h k)))
    (among_most n ls (λ k. given_once (held k ls) (nat_le k 0) (nat_le k n) (h k)))

-- in order there are as many

placed_length : (s : Site) (ss : List Site) → length (placed s ss) ≡ suc (length ss)
unfolding placed
placed_length s [] = refl
placed_length s (x ∷ xs) = go (nat_lt x.number s.number) (placed_length s xs)
  where
    go : (t : Bool) → length (placed s xs) ≡ suc (length xs) → length (if t then x ∷ placed s xs else s ∷ x ∷ xs) ≡ suc (suc (length xs))
    go true rest = ap suc rest
    go false rest = refl

ordered_length : (ss : List Site) → length (by_number ss) ≡ length ss
unfolding by_number
ordered_length [] = refl
ordered_length (s ∷ ss) = placed_length s (by_number ss) ∙ ap suc (ordered_length ss)

pub rows_length : (b : List ℕ) (t : Script) → length (table_of b t).rows ≡ length (items_located outside (script_of b t))
unfolding table_of sites_of
rows_length b t =
    let ls = items_located outside (script_of b t) in
    length-map (by_number (map site_of ls)) row_of ∙ ordered_length (map site_of ls) ∙ length-map ls site_of

pub read_has_few_commands : ReadHasFewCommands
read_has_few_commands b t h =
    let few = few_given h.0 (items_located outside (script_of b t)) (λ n. let exact = read_given b t MAX_NESTING h.0 h.1 n in omega arith) in
    subst (λ n. n ≤ MAX_COMMANDS) (sym (rows_length b t)) (le_trans few h.2)
