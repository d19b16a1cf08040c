-- Commands by their numbers, and which of them are loops.
use Rattle.std.proofs.Common.{◌≡◌, ℕ, zero, suc, ◌+◌, ◌-◌, ◌<◌, ◌≤◌, ◌==◌, cond, nat_le, nat_lt, Bool, true, false, ◌&&◌, Some, List, [], ◌∷◌, map, length, get_or, slice_get, unwrap_or, option_map, refl, sym, ap, ◌∙◌, arith, inl, inr, eq-eqb}
use Rattle.std.specs.Borrow.{Bor}
use Rattle.std.specs.List.{All, list_all, sum_by}
use Rattle.std.specs.List.Sorted.{IsPermutation, IsNonDecreasingBy}
use Rattle.std.proofs.lemmas.Bool.{and_from, cases_lt}
use Rattle.std.proofs.lemmas.Bool.Decides.{nat_tests}
use Rattle.std.proofs.lemmas.List.{length-map}
use Rattle.std.proofs.lemmas.List.Elements.{All-map}
use Rattle.std.proofs.lemmas.List.Sorted.{All-permutation, IsPermutation-sym, length_permutation, sum_by-IsPermutation}
use Rattle.std.proofs.lemmas.List.Sums.{list_all-from_AllPass, sum_by-cons}
use Rattle.std.proofs.lemmas.Option.{slice_get-get_or, slice_get-map}
use Rattle.sh_tree.specs.declared.limits.TheConstants.{MAX_NESTING}
use Rattle.sh_tree.specs.declared.tree.Command.{Command, out-Command}
use Rattle.sh_tree.specs.declared.tree.Kind.{Kind, Simple', Group, Subshell, Cond', Loop, For', Branches', Define'}
use Rattle.sh_tree.specs.declared.tree.Script.{Script}
use Rattle.sh_tree.specs.standard.language.Reading.{ReadsTo}
use Rattle.sh_tree.specs.standard.program.Syntax as p
use Rattle.sh_tree.specs.standard.program.Syntax.{Text}
use Rattle.sh_tree.specs.standard.program.Trees as trees
use Rattle.sh_tree.proofs.ProgramRules.{command_of-out}
use Rattle.sh_tree.specs.Commands.{commands_of}
use Rattle.sh_runs.specs.Sites.{site_of}
use Rattle.sh_runs.specs.Surroundings.{Located, outside, items_located}
use Rattle.sh_domain.specs.Admitted.{IsAdmitted}
use Rattle.sh_domain.specs.Entries.{Entered, script_entered}
use Rattle.sh_domain.specs.Facts.{Declared}
use Rattle.sh_domain.specs.Reading.{AreLoops, is_loop, kind_loops}
use Rattle.sh_domain.specs.Readings.{command_number}
use Rattle.sh_domain.proofs.CountedLemmas.{tree_given, as_many}
use Rattle.sh_domain.proofs.NumberCounts.{next_given, held}
use Rattle.sh_domain.proofs.NumberLemmas.{read_given}
use Rattle.sh_domain.proofs.StandLemmas.{all_stand}
use Rattle.sh_gains.proofs.LocatedLemmas.{script_listed}

-- Numbers in order

abbrev one_if : Bool → ℕ
one_if t = cond t 1 0

-- a number that is given among so many
abbrev given : ℕ → ℕ → ℕ
given k count = one_if (nat_le k count)

other : (k n : ℕ) → k < n → one_if (n == k) ≡ 0
other k n l = grind (arith, nat_tests, l)

itself : (n : ℕ) → one_if (n == n) ≡ 1
itself n = ap one_if (eq-eqb n n refl)

within : (k a b t : ℕ) → 1 + t + given k a ≡ given k b → (a < k) × (k ≤ b)
within k a b t e = (grind (arith, nat_tests, e), grind (arith, nat_tests, e))

is_given : (k a b t : ℕ) → a < k → k ≤ b → t + given k a ≡ given k b → t ≡ 1
is_given k a b t l m e = grind (arith, nat_tests, l, m, e)

module _ {X : Type 0} (f : X → ℕ) where
  -- how many have the number
  abbrev times : ℕ → List X → ℕ
  times k xs = sum_by (λ x. one_if (f x == k)) xs

  more_times : (k : ℕ) (x : X) (xs : List X) → times k (x ∷ xs) ≡ one_if (f x == k) + times k xs
  more_times k x xs = sum_by-cons (λ y. one_if (f y == k)) x xs

  none_below : (k m : ℕ) → k < m → (xs : List X) → All (λ x. m ≤ f x) xs → times k xs ≡ 0
  none_below k m l [] h = refl
  none_below k m l (x ∷ xs) h =
      let first : m ≤ f x = h 0 x (omega arith) in
      let rest = none_below k m l xs (λ j d n. h (suc j) d (omega arith)) in
      let one = other k (f x) (omega arith) in
      let both = more_times k x xs in
      omega arith

  -- if each number from a + 1 to b is there once, and no other, and they do not fall, they are in
  -- order
  in_order : (a b : ℕ) (xs : List X) → IsNonDecreasingBy f xs → ((k : ℕ) → times k xs + given k a ≡ given k b) → (i : ℕ) (d : X) → i < length xs → f (get_or xs i d) ≡ a + i + 1
  in_order a b [] s h i d l = absurd (omega arith)
  in_order a b (x ∷ xs) s h i d l = go i l (λ at j m. in_order (a + 1) b xs (λ j k e n o. s (suc j) (suc k) e (omega arith) (omega arith)) at j d m)
    where
      at_own : 1 + times (f x) xs + given (f x) a ≡ given (f x) b
      at_own = let both = more_times (f x) x xs in let one = itself (f x) in let all = h (f x) in omega arith

      first : f x ≡ a + 1
      first =
          let own = within (f x) a b (times (f x) xs) at_own in
          let low = own.0 in
          let high = own.1 in
          elim (cases_lt (a + 1) (f x)) [
            | inl l ↦
                let none = none_below (a + 1) (f x) l (x ∷ xs) (λ j e n. s 0 j e (omega arith) n) in
                let some = is_given (a + 1) a b (times (a + 1) (x ∷ xs)) (omega arith) (omega arith) (h (a + 1)) in
                absurd (omega arith)
            | inr l ↦ omega arith
          ]

      rest : (k : ℕ) → times k xs + given k (a + 1) ≡ given k b
      rest k =
          let both = more_times k x xs in
          let next = next_given k a in
          let one : one_if (f x == k) ≡ one_if (a + 1 == k) = ap (λ n. one_if (n == k)) first in
          let all = h k in
          omega arith

      go : (i : ℕ) → i < length (x ∷ xs) → (((k : ℕ) → times k xs + given k (a + 1) ≡ given k b) → (j : ℕ) → j < length xs → f (get_or xs j d) ≡ a + 1 + j + 1) → f (get_or (x ∷ xs) i d) ≡ a + i + 1
      go zero l later = let e = first in omega arith
      go (suc i) l later = let e = later rest i (omega arith) in omega arith

sum_mapped : {X Y : Type 0} (g : Y → ℕ) (h : X → Y) (xs : List X) → sum_by g (map h xs) ≡ sum_by (λ x. g (h x)) xs
sum_mapped g h [] = refl
sum_mapped g h (x ∷ xs) = let one = sum_by-cons g (h x) (map h xs) in let two = sum_by-cons (λ y. g (h y)) x xs in let rest = sum_mapped g h xs in omega arith

-- Commands of a script that is read

unfoldable pub numbered : ℕ → p.Command → Bool
numbered count (p.command n at k rs) = nat_lt 0 n && nat_le n count

unfoldable pub loops_again : p.Kind → Bool
loops_again (p.Loop k c t) = true
loops_again (p.For name ws t) = true
loops_again _ = false

abbrev number_of : Bor Command → ℕ
number_of c = (out-Command c.now).number

module _ (b : List ℕ) (t : Script) (count : ℕ) (read : ReadsTo b MAX_NESTING count t) where
  -- as many as were counted, in any order
  pub all_counted : (cs : List (Bor Command)) → IsPermutation (commands_of t) (map (λ (c : Bor Command). c.now) cs) → length cs ≡ count
  all_counted cs same =
      sym (length-map cs (λ (c : Bor Command). c.now)) ∙ length_permutation (commands_of t) (map (λ (c : Bor Command). c.now) cs) same ∙ as_many b t MAX_NESTING count read

  each_once : (cs : List (Bor Command)) → IsPermutation (commands_of t) (map (λ (c : Bor Command). c.now) cs) → (k : ℕ) → times number_of k cs + given k 0 ≡ given k count
  each_once cs same k =
      let all = tree_given b t MAX_NESTING count read k in
      let order = sum_by-IsPermutation (λ c. one_if ((out-Command c).number == k)) (commands_of t) (map (λ (c : Bor Command). c.now) cs) same in
      let mapped = sum_mapped (λ c. one_if ((out-Command c).number == k)) (λ (c : Bor Command). c.now) cs in
      omega arith

  -- the commands of the program have numbers from 1 to their count

  abbrev at_command : Located → Bool
  at_command l = numbered count l.command

  number_there : (l : Located) → (0 < command_number l) × (command_number l ≤ count) → at_command l ≡ true
  unfolding numbered site_of
  number_there l h = go l.command h
    where
      go : (c : p.Command) → (0 < command_number (record { command = c; surroundings = l.surroundings })) × (command_number (record { command = c; surroundings = l.surroundings }) ≤ count) → numbered count c ≡ true
      go (p.command n at k rs) h = and_from (nat_lt 0 n) (nat_le n count) (let low = h.0 in grind (arith, nat_tests, low)) (let high = h.1 in grind (arith, nat_tests, high))

  all_numbered : (ls : List Located) → ((k : ℕ) → held k ls + given k 0 ≤ given k count) → list_all at_command ls ≡ true
  unfolding held
  all_numbered [] h = refl
  all_numbered (l ∷ ls) h =
      and_from (at_command l) (list_all at_command ls)
      (number_there l (own (command_number l) (held (command_number l) ls) (h (command_number l))))
      (all_numbered ls (λ k. let all = h k in omega arith))
    where
      few : (n m k : ℕ) → k + m + given n 0 ≤ given n count → k ≡ 1 → (0 < n) × (n ≤ count)
      few n m k e one = (grind (arith, nat_tests, e, one), grind (arith, nat_tests, e, one))

      own : (n m : ℕ) → one_if (n == n) + m + given n 0 ≤ given n count → (0 < n) × (n ≤ count)
      own n m e = few n m (one_if (n == n)) e (itself n)

  pub numbers_there : list_all (λ (e : Entered). numbered count e.command) (script_entered (trees.script_of b t)) ≡ true
  numbers_there = sym (script_listed (numbered count) (trees.script_of b t)) ∙ all_numbered (items_located outside (trees.script_of b t)) (λ k. let exact = read_given b t MAX_NESTING count read k in omega arith)

-- Loops, if it is known of each command whether it is one

module _ (loops : List Bool) where
  unfoldable pub told_loop : ℕ → Bool → Bool
  told_loop n false = true
  told_loop n true = unwrap_or (slice_get loops (n - 1)) false

  abbrev in_tree : Command → Bool
  in_tree c = told_loop (out-Command c).number (is_loop c)

  unfoldable pub looped : p.Command → Bool
  looped (p.command n at k rs) = told_loop n (loops_again k)

  empty_looped : looped (p.command 0 0 (p.Group p.no_items) p.no_redirects) ≡ true
  unfolding looped loops_again told_loop
  empty_looped = refl

  kind_same : (b : List ℕ) (k : Kind) → loops_again (trees.kind_of b k) ≡ kind_loops k
  unfolding loops_again kind_loops trees.part_of
  kind_same b (Simple' shape row) = refl
  kind_same b (Group list) = refl
  kind_same b (Subshell list) = refl
  kind_same b (Cond' shape row otherwise) = refl
  kind_same b (Loop k condition body) = refl
  kind_same b (For' name words body) = refl
  kind_same b (Branches' span shape word shape' clauses) = refl
  kind_same b (Define' name shape row) = refl

  program_looped : (b : List ℕ) (c : Command) → in_tree c ≡ true → looped (trees.command_of b c) ≡ true
  unfolding looped
  program_looped b c h = ap looped (command_of-out b c) ∙ ap (told_loop (out-Command c).number) (kind_same b (out-Command c).kind) ∙ h

  told_there : (n : ℕ) (l : Bool) → slice_get loops (n - 1) ≡ Some l → told_loop n l ≡ true
  unfolding told_loop
  told_there n true e = ap (λ o. unwrap_or o false) e
  told_there n false e = refl

  module _ (b : List ℕ) (t : Script) (count : ℕ) (read : ReadsTo b MAX_NESTING count t) (are : AreLoops t loops) where
    each_told : (i : ℕ) (d : Bor Command) → i < length are.commands → in_tree (get_or are.commands i d).now ≡ true
    each_told i d l =
        let number = in_order number_of 0 count are.commands are.ordered (each_once b t count read are.commands are.all) i d l in
        told_there _ _ (
        ap (slice_get loops) (omega arith)
        ∙ ap (λ ls. slice_get ls i) are.each
        ∙ slice_get-map (λ (c : Bor Command). is_loop c.now) are.commands i
        ∙ ap (option_map (λ (c : Bor Command). is_loop c.now)) (slice_get-get_or are.commands i d l))

    pub loops_there : list_all (λ (e : Entered). looped e.command) (script_entered (trees.script_of b t)) ≡ true
    loops_there =
        let listed : All (λ (c : Bor Command). in_tree c.now ≡ true) are.commands = λ i d l. each_told i d l in
        let mapped = All-map (λ (c : Command). in_tree c ≡ true) (λ (c : Bor Command). c.now) are.commands listed in
        let all = All-permutation (λ (c : Command). in_tree c ≡ true) (map (λ (c : Bor Command). c.now) are.commands) (commands_of t) (IsPermutation-sym (commands_of t) _ are.all) mapped in
        sym (script_listed looped (trees.script_of b t)) ∙ all_stand b in_tree looped (program_looped b) empty_looped outside t (list_all-from_AllPass in_tree (commands_of t) all)

-- a script that is admitted has no more commands than a text of a certificate may have
pub few_listed : (b : List ℕ) (d : Declared) (t : Script) (names : List Text) → IsAdmitted b d t names → (cs : List (Bor Command)) → IsPermutation (commands_of t) (map (λ (c : Bor Command). c.now) cs)
    → length cs ≤ 65535
few_listed b d t names a cs same =
    let all = all_counted b t a.reading.1.0 a.reading.1.1 cs same in
    let few = a.reading.1.2 in
    omega (arith, all, few)
