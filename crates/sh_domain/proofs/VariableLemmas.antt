-- The names that are numbered of a script that is read are names, except for `!`.
use Rattle.std.proofs.Common.{◌≡◌, ℕ, ◌+◌, ◌<◌, ◌==◌, Bool, true, false, not, ◌||◌, if◌then◌else◌, cond, nat_le, List, [], ◌∷◌, ◌++◌, map, fold, flat_map, refl, sym, ap, ◌∙◌, inl, inr, arith, true≢false, append_assoc, eq-eqb}
use Rattle.std.specs.List.{list_all, sum_by}
use Rattle.std.specs.List.Sorted.{IsPermutation}
use Rattle.std.proofs.lemmas.Bool.{and_parts, and_from, or_left, or_right, cases_Bool}
use Rattle.std.proofs.lemmas.Bool.Decides.{nat_tests}
use Rattle.std.proofs.lemmas.List.Folds.{list_all-append, list_all-map}
use Rattle.std.proofs.lemmas.List.Sorted.{All-permutation}
use Rattle.std.proofs.lemmas.List.Sums.{AllPass-from_list_all, list_all-from_AllPass, sum_by-append, sum_by-cons}
use Rattle.sh_tree.specs.declared.tree.Command.{Command, out-Command}
use Rattle.sh_tree.specs.declared.tree.Script.{Script}
use Rattle.sh_tree.specs.standard.language.Bytes.{is_name, is_first}
use Rattle.sh_tree.specs.standard.language.Reading.{Reads}
use Rattle.sh_tree.specs.standard.program.Syntax as p
use Rattle.sh_tree.specs.standard.program.Syntax.{Text}
use Rattle.sh_tree.specs.standard.program.Trees as trees
use Rattle.sh_tree.proofs.ProgramRules.{command_of-out}
use Rattle.sh_tree.specs.Commands.{commands_of}
use Rattle.sh_runs.specs.Sites.{site_of}
use Rattle.sh_runs.specs.Surroundings.{Located, outside, items_located}
use Rattle.sh_runs.specs.standard.runs.Environment.{is_one_of}
use Rattle.sh_domain.specs.Forms.{is_variable}
use Rattle.sh_domain.specs.Inclusions.{command_formed}
use Rattle.sh_domain.specs.Names.{first_names, with_text, IsInTextOrder}
use Rattle.sh_domain.specs.Readings.{command_number, ReadNamesVariables}
use Rattle.sh_domain.specs.Sights.{Sight, in_command}
use Rattle.sh_domain.proofs.CountedLemmas.{tree_given}
use Rattle.sh_domain.proofs.NamedLemmas.{command_named}
use Rattle.sh_domain.proofs.NumberCounts.{held}
use Rattle.sh_domain.proofs.NumberLemmas.{read_given}
use Rattle.sh_domain.proofs.ReadLemmas.{read_formed}
use Rattle.sh_domain.proofs.StandLemmas.{all_stand}

-- Each command of the tree is formed, since each number occurs as often in the tree as in the
-- program

abbrev one_if : Bool → ℕ
one_if t = cond t 1 0

abbrev times : ℕ → List Command → ℕ
times n cs = sum_by (λ c. one_if ((out-Command c).number == n)) cs

itself : (n : ℕ) → one_if (n == n) ≡ 1
itself n = ap one_if (eq-eqb n n refl)

unfoldable has_number : ℕ → p.Command → Bool
has_number n (p.command m at k rs) = m == n

-- a command with the number is not formed
abbrev fails : ℕ → p.Command → Bool
fails n c = not (has_number n c) || not (command_formed c)

module _ (b : List ℕ) where
  abbrev formed_tree : Command → Bool
  formed_tree c = command_formed (trees.command_of b c)

  numbered_tree : (n : ℕ) (c : Command) → has_number n (trees.command_of b c) ≡ ((out-Command c).number == n)
  unfolding has_number
  numbered_tree n c = ap (has_number n) (command_of-out b c)

  -- commands with other numbers
  others_fail : (n : ℕ) (cs : List Command) → times n cs ≡ 0 → list_all (λ c. fails n (trees.command_of b c)) cs ≡ true
  others_fail n [] h = refl
  others_fail n (c ∷ cs) h =
      let sum : one_if ((out-Command c).number == n) + times n cs ≡ 0 = sym (sum_by-cons (λ (d : Command). one_if ((out-Command d).number == n)) c cs) ∙ h in
      let here : (has_number n (trees.command_of b c)) ≡ false = numbered_tree n c ∙ none ((out-Command c).number == n) (times n cs) sum in
      and_from _ _ (or_left _ _ (ap not here)) (others_fail n cs (omega arith))
    where
      none : (t : Bool) (m : ℕ) → one_if t + m ≡ 0 → t ≡ false
      none true m e = absurd (omega arith)
      none false m e = refl

-- where each with the number is not formed, and each is formed, none has the number
none_held : (n : ℕ) (ls : List Located) → list_all (λ (l : Located). fails n l.command) ls ≡ true → list_all (λ (l : Located). command_formed l.command) ls ≡ true → held n ls ≡ 0
unfolding held has_number site_of
none_held n [] f g = refl
none_held n (l ∷ ls) f g =
    let fail = and_parts (fails n l.command) (list_all (λ (m : Located). fails n m.command) ls) f in
    let good = and_parts (command_formed l.command) (list_all (λ (m : Located). command_formed m.command) ls) g in
    let rest = none_held n ls fail.1 good.1 in
    let here : (command_number l == n) ≡ false = other l (unformed (has_number n l.command) (command_formed l.command) good.0 fail.0) in
    rw here (omega (arith, rest))
  where
    unformed : (s t : Bool) → t ≡ true → (not s || not t) ≡ true → s ≡ false
    unformed true true e h = absurd (true≢false (sym h))
    unformed true false e h = absurd (true≢false (sym e))
    unformed false t e h = refl

    other : (l : Located) → has_number n l.command ≡ false → (command_number l == n) ≡ false
    other l h = go l.command h
      where
        go : (c : p.Command) → has_number n c ≡ false → (command_number (record { command = c; surroundings = l.surroundings }) == n) ≡ false
        go (p.command m at k rs) h = h

empty_fails : (n : ℕ) → 0 < n → fails n (p.command 0 0 (p.Group p.no_items) p.no_redirects) ≡ true
unfolding has_number
empty_fails n l = let other : not (0 == n) ≡ true = grind (arith, nat_tests, l) in or_left (not (0 == n)) _ other

module _ (b : List ℕ) (t : Script) (reads : Reads b t) where
  -- a number occurs as often in the program as in the tree, and from 1
  as_often : (n : ℕ) → times n (commands_of t) ≡ held n (items_located outside (trees.script_of b t))
  as_often n =
      let tree = tree_given b t reads.0 reads.1 reads.2 n in
      let program = read_given b t _ _ reads.2 n in
      omega arith

  -- none of the tree has its number to itself and is not formed
  apart : (front rest : List Command) (c : Command) → commands_of t ≡ front ++ c ∷ rest → formed_tree b c ≡ false → ⊥
  apart front rest c split bad =
      let n = (out-Command c).number in
      let count : Command → ℕ = λ d. one_if ((out-Command d).number == n) in
      let test : Command → Bool = λ d. fails n (trees.command_of b d) in
      let tree : times n (commands_of t) + cond (nat_le n 0) 1 0 ≡ cond (nat_le n reads.1) 1 0 = tree_given b t reads.0 reads.1 reads.2 n in
      let own : one_if (n == n) ≡ 1 = itself n in
      let sum : times n (commands_of t) ≡ times n front + (one_if (n == n) + times n rest) =
      ap (times n) split ∙ sum_by-append count front (c ∷ rest) ∙ ap (λ k. times n front + k) (sum_by-cons count c rest) in
      let once : (0 < n) × (times n front + times n rest ≡ 0) = alone n (times n front + times n rest) reads.1 (omega arith) in
      let none : times n front + times n rest ≡ 0 = once.1 in
      let failing : fails n (trees.command_of b c) ≡ true = or_right _ _ (ap not bad) in
      let behind = and_from (test c) (list_all test rest) failing (others_fail b n rest (omega arith)) in
      let all : list_all test (commands_of t) ≡ true = ap (list_all test) split ∙ list_all-append test front (c ∷ rest) ∙ and_from _ _ (others_fail b n front (omega arith)) behind in
      let stand = all_stand b test (fails n) (λ d h. h) (empty_fails n once.0) outside t all in
      let unheld = none_held n (items_located outside (trees.script_of b t)) stand (read_formed b t reads) in
      let often = as_often n in
      omega arith
    where
      alone : (n m k : ℕ) → 1 + m + cond (nat_le n 0) 1 0 ≡ cond (nat_le n k) 1 0 → (0 < n) × (m ≡ 0)
      alone n m k e = (grind (arith, nat_tests, e), grind (arith, nat_tests, e))

  each_formed : (front rest : List Command) → commands_of t ≡ front ++ rest → list_all (formed_tree b) rest ≡ true
  each_formed front [] e = refl
  each_formed front (c ∷ rest) e =
      let here : formed_tree b c ≡ true = elim (cases_Bool (formed_tree b c)) [ inl s ↦ s | inr s ↦ absurd (apart front rest c e s) ] in
      and_from (formed_tree b c) (list_all (formed_tree b) rest) here (each_formed (front ++ c ∷ []) rest (e ∙ sym (append_assoc front (c ∷ []) rest)))

-- Names in turn

permuted : {X : Type 0} (p : X → Bool) (xs ys : List X) → IsPermutation xs ys → list_all p xs ≡ true → list_all p ys ≡ true
permuted p xs ys m h = list_all-from_AllPass p ys (All-permutation (λ x. p x ≡ true) xs ys m (AllPass-from_list_all p xs h))

all_seen : (b : List ℕ) (cs : List Command) → list_all (formed_tree b) cs ≡ true → list_all (λ (s : Sight). is_name s.name) (flat_map (in_command b) cs) ≡ true
all_seen b [] h = refl
all_seen b (c ∷ cs) h =
    let both = and_parts (formed_tree b c) (list_all (formed_tree b) cs) h in
    list_all-append (λ (s : Sight). is_name s.name) (in_command b c) (flat_map (in_command b) cs) ∙ and_from _ _ (command_named b c both.0) (all_seen b cs both.1)

seen_named : (b : List ℕ) (t : Script) → Reads b t → (seen : List Sight) → IsInTextOrder b t seen → list_all (λ (s : Sight). is_name s.name) seen ≡ true
seen_named b t reads seen o =
    permuted (λ (s : Sight). is_name s.name) (flat_map (in_command b) o.commands) seen o.all
    (all_seen b o.commands (permuted (formed_tree b) (commands_of t) o.commands o.all_commands (each_formed b t reads [] (commands_of t) refl)))

variables : (ts : List Text) → list_all is_name ts ≡ true → list_all (λ u. is_variable u) ts ≡ true
variables [] h = refl
variables (t ∷ ts) h = let both = and_parts (is_name t) (list_all is_name ts) h in and_from (is_variable t) _ (or_left (is_name t) _ both.0) (variables ts both.1)

with_one : (p : Text → Bool) (names : List Text) (t : Text) (one : Bool) → list_all p names ≡ true → p t ≡ true → list_all p (if one then names else names ++ t ∷ []) ≡ true
with_one p names t true h k = h
with_one p names t false h k = list_all-append p names (t ∷ []) ∙ and_from _ _ h (and_from (p t) true k refl)

all_kept : (p : Text → Bool) (names ts : List Text) → list_all p names ≡ true → list_all p ts ≡ true → list_all p (fold with_text names ts) ≡ true
all_kept p names [] h k = h
all_kept p names (t ∷ ts) h k =
    let both = and_parts (p t) (list_all p ts) k in
    all_kept p (with_text names t) ts (with_one p names t (is_one_of names t) h both.0) both.1

first_variables : list_all (λ u. is_variable u) first_names ≡ true
unfolding is_first
first_variables = refl

pub read_names_variables : ReadNamesVariables
read_names_variables b t d names reads named numbers =
    let numbered = numbers.0 in
    let p : Text → Bool = λ u. is_variable u in
    let texts = map (λ (s : Sight). s.name) numbered.seen in
    let seen : list_all p texts ≡ true = variables texts (list_all-map is_name (λ (s : Sight). s.name) numbered.seen ∙ seen_named b t reads numbered.seen numbered.in_order) in
    let declared : list_all p (first_names ++ d.names) ≡ true = list_all-append p first_names d.names ∙ and_from _ _ first_variables (variables d.names named) in
    ap (list_all p) numbered.each_once ∙ all_kept p [] (first_names ++ d.names ++ texts) refl (list_all-append p (first_names ++ d.names) texts ∙ and_from _ _ declared seen)
