-- The names that are seen in commands, and a test that each of them passes.
use Rattle.std.proofs.Common.{◌≡◌, ℕ, Bool, true, List, [], ◌∷◌, ◌++◌, flat_map, refl, sym, ap, ◌∙◌, ◌+◌, false, if◌then◌else◌, map, fold, arith, inl, inr, true≢false}
use Rattle.std.specs.List.{list_all, sum_by}
use Rattle.std.proofs.lemmas.Bool.{and_parts, and_from, cases_Bool, or_cases, or_left, or_right}
use Rattle.std.proofs.lemmas.List.Folds.{list_all-append, list_any-append}
use Rattle.sh_tree.specs.declared.tree.Command.{Command}
use Rattle.sh_tree.specs.standard.program.Syntax.{Text}
use Rattle.sh_domain.specs.Sights.{Sight, in_command}
use Rattle.std.specs.List.Sorted.{IsPermutation}
use Rattle.std.specs.Str.{bytes_eq}
use Rattle.std.proofs.lemmas.List.Sorted.{sum_by-IsPermutation}
use Rattle.std.proofs.lemmas.List.Sums.{sum_by-cons}
use Rattle.std.proofs.lemmas.Slice.Eq.{bytes_eq-Decides}
use Rattle.sh_tree.specs.declared.tree.Script.{Script}
use Rattle.sh_tree.proofs.ListLemmas.{text_same}
use Rattle.sh_tree.specs.Commands.{commands_of}
use Rattle.sh_runs.specs.standard.runs.Environment.{is_one_of}
use Rattle.sh_domain.specs.Facts.{Declared}
use Rattle.sh_domain.specs.Names.{IsNumbering, first_names, with_text}

-- where each name that is seen passes a test
module _ (q : Text → Bool) where
  abbrev pub Seen : List Sight → Type 0
  Seen ss = list_all (λ (s : Sight). q s.name) ss ≡ true

  pub front : (ss ts : List Sight) → Seen (ss ++ ts) → Seen ss
  front ss ts h = (and_parts _ _ (sym (list_all-append (λ (s : Sight). q s.name) ss ts) ∙ h)).0

  pub rest_of : (ss ts : List Sight) → Seen (ss ++ ts) → Seen ts
  rest_of ss ts h = (and_parts _ _ (sym (list_all-append (λ (s : Sight). q s.name) ss ts) ∙ h)).1

-- What holds of each of a row holds of each in any other order

abbrev missed : {X : Type 0} → (X → Bool) → X → ℕ
missed p x = if p x then 0 else 1

none_missed : {X : Type 0} (p : X → Bool) (xs : List X) → list_all p xs ≡ true → sum_by (missed p) xs ≡ 0
none_missed p [] h = refl
none_missed p (x ∷ xs) h =
    let both = and_parts (p x) (list_all p xs) h in
    let rest = none_missed p xs both.1 in
    sum_by-cons (missed p) x xs ∙ rw (both.0, rest) refl

zero_less : (n : ℕ) → 0 + n ≡ 0 → n ≡ 0
zero_less n h = omega (arith, h)

one_more : (n : ℕ) → 1 + n ≡ 0 → ⊥
one_more n h = omega (arith, h)

missed_all : {X : Type 0} (p : X → Bool) (xs : List X) → sum_by (missed p) xs ≡ 0 → list_all p xs ≡ true
missed_all p [] h = refl
missed_all p (x ∷ xs) h = elim (cases_Bool (p x)) [
  | inl s ↦
      let sum : (if p x then 0 else 1) + sum_by (missed p) xs ≡ 0 = sym (sum_by-cons (missed p) x xs) ∙ h in
      let rest : 0 + sum_by (missed p) xs ≡ 0 = rw s at sum in
      and_from (p x) (list_all p xs) s (missed_all p xs (zero_less (sum_by (missed p) xs) rest))
  | inr s ↦
      let sum : (if p x then 0 else 1) + sum_by (missed p) xs ≡ 0 = sym (sum_by-cons (missed p) x xs) ∙ h in
      let one : 1 + sum_by (missed p) xs ≡ 0 = rw s at sum in
      absurd (one_more (sum_by (missed p) xs) one)
]

permuted : {X : Type 0} (p : X → Bool) (xs ys : List X) → IsPermutation xs ys → list_all p ys ≡ true → list_all p xs ≡ true
permuted p xs ys m h = missed_all p xs (sym (sum_by-IsPermutation (missed p) xs ys m) ∙ none_missed p ys h)

each_part : {X Y : Type 0} (p : Y → Bool) (f : X → List Y) (xs : List X) → list_all p (flat_map f xs) ≡ true → list_all (λ x. list_all p (f x)) xs ≡ true
each_part p f [] h = refl
each_part p f (x ∷ xs) h =
    let both = and_parts (list_all p (f x)) (list_all p (flat_map f xs)) (sym (list_all-append p (f x) (flat_map f xs)) ∙ h) in
    and_from (list_all p (f x)) (list_all (λ y. list_all p (f y)) xs) both.0 (each_part p f xs both.1)

-- Names in turn

stays : (names : List Text) (x t : Text) (b : Bool) → is_one_of names t ≡ true → is_one_of (if b then names else names ++ x ∷ []) t ≡ true
stays names x t true h = h
stays names x t false h = list_any-append (λ n. bytes_eq n t) names (x ∷ []) ∙ or_left (is_one_of names t) (is_one_of (x ∷ []) t) h

comes : (names : List Text) (x t : Text) (b : Bool) → is_one_of names x ≡ b → bytes_eq x t ≡ true → is_one_of (if b then names else names ++ x ∷ []) t ≡ true
comes names x t true e h = ap (is_one_of names) (sym ((bytes_eq-Decides x t).0 h)) ∙ e
comes names x t false e h = list_any-append (λ n. bytes_eq n t) names (x ∷ []) ∙ or_right (is_one_of names t) (is_one_of (x ∷ []) t) (or_left (bytes_eq x t) false h)

pub all_stay : (names xs : List Text) (t : Text) → is_one_of names t ≡ true → is_one_of (fold with_text names xs) t ≡ true
all_stay names [] t h = h
all_stay names (x ∷ xs) t h = all_stay (with_text names x) xs t (stays names x t (is_one_of names x) h)

pub all_come : (names xs : List Text) (t : Text) → is_one_of xs t ≡ true → is_one_of (fold with_text names xs) t ≡ true
all_come names [] t h = absurd (true≢false (sym h))
all_come names (x ∷ xs) t h = elim (or_cases (bytes_eq x t) (is_one_of xs t) h) [
  | inl s ↦ all_stay (with_text names x) xs t (comes names x t (is_one_of names x) refl s)
  | inr s ↦ all_come (with_text names x) xs t s
]

-- each of the last ones
last_come : (front : List Text) (seen all : List Sight) → ((t : Text) → is_one_of (map (λ (s : Sight). s.name) seen) t ≡ true → is_one_of (map (λ (s : Sight). s.name) all) t ≡ true)
    → list_all (λ (s : Sight). is_one_of (fold with_text [] (front ++ map (λ (x : Sight). x.name) all)) s.name) seen ≡ true
last_come front [] all h = refl
last_come front (s ∷ seen) all h =
    let xs = map (λ (x : Sight). x.name) all in
    let own : is_one_of xs s.name ≡ true = h s.name (or_left (bytes_eq s.name s.name) _ (text_same s.name)) in
    and_from _ _ (all_come [] (front ++ xs) s.name (list_any-append (λ n. bytes_eq n s.name) front xs ∙ or_right (is_one_of front s.name) (is_one_of xs s.name) own))
    (last_come front seen all (λ t k. h t (or_right (bytes_eq s.name t) _ k)))

-- The names of a script

pub seen_reach : (b : List ℕ) (t : Script) (d : Declared) (names : List Text) → IsNumbering b t d names
    → list_all (λ (c : Command). list_all (λ (s : Sight). is_one_of names s.name) (in_command b c)) (commands_of t) ≡ true
seen_reach b t d names n =
    let p : Sight → Bool = λ s. is_one_of names s.name in
    let last : list_all p n.seen ≡ true = ap (λ ns. list_all (λ (s : Sight). is_one_of ns s.name) n.seen) n.each_once ∙ last_come (first_names ++ d.names) n.seen n.seen (λ u k. k) in
    permuted (λ (c : Command). list_all p (in_command b c)) (commands_of t) n.in_order.commands n.in_order.all_commands
    (each_part p (in_command b) n.in_order.commands (permuted p (flat_map (in_command b) n.in_order.commands) n.seen n.in_order.all last))
