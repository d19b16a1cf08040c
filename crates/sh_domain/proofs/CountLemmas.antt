-- How often a place occurs in a list, and that it occurs once.
use Rattle.std.proofs.Common.{◌≡◌, ℕ, zero, suc, ◌+◌, ◌<◌, ◌≤◌, ◌==◌, Bool, true, false, ◌&&◌, if◌then◌else◌, List, [], ◌∷◌, ◌++◌, map, length, get_or, ◌⊎◌, inl, inr, refl, sym, ◌∙◌, ap, subst, arith, eqb-true, eq-eqb, true≢false}
use Rattle.std.specs.List.{Contains, flat_map, fold}
use Rattle.std.specs.Str.{bytes_eq}
use Rattle.std.proofs.lemmas.Bool.{and_parts, and_from, or_parts, cases_Bool}
use Rattle.std.proofs.lemmas.Slice.Eq.{bytes_eq-Decides}
use Rattle.sh_tree.specs.declared.place.Code.{Code}
use Rattle.sh_tree.specs.declared.place.Code.TheVariants.{P1, P2, Q1, U1, U2, U3}
use Rattle.sh_tree.specs.declared.place.Place.{Place}
use Rattle.sh_tree.specs.standard.program.Syntax.{Text}
use Rattle.sh_tree.proofs.ListLemmas.{text_same}
use Rattle.sh_runs.specs.standard.runs.Environment.{is_one_of}
use Rattle.sh_domain.specs.Demands.{with_text, each_once, drop_at, move_at}
use Rattle.sh_domain.specs.Operands.{Names}
use Rattle.sh_reads.specs.Spots.{OfCommand, OfWord, EachOnce}
use Rattle.sh_reads.proofs.HitLemmas.{one, is_of_command, is_there, hits}

one_both : (a b : Bool) → one (a && b) ≤ one b
one_both true b = omega arith
one_both false true = omega arith
one_both false false = omega arith

-- Places

code_number : Code → ℕ
code_number P1 = 1
code_number P2 = 2
code_number Q1 = 3
code_number U1 = 4
code_number U2 = 5
code_number U3 = 6

code_at : ℕ → Code
code_at n = get_or (Q1 ∷ P1 ∷ P2 ∷ Q1 ∷ U1 ∷ U2 ∷ []) n U3

code_back : (c : Code) → code_at (code_number c) ≡ c
unfolding code_at code_number
code_back P1 = refl
code_back P2 = refl
code_back Q1 = refl
code_back U1 = refl
code_back U2 = refl
code_back U3 = refl

same_place : Place → Place → Bool
same_place q x = (q.at == x.at) && (code_number q.code == code_number x.code) && bytes_eq q.subject x.subject

place_itself : (q : Place) → same_place q q ≡ true
unfolding same_place
place_itself q = and_from _ _ (and_from _ _ (eq-eqb q.at q.at refl) (eq-eqb (code_number q.code) (code_number q.code) refl)) (text_same q.subject)

-- how often the place occurs in the list
pub times : Place → List Place → ℕ
times q [] = 0
times q (x ∷ xs) = one (same_place q x) + times q xs

pub times_join : (q : Place) (xs ys : List Place) → times q (xs ++ ys) ≡ times q xs + times q ys
unfolding times
times_join q [] ys = omega arith
times_join q (x ∷ xs) ys = let rest = times_join q xs ys in omega arith

pub times_none : (q : Place) → times q [] ≡ 0
unfolding times
times_none q = refl

times_one : (q : Place) (xs : List Place) → Contains xs q → 0 < times q xs
unfolding times
times_one q xs h = go xs (h.0) (h.1) (h.2)
  where
    go : (xs : List Place) (k : ℕ) → k < length xs → get_or xs k q ≡ q → 0 < times q xs
    go [] k l e = absurd (omega arith)
    go (x ∷ xs) zero l e = let here : one (same_place q x) ≡ 1 = ap one (ap (same_place q) e ∙ place_itself q) in omega arith
    go (x ∷ xs) (suc k) l e = let there = go xs k (omega arith) e in omega arith

-- if each place that is counted is before an offset, so is each that is there
pub places_inside : (long : ℕ) (xs : List Place) → ((q : Place) → 0 < times q xs → q.at < long) → (k : ℕ) (d : Place) → k < length xs → (get_or xs k d).at < long
unfolding times
places_inside long [] h k d l = absurd (omega arith)
places_inside long (x ∷ xs) h zero d l = let here : one (same_place x x) ≡ 1 = ap one (place_itself x) in h x (omega arith)
places_inside long (x ∷ xs) h (suc k) d l = places_inside long xs (λ q some. h q (omega arith)) k d (omega arith)

-- if no place occurs twice by count, each occurs once
pub places_once : (xs : List Place) → ((q : Place) → times q xs ≤ 1) → EachOnce xs
unfolding EachOnce times
places_once [] h = tt
places_once (x ∷ xs) h = (
  (λ k. let here : one (same_place x x) ≡ 1 = ap one (place_itself x) in let more = times_one x xs k in let most = h x in absurd (omega arith)),
  places_once xs (λ q. let most = h q in omega arith),
)

-- A place in a word

same_parts : (q : Place) (at : ℕ) (code : Code) (subject : Text) → same_place q (record { at = at; code = code; subject = subject }) ≡ true
    → (((q.at == at) && (code_number q.code == code_number code)) ≡ true) × (bytes_eq q.subject subject ≡ true)
unfolding same_place
same_parts q at code subject t = and_parts ((q.at == at) && (code_number q.code == code_number code)) (bytes_eq q.subject subject) t

pub word_place : (q : Place) (at : ℕ) (code : Code) (subject : Text) → is_of_command code ≡ false → times q (record { at = at; code = code; subject = subject } ∷ []) ≤ hits q (OfWord at ∷ [])
unfolding times hits is_there
word_place q at code subject e = elim (cases_Bool (same_place q (record { at = at; code = code; subject = subject }))) [
  | inl t ↦
      let front = same_parts q at code subject t in
      let parts = and_parts (q.at == at) (code_number q.code == code_number code) front.0 in
      let same : q.code ≡ code = sym (code_back q.code) ∙ ap code_at (eqb-true _ _ parts.1) ∙ code_back code in
      let there : is_there q.at (is_of_command q.code) (OfWord at) ≡ true = rw (ap is_of_command same ∙ e) (is_it parts.0) in
      let first : one (is_there q.at (is_of_command q.code) (OfWord at)) ≡ 1 = ap one there in
      let most : one (same_place q (record { at = at; code = code; subject = subject })) ≡ 1 = ap one t in
      omega arith
  | inr t ↦ let none : one (same_place q (record { at = at; code = code; subject = subject })) ≡ 0 = ap one t in omega arith
]
  where
    is_it : (q.at == at) ≡ true → is_there q.at false (OfWord at) ≡ true
    is_it h = h

pub is_word_U1 : is_of_command U1 ≡ false
unfolding is_of_command
is_word_U1 = refl

pub is_word_U2 : is_of_command U2 ≡ false
unfolding is_of_command
is_word_U2 = refl

pub is_word_U3 : is_of_command U3 ≡ false
unfolding is_of_command
is_word_U3 = refl

-- Places at the start of a command

text_times : Text → List Text → ℕ
text_times t [] = 0
text_times t (n ∷ names) = one (bytes_eq t n) + text_times t names

text_times_more : (t n : Text) (names : List Text) → text_times t (names ++ n ∷ []) ≡ text_times t names + one (bytes_eq t n)
unfolding text_times
text_times_more t n [] = omega arith
text_times_more t n (m ∷ names) = let rest = text_times_more t n names in omega arith

text_absent : (t : Text) (names : List Text) → is_one_of names t ≡ false → text_times t names ≡ 0
unfolding text_times
text_absent t [] e = refl
text_absent t (n ∷ names) e =
    let parts = or_parts (bytes_eq n t) (is_one_of names t) e in
    let rest = text_absent t names parts.1 in
    let none : one (bytes_eq t n) ≡ 0 = ap one (other (cases_Bool (bytes_eq t n)) parts.0) in
    omega arith
  where
    other : (bytes_eq t n ≡ true) ⊎ (bytes_eq t n ≡ false) → bytes_eq n t ≡ false → bytes_eq t n ≡ false
    other (inl h) d = absurd (true≢false (sym (ap (λ y. bytes_eq y t) (sym ((bytes_eq-Decides t n).0 h)) ∙ text_same t) ∙ d))
    other (inr h) d = h

pub AtMostOnce : List Text → Type 0
AtMostOnce names = (t : Text) → text_times t names ≤ 1

with_once : (names : List Text) (n : Text) → AtMostOnce names → AtMostOnce (with_text names n)
unfolding with_text AtMostOnce
with_once names n h t = go (is_one_of names n) refl
  where
    unless : (bytes_eq t n ≡ true) ⊎ (bytes_eq t n ≡ false) → is_one_of names n ≡ false → text_times t names + one (bytes_eq t n) ≤ 1
    unless (inl e) f = let none = text_absent t names (subst (λ y. is_one_of names y ≡ false) (sym ((bytes_eq-Decides t n).0 e)) f) in let first : one (bytes_eq t n) ≡ 1 = ap one e in omega arith
    unless (inr e) f = let first : one (bytes_eq t n) ≡ 0 = ap one e in let most = h t in omega arith

    go : (b : Bool) → is_one_of names n ≡ b → text_times t (if b then names else names ++ n ∷ []) ≤ 1
    go true e = h t
    go false e = let more = text_times_more t n names in let most = unless (cases_Bool (bytes_eq t n)) e in omega arith

fold_once : (ts names : List Text) → AtMostOnce names → AtMostOnce (fold with_text names ts)
fold_once [] names h = h
fold_once (t ∷ ts) names h = fold_once ts (with_text names t) (with_once names t h)

none_once : AtMostOnce []
unfolding AtMostOnce text_times
none_once t = omega arith

pub names_once : (ls : List Names) → AtMostOnce (each_once ls)
names_once ls = fold_once (flat_map (λ l. l.vars ++ l.functions) ls) [] none_once

drop_times : (q : Place) (at : ℕ) (names : List Text) → times q (map (drop_at at) names) ≤ text_times q.subject names
unfolding times same_place text_times
drop_times q at [] = omega arith
drop_times q at (n ∷ names) = let rest = drop_times q at names in let first = one_both ((q.at == at) && (code_number q.code == code_number P1)) (bytes_eq q.subject n) in omega arith

-- a place that is among those of drops, or of a move, is there
not_there : (q : Place) (at : ℕ) (code : Code) (subject : Text) → ((q.at == at) && (code_number q.code == code_number code)) ≡ false → same_place q (record { at = at; code = code; subject = subject }) ≡ false
unfolding same_place
not_there q at code subject e = rw e refl

drops_elsewhere : (q : Place) (at : ℕ) (names : List Text) → ((q.at == at) && (code_number q.code == code_number P1)) ≡ false → times q (map (drop_at at) names) ≡ 0
unfolding times
drops_elsewhere q at [] e = refl
drops_elsewhere q at (n ∷ names) e = let first : one (same_place q (drop_at at n)) ≡ 0 = ap one (not_there q at P1 n e) in let rest = drops_elsewhere q at names e in omega arith

moves_elsewhere : (q : Place) (at : ℕ) (b : Bool) → ((q.at == at) && (code_number q.code == code_number P2)) ≡ false → times q (move_at at b) ≡ 0
unfolding times move_at
moves_elsewhere q at false e = refl
moves_elsewhere q at true e = let first : one (same_place q (record { at = at; code = P2; subject = [] })) ≡ 0 = ap one (not_there q at P2 [] e) in omega arith

moves_once : (q : Place) (at : ℕ) (b : Bool) → times q (move_at at b) ≤ 1
unfolding times move_at
moves_once q at false = omega arith
moves_once q at true = go (same_place q (record { at = at; code = P2; subject = [] }))
  where
    go : (b : Bool) → one b + 0 ≤ 1
    go true = omega arith
    go false = omega arith

by_code : (a : Bool) (c : Code) → one (a && (code_number c == 1)) + one (a && (code_number c == 2)) ≤ one (a && is_of_command c)
unfolding code_number is_of_command
by_code false c = omega arith
by_code true P1 = omega arith
by_code true P2 = omega arith
by_code true Q1 = omega arith
by_code true U1 = omega arith
by_code true U2 = omega arith
by_code true U3 = omega arith

drops_counted : (q : Place) (at : ℕ) (names : List Text) → AtMostOnce names → times q (map (drop_at at) names) ≤ one ((q.at == at) && (code_number q.code == 1))
unfolding AtMostOnce code_number
drops_counted q at names h = elim (cases_Bool ((q.at == at) && (code_number q.code == 1))) [
  | inl t ↦ let first : one ((q.at == at) && (code_number q.code == 1)) ≡ 1 = ap one t in let most = drop_times q at names in let once = h q.subject in omega arith
  | inr t ↦ let none = drops_elsewhere q at names t in omega arith
]

moves_counted : (q : Place) (at : ℕ) (b : Bool) → times q (move_at at b) ≤ one ((q.at == at) && (code_number q.code == 2))
unfolding code_number
moves_counted q at b = elim (cases_Bool ((q.at == at) && (code_number q.code == 2))) [
  | inl t ↦ let first : one ((q.at == at) && (code_number q.code == 2)) ≡ 1 = ap one t in let most = moves_once q at b in omega arith
  | inr t ↦ let none = moves_elsewhere q at b t in omega arith
]

pub shared_once : (q : Place) (at : ℕ) (names : List Text) (b : Bool) → AtMostOnce names → times q (map (drop_at at) names ++ move_at at b) ≤ hits q (OfCommand at ∷ [])
unfolding hits is_there
shared_once q at names b h =
    let drops = drops_counted q at names h in
    let moves = moves_counted q at b in
    let codes = by_code (q.at == at) q.code in
    let sum = times_join q (map (drop_at at) names) (move_at at b) in
    omega arith
