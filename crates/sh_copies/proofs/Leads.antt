-- A token of commands before a closing parenthesis is the same at every place, whatever follows.
-- POSIX.1-2024, XCU 2.3 (token recognition), 2.4 (reserved words), 2.7 (redirection).
use Rattle.std.proofs.Common.{◌≡◌, ℕ, zero, suc, ◌+◌, ◌≤◌, ◌<◌, ◌==◌, Bool, true, false, not, ◌&&◌, ◌||◌, List, [], ◌∷◌, ◌++◌, length, drop, take, nat_le, if◌then◌else◌, inl, inr, refl, sym, ap, ◌∙◌, subst, arith, eqb-true, length-drop, length-take, ⊎_elim}
use Rattle.std.specs.Prelude.{Option, Some, None}
use Rattle.std.proofs.Math.Bool.{and-false}
use Rattle.std.proofs.lemmas.Bool.{cond-false, true≢false, cases_lt, le-leb, leb-true, and_parts}
use Rattle.std.proofs.lemmas.Bool.Decides.{nat_tests}
use Rattle.std.proofs.lemmas.List.{drop-drop, drop-append-le, take-append-le}
use Rattle.sh_tree.specs.declared.refusal.Form.TheVariants as form
use Rattle.sh_tree.specs.declared.token.command.Lead.{Lead}
use Rattle.sh_tree.specs.declared.token.command.Lead.TheVariants as lead
use Rattle.sh_tree.specs.declared.token.command.Operator.{Operator}
use Rattle.sh_tree.specs.declared.token.command.Operator.TheVariants as op
use Rattle.sh_tree.specs.declared.token.command.Reserved.{Reserved}
use Rattle.sh_tree.specs.declared.token.command.Reserved.TheVariants as word
use Rattle.sh_tree.specs.declared.token.command.Stage.{Stage}
use Rattle.sh_tree.specs.declared.token.command.Stage.TheVariants.{First, Prefixed, Named}
use Rattle.sh_tree.specs.standard.language.Bytes.{is_digit, is_name_byte, is_name_start, is_name, ends_token, is_first, run, name_length, longest, behind_joined, is_joined, joined_length, joined_at}
use Rattle.sh_tree.specs.standard.language.Commands.{blanks, blank_length, gap_length, operator_of, long_operators, short_operators, is_longer, is_split, is_bare, bare_word, reserved_words, left_out_names, entry_of, is_assignment, is_angle, is_parenthesis, opening, whole_operator, operator_lead, bang, reserved_lead, is_definition, name_lead, first_lead, word_lead, is_named, number_lead, other_lead, lead_of, lead_at}
use Rattle.sh_tree.specs.standard.language.Words.{ends_joined}
use Rattle.sh_copies.proofs.AlikeBytes.{Alike, by_bool, joined_moves, first_alike, behind_alike, joined_alike, last_alike, some_alike, run_moves}
use Rattle.sh_copies.proofs.Blanks.{gap_moves, parenthesis_behind, is_number_sign}
use Rattle.sh_copies.proofs.Fronts.{alike_behind, whole, first_same, joined_at_is}
use Rattle.sh_copies.proofs.Tables.{Within, longest_moves, longest_within}

-- Wherever it is

definition_front : (b : List ℕ) (i : ℕ) (w : List ℕ) → is_definition b i w ≡ is_definition (drop i b) 0 w
unfolding is_definition blanks
definition_front b i w =
    let n = length w in
    let cs = drop i b in
    let behind : (x : List ℕ) (k : ℕ) → drop (k + blank_length false (drop k x)) x ≡ drop (blank_length false (drop k x)) (drop k x) = λ x k. sym (drop-drop (blank_length false (drop k x)) k x) in
    let same : drop n cs ≡ drop (i + n) b = drop-drop n i b in
    let zero_more : 0 + n ≡ n = omega arith in
    ap (λ t. is_name w && is_first is_parenthesis t) (behind b (i + n) ∙ ap (λ t. drop (blank_length false t) t) (sym same) ∙ sym (behind cs n))
    ∙ ap (λ k. is_name w && is_first is_parenthesis (drop (k + blank_length false (drop k cs)) cs)) (sym zero_more)

first_front : (b : List ℕ) (i : ℕ) (w : List ℕ) (r : Option Reserved) → first_lead b i w r ≡ first_lead (drop i b) 0 w r
unfolding first_lead
first_front b i w (Some r) = refl
first_front b i w None = ap (λ t. if t then lead.Definition else name_lead (entry_of left_out_names w)) (definition_front b i w)

word_front : (b : List ℕ) (g : Stage) (i : ℕ) (w : List ℕ) → word_lead b g i w ≡ word_lead (drop i b) g 0 w
unfolding word_lead
word_front b First i w = first_front b i w (entry_of reserved_words w)
word_front b Prefixed i w = refl
word_front b (Named d) i w = refl

pub bare_front : (b : List ℕ) (i : ℕ) → bare_word b i ≡ bare_word (drop i b) 0
unfolding bare_word
bare_front b i = refl

other_front : (b : List ℕ) (g : Stage) (i : ℕ) → other_lead b g i ≡ other_lead (drop i b) g 0
unfolding other_lead
other_front b g i = rw (word_front b g i (bare_word b i), bare_front b i) refl

end_front : (b : List ℕ) (i : ℕ) → nat_le (length b) i ≡ nat_le (length (drop i b)) 0
end_front b i =
    let long = length-drop i b in
    ⊎_elim
    (λ inside. not_past (length b) i inside ∙ sym (not_past (length (drop i b)) 0 (omega arith)))
    (λ past. le-leb (length b) i past ∙ sym (le-leb (length (drop i b)) 0 (omega arith)))
    (cases_lt i (length b))
  where
    not_past : (m n : ℕ) → n < m → nat_le m n ≡ false
    not_past m n h = by_bool (nat_le m n) (λ is. absurd (let k : m ≤ n = leb-true m n is in omega arith)) (λ other. other)

of_front : (b : List ℕ) (g : Stage) (i : ℕ) (found : Option (Operator × ℕ)) → lead_of b g i found ≡ lead_of (drop i b) g 0 found
unfolding lead_of
of_front b g i (Some f) = refl
of_front b g i None = rw (end_front b i, other_front b g i) refl

-- what a token is depends on the text from it on
pub lead_front : (b : List ℕ) (g : Stage) (i : ℕ) → lead_at b g i ≡ lead_at (drop i b) g 0
unfolding lead_at
lead_front b g i = of_front b g i (operator_of (drop i b))

-- Operators

pub operators_move : (w r r' : List ℕ) → operator_of (w ++ 41 ∷ r') ≡ operator_of (w ++ 41 ∷ r)
unfolding operator_of
operators_move w r r' = longest_moves (long_operators ++ short_operators) w 41 r r' refl refl

operator_within : (w r : List ℕ) (found : Operator × ℕ) → operator_of (w ++ 41 ∷ r) ≡ Some found → Within found.1 w
unfolding operator_of
operator_within w r found e = longest_within (long_operators ++ short_operators) w 41 r found refl refl e

parenthesis_alone : (r : List ℕ) → operator_of (41 ∷ r) ≡ Some (op.RightParenthesis, 1)
unfolding operator_of longest
parenthesis_alone r = refl

split_inside : (n : ℕ) (w r r' : List ℕ) → n ≤ length w → is_split (w ++ 41 ∷ r') n ≡ is_split (w ++ 41 ∷ r) n
unfolding is_split
split_inside n w r r' l =
    let j = joined_at_is n w 41 r r' refl l in
    ap (λ t. t && is_longer n (operator_of (joined_at n (w ++ 41 ∷ r')))) (joined_alike _ _ (alike_behind n w 41 r r' refl l))
    ∙ ap (λ o. is_joined (drop n (w ++ 41 ∷ r)) && is_longer n o) (ap operator_of j.2 ∙ operators_move j.0 r r' ∙ sym (ap operator_of j.1))

-- the closing parenthesis is no longer operator
closing_alone : (r : List ℕ) → is_split (41 ∷ r) 1 ≡ false
unfolding is_split
closing_alone r = ap (λ o. is_joined (drop 1 (41 ∷ r)) && is_longer 1 o) (parenthesis_alone (behind_joined r)) ∙ and-false (is_joined (drop 1 (41 ∷ r)))

split_moves : (n : ℕ) (w r r' : List ℕ) → Within n w → is_split (w ++ 41 ∷ r') n ≡ is_split (w ++ 41 ∷ r) n
split_moves n w r r' (inr l) = split_inside n w r r' l
split_moves n (a ∷ w) r r' (inl l) = split_inside n (a ∷ w) r r' (omega arith)
split_moves zero [] r r' (inl l) = split_inside zero [] r r' (omega arith)
split_moves (suc zero) [] r r' (inl l) = closing_alone r' ∙ sym (closing_alone r)
split_moves (suc (suc n)) [] r r' (inl l) = absurd (omega arith)

-- whether a byte of the class follows n bytes and continuations
behind_same : (p : ℕ → Bool) (n : ℕ) (w r r' : List ℕ) → n ≤ length w → is_first p (behind_joined (drop n (w ++ 41 ∷ r'))) ≡ is_first p (behind_joined (drop n (w ++ 41 ∷ r)))
behind_same p n w r r' l = behind_alike p _ _ (alike_behind n w 41 r r' refl l)

opening_moves : (n : ℕ) (w r r' : List ℕ) → n ≤ length w → opening (drop n (w ++ 41 ∷ r')) ≡ opening (drop n (w ++ 41 ∷ r))
unfolding opening
opening_moves n w r r' l = rw (first_same is_parenthesis n w 41 r r' refl l, behind_same is_parenthesis n w r r' l) refl

whole_moves : (g : Stage) (n : ℕ) (w r r' : List ℕ) (o : Operator) → n ≤ length w → whole_operator g (drop n (w ++ 41 ∷ r')) o ≡ whole_operator g (drop n (w ++ 41 ∷ r)) o
unfolding whole_operator
whole_moves First n w r r' op.LeftParenthesis l = opening_moves n w r r' l
whole_moves s n w r r' o l = refl

-- Words

behind_alike_too : (n : ℕ) (w r r' : List ℕ) → n ≤ length w → Alike (behind_joined (drop n (w ++ 41 ∷ r))) (behind_joined (drop n (w ++ 41 ∷ r')))
behind_alike_too n w r r' l =
    let v = drop n w in
    let j = joined_moves v 41 r r' refl refl in
    let k = joined_length (v ++ 41 ∷ r) in
    let there : behind_joined (drop n (w ++ 41 ∷ r)) ≡ drop k v ++ 41 ∷ r = ap behind_joined (drop-append-le n w (41 ∷ r) l) ∙ drop-append-le k v (41 ∷ r) j.1 in
    let here : behind_joined (drop n (w ++ 41 ∷ r')) ≡ drop k v ++ 41 ∷ r' =
    ap behind_joined (drop-append-le n w (41 ∷ r') l) ∙ ap (λ m. drop m (v ++ 41 ∷ r')) j.0 ∙ drop-append-le k v (41 ∷ r') j.1 in
    record { w = drop k v; c = 41; r = r; r' = r'; closes = refl; there = there; here = here }

ends_moves : (n : ℕ) (w r r' : List ℕ) → n ≤ length w → ends_joined (drop n (w ++ 41 ∷ r')) ≡ ends_joined (drop n (w ++ 41 ∷ r))
ends_moves n w r r' l =
    let a = behind_alike_too n w r r' l in
    let some = some_alike _ _ a in
    let last = last_alike _ _ a in
    let first = first_alike ends_token _ _ a in
    same_ends _ _ _ _ _ _ (some.1 ∙ sym some.0) first (last.1 ∙ sym last.0)
  where
    same_ends : (s t u s' t' u' : Bool) → s' ≡ s → t' ≡ t → u' ≡ u → (s' || t' || u') ≡ (s || t || u)
    same_ends s t u s' t' u' e f g = ap (λ z. z || t' || u') e ∙ ap (λ z. s || z || u') f ∙ ap (λ z. s || t || z) g

pub bare_moves : (w r r' : List ℕ) → (bare_word (w ++ 41 ∷ r') 0 ≡ bare_word (w ++ 41 ∷ r) 0) × (length (bare_word (w ++ 41 ∷ r) 0) ≤ length w)
unfolding bare_word
bare_moves w r r' =
    let m = run_moves is_bare w 41 r r' refl in
    let n = run is_bare (w ++ 41 ∷ r) in
    let text : take n (w ++ 41 ∷ r') ≡ take n (w ++ 41 ∷ r) = take-append-le n w (41 ∷ r') m.1 ∙ sym (take-append-le n w (41 ∷ r) m.1) in (
      ap (λ k. if ends_joined (drop k (w ++ 41 ∷ r')) then take k (w ++ 41 ∷ r') else []) m.0
          ∙ ap (λ t. if t then take n (w ++ 41 ∷ r') else []) (ends_moves n w r r' m.1)
          ∙ ap (λ x. if ends_joined (drop n (w ++ 41 ∷ r)) then x else []) text,
      short n m.1 (ends_joined (drop n (w ++ 41 ∷ r))),
    )
  where
    short : (n : ℕ) → n ≤ length w → (t : Bool) → length (if t then take n (w ++ 41 ∷ r) else []) ≤ length w
    short n l true = omega (arith, length-take n (w ++ 41 ∷ r))
    short n l false = omega arith

bang_moves : (w r r' : List ℕ) → 1 ≤ length w → bang (drop 1 (w ++ 41 ∷ r')) ≡ bang (drop 1 (w ++ 41 ∷ r))
bang_moves w r r' l = rw (first_same is_parenthesis 1 w 41 r r' refl l, behind_same is_parenthesis 1 w r r' l) refl

reserved_moves : (w r r' : List ℕ) (o : Reserved) → 1 ≤ length w → reserved_lead (w ++ 41 ∷ r') o ≡ reserved_lead (w ++ 41 ∷ r) o
unfolding reserved_lead
reserved_moves w r r' word.Bang l = bang_moves w r r' l
reserved_moves w r r' o l = refl

definition_moves : (w r r' x : List ℕ) → length x ≤ length w → is_definition (w ++ 41 ∷ r') 0 x ≡ is_definition (w ++ 41 ∷ r) 0 x
unfolding is_definition blanks
definition_moves w r r' x l =
    let n : ℕ = 0 + length x in
    let v = drop n w in
    let gap = gap_moves v r r' in
    let k = gap_length (v ++ 41 ∷ r) in
    let behind : (y : List ℕ) → is_first is_parenthesis (drop (n + blank_length false (drop n (w ++ 41 ∷ y))) (w ++ 41 ∷ y)) ≡ is_first is_parenthesis (drop (gap_length (v ++ 41 ∷ y)) (v ++ 41 ∷ y)) =
    (λ y. ap (is_first is_parenthesis) (sym (drop-drop (blank_length false (drop n (w ++ 41 ∷ y))) n (w ++ 41 ∷ y)))
    ∙ parenthesis_behind false (drop n (w ++ 41 ∷ y))
    ∙ ap (λ t. is_first is_parenthesis (drop (gap_length t) t)) (drop-append-le n w (41 ∷ y) (omega arith))) in
    ap (λ t. is_name x && t)
    (behind r' ∙ ap (λ m. is_first is_parenthesis (drop m (v ++ 41 ∷ r'))) gap.0 ∙ first_same is_parenthesis k v 41 r r' refl gap.1 ∙ sym (behind r))

first_moves : (w r r' x : List ℕ) (o : Option Reserved) → 1 ≤ length w → length x ≤ length w → first_lead (w ++ 41 ∷ r') 0 x o ≡ first_lead (w ++ 41 ∷ r) 0 x o
unfolding first_lead
first_moves w r r' x (Some o) some l = reserved_moves w r r' o some
first_moves w r r' x None some l = ap (λ t. if t then lead.Definition else name_lead (entry_of left_out_names x)) (definition_moves w r r' x l)

word_moves : (g : Stage) (w r r' x : List ℕ) → 1 ≤ length w → length x ≤ length w → word_lead (w ++ 41 ∷ r') g 0 x ≡ word_lead (w ++ 41 ∷ r) g 0 x
unfolding word_lead
word_moves First w r r' x some l = first_moves w r r' x (entry_of reserved_words x) some l
word_moves Prefixed w r r' x some l = refl
word_moves (Named d) w r r' x some l = refl

-- Other tokens

number_by : (v r r' : List ℕ) (o : Option (Operator × ℕ)) → operator_of (v ++ 41 ∷ r) ≡ o → number_lead (v ++ 41 ∷ r') o ≡ number_lead (v ++ 41 ∷ r) o
unfolding number_lead
number_by v r r' (Some f) e = ap (λ t. if t then lead.LeftOut form.Continuation else lead.Number) (split_moves f.1 v r r' (operator_within v r f e))
number_by v r r' None e = refl

number_moves : (n : ℕ) (w r r' : List ℕ) → n ≤ length w
    → number_lead (drop n (w ++ 41 ∷ r')) (operator_of (drop n (w ++ 41 ∷ r'))) ≡ number_lead (drop n (w ++ 41 ∷ r)) (operator_of (drop n (w ++ 41 ∷ r)))
number_moves n w r r' l =
    let v = drop n w in
    let there : drop n (w ++ 41 ∷ r) ≡ v ++ 41 ∷ r = drop-append-le n w (41 ∷ r) l in
    let here : drop n (w ++ 41 ∷ r') ≡ v ++ 41 ∷ r' = drop-append-le n w (41 ∷ r') l in
    ap (λ t. number_lead t (operator_of t)) here ∙ ap (number_lead (v ++ 41 ∷ r')) (operators_move v r r') ∙ number_by v r r' (operator_of (v ++ 41 ∷ r)) refl
    ∙ sym (ap (λ t. number_lead t (operator_of t)) there)

pub name_moves : (w r r' : List ℕ) → (name_length (w ++ 41 ∷ r') ≡ name_length (w ++ 41 ∷ r)) × (name_length (w ++ 41 ∷ r) ≤ length w)
unfolding name_length
name_moves w r r' =
    let m = run_moves is_name_byte w 41 r r' refl in (
      ap (λ t. if t then run is_name_byte (w ++ 41 ∷ r') else 0) (first_same is_name_start 0 w 41 r r' refl (omega arith))
          ∙ ap (λ n. if is_first is_name_start (w ++ 41 ∷ r) then n else 0) m.0,
      short (is_first is_name_start (w ++ 41 ∷ r)) m.1,
    )
  where
    short : (t : Bool) → run is_name_byte (w ++ 41 ∷ r) ≤ length w → (if t then run is_name_byte (w ++ 41 ∷ r) else 0) ≤ length w
    short true l = l
    short false l = omega arith

pub assignment_moves : (w r r' : List ℕ) → is_assignment (w ++ 41 ∷ r') ≡ is_assignment (w ++ 41 ∷ r)
unfolding is_assignment
assignment_moves w r r' =
    let m = name_moves w r r' in
    ap (λ n. not (n == 0) && is_first (λ c. c == 61) (drop n (w ++ 41 ∷ r'))) m.0
    ∙ ap (λ t. not (name_length (w ++ 41 ∷ r) == 0) && t) (first_same (λ c. c == 61) (name_length (w ++ 41 ∷ r)) w 41 r r' refl m.1)

-- a number, a split one, an assignment or a word
chosen : Bool → Bool → Bool → Lead → Lead → Lead
chosen a b c l m = if a then l else (if b then lead.LeftOut form.Continuation else (if c then lead.Assignment else m))

same_chosen : (a b c a' b' c' : Bool) (l m l' m' : Lead) → a' ≡ a → b' ≡ b → c' ≡ c → l' ≡ l → m' ≡ m → chosen a' b' c' l' m' ≡ chosen a b c l m
same_chosen a b c a' b' c' l m l' m' e f g h i =
    ap (λ z. chosen z b' c' l' m') e ∙ ap (λ z. chosen a z c' l' m') f ∙ ap (λ z. chosen a b z l' m') g ∙ ap (λ z. chosen a b c z m') h ∙ ap (λ z. chosen a b c l z) i

other_moves : (g : Stage) (w r r' : List ℕ) → 1 ≤ length w → other_lead (w ++ 41 ∷ r') g 0 ≡ other_lead (w ++ 41 ∷ r) g 0
unfolding other_lead chosen
other_moves g w r r' some =
    let d = run_moves is_digit w 41 r r' refl in
    let n = run is_digit (w ++ 41 ∷ r) in
    let angle : (c : ℕ) → Bool = λ c. c == 60 || c == 62 in
    let x = bare_moves w r r' in
    same_chosen _ _ _ _ _ _ _ _ _ _
    (ap (λ k. not (k == 0) && is_angle (drop k (w ++ 41 ∷ r'))) d.0 ∙ ap (λ t. not (n == 0) && t) (first_same angle n w 41 r r' refl d.1))
    (ap (λ k. not (k == 0) && is_angle (behind_joined (drop k (w ++ 41 ∷ r')))) d.0 ∙ ap (λ t. not (n == 0) && t) (behind_same angle n w r r' d.1))
    (ap (λ t. not (is_named g) && t) (assignment_moves w r r'))
    (ap (λ k. number_lead (drop k (w ++ 41 ∷ r')) (operator_of (drop k (w ++ 41 ∷ r')))) d.0 ∙ number_moves n w r r' d.1)
    (ap (word_lead (w ++ 41 ∷ r') g 0) x.0 ∙ word_moves g w r r' (bare_word (w ++ 41 ∷ r) 0) some x.1)

-- All tokens

pub closing_lead : (g : Stage) (r : List ℕ) → lead_at (41 ∷ r) g 0 ≡ lead.Operator op.RightParenthesis
unfolding lead_at lead_of operator_lead whole_operator
closing_lead First r = ap (lead_of (41 ∷ r) First 0) (parenthesis_alone r) ∙ cond-false _ _ _ (closing_alone r)
closing_lead Prefixed r = ap (lead_of (41 ∷ r) Prefixed 0) (parenthesis_alone r) ∙ cond-false _ _ _ (closing_alone r)
closing_lead (Named d) r = ap (lead_of (41 ∷ r) (Named d) 0) (parenthesis_alone r) ∙ cond-false _ _ _ (closing_alone r)

some_byte : (a : ℕ) (cs : List ℕ) → nat_le (length (a ∷ cs)) 0 ≡ false
some_byte a cs = grind (arith, nat_tests)

of_moves : (g : Stage) (a : ℕ) (w r r' : List ℕ) (o : Option (Operator × ℕ)) → operator_of (a ∷ (w ++ 41 ∷ r)) ≡ o
    → lead_of (a ∷ (w ++ 41 ∷ r')) g 0 o ≡ lead_of (a ∷ (w ++ 41 ∷ r)) g 0 o
unfolding lead_of operator_lead is_first
of_moves g a w r r' (Some f) e =
    let l : f.1 ≤ length (a ∷ w) = ⊎_elim (λ k. omega arith) (λ k. k) (operator_within (a ∷ w) r f e) in
    ap (λ t. if t then lead.LeftOut form.Continuation else whole_operator g (drop f.1 (a ∷ (w ++ 41 ∷ r'))) f.0) (split_inside f.1 (a ∷ w) r r' l)
    ∙ ap (λ z. if is_split (a ∷ (w ++ 41 ∷ r)) f.1 then lead.LeftOut form.Continuation else z) (whole_moves g f.1 (a ∷ w) r r' f.0 l)
of_moves g a w r r' None e =
    let last = last_alike _ _ (whole (a ∷ w) 41 r r' refl) in
    let other = other_moves g (a ∷ w) r r' (omega arith) in
    rw (some_byte a (w ++ 41 ∷ r), some_byte a (w ++ 41 ∷ r'), last.0, last.1, other) refl

pub lead_moves : (g : Stage) (w r r' : List ℕ) → lead_at (w ++ 41 ∷ r') g 0 ≡ lead_at (w ++ 41 ∷ r) g 0
unfolding lead_at
lead_moves g [] r r' = closing_lead g r' ∙ sym (closing_lead g r)
lead_moves g (a ∷ w) r r' = ap (lead_of (a ∷ (w ++ 41 ∷ r')) g 0) (operators_move (a ∷ w) r r') ∙ of_moves g a w r r' (operator_of (a ∷ (w ++ 41 ∷ r))) refl

-- what redirection's operator follows digits
abbrev pub behind_digits : List ℕ → Option (Operator × ℕ)
behind_digits cs = operator_of (drop (run is_digit cs) cs)

pub digits_move : (w r r' : List ℕ) → run is_digit (w ++ 41 ∷ r') ≡ run is_digit (w ++ 41 ∷ r)
digits_move w r r' = (run_moves is_digit w 41 r r' refl).0

pub behind_digits_moves : (w r r' : List ℕ) → behind_digits (w ++ 41 ∷ r') ≡ behind_digits (w ++ 41 ∷ r)
behind_digits_moves w r r' =
    let m = run_moves is_digit w 41 r r' refl in
    let n = run is_digit (w ++ 41 ∷ r) in
    ap (λ k. operator_of (drop k (w ++ 41 ∷ r'))) m.0 ∙ ap operator_of (drop-append-le n w (41 ∷ r') m.1) ∙ operators_move (drop n w) r r' ∙ sym (ap operator_of (drop-append-le n w (41 ∷ r) m.1))

-- a number sign at a token is none that anything goes on with
number_sign_lead : (g : Stage) (cs : List ℕ) → is_first is_number_sign cs ≡ true → lead_at cs g 0 ≡ lead.LeftOut form.Continuation
unfolding lead_at lead_of operator_of longest is_first
number_sign_lead g [] h = absurd (true≢false (sym h))
number_sign_lead g (c ∷ cs) h = let is : c ≡ 35 = eqb-true c 35 h in subst (λ d. lead_at (d ∷ cs) g 0 ≡ lead.LeftOut form.Continuation) (sym is) (here (some_byte 35 cs))
  where
    here : nat_le (length (35 ∷ cs)) 0 ≡ false → lead_at (35 ∷ cs) g 0 ≡ lead.LeftOut form.Continuation
    here e = rw e refl

pub lead_is_no_sign : (f : Lead → Bool) (b : List ℕ) (g : Stage) (i : ℕ) → f (lead.LeftOut form.Continuation) ≡ false → f (lead_at b g i) ≡ true → is_first is_number_sign (drop i b) ≡ false
lead_is_no_sign f b g i none h = by_bool (is_first is_number_sign (drop i b))
    (λ is. absurd (true≢false (sym h ∙ ap f (lead_front b g i ∙ number_sign_lead g (drop i b) is) ∙ none)))
    (λ other. other)

-- a name begins with no number sign
pub name_is_no_sign : (b : List ℕ) (i : ℕ) → is_name (bare_word b i) ≡ true → is_first is_number_sign (drop i b) ≡ false
unfolding bare_word is_first
name_is_no_sign b i h = go (drop i b) (run is_bare (drop i b)) (ends_joined (drop (run is_bare (drop i b)) (drop i b))) h
  where
    go : (cs : List ℕ) (n : ℕ) (t : Bool) → is_name (if t then take n cs else []) ≡ true → is_first is_number_sign cs ≡ false
    go cs n false k = absurd (true≢false (sym k))
    go [] n true k = refl
    go (c ∷ cs) zero true k = absurd (true≢false (sym k))
    go (c ∷ cs) (suc n) true k = by_bool (c == 35)
        (λ is. let sign : c ≡ 35 = eqb-true c 35 is in absurd (true≢false (sym (and_parts (is_name_start c) _ k).0 ∙ ap is_name_start sign)))
        (λ other. other)
