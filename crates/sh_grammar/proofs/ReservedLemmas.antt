-- A reserved word is whole in the text.
use Rattle.std.proofs.Common.{◌≡◌, ℕ, ◌+◌, ◌≤◌, ◌&&◌, Bool, true, false, List, [], ◌∷◌, length, drop, take, nat_eq, Option, Some, None, cond, refl, sym, ap, ◌∙◌, ⊎_elim, arith}
use Rattle.std.proofs.lemmas.Bool.{cases_Bool, cond-true, cond-false, true≢false}
use Rattle.std.proofs.lemmas.List.{length-drop, length-take}
use Rattle.std.specs.Str.{bytes_eq}
use Rattle.sh_tree.specs.declared.token.command.Stage.TheVariants.{First}
use Rattle.sh_tree.specs.declared.token.command.Lead.{Lead}
use Rattle.sh_tree.specs.declared.token.command.Lead.TheVariants as lead
use Rattle.sh_tree.specs.declared.token.command.Operator.{Operator}
use Rattle.sh_tree.specs.declared.token.command.Operator.TheVariants as op
use Rattle.sh_tree.specs.declared.token.command.Reserved.{Reserved}
use Rattle.sh_tree.specs.declared.token.command.Reserved.TheVariants as word
use Rattle.sh_tree.specs.declared.refusal.Form.{Form}
use Rattle.sh_tree.specs.declared.refusal.Form.TheVariants as form
use Rattle.sh_tree.specs.standard.language.Bytes.{is_digit, run}
use Rattle.sh_tree.specs.standard.language.Commands.{operator_of, operator_lead, whole_operator, opening, other_lead, lead_of, lead_at, number_lead, word_lead, first_lead, reserved_lead, name_lead, entry_of, reserved_words, left_out_names, bare_word}
use Rattle.sh_tree.proofs.Inversions.{some_one}
use Rattle.sh_grammar.specs.Phrases.{reserved_text}

abbrev reserved_in : Lead → Option Reserved
reserved_in (lead.Reserved r) = Some r
reserved_in _ = None

abbrev Spelled : List (List ℕ × Reserved) → Type 0
Spelled [] = Unit {0}
Spelled (x ∷ xs) = (length x.0 ≡ length (reserved_text x.1)) × Spelled xs

words_spelled : Spelled reserved_words
words_spelled = (refl, (refl, (refl, (refl, (refl, (refl, (refl, (refl, (refl, (refl, (refl, (refl, (refl, (refl, (refl, (refl, tt))))))))))))))))

same_length : (xs ys : List ℕ) → bytes_eq xs ys ≡ true → length xs ≡ length ys
same_length [] [] h = refl
same_length [] (y ∷ ys) h = absurd (true≢false (sym h))
same_length (x ∷ xs) [] h = absurd (true≢false (sym h))
same_length (x ∷ xs) (y ∷ ys) h = let rest = same_length xs ys (go (nat_eq x y) h) in omega arith
  where
    go : (t : Bool) → (t && bytes_eq xs ys) ≡ true → bytes_eq xs ys ≡ true
    go true k = k
    go false k = absurd (true≢false (sym k))

entry_length : (table : List (List ℕ × Reserved)) (w : List ℕ) (r : Reserved) → Spelled table → entry_of table w ≡ Some r → length w ≡ length (reserved_text r)
unfolding entry_of
entry_length [] w r spelled h = cc
entry_length (x ∷ xs) w r spelled h = ⊎_elim
    (λ is.
    let same : x.1 ≡ r = some_one (sym (cond-true _ _ _ is) ∙ h) in
    sym (same_length x.0 w is) ∙ spelled.0 ∙ ap (λ v. length (reserved_text v)) same)
    (λ other. entry_length xs w r spelled.1 (sym (cond-false _ _ _ other) ∙ h))
    (cases_Bool (bytes_eq x.0 w))

none_some : {r : Reserved} {A : Type 0} → None ≡ Some r → A
none_some h = absurd cc

bang_is : (t u : Bool) (s : Reserved) → reserved_in (cond t (lead.LeftOut form.BangParenthesis) (cond u (lead.LeftOut form.Continuation) (lead.Reserved word.Bang))) ≡ Some s → word.Bang ≡ s
bang_is true u s h = none_some h
bang_is false true s h = none_some h
bang_is false false s h = some_one h

reserved_is : (cs : List ℕ) (r s : Reserved) → reserved_in (reserved_lead cs r) ≡ Some s → r ≡ s
unfolding reserved_lead
reserved_is cs word.Bang s h = bang_is _ _ s h
reserved_is cs r s h = some_one h

name_is : (f : Option Form) (s : Reserved) → reserved_in (name_lead f) ≡ Some s → ⊥
unfolding name_lead
name_is (Some f) s h = none_some h
name_is None s h = none_some h

first_is : (b : List ℕ) (i : ℕ) (w : List ℕ) (o : Option Reserved) (s : Reserved) → reserved_in (first_lead b i w o) ≡ Some s → o ≡ Some s
unfolding first_lead
first_is b i w (Some r) s h = ap Some (reserved_is (drop i b) r s h)
first_is b i w None s h = absurd (go _ h)
  where
    go : (t : Bool) → reserved_in (cond t lead.Definition (name_lead (entry_of left_out_names w))) ≡ Some s → ⊥
    go true k = none_some k
    go false k = name_is (entry_of left_out_names w) s k

number_is : (rest : List ℕ) (o : Option (Operator × ℕ)) (s : Reserved) → reserved_in (number_lead rest o) ≡ Some s → ⊥
unfolding number_lead
number_is rest (Some found) s h = go _ h
  where
    go : (t : Bool) → reserved_in (cond t (lead.LeftOut form.Continuation) lead.Number) ≡ Some s → ⊥
    go true k = none_some k
    go false k = none_some k
number_is rest None s h = none_some h

other_is : (b : List ℕ) (i : ℕ) (s : Reserved) → reserved_in (other_lead b First i) ≡ Some s → entry_of reserved_words (bare_word b i) ≡ Some s
unfolding other_lead word_lead
other_is b i s h = go _ _ _ (number_lead (drop (run is_digit (drop i b)) (drop i b)) (operator_of (drop (run is_digit (drop i b)) (drop i b)))) h
    (number_is (drop (run is_digit (drop i b)) (drop i b)) (operator_of (drop (run is_digit (drop i b)) (drop i b))) s)
  where
    go : (t u v : Bool) (l : Lead) → reserved_in (cond t l (cond u (lead.LeftOut form.Continuation) (cond v lead.Assignment (first_lead b i (bare_word b i) (entry_of reserved_words (bare_word b i)))))) ≡ Some s
        → (reserved_in l ≡ Some s → ⊥) → entry_of reserved_words (bare_word b i) ≡ Some s
    go true u v l k none = absurd (none k)
    go false true v l k none = none_some k
    go false false true l k none = none_some k
    go false false false l k none = first_is b i (bare_word b i) (entry_of reserved_words (bare_word b i)) s k

operator_is : (rest : List ℕ) (o : Operator) (s : Reserved) → reserved_in (whole_operator First rest o) ≡ Some s → ⊥
unfolding whole_operator opening
operator_is rest op.LeftParenthesis s h = go _ _ h
  where
    go : (t u : Bool) → reserved_in (cond t (lead.LeftOut form.DoubleParenthesis) (cond u (lead.LeftOut form.Continuation) (lead.Operator op.LeftParenthesis))) ≡ Some s → ⊥
    go true u k = none_some k
    go false true k = none_some k
    go false false k = none_some k
operator_is rest _ s h = none_some h

lead_is : (b : List ℕ) (i : ℕ) (o : Option (Operator × ℕ)) (s : Reserved) → reserved_in (lead_of b First i o) ≡ Some s → entry_of reserved_words (bare_word b i) ≡ Some s
unfolding lead_of operator_lead
lead_is b i (Some found) s h = absurd (go _ h)
  where
    go : (t : Bool) → reserved_in (cond t (lead.LeftOut form.Continuation) (whole_operator First (drop found.1 (drop i b)) found.0)) ≡ Some s → ⊥
    go true k = none_some k
    go false k = operator_is (drop found.1 (drop i b)) found.0 s k
lead_is b i None s h = go _ _ _ _ h
  where
    go : (t u v w : Bool) → reserved_in (cond t lead.End (cond u lead.Newline (cond v (lead.LeftOut form.Continuation) (cond w lead.Backquote (other_lead b First i))))) ≡ Some s
        → entry_of reserved_words (bare_word b i) ≡ Some s
    go true u v w k = none_some k
    go false true v w k = none_some k
    go false false true w k = none_some k
    go false false false true k = none_some k
    go false false false false k = other_is b i s k

bare_within : (b : List ℕ) (i : ℕ) → length (bare_word b i) ≤ length (drop i b)
unfolding bare_word
bare_within b i = go _ _
  where
    go : (t : Bool) (n : ℕ) → length (cond t (take n (drop i b)) []) ≤ length (drop i b)
    go true n = omega (arith, length-take n (drop i b))
    go false n = omega arith

-- a reserved word is in the text
pub reserved_inside : (b : List ℕ) (i : ℕ) (r : Reserved) → lead_at b First i ≡ lead.Reserved r → i ≤ length b → i + length (reserved_text r) ≤ length b
unfolding lead_at
reserved_inside b i r h inside =
    let found = lead_is b i (operator_of (drop i b)) r (ap reserved_in h) in
    let spelled : length (bare_word b i) ≡ length (reserved_text r) = entry_length reserved_words (bare_word b i) r words_spelled found in
    let within = bare_within b i in
    omega (arith, length-drop i b)
