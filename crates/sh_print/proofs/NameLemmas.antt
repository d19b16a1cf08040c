-- The names of assignments, loops and functions in a text.
use Rattle.std.proofs.Common.{◌≡◌, ℕ, ◌+◌, Bool, true, false, not, ◌&&◌, if◌then◌else◌, List, [], ◌∷◌, length, drop, take, Option, Some, None, refl, sym, ap, subst, ◌∙◌}
use Rattle.std.specs.List.{list_all, take_while}
use Rattle.std.proofs.lemmas.Bool.{true≢false, and_parts, cond-true, cond-false}
use Rattle.std.proofs.lemmas.List.Sums.{take_while-cons}
use Rattle.sh_tree.specs.declared.refusal.Form.{Form}
use Rattle.sh_tree.specs.declared.refusal.Form.TheVariants as form
use Rattle.sh_tree.specs.declared.token.command.Lead.{Lead}
use Rattle.sh_tree.specs.declared.token.command.Lead.TheVariants as lead
use Rattle.sh_tree.specs.declared.token.command.Operator.{Operator}
use Rattle.sh_tree.specs.declared.token.command.Operator.TheVariants as op
use Rattle.sh_tree.specs.declared.token.command.Reserved.{Reserved}
use Rattle.sh_tree.specs.declared.token.command.Stage.{Stage}
use Rattle.sh_tree.specs.declared.token.command.Stage.TheVariants.{First, Prefixed, Named}
use Rattle.sh_tree.specs.standard.Tree.{text_of}
use Rattle.sh_tree.specs.standard.language.Bytes.{is_digit, is_first, is_name, is_name_byte, is_name_start, name_length, run}
use Rattle.sh_tree.specs.standard.language.Words.{ends_joined}
use Rattle.sh_tree.specs.standard.language.Commands.{bare_word, blanks, entry_of, first_lead, is_assignment, is_bare, is_bare_name, is_definition, is_named, is_parenthesis, lead_at, lead_of, left_out_names, name_end, name_lead, number_lead, opening, operator_lead, operator_of, other_lead, reserved_words, whole_operator, word_lead}
use Rattle.sh_tree.specs.standard.language.Trees.{span}
use Rattle.sh_copies.proofs.Declaring.{name_bare}
use Rattle.sh_reads.proofs.BeginningLemmas.{assignment_begins, bare_begins, is_defining, reserved_other, name_other}
use Rattle.sh_reads.proofs.FrontLemmas.{front_whole, name_run, name_stands, run_taken, run_within, stands_at, stands_text}

-- Leads

-- if neither of two leads passes, the chosen one does not
neither : (f : Lead → Bool) (t : Bool) (x y : Lead) → f x ≡ false → f y ≡ false → f (if t then x else y) ≡ false
neither f true x y h k = h
neither f false x y h k = k

-- if the first lead does not pass and the chosen one does, the other does
other : (f : Lead → Bool) (t : Bool) (x y : Lead) → f x ≡ false → f (if t then x else y) ≡ true → f y ≡ true
other f true x y h k = absurd (true≢false (sym k ∙ h))
other f false x y h k = k

-- a lead of a token that begins with a name
record IsOfName (f : Lead → Bool) : Type 0 where
  operator : (o : Operator) → f (lead.Operator o) ≡ false
  left_out : (x : Form) → f (lead.LeftOut x) ≡ false
  end : f lead.End ≡ false
  newline : f lead.Newline ≡ false
  backquote : f lead.Backquote ≡ false
  number : f lead.Number ≡ false

whole_other : {f : Lead → Bool} → IsOfName f → (g : Stage) (rest : List ℕ) (o : Operator) → f (whole_operator g rest o) ≡ false
unfolding whole_operator opening
whole_other {f} k First rest op.LeftParenthesis =
    neither f _ (lead.LeftOut form.DoubleParenthesis) _ (k.left_out form.DoubleParenthesis)
    (neither f _ (lead.LeftOut form.Continuation) (lead.Operator op.LeftParenthesis) (k.left_out form.Continuation) (k.operator op.LeftParenthesis))
whole_other k g rest o = k.operator o

number_other : {f : Lead → Bool} → IsOfName f → (rest : List ℕ) (o : Option (Operator × ℕ)) → f (number_lead rest o) ≡ false
unfolding number_lead
number_other {f} k rest (Some found) = neither f _ (lead.LeftOut form.Continuation) lead.Number (k.left_out form.Continuation) k.number
number_other k rest None = k.number

-- it is an assignment, or its word decides
of_name : {f : Lead → Bool} → IsOfName f → (b : List ℕ) (g : Stage) (i : ℕ) → f (lead_at b g i) ≡ true
    → f (if not (is_named g) && is_assignment (drop i b) then lead.Assignment else word_lead b g i (bare_word b i)) ≡ true
unfolding lead_at lead_of operator_lead other_lead
of_name {f} k b g i h = go (operator_of (drop i b)) h
  where
    go : (o : Option (Operator × ℕ)) → f (lead_of b g i o) ≡ true → f (if not (is_named g) && is_assignment (drop i b) then lead.Assignment else word_lead b g i (bare_word b i)) ≡ true
    go (Some found) e = absurd (true≢false (sym e ∙ neither f _ (lead.LeftOut form.Continuation) _ (k.left_out form.Continuation) (whole_other k g (drop found.1 (drop i b)) found.0)))
    go None e =
        let digits = run is_digit (drop i b) in
        let text = other f _ lead.Backquote _ k.backquote (other f _ (lead.LeftOut form.Continuation) _ (k.left_out form.Continuation) (other f _ lead.Newline _ k.newline (other f _ lead.End _ k.end e))) in
        other f _ (lead.LeftOut form.Continuation) _ (k.left_out form.Continuation) (other f _ (number_lead (drop digits (drop i b)) (operator_of (drop digits (drop i b)))) _ (number_other k _ _) text)

abbrev is_assigned : Lead → Bool
is_assigned lead.Assignment = true
is_assigned _ = false

assigned_of_name : IsOfName is_assigned
assigned_of_name = record { operator = λ o. refl; left_out = λ x. refl; end = refl; newline = refl; backquote = refl; number = refl }

-- after a command name nothing is an assignment
pub not_named : (b : List ℕ) (g : Stage) (i : ℕ) → lead_at b g i ≡ lead.Assignment → is_named g ≡ false
unfolding word_lead
not_named b First i is = refl
not_named b Prefixed i is = refl
not_named b (Named d) i is = absurd (true≢false (sym (of_name assigned_of_name b (Named d) i (ap is_assigned is))))

defining_of_name : IsOfName is_defining
defining_of_name = record { operator = λ o. refl; left_out = λ x. refl; end = refl; newline = refl; backquote = refl; number = refl }

first_defines : (b : List ℕ) (i : ℕ) (w : List ℕ) (r : Option Reserved) → is_defining (first_lead b i w r) ≡ true → (is_name w ≡ true) × (r ≡ None)
unfolding first_lead is_definition
first_defines b i w (Some r) h = absurd (true≢false (sym h ∙ reserved_other (drop i b) r))
first_defines b i w None h = (go (is_name w) (is_first is_parenthesis (drop (blanks false b (i + length w)) b)) (name_lead (entry_of left_out_names w)) h (name_other (entry_of left_out_names w)), refl)
  where
    go : (t u : Bool) (l : Lead) → is_defining (if t && u then lead.Definition else l) ≡ true → is_defining l ≡ false → t ≡ true
    go true u l k n = refl
    go false u l k n = absurd (true≢false (sym k ∙ n))

-- Names

-- two runs end together, if the shorter one's class holds of the longer run
runs_meet : (p q : ℕ → Bool) → ((c : ℕ) → q c ≡ true → p c ≡ true) → (cs : List ℕ) → list_all q (take_while p cs) ≡ true → take_while q cs ≡ take_while p cs
runs_meet p q within [] h = refl
runs_meet p q within (c ∷ cs) h = go (p c) (q c) refl refl (runs_meet p q within cs)
  where
    go : (t u : Bool) → p c ≡ t → q c ≡ u → (list_all q (take_while p cs) ≡ true → take_while q cs ≡ take_while p cs) → take_while q (c ∷ cs) ≡ take_while p (c ∷ cs)
    go true u is also more =
        let long : take_while p (c ∷ cs) ≡ c ∷ take_while p cs = take_while-cons p c cs ∙ cond-true _ _ _ is in
        let both = and_parts (q c) (list_all q (take_while p cs)) (ap (list_all q) (sym long) ∙ h) in
        take_while-cons q c cs ∙ cond-true _ _ _ both.0 ∙ ap (λ xs. c ∷ xs) (more both.1) ∙ sym long
    go false true is also more = absurd (true≢false (sym (within c also) ∙ is))
    go false false is also more = take_while-cons q c cs ∙ cond-false _ _ _ also ∙ sym (take_while-cons p c cs ∙ cond-false _ _ _ is)

-- the name at i is the unquoted word there
pub bare_name_text : (b : List ℕ) (i : ℕ) → is_name (bare_word b i) ≡ true → text_of b (span i (name_end b i)) ≡ bare_word b i
unfolding bare_word name_end is_first
bare_name_text b i h =
    let cs = drop i b in
    let first : is_first is_name_start cs ≡ true = bare_begins b i h in
    let text : text_of b (span i (i + name_length cs)) ≡ take_while is_name_byte cs =
    ap (λ n. text_of b (span i (i + n))) (name_run cs first) ∙ stands_text b i (run is_name_byte cs) cs (stands_at b b i (front_whole b)) (run_within is_name_byte cs) ∙ run_taken is_name_byte cs in
    text ∙ go (ends_joined (drop (run is_bare cs) cs)) cs h
  where
    go : (t : Bool) (cs : List ℕ) → is_name (if t then take (run is_bare cs) cs else []) ≡ true → take_while is_name_byte cs ≡ (if t then take (run is_bare cs) cs else [])
    go true cs k =
        let whole = run_taken is_bare cs in
        let all = and_parts _ _ k in
        runs_meet is_bare is_name_byte name_bare cs (ap (list_all is_name_byte) (sym whole) ∙ all.1) ∙ sym whole
    go false cs k = absurd (true≢false (sym k))

pub name_read : (b : List ℕ) (i : ℕ) → is_bare_name b i ≡ true → is_name (text_of b (span i (name_end b i))) ≡ true
unfolding is_bare_name name_end
name_read b i h = name_stands b i (drop i b) (stands_at b b i (front_whole b)) (bare_begins b i h)

pub assigned_name : (b : List ℕ) (g : Stage) (i : ℕ) → lead_at b g i ≡ lead.Assignment → is_name (text_of b (span i (name_end b i))) ≡ true
unfolding name_end
assigned_name b g i h = name_stands b i (drop i b) (stands_at b b i (front_whole b)) (assignment_begins b g i h)

pub defined_name : (b : List ℕ) (i : ℕ) → lead_at b First i ≡ lead.Definition
    → (is_name (text_of b (span i (name_end b i))) ≡ true) × (entry_of reserved_words (text_of b (span i (name_end b i))) ≡ None)
unfolding word_lead
defined_name b i h =
    let w = bare_word b i in
    let defines : is_defining (first_lead b i w (entry_of reserved_words w)) ≡ true = other is_defining _ lead.Assignment _ refl (of_name defining_of_name b First i (ap is_defining h)) in
    let found = first_defines b i w (entry_of reserved_words w) defines in
    let text = bare_name_text b i found.0 in
    (subst (λ t. is_name t ≡ true) (sym text) found.0, subst (λ t. entry_of reserved_words t ≡ None) (sym text) found.1)
