-- What begins a word takes bytes, and what begins an assignment is a name and `=`.
use Rattle.std.proofs.Common.{◌≡◌, ℕ, zero, suc, ◌+◌, ◌<◌, ◌==◌, Bool, true, false, not, ◌&&◌, ◌||◌, List, [], ◌∷◌, length, take, drop, codes, nat_le, cond, Option, Some, None, refl, sym, ap, subst, ◌∙◌, arith, length-drop}
use Rattle.std.specs.Prelude.{is_some}
use Rattle.std.specs.List.{list_any}
use Rattle.std.proofs.lemmas.Bool.{true≢false, false_from_ne_true, or_from, and_right, and_parts, eqb-true}
use Rattle.std.proofs.lemmas.Bool.Decides.{nat_tests}
use Rattle.sh_tree.specs.declared.tree.Subject.{Subject}
use Rattle.sh_tree.specs.declared.tree.Special.{Special as SpecialParameter}
use Rattle.sh_tree.specs.declared.tree.Action.{Action}
use Rattle.sh_tree.specs.declared.refusal.Form.{Form}
use Rattle.sh_tree.specs.declared.refusal.Form.TheVariants as form
use Rattle.sh_tree.specs.declared.token.word.Site.{Site}
use Rattle.sh_tree.specs.declared.token.word.Site.TheVariants as site
use Rattle.sh_tree.specs.declared.token.word.Context.{Context}
use Rattle.sh_tree.specs.declared.token.word.Sign.{Sign}
use Rattle.sh_tree.specs.declared.token.word.Sign.TheVariants as sign
use Rattle.sh_tree.specs.declared.token.command.Operator.{Operator}
use Rattle.sh_tree.specs.declared.token.command.Operator.TheVariants as op
use Rattle.sh_tree.specs.declared.token.command.Reserved.{Reserved}
use Rattle.sh_tree.specs.declared.token.command.Reserved.TheVariants as word
use Rattle.sh_tree.specs.declared.token.command.Stage.{Stage}
use Rattle.sh_tree.specs.declared.token.command.Stage.TheVariants.{First, Prefixed, Named}
use Rattle.sh_tree.specs.declared.token.command.Lead.{Lead}
use Rattle.sh_tree.specs.declared.token.command.Lead.TheVariants as lead
use Rattle.sh_tree.specs.standard.language.Bytes.{is_blank, is_newline, is_backslash, is_operator_byte, is_digit, is_name_start, is_name_byte, is_name, ends_token, run, is_first, is_last_backquote, name_length, longest}
use Rattle.sh_tree.specs.standard.language.Words as words
use Rattle.sh_tree.specs.standard.language.Words.{ends_joined}
use Rattle.sh_tree.specs.standard.language.Commands.{gap_length, blanks, operator_of, operator_lead, whole_operator, opening, reserved_lead, first_lead, name_lead, word_lead, number_lead, other_lead, lead_of, lead_at, is_assignment, name_end, is_bare, bare_word, is_definition, is_parenthesis, entry_of, reserved_words, left_out_names}
use Rattle.sh_tree.specs.standard.language.Contexts.{in_word, in_value, in_operand, in_stage}
use Rattle.sh_tree.proofs.FirstLemmas.{first_some}

-- Tests

-- what both branches keep, the test keeps
either : {A B : Type 0} (f : A → B) (v : B) (t : Bool) (p q : A) → f p ≡ v → f q ≡ v → f (cond t p q) ≡ v
either f v true p q h k = h
either f v false p q h k = k

-- only the last of five passes
only_last : {A : Type 0} (f : A → Bool) (s t u v : Bool) (w x y q z : A) → f w ≡ false → f x ≡ false → f y ≡ false → f q ≡ false → f (cond s w (cond t x (cond u y (cond v q z)))) ≡ true
    → (s ≡ false) × (t ≡ false) × (v ≡ false) × (cond s w (cond t x (cond u y (cond v q z))) ≡ z)
only_last f true t u v w x y q z i j k l h = absurd (true≢false (sym h ∙ i))
only_last f false true u v w x y q z i j k l h = absurd (true≢false (sym h ∙ j))
only_last f false false true v w x y q z i j k l h = absurd (true≢false (sym h ∙ k))
only_last f false false false true w x y q z i j k l h = absurd (true≢false (sym h ∙ l))
only_last f false false false false w x y q z i j k l h = (refl, refl, refl, refl)

-- Signs from which no byte of a word comes: its end, tabs that are no part of it, a line
-- continuation, and none of plain bytes

abbrev pub takes_none : Sign → ℕ → Bool
takes_none sign.Stop n = true
takes_none sign.Tabs n = true
takes_none sign.Joined n = true
takes_none sign.Plain n = n == 0
takes_none _ n = false

abbrev pub ends : Sign × ℕ → Bool
ends found = takes_none found.0 found.1

-- what a `$` or a quote begins does not
misfit_goes : (k : ℕ) (rest : List ℕ) → ends (words.misfit k rest) ≡ false
unfolding words.misfit
misfit_goes k rest = grind (arith, nat_tests)

pattern_removal_goes : (p : Subject) (k : ℕ) (rest : List ℕ) → ends (words.pattern_removal p k rest) ≡ false
unfolding words.pattern_removal
pattern_removal_goes p k [] = misfit_goes k []
pattern_removal_goes p k (c ∷ rest) = grind (arith, nat_tests, misfit_goes k (c ∷ rest))

action_by_goes : (colon : Bool) (p : Subject) (k : ℕ) (rest : List ℕ) (a : Option Action) → ends (words.action_by colon p k rest a) ≡ false
action_by_goes colon p k rest (Some a) = refl
action_by_goes colon p k rest None = grind (arith, nat_tests, misfit_goes k rest, pattern_removal_goes p k rest)

parameter_action_goes : (colon : Bool) (p : Subject) (k : ℕ) (rest : List ℕ) → ends (words.parameter_action colon p k rest) ≡ false
unfolding words.parameter_action
parameter_action_goes colon p k [] = misfit_goes k []
parameter_action_goes colon p k (c ∷ rest) = action_by_goes colon p k (c ∷ rest) (words.action_of c)

parameter_operator_goes : (p : Subject) (k : ℕ) (rest : List ℕ) → ends (words.parameter_operator p k rest) ≡ false
unfolding words.parameter_operator
parameter_operator_goes p k rest = grind (arith, nat_tests, parameter_action_goes true p (k + 1) (drop 1 rest), parameter_action_goes false p k rest)

counted_goes : (rest : List ℕ) (p : Option (Subject × ℕ)) → ends (words.length_by rest p) ≡ false
counted_goes rest (Some p) = grind (arith, nat_tests, misfit_goes (p.1 + 3) (drop p.1 rest))
counted_goes rest None = misfit_goes 3 rest

specially_goes : (i : ℕ) (rest : List ℕ) (p : Option SpecialParameter) → ends (words.specially i rest p) ≡ false
specially_goes i rest (Some p) = grind (arith, nat_tests, misfit_goes 3 (drop 1 rest))
specially_goes i rest None = misfit_goes 2 rest

special_or_length_goes : (i : ℕ) (rest : List ℕ) → ends (words.special_or_length i rest) ≡ false
unfolding words.special_or_length words.parameter_length
special_or_length_goes i [] = misfit_goes 2 []
special_or_length_goes i (c ∷ rest) = grind (arith, nat_tests, counted_goes rest (words.parameter (i + 3) rest), specially_goes (i + 2) (c ∷ rest) (words.special_of c))

braced_expansion_goes : (i : ℕ) (cs : List ℕ) (p : Option (Subject × ℕ)) → ends (words.braced_expansion_by i cs p) ≡ false
braced_expansion_goes i cs (Some p) = parameter_operator_goes p.0 (p.1 + 2) (drop p.1 cs)
braced_expansion_goes i cs None = special_or_length_goes i cs

-- what `$'` begins does not
told_goes : (n : ℕ) (found : Sign × ℕ) → ends found ≡ false → ends (words.told_or n found) ≡ false
told_goes n (sign.Single s, m) h = refl
told_goes n (sign.LeftOut f, m) h = refl
told_goes n found h = h

dollar_quoted_goes : (cs : List ℕ) → ends (words.dollar_quoted cs) ≡ false
unfolding words.dollar_quoted
dollar_quoted_goes [] = refl
dollar_quoted_goes (c ∷ []) = either ends false (c == 39) _ _ refl refl
dollar_quoted_goes (c ∷ d ∷ cs) =
    either ends false (c == 39) _ _ refl
    (either ends false (c == 92) _ _ (either ends false (words.is_dollar_escape d) _ _ (told_goes 2 (words.dollar_quoted cs) (dollar_quoted_goes cs)) refl)
    (told_goes 1 (words.dollar_quoted (d ∷ cs)) (dollar_quoted_goes (d ∷ cs))))

dollar_expansion_goes : (i : ℕ) (cs : List ℕ) → ends (words.dollar_expansion i cs) ≡ false
unfolding words.dollar_expansion words.named_value words.braced_expansion words.parenthesis words.single_parameter
dollar_expansion_goes i [] = refl
dollar_expansion_goes i (c ∷ rest) = grind (arith, nat_tests, braced_expansion_goes i rest (words.parameter (i + 2) rest), told_goes 2 (words.dollar_quoted rest) (dollar_quoted_goes rest))

pub dollar_goes : (x : Context) (i : ℕ) (cs : List ℕ) → ends (words.dollar x i cs) ≡ false
unfolding words.dollar
dollar_goes x i cs = grind (arith, nat_tests, dollar_expansion_goes i cs)

pub single_goes : (cs : List ℕ) → ends (words.single cs) ≡ false
unfolding words.single
single_goes cs = grind (arith, nat_tests)

-- a backslash ends a word only before a newline
backslash_ends : (x : Context) (cs : List ℕ) → ends (words.backslash x cs) ≡ true → is_first is_newline cs ≡ true
unfolding words.backslash is_first
backslash_ends x [] h = absurd (true≢false (sym h))
backslash_ends x (c ∷ rest) h = grind (arith, nat_tests)

-- a backquote ends a word only if it ends the text
backquoted_ends : (x : Context) (c : ℕ) (cs : List ℕ) → (c == 96) ≡ true → ends (words.backquoted x cs) ≡ true → is_last_backquote (c ∷ cs) ≡ true
unfolding words.backquoted is_last_backquote
backquoted_ends x c [] is h = is
backquoted_ends x c (d ∷ cs) is h = grind (arith, nat_tests)

-- what is not literal ends a word only if it is such a backslash, or a backquote that ends the text
meant_ends : (x : Context) (i c : ℕ) (cs : List ℕ) → ends (words.meant_by x i c cs) ≡ true → ((is_backslash c && is_first is_newline cs) || is_last_backquote (c ∷ cs)) ≡ true
unfolding words.meant_by
meant_ends x i c cs h = grind (arith, nat_tests, backslash_ends x cs, single_goes cs, dollar_goes x i cs, backquoted_ends x c cs)

not_stripped : (x : Context) (c : ℕ) → words.is_stripped x 0 c ≡ false
not_stripped x c = go x.strip
  where
    go : (t : Bool) → (t && 0 == 10 && c == 9) ≡ false
    go true = refl
    go false = refl

pub stands_some : (x : Context) (p i c : ℕ) (cs : List ℕ) → words.stands x p i c cs ≡ true → ends (sign.Plain, words.plain_length x p i (c ∷ cs)) ≡ false
unfolding words.plain_length
stands_some x p i c cs h = rw h grind (arith, nat_tests)

-- a word ends at its first byte only where that delimits tokens or is such a backslash
pub sign_ends : (x : Context) (i c : ℕ) (cs : List ℕ) → x.site ≡ site.Word → ends (words.sign_by x 0 i c cs) ≡ true
    → (ends_token c || ((is_backslash c && is_first is_newline cs) || is_last_backquote (c ∷ cs))) ≡ true
unfolding words.sign_by
sign_ends x i c cs word h =
    let stops : words.stops x.site c ≡ ends_token c = ap (λ s. words.stops s c) word in
    grind (arith, nat_tests, not_stripped x c, stands_some x 0 i c cs, meant_ends x i c cs)

-- Where blanks end

zero_not : (t : Bool) (n m : ℕ) → 0 < n → cond t n m ≡ 0 → (t ≡ false) × (m ≡ 0)
zero_not true n m some h = absurd (omega arith)
zero_not false n m some h = (refl, h)

-- where there is no gap, neither a blank nor a line continuation begins it
no_gap : (c : ℕ) (cs : List ℕ) → gap_length (c ∷ cs) ≡ 0 → (is_blank c ≡ false) × ((is_backslash c && is_first is_newline cs) ≡ false)
unfolding gap_length is_first
no_gap c [] h = ((zero_not (is_blank c) 1 0 (omega arith) h).0, and_right (is_backslash c) false refl)
no_gap c (d ∷ cs) h =
    let blank = zero_not (is_blank c) (1 + gap_length (d ∷ cs)) (cond (is_backslash c && is_newline d) (2 + gap_length cs) 0) (omega arith) h in
    (blank.0, (zero_not (is_backslash c && is_newline d) (2 + gap_length cs) 0 (omega arith) blank.1).0)

-- Operators

abbrev Each : (ℕ → Type 0) → List ℕ → Type 0
Each P [] = Unit {0}
Each P (d ∷ ds) = P d × Each P ds

-- what holds of each byte of a list holds of one that is in it
among : (P : ℕ → Type 0) (c : ℕ) (ds : List ℕ) → list_any (λ d. d == c) ds ≡ true → Each P ds → P c
among P c [] h each = absurd (true≢false (sym h))
among P c (d ∷ ds) h each = go (d == c) refl h (λ k. among P c ds k each.1)
  where
    go : (t : Bool) → (d == c) ≡ t → (t || list_any (λ e. e == c) ds) ≡ true → (list_any (λ e. e == c) ds ≡ true → P c) → P c
    go true is k rest = subst P (eqb-true d c is) each.0
    go false is k rest = rest k

abbrev is_found : Option (Operator × ℕ) → Bool
is_found o = is_some o

-- an operator begins with each byte of operators
operator_begins : (c : ℕ) (cs : List ℕ) → is_operator_byte c ≡ true → is_found (operator_of (c ∷ cs)) ≡ true
unfolding operator_of longest
operator_begins c cs h =
    let bar : is_found (operator_of (124 ∷ cs)) ≡ true = grind (arith, nat_tests) in
    let and : is_found (operator_of (38 ∷ cs)) ≡ true = grind (arith, nat_tests) in
    let semicolon : is_found (operator_of (59 ∷ cs)) ≡ true = grind (arith, nat_tests) in
    let less : is_found (operator_of (60 ∷ cs)) ≡ true = grind (arith, nat_tests) in
    let greater : is_found (operator_of (62 ∷ cs)) ≡ true = grind (arith, nat_tests) in
    among (λ d. is_found (operator_of (d ∷ cs)) ≡ true) c (codes "|&;<>()") h (bar, (and, (semicolon, (less, (greater, (refl, (refl, tt)))))))

-- Leads

abbrev is_element : Lead → Bool
is_element lead.Word = true
is_element lead.Assignment = true
is_element lead.Definition = true
is_element _ = false

whole_none : (s : Stage) (rest : List ℕ) (o : Operator) → is_element (whole_operator s rest o) ≡ false
unfolding whole_operator opening
whole_none First rest op.LeftParenthesis = grind (arith, nat_tests)
whole_none s rest o = refl

operator_none : (s : Stage) (cs : List ℕ) (o : Operator) (n : ℕ) → is_element (operator_lead s cs o n) ≡ false
unfolding operator_lead
operator_none s cs o n = grind (arith, nat_tests, whole_none s (drop n cs) o)

-- a token that is a word or an assignment
record Begins (b : List ℕ) (s : Stage) (i : ℕ) (o : Option (Operator × ℕ)) : Type 0 where
  no_operator : o ≡ None
  inside : i < length b
  no_newline : is_first is_newline (drop i b) ≡ false
  no_backquote : is_last_backquote (drop i b) ≡ false
  other : lead_of b s i o ≡ other_lead b s i

begins : (b : List ℕ) (s : Stage) (i : ℕ) (o : Option (Operator × ℕ)) → is_element (lead_of b s i o) ≡ true → Begins b s i o
unfolding lead_of
begins b s i (Some found) h = absurd (true≢false (sym h ∙ operator_none s (drop i b) found.0 found.1))
begins b s i None h =
    let t = nat_le (length b) i in
    let line = is_first is_newline (drop i b) in
    let comment = is_first (λ c. c == 35) (drop i b) in
    let last = is_last_backquote (drop i b) in
    let f = only_last is_element t line comment last lead.End lead.Newline (lead.LeftOut form.Continuation) lead.Backquote (other_lead b s i) refl refl refl refl h in
    let below : nat_le (length b) i ≡ false = f.0 in
    record { no_operator = refl; inside = grind (arith, nat_tests); no_newline = f.1; no_backquote = f.2; other = f.3 }

-- a word does not end where it begins
never : (x : Context) (i : ℕ) (cs : List ℕ) → x.site ≡ site.Word → 0 < length cs → gap_length cs ≡ 0 → operator_of cs ≡ None → is_first is_newline cs ≡ false → is_last_backquote cs ≡ false
    → ends (words.sign_of x 0 i cs) ≡ true → ⊥
unfolding words.sign_of is_first
never x i [] word some gap none line last stop = omega arith
never x i (c ∷ cs) word some gap none line last stop =
    let free = no_gap c cs gap in
    let operator : is_operator_byte c ≡ false = false_from_ne_true (is_operator_byte c) (λ h. true≢false (sym (operator_begins c cs h) ∙ ap is_found none)) in
    true≢false (sym (sign_ends x i c cs word stop) ∙ or_from _ _ (or_from _ _ (or_from _ _ free.0 line) operator) (or_from _ _ free.1 last))

stage_site : (b : List ℕ) (s : Stage) (i : ℕ) → (in_stage b s i).site ≡ site.Word
unfolding in_stage in_operand
stage_site b (Named d) i =
    let site_of : Context → Site = λ x. x.site in
    let operand = either site_of site.Word (is_assignment (drop i b)) (in_value (name_end b i + 1)) (in_word i) refl refl in
    either site_of site.Word d (in_operand b i) (in_word i) operand refl
stage_site b _ i = refl

-- where a word begins, a byte of it comes
pub word_takes : (b : List ℕ) (s : Stage) (i : ℕ) → lead_at b s i ≡ lead.Word → gap_length (drop i b) ≡ 0
    → (i < length b) × (ends (words.sign_of (in_stage b s i) 0 i (drop i b)) ≡ false)
unfolding lead_at
word_takes b s i is settled =
    let at = begins b s i (operator_of (drop i b)) (ap is_element is) in
    let some : 0 < length (drop i b) = (let inside = at.inside in omega (arith, length-drop i b)) in (
      at.inside,
      false_from_ne_true (ends (words.sign_of (in_stage b s i) 0 i (drop i b)))
          (never (in_stage b s i) i (drop i b) (stage_site b s i) some settled at.no_operator at.no_newline at.no_backquote),
    )

pub word_goes : (b : List ℕ) (s : Stage) (i : ℕ) → lead_at b s i ≡ lead.Word → gap_length (drop i b) ≡ 0 → (words.token b (in_stage b s i) 0 i).sign ≡ sign.Stop → ⊥
unfolding words.token
word_goes b s i is settled stop = true≢false (sym (ap (λ g. takes_none g (words.sign_of (in_stage b s i) 0 i (drop i b)).1) stop) ∙ (word_takes b s i is settled).1)

-- Assignments

abbrev is_assigned : Lead → Bool
is_assigned lead.Assignment = true
is_assigned _ = false

reserved_none : (cs : List ℕ) (r : Reserved) → is_assigned (reserved_lead cs r) ≡ false
unfolding reserved_lead
reserved_none cs word.Bang = grind (arith, nat_tests)
reserved_none cs r = refl

name_none : (f : Option Form) → is_assigned (name_lead f) ≡ false
unfolding name_lead
name_none (Some f) = refl
name_none None = refl

first_none : (b : List ℕ) (i : ℕ) (w : List ℕ) (r : Option Reserved) → is_assigned (first_lead b i w r) ≡ false
unfolding first_lead
first_none b i w (Some r) = reserved_none (drop i b) r
first_none b i w None = grind (arith, nat_tests, name_none (entry_of left_out_names w))

word_none : (b : List ℕ) (s : Stage) (i : ℕ) (w : List ℕ) → is_assigned (word_lead b s i w) ≡ false
unfolding word_lead
word_none b First i w = first_none b i w (entry_of reserved_words w)
word_none b Prefixed i w = name_none (entry_of left_out_names w)
word_none b (Named d) i w = refl

number_none : (rest : List ℕ) (o : Option (Operator × ℕ)) → is_assigned (number_lead rest o) ≡ false
unfolding number_lead
number_none rest (Some found) = grind (arith, nat_tests)
number_none rest None = refl

assigned_is : (b : List ℕ) (s : Stage) (i : ℕ) → is_assigned (other_lead b s i) ≡ true → is_assignment (drop i b) ≡ true
unfolding other_lead
assigned_is b s i h =
    let digits = run is_digit (drop i b) in
    let rest = drop digits (drop i b) in
    grind (arith, nat_tests, number_none rest (operator_of rest), word_none b s i (bare_word b i))

-- the name of an assignment ends before its `=`
pub name_within : (b : List ℕ) (s : Stage) (i : ℕ) → lead.Assignment ≡ lead_at b s i → name_end b i < length b
unfolding lead_at is_assignment name_end
name_within b s i is =
    let at = begins b s i (operator_of (drop i b)) (ap is_element (sym is)) in
    let cs = drop i b in
    let n = name_length cs in
    let assigned : (not (n == 0) && is_first (λ c. c == 61) (drop n cs)) ≡ true = assigned_is b s i (ap is_assigned (sym at.other ∙ sym is)) in
    let equals : 0 < length (drop n cs) = first_some (λ c. c == 61) (drop n cs) (and_parts (not (n == 0)) (is_first (λ c. c == 61) (drop n cs)) assigned).1 in
    omega (arith, length-drop n cs, length-drop i b)

-- Where a name begins

first_taken : (p : ℕ → Bool) (n : ℕ) (cs : List ℕ) → is_first p (take n cs) ≡ true → is_first p cs ≡ true
unfolding is_first
first_taken p zero cs h = absurd (true≢false (sym h))
first_taken p (suc n) [] h = h
first_taken p (suc n) (c ∷ cs) h = h

pub bare_begins : (b : List ℕ) (i : ℕ) → is_name (bare_word b i) ≡ true → is_first is_name_start (drop i b) ≡ true
unfolding bare_word is_first
bare_begins b i h =
    let n = run is_bare (drop i b) in
    go (ends_joined (drop n (drop i b))) n (drop i b) h
  where
    go : (t : Bool) (n : ℕ) (cs : List ℕ) → is_name (cond t (take n cs) []) ≡ true → is_first is_name_start cs ≡ true
    go true n cs h = first_taken is_name_start n cs (and_parts _ _ h).0
    go false n cs h = absurd (true≢false (sym h))

pub assignment_begins : (b : List ℕ) (s : Stage) (i : ℕ) → lead_at b s i ≡ lead.Assignment → is_first is_name_start (drop i b) ≡ true
unfolding lead_at is_assignment name_length
assignment_begins b s i is =
    let at = begins b s i (operator_of (drop i b)) (ap is_element is) in
    let assigned = assigned_is b s i (ap is_assigned (sym at.other ∙ is)) in
    go (is_first is_name_start (drop i b)) (run is_name_byte (drop i b)) (and_parts _ _ assigned).0
  where
    go : (t : Bool) (n : ℕ) → not (cond t n 0 == 0) ≡ true → t ≡ true
    go true n h = refl
    go false n h = absurd (true≢false (sym h))

abbrev pub is_defining : Lead → Bool
is_defining lead.Definition = true
is_defining _ = false

pub reserved_other : (cs : List ℕ) (r : Reserved) → is_defining (reserved_lead cs r) ≡ false
unfolding reserved_lead
reserved_other cs word.Bang = grind (arith, nat_tests)
reserved_other cs r = refl

pub name_other : (f : Option Form) → is_defining (name_lead f) ≡ false
unfolding name_lead
name_other (Some f) = refl
name_other None = refl

number_other : (rest : List ℕ) (o : Option (Operator × ℕ)) → is_defining (number_lead rest o) ≡ false
unfolding number_lead
number_other rest (Some found) = grind (arith, nat_tests)
number_other rest None = refl

first_defines : (b : List ℕ) (i : ℕ) (w : List ℕ) (r : Option Reserved) → is_defining (first_lead b i w r) ≡ true → is_name w ≡ true
unfolding first_lead is_definition
first_defines b i w (Some r) h = absurd (true≢false (sym h ∙ reserved_other (drop i b) r))
first_defines b i w None h = go (is_name w) (is_first is_parenthesis (drop (blanks false b (i + length w)) b)) (name_lead (entry_of left_out_names w)) h (name_other (entry_of left_out_names w))
  where
    go : (t u : Bool) (l : Lead) → is_defining (cond (t && u) lead.Definition l) ≡ true → is_defining l ≡ false → t ≡ true
    go true u l h k = refl
    go false u l h k = absurd (true≢false (sym h ∙ k))

pub definition_begins : (b : List ℕ) (i : ℕ) → lead_at b First i ≡ lead.Definition → is_first is_name_start (drop i b) ≡ true
unfolding lead_at other_lead word_lead
definition_begins b i is =
    let at = begins b First i (operator_of (drop i b)) (ap is_element is) in
    let digits = run is_digit (drop i b) in
    let rest = drop digits (drop i b) in
    let other : is_defining (other_lead b First i) ≡ true = ap is_defining (sym at.other ∙ is) in
    let named : is_name (bare_word b i) ≡ true = grind (arith, nat_tests, number_other rest (operator_of rest), first_defines b i (bare_word b i) (entry_of reserved_words (bare_word b i))) in
    bare_begins b i named
