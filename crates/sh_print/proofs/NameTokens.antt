-- The leads of names: of an assignment, of a function and of the loop `for`.
use Rattle.std.proofs.Common.{◌≡◌, ℕ, suc, ◌+◌, ◌==◌, true, false, not, ◌&&◌, None, List, [], ◌∷◌, ◌++◌, length, drop, if◌then◌else◌, refl, sym, ap, ◌∙◌, arith}
use Rattle.std.proofs.Math.Bool.{and-false}
use Rattle.std.specs.List.{list_all}
use Rattle.std.proofs.lemmas.Bool.{cond-true, cond-false, true≢false, and_parts}
use Rattle.std.proofs.lemmas.Bool.Decides.{nat_tests}
use Rattle.std.proofs.lemmas.List.{drop_at}
use Rattle.sh_copies.proofs.AlikeBytes.{run_no}
use Rattle.sh_copies.proofs.CopiedTokens.{all_weaker}
use Rattle.sh_copies.proofs.Declaring.{name_bare}
use Rattle.sh_copies.proofs.CopiedLeads.{no_operator, lead_inside}
use Rattle.sh_tree.specs.declared.refusal.Form.TheVariants as form
use Rattle.sh_tree.specs.declared.token.command.Lead.TheVariants as lead
use Rattle.sh_tree.specs.declared.token.command.Stage.{Stage}
use Rattle.sh_tree.specs.declared.token.command.Stage.TheVariants.{First}
use Rattle.sh_tree.specs.standard.language.Bytes.{is_blank, is_newline, is_backslash, is_digit, is_operator_byte, is_name_start, is_name_byte, is_name, ends_token, run, is_first, behind_joined, name_length, is_last_backquote}
use Rattle.sh_tree.specs.standard.language.Commands.{operator_of, lead_at, other_lead, word_lead, first_lead, bare_word, is_bare, is_definition, blanks, entry_of, reserved_words, is_assignment, is_parenthesis, is_named, is_angle, number_lead, name_end, is_bare_name}
use Rattle.sh_print.proofs.PlaceLemmas.{front, front_none, fronted}
use Rattle.sh_print.proofs.OwnTokens.{Gap, blank, line, run_over, bare_whole}

-- First bytes of names

record IsStart (c : ℕ) : Type 0 where
  operator : is_operator_byte c ≡ false
  newline : is_newline c ≡ false
  comment : (c == 35) ≡ false
  backquote : (c == 96) ≡ false
  digit : is_digit c ≡ false

start_byte : (c : ℕ) → is_name_start c ≡ true → IsStart c
start_byte c h = record { operator = grind (arith, nat_tests); newline = grind (arith, nat_tests); comment = grind (arith, nat_tests); backquote = grind (arith, nat_tests); digit = grind (arith, nat_tests) }

-- the last byte alone is no backquote
pub no_last : (c : ℕ) (cs : List ℕ) → (c == 96) ≡ false → is_last_backquote (c ∷ cs) ≡ false
unfolding is_last_backquote
no_last c [] h = h
no_last c (d ∷ cs) h = refl

-- a text that begins as a name does is an assignment or a word
start_leads : (g : Stage) (c : ℕ) (cs : List ℕ) → is_name_start c ≡ true
    → lead_at (c ∷ cs) g 0 ≡ (if not (is_named g) && is_assignment (c ∷ cs) then lead.Assignment else word_lead (c ∷ cs) g 0 (bare_word (c ∷ cs) 0))
unfolding other_lead
start_leads g c cs h =
    let s = start_byte c h in
    let digits : run is_digit (c ∷ cs) ≡ 0 = run_no is_digit c cs s.digit in
    let word = if not (is_named g) && is_assignment (c ∷ cs) then lead.Assignment else word_lead (c ∷ cs) g 0 (bare_word (c ∷ cs) 0) in
    lead_inside g c cs (no_operator c cs s.operator)
    ∙ cond-false _ _ _ s.newline ∙ cond-false _ _ _ s.comment ∙ cond-false _ _ _ (no_last c cs s.backquote)
    ∙ ap (λ n. if not (n == 0) && is_angle (drop n (c ∷ cs)) then number_lead (drop n (c ∷ cs)) (operator_of (drop n (c ∷ cs)))
    else (if not (n == 0) && is_angle (behind_joined (drop n (c ∷ cs))) then lead.LeftOut form.Continuation else word)) digits

-- Names

abbrev pub Name : List ℕ → Type 0
Name w = is_name w ≡ true

-- how long a name is before a byte of no name
pub name_long : (w : List ℕ) (c : ℕ) (r : List ℕ) → Name w → is_name_byte c ≡ false → name_length (w ++ c ∷ r) ≡ length w
unfolding name_length is_first
name_long [] c r name none = absurd (true≢false (sym name))
name_long (d ∷ w) c r name none =
    let both = and_parts (is_name_start d) (list_all is_name_byte (d ∷ w)) name in
    cond-true _ _ _ both.0 ∙ run_over is_name_byte (d ∷ w) c r both.1 none

pub name_ends : (b : List ℕ) (i : ℕ) (w : List ℕ) (c : ℕ) (r : List ℕ) → Name w → is_name_byte c ≡ false → drop i b ≡ w ++ c ∷ r → name_end b i ≡ i + length w
unfolding name_end
name_ends b i w c r name none e = ap (λ t. i + name_length t) e ∙ ap (λ n. i + n) (name_long w c r name none)

-- the token that is a name
bare_name : (b : List ℕ) (i : ℕ) (w : List ℕ) (c : ℕ) (r : List ℕ) → Name w → ends_token c ≡ true → is_backslash c ≡ false → drop i b ≡ w ++ c ∷ r → bare_word b i ≡ w
bare_name b i w c r name ends plain e =
    bare_whole b i w c r (all_weaker is_name_byte is_bare name_bare w (and_parts (is_first is_name_start w) (list_all is_name_byte w) name).1) ends plain e

-- the name of `for`
pub for_name : (b : List ℕ) (i : ℕ) (w : List ℕ) (rest : List ℕ) → Name w → Gap rest → drop i b ≡ w ++ rest → is_bare_name b i ≡ true
unfolding is_bare_name
for_name b i w _ name (blank {r = r}) e = ap is_name (bare_name b i w 32 r name refl refl e) ∙ name
for_name b i w _ name (line {r = r}) e = ap is_name (bare_name b i w 10 r name refl refl e) ∙ name

-- a name and `=`
pub assignment_leads : (g : Stage) (w : List ℕ) (r : List ℕ) → is_named g ≡ false → Name w → lead_at (w ++ 61 ∷ r) g 0 ≡ lead.Assignment
unfolding is_assignment is_first
assignment_leads g [] r stage name = absurd (true≢false (sym name))
assignment_leads g (c ∷ w) r stage name =
    let start = (and_parts (is_name_start c) (list_all is_name_byte (c ∷ w)) name).0 in
    let t = c ∷ w in
    let size = name_long t 61 r name refl in
    let assigned : is_assignment (t ++ 61 ∷ r) ≡ true =
    ap (λ n. not (n == 0) && is_first (λ d. d == 61) (drop n (t ++ 61 ∷ r))) size ∙ ap (λ x. not (length t == 0) && is_first (λ d. d == 61) x) (drop_at t (61 ∷ r) (length t) refl)
    ∙ some (length w) in
    start_leads g c (w ++ 61 ∷ r) start ∙ cond-true _ _ _ (ap (λ x. not x && is_assignment (t ++ 61 ∷ r)) stage ∙ assigned)
  where
    some : (n : ℕ) → (not (suc n == 0) && true) ≡ true
    some n = grind (arith, nat_tests)

-- a name and `()`
pub definition_leads : (w : List ℕ) (r : List ℕ) → Name w → entry_of reserved_words w ≡ None → lead_at (w ++ 40 ∷ r) First 0 ≡ lead.Definition
unfolding word_lead first_lead is_definition is_assignment is_first
definition_leads [] r name none = absurd (true≢false (sym name))
definition_leads (c ∷ w) r name none =
    let start = (and_parts (is_name_start c) (list_all is_name_byte (c ∷ w)) name).0 in
    let t = c ∷ w in
    let all = t ++ 40 ∷ r in
    let size = name_long t 40 r name refl in
    let behind : drop (length t) all ≡ 40 ∷ r = drop_at t (40 ∷ r) (length t) refl in
    let assigned : is_assignment all ≡ false =
    ap (λ n. not (n == 0) && is_first (λ d. d == 61) (drop n all)) size ∙ ap (λ x. not (length t == 0) && is_first (λ d. d == 61) x) behind ∙ and-false (not (length t == 0)) in
    let word : bare_word all 0 ≡ t = bare_name all 0 t 40 r name refl refl refl in
    let none_more : 0 + length t ≡ length t = omega arith in
    let opens : drop (blanks false all (0 + length t)) all ≡ 40 ∷ r =
    fronted all (0 + length t) (40 ∷ r) (ap (λ n. drop n all) none_more ∙ behind) ∙ front_none 40 r refl refl refl in
    start_leads First c (w ++ 40 ∷ r) start ∙ cond-false _ _ _ assigned ∙ ap (word_lead all First 0) word
    ∙ ap (first_lead all 0 t) none ∙ cond-true _ _ _ (ap (λ x. x && is_first is_parenthesis (drop (blanks false all (0 + length t)) all)) name ∙ ap (is_first is_parenthesis) opens)

-- a token begins with the name, which is no parenthesis
pub name_first : (w cs : List ℕ) → Name w → (front (w ++ cs) ≡ w ++ cs) × (is_first is_parenthesis (w ++ cs) ≡ false)
unfolding is_first
name_first [] cs name = absurd (true≢false (sym name))
name_first (c ∷ w) cs name =
    let start = (and_parts (is_name_start c) (list_all is_name_byte (c ∷ w)) name).0 in
    (front_none c (w ++ cs) (no_blank c start) (no_backslash c start) (start_byte c start).comment, no_opening c start)
  where
    no_blank : (c : ℕ) → is_name_start c ≡ true → is_blank c ≡ false
    no_blank c h = grind (arith, nat_tests)

    no_backslash : (c : ℕ) → is_name_start c ≡ true → is_backslash c ≡ false
    no_backslash c h = grind (arith, nat_tests)

    no_opening : (c : ℕ) → is_name_start c ≡ true → is_parenthesis c ≡ false
    no_opening c h = grind (arith, nat_tests)
