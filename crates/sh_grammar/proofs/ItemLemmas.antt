-- Where the text ends, and how long tokens are.
use Rattle.std.proofs.Common.{not, ◌&&◌, ◌==◌, ◌∙◌, ◌≡◌, ℕ, ◌<◌, Bool, true, false, cond, List, length, drop, nat_le, Option, Some, None, refl, sym, ap, arith}
use Rattle.std.proofs.lemmas.Bool.{cond-false, true≢false}
use Rattle.std.proofs.lemmas.Bool.Decides.{nat_tests}
use Rattle.sh_tree.specs.declared.token.command.Stage.TheVariants.{First, Prefixed, Named}
use Rattle.sh_tree.specs.declared.token.command.Lead.TheVariants as lead
use Rattle.sh_tree.specs.standard.language.Bytes.{is_first, is_digit, is_last_backquote, is_newline, behind_joined, run}
use Rattle.sh_tree.specs.standard.language.Characters as byte
use Rattle.sh_tree.specs.declared.refusal.Form.TheVariants as form
use Rattle.sh_tree.specs.declared.refusal.Form.{Form}
use Rattle.sh_tree.specs.declared.token.command.Lead.{Lead}
use Rattle.sh_tree.specs.declared.token.command.Operator.{Operator}
use Rattle.sh_tree.specs.declared.token.command.Operator.TheVariants as op
use Rattle.sh_tree.specs.declared.token.command.Reserved.{Reserved}
use Rattle.sh_tree.specs.declared.token.command.Reserved.TheVariants as word
use Rattle.sh_tree.specs.declared.token.command.Stage.{Stage}
use Rattle.sh_tree.specs.standard.language.Commands.{operator_of, lead_at, lead_of, operator_lead, whole_operator, opening, reserved_lead, first_lead, name_lead, word_lead, number_lead, other_lead, bare_word, is_parenthesis, is_definition, is_split, is_assignment, is_angle, is_named, entry_of, left_out_names, reserved_words}

-- Inside the text no token ends it

abbrev is_end : Lead → Bool
is_end lead.End = true
is_end _ = false

neither : (t : Bool) (x y : Lead) → is_end x ≡ false → is_end y ≡ false → is_end (cond t x y) ≡ false
neither true x y h k = h
neither false x y h k = k

no_name : (o : Option Form) → is_end (name_lead o) ≡ false
unfolding name_lead
no_name (Some f) = refl
no_name None = refl

no_reserved : (cs : List ℕ) (r : Reserved) → is_end (reserved_lead cs r) ≡ false
unfolding reserved_lead
no_reserved cs word.Bang = neither (is_first is_parenthesis (drop 1 cs)) (lead.LeftOut form.BangParenthesis)
    (cond (is_first is_parenthesis (behind_joined (drop 1 cs))) (lead.LeftOut form.Continuation) (lead.Reserved word.Bang)) refl
    (neither (is_first is_parenthesis (behind_joined (drop 1 cs))) (lead.LeftOut form.Continuation) (lead.Reserved word.Bang) refl refl)
no_reserved cs _ = refl

no_first : (b : List ℕ) (i : ℕ) (w : List ℕ) (o : Option Reserved) → is_end (first_lead b i w o) ≡ false
unfolding first_lead
no_first b i w (Some r) = no_reserved (drop i b) r
no_first b i w None = neither (is_definition b i w) lead.Definition (name_lead (entry_of left_out_names w)) refl (no_name (entry_of left_out_names w))

no_word : (b : List ℕ) (s : Stage) (i : ℕ) (w : List ℕ) → is_end (word_lead b s i w) ≡ false
unfolding word_lead
no_word b First i w = no_first b i w (entry_of reserved_words w)
no_word b Prefixed i w = no_name (entry_of left_out_names w)
no_word b (Named d) i w = refl

no_number : (cs : List ℕ) (o : Option (Operator × ℕ)) → is_end (number_lead cs o) ≡ false
unfolding number_lead
no_number cs (Some found) = neither (is_split cs found.1) (lead.LeftOut form.Continuation) lead.Number refl refl
no_number cs None = refl

no_other : (b : List ℕ) (s : Stage) (i : ℕ) → is_end (other_lead b s i) ≡ false
unfolding other_lead
no_other b s i =
    let cs = drop i b in
    let digits = run is_digit cs in
    let rest = drop digits cs in
    let last = word_lead b s i (bare_word b i) in
    let assigned = not (is_named s) && is_assignment cs in
    let joined = not (digits == 0) && is_angle (behind_joined rest) in
    neither (not (digits == 0) && is_angle rest) (number_lead rest (operator_of rest)) (cond joined (lead.LeftOut form.Continuation) (cond assigned lead.Assignment last))
    (no_number rest (operator_of rest))
    (neither joined (lead.LeftOut form.Continuation) (cond assigned lead.Assignment last) refl (neither assigned lead.Assignment last refl (no_word b s i (bare_word b i))))

no_operator : (s : Stage) (cs : List ℕ) (o : Operator) → is_end (whole_operator s cs o) ≡ false
unfolding whole_operator opening
no_operator First cs op.LeftParenthesis = neither (is_first is_parenthesis cs) (lead.LeftOut form.DoubleParenthesis)
    (cond (is_first is_parenthesis (behind_joined cs)) (lead.LeftOut form.Continuation) (lead.Operator op.LeftParenthesis)) refl
    (neither (is_first is_parenthesis (behind_joined cs)) (lead.LeftOut form.Continuation) (lead.Operator op.LeftParenthesis) refl refl)
no_operator s cs o = refl

no_lead : (b : List ℕ) (s : Stage) (i : ℕ) → nat_le (length b) i ≡ false → (o : Option (Operator × ℕ)) → is_end (lead_of b s i o) ≡ false
unfolding lead_of operator_lead
no_lead b s i inside (Some found) =
    let rest = drop found.1 (drop i b) in
    neither (is_split (drop i b) found.1) (lead.LeftOut form.Continuation) (whole_operator s rest found.0) refl (no_operator s rest found.0)
no_lead b s i inside None =
    let comment = is_first (λ c. c == byte.number_sign) (drop i b) in
    let last = is_last_backquote (drop i b) in
    let rest = cond last lead.Backquote (other_lead b s i) in
    let more = cond comment (lead.LeftOut form.Continuation) rest in
    let line = is_first is_newline (drop i b) in
    ap is_end (cond-false (nat_le (length b) i) lead.End (cond line lead.Newline more) inside)
    ∙ neither line lead.Newline more refl (neither comment (lead.LeftOut form.Continuation) rest refl (neither last lead.Backquote (other_lead b s i) refl (no_other b s i)))

pub inside_lead : (b : List ℕ) (s : Stage) (i : ℕ) → i < length b → lead_at b s i ≡ lead.End → ⊥
unfolding lead_at
inside_lead b s i below is =
    let inside : nat_le (length b) i ≡ false = grind (arith, nat_tests) in
    true≢false (sym (ap is_end is) ∙ no_lead b s i inside (operator_of (drop i b)))
