-- The tokens with which a redirection of the canonical text begins.
use Rattle.std.proofs.Common.{◌≡◌, ℕ, suc, ◌+◌, ◌-◌, ◌==◌, Bool, true, false, not, ◌&&◌, if◌then◌else◌, Option, Some, None, List, [], ◌∷◌, ◌++◌, length, drop, take, refl, sym, ap, ◌∙◌, arith}
use Rattle.std.specs.List.{list_all}
use Rattle.std.specs.Option.{option_map}
use Rattle.std.proofs.lemmas.Bool.{cond-true, cond-false, true≢false, and_parts}
use Rattle.std.proofs.lemmas.Bool.Decides.{nat_tests}
use Rattle.std.proofs.lemmas.List.{drop_at, take_at}
use Rattle.sh_copies.proofs.CopiedTokens.{run_front}
use Rattle.sh_copies.proofs.CopiedLeads.{no_operator, lead_inside}
use Rattle.sh_tree.specs.declared.tree.Direction.{Direction}
use Rattle.sh_tree.specs.declared.tree.Direction.TheVariants as direction
use Rattle.sh_tree.specs.declared.refusal.Form.TheVariants as form
use Rattle.sh_tree.specs.declared.token.command.Lead.{Lead}
use Rattle.sh_tree.specs.declared.token.command.Lead.TheVariants as lead
use Rattle.sh_tree.specs.declared.token.command.Operator.{Operator}
use Rattle.sh_tree.specs.declared.token.command.Operator.TheVariants as op
use Rattle.sh_tree.specs.declared.token.command.Redirection.{Redirection}
use Rattle.sh_tree.specs.declared.token.command.Stage.{Stage}
use Rattle.sh_tree.specs.standard.Tree.{text_of}
use Rattle.sh_tree.specs.standard.language.Bytes.{is_blank, is_newline, is_backslash, is_operator_byte, is_digit, is_first, run, behind_joined, longest}
use Rattle.sh_tree.specs.standard.language.Commands.{operator_of, operator, further, lead_at, other_lead, word_lead, bare_word, number_lead, is_angle, is_split, is_named, is_assignment, is_redirection, is_parenthesis, redirects, redirection, redirection_by, digits_end, number_of, direction_of, strip_of}
use Rattle.sh_tree.specs.standard.language.Trees.{span}
use Rattle.sh_print.specs.Bare as bare
use Rattle.sh_print.specs.Bare.{Text, Opens}
use Rattle.sh_print.specs.Layout.{opens_text, number_text}
use Rattle.sh_print.proofs.PlaceLemmas.{front, front_none, lead_there, off}
use Rattle.sh_print.proofs.OwnTokens.{operator_leads, unsplit, unjoined}
use Rattle.sh_print.proofs.NameTokens.{no_last}
use Rattle.sh_print.proofs.Printable.{is_number}

-- the text that is at i
pub text_there : (b : List ℕ) (i : ℕ) (w cs : List ℕ) → drop i b ≡ w ++ cs → text_of b (span i (i + length w)) ≡ w
text_there b i w cs e =
    let size : i + length w - i ≡ length w = omega arith in
    ap (λ n. take n (drop i b)) size ∙ ap (take (length w)) e ∙ take_at w cs (length w) refl

-- the operator of a redirection
unfoldable pub sign_of : Opens → Operator
sign_of (bare.File direction.Read) = op.Less
sign_of (bare.File direction.Write) = op.Greater
sign_of (bare.File direction.Clobber) = op.Clobber
sign_of (bare.File direction.Append) = op.Append
sign_of (bare.File direction.Both) = op.ReadWrite
sign_of (bare.File direction.CopyIn) = op.CopyIn
sign_of (bare.File direction.CopyOut) = op.CopyOut
sign_of (bare.Here true d) = op.HereDocTabs
sign_of (bare.Here false d) = op.HereDoc

pub sign_directs : (d : Direction) → direction_of (sign_of (bare.File d)) ≡ Some d
unfolding sign_of direction_of
sign_directs direction.Read = refl
sign_directs direction.Write = refl
sign_directs direction.Clobber = refl
sign_directs direction.Append = refl
sign_directs direction.Both = refl
sign_directs direction.CopyIn = refl
sign_directs direction.CopyOut = refl

pub sign_strips : (strip : Bool) (d : bare.Document) → strip_of (sign_of (bare.Here strip d)) ≡ Some strip
unfolding sign_of strip_of
sign_strips true d = refl
sign_strips false d = refl

-- the operator's text before a blank
record SignStands (o : Opens) (r : List ℕ) : Type 0 where
  is : operator_of (opens_text o ++ 32 ∷ r) ≡ Some (sign_of o, length (opens_text o))
  redirects_is : redirects (sign_of o) ≡ true
  angle : is_angle (opens_text o ++ 32 ∷ r) ≡ true
  digits : is_first is_digit (opens_text o ++ 32 ∷ r) ≡ false
  opens_none : is_first is_parenthesis (opens_text o ++ 32 ∷ r) ≡ false
  split_none : is_split (opens_text o ++ 32 ∷ r) (length (opens_text o)) ≡ false
  front_is : front (opens_text o ++ 32 ∷ r) ≡ opens_text o ++ 32 ∷ r
  leads : (g : Stage) → lead_at (opens_text o ++ 32 ∷ r) g 0 ≡ lead.Operator (sign_of o)

sign_stands : (o : Opens) (r : List ℕ) → SignStands o r
unfolding sign_of operator_of longest redirects is_first
sign_stands (bare.File direction.Read) r = record { is = refl; redirects_is = refl; angle = refl; digits = refl; opens_none = refl; split_none = (unsplit (60 ∷ 32 ∷ r) 1 (unjoined 32 r refl)); front_is = front_none _ _ refl refl refl; leads = λ g. operator_leads g (60 ∷ 32 ∷ r) op.Less 1 refl (unsplit (60 ∷ 32 ∷ r) 1 (unjoined 32 r refl)) refl }
sign_stands (bare.File direction.Write) r = record { is = refl; redirects_is = refl; angle = refl; digits = refl; opens_none = refl; split_none = (unsplit (62 ∷ 32 ∷ r) 1 (unjoined 32 r refl)); front_is = front_none _ _ refl refl refl; leads = λ g. operator_leads g (62 ∷ 32 ∷ r) op.Greater 1 refl (unsplit (62 ∷ 32 ∷ r) 1 (unjoined 32 r refl)) refl }
sign_stands (bare.File direction.Clobber) r = record { is = refl; redirects_is = refl; angle = refl; digits = refl; opens_none = refl; split_none = (unsplit (62 ∷ 124 ∷ 32 ∷ r) 2 (unjoined 32 r refl)); front_is = front_none _ _ refl refl refl; leads = λ g. operator_leads g (62 ∷ 124 ∷ 32 ∷ r) op.Clobber 2 refl (unsplit (62 ∷ 124 ∷ 32 ∷ r) 2 (unjoined 32 r refl)) refl }
sign_stands (bare.File direction.Append) r = record { is = refl; redirects_is = refl; angle = refl; digits = refl; opens_none = refl; split_none = (unsplit (62 ∷ 62 ∷ 32 ∷ r) 2 (unjoined 32 r refl)); front_is = front_none _ _ refl refl refl; leads = λ g. operator_leads g (62 ∷ 62 ∷ 32 ∷ r) op.Append 2 refl (unsplit (62 ∷ 62 ∷ 32 ∷ r) 2 (unjoined 32 r refl)) refl }
sign_stands (bare.File direction.Both) r = record { is = refl; redirects_is = refl; angle = refl; digits = refl; opens_none = refl; split_none = (unsplit (60 ∷ 62 ∷ 32 ∷ r) 2 (unjoined 32 r refl)); front_is = front_none _ _ refl refl refl; leads = λ g. operator_leads g (60 ∷ 62 ∷ 32 ∷ r) op.ReadWrite 2 refl (unsplit (60 ∷ 62 ∷ 32 ∷ r) 2 (unjoined 32 r refl)) refl }
sign_stands (bare.File direction.CopyIn) r = record { is = refl; redirects_is = refl; angle = refl; digits = refl; opens_none = refl; split_none = (unsplit (60 ∷ 38 ∷ 32 ∷ r) 2 (unjoined 32 r refl)); front_is = front_none _ _ refl refl refl; leads = λ g. operator_leads g (60 ∷ 38 ∷ 32 ∷ r) op.CopyIn 2 refl (unsplit (60 ∷ 38 ∷ 32 ∷ r) 2 (unjoined 32 r refl)) refl }
sign_stands (bare.File direction.CopyOut) r = record { is = refl; redirects_is = refl; angle = refl; digits = refl; opens_none = refl; split_none = (unsplit (62 ∷ 38 ∷ 32 ∷ r) 2 (unjoined 32 r refl)); front_is = front_none _ _ refl refl refl; leads = λ g. operator_leads g (62 ∷ 38 ∷ 32 ∷ r) op.CopyOut 2 refl (unsplit (62 ∷ 38 ∷ 32 ∷ r) 2 (unjoined 32 r refl)) refl }
sign_stands (bare.Here true d) r = record { is = refl; redirects_is = refl; angle = refl; digits = refl; opens_none = refl; split_none = (unsplit (60 ∷ 60 ∷ 45 ∷ 32 ∷ r) 3 (unjoined 32 r refl)); front_is = front_none _ _ refl refl refl; leads = λ g. operator_leads g (60 ∷ 60 ∷ 45 ∷ 32 ∷ r) op.HereDocTabs 3 refl (unsplit (60 ∷ 60 ∷ 45 ∷ 32 ∷ r) 3 (unjoined 32 r refl)) refl }
sign_stands (bare.Here false d) r = record { is = refl; redirects_is = refl; angle = refl; digits = refl; opens_none = refl; split_none = (unsplit (60 ∷ 60 ∷ 32 ∷ r) 2 (unjoined 32 r refl)); front_is = front_none _ _ refl refl refl; leads = λ g. operator_leads g (60 ∷ 60 ∷ 32 ∷ r) op.HereDoc 2 refl (unsplit (60 ∷ 60 ∷ 32 ∷ r) 2 (unjoined 32 r refl)) refl }

-- what is at the redirection
abbrev pub redirection_text : Option Text → Opens → List ℕ → List ℕ
redirection_text number o r = number_text number ++ (opens_text o ++ 32 ∷ r)

digits_long : (number : Option Text) (o : Opens) (r : List ℕ) → is_number number ≡ true → run is_digit (redirection_text number o r) ≡ length (number_text number)
digits_long None o r h = run_front is_digit [] (opens_text o ++ 32 ∷ r) refl (sign_stands o r).digits
digits_long (Some t) o r h = run_front is_digit t (opens_text o ++ 32 ∷ r) (and_parts (is_first is_digit t) (list_all is_digit t) h).1 (sign_stands o r).digits

-- what a redirection begins with
pub record RedirectBegins (b : List ℕ) (i : ℕ) (number : Option Text) (o : Opens) (r : List ℕ) : Type 0 where
  pub token : Redirection
  pub is : redirection b i ≡ Some token
  pub operator_is : token.operator ≡ sign_of o
  pub number_is : option_map (text_of b) token.number ≡ number
  pub behind : drop token.end b ≡ 32 ∷ r
  pub leads : (g : Stage) → is_redirection (lead_at b g i) ≡ true

number_there : (b : List ℕ) (i : ℕ) (number : Option Text) (cs : List ℕ) → is_number number ≡ true → drop i b ≡ number_text number ++ cs
    → option_map (text_of b) (number_of i (i + length (number_text number))) ≡ number
unfolding is_first
number_there b i None cs h e = ap (option_map (text_of b)) (cond-true _ _ _ (none i))
  where
    none : (i : ℕ) → (i == i + 0) ≡ true
    none i = grind (arith, nat_tests)
number_there b i (Some []) cs h e = absurd (true≢false (sym h))
number_there b i (Some (c ∷ t)) cs h e =
    ap (option_map (text_of b)) (cond-false _ _ _ (some i (length t))) ∙ ap Some (text_there b i (c ∷ t) cs e)
  where
    some : (i n : ℕ) → (i == i + suc n) ≡ false
    some i n = grind (arith, nat_tests)

record IsDigitByte (c : ℕ) : Type 0 where
  operator : is_operator_byte c ≡ false
  newline : is_newline c ≡ false
  blank : is_blank c ≡ false
  backslash : is_backslash c ≡ false
  comment : (c == 35) ≡ false
  backquote : (c == 96) ≡ false
  opens : is_parenthesis c ≡ false

digit_byte : (c : ℕ) → is_digit c ≡ true → IsDigitByte c
digit_byte c h = record { operator = grind (arith, nat_tests); newline = grind (arith, nat_tests); blank = grind (arith, nat_tests); backslash = grind (arith, nat_tests); comment = grind (arith, nat_tests); backquote = grind (arith, nat_tests); opens = grind (arith, nat_tests) }

redirection_leads : (g : Stage) (number : Option Text) (o : Opens) (r : List ℕ) → is_number number ≡ true → is_redirection (lead_at (redirection_text number o r) g 0) ≡ true
unfolding is_redirection is_first other_lead number_lead
redirection_leads g None o r h = ap is_redirection ((sign_stands o r).leads g) ∙ (sign_stands o r).redirects_is
redirection_leads g (Some []) o r h = absurd (true≢false (sym h))
redirection_leads g (Some (c ∷ t)) o r h =
    let first = digit_byte c (and_parts (is_digit c) (list_all is_digit (c ∷ t)) h).0 in
    let w = c ∷ t in
    let rest = opens_text o ++ 32 ∷ r in
    let all = w ++ rest in
    let sign = sign_stands o r in
    let behind : drop (length w) all ≡ rest = drop_at w rest (length w) refl in
    let other = if is_angle (behind_joined (drop (length w) all)) then lead.LeftOut form.Continuation else (if not (is_named g) && is_assignment all then lead.Assignment else word_lead all g 0 (bare_word all 0)) in
    let number : Lead = lead.Number in
    ap is_redirection (
    lead_inside g c (t ++ rest) (no_operator c (t ++ rest) first.operator)
    ∙ cond-false _ _ _ first.newline ∙ cond-false _ _ _ first.comment ∙ cond-false _ _ _ (no_last c (t ++ rest) first.backquote)
    ∙ ap (λ n. if not (n == 0) && is_angle (drop n all) then number_lead (drop n all) (operator_of (drop n all))
    else (if not (n == 0) && is_angle (behind_joined (drop n all)) then lead.LeftOut form.Continuation else (if not (is_named g) && is_assignment all then lead.Assignment else word_lead all g 0 (bare_word all 0)))) (digits_long (Some w) o r h)
    ∙ cond-true _ _ _ (ap (λ x. not (length w == 0) && is_angle x) behind ∙ ap (λ x. not (length w == 0) && x) sign.angle ∙ some (length t))
    ∙ ap (λ x. number_lead x (operator_of x)) behind ∙ ap (number_lead rest) sign.is ∙ cond-false _ _ _ sign.split_none)
  where
    some : (n : ℕ) → (not (suc n == 0) && true) ≡ true
    some n = grind (arith, nat_tests)

pub redirect_begins : (b : List ℕ) (i : ℕ) (number : Option Text) (o : Opens) (r : List ℕ) → is_number number ≡ true → drop i b ≡ redirection_text number o r → RedirectBegins b i number o r
unfolding redirection operator
redirect_begins b i number o r h e =
    let at = i + length (number_text number) in
    let sign = sign_stands o r in
    let text = opens_text o ++ 32 ∷ r in
    let end : digits_end b i ≡ at = ap (λ t. i + run is_digit t) e ∙ ap (λ n. i + n) (digits_long number o r h) in
    let there : drop at b ≡ text = off b i (number_text number) text e in
    record {
      token = record { number = number_of i at; operator = sign_of o; at = at; end = at + length (opens_text o) };
      is = ap (λ j. redirection_by i j (further j (operator_of (drop j b)))) end ∙ ap (λ t. redirection_by i at (further at (operator_of t))) there
          ∙ ap (λ x. redirection_by i at (further at x)) sign.is ∙ cond-true _ _ _ sign.redirects_is;
      operator_is = refl;
      number_is = number_there b i number text h e;
      behind = off b at (opens_text o) (32 ∷ r) there;
      leads = λ g. ap is_redirection (lead_there b g i (redirection_text number o r) e) ∙ redirection_leads g number o r h;
    }

-- the redirection begins a token, which is no parenthesis
pub redirect_first : (number : Option Text) (o : Opens) (r : List ℕ) → is_number number ≡ true
    → (front (redirection_text number o r) ≡ redirection_text number o r) × (is_first is_parenthesis (redirection_text number o r) ≡ false)
unfolding is_first
redirect_first None o r h = ((sign_stands o r).front_is, (sign_stands o r).opens_none)
redirect_first (Some []) o r h = absurd (true≢false (sym h))
redirect_first (Some (c ∷ t)) o r h =
    let first = digit_byte c (and_parts (is_digit c) (list_all is_digit (c ∷ t)) h).0 in
    (front_none c (t ++ (opens_text o ++ 32 ∷ r)) first.blank first.backslash first.comment, first.opens)
