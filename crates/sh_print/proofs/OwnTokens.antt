-- The leads of the words and operators that the canonical text has of its own.
use Rattle.std.proofs.Common.{◌≡◌, ℕ, ◌==◌, Bool, true, false, not, ◌&&◌, ◌||◌, Some, List, [], ◌∷◌, ◌++◌, length, drop, take, codes, if◌then◌else◌, refl, ap, ◌∙◌, cond}
use Rattle.std.proofs.Math.Bool.{and-false}
use Rattle.std.proofs.lemmas.Bool.{cond-true, cond-false, true≢false}
use Rattle.std.specs.List.{list_all}
use Rattle.std.proofs.lemmas.List.{drop_at, take_at}
use Rattle.sh_copies.proofs.CopiedTokens.{run_front}
use Rattle.sh_copies.proofs.CopiedLeads.{lead_inside}
use Rattle.sh_tree.specs.declared.refusal.Form.TheVariants as form
use Rattle.sh_tree.specs.declared.token.command.Lead.{Lead}
use Rattle.sh_tree.specs.declared.token.command.Lead.TheVariants as lead
use Rattle.sh_tree.specs.declared.token.command.Operator.{Operator}
use Rattle.sh_tree.specs.declared.token.command.Operator.TheVariants as op
use Rattle.sh_tree.specs.declared.token.command.Reserved.{Reserved}
use Rattle.sh_tree.specs.declared.token.command.Reserved.TheVariants as word
use Rattle.sh_tree.specs.declared.token.command.Stage.{Stage}
use Rattle.sh_tree.specs.declared.token.command.Stage.TheVariants.{First, Prefixed, Named}
use Rattle.sh_tree.specs.standard.language.Bytes.{is_in, is_backslash, ends_token, run, is_first, is_joined, joined_length, joined_at, behind_joined, longest, name_length, is_last_backquote}
use Rattle.sh_tree.specs.standard.language.Words.{ends_joined}
use Rattle.sh_tree.specs.standard.language.Commands.{is_bare, operator_of, operator_lead, whole_operator, opening, is_split, is_longer, lead_at, lead_of, other_lead, word_lead, first_lead, reserved_lead, bang, bare_word, entry_of, is_assignment, is_parenthesis, is_esac, is_newline_lead}
use Rattle.sh_copies.proofs.AlikeBytes.{not_joined}

-- a blank or a newline, which follows every word of its own
pub data Gap : List ℕ → Type 0 where
  blank : {r : List ℕ} → Gap (32 ∷ r)
  line : {r : List ℕ} → Gap (10 ∷ r)

-- Runs

pub run_over : (p : ℕ → Bool) (w : List ℕ) (c : ℕ) (r : List ℕ) → list_all p w ≡ true → p c ≡ false → run p (w ++ c ∷ r) ≡ length w
unfolding is_first
run_over p w c r all none = run_front p w (c ∷ r) all none

-- Reserved words

-- a token of plain bytes
pub bare_whole : (b : List ℕ) (i : ℕ) (w : List ℕ) (c : ℕ) (r : List ℕ) → list_all is_bare w ≡ true → ends_token c ≡ true → is_backslash c ≡ false → drop i b ≡ w ++ c ∷ r → bare_word b i ≡ w
unfolding bare_word is_first
bare_whole b i w c r all ends plain e =
    let size : run is_bare (drop i b) ≡ length w = ap (run is_bare) e ∙ run_over is_bare w c r all (ap (λ t. not t && not (is_in (codes "$`\"'\\") c)) ends) in
    let rest : drop (length w) (drop i b) ≡ c ∷ r = ap (drop (length w)) e ∙ drop_at w (c ∷ r) (length w) refl in
    let none : joined_length (c ∷ r) ≡ 0 = not_joined c r plain in
    ap (λ n. if ends_joined (drop n (drop i b)) then take n (drop i b) else []) size
    ∙ ap (λ t. if ends_joined t then take (length w) (drop i b) else []) rest
    ∙ cond-true _ _ _ (ap (λ n. length (drop n (c ∷ r)) == 0 || is_first ends_token (drop n (c ∷ r)) || is_last_backquote (drop n (c ∷ r))) none
    ∙ ap (λ t. length (c ∷ r) == 0 || t || is_last_backquote (c ∷ r)) ends ∙ or_true (length (c ∷ r) == 0) (is_last_backquote (c ∷ r)))
    ∙ ap (take (length w)) e ∙ take_at w (c ∷ r) (length w) refl
  where
    or_true : (s t : Bool) → (s || true || t) ≡ true
    or_true true t = refl
    or_true false t = refl

unfoldable pub reserved_text : Reserved → List ℕ
reserved_text word.Bang = codes "!"
reserved_text word.LeftBrace = codes "{"
reserved_text word.RightBrace = codes "}"
reserved_text word.Case = codes "case"
reserved_text word.Do = codes "do"
reserved_text word.Done = codes "done"
reserved_text word.Elif = codes "elif"
reserved_text word.Else = codes "else"
reserved_text word.Esac = codes "esac"
reserved_text word.Fi = codes "fi"
reserved_text word.For = codes "for"
reserved_text word.If = codes "if"
reserved_text word.In = codes "in"
reserved_text word.Then = codes "then"
reserved_text word.Until = codes "until"
reserved_text word.While = codes "while"

-- a token of plain bytes where a command may begin
whole_leads : (w : List ℕ) (rest : List ℕ) → Gap rest → list_all is_bare w ≡ true → word_lead (w ++ rest) First 0 (bare_word (w ++ rest) 0) ≡ word_lead (w ++ rest) First 0 w
whole_leads w _ (blank {r = r}) all = ap (word_lead (w ++ 32 ∷ r) First 0) (bare_whole (w ++ 32 ∷ r) 0 w 32 r all refl refl refl)
whole_leads w _ (line {r = r}) all = ap (word_lead (w ++ 10 ∷ r) First 0) (bare_whole (w ++ 10 ∷ r) 0 w 10 r all refl refl refl)

bang_is : (rest : List ℕ) → Gap rest → bang rest ≡ lead.Reserved word.Bang
unfolding is_first joined_length
bang_is _ (blank {r = []}) = refl
bang_is _ (blank {r = c ∷ cs}) = refl
bang_is _ (line {r = []}) = refl
bang_is _ (line {r = c ∷ cs}) = refl

pub reserved_leads : (r : Reserved) (rest : List ℕ) → Gap rest → lead_at (reserved_text r ++ rest) First 0 ≡ lead.Reserved r
unfolding reserved_text other_lead word_lead first_lead reserved_lead entry_of is_assignment operator_of longest is_first name_length is_last_backquote
reserved_leads word.Bang _ (blank {r = r}) = lead_inside First 33 (32 ∷ r) refl ∙ whole_leads (codes "!") (32 ∷ r) blank refl ∙ bang_is (32 ∷ r) blank
reserved_leads word.Bang _ (line {r = r}) = lead_inside First 33 (10 ∷ r) refl ∙ whole_leads (codes "!") (10 ∷ r) line refl ∙ bang_is (10 ∷ r) line
reserved_leads word.LeftBrace _ (blank {r = r}) = lead_inside First 123 (32 ∷ r) refl ∙ whole_leads (codes "{") (32 ∷ r) blank refl
reserved_leads word.LeftBrace _ (line {r = r}) = lead_inside First 123 (10 ∷ r) refl ∙ whole_leads (codes "{") (10 ∷ r) line refl
reserved_leads word.RightBrace _ (blank {r = r}) = lead_inside First 125 (32 ∷ r) refl ∙ whole_leads (codes "}") (32 ∷ r) blank refl
reserved_leads word.RightBrace _ (line {r = r}) = lead_inside First 125 (10 ∷ r) refl ∙ whole_leads (codes "}") (10 ∷ r) line refl
reserved_leads word.Case _ (blank {r = r}) = lead_inside First 99 (97 ∷ 115 ∷ 101 ∷ 32 ∷ r) refl ∙ whole_leads (codes "case") (32 ∷ r) blank refl
reserved_leads word.Case _ (line {r = r}) = lead_inside First 99 (97 ∷ 115 ∷ 101 ∷ 10 ∷ r) refl ∙ whole_leads (codes "case") (10 ∷ r) line refl
reserved_leads word.Do _ (blank {r = r}) = lead_inside First 100 (111 ∷ 32 ∷ r) refl ∙ whole_leads (codes "do") (32 ∷ r) blank refl
reserved_leads word.Do _ (line {r = r}) = lead_inside First 100 (111 ∷ 10 ∷ r) refl ∙ whole_leads (codes "do") (10 ∷ r) line refl
reserved_leads word.Done _ (blank {r = r}) = lead_inside First 100 (111 ∷ 110 ∷ 101 ∷ 32 ∷ r) refl ∙ whole_leads (codes "done") (32 ∷ r) blank refl
reserved_leads word.Done _ (line {r = r}) = lead_inside First 100 (111 ∷ 110 ∷ 101 ∷ 10 ∷ r) refl ∙ whole_leads (codes "done") (10 ∷ r) line refl
reserved_leads word.Elif _ (blank {r = r}) = lead_inside First 101 (108 ∷ 105 ∷ 102 ∷ 32 ∷ r) refl ∙ whole_leads (codes "elif") (32 ∷ r) blank refl
reserved_leads word.Elif _ (line {r = r}) = lead_inside First 101 (108 ∷ 105 ∷ 102 ∷ 10 ∷ r) refl ∙ whole_leads (codes "elif") (10 ∷ r) line refl
reserved_leads word.Else _ (blank {r = r}) = lead_inside First 101 (108 ∷ 115 ∷ 101 ∷ 32 ∷ r) refl ∙ whole_leads (codes "else") (32 ∷ r) blank refl
reserved_leads word.Else _ (line {r = r}) = lead_inside First 101 (108 ∷ 115 ∷ 101 ∷ 10 ∷ r) refl ∙ whole_leads (codes "else") (10 ∷ r) line refl
reserved_leads word.Esac _ (blank {r = r}) = lead_inside First 101 (115 ∷ 97 ∷ 99 ∷ 32 ∷ r) refl ∙ whole_leads (codes "esac") (32 ∷ r) blank refl
reserved_leads word.Esac _ (line {r = r}) = lead_inside First 101 (115 ∷ 97 ∷ 99 ∷ 10 ∷ r) refl ∙ whole_leads (codes "esac") (10 ∷ r) line refl
reserved_leads word.Fi _ (blank {r = r}) = lead_inside First 102 (105 ∷ 32 ∷ r) refl ∙ whole_leads (codes "fi") (32 ∷ r) blank refl
reserved_leads word.Fi _ (line {r = r}) = lead_inside First 102 (105 ∷ 10 ∷ r) refl ∙ whole_leads (codes "fi") (10 ∷ r) line refl
reserved_leads word.For _ (blank {r = r}) = lead_inside First 102 (111 ∷ 114 ∷ 32 ∷ r) refl ∙ whole_leads (codes "for") (32 ∷ r) blank refl
reserved_leads word.For _ (line {r = r}) = lead_inside First 102 (111 ∷ 114 ∷ 10 ∷ r) refl ∙ whole_leads (codes "for") (10 ∷ r) line refl
reserved_leads word.If _ (blank {r = r}) = lead_inside First 105 (102 ∷ 32 ∷ r) refl ∙ whole_leads (codes "if") (32 ∷ r) blank refl
reserved_leads word.If _ (line {r = r}) = lead_inside First 105 (102 ∷ 10 ∷ r) refl ∙ whole_leads (codes "if") (10 ∷ r) line refl
reserved_leads word.In _ (blank {r = r}) = lead_inside First 105 (110 ∷ 32 ∷ r) refl ∙ whole_leads (codes "in") (32 ∷ r) blank refl
reserved_leads word.In _ (line {r = r}) = lead_inside First 105 (110 ∷ 10 ∷ r) refl ∙ whole_leads (codes "in") (10 ∷ r) line refl
reserved_leads word.Then _ (blank {r = r}) = lead_inside First 116 (104 ∷ 101 ∷ 110 ∷ 32 ∷ r) refl ∙ whole_leads (codes "then") (32 ∷ r) blank refl
reserved_leads word.Then _ (line {r = r}) = lead_inside First 116 (104 ∷ 101 ∷ 110 ∷ 10 ∷ r) refl ∙ whole_leads (codes "then") (10 ∷ r) line refl
reserved_leads word.Until _ (blank {r = r}) = lead_inside First 117 (110 ∷ 116 ∷ 105 ∷ 108 ∷ 32 ∷ r) refl ∙ whole_leads (codes "until") (32 ∷ r) blank refl
reserved_leads word.Until _ (line {r = r}) = lead_inside First 117 (110 ∷ 116 ∷ 105 ∷ 108 ∷ 10 ∷ r) refl ∙ whole_leads (codes "until") (10 ∷ r) line refl
reserved_leads word.While _ (blank {r = r}) = lead_inside First 119 (104 ∷ 105 ∷ 108 ∷ 101 ∷ 32 ∷ r) refl ∙ whole_leads (codes "while") (32 ∷ r) blank refl
reserved_leads word.While _ (line {r = r}) = lead_inside First 119 (104 ∷ 105 ∷ 108 ∷ 101 ∷ 10 ∷ r) refl ∙ whole_leads (codes "while") (10 ∷ r) line refl

-- Operators

pub unjoined : (c : ℕ) (cs : List ℕ) → is_backslash c ≡ false → is_joined (c ∷ cs) ≡ false
unjoined c cs h = ap (λ n. not (n == 0)) (not_joined c cs h)

abbrev opens : Operator → Bool
opens op.LeftParenthesis = true
opens _ = false

whole_is : (g : Stage) (rest : List ℕ) (o : Operator) → opens o ≡ false → whole_operator g rest o ≡ lead.Operator o
unfolding whole_operator
whole_is First rest op.LeftParenthesis h = absurd (true≢false h)
whole_is First rest o h = refl
whole_is Prefixed rest o h = refl
whole_is (Named d) rest o h = refl

-- an operator before a byte that begins no line continuation
pub operator_leads : (g : Stage) (cs : List ℕ) (o : Operator) (n : ℕ) → operator_of cs ≡ Some (o, n) → is_split cs n ≡ false → opens o ≡ false → lead_at cs g 0 ≡ lead.Operator o
unfolding lead_at lead_of operator_lead
operator_leads g cs o n is whole plain = ap (λ f. lead_of cs g 0 f) is ∙ cond-false _ _ _ whole ∙ whole_is g (drop n cs) o plain

pub unsplit : (cs : List ℕ) (n : ℕ) → is_joined (drop n cs) ≡ false → is_split cs n ≡ false
unfolding is_split
unsplit cs n h = ap (λ t. t && is_longer n (operator_of (joined_at n cs))) h

pub open_leads : (d : Bool) (cs : List ℕ) → lead_at (40 ∷ cs) (Named d) 0 ≡ lead.Operator op.LeftParenthesis
unfolding lead_at lead_of operator_lead operator_of longest is_split whole_operator
open_leads d cs = ap (λ t. cond t (lead.LeftOut form.Continuation) (lead.Operator op.LeftParenthesis)) (and-false (is_joined cs))

pub opening_leads : (cs : List ℕ) → Gap cs → lead_at (40 ∷ cs) First 0 ≡ lead.Operator op.LeftParenthesis
unfolding lead_at lead_of operator_lead operator_of longest is_split whole_operator opening is_first joined_length
opening_leads _ (blank {r = []}) = refl
opening_leads _ (blank {r = c ∷ cs}) = refl
opening_leads _ (line {r = []}) = refl
opening_leads _ (line {r = c ∷ cs}) = refl

-- whichever lead it is where a command may begin
open_first : (f : Lead → Bool) → f (lead.LeftOut form.DoubleParenthesis) ≡ false → f (lead.LeftOut form.Continuation) ≡ false → f (lead.Operator op.LeftParenthesis) ≡ false
    → (cs : List ℕ) → f (lead_at (40 ∷ cs) First 0) ≡ false
unfolding lead_at lead_of operator_lead operator_of longest is_split whole_operator opening
open_first f double joined plain cs =
    ap (λ t. f (cond t (lead.LeftOut form.Continuation) (opening cs))) (and-false (is_joined cs)) ∙ go (is_first is_parenthesis cs) (is_first is_parenthesis (behind_joined cs))
  where
    go : (t u : Bool) → f (cond t (lead.LeftOut form.DoubleParenthesis) (cond u (lead.LeftOut form.Continuation) (lead.Operator op.LeftParenthesis))) ≡ false
    go true u = double
    go false true = joined
    go false false = plain

pub open_is_no_esac : (cs : List ℕ) → is_esac (lead_at (40 ∷ cs) First 0) ≡ false
open_is_no_esac cs = open_first is_esac refl refl refl cs

pub open_straight : (cs : List ℕ) → is_newline_lead (lead_at (40 ∷ cs) First 0) ≡ false
open_straight cs = open_first is_newline_lead refl refl refl cs

pub newline_leads : (g : Stage) (cs : List ℕ) → lead_at (10 ∷ cs) g 0 ≡ lead.Newline
unfolding lead_at lead_of operator_of longest is_first
newline_leads g cs = lead_inside g 10 cs refl

pub end_leads : (g : Stage) → lead_at [] g 0 ≡ lead.End
unfolding lead_at lead_of operator_of longest
end_leads g = refl

pub background_leads : (g : Stage) (cs : List ℕ) → Gap cs → lead_at (38 ∷ cs) g 0 ≡ lead.Operator op.And
unfolding operator_of longest
background_leads g _ (blank {r = r}) = operator_leads g (38 ∷ 32 ∷ r) op.And 1 refl (unsplit (38 ∷ 32 ∷ r) 1 (unjoined 32 r refl)) refl
background_leads g _ (line {r = r}) = operator_leads g (38 ∷ 10 ∷ r) op.And 1 refl (unsplit (38 ∷ 10 ∷ r) 1 (unjoined 10 r refl)) refl

pub bar_leads : (g : Stage) (cs : List ℕ) → Gap cs → lead_at (124 ∷ cs) g 0 ≡ lead.Operator op.Bar
unfolding operator_of longest
bar_leads g _ (blank {r = r}) = operator_leads g (124 ∷ 32 ∷ r) op.Bar 1 refl (unsplit (124 ∷ 32 ∷ r) 1 (unjoined 32 r refl)) refl
bar_leads g _ (line {r = r}) = operator_leads g (124 ∷ 10 ∷ r) op.Bar 1 refl (unsplit (124 ∷ 10 ∷ r) 1 (unjoined 10 r refl)) refl

gap_unjoined : (cs : List ℕ) → Gap cs → is_joined cs ≡ false
gap_unjoined _ (blank {r = r}) = unjoined 32 r refl
gap_unjoined _ (line {r = r}) = unjoined 10 r refl

-- an operator of two bytes
pub double_leads : (g : Stage) (c d : ℕ) (o : Operator) (cs : List ℕ) → ((r : List ℕ) → operator_of (c ∷ d ∷ r) ≡ Some (o, 2)) → opens o ≡ false → Gap cs
    → lead_at (c ∷ d ∷ cs) g 0 ≡ lead.Operator o
double_leads g c d o cs is plain gap = operator_leads g (c ∷ d ∷ cs) o 2 (is cs) (unsplit (c ∷ d ∷ cs) 2 (gap_unjoined cs gap)) plain

pub and_leads : (g : Stage) (cs : List ℕ) → Gap cs → lead_at (38 ∷ 38 ∷ cs) g 0 ≡ lead.Operator op.AndIf
unfolding operator_of longest
and_leads g cs gap = double_leads g 38 38 op.AndIf cs (λ r. refl) refl gap

pub or_leads : (g : Stage) (cs : List ℕ) → Gap cs → lead_at (124 ∷ 124 ∷ cs) g 0 ≡ lead.Operator op.OrIf
unfolding operator_of longest
or_leads g cs gap = double_leads g 124 124 op.OrIf cs (λ r. refl) refl gap

pub break_leads : (g : Stage) (cs : List ℕ) → Gap cs → lead_at (59 ∷ 59 ∷ cs) g 0 ≡ lead.Operator op.DoubleSemicolon
unfolding operator_of longest
break_leads g cs gap = double_leads g 59 59 op.DoubleSemicolon cs (λ r. refl) refl gap

pub through_leads : (g : Stage) (cs : List ℕ) → Gap cs → lead_at (59 ∷ 38 ∷ cs) g 0 ≡ lead.Operator op.SemicolonAnd
unfolding operator_of longest
through_leads g cs gap = double_leads g 59 38 op.SemicolonAnd cs (λ r. refl) refl gap
