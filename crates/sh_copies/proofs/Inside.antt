-- What begins in a text ends in it.
-- POSIX.1-2024, XCU 2.2 (quoting), 2.6 (word expansions).
use Rattle.std.proofs.Common.{◌≡◌, ℕ, ◌+◌, ◌-◌, ◌<◌, ◌≤◌, ◌==◌, Bool, true, false, not, ◌&&◌, ◌||◌, if◌then◌else◌, List, [], ◌∷◌, ◌++◌, length, drop, take, Option, Some, None, refl, sym, ap, ◌∙◌, subst, arith, length-drop, length-take, nat_lt, ⊎_elim}
use Rattle.std.proofs.lemmas.Bool.{true≢false, cond_both, cases_lt, ltb-true}
use Rattle.std.proofs.lemmas.List.{drop_all}
use Rattle.sh_tree.specs.declared.tree.Action.{Action}
use Rattle.sh_tree.specs.declared.tree.Special.{Special as SpecialParameter}
use Rattle.sh_tree.specs.declared.tree.Subject.{Subject}
use Rattle.sh_tree.specs.declared.token.word.Context.{Context}
use Rattle.sh_tree.specs.declared.token.word.Sign.{Sign}
use Rattle.sh_tree.specs.declared.token.word.Sign.TheVariants as sign
use Rattle.sh_tree.specs.declared.token.word.Site.{Site}
use Rattle.sh_tree.specs.declared.token.word.Site.TheVariants as site
use Rattle.sh_tree.specs.standard.language.Bytes.{is_tab, is_newline, is_name_byte, is_name_start, is_joined, behind_joined, is_first, is_last_backquote, run, name_length}
use Rattle.sh_tree.specs.standard.language.Words as words
use Rattle.sh_tree.specs.declared.tree.Binary.{Binary}
use Rattle.sh_tree.specs.declared.tree.CommandStyle.{CommandStyle}
use Rattle.sh_tree.specs.declared.tree.CommandStyle.TheVariants.{Paren, Backquote}
use Rattle.sh_tree.specs.declared.tree.Expr.{Expr}
use Rattle.sh_tree.specs.declared.tree.ParameterOperator.TheVariants as operator
use Rattle.sh_tree.specs.declared.tree.Part.{Part}
use Rattle.sh_tree.specs.declared.tree.Span.{Span}
use Rattle.sh_tree.specs.declared.token.arithmetic.Figure.{Figure}
use Rattle.sh_tree.specs.standard.language.Arithmetic.{lexeme, is_closed}
use Rattle.sh_tree.specs.standard.language.Parts.{singles, singles_in, expression_singles}
use Rattle.sh_tree.specs.standard.language.Reading as r
use Rattle.sh_tree.specs.standard.language.Reading.{over, ReadsParts, ReadsPart, ReadsExpression, ReadsConditional, ReadsLevel, ReadsOperands, ReadsUnary, figure_span}
use Rattle.sh_tree.specs.standard.language.States.{Spot}
use Rattle.sh_tree.specs.standard.language.Substitutions.{closes, commands_text, backquote_end}
use Rattle.sh_tree.specs.standard.language.Trees as tree
use Rattle.sh_tree.specs.standard.language.Trees.{span}
use Rattle.sh_bodies.specs.Singles.{chained}
use Rattle.sh_bodies.proofs.SingleLemmas.{of_plain, of_escaped, of_joined, of_single, of_tilde, of_double, of_param, of_value, of_length, of_use, of_remove, of_arith, of_command, of_constant, of_variable, of_expansion, of_parenthesis, of_unary, of_choice, of_assign, of_operands}
use Rattle.sh_tree.proofs.FirstLemmas.{first_some}
use Rattle.sh_reads.proofs.FrontLemmas.{run_within}
use Rattle.sh_reads.proofs.TakeLemmas.{is_part, token_takes, part_begins}

-- a sign that is read
abbrev pub is_read : Sign → Bool
is_read sign.Open = false
is_read (sign.Fault f) = false
is_read (sign.LeftOut f) = false
is_read _ = true

-- if it is read, it takes at most n bytes
record Fits (n : ℕ) (found : Sign × ℕ) : Type 0 where
  fits : is_read found.0 ≡ true → found.1 ≤ n

none : {n : ℕ} {found : Sign × ℕ} → is_read found.0 ≡ false → Fits n found
none e = record { fits = λ h. absurd (true≢false (sym h ∙ e)) }

most : {n : ℕ} {found : Sign × ℕ} → found.1 ≤ n → Fits n found
most l = record { fits = λ h. l }

pick : (n : ℕ) (t : Bool) (f g : Sign × ℕ) → (t ≡ true → Fits n f) → (t ≡ false → Fits n g) → Fits n (if t then f else g)
pick n t f g h k = cond_both {A = Sign × ℕ} t f g (Fits n) h k

misfit_fits : (n k : ℕ) (rest : List ℕ) → Fits n (words.misfit k rest)
unfolding words.misfit
misfit_fits n k rest = pick n (length rest == 0) _ _ (λ e. none refl) (λ e. pick n (is_joined rest) _ _ (λ e. none refl) (λ e. pick n (length rest == 1 && is_first (λ c. c == 92) rest) _ _ (λ e. none refl) (λ e. none refl)))

removal_fits : (n : ℕ) (p : Subject) (k : ℕ) (rest : List ℕ) → k + length rest ≤ n → Fits n (words.pattern_removal p k rest)
unfolding words.pattern_removal
removal_fits n p k [] l = misfit_fits n k []
removal_fits n p k (c ∷ rest) l =
    pick n (c == 37) _ _ (λ e. pick n (is_first (λ d. d == 37) rest) _ _ (λ f. most (let some = first_some _ rest f in omega arith)) (λ f. most (omega arith)))
    (λ e. pick n (c == 35) _ _ (λ e. pick n (is_first (λ d. d == 35) rest) _ _ (λ f. most (let some = first_some _ rest f in omega arith)) (λ f. most (omega arith))) (λ e. misfit_fits n k (c ∷ rest)))

action_fits : (n : ℕ) (colon : Bool) (p : Subject) (k : ℕ) (rest : List ℕ) (o : Option Action) → k + length rest ≤ n → 0 < length rest → Fits n (words.action_by colon p k rest o)
action_fits n colon p k rest (Some o) l some = most (omega arith)
action_fits n colon p k rest None l some = pick n colon _ _ (λ e. misfit_fits n k rest) (λ e. removal_fits n p k rest l)

parameter_fits : (n : ℕ) (colon : Bool) (p : Subject) (k : ℕ) (rest : List ℕ) → k + length rest ≤ n → Fits n (words.parameter_action colon p k rest)
unfolding words.parameter_action
parameter_fits n colon p k [] l = misfit_fits n k []
parameter_fits n colon p k (c ∷ rest) l = action_fits n colon p k (c ∷ rest) (words.action_of c) l (omega arith)

operator_fits : (n : ℕ) (p : Subject) (k : ℕ) (rest : List ℕ) → k + length rest ≤ n → Fits n (words.parameter_operator p k rest)
unfolding words.parameter_operator
operator_fits n p k rest l =
    pick n (words.closes rest) _ _ (λ f. most (let some = first_some _ rest f in omega arith))
    (λ e. pick n (is_first (λ c. c == 58) rest) _ _ (λ f. let some = first_some _ rest f in let less = length-drop 1 rest in parameter_fits n true p (k + 1) (drop 1 rest) (omega arith)) (λ f. parameter_fits n false p k rest l))

-- nothing goes on after the end
nothing_fits : (n : ℕ) (p : Subject) (k : ℕ) → Fits n (words.parameter_operator p k [])
unfolding words.parameter_operator words.parameter_action is_first
nothing_fits n p k = misfit_fits n k []

counted_fits : (n : ℕ) (rest : List ℕ) (o : Option (Subject × ℕ)) → 3 + length rest ≤ n → Fits n (words.length_by rest o)
counted_fits n rest (Some p) l = pick n (words.closes (drop p.1 rest)) _ _ (λ f. most (let some = first_some _ (drop p.1 rest) f in let less = length-drop p.1 rest in omega arith)) (λ e. misfit_fits n (p.1 + 3) (drop p.1 rest))
counted_fits n rest None l = misfit_fits n 3 rest

special_fits : (n i : ℕ) (rest : List ℕ) (o : Option SpecialParameter) → 2 + length rest ≤ n → Fits n (words.specially i rest o)
special_fits n i rest (Some p) l = pick n (words.closes (drop 1 rest)) _ _ (λ f. most (let some = first_some _ (drop 1 rest) f in let less = length-drop 1 rest in omega arith)) (λ e. misfit_fits n 3 (drop 1 rest))
special_fits n i rest None l = misfit_fits n 2 rest

special_or_length_fits : (n i : ℕ) (rest : List ℕ) → 2 + length rest ≤ n → Fits n (words.special_or_length i rest)
unfolding words.special_or_length words.parameter_length
special_or_length_fits n i [] l = misfit_fits n 2 []
special_or_length_fits n i (c ∷ rest) l =
    pick n (c == 35 && not (words.closes rest)) _ _ (λ e. counted_fits n rest (words.parameter (i + 3) rest) (omega arith)) (λ e. special_fits n (i + 2) (c ∷ rest) (words.special_of c) l)

braced_fits : (n i : ℕ) (cs : List ℕ) (o : Option (Subject × ℕ)) → 2 + length cs ≤ n → Fits n (words.braced_expansion_by i cs o)
braced_fits n i cs (Some p) l = ⊎_elim
    (λ past. let none : drop p.1 cs ≡ [] = drop_all p.1 cs (omega arith) in subst (λ t. Fits n (words.parameter_operator p.0 (p.1 + 2) t)) (sym none) (nothing_fits n p.0 (p.1 + 2)))
    (λ within. let less = length-drop p.1 cs in operator_fits n p.0 (p.1 + 2) (drop p.1 cs) (omega arith))
    (cases_lt (length cs) p.1)
braced_fits n i cs None l = special_or_length_fits n i cs l

told_fits : (k m n : ℕ) (found : Sign × ℕ) → k + m ≤ n → Fits m found → Fits n (words.told_or k found)
told_fits k m n (sign.Single s, j) l h = let inner : j ≤ m = h.fits refl in most (omega arith)
told_fits k m n (sign.LeftOut f, j) l h = none refl
told_fits k m n (g, j) l h = record { fits = λ e. let inner : j ≤ m = h.fits e in omega arith }

quoted_fits : (cs : List ℕ) → Fits (length cs) (words.dollar_quoted cs)
unfolding words.dollar_quoted
quoted_fits [] = none refl
quoted_fits (c ∷ []) = pick 1 (c == 39) _ _ (λ e. most (omega arith)) (λ e. none refl)
quoted_fits (c ∷ d ∷ cs) =
    let n = length (c ∷ d ∷ cs) in
    pick n (c == 39) _ _ (λ e. most (omega arith))
    (λ e. pick n (c == 92) _ _ (λ e. pick n (words.is_dollar_escape d) _ _ (λ e. told_fits 2 (length cs) n (words.dollar_quoted cs) (omega arith) (quoted_fits cs)) (λ e. none refl))
    (λ e. told_fits 1 (length (d ∷ cs)) n (words.dollar_quoted (d ∷ cs)) (omega arith) (quoted_fits (d ∷ cs))))

name_within : (cs : List ℕ) → name_length cs ≤ length cs
unfolding name_length
name_within cs = cond_both {A = ℕ} (is_first is_name_start cs) _ _ (λ n. n ≤ length cs) (λ e. run_within is_name_byte cs) (λ e. omega arith)

expansion_fits : (i : ℕ) (cs : List ℕ) → Fits (length cs + 1) (words.dollar_expansion i cs)
unfolding words.dollar_expansion words.named_value words.braced_expansion words.parenthesis words.single_parameter
expansion_fits i [] = most (omega arith)
expansion_fits i (c ∷ rest) =
    let n = length (c ∷ rest) + 1 in
    let name = name_within (c ∷ rest) in
    pick n (is_name_start c) _ _ (λ e. pick n (is_joined (drop (name_length (c ∷ rest)) (c ∷ rest)) && is_first is_name_byte (behind_joined (drop (name_length (c ∷ rest)) (c ∷ rest)))) _ _ (λ e. none refl) (λ e. most (omega arith)))
    (λ e. pick n (c == 123) _ _ (λ e. braced_fits n i rest (words.parameter (i + 2) rest) (omega arith))
    (λ e. pick n (c == 40) _ _ (λ e. pick n (is_first (λ c. c == 40) rest) _ _ (λ f. most (let some = first_some _ rest f in omega arith)) (λ e. pick n (is_first (λ c. c == 40) (behind_joined rest)) _ _ (λ e. none refl) (λ e. most (omega arith))))
    (λ e. pick n (c == 91) _ _ (λ e. none refl)
    (λ e. pick n (c == 39) _ _ (λ e. told_fits 2 (length rest) n (words.dollar_quoted rest) (omega arith) (quoted_fits rest)) (λ e. pick n (c == 34) _ _ (λ e. none refl) (λ e. most (omega arith)))))))

dollar_fits : (x : Context) (i : ℕ) (cs : List ℕ) → Fits (length cs + 1) (words.dollar x i cs)
unfolding words.dollar
dollar_fits x i cs = pick (length cs + 1) (is_joined cs) _ _ (λ e. none refl) (λ e. pick (length cs + 1) (words.is_all (words.dollar_expansion i cs).0 && not x.fields) _ _ (λ e. none refl) (λ e. expansion_fits i cs))

backslash_fits : (x : Context) (cs : List ℕ) → Fits (length cs + 1) (words.backslash x cs)
unfolding words.backslash words.continuation
backslash_fits x [] = none refl
backslash_fits x (c ∷ rest) =
    let n = length (c ∷ rest) + 1 in
    pick n (is_newline c) _ _
    (λ e. pick n (words.is_quoted x.site) _ _ (λ e. pick n (x.strip && is_first is_tab rest) _ _ (λ e. none refl) (λ e. most (omega arith))) (λ e. pick n (words.is_word_site x.site && words.ends_joined rest) _ _ (λ e. most (omega arith)) (λ e. none refl)))
    (λ e. pick n (words.is_default_site x.site && c == 125) _ _ (λ e. none refl) (λ e. pick n (words.is_default_site x.site && x.body && c == 34) _ _ (λ e. none refl) (λ e. most (omega arith))))

single_fits : (cs : List ℕ) → Fits (length cs + 1) (words.single cs)
unfolding words.single
single_fits cs = pick (length cs + 1) (nat_lt (run (λ c. not (c == 39)) cs) (length cs)) _ _ (λ e. most (let less : run (λ c. not (c == 39)) cs < length cs = ltb-true _ _ e in omega arith)) (λ e. none refl)

backquoted_fits : (x : Context) (cs : List ℕ) → Fits (length cs + 1) (words.backquoted x cs)
unfolding words.backquoted
backquoted_fits x cs = pick (length cs + 1) (words.is_word_site x.site && length cs == 0) _ _ (λ e. most (omega arith)) (λ e. pick (length cs + 1) x.backquotes _ _ (λ e. most (omega arith)) (λ e. none refl))

meant_fits : (x : Context) (i c : ℕ) (cs : List ℕ) → Fits (length cs + 1) (words.meant_by x i c cs)
unfolding words.meant_by
meant_fits x i c cs =
    let n = length cs + 1 in
    pick n (c == 92) _ _ (λ e. backslash_fits x cs)
    (λ e. pick n (c == 39) _ _ (λ e. single_fits cs)
    (λ e. pick n (c == 34) _ _ (λ e. pick n (words.is_default_site x.site) _ _ (λ e. none refl) (λ e. most (omega arith))) (λ e. pick n (c == 96) _ _ (λ e. backquoted_fits x cs) (λ e. dollar_fits x i cs))))

plain_within : (x : Context) (prior i : ℕ) (cs : List ℕ) → words.plain_length x prior i cs ≤ length cs
unfolding words.plain_length
plain_within x prior i [] = omega arith
plain_within x prior i (c ∷ cs) = let rest = plain_within x c (i + 1) cs in cond_both {A = ℕ} (words.stands x prior i c cs) _ _ (λ n. n ≤ length (c ∷ cs)) (λ e. omega arith) (λ e. omega arith)

tilde_within : (x : Context) (cs : List ℕ) → words.tilde_length x cs ≤ length cs + 1
unfolding words.tilde_length
tilde_within x cs =
    let most = run_within words.is_login_byte cs in
    let rest = drop (run words.is_login_byte cs) cs in
    cond_both {A = ℕ} (length rest == 0 || is_first (λ c. c == 47 || (x.colons && c == 58) || words.stops x.site c) rest || is_joined rest || is_last_backquote rest) _ _ (λ n. n ≤ length cs + 1)
    (λ e. omega arith) (λ e. omega arith)

stop_within : (s : Site) → words.stop_length s ≤ 1
stop_within site.Word = omega arith
stop_within site.Double = omega arith
stop_within site.Braced = omega arith
stop_within site.QuotedBraced = omega arith
stop_within site.Body = omega arith
stop_within site.Verbatim = omega arith

sign_fits : (x : Context) (prior i : ℕ) (cs : List ℕ) → Fits (length cs) (words.sign_of x prior i cs)
unfolding words.sign_of words.sign_by
sign_fits x prior i [] = most (omega arith)
sign_fits x prior i (c ∷ cs) =
    let n = length (c ∷ cs) in
    let stop = stop_within x.site in
    let tabs = run_within is_tab cs in
    let tilde = tilde_within x cs in
    pick n (words.stops x.site c) _ _ (λ e. most (omega arith))
    (λ e. pick n (words.is_stripped x prior c) _ _ (λ e. most (omega arith))
    (λ e. pick n (words.stands x prior i c cs) _ _ (λ e. most (plain_within x prior i (c ∷ cs)))
    (λ e. pick n (c == 126) _ _ (λ e. most (omega arith)) (λ e. let rest = meant_fits x i c cs in record { fits = λ h. let k = rest.fits h in omega arith }))))

-- a token that is read ends in the text
pub token_inside : (b : List ℕ) (x : Context) (prior i : ℕ) → i ≤ length b → is_read (words.token b x prior i).sign ≡ true → (words.token b x prior i).end ≤ length b
unfolding words.token
token_inside b x prior i l h = let k = (sign_fits x prior i (drop i b)).fits h in let less = length-drop i b in omega arith

-- Spans

-- the spans end in a text of n bytes
pub data Inside (n : ℕ) : List Span → Type 0 where
  no_span : Inside n []
  more_spans : {s : Span} {ss : List Span} → s.end ≤ n → Inside n ss → Inside n (s ∷ ss)

inside_both : {n : ℕ} {ss ts : List Span} → Inside n ss → Inside n ts → Inside n (ss ++ ts)
inside_both no_span k = k
inside_both (more_spans l h) k = more_spans l (inside_both h k)

as_spans : {n : ℕ} (ss ts : List Span) → ss ≡ ts → Inside n ts → Inside n ss
as_spans {n = n} ss ts e h = subst (Inside n) (sym e) h

part_is_read : {limit : ℕ} {b : List ℕ} {x : Context} {g : Sign} {s u : Spot} {e : ℕ} {p : Part} → ReadsPart limit b x g s e u p → is_read g ≡ true
part_is_read r.plain = refl
part_is_read r.escaped = refl
part_is_read r.joined = refl
part_is_read r.single_quoted = refl
part_is_read r.tilde = refl
part_is_read (r.double_quoted i) = refl
part_is_read r.value = refl
part_is_read r.length_value = refl
part_is_read (r.use_word d i) = refl
part_is_read (r.removal d i) = refl
part_is_read (r.arithmetic d i h c) = refl
part_is_read (r.substitution d k i c) = refl

-- a byte is before the end
byte_inside : (p : ℕ → Bool) (b : List ℕ) (i : ℕ) → is_first p (drop i b) ≡ true → i + 1 ≤ length b
byte_inside p b i h = let some = first_some p (drop i b) h in let less = length-drop i b in omega arith

closes_inside : (style : CommandStyle) (b : List ℕ) (e i : ℕ) → closes style (commands_text style b e) i ≡ true → i + 1 ≤ length b
unfolding closes is_closed commands_text is_last_backquote
closes_inside Paren b e i h = byte_inside (λ c. c == 41) b i h
closes_inside Backquote b e i h =
    let text = take (backquote_end b e) b in
    let some = last_some (drop i text) h in
    let less = length-drop i text in
    let long = length-take (backquote_end b e) b in
    omega arith
  where
    last_some : (cs : List ℕ) → is_last_backquote cs ≡ true → 0 < length cs
    last_some [] k = absurd (true≢false (sym k))
    last_some (c ∷ cs) k = omega arith

closed_inside : (b : List ℕ) (i : ℕ) → is_closed b i ≡ true → i + 1 ≤ length b
unfolding is_closed
closed_inside b i h = byte_inside (λ c. c == 41) b i h

module _ {limit : ℕ} {b : List ℕ} where
  mutual
    unfolding singles chained

    -- the reading ends in the text, and so do its single quotes
    pub parts_inside : {x : Context} {prior : ℕ} {s u : Spot} {ps : List Part} → ReadsParts limit b x prior s u ps → s.at ≤ length b → (u.at ≤ length b) × Inside (length b) (singles ps)
    parts_inside (r.stop {x = x} {prior = prior} {s = s} h) l = (token_inside b x prior s.at l (ap is_read h), no_span)
    parts_inside (r.tabs {x = x} {prior = prior} {s = s} h i) l = parts_inside i (token_inside b x prior s.at l (ap is_read h))
    parts_inside (r.more {x = x} {prior = prior} {s = s} h i j) l =
        let piece = part_inside i (token_inside b x prior s.at l (ap is_read h ∙ part_is_read i)) in
        let rest = parts_inside j piece.0 in
        (rest.0, inside_both piece.1 rest.1)

    pub part_inside : {x : Context} {g : Sign} {s u : Spot} {e : ℕ} {p : Part} → ReadsPart limit b x g s e u p → e ≤ length b → (u.at ≤ length b) × Inside (length b) (singles_in p)
    part_inside (r.plain {s = s} {e = e}) l = (l, as_spans _ _ (of_plain (span s.at e)) no_span)
    part_inside (r.escaped {s = s} {e = e}) l = (l, as_spans _ _ (of_escaped (span s.at e)) no_span)
    part_inside (r.joined {s = s} {e = e}) l = (l, as_spans _ _ (of_joined (span s.at e)) no_span)
    part_inside (r.single_quoted {s = s} {e = e} {style = style}) l = (l, as_spans _ _ (of_single style (span s.at e)) (more_spans l no_span))
    part_inside (r.tilde {s = s} {e = e}) l = (l, as_spans _ _ (of_tilde (span s.at e)) no_span)
    part_inside (r.double_quoted {s = s} {u = u} {ps = ps} i) l = let m = parts_inside i l in (m.0, as_spans _ _ (of_double (span s.at u.at) ps) m.1)
    part_inside (r.value {s = s} {e = e} {p = p}) l = (l, as_spans _ _ (of_param (record { span = span s.at e; subject = p; operator = operator.Value }) ∙ of_value) no_span)
    part_inside (r.length_value {s = s} {e = e} {p = p}) l = (l, as_spans _ _ (of_param (record { span = span s.at e; subject = p; operator = operator.Length }) ∙ of_length) no_span)
    part_inside (r.use_word {s = s} {u = u} {e = e} {p = p} {a = a} {colon = colon} {ps = ps} d i) l =
        let m = parts_inside i l in
        let w = tree.word e (u.at - 1) ps in
        (m.0, as_spans _ _ (of_param (record { span = span s.at u.at; subject = p; operator = operator.Use a colon w }) ∙ of_use a colon w) m.1)
    part_inside (r.removal {s = s} {u = u} {e = e} {p = p} {r = o} {ps = ps} d i) l =
        let m = parts_inside i l in
        let w = tree.word e (u.at - 1) ps in
        (m.0, as_spans _ _ (of_param (record { span = span s.at u.at; subject = p; operator = operator.Remove o w }) ∙ of_remove o w) m.1)
    part_inside (r.arithmetic {s = s} {u = u} {a = a} d i h c) l =
        let k = closed_inside b (over b u).at c in
        (k, as_spans _ _ (of_arith (span s.at ((over b u).at + 1)) a) (expression_inside i))
    part_inside (r.substitution {s = s} {u = u} {e = e} {style = style} {t = t} d k i c) l =
        (closes_inside style b e u.at c, as_spans _ _ (of_command style (span s.at (u.at + 1)) t) no_span)

    expression_inside : {x : Context} {s u : Spot} {e : Expr} → ReadsExpression limit b x s u e → Inside (length b) (expression_singles e)
    expression_inside (r.assignment {s = s} {o = o} {e = e} n a d i) = as_spans _ _ (of_assign (figure_span b s) o e) (expression_inside i)
    expression_inside (r.no_assignment h i) = conditional_inside i

    conditional_inside : {x : Context} {s u : Spot} {e : Expr} → ReadsConditional limit b x s u e → Inside (length b) (expression_singles e)
    conditional_inside (r.one_level i h) = level_inside i
    conditional_inside (r.choice {c = c} {y = y} {n = n} i h d j k l) =
        as_spans _ _ (of_choice c y n) (inside_both (inside_both (level_inside i) (expression_inside j)) (conditional_inside l))

    level_inside : {x : Context} {l : ℕ} {s u : Spot} {e : Expr} → ReadsLevel limit b x l s u e → Inside (length b) (expression_singles e)
    level_inside (r.chain {e = e} {es = es} l i j) = as_spans _ _ (of_operands e es) (inside_both (level_inside i) (operands_inside j))
    level_inside (r.operand l h i) = unary_inside i

    operands_inside : {x : Context} {l : ℕ} {s u : Spot} {es : List (Binary × Expr)} → ReadsOperands limit b x l s u es → Inside (length b) (chained es)
    operands_inside (r.no_operand h) = no_span
    operands_inside (r.more_operands h i j) = inside_both (level_inside i) (operands_inside j)

    unary_inside : {x : Context} {g : Figure} {s u : Spot} {e : Expr} → ReadsUnary limit b x g s u e → Inside (length b) (expression_singles e)
    unary_inside (r.constant {s = s}) = as_spans _ _ (of_constant (figure_span b s)) no_span
    unary_inside (r.variable {s = s}) = as_spans _ _ (of_variable (figure_span b s)) no_span
    unary_inside (r.signed {o = o} {e = e} h d i) = as_spans _ _ (of_unary o e) (level_inside i)
    unary_inside (r.parenthesis {e = e} d i h) = as_spans _ _ (of_parenthesis e) (expression_inside i)
    unary_inside (r.expansion {x = x} {s = s} {p = p} h k i) =
        let at = (lexeme b s.at).start in
        let takes = token_takes b x 0 at (subst (λ g. is_part g ≡ true) (sym h) (part_begins i)) in
        let less = takes.1 in
        as_spans _ _ (of_expansion p) (part_inside i (token_inside b x 0 at (omega arith) (ap is_read h ∙ part_is_read i))).1
