-- An unquoted delimiter has no backslash.
-- POSIX.1-2024, XCU 2.2.1 (escape character), 2.7.4 (here-document).
use Rattle.std.proofs.Common.{◌≡◌, ℕ, zero, suc, ◌+◌, ◌-◌, ◌==◌, Bool, true, false, ◌||◌, if◌then◌else◌, List, [], ◌∷◌, drop, take, Option, Some, None, refl, sym, ap, ◌∙◌, subst, arith}
use Rattle.std.specs.List.{list_any}
use Rattle.std.proofs.lemmas.Bool.{true≢false, and_parts, eqb-true, or_parts}
use Rattle.std.proofs.lemmas.Bool.Decides.{nat_tests}
use Rattle.std.proofs.lemmas.List.Folds.{list_any-append}
use Rattle.sh_tree.specs.declared.tree.Action.{Action}
use Rattle.sh_tree.specs.declared.tree.Special.{Special}
use Rattle.sh_tree.specs.declared.tree.Subject.{Subject}
use Rattle.sh_tree.specs.declared.tree.Part.{Part}
use Rattle.sh_tree.specs.declared.tree.Word.{Word}
use Rattle.sh_tree.specs.declared.token.word.Context.{Context}
use Rattle.sh_tree.specs.declared.token.word.Site.TheVariants as site
use Rattle.sh_tree.specs.declared.token.word.Sign.{Sign}
use Rattle.sh_tree.specs.declared.token.word.Sign.TheVariants as sign
use Rattle.sh_tree.specs.standard.Tree.{text_of}
use Rattle.sh_tree.specs.standard.Words.{both_texts, part_text, parts_text}
use Rattle.sh_tree.specs.standard.language.Bytes.{is_backslash, is_tab, run}
use Rattle.sh_tree.specs.standard.language.Contexts.{in_unsplit}
use Rattle.sh_tree.specs.standard.language.HereDocuments.{delimiter_of, is_delimiter, is_static, or_none}
use Rattle.sh_tree.specs.standard.language.Parts.{is_quotation, is_quoted_word}
use Rattle.sh_tree.specs.standard.language.Reading as r
use Rattle.sh_tree.specs.standard.language.Reading.{ReadsPart, ReadsParts, ReadsWord, sign_at, after}
use Rattle.sh_tree.specs.standard.language.States.{Spot}
use Rattle.sh_tree.specs.standard.language.Trees.{span}
use Rattle.sh_tree.specs.standard.language.Words as words
use Rattle.sh_copies.specs.Copied.{IsMark}
use Rattle.sh_copies.proofs.AlikeBytes.{by_bool}
use Rattle.sh_copies.proofs.AlikePlain.{plain_yes, plain_no}
use Rattle.sh_copies.proofs.CopiedBare.{backslash_stands}

-- What a `$` begins is no plain part

abbrev is_plain : Sign × ℕ → Bool
is_plain (sign.Plain, n) = true
is_plain found = false

misfit_part : (k : ℕ) (rest : List ℕ) → is_plain (words.misfit k rest) ≡ false
unfolding words.misfit
misfit_part k rest = grind (arith, nat_tests)

removal_part : (p : Subject) (k : ℕ) (rest : List ℕ) → is_plain (words.pattern_removal p k rest) ≡ false
unfolding words.pattern_removal
removal_part p k [] = misfit_part k []
removal_part p k (c ∷ rest) = grind (arith, nat_tests, misfit_part k (c ∷ rest))

action_by_part : (colon : Bool) (p : Subject) (k : ℕ) (rest : List ℕ) (a : Option Action) → is_plain (words.action_by colon p k rest a) ≡ false
action_by_part colon p k rest (Some a) = refl
action_by_part colon p k rest None = grind (arith, nat_tests, misfit_part k rest, removal_part p k rest)

action_part : (colon : Bool) (p : Subject) (k : ℕ) (rest : List ℕ) → is_plain (words.parameter_action colon p k rest) ≡ false
unfolding words.parameter_action
action_part colon p k [] = misfit_part k []
action_part colon p k (c ∷ rest) = action_by_part colon p k (c ∷ rest) (words.action_of c)

operator_part : (p : Subject) (k : ℕ) (rest : List ℕ) → is_plain (words.parameter_operator p k rest) ≡ false
unfolding words.parameter_operator
operator_part p k rest = grind (arith, nat_tests, action_part true p (k + 1) (drop 1 rest), action_part false p k rest)

length_part : (rest : List ℕ) (p : Option (Subject × ℕ)) → is_plain (words.length_by rest p) ≡ false
length_part rest (Some p) = grind (arith, nat_tests, misfit_part (p.1 + 3) (drop p.1 rest))
length_part rest None = misfit_part 3 rest

special_part : (i : ℕ) (rest : List ℕ) (p : Option Special) → is_plain (words.specially i rest p) ≡ false
special_part i rest (Some p) = grind (arith, nat_tests, misfit_part 3 (drop 1 rest))
special_part i rest None = misfit_part 2 rest

special_or_length_part : (i : ℕ) (rest : List ℕ) → is_plain (words.special_or_length i rest) ≡ false
unfolding words.special_or_length words.parameter_length
special_or_length_part i [] = misfit_part 2 []
special_or_length_part i (c ∷ rest) = grind (arith, nat_tests, length_part rest (words.parameter (i + 3) rest), special_part (i + 2) (c ∷ rest) (words.special_of c))

braced_part : (i : ℕ) (cs : List ℕ) (p : Option (Subject × ℕ)) → is_plain (words.braced_expansion_by i cs p) ≡ false
braced_part i cs (Some p) = operator_part p.0 (p.1 + 2) (drop p.1 cs)
braced_part i cs None = special_or_length_part i cs

told_part : (n : ℕ) (found : Sign × ℕ) → is_plain found ≡ false → is_plain (words.told_or n found) ≡ false
told_part n (sign.Single s, m) h = refl
told_part n (sign.LeftOut f, m) h = refl
told_part n found h = h

either : {A : Type 0} (f : A → Bool) (t : Bool) (x y : A) → f x ≡ false → f y ≡ false → f (if t then x else y) ≡ false
either f true x y h k = h
either f false x y h k = k

quoted_part : (cs : List ℕ) → is_plain (words.dollar_quoted cs) ≡ false
unfolding words.dollar_quoted
quoted_part [] = refl
quoted_part (c ∷ []) = either is_plain (c == 39) _ _ refl refl
quoted_part (c ∷ d ∷ cs) =
    either is_plain (c == 39) _ _ refl
    (either is_plain (c == 92) _ _ (either is_plain (words.is_dollar_escape d) _ _ (told_part 2 (words.dollar_quoted cs) (quoted_part cs)) refl)
    (told_part 1 (words.dollar_quoted (d ∷ cs)) (quoted_part (d ∷ cs))))

expansion_part : (i c : ℕ) (rest : List ℕ) → is_plain (words.dollar_expansion i (c ∷ rest)) ≡ false
unfolding words.dollar_expansion words.named_value words.braced_expansion words.parenthesis words.single_parameter
expansion_part i c rest = grind (arith, nat_tests, braced_part i rest (words.parameter (i + 2) rest), told_part 2 (words.dollar_quoted rest) (quoted_part rest))

dollar_part : (x : Context) (i c : ℕ) (rest : List ℕ) → is_plain (words.dollar x i (c ∷ rest)) ≡ false
unfolding words.dollar
dollar_part x i c rest = grind (arith, nat_tests, expansion_part i c rest)

-- Plain parts

plain_none : (x : Context) (prior i : ℕ) (cs : List ℕ) → x.site ≡ site.Word → list_any is_backslash (take (words.plain_length x prior i cs) cs) ≡ false
unfolding words.plain_length
plain_none x prior i [] word = refl
plain_none x prior i (c ∷ cs) word = by_bool (words.stands x prior i c cs)
    (λ yes.
    let long : words.plain_length x prior i (c ∷ cs) ≡ suc (words.plain_length x c (i + 1) cs) =
    plain_yes x prior i c cs yes ∙ (let n : 1 + words.plain_length x c (i + 1) cs ≡ suc (words.plain_length x c (i + 1) cs) = omega arith in n) in
    let other : is_backslash c ≡ false = by_bool (is_backslash c)
    (λ is. absurd (true≢false (sym yes ∙ subst (λ n. words.stands x prior i n cs ≡ false) (sym (eqb-true c 92 is)) (backslash_stands x prior i cs word)))) (λ no. no) in
    ap (λ n. list_any is_backslash (take n (c ∷ cs))) long ∙ ap (λ t. t || list_any is_backslash (take (words.plain_length x c (i + 1) cs) cs)) other ∙ plain_none x c (i + 1) cs word)
    (λ no. ap (λ n. list_any is_backslash (take n (c ∷ cs))) (plain_no x prior i c cs no))

-- what else begins in a word
backslash_part : (x : Context) (cs : List ℕ) → is_plain (words.backslash x cs) ≡ false
unfolding words.backslash words.continuation
backslash_part x [] = refl
backslash_part x (c ∷ cs) = grind (arith, nat_tests)

single_part : (cs : List ℕ) → is_plain (words.single cs) ≡ false
unfolding words.single
single_part cs = grind (arith, nat_tests)

backquoted_part : (x : Context) (cs : List ℕ) → is_plain (words.backquoted x cs) ≡ false
unfolding words.backquoted
backquoted_part x cs = grind (arith, nat_tests)

double_part : (x : Context) → is_plain (words.double x.site) ≡ false
double_part x = grind (arith, nat_tests)

byte_none : (n c : ℕ) → is_backslash c ≡ false → list_any is_backslash (take n (c ∷ [])) ≡ false
byte_none zero c h = refl
byte_none (suc n) c h = any_first c n h
  where
    any_first : (c n : ℕ) → is_backslash c ≡ false → list_any is_backslash (c ∷ take n []) ≡ false
    any_first c zero h = ap (λ t. t || false) h
    any_first c (suc n) h = ap (λ t. t || false) h

-- if the sign is that of a plain part, its bytes hold no backslash
abbrev HasNone : List ℕ → Sign × ℕ → Type 0
HasNone cs f = is_plain f ≡ true → list_any is_backslash (take f.1 cs) ≡ false

none_is : {f g : Sign × ℕ} (cs : List ℕ) → f ≡ g → HasNone cs g → HasNone cs f
none_is cs e h = subst (HasNone cs) (sym e) h

no_part : (cs : List ℕ) (f : Sign × ℕ) → is_plain f ≡ false → HasNone cs f
no_part cs f h is = absurd (true≢false (sym is ∙ h))

dollar_none : (x : Context) (i c : ℕ) (cs : List ℕ) → is_backslash c ≡ false → HasNone (c ∷ cs) (words.dollar x i cs)
dollar_none x i c [] h is = byte_none (words.dollar x i []).1 c h
dollar_none x i c (d ∷ ds) h is = no_part (c ∷ d ∷ ds) (words.dollar x i (d ∷ ds)) (dollar_part x i d ds) is

meant_none : (x : Context) (i c : ℕ) (cs : List ℕ) → HasNone (c ∷ cs) (words.meant_by x i c cs)
unfolding words.meant_by
meant_none x i c cs = by_bool (c == 92)
    (λ yes. let e : words.meant_by x i c cs ≡ words.backslash x cs = rw yes refl in none_is (c ∷ cs) e (no_part (c ∷ cs) (words.backslash x cs) (backslash_part x cs)))
    (λ n1. by_bool (c == 39)
    (λ yes. let e : words.meant_by x i c cs ≡ words.single cs = rw (n1, yes) refl in none_is (c ∷ cs) e (no_part (c ∷ cs) (words.single cs) (single_part cs)))
    (λ n2. by_bool (c == 34)
    (λ yes. let e : words.meant_by x i c cs ≡ words.double x.site = rw (n1, n2, yes) refl in none_is (c ∷ cs) e (no_part (c ∷ cs) (words.double x.site) (double_part x)))
    (λ n3. by_bool (c == 96)
    (λ yes. let e : words.meant_by x i c cs ≡ words.backquoted x cs = rw (n1, n2, n3, yes) refl in none_is (c ∷ cs) e (no_part (c ∷ cs) (words.backquoted x cs) (backquoted_part x cs)))
    (λ n4. let e : words.meant_by x i c cs ≡ words.dollar x i cs = rw (n1, n2, n3, n4) refl in none_is (c ∷ cs) e (dollar_none x i c cs n1)))))

sign_none : (x : Context) (prior i : ℕ) (cs : List ℕ) → x.site ≡ site.Word → is_plain (words.sign_of x prior i cs) ≡ true → list_any is_backslash (take (words.sign_of x prior i cs).1 cs) ≡ false
unfolding words.sign_of words.sign_by
sign_none x prior i [] word is = refl
sign_none x prior i (c ∷ cs) word is =
    by_bool (words.stops x.site c)
    (λ yes. let e : words.sign_by x prior i c cs ≡ (sign.Stop, words.stop_length x.site) = rw yes refl in none_is (c ∷ cs) e (no_part (c ∷ cs) (sign.Stop, words.stop_length x.site) refl))
    (λ n0. by_bool (words.is_stripped x prior c)
    (λ yes. let e : words.sign_by x prior i c cs ≡ (sign.Tabs, run is_tab cs + 1) = rw (n0, yes) refl in none_is (c ∷ cs) e (no_part (c ∷ cs) (sign.Tabs, run is_tab cs + 1) refl))
    (λ n1. by_bool (words.stands x prior i c cs)
    (λ yes. let e : words.sign_by x prior i c cs ≡ (sign.Plain, words.plain_length x prior i (c ∷ cs)) = rw (n0, n1, yes) refl in none_is (c ∷ cs) e (λ h. plain_none x prior i (c ∷ cs) word))
    (λ n2. by_bool (c == 126)
    (λ yes. let e : words.sign_by x prior i c cs ≡ (sign.Tilde, words.tilde_length x cs) = rw (n0, n1, n2, yes) refl in none_is (c ∷ cs) e (no_part (c ∷ cs) (sign.Tilde, words.tilde_length x cs) refl))
    (λ n3. let e : words.sign_by x prior i c cs ≡ words.meant_by x i c cs = rw (n0, n1, n2, n3) refl in none_is (c ∷ cs) e (meant_none x i c cs))))) is

-- the text of a plain part
plain_text : (b : List ℕ) (x : Context) (prior : ℕ) (s : Spot) → x.site ≡ site.Word → sign_at b x prior s ≡ sign.Plain → list_any is_backslash (text_of b (span s.at (after b x prior s))) ≡ false
unfolding words.token
plain_text b x prior s word is =
    let found = words.sign_of x prior s.at (drop s.at b) in
    let size : s.at + found.1 - s.at ≡ found.1 = omega arith in
    ap (λ n. list_any is_backslash (take n (drop s.at b))) size ∙ sign_none x prior s.at (drop s.at b) word (ap (λ g. is_plain (g, found.1)) is)

-- unquoted parts without expansions
unquoted_part : {limit : ℕ} {b : List ℕ} {x : Context} {g : Sign} {s v : Spot} {e : ℕ} {p : Part} → (g ≡ sign.Plain → list_any is_backslash (text_of b (span s.at e)) ≡ false) → ReadsPart limit b x g s e v p
    → is_quotation p ≡ false → is_static (part_text b p) ≡ true → list_any is_backslash (or_none (part_text b p)) ≡ false
unfolding is_quotation part_text is_static
unquoted_part text r.plain none static = text refl
unquoted_part text r.escaped none static = absurd (true≢false none)
unquoted_part text r.joined none static = refl
unquoted_part text r.single_quoted none static = absurd (true≢false none)
unquoted_part text r.tilde none static = absurd (true≢false (sym static))
unquoted_part text (r.double_quoted h) none static = absurd (true≢false none)
unquoted_part text r.value none static = absurd (true≢false (sym static))
unquoted_part text r.length_value none static = absurd (true≢false (sym static))
unquoted_part text (r.use_word l h) none static = absurd (true≢false (sym static))
unquoted_part text (r.removal l h) none static = absurd (true≢false (sym static))
unquoted_part text (r.arithmetic l h f c) none static = absurd (true≢false (sym static))
unquoted_part text (r.substitution l k h c) none static = absurd (true≢false (sym static))

both_none : (t u : Option (List ℕ)) → is_static (both_texts t u) ≡ true → (is_static t ≡ true → list_any is_backslash (or_none t) ≡ false) → (is_static u ≡ true → list_any is_backslash (or_none u) ≡ false)
    → list_any is_backslash (or_none (both_texts t u)) ≡ false
unfolding is_static
both_none None u h f g = absurd (true≢false (sym h))
both_none (Some t) None h f g = absurd (true≢false (sym h))
both_none (Some t) (Some u) h f g = list_any-append is_backslash t u ∙ ap (λ x. x || list_any is_backslash u) (f refl) ∙ g refl

unquoted_parts : {limit : ℕ} {b : List ℕ} {x : Context} {prior : ℕ} {s u : Spot} {ps : List Part} → x.site ≡ site.Word → ReadsParts limit b x prior s u ps → list_any is_quotation ps ≡ false
    → is_static (parts_text b ps) ≡ true → list_any is_backslash (or_none (parts_text b ps)) ≡ false
unfolding parts_text
unquoted_parts word (r.stop is) none static = refl
unquoted_parts word (r.tabs is others) none static = unquoted_parts word others none static
unquoted_parts {b = b} {x = x} {prior = prior} {s = s} word (r.more {p = p} {ps = ps} is one others) none static =
    let both = or_parts (is_quotation p) (list_any is_quotation ps) none in
    both_none (part_text b p) (parts_text b ps) static (λ h. unquoted_part (λ e. plain_text b x prior s word (is ∙ e)) one both.0 h) (λ h. unquoted_parts word others both.1 h)

pub mark_copied : (limit depth : ℕ) (strip : Bool) (b : List ℕ) (s u : Spot) (w : Word) → ReadsWord limit b (in_unsplit s.at) s u w → is_delimiter b w ≡ true
    → IsMark (record { strip = strip; quoted = is_quoted_word w; delimiter = delimiter_of b w; depth = depth })
unfolding is_delimiter delimiter_of is_quoted_word
mark_copied limit depth strip b s u w (r.whole_word {ps = ps} parts location lines) delimits = λ none. unquoted_parts refl parts none (and_parts (is_static (parts_text b ps)) _ (and_parts _ _ delimits).0).0
