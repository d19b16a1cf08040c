-- What signs of words and tokens of arithmetic hold is formed: a parameter is a name or a number
-- from 1, and plain bytes are some.
use Rattle.std.proofs.Common.{◌≡◌, ℕ, ◌+◌, ◌-◌, ◌*◌, ◌<◌, ◌≤◌, ◌==◌, Bool, true, false, not, ◌&&◌, ◌||◌, cond, Option, Some, None, is_some, List, [], ◌∷◌, length, take, drop, nat_le, refl, sym, ap, subst, ◌∙◌, arith, length-take}
use Rattle.std.specs.List.{list_all}
use Rattle.std.proofs.lemmas.Bool.{true≢false, and_parts, and_left, cond-true, cond_both, eqb-true, lt-ltb}
use Rattle.std.proofs.lemmas.Bool.Decides.{nat_tests}
use Rattle.sh_tree.specs.declared.tree.Action.{Action}
use Rattle.sh_tree.specs.declared.tree.Special.{Special as SpecialParameter}
use Rattle.sh_tree.specs.declared.tree.Special.TheVariants as special
use Rattle.sh_tree.specs.declared.tree.Subject.{Subject}
use Rattle.sh_tree.specs.declared.tree.Subject.TheVariants as subject
use Rattle.sh_tree.specs.declared.token.word.Context.{Context}
use Rattle.sh_tree.specs.declared.token.word.Site.{Site}
use Rattle.sh_tree.specs.declared.token.word.Site.TheVariants as site
use Rattle.sh_tree.specs.declared.token.word.Sign.{Sign}
use Rattle.sh_tree.specs.declared.token.word.Sign.TheVariants as sign
use Rattle.sh_tree.specs.standard.language.Bytes.{is_digit, is_name_start, is_name_byte, run, is_first, name_length, decimal, is_joined, joined_length}
use Rattle.sh_tree.specs.standard.language.Trees.{span}
use Rattle.sh_tree.specs.standard.language.Words as words
use Rattle.sh_tree.specs.standard.program.Trees.{parameter_of}
use Rattle.sh_tree.specs.standard.Tree.{text_of}
use Rattle.sh_reads.proofs.BeginningLemmas.{takes_none, dollar_goes, single_goes, stands_some}
use Rattle.sh_reads.proofs.FrontLemmas.{Front, Stands, stands_at, stands_past, run_taken, run_passes, name_stands}
use Rattle.sh_domain.specs.Inclusions.{parameter_formed}

-- Plain bytes

-- no plain byte, if some are
abbrev lacks : Sign → ℕ → Bool
lacks sign.Plain n = n == 0
lacks _ n = false

abbrev found_lacks : Sign × ℕ → Bool
found_lacks found = lacks found.0 found.1

lacks_ends : (g : Sign) (n : ℕ) → takes_none g n ≡ false → lacks g n ≡ false
lacks_ends sign.Plain n h = h
lacks_ends g n h = refl

backslash_lacks : (x : Context) (cs : List ℕ) → found_lacks (words.backslash x cs) ≡ false
unfolding words.backslash words.continuation
backslash_lacks x [] = refl
backslash_lacks x (c ∷ rest) = grind (arith, nat_tests)

backquoted_lacks : (x : Context) (cs : List ℕ) → found_lacks (words.backquoted x cs) ≡ false
unfolding words.backquoted
backquoted_lacks x cs = grind (arith, nat_tests)

meant_lacks : (x : Context) (i c : ℕ) (cs : List ℕ) → found_lacks (words.meant_by x i c cs) ≡ false
unfolding words.meant_by
meant_lacks x i c cs =
    let single = words.single cs in
    let dollar = words.dollar x i cs in
    grind (arith, nat_tests, backslash_lacks x cs, backquoted_lacks x cs, lacks_ends single.0 single.1 (single_goes cs), lacks_ends dollar.0 dollar.1 (dollar_goes x i cs))

sign_lacks : (x : Context) (prior i c : ℕ) (cs : List ℕ) → found_lacks (words.sign_by x prior i c cs) ≡ false
unfolding words.sign_by
sign_lacks x prior i c cs =
    cond_both {A = Sign × ℕ} (words.stops x.site c) _ _ (λ f. found_lacks f ≡ false) (λ is. refl) (λ stops.
    cond_both {A = Sign × ℕ} (words.is_stripped x prior c) _ _ (λ f. found_lacks f ≡ false) (λ is. refl) (λ stripped.
    cond_both {A = Sign × ℕ} (words.stands x prior i c cs) _ _ (λ f. found_lacks f ≡ false) (λ is. stands_some x prior i c cs is) (λ other.
    cond_both {A = Sign × ℕ} (c == 126) _ _ (λ f. found_lacks f ≡ false) (λ is. refl) (λ tilde. meant_lacks x i c cs))))

-- Numbers

decimal_grows : (n : ℕ) (ds : List ℕ) → n ≤ decimal n ds
unfolding decimal
decimal_grows n [] = omega arith
decimal_grows n (d ∷ ds) = let more = decimal_grows (n * 10 + (d - 48)) ds in omega arith

-- digits without a leading zero are a number from 1
decimal_some : (ds : List ℕ) → list_all is_digit ds ≡ true → (length ds == 0) ≡ false → is_first (λ c. c == 48) ds ≡ false → 0 < decimal 0 ds
unfolding decimal is_first
decimal_some [] digits some first = absurd (true≢false some)
decimal_some (d ∷ ds) digits some first =
    let more = decimal_grows (0 * 10 + (d - 48)) ds in
    let digit : is_digit d ≡ true = (and_parts _ _ digits).0 in
    let large : 0 < d - 48 = grind (arith, nat_tests) in
    omega arith

-- Parameters

-- the byte of a parameter that is no name
abbrev is_one_byte : ℕ → Bool
is_one_byte c = is_digit c || is_some (words.special_of c)

zero_special : (c : ℕ) → (c == 48) ≡ true → is_some (words.special_of c) ≡ true
unfolding words.special_of
zero_special c is = subst (λ d. is_some (words.special_of d) ≡ true) (sym (eqb-true c 48 is)) refl

opens_one : (quoted : Bool) (c : ℕ) → words.opens_dollar quoted c ≡ true → is_name_start c ≡ false → (c == 123) ≡ false → (c == 40) ≡ false → (c == 91) ≡ false
    → (c == 39) ≡ false → (c == 34) ≡ false → is_one_byte c ≡ true
unfolding words.special_of
opens_one quoted c opens name brace parenthesis bracket apostrophe quotation = grind (arith, nat_tests)

-- of the bytes that mean more than themselves the dollar sign is the last
dollar_left : (s : Site) (c : ℕ) → words.is_special s c ≡ true → (c == 92) ≡ false → (c == 39) ≡ false → (c == 34) ≡ false → (c == 96) ≡ false → (c == 36) ≡ true
dollar_left site.Word c h backslash apostrophe quotation backquote = grind (arith, nat_tests)
dollar_left site.Double c h backslash apostrophe quotation backquote = grind (arith, nat_tests)
dollar_left site.Braced c h backslash apostrophe quotation backquote = grind (arith, nat_tests)
dollar_left site.QuotedBraced c h backslash apostrophe quotation backquote = grind (arith, nat_tests)
dollar_left site.Body c h backslash apostrophe quotation backquote = grind (arith, nat_tests)
dollar_left site.Verbatim c h backslash apostrophe quotation backquote = absurd (true≢false (sym h))

module _ (whole : List ℕ) where
  abbrev subject_formed : Subject → Bool
  subject_formed p = parameter_formed (parameter_of whole p)

  -- the parameter in a sign is formed
  abbrev pub sign_formed : Sign → Bool
  sign_formed (sign.Value p) = subject_formed p
  sign_formed (sign.Length p) = subject_formed p
  sign_formed (sign.Use p a colon) = subject_formed p
  sign_formed (sign.Remove p r) = subject_formed p
  sign_formed _ = true

  abbrev found_formed : Option (Subject × ℕ) → Bool
  found_formed (Some found) = subject_formed found.0
  found_formed None = true

  one_byte_formed : (i c : ℕ) (o : Option SpecialParameter) → (is_digit c || is_some o) ≡ true → ((c == 48) ≡ true → is_some o ≡ true) → subject_formed (words.one_byte i c o) ≡ true
  unfolding parameter_of parameter_formed
  one_byte_formed i c (Some p) h zero_is = refl
  one_byte_formed i c None h zero_is =
      let other : (c == 48) ≡ false = go (c == 48) zero_is in
      let large : 0 < c - 48 = grind (arith, nat_tests) in
      lt-ltb 0 (c - 48) large
    where
      go : (t : Bool) → (t ≡ true → false ≡ true) → t ≡ false
      go true k = absurd (true≢false (sym (k refl)))
      go false k = refl

  single_formed : (i c : ℕ) → is_one_byte c ≡ true → sign_formed (words.single_parameter i c).0 ≡ true
  unfolding words.single_parameter
  single_formed i c h = one_byte_formed (i + 1) c (words.special_of c) h (zero_special c)

  numeric_formed : (i : ℕ) (ds : List ℕ) → list_all is_digit ds ≡ true → found_formed (words.numeric_parameter i ds) ≡ true
  unfolding words.numeric_parameter parameter_of parameter_formed
  numeric_formed i ds digits = cond_both (length ds == 0) _ _ (λ o. found_formed o ≡ true) (λ none. refl) (λ some.
      cond_both (is_first (λ c. c == 48) ds) _ _ (λ o. found_formed o ≡ true) (λ leading. go (length ds == 1)) (λ first.
      cond_both (nat_le (length ds) 5 && nat_le (decimal 0 ds) 65535) _ _ (λ o. found_formed o ≡ true)
      (λ few. lt-ltb 0 (decimal 0 ds) (decimal_some ds digits some first)) (λ many. refl)))
    where
      go : (t : Bool) → found_formed (cond t (Some (subject.Special special.Zero (span i (i + 1)), 1)) None) ≡ true
      go true = refl
      go false = refl

  parameter_found : (i : ℕ) (cs : List ℕ) → Stands whole i cs → found_formed (words.parameter i cs) ≡ true
  unfolding words.parameter parameter_of parameter_formed name_length
  parameter_found i cs h = cond_both (name_length cs == 0) _ _ (λ o. found_formed o ≡ true)
      (λ none. numeric_formed i (take (run is_digit cs) cs) (rw (run_taken is_digit cs) (run_passes is_digit cs)))
      (λ some. name_stands whole i cs h (begins_name cs some))
    where
      go : (t : Bool) (n : ℕ) → (cond t n 0 == 0) ≡ false → t ≡ true
      go true n k = refl
      go false n k = absurd (true≢false k)

      begins_name : (cs : List ℕ) → (name_length cs == 0) ≡ false → is_first is_name_start cs ≡ true
      begins_name cs some = go (is_first is_name_start cs) (run is_name_byte cs) some

  -- Signs, from the end of an expansion to the whole

  misfit_formed : (k : ℕ) (rest : List ℕ) → sign_formed (words.misfit k rest).0 ≡ true
  unfolding words.misfit
  misfit_formed k rest = grind (arith, nat_tests)

  pattern_removal_formed : (p : Subject) (k : ℕ) (rest : List ℕ) → subject_formed p ≡ true → sign_formed (words.pattern_removal p k rest).0 ≡ true
  unfolding words.pattern_removal
  pattern_removal_formed p k [] h = misfit_formed k []
  pattern_removal_formed p k (c ∷ rest) h = grind (arith, nat_tests, misfit_formed k (c ∷ rest))

  action_by_formed : (colon : Bool) (p : Subject) (k : ℕ) (rest : List ℕ) (a : Option Action) → subject_formed p ≡ true → sign_formed (words.action_by colon p k rest a).0 ≡ true
  action_by_formed colon p k rest (Some a) h = h
  action_by_formed true p k rest None h = misfit_formed k rest
  action_by_formed false p k rest None h = pattern_removal_formed p k rest h

  parameter_action_formed : (colon : Bool) (p : Subject) (k : ℕ) (rest : List ℕ) → subject_formed p ≡ true → sign_formed (words.parameter_action colon p k rest).0 ≡ true
  unfolding words.parameter_action
  parameter_action_formed colon p k [] h = misfit_formed k []
  parameter_action_formed colon p k (c ∷ rest) h = action_by_formed colon p k (c ∷ rest) (words.action_of c) h

  parameter_operator_formed : (p : Subject) (k : ℕ) (rest : List ℕ) → subject_formed p ≡ true → sign_formed (words.parameter_operator p k rest).0 ≡ true
  unfolding words.parameter_operator
  parameter_operator_formed p k rest h = grind (arith, nat_tests, parameter_action_formed true p (k + 1) (drop 1 rest) h, parameter_action_formed false p k rest h)

  length_formed : (rest : List ℕ) (o : Option (Subject × ℕ)) → found_formed o ≡ true → sign_formed (words.length_by rest o).0 ≡ true
  length_formed rest (Some found) h = grind (arith, nat_tests, misfit_formed (found.1 + 3) (drop found.1 rest))
  length_formed rest None h = misfit_formed 3 rest

  specially_formed : (i : ℕ) (rest : List ℕ) (o : Option SpecialParameter) → sign_formed (words.specially i rest o).0 ≡ true
  unfolding parameter_of parameter_formed
  specially_formed i rest (Some p) = grind (arith, nat_tests, misfit_formed 3 (drop 1 rest))
  specially_formed i rest None = misfit_formed 2 rest

  special_or_length_formed : (i : ℕ) (rest : List ℕ) → Stands whole (i + 2) rest → sign_formed (words.special_or_length i rest).0 ≡ true
  unfolding words.special_or_length words.parameter_length
  special_or_length_formed i [] h = misfit_formed 2 []
  special_or_length_formed i (c ∷ rest) h =
      let at : i + 2 + 1 ≡ i + 3 = omega arith in
      let behind : Stands whole (i + 3) rest = subst (λ j. Stands whole j rest) at (stands_past whole (i + 2) 1 (c ∷ rest) h) in
      grind (arith, nat_tests, length_formed rest (words.parameter (i + 3) rest) (parameter_found (i + 3) rest behind), specially_formed (i + 2) (c ∷ rest) (words.special_of c))

  braced_formed : (i : ℕ) (cs : List ℕ) (o : Option (Subject × ℕ)) → Stands whole (i + 2) cs → found_formed o ≡ true → sign_formed (words.braced_expansion_by i cs o).0 ≡ true
  braced_formed i cs (Some found) h k = parameter_operator_formed found.0 (found.1 + 2) (drop found.1 cs) k
  braced_formed i cs None h k = special_or_length_formed i cs h

  named_formed : (i : ℕ) (cs : List ℕ) → Stands whole (i + 1) cs → is_first is_name_start cs ≡ true
      → sign_formed (words.named_value i (name_length cs) (drop (name_length cs) cs)).0 ≡ true
  unfolding words.named_value parameter_of parameter_formed
  named_formed i cs h first = grind (arith, nat_tests, name_stands whole (i + 1) cs h first)

  told_formed : (n : ℕ) (found : Sign × ℕ) → sign_formed found.0 ≡ true → sign_formed (words.told_or n found).0 ≡ true
  told_formed n (sign.Single s, m) h = refl
  told_formed n (sign.LeftOut f, m) h = refl
  told_formed n found h = h

  dollar_quoted_formed : (cs : List ℕ) → sign_formed (words.dollar_quoted cs).0 ≡ true
  unfolding words.dollar_quoted
  dollar_quoted_formed [] = refl
  dollar_quoted_formed (c ∷ []) = cond_both {A = Sign × ℕ} (c == 39) _ _ (λ f. sign_formed f.0 ≡ true) (λ is. refl) (λ other. refl)
  dollar_quoted_formed (c ∷ d ∷ cs) =
      cond_both {A = Sign × ℕ} (c == 39) _ _ (λ f. sign_formed f.0 ≡ true) (λ is. refl) (λ apostrophe.
      cond_both {A = Sign × ℕ} (c == 92) _ _ (λ f. sign_formed f.0 ≡ true)
      (λ is. cond_both {A = Sign × ℕ} (words.is_dollar_escape d) _ _ (λ f. sign_formed f.0 ≡ true) (λ e. told_formed 2 (words.dollar_quoted cs) (dollar_quoted_formed cs)) (λ e. refl))
      (λ other. told_formed 1 (words.dollar_quoted (d ∷ cs)) (dollar_quoted_formed (d ∷ cs))))

  dollar_expansion_formed : (quoted : Bool) (i : ℕ) (cs : List ℕ) → Stands whole (i + 1) cs → is_first (words.opens_dollar quoted) cs ≡ true
      → sign_formed (words.dollar_expansion i cs).0 ≡ true
  unfolding words.dollar_expansion words.braced_expansion words.parenthesis is_first
  dollar_expansion_formed quoted i [] h opens = refl
  dollar_expansion_formed quoted i (c ∷ rest) h opens =
      let at : i + 1 + 1 ≡ i + 2 = omega arith in
      let behind : Stands whole (i + 2) rest = subst (λ j. Stands whole j rest) at (stands_past whole (i + 1) 1 (c ∷ rest) h) in
      cond_both {A = Sign × ℕ} (is_name_start c) _ _ (λ f. sign_formed f.0 ≡ true) (λ name. named_formed i (c ∷ rest) h name) (λ name.
      cond_both {A = Sign × ℕ} (c == 123) _ _ (λ f. sign_formed f.0 ≡ true) (λ brace. braced_formed i rest (words.parameter (i + 2) rest) behind (parameter_found (i + 2) rest behind)) (λ brace.
      cond_both {A = Sign × ℕ} (c == 40) _ _ (λ f. sign_formed f.0 ≡ true) (λ parenthesis. grind (arith, nat_tests)) (λ parenthesis.
      cond_both {A = Sign × ℕ} (c == 91) _ _ (λ f. sign_formed f.0 ≡ true) (λ bracket. refl) (λ bracket.
      cond_both {A = Sign × ℕ} (c == 39) _ _ (λ f. sign_formed f.0 ≡ true) (λ is. told_formed 2 (words.dollar_quoted rest) (dollar_quoted_formed rest)) (λ apostrophe.
      cond_both {A = Sign × ℕ} (c == 34) _ _ (λ f. sign_formed f.0 ≡ true) (λ quotation. refl) (λ quotation.
      single_formed i c (opens_one quoted c opens name brace parenthesis bracket apostrophe quotation)))))))

  sign_in_formed : (x : Context) (found : Sign × ℕ) → sign_formed found.0 ≡ true → sign_formed (words.sign_in x found).0 ≡ true
  sign_in_formed x found h = cond_both {A = Sign × ℕ} (words.is_all found.0 && not x.fields) _ _ (λ f. sign_formed f.0 ≡ true) (λ all. refl) (λ other. h)

  dollar_formed : (x : Context) (i : ℕ) (cs : List ℕ) → Stands whole (i + 1) cs → words.is_literal_dollar (words.is_quoted x.site) cs ≡ false
      → sign_formed (words.dollar x i cs).0 ≡ true
  unfolding words.dollar
  dollar_formed x i cs h opens = cond_both {A = Sign × ℕ} (is_joined cs) _ _ (λ f. sign_formed f.0 ≡ true) (λ joined. refl)
      (λ whole_one. sign_in_formed x (words.dollar_expansion i cs) (dollar_expansion_formed (words.is_quoted x.site) i cs h (go (joined_length cs) whole_one opens)))
    where
      opened : (t : Bool) → not t ≡ false → t ≡ true
      opened true e = refl
      opened false e = absurd (true≢false e)

      go : (n : ℕ) → not (n == 0) ≡ false → not (is_first (words.opens_dollar (words.is_quoted x.site)) (drop n cs)) ≡ false
          → is_first (words.opens_dollar (words.is_quoted x.site)) cs ≡ true
      go n none k =
          let is : n ≡ 0 = eqb-true n 0 (opened (n == 0) none) in
          opened _ (subst (λ m. not (is_first (words.opens_dollar (words.is_quoted x.site)) (drop m cs)) ≡ false) is k)

  backslash_formed : (x : Context) (cs : List ℕ) → sign_formed (words.backslash x cs).0 ≡ true
  unfolding words.backslash words.continuation
  backslash_formed x [] = refl
  backslash_formed x (c ∷ rest) = grind (arith, nat_tests)

  single_quoted_formed : (cs : List ℕ) → sign_formed (words.single cs).0 ≡ true
  unfolding words.single
  single_quoted_formed cs = grind (arith, nat_tests)

  double_quoted_formed : (s : Site) → sign_formed (words.double s).0 ≡ true
  double_quoted_formed s = grind (arith, nat_tests)

  backquoted_formed : (x : Context) (cs : List ℕ) → sign_formed (words.backquoted x cs).0 ≡ true
  unfolding words.backquoted
  backquoted_formed x cs = grind (arith, nat_tests)

  -- a byte that means more than itself, and is no literal one
  meant_formed : (x : Context) (i c : ℕ) (cs : List ℕ) → Stands whole (i + 1) cs → words.is_special x.site c ≡ true → words.is_literal x.site c cs ≡ false
      → sign_formed (words.meant_by x i c cs).0 ≡ true
  unfolding words.meant_by
  meant_formed x i c cs h meant literal =
      cond_both {A = Sign × ℕ} (c == 92) _ _ (λ f. sign_formed f.0 ≡ true) (λ is. backslash_formed x cs) (λ backslash.
      cond_both {A = Sign × ℕ} (c == 39) _ _ (λ f. sign_formed f.0 ≡ true) (λ is. single_quoted_formed cs) (λ apostrophe.
      cond_both {A = Sign × ℕ} (c == 34) _ _ (λ f. sign_formed f.0 ≡ true) (λ is. double_quoted_formed x.site) (λ quotation.
      cond_both {A = Sign × ℕ} (c == 96) _ _ (λ f. sign_formed f.0 ≡ true) (λ is. backquoted_formed x cs) (λ backquote.
      let dollar : (c == 36) ≡ true = dollar_left x.site c meant backslash apostrophe quotation backquote in
      dollar_formed x i cs h (sym (cond-true (c == 36) (words.is_literal_dollar (words.is_quoted x.site) cs) _ dollar) ∙ literal)))))

  -- what is left of a byte that is not literal
  left : (s t l m k : Bool) → s ≡ false → t ≡ false → l ≡ false → (not s && not t && not l && (not m || k)) ≡ false → (m ≡ true) × (k ≡ false)
  left true t l m k a b c h = absurd (true≢false a)
  left false true l m k a b c h = absurd (true≢false b)
  left false false true m k a b c h = absurd (true≢false c)
  left false false false true k a b c h = (refl, h)
  left false false false false k a b c h = absurd (true≢false h)

  sign_by_formed : (x : Context) (prior i c : ℕ) (cs : List ℕ) → Stands whole (i + 1) cs → sign_formed (words.sign_by x prior i c cs).0 ≡ true
  unfolding words.sign_by words.stands words.is_tilde
  sign_by_formed x prior i c cs h =
      cond_both {A = Sign × ℕ} (words.stops x.site c) _ _ (λ f. sign_formed f.0 ≡ true) (λ is. refl) (λ stops.
      cond_both {A = Sign × ℕ} (words.is_stripped x prior c) _ _ (λ f. sign_formed f.0 ≡ true) (λ is. refl) (λ stripped.
      cond_both {A = Sign × ℕ} (words.stands x prior i c cs) _ _ (λ f. sign_formed f.0 ≡ true) (λ is. refl) (λ other.
      cond_both {A = Sign × ℕ} (c == 126) _ _ (λ f. sign_formed f.0 ≡ true) (λ is. refl) (λ tilde.
      let no_tilde : words.is_tilde x prior i c cs ≡ false = and_left _ _ (and_left _ _ tilde) in
      let both = left (words.stops x.site c) (words.is_stripped x prior c) (words.is_tilde x prior i c cs) (words.is_special x.site c) (words.is_literal x.site c cs) stops stripped no_tilde other in
      meant_formed x i c cs h both.0 both.1))))

  -- Tokens

  -- what is from i to e under the sign is formed: plain bytes are some
  abbrev pub token_formed : Sign → ℕ → ℕ → Bool
  token_formed sign.Plain i e = not (length (text_of whole (span i e)) == 0)
  token_formed g i e = sign_formed g

  plain_text : (i n c : ℕ) (cs : List ℕ) → Stands whole i (c ∷ cs) → (n == 0) ≡ false → not (length (text_of whole (span i (i + n))) == 0) ≡ true
  plain_text i n c cs h some =
      let long : length (c ∷ cs) ≡ length (take h.0 (drop i whole)) = ap length h.1 in
      let none : length (take (i + n - i) (drop i whole)) ≡ 0 → ⊥ =
      (λ e. grind (arith, nat_tests, long, length-take h.0 (drop i whole), length-take (i + n - i) (drop i whole))) in
      grind (arith, nat_tests, none)

  formed_from : (g : Sign) (i n c : ℕ) (cs : List ℕ) → Stands whole i (c ∷ cs) → sign_formed g ≡ true → lacks g n ≡ false → token_formed g i (i + n) ≡ true
  formed_from sign.Plain i n c cs h formed some = plain_text i n c cs h some
  formed_from g i n c cs h formed some = formed

  sign_of_formed : (x : Context) (prior i : ℕ) (cs : List ℕ) → Stands whole i cs
      → token_formed (words.sign_of x prior i cs).0 i (i + (words.sign_of x prior i cs).1) ≡ true
  unfolding words.sign_of
  sign_of_formed x prior i [] h = go x.site
    where
      go : (s : Site) → token_formed (words.sign_at_end s) i (i + 0) ≡ true
      go site.Word = refl
      go site.Body = refl
      go s = refl
  sign_of_formed x prior i (c ∷ cs) h =
      let found = words.sign_by x prior i c cs in
      formed_from found.0 i found.1 c cs h (sign_by_formed x prior i c cs (stands_past whole i 1 (c ∷ cs) h)) (sign_lacks x prior i c cs)

  pub token_is_formed : (b : List ℕ) (x : Context) (prior i : ℕ) → Front whole b
      → token_formed (words.token b x prior i).sign i (words.token b x prior i).end ≡ true
  unfolding words.token
  token_is_formed b x prior i f = sign_of_formed x prior i (drop i b) (stands_at whole b i f)
