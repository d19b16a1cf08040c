-- What begins a part of a word takes a byte of the text.
use Rattle.std.proofs.Common.{◌≡◌, ℕ, ◌+◌, ◌<◌, ◌≤◌, ◌==◌, Bool, true, false, not, ◌&&◌, ◌||◌, Option, Some, None, List, [], ◌∷◌, length, drop, refl, sym, ◌∙◌, arith, length-drop}
use Rattle.std.proofs.lemmas.Bool.{true≢false, and_parts, cond_both}
use Rattle.std.proofs.lemmas.Bool.Decides.{nat_tests}
use Rattle.sh_tree.specs.declared.tree.Action.{Action}
use Rattle.sh_tree.specs.declared.tree.Part.{Part}
use Rattle.sh_tree.specs.declared.tree.Special.{Special as SpecialParameter}
use Rattle.sh_tree.specs.declared.tree.Subject.{Subject}
use Rattle.sh_tree.specs.declared.token.word.Context.{Context}
use Rattle.sh_tree.specs.declared.token.word.Site.{Site}
use Rattle.sh_tree.specs.declared.token.word.Site.TheVariants as site
use Rattle.sh_tree.specs.declared.token.word.Sign.{Sign}
use Rattle.sh_tree.specs.declared.token.word.Sign.TheVariants as sign
use Rattle.sh_tree.specs.standard.language.Reading as r
use Rattle.sh_tree.specs.standard.language.Reading.{ReadsPart}
use Rattle.sh_tree.specs.standard.language.States.{Spot}
use Rattle.sh_tree.specs.standard.language.Words as words
use Rattle.sh_reads.proofs.BeginningLemmas.{stands_some}

-- a sign that begins a part
abbrev pub is_part : Sign → Bool
is_part sign.Stop = false
is_part sign.Open = false
is_part sign.Tabs = false
is_part (sign.Fault f) = false
is_part (sign.LeftOut f) = false
is_part _ = true

-- it takes no byte
abbrev is_idle : Sign × ℕ → Bool
is_idle found = is_part found.0 && found.1 == 0

misfit_takes : (k : ℕ) (rest : List ℕ) → is_idle (words.misfit k rest) ≡ false
unfolding words.misfit
misfit_takes k rest = grind (arith, nat_tests)

pattern_removal_takes : (p : Subject) (k : ℕ) (rest : List ℕ) → is_idle (words.pattern_removal p k rest) ≡ false
unfolding words.pattern_removal
pattern_removal_takes p k [] = misfit_takes k []
pattern_removal_takes p k (c ∷ rest) = grind (arith, nat_tests, misfit_takes k (c ∷ rest))

action_by_takes : (colon : Bool) (p : Subject) (k : ℕ) (rest : List ℕ) (a : Option Action) → is_idle (words.action_by colon p k rest a) ≡ false
action_by_takes colon p k rest (Some a) = grind (arith, nat_tests)
action_by_takes colon p k rest None = grind (arith, nat_tests, misfit_takes k rest, pattern_removal_takes p k rest)

parameter_action_takes : (colon : Bool) (p : Subject) (k : ℕ) (rest : List ℕ) → is_idle (words.parameter_action colon p k rest) ≡ false
unfolding words.parameter_action
parameter_action_takes colon p k [] = misfit_takes k []
parameter_action_takes colon p k (c ∷ rest) = action_by_takes colon p k (c ∷ rest) (words.action_of c)

parameter_operator_takes : (p : Subject) (k : ℕ) (rest : List ℕ) → is_idle (words.parameter_operator p k rest) ≡ false
unfolding words.parameter_operator
parameter_operator_takes p k rest = grind (arith, nat_tests, parameter_action_takes true p (k + 1) (drop 1 rest), parameter_action_takes false p k rest)

counted_takes : (rest : List ℕ) (p : Option (Subject × ℕ)) → is_idle (words.length_by rest p) ≡ false
counted_takes rest (Some p) = grind (arith, nat_tests, misfit_takes (p.1 + 3) (drop p.1 rest))
counted_takes rest None = misfit_takes 3 rest

specially_takes : (i : ℕ) (rest : List ℕ) (p : Option SpecialParameter) → is_idle (words.specially i rest p) ≡ false
specially_takes i rest (Some p) = grind (arith, nat_tests, misfit_takes 3 (drop 1 rest))
specially_takes i rest None = misfit_takes 2 rest

special_or_length_takes : (i : ℕ) (rest : List ℕ) → is_idle (words.special_or_length i rest) ≡ false
unfolding words.special_or_length words.parameter_length
special_or_length_takes i [] = misfit_takes 2 []
special_or_length_takes i (c ∷ rest) = grind (arith, nat_tests, counted_takes rest (words.parameter (i + 3) rest), specially_takes (i + 2) (c ∷ rest) (words.special_of c))

braced_expansion_takes : (i : ℕ) (cs : List ℕ) (p : Option (Subject × ℕ)) → is_idle (words.braced_expansion_by i cs p) ≡ false
braced_expansion_takes i cs (Some p) = parameter_operator_takes p.0 (p.1 + 2) (drop p.1 cs)
braced_expansion_takes i cs None = special_or_length_takes i cs

told_takes : (n : ℕ) (found : Sign × ℕ) → 0 < n → is_idle found ≡ false → is_idle (words.told_or n found) ≡ false
told_takes n (sign.Single s, m) some h = grind (arith, nat_tests)
told_takes n (sign.LeftOut f, m) some h = refl
told_takes n found some h = h

dollar_quoted_takes : (cs : List ℕ) → is_idle (words.dollar_quoted cs) ≡ false
unfolding words.dollar_quoted
dollar_quoted_takes [] = refl
dollar_quoted_takes (c ∷ []) = cond_both {A = Sign × ℕ} (c == 39) _ _ (λ f. is_idle f ≡ false) (λ is. refl) (λ is. refl)
dollar_quoted_takes (c ∷ d ∷ cs) =
    cond_both {A = Sign × ℕ} (c == 39) _ _ (λ f. is_idle f ≡ false) (λ is. refl)
    (λ quote. cond_both {A = Sign × ℕ} (c == 92) _ _ (λ f. is_idle f ≡ false)
    (λ is. cond_both {A = Sign × ℕ} (words.is_dollar_escape d) _ _ (λ f. is_idle f ≡ false) (λ e. told_takes 2 (words.dollar_quoted cs) (omega arith) (dollar_quoted_takes cs)) (λ e. refl))
    (λ is. told_takes 1 (words.dollar_quoted (d ∷ cs)) (omega arith) (dollar_quoted_takes (d ∷ cs))))

dollar_expansion_takes : (i : ℕ) (cs : List ℕ) → is_idle (words.dollar_expansion i cs) ≡ false
unfolding words.dollar_expansion words.named_value words.braced_expansion words.parenthesis words.single_parameter
dollar_expansion_takes i [] = refl
dollar_expansion_takes i (c ∷ rest) = grind (arith, nat_tests, braced_expansion_takes i rest (words.parameter (i + 2) rest), told_takes 2 (words.dollar_quoted rest) (omega arith) (dollar_quoted_takes rest))

dollar_takes : (x : Context) (i : ℕ) (cs : List ℕ) → is_idle (words.dollar x i cs) ≡ false
unfolding words.dollar
dollar_takes x i cs = grind (arith, nat_tests, dollar_expansion_takes i cs)

single_takes : (cs : List ℕ) → is_idle (words.single cs) ≡ false
unfolding words.single
single_takes cs = grind (arith, nat_tests)

backslash_takes : (x : Context) (cs : List ℕ) → is_idle (words.backslash x cs) ≡ false
unfolding words.backslash words.continuation
backslash_takes x [] = refl
backslash_takes x (c ∷ rest) = grind (arith, nat_tests)

backquoted_takes : (x : Context) (cs : List ℕ) → is_idle (words.backquoted x cs) ≡ false
unfolding words.backquoted
backquoted_takes x cs = grind (arith, nat_tests)

meant_takes : (x : Context) (i c : ℕ) (cs : List ℕ) → is_idle (words.meant_by x i c cs) ≡ false
unfolding words.meant_by
meant_takes x i c cs = grind (arith, nat_tests, backslash_takes x cs, single_takes cs, dollar_takes x i cs, backquoted_takes x cs)

-- a tilde that is not literal begins a tilde-prefix
tilde_plain : (s : Site) (c : ℕ) → (c == 126) ≡ true → words.is_special s c ≡ false
tilde_plain site.Word c h = grind (arith, nat_tests)
tilde_plain site.Double c h = grind (arith, nat_tests)
tilde_plain site.Braced c h = grind (arith, nat_tests)
tilde_plain site.QuotedBraced c h = grind (arith, nat_tests)
tilde_plain site.Body c h = grind (arith, nat_tests)
tilde_plain site.Verbatim c h = refl

tilde_left : (s t l m k : Bool) → s ≡ false → t ≡ false → m ≡ false → (not s && not t && not l && (not m || k)) ≡ false → l ≡ true
tilde_left true t l m k a b c h = absurd (true≢false a)
tilde_left false true l m k a b c h = absurd (true≢false b)
tilde_left false false true m k a b c h = refl
tilde_left false false false true k a b c h = absurd (true≢false c)
tilde_left false false false false k a b c h = absurd (true≢false h)

unnot : (t : Bool) → not t ≡ true → t ≡ false
unnot true h = absurd (true≢false (sym h))
unnot false h = refl

sign_takes : (x : Context) (prior i c : ℕ) (cs : List ℕ) → is_idle (words.sign_by x prior i c cs) ≡ false
unfolding words.sign_by words.stands words.is_tilde
sign_takes x prior i c cs =
    cond_both {A = Sign × ℕ} (words.stops x.site c) _ _ (λ f. is_idle f ≡ false) (λ is. refl) (λ stops.
    cond_both {A = Sign × ℕ} (words.is_stripped x prior c) _ _ (λ f. is_idle f ≡ false) (λ is. refl) (λ stripped.
    cond_both {A = Sign × ℕ} (words.stands x prior i c cs) _ _ (λ f. is_idle f ≡ false) (λ is. stands_some x prior i c cs is) (λ other.
    cond_both {A = Sign × ℕ} (c == 126) _ _ (λ f. is_idle f ≡ false)
    (λ is.
    let tilde = tilde_left (words.stops x.site c) (words.is_stripped x prior c) (words.is_tilde x prior i c cs) (words.is_special x.site c) (words.is_literal x.site c cs) stops stripped (tilde_plain x.site c is) other in
    unnot (words.tilde_length x cs == 0) (and_parts _ _ tilde).1)
    (λ tilde. meant_takes x i c cs))))

end_is_none : (s : Site) → is_part (words.sign_at_end s) ≡ false
end_is_none site.Word = refl
end_is_none site.Body = refl
end_is_none s = refl

sign_of_takes : (x : Context) (prior i : ℕ) (cs : List ℕ) → is_part (words.sign_of x prior i cs).0 ≡ true → (0 < (words.sign_of x prior i cs).1) × (0 < length cs)
unfolding words.sign_of
sign_of_takes x prior i [] h = absurd (true≢false (sym h ∙ end_is_none x.site))
sign_of_takes x prior i (c ∷ cs) h =
    let found = words.sign_by x prior i c cs in
    (go (is_part found.0) found.1 h (sign_takes x prior i c cs), omega arith)
  where
    go : (t : Bool) (n : ℕ) → t ≡ true → (t && n == 0) ≡ false → 0 < n
    go true n h k = grind (arith, nat_tests)
    go false n h k = absurd (true≢false (sym h))

-- where a part begins there is a byte of it
pub token_takes : (b : List ℕ) (x : Context) (prior i : ℕ) → is_part (words.token b x prior i).sign ≡ true → (i < (words.token b x prior i).end) × (i < length b)
unfolding words.token
token_takes b x prior i h =
    let both = sign_of_takes x prior i (drop i b) h in
    let one = both.0 in
    let two = both.1 in
    (omega arith, omega (arith, length-drop i b))

pub token_moves : (b : List ℕ) (x : Context) (prior i : ℕ) → i ≤ (words.token b x prior i).end
unfolding words.token
token_moves b x prior i = omega arith

pub part_begins : {limit : ℕ} {b : List ℕ} {x : Context} {g : Sign} {s u : Spot} {e : ℕ} {p : Part} → ReadsPart limit b x g s e u p → is_part g ≡ true
part_begins r.plain = refl
part_begins r.escaped = refl
part_begins r.joined = refl
part_begins r.single_quoted = refl
part_begins r.tilde = refl
part_begins (r.double_quoted ps) = refl
part_begins r.value = refl
part_begins r.length_value = refl
part_begins (r.use_word d ps) = refl
part_begins (r.removal d ps) = refl
part_begins (r.arithmetic d e h k) = refl
part_begins (r.substitution d k t h) = refl
