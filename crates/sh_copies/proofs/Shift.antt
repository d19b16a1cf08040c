-- What begins at one place of a text begins there too if the text is elsewhere, except for the
-- places of a parameter.
-- POSIX.1-2024, XCU 2.2 (quoting), 2.6 (word expansions).
use Rattle.std.proofs.Common.{◌≡◌, ℕ, ◌+◌, ◌==◌, Bool, true, false, not, ◌&&◌, if◌then◌else◌, List, [], ◌∷◌, length, drop, Option, Some, None, take, nat_le, refl, sym, ap, ◌∙◌, arith}
use Rattle.sh_tree.specs.declared.tree.Action.{Action}
use Rattle.sh_tree.specs.declared.tree.Removal.{Removal}
use Rattle.sh_tree.specs.declared.tree.Special.{Special as SpecialParameter}
use Rattle.sh_tree.specs.declared.tree.Special.TheVariants as special
use Rattle.sh_tree.specs.declared.tree.Subject.{Subject}
use Rattle.sh_tree.specs.declared.tree.Subject.TheVariants.{Name, Positional, Special}
use Rattle.sh_tree.specs.declared.token.word.Context.{Context}
use Rattle.sh_tree.specs.declared.token.word.Sign.{Sign}
use Rattle.sh_tree.specs.declared.token.word.Sign.TheVariants as sign
use Rattle.sh_tree.specs.standard.language.Bytes.{is_first, is_digit, is_name_start, is_name_byte, name_length, decimal, run, behind_joined, is_joined}
use Rattle.sh_tree.specs.standard.language.Trees.{span}
use Rattle.sh_tree.specs.standard.language.Words as words
use Rattle.sh_copies.proofs.AlikeBytes.{by_bool}
use Rattle.sh_copies.proofs.Copies.{turned}

-- a parameter without its place
abbrev unplaced : Subject → Subject
unplaced (Name s) = Name (span 0 0)
unplaced (Positional n s) = Positional n (span 0 0)
unplaced (Special p s) = Special p (span 0 0)

-- a sign without the place of its parameter
abbrev pub placeless : Sign → Sign
placeless (sign.Value p) = sign.Value (unplaced p)
placeless (sign.Length p) = sign.Length (unplaced p)
placeless (sign.Use p a c) = sign.Use (unplaced p) a c
placeless (sign.Remove p r) = sign.Remove (unplaced p) r
placeless g = g

record SameSubject (p' p : Subject) : Type 0 where
  is : unplaced p' ≡ unplaced p

-- the same sign of the same length, except for the place of its parameter
pub record Same (f' f : Sign × ℕ) : Type 0 where
  pub sign : placeless f'.0 ≡ placeless f.0
  pub size : f'.1 ≡ f.1

same : {f : Sign × ℕ} → Same f f
same = record { sign = refl; size = refl }

either : {f f' g g' : Sign × ℕ} (t : Bool) → Same f' f → Same g' g → Same (if t then f' else g') (if t then f else g)
either true h k = h
either false h k = k

value_shift : {p p' : Subject} {n : ℕ} → SameSubject p' p → Same (sign.Value p', n) (sign.Value p, n)
value_shift e = record { sign = ap sign.Value e.is; size = refl }

length_shift : {p p' : Subject} {n : ℕ} → SameSubject p' p → Same (sign.Length p', n) (sign.Length p, n)
length_shift e = record { sign = ap sign.Length e.is; size = refl }

use_shift : {p p' : Subject} {a : Action} {c : Bool} {n : ℕ} → SameSubject p' p → Same (sign.Use p' a c, n) (sign.Use p a c, n)
use_shift {a = a} {c = c} e = record { sign = ap (λ s. sign.Use s a c) e.is; size = refl }

remove_shift : {p p' : Subject} {r : Removal} {n : ℕ} → SameSubject p' p → Same (sign.Remove p' r, n) (sign.Remove p r, n)
remove_shift {r = r} e = record { sign = ap (λ s. sign.Remove s r) e.is; size = refl }

-- Braced expansions

pattern_shift : (p p' : Subject) (k : ℕ) (cs : List ℕ) → SameSubject p' p → Same (words.pattern_removal p' k cs) (words.pattern_removal p k cs)
unfolding words.pattern_removal
pattern_shift p p' k [] e = same
pattern_shift p p' k (c ∷ rest) e =
    either (c == 37) (either (is_first (λ d. d == 37) rest) (remove_shift e) (remove_shift e)) (either (c == 35) (either (is_first (λ d. d == 35) rest) (remove_shift e) (remove_shift e)) same)

action_by_shift : (colon : Bool) (p p' : Subject) (k : ℕ) (cs : List ℕ) (o : Option Action) → SameSubject p' p → Same (words.action_by colon p' k cs o) (words.action_by colon p k cs o)
action_by_shift colon p p' k cs (Some a) e = use_shift e
action_by_shift colon p p' k cs None e = either colon same (pattern_shift p p' k cs e)

action_shift : (colon : Bool) (p p' : Subject) (k : ℕ) (cs : List ℕ) → SameSubject p' p → Same (words.parameter_action colon p' k cs) (words.parameter_action colon p k cs)
unfolding words.parameter_action
action_shift colon p p' k [] e = same
action_shift colon p p' k (c ∷ rest) e = action_by_shift colon p p' k (c ∷ rest) (words.action_of c) e

operator_shift : (p p' : Subject) (k : ℕ) (cs : List ℕ) → SameSubject p' p → Same (words.parameter_operator p' k cs) (words.parameter_operator p k cs)
unfolding words.parameter_operator
operator_shift p p' k cs e = either (words.closes cs) (value_shift e) (either (is_first (λ c. c == 58) cs) (action_shift true p p' (k + 1) (drop 1 cs) e) (action_shift false p p' k cs e))

-- the same parameter of the same length, or none in both
data Alike : Option (Subject × ℕ) → Option (Subject × ℕ) → Type 0 where
  none : Alike None None
  some : {p p' : Subject} {n : ℕ} → SameSubject p' p → Alike (Some (p', n)) (Some (p, n))

either_option : {f f' g g' : Option (Subject × ℕ)} (t : Bool) → Alike f' f → Alike g' g → Alike (if t then f' else g') (if t then f else g)
either_option true h k = h
either_option false h k = k

numeric_shift : (i i' : ℕ) (ds : List ℕ) → Alike (words.numeric_parameter i' ds) (words.numeric_parameter i ds)
unfolding words.numeric_parameter
numeric_shift i i' ds =
    either_option (length ds == 0) none
    (either_option (is_first (λ c. c == 48) ds) (either_option (length ds == 1) (some (record { is = refl })) none)
    (either_option (nat_le (length ds) 5 && nat_le (decimal 0 ds) 65535) (some (record { is = refl })) none))

parameter_shift : (i i' : ℕ) (cs : List ℕ) → Alike (words.parameter i' cs) (words.parameter i cs)
unfolding words.parameter
parameter_shift i i' cs = either_option (name_length cs == 0) (numeric_shift i i' (take (run is_digit cs) cs)) (some (record { is = refl }))

length_by_shift : (cs : List ℕ) (o o' : Option (Subject × ℕ)) → Alike o' o → Same (words.length_by cs o') (words.length_by cs o)
length_by_shift cs _ _ none = same
length_by_shift cs _ _ (some {n = n} e) = either (words.closes (drop n cs)) (length_shift e) same

specially_shift : (i i' : ℕ) (cs : List ℕ) (o : Option SpecialParameter) → Same (words.specially i' cs o) (words.specially i cs o)
specially_shift i i' cs None = same
specially_shift i i' cs (Some p) = either (words.closes (drop 1 cs)) (value_shift (record { is = refl })) same

special_shift : (i i' : ℕ) (cs : List ℕ) → Same (words.special_or_length i' cs) (words.special_or_length i cs)
unfolding words.special_or_length words.parameter_length
special_shift i i' [] = same
special_shift i i' (c ∷ rest) =
    either (c == 35 && not (words.closes rest)) (length_by_shift rest (words.parameter (i + 3) rest) (words.parameter (i' + 3) rest) (parameter_shift (i + 3) (i' + 3) rest))
    (specially_shift (i + 2) (i' + 2) (c ∷ rest) (words.special_of c))

braced_by_shift : (i i' : ℕ) (cs : List ℕ) (o o' : Option (Subject × ℕ)) → Alike o' o → Same (words.braced_expansion_by i' cs o') (words.braced_expansion_by i cs o)
braced_by_shift i i' cs _ _ none = special_shift i i' cs
braced_by_shift i i' cs _ _ (some {p = p} {p' = p'} {n = n} e) = operator_shift p p' (n + 2) (drop n cs) e

braced_shift : (i i' : ℕ) (cs : List ℕ) → Same (words.braced_expansion i' cs) (words.braced_expansion i cs)
unfolding words.braced_expansion
braced_shift i i' cs = braced_by_shift i i' cs (words.parameter (i + 2) cs) (words.parameter (i' + 2) cs) (parameter_shift (i + 2) (i' + 2) cs)

-- Expansions

one_shift : (i i' c : ℕ) (o : Option SpecialParameter) → SameSubject (words.one_byte i' c o) (words.one_byte i c o)
one_shift i i' c None = record { is = refl }
one_shift i i' c (Some p) = record { is = refl }

expansion_shift : (i i' : ℕ) (cs : List ℕ) → Same (words.dollar_expansion i' cs) (words.dollar_expansion i cs)
unfolding words.dollar_expansion words.named_value words.single_parameter
expansion_shift i i' [] = same
expansion_shift i i' (c ∷ rest) =
    either (is_name_start c) (either (is_joined (drop (name_length (c ∷ rest)) (c ∷ rest)) && is_first is_name_byte (behind_joined (drop (name_length (c ∷ rest)) (c ∷ rest)))) same (value_shift (record { is = refl })))
    (either (c == 123) (braced_shift i i' rest)
    (either (c == 40) same
    (either (c == 91) same
    (either (c == 39) same
    (either (c == 34) same
    (value_shift (one_shift (i + 1) (i' + 1) c (words.special_of c))))))))

placeless_all : (g : Sign) → words.is_all (placeless g) ≡ words.is_all g
placeless_all (sign.Value (Special special.At s)) = refl
placeless_all (sign.Value p) = refl
placeless_all g = refl

sign_in_shift : (x : Context) (o' : ℕ) (f f' : Sign × ℕ) → Same f' f → Same (words.sign_in (turned o' x) f') (words.sign_in x f)
sign_in_shift x o' f f' s =
    let e : words.is_all f'.0 ≡ words.is_all f.0 = sym (placeless_all f'.0) ∙ ap words.is_all s.sign ∙ placeless_all f.0 in
    rw e (either (words.is_all f.0 && not x.fields) same s)

dollar_shift : (x : Context) (o' i i' : ℕ) (cs : List ℕ) → Same (words.dollar (turned o' x) i' cs) (words.dollar x i cs)
unfolding words.dollar
dollar_shift x o' i i' cs = either (is_joined cs) same (sign_in_shift x o' _ _ (expansion_shift i i' cs))

-- Signs

-- outside quotes a tilde-prefix may begin at both places or at neither
abbrev pub Turn : Context → ℕ → ℕ → ℕ → Type 0
Turn x o' i i' = words.is_quoted x.site ≡ false → (i' == o') ≡ (i == x.origin)

tilde_shift : (x : Context) (o' : ℕ) (cs : List ℕ) → words.tilde_length (turned o' x) cs ≡ words.tilde_length x cs
unfolding words.tilde_length
tilde_shift x o' cs = refl

stands_shift : (x : Context) (o' prior i i' c : ℕ) (cs : List ℕ) → Turn x o' i i' → words.stands (turned o' x) prior i' c cs ≡ words.stands x prior i c cs
unfolding words.stands words.is_tilde
stands_shift x o' prior i i' c cs turn = by_bool (words.is_quoted x.site)
    (λ quoted. rw (quoted, tilde_shift x o' cs) refl)
    (λ outside. rw (turn outside, tilde_shift x o' cs) refl)

plain_shift : (x : Context) (o' p q prior n : ℕ) (cs : List ℕ) → ((n : ℕ) → Turn x o' (p + n) (q + n)) → words.plain_length (turned o' x) prior (q + n) cs ≡ words.plain_length x prior (p + n) cs
unfolding words.plain_length
plain_shift x o' p q prior n [] turns = refl
plain_shift x o' p q prior n (c ∷ cs) turns =
    let inner : words.plain_length (turned o' x) c (q + n + 1) cs ≡ words.plain_length x c (p + n + 1) cs =
    ap (λ k. words.plain_length (turned o' x) c k cs) (along q n) ∙ plain_shift x o' p q c (n + 1) cs turns ∙ sym (ap (λ k. words.plain_length x c k cs) (along p n)) in
    rw (stands_shift x o' prior (p + n) (q + n) c cs (turns n)) (ap (λ k. if words.stands x prior (p + n) c cs then 1 + k else 0) inner)
  where
    along : (p n : ℕ) → p + n + 1 ≡ p + (n + 1)
    along p n = omega arith

continuation_shift : (x : Context) (o' : ℕ) (cs : List ℕ) → words.continuation (turned o' x) cs ≡ words.continuation x cs
unfolding words.continuation
continuation_shift x o' cs = refl

backslash_shift : (x : Context) (o' : ℕ) (cs : List ℕ) → words.backslash (turned o' x) cs ≡ words.backslash x cs
unfolding words.backslash
backslash_shift x o' [] = refl
backslash_shift x o' (c ∷ rest) = rw (continuation_shift x o' rest) refl

backquoted_shift : (x : Context) (o' : ℕ) (cs : List ℕ) → words.backquoted (turned o' x) cs ≡ words.backquoted x cs
unfolding words.backquoted
backquoted_shift x o' cs = refl

meant_shift : (x : Context) (o' i i' c : ℕ) (cs : List ℕ) → Same (words.meant_by (turned o' x) i' c cs) (words.meant_by x i c cs)
unfolding words.meant_by
meant_shift x o' i i' c cs =
    rw (backslash_shift x o' cs, backquoted_shift x o' cs) (either (c == 92) same (either (c == 39) same (either (c == 34) same (either (c == 96) same (dollar_shift x o' i i' cs)))))

-- what begins n bytes on in both texts
pub sign_shift : (x : Context) (o' p q prior n : ℕ) (cs : List ℕ) → ((n : ℕ) → Turn x o' (p + n) (q + n)) → Same (words.sign_of (turned o' x) prior (q + n) cs) (words.sign_of x prior (p + n) cs)
unfolding words.sign_of words.sign_by
sign_shift x o' p q prior n [] turns = same
sign_shift x o' p q prior n (c ∷ cs) turns =
    rw (stands_shift x o' prior (p + n) (q + n) c cs (turns n), plain_shift x o' p q prior n (c ∷ cs) turns, tilde_shift x o' cs)
    (either (words.stops x.site c) same
    (either (words.is_stripped x prior c) same
    (either (words.stands x prior (p + n) c cs) same
    (either (c == 126) same (meant_shift x o' (p + n) (q + n) c cs)))))
