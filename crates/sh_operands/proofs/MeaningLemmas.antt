-- What the code finds of operands is what the definitions of runs read off them.
use Rattle.std.proofs.Common.{◌≡◌, ◌≤◌, ◌<◌, ℕ, suc, ◌+◌, ◌*◌, Bool, true, false, if◌then◌else◌, List, [], ◌∷◌, ◌++◌, length, drop, map, fold, Option, Some, None, is_some, unwrap_or, option_map, refl, sym, ap, ap₂, ◌∙◌, arith, true≢false}
use Rattle.std.proofs.Math.Nat.{mul-le-mul_left}
use Rattle.std.proofs.lemmas.Option.{none-some}
use Rattle.sh_tree.specs.standard.program.Syntax.{Text, Word}
use Rattle.sh_runs.specs.Counts.{Count, Parameters, One, Nothing, count_of, least_fields}
use Rattle.sh_runs.specs.Profile.{Static}
use Rattle.sh_runs.specs.standard.runs.Answers.{Answer}
use Rattle.sh_runs.specs.standard.runs.Builtins.{is_removed, removed, removed_all, unset_names}
use Rattle.sh_runs.specs.standard.runs.Environment.{Environment, Frame, with_variable, with_function}
use Rattle.sh_runs.specs.standard.runs.Numbers.{number_in}
use Rattle.sh_runs.specs.standard.runs.Operands.{Removal, OfVariables, OfFunctions, OfEither, OfAny, set_from, ends_options, is_set_option, ends_in_o}
use Rattle.sh_operands.specs.declared.counts.Total.{Total}
use Rattle.sh_operands.specs.Fields.{no_fields, counted, counted_word}
use Rattle.sh_operands.specs.Meaning.{UnsetReads, UnsetKeeps, SetReads, SetStays, NumbersRead, FieldsCount, least_of}
use Rattle.sh_table.specs.Numerals.{most, capped}
use Rattle.sh_operands.specs.Texts.{takes_variables, takes_functions, positional_at}
use Rattle.sh_operands.proofs.TextLemmas.{unset_told}

pub unset_reads : UnsetReads
unset_reads ts = unset_told [] ts

variables_stay : (a : Answer) (n : ℕ) (e : Environment) (names : List Text) → (removed_all OfFunctions a n e names).variables ≡ e.variables
unfolding removed_all removed
variables_stay a n e [] = refl
variables_stay a n e (name ∷ names) = variables_stay a (n + 1) (if is_removed a n then with_function e name None else e) names ∙ go (is_removed a n)
  where
    go : (b : Bool) → (if b then with_function e name None else e).variables ≡ e.variables
    go true = refl
    go false = refl

functions_stay : (a : Answer) (n : ℕ) (e : Environment) (names : List Text) → (removed_all OfVariables a n e names).functions ≡ e.functions
unfolding removed_all removed
functions_stay a n e [] = refl
functions_stay a n e (name ∷ names) = functions_stay a (n + 1) (if is_removed a n then with_variable e name None else e) names ∙ go (is_removed a n)
  where
    go : (b : Bool) → (if b then with_variable e name None else e).functions ≡ e.functions
    go true = refl
    go false = refl

no_variables : (e : Environment) (a : Answer) (r : Removal) (names : List Text) → takes_variables r ≡ false → (removed_all r a 0 e names).variables ≡ e.variables
unfolding takes_variables
no_variables e a OfVariables names h = absurd (true≢false h)
no_variables e a OfFunctions names h = variables_stay a 0 e names
no_variables e a OfEither names h = absurd (true≢false h)
no_variables e a OfAny names h = absurd (true≢false h)

no_functions : (e : Environment) (a : Answer) (r : Removal) (names : List Text) → takes_functions r ≡ false → (removed_all r a 0 e names).functions ≡ e.functions
unfolding takes_functions
no_functions e a OfVariables names h = functions_stay a 0 e names
no_functions e a OfFunctions names h = absurd (true≢false h)
no_functions e a OfEither names h = absurd (true≢false h)
no_functions e a OfAny names h = absurd (true≢false h)

pub unset_keeps : UnsetKeeps
unfolding unset_names
unset_keeps = record {
  variables = λ e a x h. no_variables e a x.0 x.1 h;
  functions = λ e a x h. no_functions e a x.0 x.1 h;
}

-- `set`

one_further : (t : Text) (ts : List Text) (o : Option ℕ) → option_map (λ i. drop i (t ∷ ts)) (option_map suc o) ≡ option_map (λ i. drop i ts) o
one_further t ts None = refl
one_further t ts (Some i) = refl

set_told : (takes : Bool) (ts : List Text) → set_from takes ts ≡ option_map (λ i. drop i ts) (positional_at takes (map Some ts))
unfolding set_from positional_at
set_told true [] = refl
set_told false [] = refl
set_told true (t ∷ ts) = set_told false ts ∙ sym (one_further t ts (positional_at false (map Some ts)))
set_told false (t ∷ ts) = go (ends_options t) (is_set_option t) (set_from (ends_in_o t) ts) (positional_at (ends_in_o t) (map Some ts)) (set_told (ends_in_o t) ts)
  where
    go : (e s : Bool) (r : Option (List Text)) (o : Option ℕ) → r ≡ option_map (λ i. drop i ts) o
        → (if e then Some ts else (if s then r else Some (t ∷ ts))) ≡ option_map (λ i. drop i (t ∷ ts)) (if e then Some 1 else (if s then option_map suc o else Some 0))
    go true s r o h = refl
    go false true r o h = h ∙ sym (one_further t ts o)
    go false false r o h = refl

pub set_reads : SetReads
set_reads ts = set_told false ts

same_some : (o : Option ℕ) → is_some (option_map suc o) ≡ is_some o
same_some None = refl
same_some (Some i) = refl

at_stays : (takes : Bool) (ts us : List Static) → is_some (positional_at takes ts) ≡ true → positional_at takes (ts ++ us) ≡ positional_at takes ts
unfolding positional_at
at_stays true [] us h = absurd (true≢false (sym h))
at_stays false [] us h = absurd (true≢false (sym h))
at_stays true (t ∷ ts) us h = ap (option_map suc) (at_stays false ts us (sym (same_some (positional_at false ts)) ∙ h))
at_stays false (None ∷ ts) us h = refl
at_stays false (Some t ∷ ts) us h =
    go (ends_options t) (is_set_option t) (positional_at (ends_in_o t) ts) (positional_at (ends_in_o t) (ts ++ us)) (at_stays (ends_in_o t) ts us) h
  where
    go : (e s : Bool) (o q : Option ℕ) → (is_some o ≡ true → q ≡ o) → is_some (if e then Some 1 else (if s then option_map suc o else Some 0)) ≡ true
        → (if e then Some 1 else (if s then option_map suc q else Some 0)) ≡ (if e then Some 1 else (if s then option_map suc o else Some 0))
    go true s o q k h = refl
    go false true o q k h = ap (option_map suc) (k (sym (same_some o) ∙ h))
    go false false o q k h = refl

words_stay : (takes : Bool) (ts us : List Text) → is_some (set_from takes ts) ≡ true → set_from takes (ts ++ us) ≡ option_map (λ vs. vs ++ us) (set_from takes ts)
unfolding set_from
words_stay true [] us h = absurd (true≢false (sym h))
words_stay false [] us h = absurd (true≢false (sym h))
words_stay true (t ∷ ts) us h = words_stay false ts us h
words_stay false (t ∷ ts) us h =
    go (ends_options t) (is_set_option t) (set_from (ends_in_o t) ts) (set_from (ends_in_o t) (ts ++ us)) (words_stay (ends_in_o t) ts us) h
  where
    go : (e s : Bool) (o q : Option (List Text)) → (is_some o ≡ true → q ≡ option_map (λ vs. vs ++ us) o)
        → is_some (if e then Some ts else (if s then o else Some (t ∷ ts))) ≡ true
        → (if e then Some (ts ++ us) else (if s then q else Some (t ∷ (ts ++ us)))) ≡ option_map (λ vs. vs ++ us) (if e then Some ts else (if s then o else Some (t ∷ ts)))
    go true s o q k h = refl
    go false true o q k h = k h
    go false false o q k h = refl

pub set_stays : SetStays
set_stays ts us fields i h =
    let e : set_from false ts ≡ Some (drop i ts) = set_told false ts ∙ ap (option_map (λ i. drop i ts)) h in
    (at_stays false (map Some ts) us (ap is_some h) ∙ h, words_stay false ts fields (ap is_some e) ∙ ap (option_map (λ vs. vs ++ fields)) e)

-- numbers

pub numbers_read : NumbersRead
numbers_read = record {
  below = λ t n h e. below (number_in t) n h e;
  above = λ t n e g. above (number_in t) n e g;
  none = λ t e. none (number_in t) e;
}
  where
    below : (o : Option ℕ) (n : ℕ) → n < most → option_map capped o ≡ Some n → o ≡ Some n
    below None n h e = absurd (none-some n e)
    below (Some m) n h e = let f : capped m ≡ n = ap (λ o. unwrap_or o 0) e in let g : m ≡ n = omega (arith, f, h) in ap Some g

    above : (o : Option ℕ) (n : ℕ) → option_map capped o ≡ Some most → o ≡ Some n → most ≤ n
    above o n e g =
        let f : capped n ≡ most = ap (λ o. unwrap_or (option_map capped o) 0) (sym g) ∙ ap (λ o. unwrap_or o 0) e in omega (arith, f)

    none : (o : Option ℕ) → option_map capped o ≡ None → o ≡ None
    none None e = refl
    none (Some m) e = absurd (none-some (capped m) (sym e))

-- fields

abbrev up_to : ℕ → ℕ → Total
up_to n m = record { ones = capped n; parameters = capped m }

-- how much a word adds

unfoldable ones_of : Count → ℕ
ones_of One = 1
ones_of _ = 0

unfoldable parameters_of : Count → ℕ
parameters_of Parameters = 1
parameters_of _ = 0

unfoldable ones_in : List Word → ℕ
ones_in [] = 0
ones_in (w ∷ ws) = ones_of (count_of w) + ones_in ws

unfoldable parameters_in : List Word → ℕ
parameters_in [] = 0
parameters_in (w ∷ ws) = parameters_of (count_of w) + parameters_in ws

one_counted : (n m : ℕ) (c : Count) → counted (up_to n m) c ≡ up_to (n + ones_of c) (m + parameters_of c)
unfolding counted ones_of parameters_of
one_counted n m Parameters = let e : capped n ≡ capped (n + 0) = omega arith in let f : capped (capped m + 1) ≡ capped (m + 1) = omega arith in ap₂ (λ j k. record { ones = j; parameters = k }) e f
one_counted n m One = let e : capped (capped n + 1) ≡ capped (n + 1) = omega arith in let f : capped m ≡ capped (m + 0) = omega arith in ap₂ (λ j k. record { ones = j; parameters = k }) e f
one_counted n m Nothing = let e : n ≡ n + 0 = omega arith in let f : m ≡ m + 0 = omega arith in ap₂ up_to e f

all_counted : (n m : ℕ) (ws : List Word) → fold counted_word (up_to n m) ws ≡ up_to (n + ones_in ws) (m + parameters_in ws)
unfolding ones_in parameters_in
all_counted n m [] = let e : n ≡ n + 0 = omega arith in let f : m ≡ m + 0 = omega arith in ap₂ up_to e f
all_counted n m (w ∷ ws) =
    let e : (n + ones_of (count_of w)) + ones_in ws ≡ n + (ones_of (count_of w) + ones_in ws) = omega arith in
    let f : (m + parameters_of (count_of w)) + parameters_in ws ≡ m + (parameters_of (count_of w) + parameters_in ws) = omega arith in
    ap (λ t. fold counted_word t ws) (one_counted n m (count_of w)) ∙ all_counted (n + ones_of (count_of w)) (m + parameters_of (count_of w)) ws ∙ ap₂ up_to e f

from_none : (ws : List Word) → fold counted_word no_fields ws ≡ up_to (ones_in ws) (parameters_in ws)
from_none ws =
    let e : 0 + ones_in ws ≡ ones_in ws = omega arith in let f : 0 + parameters_in ws ≡ parameters_in ws = omega arith in all_counted 0 0 ws ∙ ap₂ up_to e f

one_least : (f : Frame) (c : Count) (n m r : ℕ) → n + m * length f ≡ r → (ones_of c + n) + (parameters_of c + m) * length f ≡ least_fields f c + r
unfolding ones_of parameters_of least_fields
one_least f Parameters n m r h = omega (arith, h)
one_least f One n m r h = omega (arith, h)
one_least f Nothing n m r h = omega (arith, h)

all_least : (f : Frame) (ws : List Word) → ones_in ws + parameters_in ws * length f ≡ least_of f ws
unfolding ones_in parameters_in least_of
all_least f [] = omega arith
all_least f (w ∷ ws) = one_least f (count_of w) (ones_in ws) (parameters_in ws) (least_of f ws) (all_least f ws)

pub fields_count : FieldsCount
fields_count = record {
  within = λ f ws. within (length f) (ones_in ws) (parameters_in ws) (least_of f ws) (fold counted_word no_fields ws) (from_none ws) (all_least f ws);
  exact = λ f ws h k. exact (length f) (ones_in ws) (parameters_in ws) (least_of f ws) (fold counted_word no_fields ws) (from_none ws) (all_least f ws) h k;
}
  where
    within : (l n m r : ℕ) (t : Total) → t ≡ up_to n m → n + m * l ≡ r → t.ones + t.parameters * l ≤ r
    within l n m r t e h =
        let o : t.ones ≡ capped n = ap (λ (t : Total). t.ones) e in
        let p : t.parameters ≤ m = omega (arith, ap (λ (t : Total). t.parameters) e) in
        let q : l * t.parameters ≤ l * m = mul-le-mul_left l p in
        omega (arith, o, q, h)

    exact : (l n m r : ℕ) (t : Total) → t ≡ up_to n m → n + m * l ≡ r → t.ones < most → t.parameters < most → t.ones + t.parameters * l ≡ r
    exact l n m r t e h below less =
        let o : t.ones ≡ n = omega (arith, below, ap (λ (t : Total). t.ones) e) in
        let p : t.parameters ≡ m = omega (arith, less, ap (λ (t : Total). t.parameters) e) in
        ap₂ (λ j k. j + k * l) o p ∙ h
