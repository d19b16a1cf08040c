-- No demand has the code of quoting, and each place outside quotes has it; so none of both is
-- reported twice.
use Rattle.std.proofs.Common.{◌≡◌, ℕ, Bool, true, false, not, if◌then◌else◌, List, [], ◌∷◌, ◌++◌, map, Option, Some, None, Ok, inl, inr, refl, sym, ◌∙◌, ap, true≢false}
use Rattle.std.specs.List.{Contains, flat_map, list_all}
use Rattle.std.proofs.lemmas.Bool.{and_from, and_parts, cases_Bool}
use Rattle.std.proofs.lemmas.List.Elements.{Contains-append_cases}
use Rattle.std.proofs.lemmas.List.Folds.{list_all-append, list_all_at}
use Rattle.sh_tree.specs.Answers.{Parses}
use Rattle.sh_tree.specs.declared.limits.TheConstants.{MAX_NESTING}
use Rattle.sh_tree.specs.declared.place.Code.{Code}
use Rattle.sh_tree.specs.declared.place.Code.TheVariants.{Q1, U1, U2, U3}
use Rattle.sh_tree.specs.declared.place.Place.{Place}
use Rattle.sh_tree.specs.declared.tree.Action.TheVariants as action
use Rattle.sh_tree.specs.declared.tree.Script.{Script}
use Rattle.sh_tree.specs.standard.language.Reading.{Reads}
use Rattle.sh_tree.specs.standard.program.Syntax as p
use Rattle.sh_tree.specs.standard.program.Syntax.{Text}
use Rattle.sh_tree.specs.standard.program.Trees.{script_of}
use Rattle.sh_runs.specs.Surroundings.{Located, outside, items_located}
use Rattle.sh_reads.specs.Spots.{EachOnce}
use Rattle.sh_domain.specs.Demands.{elements_unmet, clauses_unmet, for_words_unmet, kind_unmet, drop_at, move_at, shared_unmet, unmet, demands}
use Rattle.sh_domain.specs.Entries.{Entered, script_entered}
use Rattle.sh_domain.specs.Facts.{Facts, Declared, Variable, claims, start_facts}
use Rattle.sh_domain.specs.Gains.{redirect_gains, through, with_gains}
use Rattle.sh_domain.specs.Needs.{wanted, covers, parameter_text, needed, name_needed, target_needed, reads_unmet, operands_read, part_unmet, word_unmet, operator_unmet, expanded_unmet, operands_expanded, words_unmet, patterns_unmet, redirect_unmet, redirects_unmet}
use Rattle.sh_domain.specs.Rules.{functions_of}
use Rattle.sh_domain.specs.Sheets.{Sheet}
use Rattle.sh_domain.specs.Views.{Certificate}
use Rattle.sh_domain.proofs.SpotLemmas.{read_places_once}
use Rattle.sh_quote.specs.Places.{told_at, part_places, parts_places, word_places, split_words, unquoted}
use Rattle.sh_quote.specs.Steady.{steady}
use Rattle.sh_quote.proofs.OnceLemmas.{read_unquoted_once}
use Rattle.sh_domain.specs.Admitted.{claims_in}
use Rattle.sh_accept.specs.Answers.{places}

unfoldable is_quoting : Place → Bool
is_quoting q = of_code q.code
  where
    of_code : Code → Bool
    of_code Q1 = true
    of_code _ = false

-- each place passes
record All (test : Place → Bool) (qs : List Place) : Type 0 where
  passes : list_all test qs ≡ true

module _ {test : Place → Bool} where
  none : All test []
  none = record { passes = refl }

  one : {q : Place} → test q ≡ true → All test (q ∷ [])
  one {q = q} h = record { passes = and_from (test q) true h refl }

  join : {xs ys : List Place} → All test xs → All test ys → All test (xs ++ ys)
  join {xs = xs} {ys = ys} h k = record { passes = list_all-append test xs ys ∙ and_from (list_all test xs) (list_all test ys) h.passes k.passes }

  gathered : {A : Type 0} (f : A → List Place) (xs : List A) → ((x : A) → All test (f x)) → All test (flat_map f xs)
  gathered f [] h = none
  gathered f (x ∷ xs) h = join (h x) (gathered f xs h)

-- Demands

is_other : Place → Bool
is_other q = not (is_quoting q)

abbrev Other : List Place → Type 0
Other qs = All is_other qs

unset_other : (b : Bool) (at : ℕ) (t : Text) → Other (wanted b at U1 t)
unfolding wanted is_other is_quoting
unset_other true at t = none
unset_other false at t = one refl

home_other : (b : Bool) (at : ℕ) (t : Text) → Other (wanted b at U2 t)
unfolding wanted is_other is_quoting
home_other true at t = none
home_other false at t = one refl

name_other : (b : Bool) (at : ℕ) (t : Text) → Other (wanted b at U3 t)
unfolding wanted is_other is_quoting
name_other true at t = none
name_other false at t = one refl

needed_other : (f : Facts) (at : ℕ) (x : p.Parameter) → Other (needed f at x)
needed_other f at x = unset_other (covers f x) at (parameter_text x)

target_other : {A : Type 0} (f : Facts) (o : Option A) (at : ℕ) (name : Text) → Other (target_needed f o at name)
unfolding target_needed name_needed
target_other f None at name = none
target_other f (Some operator) at name = name_other (claims f (Variable name)) at name

mutual
  unfolding reads_unmet name_needed

  reads_other : (f : Facts) (t : p.Expression) → Other (reads_unmet f t)
  reads_other f (p.Name at name) = name_other _ at name
  reads_other f (p.Parenthesis e) = reads_other f e
  reads_other f (p.Signed operator e) = reads_other f e
  reads_other f (p.Chain e rest) = join (reads_other f e) (operands_other f rest)
  reads_other f (p.Choice e then_one else_one) = join (join (reads_other f e) (reads_other f then_one)) (reads_other f else_one)
  reads_other f (p.Assigned at name operator e) = join (target_other f operator at name) (reads_other f e)
  reads_other f t = none

  operands_other : (f : Facts) (t : p.Operands) → Other (operands_read f t)
  operands_other f p.no_operands = none
  operands_other f (p.more_operands operator e rest) = join (reads_other f e) (operands_other f rest)

mutual
  unfolding word_unmet name_needed

  part_other : (f : Facts) (t : p.Part) → Other (part_unmet f t)
  part_other f (p.Double w) = word_other f w
  part_other f (p.Expansion at parameter operator) = operator_other f at parameter operator
  part_other f (p.Arithmetic at e) = join (expanded_other f e) (reads_other _ e)
  part_other f (p.Tilde at []) = home_other _ at _
  part_other f (p.Tilde at (c ∷ login)) = none
  part_other f t = none

  word_other : (f : Facts) (t : p.Word) → Other (word_unmet f t)
  word_other f p.no_parts = none
  word_other f (p.more_parts x w) = join (part_other f x) (word_other _ w)

  operator_other : (f : Facts) (at : ℕ) (parameter : p.Parameter) (t : p.Operator) → Other (operator_unmet f at parameter t)
  operator_other f at parameter p.Value = needed_other f at parameter
  operator_other f at parameter p.Length = needed_other f at parameter
  operator_other f at parameter (p.Remove removal w) = join (needed_other f at parameter) (word_other f w)
  operator_other f at parameter (p.Use action.Alternative colon w) = word_other _ w
  operator_other f at parameter (p.Use _ colon w) = word_other f w

  expanded_other : (f : Facts) (t : p.Expression) → Other (expanded_unmet f t)
  expanded_other f (p.Expanded x) = part_other f x
  expanded_other f (p.Parenthesis e) = expanded_other f e
  expanded_other f (p.Signed operator e) = expanded_other f e
  expanded_other f (p.Chain e rest) = join (expanded_other f e) (operands_expanded_other _ rest)
  expanded_other f (p.Choice e then_one else_one) = join (join (expanded_other f e) (expanded_other _ then_one)) (expanded_other _ else_one)
  expanded_other f (p.Assigned at name operator e) = expanded_other f e
  expanded_other f t = none

  operands_expanded_other : (f : Facts) (t : p.Operands) → Other (operands_expanded f t)
  operands_expanded_other f p.no_operands = none
  operands_expanded_other f (p.more_operands operator e rest) = join (expanded_other f e) (operands_expanded_other _ rest)

words_other : (f : Facts) (t : p.Words) → Other (words_unmet f t)
unfolding words_unmet
words_other f p.no_words = none
words_other f (p.more_words w ws) = join (word_other f w) (words_other (through w f) ws)

patterns_other : (f : Facts) (t : p.Words) → Other (patterns_unmet f t)
unfolding patterns_unmet
patterns_other f p.no_words = none
patterns_other f (p.more_words w ws) = join (word_other f w) (patterns_other f ws)

redirect_other : (f : Facts) (t : p.Redirect) → Other (redirect_unmet f t)
unfolding redirect_unmet
redirect_other f (p.File w) = word_other f w
redirect_other f (p.Here w) = word_other f w

redirects_other : (f : Facts) (t : p.Redirects) → Other (redirects_unmet f t)
unfolding redirects_unmet
redirects_other f p.no_redirects = none
redirects_other f (p.more_redirects r rs) = join (redirect_other f r) (redirects_other (with_gains (redirect_gains r) f) rs)

elements_other : (f behind : Facts) (t : p.Elements) → Other (elements_unmet f behind t)
unfolding elements_unmet
elements_other f behind p.no_elements = none
elements_other f behind (p.assignment name value es) = join (word_other behind value) (elements_other f behind es)
elements_other f behind (p.operand w es) = join (word_other f w) (elements_other (through w f) behind es)
elements_other f behind (p.redirection r es) = join (redirect_other behind r) (elements_other f behind es)

clauses_other : (f : Facts) (t : p.Clauses) → Other (clauses_unmet f t)
unfolding clauses_unmet
clauses_other f p.no_clauses = none
clauses_other f (p.more_clauses patterns body end rest) = join (patterns_other f patterns) (clauses_other f rest)

for_words_other : (f : Facts) (t : p.ForWords) → Other (for_words_unmet f t)
unfolding for_words_unmet
for_words_other f p.every_parameter = none
for_words_other f (p.listed ws) = words_other f ws

kind_other : (f : Facts) (t : p.Kind) → Other (kind_unmet f t)
unfolding kind_unmet
kind_other f (p.Simple es) = elements_other _ _ es
kind_other f (p.For name ws body) = for_words_other f ws
kind_other f (p.Case w cs) = join (word_other f w) (clauses_other _ cs)
kind_other f t = none

drops_other : (at : ℕ) (names : List Text) → Other (map (drop_at at) names)
unfolding is_other is_quoting
drops_other at [] = none
drops_other at (n ∷ names) = join {xs = drop_at at n ∷ []} (one refl) (drops_other at names)

moves_other : (at : ℕ) (b : Bool) → Other (move_at at b)
unfolding move_at is_other is_quoting
moves_other at false = none
moves_other at true = one refl

if_other : (b : Bool) (qs : List Place) → Other qs → Other (if b then qs else [])
if_other true qs h = h
if_other false qs h = none

unmet_other : (d : Facts) (c : Certificate) (functions : List Text) (e : Entered) → Other (unmet d c functions e)
unfolding unmet shared_unmet
unmet_other d c functions e = go e.command
  where
    go : (k : p.Command) → Other (unmet d c functions (record e { command = k }))
    go (p.command n at k rs) =
        join (join (redirects_other _ rs) (kind_other _ k))
        (if_other e.around.shares _ (join (drops_other at _) (moves_other at _)))

demands_other : (d : Facts) (c : Certificate) (t : p.Items) → Other (demands d c t)
unfolding demands
demands_other d c t = gathered (unmet d c (functions_of (script_entered t))) (script_entered t) (unmet_other d c (functions_of (script_entered t)))

-- Places outside quotes

abbrev Quoting : List Place → Type 0
Quoting qs = All is_quoting qs

told_quoting : (b : Bool) (at : ℕ) → Quoting (told_at b at)
unfolding told_at is_quoting
told_quoting true at = none
told_quoting false at = one refl

part_quoting : (numbers : Bool) (t : p.Part) → Quoting (part_places numbers t)
unfolding part_places
part_quoting numbers (p.Expansion at parameter operator) = told_quoting _ at
part_quoting numbers (p.Arithmetic at e) = told_quoting numbers at
part_quoting numbers (p.Substitution at list) = told_quoting false at
part_quoting numbers t = none

parts_quoting : (numbers : Bool) (t : p.Word) → Quoting (parts_places numbers t)
unfolding parts_places
parts_quoting numbers p.no_parts = none
parts_quoting numbers (p.more_parts x w) = join (part_quoting numbers x) (parts_quoting numbers w)

word_quoting : (whole : Bool) (t : p.Word) → Quoting (word_places whole t)
unfolding word_places
word_quoting whole w = parts_quoting _ w

unquoted_quoting : (t : p.Items) → Quoting (unquoted t)
unfolding unquoted
unquoted_quoting t =
    gathered (λ (l : Located). flat_map (word_places (steady t)) (split_words l.command)) (items_located outside t)
    (λ l. gathered (word_places (steady t)) (split_words l.command) (word_quoting (steady t)))

-- Both

passing : (test : Place → Bool) (qs : List Place) (q : Place) → list_all test qs ≡ true → Contains qs q → test q ≡ true
passing test qs q h k = elim (cases_Bool (test q)) [
  | inl t ↦ t
  | inr t ↦ absurd (true≢false (sym h ∙ list_all_at test qs k.0 q k.1 (ap test k.2 ∙ t)))
]

once_joined : (xs ys : List Place) → EachOnce xs → EachOnce ys → list_all is_other xs ≡ true → list_all is_quoting ys ≡ true → EachOnce (xs ++ ys)
unfolding EachOnce is_other
once_joined [] ys h k o c = k
once_joined (x ∷ xs) ys h k o c =
    let parts = and_parts (is_other x) (list_all is_other xs) o in (
      (λ m. elim (Contains-append_cases xs ys x m) [
        | inl l ↦ h.0 l
        | inr l ↦ apart (is_quoting x) (passing is_quoting ys x c l) parts.0
      ]),
      once_joined xs ys h.1 k parts.1 c,
    )
  where
    apart : (b : Bool) → b ≡ true → not b ≡ true → ⊥
    apart true e f = true≢false (sym f)
    apart false e f = true≢false (sym e)

pub places_once : (b : List ℕ) (d : Declared) (t : Script) (c : Sheet) → Parses b (Ok t) → EachOnce (places b d t c)
places_once b d t c read =
    let reads : Reads b t = (MAX_NESTING, read.1.0, read.1.1) in
    once_joined (demands (start_facts d) (claims_in b t c) (script_of b t)) (unquoted (script_of b t))
    (read_places_once (start_facts d) (claims_in b t c) b t reads) (read_unquoted_once b t reads)
    (demands_other (start_facts d) (claims_in b t c) (script_of b t)).passes (unquoted_quoting (script_of b t)).passes
