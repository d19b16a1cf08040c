-- What built-in utilities and prefix assignments leave of what was set, and what they set.
use Rattle.std.proofs.Common.{◌≡◌, ℕ, ◌+◌, ◌==◌, Bool, true, false, not, ◌||◌, if◌then◌else◌, Option, Some, None, is_some, List, [], ◌∷◌, map, filter, codes, bytes_eq, inl, inr, refl, sym, ap, subst, ◌∙◌}
use Rattle.std.proofs.lemmas.Bool.{and_parts, or_cases, or_parts, true≢false}
use Rattle.std.proofs.lemmas.Slice.Eq.{bytes_eq-Decides}
use Rattle.sh_tree.specs.standard.language.Bytes.{is_name}
use Rattle.sh_tree.specs.standard.program.Syntax.{Text}
use Rattle.sh_runs.specs.standard.runs.Environment.{Environment, is_one_of, put_text, with_variable, with_function, showing, hiding}
use Rattle.sh_runs.specs.standard.runs.Answers.{Answer}
use Rattle.sh_runs.specs.standard.runs.Builtins.{is_removed, removed_either, removed_any, removed, removed_all, given_to, read_into, gets_option, changes_directory}
use Rattle.sh_runs.specs.standard.runs.Operands.{Removal, OfVariables, OfFunctions, OfEither, OfAny}
use Rattle.sh_runs.proofs.EnvironmentLemmas.{if_either, showing_kept, hiding_kept}
use Rattle.sh_domain.specs.Operands as operands
use Rattle.sh_domain.specs.Operands.{Names}
use Rattle.sh_sound.specs.Holding.{Grows}
use Rattle.sh_sound.proofs.HoldLemmas.{grows_refl, grows_trans}
use Rattle.sh_sound.proofs.ExpansionLemmas.{assigned_grows, assigned_set}
use Rattle.sh_sound.proofs.DropLemmas.{Spares, put_apart}
use Rattle.sh_sound.proofs.CallLemmas.{passing_one}
use Rattle.std.proofs.lemmas.Map.Views.{any-filter_same}

-- Prefix assignments of a utility, seen for a while

pub showing_grows : (e : Environment) (xs : List (Text × Text)) → Grows e (showing e xs)
unfolding showing
showing_grows e [] = grows_refl e
showing_grows e (x ∷ xs) =
    let d : Environment = with_variable e x.0 (Some x.1) in
    grows_trans e d (showing d xs) (assigned_grows e x.0 x.1) (showing_grows d xs)

-- a name gets what it has in the first environment
put_back_grows : (e d : Environment) (name : Text) → Grows e d → Grows e (with_variable d name (e.variables name))
unfolding put_text
put_back_grows e d name g = record { variables = λ t i h. go t i h (bytes_eq t name) refl; functions = g.functions; job = g.job }
  where
    go : (t : Text) → is_name t ≡ true → is_some (e.variables t) ≡ true → (b : Bool) → bytes_eq t name ≡ b → is_some (if b then e.variables name else d.variables t) ≡ true
    go t i h true same = subst (λ u. is_some (e.variables u) ≡ true) ((bytes_eq-Decides t name).0 same) h
    go t i h false other = g.variables t i h

pub hiding_grows : (e d : Environment) (xs : List (Text × Text)) → Grows e d → Grows e (hiding e xs d)
unfolding hiding
hiding_grows e d [] g = g
hiding_grows e d (x ∷ xs) g = hiding_grows e (with_variable d x.0 (e.variables x.0)) xs (put_back_grows e d x.0 g)

pub showing_functions : (e : Environment) (xs : List (Text × Text)) → (showing e xs).functions ≡ e.functions
showing_functions e xs = showing_kept (λ (x : Environment). x.functions ≡ e.functions) (λ x name v h. h) e xs refl

pub hiding_functions : (e d : Environment) (xs : List (Text × Text)) → (hiding e xs d).functions ≡ d.functions
hiding_functions e d xs = hiding_kept (λ (x : Environment). x.functions ≡ d.functions) (λ x name v h. h) e xs d refl

-- what is shown is set
pub showing_sets : (e : Environment) (xs : List (Text × Text)) (t : Text) → is_name t ≡ true → is_one_of (map (λ x. x.0) xs) t ≡ true → is_some ((showing e xs).variables t) ≡ true
unfolding showing
showing_sets e [] t i h = cc
showing_sets e (x ∷ xs) t i h = elim (or_cases (bytes_eq x.0 t) (is_one_of (map (λ x. x.0) xs) t) h) [
  | inl same ↦
      let d : Environment = with_variable e x.0 (Some x.1) in
      (showing_grows d xs).variables t i (subst (λ u. is_some (d.variables u) ≡ true) ((bytes_eq-Decides x.0 t).0 same) (assigned_set e x.0 x.1))
  | inr more ↦ showing_sets (with_variable e x.0 (Some x.1)) xs t i more
]

-- Names that get a value

given_grows : (may_stay : Bool) (e : Environment) (name : Text) (v : Option Text) → Grows e (given_to may_stay e name v)
unfolding given_to
given_grows may_stay e name (Some t) = assigned_grows e name t
given_grows true e name None = grows_refl e
given_grows false e name None = assigned_grows e name []

given_functions : (may_stay : Bool) (e : Environment) (name : Text) (v : Option Text) → (given_to may_stay e name v).functions ≡ e.functions
unfolding given_to
given_functions may_stay e name (Some t) = refl
given_functions true e name None = refl
given_functions false e name None = refl

given_set : (e : Environment) (name : Text) (v : Option Text) → is_some ((given_to false e name v).variables name) ≡ true
unfolding given_to
given_set e name (Some t) = assigned_set e name t
given_set e name None = assigned_set e name []

pub read_grows : (prefixes : List Text) (a : Answer) (n : ℕ) (e : Environment) (names : List Text) → Grows e (read_into prefixes a n e names)
unfolding read_into
read_grows prefixes a n e [] = grows_refl e
read_grows prefixes a n e (name ∷ names) =
    let d : Environment = given_to (not (a.status == 0) || is_one_of prefixes name) e name (a.values n) in
    grows_trans e d (read_into prefixes a (n + 1) d names) (given_grows _ e name (a.values n)) (read_grows prefixes a (n + 1) d names)

pub read_functions : (prefixes : List Text) (a : Answer) (n : ℕ) (e : Environment) (names : List Text) → (read_into prefixes a n e names).functions ≡ e.functions
unfolding read_into
read_functions prefixes a n e [] = refl
read_functions prefixes a n e (name ∷ names) =
    read_functions prefixes a (n + 1) _ names ∙ given_functions (not (a.status == 0) || is_one_of prefixes name) e name (a.values n)

-- on zero each name that is no prefix is set
pub read_sets : (prefixes : List Text) (a : Answer) (n : ℕ) (e : Environment) (names : List Text) (t : Text) → (a.status == 0) ≡ true → is_name t ≡ true → is_one_of prefixes t ≡ false → is_one_of names t ≡ true
    → is_some ((read_into prefixes a n e names).variables t) ≡ true
unfolding read_into
read_sets prefixes a n e [] t z i free h = cc
read_sets prefixes a n e (name ∷ names) t z i free h = elim (or_cases (bytes_eq name t) (is_one_of names t) h) [
  | inl same ↦
      let one : name ≡ t = (bytes_eq-Decides name t).0 same in
      let set : is_some ((given_to false e t (a.values n)).variables t) ≡ true = given_set e t (a.values n) in
      (read_grows prefixes a (n + 1) (given_to (not (a.status == 0) || is_one_of prefixes name) e name (a.values n)) names).variables t i
      (subst (λ u. is_some ((given_to (not (a.status == 0) || is_one_of prefixes u) e u (a.values n)).variables t) ≡ true) (sym one)
      (subst (λ b. is_some ((given_to (not (a.status == 0) || b) e t (a.values n)).variables t) ≡ true) (sym free)
      (subst (λ b. is_some ((given_to (not b || false) e t (a.values n)).variables t) ≡ true) (sym z) set)))
  | inr more ↦ read_sets prefixes a (n + 1) (given_to (not (a.status == 0) || is_one_of prefixes name) e name (a.values n)) names t z i free more
]

pub directory_grows : (e : Environment) (a : Answer) → Grows e (changes_directory e a)
unfolding changes_directory
directory_grows e a =
    let d : Environment = given_to true e (codes "PWD") (a.values 0) in
    grows_trans e d (given_to true d (codes "OLDPWD") (a.values 1)) (given_grows true e (codes "PWD") (a.values 0)) (given_grows true d (codes "OLDPWD") (a.values 1))

pub directory_functions : (e : Environment) (a : Answer) → (changes_directory e a).functions ≡ e.functions
unfolding changes_directory
directory_functions e a = given_functions true (given_to true e (codes "PWD") (a.values 0)) (codes "OLDPWD") (a.values 1) ∙ given_functions true e (codes "PWD") (a.values 0)

-- `getopts` before it sets OPTARG, or not
unfoldable pub option_begun : List Text → Environment → Answer → Option Text → Environment
option_begun prefixes e a None = given_to true e (codes "OPTIND") (a.values 1)
option_begun prefixes e a (Some name) = read_into prefixes a 0 e (name ∷ codes "OPTIND" ∷ [])

pub option_is : (prefixes : List Text) (e : Environment) (a : Answer) (o : Option Text) → gets_option prefixes e a o ≡ with_variable (option_begun prefixes e a o) (codes "OPTARG") (a.values 2)
unfolding gets_option option_begun
option_is prefixes e a None = refl
option_is prefixes e a (Some name) = refl

pub option_grows : (prefixes : List Text) (e : Environment) (a : Answer) (o : Option Text) → Grows e (option_begun prefixes e a o)
unfolding option_begun
option_grows prefixes e a None = given_grows true e (codes "OPTIND") (a.values 1)
option_grows prefixes e a (Some name) = read_grows prefixes a 0 e (name ∷ codes "OPTIND" ∷ [])

pub option_functions : (prefixes : List Text) (e : Environment) (a : Answer) (o : Option Text) → (option_begun prefixes e a o).functions ≡ e.functions
unfolding option_begun
option_functions prefixes e a None = given_functions true e (codes "OPTIND") (a.values 1)
option_functions prefixes e a (Some name) = read_functions prefixes a 0 e (name ∷ codes "OPTIND" ∷ [])

abbrev pub optarg : Names
optarg = record { vars = codes "OPTARG" ∷ []; functions = [] }

-- a variable changes, and no other
pub put_spares : (e : Environment) (name : Text) (v : Option Text) → Spares (record { vars = name ∷ []; functions = [] }) e (with_variable e name v)
put_spares e name v = record { variables = λ t i n s. put_apart e name t v (or_parts (bytes_eq name t) false n).0 s; functions = λ t i n s. s; job = λ s. s }

-- what grows first
pub grows_spares : (names : Names) (e d e' : Environment) → Grows e d → Spares names d e' → Spares names e e'
grows_spares names e d e' g k = record { variables = λ t i n s. k.variables t i n (g.variables t i s); functions = λ t i n s. k.functions t i n (g.functions t i s); job = λ s. k.job (g.job s) }

-- `unset`

undefined_apart : (e : Environment) (name t : Text) → bytes_eq name t ≡ false → is_some (e.functions t) ≡ true → is_some ((with_function e name None).functions t) ≡ true
unfolding put_text
undefined_apart e name t n s = go (bytes_eq t name) refl
  where
    go : (b : Bool) → bytes_eq t name ≡ b → is_some (if b then None else e.functions t) ≡ true
    go true same = absurd (true≢false (sym ((bytes_eq-Decides name t).1 (sym ((bytes_eq-Decides t name).0 same))) ∙ n))
    go false other = s

-- a variable that is none of the operands stays
removed_variable : (removal : Removal) (a : Answer) (n : ℕ) (e : Environment) (name t : Text) → is_one_of (operands.removed removal (name ∷ [])).vars t ≡ false → is_some (e.variables t) ≡ true
    → is_some ((removed removal a n e name).variables t) ≡ true
unfolding removed removed_either removed_any operands.removed
removed_variable OfVariables a n e name t h s = if_either (λ (x : Environment). is_some (x.variables t) ≡ true) (is_removed a n) _ e (put_apart e name t None (or_parts (bytes_eq name t) false h).0 s) s
removed_variable OfFunctions a n e name t h s = if_either (λ (x : Environment). is_some (x.variables t) ≡ true) (is_removed a n) _ e s s
removed_variable OfEither a n e name t h s =
    let P : Environment → Type 0 = λ (x : Environment). is_some (x.variables t) ≡ true in
    if_either P (is_removed a n) _ e (if_either P (is_some (e.variables name)) _ _ (put_apart e name t None (or_parts (bytes_eq name t) false h).0 s) (if_either P a.takes_function _ e s s)) s
removed_variable OfAny a n e name t h s =
    let P : Environment → Type 0 = λ (x : Environment). is_some (x.variables t) ≡ true in
    let d : Environment = if a.removes_variable n then with_variable e name None else e in
    let there : P d = if_either P (a.removes_variable n) _ e (put_apart e name t None (or_parts (bytes_eq name t) false h).0 s) s in
    if_either P (a.removes_function n) (with_function d name None) d there there

removed_function : (removal : Removal) (a : Answer) (n : ℕ) (e : Environment) (name t : Text) → is_one_of (operands.removed removal (name ∷ [])).functions t ≡ false → is_some (e.functions t) ≡ true
    → is_some ((removed removal a n e name).functions t) ≡ true
unfolding removed removed_either removed_any operands.removed
removed_function OfVariables a n e name t h s = if_either (λ (x : Environment). is_some (x.functions t) ≡ true) (is_removed a n) _ e s s
removed_function OfFunctions a n e name t h s = if_either (λ (x : Environment). is_some (x.functions t) ≡ true) (is_removed a n) _ e (undefined_apart e name t (or_parts (bytes_eq name t) false h).0 s) s
removed_function OfEither a n e name t h s =
    let P : Environment → Type 0 = λ (x : Environment). is_some (x.functions t) ≡ true in
    if_either P (is_removed a n) _ e (if_either P (is_some (e.variables name)) _ _ s (if_either P a.takes_function _ e (undefined_apart e name t (or_parts (bytes_eq name t) false h).0 s) s)) s
removed_function OfAny a n e name t h s =
    let P : Environment → Type 0 = λ (x : Environment). is_some (x.functions t) ≡ true in
    let d : Environment = if a.removes_variable n then with_variable e name None else e in
    let there : P d = if_either P (a.removes_variable n) _ e s s in
    if_either P (a.removes_function n) (with_function d name None) d (undefined_apart d name t (or_parts (bytes_eq name t) false h).0 there) there

removed_job : (removal : Removal) (a : Answer) (n : ℕ) (e : Environment) (name : Text) → e.job ≡ true → (removed removal a n e name).job ≡ true
unfolding removed removed_either removed_any
removed_job OfVariables a n e name s = if_either (λ (x : Environment). x.job ≡ true) (is_removed a n) _ e s s
removed_job OfFunctions a n e name s = if_either (λ (x : Environment). x.job ≡ true) (is_removed a n) _ e s s
removed_job OfEither a n e name s =
    let P : Environment → Type 0 = λ (x : Environment). x.job ≡ true in
    if_either P (is_removed a n) _ e (if_either P (is_some (e.variables name)) _ _ s (if_either P a.takes_function _ e s s)) s
removed_job OfAny a n e name s =
    let P : Environment → Type 0 = λ (x : Environment). x.job ≡ true in
    let d : Environment = if a.removes_variable n then with_variable e name None else e in
    let there : P d = if_either P (a.removes_variable n) _ e s s in
    if_either P (a.removes_function n) (with_function d name None) d there there

-- one that is none of more is none of the first and of the others
first_vars : (removal : Removal) (name : Text) (names : List Text) (t : Text) → is_one_of (operands.removed removal (name ∷ names)).vars t ≡ false
    → (is_one_of (operands.removed removal (name ∷ [])).vars t ≡ false) × (is_one_of (operands.removed removal names).vars t ≡ false)
unfolding operands.removed
first_vars OfVariables name names t h = let q = or_parts (bytes_eq name t) (is_one_of names t) h in (rw (q.0) refl, q.1)
first_vars OfFunctions name names t h = (refl, refl)
first_vars OfEither name names t h = let q = or_parts (bytes_eq name t) (is_one_of names t) h in (rw (q.0) refl, q.1)
first_vars OfAny name names t h = let q = or_parts (bytes_eq name t) (is_one_of names t) h in (rw (q.0) refl, q.1)

first_functions : (removal : Removal) (name : Text) (names : List Text) (t : Text) → is_one_of (operands.removed removal (name ∷ names)).functions t ≡ false
    → (is_one_of (operands.removed removal (name ∷ [])).functions t ≡ false) × (is_one_of (operands.removed removal names).functions t ≡ false)
unfolding operands.removed
first_functions OfVariables name names t h = (refl, refl)
first_functions OfFunctions name names t h = let q = or_parts (bytes_eq name t) (is_one_of names t) h in (rw (q.0) refl, q.1)
first_functions OfEither name names t h = let q = or_parts (bytes_eq name t) (is_one_of names t) h in (rw (q.0) refl, q.1)
first_functions OfAny name names t h = let q = or_parts (bytes_eq name t) (is_one_of names t) h in (rw (q.0) refl, q.1)

pub removed_spares : (removal : Removal) (a : Answer) (n : ℕ) (e : Environment) (names : List Text) → Spares (operands.removed removal names) e (removed_all removal a n e names)
unfolding removed_all
removed_spares removal a n e [] = record { variables = λ t i h s. s; functions = λ t i h s. s; job = λ s. s }
removed_spares removal a n e (name ∷ names) =
    let k = removed_spares removal a (n + 1) (removed removal a n e name) names in
    record {
      variables = λ t i h s. let q = first_vars removal name names t h in k.variables t i q.1 (removed_variable removal a n e name t q.0 s);
      functions = λ t i h s. let q = first_functions removal name names t h in k.functions t i q.1 (removed_function removal a n e name t q.0 s);
      job = λ s. k.job (removed_job removal a n e name s);
    }

-- fewer names, as long as they are what has a name and is there
pub spares_fewer : (more fewer : Names) (e e' : Environment) → ((t : Text) → is_name t ≡ true → is_one_of fewer.vars t ≡ false → is_one_of more.vars t ≡ false)
    → ((t : Text) → is_name t ≡ true → is_some (e.functions t) ≡ true → is_one_of fewer.functions t ≡ false → is_one_of more.functions t ≡ false) → Spares more e e' → Spares fewer e e'
spares_fewer more fewer e e' v g k = record {
  variables = λ t i n s. k.variables t i (v t i n) s;
  functions = λ t i n s. k.functions t i (g t i s n) s;
  job = k.job;
}

-- one that passes a test and is none of those that pass it is none of all
pub none_passes : (test : Text → Bool) (xs : List Text) (t : Text) → test t ≡ true → is_one_of (filter test xs) t ≡ false → is_one_of xs t ≡ false
none_passes test xs t h n = go (is_one_of xs t) refl
  where
    go : (b : Bool) → is_one_of xs t ≡ b → is_one_of xs t ≡ false
    go true e = absurd (true≢false (sym (passing_one test xs t e h) ∙ n))
    go false e = e

-- the operands that have names are what the rules count
pub named_vars : (removal : Removal) (xs : List Text) (t : Text) → is_name t ≡ true → is_one_of (operands.removed removal (filter is_name xs)).vars t ≡ false → is_one_of (operands.removed removal xs).vars t ≡ false
unfolding operands.removed
named_vars OfVariables xs t i n = none_passes is_name xs t i n
named_vars OfFunctions xs t i n = refl
named_vars OfEither xs t i n = none_passes is_name xs t i n
named_vars OfAny xs t i n = none_passes is_name xs t i n

pub named_functions : (removal : Removal) (xs : List Text) (t : Text) → is_name t ≡ true → is_one_of (operands.removed removal (filter is_name xs)).functions t ≡ false
    → is_one_of (operands.removed removal xs).functions t ≡ false
unfolding operands.removed
named_functions OfVariables xs t i n = refl
named_functions OfFunctions xs t i n = none_passes is_name xs t i n
named_functions OfEither xs t i n = none_passes is_name xs t i n
named_functions OfAny xs t i n = none_passes is_name xs t i n

-- a name of those that pass passes
pub passes_one : (test : Text → Bool) (xs : List Text) (t : Text) → is_one_of (filter test xs) t ≡ true → (is_one_of xs t ≡ true) × (test t ≡ true)
passes_one test xs t h =
    let both = and_parts (test t) (is_one_of xs t) (sym (any-filter_same (λ n. bytes_eq n t) test (test t) (λ n same. ap test ((bytes_eq-Decides n t).0 same)) xs) ∙ h) in (both.1, both.0)
