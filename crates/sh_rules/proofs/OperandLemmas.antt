-- What operands say by their static texts is what they say by their words.
use Rattle.std.proofs.Common.{◌≡◌, ℕ, suc, ◌≤◌, ◌==◌, Bool, true, false, not, ◌&&◌, if◌then◌else◌, cond, List, [], ◌∷◌, drop, filter, fold, map, codes, Option, Some, None, is_some, unwrap_or, option_map, option_and_then, inl, inr, refl, sym, ap, ◌∙◌, arith, true≢false}
use Rattle.std.specs.List.{list_all}
use Rattle.std.proofs.lemmas.Bool.{cases_lt, le-ltb}
use Rattle.std.proofs.lemmas.List.Folds.{fold-map, list_all-map}
use Rattle.sh_tree.specs.standard.language.Bytes.{is_first, is_name}
use Rattle.sh_tree.specs.standard.program.Syntax.{Text, Word}
use Rattle.sh_tree.specs.standard.program.Words.{static_of}
use Rattle.sh_runs.specs.Profile.{Static}
use Rattle.sh_table.specs.WordTexts.{text_in}
use Rattle.sh_table.specs.declared.word_text.WordText.{WordText}
use Rattle.sh_runs.specs.standard.runs.Numbers.{number_in}
use Rattle.sh_runs.specs.standard.runs.Operands.{Removal, OfVariables, OfFunctions, OfEither, OfAny, ReadOption, Complete, TakesNext, Other, read_option, unset_operands, ends_options, is_dashed, is_set_option, ends_in_o, has_command}
use Rattle.sh_runs.specs.standard.runs.Operands as o
use Rattle.sh_domain.specs.Facts.{Facts, NotReached, Known}
use Rattle.sh_domain.specs.Operands.{Names, removed, status, statics, words_from, unset_names, read_names, getopts_names, positional_words, first_number, return_status, runs_command}
use Rattle.sh_runs.specs.ReadOptions.{go_on, read_operands, takes_next}
use Rattle.sh_domain.specs.Views.{Lose, step, where_known}
use Rattle.sh_domain.proofs.KnownNameLemmas.{lost_one_by_one}
use Rattle.sh_domain.proofs.MeetLemmas.{known_same}
use Rattle.sh_gains.specs.Statics.{listed}
use Rattle.sh_gains.proofs.KindLemmas.{texts_listed}
use Rattle.sh_operands.specs.declared.options.Letters.{Letters}
use Rattle.sh_table.specs.Numerals.{capped}
use Rattle.sh_operands.specs.Texts.{no_letters, removal_in, takes_variables, takes_functions, unset_behind, positional_at}
use Rattle.sh_operands.proofs.TextLemmas.{unset_told}
use Rattle.sh_rules.specs.Settings.{Setting, certificate}
use Rattle.sh_rules.specs.SimpleBounds.{stepped}
use Rattle.sh_rules.specs.Losses.{variable_lost, function_lost, by_name, texts_with, where_taken}
use Rattle.sh_rules.specs.Texts.{unset_by, read_by, names_behind, option_name, getopts_name, and_optind, positional_by, number_of, first_by, status_of, status_by, is_command, command_at, runs_by}

-- Numbers

status_capped : (n : ℕ) → status (capped n) ≡ status n
status_capped n = elim (cases_lt n 256) [
  | inl h ↦ let e : capped n ≡ n = omega (arith, h) in ap status e
  | inr h ↦
      let more : 256 ≤ capped n = omega (arith, h) in
      ap (λ b. if b then Some (capped n) else None) (le-ltb (capped n) 256 more) ∙ sym (ap (λ b. if b then Some n else None) (le-ltb n 256 h))
]

statuses_capped : (m : Option ℕ) → option_and_then status (option_map capped m) ≡ option_and_then status m
statuses_capped None = refl
statuses_capped (Some n) = status_capped n

pub status_none : (t : Static) → None ≡ number_of t → None ≡ status_of t
unfolding number_of status_of
status_none t h = ap (option_and_then status) h ∙ statuses_capped (option_and_then number_in t)

pub status_some : (t : Static) (n : ℕ) (r : Option ℕ) → Some n ≡ number_of t → r ≡ status n → r ≡ status_of t
unfolding number_of status_of
status_some t n r h e = e ∙ ap (option_and_then status) h ∙ statuses_capped (option_and_then number_in t)

pub ruleset statuses = (status_none, status_some)

-- Names one after the other

pub named_fold : {K : Type 0} (g : K → Text → K) (k : K) (ts : List Static) → fold g k (filter is_name (listed ts)) ≡ fold (by_name g) k ts
unfolding by_name
named_fold g k [] = refl
named_fold g k (None ∷ ts) = named_fold g k ts
named_fold g k (Some t ∷ ts) = go (is_name t) (named_fold g (g k t) ts) (named_fold g k ts)
  where
    go : (b : Bool) → fold g (g k t) (filter is_name (listed ts)) ≡ fold (by_name g) (g k t) ts → fold g k (filter is_name (listed ts)) ≡ fold (by_name g) k ts
        → fold g k (cond b (t ∷ filter is_name (listed ts)) (filter is_name (listed ts))) ≡ fold (by_name g) (if b then g k t else k) ts
    go true y n = y
    go false y n = n

pub kept_fold : {K : Type 0} (x : Setting) (g : K → Text → K) (k : K) (ws : List WordText)
    → fold g k (filter is_name (listed (map (text_in x.script) ws))) ≡ fold (texts_with x g) k ws
kept_fold x g k ws = named_fold g k (map (text_in x.script) ws) ∙ fold-map (by_name g) (text_in x.script) k ws

-- `unset`

variables_gone : (x : Setting) (vars functions : List Text) (f : Facts)
    → stepped x (Lose (record { vars = vars; functions = functions })) f ≡ stepped x (Lose (record { vars = []; functions = functions })) (fold (variable_lost x) f vars)
unfolding stepped variable_lost
variables_gone x [] functions f = refl
variables_gone x (t ∷ ts) functions f =
    lost_one_by_one.variable (certificate x) t ts functions f
    ∙ variables_gone x ts functions (step (certificate x) (Lose (record { vars = t ∷ []; functions = [] })) f)

functions_gone : (x : Setting) (functions : List Text) (f : Facts)
    → stepped x (Lose (record { vars = []; functions = functions })) f ≡ stepped x (Lose (record { vars = []; functions = [] })) (fold (function_lost x) f functions)
unfolding stepped function_lost
functions_gone x [] f = refl
functions_gone x (t ∷ ts) f =
    lost_one_by_one.function (certificate x) t [] ts f
    ∙ functions_gone x ts (step (certificate x) (Lose (record { vars = []; functions = t ∷ [] })) f)

and_true : (b : Bool) → (b && true) ≡ b
and_true true = refl
and_true false = refl

none_gone : (x : Setting) (f : Facts) → stepped x (Lose (record { vars = []; functions = [] })) f ≡ f
unfolding stepped step where_known
none_gone x NotReached = refl
none_gone x (Known v g a) = known_same _ _ _ _ a a (λ t. and_true (v t)) (λ t. and_true (g t)) refl

pub names_gone : (x : Setting) (names : Names) (f : Facts) → stepped x (Lose names) f ≡ fold (function_lost x) (fold (variable_lost x) f names.vars) names.functions
names_gone x names f =
    variables_gone x names.vars names.functions f
    ∙ functions_gone x names.functions (fold (variable_lost x) f names.vars)
    ∙ none_gone x (fold (function_lost x) (fold (variable_lost x) f names.vars) names.functions)

removed_vars : (r : Removal) (ns : List Text) → (removed r ns).vars ≡ cond (takes_variables r) ns []
unfolding removed takes_variables
removed_vars OfVariables ns = refl
removed_vars OfFunctions ns = refl
removed_vars OfEither ns = refl
removed_vars OfAny ns = refl

removed_functions : (r : Removal) (ns : List Text) → (removed r ns).functions ≡ cond (takes_functions r) ns []
unfolding removed takes_functions
removed_functions OfVariables ns = refl
removed_functions OfFunctions ns = refl
removed_functions OfEither ns = refl
removed_functions OfAny ns = refl

pub where_fold : {K : Type 0} (b : Bool) (x : Setting) (g : K → Text → K) (k : K) (ws : List WordText)
    → fold g k (cond b (filter is_name (listed (map (text_in x.script) ws))) []) ≡ where_taken b x g k ws
unfolding where_taken
where_fold true x g k ws = kept_fold x g k ws
where_fold false x g k ws = refl

-- what is after the options of `unset`
unset_operands_of : (ts us : List Static) (l : Letters) → unset_behind no_letters ts ≡ (l, us) → unset_operands (listed ts) ≡ (removal_in l, listed us)
unset_operands_of ts us l h = unset_told [] ts ∙ ap (λ (p : Letters × List Static). (removal_in p.0, listed p.1)) h

pub unset_vars : (ts us : List Static) (l : Letters) → unset_behind no_letters ts ≡ (l, us) → (unset_by ts).vars ≡ cond (takes_variables (removal_in l)) (filter is_name (listed us)) []
unfolding unset_by
unset_vars ts us l h =
    ap (λ (p : Removal × List Text). (removed p.0 (filter is_name p.1)).vars) (unset_operands_of ts us l h) ∙ removed_vars (removal_in l) (filter is_name (listed us))

pub unset_functions : (ts us : List Static) (l : Letters) → unset_behind no_letters ts ≡ (l, us) → (unset_by ts).functions ≡ cond (takes_functions (removal_in l)) (filter is_name (listed us)) []
unfolding unset_by
unset_functions ts us l h =
    ap (λ (p : Removal × List Text). (removed p.0 (filter is_name p.1)).functions) (unset_operands_of ts us l h) ∙ removed_functions (removal_in l) (filter is_name (listed us))

pub unset_lost : (x : Setting) (f g k : Facts) (ts : List Static) (ws : List WordText) (l : Letters) (v w : Bool)
    → unset_behind no_letters ts ≡ (l, map (text_in x.script) ws) → v ≡ takes_variables (removal_in l) → w ≡ takes_functions (removal_in l)
    → g ≡ where_taken v x (variable_lost x) f ws → k ≡ where_taken w x (function_lost x) g ws
    → k ≡ stepped x (Lose (unset_by ts)) f
unset_lost x f g k ts ws l v w h a b e d =
    let us : List Static = map (text_in x.script) ws in
    let ns : List Text = filter is_name (listed us) in
    let vars : fold (variable_lost x) f (unset_by ts).vars ≡ g =
    ap (fold (variable_lost x) f) (unset_vars ts us l h ∙ ap (λ c. cond c ns []) (sym a)) ∙ where_fold v x (variable_lost x) f ws ∙ sym e in
    let functions : fold (function_lost x) g (unset_by ts).functions ≡ k =
    ap (fold (function_lost x) g) (unset_functions ts us l h ∙ ap (λ c. cond c ns []) (sym b)) ∙ where_fold w x (function_lost x) g ws ∙ sym d in
    sym (names_gone x (unset_by ts) f ∙ ap (λ m. fold (function_lost x) m (unset_by ts).functions) vars ∙ functions)

-- `read`

read_listed : (takes : Bool) (ts : List Static) → list_all is_some ts ≡ true → o.read_from takes (listed ts) ≡ option_map listed (read_operands takes ts)
unfolding read_operands go_on takes_next o.read_from
read_listed true [] h = refl
read_listed false [] h = refl
read_listed takes (None ∷ ts) h = absurd (true≢false (sym h))
read_listed true (Some t ∷ ts) h = read_listed false ts h
read_listed false (Some t ∷ ts) h = go (λ takes. read_listed takes ts h) (ends_options t) (is_dashed t) (read_option (drop 1 t)) refl refl refl
  where
    go : ((takes : Bool) → o.read_from takes (listed ts) ≡ option_map listed (read_operands takes ts)) → (x y : Bool) (z : ReadOption)
        → ends_options t ≡ x → is_dashed t ≡ y → read_option (drop 1 t) ≡ z
        → o.read_from false (listed (Some t ∷ ts)) ≡ option_map listed (read_operands false (Some t ∷ ts))
    go f true y z a b c = rw a refl
    go f false false z a b c = rw (a, b) refl
    go f false true Complete a b c = rw (a, b, c) (f false)
    go f false true TakesNext a b c = rw (a, b, c) (f true)
    go f false true Other a b c = rw (a, b, c) refl

names_listed : (ts : List Text) (r : Option (List Static)) → o.read_from false ts ≡ option_map listed r → unwrap_or (o.read_names ts) [] ≡ names_behind r
unfolding names_behind o.read_from
names_listed ts None h = rw h refl
names_listed ts (Some us) h = rw h refl

pub read_static : (ts : List Static) → list_all is_some ts ≡ true → read_by ts ≡ names_behind (read_operands false ts)
unfolding read_by
read_static ts h =
    ap (λ b. if b then unwrap_or (o.read_names (listed ts)) [] else []) h ∙ names_listed (listed ts) (read_operands false ts) (read_listed false ts h)

pub read_computed : (ts : List Static) → list_all is_some ts ≡ false → read_by ts ≡ []
unfolding read_by
read_computed ts h = ap (λ b. if b then unwrap_or (o.read_names (listed ts)) [] else []) h

-- By words

pub unset_words : (ws : List Word) → unset_by (map static_of ws) ≡ unset_names ws
unfolding unset_by unset_names
unset_words ws = ap (λ us. removed (unset_operands us).0 (filter is_name (unset_operands us).1)) (texts_listed ws)

pub read_words : (ws : List Word) → read_by (map static_of ws) ≡ read_names ws
unfolding read_by read_names
read_words ws =
    ap (λ us. if list_all is_some (map static_of ws) then unwrap_or (o.read_names us) [] else []) (texts_listed ws)
    ∙ ap (λ b. if b then unwrap_or (o.read_names (statics ws)) [] else []) (list_all-map is_some static_of ws)

pub getopts_words : (ws : List Word) → and_optind (getopts_name (map static_of ws)) ≡ getopts_names ws
unfolding and_optind getopts_name option_name getopts_names
getopts_words [] = refl
getopts_words (w ∷ []) = refl
getopts_words (w ∷ v ∷ ws) = go (static_of w) (static_of v) refl refl
  where
    named : (t name : Text) (b : Bool) → and_optind (if b then Some name else None) ≡ (if b then name ∷ codes "OPTIND" ∷ [] else [])
    named t name true = refl
    named t name false = refl

    go : (t u : Static) → static_of w ≡ t → static_of v ≡ u → and_optind (getopts_name (map static_of (w ∷ v ∷ ws))) ≡ getopts_names (w ∷ v ∷ ws)
    go None u a b = rw a refl
    go (Some t) None a b = rw (a, b) refl
    go (Some t) (Some name) a b = rw (a, b) (named t name (is_name name && not (is_first (λ c. c == 45) t)))

one_further : (w : Word) (ws : List Word) (o : Option ℕ) → option_map (λ i. drop i (w ∷ ws)) (option_map suc o) ≡ option_map (λ i. drop i ws) o
one_further w ws None = refl
one_further w ws (Some i) = refl

positional_from_words : (takes : Bool) (ws : List Word) → option_map (λ i. drop i ws) (positional_at takes (map static_of ws)) ≡ words_from takes ws
unfolding positional_at words_from
positional_from_words true [] = refl
positional_from_words false [] = refl
positional_from_words true (w ∷ ws) = one_further w ws (positional_at false (map static_of ws)) ∙ positional_from_words false ws
positional_from_words false (w ∷ ws) = go (λ takes. positional_from_words takes ws) (static_of w) refl
  where
    chosen : (a b : Bool) (o : Option ℕ) (p : Option (List Word)) → option_map (λ i. drop i ws) o ≡ p
        → option_map (λ i. drop i (w ∷ ws)) (if a then Some 1 else (if b then option_map suc o else Some 0)) ≡ (if a then Some ws else (if b then p else Some (w ∷ ws)))
    chosen true b o p h = refl
    chosen false true o p h = one_further w ws o ∙ h
    chosen false false o p h = refl

    go : ((takes : Bool) → option_map (λ i. drop i ws) (positional_at takes (map static_of ws)) ≡ words_from takes ws) → (t : Static) → static_of w ≡ t
        → option_map (λ i. drop i (w ∷ ws)) (positional_at false (map static_of (w ∷ ws))) ≡ words_from false (w ∷ ws)
    go h None e = rw e refl
    go h (Some t) e = rw e (chosen (ends_options t) (is_set_option t) (positional_at (ends_in_o t) (map static_of ws)) (words_from (ends_in_o t) ws) (h (ends_in_o t)))

pub positional_of_words : (ws : List Word) → positional_by (map static_of ws) ws ≡ positional_words ws
unfolding positional_by
positional_of_words ws = positional_from_words false ws

pub first_words : (ws : List Word) → first_by (map static_of ws) ≡ first_number ws
unfolding first_by first_number
first_words [] = refl
first_words (w ∷ ws) = refl

pub status_words : (ws : List Word) → status_by (map static_of ws) ≡ return_status ws
unfolding status_by status_of return_status
status_words [] = refl
status_words (w ∷ ws) = refl

pub runs_words : (ws : List Word) → runs_by (map static_of ws) ≡ runs_command ws
unfolding runs_by command_at is_command runs_command has_command
runs_words [] = refl
runs_words (w ∷ ws) = go (static_of w)
  where
    go : (t : Static) → command_at t ≡ unwrap_or (option_map (λ t. has_command (t ∷ [])) t) false
    go None = refl
    go (Some t) = refl
