-- What built-in utilities read off their fields is what the rules read off the words.
use Rattle.std.proofs.Common.{◌≡◌, ℕ, zero, suc, ◌+◌, ◌==◌, ◌||◌, take, bytes_eq, inl, inr, Bool, true, false, not, ◌&&◌, if◌then◌else◌, Option, Some, None, is_some, unwrap_or, option_map, option_and_then, List, [], ◌∷◌, ◌++◌, map, drop, codes, refl, sym, ap, subst, ◌∙◌}
use Rattle.std.specs.List.{list_all, filter_map, cons_option}
use Rattle.std.proofs.lemmas.Bool.{and_parts, or_cases, or_left, or_right, false≢true, true≢false}
use Rattle.std.proofs.lemmas.Slice.Eq.{bytes_eq-Decides}
use Rattle.std.proofs.lemmas.List.Elements.{filter_map-append}
use Rattle.std.proofs.lemmas.List.{map-append}
use Rattle.std.proofs.lemmas.List.Folds.{list_any-append}
use Rattle.std.proofs.lemmas.Option.{none-some}
use Rattle.sh_tree.specs.standard.language.Bytes.{is_first, is_name, is_name_start, is_name_byte, run, name_length}
use Rattle.sh_tree.specs.standard.language.Commands.{is_assignment}
use Rattle.sh_tree.specs.standard.program.Syntax.{Text, Plain, Word, no_parts, more_parts}
use Rattle.sh_tree.specs.standard.program.Words.{static_of, assignment_in, before_word}
use Rattle.sh_runs.specs.Profile.{Static, sets_known, has_inner_o, is_signed, is_argument}
use Rattle.sh_runs.specs.standard.runs.Environment.{is_one_of}
use Rattle.sh_runs.specs.standard.runs.Numbers.{number_in}
use Rattle.sh_runs.specs.standard.runs.Operands as o
use Rattle.sh_runs.specs.standard.runs.Operands.{definition_in, definitions_in, ends_options, is_set_option, ends_in_o, set_from, count_operand, has_command, second_name, getopts_name}
use Rattle.sh_domain.specs.Operands.{statics, declared_names, read_names, getopts_names, words_from, first_number, runs_command}
use Rattle.sh_domain.specs.Gains.{job}
use Rattle.sh_sound.specs.Fields.{Operand, Fields}
use Rattle.sh_sound.proofs.FieldsLemmas.{is_form}

-- Static operands

-- a static word is the first field
pub first_static : (m : ℕ) (w : Word) (ws : List Word) (ts : List Text) (t : Text) → static_of w ≡ Some t → Fields false m (w ∷ ws) ts → (rest : List Text) × (ts ≡ t ∷ rest) × Fields false m ws rest
unfolding Fields Operand
first_static m w ws ts t s h = (h.1, h.2 ∙ ap (λ us. us ++ h.1) (h.3.static t s), h.4)

no_operands : (m : ℕ) (ts : List Text) → Fields false m [] ts → ts ≡ []
unfolding Fields
no_operands m ts h = h

some_static : (v : Option Text) → is_some v ≡ true → (t : Text) × (v ≡ Some t)
some_static None h = absurd (false≢true h)
some_static (Some t) h = (t, refl)

pub statics_fit : (m : ℕ) (ws : List Word) (ts : List Text) → list_all (λ w. is_some (static_of w)) ws ≡ true → Fields false m ws ts → ts ≡ statics ws
statics_fit m [] ts h k = no_operands m ts k
statics_fit m (w ∷ ws) ts h k =
    let both = and_parts (is_some (static_of w)) (list_all (λ w. is_some (static_of w)) ws) h in
    let t = some_static (static_of w) both.0 in
    let rest = first_static m w ws ts t.0 t.1 k in
    rest.1 ∙ ap (λ us. t.0 ∷ us) (statics_fit m ws rest.0 both.1 rest.2) ∙ ap (λ v. cons_option v (statics ws)) (sym t.1)

pub all_static : (ws : List Word) → list_all is_some (map static_of ws) ≡ true → list_all (λ w. is_some (static_of w)) ws ≡ true
all_static [] h = refl
all_static (w ∷ ws) h =
    let both = and_parts (is_some (static_of w)) (list_all is_some (map static_of ws)) h in
    rw (both.0) (all_static ws both.1)

-- `shift`

pub first_number_fits : (m : ℕ) (ws : List Word) (ts : List Text) (n : ℕ) → first_number ws ≡ Some n → Fields false m ws ts → count_operand ts ≡ Some n
unfolding first_number count_operand
first_number_fits m [] ts n h k = rw (no_operands m ts k) h
first_number_fits m (w ∷ ws) ts n h k = go (static_of w) refl h
  where
    go : (v : Option Text) → static_of w ≡ v → option_and_then number_in v ≡ Some n → count_operand ts ≡ Some n
    go None s q = absurd (none-some n q)
    go (Some t) s q = let rest = first_static m w ws ts t s k in ap count_operand rest.1 ∙ q

-- `exec`

pub runs_fit : (m : ℕ) (ws : List Word) (ts : List Text) → runs_command ws ≡ true → Fields false m ws ts → has_command ts ≡ true
unfolding runs_command has_command
runs_fit m [] ts h k = cc
runs_fit m (w ∷ ws) ts h k = go (static_of w) refl h
  where
    go : (v : Option Text) → static_of w ≡ v → unwrap_or (option_map (λ t. has_command (t ∷ [])) v) false ≡ true → has_command ts ≡ true
    go None s q = absurd (false≢true q)
    go (Some t) s q = let rest = first_static m w ws ts t s k in ap has_command rest.1 ∙ q

-- `set`

unfoldable pub SetFits : ℕ → Option (List Word) → Option (List Text) → Type 0
SetFits m None None = Unit {0}
SetFits m (Some ws) (Some ts) = Fields false m ws ts
SetFits m _ _ = ⊥

pub set_fits : (m : ℕ) (takes : Bool) (ws : List Word) (ts : List Text) → sets_known takes (map static_of ws) ≡ true → Fields false m ws ts → SetFits m (words_from takes ws) (set_from takes ts)
unfolding sets_known words_from set_from SetFits
set_fits m takes [] ts h k = rw (no_operands m ts k) tt
set_fits m true (w ∷ ws) ts h k = go (static_of w) refl h (λ b us q l. set_fits m b ws us q l)
  where
    go : (v : Static) → static_of w ≡ v → sets_known true (v ∷ map static_of ws) ≡ true
        → ((b : Bool) (us : List Text) → sets_known b (map static_of ws) ≡ true → Fields false m ws us → SetFits m (words_from b ws) (set_from b us))
        → SetFits m (words_from true (w ∷ ws)) (set_from true ts)
    go None s q more = absurd (false≢true q)
    go (Some t) s q more =
        let rest = first_static m w ws ts t s k in
        subst (λ us. SetFits m (words_from true (w ∷ ws)) (set_from true us)) (sym rest.1) (more false rest.0 (and_parts (is_argument t) (sets_known false (map static_of ws)) q).1 rest.2)
set_fits m false (w ∷ ws) ts h k = go (static_of w) refl h (λ b us q l. set_fits m b ws us q l)
  where
    go : (v : Static) → static_of w ≡ v → sets_known false (v ∷ map static_of ws) ≡ true
        → ((b : Bool) (us : List Text) → sets_known b (map static_of ws) ≡ true → Fields false m ws us → SetFits m (words_from b ws) (set_from b us))
        → SetFits m (words_from false (w ∷ ws)) (set_from false ts)
    go None s q more = absurd (false≢true q)
    go (Some t) s q more =
        let rest = first_static m w ws ts t s k in
        subst (λ us. SetFits m (words_from false (w ∷ ws)) (set_from false us)) (sym rest.1) (rw s (by (ends_options t) (is_set_option t) q))
      where
        by : (b c : Bool) → (if b then true else (if c then not (has_inner_o (drop 1 t)) && sets_known (ends_in_o t) (map static_of ws) else not (is_signed t))) ≡ true
            → SetFits m (if b then Some ws else (if c then words_from (ends_in_o t) ws else Some (w ∷ ws)))
            (if b then Some (first_static m w ws ts t s k).0 else (if c then set_from (ends_in_o t) (first_static m w ws ts t s k).0 else Some (t ∷ (first_static m w ws ts t s k).0)))
        by true c r = (first_static m w ws ts t s k).2
        by false true r = more (ends_in_o t) (first_static m w ws ts t s k).0 (and_parts _ (sets_known (ends_in_o t) (map static_of ws)) r).1 (first_static m w ws ts t s k).2
        by false false r = subst (Fields false m (w ∷ ws)) (first_static m w ws ts t s k).1 k

-- `read`

pub read_fits : (m : ℕ) (ws : List Word) (ts : List Text) (t : Text) → is_one_of (read_names ws) t ≡ true → Fields false m ws ts → is_one_of (unwrap_or (o.read_names ts) []) t ≡ true
unfolding read_names
read_fits m ws ts t h k = go (list_all (λ w. is_some (static_of w)) ws) refl h
  where
    go : (b : Bool) → list_all (λ w. is_some (static_of w)) ws ≡ b → is_one_of (if b then unwrap_or (o.read_names (statics ws)) [] else []) t ≡ true → is_one_of (unwrap_or (o.read_names ts) []) t ≡ true
    go true q h = subst (λ us. is_one_of (unwrap_or (o.read_names us) []) t ≡ true) (sym (statics_fit m ws ts q k)) h
    go false q h = absurd (false≢true h)

-- `getopts`

unfoldable getopts_of : Option Text → Option Text → List Text
getopts_of (Some t) (Some name) = if is_name name && not (is_first (λ c. c == 45) t) then name ∷ codes "OPTIND" ∷ [] else []
getopts_of _ _ = []

getopts_is : (w v : Word) (ws : List Word) (t : Text) → is_one_of (getopts_names (w ∷ v ∷ ws)) t ≡ true → is_one_of (getopts_of (static_of w) (static_of v)) t ≡ true
unfolding getopts_names getopts_of
getopts_is w v ws t h = go (static_of w) (static_of v) refl refl
  where
    go : (o q : Option Text) → static_of w ≡ o → static_of v ≡ q → is_one_of (getopts_of o q) t ≡ true
    go (Some u) (Some name) s r = rw (s, r) at h
    go None q s r = rw s at h
    go (Some u) None s r = rw (s, r) at h

-- what begins with no `-` ends no options
no_end : (t : Text) → is_first (λ c. c == 45) t ≡ false → ends_options t ≡ false
unfolding is_first
no_end [] h = refl
no_end (c ∷ cs) h = go (ends_options (c ∷ cs)) refl
  where
    go : (b : Bool) → ends_options (c ∷ cs) ≡ b → b ≡ false
    go false e = refl
    go true e = let same : c ∷ cs ≡ codes "--" = (bytes_eq-Decides (c ∷ cs) (codes "--")).0 e in absurd (true≢false (ap (is_first (λ c. c == 45)) (sym same) ∙ h))

pub getopts_fits : (m : ℕ) (ws : List Word) (ts : List Text) (t : Text) → is_one_of (getopts_names ws) t ≡ true → Fields false m ws ts
    → (name : Text) × (getopts_name ts ≡ Some name) × (is_one_of (name ∷ codes "OPTIND" ∷ []) t ≡ true) × (is_name name ≡ true)
unfolding getopts_names getopts_name second_name getopts_of
getopts_fits m [] ts t h k = absurd (false≢true h)
getopts_fits m (w ∷ []) ts t h k = absurd (false≢true h)
getopts_fits m (w ∷ v ∷ ws) ts t h k = go (static_of w) (static_of v) refl refl
  where
    go : (o q : Option Text) → static_of w ≡ o → static_of v ≡ q → (name : Text) × (getopts_name ts ≡ Some name) × (is_one_of (name ∷ codes "OPTIND" ∷ []) t ≡ true) × (is_name name ≡ true)
    go None q s r = absurd (false≢true (subst (λ x. is_one_of (getopts_of x (static_of v)) t ≡ true) s (getopts_is w v ws t h)))
    go (Some u) None s r = absurd (false≢true (subst (λ y. is_one_of (getopts_of (Some u) y) t ≡ true) r (subst (λ x. is_one_of (getopts_of x (static_of v)) t ≡ true) s (getopts_is w v ws t h))))
    go (Some u) (Some name) s r =
        let first = first_static m w (v ∷ ws) ts u s k in
        let second = first_static m v ws first.0 name r first.2 in
        let same : ts ≡ u ∷ name ∷ second.0 = first.1 ∙ ap (λ us. u ∷ us) second.1 in
        by (is_name name) (is_first (λ c. c == 45) u) refl refl
        (subst (λ y. is_one_of (getopts_of (Some u) y) t ≡ true) r (subst (λ x. is_one_of (getopts_of x (static_of v)) t ≡ true) s (getopts_is w v ws t h))) same
      where
        by : (b c : Bool) → is_name name ≡ b → is_first (λ c. c == 45) u ≡ c → is_one_of (if b && not c then name ∷ codes "OPTIND" ∷ [] else []) t ≡ true → ts ≡ u ∷ name ∷ (first_static m v ws (first_static m w (v ∷ ws) ts u s k).0 name r (first_static m w (v ∷ ws) ts u s k).2).0
            → (name : Text) × (getopts_name ts ≡ Some name) × (is_one_of (name ∷ codes "OPTIND" ∷ []) t ≡ true) × (is_name name ≡ true)
        by false c i j l same = absurd (false≢true l)
        by true true i j l same = absurd (false≢true l)
        by true false i j l same = (name, subst (λ us. getopts_name us ≡ Some name) (sym same) (rw (no_end u j, i) refl), l, i)

-- `export` and `readonly`

names_apart : (us vs : List Text) (t : Text) → is_one_of (map (λ x. x.0) (definitions_in (us ++ vs))) t ≡ (is_one_of (map (λ x. x.0) (definitions_in us)) t || is_one_of (map (λ x. x.0) (definitions_in vs)) t)
names_apart us vs t =
    ap (λ xs. is_one_of (map (λ (x : Text × Text). x.0) xs) t) (filter_map-append definition_in us vs)
    ∙ ap (λ ns. is_one_of ns t) (map-append (λ (x : Text × Text). x.0) (definitions_in us) (definitions_in vs))
    ∙ list_any-append (λ n. bytes_eq n t) (map (λ (x : Text × Text). x.0) (definitions_in us)) (map (λ (x : Text × Text). x.0) (definitions_in vs))

pub declares_fit : (m : ℕ) (ws : List Word) (ts : List Text) (t : Text) → Fields true m ws ts → is_one_of (declared_names ws) t ≡ true → is_one_of (map (λ x. x.0) (definitions_in ts)) t ≡ true
unfolding Fields Operand
declares_fit m [] ts t h k = absurd (false≢true k)
declares_fit m (w ∷ ws) ts t h k = go (assignment_in w) refl (λ l. declares_fit m ws h.1 t h.4 l)
  where
    apart : (is_one_of (map (λ x. x.0) (definitions_in h.0)) t || is_one_of (map (λ x. x.0) (definitions_in h.1)) t) ≡ true → is_one_of (map (λ x. x.0) (definitions_in ts)) t ≡ true
    apart l = ap (λ us. is_one_of (map (λ (x : Text × Text). x.0) (definitions_in us)) t) h.2 ∙ names_apart h.0 h.1 t ∙ l

    both : (o : Option (Text × Word)) → assignment_in w ≡ o → is_one_of (map (λ x. x.0) (cons_option o (filter_map assignment_in ws))) t ≡ true
    both o q = subst (λ v. is_one_of (map (λ (x : Text × Word). x.0) (cons_option v (filter_map assignment_in ws))) t ≡ true) q k

    go : (o : Option (Text × Word)) → assignment_in w ≡ o → (is_one_of (declared_names ws) t ≡ true → is_one_of (map (λ x. x.0) (definitions_in h.1)) t ≡ true)
        → is_one_of (map (λ x. x.0) (definitions_in ts)) t ≡ true
    go None q more = apart (or_right (is_one_of (map (λ x. x.0) (definitions_in h.0)) t) _ (more (both None q)))
    go (Some x) q more =
        let d = h.3.assigned x q in
        elim (or_cases (bytes_eq x.0 t) (is_one_of (declared_names ws) t) (both (Some x) q)) [
          | inl same ↦ apart (or_left (is_one_of (map (λ x. x.0) (definitions_in h.0)) t) _
              (subst (λ us. is_one_of (map (λ (x : Text × Text). x.0) (definitions_in us)) t ≡ true) (sym d.2)
              (subst (λ v. is_one_of (map (λ (x : Text × Text). x.0) (cons_option v [])) t ≡ true) (sym d.3) (or_left (bytes_eq x.0 t) false same))))
          | inr others ↦ apart (or_right (is_one_of (map (λ x. x.0) (definitions_in h.0)) t) _ (more others))
        ]

-- the name of an assignment in form is not `!`
form_no_job : (t : Text) → is_assignment t ≡ true → bytes_eq (take (name_length t) t) job ≡ false
unfolding is_assignment name_length is_first
form_no_job [] h = absurd (false≢true h)
form_no_job (c ∷ cs) h = go (is_name_start c) refl h
  where
    go : (b : Bool) → is_name_start c ≡ b → (not ((if b then run is_name_byte (c ∷ cs) else 0) == 0) && is_first (λ c. c == 61) (drop (if b then run is_name_byte (c ∷ cs) else 0) (c ∷ cs))) ≡ true
        → bytes_eq (take (if b then run is_name_byte (c ∷ cs) else 0) (c ∷ cs)) job ≡ false
    go false e k = absurd (false≢true k)
    go true e k = by (run is_name_byte (c ∷ cs)) (and_parts (not (run is_name_byte (c ∷ cs) == 0)) _ k).0
      where
        by : (n : ℕ) → not (n == 0) ≡ true → bytes_eq (take n (c ∷ cs)) job ≡ false
        by zero z = absurd (false≢true z)
        by (suc n) z = at (bytes_eq (c ∷ take n cs) job) refl
          where
            at : (b : Bool) → bytes_eq (c ∷ take n cs) job ≡ b → b ≡ false
            at false q = refl
            at true q = let same : c ∷ take n cs ≡ job = (bytes_eq-Decides (c ∷ take n cs) job).0 q in
                absurd (true≢false (sym e ∙ ap (is_first is_name_start) same))

form_apart : (w : Word) (x : Text × Word) → assignment_in w ≡ Some x → bytes_eq x.0 job ≡ false
unfolding assignment_in
form_apart (more_parts (Plain t) w) x h =
    let form = is_form (is_assignment t) (take (name_length t) t, before_word (drop (name_length t + 1) t) w) x h in
    subst (λ (y : Text × Word). bytes_eq y.0 job ≡ false) form.1 (form_no_job t form.0)
form_apart (more_parts y w) x h = absurd (none-some x h)
form_apart no_parts x h = absurd (none-some x h)

pub declared_no_job : (ws : List Word) → is_one_of (declared_names ws) job ≡ true → ⊥
declared_no_job [] h = false≢true h
declared_no_job (w ∷ ws) h = go (assignment_in w) refl (declared_no_job ws)
  where
    both : (o : Option (Text × Word)) → assignment_in w ≡ o → is_one_of (map (λ x. x.0) (cons_option o (filter_map assignment_in ws))) job ≡ true
    both o q = subst (λ v. is_one_of (map (λ (x : Text × Word). x.0) (cons_option v (filter_map assignment_in ws))) job ≡ true) q h

    go : (o : Option (Text × Word)) → assignment_in w ≡ o → (is_one_of (declared_names ws) job ≡ true → ⊥) → ⊥
    go None q more = more (both None q)
    go (Some x) q more = elim (or_cases (bytes_eq x.0 job) (is_one_of (declared_names ws) job) (both (Some x) q)) [
      | inl same ↦ true≢false (sym same ∙ form_apart w x q)
      | inr others ↦ more others
    ]
