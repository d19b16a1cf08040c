-- What `admit` reports is the refused command with the least number.
use Rattle.std.proofs.Common.{◌≡◌, ℕ, ◌<◌, ◌≤◌, List, [], ◌∷◌, length, arith, map, Option, Some, None, option_map, Err, refl, sym, ap, ap₂, ◌∙◌, subst}
use Rattle.std.proofs.lemmas.List.{length-map}
use Rattle.sh_tree.specs.declared.refusal.Refusal.{Refusal}
use Rattle.sh_tree.specs.declared.refusal.Refusal.TheVariants as refusal
use Rattle.sh_tree.specs.declared.refusal.Rule.{Rule}
use Rattle.sh_tree.specs.declared.tree.Script.{Script}
use Rattle.sh_tree.specs.standard.program.Syntax as p
use Rattle.sh_tree.specs.standard.program.Trees.{script_of}
use Rattle.sh_table.specs.declared.site.Site as site
use Rattle.sh_table.specs.declared.table.Row as row
use Rattle.sh_table.specs.Admits.{Admits, form_rule, rule_of, refused_site, or_refused, first_of, refusal_of, told_from}
use Rattle.sh_runs.specs.Calls.{Table, Row, row_of, table_of}
use Rattle.sh_table.specs.KeptTable.{row_in}
use Rattle.sh_runs.specs.Profile.{Static, Refused, first_refused}
use Rattle.sh_runs.specs.Sites.{Form, Simple, Defines, Other, Site, statics, sites_of}
use Rattle.sh_runs.specs.Surroundings.{Surroundings}
use Rattle.sh_table.specs.Walks.{Outline, shape_of, outline_of, seen}
use Rattle.sh_table.specs.WordTexts.{text_in}
use Rattle.sh_table.proofs.RuleLemmas.{rule_of_words, first_by_number}

rule_kept : (x : Surroundings) (f : Form) → rule_of x (shape_of f) (statics f) ≡ form_rule x f
unfolding rule_of form_rule shape_of statics
rule_kept x (Simple ws) = rule_of_words x ws
rule_kept x (Defines t) = refl
rule_kept x Other = refl

same_first : {A : Type 0} (x y : A) (xs ys : List A) → x ∷ xs ≡ y ∷ ys → x ≡ y
same_first x y xs ys e = cc

same_rest : {A : Type 0} (x y : A) (xs ys : List A) → x ∷ xs ≡ y ∷ ys → xs ≡ ys
same_rest x y xs ys e = cc

-- what is reported of a command with these texts
abbrev told_of : Outline → List Static → Option Refused
told_of o ts = option_map (λ (r : Rule). record { number = o.number; at = o.at; rule = r }) (rule_of o.surroundings o.shape ts)

told_site : (o : Outline) (ts : List Static) (s : Site) → o ≡ outline_of s → ts ≡ statics s.form → told_of o ts ≡ refused_site s
unfolding refused_site outline_of
told_site o ts s e h =
    ap₂ told_of e h ∙ ap (option_map (λ (r : Rule). record { number = s.number; at = s.at; rule = r })) (rule_kept s.surroundings s.form)

row_texts : (b : List ℕ) (r : row.Row) (s : Site) → row_in b r ≡ row_of s → map (text_in b) r.texts.items ≡ statics s.form
unfolding row_of
row_texts b r s e = ap (λ (x : Row). x.1) e

told_kept : (b : List ℕ) (xs : List site.Site) (rs : List row.Row) (ss : List Site) → map (row_in b) rs ≡ map row_of ss → map (seen b) xs ≡ map outline_of ss → told_from b xs rs ≡ first_of ss
unfolding told_from first_of seen
told_kept b [] rs [] e h = refl
told_kept b [] rs (s ∷ ss) e h = cc
told_kept b (x ∷ xs) rs [] e h = cc
told_kept b (x ∷ xs) [] (s ∷ ss) e h = cc
told_kept b (x ∷ xs) (r ∷ rs) (s ∷ ss) e h =
    ap₂ or_refused (told_site (seen b x) (map (text_in b) r.texts.items) s (same_first _ _ _ _ h) (row_texts b r s (same_first _ _ _ _ e)))
    (told_kept b xs rs ss (same_rest _ _ _ _ e) (same_rest _ _ _ _ h))

pub told_whole : (b : List ℕ) (t : Script) (table : Table) (rs : List row.Row) (xs : List site.Site) → table ≡ table_of b t → map (row_in table.script) rs ≡ table.rows
    → map (seen b) xs ≡ map outline_of (sites_of (script_of b t)) → first_refused (script_of b t) ≡ told_from b xs rs
unfolding table_of
told_whole b t table rs xs e r h =
    let same : table.script ≡ b = ap (λ (x : Table). x.script) e in
    let rows : map (row_in b) rs ≡ map row_of (sites_of (script_of b t)) = ap (λ c. map (row_in c) rs) (sym same) ∙ r ∙ ap (λ (x : Table). x.rows) e in
    first_by_number (script_of b t) ∙ sym (told_kept b xs rs (sites_of (script_of b t)) rows h)

-- there are no commands

no_texts : (b : List ℕ) (rs : List row.Row) → length rs < 1 → map (row_in b) rs ≡ []
no_texts b [] none = refl
no_texts b (r ∷ rs) none = absurd (omega (arith, none))

first_of_none : (ss : List Site) → [] ≡ map row_of ss → first_of ss ≡ None
unfolding first_of
first_of_none [] e = refl
first_of_none (s ∷ ss) e = cc

pub none_refused : (b : List ℕ) (t : Script) (table : Table) (rs : List row.Row) → table ≡ table_of b t → map (row_in table.script) rs ≡ table.rows → length rs < 1
    → first_refused (script_of b t) ≡ None
unfolding table_of
none_refused b t table rs e r none =
    first_by_number (script_of b t) ∙ first_of_none (sites_of (script_of b t)) (sym (no_texts table.script rs none) ∙ r ∙ ap (λ (x : Table). x.rows) e)

-- there is one

pub some_rows : (b : List ℕ) (t : Script) (table : Table) (rs : List row.Row) → table ≡ table_of b t → map (row_in table.script) rs ≡ table.rows → 1 ≤ length rs
    → 0 < length (table_of b t).rows
some_rows b t table rs e r some = omega (arith, some, length-map rs (row_in table.script), ap length (r ∙ ap (λ (x : Table). x.rows) e))

-- the refusal that is reported

pub refused : (t : p.Items) (o : Option Refused) (x : Refusal) → first_refused t ≡ o → Some x ≡ refusal_of o → Admits t (Err x)
unfolding refusal_of
refused t None x e h = cc
refused t (Some q) x e h = let same : refusal.Profile q.rule q.at ≡ x = cc in subst (λ y. Admits t (Err y)) same (q, e, refl, refl)

pub not_refused : (t : p.Items) (o : Option Refused) → first_refused t ≡ o → None ≡ refusal_of o → first_refused t ≡ None
unfolding refusal_of
not_refused t None e h = e
not_refused t (Some q) e h = cc
