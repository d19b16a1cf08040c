-- What a walk finds is what the table keeps, and so it is once it is sorted.
use Rattle.std.proofs.Common.{◌≡◌, ℕ, List, [], ◌∷◌, ◌++◌, append_assoc, map, fold, Option, Some, None, option_map, Result, Ok, Err, OnOk, refl, sym, ap, ap₂, ◌∙◌}
use Rattle.std.proofs.lemmas.List.{append-nil, map-append}
use Rattle.std.proofs.lemmas.List.Elements.{filter_map-append}
use Rattle.std.proofs.lemmas.Option.{same_Some}
use Rattle.std.specs.List.{cons_option, filter_map}
use Rattle.std.specs.List.Sorted.{IsNonDecreasingBy, IsStableByKey}
use Rattle.std.specs.Ordering.{nat_cmp}
use Rattle.sh_tree.specs.declared.tree.Command.{Command, out-Command}
use Rattle.sh_tree.specs.declared.tree.Element.{Element}
use Rattle.sh_tree.specs.declared.tree.Kind.{Kind, Simple'}
use Rattle.sh_tree.specs.declared.tree.Script.{Script}
use Rattle.sh_tree.specs.standard.Tree.{text_of}
use Rattle.sh_tree.specs.standard.Words.{elements_of}
use Rattle.sh_tree.specs.Lists.{elements_from}
use Rattle.sh_tree.specs.standard.program.Syntax.{Text}
use Rattle.sh_tree.specs.standard.program.Trees as trees
use Rattle.sh_tree.specs.standard.program.Trees.{script_of}
use Rattle.sh_tree.specs.standard.program.Words.{operands_in, static_of, words_in}
use Rattle.sh_tree.proofs.ProgramRules as rules
use Rattle.sh_runs.specs.Calls.{Row, defined, row_of}
use Rattle.sh_table.specs.KeptTable.{row_in}
use Rattle.sh_table.specs.Found.{Definition, Found, definition_of, with_command, definition_in, found_in, row_at, defined_by}
use Rattle.sh_runs.specs.Sites.{Simple, Site, site_of, form_of, statics, by_number, sites_of}
use Rattle.sh_runs.specs.Surroundings.{Located, outside, items_located}
use Rattle.sh_table.specs.Walks.{form_in, site_in, located}
use Rattle.sh_table.specs.WordTexts.{text_in}
use Rattle.sh_table.specs.declared.functions.Definition as declared
use Rattle.sh_table.specs.declared.site.Around.{Around}
use Rattle.sh_table.specs.declared.table.Row as row
use Rattle.sh_table.proofs.OrderLemmas.{made_in_order, all_made_in_order}
use Rattle.sh_table.proofs.SiteLemmas.{site_located}

-- one command

-- only a simple command has words
texts_of_kind : (b : List ℕ) (k : Kind) → statics (Simple (operands_in (elements_from b (elements_of k)))) ≡ statics (form_in b k)
unfolding statics form_in form_of elements_of elements_from operands_in words_in trees.kind_of
texts_of_kind b (Simple' shape row) = ap (λ es. map static_of (words_in (operands_in es))) (sym (rules.elements_listed b row))
texts_of_kind b _ = refl

pub row_pushed : (b : List ℕ) (old new : List row.Row) (r : row.Row) (c : Command) (es : List Element) → new ≡ old ++ r ∷ [] → r.number ≡ (out-Command c).number
    → es ≡ elements_of (out-Command c).kind → map (text_in b) r.texts.items ≡ statics (Simple (operands_in (elements_from b es)))
    → map (row_in b) new ≡ map (row_in b) old ++ row_at b c ∷ []
unfolding row_at
row_pushed b old new r c es e n w t =
    let texts = t ∙ ap (λ xs. statics (Simple (operands_in (elements_from b xs)))) w ∙ texts_of_kind b (out-Command c).kind in
    ap (map (row_in b)) e ∙ map-append (row_in b) old (r ∷ []) ∙ ap₂ (λ m ts. map (row_in b) old ++ (m, ts) ∷ []) n texts

pub definition_pushed : (b : List ℕ) (old new : List declared.Definition) (d : declared.Definition) (c : Command) → new ≡ old ++ d ∷ [] → d.number ≡ (out-Command c).number
    → Some (text_of b d.name) ≡ defined (form_in b (out-Command c).kind) → map (definition_in b) new ≡ map (definition_in b) old ++ filter_map (defined_by b) (c ∷ [])
unfolding defined_by
definition_pushed b old new d c e n h =
    ap (map (definition_in b)) e ∙ map-append (definition_in b) old (d ∷ [])
    ∙ ap₂ (λ m o. map (definition_in b) old ++ cons_option (option_map (λ (t : Text). (m, t)) o) []) n h

pub none_pushed : (b : List ℕ) (old : List declared.Definition) (c : Command) → None ≡ defined (form_in b (out-Command c).kind)
    → map (definition_in b) old ≡ map (definition_in b) old ++ filter_map (defined_by b) (c ∷ [])
unfolding defined_by
none_pushed b old c h =
    sym (append-nil (map (definition_in b) old))
    ∙ ap (λ o. map (definition_in b) old ++ cons_option (option_map (λ (t : Text). ((out-Command c).number, t)) o) []) h

pub one_found : {E : Type 0} (r : Result (Unit {0}) E) (b : List ℕ) (rs more : List row.Row) (ds others : List declared.Definition) (x : Around) (c : Command)
    → map (row_in b) more ≡ map (row_in b) rs ++ row_at b c ∷ [] → OnOk r (map (definition_in b) others ≡ map (definition_in b) ds ++ filter_map (defined_by b) (c ∷ []))
    → (k : Found) → found_in b rs ds ≡ k → OnOk r (found_in b more others ≡ with_command k (located b x c))
unfolding with_command row_of row_at definition_of defined_by site_in
one_found (Ok u) b rs more ds others x c e h k q =
    ap₂ (λ ys zs. record { rows = ys; definitions = zs }) e h
    ∙ ap (λ (s : Site). record { rows = map (row_in b) rs ++ row_of s ∷ []; definitions = map (definition_in b) ds ++ filter_map definition_of (s ∷ []) }) (sym (site_located b x c))
    ∙ ap (λ z. with_command z (located b x c)) q
one_found (Err y) b rs more ds others x c e h k q = tt

-- all commands

abbrev made_of : List Located → List Definition
made_of ls = filter_map definition_of (map site_of ls)

found_in_turn : (rs : List Row) (ds : List Definition) (ls : List Located)
    → fold with_command (record { rows = rs; definitions = ds }) ls ≡ record { rows = rs ++ map row_of (map site_of ls); definitions = ds ++ made_of ls }
unfolding with_command
found_in_turn rs ds [] = ap₂ (λ ys zs. record { rows = ys; definitions = zs }) (sym (append-nil rs)) (sym (append-nil ds))
found_in_turn rs ds (l ∷ ls) =
    found_in_turn (rs ++ row_of (site_of l) ∷ []) (ds ++ filter_map definition_of (site_of l ∷ [])) ls
    ∙ ap₂ (λ ys zs. record { rows = ys; definitions = zs }) (append_assoc rs (row_of (site_of l) ∷ []) (map row_of (map site_of ls)))
    (append_assoc ds (filter_map definition_of (site_of l ∷ [])) (made_of ls)
    ∙ ap (λ zs. ds ++ zs) (sym (filter_map-append definition_of (site_of l ∷ []) (map site_of ls))))

-- sorted

row_numbered : (s : Site) → (row_of s).0 ≡ s.number
unfolding row_of
row_numbered s = refl

definition_numbered : (s : Site) (d : Definition) → definition_of s ≡ Some d → d.0 ≡ s.number
unfolding definition_of
definition_numbered s d e = go (defined s.form) e
  where
    go : (o : Option Text) → option_map (λ t. (s.number, t)) o ≡ Some d → d.0 ≡ s.number
    go None h = cc
    go (Some t) h = ap (λ (x : Definition). x.0) (sym (same_Some _ _ h))

pub rows_in_order : (b : List ℕ) (xs ys : List row.Row) (ss : List Site) → IsNonDecreasingBy (λ (x : row.Row). x.number) ys → IsStableByKey (λ (x : row.Row). x.number) nat_cmp xs ys
    → map (row_in b) xs ≡ map row_of ss → map (row_in b) ys ≡ map row_of (by_number ss)
rows_in_order b xs ys ss up stable e =
    all_made_in_order (λ (x : row.Row). x.number) (row_in b) (λ (r : Row). r.0) (λ x. refl) row_of row_numbered xs ys ss up stable e

pub definitions_in_order : (b : List ℕ) (xs ys : List declared.Definition) (ss : List Site) → IsNonDecreasingBy (λ (x : declared.Definition). x.number) ys
    → IsStableByKey (λ (x : declared.Definition). x.number) nat_cmp xs ys → map (definition_in b) xs ≡ filter_map definition_of ss
    → map (definition_in b) ys ≡ filter_map definition_of (by_number ss)
definitions_in_order b xs ys ss up stable e =
    made_in_order (λ (x : declared.Definition). x.number) (definition_in b) (λ (d : Definition). d.0) (λ x. refl) definition_of definition_numbered xs ys ss up stable e

-- those of a script

found_of : (b : List ℕ) (t : Script) (no_rows rs : List row.Row) (no_definitions ds : List declared.Definition) → no_rows ≡ [] → no_definitions ≡ []
    → found_in b rs ds ≡ fold with_command (found_in b no_rows no_definitions) (items_located outside (script_of b t))
    → found_in b rs ds ≡ record { rows = map row_of (map site_of (items_located outside (script_of b t))); definitions = made_of (items_located outside (script_of b t)) }
found_of b t no_rows rs no_definitions ds e f h =
    h ∙ ap₂ (λ xs ys. fold with_command (found_in b xs ys) (items_located outside (script_of b t))) e f ∙ found_in_turn [] [] (items_located outside (script_of b t))

pub rows_whole : (b : List ℕ) (t : Script) (no_rows rs sorted : List row.Row) (no_definitions ds : List declared.Definition) → no_rows ≡ [] → no_definitions ≡ []
    → found_in b rs ds ≡ fold with_command (found_in b no_rows no_definitions) (items_located outside (script_of b t))
    → ((ss : List Site) → map (row_in b) rs ≡ map row_of ss → map (row_in b) sorted ≡ map row_of (by_number ss)) → map (row_in b) sorted ≡ map row_of (sites_of (script_of b t))
unfolding sites_of
rows_whole b t no_rows rs sorted no_definitions ds e f h sort = sort _ (ap (λ (k : Found). k.rows) (found_of b t no_rows rs no_definitions ds e f h))

pub definitions_whole : (b : List ℕ) (t : Script) (no_rows rs : List row.Row) (no_definitions ds sorted : List declared.Definition) → no_rows ≡ [] → no_definitions ≡ []
    → found_in b rs ds ≡ fold with_command (found_in b no_rows no_definitions) (items_located outside (script_of b t))
    → ((ss : List Site) → map (definition_in b) ds ≡ filter_map definition_of ss → map (definition_in b) sorted ≡ filter_map definition_of (by_number ss))
    → map (definition_in b) sorted ≡ filter_map definition_of (sites_of (script_of b t))
unfolding sites_of
definitions_whole b t no_rows rs no_definitions ds sorted e f h sort = sort _ (ap (λ (k : Found). k.definitions) (found_of b t no_rows rs no_definitions ds e f h))
