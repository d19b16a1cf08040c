-- What is read off one command, and the commands that a walk collects, by their numbers.
use Rattle.std.proofs.Common.{◌≡◌, ℕ, false, not, List, [], ◌∷◌, ◌++◌, Option, Some, None, slice_get, refl, sym, ap, ap₂, ◌∙◌, append_assoc, map, fold}
use Rattle.std.proofs.lemmas.List.{append-nil, map-append}
use Rattle.std.specs.List.Sorted.{IsNonDecreasingBy, IsStableByKey}
use Rattle.std.specs.Ordering.{nat_cmp}
use Rattle.sh_tree.specs.declared.tree.Branch.{Branch}
use Rattle.sh_tree.specs.declared.tree.Clause.{Clause}
use Rattle.sh_tree.specs.declared.tree.Command.{Command}
use Rattle.sh_tree.specs.declared.tree.Element.{Element, Assignment', Word', Redirection'}
use Rattle.sh_tree.specs.declared.tree.Kind.TheVariants as kind
use Rattle.sh_tree.specs.declared.tree.LoopKind.{LoopKind}
use Rattle.sh_tree.specs.declared.tree.Part.{Part, Plain}
use Rattle.sh_tree.specs.declared.tree.Script.{Script}
use Rattle.sh_tree.specs.declared.tree.Span.{Span}
use Rattle.sh_tree.specs.declared.tree.Word.{Word}
use Rattle.sh_tree.specs.standard.Tree.{text_of}
use Rattle.sh_tree.specs.standard.Words.{words_of, form_of as element_form, word_in}
use Rattle.sh_tree.specs.Lists.{parts_from, words_from, elements_from, element_from}
use Rattle.sh_tree.specs.standard.program.Trees as trees
use Rattle.sh_tree.specs.standard.program.Words.{operands_in}
use Rattle.sh_tree.proofs.ProgramRules as rules
use Rattle.sh_table.specs.declared.site.Around.{Around}
use Rattle.sh_table.specs.declared.site.Site as site
use Rattle.sh_runs.specs.Sites.{Site, Simple, Defines, Other, site_of, form_of, by_number, sites_of}
use Rattle.sh_runs.specs.Surroundings.{Located, outside, items_located}
use Rattle.sh_table.specs.Walks.{Outline, is_plain, is_quoted, outline_of, seen, is_lone_plain, form_in, site_in, located, with_outline}
use Rattle.sh_table.proofs.OrderLemmas.{all_made_in_order}

-- what is read off one command

pub form_in-Simple : (b : List ℕ) (es : List Element) → form_in b (kind.Simple es) ≡ Simple (operands_in (elements_from b es))
unfolding form_in form_of
form_in-Simple b es = ap form_of (rules.kind_of-Simple b es)

pub form_in-Define : (b : List ℕ) (s : Span) (c : Command) → form_in b (kind.Define s c) ≡ Defines (text_of b s)
unfolding form_in form_of
form_in-Define b s c = ap form_of (rules.kind_of-Define b s c)

pub form_in-Group : (b : List ℕ) (t : Script) → form_in b (kind.Group t) ≡ Other
unfolding form_in form_of
form_in-Group b t = ap form_of (rules.kind_of-Group b t)

pub form_in-Subshell : (b : List ℕ) (t : Script) → form_in b (kind.Subshell t) ≡ Other
unfolding form_in form_of
form_in-Subshell b t = ap form_of (rules.kind_of-Subshell b t)

pub form_in-Cond : (b : List ℕ) (cs : List Branch) (o : Option Script) → form_in b (kind.Cond cs o) ≡ Other
unfolding form_in form_of
form_in-Cond b cs o = ap form_of (rules.kind_of-Cond b cs o)

pub form_in-Loop : (b : List ℕ) (k : LoopKind) (c t : Script) → form_in b (kind.Loop k c t) ≡ Other
unfolding form_in form_of
form_in-Loop b k c t = ap form_of (rules.kind_of-Loop b k c t)

pub form_in-For : (b : List ℕ) (s : Span) (o : Option (List Word)) (t : Script) → form_in b (kind.For s o t) ≡ Other
unfolding form_in form_of
form_in-For b s o t = ap form_of (rules.kind_of-For b s o t)

pub form_in-Branches : (b : List ℕ) (w : Word) (cs : List Clause) → form_in b (kind.Branches w cs) ≡ Other
unfolding form_in form_of
form_in-Branches b w cs = ap form_of (rules.kind_of-Branches b w cs)

pub ruleset forms = (form_in-Simple, form_in-Define, form_in-Group, form_in-Subshell, form_in-Cond, form_in-Loop, form_in-For, form_in-Branches)

pub site_located : (b : List ℕ) (x : Around) (c : Command) → site_of (located b x c) ≡ site_in b x c
unfolding site_of site_in form_in
site_located b x c = rw (rules.command_of-out b c) refl

-- whether the name of a simple command is more than plain bytes

pub operands_listed : (b : List ℕ) (es : List Element) → operands_in (elements_from b es) ≡ words_from b (words_of es)
unfolding operands_in elements_from element_from words_from element_form word_in
operands_listed b [] = refl
operands_listed b (Assignment' n t shape row ∷ es) = operands_listed b es
operands_listed b (Word' t shape row ∷ es) = rw (rules.parts_listed b row, operands_listed b es) refl
operands_listed b (Redirection' at n t ∷ es) = operands_listed b es

plain_from : (b : List ℕ) (ps : List Part) → is_lone_plain ps ≡ is_plain (parts_from b ps)
unfolding is_lone_plain is_plain parts_from trees.part_of
plain_from b [] = refl
plain_from b (Plain s ∷ []) = refl
plain_from b (Plain s ∷ y ∷ ys) = refl
plain_from b (x ∷ xs) = refl

pub quoted_some : (b : List ℕ) (es : List Element) (w : Word) → Some w ≡ slice_get (words_of es) 0 → not (is_lone_plain w.parts) ≡ is_quoted (operands_in (elements_from b es))
unfolding is_quoted words_from
quoted_some b es w e = go (words_of es) e ∙ ap is_quoted (sym (operands_listed b es))
  where
    go : (ws : List Word) → Some w ≡ slice_get ws 0 → not (is_lone_plain w.parts) ≡ is_quoted (words_from b ws)
    go [] h = cc
    go (v ∷ ws) h = let same : w ≡ v = cc in rw same (ap not (plain_from b v.parts))

pub quoted_none : (b : List ℕ) (es : List Element) → None ≡ slice_get (words_of es) 0 → false ≡ is_quoted (operands_in (elements_from b es))
unfolding is_quoted words_from
quoted_none b es e = go (words_of es) e ∙ ap is_quoted (sym (operands_listed b es))
  where
    go : (ws : List Word) → None ≡ slice_get ws 0 → false ≡ is_quoted (words_from b ws)
    go [] h = refl
    go (v ∷ ws) h = cc

-- commands that are collected
collected : (found : List Outline) (ls : List Located) → fold with_outline found ls ≡ found ++ map outline_of (map site_of ls)
collected found [] = sym (append-nil found)
collected found (l ∷ ls) = collected (found ++ outline_of (site_of l) ∷ []) ls ∙ append_assoc found (outline_of (site_of l) ∷ []) (map outline_of (map site_of ls))

-- one command more
pub one_more : (b : List ℕ) (found more : List site.Site) (s : site.Site) (x : Around) (c : Command) → more ≡ found ++ s ∷ [] → seen b s ≡ outline_of (site_in b x c)
    → (os : List Outline) → map (seen b) found ≡ os → map (seen b) more ≡ with_outline os (located b x c)
one_more b found more s x c e h os q =
    ap (map (seen b)) e ∙ map-append (seen b) found (s ∷ []) ∙ ap₂ (λ ys y. ys ++ y ∷ []) q (h ∙ ap outline_of (sym (site_located b x c)))

-- sorted
pub sites_in_order : (b : List ℕ) (xs ys : List site.Site) (ss : List Site) → IsNonDecreasingBy (λ (x : site.Site). x.number) ys → IsStableByKey (λ (x : site.Site). x.number) nat_cmp xs ys
    → map (seen b) xs ≡ map outline_of ss → map (seen b) ys ≡ map outline_of (by_number ss)
unfolding seen outline_of
sites_in_order b xs ys ss up stable e =
    all_made_in_order (λ (x : site.Site). x.number) (seen b) (λ (o : Outline). o.number) (λ x. refl) outline_of (λ s. refl) xs ys ss up stable e

-- all commands, by their numbers
pub sites_whole : (b : List ℕ) (t : Script) (none found sorted : List site.Site) → none ≡ [] → map (seen b) found ≡ fold with_outline (map (seen b) none) (items_located outside (trees.script_of b t))
    → ((ss : List Site) → map (seen b) found ≡ map outline_of ss → map (seen b) sorted ≡ map outline_of (by_number ss)) → map (seen b) sorted ≡ map outline_of (sites_of (trees.script_of b t))
unfolding sites_of
sites_whole b t none found sorted e h sort =
    sort (map site_of (items_located outside (trees.script_of b t)))
    (h ∙ ap (λ xs. fold with_outline (map (seen b) xs) (items_located outside (trees.script_of b t))) e ∙ collected [] (items_located outside (trees.script_of b t)))
