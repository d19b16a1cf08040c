-- Whether a command leaves IFS to what separates no numbers, by the pieces one level below it.
use Rattle.std.proofs.Common.{◌≡◌, ℕ, Bool, true, false, not, ◌&&◌, ◌||◌, if◌then◌else◌, List, [], ◌∷◌, ◌++◌, Option, Some, None, refl, sym, ap, ap₂, ◌∙◌}
use Rattle.std.specs.List.{list_any, list_all}
use Rattle.std.proofs.lemmas.List.Folds.{list_any-append}
use Rattle.sh_tree.specs.declared.known.KnownName.TheVariants as known
use Rattle.sh_tree.specs.declared.tree.Branch.{Branch}
use Rattle.sh_tree.specs.declared.tree.Clause.{Clause, out-Clause}
use Rattle.sh_tree.specs.declared.tree.Command.{Command, out-Command}
use Rattle.sh_tree.specs.declared.tree.Direction.{Direction}
use Rattle.sh_tree.specs.declared.tree.Element.{Element, Assignment', Word', Redirection'}
use Rattle.sh_tree.specs.declared.tree.Element.TheVariants as element
use Rattle.sh_tree.specs.declared.tree.HereDoc.{HereDoc}
use Rattle.sh_tree.specs.declared.tree.Kind.TheVariants as kind
use Rattle.sh_tree.specs.declared.tree.LoopKind.{LoopKind}
use Rattle.sh_tree.specs.declared.tree.Part.{Part, Param', Double', Arith'}
use Rattle.sh_tree.specs.declared.tree.Part.TheVariants as part
use Rattle.sh_tree.specs.declared.tree.Redirect.{Redirect}
use Rattle.sh_tree.specs.declared.tree.Script.{Script}
use Rattle.sh_tree.specs.declared.tree.Span.{Span}
use Rattle.sh_tree.specs.declared.tree.Target.TheVariants as target
use Rattle.sh_tree.specs.declared.tree.Word.{Word}
use Rattle.sh_tree.specs.standard.Tree.{text_of}
use Rattle.sh_tree.specs.standard.Words.{words_of}
use Rattle.sh_tree.specs.standard.language.Commands.{is_assignment}
use Rattle.sh_tree.specs.Lists.{parts_from, words_from, element_from, elements_from, for_words_from, clauses_from, redirects_from}
use Rattle.sh_tree.specs.standard.program.Syntax as p
use Rattle.sh_tree.specs.standard.program.Syntax.{Text}
use Rattle.sh_tree.specs.standard.program.Trees as trees
use Rattle.sh_tree.specs.standard.program.Words.{assignment_in, before_word, words_in, operands_in, redirects_in, assignments_in}
use Rattle.sh_tree.proofs.ProgramForms.{operands_of_elements}
use Rattle.sh_tree.proofs.ProgramRules as rules
use Rattle.sh_runs.specs.Profile.{Static}
use Rattle.sh_runs.specs.Quoting.{is_at, is_ifs, word_assigns, word_mentions}
use Rattle.sh_runs.specs.declared.kind.Kind as meaning
use Rattle.sh_runs.specs.declared.kind.Kind.TheVariants as kinds
use Rattle.sh_runs.specs.standard.runs.Steps.{opened}
use Rattle.sh_quote.specs.Steady.{steady_assignment, steady_value, steady_text, redirect_words, value_words, kind_words, for_words, pattern_words}
use Rattle.sh_quote.specs.Operands.{front_steady, parts_declared, all_declared, is_one_field, first_options, all_options, operands_steady, names_other}
use Rattle.sh_quote.specs.Commands.{by_form, all_declared_by, is_one_field_by, all_options_by, operands_by, named_by, words_by, kind_by, command_by, element_steady, named_steady, words_steady, kind_steady, word_sets, target_sets, element_sets, clause_sets, kind_sets, command_steady}
use Rattle.sh_quote.proofs.QuotationLemmas as quotations

with_true : (x : Bool) → (x && true) ≡ x
with_true true = refl
with_true false = refl

with_false : (x : Bool) → (x || false) ≡ x
with_false true = refl
with_false false = refl

-- operands of `export` and `readonly`

front_by : (b : List ℕ) (u : Text) (ps : List Part) (t : Static) → by_form (assignment_in (p.more_parts (p.Plain u) (parts_from b ps))) t ≡ front_steady b u ps t
unfolding assignment_in front_steady by_form steady_assignment
front_by b u ps t = go (is_assignment u) _
  where
    go : (x : Bool) (y : Text × p.Word) → by_form (if x then Some y else None) t ≡ (if x then not (is_ifs y.0) || steady_value y.1 else steady_text t)
    go true y = refl
    go false y = refl

parts_by : (b : List ℕ) (ps : List Part) (t : Static) → by_form (assignment_in (parts_from b ps)) t ≡ parts_declared b ps t
unfolding assignment_in parts_declared parts_from trees.part_of by_form
parts_by b [] t = refl
parts_by b (part.Plain s ∷ ps) t = front_by b (text_of b s) ps t
parts_by b (part.Escaped s ∷ ps) t = refl
parts_by b (part.Single style s ∷ ps) t = refl
parts_by b (Double' s shape row ∷ ps) t = refl
parts_by b (Param' s subject operator ∷ ps) t = refl
parts_by b (Arith' s shape row ∷ ps) t = refl
parts_by b (part.Command style s l ∷ ps) t = refl
parts_by b (part.Tilde s ∷ ps) t = refl
parts_by b (part.Joined s ∷ ps) t = refl

declared_listed : (b : List ℕ) (ws : List Word) (ts : List Static) → all_declared_by (words_in (words_from b ws)) ts ≡ all_declared b ws ts
unfolding words_in words_from all_declared_by all_declared
declared_listed b [] ts = refl
declared_listed b (w ∷ ws) [] = refl
declared_listed b (w ∷ ws) (t ∷ ts) = ap₂ (λ x y. x && y) (parts_by b w.parts t) (declared_listed b ws ts)

-- operands of `getopts`

field_by : (b : List ℕ) (w : Word) (t : Static) → is_one_field_by (parts_from b w.parts) t ≡ is_one_field b w t
unfolding is_one_field_by is_one_field
field_by b w (Some t) = refl
field_by b w None = ap (λ x. x && not (word_mentions is_at (parts_from b w.parts))) (quotations.quotes_listed b w.parts)

options_listed : (b : List ℕ) (ws : List Word) (ts : List Static) → all_options_by (words_in (words_from b ws)) ts ≡ all_options b ws ts
unfolding words_in words_from all_options_by all_options first_options
options_listed b [] ts = refl
options_listed b (w ∷ ws) [] = refl
options_listed b (w ∷ ws) (t ∷ ts) = ap (λ x. x && list_all names_other ts) (field_by b w t)

-- utilities

operands_listed : (k : meaning.Kind) (b : List ℕ) (ws : List Word) (ts : List Static) → operands_by k (words_in (words_from b ws)) ts ≡ operands_steady k b ws ts
unfolding operands_by operands_steady
operands_listed (kinds.Special known.Export) b ws ts = declared_listed b ws ts
operands_listed (kinds.Special known.Readonly) b ws ts = declared_listed b ws ts
operands_listed kinds.Read b ws ts = refl
operands_listed kinds.Getopts b ws ts = options_listed b ws ts
operands_listed k b ws ts = refl

named_listed : (k : meaning.Kind) (b : List ℕ) (ws : List Word) (ts : List Static) → named_by k (words_in (words_from b ws)) ts ≡ named_steady k b ws ts
unfolding words_in words_from named_by named_steady
named_listed k b [] ts = refl
named_listed k b (w ∷ ws) ts = operands_listed k b ws ts

words_listed : (b : List ℕ) (ws : List Word) (ts : List Static) → words_by (words_in (words_from b ws)) ts ≡ words_steady b ws ts
unfolding words_by words_steady
words_listed b ws [] = refl
words_listed b ws (None ∷ ts) = refl
words_listed b ws (Some t ∷ ts) = named_listed _ b ws ts

pub no_operands : (k : meaning.Kind) (b : List ℕ) (ws : List Word) (ts : List Static) → ws ≡ [] → named_steady k b ws ts ≡ true
unfolding named_steady
no_operands k b ws ts e = ap (λ vs. named_steady k b vs ts) e

pub behind_name : (k : meaning.Kind) (b : List ℕ) (ws rest : List Word) (w : Word) (ts : List Static) → ws ≡ w ∷ rest → named_steady k b ws ts ≡ operands_steady k b rest ts
unfolding named_steady
behind_name k b ws rest w ts e = ap (λ vs. named_steady k b vs ts) e

-- assignments

pub element_steady-Assignment : (b : List ℕ) (s : Span) (w : Word)
    → element_steady b (element.Assignment s w) ≡ (not (is_ifs (text_of b s)) || steady_value (before_word [] (parts_from b w.parts)))
unfolding element_steady assignments_in before_word steady_assignment
element_steady-Assignment b s w =
    ap (λ es. list_all steady_assignment (assignments_in es)) (rules.element_from-Assignment b s w p.no_elements)
    ∙ with_true (not (is_ifs (text_of b s)) || steady_value (parts_from b w.parts))

pub element_steady-Word : (b : List ℕ) (w : Word) → element_steady b (element.Word w) ≡ true
unfolding element_steady assignments_in
element_steady-Word b w = ap (λ es. list_all steady_assignment (assignments_in es)) (rules.element_from-Word b w p.no_elements)

pub element_steady-Redirection : (b : List ℕ) (r : Redirect) → element_steady b (element.Redirection r) ≡ true
unfolding element_steady assignments_in
element_steady-Redirection b r = ap (λ es. list_all steady_assignment (assignments_in es)) (rules.element_from-Redirection b r p.no_elements)

pub ruleset steady_elements = (element_steady-Assignment, element_steady-Word, element_steady-Redirection)

one_steady : (b : List ℕ) (e : Element) (es : p.Elements) → list_all steady_assignment (assignments_in (element_from b e es)) ≡ (element_steady b e && list_all steady_assignment (assignments_in es))
unfolding element_steady assignments_in element_from
one_steady b (Assignment' n t shape row) es =
    ap (λ x. x && list_all steady_assignment (assignments_in es)) (sym (with_true (steady_assignment (text_of b n, trees.word_of b row))))
one_steady b (Word' t shape row) es = refl
one_steady b (Redirection' at n t) es = refl

steady_listed : (b : List ℕ) (es : List Element) → list_all steady_assignment (assignments_in (elements_from b es)) ≡ list_all (element_steady b) es
unfolding assignments_in elements_from
steady_listed b [] = refl
steady_listed b (e ∷ es) = one_steady b e (elements_from b es) ∙ ap (λ x. element_steady b e && x) (steady_listed b es)

-- kinds

pub kind_steady-Simple : (b : List ℕ) (es : List Element) (ts : List Static) → kind_steady b (kind.Simple es) ts ≡ (list_all (element_steady b) es && words_steady b (words_of es) ts)
unfolding kind_steady kind_by
kind_steady-Simple b es ts =
    ap (λ k. kind_by k ts) (rules.kind_of-Simple b es)
    ∙ ap₂ (λ x y. x && y) (steady_listed b es) (ap (λ ws. words_by (words_in ws) ts) (operands_of_elements b es) ∙ words_listed b (words_of es) ts)

pub kind_steady-For : (b : List ℕ) (s : Span) (o : Option (List Word)) (t : Script) (ts : List Static) → kind_steady b (kind.For s o t) ts ≡ not (is_ifs (text_of b s))
unfolding kind_steady kind_by
kind_steady-For b s o t ts = ap (λ k. kind_by k ts) (rules.kind_of-For b s o t)

pub kind_steady-Group : (b : List ℕ) (t : Script) (ts : List Static) → kind_steady b (kind.Group t) ts ≡ true
unfolding kind_steady kind_by
kind_steady-Group b t ts = ap (λ y. kind_by y ts) (rules.kind_of-Group b t)

pub kind_steady-Subshell : (b : List ℕ) (t : Script) (ts : List Static) → kind_steady b (kind.Subshell t) ts ≡ true
unfolding kind_steady kind_by
kind_steady-Subshell b t ts = ap (λ y. kind_by y ts) (rules.kind_of-Subshell b t)

pub kind_steady-Cond : (b : List ℕ) (cs : List Branch) (o : Option Script) (ts : List Static) → kind_steady b (kind.Cond cs o) ts ≡ true
unfolding kind_steady kind_by
kind_steady-Cond b cs o ts = ap (λ y. kind_by y ts) (rules.kind_of-Cond b cs o)

pub kind_steady-Loop : (b : List ℕ) (k : LoopKind) (c t : Script) (ts : List Static) → kind_steady b (kind.Loop k c t) ts ≡ true
unfolding kind_steady kind_by
kind_steady-Loop b k c t ts = ap (λ y. kind_by y ts) (rules.kind_of-Loop b k c t)

pub kind_steady-Branches : (b : List ℕ) (w : Word) (cs : List Clause) (ts : List Static) → kind_steady b (kind.Branches w cs) ts ≡ true
unfolding kind_steady kind_by
kind_steady-Branches b w cs ts = ap (λ y. kind_by y ts) (rules.kind_of-Branches b w cs)

pub kind_steady-Define : (b : List ℕ) (s : Span) (c : Command) (ts : List Static) → kind_steady b (kind.Define s c) ts ≡ true
unfolding kind_steady kind_by
kind_steady-Define b s c ts = ap (λ y. kind_by y ts) (rules.kind_of-Define b s c)

pub ruleset steady_kinds = (kind_steady-Simple, kind_steady-For, kind_steady-Group, kind_steady-Subshell, kind_steady-Cond, kind_steady-Loop, kind_steady-Branches, kind_steady-Define)

-- assignments in words

abbrev sets : p.Word → Bool
sets w = word_assigns is_ifs w

set_listed : (b : List ℕ) (ws : List Word) → list_any sets (words_in (words_from b ws)) ≡ list_any (word_sets b) ws
unfolding words_in words_from
set_listed b [] = refl
set_listed b (w ∷ ws) = ap (λ y. word_sets b w || y) (set_listed b ws)

pub target_sets-File : (b : List ℕ) (d : Direction) (w : Word) → target_sets b (target.File d w) ≡ word_sets b w
unfolding target_sets opened
target_sets-File b d w = ap (λ r. sets (opened r)) (rules.target_of-File b d w)

pub target_sets-Here : (b : List ℕ) (h : HereDoc) → target_sets b (target.Here h) ≡ word_sets b h.body
unfolding target_sets opened
target_sets-Here b h = ap (λ r. sets (opened r)) (rules.target_of-Here b h)

pub ruleset setting_targets = (target_sets-File, target_sets-Here)

redirects_listed : (b : List ℕ) (rs : List Redirect) → list_any sets (redirect_words (redirects_from b rs)) ≡ list_any (λ r. target_sets b r.target) rs
unfolding redirect_words redirects_from target_sets
redirects_listed b [] = refl
redirects_listed b (r ∷ rs) = ap (λ x. target_sets b r.target || x) (redirects_listed b rs)

abbrev in_simple : p.Elements → Bool
in_simple es = list_any sets (kind_words (p.Simple es))

pub element_sets-Assignment : (b : List ℕ) (s : Span) (w : Word) → element_sets b (element.Assignment s w) ≡ word_sets b w
unfolding element_sets kind_words operands_in redirects_in assignments_in words_in redirect_words value_words
element_sets-Assignment b s w = ap in_simple (rules.element_from-Assignment b s w p.no_elements) ∙ with_false (sets (parts_from b w.parts))

pub element_sets-Word : (b : List ℕ) (w : Word) → element_sets b (element.Word w) ≡ word_sets b w
unfolding element_sets kind_words operands_in redirects_in assignments_in words_in redirect_words value_words
element_sets-Word b w = ap in_simple (rules.element_from-Word b w p.no_elements) ∙ with_false (sets (parts_from b w.parts))

pub element_sets-Redirection : (b : List ℕ) (r : Redirect) → element_sets b (element.Redirection r) ≡ target_sets b r.target
unfolding element_sets kind_words operands_in redirects_in assignments_in words_in redirect_words value_words target_sets
element_sets-Redirection b r = ap in_simple (rules.element_from-Redirection b r p.no_elements) ∙ with_false (target_sets b r.target)

pub ruleset setting_elements = (element_sets-Assignment, element_sets-Word, element_sets-Redirection)

three : (xs ys zs : List p.Word) → list_any sets (xs ++ ys ++ zs) ≡ (list_any sets xs || list_any sets ys || list_any sets zs)
three xs ys zs = list_any-append sets (xs ++ ys) zs ∙ ap (λ t. t || list_any sets zs) (list_any-append sets xs ys)

second : (r x y z : Bool) → (x || (r || y) || z) ≡ (r || (x || y || z))
second true true y z = refl
second true false y z = refl
second false x y z = refl

third : (v x y z : Bool) → (x || y || (v || z)) ≡ (v || (x || y || z))
third true true y z = refl
third true false true z = refl
third true false false z = refl
third false x y z = refl

first : (w x y z : Bool) → ((w || x) || y || z) ≡ (w || (x || y || z))
first true x y z = refl
first false x y z = refl

one_sets : (b : List ℕ) (e : Element) (es : p.Elements) → in_simple (element_from b e es) ≡ (element_sets b e || in_simple es)
unfolding element_sets element_from kind_words operands_in redirects_in assignments_in words_in redirect_words value_words
one_sets b (Assignment' n t shape row) es =
    let x = words_in (operands_in es) in
    let y = redirect_words (redirects_in es) in
    let z = value_words (assignments_in es) in
    three x y (trees.word_of b row ∷ z) ∙ third (sets (trees.word_of b row)) (list_any sets x) (list_any sets y) (list_any sets z)
    ∙ ap₂ (λ u v. u || v) (sym (with_false (sets (trees.word_of b row)))) (sym (three x y z))
one_sets b (Word' t shape row) es =
    let x = words_in (operands_in es) in
    let y = redirect_words (redirects_in es) in
    let z = value_words (assignments_in es) in
    three (trees.word_of b row ∷ x) y z ∙ first (sets (trees.word_of b row)) (list_any sets x) (list_any sets y) (list_any sets z)
    ∙ ap₂ (λ u v. u || v) (sym (with_false (sets (trees.word_of b row)))) (sym (three x y z))
one_sets b (Redirection' at n t) es =
    let x = words_in (operands_in es) in
    let y = redirect_words (redirects_in es) in
    let z = value_words (assignments_in es) in
    three x (opened (trees.target_of b t) ∷ y) z ∙ second (sets (opened (trees.target_of b t))) (list_any sets x) (list_any sets y) (list_any sets z)
    ∙ ap₂ (λ u v. u || v) (sym (with_false (sets (opened (trees.target_of b t))))) (sym (three x y z))

sets_listed : (b : List ℕ) (es : List Element) → in_simple (elements_from b es) ≡ list_any (element_sets b) es
unfolding elements_from kind_words operands_in redirects_in assignments_in words_in redirect_words value_words
sets_listed b [] = refl
sets_listed b (e ∷ es) = one_sets b e (elements_from b es) ∙ ap (λ x. element_sets b e || x) (sets_listed b es)

patterns_listed : (b : List ℕ) (cs : List Clause) → list_any sets (pattern_words (clauses_from b cs)) ≡ list_any (clause_sets b) cs
unfolding pattern_words clauses_from
patterns_listed b [] = refl
patterns_listed b (c ∷ cs) =
    list_any-append sets (words_in (words_from b (out-Clause c).patterns)) (pattern_words (clauses_from b cs))
    ∙ ap₂ (λ x y. x || y) (set_listed b (out-Clause c).patterns) (patterns_listed b cs)

abbrev pub in_list : List ℕ → Option (List Word) → Bool
in_list b None = false
in_list b (Some ws) = list_any (word_sets b) ws

for_listed : (b : List ℕ) (o : Option (List Word)) → list_any sets (for_words (for_words_from b o)) ≡ in_list b o
unfolding for_words for_words_from
for_listed b None = refl
for_listed b (Some ws) = set_listed b ws

pub kind_sets-Simple : (b : List ℕ) (es : List Element) → kind_sets b (kind.Simple es) ≡ list_any (element_sets b) es
unfolding kind_sets
kind_sets-Simple b es = ap (λ k. list_any sets (kind_words k)) (rules.kind_of-Simple b es) ∙ sets_listed b es

pub kind_sets-For : (b : List ℕ) (s : Span) (o : Option (List Word)) (t : Script) → kind_sets b (kind.For s o t) ≡ in_list b o
unfolding kind_sets kind_words
kind_sets-For b s o t = ap (λ k. list_any sets (kind_words k)) (rules.kind_of-For b s o t) ∙ for_listed b o

pub kind_sets-Branches : (b : List ℕ) (w : Word) (cs : List Clause) → kind_sets b (kind.Branches w cs) ≡ (word_sets b w || list_any (clause_sets b) cs)
unfolding kind_sets kind_words
kind_sets-Branches b w cs =
    ap (λ k. list_any sets (kind_words k)) (rules.kind_of-Branches b w cs) ∙ ap (λ y. word_sets b w || y) (patterns_listed b cs)

pub kind_sets-Group : (b : List ℕ) (t : Script) → kind_sets b (kind.Group t) ≡ false
unfolding kind_sets kind_words
kind_sets-Group b t = ap (λ y. list_any sets (kind_words y)) (rules.kind_of-Group b t)

pub kind_sets-Subshell : (b : List ℕ) (t : Script) → kind_sets b (kind.Subshell t) ≡ false
unfolding kind_sets kind_words
kind_sets-Subshell b t = ap (λ y. list_any sets (kind_words y)) (rules.kind_of-Subshell b t)

pub kind_sets-Cond : (b : List ℕ) (cs : List Branch) (o : Option Script) → kind_sets b (kind.Cond cs o) ≡ false
unfolding kind_sets kind_words
kind_sets-Cond b cs o = ap (λ y. list_any sets (kind_words y)) (rules.kind_of-Cond b cs o)

pub kind_sets-Loop : (b : List ℕ) (k : LoopKind) (c t : Script) → kind_sets b (kind.Loop k c t) ≡ false
unfolding kind_sets kind_words
kind_sets-Loop b k c t = ap (λ y. list_any sets (kind_words y)) (rules.kind_of-Loop b k c t)

pub kind_sets-Define : (b : List ℕ) (s : Span) (c : Command) → kind_sets b (kind.Define s c) ≡ false
unfolding kind_sets kind_words
kind_sets-Define b s c = ap (λ y. list_any sets (kind_words y)) (rules.kind_of-Define b s c)

pub ruleset setting_kinds = (kind_sets-Simple, kind_sets-For, kind_sets-Branches, kind_sets-Group, kind_sets-Subshell, kind_sets-Cond, kind_sets-Loop, kind_sets-Define)

-- a command

pub command_out : (b : List ℕ) (c : Command) (ts : List Static)
    → command_steady b c ts
    ≡ (kind_steady b (out-Command c).kind ts
    && not (list_any (λ r. target_sets b r.target) (out-Command c).redirects || kind_sets b (out-Command c).kind))
unfolding command_steady command_by kind_steady kind_sets
command_out b c ts =
    ap (λ y. command_by y ts) (rules.command_of-out b c)
    ∙ ap (λ x. kind_by (trees.kind_of b (out-Command c).kind) ts && not x)
    (list_any-append sets (redirect_words (redirects_from b (out-Command c).redirects)) (kind_words (trees.kind_of b (out-Command c).kind))
    ∙ ap (λ x. x || list_any sets (kind_words (trees.kind_of b (out-Command c).kind))) (redirects_listed b (out-Command c).redirects))
