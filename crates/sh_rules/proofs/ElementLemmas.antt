-- What the elements of a simple command leave known, element by element.
use Rattle.std.proofs.Common.{◌≡◌, ℕ, Bool, true, false, ◌&&◌, ◌||◌, List, [], ◌∷◌, fold, refl, sym, ap, ◌∙◌}
use Rattle.std.specs.List.{list_any}
use Rattle.std.specs.Str.{bytes_eq}
use Rattle.sh_tree.specs.declared.tree.Element.{Element, Assignment', Word', Redirection'}
use Rattle.sh_tree.specs.declared.tree.Element.TheVariants as element
use Rattle.sh_tree.specs.declared.tree.Redirect.{Redirect}
use Rattle.sh_tree.specs.declared.tree.Span.{Span}
use Rattle.sh_tree.specs.declared.tree.Target.{Target}
use Rattle.sh_tree.specs.declared.tree.Word.{Word}
use Rattle.sh_tree.specs.standard.Tree.{text_of}
use Rattle.sh_tree.specs.Lists.{parts_from, element_from, elements_from}
use Rattle.sh_tree.specs.standard.program.Syntax as p
use Rattle.sh_tree.specs.standard.program.Syntax.{Text}
use Rattle.sh_tree.specs.standard.program.Trees as trees
use Rattle.sh_tree.specs.standard.program.Words.{assignments_in, operands_in, redirects_in}
use Rattle.sh_tree.proofs.ProgramRules as rules
use Rattle.sh_runs.specs.standard.runs.Environment.{is_one_of}
use Rattle.sh_domain.specs.declared.knowledge.Knowledge.{Knowledge}
use Rattle.sh_domain.specs.Facts.{Facts}
use Rattle.sh_domain.specs.Gains.{no_gains, named, word_gains, words_gains, redirect_gains, redirects_gains}
use Rattle.sh_domain.specs.Knowledge.{knowledge_facts}
use Rattle.sh_domain.specs.Table.{prefixes, values_gains, assignments_gains, redirections_gains, is_redirected}
use Rattle.sh_domain.specs.Views.{Before}
use Rattle.sh_gains.specs.Knowing as knowing
use Rattle.sh_rules.specs.Settings.{Setting, gained, known_at}
use Rattle.sh_rules.specs.Elements.{value_gained, prefix_gained, target_gained, assigns, redirects, prefix_added}
use Rattle.sh_rules.specs.SimpleBounds as simple
use Rattle.sh_rules.specs.declared.claims.Claims.{Claims}
use Rattle.sh_rules.specs.Walks.{facts_in, setting}
use Rattle.sh_rules.proofs.GainLemmas.{facts_gained, none_gained, both_gained}

abbrev known : List Text → Facts → knowing.Knowing
known ns f = record { names = ns; facts = f }

pub words_known : (c : Claims) (n : ℕ) (ms : List Text) (k l : Knowledge) (es : List Element)
    → facts_in (setting c) k ≡ known_at (setting c) (Before n)
    → known ms (knowledge_facts ms l) ≡ knowing.gained (words_gains (operands_in (elements_from c.script.now es))) (known c.names.now (knowledge_facts c.names.now k))
    → facts_in (setting c) l ≡ simple.behind (setting c) n (elements_from (setting c).script es)
unfolding facts_in setting
words_known c n ms k l es b e =
    let x = setting c in
    facts_gained x ms k l (words_gains (operands_in (elements_from x.script es))) e ∙ ap (gained x (words_gains (operands_in (elements_from x.script es)))) b

pub target_known : (c : Claims) (ms : List Text) (k l : Knowledge) (t : Target)
    → known ms (knowledge_facts ms l) ≡ knowing.gained (redirect_gains (trees.target_of c.script.now t)) (known c.names.now (knowledge_facts c.names.now k))
    → facts_in (setting c) l ≡ gained (setting c) (redirect_gains (trees.target_of (setting c).script t)) (facts_in (setting c) k)
unfolding facts_in setting
target_known c ms k l t e = facts_gained (setting c) ms k l (redirect_gains (trees.target_of (setting c).script t)) e

-- values

one_value : (x : Setting) (t : Text) (v : p.Word) (f : Facts) → gained x (values_gains ((t, v) ∷ [])) f ≡ gained x (word_gains v) f
unfolding values_gains
one_value x t v f = both_gained x (word_gains v) no_gains f ∙ none_gained x (gained x (word_gains v) f)

pub value_gained-Assignment : (x : Setting) (f : Facts) (s : Span) (v : Word) → value_gained x f (element.Assignment s v) ≡ gained x (word_gains (parts_from x.script v.parts)) f
unfolding value_gained assignments_in
value_gained-Assignment x f s v =
    ap (λ e. gained x (values_gains (assignments_in e)) f) (rules.element_from-Assignment x.script s v p.no_elements)
    ∙ one_value x (text_of x.script s) (parts_from x.script v.parts) f

pub value_gained-Word : (x : Setting) (f : Facts) (v : Word) → value_gained x f (element.Word v) ≡ f
unfolding value_gained assignments_in values_gains
value_gained-Word x f v = ap (λ e. gained x (values_gains (assignments_in e)) f) (rules.element_from-Word x.script v p.no_elements) ∙ none_gained x f

pub value_gained-Redirection : (x : Setting) (f : Facts) (r : Redirect) → value_gained x f (element.Redirection r) ≡ f
unfolding value_gained assignments_in values_gains
value_gained-Redirection x f r = ap (λ e. gained x (values_gains (assignments_in e)) f) (rules.element_from-Redirection x.script r p.no_elements) ∙ none_gained x f

pub ruleset values = (value_gained-Assignment, value_gained-Word, value_gained-Redirection)

value_split : (x : Setting) (f : Facts) (e : Element) (rest : p.Elements)
    → gained x (values_gains (assignments_in (element_from x.script e rest))) f ≡ gained x (values_gains (assignments_in rest)) (value_gained x f e)
unfolding value_gained element_from assignments_in values_gains
value_split x f (Assignment' name s shape row) rest =
    both_gained x (word_gains (trees.word_of x.script row)) (values_gains (assignments_in rest)) f
    ∙ ap (gained x (values_gains (assignments_in rest))) (sym (one_value x (text_of x.script name) (trees.word_of x.script row) f))
value_split x f (Word' s shape row) rest = ap (gained x (values_gains (assignments_in rest))) (sym (none_gained x f))
value_split x f (Redirection' at number target) rest = ap (gained x (values_gains (assignments_in rest))) (sym (none_gained x f))

values_folded : (x : Setting) (f : Facts) (es : List Element) → gained x (values_gains (assignments_in (elements_from x.script es))) f ≡ fold (value_gained x) f es
unfolding elements_from assignments_in values_gains
values_folded x f [] = none_gained x f
values_folded x f (e ∷ es) = value_split x f e (elements_from x.script es) ∙ values_folded x (value_gained x f e) es

-- names

pub prefix_gained-Assignment : (x : Setting) (f : Facts) (s : Span) (v : Word) → prefix_gained x f (element.Assignment s v) ≡ gained x (named (text_of x.script s ∷ [])) f
unfolding prefix_gained assignments_in
prefix_gained-Assignment x f s v = ap (λ e. gained x (named (prefixes e)) f) (rules.element_from-Assignment x.script s v p.no_elements)

pub prefix_gained-Word : (x : Setting) (f : Facts) (v : Word) → prefix_gained x f (element.Word v) ≡ f
unfolding prefix_gained assignments_in
prefix_gained-Word x f v = ap (λ e. gained x (named (prefixes e)) f) (rules.element_from-Word x.script v p.no_elements) ∙ none_gained x f

pub prefix_gained-Redirection : (x : Setting) (f : Facts) (r : Redirect) → prefix_gained x f (element.Redirection r) ≡ f
unfolding prefix_gained assignments_in
prefix_gained-Redirection x f r = ap (λ e. gained x (named (prefixes e)) f) (rules.element_from-Redirection x.script r p.no_elements) ∙ none_gained x f

pub ruleset names = (prefix_gained-Assignment, prefix_gained-Word, prefix_gained-Redirection)

prefix_split : (x : Setting) (f : Facts) (e : Element) (rest : p.Elements)
    → gained x (named (prefixes (element_from x.script e rest))) f ≡ gained x (named (prefixes rest)) (prefix_gained x f e)
unfolding prefix_gained element_from assignments_in
prefix_split x f (Assignment' name s shape row) rest = both_gained x (named (text_of x.script name ∷ [])) (named (prefixes rest)) f
prefix_split x f (Word' s shape row) rest = ap (gained x (named (prefixes rest))) (sym (none_gained x f))
prefix_split x f (Redirection' at number target) rest = ap (gained x (named (prefixes rest))) (sym (none_gained x f))

pub names_folded : (x : Setting) (f : Facts) (es : List Element) → gained x (named (prefixes (elements_from x.script es))) f ≡ fold (prefix_gained x) f es
unfolding elements_from assignments_in
names_folded x f [] = none_gained x f
names_folded x f (e ∷ es) = prefix_split x f e (elements_from x.script es) ∙ names_folded x (prefix_gained x f e) es

-- redirections

one_target : (x : Setting) (r : p.Redirect) (f : Facts) → gained x (redirects_gains (p.more_redirects r p.no_redirects)) f ≡ gained x (redirect_gains r) f
unfolding redirects_gains
one_target x r f = both_gained x (redirect_gains r) no_gains f ∙ none_gained x (gained x (redirect_gains r) f)

pub target_gained-Assignment : (x : Setting) (f : Facts) (s : Span) (v : Word) → target_gained x f (element.Assignment s v) ≡ f
unfolding target_gained redirects_in redirects_gains
target_gained-Assignment x f s v = ap (λ e. gained x (redirects_gains (redirects_in e)) f) (rules.element_from-Assignment x.script s v p.no_elements) ∙ none_gained x f

pub target_gained-Word : (x : Setting) (f : Facts) (v : Word) → target_gained x f (element.Word v) ≡ f
unfolding target_gained redirects_in redirects_gains
target_gained-Word x f v = ap (λ e. gained x (redirects_gains (redirects_in e)) f) (rules.element_from-Word x.script v p.no_elements) ∙ none_gained x f

pub target_gained-Redirection : (x : Setting) (f : Facts) (r : Redirect) → target_gained x f (element.Redirection r) ≡ gained x (redirect_gains (trees.target_of x.script r.target)) f
unfolding target_gained redirects_in
target_gained-Redirection x f r =
    ap (λ e. gained x (redirects_gains (redirects_in e)) f) (rules.element_from-Redirection x.script r p.no_elements) ∙ one_target x (trees.target_of x.script r.target) f

pub ruleset targets = (target_gained-Assignment, target_gained-Word, target_gained-Redirection)

target_split : (x : Setting) (f : Facts) (e : Element) (rest : p.Elements)
    → gained x (redirects_gains (redirects_in (element_from x.script e rest))) f ≡ gained x (redirects_gains (redirects_in rest)) (target_gained x f e)
unfolding target_gained element_from redirects_in redirects_gains
target_split x f (Assignment' name s shape row) rest = ap (gained x (redirects_gains (redirects_in rest))) (sym (none_gained x f))
target_split x f (Word' s shape row) rest = ap (gained x (redirects_gains (redirects_in rest))) (sym (none_gained x f))
target_split x f (Redirection' at number target) rest =
    both_gained x (redirect_gains (trees.target_of x.script target)) (redirects_gains (redirects_in rest)) f
    ∙ ap (gained x (redirects_gains (redirects_in rest))) (sym (one_target x (trees.target_of x.script target) f))

targets_folded : (x : Setting) (f : Facts) (es : List Element) → gained x (redirects_gains (redirects_in (elements_from x.script es))) f ≡ fold (target_gained x) f es
unfolding elements_from redirects_in redirects_gains
targets_folded x f [] = none_gained x f
targets_folded x f (e ∷ es) = target_split x f e (elements_from x.script es) ∙ targets_folded x (target_gained x f e) es

-- assignments, and both

pub assignments_folded : (x : Setting) (f g h : Facts) (es : List Element) → g ≡ fold (value_gained x) f es → h ≡ fold (prefix_gained x) g es
    → h ≡ gained x (assignments_gains (elements_from x.script es)) f
assignments_folded x f g h es e d =
    let ps = elements_from x.script es in
    d ∙ sym (names_folded x g es) ∙ ap (gained x (named (prefixes ps))) (e ∙ sym (values_folded x f es))
    ∙ sym (both_gained x (values_gains (assignments_in ps)) (named (prefixes ps)) f)

pub all_folded : (x : Setting) (f g h : Facts) (es : List Element) → g ≡ gained x (assignments_gains (elements_from x.script es)) f → h ≡ fold (target_gained x) g es
    → h ≡ gained x (simple.left (elements_from x.script es)) f
all_folded x f g h es e d =
    let ps = elements_from x.script es in
    d ∙ sym (targets_folded x g es) ∙ ap (gained x (redirections_gains ps)) e ∙ sym (both_gained x (assignments_gains ps) (redirections_gains ps) f)

-- tests

redirect_split : (b : List ℕ) (e : Element) (rest : p.Elements) → is_redirected (redirects_in (element_from b e rest)) ≡ (redirects e || is_redirected (redirects_in rest))
unfolding element_from redirects_in redirects is_redirected
redirect_split b (Assignment' name s shape row) rest = refl
redirect_split b (Word' s shape row) rest = refl
redirect_split b (Redirection' at number target) rest = refl

pub redirected : (b : List ℕ) (es : List Element) → list_any redirects es ≡ is_redirected (redirects_in (elements_from b es))
unfolding elements_from redirects_in is_redirected
redirected b [] = refl
redirected b (e ∷ es) = ap (λ t. redirects e || t) (redirected b es) ∙ sym (redirect_split b e (elements_from b es))

assign_split : (b : List ℕ) (t : Text) (e : Element) (rest : p.Elements) → is_one_of (prefixes (element_from b e rest)) t ≡ (assigns b t e || is_one_of (prefixes rest) t)
unfolding element_from assignments_in assigns
assign_split b t (Assignment' name s shape row) rest = refl
assign_split b t (Word' s shape row) rest = refl
assign_split b t (Redirection' at number target) rest = refl

pub assigned : (b : List ℕ) (t : Text) (es : List Element) → list_any (assigns b t) es ≡ is_one_of (prefixes (elements_from b es)) t
unfolding elements_from assignments_in
assigned b t [] = refl
assigned b t (e ∷ es) = ap (λ r. assigns b t e || r) (assigned b t es) ∙ sym (assign_split b t e (elements_from b es))

-- sets

pub prefix_added-Assignment : (x : Setting) (t : Text) (b : Bool) (s : Span) (v : Word)
    → prefix_added x t b (element.Assignment s v) ≡ (is_one_of x.names t && (bytes_eq (text_of x.script s) t || b))
unfolding prefix_added
prefix_added-Assignment x t b s v = refl

pub prefix_added-Word : (x : Setting) (t : Text) (b : Bool) (v : Word) → prefix_added x t b (element.Word v) ≡ b
unfolding prefix_added
prefix_added-Word x t b v = refl

pub prefix_added-Redirection : (x : Setting) (t : Text) (b : Bool) (r : Redirect) → prefix_added x t b (element.Redirection r) ≡ b
unfolding prefix_added
prefix_added-Redirection x t b r = refl

pub ruleset added = (prefix_added-Assignment, prefix_added-Word, prefix_added-Redirection)

one_added : (x : Setting) (t : Text) (b : Bool) (e : Element) → is_one_of x.names t ≡ true → prefix_added x t b e ≡ (assigns x.script t e || b)
unfolding prefix_added assigns
one_added x t b (Assignment' name s shape row) h = ap (λ n. n && (bytes_eq (text_of x.script name) t || b)) h
one_added x t b (Word' s shape row) h = refl
one_added x t b (Redirection' at number target) h = refl

turned : (a r b : Bool) → (r || (a || b)) ≡ ((a || r) || b)
turned true true b = refl
turned true false b = refl
turned false r b = refl

all_told : (x : Setting) (t : Text) (es : List Element) (b : Bool) → is_one_of x.names t ≡ true
    → fold (prefix_added x t) b es ≡ (list_any (assigns x.script t) es || b)
all_told x t [] b h = refl
all_told x t (e ∷ es) b h =
    all_told x t es (prefix_added x t b e) h
    ∙ ap (λ n. list_any (assigns x.script t) es || n) (one_added x t b e h)
    ∙ turned (assigns x.script t e) (list_any (assigns x.script t) es) b

or_false : (b : Bool) → (b || false) ≡ b
or_false true = refl
or_false false = refl

pub all_added : (x : Setting) (t : Text) (es : List Element) (b : Bool) → b ≡ fold (prefix_added x t) false es → is_one_of x.names t ≡ true
    → b ≡ is_one_of (prefixes (elements_from x.script es)) t
all_added x t es b e h = e ∙ all_told x t es false h ∙ or_false (list_any (assigns x.script t) es) ∙ assigned x.script t es
