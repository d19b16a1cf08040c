-- What is known after a utility, piece by piece.
use Rattle.std.proofs.Common.{◌≡◌, ℕ, ◌<◌, ◌≤◌, ◌-◌, max, length, Bool, true, false, ◌&&◌, ◌||◌, if◌then◌else◌, cond, List, [], ◌∷◌, take, drop, get_or, filter, fold, map, codes, Option, Some, None, is_some, option_map, refl, sym, ap, ap₂, ◌∙◌, inl, inr, arith}
use Rattle.std.specs.List.{cons_option, list_all, filter_map}
use Rattle.std.proofs.lemmas.Bool.{and_parts, cases_Bool}
use Rattle.std.proofs.lemmas.List.{take_rest}
use Rattle.std.proofs.lemmas.Option.{same_Some}
use Rattle.sh_tree.specs.declared.tree.Element.{Element, Assignment', Word', Redirection'}
use Rattle.sh_tree.specs.declared.tree.Element.TheVariants as element
use Rattle.sh_tree.specs.declared.tree.Part.{Part, Plain, Escaped, Single, Double', Param', Arith', Tilde, Joined}
use Rattle.sh_tree.specs.declared.tree.Part.TheVariants as part
use Rattle.sh_tree.specs.declared.tree.Redirect.{Redirect}
use Rattle.sh_tree.specs.declared.tree.Span.{Span}
use Rattle.sh_tree.specs.declared.tree.Word.{Word}
use Rattle.sh_tree.specs.standard.Tree.{text_of}
use Rattle.sh_tree.specs.standard.language.Bytes.{is_name, name_length}
use Rattle.sh_tree.specs.standard.language.Commands.{is_assignment}
use Rattle.sh_tree.specs.Lists.{parts_from, element_from, elements_from}
use Rattle.sh_tree.specs.standard.program.Syntax as p
use Rattle.sh_tree.specs.standard.program.Syntax.{Text}
use Rattle.sh_tree.specs.standard.program.Trees as trees
use Rattle.sh_tree.specs.standard.program.Words.{assignment_in, operands_in, words_in}
use Rattle.sh_tree.proofs.ProgramRules as rules
use Rattle.sh_runs.specs.Profile.{Static}
use Rattle.sh_table.specs.WordTexts.{text_in}
use Rattle.sh_table.specs.declared.word_text.WordText.{WordText}
use Rattle.sh_runs.specs.standard.runs.Environment.{is_one_of}
use Rattle.sh_domain.specs.declared.number_set.NumberSet.{NumberSet}
use Rattle.sh_domain.specs.Facts.{Facts, NotReached, Known, meet}
use Rattle.sh_domain.specs.Gains.{Gains, named, with_gains}
use Rattle.sh_domain.specs.Knowledge.{contains}
use Rattle.sh_domain.specs.Operands.{Total, declared_names, total}
use Rattle.sh_domain.specs.Parameters.{with_parameters_of}
use Rattle.sh_domain.specs.Table.{operands}
use Rattle.sh_domain.specs.Views.{Count, Shift, step, where_known, counted_by}
use Rattle.sh_domain.proofs.KnowledgeLemmas.{numbered_only}
use Rattle.sh_gains.specs.Statics.{listed}
use Rattle.sh_table.specs.Numerals.{capped}
use Rattle.sh_operands.specs.Texts.{positional_at}
use Rattle.sh_rules.specs.Settings.{Setting, gained}
use Rattle.sh_rules.specs.Behind.{Behind, both, either}
use Rattle.sh_rules.specs.Elements.{declared_gained, front_name, declared_name, declared_by, is_word}
use Rattle.sh_rules.specs.Losses.{ArePrefixes, name_gained, if_wanted, texts_with, is_free, unless_prefixed, free_gained, free_names}
use Rattle.sh_rules.specs.SimpleBounds.{stepped, left}
use Rattle.sh_rules.specs.TextBounds.{behind_name, counted, words_set, set_by, shifted_by}
use Rattle.sh_runs.specs.ReadOptions.{read_operands}
use Rattle.sh_rules.specs.Texts.{names_behind, read_by, and_optind, positional_by}
use Rattle.sh_rules.proofs.GainLemmas.{none_gained, other_gained, both_gained}
use Rattle.sh_rules.proofs.OperandLemmas.{kept_fold, read_static, read_computed}

-- names one after the other

names_folded : (x : Setting) (ts : List Text) (f : Facts) → gained x (named ts) f ≡ fold (name_gained x) f ts
names_folded x [] f = none_gained x f
names_folded x (t ∷ ts) f = both_gained x (named (t ∷ [])) (named ts) f ∙ names_folded x ts (gained x (named (t ∷ [])) f)

pub filtered_fold : {K : Type 0} (q : Text → Bool) (g : K → Text → K) (k : K) (ts : List Text) → fold g k (filter q ts) ≡ fold (if_wanted q g) k ts
filtered_fold q g k [] = refl
filtered_fold q g k (t ∷ ts) = go (q t) (filtered_fold q g (g k t) ts) (filtered_fold q g k ts)
  where
    go : (b : Bool) → fold g (g k t) (filter q ts) ≡ fold (if_wanted q g) (g k t) ts → fold g k (filter q ts) ≡ fold (if_wanted q g) k ts
        → fold g k (cond b (t ∷ filter q ts) (filter q ts)) ≡ fold (if_wanted q g) (if b then g k t else k) ts
    go true y n = y
    go false y n = n

free_folded : (x : Setting) (es : p.Elements) (ts : List Text) (f : Facts) → free_names x es ts f ≡ fold (free_gained x es) f ts
unfolding free_gained
free_folded x es ts f = names_folded x (unless_prefixed es ts) f ∙ filtered_fold (is_free es) (name_gained x) f ts

-- one of them, if the prefix assignments' names are a set
pub free_passed : (x : Setting) (es : p.Elements) (s : NumberSet) (f : Facts) (t : Text) → ArePrefixes x es s → contains x.names s t ≡ true → f ≡ free_gained x es f t
unfolding free_gained
free_passed x es s f t h has =
    let only : contains x.names s t ≡ (is_one_of x.names t && contains x.names s t) = numbered_only x.names _ t in
    let numbered : is_one_of x.names t ≡ true = (and_parts (is_one_of x.names t) (contains x.names s t) (sym only ∙ has)).0 in
    rw (sym (h t numbered) ∙ has) refl

same_if : (b : Bool) (f g : Facts) → g ≡ f → f ≡ (if b then g else f)
same_if true f g e = sym e
same_if false f g e = refl

pub free_taken : (x : Setting) (es : p.Elements) (s : NumberSet) (f g : Facts) (t : Text) → ArePrefixes x es s → contains x.names s t ≡ false
    → g ≡ gained x (named (t ∷ [])) f → g ≡ free_gained x es f t
unfolding free_gained
free_taken x es s f g t h has e = elim (cases_Bool (is_one_of x.names t)) [
  | inl n ↦ e ∙ rw (sym (h t n) ∙ has) refl
  | inr n ↦ e ∙ other_gained x t f n ∙ same_if (is_free es t) f (name_gained x f t) (other_gained x t f n)
]

-- `read`

pub some_read : (x : Setting) (es : p.Elements) (f g : Facts) (ws : List WordText) (r : Option (List Static)) → Some (map (text_in x.script) ws) ≡ r
    → g ≡ fold (texts_with x (free_gained x es)) f ws → g ≡ free_names x es (names_behind r) f
unfolding names_behind
some_read x es f g ws r h e =
    e ∙ sym (free_folded x es (filter is_name (listed (map (text_in x.script) ws))) f ∙ kept_fold x (free_gained x es) f ws)
    ∙ ap (λ o. free_names x es (names_behind o) f) h

pub none_read : (x : Setting) (es : p.Elements) (f : Facts) (r : Option (List Static)) → None ≡ r → f ≡ free_names x es (names_behind r) f
unfolding names_behind
none_read x es f r h = sym (none_gained x f) ∙ ap (λ o. free_names x es (names_behind o) f) h

pub ruleset reads = (some_read, none_read)

pub static_read : (x : Setting) (es : p.Elements) (f g : Facts) (ts : List Static) → list_all is_some ts ≡ true
    → g ≡ free_names x es (names_behind (read_operands false ts)) f → g ≡ free_names x es (read_by ts) f
static_read x es f g ts h e = e ∙ ap (λ ns. free_names x es ns f) (sym (read_static ts h))

pub computed_read : (x : Setting) (es : p.Elements) (f : Facts) (ts : List Static) → list_all is_some ts ≡ false → f ≡ free_names x es (read_by ts) f
computed_read x es f ts h = sym (none_gained x f) ∙ ap (λ ns. free_names x es ns f) (sym (read_computed ts h))

pub ruleset all_read = (static_read, computed_read)

-- `getopts`

pub some_option : (x : Setting) (es : p.Elements) (f g h : Facts) (t : Text) (o : Option Text) → Some t ≡ o → g ≡ free_gained x es f t → h ≡ free_gained x es g (codes "OPTIND")
    → h ≡ free_names x es (and_optind o) f
unfolding and_optind
some_option x es f g h t o e a b =
    b ∙ ap (λ k. free_gained x es k (codes "OPTIND")) a ∙ sym (free_folded x es (t ∷ codes "OPTIND" ∷ []) f) ∙ ap (λ n. free_names x es (and_optind n) f) e

pub no_option : (x : Setting) (es : p.Elements) (f : Facts) (o : Option Text) → None ≡ o → f ≡ free_names x es (and_optind o) f
unfolding and_optind
no_option x es f o e = sym (none_gained x f) ∙ ap (λ n. free_names x es (and_optind n) f) e

pub ruleset options_set = (some_option, no_option)

-- declaration utilities

abbrev assigned : p.Word → List Text
assigned w = declared_names (w ∷ [])

front_declared : (x : Setting) (f : Facts) (t : Text) (w : p.Word) → gained x (named (assigned (p.more_parts (p.Plain t) w))) f ≡ declared_by x (front_name t) f
unfolding assignment_in declared_by front_name
front_declared x f t w = go (is_assignment t) refl
  where
    go : (b : Bool) → is_assignment t ≡ b → gained x (named (assigned (p.more_parts (p.Plain t) w))) f ≡ declared_by x (if b then Some (take (name_length t) t) else None) f
    go true e = rw e refl
    go false e = rw e (none_gained x f)

word_declared : (x : Setting) (f : Facts) (ps : List Part) → gained x (named (assigned (parts_from x.script ps))) f ≡ declared_by x (declared_name x.script ps) f
unfolding parts_from trees.part_of assignment_in declared_by declared_name
word_declared x f [] = none_gained x f
word_declared x f (Plain s ∷ ps) = front_declared x f (text_of x.script s) (parts_from x.script ps)
word_declared x f (Escaped s ∷ ps) = none_gained x f
word_declared x f (Single style s ∷ ps) = none_gained x f
word_declared x f (Double' s shape row ∷ ps) = none_gained x f
word_declared x f (Param' s subject operator ∷ ps) = none_gained x f
word_declared x f (Arith' s shape row ∷ ps) = none_gained x f
word_declared x f (part.Command style s t ∷ ps) = none_gained x f
word_declared x f (Tilde s ∷ ps) = none_gained x f
word_declared x f (Joined s ∷ ps) = none_gained x f

pub declared_gained-Assignment : (x : Setting) (f : Facts) (s : Span) (v : Word) → declared_gained x f (element.Assignment s v) ≡ f
unfolding declared_gained operands_in words_in
declared_gained-Assignment x f s v = ap (λ e. gained x (named (declared_names (operands e))) f) (rules.element_from-Assignment x.script s v p.no_elements) ∙ none_gained x f

pub declared_gained-Word : (x : Setting) (f : Facts) (v : Word) → declared_gained x f (element.Word v) ≡ declared_by x (declared_name x.script v.parts) f
unfolding declared_gained operands_in words_in
declared_gained-Word x f v = ap (λ e. gained x (named (declared_names (operands e))) f) (rules.element_from-Word x.script v p.no_elements) ∙ word_declared x f v.parts

pub declared_gained-Redirection : (x : Setting) (f : Facts) (r : Redirect) → declared_gained x f (element.Redirection r) ≡ f
unfolding declared_gained operands_in words_in
declared_gained-Redirection x f r = ap (λ e. gained x (named (declared_names (operands e))) f) (rules.element_from-Redirection x.script r p.no_elements) ∙ none_gained x f

pub ruleset declaring = (declared_gained-Assignment, declared_gained-Word, declared_gained-Redirection)

one_declared : (x : Setting) (f : Facts) (w : p.Word) (ws : List p.Word)
    → gained x (named (declared_names (w ∷ ws))) f ≡ gained x (named (declared_names ws)) (gained x (named (assigned w)) f)
one_declared x f w ws = go (assignment_in w)
  where
    go : (a : Option (Text × p.Word))
        → gained x (named (map (λ (y : Text × p.Word). y.0) (cons_option a (filter_map assignment_in ws)))) f
        ≡ gained x (named (declared_names ws)) (gained x (named (map (λ (y : Text × p.Word). y.0) (cons_option a []))) f)
    go None = ap (gained x (named (declared_names ws))) (sym (none_gained x f))
    go (Some y) = both_gained x (named (y.0 ∷ [])) (named (declared_names ws)) f

declared_split : (x : Setting) (f : Facts) (e : Element) (rest : p.Elements)
    → gained x (named (declared_names (operands (element_from x.script e rest)))) f ≡ gained x (named (declared_names (operands rest))) (declared_gained x f e)
unfolding declared_gained element_from operands_in words_in
declared_split x f (Assignment' name s shape row) rest = ap (gained x (named (declared_names (operands rest)))) (sym (none_gained x f))
declared_split x f (Word' s shape row) rest = one_declared x f (trees.word_of x.script row) (operands rest)
declared_split x f (Redirection' at number target) rest = ap (gained x (named (declared_names (operands rest)))) (sym (none_gained x f))

declared_folded : (x : Setting) (f : Facts) (es : List Element) → gained x (named (declared_names (operands (elements_from x.script es)))) f ≡ fold (declared_gained x) f es
unfolding elements_from operands_in words_in
declared_folded x f [] = none_gained x f
declared_folded x f (e ∷ es) = declared_split x f e (elements_from x.script es) ∙ declared_folded x (declared_gained x f e) es

pub all_declared : (x : Setting) (f g : Facts) (es ds : List Element) → ((b : List ℕ) → operands (elements_from b ds) ≡ behind_name (elements_from b es))
    → g ≡ fold (declared_gained x) f ds → g ≡ gained x (named (declared_names (behind_name (elements_from x.script es)))) f
all_declared x f g es ds h e = e ∙ sym (declared_folded x f ds) ∙ ap (λ ws. gained x (named (declared_names ws)) f) (h x.script)

-- after the name

first_passed : (b : List ℕ) (e : Element) (rest : p.Elements) → is_word e ≡ false → behind_name (element_from b e rest) ≡ behind_name rest
unfolding element_from operands_in words_in is_word
first_passed b (Assignment' name s shape row) rest h = refl
first_passed b (Word' s shape row) rest h = cc
first_passed b (Redirection' at number target) rest h = refl

first_named : (b : List ℕ) (e : Element) (rest : p.Elements) → is_word e ≡ true → behind_name (element_from b e rest) ≡ operands rest
unfolding element_from operands_in words_in is_word
first_named b (Assignment' name s shape row) rest h = cc
first_named b (Word' s shape row) rest h = refl
first_named b (Redirection' at number target) rest h = cc

pub passed : (b : List ℕ) (es : List Element) (e : Element) → 1 ≤ length es → e ≡ get_or es 0 e → is_word e ≡ false
    → behind_name (elements_from b (take (length es - 1) (drop 1 es))) ≡ behind_name (elements_from b es)
unfolding elements_from
passed b [] e l h w = absurd (omega arith)
passed b (d ∷ ds) e l h w = ap (λ xs. behind_name (elements_from b xs)) (take_rest (d ∷ ds) 1) ∙ sym (first_passed b d (elements_from b ds) (ap is_word (sym h) ∙ w))

pub named_first : (b : List ℕ) (es : List Element) (e : Element) → 1 ≤ length es → e ≡ get_or es 0 e → is_word e ≡ true
    → operands (elements_from b (take (length es - 1) (drop 1 es))) ≡ behind_name (elements_from b es)
unfolding elements_from
named_first b [] e l h w = absurd (omega arith)
named_first b (d ∷ ds) e l h w = ap (λ xs. operands (elements_from b xs)) (take_rest (d ∷ ds) 1) ∙ sym (first_named b d (elements_from b ds) (ap is_word (sym h) ∙ w))

pub none_named : (b : List ℕ) (es : List Element) → length es < 1 → operands (elements_from b es) ≡ behind_name (elements_from b es)
unfolding elements_from operands_in words_in
none_named b [] l = refl
none_named b (d ∷ ds) l = absurd (omega arith)

pub ruleset name_passed = (passed, named_first, none_named)

-- `set` and `shift`

no_less : (n : ℕ) → n ≡ max n 0
no_less n = omega arith

with_names : (x : Setting) (g : Gains) (k : Facts) (n : Total) → with_parameters_of (gained x g k) (stepped x (Count n) k) ≡ gained x (named g.names) (stepped x (Count n) k)
unfolding with_parameters_of gained with_gains stepped step where_known
with_names x g NotReached n = refl
with_names x g (Known v f a) n = ap (Known (λ t. is_one_of (filter (is_one_of x.names) g.names) t || v t) f) (no_less (counted_by n a))

pub words_taken : (x : Setting) (k c z s : Facts) (es ds : List Element) (n : ℕ)
    → ((b : List ℕ) → operands (elements_from b ds) ≡ behind_name (elements_from b es))
    → c ≡ stepped x (Count (total (drop n (operands (elements_from x.script ds))))) k
    → s ≡ gained x (left (elements_from x.script es)) k
    → z ≡ with_parameters_of s c
    → either z (meet z s) ≡ words_set x k (elements_from x.script es) (drop n (behind_name (elements_from x.script es)))
unfolding words_set
words_taken x k c z s es ds n h a b d =
    let qs = elements_from x.script es in
    let ws = drop n (behind_name qs) in
    let c' : c ≡ stepped x (Count (total ws)) k = a ∙ ap (λ vs. stepped x (Count (total (drop n vs))) k) (h x.script) in
    let z' : z ≡ counted x k qs ws = d ∙ ap₂ with_parameters_of b c' ∙ with_names x (left qs) k (total ws) in
    ap₂ (λ u v. either u (meet u v)) z' b

pub set_none : (x : Setting) (k : Facts) (ts : List Static) (es : p.Elements) (s : Facts) → None ≡ positional_at false ts → s ≡ gained x (left es) k
    → both s ≡ set_by x k es (positional_by ts (behind_name es))
unfolding set_by positional_by
set_none x k ts es s h e = ap both e ∙ ap (λ (o : Option ℕ). set_by x k es (option_map (λ i. drop i (behind_name es)) o)) h

pub set_some : (x : Setting) (k : Facts) (ts : List Static) (es : p.Elements) (n : ℕ) (o : Behind) → Some n ≡ positional_at false ts
    → o ≡ words_set x k es (drop n (behind_name es)) → o ≡ set_by x k es (positional_by ts (behind_name es))
unfolding set_by positional_by
set_some x k ts es n o h e = e ∙ ap (λ (m : Option ℕ). set_by x k es (option_map (λ i. drop i (behind_name es)) m)) h

pub ruleset sets = (set_none, set_some)

pub shift_none : (x : Setting) (n : Option ℕ) (f g : Facts) → None ≡ option_map capped n → g ≡ stepped x (Count (total [])) f → g ≡ shifted_by x n f
unfolding shifted_by
shift_none x None f g h e = e
shift_none x (Some n) f g h e = cc

pub shift_some : (x : Setting) (m : ℕ) (n : Option ℕ) (f g : Facts) → Some m ≡ option_map capped n
    → ((k : ℕ) → m ≡ capped k → g ≡ stepped x (Shift k) f) → g ≡ shifted_by x n f
unfolding shifted_by
shift_some x m None f g h e = cc
shift_some x m (Some n) f g h e = e n (same_Some _ _ h)

pub ruleset shifts = (shift_none, shift_some)
