-- How many fields a piece of a tree gives, by the pieces one level below it.
use Rattle.std.proofs.Common.{◌≡◌, ◌≢◌, ℕ, zero, suc, ◌+◌, ◌-◌, ◌==◌, length, Bool, true, false, not, ◌&&◌, ◌||◌, if◌then◌else◌, List, [], ◌∷◌, drop, fold, refl, sym, ap, ap₂, ◌∙◌, arith}
use Rattle.std.specs.List.{list_any}
use Rattle.sh_tree.specs.declared.tree.Action.{Action}
use Rattle.sh_tree.specs.declared.tree.Action.TheVariants as action
use Rattle.sh_tree.specs.declared.tree.CommandStyle.{CommandStyle}
use Rattle.sh_tree.specs.declared.tree.Element.{Element, Assignment', Word', Redirection'}
use Rattle.sh_tree.specs.declared.tree.Element.TheVariants as element
use Rattle.sh_tree.specs.declared.tree.Expr.{Expr}
use Rattle.sh_tree.specs.declared.tree.ParameterOperator.{Value, Length, Use', Remove'}
use Rattle.sh_tree.specs.declared.tree.ParameterOperator.TheVariants as operator
use Rattle.sh_tree.specs.declared.tree.Param.{Param}
use Rattle.sh_tree.specs.declared.tree.Part.{Part, Plain, Escaped, Single, Double', Param', Arith', Tilde, Joined}
use Rattle.sh_tree.specs.declared.tree.Part.TheVariants as part
use Rattle.sh_tree.specs.declared.tree.Redirect.{Redirect}
use Rattle.sh_tree.specs.declared.tree.Removal.{Removal}
use Rattle.sh_tree.specs.declared.tree.Script.{Script}
use Rattle.sh_tree.specs.declared.tree.SingleStyle.{SingleStyle}
use Rattle.sh_tree.specs.declared.tree.Span.{Span}
use Rattle.sh_tree.specs.declared.tree.Special.TheVariants as special
use Rattle.sh_tree.specs.declared.tree.Subject.TheVariants as subject
use Rattle.sh_tree.specs.declared.tree.Word.{Word}
use Rattle.sh_tree.specs.standard.Tree.{text_of}
use Rattle.sh_tree.specs.Lists.{parts_from, element_from, elements_from}
use Rattle.sh_tree.specs.standard.program.Syntax as p
use Rattle.sh_tree.specs.standard.program.Trees as trees
use Rattle.sh_tree.specs.standard.program.Words.{words_in, operands_in}
use Rattle.sh_tree.proofs.ProgramRules as rules
use Rattle.sh_runs.specs.Counts.{Parameters, One, Nothing, count_of, is_parameters, word_has_all, gives_field, some_gives_field}
use Rattle.sh_table.specs.WordTexts.{lone_part}
use Rattle.sh_operands.specs.declared.counts.Total.{Total}
use Rattle.sh_table.specs.Numerals.{capped}
use Rattle.sh_operands.specs.Looks.{special_is_all, subject_is_all}
use Rattle.sh_operands.specs.Fields.{action_gives, use_gives, operator_gives, part_gives, is_value, is_at, are_at, expands_all, are_all, quotes_all, quotes_at, are_quoted, is_field, no_fields, counted, counted_word, Counting, counting, skipping, word_counted, element_counted}

-- parts that give a field

pub operator_gives-Use : (b : List ℕ) (a : Action) (colon : Bool) (w : Word) → operator_gives b (operator.Use a colon w) ≡ action_gives a
unfolding operator_gives use_gives
operator_gives-Use b a colon w = ap use_gives (rules.operator_of-Use b a colon w)

pub operator_gives-Remove : (b : List ℕ) (r : Removal) (w : Word) → operator_gives b (operator.Remove r w) ≡ true
unfolding operator_gives use_gives
operator_gives-Remove b r w = ap use_gives (rules.operator_of-Remove b r w)

pub operator_gives-Value : (b : List ℕ) → operator_gives b operator.Value ≡ true
unfolding operator_gives use_gives
operator_gives-Value b = ap use_gives (rules.operator_of-Value b)

pub operator_gives-Length : (b : List ℕ) → operator_gives b operator.Length ≡ true
unfolding operator_gives use_gives
operator_gives-Length b = ap use_gives (rules.operator_of-Length b)

pub ruleset giving_operators = (operator_gives-Use, operator_gives-Remove, operator_gives-Value, operator_gives-Length)

expansion_gives : (at : ℕ) (q : p.Parameter) (o : p.Operator) → gives_field (p.Expansion at q o) ≡ use_gives o
unfolding gives_field use_gives action_gives
expansion_gives at q (p.Use action.Default colon w) = refl
expansion_gives at q (p.Use action.Assign colon w) = refl
expansion_gives at q (p.Use action.Fault colon w) = refl
expansion_gives at q (p.Use action.Alternative colon w) = refl
expansion_gives at q (p.Remove r w) = refl
expansion_gives at q p.Value = refl
expansion_gives at q p.Length = refl

pub part_gives-Plain : (b : List ℕ) (s : Span) → part_gives b (part.Plain s) ≡ not (length (text_of b s) == 0)
unfolding part_gives gives_field
part_gives-Plain b s = ap gives_field (rules.part_of-Plain b s)

pub part_gives-Param : (b : List ℕ) (x : Param) → part_gives b (part.Param x) ≡ operator_gives b x.operator
unfolding part_gives operator_gives
part_gives-Param b x = ap gives_field (rules.part_of-Param b x) ∙ expansion_gives x.span.start (trees.parameter_of b x.subject) (trees.operator_of b x.operator)

pub part_gives-Joined : (b : List ℕ) (s : Span) → part_gives b (part.Joined s) ≡ false
unfolding part_gives gives_field
part_gives-Joined b s = ap gives_field (rules.part_of-Joined b s)

pub part_gives-Double : (b : List ℕ) (s : Span) (ps : List Part) → part_gives b (part.Double s ps) ≡ true
unfolding part_gives gives_field
part_gives-Double b s ps = ap gives_field (rules.part_of-Double b s ps)

pub part_gives-Arith : (b : List ℕ) (s : Span) (e : Expr) → part_gives b (part.Arith s e) ≡ true
unfolding part_gives gives_field
part_gives-Arith b s e = ap gives_field (rules.part_of-Arith b s e)

pub part_gives-Escaped : (b : List ℕ) (s : Span) → part_gives b (part.Escaped s) ≡ true
unfolding part_gives gives_field
part_gives-Escaped b s = ap gives_field (rules.part_of-Escaped b s)

pub part_gives-Single : (b : List ℕ) (style : SingleStyle) (s : Span) → part_gives b (part.Single style s) ≡ true
unfolding part_gives gives_field
part_gives-Single b style s = ap gives_field (rules.part_of-Single b style s)

pub part_gives-Command : (b : List ℕ) (style : CommandStyle) (s : Span) (t : Script) → part_gives b (part.Command style s t) ≡ true
unfolding part_gives gives_field
part_gives-Command b style s t = ap gives_field (rules.part_of-Command b style s t)

pub part_gives-Tilde : (b : List ℕ) (s : Span) → part_gives b (part.Tilde s) ≡ true
unfolding part_gives gives_field
part_gives-Tilde b s = ap gives_field (rules.part_of-Tilde b s)

pub ruleset giving_parts = (part_gives-Plain, part_gives-Param, part_gives-Joined, part_gives-Double, part_gives-Arith, part_gives-Escaped, part_gives-Single, part_gives-Command, part_gives-Tilde)

parts_giving : (b : List ℕ) (ps : List Part) → some_gives_field (parts_from b ps) ≡ list_any (part_gives b) ps
unfolding some_gives_field parts_from part_gives
parts_giving b [] = refl
parts_giving b (x ∷ xs) = ap (λ t. gives_field (trees.part_of b x) || t) (parts_giving b xs)

pub some_listed : (b : List ℕ) (w : Word) → some_gives_field (parts_from b w.parts) ≡ list_any (part_gives b) w.parts
some_listed b w = parts_giving b w.parts

-- `"$@"` alone

expanded : (b : List ℕ) (x : Part) → expands_all (trees.part_of b x) ≡ is_at x
unfolding expands_all trees.part_of trees.parameter_of is_at is_value subject_is_all special_is_all
expanded b (Plain s) = refl
expanded b (Escaped s) = refl
expanded b (Single style s) = refl
expanded b (Double' s shape row) = refl
expanded b (Arith' s shape row) = refl
expanded b (part.Command style s t) = refl
expanded b (Tilde s) = refl
expanded b (Joined s) = refl
expanded b (Param' s (subject.Name n) o) = refl
expanded b (Param' s (subject.Positional n m) o) = refl
expanded b (Param' s (subject.Special special.At m) Value) = refl
expanded b (Param' s (subject.Special special.At m) Length) = refl
expanded b (Param' s (subject.Special special.At m) (Use' a colon at shape row)) = refl
expanded b (Param' s (subject.Special special.At m) (Remove' r at shape row)) = refl
expanded b (Param' s (subject.Special special.Asterisk m) o) = refl
expanded b (Param' s (subject.Special special.NumberSign m) o) = refl
expanded b (Param' s (subject.Special special.QuestionMark m) o) = refl
expanded b (Param' s (subject.Special special.Hyphen m) o) = refl
expanded b (Param' s (subject.Special special.Dollar m) o) = refl
expanded b (Param' s (subject.Special special.Exclamation m) o) = refl
expanded b (Param' s (subject.Special special.Zero m) o) = refl

one_all : (x : p.Part) → are_all (p.more_parts x p.no_parts) ≡ expands_all x
unfolding are_all expands_all
one_all (p.Expansion at (p.Special special.At) p.Value) = refl
one_all _ = refl

two_all : (x y : p.Part) (w : p.Word) → are_all (p.more_parts x (p.more_parts y w)) ≡ false
unfolding are_all
two_all (p.Expansion at (p.Special special.At) p.Value) y w = refl
two_all _ y w = refl

between : (b : List ℕ) (ps : List Part) → are_all (parts_from b ps) ≡ are_at (lone_part ps)
unfolding are_all parts_from are_at lone_part
between b [] = refl
between b (x ∷ []) = one_all (trees.part_of b x) ∙ expanded b x
between b (x ∷ y ∷ ys) = two_all (trees.part_of b x) (trees.part_of b y) (parts_from b ys)

double_all : (w : p.Word) → quotes_all (p.Double w) ≡ are_all w
unfolding quotes_all are_all
double_all (p.more_parts (p.Expansion at (p.Special special.At) p.Value) p.no_parts) = refl
double_all _ = refl

pub quotes_at-Double : (b : List ℕ) (s : Span) (ps : List Part) → quotes_at b (part.Double s ps) ≡ are_at (lone_part ps)
unfolding quotes_at
quotes_at-Double b s ps = ap quotes_all (rules.part_of-Double b s ps) ∙ double_all (parts_from b ps) ∙ between b ps

pub quotes_at-Param : (b : List ℕ) (x : Param) → quotes_at b (part.Param x) ≡ false
unfolding quotes_at quotes_all
quotes_at-Param b x = ap quotes_all (rules.part_of-Param b x)

pub quotes_at-Arith : (b : List ℕ) (s : Span) (e : Expr) → quotes_at b (part.Arith s e) ≡ false
unfolding quotes_at quotes_all
quotes_at-Arith b s e = ap quotes_all (rules.part_of-Arith b s e)

pub quotes_at-Plain : (b : List ℕ) (s : Span) → quotes_at b (part.Plain s) ≡ false
unfolding quotes_at quotes_all
quotes_at-Plain b s = ap quotes_all (rules.part_of-Plain b s)

pub quotes_at-Escaped : (b : List ℕ) (s : Span) → quotes_at b (part.Escaped s) ≡ false
unfolding quotes_at quotes_all
quotes_at-Escaped b s = ap quotes_all (rules.part_of-Escaped b s)

pub quotes_at-Single : (b : List ℕ) (style : SingleStyle) (s : Span) → quotes_at b (part.Single style s) ≡ false
unfolding quotes_at quotes_all
quotes_at-Single b style s = ap quotes_all (rules.part_of-Single b style s)

pub quotes_at-Command : (b : List ℕ) (style : CommandStyle) (s : Span) (t : Script) → quotes_at b (part.Command style s t) ≡ false
unfolding quotes_at quotes_all
quotes_at-Command b style s t = ap quotes_all (rules.part_of-Command b style s t)

pub quotes_at-Tilde : (b : List ℕ) (s : Span) → quotes_at b (part.Tilde s) ≡ false
unfolding quotes_at quotes_all
quotes_at-Tilde b s = ap quotes_all (rules.part_of-Tilde b s)

pub quotes_at-Joined : (b : List ℕ) (s : Span) → quotes_at b (part.Joined s) ≡ false
unfolding quotes_at quotes_all
quotes_at-Joined b s = ap quotes_all (rules.part_of-Joined b s)

pub ruleset quoting = (quotes_at-Double, quotes_at-Param, quotes_at-Arith, quotes_at-Plain, quotes_at-Escaped, quotes_at-Single, quotes_at-Command, quotes_at-Tilde, quotes_at-Joined)

one_quoted : (x : p.Part) → is_parameters (p.more_parts x p.no_parts) ≡ quotes_all x
unfolding is_parameters quotes_all
one_quoted (p.Double (p.more_parts (p.Expansion at (p.Special special.At) p.Value) p.no_parts)) = refl
one_quoted _ = refl

two_quoted : (x y : p.Part) (w : p.Word) → is_parameters (p.more_parts x (p.more_parts y w)) ≡ false
unfolding is_parameters
two_quoted (p.Double (p.more_parts (p.Expansion at (p.Special special.At) p.Value) p.no_parts)) y w = refl
two_quoted _ y w = refl

parts_quoted : (b : List ℕ) (ps : List Part) → is_parameters (parts_from b ps) ≡ are_quoted b (lone_part ps)
unfolding is_parameters parts_from are_quoted lone_part quotes_at
parts_quoted b [] = refl
parts_quoted b (x ∷ []) = one_quoted (trees.part_of b x)
parts_quoted b (x ∷ y ∷ ys) = two_quoted (trees.part_of b x) (trees.part_of b y) (parts_from b ys)

pub parameters_listed : (b : List ℕ) (w : Word) → is_parameters (parts_from b w.parts) ≡ are_quoted b (lone_part w.parts)
parameters_listed b w = parts_quoted b w.parts

-- words

one_counted : (w : p.Word) (t : Total) → counted t (count_of w) ≡ (if is_parameters w then counted t Parameters else (if is_field w then counted t One else t))
unfolding count_of counted
one_counted w t = go (is_parameters w) (word_has_all false w) (some_gives_field w)
  where
    go : (p h g : Bool) → counted t (if p then Parameters else (if h || not g then Nothing else One)) ≡ (if p then counted t Parameters else (if not h && g then counted t One else t))
    go true h g = refl
    go false true g = refl
    go false false true = refl
    go false false false = refl

abbrev total : ℕ → ℕ → Total
total n m = record { ones = n; parameters = m }

pub more_parameters : (w : p.Word) (t : Total) (n : ℕ) → is_parameters w ≡ true → n ≡ capped (t.parameters + 1) → total t.ones n ≡ counted t (count_of w)
unfolding counted
more_parameters w t n h e = ap (total t.ones) e ∙ ap (λ b. if b then counted t Parameters else (if is_field w then counted t One else t)) (sym h) ∙ sym (one_counted w t)

pub more_fields : (w : p.Word) (t : Total) (n : ℕ) → is_parameters w ≡ false → is_field w ≡ true → n ≡ capped (t.ones + 1) → total n t.parameters ≡ counted t (count_of w)
unfolding counted
more_fields w t n h f e =
    ap (λ m. total m t.parameters) e ∙ ap₂ (λ b c. if b then counted t Parameters else (if c then counted t One else t)) (sym h) (sym f) ∙ sym (one_counted w t)

pub no_more : (w : p.Word) (t : Total) → is_parameters w ≡ false → is_field w ≡ false → t ≡ counted t (count_of w)
no_more w t h f = ap₂ (λ b c. if b then counted t Parameters else (if c then counted t One else t)) (sym h) (sym f) ∙ sym (one_counted w t)

pub ruleset one_more = (more_parameters, more_fields, no_more)

pub word_counted-none : (s : Counting) (w : p.Word) → s.skipped ≡ 0 → word_counted s w ≡ counting 0 (counted_word s.total w)
unfolding word_counted skipping
word_counted-none s w h = ap (λ k. skipping k s.total w) h

pub word_counted-some : (s : Counting) (w : p.Word) → s.skipped ≢ 0 → word_counted s w ≡ counting (s.skipped - 1) s.total
unfolding word_counted skipping
word_counted-some s w h = go s.skipped h
  where
    go : (k : ℕ) → k ≢ 0 → skipping k s.total w ≡ counting (k - 1) s.total
    go zero h = absurd (h refl)
    go (suc k) h = let e : k ≡ suc k - 1 = omega arith in ap (λ j. counting j s.total) e

pub ruleset words = (word_counted-none, word_counted-some)

pub element_counted-Assignment : (b : List ℕ) (s : Counting) (name : Span) (w : Word) → element_counted b s (element.Assignment name w) ≡ s
unfolding element_counted operands_in words_in
element_counted-Assignment b s name w = ap (λ e. fold word_counted s (words_in (operands_in e))) (rules.element_from-Assignment b name w p.no_elements)

pub element_counted-Word : (b : List ℕ) (s : Counting) (w : Word) → element_counted b s (element.Word w) ≡ word_counted s (parts_from b w.parts)
unfolding element_counted operands_in words_in
element_counted-Word b s w = ap (λ e. fold word_counted s (words_in (operands_in e))) (rules.element_from-Word b w p.no_elements)

pub element_counted-Redirection : (b : List ℕ) (s : Counting) (r : Redirect) → element_counted b s (element.Redirection r) ≡ s
unfolding element_counted operands_in words_in
element_counted-Redirection b s r = ap (λ e. fold word_counted s (words_in (operands_in e))) (rules.element_from-Redirection b r p.no_elements)

pub ruleset elements = (element_counted-Assignment, element_counted-Word, element_counted-Redirection)

element_split : (b : List ℕ) (s : Counting) (e : Element) (rest : p.Elements)
    → fold word_counted s (words_in (operands_in (element_from b e rest))) ≡ fold word_counted (element_counted b s e) (words_in (operands_in rest))
unfolding element_counted element_from operands_in words_in
element_split b s (Assignment' name at shape row) rest = refl
element_split b s (Word' at shape row) rest = refl
element_split b s (Redirection' at number target) rest = refl

elements_folded : (b : List ℕ) (s : Counting) (es : List Element) → fold word_counted s (words_in (operands_in (elements_from b es))) ≡ fold (element_counted b) s es
unfolding elements_from operands_in words_in
elements_folded b s [] = refl
elements_folded b s (e ∷ es) = element_split b s e (elements_from b es) ∙ elements_folded b (element_counted b s e) es

words_counted : (k : ℕ) (t : Total) (ws : List p.Word) → (fold word_counted (counting k t) ws).total ≡ fold counted_word t (drop k ws)
unfolding word_counted skipping
words_counted zero t [] = refl
words_counted (suc k) t [] = refl
words_counted zero t (w ∷ ws) = words_counted zero (counted_word t w) ws
words_counted (suc k) t (w ∷ ws) = words_counted k t ws

pub elements_counted : (b : List ℕ) (k : ℕ) (es : List Element)
    → (fold (element_counted b) (counting k no_fields) es).total ≡ fold counted_word no_fields (drop k (words_in (operands_in (elements_from b es))))
elements_counted b k es = ap (λ (s : Counting). s.total) (sym (elements_folded b (counting k no_fields) es)) ∙ words_counted k no_fields (words_in (operands_in (elements_from b es)))
