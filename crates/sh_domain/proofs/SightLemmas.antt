-- The names in a piece of a tree, by the pieces one level below it.
use Rattle.std.proofs.Common.{◌≡◌, ℕ, ◌<◌, ◌≤◌, ◌-◌, Bool, true, false, nat_lt, if◌then◌else◌, length, take, drop, get_or, Option, Some, None, List, [], ◌∷◌, ◌++◌, refl, sym, ap, ◌∙◌, Result, Ok, Err, OnOk, IfOk, append_assoc, map, Bor, Vec, Global, subst, arith}
use Rattle.std.specs.List.Sorted.{IsPermutation, IsNonDecreasingBy}
use Rattle.std.proofs.lemmas.List.Sorted.{IsPermutation-map, IsNonDecreasingBy-short, IsNonDecreasingBy-from_default}
use Rattle.sh_tree.specs.Commands.{commands_of}
use Rattle.sh_domain.specs.declared.sights.Seen.{Seen}
use Rattle.sh_domain.specs.Names.{IsInTextOrder}
use Rattle.std.specs.List.{flat_map, cons_option}
use Rattle.std.proofs.lemmas.List.{append-nil, length-map, take_all}
use Rattle.std.proofs.Math.ListN.{get_or-map}
use Rattle.std.proofs.lemmas.List.Folds.{flat_map-map}
use Rattle.sh_tree.specs.declared.tree.Binary.{Binary}
use Rattle.sh_tree.specs.declared.tree.Span.{Span}
use Rattle.sh_tree.specs.declared.tree.Script.{Script}
use Rattle.sh_tree.specs.declared.tree.Command.{Command}
use Rattle.sh_tree.specs.declared.tree.Kind.{Kind, items-the_row-Clause}
use Rattle.sh_tree.specs.declared.tree.Kind.TheVariants as kind
use Rattle.sh_tree.specs.declared.tree.LoopKind.{LoopKind}
use Rattle.sh_tree.specs.declared.tree.CommandStyle.{CommandStyle}
use Rattle.sh_tree.specs.declared.tree.SingleStyle.{SingleStyle}
use Rattle.sh_tree.specs.declared.tree.Redirect.{Redirect}
use Rattle.sh_tree.specs.declared.tree.HereDoc.{HereDoc}
use Rattle.sh_tree.specs.declared.tree.Target.TheVariants as target
use Rattle.sh_tree.specs.declared.tree.Direction.{Direction}
use Rattle.sh_tree.specs.declared.tree.Word.{Word}
use Rattle.sh_tree.specs.declared.tree.Branch.{Branch}
use Rattle.sh_tree.specs.declared.tree.Clause.{Clause}
use Rattle.sh_tree.specs.declared.tree.Element.{Element}
use Rattle.sh_tree.specs.declared.tree.Element.TheVariants as element
use Rattle.sh_tree.specs.declared.tree.Param.{Param}
use Rattle.sh_tree.specs.declared.tree.Part.{Part, Row_of-Part, end_of-Part, more_of-Part, items-the_row-Part}
use Rattle.sh_tree.specs.declared.tree.Part.TheVariants as part
use Rattle.sh_tree.specs.declared.tree.ParameterOperator.TheVariants as operator
use Rattle.sh_tree.specs.declared.tree.Action.{Action}
use Rattle.sh_tree.specs.declared.tree.Removal.{Removal}
use Rattle.sh_tree.specs.declared.tree.Unary.{Unary}
use Rattle.sh_tree.specs.declared.tree.Expr.{Expr, Row_of-Expr-Chain-1-2, end_of-Expr-Chain-1-2, more_of-Expr-Chain-1-2, items-the_row-Expr-Chain-1-2}
use Rattle.sh_tree.specs.declared.tree.Expr.TheVariants as expression
use Rattle.sh_tree.specs.declared.tree.Element.TheBlock.{items_hidden-the_row-Part-0, hidden-the_row-Part-0, items_hidden-the_row-Element-3, back-Kind-For-1, items_hidden-the_row-Word-5, items_hidden-the_row-Clause-6, hidden-the_row-Clause-6, shape-the_row-Expr-1, hidden-the_row-Expr-1, items_hidden-the_row-Expr-Chain-1-2-2, hidden-the_row-Expr-Chain-1-2-2}
use Rattle.sh_tree.specs.standard.Words.{word_in, word_of, words_of, form_of_assignment, form_of_word, form_of_redirection}
use Rattle.sh_domain.specs.SightWalks.{as_sight, seen_in, listed, listed_word}
use Rattle.sh_domain.specs.Sights.{Sight, sight, subject_sights, in_row, in_part, in_operator, in_box, in_chain, in_step, in_expression, in_word, in_target, in_element, in_simple, in_clause, in_list, in_kind, in_command, static_sights, read_sights, read_behind, names_behind}
use Rattle.sh_runs.specs.ReadOptions.{go_on, option_takes}
use Rattle.sh_runs.specs.standard.runs.Operands.{ends_options, is_dashed}

-- lists
parts_listed : {m : _} (b : List ℕ) (k : Row_of-Part m) → in_row b k ≡ flat_map (in_part b) (items-the_row-Part m k)
unfolding in_row
parts_listed b end_of-Part = refl
parts_listed b (more_of-Part x rest) = ap (λ xs. in_part b x ++ xs) (parts_listed b rest)

chain_listed : {m : _} (b : List ℕ) (k : Row_of-Expr-Chain-1-2 m) → in_chain b k ≡ flat_map (in_step b) (items-the_row-Expr-Chain-1-2 m k)
unfolding in_row
chain_listed b end_of-Expr-Chain-1-2 = refl
chain_listed b (more_of-Expr-Chain-1-2 operator x rest) = ap (λ xs. in_expression b x ++ xs) (chain_listed b rest)

word_row : (b : List ℕ) (w : Word) → in_row b (hidden-the_row-Part-0 w.parts) ≡ in_word b w
word_row b w = parts_listed b (hidden-the_row-Part-0 w.parts) ∙ ap (flat_map (in_part b)) (items_hidden-the_row-Part-0 w.parts)

boxed_row : (b : List ℕ) (e : Expr) → in_box b (hidden-the_row-Expr-1 e) ≡ in_expression b e
unfolding in_row shape-the_row-Expr-1 hidden-the_row-Expr-1 denote.Hole.Carrier.hidden
boxed_row b e = append-nil (in_expression b e)

-- kinds

pub in_kind-Simple : (b : List ℕ) (es : List Element) → in_kind b (kind.Simple es) ≡ in_simple b es
unfolding in_kind
in_kind-Simple b es = ap (in_simple b) (items_hidden-the_row-Element-3 es)

pub in_kind-Group : (b : List ℕ) (t : Script) → in_kind b (kind.Group t) ≡ []
unfolding in_kind
in_kind-Group b t = refl

pub in_kind-Subshell : (b : List ℕ) (t : Script) → in_kind b (kind.Subshell t) ≡ []
unfolding in_kind
in_kind-Subshell b t = refl

pub in_kind-Cond : (b : List ℕ) (bs : List Branch) (o : Option Script) → in_kind b (kind.Cond bs o) ≡ []
unfolding in_kind
in_kind-Cond b bs o = refl

pub in_kind-Loop : (b : List ℕ) (k : LoopKind) (c t : Script) → in_kind b (kind.Loop k c t) ≡ []
unfolding in_kind
in_kind-Loop b k c t = refl

-- the words of `for`
pub in_words : List ℕ → Option (List Word) → List Sight
in_words b None = []
in_words b (Some ws) = flat_map (in_word b) ws

list_row : (b : List ℕ) (o : Option (List Word)) → in_list b (back-Kind-For-1 o) ≡ in_words b o
unfolding in_list in_words
list_row b None = refl
list_row b (Some ws) = ap (flat_map (in_word b)) (items_hidden-the_row-Word-5 ws)

pub in_kind-For : (b : List ℕ) (s : Span) (o : Option (List Word)) (t : Script) → in_kind b (kind.For s o t) ≡ sight b s ∷ in_words b o
unfolding in_kind
in_kind-For b s o t = ap (λ xs. sight b s ∷ xs) (list_row b o)

pub in_kind-Branches : (b : List ℕ) (w : Word) (cs : List Clause) → in_kind b (kind.Branches w cs) ≡ in_word b w ++ flat_map (in_clause b) cs
unfolding in_kind
in_kind-Branches b w cs =
    ap (λ xs. xs ++ flat_map (in_clause b) (items-the_row-Clause _ (hidden-the_row-Clause-6 cs))) (word_row b w) ∙ ap (λ ys. in_word b w ++ flat_map (in_clause b) ys) (items_hidden-the_row-Clause-6 cs)

pub in_kind-Define : (b : List ℕ) (s : Span) (c : Command) → in_kind b (kind.Define s c) ≡ sight b s ∷ []
unfolding in_kind
in_kind-Define b s c = refl

-- elements, targets, parts

pub in_element-Assignment : (b : List ℕ) (s : Span) (w : Word) → in_element b (element.Assignment s w) ≡ sight b s ∷ in_word b w
unfolding in_element
in_element-Assignment b s w = ap (λ xs. sight b s ∷ xs) (word_row b w)

pub in_element-Word : (b : List ℕ) (w : Word) → in_element b (element.Word w) ≡ in_word b w
unfolding in_element
in_element-Word b w = word_row b w

pub in_element-Redirection : (b : List ℕ) (r : Redirect) → in_element b (element.Redirection r) ≡ in_target b r.target
unfolding in_element
in_element-Redirection b r = refl

pub in_target-File : (b : List ℕ) (d : Direction) (w : Word) → in_target b (target.File d w) ≡ in_word b w
unfolding in_target
in_target-File b d w = word_row b w

pub in_target-Here : (b : List ℕ) (h : HereDoc) → in_target b (target.Here h) ≡ in_word b h.body
unfolding in_target
in_target-Here b h = word_row b h.body

pub in_part-Double : (b : List ℕ) (s : Span) (ps : List Part) → in_part b (part.Double s ps) ≡ flat_map (in_part b) ps
unfolding in_row
in_part-Double b s ps = parts_listed b (hidden-the_row-Part-0 ps) ∙ ap (flat_map (in_part b)) (items_hidden-the_row-Part-0 ps)

pub in_part-Param : (b : List ℕ) (p : Param) → in_part b (part.Param p) ≡ subject_sights b p.subject ++ in_operator b p.operator
unfolding in_row
in_part-Param b p = refl

pub in_part-Arith : (b : List ℕ) (s : Span) (e : Expr) → in_part b (part.Arith s e) ≡ in_expression b e
unfolding in_row
in_part-Arith b s e = boxed_row b e

pub in_part-Plain : (b : List ℕ) (s : Span) → in_part b (part.Plain s) ≡ []
unfolding in_row
in_part-Plain b s = refl

pub in_part-Escaped : (b : List ℕ) (s : Span) → in_part b (part.Escaped s) ≡ []
unfolding in_row
in_part-Escaped b s = refl

pub in_part-Single : (b : List ℕ) (style : SingleStyle) (s : Span) → in_part b (part.Single style s) ≡ []
unfolding in_row
in_part-Single b style s = refl

pub in_part-Command : (b : List ℕ) (style : CommandStyle) (s : Span) (t : Script) → in_part b (part.Command style s t) ≡ []
unfolding in_row
in_part-Command b style s t = refl

pub in_part-Tilde : (b : List ℕ) (s : Span) → in_part b (part.Tilde s) ≡ []
unfolding in_row
in_part-Tilde b s = refl

pub in_part-Joined : (b : List ℕ) (s : Span) → in_part b (part.Joined s) ≡ []
unfolding in_row
in_part-Joined b s = refl

pub in_operator-Value : (b : List ℕ) → in_operator b operator.Value ≡ []
unfolding in_row
in_operator-Value b = refl

pub in_operator-Length : (b : List ℕ) → in_operator b operator.Length ≡ []
unfolding in_row
in_operator-Length b = refl

pub in_operator-Use : (b : List ℕ) (a : Action) (colon : Bool) (w : Word) → in_operator b (operator.Use a colon w) ≡ in_word b w
unfolding in_row
in_operator-Use b a colon w = word_row b w

pub in_operator-Remove : (b : List ℕ) (r : Removal) (w : Word) → in_operator b (operator.Remove r w) ≡ in_word b w
unfolding in_row
in_operator-Remove b r w = word_row b w

pub in_expression-Constant : (b : List ℕ) (s : Span) → in_expression b (expression.Constant s) ≡ []
unfolding in_row
in_expression-Constant b s = refl

pub in_expression-Variable : (b : List ℕ) (s : Span) → in_expression b (expression.Variable s) ≡ sight b s ∷ []
unfolding in_row
in_expression-Variable b s = refl

pub in_expression-Expansion : (b : List ℕ) (p : Part) → in_expression b (expression.Expansion p) ≡ in_part b p
unfolding in_row
in_expression-Expansion b p = refl

pub in_expression-Parenthesis : (b : List ℕ) (e : Expr) → in_expression b (expression.Parenthesis e) ≡ in_expression b e
unfolding in_row
in_expression-Parenthesis b e = boxed_row b e

pub in_expression-Unary : (b : List ℕ) (u : Unary) (e : Expr) → in_expression b (expression.Unary u e) ≡ in_expression b e
unfolding in_row
in_expression-Unary b u e = boxed_row b e

pub in_expression-Chain : (b : List ℕ) (e : Expr) (es : List (Binary × Expr)) → in_expression b (expression.Chain e es) ≡ in_expression b e ++ flat_map (in_step b) es
unfolding in_row
in_expression-Chain b e es =
    ap (λ xs. xs ++ in_chain b (hidden-the_row-Expr-Chain-1-2-2 es)) (boxed_row b e)
    ∙ ap (λ xs. in_expression b e ++ xs) (chain_listed b (hidden-the_row-Expr-Chain-1-2-2 es) ∙ ap (flat_map (in_step b)) (items_hidden-the_row-Expr-Chain-1-2-2 es))

pub in_expression-Choice : (b : List ℕ) (c y n : Expr) → in_expression b (expression.Choice c y n) ≡ in_expression b c ++ in_expression b y ++ in_expression b n
unfolding in_row
in_expression-Choice b c y n = rw (boxed_row b c, boxed_row b y, boxed_row b n) refl

pub in_expression-Assign : (b : List ℕ) (s : Span) (o : Option Binary) (e : Expr) → in_expression b (expression.Assign s o e) ≡ sight b s ∷ in_expression b e
unfolding in_row
in_expression-Assign b s o e = ap (λ xs. sight b s ∷ xs) (boxed_row b e)

pub ruleset kinds = (in_kind-Simple, in_kind-Group, in_kind-Subshell, in_kind-Cond, in_kind-Loop, in_kind-For, in_kind-Branches, in_kind-Define)

pub ruleset elements = (in_element-Assignment, in_element-Word, in_element-Redirection)

pub ruleset targets = (in_target-File, in_target-Here)

pub ruleset parts = (in_part-Double, in_part-Param, in_part-Arith, in_part-Plain, in_part-Escaped, in_part-Single, in_part-Command, in_part-Tilde, in_part-Joined)

pub ruleset operators = (in_operator-Use, in_operator-Remove, in_operator-Value, in_operator-Length)

pub ruleset expressions = (in_expression-Constant, in_expression-Variable, in_expression-Expansion, in_expression-Parenthesis, in_expression-Unary, in_expression-Chain, in_expression-Choice, in_expression-Assign)

-- nothing is added
pub nothing_added : {A : Type 0} (found more : List A) → more ≡ [] → found ≡ found ++ more
nothing_added found more e = sym (append-nil found) ∙ ap (λ xs. found ++ xs) (sym e)

-- one piece after another
pub both : {A X E : Type 0} (r : Result X E) (old mid new a b whole : List A) → mid ≡ old ++ a → whole ≡ a ++ b → OnOk r (new ≡ mid ++ b) → OnOk r (new ≡ old ++ whole)
both (Ok x) old mid new a b whole m w n = n ∙ ap (λ xs. xs ++ b) m ∙ append_assoc old a b ∙ ap (λ xs. old ++ xs) (sym w)
both (Err e) old mid new a b whole m w n = tt

-- three pieces
pub thrice : {A X E : Type 0} (r : Result X E) (old first mid new a b d whole : List A) → first ≡ old ++ a → mid ≡ first ++ b → whole ≡ a ++ b ++ d
    → OnOk r (new ≡ mid ++ d) → OnOk r (new ≡ old ++ whole)
thrice r old first mid new a b d whole f m w n = both r old mid new (a ++ b) d whole (m ∙ ap (λ xs. xs ++ b) f ∙ append_assoc old a b) w n

-- lists of one or none

pub words_listed : (es : List Element) → flat_map listed_word es ≡ words_of es
words_listed [] = refl
words_listed (e ∷ es) = go (word_of e) (words_listed es)
  where
    go : (o : Option Word) → flat_map listed_word es ≡ words_of es → listed o ++ flat_map listed_word es ≡ cons_option o (words_of es)
    go None h = h
    go (Some w) h = ap (λ ws. w ∷ ws) h

pub listed_word-Assignment : (s : Span) (w : Word) → listed_word (element.Assignment s w) ≡ []
unfolding word_in
listed_word-Assignment s w = ap (λ f. listed (word_in f)) (form_of_assignment s w)

pub listed_word-Word : (w : Word) → listed_word (element.Word w) ≡ w ∷ []
unfolding word_in
listed_word-Word w = ap (λ f. listed (word_in f)) (form_of_word w)

pub listed_word-Redirection : (r : Redirect) → listed_word (element.Redirection r) ≡ []
unfolding word_in
listed_word-Redirection r = ap (λ f. listed (word_in f)) (form_of_redirection r)

pub ruleset mapped = (flat_map-map, append-nil)

pub in_kind-For-None : (b : List ℕ) (k : Kind) (s : Span) (o : Option (List Word)) (t : Script) → k ≡ kind.For s o t → o ≡ None → in_kind b k ≡ sight b s ∷ []
unfolding in_words
in_kind-For-None b k s o t e n = ap (in_kind b) e ∙ in_kind-For b s o t ∙ ap (λ w. sight b s ∷ in_words b w) n

pub in_kind-For-Some : (b : List ℕ) (k : Kind) (s : Span) (o : Option (List Word)) (ws : List Word) (t : Script) → k ≡ kind.For s o t → o ≡ Some ws → in_kind b k ≡ sight b s ∷ flat_map (in_word b) ws
unfolding in_words
in_kind-For-Some b k s o ws t e n = ap (in_kind b) e ∙ in_kind-For b s o t ∙ ap (λ w. sight b s ∷ in_words b w) n

-- what is found, in another order
pub sights_in_order : {E : Type 0} (r : Result (Vec Seen Global) E) (found : List Seen) (all : List Sight) → seen_in found ≡ all
    → IfOk r (λ v. IsPermutation found v.items) → IfOk r (λ v. IsPermutation all (seen_in v.items))
sights_in_order (Ok v) found all e p = subst (λ xs. IsPermutation xs (seen_in v.items)) e (IsPermutation-map as_sight found v.items p)
sights_in_order (Err x) found all e p = tt

ordered_map : {X Y : Type 0} (f : X → Y) (n : Y → ℕ) (xs : List X) → IsNonDecreasingBy (λ x. n (f x)) xs → IsNonDecreasingBy n (map f xs)
ordered_map f n [] h = IsNonDecreasingBy-short n [] (omega arith)
ordered_map f n (x ∷ xs) h =
    IsNonDecreasingBy-from_default n (map f (x ∷ xs)) (f x)
    (λ i j ij jl. rw (get_or-map f (x ∷ xs) i x, get_or-map f (x ∷ xs) j x) (h i j x ij (subst (λ l. j < l) (length-map (x ∷ xs) f) jl)))

-- the names of a script's commands, in order
pub in_text_order : {E : Type 0} (b : List ℕ) (t : Script) (cs : List (Bor Command)) (r : Result (Vec Seen Global) E) → IsPermutation (commands_of t) (map (λ c. c.now) cs)
    → IfOk r (λ v. IsPermutation (flat_map (λ (c : Bor Command). in_command b c.now) cs) (seen_in v.items)) → IfOk r (λ v. IsNonDecreasingBy (λ (x : Seen). x.at) v.items)
    → IfOk r (λ v. IsInTextOrder b t (seen_in v.items))
in_text_order b t cs (Ok v) p a o =
    record {
      commands = map (λ (c : Bor Command). c.now) cs;
      all_commands = p;
      all = subst (λ xs. IsPermutation xs (seen_in v.items)) (sym (flat_map-map (in_command b) (λ (c : Bor Command). c.now) cs)) a;
      ordered = ordered_map as_sight (λ x. x.at) v.items o;
    }
in_text_order b t cs (Err x) p a o = tt

-- the names of `read` by how many of its operands are static
pub read_is : (b : List ℕ) (ws : List Word) (xs : List Seen) → seen_in xs ≡ static_sights b ws
    → read_sights b ws ≡ (if nat_lt (length xs) (length ws) then [] else names_behind (read_behind false (seen_in xs)))
read_is b ws xs e = rw (← e, length-map xs as_sight) refl

-- an option of `read`
pub read_on : (xs : List Seen) (x : Seen) (takes : Bool) → 1 ≤ length xs → x ≡ get_or xs 0 x → ends_options x.name.items ≡ false → is_dashed x.name.items ≡ true
    → option_takes x.name.items ≡ Some takes → read_behind takes (seen_in (take (length xs - 1) (drop 1 xs))) ≡ read_behind false (seen_in xs)
unfolding read_behind go_on
read_on [] x takes l at e d t = absurd (omega (arith, l))
read_on (y ∷ ys) x takes l at e d t =
    let f : ends_options y.name.items ≡ false = ap (λ (z : Seen). ends_options z.name.items) (sym at) ∙ e in
    let g : is_dashed y.name.items ≡ true = ap (λ (z : Seen). is_dashed z.name.items) (sym at) ∙ d in
    let u : option_takes y.name.items ≡ Some takes = ap (λ (z : Seen). option_takes z.name.items) (sym at) ∙ t in
    rw (f, g, u, take_all (length (y ∷ ys) - 1) ys (omega arith)) refl

pub read_other : (xs : List Seen) (x : Seen) → 1 ≤ length xs → x ≡ get_or xs 0 x → ends_options x.name.items ≡ false → is_dashed x.name.items ≡ true
    → option_takes x.name.items ≡ None → read_behind false (seen_in xs) ≡ None
unfolding read_behind go_on
read_other [] x l at e d t = absurd (omega (arith, l))
read_other (y ∷ ys) x l at e d t =
    let f : ends_options y.name.items ≡ false = ap (λ (z : Seen). ends_options z.name.items) (sym at) ∙ e in
    let g : is_dashed y.name.items ≡ true = ap (λ (z : Seen). is_dashed z.name.items) (sym at) ∙ d in
    let u : option_takes y.name.items ≡ None = ap (λ (z : Seen). option_takes z.name.items) (sym at) ∙ t in
    rw (f, g, u) refl
