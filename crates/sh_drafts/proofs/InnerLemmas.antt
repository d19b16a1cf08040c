-- Whether a command substitution is in a piece of a tree, by the pieces one level below it; and
-- that nothing is entered if there is none.
use Rattle.std.proofs.Common.{◌≡◌, ℕ, Bool, true, false, ◌||◌, List, [], ◌∷◌, ◌++◌, Option, refl, sym, ap, ap₂, ◌∙◌}
use Rattle.std.proofs.lemmas.Bool.{or_parts, true≢false}
use Rattle.std.specs.List.{list_any}
use Rattle.sh_tree.specs.declared.tree.Action.{Action}
use Rattle.sh_tree.specs.declared.tree.Binary.{Binary}
use Rattle.sh_tree.specs.declared.tree.CommandStyle.{CommandStyle}
use Rattle.sh_tree.specs.declared.tree.Direction.{Direction}
use Rattle.sh_tree.specs.declared.tree.Element.{Element, Assignment', Word', Redirection'}
use Rattle.sh_tree.specs.declared.tree.Element.TheVariants as element
use Rattle.sh_tree.specs.declared.tree.Expr.{Expr}
use Rattle.sh_tree.specs.declared.tree.Expr.TheVariants as expression
use Rattle.sh_tree.specs.declared.tree.HereDoc.{HereDoc}
use Rattle.sh_tree.specs.declared.tree.ParameterOperator.TheVariants as operator
use Rattle.sh_tree.specs.declared.tree.Param.{Param}
use Rattle.sh_tree.specs.declared.tree.Part.{Part}
use Rattle.sh_tree.specs.declared.tree.Part.TheVariants as part
use Rattle.sh_tree.specs.declared.tree.Redirect.{Redirect}
use Rattle.sh_tree.specs.declared.tree.Removal.{Removal}
use Rattle.sh_tree.specs.declared.tree.Script.{Script}
use Rattle.sh_tree.specs.declared.tree.SingleStyle.{SingleStyle}
use Rattle.sh_tree.specs.declared.tree.Span.{Span}
use Rattle.sh_tree.specs.declared.tree.Target.TheVariants as target
use Rattle.sh_tree.specs.declared.tree.Unary.{Unary}
use Rattle.sh_tree.specs.declared.tree.Word.{Word}
use Rattle.sh_tree.specs.Lists.{parts_from, operands_from, element_from, elements_from, redirects_from}
use Rattle.sh_tree.specs.standard.program.Syntax as p
use Rattle.sh_tree.specs.standard.program.Trees as trees
use Rattle.sh_tree.proofs.ProgramRules as rules
use Rattle.sh_domain.specs.Entries.{word_entered, part_entered, operator_entered, expression_entered, operands_entered, redirect_entered, redirects_entered, elements_entered, items_entered, operand_seen}
use Rattle.sh_domain.specs.Gains.{part_gains, word_gains, redirect_gains, expanded_gains}
use Rattle.sh_domain.specs.Views.{Seen, gaining}
use Rattle.sh_drafts.specs.Gathering.{or_false}
use Rattle.sh_drafts.specs.Inner as inner
use Rattle.sh_drafts.specs.Inner.{part_substitutes, word_substitutes, operator_substitutes, expression_substitutes, operands_substitute, redirect_substitutes, redirects_substitute, elements_substitute, part_has, operator_has, expression_has, step_has, target_has, element_has}

-- lists

pub word_listed : (b : List ℕ) (ps : List Part) → word_substitutes (parts_from b ps) ≡ list_any (part_has b) ps
unfolding part_substitutes parts_from part_has
word_listed b [] = refl
word_listed b (x ∷ xs) = ap (λ t. part_substitutes (trees.part_of b x) || t) (word_listed b xs)

chain_listed : (b : List ℕ) (es : List (Binary × Expr)) → operands_substitute (operands_from b es) ≡ list_any (step_has b) es
unfolding part_substitutes operands_from expression_has
chain_listed b [] = refl
chain_listed b (e ∷ es) = ap (λ t. expression_substitutes (trees.expression_of b e.1) || t) (chain_listed b es)

pub redirects_listed : (b : List ℕ) (rs : List Redirect) → redirects_substitute (redirects_from b rs) ≡ list_any (λ r. target_has b r.target) rs
unfolding redirects_substitute redirects_from target_has
redirects_listed b [] = refl
redirects_listed b (r ∷ rs) = ap (λ t. redirect_substitutes (trees.target_of b r.target) || t) (redirects_listed b rs)

one_more : (x y : Bool) → (x || y) ≡ ((x || false) || y)
one_more x y = ap (λ t. t || y) (sym (or_false x))

element_split : (b : List ℕ) (e : Element) (rest : p.Elements) → elements_substitute (element_from b e rest) ≡ (element_has b e || elements_substitute rest)
unfolding elements_substitute element_from element_has
element_split b (Assignment' name s shape row) rest = one_more (word_substitutes (trees.word_of b row)) (elements_substitute rest)
element_split b (Word' s shape row) rest = one_more (word_substitutes (trees.word_of b row)) (elements_substitute rest)
element_split b (Redirection' at number target) rest = one_more (redirect_substitutes (trees.target_of b target)) (elements_substitute rest)

pub elements_listed : (b : List ℕ) (es : List Element) → elements_substitute (elements_from b es) ≡ list_any (element_has b) es
unfolding elements_from elements_substitute
elements_listed b [] = refl
elements_listed b (e ∷ es) = element_split b e (elements_from b es) ∙ ap (λ t. element_has b e || t) (elements_listed b es)

-- operators

pub operator_has-Use : (b : List ℕ) (a : Action) (colon : Bool) (w : Word) → operator_has b (operator.Use a colon w) ≡ list_any (part_has b) w.parts
unfolding operator_has part_substitutes
operator_has-Use b a colon w = ap operator_substitutes (rules.operator_of-Use b a colon w) ∙ word_listed b w.parts

pub operator_has-Remove : (b : List ℕ) (r : Removal) (w : Word) → operator_has b (operator.Remove r w) ≡ list_any (part_has b) w.parts
unfolding operator_has part_substitutes
operator_has-Remove b r w = ap operator_substitutes (rules.operator_of-Remove b r w) ∙ word_listed b w.parts

pub operator_has-Value : (b : List ℕ) → operator_has b operator.Value ≡ false
unfolding operator_has part_substitutes
operator_has-Value b = ap operator_substitutes (rules.operator_of-Value b)

pub operator_has-Length : (b : List ℕ) → operator_has b operator.Length ≡ false
unfolding operator_has part_substitutes
operator_has-Length b = ap operator_substitutes (rules.operator_of-Length b)

pub ruleset operators = (operator_has-Use, operator_has-Remove, operator_has-Value, operator_has-Length)

-- parts

pub part_has-Double : (b : List ℕ) (s : Span) (ps : List Part) → part_has b (part.Double s ps) ≡ list_any (part_has b) ps
unfolding part_has part_substitutes
part_has-Double b s ps = ap part_substitutes (rules.part_of-Double b s ps) ∙ word_listed b ps

pub part_has-Param : (b : List ℕ) (x : Param) → part_has b (part.Param x) ≡ operator_has b x.operator
unfolding part_has part_substitutes operator_has
part_has-Param b x = ap part_substitutes (rules.part_of-Param b x)

pub part_has-Arith : (b : List ℕ) (s : Span) (e : Expr) → part_has b (part.Arith s e) ≡ expression_has b e
unfolding part_has part_substitutes expression_has
part_has-Arith b s e = ap part_substitutes (rules.part_of-Arith b s e)

pub part_has-Command : (b : List ℕ) (style : CommandStyle) (s : Span) (t : Script) → part_has b (part.Command style s t) ≡ true
unfolding part_has part_substitutes
part_has-Command b style s t = ap part_substitutes (rules.part_of-Command b style s t)

pub part_has-Plain : (b : List ℕ) (s : Span) → part_has b (part.Plain s) ≡ false
unfolding part_has part_substitutes
part_has-Plain b s = ap part_substitutes (rules.part_of-Plain b s)

pub part_has-Escaped : (b : List ℕ) (s : Span) → part_has b (part.Escaped s) ≡ false
unfolding part_has part_substitutes
part_has-Escaped b s = ap part_substitutes (rules.part_of-Escaped b s)

pub part_has-Single : (b : List ℕ) (style : SingleStyle) (s : Span) → part_has b (part.Single style s) ≡ false
unfolding part_has part_substitutes
part_has-Single b style s = ap part_substitutes (rules.part_of-Single b style s)

pub part_has-Tilde : (b : List ℕ) (s : Span) → part_has b (part.Tilde s) ≡ false
unfolding part_has part_substitutes
part_has-Tilde b s = ap part_substitutes (rules.part_of-Tilde b s)

pub part_has-Joined : (b : List ℕ) (s : Span) → part_has b (part.Joined s) ≡ false
unfolding part_has part_substitutes
part_has-Joined b s = ap part_substitutes (rules.part_of-Joined b s)

pub ruleset parts = (part_has-Double, part_has-Param, part_has-Arith, part_has-Command, part_has-Plain, part_has-Escaped, part_has-Single, part_has-Tilde, part_has-Joined)

-- expressions

pub expression_has-Constant : (b : List ℕ) (s : Span) → expression_has b (expression.Constant s) ≡ false
unfolding expression_has part_substitutes
expression_has-Constant b s = ap expression_substitutes (rules.expression_of-Constant b s)

pub expression_has-Variable : (b : List ℕ) (s : Span) → expression_has b (expression.Variable s) ≡ false
unfolding expression_has part_substitutes
expression_has-Variable b s = ap expression_substitutes (rules.expression_of-Variable b s)

pub expression_has-Expansion : (b : List ℕ) (y : Part) → expression_has b (expression.Expansion y) ≡ part_has b y
unfolding expression_has part_has part_substitutes
expression_has-Expansion b y = ap expression_substitutes (rules.expression_of-Expansion b y)

pub expression_has-Parenthesis : (b : List ℕ) (e : Expr) → expression_has b (expression.Parenthesis e) ≡ expression_has b e
unfolding expression_has part_substitutes
expression_has-Parenthesis b e = ap expression_substitutes (rules.expression_of-Parenthesis b e)

pub expression_has-Unary : (b : List ℕ) (u : Unary) (e : Expr) → expression_has b (expression.Unary u e) ≡ expression_has b e
unfolding expression_has part_substitutes
expression_has-Unary b u e = ap expression_substitutes (rules.expression_of-Unary b u e)

pub expression_has-Chain : (b : List ℕ) (e : Expr) (es : List (Binary × Expr)) → expression_has b (expression.Chain e es) ≡ (expression_has b e || list_any (step_has b) es)
unfolding expression_has part_substitutes
expression_has-Chain b e es = ap expression_substitutes (rules.expression_of-Chain b e es) ∙ ap (λ t. expression_has b e || t) (chain_listed b es)

pub expression_has-Choice : (b : List ℕ) (c y n : Expr) → expression_has b (expression.Choice c y n) ≡ (expression_has b c || expression_has b y || expression_has b n)
unfolding expression_has part_substitutes
expression_has-Choice b c y n = ap expression_substitutes (rules.expression_of-Choice b c y n)

pub expression_has-Assign : (b : List ℕ) (s : Span) (o : Option Binary) (e : Expr) → expression_has b (expression.Assign s o e) ≡ expression_has b e
unfolding expression_has part_substitutes
expression_has-Assign b s o e = ap expression_substitutes (rules.expression_of-Assign b s o e)

pub ruleset expressions = (expression_has-Constant, expression_has-Variable, expression_has-Expansion, expression_has-Parenthesis, expression_has-Unary, expression_has-Chain, expression_has-Choice, expression_has-Assign)

-- redirections and elements

pub target_has-File : (b : List ℕ) (d : Direction) (w : Word) → target_has b (target.File d w) ≡ word_substitutes (parts_from b w.parts)
unfolding target_has redirect_substitutes
target_has-File b d w = ap redirect_substitutes (rules.target_of-File b d w)

pub target_has-Here : (b : List ℕ) (h : HereDoc) → target_has b (target.Here h) ≡ word_substitutes (parts_from b h.body.parts)
unfolding target_has redirect_substitutes
target_has-Here b h = ap redirect_substitutes (rules.target_of-Here b h)

pub ruleset targets = (target_has-File, target_has-Here)

pub element_has-Assignment : (b : List ℕ) (s : Span) (w : Word) → element_has b (element.Assignment s w) ≡ word_substitutes (parts_from b w.parts)
unfolding element_has elements_substitute
element_has-Assignment b s w = ap elements_substitute (rules.element_from-Assignment b s w p.no_elements) ∙ or_false (word_substitutes (parts_from b w.parts))

pub element_has-Word : (b : List ℕ) (w : Word) → element_has b (element.Word w) ≡ word_substitutes (parts_from b w.parts)
unfolding element_has elements_substitute
element_has-Word b w = ap elements_substitute (rules.element_from-Word b w p.no_elements) ∙ or_false (word_substitutes (parts_from b w.parts))

pub element_has-Redirection : (b : List ℕ) (r : Redirect) → element_has b (element.Redirection r) ≡ target_has b r.target
unfolding element_has elements_substitute target_has
element_has-Redirection b r = ap elements_substitute (rules.element_from-Redirection b r p.no_elements) ∙ or_false (redirect_substitutes (trees.target_of b r.target))

pub ruleset elements = (element_has-Assignment, element_has-Word, element_has-Redirection)

-- If there is none, no command is entered.

mutual
  unfolding part_substitutes items_entered

  word_nothing : (w : p.Word) → word_substitutes w ≡ false → (s : Seen) → word_entered s w ≡ []
  word_nothing p.no_parts e s = refl
  word_nothing (p.more_parts x w) e s =
      let both = or_parts (part_substitutes x) (word_substitutes w) e in
      ap₂ (λ l r. l ++ r) (part_nothing x both.0 s) (word_nothing w both.1 (gaining (part_gains x) s))

  part_nothing : (x : p.Part) → part_substitutes x ≡ false → (s : Seen) → part_entered s x ≡ []
  part_nothing (p.Plain t) e s = refl
  part_nothing (p.Escaped t) e s = refl
  part_nothing (p.Single style t) e s = refl
  part_nothing (p.Double w) e s = word_nothing w e s
  part_nothing (p.Expansion at parameter o) e s = operator_nothing o e s parameter
  part_nothing (p.Arithmetic at x) e s = expression_nothing x e s
  part_nothing (p.Substitution at list) e s = absurd (true≢false e)
  part_nothing (p.Tilde at login) e s = refl
  part_nothing p.Joined e s = refl

  operator_nothing : (o : p.Operator) → operator_substitutes o ≡ false → (s : Seen) (parameter : p.Parameter) → operator_entered s parameter o ≡ []
  operator_nothing p.Value e s parameter = refl
  operator_nothing p.Length e s parameter = refl
  operator_nothing (p.Use action colon w) e s parameter = word_nothing w e (operand_seen action parameter s)
  operator_nothing (p.Remove removal w) e s parameter = word_nothing w e s

  expression_nothing : (x : p.Expression) → expression_substitutes x ≡ false → (s : Seen) → expression_entered s x ≡ []
  expression_nothing (p.Constant t) e s = refl
  expression_nothing (p.Name at name) e s = refl
  expression_nothing (p.Expanded y) e s = part_nothing y e s
  expression_nothing (p.Parenthesis x) e s = expression_nothing x e s
  expression_nothing (p.Signed operator x) e s = expression_nothing x e s
  expression_nothing (p.Chain x rest) e s =
      let both = or_parts (expression_substitutes x) (operands_substitute rest) e in
      ap₂ (λ l r. l ++ r) (expression_nothing x both.0 s) (operands_nothing rest both.1 (gaining (expanded_gains x) s))
  expression_nothing (p.Choice x y z) e s =
      let both = or_parts (expression_substitutes x || expression_substitutes y) (expression_substitutes z) e in
      let others = or_parts (expression_substitutes x) (expression_substitutes y) both.0 in
      ap₂ (λ l r. l ++ r) (ap₂ (λ l r. l ++ r) (expression_nothing x others.0 s) (expression_nothing y others.1 (gaining (expanded_gains x) s)))
      (expression_nothing z both.1 (gaining (expanded_gains y) (gaining (expanded_gains x) s)))
  expression_nothing (p.Assigned at name operator x) e s = expression_nothing x e s

  operands_nothing : (xs : p.Operands) → operands_substitute xs ≡ false → (s : Seen) → operands_entered s xs ≡ []
  operands_nothing p.no_operands e s = refl
  operands_nothing (p.more_operands operator x rest) e s =
      let both = or_parts (expression_substitutes x) (operands_substitute rest) e in
      ap₂ (λ l r. l ++ r) (expression_nothing x both.0 s) (operands_nothing rest both.1 (gaining (expanded_gains x) s))

redirect_nothing : (r : p.Redirect) → redirect_substitutes r ≡ false → (s : Seen) → redirect_entered s r ≡ []
unfolding redirect_substitutes items_entered
redirect_nothing (p.File w) e s = word_nothing w e s
redirect_nothing (p.Here w) e s = word_nothing w e s

redirects_nothing : (rs : p.Redirects) → redirects_substitute rs ≡ false → (s : Seen) → redirects_entered s rs ≡ []
unfolding redirects_substitute items_entered
redirects_nothing p.no_redirects e s = refl
redirects_nothing (p.more_redirects r rs) e s =
    let both = or_parts (redirect_substitutes r) (redirects_substitute rs) e in
    ap₂ (λ l m. l ++ m) (redirect_nothing r both.0 s) (redirects_nothing rs both.1 (gaining (redirect_gains r) s))

elements_nothing : (es : p.Elements) → elements_substitute es ≡ false → (s behind : Seen) → elements_entered s behind es ≡ []
unfolding elements_substitute items_entered
elements_nothing p.no_elements e s behind = refl
elements_nothing (p.assignment name w es) e s behind =
    let both = or_parts (word_substitutes w) (elements_substitute es) e in
    ap₂ (λ l r. l ++ r) (word_nothing w both.0 behind) (elements_nothing es both.1 s behind)
elements_nothing (p.operand w es) e s behind =
    let both = or_parts (word_substitutes w) (elements_substitute es) e in
    ap₂ (λ l r. l ++ r) (word_nothing w both.0 s) (elements_nothing es both.1 (gaining (word_gains w) s) behind)
elements_nothing (p.redirection r es) e s behind =
    let both = or_parts (redirect_substitutes r) (elements_substitute es) e in
    ap₂ (λ l m. l ++ m) (redirect_nothing r both.0 behind) (elements_nothing es both.1 s behind)

pub enters_nothing : inner.EntersNothing
enters_nothing = record { words = word_nothing; redirections = redirects_nothing; elements = elements_nothing }
