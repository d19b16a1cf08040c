-- What is judged of a piece of a tree, by the pieces one level below it.
use Rattle.std.proofs.Common.{◌≡◌, ℕ, ◌<◌, ◌≤◌, Bool, Option, List, [], ◌∷◌, ◌++◌, codes, length, drop, fold, refl, sym, ap, ◌∙◌, arith}
use Rattle.std.proofs.lemmas.List.{append-nil}
use Rattle.sh_tree.specs.declared.place.Place.{Place}
use Rattle.sh_tree.specs.declared.place.Code.TheVariants.{U2}
use Rattle.sh_tree.specs.declared.tree.Action.{Action}
use Rattle.sh_tree.specs.declared.tree.Binary.{Binary}
use Rattle.sh_tree.specs.declared.tree.CommandStyle.{CommandStyle}
use Rattle.sh_tree.specs.declared.tree.Expr.{Expr}
use Rattle.sh_tree.specs.declared.tree.Expr.TheVariants as expression
use Rattle.sh_tree.specs.declared.tree.ParameterOperator.TheVariants as operator
use Rattle.sh_tree.specs.declared.tree.Param.{Param}
use Rattle.sh_tree.specs.declared.tree.Part.{Part}
use Rattle.sh_tree.specs.declared.tree.Part.TheVariants as part
use Rattle.sh_tree.specs.declared.tree.Removal.{Removal}
use Rattle.sh_tree.specs.declared.tree.Script.{Script}
use Rattle.sh_tree.specs.declared.tree.SingleStyle.{SingleStyle}
use Rattle.sh_tree.specs.declared.tree.Span.{Span}
use Rattle.sh_tree.specs.declared.tree.Subject.{Subject}
use Rattle.sh_tree.specs.declared.tree.Unary.{Unary}
use Rattle.sh_tree.specs.declared.tree.Word.{Word}
use Rattle.sh_tree.specs.standard.Tree.{text_of}
use Rattle.sh_tree.specs.standard.Words.{behind_first}
use Rattle.sh_tree.specs.Lists.{parts_from, operands_from}
use Rattle.sh_tree.specs.standard.program.Syntax as p
use Rattle.sh_tree.specs.standard.program.Syntax.{Text}
use Rattle.sh_tree.specs.standard.program.Trees as trees
use Rattle.sh_tree.proofs.ProgramRules as rules
use Rattle.sh_domain.specs.Facts.{Facts}
use Rattle.sh_domain.specs.Needs.{name_needed}
use Rattle.sh_demands.specs.Judged.{Judged, judged, part_judged, word_judged, operator_judged, expanded_judged, operands_judged}
use Rattle.sh_demands.specs.Walks.{name_noted, subject_noted, tilde_needed, tilde_noted, reads_noted, part_step, operator_step, use_step, expression_step, operand_step}
use Rattle.sh_gains.specs.Walks.{expression_assigned, action_gained, inner_gained}

-- tildes

tilde_short : (f : Facts) (at : ℕ) (t : Text) → length t < 2 → tilde_needed f at (drop 1 t) ≡ name_needed f U2 at (codes "HOME")
unfolding tilde_needed
tilde_short f at [] h = refl
tilde_short f at (c ∷ []) h = refl
tilde_short f at (c ∷ d ∷ cs) h = absurd (omega arith)

tilde_long : (f : Facts) (at : ℕ) (t : Text) → 2 ≤ length t → tilde_needed f at (drop 1 t) ≡ []
unfolding tilde_needed
tilde_long f at [] h = absurd (omega arith)
tilde_long f at (c ∷ []) h = absurd (omega arith)
tilde_long f at (c ∷ d ∷ cs) h = refl

pub tilde_alone : (b : List ℕ) (f : Facts) (s : Span) (ps : List Place) → length (text_of b s) < 2 → tilde_noted b f s ps ≡ name_noted f U2 s.start (codes "HOME") ps
unfolding tilde_noted name_noted
tilde_alone b f s ps h = ap (λ xs. ps ++ xs) (tilde_short f s.start (text_of b s) h)

pub tilde_named : (b : List ℕ) (f : Facts) (s : Span) (ps : List Place) → 2 ≤ length (text_of b s) → tilde_noted b f s ps ≡ ps
unfolding tilde_noted
tilde_named b f s ps h = ap (λ xs. ps ++ xs) (tilde_long f s.start (text_of b s) h) ∙ append-nil ps

pub ruleset tildes = (tilde_alone, tilde_named)

-- parts

pub word_folded : (b : List ℕ) (s : Judged) (ps : List Part) → word_judged s (parts_from b ps) ≡ fold (part_step b) s ps
unfolding part_judged parts_from part_step
word_folded b s [] = refl
word_folded b s (x ∷ xs) = word_folded b (part_step b s x) xs

pub part_step-Double : (b : List ℕ) (s : Judged) (at : Span) (ps : List Part) → part_step b s (part.Double at ps) ≡ fold (part_step b) s ps
unfolding part_step part_judged
part_step-Double b s at ps = ap (part_judged s) (rules.part_of-Double b at ps) ∙ word_folded b s ps

pub part_step-Param : (b : List ℕ) (s : Judged) (x : Param) → part_step b s (part.Param x) ≡ operator_step b s x.span.start x.subject x.operator
unfolding part_step part_judged operator_step
part_step-Param b s x = ap (part_judged s) (rules.part_of-Param b x)

pub part_step-Arith : (b : List ℕ) (s : Judged) (at : Span) (e : Expr) → part_step b s (part.Arith at e)
    ≡ judged (expression_assigned b (expression_step b s e).known e) (reads_noted b (expression_step b s e).known.facts (expression_step b s e).places e)
unfolding part_step part_judged expression_step expression_assigned reads_noted
part_step-Arith b s at e = ap (part_judged s) (rules.part_of-Arith b at e)

tilde_judged : (s : Judged) (at : ℕ) (t : Text) → part_judged s (p.Tilde at t) ≡ judged s.known (s.places ++ tilde_needed s.known.facts at t)
unfolding part_judged tilde_needed
tilde_judged s at [] = refl
tilde_judged s at (c ∷ cs) = ap (judged s.known) (sym (append-nil s.places))

pub part_step-Tilde : (b : List ℕ) (s : Judged) (at : Span) → part_step b s (part.Tilde at) ≡ judged s.known (tilde_noted b s.known.facts at s.places)
unfolding part_step tilde_noted
part_step-Tilde b s at = ap (part_judged s) (rules.part_of-Tilde b at) ∙ tilde_judged s at.start (behind_first (text_of b at))

pub part_step-Plain : (b : List ℕ) (s : Judged) (at : Span) → part_step b s (part.Plain at) ≡ s
unfolding part_step part_judged
part_step-Plain b s at = ap (part_judged s) (rules.part_of-Plain b at)

pub part_step-Escaped : (b : List ℕ) (s : Judged) (at : Span) → part_step b s (part.Escaped at) ≡ s
unfolding part_step part_judged
part_step-Escaped b s at = ap (part_judged s) (rules.part_of-Escaped b at)

pub part_step-Single : (b : List ℕ) (s : Judged) (style : SingleStyle) (at : Span) → part_step b s (part.Single style at) ≡ s
unfolding part_step part_judged
part_step-Single b s style at = ap (part_judged s) (rules.part_of-Single b style at)

pub part_step-Command : (b : List ℕ) (s : Judged) (style : CommandStyle) (at : Span) (t : Script) → part_step b s (part.Command style at t) ≡ s
unfolding part_step part_judged
part_step-Command b s style at t = ap (part_judged s) (rules.part_of-Command b style at t)

pub part_step-Joined : (b : List ℕ) (s : Judged) (at : Span) → part_step b s (part.Joined at) ≡ s
unfolding part_step part_judged
part_step-Joined b s at = ap (part_judged s) (rules.part_of-Joined b at)

pub ruleset parts = (part_step-Double, part_step-Param, part_step-Arith, part_step-Tilde, part_step-Plain, part_step-Escaped, part_step-Single, part_step-Command, part_step-Joined)

-- operators

pub operator_step-Value : (b : List ℕ) (s : Judged) (at : ℕ) (subject : Subject)
    → operator_step b s at subject operator.Value ≡ judged s.known (subject_noted b s.known.facts at subject s.places)
unfolding operator_step part_judged subject_noted
operator_step-Value b s at subject = ap (operator_judged s at (trees.parameter_of b subject)) (rules.operator_of-Value b)

pub operator_step-Length : (b : List ℕ) (s : Judged) (at : ℕ) (subject : Subject)
    → operator_step b s at subject operator.Length ≡ judged s.known (subject_noted b s.known.facts at subject s.places)
unfolding operator_step part_judged subject_noted
operator_step-Length b s at subject = ap (operator_judged s at (trees.parameter_of b subject)) (rules.operator_of-Length b)

pub operator_step-Use : (b : List ℕ) (s : Judged) (at : ℕ) (subject : Subject) (by : Action) (colon : Bool) (w : Word)
    → operator_step b s at subject (operator.Use by colon w) ≡ use_step b s by subject w
unfolding operator_step part_judged action_gained inner_gained
operator_step-Use b s at subject by colon w =
    ap (operator_judged s at (trees.parameter_of b subject)) (rules.operator_of-Use b by colon w)
    ∙ ap (λ (t : Judged). judged (action_gained b s.known subject by) t.places) (word_folded b (judged (inner_gained b s.known subject by) s.places) w.parts)

pub operator_step-Remove : (b : List ℕ) (s : Judged) (at : ℕ) (subject : Subject) (by : Removal) (w : Word)
    → operator_step b s at subject (operator.Remove by w)
    ≡ judged s.known (fold (part_step b) (judged s.known (subject_noted b s.known.facts at subject s.places)) w.parts).places
unfolding operator_step part_judged subject_noted
operator_step-Remove b s at subject by w =
    ap (operator_judged s at (trees.parameter_of b subject)) (rules.operator_of-Remove b by w)
    ∙ ap (λ (t : Judged). judged s.known t.places) (word_folded b (judged s.known (subject_noted b s.known.facts at subject s.places)) w.parts)

pub ruleset operators = (operator_step-Value, operator_step-Length, operator_step-Use, operator_step-Remove)

-- expansions in arithmetic

operands_folded : (b : List ℕ) (s : Judged) (es : List (Binary × Expr)) → operands_judged s (operands_from b es) ≡ fold (operand_step b) s es
unfolding part_judged operands_from expression_step
operands_folded b s [] = refl
operands_folded b s (x ∷ xs) = operands_folded b (operand_step b s x) xs

pub expression_step-Constant : (b : List ℕ) (s : Judged) (at : Span) → expression_step b s (expression.Constant at) ≡ s
unfolding expression_step part_judged
expression_step-Constant b s at = ap (expanded_judged s) (rules.expression_of-Constant b at)

pub expression_step-Variable : (b : List ℕ) (s : Judged) (at : Span) → expression_step b s (expression.Variable at) ≡ s
unfolding expression_step part_judged
expression_step-Variable b s at = ap (expanded_judged s) (rules.expression_of-Variable b at)

pub expression_step-Expansion : (b : List ℕ) (s : Judged) (x : Part) → expression_step b s (expression.Expansion x) ≡ part_step b s x
unfolding expression_step part_step part_judged
expression_step-Expansion b s x = ap (expanded_judged s) (rules.expression_of-Expansion b x)

pub expression_step-Parenthesis : (b : List ℕ) (s : Judged) (e : Expr) → expression_step b s (expression.Parenthesis e) ≡ expression_step b s e
unfolding expression_step part_judged
expression_step-Parenthesis b s e = ap (expanded_judged s) (rules.expression_of-Parenthesis b e)

pub expression_step-Unary : (b : List ℕ) (s : Judged) (u : Unary) (e : Expr) → expression_step b s (expression.Unary u e) ≡ expression_step b s e
unfolding expression_step part_judged
expression_step-Unary b s u e = ap (expanded_judged s) (rules.expression_of-Unary b u e)

pub expression_step-Chain : (b : List ℕ) (s : Judged) (e : Expr) (es : List (Binary × Expr)) → expression_step b s (expression.Chain e es) ≡ fold (operand_step b) (expression_step b s e) es
unfolding expression_step part_judged
expression_step-Chain b s e es = ap (expanded_judged s) (rules.expression_of-Chain b e es) ∙ operands_folded b (expanded_judged s (trees.expression_of b e)) es

pub expression_step-Choice : (b : List ℕ) (s : Judged) (c y n : Expr)
    → expression_step b s (expression.Choice c y n) ≡ expression_step b (expression_step b (expression_step b s c) y) n
unfolding expression_step part_judged
expression_step-Choice b s c y n = ap (expanded_judged s) (rules.expression_of-Choice b c y n)

pub expression_step-Assign : (b : List ℕ) (s : Judged) (at : Span) (o : Option Binary) (e : Expr) → expression_step b s (expression.Assign at o e) ≡ expression_step b s e
unfolding expression_step part_judged
expression_step-Assign b s at o e = ap (expanded_judged s) (rules.expression_of-Assign b at o e)

pub ruleset expressions = (expression_step-Constant, expression_step-Variable, expression_step-Expansion, expression_step-Parenthesis, expression_step-Unary, expression_step-Chain, expression_step-Choice, expression_step-Assign)
