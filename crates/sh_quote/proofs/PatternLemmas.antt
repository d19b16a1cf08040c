-- Whether a piece of a word begins a pattern, by the pieces one level below it.
use Rattle.std.proofs.Common.{◌≡◌, ℕ, Bool, false, ◌||◌, List, [], ◌∷◌, refl, ap, ◌∙◌}
use Rattle.std.specs.List.{list_any}
use Rattle.sh_tree.specs.declared.tree.Action.{Action}
use Rattle.sh_tree.specs.declared.tree.CommandStyle.{CommandStyle}
use Rattle.sh_tree.specs.declared.tree.Expr.{Expr}
use Rattle.sh_tree.specs.declared.tree.ParameterOperator.TheVariants as operator
use Rattle.sh_tree.specs.declared.tree.Param.{Param}
use Rattle.sh_tree.specs.declared.tree.Part.{Part}
use Rattle.sh_tree.specs.declared.tree.Part.TheVariants as part
use Rattle.sh_tree.specs.declared.tree.Removal.{Removal}
use Rattle.sh_tree.specs.declared.tree.Script.{Script}
use Rattle.sh_tree.specs.declared.tree.SingleStyle.{SingleStyle}
use Rattle.sh_tree.specs.declared.tree.Span.{Span}
use Rattle.sh_tree.specs.declared.tree.Word.{Word}
use Rattle.sh_tree.specs.standard.Tree.{text_of}
use Rattle.sh_tree.specs.Lists.{parts_from}
use Rattle.sh_tree.specs.standard.program.Syntax as p
use Rattle.sh_tree.specs.standard.program.Trees as trees
use Rattle.sh_tree.proofs.ProgramRules as rules
use Rattle.sh_runs.specs.Quoting.{part_begins_pattern, word_begins_pattern}
use Rattle.sh_runs.specs.standard.runs.Fields.{begins_pattern}
use Rattle.sh_quote.specs.Patterns.{operator_begins_pattern, part_begins, parts_begin, operator_begins}

pub parts_listed : (b : List ℕ) (ps : List Part) → word_begins_pattern (parts_from b ps) ≡ parts_begin b ps
unfolding word_begins_pattern part_begins parts_from
parts_listed b [] = refl
parts_listed b (x ∷ xs) = ap (λ t. part_begins b x || t) (parts_listed b xs)

-- operators

pub operator_begins-Use : (b : List ℕ) (a : Action) (colon : Bool) (w : Word) → operator_begins b (operator.Use a colon w) ≡ parts_begin b w.parts
unfolding operator_begins operator_begins_pattern
operator_begins-Use b a colon w = ap operator_begins_pattern (rules.operator_of-Use b a colon w) ∙ parts_listed b w.parts

pub operator_begins-Remove : (b : List ℕ) (r : Removal) (w : Word) → operator_begins b (operator.Remove r w) ≡ false
unfolding operator_begins operator_begins_pattern
operator_begins-Remove b r w = ap operator_begins_pattern (rules.operator_of-Remove b r w)

pub operator_begins-Value : (b : List ℕ) → operator_begins b operator.Value ≡ false
unfolding operator_begins operator_begins_pattern
operator_begins-Value b = ap operator_begins_pattern (rules.operator_of-Value b)

pub operator_begins-Length : (b : List ℕ) → operator_begins b operator.Length ≡ false
unfolding operator_begins operator_begins_pattern
operator_begins-Length b = ap operator_begins_pattern (rules.operator_of-Length b)

pub ruleset operators = (operator_begins-Use, operator_begins-Remove, operator_begins-Value, operator_begins-Length)

-- parts

expansion_begins : (at : ℕ) (parameter : p.Parameter) (o : p.Operator) → part_begins_pattern (p.Expansion at parameter o) ≡ operator_begins_pattern o
unfolding word_begins_pattern operator_begins_pattern
expansion_begins at parameter (p.Use a colon w) = refl
expansion_begins at parameter (p.Remove removal w) = refl
expansion_begins at parameter p.Value = refl
expansion_begins at parameter p.Length = refl

pub part_begins-Param : (b : List ℕ) (x : Param) → part_begins b (part.Param x) ≡ operator_begins b x.operator
unfolding part_begins operator_begins
part_begins-Param b x = ap part_begins_pattern (rules.part_of-Param b x) ∙ expansion_begins x.span.start (trees.parameter_of b x.subject) (trees.operator_of b x.operator)

pub part_begins-Plain : (b : List ℕ) (s : Span) → part_begins b (part.Plain s) ≡ list_any begins_pattern (text_of b s)
unfolding part_begins word_begins_pattern
part_begins-Plain b s = ap part_begins_pattern (rules.part_of-Plain b s)

pub part_begins-Double : (b : List ℕ) (s : Span) (ps : List Part) → part_begins b (part.Double s ps) ≡ false
unfolding part_begins word_begins_pattern
part_begins-Double b s ps = ap part_begins_pattern (rules.part_of-Double b s ps)

pub part_begins-Arith : (b : List ℕ) (s : Span) (e : Expr) → part_begins b (part.Arith s e) ≡ false
unfolding part_begins word_begins_pattern
part_begins-Arith b s e = ap part_begins_pattern (rules.part_of-Arith b s e)

pub part_begins-Escaped : (b : List ℕ) (s : Span) → part_begins b (part.Escaped s) ≡ false
unfolding part_begins word_begins_pattern
part_begins-Escaped b s = ap part_begins_pattern (rules.part_of-Escaped b s)

pub part_begins-Single : (b : List ℕ) (style : SingleStyle) (s : Span) → part_begins b (part.Single style s) ≡ false
unfolding part_begins word_begins_pattern
part_begins-Single b style s = ap part_begins_pattern (rules.part_of-Single b style s)

pub part_begins-Command : (b : List ℕ) (style : CommandStyle) (s : Span) (t : Script) → part_begins b (part.Command style s t) ≡ false
unfolding part_begins word_begins_pattern
part_begins-Command b style s t = ap part_begins_pattern (rules.part_of-Command b style s t)

pub part_begins-Tilde : (b : List ℕ) (s : Span) → part_begins b (part.Tilde s) ≡ false
unfolding part_begins word_begins_pattern
part_begins-Tilde b s = ap part_begins_pattern (rules.part_of-Tilde b s)

pub part_begins-Joined : (b : List ℕ) (s : Span) → part_begins b (part.Joined s) ≡ false
unfolding part_begins word_begins_pattern
part_begins-Joined b s = ap part_begins_pattern (rules.part_of-Joined b s)

pub ruleset parts = (part_begins-Param, part_begins-Plain, part_begins-Double, part_begins-Arith, part_begins-Escaped, part_begins-Single, part_begins-Command, part_begins-Tilde, part_begins-Joined)
