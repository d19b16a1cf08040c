-- Clauses of private functions: what is reported of a piece of a tree.
-- POSIX.1-2024, XCU 2.6.2 (parameter expansion), 2.6.4 (arithmetic expansion).
use Rattle.std.specs.Prelude.{ℕ, List, [], ◌∷◌, ◌++◌, codes, fold, Option}
use Rattle.sh_tree.specs.declared.place.Code.{Code}
use Rattle.sh_tree.specs.declared.place.Code.TheVariants.{U2}
use Rattle.sh_tree.specs.declared.place.Place.{Place}
use Rattle.sh_tree.specs.declared.tree.Action.{Action}
use Rattle.sh_tree.specs.declared.tree.Binary.{Binary}
use Rattle.sh_tree.specs.declared.tree.Expr.{Expr}
use Rattle.sh_tree.specs.declared.tree.ParameterOperator.{ParameterOperator}
use Rattle.sh_tree.specs.declared.tree.Part.{Part}
use Rattle.sh_tree.specs.declared.tree.Span.{Span}
use Rattle.sh_tree.specs.declared.tree.Subject.{Subject}
use Rattle.sh_tree.specs.declared.tree.Word.{Word}
use Rattle.sh_tree.specs.standard.Tree.{text_of}
use Rattle.sh_tree.specs.standard.Words.{behind_first}
use Rattle.sh_tree.specs.standard.program.Syntax as p
use Rattle.sh_tree.specs.standard.program.Syntax.{Text}
use Rattle.sh_tree.specs.standard.program.Trees.{parameter_of, operator_of, part_of, expression_of}
use Rattle.sh_domain.specs.Facts.{Facts}
use Rattle.sh_domain.specs.Needs.{needed, name_needed, target_needed, reads_unmet}
use Rattle.sh_demands.specs.Judged.{Judged, judged, part_judged, operator_judged, expanded_judged}
use Rattle.sh_gains.specs.Walks.{action_gained, inner_gained}

-- with the places that arithmetic reads

unfoldable pub name_noted : Facts → Code → ℕ → Text → List Place → List Place
name_noted f code at t ps = ps ++ name_needed f code at t

unfoldable pub parameter_noted : Facts → ℕ → p.Parameter → List Place → List Place
parameter_noted f at parameter ps = ps ++ needed f at parameter

unfoldable pub subject_noted : List ℕ → Facts → ℕ → Subject → List Place → List Place
subject_noted b f at s ps = ps ++ needed f at (parameter_of b s)

-- a tilde without a login name
unfoldable pub tilde_needed : Facts → ℕ → Text → List Place
tilde_needed f at [] = name_needed f U2 at (codes "HOME")
tilde_needed f at (c ∷ cs) = []

unfoldable pub tilde_noted : List ℕ → Facts → Span → List Place → List Place
tilde_noted b f s ps = ps ++ tilde_needed f s.start (behind_first (text_of b s))

unfoldable pub target_noted : List ℕ → Facts → Option Binary → Span → List Place → List Place
target_noted b f o s ps = ps ++ target_needed f o s.start (text_of b s)

unfoldable pub reads_noted : List ℕ → Facts → List Place → Expr → List Place
reads_noted b f ps e = ps ++ reads_unmet f (expression_of b e)

abbrev pub step_noted : List ℕ → Facts → List Place → Binary × Expr → List Place
step_noted b f ps x = reads_noted b f ps x.1

-- what is judged

unfoldable pub part_step : List ℕ → Judged → Part → Judged
part_step b s x = part_judged s (part_of b x)

unfoldable pub operator_step : List ℕ → Judged → ℕ → Subject → ParameterOperator → Judged
operator_step b s at subject o = operator_judged s at (parameter_of b subject) (operator_of b o)

-- the word after an operator is judged aside
abbrev pub use_step : List ℕ → Judged → Action → Subject → Word → Judged
use_step b s a subject w =
    judged (action_gained b s.known subject a) (fold (part_step b) (judged (inner_gained b s.known subject a) s.places) w.parts).places

unfoldable pub expression_step : List ℕ → Judged → Expr → Judged
expression_step b s e = expanded_judged s (expression_of b e)

abbrev pub operand_step : List ℕ → Judged → Binary × Expr → Judged
operand_step b s x = expression_step b s x.1
