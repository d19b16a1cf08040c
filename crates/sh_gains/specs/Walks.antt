-- Clauses of private functions: what is known after a piece of a tree.
-- POSIX.1-2024, XCU 2.6.2 (parameter expansion), 2.6.4 (arithmetic expansion), 2.9.1 (simple
-- commands).
use Rattle.std.specs.Prelude.{ℕ, List}
use Rattle.sh_tree.specs.declared.tree.Action.{Action}
use Rattle.sh_tree.specs.declared.tree.Binary.{Binary}
use Rattle.sh_tree.specs.declared.tree.Expr.{Expr}
use Rattle.sh_tree.specs.declared.tree.ParameterOperator.{ParameterOperator}
use Rattle.sh_tree.specs.declared.tree.Part.{Part}
use Rattle.sh_tree.specs.declared.tree.Redirect.{Redirect}
use Rattle.sh_tree.specs.declared.tree.Special.{Special}
use Rattle.sh_tree.specs.declared.tree.Subject.{Subject}
use Rattle.sh_tree.specs.declared.tree.Word.{Word}
use Rattle.sh_tree.specs.Lists.{parts_from, element_from}
use Rattle.sh_tree.specs.standard.program.Syntax as p
use Rattle.sh_tree.specs.standard.program.Trees.{parameter_of, operator_of, part_of, expression_of, target_of}
use Rattle.sh_domain.specs.Gains.{named, sure, surely, operator_gains, part_gains, word_gains, expanded_gains, assigned_in, redirect_gains, words_gains}
use Rattle.sh_gains.specs.Knowing.{inner_gains, Knowing, gained, action_gains}
use Rattle.sh_tree.specs.declared.tree.Element.{Element}
use Rattle.sh_tree.specs.standard.program.Words.{operands_in}

unfoldable pub special_gained : Knowing → Special → Knowing
special_gained k s = gained (sure (p.Special s)) k

unfoldable pub subject_gained : List ℕ → Knowing → Subject → Knowing
subject_gained b k s = gained (sure (parameter_of b s)) k

unfoldable pub action_gained : List ℕ → Knowing → Subject → Action → Knowing
action_gained b k s a = gained (action_gains (parameter_of b s) a) k

unfoldable pub inner_gained : List ℕ → Knowing → Subject → Action → Knowing
inner_gained b k s a = gained (inner_gains (parameter_of b s) a) k

unfoldable pub operator_gained : List ℕ → Knowing → Subject → ParameterOperator → Knowing
operator_gained b k s o = gained (operator_gains (parameter_of b s) (operator_of b o)) k

unfoldable pub part_gained : List ℕ → Knowing → Part → Knowing
part_gained b k x = gained (part_gains (part_of b x)) k

abbrev pub word_gained : List ℕ → Knowing → Word → Knowing
word_gained b k w = gained (word_gains (parts_from b w.parts)) k

abbrev pub redirect_gained : List ℕ → Knowing → Redirect → Knowing
redirect_gained b k r = gained (redirect_gains (target_of b r.target)) k

-- of the expansions in arithmetic
unfoldable pub expression_gained : List ℕ → Knowing → Expr → Knowing
expression_gained b k e = gained (expanded_gains (expression_of b e)) k

abbrev pub step_gained : List ℕ → Knowing → Binary × Expr → Knowing
step_gained b k x = expression_gained b k x.1

-- of the names that arithmetic assigns
unfoldable pub expression_assigned : List ℕ → Knowing → Expr → Knowing
expression_assigned b k e = gained (named (assigned_in (expression_of b e))) k

unfoldable pub step_assigned : List ℕ → Knowing → Binary × Expr → Knowing
step_assigned b k x = gained (named (surely x.0 (assigned_in (expression_of b x.1)))) k

-- what an element leaves known of the words
unfoldable pub element_gained : List ℕ → Knowing → Element → Knowing
element_gained b k e = gained (words_gains (operands_in (element_from b e p.no_elements))) k
