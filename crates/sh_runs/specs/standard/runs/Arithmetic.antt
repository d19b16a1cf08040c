-- What an arithmetic expression does, once the expansions in it are done: the names that it reads
-- and assigns, from left to right, which XCU 1.1.2.1 leaves open. Each constant, name and operation
-- takes its integer from the answers, so that nothing here depends on the width of integers.
-- POSIX.1-2024, XCU 1.1.2.1 (arithmetic precision and operations), 2.6.4 (arithmetic expansion).
use Rattle.std.specs.Prelude.{Bool, false, not, if◌then◌else◌, Option, Some, None, ℤ}
use Rattle.sh_tree.specs.declared.tree.Binary.{Binary}
use Rattle.sh_tree.specs.declared.tree.Binary.TheVariants as binary
use Rattle.sh_tree.specs.standard.program.Syntax.{Text, Expression, Constant, Name, Expanded, Parenthesis, Signed, Chain, Choice, Assigned, Operands, no_operands, more_operands}
use Rattle.sh_runs.specs.standard.runs.Environment.{with_variable}
use Rattle.sh_runs.specs.standard.runs.Numbers.{integer_text, is_zero, is_computed}
use Rattle.sh_runs.specs.standard.runs.States.{State, met, taken, with_environment, ending, stray}

-- the value of an expression, and the state afterwards
pub record Computed : Type 0 where
  pub value : ℤ
  pub state : State

abbrev pub computes : ℤ → State → Computed
computes n s = record { value = n; state = s }

-- the next answer is the result (XCU 2.6.4)
abbrev pub answered : State → Computed
answered s = computes (s.given 0).integer (taken s)

-- that of an operation, which may fail, as a division by zero does (XCU 2.6.4, 1.1.2.1)
unfoldable pub operated : State → Computed
operated s = if (s.given 0).fails then computes (s.given 0).integer (ending (taken s)) else answered s

-- first one thing, then another with its value, unless the process ends
unfoldable pub then_computed : Computed → (ℤ → State → Computed) → Computed
then_computed r next = if r.state.ended then r else next r.value r.state

-- a name is read (XCU 2.6.4): it has to be set, and to an integer constant or to nothing
unfoldable pub read_name : Option Text → State → State
read_name None s = met s
read_name (Some t) s = if is_computed t then s else stray s

abbrev pub named : Text → State → State
named name s = read_name (s.environment.variables name) s

-- the right side of `&&` is not computed after zero, nor that of `||` after another value
-- (XCU 1.1.2.1)
unfoldable pub skips : Binary → Bool → Bool
skips binary.And zero = zero
skips binary.Or zero = not zero
skips _ zero = false

-- an operator before `=` reads the name, now or not (XCU 1.1.2.1)
unfoldable pub read_where : Bool → Option Binary → Text → State → State
read_where reads None name s = s
read_where reads (Some operator) name s = if reads then named name s else s

-- the name gets the value (XCU 2.6.4)
abbrev pub stored : Text → Computed → Computed
stored name r = computes r.value (with_environment r.state (with_variable r.state.environment name (Some (integer_text r.value))))

-- a value is assigned to the name (XCU 1.1.2.1), which is read before the value is computed, or
-- after that
unfoldable pub operated_assignment : Bool → Text → Option Binary → (State → Computed) → State → Computed
operated_assignment first name operator value s =
    then_computed (value (read_where first operator name s))
    (λ n t. then_computed (operated (read_where (not first) operator name t)) (λ m u. stored name (computes m u)))

-- An expression is computed (XCU 1.1.2.1, 2.6.4). Of `?:` one side is.
unfoldable mutual
  pub evaluate : Expression → State → Computed
  evaluate (Constant t) s = answered s
  evaluate (Name at name) s = answered (named name s)
  evaluate (Expanded x) s = answered s
  evaluate (Parenthesis e) s = evaluate e s
  evaluate (Signed operator e) s = then_computed (evaluate e s) (λ n t. operated t)
  evaluate (Chain e rest) s = then_computed (evaluate e s) (evaluate_rest rest)
  evaluate (Choice e then_one else_one) s = then_computed (evaluate e s) (λ n t. if is_zero n then evaluate else_one t else evaluate then_one t)
  evaluate (Assigned at name operator e) s = operated_assignment (s.given 0).reads_first name operator (evaluate e) (taken s)

  -- the operands after the first one, whose value is this
  pub evaluate_rest : Operands → ℤ → State → Computed
  evaluate_rest no_operands n s = computes n s
  evaluate_rest (more_operands operator e rest) n s =
      if skips operator (is_zero n) then evaluate_rest rest n s
      else then_computed (then_computed (evaluate e s) (λ m t. operated t)) (evaluate_rest rest)
