-- Clauses of private functions: what a walk keeps of a piece of a tree.
-- POSIX.1-2024, XCU 2.6.3 (command substitution), 2.9 (shell commands).
use Rattle.std.specs.Prelude.{ℕ, List, [], ◌∷◌, Option, Some, None, fold}
use Rattle.sh_tree.specs.declared.tree.AndOr.{AndOr}
use Rattle.sh_tree.specs.declared.tree.Binary.{Binary}
use Rattle.sh_tree.specs.declared.tree.Branch.{Branch, out-Branch}
use Rattle.sh_tree.specs.declared.tree.Clause.{Clause, out-Clause}
use Rattle.sh_tree.specs.declared.tree.Command.{Command}
use Rattle.sh_tree.specs.declared.tree.Element.{Element}
use Rattle.sh_tree.specs.declared.tree.Expr.{Expr}
use Rattle.sh_tree.specs.declared.tree.Item.{Item, out-Item}
use Rattle.sh_tree.specs.declared.tree.Kind.{Kind}
use Rattle.sh_tree.specs.declared.tree.Link.{Link}
use Rattle.sh_tree.specs.declared.tree.LoopKind.{LoopKind}
use Rattle.sh_tree.specs.declared.tree.ParameterOperator.{ParameterOperator}
use Rattle.sh_tree.specs.declared.tree.Part.{Part}
use Rattle.sh_tree.specs.declared.tree.Pipe.{Pipe}
use Rattle.sh_tree.specs.declared.tree.Redirect.{Redirect}
use Rattle.sh_tree.specs.declared.tree.Script.{Script}
use Rattle.sh_tree.specs.declared.tree.Span.{Span}
use Rattle.sh_tree.specs.declared.tree.Subject.{Subject}
use Rattle.sh_tree.specs.declared.tree.Target.{Target}
use Rattle.sh_tree.specs.declared.tree.Word.{Word}
use Rattle.sh_tree.specs.standard.Tree.{text_of}
use Rattle.sh_tree.specs.Lists.{element_from}
use Rattle.sh_tree.specs.standard.program.Syntax as p
use Rattle.sh_tree.specs.standard.program.Trees as trees
use Rattle.sh_tree.specs.standard.program.Words.{operands_in}
use Rattle.sh_domain.specs.declared.rule.FlowRule.{FlowRule}
use Rattle.sh_domain.specs.declared.rule.FlowRule.TheVariants.{F2, F6, F7, F8, F11, F13}
use Rattle.sh_domain.specs.Entries.{alone, in_function, in_loop, item_rule, item_around}
use Rattle.sh_domain.specs.Entries as entries
use Rattle.sh_domain.specs.Gains.{named, words_gains}
use Rattle.sh_domain.specs.Views.{Before, Entry, Head}
use Rattle.sh_rules.specs.declared.around.Around.{Around}
use Rattle.sh_rules.specs.declared.course.Course as walk
use Rattle.sh_domain.specs.Facts.{Facts}
use Rattle.sh_domain.specs.declared.knowledge.Knowledge.{Knowledge}
use Rattle.sh_rules.specs.Settings.{Setting, known_at, gained, without_job}
use Rattle.sh_rules.specs.Behind.{both, in_any_case, link_known, started}
use Rattle.sh_rules.specs.Walked.{Met, Trail, trail, Course, course, branch_body, branch_left, loop_body, clause_body, clause_left, items_walked, list_walked, pipeline_walked, command_walked, kind_walked, elements_walked, redirect_walked, part_walked, operator_walked, expression_walked}
use Rattle.sh_rules.specs.Walks.{around, behind_in, facts_in, link_left, item_left}

-- what is kept of each piece

-- where a walk is in a list
abbrev pub ran : {K : Type 0} → Setting → walk.Course → K → Course K
ran x c s = course c.by (behind_in x c.behind) s

unfoldable pub and_or_kept : {K : Type 0} → Setting → (K → Met → K) → FlowRule → entries.Around → Facts → K → AndOr → K
and_or_kept x w by y k s l = list_walked x w by y k s (trees.and_or_of x.script l)

unfoldable pub pipe_kept : {K : Type 0} → Setting → (K → Met → K) → FlowRule → entries.Around → Facts → K → Pipe → K
pipe_kept x w by y k s q = pipeline_walked x w by y k s (trees.pipeline_of x.script q)

unfoldable pub command_kept : {K : Type 0} → Setting → (K → Met → K) → FlowRule → entries.Around → Facts → K → Command → K
command_kept x w by y k s c = command_walked x w by y k s (trees.command_of x.script c)

unfoldable pub script_ran : {K : Type 0} → Setting → (K → Met → K) → entries.Around → Course K → Script → Course K
script_ran x w y c t = items_walked x w y c (trees.script_of x.script t)

-- an item before which this is known in any case
unfoldable pub item_kept : {K : Type 0} → Setting → (K → Met → K) → FlowRule → entries.Around → Facts → K → Item → K
item_kept x w by y k s i =
    and_or_kept x w (item_rule (out-Item i).background by) (item_around (out-Item i).background y) (started x (out-Item i).background k) s (out-Item i).list

unfoldable pub item_step : {K : Type 0} → Setting → (K → Met → K) → entries.Around → Course K → Item → Course K
item_step x w y c i = course F2 (item_left x c.behind i) (item_kept x w c.by y (in_any_case c.behind) c.kept i)

unfoldable pub link_step : {K : Type 0} → Setting → (K → Met → K) → entries.Around → Course K → Link × Pipe → Course K
link_step x w y c l = course c.by (link_left x c.behind l) (pipe_kept x w c.by y (link_known l.0 c.behind) c.kept l.1)

unfoldable pub kind_kept : {K : Type 0} → Setting → (K → Met → K) → entries.Around → ℕ → Trail K → Kind → K
kind_kept x w y n t k = kind_walked x w y n t (trees.kind_of x.script k)

unfoldable pub target_step : {K : Type 0} → Setting → (K → Met → K) → Trail K → Target → Trail K
target_step x w t r = redirect_walked x w t (trees.target_of x.script r)

abbrev pub redirect_step : {K : Type 0} → Setting → (K → Met → K) → Trail K → Redirect → Trail K
redirect_step x w t r = target_step x w t r.target

unfoldable pub element_step : {K : Type 0} → Setting → (K → Met → K) → Facts → Trail K → Element → Trail K
element_step x w k t e = elements_walked x w k t (element_from x.script e p.no_elements)

unfoldable pub element_gained : Setting → Facts → Element → Facts
element_gained x k e = gained x (words_gains (operands_in (element_from x.script e p.no_elements))) k

unfoldable pub part_step : {K : Type 0} → Setting → (K → Met → K) → Trail K → Part → Trail K
part_step x w t y = part_walked x w t (trees.part_of x.script y)

abbrev pub word_step : {K : Type 0} → Setting → (K → Met → K) → Trail K → Word → Trail K
word_step x w t v = fold (part_step x w) t v.parts

abbrev pub pattern_step : {K : Type 0} → Setting → (K → Met → K) → Facts → K → Word → K
pattern_step x w k s v = (word_step x w (trail k s) v).kept

unfoldable pub operator_step : {K : Type 0} → Setting → (K → Met → K) → Trail K → Subject → ParameterOperator → Trail K
operator_step x w t subject o = operator_walked x w t (trees.parameter_of x.script subject) (trees.operator_of x.script o)

unfoldable pub expression_step : {K : Type 0} → Setting → (K → Met → K) → Trail K → Expr → Trail K
expression_step x w t e = expression_walked x w t (trees.expression_of x.script e)

abbrev pub operand_step : {K : Type 0} → Setting → (K → Met → K) → Trail K → Binary × Expr → Trail K
operand_step x w t e = expression_step x w t e.1

abbrev pub branch_step : {K : Type 0} → Setting → (K → Met → K) → entries.Around → Trail K → Branch → Trail K
branch_step x w y t c =
    branch_left (script_ran x w y (course F6 (both t.known) t.kept) (out-Branch c).condition)
    (script_ran x w y (branch_body (script_ran x w y (course F6 (both t.known) t.kept) (out-Branch c).condition)) (out-Branch c).body)

unfoldable pub otherwise_kept : {K : Type 0} → Setting → (K → Met → K) → entries.Around → Trail K → Option Script → K
otherwise_kept x w y t None = t.kept
otherwise_kept x w y t (Some list) = (script_ran x w y (course F6 (both t.known) t.kept) list).kept

abbrev pub clause_step : {K : Type 0} → Setting → (K → Met → K) → entries.Around → Facts → Trail K → Clause → Trail K
clause_step x w y k t c =
    clause_left (out-Clause c).end (script_ran x w y (clause_body k t.known (fold (pattern_step x w k) t.kept (out-Clause c).patterns)) (out-Clause c).body)

-- a list that this rule enters, if this is known
abbrev pub from_kept : {K : Type 0} → Setting → (K → Met → K) → entries.Around → FlowRule → Facts → K → Script → K
from_kept x w y by k s t = (script_ran x w y (course by (both k) s) t).kept

abbrev pub subshell_kept : {K : Type 0} → Setting → (K → Met → K) → ℕ → K → Script → K
subshell_kept x w n s t = from_kept x w alone F11 (without_job x (known_at x (Before n))) s t

abbrev pub definition_kept : {K : Type 0} → Setting → (K → Met → K) → Span → K → Command → K
definition_kept x w name s c = command_kept x w F13 (in_function (text_of x.script name)) (known_at x (Entry (text_of x.script name))) s c

-- the condition of a loop, and a loop
abbrev pub condition_ran : {K : Type 0} → Setting → (K → Met → K) → entries.Around → ℕ → K → Script → Course K
condition_ran x w y n s condition = script_ran x w y (course F7 (both (known_at x (Head n))) s) condition

abbrev pub loop_kept : {K : Type 0} → Setting → (K → Met → K) → entries.Around → ℕ → LoopKind → K → Script → Script → K
loop_kept x w y n kind s condition body =
    (script_ran x w (in_loop n y) (loop_body kind (condition_ran x w (in_loop n y) n s condition)) body).kept

abbrev pub for_kept : {K : Type 0} → Setting → (K → Met → K) → entries.Around → ℕ → Span → K → Script → K
for_kept x w y n name s body = from_kept x w (in_loop n y) F8 (gained x (named (text_of x.script name ∷ [])) (known_at x (Head n))) s body

unfoldable pub for_words_kept : {K : Type 0} → Setting → (K → Met → K) → Trail K → Option (List Word) → K
for_words_kept x w t None = t.kept
for_words_kept x w t (Some ws) = (fold (word_step x w) t ws).kept

abbrev pub simple_kept : {K : Type 0} → Setting → (K → Met → K) → Trail K → List Element → K
simple_kept x w t es = (fold (element_step x w (fold (element_gained x) t.known es)) t es).kept

-- a command as a visitor meets it
abbrev pub met_in : Setting → FlowRule → Around → Knowledge → Command → Met
met_in x by y k c = record { command = trees.command_of x.script c; rule = by; around = around x.script y; known = facts_in x k }
