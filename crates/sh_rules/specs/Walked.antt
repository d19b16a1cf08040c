-- What a walk over a script keeps. It visits each command with the rule that enters it, what is
-- round it and what is known there: the commands as `sh_domain` enters them, in its order. Along
-- words and redirections what they leave known goes with it.
-- POSIX.1-2024, XCU 2.6.3 (command substitution), 2.9 (shell commands), 2.13 (shell execution
-- environment).
use Rattle.std.specs.Prelude.{ℕ, [], ◌∷◌}
use Rattle.sh_tree.specs.declared.tree.ClauseEnd.{ClauseEnd}
use Rattle.sh_tree.specs.declared.tree.LoopKind.{LoopKind}
use Rattle.sh_tree.specs.standard.program.Syntax as p
use Rattle.sh_tree.specs.standard.program.Words.{operands_in}
use Rattle.sh_domain.specs.declared.rule.FlowRule.{FlowRule}
use Rattle.sh_domain.specs.declared.rule.FlowRule.TheVariants.{F1, F2, F3, F6, F7, F8, F9, F10, F11, F13}
use Rattle.sh_domain.specs.Entries.{Around, alone, in_loop, in_function, is_long, item_rule, item_around, part_rule, part_around}
use Rattle.sh_domain.specs.Facts.{Facts, NotReached, meet}
use Rattle.sh_domain.specs.Gains.{Gains, named, assigned_in, words_gains}
use Rattle.sh_domain.specs.Views.{Before, Head, Entry}
use Rattle.sh_gains.specs.Knowing.{inner_gains, action_gains}
use Rattle.sh_rules.specs.Settings.{Setting, known_at, gained, without_job}
use Rattle.sh_rules.specs.Behind.{Behind, both, in_any_case, link_known, turns, falls, started, pipeline_behind, link_behind, item_behind}

-- a command, the rule that enters it, what is round it, and what is known there
pub record Met : Type 0 where
  pub command : p.Command
  pub rule : FlowRule
  pub around : Around
  pub known : Facts

-- along a word: what is known, and what is kept
pub record Trail (K : Type 0) : Type 0 where
  pub known : Facts
  pub kept : K

abbrev pub trail : {K : Type 0} → Facts → K → Trail K
trail k s = record { known = k; kept = s }

abbrev pub trail_gained : {K : Type 0} → Setting → Gains → Trail K → Trail K
trail_gained x g t = trail (gained x g t.known) t.kept

-- along a list: the rule that enters what comes next, what is known there, and what is kept
pub record Course (K : Type 0) : Type 0 where
  pub by : FlowRule
  pub behind : Behind
  pub kept : K

abbrev pub course : {K : Type 0} → FlowRule → Behind → K → Course K
course by o s = record { by = by; behind = o; kept = s }

-- the body of a loop, after its condition
abbrev pub loop_body : {K : Type 0} → LoopKind → Course K → Course K
loop_body kind c = course F7 (both (turns kind c.behind)) c.kept

-- the list of a branch, after its condition; and what comes next, if the condition was not zero
abbrev pub branch_body : {K : Type 0} → Course K → Course K
branch_body c = course F6 (both c.behind.zero) c.kept

abbrev pub branch_left : {K : Type 0} → Course K → Course K → Trail K
branch_left c d = trail c.behind.nonzero d.kept

-- the list of a clause, after the word and what falls into it; and what falls into the next
abbrev pub clause_body : {K : Type 0} → Facts → Facts → K → Course K
clause_body k fallen s = course F9 (both (meet k fallen)) s

abbrev pub clause_left : {K : Type 0} → ClauseEnd → Course K → Trail K
clause_left end c = trail (falls end c.behind) c.kept

-- nothing falls into the first clause
abbrev pub nothing_falls : {K : Type 0} → K → Trail K
nothing_falls s = trail NotReached s

module _ {K : Type 0} (x : Setting) (w : K → Met → K) where
  unfoldable mutual
    pub items_walked : Around → Course K → p.Items → Course K
    items_walked y c p.no_items = c
    items_walked y c (p.more_items list background rest) =
        items_walked y
        (course F2 (item_behind x c.behind background list)
        (list_walked (item_rule background c.by) (item_around background y) (started x background (in_any_case c.behind)) c.kept list))
        rest

    pub list_walked : FlowRule → Around → Facts → K → p.AndOr → K
    list_walked by y k s (p.and_or first rest) = (links_walked y (course F3 (pipeline_behind x k first) (pipeline_walked by y k s first)) rest).kept

    pub links_walked : Around → Course K → p.Links → Course K
    links_walked y c p.no_links = c
    links_walked y c (p.more_links l q rest) =
        links_walked y (course c.by (link_behind x c.behind l q) (pipeline_walked c.by y (link_known l c.behind) c.kept q)) rest

    pub pipeline_walked : FlowRule → Around → Facts → K → p.Pipeline → K
    pipeline_walked by y k s (p.pipeline negated cs) = commands_walked (part_rule (is_long cs) by) (part_around (is_long cs) y) (started x (is_long cs) k) s cs

    pub commands_walked : FlowRule → Around → Facts → K → p.Commands → K
    commands_walked by y k s p.no_commands = s
    commands_walked by y k s (p.more_commands c cs) = commands_walked by y k (command_walked by y k s c) cs

    -- the command itself, then what is in its redirections, then what is in it
    pub command_walked : FlowRule → Around → Facts → K → p.Command → K
    command_walked by y k s (p.command n at kind rs) =
        kind_walked y n
        (redirects_walked (trail (known_at x (Before n)) (w s (record { command = p.command n at kind rs; rule = by; around = y; known = k }))) rs)
        kind

    pub kind_walked : Around → ℕ → Trail K → p.Kind → K
    kind_walked y n t (p.Simple es) = (elements_walked (gained x (words_gains (operands_in es)) t.known) t es).kept
    kind_walked y n t (p.Group list) = (items_walked y (course F10 (both t.known) t.kept) list).kept
    kind_walked y n t (p.Subshell list) = (items_walked alone (course F11 (both (without_job x (known_at x (Before n)))) t.kept) list).kept
    kind_walked y n t (p.Conditional branches otherwise) = otherwise_walked y (branches_walked y t branches) otherwise
    kind_walked y n t (p.Loop kind condition body) =
        (items_walked (in_loop n y) (loop_body kind (items_walked (in_loop n y) (course F7 (both (known_at x (Head n))) t.kept) condition)) body).kept
    kind_walked y n t (p.For name ws body) =
        (items_walked (in_loop n y) (course F8 (both (gained x (named (name ∷ [])) (known_at x (Head n)))) (for_words_walked t ws).kept) body).kept
    kind_walked y n t (p.Case word cs) = (clauses_walked y (word_walked t word).known (nothing_falls (word_walked t word).kept) cs).kept
    kind_walked y n t (p.Define name body) = command_walked F13 (in_function name) (known_at x (Entry name)) t.kept body

    -- the words of a simple command, and after them each redirection and each value by itself
    pub elements_walked : Facts → Trail K → p.Elements → Trail K
    elements_walked k t p.no_elements = t
    elements_walked k t (p.assignment name value es) = elements_walked k (trail t.known (word_walked (trail k t.kept) value).kept) es
    elements_walked k t (p.operand v es) = elements_walked k (word_walked t v) es
    elements_walked k t (p.redirection r es) = elements_walked k (trail t.known (redirect_walked (trail k t.kept) r).kept) es

    pub redirect_walked : Trail K → p.Redirect → Trail K
    redirect_walked t (p.File v) = word_walked t v
    redirect_walked t (p.Here v) = word_walked t v

    pub redirects_walked : Trail K → p.Redirects → Trail K
    redirects_walked t p.no_redirects = t
    redirects_walked t (p.more_redirects r rs) = redirects_walked (redirect_walked t r) rs

    -- a condition, and its list if it is zero
    pub branches_walked : Around → Trail K → p.Branches → Trail K
    branches_walked y t p.no_branches = t
    branches_walked y t (p.more_branches condition body rest) =
        branches_walked y
        (branch_left (items_walked y (course F6 (both t.known) t.kept) condition)
        (items_walked y (branch_body (items_walked y (course F6 (both t.known) t.kept) condition)) body))
        rest

    pub otherwise_walked : Around → Trail K → p.Otherwise → K
    otherwise_walked y t p.no_else = t.kept
    otherwise_walked y t (p.else_of list) = (items_walked y (course F6 (both t.known) t.kept) list).kept

    pub for_words_walked : Trail K → p.ForWords → Trail K
    for_words_walked t p.every_parameter = t
    for_words_walked t (p.listed ws) = words_walked t ws

    pub words_walked : Trail K → p.Words → Trail K
    words_walked t p.no_words = t
    words_walked t (p.more_words v vs) = words_walked (word_walked t v) vs

    -- after the word of `case`; what falls into the next list goes along
    pub clauses_walked : Around → Facts → Trail K → p.Clauses → Trail K
    clauses_walked y k t p.no_clauses = t
    clauses_walked y k t (p.more_clauses patterns body end rest) =
        clauses_walked y k (clause_left end (items_walked y (clause_body k t.known (patterns_walked k t.kept patterns)) body)) rest

    -- each pattern is judged by itself
    pub patterns_walked : Facts → K → p.Words → K
    patterns_walked k s p.no_words = s
    patterns_walked k s (p.more_words v vs) = patterns_walked k (word_walked (trail k s) v).kept vs

    pub word_walked : Trail K → p.Word → Trail K
    word_walked t p.no_parts = t
    word_walked t (p.more_parts part v) = word_walked (part_walked t part) v

    pub part_walked : Trail K → p.Part → Trail K
    part_walked t (p.Double v) = word_walked t v
    part_walked t (p.Expansion at parameter operator) = operator_walked t parameter operator
    part_walked t (p.Arithmetic at e) = trail_gained x (named (assigned_in e)) (expression_walked t e)
    part_walked t (p.Substitution at list) = trail t.known (items_walked alone (course F11 (both (without_job x t.known)) t.kept) list).kept
    part_walked t _ = t

    -- what the word after an operator would set is not counted
    pub operator_walked : Trail K → p.Parameter → p.Operator → Trail K
    operator_walked t parameter (p.Use action colon v) =
        trail (gained x (action_gains parameter action) t.known) (word_walked (trail_gained x (inner_gains parameter action) t) v).kept
    operator_walked t parameter (p.Remove removal v) = trail t.known (word_walked t v).kept
    operator_walked t parameter _ = t

    pub expression_walked : Trail K → p.Expression → Trail K
    expression_walked t (p.Expanded part) = part_walked t part
    expression_walked t (p.Parenthesis e) = expression_walked t e
    expression_walked t (p.Signed operator e) = expression_walked t e
    expression_walked t (p.Chain e rest) = operands_walked (expression_walked t e) rest
    expression_walked t (p.Choice e then_one else_one) = expression_walked (expression_walked (expression_walked t e) then_one) else_one
    expression_walked t (p.Assigned at name operator e) = expression_walked t e
    expression_walked t _ = t

    pub operands_walked : Trail K → p.Operands → Trail K
    operands_walked t p.no_operands = t
    operands_walked t (p.more_operands operator e rest) = operands_walked (expression_walked t e) rest

  -- of a script, if this is known at its start
  abbrev pub script_walked : Facts → K → p.Items → K
  script_walked k s t = (items_walked alone (course F1 (both k) s) t).kept
