-- What is kept so far, with what one command requires: what the flow rules of `sh_domain` require
-- of views, they require of facts here.
-- The standard has no such rules: what is claimed of a place has to be known there in every run.
use Rattle.std.specs.Prelude.{ℕ, Bool, true, false, [], ◌∷◌}
use Rattle.sh_tree.specs.declared.tree.LoopKind.{LoopKind}
use Rattle.sh_tree.specs.declared.tree.LoopKind.TheVariants as loop
use Rattle.sh_tree.specs.standard.program.Syntax as p
use Rattle.sh_tree.specs.standard.program.Syntax.{Text}
use Rattle.sh_domain.specs.declared.rule.FlowRule.{FlowRule}
use Rattle.sh_domain.specs.declared.rule.FlowRule.TheVariants.{F6, F7, F8, F9, F10, F11, F13}
use Rattle.sh_domain.specs.Facts.{Facts, NotReached, meet}
use Rattle.sh_domain.specs.Faults.{Fault}
use Rattle.sh_domain.specs.Gains.{named, word_gains, words_gains}
use Rattle.sh_domain.specs.Knowledge.{among}
use Rattle.sh_domain.specs.Rules.{is_last, matches_always}
use Rattle.sh_domain.specs.Views.{Before, AfterZero, AfterNonzero, Head, ReturnsZero, ReturnsNonzero, step}
use Rattle.sh_domain.specs.Views as views
use Rattle.sh_rules.specs.Asking.{Asking}
use Rattle.sh_rules.specs.Settings.{Setting, certificate, known_at, gained}
use Rattle.sh_rules.specs.Behind.{Behind, both, in_any_case, turns, falls, items_behind}
use Rattle.sh_rules.specs.Walked.{Trail, trail}

abbrev pub fault : ℕ → FlowRule → Fault
fault n rule = record { number = n; rule = rule }

-- the function is defined
unfoldable pub defined : Setting → Text → Facts → Facts
defined x name k = among x.names (step (certificate x) (views.Define name) k)

-- a loop ends if its condition does not have it go on
unfoldable pub ends : LoopKind → Behind → Facts
ends loop.While o = o.nonzero
ends loop.Until o = o.zero

-- after the words of `for`
unfoldable pub behind_list : Setting → p.ForWords → Facts → Facts
behind_list x p.every_parameter k = k
behind_list x (p.listed ws) k = gained x (words_gains ws) k

-- a list that is entered, if this is known
abbrev pub list_left : Setting → Facts → p.Items → Behind
list_left x k list = items_behind x (both k) list

module _ {K : Type 0} (a : Asking K) (x : Setting) where
  -- of what is claimed after the command
  unfoldable pub leaves_told : Fault → Behind → K → K
  leaves_told f o kept = a.bound x (AfterNonzero f.number) f o.nonzero (a.bound x (AfterZero f.number) f o.zero kept)

  -- `if` leaves what its branches leave; what is known after the conditions goes along
  unfoldable pub branches_told : ℕ → Trail K → p.Branches → Trail K
  branches_told n t p.no_branches = t
  branches_told n t (p.more_branches condition body rest) =
      branches_told n
      (trail (list_left x t.known condition).nonzero
      (leaves_told (fault n F6) (list_left x (list_left x t.known condition).zero body) t.kept))
      rest

  unfoldable pub otherwise_told : ℕ → Trail K → p.Otherwise → K
  otherwise_told n t p.no_else = a.bound x (AfterZero n) (fault n F6) t.known t.kept
  otherwise_told n t (p.else_of list) = leaves_told (fault n F6) (list_left x t.known list) t.kept

  -- the head of a loop is entered from before it and from the end of each turn
  unfoldable pub loop_told : ℕ → LoopKind → Facts → Behind → Behind → K → K
  loop_told n kind k condition turn kept =
      leaves_told (fault n F7) (both (ends kind condition))
      (a.bound x (Head n) (fault n F7) (in_any_case turn) (a.bound x (Head n) (fault n F7) k kept))

  unfoldable pub for_told : ℕ → Facts → Behind → K → K
  for_told n k turn kept =
      leaves_told (fault n F8) (both (known_at x (Head n)))
      (a.bound x (Head n) (fault n F8) (in_any_case turn) (a.bound x (Head n) (fault n F8) k kept))

  -- `case` leaves what the clauses leave that do not go on with the next; what falls into the next
  -- goes along
  unfoldable pub clause_told : ℕ → Bool → Behind → K → K
  clause_told n true o kept = leaves_told (fault n F9) o kept
  clause_told n false o kept = kept

  unfoldable pub clauses_told : ℕ → Facts → Trail K → p.Clauses → Trail K
  clauses_told n k t p.no_clauses = t
  clauses_told n k t (p.more_clauses patterns body end rest) =
      clauses_told n k
      (trail (falls end (list_left x (meet k t.known) body)) (clause_told n (is_last end rest) (list_left x (meet k t.known) body) t.kept))
      rest

  -- unless some pattern is `*`, no clause may match
  unfoldable pub unmatched_told : ℕ → Bool → Facts → K → K
  unmatched_told n true k kept = kept
  unmatched_told n false k kept = a.bound x (AfterZero n) (fault n F9) k kept

  -- the body of a function is where it returns
  unfoldable pub body_told : Text → p.Command → K → K
  body_told f (p.command m offset kind rs) kept =
      a.bound x (ReturnsNonzero f) (fault m F13) (known_at x (AfterNonzero m)) (a.bound x (ReturnsZero f) (fault m F13) (known_at x (AfterZero m)) kept)

  -- what a compound command claims, after whose redirections this is known
  unfoldable pub compound_told : ℕ → Facts → p.Kind → K → K
  compound_told n k (p.Simple es) kept = kept
  compound_told n k (p.Group list) kept = leaves_told (fault n F10) (list_left x k list) kept
  compound_told n k (p.Subshell list) kept = leaves_told (fault n F11) (both (known_at x (Before n))) kept
  compound_told n k (p.Conditional branches otherwise) kept = otherwise_told n (branches_told n (trail k kept) branches) otherwise
  compound_told n k (p.Loop kind condition body) kept =
      loop_told n kind k (list_left x (known_at x (Head n)) condition) (list_left x (turns kind (list_left x (known_at x (Head n)) condition)) body) kept
  compound_told n k (p.For name ws body) kept =
      for_told n (behind_list x ws k) (list_left x (gained x (named (name ∷ [])) (known_at x (Head n))) body) kept
  compound_told n k (p.Case w cs) kept =
      unmatched_told n (matches_always cs) (gained x (word_gains w) k)
      (clauses_told n (gained x (word_gains w) k) (trail NotReached kept) cs).kept
  compound_told n k (p.Define name body) kept =
      body_told name body (a.bound x (AfterZero n) (fault n F13) (defined x name (known_at x (Before n))) kept)

  -- if a redirection of a compound command fails, what was known before it is known
  unfoldable pub redirects_told : ℕ → Bool → K → K
  redirects_told n true kept = a.bound x (AfterNonzero n) (fault n F10) (known_at x (Before n)) kept
  redirects_told n false kept = kept
