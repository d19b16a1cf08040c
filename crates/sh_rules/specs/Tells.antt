-- Clauses of private functions: what is reported of a piece of a tree.
-- POSIX.1-2024, XCU 2.9.4 (compound commands), 2.9.5 (function definitions).
use Rattle.std.specs.Prelude.{ℕ, Bool, false, List, [], ◌∷◌, codes, fold, Option, Some, None, option_map}
use Rattle.std.specs.List.{list_any}
use Rattle.std.specs.Str.{bytes_eq}
use Rattle.sh_tree.specs.declared.tree.Branch.{Branch, out-Branch}
use Rattle.sh_tree.specs.declared.tree.Clause.{Clause, out-Clause}
use Rattle.sh_tree.specs.declared.tree.ClauseEnd.{ClauseEnd}
use Rattle.sh_tree.specs.declared.tree.Command.{Command, out-Command}
use Rattle.sh_tree.specs.declared.tree.Kind.{Kind}
use Rattle.sh_tree.specs.declared.tree.LoopKind.{LoopKind}
use Rattle.sh_tree.specs.declared.tree.Part.{Part, Plain}
use Rattle.sh_tree.specs.declared.tree.Script.{Script}
use Rattle.sh_tree.specs.declared.tree.Span.{Span}
use Rattle.sh_tree.specs.declared.tree.Word.{Word}
use Rattle.sh_tree.specs.standard.Tree.{text_of}
use Rattle.sh_tree.specs.Lists.{parts_from, clauses_from}
use Rattle.sh_tree.specs.standard.program.Syntax.{Text}
use Rattle.sh_tree.specs.standard.program.Trees as trees
use Rattle.sh_domain.specs.declared.certificate.Facts as value
use Rattle.sh_domain.specs.declared.rule.FlowRule.TheVariants.{F6, F13}
use Rattle.sh_domain.specs.Certificates.{claim_of, in_byte_order}
use Rattle.sh_domain.specs.Facts.{Facts, NotReached, Claim, meet}
use Rattle.sh_domain.specs.Faults.{Fault}
use Rattle.sh_domain.specs.Gains.{named, word_gains}
use Rattle.sh_domain.specs.Rules.{is_last}
use Rattle.sh_domain.specs.Views.{Before, AfterZero, AfterNonzero, Head, ReturnsZero, ReturnsNonzero}
use Rattle.sh_rules.specs.declared.fault.Fault as code
use Rattle.sh_rules.specs.declared.fault.Least.{Least}
use Rattle.sh_rules.specs.Asking.{Asking}
use Rattle.sh_rules.specs.Settings.{Setting, known_at, gained}
use Rattle.sh_rules.specs.Behind.{Behind, both, turns, falls}
use Rattle.sh_rules.specs.Walked.{Trail, trail}
use Rattle.sh_rules.specs.Walks.{script_behind}
use Rattle.sh_rules.specs.Bounds.{fault, defined, leaves_told, loop_told, for_told, clause_told, clauses_told, unmatched_told, compound_told}

-- what is reported

abbrev pub fault_of : code.Fault → Fault
fault_of f = record { number = f.number; rule = f.rule }

abbrev pub least_of : Least → Option Fault
least_of l = option_map fault_of l.fault

-- what a kept fact claims
unfoldable pub claim_in : Setting → value.Facts → Claim
claim_in x f = claim_of (in_byte_order x.names) x.kept.rows f

-- of each piece

abbrev pub script_left : Setting → Facts → Script → Behind
script_left x k t = script_behind x (both k) t

unfoldable pub branch_told : {K : Type 0} → Asking K → Setting → ℕ → Trail K → Branch → Trail K
branch_told a x n t c =
    trail (script_left x t.known (out-Branch c).condition).nonzero
    (leaves_told a x (fault n F6) (script_left x (script_left x t.known (out-Branch c).condition).zero (out-Branch c).body) t.kept)

unfoldable pub otherwise_told : {K : Type 0} → Asking K → Setting → ℕ → Trail K → Option Script → K
otherwise_told a x n t None = a.bound x (AfterZero n) (fault n F6) t.known t.kept
otherwise_told a x n t (Some list) = leaves_told a x (fault n F6) (script_left x t.known list) t.kept

-- whether a clause leaves what the whole does: none follows that it could go on with
unfoldable pub ends_case : List ℕ → ClauseEnd → List Clause → Bool
ends_case b end cs = is_last end (clauses_from b cs)

-- the whole word is `*`
unfoldable pub is_star : List ℕ → List Part → Bool
is_star b (Plain s ∷ []) = bytes_eq (text_of b s) (codes "*")
is_star b _ = false

abbrev pub has_star : List ℕ → Clause → Bool
has_star b c = list_any (λ w. is_star b w.parts) (out-Clause c).patterns

unfoldable pub clauses_left : {K : Type 0} → Asking K → Setting → ℕ → Facts → Trail K → List Clause → Trail K
clauses_left a x n k t cs = clauses_told a x n k t (clauses_from x.script cs)

-- a clause, which may be the last
abbrev pub clause_left : {K : Type 0} → Asking K → Setting → ℕ → Facts → Trail K → Bool → Clause → Trail K
clause_left a x n k t is_last c =
    trail (falls (out-Clause c).end (script_left x (meet k t.known) (out-Clause c).body))
    (clause_told a x n is_last (script_left x (meet k t.known) (out-Clause c).body) t.kept)

abbrev pub word_gained : Setting → Facts → Word → Facts
word_gained x k w = gained x (word_gains (parts_from x.script w.parts)) k

-- after the words of `for`
unfoldable pub for_words_gained : Setting → Facts → Option (List Word) → Facts
for_words_gained x k None = k
for_words_gained x k (Some ws) = fold (word_gained x) k ws

abbrev pub loop_left : {K : Type 0} → Asking K → Setting → ℕ → LoopKind → Facts → Script → Script → K → K
loop_left a x n kind k condition body kept =
    loop_told a x n kind k (script_left x (known_at x (Head n)) condition) (script_left x (turns kind (script_left x (known_at x (Head n)) condition)) body) kept

abbrev pub for_left : {K : Type 0} → Asking K → Setting → ℕ → Span → Facts → Script → K → K
for_left a x n name k body kept = for_told a x n k (script_left x (gained x (named (text_of x.script name ∷ [])) (known_at x (Head n))) body) kept

abbrev pub case_left : {K : Type 0} → Asking K → Setting → ℕ → Facts → List Clause → K → K
case_left a x n k cs kept = unmatched_told a x n (list_any (has_star x.script) cs) k (clauses_left a x n k (trail NotReached kept) cs).kept

-- the body of a function, by its number
abbrev pub returns_told : {K : Type 0} → Asking K → Setting → Text → ℕ → K → K
returns_told a x f m kept =
    a.bound x (ReturnsNonzero f) (fault m F13) (known_at x (AfterNonzero m)) (a.bound x (ReturnsZero f) (fault m F13) (known_at x (AfterZero m)) kept)

abbrev pub define_left : {K : Type 0} → Asking K → Setting → ℕ → Text → Command → K → K
define_left a x n name c kept = returns_told a x name (out-Command c).number (a.bound x (AfterZero n) (fault n F13) (defined x name (known_at x (Before n))) kept)

unfoldable pub kind_told : {K : Type 0} → Asking K → Setting → ℕ → Facts → Kind → K → K
kind_told a x n k kind kept = compound_told a x n k (trees.kind_of x.script kind) kept
