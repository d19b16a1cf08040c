-- What is shown of a finding, and the order of findings.
-- shset's own; the standard has none.
use Rattle.std.specs.Prelude.{ℕ, List}
use Rattle.std.specs.Ordering.{nat_cmp, then_cmp, on}
use Rattle.std.specs.Cmp.Lexicographic.{slice_cmp}
use Rattle.std.specs.declared.cmp.Ordering.{Ordering}
use Rattle.sh_tree.specs.declared.place.Code.{Code}
use Rattle.sh_tree.specs.declared.place.Code.TheVariants.{P1, P2, Q1, U1, U2, U3}
use Rattle.sh_answers.specs.declared.verdict.Finding.{Finding}

-- a finding by its contents
pub record Contents : Type 0 where
  pub line : ℕ
  pub column : ℕ
  pub code : Code
  pub subject : List ℕ

abbrev pub contents_of : Finding → Contents
contents_of f = record { line = f.line; column = f.column; code = f.code; subject = f.subject.items }

abbrev pub code_index : Code → ℕ
code_index P1 = 0
code_index P2 = 1
code_index Q1 = 2
code_index U1 = 3
code_index U2 = 4
code_index U3 = 5

-- by line, column, code and subject
abbrev pub contents_cmp : Contents → Contents → Ordering
contents_cmp = then_cmp (on (λ (f : Contents). f.line) nat_cmp) (then_cmp (on (λ (f : Contents). f.column) nat_cmp)
    (then_cmp (on (λ (f : Contents). code_index f.code) nat_cmp) (on (λ (f : Contents). f.subject) (slice_cmp nat_cmp))))
