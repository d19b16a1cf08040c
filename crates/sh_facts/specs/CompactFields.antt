-- Clauses of private functions: what the fields of a compact certificate's lines mean.
-- The standard has no such thing: fields of the text of a certificate.
use Rattle.std.specs.Prelude.{ℕ, List, Result, Ok, Err}
use Rattle.std.specs.Borrow.{Bor}
use Rattle.sh_tree.specs.standard.program.Syntax.{Text}
use Rattle.sh_facts.specs.declared.compact_forms.CompactCounts.{CompactCounts}
use Rattle.sh_facts.specs.declared.compact_forms.TurnText.{TurnText}
use Rattle.sh_facts.specs.declared.forms.FactText.{FactText}
use Rattle.sh_domain.specs.CompactForms.{Counts}
use Rattle.sh_domain.specs.Facts.{Claim}
use Rattle.sh_domain.specs.Forms.{Reading}
use Rattle.sh_facts.specs.Fields.{claim_of}

abbrev pub counts_of : CompactCounts → Counts
counts_of c = record { commands = c.commands; functions = c.functions; loops = c.loops }

abbrev pub turn : ℕ → Claim → ℕ × Claim
turn k x = (k, x)

abbrev pub turn_of : TurnText → ℕ × Claim
turn_of t = (t.number, claim_of t.facts)

abbrev pub turn_line_of : TurnText × Bor (List ℕ) → (ℕ × Claim) × Text
turn_line_of x = (turn_of x.0, x.1.now)

unfoldable pub counts_left : Result (CompactCounts × Bor (List ℕ)) ℕ → Reading Counts
counts_left (Ok x) = Ok (counts_of x.0, x.1.now)
counts_left (Err k) = Err k

unfoldable pub start_left : Result (FactText × Bor (List ℕ)) ℕ → Reading Claim
start_left (Ok x) = Ok (claim_of x.0, x.1.now)
start_left (Err k) = Err k
