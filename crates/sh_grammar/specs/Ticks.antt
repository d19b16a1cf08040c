-- Backquoted substitutions around commands. What is reported of a backquote depends on them.
-- POSIX.1-2024, XCU 2.6.3 (command substitution).
use Rattle.std.specs.Prelude.{ℕ, zero, suc, Bool, Option, Some, None}
use Rattle.sh_tree.specs.declared.refusal.Fault.TheVariants as fault
use Rattle.sh_tree.specs.declared.refusal.Form.TheVariants as form
use Rattle.sh_tree.specs.declared.refusal.Refusal.{Refusal}
use Rattle.sh_tree.specs.declared.refusal.Refusal.TheVariants.{Syntax, LeftOut}
use Rattle.sh_grammar.specs.declared.ticks.Ticks.{Ticks}
use Rattle.sh_grammar.specs.declared.ticks.Ticks.TheVariants.{Outside, Here, Deeper}

-- in another substitution inside, which no backquote closes
unfoldable pub deeper : Ticks → Ticks
deeper Outside = Outside
deeper (Here quoted) = Deeper quoted
deeper (Deeper quoted) = Deeper quoted

unfoldable pub quoted_of : Ticks → Option Bool
quoted_of Outside = None
quoted_of (Here quoted) = Some quoted
quoted_of (Deeper quoted) = Some quoted

-- the place of the closing backquote in a text of n bytes, over which something ran to the end
unfoldable pub overrun : Ticks → ℕ → Option ℕ
overrun Outside n = None
overrun t zero = None
overrun t (suc n) = Some n

-- what is reported of the backquote at i, which ends the text and has no place there
unfoldable pub misplaced : Ticks → ℕ → Refusal
misplaced Outside i = Syntax fault.OpenSubstitution i
misplaced (Here quoted) i = Syntax fault.UnexpectedToken i
misplaced (Deeper quoted) i = LeftOut form.BackquoteInside i
