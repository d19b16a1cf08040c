-- What is declared to be set at the start of a run.
-- POSIX.1-2024, XCU 2.5.3 (shell variables); a name is as in XBD 3.216.
use Rattle.std.specs.Prelude.{◌≡◌, ◌<◌, ℕ, not, List, length, position, Option, Some, None, Result, Ok, Err}
use Rattle.sh_tree.specs.standard.language.Bytes.{is_name}
use Rattle.sh_tree.specs.standard.program.Syntax.{Text}
use Rattle.sh_domain.specs.Facts.{Declared}
use Rattle.sh_domain.specs.declared.policy.PolicyFault.{PolicyFault}
use Rattle.sh_domain.specs.declared.policy.PolicyFault.TheVariants.{BadName, Memory}

-- the first text that is no name
abbrev pub first_bad : List Text → Option ℕ
first_bad texts = position (λ t. not (is_name t)) texts

-- The policy is made if each text is a name. Otherwise the first that is none is reported. Without
-- names it takes no memory.
abbrev pub Makes : List Text → ℕ → Result Declared PolicyFault → Type 0
Makes names args (Ok p) = (first_bad names ≡ None) × (p ≡ record { names = names; args = args })
Makes names args (Err (BadName i)) = first_bad names ≡ Some i
Makes names args (Err Memory) = (first_bad names ≡ None) × (0 < length names)
