-- The options of `read`, and its operands after them.
-- POSIX.1-2024, XCU 3 (read), XBD 12.2 (utility syntax guidelines).
use Rattle.std.specs.Prelude.{Bool, true, false, if◌then◌else◌, List, [], ◌∷◌, drop, Option, Some, None}
use Rattle.sh_tree.specs.standard.program.Syntax.{Text}
use Rattle.sh_runs.specs.Profile.{Static}
use Rattle.sh_runs.specs.standard.runs.Operands.{is_dashed, ends_options, ReadOption, Complete, TakesNext, Other, read_option}

-- whether an option of `read` takes the next operand, if it is one of the standard's
unfoldable pub takes_next : ReadOption → Option Bool
takes_next Complete = Some false
takes_next TakesNext = Some true
takes_next Other = None

abbrev pub option_takes : Text → Option Bool
option_takes t = takes_next (read_option (drop 1 t))

unfoldable pub go_on : {A : Type 0} → Option Bool → (Bool → Option A) → Option A
go_on None rest = None
go_on (Some takes) rest = rest takes

-- The operands of `read` after its options, if each option is one of the standard's. A text may be
-- missing. The truth value is whether an option takes the next operand.
unfoldable pub read_operands : Bool → List Static → Option (List Static)
read_operands takes [] = Some []
read_operands true (t ∷ ts) = read_operands false ts
read_operands false (None ∷ ts) = Some (None ∷ ts)
read_operands false (Some t ∷ ts) =
    if ends_options t then Some ts else (if is_dashed t then go_on (option_takes t) (λ takes. read_operands takes ts) else Some (Some t ∷ ts))
