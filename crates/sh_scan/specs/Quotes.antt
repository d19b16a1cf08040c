-- Where single quotes end, and quotations that begin with `$'`.
-- POSIX.1-2024, XCU 2.2.2 (single-quotes), 2.2.4 (dollar-single-quotes).
use Rattle.std.specs.Prelude.{ℕ, ◌+◌, ◌==◌, if◌then◌else◌, List, [], ◌∷◌, drop, Option, Some, None}
use Rattle.sh_tree.specs.declared.refusal.Fault.TheVariants.{OpenSingle}
use Rattle.sh_tree.specs.declared.refusal.Form.TheVariants.{DollarEscape}
use Rattle.sh_tree.specs.declared.tree.SingleStyle.TheVariants.{Dollar}
use Rattle.sh_tree.specs.declared.token.word.Sign.{Sign}
use Rattle.sh_tree.specs.declared.token.word.Sign.TheVariants as sign
use Rattle.sh_tree.specs.standard.language.Words.{single}

abbrev pub closed_by : ℕ → Sign × ℕ → Option ℕ
closed_by i (sign.Single style, n) = Some (i + n)
closed_by i _ = None

-- where the single quotes that open at i end, if they do
unfoldable pub single_end : List ℕ → ℕ → Option ℕ
single_end b i = closed_by i (single (drop (i + 1) b))

-- what is at the front where a quotation does not go on: its quote, an escape that is not read, or
-- no quote any more
unfoldable pub quotation_end : List ℕ → Sign × ℕ
quotation_end [] = (sign.Fault OpenSingle, 0)
quotation_end (c ∷ []) = if c == 39 then (sign.Single Dollar, 1) else (sign.Fault OpenSingle, 0)
quotation_end (c ∷ d ∷ cs) = if c == 39 then (sign.Single Dollar, 1) else (sign.LeftOut DollarEscape, 0)
