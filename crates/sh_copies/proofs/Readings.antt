-- Words, parts, expressions and commands of any size are found in a copy.
-- POSIX.1-2024, XCU 2.6 (word expansions), 2.10 (shell grammar).
use Rattle.std.proofs.Common.{ℕ, zero, suc, arith}
use Rattle.sh_reads.proofs.TakeLemmas.{token_moves}
use Rattle.sh_copies.proofs.Arithmetic.{expressions_move}
use Rattle.sh_copies.proofs.CommandsScripts.{scripts_move}
use Rattle.sh_copies.proofs.Copies.{PartsMove, ExpansionsMove, WordsMove}
use Rattle.sh_copies.proofs.Forward.{parts_forward, part_forward, word_forward}
use Rattle.sh_copies.proofs.WordsFound.{parts_found, expansions_found, words_found}

pub record AllMove (limit n : ℕ) : Type 0 where
  pub parts : PartsMove limit n
  pub expansions : ExpansionsMove limit n
  pub words : WordsMove limit n

-- nothing ends before it begins
none_move : (limit : ℕ) → AllMove limit 0
none_move limit = record {
  parts = record { parts = λ c m turns i size within. let h = parts_forward i in absurd (omega arith) };
  expansions = record { expansion = λ {b} {b'} c {x} {o'} {g} {s} m turns h k i size within. let e = token_moves b x 0 s.at in let f = part_forward i in absurd (omega arith) };
  words = record { word = λ c m turns i size within. let h = word_forward i in absurd (omega arith) };
}

pub all_move : (limit n : ℕ) → AllMove limit n
all_move limit zero = none_move limit
all_move limit (suc n) =
    let below = all_move limit n in
    let expressions = expressions_move below.expansions in
    let scripts = scripts_move below.words below.parts in
    record { parts = parts_found expressions scripts; expansions = expansions_found expressions scripts; words = words_found expressions scripts }

pub parts_all_move : (limit n : ℕ) → PartsMove limit n
parts_all_move limit n = (all_move limit n).parts
