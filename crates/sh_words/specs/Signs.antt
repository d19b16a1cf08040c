-- Signs of words, as a builder uses them.
-- POSIX.1-2024, XCU 2.2 (quoting), 2.6 (word expansions).
use Rattle.std.specs.Prelude.{◌≡◌, ◌<◌, ◌≤◌, ℕ, Bool, true, false, List, length}
use Rattle.sh_tree.specs.declared.token.word.Sign.{Sign}
use Rattle.sh_tree.specs.declared.token.word.Sign.TheVariants as sign
use Rattle.sh_tree.specs.declared.token.word.Token.{Token}
use Rattle.sh_scan.specs.Moves.{reads_bytes, refuses}

-- a part may begin with the sign
abbrev pub is_part : Sign → Bool
is_part sign.Stop = false
is_part sign.Tabs = false
is_part _ = true

abbrev pub is_stop : Sign → Bool
is_stop sign.Stop = true
is_stop _ = false

abbrev pub is_substitution : Sign → Bool
is_substitution (sign.Substitution style) = true
is_substitution _ = false

-- the token is in the text from `start` on
abbrev pub IsTokenFrom : List ℕ → ℕ → Token → Type 0
IsTokenFrom b start t =
    (start ≤ t.end) × (t.end ≤ length b) × (reads_bytes t.sign ≡ true → start < t.end) × (refuses t.sign ≡ true → t.end < length b)
