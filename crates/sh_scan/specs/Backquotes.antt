-- Backslashes that go before the commands between backquotes are read.
-- POSIX.1-2024, XCU 2.6.3 (command substitution).
use Rattle.std.specs.Prelude.{◌≡◌, ◌<◌, ℕ, Bool, true, false, ◌&&◌, ◌||◌, List, [], ◌∷◌, drop, codes}
use Rattle.sh_tree.specs.standard.language.Bytes.{is_in, is_backslash, is_first}

-- the first byte is such a backslash
unfoldable pub is_kept_first : Bool → List ℕ → Bool
is_kept_first quoted [] = false
is_kept_first quoted (c ∷ cs) = is_backslash c && (quoted || is_first (is_in (codes "$`\\")) cs)

-- the byte at i is one, and none before it is
abbrev pub IsFirstKept : Bool → List ℕ → ℕ → Type 0
IsFirstKept quoted cs i = (is_kept_first quoted (drop i cs) ≡ true) × ((k : ℕ) → k < i → is_kept_first quoted (drop k cs) ≡ false)
