-- The text that the commands of a substitution are read in, and what closes them.
-- POSIX.1-2024, XCU 2.6.3 (command substitution).
use Rattle.std.specs.Prelude.{ℕ, ◌+◌, Bool, true, false, not, ◌&&◌, ◌||◌, ◌==◌, List, [], ◌∷◌, drop, take, codes}
use Rattle.sh_tree.specs.standard.language.Characters as byte
use Rattle.sh_tree.specs.declared.tree.CommandStyle.{CommandStyle}
use Rattle.sh_tree.specs.declared.tree.CommandStyle.TheVariants.{Paren, Backquote}
use Rattle.sh_tree.specs.standard.language.Arithmetic.{is_closed}
use Rattle.sh_tree.specs.standard.language.Bytes.{is_in, is_backslash, is_first, is_last_backquote, run}

abbrev pub no_backquote : ℕ → Bool
no_backquote c = not (c == byte.backquote)

-- where the first backquote at or after e ends (XCU 2.6.3)
abbrev pub backquote_end : List ℕ → ℕ → ℕ
backquote_end b e = e + run no_backquote (drop e b) + 1

-- The text that the commands of a substitution are read in (XCU 2.6.3). Between backquotes it goes
-- up to the closing one, with it. That is the first after the opening one.
unfoldable pub commands_text : CommandStyle → List ℕ → ℕ → List ℕ
commands_text Paren b e = b
commands_text Backquote b e = take (backquote_end b e) b

-- what closes the commands is at i (XCU 2.6.3)
unfoldable pub closes : CommandStyle → List ℕ → ℕ → Bool
closes Paren b i = is_closed b i
closes Backquote b i = is_last_backquote (drop i b)

-- A backslash that is removed before the commands are read (XCU 2.6.3): before `$`, a backquote or
-- a backslash. In double quotes it may be any (XCU 2.2.3).
unfoldable pub has_removed_backslash : Bool → List ℕ → Bool
has_removed_backslash quoted [] = false
has_removed_backslash quoted (c ∷ cs) = (is_backslash c && (quoted || is_first (is_in (codes "$`\\")) cs)) || has_removed_backslash quoted cs

-- the commands from e on have no such backslash: others are refused
unfoldable pub removes_no_backslash : CommandStyle → Bool → List ℕ → ℕ → Bool
removes_no_backslash Paren quoted b e = true
removes_no_backslash Backquote quoted b e = not (has_removed_backslash quoted (drop e (commands_text Backquote b e)))
