-- When two trees are the same, and what follows for their canonical texts.
-- POSIX.1-2024, XCU 2.10 (shell grammar).
use Rattle.std.specs.Prelude.{◌≡◌, ℕ, List}
use Rattle.sh_tree.specs.declared.tree.Script.{Script}
use Rattle.sh_tree.specs.standard.language.Reading.{ReadsTo}
use Rattle.sh_print.specs.Trees.{script_of}
use Rattle.sh_print.specs.Layout.{canon}

-- t, a tree of the text b, and u, one of the text c, differ only in offsets and numbers
abbrev pub IsSame : (b : List ℕ) → Script → (c : List ℕ) → Script → Type 0
IsSame b t c u = script_of b t ≡ script_of c u

-- Two trees that are the same have the same canonical text.
abbrev pub SamePrintsAlike : Type 0
SamePrintsAlike = (b c : List ℕ) (t u : Script) → IsSame b t c u → canon b t ≡ canon c u

-- A tree of the canonical text that is the same as the tree that it was printed from prints as
-- that text again.
abbrev pub PrintsAgain : Type 0
PrintsAgain = (b : List ℕ) (t u : Script) → IsSame b t (canon b t) u → canon (canon b t) u ≡ canon b t

-- If b reads to t within this limit of nesting, then c reads within it to a tree that is the same,
-- with as many commands.
abbrev pub IsReadBack : (b : List ℕ) → Script → (c : List ℕ) → Type 0
IsReadBack b t c = (limit count : ℕ) → ReadsTo b limit count t → (u : Script) × ReadsTo c limit count u × IsSame b t c u

-- The canonical text of a tree that a text reads to is read again, as a tree that is the same. If
-- the text is within the limits of nesting and of commands, so is the canonical text.
abbrev pub ReadsBack : Type 0
ReadsBack = (b : List ℕ) (t : Script) → IsReadBack b t (canon b t)
