-- How the fields of a simple command come from its words, if there are so many positional
-- parameters.
-- POSIX.1-2024, XCU 2.6.5 (field splitting), 2.9.1 (simple commands), 2.9.1.1 (declaration
-- utilities).
use Rattle.std.specs.Prelude.{◌≡◌, ℕ, ◌≤◌, Bool, true, false, List, [], ◌∷◌, ◌++◌, length, Some}
use Rattle.sh_tree.specs.standard.program.Syntax as p
use Rattle.sh_tree.specs.standard.program.Syntax.{Text, Word}
use Rattle.sh_tree.specs.standard.program.Words.{operands_in, static_of, assignment_in, words_in}
use Rattle.sh_runs.specs.Counts.{Count, Parameters, One, Nothing, count_of}
use Rattle.sh_runs.specs.standard.Kinds.{kind_of, is_declaration}
use Rattle.sh_runs.specs.standard.runs.Operands.{definition_in}

-- how many fields a word gives at least
unfoldable pub least : ℕ → Count → ℕ
least m Parameters = m
least m One = 1
least m Nothing = 0

-- an operand whose fields are split: a static one is a field as it is
pub record Split (m : ℕ) (w : Word) (ts : List Text) : Type 0 where
  pub static : (t : Text) → static_of w ≡ Some t → ts ≡ t ∷ []
  pub counted : least m (count_of w) ≤ length ts

-- an operand of a declaration utility: an assignment in form gives its name a value
pub record Declares (w : Word) (ts : List Text) : Type 0 where
  pub assigned : (x : Text × Word) → assignment_in w ≡ Some x → (t : Text) × (v : Text) × (ts ≡ t ∷ []) × (definition_in t ≡ Some (x.0, v))

unfoldable pub Operand : Bool → ℕ → Word → List Text → Type 0
Operand true m w ts = Declares w ts
Operand false m w ts = Split m w ts

-- the fields of operands, one after the other
unfoldable pub Fields : Bool → ℕ → List Word → List Text → Type 0
Fields declares m [] ts = ts ≡ []
Fields declares m (w ∷ ws) ts = (us : List Text) × (vs : List Text) × (ts ≡ us ++ vs) × Operand declares m w us × Fields declares m ws vs

-- the name of the command is expanded, which is static, and the operands after it except for those
-- that are left
pub record Begun (m : ℕ) (es : p.Elements) (left : List Word) (name : Text) (operands : List Text) : Type 0 where
  pub word : Word
  pub done : List Word
  pub words : words_in (operands_in es) ≡ word ∷ (done ++ left)
  pub static : static_of word ≡ Some name
  pub given : Fields (is_declaration (kind_of name)) m done operands

-- the fields of a command so far, if these words are left
unfoldable pub FieldsFit : ℕ → p.Elements → List Word → List Text → Type 0
FieldsFit m es left [] = words_in (operands_in es) ≡ left
FieldsFit m es left (name ∷ operands) = Begun m es left name operands
