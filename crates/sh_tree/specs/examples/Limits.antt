-- How deep texts may nest, and how deep the body of a here-document lies: as deep as its operator.
-- The standard has no such limit; POSIX.1-2024, XCU 2.6.2 (parameter expansion), 2.6.4 (arithmetic
-- expansion), 2.7.4 (here-document).
use Rattle.std.specs.Prelude.{ℕ, zero, suc, false, List, [], ◌∷◌, ◌++◌, codes, None}
use Rattle.sh_tree.specs.declared.tree.CommandStyle.TheVariants.{Paren}
use Rattle.sh_tree.specs.declared.tree.Element.TheVariants as element
use Rattle.sh_tree.specs.declared.tree.Kind.TheVariants as kind
use Rattle.sh_tree.specs.declared.tree.Part.TheVariants as part
use Rattle.sh_tree.specs.declared.tree.Script.{Script}
use Rattle.sh_tree.specs.declared.tree.Target.TheVariants.{Here}
use Rattle.sh_tree.specs.examples.Language.{bare, lone, plain, simple, utility}
use Rattle.sh_tree.specs.standard.language.Reading.{Reads, ReadsTo, ReadsWithin}
use Rattle.sh_tree.specs.standard.language.Trees.{command, here_doc, item_of, redirect, script, span, word}

-- the text so many times
unfoldable pub copies : ℕ → List ℕ → List ℕ
copies zero t = []
copies (suc n) t = t ++ copies n t

-- so many braced expansions, each the word of the one before it
abbrev pub defaults_text : ℕ → List ℕ
defaults_text n = copies n (codes "${x-") ++ copies n (codes "}")

-- so many unary operators in an arithmetic expansion, which is a level too
abbrev pub complements_text : ℕ → List ℕ
complements_text n = codes "$((" ++ copies n (codes "~") ++ codes "1))"

-- the body is read in the group, and lies outside it as its operator does
abbrev pub body_depth_text : List ℕ
body_depth_text = codes "<<E; {\n$(a)\nE\nb; }"

abbrev pub body_depth_script : Script
body_depth_script = script (item_of (simple 1 0 (element.Redirection (redirect 0 None (Here (here_doc false (bare 2 3) (word 7 12
    (part.Command Paren (span 7 11) (lone (utility 3 9 10)) ∷ plain 11 12 ∷ [])) (span 12 13)))) ∷ []))
    ∷ item_of (command 2 5 (kind.Group (lone (utility 4 14 15))) []) ∷ [])

-- a tree within the limits reads as the text
abbrev pub IsWithin : List ℕ → Type 0
IsWithin b = (t : Script) × ReadsWithin b t

-- the text has a tree, but none within the limits
pub record IsBeyond (b : List ℕ) : Type 0 where
  pub read : (t : Script) × Reads b t
  pub none : (t : Script) → ReadsWithin b t → ⊥

-- 64 levels are within the limits and 65 are not, and one level is enough for the body
pub record LimitsKept : Type 0 where
  pub defaults : IsWithin (defaults_text 64)
  pub more_defaults : IsBeyond (defaults_text 65)
  pub complements : IsWithin (complements_text 63)
  pub more_complements : IsBeyond (complements_text 64)
  pub body_depth : ReadsTo body_depth_text 1 4 body_depth_script
