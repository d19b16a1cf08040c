-- What a reader of scripts answers.
-- POSIX.1-2024, XCU 2.3: a script has one reading or is refused.
use Rattle.std.specs.Prelude.{◌≡◌, ◌≤◌, ◌<◌, ◌==◌, ℕ, List, length, position, Option, Some, None, Result, Ok, Err}
use Rattle.sh_tree.specs.declared.limits.TheConstants.{MAX_SCRIPT}
use Rattle.sh_tree.specs.declared.tree.Script.{Script}
use Rattle.sh_tree.specs.declared.refusal.Refusal.{Refusal}
use Rattle.sh_tree.specs.declared.refusal.Refusal.TheVariants.{TooLong, NulByte, Syntax, LeftOut, TooDeep, TooMany, Memory, Profile, CertSyntax, CertShape}
use Rattle.sh_tree.specs.standard.language.Reading.{Reads, ReadsWithin}

-- where the first NUL is
abbrev pub first_nul : List ℕ → Option ℕ
first_nul b = position (λ c. c == 0) b

-- the text is within its limit and has no NUL
abbrev pub IsText : List ℕ → Type 0
IsText b = (length b ≤ MAX_SCRIPT) × (first_nul b ≡ None)

-- An answer is the one reading, within the limits. A fault of syntax and a refused form are
-- reported only if there is no reading. A level or a command too many is reported only if there is
-- no reading within the limits.
abbrev pub Parses : List ℕ → Result Script Refusal → Type 0
Parses b (Ok t) = IsText b × ReadsWithin b t × ((u : Script) → Reads b u → u ≡ t)
Parses b (Err TooLong) = MAX_SCRIPT < length b
Parses b (Err (NulByte at)) = (length b ≤ MAX_SCRIPT) × (first_nul b ≡ Some at)
Parses b (Err (Syntax f at)) = IsText b × (at ≤ length b) × ((u : Script) → Reads b u → ⊥)
Parses b (Err (LeftOut f at)) = IsText b × (at < length b) × ((u : Script) → Reads b u → ⊥)
Parses b (Err (TooDeep at)) = IsText b × (at ≤ length b) × ((u : Script) → ReadsWithin b u → ⊥)
Parses b (Err TooMany) = IsText b × ((u : Script) → ReadsWithin b u → ⊥)
Parses b (Err Memory) = IsText b
Parses b (Err (Profile r at)) = ⊥
Parses b (Err (CertSyntax n)) = ⊥
Parses b (Err CertShape) = ⊥
