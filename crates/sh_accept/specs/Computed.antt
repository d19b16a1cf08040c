-- The answer to a certificate's text of a script that is read, computed step by step.
-- shset's own; the standard has none.
use Rattle.std.specs.Prelude.{◌≡◌, ℕ, nat_le, Bool, true, false, List, [], ◌∷◌, ◌++◌, if◌then◌else◌, length, map, Option, Some, None, Result, Ok, Err}
use Rattle.std.specs.Ordering.{is_lt}
use Rattle.sh_tree.specs.Answers.{Parses}
use Rattle.sh_tree.specs.declared.limits.TheConstants.{MAX_NAMES}
use Rattle.sh_tree.specs.declared.refusal.Refusal.{Refusal}
use Rattle.sh_tree.specs.declared.refusal.Refusal.TheVariants.{TooMany, Memory, Profile, CertSyntax, CertShape}
use Rattle.sh_tree.specs.declared.tree.Script.{Script}
use Rattle.sh_tree.specs.standard.program.Syntax.{Text, Items}
use Rattle.sh_tree.specs.standard.program.Trees.{script_of}
use Rattle.sh_runs.specs.Profile.{Refused, first_refused}
use Rattle.sh_domain.specs.Demands.{demands}
use Rattle.sh_domain.specs.CompactForms.{GivenSheet, Full, Compact, read_given}
use Rattle.sh_domain.specs.CompactReading.{compact_fits, given_fits}
use Rattle.sh_domain.specs.Compacts.{CompactSheet}
use Rattle.sh_domain.specs.Facts.{Declared, start_facts}
use Rattle.sh_domain.specs.Faults.{Fault, faults, least}
use Rattle.sh_domain.specs.Filled.{FillsTo}
use Rattle.sh_domain.specs.Names.{IsNumbering}
use Rattle.sh_domain.specs.Reading.{AreLoops}
use Rattle.sh_domain.specs.Sheets.{Sheet, certificate_of}
use Rattle.sh_domain.specs.declared.rule.FlowRule.{FlowRule}
use Rattle.sh_quote.specs.Places.{unquoted}
use Rattle.sh_answers.specs.Findings.{contents_at}
use Rattle.sh_answers.specs.Verdicts.{Contents, contents_of, contents_cmp}
use Rattle.sh_answers.specs.declared.verdict.Verdict.{Verdict}
use Rattle.sh_answers.specs.declared.verdict.Verdict.TheVariants.{Pass, Fail, Forged}
use Rattle.sh_domain.specs.Admitted.{functions_in}
use Rattle.sh_accept.specs.Answers.{Checks}

-- an answer by what it shows
pub data Answer : Type 0 where
  Passes : Answer
  Finds : (findings : List Contents) → Answer
  Breaks : (number : ℕ) (rule : FlowRule) → Answer
  Tells : (refusal : Refusal) → Answer

unfoldable pub shown : Result Verdict Refusal → Answer
shown (Ok Pass) = Passes
shown (Ok (Fail r)) = Finds (map contents_of r.findings.items)
shown (Ok (Forged k f)) = Breaks k f
shown (Err e) = Tells e

-- Findings in order

unfoldable pub placed : Contents → List Contents → List Contents
placed x [] = x ∷ []
placed x (y ∷ ys) = if is_lt (contents_cmp y x) then y ∷ placed x ys else x ∷ y ∷ ys

unfoldable pub in_order : List Contents → List Contents
in_order [] = []
in_order (x ∷ xs) = placed x (in_order xs)

-- The steps: the profile, the names, the form of the text, its fit, the rules, the demands and the
-- quoting

unfoldable pub of_findings : List Contents → Answer
of_findings [] = Passes
of_findings (x ∷ xs) = Finds (x ∷ xs)

unfoldable pub of_fault : Option Fault → Answer → Answer
of_fault (Some f) x = Breaks f.number f.rule
of_fault None x = x

abbrev pub of_certificate : List ℕ → Declared → Items → List Text → Sheet → Answer
of_certificate b d p functions c =
    of_fault (least (faults (start_facts d) (certificate_of functions c) p))
    (of_findings (in_order (map (contents_at b) (demands (start_facts d) (certificate_of functions c) p ++ unquoted p))))

unfoldable pub of_fit : Bool → Answer → Answer
of_fit true x = x
of_fit false x = Tells CertShape

unfoldable pub of_claims : (GivenSheet → Bool) → (GivenSheet → Answer) → Result GivenSheet ℕ → Answer
of_claims fit x (Err n) = Tells (CertSyntax n)
of_claims fit x (Ok g) = of_fit (fit g) (x g)

unfoldable pub of_count : Bool → Answer → Answer
of_count true x = x
of_count false x = Tells TooMany

unfoldable pub of_profile : Option Refused → Answer → Answer
of_profile (Some q) x = Tells (Profile q.rule q.at)
of_profile None x = x

-- a certificate, or that to which a compact one is filled
unfoldable pub filled_to : Sheet → GivenSheet → Sheet
filled_to filled (Full c) = c
filled_to filled (Compact k) = filled

-- of a program with these functions, names and loops, if a compact certificate is filled to this
-- one
abbrev pub computed : List ℕ → Declared → Items → (functions names : List Text) → (loops : List Bool) → (filled : Sheet) → Text → Answer
computed b d p functions names loops filled text =
    of_profile (first_refused p)
    (of_count (nat_le (length names) MAX_NAMES)
    (of_claims (given_fits names loops (length functions)) (λ g. of_certificate b d p functions (filled_to filled g)) (read_given text)))

-- Of which scripts it is the answer

-- The tree is the one reading, these are its names, and these are its loops.
pub record IsRead (b : List ℕ) (d : Declared) (t : Script) (names : List Text) (loops : List Bool) : Type 0 where
  pub reading : Parses b (Ok t)
  pub numbering : IsNumbering b t d names
  pub are_loops : AreLoops t loops

-- if the text is that of a compact certificate that fits, it is filled to this one
abbrev pub IsFilledBy : List ℕ → Script → List Text → (loops : List Bool) → Text → Sheet → Type 0
IsFilledBy b t names loops text filled =
    (k : CompactSheet) → read_given text ≡ Ok (Compact k) → compact_fits names loops (length (functions_in b t)) k ≡ true
    → FillsTo b t names k filled

-- the refusal is not that memory ran out
unfoldable pub is_refusal : Refusal → Bool
is_refusal Memory = false
is_refusal _ = true

unfoldable pub is_told : Result Verdict Refusal → Bool
is_told (Ok v) = true
is_told (Err e) = is_refusal e

-- Of a script that is read, a check may answer only what is computed, unless memory runs out. So
-- there is one answer.
pub record HasOneAnswer : Type 0 where
  pub computes : (b : List ℕ) (d : Declared) (t : Script) (names : List Text) (loops : List Bool) (filled : Sheet) (text : Text) (x : Result Verdict Refusal)
      → IsRead b d t names loops → IsFilledBy b t names loops text filled → Checks b d text x → is_told x ≡ true → shown x ≡ computed b d (script_of b t) (functions_in b t) names loops filled text
  pub one : (b : List ℕ) (d : Declared) (t : Script) (names : List Text) (loops : List Bool) (text : Text) (x y : Result Verdict Refusal)
      → IsRead b d t names loops → Checks b d text x → Checks b d text y → is_told x ≡ true → is_told y ≡ true → shown x ≡ shown y
