-- Which certificate is accepted for a script.
-- POSIX.1-2024, XCU 2.3 (a text has one reading), 2.6 (word expansions); of certificates the
-- standard says nothing.
use Rattle.std.specs.Prelude.{◌≡◌, ℕ, Bool, true, List, [], length, Ok}
use Rattle.sh_tree.specs.declared.tree.Script.{Script}
use Rattle.sh_tree.specs.standard.program.Syntax.{Text}
use Rattle.sh_tree.specs.standard.program.Trees.{script_of}
use Rattle.sh_domain.specs.Admitted.{IsAdmitted, Fits, KeepsRules, claims_in, functions_in}
use Rattle.sh_domain.specs.CompactForms.{GivenSheet, Full, Compact, read_given}
use Rattle.sh_domain.specs.CompactReading.{given_fits}
use Rattle.sh_domain.specs.Demands.{demands}
use Rattle.sh_domain.specs.Facts.{Declared, start_facts}
use Rattle.sh_domain.specs.Filled.{FillsTo}
use Rattle.sh_domain.specs.Reading.{AreLoops}
use Rattle.sh_domain.specs.Sheets.{Sheet}
use Rattle.sh_quote.specs.Places.{unquoted}

-- no demand is unmet
abbrev pub MeetsDemands : List ℕ → Declared → Script → Sheet → Type 0
MeetsDemands b d t c = demands (start_facts d) (claims_in b t c) (script_of b t) ≡ []

-- the rules of quoting report no expansion that splitting or pathname expansion could change
abbrev pub IsQuoted : List ℕ → Script → Type 0
IsQuoted b t = unquoted (script_of b t) ≡ []

-- The certificate is accepted for the text, with these names and so many positional parameters
-- declared. The text is a script that is admitted. The certificate fits it, breaks no flow rule and
-- leaves no demand unmet, and the rules of quoting report no place.
pub record IsAccepted (b : List ℕ) (d : Declared) (c : Sheet) : Type 0 where
  pub tree : Script
  pub names : List Text
  pub admitted : IsAdmitted b d tree names
  pub fit : Fits b tree names c
  pub rules : KeepsRules b d tree c
  pub met : MeetsDemands b d tree c
  pub quoted : IsQuoted b tree

-- what is given fits the script by its counts, its loops and its names
pub record FitsGiven (b : List ℕ) (t : Script) (names : List Text) (g : GivenSheet) : Type 0 where
  pub loops : List Bool
  pub are_loops : AreLoops t loops
  pub fit : given_fits names loops (length (functions_in b t)) g ≡ true

-- the certificate itself, or what a compact one is filled to
unfoldable pub Gives : List ℕ → Script → List Text → GivenSheet → Sheet → Type 0
Gives b t names (Full s) c = s ≡ c
Gives b t names (Compact k) c = FillsTo b t names k c

-- The text claims what fits the script, in either version, and that is this certificate.
pub record Claims (b : List ℕ) (t : Script) (names : List Text) (text : Text) (c : Sheet) : Type 0 where
  pub given : GivenSheet
  pub reads : read_given text ≡ Ok given
  pub fit : FitsGiven b t names given
  pub gives : Gives b t names given c

-- and a text that claims what it does
pub record IsAcceptedText (b : List ℕ) (d : Declared) (text : Text) : Type 0 where
  pub certificate : Sheet
  pub accepted : IsAccepted b d certificate
  pub claims : Claims b accepted.tree accepted.names text certificate
