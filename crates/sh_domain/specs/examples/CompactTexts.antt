-- Known compact certificates and their texts, and texts that are none.
-- The standard has no such thing: the compact certificates of known scripts, and what is reported
-- of texts that have not the form.
use Rattle.std.specs.Prelude.{◌≡◌, [], ◌∷◌, codes, Ok, Err}
use Rattle.sh_tree.specs.standard.program.Syntax.{Text}
use Rattle.sh_domain.specs.Compacts.{CompactSheet, compact_of_sheet, compact_text, stated_by}
use Rattle.sh_domain.specs.CompactForms.{Full, Compact, read_compact_sheet, read_given}
use Rattle.sh_domain.specs.examples.Programs.{known, dropping}
use Rattle.sh_domain.specs.examples.Texts.{lines, header, empty_sheet, skipped_sheet, function_sheet, loop_sheet, loop_text}
use Rattle.sh_domain.specs.Facts.{Claim, Unreached}
use Rattle.sh_domain.specs.Sheets.{FunctionClaims}
use Rattle.sh_domain.specs.Views.{Before, AfterZero, AfterNonzero, Head, Entry, ReturnsZero, ReturnsNonzero}

abbrev pub compact_header : Text
compact_header = codes "shset certificate 2"

-- what is known at the start if nothing is declared, and its line
abbrev pub start : Claim
start = known (codes "IFS OPTIND PPID") [] 0

abbrev pub start_line : Text
start_line = codes "s 0:IFS,OPTIND,PPID:"

abbrev pub empty_compact : CompactSheet
empty_compact = record { commands = 0; start = start; heads = []; functions = [] }

abbrev pub empty_compact_text : Text
empty_compact_text = lines (compact_header ∷ codes "commands 0 functions 0 loops 0" ∷ start_line ∷ [])

-- `false && echo "$x"`
abbrev pub skipped_compact : CompactSheet
skipped_compact = record { commands = 2; start = start; heads = []; functions = [] }

abbrev pub skipped_compact_text : Text
skipped_compact_text = lines (compact_header ∷ codes "commands 2 functions 0 loops 0" ∷ start_line ∷ [])

-- `f() { :; }` and `f`
abbrev pub function_compact : CompactSheet
function_compact =
    let b = known (codes "IFS OPTIND PPID") (codes "f") 0 in
    record { commands = 4; start = start; heads = []; functions = record { before = b; drops = dropping [] []; zero = b; nonzero = Unreached } ∷ [] }

abbrev pub function_compact_text : Text
function_compact_text =
    lines (compact_header ∷ codes "commands 4 functions 1 loops 0" ∷ start_line ∷ codes "f 1 0:IFS,OPTIND,PPID:f : 0:IFS,OPTIND,PPID:f -" ∷ [])

-- `while read -r l; do echo "$l"; done`
abbrev pub loop_compact : CompactSheet
loop_compact = record { commands = 3; start = start; heads = (1, start) ∷ []; functions = [] }

abbrev pub loop_compact_text : Text
loop_compact_text = lines (compact_header ∷ codes "commands 3 functions 0 loops 1" ∷ start_line ∷ codes "h 1 0:IFS,OPTIND,PPID:" ∷ [])

-- `for i in a; do for j in b; do :; done; done`
abbrev pub nested_compact : CompactSheet
nested_compact = record { commands = 3; start = start; heads = (1, start) ∷ (2, known (codes "IFS OPTIND PPID i") [] 0) ∷ []; functions = [] }

abbrev pub nested_compact_text : Text
nested_compact_text =
    lines (compact_header ∷ codes "commands 3 functions 0 loops 2" ∷ start_line ∷ codes "h 1 0:IFS,OPTIND,PPID:" ∷ codes "h 2 0:IFS,OPTIND,PPID,i:" ∷ [])

-- `f() { unset x; return 1; }; x=1; while f; do g; done`
abbrev pub dropped : FunctionClaims
dropped =
    record {
      before = known (codes "IFS OPTIND PPID x") (codes "f") 0;
      drops = dropping (codes "x") [];
      zero = Unreached;
      nonzero = known (codes "IFS OPTIND PPID") (codes "f") 0;
    }

abbrev pub dropping_compact : CompactSheet
dropping_compact =
    record { commands = 8; start = start; heads = (6, known (codes "IFS OPTIND PPID x") (codes "f") 0) ∷ []; functions = dropped ∷ [] }

abbrev pub dropping_compact_text : Text
dropping_compact_text =
    lines
    (compact_header ∷ codes "commands 8 functions 1 loops 1" ∷ start_line ∷ codes "h 6 0:IFS,OPTIND,PPID,x:f"
    ∷ codes "f 1 0:IFS,OPTIND,PPID,x:f x: - 0:IFS,OPTIND,PPID:f" ∷ [])

-- of known certificates, with the start
pub record CompactedAsExpected : Type 0 where
  pub empty : compact_of_sheet start empty_sheet ≡ empty_compact
  pub skipped : compact_of_sheet start skipped_sheet ≡ skipped_compact
  pub function : compact_of_sheet start function_sheet ≡ function_compact
  pub loop : compact_of_sheet start loop_sheet ≡ loop_compact

-- of a loop and a function, each place is stated, and of the commands none
pub record StatedAsExpected : Type 0 where
  pub before : (stated_by (codes "f" ∷ []) dropping_compact).claim (Before 6) ≡ Unreached
  pub zero : (stated_by (codes "f" ∷ []) dropping_compact).claim (AfterZero 6) ≡ Unreached
  pub nonzero : (stated_by (codes "f" ∷ []) dropping_compact).claim (AfterNonzero 6) ≡ Unreached
  pub head : (stated_by (codes "f" ∷ []) dropping_compact).claim (Head 6) ≡ known (codes "IFS OPTIND PPID x") (codes "f") 0
  pub no_head : (stated_by (codes "f" ∷ []) dropping_compact).claim (Head 5) ≡ Unreached
  pub second_head : (stated_by [] nested_compact).claim (Head 2) ≡ known (codes "IFS OPTIND PPID i") [] 0
  pub entry : (stated_by (codes "f" ∷ []) dropping_compact).claim (Entry (codes "f")) ≡ dropped.before
  pub returns_zero : (stated_by (codes "f" ∷ []) dropping_compact).claim (ReturnsZero (codes "f")) ≡ Unreached
  pub returns_nonzero : (stated_by (codes "f" ∷ []) dropping_compact).claim (ReturnsNonzero (codes "f")) ≡ dropped.nonzero
  pub drops : (stated_by (codes "f" ∷ []) dropping_compact).drops (codes "f") ≡ dropping (codes "x") []
  pub other_function : (stated_by (codes "f" ∷ []) dropping_compact).claim (Entry (codes "g")) ≡ Unreached

-- known compact certificates have their texts
pub record CompactsWritten : Type 0 where
  pub empty : compact_text empty_compact ≡ empty_compact_text
  pub skipped : compact_text skipped_compact ≡ skipped_compact_text
  pub function : compact_text function_compact ≡ function_compact_text
  pub loop : compact_text loop_compact ≡ loop_compact_text
  pub nested : compact_text nested_compact ≡ nested_compact_text
  pub dropping : compact_text dropping_compact ≡ dropping_compact_text

-- these texts claim what they should
pub record CompactsRead : Type 0 where
  pub empty : read_compact_sheet empty_compact_text ≡ Ok empty_compact
  pub skipped : read_compact_sheet skipped_compact_text ≡ Ok skipped_compact
  pub function : read_compact_sheet function_compact_text ≡ Ok function_compact
  pub loop : read_compact_sheet loop_compact_text ≡ Ok loop_compact
  pub nested : read_compact_sheet nested_compact_text ≡ Ok nested_compact
  pub dropping : read_compact_sheet dropping_compact_text ≡ Ok dropping_compact

-- with these counts, the line of the start, and one more
abbrev pub counted : Text → Text → Text
counted counts t = lines (compact_header ∷ counts ∷ start_line ∷ t ∷ [])

-- the first line that has not the form is reported
pub record CompactFaultsAsExpected : Type 0 where
  pub nothing : read_compact_sheet [] ≡ Err 1
  pub no_counts : read_compact_sheet (lines (compact_header ∷ [])) ≡ Err 2
  pub two_counts : read_compact_sheet (lines (compact_header ∷ codes "commands 0 functions 0" ∷ start_line ∷ [])) ≡ Err 2
  pub no_start : read_compact_sheet (lines (compact_header ∷ codes "commands 0 functions 0 loops 0" ∷ [])) ≡ Err 3
  pub unsorted : read_compact_sheet (lines (compact_header ∷ codes "commands 1 functions 0 loops 0" ∷ codes "s 0:IFS,PPID,OPTIND:" ∷ [])) ≡ Err 3
  pub line_missing : read_compact_sheet (lines (compact_header ∷ codes "commands 3 functions 0 loops 1" ∷ start_line ∷ [])) ≡ Err 4
  pub line_more : read_compact_sheet (lines (compact_header ∷ codes "commands 3 functions 0 loops 1" ∷ start_line ∷ codes "h 1 -" ∷ codes "h 2 -" ∷ [])) ≡ Err 5
  pub twice : read_compact_sheet (lines (compact_header ∷ codes "commands 3 functions 0 loops 2" ∷ start_line ∷ codes "h 1 -" ∷ codes "h 1 -" ∷ [])) ≡ Err 5
  pub falling : read_compact_sheet (lines (compact_header ∷ codes "commands 3 functions 0 loops 2" ∷ start_line ∷ codes "h 2 -" ∷ codes "h 1 -" ∷ [])) ≡ Err 5
  pub zero_before : read_compact_sheet (counted (codes "commands 1 functions 0 loops 1") (codes "h 01 -")) ≡ Err 4
  pub no_function : read_compact_sheet (counted (codes "commands 1 functions 1 loops 0") (codes "h 1 -")) ≡ Err 4
  pub other_function : read_compact_sheet (counted (codes "commands 1 functions 1 loops 0") (codes "f 2 - : - -")) ≡ Err 4

-- the first line gives the version
pub record VersionsAsExpected : Type 0 where
  pub full : read_given loop_text ≡ Ok (Full loop_sheet)
  pub compact : read_given loop_compact_text ≡ Ok (Compact loop_compact)
  pub nothing : read_given [] ≡ Err 1
  pub other_version : read_given (lines (codes "shset certificate 3" ∷ codes "commands 0 functions 0" ∷ [])) ≡ Err 1
  pub open_line : read_given compact_header ≡ Err 1
  pub counts_of_full : read_given (lines (compact_header ∷ codes "commands 0 functions 0" ∷ [])) ≡ Err 2
  pub counts_of_compact : read_given (lines (header ∷ codes "commands 0 functions 0 loops 0" ∷ start_line ∷ [])) ≡ Err 2

abbrev pub CompactTextsAsExpected : Type 0
CompactTextsAsExpected = CompactedAsExpected × StatedAsExpected × CompactsWritten × CompactsRead × CompactFaultsAsExpected × VersionsAsExpected
