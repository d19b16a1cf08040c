-- Known certificates and their texts, and texts that are none.
-- The standard has no such thing: the certificates of known scripts, and what is reported of texts
-- that have not the form.
use Rattle.std.specs.Prelude.{◌≡◌, List, [], ◌∷◌, ◌++◌, codes, Some, None, Ok, Err}
use Rattle.std.specs.List.{flat_map}
use Rattle.sh_tree.specs.standard.program.Syntax.{Text}
use Rattle.sh_domain.specs.examples.Programs.{known, dropping}
use Rattle.sh_domain.specs.Facts.{Claim, Unreached}
use Rattle.sh_domain.specs.Forms.{read_sheet}
use Rattle.sh_domain.specs.Sheets.{Sheet, CommandClaims, certificate_text}

abbrev pub lines : List Text → Text
lines ts = flat_map (λ t. t ++ 10 ∷ []) ts

abbrev pub command : Claim → Claim → Claim → CommandClaims
command b z n = record { before = b; zero = z; nonzero = n; head = None }

abbrev pub header : Text
header = codes "shset certificate 1"

-- no commands
abbrev pub empty_sheet : Sheet
empty_sheet = record { commands = []; functions = [] }

abbrev pub empty_text : Text
empty_text = lines (header ∷ codes "commands 0 functions 0" ∷ [])

-- `false && echo "$x"`
abbrev pub skipped_sheet : Sheet
skipped_sheet =
    let a = known (codes "IFS OPTIND PPID") [] 0 in
    record { commands = command a Unreached a ∷ command Unreached Unreached Unreached ∷ []; functions = [] }

abbrev pub skipped_text : Text
skipped_text =
    lines (header ∷ codes "commands 2 functions 0" ∷ codes "c 1 0:IFS,OPTIND,PPID: - 0:IFS,OPTIND,PPID:" ∷ codes "c 2 - - -" ∷ [])

-- `f() { :; }` and `f`
abbrev pub function_sheet : Sheet
function_sheet =
    let a = known (codes "IFS OPTIND PPID") [] 0 in
    let b = known (codes "IFS OPTIND PPID") (codes "f") 0 in
    record {
      commands = command a b Unreached ∷ command b b Unreached ∷ command b b Unreached ∷ command b b Unreached ∷ [];
      functions = record { before = b; drops = dropping [] []; zero = b; nonzero = Unreached } ∷ [];
    }

abbrev pub function_text : Text
function_text =
    lines
    (header ∷ codes "commands 4 functions 1" ∷ codes "c 1 0:IFS,OPTIND,PPID: 0:IFS,OPTIND,PPID:f -" ∷ codes "c 2 0:IFS,OPTIND,PPID:f 0:IFS,OPTIND,PPID:f -"
    ∷ codes "c 3 0:IFS,OPTIND,PPID:f 0:IFS,OPTIND,PPID:f -" ∷ codes "c 4 0:IFS,OPTIND,PPID:f 0:IFS,OPTIND,PPID:f -"
    ∷ codes "f 1 0:IFS,OPTIND,PPID:f : 0:IFS,OPTIND,PPID:f -" ∷ [])

-- `while read -r l; do echo "$l"; done`
abbrev pub loop_sheet : Sheet
loop_sheet =
    let a = known (codes "IFS OPTIND PPID") [] 0 in
    let b = known (codes "IFS OPTIND PPID l") [] 0 in
    record { commands = record (command a a a) { head = Some a } ∷ command a b a ∷ command b b b ∷ []; functions = [] }

abbrev pub loop_text : Text
loop_text =
    lines
    (header ∷ codes "commands 3 functions 0" ∷ codes "c 1 0:IFS,OPTIND,PPID: 0:IFS,OPTIND,PPID: 0:IFS,OPTIND,PPID: 0:IFS,OPTIND,PPID:"
    ∷ codes "c 2 0:IFS,OPTIND,PPID: 0:IFS,OPTIND,PPID,l: 0:IFS,OPTIND,PPID:" ∷ codes "c 3 0:IFS,OPTIND,PPID,l: 0:IFS,OPTIND,PPID,l: 0:IFS,OPTIND,PPID,l:" ∷ [])

-- a certificate of one command, whose line is this
abbrev pub with_line : Text → Text
with_line t = lines (header ∷ codes "commands 1 functions 0" ∷ t ∷ [])

-- known certificates have their texts
pub record WrittenAsExpected : Type 0 where
  pub empty : certificate_text empty_sheet ≡ empty_text
  pub skipped : certificate_text skipped_sheet ≡ skipped_text
  pub function : certificate_text function_sheet ≡ function_text
  pub loop : certificate_text loop_sheet ≡ loop_text

-- these texts claim what they should
pub record ReadAsExpected : Type 0 where
  pub empty : read_sheet empty_text ≡ Ok empty_sheet
  pub skipped : read_sheet skipped_text ≡ Ok skipped_sheet
  pub function : read_sheet function_text ≡ Ok function_sheet
  pub loop : read_sheet loop_text ≡ Ok loop_sheet

-- the first line that has not the form is reported
pub record FaultsAsExpected : Type 0 where
  pub nothing : read_sheet [] ≡ Err 1
  pub open_line : read_sheet header ≡ Err 1
  pub other_version : read_sheet (lines (codes "shset certificate 2" ∷ codes "commands 0 functions 0" ∷ [])) ≡ Err 1
  pub no_counts : read_sheet (lines (header ∷ [])) ≡ Err 2
  pub two_blanks : read_sheet (lines (header ∷ codes "commands 0  functions 0" ∷ [])) ≡ Err 2
  pub leading_zero : read_sheet (lines (header ∷ codes "commands 00 functions 0" ∷ [])) ≡ Err 2
  pub line_missing : read_sheet (lines (header ∷ codes "commands 1 functions 0" ∷ [])) ≡ Err 3
  pub line_more : read_sheet (lines (header ∷ codes "commands 0 functions 0" ∷ codes "c 1 - - -" ∷ [])) ≡ Err 3
  pub other_number : read_sheet (with_line (codes "c 2 - - -")) ≡ Err 3
  pub unsorted : read_sheet (with_line (codes "c 1 0:PPID,IFS: - -")) ≡ Err 3
  pub twice : read_sheet (with_line (codes "c 1 0:IFS,IFS: - -")) ≡ Err 3
  pub zero_before : read_sheet (with_line (codes "c 1 00:IFS: - -")) ≡ Err 3
  pub too_many : read_sheet (with_line (codes "c 1 65536:IFS: - -")) ≡ Err 3
  pub job_is_no_function : read_sheet (with_line (codes "c 1 0:IFS:! - -")) ≡ Err 3
  pub comma_at_end : read_sheet (with_line (codes "c 1 0:IFS,: - -")) ≡ Err 3
  pub blank_at_end : read_sheet (with_line (codes "c 1 - - - ")) ≡ Err 3

abbrev pub TextsAsExpected : Type 0
TextsAsExpected = WrittenAsExpected × ReadAsExpected × FaultsAsExpected
