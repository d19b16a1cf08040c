-- What a run over the files that a line names reads and writes.
-- POSIX.1-2024, XBD 12.2 (utility syntax guidelines: `-` is standard input).
use Rattle.std.specs.Prelude.{ℕ, List, [], Option, Some, None, ⊤}
use Rattle.sh_answers.specs.declared.task.Task.{Task}
use Rattle.sh_line.specs.declared.line.Source.{Source}
use Rattle.sh_line.specs.declared.line.Source.TheVariants.{Input, File}
use Rattle.sh_report.specs.Promises.{EndsSafe}
use Rattle.sh_report.specs.Runs.{IsRead, IsTextRead, WritesAnswer, WritesFront, certificate_read, script_read}

-- the bytes of what is named, by those of standard input and of the file of each name, if they are
-- known
abbrev pub bytes_of : Option (List ℕ) → (List ℕ → Option (List ℕ)) → Source → Option (List ℕ)
bytes_of input file Input = input
bytes_of input file (File name) = file name.now

-- of a certificate that is not named there are none
abbrev pub certificate_bytes : Option (List ℕ) → (List ℕ → Option (List ℕ)) → Option Source → Option (List ℕ)
certificate_bytes input file None = Some []
certificate_bytes input file (Some s) = bytes_of input file s

-- no read of what is named fails, by what is known of standard input and of the file of each name
abbrev pub IsSure : Type 0 → (List ℕ → Type 0) → Source → Type 0
IsSure input file Input = input
IsSure input file (File name) = file name.now

-- a certificate that is not named is never read
abbrev pub IsSureIfNamed : Type 0 → (List ℕ → Type 0) → Option Source → Type 0
IsSureIfNamed input file None = ⊤
IsSureIfNamed input file (Some s) = IsSure input file s

-- what is named is a file that cannot be opened
abbrev pub IsLacking : (List ℕ → Type 0) → Source → Type 0
IsLacking file Input = ⊥
IsLacking file (File name) = file name.now

abbrev pub IsLackingIfNamed : (List ℕ → Type 0) → Option Source → Type 0
IsLackingIfNamed file None = ⊥
IsLackingIfNamed file (Some s) = IsLacking file s

-- the text of an answer to these bytes was written, and this is its status
abbrev pub Answers : (script certificate : Option (List ℕ)) → Task → (old new : Option (List ℕ)) → ℕ → Type 0
Answers script certificate task old new status =
    (b : List ℕ) × (t : List ℕ) × IsRead script script_read b × IsTextRead task.action certificate certificate_read t × WritesAnswer task b t old new status

-- a front of the text of an answer to these bytes was written, and not the whole
abbrev pub Fronts : (script certificate : Option (List ℕ)) → Task → (old new : Option (List ℕ)) → Type 0
Fronts script certificate task old new =
    (b : List ℕ) × (t : List ℕ) × IsRead script script_read b × IsTextRead task.action certificate certificate_read t × WritesFront task b t old new

-- a lint or a check that ends with zero has read a safe script
abbrev pub PromisesSafe : (script : Option (List ℕ)) → Task → ℕ → Type 0
PromisesSafe script task status = (b : List ℕ) × IsRead script script_read b × EndsSafe task b status
