-- How the program ends: what it prints beside an answer, where, and its status.
-- POSIX.1-2024, XCU 1.4 (utility description defaults): diagnostics go to standard error, and a
-- status above zero reports a fault.
use Rattle.std.specs.Prelude.{◌≡◌, ◌<◌, ◌⊎◌, ℕ, List, [], ◌∷◌, ◌++◌, length, take, codes, string_bytes, Option, Some, None, Result, Ok, Err}
use Rattle.std.specs.Option.{option_map}
use Rattle.std.specs.Io.KnownBytes.{Appends}
use Rattle.std.specs.declared.io.ErrorKind.{ErrorKind}
use Rattle.std.specs.declared.io.ErrorKind.TheVariants.{OutOfMemory}
use Rattle.sh_answers.specs.declared.ends.Counts.{Counts}
use Rattle.sh_answers.specs.declared.moves.Fault.{Fault}
use Rattle.sh_answers.specs.declared.moves.Fault.TheVariants as fault
use Rattle.sh_answers.specs.Ends.{BoreOnly, RefusedBetween}
use Rattle.sh_line.specs.declared.line.Stop.{Stop}
use Rattle.sh_line.specs.declared.line.Stop.TheVariants.{Usage, Help, BadName, Memory}
use Rattle.shset.specs.declared.ending.Stream.{Stream}
use Rattle.shset.specs.declared.ending.Stream.TheVariants.{Output, Error}
use Rattle.shset.specs.declared.ending.Ending.{Ending}

-- what is printed, and where
abbrev pub message_of : Ending → Option (Stream × List ℕ)
message_of e = option_map (λ m. (m.stream, m.text.now)) e.message

-- it ends with this status and prints nothing
abbrev pub EndsSilently : ℕ → Ending → Type 0
EndsSilently status e = (e.status ≡ status) × (message_of e ≡ None)

-- it prints this text on this stream and ends with this status
abbrev pub EndsWith : Stream → List ℕ → ℕ → Ending → Type 0
EndsWith stream text status e = (e.status ≡ status) × (message_of e ≡ Some (stream, text))

-- a line on standard error, and status 3
abbrev pub Fails : List ℕ → Ending → Type 0
Fails line e = EndsWith Error (line ++ 10 ∷ []) 3 e

abbrev pub fault_line : Fault → List ℕ
fault_line fault.Memory = codes "shset: out of memory"
fault_line fault.Read = codes "shset: cannot read"
fault_line fault.Write = codes "shset: cannot write"

-- where the runtime has no words: it gives them as text or not at all
abbrev pub words_line : ErrorKind → List ℕ
words_line OutOfMemory = fault_line fault.Memory
words_line _ = codes "shset: the words of the command line are not UTF-8"

-- the texts of usage and help are whole
abbrev pub StopsWith : Stop → Ending → Type 0
StopsWith (Usage text) e = EndsWith Error (string_bytes text) 3 e
StopsWith (Help text) e = EndsWith Output (string_bytes text) 0 e
StopsWith BadName e = Fails (codes "shset: bad name") e
StopsWith Memory e = Fails (fault_line fault.Memory) e

-- a run ends with its status, its answer written, or reports its fault
abbrev pub RunsTo : Result ℕ Fault → Ending → Type 0
RunsTo (Ok status) e = EndsSilently status e
RunsTo (Err f) e = Fails (fault_line f) e

-- what is known of a stream: the bytes that it holds, if they are known, and what went wrong at it
pub record Seen : Type 0 where
  pub held : Option (List ℕ)
  pub counts : Counts

abbrev pub seen : Option (List ℕ) → Counts → Seen
seen held counts = record { held = held; counts = counts }

-- it takes the whole text, and does not fail
abbrev pub Takes : List ℕ → Seen → Seen → Type 0
Takes text old new = Appends old.held new.held text × BoreOnly old.counts new.counts

-- it fails, and took a front of the text, and not the whole
abbrev pub Refuses : List ℕ → Seen → Seen → Type 0
Refuses text old new = RefusedBetween old.counts new.counts × ((n : ℕ) × (n < length text) × Appends old.held new.held (take n text))

-- it takes the text or refuses
abbrev pub Offers : List ℕ → Seen → Seen → Type 0
Offers text old new = Takes text old new ⊎ Refuses text old new

-- The message goes to its stream. If standard output refuses it, that is a fault; if standard error
-- does, there is nothing to report.
abbrev pub EndsBy : Option (Stream × List ℕ) → (given : ℕ) → (out out_after error error_after : Seen) → ℕ → Type 0
EndsBy None given out out_after error error_after status = (status ≡ given) × (out_after ≡ out) × (error_after ≡ error)
EndsBy (Some (Error, text)) given out out_after error error_after status = (status ≡ given) × (out_after ≡ out) × Offers text error error_after
EndsBy (Some (Output, text)) given out out_after error error_after status =
    ((status ≡ given) × Takes text out out_after × (error_after ≡ error))
    ⊎ ((status ≡ 3) × Refuses text out out_after × Offers (fault_line fault.Write ++ 10 ∷ []) error error_after)

-- how the program ends, by what is known of its streams before and after
abbrev pub Ends : Ending → (out out_after error error_after : Seen) → ℕ → Type 0
Ends e out out_after error error_after status = EndsBy (message_of e) e.status out out_after error error_after status

-- how the program ends, if nothing is known of its streams
pub record EndsUnseen (e : Ending) (status : ℕ) : Type 0 where
  pub out : Seen
  pub out_after : Seen
  pub error : Seen
  pub error_after : Seen
  pub ends : Ends e out out_after error error_after status
