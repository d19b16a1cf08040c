-- What a run of the engine reads and writes.
-- shset's own; the standard has no linter.
use Rattle.std.specs.Prelude.{◌≡◌, ℕ, ◌<◌, ◌≤◌, List, [], length, take, Option, None, Some}
use Rattle.std.specs.Io.KnownBytes.{Appends}
use Rattle.sh_answers.specs.declared.task.Action.{Action}
use Rattle.sh_answers.specs.declared.task.Action.TheVariants.{Lint, Cert, Check, Print}
use Rattle.sh_answers.specs.declared.task.Task.{Task}
use Rattle.sh_accept.specs.Written.{Tells}

-- how many bytes are asked for at most: one more than a script has, and one more than a
-- certificate's text has
abbrev pub script_read : ℕ
script_read = 1048577

abbrev pub certificate_read : ℕ
certificate_read = 67108865

-- The bytes that are read, if at most so many are asked for. They are the reader's, if these are
-- known.
abbrev pub IsRead : Option (List ℕ) → ℕ → List ℕ → Type 0
IsRead None limit b = length b ≤ limit
IsRead (Some xs) limit b = b ≡ take limit xs

-- the certificate's text that is read, if the action reads one
abbrev pub IsTextRead : Action → Option (List ℕ) → ℕ → List ℕ → Type 0
IsTextRead Lint bytes limit text = text ≡ []
IsTextRead (Cert full) bytes limit text = text ≡ []
IsTextRead Check bytes limit text = IsRead bytes limit text
IsTextRead Print bytes limit text = text ≡ []

-- the text of such an answer was written, and the status is its own
pub record WritesAnswer (task : Task) (b certificate : List ℕ) (old new : Option (List ℕ)) (status : ℕ) : Type 0 where
  pub text : List ℕ
  pub tells : Tells task.action b certificate task.policy text status
  pub written : Appends old new text

-- a front of the text of such an answer was written, and not the whole
pub record WritesFront (task : Task) (b certificate : List ℕ) (old new : Option (List ℕ)) : Type 0 where
  pub text : List ℕ
  pub status : ℕ
  pub tells : Tells task.action b certificate task.policy text status
  pub count : ℕ
  pub some_left : count < length text
  pub written : Appends old new (take count text)
