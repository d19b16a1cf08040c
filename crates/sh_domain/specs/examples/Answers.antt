-- The answers to certificates of known scripts, against which the rules and the demands are held.
-- POSIX.1-2024, XCU 2.9 (shell commands).
use Rattle.sh_domain.specs.examples.ShortScripts.{ShortScriptsAsExpected}
use Rattle.sh_domain.specs.examples.MoreShortScripts.{MoreShortScriptsAsExpected}
use Rattle.sh_domain.specs.examples.Scripts.{ScriptsAsExpected}
use Rattle.sh_domain.specs.examples.LongerScripts.{LongerScriptsAsExpected}
use Rattle.sh_domain.specs.examples.ForgedScripts.{ForgedScriptsAsExpected}

pub record AnswersAsExpected : Type 0 where
  pub short_scripts : ShortScriptsAsExpected
  pub more_short_scripts : MoreShortScriptsAsExpected
  pub scripts : ScriptsAsExpected
  pub longer_scripts : LongerScriptsAsExpected
  pub forged_scripts : ForgedScriptsAsExpected
