use Rattle.sh_scan.proofs.BackquoteLemmas.{Unkept}
use Rattle.sh_scan.proofs.backquotes.kept_backslash.Given as goal

-- no backslash so far goes before the commands are read
abbrev pub invariant-loop-place : goal.invariant-loop-place
invariant-loop-place l = Unkept l.quoted l.text l.place
