use Rattle.std.proofs.Common.{◌≡◌, map, take}
use Rattle.sh_answers.specs.Findings.{contents_at}
use Rattle.sh_answers.specs.Verdicts.{contents_of}
use Rattle.sh_judged.proofs.told.findings_at.Given as goal

-- the findings so far are those of the places so far
abbrev pub invariant-loop-place : goal.invariant-loop-place
invariant-loop-place l = map contents_of l.findings.items ≡ map (contents_at l.script) (take l.place-index l.places)
