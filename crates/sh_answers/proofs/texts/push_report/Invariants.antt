use Rattle.std.proofs.Common.{◌≡◌, ◌++◌, take}
use Rattle.std.specs.List.{flat_map}
use Rattle.sh_answers.specs.Texts.{finding_text}
use Rattle.sh_answers.specs.Verdicts.{contents_of}
use Rattle.sh_answers.proofs.texts.push_report.Given as goal

abbrev pub invariant-loop-finding : goal.invariant-loop-finding
invariant-loop-finding l = l.out.items ≡ l.initial.out.items ++ flat_map (λ f. finding_text (contents_of f)) (take l.finding-index l.findings)
