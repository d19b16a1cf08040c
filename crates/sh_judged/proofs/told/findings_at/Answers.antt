use Rattle.std.proofs.Common.{◌≡◌, map, take, ap, ◌∙◌, arith}
use Rattle.std.proofs.lemmas.List.{take_all}
use Rattle.sh_answers.specs.Findings.{contents_at}
use Rattle.sh_judged.proofs.FindingLemmas.{sorted_findings}
use Rattle.sh_judged.proofs.told.findings_at.Goals as goal

pub returns : goal.returns
returns c =
    let all : take c.loop-place.place-index c.args.places.now ≡ c.args.places.now = take_all c.loop-place.place-index c.args.places.now (omega arith) in
    sorted_findings c.args.script.now c.args.places.now c.loop-place.findings.items c.in_order.result (c.loop-place.invariant ∙ ap (map (contents_at c.args.script.now)) all) c.in_order.ensures.same c.in_order.ensures.sorted
