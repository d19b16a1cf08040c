use Rattle.std.specs.Prelude.{◌<◌, length}
use Rattle.std.proofs.lemmas.Result.{IfErr-weaker, IfOk-weaker}
use Rattle.sh_domain.specs.Facts.{start_facts}
use Rattle.sh_checks.proofs.FlowLemmas.{names_of}
use Rattle.sh_judged.specs.Prepared.{sheet_in}
use Rattle.sh_judged.specs.Told.{TellsPlaces}
use Rattle.sh_judged.proofs.CheckLemmas.{numbered_prepared, of_places}
use Rattle.sh_judged.proofs.verdicts.judged_kept.Goals as goal

pub check_demands-requires-clause-numbered : goal.check_demands-requires-clause-numbered
check_demands-requires-clause-numbered c = numbered_prepared c.args.script.now c.requires.0 c.args.prepared.now c.requires.1

pub check_demands-requires-clause-names : goal.check_demands-requires-clause-names
check_demands-requires-clause-names c =
    names_of c.args.script.now c.args.prepared.now.tree c.requires.0 c.args.prepared.now.names c.requires.1.admitted.numbered

pub returns-clause-reports : goal.returns-clause-reports
returns-clause-reports c =
    let p = c.args.prepared.now in
    IfOk-weaker c.verdict_with.result _ _
    (λ v. of_places c.args.script.now p.tree (sheet_in p c.args.certificate.now) c.in_ok-unmet.unmet.items (λ ps. TellsPlaces c.args.script.now ps v) (λ d. c.in_ok-unmet.ensures.places (start_facts d)))
    c.verdict_with.ensures.told

pub returns-clause-memory : goal.returns-clause-memory
returns-clause-memory c =
    let p = c.args.prepared.now in
    IfErr-weaker c.verdict_with.result _ _
    (λ _. of_places c.args.script.now p.tree (sheet_in p c.args.certificate.now) c.in_ok-unmet.unmet.items (λ ps. 0 < length ps) (λ d. c.in_ok-unmet.ensures.places (start_facts d)))
    c.verdict_with.ensures.memory
