use Rattle.sh_domain.specs.Demands.{demands}
use Rattle.sh_domain.specs.Facts.{Facts}
use Rattle.sh_tree.specs.standard.program.Trees.{script_of}
use Rattle.sh_gains.specs.Claims.{kept_claims}
use Rattle.sh_demands.proofs.ReportLemmas.{places_are, some_are}
use Rattle.sh_demands.proofs.WholeLemmas.{names_numbered, table_text, whole_told}
use Rattle.sh_demands.proofs.demands.check_demands.Goals as goal

pub new-source-requires-clause-numbered : goal.new-source-requires-clause-numbered
new-source-requires-clause-numbered c = names_numbered c.args.script.now c.args.tree.now c.args.names.now c.requires.names

pub new-source-requires-clause-text : goal.new-source-requires-clause-text
new-source-requires-clause-text c = table_text c.args.script.now c.args.tree.now c.args.calls.now c.requires.table

pub returns-clause-places : goal.returns-clause-places
returns-clause-places c =
    let a = c.args in
    places_are c.finish.result c.tell_script.new.reports _ (λ (start : Facts). demands start (kept_claims a.script.now a.tree.now a.names.now a.certificate.now) (script_of a.script.now a.tree.now))
    (c.tell_script.ensures _ c.new-reports.ensures)
    (whole_told a.script.now a.tree.now a.names.now a.certificate.now a.calls.now c.new-source.result c.requires.table c.requires.numbered c.requires.names c.new-source.ensures)
    c.finish.ensures.all

pub returns-clause-memory : goal.returns-clause-memory
returns-clause-memory c =
    let a = c.args in
    some_are c.finish.result c.tell_script.new.reports _ (λ (start : Facts). demands start (kept_claims a.script.now a.tree.now a.names.now a.certificate.now) (script_of a.script.now a.tree.now))
    (c.tell_script.ensures _ c.new-reports.ensures)
    (whole_told a.script.now a.tree.now a.names.now a.certificate.now a.calls.now c.new-source.result c.requires.table c.requires.numbered c.requires.names c.new-source.ensures)
    c.finish.ensures.some
