use Rattle.std.proofs.Common.{sym, subst}
use Rattle.sh_domain.specs.Entries as entries
use Rattle.sh_sweeps.specs.Sweeps.{AreItems, known_behind}
use Rattle.sh_passes.proofs.bodies.sweep_outside.Goals as goal

pub sweep_items-requires-clause-placed : goal.sweep_items-requires-clause-placed
sweep_items-requires-clause-placed c =
    let s = c.args.subject.now in
    let start = c.from_start-course.result in
    subst (λ y. AreItems s start.by y (known_behind s start.behind) c.as_slice-items.result.now) (sym (c.alone-outside.ensures s.script.now))
    (subst (AreItems s start.by entries.alone (known_behind s start.behind)) (sym c.as_slice-items.ensures) c.from_start-course.ensures)
