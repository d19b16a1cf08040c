use Rattle.sh_passes.proofs.sweep.pass_by.Goals as goal

pub returns-then-eq : goal.returns-then-eq
returns-then-eq c = c.leave_item.ensures c.args.subject.now c.args.item.now
