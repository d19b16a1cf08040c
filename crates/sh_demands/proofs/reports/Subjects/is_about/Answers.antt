use Rattle.std.proofs.Common.{◌∙◌}
use Rattle.sh_demands.proofs.KeptLemmas.{told_all}
use Rattle.sh_demands.proofs.reports.Subjects.is_about.Goals as goal

pub returns-in-Ok-clause-about : goal.returns-in-Ok-clause-about
returns-in-Ok-clause-about c = c.contains.ensures ∙ told_all _ _ _ c.args.name.now c.tell.ensures.told c.in-Ok.ensures.all
