use Rattle.sh_drafts.specs.Writable.{sets_in}
use Rattle.sh_drafts.proofs.LowerLemmas.{nowhere_stays}
use Rattle.sh_drafts.proofs.lower.lower_known.Goals as goal

pub returns-in-None-clause-fits : goal.returns-in-None-clause-fits
returns-in-None-clause-fits c = nowhere_stays c.args.certificate.now c.args.place c.args.known.now (sets_in c.args.writable.now.vars c.args.writable.now.functions) c.in-None.is

pub returns-in-None-clause-idle : goal.returns-in-None-clause-idle
returns-in-None-clause-idle c = λ e. returns-in-None-clause-fits c
