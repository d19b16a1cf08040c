use Rattle.std.proofs.Common.{length, subst}
use Rattle.sh_judged.specs.Prepared.{IsRead}
use Rattle.sh_report.proofs.CertificateLemmas.{compact_gives, compact_sized, fillable, full_gives, full_sized}
use Rattle.sh_report.proofs.claimed.given_certificate.Goals as goal

pub fill-requires-clause-sized : goal.fill-requires-clause-sized
fill-requires-clause-sized c = compact_sized c.in-Compact.compact (length c.args.prepared.now.names) c.args.given c.in-Compact.is c.requires.sized

pub fill-requires-clause-fits : goal.fill-requires-clause-fits
fill-requires-clause-fits c =
    (fillable c.args.script.now c.args.policy.now c.args.prepared.now c.requires.prepared c.in-Compact.compact (subst (IsRead c.args.prepared.now) c.in-Compact.is c.requires.read)).fit

pub fill-requires-clause-spelled : goal.fill-requires-clause-spelled
fill-requires-clause-spelled c =
    (fillable c.args.script.now c.args.policy.now c.args.prepared.now c.requires.prepared c.in-Compact.compact (subst (IsRead c.args.prepared.now) c.in-Compact.is c.requires.read)).spelled

pub fill-requires-clause-started : goal.fill-requires-clause-started
fill-requires-clause-started c =
    (fillable c.args.script.now c.args.policy.now c.args.prepared.now c.requires.prepared c.in-Compact.compact (subst (IsRead c.args.prepared.now) c.in-Compact.is c.requires.read)).started

pub returns-in-Full-clause-gives : goal.returns-in-Full-clause-gives
returns-in-Full-clause-gives c = full_gives c.args.script.now c.args.prepared.now c.in-Full.certificate c.args.given c.in-Full.is

pub returns-in-Full-clause-sized : goal.returns-in-Full-clause-sized
returns-in-Full-clause-sized c = full_sized c.in-Full.certificate (length c.args.prepared.now.names) c.args.given c.in-Full.is c.requires.sized

pub returns-in-Compact-clause-gives : goal.returns-in-Compact-clause-gives
returns-in-Compact-clause-gives c = compact_gives c.args.script.now c.args.prepared.now c.in-Compact.compact c.args.given c.fill.result c.in-Compact.is c.fill.ensures.filled
