use Rattle.std.proofs.Common.{◌∙◌}
use Rattle.sh_demands.proofs.KeptLemmas.{told_next}
use Rattle.sh_demands.proofs.reports.Subjects.tell_next.Goals as goal

pub returns-clause-told : goal.returns-clause-told
returns-clause-told c =
    told_next _ _ c.in_ok-own.own c.args.self.now.count c.args.places.now c.index-places-self.result c.requires.told c.requires.more
    (c.in_ok-own.ensures.items ∙ c.as_slice-subject.ensures) c.in_ok-insert.ensures.keys
