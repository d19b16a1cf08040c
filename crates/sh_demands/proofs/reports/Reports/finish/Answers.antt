use Rattle.std.proofs.Common.{◌∙◌}
use Rattle.sh_demands.proofs.ReportLemmas.{all_kept, some_lost}
use Rattle.sh_demands.proofs.reports.Reports.finish.Goals as goal

pub returns-then-self-clause-some : goal.returns-then-self-clause-some
returns-then-self-clause-some c = λ ps h. some_lost _ _ ps c.if-self.true h

pub returns-else-self-clause-all : goal.returns-else-self-clause-all
returns-else-self-clause-all c = λ ps h. c.into_places.ensures ∙ all_kept _ _ ps c.if-self.false h
