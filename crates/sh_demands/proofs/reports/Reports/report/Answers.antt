use Rattle.std.proofs.Common.{◌∙◌, sym}
use Rattle.sh_demands.specs.Reported.{place}
use Rattle.sh_demands.proofs.ReportLemmas.{short_more, lost_more, kept_more}
use Rattle.sh_demands.proofs.reports.Reports.report.Goals as goal

pub returns-then-self : goal.returns-then-self
returns-then-self c = λ ps h. short_more c.args.self.now.is_short _ ps (place c.args.at c.args.code c.args.subject.now) c.if-self.true

pub returns-then-is_err : goal.returns-then-is_err
returns-then-is_err c = λ ps h. lost_more _ ps (place c.args.at c.args.code c.args.subject.now)

pub returns-else-is_err : goal.returns-else-is_err
returns-else-is_err c = λ ps h.
    kept_more c.keep.result _ _ _ _ ps (place c.args.at c.args.code c.args.subject.now) c.if-self.false c.keep.ensures.short (sym c.is_err.ensures.value ∙ c.if-is_err.false) c.keep.ensures.kept h
