use Rattle.std.proofs.Common.{sym, ◌∙◌}
use Rattle.sh_demands.proofs.ReportLemmas.{once_kept, once_added}
use Rattle.sh_demands.proofs.reports.Reports.report_once.Goals as goal

pub returns-then-is_about : goal.returns-then-is_about
returns-then-is_about c = λ k ps h.
    rw c.is_about.ensures.same
    (once_kept c.args.self.now.is_short c.args.self.now.places.items c.args.start k c.args.at ps c.args.name.now (sym c.is_about.ensures.about ∙ c.if-is_about.true) h)

pub returns : goal.returns
returns c = λ k ps h.
    let added = rw c.is_about.ensures.same at c.report.ensures in
    once_added c.args.self.now.is_short c.report.new.self.is_short c.args.self.now.places.items c.report.new.self.places.items c.args.start k c.args.at ps c.args.name.now
    (sym c.is_about.ensures.about ∙ c.if-is_about.false) added h
