use Rattle.std.proofs.Common.{refl}
use Rattle.sh_domain.specs.declared.rule.FlowRule.TheVariants.{F1}
use Rattle.sh_rules.specs.Walks.{facts_in}
use Rattle.sh_sweeps.specs.Sweeps.{setting_by}
use Rattle.sh_sweeps.proofs.PlacedLemmas.{start_placed, start_unknown}
use Rattle.sh_passes.proofs.bodies.from_start.Goals as goal

pub returns-then-is_start_noted : goal.returns-then-is_start_noted
returns-then-is_start_noted c =
    let s = c.args.subject.now in
    start_unknown s (record { by = F1; behind = c.nothing_behind.result }) refl (c.nothing_behind.ensures s)

pub returns : goal.returns
unfolding facts_in
returns c =
    let s = c.args.subject.now in
    start_placed s c.begun.result c.start-start.result c.begun.ensures.by (c.begun.ensures.behind (setting_by s c.args.draft.now.certificate)) c.start-start.ensures
