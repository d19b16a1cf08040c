use Rattle.std.proofs.Common.{sym, ◌∙◌}
use Rattle.sh_rules.specs.Walks as walks
use Rattle.sh_walks.proofs.LoneLemmas.{inside_out, lone_out}
use Rattle.sh_walks.proofs.walk.+walk.Goals as goal

pub walk_command-returns-then-not-is_lone : goal.walk_command-returns-then-not-is_lone
walk_command-returns-then-not-is_lone g t c =
    let x = walks.setting c.args.claims.now in
    inside_out x (g.V.Visitor.with_met x) c.args.by (walks.around x.script c.args.around.now) (walks.facts_in x c.args.known.now) (g.V.Visitor.kept c.args.visitor.now) (g.V.Visitor.kept c.visit.new.self)
    (g.V.Visitor.kept c.walk_inside.new.visitor) c.args.command.now c.visit.ensures c.walk_inside.ensures

pub walk_command-returns-else-not-is_lone : goal.walk_command-returns-else-not-is_lone
walk_command-returns-else-not-is_lone g t c =
    let x = walks.setting c.args.claims.now in
    lone_out x (g.V.Visitor.with_met x) c.args.by (walks.around x.script c.args.around.now) (walks.facts_in x c.args.known.now) (g.V.Visitor.kept c.args.visitor.now) (g.V.Visitor.kept c.visit.new.self)
    c.args.command.now c.visit.ensures (sym (c.is_lone.ensures x.script) ∙ c.if-not-is_lone.false)
