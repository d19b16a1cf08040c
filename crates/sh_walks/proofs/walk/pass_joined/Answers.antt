use Rattle.std.proofs.Common.{sym, ◌∙◌}
use Rattle.sh_rules.specs.Walks as walks
use Rattle.sh_walks.proofs.SettledLemmas.{settled_left}
use Rattle.sh_walks.proofs.walk.pass_joined.Goals as goal

pub returns-then-is_settled : goal.returns-then-is_settled
returns-then-is_settled c =
    settled_left (walks.setting c.args.claims.now) (walks.behind_in (walks.setting c.args.claims.now) c.args.behind.now) (walks.behind_in (walks.setting c.args.claims.now) c.pass_item.new.self)
    (walks.facts_in (walks.setting c.args.claims.now) c.args.behind.now.zero) c.args.item.now (sym c.is_settled.ensures ∙ c.if-is_settled.true) c.pass_item.ensures
