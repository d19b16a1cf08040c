use Rattle.std.proofs.Common.{sym, ◌∙◌}
use Rattle.sh_rules.specs.Walks as walks
use Rattle.sh_rules.proofs.BehindLemmas.{same_kept}
use Rattle.sh_rules.proofs.behind.Behind.pass_next.Goals as goal

pub returns-else-not-is_same-clause-passed : goal.returns-else-not-is_same-clause-passed
returns-else-not-is_same-clause-passed c =
    let x = walks.setting c.args.claims.now in
    let o = walks.behind_in x c.args.self.now in
    sym (c.keeps-keeps.ensures c.if-not-keeps.false x o ∙ same_kept o (c.requires c.if-not-is_same.false))
