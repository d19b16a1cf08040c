use Rattle.std.proofs.Common.{sym, ◌∙◌}
use Rattle.std.proofs.lemmas.Result.{IfOk-weaker}
use Rattle.sh_tally.proofs.bounds.Tally.failed.Goals as goal

pub returns-then-is_redirected : goal.returns-then-is_redirected
returns-then-is_redirected c =
    let s = c.args.self.now in
    IfOk-weaker c.bound.result _ _
    (λ unit asks u more. asks u (more (sym (c.is_redirected.ensures s.script.now) ∙ c.if-is_redirected.true) c.of.result c.of.ensures))
    c.bound.ensures
