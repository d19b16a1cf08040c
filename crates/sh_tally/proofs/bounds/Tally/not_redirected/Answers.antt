use Rattle.std.proofs.Common.{Some, ap, sym}
use Rattle.sh_domain.specs.Views.{Before}
use Rattle.sh_tally.specs.Views.{index_of}
use Rattle.sh_tally.specs.Walks.{names}
use Rattle.sh_tally.proofs.RedirectLemmas.{failed_added}
use Rattle.std.proofs.lemmas.Result.{IfOk-weaker}
use Rattle.sh_tally.proofs.bounds.Tally.not_redirected.Goals as goal

pub returns-in-len1-up : goal.returns-in-len1-up
unfolding index_of
returns-in-len1-up c =
    let s = c.args.self.now in
    let own = c.at-before.ensures (names s) (Before c.args.number) (ap Some (sym c.of.ensures)) in
    IfOk-weaker c.bound.result _ _
    (λ unit asks. failed_added s c.args.number c.args.redirects.now c.at-before.result c.of-in-len1-up.result c.args.equations.now c.bound.new.equations c.in-len1-up.len_at_least c.of-in-len1-up.ensures own asks)
    c.bound.ensures
