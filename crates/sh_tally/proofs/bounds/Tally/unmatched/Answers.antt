use Rattle.std.proofs.lemmas.Result.{IfOk-weaker}
use Rattle.sh_domain.specs.Entries.{alone}
use Rattle.sh_tally.proofs.KindLemmas.{unmatched_added}
use Rattle.sh_tally.proofs.bounds.Tally.unmatched.Goals as goal

pub returns-else-matches_always : goal.returns-else-matches_always
returns-else-matches_always c =
    let s = c.args.self.now in
    IfOk-weaker c.bound.result _ _
    (λ unit asks. unmatched_added s alone c.args.number c.args.clauses.now c.matches_always.result c.args.known c.of.result c.args.equations.now c.bound.new.equations c.matches_always.ensures c.if-matches_always.false c.of.ensures asks)
    c.bound.ensures
