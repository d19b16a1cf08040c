use Rattle.std.proofs.Common.{sym, ap, ◌∙◌}
use Rattle.sh_rules.specs.Walks.{setting}
use Rattle.sh_drafts.specs.Gathering.{with_sets}
use Rattle.sh_drafts.specs.Numbers.{numbers_in}
use Rattle.sh_sweeps.specs.Asked.{gathered_of}
use Rattle.sh_sweeps.proofs.AskingLemmas.{entry_drops, none_drops, nothing_lost}
use Rattle.sh_sweeps.proofs.gather.Gather.lose_like.Goals as goal

pub returns-in-Some : goal.returns-in-Some
returns-in-Some c =
    let x = setting c.args.claims.now in
    c.lose.ensures ∙ ap (λ d. with_sets (numbers_in x.names d) (gathered_of c.args.self.now)) (sym (entry_drops x c.args.callee.now c.in-Some.entry.now (sym c.in-Some.ensures)))

pub returns-in-None : goal.returns-in-None
returns-in-None c =
    let x = setting c.args.claims.now in
    nothing_lost x.names (gathered_of c.args.self.now) ∙ ap (λ d. with_sets (numbers_in x.names d) (gathered_of c.args.self.now)) (sym (none_drops x c.args.callee.now (sym c.in-None.ensures)))
