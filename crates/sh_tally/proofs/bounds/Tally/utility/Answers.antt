use Rattle.std.proofs.Common.{sym, subst}
use Rattle.std.proofs.lemmas.Result.{IfOk-weaker}
use Rattle.sh_tree.specs.Lists.{elements_from}
use Rattle.sh_domain.specs.Table as table
use Rattle.sh_rules.specs.Walks as walks
use Rattle.sh_tally.specs.Walks.{AddsManner, names}
use Rattle.sh_tally.proofs.SimpleLemmas.{false_added, neutral_added, read_added}
use Rattle.sh_tally.proofs.bounds.Tally.utility.Goals as goal

pub returns-in-Cd : goal.returns-in-Cd
returns-in-Cd c =
    let s = c.args.self.now in
    let y = walks.around s.script.now c.args.around.now in
    let es = elements_from s.script.now c.args.elements.now in
    IfOk-weaker c.leaves.result _ _
    (λ unit adds ws. subst (λ k. AddsManner s y c.args.number es c.args.left (table.Utility k ws) c.args.equations.now c.leaves.new.equations) (sym c.in-Cd.is)
    ((neutral_added s y c.args.number es c.args.left ws c.args.equations.now c.leaves.new.equations c.both.result (c.both.ensures (names s)) adds).0))
    c.leaves.ensures

pub returns-in-Command : goal.returns-in-Command
returns-in-Command c =
    let s = c.args.self.now in
    let y = walks.around s.script.now c.args.around.now in
    let es = elements_from s.script.now c.args.elements.now in
    IfOk-weaker c.leaves-in-Command.result _ _
    (λ unit adds ws. subst (λ k. AddsManner s y c.args.number es c.args.left (table.Utility k ws) c.args.equations.now c.leaves-in-Command.new.equations) (sym c.in-Command.is)
    ((neutral_added s y c.args.number es c.args.left ws c.args.equations.now c.leaves-in-Command.new.equations c.both-in-Command.result (c.both-in-Command.ensures (names s)) adds).1))
    c.leaves-in-Command.ensures

pub returns-in-Refused : goal.returns-in-Refused
returns-in-Refused c =
    let s = c.args.self.now in
    let y = walks.around s.script.now c.args.around.now in
    let es = elements_from s.script.now c.args.elements.now in
    IfOk-weaker c.leaves-in-Refused.result _ _
    (λ unit adds ws. subst (λ k. AddsManner s y c.args.number es c.args.left (table.Utility k ws) c.args.equations.now c.leaves-in-Refused.new.equations) (sym c.in-Refused.is)
    ((neutral_added s y c.args.number es c.args.left ws c.args.equations.now c.leaves-in-Refused.new.equations c.both-in-Refused.result (c.both-in-Refused.ensures (names s)) adds).2 _))
    c.leaves-in-Refused.ensures

pub returns-in-Utility : goal.returns-in-Utility
returns-in-Utility c =
    let s = c.args.self.now in
    let y = walks.around s.script.now c.args.around.now in
    let es = elements_from s.script.now c.args.elements.now in
    IfOk-weaker c.leaves-in-Utility.result _ _
    (λ unit adds ws. subst (λ k. AddsManner s y c.args.number es c.args.left (table.Utility k ws) c.args.equations.now c.leaves-in-Utility.new.equations) (sym c.in-Utility.is)
    ((neutral_added s y c.args.number es c.args.left ws c.args.equations.now c.leaves-in-Utility.new.equations c.both-in-Utility.result (c.both-in-Utility.ensures (names s)) adds).3))
    c.leaves-in-Utility.ensures

pub returns-in-True : goal.returns-in-True
returns-in-True c =
    let s = c.args.self.now in
    let y = walks.around s.script.now c.args.around.now in
    let es = elements_from s.script.now c.args.elements.now in
    IfOk-weaker c.done.result _ _
    (λ unit adds ws. subst (λ k. AddsManner s y c.args.number es c.args.left (table.Utility k ws) c.args.equations.now c.done.new.equations) (sym c.in-True.is) (adds ws))
    c.done.ensures

pub returns-in-False : goal.returns-in-False
returns-in-False c =
    let s = c.args.self.now in
    let y = walks.around s.script.now c.args.around.now in
    let es = elements_from s.script.now c.args.elements.now in
    IfOk-weaker c.bound.result _ _
    (λ unit adds ws. subst (λ k. AddsManner s y c.args.number es c.args.left (table.Utility k ws) c.args.equations.now c.bound.new.equations) (sym c.in-False.is)
    (false_added s y c.args.number es c.args.left ws c.args.equations.now c.bound.new.equations c.of.result c.of.ensures adds))
    c.bound.ensures

pub returns-in-Read : goal.returns-in-Read
returns-in-Read c =
    let s = c.args.self.now in
    let y = walks.around s.script.now c.args.around.now in
    let es = elements_from s.script.now c.args.elements.now in
    IfOk-weaker c.leaves-in-Read.result _ _
    (λ unit adds ws. subst (λ k. AddsManner s y c.args.number es c.args.left (table.Utility k ws) c.args.equations.now c.leaves-in-Read.new.equations) (sym c.in-Read.is)
    ((read_added s y c.args.number es c.args.left ws c.args.equations.now c.leaves-in-Read.new.equations c.both-in-Read.result (c.both-in-Read.ensures (names s)) adds).0))
    c.leaves-in-Read.ensures

pub returns-in-Getopts : goal.returns-in-Getopts
returns-in-Getopts c =
    let s = c.args.self.now in
    let y = walks.around s.script.now c.args.around.now in
    let es = elements_from s.script.now c.args.elements.now in
    IfOk-weaker c.leaves-in-Getopts.result _ _
    (λ unit adds ws. subst (λ k. AddsManner s y c.args.number es c.args.left (table.Utility k ws) c.args.equations.now c.leaves-in-Getopts.new.equations) (sym c.in-Getopts.is)
    ((read_added s y c.args.number es c.args.left ws c.args.equations.now c.leaves-in-Getopts.new.equations c.both-in-Getopts.result (c.both-in-Getopts.ensures (names s)) adds).1))
    c.leaves-in-Getopts.ensures
