use Rattle.std.proofs.Common.{sym, subst}
use Rattle.std.proofs.lemmas.Result.{IfOk-weaker}
use Rattle.sh_tree.specs.Lists.{elements_from}
use Rattle.sh_runs.specs.declared.kind.Kind.TheVariants as kind
use Rattle.sh_domain.specs.Table as table
use Rattle.sh_rules.specs.Walks as walks
use Rattle.sh_tally.specs.Walks.{AddsManner, names}
use Rattle.sh_tally.proofs.SimpleLemmas.{colon_added, settled_added}
use Rattle.sh_tally.proofs.bounds.Tally.special.Goals as goal

pub returns-in-Colon : goal.returns-in-Colon
returns-in-Colon c =
    let s = c.args.self.now in
    let y = walks.around s.script.now c.args.around.now in
    let es = elements_from s.script.now c.args.elements.now in
    IfOk-weaker c.bound.result _ _
    (λ unit adds ws behind same. subst (λ n. AddsManner s y c.args.number es c.args.left (table.Utility (kind.Special n) ws) c.args.equations.now c.bound.new.equations) (sym c.in-Colon.is)
    (colon_added s y c.args.number es c.args.left ws c.args.equations.now c.bound.new.equations c.of.result c.of.ensures adds))
    c.bound.ensures

pub returns-in-Set : goal.returns-in-Set
returns-in-Set c =
    let s = c.args.self.now in
    let y = walks.around s.script.now c.args.around.now in
    let es = elements_from s.script.now c.args.elements.now in
    IfOk-weaker c.set.result _ _
    (λ unit adds ws behind same. subst (λ n. AddsManner s y c.args.number es c.args.left (table.Utility (kind.Special n) ws) c.args.equations.now c.set.new.equations) (sym c.in-Set.is)
    (adds ws behind same))
    c.set.ensures

pub returns-in-Shift : goal.returns-in-Shift
returns-in-Shift c =
    let s = c.args.self.now in
    let y = walks.around s.script.now c.args.around.now in
    let es = elements_from s.script.now c.args.elements.now in
    IfOk-weaker c.shift.result _ _
    (λ unit adds ws behind same. subst (λ n. AddsManner s y c.args.number es c.args.left (table.Utility (kind.Special n) ws) c.args.equations.now c.shift.new.equations) (sym c.in-Shift.is)
    (adds ws same))
    c.shift.ensures

pub returns-in-Exec : goal.returns-in-Exec
returns-in-Exec c =
    let s = c.args.self.now in
    let y = walks.around s.script.now c.args.around.now in
    let es = elements_from s.script.now c.args.elements.now in
    IfOk-weaker c.exec.result _ _
    (λ unit adds ws behind same. subst (λ n. AddsManner s y c.args.number es c.args.left (table.Utility (kind.Special n) ws) c.args.equations.now c.exec.new.equations) (sym c.in-Exec.is)
    (adds ws same))
    c.exec.ensures

pub returns-in-Export : goal.returns-in-Export
returns-in-Export c =
    let s = c.args.self.now in
    let y = walks.around s.script.now c.args.around.now in
    let es = elements_from s.script.now c.args.elements.now in
    IfOk-weaker c.leaves.result _ _
    (λ unit adds ws behind same. subst (λ n. AddsManner s y c.args.number es c.args.left (table.Utility (kind.Special n) ws) c.args.equations.now c.leaves.new.equations) (sym c.in-Export.is)
    ((settled_added s y c.args.number es c.args.left ws c.args.equations.now c.leaves.new.equations c.both.result (c.both.ensures (names s)) adds).0))
    c.leaves.ensures

pub returns-in-Readonly : goal.returns-in-Readonly
returns-in-Readonly c =
    let s = c.args.self.now in
    let y = walks.around s.script.now c.args.around.now in
    let es = elements_from s.script.now c.args.elements.now in
    IfOk-weaker c.leaves-in-Readonly.result _ _
    (λ unit adds ws behind same. subst (λ n. AddsManner s y c.args.number es c.args.left (table.Utility (kind.Special n) ws) c.args.equations.now c.leaves-in-Readonly.new.equations) (sym c.in-Readonly.is)
    ((settled_added s y c.args.number es c.args.left ws c.args.equations.now c.leaves-in-Readonly.new.equations c.both-in-Readonly.result (c.both-in-Readonly.ensures (names s)) adds).1))
    c.leaves-in-Readonly.ensures

pub returns-in-Unset : goal.returns-in-Unset
returns-in-Unset c =
    let s = c.args.self.now in
    let y = walks.around s.script.now c.args.around.now in
    let es = elements_from s.script.now c.args.elements.now in
    IfOk-weaker c.leaves-in-Unset.result _ _
    (λ unit adds ws behind same. subst (λ n. AddsManner s y c.args.number es c.args.left (table.Utility (kind.Special n) ws) c.args.equations.now c.leaves-in-Unset.new.equations) (sym c.in-Unset.is)
    ((settled_added s y c.args.number es c.args.left ws c.args.equations.now c.leaves-in-Unset.new.equations c.both-in-Unset.result (c.both-in-Unset.ensures (names s)) adds).2))
    c.leaves-in-Unset.ensures

pub returns-in-Times : goal.returns-in-Times
returns-in-Times c =
    let s = c.args.self.now in
    let y = walks.around s.script.now c.args.around.now in
    let es = elements_from s.script.now c.args.elements.now in
    IfOk-weaker c.leaves-in-Times.result _ _
    (λ unit adds ws behind same. subst (λ n. AddsManner s y c.args.number es c.args.left (table.Utility (kind.Special n) ws) c.args.equations.now c.leaves-in-Times.new.equations) (sym c.in-Times.is)
    ((settled_added s y c.args.number es c.args.left ws c.args.equations.now c.leaves-in-Times.new.equations c.both-in-Times.result (c.both-in-Times.ensures (names s)) adds).3))
    c.leaves-in-Times.ensures

pub returns-in-Trap : goal.returns-in-Trap
returns-in-Trap c =
    let s = c.args.self.now in
    let y = walks.around s.script.now c.args.around.now in
    let es = elements_from s.script.now c.args.elements.now in
    IfOk-weaker c.leaves-in-Trap.result _ _
    (λ unit adds ws behind same. subst (λ n. AddsManner s y c.args.number es c.args.left (table.Utility (kind.Special n) ws) c.args.equations.now c.leaves-in-Trap.new.equations) (sym c.in-Trap.is)
    ((settled_added s y c.args.number es c.args.left ws c.args.equations.now c.leaves-in-Trap.new.equations c.both-in-Trap.result (c.both-in-Trap.ensures (names s)) adds).4))
    c.leaves-in-Trap.ensures

pub returns-in-Continue : goal.returns-in-Continue
returns-in-Continue c =
    let s = c.args.self.now in
    let y = walks.around s.script.now c.args.around.now in
    let es = elements_from s.script.now c.args.elements.now in
    IfOk-weaker c.continued.result _ _
    (λ unit adds ws behind same. subst (λ n. AddsManner s y c.args.number es c.args.left (table.Utility (kind.Special n) ws) c.args.equations.now c.continued.new.equations) (sym c.in-Continue.is)
    (adds ws same))
    c.continued.ensures

pub returns-in-Break : goal.returns-in-Break
returns-in-Break c =
    let s = c.args.self.now in
    let y = walks.around s.script.now c.args.around.now in
    let es = elements_from s.script.now c.args.elements.now in
    IfOk-weaker c.broken.result _ _
    (λ unit adds ws behind same. subst (λ n. AddsManner s y c.args.number es c.args.left (table.Utility (kind.Special n) ws) c.args.equations.now c.broken.new.equations) (sym c.in-Break.is)
    (adds ws same))
    c.broken.ensures
