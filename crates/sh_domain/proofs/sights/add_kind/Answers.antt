use Rattle.std.proofs.Common.{ap, ◌∙◌}
use Rattle.sh_domain.specs.Sights as spec
use Rattle.sh_domain.specs.Sights.{in_kind}
use Rattle.sh_domain.proofs.SightLemmas.{both, nothing_added, in_kind-For-None, in_kind-For-Some, in_kind-Branches}
use Rattle.sh_domain.proofs.sights.add_kind.Goals as goal

pub returns-in-Some : goal.returns-in-Some
returns-in-Some c =
    both c.add_words.result _ _ _ _ _ _ c.in_ok-add-in-For.ensures
    (in_kind-For-Some c.args.script.now c.args.kind.now c.in-For.name c.in-For.words c.in-Some.words _ c.in-For.is c.in-Some.is) (rw c.as_slice-in-Some.ensures at c.add_words.ensures)

pub returns-in-None : goal.returns-in-None
returns-in-None c = rw (in_kind-For-None c.args.script.now c.args.kind.now c.in-For.name c.in-For.words c.in-For.body c.in-For.is c.in-None.is) c.in_ok-add-in-For.ensures

pub returns-in_ok-add_word-in-Branches : goal.returns-in_ok-add_word-in-Branches
returns-in_ok-add_word-in-Branches c =
    both c.add_clauses.result _ _ _ _ _ _ c.in_ok-add_word-in-Branches.ensures (ap (spec.in_kind c.args.script.now) c.in-Branches.is ∙ in_kind-Branches c.args.script.now c.in-Branches.word c.in-Branches.clauses)
    (rw c.as_slice-in-Branches.ensures at c.add_clauses.ensures)

pub returns-in-Group : goal.returns-in-Group
unfolding in_kind
returns-in-Group c = nothing_added _ _ (ap (spec.in_kind c.args.script.now) c.in-Group.is)

pub returns-in-Subshell : goal.returns-in-Subshell
unfolding in_kind
returns-in-Subshell c = nothing_added _ _ (ap (spec.in_kind c.args.script.now) c.in-Subshell.is)

pub returns-in-Cond : goal.returns-in-Cond
unfolding in_kind
returns-in-Cond c = nothing_added _ _ (ap (spec.in_kind c.args.script.now) c.in-Cond.is)

pub returns-in-Loop : goal.returns-in-Loop
unfolding in_kind
returns-in-Loop c = nothing_added _ _ (ap (spec.in_kind c.args.script.now) c.in-Loop.is)
