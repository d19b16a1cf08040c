use Rattle.std.proofs.Common.{drop, take, ◌-◌, arith}
use Rattle.sh_rules.specs.Walks.{facts_in}
use Rattle.sh_drafts.proofs.ReadyLemmas.{names_numbered}
use Rattle.sh_sweeps.specs.Sweeps.{known_behind, setting_by}
use Rattle.sh_sweeps.proofs.KnownLemmas.{none_between, nothing_passed}
use Rattle.sh_sweeps.proofs.PlainLemmas.{joined_placed, run_passed, some_taken}
use Rattle.sh_sweeps.proofs.plain.carry_over.Goals as goal

pub returns-then-not-carries-clause-passed : goal.returns-then-not-carries-clause-passed
returns-then-not-carries-clause-passed c = nothing_passed c.args.subject.now c.args.course.now _ (none_between c.args.place (drop c.args.place c.args.items.now))

pub carry_run-next-requires-clause-placed : goal.carry_run-next-requires-clause-placed
unfolding facts_in
carry_run-next-requires-clause-placed c =
    let s = c.args.subject.now in
    let r = c.requires.ready in
    let x = c.args.draft.now.certificate in
    let w = c.requires.placed in
    let at = c.args.course.now in
    (at.by, w.0, joined_placed s r.admitted x (names_numbered s _ _ r) r.over at.by w.0 (known_behind s at.behind) _ (drop c.args.place c.args.items.now) (c.meet.ensures (setting_by s x)) w.1)

pub returns-then-next-place-clause-passed : goal.returns-then-next-place-clause-passed
returns-then-next-place-clause-passed c = nothing_passed c.args.subject.now c.args.course.now _ (none_between c.args.place (drop c.args.place c.args.items.now))

pub returns-clause-passed : goal.returns-clause-passed
unfolding facts_in
returns-clause-passed c =
    let s = c.args.subject.now in
    let r = c.requires.ready in
    let x = c.args.draft.now.certificate in
    let next = c.carry_run-next.result in
    let from = c.carry_run-next.ensures.from in
    let other = c.if-next-place.false in
    run_passed s r.admitted x (names_numbered s _ _ r) r.over c.args.course.now _ _ (take (next - c.args.place) (drop c.args.place c.args.items.now)) (c.meet.ensures (setting_by s x))
    (some_taken c.args.items.now c.args.place next (omega (arith, from, other)) c.carry_run-next.ensures.there) c.carry_run-next.ensures.passed
