use Rattle.std.proofs.Common.{Some, refl, ap}
use Rattle.sh_domain.specs.Knowledge.{assured_facts}
use Rattle.sh_drafts.proofs.ReadyLemmas.{named_at, within_place, names_numbered, moved_swept, ready_again, swept_more}
use Rattle.sh_drafts.proofs.assured.lower_assured.Goals as goal
use Rattle.sh_drafts.specs.Starts.{start_of}

pub sight_of-sight-requires : goal.sight_of-sight-requires
sight_of-sight-requires c = names_numbered c.args.subject.now _ _ c.requires.ready

pub lower_at-requires-clause-ready : goal.lower_at-requires-clause-ready
lower_at-requires-clause-ready c =
    let s = c.args.subject.now in
    let moved = moved_swept s c.args.draft.now.certificate c.drop_unused.new.draft.certificate c.args.draft.now.probe.count _ c.requires.ready c.in_ok-drop_unused.ensures.same (ap (λ p. p.count) c.drop_unused.ensures.probe) in
    ready_again s _ _ _ _ c.requires.ready moved

pub lower_at-requires-clause-named : goal.lower_at-requires-clause-named
lower_at-requires-clause-named c =
    let s = c.args.subject.now in
    named_at (start_of s) s.names.now (assured_facts s.names.now c.args.assured.now) _ c.sight_of-sight.ensures

pub lower_at-requires-clause-stands : goal.lower_at-requires-clause-stands
lower_at-requires-clause-stands c = λ other keeps.
    let s = c.args.subject.now in
    within_place s.names.now other c.args.place _ (assured_facts s.names.now c.args.assured.now) _ (keeps.fit (Some c.args.place)) refl c.sight_of-sight.ensures (c.requires.stands other keeps)

pub returns-then-is_low : goal.returns-then-is_low
returns-then-is_low c =
    let s = c.args.subject.now in
    record { swept = moved_swept s c.args.draft.now.certificate c.drop_unused.new.draft.certificate c.args.draft.now.probe.count _ c.requires.ready c.in_ok-drop_unused.ensures.same (ap (λ p. p.count) c.drop_unused.ensures.probe) }

pub returns : goal.returns
returns c =
    let s = c.args.subject.now in
    let moved = moved_swept s c.args.draft.now.certificate c.drop_unused.new.draft.certificate c.args.draft.now.probe.count _ c.requires.ready c.in_ok-drop_unused.ensures.same (ap (λ p. p.count) c.drop_unused.ensures.probe) in
    record { swept = swept_more s _ _ _ _ _ moved c.in_ok-lower_at.ensures.swept }
