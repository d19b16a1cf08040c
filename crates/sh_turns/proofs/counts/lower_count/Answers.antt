use Rattle.std.proofs.Common.{ap, sym, ◌∙◌, true≢false}
use Rattle.sh_drafts.proofs.ReadyLemmas.{lowered_swept, swept_same}
use Rattle.sh_turns.proofs.CountLemmas.{all_over}
use Rattle.sh_turns.proofs.counts.lower_count.Goals as goal

pub returns : goal.returns
returns c =
    let names = c.args.subject.now.names.now in
    swept_same c.args.subject.now _ _ _ _ _
    (lowered_swept c.args.subject.now c.args.draft.now.certificate c.lower_args.new.certificate c.args.place _ _ c.args.draft.now.probe.count _ c.requires.ready (c.in_ok-is_lowered.ensures.lowered names)
    (c.in_ok-is_lowered.ensures.working names) (λ other keeps slot placed. all_over names c.args.args _ (keeps.fit _) (c.requires.over other keeps slot placed))
    (λ e. absurd (true≢false (sym e ∙ c.requires.free))) c.requires.ready.probe)
    c.note_solved.ensures.certificate (ap (λ p. p.count) c.note_solved.ensures.probe)
