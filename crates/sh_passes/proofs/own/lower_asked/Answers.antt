use Rattle.std.proofs.Common.{ap}
use Rattle.sh_sweeps.specs.Asked.{gathered_of}
use Rattle.sh_sweeps.proofs.SweepLemmas.{sunk_swept}
use Rattle.sh_drafts.proofs.ReadyLemmas.{swept_same}
use Rattle.sh_passes.proofs.own.lower_asked.Goals as goal

pub lower_gathered-requires-clause-working : goal.lower_gathered-requires-clause-working
lower_gathered-requires-clause-working c = (c.requires.ready.loops, c.requires.ready.functions, c.requires.ready.working)

pub returns : goal.returns
returns c = record {
  swept = swept_same c.args.subject.now _ _ _ _ _ (sunk_swept c.args.subject.now c.args.draft.now.certificate c.lower_gathered.new.certificate (gathered_of c.args.gather.now) _ c.args.draft.now.probe.count _ c.requires.ready c.in_ok-is_lowered.ensures.sunk
      c.requires.stands c.requires.quiet c.in_ok-is_lowered.ensures.probed) c.note_lowered.ensures.certificate (ap (λ p. p.count) c.note_lowered.ensures.probe);
}
