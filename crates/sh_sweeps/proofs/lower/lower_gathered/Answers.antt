use Rattle.std.proofs.Common.{sym, ◌∙◌, true≢false}
use Rattle.sh_sweeps.specs.Asked.{gathered_of}
use Rattle.sh_drafts.specs.Writable.{sets_in}
use Rattle.sh_drafts.proofs.LowerLemmas.{both_fit, idle_both}
use Rattle.sh_sweeps.proofs.TurnLemmas.{sunk_both, sunk_then, sunk_else}
use Rattle.sh_sweeps.proofs.lower.lower_gathered.Goals as goal

pub lower_known-requires-clause-named : goal.lower_known-requires-clause-named
unfolding gathered_of
lower_known-requires-clause-named c = c.requires.numbers.known

pub add_drops-requires-clause-below : goal.add_drops-requires-clause-below
unfolding gathered_of
add_drops-requires-clause-below c = c.requires.numbers.sets

pub add_drops-requires-clause-fine : goal.add_drops-requires-clause-fine
add_drops-requires-clause-fine c = (c.in_ok-lowered.ensures.working c.requires.working.0 c.requires.working.1 c.requires.working.2).drops c.args.gather.now.target.function

pub returns-then-lowered-clause-sunk : goal.returns-then-lowered-clause-sunk
unfolding gathered_of
returns-then-lowered-clause-sunk c = λ loops m working.
    let between = c.in_ok-lowered.ensures.working loops m working in
    sunk_then c.args.names.now loops m c.args.certificate.now c.add_drops.new.certificate (gathered_of c.args.gather.now) c.in_ok-lowered.lowered c.in_ok-has_dropped.has_dropped c.if-lowered.true
    (sunk_both c.args.names.now loops m c.args.certificate.now c.lower_known.new.certificate c.add_drops.new.certificate (gathered_of c.args.gather.now) c.in_ok-lowered.lowered c.in_ok-has_dropped.has_dropped working between
    (c.in_ok-has_dropped.ensures.working loops m between) (c.in_ok-lowered.ensures.lowered loops m working) (c.in_ok-has_dropped.ensures.counted loops m between) c.requires.numbers)

pub returns-else-lowered-clause-sunk : goal.returns-else-lowered-clause-sunk
unfolding gathered_of
returns-else-lowered-clause-sunk c = λ loops m working.
    let between = c.in_ok-lowered.ensures.working loops m working in
    sunk_else c.args.names.now loops m c.args.certificate.now c.add_drops.new.certificate (gathered_of c.args.gather.now) c.in_ok-lowered.lowered c.in_ok-has_dropped.has_dropped c.if-lowered.false
    (sunk_both c.args.names.now loops m c.args.certificate.now c.lower_known.new.certificate c.add_drops.new.certificate (gathered_of c.args.gather.now) c.in_ok-lowered.lowered c.in_ok-has_dropped.has_dropped working between
    (c.in_ok-has_dropped.ensures.working loops m between) (c.in_ok-lowered.ensures.lowered loops m working) (c.in_ok-has_dropped.ensures.counted loops m between) c.requires.numbers)

pub returns-then-lowered-clause-idle : goal.returns-then-lowered-clause-idle
returns-then-lowered-clause-idle c = λ e. absurd (true≢false (sym c.if-lowered.true ∙ e))

pub returns-else-lowered-clause-idle : goal.returns-else-lowered-clause-idle
unfolding gathered_of
returns-else-lowered-clause-idle c = λ e.
    let r = c.requires.working in
    idle_both c.args.certificate.now c.lower_known.new.certificate (sets_in c.args.writable.now.vars c.args.writable.now.functions) (gathered_of c.args.gather.now)
    ((c.in_ok-lowered.ensures.lowered r.0 r.1 r.2).stays c.if-lowered.false) (c.in_ok-lowered.ensures.idle c.if-lowered.false) (c.in_ok-has_dropped.ensures.idle e)

pub returns-then-lowered-clause-fits : goal.returns-then-lowered-clause-fits
unfolding gathered_of
returns-then-lowered-clause-fits c =
    let r = c.requires.working in
    let between = c.in_ok-lowered.ensures.working r.0 r.1 r.2 in
    both_fit c.lower_known.new.certificate c.add_drops.new.certificate (sets_in c.args.writable.now.vars c.args.writable.now.functions) (gathered_of c.args.gather.now)
    ((c.in_ok-has_dropped.ensures.counted r.0 r.1 between).claims c.args.gather.now.target.place) c.in_ok-lowered.ensures.fits c.in_ok-has_dropped.ensures.fits

pub returns-else-lowered-clause-fits : goal.returns-else-lowered-clause-fits
unfolding gathered_of
returns-else-lowered-clause-fits c =
    let r = c.requires.working in
    let between = c.in_ok-lowered.ensures.working r.0 r.1 r.2 in
    both_fit c.lower_known.new.certificate c.add_drops.new.certificate (sets_in c.args.writable.now.vars c.args.writable.now.functions) (gathered_of c.args.gather.now)
    ((c.in_ok-has_dropped.ensures.counted r.0 r.1 between).claims c.args.gather.now.target.place) c.in_ok-lowered.ensures.fits c.in_ok-has_dropped.ensures.fits
