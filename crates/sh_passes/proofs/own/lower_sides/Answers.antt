use Rattle.std.proofs.Common.{length}
use Rattle.sh_sweeps.proofs.SideLemmas.{first_numbers, first_quiet, first_stands}
use Rattle.sh_drafts.proofs.ReadyLemmas.{ready_again, swept_more}
use Rattle.sh_passes.proofs.own.lower_sides.Goals as goal

pub returns : goal.returns
returns c = record { swept = swept_more c.args.subject.now _ _ _ _ _ c.in_ok-lower_asked.ensures.swept c.in_ok-lower_second.ensures.swept }

pub lower_second-requires-clause-ready : goal.lower_second-requires-clause-ready
lower_second-requires-clause-ready c = ready_again c.args.subject.now _ _ _ _ c.requires.ready c.in_ok-lower_asked.ensures.swept

pub ask_behind-requires-clause-stands : goal.ask_behind-requires-clause-stands
ask_behind-requires-clause-stands c = c.both_places-sides.ensures.stands c.args.subject.now.names.now

pub lower_asked-requires-clause-numbers : goal.lower_asked-requires-clause-numbers
lower_asked-requires-clause-numbers c = first_numbers c.ask_behind.new.sides (length c.args.subject.now.names.now) c.ask_behind.ensures.numbers

pub lower_asked-requires-clause-quiet : goal.lower_asked-requires-clause-quiet
lower_asked-requires-clause-quiet c = λ e. first_quiet c.ask_behind.new.sides (c.ask_behind.ensures.quiet e)

pub lower_asked-requires-clause-stands : goal.lower_asked-requires-clause-stands
lower_asked-requires-clause-stands c = λ other keeps. first_stands c.ask_behind.new.sides c.args.subject.now.names.now other (c.ask_behind.ensures.stands other keeps)
