use Rattle.std.proofs.Common.{length, subst, sym}
use Rattle.sh_domain.specs.Entries.{Entered}
use Rattle.sh_domain.specs.Knowledge.{knowledge_facts}
use Rattle.sh_rules.specs.Walks as walks
use Rattle.sh_rules.specs.Walks.{facts_in}
use Rattle.sh_tree.specs.standard.program.Trees as trees
use Rattle.sh_drafts.specs.Turns.{AreNumbers, IsQuiet, Stands}
use Rattle.sh_sweeps.specs.Asked.{gathered_of}
use Rattle.sh_sweeps.proofs.MetLemmas.{one_numbers, one_quiet, one_stands}
use Rattle.sh_sweeps.proofs.PlacedLemmas.{own_part}
use Rattle.sh_sweeps.proofs.TurnLemmas.{new_numbers, new_quiet, new_stands}
use Rattle.sh_passes.proofs.own.lower_once.Goals as goal

pub tell-requires-clause-sized : goal.tell-requires-clause-sized
tell-requires-clause-sized c = c.requires.ready.working.count

pub tell-requires-clause-admitted : goal.tell-requires-clause-admitted
tell-requires-clause-admitted c = c.requires.ready.admitted

pub lower_asked-requires-clause-numbers : goal.lower_asked-requires-clause-numbers
unfolding facts_in
lower_asked-requires-clause-numbers c =
    let s = c.args.subject.now in
    let y = walks.around s.script.now c.args.around.now in
    let k = knowledge_facts s.names.now c.args.known.now in
    let e : Entered = record { command = trees.command_of s.script.now c.args.command.now; rule = c.args.by; around = y; seen = c.requires.placed.seen } in
    subst (AreNumbers (length s.names.now)) (sym c.tell.ensures)
    (one_numbers s c.requires.ready.admitted e (own_part s c.args.by y k c.args.command.now c.requires.placed) c.args.draft.now.certificate k (gathered_of c.new-gather.result)
    (new_numbers c.args.target c.new-gather.result c.new-gather.ensures (length s.names.now)))

pub lower_asked-requires-clause-stands : goal.lower_asked-requires-clause-stands
unfolding facts_in
lower_asked-requires-clause-stands c = λ other keeps.
    let s = c.args.subject.now in
    let y = walks.around s.script.now c.args.around.now in
    let k = knowledge_facts s.names.now c.args.known.now in
    let e : Entered = record { command = trees.command_of s.script.now c.args.command.now; rule = c.args.by; around = y; seen = c.requires.placed.seen } in
    subst (Stands s.names.now other) (sym c.tell.ensures)
    (one_stands s c.requires.ready.admitted e (own_part s c.args.by y k c.args.command.now c.requires.placed) c.args.draft.now.certificate k (gathered_of c.new-gather.result) c.requires.ready.over c.requires.placed.knows other keeps
    (new_stands c.args.target c.new-gather.result c.new-gather.ensures s.names.now other))

pub lower_asked-requires-clause-quiet : goal.lower_asked-requires-clause-quiet
unfolding facts_in
lower_asked-requires-clause-quiet c = λ is.
    let s = c.args.subject.now in
    let y = walks.around s.script.now c.args.around.now in
    let k = knowledge_facts s.names.now c.args.known.now in
    let e : Entered = record { command = trees.command_of s.script.now c.args.command.now; rule = c.args.by; around = y; seen = c.requires.placed.seen } in
    subst IsQuiet (sym c.tell.ensures)
    (one_quiet s c.requires.ready.admitted e (own_part s c.args.by y k c.args.command.now c.requires.placed) c.args.draft.now.certificate k (gathered_of c.new-gather.result) is
    (new_quiet c.args.target c.new-gather.result c.new-gather.ensures))

pub returns : goal.returns
returns c = record { swept = c.in_ok-is_lowered.ensures.swept }
