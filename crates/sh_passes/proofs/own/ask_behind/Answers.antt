use Rattle.std.proofs.Common.{length, subst, sym}
use Rattle.sh_domain.specs.Entries.{Entered}
use Rattle.sh_domain.specs.Knowledge.{knowledge_facts}
use Rattle.sh_rules.specs.Walks as walks
use Rattle.sh_rules.specs.Walks.{facts_in}
use Rattle.sh_tree.specs.standard.program.Trees as trees
use Rattle.sh_sweeps.specs.Sides.{AreNumbersBeside, IsQuietBeside, StandsBeside}
use Rattle.sh_sweeps.proofs.PlacedLemmas.{own_part}
use Rattle.sh_sweeps.proofs.SideLemmas.{sides_numbers, sides_quiet, sides_stand}
use Rattle.sh_passes.proofs.own.ask_behind.Goals as goal

pub tell-requires-clause-sized : goal.tell-requires-clause-sized
tell-requires-clause-sized c = c.requires.ready.1.working.count

pub tell-requires-clause-admitted : goal.tell-requires-clause-admitted
tell-requires-clause-admitted c = c.requires.ready.1.admitted

pub returns-clause-numbers : goal.returns-clause-numbers
unfolding facts_in
returns-clause-numbers c =
    let s = c.args.subject.now in
    let y = walks.around s.script.now c.args.around.now in
    let k = knowledge_facts s.names.now c.args.known.now in
    let e : Entered = record { command = trees.command_of s.script.now c.args.command.now; rule = c.args.by; around = y; seen = c.requires.placed.seen } in
    subst (AreNumbersBeside (length s.names.now)) (sym c.tell.ensures)
    (sides_numbers s c.requires.ready.1.admitted e (own_part s c.args.by y k c.args.command.now c.requires.placed) c.args.certificate.now k _ c.requires.numbers)

pub returns-clause-stands : goal.returns-clause-stands
unfolding facts_in
returns-clause-stands c = λ other keeps.
    let s = c.args.subject.now in
    let y = walks.around s.script.now c.args.around.now in
    let k = knowledge_facts s.names.now c.args.known.now in
    let e : Entered = record { command = trees.command_of s.script.now c.args.command.now; rule = c.args.by; around = y; seen = c.requires.placed.seen } in
    subst (StandsBeside s.names.now other) (sym c.tell.ensures)
    (sides_stand s c.requires.ready.1.admitted e (own_part s c.args.by y k c.args.command.now c.requires.placed) c.args.certificate.now k _ c.requires.ready.1.over c.requires.placed.knows other keeps (c.requires.stands other))

pub returns-clause-quiet : goal.returns-clause-quiet
unfolding facts_in
returns-clause-quiet c = λ is.
    let s = c.args.subject.now in
    let y = walks.around s.script.now c.args.around.now in
    let k = knowledge_facts s.names.now c.args.known.now in
    let e : Entered = record { command = trees.command_of s.script.now c.args.command.now; rule = c.args.by; around = y; seen = c.requires.placed.seen } in
    subst IsQuietBeside (sym c.tell.ensures)
    (sides_quiet s c.requires.ready.1.admitted e (own_part s c.args.by y k c.args.command.now c.requires.placed) c.args.certificate.now k _ is c.requires.quiet)
