use Rattle.std.proofs.Common.{◌∙◌, ap}
use Rattle.sh_tree.specs.standard.program.Trees.{script_of}
use Rattle.sh_domain.specs.Rules.{script_bounds}
use Rattle.sh_drafts.specs.Gathered.{all_gathered}
use Rattle.sh_drafts.specs.Stated.{asked_bounds}
use Rattle.sh_drafts.specs.Ready.{asked_of}
use Rattle.sh_domain.specs.Admitted.{claims_in, functions_in}
use Rattle.sh_sweeps.specs.Asked.{gathered_of}
use Rattle.sh_drafts.specs.Turns.{sheet_by}
use Rattle.sh_drafts.specs.Starts.{start_of}
use Rattle.sh_sweeps.proofs.NextLemmas.{all_fitting, next_broken}
use Rattle.sh_sweeps.proofs.StayLemmas.{idle_whole}
use Rattle.sh_sweeps.proofs.TurnLemmas.{asked_numbers, asked_quiet, asked_rules, asked_stands}
use Rattle.sh_turns.proofs.turns.asked.Goals as goal

pub returns-clause-numbers : goal.returns-clause-numbers
returns-clause-numbers c =
    let s = c.args.subject.now in
    asked_numbers c.args.target c.new-gather.result c.new-gather.ensures s.names.now (functions_in s.script.now s.tree.now) (start_of s) (sheet_by s.names.now c.args.certificate.now) (asked_of s) _ c.ask.ensures

pub returns-clause-rules : goal.returns-clause-rules
returns-clause-rules c =
    let s = c.args.subject.now in
    asked_rules c.args.target c.new-gather.result c.new-gather.ensures s.names.now (functions_in s.script.now s.tree.now) (start_of s) (sheet_by s.names.now c.args.certificate.now) (asked_of s) _ c.ask.ensures

pub returns-clause-stands : goal.returns-clause-stands
returns-clause-stands c =
    let s = c.args.subject.now in
    asked_stands c.args.target c.new-gather.result c.new-gather.ensures s.names.now (functions_in s.script.now s.tree.now) (start_of s) (sheet_by s.names.now c.args.certificate.now) (asked_of s) _ c.ask.ensures

pub returns-clause-next : goal.returns-clause-next
returns-clause-next c = λ e w.
    let s = c.args.subject.now in
    next_broken s.names.now (functions_in s.script.now s.tree.now) (start_of s) (claims_in s.script.now s.tree.now (sheet_by s.names.now c.args.certificate.now)) (asked_of s)
    (all_fitting s.script.now s.policy.now s.tree.now s.names.now w.loops c.args.certificate.now s.stated c.requires.admitted w.are_loops w.working) c.args.target c.new-gather.result _ c.new-gather.ensures c.ask.ensures e

pub returns-clause-idle : goal.returns-clause-idle
returns-clause-idle c = λ variables w idle broken.
    let s = c.args.subject.now in
    idle_whole s c.args.certificate.now c.requires.admitted variables w c.args.target c.new-gather.result c.new-gather.ensures (gathered_of c.ask.result) c.ask.ensures idle broken

pub returns-clause-quiet : goal.returns-clause-quiet
returns-clause-quiet c = λ e.
    let s = c.args.subject.now in
    let fs = functions_in s.script.now s.tree.now in
    let ks = script_bounds (script_of s.script.now s.tree.now) in
    asked_quiet c.args.target c.new-gather.result c.new-gather.ensures s.names.now fs (start_of s) (sheet_by s.names.now c.args.certificate.now) ks _
    (c.ask.ensures ∙ ap (λ b. all_gathered s.names.now fs (start_of s) (claims_in s.script.now s.tree.now (sheet_by s.names.now c.args.certificate.now)) (gathered_of c.new-gather.result) (asked_bounds b ks)) e)
