use Rattle.std.proofs.Common.{rules as std_rules, ◌≡◌, ◌∙◌, ℕ, sym, subst}
use Rattle.sh_tree.specs.standard.Tree.{text_of}
use Rattle.sh_tree.specs.declared.tree.Command.{out-Command}
use Rattle.sh_tree.specs.declared.tree.Kind.TheVariants as kind
use Rattle.sh_tree.specs.Lists.{redirects_from}
use Rattle.sh_tree.specs.standard.program.Syntax as p
use Rattle.sh_tree.specs.standard.program.Trees as trees
use Rattle.sh_tree.proofs.ProgramRules as program
use Rattle.sh_domain.specs.declared.rule.FlowRule.{FlowRule}
use Rattle.sh_domain.specs.Admitted.{functions_in}
use Rattle.sh_domain.specs.Entries as entries
use Rattle.sh_domain.specs.Entries.{Around}
use Rattle.sh_domain.specs.Knowledge.{knowledge_facts}
use Rattle.sh_domain.specs.Views.{ReturnsNonzero, ReturnsZero, Seen}
use Rattle.sh_rules.specs.Walks as walks
use Rattle.sh_sweeps.specs.Sweeps.{IsInside, IsPart}
use Rattle.sh_drafts.specs.Ready.{IsReady}
use Rattle.sh_sweeps.proofs.BeforeLemmas.{returns_nonzero, returns_zero, there_if}
use Rattle.sh_sweeps.proofs.CalleeLemmas.{callee_some}
use Rattle.sh_sweeps.proofs.PlacedLemmas.{defined_placed, inside_placed, kind_part}
use Rattle.sh_drafts.proofs.ReadyLemmas.{ready_again, swept_more}
use Rattle.sh_sweeps.proofs.UnitLemmas.{unit_placed}
use Rattle.sh_passes.proofs.+sweep.Goals as goal

-- A loop, by rounds

pub sweep_rounds-sweep_inside-requires : goal.rounds::sweep_rounds-sweep_inside-requires
sweep_rounds-sweep_inside-requires t c =
    let s = c.args.subject.now in
    let r = c.requires.ready in
    let y = walks.around s.script.now c.args.around.now in
    let ready : IsReady s c.loop-round.draft.certificate c.loop-round.draft.probe.count = ready_again s _ _ _ _ (ready_again s _ _ _ _ r c.in_ok-lower_head.ensures.swept) c.loop-round.invariant.swept in
    let placed : IsInside s y c.args.command.now = inside_placed s c.args.by y (knowledge_facts s.names.now c.args.known.now) c.args.command.now c.requires.placed in
    search std_rules

pub sweep_rounds-lower_head-requires-in-loop-round-clause-ready : goal.rounds::sweep_rounds-lower_head-requires-in-loop-round-clause-ready
sweep_rounds-lower_head-requires-in-loop-round-clause-ready t c =
    let s = c.args.subject.now in
    ready_again s _ _ _ _ (ready_again s _ _ _ _ (ready_again s _ _ _ _ c.requires.ready c.in_ok-lower_head.ensures.swept) c.loop-round.invariant.swept) c.in_ok-sweep_inside.ensures.swept

pub sweep_rounds-loop-round-preserved : goal.rounds::sweep_rounds-loop-round-preserved
sweep_rounds-loop-round-preserved t c =
    let s = c.args.subject.now in
    record { swept = swept_more s _ _ _ _ _ (swept_more s _ _ _ _ _ c.loop-round.invariant.swept c.in_ok-sweep_inside.ensures.swept) c.in_ok-lower_head-2.ensures.swept }

pub sweep_rounds-returns-then-eq : goal.rounds::sweep_rounds-returns-then-eq
sweep_rounds-returns-then-eq t c =
    let s = c.args.subject.now in
    record { swept = swept_more s _ _ _ _ _ c.in_ok-lower_head.ensures.swept (swept_more s _ _ _ _ _ (swept_more s _ _ _ _ _ c.loop-round.invariant.swept c.in_ok-sweep_inside.ensures.swept) c.in_ok-lower_head-2.ensures.swept) }

pub sweep_rounds-returns-then-is_left : goal.rounds::sweep_rounds-returns-then-is_left
sweep_rounds-returns-then-is_left t c =
    let s = c.args.subject.now in
    record { swept = swept_more s _ _ _ _ _ c.in_ok-lower_head.ensures.swept (swept_more s _ _ _ _ _ (swept_more s _ _ _ _ _ c.loop-round.invariant.swept c.in_ok-sweep_inside.ensures.swept) c.in_ok-lower_head-2.ensures.swept) }

pub sweep_rounds-returns-then-is_once : goal.rounds::sweep_rounds-returns-then-is_once
sweep_rounds-returns-then-is_once t c =
    let s = c.args.subject.now in
    record { swept = swept_more s _ _ _ _ _ c.in_ok-lower_head.ensures.swept (swept_more s _ _ _ _ _ (swept_more s _ _ _ _ _ c.loop-round.invariant.swept c.in_ok-sweep_inside.ensures.swept) c.in_ok-lower_head-2.ensures.swept) }

pub sweep_rounds-returns : goal.rounds::sweep_rounds-returns
sweep_rounds-returns t c = record { swept = swept_more c.args.subject.now _ _ _ _ _ c.in_ok-lower_head.ensures.swept c.loop-round.invariant.swept }

-- The bodies of functions

pub sweep_called-definitions-definitions-requires-clause-some : goal.bodies::sweep_called-definitions-definitions-requires-clause-some
sweep_called-definitions-definitions-requires-clause-some t c = (callee_some c.args.subject.now.table.now (out-Command c.args.command.now).number c.in-Some.function (sym c.callee.ensures ∙ c.in-Some.is)).0

pub sweep_called-definitions-definitions-requires-clause-within : goal.bodies::sweep_called-definitions-definitions-requires-clause-within
sweep_called-definitions-definitions-requires-clause-within t c = (callee_some c.args.subject.now.table.now (out-Command c.args.command.now).number c.in-Some.function (sym c.callee.ensures ∙ c.in-Some.is)).1

pub sweep_called-sweep_unseen-requires : goal.bodies::sweep_called-sweep_unseen-requires
sweep_called-sweep_unseen-requires t c =
    let s = c.args.subject.now in
    let ready : IsReady s c.loop-number.draft.certificate c.loop-number.draft.probe.count = ready_again s _ _ _ _ c.requires.ready c.loop-number.invariant.swept in
    search std_rules

pub sweep_called-loop-number-preserved : goal.bodies::sweep_called-loop-number-preserved
sweep_called-loop-number-preserved t c = record { swept = swept_more c.args.subject.now _ _ _ _ _ c.loop-number.invariant.swept c.in_ok-sweep_unseen.ensures.swept }

pub sweep_function-sweep_defined-requires : goal.bodies::sweep_function-sweep_defined-requires
sweep_function-sweep_defined-requires t c =
    let s = c.args.subject.now in
    let r = c.requires.ready in
    let found = c.index-commands-index.result in
    let here = unit_placed s r.admitted s.commands.now (λ z. z.now) r.commands _ found c.if-index-commands.false c.index-commands-index.is in
    let placed : (by : FlowRule) × (y : Around) × (q : Seen) × IsPart s (entries.command_entered by y q (trees.command_of s.script.now found.now)) = (here.by, here.around, here.seen, here.part) in
    search std_rules

pub sweep_defined-sweep_body-requires : goal.bodies::sweep_defined-sweep_body-requires
sweep_defined-sweep_body-requires t c =
    let s = c.args.subject.now in
    let w = c.requires.placed in
    let m = c.args.command.now in
    let body = c.get.result.now in
    let name = text_of s.script.now c.in-Define.name in
    let same = program.kind_of-Define s.script.now c.in-Define.name body in
    let part = defined_placed s w.0 w.1 w.2 m _ name (trees.command_of s.script.now body) (subst (λ z. (out-Command m).kind ≡ kind.Define c.in-Define.name z) (sym c.get.ensures) c.in-Define.is) same w.3 in
    let placed : (by : FlowRule) × (y : Around) × (q : Seen) × (n : ℕ) × (offset : ℕ) × (rs : p.Redirects) × IsPart s (entries.command_entered by y q (p.command n offset (p.Define name (trees.command_of s.script.now body)) rs)) =
    (w.0, w.1, w.2, (out-Command m).number, (out-Command m).at, redirects_from s.script.now (out-Command m).redirects, part) in
    search std_rules

pub sweep_body-sweep_definition-requires : goal.bodies::sweep_body-sweep_definition-requires
sweep_body-sweep_definition-requires t c =
    let s = c.args.subject.now in
    let w = c.requires.placed in
    let name = text_of s.script.now c.args.name in
    let placed : (y : Around) × (n : ℕ) × (q : Seen) × IsPart s (entries.kind_entered y n q (p.Define name (trees.command_of s.script.now c.args.body.now))) =
    (w.1, w.3, entries.behind_redirects w.3 w.5, kind_part s w.0 w.1 w.2 w.3 w.4 _ w.5 w.6) in
    search std_rules

pub sweep_body-place_in-place-requires : goal.bodies::sweep_body-place_in-place-requires
sweep_body-place_in-place-requires t c =
    (c.sweep_definition.new.draft.probe.count, ready_again c.args.subject.now _ _ _ _ c.requires.ready c.in_ok-sweep_definition.ensures.swept)

pub sweep_body-lower_return-requires-clause-ready : goal.bodies::sweep_body-lower_return-requires-clause-ready
sweep_body-lower_return-requires-clause-ready t c = ready_again c.args.subject.now _ _ _ _ c.requires.ready c.in_ok-sweep_definition.ensures.swept

pub sweep_body-lower_return-requires-clause-stands : goal.bodies::sweep_body-lower_return-requires-clause-stands
sweep_body-lower_return-requires-clause-stands t c = λ unstated.
    let s = c.args.subject.now in
    let w = c.requires.placed in
    let k = knowledge_facts s.names.now c.zero_of-zero.result in
    let fs = functions_in s.script.now s.tree.now in
    let name = text_of s.script.now c.args.name in
    there_if s fs (ReturnsZero name) k c.place_in-place.result c.place_in-place.ensures.there (λ other keeps.
    returns_zero s c.requires.ready.admitted w.0 w.1 w.2 w.3 w.4 name c.args.body.now w.5 w.6 unstated k c.zero_of-zero.ensures other keeps)

pub sweep_body-lower_return-requires-2-clause-ready : goal.bodies::sweep_body-lower_return-requires-2-clause-ready
sweep_body-lower_return-requires-2-clause-ready t c =
    let s = c.args.subject.now in
    ready_again s _ _ _ _ (ready_again s _ _ _ _ c.requires.ready c.in_ok-sweep_definition.ensures.swept) c.in_ok-lower_return.ensures.swept

pub sweep_body-lower_return-requires-2-clause-stands : goal.bodies::sweep_body-lower_return-requires-2-clause-stands
sweep_body-lower_return-requires-2-clause-stands t c = λ unstated.
    let s = c.args.subject.now in
    let w = c.requires.placed in
    let k = knowledge_facts s.names.now c.nonzero_of-nonzero.result in
    let fs = functions_in s.script.now s.tree.now in
    let name = text_of s.script.now c.args.name in
    there_if s fs (ReturnsNonzero name) k c.place_in-other.result c.place_in-other.ensures.there (λ other keeps.
    returns_nonzero s c.requires.ready.admitted w.0 w.1 w.2 w.3 w.4 name c.args.body.now w.5 w.6 unstated k c.nonzero_of-nonzero.ensures other keeps)

pub sweep_body-nonzero_of-nonzero-requires : goal.bodies::sweep_body-nonzero_of-nonzero-requires
sweep_body-nonzero_of-nonzero-requires t c =
    let s = c.args.subject.now in
    (c.lower_return.new.draft.probe.count, ready_again s _ _ _ _ (ready_again s _ _ _ _ c.requires.ready c.in_ok-sweep_definition.ensures.swept) c.in_ok-lower_return.ensures.swept)

pub sweep_body-place_in-other-requires : goal.bodies::sweep_body-place_in-other-requires
sweep_body-place_in-other-requires t c =
    let s = c.args.subject.now in
    (c.lower_return.new.draft.probe.count, ready_again s _ _ _ _ (ready_again s _ _ _ _ c.requires.ready c.in_ok-sweep_definition.ensures.swept) c.in_ok-lower_return.ensures.swept)

pub sweep_body-returns : goal.bodies::sweep_body-returns
sweep_body-returns t c =
    let s = c.args.subject.now in
    record { swept = swept_more s _ _ _ _ _ (swept_more s _ _ _ _ _ c.in_ok-sweep_definition.ensures.swept c.in_ok-lower_return.ensures.swept) c.in_ok-lower_return-2.ensures.swept }

-- A compound command, and what is gone over in it again

pub sweep_compound-sweep_inside-requires : goal.sweep::sweep_compound-sweep_inside-requires
sweep_compound-sweep_inside-requires t c =
    let s = c.args.subject.now in
    let y = walks.around s.script.now c.args.around.now in
    let placed : IsInside s y c.args.command.now = inside_placed s c.args.by y (knowledge_facts s.names.now c.args.known.now) c.args.command.now c.requires.placed in
    search std_rules

pub sweep_compound-sweep_again-requires : goal.sweep::sweep_compound-sweep_again-requires
sweep_compound-sweep_again-requires t c =
    let s = c.args.subject.now in
    let y = walks.around s.script.now c.args.around.now in
    let ready : IsReady s c.sweep_rounds.new.draft.certificate c.sweep_rounds.new.draft.probe.count = ready_again s _ _ _ _ c.requires.ready c.in_ok-sweep_rounds.ensures.swept in
    let placed : IsInside s y c.args.command.now = inside_placed s c.args.by y (knowledge_facts s.names.now c.args.known.now) c.args.command.now c.requires.placed in
    search std_rules

pub sweep_compound-lower_behind-requires-clause-ready : goal.sweep::sweep_compound-lower_behind-requires-clause-ready
sweep_compound-lower_behind-requires-clause-ready t c =
    let s = c.args.subject.now in
    ready_again s _ _ _ _ (ready_again s _ _ _ _ c.requires.ready c.in_ok-sweep_rounds.ensures.swept) c.in_ok-sweep_again.ensures.swept

pub sweep_compound-returns-then-has_branches : goal.sweep::sweep_compound-returns-then-has_branches
sweep_compound-returns-then-has_branches t c =
    let s = c.args.subject.now in
    record { swept = swept_more s _ _ _ _ _ c.in_ok-sweep_rounds.ensures.swept c.in_ok-sweep_again.ensures.swept }

pub sweep_compound-returns : goal.sweep::sweep_compound-returns
sweep_compound-returns t c =
    let s = c.args.subject.now in
    record { swept = swept_more s _ _ _ _ _ (swept_more s _ _ _ _ _ c.in_ok-sweep_rounds.ensures.swept c.in_ok-sweep_again.ensures.swept) c.in_ok-lower_behind.ensures.swept }

pub sweep_again-sweep_inside-requires : goal.sweep::sweep_again-sweep_inside-requires
sweep_again-sweep_inside-requires t c =
    let s = c.args.subject.now in
    let ready : IsReady s c.loop-round.draft.certificate c.loop-round.draft.probe.count = ready_again s _ _ _ _ c.requires.ready c.loop-round.invariant.swept in
    search std_rules

pub sweep_again-loop-round-preserved : goal.sweep::sweep_again-loop-round-preserved
sweep_again-loop-round-preserved t c = record { swept = swept_more c.args.subject.now _ _ _ _ _ c.loop-round.invariant.swept c.in_ok-sweep_inside.ensures.swept }
