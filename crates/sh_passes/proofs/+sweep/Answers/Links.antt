use Rattle.std.proofs.Common.{rules as std_rules, ◌+◌, ◌∷◌, List, drop, length, subst, sym}
use Rattle.sh_tree.specs.declared.tree.AndOr.{out-AndOr}
use Rattle.sh_tree.specs.declared.tree.Link.{Link}
use Rattle.sh_tree.specs.declared.tree.Pipe.{Pipe}
use Rattle.sh_domain.specs.declared.rule.FlowRule.{FlowRule}
use Rattle.sh_domain.specs.declared.rule.FlowRule.TheVariants.{F3}
use Rattle.sh_domain.specs.Knowledge.{knowledge_facts}
use Rattle.sh_rules.specs.Behind.{Behind}
use Rattle.sh_rules.specs.Walks as walks
use Rattle.sh_rules.specs.Walks.{facts_in}
use Rattle.sh_sweeps.specs.Sweeps.{AreLinks, IsAndOr, IsPipe, known_behind, setting_by}
use Rattle.sh_drafts.specs.Ready.{IsReady}
use Rattle.sh_sweeps.proofs.PlacedLemmas.{at_index, found_below, link_placed, links_next, links_placed, pipe_placed}
use Rattle.sh_drafts.proofs.ReadyLemmas.{names_numbered, ready_again, swept_more}
use Rattle.sh_sweeps.proofs.WordLemmas.{if_ok}
use Rattle.sh_passes.proofs.+sweep.Goals as goal

pub enter_link-sweep_pipe-requires : goal.links::enter_link-sweep_pipe-requires
unfolding facts_in
enter_link-sweep_pipe-requires t c =
    let s = c.args.subject.now in
    let r = c.requires.ready in
    let y = walks.around s.script.now c.args.around.now in
    let b = known_behind s c.args.behind.now in
    let k = knowledge_facts s.names.now c.at_link.result.now in
    let placed : IsPipe s F3 y k c.args.link.now.1 = link_placed s y b k c.args.link.now c.requires.placed.0 (c.at_link.ensures (setting_by s c.args.draft.now.certificate)) _ (names_numbered s _ _ r) r.over c.requires.placed.1 in
    search std_rules

pub sweep_links-next_link-next-requires : goal.links::sweep_links-next_link-next-requires
sweep_links-next_link-next-requires t c =
    let ready : IsReady c.args.subject.now c.loop-place.draft.certificate c.loop-place.draft.probe.count = ready_again c.args.subject.now _ _ _ _ c.requires.ready c.loop-place.invariant.swept in
    search std_rules

pub sweep_links-sweep_link-requires : goal.links::sweep_links-sweep_link-requires
sweep_links-sweep_link-requires t c =
    let s = c.args.subject.now in
    let y = walks.around s.script.now c.args.around.now in
    let b = known_behind s c.loop-place.behind in
    let next = c.next_link-next.result in
    let ready : IsReady s c.loop-place.draft.certificate c.loop-place.draft.probe.count = ready_again s _ _ _ _ c.requires.ready c.loop-place.invariant.swept in
    let here : AreLinks s y b (c.index-links-next.result ∷ drop (next + 1) c.args.links.now) =
    subst (AreLinks s y b) (at_index c.args.links.now next c.index-links-next.result (found_below next (length c.args.links.now) c.next_link-next.ensures.there c.if-next-links.false) c.index-links-next.is) (c.next_link-next.ensures.left y c.loop-place.invariant.placed) in
    let placed : (others : List (Link × Pipe)) × AreLinks s y b (c.index-links-next.result ∷ others) = (_, here) in
    search std_rules

pub sweep_links-loop-place-preserved : goal.links::sweep_links-loop-place-preserved
sweep_links-loop-place-preserved t c =
    let s = c.args.subject.now in
    let y = walks.around s.script.now c.args.around.now in
    let b = known_behind s c.loop-place.behind in
    let next = c.next_link-next.result in
    let here : AreLinks s y b (c.index-links-next.result ∷ drop (next + 1) c.args.links.now) =
    subst (AreLinks s y b) (at_index c.args.links.now next c.index-links-next.result (found_below next (length c.args.links.now) c.next_link-next.ensures.there c.if-next-links.false) c.index-links-next.is) (c.next_link-next.ensures.left y c.loop-place.invariant.placed) in
    record { swept = swept_more s _ _ _ _ _ c.loop-place.invariant.swept c.in_ok-sweep_link.ensures.swept; placed = c.in_ok-sweep_link.ensures.passed _ here }

pub sweep_link-link_if-requires : goal.links::sweep_link-link_if-requires
sweep_link-link_if-requires t c = (_, ready_again c.args.subject.now _ _ _ _ c.requires.ready c.in_ok-enter_link.ensures.swept)

pub sweep_link-returns-clause-passed : goal.links::sweep_link-returns-clause-passed
sweep_link-returns-clause-passed t c =
    λ others here.
    let s = c.args.subject.now in
    let y = walks.around s.script.now c.args.around.now in
    links_next s y (known_behind s c.args.behind.now) _ c.args.link.now others c.link_if.ensures here

pub sweep_links_again-sweep_links-requires : goal.links::sweep_links_again-sweep_links-requires
sweep_links_again-sweep_links-requires t c =
    let s = c.args.subject.now in
    let y = walks.around s.script.now c.args.around.now in
    let ready : IsReady s c.loop-round.draft.certificate c.loop-round.draft.probe.count = ready_again s _ _ _ _ c.requires.ready c.loop-round.invariant.swept in
    let placed : AreLinks s y (known_behind s c.nothing_behind-behind.result) c.args.links.now = record { seen = c.requires.placed.1.seen; part = c.requires.placed.1.part; knows = c.nothing_behind-behind.ensures s _ } in
    search std_rules

pub sweep_links_again-loop-round-preserved : goal.links::sweep_links_again-loop-round-preserved
sweep_links_again-loop-round-preserved t c = record { swept = swept_more c.args.subject.now _ _ _ _ _ c.loop-round.invariant.swept c.in_ok-sweep_links.ensures.swept }

pub sweep_and_or-sweep_pipe-requires : goal.sweep::sweep_and_or-sweep_pipe-requires
sweep_and_or-sweep_pipe-requires t c =
    let s = c.args.subject.now in
    let y = walks.around s.script.now c.args.around.now in
    let placed : IsPipe s c.args.by y (knowledge_facts s.names.now c.args.known.now) (out-AndOr c.args.list.now).first = pipe_placed s c.args.by y (knowledge_facts s.names.now c.args.known.now) c.args.list.now c.requires.placed in
    search std_rules

pub sweep_and_or-sweep_joined-requires : goal.sweep::sweep_and_or-sweep_joined-requires
sweep_and_or-sweep_joined-requires t c =
    let s = c.args.subject.now in
    let ready : IsReady s c.sweep_pipe.new.draft.certificate c.sweep_pipe.new.draft.probe.count = ready_again s _ _ _ _ c.requires.ready c.in_ok-sweep_pipe.ensures.swept in
    let placed : (by : FlowRule) × IsAndOr s by (walks.around s.script.now c.args.around.now) (knowledge_facts s.names.now c.args.known.now) c.args.list.now = (c.args.by, c.requires.placed) in
    search std_rules

pub sweep_and_or-returns : goal.sweep::sweep_and_or-returns
sweep_and_or-returns t c =
    record { swept = if_ok c.sweep_joined.result _ _ (λ u h. swept_more c.args.subject.now _ _ _ _ _ c.in_ok-sweep_pipe.ensures.swept h) c.sweep_joined.ensures.swept }

pub sweep_joined-pipe_if-behind-requires : goal.links::sweep_joined-pipe_if-behind-requires
sweep_joined-pipe_if-behind-requires t c = (_, c.requires.ready)

pub sweep_joined-sweep_links-requires : goal.links::sweep_joined-sweep_links-requires
sweep_joined-sweep_links-requires t c =
    let s = c.args.subject.now in
    let ready : IsReady s c.args.draft.now.certificate c.args.draft.now.probe.count = c.requires.ready in
    let y = walks.around s.script.now c.args.around.now in
    let placed : AreLinks s y (known_behind s c.pipe_if-behind.result) c.as_slice-links.result.now =
    subst (AreLinks s y (known_behind s c.pipe_if-behind.result)) (sym c.as_slice-links.ensures)
    (links_placed s c.requires.placed.0 y (knowledge_facts s.names.now c.args.known.now) c.args.list.now (known_behind s c.pipe_if-behind.result) c.pipe_if-behind.ensures c.requires.placed.1) in
    search std_rules

pub sweep_joined-sweep_links_again-requires : goal.links::sweep_joined-sweep_links_again-requires
sweep_joined-sweep_links_again-requires t c =
    let s = c.args.subject.now in
    let y = walks.around s.script.now c.args.around.now in
    let ready : IsReady s c.sweep_links.new.draft.certificate c.sweep_links.new.draft.probe.count = ready_again s _ _ _ _ c.requires.ready c.in_ok-sweep_links.ensures.swept in
    let here : AreLinks s y (known_behind s c.pipe_if-behind.result) c.as_slice-links.result.now =
    subst (AreLinks s y (known_behind s c.pipe_if-behind.result)) (sym c.as_slice-links.ensures)
    (links_placed s c.requires.placed.0 y (knowledge_facts s.names.now c.args.known.now) c.args.list.now (known_behind s c.pipe_if-behind.result) c.pipe_if-behind.ensures c.requires.placed.1) in
    let placed : (k : Behind) × AreLinks s y k c.as_slice-links.result.now = (_, here) in
    search std_rules

pub sweep_joined-returns : goal.links::sweep_joined-returns
sweep_joined-returns t c =
    record { swept = if_ok c.sweep_links_again.result _ _ (λ u h. swept_more c.args.subject.now _ _ _ _ _ c.in_ok-sweep_links.ensures.swept h) c.sweep_links_again.ensures.swept }
