use Rattle.std.proofs.Common.{rules as std_rules, ◌≡◌, ◌+◌, ◌∷◌, List, drop, subst, sym}
use Rattle.std.proofs.lemmas.List.{drop_all}
use Rattle.sh_tree.specs.declared.tree.Item.{Item, out-Item}
use Rattle.sh_domain.specs.declared.rule.FlowRule.TheVariants.{F11}
use Rattle.sh_domain.specs.Entries as entries
use Rattle.sh_domain.specs.Entries.{Around}
use Rattle.sh_domain.specs.Facts.{Facts}
use Rattle.sh_domain.specs.Knowledge.{knowledge_facts}
use Rattle.sh_domain.specs.Views.{Seen, without_job}
use Rattle.sh_rules.specs.Behind.{in_any_case}
use Rattle.sh_rules.specs.Walks as walks
use Rattle.sh_rules.specs.Walks.{facts_in}
use Rattle.sh_sweeps.specs.Sweeps.{AreItems, IsAndOr, Knows, known_behind, setting_by}
use Rattle.sh_drafts.specs.Ready.{IsReady}
use Rattle.sh_sweeps.proofs.PlacedLemmas.{background_placed, foreground_placed, goes_last, goes_next, GoesOn, items_next, next_goes, next_item}
use Rattle.sh_drafts.proofs.ReadyLemmas.{names_numbered, ready_again, swept_more}
use Rattle.sh_passes.proofs.+sweep.Goals as goal

pub enter_item-enter_process-requires : goal.sweep::enter_item-enter_process-requires
unfolding facts_in
enter_item-enter_process-requires t c =
    let s = c.args.subject.now in
    let r = c.requires.ready in
    let at = c.args.course.now in
    let i = c.args.item.now in
    let y = walks.around s.script.now c.args.around.now in
    let any : knowledge_facts s.names.now c.meet.new.known ≡ in_any_case (known_behind s at.behind) = c.meet.ensures (setting_by s c.args.draft.now.certificate) in
    let placed : (k : Facts) → ((q : Seen) → Knows s q (knowledge_facts s.names.now c.meet.new.known) → Knows s (without_job q) k) → IsAndOr s F11 entries.alone k (out-Item i).list =
    λ k known. background_placed s y at i c.requires.placed.0 k c.if-item.true (λ q w. known q (subst (Knows s q) (sym any) w)) _ (names_numbered s _ _ r) r.over c.requires.placed.1 in
    search std_rules

pub enter_item-sweep_and_or-requires : goal.sweep::enter_item-sweep_and_or-requires
unfolding facts_in
enter_item-sweep_and_or-requires t c =
    let s = c.args.subject.now in
    let r = c.requires.ready in
    let at = c.args.course.now in
    let i = c.args.item.now in
    let y = walks.around s.script.now c.args.around.now in
    let k = knowledge_facts s.names.now c.meet.new.known in
    let any : k ≡ in_any_case (known_behind s at.behind) = c.meet.ensures (setting_by s c.args.draft.now.certificate) in
    let placed : IsAndOr s at.by y k (out-Item i).list = foreground_placed s y at i c.requires.placed.0 k c.if-item.false any _ (names_numbered s _ _ r) r.over c.requires.placed.1 in
    search std_rules

pub enter_process-sweep_and_or-requires : goal.sweep::enter_process-sweep_and_or-requires
unfolding entries.item_seen
enter_process-sweep_and_or-requires t c =
    let s = c.args.subject.now in
    let k = knowledge_facts s.names.now c.started_in-inside.result in
    let placed : IsAndOr s F11 (walks.around s.script.now c.alone-outside.result) k c.args.list.now =
    subst (λ z. IsAndOr s F11 z k c.args.list.now) (sym (c.alone-outside.ensures s.script.now)) (c.requires.placed k c.started_in-inside.ensures) in
    search std_rules

pub sweep_items-pass_idle-next-requires : goal.sweep::sweep_items-pass_idle-next-requires
sweep_items-pass_idle-next-requires t c =
    let s = c.args.subject.now in
    let course = c.loop-place.course in
    let ready : IsReady s c.loop-place.draft.certificate c.loop-place.draft.probe.count = ready_again s _ _ _ _ c.requires.ready c.loop-place.invariant.swept in
    let placed : (y : Around) × AreItems s course.by y (known_behind s course.behind) (drop c.loop-place.place c.args.items.now) = (_, c.loop-place.invariant.placed) in
    search std_rules

pub sweep_items-sweep_or_pass-requires : goal.sweep::sweep_items-sweep_or_pass-requires
sweep_items-sweep_or_pass-requires t c =
    let s = c.args.subject.now in
    let r = c.requires.ready in
    let y = walks.around s.script.now c.args.around.now in
    let is = c.args.items.now in
    let at = c.loop-place.place in
    let next = c.pass_idle-next.result in
    let course = c.pass_idle-next.new.course in
    let ready : IsReady s c.loop-place.draft.certificate c.loop-place.draft.probe.count = ready_again s _ _ _ _ r c.loop-place.invariant.swept in
    let here : AreItems s course.by y (known_behind s course.behind) (c.index-items-next.result ∷ drop (next + 1) is) =
    next_item s y is at next c.index-items-next.result c.pass_idle-next.ensures.from c.pass_idle-next.ensures.there c.index-items-next.is c.loop-place.course course c.loop-place.invariant.placed c.pass_idle-next.ensures.passed in
    let placed : (others : List Item) × AreItems s course.by y (known_behind s course.behind) (c.index-items-next.result ∷ others) = (_, here) in
    search std_rules

pub sweep_or_pass-pass_by-requires-2 : goal.sweep::sweep_or_pass-pass_by-requires-2
sweep_or_pass-pass_by-requires-2 t c = ready_again c.args.subject.now _ _ _ _ c.requires.ready c.in_ok-enter_item.ensures.swept

pub sweep_items-loop-place-preserved : goal.sweep::sweep_items-loop-place-preserved
sweep_items-loop-place-preserved t c =
    let s = c.args.subject.now in
    let y = walks.around s.script.now c.args.around.now in
    let is = c.args.items.now in
    let at = c.loop-place.place in
    let next = c.pass_idle-next.result in
    let course = c.pass_idle-next.new.course in
    let here : AreItems s course.by y (known_behind s course.behind) (c.index-items-next.result ∷ drop (next + 1) is) =
    next_item s y is at next c.index-items-next.result c.pass_idle-next.ensures.from c.pass_idle-next.ensures.there c.index-items-next.is c.loop-place.course course c.loop-place.invariant.placed c.pass_idle-next.ensures.passed in
    record {
      swept = swept_more s _ _ _ _ _ c.loop-place.invariant.swept c.in_ok-news.ensures.swept;
      placed = items_next s y course c.sweep_or_pass.new.course c.index-items-next.result _ here c.in_ok-news.ensures.passed;
      goes = λ o k. goes_next s o course c.sweep_or_pass.new.course is c.index-items-next.result _
          (next_goes s o is at next c.index-items-next.result c.pass_idle-next.ensures.from c.pass_idle-next.ensures.there c.index-items-next.is c.loop-place.course course (c.loop-place.invariant.goes o k) c.pass_idle-next.ensures.passed) c.in_ok-news.ensures.passed;
    }

pub sweep_items-returns-clause-behind : goal.sweep::sweep_items-returns-clause-behind
sweep_items-returns-clause-behind t c =
    λ o k.
    let s = c.args.subject.now in
    goes_last s o (known_behind s c.loop-place.course.behind) c.args.items.now
    (subst (GoesOn s o (known_behind s c.loop-place.course.behind) c.args.items.now) (drop_all c.loop-place.place c.args.items.now c.loop-place-test.false) (c.loop-place.invariant.goes o k))
