use Rattle.std.proofs.Common.{rules as std_rules, ◌≡◌, sym, subst}
use Rattle.sh_tree.specs.standard.Tree.{text_of}
use Rattle.sh_tree.specs.standard.program.Trees.{script_of}
use Rattle.sh_domain.specs.declared.rule.FlowRule.TheVariants.{F7, F8}
use Rattle.sh_domain.specs.Entries as entries
use Rattle.sh_domain.specs.Knowledge.{knowledge_facts}
use Rattle.sh_domain.specs.Views.{Both, Head, at}
use Rattle.sh_rules.specs.Behind.{both}
use Rattle.sh_rules.specs.Walks as walks
use Rattle.sh_rules.specs.Walks.{facts_in}
use Rattle.sh_rules.proofs.LedLemmas.{turns_led}
use Rattle.sh_sweeps.specs.Sweeps.{AreItems, IsList, Knows, known_behind, setting_by}
use Rattle.sh_drafts.specs.Ready.{IsReady}
use Rattle.sh_sweeps.proofs.PlacedLemmas.{begun_at, body_placed, condition_placed, for_placed, known_after}
use Rattle.sh_sweeps.proofs.SweepLemmas.{knows_follow, stands_of}
use Rattle.sh_drafts.proofs.ReadyLemmas.{names_numbered, ready_again}
use Rattle.sh_passes.proofs.+sweep.Goals as goal

pub sweep_loop-sweep_items-requires : goal.sweep::sweep_loop-sweep_items-requires
unfolding facts_in
sweep_loop-sweep_items-requires t c =
    let s = c.args.subject.now in
    let r = c.requires.ready in
    let y = walks.around s.script.now c.args.around.now in
    let k = knowledge_facts s.names.now c.head_of-head.result in
    let begun : known_behind s c.begun-course.result.behind ≡ both k = c.begun-course.ensures.behind (setting_by s c.args.draft.now.certificate) in
    let w = c.requires.placed in
    let inner : walks.around s.script.now c.in_loop-inner.result ≡ entries.in_loop c.args.number y = c.in_loop-inner.ensures s.script.now in
    let placed : AreItems s c.begun-course.result.by (walks.around s.script.now c.in_loop-inner.result) (known_behind s c.begun-course.result.behind) c.as_slice.result.now =
    subst (λ z. AreItems s c.begun-course.result.by z (known_behind s c.begun-course.result.behind) c.as_slice.result.now) (sym inner)
    (begun_at s (entries.in_loop c.args.number y) k c.begun-course.result F7 c.args.condition.now c.as_slice.result.now c.begun-course.ensures.by begun c.as_slice.ensures
    (condition_placed s y c.args.number w.0 k c.args.kind (script_of s.script.now c.args.condition.now) (script_of s.script.now c.args.body.now) w.1 c.head_of-head.ensures)) in
    search std_rules

pub sweep_loop-sweep_list-requires : goal.sweep::sweep_loop-sweep_list-requires
unfolding facts_in
sweep_loop-sweep_list-requires t c =
    let s = c.args.subject.now in
    let r = c.requires.ready in
    let y = walks.around s.script.now c.args.around.now in
    let k = knowledge_facts s.names.now c.head_of-head.result in
    let begun : known_behind s c.begun-course.result.behind ≡ both k = c.begun-course.ensures.behind (setting_by s c.args.draft.now.certificate) in
    let w = c.requires.placed in
    let inner : walks.around s.script.now c.in_loop-inner.result ≡ entries.in_loop c.args.number y = c.in_loop-inner.ensures s.script.now in
    let ready : IsReady s c.sweep_items.new.draft.certificate c.sweep_items.new.draft.probe.count = ready_again s _ _ _ _ r c.in_ok-sweep_items.ensures.swept in
    let after = known_after s k c.begun-course.result c.sweep_items.new.course c.args.condition.now c.as_slice.result.now begun c.as_slice.ensures c.in_ok-sweep_items.ensures.behind in
    let o = entries.items_after (Both (at (Head c.args.number))) (script_of s.script.now c.args.condition.now) in
    let turn = knowledge_facts s.names.now c.at_turn.result.now in
    let known : Knows s (entries.turns c.args.kind o) turn =
    subst (Knows s (entries.turns c.args.kind o)) (sym (c.at_turn.ensures (setting_by s c.args.draft.now.certificate)))
    (turns_led (setting_by s c.args.draft.now.certificate) (Knows s) (knows_follow s _ (names_numbered s _ _ r) r.over) c.args.kind o (known_behind s c.sweep_items.new.course.behind) (stands_of s o _ (after (at (Head c.args.number)) c.head_of-head.ensures))) in
    let placed : IsList s F7 (walks.around s.script.now c.in_loop-inner.result) turn (script_of s.script.now c.args.body.now) =
    subst (λ z. IsList s F7 z turn (script_of s.script.now c.args.body.now)) (sym inner)
    (body_placed s y c.args.number w.0 turn c.args.kind (script_of s.script.now c.args.condition.now) (script_of s.script.now c.args.body.now) w.1 known) in
    search std_rules

pub sweep_for-sweep_list-requires : goal.sweep::sweep_for-sweep_list-requires
sweep_for-sweep_list-requires t c =
    let s = c.args.subject.now in
    let r = c.requires.ready in
    let y = walks.around s.script.now c.args.around.now in
    let w = c.requires.placed in
    let k = knowledge_facts s.names.now c.turn_of-turn.result in
    let placed : IsList s F8 (walks.around s.script.now c.in_loop-inner.result) k (script_of s.script.now c.args.body.now) =
    subst (λ z. IsList s F8 z k (script_of s.script.now c.args.body.now)) (sym (c.in_loop-inner.ensures s.script.now))
    (for_placed s y c.args.number w.0 k (text_of s.script.now c.args.name) w.1 (script_of s.script.now c.args.body.now) w.2 c.turn_of-turn.ensures) in
    search std_rules
