use Rattle.std.proofs.Common.{sym, subst}
use Rattle.sh_tree.specs.standard.program.Trees as trees
use Rattle.sh_domain.specs.Entries.{link_seen, linked, pipeline_after}
use Rattle.sh_domain.specs.Knowledge.{knowledge_facts}
use Rattle.sh_domain.specs.Views.{After}
use Rattle.sh_rules.specs.Behind.{either}
use Rattle.sh_sweeps.specs.Sweeps.{KnowsBehind}
use Rattle.sh_drafts.proofs.ReadyLemmas.{numbered}
use Rattle.sh_sweeps.proofs.KnownLemmas.{left_after_zero, left_after_nonzero}
use Rattle.sh_sweeps.proofs.nowhere.link_if.Goals as goal

pub returns-in-AndThen : goal.returns-in-AndThen
returns-in-AndThen c =
    let s = c.args.subject.now in
    let r = c.requires.1 in
    let h = numbered s.script.now s.policy.now s.tree.now s.names.now r.admitted in
    let left = knowledge_facts s.names.now c.args.behind.now.nonzero in
    let after : After → After = λ o. linked c.args.link.now.0 o (pipeline_after (link_seen c.args.link.now.0 o) (trees.pipeline_of s.script.now c.args.link.now.1)) in
    λ o k. subst (λ z. KnowsBehind s (after o) (either z left)) (sym (c.forget.ensures s.names.now)) (left_after_zero s c.args.certificate.now h r.over _ _ o _ c.in-AndThen.is k)

pub returns-in-OrElse : goal.returns-in-OrElse
returns-in-OrElse c =
    let s = c.args.subject.now in
    let r = c.requires.1 in
    let h = numbered s.script.now s.policy.now s.tree.now s.names.now r.admitted in
    let left = knowledge_facts s.names.now c.args.behind.now.zero in
    let after : After → After = λ o. linked c.args.link.now.0 o (pipeline_after (link_seen c.args.link.now.0 o) (trees.pipeline_of s.script.now c.args.link.now.1)) in
    λ o k. subst (λ n. KnowsBehind s (after o) (either left n)) (sym (c.forget-in-OrElse.ensures s.names.now)) (left_after_nonzero s c.args.certificate.now h r.over _ _ o _ c.in-OrElse.is k)
