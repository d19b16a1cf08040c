use Rattle.std.proofs.Common.{◌≡◌, ◌+◌, List, ◌∷◌, drop, arith, refl, sym, ap, ◌∙◌, subst}
use Rattle.sh_tree.specs.declared.tree.Link.{Link}
use Rattle.sh_tree.specs.declared.tree.Link.TheVariants as link
use Rattle.sh_tree.specs.declared.tree.Pipe.{Pipe}
use Rattle.sh_domain.specs.declared.certificate.Certificate as kept
use Rattle.sh_domain.specs.Entries.{Around}
use Rattle.sh_domain.specs.Facts.{NotReached}
use Rattle.sh_domain.specs.Knowledge.{AreNumbered}
use Rattle.sh_domain.specs.Order.{IsWithin}
use Rattle.sh_domain.proofs.OrderLemmas.{within_nowhere}
use Rattle.sh_rules.specs.Behind.{Behind, link_known}
use Rattle.sh_rules.specs.Walks.{facts_in}
use Rattle.sh_drafts.specs.declared.subject.Subject.{Subject}
use Rattle.sh_drafts.specs.Ready.{IsOver}
use Rattle.sh_drafts.proofs.ReadyLemmas.{names_numbered}
use Rattle.sh_sweeps.specs.Sweeps.{AreLinks, known_behind, setting_by}
use Rattle.sh_sweeps.proofs.KnownLemmas.{left_after_nonzero, left_after_zero, unreached}
use Rattle.sh_sweeps.proofs.PlacedLemmas.{at_index, links_next}
use Rattle.sh_passes.proofs.links.pass_links.Goals as goal

-- a pipeline that no run is known to come to
left_out : (s : Subject) (c : kept.Certificate) → AreNumbered s.names.now → IsOver s c → (y : Around) (b : Behind) (l : Link × Pipe) (ls : List (Link × Pipe)) → link_known l.0 b ≡ NotReached → AreLinks s y b (l ∷ ls) → AreLinks s y b ls
unfolding link_known
left_out s c h over y b (link.AndThen, pipe) ls none here =
    links_next s y b b (link.AndThen, pipe) ls
    (λ o knows other keeps. record { zero = subst (IsWithin _) (sym none) (within_nowhere _); nonzero = (left_after_zero s c h over link.AndThen b o _ refl knows other keeps).nonzero }) here
left_out s c h over y b (link.OrElse, pipe) ls none here =
    links_next s y b b (link.OrElse, pipe) ls
    (λ o knows other keeps. record { zero = (left_after_nonzero s c h over link.OrElse b o _ refl knows other keeps).zero; nonzero = subst (IsWithin _) (sym none) (within_nowhere _) }) here

pub loop-next-preserved : goal.loop-next-preserved
unfolding facts_in
loop-next-preserved c =
    let s = c.args.subject.now in
    let r = c.requires.ready in
    let w = c.loop-next.invariant in
    let next = c.loop-next.next in
    let b = known_behind s c.args.behind.now in
    let none : link_known c.index-links-next.result.0 b ≡ NotReached =
    ap (λ l. link_known l.0 b) c.index-links-next.is ∙ (sym (c.at_link.ensures (setting_by s c.args.draft.now.certificate)) ∙ unreached _ _ (c.is_reached.ensures s.names.now) c.if-is_reached.false) in
    let from = w.from in
    let below = c.loop-next-test.true in
    let there = w.there in
    let all = c.requires.there in
    record {
      from = omega (arith, from);
      there = omega (arith, below);
      left = λ y here. left_out s _ (names_numbered s _ _ r) r.over y b c.index-links-next.result (drop (next + 1) c.args.links.now) none
          (subst (AreLinks s y b) (at_index c.args.links.now next c.index-links-next.result (omega (arith, below, all)) c.index-links-next.is) (w.left y here));
    }
