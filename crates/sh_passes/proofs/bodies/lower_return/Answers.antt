use Rattle.std.proofs.Common.{◌≡◌, ◌∙◌, Some, IfSome, false, subst, sym, true≢false}
use Rattle.sh_domain.specs.Facts.{facts}
use Rattle.sh_domain.specs.Knowledge.{knowledge_facts}
use Rattle.sh_domain.specs.Order.{IsWithin}
use Rattle.sh_domain.specs.Sheets.{Sheet}
use Rattle.sh_drafts.specs.Places.{claim_there}
use Rattle.sh_drafts.specs.Ready.{Keeps}
use Rattle.sh_passes.proofs.bodies.lower_return.Goals as goal

pub lower_assured-requires-clause-stands : goal.lower_assured-requires-clause-stands
unfolding knowledge_facts
lower_assured-requires-clause-stands c = λ other keeps.
    let s = c.args.subject.now in
    let unstated : s.stated ≡ false = subst (λ o. IfSome o (λ p. s.stated ≡ false)) c.in-Some.is c.requires.free in
    let there : (other : Sheet) → Keeps s other → IsWithin (facts (claim_there other (Some c.in-Some.place))) (knowledge_facts s.names.now c.args.known.now) =
    subst (λ o. IfSome o (λ p. (other : Sheet) → Keeps s other → IsWithin (facts (claim_there other (Some p))) (knowledge_facts s.names.now c.args.known.now))) c.in-Some.is (c.requires.stands unstated) in
    subst (λ k. IsWithin (facts (claim_there other (Some c.in-Some.place))) (knowledge_facts s.names.now k)) c.in-Known.is (there other keeps)

pub lower_assured-requires-clause-free : goal.lower_assured-requires-clause-free
lower_assured-requires-clause-free c = λ e.
    let s = c.args.subject.now in
    let unstated : s.stated ≡ false = subst (λ o. IfSome o (λ p. s.stated ≡ false)) c.in-Some.is c.requires.free in
    absurd (true≢false (sym e ∙ unstated))
