use Rattle.std.proofs.Common.{◌≡◌, ◌&&◌, true, false, sym, ap, ap₂, ◌∙◌, true≢false}
use Rattle.std.specs.Prelude.{nat_le}
use Rattle.std.specs.List.{list_all}
use Rattle.sh_domain.specs.Certificates.{claim_of, in_byte_order, names_at}
use Rattle.sh_domain.specs.Facts.{within}
use Rattle.sh_domain.specs.Knowledge.{assured_facts, contains}
use Rattle.sh_domain.proofs.knowledge.Assured.includes.Goals.{then-includes, else-includes}
use Rattle.sh_domain.proofs.knowledge.Assured.includes.Goals as goal

pub returns-in-NotReached : goal.returns-in-NotReached
unfolding within claim_of
returns-in-NotReached c names h count =
    sym (ap (λ f. within (claim_of (in_byte_order names) c.args.rows.now f) (assured_facts names c.args.self.now)) c.in-NotReached.is)

pub returns-then-includes-2 : goal.returns-then-includes-2
unfolding within claim_of
returns-then-includes-2 c names h count =
    let args = nat_le c.in-Known.args c.args.self.now.args in
    elim c.if-includes.branch [
      | then-includes w ↦
          let first : c.includes.result ≡ true = w.if-includes.true in
          let second : w.includes-then-includes.result ≡ true = sym w.value-is ∙ c.if-includes-2.true in
          ap₂ (λ a b. (a && b) && args) (sym first ∙ c.includes.ensures.names names h count) (sym second ∙ w.includes-then-includes.ensures.names names h count)
      | else-includes w ↦ absurd (true≢false (sym c.if-includes-2.true ∙ w.value-is ∙ w.if-includes.false))
    ]
    ∙ sym (ap (λ f. within (claim_of (in_byte_order names) c.args.rows.now f) (assured_facts names c.args.self.now)) c.in-Known.is)

pub returns-else-includes-2 : goal.returns-else-includes-2
unfolding within claim_of
returns-else-includes-2 c names h count =
    let args = nat_le c.in-Known.args c.args.self.now.args in
    elim c.if-includes.branch [
      | then-includes w ↦
          let first : c.includes.result ≡ true = w.if-includes.true in
          let second : w.includes-then-includes.result ≡ false = sym w.value-is ∙ c.if-includes-2.false in
          c.if-includes-2.false ∙ ap₂ (λ a b. (a && b) && args) (sym first ∙ c.includes.ensures.names names h count) (sym second ∙ w.includes-then-includes.ensures.names names h count)
      | else-includes w ↦
          let first : c.includes.result ≡ false = w.if-includes.false in
          c.if-includes-2.false ∙ ap (λ a. (a && list_all (contains names c.args.self.now.functions) (names_at (in_byte_order names) c.args.rows.now c.in-Known.functions)) && args) (sym first ∙ c.includes.ensures.names names h count)
    ]
    ∙ sym (ap (λ f. within (claim_of (in_byte_order names) c.args.rows.now f) (assured_facts names c.args.self.now)) c.in-Known.is)
