use Rattle.std.proofs.Common.{◌≡◌, false, ltb, sym, ◌∙◌, arith}
use Rattle.std.proofs.lemmas.Bool.Decides.{nat_tests}
use Rattle.sh_domain.proofs.RowLemmas.{bits_at, no_bits, past_count}
use Rattle.sh_domain.proofs.rows.Rows.has.Goals as goal

pub returns-then-number-self : goal.returns-then-number-self
returns-then-number-self c = rw (← c.self.view_is) (c.has.ensures ∙ sym (bits_at c.self.inside.set.keys c.args.id.index c.in-Some.row.now (sym c.in-Some.ensures.key) c.args.number))

pub returns-else-number-self : goal.returns-else-number-self
returns-else-number-self c =
    let past : ltb c.args.number c.self.inside.count ≡ false = grind (arith, nat_tests) in
    rw (← c.self.view_is)
    (past ∙ past_count c.self.inside.set.keys c.args.id.index c.self.inside.count c.args.number c.in-Some.row.now c.self.invariant (sym c.in-Some.ensures.key) c.if-number-self.false (λ j h. c.in-Some.row.now.below j h))

pub returns-in-None : goal.returns-in-None
returns-in-None c = rw (← c.self.view_is) (sym (no_bits c.self.inside.set.keys c.args.id.index (sym c.in-None.ensures.key) c.args.number))
