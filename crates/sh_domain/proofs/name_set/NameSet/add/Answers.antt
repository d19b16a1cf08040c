use Rattle.std.proofs.Common.{sym, ◌∙◌, arith}
use Rattle.sh_domain.proofs.NameLemmas.{held, put, too_many}
use Rattle.sh_domain.proofs.name_set.NameSet.add.Goals as goal

pub returns-then-contains-clause-names : goal.returns-then-contains-clause-names
returns-then-contains-clause-names c = rw (← c.self.view_is) (held c.args.name.now c.self.inside.set.keys (sym c.contains.ensures ∙ c.if-contains.true))

pub returns-then-len-ge-MAX_NAMES-clause-refusal : goal.returns-then-len-ge-MAX_NAMES-clause-refusal
returns-then-len-ge-MAX_NAMES-clause-refusal c =
    rw (← c.self.view_is) (too_many c.args.name.now c.self.inside.set.keys (sym c.contains.ensures ∙ c.if-contains.false) (omega (arith, c.len.ensures.len)))

pub returns-clause-names : goal.returns-clause-names
returns-clause-names c =
    rw (← c.self.view_is)
    (put c.args.name.now c.self.inside.set.keys c.insert.new.self.keys c.in_ok-own.own c.in_ok-own.ensures.items (sym c.contains.ensures ∙ c.if-contains.false) c.in_ok-insert.ensures.keys)
