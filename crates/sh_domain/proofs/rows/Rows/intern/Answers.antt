use Rattle.std.proofs.Common.{◌≡◌, sym, ◌∙◌, ap}
use Rattle.sh_domain.specs.KeptRows.{KeptRows}
use Rattle.sh_domain.proofs.RowLemmas.{found_bits, not_there, stored_bits, stay_inserted, counts_inserted}
use Rattle.sh_domain.proofs.rows.Rows.intern.Goals as goal

pub returns-in-Some-clause-found : goal.returns-in-Some-clause-found
returns-in-Some-clause-found c = rw (← c.self.view_is) (found_bits c.self.inside.set.keys c.args.row.now c.in-Some.index c.in-Some.ensures.index)

pub returns-in_err-own-clause-there : goal.returns-in_err-own-clause-there
returns-in_err-own-clause-there c = rw (← c.self.view_is) (λ i r e w. absurd (not_there c.self.inside.set.keys c.args.row.now i r c.self.inside.count c.in_default.ensures.found c.self.invariant (c.requires.sized ∙ sym (ap (λ (k : KeptRows). k.count) c.self.view_is)) e w))

pub returns-in_err-index-clause-there : goal.returns-in_err-index-clause-there
returns-in_err-index-clause-there c = rw (← c.self.view_is) (λ i r e w. absurd (not_there c.self.inside.set.keys c.args.row.now i r c.self.inside.count c.in_default.ensures.found c.self.invariant (c.requires.sized ∙ sym (ap (λ (k : KeptRows). k.count) c.self.view_is)) e w))

pub returns-clause-once : goal.returns-clause-once
returns-clause-once c = rw (← c.self.view_is) (λ i r e w. absurd (not_there c.self.inside.set.keys c.args.row.now i r c.self.inside.count c.in_default.ensures.found c.self.invariant (c.requires.sized ∙ sym (ap (λ (k : KeptRows). k.count) c.self.view_is)) e w))

pub invariant_of-self-2 : goal.invariant_of-self-2
invariant_of-self-2 c =
    let count : c.in_ok-own.own.count ≡ c.self.inside.count = c.in_ok-own.ensures.limit ∙ c.requires.sized ∙ sym (ap (λ (r : KeptRows). r.count) c.self.view_is) in
    counts_inserted c.self.inside.count c.self.inside.set.keys c.insert_full.new.self.keys c.in_ok-own.own _ count c.self.invariant c.in_ok-index.ensures.keys

pub returns-clause-found : goal.returns-clause-found
returns-clause-found c = stored_bits c.insert_full.new.self.keys c.in_ok-own.own c.args.row.now c.in_ok-index.index c.in_ok-index.ensures.stored c.in_ok-own.ensures.numbers

pub returns-clause-kept : goal.returns-clause-kept
returns-clause-kept c = rw (← c.self.view_is) (stay_inserted c.self.inside.set.keys c.insert_full.new.self.keys c.in_ok-own.own _ c.in_ok-index.ensures.keys)
