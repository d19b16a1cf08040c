use Rattle.std.proofs.Common.{◌≡◌, ℕ, ◌+◌, nat_eq, false, List, get_or, refl, sym, subst, rules, arith}
use Rattle.std.proofs.lemmas.Result.{err_from_is_err_and}
use Rattle.indexmap.specs.IndexMap.{get}
use Rattle.sh_domain.specs.declared.certificate.Facts as value
use Rattle.sh_domain.specs.Reading.{claim_fits}
use Rattle.sh_facts.specs.CompactParts.{NoTurnsFit}
use Rattle.sh_facts.specs.Fields.{claim_of}
use Rattle.sh_facts.proofs.CertificateLemmas.{missing}
use Rattle.sh_facts.proofs.CompactReadLemmas.{InTurns, turns_begin, turns_on, other_turn, turn_misfits, turn_free, no_turn, turns_end}
use Rattle.sh_facts.proofs.compact_reading.read_turns.Goals as goal

pub loop-number-init : goal.loop-number-init
loop-number-init c =
    subst (λ (hs : List (ℕ × value.Facts)). InTurns c.args.names.now c.args.numbers.now c.args.text.now 0 0 c.args.text.now c.args.rows.now c.args.rows.now hs (get nat_eq c.new-heads.result)) (sym c.new-heads.ensures.empty)
    (turns_begin c.args.names.now c.args.numbers.now c.args.text.now c.args.rows.now (get nat_eq c.new-heads.result) c.requires.count (λ k. rw c.new-heads.ensures.empty refl))

pub returns-in_default-clause-refusal : goal.returns-in_default-clause-refusal
returns-in_default-clause-refusal c =
    no_turn c.args.names.now c.args.numbers.now c.args.text.now c.loop-number.number-index c.loop-number.least c.loop-number.left.now c.args.rows.now c.loop-number.rows c.loop-number.heads.entries (get nat_eq c.loop-number.heads)
    c.loop-number.invariant c.loop-number-test.true c.in_default.ensures

pub returns-then-turn-number-clause-refusal : goal.returns-then-turn-number-clause-refusal
returns-then-turn-number-clause-refusal c =
    let j = c.loop-number.number-index in
    let other : nat_eq c.in-Some.turn.number (get_or c.args.numbers.now j 0) ≡ false = search rules in
    other_turn c.args.names.now c.args.numbers.now c.args.text.now j c.loop-number.least c.loop-number.left.now c.args.rows.now c.loop-number.rows c.loop-number.heads.entries (get nat_eq c.loop-number.heads)
    (get_or c.args.numbers.now j 0) c.in-Some.turn c.in-Some.behind.now c.loop-number.invariant c.loop-number-test.true refl (sym c.in-Some.ensures) other

pub returns-in_err-facts-clause-refusal : goal.returns-in_err-facts-clause-refusal
returns-in_err-facts-clause-refusal c =
    let j = c.loop-number.number-index in
    let p = err_from_is_err_and c.from_residual.result c.from_residual.ensures.1 in
    rw (p.1, p.2)
    (missing (claim_fits c.args.names.now (claim_of c.in-Some.turn.facts)) (NoTurnsFit c.args.names.now c.args.numbers.now c.args.text.now) _
    (turn_misfits c.args.names.now c.args.numbers.now c.args.text.now j c.loop-number.least c.loop-number.left.now c.args.rows.now c.loop-number.rows c.loop-number.heads.entries (get nat_eq c.loop-number.heads)
    (get_or c.args.numbers.now j 0) c.in-Some.turn c.in-Some.behind.now c.loop-number.invariant c.loop-number-test.true refl (sym c.in-Some.ensures))
    c.in_err-facts.ensures.refusal)

pub loop-number-preserved : goal.loop-number-preserved
loop-number-preserved c =
    let j = c.loop-number.number-index in
    let number = get_or c.args.numbers.now j 0 in
    let heads = get nat_eq c.loop-number.heads in
    let same : c.in-Some.turn.number ≡ number = search rules in
    let free = turn_free c.args.names.now c.args.numbers.now c.args.text.now j c.loop-number.least c.loop-number.left.now c.args.rows.now c.loop-number.rows c.loop-number.heads.entries heads
    number c.in-Some.turn c.in-Some.behind.now c.loop-number.invariant c.loop-number-test.true refl (sym c.in-Some.ensures) same in
    subst (λ (hs : List (ℕ × value.Facts)). InTurns c.args.names.now c.args.numbers.now c.args.text.now (j + 1) (number + 1) c.in-Some.behind.now c.args.rows.now c.read_facts.new.rows hs (get nat_eq c.put_last.new.heads))
    (sym (c.in_ok-put_last.ensures.put free))
    (turns_on c.args.names.now c.args.numbers.now c.args.text.now j c.loop-number.least c.loop-number.left.now c.args.rows.now c.loop-number.rows c.loop-number.heads.entries heads
    number c.in-Some.turn c.in-Some.behind.now c.loop-number.invariant c.loop-number-test.true refl (sym c.in-Some.ensures) same c.read_facts.new.rows c.in_ok-facts.facts (get nat_eq c.put_last.new.heads) c.in_ok-facts.ensures.ok
    c.in_ok-put_last.ensures.others)

pub returns-clause-ok : goal.returns-clause-ok
returns-clause-ok c =
    turns_end c.args.names.now c.args.numbers.now c.args.text.now c.loop-number.number-index c.loop-number.least c.loop-number.left.now c.args.rows.now c.loop-number.rows c.loop-number.heads.entries (get nat_eq c.loop-number.heads)
    c.loop-number.invariant (omega (arith, c.loop-number-test.false))
