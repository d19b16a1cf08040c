use Rattle.std.proofs.Common.{◌<◌, ◌&&◌, ap, ◌∙◌, arith}
use Rattle.sh_rows.specs.Numbers.{has_bit}
use Rattle.sh_domain.specs.NumberSets.{numbers_of}
use Rattle.sh_facts.proofs.CompactingLemmas.{below_kept, set_kept}
use Rattle.sh_facts.proofs.compacting.keep_set.Goals as goal

pub returns : goal.returns
returns c =
    set_kept c.args.rows.now c.intern.new.self c.in_ok-kept.kept c.args.numbers.now c.in_ok-kept.ensures.count c.in_ok-kept.ensures.kept
    (λ k l.
    let below : k < c.count.result = omega (arith, l, c.count.ensures) in
    c.in_ok-kept.ensures.found k ∙ c.copy_from.ensures.numbers k ∙ ap (has_bit k) c.words.ensures ∙ c.meet.ensures k ∙ ap (λ b. numbers_of c.args.numbers.now k && b) (c.below-named.ensures k)
    ∙ below_kept c.count.result k (numbers_of c.args.numbers.now k) below)
    c.in_ok-kept.ensures.known
