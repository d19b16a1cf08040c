use Rattle.std.proofs.Common.{ap, ◌∙◌, length, zero}
use Rattle.std.proofs.lemmas.Bool.{both_ways}
use Rattle.std.proofs.lemmas.Simd.{length-replicate}
use Rattle.sh_rows.specs.Numbers.{has_bit}
use Rattle.sh_rows.proofs.WordLemmas.{has_bit-zeros}
use Rattle.sh_rows.proofs.bits.BitRowRow.empty.Goals as goal

pub invariant_of-result : goal.invariant_of-result
invariant_of-result c =
    let length_of = c.div_ceil-length.result in
    let none = c.in_ok-words.ensures in
    record {
      sized = ap length none ∙ length-replicate length_of zero ∙ c.div_ceil-length.ensures;
      below = λ k there. absurd (both_ways _ (ap (has_bit k) none ∙ has_bit-zeros length_of k) there);
    }

pub returns-clause-numbers : goal.returns-clause-numbers
returns-clause-numbers c k = ap (has_bit k) c.in_ok-words.ensures ∙ has_bit-zeros c.div_ceil-length.result k
