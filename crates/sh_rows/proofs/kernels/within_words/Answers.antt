use Rattle.std.proofs.Common.{◌≡◌, ◌≤◌, arith, length, refl, take, false}
use Rattle.std.proofs.lemmas.Bool.{both_ways}
use Rattle.sh_rows.proofs.WordLemmas.{beside_front, within_whole, not_within_whole, bits_within}
use Rattle.sh_rows.proofs.kernels.within_words.Goals as goal

pub returns-in-Some-clause-words : goal.returns-in-Some-clause-words
returns-in-Some-clause-words c =
    let words = c.args.words.now in
    let other = c.args.other.now in
    let shared = c.min-shared.result in
    let front = take shared other in
    let is = beside_front words other shared c.min-shared.ensures in
    let long : length front ≡ shared = is.long in
    let count : c.in-Some.at ≤ length front = c.in-Some.ensures.count in
    within_whole words other front shared c.in-Some.at c.is_rest_within.result is (omega arith) c.in-Some.ensures.some c.is_rest_within.ensures

pub returns-in-Some-clause-bits : goal.returns-in-Some-clause-bits
returns-in-Some-clause-bits c =
    bits_within c.args.words.now c.args.other.now c.is_rest_within.result (λ k. (c.type_inv.words k).fits) (λ k. (c.type_inv.other k).fits) (returns-in-Some-clause-words c)

pub returns-in-None-clause-words : goal.returns-in-None-clause-words
returns-in-None-clause-words c =
    let words = c.args.words.now in
    let other = c.args.other.now in
    let shared = c.min-shared.result in (
      λ h. absurd (both_ways false refl h),
      λ all. absurd (not_within_whole words other (take shared other) shared (beside_front words other shared c.min-shared.ensures) c.in-None.ensures.none all),
    )

pub returns-in-None-clause-bits : goal.returns-in-None-clause-bits
returns-in-None-clause-bits c =
    bits_within c.args.words.now c.args.other.now false (λ k. (c.type_inv.words k).fits) (λ k. (c.type_inv.other k).fits) (returns-in-None-clause-words c)
