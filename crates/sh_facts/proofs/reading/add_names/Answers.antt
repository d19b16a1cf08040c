use Rattle.std.proofs.Common.{◌≡◌, None, refl, ◌∙◌, arith, rules}
use Rattle.sh_facts.specs.Fields.{pieces_left}
use Rattle.sh_domain.specs.Forms.{pieces}
use Rattle.sh_domain.specs.KeptRows.{bits_of}
use Rattle.sh_facts.proofs.FormLemmas.{less_room}
use Rattle.sh_facts.proofs.ReadingLemmas.{number_below, numbers_on, known_on, not_known, numbers_end, known_end}
use Rattle.sh_facts.proofs.reading.add_names.Goals as goal

pub loop-left-init : goal.loop-left-init
unfolding pieces_left
loop-left-init c = record { numbers = λ k. refl; known = refl; count = refl }

pub returns-in_default-number_from-clause-refusal : goal.returns-in_default-number_from-clause-refusal
returns-in_default-number_from-clause-refusal c =
    let x = c.first_piece.result in
    not_known c.args.names.now c.loop-left.row (bits_of c.args.row.now) (pieces 44 c.args.text.now) c.loop-left.left x.1 c.in-Some.rest x.0 c.in-Some.is c.first_piece.ensures.pieces (search rules) c.loop-left.invariant.known

pub add-requires : goal.add-requires
add-requires c =
    let below = number_below c.args.names.now c.first_piece.result.0.now c.in-Some-number_from.number c.in-Some-number_from.ensures in
    omega (arith, below, c.loop-left.invariant.count, c.requires.count)

pub loop-left-smaller : goal.loop-left-smaller
loop-left-smaller c = less_room c.loop-left.left c.first_piece.result.1 c.in-Some.rest c.in-Some.is c.first_piece.ensures.less

pub loop-left-preserved : goal.loop-left-preserved
loop-left-preserved c =
    let x = c.first_piece.result in
    record {
      numbers = numbers_on c.args.names.now c.loop-left.row (bits_of c.args.row.now) (pieces 44 c.args.text.now) c.loop-left.left x.1 c.in-Some.rest x.0 c.in-Some.is c.first_piece.ensures.pieces c.add.new.self c.in-Some-number_from.number
          c.requires.distinct c.in-Some-number_from.ensures c.add.ensures.numbers c.loop-left.invariant.numbers;
      known = known_on c.args.names.now c.loop-left.row (bits_of c.args.row.now) (pieces 44 c.args.text.now) c.loop-left.left x.1 c.in-Some.rest x.0 c.in-Some.is c.first_piece.ensures.pieces c.in-Some-number_from.number c.in-Some-number_from.ensures
          c.loop-left.invariant.known;
      count = c.add.ensures.count ∙ c.loop-left.invariant.count;
    }

pub returns-clause-numbers : goal.returns-clause-numbers
returns-clause-numbers c =
    let none : c.loop-left.left ≡ None = search rules in
    numbers_end c.args.names.now c.loop-left.row (bits_of c.args.row.now) (pieces 44 c.args.text.now) c.loop-left.left none c.loop-left.invariant.numbers

pub returns-clause-known : goal.returns-clause-known
returns-clause-known c =
    let none : c.loop-left.left ≡ None = search rules in
    known_end c.args.names.now (pieces 44 c.args.text.now) c.loop-left.left none c.loop-left.invariant.known
