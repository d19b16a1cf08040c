use Rattle.std.proofs.Common.{◌≡◌, true, false, rules}
use Rattle.sh_facts.specs.Fields.{test_of, pieces_left}
use Rattle.sh_domain.specs.Forms.{pieces}
use Rattle.sh_domain.specs.Sheets.{precedes}
use Rattle.sh_facts.proofs.FormLemmas.{rises_start, none_held, rises_further, not_one, not_next, less_room, all_rise}
use Rattle.sh_facts.proofs.forms.are_rising.Goals as goal
use Rattle.sh_facts.proofs.forms.are_rising.Goals.{then-not-is_held-via-then-not-is_held, then-not-is_held-via-else-not-is_held+then-not-precedes}

pub loop-left-init : goal.loop-left-init
unfolding pieces_left
loop-left-init c = rises_start (test_of c.args.held) (none_held c.args.held) (pieces 44 c.args.text.now)

pub returns-then-not-is_held : goal.returns-then-not-is_held
returns-then-not-is_held c =
    let x = c.first_piece.result in
    elim c.then-not-is_held.branch [
      | then-not-is_held-via-then-not-is_held w ↦
          let no : test_of c.args.held x.0.now ≡ false = search rules in
          not_one c.args.held c.args.text.now c.loop-left.last.now c.loop-left.left x.1 c.in-Some.names x.0 c.in-Some.is c.first_piece.ensures.pieces c.loop-left.invariant no
      | then-not-is_held-via-else-not-is_held+then-not-precedes w ↦
          let no : precedes c.loop-left.last.now x.0.now ≡ false = search rules in
          not_next c.args.held c.args.text.now c.loop-left.last.now c.loop-left.left x.1 c.in-Some.names x.0 c.in-Some.is c.first_piece.ensures.pieces c.loop-left.invariant no
    ]

pub loop-left-smaller : goal.loop-left-smaller
loop-left-smaller c = less_room c.loop-left.left c.first_piece.result.1 c.in-Some.names c.in-Some.is c.first_piece.ensures.less

pub loop-left-preserved : goal.loop-left-preserved
loop-left-preserved c =
    let x = c.first_piece.result in
    let one : test_of c.args.held x.0.now ≡ true = search rules in
    let next : precedes c.loop-left.last.now x.0.now ≡ true = search rules in
    rises_further c.args.held c.args.text.now c.loop-left.last.now c.loop-left.left x.1 c.in-Some.names x.0 c.in-Some.is c.first_piece.ensures.pieces c.loop-left.invariant one next

pub returns : goal.returns
returns c = all_rise c.args.held c.args.text.now c.loop-left.last.now c.loop-left.left (search rules) c.loop-left.invariant
