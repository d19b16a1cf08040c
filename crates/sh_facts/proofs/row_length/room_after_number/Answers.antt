use Rattle.std.proofs.Common.{◌+◌, ◌∙◌, sym, ap, length, arith}
use Rattle.sh_facts.proofs.RowLengthLemmas.{named, unnamed}
use Rattle.sh_facts.proofs.RoomLemmas.{no_room_for_names, last_byte}
use Rattle.sh_facts.proofs.row_length.room_after_number.Goals as goal

pub returns-then-not-has : goal.returns-then-not-has
returns-then-not-has c = ap (λ n. c.args.room + n) (unnamed c.args.rows.now c.args.row c.args.names.now c.args.number c.requires (sym c.has.ensures ∙ c.if-not-has.true))

pub returns-in_err-left : goal.returns-in_err-left
returns-in_err-left c =
    let all = named c.args.rows.now c.args.row c.args.names.now c.args.number c.name.result.now c.name.ensures (sym c.has.ensures ∙ c.if-not-has.false) in
    no_room_for_names c.args.rows.now c.args.row c.args.names.now c.args.number (c.args.number + 1) c.args.room c.from_residual.result c.from_residual.ensures (omega (arith, all, c.in_err-left.ensures))

pub returns : goal.returns
returns c =
    let all = named c.args.rows.now c.args.row c.args.names.now c.args.number c.name.result.now c.name.ensures (sym c.has.ensures ∙ c.if-not-has.false) in
    last_byte c.args.rows.now c.args.row c.args.names.now c.args.number (c.args.number + 1) c.args.room c.in_ok-left.left (length c.name.result.now) c.checked_sub-2.result
    (omega (arith, c.in_ok-left.ensures.0, c.in_ok-left.ensures.1)) all c.checked_sub-2.ensures
