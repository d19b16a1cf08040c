use Rattle.std.proofs.Common.{◌+◌, length, arith}
use Rattle.sh_domain.specs.Certificates.{in_byte_order, names_at}
use Rattle.sh_domain.specs.Sheets.{names_text}
use Rattle.sh_facts.proofs.RoomLemmas.{no_room, others, taken}
use Rattle.sh_facts.proofs.RowLengthLemmas.{no_more_bytes, no_names, some_names}
use Rattle.sh_facts.proofs.row_length.room_after_row.Goals as goal

pub returns-in_err-left : goal.returns-in_err-left
returns-in_err-left c =
    let text = names_text (names_at (in_byte_order c.args.names.now) c.args.rows.now c.args.row) in
    let more = no_more_bytes c.args.rows.now c.args.row c.args.names.now in
    no_room c.args.room (length text + 1) c.from_residual.result c.from_residual.ensures (omega (arith, more, c.in_err-left.ensures))

pub returns-then-left-room : goal.returns-then-left-room
returns-then-left-room c =
    let all = some_names c.args.rows.now c.args.row c.args.names.now (omega (arith, c.in_ok-left.ensures, c.if-left-room.true)) in
    omega (arith, all, c.in_ok-left.ensures)

pub returns-else-left-room : goal.returns-else-left-room
returns-else-left-room c =
    let text = names_text (names_at (in_byte_order c.args.names.now) c.args.rows.now c.args.row) in
    let none = no_names c.args.rows.now c.args.row c.args.names.now (omega (arith, c.in_ok-left.ensures, c.if-left-room.false)) in
    others c.args.room c.in_ok-left.left 0 1 (length text + 1) c.checked_sub.result (omega (arith, c.in_ok-left.ensures, c.if-left-room.false)) (omega (arith, none)) (taken c.in_ok-left.left 1 c.checked_sub.result c.checked_sub.ensures)
