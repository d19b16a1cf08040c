use Rattle.std.proofs.Common.{◌≤◌, length, sym, rules, arith}
use Rattle.sh_domain.specs.Certificates.{in_byte_order}
use Rattle.sh_facts.proofs.CompactTextLemmas.{turns_all, turns_next, turns_done}
use Rattle.sh_facts.proofs.RoomLemmas.{no_room}
use Rattle.sh_facts.proofs.compact_length.room_after_turns.Goals as goal

pub returns-in_err-left : goal.returns-in_err-left
returns-in_err-left c =
    let order = in_byte_order c.args.names.now in
    let hs = c.args.compact.now.heads.entries in
    let next = turns_next order c.args.compact.now.rows hs c.loop-index.index (c.in-Some.number.now, c.in-Some.facts.now) (sym c.in-Some.ensures.entry) in
    let all = turns_all order c.args.compact.now.rows hs in
    no_room c.args.room _ c.from_residual.result c.from_residual.ensures (omega (arith, next, all, c.loop-index.invariant, c.in_err-left.ensures))

pub loop-index-preserved : goal.loop-index-preserved
loop-index-preserved c =
    let next = turns_next (in_byte_order c.args.names.now) c.args.compact.now.rows c.args.compact.now.heads.entries c.loop-index.index (c.in-Some.number.now, c.in-Some.facts.now) (sym c.in-Some.ensures.entry) in
    omega (arith, next, c.loop-index.invariant, c.in_ok-left.ensures)

pub returns : goal.returns
returns c =
    let order = in_byte_order c.args.names.now in
    let hs = c.args.compact.now.heads.entries in
    let le : length hs ≤ c.loop-index.index = search rules in
    let all = turns_all order c.args.compact.now.rows hs in
    let done = turns_done order c.args.compact.now.rows hs c.loop-index.index le in
    omega (arith, all, done, c.loop-index.invariant)
