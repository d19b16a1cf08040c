use Rattle.std.proofs.Common.{◌≡◌, ◌+◌, ◌<◌, ◌≤◌, List, length, get_or, ap, subst, arith}
use Rattle.std.specs.Option.{option_copied}
use Rattle.sh_domain.specs.declared.certificate.Entry.{Entry}
use Rattle.sh_domain.specs.declared.certificate.Facts.TheVariants.{NotReached}
use Rattle.sh_domain.specs.Certificates.{in_byte_order}
use Rattle.sh_facts.proofs.LengthLemmas.{all_commands, commands_next, commands_done}
use Rattle.sh_facts.proofs.RoomLemmas.{no_room}
use Rattle.sh_facts.proofs.length.room_after_entries.Goals as goal

abbrev default : Entry
default = record { before = NotReached; zero = NotReached; nonzero = NotReached }

pub returns-in_err-left : goal.returns-in_err-left
returns-in_err-left c =
    let order = in_byte_order c.args.names.now in
    let es = c.args.certificate.now.entries.items in
    let i = c.loop-entry.entry-index in
    let lt : i < length es = subst (λ (xs : List Entry). i < length xs) c.deref-entry-items.ensures.value c.loop-entry-test.true in
    let e : Entry = get_or c.deref-entry-items.result.now i default in
    let f : e ≡ get_or es i default = ap (λ (xs : List Entry). get_or xs i default) c.deref-entry-items.ensures.value in
    let m : c.loop-entry.number + 1 ≡ i + 1 = ap (λ n. n + 1) c.loop-entry.invariant.number in
    let next = commands_next order c.args.certificate.now i (c.loop-entry.number + 1) e default (option_copied c.head-head.result) lt f m c.head-head.ensures in
    let all = all_commands order c.args.certificate.now in
    no_room c.args.room _ c.from_residual.result c.from_residual.ensures (omega (arith, next, all, c.loop-entry.invariant.left, c.in_err-left.ensures))

pub loop-entry-preserved : goal.loop-entry-preserved
loop-entry-preserved c =
    let es = c.args.certificate.now.entries.items in
    let i = c.loop-entry.entry-index in
    let lt : i < length es = subst (λ (xs : List Entry). i < length xs) c.deref-entry-items.ensures.value c.loop-entry-test.true in
    let e : Entry = get_or c.deref-entry-items.result.now i default in
    let f : e ≡ get_or es i default = ap (λ (xs : List Entry). get_or xs i default) c.deref-entry-items.ensures.value in
    let m : c.loop-entry.number + 1 ≡ i + 1 = ap (λ n. n + 1) c.loop-entry.invariant.number in
    let next = commands_next (in_byte_order c.args.names.now) c.args.certificate.now i (c.loop-entry.number + 1) e default (option_copied c.head-head.result) lt f m c.head-head.ensures in
    record { number = m; left = omega (arith, next, c.loop-entry.invariant.left, c.in_ok-left.ensures) }

pub returns : goal.returns
returns c =
    let order = in_byte_order c.args.names.now in
    let es = c.args.certificate.now.entries.items in
    let i = c.loop-entry.entry-index in
    let le : length es ≤ i = subst (λ (xs : List Entry). length xs ≤ i) c.deref-entry-items.ensures.value c.loop-entry-test.false in
    let all = all_commands order c.args.certificate.now in
    let done = commands_done order c.args.certificate.now i le in
    omega (arith, all, done, c.loop-entry.invariant.left)
