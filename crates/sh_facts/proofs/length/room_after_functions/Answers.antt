use Rattle.std.proofs.Common.{◌≡◌, ◌+◌, get_or, ap, refl, arith}
use Rattle.sh_domain.specs.declared.certificate.FunctionEntry.{FunctionEntry}
use Rattle.sh_domain.specs.declared.certificate.Facts.TheVariants.{NotReached}
use Rattle.sh_domain.specs.Certificates.{in_byte_order}
use Rattle.sh_facts.proofs.LengthLemmas.{all_functions, functions_next, functions_done}
use Rattle.sh_facts.proofs.RoomLemmas.{no_room}
use Rattle.sh_facts.proofs.length.room_after_functions.Goals as goal

abbrev default : FunctionEntry
default = record { before = NotReached; drops = record { vars = record { index = 0 }; functions = record { index = 0 } }; zero = NotReached; nonzero = NotReached }

pub returns-in_err-left : goal.returns-in_err-left
returns-in_err-left c =
    let order = in_byte_order c.args.names.now in
    let es = c.args.functions.now in
    let i = c.loop-entry.entry-index in
    let m : c.loop-entry.number + 1 ≡ i + 1 = ap (λ n. n + 1) c.loop-entry.invariant.number in
    let next = functions_next order c.args.rows.now es i (c.loop-entry.number + 1) (get_or es i default) default c.loop-entry-test.true refl m in
    let all = all_functions order c.args.rows.now es in
    no_room c.args.room _ c.from_residual.result c.from_residual.ensures (omega (arith, next, all, c.loop-entry.invariant.left, c.in_err-left.ensures))

pub loop-entry-preserved : goal.loop-entry-preserved
loop-entry-preserved c =
    let es = c.args.functions.now in
    let i = c.loop-entry.entry-index in
    let m : c.loop-entry.number + 1 ≡ i + 1 = ap (λ n. n + 1) c.loop-entry.invariant.number in
    let next = functions_next (in_byte_order c.args.names.now) c.args.rows.now es i (c.loop-entry.number + 1) (get_or es i default) default c.loop-entry-test.true refl m in
    record { number = m; left = omega (arith, next, c.loop-entry.invariant.left, c.in_ok-left.ensures) }

pub returns : goal.returns
returns c =
    let order = in_byte_order c.args.names.now in
    let es = c.args.functions.now in
    let all = all_functions order c.args.rows.now es in
    let done = functions_done order c.args.rows.now es c.loop-entry.entry-index c.loop-entry-test.false in
    omega (arith, all, done, c.loop-entry.invariant.left)
