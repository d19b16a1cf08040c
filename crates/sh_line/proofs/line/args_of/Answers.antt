use Rattle.std.proofs.Common.{◌∙◌, arith, codes}
use Rattle.std.specs.Str.Parse.{ExplainsUnsignedError, HasUnsignedDigitsIfOk, ParsesUnsigned}
use Rattle.clap.specs.Lexer.{without_minus}
use Rattle.clap.specs.Words.{found_of, rows_of}
use Rattle.clap.proofs.CallerReads.{signed_reads}
use Rattle.clap.proofs.WalkLemmas.{one_text-rows}
use Rattle.sh_line.proofs.LineLemmas.{number_given, number_is}
use Rattle.sh_line.proofs.line.args_of.Goals as goal

pub unreachable-requires : goal.unreachable-requires
unreachable-requires c =
    let text = number_given c.args.action (rows_of (found_of c.args.sub.now)) c.in-Lint.is c.requires in
    let read = c.get_one.ensures.value (without_minus text.0) (one_text-rows (found_of c.args.sub.now) (codes "args") ∙ text.1) in
    let number = signed_reads _ (λ bs r. ParsesUnsigned 16 10 bs r × ExplainsUnsignedError 10 bs r × HasUnsignedDigitsIfOk bs r) 16 0 65535 text.0 c.get_one.result read (λ u x h. h.0) (omega arith) text.2 in
    c.in_default.not-Some number.0 number.1

pub returns-in-Some : goal.returns-in-Some
returns-in-Some c =
    let text = number_given c.args.action (rows_of (found_of c.args.sub.now)) c.in-Lint.is c.requires in
    let read = c.in-Some.ensures.value (without_minus text.0) (one_text-rows (found_of c.args.sub.now) (codes "args") ∙ text.1) in
    number_is c.args.action (rows_of (found_of c.args.sub.now)) c.in-Some.args c.in-Lint.is (without_minus text.0, text.1, read.0)
