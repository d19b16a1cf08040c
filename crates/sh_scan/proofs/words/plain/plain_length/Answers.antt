use Rattle.std.proofs.Common.{◌≡◌, arith}
use Rattle.sh_tree.specs.standard.language.Words.{plain_length}
use Rattle.sh_scan.proofs.WordLemmas.{plain_ends, plain_goes, plain_done}
use Rattle.sh_scan.proofs.words.plain.plain_length.Goals as goal

pub returns-then-not-stands-clause-value : goal.returns-then-not-stands-clause-value
returns-then-not-stands-clause-value c =
    plain_ends c.args.context c.loop-count.prior c.args.at c.args.rest.now c.loop-count.count _ c.loop-count.invariant (omega arith) c.stands.result c.stands.ensures c.if-not-stands.true

pub loop-count-preserved : goal.loop-count-preserved
loop-count-preserved c =
    plain_goes c.args.context c.loop-count.prior c.args.at c.args.rest.now c.loop-count.count _ c.loop-count.invariant (omega arith) c.stands.result c.stands.ensures c.if-not-stands.false

pub returns-clause-value : goal.returns-clause-value
returns-clause-value c =
    let ended : c.loop-count.count ≡ plain_length c.args.context c.args.prior c.args.at c.args.rest.now =
    plain_done c.args.context c.loop-count.prior c.args.at c.args.rest.now c.loop-count.count _ c.loop-count.invariant (omega arith) in
    omega arith
