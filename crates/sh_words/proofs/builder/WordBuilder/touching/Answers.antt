use Rattle.std.proofs.Common.{◌≤◌, length, arith}
use Rattle.sh_words.proofs.FaultLemmas.{no_part_is_fault}
use Rattle.sh_words.proofs.builder.WordBuilder.touching.Goals as goal

pub returns-else-is_expansion : goal.returns-else-is_expansion
returns-else-is_expansion c =
    let b = c.args.script.now in
    let w = c.args.self.now in
    let t = c.token_at-token in
    let inside : c.args.start ≤ length b = omega (arith, c.requires.inside) in
    rw c.no_part.ensures (no_part_is_fault b w.base c.args.start t.result.end w.frames t.result.sign inside t.ensures.within t.ensures.told c.requires.frames)
