use Rattle.std.proofs.Common.{◌++◌, take, arith, length-append}
use Rattle.std.proofs.lemmas.List.{length-take}
use Rattle.std.proofs.KnownBytes.{Consumes-trans}
use Rattle.sh_tree.proofs.ResultLemmas.{whatever}
use Rattle.sh_answers.proofs.moves.read_all.Goals as goal

pub returns-in_err-extend_from_slice-in-Ok-clause-lost :
    goal.returns-in_err-extend_from_slice-in-Ok-clause-lost
returns-in_err-extend_from_slice-in-Ok-clause-lost g c =
    whatever c.from_residual.result (
      c.loop-chunk.text.items ++ take c.in-Ok.n c.pull.new.buffer,
      omega (arith, length-append c.loop-chunk.text.items (take c.in-Ok.n c.pull.new.buffer), length-take c.in-Ok.n c.pull.new.buffer, c.pull.auto.buffer, c.in-Ok.ensures.bound, length-take c.min-want.result c.loop-chunk.chunk, c.min-want.ensures, c.len-in-loop-chunk.ensures),
      Consumes-trans _ _ _ _ _ c.loop-chunk.invariant.2 c.in-Ok.ensures.bytes.0,
    )
