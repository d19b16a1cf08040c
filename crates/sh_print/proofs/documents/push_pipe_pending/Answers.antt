use Rattle.std.proofs.Common.{ap}
use Rattle.sh_print.specs.Pending.{pending_text}
use Rattle.sh_print.proofs.TextLemmas.{nothing, pipe_pending_none}
use Rattle.sh_print.proofs.documents.push_pipe_pending.Goals as goal

pub returns-in-None : goal.returns-in-None
returns-in-None c = nothing _ _ (ap pending_text (pipe_pending_none c.args.script.now c.args.pipe.now (rw c.as_slice.ensures at c.in-None.ensures.value)))
