use Rattle.std.proofs.Common.{arith}
use Rattle.sh_domain.proofs.KnowledgeLemmas.{met}
use Rattle.sh_domain.proofs.knowledge.Assured.meet.Goals as goal

pub returns : goal.returns
returns c names = met names c.args.self.now c.args.other.now _ c.meet.ensures c.meet-2.ensures (omega arith)
