use Rattle.sh_domain.specs.Views.{Before, at}
use Rattle.sh_sweeps.proofs.known.process_of.Goals as goal

pub returns : goal.returns
returns c = c.started_in.ensures (at (Before c.args.number)) c.before_of-outside.ensures
