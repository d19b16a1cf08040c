use Rattle.std.proofs.Common.{arith}
use Rattle.sh_counts.proofs.FallLemmas.{put_sound}
use Rattle.sh_counts.proofs.falling.Falling.lower_to.Goals as goal

pub returns-in_ok-put-clause-sound : goal.returns-in_ok-put-clause-sound
returns-in_ok-put-clause-sound c es bound sound =
    put_sound es c.args.self.now.counts.items c.put.new.self.counts.items c.args.index c.args.bound sound (omega arith) bound c.in_ok-put.ensures
