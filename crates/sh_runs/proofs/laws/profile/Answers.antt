use Rattle.sh_runs.proofs.ProfileLemmas.{profile_as_expected}
use Rattle.sh_runs.proofs.laws.profile.Goals as goal

pub returns : goal.returns
returns c = profile_as_expected
