use Rattle.sh_domain.specs.NumberSets.{numbers_of}
use Rattle.sh_rules.specs.Asking.{one_function}
use Rattle.sh_drafts.specs.Numbers.{numbers_in}
use Rattle.sh_sweeps.specs.Asked.{gathered_of}
use Rattle.sh_sweeps.proofs.AskingLemmas.{sets_joined, none_joined}
use Rattle.sh_sweeps.proofs.gather.Gather.lose_function.Goals as goal

pub returns : goal.returns
unfolding gathered_of
returns c =
    let s = c.args.self.now in
    sets_joined (gathered_of s) (numbers_in c.args.names.now (one_function c.args.name.now)) (numbers_of s.vars) (numbers_of c.add_name.new.set) (none_joined c.args.names.now (numbers_of s.vars)) c.add_name.ensures
