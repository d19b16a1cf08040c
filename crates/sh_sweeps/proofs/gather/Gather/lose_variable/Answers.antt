use Rattle.sh_domain.specs.NumberSets.{numbers_of}
use Rattle.sh_rules.specs.Asking.{one_variable}
use Rattle.sh_drafts.specs.Numbers.{numbers_in}
use Rattle.sh_sweeps.specs.Asked.{gathered_of}
use Rattle.sh_sweeps.proofs.AskingLemmas.{sets_joined, none_joined}
use Rattle.sh_sweeps.proofs.gather.Gather.lose_variable.Goals as goal

pub returns : goal.returns
unfolding gathered_of
returns c =
    let s = c.args.self.now in
    sets_joined (gathered_of s) (numbers_in c.args.names.now (one_variable c.args.name.now)) (numbers_of c.add_name.new.set) (numbers_of s.functions) c.add_name.ensures (none_joined c.args.names.now (numbers_of s.functions))
