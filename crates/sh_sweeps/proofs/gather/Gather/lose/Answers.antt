use Rattle.sh_domain.specs.Certificates.{drops_of, in_byte_order}
use Rattle.sh_domain.specs.NumberSets.{numbers_of}
use Rattle.sh_rules.specs.Walks.{setting}
use Rattle.sh_drafts.specs.Numbers.{numbers_in}
use Rattle.sh_sweeps.specs.Asked.{gathered_of}
use Rattle.sh_sweeps.proofs.AskingLemmas.{sets_joined}
use Rattle.sh_sweeps.proofs.gather.Gather.lose.Goals as goal

pub returns : goal.returns
unfolding gathered_of setting
returns c =
    let x = c.args.claims.now in
    sets_joined (gathered_of c.args.self.now) (numbers_in x.names.now (drops_of (in_byte_order x.names.now) x.certificate.now.rows c.args.drops)) (numbers_of c.add_row.new.set) (numbers_of c.add_row-2.new.set)
    (c.add_row.ensures x.names.now x.numbered x.sized) (c.add_row-2.ensures x.names.now x.numbered x.sized)
