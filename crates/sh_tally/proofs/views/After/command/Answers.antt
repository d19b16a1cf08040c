use Rattle.std.proofs.Common.{Some, sym, ap}
use Rattle.sh_domain.specs.Views.{AfterNonzero, AfterZero, if_nonzero, if_zero}
use Rattle.sh_tally.specs.Views.{index_of}
use Rattle.sh_tally.proofs.views.After.command.Goals as goal

pub returns : goal.returns
unfolding index_of if_zero if_nonzero
returns c = λ functions. record {
  zero = c.at.ensures functions (AfterZero c.args.number) (ap Some (sym c.of.ensures));
  nonzero = c.at-2.ensures functions (AfterNonzero c.args.number) (ap Some (sym c.of-2.ensures));
}
