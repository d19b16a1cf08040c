use Rattle.std.proofs.Common.{ap, ◌∙◌, map}
use Rattle.sh_domain.specs.Numbered.{pair_of}
use Rattle.sh_domain.proofs.WritingLemmas.{all_in_order}
use Rattle.sh_domain.proofs.numbered.in_byte_order.Goals as goal

pub returns : goal.returns
returns c = all_in_order c.args.names.now c.deref.result.now c.numbers_of.result (ap (map pair_of) c.deref.ensures.value ∙ c.in_ok-order.ensures) c.numbers_of.ensures
