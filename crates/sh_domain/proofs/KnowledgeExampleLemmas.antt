-- What sets of three names are known to be, by computation.
use Rattle.std.proofs.Common.{refl}
use Rattle.sh_rows.specs.Numbers.{has_bit}
use Rattle.sh_domain.specs.Facts.{claims}
use Rattle.sh_domain.specs.Knowledge.{among, at_number, knowledge_facts}
use Rattle.sh_domain.specs.examples.Knowledge.{KnowledgeAsExpected}

pub knowledge_as_expected : KnowledgeAsExpected
unfolding among at_number claims has_bit knowledge_facts
knowledge_as_expected = record {
  first = refl;
  second = refl;
  third = refl;
  unnumbered = refl;
  far = refl;
  variable = refl;
  function = refl;
  parameters = refl;
  no_more = refl;
  nowhere = refl;
  kept = refl;
  others = refl;
}
