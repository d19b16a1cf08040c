use Rattle.std.proofs.Common.{drop}
use Rattle.sh_tree.specs.standard.language.Parts.{singles}
use Rattle.sh_bodies.specs.Singles.{chained}
use Rattle.sh_grammar.proofs.KeptLemmas.{Left}
use Rattle.sh_grammar.proofs.kept.+kept.Given as goal

abbrev pub invariant-split_in_parts-loop-part : goal.invariant-split_in_parts-loop-part
invariant-split_in_parts-loop-part l = Left l.script (singles (drop l.part-index l.parts)) (singles l.parts)

abbrev pub invariant-split_in_chain-loop-operand : goal.invariant-split_in_chain-loop-operand
invariant-split_in_chain-loop-operand l = Left l.script (chained (drop l.operand-index l.rest)) (chained l.rest)
