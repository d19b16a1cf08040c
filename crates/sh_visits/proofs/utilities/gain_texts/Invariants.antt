use Rattle.std.proofs.Common.{◌≡◌, fold, take}
use Rattle.sh_tree.specs.standard.program.Syntax.{Elements}
use Rattle.sh_rules.specs.Losses.{ArePrefixes, texts_with, free_gained}
use Rattle.sh_rules.specs.Walks.{facts_in, setting}
use Rattle.sh_visits.proofs.utilities.gain_texts.Given as goal

-- what is known so far is what the operands so far leave known
abbrev pub invariant-loop-text : goal.invariant-loop-text
invariant-loop-text l =
    (es : Elements) → ArePrefixes (setting l.claims) es l.prefixes
    → facts_in (setting l.claims) l.known ≡ fold (texts_with (setting l.claims) (free_gained (setting l.claims) es)) (facts_in (setting l.claims) l.initial.known) (take l.text-index l.texts)
