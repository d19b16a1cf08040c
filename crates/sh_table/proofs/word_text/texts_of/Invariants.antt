use Rattle.std.proofs.Common.{◌≡◌, ◌++◌, map, drop}
use Rattle.std.specs.List.{flat_map}
use Rattle.sh_table.specs.WordTexts.{text_in, texts_of}
use Rattle.sh_table.proofs.word_text.texts_of.Given as goal

-- the texts so far and those that are left are all
abbrev pub invariant-loop-element : goal.invariant-loop-element
invariant-loop-element l = map (text_in l.script) l.texts.items ++ flat_map (texts_of l.script) (drop l.element-index l.elements) ≡ flat_map (texts_of l.script) l.elements
