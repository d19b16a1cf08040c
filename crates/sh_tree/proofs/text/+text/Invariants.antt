use Rattle.std.proofs.Common.{◌≡◌, ◌≤◌, ℕ, List, Some, drop, length}
use Rattle.sh_tree.specs.declared.tree.Part.{Part}
use Rattle.sh_tree.specs.Fronts.{parts_front}
use Rattle.sh_tree.specs.standard.Words.{both_texts, parts_text}
use Rattle.sh_tree.proofs.text.+text.Given as goal

-- what is added and what is left are the whole, and the front of what is left is no longer than the
-- whole one
pub record Left (b added old : List ℕ) (rest whole : List Part) : Type 0 where
  pub text : both_texts (Some added) (parts_text b rest) ≡ both_texts (Some old) (parts_text b whole)
  pub front : length (parts_front b rest) ≤ length (parts_front b whole)

abbrev pub invariant-push_parts-loop-part : goal.invariant-push_parts-loop-part
invariant-push_parts-loop-part l = Left l.script l.text.items l.initial.text.items (drop l.part-index l.parts) l.parts
