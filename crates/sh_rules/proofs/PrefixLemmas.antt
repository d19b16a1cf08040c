-- The names of prefix assignments, and the functions, of a script are those of its text.
use Rattle.std.proofs.Common.{◌≡◌, ℕ, true, Bool, List, ◌∷◌, flat_map, refl, ap, ◌∙◌}
use Rattle.std.specs.List.{list_all}
use Rattle.std.proofs.lemmas.Bool.{and_parts, and_from}
use Rattle.sh_tree.specs.declared.tree.Command.{Command, out-Command}
use Rattle.sh_tree.specs.declared.tree.Element.{Assignment', Word', Redirection'}
use Rattle.sh_tree.specs.declared.tree.Kind.{Kind, Simple', Row_of-Element, end_of-Element, more_of-Element, items-the_row-Element}
use Rattle.sh_tree.specs.standard.Words.{words_of}
use Rattle.sh_tree.specs.Lists.{redirects_from}
use Rattle.sh_tree.specs.standard.program.Syntax as p
use Rattle.sh_tree.specs.standard.program.Syntax.{Text}
use Rattle.sh_tree.specs.standard.program.Trees as trees
use Rattle.sh_tree.specs.standard.program.Words.{assignments_in}
use Rattle.sh_tree.proofs.ProgramRules as rules
use Rattle.sh_runs.specs.Calls.{functions_of, table_of}
use Rattle.sh_runs.specs.Surroundings.{outside}
use Rattle.sh_runs.specs.standard.runs.Environment.{is_one_of}
use Rattle.sh_domain.specs.Sights.{Sight, sight, in_row, in_target, in_redirect, in_element, in_kind, in_command, operand_sights}
use Rattle.sh_domain.specs.Table.{prefixes}
use Rattle.sh_domain.proofs.EnteredWalk.{script_walked}
use Rattle.sh_gains.proofs.DefinedLemmas.{functions_same}
use Rattle.sh_gains.proofs.SightLemmas.{seen_reach, Seen, front, rest_of}
use Rattle.sh_domain.proofs.StandLemmas.{all_stand}
use Rattle.sh_rules.specs.CommandBounds.{prefixes_in}
use Rattle.sh_rules.specs.Asked.{PrefixesAreNumbered, TableDefines, has_numbered_prefixes}

module _ (b : List ℕ) (q : Text → Bool) where
  elements_named : {m : _} (row : Row_of-Element m) → Seen q (flat_map (in_element b) (items-the_row-Element _ row)) → list_all q (prefixes (trees.elements_of b row)) ≡ true
  unfolding in_element trees.part_of assignments_in
  elements_named end_of-Element h = refl
  elements_named (more_of-Element (Assignment' name span shape parts) rest) h =
      let one = sight b name ∷ in_row b parts in
      let more = flat_map (in_element b) (items-the_row-Element _ rest) in
      and_from _ _ (and_parts _ _ (front q one more h)).0 (elements_named rest (rest_of q one more h))
  elements_named (more_of-Element (Word' span shape parts) rest) h =
      elements_named rest (rest_of q (in_row b parts) (flat_map (in_element b) (items-the_row-Element _ rest)) h)
  elements_named (more_of-Element (Redirection' at number target) rest) h =
      elements_named rest (rest_of q (in_target b target) (flat_map (in_element b) (items-the_row-Element _ rest)) h)

  kind_named : (n offset : ℕ) (rs : p.Redirects) (k : Kind) → Seen q (in_kind b k) → list_all q (prefixes_in (p.command n offset (trees.kind_of b k) rs)) ≡ true
  unfolding in_kind trees.part_of prefixes_in
  kind_named n offset rs (Simple' shape row) h =
      elements_named row (front q (flat_map (in_element b) (items-the_row-Element _ row)) (operand_sights b (words_of (items-the_row-Element _ row))) h)
  kind_named n offset rs _ h = refl

  command_named : (c : Command) → Seen q (in_command b c) → list_all q (prefixes_in (trees.command_of b c)) ≡ true
  command_named c h =
      ap (λ m. list_all q (prefixes_in m)) (rules.command_of-out b c)
      ∙ kind_named _ _ (redirects_from b (out-Command c).redirects) (out-Command c).kind
      (front q (in_kind b (out-Command c).kind) (flat_map (in_redirect b) (out-Command c).redirects) h)

empty_named : (q : Text → Bool) → list_all q (prefixes_in (p.command 0 0 (p.Group p.no_items) p.no_redirects)) ≡ true
unfolding prefixes_in
empty_named q = refl

pub prefixes_are_numbered : PrefixesAreNumbered
unfolding has_numbered_prefixes
prefixes_are_numbered b t d names n =
    let q = is_one_of names in
    script_walked (λ x c. list_all q (prefixes_in c)) (λ e x c k. k) (trees.script_of b t)
    (all_stand b (λ (c : Command). list_all (λ (s : Sight). q s.name) (in_command b c)) (λ c. list_all q (prefixes_in c)) (command_named b q) (empty_named q)
    outside t (seen_reach b t d names n))

pub table_defines : TableDefines
unfolding table_of functions_of
table_defines b t = functions_same (trees.script_of b t)
