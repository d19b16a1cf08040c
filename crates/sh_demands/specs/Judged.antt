-- What a walk over words knows, and the places so far whose parameter is not surely set. Of the
-- names that there is room for it is what `sh_domain` says of a word; the walk of the code follows
-- it.
-- POSIX.1-2024, XCU 2.6.1 (tilde expansion), 2.6.2 (parameter expansion), 2.6.4 (arithmetic
-- expansion).
use Rattle.std.specs.Prelude.{ℕ, List, [], ◌++◌, codes}
use Rattle.sh_tree.specs.declared.place.Place.{Place}
use Rattle.sh_tree.specs.declared.place.Code.TheVariants.{U2}
use Rattle.sh_tree.specs.standard.program.Syntax as p
use Rattle.sh_domain.specs.Gains.{Gains, named, assigned_in}
use Rattle.sh_domain.specs.Needs.{needed, name_needed, reads_unmet}
use Rattle.sh_gains.specs.Knowing.{Knowing, gained, action_gains, inner_gains}

pub record Judged : Type 0 where
  pub known : Knowing
  pub places : List Place

abbrev pub judged : Knowing → List Place → Judged
judged k ps = record { known = k; places = ps }

abbrev pub noted : List Place → Judged → Judged
noted ps s = judged s.known (s.places ++ ps)

abbrev pub behind : Gains → Judged → Judged
behind g s = judged (gained g s.known) s.places

-- what was known before, with the places of what is done aside
abbrev pub aside : Judged → Judged → Judged
aside s t = judged s.known t.places

abbrev pub reads_judged : p.Expression → Judged → Judged
reads_judged e s = noted (reads_unmet s.known.facts e) s

unfoldable mutual
  pub part_judged : Judged → p.Part → Judged
  part_judged s (p.Double w) = word_judged s w
  part_judged s (p.Expansion at parameter operator) = operator_judged s at parameter operator
  part_judged s (p.Arithmetic at e) = behind (named (assigned_in e)) (reads_judged e (expanded_judged s e))
  part_judged s (p.Tilde at []) = noted (name_needed s.known.facts U2 at (codes "HOME")) s
  part_judged s _ = s

  pub word_judged : Judged → p.Word → Judged
  word_judged s p.no_parts = s
  word_judged s (p.more_parts x w) = word_judged (part_judged s x) w

  pub operator_judged : Judged → ℕ → p.Parameter → p.Operator → Judged
  operator_judged s at parameter p.Value = noted (needed s.known.facts at parameter) s
  operator_judged s at parameter p.Length = noted (needed s.known.facts at parameter) s
  operator_judged s at parameter (p.Remove removal w) = aside s (word_judged (noted (needed s.known.facts at parameter) s) w)
  operator_judged s at parameter (p.Use by colon w) = behind (action_gains parameter by) (aside s (word_judged (behind (inner_gains parameter by) s) w))

  pub expanded_judged : Judged → p.Expression → Judged
  expanded_judged s (p.Expanded x) = part_judged s x
  expanded_judged s (p.Parenthesis e) = expanded_judged s e
  expanded_judged s (p.Signed operator e) = expanded_judged s e
  expanded_judged s (p.Chain e rest) = operands_judged (expanded_judged s e) rest
  expanded_judged s (p.Choice e then_one else_one) = expanded_judged (expanded_judged (expanded_judged s e) then_one) else_one
  expanded_judged s (p.Assigned at name operator e) = expanded_judged s e
  expanded_judged s _ = s

  pub operands_judged : Judged → p.Operands → Judged
  operands_judged s p.no_operands = s
  operands_judged s (p.more_operands operator e rest) = operands_judged (expanded_judged s e) rest
