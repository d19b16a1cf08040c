-- Clauses of private functions: what is judged of a piece of a command in a tree.
-- POSIX.1-2024, XCU 2.7 (redirection), 2.9.1 (simple commands), 2.9.4 (compound commands).
use Rattle.std.specs.Prelude.{ℕ, List, fold, Option, Some, None}
use Rattle.sh_tree.specs.declared.tree.Clause.{Clause, out-Clause}
use Rattle.sh_tree.specs.declared.tree.Element.{Element}
use Rattle.sh_tree.specs.declared.tree.Kind.{Kind}
use Rattle.sh_tree.specs.declared.tree.Redirect.{Redirect}
use Rattle.sh_tree.specs.declared.tree.Target.{Target}
use Rattle.sh_tree.specs.declared.tree.Word.{Word}
use Rattle.sh_tree.specs.Lists.{parts_from, element_from}
use Rattle.sh_tree.specs.standard.program.Syntax as p
use Rattle.sh_tree.specs.standard.program.Trees.{target_of, kind_of}
use Rattle.sh_demands.specs.Judged.{Judged, aside, word_judged}
use Rattle.sh_gains.specs.Knowing.{Knowing}
use Rattle.sh_demands.specs.Own.{redirect_judged, elements_judged, kind_judged}
use Rattle.sh_gains.specs.Walks.{element_gained}

abbrev pub word_step : List ℕ → Judged → Word → Judged
word_step b s w = word_judged s (parts_from b w.parts)

abbrev pub pattern_step : List ℕ → Judged → Word → Judged
pattern_step b s w = aside s (word_step b s w)

unfoldable pub target_step : List ℕ → Judged → Target → Judged
target_step b s t = redirect_judged s (target_of b t)

abbrev pub redirect_step : List ℕ → Judged → Redirect → Judged
redirect_step b s r = target_step b s r.target

unfoldable pub element_step : List ℕ → Knowing → Judged → Element → Judged
element_step b k s e = elements_judged k s (element_from b e p.no_elements)

unfoldable pub clause_step : List ℕ → Judged → Clause → Judged
clause_step b s c = fold (pattern_step b) s (out-Clause c).patterns

unfoldable pub listed_step : List ℕ → Judged → Option (List Word) → Judged
listed_step b s None = s
listed_step b s (Some ws) = fold (word_step b) s ws

-- after the words of a simple command
abbrev pub simple_step : List ℕ → Judged → List Element → Judged
simple_step b s es = fold (element_step b (fold (element_gained b) s.known es)) s es

unfoldable pub kind_step : List ℕ → Judged → Kind → Judged
kind_step b s k = kind_judged s (kind_of b k)
