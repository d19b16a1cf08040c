-- Clauses of private functions: what the elements of a simple command leave known, beside its
-- words.
-- POSIX.1-2024, XCU 2.9.1 (simple commands).
use Rattle.std.specs.Prelude.{ℕ, Bool, true, false, ◌&&◌, ◌||◌, if◌then◌else◌, List, [], ◌∷◌, take, Option, Some, None}
use Rattle.std.specs.Str.{bytes_eq}
use Rattle.sh_tree.specs.declared.tree.Element.{Element, Assignment', Word', Redirection'}
use Rattle.sh_tree.specs.declared.tree.Part.{Part, Plain}
use Rattle.sh_tree.specs.standard.Tree.{text_of}
use Rattle.sh_tree.specs.standard.language.Bytes.{name_length}
use Rattle.sh_tree.specs.standard.language.Commands.{is_assignment}
use Rattle.sh_tree.specs.Lists.{element_from}
use Rattle.sh_tree.specs.standard.program.Syntax as p
use Rattle.sh_tree.specs.standard.program.Syntax.{Text}
use Rattle.sh_tree.specs.standard.program.Words.{assignments_in, redirects_in}
use Rattle.sh_runs.specs.standard.runs.Environment.{is_one_of}
use Rattle.sh_domain.specs.Facts.{Facts}
use Rattle.sh_domain.specs.Gains.{named, redirects_gains}
use Rattle.sh_domain.specs.Operands.{declared_names}
use Rattle.sh_domain.specs.Table.{operands, prefixes, values_gains}
use Rattle.sh_rules.specs.Settings.{Setting, gained}

-- by the value of an assignment
unfoldable pub value_gained : Setting → Facts → Element → Facts
value_gained x f e = gained x (values_gains (assignments_in (element_from x.script e p.no_elements))) f

-- by its name
unfoldable pub prefix_gained : Setting → Facts → Element → Facts
prefix_gained x f e = gained x (named (prefixes (element_from x.script e p.no_elements))) f

-- by a redirection
unfoldable pub target_gained : Setting → Facts → Element → Facts
target_gained x f e = gained x (redirects_gains (redirects_in (element_from x.script e p.no_elements))) f

-- whether it is an assignment to the variable
unfoldable pub assigns : List ℕ → Text → Element → Bool
assigns b t (Assignment' name s shape row) = bytes_eq (text_of b name) t
assigns b t _ = false

unfoldable pub redirects : Element → Bool
redirects (Redirection' at number target) = true
redirects _ = false

-- whether a numbered name is among those of the prefix assignments so far
unfoldable pub prefix_added : Setting → Text → Bool → Element → Bool
prefix_added x t among (Assignment' name s shape row) = is_one_of x.names t && (bytes_eq (text_of x.script name) t || among)
prefix_added x t among _ = among

-- by an operand of a declaration utility that is an assignment in form
unfoldable pub declared_gained : Setting → Facts → Element → Facts
declared_gained x f e = gained x (named (declared_names (operands (element_from x.script e p.no_elements)))) f

-- the name, if the text begins an assignment
unfoldable pub front_name : Text → Option Text
front_name t = if is_assignment t then Some (take (name_length t) t) else None

-- of a word
unfoldable pub declared_name : List ℕ → List Part → Option Text
declared_name b (Plain s ∷ xs) = front_name (text_of b s)
declared_name b _ = None

unfoldable pub declared_by : Setting → Option Text → Facts → Facts
declared_by x None f = f
declared_by x (Some t) f = gained x (named (t ∷ [])) f

unfoldable pub is_word : Element → Bool
is_word (Word' s shape row) = true
is_word _ = false
