-- Programs whose runs come to a utility without a row, each refused, and admitted ones that come to
-- none.
-- POSIX.1-2024, XCU 2.9.1.4 (command search and execution), 2.15 (special built-in utilities), 3
-- (command).
use Rattle.std.specs.Prelude.{◌≡◌, Bool, true, false, not, List, [], ◌∷◌, replicate, map, length, codes, unwrap_or, option_map}
use Rattle.sh_tree.specs.declared.tree.LoopKind.TheVariants as loop
use Rattle.sh_tree.specs.standard.program.Syntax.{Text, Substitution, no_parts, Items, more_items, and_or, no_links, pipeline, Command, no_commands, more_commands, Group, operand, no_elements}
use Rattle.sh_tree.specs.examples.Program.{only, plain, simple}
use Rattle.sh_runs.specs.Admitted.{is_admitted}
use Rattle.sh_runs.specs.Rows.{gives_fields}
use Rattle.sh_runs.specs.standard.runs.Rows.{has_row}
use Rattle.sh_runs.specs.standard.runs.Worlds.{World, Move, start_world}
use Rattle.sh_runs.specs.examples.Runs.{utility, says, says_one, compound, list, both, a_and_b, quoted_x, bare_start, start_with, quiet}
use Rattle.sh_runs.specs.examples.Profile.{words}
use Rattle.sh_runs.specs.examples.Steps.{f, x, function, over, turning, subshell, two_loops, far, comes_to}

-- the process that steps comes to a utility without a row
unfoldable pub lacks_row : World → Move → Bool
lacks_row w m = unwrap_or (option_map (λ r. not (has_row r.work)) (w.processes m.process)) false

-- whether it is admitted, and whether a run of the first process, or of the first one that it
-- starts, comes to such a utility
abbrev pub in_shell : List Command → Bool × Bool
in_shell cs = (is_admitted (list cs), comes_to lacks_row 100 0 quiet (start_world bare_start [] (list cs)))

abbrev pub in_started : List Command → Bool × Bool
in_started cs = (is_admitted (list cs), comes_to lacks_row 100 1 quiet (far 100 0 quiet (start_world bare_start [] (list cs))))

-- a line of plain words
abbrev pub line : Text → Command
line t = says (words t)

-- `for x in a b; do ..; done`
abbrev pub in_for : List Command → List Command
in_for cs = over x a_and_b cs ∷ []

-- `{ c & }`, `{ c | d; }`
abbrev pub asynchronous : Command → Command
asynchronous c = compound (Group (more_items (and_or (pipeline false (more_commands c no_commands)) no_links) true (list [])))

abbrev pub piped : Command → Command → Command
piped c d = compound (Group (both c d))

-- `: "$( .. )"`
abbrev pub substituted : List Command → Command
substituted cs = utility (plain (codes ":") ∷ only (Substitution 0 (list cs)) ∷ [])

-- a word without a part, and `break`
abbrev pub behind_nothing : Items
behind_nothing = list (simple 1 0 (operand no_parts (operand (plain (codes "break")) no_elements)) ∷ [])

abbrev pub refused_and_without : List (Bool × Bool) → Type 0
refused_and_without xs = xs ≡ replicate (length xs) (false, true)

abbrev pub admitted_and_with : List (Bool × Bool) → Type 0
admitted_and_with xs = xs ≡ replicate (length xs) (true, false)

pub record RowsAsExpected : Type 0 where
  -- `break`, `continue`, `return`; after a loop, and in a function that is called in a loop;
  -- `f() { :; }; return`
  pub without_mark :
      refused_and_without
      (map in_shell ((line (codes "break") ∷ []) ∷ (line (codes "continue") ∷ []) ∷ (line (codes "return") ∷ [])
      ∷ (over x a_and_b (line (codes ":") ∷ []) ∷ line (codes "break") ∷ []) ∷ (function f (line (codes "break") ∷ []) ∷ in_for (says_one f ∷ []))
      ∷ in_for (function f (line (codes "continue") ∷ []) ∷ says_one f ∷ []) ∷ (function f (line (codes ":") ∷ []) ∷ says_one f ∷ line (codes "return") ∷ []) ∷ []))
  -- in a loop, `( break )`, `: $(break)`, `{ break & }`, `{ break | :; }`; in a function,
  -- `( return )`, `{ return | :; }`
  pub in_another_process :
      refused_and_without
      (map in_started (in_for (subshell (line (codes "break") ∷ []) ∷ []) ∷ in_for (substituted (line (codes "break") ∷ []) ∷ [])
      ∷ in_for (asynchronous (line (codes "break")) ∷ []) ∷ in_for (piped (line (codes "break")) (line (codes ":")) ∷ []) ∷ (function f (subshell (line (codes "return") ∷ []) ∷ []) ∷ says_one f ∷ [])
      ∷ (function f (piped (line (codes "return")) (line (codes ":")) ∷ []) ∷ says_one f ∷ []) ∷ []))
  -- operands that are no numbers from 1; utilities that run what is in no reading of the script; a
  -- name that other shells have
  pub without_meaning :
      refused_and_without
      (map in_shell (in_for (line (codes "break 0") ∷ []) ∷ in_for (line (codes "continue x") ∷ []) ∷ (line (codes ". x") ∷ []) ∷ (line (codes "eval x") ∷ [])
      ∷ (line (codes "trap x INT") ∷ []) ∷ (line (codes "trap -- x INT") ∷ []) ∷ (line (codes "command eval x") ∷ []) ∷ (line (codes "command -p eval x") ∷ [])
      ∷ (line (codes "alias x") ∷ []) ∷ []))
  -- `"$x"` if x is `eval`
  pub computed : comes_to lacks_row 100 0 quiet (start_world (start_with (codes "eval")) [] (list (utility (quoted_x ∷ []) ∷ []))) ≡ true
  -- jumps in loops, of one and of more; a loop in a function, a function in a loop; a jump in a
  -- condition; `return` in a loop of a function
  pub with_mark :
      admitted_and_with
      (map in_shell (two_loops (codes "break" ∷ []) ∷ two_loops (codes "break" ∷ codes "2" ∷ []) ∷ two_loops (codes "continue" ∷ codes "5" ∷ [])
      ∷ (function f (in_for (line (codes "break") ∷ [])) ∷ says_one f ∷ []) ∷ in_for (function f (line (codes "return") ∷ []) ∷ says_one f ∷ line (codes "continue") ∷ [])
      ∷ (turning loop.While (line (codes "break")) (line (codes ":") ∷ []) ∷ []) ∷ (function f (in_for (line (codes "return 3") ∷ [])) ∷ says_one f ∷ []) ∷ []))
  -- `( for x in a b; do break; done )`, `f() { ( for x in a b; do continue; done ); return; }; f`
  pub in_its_process :
      admitted_and_with
      (map in_started ((subshell (in_for (line (codes "break") ∷ [])) ∷ [])
      ∷ (function f (subshell (in_for (line (codes "continue") ∷ [])) ∷ line (codes "return") ∷ []) ∷ says_one f ∷ []) ∷ []))
  -- `trap - INT`, `trap -- 2`, `command ls`, `command -v eval`, `set -e`, `ls`
  pub with_meaning :
      admitted_and_with
      (map in_shell ((line (codes "trap - INT") ∷ []) ∷ (line (codes "trap -- 2") ∷ []) ∷ (line (codes "command ls") ∷ []) ∷ (line (codes "command -v eval") ∷ [])
      ∷ (line (codes "set -e") ∷ []) ∷ (line (codes "ls") ∷ []) ∷ []))
  -- a word that gives no field hides the name after it: no text is read as such a word
  pub hidden :
      is_admitted behind_nothing ∷ gives_fields behind_nothing ∷ comes_to lacks_row 100 0 quiet (start_world bare_start [] behind_nothing) ∷ []
      ≡ true ∷ false ∷ true ∷ []
