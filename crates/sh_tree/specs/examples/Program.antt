-- Texts and the programs of their trees, against which the definitions are held.
-- POSIX.1-2024, XCU 2.6 (word expansions), 2.7 (redirection), 2.9 (shell commands), 2.10 (shell
-- grammar).
use Rattle.std.specs.Prelude.{◌≡◌, ℕ, true, false, [], ◌∷◌, codes, None}
use Rattle.sh_tree.specs.declared.tree.Action.TheVariants as action
use Rattle.sh_tree.specs.declared.tree.Binary.TheVariants as binary
use Rattle.sh_tree.specs.declared.tree.ClauseEnd.TheVariants.{Break, FallThrough}
use Rattle.sh_tree.specs.declared.tree.Link.TheVariants as link
use Rattle.sh_tree.specs.declared.tree.LoopKind.TheVariants as loop
use Rattle.sh_tree.specs.declared.tree.Removal.TheVariants as removal
use Rattle.sh_tree.specs.declared.tree.SingleStyle.TheVariants as single
use Rattle.sh_tree.specs.declared.tree.Special.TheVariants as special
use Rattle.sh_tree.specs.declared.tree.Unary.TheVariants as unary
use Rattle.sh_tree.specs.examples.Language.{quoted_text, quoted_script, dollar_text, dollar_script, assigned_text, assigned_script, home_text, home_script, braces_text, braces_script, braced_text, braced_script, parameters_text, parameters_script, arithmetic_text, arithmetic_script, choice_text, choice_script, substituted_text, substituted_script, document_text, document_script, stripped_text, stripped_script, branch_text, branch_script, elif_text, elif_script, until_text, until_script, every_text, every_script, loop_text, loop_script, case_text, case_script, through_text, through_script, defined_text, defined_script, unset_first_text, unset_first_script}
use Rattle.sh_tree.specs.standard.program.Syntax.{Text, Variable, Positional, Special, Part, Plain, Escaped, Single, Double, Expansion, Arithmetic, Substitution, Tilde, Joined, Word, no_parts, more_parts, Operator, Value, Length, Use, Remove, Constant, Name, Expanded, Parenthesis, Signed, Chain, Choice, Assigned, no_operands, more_operands, Items, no_items, more_items, and_or, no_links, more_links, pipeline, Command, no_commands, more_commands, command, Simple, Group, Subshell, Conditional, Loop, For, Case, Define, Elements, no_elements, assignment, operand, redirection, File, Here, no_redirects, more_redirects, no_branches, more_branches, no_else, else_of, every_parameter, listed, no_words, more_words, no_clauses, more_clauses}
use Rattle.sh_tree.specs.standard.program.Trees.{script_of}

-- a word of one part, and of plain bytes
abbrev pub only : Part → Word
only x = more_parts x no_parts

abbrev pub plain : Text → Word
plain t = only (Plain t)

-- an expansion of `x`, whose `$` is there
abbrev pub expansion : ℕ → Operator → Part
expansion at operator = Expansion at (Variable (codes "x")) operator

abbrev pub simple : ℕ → ℕ → Elements → Command
simple number at elements = command number at (Simple elements) no_redirects

-- a simple command of one word of plain bytes
abbrev pub utility : ℕ → ℕ → Text → Command
utility number at t = simple number at (operand (plain t) no_elements)

-- a command alone, before other items
abbrev pub alone : Command → Items → Items
alone c rest = more_items (and_or (pipeline false (more_commands c no_commands)) no_links) false rest

abbrev pub lone : Command → Items
lone c = alone c no_items

-- `echo` with operands
abbrev pub echo : ℕ → ℕ → Elements → Command
echo number at operands = simple number at (operand (plain (codes "echo")) operands)

abbrev pub quoted_program : Items
quoted_program =
    let last = more_parts (Single single.Plain (codes "a")) (only (Escaped (codes "b"))) in
    lone (echo 1 0 (operand (only (Double (only (expansion 6 Value)))) (operand last no_elements)))

abbrev pub dollar_program : Items
dollar_program =
    let value = only (Single single.Dollar (7 ∷ 8 ∷ 27 ∷ 12 ∷ 10 ∷ 13 ∷ 9 ∷ 11 ∷ codes "\"'\\c")) in
    lone (simple 1 0 (assignment (codes "x") value no_elements))

abbrev pub assigned_program : Items
assigned_program =
    alone (simple 1 0 (assignment (codes "x") (plain (codes "1")) no_elements))
    (lone (echo 2 4 (operand (only (Double (only (expansion 10 Value)))) no_elements)))

abbrev pub home_program : Items
home_program =
    let value = more_parts (Tilde 2 []) (more_parts (Plain (codes "/b:")) (only (Tilde 6 []))) in
    lone (simple 1 0 (assignment (codes "a") value (operand (plain (codes "c")) no_elements)))

abbrev pub braces_program : Items
braces_program = lone (simple 1 0 (assignment (codes "a") (plain (codes "{b}")) (redirection (File (plain (codes "f"))) no_elements)))

abbrev pub braced_program : Items
braced_program =
    lone (echo 1 0 (operand (only (expansion 5 (Use action.Default true (only (Double (plain (codes "y")))))))
    (operand (only (expansion 15 Length)) (operand (only (Double (only (expansion 22 (Remove removal.ShortSuffix (plain (codes "?"))))))) no_elements))))

abbrev pub parameters_program : Items
parameters_program =
    let status = only (Expansion 15 (Special special.QuestionMark) Value) in
    let inside = more_parts (Expansion 6 (Positional 1) Value) (more_parts (Expansion 8 (Positional 10) Value) (more_parts Joined status)) in
    lone (echo 1 0 (operand (only (Double inside)) no_elements))

abbrev pub arithmetic_program : Items
arithmetic_program =
    let product = Chain (Constant (codes "2")) (more_operands binary.Multiply (Constant (codes "3")) no_operands) in
    let sum = Chain (Constant (codes "1")) (more_operands binary.Add product no_operands) in
    lone (echo 1 0 (operand (only (Arithmetic 5 (Assigned 8 (codes "a") None sum))) no_elements))

abbrev pub choice_program : Items
choice_program =
    let choice = Choice (Signed unary.Minus (Name 9 (codes "x"))) (Parenthesis (Name 12 (codes "y"))) (Expanded (Expansion 15 (Variable (codes "z")) Value)) in
    lone (echo 1 0 (operand (only (Arithmetic 5 choice)) no_elements))

abbrev pub substituted_program : Items
substituted_program =
    let inner = lone (echo 2 8 (operand (plain (codes "a")) no_elements)) in
    lone (echo 1 0 (operand (only (Double (only (Substitution 6 inner)))) no_elements))

abbrev pub document_program : Items
document_program =
    let body = more_parts (Plain (codes "x")) (more_parts (Expansion 12 (Variable (codes "y")) Value) (plain (codes "\n"))) in
    alone (simple 1 0 (operand (plain (codes "cat")) (redirection (Here body) no_elements))) (lone (utility 2 9 (codes "b")))

abbrev pub stripped_program : Items
stripped_program = lone (simple 1 0 (redirection (Here (plain (codes "a\n"))) no_elements))

abbrev pub branch_program : Items
branch_program =
    let branches = more_branches (lone (utility 2 3 (codes "a"))) (lone (utility 3 11 (codes "b"))) no_branches in
    lone (command 1 0 (Conditional branches (else_of (lone (utility 4 19 (codes "c"))))) no_redirects)

abbrev pub elif_program : Items
elif_program =
    let second = more_branches (lone (utility 4 19 (codes "c"))) (lone (utility 5 27 (codes "d"))) no_branches in
    let branches = more_branches (lone (utility 2 3 (codes "a"))) (lone (utility 3 11 (codes "b"))) second in
    lone (command 1 0 (Conditional branches no_else) no_redirects)

abbrev pub until_program : Items
until_program =
    let subshell = command 2 6 (Subshell (lone (utility 3 7 (codes "a")))) no_redirects in
    let behind = more_links link.OrElse (pipeline false (more_commands (utility 4 13 (codes "b")) no_commands)) no_links in
    let condition = more_items (and_or (pipeline false (more_commands subshell no_commands)) behind) false no_items in
    lone (command 1 0 (Loop loop.Until condition (lone (utility 5 19 (codes "c")))) no_redirects)

abbrev pub every_program : Items
every_program =
    let body = lone (simple 2 9 (operand (only (Tilde 9 (codes "a"))) no_elements)) in
    lone (command 1 0 (For (codes "x") every_parameter body) no_redirects)

abbrev pub loop_program : Items
loop_program = lone (command 1 0 (For (codes "x") (listed (more_words (plain (codes "a")) no_words)) (lone (utility 2 15 (codes "b")))) no_redirects)

abbrev pub case_program : Items
case_program =
    let last = more_clauses (more_words (plain (codes "*")) no_words) no_items Break no_clauses in
    let first = more_clauses (more_words (plain (codes "b")) (more_words (plain (codes "c")) no_words)) (lone (utility 2 16 (codes "d"))) Break last in
    lone (command 1 0 (Case (plain (codes "a")) first) no_redirects)

abbrev pub through_program : Items
through_program =
    let last = more_clauses (more_words (plain (codes "d")) no_words) no_items Break no_clauses in
    let first = more_clauses (more_words (plain (codes "b")) no_words) (lone (utility 2 13 (codes "c"))) FallThrough last in
    lone (command 1 0 (Case (plain (codes "a")) first) no_redirects)

abbrev pub defined_program : Items
defined_program =
    let body = command 2 4 (Group (lone (utility 3 6 (codes "a")))) (more_redirects (File (plain (codes "b"))) no_redirects) in
    let definition = command 1 0 (Define (codes "f") body) no_redirects in
    let behind = more_links link.AndThen (pipeline true (more_commands (utility 4 19 (codes "c")) (more_commands (utility 5 23 (codes "d")) no_commands))) no_links in
    more_items (and_or (pipeline false (more_commands definition no_commands)) behind) true no_items

abbrev pub unset_first_program : Items
unset_first_program =
    let unset = simple 1 0 (operand (plain (codes "unset")) (operand (plain (codes "x")) no_elements)) in
    let value = echo 2 10 (operand (only (Double (only (expansion 16 Value)))) no_elements) in
    more_items (and_or (pipeline false (more_commands unset (more_commands value no_commands))) no_links) false no_items

-- each tree's program is this one
pub record ProgramsRead : Type 0 where
  pub quoted : script_of quoted_text quoted_script ≡ quoted_program
  pub dollar : script_of dollar_text dollar_script ≡ dollar_program
  pub assigned : script_of assigned_text assigned_script ≡ assigned_program
  pub home : script_of home_text home_script ≡ home_program
  pub braces : script_of braces_text braces_script ≡ braces_program
  pub braced : script_of braced_text braced_script ≡ braced_program
  pub parameters : script_of parameters_text parameters_script ≡ parameters_program
  pub arithmetic : script_of arithmetic_text arithmetic_script ≡ arithmetic_program
  pub choice : script_of choice_text choice_script ≡ choice_program
  pub substituted : script_of substituted_text substituted_script ≡ substituted_program
  pub document : script_of document_text document_script ≡ document_program
  pub stripped : script_of stripped_text stripped_script ≡ stripped_program
  pub branches : script_of branch_text branch_script ≡ branch_program
  pub elif : script_of elif_text elif_script ≡ elif_program
  pub until : script_of until_text until_script ≡ until_program
  pub every : script_of every_text every_script ≡ every_program
  pub loop : script_of loop_text loop_script ≡ loop_program
  pub cases : script_of case_text case_script ≡ case_program
  pub through : script_of through_text through_script ≡ through_program
  pub defined : script_of defined_text defined_script ≡ defined_program
  pub unset_first : script_of unset_first_text unset_first_script ≡ unset_first_program
