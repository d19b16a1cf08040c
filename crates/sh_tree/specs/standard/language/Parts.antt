-- What the reading requires of a word's parts: whether one is quoted, and whether single quotes
-- hold a line continuation.
-- POSIX.1-2024, XCU 2.2.1 (line continuation), 2.2.2 (single quotes), 2.7.4 (here-document).
use Rattle.std.specs.Prelude.{ℕ, Bool, true, false, not, ◌||◌, List, [], ◌∷◌, ◌++◌}
use Rattle.std.specs.List.{list_any, list_all}
use Rattle.sh_tree.specs.declared.tree.Span.{Span}
use Rattle.sh_tree.specs.declared.tree.Word.{Word}
use Rattle.sh_tree.specs.declared.tree.ParameterOperator.{ParameterOperator, Use', Remove'}
use Rattle.sh_tree.specs.declared.tree.Expr.{Expr, Constant, Variable, Expansion, Parenthesis', Unary', Chain', Choice', Assign', Row_of-Expr, end_of-Expr, more_of-Expr, Row_of-Expr-Chain-1-2, end_of-Expr-Chain-1-2, more_of-Expr-Chain-1-2}
use Rattle.sh_tree.specs.declared.tree.Part.{Part, Escaped, Single, Double', Param', Arith', Row_of-Part, end_of-Part, more_of-Part}
use Rattle.sh_tree.specs.standard.language.HereDocuments.{is_split_text}
use Rattle.sh_tree.specs.standard.Tree.{text_of}

-- quoting, in the word of a here-document (XCU 2.7.4)
unfoldable pub is_quotation : Part → Bool
is_quotation (Escaped s) = true
is_quotation (Single style s) = true
is_quotation (Double' s shape row) = true
is_quotation _ = false

-- a part of the word is quoted: then its here-document is not expanded (XCU 2.7.4)
unfoldable pub is_quoted_word : Word → Bool
is_quoted_word w = list_any is_quotation w.parts

-- the single quotes in a part (XCU 2.2.2), except for those in the commands of a substitution
unfoldable mutual
  pub singles_in : Part → List Span
  singles_in (Single style s) = s ∷ []
  singles_in (Double' s shape row) = row_singles row
  singles_in (Param' s subject operator) = operator_singles operator
  singles_in (Arith' s shape e) = row_expression_singles e
  singles_in _ = []

  pub row_singles : {m : _} → Row_of-Part m → List Span
  row_singles end_of-Part = []
  row_singles (more_of-Part x rest) = singles_in x ++ row_singles rest

  pub operator_singles : ParameterOperator → List Span
  operator_singles (Use' a c s shape row) = row_singles row
  operator_singles (Remove' r s shape row) = row_singles row
  operator_singles _ = []

  pub expression_singles : Expr → List Span
  expression_singles (Constant s) = []
  expression_singles (Variable s) = []
  expression_singles (Expansion p) = singles_in p
  expression_singles (Parenthesis' shape e) = row_expression_singles e
  expression_singles (Unary' o shape e) = row_expression_singles e
  expression_singles (Chain' shape e shape' rest) = row_expression_singles e ++ chain_singles rest
  expression_singles (Choice' shape c shape' y shape'' n) = row_expression_singles c ++ row_expression_singles y ++ row_expression_singles n
  expression_singles (Assign' s o shape e) = row_expression_singles e

  pub row_expression_singles : {m : _} → Row_of-Expr m → List Span
  row_expression_singles end_of-Expr = []
  row_expression_singles (more_of-Expr x rest) = expression_singles x ++ row_expression_singles rest

  pub chain_singles : {m : _} → Row_of-Expr-Chain-1-2 m → List Span
  chain_singles end_of-Expr-Chain-1-2 = []
  chain_singles (more_of-Expr-Chain-1-2 o x rest) = expression_singles x ++ chain_singles rest

unfoldable pub singles : List Part → List Span
singles [] = []
singles (p ∷ ps) = singles_in p ++ singles ps

-- A here-document's lines are joined before its commands are read (XCU 2.7.4), and a reader of
-- quotes keeps them. Shells differ, so no single quotes in such a body hold a continuation.
unfoldable pub keeps_lines : List ℕ → Bool → List Part → Bool
keeps_lines b joins ps = not joins || list_all (λ s. not (is_split_text (text_of b s))) (singles ps)
