-- When the form of a word keeps its expansions from being changed by field splitting and pathname
-- expansion.
-- POSIX.1-2024, XCU 2.6.5 (field splitting), 2.6.6 (pathname expansion).
use Rattle.std.specs.Prelude.{◌==◌, Bool, true, false, not, ◌&&◌, ◌||◌, codes, Option, Some, None}
use Rattle.std.specs.List.{list_any}
use Rattle.std.specs.Str.{bytes_eq}
use Rattle.sh_tree.specs.declared.tree.Action.TheVariants as action
use Rattle.sh_tree.specs.declared.tree.Special as tree
use Rattle.sh_tree.specs.declared.tree.Special.TheVariants as special
use Rattle.sh_tree.specs.standard.language.Bytes.{is_digit}
use Rattle.sh_tree.specs.standard.program.Syntax.{Text, Parameter, Variable, Special, Part, Plain, Escaped, Single, Double, Expansion, Arithmetic, Substitution, Word, no_parts, more_parts, Operator, Value, Length, Use, Remove, Expression, Constant, Name, Expanded, Parenthesis, Signed, Chain, Choice, Assigned, Operands, no_operands, more_operands}
use Rattle.sh_runs.specs.standard.runs.Fields.{begins_pattern}

-- Expansions that give nothing but digits and `-`

unfoldable pub is_numeric : tree.Special → Bool
is_numeric special.NumberSign = true
is_numeric special.QuestionMark = true
is_numeric special.Dollar = true
is_numeric special.Exclamation = true
is_numeric _ = false

unfoldable pub gives_number : Parameter → Operator → Bool
gives_number (Special c) Value = is_numeric c
gives_number p Length = true
gives_number p _ = false

-- `\`, single quotes, double quotes
unfoldable pub is_quotation : Part → Bool
is_quotation (Escaped t) = true
is_quotation (Single style t) = true
is_quotation (Double w) = true
is_quotation _ = false

unfoldable pub are_quotations : Word → Bool
are_quotations no_parts = true
are_quotations (more_parts x w) = is_quotation x && are_quotations w

-- an alternative of quotations, at least one
unfoldable pub is_quoted_alternative : Operator → Bool
is_quoted_alternative (Use action.Alternative colon (more_parts x w)) = are_quotations (more_parts x w)
is_quoted_alternative _ = false

-- a part whose value, if it has one, is not split: it is no expansion outside quotes, gives a
-- number, or is a quoted alternative
unfoldable pub is_whole : Part → Bool
is_whole (Expansion at p operator) = gives_number p operator || is_quoted_alternative operator
is_whole (Substitution at list) = false
is_whole _ = true

unfoldable pub are_whole : Word → Bool
are_whole no_parts = true
are_whole (more_parts x w) = is_whole x && are_whole w

-- an unquoted `*`, `?` or `[`, in the word or in the word of a braced expansion outside quotes
unfoldable mutual
  pub part_begins_pattern : Part → Bool
  part_begins_pattern (Plain t) = list_any begins_pattern t
  part_begins_pattern (Expansion at p (Use action colon w)) = word_begins_pattern w
  part_begins_pattern _ = false

  pub word_begins_pattern : Word → Bool
  word_begins_pattern no_parts = false
  word_begins_pattern (more_parts x w) = part_begins_pattern x || word_begins_pattern w

-- What a word mentions

-- a parameter of a kind in the word, those of arithmetic included, except for those in
-- substitutions
unfoldable mutual
  pub part_mentions : (Parameter → Bool) → Part → Bool
  part_mentions is_one (Double w) = word_mentions is_one w
  part_mentions is_one (Expansion at p operator) = is_one p || operator_mentions is_one operator
  part_mentions is_one (Arithmetic at e) = expression_mentions is_one e
  part_mentions is_one _ = false

  pub word_mentions : (Parameter → Bool) → Word → Bool
  word_mentions is_one no_parts = false
  word_mentions is_one (more_parts x w) = part_mentions is_one x || word_mentions is_one w

  pub operator_mentions : (Parameter → Bool) → Operator → Bool
  operator_mentions is_one (Use action colon w) = word_mentions is_one w
  operator_mentions is_one (Remove removal w) = word_mentions is_one w
  operator_mentions is_one _ = false

  pub expression_mentions : (Parameter → Bool) → Expression → Bool
  expression_mentions is_one (Constant t) = false
  expression_mentions is_one (Name at name) = is_one (Variable name)
  expression_mentions is_one (Expanded x) = part_mentions is_one x
  expression_mentions is_one (Parenthesis e) = expression_mentions is_one e
  expression_mentions is_one (Signed operator e) = expression_mentions is_one e
  expression_mentions is_one (Chain e rest) = expression_mentions is_one e || operands_mention is_one rest
  expression_mentions is_one (Choice e then_one else_one) = expression_mentions is_one e || expression_mentions is_one then_one || expression_mentions is_one else_one
  expression_mentions is_one (Assigned at name operator e) = is_one (Variable name) || expression_mentions is_one e

  pub operands_mention : (Parameter → Bool) → Operands → Bool
  operands_mention is_one no_operands = false
  operands_mention is_one (more_operands operator e rest) = expression_mentions is_one e || operands_mention is_one rest

-- A variable of a kind that the word may assign: by `${name=w}`, and in arithmetic, but not in
-- substitutions.
unfoldable mutual
  pub part_assigns : (Text → Bool) → Part → Bool
  part_assigns is_one (Double w) = word_assigns is_one w
  part_assigns is_one (Expansion at p operator) = operator_assigns is_one p operator
  part_assigns is_one (Arithmetic at e) = expression_assigns is_one e
  part_assigns is_one _ = false

  pub word_assigns : (Text → Bool) → Word → Bool
  word_assigns is_one no_parts = false
  word_assigns is_one (more_parts x w) = part_assigns is_one x || word_assigns is_one w

  pub operator_assigns : (Text → Bool) → Parameter → Operator → Bool
  operator_assigns is_one (Variable name) (Use action.Assign colon w) = is_one name || word_assigns is_one w
  operator_assigns is_one p (Use action colon w) = word_assigns is_one w
  operator_assigns is_one p (Remove removal w) = word_assigns is_one w
  operator_assigns is_one p _ = false

  pub expression_assigns : (Text → Bool) → Expression → Bool
  expression_assigns is_one (Expanded x) = part_assigns is_one x
  expression_assigns is_one (Parenthesis e) = expression_assigns is_one e
  expression_assigns is_one (Signed operator e) = expression_assigns is_one e
  expression_assigns is_one (Chain e rest) = expression_assigns is_one e || operands_assign is_one rest
  expression_assigns is_one (Choice e then_one else_one) = expression_assigns is_one e || expression_assigns is_one then_one || expression_assigns is_one else_one
  expression_assigns is_one (Assigned at name operator e) = is_one name || expression_assigns is_one e
  expression_assigns is_one _ = false

  pub operands_assign : (Text → Bool) → Operands → Bool
  operands_assign is_one no_operands = false
  operands_assign is_one (more_operands operator e rest) = expression_assigns is_one e || operands_assign is_one rest

abbrev pub is_ifs : Text → Bool
is_ifs t = bytes_eq t (codes "IFS")

-- `$@`
unfoldable pub is_at : Parameter → Bool
is_at (Special special.At) = true
is_at _ = false

-- IFS, or `$*`, which has the first byte of IFS in it
unfoldable pub is_about_separators : Parameter → Bool
is_about_separators (Variable name) = is_ifs name
is_about_separators (Special special.Asterisk) = true
is_about_separators _ = false

-- a value of IFS that separates no numbers: it is not set, or has no digit and no `-`
unfoldable pub is_steady : Option Text → Bool
is_steady None = true
is_steady (Some t) = not (list_any (λ c. is_digit c || c == 45) t)
