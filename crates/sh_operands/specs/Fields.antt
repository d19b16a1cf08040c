-- How many fields words give at least, and in clauses of private functions the pieces of a tree.
-- POSIX.1-2024, XCU 2.5.2 (special parameters), 2.6.2 (parameter expansion), 2.6.5 (field
-- splitting).
use Rattle.std.specs.Prelude.{ℕ, zero, suc, ◌+◌, Bool, true, false, not, ◌&&◌, List, fold, Option, Some, None}
use Rattle.sh_tree.specs.declared.tree.Action.{Action}
use Rattle.sh_tree.specs.declared.tree.Action.TheVariants as action
use Rattle.sh_tree.specs.declared.tree.Element.{Element}
use Rattle.sh_tree.specs.declared.tree.ParameterOperator.{ParameterOperator}
use Rattle.sh_tree.specs.declared.tree.ParameterOperator.TheVariants as operator
use Rattle.sh_tree.specs.declared.tree.Part.{Part, Param'}
use Rattle.sh_tree.specs.declared.tree.Special.TheVariants as special
use Rattle.sh_tree.specs.Lists.{element_from}
use Rattle.sh_tree.specs.standard.program.Syntax as p
use Rattle.sh_tree.specs.standard.program.Trees as trees
use Rattle.sh_tree.specs.standard.program.Words.{words_in, operands_in}
use Rattle.sh_runs.specs.Counts.{Count, Parameters, One, Nothing, count_of, word_has_all, gives_field, some_gives_field}
use Rattle.sh_operands.specs.declared.counts.Total.{Total}
use Rattle.sh_operands.specs.Looks.{subject_is_all}
use Rattle.sh_table.specs.Numerals.{capped}

-- parts that give a field

unfoldable pub action_gives : Action → Bool
action_gives action.Default = false
action_gives action.Alternative = false
action_gives _ = true

unfoldable pub use_gives : p.Operator → Bool
use_gives (p.Use a colon w) = action_gives a
use_gives _ = true

unfoldable pub operator_gives : List ℕ → ParameterOperator → Bool
operator_gives b o = use_gives (trees.operator_of b o)

unfoldable pub part_gives : List ℕ → Part → Bool
part_gives b x = gives_field (trees.part_of b x)

-- `"$@"` alone

unfoldable pub is_value : ParameterOperator → Bool
is_value operator.Value = true
is_value _ = false

unfoldable pub is_at : Part → Bool
is_at (Param' s subject operator) = subject_is_all true subject && is_value operator
is_at _ = false

unfoldable pub are_at : Option Part → Bool
are_at None = false
are_at (Some x) = is_at x

-- `$@`
unfoldable pub expands_all : p.Part → Bool
expands_all (p.Expansion at (p.Special special.At) p.Value) = true
expands_all _ = false

-- what is between double quotes
unfoldable pub are_all : p.Word → Bool
are_all (p.more_parts (p.Expansion at (p.Special special.At) p.Value) p.no_parts) = true
are_all _ = false

unfoldable pub quotes_all : p.Part → Bool
quotes_all (p.Double (p.more_parts (p.Expansion at (p.Special special.At) p.Value) p.no_parts)) = true
quotes_all _ = false

unfoldable pub quotes_at : List ℕ → Part → Bool
quotes_at b x = quotes_all (trees.part_of b x)

unfoldable pub are_quoted : List ℕ → Option Part → Bool
are_quoted b None = false
are_quoted b (Some x) = quotes_at b x

-- words

abbrev pub is_field : p.Word → Bool
is_field w = not (word_has_all false w) && some_gives_field w

abbrev pub no_fields : Total
no_fields = record { ones = 0; parameters = 0 }

unfoldable pub counted : Total → Count → Total
counted t Parameters = record { ones = t.ones; parameters = capped (t.parameters + 1) }
counted t One = record { ones = capped (t.ones + 1); parameters = t.parameters }
counted t Nothing = t

abbrev pub counted_word : Total → p.Word → Total
counted_word t w = counted t (count_of w)

-- so many words are skipped, and what the others give so far
pub record Counting : Type 0 where
  pub skipped : ℕ
  pub total : Total

abbrev pub counting : ℕ → Total → Counting
counting k t = record { skipped = k; total = t }

unfoldable pub skipping : ℕ → Total → p.Word → Counting
skipping zero t w = counting 0 (counted_word t w)
skipping (suc k) t w = counting k t

unfoldable pub word_counted : Counting → p.Word → Counting
word_counted s w = skipping s.skipped s.total w

unfoldable pub element_counted : List ℕ → Counting → Element → Counting
element_counted b s e = fold word_counted s (words_in (operands_in (element_from b e p.no_elements)))
