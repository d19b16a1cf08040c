-- Names that are lost or gained one after the other, by the static texts of operands.
-- POSIX.1-2024, XCU 2.15 (unset), 3 (read).
use Rattle.std.specs.Prelude.{◌≡◌, Bool, true, false, not, filter, if◌then◌else◌, List, [], ◌∷◌, fold, Some, None}
use Rattle.sh_tree.specs.standard.language.Bytes.{is_name}
use Rattle.sh_tree.specs.standard.program.Syntax as p
use Rattle.sh_tree.specs.standard.program.Syntax.{Text}
use Rattle.sh_runs.specs.Profile.{Static}
use Rattle.sh_table.specs.WordTexts.{text_in}
use Rattle.sh_table.specs.declared.word_text.WordText.{WordText}
use Rattle.sh_runs.specs.standard.runs.Environment.{is_one_of}
use Rattle.sh_domain.specs.declared.number_set.NumberSet.{NumberSet}
use Rattle.sh_domain.specs.Facts.{Facts}
use Rattle.sh_domain.specs.Gains.{named}
use Rattle.sh_domain.specs.Knowledge.{contains}
use Rattle.sh_domain.specs.Table.{prefixes}
use Rattle.sh_domain.specs.Views.{Lose}
use Rattle.sh_rules.specs.Settings.{Setting, gained}
use Rattle.sh_rules.specs.SimpleBounds.{stepped}

unfoldable pub variable_lost : Setting → Facts → Text → Facts
variable_lost x f t = stepped x (Lose (record { vars = t ∷ []; functions = [] })) f

unfoldable pub function_lost : Setting → Facts → Text → Facts
function_lost x f t = stepped x (Lose (record { vars = []; functions = t ∷ [] })) f

abbrev pub name_gained : Setting → Facts → Text → Facts
name_gained x f t = gained x (named (t ∷ [])) f

-- what is done with each name that passes the test
abbrev pub if_wanted : {K : Type 0} → (Text → Bool) → (K → Text → K) → K → Text → K
if_wanted wanted with_name k t = if wanted t then with_name k t else k

-- what is done with a static text that is a name
unfoldable pub by_name : {K : Type 0} → (K → Text → K) → K → Static → K
by_name with_name k None = k
by_name with_name k (Some t) = if is_name t then with_name k t else k

-- of the kept text of an operand
abbrev pub texts_with : {K : Type 0} → Setting → (K → Text → K) → K → WordText → K
texts_with x with_name k w = by_name with_name k (text_in x.script w)

-- of those of all operands, if `unset` takes such names
unfoldable pub where_taken : {K : Type 0} → Bool → Setting → (K → Text → K) → K → List WordText → K
where_taken true x with_name k ws = fold (texts_with x with_name) k ws
where_taken false x with_name k ws = k

-- those of these names that no prefix assignment has
abbrev pub is_free : p.Elements → Text → Bool
is_free es t = not (is_one_of (prefixes es) t)

abbrev pub unless_prefixed : p.Elements → List Text → List Text
unless_prefixed es ts = filter (is_free es) ts

unfoldable pub free_gained : Setting → p.Elements → Facts → Text → Facts
free_gained x es f t = if_wanted (is_free es) (name_gained x) f t

-- the names of prefix assignments, of those that are numbered, as a set
abbrev pub ArePrefixes : Setting → p.Elements → NumberSet → Type 0
ArePrefixes x es s = (t : Text) → is_one_of x.names t ≡ true → contains x.names s t ≡ is_one_of (prefixes es) t

abbrev pub free_names : Setting → p.Elements → List Text → Facts → Facts
free_names x es ts f = gained x (named (unless_prefixed es ts)) f
