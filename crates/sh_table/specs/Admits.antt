-- Which script is admitted: the answer by the first refused command, over the commands by their
-- numbers.
-- POSIX.1-2024, XCU 2.9.1 (simple commands), 2.9.5 (function definitions).
use Rattle.std.specs.Prelude.{◌≡◌, ℕ, Bool, not, List, [], ◌∷◌, map, Option, Some, None, option_map, Result, Ok, Err}
use Rattle.sh_tree.specs.declared.refusal.Refusal.{Refusal}
use Rattle.sh_tree.specs.declared.refusal.Refusal.TheVariants.{Memory}
use Rattle.sh_tree.specs.declared.refusal.Refusal.TheVariants as refusal
use Rattle.sh_tree.specs.declared.refusal.Rule.{Rule}
use Rattle.sh_tree.specs.declared.refusal.Rule.TheVariants as rule
use Rattle.sh_tree.specs.standard.program.Syntax as p
use Rattle.sh_tree.specs.standard.program.Syntax.{Text}
use Rattle.sh_table.specs.declared.site.Site as site
use Rattle.sh_table.specs.declared.table.Row as row
use Rattle.sh_runs.specs.standard.Kinds.{kind_of}
use Rattle.sh_runs.specs.Profile.{Static, Refused, unless, or_rule, kind_rule, words_rule, told_name, function_rule, is_append, first_refused}
use Rattle.sh_runs.specs.Sites.{Form, Simple, Defines, Other, Site}
use Rattle.sh_runs.specs.Surroundings.{Surroundings}
use Rattle.sh_table.specs.Walks.{Shape, Called, Named, Compound, around, seen_form}
use Rattle.sh_table.specs.WordTexts.{text_in}

-- `Ok` exactly if no command breaks the profile, and otherwise the refusal of the one with the
-- least number; or memory ran out
abbrev pub Admits : p.Items → Result (Unit {0}) Refusal → Type 0
Admits t (Ok x) = first_refused t ≡ None
Admits t (Err (refusal.Profile r at)) = (q : Refused) × (first_refused t ≡ Some q) × (q.rule ≡ r) × (q.at ≡ at)
Admits t (Err Memory) = Unit {0}
Admits t (Err _) = ⊥

-- Clauses of private functions

-- of a command with this static name
abbrev pub static_rule : Surroundings → Bool → Text → List Static → Option Rule
static_rule x quoted t ts = or_rule (kind_rule x quoted (kind_of t) ts) (unless (not (is_append t)) rule.Append)

-- of a command with these texts, its name's first
unfoldable pub text_rule : Surroundings → Bool → List Static → Option Rule
text_rule x quoted [] = None
text_rule x quoted (None ∷ ts) = Some rule.ComputedName
text_rule x quoted (Some t ∷ ts) = static_rule x quoted t ts

-- the rule that a command breaks
unfoldable pub form_rule : Surroundings → Form → Option Rule
form_rule x (Simple ws) = words_rule x ws
form_rule x (Defines name) = function_rule (told_name (kind_of name))
form_rule x Other = None

-- the same, by what is kept of a command and of its words
unfoldable pub rule_of : Surroundings → Shape → List Static → Option Rule
rule_of x (Called quoted) ts = text_rule x quoted ts
rule_of x (Named t) ts = function_rule (told_name (kind_of t))
rule_of x Compound ts = None

unfoldable pub refused_site : Site → Option Refused
refused_site s = option_map (λ (r : Rule). record { number = s.number; at = s.at; rule = r }) (form_rule s.surroundings s.form)

-- the first one, or else another
unfoldable pub or_refused : Option Refused → Option Refused → Option Refused
or_refused (Some r) o = Some r
or_refused None o = o

-- the first refused one of a row
unfoldable pub first_of : List Site → Option Refused
first_of [] = None
first_of (s ∷ ss) = or_refused (refused_site s) (first_of ss)

-- what is reported of it
unfoldable pub refusal_of : Option Refused → Option Refusal
refusal_of o = option_map (λ (q : Refused). refusal.Profile q.rule q.at) o

-- the first refused one of commands with their rows
unfoldable pub told_from : List ℕ → List site.Site → List row.Row → Option Refused
told_from b [] rs = None
told_from b (s ∷ ss) [] = None
told_from b (s ∷ ss) (r ∷ rs) =
    or_refused (option_map (λ (y : Rule). record { number = s.number; at = s.at; rule = y }) (rule_of (around s.around) (seen_form b s.form) (map (text_in b) r.texts.items)))
    (told_from b ss rs)
