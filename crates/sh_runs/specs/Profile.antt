-- Which commands are refused before any analysis, and by which rule.
-- POSIX.1-2024, XCU 2.9.1 (simple commands), 2.9.5 (function definitions), 2.15 (special built-in
-- utilities), 3 (command).
use Rattle.std.specs.Prelude.{ℕ, ◌+◌, ◌==◌, nat_lt, nat_le, Bool, true, false, not, ◌&&◌, ◌||◌, if◌then◌else◌, List, [], ◌∷◌, length, drop, map, Option, Some, None, is_some, option_map}
use Rattle.std.specs.List.{list_all, filter_map}
use Rattle.sh_tree.specs.declared.known.Declaration.TheVariants as declaration
use Rattle.sh_tree.specs.declared.known.KnownName.{KnownName}
use Rattle.sh_tree.specs.declared.known.KnownName.TheVariants as known
use Rattle.sh_tree.specs.declared.refusal.Rule.{Rule}
use Rattle.sh_tree.specs.declared.refusal.Rule.TheVariants as rule
use Rattle.sh_tree.specs.standard.language.Bytes.{is_first, name_length}
use Rattle.sh_tree.specs.standard.program.Syntax as p
use Rattle.sh_tree.specs.standard.program.Syntax.{Text}
use Rattle.sh_tree.specs.standard.program.Words.{static_of, is_plainly, words_in, operands_in}
use Rattle.sh_runs.specs.declared.kind.Kind.{Kind}
use Rattle.sh_runs.specs.declared.kind.Kind.TheVariants as kind
use Rattle.sh_runs.specs.standard.Kinds.{kind_of}
use Rattle.sh_runs.specs.Surroundings.{Surroundings, Located, has_loop, outside, items_located}
use Rattle.sh_runs.specs.standard.runs.Numbers.{number_in}
use Rattle.sh_runs.specs.standard.runs.Operands.{ends_options, is_set_option, ends_in_o}
use Rattle.sh_runs.specs.standard.runs.Rows.{traps_nothing, commands_utility, is_count, is_reserved_elsewhere}

-- the static text of an operand, if it has one
abbrev pub Static : Type 0
Static = Option Text

-- Tests of operands

-- an option of `set` with an `o` before its last letter: shells differ in which words such options
-- take
unfoldable pub has_inner_o : Text → Bool
has_inner_o (c ∷ d ∷ cs) = c == 111 || has_inner_o (d ∷ cs)
has_inner_o _ = false

-- `-` or `+`, alone or with letters after it
abbrev pub is_signed : Text → Bool
is_signed t = is_first (λ c. c == 45 || c == 43) t

-- what may be the argument of `-o`: shells take an empty one, and one that looks like an option, as
-- none or as another option
abbrev pub is_argument : Text → Bool
is_argument t = not (length t == 0) && not (is_signed t)

-- `set`: the options are static, and none is `-` or `+` alone or has an `o` before others. What
-- `-o` takes is its argument. If no `--` precedes it, the first positional word is static too.
unfoldable pub sets_known : Bool → List Static → Bool
sets_known takes [] = true
sets_known takes (None ∷ xs) = false
sets_known true (Some t ∷ xs) = is_argument t && sets_known false xs
sets_known false (Some t ∷ xs) =
    if ends_options t then true
    else (if is_set_option t then not (has_inner_o (drop 1 t)) && sets_known (ends_in_o t) xs else not (is_signed t))

-- a name and `+=`, which other shells read as an assignment
abbrev pub is_append : Text → Bool
is_append t = not (name_length t == 0) && is_first (λ c. c == 43) (drop (name_length t) t) && is_first (λ c. c == 61) (drop (name_length t + 1) t)

-- Rules

-- the rule, unless the test holds
unfoldable pub unless : Bool → Rule → Option Rule
unless true r = None
unless false r = Some r

-- the first of two
unfoldable pub or_rule : Option Rule → Option Rule → Option Rule
or_rule None r = r
or_rule (Some q) r = Some q

-- no number, or one that is no greater
unfoldable pub is_at_most : ℕ → Option ℕ → Bool
is_at_most most None = true
is_at_most most (Some n) = nat_le n most

-- the loops that a jump leaves or turns, one without an operand, are no more than these
unfoldable pub are_enough : ℕ → List Static → Bool
are_enough loops (Some t ∷ xs) = is_at_most loops (number_in t)
are_enough loops xs = true

-- `break` and `continue`: a loop is round them, and they stay in their part of a pipeline
abbrev pub jumps_inside : Surroundings → List Static → Bool
jumps_inside x ts = has_loop x && (not x.beyond || are_enough x.loops ts)

-- the rule that a command with this name breaks, with these operands
unfoldable pub kind_rule : Surroundings → Bool → Kind → List Static → Option Rule
kind_rule x quoted (kind.Special known.Dot) ts = Some (rule.Refused known.Dot)
kind_rule x quoted (kind.Special known.Eval) ts = Some (rule.Refused known.Eval)
kind_rule x quoted (kind.Refused name) ts = unless (is_reserved_elsewhere name) (rule.Refused name)
kind_rule x quoted (kind.Special known.Export) ts = unless (not quoted) (rule.Quoted declaration.Export)
kind_rule x quoted (kind.Special known.Readonly) ts = unless (not quoted) (rule.Quoted declaration.Readonly)
kind_rule x quoted (kind.Special known.Trap) ts = unless (traps_nothing ts) rule.TrapAction
kind_rule x quoted kind.Command ts = unless (commands_utility ts) rule.CommandUse
kind_rule x quoted (kind.Special known.Unset) ts = unless (list_all is_some ts) rule.UnsetOperand
kind_rule x quoted (kind.Special known.Set) ts = unless (sets_known false ts) rule.SetOperand
kind_rule x quoted (kind.Special known.Break) ts = or_rule (unless (list_all is_count ts) rule.BreakOperand) (unless (jumps_inside x ts) rule.BreakOutside)
kind_rule x quoted (kind.Special known.Continue) ts = or_rule (unless (list_all is_count ts) rule.ContinueOperand) (unless (jumps_inside x ts) rule.ContinueOutside)
kind_rule x quoted (kind.Special known.Return) ts = unless x.function rule.ReturnOutside
kind_rule x quoted _ ts = None

-- of a command with this name
unfoldable pub named_rule : Surroundings → p.Word → Static → List Static → Option Rule
named_rule x w None ts = Some rule.ComputedName
named_rule x w (Some t) ts = or_rule (kind_rule x (not (is_plainly t w)) (kind_of t) ts) (unless (not (is_append t)) rule.Append)

unfoldable pub words_rule : Surroundings → p.Words → Option Rule
words_rule x p.no_words = None
words_rule x (p.more_words w ws) = named_rule x w (static_of w) (map static_of (words_in ws))

-- a special built-in utility's name and a refused one are none for a function
unfoldable pub told_name : Kind → Option KnownName
told_name (kind.Special name) = Some name
told_name (kind.Refused name) = Some name
told_name _ = None

unfoldable pub function_rule : Option KnownName → Option Rule
function_rule None = None
function_rule (Some name) = Some (rule.FunctionNamed name)

-- the first rule that a command breaks
unfoldable pub command_rule : Surroundings → p.Kind → Option Rule
command_rule x (p.Simple es) = words_rule x (operands_in es)
command_rule x (p.Define name body) = function_rule (told_name (kind_of name))
command_rule x _ = None

-- a command that breaks a rule, by its number and its offset
pub record Refused : Type 0 where
  pub number : ℕ
  pub at : ℕ
  pub rule : Rule

unfoldable pub refused_at : Located → Option Refused
refused_at l = at_command l.command
  where
    at_command : p.Command → Option Refused
    at_command (p.command number at kind rs) = option_map (λ (r : Rule). record { number = number; at = at; rule = r }) (command_rule l.surroundings kind)

-- the one with the least number
unfoldable pub least_refused : List Refused → Option Refused
least_refused [] = None
least_refused (r ∷ rs) = lesser (least_refused rs)
  where
    lesser : Option Refused → Option Refused
    lesser None = Some r
    lesser (Some q) = if nat_lt q.number r.number then Some q else Some r

-- of a program, the refused command with the least number and the rule that is reported of it
unfoldable pub first_refused : p.Items → Option Refused
first_refused t = least_refused (filter_map refused_at (items_located outside t))
