-- What rules, demands and quoting are good for: no run expands an unset parameter without a
-- default, or splits a value.
-- POSIX.1-2024, XCU 2.6.2 (parameter expansion), 2.6.5 (field splitting), 2.6.6 (pathname
-- expansion).
use Rattle.std.specs.Prelude.{◌≡◌, ℕ, Bool, true, false, ◌||◌, List, [], ◌∷◌, Some, unwrap_or, option_map}
use Rattle.std.specs.List.{list_all}
use Rattle.sh_tree.specs.declared.tree.Script.{Script}
use Rattle.sh_tree.specs.standard.language.Bytes.{is_name}
use Rattle.sh_tree.specs.standard.language.Reading.{Reads}
use Rattle.sh_tree.specs.standard.program.Syntax.{Items}
use Rattle.sh_tree.specs.standard.program.Trees.{script_of}
use Rattle.sh_runs.specs.Admitted.{is_admitted}
use Rattle.sh_runs.specs.standard.runs.Environment.{Environment, Frame}
use Rattle.sh_runs.specs.standard.runs.Worlds.{World, Move, step, run, has_unset_event, has_split_event, start_world, IsStart}
use Rattle.sh_domain.specs.Demands.{demands}
use Rattle.sh_domain.specs.Facts.{Declared, start_facts}
use Rattle.sh_domain.specs.Faults.{faults}
use Rattle.sh_domain.specs.Inclusions.{is_formed}
use Rattle.sh_domain.specs.Views.{Certificate}
use Rattle.sh_quote.specs.Places.{unquoted}

-- one of these moves has a Split event
unfoldable pub splits : List Move → World → Bool
splits [] w = false
splits (m ∷ ms) w = has_split_event w m || unwrap_or (option_map (splits ms) (step w m)) false

-- Let a program be admitted and formed as those that are read, and a certificate break no rule and
-- leave no demand unmet. Then in every run from a start that the policy allows, a step before which
-- nothing was split expands no unset parameter without a default.
abbrev pub RulesSuffice : Type 0
RulesSuffice =
    (d : Declared) (c : Certificate) (t : Items) → list_all is_name d.names ≡ true → is_admitted t ≡ true → is_formed t ≡ true
    → faults (start_facts d) c t ≡ [] → demands (start_facts d) c t ≡ []
    → (e : Environment) (f : Frame) → IsStart d.names d.args e f
    → (moves : List Move) (w : World) → run moves (start_world e f t) ≡ Some w → splits moves (start_world e f t) ≡ false
    → (m : Move) → has_unset_event w m ≡ false

-- If moreover the rules of quoting report no place, no step of any run has an event. It expands no
-- unset parameter without a default, and gives no value of an expansion to splitting or pathname
-- expansion that could change it.
abbrev pub HaveNoEvents : Type 0
HaveNoEvents =
    (d : Declared) (c : Certificate) (t : Items) → list_all is_name d.names ≡ true → is_admitted t ≡ true → is_formed t ≡ true
    → faults (start_facts d) c t ≡ [] → demands (start_facts d) c t ≡ [] → unquoted t ≡ []
    → (e : Environment) (f : Frame) → IsStart d.names d.args e f
    → (moves : List Move) (w : World) → run moves (start_world e f t) ≡ Some w
    → (m : Move) → (has_unset_event w m ≡ false) × (has_split_event w m ≡ false)

-- Both of every text that is read as a script: nothing is required of its program but that it is
-- admitted.

abbrev pub ScriptsExpandNothingUnset : Type 0
ScriptsExpandNothingUnset =
    (d : Declared) (c : Certificate) (b : List ℕ) (t : Script) → list_all is_name d.names ≡ true → Reads b t → is_admitted (script_of b t) ≡ true
    → faults (start_facts d) c (script_of b t) ≡ [] → demands (start_facts d) c (script_of b t) ≡ []
    → (e : Environment) (f : Frame) → IsStart d.names d.args e f
    → (moves : List Move) (w : World) → run moves (start_world e f (script_of b t)) ≡ Some w → splits moves (start_world e f (script_of b t)) ≡ false
    → (m : Move) → has_unset_event w m ≡ false

abbrev pub ScriptsHaveNoEvents : Type 0
ScriptsHaveNoEvents =
    (d : Declared) (c : Certificate) (b : List ℕ) (t : Script) → list_all is_name d.names ≡ true → Reads b t → is_admitted (script_of b t) ≡ true
    → faults (start_facts d) c (script_of b t) ≡ [] → demands (start_facts d) c (script_of b t) ≡ [] → unquoted (script_of b t) ≡ []
    → (e : Environment) (f : Frame) → IsStart d.names d.args e f
    → (moves : List Move) (w : World) → run moves (start_world e f (script_of b t)) ≡ Some w
    → (m : Move) → (has_unset_event w m ≡ false) × (has_split_event w m ≡ false)
