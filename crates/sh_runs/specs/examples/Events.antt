-- The law of events: runs of the scripts that texts are have the events that they are meant to
-- have.
-- POSIX.1-2024, XCU 2.5.3 (variables), 2.6.5 (field splitting), 2.9.2 (pipelines), 2.15 (unset).
use Rattle.std.specs.Prelude.{◌≡◌, ℕ, Bool, true, List, [], ◌∷◌, codes, Some}
use Rattle.sh_tree.specs.declared.tree.Script.{Script}
use Rattle.sh_tree.specs.examples.Language.{double_text, double_script, bare_text, bare_script, unset_first_text, unset_first_script, unset_last_text, unset_last_script}
use Rattle.sh_tree.specs.standard.program.Syntax.{Text}
use Rattle.sh_tree.specs.standard.program.Trees.{script_of}
use Rattle.sh_runs.specs.standard.runs.Environment.{Environment, Frame}
use Rattle.sh_runs.specs.standard.runs.Worlds.{World, Move, run, has_unset_event, has_split_event, start_world, IsStart}

-- from a start where these names are declared, some run of the script comes to a step with the
-- event
abbrev pub HasEvent : (World → Move → Bool) → List Text → List ℕ → Script → Type 0
HasEvent has_event names b t =
    (e : Environment) × (f : Frame) × (moves : List Move) × (w : World) × (m : Move)
    × IsStart names 0 e f × (run moves (start_world e f (script_of b t)) ≡ Some w) × (has_event w m ≡ true)

abbrev pub HasUnsetEvent : List Text → List ℕ → Script → Type 0
HasUnsetEvent names b t = HasEvent has_unset_event names b t

abbrev pub HasSplitEvent : List Text → List ℕ → Script → Type 0
HasSplitEvent names b t = HasEvent has_split_event names b t

abbrev x_alone : List Text
x_alone = codes "x" ∷ []

pub record EventsExist : Type 0 where
  -- `echo "$x"`, with nothing declared
  pub not_set : HasUnsetEvent [] double_text double_script
  -- `unset x | echo "$x"` and `echo "$x" | unset x`, with x declared: the parts share the
  -- environment, and the one that removes x goes first
  pub removed_on_the_left : HasUnsetEvent x_alone unset_first_text unset_first_script
  pub removed_on_the_right : HasUnsetEvent x_alone unset_last_text unset_last_script
  -- `echo $x`, with x declared
  pub is_split : HasSplitEvent x_alone bare_text bare_script
