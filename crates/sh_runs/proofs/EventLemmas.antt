-- The law of events, by runs that are written out.
use Rattle.std.proofs.Common.{◌≡◌, ℕ, Bool, true, false, List, [], ◌∷◌, ◌++◌, ◌||◌, codes, is_some, bytes_eq, unwrap_or, refl, subst, zero-le}
use Rattle.std.proofs.lemmas.Slice.Eq.{bytes_eq-Decides}
use Rattle.sh_tree.specs.declared.tree.AndOr.{roll-AndOr}
use Rattle.sh_tree.specs.declared.tree.Command.{roll-Command}
use Rattle.sh_tree.specs.declared.tree.Element.TheBlock.{shape-the_row-Part-0, hidden-the_row-Part-0, shape-the_row-Element-3, hidden-the_row-Element-3, shape-the_row-AndOr-rest-2-8, hidden-the_row-AndOr-rest-2-8, shape-the_row-Redirect-9, hidden-the_row-Redirect-9, shape-the_row-Command-10, hidden-the_row-Command-10, shape-the_row-Item-11, hidden-the_row-Item-11}
use Rattle.sh_tree.specs.declared.tree.Item.{roll-Item}
use Rattle.sh_tree.specs.declared.tree.Pipe.{roll-Pipe}
use Rattle.sh_tree.specs.declared.tree.Script.{Script, roll-Script}
use Rattle.sh_tree.specs.examples.Language.{double_text, double_script, bare_text, bare_script, unset_first_text, unset_first_script, unset_last_text, unset_last_script}
use Rattle.sh_tree.specs.standard.program.Syntax.{Text}
use Rattle.sh_tree.specs.standard.program.Trees.{parameter_of, part_of, script_of}
use Rattle.sh_runs.specs.examples.Events.{EventsExist}
use Rattle.sh_runs.specs.examples.Runs.{bare_start, start_with, quiet, by, steps, shared}
use Rattle.sh_runs.specs.standard.runs.Environment.{Environment, is_one_of}
use Rattle.sh_runs.specs.standard.runs.Worlds.{World, Move, run, start_world, start_names, IsStart}
use Rattle.sh_runs.proofs.ExampleLemmas.{computes}

-- the start
abbrev begun : Environment → List ℕ → Script → World
begun e b t = start_world e [] (script_of b t)

-- the world to which a run comes
abbrev last : List Move → World → World
last moves w = unwrap_or (run moves w) w

-- Starts that are allowed

-- P holds of each of the texts
unfoldable EachText : (Text → Type 0) → List Text → Type 0
EachText P [] = Unit {0}
EachText P (n ∷ names) = P n × EachText P names

-- and so of one that is equal to one of them
one_of : (P : Text → Type 0) (names : List Text) → EachText P names → (t : Text) → is_one_of names t ≡ true → P t
unfolding EachText
one_of P [] h t e = cc
one_of P (n ∷ names) h t e = go (bytes_eq n t) refl e (one_of P names h.1 t)
  where
    go : (b : Bool) → bytes_eq n t ≡ b → b || is_one_of names t ≡ true → (is_one_of names t ≡ true → P t) → P t
    go true d e ih = subst P ((bytes_eq-Decides n t).0 d) h.0
    go false d e ih = ih e

bare_allowed : IsStart [] 0 bare_start []
unfolding computes EachText
bare_allowed = record {
  always = one_of (λ t. is_some (bare_start.variables t) ≡ true) start_names (refl, (refl, (refl, tt)));
  declared = λ t h. cc;
  ifs = refl;
  functions = λ t. refl;
  parameters = zero-le;
}

with_allowed : (v : Text) → IsStart (codes "x" ∷ []) 0 (start_with v) []
unfolding computes EachText
with_allowed v = record {
  always = one_of (λ t. is_some ((start_with v).variables t) ≡ true) start_names (refl, (refl, (refl, tt)));
  declared = one_of (λ t. is_some ((start_with v).variables t) ≡ true) (codes "x" ∷ []) (refl, tt);
  ifs = refl;
  functions = λ t. refl;
  parameters = zero-le;
}

-- Runs

-- the list, the pipeline, the command, its name
abbrev to_operand : List Move
to_operand = steps 0 4

-- the parts share; `unset x` goes first, up to its end, and then the name of the other
abbrev on_the_left : List Move
on_the_left = shared ++ steps 1 5 ++ steps 2 2

abbrev on_the_right : List Move
on_the_right = shared ++ steps 2 5 ++ steps 1 2

pub events_exist : EventsExist
unfolding computes parameter_of part_of roll-Script roll-Item roll-AndOr roll-Pipe roll-Command denote.Hole.Carrier.roll denote.Hole.Carrier.hidden shape-the_row-Part-0 hidden-the_row-Part-0 shape-the_row-Element-3 hidden-the_row-Element-3 shape-the_row-AndOr-rest-2-8 hidden-the_row-AndOr-rest-2-8 shape-the_row-Redirect-9 hidden-the_row-Redirect-9 shape-the_row-Command-10 hidden-the_row-Command-10 shape-the_row-Item-11 hidden-the_row-Item-11
events_exist = record {
  not_set = (bare_start, [], to_operand, last to_operand (begun bare_start double_text double_script), by 0 quiet, bare_allowed, refl, refl);
  removed_on_the_left =
      (start_with [], [], on_the_left, last on_the_left (begun (start_with []) unset_first_text unset_first_script), by 2 quiet, with_allowed [], refl, refl);
  removed_on_the_right =
      (start_with [], [], on_the_right, last on_the_right (begun (start_with []) unset_last_text unset_last_script), by 1 quiet, with_allowed [], refl, refl);
  is_split =
      (start_with (codes "a b"), [], to_operand, last to_operand (begun (start_with (codes "a b")) bare_text bare_script), by 0 quiet, with_allowed (codes "a b"), refl, refl);
}
