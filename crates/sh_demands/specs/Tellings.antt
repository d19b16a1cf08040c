-- What a walk judges is what the demands say: if each name that may be set has a number, no name is
-- missed.
-- POSIX.1-2024, XCU 2.6.2 (parameter expansion), 2.6.4 (arithmetic expansion).
use Rattle.std.specs.Prelude.{◌≡◌, true, false, List, ◌++◌, fold}
use Rattle.std.specs.List.{list_all}
use Rattle.sh_tree.specs.declared.place.Place.{Place}
use Rattle.sh_tree.specs.standard.program.Syntax as p
use Rattle.sh_runs.specs.standard.runs.Environment.{is_one_of}
use Rattle.sh_domain.specs.Demands.{kind_unmet}
use Rattle.sh_domain.specs.Entries.{Entered, script_entered}
use Rattle.sh_domain.specs.Facts.{Facts}
use Rattle.sh_domain.specs.Gains.{Gains, redirects_gains, with_gains, through}
use Rattle.sh_domain.specs.Needs.{word_unmet, redirects_unmet}
use Rattle.sh_gains.specs.Knowing.{Knowing, gained}
use Rattle.sh_demands.specs.Judged.{judged, word_judged}
use Rattle.sh_demands.specs.Own.{own_places}
use Rattle.sh_demands.specs.Told.{Teller, items_told}
use Rattle.sh_demands.specs.Within.{word_within, redirects_within, kind_within}

-- these facts, of the same names
abbrev pub known_as : Knowing → Facts → Knowing
known_as k f = record { names = k.names; facts = f }

-- one command more, as it is entered
abbrev pub entered_told : Teller → List Place → Entered → List Place
entered_told f ps e = f e.around.shares ps e.command

-- What is gained of numbered names is all that is gained. A word of such names has the places that
-- the demands name, and leaves the facts after it.
pub record WordsTell : Type 0 where
  pub gains : (g : Gains) (k : Knowing) → list_all (is_one_of k.names) g.names ≡ true → gained g k ≡ known_as k (with_gains g k.facts)
  pub word : (w : p.Word) (k : Knowing) (ps : List Place) → word_within (is_one_of k.names) w ≡ true
      → word_judged (judged k ps) w ≡ judged (known_as k (through w k.facts)) (ps ++ word_unmet k.facts w)

-- A command of such names has the places that the demands name in its redirections and in its
-- words.
pub record OwnTells : Type 0 where
  pub own : (kind : p.Kind) (rs : p.Redirects) (k : Knowing) (ps : List Place) → redirects_within (is_one_of k.names) rs ≡ true → kind_within (is_one_of k.names) kind ≡ true
      → own_places k ps kind rs ≡ ps ++ (redirects_unmet k.facts rs ++ kind_unmet (with_gains (redirects_gains rs) k.facts) kind)

-- The walk reports of each command that is entered, in the order of the demands.
pub record EachIsTold : Type 0 where
  pub each : (f : Teller) (t : p.Items) (ps : List Place) → items_told f false ps t ≡ fold (entered_told f) ps (script_entered t)
