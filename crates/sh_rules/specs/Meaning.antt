-- What the walk over facts means: each command is met as it is entered, with what is known of the
-- numbered names where that is seen.
-- The standard has no such thing: what several views claim together, as one fact.
use Rattle.std.specs.Prelude.{◌≡◌, List, [], ◌∷◌, ◌++◌, map}
use Rattle.sh_tree.specs.standard.program.Syntax as p
use Rattle.sh_tree.specs.standard.program.Syntax.{Text}
use Rattle.sh_domain.specs.Entries.{Entered, script_entered}
use Rattle.sh_domain.specs.Facts.{Facts}
use Rattle.sh_domain.specs.Knowledge.{AreNumbered, among}
use Rattle.sh_domain.specs.Order.{seen_facts}
use Rattle.sh_domain.specs.Views.{Certificate, Seen}
use Rattle.sh_rules.specs.Settings.{Setting, certificate}
use Rattle.sh_rules.specs.Walked.{Met, script_walked}

-- what a certificate sees there, of the names that are numbered
abbrev pub sees : List Text → Facts → Certificate → Seen → Facts
sees names start c s = among names (seen_facts start c s)

-- what is known where this is seen, by the certificate on which the rules are tested
unfoldable pub knows : Setting → Facts → Seen → Facts
knows x start s = sees x.names start (certificate x) s

-- a command as it is entered, if this is known
abbrev pub met_at : Entered → Facts → Met
met_at e k = record { command = e.command; rule = e.rule; around = e.around; known = k }

-- with what is known there
abbrev pub met_of : Setting → Facts → Entered → Met
met_of x start e = met_at e (knows x start e.seen)

abbrev pub with_met : List Met → Met → List Met
with_met ms m = ms ++ m ∷ []

-- A walk from what is known at the start meets all commands as they are entered, in their order.
abbrev pub WalkEnters : Type 0
WalkEnters =
    (x : Setting) (start : Facts) (t : p.Items) → AreNumbered x.names
    → script_walked x with_met (among x.names start) [] t ≡ map (met_of x start) (script_entered t)
