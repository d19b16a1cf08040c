-- What a walk knows at a place: facts about the names that it has room for.
-- POSIX.1-2024, XCU 2.5 (parameters and variables).
use Rattle.std.specs.Prelude.{Bool, true, false, List, filter}
use Rattle.sh_tree.specs.declared.tree.Action.{Action}
use Rattle.sh_tree.specs.declared.tree.Action.TheVariants as action
use Rattle.sh_tree.specs.declared.tree.Binary.{Binary}
use Rattle.sh_tree.specs.declared.tree.Binary.TheVariants as binary
use Rattle.sh_tree.specs.standard.program.Syntax.{Text, Parameter}
use Rattle.sh_runs.specs.standard.runs.Environment.{is_one_of}
use Rattle.sh_domain.specs.Facts.{Facts}
use Rattle.sh_domain.specs.Knowledge.{knowledge_facts}
use Rattle.sh_domain.specs.declared.knowledge.Knowledge.{Knowledge}
use Rattle.sh_gains.specs.declared.known.Known.{Known}
use Rattle.sh_domain.specs.Gains.{Gains, no_gains, sure, with_gains}

pub record Knowing : Type 0 where
  pub names : List Text
  pub facts : Facts

-- what values of the code mean
abbrev pub known_of : List Text → Knowledge → Knowing
known_of ns k = record { names = ns; facts = knowledge_facts ns k }

abbrev pub knowing : Known → Knowing
knowing k = known_of k.names.now k.knowledge

-- those of these names
abbrev pub among : List Text → Gains → Gains
among names g = record { names = filter (is_one_of names) g.names; args = g.args }

-- with what is gained, of the names that there is room for
unfoldable pub gained : Gains → Knowing → Knowing
gained g k = record { names = k.names; facts = with_gains (among k.names g) k.facts }

-- what an expansion with this operator leaves set
unfoldable pub action_gains : Parameter → Action → Gains
action_gains p action.Assign = sure p
action_gains p action.Fault = sure p
action_gains p _ = no_gains

-- where the word of `+` is expanded its parameter is set
unfoldable pub inner_gains : Parameter → Action → Gains
inner_gains parameter action.Alternative = sure parameter
inner_gains parameter _ = no_gains

-- `&&` and `||` may skip the operand after them
unfoldable pub may_stop : Binary → Bool
may_stop binary.And = true
may_stop binary.Or = true
may_stop _ = false
