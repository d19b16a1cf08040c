-- Commands over which what is known is carried: utilities that leave what is known after their
-- words, and assignments alone.
-- POSIX.1-2024, XCU 2.9.1 (simple commands).
use Rattle.std.specs.Prelude.{◌≡◌, ℕ, Bool, List, [], ◌∷◌, true, false}
use Rattle.sh_tree.specs.declared.tree.AndOr.{out-AndOr}
use Rattle.sh_tree.specs.declared.tree.Command.{Command, out-Command}
use Rattle.sh_tree.specs.declared.tree.Element.{Element, Assignment'}
use Rattle.sh_tree.specs.declared.tree.Element.TheVariants as element
use Rattle.sh_tree.specs.declared.tree.Item.{Item, out-Item}
use Rattle.sh_tree.specs.declared.tree.Part.TheVariants as part
use Rattle.sh_tree.specs.declared.tree.Pipe.{out-Pipe}
use Rattle.sh_tree.specs.declared.tree.Span.{Span}
use Rattle.sh_tree.specs.declared.tree.Word.{Word}
use Rattle.sh_tree.specs.Lists.{elements_from}
use Rattle.sh_tree.specs.standard.Words.{elements_of}
use Rattle.sh_tree.specs.standard.program.Syntax as p
use Rattle.sh_tree.specs.standard.program.Trees as trees
use Rattle.sh_tree.specs.standard.program.Words.{redirects_in}
use Rattle.sh_runs.specs.declared.kind.Kind.TheVariants as kind
use Rattle.sh_domain.specs.declared.knowledge.Knowledge.{Knowledge}
use Rattle.sh_domain.specs.declared.rule.FlowRule.{FlowRule}
use Rattle.sh_domain.specs.declared.rule.FlowRule.TheVariants.{F2}
use Rattle.sh_domain.specs.Table.{Nameless, Utility, is_redirected, manner}
use Rattle.sh_domain.specs.Admitted.{functions_in}
use Rattle.sh_domain.specs.Entries.{Around}
use Rattle.sh_domain.specs.Knowledge.{knowledge_facts}
use Rattle.sh_domain.specs.Views.{AfterNonzero, AfterZero, at}
use Rattle.sh_rules.specs.declared.course.Course.{Course}
use Rattle.sh_rules.specs.Behind.{both}
use Rattle.sh_drafts.specs.declared.subject.Subject.{Subject}
use Rattle.sh_sweeps.specs.Sweeps.{AreItems, IsCommand, IsPassed, Knows}

-- the item is this command alone
pub record IsAlone (i : Item) (c : Command) : Type 0 where
  pub foreground : (out-Item i).background ≡ false
  pub part : (out-Pipe (out-AndOr (out-Item i).list).first).parts ≡ c ∷ []
  pub links : (out-AndOr (out-Item i).list).rest ≡ []

-- a simple command of these elements
pub record IsSimple (c : Command) (es : List Element) : Type 0 where
  pub elements : elements_of (out-Command c).kind ≡ es
  pub simple : (b : List ℕ) → trees.kind_of b (out-Command c).kind ≡ p.Simple (elements_from b es)

-- they begin with a name of these plain bytes
pub record IsNamed (es : List Element) (name : Span) : Type 0 where
  pub word : Word
  pub rest : List Element
  pub first : es ≡ element.Word word ∷ rest
  pub plain : word.parts ≡ part.Plain name ∷ []

unfoldable pub is_assignment : Element → Bool
is_assignment (Assignment' name value shape row) = true
is_assignment _ = false

-- this is known after each status
abbrev pub joined : Knowledge → Course
joined k = record { by = F2; behind = record { zero = k; nonzero = k } }

module _ (s : Subject) where
  -- a utility without a meaning of its own
  pub record IsPlain (c : Command) : Type 0 where
    pub simple : trees.kind_of s.script.now (out-Command c).kind ≡ p.Simple (elements_from s.script.now (elements_of (out-Command c).kind))
    pub words : List p.Word
    pub named : manner (functions_in s.script.now s.tree.now) (elements_from s.script.now (elements_of (out-Command c).kind)) ≡ Utility kind.Utility words

  -- assignments alone
  pub record IsAssigning (c : Command) : Type 0 where
    pub simple : trees.kind_of s.script.now (out-Command c).kind ≡ p.Simple (elements_from s.script.now (elements_of (out-Command c).kind))
    pub named : manner (functions_in s.script.now s.tree.now) (elements_from s.script.now (elements_of (out-Command c).kind)) ≡ Nameless
    pub redirected : is_redirected (redirects_in (elements_from s.script.now (elements_of (out-Command c).kind))) ≡ false

  -- what is known before the command is carried over it
  abbrev pub IsCarried : Command → Knowledge → Knowledge → Type 0
  IsCarried c old new =
      (by : FlowRule) (y : Around) → IsCommand s by y (knowledge_facts s.names.now old) c
      → Knows s (at (AfterZero (out-Command c).number)) (knowledge_facts s.names.now new) × Knows s (at (AfterNonzero (out-Command c).number)) (knowledge_facts s.names.now new)

  abbrev pub IsItemCarried : Item → Knowledge → Knowledge → Type 0
  IsItemCarried i old new =
      (by : FlowRule) (y : Around) (others : List Item) → AreItems s by y (both (knowledge_facts s.names.now old)) (i ∷ others) → IsPassed s (joined old) (joined new) i
