-- Sets of three names, against which what they are known to be is held.
-- The standard has no such thing: the variables that are set and the functions that are defined
-- (XCU 2.5, 2.9.5), by their numbers.
use Rattle.std.specs.Prelude.{◌≡◌, true, false, List, [], ◌∷◌, Some, codes}
use Rattle.sh_rows.specs.Numbers.{has_bit}
use Rattle.sh_tree.specs.standard.program.Syntax.{Text}
use Rattle.sh_domain.specs.declared.knowledge.Knowledge.{Knowledge}
use Rattle.sh_domain.specs.declared.knowledge.Knowledge.TheVariants as kind
use Rattle.sh_domain.specs.declared.number_set.NumberSet.{NumberSet}
use Rattle.sh_domain.specs.Facts.{Known, Variable, Function, Parameters, claims}
use Rattle.sh_domain.specs.Knowledge.{among, at_number, contains, knowledge_facts}

abbrev pub three_names : List Text
three_names = codes "a" ∷ codes "b" ∷ codes "c" ∷ []

-- the numbers 0 and 2
abbrev pub outer : NumberSet
outer = record { words = 5 ∷ [] }

-- the number 1
abbrev pub middle : NumberSet
middle = record { words = 2 ∷ [] }

abbrev pub sample : Knowledge
sample = kind.Known (record { vars = outer; functions = middle; args = 2 })

pub record KnowledgeAsExpected : Type 0 where
  pub first : contains three_names outer (codes "a") ≡ true
  pub second : contains three_names outer (codes "b") ≡ false
  pub third : contains three_names outer (codes "c") ≡ true
  -- what has no number is in no set
  pub unnumbered : contains three_names outer (codes "d") ≡ false
  -- the second word has the numbers from 64 on
  pub far : at_number (λ k. has_bit k (0 ∷ 2 ∷ [])) (Some 65) ≡ true
  pub variable : claims (knowledge_facts three_names sample) (Variable (codes "c")) ≡ true
  pub function : claims (knowledge_facts three_names sample) (Function (codes "c")) ≡ false
  pub parameters : claims (knowledge_facts three_names sample) (Parameters 2) ≡ true
  pub no_more : claims (knowledge_facts three_names sample) (Parameters 3) ≡ false
  -- where no run comes, anything may be claimed
  pub nowhere : claims (knowledge_facts three_names kind.NotReached) (Function (codes "d")) ≡ true
  pub kept : claims (among three_names (Known (λ t. true) (λ t. false) 0)) (Variable (codes "b")) ≡ true
  pub others : claims (among three_names (Known (λ t. true) (λ t. false) 0)) (Variable (codes "d")) ≡ false
