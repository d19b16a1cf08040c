-- What the flow rules ask over views is what they ask over facts.
use Rattle.sh_rules.specs.Asking.{Asking}
use Rattle.sh_rules.specs.Asked.{AskedOfFacts}
use Rattle.sh_rules.proofs.BoundLemmas.{kind_same, redirects_same}
use Rattle.sh_rules.proofs.SimpleLemmas.{simple_same}
use Rattle.sh_rules.proofs.CommandLemmas.{command_same}
use Rattle.sh_rules.proofs.ScriptLemmas.{script_told}

pub asked_of_facts : {K : Type 0} (a : Asking K) → AskedOfFacts K a
asked_of_facts a = record {
  compound = λ x d g functions y n s k kept h. kind_same a x h d g functions y n s k kept;
  redirects = λ x d g n rs kept h. redirects_same a x h d g n rs kept;
  simple = λ x d g functions y n s es kept h. simple_same a x h d g functions y n s es kept;
  command = λ x d g functions e kept h. command_same a x h d g functions e kept;
  script = λ x d g t kept h. script_told a x h d g t kept;
}
