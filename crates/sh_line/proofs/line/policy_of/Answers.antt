use Rattle.std.proofs.Common.{◌∙◌, ℕ, List, Bor, ap, map, subst, sym}
use Rattle.clap.specs.Words.{found_of, rows_of}
use Rattle.sh_domain.specs.Facts.{Declared}
use Rattle.sh_domain.specs.Policy.{first_bad}
use Rattle.sh_line.specs.Line.{IsNumberOf}
use Rattle.sh_line.proofs.line.policy_of.Goals as goal

pub returns-clause-policy : goal.returns-clause-policy
returns-clause-policy c =
    let texts = ap (map (λ (s : Bor (List ℕ)). s.now)) c.deref.ensures.value ∙ c.in_ok-names.ensures in
    let made = c.in_ok-policy.ensures in
    let number = ap (λ (d : Declared). d.args) made.1 in
    record {
      args = subst (IsNumberOf c.args.action (rows_of (found_of c.args.sub.now))) (sym number) c.args_of-args.ensures;
      names = ap (λ (d : Declared). d.names) made.1 ∙ texts;
      declared = sym (ap first_bad texts) ∙ made.0;
    }
