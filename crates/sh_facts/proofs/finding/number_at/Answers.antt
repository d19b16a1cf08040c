use Rattle.std.proofs.Common.{◌≡◌, ap, ◌∙◌, Some, rules}
use Rattle.sh_facts.proofs.FindingLemmas.{own_number}
use Rattle.sh_facts.proofs.finding.number_at.Goals as goal

pub returns-then-eq : goal.returns-then-eq
returns-then-eq c =
    let same : c.name.result.now ≡ c.args.name.now = search rules in
    own_number c.args.names.now _ c.args.name.now c.requires (c.name.ensures ∙ ap Some same)
