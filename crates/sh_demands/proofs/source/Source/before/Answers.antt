use Rattle.std.proofs.Common.{sym, ap, ◌∙◌}
use Rattle.sh_domain.specs.Certificates.{in_byte_order}
use Rattle.sh_domain.specs.Facts.{facts}
use Rattle.sh_gains.proofs.KnowingLemmas.{knowing_same}
use Rattle.sh_demands.proofs.WholeLemmas.{claim_before}
use Rattle.sh_demands.proofs.source.Source.before.Goals as goal

pub returns : goal.returns
returns c =
    let names = c.self.inside.blocks.names.now in
    let certificate = c.self.inside.certificate.now in
    rw (← c.self.view_is)
    (knowing_same names _ _
    (c.claimed.ensures names c.self.invariant.numbered
    ∙ ap facts (c.facts_before-facts.ensures (in_byte_order names) ∙ sym (claim_before names certificate c.self.inside.calls.now c.args.number))))
