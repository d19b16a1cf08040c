use Rattle.std.proofs.Common.{sym, ◌∙◌, ap}
use Rattle.sh_domain.specs.Certificates.{claim_of, in_byte_order}
use Rattle.sh_domain.specs.Facts.{facts}
use Rattle.sh_domain.specs.Knowledge.{knowledge_facts}
use Rattle.sh_domain.proofs.knowledge.Knowledge.claim.Goals as goal

pub returns-in-NotReached : goal.returns-in-NotReached
unfolding knowledge_facts facts claim_of
returns-in-NotReached c names h = sym (ap (λ f. facts (claim_of (in_byte_order names) c.args.rows.now f)) c.in-NotReached.is)

pub returns-in-Known : goal.returns-in-Known
returns-in-Known c names h = c.set_rows.ensures names h ∙ sym (ap (λ f. facts (claim_of (in_byte_order names) c.args.rows.now f)) c.in-Known.is)
