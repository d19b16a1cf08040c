use Rattle.std.proofs.Common.{◌≡◌, true, refl, sym, ◌∙◌}
use Rattle.sh_domain.specs.Certificates.{claim_of}
use Rattle.sh_domain.specs.Facts.{facts}
use Rattle.sh_domain.specs.Knowledge.{contains, knowledge_facts}
use Rattle.sh_domain.specs.Views.{returned, called, step, where_known}
use Rattle.sh_domain.proofs.knowledge.Knowledge.call.Goals as goal

pub returns-in-NotReached : goal.returns-in-NotReached
unfolding knowledge_facts step called where_known returned facts claim_of
returns-in-NotReached c = λ d r before h drops claim p.
    let has : contains c.args.names.now c.in-Known.assured.functions c.args.function.now ≡ true = sym c.has_name.ensures ∙ c.if-not-has_name.false in
    rw (c.in-Known.is, has, claim, c.in-NotReached.is) refl
