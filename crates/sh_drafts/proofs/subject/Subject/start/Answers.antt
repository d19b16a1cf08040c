use Rattle.sh_drafts.proofs.ReadyLemmas.{numbered}
use Rattle.sh_drafts.proofs.StartLemmas.{claims_start, declares_start}
use Rattle.sh_drafts.proofs.subject.Subject.start.Goals as goal

pub returns-then-self : goal.returns-then-self
returns-then-self c =
    let s = c.args.self.now in
    claims_start s c.claimed.result c.if-self.true (c.claimed.ensures s.names.now (numbered s.script.now s.policy.now s.tree.now s.names.now c.requires.admitted))

pub returns : goal.returns
returns c = declares_start c.args.self.now c.start.result c.if-self.false c.start.ensures
