use Rattle.std.proofs.Common.{refl}
use Rattle.std.proofs.lemmas.Result.{IfOk-weaker}
use Rattle.sh_turns.proofs.CountLemmas.{over_all}
use Rattle.sh_turns.proofs.counts.solved.Goals as goal

pub returns : goal.returns
returns c =
    let s = c.args.subject.now in
    IfOk-weaker c.lowered.result _ _
    (λ counts over. over_all s c.args.certificate.now c.requires.ready.0 c.requires.ready.1 c.requires.free c.args.claimed.now c.args.unsure.now c.requires.claimed c.requires.unsure _ refl s.listed refl refl counts.items over)
    c.lowered.ensures
