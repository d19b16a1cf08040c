use Rattle.std.proofs.Common.{ℕ, ap, set, ◌∙◌}
use Rattle.std.specs.Global.{Vec}
use Rattle.sh_counts.proofs.FallLemmas.{lowered_sound}
use Rattle.sh_counts.proofs.falling.Falling.lower.Goals as goal

pub returns-in_ok-put-in-Some-clause-sound : goal.returns-in_ok-put-in-Some-clause-sound
returns-in_ok-put-in-Some-clause-sound c es follows sound =
    lowered_sound es c.args.equation c.args.self.now.counts.items c.put.new.self.counts.items c.in-Some.to follows sound c.in-Some.ensures.there c.in-Some.ensures.given
    (c.in_ok-put-in-Some.ensures ∙ ap (λ (w : Vec ℕ). set w.items c.args.equation.count c.in-Some.to) c.note.ensures)
