use Rattle.std.proofs.Common.{sym}
use Rattle.sh_domain.specs.Reading.{loops_of}
use Rattle.sh_drafts.proofs.BegunLemmas.{begun_first, begun_functions, begun_last}
use Rattle.sh_drafts.proofs.begun.begun.Goals as goal

pub state_heads-requires-clause-working : goal.state_heads-requires-clause-working
state_heads-requires-clause-working c =
    let s = c.args.subject.now in
    (loops_of s.commands.now, c.args.functions, c.in_ok-certificate.ensures.working s.names.now (sym c.count-count.ensures.count))

pub state_heads-requires-clause-begun : goal.state_heads-requires-clause-begun
state_heads-requires-clause-begun c =
    let s = c.args.subject.now in
    let first = c.in_ok-certificate.certificate in
    begun_first s.compact.now first c.in_ok-certificate.ensures.claims c.in_ok-certificate.ensures.drops (c.requires.has first (c.in_ok-certificate.ensures.working s.names.now (sym c.count-count.ensures.count)))

pub state_functions-requires-clause-working : goal.state_functions-requires-clause-working
state_functions-requires-clause-working c =
    let s = c.args.subject.now in
    (loops_of s.commands.now, c.args.functions, c.in_ok-state_heads.ensures.working _ _ (c.in_ok-certificate.ensures.working s.names.now (sym c.count-count.ensures.count)))

pub state_functions-requires-clause-begun : goal.state_functions-requires-clause-begun
state_functions-requires-clause-begun c =
    begun_functions c.args.subject.now.compact.now c.state_heads.new.certificate c.args.commands c.requires.counted c.in_ok-state_heads.ensures.begun

pub returns-clause-begun : goal.returns-clause-begun
returns-clause-begun c = begun_last c.args.subject.now.compact.now c.state_functions.new.certificate c.args.functions c.requires.functions c.in_ok-state_functions.ensures.begun

pub returns-clause-working : goal.returns-clause-working
returns-clause-working c =
    let s = c.args.subject.now in
    c.in_ok-state_functions.ensures.working _ _ (c.in_ok-state_heads.ensures.working _ _ (c.in_ok-certificate.ensures.working s.names.now (sym c.count-count.ensures.count)))
