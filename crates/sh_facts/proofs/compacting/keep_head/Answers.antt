use Rattle.std.proofs.Common.{ap}
use Rattle.std.specs.Option.{option_copied}
use Rattle.sh_facts.proofs.CompactingLemmas.{head_kept, no_head_kept}
use Rattle.sh_facts.proofs.compacting.keep_head.Goals as goal

pub returns-in_ok-put_last-in-Some-clause-kept : goal.returns-in_ok-put_last-in-Some-clause-kept
returns-in_ok-put_last-in-Some-clause-kept c =
    head_kept c.args.from.now c.args.rows.now c.keep_facts.new.rows c.args.heads.now.entries c.put_last.new.heads.entries c.args.number c.in-Some.facts.now c.in_ok-kept-in-Some.kept (option_copied c.args.head) (ap option_copied c.in-Some.is)
    (c.in_ok-put_last-in-Some.ensures.put c.requires.last) c.in_ok-kept-in-Some.ensures

pub returns-in-None-clause-kept : goal.returns-in-None-clause-kept
returns-in-None-clause-kept c =
    no_head_kept c.args.from.now c.args.rows.now c.args.heads.now.entries c.args.number (option_copied c.args.head) (ap option_copied c.in-None.is)
