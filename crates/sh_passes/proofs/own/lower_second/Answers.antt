use Rattle.std.proofs.Common.{Some, length, subst}
use Rattle.sh_domain.specs.Facts.{facts}
use Rattle.sh_domain.specs.Order.{IsWithin}
use Rattle.sh_drafts.specs.Kept.{IsNamed, seen_of}
use Rattle.sh_drafts.specs.Numbers.{by_name}
use Rattle.sh_drafts.specs.Places.{claim_there}
use Rattle.sh_sweeps.proofs.SideLemmas.{second_free, second_named, second_stands}
use Rattle.sh_passes.proofs.own.lower_second.Goals as goal

pub lower_at-requires-clause-named : goal.lower_at-requires-clause-named
unfolding seen_of
lower_at-requires-clause-named c =
    let names = c.args.subject.now.names.now in
    subst (λ o. IsNamed (length names) (seen_of o)) c.in-Some.is (second_named c.args.sides.now (length names) c.requires.numbers)

pub lower_at-requires-clause-stands : goal.lower_at-requires-clause-stands
unfolding seen_of
lower_at-requires-clause-stands c = λ other keeps.
    let names = c.args.subject.now.names.now in
    subst (λ o. IsWithin (facts (claim_there other (Some c.args.sides.now.place))) (by_name names (seen_of o))) c.in-Some.is (second_stands c.args.sides.now names other (c.requires.stands other keeps))

pub lower_at-requires-clause-free : goal.lower_at-requires-clause-free
lower_at-requires-clause-free c = λ e. second_free c.args.sides.now (c.requires.quiet e) _ c.in-Some.is
