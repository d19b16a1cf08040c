use Rattle.std.proofs.Common.{Some, ◌∙◌, ap, subst, sym}
use Rattle.sh_domain.specs.Facts.{facts}
use Rattle.sh_domain.specs.Knowledge.{assured_facts}
use Rattle.sh_domain.specs.Order.{IsWithin}
use Rattle.sh_drafts.specs.Places.{claim_there, is_stated_part}
use Rattle.sh_drafts.specs.declared.place.Place.{Place}
use Rattle.sh_sweeps.proofs.BeforeLemmas.{fits_place}
use Rattle.sh_sweeps.proofs.before.lower_part.Goals as goal

pub lower_assured-requires-clause-stands : goal.lower_assured-requires-clause-stands
lower_assured-requires-clause-stands c = λ other keeps.
    let s = c.args.subject.now in
    subst (λ p. IsWithin (facts (claim_there other (Some p))) (assured_facts s.names.now c.args.assured.now)) (fits_place _ c.in-Some.place _ c.in-Some.is c.place_of_part.ensures) (c.requires.stands other keeps)

pub lower_assured-requires-clause-free : goal.lower_assured-requires-clause-free
lower_assured-requires-clause-free c = λ e. ap (λ (p : Place). is_stated_part p.part) (sym (fits_place _ c.in-Some.place _ c.in-Some.is c.place_of_part.ensures)) ∙ c.requires.free
