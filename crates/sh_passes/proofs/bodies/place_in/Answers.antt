use Rattle.std.proofs.Common.{Some, ap, ◌≡◌, ◌∙◌}
use Rattle.sh_domain.specs.Admitted.{functions_in}
use Rattle.sh_rules.specs.Places.{slot_of}
use Rattle.sh_rules.specs.Settings.{Setting}
use Rattle.sh_drafts.specs.Places.{place_of}
use Rattle.sh_drafts.specs.Spots.{place_at}
use Rattle.sh_sweeps.proofs.BeforeLemmas.{spot_place}
use Rattle.sh_passes.proofs.bodies.place_in.Goals as goal

pub returns-clause-there : goal.returns-clause-there
returns-clause-there c =
    let s = c.args.subject.now in
    let slot = slot_of s.script.now c.args.slot in
    let same : Some (place_at c.in_ok-spot.spot) ≡ place_of (functions_in s.script.now s.tree.now) slot = c.in_ok-spot.ensures ∙ ap (λ (x : Setting). place_of x.functions (slot_of x.script c.args.slot)) c.claims_of-claims.ensures in
    spot_place (functions_in s.script.now s.tree.now) slot c.in_ok-spot.spot same _ c.place.ensures
