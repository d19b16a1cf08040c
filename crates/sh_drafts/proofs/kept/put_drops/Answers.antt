use Rattle.std.proofs.Common.{◌≡◌, Some, slice_get, refl, sym, ◌∙◌, ap}
use Rattle.std.proofs.lemmas.Option.{slice_get-get_or}
use Rattle.sh_drafts.proofs.KeptLemmas.{drops_within, put_dropped}
use Rattle.sh_drafts.proofs.kept.put_drops.Goals as goal

pub returns : goal.returns
returns c =
    let fs = c.args.certificate.now.functions.items in
    let is : slice_get fs c.args.index ≡ Some c.index-entry.result.now = slice_get-get_or fs c.args.index c.index-entry.result.now (drops_within c.args.certificate.now c.args.index c.requires) ∙ ap Some (sym c.index-entry.ensures) in
    put_dropped c.args.certificate.now _ c.args.index c.index-entry.result.now c.args.drops is refl refl refl refl
