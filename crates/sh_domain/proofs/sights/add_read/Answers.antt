use Rattle.std.proofs.Common.{◌≡◌, List, ◌∙◌, sym, Bor, map}
use Rattle.std.proofs.lemmas.List.{length-map}
use Rattle.std.proofs.lemmas.List.Folds.{flat_map-map}
use Rattle.sh_tree.specs.declared.tree.Word.{Word}
use Rattle.sh_domain.specs.Sights as spec
use Rattle.sh_domain.specs.SightWalks.{seen_in}
use Rattle.sh_domain.proofs.SightLemmas.{read_is}
use Rattle.sh_domain.proofs.sights.add_read.Goals as goal

pub returns : goal.returns
returns c =
    let ws : List Word = map (λ (w : Bor Word). w.now) c.args.operands.now in
    let static : seen_in c.in_ok-seen.seen.items ≡ spec.static_sights c.args.script.now ws =
    c.in_ok-seen.ensures ∙ sym (flat_map-map (spec.static_sight c.args.script.now) (λ (w : Bor Word). w.now) c.args.operands.now) in
    rw (read_is c.args.script.now ws c.in_ok-seen.seen.items static, length-map c.args.operands.now (λ (w : Bor Word). w.now)) (rw c.deref.ensures.value at c.add_read_names.ensures)
