use Rattle.std.proofs.Common.{ℕ, ◌<◌, ◌*◌, length, drop, sym, subst}
use Rattle.std.specs.List.{All}
use Rattle.std.proofs.lemmas.List.Elements.{All-drop, All-take}
use Rattle.sh_demands.proofs.blocks.Blocks.get.Goals as goal

pub returns-clause-below : goal.returns-clause-below
returns-clause-below c =
    let blocks = c.args.self.now in
    let is_below = (λ (n : ℕ). n < length blocks.names.now) in
    subst (All is_below) (sym c.block.ensures) (All-take is_below 64 (drop (64 * c.args.index) blocks.numbers.now) (All-drop is_below (64 * c.args.index) blocks.numbers.now blocks.below))
