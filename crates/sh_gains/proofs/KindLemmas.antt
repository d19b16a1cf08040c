-- Kinds of commands, and static texts, as both tables say them.
use Rattle.std.proofs.Common.{◌≡◌, List, [], ◌∷◌, map, refl, ap}
use Rattle.std.specs.List.{cons_option}
use Rattle.sh_tree.specs.standard.program.Syntax.{Word}
use Rattle.sh_tree.specs.standard.program.Words.{static_of}
use Rattle.sh_runs.specs.standard.Kinds as kinds
use Rattle.sh_runs.specs.declared.kind.Kind.{Kind}
use Rattle.sh_runs.specs.declared.kind.Kind.TheVariants as kind
use Rattle.sh_domain.specs.Operands.{statics}
use Rattle.sh_domain.specs.Table.{is_special}
use Rattle.sh_gains.specs.Statics.{listed}

-- operands that are static
pub texts_listed : (ws : List Word) → listed (map static_of ws) ≡ statics ws
texts_listed [] = refl
texts_listed (w ∷ ws) = ap (cons_option (static_of w)) (texts_listed ws)

-- special built-in utilities
pub special_same : (k : Kind) → is_special k ≡ kinds.is_special k
unfolding is_special kinds.is_special
special_same (kind.Special name) = refl
special_same k = refl
