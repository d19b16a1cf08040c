use Rattle.std.proofs.Common.{◌≡◌, ℕ, List, refl, sym, subst, arith}
use Rattle.std.specs.List.Sorted.{IsStrictlyIncreasing}
use Rattle.sh_scan.specs.Places.{lines_of, Breaks}
use Rattle.sh_scan.proofs.PlaceLemmas.{rising}
use Rattle.sh_scan.proofs.lines.Lines.new.Goals as goal

breaks : List ℕ → ℕ → Breaks
breaks xs n = record { newlines = xs; end = n }

breaks_is : (xs ys : List ℕ) (m n : ℕ) → xs ≡ ys → m ≡ n → breaks xs m ≡ breaks ys n
breaks_is xs ys m n e f = rw (e, f) refl

pub invariant_of-result : goal.invariant_of-result
invariant_of-result c = (subst IsStrictlyIncreasing (sym c.in_ok-newlines.ensures) (rising c.args.script.now), omega arith)

pub returns : goal.returns
unfolding lines_of breaks
returns c = breaks_is _ _ _ _ c.in_ok-newlines.ensures c.min-end.ensures
