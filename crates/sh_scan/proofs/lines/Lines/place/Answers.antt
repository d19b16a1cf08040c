use Rattle.std.proofs.Common.{◌≡◌, ◌+◌, ◌-◌, ◌<◌, ◌≤◌, length, min, get_or, sym, subst, ap, ◌∙◌, arith, ◌⊎◌, inl, inr}
use Rattle.std.specs.List.Sorted.{IsPartitionPoint}
use Rattle.std.proofs.lemmas.Grind.{get_or_default_zero}
use Rattle.memchr.specs.Find.{is_byte, places}
use Rattle.sh_scan.specs.Places.{lines_of, Breaks, place_of}
use Rattle.sh_scan.proofs.PlaceLemmas.{place_is}
use Rattle.sh_scan.proofs.lines.Lines.place.Goals as goal
use Rattle.sh_scan.proofs.lines.Lines.place.Goals.{in-0, in_default}

pub returns : goal.returns
unfolding lines_of
returns c = λ text shows short.
    let nl = c.self.inside.newlines.items in
    let n = c.count_below-before.result in
    let at = c.min-at.result in
    let start = c.match-before.start in
    let own : nl ≡ places (is_byte 10) text = ap (λ (b : Breaks). b.newlines) (c.self.view_is ∙ shows) in
    let held : c.deref.result.now ≡ places (is_byte 10) text = c.deref.ensures.value ∙ own in
    let ends : c.self.inside.end ≡ length text = ap (λ (b : Breaks). b.end) (c.self.view_is ∙ shows) ∙ omega arith in
    let same : at ≡ min c.args.at (length text) = omega arith in
    let few : n ≤ length (places (is_byte 10) text) = subst (λ l. n ≤ length l) held c.count_below-before.ensures.within in
    let parted : IsPartitionPoint (λ k. k < min c.args.at (length text)) (λ k. min c.args.at (length text) ≤ k) (places (is_byte 10) text) n =
    subst (λ m. IsPartitionPoint (λ k. k < m) (λ k. m ≤ k) (places (is_byte 10) text) n) same
    (subst (λ l. IsPartitionPoint (λ k. k < at) (λ k. at ≤ k) l n) held c.count_below-before.ensures.parted) in
    let begins : ((n ≡ 0) × (start ≡ 0)) ⊎ ((0 < n) × (start ≡ get_or (places (is_byte 10) text) (n - 1) 0 + 1)) =
    elim c.match-before.branch [ in-0 w ↦ inl (w.in-0.is, w.start-is) | in_default w ↦ inr (omega arith, w.start-is ∙ ap (λ k. k + 1) (w.index.ensures ∙ get_or_default_zero nl (n - 1) w.index.result.now (omega arith) ∙ ap (λ l. get_or l (n - 1) 0) own)) ] in
    subst (λ m. (n + 1, m - start + 1) ≡ place_of text c.args.at) (sym same) (place_is text c.args.at n start few parted begins)
