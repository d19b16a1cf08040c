-- The same places and spots of a copy, and the texts from them on.
use Rattle.std.proofs.Common.{◌≡◌, ℕ, ◌+◌, ◌<◌, ◌≤◌, List, ◌++◌, length, drop, ◌⊎◌, inl, inr, sym, ap, ◌∙◌, arith, length-drop, ⊎_elim}
use Rattle.std.proofs.lemmas.List.{drop-drop, drop-append-le}
use Rattle.sh_tree.specs.standard.language.States.{Spot, to, deeper, behind}
use Rattle.sh_copies.proofs.AlikeBytes.{Alike}
use Rattle.sh_copies.proofs.Copies.{Copied, Place, Counts, Moved, limit_of}

-- the same text, or the same up to a byte that closes its context
abbrev pub Near : List ℕ → List ℕ → Type 0
Near cs cs' = (cs' ≡ cs) ⊎ Alike cs cs'

pub less_deep : (n m limit : ℕ) → m ≡ n → n < limit → m < limit
less_deep n m limit e h = omega arith

module _ {b b' : List ℕ} (c : Copied b b') where
  -- what is left of the copied bytes
  pub record Left (i i' : ℕ) : Type 0 where
    pub w : List ℕ
    pub there : drop i b ≡ w ++ c.rest
    pub here : drop i' b' ≡ w ++ c.rest'
    pub long : i + length w ≡ limit_of c

  pub left : {i i' : ℕ} → Place c i i' → i ≤ limit_of c → Left i i'
  left {i = i} {i' = i'} p h =
      let inside : p.by ≤ length c.w = (let k = p.at in omega arith) in
      record {
        w = drop p.by c.w;
        there = ap (λ n. drop n b) p.at ∙ sym (drop-drop p.by c.from b) ∙ ap (drop p.by) c.there ∙ drop-append-le p.by c.w c.rest inside;
        here = ap (λ n. drop n b') p.at' ∙ sym (drop-drop p.by c.into b') ∙ ap (drop p.by) c.here ∙ drop-append-le p.by c.w c.rest' inside;
        long = (let k = p.at in let l = length-drop p.by c.w in omega arith);
      }

  pub near : {i i' : ℕ} → Place c i i' → i ≤ limit_of c → Near (drop i b) (drop i' b')
  near {i = i} {i' = i'} p h =
      let l = left p h in
      ⊎_elim
      (λ same. inl (l.here ∙ ap (λ r. l.w ++ r) same ∙ sym l.there))
      (λ k. inr (record { w = l.w; c = k.c; r = k.r; r' = k.r'; closes = k.closes; there = l.there ∙ ap (λ r. l.w ++ r) k.there; here = l.here ∙ ap (λ r. l.w ++ r) k.here }))
      c.edge

  -- n bytes further on
  pub further : {i i' : ℕ} (n : ℕ) → Place c i i' → Place c (i + n) (i' + n)
  further n p = record { by = p.by + n; at = (let k = p.at in omega arith); at' = (let k = p.at' in omega arith) }

  -- as far from both
  pub as_far : {i i' j j' : ℕ} (n : ℕ) → Place c i i' → j ≡ i + n → j' ≡ i' + n → Place c j j'
  as_far n p e e' = record { by = p.by + n; at = (let k = p.at in omega arith); at' = (let k = p.at' in omega arith) }

  pub moved_to : {i i' : ℕ} {s s' : Spot} → Moved c s s' → Place c i i' → Moved c (to i s) (to i' s')
  moved_to m p = record { place = p; depth = m.depth; joins = m.joins; tabs = m.tabs; quiet = m.quiet; counts = m.counts }

  pub moved_deeper : {i i' : ℕ} {s s' : Spot} → Moved c s s' → Place c i i' → Moved c (deeper i s) (deeper i' s')
  moved_deeper m p = record { place = p; depth = ap (λ n. n + 1) m.depth; joins = m.joins; tabs = m.tabs; quiet = m.quiet; counts = m.counts }

  pub moved_behind : {i i' : ℕ} {s s' : Spot} (u u' : Spot) → Counts c u u' → Moved c s s' → Place c i i' → Moved c (behind i u s) (behind i' u' s')
  moved_behind u u' k m p = record { place = p; depth = m.depth; joins = m.joins; tabs = m.tabs; quiet = m.quiet; counts = k }
