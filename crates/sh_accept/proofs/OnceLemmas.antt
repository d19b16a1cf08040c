-- The findings of a report occur once each: two offsets have two places, and no place is reported
-- twice.
use Rattle.std.proofs.Common.{◌≡◌, ℕ, zero, suc, ◌+◌, ◌<◌, ◌≤◌, ◌==◌, ◌⊎◌, inl, inr, Bool, true, false, if◌then◌else◌, List, [], ◌∷◌, map, length, take, fold, get_or, Ok, refl, sym, ◌∙◌, ap, arith}
use Rattle.std.specs.List.{Contains}
use Rattle.std.proofs.lemmas.Bool.{cases_lt}
use Rattle.std.proofs.lemmas.List.{get_or-map, length-map}
use Rattle.sh_tree.specs.Answers.{Parses}
use Rattle.sh_tree.specs.declared.limits.TheConstants.{MAX_NESTING}
use Rattle.sh_tree.specs.declared.place.Place.{Place}
use Rattle.sh_tree.specs.declared.tree.Script.{Script}
use Rattle.sh_tree.specs.standard.language.Reading.{Reads}
use Rattle.sh_tree.specs.standard.program.Trees.{script_of}
use Rattle.sh_scan.specs.Places.{next_place, place_of}
use Rattle.sh_reads.specs.Spots.{EachOnce}
use Rattle.sh_reads.proofs.OnceLemmas.{hits_inside}
use Rattle.sh_domain.specs.Demands.{demands}
use Rattle.sh_domain.specs.Facts.{Declared, start_facts}
use Rattle.sh_domain.specs.Sheets.{Sheet}
use Rattle.sh_domain.proofs.CountLemmas.{times, times_join, places_inside}
use Rattle.sh_domain.proofs.SpotLemmas.{script_counted}
use Rattle.sh_quote.specs.Places.{unquoted}
use Rattle.sh_quote.proofs.OnceLemmas.{unquoted_counted}
use Rattle.sh_answers.specs.Findings.{AreFindings, contents_at}
use Rattle.sh_answers.specs.Verdicts.{contents_of, contents_cmp}
use Rattle.sh_answers.specs.declared.verdict.Finding.{Finding}
use Rattle.sh_domain.specs.Admitted.{claims_in}
use Rattle.sh_accept.specs.Answers.{places}
use Rattle.sh_accept.specs.Once.{PlacesStandOnce}
use Rattle.sh_accept.proofs.CodeLemmas.{places_once}
use Rattle.sh_accept.proofs.FindingLemmas.{contents_total, contents_exact}
use Rattle.sh_accept.proofs.SortLemmas.{once_reordered}

-- Offsets

-- after n more bytes the line is a later one, or it is the same and the column is as many further
abbrev Moved : ℕ × ℕ → ℕ × ℕ → ℕ → Type 0
Moved p r n = (p.0 < r.0) ⊎ ((p.0 ≡ r.0) × (p.1 + n ≡ r.1))

behind : (p : ℕ × ℕ) (zs : List ℕ) → Moved p (fold next_place p zs) (length zs)
behind p [] = inr (refl, omega arith)
behind p (z ∷ zs) = go (z == 10) (behind (p.0 + 1, 1) zs) (behind (p.0, p.1 + 1) zs)
  where
    later : (r : ℕ × ℕ) (n : ℕ) → Moved (p.0 + 1, 1) r n → p.0 < r.0
    later r n (inl l) = omega arith
    later r n (inr e) = let line = e.0 in omega arith

    further : (r : ℕ × ℕ) (n : ℕ) → Moved (p.0, p.1 + 1) r n → Moved p r (suc n)
    further r n (inl l) = inl l
    further r n (inr e) = let column = e.1 in inr (e.0, omega arith)

    go : (t : Bool) → Moved (p.0 + 1, 1) (fold next_place (p.0 + 1, 1) zs) (length zs) → Moved (p.0, p.1 + 1) (fold next_place (p.0, p.1 + 1) zs) (length zs)
        → Moved p (fold next_place (if t then (p.0 + 1, 1) else (p.0, p.1 + 1)) zs) (length (z ∷ zs))
    go true h k = inl (later (fold next_place (p.0 + 1, 1) zs) (length zs) h)
    go false h k = further (fold next_place (p.0, p.1 + 1) zs) (length zs) k

not_moved : (p r : ℕ × ℕ) (n : ℕ) → p ≡ r → Moved p r (suc n) → ⊥
not_moved p r n is (inl h) = let line = ap (λ (a : ℕ × ℕ). a.0) is in omega arith
not_moved p r n is (inr h) = let column = ap (λ (a : ℕ × ℕ). a.1) is in let moved = h.1 in omega arith

apart : (xs : List ℕ) (p : ℕ × ℕ) (i j : ℕ) → i < j → j ≤ length xs → fold next_place p (take i xs) ≡ fold next_place p (take j xs) → ⊥
apart [] p i j l m e = absurd (omega arith)
apart (x ∷ xs) p i zero l m e = absurd (omega arith)
apart (x ∷ xs) p zero (suc j) l m e = not_moved p (fold next_place p (x ∷ take j xs)) (length (take j xs)) e (behind p (x ∷ take j xs))
apart (x ∷ xs) p (suc i) (suc j) l m e = apart xs (next_place p x) i j (omega arith) (omega arith) e

one_offset : (text : List ℕ) (i j : ℕ) → i < length text → j < length text → place_of text i ≡ place_of text j → i ≡ j
unfolding place_of
one_offset text i j l m e = elim (cases_lt i j) [
  | inl k ↦ absurd (apart text (1, 1) i j k (omega arith) e)
  | inr k ↦ elim (cases_lt j i) [
    | inl n ↦ absurd (apart text (1, 1) j i n (omega arith) (sym e))
    | inr n ↦ omega arith
  ]
]

-- Places

same_place : (p q : Place) → p.at ≡ q.at → p.code ≡ q.code → p.subject ≡ q.subject → p ≡ q
same_place p q a c s = λ i. record { at = a i; code = c i; subject = s i }

one_place : (b : List ℕ) (p q : Place) → p.at < length b → q.at < length b → contents_at b p ≡ contents_at b q → p ≡ q
one_place b p q l m e =
    same_place p q (one_offset b p.at q.at l m (λ i. ((e i).line, (e i).column))) (λ i. (e i).code) (λ i. (e i).subject)

contents_once : (b : List ℕ) (ps : List Place) → ((k : ℕ) (d : Place) → k < length ps → (get_or ps k d).at < length b) → EachOnce ps → EachOnce (map (contents_at b) ps)
unfolding EachOnce
contents_once b [] h once = tt
contents_once b (p ∷ ps) h once = (
  (λ (m : Contains (map (contents_at b) ps) (contents_at b p)).
      let as_long = length-map ps (contents_at b) in
      let within = m.1 in
      let there : m.0 < length ps = omega arith in
      let same : contents_at b (get_or ps m.0 p) ≡ contents_at b p = sym (get_or-map (contents_at b) ps m.0 p (contents_at b p) there) ∙ m.2 in
      once.0 (m.0, there, one_place b (get_or ps m.0 p) p (h (suc m.0) p (omega arith)) (h 0 p (omega arith)) same)),
  contents_once b ps (λ k d l. h (suc k) d (omega arith)) once.1,
)

-- each place is before the end
told_inside : (b : List ℕ) (d : Declared) (t : Script) (c : Sheet) → Parses b (Ok t) → (q : Place) → 0 < times q (places b d t c) → q.at < length b
told_inside b d t c read q some =
    let reads : Reads b t = (MAX_NESTING, read.1.0, read.1.1) in
    let both = times_join q (demands (start_facts d) (claims_in b t c) (script_of b t)) (unquoted (script_of b t)) in
    let first = script_counted (start_facts d) (claims_in b t c) q (script_of b t) in
    let second = unquoted_counted q (script_of b t) in
    hits_inside b t reads q (omega arith)

findings_once : (b : List ℕ) (d : Declared) (t : Script) (c : Sheet) (fs : List Finding) → Parses b (Ok t) → AreFindings b (places b d t c) fs → EachOnce (map contents_of fs)
findings_once b d t c fs read found =
    once_reordered contents_cmp contents_total contents_exact (map (contents_at b) (places b d t c)) (map contents_of fs) found.same
    (contents_once b (places b d t c) (places_inside (length b) (places b d t c) (told_inside b d t c read)) (places_once b d t c read))

pub places_stand_once : PlacesStandOnce
places_stand_once = record {
  told = places_once;
  checked = λ b d text r h. findings_once b d h.tree h.certificate r.findings.items h.certified.admitted.reading h.found;
  linted = λ b d r h. findings_once b d h.tree h.certificate r.findings.items h.best.admitted.reading h.found;
}
