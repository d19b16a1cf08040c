-- The fields of a compact certificate's line, one after the other.
use Rattle.std.proofs.Common.{◌≡◌, ℕ, ◌&&◌, Bool, if◌then◌else◌, ◌∷◌, Option, None, refl, codes}
use Rattle.std.specs.Str.{bytes_eq}
use Rattle.sh_tree.specs.standard.program.Syntax.{Text}
use Rattle.sh_domain.specs.CompactForms as form
use Rattle.sh_domain.specs.CompactForms.{Counts, three_counts, start_of, at_least, turn_of}
use Rattle.sh_domain.specs.Facts.{Claim}
use Rattle.sh_domain.specs.Forms.{pieces, both, number_in, claim_in}
use Rattle.sh_domain.proofs.CompactSpellingLemmas.{three_some}
use Rattle.sh_domain.proofs.SpellingLemmas.{if_some, both_some}
use Rattle.sh_facts.specs.CompactFields.{turn}
use Rattle.sh_facts.proofs.FormLemmas.{claim_whole, number_whole}
use Rattle.sh_facts.proofs.SplitLemmas.{sole}

abbrev pub are_words : Text → Text → Text → Bool
are_words c f l = bytes_eq (codes "commands") c && bytes_eq (codes "functions") f && bytes_eq (codes "loops") l

abbrev counted : Text → Text → Text → Text → Text → Text → Option Counts
counted c n f m l k = if are_words c f l then three_counts (number_in n) (number_in m) (number_in k) else None

pub counts_sole : (c n f m l k : Text) → form.counts_of (c ∷ n ∷ f ∷ m ∷ l ∷ pieces 32 k) ≡ counted c n f m l k
unfolding form.counts_of
counts_sole c n f m l k =
    sole 32 (counted c n f m l) (λ ts. form.counts_of (c ∷ n ∷ f ∷ m ∷ l ∷ ts)) (λ u. refl) (λ u v ts. refl)
    (λ u x h. let i = if_some (are_words c f l) (three_counts (number_in n) (number_in m) (number_in u)) x h in
    number_whole u x.loops (three_some (number_in n) (number_in m) (number_in u) x i.1).2) k

pub start_sole : (s c : Text) → start_of (s ∷ pieces 32 c) ≡ (if bytes_eq (codes "s") s then claim_in c else None)
unfolding start_of
start_sole s c =
    sole 32 (λ u. if bytes_eq (codes "s") s then claim_in u else None) (λ ts. start_of (s ∷ ts)) (λ u. refl) (λ u v ts. refl)
    (λ u x h. claim_whole u x (if_some (bytes_eq (codes "s") s) (claim_in u) x h).1) c

abbrev turned : ℕ → Text → Text → Text → Option (ℕ × Claim)
turned least h n c = if bytes_eq (codes "h") h then both turn (at_least least (number_in n)) (claim_in c) else None

pub turn_sole : (least : ℕ) (h n c : Text) → turn_of least (h ∷ n ∷ pieces 32 c) ≡ turned least h n c
unfolding turn_of
turn_sole least h n c =
    sole 32 (turned least h n) (λ ts. turn_of least (h ∷ n ∷ ts)) (λ u. refl) (λ u v ts. refl)
    (λ u x e. let i = if_some (bytes_eq (codes "h") h) (both turn (at_least least (number_in n)) (claim_in u)) x e in
    let p = both_some turn (at_least least (number_in n)) (claim_in u) x i.1 in claim_whole u p.1 p.3) c
