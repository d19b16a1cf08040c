-- What the certificate on which the rules are tested claims at each place, by its entries.
use Rattle.std.proofs.Common.{◌≡◌, ℕ, zero, suc, ◌+◌, ◌-◌, max, nat_eq, List, [], ◌∷◌, option_map, slice_get, unwrap_or, refl, ap, ◌∙◌, arith}
use Rattle.indexmap.specs.IndexMap.{get}
use Rattle.sh_tree.specs.standard.program.Syntax.{Text}
use Rattle.sh_domain.specs.declared.certificate.Entry.{Entry}
use Rattle.sh_domain.specs.declared.certificate.Facts as value
use Rattle.sh_domain.specs.declared.certificate.Certificate as kept
use Rattle.sh_domain.specs.Certificates.{claim_of, commands_from, in_byte_order}
use Rattle.sh_domain.specs.Facts.{Claim, Unreached, facts}
use Rattle.sh_domain.specs.Sheets.{claim_at, nowhere}
use Rattle.sh_domain.specs.Slots.{ClaimsAreEntries}
use Rattle.sh_domain.specs.Views.{Head}
use Rattle.sh_domain.proofs.SlotLemmas.{claims_are_entries}
use Rattle.sh_rules.specs.Settings.{Setting, claimed_at, known_at}
use Rattle.sh_rules.specs.Walks.{head_of, head_where}

pub entries : (x : Setting) → ClaimsAreEntries (in_byte_order x.names) x.kept x.functions
entries x = claims_are_entries (in_byte_order x.names) x.kept x.functions

abbrev claim : Setting → value.Facts → Claim
claim x f = claim_of (in_byte_order x.names) x.kept.rows f

-- of a loop

head_at : (order : List (ℕ × Text)) (c : kept.Certificate) (k : ℕ) (es : List Entry) (j : ℕ)
    → (unwrap_or (slice_get (commands_from order c k es) j) nowhere).head ≡ option_map (claim_of order c.rows) (head_where (slice_get es j) (get nat_eq c.heads (k + j)))
unfolding commands_from head_where
head_at order c k [] j = refl
head_at order c k (e ∷ es) zero = let same : k ≡ k + 0 = omega arith in ap (λ n. option_map (claim_of order c.rows) (get nat_eq c.heads n)) same
head_at order c k (e ∷ es) (suc j) =
    let same : (k + 1) + j ≡ k + suc j = omega arith in
    head_at order c (k + 1) es j ∙ ap (λ n. option_map (claim_of order c.rows) (head_where (slice_get es j) (get nat_eq c.heads n))) same

pub head_claim : (x : Setting) (n : ℕ) → claimed_at x (Head n) ≡ unwrap_or (option_map (claim x) (head_of x.kept n)) Unreached
unfolding claimed_at claim_at
head_claim x n =
    let same : 1 + (n - 1) ≡ max n 1 = omega arith in
    ap (λ h. unwrap_or h Unreached) (head_at (in_byte_order x.names) x.kept 1 x.kept.entries.items (n - 1))
    ∙ ap (λ k. unwrap_or (option_map (claim x) (head_where (slice_get x.kept.entries.items (n - 1)) (get nat_eq x.kept.heads k))) Unreached) same

pub head_claimed : (x : Setting) (n : ℕ) → known_at x (Head n) ≡ facts (unwrap_or (option_map (claim x) (head_of x.kept n)) Unreached)
unfolding known_at claimed_at
head_claimed x n = ap facts (head_claim x n)
