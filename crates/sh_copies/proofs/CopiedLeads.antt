-- The lead of a token that is no operator.
-- POSIX.1-2024, XCU 2.3 (token recognition), 2.10 (shell grammar).
use Rattle.std.proofs.Common.{◌≡◌, ℕ, suc, ◌==◌, false, None, List, ◌∷◌, length, nat_eq, nat_le, if◌then◌else◌, refl, ap, ◌∙◌, cond, arith}
use Rattle.std.proofs.lemmas.Bool.Decides.{nat_tests}
use Rattle.sh_tree.specs.declared.refusal.Form.TheVariants as form
use Rattle.sh_tree.specs.declared.token.command.Lead.{Lead}
use Rattle.sh_tree.specs.declared.token.command.Lead.TheVariants as lead
use Rattle.sh_tree.specs.declared.token.command.Stage.{Stage}
use Rattle.sh_tree.specs.standard.language.Bytes.{is_newline, is_operator_byte, is_first, is_last_backquote, longest}
use Rattle.sh_tree.specs.standard.language.Commands.{operator_of, lead_at, lead_of, other_lead}

pub no_operator : (c : ℕ) (cs : List ℕ) → is_operator_byte c ≡ false → operator_of (c ∷ cs) ≡ None
unfolding operator_of longest
no_operator c cs h =
    let k = bytes c h in
    rw (k.0, k.1, k.2, k.3, k.4, k.5, k.6) refl
  where
    bytes : (c : ℕ) → is_operator_byte c ≡ false
        → (nat_eq 124 c ≡ false) × (nat_eq 38 c ≡ false) × (nat_eq 59 c ≡ false) × (nat_eq 60 c ≡ false) × (nat_eq 62 c ≡ false) × (nat_eq 40 c ≡ false) × (nat_eq 41 c ≡ false)
    bytes c h = (grind (arith, nat_tests), grind (arith, nat_tests), grind (arith, nat_tests), grind (arith, nat_tests), grind (arith, nat_tests), grind (arith, nat_tests), grind (arith, nat_tests))

some_text : (n : ℕ) → nat_le (suc n) 0 ≡ false
some_text n = grind (arith, nat_tests)

-- what the token is if the bytes are no operator
abbrev pub lead_by : Stage → ℕ → List ℕ → Lead
lead_by g c cs =
    if is_newline c then lead.Newline
    else (if c == 35 then lead.LeftOut form.Continuation
    else (if is_last_backquote (c ∷ cs) then lead.Backquote else other_lead (c ∷ cs) g 0))

pub lead_inside : (g : Stage) (c : ℕ) (cs : List ℕ) → operator_of (c ∷ cs) ≡ None → lead_at (c ∷ cs) g 0 ≡ lead_by g c cs
unfolding lead_at lead_of is_first
lead_inside g c cs none = ap (λ o. lead_of (c ∷ cs) g 0 o) none ∙ ap (λ t. cond t lead.End (lead_by g c cs)) (some_text (length cs))
