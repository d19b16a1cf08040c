-- What is printed of a script is read again, and printed as the same text.
use Rattle.std.proofs.Common.{◌≡◌, ℕ, ◌+◌, ◌≤◌, ◌==◌, Bool, true, false, not, ◌||◌, List, [], ◌∷◌, Vec, length, nat_lt, Result, Ok, Err, Some, None, cond, refl, sym, ap, subst, ◌∙◌, arith}
use Rattle.std.specs.List.{list_any, position_or_len}
use Rattle.std.specs.declared.alloc.Global.{Global}
use Rattle.std.proofs.lemmas.Bool.Decides.{nat_tests}
use Rattle.sh_tree.specs.Answers.{Parses, first_nul}
use Rattle.sh_tree.specs.declared.limits.TheConstants.{MAX_NESTING, MAX_SCRIPT}
use Rattle.sh_tree.specs.declared.refusal.Refusal.{Refusal}
use Rattle.sh_tree.specs.declared.tree.Script.{Script}
use Rattle.sh_tree.specs.standard.language.Reading.{ReadsTo}
use Rattle.sh_print.specs.Layout.{canon, items_text}
use Rattle.sh_print.specs.Same.{IsSame}
use Rattle.sh_print.specs.Trees.{script_of}
use Rattle.sh_print.proofs.RoundTrip.{read_back}
use Rattle.sh_accept.specs.Answers.{Prints}
use Rattle.sh_accept.specs.Printed.{PrintedIsRead, PrintsSame, ReadsSame}
use Rattle.sh_accept.proofs.PrintLemmas.{refused}

step : (q : Bool) (n l : ℕ) (rest : Bool) → (rest ≡ false → l ≤ n) → (q || rest) ≡ false → l + 1 ≤ cond (not q) (1 + n) 0
step true n l rest h none = cc
step false n l rest h none = let far = h none in omega arith

nowhere : (p : ℕ → Bool) (xs : List ℕ) → list_any p xs ≡ false → length xs ≤ position_or_len p xs
nowhere p [] h = omega arith
nowhere p (x ∷ xs) h = let far = step (p x) (position_or_len p xs) (length xs) (list_any p xs) (nowhere p xs) h in omega arith

-- a text without a NUL has no first one
no_first : (b : List ℕ) → list_any (λ c. c == 0) b ≡ false → first_nul b ≡ None
no_first b h =
    let far = nowhere (λ c. c == 0) b h in
    let past : nat_lt (position_or_len (λ c. c == 0) b) (length b) ≡ false = grind (arith, nat_tests) in
    ap (λ v. cond v (Some (position_or_len (λ c. c == 0) b)) None) past

parses : (b : List ℕ) (t : Script) (r : Result Script Refusal) → Parses b (Ok t) → length (canon b t) ≤ MAX_SCRIPT
    → Parses (canon b t) r → ReadsSame b t (canon b t) r
parses b t r p short = go r
  where
    again : (u : Script) × ReadsTo (canon b t) MAX_NESTING p.1.0 u × IsSame b t (canon b t) u
    again = read_back b t MAX_NESTING p.1.0 p.1.1

    go : (r : Result Script Refusal) → Parses (canon b t) r → ReadsSame b t (canon b t) r
    go (Ok v) q = again.2 ∙ ap (script_of (canon b t)) (q.2 again.0 (MAX_NESTING, p.1.0, again.1))
    go (Err e) q = refused (canon b t) again.0 (short, no_first (canon b t) again.1.no_nul) (p.1.0, again.1, p.1.2) e q

prints : (b : List ℕ) (t : Script) (r : Result (Vec ℕ Global) Refusal) → Parses b (Ok t) → length (canon b t) ≤ MAX_SCRIPT
    → Prints (canon b t) r → PrintsSame (canon b t) r
prints b t (Ok v) p short q = q.2 ∙ sym (ap (items_text 0) (parses b t (Ok q.0) p short q.1))
prints b t (Err e) p short q = parses b t (Err e) p short q.refused

pub printed_is_read : PrintedIsRead
printed_is_read = record {
  parses = parses;
  prints = λ b v r p short q. subst (λ c. length c ≤ MAX_SCRIPT → Prints c r → PrintsSame c r) (sym p.2) (prints b p.0 r p.1) short q;
}
