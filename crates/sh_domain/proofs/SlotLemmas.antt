-- What a certificate claims at a place, by its entries.
use Rattle.std.proofs.Common.{◌≡◌, ℕ, zero, suc, ◌+◌, ◌-◌, ◌<◌, ◌≤◌, Option, Some, None, List, [], ◌∷◌, length, map, refl, ◌∙◌, ap, arith, inl, inr, slice_get}
use Rattle.std.specs.Prelude.{nat_eq, option_and_then, option_map, unwrap_or}
use Rattle.std.specs.List.{position_from}
use Rattle.std.specs.Str.{bytes_eq}
use Rattle.std.proofs.lemmas.Bool.{cases_Bool}
use Rattle.std.proofs.lemmas.Option.{slice_get-map}
use Rattle.indexmap.specs.IndexMap.{get}
use Rattle.sh_tree.specs.standard.program.Syntax.{Text}
use Rattle.sh_domain.specs.declared.certificate.Certificate.{Certificate}
use Rattle.sh_domain.specs.declared.certificate.Entry.{Entry}
use Rattle.sh_domain.specs.Certificates.{claim_of, command_claims, commands_from, function_claims, sheet_of}
use Rattle.sh_domain.specs.Facts.{Unreached}
use Rattle.sh_domain.specs.Names.{number_of}
use Rattle.sh_domain.specs.Sheets.{CommandClaims, FunctionClaims, claim_at, function_at, nowhere, uncalled}
use Rattle.sh_domain.specs.Slots.{EveryCertificateClaims, entry_of}
use Rattle.sh_domain.proofs.KnowledgeLemmas.{place_of}

-- one part of what may be there
part_of : {A B C : Type 0} (part : B → C) (f : A → B) (o : Option A) (b : B) → part (unwrap_or (option_map f o) b) ≡ unwrap_or (option_map (λ x. part (f x)) o) (part b)
part_of part f None b = refl
part_of part f (Some x) b = refl

-- the command of a number, with the head of that number
command_of : (order : List (ℕ × Text)) (c : Certificate) (k : ℕ) (es : List Entry) (j : ℕ)
    → slice_get (commands_from order c k es) j ≡ option_map (λ e. command_claims order c.rows e (get nat_eq c.heads (k + j))) (slice_get es j)
unfolding commands_from
command_of order c k [] j = refl
command_of order c k (e ∷ es) zero = let same : k ≡ k + 0 = omega arith in ap (λ n. Some (command_claims order c.rows e (get nat_eq c.heads n))) same
command_of order c k (e ∷ es) (suc j) =
    let same : (k + 1) + j ≡ k + suc j = omega arith in
    command_of order c (k + 1) es j ∙ ap (λ n. option_map (λ f. command_claims order c.rows f (get nat_eq c.heads n)) (slice_get es j)) same

entry_part : {C : Type 0} (order : List (ℕ × Text)) (c : Certificate) (part : CommandClaims → C) (n : ℕ)
    → part (unwrap_or (slice_get (sheet_of order c).commands (n - 1)) nowhere)
    ≡ unwrap_or (option_map (λ e. part (command_claims order c.rows e (get nat_eq c.heads (1 + (n - 1))))) (slice_get c.entries.items (n - 1))) (part nowhere)
entry_part order c part n =
    ap (λ o. part (unwrap_or o nowhere)) (command_of order c 1 c.entries.items (n - 1))
    ∙ part_of part (λ e. command_claims order c.rows e (get nat_eq c.heads (1 + (n - 1)))) (slice_get c.entries.items (n - 1)) nowhere

head_part : (order : List (ℕ × Text)) (c : Certificate) (n : ℕ) → 0 < n → n ≤ length c.entries.items
    → unwrap_or (unwrap_or (slice_get (sheet_of order c).commands (n - 1)) nowhere).head Unreached ≡ unwrap_or (option_map (claim_of order c.rows) (get nat_eq c.heads n)) Unreached
head_part order c n low high =
    let same : 1 + (n - 1) ≡ n = omega arith in
    let there : n - 1 < length c.entries.items = omega arith in
    ap (λ h. unwrap_or h Unreached) (entry_part order c (λ x. x.head) n)
    ∙ inside (slice_get c.entries.items (n - 1)) (get nat_eq c.heads (1 + (n - 1))) (slice_within c.entries.items (n - 1) there)
    ∙ ap (λ k. unwrap_or (option_map (claim_of order c.rows) (get nat_eq c.heads k)) Unreached) same
  where
    slice_within : (es : List Entry) (j : ℕ) → j < length es → (e : Entry) × (slice_get es j ≡ Some e)
    slice_within [] j lt = absurd (omega arith)
    slice_within (e ∷ es) zero lt = (e, refl)
    slice_within (e ∷ es) (suc j) lt = slice_within es j (omega arith)

    inside : (o : Option Entry) (h : _) → (e : Entry) × (o ≡ Some e)
        → unwrap_or (unwrap_or (option_map (λ (e : Entry). option_map (claim_of order c.rows) h) o) None) Unreached ≡ unwrap_or (option_map (claim_of order c.rows) h) Unreached
    inside o h e = ap (λ p. unwrap_or (unwrap_or (option_map (λ (e : Entry). option_map (claim_of order c.rows) h) p) None) Unreached) e.1

-- the function of a name

later : (claims : List FunctionClaims) (x : FunctionClaims) (i : ℕ) (o : Option ℕ) → ((k : ℕ) → o ≡ Some k → i < k)
    → option_and_then (λ k. slice_get claims (k - (i + 1))) o ≡ option_and_then (λ k. slice_get (x ∷ claims) (k - i)) o
later claims x i None h = refl
later claims x i (Some k) h = let far = h k refl in let same : suc (k - (i + 1)) ≡ k - i = omega arith in ap (slice_get (x ∷ claims)) same

no_claims : (i : ℕ) (o : Option ℕ) → uncalled ≡ unwrap_or (option_and_then (λ k. slice_get {X = FunctionClaims} [] (k - i)) o) uncalled
no_claims i None = refl
no_claims i (Some k) = refl

pub function_of : (functions : List Text) (claims : List FunctionClaims) (i : ℕ) (t : Text)
    → function_at functions claims t ≡ unwrap_or (option_and_then (λ k. slice_get claims (k - i)) (position_from (λ f. bytes_eq f t) i functions)) uncalled
unfolding function_at
function_of [] claims i t = refl
function_of (f ∷ functions) [] i t = no_claims i (position_from (λ g. bytes_eq g t) i (f ∷ functions))
function_of (f ∷ functions) (x ∷ claims) i t = elim (cases_Bool (bytes_eq f t)) [
  | inl s ↦ let here : 0 ≡ i - i = omega arith in rw s (ap (λ k. unwrap_or (slice_get (x ∷ claims) k) uncalled) here)
  | inr s ↦ rw s (
      function_of functions claims (i + 1) t
      ∙ ap (λ o. unwrap_or o uncalled)
      (later claims x i (position_from (λ g. bytes_eq g t) (i + 1) functions) (λ k e. let place = place_of functions (i + 1) k t e in let far = place.1 in omega arith)))
]

entry_at : {A B : Type 0} (g : A → B) (es : List A) (o : Option ℕ) → option_and_then (λ k. slice_get (map g es) (k - 0)) o ≡ option_map g (option_and_then (slice_get es) o)
entry_at g es None = refl
entry_at g es (Some k) = let same : k - 0 ≡ k = omega arith in ap (slice_get (map g es)) same ∙ slice_get-map g es k

function_part : {C : Type 0} (order : List (ℕ × Text)) (c : Certificate) (functions : List Text) (part : FunctionClaims → C) (t : Text)
    → part (function_at functions (sheet_of order c).functions t) ≡ unwrap_or (option_map (λ e. part (function_claims order c.rows e)) (entry_of c functions t)) (part uncalled)
function_part order c functions part t =
    ap part (function_of functions (map (function_claims order c.rows) c.functions.items) 0 t ∙ ap (λ o. unwrap_or o uncalled) (entry_at (function_claims order c.rows) c.functions.items (number_of functions t)))
    ∙ part_of part (function_claims order c.rows) (entry_of c functions t) uncalled

pub claims_are_entries : EveryCertificateClaims
unfolding claim_at
claims_are_entries order c functions = record {
  before = λ n. entry_part order c (λ x. x.before) n;
  zero = λ n. entry_part order c (λ x. x.zero) n;
  nonzero = λ n. entry_part order c (λ x. x.nonzero) n;
  head = λ n low high. head_part order c n low high;
  entered = λ f. function_part order c functions (λ x. x.before) f;
  returns_zero = λ f. function_part order c functions (λ x. x.zero) f;
  returns_nonzero = λ f. function_part order c functions (λ x. x.nonzero) f;
  drops = λ f. function_part order c functions (λ x. x.drops) f;
}
