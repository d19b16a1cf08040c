-- What is filled from the stated claims of a certificate that keeps the rules keeps them.
use Rattle.std.proofs.Common.{◌≡◌, ℕ, Bool, true, false, not, if◌then◌else◌, List, [], ◌∷◌, ◌++◌, filter, refl, sym, ap, ap₂, ◌∙◌, subst, true≢false}
use Rattle.std.specs.List.{flat_map}
use Rattle.sh_tree.specs.declared.tree.Script.{Script}
use Rattle.sh_tree.specs.standard.program.Syntax.{Text, Items}
use Rattle.sh_tree.specs.standard.program.Trees.{script_of}
use Rattle.sh_domain.specs.declared.rule.FlowRule.{FlowRule}
use Rattle.sh_domain.specs.Admitted.{Fits, KeepsRules, claims_in, functions_in}
use Rattle.sh_domain.specs.Compacts.{compact_of_sheet, stated_by}
use Rattle.sh_domain.specs.Facts.{Facts, Claim, Declared, facts, within, start_facts}
use Rattle.sh_domain.specs.Faults.{are_among, broken, faults, told}
use Rattle.sh_domain.specs.Filled.{is_stated, bounds_filled, KeepsStated, IsFilled, FillsTo, FilledKeeps}
use Rattle.sh_domain.specs.Order.{IsWithin, IsBelow, AreAmong, Fits as Allowed}
use Rattle.sh_domain.specs.Rules.{Constraint, Within, Counted, script_bounds}
use Rattle.sh_domain.specs.Sheets.{Sheet, certificate_of}
use Rattle.sh_domain.specs.Views.{Certificate, Slot, Before, AfterZero, AfterNonzero, Head, Entry, ReturnsZero, ReturnsNonzero, view_facts, lost}
use Rattle.sh_domain.proofs.CompactLemmas.{compacts_state}
use Rattle.sh_domain.proofs.EachLemmas.{none_both}
use Rattle.sh_domain.proofs.MonotoneLemmas.{fits_below}
use Rattle.sh_domain.proofs.OrderLemmas.{among_test, ordered, within_test}

-- of a list that gives nothing a part gives nothing
pub none_filtered : {A : Type 0} {B : Type 0} (g : A → List B) (p : A → Bool) (xs : List A) → flat_map g xs ≡ [] → flat_map g (filter p xs) ≡ []
none_filtered g p [] h = refl
none_filtered g p (x ∷ xs) h = let both = none_both (g x) (flat_map g xs) h in go (p x) both.0 (none_filtered g p xs both.1)
  where
    go : (t : Bool) → g x ≡ [] → flat_map g (filter p xs) ≡ [] → flat_map g (if t then x ∷ filter p xs else filter p xs) ≡ []
    go true one rest = ap₂ (λ u v. u ++ v) one rest
    go false one rest = rest

-- a list gives nothing if a part gives nothing, and the rest nothing if it gave nothing otherwise
pub none_with : {A : Type 0} {B : Type 0} (f g : A → List B) (p : A → Bool) → ((x : A) → p x ≡ false → g x ≡ [] → f x ≡ []) → (xs : List A)
    → flat_map g xs ≡ [] → flat_map f (filter p xs) ≡ [] → flat_map f xs ≡ []
none_with f g p other [] h k = refl
none_with f g p other (x ∷ xs) h k = let both = none_both (g x) (flat_map g xs) h in go (p x) refl both.0 (none_with f g p other xs both.1) k
  where
    go : (t : Bool) → p x ≡ t → g x ≡ [] → (flat_map f (filter p xs) ≡ [] → flat_map f xs ≡ []) → flat_map f (if t then x ∷ filter p xs else filter p xs) ≡ [] → f x ++ flat_map f xs ≡ []
    go true is one rest k = let both = none_both (f x) (flat_map f (filter p xs)) k in ap₂ (λ u v. u ++ v) both.0 (rest both.1)
    go false is one rest k = ap₂ (λ u v. u ++ v) (other x is one) (rest k)

pub none_told : (b : Bool) (n : ℕ) (rule : FlowRule) → b ≡ true → told b n rule ≡ []
unfolding told
none_told b n rule h = ap (λ x. told x n rule) h

-- a constraint on what is stated holds of what claims more elsewhere
pub stated_kept : (start : Facts) (c f : Certificate) → ((slot : Slot) → is_stated slot ≡ true → f.claim slot ≡ c.claim slot) → ((function : Text) → f.drops function ≡ c.drops function) → IsBelow c f
    → (k : Constraint) → bounds_filled k ≡ false → broken start c k ≡ [] → broken start f k ≡ []
unfolding broken Allowed bounds_filled
stated_kept start c f claims drops below (Within slot n rule v) other h =
    none_told (within (f.claim slot) (view_facts start f v)) n rule
    ((within_test (f.claim slot) (view_facts start f v)).1 (subst (λ x. IsWithin (facts x) (view_facts start f v)) (sym (claims slot (stated (is_stated slot) other))) (fits_below start c f (Within slot n rule v) below h)))
  where
    stated : (b : Bool) → not b ≡ false → b ≡ true
    stated true e = refl
    stated false e = absurd (true≢false e)
stated_kept start c f claims drops below (Counted function n loss) other h =
    none_told (are_among (lost start f n loss) (f.drops function)) n _
    ((among_test (lost start f n loss) (f.drops function)).1 (subst (AreAmong (lost start f n loss)) (sym (drops function)) (fits_below start c f (Counted function n loss) below h)))

-- The compact form of a certificate states what the certificate claims there.
states_same : (functions : List Text) (w : Claim) (c : Sheet) (slot : Slot) → is_stated slot ≡ true → (stated_by functions (compact_of_sheet w c)).claim slot ≡ (certificate_of functions c).claim slot
unfolding is_stated
states_same functions w c (Before n) e = absurd (true≢false (sym e))
states_same functions w c (AfterZero n) e = absurd (true≢false (sym e))
states_same functions w c (AfterNonzero n) e = absurd (true≢false (sym e))
states_same functions w c (Head n) e = compacts_state.head functions w c n
states_same functions w c (Entry f) e = compacts_state.entered functions w c f
states_same functions w c (ReturnsZero f) e = compacts_state.returns_zero functions w c f
states_same functions w c (ReturnsNonzero f) e = compacts_state.returns_nonzero functions w c f

-- so what keeps the one keeps the other
pub keeps_compact : (functions : List Text) (w : Claim) (c : Sheet) (start : Facts) (t : Items) (x : Certificate) → KeepsStated start t (certificate_of functions c) x
    → KeepsStated start t (stated_by functions (compact_of_sheet w c)) x
keeps_compact functions w c start t x h = record {
  claims = λ slot is. h.claims slot is ∙ sym (states_same functions w c slot is);
  drops = λ f. h.drops f ∙ sym (compacts_state.drops functions w c f);
  rules = h.rules;
}

pub keeps_whole : (functions : List Text) (w : Claim) (c : Sheet) (start : Facts) (t : Items) (x : Certificate) → KeepsStated start t (stated_by functions (compact_of_sheet w c)) x
    → KeepsStated start t (certificate_of functions c) x
keeps_whole functions w c start t x h = record {
  claims = λ slot is. h.claims slot is ∙ states_same functions w c slot is;
  drops = λ f. h.drops f ∙ compacts_state.drops functions w c f;
  rules = h.rules;
}

-- a certificate that keeps the rules keeps what it states
pub keeps_own : (b : List ℕ) (d : Declared) (t : Script) (c : Sheet) → KeepsRules b d t c → KeepsStated (start_facts d) (script_of b t) (claims_in b t c) (claims_in b t c)
unfolding faults
keeps_own b d t c keeps =
    record { claims = λ slot is. refl; drops = λ function. refl; rules = none_filtered (broken (start_facts d) (claims_in b t c)) bounds_filled (script_bounds (script_of b t)) keeps }

module _ (b : List ℕ) (d : Declared) (t : Script) (names : List Text) (start : Claim) (c f : Sheet) (begins : facts start ≡ start_facts d) (fit : Fits b t names c) (keeps : KeepsRules b d t c)
    (fills : FillsTo b t names (compact_of_sheet start c) f) where
  is : IsFilled b t names (start_facts d) (stated_by (functions_in b t) (compact_of_sheet start c)) f
  is = subst (λ x. IsFilled b t names x (stated_by (functions_in b t) (compact_of_sheet start c)) f) begins fills

  filled_above : IsBelow (claims_in b t c) (claims_in b t f)
  filled_above = is.above c fit (keeps_compact (functions_in b t) start c (start_facts d) (script_of b t) (claims_in b t c) (keeps_own b d t c keeps))

  filled_rules : KeepsRules b d t f
  unfolding faults
  filled_rules =
      let own = keeps_whole (functions_in b t) start c (start_facts d) (script_of b t) (claims_in b t f) is.keeps in
      none_with (broken (start_facts d) (claims_in b t f)) (broken (start_facts d) (claims_in b t c)) bounds_filled
      (stated_kept (start_facts d) (claims_in b t c) (claims_in b t f) own.claims own.drops filled_above) (script_bounds (script_of b t)) keeps own.rules

filled_same : (b : List ℕ) (t : Script) (names : List Text) (start : Facts) (stated : Certificate) (f g : Sheet) → IsFilled b t names start stated f → IsFilled b t names start stated g
    → (slot : Slot) → facts ((claims_in b t f).claim slot) ≡ facts ((claims_in b t g).claim slot)
filled_same b t names start stated f g h k slot = ordered.same _ _ ((k.above f h.fit h.keeps).claimed slot) ((h.above g k.fit k.keeps).claimed slot)

pub filled_keeps : FilledKeeps
filled_keeps = record { rules = filled_rules; above = filled_above; same = filled_same }
