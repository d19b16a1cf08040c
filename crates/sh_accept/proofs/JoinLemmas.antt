-- The greatest certificate is what its compact form is filled to: one that states the same and
-- keeps the rules round commands could be joined to it.
use Rattle.std.proofs.Common.{◌≡◌, ℕ, zero, suc, ◌-◌, nat_le, max, Bool, true, false, ◌&&◌, ◌||◌, List, [], ◌∷◌, ◌++◌, filter, length, slice_get, unwrap_or, refl, sym, ◌∙◌, ap, ap₂, subst, arith, true≢false}
use Rattle.std.specs.List.{flat_map}
use Rattle.std.proofs.lemmas.Bool.{and_parts}
use Rattle.std.proofs.lemmas.Bool.Decides.{nat_tests}
use Rattle.std.proofs.lemmas.List.Folds.{list_all-append, list_any-append}
use Rattle.std.specs.Str.{bytes_eq}
use Rattle.sh_tree.specs.declared.limits.TheConstants.{MAX_NESTING}
use Rattle.sh_tree.specs.declared.tree.Script.{Script}
use Rattle.sh_tree.specs.standard.program.Syntax.{Text, Items}
use Rattle.sh_tree.specs.standard.program.Trees.{script_of}
use Rattle.sh_runs.specs.standard.runs.Environment.{is_one_of}
use Rattle.sh_domain.specs.declared.rule.FlowRule.TheVariants.{F13}
use Rattle.sh_domain.specs.Admitted.{Fits, IsAdmitted, IsGreatest, claims_in, functions_in}
use Rattle.sh_domain.specs.Facts.{Facts, Known, Claim, Unreached, Claimed, Declared, Atom, Nowhere, Variable, Function, Parameters, claims, facts, start_facts, within}
use Rattle.sh_domain.specs.Faults.{are_among, broken, faults}
use Rattle.sh_domain.specs.Filled.{is_stated, bounds_filled, KeepsStated, IsFilled}
use Rattle.sh_domain.specs.Order.{IsWithin, IsBelow, AreAmong, Fits as Allowed}
use Rattle.sh_domain.specs.Reading.{are_known, claim_fits, head_fits, command_fits, commands_fit, functions_fit}
use Rattle.sh_domain.specs.Rules.{Constraint, Within, Counted, script_bounds}
use Rattle.sh_domain.specs.Sheets.{Sheet, CommandClaims, nowhere, command_at, claim_at, certificate_of}
use Rattle.sh_domain.specs.Views.{Certificate, Slot, Before, AfterZero, AfterNonzero, Head, Entry, ReturnsZero, ReturnsNonzero, view_facts, lost}
use Rattle.sh_domain.proofs.EachLemmas.{none_both}
use Rattle.sh_domain.proofs.FilledLemmas.{keeps_own, none_filtered, none_told, none_with, stated_kept}
use Rattle.sh_domain.proofs.MonotoneLemmas.{fits_below}
use Rattle.sh_domain.proofs.OrderLemmas.{among_test, within_itself, within_test, within_through}
use Rattle.sh_accept.proofs.CompactLemmas.{and_all}
use Rattle.sh_accept.proofs.LoopLemmas.{one_order}
use Rattle.sh_accept.proofs.OneGreatestLemmas.{as_many}

-- Claims

unfoldable pub joined : Claim → Claim → Claim
joined Unreached e = Unreached
joined (Claimed vs fs n) Unreached = Unreached
joined (Claimed vs fs n) (Claimed ws gs m) = Claimed (vs ++ ws) (fs ++ gs) (max n m)

either : (xs ys : List Text) (x : Text) → is_one_of (xs ++ ys) x ≡ (is_one_of xs x || is_one_of ys x)
either xs ys x = list_any-append (λ y. bytes_eq y x) xs ys

first_within : (c e : Claim) → IsWithin (facts c) (facts (joined c e))
unfolding joined facts claims
first_within Unreached e = within_itself _
first_within (Claimed vs fs n) Unreached = record { claimed = λ x h. refl }
first_within (Claimed vs fs n) (Claimed ws gs m) = record { claimed = go }
  where
    first : (a b : Bool) → a ≡ true → (a || b) ≡ true
    first true b h = refl
    first false b h = absurd (true≢false (sym h))

    go : (x : Atom) → claims (Known (is_one_of vs) (is_one_of fs) n) x ≡ true → claims (Known (is_one_of (vs ++ ws)) (is_one_of (fs ++ gs)) (max n m)) x ≡ true
    go Nowhere h = h
    go (Variable x) h = either vs ws x ∙ first (is_one_of vs x) (is_one_of ws x) h
    go (Function x) h = either fs gs x ∙ first (is_one_of fs x) (is_one_of gs x) h
    go (Parameters k) h = grind (arith, nat_tests)

second_within : (c e : Claim) → IsWithin (facts e) (facts (joined c e))
unfolding joined facts claims
second_within Unreached e = record { claimed = λ x h. refl }
second_within (Claimed vs fs n) Unreached = within_itself _
second_within (Claimed vs fs n) (Claimed ws gs m) = record { claimed = go }
  where
    second : (a b : Bool) → b ≡ true → (a || b) ≡ true
    second true b h = refl
    second false b h = h

    go : (x : Atom) → claims (Known (is_one_of ws) (is_one_of gs) m) x ≡ true → claims (Known (is_one_of (vs ++ ws)) (is_one_of (fs ++ gs)) (max n m)) x ≡ true
    go Nowhere h = h
    go (Variable x) h = either vs ws x ∙ second (is_one_of vs x) (is_one_of ws x) h
    go (Function x) h = either fs gs x ∙ second (is_one_of fs x) (is_one_of gs x) h
    go (Parameters k) h = grind (arith, nat_tests)

both_within : (c e : Claim) (f : Facts) → IsWithin (facts c) f → IsWithin (facts e) f → IsWithin (facts (joined c e)) f
unfolding joined facts claims
both_within Unreached e f h k = h
both_within (Claimed vs fs n) Unreached f h k = k
both_within (Claimed vs fs n) (Claimed ws gs m) f h k = record { claimed = go }
  where
    cases : (a b : Bool) (x : Atom) → (a ≡ true → claims f x ≡ true) → (b ≡ true → claims f x ≡ true) → (a || b) ≡ true → claims f x ≡ true
    cases true b x p q e = p refl
    cases false b x p q e = q e

    go : (x : Atom) → claims (Known (is_one_of (vs ++ ws)) (is_one_of (fs ++ gs)) (max n m)) x ≡ true → claims f x ≡ true
    go Nowhere e = absurd (true≢false (sym e))
    go (Variable x) e = cases (is_one_of vs x) (is_one_of ws x) (Variable x) (h.claimed (Variable x)) (k.claimed (Variable x)) (sym (either vs ws x) ∙ e)
    go (Function x) e = cases (is_one_of fs x) (is_one_of gs x) (Function x) (h.claimed (Function x)) (k.claimed (Function x)) (sym (either fs gs x) ∙ e)
    go (Parameters i) e = cases (nat_le i n) (nat_le i m) (Parameters i) (h.claimed (Parameters i)) (k.claimed (Parameters i)) (grind (arith, nat_tests))

joined_fits : (names : List Text) (c e : Claim) → claim_fits names c ≡ true → claim_fits names e ≡ true → claim_fits names (joined c e) ≡ true
unfolding joined claim_fits
joined_fits names Unreached e h k = refl
joined_fits names (Claimed vs fs n) Unreached h k = refl
joined_fits names (Claimed vs fs n) (Claimed ws gs m) h k =
    let p = and_parts (are_known names vs) (are_known names fs) h in
    let q = and_parts (are_known names ws) (are_known names gs) k in
    and_all _ _ (list_all-append (is_one_of names) vs ws ∙ and_all _ _ p.0 q.0) (list_all-append (is_one_of names) fs gs ∙ and_all _ _ p.1 q.1)

-- Commands

abbrev joined_command : CommandClaims → CommandClaims → CommandClaims
joined_command x y = record { before = joined x.before y.before; zero = joined x.zero y.zero; nonzero = joined x.nonzero y.nonzero; head = y.head }

unfoldable joined_commands : List CommandClaims → List CommandClaims → List CommandClaims
joined_commands (x ∷ xs) (y ∷ ys) = joined_command x y ∷ joined_commands xs ys
joined_commands _ _ = []

command_joined : (xs ys : List CommandClaims) (i : ℕ) → length xs ≡ length ys
    → unwrap_or (slice_get (joined_commands xs ys) i) nowhere ≡ joined_command (unwrap_or (slice_get xs i) nowhere) (unwrap_or (slice_get ys i) nowhere)
unfolding joined_commands joined
command_joined [] [] i e = refl
command_joined [] (y ∷ ys) i e = absurd (omega arith)
command_joined (x ∷ xs) [] i e = absurd (omega arith)
command_joined (x ∷ xs) (y ∷ ys) zero e = refl
command_joined (x ∷ xs) (y ∷ ys) (suc i) e = command_joined xs ys i (omega arith)

commands_joined : (names : List Text) (ls : List Bool) (xs ys : List CommandClaims) → commands_fit names ls xs ≡ true → commands_fit names ls ys ≡ true → commands_fit names ls (joined_commands xs ys) ≡ true
unfolding joined_commands commands_fit
commands_joined names [] [] [] h k = refl
commands_joined names [] [] (y ∷ ys) h k = absurd (true≢false (sym k))
commands_joined names [] (x ∷ xs) ys h k = absurd (true≢false (sym h))
commands_joined names (l ∷ ls) [] ys h k = absurd (true≢false (sym h))
commands_joined names (l ∷ ls) (x ∷ xs) [] h k = absurd (true≢false (sym k))
commands_joined names (l ∷ ls) (x ∷ xs) (y ∷ ys) h k =
    let p = and_parts (command_fits names l x) (commands_fit names ls xs) h in
    let q = and_parts (command_fits names l y) (commands_fit names ls ys) k in
    let p3 = and_parts (claim_fits names x.before && claim_fits names x.zero && claim_fits names x.nonzero) (head_fits names l x.head) p.0 in
    let q3 = and_parts (claim_fits names y.before && claim_fits names y.zero && claim_fits names y.nonzero) (head_fits names l y.head) q.0 in
    let p2 = and_parts (claim_fits names x.before && claim_fits names x.zero) (claim_fits names x.nonzero) p3.0 in
    let q2 = and_parts (claim_fits names y.before && claim_fits names y.zero) (claim_fits names y.nonzero) q3.0 in
    let p1 = and_parts (claim_fits names x.before) (claim_fits names x.zero) p2.0 in
    let q1 = and_parts (claim_fits names y.before) (claim_fits names y.zero) q2.0 in
    and_all _ _
    (and_all _ _
    (and_all _ _ (and_all _ _ (joined_fits names x.before y.before p1.0 q1.0) (joined_fits names x.zero y.zero p1.1 q1.1)) (joined_fits names x.nonzero y.nonzero p2.1 q2.1)) q3.1)
    (commands_joined names ls xs ys p.1 q.1)

-- Sheets

-- what either claims round commands, with what the second states
abbrev joined_sheet : Sheet → Sheet → Sheet
joined_sheet o c = record { commands = joined_commands o.commands c.commands; functions = c.functions }

none_two : {A : Type 0} {B : Type 0} (f g h : A → List B) → ((x : A) → g x ≡ [] → h x ≡ [] → f x ≡ []) → (xs : List A) → flat_map g xs ≡ [] → flat_map h xs ≡ [] → flat_map f xs ≡ []
none_two f g h both [] p q = refl
none_two f g h both (x ∷ xs) p q =
    let a = none_both (g x) (flat_map g xs) p in
    let b = none_both (h x) (flat_map h xs) q in
    ap₂ (λ u v. u ++ v) (both x a.0 b.0) (none_two f g h both xs a.1 b.1)

module _ (functions : List Text) (o c : Sheet) (as_long : length o.commands ≡ length c.commands) where
  abbrev j : Certificate
  j = certificate_of functions (joined_sheet o c)

  abbrev one : Certificate
  one = certificate_of functions o

  abbrev other : Certificate
  other = certificate_of functions c

  at_command : (n : ℕ) → command_at (joined_sheet o c) n ≡ joined_command (command_at o n) (command_at c n)
  at_command n = command_joined o.commands c.commands (n - 1) as_long

  -- at each place it is what either claims, or what the second does
  least : (slot : Slot) (f : Facts) → IsWithin (facts (one.claim slot)) f → IsWithin (facts (other.claim slot)) f → IsWithin (facts (j.claim slot)) f
  unfolding claim_at
  least (Before n) f h k = subst (λ (x : CommandClaims). IsWithin (facts x.before) f) (sym (at_command n)) (both_within (command_at o n).before (command_at c n).before f h k)
  least (AfterZero n) f h k = subst (λ (x : CommandClaims). IsWithin (facts x.zero) f) (sym (at_command n)) (both_within (command_at o n).zero (command_at c n).zero f h k)
  least (AfterNonzero n) f h k = subst (λ (x : CommandClaims). IsWithin (facts x.nonzero) f) (sym (at_command n)) (both_within (command_at o n).nonzero (command_at c n).nonzero f h k)
  least (Head n) f h k = subst (λ (x : CommandClaims). IsWithin (facts (unwrap_or x.head Unreached)) f) (sym (at_command n)) k
  least (Entry g) f h k = k
  least (ReturnsZero g) f h k = k
  least (ReturnsNonzero g) f h k = k

  second_below : IsBelow other j
  unfolding claim_at
  second_below = record { claimed = claimed; dropped = λ function. record { vars = λ x h. h; functions = λ x h. h } }
    where
      claimed : (slot : Slot) → IsWithin (facts (other.claim slot)) (facts (j.claim slot))
      claimed (Before n) = subst (λ (x : CommandClaims). IsWithin (facts (command_at c n).before) (facts x.before)) (sym (at_command n)) (second_within (command_at o n).before (command_at c n).before)
      claimed (AfterZero n) = subst (λ (x : CommandClaims). IsWithin (facts (command_at c n).zero) (facts x.zero)) (sym (at_command n)) (second_within (command_at o n).zero (command_at c n).zero)
      claimed (AfterNonzero n) = subst (λ (x : CommandClaims). IsWithin (facts (command_at c n).nonzero) (facts x.nonzero)) (sym (at_command n)) (second_within (command_at o n).nonzero (command_at c n).nonzero)
      claimed (Head n) = subst (λ (x : CommandClaims). IsWithin (facts (unwrap_or (command_at c n).head Unreached)) (facts (unwrap_or x.head Unreached))) (sym (at_command n)) (within_itself _)
      claimed (Entry g) = within_itself _
      claimed (ReturnsZero g) = within_itself _
      claimed (ReturnsNonzero g) = within_itself _

  module _ (start : Facts) (t : Items) (keeps : KeepsStated start t other one) where
    first_below : IsBelow one j
    unfolding claim_at is_stated
    first_below = record {
      claimed = claimed;
      dropped = λ function. subst (λ x. AreAmong x (one.drops function)) (keeps.drops function) (record { vars = λ x h. h; functions = λ x h. h });
    }
      where
        claimed : (slot : Slot) → IsWithin (facts (one.claim slot)) (facts (j.claim slot))
        claimed (Before n) = subst (λ (x : CommandClaims). IsWithin (facts (command_at o n).before) (facts x.before)) (sym (at_command n)) (first_within (command_at o n).before (command_at c n).before)
        claimed (AfterZero n) = subst (λ (x : CommandClaims). IsWithin (facts (command_at o n).zero) (facts x.zero)) (sym (at_command n)) (first_within (command_at o n).zero (command_at c n).zero)
        claimed (AfterNonzero n) = subst (λ (x : CommandClaims). IsWithin (facts (command_at o n).nonzero) (facts x.nonzero)) (sym (at_command n)) (first_within (command_at o n).nonzero (command_at c n).nonzero)
        claimed (Head n) = subst (λ x. IsWithin (facts x) (facts (j.claim (Head n)))) (sym (keeps.claims (Head n) refl)) (second_below.claimed (Head n))
        claimed (Entry g) = subst (λ x. IsWithin (facts x) (facts (j.claim (Entry g)))) (sym (keeps.claims (Entry g) refl)) (second_below.claimed (Entry g))
        claimed (ReturnsZero g) = subst (λ x. IsWithin (facts x) (facts (j.claim (ReturnsZero g)))) (sym (keeps.claims (ReturnsZero g) refl)) (second_below.claimed (ReturnsZero g))
        claimed (ReturnsNonzero g) = subst (λ x. IsWithin (facts x) (facts (j.claim (ReturnsNonzero g)))) (sym (keeps.claims (ReturnsNonzero g) refl)) (second_below.claimed (ReturnsNonzero g))

    -- a constraint that both keep
    kept : (k : Constraint) → broken start other k ≡ [] → broken start one k ≡ [] → broken start j k ≡ []
    unfolding broken Allowed
    kept (Within slot n rule v) h g =
        none_told (within (j.claim slot) (view_facts start j v)) n rule
        ((within_test (j.claim slot) (view_facts start j v)).1
        (least slot (view_facts start j v) (fits_below start one j (Within slot n rule v) first_below g) (fits_below start other j (Within slot n rule v) second_below h)))
    kept (Counted function n loss) h g =
        none_told (are_among (lost start j n loss) (j.drops function)) n F13
        ((among_test (lost start j n loss) (j.drops function)).1 (fits_below start other j (Counted function n loss) second_below h))

    -- So the second, if it keeps all rules, keeps them where the first is joined to it.
    all_kept : faults start other t ≡ [] → faults start j t ≡ []
    unfolding faults claim_at is_stated
    all_kept h =
        none_with (broken start j) (broken start other) bounds_filled
        (stated_kept start other j same_claims (λ function. refl) second_below) (script_bounds t) h
        (none_two (broken start j) (broken start other) (broken start one) kept (filter bounds_filled (script_bounds t)) (none_filtered (broken start other) bounds_filled (script_bounds t) h) keeps.rules)
      where
        same_claims : (slot : Slot) → is_stated slot ≡ true → j.claim slot ≡ other.claim slot
        same_claims (Before n) e = absurd (true≢false (sym e))
        same_claims (AfterZero n) e = absurd (true≢false (sym e))
        same_claims (AfterNonzero n) e = absurd (true≢false (sym e))
        same_claims (Head n) e = ap (λ (x : CommandClaims). unwrap_or x.head Unreached) (at_command n)
        same_claims (Entry g) e = refl
        same_claims (ReturnsZero g) e = refl
        same_claims (ReturnsNonzero g) e = refl

-- The greatest certificate

module _ (b : List ℕ) (d : Declared) (t : Script) (names : List Text) (c : Sheet) (a : IsAdmitted b d t names) (g : IsGreatest b d t names c) where
  joined_below : (o : Sheet) → Fits b t names o → KeepsStated (start_facts d) (script_of b t) (claims_in b t c) (claims_in b t o) → IsBelow (claims_in b t o) (claims_in b t c)
  joined_below o fit keeps =
      let one_loops : fit.loops ≡ g.fit.loops = one_order b t MAX_NESTING a.reading.1.0 a.reading.1.1 g.fit.loops fit.loops g.fit.are_loops fit.are_loops in
      let first = and_parts (commands_fit names fit.loops o.commands) (functions_fit names (length (functions_in b t)) o.functions) fit.fit in
      let second = and_parts (commands_fit names g.fit.loops c.commands) (functions_fit names (length (functions_in b t)) c.functions) g.fit.fit in
      let own : commands_fit names g.fit.loops o.commands ≡ true = subst (λ ls. commands_fit names ls o.commands ≡ true) one_loops first.0 in
      let as_long : length o.commands ≡ length c.commands = as_many names g.fit.loops o.commands own ∙ sym (as_many names g.fit.loops c.commands second.0) in
      let joined_fit : Fits b t names (joined_sheet o c) =
      record { loops = g.fit.loops; are_loops = g.fit.are_loops; fit = and_all _ _ (commands_joined names g.fit.loops o.commands c.commands own second.0) second.1 } in
      let up = first_below (functions_in b t) o c as_long (start_facts d) (script_of b t) keeps in
      let down = g.above (joined_sheet o c) joined_fit (all_kept (functions_in b t) o c as_long (start_facts d) (script_of b t) keeps g.rules) in
      record {
        claimed = λ slot. within_through _ _ _ (up.claimed slot) (down.claimed slot);
        dropped = λ function. record {
          vars = λ x h. (up.dropped function).vars x ((down.dropped function).vars x h);
          functions = λ x h. (up.dropped function).functions x ((down.dropped function).functions x h);
        };
      }

  -- it is filled from what it states
  pub greatest_filled : IsFilled b t names (start_facts d) (claims_in b t c) c
  greatest_filled = record {
    fit = g.fit;
    keeps = keeps_own b d t c g.rules;
    above = joined_below;
    spelled = g.spelled;
  }
