-- Counts that are solved apart stay above those of each certificate that keeps the rules.
use Rattle.std.proofs.Common.{◌≡◌, ℕ, zero, suc, ◌+◌, ◌-◌, ◌*◌, ◌%◌, ◌<◌, ◌≤◌, min, not, Bool, true, false, Option, Some, None, option_map, List, [], ◌∷◌, ◌++◌, length, flat_map, get_or, is_some, refl, sym, ap, ap₂, ◌∙◌, subst, arith, true≢false}
use Rattle.std.specs.Prelude.{IfSome, unwrap_or, option_and_then}
use Rattle.std.specs.List.{list_all}
use Rattle.std.proofs.lemmas.Bool.{and_parts}
use Rattle.std.proofs.lemmas.Nat.{div-mul-add, mod-mul-add}
use Rattle.sh_tree.specs.declared.tree.Script.{Script}
use Rattle.sh_tree.specs.standard.program.Syntax as p
use Rattle.sh_tree.specs.standard.program.Syntax.{Text}
use Rattle.sh_tree.specs.standard.program.Trees.{script_of}
use Rattle.sh_runs.specs.Calls.{Row, Table, table_of}
use Rattle.sh_runs.specs.standard.runs.Environment.{is_one_of}
use Rattle.sh_domain.specs.declared.certificate.Certificate as kept
use Rattle.sh_domain.specs.declared.certificate.Facts as value
use Rattle.sh_domain.specs.declared.certificate.Facts.TheVariants as value_kind
use Rattle.sh_domain.specs.Admitted.{claims_in, functions_in}
use Rattle.sh_domain.specs.Entries.{Entered, script_entered}
use Rattle.sh_domain.specs.Facts.{Facts, NotReached, Known, Claim, Unreached, Claimed, facts}
use Rattle.sh_domain.specs.Faults.{broken}
use Rattle.sh_domain.specs.Knowledge.{at_number}
use Rattle.sh_domain.specs.Names.{number_of}
use Rattle.sh_domain.specs.Order.{IsWithin}
use Rattle.sh_domain.specs.Reading.{claim_fits}
use Rattle.sh_domain.specs.Rules.{script_bounds}
use Rattle.sh_domain.specs.Sheets.{Sheet, claim_at}
use Rattle.sh_domain.specs.Views as views
use Rattle.sh_domain.specs.Views.{Slot}
use Rattle.sh_domain.proofs.EachLemmas.{each_passes, each_weaker}
use Rattle.sh_domain.proofs.KnowledgeLemmas.{has_number, one_number}
use Rattle.sh_domain.proofs.OrderLemmas.{among_all, known_parts, known_within, nowhere_known}
use Rattle.sh_gains.proofs.TextLemmas.{has_texts, own_texts, table_texts}
use Rattle.sh_rules.proofs.PrefixLemmas.{table_defines}
use Rattle.sh_counts.specs.Equations.{worth}
use Rattle.sh_tally.specs.declared.bounds.Tally.{Tally}
use Rattle.sh_tally.specs.declared.places.End.{End}
use Rattle.sh_tally.specs.declared.places.End.TheVariants as end
use Rattle.sh_tally.specs.Counts.{HasAtMost}
use Rattle.sh_tally.specs.Views.{end_place, function_index, index_of, part_place}
use Rattle.sh_tally.specs.Walks as tally
use Rattle.sh_tally.specs.Walks.{AreOver, HasCount, HasTexts, MayLack}
use Rattle.sh_drafts.specs.declared.place.Part.TheVariants as part
use Rattle.sh_drafts.specs.declared.place.Place.{Place}
use Rattle.sh_drafts.specs.declared.subject.Subject.{Subject}
use Rattle.sh_turns.specs.Counts.{AreClaimed, AreOverAll, AreUnsure, IsUnsure, args_at, args_of, count_place, end_by, index_by, may_lack, part_by, ranked_place}
use Rattle.sh_drafts.specs.Facts as number
use Rattle.sh_drafts.specs.Kept.{fact_of}
use Rattle.sh_drafts.specs.Numbers.{by_name, named}
use Rattle.sh_drafts.specs.Places.{at, claim_there, kept_at, place_of}
use Rattle.sh_drafts.specs.Ranks.{IsNumbered}
use Rattle.sh_drafts.specs.Stated.{asked_bounds}
use Rattle.sh_drafts.specs.Starts.{start_of}
use Rattle.sh_drafts.specs.Ready.{IsReady, Keeps}
use Rattle.sh_drafts.specs.Turns.{sheet_by}
use Rattle.sh_drafts.specs.Working.{claims}
use Rattle.sh_sweeps.proofs.AskingLemmas.{commands_numbered}
use Rattle.sh_drafts.proofs.SheetLemmas.{claimed, placed}
use Rattle.sh_sweeps.proofs.StatedLemmas.{all_asked}
use Rattle.sh_drafts.proofs.ReadyLemmas.{names_numbered}

-- The places of counts

ranked : (n r : ℕ) → r < 5 → Some (count_place (n * 5 + r)) ≡ Some (ranked_place n r)
ranked n r low = ap Some (ap₂ ranked_place (div-mul-add n 5 r low) (mod-mul-add n 5 r low))

-- the place of an end of a function
end_ranked : (k r : ℕ) → r < 3 → ranked_place (k * 3 + r) 4 ≡ at (end_by r) k
unfolding part_by end_by index_by
end_ranked k r low = ap₂ at (ap end_by whole) (ap (λ m. index_by (end_by m) (k * 3 + r)) whole ∙ number r)
  where
    whole : (k * 3 + r) % 3 ≡ r
    whole = mod-mul-add k 3 r low

    number : (m : ℕ) → index_by (end_by m) (k * 3 + r) ≡ k
    number zero = div-mul-add k 3 r low
    number (suc zero) = div-mul-add k 3 r low
    number (suc (suc m)) = div-mul-add k 3 r low

ranked_function : (e : End) → end_place e < 3 → (o : Option ℕ) → option_map (at (end_by (end_place e))) o ≡ option_map count_place (option_map (function_index e) o)
ranked_function e low None = refl
ranked_function e low (Some k) = ap Some (sym (end_ranked k (end_place e) low)) ∙ sym (ranked (k * 3 + end_place e) 4 (omega arith))

-- a slot has the place of its count
slot_place : (functions : List Text) (slot : Slot) → place_of functions slot ≡ option_map count_place (index_of functions slot)
unfolding place_of index_of part_place end_place part_by end_by index_by
slot_place functions (views.Before n) = sym (ranked n 0 (omega arith))
slot_place functions (views.AfterZero n) = sym (ranked n 1 (omega arith))
slot_place functions (views.AfterNonzero n) = sym (ranked n 2 (omega arith))
slot_place functions (views.Head n) = sym (ranked n 3 (omega arith))
slot_place functions (views.Entry f) = ranked_function end.Entered (omega arith) (number_of functions f)
slot_place functions (views.ReturnsZero f) = ranked_function end.Zero (omega arith) (number_of functions f)
slot_place functions (views.ReturnsNonzero f) = ranked_function end.Nonzero (omega arith) (number_of functions f)

-- one more count is claimed
more : (P : ℕ → ℕ → Type 0) (cs : List (Option ℕ)) (o : Option ℕ) → ((i a : ℕ) → get_or cs i None ≡ Some a → P i a) → IfSome o (P (length cs)) → (i a : ℕ) → get_or (cs ++ o ∷ []) i None ≡ Some a → P i a
more P [] o all one zero a e = subst (λ z. IfSome z (P 0)) e one
more P [] o all one (suc i) a e = absurd (true≢false (sym (ap is_some e)))
more P (x ∷ cs) o all one zero a e = all zero a e
more P (x ∷ cs) o all one (suc i) a e = more (λ j b. P (suc j) b) cs o (λ j b k. all (suc j) b k) one i a e

pub claimed_more : (c : kept.Certificate) (cs new : List (Option ℕ)) (o : Option ℕ) (n : ℕ) → length cs ≡ n → new ≡ cs ++ o ∷ [] → AreClaimed c cs → IfSome o (λ a. args_at c (count_place n) ≡ Some a) → AreClaimed c new
claimed_more c cs new o n sized pushed are one =
    subst (AreClaimed c) (sym pushed) (more (λ i a. args_at c (count_place i) ≡ Some a) cs o are (subst (λ k. IfSome o (λ a. args_at c (count_place k) ≡ Some a)) (sym sized) one))

-- All names, and so many parameters

module _ (names : List Text) where
  in_all : (x : Text) → is_one_of names x ≡ true → at_number (λ k. true) (number_of names x) ≡ true
  unfolding at_number
  in_all x e = by (number_of names x) refl
    where
      by : (o : Option ℕ) → number_of names x ≡ o → at_number (λ k. true) o ≡ true
      by None is = absurd (true≢false (sym e ∙ has_number names x ∙ ap is_some is))
      by (Some k) is = refl

  pub all_over : (a : ℕ) (c : Claim) → claim_fits names c ≡ true → HasAtMost a (facts c) → IsWithin (facts c) (by_name names (number.with_args a))
  unfolding claim_fits facts HasAtMost by_name
  all_over a Unreached fits few = absurd few
  all_over a (Claimed vs fs b) fits few =
      let both = and_parts (list_all (is_one_of names) vs) (list_all (is_one_of names) fs) fits in
      known_within _ _ _ _ b a (λ x e. in_all x (among_all (is_one_of names) vs both.0 x e)) (λ x e. in_all x (among_all (is_one_of names) fs both.1 x e)) few

-- Counts of facts

abbrev args_in : Facts → ℕ
args_in NotReached = 0
args_in (Known v f a) = a

-- what is claimed if a count is, and no more than that
abbrev count_in : Option ℕ → Facts → ℕ
count_in None f = 0
count_in (Some a) f = min a (args_in f)

count_few : (o : Option ℕ) (f : Facts) → ((a : ℕ) → o ≡ Some a → a ≤ 65535) → count_in o f ≤ 65535
count_few None f few = omega arith
count_few (Some a) f few = let l = few a refl in omega (arith, l)

count_below : (o : Option ℕ) (f : Facts) (a : ℕ) → o ≡ Some a → count_in o f ≤ a
count_below o f a e = subst (λ (z : Option ℕ). count_in z f ≤ a) (sym e) (omega arith)

count_is : (o : Option ℕ) (f : Facts) (a : ℕ) → o ≡ Some a → HasAtMost a f → HasCount (count_in o f) f
unfolding HasAtMost HasCount
count_is o NotReached a e few = absurd few
count_is o (Known v g x) a e few = ap (λ (z : Option ℕ). count_in z (Known v g x)) e ∙ omega (arith, few)

count_most : (o : Option ℕ) (f : Facts) (a n : ℕ) → o ≡ Some a → HasAtMost a f → count_in o f ≤ n → HasAtMost n f
unfolding HasAtMost
count_most o NotReached a n e few less = absurd few
count_most o (Known v g x) a n e few less = let l = subst (λ (z : Option ℕ). count_in z (Known v g x) ≤ n) e less in omega (arith, few, l)

-- what is within a claim of so many parameters has so many at most
within_args : (names : List Text) (c : kept.Certificate) (q : Place) (f : Facts) (a : ℕ) → IsWithin f (named names (claims c q)) → args_at c q ≡ Some a → HasAtMost a f
unfolding claims named by_name fact_of args_of HasAtMost
within_args names c q f a w e = go (kept_at c q) f w e
  where
    go : (o : Option value.Facts) (f : Facts) → IsWithin f (named names (option_map (fact_of c.rows.rows) o)) → option_and_then args_of o ≡ Some a → HasAtMost a f
    go None f w e = absurd (true≢false (sym (ap is_some e)))
    go (Some value_kind.NotReached) f w e = absurd (true≢false (sym (ap is_some e)))
    go (Some (value_kind.Known v g b)) NotReached w e = absurd (nowhere_known _ _ _ w)
    go (Some (value_kind.Known v g b)) (Known x y d) w e = let l = (known_parts _ _ _ _ d b w).args in let same : b ≡ a = ap (λ (o : Option ℕ). unwrap_or o 0) e in let few : d ≤ a = omega (arith, l, same) in few

-- what is within a claim lacks a function that the claim lacks
within_lacks : (names : List Text) (c : kept.Certificate) (q : Place) (f : Facts) (x : Text) (g : value.Facts) → IsWithin f (named names (claims c q)) → kept_at c q ≡ Some g → may_lack names c x g ≡ true → MayLack x f
unfolding claims named by_name fact_of may_lack MayLack
within_lacks names c q f x g w e lacks = go g f (subst (λ o. IsWithin f (named names (option_map (fact_of c.rows.rows) o))) e w) lacks
  where
    among : (a b : Bool) → (a ≡ true → b ≡ true) → not b ≡ true → a ≡ false
    among false b h none = refl
    among true b h none = absurd (true≢false (sym none ∙ ap not (h refl)))

    go : (g : value.Facts) (f : Facts) → IsWithin f (named names (option_map (fact_of c.rows.rows) (Some g))) → may_lack names c x g ≡ true → MayLack x f
    go value_kind.NotReached f w lacks = absurd (true≢false (sym lacks))
    go (value_kind.Known v k b) NotReached w lacks = tt
    go (value_kind.Known v k b) (Known y z d) w lacks = among _ _ ((known_parts _ _ _ _ d b w).functions x) lacks

-- the function of an index has one name
pub unsure_there : (s : Subject) (c : kept.Certificate) (n i : ℕ) (x : Text) (claim : value.Facts) (q : Place) → number_of s.table.now.functions.names x ≡ Some i → q ≡ at part.Before (n - 1)
    → Some claim ≡ kept_at c q → may_lack s.names.now c x claim ≡ true → IsUnsure s c n i
unsure_there s c n i x claim q named place there lacks = record {
  claim = claim;
  there = ap (kept_at c) (sym place) ∙ sym there;
  lacks = λ f is. ap (λ (y : Text). may_lack s.names.now c y claim) (one_number s.table.now.functions.names i f x is named) ∙ lacks;
}

-- one more command calls a function
pub unsure_more : (s : Subject) (c : kept.Certificate) (us new : List (Option ℕ)) (o : Option ℕ) (n : ℕ) → length us ≡ n → new ≡ us ++ o ∷ [] → AreUnsure s c us → IfSome o (IsUnsure s c n) → AreUnsure s c new
unsure_more s c us new o n sized pushed are one = subst (AreUnsure s c) (sym pushed) (more (IsUnsure s c) us o are (subst (λ k. IfSome o (IsUnsure s c k)) (sym sized) one))

args_few : (names : List Text) (c : kept.Certificate) (q : Place) (a : ℕ) → ((f : value.Facts) → kept_at c q ≡ Some f → IsNumbered (length names) (fact_of c.rows.rows f)) → args_at c q ≡ Some a → a ≤ 65535
unfolding fact_of args_of IsNumbered
args_few names c q a fine e = go (kept_at c q) refl e
  where
    go : (o : Option value.Facts) → kept_at c q ≡ o → option_and_then args_of o ≡ Some a → a ≤ 65535
    go None k e = absurd (true≢false (sym (ap is_some e)))
    go (Some value_kind.NotReached) k e = absurd (true≢false (sym (ap is_some e)))
    go (Some (value_kind.Known v g b)) k e = let l = (fine (value_kind.Known v g b) k).args in let same : b ≡ a = ap (λ (o : Option ℕ). unwrap_or o 0) e in omega (arith, l, same)

-- The texts of a table

texts_of : (y : Tally) (rows : List Row) → y.table.now.rows ≡ rows → y.table.now.script ≡ y.script.now → (c : p.Command) → has_texts rows c ≡ true → HasTexts y c
unfolding HasTexts
texts_of y rows same text (p.command n offset (p.Simple es) rs) h = record { script = text; texts = own_texts y.table.now.rows n offset es rs (subst (λ r. has_texts r (p.command n offset (p.Simple es) rs) ≡ true) (sym same) h) }
texts_of y rows same text (p.command n offset (p.Group list) rs) h = tt
texts_of y rows same text (p.command n offset (p.Subshell list) rs) h = tt
texts_of y rows same text (p.command n offset (p.Conditional bs z) rs) h = tt
texts_of y rows same text (p.command n offset (p.Loop kind condition body) rs) h = tt
texts_of y rows same text (p.command n offset (p.For name words body) rs) h = tt
texts_of y rows same text (p.command n offset (p.Case word cs) rs) h = tt
texts_of y rows same text (p.command n offset (p.Define name body) rs) h = tt

table_script : (b : List ℕ) (t : Script) → (table_of b t).script ≡ b
unfolding table_of
table_script b t = refl

-- A certificate that keeps the rules keeps those of the tally

module _ (s : Subject) (c : kept.Certificate) (n : ℕ) (ready : IsReady s c n) (free : s.stated ≡ false) (cs : List (Option ℕ)) (are : AreClaimed c cs) (other : Sheet) (keeps : Keeps s other) where
  abbrev functions : List Text
  functions = functions_in s.script.now s.tree.now

  abbrev there : ℕ → Facts
  there i = facts (claim_there other (Some (count_place i)))

  abbrev u : ℕ → ℕ
  u i = count_in (get_or cs i None) (there i)

  -- the other certificate claims no more there
  within_there : (slot : Slot) (q : Place) → place_of functions slot ≡ Some q → IsWithin (facts (claim_there other (Some q))) (named s.names.now (claims c q))
  within_there slot q place =
      let own = claimed s.names.now (names_numbered s c n ready) ready.loops ready.functions c ready.working q in
      let both : IsWithin (facts (claim_there other (Some q))) (facts (claim_there (sheet_by s.names.now c) (Some q))) =
      subst (λ o. IsWithin (facts (claim_there other o)) (facts (claim_there (sheet_by s.names.now c) o))) place
      (subst (λ x. IsWithin (facts x) (facts (claim_there (sheet_by s.names.now c) (place_of functions slot)))) (placed functions other slot)
      (subst (λ x. IsWithin (facts (claim_at functions other slot)) (facts x)) (placed functions (sheet_by s.names.now c) slot) ((ready.over other keeps).claimed slot))) in
      subst (IsWithin (facts (claim_there other (Some q)))) own both

  -- if a run comes there by the certificate, one comes by the other certificate
  reached : (slot : Slot) (q : Place) (a : ℕ) → place_of functions slot ≡ Some q → args_at c q ≡ Some a → HasAtMost a (facts (claim_there other (Some q)))
  reached slot q a place args = within_args s.names.now c q (facts (claim_there other (Some q))) a (within_there slot q place) args

  -- if a function may be undefined before a command by the certificate, it may be by the other one
  lacking : (k i : ℕ) (f : Text) → IsUnsure s c k i → number_of s.table.now.functions.names f ≡ Some i → MayLack f (facts ((claims_in s.script.now s.tree.now other).claim (views.Before k)))
  unfolding place_of
  lacking k i f is named =
      let q : Place = at part.Before (k - 1) in
      subst (λ x. MayLack f (facts x)) (sym (placed functions other (views.Before k)))
      (within_lacks s.names.now c q (facts (claim_there other (Some q))) f is.claim (within_there (views.Before k) q refl) is.there (is.lacks f named))

  module _ (us : List (Option ℕ)) (unsure : AreUnsure s c us) (y : Tally) (script : y.script.now ≡ s.script.now) (table : y.table.now ≡ table_of s.script.now s.tree.now) (counts : y.places.counts.now ≡ cs) (flags : y.unsure.now ≡ us) where
    of_count : (slot : Slot) (i : ℕ) → index_of y.table.now.functions.names slot ≡ Some i → place_of functions slot ≡ Some (count_place i)
    of_count slot i e =
        slot_place functions slot
        ∙ ap (λ (x : Table). option_map count_place (index_of x.functions.names slot)) (sym table) ∙ ap (option_map count_place) e

    claimed_in : (i a : ℕ) → get_or y.places.counts.now i None ≡ Some a → get_or cs i None ≡ Some a
    claimed_in i a e = ap (λ (l : List (Option ℕ)). get_or l i None) (sym counts) ∙ e

    has_count : (slot : Slot) (i a : ℕ) → index_of y.table.now.functions.names slot ≡ Some i → get_or y.places.counts.now i None ≡ Some a
        → HasCount (u i) (facts ((claims_in s.script.now s.tree.now other).claim slot))
    has_count slot i a at is =
        let place = of_count slot i at in
        let here = claimed_in i a is in
        subst (λ x. HasCount (u i) (facts x)) (sym (placed functions other slot ∙ ap (claim_there other) place))
        (count_is (get_or cs i None) (there i) a here (reached slot (count_place i) a place (are i a here)))

    keeps_tally : tally.Keeps y (script_of s.script.now s.tree.now) u
    keeps_tally =
        let b = s.script.now in
        let t = s.tree.now in
        record {
          functions = λ f. sym (table_defines b t f) ∙ ap (λ (x : Table). is_one_of x.functions.names f) (sym table);
          texts = each_weaker (λ (e : Entered). texts_of y (table_of b t).rows (ap (λ (x : Table). x.rows) table) (ap (λ (x : Table). x.script) table ∙ table_script b t ∙ sym script) e.command) (script_entered (script_of b t))
              (each_passes (λ (e : Entered). has_texts (table_of b t).rows e.command) (script_entered (script_of b t)) (table_texts b t (commands_numbered b s.policy.now t s.names.now ready.admitted)));
          few = λ i. count_few (get_or cs i None) (there i) (λ a e. args_few s.names.now c (count_place i) a (λ f k. (ready.working.facts (count_place i) f k).numbered) (are i a e));
          below = λ i a e. count_below (get_or cs i None) (there i) a (claimed_in i a e);
          known = start_of s;
          claims = claims_in b t other;
          rules = subst (λ ks. flat_map (broken (start_of s) (claims_in b t other)) ks ≡ []) (ap (λ x. asked_bounds x (script_bounds (script_of b t))) free ∙ all_asked (script_bounds (script_of b t))) keeps.rules;
          counts = has_count;
          unsure = λ k f is. lacking k is.index f (unsure k is.index (ap (λ (l : List (Option ℕ)). get_or l k None) (sym flags) ∙ is.told)) (ap (λ (x : Table). number_of x.functions.names f) (s.listed ∙ sym table) ∙ is.place);
        }

    at_most : (counts : List ℕ) → AreOver y (script_of s.script.now s.tree.now) counts → (i a : ℕ) → get_or cs i None ≡ Some a → (slot : Slot) → place_of functions slot ≡ Some (count_place i) → HasAtMost (worth counts i) (there i)
    at_most solved over i a here slot place =
        count_most (get_or cs i None) (there i) a (worth solved i) here (reached slot (count_place i) a place (are i a here)) (over u keeps_tally i a (ap (λ (l : List (Option ℕ)). get_or l i None) counts ∙ here))

-- so no certificate that keeps the rules has more parameters at a place than what is solved
pub over_all : (s : Subject) (c : kept.Certificate) (n : ℕ) → IsReady s c n → s.stated ≡ false → (cs us : List (Option ℕ)) → AreClaimed c cs → AreUnsure s c us → (y : Tally) → y.script.now ≡ s.script.now
    → y.table.now ≡ table_of s.script.now s.tree.now → y.places.counts.now ≡ cs → y.unsure.now ≡ us → (counts : List ℕ) → AreOver y (script_of s.script.now s.tree.now) counts → AreOverAll s cs counts
over_all s c n ready free cs us are unsure y script table counts flags solved over i a here other keeps slot place = at_most s c n ready free cs are other keeps us unsure y script table counts flags solved over i a here slot place
