-- What is stated as a sheet, and the certificate that it is filled to.
use Rattle.std.proofs.Common.{◌≡◌, ℕ, zero, suc, ◌+◌, ◌≤◌, nat_eq, nat_lt, cond, Bool, true, false, ◌&&◌, if◌then◌else◌, Option, Some, None, option_map, is_some, List, [], ◌∷◌, filter, flat_map, length, map, slice_get, unwrap_or, refl, sym, ap, ap₂, ◌∙◌, subst, arith, inl, inr, true≢false}
use Rattle.std.specs.Prelude.{option_and_then}
use Rattle.std.specs.List.{list_all}
use Rattle.std.specs.Map.{lookup}
use Rattle.std.proofs.lemmas.Bool.{and_parts, cases_Bool, cases_lt, eqb-true, le-ltb, lt-ltb}
use Rattle.std.proofs.lemmas.List.{length-map}
use Rattle.std.proofs.lemmas.List.Elements.{filter_agree}
use Rattle.indexmap.specs.IndexMap.{get}
use Rattle.sh_rows.specs.declared.bits.BitRow.{BitRow}
use Rattle.sh_tree.specs.standard.language.Bytes.{is_name}
use Rattle.sh_tree.specs.standard.program.Syntax.{Text}
use Rattle.sh_tree.specs.standard.program.Trees.{script_of}
use Rattle.sh_domain.specs.Filled.{FillsTo, IsFilled, bounds_filled, is_stated}
use Rattle.sh_domain.specs.declared.certificate.Certificate as kept
use Rattle.sh_domain.specs.declared.certificate.Facts as value
use Rattle.sh_domain.specs.declared.certificate.FunctionEntry.{FunctionEntry}
use Rattle.sh_domain.specs.Admitted.{IsAdmitted, claims_in, functions_in}
use Rattle.sh_domain.specs.Certificates.{claim_of, function_claims, in_byte_order}
use Rattle.sh_domain.specs.Facts.{Claim, Unreached, facts}
use Rattle.sh_domain.specs.Forms.{is_variable, is_rising}
use Rattle.sh_domain.specs.Knowledge.{AreNumbered, at_number}
use Rattle.sh_domain.specs.Faults.{broken}
use Rattle.sh_domain.specs.Names.{are_distinct, number_of}
use Rattle.sh_domain.specs.Operands.{Names}
use Rattle.sh_domain.specs.Order.{AreAmong, IsBelow, IsWithin}
use Rattle.sh_domain.specs.Reading.{AreLoops, commands_fit, command_fits, fits, function_fits, head_fits, claim_fits}
use Rattle.sh_domain.specs.Rules.{Constraint, Within, Counted, script_bounds}
use Rattle.sh_domain.specs.Sheets.{CommandClaims, FunctionClaims, Sheet, certificate_of, nowhere, uncalled}
use Rattle.sh_domain.specs.Spelling.{IsSheet, are_writable, is_command, is_function, is_writable, is_writable_head}
use Rattle.sh_domain.specs.Views.{Certificate, Slot}
use Rattle.sh_domain.proofs.KnowledgeLemmas.{row_names}
use Rattle.sh_domain.proofs.RoundTripLemmas.{written_reads_back}
use Rattle.sh_domain.proofs.OrderLemmas.{among_all, within_itself, within_nowhere}
use Rattle.sh_domain.specs.declared.compact.Compact.{Compact}
use Rattle.sh_drafts.specs.declared.place.Part.{Part}
use Rattle.sh_drafts.specs.declared.place.Part.TheVariants.{Before, Zero, Nonzero, Head, Entered, ReturnZero, ReturnNonzero}
use Rattle.sh_drafts.specs.declared.place.Place.{Place}
use Rattle.sh_drafts.specs.Begun.{HasStated, IsBegun, IsStateable, drops_stated, stated_at, states}
use Rattle.sh_domain.specs.Compacts.{compact_claims, stated_by, stated_commands, stated_sheet, turns_of}
use Rattle.sh_drafts.specs.Facts as number
use Rattle.sh_drafts.specs.Gathered.{is_at}
use Rattle.sh_drafts.specs.Kept.{fact_of}
use Rattle.sh_drafts.specs.Numbers.{by_name, claim_by, named, names_by}
use Rattle.sh_drafts.specs.Places.{at, claim_there, drops_there, function_part, is_of_command, is_of_function, is_stated_part, kept_at, part_claim, place_of}
use Rattle.sh_drafts.specs.declared.subject.Subject.{Subject}
use Rattle.sh_drafts.specs.Starts.{start_of}
use Rattle.sh_drafts.specs.Stated.{Claims, ClaimsStated, asked_bounds, is_asked, is_free}
use Rattle.sh_drafts.specs.Ready.{IsOver, IsSettled, Keeps}
use Rattle.sh_drafts.specs.Turns.{sheet_by}
use Rattle.sh_drafts.specs.Working.{IsWorking, Sets, claims, dropped, names_of, sets_of}
use Rattle.sh_drafts.specs.Writable.{IsWritten}
use Rattle.sh_drafts.proofs.ReadyLemmas.{numbered}
use Rattle.sh_sweeps.proofs.NextLemmas.{same_itself}
use Rattle.sh_drafts.proofs.SheetLemmas.{claim_is, claimed, claimed_by, drops_by, drops_placed, dropped_by, entered_by, fits_there, has_text, known_there, nonzero_by, placed, zero_by}
use Rattle.sh_drafts.proofs.StartLemmas.{stated_start}
use Rattle.sh_sweeps.proofs.TurnLemmas.{stated_place}

-- The sheet of what is stated

look_mapped : (test : ℕ → Bool) (g : value.Facts → Claim) (es : List (ℕ × value.Facts)) → lookup test (map (λ h. (h.0, g h.1)) es) ≡ option_map g (lookup test es)
look_mapped test g [] = refl
look_mapped test g (e ∷ es) = by (test e.0) _ _ (look_mapped test g es)
  where
    by : (b : Bool) (o : Option Claim) (p : Option value.Facts) → o ≡ option_map g p → cond b (Some (g e.1)) o ≡ option_map g (cond b (Some e.1) p)
    by true o p h = refl
    by false o p h = h

less_suc : (i n : ℕ) → nat_lt (suc i) (suc n) ≡ nat_lt i n
less_suc i n = elim (cases_lt i n) [
  | inl l ↦ lt-ltb (suc i) (suc n) (omega (arith, l)) ∙ sym (lt-ltb i n l)
  | inr l ↦ le-ltb (suc i) (suc n) (omega (arith, l)) ∙ sym (le-ltb i n l)
]

abbrev head_if : Bool → Option Claim → Option Claim
head_if b o = if b then o else None

turn_of : (k n i : ℕ) (hs : List (ℕ × Claim)) → (unwrap_or (slice_get (stated_commands k n hs) i) nowhere).head ≡ head_if (nat_lt i n) (lookup (nat_eq (i + k)) hs)
unfolding stated_commands
turn_of k zero i hs = sym (ap (λ b. head_if b (lookup (nat_eq (i + k)) hs)) (le-ltb i 0 (omega arith)))
turn_of k (suc n) zero hs =
    let same : k ≡ 0 + k = omega arith in
    ap (λ j. lookup (nat_eq j) hs) same ∙ sym (ap (λ b. head_if b (lookup (nat_eq (0 + k)) hs)) (lt-ltb 0 (suc n) (omega arith)))
turn_of k (suc n) (suc i) hs =
    let same : i + (k + 1) ≡ suc i + k = omega arith in
    turn_of (k + 1) n i hs ∙ ap₂ (λ b j. head_if b (lookup (nat_eq j) hs)) (sym (less_suc i n)) same

module _ (order : List (ℕ × Text)) (k : Compact) where
  abbrev pub sheet_stated : Sheet
  sheet_stated = stated_sheet (compact_claims order k)

  head_by : (i : ℕ) → unwrap_or (unwrap_or (slice_get sheet_stated.commands i) nowhere).head Unreached ≡ claim_by order (states k (at Head i))
  unfolding stated_at is_of_function is_of_command claim_by claim_of fact_of
  head_by i =
      ap (λ o. unwrap_or o Unreached)
      (turn_of 1 k.commands i (turns_of order k.rows k.heads.entries)
      ∙ ap (head_if (nat_lt i k.commands)) (look_mapped (nat_eq (i + 1)) (claim_of order k.rows) k.heads.entries))
      ∙ by (nat_lt i k.commands) (get nat_eq k.heads (i + 1))
    where
      by : (b : Bool) (o : Option value.Facts) → unwrap_or (head_if b (option_map (claim_of order k.rows) o)) Unreached ≡ claim_by order (option_map (fact_of k.rows.rows) (if b then o else None))
      by false o = refl
      by true None = refl
      by true (Some f) = claim_is order k.rows f

  pub stated_there : (p : Place) → is_stated_part p.part ≡ true → claim_there sheet_stated (Some p) ≡ claim_by order (states k p)
  unfolding claim_there part_claim stated_at is_of_function is_stated_part
  stated_there p e = of_part p.part p.index e
    where
      of_part : (part : Part) (i : ℕ) → is_stated_part part ≡ true → claim_there sheet_stated (Some (at part i)) ≡ claim_by order (states k (at part i))
      of_part Before i e = absurd (true≢false (sym e))
      of_part Zero i e = absurd (true≢false (sym e))
      of_part Nonzero i e = absurd (true≢false (sym e))
      of_part Head i e = head_by i
      of_part Entered i e = entered_by order k.rows k.functions.items i
      of_part ReturnZero i e = zero_by order k.rows k.functions.items i
      of_part ReturnNonzero i e = nonzero_by order k.rows k.functions.items i

  pub drops_there_stated : (i : ℕ) → drops_there sheet_stated (Some i) ≡ names_by order (drops_stated k i)
  unfolding drops_there
  drops_there_stated i = drops_by order k.rows k.functions.items i

-- A certificate that claims what is stated

module _ (names : List Text) (h : AreNumbered names) (functions : List Text) (loops : List Bool) (m : ℕ) (k : Compact) (c : kept.Certificate) (w : IsWorking names loops m c) where
  abbrev order : List (ℕ × Text)
  order = in_byte_order names

  abbrev stated : Certificate
  stated = stated_by functions (compact_claims order k)

  abbrev own : Certificate
  own = certificate_of functions (sheet_by names c)

  slot_place : (slot : Slot) (p : Place) → place_of functions slot ≡ Some p → is_stated_part p.part ≡ is_stated slot
  slot_place slot p is = stated_place names functions slot p (ap (λ o. is_at o p) is ∙ same_itself p)

  pub claims_stated : ((p : Place) → is_stated_part p.part ≡ true → claims c p ≡ states k p) → ((i : ℕ) → dropped c i ≡ drops_stated k i) → Claims stated own
  unfolding claim_there drops_there
  claims_stated claim drop = record {
    claims = λ slot e. placed functions (sheet_by names c) slot ∙ there slot e (place_of functions slot) refl ∙ sym (placed functions (sheet_stated order k) slot);
    drops = λ f. drops_placed functions (sheet_by names c) f ∙ drops (number_of functions f) ∙ sym (drops_placed functions (sheet_stated order k) f);
  }
    where
      there : (slot : Slot) → is_stated slot ≡ true → (o : Option Place) → place_of functions slot ≡ o → claim_there (sheet_by names c) o ≡ claim_there (sheet_stated order k) o
      there slot e None is = refl
      there slot e (Some p) is =
          let stated : is_stated_part p.part ≡ true = slot_place slot p is ∙ e in
          claimed_by names h loops m c w p ∙ ap (claim_by order) (claim p stated) ∙ sym (stated_there order k p stated)

      drops : (o : Option ℕ) → drops_there (sheet_by names c) o ≡ drops_there (sheet_stated order k) o
      drops None = refl
      drops (Some i) = dropped_by names h loops m c w i ∙ ap (names_by order) (drop i) ∙ sym (drops_there_stated order k i)

  -- each one that does so is below the one that claims everything elsewhere
  pub begun_above : IsBegun k c → (other : Sheet) → Claims stated (certificate_of functions other) → IsBelow (certificate_of functions other) own
  unfolding named claim_there facts by_name
  begun_above b other is = record {
    claimed = λ slot. elim (cases_Bool (is_stated slot)) [
      | inl e ↦ subst (λ (x : Claim). IsWithin (facts x) (facts (own.claim slot))) (sym (is.claims slot e ∙ sym (mine.claims slot e))) (within_itself _)
      | inr e ↦ subst (λ (x : Claim). IsWithin (facts ((certificate_of functions other).claim slot)) (facts x)) (sym (placed functions (sheet_by names c) slot)) (there slot e (place_of functions slot) refl)
    ];
    dropped = λ f. subst (λ (x : Names). AreAmong x ((certificate_of functions other).drops f)) (is.drops f ∙ sym (mine.drops f)) (record { vars = λ x t. t; functions = λ x t. t });
  }
    where
      mine : Claims stated own
      mine = claims_stated b.there b.drops

      there : (slot : Slot) → is_stated slot ≡ false → (o : Option Place) → place_of functions slot ≡ o → IsWithin (facts ((certificate_of functions other).claim slot)) (facts (claim_there (sheet_by names c) o))
      there slot e None at = within_nowhere _
      there slot e (Some p) at =
          subst (IsWithin (facts ((certificate_of functions other).claim slot))) (sym (claimed names h loops m c w p))
          (nothing (claims c p) (λ f is. b.others p f (slot_place slot p at ∙ e) is))
        where
          nothing : (o : Option number.Facts) → ((f : number.Facts) → o ≡ Some f → f ≡ number.NotReached) → IsWithin (facts ((certificate_of functions other).claim slot)) (named names o)
          nothing None h = within_nowhere _
          nothing (Some f) h = subst (λ g. IsWithin (facts ((certificate_of functions other).claim slot)) (named names (Some g))) (sym (h f refl)) (within_nowhere _)

-- What is stated may be written

all_or : {A : Type 0} (q : A → Bool) (xs : List A) → list_all q xs ≡ true → (i : ℕ) (d : A) → q d ≡ true → q (unwrap_or (slice_get xs i) d) ≡ true
all_or q [] e i d none = none
all_or q (x ∷ xs) e zero d none = (and_parts (q x) (list_all q xs) e).0
all_or q (x ∷ xs) e (suc i) d none = all_or q xs (and_parts (q x) (list_all q xs) e).1 i d none

writable_head : (o : Option Claim) → is_writable_head o ≡ true → is_writable (unwrap_or o Unreached) ≡ true
unfolding is_writable_head is_writable
writable_head None e = refl
writable_head (Some f) e = e

last_of : (a b c d : Bool) → (a && b && c && d) ≡ true → (a ≡ true) × (b ≡ true) × (c ≡ true) × (d ≡ true)
last_of true true true true e = (refl, refl, refl, refl)
last_of false b c d e = absurd (true≢false (sym e))
last_of true false c d e = absurd (true≢false (sym e))
last_of true true false d e = absurd (true≢false (sym e))
last_of true true true false e = absurd (true≢false (sym e))

module _ (s : Sheet) (spelled : IsSheet s) where
  function_writable : (i : ℕ) → is_function (unwrap_or (slice_get s.functions i) uncalled) ≡ true
  unfolding is_writable is_rising
  function_writable i = all_or is_function s.functions spelled.functions i uncalled refl

  command_writable : (i : ℕ) → is_command (unwrap_or (slice_get s.commands i) nowhere) ≡ true
  unfolding is_writable is_writable_head
  command_writable i = all_or is_command s.commands spelled.commands i nowhere refl

  four_of : (x : FunctionClaims) → is_function x ≡ true → (is_writable x.before ≡ true) × (are_writable x.drops ≡ true) × (is_writable x.zero ≡ true) × (is_writable x.nonzero ≡ true)
  four_of x e = last_of (is_writable x.before) (are_writable x.drops) (is_writable x.zero) (is_writable x.nonzero) e

  writable_there : (p : Place) → is_stated_part p.part ≡ true → is_writable (claim_there s (Some p)) ≡ true
  unfolding claim_there part_claim is_stated_part
  writable_there p e = of_part p.part p.index e
    where
      of_part : (part : Part) (i : ℕ) → is_stated_part part ≡ true → is_writable (claim_there s (Some (at part i))) ≡ true
      of_part Before i e = absurd (true≢false (sym e))
      of_part Zero i e = absurd (true≢false (sym e))
      of_part Nonzero i e = absurd (true≢false (sym e))
      of_part Head i e =
          let x = unwrap_or (slice_get s.commands i) nowhere in
          writable_head x.head (last_of (is_writable x.before) (is_writable x.zero) (is_writable x.nonzero) (is_writable_head x.head) (command_writable i)).3
      of_part Entered i e = (four_of _ (function_writable i)).0
      of_part ReturnZero i e = (four_of _ (function_writable i)).2
      of_part ReturnNonzero i e = (four_of _ (function_writable i)).3

  drops_writable : (i : ℕ) → are_writable (drops_there s (Some i)) ≡ true
  unfolding drops_there
  drops_writable i = (four_of _ (function_writable i)).1

unstated : (k : Compact) (part : Part) (x : ℕ) → is_stated_part part ≡ false → states k (at part x) ≡ None
unfolding stated_at is_of_function is_of_command is_stated_part
unstated k Before x e = refl
unstated k Zero x e = refl
unstated k Nonzero x e = refl
unstated k Head x e = absurd (true≢false e)
unstated k Entered x e = absurd (true≢false e)
unstated k ReturnZero x e = absurd (true≢false e)
unstated k ReturnNonzero x e = absurd (true≢false e)

module _ (names : List Text) (h : AreNumbered names) where
  row_written : (q : Text → Bool) (v : ℕ → Bool) → (list_all q (map (λ (x : ℕ × Text). x.1) (filter (λ (x : ℕ × Text). v x.0) (in_byte_order names)))) ≡ true
      → (j : ℕ) (t : Text) → slice_get names j ≡ Some t → v j ≡ true → q t ≡ true
  unfolding at_number
  row_written q v all j t is e = among_all q _ all t (row_names names h v t ∙ ap (at_number v) (h.own j t is) ∙ e)

  claim_written : (f : number.Facts) → is_writable (claim_by (in_byte_order names) (Some f)) ≡ true → IsWritten names (names_of f)
  unfolding claim_by is_writable names_of
  claim_written number.NotReached e = record { vars = λ k t is x. absurd (true≢false (sym x)); functions = λ k t is x. absurd (true≢false (sym x)) }
  claim_written (number.Known v f a) e =
      let sets = (and_parts _ _ e).0 in
      let both = and_parts _ _ sets in
      record { vars = row_written is_variable v (and_parts _ _ both.0).0; functions = row_written is_name f (and_parts _ _ both.1).0 }

  drops_written : (s : Sets) → are_writable (names_by (in_byte_order names) (Some s)) ≡ true → IsWritten names s
  unfolding names_by
  drops_written s e =
      let both = and_parts _ _ e in
      record { vars = row_written is_variable s.vars (and_parts _ _ both.0).0; functions = row_written is_name s.functions (and_parts _ _ both.1).0 }

  pub stateable : (k : Compact) → IsSheet (sheet_stated (in_byte_order names) k) → IsStateable names k
  stateable k spelled = record {
    facts = λ p f is. by p f is (is_stated_part p.part) refl;
    drops = λ i s is. drops_written s (sym (ap (λ o. are_writable (names_by order o)) is) ∙ sym (ap are_writable (drops_there_stated order k i)) ∙ drops_writable (sheet_stated order k) spelled i);
  }
    where
      order : List (ℕ × Text)
      order = in_byte_order names

      by : (p : Place) (f : number.Facts) → states k p ≡ Some f → (b : Bool) → is_stated_part p.part ≡ b → IsWritten names (names_of f)
      by p f is true e = claim_written f (sym (ap (λ o. is_writable (claim_by order o)) is) ∙ sym (ap is_writable (stated_there order k p e)) ∙ writable_there (sheet_stated order k) spelled p e)
      by p f is false e = absurd (true≢false (sym (ap is_some is) ∙ ap is_some (unstated k p.part p.index e)))

-- It has a claim at each loop, and round each function

head_is : (names : List Text) (l : Bool) (o : Option Claim) → head_fits names l o ≡ true → is_some o ≡ l
unfolding head_fits
head_is names true (Some f) e = refl
head_is names false (Some f) e = absurd (true≢false (sym e))
head_is names true None e = absurd (true≢false (sym e))
head_is names false None e = refl

heads_fit : (names : List Text) (ls : List Bool) (cs : List CommandClaims) → commands_fit names ls cs ≡ true → (i : ℕ) → is_some (unwrap_or (slice_get cs i) nowhere).head ≡ unwrap_or (slice_get ls i) false
unfolding commands_fit
heads_fit names [] [] e i = refl
heads_fit names [] (x ∷ cs) e i = absurd (true≢false (sym e))
heads_fit names (l ∷ ls) [] e i = absurd (true≢false (sym e))
heads_fit names (l ∷ ls) (x ∷ cs) e zero =
    head_is names l x.head (last_of (claim_fits names x.before) (claim_fits names x.zero) (claim_fits names x.nonzero) (head_fits names l x.head) (and_parts (command_fits names l x) (commands_fit names ls cs) e).0).3
heads_fit names (l ∷ ls) (x ∷ cs) e (suc i) = heads_fit names ls cs (and_parts (command_fits names l x) (commands_fit names ls cs) e).1 i

same_there : {A B : Type 0} (xs : List A) (ys : List B) → length xs ≡ length ys → (i : ℕ) → is_some (slice_get xs i) ≡ is_some (slice_get ys i)
same_there [] [] e i = refl
same_there [] (y ∷ ys) e i = absurd (omega (arith, e))
same_there (x ∷ xs) [] e i = absurd (omega (arith, e))
same_there (x ∷ xs) (y ∷ ys) e zero = refl
same_there (x ∷ xs) (y ∷ ys) e (suc i) = same_there xs ys (omega (arith, e)) i

mapped_there : {A B : Type 0} (f : A → B) (o : Option A) → is_some (option_map f o) ≡ is_some o
mapped_there f None = refl
mapped_there f (Some x) = refl

module _ (names : List Text) (loops : List Bool) (m : ℕ) (k : Compact) (c : kept.Certificate) (w : IsWorking names loops m c)
    (heads : commands_fit names loops (sheet_stated (in_byte_order names) k).commands ≡ true) (counted : length k.functions.items ≡ m) where
  head_there : (i : ℕ) → is_some (claims c (at Head i)) ≡ is_some (states k (at Head i))
  unfolding claims kept_at stated_at is_of_command is_of_function
  head_there i =
      mapped_there (fact_of c.rows.rows) (get nat_eq c.heads (i + 1)) ∙ w.heads i
      ∙ sym (heads_fit names loops (sheet_stated (in_byte_order names) k).commands heads i)
      ∙ ap is_some (turn_of 1 k.commands i (turns_of (in_byte_order names) k.rows k.heads.entries) ∙ ap (head_if (nat_lt i k.commands)) (look_mapped (nat_eq (i + 1)) (claim_of (in_byte_order names) k.rows) k.heads.entries))
      ∙ by (nat_lt i k.commands) (get nat_eq k.heads (i + 1))
    where
      by : (b : Bool) (o : Option value.Facts) → is_some (head_if b (option_map (claim_of (in_byte_order names) k.rows) o)) ≡ is_some (option_map (fact_of k.rows.rows) (if b then o else None))
      by false o = refl
      by true None = refl
      by true (Some f) = refl

  same_functions : (i : ℕ) → is_some (slice_get c.functions.items i) ≡ is_some (slice_get k.functions.items i)
  same_functions i = same_there c.functions.items k.functions.items (w.defined ∙ sym counted) i

  part_there : (rows other : List BitRow) (part : Part) → ((e : FunctionEntry) → is_some (function_part e part) ≡ true) → (o p : Option FunctionEntry) → is_some o ≡ is_some p
      → is_some (option_map (fact_of rows) (option_and_then (λ e. function_part e part) o)) ≡ is_some (option_map (fact_of other) (option_and_then (λ e. function_part e part) p))
  part_there rows other part all None None e = refl
  part_there rows other part all (Some x) None e = absurd (true≢false e)
  part_there rows other part all None (Some y) e = absurd (true≢false (sym e))
  part_there rows other part all (Some x) (Some y) e =
      mapped_there (fact_of rows) (function_part x part) ∙ all x ∙ sym (mapped_there (fact_of other) (function_part y part) ∙ all y)

  pub has_stated : HasStated k c
  unfolding claims dropped kept_at stated_at is_of_command is_of_function is_stated_part function_part
  has_stated = record {
    claims = λ p e. of_part p.part p.index e;
    drops = λ i. drops (slice_get c.functions.items i) (slice_get k.functions.items i) (same_functions i);
  }
    where
      of_part : (part : Part) (i : ℕ) → is_stated_part part ≡ true → is_some (claims c (at part i)) ≡ is_some (states k (at part i))
      of_part Before i e = absurd (true≢false (sym e))
      of_part Zero i e = absurd (true≢false (sym e))
      of_part Nonzero i e = absurd (true≢false (sym e))
      of_part Head i e = head_there i
      of_part Entered i e = part_there c.rows.rows k.rows.rows Entered (λ x. refl) (slice_get c.functions.items i) (slice_get k.functions.items i) (same_functions i)
      of_part ReturnZero i e = part_there c.rows.rows k.rows.rows ReturnZero (λ x. refl) (slice_get c.functions.items i) (slice_get k.functions.items i) (same_functions i)
      of_part ReturnNonzero i e = part_there c.rows.rows k.rows.rows ReturnNonzero (λ x. refl) (slice_get c.functions.items i) (slice_get k.functions.items i) (same_functions i)

      drops : (o p : Option FunctionEntry) → is_some o ≡ is_some p → is_some (option_map (sets_of c.rows) (option_map (λ (e : FunctionEntry). e.drops) o)) ≡ is_some (option_map (λ (e : FunctionEntry). sets_of k.rows e.drops) p)
      drops None None e = refl
      drops (Some x) None e = absurd (true≢false e)
      drops None (Some y) e = absurd (true≢false (sym e))
      drops (Some x) (Some y) e = refl

-- What is settled from what is stated is filled

filled_bounds : (ks : List Constraint) → asked_bounds true ks ≡ filter bounds_filled ks
unfolding is_asked is_free bounds_filled
filled_bounds ks = filter_agree (is_asked true) bounds_filled same ks
  where
    same : (k : Constraint) → is_asked true k ≡ bounds_filled k
    same (Within slot n rule v) = refl
    same (Counted function n loss) = refl

module _ (s : Subject) (admitted : IsAdmitted s.script.now s.policy.now s.tree.now s.names.now) (stated : s.stated ≡ true) where
  abbrev k : Compact
  k = s.compact.now

  abbrev defined : List Text
  defined = functions_in s.script.now s.tree.now

  abbrev names_stated : Certificate
  names_stated = stated_by defined (compact_claims (in_byte_order s.names.now) k)

  claims_it : (other : Sheet) → Keeps s other → Claims names_stated (claims_in s.script.now s.tree.now other)
  unfolding ClaimsStated
  claims_it other keeps = subst (λ x. ClaimsStated s.names.now defined x k (claims_in s.script.now s.tree.now other)) stated keeps.stated

  pub begun_over : (loops : List Bool) (m : ℕ) (first : kept.Certificate) → IsWorking s.names.now loops m first → IsBegun k first → IsOver s first
  begun_over loops m first w b other keeps =
      begun_above s.names.now (numbered s.script.now s.policy.now s.tree.now s.names.now admitted) defined loops m k first w b other (claims_it other keeps)

  pub is_filled : (loops : List Bool) → AreLoops s.tree.now loops → (m : ℕ) → m ≡ length defined → (first c : kept.Certificate) → IsBegun k first → IsSettled s loops m first c
      → are_distinct s.names.now ≡ true → length loops ≤ 65535 → m ≤ 65535 → FillsTo s.script.now s.tree.now s.names.now (compact_claims (in_byte_order s.names.now) k) (sheet_by s.names.now c)
  unfolding ClaimsStated
  is_filled loops are m e first c b settled distinct few some =
      let names = s.names.now in
      let h = numbered s.script.now s.policy.now s.tree.now names admitted in
      let own = subst (λ n. IsWorking names loops n c) e settled.working in
      let there = stated in
      let stays = settled.stays there in
      let ks = script_bounds (script_of s.script.now s.tree.now) in
      let mine = claims_stated names h defined loops m k c settled.working (λ p q. stays.claims p q ∙ b.there p q) (λ i. stays.drops i ∙ b.drops i) in
      subst (λ f. IsFilled s.script.now s.tree.now names f names_stated (sheet_by names c)) (stated_start s there)
      (record {
        fit = record { loops = loops; are_loops = are; fit = fits_there names h loops (length defined) c own };
        keeps = record {
          claims = mine.claims;
          drops = mine.drops;
          rules = subst (λ ls. flat_map (broken (start_of s) (claims_in s.script.now s.tree.now (sheet_by names c))) ls ≡ []) (ap (λ x. asked_bounds x ks) there ∙ filled_bounds ks) settled.rules;
        };
        above = λ other fit keeps. settled.over other (record {
          fit = known_there names fit.loops (length defined) other fit.fit;
          stated = subst (λ x. ClaimsStated names defined x k (claims_in s.script.now s.tree.now other)) (sym stated) (record { claims = keeps.claims; drops = keeps.drops });
          rules = subst (λ ls. flat_map (broken (start_of s) (claims_in s.script.now s.tree.now other)) ls ≡ []) (sym (ap (λ x. asked_bounds x ks) there ∙ filled_bounds ks)) keeps.rules;
        });
        spelled = written_reads_back.rising names c (has_text names h loops (length defined) c own distinct few (subst (λ n. n ≤ 65535) e some));
      })

-- How many commands and functions it is of

fit_length : (names : List Text) (ls : List Bool) (cs : List CommandClaims) → commands_fit names ls cs ≡ true → length cs ≡ length ls
unfolding commands_fit
fit_length names [] [] e = refl
fit_length names [] (x ∷ cs) e = absurd (true≢false (sym e))
fit_length names (l ∷ ls) [] e = absurd (true≢false (sym e))
fit_length names (l ∷ ls) (x ∷ cs) e = let rest = fit_length names ls cs (and_parts (command_fits names l x) (commands_fit names ls cs) e).1 in omega (arith, rest)

stated_length : (k n : ℕ) (hs : List (ℕ × Claim)) → length (stated_commands k n hs) ≡ n
unfolding stated_commands
stated_length k zero hs = refl
stated_length k (suc n) hs = let rest = stated_length (k + 1) n hs in omega (arith, rest)

-- what fits has its commands and its functions
pub record Counts (names : List Text) (loops : List Bool) (m : ℕ) (k : Compact) : Type 0 where
  pub heads : commands_fit names loops (sheet_stated (in_byte_order names) k).commands ≡ true
  pub commands : k.commands ≡ length loops
  pub functions : length k.functions.items ≡ m

pub counts : (names : List Text) (loops : List Bool) (m : ℕ) (k : Compact) → fits names loops m (sheet_stated (in_byte_order names) k) ≡ true → Counts names loops m k
counts names loops m k e =
    let s = sheet_stated (in_byte_order names) k in
    let both = and_parts (commands_fit names loops s.commands) (nat_eq (length s.functions) m && list_all (function_fits names) s.functions) e in
    let some = (and_parts (nat_eq (length s.functions) m) (list_all (function_fits names) s.functions) both.1).0 in
    record {
      heads = both.0;
      commands = sym (stated_length 1 k.commands (turns_of (in_byte_order names) k.rows k.heads.entries)) ∙ fit_length names loops s.commands both.0;
      functions = sym (length-map k.functions.items (function_claims (in_byte_order names) k.rows)) ∙ eqb-true (length s.functions) m some;
    }
