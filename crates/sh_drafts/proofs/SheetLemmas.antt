-- What a sheet claims at each place, and what that of a kept certificate does.
use Rattle.std.proofs.Common.{◌≡◌, ℕ, zero, suc, ◌+◌, ◌-◌, ◌<◌, ◌≤◌, nat_eq, Bool, true, false, ◌&&◌, Option, Some, None, option_map, List, [], ◌∷◌, length, map, slice_get, is_some, refl, sym, ap, ap₂, ◌∙◌, subst, arith, inl, inr, true≢false}
use Rattle.std.specs.Prelude.{option_and_then, unwrap_or}
use Rattle.std.proofs.Math.Path.{fun_ext}
use Rattle.std.specs.List.{list_all}
use Rattle.std.proofs.lemmas.Bool.{cases_lt, and_parts, and_from, eq-eqb}
use Rattle.std.proofs.lemmas.List.{length-map}
use Rattle.std.proofs.lemmas.List.Elements.{All-from_get_or}
use Rattle.std.proofs.lemmas.Option.{slice_get-map, slice_get_past, slice_get-get_or}
use Rattle.indexmap.specs.IndexMap.{get}
use Rattle.sh_tree.specs.standard.program.Syntax.{Text}
use Rattle.sh_runs.specs.standard.runs.Environment.{is_one_of}
use Rattle.sh_domain.specs.declared.certificate.Certificate.{Certificate}
use Rattle.sh_domain.specs.declared.certificate.Entry.{Entry}
use Rattle.sh_domain.specs.declared.certificate.Facts as value
use Rattle.sh_domain.specs.declared.certificate.Facts.TheVariants as value_kind
use Rattle.sh_domain.specs.declared.certificate.FunctionEntry.{FunctionEntry}
use Rattle.sh_domain.specs.Certificates.{claim_of, command_claims, commands_from, function_claims, in_byte_order, sheet_of}
use Rattle.sh_domain.specs.Facts.{Claim, Unreached, Known, facts}
use Rattle.sh_domain.specs.KeptRows.{KeptRows}
use Rattle.sh_domain.specs.Knowledge.{AreNumbered}
use Rattle.sh_domain.specs.Names.{number_of, are_distinct}
use Rattle.sh_domain.specs.Reading.{claim_fits, sets_fit, head_fits, command_fits, commands_fit, function_fits, fits}
use Rattle.sh_domain.specs.RoundTrips.{FactsPass, EntryPasses, FunctionPasses, HasText}
use Rattle.sh_domain.specs.Sheets.{Sheet, CommandClaims, FunctionClaims, claim_at, function_at, nowhere, uncalled}
use Rattle.sh_domain.specs.Views as views
use Rattle.sh_domain.specs.Views.{Slot}
use Rattle.sh_domain.proofs.KnowledgeLemmas.{in_row, row_names}
use Rattle.sh_domain.proofs.SlotLemmas.{function_of}
use Rattle.sh_drafts.specs.Kept.{fact_of}
use Rattle.sh_drafts.specs.declared.place.Part.{Part}
use Rattle.sh_drafts.specs.declared.place.Part.TheVariants.{Before, Zero, Nonzero, Head, Entered, ReturnZero, ReturnNonzero}
use Rattle.sh_drafts.specs.declared.place.Place.{Place}
use Rattle.sh_drafts.specs.Facts as number
use Rattle.sh_drafts.specs.Numbers.{by_name, claim_by, named, names_by, is_dropped}
use Rattle.sh_drafts.specs.Places.{at, place_of, part_claim, claim_there, drops_there, is_of_command, is_of_function, entry_part, function_part, kept_at}
use Rattle.sh_drafts.specs.Working.{sets_of, claims, dropped, IsWorking}
use Rattle.sh_drafts.proofs.LowerLemmas.{heads_at}
use Rattle.sh_drafts.proofs.NumberLemmas.{claim_known, sets_known}

-- The function of a name is that of its number

function_part_at : {C : Type 0} (s : Sheet) (functions : List Text) (part : FunctionClaims → C) (t : Text) (of : Option ℕ → C)
    → of None ≡ part uncalled → ((k : ℕ) → of (Some k) ≡ part (unwrap_or (slice_get s.functions k) uncalled)) → part (function_at functions s.functions t) ≡ of (number_of functions t)
function_part_at s functions part t of none some = ap part (function_of functions s.functions 0 t) ∙ by (number_of functions t)
  where
    by : (o : Option ℕ) → part (unwrap_or (option_and_then (λ k. slice_get s.functions (k - 0)) o) uncalled) ≡ of o
    by None = sym none
    by (Some k) = let same : k - 0 ≡ k = omega arith in ap (λ j. part (unwrap_or (slice_get s.functions j) uncalled)) same ∙ sym (some k)

-- what is claimed at a slot is claimed at its place
pub placed : (functions : List Text) (s : Sheet) (slot : Slot) → claim_at functions s slot ≡ claim_there s (place_of functions slot)
unfolding claim_at place_of claim_there part_claim
placed functions s (views.Before n) = refl
placed functions s (views.AfterZero n) = refl
placed functions s (views.AfterNonzero n) = refl
placed functions s (views.Head n) = refl
placed functions s (views.Entry f) = function_part_at s functions (λ x. x.before) f (λ o. claim_there s (option_map (at Entered) o)) refl (λ k. refl)
placed functions s (views.ReturnsZero f) = function_part_at s functions (λ x. x.zero) f (λ o. claim_there s (option_map (at ReturnZero) o)) refl (λ k. refl)
placed functions s (views.ReturnsNonzero f) = function_part_at s functions (λ x. x.nonzero) f (λ o. claim_there s (option_map (at ReturnNonzero) o)) refl (λ k. refl)

-- and what a function drops by its number
pub drops_placed : (functions : List Text) (s : Sheet) (f : Text) → (function_at functions s.functions f).drops ≡ drops_there s (number_of functions f)
unfolding drops_there
drops_placed functions s f = function_part_at s functions (λ x. x.drops) f (drops_there s) refl (λ k. refl)

command_from : (order : List (ℕ × Text)) (c : Certificate) (k : ℕ) (es : List Entry) (j : ℕ)
    → slice_get (commands_from order c k es) j ≡ option_map (λ e. command_claims order c.rows e (get nat_eq c.heads (j + k))) (slice_get es j)
unfolding commands_from
command_from order c k [] j = refl
command_from order c k (e ∷ es) zero = let same : k ≡ 0 + k = omega arith in ap (λ n. Some (command_claims order c.rows e (get nat_eq c.heads n))) same
command_from order c k (e ∷ es) (suc j) =
    let same : j + (k + 1) ≡ suc j + k = omega arith in
    command_from order c (k + 1) es j ∙ ap (λ n. option_map (λ f. command_claims order c.rows f (get nat_eq c.heads n)) (slice_get es j)) same

pub claim_is : (order : List (ℕ × Text)) (rows : KeptRows) (f : value.Facts) → claim_of order rows f ≡ claim_by order (Some (fact_of rows.rows f))
unfolding claim_of claim_by fact_of
claim_is order rows value_kind.NotReached = refl
claim_is order rows (value_kind.Known v f a) = refl

facts_by : (names : List Text) → AreNumbered names → (o : Option number.Facts) → facts (claim_by (in_byte_order names) o) ≡ named names o
unfolding facts claim_by named by_name
facts_by names h None = refl
facts_by names h (Some number.NotReached) = refl
facts_by names h (Some (number.Known v f a)) = ap₂ (λ (p q : Text → Bool). Known p q a) (fun_ext (row_names names h v)) (fun_ext (row_names names h f))

-- what functions claim by their entries
module _ (order : List (ℕ × Text)) (rows : KeptRows) (items : List FunctionEntry) where
  of_function : (i : ℕ) (part : FunctionClaims → Claim) (own : FunctionEntry → value.Facts) → part uncalled ≡ Unreached → ((e : FunctionEntry) → part (function_claims order rows e) ≡ claim_of order rows (own e))
      → (kept : Option FunctionEntry → Option value.Facts) → kept None ≡ None → ((e : FunctionEntry) → kept (Some e) ≡ Some (own e))
      → part (unwrap_or (slice_get (map (function_claims order rows) items) i) uncalled) ≡ claim_by order (option_map (fact_of rows.rows) (kept (slice_get items i)))
  unfolding claim_by
  of_function i part own none some kept kept_none kept_some =
      ap (λ o. part (unwrap_or o uncalled)) (slice_get-map (function_claims order rows) items i) ∙ by (slice_get items i)
    where
      by : (o : Option FunctionEntry) → part (unwrap_or (option_map (function_claims order rows) o) uncalled) ≡ claim_by order (option_map (fact_of rows.rows) (kept o))
      by None = none ∙ sym (ap (λ o. claim_by order (option_map (fact_of rows.rows) o)) kept_none)
      by (Some e) = some e ∙ claim_is order rows (own e) ∙ sym (ap (λ o. claim_by order (option_map (fact_of rows.rows) o)) (kept_some e))

  pub entered_by : (i : ℕ) → (unwrap_or (slice_get (map (function_claims order rows) items) i) uncalled).before ≡ claim_by order (option_map (fact_of rows.rows) (option_and_then (λ e. function_part e Entered) (slice_get items i)))
  unfolding function_part
  entered_by i = of_function i (λ x. x.before) (λ e. e.before) refl (λ e. refl) (option_and_then (λ e. function_part e Entered)) refl (λ e. refl)

  pub zero_by : (i : ℕ) → (unwrap_or (slice_get (map (function_claims order rows) items) i) uncalled).zero ≡ claim_by order (option_map (fact_of rows.rows) (option_and_then (λ e. function_part e ReturnZero) (slice_get items i)))
  unfolding function_part
  zero_by i = of_function i (λ x. x.zero) (λ e. e.zero) refl (λ e. refl) (option_and_then (λ e. function_part e ReturnZero)) refl (λ e. refl)

  pub nonzero_by : (i : ℕ) → (unwrap_or (slice_get (map (function_claims order rows) items) i) uncalled).nonzero ≡ claim_by order (option_map (fact_of rows.rows) (option_and_then (λ e. function_part e ReturnNonzero) (slice_get items i)))
  unfolding function_part
  nonzero_by i = of_function i (λ x. x.nonzero) (λ e. e.nonzero) refl (λ e. refl) (option_and_then (λ e. function_part e ReturnNonzero)) refl (λ e. refl)

  pub drops_by : (i : ℕ) → (unwrap_or (slice_get (map (function_claims order rows) items) i) uncalled).drops ≡ names_by order (option_map (λ (e : FunctionEntry). sets_of rows e.drops) (slice_get items i))
  unfolding names_by
  drops_by i = ap (λ o. (unwrap_or o uncalled).drops) (slice_get-map (function_claims order rows) items i) ∙ by (slice_get items i)
    where
      by : (o : Option FunctionEntry) → (unwrap_or (option_map (function_claims order rows) o) uncalled).drops ≡ names_by order (option_map (λ (e : FunctionEntry). sets_of rows e.drops) o)
      by None = refl
      by (Some e) = refl

-- The sheet of a kept certificate

module _ (names : List Text) (h : AreNumbered names) (loops : List Bool) (m : ℕ) (c : Certificate) (working : IsWorking names loops m c) where
  abbrev order : List (ℕ × Text)
  order = in_byte_order names

  abbrev pub sheet : Sheet
  sheet = sheet_of order c

  -- one part of a command, and of a function
  of_entry : (i : ℕ) (part : CommandClaims → Claim) (own : Entry → value.Facts) → part nowhere ≡ Unreached → ((e : Entry) (f : Option value.Facts) → part (command_claims order c.rows e f) ≡ claim_of order c.rows (own e))
      → (kept : Option Entry → Option value.Facts) → kept None ≡ None → ((e : Entry) → kept (Some e) ≡ Some (own e))
      → part (unwrap_or (slice_get (commands_from order c 1 c.entries.items) i) nowhere) ≡ claim_by order (option_map (fact_of c.rows.rows) (kept (slice_get c.entries.items i)))
  unfolding claim_by
  of_entry i part own none some kept kept_none kept_some = ap (λ o. part (unwrap_or o nowhere)) (command_from order c 1 c.entries.items i) ∙ by (slice_get c.entries.items i)
    where
      by : (o : Option Entry) → part (unwrap_or (option_map (λ e. command_claims order c.rows e (get nat_eq c.heads (i + 1))) o) nowhere) ≡ claim_by order (option_map (fact_of c.rows.rows) (kept o))
      by None = none ∙ sym (ap (λ o. claim_by order (option_map (fact_of c.rows.rows) o)) kept_none)
      by (Some e) = some e (get nat_eq c.heads (i + 1)) ∙ claim_is order c.rows (own e) ∙ sym (ap (λ o. claim_by order (option_map (fact_of c.rows.rows) o)) (kept_some e))

  of_head : (i : ℕ) → unwrap_or (unwrap_or (slice_get (commands_from order c 1 c.entries.items) i) nowhere).head Unreached ≡ claim_by order (option_map (fact_of c.rows.rows) (get nat_eq c.heads (i + 1)))
  unfolding claim_by
  of_head i = ap (λ o. unwrap_or (unwrap_or o nowhere).head Unreached) (command_from order c 1 c.entries.items i) ∙ by (slice_get c.entries.items i) refl
    where
      there : (o : Option value.Facts) → unwrap_or (option_map (claim_of order c.rows) o) Unreached ≡ claim_by order (option_map (fact_of c.rows.rows) o)
      there None = refl
      there (Some f) = claim_is order c.rows f

      no_loop : slice_get c.entries.items i ≡ None → slice_get loops i ≡ None
      no_loop e = elim (cases_lt i (length loops)) [
        | inl l ↦
            let far : i < length c.entries.items = subst (λ n. i < n) (sym working.commands) l in
            absurd (true≢false (sym (ap is_some (slice_get-get_or c.entries.items i (record { before = value_kind.NotReached; zero = value_kind.NotReached; nonzero = value_kind.NotReached }) far)) ∙ ap is_some e))
        | inr l ↦ slice_get_past loops i l
      ]

      away : (o : Option value.Facts) → is_some o ≡ false → o ≡ None
      away None e = refl
      away (Some f) e = absurd (true≢false e)

      by : (o : Option Entry) → slice_get c.entries.items i ≡ o
          → unwrap_or (unwrap_or (option_map (λ e. command_claims order c.rows e (get nat_eq c.heads (i + 1))) o) nowhere).head Unreached ≡ claim_by order (option_map (fact_of c.rows.rows) (get nat_eq c.heads (i + 1)))
      by None e =
          let none : get nat_eq c.heads (i + 1) ≡ None = away _ (working.heads i ∙ ap (λ o. unwrap_or o false) (no_loop e)) in
          sym (ap (λ o. claim_by order (option_map (fact_of c.rows.rows) o)) none)
      by (Some x) e = there (get nat_eq c.heads (i + 1))

  pub claimed_by : (p : Place) → claim_there sheet (Some p) ≡ claim_by order (claims c p)
  unfolding claim_there part_claim claims kept_at is_of_command is_of_function entry_part
  claimed_by p = of_part p.part p.index
    where
      of_part : (part : Part) (i : ℕ) → claim_there sheet (Some (at part i)) ≡ claim_by order (claims c (at part i))
      of_part Before i = of_entry i (λ x. x.before) (λ e. e.before) refl (λ e f. refl) (option_and_then (λ e. entry_part e Before)) refl (λ e. refl)
      of_part Zero i = of_entry i (λ x. x.zero) (λ e. e.zero) refl (λ e f. refl) (option_and_then (λ e. entry_part e Zero)) refl (λ e. refl)
      of_part Nonzero i = of_entry i (λ x. x.nonzero) (λ e. e.nonzero) refl (λ e f. refl) (option_and_then (λ e. entry_part e Nonzero)) refl (λ e. refl)
      of_part Head i = of_head i
      of_part Entered i = entered_by order c.rows c.functions.items i
      of_part ReturnZero i = zero_by order c.rows c.functions.items i
      of_part ReturnNonzero i = nonzero_by order c.rows c.functions.items i

  pub claimed : (p : Place) → facts (claim_there sheet (Some p)) ≡ named names (claims c p)
  claimed p = ap facts (claimed_by p) ∙ facts_by names h (claims c p)

  pub dropped_by : (i : ℕ) → drops_there sheet (Some i) ≡ names_by order (dropped c i)
  unfolding drops_there dropped
  dropped_by i = drops_by order c.rows c.functions.items i ∙ ap (names_by order) (same (slice_get c.functions.items i))
    where
      same : (o : Option FunctionEntry) → option_map (λ (e : FunctionEntry). sets_of c.rows e.drops) o ≡ option_map (sets_of c.rows) (option_map (λ (e : FunctionEntry). e.drops) o)
      same None = refl
      same (Some e) = refl

  drops_at_index : (i : ℕ) → drops_there sheet (Some i) ≡ (unwrap_or (option_map (function_claims order c.rows) (slice_get c.functions.items i)) uncalled).drops
  unfolding drops_there
  drops_at_index i = ap (λ o. (unwrap_or o uncalled).drops) (slice_get-map (function_claims order c.rows) c.functions.items i)

  pub drops_vars : (i : ℕ) (t : Text) → is_one_of (drops_there sheet (Some i)).vars t ≡ is_dropped (λ s. s.vars) names (dropped c i) t
  unfolding is_dropped dropped
  drops_vars i t = ap (λ d. is_one_of d.vars t) (drops_at_index i) ∙ by (slice_get c.functions.items i)
    where
      by : (o : Option FunctionEntry)
          → is_one_of (unwrap_or (option_map (function_claims order c.rows) o) uncalled).drops.vars t ≡ is_dropped (λ s. s.vars) names (option_map (sets_of c.rows) (option_map (λ (e : FunctionEntry). e.drops) o)) t
      by None = refl
      by (Some e) = in_row names h c.rows e.drops.vars t

  pub drops_functions : (i : ℕ) (t : Text) → is_one_of (drops_there sheet (Some i)).functions t ≡ is_dropped (λ s. s.functions) names (dropped c i) t
  unfolding is_dropped dropped
  drops_functions i t = ap (λ d. is_one_of d.functions t) (drops_at_index i) ∙ by (slice_get c.functions.items i)
    where
      by : (o : Option FunctionEntry)
          → is_one_of (unwrap_or (option_map (function_claims order c.rows) o) uncalled).drops.functions t
          ≡ is_dropped (λ s. s.functions) names (option_map (sets_of c.rows) (option_map (λ (e : FunctionEntry). e.drops) o)) t
      by None = refl
      by (Some e) = in_row names h c.rows e.drops.functions t

  -- It fits

  head_there : (l : Bool) (o : Option value.Facts) → is_some o ≡ l → head_fits names l (option_map (claim_of order c.rows) o) ≡ true
  unfolding head_fits
  head_there l None e = subst (λ b. head_fits names b None ≡ true) e refl
  head_there l (Some f) e = subst (λ b. head_fits names b (Some (claim_of order c.rows f)) ≡ true) e (claim_known names h c.rows f)

  commands_there : (ls : List Bool) (es : List Entry) (k : ℕ) → length es ≡ length ls → ((j : ℕ) → is_some (get nat_eq c.heads (j + k)) ≡ unwrap_or (slice_get ls j) false)
      → commands_fit names ls (commands_from order c k es) ≡ true
  unfolding commands_fit commands_from
  commands_there [] [] k e heads = refl
  commands_there [] (x ∷ es) k e heads = absurd (omega (arith, e))
  commands_there (l ∷ ls) [] k e heads = absurd (omega (arith, e))
  commands_there (l ∷ ls) (x ∷ es) k e heads =
      let first : is_some (get nat_eq c.heads k) ≡ l = (let same : k ≡ 0 + k = omega arith in ap (λ n. is_some (get nat_eq c.heads n)) same ∙ heads 0) in
      and_from _ _
      (and_from _ _ (and_from _ _ (and_from _ _ (claim_known names h c.rows x.before) (claim_known names h c.rows x.zero)) (claim_known names h c.rows x.nonzero)) (head_there l (get nat_eq c.heads k) first))
      (commands_there ls es (k + 1) (omega (arith, e)) (λ j. let same : j + (k + 1) ≡ suc j + k = omega arith in ap (λ n. is_some (get nat_eq c.heads n)) same ∙ heads (suc j)))

  functions_there : (es : List FunctionEntry) → list_all (function_fits names) (map (function_claims order c.rows) es) ≡ true
  functions_there [] = refl
  functions_there (x ∷ es) =
      and_from _ _
      (and_from _ _ (and_from _ _ (and_from _ _ (claim_known names h c.rows x.before) (sets_known names h c.rows x.drops.vars x.drops.functions)) (claim_known names h c.rows x.zero)) (claim_known names h c.rows x.nonzero))
      (functions_there es)

  pub fits_there : fits names loops m sheet ≡ true
  fits_there = and_from _ _ (commands_there loops c.entries.items 1 working.commands working.heads) (and_from _ _ count (functions_there c.functions.items))
    where
      count : nat_eq (length (map (function_claims order c.rows) c.functions.items)) m ≡ true
      count = eq-eqb _ _ (length-map c.functions.items (function_claims order c.rows) ∙ working.defined)

  -- It has a text

  passes_at : (p : Place) (f : value.Facts) → kept_at c p ≡ Some f → FactsPass names c.rows f
  passes_at p f e = (working.facts p f e).passes

  entry_passes : (i : ℕ) (e : Entry) → slice_get c.entries.items i ≡ Some e → EntryPasses names c.rows e
  unfolding kept_at is_of_command is_of_function entry_part
  entry_passes i e is = record {
    before = passes_at (at Before i) e.before (ap (option_and_then (λ (x : Entry). entry_part x Before)) is);
    zero = passes_at (at Zero i) e.zero (ap (option_and_then (λ (x : Entry). entry_part x Zero)) is);
    nonzero = passes_at (at Nonzero i) e.nonzero (ap (option_and_then (λ (x : Entry). entry_part x Nonzero)) is);
  }

  function_passes : (i : ℕ) (e : FunctionEntry) → slice_get c.functions.items i ≡ Some e → FunctionPasses names c.rows e
  unfolding kept_at is_of_command is_of_function function_part
  function_passes i e is = record {
    before = passes_at (at Entered i) e.before (ap (option_and_then (λ (x : FunctionEntry). function_part x Entered)) is);
    drops = (working.drops i e.drops (ap (option_map (λ (x : FunctionEntry). x.drops)) is)).passes;
    zero = passes_at (at ReturnZero i) e.zero (ap (option_and_then (λ (x : FunctionEntry). function_part x ReturnZero)) is);
    nonzero = passes_at (at ReturnNonzero i) e.nonzero (ap (option_and_then (λ (x : FunctionEntry). function_part x ReturnNonzero)) is);
  }

  pub has_text : are_distinct names ≡ true → length loops ≤ 65535 → m ≤ 65535 → HasText names c
  has_text distinct few some = record {
    distinct = distinct;
    entries = All-from_get_or (EntryPasses names c.rows) c.entries.items no_entry (λ i l. entry_passes i _ (slice_get-get_or c.entries.items i no_entry l));
    heads = λ k f e. head_passes k f e;
    functions = All-from_get_or (FunctionPasses names c.rows) c.functions.items no_function (λ i l. function_passes i _ (slice_get-get_or c.functions.items i no_function l));
    few_commands = subst (λ n. n ≤ 65535) (sym working.commands) few;
    few_functions = subst (λ n. n ≤ 65535) (sym working.defined) some;
  }
    where
      no_entry : Entry
      no_entry = record { before = value_kind.NotReached; zero = value_kind.NotReached; nonzero = value_kind.NotReached }

      no_function : FunctionEntry
      no_function = record {
        before = value_kind.NotReached;
        drops = record { vars = record { index = 0 }; functions = record { index = 0 } };
        zero = value_kind.NotReached;
        nonzero = value_kind.NotReached;
      }

      head_passes : (k : ℕ) (f : value.Facts) → get nat_eq c.heads k ≡ Some f → FactsPass names c.rows f
      head_passes zero f e = absurd (true≢false (sym (ap is_some e) ∙ ap is_some working.low))
      head_passes (suc k) f e = let same : k + 1 ≡ suc k = omega arith in passes_at (at Head k) f (heads_at c k ∙ ap (get nat_eq c.heads) same ∙ e)

-- What any sheet that fits claims is of names that are numbered

command_known : (names : List Text) (ls : List Bool) (cs : List CommandClaims) → commands_fit names ls cs ≡ true → (i : ℕ) (part : CommandClaims → Claim)
    → claim_fits names (part nowhere) ≡ true → ((l : Bool) (x : CommandClaims) → command_fits names l x ≡ true → claim_fits names (part x) ≡ true) → claim_fits names (part (unwrap_or (slice_get cs i) nowhere)) ≡ true
unfolding commands_fit
command_known names [] [] e i part none each = none
command_known names [] (x ∷ cs) e i part none each = absurd (true≢false (sym e))
command_known names (l ∷ ls) [] e i part none each = none
command_known names (l ∷ ls) (x ∷ cs) e zero part none each = each l x (and_parts (command_fits names l x) (commands_fit names ls cs) e).0
command_known names (l ∷ ls) (x ∷ cs) e (suc i) part none each = command_known names ls cs (and_parts (command_fits names l x) (commands_fit names ls cs) e).1 i part none each

function_known : (names : List Text) (fs : List FunctionClaims) → list_all (function_fits names) fs ≡ true → (i : ℕ) (part : FunctionClaims → Claim)
    → claim_fits names (part uncalled) ≡ true → ((x : FunctionClaims) → function_fits names x ≡ true → claim_fits names (part x) ≡ true) → claim_fits names (part (unwrap_or (slice_get fs i) uncalled)) ≡ true
function_known names [] e i part none each = none
function_known names (x ∷ fs) e zero part none each = each x (and_parts (function_fits names x) (list_all (function_fits names) fs) e).0
function_known names (x ∷ fs) e (suc i) part none each = function_known names fs (and_parts (function_fits names x) (list_all (function_fits names) fs) e).1 i part none each

module _ (names : List Text) (loops : List Bool) (m : ℕ) (s : Sheet) (fit : fits names loops m s ≡ true) where
  commands : commands_fit names loops s.commands ≡ true
  commands = (and_parts (commands_fit names loops s.commands) (nat_eq (length s.functions) m && list_all (function_fits names) s.functions) fit).0

  functions : list_all (function_fits names) s.functions ≡ true
  functions = (and_parts (nat_eq (length s.functions) m) (list_all (function_fits names) s.functions) (and_parts (commands_fit names loops s.commands) (nat_eq (length s.functions) m && list_all (function_fits names) s.functions) fit).1).1

  four : (a b c d : Bool) → (a && b && c && d) ≡ true → (a ≡ true) × (b ≡ true) × (c ≡ true) × (d ≡ true)
  four true true true true e = (refl, refl, refl, refl)
  four false b c d e = absurd (true≢false (sym e))
  four true false c d e = absurd (true≢false (sym e))
  four true true false d e = absurd (true≢false (sym e))
  four true true true false e = absurd (true≢false (sym e))

  head_known : (l : Bool) (o : Option Claim) → head_fits names l o ≡ true → claim_fits names (unwrap_or o Unreached) ≡ true
  unfolding head_fits claim_fits
  head_known true (Some f) e = e
  head_known false (Some f) e = absurd (true≢false (sym e))
  head_known l None e = refl

  before_known : (l : Bool) (x : CommandClaims) → command_fits names l x ≡ true → claim_fits names x.before ≡ true
  before_known l x e = (four (claim_fits names x.before) (claim_fits names x.zero) (claim_fits names x.nonzero) (head_fits names l x.head) e).0

  zero_known : (l : Bool) (x : CommandClaims) → command_fits names l x ≡ true → claim_fits names x.zero ≡ true
  zero_known l x e = (four (claim_fits names x.before) (claim_fits names x.zero) (claim_fits names x.nonzero) (head_fits names l x.head) e).1

  nonzero_known : (l : Bool) (x : CommandClaims) → command_fits names l x ≡ true → claim_fits names x.nonzero ≡ true
  nonzero_known l x e = (four (claim_fits names x.before) (claim_fits names x.zero) (claim_fits names x.nonzero) (head_fits names l x.head) e).2

  turn_known : (l : Bool) (x : CommandClaims) → command_fits names l x ≡ true → claim_fits names (unwrap_or x.head Unreached) ≡ true
  turn_known l x e = head_known l x.head (four (claim_fits names x.before) (claim_fits names x.zero) (claim_fits names x.nonzero) (head_fits names l x.head) e).3

  entry_known : (x : FunctionClaims) → function_fits names x ≡ true → claim_fits names x.before ≡ true
  entry_known x e = (four (claim_fits names x.before) (sets_fit names x.drops) (claim_fits names x.zero) (claim_fits names x.nonzero) e).0

  return_known : (x : FunctionClaims) → function_fits names x ≡ true → claim_fits names x.zero ≡ true
  return_known x e = (four (claim_fits names x.before) (sets_fit names x.drops) (claim_fits names x.zero) (claim_fits names x.nonzero) e).2

  other_known : (x : FunctionClaims) → function_fits names x ≡ true → claim_fits names x.nonzero ≡ true
  other_known x e = (four (claim_fits names x.before) (sets_fit names x.drops) (claim_fits names x.zero) (claim_fits names x.nonzero) e).3

  part_known : (part : Part) (i : ℕ) → claim_fits names (claim_there s (Some (at part i))) ≡ true
  unfolding claim_there part_claim claim_fits
  part_known Before i = command_known names loops s.commands commands i (λ x. x.before) refl before_known
  part_known Zero i = command_known names loops s.commands commands i (λ x. x.zero) refl zero_known
  part_known Nonzero i = command_known names loops s.commands commands i (λ x. x.nonzero) refl nonzero_known
  part_known Head i = command_known names loops s.commands commands i (λ x. unwrap_or x.head Unreached) refl turn_known
  part_known Entered i = function_known names s.functions functions i (λ x. x.before) refl entry_known
  part_known ReturnZero i = function_known names s.functions functions i (λ x. x.zero) refl return_known
  part_known ReturnNonzero i = function_known names s.functions functions i (λ x. x.nonzero) refl other_known

  pub known_there : (o : Option Place) → claim_fits names (claim_there s o) ≡ true
  unfolding claim_there claim_fits
  known_there None = refl
  known_there (Some p) = part_known p.part p.index
