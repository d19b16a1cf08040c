-- What the compact certificate of a certificate states, by its turns.
use Rattle.std.proofs.Common.{◌≡◌, ℕ, zero, suc, ◌+◌, ◌-◌, ◌<◌, ◌≤◌, nat_eq, nat_le, nat_lt, Bool, true, false, ◌&&◌, ◌||◌, cond, is_some, Option, Some, None, List, [], ◌∷◌, length, map, refl, sym, ◌∙◌, ap, ap₂, arith, slice_get}
use Rattle.std.specs.Prelude.{option_map, unwrap_or}
use Rattle.std.specs.List.{AllByRecursion, filter, list_all}
use Rattle.std.specs.Map.{lookup}
use Rattle.std.proofs.lemmas.Bool.{and_parts}
use Rattle.std.proofs.lemmas.Bool.Decides.{nat_tests}
use Rattle.indexmap.specs.IndexMap.{get}
use Rattle.sh_tree.specs.standard.program.Syntax.{Text}
use Rattle.sh_runs.specs.standard.runs.Environment.{is_one_of}
use Rattle.sh_runs.specs.standard.runs.Worlds.{start_names}
use Rattle.sh_domain.specs.declared.certificate.Certificate.{Certificate}
use Rattle.sh_domain.specs.declared.certificate.Entry.{Entry}
use Rattle.sh_domain.specs.declared.certificate.Facts as value
use Rattle.sh_domain.specs.declared.compact.Compact.{Compact}
use Rattle.sh_domain.specs.declared.knowledge.Knowledge.{Knowledge}
use Rattle.sh_domain.specs.declared.knowledge.Knowledge.TheVariants as knowledge
use Rattle.sh_domain.specs.Certificates.{claim_of, commands_from, function_claims, in_byte_order, sheet_of}
use Rattle.sh_domain.specs.Compacts.{compact_claims, compact_of_sheet, known_claim, start_claim, stated_commands, stated_by, stated_sheet, turns_from, turns_of, with_turn}
use Rattle.sh_domain.specs.CompactStates.{CompactsState, unreached_entry}
use Rattle.sh_domain.specs.Facts.{Claim, Unreached, Declared, Facts, NotReached, Known, facts, start_facts}
use Rattle.sh_domain.specs.Knowledge.{AreNumbered, among, at_number, knowledge_facts}
use Rattle.sh_domain.specs.KeptRows.{KeptRows}
use Rattle.sh_domain.specs.Forms.{is_rising, is_variable}
use Rattle.sh_domain.specs.Names.{are_distinct, number_of}
use Rattle.sh_domain.specs.NumberSets.{numbers_of}
use Rattle.sh_domain.specs.Sheets.{Sheet, CommandClaims, FunctionClaims, certificate_of, claim_at, nowhere}
use Rattle.sh_domain.specs.Spelling.{is_writable}
use Rattle.sh_domain.specs.Views.{Head}
use Rattle.sh_domain.proofs.KnowledgeLemmas.{has_number, row_names}
use Rattle.sh_domain.proofs.SpellingLemmas.{none_some}
use Rattle.sh_domain.proofs.MeetLemmas.{known_same}
use Rattle.sh_domain.proofs.RoundTripLemmas.{filtered_rises, passing}
use Rattle.sh_domain.proofs.RowReadLemmas.{IsAt, names_of, order_at, order_rises, rises_rising}

-- Turns by their numbers

apart : (n m : ℕ) → n < m → nat_eq n m ≡ false
apart n m l = grind (arith, nat_tests)

same : (n : ℕ) → nat_eq (n + 0) n ≡ true
same n = grind (arith, nat_tests)

-- before the first number there is none
no_turn : (n k : ℕ) (cs : List CommandClaims) → n < k → lookup (nat_eq n) (turns_from k cs) ≡ None
unfolding turns_from with_turn
no_turn n k [] l = refl
no_turn n k (c ∷ cs) l = go c.head (no_turn n (k + 1) cs (omega (arith, l)))
  where
    go : (h : Option Claim) → lookup (nat_eq n) (turns_from (k + 1) cs) ≡ None → lookup (nat_eq n) (with_turn k h (turns_from (k + 1) cs)) ≡ None
    go None r = r
    go (Some h) r = rw (apart n k l) r

turn_here : (k j : ℕ) (cs : List CommandClaims) → lookup (nat_eq (k + j)) (turns_from k cs) ≡ (unwrap_or (slice_get cs j) nowhere).head
unfolding turns_from with_turn
turn_here k j [] = refl
turn_here k zero (c ∷ cs) = go c.head
  where
    go : (h : Option Claim) → lookup (nat_eq (k + 0)) (with_turn k h (turns_from (k + 1) cs)) ≡ h
    go None = no_turn (k + 0) (k + 1) cs (omega arith)
    go (Some h) = rw (same k) refl
turn_here k (suc j) (c ∷ cs) =
    let next : k + suc j ≡ (k + 1) + j = omega arith in
    go c.head (ap (λ n. lookup (nat_eq n) (turns_from (k + 1) cs)) next ∙ turn_here (k + 1) j cs)
  where
    past : nat_eq (k + suc j) k ≡ false
    past = grind (arith, nat_tests)

    go : (h : Option Claim) → lookup (nat_eq (k + suc j)) (turns_from (k + 1) cs) ≡ (unwrap_or (slice_get cs j) nowhere).head
        → lookup (nat_eq (k + suc j)) (with_turn k h (turns_from (k + 1) cs)) ≡ (unwrap_or (slice_get cs j) nowhere).head
    go None r = r
    go (Some h) r = rw past r

-- of a command that there is, the turn of its number, and of others none
stated_head : (k n : ℕ) (hs : List (ℕ × Claim)) (j : ℕ) → j < n → (unwrap_or (slice_get (stated_commands k n hs) j) nowhere).head ≡ lookup (nat_eq (k + j)) hs
unfolding stated_commands
stated_head k zero hs j l = absurd (omega (arith, l))
stated_head k (suc n) hs zero l = let here : k ≡ k + 0 = omega arith in ap (λ m. lookup (nat_eq m) hs) here
stated_head k (suc n) hs (suc j) l =
    let next : (k + 1) + j ≡ k + suc j = omega arith in
    stated_head (k + 1) n hs j (omega (arith, l)) ∙ ap (λ m. lookup (nat_eq m) hs) next

none_stated : (k n : ℕ) (hs : List (ℕ × Claim)) (j : ℕ) → n ≤ j → (unwrap_or (slice_get (stated_commands k n hs) j) nowhere).head ≡ None
unfolding stated_commands
none_stated k zero hs j l = refl
none_stated k (suc n) hs zero l = absurd (omega (arith, l))
none_stated k (suc n) hs (suc j) l = none_stated (k + 1) n hs j (omega (arith, l))

no_command : (cs : List CommandClaims) (j : ℕ) → length cs ≤ j → (unwrap_or (slice_get cs j) nowhere).head ≡ None
no_command [] j l = refl
no_command (c ∷ cs) zero l = absurd (omega (arith, l))
no_command (c ∷ cs) (suc j) l = no_command cs j (omega (arith, l))

heads_same : (start : Claim) (s : Sheet) (j : ℕ) → (unwrap_or (slice_get (stated_sheet (compact_of_sheet start s)).commands j) nowhere).head ≡ (unwrap_or (slice_get s.commands j) nowhere).head
heads_same start s j = go (nat_lt j (length s.commands)) refl
  where
    go : (b : Bool) → nat_lt j (length s.commands) ≡ b → (unwrap_or (slice_get (stated_sheet (compact_of_sheet start s)).commands j) nowhere).head ≡ (unwrap_or (slice_get s.commands j) nowhere).head
    go true e = stated_head 1 (length s.commands) (turns_from 1 s.commands) j (grind (arith, nat_tests, e)) ∙ turn_here 1 j s.commands
    go false e =
        let past : length s.commands ≤ j = grind (arith, nat_tests, e) in
        none_stated 1 (length s.commands) (turns_from 1 s.commands) j past ∙ sym (no_command s.commands j past)

stated_heads : (functions : List Text) (start : Claim) (s : Sheet) (n : ℕ) → (stated_by functions (compact_of_sheet start s)).claim (Head n) ≡ (certificate_of functions s).claim (Head n)
unfolding claim_at
stated_heads functions start s n = ap (λ h. unwrap_or h Unreached) (heads_same start s (n - 1))

-- What is known

known_facts : (names : List Text) (k : Knowledge) → AreNumbered names → facts (known_claim (in_byte_order names) k) ≡ knowledge_facts names k
unfolding known_claim facts knowledge_facts
known_facts names knowledge.NotReached h = refl
known_facts names (knowledge.Known s) h = known_same _ _ _ _ _ _ (λ t. row_names names h (numbers_of s.vars) t) (λ t. row_names names h (numbers_of s.functions) t) refl

-- of names in their order, those whose numbers pass are those that pass by name
by_name : (names : List Text) → AreNumbered names → (p : ℕ → Bool) (q : Text → Bool) → ((t : Text) → at_number p (number_of names t) ≡ (is_one_of names t && q t)) → (xs : List (ℕ × Text)) → AllByRecursion (IsAt names) xs
    → filter (λ (x : ℕ × Text). p x.0) xs ≡ filter (λ (x : ℕ × Text). q x.1) xs
unfolding at_number
by_name names h p q e [] a = refl
by_name names h p q e (x ∷ xs) a =
    let own : number_of names x.1 ≡ Some x.0 = h.own x.0 x.1 a.0 in
    let one : is_one_of names x.1 ≡ true = has_number names x.1 ∙ ap is_some own in
    let here : p x.0 ≡ q x.1 = sym (ap (at_number p) own) ∙ e x.1 ∙ ap (λ b. b && q x.1) one in
    rw (here, by_name names h p q e xs a.1) refl

none_kept : (xs : List (ℕ × Text)) → filter (λ (x : ℕ × Text). false) xs ≡ []
none_kept [] = refl
none_kept (x ∷ xs) = none_kept xs

and_false : (b : Bool) → (b && false) ≡ false
and_false true = refl
and_false false = refl

nowhere_known : (v f : Text → Bool) (n : ℕ) → NotReached ≡ Known v f n → ⊥
nowhere_known v f n e = cc

known_start : (names : List Text) (k : Knowledge) (d : Declared) → AreNumbered names → knowledge_facts names k ≡ among names (start_facts d) → known_claim (in_byte_order names) k ≡ start_claim names d
unfolding known_claim knowledge_facts among start_facts
known_start names knowledge.NotReached d h e = absurd (nowhere_known _ _ _ e)
known_start names (knowledge.Known s) d h e =
    let order = in_byte_order names in
    let is_set : Text → Bool = λ t. is_one_of start_names t || is_one_of d.names t in
    let vars = by_name names h (numbers_of s.vars) is_set (λ t. ap (λ (g : Facts). variable_of g t) e) order (order_at names) in
    let functions = by_name names h (numbers_of s.functions) (λ t. false) (λ t. ap (λ (g : Facts). function_of g t) e) order (order_at names) ∙ none_kept order in
    let args : s.args ≡ d.args = ap args_of e in
    cc
  where
    variable_of : Facts → Text → Bool
    variable_of NotReached t = false
    variable_of (Known v f n) t = v t

    function_of : Facts → Text → Bool
    function_of NotReached t = false
    function_of (Known v f n) t = f t

    args_of : Facts → ℕ
    args_of NotReached = 0
    args_of (Known v f n) = n

all_at : (q : Text → Bool) (ts : List Text) (k : ℕ) (t : Text) → list_all q ts ≡ true → slice_get ts k ≡ Some t → q t ≡ true
all_at q [] k t h e = absurd (none_some e)
all_at q (u ∷ ts) zero t h e = let same : u ≡ t = cc in ap q (sym same) ∙ (and_parts (q u) (list_all q ts) h).0
all_at q (u ∷ ts) (suc k) t h e = all_at q ts k t (and_parts (q u) (list_all q ts) h).1 e

start_written : (names : List Text) (d : Declared) → are_distinct names ≡ true → list_all is_variable names ≡ true → d.args ≤ 65535 → is_writable (start_claim names d) ≡ true
unfolding is_writable is_rising
start_written names d distinct named few =
    let held : ℕ × Text → Bool = λ x. is_one_of start_names x.1 || is_one_of d.names x.1 in
    let all : list_all is_variable (names_of (filter held (in_byte_order names))) ≡ true = passing is_variable held names (in_byte_order names) (λ x a e. all_at is_variable names x.0 x.1 named a) (order_at names) in
    let rising : is_rising (names_of (filter held (in_byte_order names))) ≡ true = rises_rising (names_of (filter held (in_byte_order names))) (filtered_rises held (in_byte_order names) (order_rises names distinct)) in
    let small : nat_le d.args 65535 ≡ true = grind (arith, nat_tests) in
    rw (all, rising) small

-- What a kept one states

kept_turn : (order : List (ℕ × Text)) (rows : KeptRows) (n : ℕ) (hs : List (ℕ × value.Facts)) → lookup (nat_eq n) (turns_of order rows hs) ≡ option_map (claim_of order rows) (lookup (nat_eq n) hs)
kept_turn order rows n [] = refl
kept_turn order rows n (h ∷ hs) = go (nat_eq n h.0) (kept_turn order rows n hs)
  where
    go : (b : Bool) → lookup (nat_eq n) (turns_of order rows hs) ≡ option_map (claim_of order rows) (lookup (nat_eq n) hs)
        → cond b (Some (claim_of order rows h.1)) (lookup (nat_eq n) (turns_of order rows hs)) ≡ option_map (claim_of order rows) (cond b (Some h.1) (lookup (nat_eq n) hs))
    go true e = refl
    go false e = e

kept_commands : (order : List (ℕ × Text)) (c : Certificate) (hs : List (ℕ × Claim)) → ((n : ℕ) → lookup (nat_eq n) hs ≡ option_map (claim_of order c.rows) (get nat_eq c.heads n)) → (k : ℕ) (es : List Entry)
    → stated_commands k (length es) hs ≡ commands_from order c k (map (λ (e : Entry). unreached_entry) es)
unfolding stated_commands commands_from claim_of
kept_commands order c hs h k [] = refl
kept_commands order c hs h k (e ∷ es) =
    ap₂ (λ (o : Option Claim) (cs : List CommandClaims). record { before = Unreached; zero = Unreached; nonzero = Unreached; head = o } ∷ cs) (h k) (kept_commands order c hs h (k + 1) es)

kept_sheet : (order : List (ℕ × Text)) (k : Compact) (c : Certificate) → map (λ (e : Entry). unreached_entry) c.entries.items ≡ c.entries.items → length c.entries.items ≡ k.commands
    → ((n : ℕ) → get nat_eq c.heads n ≡ get nat_eq k.heads n) → c.rows ≡ k.rows → c.functions.items ≡ k.functions.items → stated_sheet (compact_claims order k) ≡ sheet_of order c
kept_sheet order k c none long heads rows functions =
    let hs = turns_of order k.rows k.heads.entries in
    let turns : (n : ℕ) → lookup (nat_eq n) hs ≡ option_map (claim_of order c.rows) (get nat_eq c.heads n) = λ n.
    kept_turn order k.rows n k.heads.entries ∙ ap₂ (λ r o. option_map (claim_of order r) o) (sym rows) (sym (heads n)) in
    let commands : stated_commands 1 k.commands hs ≡ commands_from order c 1 c.entries.items =
    ap (λ n. stated_commands 1 n hs) (sym long) ∙ kept_commands order c hs turns 1 c.entries.items ∙ ap (commands_from order c 1) none in
    let all : map (function_claims order k.rows) k.functions.items ≡ map (function_claims order c.rows) c.functions.items = ap₂ (λ r fs. map (function_claims order r) fs) (sym rows) (sym functions) in
    ap₂ (λ (x : List CommandClaims) (y : List FunctionClaims). record { commands = x; functions = y }) commands all

pub compacts_state : CompactsState
unfolding claim_at
compacts_state = record {
  head = stated_heads;
  entered = λ functions start s f. refl;
  returns_zero = λ functions start s f. refl;
  returns_nonzero = λ functions start s f. refl;
  drops = λ functions start s f. refl;
  start = known_facts;
  started = known_start;
  written = start_written;
  kept = kept_sheet;
}
