-- Rows that are kept of another certificate's claim what those claim.
use Rattle.std.proofs.Common.{◌≡◌, ℕ, ◌+◌, ◌<◌, ◌≤◌, nat_eq, Bool, true, false, ◌&&◌, List, [], ◌∷◌, ◌++◌, length, map, take, get_or, Option, Some, None, nat_lt, option_map, append-nil, refl, sym, ap, ap₂, ◌∙◌, subst, arith}
use Rattle.std.specs.List.{filter}
use Rattle.std.proofs.Math.Path.{fun_ext}
use Rattle.sh_tree.specs.standard.program.Syntax.{Text}
use Rattle.sh_domain.specs.declared.certificate.Drops.{Drops}
use Rattle.sh_domain.specs.declared.certificate.Facts as value
use Rattle.sh_domain.specs.declared.certificate.Facts.TheVariants as value_kind
use Rattle.sh_domain.specs.declared.certificate.FunctionEntry.{FunctionEntry}
use Rattle.sh_domain.specs.declared.rows.RowId.{RowId}
use Rattle.std.specs.List.{AllByRecursion}
use Rattle.std.proofs.lemmas.Bool.Decides.{nat_tests}
use Rattle.std.proofs.lemmas.List.{length-take-le, map-append, take_more, take_all}
use Rattle.std.proofs.lemmas.Option.{slice_get_within}
use Rattle.indexmap.specs.IndexMap.{get}
use Rattle.sh_domain.specs.declared.certificate.Certificate.{Certificate}
use Rattle.sh_domain.specs.declared.certificate.Entry.{Entry}
use Rattle.sh_domain.specs.declared.knowledge.Assured.{Assured}
use Rattle.sh_domain.specs.declared.compact.Compact.{Compact}
use Rattle.sh_domain.specs.declared.knowledge.Knowledge.{Knowledge}
use Rattle.sh_domain.specs.declared.knowledge.Knowledge.TheVariants as knowledge
use Rattle.sh_domain.specs.declared.number_set.NumberSet.{NumberSet}
use Rattle.sh_domain.specs.Certificates.{claim_of, command_claims, commands_from, drops_of, function_claims, in_byte_order, names_at, sheet_of}
use Rattle.sh_domain.specs.Compacts.{CompactSheet, compact_claims, compact_of_sheet, known_claim, names_among, turns_from, turns_of, with_turn}
use Rattle.sh_domain.specs.NumberSets.{numbers_of}
use Rattle.sh_domain.specs.Sheets.{CommandClaims, FunctionClaims}
use Rattle.sh_domain.proofs.RowReadLemmas.{IsAt, order_at}
use Rattle.sh_domain.proofs.WritingLemmas.{commands_append, length_commands}
use Rattle.sh_domain.specs.Facts.{Claim, Claimed}
use Rattle.sh_domain.specs.KeptRows.{KeptRows, Stay, bits_in, holds_at}
use Rattle.sh_domain.specs.Operands.{Names}
use Rattle.sh_facts.specs.Compacting.{Keeps}
use Rattle.sh_facts.proofs.ReadingLemmas.{stay_on}

filter_same : (f g : ℕ × Text → Bool) → ((x : ℕ × Text) → f x ≡ g x) → (xs : List (ℕ × Text)) → filter f xs ≡ filter g xs
filter_same f g h xs = ap (λ k. filter k xs) (fun_ext h)

-- a row with the numbers of another has its names
pub same_row : (order : List (ℕ × Text)) (new later from : KeptRows) (kept id : RowId) → ((k : ℕ) → holds_at new.rows kept.index k ≡ holds_at from.rows id.index k) → kept.index < length new.rows → Stay new.rows later.rows
    → names_at order later kept ≡ names_at order from id
unfolding bits_in
same_row order new later from kept id found lt stay =
    ap (map (λ x. x.1)) (filter_same (λ x. holds_at later.rows kept.index x.0) (λ x. holds_at from.rows id.index x.0) (λ x. ap (λ o. bits_in o x.0) (stay kept.index lt) ∙ found x.0) order)

pub row_kept : (old new from : KeptRows) (kept id : RowId) → new.count ≡ old.count → Stay old.rows new.rows → ((k : ℕ) → holds_at new.rows kept.index k ≡ holds_at from.rows id.index k) → kept.index < length new.rows
    → Keeps old new (λ later. (order : List (ℕ × Text)) → names_at order later kept ≡ names_at order from id)
row_kept old new from kept id count stay found lt = record { count = count; stay = stay; lasting = λ later s order. same_row order new later from kept id found lt s }

-- what is said after both, of one after the other
pub both_kept : {a b c : KeptRows} {P Q : KeptRows → Type 0} → Keeps a b P → Keeps b c Q → Keeps a c (λ r. P r × Q r)
both_kept {a} {b} {c} x y = record {
  count = y.count ∙ x.count;
  stay = stay_on a.rows b.rows c.rows x.stay y.stay;
  lasting = λ later s. (x.lasting later (stay_on b.rows c.rows later.rows y.stay s), y.lasting later s);
}

pub kept_says : {a b : KeptRows} {P Q : KeptRows → Type 0} → ((r : KeptRows) → P r → Q r) → Keeps a b P → Keeps a b Q
kept_says h x = record { count = x.count; stay = x.stay; lasting = λ later s. h later (x.lasting later s) }

pub nothing_kept : (a : KeptRows) (Q : KeptRows → Type 0) → ((r : KeptRows) → Q r) → Keeps a a Q
nothing_kept a Q h = record { count = refl; stay = λ i l. refl; lasting = λ later s. h later }

module _ (from : KeptRows) where
  abbrev pub KeepsRow : KeptRows → KeptRows → RowId → RowId → Type 0
  KeepsRow old new id kept = Keeps old new (λ later. (order : List (ℕ × Text)) → names_at order later kept ≡ names_at order from id)

  abbrev pub KeepsDrops : KeptRows → KeptRows → Drops → Drops → Type 0
  KeepsDrops old new d kept = Keeps old new (λ later. (order : List (ℕ × Text)) → drops_of order later kept ≡ drops_of order from d)

  abbrev pub KeepsFacts : KeptRows → KeptRows → value.Facts → value.Facts → Type 0
  KeepsFacts old new f kept = Keeps old new (λ later. (order : List (ℕ × Text)) → claim_of order later kept ≡ claim_of order from f)

  pub drops_kept : (a b c : KeptRows) (d kept : Drops) → KeepsRow a b d.vars kept.vars → KeepsRow b c d.functions kept.functions → KeepsDrops a c d kept
  drops_kept a b c d kept x y = kept_says (λ r p order. ap₂ (λ (v f : List Text). record { vars = v; functions = f }) (p.0 order) (p.1 order)) (both_kept x y)

  pub known_kept : (a b : KeptRows) (v f : RowId) (args : ℕ) (kept : Drops) → KeepsDrops a b (record { vars = v; functions = f }) kept → KeepsFacts a b (value_kind.Known v f args) (value_kind.Known kept.vars kept.functions args)
  unfolding claim_of
  known_kept a b v f args kept x = kept_says (λ r p order. ap (λ (n : Names). Claimed n.vars n.functions args) (p order)) x

  pub unreached_kept : (a : KeptRows) → KeepsFacts a a value_kind.NotReached value_kind.NotReached
  unfolding claim_of
  unreached_kept a = nothing_kept a _ (λ r order. refl)

  pub function_kept : (a b c d e : KeptRows) (f g h : value.Facts) (drops : Drops) (entry : FunctionEntry) → KeepsFacts a b entry.before f → KeepsDrops b c entry.drops drops → KeepsFacts c d entry.zero g → KeepsFacts d e entry.nonzero h
      → Keeps a e (λ later. (order : List (ℕ × Text)) → function_claims order later (record { before = f; drops = drops; zero = g; nonzero = h }) ≡ function_claims order from entry)
  function_kept a b c d e f g h drops entry x y z u = kept_says (λ r p order. rw (p.0.0.0 order, p.0.0.1 order, p.0.1 order, p.1 order) refl) (both_kept (both_kept (both_kept x y) z) u)

-- Sets of numbers

-- of names that are numbered, those whose numbers pass either of two tests that are one below the
-- count
same_among : (names : List Text) (f g : ℕ → Bool) → ((k : ℕ) → k < length names → f k ≡ g k) → (xs : List (ℕ × Text)) → AllByRecursion (IsAt names) xs
    → filter (λ (x : ℕ × Text). f x.0) xs ≡ filter (λ (x : ℕ × Text). g x.0) xs
same_among names f g h [] a = refl
same_among names f g h (x ∷ xs) a = rw (h x.0 (slice_get_within names x.0 x.1 a.0), same_among names f g h xs a.1) refl

pub set_kept : (old new : KeptRows) (id : RowId) (s : NumberSet) → new.count ≡ old.count → Stay old.rows new.rows → ((k : ℕ) → k < old.count → holds_at new.rows id.index k ≡ numbers_of s k) → id.index < length new.rows
    → Keeps old new (λ later. (names : List Text) → length names ≡ old.count → names_at (in_byte_order names) later id ≡ names_among (in_byte_order names) s)
unfolding bits_in
set_kept old new id s count stay found lt = record {
  count = count;
  stay = stay;
  lasting = λ later z names long.
      ap (map (λ (x : ℕ × Text). x.1))
      (same_among names (λ k. holds_at later.rows id.index k) (numbers_of s)
      (λ k l. ap (λ o. bits_in o k) (z id.index lt) ∙ found k (let below : k < old.count = omega (arith, l, long) in below)) (in_byte_order names) (order_at names));
}

pub below_kept : (n k : ℕ) (s : Bool) → k < n → (s && nat_lt k n) ≡ s
below_kept n k s l = let below : nat_lt k n ≡ true = grind (arith, nat_tests) in go s below
  where
    go : (s : Bool) → nat_lt k n ≡ true → (s && nat_lt k n) ≡ s
    go true e = e
    go false e = refl

pub assured_kept : (a b c : KeptRows) (k : Knowledge) (s : Assured) (vs fs : NumberSet) (n : ℕ) (v f : RowId) → k ≡ knowledge.Known s → vs ≡ s.vars → fs ≡ s.functions → n ≡ s.args
    → Keeps a b (λ later. (names : List Text) → length names ≡ a.count → names_at (in_byte_order names) later v ≡ names_among (in_byte_order names) vs)
    → Keeps b c (λ later. (names : List Text) → length names ≡ b.count → names_at (in_byte_order names) later f ≡ names_among (in_byte_order names) fs)
    → Keeps a c (λ later. (names : List Text) → length names ≡ a.count → claim_of (in_byte_order names) later (value_kind.Known v f n) ≡ known_claim (in_byte_order names) k)
unfolding claim_of known_claim
assured_kept a b c k s vs fs n v f is e g m x y =
    kept_says (λ r p names long.
    let order = in_byte_order names in
    ap₂ (λ xs ys. Claimed xs ys n) (p.0 names long ∙ ap (names_among order) e) (p.1 names (long ∙ sym x.count) ∙ ap (names_among order) g)
    ∙ ap (Claimed (names_among order s.vars) (names_among order s.functions)) m ∙ ap (known_claim order) (sym is)) (both_kept x y)

pub nowhere_kept : (a : KeptRows) → Keeps a a (λ later. (names : List Text) → length names ≡ a.count → claim_of (in_byte_order names) later value_kind.NotReached ≡ known_claim (in_byte_order names) knowledge.NotReached)
unfolding claim_of known_claim
nowhere_kept a = nothing_kept a _ (λ r names long. refl)

-- Heads

abbrev pub KeepsHeads : Certificate → KeptRows → KeptRows → ℕ → List (ℕ × value.Facts) → Type 0
KeepsHeads c old new i hs = Keeps old new (λ later. (order : List (ℕ × Text)) → turns_of order later hs ≡ turns_from 1 (commands_from order c 1 (take i c.entries.items)))

pub turns_begin : (c : Certificate) (a : KeptRows) → KeepsHeads c a a 0 []
unfolding turns_from commands_from
turns_begin c a = nothing_kept a _ (λ r order. refl)

turned : (k : ℕ) (o : Option Claim) (hs gs : List (ℕ × Claim)) → with_turn k o (hs ++ gs) ≡ with_turn k o hs ++ gs
unfolding with_turn
turned k None hs gs = refl
turned k (Some h) hs gs = refl

turns_append : (k n : ℕ) (cs : List CommandClaims) (c : CommandClaims) → n ≡ k + length cs → turns_from k (cs ++ c ∷ []) ≡ turns_from k cs ++ with_turn n c.head []
unfolding turns_from
turns_append k n [] c e = let same : k ≡ n = omega arith in ap (λ j. with_turn j c.head []) same
turns_append k n (x ∷ cs) c e =
    ap (with_turn k x.head) (turns_append (k + 1) n cs c (omega arith)) ∙ turned k x.head (turns_from (k + 1) cs) (with_turn n c.head [])

pub turn_kept : (c : Certificate) (a b d : KeptRows) (i number : ℕ) (e : Entry) (head : Option value.Facts) (hs gs : List (ℕ × value.Facts)) → i < length c.entries.items → number ≡ i + 1 → head ≡ get nat_eq c.heads number
    → KeepsHeads c a b i hs
    → Keeps b d (λ later. (order : List (ℕ × Text)) → turns_of order later gs ≡ turns_of order later hs ++ with_turn number (option_map (claim_of order c.rows) head) [])
    → KeepsHeads c a d (i + 1) gs
turn_kept c a b d i number e head hs gs lt m h x y =
    kept_says (λ r p order.
    let es = c.entries.items in
    let count : number ≡ 1 + length (take i es) = omega (arith, length-take-le i es (omega (arith, lt)), m) in
    let count_too : number ≡ 1 + length (commands_from order c 1 (take i es)) = omega (arith, length-take-le i es (omega (arith, lt)), length_commands order c 1 (take i es), m) in
    let last : Entry = get_or es i e in
    p.1 order
    ∙ ap₂ (λ (u : List (ℕ × Claim)) (o : Option value.Facts). u ++ with_turn number (option_map (claim_of order c.rows) o) []) (p.0 order) h
    ∙ sym (turns_append 1 number (commands_from order c 1 (take i es)) (command_claims order c.rows last (get nat_eq c.heads number)) count_too)
    ∙ ap (turns_from 1) (sym (commands_append order c 1 number (take i es) last count))
    ∙ ap (λ xs. turns_from 1 (commands_from order c 1 xs)) (sym (take_more es i e lt)))
    (both_kept x y)

pub turns_end : (c : Certificate) (a b : KeptRows) (i : ℕ) (hs : List (ℕ × value.Facts)) → length c.entries.items ≤ i → KeepsHeads c a b i hs
    → Keeps a b (λ later. (order : List (ℕ × Text)) → turns_of order later hs ≡ turns_from 1 (commands_from order c 1 c.entries.items))
turns_end c a b i hs le x = kept_says (λ r p order. p order ∙ ap (λ xs. turns_from 1 (commands_from order c 1 xs)) (take_all i c.entries.items le)) x

-- what is put after the others
pub head_put : (order : List (ℕ × Text)) (rows : KeptRows) (hs : List (ℕ × value.Facts)) (number : ℕ) (f : value.Facts) (x : Claim) → claim_of order rows f ≡ x
    → turns_of order rows (hs ++ (number, f) ∷ []) ≡ turns_of order rows hs ++ with_turn number (Some x) []
unfolding with_turn
head_put order rows hs number f x e =
    map-append (λ (h : ℕ × value.Facts). (h.0, claim_of order rows h.1)) hs ((number, f) ∷ []) ∙ ap (λ (c : Claim). turns_of order rows hs ++ (number, c) ∷ []) e

pub no_head_put : (hs : List (ℕ × Claim)) (number : ℕ) → hs ≡ hs ++ with_turn number None []
unfolding with_turn
no_head_put hs number = sym (append-nil hs)

abbrev pub PutsHead : KeptRows → KeptRows → KeptRows → ℕ → Option value.Facts → List (ℕ × value.Facts) → List (ℕ × value.Facts) → Type 0
PutsHead from old new number o hs gs =
    Keeps old new (λ later. (order : List (ℕ × Text)) → turns_of order later gs ≡ turns_of order later hs ++ with_turn number (option_map (claim_of order from) o) [])

pub head_kept : (from a b : KeptRows) (hs gs : List (ℕ × value.Facts)) (number : ℕ) (f kept : value.Facts) (o : Option value.Facts) → o ≡ Some f → gs ≡ hs ++ (number, kept) ∷ [] → KeepsFacts from a b f kept
    → PutsHead from a b number o hs gs
head_kept from a b hs gs number f kept o is put x =
    kept_says (λ r p order. ap (turns_of order r) put ∙ head_put order r hs number kept (claim_of order from f) (p order)
    ∙ ap (λ (q : Option value.Facts). turns_of order r hs ++ with_turn number (option_map (claim_of order from) q) []) (sym is)) x

pub no_head_kept : (from a : KeptRows) (hs : List (ℕ × value.Facts)) (number : ℕ) (o : Option value.Facts) → o ≡ None → PutsHead from a a number o hs hs
no_head_kept from a hs number o is =
    nothing_kept a _ (λ r order. no_head_put (turns_of order r hs) number
    ∙ ap (λ (q : Option value.Facts). turns_of order r hs ++ with_turn number (option_map (claim_of order from) q) []) (sym is))

-- Functions

abbrev pub KeepsFunctions : KeptRows → List FunctionEntry → KeptRows → KeptRows → ℕ → List FunctionEntry → Type 0
KeepsFunctions from fs old new i es = Keeps old new (λ later. (order : List (ℕ × Text)) → map (function_claims order later) es ≡ map (function_claims order from) (take i fs))

pub functions_begin : (from : KeptRows) (fs : List FunctionEntry) (a : KeptRows) → KeepsFunctions from fs a a 0 []
functions_begin from fs a = nothing_kept a _ (λ r order. refl)

pub functions_on : (from : KeptRows) (fs : List FunctionEntry) (a b d : KeptRows) (i : ℕ) (e f g : FunctionEntry) (es : List FunctionEntry) → i < length fs → e ≡ get_or fs i g → KeepsFunctions from fs a b i es
    → Keeps b d (λ later. (order : List (ℕ × Text)) → function_claims order later f ≡ function_claims order from e) → KeepsFunctions from fs a d (i + 1) (es ++ f ∷ [])
functions_on from fs a b d i e f g es lt is x y =
    kept_says (λ r p order.
    map-append (function_claims order r) es (f ∷ [])
    ∙ ap₂ (λ (us : List FunctionClaims) (u : FunctionClaims). us ++ u ∷ []) (p.0 order) (p.1 order)
    ∙ sym (map-append (function_claims order from) (take i fs) (e ∷ []))
    ∙ ap (map (function_claims order from)) (sym (take_more fs i g lt ∙ ap (λ y. take i fs ++ y ∷ []) (sym is))))
    (both_kept x y)

pub functions_end : (from : KeptRows) (fs : List FunctionEntry) (a b : KeptRows) (i : ℕ) (es : List FunctionEntry) → length fs ≤ i → KeepsFunctions from fs a b i es
    → Keeps a b (λ later. (order : List (ℕ × Text)) → map (function_claims order later) es ≡ map (function_claims order from) fs)
functions_end from fs a b i es le x = kept_says (λ r p order. p order ∙ ap (map (function_claims order from)) (take_all i fs le)) x

-- The whole

built : {n m : ℕ} {s u : Claim} {hs gs : List (ℕ × Claim)} {fs es : List FunctionClaims} → n ≡ m → s ≡ u → hs ≡ gs → fs ≡ es
    → ◌≡◌ {A = CompactSheet} (record { commands = n; start = s; heads = hs; functions = fs }) (record { commands = m; start = u; heads = gs; functions = es })
built a b c d = cc

pub compact_kept : (certificate : Certificate) (k : Knowledge) (a b c d : KeptRows) (compact : Compact) → a.count ≡ certificate.rows.count → compact.commands ≡ length certificate.entries.items → compact.rows ≡ d
    → Keeps a b (λ later. (names : List Text) → length names ≡ a.count → claim_of (in_byte_order names) later compact.start ≡ known_claim (in_byte_order names) k)
    → Keeps b c (λ later. (order : List (ℕ × Text)) → turns_of order later compact.heads.entries ≡ turns_from 1 (commands_from order certificate 1 certificate.entries.items))
    → Keeps c d (λ later. (order : List (ℕ × Text)) → map (function_claims order later) compact.functions.items ≡ map (function_claims order certificate.rows) certificate.functions.items)
    → (names : List Text) → length names ≡ certificate.rows.count
    → compact_claims (in_byte_order names) compact ≡ compact_of_sheet (known_claim (in_byte_order names) k) (sheet_of (in_byte_order names) certificate)
compact_kept certificate k a b c d compact count commands rows x y z names long =
    let order = in_byte_order names in
    let all = (both_kept (both_kept x y) z).lasting compact.rows (subst (λ (r : KeptRows). Stay d.rows r.rows) (sym rows) (λ i l. refl)) in
    built (commands ∙ sym (length_commands order certificate 1 certificate.entries.items)) (all.0.0 names (long ∙ sym count)) (all.0.1 order) (all.1 order)
