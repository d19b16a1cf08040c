-- The text of a certificate reads as that certificate.
use Rattle.std.proofs.Common.{◌≡◌, ℕ, zero, suc, ◌+◌, ◌^◌, ◌<◌, ◌≤◌, ◌==◌, nat_le, Bool, true, false, not, ◌&&◌, ◌||◌, if◌then◌else◌, List, [], ◌∷◌, ◌++◌, length, get_or, append-nil, Option, Some, None, Ok, refl, sym, ap, ◌∙◌, subst, arith, codes}
use Rattle.std.specs.Fmt.{decimal, digits}
use Rattle.std.specs.Char.{is_ascii_digit}
use Rattle.std.specs.List.{list_all}
use Rattle.std.specs.Str.{bytes_eq, all_ascii_digits}
use Rattle.std.proofs.lemmas.Bool.{and_parts}
use Rattle.std.proofs.lemmas.Bool.Decides.{nat_tests}
use Rattle.std.proofs.lemmas.Fmt.{digits_decimal, digits_value-decimal, first_decimal, decimal_nonempty}
use Rattle.std.proofs.lemmas.List.Folds.{list_all-append}
use Rattle.std.proofs.lemmas.Slice.Eq.{bytes_eq-Decides}
use Rattle.sh_tree.specs.standard.language.Bytes as bytes
use Rattle.sh_tree.specs.standard.language.Bytes.{is_name, is_name_byte, is_name_start}
use Rattle.sh_tree.specs.standard.program.Syntax.{Text}
use Rattle.sh_domain.specs.Facts.{Claim, Unreached, Claimed}
use Rattle.sh_domain.specs.Forms as form
use Rattle.sh_domain.specs.Forms.{onto_first, pieces, value, leads_no_zero, number_in, is_rising, is_variable, are_rising, both, drops_of, known_of, claim_in, drops_in, claims_of, head_of, command_of, function_claims_of, function_of, counts_of, onto_front, cut_at, formed, whole_line, behind, read_line, read_lines, is_first, counts_in, command_in, function_in, ended, read_sheet}
use Rattle.sh_domain.specs.Operands.{Names}
use Rattle.sh_domain.specs.Sheets.{Sheet, CommandClaims, FunctionClaims, joined, names_text, claim_text, drops_text, head_fields, command_fields, function_fields, numbered_lines, first_line, count_fields, certificate_text}
use Rattle.sh_domain.specs.Spelling.{is_writable, is_writable_head, are_writable, is_command, is_function, IsSheet}
use Rattle.sh_domain.proofs.SpellingLemmas.{numerals, glued, text_of}

-- Tests

not_true : (b : Bool) → not b ≡ true → b ≡ false
not_true true h = cc
not_true false h = refl

pub or_left : (a b : Bool) → a ≡ true → (a || b) ≡ true
or_left a b h = rw h refl

or_right : (a b : Bool) → b ≡ true → (a || b) ≡ true
or_right true b h = refl
or_right false b h = h

itself : (c : ℕ) → (c == c) ≡ true
itself c = grind (arith, nat_tests)

pub same_bytes : (t : Text) → bytes_eq t t ≡ true
same_bytes t = (bytes_eq-Decides t t).1 refl

-- Pieces of texts without the byte

abbrev pub lacks : ℕ → Text → Bool
lacks c t = list_all (λ d. not (d == c)) t

pub piece_last : (c : ℕ) (t : Text) → lacks c t ≡ true → pieces c t ≡ t ∷ []
unfolding pieces onto_first
piece_last c [] h = refl
piece_last c (d ∷ t) h =
    let p = and_parts (not (d == c)) (lacks c t) h in
    let other : (d == c) ≡ false = not_true (d == c) p.0 in
    rw (other, piece_last c t p.1) refl

piece_front : (c : ℕ) (t u : Text) → lacks c t ≡ true → pieces c (t ++ c ∷ u) ≡ t ∷ pieces c u
unfolding pieces onto_first
piece_front c [] u h = rw (itself c) refl
piece_front c (d ∷ t) u h =
    let p = and_parts (not (d == c)) (lacks c t) h in
    let other : (d == c) ≡ false = not_true (d == c) p.0 in
    rw (other, piece_front c t u p.1) refl

pub pieces_joined : (c : ℕ) (t : Text) (ts : List Text) → list_all (lacks c) (t ∷ ts) ≡ true → pieces c (joined c (t ∷ ts)) ≡ t ∷ ts
unfolding joined
pieces_joined c t [] h = piece_last c t (and_parts (lacks c t) true h).0
pieces_joined c t (u ∷ ts) h =
    let p = and_parts (lacks c t) (list_all (lacks c) (u ∷ ts)) h in
    piece_front c t (joined c (u ∷ ts)) p.0 ∙ ap (λ us. t ∷ us) (pieces_joined c u ts p.1)

pub lacks_joined : (c d : ℕ) (ts : List Text) → (d == c) ≡ false → list_all (lacks c) ts ≡ true → lacks c (joined d ts) ≡ true
unfolding joined
lacks_joined c d [] o h = refl
lacks_joined c d (t ∷ []) o h = (and_parts (lacks c t) true h).0
lacks_joined c d (t ∷ u ∷ ts) o h =
    let p = and_parts (lacks c t) (list_all (lacks c) (u ∷ ts)) h in
    rw (list_all-append (λ e. not (e == c)) t (d ∷ joined d (u ∷ ts)), p.0, o) (lacks_joined c d (u ∷ ts) o p.1)

-- A byte that is in no name and no number

pub record Apart (c : ℕ) : Type 0 where
  pub no_name : is_name_byte c ≡ false
  pub no_job : (33 == c) ≡ false
  pub no_dash : (45 == c) ≡ false

byte_apart : (c d : ℕ) → is_name_byte c ≡ false → is_name_byte d ≡ true → (d == c) ≡ false
byte_apart c d n y = go (d == c) refl
  where
    go : (b : Bool) → (d == c) ≡ b → b ≡ false
    go false e = refl
    go true e =
        let same : d ≡ c = grind (arith, nat_tests) in
        let wrong : true ≡ false = sym y ∙ ap is_name_byte same ∙ n in wrong

bytes_lack : (c : ℕ) → Apart c → (t : Text) → list_all is_name_byte t ≡ true → lacks c t ≡ true
bytes_lack c a [] h = refl
bytes_lack c a (d ∷ t) h = let p = and_parts (is_name_byte d) (list_all is_name_byte t) h in rw (byte_apart c d a.no_name p.0) (bytes_lack c a t p.1)

variable_lacks : (c : ℕ) → Apart c → (t : Text) → is_variable t ≡ true → lacks c t ≡ true
variable_lacks c a t h = go (is_name t) refl
  where
    go : (b : Bool) → is_name t ≡ b → lacks c t ≡ true
    go true e = bytes_lack c a t (and_parts (bytes.is_first is_name_start t) (list_all is_name_byte t) e).1
    go false e =
        let job : bytes_eq (codes "!") t ≡ true = rw e at h in
        let same : codes "!" ≡ t = (bytes_eq-Decides (codes "!") t).0 job in
        subst (λ u. lacks c u ≡ true) same (rw a.no_job refl)

digits_are_names : (t : Text) → all_ascii_digits t ≡ true → list_all is_name_byte t ≡ true
digits_are_names [] h = refl
digits_are_names (d ∷ t) h =
    let p = and_parts (is_ascii_digit d) (all_ascii_digits t) h in
    rw (or_right (is_name_start d) (bytes.is_digit d) p.0) (digits_are_names t p.1)

pub decimal_lacks : (c : ℕ) → Apart c → (n : ℕ) → n ≤ 65535 → lacks c (decimal n) ≡ true
decimal_lacks c a n l = bytes_lack c a (decimal n) (digits_are_names (decimal n) (digits_decimal numerals n (omega arith)))

all_lack : (c : ℕ) → Apart c → (is_one : Text → Bool) → ((t : Text) → is_one t ≡ true → is_variable t ≡ true) → (ts : List Text) → list_all is_one ts ≡ true → list_all (lacks c) ts ≡ true
all_lack c a is_one v [] h = refl
all_lack c a is_one v (t ∷ ts) h = let p = and_parts (is_one t) (list_all is_one ts) h in rw (variable_lacks c a t (v t p.0)) (all_lack c a is_one v ts p.1)

pub as_variable : (t : Text) → is_variable t ≡ true → is_variable t ≡ true
as_variable t h = h

pub name_is_variable : (t : Text) → is_name t ≡ true → is_variable t ≡ true
name_is_variable t h = or_left (is_name t) (bytes_eq (codes "!") t) h

pub names_lack : (c : ℕ) → Apart c → (44 == c) ≡ false → (is_one : Text → Bool) → ((t : Text) → is_one t ≡ true → is_variable t ≡ true) → (ts : List Text) → are_rising is_one ts ≡ true → lacks c (names_text ts) ≡ true
names_lack c a o is_one v ts h = lacks_joined c 44 ts o (all_lack c a is_one v ts (and_parts (list_all is_one ts) (is_rising ts) h).0)

pub comma : Apart 44
comma = record { no_name = refl; no_job = refl; no_dash = refl }

pub colon : Apart 58
colon = record { no_name = refl; no_job = refl; no_dash = refl }

pub blank : Apart 32
blank = record { no_name = refl; no_job = refl; no_dash = refl }

pub newline : Apart 10
newline = record { no_name = refl; no_job = refl; no_dash = refl }

-- Numbers

leads_some : (t : Text) → 48 < get_or t 0 0 → 0 < length t → leads_no_zero t ≡ true
unfolding leads_no_zero
leads_some [] l m = absurd (omega arith)
leads_some (c ∷ []) l m = refl
leads_some (c ∷ d ∷ t) l m = grind (arith, nat_tests)

leads_decimal : (n : ℕ) → n ≤ 65535 → leads_no_zero (decimal n) ≡ true
unfolding leads_no_zero digits
leads_decimal zero l = refl
leads_decimal (suc n) l = leads_some (decimal (suc n)) (first_decimal (suc n) (omega arith) (omega arith)) (decimal_nonempty (suc n) (omega arith))

pub number_read : (n : ℕ) → n ≤ 65535 → number_in (decimal n) ≡ Some n
unfolding number_in
number_read n l =
    let small : n < 2 ^ 64 = omega arith in
    let is_value : value (decimal n) ≡ n = digits_value-decimal numerals n small in
    let fits : nat_le n 65535 ≡ true = grind (arith, nat_tests) in
    rw (leads_decimal n l, digits_decimal numerals n small, is_value, fits) refl

-- Names, drops, facts

names_of : (is_one : Text → Bool) (t : Text) → 0 < length t → form.names_in is_one t ≡ (if are_rising is_one (pieces 44 t) then Some (pieces 44 t) else None)
unfolding form.names_in
names_of is_one [] l = absurd (omega arith)
names_of is_one (c ∷ t) l = refl

some_names : (is_one : Text → Bool) (t : Text) (ts : List Text) → is_one [] ≡ false → is_one t ≡ true → 0 < length (joined 44 (t ∷ ts))
unfolding joined
some_names is_one [] ts n h = absurd (wrong (sym n ∙ h))
  where
    wrong : false ≡ true → ⊥
    wrong e = cc
some_names is_one (c ∷ t) [] n h = omega arith
some_names is_one (c ∷ t) (u ∷ ts) n h = omega arith

names_read : (is_one : Text → Bool) → is_one [] ≡ false → ((t : Text) → is_one t ≡ true → is_variable t ≡ true) → (ts : List Text) → are_rising is_one ts ≡ true → form.names_in is_one (names_text ts) ≡ Some ts
unfolding form.names_in joined
names_read is_one n v [] h = refl
names_read is_one n v (t ∷ ts) h =
    let all = and_parts (list_all is_one (t ∷ ts)) (is_rising (t ∷ ts)) h in
    let first = and_parts (is_one t) (list_all is_one ts) all.0 in
    let split : pieces 44 (joined 44 (t ∷ ts)) ≡ t ∷ ts = pieces_joined 44 t ts (all_lack 44 comma is_one v (t ∷ ts) all.0) in
    names_of is_one (joined 44 (t ∷ ts)) (some_names is_one t ts n first.0)
    ∙ ap (λ us. if are_rising is_one us then Some us else None) split ∙ ap (λ b. if b then Some (t ∷ ts) else None) h

pub no_variable : is_variable [] ≡ false
unfolding bytes.is_first
no_variable = refl

pub no_name_empty : is_name [] ≡ false
unfolding bytes.is_first
no_name_empty = refl

sets_lack : (c : ℕ) → Apart c → (44 == c) ≡ false → (d : Names) → are_writable d ≡ true → list_all (lacks c) (names_text d.vars ∷ names_text d.functions ∷ []) ≡ true
sets_lack c a o d h =
    let p = and_parts (are_rising is_variable d.vars) (are_rising is_name d.functions) h in
    rw (names_lack c a o is_variable as_variable d.vars p.0, names_lack c a o is_name name_is_variable d.functions p.1) refl

sets_read : (d : Names) → are_writable d ≡ true → drops_of (names_text d.vars ∷ names_text d.functions ∷ []) ≡ Some d
unfolding drops_of both
sets_read d h =
    let p = and_parts (are_rising is_variable d.vars) (are_rising is_name d.functions) h in
    rw (names_read is_variable no_variable as_variable d.vars p.0, names_read is_name no_name_empty name_is_variable d.functions p.1) refl

drops_read : (d : Names) → are_writable d ≡ true → drops_in (drops_text d) ≡ Some d
drops_read d h = ap drops_of (pieces_joined 58 (names_text d.vars) (names_text d.functions ∷ []) (sets_lack 58 colon refl d h)) ∙ sets_read d h

drops_lack : (c : ℕ) → Apart c → (44 == c) ≡ false → (58 == c) ≡ false → (d : Names) → are_writable d ≡ true → lacks c (drops_text d) ≡ true
drops_lack c a o p d h = lacks_joined c 58 (names_text d.vars ∷ names_text d.functions ∷ []) p (sets_lack c a o d h)

no_dash_first : (t u : Text) → all_ascii_digits t ≡ true → 0 < length t → bytes_eq (codes "-") (t ++ u) ≡ false
no_dash_first [] u h l = absurd (omega arith)
no_dash_first (d ∷ t) u h l =
    let p = and_parts (is_ascii_digit d) (all_ascii_digits t) h in
    let other : (45 == d) ≡ false = grind (arith, nat_tests) in
    rw other refl

pub claim_lacks : (c : ℕ) → Apart c → (44 == c) ≡ false → (58 == c) ≡ false → (x : Claim) → is_writable x ≡ true → lacks c (claim_text x) ≡ true
unfolding claim_text is_writable
claim_lacks c a o p Unreached h = rw a.no_dash refl
claim_lacks c a o p (Claimed v f n) h =
    let q = and_parts (are_rising is_variable v && are_rising is_name f) (nat_le n 65535) h in
    let small : n ≤ 65535 = grind (arith, nat_tests) in
    lacks_joined c 58 (decimal n ∷ names_text v ∷ names_text f ∷ []) p (rw (decimal_lacks c a n small) (sets_lack c a o (record { vars = v; functions = f }) q.0))

pub claim_read : (x : Claim) → is_writable x ≡ true → claim_in (claim_text x) ≡ Some x
unfolding claim_text is_writable claim_in known_of both joined
claim_read Unreached h = refl
claim_read (Claimed v f n) h =
    let q = and_parts (are_rising is_variable v && are_rising is_name f) (nat_le n 65535) h in
    let small : n ≤ 65535 = grind (arith, nat_tests) in
    let d : Names = record { vars = v; functions = f } in
    let split : pieces 58 (joined 58 (decimal n ∷ names_text v ∷ names_text f ∷ [])) ≡ decimal n ∷ names_text v ∷ names_text f ∷ [] =
    pieces_joined 58 (decimal n) (names_text v ∷ names_text f ∷ []) (rw (decimal_lacks 58 colon n small) (sets_lack 58 colon refl d q.0)) in
    let other : bytes_eq (codes "-") (joined 58 (decimal n ∷ names_text v ∷ names_text f ∷ [])) ≡ false =
    no_dash_first (decimal n) (58 ∷ joined 58 (names_text v ∷ names_text f ∷ [])) (digits_decimal numerals n (omega arith)) (decimal_nonempty n (omega arith)) in
    ap (λ b. if b then Some Unreached else known_of (pieces 58 (joined 58 (decimal n ∷ names_text v ∷ names_text f ∷ [])))) other
    ∙ ap known_of split ∙ rw (number_read n small, sets_read d q.0) refl

-- Lines

head_read : (h : Option Claim) → is_writable_head h ≡ true → head_of (head_fields h) ≡ Some h
unfolding head_of head_fields is_writable_head
head_read None e = refl
head_read (Some x) e = rw (claim_read x e) refl

head_lacks : (c : ℕ) → Apart c → (44 == c) ≡ false → (58 == c) ≡ false → (h : Option Claim) → is_writable_head h ≡ true → list_all (lacks c) (head_fields h) ≡ true
unfolding head_fields is_writable_head
head_lacks c a o p None e = refl
head_lacks c a o p (Some x) e = rw (claim_lacks c a o p x e) refl

record CommandParts (c : CommandClaims) : Type 0 where
  before : is_writable c.before ≡ true
  zero_status : is_writable c.zero ≡ true
  nonzero : is_writable c.nonzero ≡ true
  head : is_writable_head c.head ≡ true

command_parts : (c : CommandClaims) → is_command c ≡ true → CommandParts c
command_parts c h =
    let p = and_parts (is_writable c.before && is_writable c.zero && is_writable c.nonzero) (is_writable_head c.head) h in
    let q = and_parts (is_writable c.before && is_writable c.zero) (is_writable c.nonzero) p.0 in
    let r = and_parts (is_writable c.before) (is_writable c.zero) q.0 in
    record { before = r.0; zero_status = r.1; nonzero = q.1; head = p.1 }

record FunctionParts (f : FunctionClaims) : Type 0 where
  before : is_writable f.before ≡ true
  drops : are_writable f.drops ≡ true
  zero_status : is_writable f.zero ≡ true
  nonzero : is_writable f.nonzero ≡ true

function_parts : (f : FunctionClaims) → is_function f ≡ true → FunctionParts f
function_parts f h =
    let p = and_parts (is_writable f.before && are_writable f.drops && is_writable f.zero) (is_writable f.nonzero) h in
    let q = and_parts (is_writable f.before && are_writable f.drops) (is_writable f.zero) p.0 in
    let r = and_parts (is_writable f.before) (are_writable f.drops) q.0 in
    record { before = r.0; drops = r.1; zero_status = q.1; nonzero = p.1 }

pub letter_lacks : (c d : ℕ) → (d == c) ≡ false → lacks c (d ∷ []) ≡ true
letter_lacks c d o = rw o refl

command_lacks : (c k : ℕ) → Apart c → (44 == c) ≡ false → (58 == c) ≡ false → (99 == c) ≡ false → (x : CommandClaims) → k ≤ 65535 → is_command x ≡ true → list_all (lacks c) (command_fields k x) ≡ true
command_lacks c k a o p l x small h =
    let parts = command_parts x h in
    rw (letter_lacks c 99 l, decimal_lacks c a k small, claim_lacks c a o p x.before parts.before, claim_lacks c a o p x.zero parts.zero_status, claim_lacks c a o p x.nonzero parts.nonzero)
    (head_lacks c a o p x.head parts.head)

command_read : (k : ℕ) (x : CommandClaims) → k ≤ 65535 → is_command x ≡ true → command_in k (joined 32 (command_fields k x)) ≡ Some x
unfolding command_of claims_of
command_read k x small h =
    let parts = command_parts x h in
    ap (command_of k) (pieces_joined 32 (codes "c") _ (command_lacks 32 k blank refl refl refl x small h))
    ∙ rw (same_bytes (decimal k), claim_read x.before parts.before, claim_read x.zero parts.zero_status, claim_read x.nonzero parts.nonzero, head_read x.head parts.head) refl

function_lacks : (c k : ℕ) → Apart c → (44 == c) ≡ false → (58 == c) ≡ false → (102 == c) ≡ false → (x : FunctionClaims) → k ≤ 65535 → is_function x ≡ true → list_all (lacks c) (function_fields k x) ≡ true
function_lacks c k a o p l x small h =
    let parts = function_parts x h in
    rw (letter_lacks c 102 l, decimal_lacks c a k small, claim_lacks c a o p x.before parts.before, drops_lack c a o p x.drops parts.drops, claim_lacks c a o p x.zero parts.zero_status, claim_lacks c a o p x.nonzero parts.nonzero)
    refl

function_read : (k : ℕ) (x : FunctionClaims) → k ≤ 65535 → is_function x ≡ true → function_in k (joined 32 (function_fields k x)) ≡ Some x
unfolding function_of function_claims_of
function_read k x small h =
    let parts = function_parts x h in
    ap (function_of k) (pieces_joined 32 (codes "f") _ (function_lacks 32 k blank refl refl refl x small h))
    ∙ rw (same_bytes (decimal k), claim_read x.before parts.before, drops_read x.drops parts.drops, claim_read x.zero parts.zero_status, claim_read x.nonzero parts.nonzero) refl

counts_lack : (c n m : ℕ) → Apart c → lacks c (codes "commands") ≡ true → lacks c (codes "functions") ≡ true → n ≤ 65535 → m ≤ 65535 → list_all (lacks c) (count_fields n m) ≡ true
counts_lack c n m a p q l o = rw (p, decimal_lacks c a n l, q, decimal_lacks c a m o) refl

counts_read : (n m : ℕ) → n ≤ 65535 → m ≤ 65535 → counts_in (joined 32 (count_fields n m)) ≡ Some (n, m)
unfolding counts_of both
counts_read n m l o = ap counts_of (pieces_joined 32 (codes "commands") _ (counts_lack 32 n m blank refl refl l o)) ∙ rw (number_read n l, number_read m o) refl

-- The text

cut_read : (l r : Text) → lacks 10 l ≡ true → cut_at 10 (l ++ 10 ∷ r) ≡ Some (l, r)
unfolding cut_at onto_front
cut_read [] r h = refl
cut_read (c ∷ l) r h =
    let p = and_parts (not (c == 10)) (lacks 10 l) h in
    let other : (c == 10) ≡ false = not_true (c == 10) p.0 in
    rw (other, cut_read l r p.1) refl

pub line_read : {A : Type 0} (f : Text → Option A) (k : ℕ) (l r : Text) (x : A) → lacks 10 l ≡ true → f l ≡ Some x → read_line f k (l ++ 10 ∷ r) ≡ Ok (x, r)
unfolding whole_line formed
line_read f k l r x h e = ap (whole_line f k) (cut_read l r h) ∙ ap (formed k r) e

pub lines_read : {A : Type 0} (f : ℕ → Text → Option A) (fields : ℕ → A → List Text) (good : A → Bool)
    → ((i : ℕ) (x : A) → i ≤ 65535 → good x ≡ true → (f i (joined 32 (fields i x)) ≡ Some x) × (lacks 10 (joined 32 (fields i x)) ≡ true))
    → (k i : ℕ) (xs : List A) (rest : Text) → list_all good xs ≡ true → i + length xs ≤ 65536 → read_lines f k i (length xs) (numbered_lines fields i xs ++ rest) ≡ Ok (xs, rest)
unfolding read_lines numbered_lines behind
lines_read f fields good each k i [] rest h l = refl
lines_read f fields good each k i (x ∷ xs) rest h l =
    let p = and_parts (good x) (list_all good xs) h in
    let one = each i x (omega arith) p.0 in
    let here = line_read (f i) k (joined 32 (fields i x)) (numbered_lines fields (i + 1) xs ++ rest) x one.1 one.0 in
    let more = lines_read f fields good each (k + 1) (i + 1) xs rest p.1 (omega arith) in
    rw (glued (joined 32 (fields i x)) (numbered_lines fields (i + 1) xs) rest, here, more) refl

commands_read : (i : ℕ) (x : CommandClaims) → i ≤ 65535 → is_command x ≡ true → (command_in i (joined 32 (command_fields i x)) ≡ Some x) × (lacks 10 (joined 32 (command_fields i x)) ≡ true)
commands_read i x l h = (command_read i x l h, lacks_joined 10 32 (command_fields i x) refl (command_lacks 10 i newline refl refl refl x l h))

pub functions_read : (i : ℕ) (x : FunctionClaims) → i ≤ 65535 → is_function x ≡ true → (function_in i (joined 32 (function_fields i x)) ≡ Some x) × (lacks 10 (joined 32 (function_fields i x)) ≡ true)
functions_read i x l h = (function_read i x l h, lacks_joined 10 32 (function_fields i x) refl (function_lacks 10 i newline refl refl refl x l h))

pub read_back : (s : Sheet) → IsSheet s → read_sheet (certificate_text s) ≡ Ok s
unfolding read_sheet behind ended
read_back s h =
    let n = length s.commands in
    let m = length s.functions in
    let few : n ≤ 65535 = grind (arith, nat_tests, h.few_commands) in
    let few_too : m ≤ 65535 = grind (arith, nat_tests, h.few_functions) in
    let commands = numbered_lines command_fields 1 s.commands in
    let functions = numbered_lines function_fields 1 s.functions in
    let first = line_read is_first 1 first_line (joined 32 (count_fields n m) ++ 10 ∷ (commands ++ functions)) tt refl refl in
    let counts = line_read counts_in 2 (joined 32 (count_fields n m)) (commands ++ functions) (n, m) (lacks_joined 10 32 (count_fields n m) refl (counts_lack 10 n m newline refl refl few few_too)) (counts_read n m few few_too) in
    let all = lines_read command_in command_fields is_command commands_read 3 1 s.commands functions h.commands (omega arith) in
    let none = lines_read function_in function_fields is_function functions_read (3 + n) 1 s.functions [] h.functions (omega arith) in
    let last : read_lines function_in (3 + n) 1 m functions ≡ Ok (s.functions, []) = ap (read_lines function_in (3 + n) 1 m) (sym (append-nil functions)) ∙ none in
    ap read_sheet (text_of s.commands s.functions n m refl refl) ∙ rw (first, counts, all, last) refl
