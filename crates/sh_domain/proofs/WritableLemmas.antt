-- What is read of a certificate's text may be written, and a text within its limit is read as its
-- lines are.
use Rattle.std.proofs.Common.{◌≡◌, ℕ, ◌≤◌, nat_le, Bool, true, false, ◌&&◌, if◌then◌else◌, List, [], ◌∷◌, length, Option, Some, None, refl, subst, arith, codes, Result, Ok, Err}
use Rattle.std.specs.Fmt.{decimal}
use Rattle.std.specs.Str.{bytes_eq}
use Rattle.std.proofs.lemmas.Bool.Decides.{nat_tests}
use Rattle.sh_tree.specs.standard.language.Bytes.{is_name}
use Rattle.sh_tree.specs.standard.program.Syntax.{Text}
use Rattle.sh_domain.specs.Facts.{Claim, Unreached, Claimed}
use Rattle.sh_domain.specs.Forms as form
use Rattle.sh_domain.specs.Forms.{pieces, number_in, is_rising, is_variable, are_rising, drops_of, drops_in, known_of, claim_in, claims_of, head_of, command_of, function_claims_of, function_of, read_sheet, read_text}
use Rattle.sh_domain.specs.Operands.{Names}
use Rattle.sh_domain.specs.Sheets.{CommandClaims, FunctionClaims, Sheet}
use Rattle.sh_domain.specs.Spelling.{is_writable, is_writable_head, are_writable, is_command, is_function}
use Rattle.sh_domain.proofs.SpellingLemmas.{none_some, if_some, both_some, map_some, number_spelled, claims_some, function_some, err_ok}
use Rattle.sh_domain.specs.declared.limits.TheConstants.{MAX_CERTIFICATE}

pub ok_same : {A : Type 0} {x y : A} → ◌≡◌ {A = Result A ℕ} (Ok x) (Ok y) → x ≡ y
ok_same h = cc

pub ok_err : {A B : Type 0} {x : A} {y : B} → Ok x ≡ Err y → ⊥
ok_err e = cc

pub short : (t : Text) → length t ≤ MAX_CERTIFICATE → read_text t ≡ read_sheet t
unfolding read_text
short t l = let small : nat_le (length t) MAX_CERTIFICATE ≡ true = grind (arith, nat_tests) in rw small refl

pub within : (t : Text) (s : Sheet) → read_text t ≡ Ok s → read_sheet t ≡ Ok s
unfolding read_text
within t s e = by (nat_le (length t) MAX_CERTIFICATE) e
  where
    by : (b : Bool) → (if b then read_sheet t else Err 0) ≡ Ok s → read_sheet t ≡ Ok s
    by true h = h
    by false h = absurd (err_ok h)

pub names_rise : (is_one : Text → Bool) (t : Text) (ns : List Text) → form.names_in is_one t ≡ Some ns → are_rising is_one ns ≡ true
unfolding form.names_in is_rising
names_rise is_one [] ns e = let same : [] ≡ ns = cc in subst (λ us. are_rising is_one us ≡ true) same refl
names_rise is_one (c ∷ t) ns e =
    let i = if_some (are_rising is_one (pieces 44 (c ∷ t))) (Some (pieces 44 (c ∷ t))) ns e in
    let same : pieces 44 (c ∷ t) ≡ ns = cc in
    subst (λ us. are_rising is_one us ≡ true) same i.0

drops_writable : (ts : List Text) (d : Names) → drops_of ts ≡ Some d → are_writable d ≡ true
unfolding drops_of
drops_writable [] d e = absurd (none_some e)
drops_writable (v ∷ []) d e = absurd (none_some e)
drops_writable (v ∷ f ∷ g ∷ ts) d e = absurd (none_some e)
drops_writable (v ∷ f ∷ []) d e =
    let i = both_some (λ v f. record { vars = v; functions = f }) (form.names_in is_variable v) (form.names_in is_name f) d e in
    subst (λ (x : Names). are_writable x ≡ true) i.4 (rw (names_rise is_variable v i.0 i.2, names_rise is_name f i.1 i.3) refl)

known_writable : (ts : List Text) (c : Claim) → known_of ts ≡ Some c → is_writable c ≡ true
unfolding known_of is_writable
known_writable [] c e = absurd (none_some e)
known_writable (n ∷ sets) c e =
    let i = both_some (λ n d. Claimed d.vars d.functions n) (number_in n) (drops_of sets) c e in
    let small : i.0 ≤ 65535 = (number_spelled n i.0 i.2).1 in
    let fits : nat_le i.0 65535 ≡ true = grind (arith, nat_tests) in
    let sets_are : are_writable i.1 ≡ true = drops_writable sets i.1 i.3 in
    subst (λ (x : Claim). is_writable x ≡ true) i.4 (rw (sets_are, fits) refl)

pub claim_writable : (t : Text) (c : Claim) → claim_in t ≡ Some c → is_writable c ≡ true
unfolding claim_in is_writable
claim_writable t c e = go (bytes_eq (codes "-") t) e
  where
    go : (b : Bool) → (if b then Some Unreached else known_of (pieces 58 t)) ≡ Some c → is_writable c ≡ true
    go true h = let same : Unreached ≡ c = cc in subst (λ (x : Claim). is_writable x ≡ true) same refl
    go false h = known_writable (pieces 58 t) c h

head_writable : (ts : List Text) (h : Option Claim) → head_of ts ≡ Some h → is_writable_head h ≡ true
unfolding head_of is_writable_head
head_writable [] h e = let same : None ≡ h = cc in subst (λ (x : Option Claim). is_writable_head x ≡ true) same refl
head_writable (t ∷ []) h e =
    let i = map_some Some (claim_in t) h e in
    subst (λ (x : Option Claim). is_writable_head x ≡ true) i.2 (claim_writable t i.0 i.1)
head_writable (t ∷ u ∷ ts) h e = absurd (none_some e)

pub command_writable : (k : ℕ) (ts : List Text) (c : CommandClaims) → command_of k ts ≡ Some c → is_command c ≡ true
unfolding command_of
command_writable k [] c e = absurd (none_some e)
command_writable k (l ∷ []) c e = absurd (none_some e)
command_writable k (l ∷ n ∷ []) c e = absurd (none_some e)
command_writable k (l ∷ n ∷ b ∷ []) c e = absurd (none_some e)
command_writable k (l ∷ n ∷ b ∷ z ∷ []) c e = absurd (none_some e)
command_writable k (l ∷ n ∷ b ∷ z ∷ o ∷ rest) c e =
    let i = if_some (bytes_eq (codes "c") l && bytes_eq (decimal k) n) (claims_of (claim_in b) (claim_in z) (claim_in o) (head_of rest)) c e in
    let p = claims_some (claim_in b) (claim_in z) (claim_in o) (head_of rest) c i.1 in
    rw (claim_writable b c.before p.0, claim_writable z c.zero p.1, claim_writable o c.nonzero p.2) (head_writable rest c.head p.3)

pub function_writable : (k : ℕ) (ts : List Text) (f : FunctionClaims) → function_of k ts ≡ Some f → is_function f ≡ true
unfolding function_of
function_writable k [] c e = absurd (none_some e)
function_writable k (l ∷ []) c e = absurd (none_some e)
function_writable k (l ∷ n ∷ []) c e = absurd (none_some e)
function_writable k (l ∷ n ∷ b ∷ []) c e = absurd (none_some e)
function_writable k (l ∷ n ∷ b ∷ d ∷ []) c e = absurd (none_some e)
function_writable k (l ∷ n ∷ b ∷ d ∷ z ∷ []) c e = absurd (none_some e)
function_writable k (l ∷ n ∷ b ∷ d ∷ z ∷ o ∷ m ∷ rest) c e = absurd (none_some e)
function_writable k (l ∷ n ∷ b ∷ d ∷ z ∷ o ∷ []) c e =
    let i = if_some (bytes_eq (codes "f") l && bytes_eq (decimal k) n) (function_claims_of (claim_in b) (drops_in d) (claim_in z) (claim_in o)) c e in
    let p = function_some (claim_in b) (drops_in d) (claim_in z) (claim_in o) c i.1 in
    rw (claim_writable b c.before p.0, drops_writable (pieces 58 d) c.drops p.1, claim_writable z c.zero p.2, claim_writable o c.nonzero p.3) refl
