-- A text that reads as a certificate is that certificate's text.
use Rattle.std.proofs.Common.{◌≡◌, ℕ, zero, suc, ◌+◌, ◌*◌, ◌-◌, ◌<◌, ◌≤◌, ◌==◌, nat_le, Bool, true, false, ◌&&◌, if◌then◌else◌, List, [], ◌∷◌, ◌++◌, length, get_or, fold, append_assoc, Option, Some, None, option_map, Result, Ok, Err, refl, sym, ap, ap₂, ◌∙◌, arith, codes, append-nil}
use Rattle.std.specs.Fmt.{decimal}
use Rattle.std.specs.Str.{bytes_eq, all_ascii_digits}
use Rattle.std.proofs.lemmas.Bool.{and_parts}
use Rattle.std.proofs.lemmas.Bool.Decides.{nat_tests}
use Rattle.std.proofs.lemmas.Slice.Eq.{bytes_eq-Decides}
use Rattle.std.proofs.lemmas.Fmt.{decimal-digits_value}
use Rattle.std.proofs.lemmas.Str.Parse.{IsNumeralModel, FoldsDigits, tells_all_ascii_digits, numerals_by_fold}
use Rattle.sh_tree.specs.standard.language.Bytes.{is_name}
use Rattle.sh_tree.specs.standard.program.Syntax.{Text}
use Rattle.sh_domain.specs.Facts.{Claim, Unreached, Claimed}
use Rattle.sh_domain.specs.Operands.{Names}
use Rattle.sh_domain.specs.Sheets.{Sheet, CommandClaims, FunctionClaims, joined, names_text, claim_text, drops_text, head_fields, command_fields, function_fields, numbered_lines, first_line, count_fields, certificate_text}
use Rattle.sh_domain.specs.Forms as form
use Rattle.sh_domain.specs.Forms.{onto_first, pieces, value, leads_no_zero, number_in, are_rising, both, drops_of, known_of, claim_in, drops_in, claims_of, head_of, command_of, function_claims_of, function_of, counts_of, onto_front, cut_at, formed, whole_line, behind, read_line, read_lines, is_first, counts_in, command_in, function_in, ended, read_sheet}

abbrev dash : Text
dash = codes "-"

abbrev command_letter : Text
command_letter = codes "c"

abbrev function_letter : Text
function_letter = codes "f"

abbrev commands_word : Text
commands_word = codes "commands"

abbrev functions_word : Text
functions_word = codes "functions"

-- What an answer is made of

pub none_some : {A : Type 0} {x : A} → None ≡ Some x → ⊥
none_some e = cc

pub err_ok : {A : Type 0} {x : A} {k : ℕ} → Err k ≡ Ok x → ⊥
err_ok e = cc

pub if_some : {A : Type 0} (b : Bool) (o : Option A) (y : A) → (if b then o else None) ≡ Some y → (b ≡ true) × (o ≡ Some y)
if_some true o y e = (refl, e)
if_some false o y e = absurd (none_some e)

pub both_some : {A B C : Type 0} (f : A → B → C) (o : Option A) (p : Option B) (z : C) → both f o p ≡ Some z → (x : A) × (y : B) × (o ≡ Some x) × (p ≡ Some y) × (f x y ≡ z)
unfolding both
both_some f (Some x) (Some y) z e = (x, y, refl, refl, cc)
both_some f (Some x) None z e = absurd (none_some e)
both_some f None p z e = absurd (none_some e)

pub map_some : {A B : Type 0} (f : A → B) (o : Option A) (y : B) → option_map f o ≡ Some y → (x : A) × (o ≡ Some x) × (f x ≡ y)
map_some f None y e = absurd (none_some e)
map_some f (Some x) y e = (x, refl, cc)

pub behind_ok : {A B : Type 0} (r : Result A ℕ) (f : A → Result B ℕ) (y : B) → behind r f ≡ Ok y → (x : A) × (r ≡ Ok x) × (f x ≡ Ok y)
unfolding behind
behind_ok (Ok x) f y e = (x, refl, e)
behind_ok (Err k) f y e = absurd (err_ok e)

pub same_text : (s t : Text) → bytes_eq s t ≡ true → s ≡ t
same_text s t e = (bytes_eq-Decides s t).0 e

-- Pieces

onto_joined : (c d : ℕ) (ts : List Text) → joined c (onto_first d ts) ≡ d ∷ joined c ts
unfolding onto_first joined
onto_joined c d [] = refl
onto_joined c d (t ∷ []) = refl
onto_joined c d (t ∷ u ∷ ts) = refl

some_onto : (b : Bool) (d : ℕ) (ts : List Text) → 0 < length (if b then [] ∷ ts else onto_first d ts)
unfolding onto_first
some_onto true d ts = omega arith
some_onto false d [] = omega arith
some_onto false d (t ∷ ts) = omega arith

pub some_pieces : (c : ℕ) (t : Text) → 0 < length (pieces c t)
unfolding pieces
some_pieces c [] = omega arith
some_pieces c (d ∷ t) = some_onto (d == c) d (pieces c t)

broken : (c : ℕ) (ts : List Text) (t : Text) → 0 < length ts → joined c ts ≡ t → joined c ([] ∷ ts) ≡ c ∷ t
unfolding joined
broken c [] t l h = absurd (omega arith)
broken c (u ∷ us) t l h = ap (λ x. c ∷ x) h

joined_step : (c d : ℕ) (t : Text) (b : Bool) → (d == c) ≡ b → joined c (pieces c t) ≡ t → joined c (if b then [] ∷ pieces c t else onto_first d (pieces c t)) ≡ d ∷ t
joined_step c d t true e h = let same : c ≡ d = grind (arith, nat_tests) in broken c (pieces c t) t (some_pieces c t) h ∙ ap (λ x. x ∷ t) same
joined_step c d t false e h = onto_joined c d (pieces c t) ∙ ap (λ u. d ∷ u) h

pub joined_pieces : (c : ℕ) (t : Text) → joined c (pieces c t) ≡ t
unfolding pieces joined
joined_pieces c [] = refl
joined_pieces c (d ∷ t) = joined_step c d t (d == c) refl (joined_pieces c t)

-- Numbers

folds : FoldsDigits (λ n t. fold (λ m c. m * 10 + (c - 48)) n t)
folds = record { empty = λ n. refl; more = λ n c cs h. refl }

pub numerals : IsNumeralModel (λ t. all_ascii_digits t ≡ true) value
numerals = numerals_by_fold (λ t. all_ascii_digits t ≡ true) tells_all_ascii_digits (λ n t. fold (λ m c. m * 10 + (c - 48)) n t) folds

leads : (t : Text) → leads_no_zero t ≡ true → (0 < length t) × (get_or t 0 0 ≡ 48 → length t ≡ 1)
unfolding leads_no_zero
leads [] e = absurd (cc)
leads (c ∷ []) e = (omega arith, λ z. omega arith)
leads (c ∷ d ∷ t) e = (omega arith, λ z. absurd (not_zero z))
  where
    not_zero : c ≡ 48 → ⊥
    not_zero z = grind (arith, nat_tests)

pub number_spelled : (t : Text) (n : ℕ) → number_in t ≡ Some n → (decimal n ≡ t) × (n ≤ 65535)
unfolding number_in
number_spelled t n e =
    let i = if_some (leads_no_zero t && all_ascii_digits t && nat_le (value t) 65535) (Some (value t)) n e in
    let first = and_parts (leads_no_zero t && all_ascii_digits t) (nat_le (value t) 65535) i.0 in
    let second = and_parts (leads_no_zero t) (all_ascii_digits t) first.0 in
    let front = leads t second.0 in
    let is_value : value t ≡ n = some_same i.1 in
    let small : value t ≤ 65535 = grind (arith, nat_tests) in
    (ap decimal (sym is_value) ∙ decimal-digits_value numerals t second.1 front.0 front.1 (omega arith), omega arith)
  where
    some_same : {A : Type 0} {x y : A} → Some x ≡ Some y → x ≡ y
    some_same h = cc

-- Names, drops, facts

pub names_spelled : (is_one : Text → Bool) (t : Text) (ns : List Text) → form.names_in is_one t ≡ Some ns → names_text ns ≡ t
unfolding form.names_in joined
names_spelled is_one [] ns e = let same : [] ≡ ns = cc in ap names_text (sym same)
names_spelled is_one (c ∷ t) ns e =
    let i = if_some (are_rising is_one (pieces 44 (c ∷ t))) (Some (pieces 44 (c ∷ t))) ns e in
    let same : pieces 44 (c ∷ t) ≡ ns = cc in
    ap names_text (sym same) ∙ joined_pieces 44 (c ∷ t)

drops_spelled : (ts : List Text) (d : Names) → drops_of ts ≡ Some d → drops_text d ≡ joined 58 ts
unfolding drops_of
drops_spelled [] d e = absurd (none_some e)
drops_spelled (v ∷ []) d e = absurd (none_some e)
drops_spelled (v ∷ f ∷ g ∷ ts) d e = absurd (none_some e)
drops_spelled (v ∷ f ∷ []) d e =
    let i = both_some (λ v f. record { vars = v; functions = f }) (form.names_in form.is_variable v) (form.names_in is_name f) d e in
    let vars : names_text i.0 ≡ v = names_spelled form.is_variable v i.0 i.2 in
    let functions : names_text i.1 ≡ f = names_spelled is_name f i.1 i.3 in
    ap drops_text (sym i.4) ∙ ap₂ (λ x y. joined 58 (x ∷ y ∷ [])) vars functions

known_spelled : (ts : List Text) (c : Claim) → known_of ts ≡ Some c → claim_text c ≡ joined 58 ts
unfolding known_of drops_of claim_text joined
known_spelled [] c e = absurd (none_some e)
known_spelled (n ∷ []) c e = let i = both_some (λ n d. Claimed d.vars d.functions n) (number_in n) (drops_of []) c e in absurd (none_some i.3)
known_spelled (n ∷ s ∷ sets) c e =
    let i = both_some (λ n d. Claimed d.vars d.functions n) (number_in n) (drops_of (s ∷ sets)) c e in
    ap claim_text (sym i.4) ∙ ap₂ (λ x y. x ++ 58 ∷ y) (number_spelled n i.0 i.2).0 (drops_spelled (s ∷ sets) i.1 i.3)

pub claim_spelled : (t : Text) (c : Claim) → claim_in t ≡ Some c → claim_text c ≡ t
unfolding claim_in claim_text
claim_spelled t c e = go (bytes_eq dash t) refl e
  where
    go : (b : Bool) → bytes_eq dash t ≡ b → (if b then Some Unreached else known_of (pieces 58 t)) ≡ Some c → claim_text c ≡ t
    go true s h = let same : Unreached ≡ c = cc in ap claim_text (sym same) ∙ same_text dash t s
    go false s h = known_spelled (pieces 58 t) c h ∙ joined_pieces 58 t

-- Lines

pub claims_some : (b z n : Option Claim) (h : Option (Option Claim)) (c : CommandClaims) → claims_of b z n h ≡ Some c
    → (b ≡ Some c.before) × (z ≡ Some c.zero) × (n ≡ Some c.nonzero) × (h ≡ Some c.head)
unfolding claims_of
claims_some (Some b) (Some z) (Some n) (Some h) c e =
    let same : record { before = b; zero = z; nonzero = n; head = h } ≡ c = cc in
    (ap (λ (x : CommandClaims). Some x.before) same, ap (λ (x : CommandClaims). Some x.zero) same, ap (λ (x : CommandClaims). Some x.nonzero) same, ap (λ (x : CommandClaims). Some x.head) same)
claims_some None z n h c e = absurd (none_some e)
claims_some (Some b) None n h c e = absurd (none_some e)
claims_some (Some b) (Some z) None h c e = absurd (none_some e)
claims_some (Some b) (Some z) (Some n) None c e = absurd (none_some e)

pub function_some : (b : Option Claim) (d : Option Names) (z n : Option Claim) (c : FunctionClaims) → function_claims_of b d z n ≡ Some c
    → (b ≡ Some c.before) × (d ≡ Some c.drops) × (z ≡ Some c.zero) × (n ≡ Some c.nonzero)
unfolding function_claims_of
function_some (Some b) (Some d) (Some z) (Some n) c e =
    let same : record { before = b; drops = d; zero = z; nonzero = n } ≡ c = cc in
    (ap (λ (x : FunctionClaims). Some x.before) same, ap (λ (x : FunctionClaims). Some x.drops) same, ap (λ (x : FunctionClaims). Some x.zero) same, ap (λ (x : FunctionClaims). Some x.nonzero) same)
function_some None d z n c e = absurd (none_some e)
function_some (Some b) None z n c e = absurd (none_some e)
function_some (Some b) (Some d) None n c e = absurd (none_some e)
function_some (Some b) (Some d) (Some z) None c e = absurd (none_some e)

head_spelled : (ts : List Text) (h : Option Claim) → head_of ts ≡ Some h → head_fields h ≡ ts
unfolding head_of head_fields
head_spelled [] h e = let same : None ≡ h = cc in ap head_fields (sym same)
head_spelled (t ∷ []) h e =
    let i = map_some Some (claim_in t) h e in
    ap head_fields (sym i.2) ∙ ap (λ u. u ∷ []) (claim_spelled t i.0 i.1)
head_spelled (t ∷ u ∷ ts) h e = absurd (none_some e)

drops_in_spelled : (t : Text) (d : Names) → drops_in t ≡ Some d → drops_text d ≡ t
drops_in_spelled t d e = drops_spelled (pieces 58 t) d e ∙ joined_pieces 58 t

command_fields_spelled : (k : ℕ) (ts : List Text) (c : CommandClaims) → command_of k ts ≡ Some c → command_fields k c ≡ ts
unfolding command_of
command_fields_spelled k [] c e = absurd (none_some e)
command_fields_spelled k (l ∷ []) c e = absurd (none_some e)
command_fields_spelled k (l ∷ n ∷ []) c e = absurd (none_some e)
command_fields_spelled k (l ∷ n ∷ b ∷ []) c e = absurd (none_some e)
command_fields_spelled k (l ∷ n ∷ b ∷ z ∷ []) c e = absurd (none_some e)
command_fields_spelled k (l ∷ n ∷ b ∷ z ∷ o ∷ rest) c e =
    let i = if_some (bytes_eq command_letter l && bytes_eq (decimal k) n) (claims_of (claim_in b) (claim_in z) (claim_in o) (head_of rest)) c e in
    let names = and_parts (bytes_eq command_letter l) (bytes_eq (decimal k) n) i.0 in
    let p = claims_some (claim_in b) (claim_in z) (claim_in o) (head_of rest) c i.1 in
    let letter : command_letter ≡ l = same_text command_letter l names.0 in
    let number : decimal k ≡ n = same_text (decimal k) n names.1 in
    let before : claim_text c.before ≡ b = claim_spelled b c.before p.0 in
    let zeros : claim_text c.zero ≡ z = claim_spelled z c.zero p.1 in
    let nonzero : claim_text c.nonzero ≡ o = claim_spelled o c.nonzero p.2 in
    let head : head_fields c.head ≡ rest = head_spelled rest c.head p.3 in
    cc

function_fields_spelled : (k : ℕ) (ts : List Text) (c : FunctionClaims) → function_of k ts ≡ Some c → function_fields k c ≡ ts
unfolding function_of
function_fields_spelled k [] c e = absurd (none_some e)
function_fields_spelled k (l ∷ []) c e = absurd (none_some e)
function_fields_spelled k (l ∷ n ∷ []) c e = absurd (none_some e)
function_fields_spelled k (l ∷ n ∷ b ∷ []) c e = absurd (none_some e)
function_fields_spelled k (l ∷ n ∷ b ∷ d ∷ []) c e = absurd (none_some e)
function_fields_spelled k (l ∷ n ∷ b ∷ d ∷ z ∷ []) c e = absurd (none_some e)
function_fields_spelled k (l ∷ n ∷ b ∷ d ∷ z ∷ o ∷ m ∷ rest) c e = absurd (none_some e)
function_fields_spelled k (l ∷ n ∷ b ∷ d ∷ z ∷ o ∷ []) c e =
    let i = if_some (bytes_eq function_letter l && bytes_eq (decimal k) n) (function_claims_of (claim_in b) (drops_in d) (claim_in z) (claim_in o)) c e in
    let names = and_parts (bytes_eq function_letter l) (bytes_eq (decimal k) n) i.0 in
    let p = function_some (claim_in b) (drops_in d) (claim_in z) (claim_in o) c i.1 in
    let letter : function_letter ≡ l = same_text function_letter l names.0 in
    let number : decimal k ≡ n = same_text (decimal k) n names.1 in
    let before : claim_text c.before ≡ b = claim_spelled b c.before p.0 in
    let drops : drops_text c.drops ≡ d = drops_in_spelled d c.drops p.1 in
    let zeros : claim_text c.zero ≡ z = claim_spelled z c.zero p.2 in
    let nonzero : claim_text c.nonzero ≡ o = claim_spelled o c.nonzero p.3 in
    cc

count_fields_spelled : (ts : List Text) (x : ℕ × ℕ) → counts_of ts ≡ Some x → count_fields x.0 x.1 ≡ ts
unfolding counts_of
count_fields_spelled [] x e = absurd (none_some e)
count_fields_spelled (c ∷ []) x e = absurd (none_some e)
count_fields_spelled (c ∷ n ∷ []) x e = absurd (none_some e)
count_fields_spelled (c ∷ n ∷ f ∷ []) x e = absurd (none_some e)
count_fields_spelled (c ∷ n ∷ f ∷ m ∷ o ∷ ts) x e = absurd (none_some e)
count_fields_spelled (c ∷ n ∷ f ∷ m ∷ []) x e =
    let i = if_some (bytes_eq commands_word c && bytes_eq functions_word f) (both (λ x y. (x, y)) (number_in n) (number_in m)) x e in
    let names = and_parts (bytes_eq commands_word c) (bytes_eq functions_word f) i.0 in
    let p = both_some (λ (x y : ℕ). (x, y)) (number_in n) (number_in m) x i.1 in
    let commands : commands_word ≡ c = same_text commands_word c names.0 in
    let functions : functions_word ≡ f = same_text functions_word f names.1 in
    let first : decimal p.0 ≡ n = (number_spelled n p.0 p.2).0 in
    let second : decimal p.1 ≡ m = (number_spelled m p.1 p.3).0 in
    let one : p.0 ≡ x.0 = ap (λ (y : ℕ × ℕ). y.0) p.4 in
    let two : p.1 ≡ x.1 = ap (λ (y : ℕ × ℕ). y.1) p.4 in
    cc

-- The text

cut_step : (c : ℕ) (t : Text) (b : Bool) (o : Option (Text × Text)) (x : Text × Text) → (c == 10) ≡ b → ((y : Text × Text) → o ≡ Some y → y.0 ++ 10 ∷ y.1 ≡ t)
    → (if b then Some ([], t) else onto_front c o) ≡ Some x → x.0 ++ 10 ∷ x.1 ≡ c ∷ t
unfolding onto_front
cut_step c t true o x s h e =
    let same : ([], t) ≡ x = cc in
    let ten : 10 ≡ c = grind (arith, nat_tests) in
    ap (λ (y : Text × Text). y.0 ++ 10 ∷ y.1) (sym same) ∙ ap (λ d. d ∷ t) ten
cut_step c t false None x s h e = absurd (none_some e)
cut_step c t false (Some y) x s h e =
    let same : (c ∷ y.0, y.1) ≡ x = cc in
    ap (λ (y : Text × Text). y.0 ++ 10 ∷ y.1) (sym same) ∙ ap (λ u. c ∷ u) (h y refl)

cut_spelled : (t : Text) (x : Text × Text) → cut_at 10 t ≡ Some x → x.0 ++ 10 ∷ x.1 ≡ t
unfolding cut_at
cut_spelled [] x e = absurd (none_some e)
cut_spelled (c ∷ t) x e = cut_step c t (c == 10) (cut_at 10 t) x refl (cut_spelled t) e

formed_some : {A : Type 0} (k : ℕ) (rest : Text) (o : Option A) (x : A × Text) → formed k rest o ≡ Ok x → (o ≡ Some x.0) × (rest ≡ x.1)
unfolding formed
formed_some k rest None x e = absurd (err_ok e)
formed_some {A} k rest (Some a) x e = let same : (a, rest) ≡ x = cc in (ap (λ (y : A × Text). Some y.0) same, ap (λ (y : A × Text). y.1) same)

whole_some : {A : Type 0} (f : Text → Option A) (k : ℕ) (t : Text) (o : Option (Text × Text)) (x : A × Text) → ((y : Text × Text) → o ≡ Some y → y.0 ++ 10 ∷ y.1 ≡ t)
    → whole_line f k o ≡ Ok x → (l : Text) × (f l ≡ Some x.0) × (l ++ 10 ∷ x.1 ≡ t)
unfolding whole_line
whole_some f k t None x h e = absurd (err_ok e)
whole_some f k t (Some y) x h e = let p = formed_some k y.1 (f y.0) x e in (y.0, p.0, ap (λ u. y.0 ++ 10 ∷ u) (sym p.1) ∙ h y refl)

-- a line that is read, and what is after it
pub line_spelled : {A : Type 0} (f : Text → Option A) (k : ℕ) (t : Text) (x : A × Text) → read_line f k t ≡ Ok x → (l : Text) × (f l ≡ Some x.0) × (l ++ 10 ∷ x.1 ≡ t)
line_spelled f k t x e = whole_some f k t (cut_at 10 t) x (cut_spelled t) e

pub glued : (j n z : Text) → ((j ++ 10 ∷ []) ++ n) ++ z ≡ j ++ 10 ∷ (n ++ z)
glued j n z = simp append_assoc

pub lines_spelled : {A : Type 0} (f : ℕ → Text → Option A) (fields : ℕ → A → List Text) → ((i : ℕ) (l : Text) (a : A) → f i l ≡ Some a → joined 32 (fields i a) ≡ l)
    → (k i n : ℕ) (t : Text) (y : List A × Text) → read_lines f k i n t ≡ Ok y → (numbered_lines fields i y.0 ++ y.1 ≡ t) × (length y.0 ≡ n)
unfolding read_lines numbered_lines
lines_spelled {A} f fields s k i zero t y e =
    let same : ([], t) ≡ y = cc in
    (ap (λ (z : List A × Text). numbered_lines fields i z.0 ++ z.1) (sym same), ap (λ (z : List A × Text). length z.0) (sym same))
lines_spelled {A} f fields s k i (suc n) t y e =
    let p = behind_ok (read_line (f i) k t) _ y e in
    let q = behind_ok (read_lines f (k + 1) (i + 1) n p.0.1) _ y p.2 in
    let same : (p.0.0 ∷ q.0.0, q.0.1) ≡ y = cc in
    let here = line_spelled (f i) k t p.0 p.1 in
    let rest = lines_spelled f fields s (k + 1) (i + 1) n p.0.1 q.0 q.1 in (
      ap (λ (z : List A × Text). numbered_lines fields i z.0 ++ z.1) (sym same)
          ∙ glued (joined 32 (fields i p.0.0)) (numbered_lines fields (i + 1) q.0.0) q.0.1
          ∙ ap₂ (λ u v. u ++ 10 ∷ v) (s i here.0 p.0.0 here.1) rest.0
          ∙ here.2,
      ap (λ (z : List A × Text). length z.0) (sym same) ∙ ap suc rest.1,
    )

pub command_spelled : (i : ℕ) (l : Text) (c : CommandClaims) → command_in i l ≡ Some c → joined 32 (command_fields i c) ≡ l
command_spelled i l c e = ap (joined 32) (command_fields_spelled i (pieces 32 l) c e) ∙ joined_pieces 32 l

pub function_spelled : (i : ℕ) (l : Text) (c : FunctionClaims) → function_in i l ≡ Some c → joined 32 (function_fields i c) ≡ l
function_spelled i l c e = ap (joined 32) (function_fields_spelled i (pieces 32 l) c e) ∙ joined_pieces 32 l

counts_spelled : (l : Text) (x : ℕ × ℕ) → counts_in l ≡ Some x → joined 32 (count_fields x.0 x.1) ≡ l
counts_spelled l x e = ap (joined 32) (count_fields_spelled (pieces 32 l) x e) ∙ joined_pieces 32 l

first_spelled : (l : Text) (u : Unit {0}) → is_first l ≡ Some u → first_line ≡ l
first_spelled l u e = same_text first_line l (if_some (bytes_eq first_line l) (Some tt) u e).0

pub ended_some : {A : Type 0} (k : ℕ) (x y : A) (t : Text) → ended k x t ≡ Ok y → (x ≡ y) × (t ≡ [])
unfolding ended
ended_some k x y [] e = (cc, refl)
ended_some k x y (c ∷ t) e = absurd (err_ok e)

all_glued : (f c n m : Text) → (((f ++ 10 ∷ []) ++ (c ++ 10 ∷ [])) ++ n) ++ m ≡ f ++ 10 ∷ (c ++ 10 ∷ (n ++ m))
all_glued f c n m = simp append_assoc

pub text_of : (commands : List CommandClaims) (functions : List FunctionClaims) (n m : ℕ) → length commands ≡ n → length functions ≡ m
    → certificate_text (record { commands = commands; functions = functions })
    ≡ first_line ++ 10 ∷ (joined 32 (count_fields n m) ++ 10 ∷ (numbered_lines command_fields 1 commands ++ numbered_lines function_fields 1 functions))
unfolding certificate_text joined
text_of commands functions n m e f =
    all_glued first_line (joined 32 (count_fields (length commands) (length functions))) (numbered_lines command_fields 1 commands) (numbered_lines function_fields 1 functions)
    ∙ ap₂ (λ x y. first_line ++ 10 ∷ (joined 32 (count_fields x y) ++ 10 ∷ (numbered_lines command_fields 1 commands ++ numbered_lines function_fields 1 functions))) e f

pub spelled : (t : Text) (s : Sheet) → read_sheet t ≡ Ok s → certificate_text s ≡ t
unfolding read_sheet
spelled t s e =
    let a = behind_ok (read_line is_first 1 t) _ s e in
    let b = behind_ok (read_line counts_in 2 a.0.1) _ s a.2 in
    let c = behind_ok (read_lines command_in 3 1 b.0.0.0 b.0.1) _ s b.2 in
    let d = behind_ok (read_lines function_in (3 + b.0.0.0) 1 b.0.0.1 c.0.1) _ s c.2 in
    let last = ended_some (3 + b.0.0.0 + b.0.0.1) (record { commands = c.0.0; functions = d.0.0 }) s d.0.1 d.2 in
    let first = line_spelled is_first 1 t a.0 a.1 in
    let counts = line_spelled counts_in 2 a.0.1 b.0 b.1 in
    let commands = lines_spelled command_in command_fields command_spelled 3 1 b.0.0.0 b.0.1 c.0 c.1 in
    let functions = lines_spelled function_in function_fields function_spelled (3 + b.0.0.0) 1 b.0.0.1 c.0.1 d.0 d.1 in
    let no_more : numbered_lines function_fields 1 d.0.0 ≡ c.0.1 = sym (append-nil (numbered_lines function_fields 1 d.0.0)) ∙ ap (λ u. numbered_lines function_fields 1 d.0.0 ++ u) (sym last.1) ∙ functions.0 in
    ap certificate_text (sym last.0)
    ∙ text_of c.0.0 d.0.0 b.0.0.0 b.0.0.1 commands.1 functions.1
    ∙ ap (λ u. first_line ++ 10 ∷ (joined 32 (count_fields b.0.0.0 b.0.0.1) ++ 10 ∷ (numbered_lines command_fields 1 c.0.0 ++ u))) no_more
    ∙ ap (λ u. first_line ++ 10 ∷ (joined 32 (count_fields b.0.0.0 b.0.0.1) ++ 10 ∷ u)) commands.0
    ∙ ap₂ (λ u v. first_line ++ 10 ∷ (u ++ 10 ∷ v)) (counts_spelled counts.0 b.0.0 counts.1) refl
    ∙ ap (λ u. first_line ++ 10 ∷ u) counts.2
    ∙ ap (λ u. u ++ 10 ∷ a.0.1) (first_spelled first.0 a.0.0 first.1)
    ∙ first.2
