-- The fields of a line, one after the other.
use Rattle.std.proofs.Common.{◌≡◌, ℕ, ◌+◌, ◌*◌, ◌-◌, ◌<◌, ◌≤◌, nat_le, nat_eq, Bool, true, false, ◌&&◌, if◌then◌else◌, List, [], ◌∷◌, length, drop, get_or, fold, Option, Some, None, option_map, is_some, IfSome, refl, sym, ap, ap₂, ◌∙◌, subst, arith, codes}
use Rattle.std.specs.Borrow.{Bor}
use Rattle.std.specs.Fmt.{decimal}
use Rattle.std.specs.Char.{is_ascii_digit}
use Rattle.std.specs.List.{list_all}
use Rattle.std.specs.Option.{option_eq}
use Rattle.std.specs.Str.{bytes_eq, all_ascii_digits}
use Rattle.std.proofs.lemmas.List.{drop_more, drop_all}
use Rattle.std.proofs.lemmas.Bool.Decides.{nat_tests}
use Rattle.sh_tree.specs.standard.language.Bytes as bytes
use Rattle.sh_tree.specs.standard.language.Bytes.{is_name}
use Rattle.sh_tree.specs.standard.program.Syntax.{Text}
use Rattle.sh_facts.specs.declared.forms.Held.{Held}
use Rattle.sh_facts.specs.declared.forms.Held.TheVariants as held
use Rattle.sh_domain.specs.Facts.{Claim, Claimed}
use Rattle.sh_facts.specs.Fields.{pieces_left, test_of, split, behind_number, command_behind, function_behind}
use Rattle.sh_domain.specs.Forms as form
use Rattle.sh_domain.specs.Forms.{pieces, leads_no_zero, number_in, is_rising, is_variable, are_rising, both, drops_of, drops_in, known_of, claim_in, head_of, command_of, function_claims_of, function_of, counts_of}
use Rattle.sh_domain.specs.Operands.{Names}
use Rattle.sh_domain.specs.Sheets.{precedes}
use Rattle.sh_domain.proofs.SpellingLemmas.{some_pieces, same_text, none_some, if_some, both_some, map_some, number_spelled, names_spelled, claim_spelled, function_some}
use Rattle.sh_domain.proofs.ReadBackLemmas.{number_read, same_bytes, lacks, piece_last, decimal_lacks, names_lack, claim_lacks, name_is_variable, blank, colon}
use Rattle.sh_facts.proofs.SplitLemmas.{sole}
use Rattle.sh_domain.proofs.WritableLemmas.{names_rise, claim_writable}

and_false : (a : Bool) → (a && false) ≡ false
and_false true = refl
and_false false = refl

-- how much is left, if the end is less than an empty text
unfoldable pub room : Option (Bor (List ℕ)) → ℕ
room None = 0
room (Some t) = 1 + length t.now

-- Numbers

abbrev pub digit_behind : ℕ → ℕ → ℕ
digit_behind n c = n * 10 + (c - 48)

-- the number that goes on with these digits, as long as it is small
unfoldable pub valued : ℕ → Text → Option ℕ
valued n [] = Some n
valued n (c ∷ t) = if is_ascii_digit c && nat_le (digit_behind n c) 65535 then valued (digit_behind n c) t else None

grows : (n : ℕ) (t : Text) → n ≤ fold digit_behind n t
grows n [] = omega arith
grows n (c ∷ t) = let more : digit_behind n c ≤ fold digit_behind (digit_behind n c) t = grows (digit_behind n c) t in omega (arith, more)

valued_step : (n c : ℕ) (t : Text) (d l : Bool) → is_ascii_digit c ≡ d → nat_le (digit_behind n c) 65535 ≡ l
    → (l ≡ true → valued (digit_behind n c) t ≡ (if all_ascii_digits t && nat_le (fold digit_behind (digit_behind n c) t) 65535 then Some (fold digit_behind (digit_behind n c) t) else None))
    → (if d && l then valued (digit_behind n c) t else None) ≡ (if (d && all_ascii_digits t) && nat_le (fold digit_behind (digit_behind n c) t) 65535 then Some (fold digit_behind (digit_behind n c) t) else None)
valued_step n c t false l e f h = refl
valued_step n c t true true e f h = h refl
valued_step n c t true false e f h =
    let more : digit_behind n c ≤ fold digit_behind (digit_behind n c) t = grows (digit_behind n c) t in
    let past : nat_le (fold digit_behind (digit_behind n c) t) 65535 ≡ false = grind (arith, nat_tests, more, f) in
    rw (past, and_false (all_ascii_digits t)) refl

is_valued : (n : ℕ) (t : Text) → n ≤ 65535 → valued n t ≡ (if all_ascii_digits t && nat_le (fold digit_behind n t) 65535 then Some (fold digit_behind n t) else None)
unfolding valued
is_valued n [] l = let small : nat_le n 65535 ≡ true = grind (arith, nat_tests) in rw small refl
is_valued n (c ∷ t) l =
    valued_step n c t (is_ascii_digit c) (nat_le (digit_behind n c) 65535) refl refl (λ s. is_valued (digit_behind n c) t (let m : digit_behind n c ≤ 65535 = grind (arith, nat_tests, s) in m))

pub number_valued : (t : Text) → leads_no_zero t ≡ true → number_in t ≡ valued 0 t
unfolding number_in
number_valued t h = rw (h, is_valued 0 t (omega arith)) refl

pub no_number : (t : Text) → leads_no_zero t ≡ false → number_in t ≡ None
unfolding number_in
no_number t h = rw h refl

pub valued_on : (n c m : ℕ) (t : Text) → Some m ≡ (if is_ascii_digit c && nat_le (digit_behind n c) 65535 then Some (digit_behind n c) else None) → valued n (c ∷ t) ≡ valued m t
unfolding valued
valued_on n c m t e = go (is_ascii_digit c && nat_le (digit_behind n c) 65535) e
  where
    go : (b : Bool) → Some m ≡ (if b then Some (digit_behind n c) else None) → (if b then valued (digit_behind n c) t else None) ≡ valued m t
    go true h = let same : m ≡ digit_behind n c = cc in ap (λ k. valued k t) (sym same)
    go false h = absurd (none_some (sym h))

pub valued_not : (n c : ℕ) (t : Text) → None ≡ (if is_ascii_digit c && nat_le (digit_behind n c) 65535 then Some (digit_behind n c) else None) → valued n (c ∷ t) ≡ None
unfolding valued
valued_not n c t e = go (is_ascii_digit c && nat_le (digit_behind n c) 65535) e
  where
    go : (b : Bool) → None ≡ (if b then Some (digit_behind n c) else None) → (if b then valued (digit_behind n c) t else None) ≡ None
    go true h = absurd (none_some h)
    go false h = refl

-- the text says which number it writes
pub number_same : (k : ℕ) → k ≤ 65535 → (t : Text) → option_eq nat_eq (number_in t) (Some k) ≡ bytes_eq (decimal k) t
number_same k l t = go (bytes_eq (decimal k) t) refl
  where
    other : (o : Option ℕ) → number_in t ≡ o → bytes_eq (decimal k) t ≡ false → option_eq nat_eq o (Some k) ≡ false
    other None e n = refl
    other (Some m) e n = by (nat_eq m k) refl
      where
        by : (b : Bool) → nat_eq m k ≡ b → b ≡ false
        by false h = refl
        by true h =
            let same : m ≡ k = grind (arith, nat_tests) in
            let written : bytes_eq (decimal k) t ≡ true = subst (λ u. bytes_eq (decimal k) u ≡ true) (ap decimal (sym same) ∙ (number_spelled t m e).0) (same_bytes (decimal k)) in
            let wrong : true ≡ false = sym written ∙ n in
            wrong

    go : (b : Bool) → bytes_eq (decimal k) t ≡ b → option_eq nat_eq (number_in t) (Some k) ≡ b
    go true e =
        let is_text : decimal k ≡ t = same_text (decimal k) t e in
        let itself : nat_eq k k ≡ true = grind (arith, nat_tests) in
        ap (λ u. option_eq nat_eq (number_in u) (Some k)) (sym is_text) ∙ ap (λ o. option_eq nat_eq o (Some k)) (number_read k l) ∙ itself
    go false e = other (number_in t) refl e

-- the loop over the digits

pub number_stops : (t : Text) (i n : ℕ) → i < length t → leads_no_zero t ≡ true → valued n (drop i t) ≡ valued 0 t
    → None ≡ (if is_ascii_digit (get_or t i 0) && nat_le (digit_behind n (get_or t i 0)) 65535 then Some (digit_behind n (get_or t i 0)) else None) → None ≡ number_in t
number_stops t i n lt h inv e =
    sym (number_valued t h ∙ sym inv ∙ ap (valued n) (drop_more t i 0 lt) ∙ valued_not n (get_or t i 0) (drop (i + 1) t) e)

pub number_goes : (t : Text) (i n m : ℕ) → i < length t → valued n (drop i t) ≡ valued 0 t
    → Some m ≡ (if is_ascii_digit (get_or t i 0) && nat_le (digit_behind n (get_or t i 0)) 65535 then Some (digit_behind n (get_or t i 0)) else None) → valued m (drop (i + 1) t) ≡ valued 0 t
number_goes t i n m lt inv e = sym (valued_on n (get_or t i 0) m (drop (i + 1) t) e) ∙ sym (ap (valued n) (drop_more t i 0 lt)) ∙ inv

pub number_ends : (t : Text) (i n : ℕ) → length t ≤ i → leads_no_zero t ≡ true → valued n (drop i t) ≡ valued 0 t → Some n ≡ number_in t
unfolding valued
number_ends t i n le h inv = sym (number_valued t h ∙ sym inv ∙ ap (valued n) (drop_all i t le))

-- Names in rising byte order

-- names that rise after another
abbrev pub rises_behind : (Text → Bool) → Text → List Text → Bool
rises_behind is_one last ts = list_all is_one ts && is_rising (last ∷ ts)

pub rises_start : (is_one : Text → Bool) → is_one [] ≡ false → (ts : List Text) → rises_behind is_one [] ts ≡ are_rising is_one ts
unfolding is_rising
rises_start is_one n [] = refl
rises_start is_one n ([] ∷ ts) = rw n refl
rises_start is_one n ((c ∷ t) ∷ ts) = refl

pub rises_on : (is_one : Text → Bool) (last t : Text) (ts : List Text) → is_one t ≡ true → precedes last t ≡ true → rises_behind is_one last (t ∷ ts) ≡ rises_behind is_one t ts
unfolding is_rising
rises_on is_one last t ts o p = rw (o, p) refl

pub rises_not_one : (is_one : Text → Bool) (last t : Text) (ts : List Text) → is_one t ≡ false → rises_behind is_one last (t ∷ ts) ≡ false
rises_not_one is_one last t ts o = rw o refl

pub rises_not_next : (is_one : Text → Bool) (last t : Text) (ts : List Text) → precedes last t ≡ false → rises_behind is_one last (t ∷ ts) ≡ false
unfolding is_rising
rises_not_next is_one last t ts p = rw p (and_false (list_all is_one (t ∷ ts)))

pub none_held : (h : Held) → test_of h [] ≡ false
unfolding test_of bytes.is_first
none_held held.Variables = refl
none_held held.Functions = refl

-- the loop over the names

module _ (h : Held) (t : Text) (last : Text) (left behind : Option (Bor (List ℕ))) (names name : Bor (List ℕ)) (is : left ≡ Some names) (cut : pieces 44 names.now ≡ name.now ∷ pieces_left 44 behind)
    (inv : rises_behind (test_of h) last (pieces_left 44 left) ≡ are_rising (test_of h) (pieces 44 t)) where
  left_pieces : pieces_left 44 left ≡ name.now ∷ pieces_left 44 behind
  unfolding pieces_left
  left_pieces = ap (pieces_left 44) is ∙ cut

  pub rises_further : test_of h name.now ≡ true → precedes last name.now ≡ true → rises_behind (test_of h) name.now (pieces_left 44 behind) ≡ are_rising (test_of h) (pieces 44 t)
  rises_further o p = sym (rises_on (test_of h) last name.now (pieces_left 44 behind) o p) ∙ sym (ap (rises_behind (test_of h) last) left_pieces) ∙ inv

  pub not_one : test_of h name.now ≡ false → false ≡ are_rising (test_of h) (pieces 44 t)
  not_one o = sym (rises_not_one (test_of h) last name.now (pieces_left 44 behind) o) ∙ sym (ap (rises_behind (test_of h) last) left_pieces) ∙ inv

  pub not_next : precedes last name.now ≡ false → false ≡ are_rising (test_of h) (pieces 44 t)
  not_next p = sym (rises_not_next (test_of h) last name.now (pieces_left 44 behind) p) ∙ sym (ap (rises_behind (test_of h) last) left_pieces) ∙ inv

pub less_room : (left behind : Option (Bor (List ℕ))) (names : Bor (List ℕ)) → left ≡ Some names → IfSome behind (λ x. length x.now < length names.now) → room behind < room left
unfolding room
less_room left None names e l = rw e (omega arith)
less_room left (Some b) names e l = rw e (omega (arith, l))

pub all_rise : (h : Held) (t last : Text) (left : Option (Bor (List ℕ))) → left ≡ None → rises_behind (test_of h) last (pieces_left 44 left) ≡ are_rising (test_of h) (pieces 44 t) → true ≡ are_rising (test_of h) (pieces 44 t)
unfolding pieces_left is_rising
all_rise h t last left e inv = sym (ap (λ o. rises_behind (test_of h) last (pieces_left 44 o)) e) ∙ inv

-- the names of a text that has the form are its pieces
pub named : (is_one : Text → Bool) (t : Text) (b : Bool) → is_some (form.names_in is_one t) ≡ b → form.names_in is_one t ≡ (if b then Some (split t) else None)
unfolding form.names_in split
named is_one [] true e = refl
named is_one [] false e = absurd (let w : true ≡ false = e in cc)
named is_one (c ∷ t) b e = go (are_rising is_one (pieces 44 (c ∷ t))) b e
  where
    go : (a b : Bool) → is_some (if a then Some (pieces 44 (c ∷ t)) else None) ≡ b → (if a then Some (pieces 44 (c ∷ t)) else None) ≡ (if b then Some (pieces 44 (c ∷ t)) else None)
    go true true h = refl
    go true false h = absurd (let w : true ≡ false = h in cc)
    go false true h = absurd (let w : false ≡ true = h in cc)
    go false false h = refl

-- What is read may be written

-- Fields that end a line or a field have no blank and no colon

pub claim_whole : (t : Text) (c : Claim) → claim_in t ≡ Some c → pieces 32 t ≡ t ∷ []
claim_whole t c e = piece_last 32 t (subst (λ u. lacks 32 u ≡ true) (claim_spelled t c e) (claim_lacks 32 blank refl refl c (claim_writable t c e)))

names_whole : (t : Text) (ns : List Text) → form.names_in is_name t ≡ Some ns → pieces 58 t ≡ t ∷ []
names_whole t ns e = piece_last 58 t (subst (λ u. lacks 58 u ≡ true) (names_spelled is_name t ns e) (names_lack 58 colon refl is_name name_is_variable ns (names_rise is_name t ns e)))

pub number_whole : (t : Text) (n : ℕ) → number_in t ≡ Some n → pieces 32 t ≡ t ∷ []
number_whole t n e = let p = number_spelled t n e in piece_last 32 t (subst (λ u. lacks 32 u ≡ true) p.0 (decimal_lacks 32 blank n p.1))

pub head_sole : (t : Text) → head_of (pieces 32 t) ≡ option_map Some (claim_in t)
unfolding head_of
head_sole t = sole 32 (λ u. option_map Some (claim_in u)) head_of (λ u. refl) (λ u v ts. refl) (λ u x e. let i = map_some Some (claim_in u) x e in claim_whole u i.0 i.1) t

abbrev sets : List Text → List Text → Names
sets v f = record { vars = v; functions = f }

pub drops_sole : (v f : Text) → drops_of (v ∷ pieces 58 f) ≡ both sets (form.names_in is_variable v) (form.names_in is_name f)
unfolding drops_of
drops_sole v f =
    sole 58 (λ u. both sets (form.names_in is_variable v) (form.names_in is_name u)) (λ ts. drops_of (v ∷ ts)) (λ u. refl) (λ u w ts. refl)
    (λ u x e. let i = both_some sets (form.names_in is_variable v) (form.names_in is_name u) x e in names_whole u i.1 i.3) f

pub function_sole : (b d z e : Text) → function_behind (b ∷ d ∷ z ∷ pieces 32 e) ≡ function_claims_of (claim_in b) (drops_in d) (claim_in z) (claim_in e)
unfolding function_behind
function_sole b d z e =
    sole 32 (λ u. function_claims_of (claim_in b) (drops_in d) (claim_in z) (claim_in u)) (λ ts. function_behind (b ∷ d ∷ z ∷ ts)) (λ u. refl) (λ u v ts. refl)
    (λ u x h. let i = function_some (claim_in b) (drops_in d) (claim_in z) (claim_in u) x h in claim_whole u x.nonzero i.3) e

abbrev pub counted : Text → Text → Text → Text → Option (ℕ × ℕ)
counted c n f m = if bytes_eq (codes "commands") c && bytes_eq (codes "functions") f then both (λ (x y : ℕ). (x, y)) (number_in n) (number_in m) else None

pub counts_sole : (c n f m : Text) → counts_of (c ∷ n ∷ f ∷ pieces 32 m) ≡ counted c n f m
unfolding counts_of
counts_sole c n f m =
    sole 32 (counted c n f) (λ ts. counts_of (c ∷ n ∷ f ∷ ts)) (λ u. refl) (λ u v ts. refl)
    (λ u x h. let i = if_some (bytes_eq (codes "commands") c && bytes_eq (codes "functions") f) (both (λ (x y : ℕ). (x, y)) (number_in n) (number_in u)) x h in
    let p = both_some (λ (x y : ℕ). (x, y)) (number_in n) (number_in u) x i.1 in number_whole u p.1 p.3) m

pub sets_named : (v f t : Text) → pieces 58 t ≡ v ∷ pieces 58 f → is_some (form.names_in (test_of held.Variables) v) ≡ true → is_some (form.names_in (test_of held.Functions) f) ≡ true
    → Some (sets (split v) (split f)) ≡ drops_in t
unfolding test_of both
sets_named v f t e a b = sym (ap drops_of e ∙ drops_sole v f ∙ ap₂ (both sets) (named is_variable v true a) (named is_name f true b))

both_first : {A B C : Type 0} (f : A → B → C) (o : Option A) (p : Option B) → o ≡ None → both f o p ≡ None
unfolding both
both_first f o p e = ap (λ x. both f x p) e

both_second : {A B C : Type 0} (f : A → B → C) (o : Option A) (p : Option B) → p ≡ None → both f o p ≡ None
unfolding both
both_second f None p e = refl
both_second f (Some x) p e = ap (both f (Some x)) e

pub no_variables : (v f t : Text) → pieces 58 t ≡ v ∷ pieces 58 f → is_some (form.names_in (test_of held.Variables) v) ≡ false → None ≡ drops_in t
unfolding test_of
no_variables v f t e a = sym (ap drops_of e ∙ drops_sole v f ∙ both_first sets (form.names_in is_variable v) (form.names_in is_name f) (named is_variable v false a))

pub no_functions : (v f t : Text) → pieces 58 t ≡ v ∷ pieces 58 f → is_some (form.names_in (test_of held.Functions) f) ≡ false → None ≡ drops_in t
unfolding test_of
no_functions v f t e a = sym (ap drops_of e ∙ drops_sole v f ∙ both_second sets (form.names_in is_variable v) (form.names_in is_name f) (named is_name f false a))

pub no_sets : (t : Text) → known_of (t ∷ []) ≡ None
unfolding known_of drops_of
no_sets t = both_second (λ n d. Claimed d.vars d.functions n) (number_in t) None refl

-- The letter and the number that begin a line

pub behind_more : (letter k : ℕ) (l n t : Text) → behind_number letter k (l ∷ n ∷ pieces 32 t) ≡ (if bytes_eq (letter ∷ []) l && bytes_eq (decimal k) n then Some (pieces 32 t) else None)
unfolding behind_number
behind_more letter k l n t = go (pieces 32 t) (some_pieces 32 t)
  where
    go : (ts : List Text) → 0 < length ts → behind_number letter k (l ∷ n ∷ ts) ≡ (if bytes_eq (letter ∷ []) l && bytes_eq (decimal k) n then Some ts else None)
    go [] h = absurd (omega arith)
    go (u ∷ us) h = refl

unfoldable pub then_behind : {A : Type 0} → Option (List Text) → (List Text → Option A) → Option A
then_behind None f = None
then_behind (Some ts) f = f ts

passed_on : {A : Type 0} (b : Bool) (ts : List Text) (f : List Text → Option A) → (if b then f ts else None) ≡ then_behind (if b then Some ts else None) f
unfolding then_behind
passed_on true ts f = refl
passed_on false ts f = refl

none_either : {A : Type 0} (b : Bool) (ts : List Text) (f : List Text → Option A) → f ts ≡ None → None ≡ then_behind (if b then Some ts else None) f
unfolding then_behind
none_either true ts f e = sym e
none_either false ts f e = refl

pub command_by_parts : (k : ℕ) (ts : List Text) → command_of k ts ≡ then_behind (behind_number 99 k ts) command_behind
unfolding command_of behind_number then_behind command_behind
command_by_parts k [] = refl
command_by_parts k (l ∷ []) = refl
command_by_parts k (l ∷ n ∷ []) = refl
command_by_parts k (l ∷ n ∷ b ∷ []) = none_either (bytes_eq (99 ∷ []) l && bytes_eq (decimal k) n) (b ∷ []) command_behind refl
command_by_parts k (l ∷ n ∷ b ∷ z ∷ []) = none_either (bytes_eq (99 ∷ []) l && bytes_eq (decimal k) n) (b ∷ z ∷ []) command_behind refl
command_by_parts k (l ∷ n ∷ b ∷ z ∷ e ∷ ts) = passed_on (bytes_eq (99 ∷ []) l && bytes_eq (decimal k) n) (b ∷ z ∷ e ∷ ts) command_behind

pub function_by_parts : (k : ℕ) (ts : List Text) → function_of k ts ≡ then_behind (behind_number 102 k ts) function_behind
unfolding function_of behind_number then_behind function_behind
function_by_parts k [] = refl
function_by_parts k (l ∷ []) = refl
function_by_parts k (l ∷ n ∷ []) = refl
function_by_parts k (l ∷ n ∷ b ∷ []) = none_either (bytes_eq (102 ∷ []) l && bytes_eq (decimal k) n) (b ∷ []) function_behind refl
function_by_parts k (l ∷ n ∷ b ∷ d ∷ []) = none_either (bytes_eq (102 ∷ []) l && bytes_eq (decimal k) n) (b ∷ d ∷ []) function_behind refl
function_by_parts k (l ∷ n ∷ b ∷ d ∷ z ∷ []) = none_either (bytes_eq (102 ∷ []) l && bytes_eq (decimal k) n) (b ∷ d ∷ z ∷ []) function_behind refl
function_by_parts k (l ∷ n ∷ b ∷ d ∷ z ∷ e ∷ []) = passed_on (bytes_eq (102 ∷ []) l && bytes_eq (decimal k) n) (b ∷ d ∷ z ∷ e ∷ []) function_behind
function_by_parts k (l ∷ n ∷ b ∷ d ∷ z ∷ e ∷ o ∷ ts) = none_either (bytes_eq (102 ∷ []) l && bytes_eq (decimal k) n) (b ∷ d ∷ z ∷ e ∷ o ∷ ts) function_behind refl

-- What a line claims may be written
