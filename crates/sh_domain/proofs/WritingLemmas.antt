-- The text of a certificate, a piece at a time.
use Rattle.std.proofs.Common.{◌≡◌, ℕ, zero, suc, ◌+◌, ◌<◌, ◌≤◌, nat_eq, Bool, true, false, not, ◌&&◌, if◌then◌else◌, List, [], ◌∷◌, ◌++◌, length, get_or, take, map, fold, append_assoc, append-nil, Option, Some, slice_get, Result, Ok, Err, IfOk, Vec, Global, refl, subst, sym, ap, ap₂, ◌∙◌, arith}
use Rattle.std.specs.List.{All, filter}
use Rattle.std.proofs.lemmas.List.{get_or-map, map-append, length-map, take_more, take_all}
use Rattle.std.proofs.lemmas.List.Elements.{All-cons, All-head, All-map, All-nil, All-tail, All-weaker, filter-append}
use Rattle.std.proofs.lemmas.Option.{get_or_from_slice_get, slice_get_within}
use Rattle.indexmap.specs.IndexMap.{get}
use Rattle.sh_tree.specs.standard.program.Syntax.{Text}
use Rattle.sh_domain.specs.declared.rows.RowId.{RowId}
use Rattle.sh_domain.specs.declared.numbered.Numbered.{Numbered}
use Rattle.sh_domain.specs.declared.certificate.Facts as value
use Rattle.sh_domain.specs.declared.certificate.Entry.{Entry}
use Rattle.sh_domain.specs.declared.certificate.FunctionEntry.{FunctionEntry}
use Rattle.sh_domain.specs.declared.certificate.Certificate.{Certificate}
use Rattle.sh_domain.specs.Certificates.{numbered, placed, in_byte_order, names_at, command_claims, function_claims, commands_from, sheet_of}
use Rattle.sh_domain.specs.KeptRows.{KeptRows, holds_at}
use Rattle.sh_domain.specs.Numbered.{IsByteOrder, pair_in, pair_of, next_if, next_name, is_none}
use Rattle.sh_domain.specs.Sheets.{precedes, joined, names_text, line, first_line, count_fields, command_fields, function_fields, numbered_lines, certificate_text}

-- Names in rising byte order

length_numbered : (k : ℕ) (ts : List Text) → length (numbered k ts) ≡ length ts
unfolding numbered
length_numbered k [] = refl
length_numbered k (t ∷ ts) = ap suc (length_numbered (k + 1) ts)

at_numbered : (k i n : ℕ) (ts : List Text) (t : Text) (d : ℕ × Text) → n ≡ k + i → slice_get ts i ≡ Some t → get_or (numbered k ts) i d ≡ (n, t)
unfolding numbered
at_numbered k i n [] t d e h = let l : i < 0 = slice_get_within [] i t h in absurd (omega arith)
at_numbered k zero n (x ∷ ts) t d e h = let same : x ≡ t = cc in let number : k ≡ n = omega arith in ap₂ (λ (m : ℕ) (u : Text). (m, u)) number same
at_numbered k (suc i) n (x ∷ ts) t d e h = at_numbered (k + 1) i n ts t d (omega arith) h

pub next_numbered : (names : List Text) (i : ℕ) (old : List Numbered) (x : Numbered) → slice_get names i ≡ Some x.name.now → x.number ≡ i
    → map pair_of old ≡ take i (numbered 0 names) → map pair_of (old ++ x ∷ []) ≡ take (i + 1) (numbered 0 names)
next_numbered names i old x h e inv =
    let lt : i < length (numbered 0 names) = let l : i < length names = slice_get_within names i x.name.now h in omega (arith, l, length_numbered 0 names) in
    map-append pair_of old (x ∷ [])
    ∙ ap (λ ys. ys ++ pair_of x ∷ []) inv
    ∙ sym (take_more (numbered 0 names) i (pair_of x) lt ∙ ap (λ y. take i (numbered 0 names) ++ y ∷ []) (at_numbered 0 i x.number names x.name.now (pair_of x) (omega arith) h))

pub all_numbered : (names : List Text) (i : ℕ) (all : List Numbered) → length names ≤ i → map pair_of all ≡ take i (numbered 0 names) → map pair_of all ≡ numbered 0 names
all_numbered names i all l inv = let long : length (numbered 0 names) ≤ i = omega (arith, l, length_numbered 0 names) in inv ∙ take_all i (numbered 0 names) long

-- each number has its name
abbrev IsPlacedIn : List Text → ℕ × Text → Type 0
IsPlacedIn names x = slice_get names x.0 ≡ Some x.1

behind_others : (names : List Text) (k : ℕ) (ts : List Text) → ((i : ℕ) (t : Text) → slice_get ts i ≡ Some t → slice_get names (k + i) ≡ Some t) → All (IsPlacedIn names) (numbered k ts)
unfolding numbered
behind_others names k [] h = All-nil (IsPlacedIn names)
behind_others names k (t ∷ ts) h =
    let first : slice_get names k ≡ Some t = subst (λ n. slice_get names n ≡ Some t) (omega arith) (h 0 t refl) in
    All-cons (IsPlacedIn names) (k, t) (numbered (k + 1) ts) first (behind_others names (k + 1) ts (λ i u e. subst (λ n. slice_get names n ≡ Some u) (omega arith) (h (suc i) u e)))

placed_too : (P : ℕ × Text → Type 0) (ys : List (ℕ × Text)) (x : ℕ × Text) → All P ys → P x → All P (placed ys x)
unfolding placed
placed_too P [] x a h = All-cons P x [] h (All-nil P)
placed_too P (y ∷ ys) x a h = go (precedes x.1 y.1) (placed_too P ys x (All-tail P y ys a) h)
  where
    go : (b : Bool) → All P (placed ys x) → All P (if b then x ∷ y ∷ ys else y ∷ placed ys x)
    go true r = All-cons P x (y ∷ ys) h a
    go false r = All-cons P y (placed ys x) (All-head P y ys a) r

all_placed : (P : ℕ × Text → Type 0) (ys xs : List (ℕ × Text)) → All P ys → All P xs → All P (fold placed ys xs)
all_placed P ys [] a h = a
all_placed P ys (x ∷ xs) a h = all_placed P (placed ys x) xs (placed_too P ys x a (All-head P x xs h)) (All-tail P x xs h)

by_numbers : (names : List Text) (xs : List (ℕ × Text)) → All (IsPlacedIn names) xs → map (pair_in names) (map (λ x. x.0) xs) ≡ xs
by_numbers names [] a = refl
by_numbers names (x ∷ xs) a =
    ap₂ (λ (t : Text) (ys : List (ℕ × Text)). (x.0, t) ∷ ys) (get_or_from_slice_get names x.0 x.1 [] (All-head (IsPlacedIn names) x xs a)) (by_numbers names xs (All-tail (IsPlacedIn names) x xs a))

numbers_paired : (order : List Numbered) → map (λ (n : Numbered). n.number) order ≡ map (λ (x : ℕ × Text). x.0) (map pair_of order)
numbers_paired [] = refl
numbers_paired (n ∷ ns) = ap (λ ks. n.number ∷ ks) (numbers_paired ns)

numbers_in_order : (names : List Text) (order : List Numbered) (numbers : List ℕ) → map pair_of order ≡ in_byte_order names → numbers ≡ map (λ (n : Numbered). n.number) order → IsByteOrder names numbers
numbers_in_order names order numbers h e =
    let same : numbers ≡ map (λ (x : ℕ × Text). x.0) (in_byte_order names) = e ∙ numbers_paired order ∙ ap (map (λ (x : ℕ × Text). x.0)) h in
    let all : All (IsPlacedIn names) (in_byte_order names) = all_placed (IsPlacedIn names) [] (numbered 0 names) (All-nil (IsPlacedIn names)) (behind_others names 0 names (λ i t f. subst (λ n. slice_get names n ≡ Some t) (omega arith) f)) in
    let below : All (λ (x : ℕ × Text). x.0 < length names) (in_byte_order names) = All-weaker (IsPlacedIn names) (λ (x : ℕ × Text). x.0 < length names) (λ x f. slice_get_within names x.0 x.1 f) (in_byte_order names) all in
    record {
      ordered = ap (map (pair_in names)) same ∙ by_numbers names (in_byte_order names) all;
      below = subst (All (λ k. k < length names)) (sym same) (All-map (λ k. k < length names) (λ (x : ℕ × Text). x.0) (in_byte_order names) below);
    }

pub all_in_order : {E : Type 0} (names : List Text) (order : List Numbered) (r : Result (Vec ℕ Global) E) → map pair_of order ≡ in_byte_order names
    → IfOk r (λ v. v.items ≡ map (λ (n : Numbered). n.number) order) → IfOk r (λ v. IsByteOrder names v.items)
all_in_order names order (Ok v) h e = numbers_in_order names order v.items h e
all_in_order names order (Err a) h e = tt

-- Rows

single : (b : Bool) (x : ℕ × Text) → map (λ (y : ℕ × Text). y.1) (if b then x ∷ [] else []) ≡ (if b then x.1 ∷ [] else [])
single true x = refl
single false x = refl

named_more : (rows : KeptRows) (id : RowId) (order : List (ℕ × Text)) (i : ℕ) (n d : ℕ × Text) → i < length order → n ≡ get_or order i d
    → names_at (take (i + 1) order) rows id ≡ names_at (take i order) rows id ++ (if holds_at rows.rows id.index n.0 then n.1 ∷ [] else [])
named_more rows id order i n d lt e =
    let p : ℕ × Text → Bool = λ x. holds_at rows.rows id.index x.0 in
    let name : ℕ × Text → Text = λ x. x.1 in
    ap (λ o. names_at o rows id) (take_more order i d lt ∙ ap (λ y. take i order ++ y ∷ []) (sym e))
    ∙ ap (map name) (filter-append p (take i order) (n ∷ []))
    ∙ map-append name (filter p (take i order)) (filter p (n ∷ []))
    ∙ ap (λ u. names_at (take i order) rows id ++ u) (single (p n) n)

joined_more : (ts : List Text) (b : Bool) (t : Text) → joined 44 (ts ++ (if b then t ∷ [] else [])) ≡ joined 44 ts ++ next_if b (is_none ts) t
unfolding joined next_if next_name is_none
joined_more ts false t = ap (joined 44) (append-nil ts) ∙ sym (append-nil (joined 44 ts))
joined_more [] true t = refl
joined_more (u ∷ []) true t = refl
joined_more (u ∷ v ∷ ts) true t = ap (λ x. u ++ 44 ∷ x) (joined_more (v ∷ ts) true t) ∙ sym (append_assoc u (44 ∷ joined 44 (v ∷ ts)) (44 ∷ t))

none_more : (ts : List Text) (b : Bool) (t : Text) → is_none (ts ++ (if b then t ∷ [] else [])) ≡ (is_none ts && not b)
unfolding is_none
none_more [] true t = refl
none_more [] false t = refl
none_more (u ∷ ts) b t = refl

-- one number more of a row, in byte order
at_next : (names : List Text) (numbers : List ℕ) (i k : ℕ) (t : Text) → i < length numbers → k ≡ get_or numbers i 0 → slice_get names k ≡ Some t
    → (k, t) ≡ get_or (map (pair_in names) numbers) i (pair_in names 0)
at_next names numbers i k t lt e h =
    ap (λ u. (k, u)) (sym (get_or_from_slice_get names k t [] h)) ∙ ap (pair_in names) e ∙ sym (get_or-map (pair_in names) numbers i 0 (pair_in names 0) lt)

pub row_written : (rows : KeptRows) (id : RowId) (names : List Text) (numbers : List ℕ) (i k : ℕ) (t init out new : Text) (first : Bool)
    → i < length numbers → k ≡ get_or numbers i 0 → slice_get names k ≡ Some t
    → out ≡ init ++ names_text (names_at (take i (map (pair_in names) numbers)) rows id) → first ≡ is_none (names_at (take i (map (pair_in names) numbers)) rows id)
    → new ≡ out ++ next_if (holds_at rows.rows id.index k) first t → new ≡ init ++ names_text (names_at (take (i + 1) (map (pair_in names) numbers)) rows id)
row_written rows id names numbers i k t init out new first lt e h w f s =
    let order = map (pair_in names) numbers in
    let so_far = names_at (take i order) rows id in
    let held = holds_at rows.rows id.index k in
    let within : i < length order = omega (arith, length-map numbers (pair_in names)) in
    s ∙ ap₂ (λ x y. x ++ next_if held y t) w f ∙ append_assoc init (names_text so_far) (next_if held (is_none so_far) t)
    ∙ ap (λ x. init ++ x) (sym (joined_more so_far held t) ∙ ap names_text (sym (named_more rows id order i (k, t) (pair_in names 0) within (at_next names numbers i k t lt e h))))

pub row_first : (rows : KeptRows) (id : RowId) (names : List Text) (numbers : List ℕ) (i k : ℕ) (t : Text) (first next : Bool)
    → i < length numbers → k ≡ get_or numbers i 0 → slice_get names k ≡ Some t
    → first ≡ is_none (names_at (take i (map (pair_in names) numbers)) rows id) → next ≡ (first && not (holds_at rows.rows id.index k))
    → next ≡ is_none (names_at (take (i + 1) (map (pair_in names) numbers)) rows id)
row_first rows id names numbers i k t first next lt e h f s =
    let order = map (pair_in names) numbers in
    let so_far = names_at (take i order) rows id in
    let held = holds_at rows.rows id.index k in
    let within : i < length order = omega (arith, length-map numbers (pair_in names)) in
    s ∙ ap (λ x. x && not held) f ∙ sym (none_more so_far held t) ∙ ap is_none (sym (named_more rows id order i (k, t) (pair_in names 0) within (at_next names numbers i k t lt e h)))

-- Lines

lines_append : {A : Type 0} (fields : ℕ → A → List Text) (k n : ℕ) (xs : List A) (x : A) → n ≡ k + length xs → numbered_lines fields k (xs ++ x ∷ []) ≡ numbered_lines fields k xs ++ line (fields n x)
unfolding numbered_lines
lines_append fields k n [] x e = let same : k ≡ n = omega arith in append-nil (line (fields k x)) ∙ ap (λ j. line (fields j x)) same
lines_append fields k n (y ∷ ys) x e =
    ap (λ u. line (fields k y) ++ u) (lines_append fields (k + 1) n ys x (omega arith)) ∙ sym (append_assoc (line (fields k y)) (numbered_lines fields (k + 1) ys) (line (fields n x)))

pub commands_append : (order : List (ℕ × Text)) (c : Certificate) (k n : ℕ) (es : List Entry) (e : Entry) → n ≡ k + length es
    → commands_from order c k (es ++ e ∷ []) ≡ commands_from order c k es ++ command_claims order c.rows e (get nat_eq c.heads n) ∷ []
unfolding commands_from
commands_append order c k n [] e h = let same : k ≡ n = omega arith in ap (λ j. command_claims order c.rows e (get nat_eq c.heads j) ∷ []) same
commands_append order c k n (x ∷ es) e h = ap (λ u. command_claims order c.rows x (get nat_eq c.heads k) ∷ u) (commands_append order c (k + 1) n es e (omega arith))

pub length_commands : (order : List (ℕ × Text)) (c : Certificate) (k : ℕ) (es : List Entry) → length (commands_from order c k es) ≡ length es
unfolding commands_from
length_commands order c k [] = refl
length_commands order c k (e ∷ es) = ap suc (length_commands order c (k + 1) es)

length_front : {A : Type 0} (i : ℕ) (xs : List A) → i < length xs → length (take i xs) ≡ i
length_front zero xs l = refl
length_front (suc i) [] l = absurd (omega arith)
length_front (suc i) (x ∷ xs) l = ap suc (length_front i xs (omega arith))

pub commands_written : (order : List (ℕ × Text)) (c : Certificate) (es : List Entry) (i number : ℕ) (e d : Entry) (head : Option value.Facts) (init out new : Text) → i < length es → e ≡ get_or es i d → number ≡ i + 1
    → head ≡ get nat_eq c.heads number → out ≡ init ++ numbered_lines command_fields 1 (commands_from order c 1 (take i es))
    → new ≡ out ++ line (command_fields number (command_claims order c.rows e head)) → new ≡ init ++ numbered_lines command_fields 1 (commands_from order c 1 (take (i + 1) es))
commands_written order c es i number e d head init out new lt f m h w s =
    let so_far = commands_from order c 1 (take i es) in
    let count : number ≡ 1 + length (take i es) = omega (arith, length_front i es lt) in
    let count_too : number ≡ 1 + length so_far = omega (arith, length_front i es lt, length_commands order c 1 (take i es)) in
    let claims = command_claims order c.rows e (get nat_eq c.heads number) in
    s ∙ ap₂ (λ x y. x ++ line (command_fields number (command_claims order c.rows e y))) w h
    ∙ append_assoc init (numbered_lines command_fields 1 so_far) (line (command_fields number claims))
    ∙ ap (λ u. init ++ u)
    (sym (lines_append command_fields 1 number so_far claims count_too)
    ∙ ap (numbered_lines command_fields 1) (sym (commands_append order c 1 number (take i es) e count))
    ∙ ap (λ xs. numbered_lines command_fields 1 (commands_from order c 1 xs)) (sym (take_more es i d lt ∙ ap (λ y. take i es ++ y ∷ []) (sym f))))

pub functions_written : (order : List (ℕ × Text)) (rows : KeptRows) (es : List FunctionEntry) (i number : ℕ) (e d : FunctionEntry) (init out new : Text) → i < length es → e ≡ get_or es i d → number ≡ i + 1
    → out ≡ init ++ numbered_lines function_fields 1 (map (function_claims order rows) (take i es))
    → new ≡ out ++ line (function_fields number (function_claims order rows e)) → new ≡ init ++ numbered_lines function_fields 1 (map (function_claims order rows) (take (i + 1) es))
functions_written order rows es i number e d init out new lt f m w s =
    let claim = function_claims order rows in
    let so_far = map claim (take i es) in
    let count : number ≡ 1 + length so_far = omega (arith, length_front i es lt, length-map (take i es) claim) in
    s ∙ ap (λ x. x ++ line (function_fields number (claim e))) w
    ∙ append_assoc init (numbered_lines function_fields 1 so_far) (line (function_fields number (claim e)))
    ∙ ap (λ u. init ++ u)
    (sym (lines_append function_fields 1 number so_far (claim e) count)
    ∙ ap (numbered_lines function_fields 1) (sym (map-append claim (take i es) (e ∷ [])))
    ∙ ap (λ xs. numbered_lines function_fields 1 (map claim xs)) (sym (take_more es i d lt ∙ ap (λ y. take i es ++ y ∷ []) (sym f))))

pub all_written : (order : List (ℕ × Text)) (c : Certificate) (none first counts commands functions : Text) → none ≡ []
    → first ≡ none ++ line (first_line ∷ []) → counts ≡ first ++ line (count_fields (length c.entries.items) (length c.functions.items))
    → commands ≡ counts ++ numbered_lines command_fields 1 (commands_from order c 1 c.entries.items)
    → functions ≡ commands ++ numbered_lines function_fields 1 (map (function_claims order c.rows) c.functions.items)
    → functions ≡ certificate_text (sheet_of order c)
unfolding certificate_text
all_written order c none first counts commands functions e d f g h =
    let begun : counts ≡ line (first_line ∷ []) ++ line (count_fields (length (commands_from order c 1 c.entries.items)) (length (map (function_claims order c.rows) c.functions.items))) =
    f ∙ ap₂ (λ x y. x ++ y) (d ∙ ap (λ x. x ++ line (first_line ∷ [])) e) (ap₂ (λ n m. line (count_fields n m)) (sym (length_commands order c 1 c.entries.items)) (sym (length-map c.functions.items (function_claims order c.rows)))) in
    h ∙ ap (λ x. x ++ numbered_lines function_fields 1 (map (function_claims order c.rows) c.functions.items)) (g ∙ ap (λ x. x ++ numbered_lines command_fields 1 (commands_from order c 1 c.entries.items)) begun)
