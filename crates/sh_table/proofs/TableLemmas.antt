-- What is kept of a script, and the row with a number.
use Rattle.std.proofs.Common.{◌≡◌, ℕ, zero, suc, ◌<◌, ◌≤◌, ◌==◌, Bool, true, false, cond, not, List, [], ◌∷◌, length, get_or, slice_get, map, Option, Some, None, option_map, option_and_then, unwrap_or, refl, sym, ap, ap₂, ◌∙◌, arith, ◌+◌, ◌-◌, ◌++◌, fold}
use Rattle.std.proofs.lemmas.List.Elements.{All-nil}
use Rattle.std.proofs.lemmas.List.{get_or_default, length-append, length-map}
use Rattle.std.proofs.lemmas.Option.{slice_get-map, slice_get_past, slice_get_read}
use Rattle.std.proofs.Math.Dec.{ltb}
use Rattle.std.proofs.lemmas.Bool.Decides.{nat_tests}
use Rattle.std.specs.List.{All, AllWithin, cons_option, filter_map, position_or_len}
use Rattle.std.specs.List.Sorted.{IsNonDecreasingBy}
use Rattle.sh_tree.specs.declared.limits.TheConstants.{MAX_COMMANDS}
use Rattle.sh_tree.specs.declared.tree.Item.{Item}
use Rattle.sh_tree.specs.declared.tree.Script.{Script, out-Script}
use Rattle.sh_tree.specs.Lists.{items_from}
use Rattle.sh_tree.specs.standard.program.Syntax as p
use Rattle.sh_tree.specs.standard.program.Syntax.{Text}
use Rattle.sh_tree.specs.standard.program.Trees.{script_of}
use Rattle.sh_tree.proofs.ProgramRules.{script_of-out}
use Rattle.sh_table.specs.declared.table.Row as declared
use Rattle.sh_table.specs.declared.word_text.WordText.{WordText}
use Rattle.sh_runs.specs.Calls.{Functions, Table, Row, defined, with_name, names_of, functions_of, row_of, table_of, texts_with, static_at, text_at, called, callee_at}
use Rattle.sh_table.specs.KeptTable.{IsKept, IsNamed, row_in, callee_in, place_with, functions_in, table_in, found_texts}
use Rattle.sh_runs.specs.standard.Kinds.{kind_of, is_special}
use Rattle.sh_runs.specs.Profile.{Static}
use Rattle.sh_runs.specs.Sites.{Site, by_number, sites_of}
use Rattle.sh_runs.specs.Surroundings.{items_located}
use Rattle.sh_table.specs.declared.table.Named.{Named}
use Rattle.sh_table.specs.WordTexts.{text_in}
use Rattle.sh_runs.specs.standard.runs.Environment.{is_one_of}
use Rattle.sh_runs.proofs.PositionLemmas.{place, place_later}
use Rattle.sh_table.proofs.OrderLemmas.{Above, Rises, number_of, rises_by_number}

-- the numbers of rows rise as those of the commands

abbrev RowsAbove : ℕ → List declared.Row → Type 0
RowsAbove n [] = Unit {0}
RowsAbove n (r ∷ rs) = (n ≤ r.number) × RowsAbove n rs

abbrev RowsRise : List declared.Row → Type 0
RowsRise [] = Unit {0}
RowsRise (r ∷ rs) = RowsAbove r.number rs × RowsRise rs

abbrev first_number : List Row → ℕ
first_number [] = 0
first_number (r ∷ rs) = r.0

abbrev later_rows : List Row → List Row
later_rows [] = []
later_rows (r ∷ rs) = rs

rows_above : (b : List ℕ) (n : ℕ) (rs : List declared.Row) (ss : List Site) → map (row_in b) rs ≡ map row_of ss → Above number_of n ss → RowsAbove n rs
unfolding row_of
rows_above b n [] ss e a = tt
rows_above b n (r ∷ rs) [] e a = cc
rows_above b n (r ∷ rs) (s ∷ ss) e a =
    let same : r.number ≡ s.number = ap first_number e in
    let least = a.0 in
    (omega (arith, same, least), rows_above b n rs ss (ap later_rows e) a.1)

rows_rise : (b : List ℕ) (rs : List declared.Row) (ss : List Site) → map (row_in b) rs ≡ map row_of ss → Rises number_of ss → RowsRise rs
unfolding row_of
rows_rise b [] ss e r = tt
rows_rise b (x ∷ xs) [] e r = cc
rows_rise b (x ∷ xs) (s ∷ ss) e r =
    let same : x.number ≡ s.number = ap first_number e in
    (rows_above b x.number xs ss (ap later_rows e) (rw same r.0), rows_rise b xs ss (ap later_rows e) r.1)

above_at : (n : ℕ) (rs : List declared.Row) → RowsAbove n rs → (j : ℕ) (d : declared.Row) → j < length rs → n ≤ (get_or rs j d).number
above_at n [] a j d h = absurd (omega (arith, h))
above_at n (r ∷ rs) a zero d h = a.0
above_at n (r ∷ rs) a (suc j) d h = above_at n rs a.1 j d (omega (arith, h))

never_falls : (rs : List declared.Row) → RowsRise rs → IsNonDecreasingBy (λ (r : declared.Row). r.number) rs
never_falls [] a i j d k h = absurd (omega (arith, h))
never_falls (r ∷ rs) a zero zero d k h = omega arith
never_falls (r ∷ rs) a zero (suc j) d k h = above_at r.number rs a.0 j d (omega (arith, h))
never_falls (r ∷ rs) a (suc i) zero d k h = absurd (omega (arith, k))
never_falls (r ∷ rs) a (suc i) (suc j) d k h = never_falls rs a.1 i j d (omega (arith, k)) (omega (arith, h))

pub numbers_rise : (b : List ℕ) (t : p.Items) (rs : List declared.Row) → map (row_in b) rs ≡ map row_of (sites_of t) → IsNonDecreasingBy (λ (r : declared.Row). r.number) rs
unfolding sites_of
numbers_rise b t rs e = never_falls rs (rows_rise b rs _ e (rises_by_number _))

-- the table of a tree

pub functions_whole : (b : List ℕ) (t : Script) (f : Functions) → f ≡ functions_of (sites_of (script_of b t)) → f ≡ (table_of b t).functions
unfolding table_of
functions_whole b t f e = e

pub table_whole : (b : List ℕ) (t : Script) (f : Functions) (rs : List declared.Row) → f ≡ functions_of (sites_of (script_of b t)) → map (row_in b) rs ≡ map row_of (sites_of (script_of b t))
    → table_in b f rs ≡ table_of b t
unfolding table_of
table_whole b t f rs e r = ap₂ (λ x y. record { script = b; functions = x; rows = y }) e r

-- no more functions than commands

one_more_name : (names : List Text) (t : Text) → length (with_name names t) ≤ length names + 1
unfolding with_name
one_more_name names t = go (is_one_of names t)
  where
    go : (found : Bool) → length (cond found names (names ++ t ∷ [])) ≤ length names + 1
    go true = omega arith
    go false = let both = length-append names (t ∷ []) in omega (arith, both)

all_named : (names ts : List Text) → length (fold with_name names ts) ≤ length names + length ts
all_named names [] = omega arith
all_named names (t ∷ ts) =
    let first = one_more_name names t in
    let others = all_named (with_name names t) ts in
    omega (arith, first, others)

some_define : (ss : List Site) → length (filter_map (λ s. defined s.form) ss) ≤ length ss
some_define [] = omega arith
some_define (s ∷ ss) = go (some_define ss) (defined s.form)
  where
    go : length (filter_map (λ s. defined s.form) ss) ≤ length ss → (o : Option Text) → length (cons_option o (filter_map (λ s. defined s.form) ss)) ≤ suc (length ss)
    go others None = omega (arith, others)
    go others (Some t) = omega (arith, others)

pub names_few : (b : List ℕ) (t : Script) → length (table_of b t).functions.names ≤ length (table_of b t).rows
unfolding table_of functions_of names_of
names_few b t =
    let ss = sites_of (script_of b t) in
    let named = all_named [] (filter_map (λ s. defined s.form) ss) in
    let some = some_define ss in
    let rows = length-map ss row_of in
    omega (arith, named, some, rows)

pub kept : (b : List ℕ) (t : Script) (f : Functions) (rs : List declared.Row) (cs : List (Option ℕ)) (ns : List Named) → length f.names ≤ MAX_COMMANDS → map (row_in b) rs ≡ map row_of (sites_of (script_of b t))
    → cs ≡ map (callee_in b f.names) rs → All (IsNamed b f.names) ns → IsKept b f rs cs ns
kept b t f rs cs ns few r called placed = record { few = few; ordered = numbers_rise b (script_of b t) rs r; callees = called; named = placed }

-- of a script without items

pub empty_kept : (b : Text) (f : Functions) (rs : List declared.Row) (cs : List (Option ℕ)) (ns : List Named) → f ≡ functions_in [] [] → rs ≡ [] → cs ≡ [] → ns ≡ [] → IsKept b f rs cs ns
empty_kept b f [] [] [] fs r c n = record { few = rw fs (omega arith); ordered = never_falls [] tt; callees = refl; named = All-nil (IsNamed b f.names) }
empty_kept b f [] [] (n ∷ ns) fs r c e = cc
empty_kept b f [] (c ∷ cs) ns fs r e n = cc
empty_kept b f (x ∷ xs) cs ns fs r c n = cc

no_sites : (b : Text) (xs : List Item) → xs ≡ [] → sites_of (items_from b xs) ≡ []
unfolding sites_of by_number items_located items_from
no_sites b [] none = refl
no_sites b (x ∷ xs) none = cc

pub empty_table : (b : Text) (t : Script) (f : Functions) (rs : List declared.Row) → (out-Script t).items ≡ [] → f ≡ functions_in [] [] → rs ≡ [] → table_in b f rs ≡ table_of b t
unfolding functions_of names_of
empty_table b t f rs none fs r =
    let sites : sites_of (script_of b t) ≡ [] = ap sites_of (script_of-out b t) ∙ no_sites b (out-Script t).items none in
    table_whole b t f rs (fs ∙ sym (ap functions_of sites)) (ap (map (row_in b)) r ∙ sym (ap (map row_of) sites))

-- the place of the first row with a number

abbrev has_number : ℕ → declared.Row → Bool
has_number n r = r.number == n

abbrev IsBelow : ℕ → ℕ → List declared.Row → Type 0
IsBelow n at rs = AllWithin (λ (r : declared.Row). ltb r.number n ≡ true) rs 0 at

abbrev IsAbove : ℕ → ℕ → List declared.Row → Type 0
IsAbove n at rs = (k : ℕ) (d : declared.Row) → at ≤ k → k < length rs → n < (get_or rs k d).number

next : (p q : ℕ) → p ≡ q → 1 + p ≡ suc q
next p q e = omega (arith, e)

first_there : (n at : ℕ) (rs : List declared.Row) → at < length rs → IsBelow n at rs → ((d : declared.Row) → (get_or rs at d).number ≡ n) → position_or_len (has_number n) rs ≡ at
first_there n at [] l low here = absurd (omega (arith, l))
first_there n zero (r ∷ rs) l low here =
    let same : r.number ≡ n = here r in
    let hit : (r.number == n) ≡ true = grind (arith, nat_tests) in
    rw hit refl
first_there n (suc a) (r ∷ rs) l low here =
    let below : ltb r.number n ≡ true = low 0 r (omega arith) (omega arith) in
    let other : (r.number == n) ≡ false = grind (arith, nat_tests) in
    rw other (next _ a (first_there n a rs (omega (arith, l)) (λ k d m h. low (suc k) d (omega arith) (omega (arith, h))) here))

none_there : (n at : ℕ) (rs : List declared.Row) → IsBelow n at rs → IsAbove n at rs → position_or_len (has_number n) rs ≡ length rs
none_there n at [] low high = refl
none_there n zero (r ∷ rs) low high =
    let more : n < r.number = high 0 r (omega arith) (omega arith) in
    let other : (r.number == n) ≡ false = grind (arith, nat_tests) in
    rw other (next _ (length rs) (none_there n zero rs (λ k d m h. absurd (omega (arith, h))) (λ k d m h. high (suc k) d (omega arith) (omega (arith, h)))))
none_there n (suc a) (r ∷ rs) low high =
    let below : ltb r.number n ≡ true = low 0 r (omega arith) (omega arith) in
    let other : (r.number == n) ≡ false = grind (arith, nat_tests) in
    rw other (next _ (length rs) (none_there n a rs (λ k d m h. low (suc k) d (omega arith) (omega (arith, h))) (λ k d m h. high (suc k) d (omega (arith, m)) (omega (arith, h)))))

pub place_there : (n at : ℕ) (rs : List declared.Row) → at < length rs → IsBelow n at rs → ((d : declared.Row) → (get_or rs at d).number ≡ n) → Some at ≡ place_with n rs
place_there n at rs l low here =
    let first = first_there n at rs l low here in
    let inside : ltb (position_or_len (has_number n) rs) (length rs) ≡ true = grind (arith, nat_tests) in
    rw inside (ap (λ (p : ℕ). Some p) (sym first))

pub no_place : (n at : ℕ) (rs : List declared.Row) → IsBelow n at rs → IsAbove n at rs → None ≡ place_with n rs
no_place n at rs low high =
    let past = none_there n at rs low high in
    let outside : ltb (position_or_len (has_number n) rs) (length rs) ≡ false = grind (arith, nat_tests) in
    rw outside refl

-- the rows before a place have lesser numbers, if the last of them has
pub all_below : (n at : ℕ) (rs : List declared.Row) → IsNonDecreasingBy (λ (r : declared.Row). r.number) rs → at < length rs
    → (0 < at → (d : declared.Row) → (get_or rs (at - 1) d).number < n) → IsBelow n at rs
all_below n at rs up l before k d m h =
    let last : (get_or rs (at - 1) d).number < n = before (omega (arith, h)) d in
    let rises : (get_or rs k d).number ≤ (get_or rs (at - 1) d).number = up k (at - 1) d (omega (arith, h)) (omega (arith, l, h)) in
    let less : (get_or rs k d).number < n = omega (arith, last, rises) in
    grind (arith, nat_tests)

pub number_there : (rs : List declared.Row) (at : ℕ) (r : declared.Row) → at < length rs → r ≡ get_or rs at r → (d : declared.Row) → (get_or rs at d).number ≡ r.number
number_there rs at r l here d = ap (λ (x : declared.Row). x.number) (get_or_default rs at d r l ∙ sym here)

-- the rows from a place on have greater numbers, if the first of them has no lesser and another one
pub all_above : (n at : ℕ) (rs : List declared.Row) (r : declared.Row) → IsNonDecreasingBy (λ (x : declared.Row). x.number) rs → r ≡ get_or rs at r → at < length rs
    → AllWithin (λ (x : declared.Row). ltb x.number n ≡ false) rs at (length rs) → (r.number == n) ≡ false → IsAbove n at rs
all_above n at rs r up here l high other k d m h =
    let same : (get_or rs at d).number ≡ r.number = number_there rs at r l here d in
    let least : ltb (get_or rs at d).number n ≡ false = high at d (omega arith) l in
    let more : n < r.number = grind (arith, nat_tests) in
    let rises : (get_or rs at d).number ≤ (get_or rs k d).number = up at k d m h in
    omega (arith, more, rises, same)

-- what is kept of the row there

first_texts : (b : List ℕ) (n : ℕ) (rs : List declared.Row) → found_texts b (slice_get rs (position_or_len (has_number n) rs)) ≡ texts_with n (map (row_in b) rs)
unfolding found_texts texts_with
first_texts b n [] = refl
first_texts b n (r ∷ rs) = go (r.number == n) (first_texts b n rs)
  where
    go : (x : Bool) → found_texts b (slice_get rs (position_or_len (has_number n) rs)) ≡ texts_with n (map (row_in b) rs)
        → found_texts b (slice_get (r ∷ rs) (cond (not x) (1 + position_or_len (has_number n) rs) 0)) ≡ cond x (map (text_in b) r.texts.items) (texts_with n (map (row_in b) rs))
    go true h = refl
    go false h = ap (λ (p : ℕ). found_texts b (slice_get (r ∷ rs) p)) (next _ (position_or_len (has_number n) rs) refl) ∙ h

texts_placed : (b : List ℕ) (n : ℕ) (rs : List declared.Row) → found_texts b (option_and_then (slice_get rs) (place_with n rs)) ≡ texts_with n (map (row_in b) rs)
texts_placed b n rs = go (ltb (position_or_len (has_number n) rs) (length rs)) refl ∙ first_texts b n rs
  where
    go : (x : Bool) → ltb (position_or_len (has_number n) rs) (length rs) ≡ x
        → found_texts b (option_and_then (slice_get rs) (cond x (Some (position_or_len (has_number n) rs)) None)) ≡ found_texts b (slice_get rs (position_or_len (has_number n) rs))
    go true e = refl
    go false e = let past : length rs ≤ position_or_len (has_number n) rs = grind (arith, nat_tests) in ap (found_texts b) (sym (slice_get_past rs (position_or_len (has_number n) rs) past))

pub no_row : (b : List ℕ) (n : ℕ) (rs : List declared.Row) → None ≡ place_with n rs → found_texts b None ≡ texts_with n (map (row_in b) rs)
no_row b n rs e = ap (λ (o : Option ℕ). found_texts b (option_and_then (slice_get rs) o)) e ∙ texts_placed b n rs

row_placed : (b : List ℕ) (n p : ℕ) (rs : List declared.Row) → Some p ≡ place_with n rs → found_texts b (slice_get rs p) ≡ texts_with n (map (row_in b) rs)
row_placed b n p rs e = ap (λ (o : Option ℕ). found_texts b (option_and_then (slice_get rs) o)) e ∙ texts_placed b n rs

pub row_there : (b : List ℕ) (n p : ℕ) (rs : List declared.Row) (r : declared.Row) → Some p ≡ place_with n rs → p < length rs → r ≡ get_or rs p r → found_texts b (Some r) ≡ texts_with n (map (row_in b) rs)
row_there b n p rs r e l here = ap (found_texts b) (sym (slice_get_read rs (length rs) p r refl l here)) ∙ row_placed b n p rs e

-- the text of a word of a row

pub static_here : (b : List ℕ) (ts : List WordText) (k : ℕ) (t : WordText) → k < length ts → t ≡ get_or ts k t → text_in b t ≡ static_at (map (text_in b) ts) k
unfolding static_at
static_here b [] k t h e = absurd (omega (arith, h))
static_here b (x ∷ xs) zero t h e = ap (text_in b) e
static_here b (x ∷ xs) (suc k) t h e = static_here b xs k t (omega (arith, h)) e

pub no_static : (b : List ℕ) (ts : List WordText) (k : ℕ) → length ts ≤ k → None ≡ static_at (map (text_in b) ts) k
unfolding static_at
no_static b [] k h = refl
no_static b (x ∷ xs) zero h = absurd (omega (arith, h))
no_static b (x ∷ xs) (suc k) h = no_static b xs k (omega (arith, h))

-- What is looked up

pub no_text : (x : Table) (n k : ℕ) → found_texts x.script None ≡ texts_with n x.rows → None ≡ text_at x n k
unfolding found_texts text_at static_at
no_text x n k e = ap (λ ts. static_at ts k) e

pub text_found : (x : Table) (b : List ℕ) (n k : ℕ) (r : declared.Row) (t : Static) → b ≡ x.script → found_texts x.script (Some r) ≡ texts_with n x.rows
    → t ≡ static_at (map (text_in b) r.texts.items) k → t ≡ text_at x n k
unfolding found_texts text_at
text_found x b n k r t same e h = h ∙ ap (λ c. static_at (map (text_in c) r.texts.items) k) same ∙ ap (λ ts. static_at ts k) e

-- What is called

pub none_named : (names : List Text) (o : Static) → None ≡ o → None ≡ called names o
unfolding called
none_named names o e = ap (called names) e

-- if there are no functions, none is called
pub none_among : (names : List Text) (o : Static) → length names < 1 → None ≡ called names o
unfolding called
none_among [] None few = refl
none_among [] (Some t) few = either (is_special (kind_of t)) None
  where
    either : (b : Bool) (o : Option ℕ) → o ≡ cond b o o
    either true o = refl
    either false o = refl
none_among (name ∷ names) o few = absurd (omega (arith, few))

pub special_named : (names : List Text) (t : Text) → is_special (kind_of t) ≡ true → None ≡ called names (Some t)
unfolding called
special_named names t h = rw h refl

pub place_named : (names : List Text) (t : Text) (o : Option ℕ) → is_special (kind_of t) ≡ false → o ≡ place names t → option_map suc o ≡ called names (Some t)
unfolding called
place_named names t o h at = rw h (ap (option_map suc) at ∙ sym (place_later t 0 names))

pub no_place_named : (names : List Text) (t : Text) → None ≡ place names t → None ≡ called names (Some t)
no_place_named names t at = go (is_special (kind_of t)) refl
  where
    go : (b : Bool) → is_special (kind_of t) ≡ b → None ≡ called names (Some t)
    go true h = special_named names t h
    go false h = place_named names t None h at

pub no_callee : (b : Text) (f : Functions) (rs : List declared.Row) (n : ℕ) → None ≡ place_with n rs → None ≡ callee_at (table_in b f rs) n
unfolding callee_at text_at static_at found_texts called
no_callee b f rs n e = ap (λ ts. called f.names (static_at ts 0)) (no_row b n rs e)

pub callee_there : (b : Text) (f : Functions) (rs : List declared.Row) (cs : List (Option ℕ)) (n p : ℕ) (c : Option ℕ) → cs ≡ map (callee_in b f.names) rs → Some p ≡ place_with n rs
    → p < length rs → c ≡ get_or cs p c → c ≡ callee_at (table_in b f rs) n
unfolding callee_at text_at found_texts
callee_there b f rs cs n p c kept e l here =
    let long : length cs ≡ length rs = ap length kept ∙ length-map rs (callee_in b f.names) in
    let read : option_map (callee_in b f.names) (slice_get rs p) ≡ Some c =
    sym (slice_get-map (callee_in b f.names) rs p) ∙ ap (λ (xs : List (Option ℕ)). slice_get xs p) (sym kept) ∙ slice_get_read cs (length cs) p c refl (omega (arith, long, l)) here in
    go (slice_get rs p) read ∙ ap (λ ts. called f.names (static_at ts 0)) (row_placed b n p rs e)
  where
    go : (o : Option declared.Row) → option_map (callee_in b f.names) o ≡ Some c → c ≡ called f.names (static_at (found_texts b o) 0)
    go None h = cc
    go (Some r) h = ap (λ (o : Option (Option ℕ)). unwrap_or o c) (sym h)
