-- The length of a line is that of its fields, with one byte after each.
use Rattle.std.proofs.Common.{◌≡◌, ℕ, ◌+◌, ◌/◌, ◌%◌, ◌^◌, ◌<◌, ◌≤◌, nat_eq, List, [], ◌∷◌, ◌++◌, length, map, drop, get_or, Option, Some, None, codes, refl, sym, ap, ap₂, ◌∙◌, arith, rules, length-append}
use Rattle.std.specs.Fmt.{decimal}
use Rattle.std.specs.Option.{option_map}
use Rattle.std.proofs.lemmas.Fmt.{decimal_digit, decimal_step, length-decimal-le}
use Rattle.std.proofs.lemmas.List.{drop_more, drop_all, length-map}
use Rattle.indexmap.specs.IndexMap.{get}
use Rattle.sh_tree.specs.standard.program.Syntax.{Text}
use Rattle.sh_domain.specs.declared.certificate.Certificate.{Certificate}
use Rattle.sh_domain.specs.declared.certificate.Entry.{Entry}
use Rattle.sh_domain.specs.declared.certificate.Facts as value
use Rattle.sh_domain.specs.declared.certificate.Facts.TheVariants as value_kind
use Rattle.sh_domain.specs.declared.certificate.FunctionEntry.{FunctionEntry}
use Rattle.sh_domain.specs.declared.rows.RowId.{RowId}
use Rattle.sh_domain.specs.Certificates.{names_at, claim_of, drops_of, command_claims, function_claims, commands_from, sheet_of}
use Rattle.sh_domain.specs.Facts.{Claimed}
use Rattle.sh_domain.specs.KeptRows.{KeptRows}
use Rattle.sh_domain.specs.Operands.{Names}
use Rattle.sh_domain.specs.Sheets.{CommandClaims, FunctionClaims, joined, names_text, claim_text, drops_text, line, head_fields, first_line, count_fields, command_fields, function_fields, numbered_lines, certificate_text}
use Rattle.sh_domain.proofs.WritingLemmas.{length_commands}

-- texts with one byte after each
unfoldable pub bytes_of : List Text → ℕ
bytes_of [] = 0
bytes_of (t ∷ ts) = length t + 1 + bytes_of ts

pub joined_bytes : (c : ℕ) (t : Text) (ts : List Text) → length (joined c (t ∷ ts)) + 1 ≡ bytes_of (t ∷ ts)
unfolding joined bytes_of
joined_bytes c t [] = omega arith
joined_bytes c t (u ∷ ts) = omega (arith, length-append t (c ∷ joined c (u ∷ ts)), joined_bytes c u ts)

pub line_bytes : (t : Text) (ts : List Text) → length (line (t ∷ ts)) ≡ bytes_of (t ∷ ts)
line_bytes t ts = omega (arith, length-append (joined 32 (t ∷ ts)) (10 ∷ []), joined_bytes 32 t ts)

-- Facts

pub drops_bytes : (d : Names) → length (drops_text d) + 1 ≡ (length (names_text d.vars) + 1) + (length (names_text d.functions) + 1)
unfolding bytes_of
drops_bytes d = omega (arith, joined_bytes 58 (names_text d.vars) (names_text d.functions ∷ []))

claimed_bytes : (vars functions : List Text) (args : ℕ) → length (claim_text (Claimed vars functions args)) + 1 ≡ (length (decimal args) + 1) + (length (drops_text (record { vars = vars; functions = functions })) + 1)
unfolding claim_text bytes_of
claimed_bytes vars functions args =
    omega (arith, joined_bytes 58 (decimal args) (names_text vars ∷ names_text functions ∷ []), joined_bytes 58 (names_text vars) (names_text functions ∷ []))

-- what is claimed by kept facts

pub skipped_bytes : (order : List (ℕ × Text)) (rows : KeptRows) (facts : value.Facts) → facts ≡ value_kind.NotReached → length (claim_text (claim_of order rows facts)) + 1 ≡ 2
unfolding claim_of claim_text
skipped_bytes order rows facts e = ap (λ x. length (claim_text (claim_of order rows x)) + 1) e

pub known_bytes : (order : List (ℕ × Text)) (rows : KeptRows) (facts : value.Facts) (v f : RowId) (a : ℕ) → facts ≡ value_kind.Known v f a
    → length (claim_text (claim_of order rows facts)) + 1 ≡ (length (decimal a) + 1) + (length (drops_text (drops_of order rows (record { vars = v; functions = f }))) + 1)
unfolding claim_of
known_bytes order rows facts v f a e = ap (λ x. length (claim_text (claim_of order rows x)) + 1) e ∙ claimed_bytes (names_at order rows v) (names_at order rows f) a

-- Numbers

pub few_digits : (n : ℕ) → n < 2 ^ 64 → length (decimal n) ≤ 20
few_digits n l = search (rules, length-decimal-le 20)

pub one_digit : (n : ℕ) → n < 10 → length (decimal n) ≡ 1
one_digit n l = ap length (decimal_digit n l)

pub more_digits : (n : ℕ) → 10 ≤ n → n < 2 ^ 64 → length (decimal n) ≡ length (decimal (n / 10)) + 1
more_digits n l u = ap length (decimal_step n l u) ∙ length-append (decimal (n / 10)) ((48 + n % 10) ∷ [])

-- Lines

pub first_bytes : (n m : ℕ) → length (line (first_line ∷ [])) + length (line (count_fields n m)) ≡ 41 + length (decimal n) + length (decimal m)
unfolding bytes_of
first_bytes n m = omega (arith, line_bytes first_line [], line_bytes (codes "commands") (decimal n ∷ codes "functions" ∷ decimal m ∷ []))

pub command_bytes : (k : ℕ) (c : CommandClaims)
    → length (line (command_fields k c)) ≡ 3 + length (decimal k) + (length (claim_text c.before) + 1) + (length (claim_text c.zero) + 1) + (length (claim_text c.nonzero) + 1) + bytes_of (head_fields c.head)
unfolding bytes_of
command_bytes k c = omega (arith, line_bytes (codes "c") (decimal k ∷ claim_text c.before ∷ claim_text c.zero ∷ claim_text c.nonzero ∷ head_fields c.head))

pub no_head_bytes : (order : List (ℕ × Text)) (rows : KeptRows) (head : Option value.Facts) → head ≡ None → bytes_of (head_fields (option_map (claim_of order rows) head)) ≡ 0
unfolding bytes_of head_fields
no_head_bytes order rows head e = ap (λ o. bytes_of (head_fields (option_map (claim_of order rows) o))) e

pub head_bytes : (order : List (ℕ × Text)) (rows : KeptRows) (head : Option value.Facts) (h : value.Facts) → head ≡ Some h
    → bytes_of (head_fields (option_map (claim_of order rows) head)) ≡ length (claim_text (claim_of order rows h)) + 1
unfolding bytes_of head_fields
head_bytes order rows head h e = ap (λ o. bytes_of (head_fields (option_map (claim_of order rows) o))) e ∙ omega arith

pub function_bytes : (k : ℕ) (f : FunctionClaims)
    → length (line (function_fields k f)) ≡ 3 + length (decimal k) + (length (claim_text f.before) + 1) + (length (drops_text f.drops) + 1) + (length (claim_text f.zero) + 1) + (length (claim_text f.nonzero) + 1)
unfolding bytes_of
function_bytes k f = omega (arith, line_bytes (codes "f") (decimal k ∷ claim_text f.before ∷ drops_text f.drops ∷ claim_text f.zero ∷ claim_text f.nonzero ∷ []))

-- Lines one after the other

-- those of the commands after the first i
unfoldable pub commands_bytes : (order : List (ℕ × Text)) → Certificate → ℕ → ℕ
commands_bytes order c i = length (numbered_lines command_fields (i + 1) (commands_from order c (i + 1) (drop i c.entries.items)))

commands_more : (order : List (ℕ × Text)) (c : Certificate) (i : ℕ) (d : Entry) → i < length c.entries.items
    → commands_bytes order c i ≡ length (line (command_fields (i + 1) (command_claims order c.rows (get_or c.entries.items i d) (get nat_eq c.heads (i + 1))))) + commands_bytes order c (i + 1)
unfolding commands_bytes commands_from numbered_lines
commands_more order c i d lt =
    ap (λ es. length (numbered_lines command_fields (i + 1) (commands_from order c (i + 1) es))) (drop_more c.entries.items i d lt)
    ∙ length-append (line (command_fields (i + 1) (command_claims order c.rows (get_or c.entries.items i d) (get nat_eq c.heads (i + 1)))))
    (numbered_lines command_fields (i + 1 + 1) (commands_from order c (i + 1 + 1) (drop (i + 1) c.entries.items)))

pub commands_next : (order : List (ℕ × Text)) (c : Certificate) (i number : ℕ) (e d : Entry) (head : Option value.Facts) → i < length c.entries.items → e ≡ get_or c.entries.items i d → number ≡ i + 1
    → head ≡ get nat_eq c.heads number → commands_bytes order c i ≡ length (line (command_fields number (command_claims order c.rows e head))) + commands_bytes order c (i + 1)
commands_next order c i number e d head lt f m h =
    let later = commands_bytes order c (i + 1) in
    commands_more order c i d lt
    ∙ ap (λ n. length (line (command_fields n (command_claims order c.rows (get_or c.entries.items i d) (get nat_eq c.heads n)))) + later) (sym m)
    ∙ ap₂ (λ x y. length (line (command_fields number (command_claims order c.rows x y))) + later) (sym f) (sym h)

pub commands_done : (order : List (ℕ × Text)) (c : Certificate) (i : ℕ) → length c.entries.items ≤ i → commands_bytes order c i ≡ 0
unfolding commands_bytes commands_from numbered_lines
commands_done order c i le = ap (λ es. length (numbered_lines command_fields (i + 1) (commands_from order c (i + 1) es))) (drop_all i c.entries.items le)

pub all_commands : (order : List (ℕ × Text)) (c : Certificate) → commands_bytes order c 0 ≡ length (numbered_lines command_fields 1 (commands_from order c 1 c.entries.items))
unfolding commands_bytes
all_commands order c = refl

-- those of the functions after the first i
unfoldable pub functions_bytes : (order : List (ℕ × Text)) → KeptRows → List FunctionEntry → ℕ → ℕ
functions_bytes order rows es i = length (numbered_lines function_fields (i + 1) (map (function_claims order rows) (drop i es)))

functions_more : (order : List (ℕ × Text)) (rows : KeptRows) (es : List FunctionEntry) (i : ℕ) (d : FunctionEntry) → i < length es
    → functions_bytes order rows es i ≡ length (line (function_fields (i + 1) (function_claims order rows (get_or es i d)))) + functions_bytes order rows es (i + 1)
unfolding functions_bytes numbered_lines
functions_more order rows es i d lt =
    ap (λ es. length (numbered_lines function_fields (i + 1) (map (function_claims order rows) es))) (drop_more es i d lt)
    ∙ length-append (line (function_fields (i + 1) (function_claims order rows (get_or es i d)))) (numbered_lines function_fields (i + 1 + 1) (map (function_claims order rows) (drop (i + 1) es)))

pub functions_next : (order : List (ℕ × Text)) (rows : KeptRows) (es : List FunctionEntry) (i number : ℕ) (e d : FunctionEntry) → i < length es → e ≡ get_or es i d → number ≡ i + 1
    → functions_bytes order rows es i ≡ length (line (function_fields number (function_claims order rows e))) + functions_bytes order rows es (i + 1)
functions_next order rows es i number e d lt f m =
    functions_more order rows es i d lt ∙ ap₂ (λ n x. length (line (function_fields n (function_claims order rows x))) + functions_bytes order rows es (i + 1)) (sym m) (sym f)

pub functions_done : (order : List (ℕ × Text)) (rows : KeptRows) (es : List FunctionEntry) (i : ℕ) → length es ≤ i → functions_bytes order rows es i ≡ 0
unfolding functions_bytes numbered_lines
functions_done order rows es i le = ap (λ xs. length (numbered_lines function_fields (i + 1) (map (function_claims order rows) xs))) (drop_all i es le)

pub all_functions : (order : List (ℕ × Text)) (rows : KeptRows) (es : List FunctionEntry) → functions_bytes order rows es 0 ≡ length (numbered_lines function_fields 1 (map (function_claims order rows) es))
unfolding functions_bytes
all_functions order rows es = refl

-- The whole text

pub text_bytes : (order : List (ℕ × Text)) (c : Certificate) (n m : ℕ) → n ≡ length c.entries.items → m ≡ length c.functions.items → length (certificate_text (sheet_of order c))
    ≡ (length (line (first_line ∷ [])) + length (line (count_fields n m))) + (length (numbered_lines command_fields 1 (commands_from order c 1 c.entries.items))
    + length (numbered_lines function_fields 1 (map (function_claims order c.rows) c.functions.items)))
unfolding certificate_text
text_bytes order c n m e f =
    let first = line (first_line ∷ []) in
    let counts = line (count_fields (length (commands_from order c 1 c.entries.items)) (length (map (function_claims order c.rows) c.functions.items))) in
    let commands = numbered_lines command_fields 1 (commands_from order c 1 c.entries.items) in
    let functions = numbered_lines function_fields 1 (map (function_claims order c.rows) c.functions.items) in
    let same : length counts ≡ length (line (count_fields n m)) =
    ap₂ (λ x y. length (line (count_fields x y))) (length_commands order c 1 c.entries.items ∙ sym e) (length-map c.functions.items (function_claims order c.rows) ∙ sym f) in
    let all : length (first ++ counts ++ commands ++ functions) ≡ length (first ++ counts ++ commands) + length functions = length-append (first ++ counts ++ commands) functions in
    let three : length (first ++ counts ++ commands) ≡ length (first ++ counts) + length commands = length-append (first ++ counts) commands in
    let two : length (first ++ counts) ≡ length first + length counts = length-append first counts in
    omega (arith, all, three, two, same)
