-- The text of a compact certificate and its length, a piece at a time.
use Rattle.std.proofs.Common.{◌≡◌, ℕ, ◌+◌, ◌≤◌, List, [], ◌∷◌, ◌++◌, length, map, take, drop, append_assoc, append-nil, length-append, Some, slice_get, codes, refl, sym, ap, ap₂, ◌∙◌, arith}
use Rattle.std.specs.Fmt.{decimal}
use Rattle.std.proofs.lemmas.List.{length-map, map-append, take_more, drop_more, drop_all}
use Rattle.std.proofs.lemmas.Option.{get_or_from_slice_get, slice_get_within}
use Rattle.sh_tree.specs.standard.program.Syntax.{Text}
use Rattle.sh_domain.specs.declared.certificate.Facts as value
use Rattle.sh_domain.specs.declared.compact.Compact.{Compact}
use Rattle.sh_domain.specs.Certificates.{claim_of, function_claims}
use Rattle.sh_domain.specs.Compacts.{compact_claims, compact_counts, compact_line, compact_text, start_fields, turn_fields, turn_lines, turns_of}
use Rattle.sh_domain.specs.Facts.{Claim}
use Rattle.sh_domain.specs.KeptRows.{KeptRows}
use Rattle.sh_domain.specs.Sheets.{claim_text, line, function_fields, numbered_lines}
use Rattle.sh_facts.proofs.LengthLemmas.{bytes_of, line_bytes}

-- Lines of loops

lines_append : (xs : List (ℕ × Claim)) (x : ℕ × Claim) → turn_lines (xs ++ x ∷ []) ≡ turn_lines xs ++ line (turn_fields x)
unfolding turn_lines
lines_append [] x = append-nil (line (turn_fields x))
lines_append (y ∷ ys) x = ap (λ u. line (turn_fields y) ++ u) (lines_append ys x) ∙ sym (append_assoc (line (turn_fields y)) (turn_lines ys) (line (turn_fields x)))

pub turns_written : (order : List (ℕ × Text)) (rows : KeptRows) (hs : List (ℕ × value.Facts)) (i : ℕ) (h : ℕ × value.Facts) (init out new : Text) → slice_get hs i ≡ Some h → out ≡ init ++ turn_lines (turns_of order rows (take i hs))
    → new ≡ out ++ line (turn_fields (h.0, claim_of order rows h.1)) → new ≡ init ++ turn_lines (turns_of order rows (take (i + 1) hs))
turns_written order rows hs i h init out new e w s =
    let turn : ℕ × value.Facts → ℕ × Claim = λ x. (x.0, claim_of order rows x.1) in
    let so_far = map turn (take i hs) in
    let front : take (i + 1) hs ≡ take i hs ++ h ∷ [] = take_more hs i h (slice_get_within hs i h e) ∙ ap (λ y. take i hs ++ y ∷ []) (get_or_from_slice_get hs i h h e) in
    s ∙ ap (λ x. x ++ line (turn_fields (turn h))) w
    ∙ append_assoc init (turn_lines so_far) (line (turn_fields (turn h)))
    ∙ ap (λ u. init ++ u) (sym (lines_append so_far (turn h)) ∙ ap turn_lines (sym (map-append turn (take i hs) (h ∷ []))) ∙ ap (λ xs. turn_lines (map turn xs)) (sym front))

pub compact_written : (order : List (ℕ × Text)) (c : Compact) (none first counts start turns functions : Text) → none ≡ []
    → first ≡ none ++ line (compact_line ∷ []) → counts ≡ first ++ line (compact_counts c.commands (length c.functions.items) (length c.heads.entries))
    → start ≡ counts ++ line (start_fields (claim_of order c.rows c.start)) → turns ≡ start ++ turn_lines (turns_of order c.rows c.heads.entries)
    → functions ≡ turns ++ numbered_lines function_fields 1 (map (function_claims order c.rows) c.functions.items) → functions ≡ compact_text (compact_claims order c)
unfolding compact_text
compact_written order c none first counts start turns functions e d f g h k =
    let begun : counts ≡ line (compact_line ∷ []) ++ line (compact_counts c.commands (length (map (function_claims order c.rows) c.functions.items)) (length (turns_of order c.rows c.heads.entries))) =
    f ∙ ap₂ (λ x y. x ++ y) (d ∙ ap (λ x. x ++ line (compact_line ∷ [])) e)
    (ap₂ (λ m l. line (compact_counts c.commands m l)) (sym (length-map c.functions.items (function_claims order c.rows))) (sym (length-map c.heads.entries (λ x. (x.0, claim_of order c.rows x.1))))) in
    k ∙ ap (λ x. x ++ numbered_lines function_fields 1 (map (function_claims order c.rows) c.functions.items))
    (h ∙ ap (λ x. x ++ turn_lines (turns_of order c.rows c.heads.entries)) (g ∙ ap (λ x. x ++ line (start_fields (claim_of order c.rows c.start))) begun))

-- Lengths

pub first_bytes : (n m l : ℕ) → length (line (compact_line ∷ [])) + length (line (compact_counts n m l)) ≡ 48 + length (decimal n) + length (decimal m) + length (decimal l)
unfolding bytes_of
first_bytes n m l = omega (arith, line_bytes compact_line [], line_bytes (codes "commands") (decimal n ∷ codes "functions" ∷ decimal m ∷ codes "loops" ∷ decimal l ∷ []))

pub start_bytes : (c : Claim) → length (line (start_fields c)) ≡ 2 + (length (claim_text c) + 1)
unfolding bytes_of
start_bytes c = omega (arith, line_bytes (codes "s") (claim_text c ∷ []))

pub turn_bytes : (h : ℕ × Claim) → length (line (turn_fields h)) ≡ 3 + length (decimal h.0) + (length (claim_text h.1) + 1)
unfolding bytes_of
turn_bytes h = omega (arith, line_bytes (codes "h") (decimal h.0 ∷ claim_text h.1 ∷ []))

-- those of the loops after the first i
unfoldable pub turns_bytes : (order : List (ℕ × Text)) → KeptRows → List (ℕ × value.Facts) → ℕ → ℕ
turns_bytes order rows hs i = length (turn_lines (turns_of order rows (drop i hs)))

pub turns_next : (order : List (ℕ × Text)) (rows : KeptRows) (hs : List (ℕ × value.Facts)) (i : ℕ) (h : ℕ × value.Facts) → slice_get hs i ≡ Some h
    → turns_bytes order rows hs i ≡ length (line (turn_fields (h.0, claim_of order rows h.1))) + turns_bytes order rows hs (i + 1)
unfolding turns_bytes turn_lines
turns_next order rows hs i h e =
    let rest : drop i hs ≡ h ∷ drop (i + 1) hs = drop_more hs i h (slice_get_within hs i h e) ∙ ap (λ y. y ∷ drop (i + 1) hs) (get_or_from_slice_get hs i h h e) in
    ap (λ xs. length (turn_lines (turns_of order rows xs))) rest
    ∙ length-append (line (turn_fields (h.0, claim_of order rows h.1))) (turn_lines (turns_of order rows (drop (i + 1) hs)))

pub turns_done : (order : List (ℕ × Text)) (rows : KeptRows) (hs : List (ℕ × value.Facts)) (i : ℕ) → length hs ≤ i → turns_bytes order rows hs i ≡ 0
unfolding turns_bytes turn_lines
turns_done order rows hs i le = ap (λ xs. length (turn_lines (turns_of order rows xs))) (drop_all i hs le)

pub turns_all : (order : List (ℕ × Text)) (rows : KeptRows) (hs : List (ℕ × value.Facts)) → turns_bytes order rows hs 0 ≡ length (turn_lines (turns_of order rows hs))
unfolding turns_bytes
turns_all order rows hs = refl

pub text_bytes : (order : List (ℕ × Text)) (c : Compact) (m l : ℕ) → m ≡ length c.functions.items → l ≡ length c.heads.entries → length (compact_text (compact_claims order c))
    ≡ (length (line (compact_line ∷ [])) + length (line (compact_counts c.commands m l))) + (length (line (start_fields (claim_of order c.rows c.start)))
    + (length (turn_lines (turns_of order c.rows c.heads.entries)) + length (numbered_lines function_fields 1 (map (function_claims order c.rows) c.functions.items))))
unfolding compact_text
text_bytes order c m l e f =
    let first = line (compact_line ∷ []) in
    let counts = line (compact_counts c.commands (length (map (function_claims order c.rows) c.functions.items)) (length (turns_of order c.rows c.heads.entries))) in
    let start = line (start_fields (claim_of order c.rows c.start)) in
    let turns = turn_lines (turns_of order c.rows c.heads.entries) in
    let functions = numbered_lines function_fields 1 (map (function_claims order c.rows) c.functions.items) in
    let same : length counts ≡ length (line (compact_counts c.commands m l)) =
    ap₂ (λ x y. length (line (compact_counts c.commands x y))) (length-map c.functions.items (function_claims order c.rows) ∙ sym e) (length-map c.heads.entries (λ x. (x.0, claim_of order c.rows x.1)) ∙ sym f) in
    let four : length (first ++ counts ++ start ++ turns ++ functions) ≡ length (first ++ counts ++ start ++ turns) + length functions = length-append (first ++ counts ++ start ++ turns) functions in
    let three : length (first ++ counts ++ start ++ turns) ≡ length (first ++ counts ++ start) + length turns = length-append (first ++ counts ++ start) turns in
    let two : length (first ++ counts ++ start) ≡ length (first ++ counts) + length start = length-append (first ++ counts) start in
    let one : length (first ++ counts) ≡ length first + length counts = length-append first counts in
    omega (arith, four, three, two, one, same)
