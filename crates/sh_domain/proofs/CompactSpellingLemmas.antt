-- A text that reads as a compact certificate is that certificate's text, and its text reads as that
-- certificate.
use Rattle.std.proofs.Common.{◌≡◌, ℕ, zero, suc, ◌+◌, ◌≤◌, ◌==◌, nat_le, true, false, ◌&&◌, List, [], ◌∷◌, ◌++◌, length, append_assoc, append-nil, Option, Some, None, Ok, refl, sym, ap, ap₂, ◌∙◌, subst, arith, codes}
use Rattle.std.specs.Fmt.{decimal}
use Rattle.std.specs.List.{list_all}
use Rattle.std.specs.Str.{bytes_eq}
use Rattle.std.proofs.lemmas.Bool.{and_parts}
use Rattle.std.proofs.lemmas.Bool.Decides.{nat_tests}
use Rattle.sh_tree.specs.standard.program.Syntax.{Text}
use Rattle.sh_domain.specs.CompactForms as form
use Rattle.sh_domain.specs.CompactForms.{is_compact_line, Counts, three_counts, compact_counts_in, start_of, start_in, at_least, turn_of, turn_in, read_turns, read_compact_sheet}
use Rattle.sh_domain.specs.Compacts.{CompactSheet, compact_line, compact_counts, start_fields, turn_fields, turn_lines, compact_text}
use Rattle.sh_domain.specs.CompactSpelling.{turns_rise, IsCompactSheet}
use Rattle.sh_domain.specs.Facts.{Claim}
use Rattle.sh_domain.specs.Forms.{pieces, number_in, both, claim_in, read_line, read_lines, function_in, behind, ended}
use Rattle.sh_domain.specs.Sheets.{joined, claim_text, function_fields, numbered_lines}
use Rattle.sh_domain.specs.Spelling.{is_writable, is_function}
use Rattle.sh_domain.proofs.ReadBackLemmas.{lacks, pieces_joined, lacks_joined, letter_lacks, decimal_lacks, claim_lacks, claim_read, number_read, blank, newline, line_read, lines_read, functions_read}
use Rattle.sh_domain.proofs.RoundTripLemmas.{lines_good}
use Rattle.sh_domain.proofs.SpellingLemmas.{none_some, if_some, both_some, behind_ok, same_text, joined_pieces, number_spelled, claim_spelled, line_spelled, lines_spelled, function_spelled, glued, ended_some}
use Rattle.sh_domain.proofs.WritableLemmas.{claim_writable, function_writable}

abbrev start_letter : Text
start_letter = codes "s"

abbrev turn_letter : Text
turn_letter = codes "h"

abbrev commands_word : Text
commands_word = codes "commands"

abbrev functions_word : Text
functions_word = codes "functions"

abbrev loops_word : Text
loops_word = codes "loops"

some_same : {A : Type 0} {x y : A} → Some x ≡ Some y → x ≡ y
some_same h = cc

-- Lines, as they are spelled

start_fields_spelled : (ts : List Text) (c : Claim) → start_of ts ≡ Some c → (start_fields c ≡ ts) × (is_writable c ≡ true)
unfolding start_of
start_fields_spelled [] c e = absurd (none_some e)
start_fields_spelled (l ∷ []) c e = absurd (none_some e)
start_fields_spelled (l ∷ t ∷ u ∷ ts) c e = absurd (none_some e)
start_fields_spelled (l ∷ t ∷ []) c e =
    let i = if_some (bytes_eq start_letter l) (claim_in t) c e in
    let letter : start_letter ≡ l = same_text start_letter l i.0 in
    let claim : claim_text c ≡ t = claim_spelled t c i.1 in
    (cc, claim_writable t c i.1)

start_spelled : (l : Text) (c : Claim) → start_in l ≡ Some c → joined 32 (start_fields c) ≡ l
start_spelled l c e = ap (joined 32) (start_fields_spelled (pieces 32 l) c e).0 ∙ joined_pieces 32 l

at_least_some : (least : ℕ) (o : Option ℕ) (n : ℕ) → at_least least o ≡ Some n → (o ≡ Some n) × (nat_le least n ≡ true)
unfolding at_least
at_least_some least None n e = absurd (none_some e)
at_least_some least (Some m) n e = let i = if_some (nat_le least m) (Some m) n e in (i.1, subst (λ k. nat_le least k ≡ true) (some_same i.1) i.0)

-- what is so of a line of a loop
pub record IsTurn (least : ℕ) (ts : List Text) (h : ℕ × Claim) : Type 0 where
  pub fields : turn_fields h ≡ ts
  pub number : nat_le least h.0 ≡ true
  pub few : nat_le h.0 65535 ≡ true
  pub claim : is_writable h.1 ≡ true

pub turn_fields_spelled : (least : ℕ) (ts : List Text) (h : ℕ × Claim) → turn_of least ts ≡ Some h → IsTurn least ts h
unfolding turn_of
turn_fields_spelled least [] h e = absurd (none_some e)
turn_fields_spelled least (l ∷ []) h e = absurd (none_some e)
turn_fields_spelled least (l ∷ n ∷ []) h e = absurd (none_some e)
turn_fields_spelled least (l ∷ n ∷ t ∷ u ∷ ts) h e = absurd (none_some e)
turn_fields_spelled least (l ∷ n ∷ t ∷ []) h e =
    let i = if_some (bytes_eq turn_letter l) (both (λ (k : ℕ) (x : Claim). (k, x)) (at_least least (number_in n)) (claim_in t)) h e in
    let p = both_some (λ (k : ℕ) (x : Claim). (k, x)) (at_least least (number_in n)) (claim_in t) h i.1 in
    let q = at_least_some least (number_in n) p.0 p.2 in
    let letter : turn_letter ≡ l = same_text turn_letter l i.0 in
    let number : decimal p.0 ≡ n = (number_spelled n p.0 q.0).0 in
    let small : p.0 ≤ 65535 = (number_spelled n p.0 q.0).1 in
    let fits : nat_le p.0 65535 ≡ true = grind (arith, nat_tests) in
    let claim : claim_text p.1 ≡ t = claim_spelled t p.1 p.3 in
    let spelled : turn_fields (p.0, p.1) ≡ l ∷ n ∷ t ∷ [] = cc in
    subst (IsTurn least (l ∷ n ∷ t ∷ [])) p.4 (record { fields = spelled; number = q.1; few = fits; claim = claim_writable t p.1 p.3 })

turn_spelled : (least : ℕ) (l : Text) (h : ℕ × Claim) → turn_in least l ≡ Some h → joined 32 (turn_fields h) ≡ l
turn_spelled least l h e = ap (joined 32) (turn_fields_spelled least (pieces 32 l) h e).fields ∙ joined_pieces 32 l

pub turns_spelled : (k least n : ℕ) (t : Text) (y : List (ℕ × Claim) × Text) → read_turns k least n t ≡ Ok y → (turn_lines y.0 ++ y.1 ≡ t) × (length y.0 ≡ n) × (turns_rise least y.0 ≡ true)
unfolding read_turns turn_lines turns_rise
turns_spelled k least zero t y e =
    let same : ([], t) ≡ y = cc in (
      ap (λ (z : List (ℕ × Claim) × Text). turn_lines z.0 ++ z.1) (sym same),
      ap (λ (z : List (ℕ × Claim) × Text). length z.0) (sym same),
      ap (λ (z : List (ℕ × Claim) × Text). turns_rise least z.0) (sym same),
    )
turns_spelled k least (suc n) t y e =
    let p = behind_ok (read_line (turn_in least) k t) _ y e in
    let q = behind_ok (read_turns (k + 1) (p.0.0.0 + 1) n p.0.1) _ y p.2 in
    let same : (p.0.0 ∷ q.0.0, q.0.1) ≡ y = cc in
    let here = line_spelled (turn_in least) k t p.0 p.1 in
    let turn = turn_fields_spelled least (pieces 32 here.0) p.0.0 here.1 in
    let rest = turns_spelled (k + 1) (p.0.0.0 + 1) n p.0.1 q.0 q.1 in (
      ap (λ (z : List (ℕ × Claim) × Text). turn_lines z.0 ++ z.1) (sym same)
          ∙ glued (joined 32 (turn_fields p.0.0)) (turn_lines q.0.0) q.0.1
          ∙ ap₂ (λ u v. u ++ 10 ∷ v) (turn_spelled least here.0 p.0.0 here.1) rest.0
          ∙ here.2,
      ap (λ (z : List (ℕ × Claim) × Text). length z.0) (sym same) ∙ ap suc rest.1,
      ap (λ (z : List (ℕ × Claim) × Text). turns_rise least z.0) (sym same) ∙ rw (turn.number, turn.few, turn.claim) rest.2,
    )

pub three_some : (a b c : Option ℕ) (x : Counts) → three_counts a b c ≡ Some x → (a ≡ Some x.commands) × (b ≡ Some x.functions) × (c ≡ Some x.loops)
unfolding three_counts
three_some (Some n) (Some m) (Some l) x e =
    let same : record { commands = n; functions = m; loops = l } ≡ x = cc in
    (ap (λ (y : Counts). Some y.commands) same, ap (λ (y : Counts). Some y.functions) same, ap (λ (y : Counts). Some y.loops) same)
three_some None b c x e = absurd (none_some e)
three_some (Some n) None c x e = absurd (none_some e)
three_some (Some n) (Some m) None x e = absurd (none_some e)

-- what is so of the line of counts
record AreCounts (ts : List Text) (x : Counts) : Type 0 where
  fields : compact_counts x.commands x.functions x.loops ≡ ts
  commands : nat_le x.commands 65535 ≡ true
  functions : nat_le x.functions 65535 ≡ true
  loops : nat_le x.loops 65535 ≡ true

few : (n : ℕ) → n ≤ 65535 → nat_le n 65535 ≡ true
few n l = grind (arith, nat_tests)

counts_fields_spelled : (ts : List Text) (x : Counts) → form.counts_of ts ≡ Some x → AreCounts ts x
unfolding form.counts_of
counts_fields_spelled [] x e = absurd (none_some e)
counts_fields_spelled (c ∷ []) x e = absurd (none_some e)
counts_fields_spelled (c ∷ n ∷ []) x e = absurd (none_some e)
counts_fields_spelled (c ∷ n ∷ f ∷ []) x e = absurd (none_some e)
counts_fields_spelled (c ∷ n ∷ f ∷ m ∷ []) x e = absurd (none_some e)
counts_fields_spelled (c ∷ n ∷ f ∷ m ∷ l ∷ []) x e = absurd (none_some e)
counts_fields_spelled (c ∷ n ∷ f ∷ m ∷ l ∷ k ∷ o ∷ ts) x e = absurd (none_some e)
counts_fields_spelled (c ∷ n ∷ f ∷ m ∷ l ∷ k ∷ []) x e =
    let i = if_some (bytes_eq commands_word c && bytes_eq functions_word f && bytes_eq loops_word l) (three_counts (number_in n) (number_in m) (number_in k)) x e in
    let words = and_parts (bytes_eq commands_word c && bytes_eq functions_word f) (bytes_eq loops_word l) i.0 in
    let first = and_parts (bytes_eq commands_word c) (bytes_eq functions_word f) words.0 in
    let p = three_some (number_in n) (number_in m) (number_in k) x i.1 in
    let commands : commands_word ≡ c = same_text commands_word c first.0 in
    let functions : functions_word ≡ f = same_text functions_word f first.1 in
    let loops : loops_word ≡ l = same_text loops_word l words.1 in
    let one : decimal x.commands ≡ n = (number_spelled n x.commands p.0).0 in
    let two : decimal x.functions ≡ m = (number_spelled m x.functions p.1).0 in
    let three : decimal x.loops ≡ k = (number_spelled k x.loops p.2).0 in
    record {
      fields = cc;
      commands = few x.commands (number_spelled n x.commands p.0).1;
      functions = few x.functions (number_spelled m x.functions p.1).1;
      loops = few x.loops (number_spelled k x.loops p.2).1;
    }

counts_spelled : (l : Text) (x : Counts) → compact_counts_in l ≡ Some x → joined 32 (compact_counts x.commands x.functions x.loops) ≡ l
counts_spelled l x e = ap (joined 32) (counts_fields_spelled (pieces 32 l) x e).fields ∙ joined_pieces 32 l

-- The text

all_glued : (f c s n m : Text) → ((((f ++ 10 ∷ []) ++ (c ++ 10 ∷ [])) ++ (s ++ 10 ∷ [])) ++ n) ++ m ≡ f ++ 10 ∷ (c ++ 10 ∷ (s ++ 10 ∷ (n ++ m)))
all_glued f c s n m = simp append_assoc

compact_text_of : (s : CompactSheet) (m l : ℕ) → length s.functions ≡ m → length s.heads ≡ l
    → compact_text s
    ≡ compact_line ++ 10 ∷ (joined 32 (compact_counts s.commands m l) ++ 10 ∷ (joined 32 (start_fields s.start) ++ 10 ∷ (turn_lines s.heads ++ numbered_lines function_fields 1 s.functions)))
unfolding compact_text joined
compact_text_of s m l e f =
    all_glued compact_line (joined 32 (compact_counts s.commands (length s.functions) (length s.heads))) (joined 32 (start_fields s.start)) (turn_lines s.heads) (numbered_lines function_fields 1 s.functions)
    ∙ ap₂ (λ x y. compact_line ++ 10 ∷ (joined 32 (compact_counts s.commands x y) ++ 10 ∷ (joined 32 (start_fields s.start) ++ 10 ∷ (turn_lines s.heads ++ numbered_lines function_fields 1 s.functions)))) e f

-- what a text that is read is made of
record Read (t : Text) (s : CompactSheet) : Type 0 where
  text : compact_text s ≡ t
  sheet : IsCompactSheet s

read_parts : (t : Text) (s : CompactSheet) → read_compact_sheet t ≡ Ok s → Read t s
unfolding read_compact_sheet
read_parts t s e =
    let a = behind_ok (read_line is_compact_line 1 t) _ s e in
    let b = behind_ok (read_line compact_counts_in 2 a.0.1) _ s a.2 in
    let c = behind_ok (read_line start_in 3 b.0.1) _ s b.2 in
    let n = b.0.0.commands in
    let m = b.0.0.functions in
    let l = b.0.0.loops in
    let d = behind_ok (read_turns 4 0 l c.0.1) _ s c.2 in
    let f = behind_ok (read_lines function_in (4 + l) 1 m d.0.1) _ s d.2 in
    let whole : CompactSheet = record { commands = n; start = c.0.0; heads = d.0.0; functions = f.0.0 } in
    let last = ended_some (4 + l + m) whole s f.0.1 f.2 in
    let first = line_spelled is_compact_line 1 t a.0 a.1 in
    let counts = line_spelled compact_counts_in 2 a.0.1 b.0 b.1 in
    let start = line_spelled start_in 3 b.0.1 c.0 c.1 in
    let are = counts_fields_spelled (pieces 32 counts.0) b.0.0 counts.1 in
    let turns = turns_spelled 4 0 l c.0.1 d.0 d.1 in
    let functions = lines_spelled function_in function_fields function_spelled (4 + l) 1 m d.0.1 f.0 f.1 in
    let no_more : numbered_lines function_fields 1 f.0.0 ≡ d.0.1 = sym (append-nil (numbered_lines function_fields 1 f.0.0)) ∙ ap (λ u. numbered_lines function_fields 1 f.0.0 ++ u) (sym last.1) ∙ functions.0 in
    let counted = joined 32 (compact_counts n m l) in
    let started = joined 32 (start_fields c.0.0) in
    subst (Read t) last.0 (record {
      text =
          compact_text_of whole m l functions.1 turns.1
          ∙ ap (λ u. compact_line ++ 10 ∷ (counted ++ 10 ∷ (started ++ 10 ∷ (turn_lines d.0.0 ++ u)))) no_more
          ∙ ap (λ u. compact_line ++ 10 ∷ (counted ++ 10 ∷ (started ++ 10 ∷ u))) turns.0
          ∙ ap (λ u. compact_line ++ 10 ∷ (counted ++ 10 ∷ (u ++ 10 ∷ c.0.1))) (start_spelled start.0 c.0.0 start.1)
          ∙ ap (λ u. compact_line ++ 10 ∷ (counted ++ 10 ∷ u)) start.2
          ∙ ap (λ u. compact_line ++ 10 ∷ (u ++ 10 ∷ b.0.1)) (counts_spelled counts.0 b.0.0 counts.1)
          ∙ ap (λ u. compact_line ++ 10 ∷ u) counts.2
          ∙ ap (λ u. u ++ 10 ∷ a.0.1) (same_text compact_line first.0 (if_some (bytes_eq compact_line first.0) (Some tt) a.0.0 first.1).0)
          ∙ first.2;
      sheet = record {
        start = (start_fields_spelled (pieces 32 start.0) c.0.0 start.1).1;
        heads = turns.2;
        functions = lines_good function_in is_function (λ i l c e. function_writable i (pieces 32 l) c e) (4 + l) 1 m d.0.1 f.0 f.1;
        few_commands = are.commands;
        few_heads = ap (λ k. nat_le k 65535) turns.1 ∙ are.loops;
        few_functions = ap (λ k. nat_le k 65535) functions.1 ∙ are.functions;
      };
    })

pub compact_spelled : (t : Text) (s : CompactSheet) → read_compact_sheet t ≡ Ok s → compact_text s ≡ t
compact_spelled t s e = (read_parts t s e).text

pub compact_is_sheet : (t : Text) (s : CompactSheet) → read_compact_sheet t ≡ Ok s → IsCompactSheet s
compact_is_sheet t s e = (read_parts t s e).sheet

-- Lines, as they are read

start_lacks : (c : ℕ) → (115 == c) ≡ false → (x : Claim) → lacks c (claim_text x) ≡ true → list_all (lacks c) (start_fields x) ≡ true
start_lacks c l x h = rw (letter_lacks c 115 l) (rw h refl)

start_read : (x : Claim) → is_writable x ≡ true → start_in (joined 32 (start_fields x)) ≡ Some x
unfolding start_of
start_read x h =
    ap start_of (pieces_joined 32 start_letter _ (start_lacks 32 refl x (claim_lacks 32 blank refl refl x h))) ∙ claim_read x h

turn_lacks : (c : ℕ) → (104 == c) ≡ false → (h : ℕ × Claim) → lacks c (decimal h.0) ≡ true → lacks c (claim_text h.1) ≡ true → list_all (lacks c) (turn_fields h) ≡ true
turn_lacks c l h n x = rw (letter_lacks c 104 l, n) (rw x refl)

turn_read : (least : ℕ) (h : ℕ × Claim) → nat_le least h.0 ≡ true → h.0 ≤ 65535 → is_writable h.1 ≡ true → turn_in least (joined 32 (turn_fields h)) ≡ Some h
unfolding turn_of at_least both
turn_read least h n l w =
    ap (turn_of least) (pieces_joined 32 turn_letter _ (turn_lacks 32 refl h (decimal_lacks 32 blank h.0 l) (claim_lacks 32 blank refl refl h.1 w)))
    ∙ rw (number_read h.0 l, n, claim_read h.1 w) refl

turns_read : (k least : ℕ) (hs : List (ℕ × Claim)) (rest : Text) → turns_rise least hs ≡ true → read_turns k least (length hs) (turn_lines hs ++ rest) ≡ Ok (hs, rest)
unfolding read_turns turn_lines turns_rise behind
turns_read k least [] rest h = refl
turns_read k least (x ∷ xs) rest h =
    let p = and_parts (nat_le least x.0 && nat_le x.0 65535 && is_writable x.1) (turns_rise (x.0 + 1) xs) h in
    let q = and_parts (nat_le least x.0 && nat_le x.0 65535) (is_writable x.1) p.0 in
    let r = and_parts (nat_le least x.0) (nat_le x.0 65535) q.0 in
    let small : x.0 ≤ 65535 = let s = r.1 in grind (arith, nat_tests, s) in
    let fields = joined 32 (turn_fields x) in
    let no_newline : lacks 10 fields ≡ true = lacks_joined 10 32 (turn_fields x) refl (turn_lacks 10 refl x (decimal_lacks 10 newline x.0 small) (claim_lacks 10 newline refl refl x.1 q.1)) in
    let here = line_read (turn_in least) k fields (turn_lines xs ++ rest) x no_newline (turn_read least x r.0 small q.1) in
    let more = turns_read (k + 1) (x.0 + 1) xs rest p.1 in
    rw (glued fields (turn_lines xs) rest, here, more) refl

counts_lack : (c n m l : ℕ) → lacks c (codes "commands") ≡ true → lacks c (codes "functions") ≡ true → lacks c (codes "loops") ≡ true → lacks c (decimal n) ≡ true → lacks c (decimal m) ≡ true → lacks c (decimal l) ≡ true
    → list_all (lacks c) (compact_counts n m l) ≡ true
counts_lack c n m l p q r x y z = rw (p, q, r, x, y) (rw z refl)

counts_read : (n m l : ℕ) → n ≤ 65535 → m ≤ 65535 → l ≤ 65535 → compact_counts_in (joined 32 (compact_counts n m l)) ≡ Some (record { commands = n; functions = m; loops = l })
unfolding form.counts_of three_counts
counts_read n m l x y z =
    ap form.counts_of (pieces_joined 32 commands_word _ (counts_lack 32 n m l refl refl refl (decimal_lacks 32 blank n x) (decimal_lacks 32 blank m y) (decimal_lacks 32 blank l z)))
    ∙ rw (number_read n x, number_read m y, number_read l z) refl

pub compact_read_back : (s : CompactSheet) → IsCompactSheet s → read_compact_sheet (compact_text s) ≡ Ok s
unfolding read_compact_sheet behind ended
compact_read_back s h =
    let n = s.commands in
    let m = length s.functions in
    let l = length s.heads in
    let few_n : n ≤ 65535 = let f = h.few_commands in grind (arith, nat_tests, f) in
    let few_m : m ≤ 65535 = let f = h.few_functions in grind (arith, nat_tests, f) in
    let few_l : l ≤ 65535 = let f = h.few_heads in grind (arith, nat_tests, f) in
    let counted = joined 32 (compact_counts n m l) in
    let started = joined 32 (start_fields s.start) in
    let turns = turn_lines s.heads in
    let functions = numbered_lines function_fields 1 s.functions in
    let first = line_read is_compact_line 1 compact_line (counted ++ 10 ∷ (started ++ 10 ∷ (turns ++ functions))) tt refl refl in
    let no_newline : lacks 10 counted ≡ true =
    lacks_joined 10 32 (compact_counts n m l) refl (counts_lack 10 n m l refl refl refl (decimal_lacks 10 newline n few_n) (decimal_lacks 10 newline m few_m) (decimal_lacks 10 newline l few_l)) in
    let counts = line_read compact_counts_in 2 counted (started ++ 10 ∷ (turns ++ functions)) (record { commands = n; functions = m; loops = l }) no_newline (counts_read n m l few_n few_m few_l) in
    let start = line_read start_in 3 started (turns ++ functions) s.start (lacks_joined 10 32 (start_fields s.start) refl (start_lacks 10 refl s.start (claim_lacks 10 newline refl refl s.start h.start))) (start_read s.start h.start) in
    let all = turns_read 4 0 s.heads functions h.heads in
    let none = lines_read function_in function_fields is_function functions_read (4 + l) 1 s.functions [] h.functions (omega arith) in
    let last : read_lines function_in (4 + l) 1 m functions ≡ Ok (s.functions, []) = ap (read_lines function_in (4 + l) 1 m) (sym (append-nil functions)) ∙ none in
    ap read_compact_sheet (compact_text_of s m l refl refl) ∙ rw (first, counts, start, all, last) refl
