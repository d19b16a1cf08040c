-- A here-document and the line that ends it are read wherever their bytes are before a newline.
-- POSIX.1-2024, XCU 2.7.4 (here-document), 2.2.1 (line continuation).
use Rattle.std.proofs.Common.{◌≡◌, ℕ, suc, ◌+◌, ◌-◌, ◌<◌, ◌≤◌, Bool, true, false, not, ◌&&◌, ◌||◌, if◌then◌else◌, List, [], ◌∷◌, ◌++◌, length, drop, take, Some, refl, sym, ap, ◌∙◌, arith, eqb-true, length-drop, length-append}
use Rattle.std.specs.List.{list_any}
use Rattle.std.specs.Str.{bytes_eq}
use Rattle.std.proofs.Math.Seq.{drop-append_seam, take-append_seam}
use Rattle.std.proofs.lemmas.Bool.{cond-true, cond-false, true≢false, and_parts}
use Rattle.std.proofs.lemmas.List.{drop-drop, take-append-drop, length-take-le}
use Rattle.std.proofs.lemmas.List.Sums.{take_while-cons}
use Rattle.std.proofs.lemmas.Slice.Eq.{bytes_eq-Decides}
use Rattle.sh_tree.specs.declared.tree.Part.{Part}
use Rattle.sh_tree.specs.declared.tree.Span.{Span}
use Rattle.sh_tree.specs.standard.Tree.{text_of}
use Rattle.sh_tree.specs.standard.language.Bytes.{is_newline, is_backslash, is_tab, run}
use Rattle.sh_tree.specs.standard.language.Contexts.{in_document_of}
use Rattle.sh_tree.specs.standard.language.HereDocuments.{Mark, line_length, line_text, end_line, is_ambiguous}
use Rattle.sh_tree.specs.standard.language.Parts.{keeps_lines}
use Rattle.sh_tree.specs.standard.language.Reading.{ReadsParts}
use Rattle.sh_tree.specs.standard.language.States.{Spot, State, in_document}
use Rattle.sh_tree.specs.standard.language.Trees.{span}
use Rattle.sh_copies.specs.Copied.{DocumentOf, IsMark, body_spot}
use Rattle.sh_copies.proofs.AlikeBytes.{by_bool}
use Rattle.sh_copies.proofs.CommandsDocuments.{ambiguity_same, body_moves}
use Rattle.sh_copies.proofs.Copies.{PartsMove}
use Rattle.sh_copies.proofs.Lines.{IsEnd, size, compared, end_line_is, end_line_again, newline_ends}

-- How a line ends

line_within : (joins : Bool) (cs : List ℕ) → line_length joins cs ≤ length cs
unfolding line_length
line_within joins [] = omega arith
line_within joins (c ∷ []) = by_bool (is_newline c)
    (λ is. let none : line_length joins (c ∷ []) ≡ 0 = cond-true _ _ _ is in omega arith)
    (λ other. let one : line_length joins (c ∷ []) ≡ 1 = cond-false _ _ _ other in omega arith)
line_within joins (c ∷ d ∷ cs) = by_bool (is_newline c)
    (λ is. let none : line_length joins (c ∷ d ∷ cs) ≡ 0 = cond-true _ _ _ is in omega arith)
    (λ other. by_bool (joins && is_backslash c)
    (λ pair. let rest = line_within joins cs in let two : line_length joins (c ∷ d ∷ cs) ≡ 2 + line_length joins cs = cond-false _ _ _ other ∙ cond-true _ _ _ pair in omega arith)
    (λ alone. let rest = line_within joins (d ∷ cs) in let more : line_length joins (c ∷ d ∷ cs) ≡ 1 + line_length joins (d ∷ cs) = cond-false _ _ _ other ∙ cond-false _ _ _ alone in omega arith))

-- a backslash that nothing follows ends the text
hangs : List ℕ → Bool
hangs [] = false
hangs (c ∷ []) = is_backslash c
hangs (c ∷ d ∷ cs) = if is_backslash c then hangs cs else hangs (d ∷ cs)

lone_pair : (joins : Bool) (c : ℕ) → (joins ≡ true → is_backslash c ≡ false) → (joins && is_backslash c) ≡ false
lone_pair true c h = h refl
lone_pair false c h = refl

-- a line that ends there ends before a newline too
line_ends : (joins : Bool) (e t rest : List ℕ) → line_length joins (e ++ t) ≡ length e → (joins ≡ true → hangs e ≡ false) → line_length joins (e ++ 10 ∷ rest) ≡ length e
unfolding line_length hangs
line_ends joins [] t rest h k = newline_ends joins 10 rest refl
line_ends joins (c ∷ []) t rest h k = by_bool (is_newline c)
    (λ is. let none = newline_ends joins c t is in absurd (omega arith))
    (λ other. cond-false _ _ _ other ∙ cond-false _ _ _ (lone_pair joins c k) ∙ ap (λ n. 1 + n) (newline_ends joins 10 rest refl))
line_ends joins (c ∷ d ∷ e) t rest h k = by_bool (is_newline c)
    (λ is. let none = newline_ends joins c (d ∷ (e ++ t)) is in absurd (omega arith))
    (λ other. by_bool (joins && is_backslash c)
    (λ pair.
    let two : line_length joins (c ∷ d ∷ (e ++ t)) ≡ 2 + line_length joins (e ++ t) = cond-false _ _ _ other ∙ cond-true _ _ _ pair in
    let back : is_backslash c ≡ true = (and_parts joins (is_backslash c) pair).1 in
    let rest' = line_ends joins e t rest (omega arith) (λ j. sym (cond-true _ _ _ back) ∙ k j) in
    cond-false _ _ _ other ∙ cond-true _ _ _ pair ∙ ap (λ n. 2 + n) rest' ∙ (let z : 2 + length e ≡ length (c ∷ d ∷ e) = omega arith in z))
    (λ alone.
    let more : line_length joins (c ∷ d ∷ (e ++ t)) ≡ 1 + line_length joins (d ∷ (e ++ t)) = cond-false _ _ _ other ∙ cond-false _ _ _ alone in
    let rest' = line_ends joins (d ∷ e) t rest (omega arith) (λ j. sym (cond-false _ _ _ (unjoined j c alone)) ∙ k j) in
    cond-false _ _ _ other ∙ cond-false _ _ _ alone ∙ ap (λ n. 1 + n) rest' ∙ (let z : 1 + length (d ∷ e) ≡ length (c ∷ d ∷ e) = omega arith in z)))
  where
    unjoined : joins ≡ true → (c : ℕ) → (joins && is_backslash c) ≡ false → is_backslash c ≡ false
    unjoined j c h = sym (ap (λ z. z && is_backslash c) j) ∙ h

-- it is in the line's text
hangs_there : (e : List ℕ) → hangs e ≡ true → list_any is_backslash (line_text true e) ≡ true
unfolding hangs line_text
hangs_there [] h = absurd (true≢false (sym h))
hangs_there (c ∷ []) h = ap (λ t. t || false) h
hangs_there (c ∷ d ∷ e) h = by_bool (is_backslash c)
    (λ back. by_bool (is_newline d)
    (λ line. ap (list_any is_backslash) (cond-true _ _ _ back ∙ cond-true _ _ _ line) ∙ hangs_there e (sym (cond-true _ _ _ back) ∙ h))
    (λ other. ap (list_any is_backslash) (cond-true _ _ _ back ∙ cond-false _ _ _ other) ∙ ap (λ t. t || list_any is_backslash (d ∷ line_text true e)) back))
    (λ other.
    let rest = hangs_there (d ∷ e) (sym (cond-false _ _ _ other) ∙ h) in
    ap (list_any is_backslash) (cond-false _ _ _ other) ∙ ap (λ t. t || list_any is_backslash (line_text true (d ∷ e))) other ∙ rest)

-- tabs are no backslashes
stripped : (t : List ℕ) → list_any is_backslash (drop (run is_tab t) t) ≡ list_any is_backslash t
stripped [] = refl
stripped (c ∷ t) = by_bool (is_tab c)
    (λ is.
    let more : run is_tab (c ∷ t) ≡ suc (run is_tab t) = ap length (take_while-cons is_tab c t ∙ cond-true _ _ _ is) in
    let tab : c ≡ 9 = eqb-true c 9 is in
    ap (λ n. list_any is_backslash (drop n (c ∷ t))) more ∙ stripped t ∙ sym (ap (λ x. is_backslash x || list_any is_backslash t) tab))
    (λ other. let none : run is_tab (c ∷ t) ≡ 0 = ap length (take_while-cons is_tab c t ∙ cond-false _ _ _ other) in ap (λ n. list_any is_backslash (drop n (c ∷ t))) none)

compared_has : (m : Mark) (e : List ℕ) → list_any is_backslash (compared m e) ≡ list_any is_backslash (line_text (not m.quoted) e)
compared_has m e = go m.strip
  where
    go : (t : Bool) → list_any is_backslash (if t then drop (run is_tab (line_text (not m.quoted) e)) (line_text (not m.quoted) e) else line_text (not m.quoted) e) ≡ list_any is_backslash (line_text (not m.quoted) e)
    go true = stripped (line_text (not m.quoted) e)
    go false = refl

-- no lone backslash ends the line that ends a body
end_hangs_not : (m : Mark) (e : List ℕ) → IsMark m → bytes_eq (compared m e) m.delimiter ≡ true → not m.quoted ≡ true → hangs e ≡ false
end_hangs_not m e mark is joins = by_bool (hangs e)
    (λ hanging.
    let unquoted : m.quoted ≡ false = unnot m.quoted joins in
    let same : compared m e ≡ m.delimiter = (bytes_eq-Decides (compared m e) m.delimiter).0 is in
    let some : list_any is_backslash (line_text (not m.quoted) e) ≡ true = ap (λ t. list_any is_backslash (line_text t e)) joins ∙ hangs_there e hanging in
    absurd (true≢false (sym some ∙ sym (compared_has m e) ∙ ap (list_any is_backslash) same ∙ mark unquoted)))
    (λ other. other)
  where
    unnot : (t : Bool) → not t ≡ true → t ≡ false
    unnot true h = absurd (true≢false (sym h))
    unnot false h = refl

-- Documents

-- where the end line and the text before it are
record Cut (m : Mark) (b : List ℕ) (i : ℕ) (l : Span) : Type 0 where
  text_long : l.start ≡ i + length (text_of b (span i l.start))
  end_long : l.end ≡ l.start + length (text_of b l)
  there : drop i b ≡ text_of b (span i l.start) ++ (text_of b l ++ drop l.end b)
  size_is : size m (text_of b l ++ drop l.end b) ≡ length (text_of b l)
  start_inside : l.start < length b
  is : bytes_eq (compared m (text_of b l)) m.delimiter ≡ true

cut_of : (m : Mark) (b : List ℕ) (i : ℕ) (l : Span) → IsEnd m b i l → Cut m b i l
cut_of m b i l found =
    let from = found.from in
    let inside = found.inside in
    let long = found.long in
    let most = line_within (not m.quoted) (drop l.start b) in
    let left = length-drop l.start b in
    let left' = length-drop i b in
    let k = l.start - i in
    let e = l.end - l.start in
    let text_is : length (text_of b (span i l.start)) ≡ k = length-take-le k (drop i b) (omega arith) in
    let end_is : length (text_of b l) ≡ e = length-take-le e (drop l.start b) (omega arith) in
    let rest : drop e (drop l.start b) ≡ drop l.end b = drop-drop e l.start b ∙ ap (λ n. drop n b) (let z : l.start + e ≡ l.end = omega arith in z) in
    let line : text_of b l ++ drop l.end b ≡ drop l.start b = ap (λ t. text_of b l ++ t) (sym rest) ∙ take-append-drop e (drop l.start b) in
    let behind : drop k (drop i b) ≡ drop l.start b = drop-drop k i b ∙ ap (λ n. drop n b) (let z : i + k ≡ l.start = omega arith in z) in
    let e_is : size m (drop l.start b) ≡ e = omega arith in
    record {
      text_long = omega arith;
      end_long = omega arith;
      there = sym (take-append-drop k (drop i b)) ∙ ap (λ t. text_of b (span i l.start) ++ t) (behind ∙ sym line);
      size_is = ap (size m) line ∙ e_is ∙ sym end_is;
      start_inside = inside;
      is = ap (λ n. bytes_eq (compared m (take n (drop l.start b))) m.delimiter) (sym e_is) ∙ found.is;
    }

pub document_copied : (limit commands : ℕ) → ((n : ℕ) → PartsMove limit n) → (b : List ℕ) (m : Mark) (s : State) (u : Spot) (l : Span) (parts : List Part) → s.spot.joins ≡ false → s.spot.tabs ≡ false
    → IsMark m → end_line m b s.spot.at ≡ Some l → is_ambiguous m b s.spot.at l ≡ false
    → ReadsParts limit (take l.start b) (in_document_of m) 10 (in_document m s) u parts → keeps_lines b (not m.quoted) parts ≡ true
    → u.count ≡ s.spot.count + commands → DocumentOf limit m commands (text_of b (span s.spot.at l.start)) (text_of b l)
document_copied limit commands moves b m s u l parts joins tabs mark found clear reads keeps counts =
    let i = s.spot.at in
    let v = text_of b (span i l.start) in
    let e = text_of b l in
    let is_end = end_line_is m b i l found in
    let cut = cut_of m b i l is_end in
    let start = cut.text_long in
    let from = is_end.from in
    let last = cut.end_long in
    let inside = cut.start_inside in
    let front : (b' rest : List ℕ) (j : ℕ) → drop j b' ≡ v ++ (e ++ 10 ∷ rest) → take (length v) (drop j b') ≡ v = λ b' rest j here. ap (take (length v)) here ∙ take-append_seam v (e ++ 10 ∷ rest) in
    let back : take (length v) (drop i b) ≡ v = ap (take (length v)) cut.there ∙ take-append_seam v (e ++ drop l.end b) in
    record {
      ends = λ b' rest j here.
          let some = length-append e (10 ∷ rest) in
          end_line_again m b b' i j v e (drop l.end b) (10 ∷ rest) l found (omega arith) (omega arith) cut.there here
          (line_ends (not m.quoted) e (drop l.end b) rest cut.size_is (end_hangs_not m e mark cut.is)) (omega arith);
      is_unambiguous = λ b' rest j here.
          let long : j + length v - j ≡ length v = omega arith in
          let line = span (j + length v) (j + length v + length e) in
          let line_long : line.end - line.start ≡ length e = omega arith in
          let end : drop line.start b' ≡ e ++ 10 ∷ rest = sym (drop-drop (length v) j b') ∙ ap (drop (length v)) here ∙ drop-append_seam v (e ++ 10 ∷ rest) in
          ambiguity_same m b b' i j l line (ap (λ n. take n (drop j b')) long ∙ front b' rest j here)
          (ap (λ n. take n (drop line.start b')) line_long ∙ ap (take (length e)) end ∙ take-append_seam e (10 ∷ rest))
          ∙ clear;
      is_read = λ b' rest j n here.
          let whole = length-append v (e ++ 10 ∷ rest) in
          let far = length-drop j b' in
          let far' : length (drop j b') ≡ length (v ++ (e ++ 10 ∷ rest)) = ap length here in
          let some = length-append e (10 ∷ rest) in
          let body = body_moves (moves (l.start + 1)) b b' v m (in_document m s) (body_spot m j n) u l.start (j + length v) parts (omega arith) refl back (front b' rest j here) refl refl
          (sym (ap (λ t. t || m.strip) tabs)) (λ q. absurd (true≢false (sym q))) (omega arith) (omega arith) (omega arith) reads keeps in
          (body.u, body.parts, body.reads, body.keeps, (let k = body.counts in omega arith));
    }
