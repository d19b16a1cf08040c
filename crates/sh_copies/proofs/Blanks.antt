-- Blanks and comments before a closing parenthesis are the same whatever follows it.
-- POSIX.1-2024, XCU 2.3 (token recognition), 2.7.4 (here-document).
use Rattle.std.proofs.Common.{◌≡◌, ℕ, suc, ◌+◌, ◌≤◌, ◌<◌, ◌==◌, Bool, true, false, not, ◌&&◌, ◌||◌, List, [], ◌∷◌, ◌++◌, length, drop, refl, sym, ap, ◌∙◌, arith, eqb-true, length-drop}
use Rattle.std.proofs.Math.Bool.{and-false}
use Rattle.std.proofs.lemmas.Bool.{cond-true, cond-false, true≢false, and_parts}
use Rattle.std.proofs.lemmas.List.{drop-drop, drop-append-le}
use Rattle.sh_tree.specs.standard.language.Bytes.{is_blank, is_newline, is_backslash, is_first, run}
use Rattle.sh_tree.specs.standard.language.Commands.{gap_length, comment_length, is_comment, blank_length, is_parenthesis}
use Rattle.sh_tree.specs.standard.language.HereDocuments.{line_length}
use Rattle.sh_copies.proofs.AlikeBytes.{by_bool, run_yes, run_no, run_inside}
use Rattle.sh_copies.proofs.Fronts.{first_same}
use Rattle.sh_copies.proofs.Lines.{line_moves}

-- Runs

-- a run does not end before a byte that it takes
run_before : (p : ℕ → Bool) (v : List ℕ) (c : ℕ) (r : List ℕ) → p c ≡ true → run p (v ++ c ∷ r) ≤ length v → run p (v ++ c ∷ r) < length v
run_before p [] c r h k = let e = run_yes p c r h in absurd (omega arith)
run_before p (a ∷ v) c r h k = by_bool (p a)
    (λ is. let e = run_yes p a (v ++ c ∷ r) is in let rest = run_before p v c r h (omega arith) in omega arith)
    (λ other. let e = run_no p a (v ++ c ∷ r) other in omega arith)

-- Gaps

lone_gap : (a : ℕ) (r : List ℕ) → is_blank a ≡ false → gap_length (a ∷ 41 ∷ r) ≡ 0
unfolding gap_length
lone_gap a r h = cond-false _ _ _ h ∙ cond-false _ _ _ (and-false (is_backslash a))

no_gap : (r : List ℕ) → gap_length (41 ∷ r) ≡ 0
unfolding gap_length
no_gap [] = refl
no_gap (d ∷ r) = refl

pub gap_moves : (w r r' : List ℕ) → (gap_length (w ++ 41 ∷ r') ≡ gap_length (w ++ 41 ∷ r)) × (gap_length (w ++ 41 ∷ r) ≤ length w)
unfolding gap_length
gap_moves [] r r' = let e = no_gap r in (no_gap r' ∙ sym e, omega arith)
gap_moves (a ∷ []) r r' = by_bool (is_blank a)
    (λ is.
    let e : gap_length (a ∷ 41 ∷ r) ≡ 1 + gap_length (41 ∷ r) = cond-true _ _ _ is in
    let none = no_gap r in
    (cond-true _ _ _ is ∙ ap (λ n. 1 + n) (no_gap r' ∙ sym none) ∙ sym e, omega arith))
    (λ other. let e = lone_gap a r other in (lone_gap a r' other ∙ sym e, omega arith))
gap_moves (a ∷ d ∷ w) r r' = by_bool (is_blank a)
    (λ is.
    let rest = gap_moves (d ∷ w) r r' in
    let within = rest.1 in
    let e : gap_length (a ∷ d ∷ (w ++ 41 ∷ r)) ≡ 1 + gap_length (d ∷ (w ++ 41 ∷ r)) = cond-true _ _ _ is in
    (cond-true _ _ _ is ∙ ap (λ n. 1 + n) rest.0 ∙ sym e, omega arith))
    (λ other. by_bool (is_backslash a && is_newline d)
    (λ joined.
    let rest = gap_moves w r r' in
    let within = rest.1 in
    let e : gap_length (a ∷ d ∷ (w ++ 41 ∷ r)) ≡ 2 + gap_length (w ++ 41 ∷ r) = cond-false _ _ _ other ∙ cond-true _ _ _ joined in
    (cond-false _ _ _ other ∙ cond-true _ _ _ joined ∙ ap (λ n. 2 + n) rest.0 ∙ sym e, omega arith))
    (λ last.
    let e : gap_length (a ∷ d ∷ (w ++ 41 ∷ r)) ≡ 0 = cond-false _ _ _ other ∙ cond-false _ _ _ last in
    (cond-false _ _ _ other ∙ cond-false _ _ _ last ∙ sym e, omega arith)))

-- Comments

abbrev pub is_number_sign : ℕ → Bool
is_number_sign c = c == 35

no_parenthesis : (cs : List ℕ) → is_first is_number_sign cs ≡ true → is_first is_parenthesis cs ≡ false
unfolding is_first
no_parenthesis [] h = absurd (true≢false (sym h))
no_parenthesis (c ∷ cs) h = let is : c ≡ 35 = eqb-true c 35 h in ap is_parenthesis is

-- what follows a comment is a newline, or nothing
behind_comment : (cs : List ℕ) → is_first is_parenthesis (drop (comment_length cs) cs) ≡ false
unfolding is_first
behind_comment [] = refl
behind_comment (c ∷ cs) = by_bool (is_newline c)
    (λ line.
    let none : comment_length (c ∷ cs) ≡ 0 = run_no (λ d. not (is_newline d)) c cs (ap not line) in
    let is : c ≡ 10 = eqb-true c 10 line in
    ap (λ n. is_first is_parenthesis (drop n (c ∷ cs))) none ∙ ap is_parenthesis is)
    (λ other.
    let more : comment_length (c ∷ cs) ≡ suc (comment_length cs) = run_yes (λ d. not (is_newline d)) c cs (ap not other) in
    ap (λ n. is_first is_parenthesis (drop n (c ∷ cs))) more ∙ behind_comment cs)

-- whether a parenthesis follows blanks does not depend on comments
pub parenthesis_behind : (joins : Bool) (cs : List ℕ) → is_first is_parenthesis (drop (blank_length joins cs) cs) ≡ is_first is_parenthesis (drop (gap_length cs) cs)
unfolding blank_length
parenthesis_behind joins cs =
    let rest = drop (gap_length cs) cs in
    by_bool (is_comment joins rest)
    (λ comment.
    let whole : blank_length joins cs ≡ gap_length cs + comment_length rest = cond-true _ _ _ comment in
    ap (λ n. is_first is_parenthesis (drop n cs)) whole ∙ ap (is_first is_parenthesis) (sym (drop-drop (comment_length rest) (gap_length cs) cs)) ∙ behind_comment rest
    ∙ sym (no_parenthesis rest (and_parts _ _ comment).0))
    (λ other. ap (λ n. is_first is_parenthesis (drop n cs)) (cond-false _ _ _ other))

-- blanks up to a token before the closing parenthesis
pub blank_moves : (joins : Bool) (w r r' : List ℕ) → blank_length joins (w ++ 41 ∷ r) ≤ length w
    → is_first is_number_sign (drop (blank_length joins (w ++ 41 ∷ r)) (w ++ 41 ∷ r)) ≡ false → blank_length joins (w ++ 41 ∷ r') ≡ blank_length joins (w ++ 41 ∷ r)
unfolding blank_length
blank_moves joins w r r' within token =
    let gap = gap_moves w r r' in
    let k = gap_length (w ++ 41 ∷ r) in
    let v = drop k w in
    let left = length-drop k w in
    let there : drop k (w ++ 41 ∷ r) ≡ v ++ 41 ∷ r = drop-append-le k w (41 ∷ r) gap.1 in
    let here : drop (gap_length (w ++ 41 ∷ r')) (w ++ 41 ∷ r') ≡ v ++ 41 ∷ r' = ap (λ n. drop n (w ++ 41 ∷ r')) gap.0 ∙ drop-append-le k w (41 ∷ r') gap.1 in
    by_bool (is_comment joins (v ++ 41 ∷ r))
    (λ comment.
    let inside : is_comment joins (drop k (w ++ 41 ∷ r)) ≡ true = ap (is_comment joins) there ∙ comment in
    let whole : blank_length joins (w ++ 41 ∷ r) ≡ k + comment_length (drop k (w ++ 41 ∷ r)) = cond-true _ _ _ inside in
    let size : comment_length (drop k (w ++ 41 ∷ r)) ≡ comment_length (v ++ 41 ∷ r) = ap comment_length there in
    let shorter : comment_length (v ++ 41 ∷ r) < length v = run_before (λ d. not (is_newline d)) v 41 r refl (let z = gap.1 in omega arith) in
    let same = run_inside (λ d. not (is_newline d)) v (41 ∷ r) (41 ∷ r') shorter in
    let first : is_first is_number_sign (v ++ 41 ∷ r') ≡ true = first_same is_number_sign 0 v 41 r r' refl (omega arith) ∙ (and_parts _ _ comment).0 in
    let comment' : is_comment joins (v ++ 41 ∷ r') ≡ true = both joins v first shorter same (and_parts _ _ comment).1 in
    let inside' : is_comment joins (drop (gap_length (w ++ 41 ∷ r')) (w ++ 41 ∷ r')) ≡ true = ap (is_comment joins) here ∙ comment' in
    cond-true _ _ _ inside' ∙ ap (λ n. n + comment_length (drop (gap_length (w ++ 41 ∷ r')) (w ++ 41 ∷ r'))) gap.0 ∙ ap (λ n. k + n) (ap comment_length here ∙ same ∙ sym size) ∙ sym whole)
    (λ other.
    let outside : is_comment joins (drop k (w ++ 41 ∷ r)) ≡ false = ap (is_comment joins) there ∙ other in
    let whole : blank_length joins (w ++ 41 ∷ r) ≡ k = cond-false _ _ _ outside in
    let plain : is_first is_number_sign (v ++ 41 ∷ r) ≡ false = sym (ap (is_first is_number_sign) (ap (λ n. drop n (w ++ 41 ∷ r)) whole ∙ there)) ∙ token in
    let plain' : is_first is_number_sign (v ++ 41 ∷ r') ≡ false = first_same is_number_sign 0 v 41 r r' refl (omega arith) ∙ plain in
    let outside' : is_comment joins (drop (gap_length (w ++ 41 ∷ r')) (w ++ 41 ∷ r')) ≡ false = ap (is_comment joins) here ∙ ap (λ t. t && (not joins || line_length true (v ++ 41 ∷ r') == comment_length (v ++ 41 ∷ r'))) plain' in
    cond-false _ _ _ outside' ∙ gap.0 ∙ sym whole)
  where
    both : (j : Bool) (v : List ℕ) → is_first is_number_sign (v ++ 41 ∷ r') ≡ true → comment_length (v ++ 41 ∷ r) < length v → comment_length (v ++ 41 ∷ r') ≡ comment_length (v ++ 41 ∷ r)
        → (not j || line_length true (v ++ 41 ∷ r) == comment_length (v ++ 41 ∷ r)) ≡ true → is_comment j (v ++ 41 ∷ r') ≡ true
    both false v first shorter same line = ap (λ t. t && true) first
    both true v first shorter same line =
        let is : line_length true (v ++ 41 ∷ r) ≡ comment_length (v ++ 41 ∷ r) = eqb-true _ _ line in
        let moved = line_moves true v (41 ∷ r) (41 ∷ r') (omega arith) in
        ap (λ t. t && (line_length true (v ++ 41 ∷ r') == comment_length (v ++ 41 ∷ r'))) first ∙ ap (λ n. n == comment_length (v ++ 41 ∷ r')) moved
        ∙ ap (λ n. line_length true (v ++ 41 ∷ r) == n) same ∙ line
