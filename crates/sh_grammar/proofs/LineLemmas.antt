-- The lines of here-documents, piece by piece.
use Rattle.std.proofs.Common.{◌≡◌, ℕ, zero, suc, ◌+◌, ◌-◌, ◌<◌, ◌≤◌, Bool, true, false, not, ◌&&◌, cond, nat_eq, nat_lt, List, [], ◌∷◌, ◌++◌, length, take, drop, slice_range, Some, None, refl, sym, ap, subst, ◌∙◌, ⊎_elim, arith, length-drop}
use Rattle.std.specs.List.{starts_with}
use Rattle.std.proofs.lemmas.List.{drop-drop, length-take-le}
use Rattle.std.specs.Str.{bytes_eq}
use Rattle.std.proofs.lemmas.Bool.{and_parts, and_right, cases_Bool, cond-true, cond-false, eqb-true, true≢false}
use Rattle.std.proofs.lemmas.Bool.Decides.{nat_tests}
use Rattle.std.proofs.lemmas.List.Sums.{take_while-cons}
use Rattle.sh_tree.specs.standard.language.Bytes.{is_newline, is_tab, is_backslash, run}
use Rattle.sh_tree.specs.standard.language.HereDocuments.{Mark, line_text, line_end, end_line, end_line_within, behind_line, end_candidate}
use Rattle.sh_tree.specs.standard.language.Trees.{span}
use Rattle.sh_grammar.specs.Lines.{piece_step, piece_kept, strip_step, ends}

-- Pieces

-- a line is what its first piece keeps, and the line after it
record Pieces (joins : Bool) (cs : List ℕ) : Type 0 where
  is : line_text joins cs ≡ take (piece_kept joins cs) cs ++ line_text joins (drop (piece_step joins cs) cs)

pieces : (joins : Bool) (cs : List ℕ) → Pieces joins cs
unfolding line_text piece_step piece_kept
pieces joins [] = record { is = refl }
pieces joins (c ∷ []) = record { is = refl }
pieces joins (c ∷ d ∷ cs) = record { is = go (joins && is_backslash c) (is_newline d) }
  where
    go : (t u : Bool) → cond t (cond u (line_text joins cs) (c ∷ d ∷ line_text joins cs)) (c ∷ line_text joins (d ∷ cs))
        ≡ take (cond t (cond u 0 2) 1) (c ∷ d ∷ cs) ++ line_text joins (drop (cond t 2 1) (c ∷ d ∷ cs))
    go true true = refl
    go true false = refl
    go false u = refl

no_piece : (joins : Bool) (cs : List ℕ) → piece_step joins cs ≡ 0 → cs ≡ []
unfolding piece_step
no_piece joins [] h = refl
no_piece joins (c ∷ []) h = absurd (omega arith)
no_piece joins (c ∷ d ∷ cs) h = let some = go (joins && is_backslash c) in absurd (omega arith)
  where
    go : (t : Bool) → 0 < cond t 2 1
    go true = omega arith
    go false = omega arith

and_and : (a b c : Bool) → (a && (b && c)) ≡ ((a && b) && c)
and_and true b c = refl
and_and false b c = refl

-- a text that begins with a piece is another, if that begins with the piece and goes on as it does
eq_front : (front rest wanted : List ℕ) → bytes_eq (front ++ rest) wanted ≡ (starts_with nat_eq wanted front && bytes_eq rest (drop (length front) wanted))
eq_front [] rest wanted = refl
eq_front (c ∷ cs) rest [] = refl
eq_front (c ∷ cs) rest (w ∷ ws) = ap (λ t. nat_eq c w && t) (eq_front cs rest ws) ∙ and_and (nat_eq c w) (starts_with nat_eq ws cs) (bytes_eq rest (drop (length cs) ws))

-- a text that begins with another has its bytes
front_within : (front text : List ℕ) → starts_with nat_eq text front ≡ true → length front ≤ length text
front_within [] text h = omega arith
front_within (c ∷ cs) [] h = absurd (true≢false (sym h))
front_within (c ∷ cs) (d ∷ ds) h = let rest = front_within cs ds (and_parts (nat_eq c d) (starts_with nat_eq ds cs) h).1 in omega arith

-- the line from i on is the text from j on, if the line is the text
pub record TextLeft (joins : Bool) (line text : List ℕ) (i j : ℕ) : Type 0 where
  pub same : bytes_eq (line_text joins (drop i line)) (drop j text) ≡ bytes_eq (line_text joins line) text
  pub in_line : i ≤ length line
  pub in_text : j ≤ length text

module _ (joins : Bool) (line text : List ℕ) (i j : ℕ) (h : TextLeft joins line text i j) where
  abbrev rest : List ℕ
  rest = drop i line

  abbrev kept : ℕ
  kept = piece_kept joins rest

  split : bytes_eq (line_text joins rest) (drop j text)
      ≡ (starts_with nat_eq (drop j text) (take kept rest) && bytes_eq (line_text joins (drop (piece_step joins rest) rest)) (drop (length (take kept rest)) (drop j text)))
  split = ap (λ t. bytes_eq t (drop j text)) (pieces joins rest).is ∙ eq_front (take kept rest) (line_text joins (drop (piece_step joins rest) rest)) (drop j text)

  pub text_differs : starts_with nat_eq (drop j text) (take kept rest) ≡ false → false ≡ bytes_eq (line_text joins line) text
  text_differs other = sym (split ∙ ap (λ t. t && bytes_eq (line_text joins (drop (piece_step joins rest) rest)) (drop (length (take kept rest)) (drop j text))) other) ∙ h.same

  pub text_goes_on : starts_with nat_eq (drop j text) (take kept rest) ≡ true → kept ≤ length rest → i + piece_step joins rest ≤ length line
      → TextLeft joins line text (i + piece_step joins rest) (j + kept)
  text_goes_on starts within inside =
      let long : length (take kept rest) ≡ kept = length-take-le kept rest within in
      let room = front_within (take kept rest) (drop j text) starts in
      let behind = line_text joins (drop (piece_step joins rest) rest) in
      let in_text = h.in_text in
      record {
        same =
            ap (λ cs. bytes_eq (line_text joins cs) (drop (j + kept) text)) (sym (drop-drop (piece_step joins rest) i line))
            ∙ ap (λ cs. bytes_eq behind cs) (sym (drop-drop kept j text)) ∙ ap (λ k. bytes_eq behind (drop k (drop j text))) (sym long)
            ∙ sym (split ∙ ap (λ t. t && bytes_eq behind (drop (length (take kept rest)) (drop j text))) starts) ∙ h.same;
        in_line = inside;
        in_text = omega (arith, length-drop j text);
      }

  pub text_on : (taken kept' : ℕ) → taken ≡ piece_step joins rest → kept' ≡ kept → starts_with nat_eq (drop j text) (take kept' rest) ≡ true → kept' ≤ length rest
      → i + taken ≤ length line → TextLeft joins line text (i + taken) (j + kept')
  text_on taken kept' t k starts within inside = rw (t, k) (text_goes_on (subst (λ n. starts_with nat_eq (drop j text) (take n rest) ≡ true) k starts)
      (subst (λ n. n ≤ length rest) k within) (subst (λ n. i + n ≤ length line) t inside))

  pub text_ends : piece_step joins rest ≡ 0 → bytes_eq [] (drop j text) ≡ bytes_eq (line_text joins line) text
  unfolding line_text
  text_ends none = ap (λ cs. bytes_eq (line_text joins cs) (drop j text)) (sym (no_piece joins rest none)) ∙ h.same

-- nothing is left of a text where its end is reached
pub ends_text : (text : List ℕ) (j : ℕ) → j ≤ length text → nat_eq j (length text) ≡ bytes_eq [] (drop j text)
ends_text text j inside = go (drop j text) (length-drop j text)
  where
    go : (rest : List ℕ) → length rest ≡ length text - j → nat_eq j (length text) ≡ bytes_eq [] rest
    go [] h = grind (arith, nat_tests)
    go (c ∷ cs) h = grind (arith, nat_tests)

-- Tabs at the front

abbrev pub untabbed : Bool → List ℕ → List ℕ
untabbed joins cs = drop (run is_tab (line_text joins cs)) (line_text joins cs)

tab_first : (c : ℕ) (t : List ℕ) → is_tab c ≡ true → drop (run is_tab (c ∷ t)) (c ∷ t) ≡ drop (run is_tab t) t
tab_first c t h = ap (λ n. drop n (c ∷ t)) (ap length (take_while-cons is_tab c t ∙ cond-true _ _ _ h))

none_first : (c : ℕ) (t : List ℕ) → is_tab c ≡ false → drop (run is_tab (c ∷ t)) (c ∷ t) ≡ c ∷ t
none_first c t h = ap (λ n. drop n (c ∷ t)) (ap length (take_while-cons is_tab c t ∙ cond-false _ _ _ h))

-- a tab or a line continuation at the front is passed, or there is none
record Strips (joins : Bool) (cs : List ℕ) : Type 0 where
  more : 0 < strip_step joins cs → untabbed joins cs ≡ untabbed joins (drop (strip_step joins cs) cs)
  none : strip_step joins cs ≡ 0 → untabbed joins cs ≡ line_text joins cs

passes : (joins : Bool) (cs : List ℕ) (n : ℕ) → strip_step joins cs ≡ suc n → untabbed joins cs ≡ untabbed joins (drop (suc n) cs) → Strips joins cs
passes joins cs n e h = record { more = λ some. h ∙ ap (λ k. untabbed joins (drop k cs)) (sym e); none = λ z. absurd (omega arith) }

stays : (joins : Bool) (cs : List ℕ) → strip_step joins cs ≡ 0 → untabbed joins cs ≡ line_text joins cs → Strips joins cs
stays joins cs e h = record { more = λ some. absurd (omega arith); none = λ z. h }

tab_is : (c : ℕ) → is_tab c ≡ true → is_backslash c ≡ false
tab_is c h = subst (λ v. is_backslash v ≡ false) (sym (eqb-true c 9 h)) refl

strips : (joins : Bool) (cs : List ℕ) → Strips joins cs
unfolding strip_step line_text
strips joins [] = stays joins [] refl refl
strips joins (c ∷ []) = ⊎_elim
    (λ tab. passes joins (c ∷ []) 0 (cond-true _ _ _ tab) (tab_first c [] tab))
    (λ other. stays joins (c ∷ []) (cond-false _ _ _ other) (none_first c [] other))
    (cases_Bool (is_tab c))
strips joins (c ∷ d ∷ cs) = ⊎_elim
    (λ tab.
    let line : line_text joins (c ∷ d ∷ cs) ≡ c ∷ line_text joins (d ∷ cs) = cond-false _ _ _ (and_right joins (is_backslash c) (tab_is c tab)) in
    passes joins (c ∷ d ∷ cs) 0 (cond-true _ _ _ tab) (ap (λ t. drop (run is_tab t) t) line ∙ tab_first c (line_text joins (d ∷ cs)) tab))
    (λ other. go other (joins && is_backslash c) (is_newline d) refl refl)
    (cases_Bool (is_tab c))
  where
    go : is_tab c ≡ false → (t u : Bool) → (joins && is_backslash c) ≡ t → is_newline d ≡ u → Strips joins (c ∷ d ∷ cs)
    go other true true e f =
        let line : line_text joins (c ∷ d ∷ cs) ≡ line_text joins cs = cond-true _ _ _ e ∙ cond-true _ _ _ f in
        passes joins (c ∷ d ∷ cs) 1 (cond-false _ _ _ other ∙ ap (λ v. cond (v && is_newline d) 2 0) e ∙ ap (λ v. cond v 2 0) f) (ap (λ t. drop (run is_tab t) t) line)
    go other true false e f =
        let line : line_text joins (c ∷ d ∷ cs) ≡ c ∷ d ∷ line_text joins cs = cond-true _ _ _ e ∙ cond-false _ _ _ f in
        stays joins (c ∷ d ∷ cs) (cond-false _ _ _ other ∙ ap (λ v. cond (v && is_newline d) 2 0) e ∙ ap (λ v. cond v 2 0) f)
        (ap (λ t. drop (run is_tab t) t) line ∙ none_first c (d ∷ line_text joins cs) other ∙ sym line)
    go other false u e f =
        let line : line_text joins (c ∷ d ∷ cs) ≡ c ∷ line_text joins (d ∷ cs) = cond-false _ _ _ e in
        stays joins (c ∷ d ∷ cs) (cond-false _ _ _ other ∙ ap (λ v. cond (v && is_newline d) 2 0) e)
        (ap (λ t. drop (run is_tab t) t) line ∙ none_first c (line_text joins (d ∷ cs)) other ∙ sym line)

-- what is from i on without its tabs is the line without its tabs
pub record TabsLeft (joins : Bool) (line : List ℕ) (i : ℕ) : Type 0 where
  pub same : untabbed joins (drop i line) ≡ untabbed joins line
  pub within : i ≤ length line

pub strip_goes_on : (joins : Bool) (line : List ℕ) (i : ℕ) → TabsLeft joins line i → 0 < strip_step joins (drop i line) → i + strip_step joins (drop i line) ≤ length line
    → TabsLeft joins line (i + strip_step joins (drop i line))
strip_goes_on joins line i h some within = record {
  same = ap (λ cs. untabbed joins cs) (sym (drop-drop (strip_step joins (drop i line)) i line)) ∙ sym ((strips joins (drop i line)).more some) ∙ h.same;
  within = within;
}

pub strip_on : (joins : Bool) (line : List ℕ) (i step : ℕ) → TabsLeft joins line i → step ≡ strip_step joins (drop i line) → 0 < step → i + step ≤ length line
    → TabsLeft joins line (i + step)
strip_on joins line i step h is some within =
    rw is (strip_goes_on joins line i h (subst (λ n. 0 < n) is some) (subst (λ n. i + n ≤ length line) is within))

pub strip_ends : (joins : Bool) (line : List ℕ) (i : ℕ) → TabsLeft joins line i → strip_step joins (drop i line) ≡ 0 → line_text joins (drop i line) ≡ untabbed joins line
strip_ends joins line i h none = sym ((strips joins (drop i line)).none none) ∙ h.same

-- The end line

-- the end line is looked for from `at` on
pub record Looks (m : Mark) (b : List ℕ) (first at : ℕ) : Type 0 where
  pub lines : ℕ
  pub enough : length b ≤ lines + at
  pub same : end_line_within lines m b at ≡ end_line m b first
  pub from : first ≤ at
  pub within : at ≤ length b

pub looks_first : (m : Mark) (b : List ℕ) (first : ℕ) → first ≤ length b → Looks m b first first
unfolding end_line
looks_first m b first within = record { lines = length b; enough = omega arith; same = refl; from = omega arith; within = within }

module _ (m : Mark) (b : List ℕ) (first at : ℕ) (h : Looks m b first at) where
  pub end_none : length b ≤ at → None ≡ end_line m b first
  unfolding end_line_within
  end_none over = go h.lines h.same
    where
      go : (n : ℕ) → end_line_within n m b at ≡ end_line m b first → None ≡ end_line m b first
      go zero e = e
      go (suc n) e =
          let out : nat_lt at (length b) ≡ false = grind (arith, nat_tests) in
          sym (cond-true _ _ _ (ap not out)) ∙ e

  module _ (below : at < length b) (end : ℕ) (is : end ≡ line_end (not m.quoted) b at) where
    inside : nat_lt at (length b) ≡ true
    inside = grind (arith, nat_tests)

    pub end_found : ends m (slice_range b at end) ≡ true → Some (span at end) ≡ end_line m b first
    unfolding end_line_within end_candidate
    end_found found = go h.lines h.enough h.same
      where
        go : (n : ℕ) → length b ≤ n + at → end_line_within n m b at ≡ end_line m b first → Some (span at end) ≡ end_line m b first
        go zero enough e = absurd (omega arith)
        go (suc n) enough e =
            let this : ends m (slice_range b at (line_end (not m.quoted) b at)) ≡ true = subst (λ v. ends m (slice_range b at v) ≡ true) is found in
            ap (λ v. Some (span at v)) is ∙ sym (cond-false _ _ _ (ap not inside) ∙ cond-true _ _ _ this) ∙ e

    pub end_goes_on : ends m (slice_range b at end) ≡ false → at ≤ end → end ≤ length b → Looks m b first (behind_line b end)
    unfolding end_line_within end_candidate
    end_goes_on other after within = go h.lines h.enough h.same
      where
        further : at < behind_line b end
        further = grind (arith, nat_tests)

        stays_in : behind_line b end ≤ length b
        stays_in = grind (arith, nat_tests)

        go : (n : ℕ) → length b ≤ n + at → end_line_within n m b at ≡ end_line m b first → Looks m b first (behind_line b end)
        go zero enough e = absurd (omega arith)
        go (suc n) enough e =
            let this : ends m (slice_range b at (line_end (not m.quoted) b at)) ≡ false = subst (λ v. ends m (slice_range b at v) ≡ false) is other in
            let from = h.from in
            let more = further in
            record {
              lines = n;
              enough = omega arith;
              same = ap (λ v. end_line_within n m b (behind_line b v)) is ∙ sym (cond-false _ _ _ (ap not inside) ∙ cond-false _ _ _ this) ∙ e;
              from = omega arith;
              within = stays_in;
            }
