-- Here-documents among the commands of a copy are read there.
-- POSIX.1-2024, XCU 2.7.4 (here-document).
use Rattle.std.proofs.Common.{◌≡◌, ℕ, ◌+◌, ◌-◌, ◌<◌, ◌≤◌, ◌==◌, Bool, true, false, not, ◌&&◌, ◌||◌, if◌then◌else◌, List, [], ◌∷◌, ◌++◌, length, map, drop, take, nat_lt, Some, inl, refl, sym, ap, ◌∙◌, subst, arith, append_assoc, length-drop, length-take, length-append, ⊎_elim}
use Rattle.std.specs.List.{list_all}
use Rattle.std.proofs.lemmas.Bool.{cond-true, true≢false, cases_lt, lt-ltb, le-ltb}
use Rattle.std.proofs.lemmas.Bool.Decides.{nat_tests}
use Rattle.std.proofs.lemmas.List.{drop-drop, drop-append-le, take-append-drop, length-take-le, drop-take, take-take, append-nil}
use Rattle.sh_tree.specs.declared.tree.Part.{Part}
use Rattle.sh_tree.specs.declared.tree.Span.{Span}
use Rattle.sh_tree.specs.declared.token.word.Site.TheVariants as site
use Rattle.sh_tree.specs.standard.Tree.{text_of}
use Rattle.sh_tree.specs.standard.language.Bytes.{is_first, is_tab}
use Rattle.sh_tree.specs.standard.language.Contexts.{in_document_of}
use Rattle.sh_tree.specs.standard.language.HereDocuments.{Mark, begins_late, end_line, behind_line, is_ambiguous, keeps_document, is_split_text, has_tabbed_line, has_joined}
use Rattle.sh_tree.specs.standard.language.Parts.{keeps_lines, singles}
use Rattle.sh_tree.specs.standard.language.Reading.{ReadsParts}
use Rattle.sh_tree.specs.standard.language.States.{Spot}
use Rattle.sh_tree.specs.standard.language.Trees.{span}
use Rattle.sh_tree.specs.standard.language.Words.{is_quoted, stop_length}
use Rattle.sh_reads.proofs.MoveLemmas.{line_behind}
use Rattle.sh_copies.proofs.AlikeBytes.{some_alike}
use Rattle.sh_copies.proofs.CommandsTokens.{Ahead, text_same}
use Rattle.sh_copies.proofs.Copies.{Copied, Place, turned, limit_of, PartsMove}
use Rattle.sh_copies.proofs.Fronts.{whole}
use Rattle.sh_copies.proofs.Inside.{Inside, more_spans, parts_inside}
use Rattle.sh_copies.proofs.Lines.{size, found_is, end_line_again, line_moves}
use Rattle.sh_copies.proofs.WordsFound.{list_of_texts}
use Rattle.sh_copies.proofs.Places.{left, as_far}

-- End lines

past_is : (b : List ℕ) (j : ℕ) → nat_lt j (length b) ≡ not (length (drop j b) == 0)
past_is b j =
    let long = length-drop j b in
    ⊎_elim (λ l. lt-ltb j (length b) l ∙ sym (some (length (drop j b)) (omega arith))) (λ l. le-ltb j (length b) l ∙ sym (none (length (drop j b)) (omega arith))) (cases_lt j (length b))
  where
    some : (n : ℕ) → 0 < n → not (n == 0) ≡ true
    some n h = grind (arith, nat_tests)

    none : (n : ℕ) → n ≡ 0 → not (n == 0) ≡ false
    none n h = grind (arith, nat_tests)

module _ {b b' : List ℕ} (c : Copied b b') (ahead : Ahead c) where
  test_same : {j j' : ℕ} → Place c j j' → j ≤ limit_of c → nat_lt j' (length b') ≡ nat_lt j (length b)
  test_same {j} {j'} p h =
      past_is b' j'
      ∙ ap not (text_same c ahead (λ cs. length cs == 0) (λ w r r'. let some = some_alike _ _ (whole w 41 r r' refl) in some.1 ∙ sym some.0) p h)
      ∙ sym (past_is b j)

  behind_same : {j j' : ℕ} → Place c j j' → j ≤ limit_of c → Place c (behind_line b j) (behind_line b' j')
  behind_same {j} {j'} p h =
      subst (λ t. Place c (behind_line b j) (if t then j' + 1 else j')) (sym (test_same p h)) (either (nat_lt j (length b)))
    where
      either : (t : Bool) → Place c (if t then j + 1 else j) (if t then j' + 1 else j')
      either true = as_far c 1 p refl refl
      either false = p

  -- the same line ends the body
  pub record SameEnd (m : Mark) (i' : ℕ) (l : Span) : Type 0 where
    pub to : Span
    pub is : end_line m b' i' ≡ Some to
    pub start : Place c l.start to.start
    pub end : Place c l.end to.end
    pub behind : Place c (behind_line b l.end) (behind_line b' to.end)

  pub end_same : (m : Mark) {i i' : ℕ} {l : Span} → Place c i i' → end_line m b i ≡ Some l → behind_line b l.end ≤ limit_of c → SameEnd m i' l
  unfolding end_line
  end_same m {i} {i'} {l} p h within =
      let found = found_is m (length b) b i l h in
      let from = found.from in
      let inside = found.inside in
      let long = found.long in
      let behind = line_behind b l.end in
      let f = left c p (omega arith) in
      let room = f.long in
      let k = l.start - i in
      let e = l.end - l.start in
      let w = drop k f.w in
      let v = take k f.w in
      let x = take e w in
      let d = drop e w in
      let shorter = length-drop k f.w in
      let v_long : length v ≡ k = length-take-le k f.w (omega arith) in
      let x_long : length x ≡ e = length-take-le e w (omega arith) in
      let parts : (z : List ℕ) → x ++ (d ++ z) ≡ w ++ z = λ z. sym (append_assoc x d z) ∙ ap (λ y. y ++ z) (take-append-drop e w) in
      let text : (z : List ℕ) → f.w ++ z ≡ v ++ (x ++ (d ++ z)) = λ z. ap (λ y. y ++ z) (sym (take-append-drop k f.w)) ∙ append_assoc v w z ∙ ap (λ y. v ++ y) (sym (parts z)) in
      let start_is : l.start ≡ i + k = omega arith in
      let line : drop l.start b ≡ w ++ c.rest = ap (λ n. drop n b) start_is ∙ sym (drop-drop k i b) ∙ ap (drop k) f.there ∙ drop-append-le k f.w c.rest (omega arith) in
      let size_is : size m (w ++ c.rest) ≡ e = ap (size m) (sym line) ∙ (let y : size m (drop l.start b) ≡ e = omega arith in y) in
      let line_long : length (drop l.start b) ≡ length (w ++ c.rest) = ap length line in
      let left_long = length-drop l.start b in
      let whole_long = length-append w c.rest in
      let whole_long' = length-append w c.rest' in
      let size_same : size m (w ++ c.rest') ≡ e =
      ⊎_elim
      (λ same. ap (λ y. size m (w ++ y)) same ∙ size_is)
      (λ closing.
      let rest_long : length c.rest ≡ length (41 ∷ closing.r) = ap length closing.there in
      let ends : e < length w =
      ⊎_elim (λ y. y)
      (λ y.
      let next : behind_line b l.end ≡ l.end + 1 = cond-true _ _ _ (lt-ltb l.end (length b) (omega arith)) in
      absurd (omega arith))
      (cases_lt e (length w)) in
      line_moves (not m.quoted) w c.rest c.rest' (omega arith) ∙ size_is)
      ahead in
      let some : 0 < length (w ++ c.rest') =
      ⊎_elim
      (λ same. let y : length c.rest' ≡ length c.rest = ap length same in omega arith)
      (λ closing. let y : length c.rest' ≡ length (41 ∷ closing.r') = ap length closing.here in omega arith)
      ahead in
      let again = end_line_again m b b' i i' v x (d ++ c.rest) (d ++ c.rest') l h (omega arith) (omega arith) (f.there ∙ text c.rest) (f.here ∙ text c.rest')
      (ap (size m) (parts c.rest') ∙ size_same ∙ sym x_long) (subst (λ y. 0 < length y) (sym (parts c.rest')) some) in
      let end = as_far c (k + e) p (omega arith) (omega arith) in
      record {
        to = span (i' + length v) (i' + length v + length x);
        is = again;
        start = as_far c k p (omega arith) (omega arith);
        end = end;
        behind = behind_same end (omega arith);
      }

-- Lines that are kept

pub ambiguity_same : (m : Mark) (b b' : List ℕ) (i i' : ℕ) (l l' : Span) → text_of b' (span i' l'.start) ≡ text_of b (span i l.start) → text_of b' l' ≡ text_of b l
    → is_ambiguous m b' i' l' ≡ is_ambiguous m b i l
ambiguity_same m b b' i i' l l' e f =
    ap (λ t. (m.strip && not m.quoted && has_joined (is_first is_tab) t) || (not m.quoted && begins_late (text_of b' l') && is_split_text (text_of b' l'))) e
    ∙ ap (λ t. (m.strip && not m.quoted && has_joined (is_first is_tab) (text_of b (span i l.start))) || (not m.quoted && begins_late t && is_split_text t)) f

pub document_same : (b b' : List ℕ) (joins joins' tabs tabs' : Bool) (m : Mark) (l l' : Span) → joins' ≡ joins → tabs' ≡ tabs → text_of b' l' ≡ text_of b l
    → keeps_document b' joins' tabs' m l' ≡ keeps_document b joins tabs m l
unfolding keeps_document
document_same b b' joins joins' tabs tabs' m l l' e f g =
    ap (λ t. (not (t && m.quoted) || not (is_split_text (text_of b' l'))) && (not tabs' || m.strip || not (has_tabbed_line true (text_of b' l')))) e
    ∙ ap (λ t. (not (joins && m.quoted) || not (is_split_text (text_of b' l'))) && (not t || m.strip || not (has_tabbed_line true (text_of b' l')))) f
    ∙ ap (λ t. (not (joins && m.quoted) || not (is_split_text t)) && (not tabs || m.strip || not (has_tabbed_line true t))) g

-- a span in the front of a text
cut_text : (b : List ℕ) (n : ℕ) (z : Span) → z.end ≤ n → text_of (take n b) z ≡ text_of b z
cut_text b n z h = ⊎_elim
    (λ l.
    let none : z.end - z.start ≡ 0 = omega arith in
    ap (λ k. take k (drop z.start (take n b))) none ∙ sym (ap (λ k. take k (drop z.start b)) none))
    (λ l.
    let m = n - z.start in
    let same : n ≡ z.start + m = omega arith in
    ap (λ k. take (z.end - z.start) (drop z.start (take k b))) same ∙ ap (take (z.end - z.start)) (drop-take z.start m b) ∙ take-take (z.end - z.start) m (drop z.start b) (omega arith))
    (cases_lt z.end z.start)

cut_texts : (b : List ℕ) (n : ℕ) (ss : List Span) → Inside (length (take n b)) ss → map (text_of (take n b)) ss ≡ map (text_of b) ss
cut_texts b n [] h = refl
cut_texts b n (z ∷ ss) (more_spans l h) =
    let long = length-take n b in
    ap (λ t. t ∷ map (text_of (take n b)) ss) (cut_text b n z (omega arith)) ∙ ap (λ ts. text_of b z ∷ ts) (cut_texts b n ss h)

-- single quotes in bodies that are read in fronts of the texts
pub keeps_same : (b b' : List ℕ) (joins : Bool) (n n' : ℕ) (ps ps' : List Part) → Inside (length (take n b)) (singles ps) → Inside (length (take n' b')) (singles ps')
    → map (text_of (take n' b')) (singles ps') ≡ map (text_of (take n b)) (singles ps) → keeps_lines b' joins ps' ≡ keeps_lines b joins ps
unfolding keeps_lines
keeps_same b b' joins n n' ps ps' h h' e =
    ap (λ t. not joins || t)
    (list_of_texts b' (singles ps')
    ∙ ap (list_all (λ t. not (is_split_text t))) (sym (cut_texts b' n' (singles ps') h') ∙ e ∙ cut_texts b n (singles ps) h)
    ∙ sym (list_of_texts b (singles ps)))

pub quoted_body : (m : Mark) → is_quoted (in_document_of m).site ≡ true
unfolding in_document_of
quoted_body m = go m.quoted
  where
    go : (t : Bool) → is_quoted (if t then site.Verbatim else site.Body) ≡ true
    go true = refl
    go false = refl

body_stops : (m : Mark) → stop_length (in_document_of m).site ≡ 0
unfolding in_document_of
body_stops m = go m.quoted
  where
    go : (t : Bool) → stop_length (if t then site.Verbatim else site.Body) ≡ 0
    go true = refl
    go false = refl

turned_body : (m : Mark) → turned 0 (in_document_of m) ≡ in_document_of m
unfolding in_document_of
turned_body m = refl

-- the text that a body is read in, whose end is the body
abbrev pub body_copy : (b b' v : List ℕ) (i i' k k' n n' : ℕ) → k ≡ i + length v → k' ≡ i' + length v → take (length v) (drop i b) ≡ v → take (length v) (drop i' b') ≡ v → Copied (take k b) (take k' b')
body_copy b b' v i i' k k' n n' e e' h h' = record {
  from = i;
  into = i';
  w = v;
  rest = [];
  rest' = [];
  there = ap (λ n. drop i (take n b)) e ∙ drop-take i (length v) b ∙ h ∙ sym (append-nil v);
  here = ap (λ n. drop i' (take n b')) e' ∙ drop-take i' (length v) b' ∙ h' ∙ sym (append-nil v);
  edge = inl refl;
  began = n;
  began' = n';
}

-- a body that is read in a front of the text, at its copy
pub record FoundBody (limit : ℕ) (b' : List ℕ) (m : Mark) (s s' v : Spot) (k' : ℕ) : Type 0 where
  pub u : Spot
  pub parts : List Part
  pub reads : ReadsParts limit (take k' b') (in_document_of m) 10 s' u parts
  pub keeps : keeps_lines b' (not m.quoted) parts ≡ true
  pub counts : u.count + s.count ≡ v.count + s'.count

pub body_moves : {limit n : ℕ} → PartsMove limit n → (b b' v : List ℕ) (m : Mark) (s s' u : Spot) (k k' : ℕ) (ps : List Part) → k ≡ s.at + length v → k' ≡ s'.at + length v
    → take (length v) (drop s.at b) ≡ v → take (length v) (drop s'.at b') ≡ v → s'.depth ≡ s.depth → s'.joins ≡ s.joins → s'.tabs ≡ s.tabs → (s'.quiet ≡ true → s.quiet ≡ true)
    → k ≤ length b → k' ≤ length b' → k < s.at + n → ReadsParts limit (take k b) (in_document_of m) 10 s u ps → keeps_lines b (not m.quoted) ps ≡ true → FoundBody limit b' m s s' u k'
body_moves {limit} {n} parts b b' v m s s' u k k' ps e e' h h' depth joins tabs quiet inside inside' short reads keeps =
    let copy = body_copy b b' v s.at s'.at k k' s.count s'.count e e' h h' in
    let long = length-take k b in
    let long' = length-take k' b' in
    let within = parts_inside reads (omega arith) in
    let last = within.0 in
    let stops = body_stops m in
    let place : Place copy s.at s'.at = record { by = 0; at = omega arith; at' = omega arith } in
    let found = parts.parts copy (record { place = place; depth = depth; joins = joins; tabs = tabs; quiet = quiet; counts = omega arith }) (λ no. absurd (true≢false (sym (quoted_body m) ∙ no))) reads (omega arith) (omega arith) in
    let reads' : ReadsParts limit (take k' b') (in_document_of m) 10 s' found.to found.tree = subst (λ x. ReadsParts limit (take k' b') x 10 s' found.to found.tree) (turned_body m) found.reads in
    record {
      u = found.to;
      parts = found.tree;
      reads = reads';
      keeps = keeps_same b b' (not m.quoted) k k' ps found.tree within.1 (parts_inside reads' (omega arith)).1 found.keeps.lines ∙ keeps;
      counts = found.moved.counts;
    }
