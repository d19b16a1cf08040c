-- A whole word of the text is one wherever its bytes are before what may follow a word.
-- POSIX.1-2024, XCU 2.2 (quoting), 2.3 (token recognition), 2.6 (word expansions).
use Rattle.std.proofs.Common.{◌≡◌, ℕ, ◌+◌, ◌-◌, ◌≤◌, ◌==◌, Bool, true, false, not, ◌&&◌, nat_le, List, [], ◌∷◌, ◌++◌, length, drop, take, ◌⊎◌, inl, inr, refl, sym, ap, subst, ◌∙◌, ⊎_elim, arith, length-drop, length-take, take-append-drop}
use Rattle.std.proofs.Math.Bool.{and-false}
use Rattle.std.proofs.lemmas.Bool.{cond-true, cond-false}
use Rattle.std.proofs.lemmas.Bool.Decides.{nat_tests}
use Rattle.std.proofs.lemmas.List.{drop-drop, drop-append-le, append-nil}
use Rattle.std.proofs.Math.Seq.{drop-append_seam}
use Rattle.sh_tree.specs.declared.tree.Part.{Part}
use Rattle.sh_tree.specs.declared.tree.Word.{Word}
use Rattle.sh_tree.specs.declared.token.command.Stage.TheVariants as stage
use Rattle.sh_tree.specs.standard.Tree.{text_of}
use Rattle.sh_tree.specs.standard.language.Bytes.{is_first, is_name_start, is_name_byte, name_length, behind_joined}
use Rattle.sh_tree.specs.standard.language.Commands.{is_assignment, is_location, is_angle, name_end}
use Rattle.sh_tree.specs.standard.language.Contexts.{in_word, in_value, in_operand, in_stage}
use Rattle.sh_tree.specs.standard.language.Parts.{keeps_lines, is_quoted_word}
use Rattle.sh_tree.specs.standard.language.Reading as reads
use Rattle.sh_tree.specs.standard.language.Reading.{ReadsParts, ReadsWord}
use Rattle.sh_tree.specs.standard.language.States.{Spot}
use Rattle.sh_tree.specs.standard.language.Trees as tree
use Rattle.sh_tree.specs.standard.language.Trees.{span}
use Rattle.sh_tree.specs.standard.language.Words as words
use Rattle.sh_copies.specs.Copied.{Role, Field, Unsplit, Value, context_of, form_of, counted, IsBehindWord, IsWordSpot, WordOf}
use Rattle.sh_copies.proofs.AlikeBytes.{by_bool}
use Rattle.sh_copies.proofs.Arithmetic.{expressions_move}
use Rattle.sh_copies.proofs.Boundary.{breaks, is_edge, edge_first, edge_none, break_first, break_joined, outer, run_outer}
use Rattle.sh_copies.proofs.BoundarySigns.{edge_name}
use Rattle.sh_copies.proofs.CommandsScripts.{scripts_move}
use Rattle.sh_copies.proofs.Forward.{parts_forward}
use Rattle.sh_copies.proofs.Inside.{parts_inside}
use Rattle.sh_copies.proofs.Readings.{all_move}
use Rattle.sh_copies.proofs.WordsMove.{equal_far}
use Rattle.sh_copies.proofs.WordsOuter.{outer_parts}
use Rattle.sh_copies.proofs.WordsWhole.{parts_keep, parts_edge, parts_end}

-- Contexts

edge_start : (c : ℕ) → is_edge c ≡ true → is_name_start c ≡ false
edge_start c h = grind (arith, nat_tests, h)

edge_equals : (c : ℕ) → is_edge c ≡ true → (c == 61) ≡ false
edge_equals c h = grind (arith, nat_tests, h)

first_front : (p : ℕ → Bool) (v r : List ℕ) → is_first p r ≡ false → is_first p (v ++ r) ≡ is_first p v
unfolding is_first
first_front p [] r h = h
first_front p (c ∷ v) r h = refl

-- the name and the `=` with which a word begins, whatever follows it
name_front : (v r : List ℕ) → is_first (λ c. not (is_edge c)) r ≡ false → (name_length (v ++ r) ≡ name_length v) × (name_length v ≤ length v)
unfolding name_length
name_front v r h =
    let size = run_outer 0 false false false is_name_byte v r (edge_none is_name_byte edge_name r h) in
    let first = first_front is_name_start v r (edge_none is_name_start edge_start r h) in
    let within = size.1 in
    (rw (first, size.0) refl, by_bool (is_first is_name_start v) (λ yes. rw yes within) (λ other. rw other (omega arith)))

assignment_front : (v r : List ℕ) → is_first (λ c. not (is_edge c)) r ≡ false → is_assignment (v ++ r) ≡ is_assignment v
unfolding is_assignment
assignment_front v r h =
    let name = name_front v r h in
    let behind = drop-append-le (name_length v) v r name.1 in
    let equals = first_front (λ c. c == 61) (drop (name_length v) v) r (edge_none (λ c. c == 61) edge_equals r h) in
    ap (λ n. not (n == 0) && is_first (λ c. c == 61) (drop n (v ++ r))) name.0 ∙ ap (λ t. not (name_length v == 0) && t) (ap (is_first (λ c. c == 61)) behind ∙ equals)

-- the context of a word that begins at i in b and at i' in b'
record Contexts (role : Role) (b b' : List ℕ) (i i' : ℕ) : Type 0 where
  far : ℕ
  colons : Bool
  fields : Bool
  there : context_of role b i ≡ outer (i + far) colons fields true
  here : context_of role b' i' ≡ outer (i' + far) colons fields true

no_further : (i : ℕ) → i ≡ i + 0
no_further i = omega arith

same_contexts : (role : Role) (b b' v r r' : List ℕ) (i i' : ℕ) → drop i b ≡ v ++ r → drop i' b' ≡ v ++ r' → is_first (λ c. not (is_edge c)) r ≡ false → is_first (λ c. not (is_edge c)) r' ≡ false
    → Contexts role b b' i i'
unfolding context_of in_stage in_operand name_end
same_contexts Unsplit b b' v r r' i i' there here h k = record { far = 0; colons = false; fields = false; there = ap (λ o. outer o false false true) (no_further i); here = ap (λ o. outer o false false true) (no_further i') }
same_contexts Value b b' v r r' i i' there here h k = record { far = 0; colons = true; fields = false; there = ap (λ o. outer o true false true) (no_further i); here = ap (λ o. outer o true false true) (no_further i') }
same_contexts (Field (stage.Named true)) b b' v r r' i i' there here h k = by_bool (is_assignment v)
    (λ yes.
    let n = name_length v in
    record {
      far = n + 1;
      colons = true;
      fields = false;
      there = cond-true _ _ _ (ap is_assignment there ∙ assignment_front v r h ∙ yes) ∙ ap (λ m. in_value (i + m + 1)) (ap name_length there ∙ (name_front v r h).0) ∙ ap in_value (far i n);
      here = cond-true _ _ _ (ap is_assignment here ∙ assignment_front v r' k ∙ yes) ∙ ap (λ m. in_value (i' + m + 1)) (ap name_length here ∙ (name_front v r' k).0) ∙ ap in_value (far i' n);
    })
    (λ other.
    record {
      far = 0;
      colons = false;
      fields = true;
      there = cond-false _ _ _ (ap is_assignment there ∙ assignment_front v r h ∙ other) ∙ ap in_word (no_further i);
      here = cond-false _ _ _ (ap is_assignment here ∙ assignment_front v r' k ∙ other) ∙ ap in_word (no_further i');
    })
  where
    far : (i n : ℕ) → i + n + 1 ≡ i + (n + 1)
    far i n = omega arith
same_contexts (Field g) b b' v r r' i i' there here h k = record { far = 0; colons = false; fields = true; there = ap in_word (no_further i); here = ap in_word (no_further i') }

-- Words

nothing : is_first (λ c. not (is_edge c)) [] ≡ false
unfolding is_first
nothing = refl

break_angle : (rest : List ℕ) → is_first breaks rest ≡ true → is_angle rest ≡ false
unfolding is_first
break_angle [] h = refl
break_angle (c ∷ rest) h = grind (arith, nat_tests, h)

-- no IO location ends before a blank, a newline or `)`
no_location : (b : List ℕ) (i j : ℕ) (rest : List ℕ) → drop j b ≡ rest → is_first breaks rest ≡ true → is_location b i j ≡ false
unfolding is_location
no_location b i j rest e h = ap (λ t. nat_le (i + 3) j && is_first (λ c. c == 123) (drop i b) && is_first (λ c. c == 125) (drop (j - 1) b) && t) none ∙ and-false (nat_le (i + 3) j && is_first (λ c. c == 123) (drop i b) && is_first (λ c. c == 125) (drop (j - 1) b))
  where
    none : is_angle (behind_joined (drop j b)) ≡ false
    none = ap (λ t. is_angle (behind_joined t)) e ∙ ap (λ n. is_angle (drop n rest)) (break_joined rest h) ∙ break_angle rest h

-- the bytes of the word, and what follows it
word_text : (b : List ℕ) (s u : ℕ) → s ≤ u → (u ≤ length b) ⊎ (u ≡ s) → (s + length (text_of b (span s u)) ≡ u) × (drop s b ≡ text_of b (span s u) ++ drop u b)
word_text b s u f h =
    let size : length (take (u - s) (drop s b)) ≡ u - s = (let a = length-take (u - s) (drop s b) in let c = length-drop s b in ⊎_elim (λ inside. omega arith) (λ same. omega arith) h) in
    let far : s + (u - s) ≡ u = omega arith in
    (omega arith, sym (take-append-drop (u - s) (drop s b)) ∙ ap (λ t. text_of b (span s u) ++ t) (drop-drop (u - s) s b ∙ ap (λ i. drop i b) far))

word_there : (limit commands : ℕ) (b b' : List ℕ) (role : Role) (s s' u : Spot) (ps : List Part) (text rest : List ℕ) → s.joins ≡ false → s.tabs ≡ false → u.count ≡ s.count + commands → ReadsParts limit b (context_of role b s.at) 0 s u ps
    → s.at + length text ≡ u.at → drop s.at b ≡ text ++ drop u.at b → words.ends_joined (drop u.at b) ≡ true → drop s'.at b' ≡ text ++ rest → IsBehindWord rest → IsWordSpot s.depth s.quiet s'
    → (parts : List Part)
    × ReadsWord limit b' (context_of role b' s'.at) s' (counted (s'.at + length text) (s'.count + commands) s') (tree.word s'.at (s'.at + length text) parts)
    × (form_of b' (tree.word s'.at (s'.at + length text) parts) ≡ form_of b (tree.word s.at u.at ps))
unfolding keeps_lines is_quoted_word
word_there limit commands b b' role s s' u ps text rest joins tabs counts i long there ends here behind spot =
    let c = same_contexts role b b' text (drop u.at b) rest s.at s'.at there here (edge_first (drop u.at b) ends) (break_first rest behind.ends) in
    let i' = subst (λ x. ReadsParts limit b x 0 s u ps) c.there i in
    let below = all_move limit u.at in
    let found = outer_parts b b' s.at s'.at s.count s'.count (s.at + c.far) (s'.at + c.far) c.colons c.fields true (drop u.at b) rest ends behind.ends (λ n. equal_far s.at s'.at c.far n)
    (expressions_move below.expansions) (scripts_move below.words below.parts) text
    (record {
      there = there;
      here = here;
      long = long;
      along = record { by = 0; at = omega arith; at' = omega arith; depth = spot.depth_is; joins = spot.joins ∙ sym joins; tabs = spot.tabs ∙ sym tabs; quiet = spot.quiet_only; counts = omega arith };
    })
    i' (omega arith) in
    let end : found.to.at ≡ s'.at + length text = (let a = found.along.at in let a' = found.along.at' in omega arith) in
    let count : found.to.count ≡ s'.count + commands = (let k = found.along.counts in omega arith) in
    let to : found.to ≡ counted (s'.at + length text) (s'.count + commands) s' =
    parts_keep found.reads ∙ ap (λ j. counted j found.to.count s') end ∙ ap (λ n. counted (s'.at + length text) n s') count in
    let behind_it : drop found.to.at b' ≡ rest = ap (λ j. drop j b') end ∙ sym (drop-drop (length text) s'.at b') ∙ ap (drop (length text)) here ∙ drop-append_seam text rest in
    let location = no_location b' s'.at found.to.at rest behind_it behind.ends in
    let whole : ReadsWord limit b' (outer (s'.at + c.far) c.colons c.fields true) s' found.to (tree.word s'.at found.to.at found.tree) =
    reads.whole_word found.reads (ap (λ t. not c.colons && t) location ∙ and-false (not c.colons)) (ap (λ j. keeps_lines b' j found.tree) spot.joins) in (
      found.tree,
      subst (λ e. ReadsWord limit b' (context_of role b' s'.at) s' e (tree.word s'.at (s'.at + length text) found.tree)) to
          (subst (λ j. ReadsWord limit b' (context_of role b' s'.at) s' found.to (tree.word s'.at j found.tree)) end
          (subst (λ x. ReadsWord limit b' x s' found.to (tree.word s'.at found.to.at found.tree)) (sym c.here) whole)),
      rw (found.keeps.text, found.keeps.quotes, found.keeps.dollar_quotes) refl,
    )

pub word_copied : (limit commands : ℕ) (b : List ℕ) (role : Role) (s u : Spot) (w : Word) → s.joins ≡ false → s.tabs ≡ false → u.count ≡ s.count + commands
    → ReadsWord limit b (context_of role b s.at) s u w → WordOf limit s.depth s.quiet role (form_of b w) commands (text_of b w.span)
word_copied limit commands b role s u _ joins tabs counts (reads.whole_word {ps = ps} i h k) =
    let f = parts_forward i in
    let shape = same_contexts role b b (drop s.at b) [] [] s.at s.at (sym (append-nil (drop s.at b))) (sym (append-nil (drop s.at b))) nothing nothing in
    let i' = subst (λ x. ReadsParts limit b x 0 s u ps) shape.there i in
    let ends = parts_edge (s.at + shape.far) shape.colons shape.fields true i' in
    let inside : (u.at ≤ length b) ⊎ (u.at ≡ s.at) = ⊎_elim (λ within. inl (parts_inside i within).0) (λ same. inr same) (parts_end (s.at + shape.far) shape.colons shape.fields true i') in
    let text = word_text b s.at u.at f inside in
    record { is_read = λ b' rest s' here behind spot. word_there limit commands b b' role s s' u ps (text_of b (span s.at u.at)) rest joins tabs counts i text.0 text.1 ends here behind spot }
