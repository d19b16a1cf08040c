-- A whole word is read before a blank, a newline or `)` as before what ends it.
-- POSIX.1-2024, XCU 2.2 (quoting), 2.3 (token recognition), 2.6 (word expansions).
use Rattle.std.proofs.Common.{◌≡◌, ℕ, zero, suc, ◌+◌, ◌-◌, ◌≤◌, ◌<◌, ◌==◌, Bool, true, false, not, List, [], ◌∷◌, ◌++◌, length, drop, take, get_or, slice_index, inl, inr, refl, sym, ap, subst, ◌∙◌, ⊎_elim, arith, length-drop}
use Rattle.std.proofs.lemmas.Bool.{true≢false, and_from, eqb-true}
use Rattle.std.proofs.lemmas.Bool.Decides.{nat_tests}
use Rattle.std.proofs.lemmas.List.{drop-drop, drop-append-le, take-append-le, get_or-drop, append_assoc, nil_from_length}
use Rattle.sh_tree.specs.declared.tree.CommandStyle.TheVariants.{Paren, Backquote}
use Rattle.sh_tree.specs.declared.tree.Part.{Part}
use Rattle.sh_tree.specs.declared.tree.Part.TheVariants as part
use Rattle.sh_tree.specs.declared.token.word.Context.{Context}
use Rattle.sh_tree.specs.declared.token.word.Sign.{Sign}
use Rattle.sh_tree.specs.declared.token.word.Sign.TheVariants as sign
use Rattle.sh_tree.specs.standard.Tree.{text_of}
use Rattle.sh_tree.specs.standard.language.Bytes.{ends_token, is_first}
use Rattle.sh_tree.specs.standard.language.Substitutions.{commands_text}
use Rattle.sh_reads.proofs.MoveLemmas.{blanks_move}
use Rattle.sh_tree.specs.standard.language.Reading as reads
use Rattle.sh_tree.specs.standard.language.Reading.{sign_at, after, prior_of, ReadsParts, ReadsPart}
use Rattle.sh_tree.specs.standard.language.States.{Spot, to, behind}
use Rattle.sh_tree.specs.standard.language.Trees.{span}
use Rattle.sh_tree.specs.standard.language.Words as words
use Rattle.sh_reads.proofs.TakeLemmas.{is_part, part_begins, token_moves, token_takes}
use Rattle.sh_copies.proofs.AlikeBytes.{is_closer, by_bool}
use Rattle.sh_copies.proofs.AlikeTokens.{Sound, sign_alike}
use Rattle.sh_copies.proofs.Boundary.{breaks, before, is_prefix, outer, Goes, GoesAt, goes_on, loose_goes}
use Rattle.sh_copies.proofs.BoundarySigns.{is_open, is_whole, is_value, outer_sign}
use Rattle.sh_copies.proofs.Copies.{Copied, Place, Moved, Turns, Kept, KeptPart, ExpressionsMove, ScriptsMove}
use Rattle.sh_copies.proofs.Forward.{parts_forward, part_forward, script_forward}
use Rattle.sh_copies.proofs.Shift.{placeless, Same, sign_shift}
use Rattle.sh_copies.proofs.WordsCommands.{closing, backquotes_move}
use Rattle.sh_copies.proofs.WordsKept.{kept_none, kept_more, kept_command}
use Rattle.sh_copies.proofs.WordsMove.{is_flat, flat_move, flat_ends, closing_within, closing_byte, part_move}
use Rattle.sh_copies.proofs.Places.{less_deep}
use Rattle.sh_copies.proofs.WordsTokens.{prior_placeless, same_sign, part_sound, stop_size, tabs_strip}

-- the byte before what is left of a text after some bytes
before_is : (prior : ℕ) (w r : List ℕ) (n : ℕ) → n < length w → before prior w (suc n) ≡ get_or (w ++ r) n 0
unfolding before
before_is prior [] r n h = absurd (omega arith)
before_is prior (a ∷ w) r zero h = go w
  where
    go : (w : List ℕ) → before a w zero ≡ a
    go [] = refl
    go (c ∷ w) = refl
before_is prior (a ∷ w) r (suc n) h = before_is a w r n (omega arith)

byte_at : (b : List ℕ) (i n : ℕ) (cs : List ℕ) → drop i b ≡ cs → slice_index b (i + n) ≡ get_or cs n 0
byte_at b i n cs e = sym (get_or-drop i b n 0) ∙ ap (λ t. get_or t n 0) e

front_byte : (v r r' : List ℕ) (n : ℕ) → n < length v → get_or (v ++ r') n 0 ≡ get_or (v ++ r) n 0
front_byte [] r r' n h = absurd (omega arith)
front_byte (a ∷ v) r r' zero h = refl
front_byte (a ∷ v) r r' (suc n) h = front_byte v r r' n (omega arith)

past : (i n : ℕ) (text v rest : List ℕ) → drop i text ≡ v ++ rest → n ≤ length v → drop (i + n) text ≡ drop n v ++ rest
past i n text v rest there h = sym (drop-drop n i text) ∙ ap (drop n) there ∙ drop-append-le n v rest h

prefix_flat : (g : Sign) → is_prefix g ≡ true → is_flat g ≡ true
prefix_flat sign.Tilde h = refl
prefix_flat g h = absurd (true≢false (sym h))

value_flat : (g : Sign) → is_value g ≡ true → is_flat g ≡ true
value_flat (sign.Value p) h = refl
value_flat g h = absurd (true≢false (sym h))

-- the word up to a byte that closes something, and after it
record Split (v : List ℕ) (m : ℕ) : Type 0 where
  w : List ℕ
  c : ℕ
  rest : List ℕ
  is : v ≡ w ++ c ∷ rest
  size : length w ≡ m
  closes : is_closer c ≡ true

split : (v r : List ℕ) (m : ℕ) → is_first is_closer (drop m (v ++ r)) ≡ true → m < length v → Split v m
unfolding is_first
split [] r m h k = absurd (omega arith)
split (a ∷ v) r zero h k = record { w = []; c = a; rest = v; is = refl; size = refl; closes = h }
split (a ∷ v) r (suc m) h k =
    let s = split v r m h (omega arith) in
    record { w = a ∷ s.w; c = s.c; rest = s.rest; is = ap (λ t. a ∷ t) s.is; size = ap suc s.size; closes = s.closes }

closing_open : (g : Sign) → is_part g ≡ true → is_open g ≡ true → closing g ≡ 1
closing_open (sign.Use p a colon) k h = refl
closing_open (sign.Remove p q) k h = refl
closing_open sign.Arith k h = refl
closing_open (sign.Substitution Paren) k h = refl
closing_open (sign.Substitution Backquote) k h = absurd (true≢false (sym h))
closing_open g k h = absurd (true≢false (sym h))

whole_not_open : (g : Sign) → is_part g ≡ true → is_open g ≡ false → is_whole g ≡ true
whole_not_open g h k = and_from (is_part g) (not (is_open g)) h (ap not k)

-- A whole word of b between p and its end, before r, and of b' from q on, before r'. So many
-- commands have begun before it in b, and so many in b'.
module _ (b b' : List ℕ) (p q began began' o o' : ℕ) (colons fields backquotes : Bool) (r r' : List ℕ) (ends : words.ends_joined r ≡ true) (edge : is_first breaks r' ≡ true)
    (turns : (n : ℕ) → (q + n == o') ≡ (p + n == o)) where
  abbrev x : Context
  x = outer o colons fields backquotes

  abbrev y : Context
  y = outer o' colons fields backquotes

  -- the same spot of the word
  pub record Along (s s' : Spot) : Type 0 where
    pub by : ℕ
    pub at : s.at ≡ p + by
    pub at' : s'.at ≡ q + by
    pub depth : s'.depth ≡ s.depth
    pub joins : s'.joins ≡ s.joins
    pub tabs : s'.tabs ≡ s.tabs
    pub quiet : s'.quiet ≡ true → s.quiet ≡ true
    pub counts : s'.count + began ≡ s.count + began'

  -- what is left of the word, up to u
  pub record Rest (s s' u : Spot) (v : List ℕ) : Type 0 where
    pub there : drop s.at b ≡ v ++ r
    pub here : drop s'.at b' ≡ v ++ r'
    pub long : s.at + length v ≡ u.at
    pub along : Along s s'

  -- the token there
  record Token (prior : ℕ) (s s' : Spot) (n : ℕ) : Type 0 where
    sign : placeless (sign_at b' y prior s') ≡ placeless (sign_at b x prior s)
    end : after b x prior s ≡ s.at + n
    end' : after b' y prior s' ≡ s'.at + n

  module _ {limit : ℕ} where
    -- if parts are read, the word goes on with a part
    goes : {prior : ℕ} {s u : Spot} {ps : List Part} (v : List ℕ) → drop s.at b ≡ v ++ r → s.at + length v ≡ u.at → ReadsParts limit b x prior s u ps → GoesAt o colons fields backquotes prior s.at v r
    unfolding words.token
    goes v there long (reads.stop {prior = prior} {s = s} h) = let size = stop_size b x prior s h in inl (nil_from_length v (omega arith))
    goes v there long (reads.tabs {prior = prior} {s = s} h i) = absurd (true≢false (sym (tabs_strip b x prior s h)))
    goes {u = u} v there long (reads.more {prior = prior} {s = s} {v = w} {g = g} h i j) =
        let k = token_moves b x prior s.at in
        let f = part_forward i in
        let g' = parts_forward j in
        let e = ap (words.sign_of x prior s.at) there in
        let n = (words.sign_of x prior s.at (v ++ r)).1 in
        let size : (words.sign_of x prior s.at (drop s.at b)).1 ≡ n = ap (λ f. f.1) e in
        let within : n ≤ length v = omega arith in
        inr (record {
          part = sym (ap (λ f. is_part f.0) e) ∙ ap is_part h ∙ part_begins i;
          fits = within;
          behind = λ tilde.
              let flat = flat_ends (prefix_flat g (sym (ap is_prefix (ap (λ f. f.0) (sym e) ∙ h)) ∙ tilde)) i in
              let at : w.at ≡ s.at + n = ap (λ t. t.at) flat ∙ ap (λ m. s.at + m) size in
              let long' : w.at + length (drop n v) ≡ u.at = (let l = length-drop n v in omega arith) in
              let next = goes (drop n v) (ap (λ i. drop i b) at ∙ past s.at n b v r there within) long' j in
              loose_goes o colons fields backquotes (drop n v) r (goes_on o colons fields backquotes _ _ (drop n v) r next);
        })

    -- what follows a part that holds no others
    goes_behind : (prior : ℕ) {s w u : Spot} {g : Sign} {z : Part} {ps : List Part} (v : List ℕ) → drop s.at b ≡ v ++ r → s.at + length v ≡ u.at
        → sign_at b x prior s ≡ g → is_flat g ≡ true → ReadsPart limit b x g s (after b x prior s) w z → ReadsParts limit b x (prior_of b g w.at) w u ps
        → (n : ℕ) → (words.sign_of x prior s.at (v ++ r)).1 ≡ n → (w.at ≡ s.at + n) × (n ≤ length v) × GoesAt o colons fields backquotes (prior_of b g w.at) (s.at + n) (drop n v) r
    unfolding words.token
    goes_behind prior {s} {w} {u} {g} v there long h flat i j n found =
        let f = parts_forward j in
        let size : (words.sign_of x prior s.at (drop s.at b)).1 ≡ n = ap (λ t. (words.sign_of x prior s.at t).1) there ∙ found in
        let at : w.at ≡ s.at + n = ap (λ t. t.at) (flat_ends flat i) ∙ ap (λ m. s.at + m) size in
        let within : n ≤ length v = omega arith in
        let long' : w.at + length (drop n v) ≡ u.at = (let l = length-drop n v in omega arith) in
        (at, within, subst (λ k. GoesAt o colons fields backquotes (prior_of b g w.at) k (drop n v) r) at (goes (drop n v) (ap (λ i. drop i b) at ∙ past s.at n b v r there within) long' j))

    -- the sign at the spot of a part
    same_sign_there : (prior : ℕ) {s w u : Spot} {g : Sign} {z : Part} {ps : List Part} (v : List ℕ) → drop s.at b ≡ v ++ r → s.at + length v ≡ u.at
        → sign_at b x prior s ≡ g → ReadsPart limit b x g s (after b x prior s) w z → ReadsParts limit b x (prior_of b g w.at) w u ps
        → words.sign_of x prior s.at (v ++ r') ≡ words.sign_of x prior s.at (v ++ r)
    unfolding words.token
    same_sign_there prior {s} [] there long h i j =
        let takes = (token_takes b x prior s.at (ap is_part h ∙ part_begins i)).0 in
        let f = part_forward i in
        let f' = parts_forward j in
        absurd (omega arith)
    same_sign_there prior {s} {w} {u} {g} (a ∷ v) there long h i j =
        let k = token_moves b x prior s.at in
        let f = part_forward i in
        let f' = parts_forward j in
        let e = ap (words.sign_of x prior s.at) there in
        let found = words.sign_of x prior s.at (a ∷ (v ++ r)) in
        let n = found.1 in
        let is : found.0 ≡ g = ap (λ f. f.0) (sym e) ∙ h in
        let part = ap is_part is ∙ part_begins i in
        let size : (words.sign_of x prior s.at (drop s.at b)).1 ≡ n = ap (λ f. f.1) e in
        let within : n ≤ suc (length v) = omega arith in
        by_bool (is_open found.0)
        (λ opens.
        let one = closing_open g (part_begins i) (sym (ap is_open is) ∙ opens) in
        let inside = closing_within i in
        let m = w.at - 1 - s.at in
        let at : s.at + m ≡ w.at - 1 = omega arith in
        let byte = sym (sym (drop-drop m s.at b) ∙ ap (drop m) there) in
        let cut = split (a ∷ v) r m (ap (is_first is_closer) byte ∙ ap (λ i. is_first is_closer (drop i b)) at ∙ closing_byte one i) (omega arith) in
        let text : (rest : List ℕ) → a ∷ (v ++ rest) ≡ cut.w ++ cut.c ∷ (cut.rest ++ rest) = (λ rest. ap (λ t. t ++ rest) cut.is ∙ append_assoc cut.w (cut.c ∷ cut.rest) rest) in
        let fits : n ≤ length cut.w = (let long' = cut.size in omega arith) in
        let sound : Sound found (length cut.w) = record { sound = part_sound found.0 part; fits = λ k. fits } in
        ap (words.sign_of x prior s.at) (text r') ∙ sign_alike x prior s.at cut.w cut.c (cut.rest ++ r) (cut.rest ++ r') cut.closes (subst (λ t. Sound (words.sign_of x prior s.at t) (length cut.w)) (text r) sound)
        ∙ sym (ap (words.sign_of x prior s.at) (text r)))
        (λ whole.
        let here : Goes o colons fields backquotes prior s.at (a ∷ v) r = ⊎_elim (λ none. absurd (no_cons none)) (λ g. g) (goes (a ∷ v) there long (reads.more h i j)) in
        outer_sign o colons fields backquotes prior s.at a v r r' ends edge here (whole_not_open found.0 part whole)
        (λ value. loose_goes o colons fields backquotes (drop n (a ∷ v)) r (goes_on o colons fields backquotes _ _ (drop n (a ∷ v)) r (goes_behind prior (a ∷ v) there long h (value_flat g (sym (ap is_value is) ∙ value)) i j n refl).2))
        (λ m plain.
        let plain' : sign.Plain ≡ g = ap (λ f. f.0) (sym plain) ∙ is in
        let next = goes_behind prior (a ∷ v) there long h (sym (ap is_flat plain')) i j m (ap (λ f. f.1) plain) in
        let at = next.0 in
        let within = next.1 in
        let takes = (token_takes b x prior s.at (ap is_part h ∙ part_begins i)).0 in
        let some : m ≡ suc (m - 1) = (let size' : n ≡ m = ap (λ f. f.1) plain in omega arith) in
        let last : w.at - 1 ≡ s.at + (m - 1) = omega arith in
        let byte : prior_of b g w.at ≡ before prior (a ∷ v) m =
        ap (λ g. prior_of b g w.at) (sym plain') ∙ ap (slice_index b) last ∙ byte_at b s.at (m - 1) (a ∷ (v ++ r)) there ∙ sym (before_is prior (a ∷ v) r (m - 1) (omega arith)) ∙ sym (ap (before prior (a ∷ v)) some) in
        subst (λ c. GoesAt o colons fields backquotes c (s.at + m) (drop m (a ∷ v)) r) byte next.2))
      where
        no_cons : a ∷ v ≡ [] → ⊥
        no_cons e = let n : suc (length v) ≡ 0 = ap length e in absurd (omega arith)

    token_there : (prior : ℕ) {s s' w u : Spot} {g : Sign} {z : Part} {ps : List Part} (v : List ℕ) → Rest s s' u v
        → sign_at b x prior s ≡ g → ReadsPart limit b x g s (after b x prior s) w z → ReadsParts limit b x (prior_of b g w.at) w u ps
        → Token prior s s' (words.sign_of x prior s.at (v ++ r)).1
    unfolding words.token
    token_there prior {s} {s'} v rest h i j =
        let same = same_sign_there prior v rest.there rest.long h i j in
        let at = rest.along.at in
        let at' = rest.along.at' in
        let shift : Same (words.sign_of y prior s'.at (v ++ r')) (words.sign_of x prior s.at (v ++ r')) =
        subst (λ i. Same (words.sign_of y prior i (v ++ r')) (words.sign_of x prior s.at (v ++ r'))) (sym at')
        (subst (λ i. Same (words.sign_of y prior (q + rest.along.by) (v ++ r')) (words.sign_of x prior i (v ++ r'))) (sym at) (sign_shift x o' p q prior rest.along.by (v ++ r') (λ n outside. turns n))) in
        record {
          sign = ap (λ t. placeless (words.sign_of y prior s'.at t).0) rest.here ∙ shift.sign ∙ ap (λ f. placeless f.0) same ∙ sym (ap (λ t. placeless (words.sign_of x prior s.at t).0) rest.there);
          end = ap (λ t. s.at + (words.sign_of x prior s.at t).1) rest.there;
          end' = ap (λ t. s'.at + (words.sign_of y prior s'.at t).1) rest.here ∙ ap (λ n. s'.at + n) (shift.size ∙ ap (λ f. f.1) same);
        }

  -- a part found there
  record OuterPart (limit : ℕ) (w : Spot) (z : Part) (g : Sign) (s' : Spot) (e : ℕ) : Type 0 where
    to : Spot
    tree : Part
    pub along : Along w to
    keeps : KeptPart b b' z tree
    reads : ReadsPart limit b' y g s' e to tree

  moved_along : {s s' w w' : Spot} (by : ℕ) → Along s s' → w.at ≡ s.at + by → w'.at ≡ s'.at + by → w'.depth ≡ w.depth → w'.joins ≡ w.joins → w'.tabs ≡ w.tabs → (w'.quiet ≡ true → w.quiet ≡ true) → w'.count + began ≡ w.count + began' → Along w w'
  moved_along by a e e' depth joins tabs quiet counts = record { by = a.by + by; at = (let k = a.at in omega arith); at' = (let k = a.at' in omega arith); depth = depth; joins = joins; tabs = tabs; quiet = quiet; counts = counts }

  module _ {limit m : ℕ} (expressions : ExpressionsMove limit m) (scripts : ScriptsMove limit m) where
    flat_there : {s s' w u : Spot} {g : Sign} {z : Part} (v : List ℕ) (e e' n : ℕ) (g' : Sign) → Rest s s' u v → placeless g' ≡ placeless g → e ≡ s.at + n → e' ≡ s'.at + n → n ≤ length v → is_flat g ≡ true
        → ReadsPart limit b x g s e w z → OuterPart limit w z g' s' e'
    flat_there {s} {s'} {w} {z = z} v e e' n g' rest same end end' within flat i =
        let text : text_of b' (span s'.at e') ≡ text_of b (span s.at e) =
        (let d : e - s.at ≡ n = omega arith in let d' : e' - s'.at ≡ n = omega arith in
        ap (λ k. take k (drop s'.at b')) d' ∙ ap (take n) rest.here ∙ take-append-le n v r' within ∙ sym (ap (λ k. take k (drop s.at b)) d ∙ ap (take n) rest.there ∙ take-append-le n v r within)) in
        let f = flat_move b' y s' e' g' flat same text i in
        let a = rest.along in
        subst (λ k. OuterPart limit k z g' s' e') (sym f.0)
        (record { to = to e' s'; tree = f.1.tree; along = moved_along n a end end' a.depth a.joins a.tabs a.quiet a.counts; keeps = f.1.keeps; reads = f.1.reads })

    nested_there : {s s' w u : Spot} {g : Sign} {z : Part} (v : List ℕ) (e e' n : ℕ) (g' : Sign) → Rest s s' u v → placeless g' ≡ placeless g → e ≡ s.at + n → e' ≡ s'.at + n → w.at ≤ u.at → closing g ≡ 1
        → ReadsPart limit b x g s e w z → w.at < s.at + suc m → OuterPart limit w z g' s' e'
    nested_there {s} {s'} {w} {u} v e e' n g' rest same end end' within one i size =
        let inside = closing_within i in
        let k = w.at - 1 - s.at in
        let long = rest.long in
        let at : s.at + k ≡ w.at - 1 = omega arith in
        let byte : drop k (v ++ r) ≡ drop (s.at + k) b = sym (sym (drop-drop k s.at b) ∙ ap (drop k) rest.there) in
        let cut = split v r k (ap (is_first is_closer) byte ∙ ap (λ i. is_first is_closer (drop i b)) at ∙ closing_byte one i) (omega arith) in
        let cut_size = cut.size in
        let text : (t : List ℕ) → v ++ t ≡ cut.w ++ cut.c ∷ (cut.rest ++ t) = (λ t. ap (λ v. v ++ t) cut.is ∙ append_assoc cut.w (cut.c ∷ cut.rest) t) in
        let a = rest.along in
        let c : Copied b b' = record {
          from = s.at;
          into = s'.at;
          w = cut.w;
          rest = cut.c ∷ (cut.rest ++ r);
          rest' = cut.c ∷ (cut.rest ++ r');
          there = rest.there ∙ text r;
          here = rest.here ∙ text r';
          edge = inr (record { c = cut.c; r = cut.rest ++ r; r' = cut.rest ++ r'; closes = cut.closes; there = refl; here = refl });
          began = began;
          began' = began';
        } in
        let moved : Moved c s s' = record { place = record { by = 0; at = omega arith; at' = omega arith }; depth = a.depth; joins = a.joins; tabs = a.tabs; quiet = a.quiet; counts = a.counts } in
        let turns' : Turns c x o' =
        (λ outside n. (let h : s'.at + n ≡ q + (a.by + n) = (let z = a.at' in omega arith) in let h' : s.at + n ≡ p + (a.by + n) = (let z = a.at in omega arith) in
        ap (λ i. i == o') h ∙ turns (a.by + n) ∙ sym (ap (λ i. i == o) h'))) in
        let place : Place c e e' = record { by = n; at = end; at' = end' } in
        let found = part_move expressions scripts c moved turns' place (omega arith) g' same i size (omega arith) in
        record { to = found.to; tree = found.tree; along = moved_along found.moved.place.by a found.moved.place.at found.moved.place.at' found.moved.depth found.moved.joins found.moved.tabs found.moved.quiet found.moved.counts; keeps = found.keeps; reads = found.reads }

    -- between backquotes
    back_there : {s s' w u : Spot} {g : Sign} {z : Part} (v : List ℕ) (e e' n : ℕ) (g' : Sign) → Rest s s' u v → placeless g' ≡ placeless g → e ≡ s.at + n → e' ≡ s'.at + n → w.at ≤ u.at
        → is_flat g ≡ false → (closing g == 1) ≡ false → ReadsPart limit b x g s e w z → w.at < s.at + suc m → OuterPart limit w z g' s' e'
    back_there {s} {s'} v e e' n g' rest same end end' within flat one (reads.substitution {u = u} {style = Backquote} {t = t} d k i h) size =
        let a = rest.along in
        let f = script_forward i in
        let blank = blanks_move s.joins (commands_text Backquote b e) e in
        let long = rest.long in
        let fits : n ≤ length v = omega arith in
        let l = length-drop n v in
        let found = backquotes_move scripts b b' s s' e e' false (drop n v) r r' (ap (λ i. drop i b) end ∙ past s.at n b v r rest.there fits) (ap (λ i. drop i b') end' ∙ past s'.at n b' v r' rest.here fits)
        a.depth a.joins a.tabs a.quiet (omega arith) k i h size (omega arith) in
        let is = same_sign (sign.Substitution Backquote) g' refl same in
        let e1 = found.at in
        let e2 = found.at' in
        record {
          to = behind (found.to.at + 1) found.to s';
          tree = part.Command Backquote (span s'.at (found.to.at + 1)) found.tree;
          along = moved_along (n + found.by + 1) a (omega arith) (omega arith) a.depth a.joins a.tabs a.quiet (let k = found.counts in let k' = a.counts in omega arith);
          keeps = kept_command b b' (span s.at (u.at + 1)) (span s'.at (found.to.at + 1)) Backquote t found.tree;
          reads = subst (λ k. ReadsPart limit b' y k s' e' (behind (found.to.at + 1) found.to s') (part.Command Backquote (span s'.at (found.to.at + 1)) found.tree)) (sym is)
              (reads.substitution (less_deep s.depth s'.depth limit a.depth d) found.keeps found.reads found.closed);
        }
    back_there v e e' n g' rest same end end' within flat one (reads.substitution {style = Paren} d k i h) size = absurd (true≢false one)
    back_there v e e' n g' rest same end end' within flat one reads.plain size = absurd (true≢false flat)
    back_there v e e' n g' rest same end end' within flat one reads.escaped size = absurd (true≢false flat)
    back_there v e e' n g' rest same end end' within flat one reads.joined size = absurd (true≢false flat)
    back_there v e e' n g' rest same end end' within flat one reads.single_quoted size = absurd (true≢false flat)
    back_there v e e' n g' rest same end end' within flat one reads.tilde size = absurd (true≢false flat)
    back_there v e e' n g' rest same end end' within flat one reads.value size = absurd (true≢false flat)
    back_there v e e' n g' rest same end end' within flat one reads.length_value size = absurd (true≢false flat)
    back_there v e e' n g' rest same end end' within flat one (reads.double_quoted i) size = absurd (true≢false one)
    back_there v e e' n g' rest same end end' within flat one (reads.use_word d i) size = absurd (true≢false one)
    back_there v e e' n g' rest same end end' within flat one (reads.removal d i) size = absurd (true≢false one)
    back_there v e e' n g' rest same end end' within flat one (reads.arithmetic d i h k) size = absurd (true≢false one)

    -- the parts found there
    pub record OuterParts (prior : ℕ) (s' u : Spot) (ps : List Part) : Type 0 where
      pub to : Spot
      pub tree : List Part
      pub along : Along u to
      pub keeps : Kept b b' ps tree
      pub reads : ReadsParts limit b' y prior s' to tree

    break_stop : (prior i : ℕ) (cs : List ℕ) → is_first breaks cs ≡ true → words.sign_of y prior i cs ≡ (sign.Stop, 0)
    unfolding is_first words.sign_of words.sign_by
    break_stop prior i [] h = absurd (true≢false (sym h))
    break_stop prior i (c ∷ cs) h = let stops : ends_token c ≡ true = grind (arith, nat_tests, h) in rw stops refl

    -- the plain byte before what follows a part
    prior_there : (s s' w w' : Spot) (v : List ℕ) (k : ℕ) (g g' : Sign) → drop s.at b ≡ v ++ r → drop s'.at b' ≡ v ++ r' → w.at ≡ s.at + k → w'.at ≡ s'.at + k → 0 < k → k ≤ length v → placeless g' ≡ placeless g
        → prior_of b' g' w'.at ≡ prior_of b g w.at
    prior_there s s' w w' v k g g' there here at at' some within same = sym (prior_placeless b' g' w'.at) ∙ ap (λ g. prior_of b' g w'.at) same ∙ prior_placeless b' g w'.at ∙ go g
      where
        plain : slice_index b' (w'.at - 1) ≡ slice_index b (w.at - 1)
        plain =
            let one : w.at - 1 ≡ s.at + (k - 1) = omega arith in
            let one' : w'.at - 1 ≡ s'.at + (k - 1) = omega arith in
            ap (slice_index b') one' ∙ byte_at b' s'.at (k - 1) (v ++ r') here ∙ front_byte v r r' (k - 1) (omega arith) ∙ sym (ap (slice_index b) one ∙ byte_at b s.at (k - 1) (v ++ r) there)

        go : (g : Sign) → prior_of b' g w'.at ≡ prior_of b g w.at
        go sign.Plain = plain
        go g = refl

    pub outer_parts : {prior : ℕ} {s s' u : Spot} {ps : List Part} (v : List ℕ) → Rest s s' u v → ReadsParts limit b x prior s u ps → u.at < s.at + suc m → OuterParts prior s' u ps
    unfolding words.token
    outer_parts {s' = s'} v rest (reads.stop {prior = prior} {s = s} h) size =
        let stop = stop_size b x prior s h in
        let long = rest.long in
        let none = nil_from_length v (omega arith) in
        let e : words.sign_of y prior s'.at (drop s'.at b') ≡ (sign.Stop, 0) = ap (words.sign_of y prior s'.at) (rest.here ∙ ap (λ v. v ++ r') none) ∙ break_stop prior s'.at r' edge in
        let a = rest.along in
        let end : after b' y prior s' ≡ s'.at + 0 = ap (λ f. s'.at + f.1) e in
        record { to = to (after b' y prior s') s'; tree = []; along = moved_along 0 a stop end a.depth a.joins a.tabs a.quiet a.counts; keeps = kept_none b b'; reads = reads.stop (ap (λ f. f.0) e) }
    outer_parts v rest (reads.tabs {prior = prior} {s = s} h i) size = absurd (true≢false (sym (tabs_strip b x prior s h)))
    outer_parts {s' = s'} {u = u} v rest (reads.more {prior = prior} {s = s} {v = w} {g = g} h i j) size =
        let k = token_moves b x prior s.at in
        let f = part_forward i in
        let f' = parts_forward j in
        let t = token_there prior v rest h i j in
        let n = (words.sign_of x prior s.at (v ++ r)).1 in
        let g' = sign_at b' y prior s' in
        let same : placeless g' ≡ placeless g = t.sign ∙ ap placeless h in
        let end = t.end in
        let long = rest.long in
        let one = by_bool (is_flat g)
        (λ flat. flat_there v (after b x prior s) (after b' y prior s') n g' rest same t.end t.end' (omega arith) flat i)
        (λ more. by_bool (closing g == 1)
        (λ closed. nested_there v (after b x prior s) (after b' y prior s') n g' rest same t.end t.end' f' (eqb-true (closing g) 1 closed) i (omega arith))
        (λ other. back_there v (after b x prior s) (after b' y prior s') n g' rest same t.end t.end' f' more other i (omega arith))) in
        let takes = (token_takes b x prior s.at (ap is_part h ∙ part_begins i)).0 in
        let d = w.at - s.at in
        let at : w.at ≡ s.at + d = omega arith in
        let at' : one.to.at ≡ s'.at + d = (let a = rest.along.at in let a' = rest.along.at' in let c = one.along.at in let c' = one.along.at' in omega arith) in
        let within : d ≤ length v = omega arith in
        let left : Rest w one.to u (drop d v) = record {
          there = ap (λ i. drop i b) at ∙ past s.at d b v r rest.there within;
          here = ap (λ i. drop i b') at' ∙ past s'.at d b' v r' rest.here within;
          long = let l = length-drop d v in omega arith;
          along = one.along;
        } in
        let more = outer_parts (drop d v) left j (omega arith) in
        let last = prior_there s s' w one.to v d g g' rest.there rest.here at at' (omega arith) within same in
        record {
          to = more.to;
          tree = one.tree ∷ more.tree;
          along = more.along;
          keeps = kept_more b b' one.keeps more.keeps;
          reads = reads.more refl one.reads (subst (λ k. ReadsParts limit b' y k one.to more.to more.tree) (sym last) more.reads);
        }
