-- The tokens of a word in a copy.
-- POSIX.1-2024, XCU 2.2 (quoting), 2.6 (word expansions).
use Rattle.std.proofs.Common.{◌≡◌, ℕ, ◌+◌, ◌-◌, ◌≤◌, ◌<◌, ◌==◌, Bool, true, false, not, ◌&&◌, if◌then◌else◌, List, [], ◌∷◌, ◌++◌, length, drop, take, get_or, slice_index, nat_lt, ◌⊎◌, inl, inr, refl, sym, ap, subst, ◌∙◌, ⊎_elim, arith}
use Rattle.std.proofs.lemmas.Bool.{true≢false, and_parts}
use Rattle.std.proofs.lemmas.Bool.Decides.{nat_tests}
use Rattle.std.proofs.lemmas.List.{get_or-drop, take-append-le}
use Rattle.sh_tree.specs.declared.tree.Action.{Action}
use Rattle.sh_tree.specs.declared.tree.Part.{Part}
use Rattle.sh_tree.specs.declared.tree.Removal.{Removal}
use Rattle.sh_tree.specs.declared.tree.Subject.{Subject}
use Rattle.sh_tree.specs.declared.token.word.Context.{Context}
use Rattle.sh_tree.specs.declared.token.word.Site.{Site}
use Rattle.sh_tree.specs.declared.token.word.Site.TheVariants as site
use Rattle.sh_tree.specs.declared.token.word.Sign.{Sign}
use Rattle.sh_tree.specs.declared.token.word.Sign.TheVariants as sign
use Rattle.sh_tree.specs.standard.Tree.{text_of}
use Rattle.sh_tree.specs.standard.language.Bytes.{is_newline, is_tab, is_first, run, behind_joined}
use Rattle.sh_tree.specs.standard.language.Reading as r
use Rattle.sh_tree.specs.standard.language.Reading.{sign_at, after, prior_of, ReadsParts}
use Rattle.sh_tree.specs.standard.language.States.{Spot}
use Rattle.sh_tree.specs.standard.language.Trees.{span}
use Rattle.sh_tree.specs.standard.language.Words as words
use Rattle.sh_tree.specs.standard.language.Words.{stop_length}
use Rattle.sh_reads.proofs.BeginningLemmas.{dollar_goes}
use Rattle.sh_reads.proofs.TakeLemmas.{is_part, token_moves}
use Rattle.sh_copies.proofs.AlikeBytes.{is_closer, first_alike, behind_alike}
use Rattle.sh_copies.proofs.AlikeTokens.{is_sound, is_stop, Sound, sign_alike, goes_no_stop, goes_no_tabs, is_tabs}
use Rattle.sh_copies.proofs.Copies.{Copied, limit_of, Place, Moved, Turns, turned}
use Rattle.sh_copies.proofs.Forward.{part_forward}
use Rattle.sh_copies.proofs.Places.{left, near, as_far}
use Rattle.sh_copies.proofs.Shift.{placeless, Same, sign_shift}

-- Signs

pub part_sound : (g : Sign) → is_part g ≡ true → is_sound g ≡ true
part_sound sign.Open h = h
part_sound (sign.Fault f) h = h
part_sound (sign.LeftOut f) h = h
part_sound g h = refl

-- it has a parameter
abbrev pub is_placed : Sign → Bool
is_placed (sign.Value p) = true
is_placed (sign.Length p) = true
is_placed (sign.Use p a c) = true
is_placed (sign.Remove p r) = true
is_placed _ = false

unplaced_itself : (g : Sign) → is_placed g ≡ false → placeless g ≡ g
unplaced_itself (sign.Value p) h = absurd (true≢false h)
unplaced_itself (sign.Length p) h = absurd (true≢false h)
unplaced_itself (sign.Use p a c) h = absurd (true≢false h)
unplaced_itself (sign.Remove p r) h = absurd (true≢false h)
unplaced_itself g h = refl

placed_same : (g : Sign) → is_placed (placeless g) ≡ is_placed g
placed_same (sign.Value p) = refl
placed_same (sign.Length p) = refl
placed_same (sign.Use p a c) = refl
placed_same (sign.Remove p r) = refl
placed_same g = refl

-- a sign without a parameter is the same in a copy
pub same_sign : (g g' : Sign) → is_placed g ≡ false → placeless g' ≡ placeless g → g' ≡ g
same_sign g g' h e = sym (unplaced_itself g' (sym (placed_same g') ∙ ap is_placed e ∙ placed_same g ∙ h)) ∙ e ∙ unplaced_itself g h

pub value_sign : (p : Subject) (g' : Sign) → placeless g' ≡ placeless (sign.Value p) → (p' : Subject) × (g' ≡ sign.Value p')
value_sign p (sign.Value p') e = (p', refl)
value_sign p g e = cc

pub length_sign : (p : Subject) (g' : Sign) → placeless g' ≡ placeless (sign.Length p) → (p' : Subject) × (g' ≡ sign.Length p')
length_sign p (sign.Length p') e = (p', refl)
length_sign p g e = cc

pub use_sign : (p : Subject) (a : Action) (colon : Bool) (g' : Sign) → placeless g' ≡ placeless (sign.Use p a colon) → (p' : Subject) × (g' ≡ sign.Use p' a colon)
use_sign p a colon (sign.Use p' a' colon') e = (p', cc)
use_sign p a colon g e = cc

pub remove_sign : (p : Subject) (q : Removal) (g' : Sign) → placeless g' ≡ placeless (sign.Remove p q) → (p' : Subject) × (g' ≡ sign.Remove p' q)
remove_sign p q (sign.Remove p' q') e = (p', cc)
remove_sign p q g e = cc

-- Ends

-- it ends no context but a word, before which it is, and is no tabs
record Ends (x : Context) (f : Sign × ℕ) : Type 0 where
  stop : is_stop f.0 ≡ true → (words.is_word_site x.site ≡ true) × (f.1 ≡ 0)
  tabs : is_tabs f.0 ≡ false

no_end : {x : Context} {f : Sign × ℕ} → is_stop f.0 ≡ false → is_tabs f.0 ≡ false → Ends x f
no_end h k = record { stop = λ e. absurd (true≢false (sym e ∙ h)); tabs = k }

either_ends : {x : Context} {f g : Sign × ℕ} (t : Bool) → (t ≡ true → Ends x f) → (t ≡ false → Ends x g) → Ends x (if t then f else g)
either_ends true h k = h refl
either_ends false h k = k refl

word_ends : (x : Context) (t : Bool) → words.is_word_site x.site && t ≡ true → Ends x (sign.Stop, 0)
word_ends x t h = record { stop = λ k. ((and_parts (words.is_word_site x.site) t h).0, refl); tabs = refl }

continuation_ends : (x : Context) (cs : List ℕ) → Ends x (words.continuation x cs)
unfolding words.continuation
continuation_ends x cs =
    either_ends (words.is_quoted x.site) (λ q. either_ends (x.strip && is_first is_tab cs) (λ t. no_end refl refl) (λ t. no_end refl refl))
    (λ q. either_ends (words.is_word_site x.site && words.ends_joined cs) (λ e. word_ends x (words.ends_joined cs) e) (λ e. no_end refl refl))

backslash_ends : (x : Context) (cs : List ℕ) → Ends x (words.backslash x cs)
unfolding words.backslash
backslash_ends x [] = no_end refl refl
backslash_ends x (c ∷ rest) =
    either_ends (is_newline c) (λ e. continuation_ends x rest)
    (λ e. either_ends (words.is_default_site x.site && c == 125) (λ e. no_end refl refl)
    (λ e. either_ends (words.is_default_site x.site && x.body && c == 34) (λ e. no_end refl refl) (λ e. no_end refl refl)))

single_ends : (x : Context) (cs : List ℕ) → Ends x (words.single cs)
unfolding words.single
single_ends x cs = either_ends (nat_lt (run (λ c. not (c == 39)) cs) (length cs)) (λ e. no_end refl refl) (λ e. no_end refl refl)

backquoted_ends : (x : Context) (cs : List ℕ) → Ends x (words.backquoted x cs)
unfolding words.backquoted
backquoted_ends x cs = either_ends (words.is_word_site x.site && length cs == 0) (λ e. word_ends x (length cs == 0) e) (λ e. either_ends x.backquotes (λ e. no_end refl refl) (λ e. no_end refl refl))

meant_ends : (x : Context) (i c : ℕ) (cs : List ℕ) → Ends x (words.meant_by x i c cs)
unfolding words.meant_by
meant_ends x i c cs =
    either_ends (c == 92) (λ e. backslash_ends x cs)
    (λ e. either_ends (c == 39) (λ e. single_ends x cs)
    (λ e. either_ends (c == 34) (λ e. either_ends (words.is_default_site x.site) (λ e. no_end refl refl) (λ e. no_end refl refl))
    (λ e. either_ends (c == 96) (λ e. backquoted_ends x cs) (λ e. let goes = dollar_goes x i cs in no_end (goes_no_stop _ goes) (goes_no_tabs _ goes)))))

word_length : (s : Site) → words.is_word_site s ≡ true → stop_length s ≡ 0
word_length site.Word h = refl
word_length s h = absurd (true≢false (sym h))

-- what a sign says if it is an end or tabs
record Says (x : Context) (cs : List ℕ) (f : Sign × ℕ) : Type 0 where
  stop : is_stop f.0 ≡ true → (f.1 ≡ stop_length x.site) × ((stop_length x.site ≡ 0) ⊎ (is_first (words.stops x.site) cs ≡ true))
  tabs : is_tabs f.0 ≡ true → x.strip ≡ true

either_says : {x : Context} {cs : List ℕ} {f g : Sign × ℕ} (t : Bool) → (t ≡ true → Says x cs f) → (t ≡ false → Says x cs g) → Says x cs (if t then f else g)
either_says true h k = h refl
either_says false h k = k refl

says_ends : {x : Context} {cs : List ℕ} {f : Sign × ℕ} → Ends x f → Says x cs f
says_ends {x} e = record { stop = λ k. let s = e.stop k in let none = word_length x.site s.0 in (s.1 ∙ sym none, inl none); tabs = λ k. absurd (true≢false (sym k ∙ e.tabs)) }

sign_says : (x : Context) (prior i : ℕ) (cs : List ℕ) → Says x cs (words.sign_of x prior i cs)
unfolding words.sign_of words.sign_by is_first
sign_says x prior i [] = record { stop = λ k. go x.site k; tabs = λ k. none x.site k }
  where
    go : (s : Site) → is_stop (words.sign_at_end s) ≡ true → (0 ≡ stop_length s) × ((stop_length s ≡ 0) ⊎ (false ≡ true))
    go site.Double h = absurd (true≢false (sym h))
    go site.Braced h = absurd (true≢false (sym h))
    go site.QuotedBraced h = absurd (true≢false (sym h))
    go s h = (refl, inl refl)

    none : (s : Site) → is_tabs (words.sign_at_end s) ≡ true → x.strip ≡ true
    none site.Word h = absurd (true≢false (sym h))
    none s h = absurd (true≢false (sym h))
sign_says x prior i (c ∷ cs) =
    either_says (words.stops x.site c) (λ e. record { stop = λ k. (refl, inr e); tabs = λ k. absurd (true≢false (sym k)) })
    (λ e. either_says (words.is_stripped x prior c) (λ e. record { stop = λ k. absurd (true≢false (sym k)); tabs = λ k. first x.strip (prior == 10) (c == 9) e })
    (λ e. either_says (words.stands x prior i c cs) (λ e. says_ends (no_end refl refl))
    (λ e. either_says (c == 126) (λ e. says_ends (no_end refl refl)) (λ e. says_ends (meant_ends x i c cs)))))
  where
    first : (s t u : Bool) → s && t && u ≡ true → s ≡ true
    first true t u h = refl
    first false t u h = absurd (true≢false (sym h))

module _ (b : List ℕ) (x : Context) (prior : ℕ) (s : Spot) where
  -- the end of a context is as long as that of its site
  pub stop_size : sign_at b x prior s ≡ sign.Stop → after b x prior s ≡ s.at + stop_length x.site
  unfolding words.token
  stop_size h = ap (λ n. s.at + n) ((sign_says x prior s.at (drop s.at b)).stop (ap is_stop h)).0

  -- quotes and braces end with the byte that closes them
  pub stop_closes : sign_at b x prior s ≡ sign.Stop → (stop_length x.site ≡ 0) ⊎ (is_first (words.stops x.site) (drop s.at b) ≡ true)
  unfolding words.token
  stop_closes h = ((sign_says x prior s.at (drop s.at b)).stop (ap is_stop h)).1

  -- tabs are only where they are stripped
  pub tabs_strip : sign_at b x prior s ≡ sign.Tabs → x.strip ≡ true
  unfolding words.token
  tabs_strip h = (sign_says x prior s.at (drop s.at b)).tabs (ap is_tabs h)

module _ {limit : ℕ} {b : List ℕ} where
  -- parts go over the end of their context
  pub parts_over : {x : Context} {prior : ℕ} {s u : Spot} {ps : List Part} → ReadsParts limit b x prior s u ps → s.at + stop_length x.site ≤ u.at
  unfolding words.token
  parts_over (r.stop {x = x} {prior = prior} {s = s} h) = let e = stop_size b x prior s h in omega arith
  parts_over (r.tabs {x = x} {prior = prior} {s = s} h i) = let k = token_moves b x prior s.at in let more = parts_over i in omega arith
  parts_over (r.more {x = x} {prior = prior} {s = s} h p i) = let k = token_moves b x prior s.at in let f = part_forward p in let more = parts_over i in omega arith

-- The same token

pub prior_placeless : (b : List ℕ) (g : Sign) (j : ℕ) → prior_of b (placeless g) j ≡ prior_of b g j
prior_placeless b (sign.Value p) j = refl
prior_placeless b (sign.Length p) j = refl
prior_placeless b (sign.Use p a c) j = refl
prior_placeless b (sign.Remove p r) j = refl
prior_placeless b g j = refl

module _ {b b' : List ℕ} (c : Copied b b') where
  pub record SameToken (x : Context) (o' prior : ℕ) (s s' : Spot) : Type 0 where
    pub sign : placeless (sign_at b' (turned o' x) prior s') ≡ placeless (sign_at b x prior s)
    pub end : Place c (after b x prior s) (after b' (turned o' x) prior s')

  -- what is read at a spot of the copy, if it ends there
  pub same_token : {x : Context} {o' prior : ℕ} {s s' : Spot} → Moved c s s' → Turns c x o' → s.at ≤ limit_of c → is_sound (sign_at b x prior s) ≡ true
      → (is_stop (sign_at b x prior s) ≡ false → after b x prior s ≤ limit_of c) → SameToken x o' prior s s'
  unfolding words.token
  same_token {x} {o'} {prior} {s} {s'} m turns h sound fits =
      let l = left c m.place h in
      let found = words.sign_of x prior s.at (drop s.at b) in
      let within : is_stop found.0 ≡ false → found.1 ≤ length l.w = (λ k. let f = fits k in let long = l.long in omega arith) in
      let text : words.sign_of x prior s.at (drop s'.at b') ≡ found =
      ⊎_elim
      (λ same. ap (words.sign_of x prior s.at) (l.here ∙ ap (λ r. l.w ++ r) same ∙ sym l.there))
      (λ k.
      let there = l.there ∙ ap (λ r. l.w ++ r) k.there in
      ap (words.sign_of x prior s.at) (l.here ∙ ap (λ r. l.w ++ r) k.here)
      ∙ sign_alike x prior s.at l.w k.c k.r k.r' k.closes (subst (λ t. Sound (words.sign_of x prior s.at t) (length l.w)) there (record { sound = sound; fits = within }))
      ∙ sym (ap (words.sign_of x prior s.at) there))
      c.edge in
      let shift : Same (words.sign_of (turned o' x) prior s'.at (drop s'.at b')) (words.sign_of x prior s.at (drop s'.at b')) =
      subst (λ i. Same (words.sign_of (turned o' x) prior i (drop s'.at b')) (words.sign_of x prior s.at (drop s'.at b'))) (sym m.place.at')
      (subst (λ i. Same (words.sign_of (turned o' x) prior (c.into + m.place.by) (drop s'.at b')) (words.sign_of x prior i (drop s'.at b'))) (sym m.place.at)
      (sign_shift x o' c.from c.into prior m.place.by (drop s'.at b') (λ n q. turns q n))) in
      record {
        sign = shift.sign ∙ ap (λ f. placeless f.0) text;
        end = as_far c found.1 m.place refl (let size = shift.size ∙ ap (λ f. f.1) text in ap (λ n. s'.at + n) size);
      }

  -- the same byte of the copy
  pub same_byte : {i i' : ℕ} → Place c i i' → i < limit_of c → slice_index b' i' ≡ slice_index b i
  same_byte {i = i} {i' = i'} p h =
      let l = left c p (omega arith) in
      let long = l.long in
      get_zero b' i' ∙ ap (λ t. get_or t 0 0) l.here ∙ first l.w (omega arith) ∙ sym (get_zero b i ∙ ap (λ t. get_or t 0 0) l.there)
    where
      get_zero : (xs : List ℕ) (n : ℕ) → get_or xs n 0 ≡ get_or (drop n xs) 0 0
      get_zero xs n = let none : n + 0 ≡ n = omega arith in sym (get_or-drop n xs 0 0 ∙ ap (λ k. get_or xs k 0) none)

      first : (w : List ℕ) → 0 < length w → get_or (w ++ c.rest') 0 0 ≡ get_or (w ++ c.rest) 0 0
      first [] h = absurd (omega arith)
      first (a ∷ w) h = refl

  -- the same byte of a class, up to where the copy ends, and after continuations there
  pub near_first : (p : ℕ → Bool) {i i' : ℕ} → Place c i i' → i ≤ limit_of c → is_first p (drop i' b') ≡ is_first p (drop i b)
  near_first p q h = ⊎_elim (λ same. ap (is_first p) same) (λ alike. first_alike p _ _ alike) (near c q h)

  pub near_behind : (p : ℕ → Bool) {i i' : ℕ} → Place c i i' → i ≤ limit_of c → is_first p (behind_joined (drop i' b')) ≡ is_first p (behind_joined (drop i b))
  near_behind p q h = ⊎_elim (λ same. ap (λ t. is_first p (behind_joined t)) same) (λ alike. behind_alike p _ _ alike) (near c q h)

  -- the same bytes
  pub same_text : {i i' j j' : ℕ} → Place c i i' → Place c j j' → i ≤ j → j ≤ limit_of c → text_of b' (span i' j') ≡ text_of b (span i j)
  same_text {i} {i'} {j} {j'} p q f h =
      let l = left c p (omega arith) in
      let long = l.long in
      let n = j - i in
      let same : j' - i' ≡ n = (let a = p.at in let a' = p.at' in let d = q.at in let d' = q.at' in omega arith) in
      let within : n ≤ length l.w = omega arith in
      ap (λ n. take n (drop i' b')) same ∙ ap (take n) l.here ∙ take-append-le n l.w c.rest' within ∙ sym (ap (take n) l.there ∙ take-append-le n l.w c.rest within)

  -- the byte before what follows a part
  pub same_prior : (g g' : Sign) {j j' : ℕ} → placeless g' ≡ placeless g → Place c j j' → c.from < j → j ≤ limit_of c → prior_of b' g' j' ≡ prior_of b g j
  same_prior g g' {j} {j'} e p more h = sym (prior_placeless b' g' j') ∙ ap (λ g. prior_of b' g j') e ∙ prior_placeless b' g j' ∙ go g
    where
      plain : slice_index b' (j' - 1) ≡ slice_index b (j - 1)
      plain = same_byte (record { by = p.by - 1; at = (let a = p.at in omega arith); at' = (let a = p.at in let a' = p.at' in omega arith) }) (omega arith)

      go : (g : Sign) → prior_of b' g j' ≡ prior_of b g j
      go sign.Plain = plain
      go g = refl

-- a site that a byte closes
abbrev pub is_enclosed : Site → Bool
is_enclosed site.Double = true
is_enclosed site.Braced = true
is_enclosed site.QuotedBraced = true
is_enclosed _ = false

enclosed_length : (s : Site) → is_enclosed s ≡ true → stop_length s ≡ 1
enclosed_length site.Double h = refl
enclosed_length site.Braced h = refl
enclosed_length site.QuotedBraced h = refl
enclosed_length s h = absurd (true≢false (sym h))

enclosed_stops : (s : Site) (cs : List ℕ) → is_enclosed s ≡ true → is_first (words.stops s) cs ≡ true → is_first is_closer cs ≡ true
unfolding is_first
enclosed_stops s [] h k = absurd (true≢false (sym k))
enclosed_stops site.Double (c ∷ cs) h k = grind (arith, nat_tests, k)
enclosed_stops site.Braced (c ∷ cs) h k = grind (arith, nat_tests, k)
enclosed_stops site.QuotedBraced (c ∷ cs) h k = grind (arith, nat_tests, k)
enclosed_stops s (c ∷ cs) h k = absurd (true≢false (sym h))

module _ {limit : ℕ} {b : List ℕ} where
  -- parts in quotes or braces end with a byte that closes them
  pub parts_closed : {x : Context} {prior : ℕ} {s u : Spot} {ps : List Part} → is_enclosed x.site ≡ true → ReadsParts limit b x prior s u ps → is_first is_closer (drop (u.at - 1) b) ≡ true
  parts_closed q (r.stop {x = x} {prior = prior} {s = s} h) =
      let one = enclosed_length x.site q in
      let size = stop_size b x prior s h in
      let here : after b x prior s - 1 ≡ s.at = omega arith in
      ap (λ i. is_first is_closer (drop i b)) here
      ∙ enclosed_stops x.site (drop s.at b) q (⊎_elim (λ none. absurd (one_some (stop_length x.site) one none)) (λ stops. stops) (stop_closes b x prior s h))
    where
      one_some : (n : ℕ) → n ≡ 1 → n ≡ 0 → ⊥
      one_some n e f = absurd (omega arith)
  parts_closed q (r.tabs h i) = parts_closed q i
  parts_closed q (r.more h p i) = parts_closed q i
