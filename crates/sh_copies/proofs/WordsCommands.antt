-- The commands of a substitution are read wherever its bytes are.
-- POSIX.1-2024, XCU 2.6.3 (command substitution).
use Rattle.std.proofs.Common.{◌≡◌, ℕ, zero, suc, ◌+◌, ◌-◌, ◌≤◌, ◌<◌, ◌==◌, Bool, true, false, not, List, [], ◌∷◌, ◌++◌, length, drop, take, inl, inr, refl, sym, ap, ◌∙◌, arith, length-drop, length-take, length-append}
use Rattle.std.proofs.lemmas.Bool.{true≢false}
use Rattle.std.proofs.lemmas.List.{drop-take, drop-drop, take-append-le, append-nil}
use Rattle.sh_tree.specs.declared.tree.CommandStyle.{CommandStyle}
use Rattle.sh_tree.specs.declared.tree.CommandStyle.TheVariants.{Paren, Backquote}
use Rattle.sh_tree.specs.declared.tree.Script.{Script}
use Rattle.sh_tree.specs.declared.token.word.Sign.{Sign}
use Rattle.sh_tree.specs.declared.token.word.Sign.TheVariants as sign
use Rattle.sh_tree.specs.standard.language.Arithmetic.{is_closed}
use Rattle.sh_tree.specs.standard.language.Bytes.{is_first, is_last_backquote, run}
use Rattle.sh_tree.specs.standard.language.Commands.{blanks}
use Rattle.sh_tree.specs.standard.language.Reading.{ReadsScript}
use Rattle.sh_tree.specs.standard.language.States.{Spot, deeper}
use Rattle.sh_tree.specs.standard.language.Substitutions.{no_backquote, backquote_end, commands_text, closes, removes_no_backslash, has_removed_backslash}
use Rattle.sh_reads.proofs.MoveLemmas.{blanks_move}
use Rattle.sh_copies.proofs.AlikeBytes.{by_bool, run_yes, run_no, run_inside}
use Rattle.sh_copies.proofs.Copies.{Copied, limit_of, Place, Counts, Moved, ScriptsMove}
use Rattle.sh_copies.proofs.Forward.{script_forward}
use Rattle.sh_copies.proofs.Places.{left, as_far, moved_deeper}
use Rattle.sh_copies.proofs.WordsTokens.{near_first}

-- a part that such a sign begins ends with a byte that closes it
abbrev pub closing : Sign → ℕ
closing sign.Double = 1
closing (sign.Use p a colon) = 1
closing (sign.Remove p q) = 1
closing sign.Arith = 1
closing (sign.Substitution Paren) = 1
closing _ = 0

-- commands found in the copy, and what closes them there
pub record FoundCommands (limit : ℕ) {b b' : List ℕ} (c : Copied b b') (style : CommandStyle) (quoted : Bool) (e' : ℕ) (s' u : Spot) : Type 0 where
  pub to : Spot
  pub tree : Script
  pub place : Place c u.at to.at
  pub counts : Counts c u to
  pub keeps : removes_no_backslash style quoted b' e' ≡ true
  pub reads : ReadsScript limit (commands_text style b' e') (deeper (blanks s'.joins (commands_text style b' e') e') s') to tree
  pub closed : closes style (commands_text style b' e') to.at ≡ true

-- commands found between backquotes, and what closes them there
pub record FoundBetween (limit : ℕ) (b' : List ℕ) (quoted : Bool) (e e' : ℕ) (s s' u : Spot) : Type 0 where
  pub to : Spot
  pub tree : Script
  pub by : ℕ
  pub at : u.at ≡ e + by
  pub at' : to.at ≡ e' + by
  pub counts : to.count + s.count ≡ u.count + s'.count
  pub keeps : removes_no_backslash Backquote quoted b' e' ≡ true
  pub reads : ReadsScript limit (commands_text Backquote b' e') (deeper (blanks s'.joins (commands_text Backquote b' e') e') s') to tree
  pub closed : closes Backquote (commands_text Backquote b' e') to.at ≡ true

-- a run ends no later than a byte that is not of the class
run_ends : (p : ℕ → Bool) (n : ℕ) (cs : List ℕ) → is_first p (drop n cs) ≡ false → n < length cs → run p cs ≤ n
unfolding is_first
run_ends p n [] h k = absurd (omega arith)
run_ends p zero (c ∷ cs) h k = let e = run_no p c cs h in omega arith
run_ends p (suc n) (c ∷ cs) h k = by_bool (p c)
    (λ yes. let e = run_yes p c cs yes in let rest = run_ends p n cs h (omega arith) in omega arith)
    (λ other. let e = run_no p c cs other in omega arith)

last_first : (cs : List ℕ) → is_last_backquote cs ≡ true → (is_first no_backquote cs ≡ false) × (length cs ≡ 1)
unfolding is_last_backquote is_first
last_first [] h = absurd (true≢false (sym h))
last_first (c ∷ []) h = (ap not h, refl)
last_first (c ∷ d ∷ cs) h = absurd (true≢false (sym h))

first_taken : (p : ℕ → Bool) (n : ℕ) (cs : List ℕ) → is_first p (take (suc n) cs) ≡ is_first p cs
unfolding is_first
first_taken p n [] = refl
first_taken p n (c ∷ cs) = refl

-- Between backquotes

-- the bytes from the opening one over the closing one at u, with which both texts end
record Between (b b' : List ℕ) (e e' u : ℕ) : Type 0 where
  w : List ℕ
  long : e + length w ≡ u + 1
  there : drop e (take (backquote_end b e) b) ≡ w ++ []
  here : drop e' (take (backquote_end b' e') b') ≡ w ++ []

module _ (b b' : List ℕ) (e e' : ℕ) (w rest rest' : List ℕ) (there : drop e b ≡ w ++ rest) (here : drop e' b' ≡ w ++ rest') (u : ℕ) (f : e ≤ u) (within : u + 1 ≤ e + length w)
    (h : is_last_backquote (drop u (take (backquote_end b e) b)) ≡ true) where
  -- so many bytes are before the closing one
  width : ℕ
  width = run no_backquote (drop e b)

  closing_at : e + width ≡ u
  unfolding width
  closing_at =
      let k = run no_backquote (drop e b) in
      let text = take (backquote_end b e) b in
      let last = last_first (drop u text) h in
      let one = last.1 in
      let size = length-drop u text in
      let cut = length-take (backquote_end b e) b in
      let n = u - e in
      let m = k - n in
      let more : n ≤ k = omega arith in
      let ends : backquote_end b e ≡ u + suc m = omega arith in
      let first : is_first no_backquote (drop n (drop e b)) ≡ false =
      (let far : e + n ≡ u = omega arith in
      ap (is_first no_backquote) (drop-drop n e b ∙ ap (λ i. drop i b) far)
      ∙ sym (ap (λ i. is_first no_backquote (drop u (take i b))) ends ∙ ap (is_first no_backquote) (drop-take u (suc m) b) ∙ first_taken no_backquote m (drop u b)) ∙ last.0) in
      let inside : n < length (drop e b) = (let parts = ap length there in let both = length-append w rest in omega arith) in
      let less = run_ends no_backquote n (drop e b) first inside in
      omega arith

  same_width : run no_backquote (drop e' b') ≡ width
  unfolding width
  same_width =
      let at = closing_at in
      let size : run no_backquote (drop e b) ≡ run no_backquote (w ++ rest) = ap (run no_backquote) there in
      ap (run no_backquote) here ∙ run_inside no_backquote w rest rest' (omega arith) ∙ sym size

  -- both texts end with the closing one
  between : Between b b' e e' u
  unfolding width
  between =
      let at = closing_at in
      let k = width in
      let far : (i : ℕ) → i + k + 1 ≡ i + (k + 1) = (λ i. omega arith) in
      let cut : (i : ℕ) (text r : List ℕ) → drop i text ≡ w ++ r → drop i (take (i + (k + 1)) text) ≡ take (k + 1) w ++ [] =
      (λ i text r stands. drop-take i (k + 1) text ∙ ap (take (k + 1)) stands ∙ take-append-le (k + 1) w r (omega arith) ∙ sym (append-nil (take (k + 1) w))) in
      record {
        w = take (k + 1) w;
        long = let size = length-take (k + 1) w in omega arith;
        there = ap (λ n. drop e (take n b)) (far e) ∙ cut e b rest there;
        here = ap (λ n. drop e' (take n b')) (ap (λ n. e' + n + 1) same_width ∙ far e') ∙ cut e' b' rest' here;
      }

module _ {limit n : ℕ} (scripts : ScriptsMove limit n) where
  parenthesis_move : {b b' : List ℕ} (c : Copied b b') {s s' u : Spot} {t : Script} {e e' : ℕ} (quoted : Bool) → Moved c s s' → Place c e e' → s.at ≤ e
      → ReadsScript limit b (deeper (blanks s.joins b e) s) u t → is_closed b u.at ≡ true → u.at + 1 < s.at + suc n → u.at ≤ limit_of c
      → FoundCommands limit c Paren quoted e' s' u
  unfolding is_closed commands_text closes removes_no_backslash
  parenthesis_move {b} {b'} c quoted m q f i h size within =
      let k = scripts.script c (moved_deeper c m q) i (omega arith) (omega arith) (inr h) in
      record { to = k.to; tree = k.tree; place = k.moved.place; counts = k.moved.counts; keeps = refl; reads = k.reads; closed = near_first c (λ c. c == 41) k.moved.place within ∙ h }

  -- between backquotes, whatever follows them
  pub backquotes_move : (b b' : List ℕ) (s s' : Spot) {u : Spot} {t : Script} (e e' : ℕ) (quoted : Bool) (w rest rest' : List ℕ) → drop e b ≡ w ++ rest → drop e' b' ≡ w ++ rest'
      → s'.depth ≡ s.depth → s'.joins ≡ s.joins → s'.tabs ≡ s.tabs → (s'.quiet ≡ true → s.quiet ≡ true) → s.at ≤ e
      → removes_no_backslash Backquote quoted b e ≡ true → ReadsScript limit (commands_text Backquote b e) (deeper (blanks s.joins (commands_text Backquote b e) e) s) u t
      → closes Backquote (commands_text Backquote b e) u.at ≡ true → u.at + 1 < s.at + suc n → u.at + 1 ≤ e + length w
      → FoundBetween limit b' quoted e e' s s' u
  unfolding commands_text closes removes_no_backslash
  backquotes_move b b' s s' {u} e e' quoted w rest rest' there here depth joins tabs quiet f k i h size within =
      let forward = script_forward i in
      let blank = blanks_move s.joins (take (backquote_end b e) b) e in
      let text = between b b' e e' w rest rest' there here u.at (omega arith) within h in
      let long = text.long in
      let copy : Copied (take (backquote_end b e) b) (take (backquote_end b' e') b') = record { from = e; into = e'; w = text.w; rest = []; rest' = []; there = text.there; here = text.here; edge = inl refl; began = s.count; began' = s'.count } in
      let first : Place copy e e' = record { by = 0; at = omega arith; at' = omega arith } in
      let inner : Moved copy (deeper e s) (deeper e' s') = record { place = first; depth = ap (λ d. d + 1) depth; joins = joins; tabs = tabs; quiet = quiet; counts = omega arith } in
      let found = scripts.script copy inner i (omega arith) (omega arith) (inl refl) in
      let l = left copy found.moved.place (omega arith) in
      record {
        to = found.to;
        tree = found.tree;
        by = found.moved.place.by;
        at = found.moved.place.at;
        at' = found.moved.place.at';
        counts = found.moved.counts;
        keeps = ap (λ t. not (has_removed_backslash quoted t)) (text.here ∙ sym text.there) ∙ k;
        reads = found.reads;
        closed = ap is_last_backquote (l.here ∙ sym l.there) ∙ h;
      }

  pub commands_move : {b b' : List ℕ} (c : Copied b b') {s s' u : Spot} {t : Script} {e e' : ℕ} (style : CommandStyle) (quoted : Bool) → Moved c s s' → Place c e e' → s.at ≤ e
      → removes_no_backslash style quoted b e ≡ true → ReadsScript limit (commands_text style b e) (deeper (blanks s.joins (commands_text style b e) e) s) u t
      → closes style (commands_text style b e) u.at ≡ true → u.at + 1 < s.at + suc n → u.at + 1 ≤ limit_of c + closing (sign.Substitution style)
      → FoundCommands limit c style quoted e' s' u
  unfolding commands_text closes removes_no_backslash
  commands_move c Paren quoted m q f k i h size within = parenthesis_move c quoted m q f i h size (omega arith)
  commands_move {b} {b'} c {s} {s'} {u} {e = e} {e' = e'} Backquote quoted m q f k i h size within =
      let l = left c q (let forward = script_forward i in let blank = blanks_move s.joins (take (backquote_end b e) b) e in omega arith) in
      let found = backquotes_move b b' s s' e e' quoted l.w c.rest c.rest' l.there l.here m.depth m.joins m.tabs m.quiet f k i h size (let long = l.long in omega arith) in
      record { to = found.to; tree = found.tree; place = as_far c found.by q found.at found.at'; counts = (let k = found.counts in let k' = m.counts in omega arith); keeps = found.keeps; reads = found.reads; closed = found.closed }
