-- A whole word of the text is one wherever its bytes are before what may follow a word.
-- POSIX.1-2024, XCU 2.2 (quoting), 2.3 (token recognition), 2.6 (word expansions).
use Rattle.std.proofs.Common.{◌≡◌, ℕ, suc, ◌+◌, ◌≤◌, ◌==◌, Bool, true, false, ◌||◌, if◌then◌else◌, List, [], ◌∷◌, length, drop, ◌⊎◌, inl, inr, refl, sym, ap, ◌∙◌, arith}
use Rattle.std.proofs.lemmas.Bool.{true≢false, cond-true, cond-false, eqb-true}
use Rattle.std.proofs.lemmas.Bool.Decides.{nat_tests}
use Rattle.sh_tree.specs.declared.refusal.Form.TheVariants as form
use Rattle.sh_tree.specs.declared.tree.CommandStyle.TheVariants.{Backquote}
use Rattle.sh_tree.specs.declared.tree.Part.{Part}
use Rattle.sh_tree.specs.declared.token.word.Context.{Context}
use Rattle.sh_tree.specs.declared.token.word.Sign.{Sign}
use Rattle.sh_tree.specs.declared.token.word.Sign.TheVariants as sign
use Rattle.sh_tree.specs.standard.language.Bytes.{is_newline, is_backslash, is_first, is_last_backquote, ends_token, joined_length}
use Rattle.sh_tree.specs.standard.language.Reading as reads
use Rattle.sh_tree.specs.standard.language.Reading.{after, ReadsParts, ReadsPart}
use Rattle.sh_tree.specs.standard.language.States.{Spot}
use Rattle.sh_tree.specs.standard.language.Words as words
use Rattle.sh_reads.proofs.BeginningLemmas.{dollar_goes, single_goes}
use Rattle.sh_reads.proofs.TakeLemmas.{part_begins, token_takes, is_part}
use Rattle.sh_copies.specs.Copied.{counted}
use Rattle.sh_copies.proofs.AlikeBytes.{by_bool, zero_not, not_joined}
use Rattle.sh_copies.proofs.AlikeTokens.{is_stop, goes_no_stop}
use Rattle.sh_copies.proofs.Boundary.{outer}
use Rattle.sh_copies.proofs.WordsTokens.{stop_size, tabs_strip}

-- Spots

-- parts leave all of a spot but its place and the count of commands
module _ {limit : ℕ} {b : List ℕ} where
  part_keeps : {x : Context} {g : Sign} {s u : Spot} {e : ℕ} {p : Part} → ReadsPart limit b x g s e u p → u ≡ counted u.at u.count s
  part_keeps reads.plain = refl
  part_keeps reads.escaped = refl
  part_keeps reads.joined = refl
  part_keeps reads.single_quoted = refl
  part_keeps reads.tilde = refl
  part_keeps reads.value = refl
  part_keeps reads.length_value = refl
  part_keeps (reads.double_quoted i) = refl
  part_keeps (reads.use_word d i) = refl
  part_keeps (reads.removal d i) = refl
  part_keeps (reads.arithmetic d i h k) = refl
  part_keeps (reads.substitution d k i h) = refl

  pub parts_keep : {x : Context} {prior : ℕ} {s u : Spot} {ps : List Part} → ReadsParts limit b x prior s u ps → u ≡ counted u.at u.count s
  parts_keep (reads.stop h) = refl
  parts_keep (reads.tabs h i) = parts_keep i
  parts_keep {u = u} (reads.more h i j) = parts_keep j ∙ ap (counted u.at u.count) (part_keeps i)

-- The end of a word

by_second : (e f l : Bool) → f ≡ true → e || f || l ≡ true
by_second true f l h = refl
by_second false f l h = rw h refl

-- continuations after which a word ends
joined_ends : (rest : List ℕ) → words.ends_joined rest ≡ true → words.ends_joined (92 ∷ 10 ∷ rest) ≡ true
unfolding joined_length
joined_ends rest h = ap (λ n. length (drop n (92 ∷ 10 ∷ rest)) == 0 || is_first ends_token (drop n (92 ∷ 10 ∷ rest)) || is_last_backquote (drop n (92 ∷ 10 ∷ rest))) (two (joined_length rest)) ∙ h
  where
    two : (n : ℕ) → 2 + n ≡ suc (suc n)
    two n = omega arith

nothing_ends : words.ends_joined [] ≡ true
unfolding joined_length
nothing_ends = refl

module _ (o : ℕ) (colons fields backquotes : Bool) where
  abbrev x : Context
  x = outer o colons fields backquotes

  backslash_edge : (cs : List ℕ) → is_stop (words.backslash x cs).0 ≡ true → words.ends_joined (92 ∷ cs) ≡ true
  unfolding words.backslash words.continuation
  backslash_edge [] h = absurd (true≢false (sym h))
  backslash_edge (d ∷ rest) h = by_bool (is_newline d)
      (λ line. ap (λ d. words.ends_joined (92 ∷ d ∷ rest)) (eqb-true d 10 line) ∙ joined_ends rest (go (words.ends_joined rest) (sym (ap stops (cond-true _ _ _ line)) ∙ h)))
      (λ other. absurd (true≢false (sym h ∙ ap stops (cond-false _ _ _ other))))
    where
      stops : Sign × ℕ → Bool
      stops f = is_stop f.0

      go : (t : Bool) → stops (if t then (sign.Stop, 0) else (sign.LeftOut form.Continuation, 0)) ≡ true → t ≡ true
      go true h = refl
      go false h = absurd (true≢false (sym h))

  backquote_edge : (cs : List ℕ) → is_stop (words.backquoted x cs).0 ≡ true → words.ends_joined (96 ∷ cs) ≡ true
  unfolding words.backquoted joined_length is_first is_last_backquote
  backquote_edge [] h = refl
  backquote_edge (d ∷ cs) h = absurd (true≢false (sym h ∙ ap stops (cond-false _ _ _ (zero_not (length cs))) ∙ go backquotes))
    where
      stops : Sign × ℕ → Bool
      stops f = is_stop f.0

      go : (t : Bool) → stops (if t then (sign.Substitution Backquote, 1) else (sign.LeftOut form.Backquoted, 0)) ≡ false
      go true = refl
      go false = refl

  -- what may end a word is where it ends
  stop_edge : (prior i : ℕ) (cs : List ℕ) → is_stop (words.sign_of x prior i cs).0 ≡ true → words.ends_joined cs ≡ true
  unfolding words.sign_of words.sign_by words.meant_by is_first
  stop_edge prior i [] h = nothing_ends
  stop_edge prior i (c ∷ cs) h = by_bool (ends_token c)
      (λ ends.
      let slash : is_backslash c ≡ false = grind (arith, nat_tests, ends) in
      ap (λ n. length (drop n (c ∷ cs)) == 0 || is_first ends_token (drop n (c ∷ cs)) || is_last_backquote (drop n (c ∷ cs))) (not_joined c cs slash) ∙ by_second (length (c ∷ cs) == 0) (ends_token c) (is_last_backquote (c ∷ cs)) ends)
      (λ goes. by_bool (words.stands x prior i c cs)
      (λ stands. let e : S ≡ (sign.Plain, words.plain_length x prior i (c ∷ cs)) = rw (goes, stands) refl in absurd (true≢false (sym h ∙ ap stops e)))
      (λ none. by_bool (c == 126)
      (λ tilde. let e : S ≡ (sign.Tilde, words.tilde_length x cs) = rw (goes, none, tilde) refl in absurd (true≢false (sym h ∙ ap stops e)))
      (λ no_tilde. by_bool (c == 92)
      (λ slash.
      let e : S ≡ words.backslash x cs = rw (goes, none, no_tilde, slash) refl in
      ap (λ c. words.ends_joined (c ∷ cs)) (eqb-true c 92 slash) ∙ backslash_edge cs (sym (ap stops e) ∙ h))
      (λ no_slash. by_bool (c == 39)
      (λ quote. let e : S ≡ words.single cs = rw (goes, none, no_tilde, no_slash, quote) refl in absurd (true≢false (sym h ∙ ap stops e ∙ goes_no_stop _ (single_goes cs))))
      (λ no_quote. by_bool (c == 34)
      (λ double. let e : S ≡ (sign.Double, 1) = rw (goes, none, no_tilde, no_slash, no_quote, double) refl in absurd (true≢false (sym h ∙ ap stops e)))
      (λ no_double. by_bool (c == 96)
      (λ back.
      let e : S ≡ words.backquoted x cs = rw (goes, none, no_tilde, no_slash, no_quote, no_double, back) refl in
      ap (λ c. words.ends_joined (c ∷ cs)) (eqb-true c 96 back) ∙ backquote_edge cs (sym (ap stops e) ∙ h))
      (λ no_back.
      let e : S ≡ words.dollar x i cs = rw (goes, none, no_tilde, no_slash, no_quote, no_double, no_back) refl in
      absurd (true≢false (sym h ∙ ap stops e ∙ goes_no_stop _ (dollar_goes x i cs))))))))))
    where
      stops : Sign × ℕ → Bool
      stops f = is_stop f.0

      S : Sign × ℕ
      S = words.sign_of x prior i (c ∷ cs)

  module _ {limit : ℕ} {b : List ℕ} where
    -- what may end a word follows it
    pub parts_edge : {prior : ℕ} {s u : Spot} {ps : List Part} → ReadsParts limit b x prior s u ps → words.ends_joined (drop u.at b) ≡ true
    unfolding words.token
    parts_edge (reads.stop {prior = prior} {s = s} h) =
        let end : after b x prior s ≡ s.at = stop_size b x prior s h ∙ omega arith in
        ap (λ i. words.ends_joined (drop i b)) end ∙ stop_edge prior s.at (drop s.at b) (ap is_stop h)
    parts_edge (reads.tabs {prior = prior} {s = s} h i) = parts_edge i
    parts_edge (reads.more h i j) = parts_edge j

    -- the word ends in the text, or is empty
    pub parts_end : {prior : ℕ} {s u : Spot} {ps : List Part} → ReadsParts limit b x prior s u ps → (s.at ≤ length b) ⊎ (u.at ≡ s.at)
    parts_end (reads.stop {prior = prior} {s = s} h) = inr (stop_size b x prior s h ∙ omega arith)
    parts_end (reads.tabs {prior = prior} {s = s} h i) = absurd (true≢false (sym (tabs_strip b x prior s h)))
    parts_end (reads.more {prior = prior} {s = s} h i j) = let takes = (token_takes b x prior s.at (ap is_part h ∙ part_begins i)).1 in inl (omega arith)
