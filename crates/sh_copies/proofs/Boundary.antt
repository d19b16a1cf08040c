-- What begins in a whole word before what ends it is the same before a blank, a newline or `)`.
-- POSIX.1-2024, XCU 2.2.1 (line continuation), 2.3 (token recognition), 2.6.1 (tilde expansion).
use Rattle.std.proofs.Common.{◌≡◌, ℕ, zero, suc, ◌+◌, ◌≤◌, ◌<◌, ◌==◌, Bool, true, false, not, ◌&&◌, ◌||◌, if◌then◌else◌, List, [], ◌∷◌, ◌++◌, length, drop, ◌⊎◌, inl, inr, refl, sym, ap, subst, ◌∙◌, arith}
use Rattle.std.proofs.Math.Bool.{and-false}
use Rattle.std.proofs.lemmas.Bool.{cond-true, cond-false, true≢false, eqb-true, and_parts}
use Rattle.std.proofs.lemmas.Bool.Decides.{nat_tests}
use Rattle.std.proofs.lemmas.List.{drop-append-le}
use Rattle.sh_tree.specs.declared.refusal.Form.TheVariants as form
use Rattle.sh_tree.specs.declared.tree.CommandStyle.TheVariants.{Paren}
use Rattle.sh_tree.specs.declared.token.word.Context.{Context}
use Rattle.sh_tree.specs.declared.token.word.Site.TheVariants as site
use Rattle.sh_tree.specs.declared.token.word.Sign.{Sign}
use Rattle.sh_tree.specs.declared.token.word.Sign.TheVariants as sign
use Rattle.sh_tree.specs.standard.language.Bytes.{is_blank, is_newline, is_backslash, ends_token, is_first, is_last_backquote, run, joined_length, behind_joined, is_joined}
use Rattle.sh_tree.specs.standard.language.Words as words
use Rattle.sh_reads.proofs.TakeLemmas.{is_part}
use Rattle.sh_copies.proofs.AlikeBytes.{by_bool, run_yes, run_no, zero_not, not_joined}
use Rattle.sh_copies.proofs.AlikePlain.{plain_yes, plain_no}

-- a byte that ends a word of the canonical text
abbrev pub breaks : ℕ → Bool
breaks c = is_blank c || is_newline c || c == 41

-- a byte that ends a word, or with which what ends it begins
abbrev pub is_edge : ℕ → Bool
is_edge c = ends_token c || c == 92 || c == 96

-- what ends a word begins with such a byte
pub edge_first : (r : List ℕ) → words.ends_joined r ≡ true → is_first (λ c. not (is_edge c)) r ≡ false
unfolding joined_length is_first is_last_backquote
edge_first [] h = refl
edge_first (c ∷ []) h = grind (arith, nat_tests, h)
edge_first (c ∷ d ∷ cs) h = by_bool (is_backslash c && is_newline d)
    (λ yes. grind (arith, nat_tests, yes))
    (λ other.
    let none : joined_length (c ∷ d ∷ cs) ≡ 0 = cond-false _ _ _ other in
    let k : words.ends_joined (c ∷ d ∷ cs) ≡ (ends_token c || false) = rw (none, zero_not (suc (length cs))) refl in
    grind (arith, nat_tests, sym k ∙ h))

pub break_first : (r : List ℕ) → is_first breaks r ≡ true → is_first (λ c. not (is_edge c)) r ≡ false
unfolding is_first
break_first [] h = refl
break_first (c ∷ cs) h = grind (arith, nat_tests, h)

-- a class without such bytes has none of them at its front
pub edge_none : (p : ℕ → Bool) → ((c : ℕ) → is_edge c ≡ true → p c ≡ false) → (r : List ℕ) → is_first (λ c. not (is_edge c)) r ≡ false → is_first p r ≡ false
unfolding is_first
edge_none p none [] h = refl
edge_none p none (c ∷ cs) h = none c (go (is_edge c) h)
  where
    go : (t : Bool) → not t ≡ false → t ≡ true
    go true k = refl
    go false k = absurd (true≢false k)

-- The end of a word that is no part before r: it begins with a line continuation, or is a lone
-- backslash, or a lone backquote that ends the text.
unfoldable pub loose : List ℕ → List ℕ → Bool
loose [] r = false
loose (c ∷ []) r = is_backslash c || (c == 96 && length r == 0)
loose (c ∷ d ∷ cs) r = is_backslash c && is_newline d

pub no_literal : (cs : List ℕ) → words.is_literal_backslash site.Word cs ≡ false
unfolding is_first
no_literal [] = refl
no_literal (d ∷ cs) = and-false (not (length (d ∷ cs) == 0))

left_none : (s t : Bool) → s || t ≡ false → s ≡ false
left_none false t h = refl
left_none true t h = absurd (true≢false h)

pub joined_not : (c : ℕ) (v r rest : List ℕ) → loose (c ∷ v) r ≡ false → joined_length (c ∷ (v ++ rest)) ≡ 0
unfolding joined_length loose
joined_not c [] r rest h = not_joined c rest (left_none _ _ h)
joined_not c (d ∷ v) r rest h = cond-false _ _ _ h

-- no continuation begins before a blank, a newline or `)`
pub break_joined : (r : List ℕ) → is_first breaks r ≡ true → joined_length r ≡ 0
unfolding is_first joined_length
break_joined [] h = refl
break_joined (c ∷ r) h = not_joined c r (grind (arith, nat_tests, h))

abbrev makes_part : Sign × ℕ → Bool
makes_part f = is_part f.0

-- a tilde-prefix
abbrev pub is_prefix : Sign → Bool
is_prefix sign.Tilde = true
is_prefix _ = false

add_one : (n : ℕ) → 1 + n ≡ suc n
add_one n = omega arith

-- the byte before what is left of the text after n bytes, or what stood before the text
unfoldable pub before : ℕ → List ℕ → ℕ → ℕ
before prior [] n = prior
before prior (a ∷ w) zero = prior
before prior (a ∷ w) (suc n) = before a w n

-- a whole word, in which a tilde-prefix may begin at o
module _ (o : ℕ) (colons fields backquotes : Bool) where
  abbrev pub outer : Context
  outer = record { site = site.Word; origin = o; colons = colons; fields = fields; strip = false; body = false; backquotes = backquotes }

  -- a token of so many bytes of the word, which is a part
  pub record Goes (prior i : ℕ) (v r : List ℕ) : Type 0 where
    pub part : is_part (words.sign_of outer prior i (v ++ r)).0 ≡ true
    pub fits : (words.sign_of outer prior i (v ++ r)).1 ≤ length v
    -- and after a tilde-prefix it may be cut
    pub behind : is_prefix (words.sign_of outer prior i (v ++ r)).0 ≡ true → loose (drop (words.sign_of outer prior i (v ++ r)).1 v) r ≡ false

  -- the word ends here, or goes on with a part
  abbrev pub GoesOn : List ℕ → List ℕ → Type 0
  GoesOn v r = (v ≡ []) ⊎ ((prior : ℕ) × (i : ℕ) × Goes prior i v r)

  -- the same, after the byte `prior`
  abbrev pub GoesAt : ℕ → ℕ → List ℕ → List ℕ → Type 0
  GoesAt prior i v r = (v ≡ []) ⊎ Goes prior i v r

  pub goes_on : (prior i : ℕ) (v r : List ℕ) → GoesAt prior i v r → GoesOn v r
  goes_on prior i v r (inl e) = inl e
  goes_on prior i v r (inr g) = inr (prior, i, g)

  -- neither a backslash nor a backquote is literal
  backslash_stands : (prior i : ℕ) (cs : List ℕ) → words.stands outer prior i 92 cs ≡ false
  unfolding words.stands words.is_tilde
  backslash_stands prior i cs = rw (no_literal cs) refl

  backquote_stands : (prior i : ℕ) (cs : List ℕ) → words.stands outer prior i 96 cs ≡ false
  unfolding words.stands words.is_tilde
  backquote_stands prior i cs = refl

  backslash_sign : (prior i : ℕ) (cs : List ℕ) → words.sign_of outer prior i (92 ∷ cs) ≡ words.backslash outer cs
  unfolding words.sign_of words.sign_by words.meant_by
  backslash_sign prior i cs = rw (backslash_stands prior i cs) refl

  backquote_sign : (prior i : ℕ) (cs : List ℕ) → words.sign_of outer prior i (96 ∷ cs) ≡ words.backquoted outer cs
  unfolding words.sign_of words.sign_by words.meant_by
  backquote_sign prior i cs = rw (backquote_stands prior i cs) refl

  pub continuation_none : (cs : List ℕ) → is_part (words.continuation outer cs).0 ≡ false
  unfolding words.continuation
  continuation_none cs = either (words.ends_joined cs)
    where
      either : (t : Bool) → makes_part (if t then (sign.Stop, 0) else (sign.LeftOut form.Continuation, 0)) ≡ false
      either true = refl
      either false = refl

  -- a backslash keeps the byte after it
  pub lone_backslash : (prior i : ℕ) (r : List ℕ) → Goes prior i (92 ∷ []) r → ⊥
  unfolding words.backslash
  lone_backslash prior i [] g = absurd (true≢false (sym g.part ∙ ap (λ f. is_part f.0) (backslash_sign prior i [])))
  lone_backslash prior i (c ∷ r) g = either (is_newline c) refl (sym g.part ∙ ap (λ f. is_part f.0) (backslash_sign prior i (c ∷ r))) (ap (λ f. f.1) (backslash_sign prior i (c ∷ r)))
    where
      either : (t : Bool) → is_newline c ≡ t → true ≡ is_part (if t then words.continuation outer r else (sign.Escaped, 2)).0
          → (words.sign_of outer prior i (92 ∷ c ∷ r)).1 ≡ (if t then words.continuation outer r else (sign.Escaped, 2)).1 → ⊥
      either true e k n = absurd (true≢false (k ∙ continuation_none r))
      either false e k n = let fits = g.fits in absurd (omega arith)

  -- if a word goes on, it may be cut
  pub loose_goes : (v r : List ℕ) → GoesOn v r → loose v r ≡ false
  unfolding loose words.backslash words.backquoted
  loose_goes v r (inl e) = rw e refl
  loose_goes [] r (inr g) = refl
  loose_goes (c ∷ []) r (inr g) = by_bool (is_backslash c)
      (λ is. absurd (lone_backslash g.0 g.1 r (subst (λ k. Goes g.0 g.1 (k ∷ []) r) (eqb-true c 92 is) g.2)))
      (λ other. rw other (ended (c == 96) refl r g.2))
    where
      ended : (t : Bool) → (c == 96) ≡ t → (r : List ℕ) → Goes g.0 g.1 (c ∷ []) r → (t && length r == 0) ≡ false
      ended false e r k = refl
      ended true e [] k =
          let here : Goes g.0 g.1 (96 ∷ []) [] = subst (λ (k : ℕ). Goes g.0 g.1 (k ∷ []) []) (eqb-true c 96 e) k in
          absurd (true≢false (sym here.part ∙ ap (λ f. is_part f.0) (backquote_sign g.0 g.1 [])))
      ended true e (d ∷ r) k = zero_not (length r)
  loose_goes (c ∷ d ∷ v) r (inr g) = by_bool (is_backslash c && is_newline d)
      (λ is.
      let both = and_parts (is_backslash c) (is_newline d) is in
      let here : Goes g.0 g.1 (92 ∷ 10 ∷ v) r = subst (λ (k : ℕ). Goes g.0 g.1 (92 ∷ k ∷ v) r) (eqb-true d 10 both.1) (subst (λ (k : ℕ). Goes g.0 g.1 (k ∷ d ∷ v) r) (eqb-true c 92 both.0) g.2) in
      absurd (true≢false (sym here.part ∙ ap (λ f. is_part f.0) (backslash_sign g.0 g.1 (10 ∷ (v ++ r))) ∙ newline_none (v ++ r))))
      (λ other. other)
    where
      newline_none : (cs : List ℕ) → is_part (words.backslash outer (10 ∷ cs)).0 ≡ false
      newline_none cs = continuation_none cs

  -- Tilde-prefixes

  abbrev ends_prefix : List ℕ → Bool
  ends_prefix cs = length cs == 0 || is_first (λ c. c == 47 || (colons && c == 58) || ends_token c) cs || is_joined cs || is_last_backquote cs

  by_second : (e f j l : Bool) → f ≡ true → e || f || j || l ≡ true
  by_second true f j l h = refl
  by_second false f j l h = rw h refl

  by_third : (e f j l : Bool) → j ≡ true → e || f || j || l ≡ true
  by_third true f j l h = refl
  by_third false true j l h = refl
  by_third false false j l h = rw h refl

  stop_also : (s t : Bool) → t ≡ true → s || t ≡ true
  stop_also true t h = refl
  stop_also false t h = h

  source_ends : (r : List ℕ) → words.ends_joined r ≡ true → ends_prefix r ≡ true
  unfolding joined_length is_first is_last_backquote
  source_ends [] h = refl
  source_ends (c ∷ []) h = grind (arith, nat_tests, h)
  source_ends (c ∷ d ∷ cs) h = by_bool (is_backslash c && is_newline d)
      (λ yes.
      let some : joined_length (c ∷ d ∷ cs) ≡ 2 + joined_length cs = cond-true _ _ _ yes in
      by_third _ (is_first (λ c. c == 47 || (colons && c == 58) || ends_token c) (c ∷ d ∷ cs)) (is_joined (c ∷ d ∷ cs)) false (rw some (ap not (two_not (joined_length cs)))))
      (λ other.
      let none : joined_length (c ∷ d ∷ cs) ≡ 0 = cond-false _ _ _ other in
      let k : words.ends_joined (c ∷ d ∷ cs) ≡ (ends_token c || false) = rw (none, zero_not (suc (length cs))) refl in
      by_second (length (c ∷ d ∷ cs) == 0) _ (is_joined (c ∷ d ∷ cs)) false (stop_also (c == 47 || (colons && c == 58)) (ends_token c) (no_more (ends_token c) (sym k ∙ h))))
    where
      two_not : (n : ℕ) → (2 + n == 0) ≡ false
      two_not n = grind (arith, nat_tests)

      no_more : (t : Bool) → t || false ≡ true → t ≡ true
      no_more true h = refl
      no_more false h = h

  break_ends : (r : List ℕ) → is_first breaks r ≡ true → ends_prefix r ≡ true
  unfolding is_first
  break_ends [] h = absurd (true≢false (sym h))
  break_ends (c ∷ cs) h = by_second (length (c ∷ cs) == 0) _ (is_joined (c ∷ cs)) (is_last_backquote (c ∷ cs)) (stop_also (c == 47 || (colons && c == 58)) (ends_token c) (grind (arith, nat_tests, h)))

  -- no lone backquote ends either text
  last_outer : (c : ℕ) (v r r' : List ℕ) → is_first breaks r' ≡ true → loose (c ∷ v) r ≡ false → (is_last_backquote (c ∷ (v ++ r)) ≡ false) × (is_last_backquote (c ∷ (v ++ r')) ≡ false)
  unfolding is_first is_last_backquote loose
  last_outer c [] [] [] k l = absurd (true≢false (sym k))
  last_outer c [] [] (d ∷ r') k l = (alone (is_backslash c) (c == 96) l, refl)
    where
      alone : (s t : Bool) → s || (t && true) ≡ false → t ≡ false
      alone false false h = refl
      alone false true h = h
      alone true t h = absurd (true≢false h)
  last_outer c [] (d ∷ r) [] k l = absurd (true≢false (sym k))
  last_outer c [] (d ∷ r) (e ∷ r') k l = (refl, refl)
  last_outer c (d ∷ v) r r' k l = (refl, refl)

  prefix_outer : (v r r' : List ℕ) → words.ends_joined r ≡ true → is_first breaks r' ≡ true → loose v r ≡ false → ends_prefix (v ++ r') ≡ ends_prefix (v ++ r)
  unfolding is_first
  prefix_outer [] r r' h k l = break_ends r' k ∙ sym (source_ends r h)
  prefix_outer (c ∷ v) r r' h k l =
      let last = last_outer c v r r' k l in
      rw (zero_not (length (v ++ r')), zero_not (length (v ++ r)), joined_not c v r r' l, joined_not c v r r l, last.0, last.1) refl

  pub run_outer : (p : ℕ → Bool) (w r : List ℕ) → is_first p r ≡ false → (run p (w ++ r) ≡ run p w) × (run p w ≤ length w)
  unfolding is_first
  run_outer p [] [] h = (refl, omega arith)
  run_outer p [] (c ∷ r) h = (run_no p c r h, omega arith)
  run_outer p (a ∷ w) r h = by_bool (p a)
      (λ yes. let m = run_outer p w r h in let within = m.1 in let e = run_yes p a w yes in (run_yes p a (w ++ r) yes ∙ ap suc m.0 ∙ sym e, omega arith))
      (λ other. let e = run_no p a w other in (run_no p a (w ++ r) other ∙ sym e, omega arith))

  pub edge_login : (c : ℕ) → is_edge c ≡ true → words.is_login_byte c ≡ false
  edge_login c h = grind (arith, nat_tests, h)

  -- a tilde-prefix before what ends the word
  pub tilde_outer : (w r r' : List ℕ) → words.ends_joined r ≡ true → is_first breaks r' ≡ true → loose (drop (run words.is_login_byte w) w) r ≡ false
      → words.tilde_length outer (w ++ r') ≡ words.tilde_length outer (w ++ r)
  unfolding words.tilde_length
  tilde_outer w r r' h k l =
      let here = run_outer words.is_login_byte w r' (edge_none words.is_login_byte edge_login r' (break_first r' k)) in
      let there = run_outer words.is_login_byte w r (edge_none words.is_login_byte edge_login r (edge_first r h)) in
      let n = run words.is_login_byte w in
      let v = drop n w in
      rw (here.0, there.0, drop-append-le n w r' here.1, drop-append-le n w r here.1) (ap (λ t. if t then n + 1 else 0) (prefix_outer v r r' h k l))

  -- A literal `$`

  edge_literal : (c : ℕ) → breaks c ≡ true → words.opens_dollar false c ≡ false
  edge_literal c h = grind (arith, nat_tests, h)

  break_literal : (r : List ℕ) → is_first breaks r ≡ true → words.is_literal_dollar false r ≡ true
  unfolding is_first
  break_literal [] h = absurd (true≢false (sym h))
  break_literal (c ∷ cs) h = rw (break_joined (c ∷ cs) h) (ap not (edge_literal c h))

  -- before what ends the word it is literal, and elsewhere if it was
  dollar_outer : (w r r' : List ℕ) → is_first breaks r' ≡ true → (w ≡ [] → words.is_literal_dollar false r ≡ true) → loose w r ≡ false
      → words.is_literal_dollar false (w ++ r') ≡ words.is_literal_dollar false (w ++ r)
  unfolding is_first
  dollar_outer [] r r' k lone l = break_literal r' k ∙ sym (lone refl)
  dollar_outer (c ∷ w) r r' k lone l = rw (joined_not c w r r' l, joined_not c w r r l) refl

  -- a `$` that begins a part
  pub literal_or : (prior i : ℕ) (cs : List ℕ) → words.stands outer prior i 36 cs ≡ words.is_literal_dollar false cs
  unfolding words.stands words.is_tilde
  literal_or prior i cs = refl

  pub dollar_sign : (prior i : ℕ) (cs : List ℕ) → words.is_literal_dollar false cs ≡ false → words.sign_of outer prior i (36 ∷ cs) ≡ words.dollar outer i cs
  unfolding words.sign_of words.sign_by words.meant_by
  dollar_sign prior i cs h = rw (literal_or prior i cs, h) refl

  unjoined : (cs : List ℕ) → is_joined cs ≡ false → joined_length cs ≡ 0
  unjoined cs h = eqb-true (joined_length cs) 0 (go (joined_length cs == 0) h)
    where
      go : (t : Bool) → not t ≡ false → t ≡ true
      go true h = refl
      go false h = absurd (true≢false h)

  -- `$(` takes both bytes
  parenthesis_takes : (i : ℕ) (cs : List ℕ) → is_joined (40 ∷ cs) ≡ false → 1 < (words.dollar outer i (40 ∷ cs)).1
  unfolding words.dollar words.dollar_expansion words.parenthesis
  parenthesis_takes i cs none = rw none (go (is_first (λ c. c == 40) cs) (is_first (λ c. c == 40) (behind_joined cs)))
    where
      takes : Sign × ℕ → Sign × ℕ
      takes f = words.sign_in outer f

      go : (t u : Bool) → 1 < (takes (if t then (sign.Arith, 3) else (if u then (sign.LeftOut form.Continuation, 2) else (sign.Substitution Paren, 2)))).1
      go true u = omega arith
      go false true = omega arith
      go false false = omega arith

  lone_takes : (i : ℕ) (r : List ℕ) → is_first (λ c. not (is_edge c)) r ≡ false → is_first (words.opens_dollar false) r ≡ true → is_joined r ≡ false → 1 < (words.dollar outer i r).1
  unfolding is_first
  lone_takes i [] edge opens none = absurd (true≢false (sym opens))
  lone_takes i (c ∷ cs) edge opens none =
      let is : c ≡ 40 = eqb-true c 40 (grind (arith, nat_tests, edge, opens)) in
      subst (λ k. is_joined (k ∷ cs) ≡ false → 1 < (words.dollar outer i (k ∷ cs)).1) (sym is) (parenthesis_takes i cs) none

  -- such a `$` is followed by what it opens, in the word
  pub dollar_opens : (prior i : ℕ) (v r : List ℕ) → words.ends_joined r ≡ true → Goes prior i (36 ∷ v) r → words.is_literal_dollar false (v ++ r) ≡ false
      → is_first (words.opens_dollar false) v ≡ true
  unfolding is_first words.dollar
  dollar_opens prior i v r h g lit = by_bool (is_joined (v ++ r))
      (λ yes. absurd (true≢false (sym g.part ∙ ap makes_part (dollar_sign prior i (v ++ r) lit) ∙ ap makes_part (cond-true _ _ _ yes))))
      (λ other. go v refl other (opens (is_first (words.opens_dollar false) (v ++ r)) (ap (λ n. not (is_first (words.opens_dollar false) (drop n (v ++ r)))) (sym (unjoined (v ++ r) other)) ∙ lit)))
    where
      opens : (t : Bool) → not t ≡ false → t ≡ true
      opens true h = refl
      opens false h = absurd (true≢false h)

      go : (u : List ℕ) → u ≡ v → is_joined (v ++ r) ≡ false → is_first (words.opens_dollar false) (v ++ r) ≡ true → is_first (words.opens_dollar false) v ≡ true
      go [] e none k =
          let none' : is_joined r ≡ false = ap (λ w. is_joined (w ++ r)) e ∙ none in
          let k' : is_first (words.opens_dollar false) r ≡ true = ap (λ w. is_first (words.opens_dollar false) (w ++ r)) e ∙ k in
          let long = lone_takes i r (edge_first r h) k' none' in
          let size : (words.sign_of outer prior i (36 ∷ r)).1 ≡ (words.dollar outer i r).1 = ap (λ f. f.1) (ap (λ w. words.sign_of outer prior i (36 ∷ (w ++ r))) e ∙ dollar_sign prior i (v ++ r) lit ∙ sym (ap (λ w. words.dollar outer i (w ++ r)) e)) in
          let fits : (words.sign_of outer prior i (36 ∷ r)).1 ≤ 1 = subst (λ (w : List ℕ). (words.sign_of outer prior i (36 ∷ (w ++ r))).1 ≤ length (36 ∷ w)) (sym e) g.fits in
          absurd (omega arith)
      go (c ∷ u) e none k = sym (ap (is_first (words.opens_dollar false)) e) ∙ ap (λ w. is_first (words.opens_dollar false) (w ++ r)) e ∙ k

  pub opens_not_loose : (v r : List ℕ) → is_first (words.opens_dollar false) v ≡ true → loose v r ≡ false
  unfolding is_first loose
  opens_not_loose [] r h = refl
  opens_not_loose (c ∷ []) r h =
      let a : is_backslash c ≡ false = grind (arith, nat_tests, h) in
      let b : (c == 96) ≡ false = grind (arith, nat_tests, h) in
      rw (a, b) refl
  opens_not_loose (c ∷ d ∷ v) r h = let a : is_backslash c ≡ false = grind (arith, nat_tests, h) in rw a refl

  -- Literal bytes

  stands_other : (prior i a : ℕ) (cs cs' : List ℕ) → (a == 126) ≡ false → (a == 36) ≡ false → words.stands outer prior i a cs' ≡ words.stands outer prior i a cs
  unfolding words.stands words.is_tilde
  stands_other prior i a cs cs' t d = rw (t, d, no_literal cs, no_literal cs') refl

  stands_tilde : (prior i : ℕ) (v r r' : List ℕ) → words.ends_joined r ≡ true → is_first breaks r' ≡ true → loose (drop (run words.is_login_byte v) v) r ≡ false
      → words.stands outer prior i 126 (v ++ r') ≡ words.stands outer prior i 126 (v ++ r)
  unfolding words.stands words.is_tilde
  stands_tilde prior i v r r' h k l = rw (tilde_outer v r r' h k l) refl

  tilde_sign : (prior i : ℕ) (cs : List ℕ) → words.stands outer prior i 126 cs ≡ false → words.sign_of outer prior i (126 ∷ cs) ≡ (sign.Tilde, words.tilde_length outer cs)
  unfolding words.sign_of words.sign_by
  tilde_sign prior i cs h = rw h refl

  tilde_size : (cs : List ℕ) → 0 < words.tilde_length outer cs → words.tilde_length outer cs ≡ suc (run words.is_login_byte cs)
  unfolding words.tilde_length
  tilde_size cs some = go (ends_prefix (drop (run words.is_login_byte cs) cs)) some
    where
      go : (t : Bool) → 0 < (if t then run words.is_login_byte cs + 1 else 0) → (if t then run words.is_login_byte cs + 1 else 0) ≡ suc (run words.is_login_byte cs)
      go true h = omega arith
      go false h = absurd (omega arith)

  tilde_takes : (prior i : ℕ) (cs : List ℕ) → words.stands outer prior i 126 cs ≡ false → 0 < words.tilde_length outer cs
  unfolding words.stands words.is_tilde
  tilde_takes prior i cs h = go (words.may_be_tilde outer prior i) (words.tilde_length outer cs) h
    where
      go : (m : Bool) (n : ℕ) → (not (m && not (n == 0)) && true) ≡ false → 0 < n
      go false n h = absurd (true≢false h)
      go true zero h = absurd (true≢false h)
      go true (suc n) h = omega arith

  -- after a tilde-prefix the word may be cut
  pub tilde_behind : (prior i : ℕ) (v r : List ℕ) → words.ends_joined r ≡ true → Goes prior i (126 ∷ v) r → words.stands outer prior i 126 (v ++ r) ≡ false → loose (drop (run words.is_login_byte v) v) r ≡ false
  tilde_behind prior i v r h g none =
      let is = tilde_sign prior i (v ++ r) none in
      let takes = tilde_takes prior i (v ++ r) none in
      let size = tilde_size (v ++ r) takes ∙ ap suc (run_outer words.is_login_byte v r (edge_none words.is_login_byte edge_login r (edge_first r h))).0 in
      subst (λ n. loose (drop n (126 ∷ v)) r ≡ false) size (subst (λ (f : Sign × ℕ). loose (drop f.1 (126 ∷ v)) r ≡ false) is (g.behind (ap (λ f. is_prefix f.0) is)))

  -- if a part begins that is no such byte, none is in the copy
  pub stands_goes : (prior i a : ℕ) (v r r' : List ℕ) → words.ends_joined r ≡ true → is_first breaks r' ≡ true → Goes prior i (a ∷ v) r → words.stands outer prior i a (v ++ r) ≡ false
      → words.stands outer prior i a (v ++ r') ≡ false
  unfolding is_first
  stands_goes prior i a v r r' h k g none = by_bool (a == 126)
      (λ is. subst Claim (sym (eqb-true a 126 is)) (λ g none. stands_tilde prior i v r r' h k (tilde_behind prior i v r h g none) ∙ none) g none)
      (λ no_tilde. by_bool (a == 36)
      (λ is. subst Claim (sym (eqb-true a 36 is)) dollar g none)
      (λ no_dollar. stands_other prior i a (v ++ r) (v ++ r') no_tilde no_dollar ∙ none))
    where
      Claim : ℕ → Type 0
      Claim a = Goes prior i (a ∷ v) r → words.stands outer prior i a (v ++ r) ≡ false → words.stands outer prior i a (v ++ r') ≡ false

      none_opens : is_first (words.opens_dollar false) [] ≡ false
      none_opens = refl

      dollar : Goes prior i (36 ∷ v) r → words.stands outer prior i 36 (v ++ r) ≡ false → words.stands outer prior i 36 (v ++ r') ≡ false
      dollar g none =
          let opens = dollar_opens prior i v r h g (sym (literal_or prior i (v ++ r)) ∙ none) in
          literal_or prior i (v ++ r') ∙ dollar_outer v r r' k (λ e. absurd (true≢false (sym opens ∙ ap (is_first (words.opens_dollar false)) e ∙ none_opens))) (opens_not_loose v r opens) ∙ sym (literal_or prior i (v ++ r)) ∙ none

  -- if a run of such bytes begins, the word may be cut
  run_settled : (v r : List ℕ) (prior i : ℕ) → GoesOn (drop (words.plain_length outer prior i (v ++ r)) v) r → loose v r ≡ false
  unfolding loose
  run_settled [] r prior i g = refl
  run_settled (c ∷ v) r prior i g = by_bool (is_backslash c)
      (λ is. stuck (ap (λ k. words.stands outer prior i k (v ++ r)) (eqb-true c 92 is) ∙ backslash_stands prior i (v ++ r)))
      (λ other. by_bool (c == 96)
      (λ is. stuck (ap (λ k. words.stands outer prior i k (v ++ r)) (eqb-true c 96 is) ∙ backquote_stands prior i (v ++ r)))
      (λ others. go v other others))
    where
      stuck : words.stands outer prior i c (v ++ r) ≡ false → loose (c ∷ v) r ≡ false
      stuck none = loose_goes (c ∷ v) r (subst (λ n. GoesOn (drop n (c ∷ v)) r) (plain_no outer prior i c (v ++ r) none) g)

      go : (u : List ℕ) → is_backslash c ≡ false → (c == 96) ≡ false → loose (c ∷ u) r ≡ false
      go [] a b = rw (a, b) refl
      go (d ∷ u) a b = rw a refl

  login_stands : (prior i c : ℕ) (cs : List ℕ) → words.is_login_byte c ≡ true → words.stands outer prior i c cs ≡ true
  unfolding words.stands words.is_tilde
  login_stands prior i c cs h =
      let a : ends_token c ≡ false = grind (arith, nat_tests, h) in
      let b : (c == 126) ≡ false = grind (arith, nat_tests, h) in
      let s : words.is_special site.Word c ≡ false = grind (arith, nat_tests, h) in
      rw (a, b, s) refl

  -- and after a login name in it
  login_settled : (v r : List ℕ) (prior i : ℕ) → GoesOn (drop (words.plain_length outer prior i (v ++ r)) v) r → loose (drop (run words.is_login_byte v) v) r ≡ false
  unfolding loose
  login_settled [] r prior i g = refl
  login_settled (c ∷ v) r prior i g = by_bool (words.is_login_byte c)
      (λ is.
      let one = plain_yes outer prior i c (v ++ r) (login_stands prior i c (v ++ r) is) in
      let more : GoesOn (drop (words.plain_length outer c (i + 1) (v ++ r)) v) r = subst (λ n. GoesOn (drop n (c ∷ v)) r) (one ∙ add_one (words.plain_length outer c (i + 1) (v ++ r))) g in
      ap (λ n. loose (drop n (c ∷ v)) r) (run_yes words.is_login_byte c v is) ∙ login_settled v r c (i + 1) more)
      (λ other. ap (λ n. loose (drop n (c ∷ v)) r) (run_no words.is_login_byte c v other) ∙ run_settled (c ∷ v) r prior i g)

  -- a byte of such a run is literal in the copy
  stands_run : (prior i a : ℕ) (v r r' : List ℕ) → words.ends_joined r ≡ true → is_first breaks r' ≡ true → GoesOn (drop (words.plain_length outer a (i + 1) (v ++ r)) v) r
      → words.stands outer prior i a (v ++ r) ≡ true → words.stands outer prior i a (v ++ r') ≡ true
  stands_run prior i a v r r' h k g is = by_bool (a == 126)
      (λ tilde. let e = eqb-true a 126 tilde in
      ap (λ c. words.stands outer prior i c (v ++ r')) e ∙ stands_tilde prior i v r r' h k (login_settled v r a (i + 1) g) ∙ sym (ap (λ c. words.stands outer prior i c (v ++ r)) e) ∙ is)
      (λ no_tilde. by_bool (a == 36)
      (λ dollar. let e = eqb-true a 36 dollar in
      let literal = sym (literal_or prior i (v ++ r)) ∙ sym (ap (λ c. words.stands outer prior i c (v ++ r)) e) ∙ is in
      ap (λ c. words.stands outer prior i c (v ++ r')) e ∙ literal_or prior i (v ++ r') ∙ dollar_outer v r r' k (λ none. sym (ap (λ w. words.is_literal_dollar false (w ++ r)) none) ∙ literal) (run_settled v r a (i + 1) g) ∙ literal)
      (λ no_dollar. stands_other prior i a (v ++ r) (v ++ r') no_tilde no_dollar ∙ is))

  break_stops : (prior i : ℕ) (r : List ℕ) → is_first breaks r ≡ true → words.plain_length outer prior i r ≡ 0
  unfolding is_first words.stands
  break_stops prior i [] h = absurd (true≢false (sym h))
  break_stops prior i (c ∷ cs) h = let ends : ends_token c ≡ true = grind (arith, nat_tests, h) in plain_no outer prior i c cs (rw ends refl)

  -- so many bytes are literal before whatever ends the word
  pub plain_outer : (prior i : ℕ) (w r r' : List ℕ) → words.ends_joined r ≡ true → is_first breaks r' ≡ true → (n : ℕ) → words.plain_length outer prior i (w ++ r) ≡ n → n ≤ length w
      → GoesAt (before prior w n) (i + n) (drop n w) r → words.plain_length outer prior i (w ++ r') ≡ n
  unfolding before
  plain_outer prior i [] r r' h k n size fits g = break_stops prior i r' k ∙ omega arith
  plain_outer prior i (a ∷ v) r r' h k zero size fits g = by_bool (words.stands outer prior i a (v ++ r))
      (λ yes. let e = plain_yes outer prior i a (v ++ r) yes in absurd (omega arith))
      (λ other. plain_no outer prior i a (v ++ r') (ended (subst (λ j. GoesAt prior j (a ∷ v) r) (none i) g) other))
    where
      none : (i : ℕ) → i + 0 ≡ i
      none i = omega arith

      ended : GoesAt prior i (a ∷ v) r → words.stands outer prior i a (v ++ r) ≡ false → words.stands outer prior i a (v ++ r') ≡ false
      ended (inl e) none = cc
      ended (inr g) none = stands_goes prior i a v r r' h k g none
  plain_outer prior i (a ∷ v) r r' h k (suc n) size fits g = by_bool (words.stands outer prior i a (v ++ r))
      (λ yes.
      let e = plain_yes outer prior i a (v ++ r) yes in
      let inner : words.plain_length outer a (i + 1) (v ++ r) ≡ n = omega arith in
      let more = subst (λ j. GoesAt (before a v n) j (drop n v) r) (along i n) g in
      plain_yes outer prior i a (v ++ r') (stands_run prior i a v r r' h k (subst (λ m. GoesOn (drop m v) r) (sym inner) (goes_on _ _ _ r more)) yes)
      ∙ ap (λ n. 1 + n) (plain_outer a (i + 1) v r r' h k n inner (omega arith) more) ∙ add_one n)
      (λ other. let e = plain_no outer prior i a (v ++ r) other in absurd (omega arith))
    where
      along : (i n : ℕ) → i + suc n ≡ i + 1 + n
      along i n = omega arith
