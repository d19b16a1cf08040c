-- What begins in a word before a byte that closes its context is the same whatever follows that
-- byte.
-- POSIX.1-2024, XCU 2.2 (quoting), 2.6 (word expansions).
use Rattle.std.proofs.Common.{◌≡◌, ℕ, suc, ◌+◌, ◌≤◌, ◌<◌, ◌==◌, Bool, true, false, not, ◌&&◌, if◌then◌else◌, nat_lt, List, [], ◌∷◌, ◌++◌, length, drop, ◌⊎◌, inl, inr, refl, sym, ap, subst, ◌∙◌, arith, length-append}
use Rattle.std.proofs.Math.Bool.{and-false}
use Rattle.std.proofs.lemmas.Bool.{cond-true, cond-false, true≢false, lt-ltb, eqb-true}
use Rattle.std.proofs.lemmas.Bool.Decides.{nat_tests}
use Rattle.sh_tree.specs.declared.tree.SingleStyle.TheVariants as style
use Rattle.sh_tree.specs.declared.refusal.Fault.TheVariants as fault
use Rattle.sh_tree.specs.declared.refusal.Form.TheVariants as form
use Rattle.sh_tree.specs.declared.token.word.Context.{Context}
use Rattle.sh_tree.specs.declared.token.word.Site.{Site}
use Rattle.sh_tree.specs.declared.token.word.Site.TheVariants as site
use Rattle.sh_tree.specs.declared.token.word.Sign.{Sign}
use Rattle.sh_tree.specs.declared.token.word.Sign.TheVariants as sign
use Rattle.sh_tree.specs.standard.language.Bytes.{is_tab, is_name_start, is_name_byte, is_first, is_joined, ends_token, name_length, run}
use Rattle.sh_tree.specs.standard.language.Words as words
use Rattle.sh_reads.proofs.BeginningLemmas.{ends, dollar_goes}
use Rattle.sh_copies.proofs.AlikeBytes.{is_closer, closer_plain, by_bool, run_inside, Alike, first_alike, joined_alike, some_alike, last_alike, by_first, run_alike, behind_run, past_joined}
use Rattle.sh_copies.proofs.AlikePlain.{stands_alike, closer_stands, plain_yes, plain_alike, tilde_alike}
use Rattle.sh_copies.proofs.AlikeSigns.{name_alike, named_alike, braced_alike, parenthesis_alike}

-- no fault, no refused form, and the text does not end where the context may not
abbrev pub is_sound : Sign → Bool
is_sound sign.Open = false
is_sound (sign.Fault f) = false
is_sound (sign.LeftOut f) = false
is_sound _ = true

-- Quotes that end in the copy

abbrev pub is_single : Sign → Bool
is_single (sign.Single s) = true
is_single _ = false

pub single_moves : (w r r' : List ℕ) → is_single (words.single (w ++ r)).0 ≡ true → (words.single (w ++ r)).1 ≤ length w + 1 → words.single (w ++ r') ≡ words.single (w ++ r)
unfolding words.single
single_moves w r r' good fits = go (nat_lt n (length (w ++ r))) refl good fits
  where
    n : ℕ
    n = run (λ c. not (c == 39)) (w ++ r)

    longer : (w r : List ℕ) (n : ℕ) → n < length w → nat_lt n (length (w ++ r)) ≡ true
    longer w r n h = lt-ltb n (length (w ++ r)) (omega (arith, length-append w r))

    found : Bool → Sign × ℕ
    found t = if t then (sign.Single style.Plain, n + 2) else (sign.Fault fault.OpenSingle, 0)

    go : (t : Bool) → nat_lt n (length (w ++ r)) ≡ t → is_single (found t).0 ≡ true → (found t).1 ≤ length w + 1 → words.single (w ++ r') ≡ found t
    go false e good fits = absurd (true≢false (sym good))
    go true e good fits =
        let inside : n < length w = omega arith in
        let size : run (λ c. not (c == 39)) (w ++ r') ≡ n = run_inside (λ c. not (c == 39)) w r r' inside in
        ap (λ k. if nat_lt k (length (w ++ r')) then (sign.Single style.Plain, k + 2) else (sign.Fault fault.OpenSingle, 0)) size ∙ cond-true _ _ _ (longer w r' n inside)

told_single : (n : ℕ) (f : Sign × ℕ) → is_single (words.told_or n f).0 ≡ true → (is_single f.0 ≡ true) × ((words.told_or n f).1 ≡ n + f.1)
told_single n (sign.Single s, m) h = (refl, refl)
told_single n (sign.LeftOut f, m) h = absurd (true≢false (sym h))
told_single n (g, m) h = absurd (true≢false (sym h))

quoted_end : (c : ℕ) (cs : List ℕ) → (c == 39) ≡ true → words.dollar_quoted (c ∷ cs) ≡ (sign.Single style.Dollar, 1)
unfolding words.dollar_quoted
quoted_end c [] h = cond-true _ _ _ h
quoted_end c (d ∷ cs) h = cond-true _ _ _ h

quoted_escape : (c d : ℕ) (cs : List ℕ) → (c == 39) ≡ false → (c == 92) ≡ true → words.dollar_quoted (c ∷ d ∷ cs) ≡ (if words.is_dollar_escape d then words.told_or 2 (words.dollar_quoted cs) else (sign.LeftOut form.DollarEscape, 0))
unfolding words.dollar_quoted
quoted_escape c d cs h k = cond-false _ _ _ h ∙ cond-true _ _ _ k

quoted_other : (c d : ℕ) (cs : List ℕ) → (c == 39) ≡ false → (c == 92) ≡ false → words.dollar_quoted (c ∷ d ∷ cs) ≡ words.told_or 1 (words.dollar_quoted (d ∷ cs))
unfolding words.dollar_quoted
quoted_other c d cs h k = cond-false _ _ _ h ∙ cond-false _ _ _ k

quoted_lone : (c : ℕ) → (c == 39) ≡ false → is_single (words.dollar_quoted (c ∷ [])).0 ≡ false
unfolding words.dollar_quoted
quoted_lone c h = rw h refl

abbrev single_found : Sign × ℕ → Bool
single_found f = is_single f.0

-- such quotes take a byte
quoted_takes : (cs : List ℕ) → is_single (words.dollar_quoted cs).0 ≡ true → 0 < (words.dollar_quoted cs).1
unfolding words.dollar_quoted
quoted_takes [] h = absurd (true≢false (sym h))
quoted_takes (c ∷ []) h = by_bool (c == 39)
    (λ end. rw (quoted_end c [] end) (omega arith))
    (λ other. absurd (true≢false (sym h ∙ quoted_lone c other)))
quoted_takes (c ∷ d ∷ cs) h = by_bool (c == 39)
    (λ end. rw (quoted_end c (d ∷ cs) end) (omega arith))
    (λ other. by_bool (c == 92)
    (λ slash. by_bool (words.is_dollar_escape d)
    (λ escape. more 2 (words.dollar_quoted cs) (quoted_escape c d cs other slash ∙ cond-true _ _ _ escape) (omega arith))
    (λ bad. absurd (true≢false (sym h ∙ ap single_found (quoted_escape c d cs other slash ∙ cond-false _ _ _ bad)))))
    (λ plain. more 1 (words.dollar_quoted (d ∷ cs)) (quoted_other c d cs other plain) (omega arith)))
  where
    more : (n : ℕ) (f : Sign × ℕ) → words.dollar_quoted (c ∷ d ∷ cs) ≡ words.told_or n f → 0 < n → 0 < (words.dollar_quoted (c ∷ d ∷ cs)).1
    more n f e some =
        let t = told_single n f (ap single_found (sym e) ∙ h) in
        let size : (words.dollar_quoted (c ∷ d ∷ cs)).1 ≡ n + f.1 = ap (λ g. g.1) e ∙ t.1 in
        omega arith

-- quotes that the copy holds
pub quoted_moves : (w r r' : List ℕ) → is_single (words.dollar_quoted (w ++ r)).0 ≡ true → (words.dollar_quoted (w ++ r)).1 ≤ length w → words.dollar_quoted (w ++ r') ≡ words.dollar_quoted (w ++ r)
quoted_moves [] r r' h fits = let some = quoted_takes r h in absurd (omega arith)
quoted_moves (c ∷ []) r r' h fits = by_bool (c == 39)
    (λ end. quoted_end c r' end ∙ sym (quoted_end c r end))
    (λ other. absurd (lone r other h fits))
  where
    longer : (n : ℕ) (f : Sign × ℕ) (d : ℕ) (cs : List ℕ) → words.dollar_quoted (c ∷ d ∷ cs) ≡ words.told_or n f → is_single (words.dollar_quoted (c ∷ d ∷ cs)).0 ≡ true → (words.dollar_quoted (c ∷ d ∷ cs)).1 ≤ 1
        → 0 < n → (is_single f.0 ≡ true → 0 < f.1) → ⊥
    longer n f d cs e h fits some takes =
        let t = told_single n f (ap single_found (sym e) ∙ h) in
        let size : (words.dollar_quoted (c ∷ d ∷ cs)).1 ≡ n + f.1 = ap (λ g. g.1) e ∙ t.1 in
        let one = takes t.0 in
        absurd (omega arith)

    lone : (r : List ℕ) → (c == 39) ≡ false → is_single (words.dollar_quoted (c ∷ r)).0 ≡ true → (words.dollar_quoted (c ∷ r)).1 ≤ 1 → ⊥
    lone [] other h fits = absurd (true≢false (sym h ∙ quoted_lone c other))
    lone (d ∷ cs) other h fits = by_bool (c == 92)
        (λ slash. by_bool (words.is_dollar_escape d)
        (λ escape. longer 2 (words.dollar_quoted cs) d cs (quoted_escape c d cs other slash ∙ cond-true _ _ _ escape) h fits (omega arith) (quoted_takes cs))
        (λ bad. absurd (true≢false (sym h ∙ ap single_found (quoted_escape c d cs other slash ∙ cond-false _ _ _ bad)))))
        (λ plain. longer 1 (words.dollar_quoted (d ∷ cs)) d cs (quoted_other c d cs other plain) h fits (omega arith) (quoted_takes (d ∷ cs)))
quoted_moves (c ∷ d ∷ w) r r' h fits = by_bool (c == 39)
    (λ end. quoted_end c (d ∷ (w ++ r')) end ∙ sym (quoted_end c (d ∷ (w ++ r)) end))
    (λ other. by_bool (c == 92)
    (λ slash. by_bool (words.is_dollar_escape d)
    (λ escape.
    let e = quoted_escape c d (w ++ r) other slash ∙ cond-true _ _ _ escape in
    let t = told_single 2 (words.dollar_quoted (w ++ r)) (ap single_found (sym e) ∙ h) in
    let size : (words.dollar_quoted (c ∷ d ∷ (w ++ r))).1 ≡ 2 + (words.dollar_quoted (w ++ r)).1 = ap (λ g. g.1) e ∙ t.1 in
    quoted_escape c d (w ++ r') other slash ∙ cond-true _ _ _ escape ∙ ap (words.told_or 2) (quoted_moves w r r' t.0 (omega arith)) ∙ sym e)
    (λ bad. absurd (true≢false (sym h ∙ ap single_found (quoted_escape c d (w ++ r) other slash ∙ cond-false _ _ _ bad)))))
    (λ plain.
    let e = quoted_other c d (w ++ r) other plain in
    let t = told_single 1 (words.dollar_quoted (d ∷ (w ++ r))) (ap single_found (sym e) ∙ h) in
    let size : (words.dollar_quoted (c ∷ d ∷ (w ++ r))).1 ≡ 1 + (words.dollar_quoted (d ∷ (w ++ r))).1 = ap (λ g. g.1) e ∙ t.1 in
    quoted_other c d (w ++ r') other plain ∙ ap (words.told_or 1) (quoted_moves (d ∷ w) r r' t.0 (omega arith)) ∙ sym e))

abbrev sound_found : Sign × ℕ → Bool
sound_found f = is_sound f.0

told_part : (n : ℕ) (f : Sign × ℕ) → is_sound (words.told_or n f).0 ≡ is_sound f.0
told_part n (sign.Single s, m) = refl
told_part n (sign.LeftOut f, m) = refl
told_part n (g, m) = refl

told_is_single : (n : ℕ) (f : Sign × ℕ) → is_single f.0 ≡ true → is_single (words.told_or n f).0 ≡ true
told_is_single n (sign.Single s, m) h = refl
told_is_single n (g, m) h = absurd (true≢false (sym h))

-- what follows `$'` is quotes, or is refused
quoted_part : (cs : List ℕ) → is_sound (words.dollar_quoted cs).0 ≡ true → is_single (words.dollar_quoted cs).0 ≡ true
unfolding words.dollar_quoted
quoted_part [] h = absurd (true≢false (sym h))
quoted_part (c ∷ []) h = by_bool (c == 39)
    (λ end. ap single_found (quoted_end c [] end))
    (λ other. absurd (true≢false (sym h ∙ ap sound_found (cond-false _ _ _ other))))
quoted_part (c ∷ d ∷ cs) h = by_bool (c == 39)
    (λ end. ap single_found (quoted_end c (d ∷ cs) end))
    (λ other. by_bool (c == 92)
    (λ slash. by_bool (words.is_dollar_escape d)
    (λ escape.
    let e = quoted_escape c d cs other slash ∙ cond-true _ _ _ escape in
    ap single_found e ∙ told_is_single 2 (words.dollar_quoted cs) (quoted_part cs (sym (told_part 2 (words.dollar_quoted cs)) ∙ ap sound_found (sym e) ∙ h)))
    (λ bad. absurd (true≢false (sym h ∙ ap sound_found (quoted_escape c d cs other slash ∙ cond-false _ _ _ bad)))))
    (λ plain.
    let e = quoted_other c d cs other plain in
    ap single_found e ∙ told_is_single 1 (words.dollar_quoted (d ∷ cs)) (quoted_part (d ∷ cs) (sym (told_part 1 (words.dollar_quoted (d ∷ cs))) ∙ ap sound_found (sym e) ∙ h))))

-- `$'` and what it quotes, in the copy
pub dollar_quotes : (w r r' : List ℕ) → is_sound (words.told_or 2 (words.dollar_quoted (w ++ r))).0 ≡ true → (words.told_or 2 (words.dollar_quoted (w ++ r))).1 ≤ length w + 2
    → words.dollar_quoted (w ++ r') ≡ words.dollar_quoted (w ++ r)
dollar_quotes w r r' h fits =
    let f = words.dollar_quoted (w ++ r) in
    let is = quoted_part (w ++ r) (sym (told_part 2 f) ∙ h) in
    let size = (told_single 2 f (told_is_single 2 f is)).1 in
    quoted_moves w r r' is (omega arith)

-- Expansions

-- what follows a name is alike too
behind_name : (cs cs' : List ℕ) → Alike cs cs' → Alike (drop (name_length cs) cs) (drop (name_length cs') cs')
unfolding name_length
behind_name cs cs' a = by_bool (is_first is_name_start cs)
    (λ yes. rw (first_alike is_name_start cs cs' a, yes) (behind_run is_name_byte cs cs' a (λ c h. (closer_plain c h).name)))
    (λ other. rw (first_alike is_name_start cs cs' a, other) a)

named_whole : (i : ℕ) (cs cs' : List ℕ) → Alike cs cs' → words.named_value i (name_length cs') (drop (name_length cs') cs') ≡ words.named_value i (name_length cs) (drop (name_length cs) cs)
named_whole i cs cs' a = ap (λ n. words.named_value i n (drop (name_length cs') cs')) (name_alike cs cs' a) ∙ named_alike i (name_length cs) _ _ (behind_name cs cs' a)

closer_opens : (c : ℕ) → is_closer c ≡ true → (is_name_start c ≡ false) × ((c == 123) ≡ false) × ((c == 40) ≡ false) × ((c == 91) ≡ false) × ((c == 39) ≡ false)
closer_opens c h = (grind (arith, nat_tests), grind (arith, nat_tests), grind (arith, nat_tests), grind (arith, nat_tests), grind (arith, nat_tests))

expansion_alike : (i : ℕ) (w : List ℕ) (c : ℕ) (r r' : List ℕ) → is_closer c ≡ true → is_sound (words.dollar_expansion i (w ++ c ∷ r)).0 ≡ true → (words.dollar_expansion i (w ++ c ∷ r)).1 ≤ length w + 1
    → words.dollar_expansion i (w ++ c ∷ r') ≡ words.dollar_expansion i (w ++ c ∷ r)
unfolding words.dollar_expansion
expansion_alike i [] c r r' h part fits = let k = closer_opens c h in rw (k.0, k.1, k.2, k.3, k.4) refl
expansion_alike i (a ∷ v) c r r' h part fits =
    let inner : Alike (v ++ c ∷ r) (v ++ c ∷ r') = record { w = v; c = c; r = r; r' = r'; closes = h; there = refl; here = refl } in
    let whole : Alike (a ∷ (v ++ c ∷ r)) (a ∷ (v ++ c ∷ r')) = record { w = a ∷ v; c = c; r = r; r' = r'; closes = h; there = refl; here = refl } in
    by_bool (a == 39)
    (λ quote. subst Claim (sym (eqb-true a 39 quote)) quotes part fits)
    (λ other. rw (named_whole i _ _ whole, braced_alike i _ _ inner, parenthesis_alike _ _ inner, other) refl)
  where
    Claim : ℕ → Type 0
    Claim a = is_sound (words.dollar_expansion i (a ∷ (v ++ c ∷ r))).0 ≡ true → (words.dollar_expansion i (a ∷ (v ++ c ∷ r))).1 ≤ suc (length v) + 1 → words.dollar_expansion i (a ∷ (v ++ c ∷ r')) ≡ words.dollar_expansion i (a ∷ (v ++ c ∷ r))

    quotes : Claim 39
    quotes part fits = ap (words.told_or 2) (dollar_quotes v (c ∷ r) (c ∷ r') part (omega arith))

-- A sign

pub sign_in_part : (x : Context) (f : Sign × ℕ) → is_sound (words.sign_in x f).0 ≡ true → words.sign_in x f ≡ f
sign_in_part x f h = go (words.is_all f.0 && not x.fields) h
  where
    go : (t : Bool) → sound_found (if t then (sign.LeftOut form.AllParameters, 0) else f) ≡ true → (if t then (sign.LeftOut form.AllParameters, 0) else f) ≡ f
    go true h = absurd (true≢false (sym h))
    go false h = refl

dollar_alike : (x : Context) (i : ℕ) (w : List ℕ) (c : ℕ) (r r' : List ℕ) → is_closer c ≡ true → is_sound (words.dollar x i (w ++ c ∷ r)).0 ≡ true → (words.dollar x i (w ++ c ∷ r)).1 ≤ length w + 1
    → words.dollar x i (w ++ c ∷ r') ≡ words.dollar x i (w ++ c ∷ r)
unfolding words.dollar
dollar_alike x i w c r r' h part fits =
    let alike : Alike (w ++ c ∷ r) (w ++ c ∷ r') = record { w = w; c = c; r = r; r' = r'; closes = h; there = refl; here = refl } in
    by_bool (is_joined (w ++ c ∷ r))
    (λ yes. cond-true _ _ _ (joined_alike _ _ alike ∙ yes) ∙ sym (cond-true _ _ _ yes))
    (λ other.
    let e : words.dollar x i (w ++ c ∷ r) ≡ words.sign_in x (words.dollar_expansion i (w ++ c ∷ r)) = cond-false _ _ _ other in
    let same = sign_in_part x (words.dollar_expansion i (w ++ c ∷ r)) (ap sound_found (sym e) ∙ part) in
    let found = e ∙ same in
    cond-false _ _ _ (joined_alike _ _ alike ∙ other)
    ∙ ap (words.sign_in x) (expansion_alike i w c r r' h (ap sound_found (sym found) ∙ part) (subst (λ (f : Sign × ℕ). f.1 ≤ length w + 1) found fits)) ∙ sym e)

continuation_alike : (x : Context) (cs cs' : List ℕ) → Alike cs cs' → words.continuation x cs' ≡ words.continuation x cs
unfolding words.continuation
continuation_alike x cs cs' a =
    let b = past_joined cs cs' a in
    let some = some_alike _ _ b in
    let last = last_alike _ _ b in
    rw (first_alike is_tab cs cs' a, some.0, some.1, first_alike ends_token _ _ b, last.0, last.1) refl

backslash_first : (x : Context) (d : ℕ) (ds ds' : List ℕ) → (is_closer d ≡ true) ⊎ Alike ds ds' → words.backslash x (d ∷ ds') ≡ words.backslash x (d ∷ ds)
unfolding words.backslash
backslash_first x d ds ds' (inl h) = rw (closer_plain d h).newline refl
backslash_first x d ds ds' (inr a) = rw (continuation_alike x ds ds' a) refl

abbrev pub is_stop : Sign → Bool
is_stop sign.Stop = true
is_stop _ = false

abbrev pub is_tabs : Sign → Bool
is_tabs sign.Tabs = true
is_tabs _ = false

-- a sound sign, and its bytes are in the front of so many if it is no end
pub record Sound (f : Sign × ℕ) (n : ℕ) : Type 0 where
  pub sound : is_sound f.0 ≡ true
  pub fits : is_stop f.0 ≡ false → f.1 ≤ n

closer_tab : (c : ℕ) → is_closer c ≡ true → is_tab c ≡ false
closer_tab c h = grind (arith, nat_tests)

special_closer : (s : Site) (c : ℕ) → is_closer c ≡ true → (c == 34) ≡ false → words.is_special s c ≡ false
special_closer site.Word c h k = grind (arith, nat_tests, h, k)
special_closer site.Double c h k = grind (arith, nat_tests, h, k)
special_closer site.Braced c h k = grind (arith, nat_tests, h, k)
special_closer site.QuotedBraced c h k = grind (arith, nat_tests, h, k)
special_closer site.Body c h k = grind (arith, nat_tests, h, k)
special_closer site.Verbatim c h k = refl

plain_stands : (x : Context) (prior i c : ℕ) (cs : List ℕ) → words.stops x.site c ≡ false → is_tab c ≡ false → (c == 126) ≡ false → words.is_special x.site c ≡ false → words.stands x prior i c cs ≡ true
unfolding words.stands words.is_tilde
plain_stands x prior i c cs s t k q = rw (s, t, and-false (x.strip && prior == 10), k, q) refl

-- at the closer itself
closer_sign : (x : Context) (prior i c : ℕ) (r r' : List ℕ) → is_closer c ≡ true → Sound (words.sign_by x prior i c r) 0 → words.sign_by x prior i c r' ≡ words.sign_by x prior i c r
unfolding words.sign_by words.meant_by
closer_sign x prior i c r r' h k = by_bool (words.stops x.site c)
    (λ yes. cond-true _ _ _ yes ∙ sym (cond-true _ _ _ yes))
    (λ other. by_bool (words.stands x prior i c r)
    (λ plain.
    let u = closer_plain c h in
    let e : words.sign_by x prior i c r ≡ (sign.Plain, words.plain_length x prior i (c ∷ r)) = rw (other, closer_tab c h, and-false (x.strip && prior == 10), plain) refl in
    let one = plain_yes x prior i c r plain in
    let fits = (subst (λ (f : Sign × ℕ). Sound f 0) e k).fits refl in
    absurd (omega arith))
    (λ no. by_bool (c == 34)
    (λ double.
    let u = closer_plain c h in
    rw (other, closer_tab c h, and-false (x.strip && prior == 10), no, closer_stands x prior i c r r' h ∙ no, u.tilde, u.backslash, (closer_opens c h).4, double) refl)
    (λ single. absurd (true≢false (sym (plain_stands x prior i c r other (closer_tab c h) (closer_plain c h).tilde (special_closer x.site c h single)) ∙ no)))))

pub goes_no_stop : (f : Sign × ℕ) → ends f ≡ false → is_stop f.0 ≡ false
goes_no_stop (sign.Stop, n) h = absurd (true≢false h)
goes_no_stop (g, n) h = refl

pub goes_no_tabs : (f : Sign × ℕ) → ends f ≡ false → is_tabs f.0 ≡ false
goes_no_tabs (sign.Tabs, n) h = absurd (true≢false h)
goes_no_tabs (g, n) h = refl

pub single_sound : (cs : List ℕ) → is_sound (words.single cs).0 ≡ true → (is_single (words.single cs).0 ≡ true) × (is_stop (words.single cs).0 ≡ false)
unfolding words.single
single_sound cs h = go (nat_lt (run (λ c. not (c == 39)) cs) (length cs)) h
  where
    found : Bool → Sign × ℕ
    found t = if t then (sign.Single style.Plain, run (λ c. not (c == 39)) cs + 2) else (sign.Fault fault.OpenSingle, 0)

    go : (t : Bool) → is_sound (found t).0 ≡ true → (is_single (found t).0 ≡ true) × (is_stop (found t).0 ≡ false)
    go true h = (refl, refl)
    go false h = absurd (true≢false (sym h))

meant_alike : (x : Context) (i a : ℕ) (w : List ℕ) (c : ℕ) (r r' : List ℕ) → is_closer c ≡ true → Sound (words.meant_by x i a (w ++ c ∷ r)) (length w + 1)
    → words.meant_by x i a (w ++ c ∷ r') ≡ words.meant_by x i a (w ++ c ∷ r)
unfolding words.meant_by words.backquoted
meant_alike x i a w c r r' h k =
    let alike : Alike (w ++ c ∷ r) (w ++ c ∷ r') = record { w = w; c = c; r = r; r' = r'; closes = h; there = refl; here = refl } in
    by_bool (a == 92)
    (λ slash. cond-true _ _ _ slash ∙ by_first (words.backslash x) _ _ alike (λ d ds ds' r b. backslash_first x d ds ds' r) ∙ sym (cond-true _ _ _ slash))
    (λ no_slash. by_bool (a == 39)
    (λ quote.
    let e : words.meant_by x i a (w ++ c ∷ r) ≡ words.single (w ++ c ∷ r) = rw (no_slash, quote) refl in
    let s = subst (λ f. Sound f (length w + 1)) e k in
    let is = single_sound (w ++ c ∷ r) s.sound in
    cond-false _ _ _ no_slash ∙ cond-true _ _ _ quote ∙ single_moves w (c ∷ r) (c ∷ r') is.0 (s.fits is.1) ∙ sym e)
    (λ no_quote. by_bool (a == 34)
    (λ double. rw (no_slash, no_quote, double) refl)
    (λ no_double. by_bool (a == 96)
    (λ back. let some = some_alike _ _ alike in rw (no_slash, no_quote, no_double, back, some.0, some.1) refl)
    (λ no_back.
    let e : words.meant_by x i a (w ++ c ∷ r) ≡ words.dollar x i (w ++ c ∷ r) = rw (no_slash, no_quote, no_double, no_back) refl in
    let s = subst (λ f. Sound f (length w + 1)) e k in
    let same = dollar_alike x i w c r r' h s.sound (s.fits (goes_no_stop _ (dollar_goes x i (w ++ c ∷ r)))) in
    rw (no_slash, no_quote, no_double, no_back) same))))

-- what begins before the closer
pub sign_alike : (x : Context) (prior i : ℕ) (w : List ℕ) (c : ℕ) (r r' : List ℕ) → is_closer c ≡ true → Sound (words.sign_of x prior i (w ++ c ∷ r)) (length w)
    → words.sign_of x prior i (w ++ c ∷ r') ≡ words.sign_of x prior i (w ++ c ∷ r)
unfolding words.sign_of words.sign_by
sign_alike x prior i [] c r r' h k = closer_sign x prior i c r r' h k
sign_alike x prior i (a ∷ v) c r r' h k =
    let alike : Alike (v ++ c ∷ r) (v ++ c ∷ r') = record { w = v; c = c; r = r; r' = r'; closes = h; there = refl; here = refl } in
    by_bool (words.stops x.site a)
    (λ yes. cond-true _ _ _ yes ∙ sym (cond-true _ _ _ yes))
    (λ goes. by_bool (words.is_stripped x prior a)
    (λ tab. rw (goes, tab, run_alike is_tab _ _ alike closer_tab) refl)
    (λ no_tab. by_bool (words.stands x prior i a (v ++ c ∷ r))
    (λ plain.
    let e : words.sign_by x prior i a (v ++ c ∷ r) ≡ (sign.Plain, words.plain_length x prior i (a ∷ (v ++ c ∷ r))) = rw (goes, no_tab, plain) refl in
    let fits = (subst (λ (f : Sign × ℕ). Sound f (suc (length v))) e k).fits refl in
    rw (goes, no_tab, stands_alike x prior i a _ _ alike ∙ plain, plain) (ap (λ n. (sign.Plain, n)) (plain_alike x prior i c (a ∷ v) r r' h fits)))
    (λ no_plain. by_bool (a == 126)
    (λ tilde. rw (goes, no_tab, stands_alike x prior i a _ _ alike ∙ no_plain, no_plain, tilde, tilde_alike x _ _ alike) refl)
    (λ no_tilde.
    let e : words.sign_by x prior i a (v ++ c ∷ r) ≡ words.meant_by x i a (v ++ c ∷ r) = rw (goes, no_tab, no_plain, no_tilde) refl in
    let s = subst (λ (f : Sign × ℕ). Sound f (length v + 1)) e (subst (λ n. Sound (words.sign_by x prior i a (v ++ c ∷ r)) n) (one_more (length v)) k) in
    rw (goes, no_tab, stands_alike x prior i a _ _ alike ∙ no_plain, no_plain, no_tilde) (meant_alike x i a v c r r' h s)))))
  where
    one_more : (n : ℕ) → suc n ≡ n + 1
    one_more n = omega arith
