-- The tokens of a whole word are the same before a blank, a newline or `)` as before what ends
-- the word.
-- POSIX.1-2024, XCU 2.2 (quoting), 2.3 (token recognition), 2.6 (word expansions).
use Rattle.std.proofs.Common.{◌≡◌, ℕ, zero, suc, ◌+◌, ◌≤◌, ◌<◌, ◌==◌, Bool, true, false, not, ◌&&◌, if◌then◌else◌, List, [], ◌∷◌, ◌++◌, length, drop, Option, Some, None, refl, sym, ap, subst, ◌∙◌, arith}
use Rattle.std.proofs.lemmas.Bool.{cond-true, cond-false, true≢false, eqb-true, and_parts}
use Rattle.std.proofs.lemmas.Bool.Decides.{nat_tests}
use Rattle.std.proofs.lemmas.List.{drop-append-le}
use Rattle.sh_tree.specs.declared.refusal.Form.TheVariants as form
use Rattle.sh_tree.specs.declared.tree.Action.{Action}
use Rattle.sh_tree.specs.declared.tree.CommandStyle.TheVariants.{Paren}
use Rattle.sh_tree.specs.declared.tree.Special.{Special as SpecialParameter}
use Rattle.sh_tree.specs.declared.tree.Subject.{Subject}
use Rattle.sh_tree.specs.declared.tree.Subject.TheVariants.{Name}
use Rattle.sh_tree.specs.declared.token.word.Context.{Context}
use Rattle.sh_tree.specs.declared.token.word.Site.TheVariants as site
use Rattle.sh_tree.specs.declared.token.word.Sign.{Sign}
use Rattle.sh_tree.specs.declared.token.word.Sign.TheVariants as sign
use Rattle.sh_tree.specs.standard.language.Bytes.{is_backslash, is_name_start, is_name_byte, is_newline, ends_token, is_first, name_length, run, behind_joined, is_joined}
use Rattle.sh_tree.specs.standard.language.Trees.{span}
use Rattle.sh_tree.specs.standard.language.Words as words
use Rattle.sh_reads.proofs.TakeLemmas.{is_part}
use Rattle.sh_copies.proofs.AlikeBytes.{by_bool, zero_not, Alike, not_joined}
use Rattle.sh_copies.proofs.AlikePlain.{plain_yes, plain_no}
use Rattle.sh_copies.proofs.AlikeSigns.{braced_alike}
use Rattle.sh_copies.proofs.WordsTokens.{part_sound}
use Rattle.sh_copies.proofs.AlikeTokens.{single_sound, single_moves, dollar_quotes, sign_in_part}
use Rattle.sh_copies.proofs.Boundary.{lone_backslash, continuation_none, breaks, is_edge, edge_first, edge_none, break_first, break_joined, joined_not, loose, before, outer, Goes, GoesAt, run_outer, tilde_outer, tilde_behind, literal_or, dollar_opens, stands_goes, plain_outer}

-- it opens what ends with a byte that closes it
abbrev pub is_open : Sign → Bool
is_open (sign.Use p a colon) = true
is_open (sign.Remove p q) = true
is_open sign.Arith = true
is_open (sign.Substitution Paren) = true
is_open _ = false

-- it begins a part, and opens none
abbrev pub is_whole : Sign → Bool
is_whole g = is_part g && not (is_open g)

-- such an expansion ends with a brace, so many bytes after `${`
record Closes (f : Sign × ℕ) (cs : List ℕ) : Type 0 where
  closes : is_whole f.0 ≡ true → (n : ℕ) × (f.1 ≡ n + 3) × (words.closes (drop n cs) ≡ true)

no_whole : {f : Sign × ℕ} {cs : List ℕ} → is_whole f.0 ≡ false → Closes f cs
no_whole h = record { closes = λ k. absurd (true≢false (sym k ∙ h)) }

either_closes : {f g : Sign × ℕ} {cs : List ℕ} (t : Bool) → (t ≡ true → Closes f cs) → (t ≡ false → Closes g cs) → Closes (if t then f else g) cs
either_closes true h k = h refl
either_closes false h k = k refl

misfit_whole : (k : ℕ) (rest : List ℕ) → is_whole (words.misfit k rest).0 ≡ false
unfolding words.misfit
misfit_whole k rest = grind (arith, nat_tests)

removal_whole : (p : Subject) (k : ℕ) (rest : List ℕ) → is_whole (words.pattern_removal p k rest).0 ≡ false
unfolding words.pattern_removal
removal_whole p k [] = misfit_whole k []
removal_whole p k (c ∷ rest) = grind (arith, nat_tests, misfit_whole k (c ∷ rest))

action_by_whole : (colon : Bool) (p : Subject) (k : ℕ) (rest : List ℕ) (a : Option Action) → is_whole (words.action_by colon p k rest a).0 ≡ false
action_by_whole colon p k rest (Some a) = refl
action_by_whole colon p k rest None = grind (arith, nat_tests, misfit_whole k rest, removal_whole p k rest)

action_whole : (colon : Bool) (p : Subject) (k : ℕ) (rest : List ℕ) → is_whole (words.parameter_action colon p k rest).0 ≡ false
unfolding words.parameter_action
action_whole colon p k [] = misfit_whole k []
action_whole colon p k (c ∷ rest) = action_by_whole colon p k (c ∷ rest) (words.action_of c)

operator_closes : (p : Subject) (n : ℕ) (cs : List ℕ) → Closes (words.parameter_operator p (n + 2) (drop n cs)) cs
unfolding words.parameter_operator
operator_closes p n cs =
    either_closes (words.closes (drop n cs)) (λ e. record { closes = λ k. (n, omega arith, e) })
    (λ e. either_closes (is_first (λ c. c == 58) (drop n cs)) (λ e. no_whole (action_whole true p (n + 2 + 1) (drop 1 (drop n cs)))) (λ e. no_whole (action_whole false p (n + 2) (drop n cs))))

length_closes : (c : ℕ) (cs : List ℕ) (o : Option (Subject × ℕ)) → Closes (words.length_by cs o) (c ∷ cs)
length_closes c cs (Some p) = either_closes (words.closes (drop p.1 cs)) (λ e. record { closes = λ k. (suc p.1, omega arith, e) }) (λ e. no_whole (misfit_whole (p.1 + 3) (drop p.1 cs)))
length_closes c cs None = no_whole (misfit_whole 3 cs)

specially_closes : (i c : ℕ) (cs : List ℕ) (o : Option SpecialParameter) → Closes (words.specially i (c ∷ cs) o) (c ∷ cs)
specially_closes i c cs (Some p) = either_closes (words.closes cs) (λ e. record { closes = λ k. (1, refl, e) }) (λ e. no_whole (misfit_whole 3 cs))
specially_closes i c cs None = no_whole (misfit_whole 2 (c ∷ cs))

special_closes : (i : ℕ) (cs : List ℕ) → Closes (words.special_or_length i cs) cs
unfolding words.special_or_length words.parameter_length
special_closes i [] = no_whole (misfit_whole 2 [])
special_closes i (c ∷ cs) = either_closes (c == 35 && not (words.closes cs)) (λ e. length_closes c cs (words.parameter (i + 3) cs)) (λ e. specially_closes (i + 2) c cs (words.special_of c))

braced_closes : (i : ℕ) (cs : List ℕ) → Closes (words.braced_expansion i cs) cs
unfolding words.braced_expansion
braced_closes i cs = go (words.parameter (i + 2) cs)
  where
    go : (o : Option (Subject × ℕ)) → Closes (words.braced_expansion_by i cs o) cs
    go (Some p) = operator_closes p.0 p.1 cs
    go None = special_closes i cs

-- the text from the brace on
split_closed : (n : ℕ) (v r r' : List ℕ) → words.closes (drop n (v ++ r)) ≡ true → n < length v → Alike (v ++ r) (v ++ r')
unfolding is_first
split_closed n [] r r' h k = absurd (omega arith)
split_closed zero (c ∷ v) r r' h k = record { w = []; c = 125; r = v ++ r; r' = v ++ r'; closes = refl; there = ap (λ d. d ∷ (v ++ r)) (eqb-true c 125 h); here = ap (λ d. d ∷ (v ++ r')) (eqb-true c 125 h) }
split_closed (suc n) (c ∷ v) r r' h k =
    let a = split_closed n v r r' h (omega arith) in
    record { w = c ∷ a.w; c = a.c; r = a.r; r' = a.r'; closes = a.closes; there = ap (λ t. c ∷ t) a.there; here = ap (λ t. c ∷ t) a.here }

-- a whole braced expansion in the word
pub braced_outer : (i : ℕ) (v r r' : List ℕ) → is_whole (words.braced_expansion i (v ++ r)).0 ≡ true → (words.braced_expansion i (v ++ r)).1 ≤ length v + 2
    → words.braced_expansion i (v ++ r') ≡ words.braced_expansion i (v ++ r)
braced_outer i v r r' h fits =
    let k = (braced_closes i (v ++ r)).closes h in
    let size = k.1 in
    braced_alike i (v ++ r) (v ++ r') (split_closed k.0 v r r' k.2 (omega arith))

-- Names

pub edge_name : (c : ℕ) → is_edge c ≡ true → is_name_byte c ≡ false
edge_name c h = grind (arith, nat_tests, h)

-- no name goes on after continuations there
name_ends : (u r r' : List ℕ) → is_first breaks r' ≡ true → loose u r ≡ false → (is_joined (u ++ r') && is_first is_name_byte (behind_joined (u ++ r'))) ≡ false
name_ends [] r r' k l = rw (break_joined r' k) refl
name_ends (c ∷ u) r r' k l = rw (joined_not c u r r' l) refl

named_value_outer : (i n : ℕ) (u r r' : List ℕ) → is_first breaks r' ≡ true → loose u r ≡ false → is_part (words.named_value i n (u ++ r)).0 ≡ true
    → words.named_value i n (u ++ r') ≡ words.named_value i n (u ++ r)
unfolding words.named_value
named_value_outer i n u r r' k l part = cond-false _ _ _ (name_ends u r r' k l) ∙ sym (go (is_joined (u ++ r) && is_first is_name_byte (behind_joined (u ++ r))) part)
  where
    value : Sign × ℕ
    value = (sign.Value (Name (span (i + 1) (i + 1 + n))), n + 1)

    found : Bool → Sign × ℕ
    found t = if t then (sign.LeftOut form.Continuation, n + 1) else value

    go : (t : Bool) → is_part (found t).0 ≡ true → found t ≡ value
    go true h = absurd (true≢false (sym h))
    go false h = refl

named_size : (i n : ℕ) (rest : List ℕ) → (words.named_value i n rest).1 ≡ suc n
unfolding words.named_value
named_size i n rest = go (is_joined rest && is_first is_name_byte (behind_joined rest))
  where
    found : Bool → Sign × ℕ
    found t = if t then (sign.LeftOut form.Continuation, n + 1) else (sign.Value (Name (span (i + 1) (i + 1 + n))), n + 1)

    go : (t : Bool) → (found t).1 ≡ suc n
    go true = omega arith
    go false = omega arith

abbrev pub is_value : Sign → Bool
is_value (sign.Value p) = true
is_value _ = false

named_value_is : (i n : ℕ) (rest : List ℕ) → is_part (words.named_value i n rest).0 ≡ true → is_value (words.named_value i n rest).0 ≡ true
unfolding words.named_value
named_value_is i n rest h = go (is_joined rest && is_first is_name_byte (behind_joined rest)) h
  where
    found : Bool → Sign × ℕ
    found t = if t then (sign.LeftOut form.Continuation, n + 1) else (sign.Value (Name (span (i + 1) (i + 1 + n))), n + 1)

    go : (t : Bool) → is_part (found t).0 ≡ true → is_value (found t).0 ≡ true
    go true h = absurd (true≢false (sym h))
    go false h = refl

module _ (o : ℕ) (colons fields backquotes : Bool) where
  abbrev x : Context
  x = outer o colons fields backquotes

  name_is : (c : ℕ) (v rest : List ℕ) → is_name_start c ≡ true → is_first is_name_byte rest ≡ false → name_length (c ∷ (v ++ rest)) ≡ run is_name_byte (c ∷ v)
  unfolding name_length is_first
  name_is c v rest first none = cond-true _ _ _ first ∙ (run_outer o colons fields backquotes is_name_byte (c ∷ v) rest none).0

  -- the value of a name
  named_outer : (i c : ℕ) (v r r' : List ℕ) → words.ends_joined r ≡ true → is_first breaks r' ≡ true → is_name_start c ≡ true → is_part (words.dollar_expansion i (c ∷ (v ++ r))).0 ≡ true
      → (is_value (words.dollar_expansion i (c ∷ (v ++ r))).0 ≡ true → (n : ℕ) → (words.dollar_expansion i (c ∷ (v ++ r))).1 ≡ suc n → loose (drop n (c ∷ v)) r ≡ false)
      → words.dollar_expansion i (c ∷ (v ++ r')) ≡ words.dollar_expansion i (c ∷ (v ++ r))
  unfolding words.dollar_expansion
  named_outer i c v r r' h k first part behind =
      let n = run is_name_byte (c ∷ v) in
      let within = (run_outer o colons fields backquotes is_name_byte (c ∷ v) r (edge_none is_name_byte edge_name r (edge_first r h))).1 in
      let u = drop n (c ∷ v) in
      let found : (rest : List ℕ) → is_first (λ c. not (is_edge c)) rest ≡ false → words.dollar_expansion i (c ∷ (v ++ rest)) ≡ words.named_value i n (u ++ rest) =
      (λ rest edge.
      let size = name_is c v rest first (edge_none is_name_byte edge_name rest edge) in
      cond-true _ _ _ first ∙ ap (λ n. words.named_value i n (drop n (c ∷ (v ++ rest)))) size ∙ ap (words.named_value i n) (drop-append-le n (c ∷ v) rest within)) in
      let there = found r (edge_first r h) in
      let here = found r' (break_first r' k) in
      let size : (words.dollar_expansion i (c ∷ (v ++ r))).1 ≡ suc n = ap (λ f. f.1) there ∙ named_size i n (u ++ r) in
      let part = sym (ap (λ f. is_part f.0) there) ∙ part in
      here ∙ named_value_outer i n u r r' k (behind (ap (λ f. is_value f.0) there ∙ named_value_is i n (u ++ r) part) n size) part ∙ sym there

  part_of : (g : Sign) → is_whole g ≡ true → is_part g ≡ true
  part_of g h = (and_parts (is_part g) (not (is_open g)) h).0

  parenthesis_whole : (cs : List ℕ) → is_whole (words.parenthesis cs).0 ≡ false
  unfolding words.parenthesis
  parenthesis_whole cs = go (is_first (λ c. c == 40) cs) (is_first (λ c. c == 40) (behind_joined cs))
    where
      found : Bool → Bool → Sign × ℕ
      found t u = if t then (sign.Arith, 3) else (if u then (sign.LeftOut form.Continuation, 2) else (sign.Substitution Paren, 2))

      go : (t u : Bool) → is_whole (found t u).0 ≡ false
      go true u = refl
      go false true = refl
      go false false = refl

  -- what a `$` before the byte c begins
  expansion_outer : (i c : ℕ) (v r r' : List ℕ) → words.ends_joined r ≡ true → is_first breaks r' ≡ true → is_whole (words.dollar_expansion i (c ∷ (v ++ r))).0 ≡ true
      → (words.dollar_expansion i (c ∷ (v ++ r))).1 ≤ length v + 2
      → (is_value (words.dollar_expansion i (c ∷ (v ++ r))).0 ≡ true → (n : ℕ) → (words.dollar_expansion i (c ∷ (v ++ r))).1 ≡ suc n → loose (drop n (c ∷ v)) r ≡ false)
      → words.dollar_expansion i (c ∷ (v ++ r')) ≡ words.dollar_expansion i (c ∷ (v ++ r))
  unfolding words.dollar_expansion
  expansion_outer i c v r r' h k whole fits behind = by_bool (is_name_start c)
      (λ named. named_outer i c v r r' h k named (part_of (words.dollar_expansion i (c ∷ (v ++ r))).0 whole) behind)
      (λ no_name. by_bool (c == 123)
      (λ brace.
      let found : (rest : List ℕ) → words.dollar_expansion i (c ∷ (v ++ rest)) ≡ words.braced_expansion i (v ++ rest) = (λ rest. cond-false _ _ _ no_name ∙ cond-true _ _ _ brace) in
      let e = found r in
      found r' ∙ braced_outer i v r r' (sym (ap (λ f. is_whole f.0) e) ∙ whole) (let size = ap (λ f. f.1) e in omega arith) ∙ sym e)
      (λ no_brace. by_bool (c == 40)
      (λ parenthesis.
      let e : words.dollar_expansion i (c ∷ (v ++ r)) ≡ words.parenthesis (v ++ r) = rw (no_name, no_brace, parenthesis) refl in
      absurd (true≢false (sym whole ∙ ap (λ f. is_whole f.0) e ∙ parenthesis_whole (v ++ r))))
      (λ no_parenthesis. by_bool (c == 91)
      (λ bracket. rw (no_name, no_brace, no_parenthesis, bracket) refl)
      (λ no_bracket. by_bool (c == 39)
      (λ quote.
      let found : (rest : List ℕ) → words.dollar_expansion i (c ∷ (v ++ rest)) ≡ words.told_or 2 (words.dollar_quoted (v ++ rest)) = (λ rest. rw (no_name, no_brace, no_parenthesis, no_bracket, quote) refl) in
      let e = found r in
      let part = part_of (words.dollar_expansion i (c ∷ (v ++ r))).0 whole in
      found r' ∙ ap (words.told_or 2) (dollar_quotes v r r' (part_sound (words.told_or 2 (words.dollar_quoted (v ++ r))).0 (sym (ap (λ f. is_part f.0) e) ∙ part)) (let size = ap (λ f. f.1) e in omega arith)) ∙ sym e)
      (λ no_quote. rw (no_name, no_brace, no_parenthesis, no_bracket, no_quote) refl)))))

  -- a `$` that opens something
  dollar_outer : (i : ℕ) (v r r' : List ℕ) → words.ends_joined r ≡ true → is_first breaks r' ≡ true → is_first (words.opens_dollar false) v ≡ true → is_whole (words.dollar x i (v ++ r)).0 ≡ true
      → (words.dollar x i (v ++ r)).1 ≤ length v + 1
      → (is_value (words.dollar x i (v ++ r)).0 ≡ true → (n : ℕ) → (words.dollar x i (v ++ r)).1 ≡ suc n → loose (drop n v) r ≡ false)
      → words.dollar x i (v ++ r') ≡ words.dollar x i (v ++ r)
  unfolding words.dollar is_first
  dollar_outer i [] r r' h k opens whole fits behind = absurd (true≢false (sym opens))
  dollar_outer i (c ∷ v) r r' h k opens whole fits behind =
      let slash : is_backslash c ≡ false = grind (arith, nat_tests, opens) in
      let found : (rest : List ℕ) → words.dollar x i (c ∷ (v ++ rest)) ≡ words.sign_in x (words.dollar_expansion i (c ∷ (v ++ rest))) = (λ rest. rw (not_joined c (v ++ rest) slash) refl) in
      let there = found r in
      let same = there ∙ sign_in_part x (words.dollar_expansion i (c ∷ (v ++ r))) (part_sound (words.sign_in x (words.dollar_expansion i (c ∷ (v ++ r)))).0 (sym (ap (λ f. is_part f.0) there) ∙ part_of (words.dollar x i (c ∷ (v ++ r))).0 whole)) in
      found r' ∙ ap (words.sign_in x) (expansion_outer i c v r r' h k (sym (ap (λ f. is_whole f.0) same) ∙ whole) (let size = ap (λ f. f.1) same in omega arith)
      (λ value n size. behind (ap (λ f. is_value f.0) same ∙ value) n (ap (λ f. f.1) same ∙ size))) ∙ sym there

  -- a byte that means nothing is literal
  other_stands : (prior i a : ℕ) (cs : List ℕ) → ends_token a ≡ false → (a == 126) ≡ false → (a == 36) ≡ false → (a == 92) ≡ false → (a == 39) ≡ false → (a == 34) ≡ false → (a == 96) ≡ false
      → words.stands x prior i a cs ≡ true
  unfolding words.stands words.is_tilde
  other_stands prior i a cs e t d s q u b = let special : words.is_special site.Word a ≡ false = grind (arith, nat_tests, d, s, q, u, b) in rw (e, t, special) refl

  -- a backslash in the word keeps the byte after it
  backslash_outer : (prior i : ℕ) (v r r' : List ℕ) → Goes o colons fields backquotes prior i (92 ∷ v) r → is_part (words.backslash x (v ++ r)).0 ≡ true → words.backslash x (v ++ r') ≡ words.backslash x (v ++ r)
  unfolding words.backslash
  backslash_outer prior i [] r r' g part = absurd (lone_backslash o colons fields backquotes prior i r g)
  backslash_outer prior i (c ∷ v) r r' g part = by_bool (is_newline c)
      (λ line. absurd (true≢false (sym part ∙ ap (λ (f : Sign × ℕ). is_part f.0) (cond-true _ _ _ line) ∙ continuation_none o colons fields backquotes (v ++ r))))
      (λ other. rw other refl)

  break_some : (v r : List ℕ) → is_first breaks r ≡ true → (length (v ++ r) == 0) ≡ false
  unfolding is_first
  break_some [] [] h = absurd (true≢false (sym h))
  break_some [] (c ∷ r) h = zero_not (length r)
  break_some (c ∷ v) r h = zero_not (length (v ++ r))

  -- a backquote that opens a substitution
  backquote_outer : (v r r' : List ℕ) → is_first breaks r' ≡ true → is_part (words.backquoted x (v ++ r)).0 ≡ true → words.backquoted x (v ++ r') ≡ words.backquoted x (v ++ r)
  unfolding words.backquoted
  backquote_outer v r r' k part = by_bool (length (v ++ r) == 0)
      (λ none. absurd (true≢false (sym part ∙ ap (λ (f : Sign × ℕ). is_part f.0) (cond-true _ _ _ none))))
      (λ some. rw (break_some v r' k, some) refl)

  abbrev At : ℕ → List ℕ → List ℕ → ℕ → ℕ → Type 0
  At a v r prior i = Goes o colons fields backquotes prior i (a ∷ v) r

  -- what begins in the word, and opens nothing
  pub outer_sign : (prior i a : ℕ) (v r r' : List ℕ) → words.ends_joined r ≡ true → is_first breaks r' ≡ true → Goes o colons fields backquotes prior i (a ∷ v) r
      → is_whole (words.sign_of x prior i (a ∷ (v ++ r))).0 ≡ true
      → (is_value (words.sign_of x prior i (a ∷ (v ++ r))).0 ≡ true → loose (drop (words.sign_of x prior i (a ∷ (v ++ r))).1 (a ∷ v)) r ≡ false)
      → ((n : ℕ) → words.sign_of x prior i (a ∷ (v ++ r)) ≡ (sign.Plain, n) → GoesAt o colons fields backquotes (before prior (a ∷ v) n) (i + n) (drop n (a ∷ v)) r)
      → words.sign_of x prior i (a ∷ (v ++ r')) ≡ words.sign_of x prior i (a ∷ (v ++ r))
  unfolding words.sign_of words.sign_by words.meant_by
  outer_sign prior i a v r r' h k g whole behind plain = by_bool (ends_token a)
      (λ ends. rw ends refl)
      (λ goes. by_bool (words.stands x prior i a (v ++ r))
      (λ stands.
      let n = words.plain_length x prior i (a ∷ (v ++ r)) in
      let e : S r ≡ (sign.Plain, n) = rw (goes, stands) refl in
      let size = plain_outer o colons fields backquotes prior i (a ∷ v) r r' h k n refl (subst (λ (f : Sign × ℕ). f.1 ≤ suc (length v)) e g.fits) (plain n e) in
      by_bool (words.stands x prior i a (v ++ r'))
      (λ stands'. let e' : S r' ≡ (sign.Plain, words.plain_length x prior i (a ∷ (v ++ r'))) = rw (goes, stands') refl in e' ∙ ap (λ n. (sign.Plain, n)) size ∙ sym e)
      (λ none. let one = plain_yes x prior i a (v ++ r) stands in let zero' = plain_no x prior i a (v ++ r') none in absurd (omega arith)))
      (λ none.
      let none' = stands_goes o colons fields backquotes prior i a v r r' h k g none in
      by_bool (a == 126)
      (λ tilde.
      let found : (rest : List ℕ) → words.stands x prior i a (v ++ rest) ≡ false → S rest ≡ (sign.Tilde, words.tilde_length x (v ++ rest)) = (λ rest none. rw (goes, none, tilde) refl) in
      let is = eqb-true a 126 tilde in
      let ends = tilde_behind o colons fields backquotes prior i v r h (subst (λ a. At a v r prior i) is g) (ap (λ a. words.stands x prior i a (v ++ r)) (sym is) ∙ none) in
      found r' none' ∙ ap (λ n. (sign.Tilde, n)) (tilde_outer o colons fields backquotes v r r' h k ends) ∙ sym (found r none))
      (λ no_tilde. by_bool (a == 92)
      (λ slash.
      let found : (rest : List ℕ) → words.stands x prior i a (v ++ rest) ≡ false → S rest ≡ words.backslash x (v ++ rest) = (λ rest none. rw (goes, none, no_tilde, slash) refl) in
      let e = found r none in
      found r' none' ∙ backslash_outer prior i v r r' (subst (λ a. At a v r prior i) (eqb-true a 92 slash) g) (sym (ap (λ f. is_part f.0) e) ∙ g.part) ∙ sym e)
      (λ no_slash. by_bool (a == 39)
      (λ quote.
      let found : (rest : List ℕ) → words.stands x prior i a (v ++ rest) ≡ false → S rest ≡ words.single (v ++ rest) = (λ rest none. rw (goes, none, no_tilde, no_slash, quote) refl) in
      let e = found r none in
      let sound = part_sound (words.single (v ++ r)).0 (sym (ap (λ f. is_part f.0) e) ∙ g.part) in
      found r' none' ∙ single_moves v r r' (single_sound (v ++ r) sound).0 (let size = ap (λ f. f.1) e in let fits = g.fits in omega arith) ∙ sym e)
      (λ no_quote. by_bool (a == 34)
      (λ double.
      let found : (rest : List ℕ) → words.stands x prior i a (v ++ rest) ≡ false → S rest ≡ (sign.Double, 1) = (λ rest none. rw (goes, none, no_tilde, no_slash, no_quote, double) refl) in
      found r' none' ∙ sym (found r none))
      (λ no_double. by_bool (a == 96)
      (λ back.
      let found : (rest : List ℕ) → words.stands x prior i a (v ++ rest) ≡ false → S rest ≡ words.backquoted x (v ++ rest) = (λ rest none. rw (goes, none, no_tilde, no_slash, no_quote, no_double, back) refl) in
      let e = found r none in
      found r' none' ∙ backquote_outer v r r' k (sym (ap (λ f. is_part f.0) e) ∙ g.part) ∙ sym e)
      (λ no_back. by_bool (a == 36)
      (λ dollar.
      let found : (rest : List ℕ) → words.stands x prior i a (v ++ rest) ≡ false → S rest ≡ words.dollar x i (v ++ rest) = (λ rest none. rw (goes, none, no_tilde, no_slash, no_quote, no_double, no_back) refl) in
      let e = found r none in
      let is = eqb-true a 36 dollar in
      let opens = dollar_opens o colons fields backquotes prior i v r h (subst (λ a. At a v r prior i) is g) (sym (literal_or o colons fields backquotes prior i (v ++ r)) ∙ ap (λ a. words.stands x prior i a (v ++ r)) (sym is) ∙ none) in
      found r' none' ∙ dollar_outer i v r r' h k opens (sym (ap (λ f. is_whole f.0) e) ∙ whole) (let size = ap (λ f. f.1) e in let fits = g.fits in omega arith)
      (λ value n size. subst (λ m. loose (drop m (a ∷ v)) r ≡ false) (ap (λ f. f.1) e ∙ size) (behind (ap (λ f. is_value f.0) e ∙ value))) ∙ sym e)
      (λ no_dollar. absurd (true≢false (sym (other_stands prior i a (v ++ r) goes no_tilde no_dollar no_slash no_quote no_double no_back) ∙ none))))))))))
    where
      S : List ℕ → Sign × ℕ
      S rest = words.sign_of x prior i (a ∷ (v ++ rest))
