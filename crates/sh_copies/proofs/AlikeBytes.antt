-- Texts that are the same up to a byte that closes their context: what begins before it is the
-- same.
-- POSIX.1-2024, XCU 2.2 (quoting), 2.6 (word expansions).
use Rattle.std.proofs.Common.{◌≡◌, ℕ, zero, suc, ◌+◌, ◌≤◌, ◌<◌, ◌==◌, Bool, true, false, not, ◌&&◌, List, [], ◌∷◌, ◌++◌, length, drop, take, codes, ◌⊎◌, inl, inr, refl, sym, ap, ◌∙◌, arith, ⊎_elim}
use Rattle.std.proofs.Math.Bool.{and-false}
use Rattle.std.proofs.lemmas.Bool.{cases_Bool, cond-true, cond-false, true≢false, and_right}
use Rattle.std.proofs.lemmas.Bool.Decides.{nat_tests}
use Rattle.std.proofs.lemmas.List.{drop-append-le, take-append-le}
use Rattle.std.proofs.lemmas.List.Sums.{take_while-cons}
use Rattle.sh_tree.specs.standard.language.Bytes.{is_in, is_backslash, is_newline, is_digit, is_name_byte, is_first, is_last_backquote, run, joined_length, behind_joined, is_joined}
use Rattle.sh_tree.specs.standard.language.Words.{is_login_byte}

-- a byte that closes quotes, a braced expansion or a substitution
abbrev pub is_closer : ℕ → Bool
is_closer c = is_in (codes "\"})") c

pub by_bool : {P : Type 0} (t : Bool) → (t ≡ true → P) → (t ≡ false → P) → P
by_bool t f g = ⊎_elim f g (cases_Bool t)

-- what such a byte is not
pub record Unlike (c : ℕ) : Type 0 where
  pub backslash : is_backslash c ≡ false
  pub newline : is_newline c ≡ false
  pub name : is_name_byte c ≡ false
  pub digit : is_digit c ≡ false
  pub login : is_login_byte c ≡ false
  pub dollar : (c == 36) ≡ false
  pub tilde : (c == 126) ≡ false
  pub backquote : (c == 96) ≡ false

pub closer_plain : (c : ℕ) → is_closer c ≡ true → Unlike c
closer_plain c h = record {
  backslash = grind (arith, nat_tests);
  newline = grind (arith, nat_tests);
  name = grind (arith, nat_tests);
  digit = grind (arith, nat_tests);
  login = grind (arith, nat_tests);
  dollar = grind (arith, nat_tests);
  tilde = grind (arith, nat_tests);
  backquote = grind (arith, nat_tests);
}

-- Continuations

pub not_joined : (c : ℕ) (cs : List ℕ) → is_backslash c ≡ false → joined_length (c ∷ cs) ≡ 0
unfolding joined_length
not_joined c [] e = refl
not_joined c (d ∷ cs) e = cond-false _ _ _ (ap (λ t. t && is_newline d) e)

pub lone : (a c : ℕ) (cs : List ℕ) → is_newline c ≡ false → joined_length (a ∷ c ∷ cs) ≡ 0
unfolding joined_length
lone a c cs e = cond-false _ _ _ (and_right (is_backslash a) (is_newline c) e)

pub joined_moves : (w : List ℕ) (c : ℕ) (r r' : List ℕ) → is_backslash c ≡ false → is_newline c ≡ false → (joined_length (w ++ c ∷ r') ≡ joined_length (w ++ c ∷ r)) × (joined_length (w ++ c ∷ r) ≤ length w)
unfolding joined_length
joined_moves [] c r r' b n = let e = not_joined c r b in (not_joined c r' b ∙ sym e, omega arith)
joined_moves (a ∷ []) c r r' b n = let e = lone a c r n in (lone a c r' n ∙ sym e, omega arith)
joined_moves (a ∷ d ∷ w) c r r' b n = by_bool (is_backslash a && is_newline d)
    (λ yes.
    let rest = joined_moves w c r r' b n in
    let e : joined_length (a ∷ d ∷ (w ++ c ∷ r)) ≡ 2 + joined_length (w ++ c ∷ r) = cond-true _ _ _ yes in
    let within = rest.1 in
    (cond-true _ _ _ yes ∙ ap (λ k. 2 + k) rest.0 ∙ sym e, omega arith))
    (λ other.
    let e : joined_length (a ∷ d ∷ (w ++ c ∷ r)) ≡ 0 = cond-false _ _ _ other in
    (cond-false _ _ _ other ∙ sym e, omega arith))

pub first_moves : (p : ℕ → Bool) (n : ℕ) (w : List ℕ) (c : ℕ) (r r' : List ℕ) → n ≤ length w → is_first p (drop n (w ++ c ∷ r')) ≡ is_first p (drop n (w ++ c ∷ r))
unfolding is_first
first_moves p zero [] c r r' h = refl
first_moves p (suc n) [] c r r' h = absurd (omega arith)
first_moves p zero (a ∷ w) c r r' h = refl
first_moves p (suc n) (a ∷ w) c r r' h = first_moves p n w c r r' (omega arith)

pub behind_moves : (p : ℕ → Bool) (w : List ℕ) (c : ℕ) (r r' : List ℕ) → is_backslash c ≡ false → is_newline c ≡ false → is_first p (behind_joined (w ++ c ∷ r')) ≡ is_first p (behind_joined (w ++ c ∷ r))
behind_moves p w c r r' b n =
    let j = joined_moves w c r r' b n in
    ap (λ k. is_first p (drop k (w ++ c ∷ r'))) j.0 ∙ first_moves p (joined_length (w ++ c ∷ r)) w c r r' j.1

-- Runs

pub run_yes : (p : ℕ → Bool) (c : ℕ) (cs : List ℕ) → p c ≡ true → run p (c ∷ cs) ≡ suc (run p cs)
run_yes p c cs h = ap length (take_while-cons p c cs ∙ cond-true _ _ _ h)

pub run_no : (p : ℕ → Bool) (c : ℕ) (cs : List ℕ) → p c ≡ false → run p (c ∷ cs) ≡ 0
run_no p c cs h = ap length (take_while-cons p c cs ∙ cond-false _ _ _ h)

pub run_moves : (p : ℕ → Bool) (w : List ℕ) (c : ℕ) (r r' : List ℕ) → p c ≡ false → (run p (w ++ c ∷ r') ≡ run p (w ++ c ∷ r)) × (run p (w ++ c ∷ r) ≤ length w)
run_moves p [] c r r' h = let e = run_no p c r h in (run_no p c r' h ∙ sym e, omega arith)
run_moves p (a ∷ w) c r r' h = by_bool (p a)
    (λ yes. let m = run_moves p w c r r' h in let within = m.1 in let e = run_yes p a (w ++ c ∷ r) yes in (run_yes p a (w ++ c ∷ r') yes ∙ ap suc m.0 ∙ sym e, omega arith))
    (λ other. let e = run_no p a (w ++ c ∷ r) other in (run_no p a (w ++ c ∷ r') other ∙ sym e, omega arith))

-- a run that ends in the front of a text
pub run_inside : (p : ℕ → Bool) (w r r' : List ℕ) → run p (w ++ r) < length w → run p (w ++ r') ≡ run p (w ++ r)
run_inside p [] r r' h = absurd (omega arith)
run_inside p (a ∷ w) r r' h = by_bool (p a)
    (λ yes. let e = run_yes p a (w ++ r) yes in run_yes p a (w ++ r') yes ∙ ap suc (run_inside p w r r' (omega arith)) ∙ sym e)
    (λ other. run_no p a (w ++ r') other ∙ sym (run_no p a (w ++ r) other))

-- what follows a front that ends before the closer
pub drop_moves : (n : ℕ) (w : List ℕ) (c : ℕ) (r : List ℕ) → n ≤ length w → drop n (w ++ c ∷ r) ≡ drop n w ++ c ∷ r
drop_moves n w c r h = drop-append-le n w (c ∷ r) h

-- Texts

-- two texts that are the same up to a closer and with it
pub record Alike (cs cs' : List ℕ) : Type 0 where
  pub w : List ℕ
  pub c : ℕ
  pub r : List ℕ
  pub r' : List ℕ
  pub closes : is_closer c ≡ true
  pub there : cs ≡ w ++ c ∷ r
  pub here : cs' ≡ w ++ c ∷ r'

pub first_alike : (p : ℕ → Bool) (cs cs' : List ℕ) → Alike cs cs' → is_first p cs' ≡ is_first p cs
first_alike p cs cs' a = ap (is_first p) a.here ∙ first_moves p 0 a.w a.c a.r a.r' (omega arith) ∙ sym (ap (is_first p) a.there)

pub behind_alike : (p : ℕ → Bool) (cs cs' : List ℕ) → Alike cs cs' → is_first p (behind_joined cs') ≡ is_first p (behind_joined cs)
behind_alike p cs cs' a =
    let k = closer_plain a.c a.closes in
    ap (λ t. is_first p (behind_joined t)) a.here ∙ behind_moves p a.w a.c a.r a.r' k.backslash k.newline ∙ sym (ap (λ t. is_first p (behind_joined t)) a.there)

pub joined_alike : (cs cs' : List ℕ) → Alike cs cs' → is_joined cs' ≡ is_joined cs
joined_alike cs cs' a =
    let k = closer_plain a.c a.closes in
    ap is_joined a.here ∙ ap (λ n. not (n == 0)) (joined_moves a.w a.c a.r a.r' k.backslash k.newline).0 ∙ sym (ap is_joined a.there)

-- what follows line continuations is alike too
pub past_joined : (cs cs' : List ℕ) → Alike cs cs' → Alike (behind_joined cs) (behind_joined cs')
past_joined cs cs' a =
    let k = closer_plain a.c a.closes in
    let m = joined_moves a.w a.c a.r a.r' k.backslash k.newline in
    let n = joined_length cs in
    let size : n ≡ joined_length (a.w ++ a.c ∷ a.r) = ap joined_length a.there in
    let within : n ≤ length a.w = (let most = m.1 in omega arith) in
    let same : joined_length cs' ≡ n = ap joined_length a.here ∙ m.0 ∙ sym size in
    record {
      w = drop n a.w;
      c = a.c;
      r = a.r;
      r' = a.r';
      closes = a.closes;
      there = ap (drop n) a.there ∙ drop_moves n a.w a.c a.r within;
      here = ap (λ n. drop n cs') same ∙ ap (drop n) a.here ∙ drop_moves n a.w a.c a.r' within;
    }

pub run_alike : (p : ℕ → Bool) (cs cs' : List ℕ) → Alike cs cs' → ((c : ℕ) → is_closer c ≡ true → p c ≡ false) → run p cs' ≡ run p cs
run_alike p cs cs' a none = ap (run p) a.here ∙ (run_moves p a.w a.c a.r a.r' (none a.c a.closes)).0 ∙ sym (ap (run p) a.there)

-- what follows a run is alike too
pub behind_run : (p : ℕ → Bool) (cs cs' : List ℕ) → Alike cs cs' → ((c : ℕ) → is_closer c ≡ true → p c ≡ false) → Alike (drop (run p cs) cs) (drop (run p cs') cs')
behind_run p cs cs' a none =
    let m = run_moves p a.w a.c a.r a.r' (none a.c a.closes) in
    let size : run p cs ≡ run p (a.w ++ a.c ∷ a.r) = ap (run p) a.there in
    let within : run p cs ≤ length a.w = (let n = m.1 in omega arith) in
    record {
      w = drop (run p cs) a.w;
      c = a.c;
      r = a.r;
      r' = a.r';
      closes = a.closes;
      there = ap (drop (run p cs)) a.there ∙ drop_moves (run p cs) a.w a.c a.r within;
      here = ap (λ n. drop n cs') (run_alike p cs cs' a none) ∙ ap (drop (run p cs)) a.here ∙ drop_moves (run p cs) a.w a.c a.r' within;
    }

pub taken_run : (p : ℕ → Bool) (cs cs' : List ℕ) → Alike cs cs' → ((c : ℕ) → is_closer c ≡ true → p c ≡ false) → take (run p cs') cs' ≡ take (run p cs) cs
taken_run p cs cs' a none =
    let m = run_moves p a.w a.c a.r a.r' (none a.c a.closes) in
    let size : run p cs ≡ run p (a.w ++ a.c ∷ a.r) = ap (run p) a.there in
    let within : run p cs ≤ length a.w = (let n = m.1 in omega arith) in
    ap (λ n. take n cs') (run_alike p cs cs' a none) ∙ ap (take (run p cs)) a.here ∙ take-append-le (run p cs) a.w (a.c ∷ a.r') within
    ∙ sym (ap (take (run p cs)) a.there ∙ take-append-le (run p cs) a.w (a.c ∷ a.r) within)

pub zero_not : (n : ℕ) → (suc n == 0) ≡ false
zero_not n = grind (arith, nat_tests)

one_not : (n : ℕ) → (suc (suc n) == 1) ≡ false
one_not n = grind (arith, nat_tests)

pub some_alike : (cs cs' : List ℕ) → Alike cs cs' → ((length cs == 0) ≡ false) × ((length cs' == 0) ≡ false)
some_alike cs cs' a = (ap (λ xs. length xs == 0) a.there ∙ go a.w a.c a.r, ap (λ xs. length xs == 0) a.here ∙ go a.w a.c a.r')
  where
    go : (w : List ℕ) (c : ℕ) (r : List ℕ) → (length (w ++ c ∷ r) == 0) ≡ false
    go [] c r = zero_not (length r)
    go (d ∷ w) c r = zero_not (length (w ++ c ∷ r))

-- no lone backslash ends the text
pub lone_alike : (cs cs' : List ℕ) → Alike cs cs' → ((length cs == 1 && is_first is_backslash cs) ≡ false) × ((length cs' == 1 && is_first is_backslash cs') ≡ false)
unfolding is_first
lone_alike cs cs' a =
    let k = (closer_plain a.c a.closes).backslash in
    (ap (λ xs. length xs == 1 && is_first is_backslash xs) a.there ∙ go a.w a.c a.r k, ap (λ xs. length xs == 1 && is_first is_backslash xs) a.here ∙ go a.w a.c a.r' k)
  where
    longer : (w : List ℕ) (d c : ℕ) (r : List ℕ) → (length (d ∷ (w ++ c ∷ r)) == 1) ≡ false
    longer [] d c r = one_not (length r)
    longer (e ∷ w) d c r = one_not (length (w ++ c ∷ r))

    go : (w : List ℕ) (c : ℕ) (r : List ℕ) → is_backslash c ≡ false → (length (w ++ c ∷ r) == 1 && is_first is_backslash (w ++ c ∷ r)) ≡ false
    go [] c r k = ap (λ t. length (c ∷ r) == 1 && t) k ∙ and-false (length (c ∷ r) == 1)
    go (d ∷ w) c r k = ap (λ t. t && is_backslash d) (longer w d c r)

-- no lone backquote is the text
pub last_alike : (cs cs' : List ℕ) → Alike cs cs' → (is_last_backquote cs ≡ false) × (is_last_backquote cs' ≡ false)
unfolding is_last_backquote
last_alike cs cs' a =
    let k = (closer_plain a.c a.closes).backquote in
    (ap is_last_backquote a.there ∙ go a.w a.c a.r k, ap is_last_backquote a.here ∙ go a.w a.c a.r' k)
  where
    one : (c : ℕ) (r : List ℕ) → (c == 96) ≡ false → is_last_backquote (c ∷ r) ≡ false
    one c [] k = k
    one c (d ∷ r) k = refl

    go : (w : List ℕ) (c : ℕ) (r : List ℕ) → (c == 96) ≡ false → is_last_backquote (w ++ c ∷ r) ≡ false
    go [] c r k = one c r k
    go (d ∷ []) c r k = refl
    go (d ∷ e ∷ w) c r k = refl

-- the first byte, which closes or has alike texts after it
pub record First (cs cs' : List ℕ) : Type 0 where
  pub d : ℕ
  pub ds : List ℕ
  pub ds' : List ℕ
  pub there : cs ≡ d ∷ ds
  pub here : cs' ≡ d ∷ ds'
  pub rest : (is_closer d ≡ true) ⊎ Alike ds ds'

pub first_of_alike : (cs cs' : List ℕ) → Alike cs cs' → First cs cs'
first_of_alike cs cs' a = go a.w a.there a.here
  where
    go : (w : List ℕ) → cs ≡ w ++ a.c ∷ a.r → cs' ≡ w ++ a.c ∷ a.r' → First cs cs'
    go [] e f = record { d = a.c; ds = a.r; ds' = a.r'; there = e; here = f; rest = inl a.closes }
    go (d ∷ w) e f = record {
      d = d;
      ds = w ++ a.c ∷ a.r;
      ds' = w ++ a.c ∷ a.r';
      there = e;
      here = f;
      rest = inr (record { w = w; c = a.c; r = a.r; r' = a.r'; closes = a.closes; there = refl; here = refl });
    }

-- what holds of texts by their first bytes
pub by_first : {A : Type 0} (f : List ℕ → A) (cs cs' : List ℕ) (a : Alike cs cs') → ((d : ℕ) (ds ds' : List ℕ) → (is_closer d ≡ true) ⊎ Alike ds ds' → Alike (d ∷ ds) (d ∷ ds') → f (d ∷ ds') ≡ f (d ∷ ds)) → f cs' ≡ f cs
by_first f cs cs' a h =
    let t = first_of_alike cs cs' a in
    let both : Alike (t.d ∷ t.ds) (t.d ∷ t.ds') = record { w = a.w; c = a.c; r = a.r; r' = a.r'; closes = a.closes; there = sym t.there ∙ a.there; here = sym t.here ∙ a.here } in
    ap f t.here ∙ h t.d t.ds t.ds' t.rest both ∙ sym (ap f t.there)

-- after a byte for which a test holds that no closer passes
pub behind_first : (p : ℕ → Bool) (cs cs' : List ℕ) → Alike cs cs' → ((c : ℕ) → is_closer c ≡ true → p c ≡ false) → is_first p cs ≡ true → Alike (drop 1 cs) (drop 1 cs')
unfolding is_first
behind_first p cs cs' a none h = go a.w a.there a.here
  where
    go : (w : List ℕ) → cs ≡ w ++ a.c ∷ a.r → cs' ≡ w ++ a.c ∷ a.r' → Alike (drop 1 cs) (drop 1 cs')
    go [] e f = absurd (true≢false (sym h ∙ ap (is_first p) e ∙ none a.c a.closes))
    go (d ∷ w) e f = record { w = w; c = a.c; r = a.r; r' = a.r'; closes = a.closes; there = ap (drop 1) e; here = ap (drop 1) f }
