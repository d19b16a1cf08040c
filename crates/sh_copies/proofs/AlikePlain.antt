-- Plain bytes and tilde-prefixes before a byte that closes their context.
-- POSIX.1-2024, XCU 2.2 (quoting), 2.6.1 (tilde expansion).
use Rattle.std.proofs.Common.{◌≡◌, ℕ, ◌+◌, ◌≤◌, ◌==◌, Bool, true, false, ◌&&◌, ◌||◌, if◌then◌else◌, List, [], ◌∷◌, ◌++◌, length, drop, refl, sym, ap, ◌∙◌, arith}
use Rattle.std.proofs.lemmas.Bool.{cond-true, cond-false}
use Rattle.sh_tree.specs.declared.token.word.Context.{Context}
use Rattle.sh_tree.specs.declared.token.word.Site.{Site}
use Rattle.sh_tree.specs.standard.language.Bytes.{run, is_first}
use Rattle.sh_tree.specs.standard.language.Words as words
use Rattle.sh_copies.proofs.AlikeBytes.{is_closer, closer_plain, by_bool, Alike, first_alike, behind_alike, joined_alike, run_alike, behind_run, some_alike, last_alike}

pub tilde_alike : (x : Context) (cs cs' : List ℕ) → Alike cs cs' → words.tilde_length x cs' ≡ words.tilde_length x cs
unfolding words.tilde_length
tilde_alike x cs cs' a =
    let size = run_alike words.is_login_byte cs cs' a (λ c h. (closer_plain c h).login) in
    let rest = drop (run words.is_login_byte cs) cs in
    let rest' = drop (run words.is_login_byte cs') cs' in
    let b = behind_run words.is_login_byte cs cs' a (λ c h. (closer_plain c h).login) in
    let p : ℕ → Bool = λ c. c == 47 || (x.colons && c == 58) || words.stops x.site c in
    go (length rest == 0) (length rest' == 0) (is_first p rest) (is_first p rest') _ _ _ _ _ _ (some_alike rest rest' b) (first_alike p rest rest' b) (joined_alike rest rest' b) (last_alike rest rest' b) size
  where
    go : (e e' f f' j j' l l' : Bool) (n n' : ℕ) → (e ≡ false) × (e' ≡ false) → f' ≡ f → j' ≡ j → (l ≡ false) × (l' ≡ false) → n' ≡ n
        → (if e' || f' || j' || l' then n' + 1 else 0) ≡ (if e || f || j || l then n + 1 else 0)
    go e e' f f' j j' l l' n n' some first joined last size = rw (some.0, some.1, first, joined, last.0, last.1, size) refl

pub literal_alike : (s : Site) (a : ℕ) (cs cs' : List ℕ) → Alike cs cs' → words.is_literal s a cs' ≡ words.is_literal s a cs
literal_alike s a cs cs' k =
    let some = some_alike cs cs' k in
    rw (behind_alike (words.opens_dollar (words.is_quoted s)) cs cs' k, some.0, some.1, first_alike (words.is_escaped s) cs cs' k) refl

pub stands_alike : (x : Context) (prior i a : ℕ) (cs cs' : List ℕ) → Alike cs cs' → words.stands x prior i a cs' ≡ words.stands x prior i a cs
unfolding words.stands words.is_tilde
stands_alike x prior i a cs cs' k = rw (tilde_alike x cs cs' k, literal_alike x.site a cs cs' k) refl

pub plain_yes : (x : Context) (prior i c : ℕ) (cs : List ℕ) → words.stands x prior i c cs ≡ true → words.plain_length x prior i (c ∷ cs) ≡ 1 + words.plain_length x c (i + 1) cs
unfolding words.plain_length
plain_yes x prior i c cs h = cond-true _ _ _ h

pub plain_no : (x : Context) (prior i c : ℕ) (cs : List ℕ) → words.stands x prior i c cs ≡ false → words.plain_length x prior i (c ∷ cs) ≡ 0
unfolding words.plain_length
plain_no x prior i c cs h = cond-false _ _ _ h

-- a closer is literal or is not, whatever follows
pub closer_stands : (x : Context) (prior i c : ℕ) (r r' : List ℕ) → is_closer c ≡ true → words.stands x prior i c r' ≡ words.stands x prior i c r
unfolding words.stands words.is_tilde
closer_stands x prior i c r r' h = let k = closer_plain c h in rw (k.dollar, k.tilde, k.backslash) refl

-- so many bytes are literal, if they end before the closer
pub plain_alike : (x : Context) (prior i c : ℕ) (w r r' : List ℕ) → is_closer c ≡ true → words.plain_length x prior i (w ++ c ∷ r) ≤ length w
    → words.plain_length x prior i (w ++ c ∷ r') ≡ words.plain_length x prior i (w ++ c ∷ r)
plain_alike x prior i c [] r r' h k = by_bool (words.stands x prior i c r)
    (λ yes. let e = plain_yes x prior i c r yes in absurd (omega arith))
    (λ other. plain_no x prior i c r' (closer_stands x prior i c r r' h ∙ other) ∙ sym (plain_no x prior i c r other))
plain_alike x prior i c (a ∷ w) r r' h k =
    let alike : Alike (w ++ c ∷ r) (w ++ c ∷ r') = record { w = w; c = c; r = r; r' = r'; closes = h; there = refl; here = refl } in
    by_bool (words.stands x prior i a (w ++ c ∷ r))
    (λ yes.
    let e = plain_yes x prior i a (w ++ c ∷ r) yes in
    plain_yes x prior i a (w ++ c ∷ r') (stands_alike x prior i a _ _ alike ∙ yes) ∙ ap (λ n. 1 + n) (plain_alike x a (i + 1) c w r r' h (omega arith)) ∙ sym e)
    (λ other. plain_no x prior i a (w ++ c ∷ r') (stands_alike x prior i a _ _ alike ∙ other) ∙ sym (plain_no x prior i a (w ++ c ∷ r) other))
