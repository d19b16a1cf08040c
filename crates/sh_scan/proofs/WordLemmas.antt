-- Tokens of words.
use Rattle.std.proofs.Common.{◌≡◌, ℕ, ◌+◌, ◌-◌, ◌*◌, ◌<◌, ◌≤◌, ◌==◌, Bool, true, false, not, ◌&&◌, ◌||◌, List, [], ◌∷◌, length, take, drop, get_or, nat_lt, nat_le, Some, None, cond, refl, sym, ap, ◌∙◌, arith}
use Rattle.std.proofs.lemmas.Bool.Decides.{nat_tests}
use Rattle.std.proofs.lemmas.Bool.{lt-ltb, false≢true}
use Rattle.std.proofs.lemmas.List.{at_drop_more, at_drop_all, take_rest}
use Rattle.memchr.specs.Find.{IsFirstByte, is_byte}
use Rattle.sh_tree.specs.declared.refusal.Fault.TheVariants as fault
use Rattle.sh_tree.specs.declared.tree.SingleStyle.TheVariants.{Plain}
use Rattle.sh_tree.specs.declared.token.word.Site.{Site}
use Rattle.sh_tree.specs.declared.token.word.Site.TheVariants.{Word, Double, Braced, QuotedBraced, Body, Verbatim}
use Rattle.sh_tree.specs.declared.token.word.Context.{Context}
use Rattle.sh_tree.specs.declared.token.word.Sign.{Sign}
use Rattle.sh_tree.specs.declared.token.word.Sign.TheVariants as sign
use Rattle.sh_tree.specs.standard.language.Bytes.{run, decimal}
use Rattle.sh_tree.specs.standard.language.Words.{single, stands, plain_length, stops, is_special, is_stripped, is_literal, is_tilde, may_be_tilde, tilde_length}
use Rattle.sh_scan.proofs.RunLemmas.{run_without, run_before}

-- Single quotes

pub single_open : (cs : List ℕ) → IsFirstByte (is_byte 39) cs None → (sign.Fault fault.OpenSingle, 0) ≡ single cs
unfolding single
single_open cs none =
    let r : run (λ c. not (c == 39)) cs ≡ length cs = run_without 39 cs none in
    let at_end : nat_lt (run (λ c. not (c == 39)) cs) (length cs) ≡ false = grind (arith, nat_tests) in
    sym (ap (λ t. cond {A = Sign × ℕ} t (sign.Single Plain, run (λ c. not (c == 39)) cs + 2) (sign.Fault fault.OpenSingle, 0)) at_end)

pub single_closed : (cs : List ℕ) (k : ℕ) → IsFirstByte (is_byte 39) cs (Some k) → (sign.Single Plain, k + 2) ≡ single cs
unfolding single
single_closed cs k found =
    let r : run (λ c. not (c == 39)) cs ≡ k = run_before 39 cs k found in
    let inside : nat_lt (run (λ c. not (c == 39)) cs) (length cs) ≡ true = lt-ltb _ _ (let h : k < length cs = found.0.high in omega arith) in
    ap (λ v. (sign.Single Plain, v + 2)) (sym r)
    ∙ sym (ap (λ t. cond {A = Sign × ℕ} t (sign.Single Plain, run (λ c. not (c == 39)) cs + 2) (sign.Fault fault.OpenSingle, 0)) inside)

-- Plain bytes: t says whether the n-th of the text after i bytes is literal, after the byte p

module _ (x : Context) (p i : ℕ) (cs : List ℕ) (n whole : ℕ) (sofar : whole ≡ n + plain_length x p (i + n) (drop n cs)) where
  module _ (inside : n < length cs) (t : Bool) (here : t ≡ stands x p (i + n) (get_or cs n 0) (take (length cs - (n + 1)) (drop (n + 1) cs))) where
    stands_so : stands x p (i + n) (get_or cs n 0) (drop (n + 1) cs) ≡ t
    stands_so = ap (λ ys. stands x p (i + n) (get_or cs n 0) ys) (sym (take_rest cs (n + 1))) ∙ sym here

    from_here : plain_length x p (i + n) (drop n cs) ≡ cond t (1 + plain_length x (get_or cs n 0) (i + n + 1) (drop (n + 1) cs)) 0
    unfolding plain_length
    from_here =
        at_drop_more (λ ys. plain_length x p (i + n) ys) cs n 0 inside
        ∙ ap (λ t. cond t (1 + plain_length x (get_or cs n 0) (i + n + 1) (drop (n + 1) cs)) 0) stands_so

    pub plain_ends : t ≡ false → n ≡ whole
    plain_ends h = let none : plain_length x p (i + n) (drop n cs) ≡ 0 = from_here ∙ ap (λ t. cond t (1 + plain_length x (get_or cs n 0) (i + n + 1) (drop (n + 1) cs)) 0) h in omega arith

    pub plain_goes : t ≡ true → whole ≡ n + 1 + plain_length x (get_or cs n 0) (i + (n + 1)) (drop (n + 1) cs)
    plain_goes h =
        let more : plain_length x p (i + n) (drop n cs) ≡ 1 + plain_length x (get_or cs n 0) (i + n + 1) (drop (n + 1) cs) =
        from_here ∙ ap (λ t. cond t (1 + plain_length x (get_or cs n 0) (i + n + 1) (drop (n + 1) cs)) 0) h in
        let place : plain_length x (get_or cs n 0) (i + n + 1) (drop (n + 1) cs) ≡ plain_length x (get_or cs n 0) (i + (n + 1)) (drop (n + 1) cs) =
        ap (λ m. plain_length x (get_or cs n 0) m (drop (n + 1) cs)) (omega arith) in
        omega arith

  pub plain_done : length cs ≤ n → n ≡ whole
  unfolding plain_length
  plain_done ended = let none : plain_length x p (i + n) (drop n cs) ≡ 0 = at_drop_all (λ ys. plain_length x p (i + n) ys) cs n ended in omega arith

pub plain_first : (x : Context) (p i c : ℕ) (cs : List ℕ) → stands x p i c cs ≡ true → plain_length x p i (c ∷ cs) ≡ plain_length x c (i + 1) cs + 1
unfolding plain_length
plain_first x p i c cs h = ap (λ t. cond t (1 + plain_length x c (i + 1) cs) 0) h ∙ omega arith

-- a tilde that is not literal begins a prefix
plain_tilde : (s : Site) → is_special s 126 ≡ false
plain_tilde Word = refl
plain_tilde Double = refl
plain_tilde Braced = refl
plain_tilde QuotedBraced = refl
plain_tilde Body = refl
plain_tilde Verbatim = refl

stands_by : (a b t s l : Bool) → a ≡ false → b ≡ false → s ≡ false → (not a && not b && not t && (not s || l)) ≡ false → t ≡ true
stands_by true b t s l ha hb hs h = absurd (false≢true (sym ha))
stands_by false true t s l ha hb hs h = absurd (false≢true (sym hb))
stands_by false false t true l ha hb hs h = absurd (false≢true (sym hs))
stands_by false false true false l ha hb hs h = refl
stands_by false false false false l ha hb hs h = sym h

some_length : (a b : Bool) (n : ℕ) → (a && b && not (n == 0)) ≡ true → 0 < n
some_length true true n h = grind (arith, nat_tests)
some_length true false n h = absurd (false≢true h)
some_length false b n h = absurd (false≢true h)

pub tilde_some : (x : Context) (p i : ℕ) (cs : List ℕ) → stops x.site 126 ≡ false → is_stripped x p 126 ≡ false → stands x p i 126 cs ≡ false → 0 < tilde_length x cs
unfolding stands is_tilde
tilde_some x p i cs on kept h =
    some_length true (may_be_tilde x p i) (tilde_length x cs)
    (stands_by (stops x.site 126) (is_stripped x p 126) (is_tilde x p i 126 cs) (is_special x.site 126) (is_literal x.site 126 cs) on kept (plain_tilde x.site) h)

-- Numbers

-- digits make a number no less
decimal_from : (n : ℕ) (cs : List ℕ) → n ≤ decimal n cs
unfolding decimal
decimal_from n [] = omega arith
decimal_from n (c ∷ cs) = let h : n * 10 + (c - 48) ≤ decimal (n * 10 + (c - 48)) cs = decimal_from (n * 10 + (c - 48)) cs in omega arith

pub decimal_goes : (ds : List ℕ) (n k m : ℕ) → k < length ds → decimal n (drop k ds) ≡ decimal 0 ds → m ≡ n * 10 + (get_or ds k 0 - 48) → decimal m (drop (k + 1) ds) ≡ decimal 0 ds
unfolding decimal
decimal_goes ds n k m inside sofar e = ap (λ v. decimal v (drop (k + 1) ds)) e ∙ sym (at_drop_more (λ ys. decimal n ys) ds k 0 inside) ∙ sofar

pub decimal_done : (ds : List ℕ) (n k : ℕ) → length ds ≤ k → decimal n (drop k ds) ≡ decimal 0 ds → n ≤ 65535
    → Some n ≡ cond (nat_le (decimal 0 ds) 65535) (Some (decimal 0 ds)) None
unfolding decimal
decimal_done ds n k ended sofar small =
    let whole : n ≡ decimal 0 ds = sym (at_drop_all (λ ys. decimal n ys) ds k ended) ∙ sofar in
    let fits : nat_le (decimal 0 ds) 65535 ≡ true = grind (arith, nat_tests) in
    ap (λ v. Some v) whole ∙ sym (ap (λ t. cond t (Some (decimal 0 ds)) None) fits)

pub decimal_large : (ds cs : List ℕ) (m : ℕ) → decimal m cs ≡ decimal 0 ds → 65535 < m → None ≡ cond (nat_le (decimal 0 ds) 65535) (Some (decimal 0 ds)) None
decimal_large ds cs m sofar large =
    let from : m ≤ decimal m cs = decimal_from m cs in
    let fails : nat_le (decimal 0 ds) 65535 ≡ false = grind (arith, nat_tests) in
    sym (ap (λ t. cond t (Some (decimal 0 ds)) None) fails)
