-- Where the unquoted bytes end with which a word begins, whatever follows the word.
-- POSIX.1-2024, XCU 2.2.1 (backslash), 2.3 (token recognition), 2.6.1 (tilde expansion).
use Rattle.std.proofs.Common.{◌≡◌, ℕ, zero, suc, ◌+◌, ◌≤◌, ◌<◌, ◌==◌, Bool, true, false, not, ◌||◌, if◌then◌else◌, List, [], ◌∷◌, ◌++◌, length, drop, codes, refl, sym, ap, subst, ◌∙◌, arith}
use Rattle.std.specs.List.{list_all}
use Rattle.std.proofs.lemmas.Bool.{true≢false, and_parts, eqb-true}
use Rattle.std.proofs.lemmas.Bool.Decides.{nat_tests}
use Rattle.std.proofs.lemmas.List.{drop-drop, drop_at}
use Rattle.sh_tree.specs.declared.refusal.Form.TheVariants as form
use Rattle.sh_tree.specs.declared.tree.Part.{Part}
use Rattle.sh_tree.specs.declared.token.word.Context.{Context}
use Rattle.sh_tree.specs.declared.token.word.Site.TheVariants as site
use Rattle.sh_tree.specs.declared.token.word.Sign.{Sign}
use Rattle.sh_tree.specs.declared.token.word.Sign.TheVariants as sign
use Rattle.sh_tree.specs.standard.language.Bytes.{is_in, is_newline, is_backslash, ends_token, is_first, run, joined_length}
use Rattle.sh_tree.specs.standard.language.Commands.{is_bare}
use Rattle.sh_tree.specs.standard.language.Reading as r
use Rattle.sh_tree.specs.standard.language.Reading.{ReadsPart, ReadsParts}
use Rattle.sh_tree.specs.standard.language.States.{Spot}
use Rattle.sh_tree.specs.standard.language.Words as words
use Rattle.sh_tree.proofs.Inversions.{stopped, nothing_at}
use Rattle.sh_copies.proofs.AlikeBytes.{by_bool, run_yes, run_no, zero_not, not_joined, lone}
use Rattle.sh_copies.proofs.AlikePlain.{plain_yes, plain_no}
use Rattle.sh_copies.proofs.Declaring.{Edge, edge, edge_stands, ends_stop, token_first, word_stands, last_false}
use Rattle.sh_copies.proofs.Forward.{parts_forward, part_forward}

-- What no plain bytes and no tilde-prefix go past

pub record Barrier (rest : List ℕ) : Type 0 where
  pub plain : (x : Context) (prior i : ℕ) → x.site ≡ site.Word → words.plain_length x prior i rest ≡ 0
  pub login : run words.is_login_byte rest ≡ 0

edge_login : (c : ℕ) (cs : List ℕ) → Edge c cs → words.is_login_byte c ≡ false
edge_login c cs (Edge.token h) = grind (arith, nat_tests, h)
edge_login c cs (Edge.joined d ds is back line more) = subst (λ n. words.is_login_byte n ≡ false) (sym (eqb-true c 92 back)) refl
edge_login c cs (Edge.last quote none) = subst (λ n. words.is_login_byte n ≡ false) (sym (eqb-true c 96 quote)) refl

pub edge_barrier : (rest : List ℕ) → words.ends_joined rest ≡ true → Barrier rest
unfolding words.plain_length
edge_barrier [] h = record { plain = λ x prior i word. refl; login = refl }
edge_barrier (c ∷ cs) h =
    let e = edge c cs h in
    record { plain = λ x prior i word. plain_no x prior i c cs (edge_stands x prior i c cs word e); login = run_no words.is_login_byte c cs (edge_login c cs e) }

-- no backslash of a word is literal
pub backslash_stands : (x : Context) (prior i : ℕ) (cs : List ℕ) → x.site ≡ site.Word → words.stands x prior i 92 cs ≡ false
unfolding is_first
backslash_stands x prior i cs word = word_stands x prior i 92 cs word ∙ last_false (not (ends_token 92)) (not (words.is_stripped x prior 92)) (not (words.is_tilde x prior i 92 cs)) _ (go cs)
  where
    go : (cs : List ℕ) → (not (words.is_special site.Word 92) || words.is_literal site.Word 92 cs) ≡ false
    go [] = refl
    go (d ∷ ds) = rw (zero_not (length ds)) refl

backslash_barrier : (cs : List ℕ) → Barrier (92 ∷ cs)
backslash_barrier cs = record { plain = λ x prior i word. plain_no x prior i 92 cs (backslash_stands x prior i cs word); login = run_no words.is_login_byte 92 cs refl }

plain_within : (x : Context) (prior i : ℕ) (v rest : List ℕ) → x.site ≡ site.Word → Barrier rest → words.plain_length x prior i (v ++ rest) ≤ length v
plain_within x prior i [] rest word barrier = let none = barrier.plain x prior i word in omega arith
plain_within x prior i (c ∷ v) rest word barrier = by_bool (words.stands x prior i c (v ++ rest))
    (λ yes. let more = plain_within x c (i + 1) v rest word barrier in let e = plain_yes x prior i c (v ++ rest) yes in omega arith)
    (λ no. let e = plain_no x prior i c (v ++ rest) no in omega arith)

login_within : (v rest : List ℕ) → Barrier rest → run words.is_login_byte (v ++ rest) ≤ length v
login_within [] rest barrier = let none = barrier.login in omega arith
login_within (c ∷ v) rest barrier = by_bool (words.is_login_byte c)
    (λ yes. let more = login_within v rest barrier in let e = run_yes words.is_login_byte c (v ++ rest) yes in omega arith)
    (λ no. let e = run_no words.is_login_byte c (v ++ rest) no in omega arith)

tilde_within : (x : Context) (v rest : List ℕ) → Barrier rest → words.tilde_length x (v ++ rest) ≤ suc (length v)
unfolding words.tilde_length
tilde_within x v rest barrier = go _ (login_within v rest barrier)
  where
    go : (t : Bool) {n : ℕ} → n ≤ length v → (if t then n + 1 else 0) ≤ suc (length v)
    go true h = omega arith
    go false h = omega arith

-- Unquoted bytes

abbrev is_bare_sign : Sign → Bool
is_bare_sign sign.Plain = true
is_bare_sign sign.Tilde = true
is_bare_sign _ = false

record BareSign (f : Sign × ℕ) (n : ℕ) : Type 0 where
  is : is_bare_sign f.0 ≡ true
  within : f.1 ≤ n

bare_byte : (c : ℕ) → is_bare c ≡ true → (ends_token c ≡ false) × (words.is_special site.Word c ≡ false)
bare_byte c h =
    let both = and_parts (not (ends_token c)) (not (is_in (codes "$`\"'\\") c)) h in
    (not_true (ends_token c) both.0, not_true (is_in (codes "$`\"'\\") c) both.1)
  where
    not_true : (t : Bool) → not t ≡ true → t ≡ false
    not_true true h = absurd (true≢false (sym h))
    not_true false h = refl

bare_sign : (x : Context) (prior i c : ℕ) (v rest : List ℕ) → x.site ≡ site.Word → x.strip ≡ false → is_bare c ≡ true → Barrier rest → BareSign (words.sign_of x prior i (c ∷ (v ++ rest))) (suc (length v))
unfolding words.sign_of words.sign_by words.is_tilde
bare_sign x prior i c v rest word strip bare barrier =
    let cs = v ++ rest in
    let byte = bare_byte c bare in
    let k : words.stops x.site c ≡ false = ap (λ s. words.stops s c) word ∙ byte.0 in
    let stripped : words.is_stripped x prior c ≡ false = rw strip refl in
    by_bool (words.stands x prior i c cs)
    (λ yes.
    let e : words.sign_by x prior i c cs ≡ (sign.Plain, words.plain_length x prior i (c ∷ cs)) = rw (k, stripped, yes) refl in
    subst (λ f. BareSign f (suc (length v))) (sym e) (record { is = refl; within = plain_within x prior i (c ∷ v) rest word barrier }))
    (λ no. by_bool (c == 126)
    (λ tilde.
    let e : words.sign_by x prior i c cs ≡ (sign.Tilde, words.tilde_length x cs) = rw (k, stripped, no, tilde) refl in
    subst (λ f. BareSign f (suc (length v))) (sym e) (record { is = refl; within = tilde_within x v rest barrier }))
    (λ other.
    let stands : words.stands x prior i c cs ≡ true = word_stands x prior i c cs word ∙ rw (byte.0, strip, other, byte.1) refl in
    absurd (true≢false (sym stands ∙ no))))

part_spot : {limit : ℕ} {b : List ℕ} {x : Context} {g : Sign} {s v : Spot} {e : ℕ} {p : Part} → ReadsPart limit b x g s e v p → is_bare_sign g ≡ true → v.at ≡ e
part_spot r.plain h = refl
part_spot r.tilde h = refl
part_spot r.escaped h = absurd (true≢false (sym h))
part_spot r.joined h = absurd (true≢false (sym h))
part_spot r.single_quoted h = absurd (true≢false (sym h))
part_spot (r.double_quoted i) h = absurd (true≢false (sym h))
part_spot r.value h = absurd (true≢false (sym h))
part_spot r.length_value h = absurd (true≢false (sym h))
part_spot (r.use_word d i) h = absurd (true≢false (sym h))
part_spot (r.removal d i) h = absurd (true≢false (sym h))
part_spot (r.arithmetic d i k c) h = absurd (true≢false (sym h))
part_spot (r.substitution d k i c) h = absurd (true≢false (sym h))

all_drop : (p : ℕ → Bool) (n : ℕ) (v : List ℕ) → list_all p v ≡ true → list_all p (drop n v) ≡ true
all_drop p zero v h = h
all_drop p (suc n) [] h = refl
all_drop p (suc n) (c ∷ v) h = all_drop p n v (and_parts (p c) (list_all p v) h).1

drop_front : (n : ℕ) (v rest : List ℕ) → n ≤ length v → (drop n (v ++ rest) ≡ drop n v ++ rest) × (n + length (drop n v) ≡ length v)
drop_front zero v rest h = (refl, omega arith)
drop_front (suc n) [] rest h = absurd (omega arith)
drop_front (suc n) (c ∷ v) rest h = let more = drop_front n v rest (omega arith) in (more.0, (let k = more.1 in omega arith))

-- a spot that the parts come by
record Reached (limit : ℕ) (b : List ℕ) (x : Context) (i : ℕ) (u : Spot) : Type 0 where
  prior : ℕ
  spot : Spot
  parts : List Part
  at : spot.at ≡ i
  reads : ReadsParts limit b x prior spot u parts

-- the parts come by the end of the unquoted bytes
reach : {limit : ℕ} {b : List ℕ} {x : Context} {prior : ℕ} {s u : Spot} {ps : List Part} → ReadsParts limit b x prior s u ps → x.site ≡ site.Word → x.strip ≡ false → (v rest : List ℕ)
    → drop s.at b ≡ v ++ rest → list_all is_bare v ≡ true → Barrier rest → Reached limit b x (s.at + length v) u
unfolding words.token
reach {prior = prior} {s = s} {ps = ps} reads word strip [] rest e bare barrier = record { prior = prior; spot = s; parts = ps; at = omega arith; reads = reads }
reach {b = b} {x = x} {prior = prior} (r.stop {s = s} h) word strip (c ∷ v) rest e bare barrier =
    let f = bare_sign x prior s.at c v rest word strip (and_parts (is_bare c) (list_all is_bare v) bare).0 barrier in
    absurd (true≢false (sym f.is ∙ ap (λ t. is_bare_sign (words.sign_of x prior s.at t).0) (sym e) ∙ ap is_bare_sign h))
reach {b = b} {x = x} {prior = prior} (r.tabs {s = s} h others) word strip (c ∷ v) rest e bare barrier =
    let f = bare_sign x prior s.at c v rest word strip (and_parts (is_bare c) (list_all is_bare v) bare).0 barrier in
    absurd (true≢false (sym f.is ∙ ap (λ t. is_bare_sign (words.sign_of x prior s.at t).0) (sym e) ∙ ap is_bare_sign h))
reach {limit = limit} {b = b} {x = x} {prior = prior} {u = u} (r.more {s = s} {v = end} h part others) word strip (c ∷ v) rest e bare barrier =
    let w = c ∷ v in
    let found = words.sign_of x prior s.at (drop s.at b) in
    let f = subst (λ t. BareSign (words.sign_of x prior s.at t) (length w)) (sym e) (bare_sign x prior s.at c v rest word strip (and_parts (is_bare c) (list_all is_bare v) bare).0 barrier) in
    let at : end.at ≡ s.at + found.1 = part_spot part (ap is_bare_sign (sym h) ∙ f.is) in
    let front = drop_front found.1 w rest f.within in
    let here : drop end.at b ≡ drop found.1 w ++ rest = ap (λ n. drop n b) at ∙ sym (drop-drop found.1 s.at b) ∙ ap (drop found.1) e ∙ front.0 in
    let more = reach others word strip (drop found.1 w) rest here (all_drop is_bare found.1 w bare) barrier in
    record { prior = more.prior; spot = more.spot; parts = more.parts; at = (let k = more.at in let m = front.1 in omega arith); reads = more.reads }

-- What ends a word and what goes on

abbrev is_escape : Sign → Bool
is_escape sign.Escaped = true
is_escape _ = false

-- the word ends at the end of its unquoted bytes if one may end there
pub ends_there : {limit : ℕ} {b : List ℕ} {x : Context} {prior : ℕ} {s u : Spot} {ps : List Part} → ReadsParts limit b x prior s u ps → x.site ≡ site.Word → x.strip ≡ false → (v rest : List ℕ)
    → drop s.at b ≡ v ++ rest → list_all is_bare v ≡ true → words.ends_joined rest ≡ true → u.at ≡ s.at + length v
unfolding words.token
ends_there {b = b} {x = x} {s = s} reads word strip v rest e bare ends =
    let p = reach reads word strip v rest e bare (edge_barrier rest ends) in
    let here : drop p.spot.at b ≡ rest = ap (λ n. drop n b) p.at ∙ sym (drop-drop (length v) s.at b) ∙ ap (drop (length v)) e ∙ drop_at v rest (length v) refl in
    let found : words.sign_of x p.prior p.spot.at (drop p.spot.at b) ≡ (sign.Stop, 0) = ap (words.sign_of x p.prior p.spot.at) here ∙ ends_stop x p.prior p.spot.at rest word strip ends in
    let stop = stopped (ap (λ (f : Sign × ℕ). f.0) found) p.reads in
    let size = ap (λ (f : Sign × ℕ). f.1) found in
    let at = p.at in
    ap (λ (t : Spot). t.at) stop.0 ∙ (let k : p.spot.at + (words.sign_of x p.prior p.spot.at (drop p.spot.at b)).1 ≡ s.at + length v = omega arith in k)

-- after a backslash that is unquoted, a byte of the word that is no newline
record Escapes (i : ℕ) (u : Spot) (cs : List ℕ) : Type 0 where
  byte : ℕ
  rest : List ℕ
  is : cs ≡ byte ∷ rest
  other : is_newline byte ≡ false
  inside : i + 2 ≤ u.at

backslash_sign : (x : Context) (prior i : ℕ) (cs : List ℕ) → x.site ≡ site.Word → x.strip ≡ false → words.sign_of x prior i (92 ∷ cs) ≡ words.backslash x cs
unfolding words.sign_of words.sign_by words.meant_by
backslash_sign x prior i cs word strip =
    let stands = backslash_stands x prior i cs word in
    let k : words.stops x.site 92 ≡ false = ap (λ s. words.stops s 92) word in
    let stripped : words.is_stripped x prior 92 ≡ false = rw strip refl in
    rw (k, stripped, stands) refl

escape_forward : {limit : ℕ} {b : List ℕ} {x : Context} {prior : ℕ} {s u : Spot} {ps : List Part} → ReadsParts limit b x prior s u ps → (words.sign_of x prior s.at (drop s.at b)).0 ≡ sign.Escaped
    → (words.sign_of x prior s.at (drop s.at b)).1 ≡ 2 → s.at + 2 ≤ u.at
unfolding words.token
escape_forward (r.stop h) is size = absurd (true≢false (sym (ap is_escape is) ∙ ap is_escape h))
escape_forward (r.tabs h others) is size = absurd (true≢false (sym (ap is_escape is) ∙ ap is_escape h))
escape_forward (r.more h part others) is size = let f = part_forward part in let g = parts_forward others in omega arith

escapes_at : {limit : ℕ} {b : List ℕ} {x : Context} {prior : ℕ} {s u : Spot} {ps : List Part} → ReadsParts limit b x prior s u ps → x.site ≡ site.Word → x.strip ≡ false → (cs : List ℕ)
    → drop s.at b ≡ 92 ∷ cs → s.at < u.at → Escapes s.at u cs
unfolding words.token words.backslash words.continuation
escapes_at {b = b} {x = x} {prior = prior} {s = s} reads word strip [] e more =
    let found : words.sign_of x prior s.at (drop s.at b) ≡ words.backslash x [] = ap (words.sign_of x prior s.at) e ∙ backslash_sign x prior s.at [] word strip in
    absurd (nothing_at _ (ap (λ (f : Sign × ℕ). f.0) found) refl reads)
escapes_at {limit = limit} {b = b} {x = x} {prior = prior} {s = s} {u = u} reads word strip (d ∷ ds) e more =
    let q : words.is_quoted x.site ≡ false = ap (λ s. words.is_quoted s) word in
    let w : words.is_word_site x.site ≡ true = ap (λ s. words.is_word_site s) word in
    let k : words.is_default_site x.site ≡ false = ap (λ s. words.is_default_site s) word in
    let found : words.sign_of x prior s.at (drop s.at b) ≡ words.backslash x (d ∷ ds) = ap (words.sign_of x prior s.at) e ∙ backslash_sign x prior s.at (d ∷ ds) word strip in
    by_bool (is_newline d)
    (λ newline. by_bool (words.ends_joined ds)
    (λ ends.
    let is : words.sign_of x prior s.at (drop s.at b) ≡ (sign.Stop, 0) = found ∙ rw (newline, q, w, ends) refl in
    let stop = ap (λ (t : Spot). t.at) (stopped (ap (λ (f : Sign × ℕ). f.0) is) reads).0 in
    let size = ap (λ (f : Sign × ℕ). f.1) is in
    absurd (omega arith))
    (λ goes.
    let is : words.sign_of x prior s.at (drop s.at b) ≡ (sign.LeftOut form.Continuation, 0) = found ∙ rw (newline, q, w, goes) refl in
    absurd (nothing_at _ (ap (λ (f : Sign × ℕ). f.0) is) refl reads)))
    (λ other.
    let is : words.sign_of x prior s.at (drop s.at b) ≡ (sign.Escaped, 2) = found ∙ rw (other, k) refl in
    record { byte = d; rest = ds; is = refl; other = other; inside = escape_forward reads (ap (λ (f : Sign × ℕ). f.0) is) (ap (λ (f : Sign × ℕ). f.1) is) })

-- a byte of the word after its unquoted bytes: no word ends there, whatever follows it
pub record Beyond (c : ℕ) (v r : List ℕ) : Type 0 where
  pub no_token : ends_token c ≡ false
  pub none : (r' : List ℕ) → joined_length (c ∷ (v ++ r')) ≡ 0
  pub goes_on : words.ends_joined (c ∷ (v ++ r)) ≡ false

pub beyond : {limit : ℕ} {b : List ℕ} {x : Context} {prior : ℕ} {s u : Spot} {ps : List Part} → ReadsParts limit b x prior s u ps → x.site ≡ site.Word → x.strip ≡ false → (front : List ℕ) (c : ℕ) (v r : List ℕ)
    → drop s.at b ≡ front ++ (c ∷ (v ++ r)) → list_all is_bare front ≡ true → u.at ≡ s.at + (length front + suc (length v)) → Beyond c v r
beyond {limit = limit} {b = b} {x = x} {s = s} {u = u} reads word strip front c v r e bare end = record {
  no_token = by_bool (ends_token c) (λ yes. let at = ends_there reads word strip front (c ∷ (v ++ r)) e bare (token_first c (v ++ r) yes) in absurd (omega arith)) (λ no. no);
  none = by_bool (is_backslash c)
      (λ yes. escaped (eqb-true c 92 yes))
      (λ no. λ r'. not_joined c (v ++ r') no);
  goes_on = by_bool (words.ends_joined (c ∷ (v ++ r))) (λ yes. let at = ends_there reads word strip front (c ∷ (v ++ r)) e bare yes in absurd (omega arith)) (λ no. no);
}
  where
    escaped : c ≡ 92 → (r' : List ℕ) → joined_length (c ∷ (v ++ r')) ≡ 0
    escaped is r' =
        let e1 : drop s.at b ≡ front ++ (92 ∷ (v ++ r)) = e ∙ ap (λ n. front ++ (n ∷ (v ++ r))) is in
        let p = reach reads word strip front (92 ∷ (v ++ r)) e1 bare (backslash_barrier (v ++ r)) in
        let here : drop p.spot.at b ≡ 92 ∷ (v ++ r) = ap (λ n. drop n b) p.at ∙ sym (drop-drop (length front) s.at b) ∙ ap (drop (length front)) e1 ∙ drop_at front (92 ∷ (v ++ r)) (length front) refl in
        let at = p.at in
        let q = escapes_at p.reads word strip (v ++ r) here (omega arith) in
        let inside = q.inside in
        go v q.is q.other (omega arith)
      where
        go : (w : List ℕ) {d : ℕ} {ds : List ℕ} → w ++ r ≡ d ∷ ds → is_newline d ≡ false → 1 ≤ length w → joined_length (c ∷ (w ++ r')) ≡ 0
        go [] k other some = absurd (omega arith)
        go (a ∷ w) {d = d} k other some = lone c a (w ++ r') (ap (λ t. is_newline (first t)) k ∙ other)
          where
            first : List ℕ → ℕ
            first [] = 0
            first (n ∷ ns) = n
