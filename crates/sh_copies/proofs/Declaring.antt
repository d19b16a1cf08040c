-- Where a word ends, and whether it is the name of a utility whose operands may be assignments.
-- POSIX.1-2024, XCU 2.3 (token recognition), 2.15 (export, readonly).
use Rattle.std.proofs.Common.{◌≡◌, ℕ, suc, ◌+◌, ◌≤◌, ◌<◌, ◌==◌, Bool, true, false, not, ◌&&◌, ◌||◌, if◌then◌else◌, List, [], ◌∷◌, ◌++◌, length, drop, take, codes, refl, sym, ap, subst, ◌∙◌, ⊎_elim, ◌-◌, arith}
use Rattle.std.specs.List.{list_all}
use Rattle.std.specs.Str.{bytes_eq}
use Rattle.std.proofs.lemmas.Bool.{cases_lt, cond-true, cond-false, true≢false, and_parts, eqb-true}
use Rattle.std.proofs.lemmas.List.{drop-drop, take-append-drop}
use Rattle.std.proofs.lemmas.List.Folds.{drop_split}
use Rattle.std.proofs.lemmas.Slice.Eq.{bytes_eq-Decides}
use Rattle.std.proofs.Math.Seq.{drop-append_seam, take-append_seam}
use Rattle.std.proofs.lemmas.Bool.Decides.{nat_tests}
use Rattle.sh_tree.specs.declared.refusal.Form.TheVariants as form
use Rattle.sh_tree.specs.declared.tree.CommandStyle.TheVariants.{Backquote}
use Rattle.sh_tree.specs.declared.tree.Part.{Part}
use Rattle.sh_tree.specs.declared.tree.Word.{Word}
use Rattle.sh_tree.specs.declared.token.word.Context.{Context}
use Rattle.sh_tree.specs.declared.token.word.Site.TheVariants as site
use Rattle.sh_tree.specs.declared.token.word.Sign.{Sign}
use Rattle.sh_tree.specs.declared.token.word.Sign.TheVariants as sign
use Rattle.sh_tree.specs.standard.Tree.{text_of}
use Rattle.sh_tree.specs.standard.language.Bytes.{is_name_byte, is_newline, is_tab, is_backslash, ends_token, is_first, is_last_backquote, run, joined_length}
use Rattle.sh_tree.specs.standard.language.Commands.{bare_word, declares, is_bare}
use Rattle.sh_tree.specs.standard.language.Reading as r
use Rattle.sh_tree.specs.standard.language.Reading.{ReadsParts, ReadsWord}
use Rattle.sh_tree.specs.standard.language.States.{Spot}
use Rattle.sh_tree.specs.standard.language.Trees.{span}
use Rattle.sh_tree.specs.standard.language.Words as words
use Rattle.sh_tree.proofs.Inversions.{bare_word_ends, word_parts}
use Rattle.sh_reads.proofs.BeginningLemmas.{dollar_goes, ends, single_goes}
use Rattle.sh_copies.specs.Copied.{is_declaring}
use Rattle.sh_copies.proofs.AlikeBytes.{by_bool, run_yes, run_no, zero_not}
use Rattle.sh_copies.proofs.AlikePlain.{plain_yes, plain_no}

-- the sign takes no byte, and a word may end before the text
record Ends (f : Sign × ℕ) (cs : List ℕ) : Type 0 where
  size : f.1 ≡ 0
  ends : words.ends_joined cs ≡ true

abbrev is_stop : Sign → Bool
is_stop sign.Stop = true
is_stop _ = false

abbrev stops : Sign × ℕ → Bool
stops f = is_stop f.0

pub token_first : (c : ℕ) (cs : List ℕ) → ends_token c ≡ true → words.ends_joined (c ∷ cs) ≡ true
unfolding joined_length is_first
token_first c [] h = grind (arith, nat_tests, h)
token_first c (d ∷ cs) h =
    let other : (is_backslash c && is_newline d) ≡ false = grind (arith, nat_tests, h) in
    let none : joined_length (c ∷ d ∷ cs) ≡ 0 = cond-false _ _ _ other in
    rw none (grind (arith, nat_tests, h))

continuation_joined : (c d : ℕ) (cs : List ℕ) → (c == 92) ≡ true → is_newline d ≡ true → words.ends_joined cs ≡ true → words.ends_joined (c ∷ d ∷ cs) ≡ true
unfolding joined_length
continuation_joined c d cs h k e =
    let both : (is_backslash c && is_newline d) ≡ true = rw (h, k) refl in
    let long : joined_length (c ∷ d ∷ cs) ≡ suc (suc (joined_length cs)) = cond-true _ _ _ both ∙ (let n : 2 + joined_length cs ≡ suc (suc (joined_length cs)) = omega arith in n) in
    rw long e

continuation_ends : (x : Context) (cs : List ℕ) → x.site ≡ site.Word → is_stop (words.continuation x cs).0 ≡ true → ((words.continuation x cs).1 ≡ 0) × (words.ends_joined cs ≡ true)
unfolding words.continuation
continuation_ends x cs word h =
    let q : words.is_quoted x.site ≡ false = ap (λ s. words.is_quoted s) word in
    let w : words.is_word_site x.site ≡ true = ap (λ s. words.is_word_site s) word in
    by_bool (words.ends_joined cs)
    (λ yes. (rw (q, w, yes) refl, yes))
    (λ no.
    let e : words.continuation x cs ≡ (sign.LeftOut form.Continuation, 0) = rw (q, w, no) refl in
    absurd (true≢false (sym h ∙ ap (λ f. is_stop f.0) e)))

backslash_ends : (x : Context) (c : ℕ) (cs : List ℕ) → x.site ≡ site.Word → (c == 92) ≡ true → is_stop (words.backslash x cs).0 ≡ true → Ends (words.backslash x cs) (c ∷ cs)
unfolding words.backslash
backslash_ends x c [] word is h = absurd (true≢false (sym h))
backslash_ends x c (d ∷ cs) word is h =
    let k : words.is_default_site x.site ≡ false = ap (λ s. words.is_default_site s) word in
    by_bool (is_newline d)
    (λ line.
    let e : words.backslash x (d ∷ cs) ≡ words.continuation x cs = rw line refl in
    let found = continuation_ends x cs word (ap (λ f. is_stop f.0) (sym e) ∙ h) in
    record { size = ap (λ f. f.1) e ∙ found.0; ends = continuation_joined c d cs is line found.1 })
    (λ other.
    let e : words.backslash x (d ∷ cs) ≡ (sign.Escaped, 2) = rw (other, k) refl in
    absurd (true≢false (sym h ∙ ap (λ f. is_stop f.0) e)))

backquoted_ends : (x : Context) (c : ℕ) (cs : List ℕ) → x.site ≡ site.Word → (c == 96) ≡ true → is_stop (words.backquoted x cs).0 ≡ true → Ends (words.backquoted x cs) (c ∷ cs)
unfolding words.backquoted joined_length is_first is_last_backquote
backquoted_ends x c [] word is h =
    let w : words.is_word_site x.site ≡ true = ap (λ s. words.is_word_site s) word in
    record { size = rw w refl; ends = grind (arith, nat_tests, is) }
backquoted_ends x c (d ∷ cs) word is h =
    let w : words.is_word_site x.site ≡ true = ap (λ s. words.is_word_site s) word in
    let e : words.backquoted x (d ∷ cs) ≡ (if x.backquotes then (sign.Substitution Backquote, 1) else (sign.LeftOut form.Backquoted, 0)) = rw (w, zero_not (length cs)) refl in
    absurd (go x.backquotes (ap stops (sym e) ∙ h))
  where
    go : (t : Bool) → stops (if t then (sign.Substitution Backquote, 1) else (sign.LeftOut form.Backquoted, 0)) ≡ true → ⊥
    go true k = true≢false (sym k)
    go false k = true≢false (sym k)

-- a sign that takes bytes is no end
not_stop : (f : Sign × ℕ) → ends f ≡ false → is_stop f.0 ≡ true → ⊥
not_stop (sign.Stop, n) h k = true≢false h
not_stop (g, n) h k = true≢false (sym k)

same : {f g : Sign × ℕ} {cs : List ℕ} → f ≡ g → is_stop f.0 ≡ true → (is_stop g.0 ≡ true → Ends g cs) → Ends f cs
same {cs = cs} e h k = subst (λ x. Ends x cs) (sym e) (k (ap (λ x. is_stop x.0) (sym e) ∙ h))

meant_ends : (x : Context) (i c : ℕ) (cs : List ℕ) → x.site ≡ site.Word → is_stop (words.meant_by x i c cs).0 ≡ true → Ends (words.meant_by x i c cs) (c ∷ cs)
unfolding words.meant_by
meant_ends x i c cs word h =
    let k : words.is_default_site x.site ≡ false = ap (λ s. words.is_default_site s) word in
    by_bool (c == 92)
    (λ yes. let e : words.meant_by x i c cs ≡ words.backslash x cs = rw yes refl in same e h (backslash_ends x c cs word yes))
    (λ n1. by_bool (c == 39)
    (λ yes. let e : words.meant_by x i c cs ≡ words.single cs = rw (n1, yes) refl in same e h (λ s. absurd (not_stop (words.single cs) (single_goes cs) s)))
    (λ n2. by_bool (c == 34)
    (λ yes. let e : words.meant_by x i c cs ≡ (sign.Double, 1) = rw (n1, n2, yes, k) refl in same e h (λ s. absurd (true≢false (sym s))))
    (λ n3. by_bool (c == 96)
    (λ yes. let e : words.meant_by x i c cs ≡ words.backquoted x cs = rw (n1, n2, n3, yes) refl in same e h (backquoted_ends x c cs word yes))
    (λ n4. let e : words.meant_by x i c cs ≡ words.dollar x i cs = rw (n1, n2, n3, n4) refl in same e h (λ s. absurd (not_stop (words.dollar x i cs) (dollar_goes x i cs) s))))))

stop_ends : (x : Context) (prior i : ℕ) (cs : List ℕ) → x.site ≡ site.Word → is_stop (words.sign_of x prior i cs).0 ≡ true → Ends (words.sign_of x prior i cs) cs
unfolding words.sign_of words.sign_by joined_length
stop_ends x prior i [] word h = record { size = refl; ends = refl }
stop_ends x prior i (c ∷ cs) word h =
    let k : words.stops x.site c ≡ ends_token c = ap (λ s. words.stops s c) word in
    let size : words.stop_length x.site ≡ 0 = ap (λ s. words.stop_length s) word in
    by_bool (ends_token c)
    (λ yes. let e : words.sign_by x prior i c cs ≡ (sign.Stop, 0) = rw (k, yes, size) refl in same e h (λ s. record { size = refl; ends = token_first c cs yes }))
    (λ n0. by_bool (words.is_stripped x prior c)
    (λ yes. let e : words.sign_by x prior i c cs ≡ (sign.Tabs, run is_tab cs + 1) = rw (k, n0, yes) refl in same e h (λ s. absurd (true≢false (sym s))))
    (λ n1. by_bool (words.stands x prior i c cs)
    (λ yes. let e : words.sign_by x prior i c cs ≡ (sign.Plain, words.plain_length x prior i (c ∷ cs)) = rw (k, n0, n1, yes) refl in same e h (λ s. absurd (true≢false (sym s))))
    (λ n2. by_bool (c == 126)
    (λ yes. let e : words.sign_by x prior i c cs ≡ (sign.Tilde, words.tilde_length x cs) = rw (k, n0, n1, n2, yes) refl in same e h (λ s. absurd (true≢false (sym s))))
    (λ n3. let e : words.sign_by x prior i c cs ≡ words.meant_by x i c cs = rw (k, n0, n1, n2, n3) refl in same e h (meant_ends x i c cs word)))))

-- a whole word ends before what may end a word
pub parts_end : {limit : ℕ} {b : List ℕ} {x : Context} {prior : ℕ} {s u : Spot} {ps : List Part} → x.site ≡ site.Word → ReadsParts limit b x prior s u ps → words.ends_joined (drop u.at b) ≡ true
unfolding words.token
parts_end {b = b} {x = x} {prior = prior} word (r.stop {s = s} is) =
    let e = stop_ends x prior s.at (drop s.at b) word (ap is_stop is) in
    subst (λ n. words.ends_joined (drop n b) ≡ true) (let h : s.at ≡ s.at + (words.sign_of x prior s.at (drop s.at b)).1 = (let k = e.size in omega arith) in h) e.ends
parts_end word (r.tabs is others) = parts_end word others
parts_end word (r.more is part others) = parts_end word others

-- What may end a word

pub data Edge (c : ℕ) (cs : List ℕ) : Type 0 where
  token : ends_token c ≡ true → Edge c cs
  joined : (d : ℕ) (ds : List ℕ) → cs ≡ d ∷ ds → (c == 92) ≡ true → is_newline d ≡ true → words.ends_joined ds ≡ true → Edge c cs
  last : (c == 96) ≡ true → cs ≡ [] → Edge c cs

pub edge : (c : ℕ) (cs : List ℕ) → words.ends_joined (c ∷ cs) ≡ true → Edge c cs
unfolding joined_length is_first is_last_backquote
edge c [] h = by_bool (ends_token c) (λ yes. Edge.token yes) (λ no. Edge.last (grind (arith, nat_tests, h, no)) refl)
edge c (d ∷ ds) h = by_bool (is_backslash c && is_newline d)
    (λ yes.
    let both = and_parts (is_backslash c) (is_newline d) yes in
    let long : joined_length (c ∷ d ∷ ds) ≡ suc (suc (joined_length ds)) = cond-true _ _ _ yes ∙ (let n : 2 + joined_length ds ≡ suc (suc (joined_length ds)) = omega arith in n) in
    Edge.joined d ds refl both.0 both.1 (ap (λ n. length (drop n (c ∷ d ∷ ds)) == 0 || is_first ends_token (drop n (c ∷ d ∷ ds)) || is_last_backquote (drop n (c ∷ d ∷ ds))) (sym long) ∙ h))
    (λ no.
    let none : joined_length (c ∷ d ∷ ds) ≡ 0 = cond-false _ _ _ no in
    let k : words.ends_joined (c ∷ d ∷ ds) ≡ (ends_token c || false) = rw (none, zero_not (suc (length ds))) refl in
    Edge.token (grind (arith, nat_tests, sym k ∙ h)))

-- what is literal in a word
pub word_stands : (x : Context) (prior i c : ℕ) (cs : List ℕ) → x.site ≡ site.Word
    → words.stands x prior i c cs ≡ (not (ends_token c) && not (words.is_stripped x prior c) && not (words.is_tilde x prior i c cs) && (not (words.is_special site.Word c) || words.is_literal site.Word c cs))
unfolding words.stands
word_stands x prior i c cs word =
    ap (λ s. not (words.stops s c) && not (words.is_stripped x prior c) && not (words.is_tilde x prior i c cs) && (not (words.is_special s c) || words.is_literal s c cs)) word

pub last_false : (t u v w : Bool) → w ≡ false → (t && u && v && w) ≡ false
last_false true true true w h = h
last_false true true false w h = refl
last_false true false v w h = refl
last_false false u v w h = refl

pub edge_stands : (x : Context) (prior i c : ℕ) (cs : List ℕ) → x.site ≡ site.Word → Edge c cs → words.stands x prior i c cs ≡ false
unfolding is_first
edge_stands x prior i c cs word (Edge.token h) = word_stands x prior i c cs word ∙ rw h refl
edge_stands x prior i c cs word (Edge.joined d ds is back line more) =
    word_stands x prior i c cs word ∙ last_false (not (ends_token c)) (not (words.is_stripped x prior c)) (not (words.is_tilde x prior i c cs)) _ (special_none c cs (eqb-true c 92 back) is)
  where
    special_none : (c : ℕ) (cs : List ℕ) → c ≡ 92 → cs ≡ d ∷ ds → (not (words.is_special site.Word c) || words.is_literal site.Word c cs) ≡ false
    special_none c cs e k = subst (λ n. (not (words.is_special site.Word n) || words.is_literal site.Word n cs) ≡ false) (sym e) (rw (k, zero_not (length ds)) refl)
edge_stands x prior i c cs word (Edge.last quote none) =
    word_stands x prior i c cs word
    ∙ last_false (not (ends_token c)) (not (words.is_stripped x prior c)) (not (words.is_tilde x prior i c cs)) _ (subst (λ n. (not (words.is_special site.Word n) || words.is_literal site.Word n cs) ≡ false) (sym (eqb-true c 96 quote)) refl)

-- a word ends before it
edge_stop : (x : Context) (prior i c : ℕ) (cs : List ℕ) → x.site ≡ site.Word → x.strip ≡ false → Edge c cs → words.sign_of x prior i (c ∷ cs) ≡ (sign.Stop, 0)
unfolding words.sign_of words.sign_by words.meant_by words.backslash words.continuation words.backquoted
edge_stop x prior i c cs word strip (Edge.token h) =
    let k : words.stops x.site c ≡ ends_token c = ap (λ s. words.stops s c) word in
    let size : words.stop_length x.site ≡ 0 = ap (λ s. words.stop_length s) word in
    rw (k, h, size) refl
edge_stop x prior i c cs word strip (Edge.joined d ds is back line more) =
    let stands = edge_stands x prior i c cs word (Edge.joined d ds is back line more) in
    let k : words.stops x.site c ≡ false = ap (λ s. words.stops s c) word ∙ subst (λ n. ends_token n ≡ false) (sym (eqb-true c 92 back)) refl in
    let tilde : (c == 126) ≡ false = subst (λ n. (n == 126) ≡ false) (sym (eqb-true c 92 back)) refl in
    let q : words.is_quoted x.site ≡ false = ap (λ s. words.is_quoted s) word in
    let w : words.is_word_site x.site ≡ true = ap (λ s. words.is_word_site s) word in
    let stripped : words.is_stripped x prior c ≡ false = rw strip refl in
    let e : words.sign_by x prior i c cs ≡ words.backslash x cs = rw (k, stripped, stands, tilde, back) refl in
    e ∙ ap (words.backslash x) is ∙ rw (line, q, w, more) refl
edge_stop x prior i c cs word strip (Edge.last quote none) =
    let stands = edge_stands x prior i c cs word (Edge.last quote none) in
    let is : c ≡ 96 = eqb-true c 96 quote in
    let k : words.stops x.site c ≡ false = ap (λ s. words.stops s c) word ∙ subst (λ n. ends_token n ≡ false) (sym is) refl in
    let tilde : (c == 126) ≡ false = subst (λ n. (n == 126) ≡ false) (sym is) refl in
    let back : (c == 92) ≡ false = subst (λ n. (n == 92) ≡ false) (sym is) refl in
    let single : (c == 39) ≡ false = subst (λ n. (n == 39) ≡ false) (sym is) refl in
    let double : (c == 34) ≡ false = subst (λ n. (n == 34) ≡ false) (sym is) refl in
    let w : words.is_word_site x.site ≡ true = ap (λ s. words.is_word_site s) word in
    let stripped : words.is_stripped x prior c ≡ false = rw strip refl in
    let e : words.sign_by x prior i c cs ≡ words.backquoted x cs = rw (k, stripped, stands, tilde, back, single, double, quote) refl in
    e ∙ ap (words.backquoted x) none ∙ rw w refl

pub ends_stop : (x : Context) (prior i : ℕ) (cs : List ℕ) → x.site ≡ site.Word → x.strip ≡ false → words.ends_joined cs ≡ true → words.sign_of x prior i cs ≡ (sign.Stop, 0)
unfolding words.sign_of
ends_stop x prior i [] word strip h = ap (λ s. (words.sign_at_end s, 0)) word
ends_stop x prior i (c ∷ cs) word strip h = edge_stop x prior i c cs word strip (edge c cs h)

-- Names

name_stands : (x : Context) (prior i c : ℕ) (cs : List ℕ) → x.site ≡ site.Word → x.strip ≡ false → is_name_byte c ≡ true → words.stands x prior i c cs ≡ true
unfolding words.is_tilde
name_stands x prior i c cs word strip h =
    let ends : ends_token c ≡ false = grind (arith, nat_tests, h) in
    let special : words.is_special site.Word c ≡ false = grind (arith, nat_tests, h) in
    let tilde : (c == 126) ≡ false = grind (arith, nat_tests, h) in
    word_stands x prior i c cs word ∙ rw (ends, strip, tilde, special) refl

name_plain : (x : Context) (prior i : ℕ) (t rest : List ℕ) → x.site ≡ site.Word → x.strip ≡ false → list_all is_name_byte t ≡ true → words.ends_joined rest ≡ true
    → words.plain_length x prior i (t ++ rest) ≡ length t
unfolding words.plain_length
name_plain x prior i [] [] word strip h e = refl
name_plain x prior i [] (c ∷ cs) word strip h e = plain_no x prior i c cs (edge_stands x prior i c cs word (edge c cs e))
name_plain x prior i (c ∷ t) rest word strip h e =
    let both = and_parts (is_name_byte c) (list_all is_name_byte t) h in
    plain_yes x prior i c (t ++ rest) (name_stands x prior i c (t ++ rest) word strip both.0) ∙ (let more = name_plain x c (i + 1) t rest word strip both.1 e in let k : 1 + words.plain_length x c (i + 1) (t ++ rest) ≡ suc (length t) = omega arith in k)

name_sign : (x : Context) (prior i c : ℕ) (t rest : List ℕ) → x.site ≡ site.Word → x.strip ≡ false → list_all is_name_byte (c ∷ t) ≡ true → words.ends_joined rest ≡ true
    → words.sign_of x prior i (c ∷ (t ++ rest)) ≡ (sign.Plain, suc (length t))
unfolding words.sign_of words.sign_by
name_sign x prior i c t rest word strip h e =
    let k : words.stops x.site c ≡ false = ap (λ s. words.stops s c) word ∙ (let n = (and_parts (is_name_byte c) (list_all is_name_byte t) h).0 in grind (arith, nat_tests, n)) in
    let stands = name_stands x prior i c (t ++ rest) word strip (and_parts (is_name_byte c) (list_all is_name_byte t) h).0 in
    let stripped : words.is_stripped x prior c ≡ false = rw strip refl in
    rw (k, stripped, stands) (ap (λ n. (sign.Plain, n)) (name_plain x prior i (c ∷ t) rest word strip h e))

pub edge_bare : (c : ℕ) (cs : List ℕ) → Edge c cs → is_bare c ≡ false
edge_bare c cs (Edge.token h) = rw h refl
edge_bare c cs (Edge.joined d ds is back line more) = subst (λ n. is_bare n ≡ false) (sym (eqb-true c 92 back)) refl
edge_bare c cs (Edge.last quote none) = subst (λ n. is_bare n ≡ false) (sym (eqb-true c 96 quote)) refl

pub name_bare : (c : ℕ) → is_name_byte c ≡ true → is_bare c ≡ true
name_bare c h = grind (arith, nat_tests)

name_run : (t rest : List ℕ) → list_all is_name_byte t ≡ true → words.ends_joined rest ≡ true → run is_bare (t ++ rest) ≡ length t
name_run [] [] h e = refl
name_run [] (c ∷ cs) h e = run_no is_bare c cs (edge_bare c cs (edge c cs e))
name_run (c ∷ t) rest h e =
    let both = and_parts (is_name_byte c) (list_all is_name_byte t) h in
    run_yes is_bare c (t ++ rest) (name_bare c both.0) ∙ ap suc (name_run t rest both.1 e)

-- Declaring

-- two texts, both or neither of which are a third one
bytes_same : (t v w : List ℕ) → (v ≡ t → w ≡ t) → (w ≡ t → v ≡ t) → bytes_eq t v ≡ bytes_eq t w
bytes_same t v w f g = by_bool (bytes_eq t v)
    (λ yes. yes ∙ sym (is w (f (sym ((bytes_eq-Decides t v).0 yes)))))
    (λ no. by_bool (bytes_eq t w) (λ yes. absurd (true≢false (sym (is v (g (sym ((bytes_eq-Decides t w).0 yes)))) ∙ no))) (λ neither. no ∙ sym neither))
  where
    is : (y : List ℕ) → y ≡ t → bytes_eq t y ≡ true
    is y e = (bytes_eq-Decides t y).1 (sym e)

-- the unquoted word at i, if it is not empty
bare_front : (b : List ℕ) (i c : ℕ) (t : List ℕ) → bare_word b i ≡ c ∷ t → (drop i b ≡ (c ∷ t) ++ drop (run is_bare (drop i b)) (drop i b)) × (words.ends_joined (drop (run is_bare (drop i b)) (drop i b)) ≡ true)
unfolding bare_word
bare_front b i c t e = go (words.ends_joined (drop (run is_bare (drop i b)) (drop i b))) refl e
  where
    go : (k : Bool) → words.ends_joined (drop (run is_bare (drop i b)) (drop i b)) ≡ k → (if k then take (run is_bare (drop i b)) (drop i b) else []) ≡ c ∷ t
        → (drop i b ≡ (c ∷ t) ++ drop (run is_bare (drop i b)) (drop i b)) × (words.ends_joined (drop (run is_bare (drop i b)) (drop i b)) ≡ true)
    go true k h = (sym (take-append-drop (run is_bare (drop i b)) (drop i b)) ∙ ap (λ v. v ++ drop (run is_bare (drop i b)) (drop i b)) h, k)
    go false k h = absurd cc

-- a name before what may end a word is a whole word
name_ends : {limit : ℕ} {b : List ℕ} {x : Context} {s u : Spot} {w : Word} (c : ℕ) (t rest : List ℕ) → x.site ≡ site.Word → x.strip ≡ false → ReadsWord limit b x s u w
    → list_all is_name_byte (c ∷ t) ≡ true → drop s.at b ≡ (c ∷ t) ++ rest → words.ends_joined rest ≡ true → u.at ≡ s.at + suc (length t)
unfolding words.token
name_ends {b = b} {x = x} {s = s} {u = u} c t rest word strip reads h e k =
    let first : words.sign_of x 0 s.at (drop s.at b) ≡ (sign.Plain, suc (length t)) = ap (words.sign_of x 0 s.at) e ∙ name_sign x 0 s.at c t rest word strip h k in
    let behind : drop (s.at + (words.sign_of x 0 s.at (drop s.at b)).1) b ≡ rest =
    ap (λ (f : Sign × ℕ). drop (s.at + f.1) b) first ∙ sym (drop-drop (suc (length t)) s.at b) ∙ ap (drop (suc (length t))) e ∙ drop-append_seam (c ∷ t) rest in
    let prior = r.prior_of b sign.Plain (s.at + (words.sign_of x 0 s.at (drop s.at b)).1) in
    let next : words.sign_of x prior (s.at + (words.sign_of x 0 s.at (drop s.at b)).1) (drop (s.at + (words.sign_of x 0 s.at (drop s.at b)).1) b) ≡ (sign.Stop, 0) =
    ap (words.sign_of x prior (s.at + (words.sign_of x 0 s.at (drop s.at b)).1)) behind ∙ ends_stop x prior _ rest word strip k in
    let end = bare_word_ends (ap (λ (f : Sign × ℕ). f.0) first) (ap (λ (f : Sign × ℕ). f.0) next) reads in
    let size = ap (λ (f : Sign × ℕ). f.1) first in
    let none = ap (λ (f : Sign × ℕ). f.1) next in
    ap (λ (v : Spot). v.at) end ∙ omega (arith, size, none)

module _ {limit : ℕ} {b : List ℕ} {x : Context} {s u : Spot} {w : Word} (word : x.site ≡ site.Word) (strip : x.strip ≡ false) (reads : ReadsWord limit b x s u w) where
  bare_text : (c : ℕ) (t : List ℕ) → list_all is_name_byte (c ∷ t) ≡ true → bare_word b s.at ≡ c ∷ t → text_of b (span s.at u.at) ≡ c ∷ t
  bare_text c t h e =
      let rest = drop (run is_bare (drop s.at b)) (drop s.at b) in
      let front = bare_front b s.at c t e in
      let end = name_ends c t rest word strip reads h front.0 front.1 in
      let size : u.at - s.at ≡ suc (length t) = omega arith in
      ap (λ n. take n (drop s.at b)) size ∙ ap (take (suc (length t))) front.0 ∙ take-append_seam (c ∷ t) rest

  text_bare : (c : ℕ) (t : List ℕ) → list_all is_name_byte (c ∷ t) ≡ true → text_of b (span s.at u.at) ≡ c ∷ t → bare_word b s.at ≡ c ∷ t
  unfolding bare_word
  text_bare c t h e = ⊎_elim less more (cases_lt u.at s.at)
    where
      less : u.at < s.at → bare_word b s.at ≡ c ∷ t
      less k = let none : u.at - s.at ≡ 0 = omega arith in absurd (nothing (sym (ap (λ n. take n (drop s.at b)) none) ∙ e))
        where
          nothing : [] ≡ c ∷ t → ⊥
          nothing k = cc

      more : s.at ≤ u.at → bare_word b s.at ≡ c ∷ t
      more k =
          let rest = drop u.at b in
          let front : drop s.at b ≡ (c ∷ t) ++ rest = drop_split b s.at u.at k ∙ ap (λ v. v ++ rest) e in
          let ends = parts_end word (word_parts reads).2 in
          let long = name_run (c ∷ t) rest h ends in
          ap (λ cs. if words.ends_joined (drop (run is_bare cs) cs) then take (run is_bare cs) cs else []) front
          ∙ ap (λ n. if words.ends_joined (drop n ((c ∷ t) ++ rest)) then take n ((c ∷ t) ++ rest) else []) long
          ∙ cond-true _ _ _ (ap (λ cs. words.ends_joined cs) (drop-append_seam (c ∷ t) rest) ∙ ends) ∙ take-append_seam (c ∷ t) rest

  same_name : (c : ℕ) (t : List ℕ) → list_all is_name_byte (c ∷ t) ≡ true → bytes_eq (c ∷ t) (bare_word b s.at) ≡ bytes_eq (c ∷ t) (text_of b (span s.at u.at))
  same_name c t h = bytes_same (c ∷ t) (bare_word b s.at) (text_of b (span s.at u.at)) (bare_text c t h) (text_bare c t h)

-- the word names `export` or `readonly` if its text is that name
pub declares_read : {limit : ℕ} {b : List ℕ} {x : Context} {s u : Spot} {w : Word} → x.site ≡ site.Word → x.strip ≡ false → ReadsWord limit b x s u w → declares b s.at ≡ is_declaring (text_of b w.span)
unfolding declares
declares_read {b = b} {s = s} {u = u} {w = w} word strip reads =
    let text : text_of b w.span ≡ text_of b (span s.at u.at) = ap (λ (v : Word). text_of b v.span) (word_parts reads).1 in
    let one = same_name word strip reads 101 (codes "xport") refl in
    let two = same_name word strip reads 114 (codes "eadonly") refl in
    ap (λ t. t || bytes_eq (codes "readonly") (bare_word b s.at)) one ∙ ap (λ t. bytes_eq (codes "export") (text_of b (span s.at u.at)) || t) two ∙ ap is_declaring (sym text)
