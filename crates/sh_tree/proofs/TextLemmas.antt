-- Static texts, one part after another.
use Rattle.std.proofs.Common.{◌≡◌, ℕ, suc, ◌==◌, Bool, true, false, if◌then◌else◌, ◌+◌, ◌-◌, ◌<◌, ◌≤◌, ◌⊎◌, inl, inr, Option, Some, None, List, [], ◌∷◌, ◌++◌, length, get_or, take, drop, refl, ap, sym, ◌∙◌, add-one, drop-cons, append_assoc, length-append, length-drop, take_all, arith}
use Rattle.std.proofs.lemmas.Bool.{ne_eqb}
use Rattle.std.proofs.lemmas.Option.{none-some}
use Rattle.std.proofs.lemmas.List.{drop_all, append-nil, length-take-le}
use Rattle.sh_tree.specs.declared.tree.Part.{Part}
use Rattle.sh_tree.specs.declared.tree.SingleStyle.{SingleStyle}
use Rattle.sh_tree.specs.declared.tree.SingleStyle.TheVariants as single
use Rattle.sh_tree.specs.Fronts.{front_with, part_front, parts_front}
use Rattle.sh_tree.specs.standard.Words.{both_texts, part_text, parts_text, escape_of, escaped, behind_first, between_ends, single_text}

-- a text that is not static makes the whole not static
pub both_texts_none : (t : List ℕ) (x : Option (List ℕ)) → None ≡ both_texts (Some t) x → None ≡ x
both_texts_none t None e = refl
both_texts_none t (Some u) e = cc

both_texts_assoc : (a : List ℕ) (x y : Option (List ℕ)) → both_texts (both_texts (Some a) x) y ≡ both_texts (Some a) (both_texts x y)
both_texts_assoc a None y = refl
both_texts_assoc a (Some u) None = refl
both_texts_assoc a (Some u) (Some v) = ap Some (append_assoc a u v)

-- the texts from a place on, one part further
pub text_step : (b : List ℕ) (ps : List Part) (i : ℕ) (x : Part) (old new : List ℕ) → i < length ps → x ≡ get_or ps i x
    → Some new ≡ both_texts (Some old) (part_text b x)
    → both_texts (Some new) (parts_text b (drop (i + 1) ps)) ≡ both_texts (Some old) (parts_text b (drop i ps))
unfolding parts_text
text_step b ps i x old new h e n =
    rw (drop-cons ps i x, add-one, ← e, n, both_texts_assoc) refl

pub text_none : (b : List ℕ) (ps : List Part) (i : ℕ) (x : Part) (old : List ℕ) → i < length ps → x ≡ get_or ps i x
    → None ≡ both_texts (Some old) (part_text b x) → None ≡ both_texts (Some old) (parts_text b (drop i ps))
unfolding parts_text
text_none b ps i x old h e n =
    rw (drop-cons ps i x, ← e, ← both_texts_assoc, ← n) refl

pub text_stop : (b : List ℕ) (ps : List Part) (i : ℕ) (t : List ℕ) → length ps ≤ i → both_texts (Some t) (parts_text b (drop i ps)) ≡ Some t
unfolding parts_text
text_stop b ps i t h = rw (drop_all i ps h, append-nil) refl

-- Fronts

longer_front : (front : List ℕ) (x : Option (List ℕ)) (others : List ℕ) → length front ≤ length (front_with front x others)
longer_front front None others = omega arith
longer_front front (Some t) others = omega (arith, length-append front others)

longer_rest : (front t u others : List ℕ) (x : Option (List ℕ)) → Some u ≡ both_texts (Some t) x → length others ≤ length (front_with front x others)
longer_rest front t u others None e = absurd (none-some u (sym e))
longer_rest front t u others (Some v) e = omega (arith, length-append front others)

-- after a part that is static, the front of what is left is no longer
pub front_step : (b : List ℕ) (ps : List Part) (i : ℕ) (x : Part) (old new : List ℕ) → i < length ps → x ≡ get_or ps i x
    → Some new ≡ both_texts (Some old) (part_text b x)
    → length (parts_front b (drop (i + 1) ps)) ≤ length (parts_front b (drop i ps))
unfolding parts_front
front_step b ps i x old new h e n =
    rw (drop-cons ps i x h, add-one, ← e) (longer_rest (part_front b x) old new (parts_front b (drop (suc i) ps)) (part_text b x) n)

-- a part whose front is not empty
pub front_some : (b : List ℕ) (ps : List Part) (i : ℕ) (x : Part) → i < length ps → x ≡ get_or ps i x → 0 < length (part_front b x)
    → 0 < length (parts_front b (drop i ps))
unfolding parts_front
front_some b ps i x h e some = rw (drop-cons ps i x h, ← e) (omega (arith, longer_front (part_front b x) (part_text b x) (parts_front b (drop (suc i) ps))))

-- The bytes between `$'` and `'`

-- what the slice after the first byte holds
abbrev behind : List ℕ → List ℕ
behind cs = take (length cs - 1) (drop 1 cs)

behind_is : (cs : List ℕ) → behind cs ≡ drop 1 cs
behind_is cs = take_all (length cs - 1) (drop 1 cs) (omega (arith, length-drop 1 cs))

-- no more is left
pub shorter : (cs : List ℕ) (n : ℕ) → length cs ≤ n → length (behind cs) ≤ n
shorter cs n h = omega (arith, ap length (behind_is cs), length-drop 1 cs)

pub twice_shorter : (cs : List ℕ) (n : ℕ) → length cs ≤ n → length (behind (behind cs)) ≤ n
twice_shorter cs n h = shorter (behind cs) n (shorter cs n h)

-- a byte is put, and it is the first of what is left
one_more : (old new cs : List ℕ) (e : ℕ) (rest : List ℕ) → new ≡ old ++ (e ∷ []) → escaped cs ≡ e ∷ escaped rest → new ++ escaped rest ≡ old ++ escaped cs
one_more old new cs e rest n h = rw (n, append_assoc, h) refl

-- a backslash and the byte after it
pub escape_step : (old new cs : List ℕ) (e : ℕ) → new ≡ old ++ (e ∷ []) → get_or cs 0 0 ≡ 92 → 1 ≤ length cs → 1 ≤ length (behind cs) → e ≡ escape_of (get_or (behind cs) 0 0)
    → new ++ escaped (behind (behind cs)) ≡ old ++ escaped cs
unfolding escaped
escape_step old new [] e n is some more found = absurd (omega arith)
escape_step old new (c ∷ []) e n is some more found = absurd (omega (arith, ap length (behind_is (c ∷ []))))
escape_step old new (c ∷ d ∷ cs) e n is some more found =
    let first : behind (c ∷ d ∷ cs) ≡ d ∷ cs = behind_is (c ∷ d ∷ cs) in
    let second : behind (behind (c ∷ d ∷ cs)) ≡ cs = ap behind first ∙ behind_is (d ∷ cs) in
    let byte : e ≡ escape_of d = found ∙ ap (λ l. escape_of (get_or l 0 0)) first in
    one_more old new (c ∷ d ∷ cs) e (behind (behind (c ∷ d ∷ cs))) n (rw (is, byte, second) refl)

-- any other byte
pub byte_step : (old new cs : List ℕ) → new ≡ old ++ (get_or cs 0 0 ∷ []) → 1 ≤ length cs → (length (behind cs) < 1) ⊎ (get_or cs 0 0 ≡ 92 → ⊥)
    → new ++ escaped (behind cs) ≡ old ++ escaped cs
unfolding escaped
byte_step old new [] n some one = absurd (omega arith)
byte_step old new (c ∷ []) n some one = one_more old new (c ∷ []) c (behind (c ∷ [])) n (rw (behind_is (c ∷ [])) refl)
byte_step old new (c ∷ d ∷ cs) n some (inl less) = absurd (omega (arith, ap length (behind_is (c ∷ d ∷ cs))))
byte_step old new (c ∷ d ∷ cs) n some (inr other) =
    one_more old new (c ∷ d ∷ cs) c (behind (c ∷ d ∷ cs)) n (rw (behind_is (c ∷ d ∷ cs), ne_eqb c 92 other) refl)

pub escaped_all : (old cs : List ℕ) → length cs < 1 → old ++ escaped cs ≡ old
unfolding escaped
escaped_all old [] h = append-nil old
escaped_all old (c ∷ cs) h = absurd (omega arith)

escaped_some : (cs : List ℕ) → 0 < length cs → 0 < length (escaped cs)
unfolding escaped
escaped_some [] h = absurd (omega arith)
escaped_some (c ∷ []) h = h
escaped_some (c ∷ d ∷ cs) h = go (c == 92)
  where
    go : (t : Bool) → 0 < length (if t then escape_of d ∷ escaped cs else c ∷ escaped (d ∷ cs))
    go true = omega arith
    go false = omega arith

length_ends : (t : List ℕ) → length (between_ends t) ≡ length t - 2
length_ends t = length-take-le (length t - 2) (drop 1 t) (omega (arith, length-drop 1 t))

-- what `$'` and a quote hold is not empty, so the text is not, whatever the first byte is
pub single_some : (style : SingleStyle) (t u : List ℕ) → u ≡ between_ends (behind_first t) → 0 < length u → 0 < length (single_text style t)
single_some single.Plain t u e h = omega (arith, ap length e, length_ends (behind_first t), length_ends t, length-drop 1 t)
single_some single.Dollar t u e h = escaped_some (between_ends (behind_first t)) (omega (arith, ap length e))
