-- The parts of a word are read wherever its bytes are.
-- POSIX.1-2024, XCU 2.2 (quoting), 2.6 (word expansions).
use Rattle.std.proofs.Common.{◌≡◌, ℕ, suc, ◌+◌, ◌-◌, ◌≤◌, ◌<◌, ◌==◌, Bool, true, false, if◌then◌else◌, List, [], ◌∷◌, drop, refl, sym, ap, subst, ◌∙◌, arith}
use Rattle.std.proofs.lemmas.Bool.{true≢false, eqb-true, eqb-false, eq-eqb}
use Rattle.std.proofs.lemmas.Bool.Decides.{nat_tests}
use Rattle.sh_tree.specs.declared.tree.Action.{Action}
use Rattle.sh_tree.specs.declared.tree.CommandStyle.TheVariants.{Paren, Backquote}
use Rattle.sh_tree.specs.declared.tree.ParameterOperator.TheVariants as operator
use Rattle.sh_tree.specs.declared.tree.Part.{Part}
use Rattle.sh_tree.specs.declared.tree.Part.TheVariants as part
use Rattle.sh_tree.specs.declared.token.word.Context.{Context}
use Rattle.sh_tree.specs.declared.token.word.Site.TheVariants as site
use Rattle.sh_tree.specs.declared.token.word.Sign.{Sign}
use Rattle.sh_tree.specs.declared.token.word.Sign.TheVariants as sign
use Rattle.sh_tree.specs.standard.Tree.{text_of}
use Rattle.sh_tree.specs.standard.language.Arithmetic.{is_closed}
use Rattle.sh_tree.specs.standard.language.Bytes.{is_first}
use Rattle.sh_tree.specs.standard.language.Reading as r
use Rattle.sh_tree.specs.standard.language.Reading.{sign_at, after, over, ReadsParts, ReadsPart}
use Rattle.sh_tree.specs.standard.language.States.{Spot, to, behind}
use Rattle.sh_tree.specs.standard.language.Substitutions.{commands_text, closes}
use Rattle.sh_tree.specs.standard.language.Trees as tree
use Rattle.sh_tree.specs.standard.language.Trees.{span}
use Rattle.sh_tree.specs.standard.language.Words.{is_quoted, stop_length, in_double, in_use, in_removal, in_arithmetic}
use Rattle.sh_reads.proofs.TakeLemmas.{part_begins, token_moves, token_takes}
use Rattle.sh_copies.proofs.AlikeBytes.{is_closer, by_bool}
use Rattle.sh_reads.proofs.MoveLemmas.{blanks_move}
use Rattle.sh_copies.proofs.Arithmetic.{same_figure}
use Rattle.sh_copies.proofs.Copies.{Copied, limit_of, Place, Moved, Turns, turned, Kept, KeptPart, Found, ExpressionsMove, ScriptsMove}
use Rattle.sh_copies.proofs.Forward.{part_forward, expression_forward, script_forward, over_forward}
use Rattle.sh_copies.proofs.Places.{less_deep, further, moved_to, moved_deeper, moved_behind}
use Rattle.sh_copies.proofs.Shift.{placeless}
use Rattle.sh_copies.proofs.WordsCommands.{closing, commands_move}
use Rattle.sh_copies.proofs.WordsKept.{kept_none, kept_more, kept_plain, kept_escaped, kept_joined, kept_single, kept_tilde, kept_double, kept_value, kept_length, kept_use, kept_removal, kept_arith, kept_command}
use Rattle.sh_reads.proofs.TakeLemmas.{is_part}
use Rattle.sh_copies.proofs.AlikeTokens.{is_sound, is_stop}
use Rattle.sh_copies.proofs.WordsTokens.{is_enclosed, parts_closed, is_placed, same_sign, value_sign, length_sign, use_sign, remove_sign, near_first, parts_over, same_token, same_text, same_prior, part_sound}

-- in quotes no tilde-prefix begins
quoted_turns : {b b' : List ℕ} (c : Copied b b') (x : Context) (o' : ℕ) → is_quoted x.site ≡ true → Turns c x o'
quoted_turns c x o' q = λ k. absurd (true≢false (sym q ∙ k))

pub equal_far : (p q k n : ℕ) → (q + n == q + k) ≡ (p + n == p + k)
equal_far p q k n = by_bool (p + n == p + k)
    (λ yes. eq-eqb (q + n) (q + k) (let e = eqb-true (p + n) (p + k) yes in omega arith) ∙ sym yes)
    (λ other. by_bool (q + n == q + k)
    (λ yes. absurd (eqb-false (p + n) (p + k) other (let e = eqb-true (q + n) (q + k) yes in omega arith)))
    (λ none. none ∙ sym other))

-- where a context begins in the copy
place_turns : {b b' : List ℕ} (c : Copied b b') (x : Context) (e e' : ℕ) → Place c e e' → Turns c (record x { origin = e }) e'
place_turns c x e e' p = λ k n. ap (λ j. c.into + n == j) p.at' ∙ equal_far c.from c.into p.by n ∙ sym (ap (λ j. c.from + n == j) p.at)

closed_same : (b b' : List ℕ) (i i' : ℕ) → is_first (λ c. c == 41) (drop i' b') ≡ is_first (λ c. c == 41) (drop i b) → is_closed b i ≡ true → is_closed b' i' ≡ true
unfolding is_closed
closed_same b b' i i' e h = e ∙ h

retold : {limit : ℕ} {b b' : List ℕ} {c : Copied b b'} {x : Context} {g g' : Sign} {s u : Spot} {e : ℕ} {p : Part} → g' ≡ g
    → Found c u (KeptPart b b' p) (λ u' p'. ReadsPart limit b' x g s e u' p') → Found c u (KeptPart b b' p) (λ u' p'. ReadsPart limit b' x g' s e u' p')
retold {limit} {b' = b'} {x = x} {s = s} {e = e} same f = record { to = f.to; tree = f.tree; moved = f.moved; keeps = f.keeps; reads = subst (λ k. ReadsPart limit b' x k s e f.to f.tree) (sym same) f.reads }

pub use_length : (x : Context) (a : Action) (e : ℕ) → stop_length (in_use x a e).site ≡ 1
use_length x a e = go (is_quoted x.site)
  where
    go : (t : Bool) → stop_length (if t then site.QuotedBraced else site.Braced) ≡ 1
    go true = refl
    go false = refl

use_enclosed : (x : Context) (a : Action) (e : ℕ) → is_enclosed (in_use x a e).site ≡ true
use_enclosed x a e = go (is_quoted x.site)
  where
    go : (t : Bool) → is_enclosed (if t then site.QuotedBraced else site.Braced) ≡ true
    go true = refl
    go false = refl

zero_one : {n m : ℕ} → n ≡ m → n < m → ⊥
zero_one e h = absurd (omega arith)

less_one : (n : ℕ) → n + 1 - 1 ≡ n
less_one n = omega arith

-- Parts that hold no others

abbrev pub is_flat : Sign → Bool
is_flat sign.Plain = true
is_flat sign.Escaped = true
is_flat sign.Joined = true
is_flat (sign.Single y) = true
is_flat sign.Tilde = true
is_flat (sign.Value p) = true
is_flat (sign.Length p) = true
is_flat _ = false

pub flat_ends : {limit : ℕ} {b : List ℕ} {x : Context} {g : Sign} {s u : Spot} {e : ℕ} {p : Part} → is_flat g ≡ true → ReadsPart limit b x g s e u p → u ≡ to e s
flat_ends h r.plain = refl
flat_ends h r.escaped = refl
flat_ends h r.joined = refl
flat_ends h r.single_quoted = refl
flat_ends h r.tilde = refl
flat_ends h r.value = refl
flat_ends h r.length_value = refl
flat_ends h (r.double_quoted i) = absurd (true≢false (sym h))
flat_ends h (r.use_word d i) = absurd (true≢false (sym h))
flat_ends h (r.removal d i) = absurd (true≢false (sym h))
flat_ends h (r.arithmetic d i k l) = absurd (true≢false (sym h))
flat_ends h (r.substitution d k i l) = absurd (true≢false (sym h))

-- a part that a byte closes goes on after its sign, and ends with that byte
pub closing_within : {limit : ℕ} {b : List ℕ} {x : Context} {g : Sign} {s u : Spot} {e : ℕ} {p : Part} → ReadsPart limit b x g s e u p → e + closing g ≤ u.at
closing_within r.plain = omega arith
closing_within r.escaped = omega arith
closing_within r.joined = omega arith
closing_within r.single_quoted = omega arith
closing_within r.tilde = omega arith
closing_within r.value = omega arith
closing_within r.length_value = omega arith
closing_within (r.double_quoted i) = parts_over i
closing_within {x = x} {e = e} (r.use_word {a = a} d i) = let one = use_length x a e in let over = parts_over i in omega arith
closing_within (r.removal d i) = parts_over i
closing_within {b = b} (r.arithmetic {u = u} d i h k) = let o = over_forward b u in let f = expression_forward i in omega arith
closing_within {b = b} {e = e} (r.substitution {s = s} {style = Paren} d k i h) = let f = script_forward i in let blank = blanks_move s.joins (commands_text Paren b e) e in omega arith
closing_within {b = b} {e = e} (r.substitution {s = s} {style = Backquote} d k i h) = let f = script_forward i in let blank = blanks_move s.joins (commands_text Backquote b e) e in omega arith

parenthesis_closes : (cs : List ℕ) → is_first (λ c. c == 41) cs ≡ true → is_first is_closer cs ≡ true
unfolding is_first
parenthesis_closes [] h = absurd (true≢false (sym h))
parenthesis_closes (c ∷ cs) h = grind (arith, nat_tests, h)

pub closing_byte : {limit : ℕ} {b : List ℕ} {x : Context} {g : Sign} {s u : Spot} {e : ℕ} {p : Part} → closing g ≡ 1 → ReadsPart limit b x g s e u p → is_first is_closer (drop (u.at - 1) b) ≡ true
unfolding is_closed closes commands_text
closing_byte h r.plain = absurd (zero_one h (omega arith))
closing_byte h r.escaped = absurd (zero_one h (omega arith))
closing_byte h r.joined = absurd (zero_one h (omega arith))
closing_byte h r.single_quoted = absurd (zero_one h (omega arith))
closing_byte h r.tilde = absurd (zero_one h (omega arith))
closing_byte h r.value = absurd (zero_one h (omega arith))
closing_byte h r.length_value = absurd (zero_one h (omega arith))
closing_byte h (r.double_quoted i) = parts_closed refl i
closing_byte {x = x} {e = e} h (r.use_word {a = a} d i) = parts_closed (use_enclosed x a e) i
closing_byte h (r.removal d i) = parts_closed refl i
closing_byte {b = b} h (r.arithmetic {u = u} d i k l) = ap (λ j. is_first is_closer (drop j b)) (less_one (over b u).at) ∙ parenthesis_closes (drop (over b u).at b) l
closing_byte {b = b} h (r.substitution {u = u} {style = Paren} d k i l) = ap (λ j. is_first is_closer (drop j b)) (less_one u.at) ∙ parenthesis_closes (drop u.at b) l
closing_byte h (r.substitution {style = Backquote} d k i l) = absurd (zero_one h (omega arith))

-- such a part up to e', and what it keeps
pub record Flat (limit : ℕ) (b b' : List ℕ) (x : Context) (g : Sign) (s : Spot) (e : ℕ) (p : Part) : Type 0 where
  pub tree : Part
  pub keeps : KeptPart b b' p tree
  pub reads : ReadsPart limit b' x g s e (to e s) tree

reflat : {limit : ℕ} {b b' : List ℕ} {x : Context} {g g' : Sign} {s : Spot} {e : ℕ} {p : Part} → g' ≡ g → Flat limit b b' x g s e p → Flat limit b b' x g' s e p
reflat {limit} {b' = b'} {x = x} {s = s} {e = e} same f = record { tree = f.tree; keeps = f.keeps; reads = subst (λ k. ReadsPart limit b' x k s e (to e s) f.tree) (sym same) f.reads }

pub flat_move : {limit : ℕ} {b : List ℕ} (b' : List ℕ) {x : Context} (y : Context) {g : Sign} {s u : Spot} {e : ℕ} {p : Part} (s' : Spot) (e' : ℕ) (g' : Sign)
    → is_flat g ≡ true → placeless g' ≡ placeless g → text_of b' (span s'.at e') ≡ text_of b (span s.at e) → ReadsPart limit b x g s e u p → (u ≡ to e s) × Flat limit b b' y g' s' e' p
flat_move {b = b} b' y {s = s} {e = e} s' e' g' h same text r.plain = (refl, reflat (same_sign sign.Plain g' refl same) (record { tree = part.Plain (span s'.at e'); keeps = kept_plain b b' (span s.at e) (span s'.at e') text; reads = r.plain }))
flat_move {b = b} b' y {s = s} {e = e} s' e' g' h same text r.escaped = (refl, reflat (same_sign sign.Escaped g' refl same) (record { tree = part.Escaped (span s'.at e'); keeps = kept_escaped b b' (span s.at e) (span s'.at e') text; reads = r.escaped }))
flat_move {b = b} b' y {s = s} {e = e} s' e' g' h same text r.joined = (refl, reflat (same_sign sign.Joined g' refl same) (record { tree = part.Joined (span s'.at e'); keeps = kept_joined b b' (span s.at e) (span s'.at e'); reads = r.joined }))
flat_move {b = b} b' y {s = s} {e = e} s' e' g' h same text (r.single_quoted {style = q}) =
    (refl, reflat (same_sign (sign.Single q) g' refl same) (record { tree = part.Single q (span s'.at e'); keeps = kept_single b b' (span s.at e) (span s'.at e') q text; reads = r.single_quoted }))
flat_move {b = b} b' y {s = s} {e = e} s' e' g' h same text r.tilde = (refl, reflat (same_sign sign.Tilde g' refl same) (record { tree = part.Tilde (span s'.at e'); keeps = kept_tilde b b' (span s.at e) (span s'.at e'); reads = r.tilde }))
flat_move {b = b} b' y {s = s} {e = e} s' e' g' h same text (r.value {p = p}) =
    let k = value_sign p g' same in (refl, reflat k.1 (record { tree = tree.param s'.at e' k.0 operator.Value; keeps = kept_value b b' s.at s'.at e e' p k.0; reads = r.value }))
flat_move {b = b} b' y {s = s} {e = e} s' e' g' h same text (r.length_value {p = p}) =
    let k = length_sign p g' same in (refl, reflat k.1 (record { tree = tree.param s'.at e' k.0 operator.Length; keeps = kept_length b b' s.at s'.at e e' p k.0; reads = r.length_value }))
flat_move b' y s' e' g' h same text (r.double_quoted i) = absurd (true≢false (sym h))
flat_move b' y s' e' g' h same text (r.use_word d i) = absurd (true≢false (sym h))
flat_move b' y s' e' g' h same text (r.removal d i) = absurd (true≢false (sym h))
flat_move b' y s' e' g' h same text (r.arithmetic d i k l) = absurd (true≢false (sym h))
flat_move b' y s' e' g' h same text (r.substitution d k i l) = absurd (true≢false (sym h))

flat_found : {limit : ℕ} {b b' : List ℕ} (c : Copied b b') (x : Context) (o' : ℕ) {g : Sign} {s s' : Spot} {p : Part} {e e' : ℕ} → Moved c s s' → Place c e e' → s.at ≤ e → (g' : Sign) → is_flat g ≡ true → placeless g' ≡ placeless g
    → ReadsPart limit b x g s e (to e s) p → e ≤ limit_of c → Found c (to e s) (KeptPart b b' p) (λ u' p'. ReadsPart limit b' (turned o' x) g' s' e' u' p')
flat_found {b' = b'} c x o' {s' = s'} {e' = e'} m q f g' h same i within =
    let k = (flat_move b' (turned o' x) s' e' g' h same (same_text c m.place q f within) i).1 in
    record { to = to e' s'; tree = k.tree; moved = moved_to c m q; keeps = k.keeps; reads = k.reads }

-- The parts and what they hold, if commands and arithmetic of fewer bytes are found
module _ {limit n : ℕ} (expressions : ExpressionsMove limit n) (scripts : ScriptsMove limit n) where
  mutual
    pub parts_move : {b b' : List ℕ} (c : Copied b b') {x : Context} {o' prior : ℕ} {s s' u : Spot} {ps : List Part}
        → Moved c s s' → Turns c x o' → ReadsParts limit b x prior s u ps → u.at < s.at + suc n → u.at ≤ limit_of c + stop_length x.site
        → Found c u (Kept b b' ps) (λ u' ps'. ReadsParts limit b' (turned o' x) prior s' u' ps')
    parts_move {b} {b'} c {x} {o'} {prior} {s} {s'} m turns (r.stop h) size within =
        let over : s.at + stop_length x.site ≤ after b x prior s = parts_over {limit = limit} (r.stop {s = s} h) in
        let t = same_token c {prior = prior} m turns (omega arith) (ap is_sound h) (λ k. absurd (true≢false (sym (ap is_stop h) ∙ k))) in
        record { to = to (after b' (turned o' x) prior s') s'; tree = []; moved = moved_to c m t.end; keeps = kept_none b b'; reads = r.stop (same_sign _ _ (ap is_placed h) t.sign ∙ h) }
    parts_move {b} {b'} c {x} {o'} {prior} {s} {s'} m turns (r.tabs h i) size within =
        let over = parts_over i in
        let k = token_moves b x prior s.at in
        let t = same_token c {prior = prior} m turns (omega arith) (ap is_sound h) (λ k. omega arith) in
        let rest = parts_move c (moved_to c m t.end) turns i (omega arith) within in
        record { to = rest.to; tree = rest.tree; moved = rest.moved; keeps = rest.keeps; reads = r.tabs (same_sign _ _ (ap is_placed h) t.sign ∙ h) rest.reads }
    parts_move {b} {b'} c {x} {o'} {prior} {s} {s'} m turns (r.more {v = v} {g = g} {p = p} {ps = ps} h i j) size within =
        let over = parts_over j in
        let f = part_forward i in
        let k = token_moves b x prior s.at in
        let part = ap is_part h ∙ part_begins i in
        let takes = (token_takes b x prior s.at part).0 in
        let t = same_token c {prior = prior} m turns (omega arith) (part_sound _ part) (λ k. omega arith) in
        let one = part_move c m turns t.end k (sign_at b' (turned o' x) prior s') (t.sign ∙ ap placeless h) i (omega arith) (omega arith) in
        let same = same_prior c g (sign_at b' (turned o' x) prior s') (t.sign ∙ ap placeless h) one.moved.place (let a = m.place.at in omega arith) (omega arith) in
        let rest = parts_move c one.moved turns j (omega arith) within in
        record {
          to = rest.to;
          tree = one.tree ∷ rest.tree;
          moved = rest.moved;
          keeps = kept_more b b' one.keeps rest.keeps;
          reads = r.more refl one.reads (subst (λ k. ReadsParts limit b' (turned o' x) k one.to rest.to rest.tree) (sym same) rest.reads);
        }

    pub part_move : {b b' : List ℕ} (c : Copied b b') {x : Context} {o' : ℕ} {g : Sign} {s s' u : Spot} {p : Part} {e e' : ℕ}
        → Moved c s s' → Turns c x o' → Place c e e' → s.at ≤ e → (g' : Sign) → placeless g' ≡ placeless g → ReadsPart limit b x g s e u p → u.at < s.at + suc n → u.at ≤ limit_of c + closing g
        → Found c u (KeptPart b b' p) (λ u' p'. ReadsPart limit b' (turned o' x) g' s' e' u' p')
    part_move c {x} {o'} m turns q f g' same r.plain size within = flat_found c x o' m q f g' refl same r.plain (omega arith)
    part_move c {x} {o'} m turns q f g' same r.escaped size within = flat_found c x o' m q f g' refl same r.escaped (omega arith)
    part_move c {x} {o'} m turns q f g' same r.joined size within = flat_found c x o' m q f g' refl same r.joined (omega arith)
    part_move c {x} {o'} m turns q f g' same r.single_quoted size within = flat_found c x o' m q f g' refl same r.single_quoted (omega arith)
    part_move c {x} {o'} m turns q f g' same r.tilde size within = flat_found c x o' m q f g' refl same r.tilde (omega arith)
    part_move {b} {b'} c {x} {o'} {s = s} {s' = s'} {e = e} {e' = e'} m turns q f g' same (r.double_quoted {u = u} i) size within =
        let inside = parts_move c (moved_to c m q) (quoted_turns c (in_double x) o' refl) i (omega arith) (omega arith) in
        retold (same_sign sign.Double g' refl same)
        (record {
          to = behind inside.to.at inside.to s';
          tree = part.Double (span s'.at inside.to.at) inside.tree;
          moved = moved_behind c u inside.to inside.moved.counts m inside.moved.place;
          keeps = kept_double b b' (span s.at u.at) (span s'.at inside.to.at) inside.keeps;
          reads = r.double_quoted inside.reads;
        })
    part_move c {x} {o'} m turns q f g' same r.value size within = flat_found c x o' m q f g' refl same r.value (omega arith)
    part_move c {x} {o'} m turns q f g' same r.length_value size within = flat_found c x o' m q f g' refl same r.length_value (omega arith)
    part_move {b} {b'} c {x} {s = s} {s' = s'} {e = e} {e' = e'} m turns q f g' same (r.use_word {u = u} {p = p} {a = a} {colon = colon} d i) size within =
        let k = use_sign p a colon g' same in
        let one = use_length x a e in
        let inside = parts_move c (moved_deeper c m q) (place_turns c (in_use x a e) e e' q) i (omega arith) (omega arith) in
        retold k.1
        (record {
          to = behind inside.to.at inside.to s';
          tree = tree.param s'.at inside.to.at k.0 (operator.Use a colon (tree.word e' (inside.to.at - 1) inside.tree));
          moved = moved_behind c u inside.to inside.moved.counts m inside.moved.place;
          keeps = kept_use b b' s.at s'.at u.at inside.to.at p k.0 a colon e e' (u.at - 1) (inside.to.at - 1) inside.keeps;
          reads = r.use_word (less_deep s.depth s'.depth limit m.depth d) inside.reads;
        })
    part_move {b} {b'} c {x} {s = s} {s' = s'} {e = e} {e' = e'} m turns q f g' same (r.removal {u = u} {p = p} {r = w} d i) size within =
        let k = remove_sign p w g' same in
        let inside = parts_move c (moved_deeper c m q) (place_turns c (in_removal x e) e e' q) i (omega arith) (omega arith) in
        retold k.1
        (record {
          to = behind inside.to.at inside.to s';
          tree = tree.param s'.at inside.to.at k.0 (operator.Remove w (tree.word e' (inside.to.at - 1) inside.tree));
          moved = moved_behind c u inside.to inside.moved.counts m inside.moved.place;
          keeps = kept_removal b b' s.at s'.at u.at inside.to.at p k.0 w e e' (u.at - 1) (inside.to.at - 1) inside.keeps;
          reads = r.removal (less_deep s.depth s'.depth limit m.depth d) inside.reads;
        })
    part_move {b} {b'} c {x} {o'} {s = s} {s' = s'} {e = e} {e' = e'} m turns q f g' same (r.arithmetic {u = u} {a = a} d i h k) size within =
        let o = over_forward b u in
        let inside = expressions.expression c (moved_deeper c m q) (quoted_turns c (in_arithmetic x) o' refl) i (omega arith) h (omega arith) in
        let t = same_figure c inside.moved (omega arith) in
        let closed = near_first c (λ c. c == 41) t.behind.place (omega arith) in
        retold (same_sign sign.Arith g' refl same)
        (record {
          to = behind ((over b' inside.to).at + 1) inside.to s';
          tree = part.Arith (span s'.at ((over b' inside.to).at + 1)) inside.tree;
          moved = moved_behind c u inside.to inside.moved.counts m (further c 1 t.behind.place);
          keeps = kept_arith b b' (span s.at ((over b u).at + 1)) (span s'.at ((over b' inside.to).at + 1)) a inside.tree inside.keeps;
          reads = r.arithmetic (less_deep s.depth s'.depth limit m.depth d) inside.reads (t.is ∙ h) (closed_same b b' _ _ closed k);
        })
    part_move {b} {b'} c {x} {s = s} {s' = s'} {e = e} {e' = e'} m turns q f g' same (r.substitution {u = u} {style = y} {t = t} d k i h) size within =
        let inside = commands_move scripts c y (is_quoted x.site) m q f k i h size within in
        retold (same_sign (sign.Substitution y) g' refl same)
        (record {
          to = behind (inside.to.at + 1) inside.to s';
          tree = part.Command y (span s'.at (inside.to.at + 1)) inside.tree;
          moved = moved_behind c u inside.to inside.counts m (further c 1 inside.place);
          keeps = kept_command b b' (span s.at (u.at + 1)) (span s'.at (inside.to.at + 1)) y t inside.tree;
          reads = r.substitution (less_deep s.depth s'.depth limit m.depth d) inside.keeps inside.reads inside.closed;
        })
