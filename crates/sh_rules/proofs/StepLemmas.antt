-- Words that are counted, and parameters that are shifted, up to the greatest number that can be
-- given.
use Rattle.std.proofs.Common.{◌≡◌, ◌≢◌, ℕ, zero, suc, ◌+◌, ◌*◌, ◌≤◌, min, List, [], ◌∷◌, drop, fold, inl, inr, refl, ap, ap₂, ◌∙◌, arith}
use Rattle.std.proofs.Math.Nat.{mul-le-mul_left}
use Rattle.std.proofs.lemmas.Bool.{cases_lt}
use Rattle.sh_tree.specs.declared.tree.Element.{Element}
use Rattle.sh_tree.specs.Lists.{elements_from}
use Rattle.sh_tree.specs.standard.program.Syntax as p
use Rattle.sh_tree.specs.standard.program.Syntax.{Text}
use Rattle.sh_runs.specs.Counts as counts'
use Rattle.sh_runs.specs.Counts.{Parameters, One, Nothing, count_of}
use Rattle.sh_operands.specs.declared.counts.Total as code
use Rattle.sh_operands.specs.Fields.{counted, counted_word, no_fields}
use Rattle.sh_table.specs.Numerals.{most, capped}
use Rattle.sh_domain.specs.Facts.{Facts, NotReached, Known}
use Rattle.sh_domain.specs.Knowledge.{knowledge_facts}
use Rattle.sh_domain.specs.Operands.{Total, total}
use Rattle.sh_domain.specs.Table.{operands}
use Rattle.sh_domain.specs.Views.{Certificate, Count, Shift, step, where_known, most_fields}
use Rattle.sh_domain.specs.declared.knowledge.Knowledge.{Knowledge}
use Rattle.sh_rules.specs.Settings.{Setting, certificate}
use Rattle.sh_rules.specs.SimpleBounds.{stepped}
use Rattle.sh_rules.specs.declared.claims.Claims.{Claims}
use Rattle.sh_rules.specs.Walks.{facts_in, setting}

-- words

abbrev up_to : ℕ → ℕ → code.Total
up_to n m = record { ones = capped n; parameters = capped m }

abbrev and_more : ℕ → ℕ → Total → code.Total
and_more n m t = up_to (n + t.ones) (m + t.parameters)

none_more : (n m : ℕ) → up_to n m ≡ and_more n m (record { ones = 0; parameters = 0 })
none_more n m = let e : n ≡ n + 0 = omega arith in let f : m ≡ m + 0 = omega arith in ap₂ up_to e f

capped_next : (n : ℕ) → capped (capped n + 1) ≡ capped (n + 1)
capped_next n = omega arith

abbrev counts : ℕ → ℕ → code.Total
counts n m = record { ones = n; parameters = m }

one_parameter : (n m : ℕ) (ws : List p.Word) → fold counted_word (up_to n (m + 1)) ws ≡ and_more n (m + 1) (total ws)
    → fold counted_word (counts (capped n) (capped (capped m + 1))) ws ≡ up_to (n + (total ws).ones) (m + ((total ws).parameters + 1))
one_parameter n m ws h =
    let e : (m + 1) + (total ws).parameters ≡ m + ((total ws).parameters + 1) = omega arith in
    ap (λ k. fold counted_word (counts (capped n) k) ws) (capped_next m) ∙ h ∙ ap (up_to (n + (total ws).ones)) e

one_field : (n m : ℕ) (ws : List p.Word) → fold counted_word (up_to (n + 1) m) ws ≡ and_more (n + 1) m (total ws)
    → fold counted_word (counts (capped (capped n + 1)) (capped m)) ws ≡ up_to (n + ((total ws).ones + 1)) (m + (total ws).parameters)
one_field n m ws h =
    let e : (n + 1) + (total ws).ones ≡ n + ((total ws).ones + 1) = omega arith in
    ap (λ k. fold counted_word (counts k (capped m)) ws) (capped_next n) ∙ h ∙ ap (λ k. up_to k (m + (total ws).parameters)) e

told : (n m : ℕ) (ws : List p.Word) → fold counted_word (up_to n m) ws ≡ and_more n m (total ws)
unfolding total counted
told n m [] = none_more n m
told n m (w ∷ ws) = go (count_of w) refl (one_parameter n m ws (told n (m + 1) ws)) (one_field n m ws (told (n + 1) m ws)) (told n m ws)
  where
    go : (c : counts'.Count) → count_of w ≡ c
        → fold counted_word (counts (capped n) (capped (capped m + 1))) ws ≡ up_to (n + (total ws).ones) (m + ((total ws).parameters + 1))
        → fold counted_word (counts (capped (capped n + 1)) (capped m)) ws ≡ up_to (n + ((total ws).ones + 1)) (m + (total ws).parameters)
        → fold counted_word (up_to n m) ws ≡ and_more n m (total ws)
        → fold counted_word (up_to n m) (w ∷ ws) ≡ and_more n m (total (w ∷ ws))
    go Parameters e q o z = rw e q
    go One e q o z = rw e o
    go Nothing e q o z = rw e z

-- more than can be given are as many as may be counted

within_most : (o q a : ℕ) → q ≤ most → min most_fields (capped o + capped q * a) ≡ min most_fields (o + q * a)
within_most o q a h =
    let e : capped q ≡ q = omega arith in
    ap (λ k. min most_fields (capped o + k * a)) e ∙ many o (q * a)
  where
    many : (o z : ℕ) → min most_fields (capped o + z) ≡ min most_fields (o + z)
    many o z = omega arith

above_most : (o q a : ℕ) → most ≤ q → min most_fields (capped o + most * a) ≡ min most_fields (o + q * a)
above_most o q zero h = nothing o q
  where
    nothing : (o q : ℕ) → min most_fields (capped o + most * 0) ≡ min most_fields (o + q * 0)
    nothing o q = omega arith
above_most o q (suc a) h =
    let one : 1 ≤ suc a = omega arith in
    let less : most * 1 ≤ most * suc a = mul-le-mul_left most one in
    let more : suc a * most ≤ suc a * q = mul-le-mul_left (suc a) h in
    omega (arith, less, more)

same_count : (o q a : ℕ) → min most_fields (capped o + capped q * a) ≡ min most_fields (o + q * a)
same_count o q a = elim (cases_lt q most) [
  | inl h ↦ let below : q ≤ most = omega (arith, h) in within_most o q a below
  | inr h ↦ let e : capped q ≡ most = omega (arith, h) in ap (λ k. min most_fields (capped o + k * a)) e ∙ above_most o q a h
]

step_counted : (c : Certificate) (ws : List p.Word) (t : code.Total) (f : Facts) → t ≡ fold counted_word no_fields ws
    → step c (Count (record { ones = t.ones; parameters = t.parameters })) f ≡ step c (Count (total ws)) f
unfolding step where_known
step_counted c ws t f e = by_total t (e ∙ told 0 0 ws ∙ zeros) f
  where
    zeros : and_more 0 0 (total ws) ≡ up_to (total ws).ones (total ws).parameters
    zeros = let e : 0 + (total ws).ones ≡ (total ws).ones = omega arith in let g : 0 + (total ws).parameters ≡ (total ws).parameters = omega arith in ap₂ up_to e g

    by_total : (t : code.Total) → t ≡ up_to (total ws).ones (total ws).parameters → (f : Facts)
        → step c (Count (record { ones = t.ones; parameters = t.parameters })) f ≡ step c (Count (total ws)) f
    by_total t h NotReached = refl
    by_total t h (Known v g a) =
        ap (λ (u : code.Total). Known v g (min most_fields (u.ones + u.parameters * a))) h ∙ ap (Known v g) (same_count (total ws).ones (total ws).parameters a)

pub words_counted : (x : Claims) (k : ℕ) (es : List Element) (t : code.Total) (old new : Knowledge)
    → t ≡ fold counted_word no_fields (drop k (operands (elements_from x.script.now es)))
    → ((c : Certificate) (names : List Text) → knowledge_facts names new ≡ step c (Count (record { ones = t.ones; parameters = t.parameters })) (knowledge_facts names old))
    → facts_in (setting x) new ≡ stepped (setting x) (Count (total (drop k (operands (elements_from (setting x).script es))))) (facts_in (setting x) old)
unfolding facts_in setting stepped
words_counted x k es t old new e h =
    let s = setting x in
    h (certificate s) s.names ∙ step_counted (certificate s) (drop k (operands (elements_from s.script es))) t (knowledge_facts s.names old) e

-- parameters

pub all_shifted : (x : Setting) (n : ℕ) (old new : Knowledge) → most ≡ capped n
    → ((c : Certificate) (names : List Text) (m : ℕ) → most_fields ≤ m → knowledge_facts names new ≡ step c (Shift m) (knowledge_facts names old))
    → facts_in x new ≡ stepped x (Shift n) (facts_in x old)
unfolding facts_in stepped
all_shifted x n old new e h = let more : most_fields ≤ n = omega (arith, e) in h (certificate x) x.names n more

pub some_shifted : (x : Setting) (k n : ℕ) (old new : Knowledge) → k ≢ most → k ≡ capped n
    → ((c : Certificate) (names : List Text) → knowledge_facts names new ≡ step c (Shift k) (knowledge_facts names old))
    → facts_in x new ≡ stepped x (Shift n) (facts_in x old)
unfolding facts_in stepped
some_shifted x k n old new ne e h =
    let same : k ≡ n = omega (arith, ne, e) in
    h (certificate x) x.names ∙ ap (λ m. step (certificate x) (Shift m) (knowledge_facts x.names old)) same
