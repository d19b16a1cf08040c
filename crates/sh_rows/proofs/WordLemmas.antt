-- Words in blocks, and bits in words.
use Rattle.std.proofs.Common.{◌≡◌, ◌≢◌, ℕ, zero, suc, ◌+◌, ◌-◌, ◌*◌, ◌/◌, ◌%◌, ◌^◌, ◌<◌, ◌≤◌, Bool, true, false, not, ◌&&◌, ◌||◌, List, [], ◌∷◌, ◌++◌, length, get_or, take, drop, set, map, replicate, eqb, eq-eqb, eqb-true, refl, sym, ap, ap₂, ◌∙◌, subst, arith, lt-ltb, le-ltb, bit_and, bit_or, min, max, ⊎_elim, get_or-set_same, get_or-set_other}
use Rattle.std.specs.Prelude.{◌↔◌, nat_lt}
use Rattle.std.proofs.lemmas.Bool.{cases_lt, cases_eq, ne_eqb}
use Rattle.std.proofs.lemmas.List.{get_or-take, get_or-drop, get_or_past, get_or-map, get_or_append_left, length-map, length-set, length-take-le, length-drop, length-append}
use Rattle.std.proofs.lemmas.Nat.{and_le_l, and_comm, and-not, le_or_l, le_or_r}
use Rattle.std.proofs.lemmas.Nat.Bits.{bit_at-zero, shr_and_one, bit_at_and, bit_at_or, bit_at_not, bit_at_set_same, bit_at_set_other, bit_at_clear_same, bit_at_clear_other, same_from_bits_below, bit_at-lt}
use Rattle.std.proofs.lemmas.Simd.{get_or-zip2, get_or-put_chunk_at, get_or-put_chunk_below, get_or-put_chunk_above, get_or-chunk, length-zip2, length-chunk}
use Rattle.std.specs.Simd.{first_chunks}
use Rattle.std.specs.Simd.Lanes.{zip2, put_chunk, fold_l}
use Rattle.std.specs.Int.{bit_at, bit_not, w64}
use Rattle.std.specs.Int.Bits.{or_zero_r}
use Rattle.sh_rows.specs.Numbers.{has_bit}
use Rattle.sh_rows.specs.Words.{without, IsMixed, AllWithin}

-- word j of block i is word i * n + j
pub get_or-first_chunks : (n k : ℕ) (xs : List ℕ) (i j : ℕ) (d : List ℕ) → i < k → j < n → get_or (get_or (first_chunks n k xs) i d) j 0 ≡ get_or xs (i * n + j) 0
get_or-first_chunks n zero xs i j d lt in_block = absurd (omega arith)
get_or-first_chunks n (suc k) xs zero j d lt in_block =
    get_or-take n xs j 0 in_block ∙ ap (λ m. get_or xs m 0) (omega arith)
get_or-first_chunks n (suc k) xs (suc i) j d lt in_block =
    get_or-first_chunks n k (drop n xs) i j d (omega arith) in_block
    ∙ get_or-drop n xs (i * n + j) 0
    ∙ ap (λ m. get_or xs m 0) (omega arith)

-- word k of the slice lies in block i
pub block_word : (other : List ℕ) (blocks : List (List ℕ)) (at i k : ℕ) → at ≡ 4 * i → i < length other / 4 → blocks ≡ first_chunks 4 (length other / 4) other
    → at ≤ k → k < at + 4 → get_or (get_or blocks i []) (k - at) 0 ≡ get_or other k 0
block_word other blocks at i k place lt are le less =
    ap (λ (l : List (List ℕ)). get_or (get_or l i []) (k - at) 0) are
    ∙ get_or-first_chunks 4 (length other / 4) other i (k - at) [] lt (omega arith)
    ∙ ap (λ m. get_or other m 0) (omega arith)

-- nothing is mixed at first
pub IsMixed-none : (f : ℕ → ℕ → ℕ) (ws : List ℕ) (beside : ℕ → ℕ) (at : ℕ) → IsMixed f ws ws beside at at
IsMixed-none f ws beside at = record { inside = λ k le lt. absurd (omega arith); below = λ k lt. refl; above = λ k le. refl }

-- what is mixed further on
pub IsMixed-more : (f : ℕ → ℕ → ℕ) (old mid new : List ℕ) (beside here : ℕ → ℕ) (from at to : ℕ) → from ≤ at → at ≤ to
    → IsMixed f old mid beside from at → IsMixed f mid new here at to → ((k : ℕ) → at ≤ k → k < to → here k ≡ beside k)
    → IsMixed f old new beside from to
IsMixed-more f old mid new beside here from at to low high met more same = record {
  inside = λ k le lt. ⊎_elim
      (λ (h : k < at). more.below k h ∙ met.inside k le h)
      (λ (h : at ≤ k). more.inside k h lt ∙ ap₂ f (met.above k h) (same k h lt))
      (cases_lt k at);
  below = λ k lt. more.below k (omega arith) ∙ met.below k lt;
  above = λ k le. more.above k le ∙ met.above k (omega arith);
}

-- and up to the end
pub IsMixed-end : (f : ℕ → ℕ → ℕ) (old new : List ℕ) (beside : ℕ → ℕ) (from at to : ℕ) → IsMixed f old new beside from at → at ≡ to → IsMixed f old new beside from to
IsMixed-end f old new beside from at to met e = subst (λ n. IsMixed f old new beside from n) e met

-- one word is
pub IsMixed-one : (f : ℕ → ℕ → ℕ) (ws : List ℕ) (beside : ℕ → ℕ) (at value : ℕ) → at < length ws → value ≡ f (get_or ws at 0) (beside at)
    → IsMixed f ws (set ws at value) beside at (at + 1)
IsMixed-one f ws beside at value lt made = record {
  inside = λ k le less.
      let e : at ≡ k = omega arith in
      let here : get_or (set ws at value) at 0 ≡ f (get_or ws at 0) (beside at) = rw get_or-set_same made in
      subst (λ n. get_or (set ws at value) n 0 ≡ f (get_or ws n 0) (beside n)) e here;
  below = λ k less. let ne : k ≢ at = omega arith in rw get_or-set_other refl;
  above = λ k le. let ne : k ≢ at = omega arith in rw get_or-set_other refl;
}

-- four words that were written
IsMixed-put : (f : ℕ → ℕ → ℕ) (ws made : List ℕ) (beside : ℕ → ℕ) (at : ℕ) → at + 4 ≤ length ws → length made ≡ 4
    → ((k : ℕ) → k < 4 → get_or made k 0 ≡ f (get_or ws (at + k) 0) (beside (at + k)))
    → IsMixed f ws (put_chunk at ws made) beside at (at + 4)
IsMixed-put f ws made beside at room long each = record {
  inside = λ k le lt.
      let e : at + (k - at) ≡ k = omega arith in
      let here : get_or (put_chunk at ws made) (at + (k - at)) 0 ≡ f (get_or ws (at + (k - at)) 0) (beside (at + (k - at))) =
      get_or-put_chunk_at at ws made (k - at) 0 (omega arith) (omega arith) ∙ each (k - at) (omega arith) in
      subst (λ n. get_or (put_chunk at ws made) n 0 ≡ f (get_or ws n 0) (beside n)) e here;
  below = λ k lt. get_or-put_chunk_below at ws made k 0 lt;
  above = λ k le. get_or-put_chunk_above at ws made k 0 (omega arith);
}

-- four lanes that were mixed with a block
pub mixed_lanes : (f : ℕ → ℕ → ℕ) (ws block : List ℕ) (at : ℕ) → at + 4 ≤ length ws → length block ≡ 4
    → IsMixed f ws (put_chunk at ws (zip2 f (take 4 (drop at ws)) block)) (λ k. get_or block (k - at) 0) at (at + 4)
mixed_lanes f ws block at room wide =
    let loaded : length (take 4 (drop at ws)) ≡ 4 = length-chunk at 4 ws room in
    IsMixed-put f ws _ (λ k. get_or block (k - at) 0) at room
    (length-zip2 f (take 4 (drop at ws)) block (omega arith) ∙ loaded)
    (λ k lt.
    get_or-zip2 f (take 4 (drop at ws)) block k 0 0 0 (omega arith) (omega arith)
    ∙ ap₂ f (get_or-chunk at 4 ws k 0 lt) (ap (λ m. get_or block m 0) (omega arith)))

-- what a lane has and that of a block has not
lane_without : (ws block : List ℕ) (at k : ℕ) → at + 4 ≤ length ws → length block ≡ 4 → k < 4
    → get_or (zip2 bit_and (take 4 (drop at ws)) (map (bit_not w64) block)) k 0 ≡ without (get_or ws (at + k) 0) (get_or block k 0)
lane_without ws block at k room wide lt =
    let loaded : length (take 4 (drop at ws)) ≡ 4 = length-chunk at 4 ws room in
    let turned : length (map (bit_not w64) block) ≡ 4 = length-map block (bit_not w64) ∙ wide in
    get_or-zip2 bit_and (take 4 (drop at ws)) (map (bit_not w64) block) k 0 0 0 (omega arith) (omega arith)
    ∙ ap₂ bit_and (get_or-chunk at 4 ws k 0 lt) (get_or-map (bit_not w64) block k 0 0 (omega arith))

length-lanes_without : (ws block : List ℕ) (at : ℕ) → at + 4 ≤ length ws → length block ≡ 4
    → length (zip2 bit_and (take 4 (drop at ws)) (map (bit_not w64) block)) ≡ 4
length-lanes_without ws block at room wide =
    let loaded : length (take 4 (drop at ws)) ≡ 4 = length-chunk at 4 ws room in
    let turned : length (map (bit_not w64) block) ≡ 4 = length-map block (bit_not w64) ∙ wide in
    length-zip2 bit_and (take 4 (drop at ws)) (map (bit_not w64) block) (omega arith) ∙ loaded

-- and that a block was taken out of
pub removed_lanes : (ws block : List ℕ) (at : ℕ) → at + 4 ≤ length ws → length block ≡ 4
    → IsMixed without ws (put_chunk at ws (zip2 bit_and (take 4 (drop at ws)) (map (bit_not w64) block))) (λ k. get_or block (k - at) 0) at (at + 4)
removed_lanes ws block at room wide =
    IsMixed-put without ws (zip2 bit_and (take 4 (drop at ws)) (map (bit_not w64) block)) (λ k. get_or block (k - at) 0) at room
    (length-lanes_without ws block at room wide)
    (λ k lt. lane_without ws block at k room wide lt ∙ ap (λ m. without (get_or ws (at + k) 0) (get_or block m 0)) (omega arith))

-- no lane has a bit where all of them together have none
none_from_or : (a : ℕ) (xs : List ℕ) → fold_l bit_or a xs ≡ 0 → (a ≡ 0) × ((k : ℕ) → get_or xs k 0 ≡ 0)
none_from_or a [] e = (e, λ k. get_or_past [] k 0 (omega arith))
none_from_or a (x ∷ xs) e =
    let rest = none_from_or (bit_or a x) xs e in
    let first : bit_or a x ≡ 0 = rest.0 in (
      (let le = le_or_l a x in omega arith),
      at (let le = le_or_r a x in omega arith) rest.1,
    )
  where
    at : x ≡ 0 → ((k : ℕ) → get_or xs k 0 ≡ 0) → (k : ℕ) → get_or (x ∷ xs) k 0 ≡ 0
    at here there zero = here
    at here there (suc k) = there k

or_from_none : (a : ℕ) (xs : List ℕ) → a ≡ 0 → ((k : ℕ) → k < length xs → get_or xs k 0 ≡ 0) → fold_l bit_or a xs ≡ 0
or_from_none a [] e none = e
or_from_none a (x ∷ xs) e none =
    let here : x ≡ 0 = none 0 (omega arith) in
    or_from_none (bit_or a x) xs (ap₂ bit_or e here) (λ k lt. none (suc k) (omega arith))

-- the test of four lanes
pub within_lanes : (ws block : List ℕ) (at : ℕ) → at + 4 ≤ length ws → length block ≡ 4
    → (eqb (fold_l bit_or 0 (zip2 bit_and (take 4 (drop at ws)) (map (bit_not w64) block))) 0 ≡ true) ↔ AllWithin ws (λ k. get_or block (k - at) 0) at (at + 4)
within_lanes ws block at room wide =
    let long : length (zip2 bit_and (take 4 (drop at ws)) (map (bit_not w64) block)) ≡ 4 = length-lanes_without ws block at room wide in (
      λ test k le lt.
          let none = none_from_or 0 (zip2 bit_and (take 4 (drop at ws)) (map (bit_not w64) block)) (eqb-true _ 0 test) in
          let e : at + (k - at) ≡ k = omega arith in
          ap (λ m. without (get_or ws m 0) (get_or block (k - at) 0)) (sym e)
          ∙ sym (lane_without ws block at (k - at) room wide (omega arith)) ∙ none.1 (k - at),
      λ all.
          eq-eqb _ 0 (or_from_none 0 (zip2 bit_and (take 4 (drop at ws)) (map (bit_not w64) block)) refl (λ k lt.
          lane_without ws block at k room wide (omega arith)
          ∙ ap (λ m. without (get_or ws (at + k) 0) (get_or block m 0)) (omega arith)
          ∙ all (at + k) (omega arith) (omega arith))),
    )

-- a whole block further
pub IsMixed-block : (f : ℕ → ℕ → ℕ) (old mid new other : List ℕ) (blocks : List (List ℕ)) (at i : ℕ) → at ≡ 4 * i → i < length other / 4
    → blocks ≡ first_chunks 4 (length other / 4) other
    → IsMixed f old mid (λ k. get_or other k 0) 0 at
    → IsMixed f mid new (λ k. get_or (get_or blocks i []) (k - at) 0) at (at + 4)
    → IsMixed f old new (λ k. get_or other k 0) 0 (at + 4)
IsMixed-block f old mid new other blocks at i place lt are met more =
    IsMixed-more f old mid new (λ k. get_or other k 0) (λ k. get_or (get_or blocks i []) (k - at) 0) 0 at (at + 4) (omega arith) (omega arith) met more
    (λ k le less. block_word other blocks at i k place lt are le less)

-- ---- whole slices
zero_and : (b : ℕ) → bit_and 0 b ≡ 0
zero_and b = let le : bit_and 0 b ≤ 0 = and_le_l 0 b in omega arith

pub and_zero : (a : ℕ) → bit_and a 0 ≡ 0
and_zero a = and_comm a 0 ∙ zero_and a

-- to take no bit out changes nothing
without-zero : (a : ℕ) → a < 2 ^ 64 → without a 0 ≡ a
without-zero a small =
    let turned = and-not 64 0 a (omega arith) small in
    let none = zero_and a in
    let same = and_comm a (bit_not w64 0) in
    omega (arith, turned, none, same)

-- what the kernels share: the words beside are the front of the others, as many as both have
pub record IsBeside (words other front : List ℕ) (shared : ℕ) : Type 0 where
  pub count : shared ≡ min (length words) (length other)
  pub long : length front ≡ shared
  pub same : (k : ℕ) → k < shared → get_or front k 0 ≡ get_or other k 0

-- they are
pub beside_front : (words other : List ℕ) (shared : ℕ) → shared ≡ min (length words) (length other) → IsBeside words other (take shared other) shared
beside_front words other shared e = record {
  count = e;
  long = length-take-le shared other (omega arith);
  same = λ k lt. get_or-take shared other k 0 lt;
}

-- where the words that both have were met, and the words past them are zero, each word was met
pub met_whole : (old mid new other front : List ℕ) (shared : ℕ) → IsBeside old other front shared
    → IsMixed bit_and old mid (λ k. get_or front k 0) 0 (length front)
    → IsMixed bit_and mid new (λ _. 0) shared (length mid) → length mid ≡ length old
    → (k : ℕ) → get_or new k 0 ≡ bit_and (get_or old k 0) (get_or other k 0)
met_whole old mid new other front shared is met zeroed kept k =
    let count = is.count in
    let long = is.long in
    ⊎_elim
    (λ (h : k < shared). zeroed.below k h ∙ met.inside k (omega arith) (omega arith) ∙ ap (bit_and (get_or old k 0)) (is.same k h))
    (λ (h : shared ≤ k). ⊎_elim
    (λ (here : k < length old).
    let past : get_or other k 0 ≡ 0 = get_or_past other k 0 (omega arith) in
    zeroed.inside k h (omega arith) ∙ and_zero (get_or mid k 0) ∙ sym (ap (bit_and (get_or old k 0)) past ∙ and_zero (get_or old k 0)))
    (λ (there : length old ≤ k).
    let past : get_or old k 0 ≡ 0 = get_or_past old k 0 there in
    zeroed.above k (omega arith) ∙ met.above k (omega arith) ∙ past ∙ sym (ap (λ a. bit_and a (get_or other k 0)) past ∙ zero_and (get_or other k 0)))
    (cases_lt k (length old)))
    (cases_lt k shared)

-- where they were taken out, each word was
pub removed_whole : (old new other front : List ℕ) (shared : ℕ) → IsBeside old other front shared
    → IsMixed without old new (λ k. get_or front k 0) 0 (length front)
    → ((k : ℕ) → get_or new k 0 < 2 ^ 64)
    → (k : ℕ) → get_or new k 0 ≡ without (get_or old k 0) (get_or other k 0)
removed_whole old new other front shared is met small k =
    let count = is.count in
    let long = is.long in
    ⊎_elim
    (λ (h : k < shared). met.inside k (omega arith) (omega arith) ∙ ap (without (get_or old k 0)) (is.same k h))
    (λ (h : shared ≤ k). ⊎_elim
    (λ (here : k < length old).
    let past : get_or other k 0 ≡ 0 = get_or_past other k 0 (omega arith) in
    let stays : get_or new k 0 ≡ get_or old k 0 = met.above k (omega arith) in
    let fits : get_or old k 0 < 2 ^ 64 = subst (λ w. w < 2 ^ 64) stays (small k) in
    stays ∙ sym (ap (without (get_or old k 0)) past ∙ without-zero (get_or old k 0) fits))
    (λ (there : length old ≤ k).
    let past : get_or old k 0 ≡ 0 = get_or_past old k 0 there in
    met.above k (omega arith) ∙ past ∙ sym (ap (λ a. without a (get_or other k 0)) past ∙ zero_and (bit_not w64 (get_or other k 0))))
    (cases_lt k (length old)))
    (cases_lt k shared)

-- where they were joined, each word that there is was
pub joined_whole : (old new other front : List ℕ) (shared : ℕ) → IsBeside old other front shared
    → IsMixed bit_or old new (λ k. get_or front k 0) 0 (length front)
    → (k : ℕ) → k < length old → get_or new k 0 ≡ bit_or (get_or old k 0) (get_or other k 0)
joined_whole old new other front shared is joined k lt =
    let count = is.count in
    let long = is.long in
    ⊎_elim
    (λ (h : k < shared). joined.inside k (omega arith) (omega arith) ∙ ap (bit_or (get_or old k 0)) (is.same k h))
    (λ (h : shared ≤ k).
    let past : get_or other k 0 ≡ 0 = get_or_past other k 0 (omega arith) in
    joined.above k (omega arith) ∙ sym (ap (bit_or (get_or old k 0)) past ∙ or_zero_r (get_or old k 0)))
    (cases_lt k shared)

-- where the front was copied and the rest are zeros, each word that there is was
pub copied_whole : (old new other : List ℕ) (shared : ℕ) → shared ≡ min (length old) (length other)
    → IsMixed bit_and (take shared other ++ drop shared old) new (λ _. 0) shared (length (take shared other ++ drop shared old))
    → (k : ℕ) → k < length old → get_or new k 0 ≡ get_or other k 0
copied_whole old new other shared e zeroed k lt =
    let front : length (take shared other) ≡ shared = length-take-le shared other (omega arith) in
    let long = length-append (take shared other) (drop shared old) in
    let rest = length-drop shared old in
    ⊎_elim
    (λ (h : k < shared). zeroed.below k h ∙ get_or_append_left (take shared other) (drop shared old) 0 k (omega arith) ∙ get_or-take shared other k 0 h)
    (λ (h : shared ≤ k). zeroed.inside k h (omega arith) ∙ and_zero (get_or (take shared other ++ drop shared old) k 0) ∙ sym (get_or_past other k 0 (omega arith)))
    (cases_lt k shared)

-- and there are no more
pub copied_past : (old new other : List ℕ) (shared : ℕ) → shared ≡ min (length old) (length other)
    → IsMixed bit_and (take shared other ++ drop shared old) new (λ _. 0) shared (length (take shared other ++ drop shared old))
    → (k : ℕ) → length old ≤ k → get_or new k 0 ≡ 0
copied_past old new other shared e zeroed k le =
    let front : length (take shared other) ≡ shared = length-take-le shared other (omega arith) in
    let long = length-append (take shared other) (drop shared old) in
    let rest = length-drop shared old in
    zeroed.above k (omega arith) ∙ get_or_past (take shared other ++ drop shared old) k 0 (omega arith)

pub has_bit-copied : (old new other : List ℕ) → ((k : ℕ) → k < length old → get_or new k 0 ≡ get_or other k 0) → ((k : ℕ) → length old ≤ k → get_or new k 0 ≡ 0)
    → (k : ℕ) → has_bit k new ≡ (nat_lt (k / 64) (length old) && has_bit k other)
unfolding has_bit
has_bit-copied old new other same none k =
    ⊎_elim
    (λ (h : k / 64 < length old).
    let test : nat_lt (k / 64) (length old) ≡ true = lt-ltb (k / 64) (length old) h in
    rw test (ap (λ w. eqb (bit_at w (k % 64)) 1) (same (k / 64) h)))
    (λ (h : length old ≤ k / 64).
    let test : nat_lt (k / 64) (length old) ≡ false = le-ltb (k / 64) (length old) h in
    rw test (ap (λ w. eqb (bit_at w (k % 64)) 1) (none (k / 64) h) ∙ ap (λ b. eqb b 1) (bit_at-zero (k % 64))))
    (cases_lt (k / 64) (length old))

-- words whose front is within: the test of the others tests them all
pub within_whole : (words other front : List ℕ) (shared at : ℕ) (b : Bool) → IsBeside words other front shared → at ≤ shared
    → AllWithin words (λ k. get_or front k 0) 0 at → (b ≡ true) ↔ AllWithin words (λ k. get_or other k 0) at (length words)
    → (b ≡ true) ↔ ((k : ℕ) → without (get_or words k 0) (get_or other k 0) ≡ 0)
within_whole words other front shared at b is le front_is rest = (
  λ h k. ⊎_elim
      (λ (lt : k < at). ap (without (get_or words k 0)) (sym (is.same k (omega arith))) ∙ front_is k (omega arith) lt)
      (λ (after : at ≤ k). ⊎_elim
      (λ (here : k < length words). rest.0 h k after here)
      (λ (past : length words ≤ k). ap (λ a. without a (get_or other k 0)) (get_or_past words k 0 past) ∙ zero_and (bit_not w64 (get_or other k 0)))
      (cases_lt k (length words)))
      (cases_lt k at),
  λ all. rest.1 (λ k low high. all k),
)

-- and words whose front is not: they are not
pub not_within_whole : (words other front : List ℕ) (shared : ℕ) → IsBeside words other front shared
    → ¬ (AllWithin words (λ k. get_or front k 0) 0 (length front))
    → ((k : ℕ) → without (get_or words k 0) (get_or other k 0) ≡ 0) → ⊥
not_within_whole words other front shared is not_front all =
    let long = is.long in
    not_front (λ k low lt. ap (without (get_or words k 0)) (is.same k (omega arith)) ∙ all k)

-- two lists of words, word by word
words_met : (a b : List ℕ) → length a ≡ length b → (k : ℕ) → get_or (zip2 bit_and a b) k 0 ≡ bit_and (get_or a k 0) (get_or b k 0)
words_met a b same k =
    let long = length-zip2 bit_and a b same in
    ⊎_elim
    (λ (h : k < length a). get_or-zip2 bit_and a b k 0 0 0 h (omega arith))
    (λ (h : length a ≤ k).
    let none : get_or a k 0 ≡ 0 = get_or_past a k 0 h in
    get_or_past (zip2 bit_and a b) k 0 (omega arith) ∙ sym (ap (λ w. bit_and w (get_or b k 0)) none ∙ zero_and (get_or b k 0)))
    (cases_lt k (length a))

words_without : (a b : List ℕ) → length a ≡ length b → (k : ℕ) → get_or (zip2 bit_and a (map (bit_not w64) b)) k 0 ≡ without (get_or a k 0) (get_or b k 0)
words_without a b same k =
    let turned : length (map (bit_not w64) b) ≡ length b = length-map b (bit_not w64) in
    words_met a (map (bit_not w64) b) (same ∙ sym turned) k
    ∙ ⊎_elim
    (λ (h : k < length a). ap (bit_and (get_or a k 0)) (get_or-map (bit_not w64) b k 0 0 (omega arith)))
    (λ (h : length a ≤ k).
    let none : get_or a k 0 ≡ 0 = get_or_past a k 0 h in
    ap (λ w. bit_and w (get_or (map (bit_not w64) b) k 0)) none ∙ zero_and (get_or (map (bit_not w64) b) k 0)
    ∙ sym (ap (λ w. without w (get_or b k 0)) none ∙ zero_and (bit_not w64 (get_or b k 0))))
    (cases_lt k (length a))

-- the first 64 of 64 words are all of them
all_taken : (ws : List ℕ) → length ws ≡ 64 → (k : ℕ) → get_or (take 64 ws) k 0 ≡ get_or ws k 0
all_taken ws long k =
    let front : length (take 64 ws) ≡ 64 = length-take-le 64 ws (omega arith) in
    ⊎_elim
    (λ (h : k < 64). get_or-take 64 ws k 0 h)
    (λ (h : 64 ≤ k). get_or_past (take 64 ws) k 0 (omega arith) ∙ sym (get_or_past ws k 0 (omega arith)))
    (cases_lt k 64)

-- 64 words that were all written
all_put : (ws made : List ℕ) → length ws ≡ 64 → length made ≡ 64 → (k : ℕ) → get_or (put_chunk 0 ws made) k 0 ≡ get_or made k 0
all_put ws made long same k =
    ⊎_elim
    (λ (h : k < 64).
    let e : 0 + k ≡ k = omega arith in
    ap (λ m. get_or (put_chunk 0 ws made) m 0) (sym e) ∙ get_or-put_chunk_at 0 ws made k 0 (omega arith) (omega arith))
    (λ (h : 64 ≤ k). get_or-put_chunk_above 0 ws made k 0 (omega arith) ∙ get_or_past ws k 0 (omega arith) ∙ sym (get_or_past made k 0 (omega arith)))
    (cases_lt k 64)

-- 64 words that were met with 64 others
pub all_met : (ws other : List ℕ) → length ws ≡ 64 → length other ≡ 64
    → (k : ℕ) → get_or (put_chunk 0 ws (zip2 bit_and (take 64 ws) (take 64 other))) k 0 ≡ bit_and (get_or ws k 0) (get_or other k 0)
all_met ws other long beside k =
    let front : length (take 64 ws) ≡ 64 = length-take-le 64 ws (omega arith) in
    let others : length (take 64 other) ≡ 64 = length-take-le 64 other (omega arith) in
    let made : length (zip2 bit_and (take 64 ws) (take 64 other)) ≡ 64 = length-zip2 bit_and (take 64 ws) (take 64 other) (omega arith) ∙ front in
    all_put ws (zip2 bit_and (take 64 ws) (take 64 other)) long made k
    ∙ words_met (take 64 ws) (take 64 other) (omega arith) k
    ∙ ap₂ bit_and (all_taken ws long k) (all_taken other beside k)

-- what is in 64 words and not in 64 others
all_without : (ws other : List ℕ) → length ws ≡ 64 → length other ≡ 64
    → (k : ℕ) → get_or (zip2 bit_and (take 64 ws) (map (bit_not w64) (take 64 other))) k 0 ≡ without (get_or ws k 0) (get_or other k 0)
all_without ws other long beside k =
    let front : length (take 64 ws) ≡ 64 = length-take-le 64 ws (omega arith) in
    let others : length (take 64 other) ≡ 64 = length-take-le 64 other (omega arith) in
    words_without (take 64 ws) (take 64 other) (omega arith) k ∙ ap₂ without (all_taken ws long k) (all_taken other beside k)

-- 64 words that 64 others were taken out of
pub all_removed : (ws other : List ℕ) → length ws ≡ 64 → length other ≡ 64
    → (k : ℕ) → get_or (put_chunk 0 ws (zip2 bit_and (take 64 ws) (map (bit_not w64) (take 64 other)))) k 0 ≡ without (get_or ws k 0) (get_or other k 0)
all_removed ws other long beside k =
    let front : length (take 64 ws) ≡ 64 = length-take-le 64 ws (omega arith) in
    let others : length (take 64 other) ≡ 64 = length-take-le 64 other (omega arith) in
    let turned : length (map (bit_not w64) (take 64 other)) ≡ 64 = length-map (take 64 other) (bit_not w64) ∙ others in
    let made : length (zip2 bit_and (take 64 ws) (map (bit_not w64) (take 64 other))) ≡ 64 = length-zip2 bit_and (take 64 ws) (map (bit_not w64) (take 64 other)) (omega arith) ∙ front in
    all_put ws (zip2 bit_and (take 64 ws) (map (bit_not w64) (take 64 other))) long made k
    ∙ all_without ws other long beside k

-- the test of 64 words and 64 others
pub all_within : (ws other : List ℕ) → length ws ≡ 64 → length other ≡ 64
    → (eqb (fold_l bit_or 0 (zip2 bit_and (take 64 ws) (map (bit_not w64) (take 64 other)))) 0 ≡ true) ↔ ((k : ℕ) → without (get_or ws k 0) (get_or other k 0) ≡ 0)
all_within ws other long beside = (
  λ test k. sym (all_without ws other long beside k) ∙ (none_from_or 0 (zip2 bit_and (take 64 ws) (map (bit_not w64) (take 64 other))) (eqb-true _ 0 test)).1 k,
  λ all. eq-eqb _ 0 (or_from_none 0 (zip2 bit_and (take 64 ws) (map (bit_not w64) (take 64 other))) refl (λ k lt. all_without ws other long beside k ∙ all k)),
)

-- ---- bits
-- the test of the code
pub has_bit-tested : (words : List ℕ) (n : ℕ) → eqb (bit_and (get_or words (n / 64) 0 / 2 ^ (n % 64)) 1) 1 ≡ has_bit n words
unfolding has_bit
has_bit-tested words n = ap (λ b. eqb b 1) (shr_and_one (get_or words (n / 64) 0) (n % 64))

-- no bit of zeros
pub has_bit-zeros : (n k : ℕ) → has_bit k (replicate n 0) ≡ false
unfolding has_bit
has_bit-zeros n k = ap (λ w. eqb (bit_at w (k % 64)) 1) (zeros n (k / 64)) ∙ ap (λ b. eqb b 1) (bit_at-zero (k % 64))
  where
    zeros : (m i : ℕ) → get_or (replicate m zero) i zero ≡ zero
    zeros zero i = refl
    zeros (suc m) zero = refl
    zeros (suc m) (suc i) = zeros m i

-- another bit than n, if a word was written that differs in bit n alone
other_bit : (words : List ℕ) (n k made : ℕ) → (k ≡ n → ⊥)
    → ((i : ℕ) → i < 64 → i ≢ n % 64 → bit_at made i ≡ bit_at (get_or words (n / 64) 0) i)
    → eqb (bit_at (get_or (set words (n / 64) made) (k / 64) 0) (k % 64)) 1 ≡ eqb (bit_at (get_or words (k / 64) 0) (k % 64)) 1
other_bit words n k made ne same =
    ⊎_elim
    (λ (e : k / 64 ≡ n / 64).
    let other : k % 64 ≢ n % 64 = λ bit. ne (omega arith) in
    ⊎_elim
    (λ (lt : n / 64 < length words).
    ap (λ m. eqb (bit_at (get_or (set words (n / 64) made) m 0) (k % 64)) 1) e
    ∙ ap (λ w. eqb (bit_at w (k % 64)) 1) (get_or-set_same words (n / 64) made 0 lt)
    ∙ ap (λ b. eqb b 1) (same (k % 64) (omega arith) other)
    ∙ ap (λ m. eqb (bit_at (get_or words m 0) (k % 64)) 1) (sym e))
    (λ (past : length words ≤ n / 64).
    ap (λ w. eqb (bit_at w (k % 64)) 1) (get_or_past (set words (n / 64) made) (k / 64) 0 (omega (arith, length-set words (n / 64) made)) ∙ sym (get_or_past words (k / 64) 0 (omega arith))))
    (cases_lt (n / 64) (length words)))
    (λ (apart : k / 64 ≡ n / 64 → ⊥). ap (λ w. eqb (bit_at w (k % 64)) 1) (get_or-set_other words (n / 64) (k / 64) made 0 apart))
    (cases_eq (k / 64) (n / 64))

-- bit n is set
pub has_bit-set : (words : List ℕ) (n k : ℕ) → n / 64 < length words
    → has_bit k (set words (n / 64) (bit_or (get_or words (n / 64) 0) (1 * 2 ^ (n % 64) % 2 ^ 64))) ≡ (eqb k n || has_bit k words)
unfolding has_bit
has_bit-set words n k lt =
    let made = bit_or (get_or words (n / 64) 0) (1 * 2 ^ (n % 64) % 2 ^ 64) in
    ⊎_elim
    (λ (e : k ≡ n).
    let test : eqb k n ≡ true = eq-eqb k n e in
    ap (λ (p : ℕ). eqb (bit_at (get_or (set words (n / 64) made) (p / 64) 0) (p % 64)) 1) e
    ∙ ap (λ w. eqb (bit_at w (n % 64)) 1) (get_or-set_same words (n / 64) made 0 lt)
    ∙ ap (λ b. eqb b 1) (bit_at_set_same w64 (get_or words (n / 64) 0) (n % 64) (omega arith))
    ∙ sym (ap (λ b. b || eqb (bit_at (get_or words (k / 64) 0) (k % 64)) 1) test))
    (λ (ne : k ≡ n → ⊥).
    let test : eqb k n ≡ false = ne_eqb k n ne in
    other_bit words n k made ne (λ i lt' other. bit_at_set_other w64 (get_or words (n / 64) 0) (n % 64) (omega arith) i other)
    ∙ sym (ap (λ b. b || eqb (bit_at (get_or words (k / 64) 0) (k % 64)) 1) test))
    (cases_eq k n)

-- and unset
pub has_bit-unset : (words : List ℕ) (n k : ℕ) → n / 64 < length words
    → has_bit k (set words (n / 64) (bit_and (get_or words (n / 64) 0) (bit_not w64 (1 * 2 ^ (n % 64) % 2 ^ 64)))) ≡ (not (eqb k n) && has_bit k words)
unfolding has_bit
has_bit-unset words n k lt =
    let made = bit_and (get_or words (n / 64) 0) (bit_not w64 (1 * 2 ^ (n % 64) % 2 ^ 64)) in
    ⊎_elim
    (λ (e : k ≡ n).
    let test : eqb k n ≡ true = eq-eqb k n e in
    ap (λ (p : ℕ). eqb (bit_at (get_or (set words (n / 64) made) (p / 64) 0) (p % 64)) 1) e
    ∙ ap (λ w. eqb (bit_at w (n % 64)) 1) (get_or-set_same words (n / 64) made 0 lt)
    ∙ ap (λ b. eqb b 1) (bit_at_clear_same w64 (get_or words (n / 64) 0) (n % 64) (omega arith))
    ∙ sym (ap (λ b. not b && eqb (bit_at (get_or words (k / 64) 0) (k % 64)) 1) test))
    (λ (ne : k ≡ n → ⊥).
    let test : eqb k n ≡ false = ne_eqb k n ne in
    other_bit words n k made ne (λ i lt' other. bit_at_clear_other w64 (get_or words (n / 64) 0) (n % 64) (omega arith) i lt' other)
    ∙ sym (ap (λ b. not b && eqb (bit_at (get_or words (k / 64) 0) (k % 64)) 1) test))
    (cases_eq k n)

-- a bit of a word is 0 or 1
bit_min : (a b : ℕ) → a < 2 → b < 2 → eqb (min a b) 1 ≡ (eqb b 1 && eqb a 1)
bit_min zero zero p q = refl
bit_min zero (suc zero) p q = refl
bit_min (suc zero) zero p q = refl
bit_min (suc zero) (suc zero) p q = refl
bit_min (suc (suc a)) b p q = absurd (omega arith)
bit_min zero (suc (suc b)) p q = absurd (omega arith)
bit_min (suc zero) (suc (suc b)) p q = absurd (omega arith)

bit_less : (a b : ℕ) → a < 2 → b < 2 → eqb (min a (1 - b)) 1 ≡ (not (eqb b 1) && eqb a 1)
bit_less zero zero p q = refl
bit_less zero (suc zero) p q = refl
bit_less (suc zero) zero p q = refl
bit_less (suc zero) (suc zero) p q = refl
bit_less (suc (suc a)) b p q = absurd (omega arith)
bit_less zero (suc (suc b)) p q = absurd (omega arith)
bit_less (suc zero) (suc (suc b)) p q = absurd (omega arith)

-- the bits of words that were met
pub has_bit-met : (old new other : List ℕ) → ((k : ℕ) → get_or new k 0 ≡ bit_and (get_or old k 0) (get_or other k 0))
    → (k : ℕ) → has_bit k new ≡ (has_bit k other && has_bit k old)
unfolding has_bit
has_bit-met old new other met k =
    let a = get_or old (k / 64) 0 in
    let b = get_or other (k / 64) 0 in
    ap (λ w. eqb (bit_at w (k % 64)) 1) (met (k / 64))
    ∙ ap (λ v. eqb v 1) (bit_at_and a b (k % 64))
    ∙ bit_min (bit_at a (k % 64)) (bit_at b (k % 64)) (bit_at-lt a (k % 64)) (bit_at-lt b (k % 64))

bit_max : (a b : ℕ) → a < 2 → b < 2 → eqb (max a b) 1 ≡ (eqb b 1 || eqb a 1)
bit_max zero zero p q = refl
bit_max zero (suc zero) p q = refl
bit_max (suc zero) zero p q = refl
bit_max (suc zero) (suc zero) p q = refl
bit_max (suc (suc a)) b p q = absurd (omega arith)
bit_max zero (suc (suc b)) p q = absurd (omega arith)
bit_max (suc zero) (suc (suc b)) p q = absurd (omega arith)

-- of words that were joined
pub has_bit-joined : (old new other : List ℕ) → ((k : ℕ) → k < length old → get_or new k 0 ≡ bit_or (get_or old k 0) (get_or other k 0))
    → (k : ℕ) → k / 64 < length old → has_bit k new ≡ (has_bit k other || has_bit k old)
unfolding has_bit
has_bit-joined old new other joined k lt =
    let a = get_or old (k / 64) 0 in
    let b = get_or other (k / 64) 0 in
    ap (λ w. eqb (bit_at w (k % 64)) 1) (joined (k / 64) lt)
    ∙ ap (λ v. eqb v 1) (bit_at_or a b (k % 64))
    ∙ bit_max (bit_at a (k % 64)) (bit_at b (k % 64)) (bit_at-lt a (k % 64)) (bit_at-lt b (k % 64))

bit_at_without : (a b i : ℕ) → b < 2 ^ 64 → i < 64 → bit_at (without a b) i ≡ min (bit_at a i) (1 - bit_at b i)
bit_at_without a b i small lt = bit_at_and a (bit_not w64 b) i ∙ ap (min (bit_at a i)) (bit_at_not w64 b i small lt)

-- and of words that others were taken out of
pub has_bit-removed : (old new other : List ℕ) → ((k : ℕ) → get_or other k 0 < 2 ^ 64)
    → ((k : ℕ) → get_or new k 0 ≡ without (get_or old k 0) (get_or other k 0))
    → (k : ℕ) → has_bit k new ≡ (not (has_bit k other) && has_bit k old)
unfolding has_bit
has_bit-removed old new other small removed k =
    let a = get_or old (k / 64) 0 in
    let b = get_or other (k / 64) 0 in
    ap (λ w. eqb (bit_at w (k % 64)) 1) (removed (k / 64))
    ∙ ap (λ v. eqb v 1) (bit_at_without a b (k % 64) (small (k / 64)) (omega arith))
    ∙ bit_less (bit_at a (k % 64)) (bit_at b (k % 64)) (bit_at-lt a (k % 64)) (bit_at-lt b (k % 64))

-- a set bit of words that are within others
pub has_bit-from_within : (words other : List ℕ) → ((k : ℕ) → get_or other k 0 < 2 ^ 64)
    → ((k : ℕ) → without (get_or words k 0) (get_or other k 0) ≡ 0)
    → (k : ℕ) → has_bit k words ≡ true → has_bit k other ≡ true
unfolding has_bit
has_bit-from_within words other small within k there =
    let a = get_or words (k / 64) 0 in
    let b = get_or other (k / 64) 0 in
    let none : bit_at (without a b) (k % 64) ≡ 0 = ap (λ w. bit_at w (k % 64)) (within (k / 64)) ∙ bit_at-zero (k % 64) in
    let split = bit_at_without a b (k % 64) (small (k / 64)) (omega arith) in
    let one : bit_at a (k % 64) ≡ 1 = eqb-true _ 1 there in
    let low = bit_at-lt b (k % 64) in
    eq-eqb (bit_at b (k % 64)) 1 (omega arith)

-- words whose set bits are set in others
pub without-from_bits : (words other : List ℕ) → ((k : ℕ) → get_or words k 0 < 2 ^ 64) → ((k : ℕ) → get_or other k 0 < 2 ^ 64)
    → ((k : ℕ) → has_bit k words ≡ true → has_bit k other ≡ true)
    → (k : ℕ) → without (get_or words k 0) (get_or other k 0) ≡ 0
unfolding has_bit
without-from_bits words other small narrow bits k =
    let a = get_or words k 0 in
    let b = get_or other k 0 in
    let le : without a b ≤ a = and_le_l a (bit_not w64 b) in
    let few = small k in
    same_from_bits_below 64 (without a b) 0 (omega arith) (omega arith) (λ i lt.
    let place : (k * 64 + i) / 64 ≡ k = omega arith in
    let bit : (k * 64 + i) % 64 ≡ i = omega arith in
    let is : eqb (bit_at a i) 1 ≡ true → eqb (bit_at b i) 1 ≡ true =
    subst (λ (p : ℕ × ℕ). eqb (bit_at (get_or words p.0 0) p.1) 1 ≡ true → eqb (bit_at (get_or other p.0 0) p.1) 1 ≡ true) (ap₂ (λ x y. (x, y)) place bit) (bits (k * 64 + i)) in
    let one = bit_at-lt a i in
    let two = bit_at-lt b i in
    bit_at_without a b i (narrow k) lt ∙ gone (bit_at a i) (bit_at b i) one two is ∙ sym (bit_at-zero i))
  where
    gone : (x y : ℕ) → x < 2 → y < 2 → (eqb x 1 ≡ true → eqb y 1 ≡ true) → min x (1 - y) ≡ 0
    gone zero y p q h = omega arith
    gone (suc zero) zero p q h = let no_one : false ≡ true = h refl in cc
    gone (suc zero) (suc zero) p q h = refl
    gone (suc zero) (suc (suc y)) p q h = absurd (omega arith)
    gone (suc (suc x)) y p q h = absurd (omega arith)

-- ---- within
-- the same test, of bits
pub bits_within : (words other : List ℕ) (b : Bool) → ((k : ℕ) → get_or words k 0 < 2 ^ 64) → ((k : ℕ) → get_or other k 0 < 2 ^ 64)
    → (b ≡ true) ↔ ((k : ℕ) → without (get_or words k 0) (get_or other k 0) ≡ 0)
    → (b ≡ true) ↔ ((k : ℕ) → has_bit k words ≡ true → has_bit k other ≡ true)
bits_within words other b small narrow test = (
  λ h. has_bit-from_within words other narrow (test.0 h),
  λ bits. test.1 (without-from_bits words other small narrow bits),
)

-- what is within a piece and what is after it
pub AllWithin-more : (words : List ℕ) (beside here : ℕ → ℕ) (from at to : ℕ) → AllWithin words beside from at → AllWithin words here at to
    → ((k : ℕ) → at ≤ k → k < to → here k ≡ beside k) → AllWithin words beside from to
AllWithin-more words beside here from at to front more same k le lt =
    ⊎_elim
    (λ (h : k < at). front k le h)
    (λ (h : at ≤ k). ap (without (get_or words k 0)) (sym (same k h lt)) ∙ more k h lt)
    (cases_lt k at)
