-- What a `RowHasher` computes: shset's own; the standard has none.
use Rattle.std.specs.Prelude.{ℕ, ◌==◌, List, [], ◌∷◌, length, if◌then◌else◌, slice_index, bit_xor}
use Rattle.std.specs.Hash.FoldHasher as default
use Rattle.std.specs.Int.{w64, from_le_bytes, rotate_left}

-- eight bytes are a word, the lowest first, and others the default hash of them
unfoldable pub word_of : List ℕ → ℕ
word_of bs =
    if length bs == 8 then from_le_bytes w64 (slice_index bs 0 ∷ slice_index bs 1 ∷ slice_index bs 2 ∷ slice_index bs 3 ∷ slice_index bs 4 ∷ slice_index bs 5 ∷ slice_index bs 6 ∷ slice_index bs 7 ∷ [])
    else default.finish (default.write default.initial bs)

-- the state after a word: that of the default hash, and the state before it turned
unfoldable pub mixed : ℕ → ℕ → ℕ
mixed state word = bit_xor (default.folded_multiply (bit_xor state word) 0x9e37_79b9_7f4a_7c15) (rotate_left w64 state 23)
