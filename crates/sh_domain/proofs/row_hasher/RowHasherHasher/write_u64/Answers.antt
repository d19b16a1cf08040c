use Rattle.std.proofs.Common.{◌≡◌, ◌∙◌, ℕ, sym, ap, arith}
use Rattle.std.proofs.lemmas.Nat.{from_le_bytes-to_le_bytes_8}
use Rattle.std.specs.Hash.{le_bytes}
use Rattle.sh_domain.specs.RowHash.{mixed, word_of}
use Rattle.sh_domain.proofs.row_hasher.RowHasherHasher.write_u64.Goals as goal

pub returns : goal.returns
unfolding word_of le_bytes
returns c =
    let is : word_of (le_bytes 8 c.args.word) ≡ c.args.word = from_le_bytes-to_le_bytes_8 c.args.word (omega (arith, c.ranges.word.fits)) in
    ap (λ (state : ℕ). record { state = state }) (c.mixed-self.ensures ∙ ap (λ word. mixed c.args.self.now.state word) (sym is))
