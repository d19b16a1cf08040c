-- Lists and texts.
use Rattle.std.proofs.Common.{◌≡◌, ℕ, true, List, refl}
use Rattle.std.specs.Str.{bytes_eq}
use Rattle.std.proofs.lemmas.Slice.Eq.{bytes_eq-Decides}

pub text_same : (t : List ℕ) → bytes_eq t t ≡ true
text_same t = (bytes_eq-Decides t t).1 refl
