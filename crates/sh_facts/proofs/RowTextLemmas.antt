-- The names of a row that there is not.
use Rattle.std.proofs.Common.{◌≡◌, ℕ, None, List, [], ◌∷◌, slice_get, refl}
use Rattle.sh_tree.specs.standard.program.Syntax.{Text}
use Rattle.sh_domain.specs.declared.rows.RowId.{RowId}
use Rattle.sh_domain.specs.Certificates.{names_at}
use Rattle.sh_domain.specs.KeptRows.{KeptRows}
use Rattle.sh_domain.proofs.RowLemmas.{no_bits}

pub none_named : (rows : KeptRows) (id : RowId) → slice_get rows.rows id.index ≡ None → (order : List (ℕ × Text)) → names_at order rows id ≡ []
none_named rows id e [] = refl
none_named rows id e (x ∷ xs) = rw (no_bits rows.rows id.index e x.0) (none_named rows id e xs)
