-- Clauses of private functions: rows that are kept of another certificate's.
-- The standard has no such thing: rows of the numbers of names.
use Rattle.std.specs.Prelude.{◌≡◌}
use Rattle.sh_domain.specs.KeptRows.{KeptRows, Stay}

-- rows are added; what is said of these rows is so of all rows that have them in their places
pub record Keeps (old new : KeptRows) (Says : KeptRows → Type 0) : Type 0 where
  pub count : new.count ≡ old.count
  pub stay : Stay old.rows new.rows
  pub lasting : (later : KeptRows) → Stay new.rows later.rows → Says later
