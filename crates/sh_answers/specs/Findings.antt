-- The findings of places.
-- shset's own; the standard has none.
use Rattle.std.specs.Prelude.{ℕ, List, map}
use Rattle.std.specs.List.Sorted.{IsPermutation, IsSortedByKey}
use Rattle.sh_tree.specs.declared.place.Place.{Place}
use Rattle.sh_scan.specs.Places.{place_of}
use Rattle.sh_answers.specs.Verdicts.{Contents, contents_of, contents_cmp}
use Rattle.sh_answers.specs.declared.verdict.Finding.{Finding}

-- the finding of a place, at its line and column
abbrev pub contents_at : List ℕ → Place → Contents
contents_at b p = let q = place_of b p.at in record { line = q.0; column = q.1; code = p.code; subject = p.subject }

-- the findings are those of the places, each once, in order
pub record AreFindings (b : List ℕ) (ps : List Place) (fs : List Finding) : Type 0 where
  pub same : IsPermutation (map (contents_at b) ps) (map contents_of fs)
  pub sorted : IsSortedByKey contents_of contents_cmp fs
