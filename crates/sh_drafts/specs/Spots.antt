-- The places that the flow rules speak of, as the code finds them.
-- The standard has no such thing: what is surely set (XCU 2.5) round each command and each
-- function.
use Rattle.sh_drafts.specs.declared.place.Place.{Place}
use Rattle.sh_drafts.specs.declared.spot.Spot.{Spot}
use Rattle.sh_drafts.specs.Places.{at}

abbrev pub place_at : Spot → Place
place_at s = at s.part s.index
