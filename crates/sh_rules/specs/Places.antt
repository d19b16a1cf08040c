-- The places of which a certificate claims something, as the code has them.
-- The standard has no such thing: what is surely set (XCU 2.5) round each command and each
-- function.
use Rattle.sh_tree.specs.standard.Tree.{text_of}
use Rattle.sh_tree.specs.standard.program.Syntax.{Text}
use Rattle.sh_domain.specs.Views.{Slot}
use Rattle.sh_domain.specs.Views as slot
use Rattle.sh_rules.specs.declared.place.Place.{Place}
use Rattle.sh_rules.specs.declared.place.Place.TheVariants as place

abbrev pub slot_of : Text → Place → Slot
slot_of b (place.Before n) = slot.Before n
slot_of b (place.Zero n) = slot.AfterZero n
slot_of b (place.Nonzero n) = slot.AfterNonzero n
slot_of b (place.Head n) = slot.Head n
slot_of b (place.Entry f) = slot.Entry f.now
slot_of b (place.ReturnZero f) = slot.ReturnsZero (text_of b f)
slot_of b (place.ReturnNonzero f) = slot.ReturnsNonzero (text_of b f)
