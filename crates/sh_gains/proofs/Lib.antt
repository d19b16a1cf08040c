pub mod KnowingLemmas
pub mod GainLemmas
pub mod LocatedLemmas
pub mod DefinedLemmas
pub mod TextLemmas
pub mod KindLemmas
pub mod SightLemmas
