pub mod TextLemmas
pub mod LookLemmas
pub mod FieldLemmas
pub mod MeaningLemmas
