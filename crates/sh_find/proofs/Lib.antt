pub mod GreatestLemmas
pub mod FillLemmas
