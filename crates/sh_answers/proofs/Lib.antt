pub mod CleanLemmas
pub mod MoveLemmas
pub mod TextLemmas
