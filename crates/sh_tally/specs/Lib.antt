pub mod Counts
pub mod Tallies
pub mod Views
pub mod Walks
