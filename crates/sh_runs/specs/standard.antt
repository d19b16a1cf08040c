pub mod Kinds
pub mod runs
