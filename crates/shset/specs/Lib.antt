pub mod Endings
pub mod Sources
