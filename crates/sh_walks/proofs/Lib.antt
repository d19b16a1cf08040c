pub mod LoneLemmas
pub mod SettledLemmas
