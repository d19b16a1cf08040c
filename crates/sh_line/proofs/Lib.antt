pub mod LineLemmas
pub mod LineRowLemmas
pub mod LineWholeLemmas
