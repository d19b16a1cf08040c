pub mod Ends
pub mod Moves
pub mod Verdicts
pub mod Texts
pub mod Findings
