pub mod Changes
pub mod Equations
pub mod Falls
pub mod Heads
pub mod Ways
