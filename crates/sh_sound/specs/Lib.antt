pub mod Fields
pub mod Holding
pub mod Going
pub mod Sharing
pub mod Theorem
pub mod Doing
