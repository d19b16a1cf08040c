pub mod Texts
pub mod Looks
pub mod Fields
pub mod Meaning
