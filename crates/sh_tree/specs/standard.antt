pub mod Texts
pub mod Tree
pub mod Words
pub mod language
pub mod program
