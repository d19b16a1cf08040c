pub mod Syntax
pub mod Trees
pub mod Words
