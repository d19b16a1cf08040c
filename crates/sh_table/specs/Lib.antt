pub mod Admits
pub mod Walks
pub mod Found
pub mod KeptTable
pub mod WordTexts
pub mod Numerals
