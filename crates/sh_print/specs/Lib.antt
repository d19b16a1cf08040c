pub mod Bare
pub mod Trees
pub mod Layout
pub mod Lists
pub mod Pending
pub mod Same
pub mod examples
