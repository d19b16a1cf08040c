pub mod formers
pub mod standard
pub mod Answers
pub mod Commands
pub mod Fronts
pub mod Lists
pub mod examples
