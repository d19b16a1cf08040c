pub mod Answers
pub mod Accepted
