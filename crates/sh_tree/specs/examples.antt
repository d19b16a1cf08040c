pub mod Commands
pub mod Documents
pub mod Language
pub mod Limits
pub mod Program
pub mod Unread
pub mod Words
