pub mod Knowing
pub mod Walks
pub mod Statics
pub mod Claims
