pub mod Bits
pub mod Calls
pub mod Flags
pub mod Places
pub mod Units
pub mod Waiting
