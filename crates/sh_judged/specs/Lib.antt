pub mod Prepared
pub mod Told
pub mod Judged
